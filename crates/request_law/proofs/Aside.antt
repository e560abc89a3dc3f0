-- A message of the one way changes nothing of the other.
use Rattle.std.proofs.Common.{◌≡◌, ℕ, Bool, true, false, List, [], ◌∷◌, ◌++◌, Option, Some, None, if◌then◌else◌, refl, sym, subst, ◌∙◌}
use Rattle.std.specs.Prelude.{◌==◌}
use Rattle.charlotte_calls.specs.declared.names.EndId.{EndId}
use Rattle.lynx_packets.specs.declared.packet.RtPacket.{RtPacket}
use Rattle.lynx_packets.specs.declared.packet.RtPacket.TheVariants as packets
use Rattle.lynx_packets.specs.declared.value.RtValue.{RtValue}
use Rattle.end_protocol.specs.declared.hearing.Heard.{Heard}
use Rattle.end_protocol.specs.declared.hearing.Heard.TheVariants as heard
use Rattle.end_protocol.specs.declared.kept.Kept.{Kept}
use Rattle.end_protocol.specs.declared.kept.Response.{Response}
use Rattle.end_protocol.specs.declared.kept.Taker.{Taker}
use Rattle.end_protocol.specs.declared.kept.Wanted.{Wanted as Coming'}
use Rattle.end_protocol.specs.declared.messages.Connect.{Connect}
use Rattle.end_protocol.specs.Asking.{asked}
use Rattle.end_protocol.specs.Deeds.{heard_deeds}
use Rattle.end_protocol.specs.Hearing.{accepted as takes, forbade, gone_ahead, gone_on, hears, is_forbidden, is_readable, is_whole, late_request, let_come, next_asked, read, reply_further, reply_to, request_for, request_further, retried, retry_of, sent_back, silently}
use Rattle.end_protocol.specs.Kept.{queued}
use Rattle.end_protocol.specs.Lists.{head, tail}
use Rattle.end_protocol.specs.Wanting.{is_needed, taker}
use Rattle.request_meaning.specs.Requests.{accepted, returned}
use Rattle.request_meaning.specs.Views.{asking, asks, serving}
use Rattle.request_meaning.specs.Invariant.{is_reply}
use Rattle.request_law.proofs.Reading.{this_if}

-- what is served is as before
pub record ServesAsBefore (k : Kept) (y : Kept × Heard) : Type 0 where
  pub same : serving y.0 ≡ serving k
  pub none : accepted (heard_deeds y.1) ≡ []

-- what is asked is as before
pub record AsksAsBefore (k : Kept) (y : Kept × Heard) : Type 0 where
  pub same : asking y.0 ≡ asking k
  pub none : returned (heard_deeds y.1) ≡ []

-- ---- what comes back

asked_serves : (version : ℕ) (c : Connect) (k : Kept) → serving (asked version c k) ≡ serving k
unfolding asked
asked_serves version c k = refl

next_serves : (version : ℕ) (o : Option Connect) (k : Kept) → serving (next_asked version o k) ≡ serving k
next_serves version None k = refl
next_serves version (Some c) k = asked_serves version c k

gone_serves : (version : ℕ) (k : Kept) → serving (gone_on version k) ≡ serving k
unfolding gone_on
gone_serves version k = next_serves version (head k.behind) (record k { reply = None; outstanding = None; barred = false; behind = tail k.behind })

quietly : (k j : Kept) → serving j ≡ serving k → ServesAsBefore k (silently j)
quietly k j e = record { same = e; none = refl }

reply_aside : (version : ℕ) (o : Option Connect) (r : Response) (k j : Kept) → serving j ≡ serving k → ServesAsBefore k (reply_to o version r j)
reply_aside version None r k j e = quietly k j e
reply_aside version (Some c) r k j e = by_whole (is_whole r.values r.ends)
  where
    by_whole : (b : Bool) → ServesAsBefore k (if b then (gone_on version j, heard.Returned c.thread r) else silently (record j { reply = Some r }))
    by_whole true = record { same = gone_serves version j ∙ e; none = refl }
    by_whole false = quietly k (record j { reply = Some r }) e

further_aside : (version : ℕ) (o : Option Response) (xs : List EndId) (k : Kept) → ServesAsBefore k (reply_further o version xs k)
further_aside version None xs k = quietly k k refl
further_aside version (Some r) xs k = reply_aside version k.outstanding (record r { ends = r.ends ++ xs }) k (record k { reply = None }) refl

retried_aside : (version : ℕ) (o : Option Connect) (xs : List EndId) (k : Kept) → ServesAsBefore k (silently (retried o version xs k))
retried_aside version None xs k = quietly k k refl
retried_aside version (Some c) xs k = quietly k (asked version _ k) (asked_serves version _ k)

forbidden_aside : (o : Option Connect) (xs : List EndId) (k : Kept) → ServesAsBefore k (silently (is_forbidden o xs k))
forbidden_aside None xs k = quietly k k refl
forbidden_aside (Some c) xs k = quietly k _ refl

ahead_aside : (o : Option Connect) (k : Kept) → ServesAsBefore k (silently (gone_ahead o k))
ahead_aside None k = quietly k k refl
ahead_aside (Some c) k = quietly k _ refl

-- ---- what comes to who serves

still : (k j : Kept) → asking j ≡ asking k → AsksAsBefore k (silently j)
still k j e = record { same = e; none = refl }

takes_asks : (w : Coming') (k : Kept) → asking (takes w k) ≡ asking k
unfolding takes
takes_asks w k = refl

let_come_asks : (w : Coming') (k : Kept) → asking (let_come w k) ≡ asking k
unfolding let_come
let_come_asks w k = refl

forbade_asks : (n : ℕ) (signature : List ℕ) (xs : List EndId) (k : Kept) → asking (forbade n signature xs k) ≡ asking k
unfolding forbade
forbade_asks n signature xs k = refl

queued_asks : (n : ℕ) (xs : List EndId) (k : Kept) → asking (queued (retry_of n xs ∷ []) k) ≡ asking k
unfolding queued
queued_asks n xs k = refl

abbrev part_of : Taker → ℕ → List ℕ → List RtValue → List EndId → Coming'
part_of t n signature vs xs = record { by = t; number = n; signature = signature; values = vs; ends = xs }

abbrev grown_by : List EndId → Coming' → Coming'
grown_by xs w = record w { ends = w.ends ++ xs }

request_aside : (room : Bool) (o : Option Taker) (n : ℕ) (signature : List ℕ) (vs : List RtValue) (xs : List EndId) (k : Kept) → AsksAsBefore k (request_for o room n signature vs xs k)
request_aside room None n signature vs xs k = by_needed (is_needed room k)
  where
    by_needed : (b : Bool) → AsksAsBefore k (silently (if b then forbade n signature xs k else queued (retry_of n xs ∷ []) k))
    by_needed true = still k _ (forbade_asks n signature xs k)
    by_needed false = still k _ (queued_asks n xs k)
request_aside room (Some t) n signature vs xs k = by_whole (is_whole vs xs)
  where
    by_whole : (b : Bool) → AsksAsBefore k (if b then (takes (part_of t n signature vs xs) k, heard.Accepted (part_of t n signature vs xs)) else silently (let_come (part_of t n signature vs xs) k))
    by_whole true = record { same = takes_asks (part_of t n signature vs xs) k; none = refl }
    by_whole false = still k (let_come (part_of t n signature vs xs) k) (let_come_asks (part_of t n signature vs xs) k)

enc_aside : (o : Option Coming') (xs : List EndId) (k : Kept) → AsksAsBefore k (request_further o xs k)
enc_aside None xs k = still k k refl
enc_aside (Some w) xs k = by_whole (is_whole w.values (w.ends ++ xs))
  where
    by_whole : (b : Bool) → AsksAsBefore k (if b then (takes (grown_by xs w) k, heard.Accepted (grown_by xs w)) else silently (record k { request = Some (grown_by xs w) }))
    by_whole true = record { same = takes_asks (grown_by xs w) k; none = refl }
    by_whole false = still k (record k { request = Some (grown_by xs w) }) refl

-- ---- whatever it is

module _ (version : ℕ) (room : Bool) (xs : List EndId) (k : Kept) where
  read_back : (packet : RtPacket) → asks packet ≡ false → ServesAsBefore k (read version room packet xs k)
  read_back (packets.Request n signature vs) other = let e : true ≡ false = other in absurd cc
  read_back (packets.Reply n status vs) other = reply_aside version k.outstanding _ k k refl
  read_back (packets.Retry n) other = retried_aside version k.outstanding xs k
  read_back (packets.Forbid n) other = forbidden_aside k.outstanding xs k
  read_back (packets.Allow n) other = retried_aside version k.outstanding xs k
  read_back (packets.GoAhead n) other = ahead_aside k.outstanding k
  read_back (packets.Enc kind n i) other = by_kind (kind == 1) other
    where
      by_kind : (b : Bool) → b ≡ false → ServesAsBefore k (if b then request_further k.request xs k else reply_further k.reply version xs k)
      by_kind true e = let e : true ≡ false = e in absurd cc
      by_kind false e = further_aside version k.reply xs k

  read_forth : (packet : RtPacket) → asks packet ≡ true → AsksAsBefore k (read version room packet xs k)
  read_forth (packets.Request n signature vs) own = request_aside room (taker room signature k) n signature vs xs k
  read_forth (packets.Enc kind n i) own = by_kind (kind == 1) own
    where
      by_kind : (b : Bool) → b ≡ true → AsksAsBefore k (if b then request_further k.request xs k else reply_further k.reply version xs k)
      by_kind true e = enc_aside k.request xs k
      by_kind false e = let e : false ≡ true = e in absurd cc
  read_forth (packets.Reply n status vs) own = let e : false ≡ true = own in absurd cc
  read_forth (packets.Retry n) own = let e : false ≡ true = own in absurd cc
  read_forth (packets.Forbid n) own = let e : false ≡ true = own in absurd cc
  read_forth (packets.Allow n) own = let e : false ≡ true = own in absurd cc
  read_forth (packets.GoAhead n) own = let e : false ≡ true = own in absurd cc

  -- on a dead end
  late_back : (packet : RtPacket) → asks packet ≡ false → ServesAsBefore k (sent_back (late_request version packet xs) xs k)
  late_back (packets.Request n signature vs) other = let e : true ≡ false = other in absurd cc
  late_back (packets.Reply n status vs) other = record { same = refl; none = refl }
  late_back (packets.Retry n) other = record { same = refl; none = refl }
  late_back (packets.Forbid n) other = record { same = refl; none = refl }
  late_back (packets.Allow n) other = record { same = refl; none = refl }
  late_back (packets.GoAhead n) other = record { same = refl; none = refl }
  late_back (packets.Enc kind n i) other = record { same = refl; none = refl }

  late_any : (o : Option ℕ) → AsksAsBefore k (sent_back o xs k)
  late_any None = record { same = refl; none = refl }
  late_any (Some n) = still k (queued (retry_of n xs ∷ []) k) (queued_asks n xs k)

  pub back_aside : (packet : RtPacket) → asks packet ≡ false → ServesAsBefore k (hears version room packet xs k)
  back_aside packet other = by_tests k.dead (is_readable version packet xs k)
    where
      by_tests : (d b : Bool) → ServesAsBefore k (if d then sent_back (late_request version packet xs) xs k else if b then read version room packet xs k else (k, heard.Unreadable xs))
      by_tests true b = late_back packet other
      by_tests false true = read_back packet other
      by_tests false false = record { same = refl; none = refl }

  pub forth_aside : (packet : RtPacket) → asks packet ≡ true → AsksAsBefore k (hears version room packet xs k)
  forth_aside packet own = by_tests k.dead (is_readable version packet xs k)
    where
      by_tests : (d b : Bool) → AsksAsBefore k (if d then sent_back (late_request version packet xs) xs k else if b then read version room packet xs k else (k, heard.Unreadable xs))
      by_tests true b = late_any (late_request version packet xs)
      by_tests false true = read_forth packet own
      by_tests false false = record { same = refl; none = refl }

  -- a packet that brings no reply returns none
  read_none : (packet : RtPacket) → is_reply packet ≡ false → returned (heard_deeds (read version room packet xs k).1) ≡ []
  read_none (packets.Request n signature vs) none = (request_aside room (taker room signature k) n signature vs xs k).none
  read_none (packets.Retry n) none = refl
  read_none (packets.Forbid n) none = refl
  read_none (packets.Allow n) none = refl
  read_none (packets.GoAhead n) none = refl
  read_none (packets.Reply n status vs) none = let e : true ≡ false = none in absurd cc
  read_none (packets.Enc kind n i) none = let e : true ≡ false = none in absurd cc

  pub none_returns : (packet : RtPacket) → is_reply packet ≡ false → returned (heard_deeds (hears version room packet xs k).1) ≡ []
  none_returns packet none = by_tests k.dead (is_readable version packet xs k)
    where
      by_tests : (d b : Bool) → returned (heard_deeds (if d then sent_back (late_request version packet xs) xs k else if b then read version room packet xs k else (k, heard.Unreadable xs)).1) ≡ []
      by_tests true b = (late_any (late_request version packet xs)).none
      by_tests false true = read_none packet none
      by_tests false false = refl

  -- on a dead end nothing is accepted or returned, and it is dead afterwards
  pub record IsLate (y : Kept × Heard) : Type 0 where
    pub dead : y.0.dead ≡ true
    pub none_accepted : accepted (heard_deeds y.1) ≡ []
    pub none_returned : returned (heard_deeds y.1) ≡ []
    pub read : (zs : List EndId) → y.1 ≡ heard.Unreadable zs → ⊥

  sent_back_late : k.dead ≡ true → (o : Option ℕ) → IsLate (sent_back o xs k)
  unfolding queued
  sent_back_late dead None = record {
    dead = dead;
    none_accepted = refl;
    none_returned = refl;
    read = λ zs e. let e : heard.TooLate xs ≡ heard.Unreadable zs = e in absurd cc;
  }
  sent_back_late dead (Some n) = record {
    dead = dead;
    none_accepted = refl;
    none_returned = refl;
    read = λ zs e. let e : heard.Nothing ≡ heard.Unreadable zs = e in absurd cc;
  }

  pub hears_late : (packet : RtPacket) → k.dead ≡ true → IsLate (hears version room packet xs k)
  hears_late packet dead =
      subst IsLate
      (sym (this_if k.dead (sent_back (late_request version packet xs) xs k) (if is_readable version packet xs k then read version room packet xs k else (k, heard.Unreadable xs)) dead))
      (sent_back_late dead (late_request version packet xs))
