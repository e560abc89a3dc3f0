-- On a dead end no request is in part.
use Rattle.std.proofs.Common.{◌≡◌, ℕ, Bool, true, false, not, if◌then◌else◌, List, ◌∷◌, [], ◌++◌, Option, Some, None, is_some, refl, sym, subst, ◌∙◌}
use Rattle.std.specs.Prelude.{◌==◌, ⊤}
use Rattle.charlotte_calls.specs.declared.names.EndId.{EndId}
use Rattle.lynx_packets.specs.declared.packet.RtPacket.{RtPacket}
use Rattle.lynx_packets.specs.declared.packet.RtPacket.TheVariants as packets
use Rattle.lynx_packets.specs.declared.value.RtValue.{RtValue}
use Rattle.end_protocol.specs.declared.hearing.Heard.{Heard as Outcome}
use Rattle.end_protocol.specs.declared.hearing.Heard.TheVariants as heard
use Rattle.end_protocol.specs.declared.kept.Forbade.{Forbade}
use Rattle.end_protocol.specs.declared.kept.Kept.{Kept}
use Rattle.end_protocol.specs.declared.kept.Response.{Response}
use Rattle.end_protocol.specs.declared.kept.Taker.{Taker}
use Rattle.end_protocol.specs.declared.kept.Wanted.{Wanted}
use Rattle.end_protocol.specs.declared.messages.Connect.{Connect}
use Rattle.end_protocol.specs.Asking.{asked, is_bound, is_owed, later, lined_up, replied, replies}
use Rattle.end_protocol.specs.Falling.{dies}
use Rattle.end_protocol.specs.Going.{allows, is_allow_due, sent, settled_with}
use Rattle.end_protocol.specs.Happenings.{Accepts, Binds, CancelLate, Connects, Happening, ReceiveOver, Receives, Replies, SendOver, Settles, Unbinds, after}
use Rattle.end_protocol.specs.Happenings as happenings
use Rattle.end_protocol.specs.Hearing.{accepted, forbade, gone_ahead, gone_on, hears, is_forbidden, is_readable, is_whole, late_request, let_come, next_asked, read, reply_further, reply_to, request_for, request_further, request_grown, retried, retry_of, sent_back, wanted}
use Rattle.end_protocol.specs.Kept.{queued}
use Rattle.end_protocol.specs.Lists.{head, tail}
use Rattle.end_protocol.specs.Wanting.{is_needed, taker}
use Rattle.request_meaning.specs.Links.{MayHappen}
use Rattle.request_runs.specs.Sides.{Destroys, Dies, Does, Drops, Events, Flipped, Hears, Held, Holds, LetsGo, Loses, Pair, Passes, Sends, Standing}

abbrev pub IsWhole : Kept → Type 0
IsWhole k = k.dead ≡ true → k.request ≡ None

-- it is dead as it was, with the same request in part
record IsSame (k j : Kept) : Type 0 where
  dead : j.dead ≡ k.dead
  request : j.request ≡ k.request

whole_same : (k j : Kept) → IsSame k j → IsWhole k → IsWhole j
whole_same k j same whole dead = same.request ∙ whole (sym same.dead ∙ dead)

either : (k : Kept) (b : Bool) (i j : Kept) → IsSame k i → IsSame k j → IsSame k (if b then i else j)
either k true i j one two = one
either k false i j one two = two

-- ---- what threads do, and answers

asked_same : (version : ℕ) (c : Connect) (k : Kept) → IsSame k (asked version c k)
unfolding asked
asked_same version c k = record { dead = refl; request = refl }

lined_same : (version : ℕ) (c : Connect) (k : Kept) → IsSame k (lined_up version c k)
unfolding lined_up
lined_same version c k = either k (is_some k.outstanding) (record k { behind = k.behind ++ c ∷ [] }) (asked version c k) (record { dead = refl; request = refl }) (asked_same version c k)

replied_same : (version : ℕ) (r : Response) (k : Kept) → IsSame k (replied version r k)
unfolding replied
replied_same version r k = by_tests (is_owed r.number k.owed) k.dead
  where
    by_tests : (owed dead : Bool) → IsSame k (if not owed then k else if dead then record k { owed = None } else record k { owed = None; queue = k.queue ++ replies version r })
    by_tests false dead = record { dead = refl; request = refl }
    by_tests true true = record { dead = refl; request = refl }
    by_tests true false = record { dead = refl; request = refl }

allows_same : (n : ℕ) (k : Kept) → IsSame k (allows n k)
unfolding allows
allows_same n k = record { dead = refl; request = refl }

settled_same : (o : Option Forbade) (room : Bool) (k : Kept) → IsSame k (settled_with o room k)
settled_same None room k = record { dead = refl; request = refl }
settled_same (Some f) room k = either k (is_allow_due room f k) (allows f.number k) k (allows_same f.number k) (record { dead = refl; request = refl })

sent_same : (k : Kept) → IsSame k (sent k)
unfolding sent
sent_same k = record { dead = refl; request = refl }

after_same : (version : ℕ) (h : Happening) (k : Kept) → MayHappen h k → IsSame k (after version h k)
after_same version (Connects c) k may =
    let s = lined_same version (record c { number = later k.last }) (record k { last = later k.last }) in record { dead = s.dead; request = s.request }
after_same version (Accepts a) k may = record { dead = refl; request = refl }
after_same version (Binds b) k may = either k (is_bound b.entry k) k (record k { bindings = k.bindings ++ b ∷ [] }) (record { dead = refl; request = refl }) (record { dead = refl; request = refl })
after_same version (Unbinds entry) k may = record { dead = refl; request = refl }
after_same version (Replies r) k may = replied_same version r k
after_same version (Settles room) k may = settled_same k.forbade room k
after_same version SendOver k may = record { dead = refl; request = refl }
after_same version Receives k may = record { dead = refl; request = refl }
after_same version ReceiveOver k may = record { dead = refl; request = refl }
after_same version CancelLate k may = record { dead = refl; request = refl }
after_same version (happenings.Hears room packet xs) k may = absurd may
after_same version happenings.Sends k may = absurd may
after_same version happenings.Dies k may = absurd may

dies_whole : (k : Kept) → IsWhole (dies k)
unfolding dies
dies_whole k dead = refl

-- ---- what is heard

module _ (version : ℕ) (room : Bool) (xs : List EndId) where
  -- an end that is not dead is not dead afterwards
  abbrev Lives : Kept × Outcome → Type 0
  Lives y = y.0.dead ≡ false

  if_lives : (b : Bool) (y z : Kept × Outcome) → Lives y → Lives z → Lives (if b then y else z)
  if_lives true y z one two = one
  if_lives false y z one two = two

  asked_lives : (o : Option Connect) (k : Kept) → k.dead ≡ false → (next_asked version o k).dead ≡ false
  asked_lives None k lives = lives
  asked_lives (Some c) k lives = (asked_same version c k).dead ∙ lives

  module _ (k : Kept) (lives : k.dead ≡ false) where
    unwanted_lives : (b : Bool) (n : ℕ) (signature : List ℕ) → (if b then forbade n signature xs k else queued (retry_of n xs ∷ []) k).dead ≡ false
    unfolding forbade queued
    unwanted_lives true n signature = lives
    unwanted_lives false n signature = lives

    accepted_lives : (w : Wanted) → (accepted w k).dead ≡ false
    unfolding accepted
    accepted_lives w = lives

    let_come_lives : (w : Wanted) → (let_come w k).dead ≡ false
    unfolding let_come
    let_come_lives w = lives

    wanted_lives : (w : Wanted) → Lives (wanted w k)
    wanted_lives w = if_lives (is_whole w.values w.ends) (accepted w k, heard.Accepted w) (let_come w k, heard.Nothing) (accepted_lives w) (let_come_lives w)

    request_lives : (o : Option Taker) (n : ℕ) (signature : List ℕ) (vs : List RtValue) → Lives (request_for o room n signature vs xs k)
    request_lives None n signature vs = unwanted_lives (is_needed room k) n signature
    request_lives (Some t) n signature vs = wanted_lives (record { by = t; number = n; signature = signature; values = vs; ends = xs })

    gone_on_lives : (gone_on version k).dead ≡ false
    unfolding gone_on
    gone_on_lives = asked_lives (head k.behind) (record k { reply = None; outstanding = None; barred = false; behind = tail k.behind }) lives

    reply_lives : (o : Option Connect) (r : Response) → Lives (reply_to o version r k)
    reply_lives None r = lives
    reply_lives (Some c) r = if_lives (is_whole r.values r.ends) (gone_on version k, heard.Returned c.thread r) (record k { reply = Some r }, heard.Nothing) gone_on_lives lives

    retried_lives : (o : Option Connect) → (retried o version xs k).dead ≡ false
    retried_lives None = lives
    retried_lives (Some c) = (asked_same version (record c { ends = xs ++ c.ends }) k).dead ∙ lives

    forbidden_lives : (o : Option Connect) → (is_forbidden o xs k).dead ≡ false
    forbidden_lives None = lives
    forbidden_lives (Some c) = lives

    ahead_lives : (o : Option Connect) → (gone_ahead o k).dead ≡ false
    ahead_lives None = lives
    ahead_lives (Some c) = lives

    grown_lives : (w : Wanted) → Lives (request_grown w k)
    grown_lives w = if_lives (is_whole w.values w.ends) (accepted w k, heard.Accepted w) (record k { request = Some w }, heard.Nothing) (accepted_lives w) lives

    further_lives : (o : Option Wanted) → Lives (request_further o xs k)
    further_lives None = lives
    further_lives (Some w) = grown_lives (record w { ends = w.ends ++ xs })

  reply_further_lives : (k : Kept) → k.dead ≡ false → (o : Option Response) → Lives (reply_further o version xs k)
  reply_further_lives k lives None = lives
  reply_further_lives k lives (Some r) = reply_lives (record k { reply = None }) lives k.outstanding (record r { ends = r.ends ++ xs })

  read_lives : (k : Kept) → k.dead ≡ false → (packet : RtPacket) → Lives (read version room packet xs k)
  read_lives k lives (packets.Request n signature vs) = request_lives k lives (taker room signature k) n signature vs
  read_lives k lives (packets.Reply n status vs) = reply_lives k lives k.outstanding (record { number = n; status = status; values = vs; ends = xs })
  read_lives k lives (packets.Retry n) = retried_lives k lives k.outstanding
  read_lives k lives (packets.Forbid n) = forbidden_lives k lives k.outstanding
  read_lives k lives (packets.Allow n) = retried_lives k lives k.outstanding
  read_lives k lives (packets.GoAhead n) = ahead_lives k lives k.outstanding
  read_lives k lives (packets.Enc kind n index) =
      if_lives (kind == 1) (request_further k.request xs k) (reply_further k.reply version xs k) (further_lives k lives k.request) (reply_further_lives k lives k.reply)

  back_same : (o : Option ℕ) (k : Kept) → IsSame k (sent_back o xs k).0
  unfolding queued
  back_same None k = record { dead = refl; request = refl }
  back_same (Some n) k = record { dead = refl; request = refl }

  hears_whole : (packet : RtPacket) (k : Kept) → IsWhole k → IsWhole (hears version room packet xs k).0
  hears_whole packet k whole = by_tests k.dead (is_readable version packet xs k) refl
    where
      by_tests : (dead readable : Bool) → k.dead ≡ dead →
          IsWhole (if dead then sent_back (late_request version packet xs) xs k else if readable then read version room packet xs k else (k, heard.Unreadable xs)).0
      by_tests true readable e = whole_same k (sent_back (late_request version packet xs) xs k).0 (back_same (late_request version packet xs) k) whole
      by_tests false true e = λ dead. let no : true ≡ false = sym dead ∙ read_lives k e packet in cc
      by_tests false false e = whole

-- ---- a link

abbrev pub StandsWhole : Standing → Type 0
StandsWhole (Held k) = IsWhole k
StandsWhole _ = ⊤

pub record AreWhole (p : Pair) : Type 0 where
  pub near : StandsWhole p.near.standing
  pub far : StandsWhole p.far.standing

module _ (version : ℕ) where
  held_whole : (k : Kept) (s : Standing) → s ≡ Held k → StandsWhole s → IsWhole k
  held_whole k s held whole = subst (λ (t : Standing). StandsWhole t) held whole

  pub event_whole : (p q : Pair) → Events version p q → AreWhole p → AreWhole q
  event_whole p q (Does h k r held may) are = record { near = whole_same k (after version h k) (after_same version h k may) (held_whole k p.near.standing held are.near); far = are.far }
  event_whole p q (Sends m rest k r held queue) are = record { near = whole_same k (sent k) (sent_same k) (held_whole k p.near.standing held are.near); far = are.far }
  event_whole p q (Hears room m rest k r held first readable) are = record { near = hears_whole version room m.ends m.packet k (held_whole k p.near.standing held are.near); far = are.far }
  event_whole p q (Dies k r held gone) are = record { near = dies_whole k; far = are.far }
  event_whole p q (LetsGo k r held rests whole none) are = record { near = tt; far = are.far }
  event_whole p q (Holds r free) are = record { near = λ dead. refl; far = are.far }
  event_whole p q (Loses r lives) are = record { near = tt; far = are.far }
  event_whole p q (Destroys r) are = record { near = tt; far = are.far }
  event_whole p q (Drops ms r gone h) are = record { near = are.near; far = are.far }
  event_whole p q (Passes ms r over) are = record { near = are.near; far = are.far }
  event_whole p q (Flipped r t event) are =
      let turned : AreWhole _ = event_whole _ _ event (record { near = are.far; far = are.near }) in record { near = turned.far; far = turned.near }
