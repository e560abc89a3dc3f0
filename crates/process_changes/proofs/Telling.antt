-- What is told in an answer: one change at the end that it is about, and what comes of that.
use Rattle.std.proofs.Common.{◌≡◌, ◌⊎◌, inl, inr, ⊎_elim, ℕ, zero, suc, ◌==◌, Bool, true, false, List, [], ◌∷◌, ◌++◌, Option, Some, None, Result, Ok, Err, if◌then◌else◌, refl, sym, ap, subst, ◌∙◌, append-nil}
use Rattle.charlotte_calls.specs.declared.calls.Answer.{Answer}
use Rattle.charlotte_calls.specs.declared.calls.Answer.TheVariants as answer
use Rattle.charlotte_calls.specs.declared.calls.Cause.TheVariants.{Dead, Late}
use Rattle.charlotte_calls.specs.declared.calls.Report.{Report}
use Rattle.charlotte_calls.specs.declared.names.EndId.{EndId}
use Rattle.charlotte_calls.specs.declared.names.Outcome.TheVariants.{Done as Finished, Destroyed}
use Rattle.charlotte_calls.specs.declared.names.Outcome.{Outcome}
use Rattle.charlotte_calls.specs.declared.names.Way.TheVariants.{Inward, Outward}
use Rattle.charlotte_calls.specs.declared.names.Way.{Way}
use Rattle.code_shapes.specs.Shapes.{PartTypes}
use Rattle.lynx_packets.specs.declared.packet.RtPacket.{RtPacket}
use Rattle.lynx_packets.specs.declared.packet.RtPacket.TheVariants as packets
use Rattle.lynx_packets.specs.declared.value.RtValue.{RtValue}
use Rattle.lynx_packets.specs.Packets.{packet_of}
use Rattle.typing_rules.specs.declared.exception.Exception.TheVariants as exceptions
use Rattle.end_protocol.specs.declared.hearing.Heard.{Heard}
use Rattle.end_protocol.specs.declared.hearing.Heard.TheVariants as heard
use Rattle.end_protocol.specs.declared.kept.Kept.{Kept}
use Rattle.end_protocol.specs.declared.kept.Response.{Response}
use Rattle.end_protocol.specs.declared.kept.Taker.{Taker}
use Rattle.end_protocol.specs.declared.kept.Taker.TheVariants as takers
use Rattle.end_protocol.specs.declared.kept.Wanted.{Wanted}
use Rattle.end_protocol.specs.declared.messages.Connect.{Connect}
use Rattle.end_protocol.specs.Deeds.{heard_deeds}
use Rattle.end_protocol.specs.Falling.{dies, fallen}
use Rattle.end_protocol.specs.Going.{cancel_late, receive_over, returns, send_over}
use Rattle.end_protocol.specs.Happenings.{CancelLate, Happening, ReceiveOver, Receives, SendOver, Sends, after}
use Rattle.end_protocol.specs.Wanting.{taker}
use Rattle.end_protocol.specs.Hearing.{accepted, gone_on, hears, is_readable, is_whole, late_request, let_come, read, reply_further, reply_to, request_for, request_further, sent_back}
use Rattle.process_run.specs.States.{Asked, DeedOn, Done, Gone, Held, Holding, Keeps, Place, State, deeds_on, quietly}
use Rattle.process_run.specs.States as process
use Rattle.process_run.specs.Deaths.{destroys, dies_at, does, falls, raises}
use Rattle.process_run.specs.Ends.{dooms, gets, held_at, held_in, held_of, holds_again, number_of, place_at, room, with_holding}
use Rattle.process_run.specs.Reports.{answered, cancelled_so, comes_of, heard_on, held_if, holding_of, listens, on_end, receives_so, reported, reported_in, reported_off, reported_on, returns_to, sent_so, spawns, takes}
use Rattle.process_changes.specs.Changes.{Changes, IsHeld}
use Rattle.process_changes.specs.Ledgers.{Ledger, brought, came_with, given_back, ledger}
use Rattle.process_changes.specs.Telling.{Answers, Breaks, Brings, Dies, DiesWith, Hears, Ignores, IsAnswer, IsDeath, IsDeathWith, IsReadable, IsSilent, IsUnheld, Silent, Telling, Turn}
use Rattle.process_changes.proofs.Numbers.{numbered}
use Rattle.process_changes.proofs.Places.{all_doomed, all_got, chain, drops, falls_changes, falls_version, held_here, holds}

-- what is told changes the ends so, with none in the hand afterwards, and the version not at all
pub record TellsBy (s : State) (t : Turn) (d : Done) : Type 0 where
  pub told : Ledger
  pub telling : Telling s.version t (ledger s (brought t.given)) d.deeds told
  pub changes : Changes s.version told [] (ledger d.state [])
  pub version : d.state.version ≡ s.version

-- ---- what comes of what is told

-- this comes of it, in the same version, with these ends in the hand before and after
abbrev Comes : State → List EndId → State → List EndId → Type 0
Comes s xs t ys = Changes s.version (ledger s xs) [] (ledger t ys) × (t.version ≡ s.version)

comes_on : (s t u : State) (xs ys zs : List EndId) → Comes s xs t ys → Comes t ys u zs → Comes s xs u zs
comes_on s t u xs ys zs one two =
    (chain s.version (ledger s xs) [] (ledger t ys) [] (ledger u zs) one.0 (subst (λ (v : ℕ). Changes v (ledger t ys) [] (ledger u zs)) one.1 two.0), two.1 ∙ one.1)

-- the ends in the hand are dropped
dropped : (s t : State) (xs : List EndId) → ledger t [] ≡ ledger s [] → t.version ≡ s.version → Comes s xs t []
dropped s t xs same version = (subst (λ (l : Ledger). Changes s.version (ledger s xs) [] l) (sym same) (drops s.version xs s.places s.doomed), version)

-- all that are in the hand
all_of : (s t : State) (xs : List EndId) → Changes s.version (ledger s (xs ++ [])) [] (ledger t []) → Changes s.version (ledger s xs) [] (ledger t [])
all_of s t xs = subst (λ (l : List EndId). Changes s.version (ledger s l) [] (ledger t [])) (append-nil xs)

got : (xs : List EndId) (s : State) → Changes s.version (ledger s xs) [] (ledger (gets xs s) [])
got xs s = all_of s (gets xs s) xs (all_got s.version xs [] s.places s.doomed)

doomed_comes : (xs : List EndId) (s : State) → Comes s xs (dooms xs s) []
doomed_comes xs s = (all_of s (dooms xs s) xs (all_doomed s.version xs [] s.places s.doomed), refl)

-- what falls with an end
falls_comes : (k : Kept) (s : State) (rest : List EndId) → Comes s (given_back k ++ rest) (falls (fallen k) s) rest
falls_comes k s rest = (falls_changes s.version (fallen k) s rest, falls_version (fallen k) s)

held_if_comes : (b : Bool) (xs : List EndId) (s : State) → Comes s xs (held_if b xs s) []
held_if_comes true xs s = (all_of s (holds_again xs s) xs (holds s.version xs [] s.places s.doomed), refl)
held_if_comes false xs s = dropped s s xs refl refl

-- ---- what is heard

spawns_comes : (o : Option ℕ) (p : Option PartTypes) (on : ℕ) (w : Wanted) (s : State) → Comes s w.ends (spawns o p on w s) []
spawns_comes (Some n) (Some p) on w s = (got w.ends s, refl)
spawns_comes None p on w s = dropped s s w.ends refl refl
spawns_comes (Some n) None on w s = dropped s s w.ends refl refl

takes_comes : (by : Taker) (on : ℕ) (w : Wanted) (s : State) → Comes s w.ends (takes by on w s) []
takes_comes (takers.Thread thread) on w s = (got w.ends s, refl)
takes_comes (takers.Entry entry) on w s = spawns_comes _ _ on w s

returns_comes : (thread status : ℕ) (r : Response) (s : State) → Comes s r.ends (returns_to thread status r s) []
returns_comes thread zero r s = (got r.ends s, refl)
returns_comes thread (suc status) r s = dropped s (raises thread exceptions.Failed s) r.ends refl refl

comes_of_heard : (h : Held) (y : Heard) (s : State) → IsReadable y → Comes s (came_with y) (comes_of h y s) []
comes_of_heard h heard.Nothing s readable = dropped s s [] refl refl
comes_of_heard h (heard.Accepted w) s readable = takes_comes w.by h.number w s
comes_of_heard h (heard.Returned thread r) s readable = returns_comes thread r.status r s
comes_of_heard h (heard.TooLate xs) s readable = doomed_comes xs s
comes_of_heard h (heard.Unreadable xs) s readable = absurd readable

-- ---- what can be read

either_so : (b : Bool) (x y : Kept × Heard) → IsReadable x.1 → IsReadable y.1 → IsReadable (if b then x else y).1
either_so true x y one two = one
either_so false x y one two = two

request_so : (o : Option Taker) (room : Bool) (number : ℕ) (signature : List ℕ) (vs : List RtValue) (xs : List EndId) (k : Kept) → IsReadable (request_for o room number signature vs xs k).1
request_so None room number signature vs xs k = tt
request_so (Some t) room number signature vs xs k =
    let w : Wanted = record { by = t; number = number; signature = signature; values = vs; ends = xs } in
    either_so (is_whole vs xs) (accepted w k, heard.Accepted w) (let_come w k, heard.Nothing) tt tt

reply_so : (o : Option Connect) (version : ℕ) (r : Response) (k : Kept) → IsReadable (reply_to o version r k).1
reply_so None version r k = tt
reply_so (Some c) version r k = either_so (is_whole r.values r.ends) (gone_on version k, heard.Returned c.thread r) (record k { reply = Some r }, heard.Nothing) tt tt

request_further_so : (o : Option Wanted) (xs : List EndId) (k : Kept) → IsReadable (request_further o xs k).1
request_further_so None xs k = tt
request_further_so (Some w) xs k =
    let more : Wanted = record w { ends = w.ends ++ xs } in
    either_so (is_whole w.values more.ends) (accepted more k, heard.Accepted more) (record k { request = Some more }, heard.Nothing) tt tt

reply_further_so : (o : Option Response) (version : ℕ) (xs : List EndId) (k : Kept) → IsReadable (reply_further o version xs k).1
reply_further_so None version xs k = tt
reply_further_so (Some r) version xs k = reply_so k.outstanding version _ _

read_so : (version : ℕ) (room : Bool) (packet : RtPacket) (xs : List EndId) (k : Kept) → IsReadable (read version room packet xs k).1
read_so version room (packets.Request number signature vs) xs k = request_so (taker room signature k) room number signature vs xs k
read_so version room (packets.Reply number status vs) xs k = reply_so k.outstanding version _ k
read_so version room (packets.Retry number) xs k = tt
read_so version room (packets.Forbid number) xs k = tt
read_so version room (packets.Allow number) xs k = tt
read_so version room (packets.GoAhead number) xs k = tt
read_so version room (packets.Enc kind number index) xs k =
    either_so (kind == 1) (request_further k.request xs k) (reply_further k.reply version xs k) (request_further_so k.request xs k) (reply_further_so k.reply version xs k)

sent_so_back : (o : Option ℕ) (xs : List EndId) (k : Kept) → IsReadable (sent_back o xs k).1
sent_so_back None xs k = tt
sent_so_back (Some number) xs k = tt

-- where it can't, nothing changes at the end
read_or_not : (version : ℕ) (room : Bool) (packet : RtPacket) (xs : List EndId) (k : Kept) → IsReadable (hears version room packet xs k).1 ⊎ (hears version room packet xs k ≡ (k, heard.Unreadable xs))
read_or_not version room packet xs k = by_tests k.dead (is_readable version packet xs k)
  where
    result : Bool → Bool → Kept × Heard
    result dead readable = if dead then sent_back (late_request version packet xs) xs k else if readable then read version room packet xs k else (k, heard.Unreadable xs)

    by_tests : (dead readable : Bool) → IsReadable (result dead readable).1 ⊎ (result dead readable ≡ (k, heard.Unreadable xs))
    by_tests true readable = inl (sent_so_back (late_request version packet xs) xs k)
    by_tests false true = inl (read_so version room packet xs k)
    by_tests false false = inr refl

-- ---- what is told of an end

-- this is told, of an end that is held
module _ (s : State) (asked : Asked) (given : Option Answer) where
  abbrev turn : Turn
  turn = record { asked = asked; given = given }

  -- with this state and these ends in the hand in between, this comes of it
  by_told : (m u : State) (hand : List EndId) (ds : List DeedOn) → Telling s.version turn (ledger s (brought given)) ds (ledger m hand) → m.version ≡ s.version → Comes m hand u [] → TellsBy s turn (record { state = u; deeds = ds })
  by_told m u hand ds told version comes =
      record { told = ledger m hand; telling = told; changes = subst (λ (v : ℕ). Changes v (ledger m hand) [] (ledger u [])) version comes.0; version = comes.1 ∙ version }

  silently : (t : State) → IsSilent asked given s.places → ledger t [] ≡ ledger s [] → t.version ≡ s.version → TellsBy s turn (quietly t)
  silently t silent same version = by_told s t (brought given) [] (Silent (ledger s (brought given)) silent) refl (dropped s t (brought given) same version)

  module _ (n : ℕ) (x : EndId) (k : Kept) (there : IsHeld n x k s.places) where
    abbrev now : Kept → State
    now j = record s { places = with_holding n (Keeps j) s.places }

    answers_so : (h : Happening) → IsAnswer turn n x h → TellsBy s turn (quietly (now (after s.version h k)))
    answers_so h is =
        let next : State = now (after s.version h k) in
        by_told next next (brought given) [] (Answers n x k h (ledger s (brought given)) there is) refl (dropped next next (brought given) refl refl)

    dies_so : IsDeath turn n → TellsBy s turn (quietly (dies_at (record { number = n; end = x; kept = k }) s))
    unfolding dies_at
    dies_so is =
        let dead : State = falls (fallen k) (now (dies k)) in
        by_told (now (dies k)) dead (given_back k ++ brought given) [] (Dies n x k (ledger s (brought given)) there is) refl
        (comes_on (now (dies k)) dead dead (given_back k ++ brought given) (brought given) [] (falls_comes k (now (dies k)) (brought given)) (dropped dead dead (brought given) refl refl))

    -- and this comes of it besides
    dies_with : (h : Happening) (u : State) → IsDeathWith turn n x h → Comes (dies_at (record { number = n; end = x; kept = after s.version h k }) s) (brought given) u [] → TellsBy s turn (quietly u)
    unfolding dies_at
    dies_with h u is more =
        let j : Kept = after s.version h k in
        by_told (now (dies j)) u (given_back j ++ brought given) [] (DiesWith n x k h (ledger s (brought given)) there is) refl
        (comes_on (now (dies j)) (falls (fallen j) (now (dies j))) u (given_back j ++ brought given) (brought given) [] (falls_comes j (now (dies j)) (brought given)) more)

-- ---- answers

module _ (s : State) (n : ℕ) (h : Held) (number : h.number ≡ n) (there : IsHeld h.number h.end h.kept s.places) where
  at_number : (asked : ℕ → Asked) → asked n ≡ asked h.number
  at_number asked = ap asked (sym number)

  sent_tell : (given : Option Answer) → TellsBy s (record { asked = process.Send n; given = given }) (quietly (sent_so given h s))
  sent_tell (Some answer.Ok) = answers_so s (process.Send n) (Some answer.Ok) h.number h.end h.kept there Sends (at_number process.Send, refl)
  sent_tell (Some (answer.Refused Dead)) = dies_so s (process.Send n) (Some (answer.Refused Dead)) h.number h.end h.kept there (inl (at_number process.Send, refl))
  sent_tell given = silently s (process.Send n) given s tt refl refl

  receives_tell : (given : Option Answer) → TellsBy s (record { asked = process.Receive n; given = given }) (quietly (receives_so given h s))
  receives_tell (Some answer.Ok) = answers_so s (process.Receive n) (Some answer.Ok) h.number h.end h.kept there Receives (at_number process.Receive, refl)
  receives_tell (Some (answer.Refused Dead)) = dies_so s (process.Receive n) (Some (answer.Refused Dead)) h.number h.end h.kept there (inr (at_number process.Receive, refl))
  receives_tell given = silently s (process.Receive n) given s tt refl refl

  cancelled_tell : (given : Option Answer) → TellsBy s (record { asked = process.Cancel n; given = given }) (quietly (cancelled_so given h s))
  cancelled_tell (Some answer.Ok) = answers_so s (process.Cancel n) (Some answer.Ok) h.number h.end h.kept there ReceiveOver (at_number process.Cancel, refl)
  cancelled_tell (Some (answer.Refused Late)) = answers_so s (process.Cancel n) (Some (answer.Refused Late)) h.number h.end h.kept there CancelLate (at_number process.Cancel, refl)
  cancelled_tell (Some (answer.Refused Dead)) =
      let dead : State = dies_at (record h { kept = cancel_late h.kept }) s in
      dies_with s (process.Cancel n) (Some (answer.Refused Dead)) h.number h.end h.kept there CancelLate dead (inl ((at_number process.Cancel, refl), refl)) (dropped dead dead [] refl refl)
  cancelled_tell given = silently s (process.Cancel n) given s tt refl refl

-- of an end that the process held
on_end_tell : (n : ℕ) (s : State) (asked : Asked) (given : Option Answer) (next : Held → State → State) → (IsUnheld n s.places → IsSilent asked given s.places) →
    ((h : Held) → h.number ≡ n → IsHeld h.number h.end h.kept s.places → TellsBy s (record { asked = asked; given = given }) (quietly (next h s))) →
    TellsBy s (record { asked = asked; given = given }) (on_end (held_at n s) next s)
on_end_tell n s asked given next silent each = by_held (held_at n s) refl
  where
    by_held : (o : Option Held) → held_at n s ≡ o → TellsBy s (record { asked = asked; given = given }) (on_end o next s)
    by_held None e = silently s asked given s (silent e) refl refl
    by_held (Some h) e = let here = held_here n h s e in each h here.number here.there

send_silent : (n : ℕ) (given : Option Answer) (ps : List Place) → IsUnheld n ps → IsSilent (process.Send n) given ps
send_silent n (Some answer.Ok) ps unheld = unheld
send_silent n (Some (answer.Refused Dead)) ps unheld = unheld
send_silent n given ps unheld = tt

receive_silent : (n : ℕ) (given : Option Answer) (ps : List Place) → IsUnheld n ps → IsSilent (process.Receive n) given ps
receive_silent n (Some answer.Ok) ps unheld = unheld
receive_silent n (Some (answer.Refused Dead)) ps unheld = unheld
receive_silent n given ps unheld = tt

cancel_silent : (n : ℕ) (given : Option Answer) (ps : List Place) → IsUnheld n ps → IsSilent (process.Cancel n) given ps
cancel_silent n (Some answer.Ok) ps unheld = unheld
cancel_silent n (Some (answer.Refused Late)) ps unheld = unheld
cancel_silent n (Some (answer.Refused Dead)) ps unheld = unheld
cancel_silent n given ps unheld = tt

-- ---- reports

module _ (s : State) (r : Report) where
  abbrev reporting : Turn
  reporting = record { asked = process.Wait; given = Some (answer.Reported r) }

  abbrev before : Ledger
  before = ledger s r.enclosed

  -- on an end that the process holds
  module _ (n : ℕ) (k : Kept) (there : IsHeld n r.on k s.places) where
    abbrev over : Kept
    over = receive_over k

    abbrev held : Kept → Held
    held j = record { number = n; end = r.on; kept = j }

    abbrev with_kept : Kept → State
    with_kept j = record s { places = with_holding n (Keeps j) s.places }

    -- it can't be read: the end is destroyed
    breaks_tells : Brings reporting r.on r.bytes r.enclosed → TellsBy s reporting (heard_on (held over) (over, heard.Unreadable r.enclosed) s)
    unfolding destroys
    breaks_tells brings =
        let gone : State = record s { places = with_holding n (Gone (returns k.sending)) (with_holding n (Keeps over) s.places); doomed = s.doomed ++ r.on ∷ [] } in
        let fell : State = falls (fallen over) gone in
        by_told s process.Wait (Some (answer.Reported r)) gone (dooms r.enclosed fell) (given_back over ++ r.enclosed) [] (Breaks n r.on k r.bytes r.enclosed before there brings) refl
        (comes_on gone fell (dooms r.enclosed fell) (given_back over ++ r.enclosed) r.enclosed [] (falls_comes over gone r.enclosed) (doomed_comes r.enclosed fell))

    garbled_tells : Brings reporting r.on r.bytes r.enclosed → (left : ℕ) → packet_of s.version r.bytes ≡ Err left → (dead : Bool) →
        TellsBy s reporting (heard_on (held over) (over, if dead then heard.TooLate r.enclosed else heard.Unreadable r.enclosed) s)
    garbled_tells brings left e true =
        by_told s process.Wait (Some (answer.Reported r)) (with_kept over) (dooms r.enclosed (with_kept over)) r.enclosed [] (Ignores n r.on k r.bytes left r.enclosed before there brings e) refl
        (doomed_comes r.enclosed (with_kept over))
    garbled_tells brings left e false = breaks_tells brings

    packet_tells : Brings reporting r.on r.bytes r.enclosed → (packet : RtPacket) → packet_of s.version r.bytes ≡ Ok packet →
        TellsBy s reporting (heard_on (held over) (hears s.version (room s) packet r.enclosed over) s)
    packet_tells brings packet e =
        let y = hears s.version (room s) packet r.enclosed over in
        ⊎_elim
        (λ (readable : IsReadable y.1).
        by_told s process.Wait (Some (answer.Reported r)) (with_kept y.0) (comes_of (held y.0) y.1 (with_kept y.0)) (came_with y.1) (deeds_on r.on (heard_deeds y.1))
        (Hears n r.on k (room s) r.bytes packet r.enclosed before there brings e refl readable) refl (comes_of_heard (held y.0) y.1 (with_kept y.0) readable))
        (λ (unread : y ≡ (over, heard.Unreadable r.enclosed)). subst (λ (z : Kept × Heard). TellsBy s reporting (heard_on (held over) z s)) (sym unread) (breaks_tells brings))
        (read_or_not s.version (room s) packet r.enclosed over)

    listens_tells : Brings reporting r.on r.bytes r.enclosed → (p : Result RtPacket ℕ) → packet_of s.version r.bytes ≡ p →
        TellsBy s reporting (heard_on (held over) (listens s.version (room s) p r.enclosed over) s)
    listens_tells brings (Ok packet) e = packet_tells brings packet e
    listens_tells brings (Err left) e = garbled_tells brings left e k.dead

    on_held_tells : (way : Way) (outcome : Outcome) → r.way ≡ way → r.outcome ≡ outcome → TellsBy s reporting (reported_on (held k) way outcome r s)
    on_held_tells Inward Finished way outcome =
        listens_tells (record { report = r; told = ((refl, refl), refl); way = way; outcome = outcome; bytes_are = refl; ends_are = refl }) (packet_of s.version r.bytes) refl
    on_held_tells Inward Destroyed way outcome =
        let dead : State = dies_at (held over) s in
        dies_with s process.Wait (Some (answer.Reported r)) n r.on k there ReceiveOver dead
        (inr (record { report = r; told = ((refl, refl), refl); outcome = outcome; over = inl (way, refl) })) (dropped dead dead r.enclosed refl refl)
    on_held_tells Outward Finished way outcome =
        answers_so s process.Wait (Some (answer.Reported r)) n r.on k there SendOver (record { report = r; told = ((refl, refl), refl); way = way; outcome = outcome })
    on_held_tells Outward Destroyed way outcome =
        let dead : State = dies_at (held (send_over k)) s in
        dies_with s process.Wait (Some (answer.Reported r)) n r.on k there SendOver (held_if (returns k.sending) r.enclosed dead)
        (inr (record { report = r; told = ((refl, refl), refl); outcome = outcome; over = inr (way, refl) })) (held_if_comes (returns k.sending) r.enclosed dead)

  off_comes : (own : Bool) (way : Way) → Comes s r.enclosed (reported_off own way r s) []
  off_comes own Inward = doomed_comes r.enclosed s
  off_comes own Outward = held_if_comes own r.enclosed s

  -- on one that it does not hold
  off_tells : (own : Bool) → IsUnheld (number_of r.on s.places) s.places → TellsBy s reporting (quietly (reported_off own r.way r s))
  off_tells own unheld = by_told s process.Wait (Some (answer.Reported r)) s (reported_off own r.way r s) r.enclosed [] (Silent before unheld) refl (off_comes own r.way)

  report_tells : TellsBy s reporting (reported r s)
  report_tells = by_place (place_at (number_of r.on s.places) s.places) refl
    where
      number : ℕ
      number = number_of r.on s.places

      by_holding : (p : Place) (g : Holding) → p.holding ≡ g → place_at number s.places ≡ Some p → TellsBy s reporting (reported_in number g r s)
      by_holding p (Keeps k) is at =
          let same : p ≡ record { end = r.on; holding = Keeps k } =
          ap (λ (x : EndId). record p { end = x }) (numbered r.on s.places p at) ∙ ap (λ (g : Holding). record { end = r.on; holding = g }) is in
          on_held_tells number k (at ∙ ap (λ (q : Place). Some q) same) r.way r.outcome refl refl
      by_holding p (Gone own) is at = off_tells own (ap (held_of number) at ∙ ap (held_in number p.end) is)

      by_place : (o : Option Place) → place_at number s.places ≡ o → TellsBy s reporting (reported_in number (holding_of o) r s)
      by_place None at = off_tells false (ap (held_of number) at)
      by_place (Some p) at = by_holding p p.holding refl at

-- ---- all answers

pub answered_tells : (asked : Asked) (given : Option Answer) (s : State) → TellsBy s (record { asked = asked; given = given }) (answered asked given s)
answered_tells (process.Make thread) (Some (answer.Made a b)) s =
    by_told s (process.Make thread) (Some (answer.Made a b)) s (answered (process.Make thread) (Some (answer.Made a b)) s).state (a ∷ b ∷ []) [] (Silent (ledger s (a ∷ b ∷ [])) tt) refl (got (a ∷ b ∷ []) s, refl)
answered_tells (process.Make thread) given s = silently s (process.Make thread) given (raises thread exceptions.LinksFull s) tt refl refl
answered_tells (process.Print thread) given s = silently s (process.Print thread) given (does thread s) tt refl refl
answered_tells (process.Send n) given s = on_end_tell n s (process.Send n) given (sent_so given) (send_silent n given s.places) (λ h number there. sent_tell s n h number there given)
answered_tells (process.Receive n) given s = on_end_tell n s (process.Receive n) given (receives_so given) (receive_silent n given s.places) (λ h number there. receives_tell s n h number there given)
answered_tells (process.Cancel n) given s = on_end_tell n s (process.Cancel n) given (cancelled_so given) (cancel_silent n given s.places) (λ h number there. cancelled_tell s n h number there given)
answered_tells process.Wait (Some (answer.Reported r)) s = report_tells s r
answered_tells process.Wait given s = silently s process.Wait given (record s { over = true }) tt refl refl
answered_tells asked given s = silently s asked given s tt refl refl
