-- Answers to what a process asked keep what holds of it.
use Rattle.std.proofs.Common.{arith, ◌≡◌, ℕ, true, ap, List, [], ◌∷◌, length, Option, Some, None, Ok, refl}
use Rattle.charlotte_calls.specs.declared.calls.Answer.{Answer}
use Rattle.charlotte_calls.specs.declared.calls.Answer.TheVariants as answer
use Rattle.charlotte_calls.specs.declared.calls.Cause.{Cause}
use Rattle.charlotte_calls.specs.declared.calls.Cause.TheVariants as causes
use Rattle.charlotte_calls.specs.declared.names.EndId.{EndId}
use Rattle.typing_rules.specs.declared.exception.Exception.TheVariants as exceptions
use Rattle.lynx_meaning.specs.Needs.{NoValue, TwoLinks}
use Rattle.lynx_packets.specs.declared.value.RtValue.{RtValue}
use Rattle.lynx_packets.specs.declared.value.RtValue.TheVariants as packed
use Rattle.machine_sound.specs.Sound.{times}
use Rattle.process_sound.specs.Ends.{waiting}
use Rattle.end_protocol.specs.declared.kept.Kept.{Kept}
use Rattle.end_protocol.specs.Going.{cancel_late, receive_over, receives, sent}
use Rattle.process_run.specs.States.{Asked, Held, State}
use Rattle.process_run.specs.States as process
use Rattle.process_run.specs.Ends.{gets, held_at, keeps, unpacked}
use Rattle.process_run.specs.Reports.{answered, cancelled_so, goes_on_with, on_end, receives_so, sent_so}
use Rattle.process_sound.specs.Machine.{Fits, asks}
use Rattle.process_sound.specs.Processes.{IsFor, IsGoing}
use Rattle.process_sound.specs.Told.{IsTold}
use Rattle.process_sound.proofs.Actions.{do_going, free_waits, raise_going}
use Rattle.process_sound.proofs.Deaths.{IsHeldAs, death_going}
use Rattle.process_sound.proofs.Giving.{gives_going}
use Rattle.process_sound.proofs.Going.{Keeps, cancel_late_keeps, receive_over_keeps, receives_keeps, sent_keeps}
use Rattle.process_sound.proofs.Held.{held_as, held_with, keeps_going}
use Rattle.process_sound.proofs.Places.{gets_going}
use Rattle.process_sound.proofs.Reports.{reported_going}
use Rattle.process_sound.proofs.Threads.{asking_of}

-- ---- a `new`

abbrev pub two : List RtValue
two = packed.Link ∷ packed.Link ∷ []

pub two_fit : (n : ℕ) (s : State) → asks n s.turns ≡ Some TwoLinks → Fits n (Ok (unpacked (length s.places) two)) s
two_fit n s wants = (TwoLinks, asking_of n TwoLinks s.turns wants, (tt, (tt, tt)))

made_going : (n : ℕ) (a b : EndId) (s : State) → asks n s.turns ≡ Some TwoLinks → IsGoing [] s → IsGoing [] (goes_on_with n two (a ∷ b ∷ []) s)
made_going n a b s wants is =
    let got = gets_going [] (a ∷ b ∷ []) s is in
    gives_going [] (gets (a ∷ b ∷ []) s) n (Ok (unpacked (length s.places) two)) (free_waits n TwoLinks (gets (a ∷ b ∷ []) s) wants refl got) (two_fit n s wants) got

-- ---- calls on ends

module _ (h : Held) (s : State) (held : IsHeldAs h s) (is : IsGoing [] s) where
  change_going : (k : Kept) → Keeps s.version s.code s.turns h.kept k → IsGoing [] (keeps h k s)
  change_going k change =
      keeps_going [] [] h k s held (change.kept held.kept) (change.waits held.waits)
      (λ n. let same : times n (waiting k) ≡ times n (waiting h.kept) = ap (times n) change.same in omega arith) is

  refused_send : (c : Cause) → IsGoing [] (sent_so (Some (answer.Refused c)) h s)
  refused_send causes.Dead = death_going h s held is
  refused_send _ = is

  pub send_going : (given : Option Answer) → IsGoing [] (sent_so given h s)
  send_going (Some answer.Ok) = change_going (sent h.kept) (sent_keeps s.version s.code s.turns h.kept)
  send_going (Some (answer.Refused c)) = refused_send c
  send_going _ = is

  refused_receive : (c : Cause) → IsGoing [] (receives_so (Some (answer.Refused c)) h s)
  refused_receive causes.Dead = death_going h s held is
  refused_receive _ = is

  pub receive_going : (given : Option Answer) → IsGoing [] (receives_so given h s)
  receive_going (Some answer.Ok) = change_going (receives h.kept) (receives_keeps s.version s.code s.turns h.kept)
  receive_going (Some (answer.Refused c)) = refused_receive c
  receive_going _ = is

  late_held : IsHeldAs (record h { kept = cancel_late h.kept }) s
  late_held =
      let late = cancel_late_keeps s.version s.code s.turns h.kept in
      held_with h (cancel_late h.kept) s (late.kept held.kept) (late.waits held.waits) late.same held

  refused_cancel : (c : Cause) → IsGoing [] (cancelled_so (Some (answer.Refused c)) h s)
  refused_cancel causes.Late = change_going (cancel_late h.kept) (cancel_late_keeps s.version s.code s.turns h.kept)
  refused_cancel causes.Dead = death_going (record h { kept = cancel_late h.kept }) s late_held is
  refused_cancel _ = is

  pub cancel_going : (given : Option Answer) → IsGoing [] (cancelled_so given h s)
  cancel_going (Some answer.Ok) = change_going (receive_over h.kept) (receive_over_keeps s.version s.code s.turns h.kept)
  cancel_going (Some (answer.Refused c)) = refused_cancel c
  cancel_going _ = is

on_end_going : (o : Option Held) (next : Held → State → State) (s : State) → IsGoing [] s → ((h : Held) → o ≡ Some h → IsGoing [] (next h s)) → IsGoing [] (on_end o next s).state
on_end_going None next s is each = is
on_end_going (Some h) next s is each = each h refl

-- ---- all answers

over_going : (s : State) → IsGoing [] s → IsGoing [] (record s { over = true })
over_going s is = record { version = is.version; code = is.code; process = is.process; ends = is.ends }

module _ (s : State) (is : IsGoing [] s) where
  make_going : (n : ℕ) (given : Option Answer) → asks n s.turns ≡ Some TwoLinks → IsGoing [] (answered (process.Make n) given s).state
  make_going n (Some (answer.Made a b)) wants = made_going n a b s wants is
  make_going n None wants = raise_going n TwoLinks s wants refl is exceptions.LinksFull
  make_going n (Some answer.Ok) wants = raise_going n TwoLinks s wants refl is exceptions.LinksFull
  make_going n (Some (answer.Refused c)) wants = raise_going n TwoLinks s wants refl is exceptions.LinksFull
  make_going n (Some (answer.Reported r)) wants = raise_going n TwoLinks s wants refl is exceptions.LinksFull

  wait_going : (given : Option Answer) → IsTold given → IsGoing [] (answered process.Wait given s).state
  wait_going (Some (answer.Reported r)) told = reported_going r s told is
  wait_going None told = over_going s is
  wait_going (Some answer.Ok) told = over_going s is
  wait_going (Some (answer.Refused c)) told = over_going s is
  wait_going (Some (answer.Made a b)) told = over_going s is

  pub answered_going : (a : Asked) (given : Option Answer) → IsFor a s.turns → IsTold given → IsGoing [] (answered a given s).state
  answered_going (process.Make n) given for told = make_going n given for
  answered_going (process.Print n) given for told = do_going n NoValue s for refl is refl
  answered_going (process.Send n) given for told =
      on_end_going (held_at n s) (sent_so given) s is (λ h at. send_going h s (held_as [] s is n h at) is given)
  answered_going (process.Receive n) given for told =
      on_end_going (held_at n s) (receives_so given) s is (λ h at. receive_going h s (held_as [] s is n h at) is given)
  answered_going (process.Cancel n) given for told =
      on_end_going (held_at n s) (cancelled_so given) s is (λ h at. cancel_going h s (held_as [] s is n h at) is given)
  answered_going process.Wait given for told = wait_going given told
  answered_going process.Nothing given for told = is
  answered_going process.Destroy given for told = is
  answered_going process.Exit given for told = is
