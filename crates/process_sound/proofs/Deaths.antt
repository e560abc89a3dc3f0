-- Ends die, and are destroyed.
use Rattle.std.proofs.Common.{arith, ◌≡◌, ℕ, ◌+◌, ◌≤◌, List, [], ◌∷◌, Some, refl, ap}
use Rattle.typing_rules.specs.declared.exception.Exception.TheVariants as exceptions
use Rattle.machine_sound.specs.Sound.{times}
use Rattle.machine_turns.specs.Turns.{Turns}
use Rattle.end_protocol.specs.declared.falling.Fallen.{Fallen}
use Rattle.end_protocol.specs.declared.kept.Kept.{Kept}
use Rattle.end_protocol.specs.Falling.{destroyed, dies, fallen, held_again, raised}
use Rattle.end_protocol.specs.Going.{returns}
use Rattle.process_run.specs.States.{Gone, Held, Keeps, Module, Place, State}
use Rattle.process_run.specs.Deaths.{destroys, dies_at, falls}
use Rattle.process_run.specs.Ends.{dooms, holds_again, place_at, puts}
use Rattle.process_sound.specs.Machine.{MayRaise}
use Rattle.process_sound.specs.Ends.{AreWaiting, IsKept, waiting, waiting_in}
use Rattle.process_sound.specs.Processes.{IsGoing}
use Rattle.process_sound.proofs.Giving.{may_raise, raised_going}
use Rattle.process_sound.proofs.Places.{dooms_going, holds_going, puts_going}

-- ---- what is kept for an end that is dead

pub fallen_waits : (k : Kept) → raised (fallen k) ≡ waiting k
unfolding fallen
fallen_waits k = refl

pub dead_kept : (version : ℕ) (m : Module) (k : Kept) → IsKept version m k → IsKept version m (dies k)
unfolding dies
dead_kept version m k is = record { queue = tt; last = is.last; outstanding = tt; behind = tt; owed = is.owed; forbade = is.forbade; request = tt; reply = tt; bindings = tt }

pub dead_waiting : (m : Module) (t : Turns) (k : Kept) → AreWaiting m t (dies k)
unfolding dies
dead_waiting m t k = record { outstanding = tt; behind = tt; accepts = tt }

pub dead_waits : (k : Kept) → waiting (dies k) ≡ []
unfolding dies
dead_waits k = refl

-- ---- an end that is held

-- This may be kept for it: no thread waits there that does not wait there now.
pub record IsHeldAs (h : Held) (s : State) : Type 0 where
  pub place : Place
  pub there : place_at h.number s.places ≡ Some place
  pub kept : IsKept s.version s.code h.kept
  pub waits : AreWaiting s.code s.turns h.kept
  pub fewer : (n : ℕ) → times n (waiting h.kept) ≤ times n (waiting_in place.holding)

-- what falls with an end, while the threads that wait there are still to have their outcome
pub falls_going : (f : Fallen) (s : State) → IsGoing (raised f) s → IsGoing [] (falls f s)
falls_going f s is =
    raised_going (raised f) exceptions.DeadLink (dooms (destroyed f) (holds_again (held_again f) s))
    (dooms_going (raised f) (destroyed f) (holds_again (held_again f) s) (holds_going (raised f) (held_again f) s is))

module _ (h : Held) (s : State) (held : IsHeldAs h s) (is : IsGoing [] s) where
  leaves : (before : List ℕ) → before ≡ [] → (n : ℕ) → times n before + times n (raised (fallen h.kept)) ≤ times n (waiting_in held.place.holding) + times n []
  leaves before none n =
      let fewer = held.fewer n in
      let all : times n (raised (fallen h.kept)) ≡ times n (waiting h.kept) = ap (times n) (fallen_waits h.kept) in
      let nothing : times n before ≡ 0 = ap (times n) none in
      omega arith

  dead_going : IsGoing (raised (fallen h.kept)) (puts h.number (Keeps (dies h.kept)) s)
  dead_going = puts_going [] (raised (fallen h.kept)) h.number (Keeps (dies h.kept)) held.place s held.there
      (dead_kept s.version s.code h.kept held.kept, dead_waiting s.code s.turns h.kept) (leaves (waiting (dies h.kept)) (dead_waits h.kept)) is

  gone_going : IsGoing (raised (fallen h.kept)) (puts h.number (Gone (returns h.kept.sending)) s)
  gone_going = puts_going [] (raised (fallen h.kept)) h.number (Gone (returns h.kept.sending)) held.place s held.there tt (leaves [] refl) is

  pub death_going : IsGoing [] (dies_at h s)
  unfolding dies_at
  death_going = falls_going (fallen h.kept) (puts h.number (Keeps (dies h.kept)) s) dead_going

  pub destroy_going : IsGoing [] (destroys h s)
  unfolding destroys
  destroy_going =
      falls_going (fallen h.kept) (dooms (h.end ∷ []) (puts h.number (Gone (returns h.kept.sending)) s))
      (dooms_going (raised (fallen h.kept)) (h.end ∷ []) (puts h.number (Gone (returns h.kept.sending)) s) gone_going)

  -- DEADLINK may be raised in the threads that wait there
  pub death_raises : MayRaise (raised (fallen h.kept)) exceptions.DeadLink s
  death_raises =
      may_raise s.version s.code s.turns (raised (fallen h.kept)) (puts h.number (Gone (returns h.kept.sending)) s).places exceptions.DeadLink gone_going.ends
