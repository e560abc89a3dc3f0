-- What threads ask for, as turns change.
use Rattle.std.proofs.Common.{arith, ◌≡◌, ℕ, ◌≤◌, List, Option, Some, None, slice_get, refl, ap, ◌∙◌}
use Rattle.lynx_meaning.specs.Courses.{Outcome}
use Rattle.lynx_meaning.specs.Needs.{Wanted}
use Rattle.lynx_meaning.specs.Values.{Value}
use Rattle.machine_sound.specs.Sound.{IsAsking, one_if}
use Rattle.machine_sound.proofs.Outside.{given_stay, spawned_stay}
use Rattle.machine_turns.specs.Threads.{Standing}
use Rattle.machine_turns.specs.Turns.{IsFree, Turns, given_to, is_ready_after, spawned}
use Rattle.process_sound.specs.Machine.{asks, wanted_in}

asking_from : (n : ℕ) (w : Wanted) (t : Turns) (o : Option (Option Standing)) → slice_get t.threads n ≡ o → wanted_in o ≡ Some w → IsAsking n w t
asking_from n w t None there wants = let no : None ≡ Some w = wants in absurd cc
asking_from n w t (Some None) there wants = let no : None ≡ Some w = wants in absurd cc
asking_from n w t (Some (Some s)) there wants = (s, there, wants)

pub asking_of : (n : ℕ) (w : Wanted) (t : Turns) → asks n t ≡ Some w → IsAsking n w t
asking_of n w t wants = asking_from n w t (slice_get t.threads n) refl wants

pub asks_of : (n : ℕ) (w : Wanted) (t : Turns) → IsAsking n w t → asks n t ≡ Some w
asks_of n w t is = ap wanted_in is.1 ∙ is.2

-- one that waits asks for something
pub waits_for : (o : Option Wanted) → 1 ≤ one_if (is_ready_after o) → (w : Wanted) × (o ≡ Some w)
waits_for None some = absurd (omega (arith, some))
waits_for (Some w) some = (w, refl)

pub given_others : (n k : ℕ) (outcome : Outcome) (t : Turns) → (k ≡ n → ⊥) → asks k (given_to n outcome t) ≡ asks k t
given_others n k outcome t other = ap wanted_in ((given_stay t n outcome).threads k other)

pub spawned_others : (n k : ℕ) (requests : List ℕ) (start : ℕ) (locals : List Value) (t : Turns) → (k ≡ n → ⊥) → asks k (spawned n requests start locals t) ≡ asks k t
spawned_others n k requests start locals t other = ap wanted_in ((spawned_stay t n requests start locals).threads k other)

pub free_asks : (n : ℕ) (t : Turns) → IsFree n t → asks n t ≡ None
free_asks n t free = ap wanted_in free
