-- A thread is given its outcome.
use Rattle.std.proofs.Common.{arith, ◌≡◌, ℕ, ◌+◌, ◌≤◌, true, false, Bool, List, [], ◌∷◌, Some, Err, ap, ◌∙◌}
use Rattle.code_shapes.specs.Shapes.{program}
use Rattle.lynx_meaning.specs.Courses.{Outcome}
use Rattle.lynx_meaning.specs.Needs.{Wanted}
use Rattle.typing_rules.specs.declared.exception.Exception.{Exception}
use Rattle.machine_sound.specs.Sound.{FitsAction, one_if, times}
use Rattle.machine_sound.proofs.Outside.{given_sound}
use Rattle.machine_requests.proofs.Outside.{given_heard_there}
use Rattle.machine_turns.specs.Turns.{Turns, given_to, is_ready_after}
use Rattle.process_run.specs.States.{Module, Open, Place, State}
use Rattle.process_run.specs.Deaths.{gives, raises, raises_in}
use Rattle.process_sound.specs.Machine.{Fits, IsProcessOf, MayRaiseIn, asks}
use Rattle.process_sound.specs.Ends.{AreEnds, waits}
use Rattle.process_sound.specs.Processes.{IsGoing}
use Rattle.process_sound.proofs.Staying.{ends_stay}
use Rattle.process_sound.proofs.Threads.{asking_of, given_others, waits_for}
use Rattle.process_sound.proofs.Times.{once_itself}

pub given_process : (code : Module) (t : Turns) (opened : List (List Open)) (n : ℕ) (outcome : Outcome) → IsProcessOf code t opened → FitsAction code.types n outcome t → IsProcessOf code (given_to n outcome t) opened
given_process code t opened n outcome is fits = record {
  sound = given_sound code.types code.parts code.instructions t n outcome is.sound fits;
  parts = is.parts;
  heard = given_heard_there (program code.types code.instructions) t n outcome fits.0 is.heard fits.1;
  lists = is.lists;
}

-- ---- the ends

-- a number of which there is none is another one
apart : (count : ℕ → ℕ) (n k : ℕ) → count n ≡ 0 → 1 ≤ count k → k ≡ n → ⊥
apart count n k none some same = let here : count k ≡ 0 = ap count same ∙ none in omega (arith, here, some)

-- the thread waits at no end
pub given_ends : (version : ℕ) (m : Module) (t : Turns) (owed : List ℕ) (ps : List Place) (n : ℕ) (outcome : Outcome) → waits n ps + times n owed ≡ 0 → AreEnds version m t owed ps →
    AreEnds version m (given_to n outcome t) owed ps
given_ends version m t owed ps n outcome none are =
    ends_stay m t (given_to n outcome t) version owed ps (λ k some. given_others n k outcome t (apart (λ i. waits i ps + times i owed) n k none some)) are

at_most_one : (b : Bool) → one_if b ≤ 1
at_most_one true = omega arith
at_most_one false = omega arith

module _ (version : ℕ) (m : Module) (t : Turns) (n : ℕ) (owed : List ℕ) (ps : List Place) (are : AreEnds version m t (n ∷ owed) ps) where
  -- the first thread that is still to have its outcome asks for something, and waits nowhere
  pub owed_asks : (w : Wanted) × (asks n t ≡ Some w)
  owed_asks = waits_for (asks n t) (let once = are.once n in let one = once_itself n in omega arith)

  pub owed_none : waits n ps + times n owed ≡ 0
  owed_none = let once = are.once n in let one = once_itself n in let most = at_most_one (is_ready_after (asks n t)) in omega arith

  pub owed_less : AreEnds version m t owed ps
  owed_less = record { each = are.each; once = λ k. let once = are.once k in omega arith }

  pub owed_fits : (x : Exception) → FitsAction m.types n (Err x) t
  owed_fits x = (owed_asks.0, asking_of n owed_asks.0 t owed_asks.1, tt)

-- an exception may be raised in all threads that are still to have their outcome
pub may_raise : (version : ℕ) (m : Module) (t : Turns) (ns : List ℕ) (ps : List Place) (x : Exception) → AreEnds version m t ns ps → MayRaiseIn ns x m.types t
may_raise version m t [] ps x are = tt
may_raise version m t (n ∷ ns) ps x are = (
  owed_fits version m t n ns ps are x,
  may_raise version m (given_to n (Err x) t) ns ps x (given_ends version m t ns ps n (Err x) (owed_none version m t n ns ps are) (owed_less version m t n ns ps are)),
)

-- ---- the process

pub gives_going : (owed : List ℕ) (s : State) (n : ℕ) (outcome : Outcome) → waits n s.places + times n owed ≡ 0 → Fits n outcome s → IsGoing owed s → IsGoing owed (gives n outcome s)
gives_going owed s n outcome none fits is = record {
  version = is.version;
  code = is.code;
  process = given_process s.code s.turns s.opened n outcome is.process fits;
  ends = given_ends s.version s.code s.turns owed s.places n outcome none is.ends;
}

-- a thread that is still to have its outcome is given it
pub pays_going : (n : ℕ) (owed : List ℕ) (s : State) (outcome : Outcome) → Fits n outcome s → IsGoing (n ∷ owed) s → IsGoing owed (gives n outcome s)
pays_going n owed s outcome fits is =
    gives_going owed s n outcome (owed_none s.version s.code s.turns n owed s.places is.ends) fits
    (record { version = is.version; code = is.code; process = is.process; ends = owed_less s.version s.code s.turns n owed s.places is.ends })

pub raised_going : (ns : List ℕ) (x : Exception) (s : State) → IsGoing ns s → IsGoing [] (raises_in ns x s)
raised_going [] x s is = is
raised_going (n ∷ ns) x s is = raised_going ns x (raises n x s) (pays_going n ns s (Err x) (owed_fits s.version s.code s.turns n ns s.places is.ends x) is)
