-- A thread of an entry begins.
use Rattle.std.proofs.Common.{arith, ◌≡◌, ◌<◌, ℕ, List, length, Option, Some, None, slice_get, refl, sym, ap, ◌∙◌}
use Rattle.std.specs.Prelude.{IsNone, IfSome, ◌↔◌}
use Rattle.std.proofs.lemmas.Option.{slice_get_within}
use Rattle.lynx_meaning.specs.Values.{Value}
use Rattle.machine_turns.specs.Turns.{Turns, most_threads}
use Rattle.lynx_interp.specs.Machines.{IsEntryFor, IsSpawned, StandBelow, how_many}
use Rattle.lynx_interp.specs.Machines as machines
use Rattle.process_run.specs.States.{State}
use Rattle.process_run.specs.Reports.{free_from}
use Rattle.process_run.proofs.Numbers.{first_free, none_free}
use Rattle.process_sound.specs.May.{IsEntry}
use Rattle.lynx_rt.specs.Kept.{IsProcess}

number_free : (n : ℕ) (t : Turns) → slice_get t.threads n ≡ Some None → StandBelow n t → Some n ≡ free_from 0 t.threads
number_free n t free below = sym (first_free 0 n t.threads free below ∙ ap (λ (k : ℕ). Some k) (omega arith))

number_none : (s : State) → IsProcess s → how_many s.turns.threads ≡ most_threads → None ≡ free_from 0 s.turns.threads
number_none s process full = sym (none_free 0 s.turns.threads (full ∙ sym process.sound.many))

number_below : (n : ℕ) (s : State) → IsProcess s → slice_get s.turns.threads n ≡ Some None → n < length s.opened
number_below n s process free =
    let less : n < length s.turns.threads = slice_get_within s.turns.threads n None free in omega (arith, less, process.sound.many, process.lists)

-- of a thread that was to begin, as its machine tells
pub begun_number : (o : Option ℕ) (entry : ℕ) (vs : List Value) (m n : machines.State) (s : State) → m.turns ≡ s.turns → IsProcess s
    → IsNone o ↔ (how_many m.turns.threads ≡ most_threads) → IfSome o (λ k. IsSpawned k entry vs m n) → IfSome o (λ k. StandBelow k m.turns) → o ≡ free_from 0 s.turns.threads
begun_number None entry vs m n s is process full begins below = number_none s process (sym (ap (λ (t : Turns). how_many t.threads) is) ∙ full.0 refl)
begun_number (Some k) entry vs m n s is process full begins below = number_free k m.turns begins.0 below ∙ ap (λ (t : Turns). free_from 0 t.threads) is

pub begun_below : (o : Option ℕ) (entry : ℕ) (vs : List Value) (m n : machines.State) (s : State) → m.turns ≡ s.turns → IsProcess s
    → IfSome o (λ k. IsSpawned k entry vs m n) → IfSome o (λ k. k < length s.opened)
begun_below None entry vs m n s is process begins = tt
begun_below (Some k) entry vs m n s is process begins = number_below k s process (sym (ap (λ (t : Turns). slice_get t.threads k) is) ∙ begins.0)
