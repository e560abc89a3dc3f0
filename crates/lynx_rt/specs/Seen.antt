-- A process as its definition has it.
use Rattle.std.specs.Prelude.{Bool, ℕ, List, map}
use Rattle.charlotte_calls.specs.declared.names.EndId.{EndId}
use Rattle.lynx_interp.specs.Machines as machines
use Rattle.process_run.specs.States.{Module, Open, Place, State}
use Rattle.process_run.specs.States as process
use Rattle.lynx_rt.specs.declared.asked.Asked.{Asked}
use Rattle.lynx_rt.specs.declared.asked.Asked.TheVariants as asked

abbrev pub asked_of : Asked → process.Asked
asked_of asked.Nothing = process.Nothing
asked_of (asked.Make thread) = process.Make thread
asked_of (asked.Print thread) = process.Print thread
asked_of asked.Destroy = process.Destroy
asked_of (asked.Send n) = process.Send n
asked_of (asked.Receive n) = process.Receive n
asked_of (asked.Cancel n) = process.Cancel n
asked_of asked.Wait = process.Wait
asked_of asked.Exit = process.Exit

-- the code that a machine runs
abbrev pub module_in : machines.State → Module
module_in m =
    record {
      instructions = m.instructions;
      types = m.types;
      parts = m.parts;
      signatures = map (λ op. op.signature.items) m.code.ops.items;
    }

-- the process of this version, with this machine
abbrev pub state_with : ℕ → machines.State → List Place → List (List Open) → List EndId → Asked → Bool → State
state_with version m places opened doomed asked over =
    record {
      version = version;
      code = module_in m;
      turns = m.turns;
      places = places;
      opened = opened;
      doomed = doomed;
      asked = asked_of asked;
      over = over;
    }
