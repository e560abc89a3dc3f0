-- What two threads did in a small history.
use Rattle.std.specs.Prelude.{◌≡◌, ℕ, List, [], ◌∷◌, Option, None, Some, Ok, codes, refl}
use Rattle.lynx_code.specs.declared.instruction.Instruction.{Instruction}
use Rattle.lynx_code.specs.declared.instruction.Instruction.TheVariants as code
use Rattle.lynx_code.specs.declared.instruction.Literal.TheVariants as literal
use Rattle.lynx_meaning.specs.Code.{Comes, Program, code_meaning}
use Rattle.lynx_meaning.specs.Courses.{Action, Answer, Connect, Close, Store, Write, Ended, Waits}
use Rattle.lynx_meaning.specs.Values.{Value, Link, Text}
use Rattle.code_shapes.specs.Shapes.{PartTypes}
use Rattle.machine_law.specs.Lives.{Life}
use Rattle.machine_law.specs.Histories.{Move, Beats, Gives, Spawns, DidByCode, body_part, life_of}

abbrev old : List ℕ
old = codes "old"

abbrev new : List ℕ
new = codes "new"

-- connect o on l () : (); write w. The entry: w := 'new'.
abbrev program : Program
program = record {
  instructions = code.LoadG 0 ∷ code.Connect 0 ∷ code.LoadG 1 ∷ code.Write ∷ code.End ∷ code.Push (literal.Text new) ∷ code.StoreG 1 ∷ code.End ∷ [];
  arguments = 0 ∷ [];
}

abbrev entry : PartTypes
entry = record { start = 5; op = Some 0; locals = [] }

-- a link and a word
abbrev variables : List ℕ → List Value
variables word = Link 1 ∷ Text word ∷ []

abbrev store : List ℕ → Store
store word = record { globals = variables word; locals = [] }

abbrev answer : List ℕ → Answer
answer word = record { given = Ok []; globals = variables word }

-- the body connects; the entry's thread begins, changes the word, and closes its request
abbrev changed : List Move
changed = Beats 3 18 ∷ Spawns 1 entry [] ∷ Beats 2 20 ∷ []

-- the connect has its outcome, and then the close
abbrev given : List Move
given = Gives 1 (Ok []) ∷ Gives 0 (Ok []) ∷ changed

-- the entry's thread ends, and the body goes on
abbrev over : List Move
over = Beats 4 15 ∷ given

abbrev life : ℕ → List Move → Option Life
life n moves = life_of program (variables old) n moves

abbrev connecting : Action
connecting = Connect (Link 1) 0 []

-- an outcome with which a thread has not gone on is no answer yet
pub it_connects : life 0 given ≡ Some (record { part = body_part; arguments = []; first = Some (variables old); made = 2; answers = []; did = Waits (connecting ∷ []) (store old) })
it_connects = refl

pub it_closes : life 1 given ≡ Some (record { part = entry; arguments = []; first = Some (variables old); made = 3; answers = []; did = Waits (Close ∷ []) (store new) })
it_closes = refl

-- its answer has the word as the body goes on with it
pub it_writes : life 0 over ≡ Some (record { part = body_part; arguments = []; first = Some (variables old); made = 4; answers = answer new ∷ []; did = Waits (connecting ∷ Write new ∷ []) (store new) })
it_writes = refl

pub it_ended : life 1 over ≡ Some (record { part = entry; arguments = []; first = Some (variables old); made = 3; answers = answer new ∷ []; did = Ended (Close ∷ []) (store new) })
it_ended = refl

-- so the code writes it
pub the_code_writes : code_meaning program [] 0 4 (store old) (answer new ∷ []) ≡ Comes (Waits (connecting ∷ Write new ∷ []) (store new))
the_code_writes = refl

-- with the word as it stood when the body connected the code would write that
pub it_would_write : code_meaning program [] 0 4 (store old) (answer old ∷ []) ≡ Comes (Waits (connecting ∷ Write old ∷ []) (store old))
it_would_write = refl
