-- What a thread reaches in code.
use Rattle.std.specs.Prelude.{◌≡◌, ℕ, ◌+◌, ◌≤◌, List, [], ◌∷◌, Option, None, Some, slice_get, ⊤}
use Rattle.lynx_code.specs.declared.instruction.Instruction.{Instruction}
use Rattle.typing_rules.specs.declared.exception.Exception.{Exception}
use Rattle.lynx_meaning.specs.Code.{CodeBehaviour, Comes, Next, Opened, Program, Stuck, Thread, exec, go_on, raises}
use Rattle.lynx_meaning.specs.Courses.{Moment, Ended, Waits, Out}
use Rattle.lynx_meaning.specs.Values.{Value}

-- the instructions stand in the code from this address on
abbrev pub StandAt : List Instruction → ℕ → List Instruction → Type 0
StandAt code at [] = ⊤
StandAt code at (i ∷ is) = (slice_get code at ≡ Some i) × StandAt code (at + 1) is

-- a thread, by its parts
abbrev pub thread : ℕ → List Value → List Opened → List ℕ → Option Exception → Moment → Thread
thread address stack tries requests pending m =
    record { address = address; stack = stack; tries = tries; requests = requests; pending = pending; moment = m }

-- However many instructions a thread is to make at last, with some more it comes first to this.
pub record Reaches (p : Program) (t : Thread) (next : Next) : Type 0 where
  pub by : (k : ℕ) → (j : ℕ) × (k ≤ j) × (exec p j t ≡ go_on next (exec p k))

-- Tries that were opened by statements, where so many requests are open now: no operand stood on the stack, and no more requests were open.
abbrev pub AreNested : ℕ → List Opened → Type 0
AreNested depth [] = ⊤
AreNested depth (o ∷ os) = (o.height ≡ 0) × (o.depth ≤ depth) × AreNested o.depth os

-- what comes where an exception is raised: it goes by the open tries, the open requests and the moment alone
abbrev pub thrown : List Opened → List ℕ → Exception → Moment → Next
thrown tries requests exception m = raises exception (thread 0 [] tries requests None m)

-- an outcome that more instructions do not change
abbrev pub IsFinal : CodeBehaviour → Type 0
IsFinal (Comes (Ended actions store)) = ⊤
IsFinal (Comes (Waits actions store)) = ⊤
IsFinal (Comes (Out actions)) = ⊥
IsFinal Stuck = ⊤
