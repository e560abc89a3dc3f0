-- What an instruction finds, and what it does.
use Rattle.std.specs.Prelude.{◌≡◌, ℕ, zero, suc, ◌<◌, ◌≤◌, List, [], ◌∷◌, length, Option, None, Some, slice_get, ⊤}
use Rattle.typing_rules.specs.declared.exception.Exception.{Exception}
use Rattle.lynx_code.specs.declared.instruction.Instruction.{Instruction}
use Rattle.lynx_code.specs.declared.instruction.Instruction.TheVariants as code
use Rattle.lynx_meaning.specs.Code.{Opened, Program, step}
use Rattle.lynx_meaning.specs.Values.{Value, Int, Truth, Text, Link}
use Rattle.machine_stack.specs.Stacks.{TopIsInt, TopIsTruth, TopIsLink, TopIsLike, AreAlikeOnTop, IsRow}
use Rattle.machine_turns.specs.Threads.{Standing, Made, Went, Broken, if_went, comes_of, course, in_turn, is_await, made}

-- what comes of an instruction of a thread, with these variables of the module
abbrev pub does : Program → Instruction → List Value → Standing → Made
does p i globals s = made (is_await (Some i)) s (step p (in_turn globals s) i)

-- ---- what stands on top

abbrev pub AreInts : List Value → Type 0
AreInts (Int b ∷ Int a ∷ vs) = ⊤
AreInts _ = ⊥

-- what can be written
abbrev pub TopIsPlain : List Value → Type 0
TopIsPlain (Int n ∷ vs) = ⊤
TopIsPlain (Truth b ∷ vs) = ⊤
TopIsPlain (Text bytes ∷ vs) = ⊤
TopIsPlain _ = ⊥

abbrev pub IsOpen : List Opened → Type 0
IsOpen (o ∷ os) = ⊤
IsOpen [] = ⊥

abbrev pub IsPending : Option Exception → Type 0
IsPending (Some exception) = ⊤
IsPending None = ⊥

-- a link, and below it so many values
abbrev pub HasValues : Option ℕ → List Value → Type 0
HasValues (Some k) (Link l ∷ vs) = k ≤ length vs
HasValues _ _ = ⊥

-- the instruction finds the operands that it takes, each of its kind
abbrev pub Finds : Program → Instruction → List Value → Standing → Type 0
Finds p (code.Push l) globals s = ⊤
Finds p (code.LoadG slot) globals s = slot < length globals
Finds p (code.LoadL slot) globals s = slot < length s.locals
Finds p (code.AtG slot) globals s = IsRow (slice_get globals slot) × TopIsInt s.stack
Finds p (code.AtL slot) globals s = IsRow (slice_get s.locals slot) × TopIsInt s.stack
Finds p (code.StoreG slot) globals s = TopIsLike (slice_get globals slot) s.stack
Finds p (code.StoreL slot) globals s = TopIsLike (slice_get s.locals slot) s.stack
Finds p (code.PutG slot) globals s = IsRow (slice_get globals slot) × AreInts s.stack
Finds p (code.PutL slot) globals s = IsRow (slice_get s.locals slot) × AreInts s.stack
Finds p code.Add globals s = AreInts s.stack
Finds p code.Sub globals s = AreInts s.stack
Finds p code.Mul globals s = AreInts s.stack
Finds p code.Div globals s = AreInts s.stack
Finds p code.Mod globals s = AreInts s.stack
Finds p code.Neg globals s = TopIsInt s.stack
Finds p code.Eq globals s = AreAlikeOnTop s.stack
Finds p code.Ne globals s = AreAlikeOnTop s.stack
Finds p code.Lt globals s = AreInts s.stack
Finds p code.Le globals s = AreInts s.stack
Finds p code.Gt globals s = AreInts s.stack
Finds p code.Ge globals s = AreInts s.stack
Finds p code.Not globals s = TopIsTruth s.stack
Finds p (code.AndJ address) globals s = TopIsTruth s.stack
Finds p (code.OrJ address) globals s = TopIsTruth s.stack
Finds p (code.JumpF address) globals s = TopIsTruth s.stack
Finds p (code.Jump address) globals s = ⊤
Finds p (code.Await address) globals s = TopIsTruth s.stack
Finds p (code.Try address) globals s = ⊤
Finds p code.Untry globals s = IsOpen s.tries
Finds p (code.Case exception address) globals s = IsPending s.pending
Finds p code.Again globals s = IsPending s.pending
Finds p (code.Raise exception) globals s = ⊤
Finds p code.Write globals s = TopIsPlain s.stack
Finds p code.New globals s = ⊤
Finds p code.Destroy globals s = TopIsLink s.stack
Finds p (code.Bind entry) globals s = TopIsLink s.stack
Finds p (code.Unbind entry) globals s = TopIsLink s.stack
Finds p (code.Connect op) globals s = HasValues (slice_get p.arguments op) s.stack
Finds p (code.Accept op) globals s = TopIsLink s.stack
Finds p code.Close globals s = 0 < length s.requests
Finds p (code.Reply k) globals s = k ≤ length s.stack
Finds p code.Stop globals s = ⊤
Finds p code.End globals s = ⊤

-- an instruction is there, and finds its operands
abbrev pub FindsInstruction : Program → Option Instruction → List Value → Standing → Type 0
FindsInstruction p None globals s = ⊥
FindsInstruction p (Some i) globals s = Finds p i globals s

abbrev pub IsReady : Program → List Value → Standing → Type 0
IsReady p globals s = FindsInstruction p (slice_get p.instructions s.address) globals s

-- ---- a thread alone

-- with so much fuel the thread comes so far: the fuel that is left, and what comes of the last instruction
abbrev pub HasCome : Program → ℕ → List Value → Standing → ℕ → Made → Type 0
HasCome p fuel globals s left last = (k : ℕ) × (course p k fuel globals s ≡ (left, last))

-- and makes one instruction at least where there is fuel
abbrev pub IsCourse : Program → ℕ → List Value → Standing → ℕ → Made → Type 0
IsCourse p fuel globals s left last = (k : ℕ) × (course p (suc k) fuel globals s ≡ (left, last))

-- what comes of so many instructions
abbrev pub after : Program → ℕ → List Value → Standing → Made
after p zero globals s = Went globals s
after p (suc k) globals s = if_went (comes_of p globals s) (λ now t. after p k now t) (λ last. Broken)

-- each instruction that the thread comes to finds its operands
abbrev pub StaysReady : Program → List Value → Standing → Type 0
StaysReady p globals s = (k : ℕ) (now : List Value) (t : Standing) → after p k globals s ≡ Went now t → IsReady p now t
