-- The shapes that code gives a thread: what stands on its stack at each address, and which tries and requests are open.
use Rattle.std.specs.Prelude.{◌≡◌, ◌≤◌, ◌<◌, ℕ, ◌+◌, ◌-◌, List, [], ◌∷◌, ◌++◌, length, map, reverse}
use Rattle.std.specs.Prelude.{drop, Bool, true, false, IsTrue, Option, None, Some, slice_get, ⊤}
use Rattle.std.specs.Option.{is_some}
use Rattle.lynx_tree.specs.declared.declaration.TypeName.{TypeName}
use Rattle.lynx_tree.specs.declared.declaration.TypeName.TheVariants as types
use Rattle.lynx_code.specs.declared.code.Code.{Code}
use Rattle.lynx_code.specs.declared.code.CodeOp.{CodeOp}
use Rattle.lynx_code.specs.declared.code.Part.{Part}
use Rattle.lynx_code.specs.declared.instruction.Instruction.{Instruction}
use Rattle.lynx_code.specs.declared.instruction.Instruction.TheVariants as code
use Rattle.lynx_code.specs.declared.instruction.Literal.{Literal}
use Rattle.lynx_code.specs.declared.instruction.Literal.TheVariants as literal
use Rattle.lynx_meaning.specs.Code.{Opened, Program, Thread, value_of_literal, cut}
use Rattle.lynx_meaning.specs.Needs.{OpTypes}
use Rattle.lynx_meaning.specs.Values.{HasType, HaveTypes}

-- the types of the module's variables, and of its operations; and how many entries it has
pub record ModuleTypes : Type 0 where
  pub globals : List TypeName
  pub ops : List OpTypes
  pub entries : ℕ

-- the body of a module, or an entry: where it begins, the operation that it serves, and the types of its parameters and variables
pub record PartTypes : Type 0 where
  pub start : ℕ
  pub op : Option ℕ
  pub locals : List TypeName

-- a thread before an instruction
pub record Shape : Type 0 where
  -- the types of its part's variables
  pub locals : List TypeName
  -- the types of the operands, the last one first
  pub stack : List TypeName
  -- the open tries, the innermost one first
  pub tries : List Opened
  -- the operations of the open requests, the innermost one first
  pub requests : List ℕ
  -- an exception is there for handlers to look at
  pub pending : Bool

-- the shape at each address; there is none behind the code
abbrev pub Shapes : Type 0
Shapes = ℕ → Option Shape

-- ---- what a shape asks of what follows

-- a thread of the first shape is one of the second
pub record IsWithin (s wider : Shape) : Type 0 where
  pub locals : wider.locals ≡ s.locals
  pub stack : wider.stack ≡ s.stack
  pub tries : wider.tries ≡ s.tries
  pub requests : wider.requests ≡ s.requests
  pub pending : IsTrue wider.pending → IsTrue s.pending

-- a thread of this shape may go on at this address
abbrev pub Leads : Shapes → ℕ → Shape → Type 0
Leads shapes address s = (there : Shape) × (shapes address ≡ Some there) × IsWithin s there

-- the thread may raise an exception where its stack is this: the handlers of the innermost open try are there for it
abbrev pub RaisesIn : Shapes → List TypeName → Shape → List Opened → Type 0
RaisesIn shapes stack s [] = ⊤
RaisesIn shapes stack s (o ∷ os) =
    (o.height ≤ length stack) × Leads shapes o.handlers
    (record s { stack = drop (length stack - o.height) stack; tries = os; requests = cut o.depth s.requests; pending = true })

abbrev pub MayRaise : Shapes → List TypeName → Shape → Type 0
MayRaise shapes stack s = RaisesIn shapes stack s s.tries

-- the types of values that come on a stack in their order
abbrev pub pushed : List TypeName → List TypeName → List TypeName
pushed ts stack = reverse ts ++ stack

abbrev pub literal_type : Literal → TypeName
literal_type (literal.Int n) = types.Int
literal_type (literal.Bool b) = types.Bool
literal_type (literal.Text bytes) = types.Text

-- what `write` takes; numbers, truths and texts are also what is compared
abbrev pub IsPlain : TypeName → Type 0
IsPlain types.Int = ⊤
IsPlain types.Bool = ⊤
IsPlain types.Text = ⊤
IsPlain _ = ⊥

abbrev pub IsRow : Option TypeName → Type 0
IsRow (Some (types.Row n)) = ⊤
IsRow _ = ⊥

-- ---- the stack of each form of instruction

abbrev pub Takes : List TypeName → Shape → (List TypeName → Type 0) → Type 0
Takes ts s Rest = (below : List TypeName) × (s.stack ≡ ts ++ below) × Rest below

-- an instruction that goes on with another stack
abbrev pub LeadsOn : Shapes → ℕ → Shape → List TypeName → Type 0
LeadsOn shapes at s stack = Leads shapes (at + 1) (record s { stack = stack })

-- or raises an exception, on the stack that it found
abbrev pub Gives : Shapes → ℕ → Shape → List TypeName → Type 0
Gives shapes at s stack = LeadsOn shapes at s stack × MayRaise shapes s.stack s

-- an action, after which these values come on the stack; an exception leaves the stack below
abbrev pub Asks : Shapes → ℕ → Shape → List TypeName → List TypeName → Type 0
Asks shapes at s below ts = LeadsOn shapes at s (pushed ts below) × MayRaise shapes below s

abbrev pub Loads : Shapes → ℕ → Shape → Option TypeName → Type 0
Loads shapes at s None = ⊥
Loads shapes at s (Some t) = LeadsOn shapes at s (t ∷ s.stack)

abbrev pub Stores : Shapes → ℕ → Shape → Option TypeName → Type 0
Stores shapes at s None = ⊥
Stores shapes at s (Some t) = Takes (t ∷ []) s (λ below. LeadsOn shapes at s below)

abbrev pub LoadsMember : Shapes → ℕ → Shape → Option TypeName → Type 0
LoadsMember shapes at s variable = IsRow variable × Takes (types.Int ∷ []) s (λ below. Gives shapes at s (types.Int ∷ below))

abbrev pub StoresMember : Shapes → ℕ → Shape → Option TypeName → Type 0
StoresMember shapes at s variable = IsRow variable × Takes (types.Int ∷ types.Int ∷ []) s (λ below. Gives shapes at s below)

abbrev pub Computes : Shapes → ℕ → Shape → Type 0
Computes shapes at s = Takes (types.Int ∷ types.Int ∷ []) s (λ below. Gives shapes at s (types.Int ∷ below))

abbrev pub Compares : Shapes → ℕ → Shape → Type 0
Compares shapes at s = Takes (types.Int ∷ types.Int ∷ []) s (λ below. LeadsOn shapes at s (types.Bool ∷ below))

abbrev pub ComparesAlike : Shapes → ℕ → Shape → Type 0
ComparesAlike shapes at s = (t : TypeName) × IsPlain t × Takes (t ∷ t ∷ []) s (λ below. LeadsOn shapes at s (types.Bool ∷ below))

-- what decides stays, and else goes
abbrev pub Decides : Shapes → ℕ → ℕ → Shape → Type 0
Decides shapes at address s = Takes (types.Bool ∷ []) s (λ below. Leads shapes address s × LeadsOn shapes at s below)

-- an action on a link
abbrev pub AsksOnLink : Shapes → ℕ → Shape → Type 0
AsksOnLink shapes at s = Takes (types.Link ∷ []) s (λ below. Asks shapes at s below [])

abbrev pub Connects : Shapes → ℕ → Shape → Option OpTypes → Type 0
Connects shapes at s None = ⊥
Connects shapes at s (Some op) = Takes (types.Link ∷ reverse op.arguments) s (λ below. Asks shapes at s below op.results)

abbrev pub Accepts : Shapes → ℕ → Shape → ℕ → Option OpTypes → Type 0
Accepts shapes at s number None = ⊥
Accepts shapes at s number (Some op) =
    Takes (types.Link ∷ []) s
    (λ below. LeadsOn shapes at (record s { requests = number ∷ s.requests }) (pushed op.arguments below) × MayRaise shapes below s)

-- the innermost open request is closed, and then no longer open
abbrev pub Closes : Shapes → ℕ → Shape → List ℕ → Type 0
Closes shapes at s [] = ⊥
Closes shapes at s (op ∷ requests) = Asks shapes at (record s { requests = requests }) s.stack []

-- so many values are taken, which are the results of the innermost open request's operation
abbrev pub Replies : ModuleTypes → Shapes → ℕ → Shape → ℕ → List ℕ → Type 0
Replies m shapes at s k [] = ⊥
Replies m shapes at s k (op ∷ requests) =
    (o : OpTypes) × (slice_get m.ops op ≡ Some o) × (length o.results ≡ k)
    × Takes (reverse o.results) s (λ below. Asks shapes at s below [])

abbrev pub Untries : Shapes → ℕ → Shape → List Opened → Type 0
Untries shapes at s [] = ⊥
Untries shapes at s (o ∷ os) = LeadsOn shapes at (record s { tries = os }) s.stack

-- an instruction at this address, before which a thread has this shape
abbrev pub Obeys : ModuleTypes → Shapes → ℕ → Shape → Instruction → Type 0
Obeys m shapes at s (code.Push l) = HasType (literal_type l) (value_of_literal l) × LeadsOn shapes at s (literal_type l ∷ s.stack)
Obeys m shapes at s (code.LoadG slot) = Loads shapes at s (slice_get m.globals slot)
Obeys m shapes at s (code.LoadL slot) = Loads shapes at s (slice_get s.locals slot)
Obeys m shapes at s (code.AtG slot) = LoadsMember shapes at s (slice_get m.globals slot)
Obeys m shapes at s (code.AtL slot) = LoadsMember shapes at s (slice_get s.locals slot)
Obeys m shapes at s (code.StoreG slot) = Stores shapes at s (slice_get m.globals slot)
Obeys m shapes at s (code.StoreL slot) = Stores shapes at s (slice_get s.locals slot)
Obeys m shapes at s (code.PutG slot) = StoresMember shapes at s (slice_get m.globals slot)
Obeys m shapes at s (code.PutL slot) = StoresMember shapes at s (slice_get s.locals slot)
Obeys m shapes at s code.Add = Computes shapes at s
Obeys m shapes at s code.Sub = Computes shapes at s
Obeys m shapes at s code.Mul = Computes shapes at s
Obeys m shapes at s code.Div = Computes shapes at s
Obeys m shapes at s code.Mod = Computes shapes at s
Obeys m shapes at s code.Neg = Takes (types.Int ∷ []) s (λ below. Gives shapes at s (types.Int ∷ below))
Obeys m shapes at s code.Eq = ComparesAlike shapes at s
Obeys m shapes at s code.Ne = ComparesAlike shapes at s
Obeys m shapes at s code.Lt = Compares shapes at s
Obeys m shapes at s code.Le = Compares shapes at s
Obeys m shapes at s code.Gt = Compares shapes at s
Obeys m shapes at s code.Ge = Compares shapes at s
Obeys m shapes at s code.Not = Takes (types.Bool ∷ []) s (λ below. LeadsOn shapes at s (types.Bool ∷ below))
Obeys m shapes at s (code.AndJ address) = Decides shapes at address s
Obeys m shapes at s (code.OrJ address) = Decides shapes at address s
Obeys m shapes at s (code.JumpF address) =
    Takes (types.Bool ∷ []) s (λ below. LeadsOn shapes at s below × Leads shapes address (record s { stack = below }))
Obeys m shapes at s (code.Jump address) = Leads shapes address s
Obeys m shapes at s (code.Await address) =
    Takes (types.Bool ∷ []) s
    (λ below. LeadsOn shapes at s below × Leads shapes address (record s { stack = below }) × MayRaise shapes below s)
Obeys m shapes at s (code.Try address) =
    LeadsOn shapes at
    (record s { tries = record { handlers = address; height = length s.stack; depth = length s.requests } ∷ s.tries }) s.stack
Obeys m shapes at s code.Untry = Untries shapes at s s.tries
Obeys m shapes at s (code.Case exception address) = IsTrue s.pending × LeadsOn shapes at s s.stack × Leads shapes address s
Obeys m shapes at s code.Again = IsTrue s.pending × MayRaise shapes s.stack s
Obeys m shapes at s (code.Raise exception) = MayRaise shapes s.stack s
Obeys m shapes at s code.Write = (t : TypeName) × IsPlain t × Takes (t ∷ []) s (λ below. Asks shapes at s below [])
Obeys m shapes at s code.New = Asks shapes at s s.stack (types.Link ∷ types.Link ∷ [])
Obeys m shapes at s code.Destroy = AsksOnLink shapes at s
Obeys m shapes at s (code.Bind entry) = (entry < m.entries) × AsksOnLink shapes at s
Obeys m shapes at s (code.Unbind entry) = (entry < m.entries) × AsksOnLink shapes at s
Obeys m shapes at s (code.Connect op) = Connects shapes at s (slice_get m.ops op)
Obeys m shapes at s (code.Accept op) = Accepts shapes at s op (slice_get m.ops op)
Obeys m shapes at s code.Close = Closes shapes at s s.requests
Obeys m shapes at s (code.Reply k) = Replies m shapes at s k s.requests
Obeys m shapes at s code.Stop = ⊤
Obeys m shapes at s code.End = ⊤

-- ---- code

-- instructions that begin at this address
abbrev pub AllObey : ModuleTypes → Shapes → ℕ → List Instruction → Type 0
AllObey m shapes at [] = ⊤
AllObey m shapes at (i ∷ is) = ((s : Shape) × (shapes at ≡ Some s) × Obeys m shapes at s i) × AllObey m shapes (at + 1) is

-- the requests that are open as a thread of a part begins: that of the operation which the part serves
abbrev pub opened_by : Option ℕ → List ℕ
opened_by None = []
opened_by (Some op) = op ∷ []

-- the thread of a part before its first instruction
abbrev pub part_shape : PartTypes → Shape
part_shape p = record { locals = p.locals; stack = []; tries = []; requests = opened_by p.op; pending = false }

-- these shapes are those of the code of these parts
pub record AreShapes (m : ModuleTypes) (parts : List PartTypes) (instructions : List Instruction) (shapes : Shapes) : Type 0 where
  pub code : AllObey m shapes 0 instructions
  pub ends : (at : ℕ) (s : Shape) → shapes at ≡ Some s → at < length instructions
  pub starts : (i : ℕ) (p : PartTypes) → slice_get parts i ≡ Some p → Leads shapes p.start (part_shape p)

-- each instruction finds its operands
abbrev pub IsShaped : ModuleTypes → List PartTypes → List Instruction → Type 0
IsShaped m parts instructions = (shapes : Shapes) × AreShapes m parts instructions shapes

-- the program of these instructions
abbrev pub program : ModuleTypes → List Instruction → Program
program m instructions = record { instructions = instructions; arguments = map (λ op. length op.arguments) m.ops }

-- ---- code as it is kept

abbrev pub kept_op : CodeOp → OpTypes
kept_op op = record { arguments = op.arguments.items; results = op.results.items }

abbrev pub code_types : Code → ModuleTypes
code_types made = record { globals = made.globals.items; ops = map kept_op made.ops.items; entries = length made.parts.items - 1 }

abbrev pub kept_part : Part → PartTypes
kept_part part = record { start = part.start; op = part.op; locals = part.locals.items }

abbrev pub code_parts : Code → List PartTypes
code_parts made = map kept_part made.parts.items

abbrev pub IsShapedCode : Code → Type 0
IsShapedCode made = IsShaped (code_types made) (code_parts made) made.instructions.items

-- ---- threads

-- a thread before an instruction has this shape
pub record HasShape (s : Shape) (t : Thread) : Type 0 where
  pub locals : HaveTypes s.locals t.moment.store.locals
  pub stack : HaveTypes s.stack t.stack
  pub tries : t.tries ≡ s.tries
  pub requests : t.requests ≡ s.requests
  pub pending : IsTrue s.pending → IsTrue (is_some t.pending)

-- a thread at an address that has a shape
pub record IsPlaced (shapes : Shapes) (t : Thread) : Type 0 where
  pub shape : Shape
  pub there : shapes t.address ≡ Some shape
  pub has : HasShape shape t

-- a thread of a module, whose code has these shapes, in its turn
pub record IsThread (m : ModuleTypes) (shapes : Shapes) (t : Thread) : Type 0 where
  pub shape : Shape
  pub there : shapes t.address ≡ Some shape
  pub has : HasShape shape t
  pub globals : HaveTypes m.globals t.moment.store.globals
