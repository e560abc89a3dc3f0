-- What shapes promise of each instruction.
use Rattle.std.specs.Prelude.{◌≡◌, ℕ, List, [], ◌∷◌, ◌++◌, Option, Some, IfOk, slice_get, ⊤, length, map, ◌<◌}
use Rattle.lynx_tree.specs.declared.declaration.TypeName.{TypeName}
use Rattle.lynx_code.specs.declared.instruction.Instruction.{Instruction}
use Rattle.lynx_code.specs.declared.instruction.Instruction.TheVariants as code
use Rattle.lynx_meaning.specs.Code.{Next, Thread, Goes, Over, Comes, Stuck, next_of, open_behind}
use Rattle.lynx_meaning.specs.Courses.{Action, Answer, New, Connect, Accept, Ended, Waits, Out, Bind, Unbind, Close, Reply, Stop}
use Rattle.lynx_meaning.specs.Values.{HaveTypes, Value}
use Rattle.code_shapes.specs.Shapes.{ModuleTypes, Shapes, AreShapes, IsThread, program, PartTypes}
use Rattle.lynx_meaning.specs.Needs.{OpTypes, Wanted, NoValue, TwoLinks, Results, Arguments, wanted_by, wanted_types}

-- ---- answers that fit

-- which values the action of an instruction needs
abbrev pub wanted_at : Option Instruction → Wanted
wanted_at (Some code.New) = TwoLinks
wanted_at (Some (code.Connect op)) = Results op
wanted_at (Some (code.Accept op)) = Arguments op
wanted_at _ = NoValue

-- and their types
abbrev pub needs : ModuleTypes → Option Instruction → List TypeName
needs m instruction = wanted_types m.ops (wanted_at instruction)

-- the first answer has values of these types, or an exception
abbrev pub FirstFits : List TypeName → List Answer → Type 0
FirstFits ts [] = ⊤
FirstFits ts (a ∷ rest) = IfOk a.given (HaveTypes ts)

-- the variables of the module have their types in each answer
abbrev pub AllFit : List TypeName → List Answer → Type 0
AllFit globals [] = ⊤
AllFit globals (a ∷ rest) = HaveTypes globals a.globals × AllFit globals rest

-- the answers of a thread fit its instruction
pub record HasFitting (m : ModuleTypes) (instructions : List Instruction) (t : Thread) : Type 0 where
  pub first : FirstFits (needs m (slice_get instructions t.address)) t.moment.answers
  pub globals : AllFit m.globals t.moment.answers

-- ---- what comes of an instruction

-- a request is open
abbrev pub IsOpen : List ℕ → Type 0
IsOpen [] = ⊥
IsOpen (op ∷ requests) = ⊤

-- these are the results of the innermost open request's operation
abbrev pub AreResults : ModuleTypes → List ℕ → List Value → Type 0
AreResults m [] values = ⊥
AreResults m (op ∷ requests) values = (o : OpTypes) × (slice_get m.ops op ≡ Some o) × HaveTypes o.results values

-- An action of the module, asked for where these requests are open. Its operation or entry is there. A request has values of the types of
-- its arguments, and a reply results for the request that it belongs to; a close is of an open request.
abbrev pub IsAction : ModuleTypes → List ℕ → Action → Type 0
IsAction m requests (Connect link op values) = (o : OpTypes) × (slice_get m.ops op ≡ Some o) × HaveTypes o.arguments values
IsAction m requests (Accept link op) = (o : OpTypes) × (slice_get m.ops op ≡ Some o)
IsAction m requests (Bind link entry) = entry < m.entries
IsAction m requests (Unbind link entry) = entry < m.entries
IsAction m requests (Reply values) = AreResults m requests values
IsAction m requests Close = IsOpen requests
IsAction m requests _ = ⊤

-- From a thread before an instruction it has come to these actions, with these answers left: then these requests are open.
pub record HasOpen (from : Thread) (actions : List Action) (left : List Answer) (requests : List ℕ) : Type 0 where
  -- the actions of the instruction, and what they were given
  pub done : List Action
  pub heard : List Answer
  pub acted : actions ≡ from.moment.actions ++ done
  pub used : from.moment.answers ≡ heard ++ left
  pub many : length done ≡ length heard
  pub unclosed : requests ≡ open_behind done (map (λ a. a.given) heard) from.requests

-- the last of these actions is one of the module, and the first of an instruction needs what the instruction needs
pub record EndInAction (m : ModuleTypes) (needed : List TypeName) (from : Thread) (actions : List Action) : Type 0 where
  pub before : List Action
  pub action : Action
  pub last : actions ≡ before ++ action ∷ []
  pub requests : List ℕ
  -- all answers were heard before it, but for a `stop`
  pub left : List Answer
  pub all : (action ≡ Stop → ⊥) → left ≡ []
  pub here : HasOpen from before left requests
  pub of_module : IsAction m requests action
  pub first : from.moment.answers ≡ [] → wanted_types m.ops (wanted_by action) ≡ needed

-- From a thread before its instruction, which needs values of these types: it goes on as one of the shapes; it waits after an action of the
-- module; or it ends, and no request is open.
abbrev pub IsSound : ModuleTypes → Shapes → List TypeName → Thread → Next → Type 0
IsSound m shapes needed from (Goes t) = IsThread m shapes t × HasOpen from t.moment.actions t.moment.answers t.requests
IsSound m shapes needed from (Over (Comes (Waits actions store))) = EndInAction m needed from actions × HaveTypes m.globals store.globals
IsSound m shapes needed from (Over (Comes (Ended actions store))) =
    ((left : List Answer) × HasOpen from actions left []) × HaveTypes m.globals store.globals
IsSound m shapes needed from (Over (Comes (Out actions))) = ⊥
IsSound m shapes needed from (Over Stuck) = ⊥

-- a thread of shaped code is never stuck, and is a thread of the shapes again
abbrev pub ShapedCodeIsNeverStuck : Type 0
ShapedCodeIsNeverStuck =
    (m : ModuleTypes) (parts : List PartTypes) (instructions : List Instruction) (shapes : Shapes)
    → AreShapes m parts instructions shapes
    → (t : Thread) → IsThread m shapes t → HasFitting m instructions t
    → IsSound m shapes (needs m (slice_get instructions t.address)) t (next_of (program m instructions) t)
