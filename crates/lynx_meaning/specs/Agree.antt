-- Source and code agree.
use Rattle.std.specs.Prelude.{◌≡◌, ◌≢◌, ℕ, suc, ◌≤◌, List, ◌∷◌, map, Some, IfOk, slice_get, ⊤}
use Rattle.lynx_tree.specs.Grammar.{HasTokens}
use Rattle.lynx_tree.specs.Trees.{ModuleTree, EntryTree}
use Rattle.lynx_tree.specs.declared.declaration.TypeName.{TypeName}
use Rattle.typing_rules.specs.Modules.{IsWellTyped}
use Rattle.lynx_code.specs.Modules.{PartCode, parts_of, variables}
use Rattle.lynx_meaning.specs.Code.{CodeBehaviour, Comes, Stuck, code_meaning, program_of}
use Rattle.lynx_meaning.specs.Courses.{Action, Answer, Behaviour, Stop, Ended, Waits, Out}
use Rattle.lynx_meaning.specs.Needs.{op_types, wanted_by, wanted_types}
use Rattle.lynx_meaning.specs.Source.{PartTree, main_tree, entry_part_tree, source_meaning, start_store}
use Rattle.lynx_meaning.specs.Values.{Value, HaveTypes}

-- ---- answers that fit

-- the types of the values that an action needs
abbrev pub needed : ModuleTree → Action → List TypeName
needed m action = wanted_types (map op_types m.ops) (wanted_by action)

-- the variables of the module have their types
abbrev pub HaveGlobals : ModuleTree → List Value → Type 0
HaveGlobals m globals = HaveTypes (map (λ v. v.kind) (variables m)) globals

-- an answer to an action is an exception, or has the values that the action needs
pub record Fits (m : ModuleTree) (action : Action) (answer : Answer) : Type 0 where
  pub given : IfOk answer.given (HaveTypes (needed m action))
  pub globals : HaveGlobals m answer.globals

-- answers to these actions, in their order; what comes behind a `stop` is no answer
abbrev pub Fit : ModuleTree → List Action → List Answer → Type 0
Fit m (Stop ∷ actions) answers = ⊤
Fit m (action ∷ actions) (a ∷ answers) = Fits m action a × Fit m actions answers
Fit m _ _ = ⊤

abbrev pub actions_of : Behaviour → List Action
actions_of (Ended actions store) = actions
actions_of (Waits actions store) = actions
actions_of (Out actions) = actions

-- what a thread of a part is given
pub record Start : Type 0 where
  pub globals : List Value
  pub arguments : List Value
  pub answers : List Answer

-- the source, with loops of at most n turns
abbrev pub source : PartTree → Start → ℕ → Behaviour
source part given n = source_meaning part n (start_store part given.globals given.arguments) given.answers

-- the code from this address on, with at most n instructions
abbrev pub target : ModuleTree → PartTree → ℕ → Start → ℕ → CodeBehaviour
target m part start given n =
    code_meaning (program_of m) part.requests start n (start_store part given.globals given.arguments) given.answers

-- the variables of the module and the parameters have their types, and the answers fit
pub record IsFitting (m : ModuleTree) (part : PartTree) (given : Start) : Type 0 where
  pub globals : HaveGlobals m given.globals
  pub arguments : HaveTypes part.parameters given.arguments
  pub answers : (n : ℕ) → Fit m (actions_of (source part given n)) given.answers

-- ---- agreement

-- the thread ends, or waits for an answer
abbrev pub IsOver : Behaviour → Type 0
IsOver (Ended actions store) = ⊤
IsOver (Waits actions store) = ⊤
IsOver (Out actions) = ⊥

abbrev pub IsOut : Behaviour → Type 0
IsOut (Out actions) = ⊤
IsOut _ = ⊥

abbrev pub IsCodeOut : CodeBehaviour → Type 0
IsCodeOut (Comes behaviour) = IsOut behaviour
IsCodeOut Stuck = ⊥

-- a part of a module, and its code that starts at this address
pub record Agrees (m : ModuleTree) (part : PartTree) (start : ℕ) : Type 0 where
  -- where the source ends or waits, so does the code, after the same actions and with the same variables
  pub code_follows : (given : Start) → IsFitting m part given → (n : ℕ) (behaviour : Behaviour) → IsOver behaviour
      → source part given n ≡ behaviour
      → (k : ℕ) × (target m part start given k ≡ Comes behaviour)
  -- where the code ends or waits within so many instructions, so does the source with loops of at most so many turns
  pub source_follows : (given : Start) → IsFitting m part given → (n : ℕ) (behaviour : Behaviour) → IsOver behaviour
      → target m part start given n ≡ Comes behaviour → source part given n ≡ behaviour
  -- where the source goes on for ever, so does the code
  pub goes_on : (given : Start) → IsFitting m part given → ((n : ℕ) → IsOut (source part given n)) → (k : ℕ)
      → IsCodeOut (target m part start given k)
  -- and it does all that the source does
  pub does_all : (given : Start) → IsFitting m part given → (n : ℕ) (actions : List Action) → source part given n ≡ Out actions
      → (k : ℕ) × (n ≤ k) × (target m part start given k ≡ Comes (Out actions))
  -- no instruction finds a missing operand, or one of a wrong kind
  pub never_stuck : (given : Start) → IsFitting m part given → (k : ℕ) → target m part start given k ≢ Stuck

-- the body of a module and each of its entries
pub record PartsAgree (m : ModuleTree) : Type 0 where
  pub body : Agrees m (main_tree m) 0
  pub entries : (i : ℕ) (e : EntryTree) (p : PartCode) → slice_get m.entries i ≡ Some e → slice_get (parts_of m) (suc i) ≡ Some p
      → Agrees m (entry_part_tree m e) p.start

-- the theorem of the compiler: source and code agree in every module of the grammar that obeys the typing rules
abbrev pub SourceAndCodeAgree : Type 0
SourceAndCodeAgree = (m : ModuleTree) → HasTokens m → IsWellTyped m → PartsAgree m
