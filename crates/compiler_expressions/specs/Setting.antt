-- What is known of a part of a module whose code runs.
use Rattle.std.specs.Prelude.{length, ◌≡◌, ℕ, List, Option, Some, slice_get}
use Rattle.lynx_tree.specs.declared.declaration.TypeName.{TypeName}
use Rattle.typing_rules.specs.Names.{Scope, type_of_variable}
use Rattle.typing_rules.specs.declared.exception.Exception.{Exception}
use Rattle.lynx_code.specs.Generation.{Names, Slot, Global, Local}
use Rattle.lynx_meaning.specs.Code.{Opened, Program, Thread}
use Rattle.lynx_meaning.specs.Courses.{Moment, Store}
use Rattle.lynx_meaning.specs.Values.{Value}
use Rattle.compiler_steps.specs.Steps.{AreNested, thread}
use Rattle.compiler_expressions.specs.Kinds.{HaveKinds}

-- the type of the variable in a slot
abbrev pub type_at : List TypeName → List TypeName → Slot → Option TypeName
type_at globals locals (Global place) = slice_get globals place
type_at globals locals (Local place) = slice_get locals place

-- a part of a module: its code, what its names mean by the typing rules, and where they stand
pub record Setting : Type 0 where
  pub program : Program
  pub scope : Scope
  pub names : Names
  -- the types of the variables
  pub globals : List TypeName
  pub locals : List TypeName
  -- each variable has its type in its slot
  pub variable : (name : List ℕ) (t : TypeName) → type_of_variable (scope name) ≡ Some t → type_at globals locals (names.slot name) ≡ Some t

-- the variables are of their kinds
pub record HasKinds (c : Setting) (s : Store) : Type 0 where
  pub of_globals : HaveKinds c.globals s.globals
  pub of_locals : HaveKinds c.locals s.locals

-- what an expression leaves as it is
pub record Around : Type 0 where
  pub tries : List Opened
  pub requests : List ℕ
  pub pending : Option Exception
  pub moment : Moment

-- a thread at this address, with these operands
abbrev pub stands : Around → ℕ → List Value → Thread
stands a at stack = thread at stack a.tries a.requests a.pending a.moment

-- an expression may run here
pub record IsReady (c : Setting) (a : Around) : Type 0 where
  pub kinds : HasKinds c a.moment.store
  pub nested : AreNested (length a.requests) a.tries
