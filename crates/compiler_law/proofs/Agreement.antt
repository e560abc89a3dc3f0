-- A part whose code stands agrees with it.
use Rattle.std.proofs.Common.{◌≡◌, ℕ, ◌+◌, List, [], ◌∷◌, ◌++◌, length, map, None, Some, slice_get, refl, subst}
use Rattle.lynx_tree.specs.Trees.{ModuleTree, OpTree}
use Rattle.lynx_tree.specs.Grammar.{AreStmts}
use Rattle.lynx_tree.specs.declared.declaration.TypeName.{TypeName}
use Rattle.typing_rules.specs.Names.{Scope, arguments_of, results_of, type_of_variable}
use Rattle.typing_rules.specs.Rules.{Request}
use Rattle.typing_rules.specs.Statements.{stmts_faults}
use Rattle.lynx_code.specs.Generation.{stmts_code}
use Rattle.lynx_code.specs.Modules.{body_code, module_code, variables}
use Rattle.lynx_code.specs.declared.instruction.Instruction.TheVariants as code
use Rattle.lynx_meaning.specs.Agree.{Agrees, IsFitting, Start, actions_of, source}
use Rattle.lynx_meaning.specs.Code.{Thread, begins, program_of}
use Rattle.lynx_meaning.specs.Courses.{Moment}
use Rattle.lynx_meaning.specs.Source.{PartTree, runs_all, start_store}
use Rattle.lynx_meaning.specs.Values.{Value, start_value, HaveTypes}
use Rattle.compiler_steps.specs.Steps.{StandAt}
use Rattle.compiler_steps.proofs.Standing.{front-stands, next-stands}
use Rattle.compiler_expressions.specs.Kinds.{HaveKinds}
use Rattle.compiler_expressions.specs.Setting.{Setting, type_at}
use Rattle.compiler_statements.specs.Running.{Body, IsSound, trace}
use Rattle.compiler_statements.proofs.Answers.{start-kind, types-kinds}
use Rattle.compiler_statements.proofs.Fronts.{fit-front}
use Rattle.compiler_statements.proofs.Statements.{stmts-run}
use Rattle.compiler_law.proofs.Ends.{Follows, code-out, code-over, follows-over, not-stuck, part-follows, part-front}

-- what the typing rules and the grammar say of a part, and where its code stands
pub record IsPart (m : ModuleTree) (part : PartTree) (start : ℕ) : Type 0 where
  pub scope : Scope
  pub request : Request
  pub place : ℕ
  pub variable : (name : List ℕ) (t : TypeName) → type_of_variable (scope name) ≡ Some t → type_at (map (λ v. v.kind) (variables m)) (part.parameters ++ part.vars) (part.names.slot name) ≡ Some t
  pub operation : (name : List ℕ) (arguments : List TypeName) → arguments_of (scope name) ≡ Some arguments → (op : OpTree) × (slice_get m.ops (part.names.op name) ≡ Some op) × (op.arguments ≡ arguments) × (results_of (scope name) ≡ Some op.results)
  pub written : AreStmts part.body
  pub clean : stmts_faults scope request place part.body ≡ []
  pub stands : StandAt (module_code m) start (body_code part.names start part.body)

vars-kinds : (ts : List TypeName) → HaveKinds ts (map start_value ts)
vars-kinds [] = tt
vars-kinds (t ∷ ts) = (start-kind t, vars-kinds ts)

local-kinds : (ts : List TypeName) (vs : List Value) (us : List TypeName) → HaveTypes ts vs → HaveKinds (ts ++ us) (vs ++ map start_value us)
local-kinds [] [] us h = vars-kinds us
local-kinds [] (v ∷ vs) us h = absurd h
local-kinds (t ∷ ts) [] us h = absurd h
local-kinds (t ∷ ts) (v ∷ vs) us h = let all = types-kinds (t ∷ ts) (v ∷ vs) h in (all.0, local-kinds ts vs us h.1)

module _ (m : ModuleTree) (part : PartTree) (start : ℕ) (is : IsPart m part start) where
  abbrev the-setting : Setting
  the-setting = record {
    program = program_of m;
    scope = is.scope;
    names = part.names;
    globals = map (λ v. v.kind) (variables m);
    locals = part.parameters ++ part.vars;
    variable = is.variable;
  }

  abbrev the-body : Start → Body
  the-body given = record {
    setting = the-setting;
    tree = m;
    answers = given.answers;
    operation = is.operation;
    counts = refl;
    kinds = refl;
  }

  abbrev first-moment : Start → Moment
  first-moment given = record { store = start_store part given.globals given.arguments; answers = given.answers; actions = [] }

  abbrev first-thread : Start → Thread
  first-thread given = begins part.requests start (start_store part given.globals given.arguments) given.answers

  follows : (given : Start) → IsFitting m part given → (n : ℕ) → Follows (program_of m) (first-thread given) n (source part given n)
  follows given fitting n =
      let b = the-body given in
      let now = first-moment given in
      let x = stmts_code part.names start part.body in
      let c = runs_all part.names n part.body now in
      let sound : IsSound b now = record {
        kinds = record { of_globals = types-kinds (map (λ v. v.kind) (variables m)) given.globals fitting.globals; of_locals = local-kinds part.parameters given.arguments part.vars fitting.arguments };
        used = refl;
      } in
      let fit = fit-front m (trace c) (actions_of (source part given n)) given.answers (part-front part.requests c) (fitting.answers n) in
      part-follows b part.requests n (first-thread given) (start + length x) c (next-stands (module_code m) start x code.End [] is.stands)
      (stmts-run b n part.body [] part.requests tt is.request start is.place None now is.written (front-stands (module_code m) start x (code.End ∷ []) is.stands) is.clean sound fit)

  pub agrees : Agrees m part start
  agrees = record {
    code_follows = λ given fitting n outcome over same. follows-over (program_of m) (first-thread given) n outcome over (subst (Follows (program_of m) (first-thread given) n) same (follows given fitting n));
    source_follows = λ given fitting n outcome over was. code-over (program_of m) (first-thread given) n (source part given n) outcome over (follows given fitting n) was;
    goes_on = λ given fitting out k. code-out (program_of m) (first-thread given) k (source part given k) (out k) (follows given fitting k);
    does_all = λ given fitting n actions same. subst (Follows (program_of m) (first-thread given) n) same (follows given fitting n);
    never_stuck = λ given fitting k was. not-stuck (program_of m) (first-thread given) k (source part given k) (follows given fitting k) was;
  }
