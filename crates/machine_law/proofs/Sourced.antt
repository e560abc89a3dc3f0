-- Each thread of a history did what its source means.
use Rattle.std.proofs.Common.{arith, ◌≡◌, ℕ, zero, suc, ◌<◌, ◌≤◌, List, [], ◌∷◌, ◌++◌, length, map, drop, Option, Some, None, slice_get, option_map, unwrap_or, refl, sym, ap, subst, ◌∙◌, ⊎_elim, le_trans}
use Rattle.std.proofs.Math.Seq.{drop-append_seam}
use Rattle.std.proofs.lemmas.Bool.{cases_lt}
use Rattle.std.proofs.lemmas.Option.{same_Some}
use Rattle.std.specs.List.{AllByRecursion}
use Rattle.lynx_tree.specs.Grammar.{HasTokens, kinds_of}
use Rattle.lynx_tree.specs.Printing.{IsPrintable}
use Rattle.lynx_tree.specs.Trees.{EntryTree, ModuleTree, OpTree}
use Rattle.lynx_tree.specs.declared.declaration.TypeName.{TypeName}
use Rattle.typing_rules.specs.Modules.{IsWellTyped, entry_faults, module_faults}
use Rattle.typing_rules.specs.Names.{entries_at, entry_size, known, module_scope}
use Rattle.lynx_code.specs.Modules.{IsCodeOf, PartCode, index_of, op_names, variables}
use Rattle.lynx_code.specs.declared.code.Code.{Code}
use Rattle.lynx_code.specs.declared.instruction.Instruction.{Instruction}
use Rattle.lynx_meaning.specs.Agree.{Agrees, Fit, Fits, HaveGlobals, IsFitting, IsOver, Start, actions_of, source, target}
use Rattle.lynx_meaning.specs.Code.{CodeBehaviour, Comes, Program, Thread, begins, code_meaning, exec, program_of}
use Rattle.lynx_meaning.specs.Courses.{Action, Answer, Behaviour, Store, Stop, Ended, Waits, Out}
use Rattle.lynx_meaning.specs.Needs.{OpTypes, op_types, types_of}
use Rattle.lynx_meaning.specs.Source.{PartTree, entry_part_tree, main_tree, start_store}
use Rattle.lynx_meaning.specs.Values.{Value, HaveTypes, start_value}
use Rattle.code_shapes.specs.Shapes.{ModuleTypes, PartTypes, code_parts, code_types, opened_by, program}
use Rattle.compiler_steps.specs.Steps.{IsFinal}
use Rattle.compiler_steps.proofs.Lasting.{lasts}
use Rattle.compiler_statements.specs.Running.{IsFront}
use Rattle.compiler_law.proofs.Parts.{each-clean}
use Rattle.compiler_law.proofs.Whole as compiler
use Rattle.compiler_shapes.proofs.Whole.{ops_kept}
use Rattle.compiler_runnable.specs.Runnable.{IsRunnable, arguments_of, parameters, start_locals}
use Rattle.compiler_runnable.proofs.Starts.{declarations}
use Rattle.compiler_runnable.proofs.Whole as runnable
use Rattle.machine_never_stuck.proofs.Pairs.{same_length}
use Rattle.machine_law.specs.Fitting.{FitAll}
use Rattle.machine_law.specs.Lives.{Life}
use Rattle.machine_law.specs.Histories.{DidByCode, behind, body_part}
use Rattle.machine_law.specs.Law.{MeansItsCode}
use Rattle.machine_law.specs.Sources.{DoesSo, MeansItsSource, ThreadsMeanTheirSources, given_to, part_tree}
use Rattle.machine_law.proofs.Fewer.{Begins, goes_further}
use Rattle.machine_law.proofs.Fitted.{fits_by_code, no_answers, over_final}
use Rattle.machine_law.proofs.Whole as whole

-- ---- what the source does

module _ (m : ModuleTree) (part : PartTree) (start : ℕ) (agrees : Agrees m part start) (given : Start) (fitting : IsFitting m part given) (made : ℕ) where
  abbrev first : Thread
  first = begins part.requests start (start_store part given.globals given.arguments) given.answers

  over_so : (did : Behaviour) → IsOver did → target m part start given made ≡ Comes did → (n : ℕ) → made ≤ n → source part given n ≡ did
  over_so did over is n le = agrees.source_follows given fitting n did over (lasts (program_of m) made n le first (Comes did) (over_final did over) is)

  -- where the code is out, and comes to this with more instructions
  out_front : (X : List Action) (k : ℕ) (o : Behaviour) → target m part start given made ≡ Comes (Out X) → made ≤ k → target m part start given k ≡ Comes o → IsFront X (actions_of o)
  out_front X k o is le there = subst (Begins X) there (goes_further (program_of m) made k le first X is)

  out_over : (X : List Action) (k : ℕ) (o : Behaviour) → IsOver o → target m part start given made ≡ Comes (Out X) → target m part start given k ≡ Comes o → IsFront X (actions_of o)
  out_over X k o over is there =
      ⊎_elim
      (λ (less : k < made).
      let never : Comes (Out X) ≡ Comes o = sym is ∙ lasts (program_of m) k made (omega (arith, less)) first (Comes o) (over_final o over) there in
      absurd (subst IsFinal (sym never) (over_final o over)))
      (λ (more : made ≤ k). out_front X k o is more there)
      (cases_lt k made)

  out_so : (X : List Action) → target m part start given made ≡ Comes (Out X) → (n : ℕ) → made ≤ n → (o : Behaviour) → source part given n ≡ o → IsFront X (actions_of o)
  out_so X is n le (Ended actions store) there = let follows = agrees.code_follows given fitting n (Ended actions store) tt there in out_over X follows.0 (Ended actions store) tt is follows.1
  out_so X is n le (Waits actions store) there = let follows = agrees.code_follows given fitting n (Waits actions store) tt there in out_over X follows.0 (Waits actions store) tt is follows.1
  out_so X is n le (Out actions) there = let all = agrees.does_all given fitting n actions there in out_front X all.0 (Out actions) is (le_trans le all.1) all.2

  does_so_by : (did : Behaviour) → target m part start given made ≡ Comes did → (n : ℕ) → made ≤ n → DoesSo did (source part given n)
  does_so_by (Ended actions store) is n le = over_so (Ended actions store) tt is n le
  does_so_by (Waits actions store) is n le = over_so (Waits actions store) tt is n le
  does_so_by (Out actions) is n le = out_so actions is n le (source part given n) refl

-- ---- answers

fit_one : (m : ModuleTree) (x : Action) (xs : List Action) (a : Answer) (L : List Answer) → Fits m x a → Fit m xs L → Fit m (x ∷ xs) (a ∷ L)
fit_one m Stop xs a L one rest = tt
fit_one m _ xs a L one rest = (one, rest)

-- the types of a module
abbrev types_in : ModuleTree → ℕ → ModuleTypes
types_in m entries = record { globals = map (λ v. v.kind) (variables m); ops = map op_types m.ops; entries = entries }

fit_all : (m : ModuleTree) (entries : ℕ) (xs : List Action) (L : List Answer) → FitAll (types_in m entries) xs L → Fit m xs L
fit_all m entries xs [] fits = no_answers m xs
fit_all m entries [] (a ∷ L) fits = absurd fits
fit_all m entries (x ∷ xs) (a ∷ L) fits = fit_one m x xs a L (record { given = fits.0.given; globals = fits.0.globals }) (fit_all m entries xs L fits.1)

as_many : (m : ModuleTypes) (xs : List Action) (L : List Answer) → FitAll m xs L → length L ≤ length xs
as_many m xs [] fits = omega arith
as_many m [] (a ∷ L) fits = absurd fits
as_many m (x ∷ xs) (a ∷ L) fits = let rest = as_many m xs L fits.1 in omega (arith, rest)

-- ---- the code of a module

arguments_kept : (ops : List OpTree) → map (λ (op : OpTypes). length op.arguments) (map op_types ops) ≡ map (λ (op : OpTree). length op.arguments) ops
arguments_kept [] = refl
arguments_kept (op ∷ ops) = ap (λ (ns : List ℕ). length op.arguments ∷ ns) (arguments_kept ops)

-- the instructions of a module, whose operations have so many arguments
abbrev with_counts : ModuleTree → List ℕ → Program
with_counts m counts = record { instructions = (program_of m).instructions; arguments = counts }

-- the part of this number, as the tree has it
record IsPartOf (m : ModuleTree) (made : Code) (i : ℕ) (p : PartTypes) (part : PartTree) : Type 0 where
  there : part_tree m i ≡ Some part
  requests : opened_by p.op ≡ part.requests
  parameters_are : parameters (code_types made) p ≡ part.parameters
  locals : p.locals ≡ part.parameters ++ part.vars
  agrees : Agrees m part p.start

module _ (m : ModuleTree) (made : Code) (tokens : HasTokens m) (typed : IsWellTyped m) (is : IsCodeOf m made) where
  abbrev p : Program
  p = program (code_types made) made.instructions.items

  program_same : p ≡ program_of m
  program_same =
      ap (λ (code : List Instruction). program (code_types made) code) is.instructions
      ∙ ap (with_counts m)
      (ap (λ (ops : List OpTypes). map (λ (op : OpTypes). length op.arguments) ops) (ops_kept m.ops made.ops.items is.ops) ∙ arguments_kept m.ops)

  body_of : IsPartOf m made 0 body_part (main_tree m)
  body_of = record { there = refl; requests = refl; parameters_are = refl; locals = refl; agrees = (compiler.law m tokens typed).body }

  entry_of : (i : ℕ) (q : PartTypes) → slice_get (code_parts made) (suc i) ≡ Some q → (part : PartTree) × IsPartOf m made (suc i) q part
  entry_of i q here =
      let clean = declarations m (compiler.no-faults (module_faults m) typed) in
      let found = runnable.entry_part_at m made is i q here in
      let e = found.0 in
      let c = runnable.part_at m made is (suc i) q here in
      let sound = each-clean entry_size (entry_faults (module_scope m)) (entries_at m) m.entries i e clean.entries found.1 in
      let op = runnable.entry_operation m sound.0 e sound.1 in
      let kept = runnable.kept_operation m made clean is (index_of (op_names m) e.op) op.0 op.1 in (
        entry_part_tree m e,
        record {
          there = ap (λ (o : Option EntryTree). option_map (entry_part_tree m) o) found.1;
          requests = ap opened_by found.2.0;
          parameters_are = ap (arguments_of (code_types made)) found.2.0 ∙ ap (λ (o : Option OpTypes). types_of (λ t. t.arguments) o) kept ∙ sym op.2;
          locals = found.2.1;
          agrees = subst (Agrees m (entry_part_tree m e)) (sym c.2) ((compiler.law m tokens typed).entries i e c.0 found.1 c.1);
        },
      )

  part_of : (i : ℕ) (q : PartTypes) → slice_get (code_parts made) 0 ≡ Some body_part → slice_get (code_parts made) i ≡ Some q → (part : PartTree) × IsPartOf m made i q part
  part_of zero q body here = (main_tree m, subst (λ (r : PartTypes). IsPartOf m made 0 r (main_tree m)) (same_Some body_part q (sym body ∙ here)) body_of)
  part_of (suc i) q body here = entry_of i q here

  -- ---- one life

  module _ (life : Life) (now : List Value) (i : ℕ) (part : PartTree) (of : IsPartOf m made i life.part part) where
    abbrev given : Start
    given = given_to now life

    locals_same : length life.arguments ≡ length part.parameters → start_locals life.part.locals life.arguments ≡ life.arguments ++ map start_value part.vars
    locals_same many =
        ap (λ (ts : List TypeName). life.arguments ++ map start_value (drop (length life.arguments) ts)) of.locals
        ∙ ap (λ (k : ℕ). life.arguments ++ map start_value (drop k (part.parameters ++ part.vars))) many
        ∙ ap (λ (ts : List TypeName). life.arguments ++ map start_value ts) (drop-append_seam part.parameters part.vars)

    by_target : length life.arguments ≡ length part.parameters → DidByCode p now life → target m part life.part.start given life.made ≡ Comes life.did
    by_target many did =
        sym
        (ap (λ (q : Program). code_meaning q (opened_by life.part.op) life.part.start life.made (record { globals = given.globals; locals = start_locals life.part.locals life.arguments }) life.answers) program_same
        ∙ ap (λ (rs : List ℕ). code_meaning (program_of m) rs life.part.start life.made (record { globals = given.globals; locals = start_locals life.part.locals life.arguments }) life.answers) of.requests
        ∙ ap (λ (vs : List Value). code_meaning (program_of m) part.requests life.part.start life.made (record { globals = given.globals; locals = vs }) life.answers) (locals_same many))
        ∙ did

    means : HaveTypes (code_types made).globals given.globals → HaveTypes (parameters (code_types made) life.part) life.arguments → FitAll (code_types made) (actions_of life.did) life.answers → DidByCode p now life → MeansItsSource m part now life
    means known arguments fits did =
        let own = subst (λ (ts : List TypeName). HaveTypes ts life.arguments) of.parameters_are arguments in
        let globals = subst (λ (ts : List TypeName). HaveTypes ts given.globals) is.globals known in
        let in_types = subst (λ (ts : List TypeName). FitAll (record { globals = ts; ops = (code_types made).ops; entries = (code_types made).entries }) (actions_of life.did) life.answers) is.globals fits in
        let in_ops = subst (λ (ops : List OpTypes). FitAll (record { globals = map (λ v. v.kind) (variables m); ops = ops; entries = (code_types made).entries }) (actions_of life.did) life.answers) (ops_kept m.ops made.ops.items is.ops) in_types in
        let there = by_target (sym (same_length part.parameters life.arguments own)) did in
        let fitting = fits_by_code m part life.part.start of.agrees given.globals life.arguments globals own life.answers life.made life.did there (as_many (code_types made) (actions_of life.did) life.answers fits)
        (fit_all m (code_types made).entries (actions_of life.did) life.answers in_ops) in
        record {
          fits = fitting;
          does_so = does_so_by m part life.part.start of.agrees given fitting life.made life.did there;
        }

pub law : ThreadsMeanTheirSources
law made from globals moves n life known history lived =
    let m = from.tree in
    let tokens = from.checked.grammar in
    let typed = from.checked.well_typed in
    let is = from.code in
    let run = runnable.law made from in
    let did = whole.law (code_types made) (code_parts made) made.instructions.items globals moves n life run.shaped run.parts known history lived in
    let t = behind (program (code_types made) made.instructions.items) globals moves in
    let part = part_of m made tokens typed is did.part.0 life.part run.parts.body did.part.1 in
    (did, (did.part.0, part.0, did.part.1, part.1.there, means m made tokens typed is life t.globals did.part.0 part.0 part.1 did.globals did.arguments did.answers did.code))
