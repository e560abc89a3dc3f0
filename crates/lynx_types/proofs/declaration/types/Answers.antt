use Rattle.std.proofs.Common.{◌+◌, ◌++◌, slice_index_or, refl, sym, ap, ◌∙◌, arith, drop}
use Rattle.std.proofs.lemmas.Grind.{common_steps}
use Rattle.lynx_tree.specs.declared.declaration.TypeName.TheVariants as types
use Rattle.typing_rules.specs.Modules.{type_faults, types_faults}
use Rattle.typing_rules.specs.Progress.{first_with}
use Rattle.typing_rules.proofs.Members.{none_left}
use Rattle.typing_rules.proofs.Progress.{left_first, end_first}
use Rattle.lynx_types.proofs.Declarations.{types_left, some_types, next_type, type-split}
use Rattle.lynx_types.proofs.declaration.types.Goals as goal

pub type_name-requires : goal.type_name-requires
type_name-requires c =
    let t = slice_index_or c.args.types.now c.loop-kind.kind-index types.Int in
    omega (arith, some_types c.args.types.now (omega arith), next_type c.args.types.now c.loop-kind.kind-index types.Int t c.loop-kind-test.true refl, c.loop-kind.invariant.at)

pub skip-requires-in-loop-kind : goal.skip-requires-in-loop-kind
skip-requires-in-loop-kind c =
    let t = slice_index_or c.args.types.now c.loop-kind.kind-index types.Int in
    omega (arith, some_types c.args.types.now (omega arith), next_type c.args.types.now c.loop-kind.kind-index types.Int t c.loop-kind-test.true refl, c.loop-kind.invariant.at)

pub loop-kind-preserved : goal.loop-kind-preserved
loop-kind-preserved c =
    let i = c.loop-kind.kind-index in
    let ts = c.args.types.now in
    let t = slice_index_or ts i types.Int in
    let split = type-split ts i types.Int t c.loop-kind.walk.at c.type_name.new.walk.at c.loop-kind-test.true refl c.type_name.ensures.at in
    record {
      at = omega (arith, c.loop-kind.invariant.at, next_type ts i types.Int t c.loop-kind-test.true refl);
      first = left_first c.loop-kind.walk.first c.skip-in-loop-kind.new.self.first _ _ (type_faults c.loop-kind.walk.at t) (types_faults c.skip-in-loop-kind.new.self.at (drop (i + 1) ts))
          (split ∙ ap (λ n. type_faults c.loop-kind.walk.at t ++ types_faults n (drop (i + 1) ts)) (sym c.skip-in-loop-kind.ensures.at)) (c.skip-in-loop-kind.ensures.first ∙ c.type_name.ensures.first) c.loop-kind.invariant.first;
    }

pub returns-clause-at : goal.returns-clause-at
returns-clause-at c =
    omega (arith, some_types c.args.types.now (grind (arith, common_steps, c.is_empty.ensures, c.if-is_empty.false, c.if-is_empty.ensures)), c.loop-kind.invariant.at, none_left types_left c.args.types.now c.loop-kind.kind-index c.loop-kind-test.false)

pub returns-clause-first : goal.returns-clause-first
returns-clause-first c =
    end_first c.loop-kind.walk.first _ _ (none_left (types_faults c.loop-kind.walk.at) c.args.types.now c.loop-kind.kind-index c.loop-kind-test.false) c.loop-kind.invariant.first
    ∙ (λ i. first_with (c.skip.ensures.first i) (types_faults (c.skip.ensures.at i) c.args.types.now))
