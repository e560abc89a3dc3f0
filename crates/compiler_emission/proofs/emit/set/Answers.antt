use Rattle.std.proofs.Common.{ℕ, List, ◌∷◌, ◌++◌, ap, ◌∙◌}
use Rattle.std.specs.Prelude.{slice_set}
use Rattle.std.proofs.Math.Seq.{set-append_seam}
use Rattle.lynx_code.specs.declared.instruction.Instruction.{Instruction}
use Rattle.compiler_emission.proofs.emit.set.Goals as goal

pub returns : goal.returns
returns c before behind kept at is =
    ap (λ (xs : List Instruction). slice_set xs c.args.at c.args.jump) is ∙ ap (λ (k : ℕ). slice_set (before ++ kept ∷ behind) k c.args.jump) at ∙ set-append_seam before kept behind c.args.jump
