use Rattle.std.proofs.Common.{◌∙◌, ℕ, ap, nat_abs, pos, replicate, take}
use Rattle.std.proofs.Math.Facts.{to_z-of_z}
use Rattle.lynx_interp.proofs.Counting.{short_row, taken_zeros}
use Rattle.lynx_interp.proofs.starts.row_of_zeros.Goals as goal

pub returns : goal.returns
returns c =
    let size = c.args.length in
    let same = ap nat_abs (to_z-of_z c.ranges.length) in
    c.in-Some.ensures.value ∙ ap (λ (k : ℕ). take k (replicate 16 (pos 0))) same ∙ taken_zeros (nat_abs size) 16 (pos 0) (short_row size c.requires)
