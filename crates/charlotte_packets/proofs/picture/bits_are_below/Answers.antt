-- A byte is below 2 to the 8, and so below each greater power.
use Rattle.std.proofs.Common.{◌<◌, ◌≤◌, ◌^◌, arith, sym}
use Rattle.std.proofs.Math.Pow.{pow_mono}
use Rattle.std.proofs.lemmas.Bool.{lt-ltb}
use Rattle.charlotte_packets.proofs.picture.bits_are_below.Goals as goal

pub returns-then-kernels-ge8 : goal.returns-then-kernels-ge8
returns-then-kernels-ge8 c =
    let power : 2 ^ 8 ≤ 2 ^ c.args.kernels = pow_mono {i = 8} {j = c.args.kernels} (omega arith) in
    let below : c.args.bits < 2 ^ c.args.kernels = omega arith in
    sym (lt-ltb _ _ below)
