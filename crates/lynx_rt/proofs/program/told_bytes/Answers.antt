use Rattle.std.proofs.Common.{arith}
use Rattle.lynx_rt.proofs.Programs.{are_bytes}
use Rattle.lynx_rt.proofs.program.told_bytes.Goals as goal

pub returns : goal.returns
returns c = are_bytes c.args._bytes.now (λ i. omega (arith, c.type_inv._bytes i))
