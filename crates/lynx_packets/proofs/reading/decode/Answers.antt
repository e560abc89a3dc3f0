use Rattle.std.proofs.Common.{arith}
use Rattle.lynx_packets.proofs.Exact.{IsBytes}
use Rattle.lynx_packets.proofs.Decoding.{found_law, only_law, wrong_law}
use Rattle.lynx_packets.proofs.reading.decode.Goals as goal

pub returns-clause-found : goal.returns-clause-found
returns-clause-found c =
    let fits : IsBytes c.args.bytes.now = λ i. omega (arith, c.type_inv.bytes i) in
    found_law c.args.version c.args.bytes.now c.told.result fits c.told.ensures

pub returns-clause-only : goal.returns-clause-only
returns-clause-only c = only_law c.args.version c.args.bytes.now c.told.result c.told.ensures

pub returns-clause-wrong : goal.returns-clause-wrong
returns-clause-wrong c =
    let fits : IsBytes c.args.bytes.now = λ i. omega (arith, c.type_inv.bytes i) in
    wrong_law c.args.version c.args.bytes.now c.told.result fits c.told.ensures
