-- After interrupted writes one that is not interrupted is the last.
use Rattle.std.proofs.Common.{◌≡◌, ◌==◌, false, arith}
use Rattle.std.proofs.lemmas.Bool.Decides.{nat_tests}
use Rattle.std.proofs.KnownBytes.{Keeps-trans}
use Rattle.lynx_outside.proofs.Pieces.{tried, took_nothing, took, failed}
use Rattle.lynx_outside.proofs.host_sink.write_piece.Goals as goal

pub returns-in-Ok-eq0-clause-asked : goal.returns-in-Ok-eq0-clause-asked
returns-in-Ok-eq0-clause-asked g c =
    tried _ c.requires c.loop-test.true c.loop.invariant.made c.write.ensures.asked (took_nothing _ c.in-Ok-eq0.is c.in-Ok-eq0.field-0-test)

pub returns-in-Ok-clause-asked : goal.returns-in-Ok-clause-asked
returns-in-Ok-clause-asked g c =
    let more = c.in-Ok.taken-test.1 in
    let some : (c.in-Ok.taken == 0) ≡ false = grind (arith, nat_tests) in
    tried _ c.requires c.loop-test.true c.loop.invariant.made c.write.ensures.asked (took _ c.in-Ok.is some)

pub returns-in-Err-2-clause-asked : goal.returns-in-Err-2-clause-asked
returns-in-Err-2-clause-asked g c =
    tried _ c.requires c.loop-test.true c.loop.invariant.made c.write.ensures.asked (failed _ c.in-Err.is c.if-is_interrupted.ensures)

pub loop-preserved : goal.loop-preserved
loop-preserved g c = record {
  held = Keeps-trans _ _ _ c.loop.invariant.held c.in-Err.ensures.bytes;
  made = tried _ c.requires c.loop-test.true c.loop.invariant.made c.write.ensures.asked (failed _ c.in-Err.is c.if-is_interrupted.ensures);
}
