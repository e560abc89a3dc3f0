use Rattle.std.proofs.Common.{ap, length, map, arith, rules}
use Rattle.std.proofs.lemmas.List.{length-drop}
use Rattle.lynx_lexer.specs.Lexemes.{token_of}
use Rattle.lynx_lexer.proofs.Placed.{placed_more, end_stands}
use Rattle.lynx_lexer.proofs.Reached.{reached_blank}
use Rattle.lynx_lexer.proofs.reading.read_lexemes.Goals as goal

pub loop-at-preserved : goal.loop-at-preserved
loop-at-preserved c =
    placed_more c.args.source.now c.loop-at.at c.loop-at.all.items _ c.in-Ok.front.shape c.in-Ok.front.length c.loop-at.invariant (rw (← c.behind-rest.ensures) c.in-Ok.ensures.ok) c.in_ok-push_shape.ensures

pub loop-at-preserved-then-is_blank : goal.loop-at-preserved-then-is_blank
loop-at-preserved-then-is_blank c =
    reached_blank c.args.source.now c.loop-at.at (map (token_of c.args.source.now) c.loop-at.all.items) c.behind-rest.result.now c.loop-at.invariant c.behind-rest.ensures
    (omega (arith, c.loop-at-test.true, ap length c.behind-rest.ensures, length-drop c.loop-at.at c.args.source.now)) (search rules)

pub of-requires : goal.of-requires
of-requires c = end_stands c.args.source.now c.loop-at.at c.loop-at.all.items c.loop-at.invariant (omega (arith, c.loop-at-test.false))
