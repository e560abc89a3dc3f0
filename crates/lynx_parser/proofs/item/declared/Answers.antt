use Rattle.std.proofs.Common.{rules, arith}
use Rattle.lynx_descent.specs.Reading.{sees_keyword}
use Rattle.lynx_descent.proofs.Turns.{turn_more}
use Rattle.lynx_parser.proofs.item.declared.Goals as goal

pub loop-turn-preserved : goal.loop-turn-preserved
loop-turn-preserved g c =
    turn_more g.T.Item.tree (sees_keyword c.args.keyword) (g.T.Item.parser c.args.room) _ _ c.loop-turn.all.items _ c.in_ok-read.field-0 c.loop-turn.reader _ _ (omega arith) c.loop-turn.invariant
    (search rules) (search rules) (search rules)
