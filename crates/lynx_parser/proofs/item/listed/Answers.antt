use Rattle.std.proofs.Common.{rules, arith}
use Rattle.lynx_lexer.specs.declared.sign.Sign.TheVariants as signs
use Rattle.lynx_descent.specs.Reading.{◌>>◌, advance, sees_sign}
use Rattle.lynx_descent.proofs.Turns.{turn_more}
use Rattle.lynx_parser.proofs.item.listed.Goals as goal

pub loop-turn-preserved : goal.loop-turn-preserved
loop-turn-preserved g c =
    turn_more g.T.Item.tree (sees_sign signs.Comma) (advance >> g.T.Item.parser c.args.room) _ _ c.loop-turn.all.items _ c.in_ok-read-2.field-0 c.loop-turn.reader _ _ (omega arith) c.loop-turn.invariant
    (search rules) (search rules) (search rules)
