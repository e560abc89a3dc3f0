use Rattle.std.proofs.Common.{◌≡◌, ◌-◌, map}
use Rattle.lynx_lexer.specs.declared.sign.Sign.TheVariants as signs
use Rattle.lynx_descent.specs.Reading.{◌>>◌, advance, sees_sign, many, many_from}
use Rattle.lynx_parser.proofs.item.listed.Given as goal

-- what is left to read, with what was read, is the whole list
abbrev pub invariant-loop-turn : goal.invariant-loop-turn
invariant-loop-turn g l =
    many (sees_sign signs.Comma) (advance >> g.T.Item.parser l.room) (map g.T.Item.tree l.initial.all.items) l.initial.reader
    ≡ many_from (sees_sign signs.Comma) (advance >> g.T.Item.parser l.room) (l._turn-end - l._turn) (map g.T.Item.tree l.all.items) l.reader
