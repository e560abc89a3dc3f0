use Rattle.std.proofs.Common.{arith}
use Rattle.lynx_lexer.proofs.Stands.{keyword_stands, name_stands, name_too_long}
use Rattle.lynx_lexer.proofs.front.word_at.Goals as goal

pub returns-in-Some-clause-ok : goal.returns-in-Some-clause-ok
returns-in-Some-clause-ok c = keyword_stands c.args.bytes.now c.name_length-length.result c.in-Some.keyword c.requires c.name_length-length.ensures c.in-Some.ensures.found

pub returns-then-length-gt-MOST_NAME-clause-err : goal.returns-then-length-gt-MOST_NAME-clause-err
returns-then-length-gt-MOST_NAME-clause-err c =
    name_too_long c.args.bytes.now c.name_length-length.result c.requires c.name_length-length.ensures c.in_default.ensures.none (omega (arith, c.if-length-gt-MOST_NAME.true))

pub returns-clause-ok : goal.returns-clause-ok
returns-clause-ok c =
    name_stands c.args.bytes.now c.name_length-length.result c.requires c.name_length-length.ensures c.in_default.ensures.none (omega (arith, c.if-length-gt-MOST_NAME.false))
