use Rattle.std.proofs.Common.{map, ap, ◌∙◌, arith}
use Rattle.std.proofs.lemmas.List.{take_all}
use Rattle.lynx_lexer.specs.Lexemes.{lexeme_of}
use Rattle.lynx_lexer.proofs.Placed.{told_stand, told_same}
use Rattle.lynx_lexer.proofs.lexemes.Lexemes.of_tokens.Goals as goal

pub of-requires : goal.of-requires
of-requires c =
    told_stand c.args.source.now c.args.tokens.now c.loop-token.all.items c.requires.spell c.requires.limits
    (c.loop-token.invariant ∙ ap (map lexeme_of) (take_all c.loop-token.token-index c.args.tokens.now (omega (arith, c.loop-token-test.false, c.loop-token.auto.token-index-end))))

pub returns : goal.returns
returns c =
    c.of.ensures ∙ told_same c.args.source.now c.args.tokens.now c.loop-token.all.items c.requires.spell c.requires.limits
    (c.loop-token.invariant ∙ ap (map lexeme_of) (take_all c.loop-token.token-index c.args.tokens.now (omega (arith, c.loop-token-test.false, c.loop-token.auto.token-index-end))))
