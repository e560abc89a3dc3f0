use Rattle.std.proofs.Common.{◌∙◌, Err}
use Rattle.lynx_lexer.proofs.Cuts.{one_spelling}
use Rattle.lynx_lexer.proofs.Faults.{gives_tokens, gives_fault, not_both}
use Rattle.lynx_lexer.proofs.reading.tokens.Goals as goal

pub returns-in_ok-tokens-in-Ok-clause-only : goal.returns-in_ok-tokens-in-Ok-clause-only
returns-in_ok-tokens-in-Ok-clause-only c tokens spelled within =
    c.in_ok-tokens-in-Ok.ensures ∙ one_spelling c.args.source.now c.in-Ok.lexemes tokens c.in-Ok.ensures.found.0 spelled

pub returns-in_ok-tokens-in-Ok-clause-only_fault : goal.returns-in_ok-tokens-in-Ok-clause-only_fault
returns-in_ok-tokens-in-Ok-clause-only_fault c place kind first =
    not_both c.args.source.now c.in-Ok.lexemes place kind c.in-Ok.ensures.found.0 c.in-Ok.ensures.found.1 first

pub returns-in-Err-clause-only : goal.returns-in-Err-clause-only
returns-in-Err-clause-only c tokens spelled within = gives_tokens c.args.source.now tokens (Err c.in-Err.fault) tt c.in-Err.ensures.fault spelled within

pub returns-in-Err-clause-only_fault : goal.returns-in-Err-clause-only_fault
returns-in-Err-clause-only_fault c place kind first = gives_fault c.args.source.now place kind (Err c.in-Err.fault) tt c.in-Err.ensures.fault first
