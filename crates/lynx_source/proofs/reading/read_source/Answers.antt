use Rattle.lynx_tree.specs.Trees.{module_tree}
use Rattle.lynx_source.proofs.Readings.{few_tokens}
use Rattle.lynx_source.proofs.reading.read_source.Goals as goal

pub returns-in-Ok-parse_lexemes-clause-few : goal.returns-in-Ok-parse_lexemes-clause-few
returns-in-Ok-parse_lexemes-clause-few c =
    few_tokens c.args.source.now c.in-Ok.tokens (module_tree c.in-Ok-parse_lexemes.module) c.in-Ok.ensures.found.0 c.in-Ok-parse_lexemes.ensures.found.0.1 c.requires
