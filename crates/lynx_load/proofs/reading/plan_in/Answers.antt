use Rattle.plan_text.proofs.Hostless.{files_and_lines}
use Rattle.lynx_load.proofs.reading.plan_in.Goals as goal

pub returns-in-Ok-clause-whole : goal.returns-in-Ok-clause-whole
returns-in-Ok-clause-whole c = record { valid = c.in-Ok.ensures.valid; runs = files_and_lines c.args.bytes.now _ c.in-Ok.ensures.found }
