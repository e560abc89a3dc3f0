use Rattle.std.proofs.Common.{◌∙◌, ap}
use Rattle.service_step.specs.Ends.{matched_message}
use Rattle.service_step.specs.declared.state.End.{End}
use Rattle.service_links.proofs.Changed.{ends_of-is}
use Rattle.service_links.proofs.links.Links.take_letter.Goals as goal

pub returns-clause-letter : goal.returns-clause-letter
returns-clause-letter c = c.take_kept.ensures.letter ∙ ap (λ (x : End). matched_message x.outward) (ends_of-is _ c.args.e)
