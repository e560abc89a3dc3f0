use Rattle.service_links.proofs.Changed.{ends_of-empty}
use Rattle.service_links.proofs.links.Links.empty.Goals as goal

pub returns : goal.returns
returns c = ends_of-empty _ c.new.ensures.items
