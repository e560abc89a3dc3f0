use Rattle.typing_signatures.proofs.Clean.{law}
use Rattle.typing_signatures.proofs.law.ops_have_facts.Goals as goal

pub returns : goal.returns
returns c = law
