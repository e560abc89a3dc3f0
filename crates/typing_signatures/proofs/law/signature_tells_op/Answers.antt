use Rattle.typing_signatures.proofs.Tells.{facts-op, law}
use Rattle.typing_signatures.proofs.law.signature_tells_op.Goals as goal

pub returns-clause-told : goal.returns-clause-told
returns-clause-told c = law

pub returns-clause-facts : goal.returns-clause-facts
returns-clause-facts c = facts-op
