use Rattle.transcript_audit.proofs.Once.{not-both, one-accepted, one-rejected}
use Rattle.transcript_audit.proofs.law.one_audit.Goals as goal

pub returns-clause-accepted : goal.returns-clause-accepted
returns-clause-accepted c = one-accepted

pub returns-clause-rejected : goal.returns-clause-rejected
returns-clause-rejected c = one-rejected

pub returns-clause-not_both : goal.returns-clause-not_both
returns-clause-not_both c = not-both
