use Rattle.kernel_net.proofs.Ports.{looked-put, may-looked}
use Rattle.kernel_net.proofs.port.Port.put.Goals as goal

pub put_known-requires-clause-letter : goal.put_known-requires-clause-letter
put_known-requires-clause-letter c = may-looked _ _ c.args.self.now c.is_full.new.self c.is_full.ensures.looked c.requires.letter

pub returns-clause-ok : goal.returns-clause-ok
returns-clause-ok c = looked-put _ _ c.args.self.now c.is_full.new.self c.put_known.new.self c.is_full.ensures.looked c.is_full.ensures.into c.put_known.ensures.put
