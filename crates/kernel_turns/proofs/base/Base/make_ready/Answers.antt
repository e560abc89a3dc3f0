use Rattle.kernel_turns.proofs.Beginning.{begun-may}
use Rattle.kernel_turns.proofs.base.Base.make_ready.Goals as goal

pub put-requires-clause-letters : goal.put-requires-clause-letters
put-requires-clause-letters c = begun-may c.args.self.now c.begin_in_time.new.self c.in_ok-begin_in_time.ensures.begins c.requires.letters

pub returns-clause-ready : goal.returns-clause-ready
returns-clause-ready c = (c.begin_in_time.new.self, c.in_ok-begin_in_time.ensures.begins, c.in_ok-put.ensures.puts)
