use Rattle.lynx_run.proofs.Complete.{bench-complete, complete, told-complete}
use Rattle.lynx_run.proofs.law.each_command_is_complete.Goals as goal

pub returns-clause-by_files : goal.returns-clause-by_files
returns-clause-by_files c = told-complete

pub returns-clause-by_answer : goal.returns-clause-by_answer
returns-clause-by_answer c = complete

pub returns-clause-by_seed : goal.returns-clause-by_seed
returns-clause-by_seed c = bench-complete
