-- How many are left.
use Rattle.std.specs.Prelude.{vec_len}
use Rattle.kernel_process.proofs.closing.+join_all.Given as goal

abbrev pub decreases-join_all : goal.decreases-join_all
decreases-join_all l = vec_len l.reports.now
