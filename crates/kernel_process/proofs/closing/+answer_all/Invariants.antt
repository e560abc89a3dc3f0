-- How many are left.
use Rattle.std.specs.Prelude.{vec_len}
use Rattle.kernel_process.proofs.closing.+answer_all.Given as goal

abbrev pub decreases-answer_all : goal.decreases-answer_all
decreases-answer_all l = vec_len l.answers.now
