use Rattle.std.proofs.Common.{[], ◌∷◌, ◌++◌, sym, ◌∙◌}
use Rattle.machine_thread.proofs.Answering.{plain, where_ok}
use Rattle.machine_thread.proofs.thread.Thread.answered_after.Goals as goal

pub returns : goal.returns
returns c = where_ok c.answered.result (λ move told_is globals action. told_is globals ([] ++ action ∷ []) ∙ sym (plain globals action c.args.taken c.args.self.now c.requires.given)) c.answered.ensures
