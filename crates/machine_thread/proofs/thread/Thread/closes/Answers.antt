use Rattle.std.proofs.Common.{[], ◌∷◌, ◌++◌, sym, ◌∙◌}
use Rattle.lynx_meaning.specs.Courses.{Close}
use Rattle.machine_thread.proofs.Answering.{closing, has_outcome, where_ok}
use Rattle.machine_thread.proofs.thread.Thread.closes.Goals as goal

pub returns : goal.returns
returns c =
    where_ok
    c.answered.result
    (λ move is p globals.
    let s = c.args.self.now in
    is globals ([] ++ Close ∷ []) ∙ sym (closing globals s (has_outcome s.given (sym c.is_fresh.ensures ∙ c.if-is_fresh.false)) c.requires.unclosed))
    c.answered.ensures
