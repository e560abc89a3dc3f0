use Rattle.std.proofs.Common.{Bool, [], ◌∷◌, ◌++◌, true, ap, sym, ◌∙◌}
use Rattle.lynx_meaning.specs.Courses.{Await}
use Rattle.lynx_meaning.specs.Values.{Truth}
use Rattle.machine_thread.proofs.Answering.{awaiting, where_ok}
use Rattle.machine_thread.proofs.thread.Thread.awaits.Goals as goal

pub returns-in-Some : goal.returns-in-Some
returns-in-Some c =
    let top = c.truth.ensures in
    where_ok
    c.raises_after.result
    (λ move is p globals.
    is true globals ([] ++ Await ∷ [])
    ∙ sym
    (awaiting globals c.args.address c.in-Some.exception c.args.self.now top.0
    (top.1 ∙ ap (λ (b : Bool). Truth b ∷ top.0) c.if-truth.false)
    (sym c.first_exception.ensures ∙ c.in-Some.is)))
    c.raises_after.ensures
