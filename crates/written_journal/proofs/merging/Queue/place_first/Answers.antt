use Rattle.std.proofs.Common.{◌≡◌, ◌∙◌, ◌∷◌, drop}
use Rattle.written_journal.proofs.Texts.{at-drop}
use Rattle.written_journal.proofs.merging.Queue.place_first.Goals as goal

pub returns : goal.returns
returns c =
    λ e es is.
    let left : drop c.self.inside.placed c.self.inside.journal.now.entries ≡ e ∷ es = c.self.view_is ∙ is in
    ((at-drop c.self.inside.journal.now.entries c.self.inside.placed e es left).behind, c.in_ok-push.ensures e es left)
