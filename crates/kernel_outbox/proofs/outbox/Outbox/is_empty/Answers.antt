use Rattle.std.proofs.Common.{◌≡◌, true, false, sym, ◌∙◌}
use Rattle.kernel_outbox.proofs.Emptying.{empty-out, none-waits, nothing-unsent}
use Rattle.kernel_outbox.proofs.outbox.Outbox.is_empty.Goals as goal

pub returns-then-is_empty : goal.returns-then-is_empty
returns-then-is_empty c =
    let o = c.args.self.now in
    (λ e. empty-out o (c.is_empty.ensures.0 c.if-is_empty.true) (c.none_waits.ensures.0 e), λ none. c.none_waits.ensures.1 (none-waits o none))

pub returns-else-is_empty : goal.returns-else-is_empty
returns-else-is_empty c =
    let o = c.args.self.now in (
      λ e. let no : true ≡ false = sym e ∙ c.if-is_empty.false in absurd cc,
      λ none. let no : true ≡ false = sym (c.is_empty.ensures.1 (nothing-unsent o none)) ∙ c.if-is_empty.false in absurd cc,
    )
