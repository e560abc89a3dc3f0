use Rattle.std.proofs.Common.{◌≡◌, false, true, length, ap, sym, ◌∙◌, rules}
use Rattle.kernel_outbox.specs.Unsent.{UnsentView}
use Rattle.charlotte_packets.proofs.Sent.{none-first}
use Rattle.kernel_outbox.proofs.unsent.Unsent.is_empty.Goals as goal

pub returns-else-is_empty : goal.returns-else-is_empty
returns-else-is_empty c = (
  (λ is. let no : false ≡ true = sym c.if-is_empty.false ∙ is in absurd (cc)),
  (λ none.
      let empty : length c.self.inside.front.items ≡ 0 = none-first c.self.inside.front.items c.self.inside.behind.items (ap (λ (v : UnsentView). v.items) c.self.view_is ∙ none) in
      search rules),
)
