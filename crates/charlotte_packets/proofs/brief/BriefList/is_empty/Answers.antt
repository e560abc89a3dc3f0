use Rattle.std.proofs.Common.{◌≡◌, length, ap, sym, IsTrue, ◌∙◌, rules}
use Rattle.std.proofs.lemmas.List.{nil_from_length}
use Rattle.charlotte_packets.specs.Sent.{packets_of, ListView}
use Rattle.charlotte_packets.proofs.Sent.{none-briefs}
use Rattle.charlotte_packets.proofs.brief.BriefList.is_empty.Goals as goal

pub returns : goal.returns
returns c = (
  (λ (is : IsTrue c.is_empty.result).
      let none : length c.self.inside.briefs.items ≡ 0 = search rules in
      ap (λ (v : ListView). v.items) (sym c.self.view_is) ∙ ap (λ l. packets_of l c.self.inside.whole.items) (nil_from_length c.self.inside.briefs.items none)),
  (λ none.
      let few : length c.self.inside.briefs.items ≡ 0 =
      none-briefs c.self.inside.briefs.items c.self.inside.whole.items c.self.invariant.all (ap (λ (v : ListView). v.items) c.self.view_is ∙ none) in
      search rules),
)
