use Rattle.std.proofs.Common.{◌≡◌, [], length, IsTrue, ◌∙◌, sym, rules}
use Rattle.std.proofs.lemmas.List.{nil_from_length}
use Rattle.packet_queue.proofs.Pictures.{none-pictures, pictures-none}
use Rattle.packet_queue.proofs.queue.PacketQueue.is_empty.Goals as goal

pub returns : goal.returns
returns c = (
  (λ (is : IsTrue c.is_empty.result).
      let none : length c.self.inside.front.items ≡ 0 = search rules in
      let empty : c.self.inside.front.items ≡ [] = nil_from_length c.self.inside.front.items none in
      sym c.self.view_is ∙ none-pictures c.self.inside.front.items c.self.inside.behind.items c.self.invariant empty),
  (λ none.
      let empty : c.self.inside.front.items ≡ [] = pictures-none c.self.inside.front.items c.self.inside.behind.items (c.self.view_is ∙ none) in
      search rules),
)
