use Rattle.std.proofs.Common.{◌≤◌, ◌++◌, take, drop, length, ap, sym, subst, ◌∙◌}
use Rattle.std.proofs.lemmas.List.{with_items_is}
use Rattle.charlotte_packets.specs.Sent.{ListView}
use Rattle.charlotte_packets.proofs.Sent.{behind-in-part, within-whole}
use Rattle.charlotte_packets.proofs.listed.PacketList.put_behind.Goals as goal

pub returns-clause-items : goal.returns-clause-items
returns-clause-items c =
    let within : c.args.upto ≤ length c.self.inside.whole.items =
    within-whole _ _ _ _ c.self.invariant c.args.upto c.requires.few (subst (λ (v : ListView). c.args.upto ≤ length v.items) (sym c.self.view_is) c.requires.upto) in
    ap (λ l. l ++ c.self.inside.behind.items)
    (with_items_is c.self.inside.whole c.rotate_front.new.packets (c.rotate_front.ensures.length ∙ c.as_mut_slice.ensures.len)
    ∙ c.rotate_front.ensures.rotated
    ∙ ap (λ l. (drop c.args.first (take c.args.upto l) ++ take c.args.first (take c.args.upto l)) ++ drop c.args.upto l) c.as_mut_slice.ensures.value)
    ∙ behind-in-part c.args.first c.args.upto c.self.inside.whole.items c.self.inside.behind.items within
    ∙ ap (λ (v : ListView). (drop c.args.first (take c.args.upto v.items) ++ take c.args.first (take c.args.upto v.items)) ++ drop c.args.upto v.items) c.self.view_is
