use Rattle.std.proofs.Common.{◌≡◌, ◌<◌, ◌+◌, List, ◌∷◌, ◌++◌, [], length, set, get_or, ap, ◌∙◌, subst, sym, rules, arith}
use Rattle.std.proofs.lemmas.List.{map-set, length-map}
use Rattle.kernel_net.specs.Rings.{Inlet, Outlet}
use Rattle.kernel_net.specs.Grid.{IsRow, getters_of}
use Rattle.kernel_net.proofs.Grid.{row-more}
use Rattle.kernel_net.proofs.Lists.{read-at}
use Rattle.kernel_net.proofs.net.rings_to_each.Goals as goal

pub loop-to-preserved : goal.loop-to-preserved
loop-to-preserved c =
    let to = c.loop-to.to in
    let now = getters_of c.loop-to.intos.items in
    let below : to < length c.loop-to.intos.items = search rules in
    let pushed : c.push-in-loop-to.new.self.items ≡ get_or now to [] ++ c.in_ok-putter.getter ∷ [] =
    c.in_ok-push-2.ensures.items ∙ ap (λ (l : List Inlet). l ++ c.in_ok-putter.getter ∷ []) (sym (read-at (λ v. v.items) c.loop-to.intos.items to c.index_mut.result.now c.index_mut.result.now below c.index_mut.ensures.value [])) in
    let items : getters_of (set c.loop-to.intos.items to c.push-in-loop-to.new.self) ≡ set now to (get_or now to [] ++ c.in_ok-putter.getter ∷ []) =
    map-set (λ v. v.items) c.loop-to.intos.items to c.push-in-loop-to.new.self ∙ ap (λ (l : List Inlet). set now to l) pushed in
    subst (λ (row : List Outlet). IsRow c.args.capacity (to + 1) row (getters_of c.args.intos.now.items) (getters_of (set c.loop-to.intos.items to c.push-in-loop-to.new.self))) (sym c.in_ok-push.ensures.items)
    (subst (λ lists. IsRow c.args.capacity (to + 1) (c.loop-to.row.items ++ c.in_ok-putter.putter ∷ []) (getters_of c.args.intos.now.items) lists) (sym items)
    (row-more c.args.capacity to c.loop-to.row.items (getters_of c.args.intos.now.items) now c.in_ok-putter.putter c.in_ok-putter.getter c.loop-to.invariant
    (omega (arith, below, length-map c.loop-to.intos.items (λ v. v.items))) c.in_ok-putter.ensures))
