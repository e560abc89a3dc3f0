use Rattle.std.proofs.Common.{◌≡◌, ◌<◌, ℕ, List, ◌∷◌, ◌++◌, [], length, map, set, get_or, ap, ◌∙◌, subst, sym, arith}
use Rattle.std.proofs.lemmas.List.{map-set, length-map}
use Rattle.std.specs.Global.{Vec}
use Rattle.kernel_net.specs.Ports.{IsPlace, place_of}
use Rattle.kernel_net.specs.Grid.{getters_of, putters_of}
use Rattle.kernel_net.proofs.Grid.{port_at, port-place, taking-more, taking-same}
use Rattle.kernel_net.proofs.Lists.{read-at}
use Rattle.kernel_net.proofs.net.ports_of.Goals as goal

-- what was lent and taken away is what was there
taken : {X : Type 0} (vs : List (Vec X)) (at k : ℕ) (lent result : Vec X) → at ≡ k → at < length vs → lent ≡ get_or vs at lent → result ≡ lent → result.items ≡ get_or (map (λ v. v.items) vs) k []
taken vs at k lent result same below is took = ap (λ v. v.items) took ∙ sym (read-at (λ v. v.items) vs at lent lent below is []) ∙ ap (λ i. get_or (map (λ v. v.items) vs) i []) same

-- and an empty list is in its place
emptied : {X : Type 0} (vs : List (Vec X)) (at k : ℕ) (empty new : Vec X) → at ≡ k → new ≡ empty → empty.items ≡ [] → map (λ v. v.items) (set vs at new) ≡ set (map (λ v. v.items) vs) k []
emptied {X} vs at k empty new same is none = map-set (λ v. v.items) vs at new ∙ ap (λ (l : List X). set (map (λ v. v.items) vs) at l) (ap (λ v. v.items) is ∙ none) ∙ ap (λ i. set (map (λ v. v.items) vs) i []) same

pub invariant_of-push : goal.invariant_of-push
invariant_of-push c =
    let k = c.loop-kernel.kernel in
    let below-out : c.from.result < length c.loop-kernel.outs.items =
    omega (arith, c.loop-kernel-test.true, c.from.ensures, c.requires.grid.1.putters, c.loop-kernel.invariant.row_count, length-map c.loop-kernel.outs.items (λ v. v.items)) in
    let below-into : c.from-in-loop-kernel.result < length c.loop-kernel.intos.items =
    omega (arith, c.loop-kernel-test.true, c.from-in-loop-kernel.ensures, c.requires.grid.1.getters, c.loop-kernel.invariant.list_count, length-map c.loop-kernel.intos.items (λ v. v.items)) in
    let out = taken c.loop-kernel.outs.items c.from.result k c.index_mut.result.now c.replace-out.result c.from.ensures below-out c.index_mut.ensures.value c.replace-out.ensures.value in
    let into = taken c.loop-kernel.intos.items c.from-in-loop-kernel.result k c.index_mut-in-loop-kernel.result.now c.replace-into.result c.from-in-loop-kernel.ensures below-into
    c.index_mut-in-loop-kernel.ensures.value c.replace-into.ensures.value in
    subst IsPlace (λ i. place_of (record { kernel = k; out = sym (out ∙ c.loop-kernel.invariant.putters k (omega arith)) i; into = sym (into ∙ c.loop-kernel.invariant.getters k (omega arith)) i }))
    (port-place c.requires.grid.0 c.args.kernels (putters_of c.args.outs.now.items) (getters_of c.args.intos.now.items) c.requires.grid.1 k c.loop-kernel-test.true c.requires.most)

pub loop-kernel-preserved : goal.loop-kernel-preserved
loop-kernel-preserved c =
    let k = c.loop-kernel.kernel in
    let below-out : c.from.result < length c.loop-kernel.outs.items =
    omega (arith, c.loop-kernel-test.true, c.from.ensures, c.requires.grid.1.putters, c.loop-kernel.invariant.row_count, length-map c.loop-kernel.outs.items (λ v. v.items)) in
    let below-into : c.from-in-loop-kernel.result < length c.loop-kernel.intos.items =
    omega (arith, c.loop-kernel-test.true, c.from-in-loop-kernel.ensures, c.requires.grid.1.getters, c.loop-kernel.invariant.list_count, length-map c.loop-kernel.intos.items (λ v. v.items)) in
    let out = taken c.loop-kernel.outs.items c.from.result k c.index_mut.result.now c.replace-out.result c.from.ensures below-out c.index_mut.ensures.value c.replace-out.ensures.value in
    let into = taken c.loop-kernel.intos.items c.from-in-loop-kernel.result k c.index_mut-in-loop-kernel.result.now c.replace-into.result c.from-in-loop-kernel.ensures below-into
    c.index_mut-in-loop-kernel.ensures.value c.replace-into.ensures.value in
    let items : c.push.new.self.items ≡ c.loop-kernel.ports.items ++ port_at (putters_of c.loop-kernel.outs.items) (getters_of c.loop-kernel.intos.items) k ∷ [] =
    c.in_ok-push.ensures.items ∙ (λ i. c.loop-kernel.ports.items ++ record { kernel = k; out = out i; into = into i } ∷ []) in
    taking-same _ _ _ items
    (emptied c.loop-kernel.outs.items c.from.result k c.new.result c.replace-out.new.dest c.from.ensures c.replace-out.ensures.after c.new.ensures.items)
    (emptied c.loop-kernel.intos.items c.from-in-loop-kernel.result k c.new-in-loop-kernel.result c.replace-into.new.dest c.from-in-loop-kernel.ensures c.replace-into.ensures.after c.new-in-loop-kernel.ensures.items)
    (taking-more k c.loop-kernel.ports.items _ (putters_of c.loop-kernel.outs.items) _ (getters_of c.loop-kernel.intos.items) c.loop-kernel.invariant)
