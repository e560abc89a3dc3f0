use Rattle.std.proofs.Common.{◌≡◌, ◌+◌, ◌∷◌, ◌++◌, [], ap, ◌∙◌, subst, sym, arith}
use Rattle.std.proofs.lemmas.List.{map-append, length-map}
use Rattle.kernel_net.specs.Grid.{IsGrid, IsRow, getters_of, putters_of}
use Rattle.kernel_net.proofs.Grid.{grid-more, net-made, fresh-made}
use Rattle.kernel_net.proofs.net.Net.make.Goals as goal

pub loop-init : goal.loop-init
loop-init c = subst (λ rows. IsGrid c.args.capacity c.args.kernels 0 rows (getters_of c.in_ok-intos.intos.items)) (sym (ap putters_of c.new-outs.ensures.items)) (c.in_ok-intos.ensures c.args.capacity)

pub loop-preserved : goal.loop-preserved
loop-preserved c =
    let row = c.in_ok-rings_to_each.field-0 in
    let items : putters_of c.push.new.self.items ≡ putters_of c.loop.outs.items ++ row.items ∷ [] =
    ap putters_of c.in_ok-push.ensures.items ∙ map-append (λ v. v.items) c.loop.outs.items (row ∷ []) in
    subst (λ rows. IsGrid c.args.capacity c.args.kernels (c.loop.counter + 1) rows (getters_of c.rings_to_each.new.intos.items)) (sym items)
    (grid-more c.args.capacity c.args.kernels c.loop.counter (putters_of c.loop.outs.items) row.items (getters_of c.loop.intos.items) (getters_of c.rings_to_each.new.intos.items) c.loop.invariant
    (subst (λ n. IsRow c.args.capacity n row.items (getters_of c.loop.intos.items) (getters_of c.rings_to_each.new.intos.items)) (omega (arith, c.loop.invariant.getters, length-map c.loop.intos.items (λ v. v.items))) c.in_ok-rings_to_each.ensures))

pub ports_of-requires-clause-grid : goal.ports_of-requires-clause-grid
ports_of-requires-clause-grid c = (c.args.capacity, subst (λ n. IsGrid c.args.capacity c.args.kernels n (putters_of c.loop.outs.items) (getters_of c.loop.intos.items)) (omega arith) c.loop.invariant)

pub returns-clause-net : goal.returns-clause-net
returns-clause-net c =
    let grid = subst (λ n. IsGrid c.args.capacity c.args.kernels n (putters_of c.loop.outs.items) (getters_of c.loop.intos.items)) (omega arith) c.loop.invariant in
    net-made c.args.capacity c.args.kernels _ _ grid _ c.in_ok-ports.ensures

pub returns-clause-fresh : goal.returns-clause-fresh
returns-clause-fresh c =
    let grid = subst (λ n. IsGrid c.args.capacity c.args.kernels n (putters_of c.loop.outs.items) (getters_of c.loop.intos.items)) (omega arith) c.loop.invariant in
    fresh-made c.args.capacity c.args.kernels _ _ grid _ c.in_ok-ports.ensures
