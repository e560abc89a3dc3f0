use Rattle.std.proofs.Common.{◌≡◌, ◌+◌, List, ◌∷◌, ◌++◌, [], ap, ◌∙◌, subst, sym, arith}
use Rattle.std.proofs.lemmas.List.{map-append}
use Rattle.kernel_net.specs.Rings.{Inlet}
use Rattle.kernel_net.specs.Grid.{IsGrid, getters_of}
use Rattle.kernel_net.proofs.Grid.{grid-wider}
use Rattle.kernel_net.proofs.net.no_getters.Goals as goal

pub loop-preserved : goal.loop-preserved
loop-preserved c capacity =
    let items : getters_of c.push.new.self.items ≡ getters_of c.loop.intos.items ++ [] ∷ [] =
    ap getters_of c.in_ok-push.ensures.items ∙ map-append (λ v. v.items) c.loop.intos.items (c.new.result ∷ [])
    ∙ ap (λ (x : List Inlet). getters_of c.loop.intos.items ++ x ∷ []) c.new.ensures.items in
    subst (λ lists. IsGrid capacity (c.loop.counter + 1) 0 [] lists) (sym items) (grid-wider capacity c.loop.counter (getters_of c.loop.intos.items) (c.loop.invariant capacity))

pub returns : goal.returns
returns c capacity = subst (λ n. IsGrid capacity n 0 [] (getters_of c.loop.intos.items)) (omega arith) (c.loop.invariant capacity)
