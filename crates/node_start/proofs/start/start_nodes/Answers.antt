use Rattle.std.proofs.Common.{◌≡◌, [], length, map, get_or, All, refl, ap, sym, subst, ◌∙◌, arith}
use Rattle.std.proofs.lemmas.List.{length-map, nil_from_length}
use Rattle.kernel_net.specs.Ports.{IsFresh, place_of}
use Rattle.node_start.proofs.Started.{all-started, next-few, next-started, some-left, started-none}
use Rattle.node_start.proofs.start.start_nodes.Goals as goal

pub loop-part-init : goal.loop-part-init
loop-part-init g c =
    let items = ap (map (λ list. list.items)) c.from-lists.ensures.0 in (
      c.requires.rings.0,
      started-none _ _ _ _ _ _ _ _
          (record {
            valid = c.requires.valid;
            count = c.requires.programs;
            fresh = c.requires.fresh;
            net_is = c.requires.net;
            kernels = length-map c.args.ports.items place_of ∙ c.requires.ports;
            room = c.requires.rings.1;
            lists_are = length-map c.from-lists.result.items (λ list. list.items) ∙ ap length c.from-lists.ensures.0 ∙ c.in_ok-by_home.ensures.count;
            each = λ k there. ap (λ ls. get_or ls k []) items ∙ c.in_ok-by_home.ensures.lists k there;
            parts_are = c.requires.parts;
          })
          _ c.new-nodes.ensures.items _ (ap (map place_of) c.from-ports.ensures.0) (subst (All (IsFresh c.requires.rings.0)) (sym c.from-ports.ensures.0) c.requires.rings.2) _
          c.into_iter-part-iterator.ensures.into_iter_gives.0 c.requires.orders,
    )

pub first_of-own-requires : goal.first_of-own-requires
first_of-own-requires g c =
    let some = some-left _ _ _ _ _ _ _ _ _ _ _ _ _ c.loop-part.invariant.1 _ _ c.in-Some.ensures.steps.0 in
    omega (arith, some.0, length-map c.loop-part.lists.items (λ list. list.items))

pub first_of-port-requires : goal.first_of-port-requires
first_of-port-requires g c = (some-left _ _ _ _ _ _ _ _ _ _ _ _ _ c.loop-part.invariant.1 _ _ c.in-Some.ensures.steps.0).1

pub start_node-requires-clause-few : goal.start_node-requires-clause-few
start_node-requires-clause-few g c =
    next-few _ _ _ _ _ _ _ _ _ _ _ _ _ c.loop-part.invariant.1 _ _ _ _ _ _ (ap (map (λ list. list.items)) c.first_of-own.ensures) c.first_of-port.ensures c.in-Some.ensures.steps.0

pub loop-part-preserved : goal.loop-part-preserved
loop-part-preserved g c = (
  c.loop-part.invariant.0,
  next-started _ _ _ _ _ _ _ _ _ _ _ _ _ c.loop-part.invariant.1 _ _ _ _ _ _ (ap (map (λ list. list.items)) c.first_of-own.ensures) c.first_of-port.ensures c.in-Some.ensures.steps.0
      c.in_ok-start_node.field-0 c.in_ok-start_node.ensures _ c.in_ok-push.ensures.items,
)

pub returns-clause-nodes : goal.returns-clause-nodes
returns-clause-nodes g c =
    (all-started _ _ _ _ _ _ _ _ _ _ _ _ _ c.loop-part.invariant.1 (nil_from_length c.loop-part.part-iterator.rest.items (omega (arith, c.in-None.ensures.steps.0, c.loop-part.part-iterator.rest.ok)))).0

pub returns-clause-parts : goal.returns-clause-parts
returns-clause-parts g c =
    (all-started _ _ _ _ _ _ _ _ _ _ _ _ _ c.loop-part.invariant.1 (nil_from_length c.loop-part.part-iterator.rest.items (omega (arith, c.in-None.ensures.steps.0, c.loop-part.part-iterator.rest.ok)))).1
