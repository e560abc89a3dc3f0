use Rattle.std.proofs.Common.{◌≡◌, ◌∷◌, ap, arith, length}
use Rattle.kernel_worker.proofs.Meetings.{learns-one, may-skip, may-split, one-both, one-empty, one-node, one-others}
use Rattle.kernel_worker.proofs.meeting.+meet_each.Goals as goal

pub meet_each-others-requires : goal.meet_each-others-requires
meet_each-others-requires g t c κs within =
    let long : length c.args.others.now ≡ length (c.in-Some.other.now ∷ c.in-Some.rest.now) = ap length c.in-Some.ensures.cases.0 in
    (omega (arith, long, c.decreases), (within.0, (within.1, may-skip c.args.node.now c.meet_nodes-between.new.a c.in-Some.other.now c.in-Some.rest.now c.meet_nodes-between.ensures.place_a (may-split c.args.node.now c.args.others.now c.in-Some.other.now c.in-Some.rest.now c.in-Some.ensures.cases.0 c.requires))))

pub returns-clause-node : goal.returns-clause-node
returns-clause-node g t c =
    one-node c.args.node.now c.meet_nodes-between.new.a c.meet_each-others.new.node c.in-Some.other.now c.meet_nodes-between.new.b c.args.others.now c.in-Some.rest.now c.meet_each-others.new.others (record {
      is = c.in-Some.ensures.cases.0;
      may = c.requires;
      here = learns-one c.in-Some.other.now.base.port.kernel c.args.node.now c.meet_nodes-between.new.a c.meet_nodes-between.ensures.rest_a c.meet_nodes-between.ensures.place_a c.meet_nodes-between.ensures.looked_a;
      there = learns-one c.args.node.now.base.port.kernel c.in-Some.other.now c.meet_nodes-between.new.b c.meet_nodes-between.ensures.rest_b c.meet_nodes-between.ensures.place_b c.meet_nodes-between.ensures.looked_b;
      node = c.meet_each-others.ensures.node;
      others = c.meet_each-others.ensures.others;
    })

pub returns-clause-others : goal.returns-clause-others
returns-clause-others g t c =
    one-others c.args.node.now c.meet_nodes-between.new.a c.meet_each-others.new.node c.in-Some.other.now c.meet_nodes-between.new.b c.args.others.now c.in-Some.rest.now c.meet_each-others.new.others (record {
      is = c.in-Some.ensures.cases.0;
      may = c.requires;
      here = learns-one c.in-Some.other.now.base.port.kernel c.args.node.now c.meet_nodes-between.new.a c.meet_nodes-between.ensures.rest_a c.meet_nodes-between.ensures.place_a c.meet_nodes-between.ensures.looked_a;
      there = learns-one c.args.node.now.base.port.kernel c.in-Some.other.now c.meet_nodes-between.new.b c.meet_nodes-between.ensures.rest_b c.meet_nodes-between.ensures.place_b c.meet_nodes-between.ensures.looked_b;
      node = c.meet_each-others.ensures.node;
      others = c.meet_each-others.ensures.others;
    })

pub returns-clause-met : goal.returns-clause-met
returns-clause-met g t c =
    one-both c.args.node.now c.meet_nodes-between.new.a c.meet_each-others.new.node c.in-Some.other.now c.meet_nodes-between.new.b c.args.others.now c.in-Some.rest.now c.meet_each-others.new.others (record {
      is = c.in-Some.ensures.cases.0;
      may = c.requires;
      here = learns-one c.in-Some.other.now.base.port.kernel c.args.node.now c.meet_nodes-between.new.a c.meet_nodes-between.ensures.rest_a c.meet_nodes-between.ensures.place_a c.meet_nodes-between.ensures.looked_a;
      there = learns-one c.args.node.now.base.port.kernel c.in-Some.other.now c.meet_nodes-between.new.b c.meet_nodes-between.ensures.rest_b c.meet_nodes-between.ensures.place_b c.meet_nodes-between.ensures.looked_b;
      node = c.meet_each-others.ensures.node;
      others = c.meet_each-others.ensures.others;
    }) c.meet_nodes-between.ensures.there c.meet_each-others.ensures.met

pub returns-clause-empty : goal.returns-clause-empty
returns-clause-empty g t c =
    one-empty c.args.node.now c.meet_nodes-between.new.a c.meet_each-others.new.node c.in-Some.other.now c.meet_nodes-between.new.b c.args.others.now c.in-Some.rest.now c.meet_each-others.new.others (record {
      is = c.in-Some.ensures.cases.0;
      may = c.requires;
      here = learns-one c.in-Some.other.now.base.port.kernel c.args.node.now c.meet_nodes-between.new.a c.meet_nodes-between.ensures.rest_a c.meet_nodes-between.ensures.place_a c.meet_nodes-between.ensures.looked_a;
      there = learns-one c.args.node.now.base.port.kernel c.in-Some.other.now c.meet_nodes-between.new.b c.meet_nodes-between.ensures.rest_b c.meet_nodes-between.ensures.place_b c.meet_nodes-between.ensures.looked_b;
      node = c.meet_each-others.ensures.node;
      others = c.meet_each-others.ensures.others;
    }) c.meet_nodes-between.result c.none_of.result c.meet_each-others.result c.meet_nodes-between.ensures.count c.none_of.ensures c.meet_each-others.ensures.empty
