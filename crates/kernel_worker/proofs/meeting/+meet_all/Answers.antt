use Rattle.std.proofs.Common.{◌≡◌, ◌∷◌, ap, arith, length}
use Rattle.kernel_worker.proofs.Each.{each-length}
use Rattle.kernel_worker.proofs.Meetings.{all-learns, all-met, all-none, learns-one, may-learned, may-own}
use Rattle.kernel_worker.specs.Rounds.{Learns}
use Rattle.kernel_worker.proofs.meeting.+meet_all.Goals as goal

pub meet_each-first-requires : goal.meet_each-first-requires
meet_each-first-requires g t c =
    may-own c.args.nodes.now c.in-Some.node.now c.meet_self-own.new.self c.in-Some.others.now c.in-Some.ensures.cases.0 c.meet_self-own.ensures.place c.requires

pub meet_all-rest-requires : goal.meet_all-rest-requires
meet_all-rest-requires g t c κs within =
    let long : length c.args.nodes.now ≡ length (c.in-Some.node.now ∷ c.in-Some.others.now) = ap length c.in-Some.ensures.cases.0 in
    let same : length c.meet_each-first.new.others ≡ length c.in-Some.others.now = each-length (Learns (λ q. q ≡ c.meet_self-own.new.self.base.port.kernel)) c.in-Some.others.now c.meet_each-first.new.others c.meet_each-first.ensures.others in
    (omega (arith, long, same, c.decreases), (within.0, (within.1, may-learned (λ q. q ≡ c.meet_self-own.new.self.base.port.kernel) c.in-Some.others.now c.meet_each-first.new.others c.meet_each-first.ensures.others (may-own c.args.nodes.now c.in-Some.node.now c.meet_self-own.new.self c.in-Some.others.now c.in-Some.ensures.cases.0 c.meet_self-own.ensures.place c.requires).2)))

pub returns-clause-met : goal.returns-clause-met
returns-clause-met g t c =
    all-met c.meet_self-own.new.self c.meet_each-first.new.node c.in-Some.others.now c.meet_each-first.new.others c.meet_all-rest.new.nodes (record { apart = (may-own c.args.nodes.now c.in-Some.node.now c.meet_self-own.new.self c.in-Some.others.now c.in-Some.ensures.cases.0 c.meet_self-own.ensures.place c.requires).1; node = c.meet_each-first.ensures.node; others = c.meet_each-first.ensures.others; rest = c.meet_all-rest.ensures.learned }) c.meet_self-own.ensures.there c.meet_each-first.ensures.met c.meet_all-rest.ensures.met

pub returns-clause-learned : goal.returns-clause-learned
returns-clause-learned g t c =
    all-learns c.meet_self-own.new.self c.meet_each-first.new.node c.in-Some.others.now c.meet_each-first.new.others c.meet_all-rest.new.nodes (record { apart = (may-own c.args.nodes.now c.in-Some.node.now c.meet_self-own.new.self c.in-Some.others.now c.in-Some.ensures.cases.0 c.meet_self-own.ensures.place c.requires).1; node = c.meet_each-first.ensures.node; others = c.meet_each-first.ensures.others; rest = c.meet_all-rest.ensures.learned }) c.args.nodes.now c.in-Some.node.now c.in-Some.ensures.cases.0 (learns-one c.in-Some.node.now.base.port.kernel c.in-Some.node.now c.meet_self-own.new.self c.meet_self-own.ensures.rest c.meet_self-own.ensures.place c.meet_self-own.ensures.looked)

pub returns-clause-empty : goal.returns-clause-empty
returns-clause-empty g t c =
    all-none c.meet_self-own.new.self c.meet_each-first.new.node c.in-Some.others.now c.meet_each-first.new.others c.meet_all-rest.new.nodes (record { apart = (may-own c.args.nodes.now c.in-Some.node.now c.meet_self-own.new.self c.in-Some.others.now c.in-Some.ensures.cases.0 c.meet_self-own.ensures.place c.requires).1; node = c.meet_each-first.ensures.node; others = c.meet_each-first.ensures.others; rest = c.meet_all-rest.ensures.learned }) c.meet_self-own.result c.all_none.result c.meet_each-first.result c.meet_all-rest.result c.meet_self-own.ensures.count c.all_none.ensures c.meet_each-first.ensures.empty c.meet_all-rest.ensures.empty
