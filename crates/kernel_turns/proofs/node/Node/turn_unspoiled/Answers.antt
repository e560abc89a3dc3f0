use Rattle.std.proofs.Common.{rules, ◌≡◌, ◌≢◌, ◌<◌}
use Rattle.kernel_net.specs.Letters.{greatest_stamp}
use Rattle.kernel_turns.proofs.Answering.{amid-ready, amid-same, turn-heard, turn-spent, turn-went}
use Rattle.kernel_turns.proofs.Marking.{letters-may}
use Rattle.kernel_turns.specs.Turns.{SpendsStamps}
use Rattle.kernel_turns.proofs.node.Node.turn_unspoiled.Goals as goal

pub returns-then-stamp-eq18446744073709551615-clause-turn : goal.returns-then-stamp-eq18446744073709551615-clause-turn
returns-then-stamp-eq18446744073709551615-clause-turn g c =
    let spent : c.args.self.now.base.kernel.stamp ≡ greatest_stamp = search rules in
    SpendsStamps c.args.self.now spent

pub make_ready-requires-clause-letters : goal.make_ready-requires-clause-letters
make_ready-requires-clause-letters g c =
    let one = c.requires.node in
    let early : c.args.self.now.base.kernel.stamp < greatest_stamp = search rules in
    letters-may one.setting one.kernel one.made c.args.self.now.base (one.node.sent c.requires.unspoiled) early

pub returns-then-self-clause-turn : goal.returns-then-self-clause-turn
returns-then-self-clause-turn g c =
    let early : c.args.self.now.base.kernel.stamp < greatest_stamp = search rules in
    let used : c.make_ready.new.self.used ≡ c.make_ready.new.self.orders.limit = search rules in
    let ready = c.in_ok-put.ensures.ready in
    turn-spent _ _ c.args.self.now c.args.self.now ready.0 c.make_ready.new.self _ c.requires.node c.requires.unspoiled early ready.1 ready.2 used

pub hear-requires : goal.hear-requires
hear-requires g c =
    let early : c.args.self.now.base.kernel.stamp < greatest_stamp = search rules in
    let left : c.make_ready.new.self.used ≢ c.make_ready.new.self.orders.limit = search rules in
    let ready = c.in_ok-put.ensures.ready in
    record { amid = (c.make_ready.new.self, amid-ready _ _ c.args.self.now c.args.self.now ready.0 c.make_ready.new.self _ c.requires.node c.requires.unspoiled early ready.1 ready.2 left, c.in-Some.ensures.some) }

pub go_on-requires-clause-amid : goal.go_on-requires-clause-amid
go_on-requires-clause-amid g c =
    let early : c.args.self.now.base.kernel.stamp < greatest_stamp = search rules in
    let left : c.make_ready.new.self.used ≢ c.make_ready.new.self.orders.limit = search rules in
    let ready = c.in_ok-put.ensures.ready in
    amid-same _ _ c.args.self.now c.args.self.now ready.0 c.make_ready.new.self _ c.requires.node c.requires.unspoiled early ready.1 ready.2 c.first.new.self c.in-None.ensures.none.0 left

pub returns-in-Some-clause-turn : goal.returns-in-Some-clause-turn
returns-in-Some-clause-turn g c =
    let early : c.args.self.now.base.kernel.stamp < greatest_stamp = search rules in
    let left : c.make_ready.new.self.used ≢ c.make_ready.new.self.orders.limit = search rules in
    let ready = c.in_ok-put.ensures.ready in
    turn-heard _ _ c.args.self.now _ ready.0 c.make_ready.new.self _ c.requires.node c.requires.unspoiled early ready.1 ready.2 c.hear.result _ c.first.new.self left c.in-Some.ensures.some c.hear.ensures.turn

pub returns-in-None-clause-turn : goal.returns-in-None-clause-turn
returns-in-None-clause-turn g c =
    let early : c.args.self.now.base.kernel.stamp < greatest_stamp = search rules in
    let ready = c.in_ok-put.ensures.ready in
    turn-went _ _ c.args.self.now _ ready.0 c.make_ready.new.self _ c.requires.node c.requires.unspoiled early ready.1 ready.2 c.go_on.result c.first.new.self c.in-None.ensures.none.0 c.go_on.ensures.turn
