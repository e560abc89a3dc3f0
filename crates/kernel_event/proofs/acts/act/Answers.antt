use Rattle.std.proofs.Common.{ap, sym, subst, ◌∙◌}
use Rattle.end_table.specs.Table.{entries}
use Rattle.kernel_event.proofs.ActsParts.{AreOfOne-all, acts-cancel}
use Rattle.kernel_sound.proofs.Needs.{IsReady-sound}
use Rattle.kernel_sound.specs.Acts.{acts}
use Rattle.kernel_step.specs.Calls.{IsCallWith}
use Rattle.kernel_step.specs.Progress.{progress}
use Rattle.kernel_event.proofs.acts.act.Goals as goal

pub destroy-requires-clause-ready : goal.destroy-requires-clause-ready
destroy-requires-clause-ready c =
    IsReady-sound c.args.table.now.kernel c.args.made c.requires.sound.0 (entries c.args.table.now) c.requires.sound.1 c.in-Destroy.on

pub cancel-requires-clause-ready : goal.cancel-requires-clause-ready
cancel-requires-clause-ready c =
    IsReady-sound c.args.table.now.kernel c.args.made c.requires.sound.0 (entries c.args.table.now) c.requires.sound.1 c.in-Cancel.on

pub exit-requires-clause-ends : goal.exit-requires-clause-ends
exit-requires-clause-ends c =
    AreOfOne-all c.args.table.now.kernel c.args.made c.requires.sound.0 c.args.p (entries c.args.table.now) c.args.mine.now c.requires.sound.1
    (subst (IsCallWith c.args.p (entries c.args.table.now) c.args.mine.now) c.in-Exit.is c.requires.mine)

pub returns-in-Make-clause-part : goal.returns-in-Make-clause-part
unfolding acts progress
returns-in-Make-clause-part c =
    c.make.ensures.part ∙ ap (λ q. acts c.args.p c.args.table.now.kernel c.args.made c.args.mine.now q (progress (entries c.args.table.now) c.args.out.now)) (sym c.in-Make.is)

pub returns-in-Destroy-clause-part : goal.returns-in-Destroy-clause-part
unfolding acts progress
returns-in-Destroy-clause-part c =
    c.destroy.ensures.part ∙ ap (λ q. acts c.args.p c.args.table.now.kernel c.args.made c.args.mine.now q (progress (entries c.args.table.now) c.args.out.now)) (sym c.in-Destroy.is)

pub returns-in-Send-clause-part : goal.returns-in-Send-clause-part
unfolding acts progress
returns-in-Send-clause-part c =
    c.send.ensures.part ∙ ap (λ q. acts c.args.p c.args.table.now.kernel c.args.made c.args.mine.now q (progress (entries c.args.table.now) c.args.out.now)) (sym c.in-Send.is)

pub returns-in-Receive-clause-part : goal.returns-in-Receive-clause-part
unfolding acts progress
returns-in-Receive-clause-part c =
    c.receive.ensures.part ∙ ap (λ q. acts c.args.p c.args.table.now.kernel c.args.made c.args.mine.now q (progress (entries c.args.table.now) c.args.out.now)) (sym c.in-Receive.is)

pub returns-in-Cancel-clause-part : goal.returns-in-Cancel-clause-part
returns-in-Cancel-clause-part c =
    c.cancel.ensures.part
    ∙ sym (acts-cancel c.args.p c.args.table.now.kernel c.args.made c.args.mine.now c.in-Cancel.on c.in-Cancel.way (entries c.args.table.now) c.args.out.now)
    ∙ ap (λ q. acts c.args.p c.args.table.now.kernel c.args.made c.args.mine.now q (progress (entries c.args.table.now) c.args.out.now)) (sym c.in-Cancel.is)

pub returns-in-Wait-clause-part : goal.returns-in-Wait-clause-part
unfolding acts
returns-in-Wait-clause-part c =
    c.push_step.ensures.part (entries c.args.table.now)
    ∙ ap (λ q. acts c.args.p c.args.table.now.kernel c.args.made c.args.mine.now q (progress (entries c.args.table.now) c.args.out.now)) (sym c.in-Wait.is)

pub returns-in-Print-clause-part : goal.returns-in-Print-clause-part
unfolding acts
returns-in-Print-clause-part c = ap (λ q. acts c.args.p c.args.table.now.kernel c.args.made c.args.mine.now q (progress (entries c.args.table.now) c.args.out.now)) (sym c.in-Print.is)

pub returns-in-Exit-clause-part : goal.returns-in-Exit-clause-part
unfolding acts
returns-in-Exit-clause-part c =
    c.exit.ensures.part ∙ ap (λ q. acts c.args.p c.args.table.now.kernel c.args.made c.args.mine.now q (progress (entries c.args.table.now) c.args.out.now)) (sym c.in-Exit.is)
