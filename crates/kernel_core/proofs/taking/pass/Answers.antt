-- The end of the event leaves the table sound and the activities as they were.
use Rattle.std.proofs.Common.{length, refl, sym, subst, arith}
use Rattle.kernel_core.proofs.Begun.{begun-closes}
use Rattle.kernel_core.proofs.Callings.{keeps-calm}
use Rattle.kernel_event.specs.Room.{room_of_packet}
use Rattle.kernel_process.specs.Closing.{HaveSpareFor}
use Rattle.kernel_process.specs.Steady.{TakesAtMost}
use Rattle.kernel_sound.specs.Sound.{AreFor}
use Rattle.kernel_core.proofs.taking.pass.Goals as goal

pub close-requires-clause-reports : goal.close-requires-clause-reports
close-requires-clause-reports c = subst (AreFor (length c.args.state.now.processes)) (sym c.requires.ready.begun.reports) tt

pub close-requires-clause-answers : goal.close-requires-clause-answers
close-requires-clause-answers c = subst (AreFor (length c.args.state.now.processes)) (sym c.requires.ready.begun.answers) tt

pub close-requires-clause-spare : goal.close-requires-clause-spare
close-requires-clause-spare c = subst (λ rs. HaveSpareFor rs c.args.state.now.processes) (sym c.requires.ready.begun.reports) tt

pub close-requires-clause-room : goal.close-requires-clause-room
close-requires-clause-room c =
    let closes = begun-closes (room_of_packet c.args.what.now) 0 c.args.state.now.event c.requires.ready.begun in
    record { nobody = closes.nobody; answered = closes.answered; steps = omega (arith, closes.steps) }

pub returns-clause-keeps : goal.returns-clause-keeps
returns-clause-keeps c =
    keeps-calm c.args.state.now _ refl c.close.ensures.calm
    (subst (λ rs. TakesAtMost (length rs) c.args.state.now.processes c.close.new.processes) c.requires.ready.begun.reports c.close.ensures.kept) c.requires.consistent
