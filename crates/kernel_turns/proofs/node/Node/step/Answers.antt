use Rattle.kernel_turns.proofs.Amid.{amid-follows, amid-later, amid-process, amid-stands, is-at, steps-as}
use Rattle.kernel_turns.proofs.Answering.{asked-continues, paused-continues}
use Rattle.kernel_turns.proofs.node.Node.step.Goals as goal

pub lent-answer-requires-clause-process : goal.lent-answer-requires-clause-process
lent-answer-requires-clause-process g c =
    amid-process _ _ c.args.self.now c.args.place _ c.requires.amid (is-at _ c.args.self.now.programs c.args.place c.process-p.result c.requires.next.there c.process-p.ensures)

pub lent-answer-requires-clause-stands : goal.lent-answer-requires-clause-stands
lent-answer-requires-clause-stands g c =
    amid-stands _ _ c.args.self.now c.args.place _ c.requires.amid (is-at _ c.args.self.now.programs c.args.place c.process-p.result c.requires.next.there c.process-p.ensures)

pub step-requires-clause-given : goal.step-requires-clause-given
step-requires-clause-given g c =
    amid-follows _ _ c.args.self.now c.args.place _ c.requires.amid (is-at _ c.args.self.now.programs c.args.place c.process-p.result c.requires.next.there c.process-p.ensures)
    c.lent-answer.result c.requires.next.ready c.lent-answer.ensures

pub ask-requires-clause-process : goal.ask-requires-clause-process
ask-requires-clause-process g c =
    amid-process _ _ c.args.self.now c.args.place _ c.requires.amid (is-at _ c.args.self.now.programs c.args.place c.process-p.result c.requires.next.there c.process-p.ensures)

pub ask-requires-clause-later : goal.ask-requires-clause-later
ask-requires-clause-later g c =
    let e = c.in_ok-call.ensures in
    amid-later _ _ c.args.self.now c.args.place c.process-p.result c.lent-answer.result c.in-Ask.call c.step.new.self c.requires.amid c.requires.next.ready c.lent-answer.ensures
    (steps-as _ c.args.self.now.programs c.step.new.self c.args.place c.process-p.result c.lent-answer.result _ _ c.in-Ask.is
    (is-at _ c.args.self.now.programs c.args.place c.process-p.result c.requires.next.there c.process-p.ensures)
    (record { step = e.step; last = e.last; exit = e.exit; limit = e.limit; version = e.version; one_or_two = e.one_or_two; same = e.same; others = e.others; count = e.count; doing = e.doing; next = e.next }))
    c.tell_call.ensures

pub returns-in_ok-ask-in-Ask-clause-turn : goal.returns-in_ok-ask-in-Ask-clause-turn
returns-in_ok-ask-in-Ask-clause-turn g c =
    let e = c.in_ok-call.ensures in
    let told = c.in_ok-ask-in-Ask.ensures in
    λ put. asked-continues _ c.args.self.now _ put c.args.place c.process-p.result c.lent-answer.result c.in-Ask.call told.asked.1 c.step.new.self told.asked.0 c.requires.amid.turns c.requires.letter c.requires.next
    c.lent-answer.ensures
    (steps-as _ c.args.self.now.programs c.step.new.self c.args.place c.process-p.result c.lent-answer.result _ _ c.in-Ask.is
    (is-at _ c.args.self.now.programs c.args.place c.process-p.result c.requires.next.there c.process-p.ensures)
    (record { step = e.step; last = e.last; exit = e.exit; limit = e.limit; version = e.version; one_or_two = e.one_or_two; same = e.same; others = e.others; count = e.count; doing = e.doing; next = e.next }))
    told.asked.2 told.asked.3 told.asked.4 told.rest

pub returns-in-Pause-clause-turn : goal.returns-in-Pause-clause-turn
returns-in-Pause-clause-turn g c =
    let e = c.in_ok-call.ensures in
    λ put. paused-continues _ c.args.self.now _ put c.args.place c.process-p.result c.lent-answer.result _ c.step.new.self c.requires.amid.turns c.requires.letter c.requires.next c.lent-answer.ensures tt
    (steps-as _ c.args.self.now.programs c.step.new.self c.args.place c.process-p.result c.lent-answer.result _ _ c.in-Pause.is
    (is-at _ c.args.self.now.programs c.args.place c.process-p.result c.requires.next.there c.process-p.ensures)
    (record { step = e.step; last = e.last; exit = e.exit; limit = e.limit; version = e.version; one_or_two = e.one_or_two; same = e.same; others = e.others; count = e.count; doing = e.doing; next = e.next }))
    c.pause.ensures

pub returns-in-Ended-clause-turn : goal.returns-in-Ended-clause-turn
returns-in-Ended-clause-turn g c =
    let e = c.in_ok-call.ensures in
    λ put. paused-continues _ c.args.self.now _ put c.args.place c.process-p.result c.lent-answer.result _ c.step.new.self c.requires.amid.turns c.requires.letter c.requires.next c.lent-answer.ensures tt
    (steps-as _ c.args.self.now.programs c.step.new.self c.args.place c.process-p.result c.lent-answer.result _ _ c.in-Ended.is
    (is-at _ c.args.self.now.programs c.args.place c.process-p.result c.requires.next.there c.process-p.ensures)
    (record { step = e.step; last = e.last; exit = e.exit; limit = e.limit; version = e.version; one_or_two = e.one_or_two; same = e.same; others = e.others; count = e.count; doing = e.doing; next = e.next }))
    c.pause-in-Ended.ensures
