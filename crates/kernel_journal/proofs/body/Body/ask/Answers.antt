use Rattle.std.proofs.Common.{refl}
use Rattle.kernel_entries.specs.declared.entry.Happened.TheVariants.{Asked}
use Rattle.kernel_journal.proofs.Bodies.{ask-goes, ask-ready, ask-stops, call-stops, if_err, late-stops, not-so, on_ok}
use Rattle.kernel_journal.proofs.body.Body.ask.Goals as goal

pub returns-then-not-may_go_on-clause-differs : goal.returns-then-not-may_go_on-clause-differs
returns-then-not-may_go_on-clause-differs c = late-stops c.args.self.now c.args.stamp c.args.kernel (Asked c.args.request.now.p c.args.request.now.call) (λ h. not-so (c.if-not-may_go_on.ensures.1 h))

pub returns-then-not-may_call-clause-differs : goal.returns-then-not-may_call-clause-differs
returns-then-not-may_call-clause-differs c = call-stops c.args.self.now c.args.stamp c.args.kernel c.args.request.now.p c.args.request.now.call (c.if-not-may_go_on.ensures.0 refl).0 (λ h. not-so (c.if-not-may_call.ensures.1 h))

pub returns-clause-ready : goal.returns-clause-ready
returns-clause-ready c =
    let called = c.in_ok-noted.ensures c.args.self.now.setting c.requires.nodes in
    on_ok c.note.result (λ is. ask-ready c.args.self.now c.note.new.self c.ask.new.self c.args.stamp c.args.kernel c.args.request.now.p c.args.request.now.call c.in_ok-noted.noted c.requires (c.if-not-may_go_on.ensures.0 refl) called is) c.note.ensures.noted

pub returns-clause-leads : goal.returns-clause-leads
returns-clause-leads c =
    let called = c.in_ok-noted.ensures c.args.self.now.setting c.requires.nodes in
    on_ok c.note.result (λ is. ask-goes c.args.self.now c.note.new.self c.ask.new.self c.args.stamp c.args.kernel c.args.request.now.p c.args.request.now.call c.in_ok-noted.noted c.requires (c.if-not-may_go_on.ensures.0 refl) (c.if-not-may_call.ensures.0 refl) called is) c.note.ensures.noted

pub returns-clause-differs : goal.returns-clause-differs
returns-clause-differs c =
    let called = c.in_ok-noted.ensures c.args.self.now.setting c.requires.nodes in
    if_err c.note.result (λ s d. ask-stops c.args.self.now c.ask.new.self c.args.stamp c.args.kernel c.args.request.now.p c.args.request.now.call c.in_ok-noted.noted s (c.if-not-may_go_on.ensures.0 refl) (c.if-not-may_call.ensures.0 refl) called d) c.note.ensures.differs
