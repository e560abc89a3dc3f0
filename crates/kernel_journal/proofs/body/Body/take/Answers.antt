use Rattle.std.proofs.Common.{refl, subst}
use Rattle.kernel_journal.proofs.Bodies.{HasTaken, if_err, late-packet, not-so, on_ok, stamped-stops, take-goes, take-ready, take-stops, taking-stops}
use Rattle.kernel_journal.proofs.body.Body.take.Goals as goal

pub returns-then-not-may_go_on-clause-differs : goal.returns-then-not-may_go_on-clause-differs
returns-then-not-may_go_on-clause-differs c = late-packet c.args.self.now c.args.stamp c.args.kernel c.args.from c.args.picture.now (λ h. not-so (c.if-not-may_go_on.ensures.1 h))

pub returns-then-not-is_unstamped-clause-differs : goal.returns-then-not-is_unstamped-clause-differs
returns-then-not-is_unstamped-clause-differs c = stamped-stops c.args.self.now c.args.stamp c.args.kernel c.args.from c.args.picture.now (c.if-not-may_go_on.ensures.0 refl).0 (λ h. not-so (c.if-not-is_unstamped.ensures.1 h))

pub returns-in-Some-clause-ready : goal.returns-in-Some-clause-ready
returns-in-Some-clause-ready c =
    let took = subst (λ o. HasTaken c.args.self.now c.args.kernel c.args.from c.args.picture.now o c.take_told.new.self) c.in-Some.is (c.in_ok-noted.ensures c.args.self.now.setting c.requires.nodes) in
    on_ok c.note.result (λ is. take-ready c.args.self.now c.note.new.self c.take_told.new.self c.args.stamp c.args.kernel c.args.from c.args.picture.now c.in-Some.noted c.requires (c.if-not-may_go_on.ensures.0 refl) took is) c.note.ensures.noted

pub returns-in-Some-clause-leads : goal.returns-in-Some-clause-leads
returns-in-Some-clause-leads c =
    let took = subst (λ o. HasTaken c.args.self.now c.args.kernel c.args.from c.args.picture.now o c.take_told.new.self) c.in-Some.is (c.in_ok-noted.ensures c.args.self.now.setting c.requires.nodes) in
    on_ok c.note.result (λ is. take-goes c.args.self.now c.note.new.self c.take_told.new.self c.args.stamp c.args.kernel c.args.from c.args.picture.now c.in-Some.noted c.requires (c.if-not-may_go_on.ensures.0 refl) (c.if-not-is_unstamped.ensures.0 refl) took is) c.note.ensures.noted

pub returns-in-Some-clause-differs : goal.returns-in-Some-clause-differs
returns-in-Some-clause-differs c =
    let took = subst (λ o. HasTaken c.args.self.now c.args.kernel c.args.from c.args.picture.now o c.take_told.new.self) c.in-Some.is (c.in_ok-noted.ensures c.args.self.now.setting c.requires.nodes) in
    if_err c.note.result (λ s d. take-stops c.args.self.now c.take_told.new.self c.args.stamp c.args.kernel c.args.from c.args.picture.now c.in-Some.noted s (c.if-not-may_go_on.ensures.0 refl) (c.if-not-is_unstamped.ensures.0 refl) took d) c.note.ensures.differs

pub returns-in-None-clause-differs : goal.returns-in-None-clause-differs
returns-in-None-clause-differs c =
    let untold = subst (λ o. HasTaken c.args.self.now c.args.kernel c.args.from c.args.picture.now o c.take_told.new.self) c.in-None.is (c.in_ok-noted.ensures c.args.self.now.setting c.requires.nodes) in
    taking-stops c.args.self.now c.args.stamp c.args.kernel c.args.from c.args.picture.now (c.if-not-may_go_on.ensures.0 refl).0 untold
