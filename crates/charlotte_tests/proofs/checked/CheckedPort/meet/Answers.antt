use Rattle.std.proofs.Common.{◌≢◌, All, subst, sym}
use Rattle.kernel_net.specs.declared.letter.Letter.TheVariants.{Marker}
use Rattle.charlotte_tests.proofs.checked.CheckedPort.meet.Goals as goal

pub invariant_of-self : goal.invariant_of-self
invariant_of-self c = record { marks = λ to more. subst (λ f. All (λ l. l ≢ Marker) (f to)) (sym c.meet.ensures.looked_a.put) (c.args.self.now.marks to more) }

pub invariant_of-other : goal.invariant_of-other
invariant_of-other c = record { marks = λ to more. subst (λ f. All (λ l. l ≢ Marker) (f to)) (sym c.meet.ensures.looked_b.put) (c.args.other.now.marks to more) }
