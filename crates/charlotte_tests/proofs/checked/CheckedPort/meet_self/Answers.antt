use Rattle.std.proofs.Common.{◌≢◌, All, subst, sym}
use Rattle.kernel_net.specs.declared.letter.Letter.TheVariants.{Marker}
use Rattle.charlotte_tests.proofs.checked.CheckedPort.meet_self.Goals as goal

pub invariant_of-self : goal.invariant_of-self
invariant_of-self c = record { marks = λ to more. subst (λ f. All (λ l. l ≢ Marker) (f to)) (sym c.meet_self.ensures.looked.put) (c.args.self.now.marks to more) }
