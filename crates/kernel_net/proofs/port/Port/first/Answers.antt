use Rattle.std.proofs.Common.{List, length, subst, sym, ap, ◌∙◌, arith}
use Rattle.kernel_net.specs.Ports.{PortView, IsPlace, known_from, place_of}
use Rattle.kernel_net.specs.Rings.{Inlet}
use Rattle.kernel_net.proofs.Ports.{place-first, found-first, known-none}
use Rattle.kernel_net.proofs.port.Port.first.Goals as goal

pub invariant_of-self-2 : goal.invariant_of-self-2
invariant_of-self-2 c = subst IsPlace (sym (place-first _ _ c.first_known.new.into.items c.in-Some.ensures.some)) c.self.invariant

pub returns-clause-place : goal.returns-clause-place
returns-clause-place c = place-first _ _ c.first_known.new.into.items c.in-Some.ensures.some ∙ ap place_of c.self.view_is

pub returns-clause-some : goal.returns-clause-some
returns-clause-some c = rw (← c.self.view_is) (found-first _ _ c.first_known.new.into.items c.in-Some.ensures.some c.self.invariant)

pub returns-in_default-clause-none : goal.returns-in_default-clause-none
returns-in_default-clause-none c = (
  ap {B = PortView} (λ (is : List Inlet). record { kernel = c.self.inside.kernel; out = c.self.inside.out.items; into = is }) c.in_default.ensures.none.0 ∙ c.self.view_is,
  known-none c.first_known.new.into.items c.in_default.ensures.none.1,
)

pub returns-in_default-clause-succeeds : goal.returns-in_default-clause-succeeds
returns-in_default-clause-succeeds c from some =
    let same = ap {B = PortView} (λ (is : List Inlet). record { kernel = c.self.inside.kernel; out = c.self.inside.out.items; into = is }) c.in_default.ensures.none.0 ∙ c.self.view_is in
    absurd (omega (arith, some, ap length (ap (λ (p : PortView). known_from p from) (sym same) ∙ known-none c.first_known.new.into.items c.in_default.ensures.none.1 from)))
