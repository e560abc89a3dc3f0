-- There is one report, or they join one after the other.
use Rattle.std.proofs.Common.{[], length, ap, subst, sym, ◌∙◌}
use Rattle.kernel_process.proofs.Closes.{spare-first}
use Rattle.kernel_process.specs.Parts.{GainsAtMost, HasPlaces}
use Rattle.kernel_process.specs.Steady.{TakesAtMost}
use Rattle.kernel_sound.specs.Sound.{AreFor}
use Rattle.kernel_process.proofs.closing.join_some.Goals as goal

pub join_only-requires-clause-only : goal.join_only-requires-clause-only
join_only-requires-clause-only c = (c.in-Some.ensures.0, sym c.as_slice.ensures.value ∙ c.in-Some.ensures.1)

pub join_only-requires-clause-process : goal.join_only-requires-clause-process
join_only-requires-clause-process c = (subst (AreFor (length c.args.processes.now)) (sym c.as_slice.ensures.value ∙ c.in-Some.ensures.1) c.requires.reports).0

pub join_only-requires-clause-places : goal.join_only-requires-clause-places
join_only-requires-clause-places c = subst (λ n. HasPlaces n n c.args.effect.now) (ap length (sym c.as_slice.ensures.value ∙ c.in-Some.ensures.1)) c.requires.places

pub join_only-requires-clause-spare : goal.join_only-requires-clause-spare
join_only-requires-clause-spare c = spare-first c.in-Some.p c.in-Some.ensures.0 [] c.args.reports.now.items c.args.processes.now (sym c.as_slice.ensures.value ∙ c.in-Some.ensures.1) c.requires.spare

pub returns-in-Some : goal.returns-in-Some
returns-in-Some c =
    let one = sym (ap length (sym c.as_slice.ensures.value ∙ c.in-Some.ensures.1)) in
    record {
      part = c.join_only.ensures.part;
      calm = c.join_only.ensures.calm;
      kept = subst (λ n. TakesAtMost n c.args.processes.now c.join_only.new.processes) one c.join_only.ensures.kept;
      places = subst (λ n. GainsAtMost n n c.args.effect.now c.join_only.new.effect) one c.join_only.ensures.places;
      stamp = c.join_only.ensures.stamp;
    }
