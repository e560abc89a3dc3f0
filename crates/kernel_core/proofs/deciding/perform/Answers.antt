-- The call does its part, its event closes, and the sets of active ends tell again of what the call touched.
use Rattle.end_table.specs.Table.{entries}
use Rattle.kernel_touched.proofs.Touching.{HavePlaceFor-moved, owners-below}
use Rattle.kernel_touched.specs.Touched.{AreOwnersBelow, HavePlaceFor, IsCalmAfter, touched_by}
use Rattle.kernel_process.proofs.ActiveSets.{tells_same}
use Rattle.kernel_process.proofs.KeptMoved.{keys-moved}
use Rattle.kernel_process.proofs.OneProcess.{with_parts-kept}
use Rattle.kernel_process.specs.Parts.{ended}
use Rattle.kernel_sound.specs.Acts.{made_after}
use Rattle.kernel_sound.specs.Sound.{IsSound}
use Rattle.std.proofs.Common.{length, refl, ap, sym, subst, ◌∙◌}
use Rattle.kernel_core.proofs.Stepped.{granted-make, granted-parts, grant-steps, touched-parts}
use Rattle.kernel_core.specs.Consistent.{AreConsistent}
use Rattle.kernel_core.specs.Stepping.{IsStepOf}
use Rattle.kernel_core.proofs.deciding.perform.Goals as goal

pub refresh_touched-requires-clause-owners : goal.refresh_touched-requires-clause-owners
refresh_touched-requires-clause-owners c =
    subst (λ x. AreOwnersBelow (length c.act_and_close.new.state.processes) (entries c.act_and_close.new.state.table) x)
    (sym (c.touched_of-touched.ensures
    ∙ touched-parts c.args.state.now.table c.args.state.now.processes c.args.state.now.made c.args.request.now.p c.args.request.now.call c.requires.granted c.args.mine.now
    (c.requires.request.listed c.requires.other)))
    (subst (λ n. AreOwnersBelow n (entries c.act_and_close.new.state.table) (touched_by (entries c.args.state.now.table) c.args.request.now.call)) (sym c.act_and_close.ensures.kept.length)
    (owners-below c.args.state.now.table.kernel c.act_and_close.new.state.table.kernel c.args.state.now.made (made_after c.args.request.now.call c.args.state.now.made) (length c.args.state.now.processes)
    (entries c.args.state.now.table) (entries c.act_and_close.new.state.table) c.requires.consistent.sound c.act_and_close.ensures.sound c.args.request.now.call))

pub refresh_touched-requires-clause-place : goal.refresh_touched-requires-clause-place
refresh_touched-requires-clause-place c =
    subst (λ x. HavePlaceFor x c.act_and_close.new.state.processes)
    (sym (c.touched_of-touched.ensures
    ∙ touched-parts c.args.state.now.table c.args.state.now.processes c.args.state.now.made c.args.request.now.p c.args.request.now.call c.requires.granted c.args.mine.now
    (c.requires.request.listed c.requires.other)))
    (HavePlaceFor-moved (touched_by (entries c.args.state.now.table) c.args.request.now.call) c.args.state.now.processes c.act_and_close.new.state.processes c.act_and_close.ensures.kept.active c.requires.ready.place)

pub act_and_close-requires-clause-granted : goal.act_and_close-requires-clause-granted
act_and_close-requires-clause-granted c =
    granted-parts c.args.state.now.table c.args.state.now.processes c.args.state.now.made c.args.request.now.p c.args.request.now.call c.requires.granted c.args.mine.now (c.requires.request.listed c.requires.other)

pub links_after-links-requires : goal.links_after-links-requires
links_after-links-requires c = granted-make c.args.state.now.table c.args.state.now.processes c.args.state.now.made c.args.request.now.p c.args.request.now.call c.requires.granted

pub returns-clause-step : goal.returns-clause-step
returns-clause-step c = (
  c.args.mine.now,
  c.requires.request.listed c.requires.other,
  subst (λ n. IsStepOf c.args.state.now.table c.args.state.now.processes c.args.state.now.made c.args.state.now.event.work.stamp c.act_and_close.new.state.table c.refresh_touched.new.processes n c.act_and_close.new.effect c.args.request.now.p c.args.mine.now c.args.request.now.call)
      (sym c.links_after-links.ensures)
      (grant-steps c.args.state.now.table c.act_and_close.new.state.table c.args.state.now.processes c.refresh_touched.new.processes c.args.state.now.made c.args.state.now.event.work.stamp c.args.state.now.event.work
      c.act_and_close.new.effect c.args.request.now.p c.args.mine.now c.requires.ready.begins
      c.args.request.now.call (c.requires.request.listed c.requires.other) c.requires.granted
      (λ s. ap (λ z. ended z c.act_and_close.new.effect)
      (with_parts-kept (entries c.act_and_close.new.state.table) c.act_and_close.new.state.processes c.refresh_touched.new.processes
      (record s { made = made_after c.args.request.now.call c.args.state.now.made; stamp = c.act_and_close.new.effect.stamp }) c.refresh_touched.ensures.kept)
      ∙ c.act_and_close.ensures.part s)),
)

pub returns-clause-keeps : goal.returns-clause-keeps
returns-clause-keeps c =
    record {
      consistent = subst (λ n. AreConsistent c.act_and_close.new.state.table c.refresh_touched.new.processes n) (sym c.links_after-links.ensures) (record {
        sound = subst (λ n. IsSound c.act_and_close.new.state.table.kernel (made_after c.args.request.now.call c.args.state.now.made) n (entries c.act_and_close.new.state.table))
            (sym (c.refresh_touched.ensures.length ∙ c.act_and_close.ensures.kept.length)) c.act_and_close.ensures.sound;
        active = c.refresh_touched.ensures.told (entries c.args.state.now.table)
            (tells_same (entries c.args.state.now.table) (entries c.args.state.now.table) c.args.state.now.processes c.act_and_close.new.state.processes c.requires.consistent.active
            (keys-moved c.args.state.now.processes c.act_and_close.new.state.processes c.act_and_close.ensures.kept.active) (λ p e. refl))
            (subst (λ x. IsCalmAfter c.args.request.now.p x (entries c.args.state.now.table) (entries c.act_and_close.new.state.table))
            (sym (c.touched_of-touched.ensures
            ∙ touched-parts c.args.state.now.table c.args.state.now.processes c.args.state.now.made c.args.request.now.p c.args.request.now.call c.requires.granted c.args.mine.now
            (c.requires.request.listed c.requires.other)))
            c.act_and_close.ensures.calm);
      });
      kernel = c.act_and_close.ensures.kernel;
      length = c.refresh_touched.ensures.length ∙ c.act_and_close.ensures.kept.length;
    }
