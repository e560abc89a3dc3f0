use Rattle.std.proofs.Common.{◌≡◌, ◌∙◌}
use Rattle.kernel_step.proofs.EnclosedEnds.{AreEnclosed-others}
use Rattle.kernel_step.specs.Actions.{enclosed_of}
use Rattle.move_core.proofs.ending.destroy.Goals as goal

pub end_each-requires-clause-enclosed : goal.end_each-requires-clause-enclosed
end_each-requires-clause-enclosed c =
    let are = rw c.here.ensures.view at c.requires.ready.enclosed in
    let apart = rw c.here.ensures.view at c.requires.ready.apart in
    let ends : c.as_slice.result.now ≡ enclosed_of c.here.result.now.outward = c.as_slice.ensures.same ∙ c.enclosed_by-enclosed.ensures in
    rw ends (AreEnclosed-others _ _ c.args.on _ c.end_entry-value.ensures.kept.others apart are)
