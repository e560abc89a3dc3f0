use Rattle.std.proofs.Common.{◌≡◌, ap, ◌∙◌}
use Rattle.kernel_step.proofs.EnclosedEnds.{AreEnclosed-others}
use Rattle.kernel_step.specs.Actions.{enclosed_of}
use Rattle.cancel_core.proofs.send.withdraw_send.Goals as goal

pub hold_each-requires : goal.hold_each-requires
hold_each-requires c =
    let are = rw c.here-living.ensures.view at c.requires.ready.enclosed in
    let apart = rw c.here-living.ensures.view at c.requires.ready.apart in
    let was = rw c.here-living.ensures.view at c.outward.ensures in
    let ends : c.as_slice.result.now ≡ enclosed_of c.here-living.result.now.outward =
    c.as_slice.ensures.same ∙ c.enclosed_ends-enclosed.ensures ∙ ap enclosed_of was in
    rw ends (AreEnclosed-others _ _ c.args.on _ c.keep_sending.ensures.kept.others apart are)
