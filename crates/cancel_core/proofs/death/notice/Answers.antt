use Rattle.kernel_step.proofs.EnclosedEnds.{AreEnclosed-others}
use Rattle.cancel_core.proofs.death.notice.Goals as goal

pub notice_send-requires-clause-enclosed : goal.notice_send-requires-clause-enclosed
notice_send-requires-clause-enclosed c =
    let are = rw c.here-living.ensures.view at c.requires.ready.enclosed in
    let apart = rw c.here-living.ensures.view at c.requires.ready.apart in
    let was = rw c.here-living.ensures.view at c.note_death-outward.ensures.was in
    rw was (AreEnclosed-others _ _ c.args.on _ c.note_death-outward.ensures.kept.others apart are)
