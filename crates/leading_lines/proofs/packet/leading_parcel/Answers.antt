use Rattle.std.proofs.Common.{List, ◌++◌, ap, sym}
use Rattle.charlotte_packets.specs.declared.picture.MovingPicture.{MovingPicture}
use Rattle.transcript_lines.specs.Transcript.{values_text}
use Rattle.leading_lines.proofs.Leading.{parcel_then}
use Rattle.leading_lines.proofs.packet.leading_parcel.Goals as goal

pub returns-clause-spelled : goal.returns-clause-spelled
returns-clause-spelled c =
    parcel_then c.in_ok-to.to c.in_ok-to.n c.in_ok-w.w c.in_ok-at.at c.in_ok-at.hops c.in_ok-bytes.bytes c.in_ok-moving.moving c.args.text.now c.in_ok-to.rest.now c.in_ok-w.rest.now c.in_ok-at.rest.now c.in_ok-behind_byte.field-0.now c.in_ok-bytes.rest.now c.in_ok-bytes.rest.now
    c.in_ok-to.ensures.spelled c.in_ok-w.ensures.spelled c.in_ok-at.ensures.spelled c.in_ok-behind_byte.ensures c.in_ok-bytes.ensures.spelled (ap (λ (vs : List MovingPicture). values_text vs ++ c.in_ok-bytes.rest.now) (sym c.in_ok-moving.ensures.same))
