use Rattle.std.proofs.Common.{◌≡◌, false}
use Rattle.std.specs.List.{list_any}
use Rattle.end_table.specs.Place.{end_eq}
use Rattle.end_table.specs.Table.{entries}
use Rattle.kernel_step.specs.Enclosed.{AreEnclosed}
use Rattle.cancel_core.proofs.Matches.{IsHere-waiting, match_waited-made, waited}
use Rattle.cancel_core.proofs.matching.match_waited.Goals as goal

pub send_parcel-requires-clause-enclosed : goal.send_parcel-requires-clause-enclosed
send_parcel-requires-clause-enclosed c =
    waited (AreEnclosed (entries c.args.table.now)) _ _ _ _ (IsHere-waiting _ c.requires.here) c.requires.ready.enclosed c.in-Waiting.ensures

pub send_parcel-requires-clause-apart : goal.send_parcel-requires-clause-apart
send_parcel-requires-clause-apart c =
    waited (λ xs. list_any (end_eq c.args.on) xs ≡ false) _ _ _ _ (IsHere-waiting _ c.requires.here) c.requires.ready.apart c.in-Waiting.ensures

pub returns-clause-part : goal.returns-clause-part
returns-clause-part c = match_waited-made _ c.args.value _ _ _ _ _ _ c.in-Waiting.ensures c.send_parcel.ensures.part
