-- A snapshot of two nodes, computed: kernel 0 sends, and begins after that event; kernel 1 receives, and begins where it gets the marker.
use Rattle.std.proofs.Common.{◌≡◌, List, [], ◌∷◌, Some, refl}
use Rattle.end_table.specs.Place.{end_eq, put}
use Rattle.charlotte_calls.specs.declared.calls.Call.TheVariants as call
use Rattle.charlotte_packets.specs.declared.picture.Picture.{Picture}
use Rattle.charlotte_packets.specs.declared.picture.PictureWhat.TheVariants as packet
use Rattle.charlotte_calls.specs.declared.setting.Setting.{Setting}
use Rattle.kernel_step.specs.Progress as progress
use Rattle.kernel_step.specs.Actions as actions
use Rattle.kernel_step.specs.Rows as rows
use Rattle.kernel_step.specs.Calls as calls
use Rattle.kernel_step.specs.Kernel as kernel
use Rattle.kernel_step.specs.Start.{start_kernel}
use Rattle.program_runs.specs.Local.{LocalEvent, MakesCall, TakesPacket}
use Rattle.transcript_record.proofs.Rows.{end_a, end_b, pid}
use Rattle.kernel_turns.specs.Letters.{AMarker, APacket, letters_from, letters_of}

abbrev setting : Setting
setting = record { version = 1; kernels = 2; homes = (0 ∷ 1 ∷ []); wires = ((pid 0, pid 1) ∷ []) }

abbrev want : Picture
want = record { stamp = 1; what = packet.Want (end_a 0 0) 1 1 0 }

abbrev parcel : Picture
parcel = record { stamp = 2; what = packet.Parcel (end_b 0 0) 1 1 0 0 (120 ∷ []) [] }

abbrev taken : Picture
taken = record { stamp = 3; what = packet.Taken (end_a 0 0) 1 1 0 }

-- the events of each kernel
abbrev made_by_0 : List LocalEvent
made_by_0 = MakesCall (pid 0) (call.Send (end_a 0 0) (120 ∷ []) []) [] ∷ TakesPacket 1 want ∷ TakesPacket 1 taken ∷ []

abbrev made_by_1 : List LocalEvent
made_by_1 = MakesCall (pid 1) (call.Receive (end_b 0 0)) [] ∷ TakesPacket 0 parcel ∷ []

-- what kernel 0 puts to kernel 1: it began after one event
pub letters_of_0 : letters_of 2 (Some 1) 1 (start_kernel setting 0) made_by_0 ≡ AMarker ∷ APacket parcel ∷ []
unfolding end_eq put progress.sends progress.reports_to progress.answers_to progress.means progress.keeps actions.forgets actions.leave_each actions.values_leaving actions.matches actions.tells_gone actions.ends_idle
    actions.end_each actions.ends actions.hold_each actions.notice_send actions.notice_receive actions.notices actions.tells_moved actions.resends actions.resends_on_news actions.settle_each actions.tell_arrivals
    actions.learns rows.wants rows.voids rows.want_here rows.unwant_here rows.frees rows.receives rows.pass_each rows.sends_back rows.completes rows.gives_back rows.notices_first rows.end_arrivals rows.erases
    rows.gone_here rows.moved_here rows.moved_mark rows.known_here calls.makes calls.starts_send calls.encloses calls.posts calls.withdraws_send calls.withdraws_receive calls.ends_each kernel.answers_wait
    kernel.join_reports kernel.join_answers kernel.closes kernel.take_step kernel.performs kernel.call_step
letters_of_0 = refl

-- what kernel 1 puts to kernel 0: it began after one event, too
pub letters_of_1 : letters_of 2 (Some 1) 0 (start_kernel setting 1) made_by_1 ≡ APacket want ∷ AMarker ∷ APacket taken ∷ []
unfolding end_eq put progress.sends progress.reports_to progress.answers_to progress.means progress.keeps actions.forgets actions.leave_each actions.values_leaving actions.matches actions.tells_gone actions.ends_idle
    actions.end_each actions.ends actions.hold_each actions.notice_send actions.notice_receive actions.notices actions.tells_moved actions.resends actions.resends_on_news actions.settle_each actions.tell_arrivals
    actions.learns rows.wants rows.voids rows.want_here rows.unwant_here rows.frees rows.receives rows.pass_each rows.sends_back rows.completes rows.gives_back rows.notices_first rows.end_arrivals rows.erases
    rows.gone_here rows.moved_here rows.moved_mark rows.known_here calls.makes calls.starts_send calls.encloses calls.posts calls.withdraws_send calls.withdraws_receive calls.ends_each kernel.answers_wait
    kernel.join_reports kernel.join_answers kernel.closes kernel.take_step kernel.performs kernel.call_step
letters_of_1 = refl

-- what each gets of the other: kernel 0 got the marker after two events, kernel 1 after one
pub letters_to_0 : letters_from (Some 2) 1 made_by_0 ≡ APacket want ∷ AMarker ∷ APacket taken ∷ []
letters_to_0 = refl

pub letters_to_1 : letters_from (Some 1) 0 made_by_1 ≡ AMarker ∷ APacket parcel ∷ []
letters_to_1 = refl
