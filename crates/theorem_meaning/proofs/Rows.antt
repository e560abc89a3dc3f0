-- Worked runs: what is counted along them, computed.
use Rattle.std.proofs.Common.{◌≡◌, ℕ, List, [], ◌∷◌, map, take, refl}
use Rattle.charlotte_calls.specs.declared.calls.Call.TheVariants as call
use Rattle.charlotte_calls.specs.declared.names.EndId.{EndId}
use Rattle.charlotte_calls.specs.declared.names.Pid.{Pid}
use Rattle.charlotte_calls.specs.declared.names.Side.TheVariants.{A, B}
use Rattle.charlotte_calls.specs.declared.setting.Setting.{Setting}
use Rattle.end_table.specs.Place.{end_eq, put}
use Rattle.kernel_step.specs.Actions as actions
use Rattle.kernel_step.specs.Calls as calls
use Rattle.kernel_step.specs.Kernel as kernel
use Rattle.kernel_step.specs.Progress as progress
use Rattle.kernel_step.specs.Rows as rows
use Rattle.kernel_world.specs.World.{Event, Calls, Takes, after, start}
use Rattle.theorem_meaning.specs.Invariant.{is_message_of, is_taken_of}
use Rattle.theorem_meaning.specs.Packets.{how_many, links_of, over_kernels, sum_over}
use Rattle.theorem_meaning.specs.StandsFor.{standing}

-- a process and an end, by number and side
abbrev pub pid : ℕ → Pid
pid n = record { 0 = n }

abbrev pub end_a : ℕ → EndId
end_a count = record { link = record { maker = 0; count = count }; side = A }

abbrev pub end_b : ℕ → EndId
end_b count = record { link = record { maker = 0; count = count }; side = B }

-- two processes at two kernels, with two links
abbrev pub two_links : Setting
two_links = record { version = 1; kernels = 2; homes = (0 ∷ 1 ∷ []); wires = ((pid 0, pid 1) ∷ (pid 0, pid 1) ∷ []) }

-- after the first n of these events: at how many places the end x is that moves, and the end that receives; how many packets carry
-- the message of the end that sends, and how many tell that it was taken
abbrev pub counts : List Event → ℕ → ℕ × ℕ × ℕ × ℕ
counts es n =
    let w = links_of (after (start two_links) (take n es)) in
    (standing w (end_a 1), standing w (end_b 0), how_many (is_message_of (end_a 0)) w, how_many (is_taken_of (end_a 0)) w)

-- end a of the second link moves in a message on the first: receive, want, send, parcel, taken
abbrev pub moves : List Event
moves =
    (Calls 1 (pid 1) (call.Receive (end_b 0)) [])
    ∷ (Takes 0 1)
    ∷ (Calls 0 (pid 0) (call.Send (end_a 0) (120 ∷ []) (end_a 1 ∷ [])) [])
    ∷ (Takes 1 0)
    ∷ (Takes 0 1)
    ∷ []

pub moves-counts : map (counts moves) (0 ∷ 1 ∷ 2 ∷ 3 ∷ 4 ∷ 5 ∷ []) ≡ (1, 1, 0, 0) ∷ (1, 1, 0, 0) ∷ (1, 1, 0, 0) ∷ (1, 1, 1, 0) ∷ (1, 1, 0, 1) ∷ (1, 1, 0, 0) ∷ []
unfolding end_eq put progress.sends progress.reports_to progress.answers_to progress.means progress.keeps actions.forgets actions.leave_each actions.values_leaving actions.matches actions.tells_gone actions.ends_idle
    actions.end_each actions.ends actions.hold_each actions.notice_send actions.notice_receive actions.notices actions.tells_moved actions.resends actions.resends_on_news actions.settle_each actions.tell_arrivals
    actions.learns rows.wants rows.voids rows.want_here rows.unwant_here rows.frees rows.receives rows.pass_each rows.sends_back rows.completes rows.gives_back rows.notices_first rows.end_arrivals rows.erases
    rows.gone_here rows.moved_here rows.moved_mark rows.known_here calls.makes calls.starts_send calls.encloses calls.posts calls.withdraws_send calls.withdraws_receive calls.ends_each kernel.answers_wait
    kernel.join_reports kernel.join_answers kernel.closes kernel.take_step kernel.performs kernel.call_step standing over_kernels sum_over
moves-counts = refl

-- the receiving end is destroyed while the parcel is under way: receive, want, send, destroy, parcel, gone, back
abbrev pub comes_back : List Event
comes_back =
    (Calls 1 (pid 1) (call.Receive (end_b 0)) [])
    ∷ (Takes 0 1)
    ∷ (Calls 0 (pid 0) (call.Send (end_a 0) (120 ∷ []) (end_a 1 ∷ [])) [])
    ∷ (Calls 1 (pid 1) (call.Destroy (end_b 0)) [])
    ∷ (Takes 1 0)
    ∷ (Takes 0 1)
    ∷ (Takes 0 1)
    ∷ []

pub comes_back-counts : map (counts comes_back) (0 ∷ 1 ∷ 2 ∷ 3 ∷ 4 ∷ 5 ∷ 6 ∷ 7 ∷ [])
    ≡ (1, 1, 0, 0) ∷ (1, 1, 0, 0) ∷ (1, 1, 0, 0) ∷ (1, 1, 1, 0) ∷ (1, 0, 1, 0) ∷ (1, 0, 1, 0) ∷ (1, 0, 1, 0) ∷ (1, 0, 0, 0) ∷ []
unfolding end_eq put progress.sends progress.reports_to progress.answers_to progress.means progress.keeps actions.forgets actions.leave_each actions.values_leaving actions.matches actions.tells_gone actions.ends_idle
    actions.end_each actions.ends actions.hold_each actions.notice_send actions.notice_receive actions.notices actions.tells_moved actions.resends actions.resends_on_news actions.settle_each actions.tell_arrivals
    actions.learns rows.wants rows.voids rows.want_here rows.unwant_here rows.frees rows.receives rows.pass_each rows.sends_back rows.completes rows.gives_back rows.notices_first rows.end_arrivals rows.erases
    rows.gone_here rows.moved_here rows.moved_mark rows.known_here calls.makes calls.starts_send calls.encloses calls.posts calls.withdraws_send calls.withdraws_receive calls.ends_each kernel.answers_wait
    kernel.join_reports kernel.join_answers kernel.closes kernel.take_step kernel.performs kernel.call_step standing over_kernels sum_over
comes_back-counts = refl
