-- Worked runs: what the definitions give, computed.
use Rattle.std.proofs.Common.{◌≡◌, ℕ, Bool, List, [], ◌∷◌, map, refl, false, true}
use Rattle.end_table.specs.Place.{end_eq, put}
use Rattle.charlotte_calls.specs.declared.calls.Call.TheVariants as call
use Rattle.charlotte_calls.specs.declared.calls.Cause.TheVariants as cause
use Rattle.charlotte_calls.specs.declared.calls.ServiceStep.TheVariants as step
use Rattle.charlotte_calls.specs.declared.names.EndId.{EndId}
use Rattle.charlotte_calls.specs.declared.names.Pid.{Pid}
use Rattle.charlotte_calls.specs.declared.names.Side.TheVariants.{A, B}
use Rattle.charlotte_calls.specs.declared.names.Outcome.TheVariants.{Done, Destroyed}
use Rattle.charlotte_calls.specs.declared.names.Way.TheVariants.{Inward, Outward}
use Rattle.charlotte_packets.specs.declared.picture.MovingPicture.{MovingPicture}
use Rattle.charlotte_packets.specs.declared.picture.PictureWhat.TheVariants as packet
use Rattle.charlotte_calls.specs.declared.setting.Setting.{Setting}
use Rattle.kernel_entries.specs.declared.entry.Happened.{Happened}
use Rattle.kernel_entries.specs.declared.entry.Happened.TheVariants.{Asked, Took}
use Rattle.kernel_entries.specs.declared.entry.Placed.{Placed}
use Rattle.kernel_step.specs.Progress as progress
use Rattle.kernel_step.specs.Actions as actions
use Rattle.kernel_step.specs.Rows as rows
use Rattle.kernel_step.specs.Calls as calls
use Rattle.kernel_step.specs.Kernel as kernel
use Rattle.kernel_world.specs.World.{Event, Calls, Takes, start, noted}

abbrev pub pid : ℕ → Pid
pid n = record { 0 = n }

abbrev pub end_a : ℕ → ℕ → EndId
end_a maker count = record { link = record { maker = maker; count = count }; side = A }

abbrev pub end_b : ℕ → ℕ → EndId
end_b maker count = record { link = record { maker = maker; count = count }; side = B }

abbrev pub value : EndId → ℕ → ℕ → ℕ → ℕ → ℕ → ℕ → ℕ → Bool → ℕ → MovingPicture
value end hops kernel hint sent asked served want dead trail = record { end = end; hops = hops; hint = (kernel, hint); sent = sent; asked = asked; served = served; want = want; dead = dead; trail = trail }

-- no line of a transcript shows the stamp of a packet
abbrev pub unstamped_what : Happened → Happened
unstamped_what (Asked p c) = Asked p c
unstamped_what (Took from picture) = Took from (record { stamp = 0; what = picture.what })

abbrev pub unstamped : List Placed → List Placed
unstamped ps = map (λ p. record { kernel = p.kernel; entry = record { stamp = p.entry.stamp; what = unstamped_what p.entry.what; steps = p.entry.steps } }) ps

abbrev pub a_back_that_notices_setting : Setting
a_back_that_notices_setting = record { version = 1; kernels = 5; homes = (0 ∷ 1 ∷ 2 ∷ 3 ∷ 4 ∷ []); wires = ((pid 0, pid 1) ∷ (pid 0, pid 2) ∷ (pid 1, pid 3) ∷ (pid 2, pid 4) ∷ []) }

abbrev pub a_back_that_notices_events : List Event
a_back_that_notices_events =
    (Calls 2 (pid 2) (call.Receive (end_b 0 1)) [])
    ∷ (Calls 3 (pid 3) (call.Receive (end_b 1 0)) [])
    ∷ (Calls 4 (pid 4) (call.Receive (end_b 2 0)) [])
    ∷ (Takes 0 2)
    ∷ (Takes 1 3)
    ∷ (Takes 2 4)
    ∷ (Calls 0 (pid 0) (call.Send (end_a 0 1) (120 ∷ []) ((end_a 0 0) ∷ [])) [])
    ∷ (Calls 1 (pid 1) (call.Send (end_a 1 0) (120 ∷ []) ((end_b 0 0) ∷ [])) [])
    ∷ (Takes 2 0)
    ∷ (Takes 3 1)
    ∷ (Takes 0 2)
    ∷ (Takes 1 2)
    ∷ (Calls 2 (pid 2) call.Wait ((end_a 0 0) ∷ (end_b 0 1) ∷ (end_a 2 0) ∷ []))
    ∷ (Calls 3 (pid 3) call.Wait ((end_b 0 0) ∷ (end_b 1 0) ∷ []))
    ∷ (Takes 0 3)
    ∷ (Takes 1 3)
    ∷ (Calls 2 (pid 2) (call.Send (end_a 2 0) (120 ∷ []) ((end_a 0 0) ∷ [])) [])
    ∷ (Calls 3 (pid 3) (call.Receive (end_b 0 0)) [])
    ∷ (Takes 0 3)
    ∷ (Takes 3 1)
    ∷ (Takes 4 2)
    ∷ (Takes 1 4)
    ∷ (Takes 2 3)
    ∷ (Calls 3 (pid 3) (call.Destroy (end_b 0 0)) [])
    ∷ (Calls 4 (pid 4) call.Wait ((end_a 0 0) ∷ (end_b 2 0) ∷ []))
    ∷ (Calls 2 (pid 2) (call.Receive (end_a 2 0)) [])
    ∷ (Calls 4 (pid 4) (call.Send (end_a 0 0) (121 ∷ []) []) [])
    ∷ (Takes 2 4)
    ∷ (Takes 4 2)
    ∷ (Takes 2 0)
    ∷ (Takes 3 4)
    ∷ (Takes 2 0)
    ∷ (Takes 3 4)
    ∷ (Takes 4 3)
    ∷ (Takes 0 4)
    ∷ (Takes 2 3)
    ∷ (Takes 3 1)
    ∷ (Calls 4 (pid 4) call.Wait ((end_a 0 0) ∷ (end_b 2 0) ∷ []))
    ∷ (Takes 2 3)
    ∷ (Takes 3 4)
    ∷ (Takes 4 2)
    ∷ (Takes 1 3)
    ∷ (Takes 2 3)
    ∷ (Calls 4 (pid 4) (call.Send (end_b 2 0) (122 ∷ []) ((end_a 0 0) ∷ [])) [])
    ∷ (Takes 2 4)
    ∷ (Takes 4 2)
    ∷ (Takes 2 4)
    ∷ (Takes 4 2)
    ∷ (Takes 4 2)
    ∷ (Takes 4 2)
    ∷ (Takes 4 3)
    ∷ (Takes 4 3)
    ∷ (Takes 4 2)
    ∷ []

abbrev pub a_back_that_notices_entries : List Placed
a_back_that_notices_entries =
    record { kernel = 2; entry = record { stamp = 1; what = (Asked (pid 2) (call.Receive (end_b 0 1))); steps = ((step.Receive (end_b 0 1)) ∷ []) } }
    ∷ record { kernel = 3; entry = record { stamp = 1; what = (Asked (pid 3) (call.Receive (end_b 1 0))); steps = ((step.Receive (end_b 1 0)) ∷ []) } }
    ∷ record { kernel = 4; entry = record { stamp = 1; what = (Asked (pid 4) (call.Receive (end_b 2 0))); steps = ((step.Receive (end_b 2 0)) ∷ []) } }
    ∷ record { kernel = 0; entry = record { stamp = 2; what = (Took 2 (record { stamp = 0; what = (packet.Want (end_a 0 1) 1 2 0) })); steps = [] } }
    ∷ record { kernel = 1; entry = record { stamp = 2; what = (Took 3 (record { stamp = 0; what = (packet.Want (end_a 1 0) 1 3 0) })); steps = [] } }
    ∷ record { kernel = 2; entry = record { stamp = 2; what = (Took 4 (record { stamp = 0; what = (packet.Want (end_a 2 0) 1 4 0) })); steps = [] } }
    ∷ record { kernel = 0; entry = record { stamp = 3; what = (Asked (pid 0) (call.Send (end_a 0 1) (120 ∷ []) ((end_a 0 0) ∷ []))); steps = ((step.Send (end_a 0 1) 1 (120 ∷ []) ((end_a 0 0) ∷ [])) ∷ (step.Match (end_a 0 1) 1) ∷ []) } }
    ∷ record { kernel = 1; entry = record { stamp = 3; what = (Asked (pid 1) (call.Send (end_a 1 0) (120 ∷ []) ((end_b 0 0) ∷ []))); steps = ((step.Send (end_a 1 0) 1 (120 ∷ []) ((end_b 0 0) ∷ [])) ∷ (step.Match (end_a 1 0) 1) ∷ []) } }
    ∷ record { kernel = 2; entry = record { stamp = 4; what = (Took 0 (record { stamp = 0; what = (packet.Parcel (end_b 0 1) 1 1 0 0 (120 ∷ []) ((value (end_a 0 0) 1 1 0 0 0 0 0 false 1) ∷ [])) })); steps = ((step.Take (end_a 0 1) 1 (pid 2) false) ∷ []) } }
    ∷ record { kernel = 3; entry = record { stamp = 4; what = (Took 1 (record { stamp = 0; what = (packet.Parcel (end_b 1 0) 1 1 1 0 (120 ∷ []) ((value (end_b 0 0) 1 0 0 0 0 0 0 false 2) ∷ [])) })); steps = ((step.Take (end_a 1 0) 1 (pid 3) false) ∷ []) } }
    ∷ record { kernel = 0; entry = record { stamp = 5; what = (Took 2 (record { stamp = 0; what = (packet.Taken (end_a 0 1) 1 2 0) })); steps = ((step.Complete (end_a 0 1) 1) ∷ []) } }
    ∷ record { kernel = 1; entry = record { stamp = 5; what = (Took 2 (record { stamp = 0; what = (packet.Moved (end_b 0 0) 2 1) })); steps = [] } }
    ∷ record { kernel = 2; entry = record { stamp = 5; what = (Asked (pid 2) call.Wait); steps = ((step.Wait (pid 2)) ∷ (step.Report (pid 2) (record { on = (end_b 0 1); way = Inward; outcome = Done; bytes = (120 ∷ []); enclosed = ((end_a 0 0) ∷ []) })) ∷ []) } }
    ∷ record { kernel = 3; entry = record { stamp = 5; what = (Asked (pid 3) call.Wait); steps = ((step.Wait (pid 3)) ∷ (step.Report (pid 3) (record { on = (end_b 1 0); way = Inward; outcome = Done; bytes = (120 ∷ []); enclosed = ((end_b 0 0) ∷ []) })) ∷ []) } }
    ∷ record { kernel = 0; entry = record { stamp = 6; what = (Took 3 (record { stamp = 0; what = (packet.Moved (end_a 0 0) 3 1) })); steps = [] } }
    ∷ record { kernel = 1; entry = record { stamp = 6; what = (Took 3 (record { stamp = 0; what = (packet.Taken (end_a 1 0) 1 3 0) })); steps = ((step.Complete (end_a 1 0) 1) ∷ []) } }
    ∷ record { kernel = 2; entry = record { stamp = 6; what = (Asked (pid 2) (call.Send (end_a 2 0) (120 ∷ []) ((end_a 0 0) ∷ []))); steps = ((step.Send (end_a 2 0) 1 (120 ∷ []) ((end_a 0 0) ∷ [])) ∷ (step.Match (end_a 2 0) 1) ∷ []) } }
    ∷ record { kernel = 3; entry = record { stamp = 6; what = (Asked (pid 3) (call.Receive (end_b 0 0))); steps = ((step.Receive (end_b 0 0)) ∷ []) } }
    ∷ record { kernel = 0; entry = record { stamp = 7; what = (Took 3 (record { stamp = 0; what = (packet.Want (end_a 0 0) 1 3 1) })); steps = [] } }
    ∷ record { kernel = 3; entry = record { stamp = 7; what = (Took 1 (record { stamp = 0; what = (packet.Moved (end_b 0 0) 2 1) })); steps = [] } }
    ∷ record { kernel = 4; entry = record { stamp = 7; what = (Took 2 (record { stamp = 0; what = (packet.Parcel (end_b 2 0) 1 1 2 0 (120 ∷ []) ((value (end_a 0 0) 2 1 0 0 0 0 0 false 5) ∷ [])) })); steps = ((step.Take (end_a 2 0) 1 (pid 4) false) ∷ []) } }
    ∷ record { kernel = 1; entry = record { stamp = 8; what = (Took 4 (record { stamp = 0; what = (packet.Moved (end_b 0 0) 4 2) })); steps = [] } }
    ∷ record { kernel = 2; entry = record { stamp = 8; what = (Took 3 (record { stamp = 0; what = (packet.Want (end_a 0 0) 1 3 1) })); steps = [] } }
    ∷ record { kernel = 3; entry = record { stamp = 8; what = (Asked (pid 3) (call.Destroy (end_b 0 0))); steps = ((step.Destroy (end_b 0 0)) ∷ []) } }
    ∷ record { kernel = 4; entry = record { stamp = 8; what = (Asked (pid 4) call.Wait); steps = ((step.Wait (pid 4)) ∷ (step.Report (pid 4) (record { on = (end_b 2 0); way = Inward; outcome = Done; bytes = (120 ∷ []); enclosed = ((end_a 0 0) ∷ []) })) ∷ []) } }
    ∷ record { kernel = 2; entry = record { stamp = 9; what = (Asked (pid 2) (call.Receive (end_a 2 0))); steps = ((step.Receive (end_a 2 0)) ∷ []) } }
    ∷ record { kernel = 4; entry = record { stamp = 9; what = (Asked (pid 4) (call.Send (end_a 0 0) (121 ∷ []) [])); steps = ((step.Send (end_a 0 0) 1 (121 ∷ []) []) ∷ []) } }
    ∷ record { kernel = 2; entry = record { stamp = 10; what = (Took 4 (record { stamp = 0; what = (packet.Taken (end_a 2 0) 1 4 0) })); steps = ((step.Complete (end_a 2 0) 1) ∷ []) } }
    ∷ record { kernel = 4; entry = record { stamp = 10; what = (Took 2 (record { stamp = 0; what = (packet.Want (end_a 0 0) 1 3 1) })); steps = ((step.Match (end_a 0 0) 1) ∷ []) } }
    ∷ record { kernel = 2; entry = record { stamp = 11; what = (Took 0 (record { stamp = 0; what = (packet.Moved (end_a 0 0) 3 1) })); steps = [] } }
    ∷ record { kernel = 3; entry = record { stamp = 11; what = (Took 4 (record { stamp = 0; what = (packet.Parcel (end_b 0 0) 1 1 4 2 (121 ∷ []) []) })); steps = [] } }
    ∷ record { kernel = 2; entry = record { stamp = 12; what = (Took 0 (record { stamp = 0; what = (packet.Want (end_a 0 0) 1 3 1) })); steps = [] } }
    ∷ record { kernel = 3; entry = record { stamp = 12; what = (Took 4 (record { stamp = 0; what = (packet.Moved (end_b 0 0) 4 2) })); steps = [] } }
    ∷ record { kernel = 4; entry = record { stamp = 12; what = (Took 3 (record { stamp = 0; what = (packet.Back (end_a 0 0) 1 []) })); steps = ((step.Back (end_a 0 0) 1 false) ∷ []) } }
    ∷ record { kernel = 0; entry = record { stamp = 13; what = (Took 4 (record { stamp = 0; what = (packet.Forget (end_a 0 0) 2) })); steps = [] } }
    ∷ record { kernel = 2; entry = record { stamp = 13; what = (Took 3 (record { stamp = 0; what = (packet.Moved (end_a 0 0) 3 1) })); steps = [] } }
    ∷ record { kernel = 3; entry = record { stamp = 13; what = (Took 1 (record { stamp = 0; what = (packet.Moved (end_b 0 0) 4 2) })); steps = [] } }
    ∷ record { kernel = 4; entry = record { stamp = 13; what = (Asked (pid 4) call.Wait); steps = ((step.Wait (pid 4)) ∷ (step.Report (pid 4) (record { on = (end_a 0 0); way = Outward; outcome = Destroyed; bytes = []; enclosed = [] })) ∷ []) } }
    ∷ record { kernel = 2; entry = record { stamp = 14; what = (Took 3 (record { stamp = 0; what = (packet.Known (end_a 0 0) 1) })); steps = [] } }
    ∷ record { kernel = 3; entry = record { stamp = 14; what = (Took 4 (record { stamp = 0; what = (packet.GoneSeen (end_b 0 0)) })); steps = [] } }
    ∷ record { kernel = 4; entry = record { stamp = 14; what = (Took 2 (record { stamp = 0; what = (packet.Want (end_b 2 0) 1 2 0) })); steps = [] } }
    ∷ record { kernel = 1; entry = record { stamp = 15; what = (Took 3 (record { stamp = 0; what = (packet.Forget (end_b 0 0) 1) })); steps = [] } }
    ∷ record { kernel = 2; entry = record { stamp = 15; what = (Took 3 (record { stamp = 0; what = (packet.Gone (end_a 0 0) 3) })); steps = [] } }
    ∷ record { kernel = 4; entry = record { stamp = 15; what = (Asked (pid 4) (call.Send (end_b 2 0) (122 ∷ []) ((end_a 0 0) ∷ []))); steps = ((step.Send (end_b 2 0) 1 (122 ∷ []) ((end_a 0 0) ∷ [])) ∷ (step.Match (end_b 2 0) 1) ∷ []) } }
    ∷ record { kernel = 2; entry = record { stamp = 16; what = (Took 4 (record { stamp = 0; what = (packet.Forget (end_a 0 0) 2) })); steps = [] } }
    ∷ record { kernel = 4; entry = record { stamp = 16; what = (Took 2 (record { stamp = 0; what = (packet.Moved (end_a 0 0) 3 1) })); steps = [] } }
    ∷ record { kernel = 2; entry = record { stamp = 17; what = (Took 4 (record { stamp = 0; what = (packet.Parcel (end_a 2 0) 1 1 4 0 (122 ∷ []) ((value (end_a 0 0) 3 3 1 1 0 1 0 true 16) ∷ [])) })); steps = ((step.Take (end_b 2 0) 1 (pid 2) false) ∷ []) } }
    ∷ record { kernel = 4; entry = record { stamp = 17; what = (Took 2 (record { stamp = 0; what = (packet.Want (end_a 0 0) 1 3 1) })); steps = [] } }
    ∷ record { kernel = 4; entry = record { stamp = 18; what = (Took 2 (record { stamp = 0; what = (packet.Moved (end_a 0 0) 3 1) })); steps = [] } }
    ∷ record { kernel = 4; entry = record { stamp = 19; what = (Took 2 (record { stamp = 0; what = (packet.Gone (end_a 0 0) 3) })); steps = [] } }
    ∷ record { kernel = 4; entry = record { stamp = 20; what = (Took 3 (record { stamp = 0; what = (packet.Gone (end_a 0 0) 3) })); steps = [] } }
    ∷ record { kernel = 4; entry = record { stamp = 21; what = (Took 3 (record { stamp = 0; what = (packet.Gone (end_a 0 0) 3) })); steps = [] } }
    ∷ record { kernel = 4; entry = record { stamp = 22; what = (Took 2 (record { stamp = 0; what = (packet.Taken (end_b 2 0) 1 2 0) })); steps = ((step.Complete (end_b 2 0) 1) ∷ []) } }
    ∷ []

pub a_back_that_notices : unstamped (noted (start a_back_that_notices_setting) a_back_that_notices_events) ≡ a_back_that_notices_entries
unfolding end_eq put progress.sends progress.reports_to progress.answers_to progress.means progress.keeps actions.forgets actions.leave_each actions.values_leaving actions.matches actions.tells_gone actions.ends_idle
    actions.end_each actions.ends actions.hold_each actions.notice_send actions.notice_receive actions.notices actions.tells_moved actions.resends actions.resends_on_news actions.settle_each actions.tell_arrivals
    actions.learns rows.wants rows.voids rows.want_here rows.unwant_here rows.frees rows.receives rows.pass_each rows.sends_back rows.completes rows.gives_back rows.notices_first rows.end_arrivals rows.erases
    rows.gone_here rows.moved_here rows.moved_mark rows.known_here calls.makes calls.starts_send calls.encloses calls.posts calls.withdraws_send calls.withdraws_receive calls.ends_each kernel.answers_wait
    kernel.join_reports kernel.join_answers kernel.closes kernel.take_step kernel.performs kernel.call_step
a_back_that_notices = refl

abbrev pub a_dead_link_leaves_no_trace_setting : Setting
a_dead_link_leaves_no_trace_setting = record { version = 1; kernels = 2; homes = (0 ∷ 1 ∷ []); wires = ((pid 0, pid 1) ∷ []) }

abbrev pub a_dead_link_leaves_no_trace_events : List Event
a_dead_link_leaves_no_trace_events =
    (Calls 1 (pid 1) (call.Destroy (end_b 0 0)) [])
    ∷ (Takes 0 1)
    ∷ (Calls 0 (pid 0) (call.Destroy (end_a 0 0)) [])
    ∷ (Takes 1 0)
    ∷ []

abbrev pub a_dead_link_leaves_no_trace_entries : List Placed
a_dead_link_leaves_no_trace_entries =
    record { kernel = 1; entry = record { stamp = 1; what = (Asked (pid 1) (call.Destroy (end_b 0 0))); steps = ((step.Destroy (end_b 0 0)) ∷ []) } }
    ∷ record { kernel = 0; entry = record { stamp = 2; what = (Took 1 (record { stamp = 0; what = (packet.Gone (end_a 0 0) 1) })); steps = ((step.Notice (end_a 0 0) false) ∷ []) } }
    ∷ record { kernel = 0; entry = record { stamp = 3; what = (Asked (pid 0) (call.Destroy (end_a 0 0))); steps = ((step.Destroy (end_a 0 0)) ∷ []) } }
    ∷ record { kernel = 1; entry = record { stamp = 3; what = (Took 0 (record { stamp = 0; what = (packet.GoneSeen (end_b 0 0)) })); steps = [] } }
    ∷ []

pub a_dead_link_leaves_no_trace : unstamped (noted (start a_dead_link_leaves_no_trace_setting) a_dead_link_leaves_no_trace_events) ≡ a_dead_link_leaves_no_trace_entries
unfolding end_eq put progress.sends progress.reports_to progress.answers_to progress.means progress.keeps actions.forgets actions.leave_each actions.values_leaving actions.matches actions.tells_gone actions.ends_idle
    actions.end_each actions.ends actions.hold_each actions.notice_send actions.notice_receive actions.notices actions.tells_moved actions.resends actions.resends_on_news actions.settle_each actions.tell_arrivals
    actions.learns rows.wants rows.voids rows.want_here rows.unwant_here rows.frees rows.receives rows.pass_each rows.sends_back rows.completes rows.gives_back rows.notices_first rows.end_arrivals rows.erases
    rows.gone_here rows.moved_here rows.moved_mark rows.known_here calls.makes calls.starts_send calls.encloses calls.posts calls.withdraws_send calls.withdraws_receive calls.ends_each kernel.answers_wait
    kernel.join_reports kernel.join_answers kernel.closes kernel.take_step kernel.performs kernel.call_step
a_dead_link_leaves_no_trace = refl

abbrev pub an_end_moves_and_its_trace_is_forgotten_setting : Setting
an_end_moves_and_its_trace_is_forgotten_setting = record { version = 1; kernels = 3; homes = (0 ∷ 1 ∷ 2 ∷ []); wires = ((pid 0, pid 1) ∷ (pid 2, pid 0) ∷ []) }

abbrev pub an_end_moves_and_its_trace_is_forgotten_events : List Event
an_end_moves_and_its_trace_is_forgotten_events =
    (Calls 0 (pid 0) (call.Send (end_a 0 0) (120 ∷ []) ((end_b 2 0) ∷ [])) [])
    ∷ (Calls 1 (pid 1) (call.Receive (end_b 0 0)) [])
    ∷ (Takes 0 1)
    ∷ (Takes 1 0)
    ∷ (Takes 0 1)
    ∷ (Takes 2 1)
    ∷ (Takes 1 2)
    ∷ (Calls 2 (pid 2) (call.Receive (end_a 2 0)) [])
    ∷ (Takes 0 1)
    ∷ (Calls 1 (pid 1) call.Wait ((end_b 0 0) ∷ (end_b 2 0) ∷ []))
    ∷ (Takes 1 2)
    ∷ (Calls 1 (pid 1) (call.Send (end_b 2 0) (121 ∷ []) []) [])
    ∷ (Takes 2 1)
    ∷ (Takes 1 2)
    ∷ (Calls 2 (pid 2) call.Wait ((end_a 2 0) ∷ []))
    ∷ []

abbrev pub an_end_moves_and_its_trace_is_forgotten_entries : List Placed
an_end_moves_and_its_trace_is_forgotten_entries =
    record { kernel = 0; entry = record { stamp = 1; what = (Asked (pid 0) (call.Send (end_a 0 0) (120 ∷ []) ((end_b 2 0) ∷ []))); steps = ((step.Send (end_a 0 0) 1 (120 ∷ []) ((end_b 2 0) ∷ [])) ∷ []) } }
    ∷ record { kernel = 1; entry = record { stamp = 1; what = (Asked (pid 1) (call.Receive (end_b 0 0))); steps = ((step.Receive (end_b 0 0)) ∷ []) } }
    ∷ record { kernel = 0; entry = record { stamp = 2; what = (Took 1 (record { stamp = 0; what = (packet.Want (end_a 0 0) 1 1 0) })); steps = ((step.Match (end_a 0 0) 1) ∷ []) } }
    ∷ record { kernel = 1; entry = record { stamp = 3; what = (Took 0 (record { stamp = 0; what = (packet.Parcel (end_b 0 0) 1 1 0 0 (120 ∷ []) ((value (end_b 2 0) 1 2 0 0 0 0 0 false 1) ∷ [])) })); steps = ((step.Take (end_a 0 0) 1 (pid 1) false) ∷ []) } }
    ∷ record { kernel = 0; entry = record { stamp = 4; what = (Took 1 (record { stamp = 0; what = (packet.Taken (end_a 0 0) 1 1 0) })); steps = ((step.Complete (end_a 0 0) 1) ∷ []) } }
    ∷ record { kernel = 2; entry = record { stamp = 4; what = (Took 1 (record { stamp = 0; what = (packet.Moved (end_a 2 0) 1 1) })); steps = [] } }
    ∷ record { kernel = 1; entry = record { stamp = 5; what = (Took 2 (record { stamp = 0; what = (packet.Known (end_b 2 0) 1) })); steps = [] } }
    ∷ record { kernel = 2; entry = record { stamp = 5; what = (Asked (pid 2) (call.Receive (end_a 2 0))); steps = ((step.Receive (end_a 2 0)) ∷ []) } }
    ∷ record { kernel = 0; entry = record { stamp = 6; what = (Took 1 (record { stamp = 0; what = (packet.Forget (end_b 2 0) 1) })); steps = [] } }
    ∷ record { kernel = 1; entry = record { stamp = 6; what = (Asked (pid 1) call.Wait); steps = ((step.Wait (pid 1)) ∷ (step.Report (pid 1) (record { on = (end_b 0 0); way = Inward; outcome = Done; bytes = (120 ∷ []); enclosed = ((end_b 2 0) ∷ []) })) ∷ []) } }
    ∷ record { kernel = 1; entry = record { stamp = 7; what = (Took 2 (record { stamp = 0; what = (packet.Want (end_b 2 0) 1 2 0) })); steps = [] } }
    ∷ record { kernel = 1; entry = record { stamp = 8; what = (Asked (pid 1) (call.Send (end_b 2 0) (121 ∷ []) [])); steps = ((step.Send (end_b 2 0) 1 (121 ∷ []) []) ∷ (step.Match (end_b 2 0) 1) ∷ []) } }
    ∷ record { kernel = 2; entry = record { stamp = 9; what = (Took 1 (record { stamp = 0; what = (packet.Parcel (end_a 2 0) 1 1 1 1 (121 ∷ []) []) })); steps = ((step.Take (end_b 2 0) 1 (pid 2) false) ∷ []) } }
    ∷ record { kernel = 1; entry = record { stamp = 10; what = (Took 2 (record { stamp = 0; what = (packet.Taken (end_b 2 0) 1 2 0) })); steps = ((step.Complete (end_b 2 0) 1) ∷ []) } }
    ∷ record { kernel = 2; entry = record { stamp = 10; what = (Asked (pid 2) call.Wait); steps = ((step.Wait (pid 2)) ∷ (step.Report (pid 2) (record { on = (end_a 2 0); way = Inward; outcome = Done; bytes = (121 ∷ []); enclosed = [] })) ∷ []) } }
    ∷ []

pub an_end_moves_and_its_trace_is_forgotten : unstamped (noted (start an_end_moves_and_its_trace_is_forgotten_setting) an_end_moves_and_its_trace_is_forgotten_events) ≡ an_end_moves_and_its_trace_is_forgotten_entries
unfolding end_eq put progress.sends progress.reports_to progress.answers_to progress.means progress.keeps actions.forgets actions.leave_each actions.values_leaving actions.matches actions.tells_gone actions.ends_idle
    actions.end_each actions.ends actions.hold_each actions.notice_send actions.notice_receive actions.notices actions.tells_moved actions.resends actions.resends_on_news actions.settle_each actions.tell_arrivals
    actions.learns rows.wants rows.voids rows.want_here rows.unwant_here rows.frees rows.receives rows.pass_each rows.sends_back rows.completes rows.gives_back rows.notices_first rows.end_arrivals rows.erases
    rows.gone_here rows.moved_here rows.moved_mark rows.known_here calls.makes calls.starts_send calls.encloses calls.posts calls.withdraws_send calls.withdraws_receive calls.ends_each kernel.answers_wait
    kernel.join_reports kernel.join_answers kernel.closes kernel.take_step kernel.performs kernel.call_step
an_end_moves_and_its_trace_is_forgotten = refl

abbrev pub busy_until_reported_setting : Setting
busy_until_reported_setting = record { version = 1; kernels = 2; homes = (0 ∷ 1 ∷ []); wires = ((pid 0, pid 1) ∷ []) }

abbrev pub busy_until_reported_events : List Event
busy_until_reported_events =
    (Calls 0 (pid 0) (call.Send (end_a 0 0) (120 ∷ []) []) [])
    ∷ (Calls 1 (pid 1) (call.Receive (end_b 0 0)) [])
    ∷ (Takes 0 1)
    ∷ (Takes 1 0)
    ∷ (Takes 0 1)
    ∷ (Calls 1 (pid 1) call.Wait ((end_b 0 0) ∷ []))
    ∷ (Calls 0 (pid 0) (call.Send (end_a 0 0) (121 ∷ []) []) [])
    ∷ (Calls 0 (pid 0) call.Wait ((end_a 0 0) ∷ []))
    ∷ (Calls 0 (pid 0) (call.Send (end_a 0 0) (121 ∷ []) []) [])
    ∷ []

abbrev pub busy_until_reported_entries : List Placed
busy_until_reported_entries =
    record { kernel = 0; entry = record { stamp = 1; what = (Asked (pid 0) (call.Send (end_a 0 0) (120 ∷ []) [])); steps = ((step.Send (end_a 0 0) 1 (120 ∷ []) []) ∷ []) } }
    ∷ record { kernel = 1; entry = record { stamp = 1; what = (Asked (pid 1) (call.Receive (end_b 0 0))); steps = ((step.Receive (end_b 0 0)) ∷ []) } }
    ∷ record { kernel = 0; entry = record { stamp = 2; what = (Took 1 (record { stamp = 0; what = (packet.Want (end_a 0 0) 1 1 0) })); steps = ((step.Match (end_a 0 0) 1) ∷ []) } }
    ∷ record { kernel = 1; entry = record { stamp = 3; what = (Took 0 (record { stamp = 0; what = (packet.Parcel (end_b 0 0) 1 1 0 0 (120 ∷ []) []) })); steps = ((step.Take (end_a 0 0) 1 (pid 1) false) ∷ []) } }
    ∷ record { kernel = 0; entry = record { stamp = 4; what = (Took 1 (record { stamp = 0; what = (packet.Taken (end_a 0 0) 1 1 0) })); steps = ((step.Complete (end_a 0 0) 1) ∷ []) } }
    ∷ record { kernel = 1; entry = record { stamp = 4; what = (Asked (pid 1) call.Wait); steps = ((step.Wait (pid 1)) ∷ (step.Report (pid 1) (record { on = (end_b 0 0); way = Inward; outcome = Done; bytes = (120 ∷ []); enclosed = [] })) ∷ []) } }
    ∷ record { kernel = 0; entry = record { stamp = 5; what = (Asked (pid 0) (call.Send (end_a 0 0) (121 ∷ []) [])); steps = ((step.Refuse (pid 0) (call.Send (end_a 0 0) (121 ∷ []) []) cause.Busy) ∷ []) } }
    ∷ record { kernel = 0; entry = record { stamp = 6; what = (Asked (pid 0) call.Wait); steps = ((step.Wait (pid 0)) ∷ (step.Report (pid 0) (record { on = (end_a 0 0); way = Outward; outcome = Done; bytes = []; enclosed = [] })) ∷ []) } }
    ∷ record { kernel = 0; entry = record { stamp = 7; what = (Asked (pid 0) (call.Send (end_a 0 0) (121 ∷ []) [])); steps = ((step.Send (end_a 0 0) 2 (121 ∷ []) []) ∷ []) } }
    ∷ []

pub busy_until_reported : unstamped (noted (start busy_until_reported_setting) busy_until_reported_events) ≡ busy_until_reported_entries
unfolding end_eq put progress.sends progress.reports_to progress.answers_to progress.means progress.keeps actions.forgets actions.leave_each actions.values_leaving actions.matches actions.tells_gone actions.ends_idle
    actions.end_each actions.ends actions.hold_each actions.notice_send actions.notice_receive actions.notices actions.tells_moved actions.resends actions.resends_on_news actions.settle_each actions.tell_arrivals
    actions.learns rows.wants rows.voids rows.want_here rows.unwant_here rows.frees rows.receives rows.pass_each rows.sends_back rows.completes rows.gives_back rows.notices_first rows.end_arrivals rows.erases
    rows.gone_here rows.moved_here rows.moved_mark rows.known_here calls.makes calls.starts_send calls.encloses calls.posts calls.withdraws_send calls.withdraws_receive calls.ends_each kernel.answers_wait
    kernel.join_reports kernel.join_answers kernel.closes kernel.take_step kernel.performs kernel.call_step
busy_until_reported = refl

abbrev pub cancel_meets_its_parcel_setting : Setting
cancel_meets_its_parcel_setting = record { version = 1; kernels = 2; homes = (0 ∷ 1 ∷ []); wires = ((pid 0, pid 1) ∷ []) }

abbrev pub cancel_meets_its_parcel_events : List Event
cancel_meets_its_parcel_events =
    (Calls 0 (pid 0) (call.Send (end_a 0 0) (120 ∷ []) []) [])
    ∷ (Calls 1 (pid 1) (call.Receive (end_b 0 0)) [])
    ∷ (Takes 0 1)
    ∷ (Calls 1 (pid 1) (call.Cancel (end_b 0 0) Inward) [])
    ∷ (Takes 0 1)
    ∷ (Takes 1 0)
    ∷ (Takes 0 1)
    ∷ (Calls 1 (pid 1) call.Wait ((end_b 0 0) ∷ []))
    ∷ []

abbrev pub cancel_meets_its_parcel_entries : List Placed
cancel_meets_its_parcel_entries =
    record { kernel = 0; entry = record { stamp = 1; what = (Asked (pid 0) (call.Send (end_a 0 0) (120 ∷ []) [])); steps = ((step.Send (end_a 0 0) 1 (120 ∷ []) []) ∷ []) } }
    ∷ record { kernel = 1; entry = record { stamp = 1; what = (Asked (pid 1) (call.Receive (end_b 0 0))); steps = ((step.Receive (end_b 0 0)) ∷ []) } }
    ∷ record { kernel = 0; entry = record { stamp = 2; what = (Took 1 (record { stamp = 0; what = (packet.Want (end_a 0 0) 1 1 0) })); steps = ((step.Match (end_a 0 0) 1) ∷ []) } }
    ∷ record { kernel = 1; entry = record { stamp = 2; what = (Asked (pid 1) (call.Cancel (end_b 0 0) Inward)); steps = ((step.Cancel (end_b 0 0) Inward) ∷ []) } }
    ∷ record { kernel = 0; entry = record { stamp = 3; what = (Took 1 (record { stamp = 0; what = (packet.Unwant (end_a 0 0) 1 1 0) })); steps = [] } }
    ∷ record { kernel = 1; entry = record { stamp = 3; what = (Took 0 (record { stamp = 0; what = (packet.Parcel (end_b 0 0) 1 1 0 0 (120 ∷ []) []) })); steps = ((step.Take (end_a 0 0) 1 (pid 1) true) ∷ []) } }
    ∷ record { kernel = 0; entry = record { stamp = 4; what = (Took 1 (record { stamp = 0; what = (packet.Taken (end_a 0 0) 1 1 0) })); steps = ((step.Complete (end_a 0 0) 1) ∷ []) } }
    ∷ record { kernel = 1; entry = record { stamp = 4; what = (Asked (pid 1) call.Wait); steps = ((step.Wait (pid 1)) ∷ (step.Report (pid 1) (record { on = (end_b 0 0); way = Inward; outcome = Done; bytes = (120 ∷ []); enclosed = [] })) ∷ []) } }
    ∷ []

pub cancel_meets_its_parcel : unstamped (noted (start cancel_meets_its_parcel_setting) cancel_meets_its_parcel_events) ≡ cancel_meets_its_parcel_entries
unfolding end_eq put progress.sends progress.reports_to progress.answers_to progress.means progress.keeps actions.forgets actions.leave_each actions.values_leaving actions.matches actions.tells_gone actions.ends_idle
    actions.end_each actions.ends actions.hold_each actions.notice_send actions.notice_receive actions.notices actions.tells_moved actions.resends actions.resends_on_news actions.settle_each actions.tell_arrivals
    actions.learns rows.wants rows.voids rows.want_here rows.unwant_here rows.frees rows.receives rows.pass_each rows.sends_back rows.completes rows.gives_back rows.notices_first rows.end_arrivals rows.erases
    rows.gone_here rows.moved_here rows.moved_mark rows.known_here calls.makes calls.starts_send calls.encloses calls.posts calls.withdraws_send calls.withdraws_receive calls.ends_each kernel.answers_wait
    kernel.join_reports kernel.join_answers kernel.closes kernel.take_step kernel.performs kernel.call_step
cancel_meets_its_parcel = refl

abbrev pub no_process_setting : Setting
no_process_setting = record { version = 1; kernels = 1; homes = []; wires = [] }

abbrev pub no_process_events : List Event
no_process_events =
    []

abbrev pub no_process_entries : List Placed
no_process_entries =
    []

pub no_process : unstamped (noted (start no_process_setting) no_process_events) ≡ no_process_entries
unfolding end_eq put progress.sends progress.reports_to progress.answers_to progress.means progress.keeps actions.forgets actions.leave_each actions.values_leaving actions.matches actions.tells_gone actions.ends_idle
    actions.end_each actions.ends actions.hold_each actions.notice_send actions.notice_receive actions.notices actions.tells_moved actions.resends actions.resends_on_news actions.settle_each actions.tell_arrivals
    actions.learns rows.wants rows.voids rows.want_here rows.unwant_here rows.frees rows.receives rows.pass_each rows.sends_back rows.completes rows.gives_back rows.notices_first rows.end_arrivals rows.erases
    rows.gone_here rows.moved_here rows.moved_mark rows.known_here calls.makes calls.starts_send calls.encloses calls.posts calls.withdraws_send calls.withdraws_receive calls.ends_each kernel.answers_wait
    kernel.join_reports kernel.join_answers kernel.closes kernel.take_step kernel.performs kernel.call_step
no_process = refl

abbrev pub one_message_between_two_kernels_setting : Setting
one_message_between_two_kernels_setting = record { version = 1; kernels = 2; homes = (0 ∷ 1 ∷ []); wires = ((pid 0, pid 1) ∷ []) }

abbrev pub one_message_between_two_kernels_events : List Event
one_message_between_two_kernels_events =
    (Calls 0 (pid 0) (call.Send (end_a 0 0) (120 ∷ []) []) [])
    ∷ (Calls 1 (pid 1) (call.Receive (end_b 0 0)) [])
    ∷ (Takes 0 1)
    ∷ (Takes 1 0)
    ∷ (Takes 0 1)
    ∷ (Calls 1 (pid 1) call.Wait ((end_b 0 0) ∷ []))
    ∷ []

abbrev pub one_message_between_two_kernels_entries : List Placed
one_message_between_two_kernels_entries =
    record { kernel = 0; entry = record { stamp = 1; what = (Asked (pid 0) (call.Send (end_a 0 0) (120 ∷ []) [])); steps = ((step.Send (end_a 0 0) 1 (120 ∷ []) []) ∷ []) } }
    ∷ record { kernel = 1; entry = record { stamp = 1; what = (Asked (pid 1) (call.Receive (end_b 0 0))); steps = ((step.Receive (end_b 0 0)) ∷ []) } }
    ∷ record { kernel = 0; entry = record { stamp = 2; what = (Took 1 (record { stamp = 0; what = (packet.Want (end_a 0 0) 1 1 0) })); steps = ((step.Match (end_a 0 0) 1) ∷ []) } }
    ∷ record { kernel = 1; entry = record { stamp = 3; what = (Took 0 (record { stamp = 0; what = (packet.Parcel (end_b 0 0) 1 1 0 0 (120 ∷ []) []) })); steps = ((step.Take (end_a 0 0) 1 (pid 1) false) ∷ []) } }
    ∷ record { kernel = 0; entry = record { stamp = 4; what = (Took 1 (record { stamp = 0; what = (packet.Taken (end_a 0 0) 1 1 0) })); steps = ((step.Complete (end_a 0 0) 1) ∷ []) } }
    ∷ record { kernel = 1; entry = record { stamp = 4; what = (Asked (pid 1) call.Wait); steps = ((step.Wait (pid 1)) ∷ (step.Report (pid 1) (record { on = (end_b 0 0); way = Inward; outcome = Done; bytes = (120 ∷ []); enclosed = [] })) ∷ []) } }
    ∷ []

pub one_message_between_two_kernels : unstamped (noted (start one_message_between_two_kernels_setting) one_message_between_two_kernels_events) ≡ one_message_between_two_kernels_entries
unfolding end_eq put progress.sends progress.reports_to progress.answers_to progress.means progress.keeps actions.forgets actions.leave_each actions.values_leaving actions.matches actions.tells_gone actions.ends_idle
    actions.end_each actions.ends actions.hold_each actions.notice_send actions.notice_receive actions.notices actions.tells_moved actions.resends actions.resends_on_news actions.settle_each actions.tell_arrivals
    actions.learns rows.wants rows.voids rows.want_here rows.unwant_here rows.frees rows.receives rows.pass_each rows.sends_back rows.completes rows.gives_back rows.notices_first rows.end_arrivals rows.erases
    rows.gone_here rows.moved_here rows.moved_mark rows.known_here calls.makes calls.starts_send calls.encloses calls.posts calls.withdraws_send calls.withdraws_receive calls.ends_each kernel.answers_wait
    kernel.join_reports kernel.join_answers kernel.closes kernel.take_step kernel.performs kernel.call_step
one_message_between_two_kernels = refl

abbrev pub one_message_on_one_kernel_setting : Setting
one_message_on_one_kernel_setting = record { version = 1; kernels = 1; homes = (0 ∷ 0 ∷ []); wires = ((pid 0, pid 1) ∷ []) }

abbrev pub one_message_on_one_kernel_events : List Event
one_message_on_one_kernel_events =
    (Calls 0 (pid 1) (call.Receive (end_b 0 0)) [])
    ∷ (Calls 0 (pid 0) (call.Send (end_a 0 0) (104 ∷ 101 ∷ 108 ∷ 108 ∷ 111 ∷ []) []) [])
    ∷ (Takes 0 0)
    ∷ (Takes 0 0)
    ∷ (Takes 0 0)
    ∷ (Calls 0 (pid 0) call.Wait ((end_a 0 0) ∷ []))
    ∷ (Calls 0 (pid 1) call.Wait ((end_b 0 0) ∷ []))
    ∷ []

abbrev pub one_message_on_one_kernel_entries : List Placed
one_message_on_one_kernel_entries =
    record { kernel = 0; entry = record { stamp = 1; what = (Asked (pid 1) (call.Receive (end_b 0 0))); steps = ((step.Receive (end_b 0 0)) ∷ []) } }
    ∷ record { kernel = 0; entry = record { stamp = 2; what = (Asked (pid 0) (call.Send (end_a 0 0) (104 ∷ 101 ∷ 108 ∷ 108 ∷ 111 ∷ []) [])); steps = ((step.Send (end_a 0 0) 1 (104 ∷ 101 ∷ 108 ∷ 108 ∷ 111 ∷ []) []) ∷ []) } }
    ∷ record { kernel = 0; entry = record { stamp = 3; what = (Took 0 (record { stamp = 0; what = (packet.Want (end_a 0 0) 1 0 0) })); steps = ((step.Match (end_a 0 0) 1) ∷ []) } }
    ∷ record { kernel = 0; entry = record { stamp = 4; what = (Took 0 (record { stamp = 0; what = (packet.Parcel (end_b 0 0) 1 1 0 0 (104 ∷ 101 ∷ 108 ∷ 108 ∷ 111 ∷ []) []) })); steps = ((step.Take (end_a 0 0) 1 (pid 1) false) ∷ []) } }
    ∷ record { kernel = 0; entry = record { stamp = 5; what = (Took 0 (record { stamp = 0; what = (packet.Taken (end_a 0 0) 1 0 0) })); steps = ((step.Complete (end_a 0 0) 1) ∷ []) } }
    ∷ record { kernel = 0; entry = record { stamp = 6; what = (Asked (pid 0) call.Wait); steps = ((step.Wait (pid 0)) ∷ (step.Report (pid 0) (record { on = (end_a 0 0); way = Outward; outcome = Done; bytes = []; enclosed = [] })) ∷ []) } }
    ∷ record { kernel = 0; entry = record { stamp = 7; what = (Asked (pid 1) call.Wait); steps = ((step.Wait (pid 1)) ∷ (step.Report (pid 1) (record { on = (end_b 0 0); way = Inward; outcome = Done; bytes = (104 ∷ 101 ∷ 108 ∷ 108 ∷ 111 ∷ []); enclosed = [] })) ∷ []) } }
    ∷ []

pub one_message_on_one_kernel : unstamped (noted (start one_message_on_one_kernel_setting) one_message_on_one_kernel_events) ≡ one_message_on_one_kernel_entries
unfolding end_eq put progress.sends progress.reports_to progress.answers_to progress.means progress.keeps actions.forgets actions.leave_each actions.values_leaving actions.matches actions.tells_gone actions.ends_idle
    actions.end_each actions.ends actions.hold_each actions.notice_send actions.notice_receive actions.notices actions.tells_moved actions.resends actions.resends_on_news actions.settle_each actions.tell_arrivals
    actions.learns rows.wants rows.voids rows.want_here rows.unwant_here rows.frees rows.receives rows.pass_each rows.sends_back rows.completes rows.gives_back rows.notices_first rows.end_arrivals rows.erases
    rows.gone_here rows.moved_here rows.moved_mark rows.known_here calls.makes calls.starts_send calls.encloses calls.posts calls.withdraws_send calls.withdraws_receive calls.ends_each kernel.answers_wait
    kernel.join_reports kernel.join_answers kernel.closes kernel.take_step kernel.performs kernel.call_step
one_message_on_one_kernel = refl

abbrev pub two_ends_in_one_message_setting : Setting
two_ends_in_one_message_setting = record { version = 2; kernels = 2; homes = (0 ∷ 1 ∷ []); wires = ((pid 0, pid 1) ∷ (pid 0, pid 1) ∷ (pid 0, pid 1) ∷ []) }

abbrev pub two_ends_in_one_message_events : List Event
two_ends_in_one_message_events =
    (Calls 1 (pid 1) (call.Receive (end_b 0 0)) [])
    ∷ (Takes 0 1)
    ∷ (Calls 0 (pid 0) (call.Send (end_a 0 0) (120 ∷ []) ((end_a 0 1) ∷ (end_a 0 2) ∷ [])) [])
    ∷ (Takes 1 0)
    ∷ (Takes 0 1)
    ∷ (Takes 1 1)
    ∷ (Takes 1 1)
    ∷ (Takes 1 1)
    ∷ (Takes 0 1)
    ∷ (Takes 1 1)
    ∷ (Takes 0 1)
    ∷ (Calls 1 (pid 1) call.Wait ((end_b 0 0) ∷ (end_a 0 1) ∷ (end_b 0 1) ∷ (end_a 0 2) ∷ (end_b 0 2) ∷ []))
    ∷ []

abbrev pub two_ends_in_one_message_entries : List Placed
two_ends_in_one_message_entries =
    record { kernel = 1; entry = record { stamp = 1; what = (Asked (pid 1) (call.Receive (end_b 0 0))); steps = ((step.Receive (end_b 0 0)) ∷ []) } }
    ∷ record { kernel = 0; entry = record { stamp = 2; what = (Took 1 (record { stamp = 0; what = (packet.Want (end_a 0 0) 1 1 0) })); steps = [] } }
    ∷ record { kernel = 0; entry = record { stamp = 3; what = (Asked (pid 0) (call.Send (end_a 0 0) (120 ∷ []) ((end_a 0 1) ∷ (end_a 0 2) ∷ []))); steps = ((step.Send (end_a 0 0) 1 (120 ∷ []) ((end_a 0 1) ∷ (end_a 0 2) ∷ [])) ∷ (step.Match (end_a 0 0) 1) ∷ []) } }
    ∷ record {
      kernel = 1;
      entry = record {
        stamp = 4;
        what = (Took 0 (record { stamp = 0; what = (packet.Parcel (end_b 0 0) 1 1 0 0 (120 ∷ []) ((value (end_a 0 1) 1 1 0 0 0 0 0 false 1) ∷ (value (end_a 0 2) 1 1 0 0 0 0 0 false 1) ∷ [])) }));
        steps = ((step.Take (end_a 0 0) 1 (pid 1) false) ∷ []);
      };
    }
    ∷ record { kernel = 0; entry = record { stamp = 5; what = (Took 1 (record { stamp = 0; what = (packet.Taken (end_a 0 0) 1 1 0) })); steps = ((step.Complete (end_a 0 0) 1) ∷ []) } }
    ∷ record { kernel = 1; entry = record { stamp = 5; what = (Took 1 (record { stamp = 0; what = (packet.Moved (end_b 0 1) 1 1) })); steps = [] } }
    ∷ record { kernel = 1; entry = record { stamp = 6; what = (Took 1 (record { stamp = 0; what = (packet.Moved (end_b 0 2) 1 1) })); steps = [] } }
    ∷ record { kernel = 1; entry = record { stamp = 7; what = (Took 1 (record { stamp = 0; what = (packet.Known (end_a 0 1) 1) })); steps = [] } }
    ∷ record { kernel = 0; entry = record { stamp = 8; what = (Took 1 (record { stamp = 0; what = (packet.Forget (end_a 0 1) 1) })); steps = [] } }
    ∷ record { kernel = 1; entry = record { stamp = 8; what = (Took 1 (record { stamp = 0; what = (packet.Known (end_a 0 2) 1) })); steps = [] } }
    ∷ record { kernel = 0; entry = record { stamp = 9; what = (Took 1 (record { stamp = 0; what = (packet.Forget (end_a 0 2) 1) })); steps = [] } }
    ∷ record { kernel = 1; entry = record { stamp = 9; what = (Asked (pid 1) call.Wait); steps = ((step.Wait (pid 1)) ∷ (step.Report (pid 1) (record { on = (end_b 0 0); way = Inward; outcome = Done; bytes = (120 ∷ []); enclosed = ((end_a 0 1) ∷ (end_a 0 2) ∷ []) })) ∷ []) } }
    ∷ []

pub two_ends_in_one_message : unstamped (noted (start two_ends_in_one_message_setting) two_ends_in_one_message_events) ≡ two_ends_in_one_message_entries
unfolding end_eq put progress.sends progress.reports_to progress.answers_to progress.means progress.keeps actions.forgets actions.leave_each actions.values_leaving actions.matches actions.tells_gone actions.ends_idle
    actions.end_each actions.ends actions.hold_each actions.notice_send actions.notice_receive actions.notices actions.tells_moved actions.resends actions.resends_on_news actions.settle_each actions.tell_arrivals
    actions.learns rows.wants rows.voids rows.want_here rows.unwant_here rows.frees rows.receives rows.pass_each rows.sends_back rows.completes rows.gives_back rows.notices_first rows.end_arrivals rows.erases
    rows.gone_here rows.moved_here rows.moved_mark rows.known_here calls.makes calls.starts_send calls.encloses calls.posts calls.withdraws_send calls.withdraws_receive calls.ends_each kernel.answers_wait
    kernel.join_reports kernel.join_answers kernel.closes kernel.take_step kernel.performs kernel.call_step
two_ends_in_one_message = refl
