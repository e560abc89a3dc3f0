-- Worked runs: what is left of an end that moves, and of one that is destroyed, event by event, computed.
use Rattle.std.proofs.Common.{◌≡◌, ℕ, List, [], ◌∷◌, map, take, refl}
use Rattle.charlotte_calls.specs.declared.calls.Call.TheVariants as call
use Rattle.charlotte_calls.specs.declared.names.EndId.{EndId}
use Rattle.charlotte_packets.specs.declared.picture.Picture.{Picture}
use Rattle.charlotte_packets.specs.declared.picture.PictureWhat.{PictureWhat}
use Rattle.charlotte_packets.specs.declared.picture.PictureWhat.TheVariants as packet
use Rattle.end_table.specs.Place.{end_eq, put}
use Rattle.end_table.specs.declared.entry.Entry.{Entry}
use Rattle.end_table.specs.declared.entry.Entry.TheVariants as entry
use Rattle.kernel_step.specs.Actions as actions
use Rattle.kernel_step.specs.Calls as calls
use Rattle.kernel_step.specs.Kernel as kernel
use Rattle.kernel_step.specs.Progress as progress
use Rattle.kernel_step.specs.Rows as rows
use Rattle.kernel_world.specs.World.{Event, Calls, Takes, after, start}
use Rattle.theorem_meaning.proofs.Rows.{end_a, end_b, pid, two_links}
use Rattle.theorem_meaning.specs.Packets.{links_of}
use Rattle.theorem_meaning.specs.StandsFor.{entry_at}

-- what an entry is, and what a packet is
data Kind : Type 0 where
  nothing : Kind
  here : (hops trail : ℕ) → Kind
  left : (to hops : ℕ) → Kind
  mark : Kind

data Sort : Type 0 where
  want : Sort
  parcel : Sort
  taken : Sort
  gone : (at : ℕ) → Sort
  moved : (at hops : ℕ) → Sort
  known : (hops : ℕ) → Sort
  forget : (hops : ℕ) → Sort
  goneseen : Sort
  other : Sort

abbrev kind_of : Entry → Kind
kind_of entry.Nothing = nothing
kind_of (entry.Here v) = here v.value.hops v.value.trail
kind_of (entry.Left to hops) = left to hops
kind_of (entry.Destroyed m) = mark

abbrev sort_of : PictureWhat → Sort
sort_of (packet.Want to w at hops) = want
sort_of (packet.Parcel to n w at hops bytes ms) = parcel
sort_of (packet.Taken to n at hops) = taken
sort_of (packet.Gone to at) = gone at
sort_of (packet.Moved to at hops) = moved at hops
sort_of (packet.Known to hops) = known hops
sort_of (packet.Forget to hops) = forget hops
sort_of (packet.GoneSeen to) = goneseen
sort_of _ = other

abbrev sorts : List Picture → List Sort
sorts qs = map (λ q. sort_of q.what) qs

-- of an end after the first n events: its entries at kernels 0 and 1, and the packets from 0 to 1, from 1 to 0, and from 1 to itself
abbrev left_of : EndId → List Event → ℕ → Kind × Kind × List Sort × List Sort × List Sort
left_of e es n =
    let w = links_of (after (start two_links) (take n es)) in
    (kind_of (entry_at w 0 e), kind_of (entry_at w 1 e), sorts (w.packets 0 1), sorts (w.packets 1 0), sorts (w.packets 1 1))

-- end a of the second link moves in a message on the first: receive, want, send, parcel. Its opposite hears that it moved, and the way to it
-- is forgotten: moved, known, taken, forget
abbrev moves : List Event
moves =
    (Calls 1 (pid 1) (call.Receive (end_b 0)) [])
    ∷ (Takes 0 1)
    ∷ (Calls 0 (pid 0) (call.Send (end_a 0) (120 ∷ []) (end_a 1 ∷ [])) [])
    ∷ (Takes 1 0)
    ∷ (Takes 1 1)
    ∷ (Takes 1 1)
    ∷ (Takes 0 1)
    ∷ (Takes 0 1)
    ∷ []

moves-leave : map (left_of (end_a 1) moves) (0 ∷ 1 ∷ 2 ∷ 3 ∷ 4 ∷ 5 ∷ 6 ∷ 7 ∷ 8 ∷ [])
    ≡ (here 0 0, nothing, [], [], [])
    ∷ (here 0 0, nothing, [], want ∷ [], [])
    ∷ (here 0 0, nothing, [], [], [])
    ∷ (left 1 1, nothing, parcel ∷ [], [], [])
    ∷ (left 1 1, here 1 1, [], taken ∷ [], moved 1 1 ∷ [])
    ∷ (left 1 1, here 1 1, [], taken ∷ [], known 1 ∷ [])
    ∷ (left 1 1, here 1 0, [], taken ∷ forget 1 ∷ [], [])
    ∷ (left 1 1, here 1 0, [], forget 1 ∷ [], [])
    ∷ (nothing, here 1 0, [], [], [])
    ∷ []
unfolding end_eq put progress.sends progress.reports_to progress.answers_to progress.means progress.keeps actions.forgets actions.leave_each actions.values_leaving actions.matches actions.tells_gone actions.ends_idle
    actions.end_each actions.ends actions.hold_each actions.notice_send actions.notice_receive actions.notices actions.tells_moved actions.resends actions.resends_on_news actions.settle_each actions.tell_arrivals
    actions.learns rows.wants rows.voids rows.want_here rows.unwant_here rows.frees rows.receives rows.pass_each rows.sends_back rows.completes rows.gives_back rows.notices_first rows.end_arrivals rows.erases
    rows.gone_here rows.moved_here rows.moved_mark rows.known_here calls.makes calls.starts_send calls.encloses calls.posts calls.withdraws_send calls.withdraws_receive calls.ends_each kernel.answers_wait
    kernel.join_reports kernel.join_answers kernel.closes kernel.take_step kernel.performs kernel.call_step
moves-leave = refl

-- end b of the second link is destroyed: its mark stands until the opposite has seen the death: gone, goneseen
abbrev dies : List Event
dies = (Calls 1 (pid 1) (call.Destroy (end_b 1)) []) ∷ (Takes 0 1) ∷ (Takes 1 0) ∷ []

dies-leaves : map (left_of (end_b 1) dies) (0 ∷ 1 ∷ 2 ∷ 3 ∷ [])
    ≡ (nothing, here 0 0, [], [], []) ∷ (nothing, mark, [], gone 1 ∷ [], []) ∷ (nothing, mark, goneseen ∷ [], [], []) ∷ (nothing, nothing, [], [], []) ∷ []
unfolding end_eq put progress.sends progress.reports_to progress.answers_to progress.means progress.keeps actions.forgets actions.leave_each actions.values_leaving actions.matches actions.tells_gone actions.ends_idle
    actions.end_each actions.ends actions.hold_each actions.notice_send actions.notice_receive actions.notices actions.tells_moved actions.resends actions.resends_on_news actions.settle_each actions.tell_arrivals
    actions.learns rows.wants rows.voids rows.want_here rows.unwant_here rows.frees rows.receives rows.pass_each rows.sends_back rows.completes rows.gives_back rows.notices_first rows.end_arrivals rows.erases
    rows.gone_here rows.moved_here rows.moved_mark rows.known_here calls.makes calls.starts_send calls.encloses calls.posts calls.withdraws_send calls.withdraws_receive calls.ends_each kernel.answers_wait
    kernel.join_reports kernel.join_answers kernel.closes kernel.take_step kernel.performs kernel.call_step
dies-leaves = refl
