-- The sets of ends on which processes have started an activity.
use Rattle.std.specs.Prelude.{◌≡◌, Bool, false, nat_eq, ◌&&◌, List, slice_get, Some, if◌then◌else◌}
use Rattle.std.specs.List.{list_any}
use Rattle.charlotte_calls.specs.declared.names.EndId.{EndId}
use Rattle.charlotte_calls.specs.declared.names.Pid.{Pid}
use Rattle.end_table.specs.Owned.{owned}
use Rattle.end_table.specs.Place.{end_eq}
use Rattle.end_table.specs.declared.entry.Entry.{Entry}
use Rattle.kernel_step.specs.Calls.{is_active}
use Rattle.kernel_process.specs.declared.process.ControlBlock.{ControlBlock}

-- the set of ends of a process, which is to have those with a started activity
abbrev pub started_ends : ControlBlock → List EndId
started_ends x = x.active.keys

-- the set of each process has the ends that it owns with a started activity
abbrev pub Tells : (EndId → Entry) → List ControlBlock → Type 0
Tells t xs =
    (p : Pid) (x : ControlBlock) → slice_get xs p.0 ≡ Some x → (e : EndId) → list_any (end_eq e) x.active.keys ≡ is_active (owned p (t e))

-- the set of p has one end exactly where `started` says so; every other end, and every other set, is as before
abbrev pub Refreshes : Pid → EndId → Bool → List ControlBlock → List ControlBlock → Type 0
Refreshes p end started old new =
    (q : Pid) (x : ControlBlock) → slice_get new q.0 ≡ Some x
    → (y : ControlBlock) × (slice_get old q.0 ≡ Some y)
    × ((e : EndId)
    → list_any (end_eq e) x.active.keys ≡ (if nat_eq p.0 q.0 && end_eq end e then started else list_any (end_eq e) y.active.keys))

-- the set of p has no end; every other set is as before
abbrev pub Empties : Pid → List ControlBlock → List ControlBlock → Type 0
Empties p old new =
    (q : Pid) (x : ControlBlock) → slice_get new q.0 ≡ Some x
    → (y : ControlBlock) × (slice_get old q.0 ≡ Some y)
    × ((e : EndId) → list_any (end_eq e) x.active.keys ≡ (if nat_eq p.0 q.0 then false else list_any (end_eq e) y.active.keys))
