-- What holds where a packet was heard on an end.
use Rattle.std.specs.Prelude.{◌≡◌, ℕ, suc, ◌+◌, ◌≤◌, List, [], ◌∷◌, Some, slice_get, ⊤}
use Rattle.code_shapes.specs.Shapes.{PartTypes}
use Rattle.compiler_runnable.specs.Runnable.{parameters}
use Rattle.lynx_meaning.specs.Needs.{Arguments, Results, types_of}
use Rattle.lynx_packets.specs.declared.value.RtValue.{RtValue}
use Rattle.machine_sound.specs.Sound.{times}
use Rattle.machine_turns.specs.Turns.{Turns}
use Rattle.end_protocol.specs.declared.hearing.Heard.{Heard}
use Rattle.end_protocol.specs.declared.hearing.Heard.TheVariants as heard
use Rattle.end_protocol.specs.declared.kept.Kept.{Kept}
use Rattle.end_protocol.specs.declared.kept.Taker.{Taker}
use Rattle.end_protocol.specs.declared.kept.Taker.TheVariants as takers
use Rattle.process_run.specs.States.{Module}
use Rattle.process_sound.specs.Machine.{asks}
use Rattle.process_sound.specs.Packets.{Unpack}
use Rattle.process_sound.specs.Ends.{AreWaiting, IsKept, waiting}

-- the thread that goes on with a request
abbrev pub taken_by : Taker → List ℕ
taken_by (takers.Thread thread) = thread ∷ []
taken_by (takers.Entry entry) = []

-- the threads that waited at the end, and are still to have their outcome
abbrev pub owed_by : Heard → List ℕ
owed_by (heard.Accepted w) = taken_by w.by
owed_by (heard.Returned thread r) = thread ∷ []
owed_by _ = []

-- a request with these values is for the thread, which accepts such a one, or for an entry, whose parameters they are
abbrev pub IsTakenFor : Module → Turns → Taker → List RtValue → Type 0
IsTakenFor m t (takers.Thread thread) vs =
    (op : ℕ) × (asks thread t ≡ Some (Arguments op)) × Unpack (types_of (λ o. o.arguments) (slice_get m.types.ops op)) vs
IsTakenFor m t (takers.Entry entry) vs = (p : PartTypes) × (slice_get m.parts (suc entry) ≡ Some p) × Unpack (parameters m.types p) vs

-- what was heard fits whom it is for; a reply that is done has the results of the operation that was asked for
abbrev pub IsHeardFor : Module → Turns → Heard → Type 0
IsHeardFor m t (heard.Accepted w) = IsTakenFor m t w.by w.values
IsHeardFor m t (heard.Returned thread r) =
    (op : ℕ) × (asks thread t ≡ Some (Results op)) × (r.status ≡ 0 → Unpack (types_of (λ o. o.results) (slice_get m.types.ops op)) r.values)
IsHeardFor m t _ = ⊤

-- this is kept for the end afterwards, and this was heard
pub record HearsSo (version : ℕ) (m : Module) (t : Turns) (k : Kept) (x : Kept × Heard) : Type 0 where
  pub kept : IsKept version m x.0
  pub waits : AreWaiting m t x.0
  pub fewer : (n : ℕ) → times n (waiting x.0) + times n (owed_by x.1) ≤ times n (waiting k)
  pub fits : IsHeardFor m t x.1
