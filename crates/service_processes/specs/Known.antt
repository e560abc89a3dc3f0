-- What is known of the ends of processes: those that a process owns are among them, and perhaps others.
use Rattle.std.specs.Prelude.{◌≡◌, ℕ, Bool, false, nat_eq, ◌<◌, ◌&&◌, ◌++◌, IsTrue, IsSome, Option}
use Rattle.std.specs.Prelude.{List, [], length, map, option_to_list, slice_index_or, if◌then◌else◌}
use Rattle.std.specs.List.{list_any}
use Rattle.charlotte_calls.specs.declared.names.EndId.{EndId}
use Rattle.charlotte_calls.specs.declared.names.Pid.{Pid}
use Rattle.service_processes.specs.declared.processes.ControlBlock.{ControlBlock}
use Rattle.service_step.specs.Ends.{end_eq}

-- the ends of each process, by its number, and those with an activity
pub record Known : Type 0 where
  pub held : ℕ → EndId → Bool
  pub active : ℕ → EndId → Bool

-- the ends that a process is known to have
abbrev pub held_ends : ControlBlock → List EndId
held_ends x = x.held.keys

-- the ends on which a process is known to have an activity
abbrev pub active_ends : ControlBlock → List EndId
active_ends x = x.active.keys

-- those of a process, by its number
unfoldable pub held_by : List ControlBlock → ℕ → List EndId
held_by xs q = slice_index_or (map held_ends xs) q []

unfoldable pub active_of : List ControlBlock → ℕ → List EndId
active_of xs q = slice_index_or (map active_ends xs) q []

-- what is known
unfoldable pub known_of : List ControlBlock → Known
known_of xs = record { held = λ q e. list_any (end_eq e) (held_by xs q); active = λ q e. list_any (end_eq e) (active_of xs q) }

-- an end is known to be a process's, also with an activity
pub record IsKnown (k : Known) (p : Pid) (e : EndId) : Type 0 where
  pub held : IsTrue (k.held p.0 e)
  pub active : IsTrue (k.active p.0 e)

-- what is known stays known
pub record Grows (old new : Known) : Type 0 where
  pub held : (q : ℕ) (e : EndId) → IsTrue (old.held q e) → IsTrue (new.held q e)
  pub active : (q : ℕ) (e : EndId) → IsTrue (old.active q e) → IsTrue (new.active q e)

-- a function on processes and ends, with this at one of them
abbrev pub without : Pid → EndId → (ℕ → EndId → Bool) → (ℕ → EndId → Bool)
without p e f = λ q g. if nat_eq p.0 q && end_eq e g then false else f q g

-- an end is no more known to be a process's
pub record Forgets (p : Pid) (e : EndId) (old new : Known) : Type 0 where
  pub held : new.held ≡ without p e old.held
  pub active : new.active ≡ without p e old.active

-- an end of p with an activity is lost, the last where there is one, and all else stays
pub record LosesLast (p : Pid) (old new : List ControlBlock) : Type 0 where
  pub held : (known_of new).held ≡ (known_of old).held
  pub others : (q : ℕ) → nat_eq p.0 q ≡ false → active_of new q ≡ active_of old q
  pub gone : Option EndId
  pub active : active_of old p.0 ≡ active_of new p.0 ++ option_to_list gone
  pub some : 0 < length (active_of old p.0) → IsSome gone
