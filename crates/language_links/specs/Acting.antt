-- Which deeds the processes of a run do, and when: each process replays its program on the entries of its kernel, and a deed of it stands just before
-- its next call, or at the end if none follows.
use Rattle.std.specs.Prelude.{◌≡◌, ℕ, ◌+◌, nat_eq, if◌then◌else◌, List, [], ◌∷◌, ◌++◌, map, Option, None, Some}
use Rattle.std.specs.List.{flat_map}
use Rattle.charlotte_calls.specs.declared.calls.Answer.{Answer}
use Rattle.charlotte_calls.specs.declared.calls.Call.{Call}
use Rattle.charlotte_calls.specs.declared.names.EndId.{EndId}
use Rattle.charlotte_calls.specs.declared.names.Pid.{Pid}
use Rattle.charlotte_calls.specs.declared.program.Next.TheVariants as next
use Rattle.kernel_entries.specs.declared.entry.Placed.{Placed}
use Rattle.program_runs.specs.Told.{call_of}
use Rattle.program_runs.specs.Replay.{IsGiven, IsNoCall, Replayed, replay_start, with_entry, with_step}
use Rattle.process_run.specs.States.{DeedOn, Module, State, start_of}
use Rattle.process_run.specs.Runs.{deeds, step}
use Rattle.end_protocol.specs.Deeds.{Deed}

-- ---- processes along the entries

-- how far the replay of a process has come, and its deeds since its last call
pub record Acting : Type 0 where
  pub replayed : Replayed State
  pub since : List DeedOn

-- a deed of a process, with how many entries stand before it
pub record Done : Type 0 where
  pub by : Pid
  pub on : EndId
  pub deed : Deed
  pub after : ℕ

abbrev pub done_by : Pid → ℕ → List DeedOn → List Done
done_by p n ds = map (λ d. record { by = p; on = d.on; deed = d.deed; after = n }) ds

-- all processes, by their numbers
abbrev pub Fleet : Type 0
Fleet = ℕ → Acting

-- one process is so, and all others are as they were
abbrev pub with_acting : Pid → Acting → Fleet → Fleet
with_acting p x f = λ i. if nat_eq p.0 i then x else f i

-- it makes a step that asks no call, and is given this
abbrev pub paused : Option Answer → Acting → Acting
paused given x =
    record { replayed = with_step step given x.replayed; since = x.since ++ deeds x.replayed.state given }

-- it makes a step that asks the call of an entry: its deeds stand before that
abbrev pub called : Option Answer → Acting → Acting
called given x = record { replayed = with_step step given x.replayed; since = [] }

abbrev pub deeds_before : Option Answer → Acting → List DeedOn
deeds_before given x = x.since ++ deeds x.replayed.state given

-- the processes of the entry's kernel hear what it tells of them
abbrev pub hears_entry : (ℕ → ℕ) → Placed → Fleet → Fleet
hears_entry home e f =
    λ i. if nat_eq (home i) e.kernel then record (f i) { replayed = with_entry (record { 0 = i }) e.entry (f i).replayed } else f i

-- the step is one that may be made, and it asks this call
pub record IsAsking (x : Acting) (given : Option Answer) (c : Call) : Type 0 where
  pub is_given : IsGiven x.replayed.last x.replayed.heard given
  pub asks : (step x.replayed.state given).0 ≡ next.Ask c

pub record IsPausing (x : Acting) (given : Option Answer) : Type 0 where
  pub is_given : IsGiven x.replayed.last x.replayed.heard given
  pub no_call : IsNoCall (step x.replayed.state given).0

-- Over these entries, of which so many stand before the first, the processes go from one state to another, and these are their deeds.
-- Each process is at the kernel of this number
pub data Acts (home : ℕ → ℕ) : ℕ → Fleet → List Placed → List Done → Fleet → Type 0 where
  Rests : (n : ℕ) (f : Fleet) → Acts home n f [] [] f
  -- a step without a call, at any time
  Pauses : (n : ℕ) (f : Fleet) (p : Pid) (given : Option Answer) (es : List Placed) (ds : List Done) (g : Fleet)
      → IsPausing (f p.0) given → Acts home n (with_acting p (paused given (f p.0)) f) es ds g → Acts home n f es ds g
  -- an entry with a call of p, which its step asks
  Calls : (n : ℕ) (f : Fleet) (p : Pid) (given : Option Answer) (c : Call) (e : Placed) (es : List Placed) (ds : List Done) (g : Fleet)
      → e.kernel ≡ home p.0 → call_of p e.entry.what ≡ Some c → IsAsking (f p.0) given c
      → Acts home (n + 1) (hears_entry home e (with_acting p (called given (f p.0)) f)) es ds g
      → Acts home n f (e ∷ es) (done_by p n (deeds_before given (f p.0)) ++ ds) g
  -- an entry without a call
  Takes : (n : ℕ) (f : Fleet) (e : Placed) (es : List Placed) (ds : List Done) (g : Fleet)
      → ((p : Pid) → call_of p e.entry.what ≡ None) → Acts home (n + 1) (hears_entry home e f) es ds g
      → Acts home n f (e ∷ es) ds g

-- what stands at the end, after so many entries: the deeds of these processes that no call followed
abbrev pub at_end : ℕ → Fleet → List Pid → List Done
at_end n f ps = flat_map (λ p. done_by p n (f p.0).since) ps

-- ---- of a run

-- what the process of a number begins with: its module, and its ends
pub record Program : Type 0 where
  pub code : Module
  pub ends : List EndId

abbrev pub at_start : ℕ → (ℕ → Program) → Fleet
at_start version programs =
    λ i. record { replayed = replay_start (start_of version (programs i).code (programs i).ends); since = [] }
