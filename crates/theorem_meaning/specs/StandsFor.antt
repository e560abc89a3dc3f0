-- When a world of kernels stands for a state of the link service.
use Rattle.std.specs.Prelude.{◌≡◌, ℕ, ◌+◌, ◌<◌, ◌⊎◌, ◌↔◌, Contains, length, None, slice_index}
use Rattle.charlotte_calls.specs.declared.names.EndId.{EndId}
use Rattle.charlotte_calls.specs.declared.names.Pid.{Pid}
use Rattle.end_table.specs.Table.{IsHereAnd}
use Rattle.end_table.specs.declared.entry.Entry.{Entry}
use Rattle.end_table.specs.declared.entry.Entry.TheVariants as entry
use Rattle.end_table.specs.declared.entry.HereView.{HereView}
use Rattle.end_table.specs.declared.entry.Holder.TheVariants as holder
use Rattle.end_table.specs.declared.entry.Inward.{Inward as KernelInward}
use Rattle.end_table.specs.declared.entry.Inward.TheVariants as kernel_inward
use Rattle.end_table.specs.declared.entry.Outward.{Outward as KernelOutward}
use Rattle.end_table.specs.declared.entry.Outward.TheVariants as kernel_outward
use Rattle.kernel_step.specs.Kernel.{Process as KernelProcess}
use Rattle.kernel_step.specs.Rows.{is_here, ends_in}
use Rattle.kernel_step.specs.declared.phase.Phase.{Phase as KernelPhase}
use Rattle.kernel_step.specs.declared.phase.Phase.TheVariants as kernel_phase
use Rattle.kernel_world.specs.World.{World}
use Rattle.service_step.specs.Ends.{is_living}
use Rattle.service_step.specs.State.{State, Process}
use Rattle.service_step.specs.declared.state.End.{End}
use Rattle.service_step.specs.declared.state.Inward.{Inward}
use Rattle.service_step.specs.declared.state.Inward.TheVariants as inward
use Rattle.service_step.specs.declared.state.Outward.{Outward}
use Rattle.service_step.specs.declared.state.Outward.TheVariants as outward
use Rattle.service_step.specs.declared.state.Phase.{Phase}
use Rattle.service_step.specs.declared.state.Phase.TheVariants as phase
use Rattle.service_step.specs.declared.state.Place.TheVariants as place
use Rattle.theorem_meaning.specs.Packets.{Links, links_of, IsUnderWay, IsParcelOf, IsParcelFor, IsBackOf, IsTakenOf}
use Rattle.theorem_meaning.specs.Packets.{IsUnwantedOf, values_of, over_kernels, sum_over, one_if, values_for}

-- the kernel of a process
abbrev pub home_of : State → Pid → ℕ
home_of s p = slice_index s.homes p.0

-- what kernel k keeps of an end
abbrev pub entry_at : Links → ℕ → EndId → Entry
entry_at w k e = w.entry k e

-- ---- 1: processes

-- a process whose Wait or Cancel was answered is running at its kernel, and its answer stands
abbrev pub service_phase : KernelPhase → Phase
service_phase kernel_phase.Running = phase.Running
service_phase kernel_phase.Waiting = phase.Waiting
service_phase (kernel_phase.Cancelling e) = phase.Cancelling e
service_phase kernel_phase.Exited = phase.Ended

-- in a Wait, or in an inward Cancel
abbrev pub IsSuspended : KernelPhase → Type 0
IsSuspended kernel_phase.Running = ⊥
IsSuspended kernel_phase.Waiting = Unit {0}
IsSuspended (kernel_phase.Cancelling e) = Unit {0}
IsSuspended kernel_phase.Exited = ⊥

-- a process is Ended, Waiting or Cancelling exactly where its kernel has it so without a standing answer, and its reports are the same
pub record IsProcessOf (at : KernelProcess) (p : Process) : Type 0 where
  pub phase : p.phase ≡ service_phase at.phase
  pub unanswered : IsSuspended at.phase → at.answer ≡ None
  pub reports : p.reports ≡ at.reports

-- ---- 2: where ends are

-- the Here entries of an end at all kernels, and the values of it in all packets
unfoldable pub standing : Links → EndId → ℕ
standing w e = over_kernels (λ k. one_if (is_here (entry_at w k e))) + sum_over (λ q. values_for e (values_of q)) w

-- ---- 3: who holds them

-- it is here with this process as its owner
abbrev pub IsOwnedHere : Pid → Entry → Type 0
IsOwnedHere p x = IsHereAnd x (λ v. v.holder ≡ holder.Owner p)

-- the send n waits
abbrev pub IsWaitingWith : ℕ → KernelOutward → Type 0
IsWaitingWith n (kernel_outward.Waiting m bytes xs) = m ≡ n
IsWaitingWith n _ = ⊥

-- some kernel has e here, enclosed in the send of f, and there the send n of f waits
pub record IsEnclosed (w : Links) (e f : EndId) (n : ℕ) : Type 0 where
  pub at : ℕ
  pub enclosed : IsHereAnd (entry_at w at e) (λ v. v.holder ≡ holder.EnclosedIn f)
  pub waiting : IsHereAnd (entry_at w at f) (λ v. IsWaitingWith n v.outward)

-- the message n of f carries e: while it waits; in a parcel to the opposite of f; or on its way back
abbrev pub IsInMessage : Links → EndId → EndId → ℕ → Type 0
IsInMessage w e f n =
    IsEnclosed w e f n
    ⊎ IsUnderWay w (λ q. IsParcelOf f n q × Contains (ends_in (values_of q)) e)
    ⊎ IsUnderWay w (λ q. IsBackOf f n q × Contains (ends_in (values_of q)) e)

-- ---- 4: sends

-- the activity outward of e, whose count of sends is n: a kernel's Matched is Taken where a taken for it is under way, else Matched
abbrev pub IsOutwardOf : Links → EndId → ℕ → KernelOutward → Outward → Type 0
IsOutwardOf w e n kernel_outward.Idle outward.Idle = Unit {0}
IsOutwardOf w e n (kernel_outward.Waiting m bytes xs) (outward.Waiting message) =
    (m ≡ n) × (message ≡ record { bytes = bytes; carried = xs })
IsOutwardOf w e n (kernel_outward.Matched m) (outward.Matched message) = (m ≡ n) × (IsUnderWay w (IsTakenOf e m) → ⊥)
IsOutwardOf w e n (kernel_outward.Matched m) outward.Taken = (m ≡ n) × IsUnderWay w (IsTakenOf e m)
IsOutwardOf w e n kernel_outward.Unreported outward.Unreported = Unit {0}
IsOutwardOf w e n _ _ = ⊥

-- ---- 5: receives

-- the receive v of e is Matched where a parcel for it is under way, Withdrawn where an unwanted for it is, else Posted; so never are both
abbrev pub IsAskedOf : Links → EndId → ℕ → Inward → Type 0
IsAskedOf w e v (inward.Matched n) = IsUnderWay w (IsParcelFor e v n) × (IsUnderWay w (IsUnwantedOf e v) → ⊥)
IsAskedOf w e v inward.Withdrawn = ((n : ℕ) → IsUnderWay w (IsParcelFor e v n) → ⊥) × IsUnderWay w (IsUnwantedOf e v)
IsAskedOf w e v inward.Posted = ((n : ℕ) → IsUnderWay w (IsParcelFor e v n) → ⊥) × (IsUnderWay w (IsUnwantedOf e v) → ⊥)
IsAskedOf w e v _ = ⊥

abbrev pub IsInwardOf : Links → EndId → KernelInward → Inward → Type 0
IsInwardOf w e kernel_inward.Idle inward.Idle = Unit {0}
IsInwardOf w e (kernel_inward.Posted v) i = IsAskedOf w e v i
IsInwardOf w e (kernel_inward.Withdrawing v) i = IsAskedOf w e v i
IsInwardOf w e kernel_inward.Unreported inward.Unreported = Unit {0}
IsInwardOf w e _ _ = ⊥

-- what the service says of an end, and what the kernel that has it keeps of it
pub record IsEndOf (w : Links) (e : EndId) (v : HereView) (x : End) : Type 0 where
  pub sent : x.sent ≡ v.value.sent
  pub noticed : x.noticed ≡ v.value.dead
  pub outward : IsOutwardOf w e x.sent v.outward x.outward
  pub inward : IsInwardOf w e v.inward x.inward

-- ---- all of it

-- clauses 2 to 5
pub record AreLinksOf (w : Links) (s : State) : Type 0 where
  -- 2: a living end is at one place, and no other end is anywhere
  pub once : (e : EndId) → standing w e ≡ one_if (is_living (s.ends e).place)
  -- 3: an end is owned where its owner's kernel has it so, and in a message where that carries it
  pub owned : (e : EndId) (p : Pid) → ((s.ends e).place ≡ place.Owned p) ↔ IsOwnedHere p (entry_at w (home_of s p) e)
  pub in_message : (e f : EndId) (n : ℕ) → ((s.ends e).place ≡ place.InMessage f n) ↔ IsInMessage w e f n
  -- 4 and 5: the sends and receives of an owned end
  pub agree : (e : EndId) (p : Pid) (v : HereView) → (s.ends e).place ≡ place.Owned p → entry_at w (home_of s p) e ≡ entry.Here v
      → IsEndOf w e v (s.ends e)

pub record StandsFor (w : World) (s : State) : Type 0 where
  -- 1: each process is where its kernel has it
  pub processes : (p : Pid) → p.0 < length s.homes → IsProcessOf ((w.kernel (home_of s p)).process p.0) (s.process p.0)
  pub links : AreLinksOf (links_of w) s
