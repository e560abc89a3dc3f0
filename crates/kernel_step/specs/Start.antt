-- The kernels with which a run of a setting starts.
use Rattle.std.specs.Prelude.{ℕ, ◌+◌, nat_eq, [], if◌then◌else◌, None, slice_index}
use Rattle.std.specs.List.{fold}
use Rattle.charlotte_calls.specs.Names.{opposite}
use Rattle.charlotte_packets.specs.Moving.{new_end}
use Rattle.charlotte_calls.specs.declared.names.EndId.{EndId}
use Rattle.charlotte_calls.specs.declared.names.Pid.{Pid}
use Rattle.charlotte_calls.specs.declared.setting.Setting.{Setting}
use Rattle.end_table.specs.Entries.{settled}
use Rattle.end_table.specs.declared.entry.Entry.{Entry}
use Rattle.end_table.specs.declared.entry.Entry.TheVariants as entry
use Rattle.end_table.specs.declared.entry.Holder.TheVariants as holder
use Rattle.end_table.specs.Place.{put}
use Rattle.kernel_step.specs.Calls.{made_end}
use Rattle.kernel_step.specs.Kernel.{Kernel}
use Rattle.kernel_step.specs.declared.phase.Phase.TheVariants.{Running}

-- the kernel of a process
abbrev pub home : Setting → Pid → ℕ
home s p = slice_index s.homes p.0

-- the links wired so far, at all kernels
pub record Wired : Type 0 where
  -- how many each kernel has made
  pub made : ℕ → ℕ
  -- what each keeps of each end
  pub table : ℕ → EndId → Entry

abbrev pub nothing_wired : Wired
nothing_wired = record { made = λ _. 0; table = λ _ _. entry.Nothing }

-- an end that a process owns from the start, whose opposite is at a kernel
abbrev pub owned_from_start : Pid → EndId → ℕ → Entry
owned_from_start p e opposite_at = entry.Here (settled (holder.Owner p) (new_end e opposite_at))

-- the entry of an end is kept at one kernel
abbrev pub keeps_at : ℕ → EndId → Entry → (ℕ → EndId → Entry) → (ℕ → EndId → Entry)
keeps_at k e x tables q = if nat_eq q k then put (tables q) e x else tables q

-- a wire: the kernel of the first process makes a link, whose end a is the first process's and whose end b is the second's
abbrev pub wires_one : Setting → Wired → Pid × Pid → Wired
wires_one s so_far wire =
    let maker = home s wire.0 in
    let a = made_end maker (so_far.made maker) in
    let with_a = keeps_at maker a (owned_from_start wire.0 a (home s wire.1)) so_far.table in
    record {
      made = λ q. if nat_eq q maker then so_far.made q + 1 else so_far.made q;
      table = keeps_at (home s wire.1) (opposite a) (owned_from_start wire.1 (opposite a) maker) with_a;
    }

abbrev pub wired : Setting → Wired
wired s = fold (wires_one s) nothing_wired s.wires

-- kernel k of a setting, before any event
abbrev pub start_kernel : Setting → ℕ → Kernel
start_kernel s k =
    record {
      number = k;
      kernels = s.kernels;
      version = s.version;
      table = (wired s).table k;
      process = λ _. record { phase = Running; reports = []; answer = None };
      made = (wired s).made k;
      stamp = 0;
    }
