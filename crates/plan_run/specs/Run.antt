-- What a run of the programs of a setting leaves: its transcript, and how it ended.
use Rattle.std.specs.Prelude.{◌≡◌, ◌⊎◌, ℕ, ◌+◌, ◌*◌, ◌<◌, ◌≤◌, List, [], Some, length, slice_get}
use Rattle.std.specs.List.{concat, sum_by}
use Rattle.charlotte_calls.specs.declared.calls.Call.{Call}
use Rattle.charlotte_calls.specs.declared.names.Pid.{Pid}
use Rattle.charlotte_calls.specs.declared.program.Next.TheVariants as next
use Rattle.charlotte_calls.specs.declared.setting.Setting.{Setting}
use Rattle.kernel_entries.specs.Order.{of_kernel}
use Rattle.kernel_entries.specs.declared.entry.Entry.{Entry}
use Rattle.kernel_entries.specs.declared.entry.Happened.{Happened}
use Rattle.kernel_entries.specs.declared.entry.Happened.TheVariants.{Asked, Took}
use Rattle.kernel_entries.specs.declared.entry.Placed.{Placed}
use Rattle.kernel_step.specs.Start.{home}
use Rattle.kernel_worker.specs.Letters.{Told}
use Rattle.kernel_worker.specs.Nodes.{Meaning}
use Rattle.kernel_worker.specs.declared.standing.End.{End}
use Rattle.kernel_worker.specs.declared.standing.End.TheVariants as end
use Rattle.kernel_worker.specs.Local.{IsOneRun, LocalEvent}
use Rattle.kernel_worker.specs.Net.{pictures}
use Rattle.node_start.specs.Homes.{programs_on}
use Rattle.kernel_worker.specs.Replay.{Replayed, ReplaysProgram}
use Rattle.trace_law.specs.Record.{IsLawfulRecord}
use Rattle.kernel_worker.specs.Told.{Pending}
use Rattle.trace_law.specs.Law.{IsBareRecord}
use Rattle.transcript_lines.specs.Transcript.{transcript_lines}
use Rattle.transcript_lines.specs.TranscriptText.{IsTranscript}
use Rattle.transcript_lines.specs.declared.last.Last.{Last}
use Rattle.transcript_lines.specs.declared.last.Last.TheVariants as last
use Rattle.plan_run.specs.declared.run.Ran.{Ran}

-- the last line of a run that ended so
abbrev pub last_of : End → Last
last_of end.Quiet = last.Quiet
last_of (end.Spent k) = last.Spent k

-- the process of this number
abbrev pub process : ℕ → Pid
process i = record { 0 = i }

-- 1 for a packet that was taken
abbrev pub taking : Happened → ℕ
taking (Asked p c) = 0
taking (Took from q) = 1

-- how many packets were taken in these entries
abbrev pub takings_in : List Entry → ℕ
takings_in es = sum_by (λ e. taking e.what) es

-- behind its replay a program has ended, or its call waits for an answer
abbrev pub IsOver : {S : Type 0} → Replayed S → Type 0
IsOver x = (x.last ≡ Some next.Ended) ⊎ ((c : Call) × (x.last ≡ Some (next.Ask c)) × (x.heard ≡ Pending c))

module _ {P S : Type 0} (m : Meaning P S) (s : Setting) (programs : List P) where
  -- the programs of the processes, as they were given, replay these entries, each those of its kernel
  pub record AreReplayed (merged : List Placed) : Type 0 where
    -- how many steps each made, by the number of its process
    pub steps : ℕ → ℕ
    pub replays : (i : ℕ) (was : P) → slice_get programs i ≡ Some was
        → (state : S) × ReplaysProgram m.step (m.state was) (process i) (of_kernel (home s (process i)) merged) state (steps i)

  module _ (merged : List Placed) (are : AreReplayed merged) where
    -- the turns that a kernel used: the packets that it took, and the steps of its programs
    abbrev pub turns_of : ℕ → ℕ
    turns_of k = takings_in (of_kernel k merged) + sum_by (λ x. are.steps x.0.0) (programs_on s programs k)

    module _ (left : ℕ → ℕ → List Told) where
      -- no letter is under way, and each program has ended or waits
      pub record IsQuiet : Type 0 where
        pub letters : (j k : ℕ) → left j k ≡ []
        pub over : (i : ℕ) (was : P) (at : slice_get programs i ≡ Some was) → IsOver (are.replays i was at).1.at

      -- it is not quiet, and of the kernels that used so many turns this is the least
      pub record IsSpent (turns k : ℕ) : Type 0 where
        pub there : k < s.kernels
        pub not_quiet : IsQuiet → ⊥
        pub used : turns_of k ≡ turns
        pub least : (j : ℕ) → j < k → turns_of j ≡ turns → ⊥

      abbrev pub EndsSo : ℕ → End → Type 0
      EndsSo turns end.Quiet = IsQuiet
      EndsSo turns (end.Spent k) = IsSpent turns k

  -- The programs were run, with so many turns for each kernel: these are the lines of the transcript, and so it ended
  pub record IsRunOf (turns : ℕ) (ran : Ran) : Type 0 where
    -- the entries in the order of the transcript
    pub merged : List Placed
    -- the events of each kernel
    pub made : ℕ → List LocalEvent
    -- the letters from one kernel to another that are under way at the end: packets, and markers of a snapshot
    pub left : ℕ → ℕ → List Told
    -- the entries are those of one run of the world, which leaves these packets under way
    pub one : IsOneRun s made (λ j k. pictures (left j k)) merged
    -- each entry used a turn of its kernel
    pub few : length merged ≤ s.kernels * turns
    -- what they show is one lawful run of the link service, and after each of them the kernels stand for the state of the service
    pub lawful : IsLawfulRecord s merged
    -- where no packet is under way at the end, no kernel keeps a trace of a link that moved on
    pub bare : IsBareRecord s merged
    -- the lines are those of the transcript of these entries, whose last line tells how it ended
    pub told : IsTranscript (concat ran.lines) s merged [] (last_of ran.end)
    pub line_by_line : ran.lines ≡ transcript_lines s merged [] (last_of ran.end)
    -- each call in them is the one that its process's program asked, which was given what they tell
    pub replayed : AreReplayed merged
    -- it is quiet, or the turns of the kernel that is named are used up
    pub ends : EndsSo merged replayed left turns ran.end
