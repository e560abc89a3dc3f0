-- A command whose file is there and obeys its rules, with no fault outside, ends with the whole text, or for want of memory.
use Rattle.std.proofs.Common.{◌≡◌, inl, inr, ◌⊎◌, ℕ, ◌<◌, ◌≤◌, List, [], ◌∷◌, ◌++◌, length, map, Option, Some, None, Result, Ok, Err, IfSome, IsSomeAnd, All, refl, ap, subst, ◌∙◌, arith}
use Rattle.std.specs.Prelude.{◌≢◌}
use Rattle.std.proofs.lemmas.List.Elements.{All-head}
use Rattle.command_words.specs.declared.words.Command.{Command}
use Rattle.command_words.specs.declared.words.Command.TheVariants.{Drive, Check, Code, Run, Bench, Audit, Snapshot}
use Rattle.compiler_source.proofs.Stages.{one_compilation}
use Rattle.compiler_source.specs.Compiled.{IsCompiledAs}
use Rattle.lynx_command.specs.Course.{Course, IsOfFile, Outside, Took}
use Rattle.lynx_command.specs.Ending.{Ends, EndsSo, EndsText, Tells}
use Rattle.lynx_command.specs.Failures.{failure_text, status_of}
use Rattle.lynx_command.specs.Found.{Found, OutputLines, FindsAt, FindsIn, read}
use Rattle.lynx_command.specs.declared.ending.End.{End}
use Rattle.lynx_command.specs.declared.ending.End.TheVariants.{Done}
use Rattle.lynx_command.specs.declared.failure.Failure.{Failure}
use Rattle.lynx_command.specs.declared.failure.Failure.TheVariants as failure
use Rattle.lynx_load.specs.Loading.{Loading, Unloaded}
use Rattle.lynx_outside.specs.Faults.{last_count, next_count}
use Rattle.lynx_outside.specs.Files.{IsAnswer, Listing, Reads, bytes_of, counted_reads}
use Rattle.lynx_outside.specs.Logged.{Put}
use Rattle.lynx_outside.specs.Sink.{Stream, WerePut, counted_puts, failed, taken}
use Rattle.lynx_outside.specs.declared.files.FileAnswer.{FileAnswer}
use Rattle.lynx_outside.specs.declared.files.FileAnswer.TheVariants as answer
use Rattle.lynx_outside.specs.declared.status.Status.{Status}
use Rattle.lynx_outside.specs.declared.status.Status.TheVariants as status
use Rattle.lynx_plan.specs.Reading.{script_of}
use Rattle.lynx_plan.specs.declared.fault.PlanFault.{PlanFault}
use Rattle.lynx_plan.specs.declared.fault.PlanFault.TheVariants as plan
use Rattle.lynx_plan.specs.declared.script.Script.{Script}
use Rattle.lynx_run.specs.Audit.{Audits}
use Rattle.lynx_run.specs.Bench.{Benches, FindsSummary}
use Rattle.lynx_run.specs.Commands.{Answers, Finds, Performs, file_of}
use Rattle.lynx_run.specs.Complete.{AreObeyed, DoesRun, HasFileOf, HasNoFault, IsComplete, IsCompleteBench, IsCompleteRun, IsObeyed, Obeys, StaysBelow}
use Rattle.lynx_run.specs.Drive.{Drives}
use Rattle.lynx_run.specs.Run.{FindsRun, RunsLoaded, RunsPlan}
use Rattle.lynx_command.specs.Failing.{FailsAs}
use Rattle.lynx_source.proofs.Readings.{one_check}
use Rattle.lynx_source.specs.Sources.{IsCheckedAs}
use Rattle.lynx_source.specs.declared.fault.SourceFault.{SourceFault}
use Rattle.lynx_source.specs.declared.fault.SourceFault.TheVariants as source
use Rattle.lynx_tree.specs.Trees.{ModuleTree}
use Rattle.transcript_audit.proofs.Once.{not-both}
use Rattle.transcript_audit.specs.Audit.{IsAudited}
use Rattle.transcript_lines.specs.declared.last.Last.{Last}

-- ---- no count rose, so no call failed

rose : (old new : ℕ) → StaysBelow old new → new ≡ next_count old → ⊥
rose old new stays is = let same : new ≡ old = stays.same in let below : old < last_count = stays.below in absurd (omega arith)

last-failed : (n : ℕ) (lines : List (List ℕ)) (line : List ℕ) → counted_puts n (map taken lines ++ failed line ∷ []) ≡ next_count n
last-failed n [] line = refl
last-failed n (l ∷ ls) line = last-failed n ls line

no-failed : (old new : Stream) (puts : List Put) (lines : List (List ℕ)) (line : List ℕ) → StaysBelow old.faults new.faults → WerePut old new puts → puts ≡ map taken lines ++ failed line ∷ [] → ⊥
no-failed old new puts lines line stays were is = rose old.faults new.faults stays (were.counted ∙ ap (counted_puts old.faults) is ∙ last-failed old.faults lines line)

-- ---- how it ends

-- want of memory is told as such
told-memory : (name : List ℕ) (old new : Stream) (ended : Status) (errs : List Put) → StaysBelow old.faults new.faults → WerePut old new errs → Tells name failure.NoMemory ended errs → ended ≡ status.NoMemory
told-memory name old new ended errs stays were (inl (inl told)) = told.0
told-memory name old new ended errs stays were (inl (inr fails)) = absurd (no-failed old new errs [] _ stays were fails.1)
told-memory name old new ended errs stays were (inr (inl told)) = told.0
told-memory name old new ended errs stays were (inr (inr fails)) = absurd (no-failed old new errs [] _ stays were fails.1)

-- a text is put whole, or memory ran out
put-whole : (old new : Outside) (name : List ℕ) (output : OutputLines) (ended : Status) (outs errs : List Put) → HasNoFault old new → WerePut old.out new.out outs → WerePut old.err new.err errs
    → EndsText name output ended outs errs → ((outs ≡ map taken output.lines) × EndsSo output.end name ended errs) ⊎ (ended ≡ status.NoMemory)
put-whole old new name output ended outs errs none out err (inl whole) = inl whole
put-whole old new name output ended outs errs none out err (inr (inl stops)) = absurd (no-failed old.out new.out outs stops.1.before stops.1.line none.out out stops.1.puts_are)
put-whole old new name output ended outs errs none out err (inr (inr short)) = inr (told-memory name old.err new.err ended errs none.err err short.1)

text-ends : (old new : Outside) (name : List ℕ) (output : OutputLines) (ended : Status) (outs errs : List Put) → HasNoFault old new → WerePut old.out new.out outs → WerePut old.err new.err errs → output.end ≡ Done
    → EndsText name output ended outs errs → ((ended ≡ status.Done) × (outs ≡ map taken output.lines) × (errs ≡ [])) ⊎ (ended ≡ status.NoMemory)
text-ends old new name output ended outs errs none out err is ends =
    elim (put-whole old new name output ended outs errs none out err ends) [
      | inl whole ↦ let so : EndsSo Done name ended errs = subst (λ (end : End). EndsSo end name ended errs) is whole.1 in inl (so.0, whole.0, so.1)
      | inr short ↦ inr short
    ]

-- a failure is told by its line, or memory ran out
told-line : (name : List ℕ) (f : Failure) (old new : Stream) (ended : Status) (errs : List Put) → StaysBelow old.faults new.faults → WerePut old new errs → Tells name f ended errs
    → ((ended ≡ status_of f) × (errs ≡ taken (failure_text name f) ∷ [])) ⊎ (ended ≡ status.NoMemory)
told-line name f old new ended errs stays were (inl (inl told)) = inl told
told-line name f old new ended errs stays were (inl (inr fails)) = absurd (no-failed old new errs [] _ stays were fails.1)
told-line name f old new ended errs stays were (inr (inl told)) = inr told.0
told-line name f old new ended errs stays were (inr (inr fails)) = absurd (no-failed old new errs [] _ stays were fails.1)

-- ---- what obeys the rules has no failure but want of memory

abbrev given : ModuleTree → Result ModuleTree SourceFault
given m = Ok m

abbrev failing : SourceFault → Result ModuleTree SourceFault
failing fault = Err fault

ok-err : (m : ModuleTree) (fault : SourceFault) → given m ≡ failing fault → ⊥
ok-err m fault e = cc

no-script : (script : Script) (n r : ℕ) (read : Result Script PlanFault) → read ≡ Ok script → read ≡ Err (plan.BadPlan n r) → ⊥
no-script script n r read a b = cc

driven-only : (bytes : List ℕ) (script : Script) → script_of bytes ≡ Ok script → (f : Failure) → Drives bytes (Err f) → f ≡ failure.NoMemory
driven-only bytes script read failure.Usage is = absurd is
driven-only bytes script read failure.ReadFault is = absurd is
driven-only bytes script read failure.Absent is = absurd is
driven-only bytes script read failure.TooBig is = absurd is
driven-only bytes script read (failure.Lex at n) is = absurd is
driven-only bytes script read (failure.Syntax at) is = absurd is
driven-only bytes script read (failure.Deep at) is = absurd is
driven-only bytes script read (failure.Rule at n) is = absurd is
driven-only bytes script read failure.CodeTooLong is = absurd is
driven-only bytes script read (failure.Plan n r) is = absurd is
driven-only bytes script read (failure.Script n r) is = absurd (no-script script n r (script_of bytes) read is)
driven-only bytes script read (failure.NoTranscript n) is = absurd is
driven-only bytes script read failure.Unbuilt is = absurd is
driven-only bytes script read failure.NoMemory is = refl

-- of a relation that has a tree as the one outcome
source-only : (Is : Result ModuleTree SourceFault → Type 0) → ((fault : SourceFault) → fault ≢ source.NoMemory → Is (Err fault) → ⊥) → (f : Failure) → FailsAs Is f → f ≡ failure.NoMemory
source-only Is none failure.Usage is = absurd is
source-only Is none failure.ReadFault is = absurd is
source-only Is none failure.Absent is = absurd is
source-only Is none failure.TooBig is = absurd is
source-only Is none (failure.Lex at n) is = absurd (none (source.Lex at n) (λ e. absurd cc) is)
source-only Is none (failure.Syntax at) is = absurd (none (source.Syntax at) (λ e. absurd cc) is)
source-only Is none (failure.Deep at) is = absurd (none (source.Deep at) (λ e. absurd cc) is)
source-only Is none (failure.Rule at n) is = absurd (none (source.Rule at n) (λ e. absurd cc) is)
source-only Is none failure.CodeTooLong is = absurd (none source.CodeTooLong (λ e. absurd cc) is)
source-only Is none (failure.Plan n r) is = absurd is
source-only Is none (failure.Script n r) is = absurd is
source-only Is none (failure.NoTranscript n) is = absurd is
source-only Is none failure.Unbuilt is = absurd is
source-only Is none failure.NoMemory is = refl

audited-only : (bytes : List ℕ) (last : Last) → IsAudited bytes last → (f : Failure) → Audits bytes (Err f) → f ≡ failure.NoMemory
audited-only bytes last audited failure.Usage is = absurd is
audited-only bytes last audited failure.ReadFault is = absurd is
audited-only bytes last audited failure.Absent is = absurd is
audited-only bytes last audited failure.TooBig is = absurd is
audited-only bytes last audited (failure.Lex at n) is = absurd is
audited-only bytes last audited (failure.Syntax at) is = absurd is
audited-only bytes last audited (failure.Deep at) is = absurd is
audited-only bytes last audited (failure.Rule at n) is = absurd is
audited-only bytes last audited failure.CodeTooLong is = absurd is
audited-only bytes last audited (failure.Plan n r) is = absurd is
audited-only bytes last audited (failure.Script n r) is = absurd is
audited-only bytes last audited (failure.NoTranscript n) is = absurd (not-both bytes last n audited is)
audited-only bytes last audited failure.Unbuilt is = absurd is
audited-only bytes last audited failure.NoMemory is = refl

some-fault : (fault : SourceFault) → fault ≢ source.NoMemory → failing fault ≢ failing source.NoMemory
some-fault fault other e = other cc

some-tree : (m : ModuleTree) → given m ≢ failing source.NoMemory
some-tree m e = cc

pub only-memory : (command : Command) (bytes : List ℕ) → Obeys command bytes → (f : Failure) → Finds command bytes (Err f) → f ≡ failure.NoMemory
only-memory (Drive file) bytes obeys = driven-only bytes obeys.0 obeys.1
only-memory (Check file) bytes obeys =
    source-only (IsCheckedAs bytes) (λ fault other is. ok-err obeys.0 fault (one_check bytes (Ok obeys.0) (Err fault) obeys.1 (some-tree obeys.0) is (some-fault fault other)))
only-memory (Code file) bytes obeys =
    source-only (IsCompiledAs bytes) (λ fault other is. ok-err obeys.0 fault (one_compilation bytes (Ok obeys.0) (Err fault) obeys.1 (some-tree obeys.0) is (some-fault fault other)))
only-memory (Audit file) bytes obeys = audited-only bytes obeys.0 obeys.1
only-memory (Run file serial turns) bytes obeys = absurd obeys
only-memory (Bench seed) bytes obeys = absurd obeys
only-memory (Snapshot file at serial) bytes obeys = absurd obeys

ends-done : (command : Command) (bytes : List ℕ) → Obeys command bytes → (output : OutputLines) → Finds command bytes (Ok output) → output.end ≡ Done
ends-done (Drive file) bytes obeys output is = is.1
ends-done (Check file) bytes obeys output is = is.3
ends-done (Code file) bytes obeys output is = is.3
ends-done (Audit file) bytes obeys output is = is.3
ends-done (Run file serial turns) bytes obeys output is = absurd obeys
ends-done (Bench seed) bytes obeys output is = absurd obeys
ends-done (Snapshot file at serial) bytes obeys output is = absurd obeys

-- ---- one read, and what was found

-- what an answer of the read leads to
answered : (command : Command) (name : List ℕ) (most : ℕ) (course : Course) (ended : Status) (old new : Outside) → file_of command ≡ Some (name, most) → Took course ended old new → HasNoFault old new
    → (answer : Result (List ℕ) FileAnswer) → course.reads ≡ read name most answer ∷ [] → FindsIn (Finds command) answer course.found → IsObeyed command answer → IsComplete command course ended
answered command name most course ended old new file took none (Ok bytes) reads finds obeys = by course.found refl finds
  where
    by : (found : Found) → course.found ≡ found → Finds command bytes found → IsComplete command course ended
    by (Ok output) e is =
        elim (text-ends old new course.name output ended course.outs course.errs none took.outs took.errs (ends-done command bytes obeys output is) (subst (λ f. Ends course.name f ended course.outs course.errs) e took.ends)) [
          | inl whole ↦ inl (whole.0, record { name = name; most = most; file = file; bytes = bytes; reads = reads; output = output; finds = is; outs = whole.1; errs = whole.2 })
          | inr short ↦ inr short
        ]
    by (Err f) e is =
        let told : Ends course.name (Err failure.NoMemory) ended course.outs course.errs = subst (λ found. Ends course.name found ended course.outs course.errs) (e ∙ ap Err (only-memory command bytes obeys f is)) took.ends in
        inr (told-memory course.name old.err new.err ended course.errs none.err took.errs told.1)
answered command name most course ended old new file took none (Err answer.Absent) reads finds obeys = absurd obeys
answered command name most course ended old new file took none (Err answer.TooBig) reads finds obeys = absurd obeys
answered command name most course ended old new file took none (Err answer.Failed) reads finds obeys =
    absurd (rose old.files.faults new.files.faults none.files (took.reads.counted ∙ ap (counted_reads old.files.faults) reads))
answered command name most course ended old new file took none (Err answer.NoMemory) reads finds obeys =
    let told : Ends course.name (Err failure.NoMemory) ended course.outs course.errs = subst (λ found. Ends course.name found ended course.outs course.errs) finds took.ends in
    inr (told-memory course.name old.err new.err ended course.errs none.err took.errs told.1)

-- the one read of a command that reads one file
performed : (command : Command) (name : List ℕ) (most : ℕ) (course : Course) → file_of command ≡ Some (name, most) → Performs command (file_of command) course → FindsAt (Finds command) most name course.reads course.found
performed command name most course file answers =
    let performs : IsOfFile (Finds command) most name course = subst (λ (of : Option (List ℕ × ℕ)). Performs command of course) file answers in
    performs.finds

reads-file : (command : Command) (name : List ℕ) (most : ℕ) (course : Course) → file_of command ≡ Some (name, most) → Answers (Some command) course → FindsAt (Finds command) most name course.reads course.found
reads-file (Drive f) name most course file answers = performed (Drive f) name most course file answers
reads-file (Check f) name most course file answers = performed (Check f) name most course file answers
reads-file (Code f) name most course file answers = performed (Code f) name most course file answers
reads-file (Audit f) name most course file answers = performed (Audit f) name most course file answers
reads-file (Run plan serial turns) name most course file answers = absurd cc
reads-file (Bench seed) name most course file answers = absurd cc
reads-file (Snapshot plan at serial) name most course file answers = absurd cc

pub complete : (command : Command) (name : List ℕ) (most : ℕ) (course : Course) (ended : Status) (old new : Outside) → file_of command ≡ Some (name, most) → Answers (Some command) course
    → Took course ended old new → HasNoFault old new → AreObeyed command course.reads → IsComplete command course ended
complete command name most course ended old new file answers took none obeyed =
    let finds = reads-file command name most course file answers in
    answered command name most course ended old new file took none finds.0 finds.1 finds.2 (obeyed (read name most finds.0) finds.1)

-- ---- files that are told

told-read : (command : Command) (files : Listing) (has : HasFileOf command files) (answer : Result (List ℕ) FileAnswer) → IsAnswer (bytes_of files has.name) has.most answer → IsObeyed command answer
told-read command files has (Ok bytes) is = subst (Obeys command) (same-bytes (bytes_of files has.name) has.bytes bytes has.there is) has.obeys
  where
    same-bytes : (held : Option (List ℕ)) (xs ys : List ℕ) → held ≡ Some xs → held ≡ Some ys → xs ≡ ys
    same-bytes held xs ys a b = cc
told-read command files has (Err answer.Absent) is = absurd (not-there (bytes_of files has.name) has.bytes has.there is)
  where
    not-there : (held : Option (List ℕ)) (xs : List ℕ) → held ≡ Some xs → held ≡ None → ⊥
    not-there held xs a b = cc
told-read command files has (Err answer.TooBig) is =
    let more : has.most < length has.bytes = subst (λ (held : Option (List ℕ)). IsSomeAnd held (λ bytes. has.most < length bytes)) has.there is in
    let le : length has.bytes ≤ has.most = has.within in
    absurd (omega arith)
told-read command files has (Err answer.Failed) is = tt
told-read command files has (Err answer.NoMemory) is = tt

pub told-complete : (command : Command) (course : Course) (ended : Status) (old new : Outside) (files : Listing) → old.files.contents ≡ Some files → HasFileOf command files → Answers (Some command) course
    → Took course ended old new → HasNoFault old new → IsComplete command course ended
told-complete command course ended old new files told has answers took none =
    let finds = reads-file command has.name has.most course has.file answers in
    let all : All (Reads files) course.reads = subst (λ (held : Option Listing). IfSome held (λ fs. All (Reads fs) course.reads)) told took.reads.told in
    let one : Reads files (read has.name has.most finds.0) = All-head (Reads files) _ [] (subst (All (Reads files)) finds.1 all) in
    answered command has.name has.most course ended old new has.file took none finds.0 finds.1 finds.2 (told-read command files has finds.0 one)

-- ---- a seed

bench-whole : (seed : ℕ) (course : Course) (ended : Status) (old new : Outside) → Took course ended old new → HasNoFault old new → (found : Found) → course.found ≡ found → FindsSummary seed found → IsCompleteBench seed course ended
bench-whole seed course ended old new took none (Ok output) e is =
    elim (text-ends old new course.name output ended course.outs course.errs none took.outs took.errs is.1 (subst (λ f. Ends course.name f ended course.outs course.errs) e took.ends)) [
      | inl whole ↦ inl (output.lines, is.0, whole.1, whole.2, whole.0)
      | inr short ↦ inr short
    ]
bench-whole seed course ended old new took none (Err f) e is =
    let told : Ends course.name (Err failure.NoMemory) ended course.outs course.errs = subst (λ found. Ends course.name found ended course.outs course.errs) (e ∙ ap Err is) took.ends in
    inr (told-memory course.name old.err new.err ended course.errs none.err took.errs told.1)

pub bench-complete : (seed : ℕ) (course : Course) (ended : Status) (old new : Outside) → Benches seed course → Took course ended old new → HasNoFault old new → IsCompleteBench seed course ended
bench-complete seed course ended old new benches took none = bench-whole seed course ended old new took none course.found refl benches.finds

-- ---- a plan

-- the programs of a plan were run
ran-whole : (x : Loading) (turns : ℕ) (course : Course) (ended : Status) (old new : Outside) → Took course ended old new → HasNoFault old new → (found : Found) → course.found ≡ found → FindsRun x turns found
    → DoesRun turns (Ok x) course ended ⊎ (ended ≡ status.NoMemory)
ran-whole x turns course ended old new took none (Ok output) e is =
    elim (put-whole old new course.name output ended course.outs course.errs none took.outs took.errs (subst (λ f. Ends course.name f ended course.outs course.errs) e took.ends)) [
      | inl whole ↦ inl (output, is, whole.0, whole.1)
      | inr short ↦ inr short
    ]
ran-whole x turns course ended old new took none (Err f) e is =
    let told : Ends course.name (Err failure.NoMemory) ended course.outs course.errs = subst (λ found. Ends course.name found ended course.outs course.errs) (e ∙ ap Err is) took.ends in
    inr (told-memory course.name old.err new.err ended course.errs none.err took.errs told.1)

does-run : (turns : ℕ) (course : Course) (ended : Status) (old new : Outside) → Took course ended old new → HasNoFault old new → (found : Result Loading Unloaded) → RunsLoaded turns found course
    → DoesRun turns found course ended ⊎ (ended ≡ status.NoMemory)
does-run turns course ended old new took none (Ok x) runs = ran-whole x turns course ended old new took none course.found refl runs
does-run turns course ended old new took none (Err fault) runs =
    let told : Ends course.name (Err fault.failure) ended course.outs course.errs = subst (λ found. Ends course.name found ended course.outs course.errs) runs.0 took.ends in
    let of_file : Tells fault.file fault.failure ended course.errs = subst (λ n. Tells n fault.failure ended course.errs) runs.1 told.1 in
    elim (told-line fault.file fault.failure old.err new.err ended course.errs none.err took.errs of_file) [
      | inl line ↦ inl (told.0, line.0, line.1)
      | inr short ↦ inr short
    ]

pub run-complete : (name : List ℕ) (turns : ℕ) (course : Course) (ended : Status) (old new : Outside) → RunsPlan name turns course → Took course ended old new → HasNoFault old new → IsCompleteRun name turns course ended
run-complete name turns course ended old new runs took none = (runs.0, runs.1, does-run turns course ended old new took none runs.0 runs.2)
