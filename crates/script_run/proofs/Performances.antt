-- Whole performances: their start, their notes, their last world and their merge.
use Rattle.std.proofs.Common.{◌≡◌, ◌⊎◌, inl, inr, ℕ, ◌<◌, ◌≤◌, zero, suc, ◌^◌, List, [], ◌∷◌, ◌++◌, length, map, All, Option, arith, ap, sym, subst, ◌∙◌, refl, length-append}
use Rattle.std.specs.Option.{option_to_list}
use Rattle.std.proofs.lemmas.List.Elements.{All-head, All-tail, All-nil}
use Rattle.charlotte_calls.specs.declared.calls.Call.{Call}
use Rattle.charlotte_calls.specs.declared.names.Pid.{Pid}
use Rattle.charlotte_packets.specs.declared.picture.Picture.{Picture}
use Rattle.charlotte_calls.specs.declared.setting.Setting.{Setting}
use Rattle.charlotte_calls.specs.Setting.{IsValid}
use Rattle.transcript_lines.specs.TranscriptText.{AreOfTranscript, AreRisingNotes, HasNotesOf, IsLastInRange, IsNoteInRange}
use Rattle.transcript_lines.specs.declared.last.Last.{Last}
use Rattle.transcript_lines.specs.declared.last.Last.TheVariants.{Quiet, Unsettled, Spent}
use Rattle.transcript_lines.specs.declared.last.ScriptNote.{ScriptNote}
use Rattle.kernel_step.specs.declared.phase.Phase.{Phase}
use Rattle.kernel_step.specs.declared.phase.Phase.TheVariants.{Running, Waiting, Cancelling, Exited}
use Rattle.kernel_entries.specs.Ranges.{IsPlacedInRange}
use Rattle.kernel_entries.specs.Order.{IsMerge, of_kernel}
use Rattle.kernel_world.specs.Run.{AreAllowed}
use Rattle.kernel_world.specs.World.{World, Event, after, start, noted}
use Rattle.kernel_entries.specs.declared.entry.Placed.{Placed}
use Rattle.lynx_plan.specs.ScriptText.{AreRisingLines, FitsWhat}
use Rattle.lynx_plan.specs.declared.script.ScriptLine.{ScriptLine}
use Rattle.lynx_plan.specs.declared.script.ScriptCall.{ScriptCall}
use Rattle.lynx_plan.specs.declared.script.ScriptCall.TheVariants.{Ask, Take, Settle}
use Rattle.kernel_nodes.specs.Nodes.{AreNodes}
use Rattle.kernel_entries.specs.Ranges.{IsEntryInRange}
use Rattle.script_run.specs.Recorded.{noted_at, world_at, AreLinesDone, AreReady, Goes, IsLineDone}
use Rattle.script_run.specs.declared.recorded.Recorded.{Recorded}
use Rattle.script_run.proofs.Events.{Goes-then, entries_of, noted_in}
use Rattle.script_run.proofs.Stamps.{IsUpTo}
use Rattle.transcript_record.proofs.Worlds.{told-start}
use Rattle.transcript_record.specs.Told.{IsToldWorld}
use Rattle.written_journal.specs.Kept.{Happenings}
use Rattle.script_run.specs.Performing.{Asks, TakesFirst, Does, Performs, IsLast, IsPerformance, waits_note, nothing_note}
use Rattle.script_run.proofs.Runs.{Performs-more}
use Rattle.transcript_record.proofs.Laws.{merge-record, record-shown}

-- ---- the start

abbrev pub IsEmptyJournal : Happenings → Type 0
IsEmptyJournal j = j.entries ≡ []

no-entries : (js : List Happenings) → All IsEmptyJournal js → (k : ℕ) → noted_in js k ≡ []
no-entries [] all k = refl
no-entries (j ∷ js) all zero = All-head IsEmptyJournal j js all
no-entries (j ∷ js) all (suc k) = no-entries js (All-tail IsEmptyJournal j js all) k

-- kernels before any event, with empty journals
pub record IsStarting (s : Setting) (run : Recorded) : Type 0 where
  pub nodes : AreNodes s run.nodes.nodes.items
  pub world : world_at s run ≡ start s
  pub count : length run.journals.items ≡ s.kernels
  pub empty : All IsEmptyJournal run.journals.items

pub starting-entries : (s : Setting) (run : Recorded) → IsStarting s run → (k : ℕ) → noted_at run k ≡ []
starting-entries s run is = no-entries run.journals.items is.empty

pub starting-ready : (s : Setting) (run : Recorded) → IsStarting s run → AreReady s 0 run
starting-ready s run is =
    record {
      recorded = record {
        nodes = is.nodes;
        journals = is.count;
        stamped = λ k. subst (All (IsUpTo ((world_at s run).kernel k).stamp)) (sym (starting-entries s run is k)) (All-nil (IsUpTo ((world_at s run).kernel k).stamp));
        in_range = λ k. subst (All IsEntryInRange) (sym (starting-entries s run is k)) (All-nil IsEntryInRange);
      };
      told = subst (λ (w : World). IsToldWorld s 0 w) (sym is.world) (told-start s);
    }

-- ---- one line more

pub lines-none : (s : Setting) (a : Recorded) → Goes s a a [] → AreLinesDone s [] [] a a
lines-none s a goes = record { events = []; performed = (refl, refl); goes = goes; few = omega arith }

pub lines-more : (s : Setting) (ls : List ScriptLine) (l : ScriptLine) (notes : List ScriptNote) (note : Option ScriptNote) (a b c : Recorded) → AreLinesDone s ls notes a b → IsLineDone s l.line l.what note b c → AreLinesDone s (ls ++ l ∷ []) (notes ++ option_to_list note) a c
lines-more s ls l notes note a b c so_far one =
    record {
      events = so_far.events ++ one.events;
      performed = Performs-more s (world_at s a) ls l so_far.events one.events notes (option_to_list note) so_far.performed (subst (λ (w : World). Does s w l.line l.what one.events (option_to_list note)) so_far.goes.world one.does);
      goes = Goes-then s a b c so_far.events one.events so_far.goes one.goes;
      few = omega (arith, length-append so_far.events one.events, length-append ls (l ∷ []), so_far.few, one.few);
    }

-- these lines were done first of all, and the others fit
pub record AreLinesSoFar (s : Setting) (all others : List ScriptLine) (notes : List ScriptNote) (a b : Recorded) : Type 0 where
  pub done : List ScriptLine
  pub all_are : all ≡ done ++ others
  pub are_done : AreLinesDone s done notes a b
  pub fit : All (λ l. FitsWhat s l.what) others

-- ---- notes rise with their lines

abbrev HasNote : ℕ → List ScriptNote → Type 0
HasNote line notes = (notes ≡ []) ⊎ ((note : ScriptNote) × (notes ≡ note ∷ []) × (note.line ≡ line))

asks-note : (s : Setting) (w : World) (line : ℕ) (p : Pid) (c : Call) (phase : Phase) (es : List Event) (notes : List ScriptNote) → Asks s w line p c phase es notes → HasNote line notes
asks-note s w line p c Running es notes h = inl h.1
asks-note s w line p c Waiting es notes h = inr (waits_note line, h.one_note, refl)
asks-note s w line p c (Cancelling on) es notes h = inr (waits_note line, h.one_note, refl)
asks-note s w line p c Exited es notes h = inr (waits_note line, h.one_note, refl)

takes-note : (line from to : ℕ) (qs : List Picture) (es : List Event) (notes : List ScriptNote) → TakesFirst line from to qs es notes → HasNote line notes
takes-note line from to [] es notes h = inr (nothing_note line, h.one_note, refl)
takes-note line from to (q ∷ qs) es notes h = inl h.1

does-note : (s : Setting) (w : World) (line : ℕ) (what : ScriptCall) (es : List Event) (notes : List ScriptNote) → Does s w line what es notes → HasNote line notes
does-note s w line (Ask p c) es notes h = asks-note s w line p c _ es notes h
does-note s w line (Take from to) es notes h = takes-note line from to (w.packets from to) es notes h
does-note s w line Settle es notes h = inl h.1

abbrev StartsAfter : ℕ → List ScriptNote → Type 0
StartsAfter b [] = Unit {0}
StartsAfter b (n ∷ ns) = b < n.line

abbrev LinesAfter : ℕ → List ScriptLine → Type 0
LinesAfter b [] = Unit {0}
LinesAfter b (l ∷ ls) = b < l.line

later-lines : (l : ScriptLine) (ls : List ScriptLine) → AreRisingLines (l ∷ ls) → LinesAfter l.line ls × AreRisingLines ls
later-lines l [] r = (tt, tt)
later-lines l (m ∷ ls) r = (r.0, r.1)

starts-before : (b c : ℕ) (notes : List ScriptNote) → b < c → StartsAfter c notes → StartsAfter b notes
starts-before b c [] lt h = tt
starts-before b c (n ∷ ns) lt h = omega arith

rising-cons : (n : ScriptNote) (ns : List ScriptNote) → StartsAfter n.line ns → AreRisingNotes ns → AreRisingNotes (n ∷ ns)
rising-cons n [] h r = tt
rising-cons n (m ∷ ns) h r = (h, r)

-- the notes of a line, and those behind it
line-notes : (line : ℕ) (now later : List ScriptNote) → HasNote line now → StartsAfter line later × AreRisingNotes later → AreRisingNotes (now ++ later)
line-notes line now later (inl none) more = subst (λ (ns : List ScriptNote). AreRisingNotes (ns ++ later)) (sym none) more.1
line-notes line now later (inr one) more =
    subst (λ (ns : List ScriptNote). AreRisingNotes (ns ++ later)) (sym one.1) (rising-cons one.0 later (subst (λ n. StartsAfter n later) (sym one.2) more.0) more.1)

line-rises : (b line : ℕ) (now later : List ScriptNote) → b < line → HasNote line now → StartsAfter line later × AreRisingNotes later → StartsAfter b (now ++ later) × AreRisingNotes (now ++ later)
line-rises b line now later after_b (inl none) more = subst (λ (ns : List ScriptNote). StartsAfter b (ns ++ later) × AreRisingNotes (ns ++ later)) (sym none) (starts-before b line later after_b more.0, more.1)
line-rises b line now later after_b (inr one) more =
    let at : line ≡ one.0.line = sym one.2 in
    subst (λ (ns : List ScriptNote). StartsAfter b (ns ++ later) × AreRisingNotes (ns ++ later)) (sym one.1)
    (subst (λ n. b < n) at after_b, rising-cons one.0 later (subst (λ n. StartsAfter n later) at more.0) more.1)

rising-after : (s : Setting) (w : World) (b : ℕ) (ls : List ScriptLine) (es : List Event) (notes : List ScriptNote) → LinesAfter b ls → AreRisingLines ls → Performs s w ls es notes → StartsAfter b notes × AreRisingNotes notes
rising-after s w b [] es notes after_b r h = let none : notes ≡ [] = h.1 in subst (λ (ns : List ScriptNote). StartsAfter b ns × AreRisingNotes ns) (sym none) (tt, tt)
rising-after s w b (l ∷ ls) es notes after_b r h =
    let next = later-lines l ls r in
    subst (λ (ns : List ScriptNote). StartsAfter b ns × AreRisingNotes ns) (sym h.7)
    (line-rises b l.line h.2 h.3 after_b (does-note s w l.line l.what h.0 h.2 h.4) (rising-after s (after w h.0) l.line ls h.1 h.3 next.0 next.1 h.5))

pub notes-rise : (s : Setting) (w : World) (ls : List ScriptLine) (es : List Event) (notes : List ScriptNote) → AreRisingLines ls → Performs s w ls es notes → AreRisingNotes notes
notes-rise s w [] es notes r h = let none : notes ≡ [] = h.1 in subst AreRisingNotes (sym none) tt
notes-rise s w (l ∷ ls) es notes r h =
    let next = later-lines l ls r in
    subst AreRisingNotes (sym h.7)
    (line-notes l.line h.2 h.3 (does-note s w l.line l.what h.0 h.2 h.4) (rising-after s (after w h.0) l.line ls h.1 h.3 next.0 next.1 h.5))

-- ---- the last world

pub last-notes : (w : World) (last : Last) (notes : List ScriptNote) → IsLast w last → HasNotesOf last notes
last-notes w Quiet notes h = tt
last-notes w Unsettled notes h = tt
last-notes w (Spent k) notes h = absurd h

-- ---- the whole

pub performance : (s : Setting) (lines : List ScriptLine) (merged : List Placed) (notes : List ScriptNote) (last : Last) (a b : Recorded) → AreReady s 0 a → world_at s a ≡ start s → ((k : ℕ) → noted_at a k ≡ [])
    → AreLinesDone s lines notes a b → IsMerge (map entries_of b.journals.items) merged → IsLast (world_at s b) last → length lines ≤ 200000 → IsPerformance s lines merged notes last
performance s lines merged notes last a b ready begins none done merge ends few =
    record {
      named = es;
      performed = subst (λ (w : World). Performs s w lines es notes) begins done.performed;
      recorded = merge-record s es merged (record { allowed = allowed; few = few_events }) merge.order at_kernel;
      last_world = subst (λ (w : World). IsLast w last) (done.goes.world ∙ ap (λ (w : World). after w es) begins) ends;
    }
  where
    es : List Event
    es = done.events

    few_events : length es ≤ 2 ^ 31
    few_events = omega (arith, done.few, few)

    allowed : AreAllowed s (start s) es
    allowed = subst (λ (w : World). AreAllowed s w es) begins done.goes.allowed

    at_kernel : (k : ℕ) → of_kernel k merged ≡ of_kernel k (noted (start s) es)
    at_kernel k = merge.entries k ∙ done.goes.entries k ∙ ap (λ xs. xs ++ of_kernel k (noted (world_at s a) es)) (none k) ∙ ap (λ (w : World). of_kernel k (noted w es)) begins

-- a script does not end with turns used up
last-in_range : (w : World) (last : Last) → IsLast w last → IsLastInRange last
last-in_range w Quiet h = tt
last-in_range w Unsettled h = tt
last-in_range w (Spent k) h = absurd h

-- what was performed can be told
pub performance-told : (s : Setting) (lines : List ScriptLine) (merged : List Placed) (notes : List ScriptNote) (last : Last) → IsValid s → AreRisingLines lines → All IsPlacedInRange merged → All IsNoteInRange notes → IsPerformance s lines merged notes last → AreOfTranscript s merged notes last
performance-told s lines merged notes last valid rising entries note_lines p =
    record {
      setting = valid;
      values = record { entries = entries; lines = note_lines; ending = last-in_range (after (start s) p.named) last p.last_world };
      shown = record-shown s p.recorded.run merged p.recorded.recorded;
      in_order = notes-rise s (start s) lines p.named notes rising p.performed;
      spent = last-notes (after (start s) p.named) last notes p.last_world;
    }
