-- The lines of a transcript stand in order.
use Rattle.std.proofs.Common.{◌≡◌, ◌⊎◌, inl, inr, ℕ, ◌+◌, ◌<◌, ◌≤◌, List, [], ◌∷◌, ◌++◌, length, map, All, Result, Ok, Err, refl, sym, ap, ◌∙◌, append_assoc, arith}
use Rattle.std.specs.List.{flat_map}
use Rattle.std.proofs.lemmas.Bool.{eq-eqb, lt-ltb, le-leb}
use Rattle.std.proofs.lemmas.List.Elements.{All-head, All-tail}
use Rattle.charlotte_calls.specs.Setting.{IsValid}
use Rattle.charlotte_calls.specs.declared.calls.Call.{Call}
use Rattle.charlotte_calls.specs.declared.calls.Call.TheVariants as call
use Rattle.charlotte_calls.specs.declared.calls.ServiceStep.{ServiceStep}
use Rattle.charlotte_calls.specs.declared.calls.ServiceStep.TheVariants as step
use Rattle.charlotte_calls.specs.declared.names.EndId.{EndId}
use Rattle.charlotte_calls.specs.declared.names.Pid.{Pid}
use Rattle.charlotte_calls.specs.declared.setting.Setting.{Setting}
use Rattle.charlotte_text.specs.declared.fault.Fault.{Fault}
use Rattle.charlotte_text.specs.Reading.{◌>>=◌}
use Rattle.transcript_lines.specs.TranscriptText.{IsShownStep, AreOfTranscript, AreRisingNotes, HasNotesOf}
use Rattle.transcript_lines.specs.declared.last.Last.{Last}
use Rattle.transcript_lines.specs.declared.last.Last.TheVariants.{Quiet, Unsettled, Spent}
use Rattle.transcript_lines.specs.declared.last.ScriptNote.{ScriptNote}
use Rattle.kernel_entries.specs.declared.entry.Happened.{Happened}
use Rattle.kernel_entries.specs.declared.entry.Happened.TheVariants.{Asked, Took}
use Rattle.kernel_entries.specs.declared.entry.Placed.{Placed}
use Rattle.transcript_reading.specs.Kinds.{unstamped_what, shown_step, full_step, happened_kind, entry_kinds, process_kinds, wire_kinds, transcript_kinds}
use Rattle.transcript_reading.specs.Order.{Place, Start, Version, Processes, Wires, Entry, Noted, Over, next, follows}
use Rattle.transcript_reading.specs.declared.line.LineKind.{LineKind}
use Rattle.transcript_reading.specs.declared.line.LineKind.TheVariants as kind
use Rattle.transcript_reading.specs.declared.line.ServiceLine.TheVariants as service

-- ---- lines before others

bind_follows : (ks js : List LineKind) (r : Result Place Fault) → ((p : Place) → follows (ks ++ js) p ≡ (follows ks p >>= follows js)) → (r >>= follows (ks ++ js)) ≡ ((r >>= follows ks) >>= follows js)
bind_follows ks js (Ok p) all = all p
bind_follows ks js (Err f) all = refl

follows_append : (ks js : List LineKind) (p : Place) → follows (ks ++ js) p ≡ (follows ks p >>= follows js)
unfolding follows
follows_append [] js p = refl
follows_append (k ∷ ks) js p = bind_follows ks js (next p k) (follows_append ks js)

then_follows : (ks js : List LineKind) (p q r : Place) → follows ks p ≡ Ok q → follows js q ≡ Ok r → follows (ks ++ js) p ≡ Ok r
then_follows ks js p q r a b = follows_append ks js p ∙ ap (λ (x : Result Place Fault). x >>= follows js) a ∙ b

-- ---- steps

-- what a step of a call leaves out stands in the line of the call
sent_full : (v : ℕ) (p : Pid) (c : Call) (on : EndId) (n : ℕ) (bytes : List ℕ) (ends : List EndId) → IsShownStep v (Asked p c) (step.Send on n bytes ends) → full_step (Asked p c) (service.Send on n ends) ≡ Ok (step.Send on n bytes ends)
sent_full v p (call.Send to sent enclose) on n bytes ends shown = ap (λ (bs : List ℕ). Ok (step.Send on n bs ends)) (sym shown.0)
sent_full v p call.Make on n bytes ends shown = absurd shown
sent_full v p (call.Destroy to) on n bytes ends shown = absurd shown
sent_full v p (call.Receive to) on n bytes ends shown = absurd shown
sent_full v p (call.Cancel to way) on n bytes ends shown = absurd shown
sent_full v p call.Wait on n bytes ends shown = absurd shown
sent_full v p (call.Print text) on n bytes ends shown = absurd shown
sent_full v p call.Exit on n bytes ends shown = absurd shown

pub full_shown : (v : ℕ) (what : Happened) (s : ServiceStep) → IsShownStep v what s → full_step (unstamped_what what) (shown_step s) ≡ Ok s
full_shown v (Asked p c) (step.Make q a b) shown = ap (λ (x : Pid). Ok (step.Make x a b)) (sym shown)
full_shown v (Asked p c) (step.Refuse q refused cause) shown = ap (λ (x : Call). Ok (step.Refuse q x cause)) (sym shown)
full_shown v (Asked p c) (step.Send on n bytes ends) shown = sent_full v p c on n bytes ends shown
full_shown v (Took from picture) (step.Make q a b) shown = absurd shown
full_shown v (Took from picture) (step.Refuse q refused cause) shown = absurd shown
full_shown v (Took from picture) (step.Send on n bytes ends) shown = absurd shown
full_shown v what (step.Destroy on) shown = refl
full_shown v what (step.Receive on) shown = refl
full_shown v what (step.Cancel on way) shown = refl
full_shown v what (step.Wait q) shown = refl
full_shown v what (step.Report q r) shown = refl
full_shown v what (step.Exit q) shown = refl
full_shown v what (step.Match on n) shown = refl
full_shown v what (step.Take on n q late) shown = refl
full_shown v what (step.Complete on n) shown = refl
full_shown v what (step.Withdraw on) shown = refl
full_shown v what (step.Free on) shown = refl
full_shown v what (step.Notice on dead) shown = refl
full_shown v what (step.Back on n dead) shown = refl

steps_follow : (ss : List ServiceStep) → follows (map (λ s. kind.Service (shown_step s)) ss) Entry ≡ Ok Entry
unfolding follows next
steps_follow [] = refl
steps_follow (s ∷ ss) = steps_follow ss

-- ---- entries

-- an entry, a note or the end may stand next
abbrev IsOpen : Place → Type 0
IsOpen Start = ⊥
IsOpen Version = ⊥
IsOpen (Processes kernels processes) = Unit {0}
IsOpen (Wires processes wires) = Unit {0}
IsOpen Entry = Unit {0}
IsOpen (Noted line) = ⊥
IsOpen Over = ⊥

open_happened : (p : Place) (stamp kernel : ℕ) (what : Happened) → IsOpen p → next p (happened_kind stamp kernel what) ≡ Ok Entry
unfolding next
open_happened Start stamp kernel what is = absurd is
open_happened Version stamp kernel what is = absurd is
open_happened (Processes n i) stamp kernel (Asked p c) is = refl
open_happened (Processes n i) stamp kernel (Took from picture) is = refl
open_happened (Wires n i) stamp kernel (Asked p c) is = refl
open_happened (Wires n i) stamp kernel (Took from picture) is = refl
open_happened Entry stamp kernel (Asked p c) is = refl
open_happened Entry stamp kernel (Took from picture) is = refl
open_happened (Noted line) stamp kernel what is = absurd is
open_happened Over stamp kernel what is = absurd is

open_note : (p : Place) (n : ScriptNote) → IsOpen p → next p (kind.Note n) ≡ Ok (Noted n.line)
unfolding next
open_note Start n is = absurd is
open_note Version n is = absurd is
open_note (Processes m i) n is = refl
open_note (Wires m i) n is = refl
open_note Entry n is = refl
open_note (Noted line) n is = absurd is
open_note Over n is = absurd is

open_end : (p : Place) (last : Last) → IsOpen p → next p (kind.End last) ≡ Ok Over
unfolding next
open_end Start last is = absurd is
open_end Version last is = absurd is
open_end (Processes m i) last is = refl
open_end (Wires m i) last is = refl
open_end Entry last is = refl
open_end (Noted line) last is = absurd is
open_end Over last is = absurd is

-- lines go on to a place where the next part may stand
abbrev GoesOn : List LineKind → Place → Type 0
GoesOn ks p = (q : Place) × (follows ks p ≡ Ok q) × IsOpen q

entry_follows : (p : Placed) (at : Place) → IsOpen at → follows (entry_kinds p) at ≡ Ok Entry
unfolding follows
entry_follows p at is = rw (open_happened at p.entry.stamp p.kernel p.entry.what is) (steps_follow p.entry.steps)

entries_follow : (ps : List Placed) (at : Place) → IsOpen at → GoesOn (flat_map entry_kinds ps) at
unfolding follows
entries_follow [] at is = (at, refl, is)
entries_follow (p ∷ ps) at is =
    let more = entries_follow ps Entry tt in
    (more.0, then_follows (entry_kinds p) (flat_map entry_kinds ps) at Entry more.0 (entry_follows p at is) more.1, more.2)

-- ---- notes and the end

has_more : (last : Last) (n m : ScriptNote) (ns : List ScriptNote) → HasNotesOf last (n ∷ m ∷ ns) → HasNotesOf last (m ∷ ns)
has_more Quiet n m ns has = tt
has_more Unsettled n m ns has = tt
has_more (Spent k) n m ns has = absurd (cc)

after_note : (n : ScriptNote) (ns : List ScriptNote) (last : Last) → AreRisingNotes (n ∷ ns) → HasNotesOf last (n ∷ ns) → follows (map (λ x. kind.Note x) ns ++ kind.End last ∷ []) (Noted n.line) ≡ Ok Over
unfolding follows next
after_note n [] Quiet rising has = refl
after_note n [] Unsettled rising has = refl
after_note n [] (Spent k) rising has = absurd (cc)
after_note n (m ∷ ns) last rising has = rw (lt-ltb n.line m.line rising.0) (after_note m ns last rising.1 (has_more last n m ns has))

ending_follows : (at : Place) (ns : List ScriptNote) (last : Last) → IsOpen at → AreRisingNotes ns → HasNotesOf last ns → follows (map (λ x. kind.Note x) ns ++ kind.End last ∷ []) at ≡ Ok Over
unfolding follows
ending_follows at [] last is rising has = rw (open_end at last is) refl
ending_follows at (n ∷ ns) last is rising has = rw (open_note at n is) (after_note n ns last rising has)

-- ---- the header

processes_follow : (kernels i : ℕ) (homes : List ℕ) → i + length homes ≤ 64 → All (λ home. home < kernels) homes → follows (process_kinds i homes) (Processes kernels i) ≡ Ok (Processes kernels (i + length homes))
unfolding follows next
processes_follow kernels i [] few all = ap (λ m. Ok (Processes kernels m)) (omega arith)
processes_follow kernels i (home ∷ homes) few all =
    rw (eq-eqb i i refl, lt-ltb i 64 (omega arith), lt-ltb home kernels (All-head (λ h. h < kernels) home homes all))
    (processes_follow kernels (i + 1) homes (omega arith) (All-tail (λ h. h < kernels) home homes all) ∙ ap (λ m. Ok (Processes kernels m)) (omega arith))

abbrev pub IsThere : ℕ → Pid × Pid → Type 0
IsThere processes wire = (wire.0.0 < processes) × (wire.1.0 < processes)

wires_more : (m j : ℕ) (ws : List (Pid × Pid)) → j + length ws ≤ 4096 → All (IsThere m) ws → GoesOn (wire_kinds ws) (Wires m j)
unfolding follows next
wires_more m j [] few all = (Wires m j, refl, tt)
wires_more m j (w ∷ ws) few all =
    let more = wires_more m (j + 1) ws (omega arith) (All-tail (IsThere m) w ws all) in
    let there : IsThere m w = All-head (IsThere m) w ws all in
    (more.0, rw (lt-ltb j 4096 (omega arith), lt-ltb w.0.0 m there.0, lt-ltb w.1.0 m there.1) more.1, more.2)

wires_follow : (kernels m : ℕ) (ws : List (Pid × Pid)) → length ws ≤ 4096 → All (IsThere m) ws → GoesOn (wire_kinds ws) (Processes kernels m)
unfolding follows next
wires_follow kernels m [] few all = (Processes kernels m, refl, tt)
wires_follow kernels m (w ∷ ws) few all =
    let more = wires_more m 1 ws (omega arith) (All-tail (IsThere m) w ws all) in
    let there : IsThere m w = All-head (IsThere m) w ws all in
    (more.0, rw (lt-ltb w.0.0 m there.0, lt-ltb w.1.0 m there.1) more.1, more.2)

versioned : (n : ℕ) → (n ≡ 1) ⊎ (n ≡ 2) → next Start (kind.First n) ≡ Ok Version
unfolding next
versioned n (inl e) = rw e refl
versioned n (inr e) = rw e refl

header_follows : (s : Setting) → IsValid s → follows (kind.First s.version ∷ kind.Kernels s.kernels ∷ process_kinds 0 s.homes) Start ≡ Ok (Processes s.kernels (length s.homes))
unfolding follows next
header_follows s valid =
    rw (versioned s.version valid.limits.version, le-leb 1 s.kernels valid.limits.some_kernel, le-leb s.kernels 8 valid.limits.kernels)
    (processes_follow s.kernels 0 s.homes (let le : length s.homes ≤ 64 = valid.limits.processes in omega arith) valid.homes ∙ ap (λ m. Ok (Processes s.kernels m)) (omega arith))

-- all of them, in order
pub in_order : (s : Setting) (merged : List Placed) (notes : List ScriptNote) (last : Last) → AreOfTranscript s merged notes last → follows (transcript_kinds s merged notes last) Start ≡ Ok Over
in_order s merged notes last is =
    let header : List LineKind = kind.First s.version ∷ kind.Kernels s.kernels ∷ process_kinds 0 s.homes in
    let wires = wires_follow s.kernels (length s.homes) s.wires is.setting.limits.wires is.setting.wires in
    let entries = entries_follow merged wires.0 wires.2 in
    let front : follows (header ++ wire_kinds s.wires ++ flat_map entry_kinds merged) Start ≡ Ok entries.0 =
    then_follows (header ++ wire_kinds s.wires) (flat_map entry_kinds merged) Start wires.0 entries.0
    (then_follows header (wire_kinds s.wires) Start (Processes s.kernels (length s.homes)) wires.0 (header_follows s is.setting) wires.1) entries.1 in
    ap (λ ks. follows ks Start) (append_assoc (header ++ wire_kinds s.wires ++ flat_map entry_kinds merged) (map (λ x. kind.Note x) notes) (kind.End last ∷ []))
    ∙ then_follows (header ++ wire_kinds s.wires ++ flat_map entry_kinds merged) (map (λ x. kind.Note x) notes ++ kind.End last ∷ []) Start entries.0 Over front
    (ending_follows entries.0 notes last entries.2 is.in_order is.spent)
