-- The lines of a transcript: each is read as what its form shows.
use Rattle.std.proofs.Common.{◌≡◌, ℕ, ◌+◌, ◌≤◌, Bool, true, false, cond, codes, List, [], ◌∷◌, ◌++◌, length, map, All, Ok, refl, ap, ◌∙◌, append_assoc, append-nil, arith}
use Rattle.std.specs.List.{flat_map}
use Rattle.std.proofs.lemmas.List.Elements.{All-head, All-tail}
use Rattle.charlotte_calls.specs.Ranges.{IsPid, IsU8, IsU64, IsStepInRange}
use Rattle.charlotte_calls.specs.declared.calls.Call.{Call}
use Rattle.charlotte_calls.specs.declared.calls.Call.TheVariants as call
use Rattle.charlotte_calls.specs.declared.calls.ServiceStep.{ServiceStep}
use Rattle.charlotte_calls.specs.declared.names.Pid.{Pid}
use Rattle.charlotte_text.specs.Spelling.{number_text, process_text, call_text}
use Rattle.charlotte_text.specs.Reading.{words, call_of}
use Rattle.charlotte_text.proofs.Calls.{call_words, call_again}
use Rattle.charlotte_text.proofs.Numbers.{is_number_text}
use Rattle.transcript_lines.specs.Transcript.{line, happened_text, entry_lines, process_home_text, process_lines, wire_text, note_text, last_text, packet_text, step_text}
use Rattle.transcript_lines.specs.TranscriptText.{HasFew, IsShown, IsShownStep, IsNoteInRange, IsLastInRange}
use Rattle.transcript_lines.specs.declared.last.Last.{Last}
use Rattle.transcript_lines.specs.declared.last.Last.TheVariants.{Quiet, Unsettled, Spent}
use Rattle.transcript_lines.specs.declared.last.ScriptNote.{ScriptNote}
use Rattle.kernel_entries.specs.Ranges.{IsHappenedInRange, IsPlacedInRange}
use Rattle.kernel_entries.specs.declared.entry.Happened.{Happened}
use Rattle.kernel_entries.specs.declared.entry.Happened.TheVariants.{Asked, Took}
use Rattle.kernel_entries.specs.declared.entry.Placed.{Placed}
use Rattle.transcript_reading.specs.Forms.{took_of, asked_of, happened_of, entry_of, home_of, wire_of, waits_of, note_of, named_line_of, kind_of}
use Rattle.transcript_reading.specs.Kinds.{shown_step, happened_kind, entry_kinds, process_kinds, wire_kinds}
use Rattle.transcript_reading.specs.declared.line.LineKind.{LineKind}
use Rattle.transcript_reading.specs.declared.line.LineKind.TheVariants as kind
use Rattle.transcript_reading.proofs.Names.{number_word, wide8, wide32, u8_again, u32_again, u64_again, numbered_again, pid_again, pid_wide, kernel_again, letter_word, spelled_call, call_spelled}
use Rattle.transcript_reading.proofs.Packets.{packet_name, packet_rest, packet_spelled, packet_again}
use Rattle.transcript_reading.proofs.Steps.{step_name, step_rest, step_spelled, step_again}
use Rattle.transcript_reading.proofs.Words.{IsWord, IsFree, IsSpelled, word_codes, spelled_words, spelled_free, same_text, one_word, word_before}

-- a line of a text is read as this, in a transcript of a version
pub record IsLineOf (v : ℕ) (ended : List ℕ) (k : LineKind) : Type 0 where
  pub text : List ℕ
  pub whole : ended ≡ line text
  pub free : IsFree 10 text
  pub reads : kind_of v (words text) ≡ Ok k

pub line_of : (v : ℕ) (text w : List ℕ) (ws : List (List ℕ)) (k : LineKind) → IsSpelled text (w ∷ ws) → kind_of v (w ∷ ws) ≡ Ok k → IsLineOf v (line text) k
line_of v text w ws k s reads = record { text = text; whole = refl; free = spelled_free text (w ∷ ws) s; reads = ap (kind_of v) (spelled_words text w ws s) ∙ reads }

-- lines one after the other
abbrev pub AreLinesOf : ℕ → List (List ℕ) → List LineKind → Type 0
AreLinesOf v [] [] = Unit {0}
AreLinesOf v [] (k ∷ ks) = ⊥
AreLinesOf v (l ∷ ls) [] = ⊥
AreLinesOf v (l ∷ ls) (k ∷ ks) = IsLineOf v l k × AreLinesOf v ls ks

pub lines_append : (v : ℕ) (ls ms : List (List ℕ)) (ks js : List LineKind) → AreLinesOf v ls ks → AreLinesOf v ms js → AreLinesOf v (ls ++ ms) (ks ++ js)
lines_append v [] ms [] js a b = b
lines_append v [] ms (k ∷ ks) js a b = absurd a
lines_append v (l ∷ ls) ms [] js a b = absurd a
lines_append v (l ∷ ls) ms (k ∷ ks) js a b = (a.0, lines_append v ls ms ks js a.1 b)

-- ---- entries

-- the stamp and the kernel before what happened
entry_shape : (a b t : List ℕ) → a ++ 32 ∷ ((107 ∷ b) ++ 32 ∷ t) ≡ ((a ++ 32 ∷ 107 ∷ []) ++ b) ++ 32 ∷ t
entry_shape a b t = simp append_assoc

pub entry_spelled : (stamp kernel : ℕ) (t w : List ℕ) (ws : List (List ℕ)) → IsU64 stamp → IsU8 kernel → IsSpelled t (w ∷ ws)
    → IsSpelled (((number_text stamp ++ 32 ∷ 107 ∷ []) ++ number_text kernel) ++ 32 ∷ t) (number_text stamp ∷ (107 ∷ number_text kernel) ∷ w ∷ ws)
entry_spelled stamp kernel t w ws stamped below s =
    same_text _ _ _ (entry_shape (number_text stamp) (number_text kernel) t)
    (word_before (number_text stamp) _ (107 ∷ number_text kernel) (w ∷ ws) (number_word stamp stamped)
    (word_before (107 ∷ number_text kernel) t w ws (letter_word 107 kernel (omega arith) (wide8 kernel below)) s))

pub entry_again : (v stamp kernel : ℕ) (w : List ℕ) (ws : List (List ℕ)) (k : LineKind) → IsU64 stamp → IsU8 kernel → happened_of v stamp kernel (w ∷ ws) ≡ Ok k
    → kind_of v (number_text stamp ∷ (107 ∷ number_text kernel) ∷ w ∷ ws) ≡ Ok k
unfolding kind_of entry_of
entry_again v stamp kernel w ws k stamped below e = rw (is_number_text stamp stamped, u64_again stamp stamped, kernel_again kernel below) e

pub call_shape : (a b : List ℕ) → (112 ∷ a) ++ 32 ∷ b ≡ ((112 ∷ a) ++ 32 ∷ []) ++ b
call_shape a b = simp append_assoc

-- the words of a call begin with its name
pub before_call : (w : List ℕ) (c : Call) → IsWord w → IsSpelled (call_text c) (call_words c) → IsSpelled (w ++ 32 ∷ call_text c) (w ∷ call_words c)
before_call w call.Make is s = word_before w _ _ _ is s
before_call w (call.Destroy on) is s = word_before w _ _ _ is s
before_call w (call.Send on bytes enclose) is s = word_before w _ _ _ is s
before_call w (call.Receive on) is s = word_before w _ _ _ is s
before_call w (call.Cancel on way) is s = word_before w _ _ _ is s
before_call w call.Wait is s = word_before w _ _ _ is s
before_call w (call.Print bytes) is s = word_before w _ _ _ is s
before_call w call.Exit is s = word_before w _ _ _ is s

pub asked_again : (v stamp kernel : ℕ) (p : Pid) (c : Call) → IsPid p → call_of v (call_words c) ≡ Ok c → happened_of v stamp kernel (process_text p ∷ call_words c) ≡ Ok (kind.CallEntry stamp kernel p c)
unfolding happened_of asked_of
asked_again v stamp kernel p c is e = rw (pid_again p is, e) refl

pub from_shape : (a b : List ℕ) → codes "from " ++ (a ++ 32 ∷ b) ≡ (codes "from " ++ (a ++ 32 ∷ [])) ++ b
from_shape a b = simp append_assoc

pub happened_line : (v stamp kernel : ℕ) (what : Happened) → IsU64 stamp → IsU8 kernel → IsHappenedInRange what → HasFew v what
    → IsLineOf v (line (((number_text stamp ++ codes " k") ++ number_text kernel) ++ happened_text what)) (happened_kind stamp kernel what)
unfolding happened_of took_of
happened_line v stamp kernel (Asked p c) stamped below is few =
    line_of v _ (number_text stamp) ((107 ∷ number_text kernel) ∷ process_text p ∷ call_words c) _
    (entry_spelled stamp kernel _ (process_text p) (call_words c) stamped below
    (same_text _ _ _ (call_shape (number_text p.0) (call_text c)) (before_call (process_text p) c (letter_word 112 p.0 (omega arith) (pid_wide p is.0)) (call_spelled c is.1))))
    (entry_again v stamp kernel (process_text p) (call_words c) _ stamped below (asked_again v stamp kernel p c is.0 (call_again v c (spelled_call v c is.1 few))))
happened_line v stamp kernel (Took from picture) stamped below is few =
    line_of v _ (number_text stamp) ((107 ∷ number_text kernel) ∷ codes "from" ∷ number_text from ∷ packet_name picture.what ∷ packet_rest picture.what) _
    (entry_spelled stamp kernel _ (codes "from") (number_text from ∷ packet_name picture.what ∷ packet_rest picture.what) stamped below
    (same_text _ _ _ (from_shape (number_text from) (packet_text picture.what))
    (word_before (codes "from") _ (number_text from) _ (word_codes (codes "from") refl) (word_before (number_text from) _ (packet_name picture.what) _ (number_word from (wide8 from is.0)) (packet_spelled picture.what is.1.what)))))
    (entry_again v stamp kernel (codes "from") (number_text from ∷ packet_name picture.what ∷ packet_rest picture.what) _ stamped below
    (rw (u8_again from is.0, packet_again v picture.what is.1.what few) refl))

step_line : (v : ℕ) (what : Happened) (s : ServiceStep) → IsStepInRange s → IsShownStep v what s → IsLineOf v (line (step_text s)) (kind.Service (shown_step s))
unfolding kind_of named_line_of
step_line v what s is shown = line_of v (step_text s) (codes ".") (step_name s ∷ step_rest s) _ (step_spelled s is) (rw (step_again v what s is shown) refl)

pub step_lines : (v : ℕ) (what : Happened) (ss : List ServiceStep) → All IsStepInRange ss → All (IsShownStep v what) ss → AreLinesOf v (map (λ s. line (step_text s)) ss) (map (λ s. kind.Service (shown_step s)) ss)
step_lines v what [] is shown = tt
step_lines v what (s ∷ ss) is shown =
    (step_line v what s (All-head IsStepInRange s ss is) (All-head (IsShownStep v what) s ss shown), step_lines v what ss (All-tail IsStepInRange s ss is) (All-tail (IsShownStep v what) s ss shown))

pub entry_lines_of : (v : ℕ) (ps : List Placed) → All IsPlacedInRange ps → All (IsShown v) ps → AreLinesOf v (flat_map entry_lines ps) (flat_map entry_kinds ps)
entry_lines_of v [] is shown = tt
entry_lines_of v (p ∷ ps) is shown =
    let one : IsPlacedInRange p = All-head IsPlacedInRange p ps is in
    let here : IsShown v p = All-head (IsShown v) p ps shown in
    lines_append v (entry_lines p) (flat_map entry_lines ps) (entry_kinds p) (flat_map entry_kinds ps)
    (happened_line v p.entry.stamp p.kernel p.entry.what one.entry.stamp one.kernel one.entry.what here.0, step_lines v p.entry.what p.entry.steps one.entry.steps here.1)
    (entry_lines_of v ps (All-tail IsPlacedInRange p ps is) (All-tail (IsShown v) p ps shown))

-- ---- the other lines

-- a name and a number
number_line : (v : ℕ) (name : List ℕ) (n : ℕ) (k : LineKind) → IsWord name → IsU8 n → kind_of v (name ∷ number_text n ∷ []) ≡ Ok k → IsLineOf v (line (name ++ 32 ∷ number_text n)) k
number_line v name n k is lt reads = line_of v _ name (number_text n ∷ []) k (word_before name _ (number_text n) [] is (one_word (number_text n) (number_word n (wide8 n lt)))) reads

first_spelled : (n : ℕ) → IsU8 n → IsSpelled (codes "transcript " ++ number_text n) (codes "transcript" ∷ number_text n ∷ [])
first_spelled n lt = word_before (codes "transcript") _ (number_text n) [] (word_codes (codes "transcript") refl) (one_word (number_text n) (number_word n (wide8 n lt)))

pub first_free : (n : ℕ) → IsU8 n → IsFree 10 (codes "transcript " ++ number_text n)
first_free n lt = spelled_free _ _ (first_spelled n lt)

pub first_reads : (v n : ℕ) → IsU8 n → kind_of v (words (codes "transcript " ++ number_text n)) ≡ Ok (kind.First n)
unfolding kind_of named_line_of
first_reads v n lt = ap (kind_of v) (spelled_words _ _ _ (first_spelled n lt)) ∙ rw (u8_again n lt) refl

pub kernels_line : (v n : ℕ) → IsU8 n → IsLineOf v (line (codes "kernels " ++ number_text n)) (kind.Kernels n)
unfolding kind_of named_line_of
kernels_line v n lt = number_line v (codes "kernels") n (kind.Kernels n) (word_codes (codes "kernels") refl) lt (rw (u8_again n lt) refl)

pub home_shape : (a b : List ℕ) → codes "process " ++ (a ++ 32 ∷ (codes "on" ++ 32 ∷ b)) ≡ (codes "process " ++ a ++ codes " on ") ++ b
home_shape a b = simp append_assoc

home_line : (v : ℕ) (p : Pid) (home : ℕ) → IsPid p → IsU8 home → IsLineOf v (line (process_home_text p.0 home)) (kind.Process p home)
unfolding kind_of named_line_of home_of
home_line v p home is lt =
    line_of v _ (codes "process") (number_text p.0 ∷ codes "on" ∷ number_text home ∷ []) _
    (same_text _ _ _ (home_shape (number_text p.0) (number_text home))
    (word_before (codes "process") _ (number_text p.0) _ (word_codes (codes "process") refl) (word_before (number_text p.0) _ (codes "on") _ (number_word p.0 (pid_wide p is))
    (word_before (codes "on") _ (number_text home) [] (word_codes (codes "on") refl) (one_word (number_text home) (number_word home (wide8 home lt)))))))
    (rw (numbered_again p is, u8_again home lt) refl)

pub process_lines_of : (v number : ℕ) (homes : List ℕ) → number + length homes ≤ 64 → All IsU8 homes → AreLinesOf v (process_lines number homes) (process_kinds number homes)
process_lines_of v number [] few lt = tt
process_lines_of v number (home ∷ homes) few lt =
    (home_line v (record { 0 = number }) home (omega arith) (All-head IsU8 home homes lt), process_lines_of v (number + 1) homes (omega arith) (All-tail IsU8 home homes lt))

abbrev pub IsWireInRange : Pid × Pid → Type 0
IsWireInRange wire = IsPid wire.0 × IsPid wire.1

pub wire_shape : (a b : List ℕ) → codes "wire " ++ (a ++ 32 ∷ b) ≡ codes "wire " ++ (a ++ (32 ∷ (b ++ [])))
wire_shape a b = simp append-nil

wire_line : (v : ℕ) (wire : Pid × Pid) → IsWireInRange wire → IsLineOf v (line (wire_text wire)) (kind.Wire wire.0 wire.1)
unfolding kind_of named_line_of wire_of
wire_line v wire is =
    line_of v _ (codes "wire") (number_text wire.0.0 ∷ number_text wire.1.0 ∷ []) _
    (same_text _ _ _ (wire_shape (number_text wire.0.0) (number_text wire.1.0))
    (word_before (codes "wire") _ (number_text wire.0.0) _ (word_codes (codes "wire") refl)
    (word_before (number_text wire.0.0) _ (number_text wire.1.0) [] (number_word wire.0.0 (pid_wide wire.0 is.0)) (one_word (number_text wire.1.0) (number_word wire.1.0 (pid_wide wire.1 is.1))))))
    (rw (numbered_again wire.0 is.0, numbered_again wire.1 is.1) refl)

pub wire_lines_of : (v : ℕ) (wires : List (Pid × Pid)) → All IsWireInRange wires → AreLinesOf v (map (λ wire. line (wire_text wire)) wires) (wire_kinds wires)
wire_lines_of v [] is = tt
wire_lines_of v (wire ∷ wires) is = (wire_line v wire (All-head IsWireInRange wire wires is), wire_lines_of v wires (All-tail IsWireInRange wire wires is))

-- whether a process was waiting
abbrev waits_word : Bool → List ℕ
waits_word waits = cond waits (codes "waits") (codes "nothing")

waits_is : (waits : Bool) → IsWord (waits_word waits)
waits_is true = word_codes (codes "waits") refl
waits_is false = word_codes (codes "nothing") refl

waits_again : (waits : Bool) → waits_of (waits_word waits) ≡ Ok waits
unfolding waits_of
waits_again true = refl
waits_again false = refl

note_shape : (a : List ℕ) (waits : Bool) → codes "note " ++ (a ++ 32 ∷ waits_word waits) ≡ (codes "note " ++ a) ++ cond waits (codes " waits") (codes " nothing")
note_shape a true = refl
note_shape a false = refl

note_line : (v : ℕ) (n : ScriptNote) → IsNoteInRange n → IsLineOf v (line (note_text n)) (kind.Note n)
unfolding kind_of named_line_of note_of
note_line v n is =
    line_of v _ (codes "note") (number_text n.line ∷ waits_word n.waits ∷ []) _
    (same_text _ _ _ (note_shape (number_text n.line) n.waits)
    (word_before (codes "note") _ (number_text n.line) _ (word_codes (codes "note") refl)
    (word_before (number_text n.line) _ (waits_word n.waits) [] (number_word n.line (wide32 n.line is)) (one_word (waits_word n.waits) (waits_is n.waits)))))
    (rw (u32_again n.line is, waits_again n.waits) refl)

pub note_lines_of : (v : ℕ) (ns : List ScriptNote) → All IsNoteInRange ns → AreLinesOf v (map (λ n. line (note_text n)) ns) (map (λ n. kind.Note n) ns)
note_lines_of v [] is = tt
note_lines_of v (n ∷ ns) is = (note_line v n (All-head IsNoteInRange n ns is), note_lines_of v ns (All-tail IsNoteInRange n ns is))

pub last_line : (v : ℕ) (last : Last) → IsLastInRange last → IsLineOf v (line (last_text last)) (kind.End last)
unfolding kind_of named_line_of
last_line v Quiet is = line_of v (codes "quiet") (codes "quiet") [] (kind.End Quiet) (one_word (codes "quiet") (word_codes (codes "quiet") refl)) refl
last_line v Unsettled is = line_of v (codes "open") (codes "open") [] (kind.End Unsettled) (one_word (codes "open") (word_codes (codes "open") refl)) refl
last_line v (Spent k) is = number_line v (codes "spent") k (kind.End (Spent k)) (word_codes (codes "spent") refl) is (rw (u8_again k is) refl)
