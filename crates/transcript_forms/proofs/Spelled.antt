-- The words of a line are its spelling, and are read again.
use Rattle.std.proofs.Common.{◌≡◌, ℕ, Bool, true, false, cond, codes, List, [], ◌∷◌, ◌++◌, Ok, refl, sym, ap, ◌∙◌, arith, IfOk, Result, Err}
use Rattle.std.specs.List.{join_with_byte}
use Rattle.std.proofs.lemmas.List.Splits.{join_with_byte-slice_split}
use Rattle.charlotte_calls.specs.Ranges.{IsU8, IsCallInRange}
use Rattle.charlotte_calls.specs.declared.calls.Call.{Call}
use Rattle.charlotte_calls.specs.declared.calls.Call.TheVariants as call
use Rattle.charlotte_packets.specs.declared.picture.Picture.{Picture}
use Rattle.charlotte_text.specs.declared.fault.Fault.{Fault}
use Rattle.charlotte_text.specs.Spelling.{number_text, process_text, call_text, IsCall}
use Rattle.charlotte_text.specs.Reading.{words}
use Rattle.charlotte_text.proofs.Calls.{call_words, call_again}
use Rattle.transcript_lines.specs.Transcript.{packet_text}
use Rattle.transcript_lines.specs.declared.last.Last.TheVariants.{Quiet, Unsettled, Spent}
use Rattle.transcript_lines.specs.TranscriptText.{IsShownStep}
use Rattle.kernel_entries.specs.declared.entry.Happened.{Happened}
use Rattle.kernel_entries.specs.declared.entry.Happened.TheVariants.{Asked}
use Rattle.transcript_reading.specs.Forms.{packet_of, took_of, happened_of, home_of, wire_of, waits_of, note_of, named_line_of, kind_of}
use Rattle.transcript_reading.specs.Kinds.{shown_step}
use Rattle.transcript_reading.specs.declared.line.LineKind.{LineKind}
use Rattle.transcript_reading.specs.declared.line.LineKind.TheVariants as kind
use Rattle.transcript_reading.specs.declared.line.ServiceLine.{ServiceLine}
use Rattle.transcript_reading.specs.declared.line.ServiceLine.TheVariants as service
use Rattle.transcript_reading.proofs.Lines.{entry_spelled, entry_again, call_shape, before_call, asked_again, from_shape, home_shape, wire_shape}
use Rattle.transcript_reading.proofs.Names.{number_word, wide8, wide32, u8_again, u32_again, numbered_again, pid_wide, letter_word, call_spelled}
use Rattle.transcript_reading.proofs.Packets.{packet_name, packet_rest, packet_spelled, packet_again}
use Rattle.transcript_reading.proofs.Steps.{step_spelled, step_again}
use Rattle.transcript_reading.proofs.Words.{IsWord, IsFree, IsSpelled, word_codes, spelled_words, spelled_free, same_text, one_word, word_before}
use Rattle.transcript_reading.specs.Spelling.{bare_step, kind_text, HasShown, IsKind}
use Rattle.transcript_forms.proofs.Lines.{kind_words, words_take}
use Rattle.transcript_forms.proofs.Packets.{few}
use Rattle.transcript_forms.proofs.Taking.{waits_text}

-- ---- the words are the spelling

-- a call that a line can spell has values of its types
pub call_range : (v : ℕ) (c : Call) → IsCall v c → IsCallInRange c
call_range v call.Make is = tt
call_range v (call.Destroy on) is = is
call_range v (call.Send on bytes enclose) is = (is.0, record { each = is.1; few = is.2 }, record { each = is.3; few = few v _ is.4 })
call_range v (call.Receive on) is = is
call_range v (call.Cancel on way) is = is
call_range v call.Wait is = tt
call_range v (call.Print bytes) is = record { each = is.0; few = is.1 }
call_range v call.Exit is = tt

waits_word : (waits : Bool) → IsWord (waits_text waits)
waits_word true = word_codes (codes "waits") refl
waits_word false = word_codes (codes "nothing") refl

note_shape : (a : List ℕ) (waits : Bool) → codes "note " ++ (a ++ 32 ∷ waits_text waits) ≡ (codes "note " ++ a) ++ cond waits (codes " waits") (codes " nothing")
note_shape a true = refl
note_shape a false = refl

-- a name and a number
number_spelled : (name : List ℕ) (n : ℕ) → IsWord name → IsU8 n → IsSpelled (name ++ 32 ∷ number_text n) (name ∷ number_text n ∷ [])
number_spelled name n is lt = word_before name _ (number_text n) [] is (one_word (number_text n) (number_word n (wide8 n lt)))

pub kind_spelled : (v : ℕ) (k : LineKind) → IsKind v k → IsSpelled (kind_text k) (kind_words k)
kind_spelled v (kind.First n) is = number_spelled (codes "transcript") n (word_codes (codes "transcript") refl) is
kind_spelled v (kind.Kernels n) is = number_spelled (codes "kernels") n (word_codes (codes "kernels") refl) is
kind_spelled v (kind.Process p kernel) is =
    same_text _ _ _ (home_shape (number_text p.0) (number_text kernel))
    (word_before (codes "process") _ (number_text p.0) _ (word_codes (codes "process") refl) (word_before (number_text p.0) _ (codes "on") _ (number_word p.0 (pid_wide p is.0))
    (number_spelled (codes "on") kernel (word_codes (codes "on") refl) is.1)))
kind_spelled v (kind.Wire first second) is =
    same_text _ _ _ (wire_shape (number_text first.0) (number_text second.0))
    (word_before (codes "wire") _ (number_text first.0) _ (word_codes (codes "wire") refl)
    (word_before (number_text first.0) _ (number_text second.0) [] (number_word first.0 (pid_wide first is.0)) (one_word (number_text second.0) (number_word second.0 (pid_wide second is.1)))))
kind_spelled v (kind.CallEntry stamp kernel p c) is =
    entry_spelled stamp kernel _ (process_text p) (call_words c) is.0 is.1
    (same_text _ _ _ (call_shape (number_text p.0) (call_text c)) (before_call (process_text p) c (letter_word 112 p.0 (omega arith) (pid_wide p is.2)) (call_spelled c (call_range v c is.3))))
kind_spelled v (kind.PacketEntry stamp kernel from picture) is =
    entry_spelled stamp kernel _ (codes "from") (number_text from ∷ packet_name picture.what ∷ packet_rest picture.what) is.0 is.1
    (same_text _ _ _ (from_shape (number_text from) (packet_text picture.what))
    (word_before (codes "from") _ (number_text from) _ (word_codes (codes "from") refl)
    (word_before (number_text from) _ (packet_name picture.what) _ (number_word from (wide8 from is.2)) (packet_spelled picture.what is.4))))
kind_spelled v (kind.Service s) is = step_spelled (bare_step s) is.0
kind_spelled v (kind.Note note) is =
    same_text _ _ _ (note_shape (number_text note.line) note.waits)
    (word_before (codes "note") _ (number_text note.line) _ (word_codes (codes "note") refl)
    (word_before (number_text note.line) _ (waits_text note.waits) [] (number_word note.line (wide32 note.line is)) (one_word (waits_text note.waits) (waits_word note.waits))))
kind_spelled v (kind.End Quiet) is = one_word (codes "quiet") (word_codes (codes "quiet") refl)
kind_spelled v (kind.End Unsettled) is = one_word (codes "open") (word_codes (codes "open") refl)
kind_spelled v (kind.End (Spent kernel)) is = number_spelled (codes "spent") kernel (word_codes (codes "spent") refl) is

-- ---- and are read again

waits_again : (waits : Bool) → waits_of (waits_text waits) ≡ Ok waits
unfolding waits_of
waits_again true = refl
waits_again false = refl

-- what a step belongs to that shows this
abbrev shower : ServiceLine → Happened
shower (service.Send on n enclose) = Asked (record { 0 = 0 }) (call.Send on [] [])
shower s = Asked (record { 0 = 0 }) call.Make

is_shown : (v : ℕ) (s : ServiceLine) → HasShown v s → IsShownStep v (shower s) (bare_step s)
is_shown v (service.Make a b) has = refl
is_shown v (service.Refuse p cause) has = refl
is_shown v (service.Destroy on) has = tt
is_shown v (service.Send on n enclose) has = (refl, has)
is_shown v (service.Receive on) has = tt
is_shown v (service.Cancel on way) has = tt
is_shown v (service.Wait p) has = tt
is_shown v (service.Report p report) has = has
is_shown v (service.Exit p) has = tt
is_shown v (service.Match on n) has = tt
is_shown v (service.Take on n p late) has = tt
is_shown v (service.Complete on n) has = tt
is_shown v (service.Withdraw on) has = tt
is_shown v (service.Free on) has = tt
is_shown v (service.Notice on dead) has = tt
is_shown v (service.Back on n dead) has = tt

shown_bare : (s : ServiceLine) → shown_step (bare_step s) ≡ s
shown_bare (service.Make a b) = refl
shown_bare (service.Refuse p cause) = refl
shown_bare (service.Destroy on) = refl
shown_bare (service.Send on n enclose) = refl
shown_bare (service.Receive on) = refl
shown_bare (service.Cancel on way) = refl
shown_bare (service.Wait p) = refl
shown_bare (service.Report p report) = refl
shown_bare (service.Exit p) = refl
shown_bare (service.Match on n) = refl
shown_bare (service.Take on n p late) = refl
shown_bare (service.Complete on n) = refl
shown_bare (service.Withdraw on) = refl
shown_bare (service.Free on) = refl
shown_bare (service.Notice on dead) = refl
shown_bare (service.Back on n dead) = refl

service_again : (v : ℕ) (s : ServiceLine) → IsKind v (kind.Service s) → kind_of v (kind_words (kind.Service s)) ≡ Ok (kind.Service s)
unfolding kind_of named_line_of
service_again v s is = rw (step_again v (shower s) (bare_step s) is.0 (is_shown v s is.1)) (ap (λ (x : ServiceLine). Ok (kind.Service x)) (shown_bare s))

took_again : (v stamp kernel from : ℕ) (picture : Picture) → IsU8 from → picture.stamp ≡ 0 → packet_of v (packet_name picture.what ∷ packet_rest picture.what) ≡ Ok picture.what
    → happened_of v stamp kernel (codes "from" ∷ number_text from ∷ packet_name picture.what ∷ packet_rest picture.what) ≡ Ok (kind.PacketEntry stamp kernel from picture)
unfolding happened_of took_of
took_again v stamp kernel from picture below none reads =
    rw (u8_again from below, reads) (ap (λ (n : ℕ). Ok (kind.PacketEntry stamp kernel from (record { stamp = n; what = picture.what }))) (sym none))

pub kind_again : (v : ℕ) (k : LineKind) → IsKind v k → kind_of v (kind_words k) ≡ Ok k
unfolding kind_of named_line_of home_of wire_of note_of
kind_again v (kind.First n) is = rw (u8_again n is) refl
kind_again v (kind.Kernels n) is = rw (u8_again n is) refl
kind_again v (kind.Process p kernel) is = rw (numbered_again p is.0, u8_again kernel is.1) refl
kind_again v (kind.Wire first second) is = rw (numbered_again first is.0, numbered_again second is.1) refl
kind_again v (kind.CallEntry stamp kernel p c) is = entry_again v stamp kernel (process_text p) (call_words c) _ is.0 is.1 (asked_again v stamp kernel p c is.2 (call_again v c is.3))
kind_again v (kind.PacketEntry stamp kernel from picture) is =
    entry_again v stamp kernel (codes "from") (number_text from ∷ packet_name picture.what ∷ packet_rest picture.what) _ is.0 is.1
    (took_again v stamp kernel from picture is.2 is.3 (packet_again v picture.what is.4 is.5))
kind_again v (kind.Service s) is = service_again v s is
kind_again v (kind.Note note) is = rw (u32_again note.line is, waits_again note.waits) refl
kind_again v (kind.End Quiet) is = refl
kind_again v (kind.End Unsettled) is = refl
kind_again v (kind.End (Spent kernel)) is = rw (u8_again kernel is) refl

-- ---- lines

kind_some : (k : LineKind) → kind_words k ≡ [] → ⊥
kind_some (kind.First n) e = cc
kind_some (kind.Kernels n) e = cc
kind_some (kind.Process p kernel) e = cc
kind_some (kind.Wire first second) e = cc
kind_some (kind.CallEntry stamp kernel p c) e = cc
kind_some (kind.PacketEntry stamp kernel from picture) e = cc
kind_some (kind.Service s) e = cc
kind_some (kind.Note note) e = cc
kind_some (kind.End Quiet) e = cc
kind_some (kind.End Unsettled) e = cc
kind_some (kind.End (Spent kernel)) e = cc

words_again : (text : List ℕ) (ws : List (List ℕ)) → (ws ≡ [] → ⊥) → IsSpelled text ws → words text ≡ ws
words_again text [] some s = absurd (some refl)
words_again text (w ∷ ws) some s = spelled_words text w ws s

-- a text that is read is the spelling of what it shows
pub text_takes : (v : ℕ) (text : List ℕ) (k : LineKind) → kind_of v (words text) ≡ Ok k → (text ≡ kind_text k) × IsKind v k
text_takes v text k e =
    let t = words_take v (words text) k e in
    (sym (join_with_byte-slice_split 32 text) ∙ ap (join_with_byte 32) t.0 ∙ (kind_spelled v k t.1).joined, t.1)

-- the spelling of a line is read
pub text_again : (v : ℕ) (k : LineKind) → IsKind v k → kind_of v (words (kind_text k)) ≡ Ok k
text_again v k is = ap (kind_of v) (words_again (kind_text k) (kind_words k) (kind_some k) (kind_spelled v k is)) ∙ kind_again v k is

-- no line feed stands in it
pub text_free : (v : ℕ) (k : LineKind) → IsKind v k → IsFree 10 (kind_text k)
text_free v k is = spelled_free (kind_text k) (kind_words k) (kind_spelled v k is)

-- ---- the reader's clauses

pub line_found : (v : ℕ) (text : List ℕ) (r : Result LineKind Fault) → r ≡ kind_of v (words text) → IfOk r (λ k. text ≡ kind_text k)
line_found v text (Ok k) e = (text_takes v text k (sym e)).0
line_found v text (Err f) e = tt

pub line_fits : (v : ℕ) (text : List ℕ) (r : Result LineKind Fault) → r ≡ kind_of v (words text) → IfOk r (IsKind v)
line_fits v text (Ok k) e = (text_takes v text k (sym e)).1
line_fits v text (Err f) e = tt

pub line_only : (v : ℕ) (text : List ℕ) (r : Result LineKind Fault) (k : LineKind) → r ≡ kind_of v (words text) → IsKind v k → text ≡ kind_text k → r ≡ Ok k
line_only v text r k e is s = e ∙ ap (λ (x : List ℕ). kind_of v (words x)) s ∙ text_again v k is
