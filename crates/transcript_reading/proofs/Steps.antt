-- Service steps: each is spelled by words, which say what its line shows.
use Rattle.std.proofs.Common.{◌≡◌, ℕ, ◌≤◌, Bool, true, false, codes, List, [], ◌∷◌, ◌++◌, length, map, Result, Ok, Err, refl, sym, ap, ◌∙◌, append_assoc, append-nil, arith}
use Rattle.std.specs.List.{AllByRecursion}
use Rattle.charlotte_calls.specs.Ranges.{IsEnd, IsPid, IsU32, AreBytesInRange, IsReportInRange, IsStepInRange}
use Rattle.charlotte_calls.specs.declared.calls.Call.TheVariants as call
use Rattle.charlotte_calls.specs.declared.calls.Cause.{Cause}
use Rattle.charlotte_calls.specs.declared.calls.Cause.TheVariants as cause
use Rattle.charlotte_calls.specs.declared.calls.Report.{Report}
use Rattle.charlotte_calls.specs.declared.calls.ServiceStep.{ServiceStep}
use Rattle.charlotte_calls.specs.declared.calls.ServiceStep.TheVariants as step
use Rattle.charlotte_calls.specs.declared.names.EndId.{EndId}
use Rattle.charlotte_calls.specs.declared.names.Outcome.{Outcome}
use Rattle.charlotte_calls.specs.declared.names.Outcome.TheVariants.{Done, Destroyed}
use Rattle.charlotte_calls.specs.declared.names.Pid.{Pid}
use Rattle.charlotte_calls.specs.declared.names.Way.{Way}
use Rattle.charlotte_calls.specs.declared.names.Way.TheVariants.{Inward, Outward}
use Rattle.charlotte_text.specs.Spelling.{number_text, end_text, ends_text, plus_text, process_text, bytes_text, way_text, most_ends}
use Rattle.charlotte_text.specs.declared.fault.Fault.{Fault}
use Rattle.charlotte_text.specs.declared.fault.Fault.TheVariants.{Form}
use Rattle.charlotte_text.specs.Reading.{◌>>=◌}
use Rattle.charlotte_text.proofs.Calls.{way_again}
use Rattle.charlotte_text.proofs.Names.{end_again, ends_again}
use Rattle.transcript_lines.specs.Transcript.{cause_text, result_text, report_text, step_text, suffix_text}
use Rattle.transcript_lines.specs.TranscriptText.{IsShownReport, IsShownStep}
use Rattle.kernel_entries.specs.declared.entry.Happened.{Happened}
use Rattle.kernel_entries.specs.declared.entry.Happened.TheVariants.{Asked, Took}
use Rattle.transcript_reading.specs.Forms.{first_of, bare_report, cause_of, outcome_of, suffix_of, result_of, report_of, make_of, refuse_of, send_of, cancel_of, take_of, notice_of, back_step_of, named_step_of, step_of}
use Rattle.transcript_reading.specs.Kinds.{shown_step}
use Rattle.transcript_reading.specs.declared.line.ServiceLine.{ServiceLine}
use Rattle.transcript_reading.specs.declared.line.ServiceLine.TheVariants as service
use Rattle.transcript_reading.proofs.Names.{number_word, wide32, u32_again, pid_again, pid_wide, letter_word, end_word, ends_words, bytes_word, way_word, text_again}
use Rattle.transcript_reading.proofs.Packets.{end_numbers, numbered_spelled, end_number_again, three_shape}
use Rattle.transcript_reading.proofs.Words.{IsWord, IsSpelled, word_codes, same_text, one_word, word_before, words_behind}

-- ---- the words of a step

-- the words of how an activity was over
abbrev pub result_words : Way → Outcome → List ℕ → List EndId → List (List ℕ)
result_words Outward Done bytes ends = codes "done" ∷ []
result_words Outward Destroyed bytes ends = codes "destroyed" ∷ map plus_text ends
result_words Inward Done bytes ends = codes "done" ∷ bytes_text bytes ∷ map plus_text ends
result_words Inward Destroyed bytes ends = codes "destroyed" ∷ []

-- a word that stands only where it was said
abbrev pub suffix_words : Bool → List ℕ → List (List ℕ)
suffix_words true word = word ∷ []
suffix_words false word = []

abbrev pub step_name : ServiceStep → List ℕ
step_name (step.Make p a b) = codes "make"
step_name (step.Refuse p call cause) = codes "refuse"
step_name (step.Destroy on) = codes "destroy"
step_name (step.Send on n bytes enclose) = codes "send"
step_name (step.Receive on) = codes "receive"
step_name (step.Cancel on way) = codes "cancel"
step_name (step.Wait p) = codes "wait"
step_name (step.Report p r) = codes "report"
step_name (step.Exit p) = codes "exit"
step_name (step.Match on n) = codes "match"
step_name (step.Take on n p late) = codes "take"
step_name (step.Complete on n) = codes "complete"
step_name (step.Withdraw on) = codes "withdraw"
step_name (step.Free on) = codes "free"
step_name (step.Notice on dead) = codes "notice"
step_name (step.Back on n dead) = codes "back"

abbrev pub step_rest : ServiceStep → List (List ℕ)
step_rest (step.Make p a b) = end_text a ∷ end_text b ∷ []
step_rest (step.Refuse p call cause) = process_text p ∷ cause_text cause ∷ []
step_rest (step.Destroy on) = end_text on ∷ []
step_rest (step.Send on n bytes enclose) = end_text on ∷ number_text n ∷ map plus_text enclose
step_rest (step.Receive on) = end_text on ∷ []
step_rest (step.Cancel on way) = end_text on ∷ way_text way ∷ []
step_rest (step.Wait p) = process_text p ∷ []
step_rest (step.Report p r) = process_text p ∷ end_text r.on ∷ way_text r.way ∷ result_words r.way r.outcome r.bytes r.enclosed
step_rest (step.Exit p) = process_text p ∷ []
step_rest (step.Match on n) = end_numbers on (n ∷ [])
step_rest (step.Take on n p late) = end_text on ∷ number_text n ∷ process_text p ∷ suffix_words late (codes "late")
step_rest (step.Complete on n) = end_numbers on (n ∷ [])
step_rest (step.Withdraw on) = end_text on ∷ []
step_rest (step.Free on) = end_text on ∷ []
step_rest (step.Notice on dead) = end_text on ∷ suffix_words dead (codes "dead")
step_rest (step.Back on n dead) = end_text on ∷ number_text n ∷ suffix_words dead (codes "dead")

-- ---- the line has them

process_word : (p : Pid) → IsPid p → IsWord (process_text p)
process_word p is = letter_word 112 p.0 (omega arith) (pid_wide p is)

cause_word : (c : Cause) → IsWord (cause_text c)
cause_word cause.NoEnd = word_codes (codes "NoEnd") refl
cause_word cause.Busy = word_codes (codes "Busy") refl
cause_word cause.Dead = word_codes (codes "Dead") refl
cause_word cause.EncloseNoEnd = word_codes (codes "EncloseNoEnd") refl
cause_word cause.EncloseBusy = word_codes (codes "EncloseBusy") refl
cause_word cause.EncloseSame = word_codes (codes "EncloseSame") refl
cause_word cause.Late = word_codes (codes "Late") refl
cause_word cause.NoActivity = word_codes (codes "NoActivity") refl
cause_word cause.LinksFull = word_codes (codes "LinksFull") refl
cause_word cause.EncloseTwice = word_codes (codes "EncloseTwice") refl

-- the dot, a name and what stands behind it
dotted : (name text w : List ℕ) (ws : List (List ℕ)) → IsWord name → IsSpelled text (w ∷ ws) → IsSpelled (codes "." ++ 32 ∷ (name ++ 32 ∷ text)) (codes "." ∷ name ∷ w ∷ ws)
dotted name text w ws is s = word_before (codes ".") (name ++ 32 ∷ text) name (w ∷ ws) (word_codes (codes ".") refl) (word_before name text w ws is s)

dotted_end : (name : List ℕ) (on : EndId) → IsWord name → IsEnd on → IsSpelled (codes "." ++ 32 ∷ (name ++ 32 ∷ end_text on)) (codes "." ∷ name ∷ end_text on ∷ [])
dotted_end name on is end = dotted name (end_text on) (end_text on) [] is (one_word (end_text on) (end_word on end))

dotted_process : (name : List ℕ) (p : Pid) → IsWord name → IsPid p → IsSpelled (codes "." ++ 32 ∷ (name ++ 32 ∷ process_text p)) (codes "." ∷ name ∷ process_text p ∷ [])
dotted_process name p is fits = dotted name (process_text p) (process_text p) [] is (one_word (process_text p) (process_word p fits))

dotted_numbered : (name : List ℕ) (on : EndId) (n : ℕ) → IsWord name → IsEnd on → IsU32 n → IsSpelled (codes "." ++ 32 ∷ (name ++ 32 ∷ (end_text on ++ (32 ∷ (number_text n ++ []))))) (codes "." ∷ name ∷ end_numbers on (n ∷ []))
dotted_numbered name on n is end lt =
    word_before (codes ".") _ name (end_numbers on (n ∷ [])) (word_codes (codes ".") refl) (numbered_spelled name on (n ∷ []) is end (wide32 n lt, tt))

-- a word, and one that may stand behind it
suffixed : (w word : List ℕ) (said : Bool) → IsWord w → IsWord word → IsSpelled (w ++ suffix_text said word) (w ∷ suffix_words said word)
suffixed w word true is suffix = word_before w word word [] is (one_word word suffix)
suffixed w word false is suffix = same_text w (w ++ []) (w ∷ []) (sym (append-nil w)) (one_word w is)

two_shape : (a b : List ℕ) → a ++ 32 ∷ b ≡ (a ++ 32 ∷ []) ++ b
two_shape a b = simp append_assoc

take_shape : (a b c d : List ℕ) → a ++ 32 ∷ (b ++ 32 ∷ (c ++ d)) ≡ (((a ++ (32 ∷ (b ++ []))) ++ 32 ∷ []) ++ c) ++ d
take_shape a b c d = simp append_assoc

way_spelled : (w : List ℕ) (way : Way) → IsWord w → IsSpelled ((w ++ 32 ∷ []) ++ way_text way) (w ∷ way_text way ∷ [])
way_spelled w way is = same_text (w ++ 32 ∷ way_text way) _ _ (two_shape w (way_text way)) (word_before w (way_text way) (way_text way) [] is (one_word (way_text way) (way_word way)))

-- how an activity was over
result_spelled : (w : List ℕ) (way : Way) (outcome : Outcome) (bytes : List ℕ) (ends : List EndId) → IsWord w → AllByRecursion IsEnd ends → IsSpelled (w ++ result_text way outcome bytes ends) (w ∷ result_words way outcome bytes ends)
result_spelled w Outward Done bytes ends is each = word_before w (codes "done") (codes "done") [] is (one_word (codes "done") (word_codes (codes "done") refl))
result_spelled w Outward Destroyed bytes ends is each =
    word_before w _ (codes "destroyed") (map plus_text ends) is (words_behind plus_text (codes "destroyed") ends (word_codes (codes "destroyed") refl) (ends_words ends each))
result_spelled w Inward Done bytes ends is each =
    word_before w _ (codes "done") (bytes_text bytes ∷ map plus_text ends) is
    (word_before (codes "done") _ (bytes_text bytes) (map plus_text ends) (word_codes (codes "done") refl) (words_behind plus_text (bytes_text bytes) ends (bytes_word bytes) (ends_words ends each)))
result_spelled w Inward Destroyed bytes ends is each = word_before w (codes "destroyed") (codes "destroyed") [] is (one_word (codes "destroyed") (word_codes (codes "destroyed") refl))

report_shape : (p e w r : List ℕ) → p ++ 32 ∷ (e ++ 32 ∷ (w ++ r)) ≡ ((((p ++ 32 ∷ []) ++ e) ++ 32 ∷ []) ++ w) ++ r
report_shape p e w r = simp append_assoc

report_spelled : (p : Pid) (r : Report) → IsPid p → IsReportInRange r → IsSpelled (report_text p r) (codes "." ∷ codes "report" ∷ step_rest (step.Report p r))
report_spelled p r fits is =
    same_text _ _ _ (ap (λ (t : List ℕ). codes ". report " ++ t) (report_shape (process_text p) (end_text r.on) (way_text r.way) (result_text r.way r.outcome r.bytes r.enclosed)))
    (dotted (codes "report") _ (process_text p) _ (word_codes (codes "report") refl) (word_before (process_text p) _ (end_text r.on) _ (process_word p fits)
    (word_before (end_text r.on) _ (way_text r.way) _ (end_word r.on is.on) (result_spelled (way_text r.way) r.way r.outcome r.bytes r.enclosed (way_word r.way) is.enclosed.each))))

pub step_spelled : (s : ServiceStep) → IsStepInRange s → IsSpelled (step_text s) (codes "." ∷ step_name s ∷ step_rest s)
step_spelled (step.Make p a b) is =
    same_text _ _ _ (ap (λ (t : List ℕ). codes ". make " ++ t) (two_shape (end_text a) (end_text b)))
    (dotted (codes "make") _ (end_text a) _ (word_codes (codes "make") refl) (word_before (end_text a) (end_text b) (end_text b) [] (end_word a is.1) (one_word (end_text b) (end_word b is.2))))
step_spelled (step.Refuse p call cause) is =
    same_text _ _ _ (ap (λ (t : List ℕ). codes ". refuse " ++ t) (two_shape (process_text p) (cause_text cause)))
    (dotted (codes "refuse") _ (process_text p) _ (word_codes (codes "refuse") refl) (word_before (process_text p) (cause_text cause) (cause_text cause) [] (process_word p is.0) (one_word (cause_text cause) (cause_word cause))))
step_spelled (step.Destroy on) is = dotted_end (codes "destroy") on (word_codes (codes "destroy") refl) is
step_spelled (step.Send on n bytes enclose) is =
    same_text _ _ _ (ap (λ (t : List ℕ). codes ". send " ++ t) (three_shape (end_text on) (number_text n) (ends_text enclose)))
    (dotted (codes "send") _ (end_text on) _ (word_codes (codes "send") refl) (word_before (end_text on) _ (number_text n) _ (end_word on is.0)
    (words_behind plus_text (number_text n) enclose (number_word n (wide32 n is.1)) (ends_words enclose is.3.each))))
step_spelled (step.Receive on) is = dotted_end (codes "receive") on (word_codes (codes "receive") refl) is
step_spelled (step.Cancel on way) is =
    same_text _ _ _ (ap (λ (t : List ℕ). codes ". cancel " ++ t) (two_shape (end_text on) (way_text way)))
    (dotted (codes "cancel") _ (end_text on) _ (word_codes (codes "cancel") refl) (word_before (end_text on) (way_text way) (way_text way) [] (end_word on is) (one_word (way_text way) (way_word way))))
step_spelled (step.Wait p) is = dotted_process (codes "wait") p (word_codes (codes "wait") refl) is
step_spelled (step.Report p r) is = report_spelled p r is.0 is.1
step_spelled (step.Exit p) is = dotted_process (codes "exit") p (word_codes (codes "exit") refl) is
step_spelled (step.Match on n) is = dotted_numbered (codes "match") on n (word_codes (codes "match") refl) is.0 is.1
step_spelled (step.Take on n p late) is =
    same_text _ _ _ (ap (λ (t : List ℕ). codes ". take " ++ t) (take_shape (end_text on) (number_text n) (process_text p) (suffix_text late (codes "late"))))
    (dotted (codes "take") _ (end_text on) _ (word_codes (codes "take") refl) (word_before (end_text on) _ (number_text n) _ (end_word on is.0)
    (word_before (number_text n) _ (process_text p) _ (number_word n (wide32 n is.1)) (suffixed (process_text p) (codes "late") late (process_word p is.2) (word_codes (codes "late") refl)))))
step_spelled (step.Complete on n) is = dotted_numbered (codes "complete") on n (word_codes (codes "complete") refl) is.0 is.1
step_spelled (step.Withdraw on) is = dotted_end (codes "withdraw") on (word_codes (codes "withdraw") refl) is
step_spelled (step.Free on) is = dotted_end (codes "free") on (word_codes (codes "free") refl) is
step_spelled (step.Notice on dead) is =
    dotted (codes "notice") (end_text on ++ suffix_text dead (codes "dead")) (end_text on) (suffix_words dead (codes "dead")) (word_codes (codes "notice") refl) (suffixed (end_text on) (codes "dead") dead (end_word on is) (word_codes (codes "dead") refl))
step_spelled (step.Back on n dead) is =
    same_text _ _ _ (ap (λ (t : List ℕ). codes ". back " ++ t) (three_shape (end_text on) (number_text n) (suffix_text dead (codes "dead"))))
    (dotted (codes "back") _ (end_text on) _ (word_codes (codes "back") refl) (word_before (end_text on) _ (number_text n) _ (end_word on is.0)
    (suffixed (number_text n) (codes "dead") dead (number_word n (wide32 n is.1)) (word_codes (codes "dead") refl))))

-- ---- and is read again

cause_again : (c : Cause) → cause_of (cause_text c) ≡ Ok c
unfolding cause_of
cause_again cause.NoEnd = refl
cause_again cause.Busy = refl
cause_again cause.Dead = refl
cause_again cause.EncloseNoEnd = refl
cause_again cause.EncloseBusy = refl
cause_again cause.EncloseSame = refl
cause_again cause.Late = refl
cause_again cause.NoActivity = refl
cause_again cause.LinksFull = refl
cause_again cause.EncloseTwice = refl

late_again : (late : Bool) → suffix_of (codes "late") (suffix_words late (codes "late")) ≡ Ok late
unfolding suffix_of
late_again true = refl
late_again false = refl

dead_again : (dead : Bool) → suffix_of (codes "dead") (suffix_words dead (codes "dead")) ≡ Ok dead
unfolding suffix_of
dead_again true = refl
dead_again false = refl

-- a report, from its way on
abbrev result_from : ℕ → EndId → Way → List (List ℕ) → Result Report Fault
result_from v on way [] = Err Form
result_from v on way (w ∷ ws) = outcome_of w >>= λ outcome. result_of v on way outcome ws

abbrev pub report : EndId → Way → Outcome → List ℕ → List EndId → Report
report on way outcome bytes ends = record { on = on; way = way; outcome = outcome; bytes = bytes; enclosed = ends }

bare : (on : EndId) (way : Way) (outcome : Outcome) (bytes : List ℕ) (ends : List EndId) → bytes ≡ [] → ends ≡ [] → bare_report on way outcome ≡ report on way outcome bytes ends
bare on way outcome bytes ends b e = rw (b, e) refl

no_bytes : (on : EndId) (way : Way) (outcome : Outcome) (bytes : List ℕ) (ends : List EndId) → bytes ≡ [] → report on way outcome [] ends ≡ report on way outcome bytes ends
no_bytes on way outcome bytes ends b = rw b refl

result_again : (v : ℕ) (on : EndId) (way : Way) (outcome : Outcome) (bytes : List ℕ) (ends : List EndId) → AreBytesInRange bytes → AllByRecursion IsEnd ends → IsShownReport v way outcome bytes ends
    → result_from v on way (result_words way outcome bytes ends) ≡ Ok (report on way outcome bytes ends)
unfolding outcome_of result_of
result_again v on Outward Done bytes ends text each shown = ap Ok (bare on Outward Done bytes ends shown.0 shown.1)
result_again v on Outward Destroyed bytes ends text each shown = rw (ends_again (most_ends v) ends each shown.1) (ap Ok (no_bytes on Outward Destroyed bytes ends shown.0))
result_again v on Inward Done bytes ends text each shown = rw (text_again bytes text, ends_again (most_ends v) ends each shown) refl
result_again v on Inward Destroyed bytes ends text each shown = ap Ok (bare on Inward Destroyed bytes ends shown.0 shown.1)

abbrev with_report : Pid → Result Report Fault → Result ServiceLine Fault
with_report p read = read >>= λ r. Ok (service.Report p r)

-- the outcome is a word of its own
abbrev read_result : ℕ → EndId → Way → Pid → Result (Outcome × List (List ℕ)) Fault → Result ServiceLine Fault
read_result v on way p read = read >>= λ outcome. with_report p (result_of v on way outcome.0 outcome.1)

outcome_first : (v : ℕ) (on : EndId) (way : Way) (p : Pid) (ws : List (List ℕ)) (x : Result Outcome Fault) → read_result v on way p (x >>= λ o. Ok (o, ws)) ≡ with_report p (x >>= λ o. result_of v on way o ws)
outcome_first v on way p ws (Ok o) = refl
outcome_first v on way p ws (Err f) = refl

outcome_read : (v : ℕ) (on : EndId) (way : Way) (p : Pid) (ws : List (List ℕ)) → read_result v on way p (first_of outcome_of ws) ≡ with_report p (result_from v on way ws)
outcome_read v on way p [] = refl
outcome_read v on way p (w ∷ ws) = outcome_first v on way p ws (outcome_of w)

report_again : (v : ℕ) (p : Pid) (r : Report) → IsPid p → IsReportInRange r → IsShownReport v r.way r.outcome r.bytes r.enclosed → report_of v (step_rest (step.Report p r)) ≡ Ok (service.Report p r)
unfolding report_of
report_again v p r fits is shown =
    rw (pid_again p fits, end_again r.on is.on, way_again r.way)
    (outcome_read v r.on r.way p (result_words r.way r.outcome r.bytes r.enclosed) ∙ ap (with_report p) (result_again v r.on r.way r.outcome r.bytes r.enclosed is.bytes is.enclosed.each shown))

few_sent : (v : ℕ) (what : Happened) (on : EndId) (n : ℕ) (bytes : List ℕ) (enclose : List EndId) → IsShownStep v what (step.Send on n bytes enclose) → length enclose ≤ most_ends v
few_sent v (Asked p (call.Send to sent ends)) on n bytes enclose shown = shown.1
few_sent v (Asked p call.Make) on n bytes enclose shown = absurd shown
few_sent v (Asked p (call.Destroy to)) on n bytes enclose shown = absurd shown
few_sent v (Asked p (call.Receive to)) on n bytes enclose shown = absurd shown
few_sent v (Asked p (call.Cancel to way)) on n bytes enclose shown = absurd shown
few_sent v (Asked p call.Wait) on n bytes enclose shown = absurd shown
few_sent v (Asked p (call.Print text)) on n bytes enclose shown = absurd shown
few_sent v (Asked p call.Exit) on n bytes enclose shown = absurd shown
few_sent v (Took from picture) on n bytes enclose shown = absurd shown

shown_report : (v : ℕ) (what : Happened) (p : Pid) (r : Report) → IsShownStep v what (step.Report p r) → IsShownReport v r.way r.outcome r.bytes r.enclosed
shown_report v (Asked q c) p r shown = shown
shown_report v (Took from picture) p r shown = shown

pub step_again : (v : ℕ) (what : Happened) (s : ServiceStep) → IsStepInRange s → IsShownStep v what s → step_of v (step_name s ∷ step_rest s) ≡ Ok (shown_step s)
unfolding step_of named_step_of make_of refuse_of send_of cancel_of take_of notice_of back_step_of
step_again v what (step.Make p a b) is shown = rw (end_again a is.1, end_again b is.2) refl
step_again v what (step.Refuse p call cause) is shown = rw (pid_again p is.0, cause_again cause) refl
step_again v what (step.Destroy on) is shown = rw (end_again on is) refl
step_again v what (step.Send on n bytes enclose) is shown = rw (end_again on is.0, u32_again n is.1, ends_again (most_ends v) enclose is.3.each (few_sent v what on n bytes enclose shown)) refl
step_again v what (step.Receive on) is shown = rw (end_again on is) refl
step_again v what (step.Cancel on way) is shown = rw (end_again on is, way_again way) refl
step_again v what (step.Wait p) is shown = rw (pid_again p is) refl
step_again v what (step.Report p r) is shown = report_again v p r is.0 is.1 (shown_report v what p r shown)
step_again v what (step.Exit p) is shown = rw (pid_again p is) refl
step_again v what (step.Match on n) is shown = rw (end_number_again on n is.0 is.1) refl
step_again v what (step.Take on n p late) is shown = rw (end_again on is.0, u32_again n is.1, pid_again p is.2, late_again late) refl
step_again v what (step.Complete on n) is shown = rw (end_number_again on n is.0 is.1) refl
step_again v what (step.Withdraw on) is shown = rw (end_again on is) refl
step_again v what (step.Free on) is shown = rw (end_again on is) refl
step_again v what (step.Notice on dead) is shown = rw (end_again on is, dead_again dead) refl
step_again v what (step.Back on n dead) is shown = rw (end_again on is.0, u32_again n is.1, dead_again dead) refl
