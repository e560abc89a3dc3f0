-- What the lines of a transcript tell is what it was made of.
use Rattle.std.proofs.Common.{◌≡◌, inl, inr, ℕ, ◌+◌, ◌<◌, ◌≤◌, List, [], ◌∷◌, ◌++◌, length, map, All, codes, Result, Ok, Err, refl, sym, ap, ◌∙◌, arith}
use Rattle.std.specs.List.{concat, flat_map}
use Rattle.std.proofs.lemmas.List.Elements.{All-head, All-tail, All-weaker}
use Rattle.charlotte_calls.specs.Ranges.{IsU8}
use Rattle.charlotte_calls.specs.Setting.{IsValid}
use Rattle.charlotte_calls.specs.declared.calls.ServiceStep.{ServiceStep}
use Rattle.charlotte_calls.specs.declared.names.Pid.{Pid}
use Rattle.charlotte_calls.specs.declared.setting.Setting.{Setting}
use Rattle.charlotte_text.specs.declared.fault.Fault.{Fault}
use Rattle.charlotte_text.specs.Reading.{◌>>=◌}
use Rattle.charlotte_text.specs.Spelling.{number_text}
use Rattle.charlotte_text.proofs.Steps.{ok_is}
use Rattle.transcript_lines.specs.Transcript.{entry_lines, process_lines, wire_text, line, note_text, last_text}
use Rattle.transcript_lines.specs.TranscriptText.{IsShown, IsShownStep, AreOfTranscript, IsTranscript}
use Rattle.transcript_lines.specs.declared.last.Last.{Last}
use Rattle.transcript_lines.specs.declared.last.ScriptNote.{ScriptNote}
use Rattle.kernel_entries.specs.declared.entry.Happened.{Happened}
use Rattle.kernel_entries.specs.declared.entry.Happened.TheVariants.{Asked, Took}
use Rattle.kernel_entries.specs.declared.entry.Placed.{Placed}
use Rattle.transcript_reading.specs.Kinds.{unstamped_what, unstamped, shown_step, happened_kind, entry_kinds, process_kinds, wire_kinds, transcript_kinds}
use Rattle.transcript_reading.specs.Reading.{Told, full_steps, with_entry, with_line, with_lines, nothing_told, lines_of, kinds_of, whole_of, told_by}
use Rattle.transcript_reading.specs.declared.line.LineKind.{LineKind}
use Rattle.transcript_reading.specs.declared.line.LineKind.TheVariants as kind
use Rattle.transcript_reading.specs.declared.line.ServiceLine.{ServiceLine}
use Rattle.transcript_reading.proofs.Lines.{AreLinesOf, IsWireInRange, lines_append, entry_lines_of, first_free, first_reads, kernels_line, process_lines_of, wire_lines_of, note_lines_of, last_line}
use Rattle.transcript_reading.specs.Order.{Place, Start, follows, is_whole}
use Rattle.transcript_reading.proofs.Order.{full_shown, in_order}
use Rattle.transcript_reading.proofs.Texts.{AreReadAs, read_lines, split_more}

-- ---- lines before others

abbrev told : Told → Result Told Fault
told t = Ok t

bind_bind : (r : Result Told Fault) (f g : Told → Result Told Fault) → ((r >>= f) >>= g) ≡ (r >>= λ t. f t >>= g)
bind_bind (Ok t) f g = refl
bind_bind (Err e) f g = refl

with_append : (ks js : List LineKind) (t : Told) → with_lines (ks ++ js) t ≡ (with_lines js t >>= with_lines ks)
unfolding with_lines
with_append [] js t = same (with_lines js t)
  where
    same : (r : Result Told Fault) → r ≡ (r >>= λ x. Ok x)
    same (Ok x) = refl
    same (Err e) = refl
with_append (k ∷ ks) js t = ap (λ (r : Result Told Fault). r >>= with_line k) (with_append ks js t) ∙ bind_bind (with_lines js t) (with_lines ks) (with_line k)

-- lines that tell this before lines that tell that
then_told : (ks js : List LineKind) (t u v : Told) → with_lines js t ≡ Ok u → with_lines ks u ≡ Ok v → with_lines (ks ++ js) t ≡ Ok v
then_told ks js t u v a b = with_append ks js t ∙ ap (λ (r : Result Told Fault). r >>= with_lines ks) a ∙ b

-- ---- steps

full_all : (v : ℕ) (what : Happened) (ss : List ServiceStep) → All (IsShownStep v what) ss → full_steps (unstamped_what what) (map shown_step ss) ≡ Ok ss
unfolding full_steps
full_all v what [] all = refl
full_all v what (s ∷ ss) all = rw (full_shown v what s (All-head (IsShownStep v what) s ss all), full_all v what ss (All-tail (IsShownStep v what) s ss all)) refl

-- ---- what each part tells

abbrev pub tell : Setting → List ServiceLine → List Placed → List ScriptNote → Last → Told
tell s steps entries notes last = record { setting = s; steps = steps; entries = entries; notes = notes; last = last }

steps_told : (ss : List ServiceStep) (s : Setting) (entries : List Placed) (notes : List ScriptNote) (last : Last)
    → with_lines (map (λ x. kind.Service (shown_step x)) ss) (tell s [] entries notes last) ≡ Ok (tell s (map shown_step ss) entries notes last)
unfolding with_lines with_line
steps_told [] s entries notes last = refl
steps_told (x ∷ xs) s entries notes last = rw (steps_told xs s entries notes last) refl

happened_told : (v stamp kernel : ℕ) (what : Happened) (ss : List ServiceStep) (s : Setting) (entries : List Placed) (notes : List ScriptNote) (last : Last) → All (IsShownStep v what) ss
    → with_line (happened_kind stamp kernel what) (tell s (map shown_step ss) entries notes last)
    ≡ Ok (tell s [] (record { kernel = kernel; entry = record { stamp = stamp; what = unstamped_what what; steps = ss } } ∷ entries) notes last)
unfolding with_line with_entry
happened_told v stamp kernel (Asked p c) ss s entries notes last shown = rw (full_all v (Asked p c) ss shown) refl
happened_told v stamp kernel (Took from picture) ss s entries notes last shown = rw (full_all v (Took from picture) ss shown) refl

entry_told : (v : ℕ) (p : Placed) (s : Setting) (entries : List Placed) (notes : List ScriptNote) (last : Last) → IsShown v p
    → with_lines (entry_kinds p) (tell s [] entries notes last) ≡ Ok (tell s [] (unstamped p ∷ entries) notes last)
unfolding with_lines
entry_told v p s entries notes last shown = rw (steps_told p.entry.steps s entries notes last) (happened_told v p.entry.stamp p.kernel p.entry.what p.entry.steps s entries notes last shown.1)

entries_told : (v : ℕ) (ps : List Placed) (s : Setting) (notes : List ScriptNote) (last : Last) → All (IsShown v) ps
    → with_lines (flat_map entry_kinds ps) (tell s [] [] notes last) ≡ Ok (tell s [] (map unstamped ps) notes last)
unfolding with_lines
entries_told v [] s notes last shown = refl
entries_told v (p ∷ ps) s notes last shown =
    then_told (entry_kinds p) (flat_map entry_kinds ps) (tell s [] [] notes last) (tell s [] (map unstamped ps) notes last) (tell s [] (map unstamped (p ∷ ps)) notes last)
    (entries_told v ps s notes last (All-tail (IsShown v) p ps shown)) (entry_told v p s (map unstamped ps) notes last (All-head (IsShown v) p ps shown))

notes_told : (ns : List ScriptNote) (s : Setting) (last : Last) → with_lines (map (λ n. kind.Note n) ns) (tell s [] [] [] last) ≡ Ok (tell s [] [] ns last)
unfolding with_lines with_line
notes_told [] s last = refl
notes_told (n ∷ ns) s last = rw (notes_told ns s last) refl

abbrev setting : ℕ → ℕ → List ℕ → List (Pid × Pid) → Setting
setting version kernels homes wires = record { version = version; kernels = kernels; homes = homes; wires = wires }

wires_told : (ws : List (Pid × Pid)) (entries : List Placed) (notes : List ScriptNote) (last : Last)
    → with_lines (wire_kinds ws) (tell (setting 0 0 [] []) [] entries notes last) ≡ Ok (tell (setting 0 0 [] ws) [] entries notes last)
unfolding with_lines with_line
wires_told [] entries notes last = refl
wires_told (w ∷ ws) entries notes last = rw (wires_told ws entries notes last) refl

homes_told : (number : ℕ) (homes : List ℕ) (ws : List (Pid × Pid)) (entries : List Placed) (notes : List ScriptNote) (last : Last)
    → with_lines (process_kinds number homes) (tell (setting 0 0 [] ws) [] entries notes last) ≡ Ok (tell (setting 0 0 homes ws) [] entries notes last)
unfolding with_lines with_line
homes_told number [] ws entries notes last = refl
homes_told number (home ∷ homes) ws entries notes last = rw (homes_told (number + 1) homes ws entries notes last) refl

last_told : (last : Last) → with_lines (kind.End last ∷ []) nothing_told ≡ Ok (tell (setting 0 0 [] []) [] [] [] last)
unfolding with_lines with_line
last_told last = refl

header_told : (s : Setting) (entries : List Placed) (notes : List ScriptNote) (last : Last)
    → with_lines (kind.First s.version ∷ kind.Kernels s.kernels ∷ process_kinds 0 s.homes) (tell (setting 0 0 [] s.wires) [] entries notes last) ≡ Ok (tell s [] entries notes last)
unfolding with_lines with_line
header_told s entries notes last = rw (homes_told 0 s.homes s.wires entries notes last) refl

-- the whole
pub all_told : (s : Setting) (merged : List Placed) (notes : List ScriptNote) (last : Last) → All (IsShown s.version) merged
    → with_lines (transcript_kinds s merged notes last) nothing_told ≡ Ok (tell s [] (map unstamped merged) notes last)
all_told s merged notes last shown =
    then_told _ (kind.End last ∷ []) nothing_told (tell (setting 0 0 [] []) [] [] [] last) _ (last_told last)
    (then_told _ (map (λ n. kind.Note n) notes) (tell (setting 0 0 [] []) [] [] [] last) (tell (setting 0 0 [] []) [] [] notes last) _ (notes_told notes (setting 0 0 [] []) last)
    (then_told _ (flat_map entry_kinds merged) (tell (setting 0 0 [] []) [] [] notes last) (tell (setting 0 0 [] []) [] (map unstamped merged) notes last) _ (entries_told s.version merged (setting 0 0 [] []) notes last shown)
    (then_told _ (wire_kinds s.wires) (tell (setting 0 0 [] []) [] (map unstamped merged) notes last) (tell (setting 0 0 [] s.wires) [] (map unstamped merged) notes last) _ (wires_told s.wires (map unstamped merged) notes last)
    (header_told s (map unstamped merged) notes last))))

-- ---- a transcript is read

version_small : (s : Setting) → IsValid s → IsU8 s.version
version_small s valid = elim valid.limits.version [ inl e ↦ omega arith | inr e ↦ omega arith ]

kernels_small : (s : Setting) → IsValid s → IsU8 s.kernels
kernels_small s valid = let le : s.kernels ≤ 8 = valid.limits.kernels in omega arith

homes_small : (s : Setting) → IsValid s → All IsU8 s.homes
homes_small s valid = let le : s.kernels ≤ 8 = valid.limits.kernels in All-weaker (λ home. home < s.kernels) IsU8 (λ home h. omega arith) s.homes valid.homes

wires_small : (s : Setting) → IsValid s → All IsWireInRange s.wires
wires_small s valid =
    let le : length s.homes ≤ 64 = valid.limits.processes in
    All-weaker (λ wire. (wire.0.0 < length s.homes) × (wire.1.0 < length s.homes)) IsWireInRange (λ wire h. let a = h.0 in let b = h.1 in (omega arith, omega arith)) s.wires valid.wires

-- all but the first line
abbrev other_lines : Setting → List Placed → List ScriptNote → Last → List (List ℕ)
other_lines s merged notes last =
    (line (codes "kernels " ++ number_text s.kernels) ∷ process_lines 0 s.homes) ++ map (λ wire. line (wire_text wire)) s.wires ++ flat_map entry_lines merged
    ++ map (λ n. line (note_text n)) notes ++ line (last_text last) ∷ []

abbrev other_kinds : Setting → List Placed → List ScriptNote → Last → List LineKind
other_kinds s merged notes last =
    (kind.Kernels s.kernels ∷ process_kinds 0 s.homes) ++ wire_kinds s.wires ++ flat_map entry_kinds merged ++ map (λ n. kind.Note n) notes ++ kind.End last ∷ []

others_read : (s : Setting) (merged : List Placed) (notes : List ScriptNote) (last : Last) → AreOfTranscript s merged notes last
    → AreLinesOf s.version (other_lines s merged notes last) (other_kinds s merged notes last)
others_read s merged notes last is =
    let v : ℕ = s.version in
    let le : length s.homes ≤ 64 = is.setting.limits.processes in
    let header : List (List ℕ) = line (codes "kernels " ++ number_text s.kernels) ∷ process_lines 0 s.homes in
    let wires : List (List ℕ) = map (λ wire. line (wire_text wire)) s.wires in
    let entries : List (List ℕ) = flat_map entry_lines merged in
    let note_lines : List (List ℕ) = map (λ n. line (note_text n)) notes in
    let a : List LineKind = kind.Kernels s.kernels ∷ process_kinds 0 s.homes in
    let b : List LineKind = wire_kinds s.wires in
    let c : List LineKind = flat_map entry_kinds merged in
    let d : List LineKind = map (λ n. kind.Note n) notes in
    lines_append v (header ++ wires ++ entries ++ note_lines) (line (last_text last) ∷ []) (a ++ b ++ c ++ d) (kind.End last ∷ [])
    (lines_append v (header ++ wires ++ entries) note_lines (a ++ b ++ c) d
    (lines_append v (header ++ wires) entries (a ++ b) c
    (lines_append v header wires a b
    (kernels_line v s.kernels (kernels_small s is.setting), process_lines_of v 0 s.homes (omega arith) (homes_small s is.setting))
    (wire_lines_of v s.wires (wires_small s is.setting)))
    (entry_lines_of v merged is.values.entries is.shown))
    (note_lines_of v notes is.values.lines))
    (last_line v last is.values.ending, tt)

first_read : (v : ℕ) (lines : List (List ℕ)) (ks : List LineKind) → IsU8 v → kinds_of v lines ≡ Ok ks → whole_of ((codes "transcript " ++ number_text v) ∷ lines) ≡ Ok (kind.First v ∷ ks)
unfolding whole_of kinds_of
first_read v lines ks lt reads = rw (first_reads 0 v lt, first_reads v v lt, reads) refl

-- the lines of a text, and what they show
pub record IsReadWhole (text : List ℕ) (ks : List LineKind) : Type 0 where
  pub lines : List (List ℕ)
  pub split : lines_of text ≡ Ok lines
  pub reads : whole_of lines ≡ Ok ks

-- what the lines of a transcript show
pub shown_again : (text : List ℕ) (s : Setting) (merged : List Placed) (notes : List ScriptNote) (last : Last) → IsTranscript text s merged notes last → IsReadWhole text (transcript_kinds s merged notes last)
shown_again text s merged notes last is =
    let lt : IsU8 s.version = version_small s is.told.setting in
    let more : AreReadAs s.version (concat (other_lines s merged notes last)) (other_kinds s merged notes last) =
    read_lines s.version (other_lines s merged notes last) (other_kinds s merged notes last) (others_read s merged notes last is.told) in
    let first : List ℕ = codes "transcript " ++ number_text s.version in
    record {
      lines = first ∷ more.lines;
      split = ap lines_of is.lines ∙ split_more first (concat (other_lines s merged notes last)) more.lines (first_free s.version lt) more.split;
      reads = first_read s.version more.lines (other_kinds s merged notes last) lt more.reads;
    }

-- what is read of a transcript is what it tells
pub read_again : (text : List ℕ) (s : Setting) (merged : List Placed) (notes : List ScriptNote) (last : Last) → IsTranscript text s merged notes last → told_by text ≡ Ok (tell s [] (map unstamped merged) notes last)
unfolding told_by
read_again text s merged notes last is =
    let whole : IsReadWhole text (transcript_kinds s merged notes last) = shown_again text s merged notes last is in
    ap (λ (r : Result (List (List ℕ)) Fault). r >>= λ lines. whole_of lines >>= λ ks. follows ks Start >>= is_whole >>= λ u. with_lines ks nothing_told) whole.split
    ∙ ap (λ (r : Result (List LineKind) Fault). r >>= λ ks. follows ks Start >>= is_whole >>= λ u. with_lines ks nothing_told) whole.reads
    ∙ ap (λ (r : Result Place Fault). r >>= is_whole >>= λ u. with_lines (transcript_kinds s merged notes last) nothing_told) (in_order s merged notes last is.told)
    ∙ all_told s merged notes last is.told.shown

-- so a text tells one thing
pub one : (text : List ℕ) (s t : Setting) (merged others : List Placed) (notes noted : List ScriptNote) (last ending : Last) → IsTranscript text s merged notes last → IsTranscript text t others noted ending
    → (s ≡ t) × (map unstamped merged ≡ map unstamped others) × (notes ≡ noted) × (last ≡ ending)
one text s t merged others notes noted last ending a b =
    let same : tell s [] (map unstamped merged) notes last ≡ tell t [] (map unstamped others) noted ending =
    ok_is _ _ (sym (read_again text s merged notes last a) ∙ read_again text t others noted ending b) in
    (ap (λ (x : Told). x.setting) same, ap (λ (x : Told). x.entries) same, ap (λ (x : Told). x.notes) same, ap (λ (x : Told). x.last) same)
