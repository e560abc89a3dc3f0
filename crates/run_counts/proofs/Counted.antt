-- The lines of entries, and notes, are counted as the entries and the notes are.
use Rattle.std.proofs.Common.{◌≡◌, ℕ, ◌+◌, ◌-◌, suc, Bool, true, false, not, List, [], ◌∷◌, ◌++◌, All, append-nil, length, length-append, map, take, codes, Ok, refl, sym, subst, ap, ◌∙◌, arith}
use Rattle.std.proofs.Math.Seq.{take-append_seam}
use Rattle.std.specs.List.{flat_map}
use Rattle.charlotte_calls.specs.Ranges.{IsU8}
use Rattle.charlotte_calls.specs.declared.calls.ServiceStep.{ServiceStep}
use Rattle.charlotte_text.specs.Reading.{words}
use Rattle.charlotte_text.specs.Spelling.{number_text}
use Rattle.kernel_entries.specs.Ranges.{IsPlacedInRange}
use Rattle.kernel_entries.specs.declared.entry.Happened.{Happened}
use Rattle.kernel_entries.specs.declared.entry.Happened.TheVariants.{Asked, Took}
use Rattle.kernel_entries.specs.declared.entry.Placed.{Placed}
use Rattle.run_counts.specs.Counts.{counts_of, how_many, is_call, is_complete, is_match, is_refuse, is_take, service_lines}
use Rattle.run_counts.specs.Lines.{bare_lines, no_counts, no_entry, no_note, no_step, one_of, read_line, with_line, with_lines, with_notes, with_read}
use Rattle.run_counts.specs.declared.counts.Counts.{Counts}
use Rattle.transcript_lines.specs.Transcript.{bit, entry_lines, last_text, line}
use Rattle.transcript_lines.specs.TranscriptText.{IsShown}
use Rattle.transcript_lines.specs.declared.last.Last.TheVariants.{Quiet}
use Rattle.transcript_lines.specs.declared.last.ScriptNote.{ScriptNote}
use Rattle.transcript_reading.proofs.Lines.{AreLinesOf, IsLineOf, entry_lines_of, first_free, first_reads, kernels_line, last_line, lines_append}
use Rattle.transcript_reading.specs.Forms.{kind_of}
use Rattle.transcript_reading.specs.Kinds.{entry_kinds, happened_kind, shown_step}
use Rattle.transcript_reading.specs.declared.line.LineKind.{LineKind}
use Rattle.transcript_reading.specs.declared.line.LineKind.TheVariants as kind
use Rattle.transcript_reading.specs.declared.line.ServiceLine.{ServiceLine}

-- ---- numbers

zero_plus : (n : ℕ) → n ≡ 0 + n
zero_plus n = omega arith

plus_zero : (n : ℕ) → n ≡ n + 0
plus_zero n = omega arith

one_plus : (n : ℕ) → 1 + n ≡ suc n
one_plus n = omega arith

plus_assoc : (a b c : ℕ) → a + b + c ≡ a + (b + c)
plus_assoc a b c = omega arith

only_first : (n a b c : ℕ) → n ≡ 0 + (a + b + c) → b ≡ 0 → c ≡ 0 → n ≡ a
only_first n a b c is no_b no_c = omega (arith, is, no_b, no_c)

only_second : (n a b c : ℕ) → n ≡ 0 + (a + b + c) → a ≡ 0 → c ≡ 0 → n ≡ b
only_second n a b c is no_a no_c = omega (arith, is, no_a, no_c)

only_third : (n a b c : ℕ) → n ≡ 0 + (a + b + c) → a ≡ 0 → b ≡ 0 → n ≡ c
only_third n a b c is no_a no_b = omega (arith, is, no_a, no_b)

-- of a first entry with its lines, and the others
add_up : (whole first rest head below heads steps all : ℕ) → whole ≡ first + rest → first ≡ head + below → rest ≡ heads + steps → all ≡ below + steps → whole ≡ (head + heads) + all
add_up whole first rest head below heads steps all a b c d = omega (arith, a, b, c, d)

-- of the lines of a header, of entries with the last line, and of notes
all_up : (whole lines entries notes e n : ℕ) → whole ≡ 0 + (0 + lines) + notes → lines ≡ entries + (0 + 0) → entries ≡ e → notes ≡ n → whole ≡ e + n
all_up whole lines entries notes e n a b c d = omega (arith, a, b, c, d)

-- ---- how many are so

how_many-append : {A : Type 0} (is : A → Bool) (xs ys : List A) → how_many is (xs ++ ys) ≡ how_many is xs + how_many is ys
how_many-append is [] ys = zero_plus (how_many is ys)
how_many-append is (x ∷ xs) ys = ap (λ n. bit (is x) + n) (how_many-append is xs ys) ∙ sym (plus_assoc (bit (is x)) (how_many is xs) (how_many is ys))

how_many-none : {A : Type 0} (xs : List A) → how_many (λ x. false) xs ≡ 0
how_many-none [] = refl
how_many-none (x ∷ xs) = ap (λ n. 0 + n) (how_many-none xs)

how_many-all : {A : Type 0} (xs : List A) → how_many (λ x. true) xs ≡ length xs
how_many-all [] = refl
how_many-all (x ∷ xs) = ap (λ n. 1 + n) (how_many-all xs) ∙ one_plus (length xs)

-- ---- lines that were read

-- with lines that show these
abbrev with_kinds : List LineKind → Counts → Counts
with_kinds [] c = c
with_kinds (k ∷ ks) c = with_kinds ks (with_line c k)

-- a line is read without its line feed
before_feed : (text : List ℕ) → take (length (line text) - 1) (line text) ≡ text
before_feed text =
    let long = length-append text (10 ∷ []) in
    let same : length (line text) - 1 ≡ length text = omega (arith, long) in
    ap (λ n. take n (line text)) same ∙ take-append_seam text (10 ∷ [])

line_shows : (v : ℕ) (ended : List ℕ) (k : LineKind) → IsLineOf v ended k → read_line v ended ≡ Ok k
line_shows v ended k is = ap (read_line v) is.whole ∙ ap (λ text. kind_of v (words text)) (before_feed is.text) ∙ is.reads

lines_counted : (v : ℕ) (ls : List (List ℕ)) (ks : List LineKind) (c : Counts) → AreLinesOf v ls ks → with_lines v ls c ≡ with_kinds ks c
lines_counted v [] [] c are = refl
lines_counted v [] (k ∷ ks) c are = absurd are
lines_counted v (l ∷ ls) [] c are = absurd are
lines_counted v (l ∷ ls) (k ∷ ks) c are = ap (λ r. with_lines v ls (with_read c r)) (line_shows v l k are.0) ∙ lines_counted v ls ks (with_line c k) are.1

notes_counted : (ns : List ScriptNote) (c : Counts) → with_notes ns c ≡ with_kinds (map (λ n. kind.Note n) ns) c
notes_counted [] c = refl
notes_counted (n ∷ ns) c = notes_counted ns (with_line c (kind.Note n))

abbrev bare_kinds : ℕ → List Placed → List LineKind
bare_kinds v ps = kind.First v ∷ kind.Kernels 0 ∷ flat_map entry_kinds ps ++ kind.End Quiet ∷ []

bare_read : (v : ℕ) (ps : List Placed) → IsU8 v → All IsPlacedInRange ps → All (IsShown v) ps → AreLinesOf v (bare_lines v ps) (bare_kinds v ps)
bare_read v ps small in_range shown = (
  record { text = codes "transcript " ++ number_text v; whole = refl; free = first_free v small; reads = first_reads v v small },
  (
    kernels_line v 0 (omega arith),
    subst (λ (lines : List (List ℕ)). AreLinesOf v (lines ++ line (last_text Quiet) ∷ []) (flat_map entry_kinds ps ++ kind.End Quiet ∷ [])) (sym (append-nil (flat_map entry_lines ps)))
        (lines_append v (flat_map entry_lines ps) (line (last_text Quiet) ∷ []) (flat_map entry_kinds ps) (kind.End Quiet ∷ []) (entry_lines_of v ps in_range shown) (last_line v Quiet tt, tt)),
  ),
)

with_kinds-append : (ks js : List LineKind) (c : Counts) → with_kinds (ks ++ js) c ≡ with_kinds js (with_kinds ks c)
with_kinds-append [] js c = refl
with_kinds-append (k ∷ ks) js c = with_kinds-append ks js (with_line c k)

-- one of the counts
grown : (of : Counts → ℕ) (is : LineKind → Bool) → ((c : Counts) (k : LineKind) → of (with_line c k) ≡ of c + bit (is k)) → (ks : List LineKind) (c : Counts) → of (with_kinds ks c) ≡ of c + how_many is ks
grown of is more [] c = plus_zero (of c)
grown of is more (k ∷ ks) c = grown of is more ks (with_line c k) ∙ ap (λ n. n + how_many is ks) (more c k) ∙ plus_assoc (of c) (bit (is k)) (how_many is ks)

module _ (entry : Bool → Bool) (step : ServiceLine → Bool) (note : ScriptNote → Bool) where
  abbrev is_so : LineKind → Bool
  is_so = one_of entry step note

  of_happened : (stamp kernel : ℕ) (what : Happened) → is_so (happened_kind stamp kernel what) ≡ entry (is_call what)
  of_happened stamp kernel (Asked p call) = refl
  of_happened stamp kernel (Took from picture) = refl

  of_steps : (ss : List ServiceStep) → how_many is_so (map (λ s. kind.Service (shown_step s)) ss) ≡ how_many step (map shown_step ss)
  of_steps [] = refl
  of_steps (s ∷ ss) = ap (λ n. bit (step (shown_step s)) + n) (of_steps ss)

  of_entries : (ps : List Placed) → how_many is_so (flat_map entry_kinds ps) ≡ how_many (λ p. entry (is_call p.entry.what)) ps + how_many step (service_lines ps)
  of_entries [] = refl
  of_entries (p ∷ ps) =
      let below = of_steps p.entry.steps in
      add_up _ _ _ _ _ _ _ _ (how_many-append is_so (entry_kinds p) (flat_map entry_kinds ps))
      (ap (λ n. n + how_many is_so (map (λ s. kind.Service (shown_step s)) p.entry.steps)) (ap bit (of_happened p.entry.stamp p.kernel p.entry.what)) ∙ ap (λ n. bit (entry (is_call p.entry.what)) + n) below)
      (of_entries ps) (how_many-append step (map shown_step p.entry.steps) (service_lines ps))

  of_notes : (ns : List ScriptNote) → how_many is_so (map (λ n. kind.Note n) ns) ≡ how_many note ns
  of_notes [] = refl
  of_notes (n ∷ ns) = ap (λ m. bit (note n) + m) (of_notes ns)

  of_all : (v : ℕ) (ps : List Placed) (ns : List ScriptNote) → how_many is_so (bare_kinds v ps ++ map (λ n. kind.Note n) ns)
      ≡ how_many (λ p. entry (is_call p.entry.what)) ps + how_many step (service_lines ps) + how_many note ns
  of_all v ps ns =
      all_up _ _ _ _ _ _ (how_many-append is_so (bare_kinds v ps) (map (λ n. kind.Note n) ns)) (how_many-append is_so (flat_map entry_kinds ps) (kind.End Quiet ∷ [])) (of_entries ps) (of_notes ns)

  -- one of the counts, where each line that is so adds one
  one_count : (of : Counts → ℕ) → ((c : Counts) (k : LineKind) → of (with_line c k) ≡ of c + bit (is_so k)) → (v : ℕ) (ps : List Placed) (ns : List ScriptNote)
      → of (with_kinds (bare_kinds v ps ++ map (λ n. kind.Note n) ns) no_counts) ≡ of no_counts + (how_many (λ p. entry (is_call p.entry.what)) ps + how_many step (service_lines ps) + how_many note ns)
  one_count of more v ps ns = grown of is_so more (bare_kinds v ps ++ map (λ n. kind.Note n) ns) no_counts ∙ ap (λ n. of no_counts + n) (of_all v ps ns)

-- ---- all counts

module _ (v : ℕ) (ps : List Placed) (ns : List ScriptNote) where
  abbrev counted : Counts
  counted = with_kinds (bare_kinds v ps ++ map (λ n. kind.Note n) ns) no_counts

  none_of_entries : how_many (λ p. no_entry (is_call p.entry.what)) ps ≡ 0
  none_of_entries = how_many-none ps

  none_of_steps : how_many no_step (service_lines ps) ≡ 0
  none_of_steps = how_many-none (service_lines ps)

  none_of_notes : how_many no_note ns ≡ 0
  none_of_notes = how_many-none ns

  calls : counted.calls ≡ how_many (λ p. is_call p.entry.what) ps
  calls = only_first _ _ _ _ (one_count (λ b. b) no_step no_note (λ c. c.calls) (λ c k. refl) v ps ns) none_of_steps none_of_notes

  events : counted.events ≡ length ps
  events = only_first _ _ _ _ (one_count (λ b. true) no_step no_note (λ c. c.events) (λ c k. refl) v ps ns) none_of_steps none_of_notes ∙ how_many-all ps

  waits : counted.waits ≡ how_many (λ n. n.waits) ns
  waits = only_third _ _ _ _ (one_count no_entry no_step (λ n. n.waits) (λ c. c.waits) (λ c k. refl) v ps ns) none_of_entries none_of_steps

  nothing : counted.nothing ≡ how_many (λ n. not n.waits) ns
  nothing = only_third _ _ _ _ (one_count no_entry no_step (λ n. not n.waits) (λ c. c.nothing) (λ c k. refl) v ps ns) none_of_entries none_of_steps

  of_step : (of : Counts → ℕ) (step : ServiceLine → Bool) → ((c : Counts) (k : LineKind) → of (with_line c k) ≡ of c + bit (one_of no_entry step no_note k)) → of no_counts ≡ 0 → of counted ≡ how_many step (service_lines ps)
  of_step of step more zero =
      only_second _ _ _ _ (one_count no_entry step no_note of more v ps ns ∙ ap (λ z. z + (how_many (λ p. no_entry (is_call p.entry.what)) ps + how_many step (service_lines ps) + how_many no_note ns)) zero) none_of_entries none_of_notes

  all_counted : counted ≡ counts_of ps ns
  all_counted = λ i. record {
    calls = calls i;
    waits = waits i;
    nothing = nothing i;
    events = events i;
    refused = of_step (λ c. c.refused) is_refuse (λ c k. refl) refl i;
    matches = of_step (λ c. c.matches) is_match (λ c k. refl) refl i;
    takes = of_step (λ c. c.takes) is_take (λ c k. refl) refl i;
    completes = of_step (λ c. c.completes) is_complete (λ c k. refl) refl i;
  }

pub counts_are : (v : ℕ) (ps : List Placed) (ns : List ScriptNote) → IsU8 v → All IsPlacedInRange ps → All (IsShown v) ps → with_notes ns (with_lines v (bare_lines v ps) no_counts) ≡ counts_of ps ns
counts_are v ps ns small in_range shown =
    ap (with_notes ns) (lines_counted v (bare_lines v ps) (bare_kinds v ps) no_counts (bare_read v ps small in_range shown)) ∙ notes_counted ns _ ∙ sym (with_kinds-append (bare_kinds v ps) (map (λ n. kind.Note n) ns) no_counts)
    ∙ all_counted v ps ns
