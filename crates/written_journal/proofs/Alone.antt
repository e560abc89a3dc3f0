-- One entry of a journal as its text.
use Rattle.std.proofs.Common.{◌≡◌, ℕ, Bool, false, eqb, ◌+◌, ◌-◌, ◌<◌, ◌≤◌, List, [], ◌∷◌, ◌++◌, codes, length, get_or, Some, append_assoc, ap, sym, ◌∙◌, refl, arith, length-append}
use Rattle.std.specs.List.{flat_map, slice_range}
use Rattle.std.proofs.lemmas.List.Concat.{flat_map-cons}
use Rattle.charlotte_packets.specs.declared.picture.Picture.{Picture}
use Rattle.charlotte_text.specs.Spelling.{number_text}
use Rattle.journal_text.specs.Journal.{placed_at}
use Rattle.transcript_lines.specs.Transcript.{entry_lines, entry_text, line, packet_text}
use Rattle.kernel_entries.specs.declared.entry.Entry.{Entry}
use Rattle.kernel_entries.specs.declared.entry.Happened.{Happened}
use Rattle.kernel_entries.specs.declared.entry.Happened.TheVariants.{Asked, Took}
use Rattle.written_journal.specs.Alone.{lines_left}
use Rattle.written_journal.specs.Given.{Rest}
use Rattle.written_journal.specs.Kept.{sender_of}
use Rattle.written_journal.specs.Lines.{lines_of}
use Rattle.packed_lines.specs.Lines.{happened_line, step_lines}
use Rattle.written_journal.proofs.Texts.{lines_of-cons, slice-at}

-- its first line
pub first-line : (es : List Entry) (e : Entry) (rest : List Entry) → es ≡ e ∷ rest → get_or (lines_of es) 0 [] ≡ happened_line e.what
first-line es e rest is = ap (λ (xs : List Entry). get_or (lines_of xs) 0 []) is ∙ ap (λ ls. get_or ls 0 []) (lines_of-cons e rest)

pub some-line : (es : List Entry) (e : Entry) (rest : List Entry) → es ≡ e ∷ rest → 0 < length (lines_of es)
some-line es e rest is = omega (arith, ap (λ (xs : List Entry). length (lines_of xs)) is, ap length (lines_of-cons e rest), length-append (happened_line e.what ∷ step_lines e.steps) (lines_of rest))

-- what stands before the packet that was taken
abbrev pub head_text : ℕ → List ℕ
head_text from = codes " from " ++ number_text from ++ codes " "

taken-line : (from : ℕ) (q : Picture) → happened_line (Took from q) ≡ head_text from ++ (packet_text q.what ++ 10 ∷ [])
taken-line from q = append_assoc (head_text from) (packet_text q.what) (10 ∷ [])

-- the text of the packet, between that and the line feed
pub record IsPicture (all : List ℕ) (from : ℕ) (q : Picture) : Type 0 where
  pub part : slice_range all (length (head_text from)) (length all - 1) ≡ packet_text q.what
  pub long : length (head_text from) + 1 ≤ length all

pub picture-at : (all : List ℕ) (from : ℕ) (q : Picture) → all ≡ happened_line (Took from q) → IsPicture all from q
picture-at all from q is =
    let p : List ℕ = packet_text q.what in
    let whole : all ≡ head_text from ++ (p ++ 10 ∷ []) = is ∙ taken-line from q in
    let long : length all ≡ length (head_text from) + (length p + 1) = ap length whole ∙ length-append (head_text from) (p ++ 10 ∷ []) ∙ ap (λ n. length (head_text from) + n) (length-append p (10 ∷ [])) in
    record { part = slice-at all (head_text from) p (10 ∷ []) (length (head_text from)) (length all - 1) whole refl (omega (arith, long)); long = omega (arith, long) }

-- a packet was taken where there is a sender
pub sender-took : (what : Happened) (from : ℕ) → Some from ≡ sender_of what → (q : Picture) × (what ≡ Took from q)
sender-took (Asked p call) from is = absurd (cc)
sender-took (Took f q) from is = let same : f ≡ from = cc in (q, ap (λ (k : ℕ). Took k q) same)

-- ---- its lines, one after the other

pub some-of : (es : List Entry) (empty : Bool) → empty ≡ eqb (length es) 0 → empty ≡ false → (e : Entry) × (rest : List Entry) × (es ≡ e ∷ rest)
some-of [] empty is some = absurd (cc)
some-of (e ∷ es) empty is some = (e, es, refl)

pub lines-begun : (k : ℕ) (old mid new : Rest) (e : Entry) (es : List Entry) (out : List ℕ) → old.lines ≡ [] → mid.entries ≡ old.entries → mid.entries ≡ e ∷ es → out ≡ line (entry_text (placed_at k e))
    → new ≡ record { lines = step_lines e.steps; entries = es } → lines_left k old ≡ out ∷ lines_left k new
lines-begun k old mid new e es out gone kept is given now =
    let lines_of_one : Entry → List (List ℕ) = λ x. entry_lines (placed_at k x) in
    ap (λ (ls : List (List ℕ)). ls ++ flat_map lines_of_one old.entries) gone ∙ ap (flat_map lines_of_one) (sym kept ∙ is) ∙ flat_map-cons lines_of_one e es
    ∙ ap (λ (t : List ℕ). t ∷ (step_lines e.steps ++ flat_map lines_of_one es)) (sym given) ∙ ap (λ (r : Rest). out ∷ lines_left k r) (sym now)
