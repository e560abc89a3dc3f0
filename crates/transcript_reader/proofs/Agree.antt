-- What a text tells is what the lines tell that it is.
use Rattle.std.proofs.Common.{◌≡◌, ℕ, ◌+◌, List, [], ◌∷◌, map, Result, Ok, refl, sym, ap, ◌∙◌, append-nil}
use Rattle.std.specs.List.{concat}
use Rattle.charlotte_text.specs.declared.fault.Fault.{Fault}
use Rattle.charlotte_text.specs.declared.fault.Fault.TheVariants.{Form}
use Rattle.charlotte_text.specs.Reading.{◌>>=◌, words}
use Rattle.charlotte_text.proofs.Steps.{bind_ok, not_ok}
use Rattle.transcript_lines.specs.Transcript.{line}
use Rattle.transcript_reading.specs.Forms.{kind_of}
use Rattle.transcript_reading.specs.Order.{Place, Start, Version, Over, next, follows, is_whole}
use Rattle.transcript_reading.specs.Reading.{Told, ended_lines, lines_of, kinds_of, version_of, whole_of, with_lines, nothing_told, told_by}
use Rattle.transcript_reading.specs.declared.line.LineKind.{LineKind}
use Rattle.transcript_reading.specs.declared.line.LineKind.TheVariants as kind
use Rattle.transcript_reading.proofs.Texts.{split_more}
use Rattle.transcript_reading.specs.Spelling.{kind_text}
use Rattle.transcript_forms.proofs.Spelled.{text_again, text_free}
use Rattle.transcript_reader.specs.Lines.{version_after}
use Rattle.transcript_reader.specs.Text.{AreKinds, kinds_text, numbered, AreLines, told_by_lines}
use Rattle.transcript_reader.specs.declared.line.Line.{Line}
use Rattle.transcript_reader.proofs.Later.{each_kinds, kinds_each}
use Rattle.transcript_reader.proofs.Told.{Each, not_first, start_empty, first_place, first_version, kinds_read, lines_text, over_whole}

-- the lines with their numbers show these
pub shown_kinds : (n : ℕ) (ks : List LineKind) → map (λ l. l.what) (numbered n ks) ≡ ks
shown_kinds n [] = refl
shown_kinds n (k ∷ ks) = ap (λ (x : List LineKind). k ∷ x) (shown_kinds (n + 1) ks)

-- ---- lines are told

lines_again : (v : ℕ) (ks : List LineKind) → AreKinds v ks → lines_of (kinds_text ks) ≡ Ok (map kind_text ks)
unfolding lines_of ended_lines
lines_again v [] are = refl
lines_again v (k ∷ ks) are = split_more (kind_text k) (kinds_text ks) (map kind_text ks) (text_free v k are.0) (lines_again (version_after v k) ks are.1)

kinds_again : (v : ℕ) (ks : List LineKind) → Each v ks → kinds_of v (map kind_text ks) ≡ Ok ks
unfolding kinds_of
kinds_again v [] each = refl
kinds_again v (k ∷ ks) each = rw (text_again v k each.0, kinds_again v ks each.1) refl

first_whole : (n : ℕ) (ks : List LineKind) → Each n (kind.First n ∷ ks) → whole_of (map kind_text (kind.First n ∷ ks)) ≡ Ok (kind.First n ∷ ks)
unfolding whole_of
first_whole n ks each =
    ap (λ (r : Result LineKind Fault). r >>= λ k. kinds_of (version_of k) (map kind_text (kind.First n ∷ ks))) (text_again 0 (kind.First n) each.0) ∙ kinds_again n (kind.First n ∷ ks) each

first_lines : (text : List ℕ) (n : ℕ) (ks : List LineKind) → text ≡ kinds_text (kind.First n ∷ ks) → AreKinds 0 (kind.First n ∷ ks) → follows (kind.First n ∷ ks) Start ≡ Ok Over
    → told_by text ≡ with_lines (kind.First n ∷ ks) nothing_told
unfolding told_by
first_lines text n ks spelled are f =
    let all : List LineKind = kind.First n ∷ ks in
    let each : Each n all = (are.0, kinds_each n Version ks tt (first_place n ks f) are.1) in
    ap (λ (r : Result (List (List ℕ)) Fault). r >>= λ lines. whole_of lines >>= λ kinds. follows kinds Start >>= is_whole >>= λ whole. with_lines kinds nothing_told) (ap lines_of spelled ∙ lines_again 0 all are)
    ∙ ap (λ (r : Result (List LineKind) Fault). r >>= λ kinds. follows kinds Start >>= is_whole >>= λ whole. with_lines kinds nothing_told) (first_whole n ks each)
    ∙ ap (λ (r : Result Place Fault). r >>= is_whole >>= λ whole. with_lines all nothing_told) f

kinds_told : (text : List ℕ) (ks : List LineKind) → text ≡ kinds_text ks → AreKinds 0 ks → follows ks Start ≡ Ok Over → told_by text ≡ with_lines ks nothing_told
unfolding next
kinds_told text [] spelled are f = absurd (start_empty f)
kinds_told text (kind.First n ∷ ks) spelled are f = first_lines text n ks spelled are f
kinds_told text (kind.Kernels n ∷ ks) spelled are f = absurd (not_first (kind.Kernels n) ks refl f)
kinds_told text (kind.Process p n ∷ ks) spelled are f = absurd (not_first (kind.Process p n) ks refl f)
kinds_told text (kind.Wire p q ∷ ks) spelled are f = absurd (not_first (kind.Wire p q) ks refl f)
kinds_told text (kind.CallEntry stamp kernel p c ∷ ks) spelled are f = absurd (not_first (kind.CallEntry stamp kernel p c) ks refl f)
kinds_told text (kind.PacketEntry stamp kernel from picture ∷ ks) spelled are f = absurd (not_first (kind.PacketEntry stamp kernel from picture) ks refl f)
kinds_told text (kind.Service s ∷ ks) spelled are f = absurd (not_first (kind.Service s) ks refl f)
kinds_told text (kind.Note n ∷ ks) spelled are f = absurd (not_first (kind.Note n) ks refl f)
kinds_told text (kind.End last ∷ ks) spelled are f = absurd (not_first (kind.End last) ks refl f)

pub lines_are_told : (text : List ℕ) (ls : List Line) → AreLines text ls → told_by text ≡ told_by_lines ls
lines_are_told text ls are =
    kinds_told text are.kinds (are.whole.spelled ∙ append-nil (kinds_text are.kinds)) are.whole.kinds are.whole.in_order
    ∙ ap (λ (ks : List LineKind). with_lines ks nothing_told) (sym (shown_kinds 1 are.kinds)) ∙ ap told_by_lines (sym are.counted)

-- ---- what is told has lines

told_kinds : (v : ℕ) (ks : List LineKind) → ((n : ℕ) (ms : List LineKind) → ks ≡ kind.First n ∷ ms → v ≡ n) → Each v ks → follows ks Start ≡ Ok Over → AreKinds 0 ks
unfolding next
told_kinds v [] same each f = tt
told_kinds v (kind.First n ∷ ks) same each f = (each.0, rw (← same n ks refl) (each_kinds v Version ks tt (first_place n ks f) each.1))
told_kinds v (kind.Kernels n ∷ ks) same each f = absurd (not_first (kind.Kernels n) ks refl f)
told_kinds v (kind.Process p n ∷ ks) same each f = absurd (not_first (kind.Process p n) ks refl f)
told_kinds v (kind.Wire p q ∷ ks) same each f = absurd (not_first (kind.Wire p q) ks refl f)
told_kinds v (kind.CallEntry stamp kernel p c ∷ ks) same each f = absurd (not_first (kind.CallEntry stamp kernel p c) ks refl f)
told_kinds v (kind.PacketEntry stamp kernel from picture ∷ ks) same each f = absurd (not_first (kind.PacketEntry stamp kernel from picture) ks refl f)
told_kinds v (kind.Service s ∷ ks) same each f = absurd (not_first (kind.Service s) ks refl f)
told_kinds v (kind.Note n ∷ ks) same each f = absurd (not_first (kind.Note n) ks refl f)
told_kinds v (kind.End last ∷ ks) same each f = absurd (not_first (kind.End last) ks refl f)

-- what is read of the lines of a text are its lines
pub whole_lines : (text : List ℕ) (ls : List (List ℕ)) (ks : List LineKind) → text ≡ concat (map line ls) → whole_of ls ≡ Ok ks → follows ks Start ≡ Ok Over → AreLines text (numbered 1 ks)
unfolding whole_of
whole_lines text [] ks spelled e f = absurd (not_ok ks Form e)
whole_lines text (l ∷ ls) ks spelled e f =
    let a = bind_ok (kind_of 0 (words l)) (λ k. kinds_of (version_of k) (l ∷ ls)) ks e in
    let read = kinds_read (version_of a.0) (l ∷ ls) ks a.2 in
    let are : AreKinds 0 ks = told_kinds (version_of a.0) ks (λ n ms is. first_version (version_of a.0) l ls a.0 n ms a.1 (a.2 ∙ ap Ok is)) read.each f in
    record { kinds = ks; counted = refl; whole = record { spelled = spelled ∙ read.spelled ∙ sym (append-nil (kinds_text ks)); kinds = are; in_order = f } }

pub told_has_lines : (text : List ℕ) (t : Told) → told_by text ≡ Ok t → (ls : List Line) × AreLines text ls × (told_by_lines ls ≡ Ok t)
unfolding told_by
told_has_lines text t e =
    let a = bind_ok (lines_of text) (λ lines. whole_of lines >>= λ kinds. follows kinds Start >>= is_whole >>= λ whole. with_lines kinds nothing_told) t e in
    let b = bind_ok (whole_of a.0) (λ kinds. follows kinds Start >>= is_whole >>= λ whole. with_lines kinds nothing_told) t a.2 in
    let c = bind_ok (follows b.0 Start >>= is_whole) (λ whole. with_lines b.0 nothing_told) t b.2 in
    let d = bind_ok (follows b.0 Start) is_whole c.0 c.1 in
    let are = whole_lines text a.0 b.0 (lines_text text a.0 a.1) b.1 (d.1 ∙ ap Ok (over_whole d.0 c.0 d.2)) in
    (numbered 1 b.0, are, ap (λ (x : List LineKind). with_lines x nothing_told) (shown_kinds 1 b.0) ∙ c.2)
