-- What stands in a journal, by numbers and places.
use Rattle.std.proofs.Common.{◌≡◌, inl, inr, ℕ, zero, suc, ◌+◌, ◌<◌, ◌≤◌, List, [], ◌∷◌, ◌++◌, Option, None, Some, option_map, length, map, take, drop, get_or, append_assoc, ap, sym, subst, ◌∙◌, refl, arith, length-append}
use Rattle.std.specs.List.{slice_get, slice_range}
use Rattle.std.proofs.lemmas.List.{drop_more, get_or-map, length-map, take-append-drop}
use Rattle.std.proofs.lemmas.Option.{slice_get-get_or, slice_get-map, slice_get_cases, slice_get_past}
use Rattle.journal_text.specs.Heads.{first_stamp}
use Rattle.kernel_entries.specs.declared.entry.Entry.{Entry}
use Rattle.written_journal.specs.Kept.{AreKept, Happenings, IsStored, event_of, happenings}
use Rattle.written_journal.specs.Lines.{lines_of}
use Rattle.packed_lines.specs.Packed.{kept, kept_text, line_note}
use Rattle.written_journal.specs.Told.{Told}
use Rattle.packed_lines.specs.declared.kept_lines.KeptLines.{KeptLines}
use Rattle.written_journal.specs.declared.written.Event.{Event}
use Rattle.written_journal.specs.declared.written.Written.{Written}
use Rattle.written_journal.proofs.Texts.{at-drop, slice-at, text_of-is}
use Rattle.packed_lines.proofs.Texts.{kept_text-append}

-- what contracts see of a journal is kept
pub are-kept : (w : Written) (b : KeptLines) (from : Option ℕ) (t : Told) (value : Happenings) → IsStored w b from t → happenings t ≡ value → AreKept w value.entries
are-kept w b from t value is view = subst (λ (es : List Entry). AreKept w es) (ap (λ (v : Happenings). v.entries) view) is.kept

-- ---- an event

pub record IsEventAt (w : Written) (es : List Entry) (e : Entry) (number : ℕ) : Type 0 where
  pub is : (d : Event) → get_or w.events.items number d ≡ event_of (take number es) e
  pub within : number < length w.events.items

pub event-at : (w : Written) (es : List Entry) (number : ℕ) (e : Entry) (rest : List Entry) → AreKept w es → drop number es ≡ e ∷ rest → IsEventAt w es e number
event-at w es number e rest kept left =
    let at = at-drop es number e rest left in
    let within : number < length es = at.within in
    record {
      is = λ d. kept.event number within d e ∙ ap (event_of (take number es)) (at.here e);
      within = omega (arith, within, kept.long);
    }

-- the first of what is left
first-left : {X : Type 0} (n : ℕ) (xs : List X) → slice_get (drop n xs) 0 ≡ slice_get xs n
first-left zero xs = refl
first-left (suc n) [] = refl
first-left (suc n) (x ∷ xs) = first-left n xs

-- its stamp, as it stands beside the text
pub first_stamp-is : (w : Written) (es : List Entry) (n : ℕ) → AreKept w es → first_stamp (drop n es) ≡ option_map (λ (ev : Event). ev.stamp) (slice_get w.events.items n)
first_stamp-is w es n kept =
    slice_get-map (λ e. e.stamp) (drop n es) 0 ∙ ap (option_map (λ e. e.stamp)) (first-left n es)
    ∙ elim (slice_get_cases es n).1 [
      | inl s ↦
          let event : Event = event_of es s.0 in
          let found : slice_get w.events.items n ≡ Some (get_or w.events.items n event) = slice_get-get_or w.events.items n event (omega (arith, s.1, kept.long)) in
          ap (option_map (λ (e : Entry). e.stamp)) s.2 ∙ ap (λ (e : Entry). Some e.stamp) (sym s.3)
          ∙ sym (ap (option_map (λ (ev : Event). ev.stamp)) found ∙ ap (λ (ev : Event). Some ev.stamp) (kept.event n s.1 event s.0))
      | inr s ↦ ap (option_map (λ (e : Entry). e.stamp)) s.1 ∙ sym (ap (option_map (λ (ev : Event). ev.stamp)) (slice_get_past w.events.items n (omega (arith, s.0, kept.long))))
    ]

-- ---- a line

pub record IsLineAt (w : Written) (text : List ℕ) (number from : ℕ) : Type 0 where
  pub note : (d : ℕ) → get_or w.notes.items number d ≡ line_note text
  pub within : number < length w.notes.items
  pub part : slice_range w.text.items from (from + length (kept text)) ≡ kept text
  pub part_within : from + length (kept text) ≤ length w.text.items

line-at : (w : Written) (es : List Entry) (number from : ℕ) → AreKept w es → number < length (lines_of es) → from ≡ length (kept_text (take number (lines_of es))) → IsLineAt w (get_or (lines_of es) number []) number from
line-at w es number from is below at =
    record {
      note = λ d. ap (λ ns. get_or ns number d) is.notes ∙ get_or-map line_note all number [] d below;
      within = omega (arith, below, ap length is.notes, length-map all line_note);
      part = slice-at w.text.items before (kept here) others from (from + length (kept here)) text at refl;
      part_within = omega (arith, at, ap length text, length-append before (kept here ++ others), length-append (kept here) others);
    }
  where
    all : List (List ℕ)
    all = lines_of es

    here : List ℕ
    here = get_or all number []

    before : List ℕ
    before = kept_text (take number all)

    others : List ℕ
    others = kept_text (drop (number + 1) all)

    joined : kept_text all ≡ before ++ (kept here ++ others)
    joined = ap kept_text (sym (take-append-drop number all) ∙ ap (λ l. take number all ++ l) (drop_more all number [] below)) ∙ kept_text-append (take number all) (here ∷ drop (number + 1) all)

    text : w.text.items ≡ before ++ (kept here ++ others)
    text = is.text ∙ text_of-is es ∙ joined

-- the same, of what contracts see of a journal
pub line-of : (w : Written) (b : KeptLines) (sender : Option ℕ) (t : Told) (value : Happenings) (number from : ℕ) → IsStored w b sender t → happenings t ≡ value → number < length (lines_of value.entries)
    → from ≡ length (kept_text (take number (lines_of value.entries))) → IsLineAt w (get_or (lines_of value.entries) number []) number from
line-of w b sender t value number from is view below at = line-at w value.entries number from (are-kept w b sender t value is view) below at
