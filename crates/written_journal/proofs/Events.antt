-- Events that are kept in a text: where the lines of each stand.
use Rattle.std.proofs.Common.{◌≡◌, inl, inr, ℕ, zero, suc, ◌+◌, ◌<◌, ◌≤◌, List, [], ◌∷◌, ◌++◌, Option, None, Some, option_map, length, map, take, drop, get_or, append_assoc, ap, sym, subst, ◌∙◌, refl, arith, length-append}
use Rattle.std.specs.List.{slice_get, slice_range}
use Rattle.std.proofs.lemmas.Bool.Decides.{leb_tells}
use Rattle.std.proofs.lemmas.List.{drop_more, get_or-take, get_or_append_left, get_or_push, length-map, length-take-le, map-append, take-append-drop, take-append-le, take-take, take_all, take_at, take_more}
use Rattle.std.proofs.lemmas.Option.{slice_get-get_or, slice_get_cases, slice_get_past}
use Rattle.charlotte_calls.specs.declared.calls.ServiceStep.{ServiceStep}
use Rattle.transcript_lines.specs.Transcript.{line, step_text}
use Rattle.kernel_entries.specs.declared.entry.Entry.{Entry}
use Rattle.written_journal.specs.Kept.{AreKept, HasSame, event_of, sender_of}
use Rattle.packed_lines.specs.Lines.{happened_line, step_lines, AreLines}
use Rattle.written_journal.specs.Lines.{kept_lines, lines_of, text_of}
use Rattle.written_journal.specs.Noted.{numbered}
use Rattle.packed_lines.specs.Packed.{kept_text, line_note}
use Rattle.packed_lines.specs.declared.kept_lines.KeptLines.{KeptLines}
use Rattle.written_journal.specs.declared.written.Event.{Event}
use Rattle.written_journal.specs.declared.written.Written.{Written}
use Rattle.written_journal.proofs.Texts.{lines_of-append, lines_of-nil, lines_of-push, slice-at, text_of-append, text_of-nil, text_of-push}
use Rattle.packed_lines.proofs.Texts.{kept_text-append}

-- no events
pub nothing-kept : (w : Written) → w.text.items ≡ [] → w.notes.items ≡ [] → w.events.items ≡ [] → AreKept w []
nothing-kept w text notes events =
    record {
      text = text ∙ sym text_of-nil;
      notes = notes ∙ sym (ap (map line_note) lines_of-nil);
      long = ap length events;
      event = λ n below d x. absurd (omega (arith, below));
    }

-- the same events
pub same-kept : (old new : Written) (es : List Entry) → HasSame old new → AreKept old es → AreKept new es
same-kept old new es same kept =
    record {
      text = same.text ∙ kept.text;
      notes = same.notes ∙ kept.notes;
      long = ap length same.events ∙ kept.long;
      event = λ n below d x. ap (λ (evs : List Event). get_or evs n d) same.events ∙ kept.event n below d x;
    }

abbrev event_with : ℕ → Option ℕ → ℕ → ℕ → ℕ → Event
event_with stamp from lines before bytes = record { stamp = stamp; from = from; lines = lines; lines_before = before; bytes_before = bytes }

event-parts : (s : ℕ) (f g : Option ℕ) (a b l m y z : ℕ) → f ≡ g → a ≡ b → l ≡ m → y ≡ z → event_with s f a l y ≡ event_with s g b m z
event-parts s f g a b l m y z from lines before bytes =
    ap (λ (x : Option ℕ). event_with s x a l y) from ∙ ap (λ (x : ℕ). event_with s g x l y) lines ∙ ap (λ (x : ℕ). event_with s g b x y) before
    ∙ ap (λ (x : ℕ). event_with s g b m x) bytes

-- ---- one event more

module _ (old new : Written) (begun steps : KeptLines) (from : Option ℕ) (es : List Entry) (e : Entry) (kept : AreKept old es) (first : AreLines begun (happened_line e.what ∷ [])) (rest : AreLines steps (step_lines e.steps)) (sender : from ≡ sender_of e.what) where
  abbrev added : Event
  added = record { stamp = e.stamp; from = from; lines = length begun.notes.items + length steps.notes.items; lines_before = length old.notes.items; bytes_before = length old.text.items }

  added-is : added ≡ event_of es e
  added-is =
      event-parts e.stamp from (sender_of e.what) (length begun.notes.items + length steps.notes.items) (length e.steps + 1) (length old.notes.items) (length (lines_of es)) (length old.text.items) (length (text_of es)) sender
      (omega (arith, ap length first.notes, ap length rest.notes, length-map (step_lines e.steps) line_note, length-map e.steps (λ s. line (step_text s))))
      (ap length kept.notes ∙ length-map (lines_of es) line_note) (ap length kept.text)

  module _ (text : new.text.items ≡ (old.text.items ++ begun.text.items) ++ steps.text.items) (notes : new.notes.items ≡ (old.notes.items ++ begun.notes.items) ++ steps.notes.items) (events : new.events.items ≡ old.events.items ++ added ∷ []) where
    event-there : (n : ℕ) → n < length (es ++ e ∷ []) → (d : Event) (x : Entry) → get_or new.events.items n d ≡ event_of (take n (es ++ e ∷ [])) (get_or (es ++ e ∷ []) n x)
    event-there n below d x =
        ap (λ (evs : List Event). get_or evs n d) events
        ∙ elim (leb_tells (length es) n) [
          | inl w ↦
              let last : n ≡ length es = omega (arith, below, length-append es (e ∷ []), w.1) in
              get_or_push old.events.items added d n (omega (arith, last, kept.long)) ∙ added-is
              ∙ ap (λ (y : Entry). event_of es y) (sym (get_or_push es e x n (sym last)))
              ∙ ap (λ (xs : List Entry). event_of xs (get_or (es ++ e ∷ []) n x)) (sym (take_at es (e ∷ []) n (sym last)))
          | inr w ↦
              let before : n < length es = w.1 in
              get_or_append_left old.events.items (added ∷ []) d n (omega (arith, before, kept.long)) ∙ kept.event n before d x
              ∙ ap (λ (y : Entry). event_of (take n es) y) (sym (get_or_append_left es (e ∷ []) x n before))
              ∙ ap (λ (xs : List Entry). event_of xs (get_or (es ++ e ∷ []) n x)) (sym (take-append-le n es (e ∷ []) (omega (arith, before))))
        ]

    pub appended : AreKept new (es ++ e ∷ [])
    appended =
        record {
          text = text ∙ append_assoc old.text.items begun.text.items steps.text.items ∙ ap (λ t. t ++ (begun.text.items ++ steps.text.items)) kept.text
              ∙ ap (λ t. text_of es ++ (t ++ steps.text.items)) first.text ∙ ap (λ t. text_of es ++ (kept_text (happened_line e.what ∷ []) ++ t)) rest.text
              ∙ ap (λ t. text_of es ++ t) (sym (kept_text-append (happened_line e.what ∷ []) (step_lines e.steps))) ∙ sym (text_of-push es e);
          notes = notes ∙ append_assoc old.notes.items begun.notes.items steps.notes.items ∙ ap (λ ns. ns ++ (begun.notes.items ++ steps.notes.items)) kept.notes
              ∙ ap (λ ns. map line_note (lines_of es) ++ (ns ++ steps.notes.items)) first.notes ∙ ap (λ ns. map line_note (lines_of es) ++ (line_note (happened_line e.what) ∷ ns)) rest.notes
              ∙ sym (map-append line_note (lines_of es) (kept_lines e)) ∙ ap (map line_note) (sym (lines_of-push es e));
          long = omega (arith, ap length events, length-append old.events.items (added ∷ []), length-append es (e ∷ []), kept.long);
          event = event-there;
        }

-- ---- the first events

pub some-entry : (es : List Entry) (n : ℕ) → n < length es → Entry
some-entry [] n below = absurd (omega (arith, below))
some-entry (e ∷ es) n below = e

parts : (es : List Entry) (n : ℕ) → lines_of es ≡ lines_of (take n es) ++ lines_of (drop n es)
parts es n = ap lines_of (sym (take-append-drop n es)) ∙ lines_of-append (take n es) (drop n es)

text-parts : (es : List Entry) (n : ℕ) → text_of es ≡ text_of (take n es) ++ text_of (drop n es)
text-parts es n = ap text_of (sym (take-append-drop n es)) ∙ text_of-append (take n es) (drop n es)

pub cut-kept : (old new : Written) (es : List Entry) (n : ℕ) (ev : Event) → AreKept old es → slice_get old.events.items n ≡ Some ev → new.text.items ≡ take ev.bytes_before old.text.items
    → new.notes.items ≡ take ev.lines_before old.notes.items → new.events.items ≡ take n old.events.items → AreKept new (take n es)
cut-kept old new es n ev kept found text notes events =
    record {
      text = text ∙ ap (λ t. take ev.bytes_before t) (kept.text ∙ text-parts es n) ∙ take_at (text_of (take n es)) (text_of (drop n es)) ev.bytes_before (sym bytes);
      notes = notes ∙ ap (λ ns. take ev.lines_before ns) (kept.notes ∙ ap (map line_note) (parts es n) ∙ map-append line_note (lines_of (take n es)) (lines_of (drop n es)))
          ∙ take_at (map line_note (lines_of (take n es))) (map line_note (lines_of (drop n es))) ev.lines_before (length-map (lines_of (take n es)) line_note ∙ sym lines);
      long = ap length events ∙ length-take-le n old.events.items (omega (arith, within, kept.long)) ∙ sym (length-take-le n es (omega (arith, within)));
      event = λ m below d x.
          let first : m < n = omega (arith, below, length-take-le n es (omega (arith, within))) in
          ap (λ (evs : List Event). get_or evs m d) events ∙ get_or-take n old.events.items m d first ∙ kept.event m (omega (arith, first, within)) d x
          ∙ ap (λ (y : Entry). event_of (take m es) y) (sym (get_or-take n es m x first))
          ∙ ap (λ (xs : List Entry). event_of xs (get_or (take n es) m x)) (sym (take-take m n es (omega (arith, first))));
    }
  where
    there : n < length old.events.items
    there = elim (leb_tells (length old.events.items) n) [
      | inl w ↦ let none : slice_get old.events.items n ≡ None = slice_get_past old.events.items n w.1 in absurd (cc)
      | inr w ↦ w.1
    ]

    within : n < length es
    within = omega (arith, there, kept.long)

    here : (x : Entry) → ev ≡ event_of (take n es) (get_or es n x)
    here x =
        let read : slice_get old.events.items n ≡ Some (get_or old.events.items n ev) = slice_get-get_or old.events.items n ev there in
        let same : ev ≡ get_or old.events.items n ev = cc in
        same ∙ kept.event n within ev x

    bytes : ev.bytes_before ≡ length (text_of (take n es))
    bytes = ap (λ (v : Event). v.bytes_before) (here (some-entry es n within))

    lines : ev.lines_before ≡ length (lines_of (take n es))
    lines = ap (λ (v : Event). v.lines_before) (here (some-entry es n within))

-- no event is left out
pub all-kept : (w : Written) (es : List Entry) (n : ℕ) → AreKept w es → slice_get w.events.items n ≡ None → AreKept w (take n es)
all-kept w es n kept none =
    elim (leb_tells (length w.events.items) n) [
      | inl v ↦ subst (λ (xs : List Entry). AreKept w xs) (sym (take_all n es (omega (arith, v.1, kept.long)))) kept
      | inr v ↦
          let is = slice_get_cases w.events.items n in
          elim is.1 [ inl s ↦ let some = s.2 in absurd (cc) | inr s ↦ absurd (omega (arith, s.0, v.1)) ]
    ]

-- ---- one event alone

pub one-is : (es : List Entry) (n : ℕ) (x : Entry) → n < length es → numbered n es ≡ get_or es n x ∷ []
one-is es n x below = ap (take 1) (drop_more es n x below)

-- up to the end of an event
pub upto-next : (w : Written) (es : List Entry) (n : ℕ) (ev : Event) → AreKept w es → slice_get w.events.items n ≡ Some ev → ev.bytes_before ≡ length (text_of (take n es))
upto-next w es n ev kept found =
    elim (slice_get_cases es n).1 [
      | inl s ↦
          let there : n < length w.events.items = omega (arith, s.1, kept.long) in
          let read : slice_get w.events.items n ≡ Some (get_or w.events.items n ev) = slice_get-get_or w.events.items n ev there in
          let same : ev ≡ get_or w.events.items n ev = cc in
          ap (λ (v : Event). v.bytes_before) (same ∙ kept.event n s.1 ev s.0)
      | inr s ↦
          let none : slice_get w.events.items n ≡ None = slice_get_past w.events.items n (omega (arith, s.0, kept.long)) in
          absurd (cc)
    ]

pub upto-last : (w : Written) (es : List Entry) (n : ℕ) → AreKept w es → n < length es → slice_get w.events.items (n + 1) ≡ None → length w.text.items ≡ length (text_of (take (n + 1) es))
upto-last w es n kept below none =
    elim (slice_get_cases w.events.items (n + 1)).1 [
      | inl s ↦ let some = s.2 in absurd (cc)
      | inr s ↦ ap length kept.text ∙ ap (λ (xs : List Entry). length (text_of xs)) (sym (take_all (n + 1) es (omega (arith, s.0, kept.long))))
    ]

pub record IsPart (w : Written) (e : Entry) (ev : Event) (upto : ℕ) : Type 0 where
  pub text : slice_range w.text.items ev.bytes_before upto ≡ kept_text (kept_lines e)
  pub notes : slice_range w.notes.items ev.lines_before (ev.lines_before + ev.lines) ≡ map line_note (kept_lines e)
  pub text_within : (ev.bytes_before ≤ upto) × (upto ≤ length w.text.items)
  pub notes_within : ev.lines_before + ev.lines ≤ length w.notes.items

module _ (w : Written) (es : List Entry) (n : ℕ) (x : Entry) (ev : Event) (upto : ℕ) (kept : AreKept w es) (below : n < length es) (is : ev ≡ event_of (take n es) (get_or es n x)) (to : upto ≡ length (text_of (take (n + 1) es))) where
  abbrev here : Entry
  here = get_or es n x

  more : take (n + 1) es ≡ take n es ++ here ∷ []
  more = take_more es n x below

  abbrev behind : List Entry
  behind = drop (n + 1) es

  lines : lines_of es ≡ lines_of (take n es) ++ (kept_lines here ++ lines_of behind)
  lines = parts es (n + 1) ∙ ap (λ (xs : List Entry). lines_of xs ++ lines_of behind) more ∙ ap (λ ls. ls ++ lines_of behind) (lines_of-push (take n es) here)
      ∙ append_assoc (lines_of (take n es)) (kept_lines here) (lines_of behind)

  text : w.text.items ≡ text_of (take n es) ++ (kept_text (kept_lines here) ++ text_of behind)
  text = kept.text ∙ text-parts es (n + 1) ∙ ap (λ (xs : List Entry). text_of xs ++ text_of behind) more ∙ ap (λ t. t ++ text_of behind) (text_of-push (take n es) here)
      ∙ append_assoc (text_of (take n es)) (kept_text (kept_lines here)) (text_of behind)

  notes : w.notes.items ≡ map line_note (lines_of (take n es)) ++ (map line_note (kept_lines here) ++ map line_note (lines_of behind))
  notes = kept.notes ∙ ap (map line_note) lines ∙ map-append line_note (lines_of (take n es)) (kept_lines here ++ lines_of behind)
      ∙ ap (λ ns. map line_note (lines_of (take n es)) ++ ns) (map-append line_note (kept_lines here) (lines_of behind))

  from : ev.bytes_before ≡ length (text_of (take n es))
  from = ap (λ (v : Event). v.bytes_before) is

  long : upto ≡ ev.bytes_before + length (kept_text (kept_lines here))
  long = to ∙ ap (λ (xs : List Entry). length (text_of xs)) more ∙ ap length (text_of-push (take n es) here) ∙ length-append (text_of (take n es)) (kept_text (kept_lines here))
      ∙ ap (λ k. k + length (kept_text (kept_lines here))) (sym from)

  above : ev.lines_before ≡ length (map line_note (lines_of (take n es)))
  above = ap (λ (v : Event). v.lines_before) is ∙ sym (length-map (lines_of (take n es)) line_note)

  many : ev.lines ≡ length (map line_note (kept_lines here))
  many = ap (λ (v : Event). v.lines) is ∙ omega (arith, length-map here.steps (λ s. line (step_text s)), length-map (kept_lines here) line_note)

  pub part : IsPart w here ev upto
  part =
      record {
        text = slice-at w.text.items (text_of (take n es)) (kept_text (kept_lines here)) (text_of behind) ev.bytes_before upto text from long;
        notes = slice-at w.notes.items (map line_note (lines_of (take n es))) (map line_note (kept_lines here)) (map line_note (lines_of behind)) ev.lines_before (ev.lines_before + ev.lines) notes above (ap (λ k. ev.lines_before + k) many);
        text_within = (omega (arith, long), omega (arith, long, from, ap length text, length-append (text_of (take n es)) (kept_text (kept_lines here) ++ text_of behind), length-append (kept_text (kept_lines here)) (text_of behind)));
        notes_within = omega (arith, above, many, ap length notes, length-append (map line_note (lines_of (take n es))) (map line_note (kept_lines here) ++ map line_note (lines_of behind)), length-append (map line_note (kept_lines here)) (map line_note (lines_of behind)));
      }

  alone-at : (evs : List Event) → evs ≡ record { stamp = ev.stamp; from = ev.from; lines = ev.lines; lines_before = 0; bytes_before = 0 } ∷ [] → (m : ℕ) → m < 1 → (d : Event) (y : Entry) → get_or evs m d ≡ event_of (take m (here ∷ [])) (get_or (here ∷ []) m y)
  alone-at evs are zero lt d y =
      ap (λ (l : List Event). get_or l 0 d) are
      ∙ ap (λ (v : Event). event_with v.stamp v.from v.lines 0 0) is
      ∙ event-parts here.stamp (sender_of here.what) (sender_of here.what) (length here.steps + 1) (length here.steps + 1) 0 (length (lines_of [])) 0 (length (text_of [])) refl refl (sym (ap length lines_of-nil)) (sym (ap length text_of-nil))
  alone-at evs are (suc m) lt d y = absurd (omega (arith, lt))

  pub one-kept : (one : Written) → one.text.items ≡ kept_text (kept_lines here) → one.notes.items ≡ map line_note (kept_lines here) → one.events.items ≡ record { stamp = ev.stamp; from = ev.from; lines = ev.lines; lines_before = 0; bytes_before = 0 } ∷ [] → AreKept one (numbered n es)
  one-kept one t ns evs =
      subst (λ (xs : List Entry). AreKept one xs) (sym (one-is es n x below))
      (record {
        text = t ∙ sym (text_of-push [] here ∙ ap (λ b. b ++ kept_text (kept_lines here)) text_of-nil);
        notes = ns ∙ ap (map line_note) (sym (lines_of-push [] here ∙ ap (λ b. b ++ kept_lines here) lines_of-nil));
        long = ap length evs;
        event = alone-at one.events.items evs;
      })

-- the part of an event, by what stands of it
pub part-of : (w : Written) (es : List Entry) (n : ℕ) (ev : Event) (upto : ℕ) (kept : AreKept w es) (below : n < length es) → ev ≡ get_or w.events.items n ev → upto ≡ length (text_of (take (n + 1) es)) → IsPart w (get_or es n (some-entry es n below)) ev upto
part-of w es n ev upto kept below is to = part w es n (some-entry es n below) ev upto kept below (is ∙ kept.event n below ev (some-entry es n below)) to

pub one-of : (w one : Written) (es : List Entry) (n : ℕ) (ev : Event) (upto : ℕ) (kept : AreKept w es) (below : n < length es) → ev ≡ get_or w.events.items n ev → upto ≡ length (text_of (take (n + 1) es))
    → one.text.items ≡ slice_range w.text.items ev.bytes_before upto → one.notes.items ≡ slice_range w.notes.items ev.lines_before (ev.lines_before + ev.lines)
    → one.events.items ≡ record { stamp = ev.stamp; from = ev.from; lines = ev.lines; lines_before = 0; bytes_before = 0 } ∷ [] → AreKept one (numbered n es)
one-of w one es n ev upto kept below is to text notes events =
    let at = part-of w es n ev upto kept below is to in
    one-kept w es n (some-entry es n below) ev upto kept below (is ∙ kept.event n below ev (some-entry es n below)) to one (text ∙ at.text) (notes ∙ at.notes) events
