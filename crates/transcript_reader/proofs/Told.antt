-- What lines tell is what a transcript is made of: the converse of reading a transcript again.
use Rattle.std.proofs.Common.{◌≡◌, ◌⊎◌, inl, inr, ℕ, ◌+◌, ◌<◌, ◌≤◌, ◌&&◌, ◌||◌, codes, true, false, cond, eqb, ltb, leb, List, [], ◌∷◌, ◌++◌, length, map, All, Result, Ok, Err, refl, sym, ap, subst, ◌∙◌, append_assoc, arith}
use Rattle.std.specs.List.{concat, flat_map, join_with_byte}
use Rattle.std.proofs.lemmas.List.Splits.{join_with_byte-slice_split}
use Rattle.std.proofs.lemmas.Bool.{and_parts, eqb-true, ltb-true, leb-true}
use Rattle.std.proofs.lemmas.List.Elements.{All-cons, All-nil}
use Rattle.charlotte_calls.specs.Ranges.{IsU8, IsU64, IsStepInRange}
use Rattle.charlotte_packets.specs.Ranges.{IsPacketInRange, IsPictureInRange}
use Rattle.charlotte_calls.specs.declared.calls.Call.{Call}
use Rattle.charlotte_calls.specs.declared.calls.Call.TheVariants as call
use Rattle.charlotte_calls.specs.declared.calls.ServiceStep.{ServiceStep}
use Rattle.charlotte_calls.specs.declared.calls.ServiceStep.TheVariants as step
use Rattle.charlotte_calls.specs.declared.names.Pid.{Pid}
use Rattle.charlotte_packets.specs.declared.picture.Picture.{Picture}
use Rattle.charlotte_text.specs.Spelling.{number_text, IsCall}
use Rattle.charlotte_calls.specs.declared.setting.Setting.{Setting}
use Rattle.charlotte_text.specs.declared.fault.Fault.{Fault}
use Rattle.charlotte_text.specs.declared.fault.Fault.TheVariants.{Form}
use Rattle.charlotte_text.specs.Reading.{◌>>=◌, parts, words}
use Rattle.charlotte_text.proofs.Steps.{bind_ok, done, ok_is, not_ok, held}
use Rattle.transcript_lines.specs.Transcript.{line, step_text, entry_text, entry_lines, process_lines, process_home_text, wire_text, note_text, last_text}
use Rattle.transcript_lines.specs.TranscriptText.{HasFew, IsShown, IsShownStep, AreRisingNotes, HasNotesOf, IsNoteInRange, IsLastInRange, AreInRange, IsTranscript, HasFewCall}
use Rattle.transcript_lines.specs.declared.last.Last.{Last}
use Rattle.transcript_lines.specs.declared.last.Last.TheVariants.{Quiet, Unsettled, Spent}
use Rattle.transcript_lines.specs.declared.last.ScriptNote.{ScriptNote}
use Rattle.kernel_entries.specs.Ranges.{IsHappenedInRange, IsPlacedInRange}
use Rattle.kernel_entries.specs.declared.entry.Happened.{Happened}
use Rattle.kernel_entries.specs.declared.entry.Happened.TheVariants.{Asked, Took}
use Rattle.kernel_entries.specs.declared.entry.Placed.{Placed}
use Rattle.transcript_reading.specs.Kinds.{full_step}
use Rattle.transcript_reading.specs.Order.{Place, Start, Version, Processes, Wires, Entry, Noted, Over, body, housed, wired, next, follows, is_whole}
use Rattle.transcript_reading.specs.Reading.{Told, ended_lines, lines_of, kinds_of, version_of, whole_of, full_steps, with_entry, with_line, with_lines, nothing_told, told_by}
use Rattle.transcript_reading.specs.Forms.{kind_of}
use Rattle.transcript_reading.specs.declared.line.LineKind.{LineKind}
use Rattle.transcript_reading.specs.declared.line.LineKind.TheVariants as kind
use Rattle.transcript_reading.specs.declared.line.ServiceLine.{ServiceLine}
use Rattle.transcript_reading.specs.declared.line.ServiceLine.TheVariants as service
use Rattle.transcript_forms.proofs.Spelled.{call_range, text_takes, text_again}
use Rattle.transcript_reading.specs.Spelling.{bare_step, kind_text, IsKind}
use Rattle.transcript_reader.specs.Text.{kinds_text}
use Rattle.transcript_reading.proofs.Order.{IsThere}

abbrev nobody : Setting
nobody = record { version = 0; kernels = 0; homes = []; wires = [] }

abbrev pub Each : ℕ → List LineKind → Type 0
Each v [] = Unit {0}
Each v (k ∷ ks) = IsKind v k × Each v ks

-- ---- nothing stands behind the last line

over_ends : (ks : List LineKind) (p : Place) → follows ks Over ≡ Ok p → ks ≡ []
unfolding follows next
over_ends [] p e = refl
over_ends (k ∷ ks) p e = absurd cc

told_last : (last : Last) (ks : List LineKind) (t : Told) → ks ≡ [] → with_lines (kind.End last ∷ ks) nothing_told ≡ Ok t → record nothing_told { last = last } ≡ t
unfolding with_lines with_line
told_last last ks t e h = ok_is (record nothing_told { last = last }) t (sym (ap (λ (x : List LineKind). with_lines x nothing_told >>= with_line (kind.End last)) e) ∙ h)

-- ---- notes and the last line

abbrev end_lines : Told → List (List ℕ)
end_lines t = map (λ n. line (note_text n)) t.notes ++ line (last_text t.last) ∷ []

-- a last line of a script
abbrev IsOfScript : Last → Type 0
IsOfScript Quiet = Unit {0}
IsOfScript Unsettled = Unit {0}
IsOfScript (Spent kernel) = ⊥

record IsEnding (ks : List LineKind) (t : Told) : Type 0 where
  setting : t.setting ≡ nobody
  steps : t.steps ≡ []
  entries : t.entries ≡ []
  text : kinds_text ks ≡ concat (end_lines t)
  lines : All IsNoteInRange t.notes
  ending : IsLastInRange t.last

record IsNoted (before : ScriptNote) (ks : List LineKind) (t : Told) : Type 0 where
  ends : IsEnding ks t
  rising : AreRisingNotes (before ∷ t.notes)
  script : IsOfScript t.last

last_ending : (v : ℕ) (last : Last) (ks : List LineKind) (t : Told) → ks ≡ [] → IsLastInRange last → with_lines (kind.End last ∷ ks) nothing_told ≡ Ok t → IsEnding (kind.End last ∷ ks) t × (t.notes ≡ []) × (t.last ≡ last)
last_ending v last ks t e is w =
    let made : Told = record nothing_told { last = last } in
    subst (λ (x : Told). IsEnding (kind.End last ∷ ks) x × (x.notes ≡ []) × (x.last ≡ last)) (told_last last ks t e w) (
      record {
        setting = refl;
        steps = refl;
        entries = refl;
        text = ap (λ (x : List LineKind). kinds_text (kind.End last ∷ x)) e;
        lines = All-nil IsNoteInRange;
        ending = is;
      },
      refl,
      refl,
    )

note_ending : (n : ScriptNote) (ks : List LineKind) (u : Told) → IsNoteInRange n → IsEnding ks u → IsEnding (kind.Note n ∷ ks) (record u { notes = n ∷ u.notes })
note_ending n ks u is e = record {
  setting = e.setting;
  steps = e.steps;
  entries = e.entries;
  text = ap (λ (x : List ℕ). line (note_text n) ++ x) e.text;
  lines = All-cons IsNoteInRange n u.notes is e.lines;
  ending = e.ending;
}

rising_of : (n : ScriptNote) (ns : List ScriptNote) → AreRisingNotes (n ∷ ns) → AreRisingNotes ns
rising_of n [] r = tt
rising_of n (m ∷ ms) r = r.1

noted_told : (v : ℕ) (before : ScriptNote) (ks : List LineKind) (t : Told) → follows ks (Noted before.line) ≡ Ok Over → Each v ks → with_lines ks nothing_told ≡ Ok t → IsNoted before ks t
unfolding follows next with_lines with_line
noted_told v before [] t f each w = absurd cc
noted_told v before (kind.First n ∷ ks) t f each w = absurd cc
noted_told v before (kind.Kernels n ∷ ks) t f each w = absurd cc
noted_told v before (kind.Process p n ∷ ks) t f each w = absurd cc
noted_told v before (kind.Wire p q ∷ ks) t f each w = absurd cc
noted_told v before (kind.CallEntry stamp kernel p c ∷ ks) t f each w = absurd cc
noted_told v before (kind.PacketEntry stamp kernel from picture ∷ ks) t f each w = absurd cc
noted_told v before (kind.Service s ∷ ks) t f each w = absurd cc
noted_told v before (kind.Note n ∷ ks) t f each w =
    let a = bind_ok (cond (ltb before.line n.line) (Ok (Noted n.line)) (Err Form)) (follows ks) Over f in
    let k = held (ltb before.line n.line) (Ok (Noted n.line)) Form a.0 a.1 in
    let b = bind_ok (with_lines ks nothing_told) (with_line (kind.Note n)) t w in
    let goes : follows ks (Noted n.line) ≡ Ok Over = ap (follows ks) (ok_is (Noted n.line) a.0 k.1) ∙ a.2 in
    let more = noted_told v n ks b.0 goes each.1 b.1 in
    subst (IsNoted before (kind.Note n ∷ ks)) (ok_is (record b.0 { notes = n ∷ b.0.notes }) t b.2)
    (record { ends = note_ending n ks b.0 each.0 more.ends; rising = (ltb-true before.line n.line k.0, more.rising); script = more.script })
noted_told v before (kind.End Quiet ∷ ks) t f each w = let e = last_ending v Quiet ks t (over_ends ks Over f) each.0 w in record { ends = e.0; rising = rw e.1 tt; script = rw e.2 tt }
noted_told v before (kind.End Unsettled ∷ ks) t f each w = let e = last_ending v Unsettled ks t (over_ends ks Over f) each.0 w in record { ends = e.0; rising = rw e.1 tt; script = rw e.2 tt }
noted_told v before (kind.End (Spent n) ∷ ks) t f each w = absurd cc

-- ---- steps

-- a step that was told has the line of what it shows
abbrev IsTold : ℕ → Happened → ServiceLine → ServiceStep → Type 0
IsTold v what s x = (step_text (bare_step s) ≡ step_text x) × IsStepInRange x × IsShownStep v what x

step_told : (v : ℕ) (what : Happened) (s : ServiceLine) (x : ServiceStep) → IsHappenedInRange what → IsKind v (kind.Service s) → full_step what s ≡ Ok x → IsTold v what s x
step_told v (Asked p c) (service.Make a b) x range is e = subst (IsTold v (Asked p c) (service.Make a b)) (ok_is (step.Make p a b) x e) (refl, (range.0, is.0.1, is.0.2), refl)
step_told v (Asked p c) (service.Refuse q cause) x range is e = subst (IsTold v (Asked p c) (service.Refuse q cause)) (ok_is (step.Refuse q c cause) x e) (refl, (is.0.0, range.1), refl)
step_told v (Asked p (call.Send on bytes enclose)) (service.Send from n ends) x range is e =
    subst (IsTold v (Asked p (call.Send on bytes enclose)) (service.Send from n ends)) (ok_is (step.Send from n bytes ends) x e) (refl, (is.0.0, is.0.1, range.1.1, is.0.3), (refl, is.1))
step_told v (Asked p call.Make) (service.Send from n ends) x range is e = absurd (not_ok x Form e)
step_told v (Asked p (call.Destroy to)) (service.Send from n ends) x range is e = absurd (not_ok x Form e)
step_told v (Asked p (call.Receive to)) (service.Send from n ends) x range is e = absurd (not_ok x Form e)
step_told v (Asked p (call.Cancel to way)) (service.Send from n ends) x range is e = absurd (not_ok x Form e)
step_told v (Asked p call.Wait) (service.Send from n ends) x range is e = absurd (not_ok x Form e)
step_told v (Asked p (call.Print text)) (service.Send from n ends) x range is e = absurd (not_ok x Form e)
step_told v (Asked p call.Exit) (service.Send from n ends) x range is e = absurd (not_ok x Form e)
step_told v (Asked p c) (service.Report q r) x range is e = subst (IsTold v (Asked p c) (service.Report q r)) (ok_is (step.Report q r) x e) (refl, is.0, is.1)
step_told v (Asked p c) (service.Destroy on) x range is e = subst (IsTold v (Asked p c) (service.Destroy on)) (ok_is (step.Destroy on) x e) (refl, is.0, tt)
step_told v (Asked p c) (service.Receive on) x range is e = subst (IsTold v (Asked p c) (service.Receive on)) (ok_is (step.Receive on) x e) (refl, is.0, tt)
step_told v (Asked p c) (service.Cancel on way) x range is e = subst (IsTold v (Asked p c) (service.Cancel on way)) (ok_is (step.Cancel on way) x e) (refl, is.0, tt)
step_told v (Asked p c) (service.Wait q) x range is e = subst (IsTold v (Asked p c) (service.Wait q)) (ok_is (step.Wait q) x e) (refl, is.0, tt)
step_told v (Asked p c) (service.Exit q) x range is e = subst (IsTold v (Asked p c) (service.Exit q)) (ok_is (step.Exit q) x e) (refl, is.0, tt)
step_told v (Asked p c) (service.Match on n) x range is e = subst (IsTold v (Asked p c) (service.Match on n)) (ok_is (step.Match on n) x e) (refl, is.0, tt)
step_told v (Asked p c) (service.Take on n q late) x range is e = subst (IsTold v (Asked p c) (service.Take on n q late)) (ok_is (step.Take on n q late) x e) (refl, is.0, tt)
step_told v (Asked p c) (service.Complete on n) x range is e = subst (IsTold v (Asked p c) (service.Complete on n)) (ok_is (step.Complete on n) x e) (refl, is.0, tt)
step_told v (Asked p c) (service.Withdraw on) x range is e = subst (IsTold v (Asked p c) (service.Withdraw on)) (ok_is (step.Withdraw on) x e) (refl, is.0, tt)
step_told v (Asked p c) (service.Free on) x range is e = subst (IsTold v (Asked p c) (service.Free on)) (ok_is (step.Free on) x e) (refl, is.0, tt)
step_told v (Asked p c) (service.Notice on dead) x range is e = subst (IsTold v (Asked p c) (service.Notice on dead)) (ok_is (step.Notice on dead) x e) (refl, is.0, tt)
step_told v (Asked p c) (service.Back on n dead) x range is e = subst (IsTold v (Asked p c) (service.Back on n dead)) (ok_is (step.Back on n dead) x e) (refl, is.0, tt)
step_told v (Took from picture) (service.Report q r) x range is e = subst (IsTold v (Took from picture) (service.Report q r)) (ok_is (step.Report q r) x e) (refl, is.0, is.1)
step_told v (Took from picture) (service.Destroy on) x range is e = subst (IsTold v (Took from picture) (service.Destroy on)) (ok_is (step.Destroy on) x e) (refl, is.0, tt)
step_told v (Took from picture) (service.Receive on) x range is e = subst (IsTold v (Took from picture) (service.Receive on)) (ok_is (step.Receive on) x e) (refl, is.0, tt)
step_told v (Took from picture) (service.Cancel on way) x range is e = subst (IsTold v (Took from picture) (service.Cancel on way)) (ok_is (step.Cancel on way) x e) (refl, is.0, tt)
step_told v (Took from picture) (service.Wait q) x range is e = subst (IsTold v (Took from picture) (service.Wait q)) (ok_is (step.Wait q) x e) (refl, is.0, tt)
step_told v (Took from picture) (service.Exit q) x range is e = subst (IsTold v (Took from picture) (service.Exit q)) (ok_is (step.Exit q) x e) (refl, is.0, tt)
step_told v (Took from picture) (service.Match on n) x range is e = subst (IsTold v (Took from picture) (service.Match on n)) (ok_is (step.Match on n) x e) (refl, is.0, tt)
step_told v (Took from picture) (service.Take on n q late) x range is e = subst (IsTold v (Took from picture) (service.Take on n q late)) (ok_is (step.Take on n q late) x e) (refl, is.0, tt)
step_told v (Took from picture) (service.Complete on n) x range is e = subst (IsTold v (Took from picture) (service.Complete on n)) (ok_is (step.Complete on n) x e) (refl, is.0, tt)
step_told v (Took from picture) (service.Withdraw on) x range is e = subst (IsTold v (Took from picture) (service.Withdraw on)) (ok_is (step.Withdraw on) x e) (refl, is.0, tt)
step_told v (Took from picture) (service.Free on) x range is e = subst (IsTold v (Took from picture) (service.Free on)) (ok_is (step.Free on) x e) (refl, is.0, tt)
step_told v (Took from picture) (service.Notice on dead) x range is e = subst (IsTold v (Took from picture) (service.Notice on dead)) (ok_is (step.Notice on dead) x e) (refl, is.0, tt)
step_told v (Took from picture) (service.Back on n dead) x range is e = subst (IsTold v (Took from picture) (service.Back on n dead)) (ok_is (step.Back on n dead) x e) (refl, is.0, tt)
step_told v (Took from picture) (service.Make a b) x range is e = absurd (not_ok x Form e)
step_told v (Took from picture) (service.Refuse q cause) x range is e = absurd (not_ok x Form e)
step_told v (Took from picture) (service.Send on n ends) x range is e = absurd (not_ok x Form e)

-- the steps below an entry
abbrev step_lines : List ServiceLine → List (List ℕ)
step_lines ss = map (λ s. line (step_text (bare_step s))) ss

record AreTold (v : ℕ) (what : Happened) (ss : List ServiceLine) (xs : List ServiceStep) : Type 0 where
  text : step_lines ss ≡ map (λ s. line (step_text s)) xs
  range : All IsStepInRange xs
  shown : All (IsShownStep v what) xs

abbrev EachStep : ℕ → List ServiceLine → Type 0
EachStep v [] = Unit {0}
EachStep v (s ∷ ss) = IsKind v (kind.Service s) × EachStep v ss

steps_told : (v : ℕ) (what : Happened) (ss : List ServiceLine) (xs : List ServiceStep) → IsHappenedInRange what → EachStep v ss → full_steps what ss ≡ Ok xs → AreTold v what ss xs
unfolding full_steps
steps_told v what [] xs range each e = subst (AreTold v what []) (ok_is [] xs e) (record { text = refl; range = All-nil IsStepInRange; shown = All-nil (IsShownStep v what) })
steps_told v what (s ∷ ss) xs range each e =
    let a = bind_ok (full_step what s) (λ x. full_steps what ss >>= λ ys. Ok (x ∷ ys)) xs e in
    let b = bind_ok (full_steps what ss) (λ ys. Ok (a.0 ∷ ys)) xs a.2 in
    let one = step_told v what s a.0 range each.0 a.1 in
    let more = steps_told v what ss b.0 range each.1 b.1 in
    subst (AreTold v what (s ∷ ss)) (ok_is (a.0 ∷ b.0) xs b.2) (record {
      text = ap (λ (t : List ℕ). line t ∷ step_lines ss) one.0 ∙ ap (λ (ts : List (List ℕ)). line (step_text a.0) ∷ ts) more.text;
      range = All-cons IsStepInRange a.0 b.0 one.1 more.range;
      shown = All-cons (IsShownStep v what) a.0 b.0 one.2 more.shown;
    })

-- ---- entries

-- entries, notes and the last line of a transcript
record AreRest (v : ℕ) (entries : List Placed) (notes : List ScriptNote) (last : Last) : Type 0 where
  values : AreInRange entries notes last
  shown : All (IsShown v) entries
  rising : AreRisingNotes notes
  spent : HasNotesOf last notes

abbrev rest_lines : Told → List (List ℕ)
rest_lines t = flat_map entry_lines t.entries ++ end_lines t

-- what the lines from a step or an entry on tell
record IsBody (v : ℕ) (ks : List LineKind) (t : Told) : Type 0 where
  setting : t.setting ≡ nobody
  steps : EachStep v t.steps
  text : kinds_text ks ≡ concat (step_lines t.steps ++ rest_lines t)
  rest : AreRest v t.entries t.notes t.last

-- the same, where no step comes first
record IsBegun (v : ℕ) (ks : List LineKind) (t : Told) : Type 0 where
  whole : IsBody v ks t
  steps : t.steps ≡ []

no_notes : (last : Last) (ns : List ScriptNote) → ns ≡ [] → HasNotesOf last ns
no_notes Quiet ns e = tt
no_notes Unsettled ns e = tt
no_notes (Spent n) ns e = e

script_notes : (last : Last) (ns : List ScriptNote) → IsOfScript last → HasNotesOf last ns
script_notes Quiet ns is = tt
script_notes Unsettled ns is = tt
script_notes (Spent n) ns is = absurd is

no_steps : (v : ℕ) (ss : List ServiceLine) → ss ≡ [] → EachStep v ss
no_steps v [] e = tt
no_steps v (s ∷ ss) e = absurd cc

no_rising : (ns : List ScriptNote) → ns ≡ [] → AreRisingNotes ns
no_rising [] e = tt
no_rising (n ∷ ns) e = absurd cc

-- notes and the last line are what is left
end_begun : (v : ℕ) (ks : List LineKind) (t : Told) → IsEnding ks t → AreRisingNotes t.notes → HasNotesOf t.last t.notes → IsBegun v ks t
end_begun v ks t e rising spent = record {
  whole = record {
    setting = e.setting;
    steps = no_steps v t.steps e.steps;
    text = e.text ∙ sym (ap (λ (x : List ServiceLine). concat (step_lines x ++ rest_lines t)) e.steps ∙ ap (λ (x : List Placed). concat (flat_map entry_lines x ++ end_lines t)) e.entries);
    rest = record {
      values = record { entries = rw e.entries (All-nil IsPlacedInRange); lines = e.lines; ending = e.ending };
      shown = rw e.entries (All-nil (IsShown v));
      rising = rising;
      spent = spent;
    };
  };
  steps = e.steps;
}

abbrev placed : ℕ → ℕ → Happened → List ServiceStep → Placed
placed stamp kernel what steps = record { kernel = kernel; entry = record { stamp = stamp; what = what; steps = steps } }

entry_begun : (v stamp kernel : ℕ) (what : Happened) (k : LineKind) (ks : List LineKind) (u t : Told) → IsU64 stamp → IsU8 kernel → IsHappenedInRange what → HasFew v what
    → kind_text k ≡ entry_text (placed stamp kernel what []) → IsBody v ks u → with_entry stamp kernel what u ≡ Ok t → IsBegun v (k ∷ ks) t
unfolding with_entry
entry_begun v stamp kernel what k ks u t stamped below range few same is w =
    let a = bind_ok (full_steps what u.steps) (λ steps. Ok (record u { steps = []; entries = placed stamp kernel what steps ∷ u.entries })) t w in
    let told = steps_told v what u.steps a.0 range is.steps a.1 in
    let p : Placed = placed stamp kernel what a.0 in
    subst (IsBegun v (k ∷ ks)) (ok_is (record u { steps = []; entries = p ∷ u.entries }) t a.2) (record {
      whole = record {
        setting = is.setting;
        steps = tt;
        text = ap (λ (x : List ℕ). line (kind_text k) ++ x) is.text ∙ ap (λ (x : List ℕ). line x ++ concat (step_lines u.steps ++ rest_lines u)) same
            ∙ ap (λ (x : List (List ℕ)). concat (line (entry_text p) ∷ x ++ rest_lines u)) told.text
            ∙ ap concat (sym (append_assoc (entry_lines p) (flat_map entry_lines u.entries) (end_lines u)));
        rest = record {
          values = record {
            entries = All-cons IsPlacedInRange p u.entries (record { kernel = below; entry = record { stamp = stamped; what = range; steps = told.range } }) is.rest.values.entries;
            lines = is.rest.values.lines;
            ending = is.rest.values.ending;
          };
          shown = All-cons (IsShown v) p u.entries (few, told.shown) is.rest.shown;
          rising = is.rest.rising;
          spent = is.rest.spent;
        };
      };
      steps = refl;
    })

few_call : (v : ℕ) (c : Call) → IsCall v c → HasFewCall v c
few_call v call.Make is = tt
few_call v (call.Destroy on) is = tt
few_call v (call.Send on bytes enclose) is = is.4
few_call v (call.Receive on) is = tt
few_call v (call.Cancel on way) is = tt
few_call v call.Wait is = tt
few_call v (call.Print bytes) is = tt
few_call v call.Exit is = tt

no_stamp : (picture : Picture) → picture.stamp ≡ 0 → IsPacketInRange picture.what → IsPictureInRange picture
no_stamp picture none is = record { stamp = omega arith; what = is }

-- what may stand behind the header and behind an entry
body_told : (v : ℕ) (k : LineKind) (ks : List LineKind) (t : Told) → (body k >>= follows ks) ≡ Ok Over → IsKind v k → Each v ks → with_lines (k ∷ ks) nothing_told ≡ Ok t
    → ((u : Told) → follows ks Entry ≡ Ok Over → with_lines ks nothing_told ≡ Ok u → IsBody v ks u) → IsBegun v (k ∷ ks) t
unfolding with_lines with_line
body_told v (kind.First n) ks t f is each w rest = absurd cc
body_told v (kind.Kernels n) ks t f is each w rest = absurd cc
body_told v (kind.Process p n) ks t f is each w rest = absurd cc
body_told v (kind.Wire p q) ks t f is each w rest = absurd cc
body_told v (kind.Service s) ks t f is each w rest = absurd cc
body_told v (kind.CallEntry stamp kernel p c) ks t f is each w rest =
    let b = bind_ok (with_lines ks nothing_told) (with_entry stamp kernel (Asked p c)) t w in
    entry_begun v stamp kernel (Asked p c) (kind.CallEntry stamp kernel p c) ks b.0 t is.0 is.1 (is.2, call_range v c is.3) (few_call v c is.3) refl (rest b.0 f b.1) b.2
body_told v (kind.PacketEntry stamp kernel from picture) ks t f is each w rest =
    let b = bind_ok (with_lines ks nothing_told) (with_entry stamp kernel (Took from picture)) t w in
    entry_begun v stamp kernel (Took from picture) (kind.PacketEntry stamp kernel from picture) ks b.0 t is.0 is.1 (is.2, no_stamp picture is.3 is.4) is.5 refl (rest b.0 f b.1) b.2
body_told v (kind.Note n) ks t f is each w rest =
    let b = bind_ok (with_lines ks nothing_told) (λ u. Ok (record u { notes = n ∷ u.notes })) t w in
    let more = noted_told v n ks b.0 f each b.1 in
    subst (IsBegun v (kind.Note n ∷ ks)) (ok_is (record b.0 { notes = n ∷ b.0.notes }) t b.2)
    (end_begun v (kind.Note n ∷ ks) (record b.0 { notes = n ∷ b.0.notes }) (note_ending n ks b.0 is more.ends) more.rising (script_notes b.0.last (n ∷ b.0.notes) more.script))
body_told v (kind.End last) ks t f is each w rest =
    let e = last_ending v last ks t (over_ends ks Over f) is w in
    end_begun v (kind.End last ∷ ks) t e.0 (no_rising t.notes e.1) (no_notes t.last t.notes e.1)

entry_told : (v : ℕ) (ks : List LineKind) (t : Told) → follows ks Entry ≡ Ok Over → Each v ks → with_lines ks nothing_told ≡ Ok t → IsBody v ks t
unfolding follows next with_lines with_line
entry_told v [] t f each w = absurd cc
entry_told v (kind.Service s ∷ ks) t f each w =
    let b = bind_ok (with_lines ks nothing_told) (λ u. Ok (record u { steps = s ∷ u.steps })) t w in
    let more = entry_told v ks b.0 f each.1 b.1 in
    subst (IsBody v (kind.Service s ∷ ks)) (ok_is (record b.0 { steps = s ∷ b.0.steps }) t b.2)
    (record { setting = more.setting; steps = (each.0, more.steps); text = ap (λ (x : List ℕ). line (step_text (bare_step s)) ++ x) more.text; rest = more.rest })
entry_told v (kind.First n ∷ ks) t f each w = absurd cc
entry_told v (kind.Kernels n ∷ ks) t f each w = absurd cc
entry_told v (kind.Process p n ∷ ks) t f each w = absurd cc
entry_told v (kind.Wire p q ∷ ks) t f each w = absurd cc
entry_told v (kind.CallEntry stamp kernel p c ∷ ks) t f each w = (body_told v (kind.CallEntry stamp kernel p c) ks t f each.0 each.1 w (λ u g x. entry_told v ks u g each.1 x)).whole
entry_told v (kind.PacketEntry stamp kernel from picture ∷ ks) t f each w = (body_told v (kind.PacketEntry stamp kernel from picture) ks t f each.0 each.1 w (λ u g x. entry_told v ks u g each.1 x)).whole
entry_told v (kind.Note n ∷ ks) t f each w = (body_told v (kind.Note n) ks t f each.0 each.1 w (λ u g x. entry_told v ks u g each.1 x)).whole
entry_told v (kind.End last ∷ ks) t f each w = (body_told v (kind.End last) ks t f each.0 each.1 w (λ u g x. entry_told v ks u g each.1 x)).whole

-- ---- wires

abbrev wires_text : List (Pid × Pid) → List (List ℕ)
wires_text wires = map (λ wire. line (wire_text wire)) wires

-- what the lines from a wire on tell, behind so many wires
record AreWired (v processes wires : ℕ) (ks : List LineKind) (t : Told) : Type 0 where
  setting : t.setting ≡ record nobody { wires = t.setting.wires }
  few : wires + length t.setting.wires ≤ 4096
  there : All (IsThere processes) t.setting.wires
  text : kinds_text ks ≡ concat (wires_text t.setting.wires ++ rest_lines t)
  rest : AreRest v t.entries t.notes t.last

begun_wired : (v processes wires : ℕ) (ks : List LineKind) (t : Told) → wires ≤ 4096 → IsBegun v ks t → AreWired v processes wires ks t
begun_wired v processes wires ks t le is = record {
  setting = is.whole.setting ∙ ap (λ (s : Setting). record nobody { wires = s.wires }) (sym is.whole.setting);
  few = rw is.whole.setting (omega arith);
  there = rw is.whole.setting (All-nil (IsThere processes));
  text = is.whole.text ∙ ap (λ (x : List ServiceLine). concat (step_lines x ++ rest_lines t)) is.steps ∙ ap (λ (s : Setting). concat (wires_text s.wires ++ rest_lines t)) (sym is.whole.setting);
  rest = is.whole.rest;
}

-- a wire between processes that are there
pub record IsWire (processes wires : ℕ) (first second : Pid) (p : Place) : Type 0 where
  pub few : wires < 4096
  pub there : IsThere processes (first, second)
  pub place : Wires processes (wires + 1) ≡ p

abbrev pub placed_ok : Place → Result Place Fault
placed_ok p = Ok p

pub is_wire : (processes wires : ℕ) (first second : Pid) (p : Place) → wired processes wires first second ≡ Ok p → IsWire processes wires first second p
is_wire processes wires first second p e =
    let k = held (ltb wires 4096 && ltb first.0 processes && ltb second.0 processes) (placed_ok (Wires processes (wires + 1))) Form p e in
    let a = and_parts (ltb wires 4096 && ltb first.0 processes) (ltb second.0 processes) k.0 in
    let b = and_parts (ltb wires 4096) (ltb first.0 processes) a.0 in
    record { few = ltb-true wires 4096 b.0; there = (ltb-true first.0 processes b.1, ltb-true second.0 processes a.1); place = ok_is (Wires processes (wires + 1)) p k.1 }

wire_told : (v processes wires : ℕ) (first second : Pid) (ks : List LineKind) (t : Told) → wires < 4096 → IsThere processes (first, second) → with_lines (kind.Wire first second ∷ ks) nothing_told ≡ Ok t
    → ((u : Told) → with_lines ks nothing_told ≡ Ok u → AreWired v processes (wires + 1) ks u) → AreWired v processes wires (kind.Wire first second ∷ ks) t
unfolding with_lines with_line
wire_told v processes wires first second ks t lt there w others =
    let b = bind_ok (with_lines ks nothing_told) (λ u. Ok (record u { setting = record u.setting { wires = (first, second) ∷ u.setting.wires } })) t w in
    let more = others b.0 b.1 in
    subst (AreWired v processes wires (kind.Wire first second ∷ ks)) (ok_is (record b.0 { setting = record b.0.setting { wires = (first, second) ∷ b.0.setting.wires } }) t b.2)
    (record {
      setting = ap (λ (s : Setting). record s { wires = (first, second) ∷ b.0.setting.wires }) more.setting;
      few = omega (arith, more.few);
      there = All-cons (IsThere processes) (first, second) b.0.setting.wires there more.there;
      text = ap (λ (x : List ℕ). line (wire_text (first, second)) ++ x) more.text;
      rest = more.rest;
    })

wires_told : (v processes wires : ℕ) (ks : List LineKind) (t : Told) → wires ≤ 4096 → follows ks (Wires processes wires) ≡ Ok Over → Each v ks → with_lines ks nothing_told ≡ Ok t → AreWired v processes wires ks t
unfolding follows next
wires_told v processes wires [] t le f each w = absurd cc
wires_told v processes wires (kind.Wire first second ∷ ks) t le f each w =
    let a = bind_ok (wired processes wires first second) (follows ks) Over f in
    let is = is_wire processes wires first second a.0 a.1 in
    let goes : follows ks (Wires processes (wires + 1)) ≡ Ok Over = ap (follows ks) is.place ∙ a.2 in
    wire_told v processes wires first second ks t is.few is.there w (λ u x. wires_told v processes (wires + 1) ks u (let lt = is.few in omega arith) goes each.1 x)
wires_told v processes wires (kind.First n ∷ ks) t le f each w = absurd cc
wires_told v processes wires (kind.Kernels n ∷ ks) t le f each w = absurd cc
wires_told v processes wires (kind.Process p n ∷ ks) t le f each w = absurd cc
wires_told v processes wires (kind.Service s ∷ ks) t le f each w = absurd cc
wires_told v processes wires (kind.CallEntry stamp kernel p c ∷ ks) t le f each w =
    begun_wired v processes wires (kind.CallEntry stamp kernel p c ∷ ks) t le (body_told v (kind.CallEntry stamp kernel p c) ks t f each.0 each.1 w (λ u g x. entry_told v ks u g each.1 x))
wires_told v processes wires (kind.PacketEntry stamp kernel from picture ∷ ks) t le f each w =
    begun_wired v processes wires (kind.PacketEntry stamp kernel from picture ∷ ks) t le (body_told v (kind.PacketEntry stamp kernel from picture) ks t f each.0 each.1 w (λ u g x. entry_told v ks u g each.1 x))
wires_told v processes wires (kind.Note n ∷ ks) t le f each w =
    begun_wired v processes wires (kind.Note n ∷ ks) t le (body_told v (kind.Note n) ks t f each.0 each.1 w (λ u g x. entry_told v ks u g each.1 x))
wires_told v processes wires (kind.End last ∷ ks) t le f each w =
    begun_wired v processes wires (kind.End last ∷ ks) t le (body_told v (kind.End last) ks t f each.0 each.1 w (λ u g x. entry_told v ks u g each.1 x))

-- ---- processes

-- what the lines from a process on tell, behind so many processes
record AreHoused (v kernels processes : ℕ) (ks : List LineKind) (t : Told) : Type 0 where
  setting : t.setting ≡ record nobody { homes = t.setting.homes; wires = t.setting.wires }
  few : processes + length t.setting.homes ≤ 64
  homes : All (λ home. home < kernels) t.setting.homes
  few_wires : length t.setting.wires ≤ 4096
  there : All (IsThere (processes + length t.setting.homes)) t.setting.wires
  text : kinds_text ks ≡ concat (process_lines processes t.setting.homes ++ (wires_text t.setting.wires ++ rest_lines t))
  rest : AreRest v t.entries t.notes t.last

more_there : (m n : ℕ) (wires : List (Pid × Pid)) → m ≡ n → All (IsThere m) wires → All (IsThere n) wires
more_there m n wires e all = subst (λ (x : ℕ). All (IsThere x) wires) e all

wired_housed : (v kernels processes : ℕ) (ks : List LineKind) (t : Told) → processes ≤ 64 → AreWired v processes 0 ks t → AreHoused v kernels processes ks t
wired_housed v kernels processes ks t le is =
    let none : t.setting.homes ≡ [] = ap (λ (s : Setting). s.homes) is.setting in
    record {
      setting = is.setting ∙ ap (λ (x : List ℕ). record nobody { homes = x; wires = t.setting.wires }) (sym none);
      few = rw none (omega arith);
      homes = rw none (All-nil (λ home. home < kernels));
      few_wires = omega (arith, is.few);
      there = more_there processes (processes + length t.setting.homes) t.setting.wires (rw none (omega arith)) is.there;
      text = is.text ∙ ap (λ (x : List ℕ). concat (process_lines processes x ++ (wires_text t.setting.wires ++ rest_lines t))) (sym none);
      rest = is.rest;
    }

pub record IsHome (kernels processes : ℕ) (p : Pid) (home : ℕ) (place : Place) : Type 0 where
  pub next : p.0 ≡ processes
  pub few : processes < 64
  pub there : home < kernels
  pub stands : Processes kernels (processes + 1) ≡ place

pub is_home : (kernels processes : ℕ) (p : Pid) (home : ℕ) (place : Place) → housed kernels processes p home ≡ Ok place → IsHome kernels processes p home place
is_home kernels processes p home place e =
    let k = held (eqb p.0 processes && ltb processes 64 && ltb home kernels) (placed_ok (Processes kernels (processes + 1))) Form place e in
    let a = and_parts (eqb p.0 processes && ltb processes 64) (ltb home kernels) k.0 in
    let b = and_parts (eqb p.0 processes) (ltb processes 64) a.0 in
    record { next = eqb-true p.0 processes b.0; few = ltb-true processes 64 b.1; there = ltb-true home kernels a.1; stands = ok_is (Processes kernels (processes + 1)) place k.1 }

home_told : (v kernels processes : ℕ) (p : Pid) (home : ℕ) (ks : List LineKind) (t : Told) → p.0 ≡ processes → home < kernels → with_lines (kind.Process p home ∷ ks) nothing_told ≡ Ok t
    → ((u : Told) → with_lines ks nothing_told ≡ Ok u → AreHoused v kernels (processes + 1) ks u) → AreHoused v kernels processes (kind.Process p home ∷ ks) t
unfolding with_lines with_line
home_told v kernels processes p home ks t same there w others =
    let b = bind_ok (with_lines ks nothing_told) (λ u. Ok (record u { setting = record u.setting { homes = home ∷ u.setting.homes } })) t w in
    let more = others b.0 b.1 in
    let count : (processes + 1) + length b.0.setting.homes ≡ processes + length (home ∷ b.0.setting.homes) = omega arith in
    subst (AreHoused v kernels processes (kind.Process p home ∷ ks)) (ok_is (record b.0 { setting = record b.0.setting { homes = home ∷ b.0.setting.homes } }) t b.2)
    (record {
      setting = ap (λ (s : Setting). record s { homes = home ∷ b.0.setting.homes }) more.setting;
      few = omega (arith, more.few);
      homes = All-cons (λ x. x < kernels) home b.0.setting.homes there more.homes;
      few_wires = more.few_wires;
      there = more_there _ _ b.0.setting.wires count more.there;
      text = ap (λ (x : List ℕ). line (process_home_text p.0 home) ++ x) more.text ∙ ap (λ (n : ℕ). line (process_home_text n home) ++ concat (process_lines (processes + 1) b.0.setting.homes ++ (wires_text b.0.setting.wires ++ rest_lines b.0))) same;
      rest = more.rest;
    })

homes_told : (v kernels processes : ℕ) (ks : List LineKind) (t : Told) → processes ≤ 64 → follows ks (Processes kernels processes) ≡ Ok Over → Each v ks → with_lines ks nothing_told ≡ Ok t → AreHoused v kernels processes ks t
unfolding follows next
homes_told v kernels processes [] t le f each w = absurd cc
homes_told v kernels processes (kind.Process p home ∷ ks) t le f each w =
    let a = bind_ok (housed kernels processes p home) (follows ks) Over f in
    let is = is_home kernels processes p home a.0 a.1 in
    let goes : follows ks (Processes kernels (processes + 1)) ≡ Ok Over = ap (follows ks) is.stands ∙ a.2 in
    home_told v kernels processes p home ks t is.next is.there w (λ u x. homes_told v kernels (processes + 1) ks u (let lt = is.few in omega arith) goes each.1 x)
homes_told v kernels processes (kind.Wire first second ∷ ks) t le f each w =
    let a = bind_ok (wired processes 0 first second) (follows ks) Over f in
    let is = is_wire processes 0 first second a.0 a.1 in
    let goes : follows ks (Wires processes 1) ≡ Ok Over = ap (follows ks) is.place ∙ a.2 in
    wired_housed v kernels processes (kind.Wire first second ∷ ks) t le (wire_told v processes 0 first second ks t is.few is.there w (λ u x. wires_told v processes 1 ks u (omega arith) goes each.1 x))
homes_told v kernels processes (kind.First n ∷ ks) t le f each w = absurd cc
homes_told v kernels processes (kind.Kernels n ∷ ks) t le f each w = absurd cc
homes_told v kernels processes (kind.Service s ∷ ks) t le f each w = absurd cc
homes_told v kernels processes (kind.CallEntry stamp kernel p c ∷ ks) t le f each w =
    wired_housed v kernels processes (kind.CallEntry stamp kernel p c ∷ ks) t le (begun_wired v processes 0 (kind.CallEntry stamp kernel p c ∷ ks) t (omega arith) (body_told v (kind.CallEntry stamp kernel p c) ks t f each.0 each.1 w (λ u g x. entry_told v ks u g each.1 x)))
homes_told v kernels processes (kind.PacketEntry stamp kernel from picture ∷ ks) t le f each w =
    wired_housed v kernels processes (kind.PacketEntry stamp kernel from picture ∷ ks) t le
    (begun_wired v processes 0 (kind.PacketEntry stamp kernel from picture ∷ ks) t (omega arith)
    (body_told v (kind.PacketEntry stamp kernel from picture) ks t f each.0 each.1 w (λ u g x. entry_told v ks u g each.1 x)))
homes_told v kernels processes (kind.Note n ∷ ks) t le f each w =
    wired_housed v kernels processes (kind.Note n ∷ ks) t le (begun_wired v processes 0 (kind.Note n ∷ ks) t (omega arith) (body_told v (kind.Note n) ks t f each.0 each.1 w (λ u g x. entry_told v ks u g each.1 x)))
homes_told v kernels processes (kind.End last ∷ ks) t le f each w =
    wired_housed v kernels processes (kind.End last ∷ ks) t le (begun_wired v processes 0 (kind.End last ∷ ks) t (omega arith) (body_told v (kind.End last) ks t f each.0 each.1 w (λ u g x. entry_told v ks u g each.1 x)))

-- ---- the header

-- what the lines from `kernels` on tell
record AreHeaded (v : ℕ) (ks : List LineKind) (t : Told) : Type 0 where
  some_kernel : 1 ≤ t.setting.kernels
  kernels : t.setting.kernels ≤ 8
  processes : length t.setting.homes ≤ 64
  few_wires : length t.setting.wires ≤ 4096
  homes : All (λ home. home < t.setting.kernels) t.setting.homes
  there : All (IsThere (length t.setting.homes)) t.setting.wires
  text : kinds_text ks ≡ concat (line (codes "kernels " ++ number_text t.setting.kernels) ∷ process_lines 0 t.setting.homes ++ (wires_text t.setting.wires ++ rest_lines t))
  rest : AreRest v t.entries t.notes t.last

kernels_made : (v n : ℕ) (ks : List LineKind) (t : Told) → (leb 1 n && leb n 8) ≡ true → follows ks (Processes n 0) ≡ Ok Over → Each v ks → with_lines (kind.Kernels n ∷ ks) nothing_told ≡ Ok t → AreHeaded v (kind.Kernels n ∷ ks) t
unfolding with_lines with_line
kernels_made v n ks t test goes each w =
    let b = bind_ok (with_lines ks nothing_told) (λ u. Ok (record u { setting = record u.setting { kernels = n } })) t w in
    let more = homes_told v n 0 ks b.0 (omega arith) goes each b.1 in
    let both = and_parts (leb 1 n) (leb n 8) test in
    subst (AreHeaded v (kind.Kernels n ∷ ks)) (ok_is (record b.0 { setting = record b.0.setting { kernels = n } }) t b.2)
    (record {
      some_kernel = leb-true 1 n both.0;
      kernels = leb-true n 8 both.1;
      processes = omega (arith, more.few);
      few_wires = more.few_wires;
      homes = more.homes;
      there = more_there (0 + length b.0.setting.homes) (length b.0.setting.homes) b.0.setting.wires (omega arith) more.there;
      text = ap (λ (x : List ℕ). line (codes "kernels " ++ number_text n) ++ x) more.text;
      rest = more.rest;
    })

kernels_told : (v : ℕ) (ks : List LineKind) (t : Told) → follows ks Version ≡ Ok Over → Each v ks → with_lines ks nothing_told ≡ Ok t → AreHeaded v ks t
unfolding follows next
kernels_told v [] t f each w = absurd cc
kernels_told v (kind.Kernels n ∷ ks) t f each w =
    let a = bind_ok (cond (leb 1 n && leb n 8) (placed_ok (Processes n 0)) (Err Form)) (follows ks) Over f in
    let k = held (leb 1 n && leb n 8) (placed_ok (Processes n 0)) Form a.0 a.1 in
    kernels_made v n ks t k.0 (ap (follows ks) (ok_is (Processes n 0) a.0 k.1) ∙ a.2) each.1 w
kernels_told v (kind.First n ∷ ks) t f each w = absurd cc
kernels_told v (kind.Process p n ∷ ks) t f each w = absurd cc
kernels_told v (kind.Wire p q ∷ ks) t f each w = absurd cc
kernels_told v (kind.CallEntry stamp kernel p c ∷ ks) t f each w = absurd cc
kernels_told v (kind.PacketEntry stamp kernel from picture ∷ ks) t f each w = absurd cc
kernels_told v (kind.Service s ∷ ks) t f each w = absurd cc
kernels_told v (kind.Note n ∷ ks) t f each w = absurd cc
kernels_told v (kind.End last ∷ ks) t f each w = absurd cc

-- ---- the whole

one_or_two : (n : ℕ) → (eqb n 1 || eqb n 2) ≡ true → (n ≡ 1) ⊎ (n ≡ 2)
one_or_two n e = elim (eqb n 1) as (λ b. eqb n 1 ≡ b → (b || eqb n 2) ≡ true → (n ≡ 1) ⊎ (n ≡ 2)) [ true ↦ λ is h. inl (eqb-true n 1 is) | false ↦ λ is h. inr (eqb-true n 2 h) ] refl e

whole_shape : (a b c d e : List (List ℕ)) → a ++ (b ++ (c ++ (d ++ e))) ≡ (((a ++ b) ++ c) ++ d) ++ e
whole_shape a b c d e = simp append_assoc

first_made : (text : List ℕ) (n : ℕ) (ks : List LineKind) (t : Told) → (n ≡ 1) ⊎ (n ≡ 2) → text ≡ kinds_text (kind.First n ∷ ks) → AreHeaded n ks t
    → IsTranscript text (record t.setting { version = n }) t.entries t.notes t.last
first_made text n ks t known spelled is =
    let s : Setting = record t.setting { version = n } in
    record {
      told = record {
        setting = record {
          limits = record { version = known; some_kernel = is.some_kernel; kernels = is.kernels; processes = is.processes; wires = is.few_wires };
          homes = is.homes;
          wires = is.there;
        };
        values = is.rest.values;
        shown = is.rest.shown;
        in_order = is.rest.rising;
        spent = is.rest.spent;
      };
      lines = spelled ∙ ap (λ (x : List ℕ). line (codes "transcript " ++ number_text n) ++ x) is.text
          ∙ ap concat (whole_shape (line (codes "transcript " ++ number_text n) ∷ line (codes "kernels " ++ number_text s.kernels) ∷ process_lines 0 s.homes) (wires_text s.wires) (flat_map entry_lines t.entries) (map (λ x. line (note_text x)) t.notes) (line (last_text t.last) ∷ []));
    }

pub first_place : (n : ℕ) (ks : List LineKind) → follows (kind.First n ∷ ks) Start ≡ Ok Over → follows ks Version ≡ Ok Over
unfolding follows next
first_place n ks f =
    let a = bind_ok (cond (eqb n 1 || eqb n 2) (placed_ok Version) (Err Form)) (follows ks) Over f in
    let k = held (eqb n 1 || eqb n 2) (placed_ok Version) Form a.0 a.1 in
    ap (follows ks) (ok_is Version a.0 k.1) ∙ a.2

first_told : (text : List ℕ) (v n : ℕ) (ks : List LineKind) (t : Told) → v ≡ n → text ≡ kinds_text (kind.First n ∷ ks) → follows (kind.First n ∷ ks) Start ≡ Ok Over → Each v ks → with_lines (kind.First n ∷ ks) nothing_told ≡ Ok t
    → IsTranscript text t.setting t.entries t.notes t.last
unfolding follows next with_lines with_line
first_told text v n ks t same spelled f each w =
    let a = bind_ok (cond (eqb n 1 || eqb n 2) (placed_ok Version) (Err Form)) (follows ks) Over f in
    let k = held (eqb n 1 || eqb n 2) (placed_ok Version) Form a.0 a.1 in
    let goes : follows ks Version ≡ Ok Over = ap (follows ks) (ok_is Version a.0 k.1) ∙ a.2 in
    let b = bind_ok (with_lines ks nothing_told) (λ u. Ok (record u { setting = record u.setting { version = n } })) t w in
    let is : AreHeaded n ks b.0 = subst (λ (x : ℕ). AreHeaded x ks b.0) same (kernels_told v ks b.0 goes each b.1) in
    subst (λ (x : Told). IsTranscript text x.setting x.entries x.notes x.last) (ok_is (record b.0 { setting = record b.0.setting { version = n } }) t b.2)
    (first_made text n ks b.0 (one_or_two n k.0) spelled is)

-- no other line comes first
pub not_first : (k : LineKind) (ks : List LineKind) → next Start k ≡ Err Form → follows (k ∷ ks) Start ≡ Ok Over → ⊥
unfolding follows
not_first k ks fails f = not_ok Over Form (sym (ap (λ (r : Result Place Fault). r >>= follows ks) fails) ∙ f)

pub start_empty : follows [] Start ≡ Ok Over → ⊥
unfolding follows
start_empty e = cc

start_told : (text : List ℕ) (v : ℕ) (ks : List LineKind) (t : Told) → ((n : ℕ) (ms : List LineKind) → ks ≡ kind.First n ∷ ms → v ≡ n) → text ≡ kinds_text ks → follows ks Start ≡ Ok Over → Each v ks → with_lines ks nothing_told ≡ Ok t
    → IsTranscript text t.setting t.entries t.notes t.last
unfolding next
start_told text v [] t same spelled f each w = absurd (start_empty f)
start_told text v (kind.First n ∷ ks) t same spelled f each w = first_told text v n ks t (same n ks refl) spelled f each.1 w
start_told text v (kind.Kernels n ∷ ks) t same spelled f each w = absurd (not_first (kind.Kernels n) ks refl f)
start_told text v (kind.Process p n ∷ ks) t same spelled f each w = absurd (not_first (kind.Process p n) ks refl f)
start_told text v (kind.Wire p q ∷ ks) t same spelled f each w = absurd (not_first (kind.Wire p q) ks refl f)
start_told text v (kind.CallEntry stamp kernel p c ∷ ks) t same spelled f each w = absurd (not_first (kind.CallEntry stamp kernel p c) ks refl f)
start_told text v (kind.PacketEntry stamp kernel from picture ∷ ks) t same spelled f each w = absurd (not_first (kind.PacketEntry stamp kernel from picture) ks refl f)
start_told text v (kind.Service s ∷ ks) t same spelled f each w = absurd (not_first (kind.Service s) ks refl f)
start_told text v (kind.Note n ∷ ks) t same spelled f each w = absurd (not_first (kind.Note n) ks refl f)
start_told text v (kind.End last ∷ ks) t same spelled f each w = absurd (not_first (kind.End last) ks refl f)

-- ---- a text and its lines

ended_text : (ps ls : List (List ℕ)) → ended_lines ps ≡ Ok ls → join_with_byte 10 ps ≡ concat (map line ls)
unfolding ended_lines
ended_text [] ls e = absurd (not_ok ls Form e)
ended_text (l ∷ []) ls e =
    let k = held (eqb (length l) 0) (done []) Form ls e in
    no_length l (eqb-true (length l) 0 k.0) ∙ ap (λ (x : List (List ℕ)). concat (map line x)) (ok_is [] ls k.1)
  where
    no_length : (x : List ℕ) → length x ≡ 0 → x ≡ []
    no_length [] z = refl
    no_length (b ∷ bs) z = absurd (omega arith)
ended_text (l ∷ m ∷ ms) ls e =
    let a = bind_ok (ended_lines (m ∷ ms)) (λ xs. Ok (l ∷ xs)) ls e in
    ap (λ (x : List ℕ). l ++ 10 ∷ x) (ended_text (m ∷ ms) a.0 a.1) ∙ sym (append_assoc l (10 ∷ []) (concat (map line a.0))) ∙ ap (λ (x : List (List ℕ)). concat (map line x)) (ok_is (l ∷ a.0) ls a.2)

pub lines_text : (text : List ℕ) (ls : List (List ℕ)) → lines_of text ≡ Ok ls → text ≡ concat (map line ls)
unfolding lines_of
lines_text text ls e = sym (join_with_byte-slice_split 10 text) ∙ ended_text (parts 10 text) ls e

pub record AreRead (v : ℕ) (ls : List (List ℕ)) (ks : List LineKind) : Type 0 where
  pub spelled : concat (map line ls) ≡ kinds_text ks
  pub each : Each v ks

pub kinds_read : (v : ℕ) (ls : List (List ℕ)) (ks : List LineKind) → kinds_of v ls ≡ Ok ks → AreRead v ls ks
unfolding kinds_of
kinds_read v [] ks e = subst (AreRead v []) (ok_is [] ks e) (record { spelled = refl; each = tt })
kinds_read v (l ∷ ls) ks e =
    let a = bind_ok (kind_of v (words l)) (λ k. kinds_of v ls >>= λ js. Ok (k ∷ js)) ks e in
    let b = bind_ok (kinds_of v ls) (λ js. Ok (a.0 ∷ js)) ks a.2 in
    let t = text_takes v l a.0 a.1 in
    let more = kinds_read v ls b.0 b.1 in
    subst (AreRead v (l ∷ ls)) (ok_is (a.0 ∷ b.0) ks b.2)
    (record { spelled = ap (λ (x : List ℕ). line l ++ x) more.spelled ∙ ap (λ (x : List ℕ). line x ++ kinds_text b.0) t.0; each = (t.1, more.each) })

-- the first line was read alike, whatever the version
pub first_version : (v : ℕ) (l : List ℕ) (ls : List (List ℕ)) (k : LineKind) (n : ℕ) (ks : List LineKind) → kind_of 0 (words l) ≡ Ok k → kinds_of v (l ∷ ls) ≡ Ok (kind.First n ∷ ks) → version_of k ≡ n
unfolding kinds_of
first_version v l ls k n ks e f =
    let a = bind_ok (kind_of v (words l)) (λ j. kinds_of v ls >>= λ js. Ok (j ∷ js)) (kind.First n ∷ ks) f in
    let b = bind_ok (kinds_of v ls) (λ js. Ok (a.0 ∷ js)) (kind.First n ∷ ks) a.2 in
    let same : a.0 ∷ b.0 ≡ kind.First n ∷ ks = ok_is (a.0 ∷ b.0) (kind.First n ∷ ks) b.2 in
    let first : a.0 ≡ kind.First n = cc in
    let t = text_takes v l (kind.First n) (a.1 ∙ ap Ok first) in
    let again : kind_of 0 (words l) ≡ Ok (kind.First n) = ap (λ (x : List ℕ). kind_of 0 (words x)) t.0 ∙ text_again 0 (kind.First n) t.1 in
    ap version_of (ok_is k (kind.First n) (sym e ∙ again))

pub over_whole : (p : Place) (u : Unit {0}) → is_whole p ≡ Ok u → p ≡ Over
over_whole Over u e = refl
over_whole Start u e = absurd (not_ok u Form e)
over_whole Version u e = absurd (not_ok u Form e)
over_whole (Processes n i) u e = absurd (not_ok u Form e)
over_whole (Wires n i) u e = absurd (not_ok u Form e)
over_whole Entry u e = absurd (not_ok u Form e)
over_whole (Noted n) u e = absurd (not_ok u Form e)

lines_told : (text : List ℕ) (ls : List (List ℕ)) (ks : List LineKind) (t : Told) → text ≡ concat (map line ls) → whole_of ls ≡ Ok ks → follows ks Start ≡ Ok Over → with_lines ks nothing_told ≡ Ok t
    → IsTranscript text t.setting t.entries t.notes t.last
unfolding whole_of
lines_told text [] ks t spelled e f w = absurd (not_ok ks Form e)
lines_told text (l ∷ ls) ks t spelled e f w =
    let a = bind_ok (kind_of 0 (words l)) (λ k. kinds_of (version_of k) (l ∷ ls)) ks e in
    let read = kinds_read (version_of a.0) (l ∷ ls) ks a.2 in
    start_told text (version_of a.0) ks t (λ n ms is. first_version (version_of a.0) l ls a.0 n ms a.1 (a.2 ∙ ap Ok is)) (spelled ∙ read.spelled) f read.each w

-- what a text tells is what it is the transcript of
pub told_transcript : (text : List ℕ) (t : Told) → told_by text ≡ Ok t → IsTranscript text t.setting t.entries t.notes t.last
unfolding told_by
told_transcript text t e =
    let a = bind_ok (lines_of text) (λ lines. whole_of lines >>= λ ks. follows ks Start >>= is_whole >>= λ whole. with_lines ks nothing_told) t e in
    let b = bind_ok (whole_of a.0) (λ ks. follows ks Start >>= is_whole >>= λ whole. with_lines ks nothing_told) t a.2 in
    let c = bind_ok (follows b.0 Start >>= is_whole) (λ whole. with_lines b.0 nothing_told) t b.2 in
    let d = bind_ok (follows b.0 Start) is_whole c.0 c.1 in
    lines_told text a.0 b.0 t (lines_text text a.0 a.1) b.1 (d.1 ∙ ap Ok (over_whole d.0 c.0 d.2)) c.2
