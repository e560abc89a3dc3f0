-- One journal: what is begun, and what is noted.
use Rattle.std.proofs.Common.{◌≡◌, inl, inr, ℕ, ◌+◌, ◌-◌, ◌^◌, ◌<◌, ◌≤◌, List, [], ◌∷◌, ◌++◌, Option, None, Some, All, IfSome, length, map, take, get_or, ap, sym, subst, ◌∙◌, refl, arith, length-append}
use Rattle.std.proofs.lemmas.Bool.Decides.{leb_tells}
use Rattle.std.specs.List.{slice_get}
use Rattle.std.proofs.lemmas.Option.{slice_get-get_or}
use Rattle.std.proofs.lemmas.List.{get_or-take, length-take-le, take_all}
use Rattle.std.proofs.lemmas.List.Elements.{All-nil, All-push}
use Rattle.charlotte_calls.specs.Ranges.{IsU64, IsStepInRange}
use Rattle.charlotte_calls.specs.declared.calls.ServiceStep.{ServiceStep}
use Rattle.journal_text.specs.Journal.{AreRising, IsAfterLast}
use Rattle.journal_text.proofs.Rising.{AreRising-push, AreRising-take}
use Rattle.kernel_entries.specs.Ranges.{IsEntryInRange, IsHappenedInRange}
use Rattle.kernel_entries.specs.declared.entry.Entry.{Entry}
use Rattle.kernel_entries.specs.declared.entry.Happened.{Happened}
use Rattle.written_journal.specs.Kept.{AreKept, HasSame, Happenings, IsStored, begun_lines, begun_sender, event_of, happenings, sender_of}
use Rattle.packed_lines.specs.Lines.{happened_line, step_lines, AreLines}
use Rattle.written_journal.specs.Noted.{done, numbered}
use Rattle.written_journal.specs.Told.{Told, nothing_told}
use Rattle.packed_lines.specs.declared.kept_lines.KeptLines.{KeptLines}
use Rattle.written_journal.specs.declared.written.Event.{Event}
use Rattle.written_journal.specs.declared.written.Written.{Written}
use Rattle.written_journal.proofs.Events.{appended, nothing-kept, one-is, same-kept, some-entry}

-- nothing is written
pub start-stored : (w : Written) (b : KeptLines) (t : Told) → AreKept w [] → AreLines b [] → t ≡ nothing_told → IsStored w b None t
start-stored w b t kept begun is =
    subst (λ (x : Told). IsStored w b None x) (sym is)
    (record {
      kept = kept;
      line = begun;
      sender = refl;
      rising = tt;
      in_range = λ k d lt. absurd (omega (arith, lt));
      begun_in_range = tt;
      few = omega arith;
    })

-- the same text
pub same-stored : (old new : Written) (b : KeptLines) (from : Option ℕ) (t : Told) → HasSame old new → IsStored old b from t → IsStored new b from t
same-stored old new b from t same is =
    record {
      kept = same-kept old new t.entries same is.kept;
      line = is.line;
      sender = is.sender;
      rising = is.rising;
      in_range = is.in_range;
      begun_in_range = is.begun_in_range;
      few = is.few;
    }

-- nothing is begun
pub forgotten : (w : Written) (b0 b : KeptLines) (from : Option ℕ) (t : Told) → IsStored w b0 from t → AreLines b [] → IsStored w b None (record t { begun = None })
forgotten w b0 b from t is begun =
    record {
      kept = is.kept;
      line = begun;
      sender = refl;
      rising = is.rising;
      in_range = is.in_range;
      begun_in_range = tt;
      few = omega (arith, is.few);
    }

-- something is begun, where there is room for one entry more
pub begun-stored : (w : Written) (b0 b : KeptLines) (from0 from : Option ℕ) (t : Told) (what : Happened) → IsStored w b0 from0 t → length w.events.items < 2 ^ 32 - 1 → AreLines b (happened_line what ∷ [])
    → from ≡ sender_of what → IsHappenedInRange what → IsStored w b from (record t { begun = Some what })
begun-stored w b0 b from0 from t what is room begun sender in_range =
    record {
      kept = is.kept;
      line = begun;
      sender = sender;
      rising = is.rising;
      in_range = is.in_range;
      begun_in_range = in_range;
      few = omega (arith, room, is.kept.long);
    }

-- what was begun is noted
noted-stored : (old new : Written) (b b1 steps : KeptLines) (from : Option ℕ) (t : Told) (what : Happened) (stamp : ℕ) (ss : List ServiceStep) → IsStored old b from t → t.begun ≡ Some what → IsAfterLast t.entries stamp
    → IsU64 stamp → All IsStepInRange ss → AreKept new (t.entries ++ record { stamp = stamp; what = what; steps = ss } ∷ []) → AreLines b1 []
    → IsStored new b1 None (record t { entries = t.entries ++ record { stamp = stamp; what = what; steps = ss } ∷ []; begun = None })
noted-stored old new b b1 steps from t what stamp ss is begun after early steps_in_range kept none =
    record {
      kept = kept;
      line = none;
      sender = refl;
      rising = AreRising-push t.entries e is.rising after;
      in_range = All-push IsEntryInRange t.entries e is.in_range (record { stamp = early; what = subst (λ b. IfSome b IsHappenedInRange) begun is.begun_in_range; steps = steps_in_range });
      begun_in_range = tt;
      few = omega (arith, is.few, ap (λ x. length (begun_lines x)) begun, length-append t.entries (e ∷ []));
    }
  where
    e : Entry
    e = record { stamp = stamp; what = what; steps = ss }

-- the same, by what was told
pub noted-told : (old new : Written) (b b1 steps : KeptLines) (from : Option ℕ) (t later : Told) (value : Happenings) (stamp : ℕ) (ss : List ServiceStep) → IsStored old b from t → happenings t ≡ value
    → (what : Happened) × (value.begun ≡ Some what) → IsAfterLast value.entries stamp → IsU64 stamp → All IsStepInRange ss → AreLines steps (step_lines ss)
    → new.text.items ≡ (old.text.items ++ b.text.items) ++ steps.text.items → new.notes.items ≡ (old.notes.items ++ b.notes.items) ++ steps.notes.items
    → new.events.items
    ≡ old.events.items ++ record { stamp = stamp; from = from; lines = length b.notes.items + length steps.notes.items; lines_before = length old.notes.items; bytes_before = length old.text.items } ∷ []
    → AreLines b1 [] → later ≡ record t { entries = t.entries ++ done t.begun stamp ss; begun = None } → IsStored new b1 None later
noted-told old new b b1 steps from t later value stamp ss is view begun after early steps_in_range lines text notes events none told =
    subst (λ (x : Told). IsStored new b1 None x) (sym same)
    (noted-stored old new b b1 steps from t begun.0 stamp ss is what (subst (λ es. IsAfterLast es stamp) (sym (ap (λ (v : Happenings). v.entries) view)) after) early steps_in_range kept none)
  where
    what : t.begun ≡ Some begun.0
    what = ap (λ (v : Happenings). v.begun) view ∙ begun.1

    e : Entry
    e = record { stamp = stamp; what = begun.0; steps = ss }

    first : AreLines b (happened_line begun.0 ∷ [])
    first = subst (λ (h : Option Happened). AreLines b (begun_lines h)) what is.line

    kept : AreKept new (t.entries ++ e ∷ [])
    kept = appended old new b steps from t.entries e is.kept first lines (is.sender ∙ ap begun_sender what) text notes events

    same : later ≡ record t { entries = t.entries ++ e ∷ []; begun = None }
    same = told ∙ ap (λ (o : Option Happened). record t { entries = t.entries ++ done o stamp ss; begun = None }) what

-- the first entries
All-take : (P : Entry → Type 0) (es : List Entry) (n : ℕ) → All P es → All P (take n es)
All-take P es n all =
    elim (leb_tells (length es) n) [
      | inl w ↦ subst (All P) (sym (take_all n es w.1)) all
      | inr w ↦ λ k d below.
          let first : k < n = omega (arith, below, length-take-le n es (omega (arith, w.1))) in
          subst P (sym (get_or-take n es k d first)) (all k d (omega (arith, first, w.1)))
    ]

length-take_at_most : (es : List Entry) (n : ℕ) → length (take n es) ≤ length es
length-take_at_most es n =
    elim (leb_tells (length es) n) [
      | inl w ↦ omega (arith, ap length (take_all n es w.1))
      | inr w ↦ omega (arith, length-take-le n es (omega (arith, w.1)), w.1)
    ]

pub cut-stored : (old new : Written) (b0 b : KeptLines) (from : Option ℕ) (t : Told) (n : ℕ) → IsStored old b0 from t → AreKept new (take n t.entries) → AreLines b [] → IsStored new b None (record t { entries = take n t.entries; begun = None })
cut-stored old new b0 b from t n is kept begun =
    record {
      kept = kept;
      line = begun;
      sender = refl;
      rising = AreRising-take t.entries n is.rising;
      in_range = All-take IsEntryInRange t.entries n is.in_range;
      begun_in_range = tt;
      few = omega (arith, is.few, length-take_at_most t.entries n);
    }

-- an event that can be noted is a value of its type
pub noted-range : (w : Written) (b : KeptLines) (from : Option ℕ) (t : Told) (value : Happenings) (stamp : ℕ) (ss : List ServiceStep) → IsStored w b from t → happenings t ≡ value → IsU64 stamp → All IsStepInRange ss
    → (what : Happened) → value.begun ≡ Some what → All IsEntryInRange (value.entries ++ record { stamp = stamp; what = what; steps = ss } ∷ [])
noted-range w b from t value stamp ss is view early steps_in_range what begun =
    let e : Entry = record { stamp = stamp; what = what; steps = ss } in
    subst (λ (es : List Entry). All IsEntryInRange (es ++ e ∷ [])) (ap (λ (v : Happenings). v.entries) view)
    (All-push IsEntryInRange t.entries e is.in_range (record { stamp = early; what = subst (λ (h : Option Happened). IfSome h IsHappenedInRange) (ap (λ (v : Happenings). v.begun) view ∙ begun) is.begun_in_range; steps = steps_in_range }))

-- one entry alone
pub one-stored : (w one : Written) (b b1 : KeptLines) (from : Option ℕ) (t t0 later : Told) (value : Happenings) (n : ℕ) → IsStored w b from t → happenings t ≡ value → n < length value.entries
    → (n < length t.entries → AreKept one (numbered n t.entries)) → AreLines b1 [] → t0 ≡ nothing_told → later ≡ record t0 { entries = numbered n t.entries } → IsStored one b1 None later
one-stored w one b b1 from t t0 later value n is view below kept none start told =
    subst (λ (x : Told). IsStored one b1 None x) (sym same)
    (record {
      kept = subst (λ (xs : List Entry). AreKept one xs) alone (kept within);
      line = none;
      sender = refl;
      rising = tt;
      in_range = All-push IsEntryInRange [] e (All-nil IsEntryInRange) (is.in_range n (some-entry t.entries n within) within);
      begun_in_range = tt;
      few = omega arith;
    })
  where
    within : n < length t.entries
    within = omega (arith, below, ap (λ (v : Happenings). length v.entries) view)

    e : Entry
    e = get_or t.entries n (some-entry t.entries n within)

    alone : numbered n t.entries ≡ e ∷ []
    alone = one-is t.entries n (some-entry t.entries n within) within

    same : later ≡ record nothing_told { entries = e ∷ [] }
    same = told ∙ ap (λ (x : Told). record x { entries = numbered n t.entries }) start ∙ ap (λ (es : List Entry). record nothing_told { entries = es }) alone

pub one-told : (t t0 later : Told) (value : Happenings) (n : ℕ) → happenings t ≡ value → n < length value.entries → t0 ≡ nothing_told → later ≡ record t0 { entries = numbered n t.entries }
    → (e : Entry) × (happenings later ≡ record { entries = e ∷ []; begun = None }) × (slice_get value.entries n ≡ Some e)
one-told t t0 later value n view below start told =
    let x : Entry = some-entry value.entries n below in
    let here : numbered n t.entries ≡ get_or value.entries n x ∷ [] = ap (λ (v : Happenings). numbered n v.entries) view ∙ one-is value.entries n x below in (
      get_or value.entries n x,
      ap happenings (told ∙ ap (λ (y : Told). record y { entries = numbered n t.entries }) start ∙ ap (λ (es : List Entry). record nothing_told { entries = es }) here),
      slice_get-get_or value.entries n x below,
    )
