-- A journal whose last entry may be kept by value.
use Rattle.std.proofs.Common.{◌≡◌, ◌≢◌, inl, inr, ℕ, ◌+◌, ◌^◌, ◌<◌, ◌≤◌, Bool, true, false, List, [], ◌∷◌, ◌++◌, Option, None, Some, length, take, drop, get_or, ap, sym, subst, ◌∙◌, refl, arith, length-append}
use Rattle.std.specs.List.{slice_get}
use Rattle.std.proofs.Math.Seq.{get_or-append_seam}
use Rattle.std.proofs.lemmas.Bool.Decides.{leb_tells}
use Rattle.std.proofs.lemmas.List.{get_or_append_left, get_or_push, take-append-le, take_all}
use Rattle.std.proofs.lemmas.Option.{get_or_from_slice_get, slice_get-get_or, slice_get_cases}
use Rattle.charlotte_calls.specs.declared.calls.ServiceStep.{ServiceStep}
use Rattle.journal_text.specs.Journal.{IsAfterLast}
use Rattle.kernel_entries.specs.declared.entry.Entry.{Entry}
use Rattle.kernel_entries.specs.declared.entry.Happened.{Happened}
use Rattle.written_journal.specs.Kept.{Happenings}
use Rattle.written_journal.specs.Late.{CanBeStored, IsLate, with_late}
use Rattle.written_journal.specs.Noted.{done}
use Rattle.written_journal.specs.declared.journal.Late.{Late}

-- nothing is kept by value
pub with-none : (s : Happenings) (l : Option Late) → l ≡ None → with_late s l ≡ s
with-none s l none = ap (with_late s) none

pub late-none : (s : Happenings) (l : Option Late) → l ≡ None → IsLate s l
late-none s l none = subst (IsLate s) (sym none) tt

-- what is begun is not yet noted, so nothing is kept by value
pub begun-none : (s : Happenings) (l : Option Late) (what : Happened) → (with_late s l).begun ≡ Some what → l ≡ None
begun-none s None what begun = refl
begun-none s (Some late) what begun = absurd (cc)

-- the entry that is kept by value
pub late-entry : (s : Happenings) (late : Late) → IsLate s (Some late) → (e : Entry) × ((with_late s (Some late)).entries ≡ s.entries ++ e ∷ [])
late-entry s late is =
    (record { stamp = late.stamp; what = is.begun.0; steps = late.steps.items }, ap (λ (o : Option Happened). s.entries ++ done o late.stamp late.steps.items) is.begun.1)

pub late-long : (s : Happenings) (late : Late) → IsLate s (Some late) → length (with_late s (Some late)).entries ≡ length s.entries + 1
late-long s late is = let e = late-entry s late is in ap length e.1 ∙ length-append s.entries (e.0 ∷ [])

-- an entry that is stored
pub stored-place : (s : Happenings) (l : Option Late) (n : ℕ) (e : Entry) → IsLate s l → slice_get s.entries n ≡ Some e → slice_get (with_late s l).entries n ≡ Some e
stored-place s None n e is found = found
stored-place s (Some late) n e is found =
    elim (slice_get_cases s.entries n).1 [
      | inl w ↦
          let last = late-entry s late is in
          let same : get_or s.entries n e ≡ e = get_or_from_slice_get s.entries n e e found in
          ap (λ (es : List Entry). slice_get es n) last.1
          ∙ slice_get-get_or (s.entries ++ last.0 ∷ []) n e (omega (arith, w.1, length-append s.entries (last.0 ∷ []))) ∙ ap Some (get_or_append_left s.entries (last.0 ∷ []) e n w.1 ∙ same)
      | inr w ↦ let none = w.1 in absurd (cc)
    ]

-- the entry that is not
pub late-alone : (s : Happenings) (l : Option Late) (late : Late) (alone new : Happenings) (ss : List ServiceStep) → IsLate s l → l ≡ Some late → alone ≡ record { entries = []; begun = s.begun } → ss ≡ late.steps.items
    → ((what : Happened) → alone.begun ≡ Some what → new ≡ record { entries = alone.entries ++ record { stamp = late.stamp; what = what; steps = ss } ∷ []; begun = None })
    → (e : Entry) × (new.entries ≡ e ∷ []) × (slice_get (with_late s l).entries (length s.entries) ≡ Some e)
late-alone s l late alone new ss is at apart steps noted = (e, only, place)
  where
    can : CanBeStored s late.stamp
    can = subst (IsLate s) at is

    e : Entry
    e = record { stamp = late.stamp; what = can.begun.0; steps = late.steps.items }

    entry_with : List ServiceStep → Entry
    entry_with steps = record { stamp = late.stamp; what = can.begun.0; steps = steps }

    only : new.entries ≡ e ∷ []
    only = ap (λ (h : Happenings). h.entries) (noted can.begun.0 (ap (λ (h : Happenings). h.begun) apart ∙ can.begun.1))
        ∙ ap (λ (h : Happenings). h.entries ++ entry_with ss ∷ []) apart ∙ ap (λ (x : List ServiceStep). entry_with x ∷ []) steps

    place : slice_get (with_late s l).entries (length s.entries) ≡ Some e
    place = ap (λ (o : Option Late). slice_get (with_late s o).entries (length s.entries)) at
        ∙ ap (λ (o : Option Happened). slice_get (s.entries ++ done o late.stamp late.steps.items) (length s.entries)) can.begun.1
        ∙ slice_get-get_or (s.entries ++ e ∷ []) (length s.entries) e (omega (arith, length-append s.entries (e ∷ []))) ∙ ap Some (get_or_push s.entries e e (length s.entries) refl)

-- what is begun
pub stored-begun : (s : Happenings) (l : Option Late) (value : Happenings) (what : Happened) → with_late s l ≡ value → value.begun ≡ Some what → s.begun ≡ Some what
stored-begun s l value what view begun =
    let there : (with_late s l).begun ≡ Some what = ap (λ (h : Happenings). h.begun) view ∙ begun in
    sym (ap (λ (h : Happenings). h.begun) (with-none s l (begun-none s l what there))) ∙ there

pub late-begun : (s : Happenings) (l : Option Late) → s.begun ≡ None → (with_late s l).begun ≡ None
late-begun s None none = none
late-begun s (Some late) none = refl

-- the first entries
pub cut-late : (s : Happenings) (l : Option Late) (n : ℕ) → IsLate s l → n ≤ length s.entries → take n s.entries ≡ take n (with_late s l).entries
cut-late s None n is within = refl
cut-late s (Some late) n is within = let e = late-entry s late is in sym (ap (take n) e.1 ∙ take-append-le n s.entries (e.0 ∷ []) within)
