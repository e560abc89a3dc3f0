-- Lines of several journals that are given in the order of their entries.
use Rattle.std.proofs.Common.{◌≡◌, ◌≢◌, inl, inr, ℕ, zero, suc, Bool, true, false, nat_eq, ◌<◌, List, [], ◌∷◌, ◌++◌, length, map, set, drop, get_or, slice_get, Some, None, ap, sym, subst, ◌∙◌, refl, get_or-set_same, get_or-set_other}
use Rattle.std.specs.List.{flat_map}
use Rattle.std.proofs.lemmas.Bool.Decides.{Decides-eqb, eqb_tells, leb_tells}
use Rattle.std.proofs.lemmas.List.{get_or_default, get_or_past}
use Rattle.journal_text.specs.Heads.{entries_at}
use Rattle.journal_text.specs.Journal.{placed_at}
use Rattle.transcript_lines.specs.Transcript.{entry_lines, entry_text, line}
use Rattle.kernel_entries.specs.Order.{IsMerge, of_kernel}
use Rattle.kernel_entries.specs.declared.entry.Entry.{Entry}
use Rattle.kernel_entries.specs.declared.entry.Placed.{Placed}
use Rattle.written_journal.specs.Given.{AreAll, AreLeft, Rest, all_of, rest_at}
use Rattle.written_journal.specs.Kept.{Happenings}
use Rattle.written_journal.specs.Left.{GivesFirst}
use Rattle.packed_lines.specs.Lines.{step_lines}
use Rattle.written_journal.specs.Merging.{journals_of}

abbrev nothing : Rest
nothing = record { lines = []; entries = [] }

-- ---- before all lines

entries-at : (js : List Happenings) (k : ℕ) → entries_at (journals_of js) k ≡ (rest_at (map all_of js) k).entries
entries-at [] k = refl
entries-at (j ∷ js) zero = refl
entries-at (j ∷ js) (suc k) = entries-at js k

no-lines : (js : List Happenings) (k : ℕ) → (rest_at (map all_of js) k).lines ≡ []
no-lines [] k = refl
no-lines (j ∷ js) zero = refl
no-lines (j ∷ js) (suc k) = no-lines js k

-- a merge is what is left of journals of which nothing is given
pub are-all : (js : List Happenings) (rests : List Rest) (placed : List Placed) → rests ≡ map all_of js → IsMerge (journals_of js) placed → AreAll rests placed
are-all js rests placed is merge =
    subst (λ (rs : List Rest). AreAll rs placed) (sym is)
    (record { entries = λ k. merge.entries k ∙ entries-at js k; lines = no-lines js })

-- ---- a line of the entry that is begun

-- only lines of the entry that is begun were given
pub left-stepped : (rests : List Rest) (kernel : ℕ) (old new : Rest) (placed : List Placed) → kernel < length rests → old ≡ get_or rests kernel old → new.entries ≡ old.entries → AreLeft rests kernel placed → AreLeft (set rests kernel new) kernel placed
left-stepped rests kernel old r placed within at kept left =
    record {
      entries = λ k. left.entries k ∙ elim (eqb_tells k kernel) [
        | inl w ↦
            let here = get_or-set_same rests kernel r nothing within in
            subst (λ (i : ℕ). (rest_at rests i).entries ≡ (rest_at (set rests kernel r) i).entries) (sym w.1) (sym same ∙ sym (ap (λ (x : Rest). x.entries) here))
        | inr w ↦ sym (ap (λ (x : Rest). x.entries) (get_or-set_other rests kernel k r nothing w.1))
      ];
      others = λ k other. ap (λ (x : Rest). x.lines) (get_or-set_other rests kernel k r nothing other) ∙ left.others k other;
    }
  where
    same : r.entries ≡ (rest_at rests kernel).entries
    same = kept ∙ ap (λ (x : Rest). x.entries) (at ∙ get_or_default rests kernel old nothing within)

-- ---- the first line of the next entry

of_kernel-same : (p : Placed) (ps : List Placed) (k : ℕ) → p.kernel ≡ k → of_kernel k (p ∷ ps) ≡ p.entry ∷ of_kernel k ps
of_kernel-same p ps k h = let e : nat_eq p.kernel k ≡ true = (Decides-eqb p.kernel k).1 h in rw e refl

of_kernel-other : (p : Placed) (ps : List Placed) (k : ℕ) → p.kernel ≢ k → of_kernel k (p ∷ ps) ≡ of_kernel k ps
of_kernel-other p ps k h = elim (eqb_tells p.kernel k) [ inl w ↦ absurd (h w.1) | inr w ↦ rw w.0 refl ]

-- no line was left of the entry before, so no line is of any
pub record IsBetween (items rests : List Rest) (before : ℕ) (placed : List Placed) : Type 0 where
  pub left : AreLeft rests before placed
  pub gone : (rest_at items before).lines ≡ []
  pub none : (rest_at rests before).lines ≡ []

pub between : (items old rests : List Rest) (before : ℕ) (placed : List Placed) (some : Bool) (text : List ℕ) → old ≡ items → AreLeft items before placed
    → ((ps : List Placed) → AreLeft old before ps → AreLeft rests before ps) → GivesFirst some (rest_at old before).lines (rest_at rests before).lines text → some ≡ false → IsBetween items rests before placed
between items old rests before placed some text same left kept gives none =
    let nothing_given = subst (λ (b : Bool). GivesFirst b (rest_at old before).lines (rest_at rests before).lines text) none gives in
    record {
      left = kept placed (subst (λ (rs : List Rest). AreLeft rs before placed) (sym same) left);
      gone = subst (λ (rs : List Rest). (rest_at rs before).lines ≡ []) same nothing_given.0;
      none = nothing_given.1;
    }

no-line : (items rests : List Rest) (before : ℕ) (placed : List Placed) → IsBetween items rests before placed → (k : ℕ) → (rest_at rests k).lines ≡ []
no-line items rests before placed is k =
    elim (eqb_tells k before) [
      | inl w ↦ subst (λ (i : ℕ). (rest_at rests i).lines ≡ []) (sym w.1) is.none
      | inr w ↦ is.left.others k w.1
    ]

-- the next entry is the first that is left of its journal
pub record IsNext (rests : List Rest) (placed : List Placed) (kernel : ℕ) : Type 0 where
  pub entry : Entry
  pub rest : List Placed
  pub is : placed ≡ placed_at kernel entry ∷ rest
  pub within : kernel < length rests
  pub some : (r : Rest) → r ≡ get_or rests kernel r → r.entries ≡ entry ∷ of_kernel kernel rest
  pub none : (r : Rest) → r ≡ get_or rests kernel r → r.lines ≡ []

pub next-of : (items rests : List Rest) (before : ℕ) (placed : List Placed) (kernel : ℕ) → IsBetween items rests before placed → Some kernel ≡ slice_get (map (λ p. p.kernel) placed) 0 → IsNext rests placed kernel
next-of items rests before [] kernel is first = absurd (cc)
next-of items rests before (p ∷ ps) kernel is first =
    record {
      entry = p.entry;
      rest = ps;
      is = ap (λ (k : ℕ). placed_at k p.entry ∷ ps) same;
      within = within;
      some = λ r at. ap (λ (x : Rest). x.entries) (here r at) ∙ entries;
      none = λ r at. ap (λ (x : Rest). x.lines) (here r at) ∙ no-line items rests before (p ∷ ps) is kernel;
    }
  where
    same : p.kernel ≡ kernel
    same = cc

    entries : (rest_at rests kernel).entries ≡ p.entry ∷ of_kernel kernel ps
    entries = sym (is.left.entries kernel) ∙ of_kernel-same p ps kernel same

    within : kernel < length rests
    within =
        elim (leb_tells (length rests) kernel) [
          | inl w ↦
              let has = entries in
              let gone : (rest_at rests kernel).entries ≡ [] = ap (λ (x : Rest). x.entries) (get_or_past rests kernel nothing w.1) in
              absurd (cc)
          | inr w ↦ w.1
        ]

    here : (r : Rest) → r ≡ get_or rests kernel r → r ≡ rest_at rests kernel
    here r at = at ∙ get_or_default rests kernel r nothing within

-- the first of its lines is given
pub record IsGiven (placed : List Placed) (kernel : ℕ) (now : List Rest) (later : List Placed) (text : List ℕ) : Type 0 where
  pub given : flat_map entry_lines placed ≡ text ∷ ((rest_at now kernel).lines ++ flat_map entry_lines later)
  pub left : AreLeft now kernel later

pub first-given : (items rests : List Rest) (before : ℕ) (placed : List Placed) (kernel : ℕ) (r : Rest) (later : List Placed) (text : List ℕ) → IsBetween items rests before placed → (next : IsNext rests placed kernel)
    → (text ≡ line (entry_text (placed_at kernel next.entry))) × (r ≡ record { lines = step_lines next.entry.steps; entries = of_kernel kernel next.rest }) → later ≡ drop 1 placed
    → IsGiven placed kernel (set rests kernel r) later text
first-given items rests before placed kernel r later text is next new taken =
    record {
      given = ap (flat_map entry_lines) next.is
          ∙ ap (λ (t : List ℕ). t ∷ (step_lines next.entry.steps ++ flat_map entry_lines next.rest)) (sym new.0)
          ∙ ap (λ (x : Rest). text ∷ (x.lines ++ flat_map entry_lines next.rest)) (sym here) ∙ ap (λ (ps : List Placed). text ∷ ((rest_at (set rests kernel r) kernel).lines ++ flat_map entry_lines ps)) (sym rest);
      left = subst (λ (ps : List Placed). AreLeft (set rests kernel r) kernel ps) (sym rest)
          (record {
            entries = λ k. elim (eqb_tells k kernel) [
              | inl w ↦ subst (λ (i : ℕ). of_kernel i next.rest ≡ (rest_at (set rests kernel r) i).entries) (sym w.1) (sym (ap (λ (x : Rest). x.entries) here))
              | inr w ↦
                  sym (of_kernel-other (placed_at kernel next.entry) next.rest k (λ same. w.1 (sym same))) ∙ ap (of_kernel k) (sym next.is) ∙ is.left.entries k
                  ∙ sym (ap (λ (x : Rest). x.entries) (get_or-set_other rests kernel k r nothing w.1))
            ];
            others = λ k other. ap (λ (x : Rest). x.lines) (get_or-set_other rests kernel k r nothing other) ∙ no-line items rests before placed is k;
          });
    }
  where
    rest : later ≡ next.rest
    rest = taken ∙ ap (drop 1) next.is

    here : rest_at (set rests kernel r) kernel ≡ record { lines = step_lines next.entry.steps; entries = of_kernel kernel next.rest }
    here = get_or-set_same rests kernel r nothing next.within ∙ new.1

-- where no entry is left either, no line is
pub no-entry : (lines : List (List ℕ)) (placed : List Placed) → lines ≡ [] → None ≡ slice_get (map (λ p. p.kernel) placed) 0 → lines ++ flat_map entry_lines placed ≡ []
no-entry lines [] none first = ap (λ (ls : List (List ℕ)). ls ++ []) none
no-entry lines (p ∷ ps) none first = absurd (cc)
