-- Merges: there is one of given journals, and placing the first head each time makes it.
use Rattle.std.proofs.Common.{◌≡◌, ℕ, zero, suc, map, ◌+◌, ◌<◌, ◌≤◌, ◌≢◌, ◌⊎◌, inl, inr, true, false, IsTrue, nat_lt, nat_eq, ◌||◌, ◌&&◌, List, [], ◌∷◌, ◌++◌, length, set, Some, Decides, refl, sym, ap, ◌∙◌, subst, append_assoc, append-nil, get_or-set_same, get_or-set_other, arith}
use Rattle.std.proofs.lemmas.Bool.Decides.{Decides-or, Decides-and, Decides-ltb, Decides-eqb, eqb_tells, leb_tells}
use Rattle.std.proofs.lemmas.List.Sums.{sum_by-set}
use Rattle.std.specs.List.{sum_by}
use Rattle.kernel_entries.specs.declared.entry.Entry.{Entry}
use Rattle.kernel_entries.specs.declared.entry.Placed.{Placed}
use Rattle.kernel_entries.specs.Order.{stands_before, AreInOrder, of_kernel, IsMerge}
use Rattle.journal_text.specs.Journal.{AreRising, placed_at}
use Rattle.journal_text.specs.Heads.{entries_at, first_stamp, IsNoLater, IsFirstBelow, StandsBeforeHeads, IsPopped}
use Rattle.journal_text.specs.declared.merging.Head.{Head}
use Rattle.journal_text.proofs.Heads.{entries_at-none}
use Rattle.journal_text.proofs.Rising.{AreRising-tail}

-- what the order says of stamps and kernels
abbrev Before : ℕ → ℕ → ℕ → ℕ → Type 0
Before s k t j = (s < t) ⊎ ((s ≡ t) × (k < j))

decides-before : (s k t j : ℕ) → Decides (nat_lt s t || (nat_eq s t && nat_lt k j)) (Before s k t j)
decides-before s k t j =
    Decides-or _ _ (Decides-ltb s t) (Decides-and _ _ (Decides-eqb s t) (Decides-ltb k j))

before-means : (a b : Placed) → IsTrue (stands_before a b) → Before a.entry.stamp a.kernel b.entry.stamp b.kernel
before-means a b h = (decides-before a.entry.stamp a.kernel b.entry.stamp b.kernel).0 h

before-if : (a b : Placed) → Before a.entry.stamp a.kernel b.entry.stamp b.kernel → IsTrue (stands_before a b)
before-if a b h = (decides-before a.entry.stamp a.kernel b.entry.stamp b.kernel).1 h

-- the order chains, and nothing stands both before and behind another
Before-chains : (s k t j u i : ℕ) → Before s k t j → Before t j u i → Before s k u i
Before-chains s k t j u i (inl p) (inl q) = inl (omega arith)
Before-chains s k t j u i (inl p) (inr q) = inl (omega arith)
Before-chains s k t j u i (inr p) (inl q) = inl (omega arith)
Before-chains s k t j u i (inr p) (inr q) = inr (omega arith, omega arith)

Before-not_both : (s k t j : ℕ) → Before s k t j → Before t j s k → ⊥
Before-not_both s k t j (inl p) (inl q) = omega arith
Before-not_both s k t j (inl p) (inr q) = omega arith
Before-not_both s k t j (inr p) (inl q) = omega arith
Before-not_both s k t j (inr p) (inr q) = omega arith

stands_before-chains : (a b c : Placed) → IsTrue (stands_before a b) → IsTrue (stands_before b c) → IsTrue (stands_before a c)
stands_before-chains a b c h1 h2 =
    before-if a c (Before-chains a.entry.stamp a.kernel b.entry.stamp b.kernel c.entry.stamp c.kernel (before-means a b h1) (before-means b c h2))

-- the entries of one kernel, entry by entry
of_kernel-same : (p : Placed) (ps : List Placed) (k : ℕ) → p.kernel ≡ k → of_kernel k (p ∷ ps) ≡ p.entry ∷ of_kernel k ps
of_kernel-same p ps k h = let e : nat_eq p.kernel k ≡ true = (Decides-eqb p.kernel k).1 h in rw e refl

eqb-other : (x y : ℕ) → x ≢ y → nat_eq x y ≡ false
eqb-other x y h = elim (eqb_tells x y) [ inl p ↦ absurd (h p.1) | inr p ↦ p.0 ]

of_kernel-other : (p : Placed) (ps : List Placed) (k : ℕ) → p.kernel ≢ k → of_kernel k (p ∷ ps) ≡ of_kernel k ps
of_kernel-other p ps k h = rw (eqb-other p.kernel k h) refl

of_kernel-push : (ps : List Placed) (p : Placed) (k : ℕ) → p.kernel ≡ k → of_kernel k (ps ++ p ∷ []) ≡ of_kernel k ps ++ p.entry ∷ []
of_kernel-push [] p k h = of_kernel-same p [] k h
of_kernel-push (q ∷ ps) p k h =
    elim (eqb_tells q.kernel k) [
      | inl e ↦ of_kernel-same q (ps ++ p ∷ []) k e.1 ∙ ap (λ es. q.entry ∷ es) (of_kernel-push ps p k h) ∙ ap (λ es. es ++ p.entry ∷ []) (sym (of_kernel-same q ps k e.1))
      | inr e ↦ of_kernel-other q (ps ++ p ∷ []) k e.1 ∙ of_kernel-push ps p k h ∙ ap (λ es. es ++ p.entry ∷ []) (sym (of_kernel-other q ps k e.1))
    ]

of_kernel-push_other : (ps : List Placed) (p : Placed) (k : ℕ) → p.kernel ≢ k → of_kernel k (ps ++ p ∷ []) ≡ of_kernel k ps
of_kernel-push_other [] p k h = of_kernel-other p [] k h
of_kernel-push_other (q ∷ ps) p k h =
    elim (eqb_tells q.kernel k) [
      | inl e ↦ of_kernel-same q (ps ++ p ∷ []) k e.1 ∙ ap (λ es. q.entry ∷ es) (of_kernel-push_other ps p k h) ∙ sym (of_kernel-same q ps k e.1)
      | inr e ↦ of_kernel-other q (ps ++ p ∷ []) k e.1 ∙ of_kernel-push_other ps p k h ∙ sym (of_kernel-other q ps k e.1)
    ]

AreInOrder-tail : (p : Placed) (ps : List Placed) → AreInOrder (p ∷ ps) → AreInOrder ps
AreInOrder-tail p [] o = tt
AreInOrder-tail p (q ∷ ps) o = o.1

-- in a list in order the first stands before every other
first-before : (p : Placed) (ps : List Placed) (k : ℕ) (e : Entry) (es : List Entry) → AreInOrder (p ∷ ps) → of_kernel k ps ≡ e ∷ es → IsTrue (stands_before p (record { kernel = k; entry = e }))
first-before p [] k e es o h = absurd (cc)
first-before p (q ∷ ps) k e es o h =
    elim (eqb_tells q.kernel k) [
      | inl w ↦
          let here : q.entry ∷ of_kernel k ps ≡ e ∷ es = sym (of_kernel-same q ps k w.1) ∙ h in
          let same : q.entry ≡ e = cc in
          let kernel : q.kernel ≡ k = w.1 in
          subst (λ (x : ℕ). IsTrue (stands_before p (record { kernel = x; entry = e }))) kernel (subst (λ (x : Entry). IsTrue (stands_before p (record { kernel = q.kernel; entry = x }))) same o.0)
      | inr w ↦
          let c : Placed = record { kernel = k; entry = e } in
          stands_before-chains p q c o.0 (first-before q ps k e es o.1 (sym (of_kernel-other q ps k w.1) ∙ h))
    ]

same-tail : (e : Entry) (es fs : List Entry) → e ∷ es ≡ e ∷ fs → es ≡ fs
same-tail e es fs h = cc

-- without equal firsts the rests are equal too
rests-equal : (p : Placed) (ps qs : List Placed) → ((k : ℕ) → of_kernel k (p ∷ ps) ≡ of_kernel k (p ∷ qs)) → (k : ℕ) → of_kernel k ps ≡ of_kernel k qs
rests-equal p ps qs h k =
    elim (eqb_tells p.kernel k) [
      | inl w ↦ same-tail p.entry (of_kernel k ps) (of_kernel k qs) (sym (of_kernel-same p ps k w.1) ∙ h k ∙ of_kernel-same p qs k w.1)
      | inr w ↦ sym (of_kernel-other p ps k w.1) ∙ h k ∙ of_kernel-other p qs k w.1
    ]

-- the first placed entries of two lists in order with the same entries are equal
first-equal : (p q : Placed) (ps qs : List Placed) → AreInOrder (p ∷ ps) → AreInOrder (q ∷ qs) → ((k : ℕ) → of_kernel k (p ∷ ps) ≡ of_kernel k (q ∷ qs)) → p ≡ q
first-equal p q ps qs op oq h =
    elim (eqb_tells p.kernel q.kernel) [
      | inl w ↦
          let kernel : p.kernel ≡ q.kernel = w.1 in
          let both : p.entry ∷ of_kernel q.kernel ps ≡ q.entry ∷ of_kernel q.kernel qs = sym (of_kernel-same p ps q.kernel kernel) ∙ h q.kernel ∙ of_kernel-same q qs q.kernel refl in
          let entry : p.entry ≡ q.entry = cc in
          let P : ℕ → Entry → Placed = λ k e. record { kernel = k; entry = e } in
          ap (λ (k : ℕ). P k p.entry) kernel ∙ ap (λ (e : Entry). P q.kernel e) entry
      | inr w ↦
          let other : q.kernel ≢ p.kernel = λ e. w.1 (sym e) in
          let of_p : of_kernel p.kernel qs ≡ p.entry ∷ of_kernel p.kernel ps = sym (of_kernel-other q qs p.kernel other) ∙ sym (h p.kernel) ∙ of_kernel-same p ps p.kernel refl in
          let of_q : of_kernel q.kernel ps ≡ q.entry ∷ of_kernel q.kernel qs = sym (of_kernel-other p ps q.kernel w.1) ∙ h q.kernel ∙ of_kernel-same q qs q.kernel refl in
          let q-p = first-before q qs p.kernel p.entry (of_kernel p.kernel ps) oq of_p in
          let p-q = first-before p ps q.kernel q.entry (of_kernel q.kernel qs) op of_q in
          absurd (Before-not_both p.entry.stamp p.kernel q.entry.stamp q.kernel (before-means p q p-q) (before-means q p q-p))
    ]

-- two lists in order with the same entries of each kernel are equal
pub in-order-unique : (ps qs : List Placed) → AreInOrder ps → AreInOrder qs → ((k : ℕ) → of_kernel k ps ≡ of_kernel k qs) → ps ≡ qs
in-order-unique [] [] op oq h = refl
in-order-unique [] (q ∷ qs) op oq h =
    let no : [] ≡ q.entry ∷ of_kernel q.kernel qs = h q.kernel ∙ of_kernel-same q qs q.kernel refl in
    absurd (cc)
in-order-unique (p ∷ ps) [] op oq h =
    let no : [] ≡ p.entry ∷ of_kernel p.kernel ps = sym (h p.kernel) ∙ of_kernel-same p ps p.kernel refl in
    absurd (cc)
in-order-unique (p ∷ ps) (q ∷ qs) op oq h =
    let e = first-equal p q ps qs op oq h in
    let h2 : (k : ℕ) → of_kernel k (p ∷ ps) ≡ of_kernel k (p ∷ qs) = subst (λ (x : Placed). (k : ℕ) → of_kernel k (p ∷ ps) ≡ of_kernel k (x ∷ qs)) (sym e) h in
    let es = in-order-unique ps qs (AreInOrder-tail p ps op) (AreInOrder-tail q qs oq) (rests-equal p ps qs h2) in
    cc

-- there is one merge of given journals
pub merge-unique : (journals : List (List Entry)) (ps qs : List Placed) → IsMerge journals ps → IsMerge journals qs → ps ≡ qs
merge-unique js ps qs p q = in-order-unique ps qs p.order q.order (λ k. p.entries k ∙ sym (q.entries k))

-- what is next of a kernel may be placed last
abbrev IsNext : List Placed → ℕ → List Entry → Type 0
IsNext merged k [] = Unit {0}
IsNext merged k (e ∷ es) = AreInOrder (merged ++ record { kernel = k; entry = e } ∷ [])

-- a merge so far, of all entries but the rests
pub record IsSoFar (all rests : ℕ → List Entry) (merged : List Placed) : Type 0 where
  pub order : AreInOrder merged
  pub entries : (k : ℕ) → of_kernel k merged ++ rests k ≡ all k
  pub next : (k : ℕ) → IsNext merged k (rests k)

pub IsSoFar-end : (all rests : ℕ → List Entry) (merged : List Placed) → IsSoFar all rests merged → ((k : ℕ) → rests k ≡ []) → (k : ℕ) → of_kernel k merged ≡ all k
IsSoFar-end all rests merged s h k = sym (append-nil (of_kernel k merged)) ∙ ap (λ es. of_kernel k merged ++ es) (sym (h k)) ∙ s.entries k

AreInOrder-push : (ps : List Placed) (x y : Placed) → AreInOrder (ps ++ x ∷ []) → IsTrue (stands_before x y) → AreInOrder ((ps ++ x ∷ []) ++ y ∷ [])
AreInOrder-push [] x y o h = (h, tt)
AreInOrder-push (p ∷ []) x y o h = (o.0, (h, tt))
AreInOrder-push (p ∷ q ∷ ps) x y o h = (o.0, AreInOrder-push (q ∷ ps) x y o.1 h)

next-other : (merged : List Placed) (x : Placed) (j : ℕ) (es : List Entry) → AreInOrder (merged ++ x ∷ []) → ((f : Entry) (fs : List Entry) → es ≡ f ∷ fs → IsTrue (stands_before x (record { kernel = j; entry = f }))) → IsNext (merged ++ x ∷ []) j es
next-other merged x j [] o h = tt
next-other merged x j (f ∷ fs) o h = AreInOrder-push merged x (record { kernel = j; entry = f }) o (h f fs refl)

rising-before : (k : ℕ) (e : Entry) (es : List Entry) → AreRising (e ∷ es) → (f : Entry) (fs : List Entry) → es ≡ f ∷ fs → IsTrue (stands_before (record { kernel = k; entry = e }) (record { kernel = k; entry = f }))
rising-before k e [] r f fs h = absurd (cc)
rising-before k e (g ∷ gs) r f fs h =
    let same : g ≡ f = cc in
    let lt : e.stamp < f.stamp = subst (λ (x : Entry). e.stamp < x.stamp) same r.0 in
    before-if (record { kernel = k; entry = e }) (record { kernel = k; entry = f }) (inl lt)

-- the first head is placed
IsSoFar-more : (all rests more : ℕ → List Entry) (merged : List Placed) (k : ℕ) (e : Entry) (es : List Entry) → IsSoFar all rests merged → rests k ≡ e ∷ es → more k ≡ es → ((j : ℕ) → j ≢ k → more j ≡ rests j)
    → AreRising (e ∷ es) → StandsBeforeHeads rests k e → IsSoFar all more (merged ++ record { kernel = k; entry = e } ∷ [])
IsSoFar-more all rests more merged k e es s is here others rising before =
    let x : Placed = record { kernel = k; entry = e } in
    let o : AreInOrder (merged ++ x ∷ []) = subst (λ (fs : List Entry). IsNext merged k fs) is (s.next k) in
    record {
      order = o;
      entries = λ j. elim (eqb_tells j k) [
        | inl w ↦
            let at : k ≡ j = sym w.1 in
            subst (λ (i : ℕ). of_kernel i (merged ++ x ∷ []) ++ more i ≡ all i) at
            (ap (λ fs. fs ++ more k) (of_kernel-push merged x k refl) ∙ append_assoc (of_kernel k merged) (e ∷ []) (more k) ∙ ap (λ fs. of_kernel k merged ++ e ∷ fs) here ∙ ap (λ fs. of_kernel k merged ++ fs) (sym is)
            ∙ s.entries k)
        | inr w ↦
            let other : k ≢ j = λ q. w.1 (sym q) in
            ap (λ fs. fs ++ more j) (of_kernel-push_other merged x j other) ∙ ap (λ fs. of_kernel j merged ++ fs) (others j w.1) ∙ s.entries j
      ];
      next = λ j. elim (eqb_tells j k) [
        | inl w ↦
            let at : k ≡ j = sym w.1 in
            subst (λ (i : ℕ). IsNext (merged ++ x ∷ []) i (more i)) at (next-other merged x k (more k) o (λ f fs q. rising-before k e es rising f fs (sym here ∙ q)))
        | inr w ↦ next-other merged x j (more j) o (λ f fs q. before j w.1 f fs (sym (others j w.1) ∙ q))
      ];
    }

-- of two heads that are not the same, the first stands before the other
no-later-before : (head : Head) (e f : Entry) (i : ℕ) → e.stamp ≡ head.stamp → i ≢ head.kernel → IsNoLater head i f.stamp → IsTrue (stands_before (record { kernel = head.kernel; entry = e }) (record { kernel = i; entry = f }))
no-later-before head e f i same ne later =
    let le : head.stamp ≤ f.stamp = later.0 in
    before-if (record { kernel = head.kernel; entry = e }) (record { kernel = i; entry = f })
    (elim (eqb_tells head.stamp f.stamp) [
      | inl w ↦ let at : head.kernel ≤ i = later.1 w.1 in let eq : head.stamp ≡ f.stamp = w.1 in inr (omega arith, omega arith)
      | inr w ↦ let neq : head.stamp ≢ f.stamp = w.1 in inl (omega arith)
    ])

-- the first of all heads stands before every other
first-of_all : (ls : List (List Entry)) (n : ℕ) (head : Head) (e : Entry) (es : List Entry) → length ls ≤ n → IsFirstBelow ls n (Some head) → entries_at ls head.kernel ≡ e ∷ es → StandsBeforeHeads (entries_at ls) head.kernel e
first-of_all ls n head e es all first is i ne f fs q =
    let stamp : first_stamp (entries_at ls head.kernel) ≡ Some e.stamp = ap first_stamp is in
    let other : first_stamp (entries_at ls i) ≡ Some f.stamp = ap first_stamp q in
    let known : first_stamp (entries_at ls head.kernel) ≡ Some head.stamp = first.1 in
    let same : e.stamp ≡ head.stamp = cc in
    elim (leb_tells n i) [
      | inl w ↦ let no : [] ≡ f ∷ fs = sym (entries_at-none ls i (omega (arith, w.1))) ∙ q in absurd (cc)
      | inr w ↦ no-later-before head e f i same ne (first.2 i w.1 f.stamp other)
    ]

-- the first entry of the first head's list is popped
pub IsPopped-first : (ls : List (List Entry)) (n : ℕ) (head : Head) (e : Entry) (es : List Entry) → length ls ≡ n → IsFirstBelow ls n (Some head) → entries_at ls head.kernel ≡ e ∷ es → IsPopped ls (set ls head.kernel es) (record { kernel = head.kernel; entry = e })
IsPopped-first ls n head e es all first is =
    let within : head.kernel < length ls = omega (arith, first.0, all) in
    let here : entries_at (set ls head.kernel es) head.kernel ≡ es = get_or-set_same ls head.kernel es [] within in
    let sums : sum_by length (set ls head.kernel es) + length (entries_at ls head.kernel) ≡ sum_by length ls + length es = sum_by-set length ls head.kernel es [] within in
    let long : length (entries_at ls head.kernel) ≡ length es + 1 = ap length is ∙ omega arith in
    record {
      entry = is ∙ ap (λ (xs : List Entry). e ∷ xs) (sym here);
      others = λ k ne. get_or-set_other ls head.kernel k es [] ne;
      first = first-of_all ls n head e es (omega (arith, all)) first is;
      count = omega (arith, sums, long);
    }

-- the merge so far after the first entry of all is placed
pub IsSoFar-popped : (all : ℕ → List Entry) (before after : List (List Entry)) (merged : List Placed) (placed : Placed) → IsPopped before after placed → AreRising (entries_at before placed.kernel) → IsSoFar all (entries_at before) merged → IsSoFar all (entries_at after) (merged ++ placed ∷ [])
IsSoFar-popped all before after merged placed popped rising so_far =
    let ups : AreRising (placed.entry ∷ entries_at after placed.kernel) = subst (λ (xs : List Entry). AreRising xs) popped.entry rising in
    IsSoFar-more all (entries_at before) (entries_at after) merged placed.kernel placed.entry (entries_at after placed.kernel) so_far popped.entry refl popped.others ups popped.first

-- what is left after that rises too
pub AreRising-popped : (before after : List (List Entry)) (placed : Placed) → IsPopped before after placed → ((k : ℕ) → AreRising (entries_at before k)) → (k : ℕ) → AreRising (entries_at after k)
AreRising-popped before after placed popped rising k =
    elim (eqb_tells k placed.kernel) [
      | inl w ↦ subst (λ (i : ℕ). AreRising (entries_at after i)) (sym w.1) (AreRising-tail placed.entry (entries_at after placed.kernel) (subst (λ (xs : List Entry). AreRising xs) popped.entry (rising placed.kernel)))
      | inr w ↦ subst (λ (xs : List Entry). AreRising xs) (sym (popped.others k w.1)) (rising k)
    ]

-- ---- the journal of a single kernel is the merge

alone-in_order : (es : List Entry) → AreRising es → AreInOrder (map (placed_at 0) es)
alone-in_order [] r = tt
alone-in_order (e ∷ []) r = tt
alone-in_order (e ∷ f ∷ es) r = (before-if (placed_at 0 e) (placed_at 0 f) (inl r.0), alone-in_order (f ∷ es) r.1)

alone-entries : (es : List Entry) → of_kernel 0 (map (placed_at 0) es) ≡ es
alone-entries [] = refl
alone-entries (e ∷ es) = of_kernel-same (placed_at 0 e) (map (placed_at 0) es) 0 refl ∙ ap (λ fs. e ∷ fs) (alone-entries es)

none-of_others : (es : List Entry) (k : ℕ) → 0 ≢ k → of_kernel k (map (placed_at 0) es) ≡ []
none-of_others [] k other = refl
none-of_others (e ∷ es) k other = of_kernel-other (placed_at 0 e) (map (placed_at 0) es) k other ∙ none-of_others es k other

alone-at : (es : List Entry) (k : ℕ) → of_kernel k (map (placed_at 0) es) ≡ entries_at (es ∷ []) k
alone-at es zero = alone-entries es
alone-at es (suc k) = none-of_others es (suc k) (λ e. omega (arith, e))

pub IsMerge_alone : (es : List Entry) → AreRising es → IsMerge (es ∷ []) (map (placed_at 0) es)
IsMerge_alone es r = record { order = alone-in_order es r; entries = alone-at es }
