-- Sets of numbers after one was added or taken out.
use Rattle.std.proofs.Common.{arith, Bor, ◌≡◌, ℕ, ◌+◌, ◌<◌, ◌≤◌, Bool, true, false, cond, ◌||◌, if◌then◌else◌, List, [], ◌∷◌, length, Option, None, is_some, refl, sym, ap, subst, ◌∙◌, ◌⊎◌, inl, inr, ⊎_elim, ◌↔◌}
use Rattle.std.specs.List.{list_any}
use Rattle.std.specs.BTreeSet.{BTreeSet, btree_set_len, Updates, UpdatesBy, IsLowerBound}
use Rattle.std.specs.BTreeMap.{is_at}
use Rattle.std.specs.Cmp.{ranks}
use Rattle.std.proofs.Common.{Ordering, Less, Equal, Greater}
use Rattle.std.specs.Ordering.{MatchOrdering, nat_cmp, is_eq}
use Rattle.std.proofs.lemmas.Map.Keys.{le_from_not_gt}
use Rattle.process_ends.specs.Noted.{is_among}
use Rattle.process_ends.specs.Sets.{Grows, GrowsBut, Remains}

same_so : (r : Ordering) (n m : ℕ) → MatchOrdering r (n < m) (n ≡ m) (m < n) → is_eq r ≡ true → n ≡ m
same_so Less n m is e = let no : false ≡ true = e in absurd cc
same_so Equal n m is e = is
same_so Greater n m is e = let no : false ≡ true = e in absurd cc

apart_so : (r : Ordering) (n m : ℕ) → MatchOrdering r (n < m) (n ≡ m) (m < n) → (m ≡ n → ⊥) → is_eq r ≡ false
apart_so Less n m is apart = refl
apart_so Equal n m is apart = absurd (apart (sym is))
apart_so Greater n m is apart = refl

-- ---- one number more

pub grows_same : (s t : BTreeSet ℕ) → t.keys ≡ s.keys → Grows s t
grows_same s t same = λ m is. ap (λ (ks : List ℕ). list_any (is_at (nat_cmp m)) ks) same ∙ is

stays : (b c : Bool) → c ≡ true → cond b true c ≡ true
stays true c is = refl
stays false c is = is

pub grows_put : (s t : BTreeSet ℕ) (n : ℕ) → Updates nat_cmp s t n true → Grows s t
grows_put s t n u = λ m is. u.0 m ∙ stays (is_at (nat_cmp n) m) (is_among m s) is

pub among_put : (s t : BTreeSet ℕ) (n : ℕ) → Updates nat_cmp s t n true → is_among n t ≡ true
among_put s t n u = u.1

-- ---- one number less

pub grows_but : (s t : BTreeSet ℕ) (n : ℕ) → UpdatesBy nat_cmp (nat_cmp n) s t false → GrowsBut n s t
grows_but s t n u = λ m apart is. u.2 m (apart_so (nat_cmp n m) n m (ranks n m) apart) ∙ is

pub fewer : (was : Bool) (old new : ℕ) → was ≡ true → new + (if was then 1 else 0) ≡ old → new < old
fewer true old new is len = let one : new + 1 ≡ old = len in omega (arith, one)
fewer false old new is len = let no : false ≡ true = is in absurd cc

-- ---- all numbers of another set

pub none_remains : (more s : BTreeSet ℕ) (left : List ℕ) → left ≡ [] → Remains more left s → Grows more s
none_remains more s left none remains =
    λ m is. ⊎_elim (λ e. let no : false ≡ true = sym (ap (λ (ks : List ℕ). list_any (is_at (nat_cmp m)) ks) none) ∙ e in absurd cc) (λ e. e) (remains m is)

pub all_remain : (more s : BTreeSet ℕ) (left : List ℕ) → left ≡ more.keys → Remains more left s
all_remain more s left all = λ m is. inl (ap (λ (ks : List ℕ). list_any (is_at (nat_cmp m)) ks) all ∙ is)

either : (a b : Bool) → (a || b) ≡ true → (a ≡ true) ⊎ (b ≡ true)
either true b e = inl refl
either false b e = inr e

next_so : (m x : ℕ) (t : BTreeSet ℕ) (rest : List ℕ) → is_among x t ≡ true → (is_at (nat_cmp m) x ≡ true) ⊎ (list_any (is_at (nat_cmp m)) rest ≡ true)
    → (list_any (is_at (nat_cmp m)) rest ≡ true) ⊎ (is_among m t ≡ true)
next_so m x t rest here (inl e) = inr (subst (λ (k : ℕ). is_among k t ≡ true) (sym (same_so (nat_cmp m x) m x (ranks m x) e)) here)
next_so m x t rest here (inr e) = inl e

pub next_remains : (more s t : BTreeSet ℕ) (x : ℕ) (left rest : List ℕ) → left ≡ x ∷ rest → Grows s t → is_among x t ≡ true → Remains more left s → Remains more rest t
next_remains more s t x left rest split grows here remains =
    λ m is. ⊎_elim
    (λ e. next_so m x t rest here (either (is_at (nat_cmp m) x) (list_any (is_at (nat_cmp m)) rest) (sym (ap (λ (ks : List ℕ). list_any (is_at (nat_cmp m)) ks) split) ∙ e)))
    (λ e. inr (grows m e)) (remains m is)

pub grows_on : (s t u : BTreeSet ℕ) → Grows s t → Grows t u → Grows s u
grows_on s t u first second = λ m is. second m (first m is)

-- ---- the least number

below_so : (b : Bool) (s : BTreeSet ℕ) (n m : ℕ) → is_among m s ≡ b → IsLowerBound nat_cmp s n → m < n → b ≡ false
below_so true s n m is least below = let up : n ≤ m = le_from_not_gt n m (least m is) in absurd (omega (arith, up, below))
below_so false s n m is least below = refl

pub none_below : (s : BTreeSet ℕ) (n : ℕ) → IsLowerBound nat_cmp s n → (m : ℕ) → m < n → is_among m s ≡ false
none_below s n least m below = below_so (is_among m s) s n m refl least below

none_so : (ks : List ℕ) (m : ℕ) → (0 < length ks → ⊥) → list_any (is_at (nat_cmp m)) ks ≡ false
none_so [] m none = refl
none_so (k ∷ ks) m none = absurd (none (omega arith))

pub none_among : (s : BTreeSet ℕ) (o : Option (Bor ℕ)) → o ≡ None → ((is_some o ≡ true) ↔ (0 < btree_set_len s)) → (m : ℕ) → is_among m s ≡ false
none_among s o is variant m = none_so s.keys m (λ some. let no : false ≡ true = ap is_some (sym is) ∙ variant.1 some in absurd cc)
