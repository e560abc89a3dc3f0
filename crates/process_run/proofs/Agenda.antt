-- Which call is due is known from the ends that may have one: where all ends before one have none, that of this one is the first; where all have
-- none, none is due; and where no allow is due, none is queued. So code need not look at all ends.
use Rattle.std.proofs.Common.{arith, ◌≡◌, ℕ, zero, suc, ◌+◌, ◌<◌, Bool, List, [], ◌∷◌, map, Option, Some, None, slice_get, slice_set, true, false, if◌then◌else◌, refl, sym, ap, subst, ◌∙◌}
use Rattle.end_protocol.specs.declared.kept.Forbade.{Forbade}
use Rattle.end_protocol.specs.declared.kept.Kept.{Kept}
use Rattle.end_protocol.specs.Going.{allows, is_allow_due, settled, settled_with}
use Rattle.process_run.specs.States.{Holding, Keeps, Gone, Place}
use Rattle.process_run.specs.Runs.{Asking, or_asking, due_on, due_among, settled_in, settled_at}

-- no call is due on the end of this number
abbrev IsIdle : ℕ → Bool → ℕ → Place → Type 0
IsIdle version free n p = due_on version free n p.end p.holding ≡ None

place_is : (p q : Place) → Some p ≡ Some q → p ≡ q
place_is p q e = ap (λ (x : Option Place). elim x [ None ↦ p | Some y ↦ y ]) e

idle_first : (o others : Option Asking) → o ≡ None → or_asking o others ≡ others
idle_first o others e = ap (λ (x : Option Asking). or_asking x others) e

due_first : (o others : Option Asking) (a : Asking) → o ≡ Some a → or_asking o others ≡ Some a
due_first o others a e = ap (λ (x : Option Asking). or_asking x others) e

-- the first end for which a call is due, at place i from number n on
pub first_is_due : (version : ℕ) (free : Bool) (n i : ℕ) (ps : List Place) (p : Place) (a : Asking) → slice_get ps i ≡ Some p
    → ((j : ℕ) (q : Place) → j < i → slice_get ps j ≡ Some q → IsIdle version free (n + j) q)
    → due_on version free (n + i) p.end p.holding ≡ Some a
    → due_among version free n ps ≡ Some a
first_is_due version free n i [] p a at idle due = let no : None ≡ Some p = at in absurd cc
first_is_due version free n zero (q ∷ ps) p a at idle due =
    let number : n + 0 ≡ n = omega arith in
    let here : due_on version free n p.end p.holding ≡ Some a = subst (λ (k : ℕ). due_on version free k p.end p.holding ≡ Some a) number due in
    let same : due_on version free n q.end q.holding ≡ Some a = subst (λ (x : Place). due_on version free n x.end x.holding ≡ Some a) (sym (place_is q p at)) here in
    due_first (due_on version free n q.end q.holding) (due_among version free (n + 1) ps) a same
first_is_due version free n (suc i) (q ∷ ps) p a at idle due =
    let number : n + 0 ≡ n = omega arith in
    let none : IsIdle version free n q = subst (λ (k : ℕ). IsIdle version free k q) number (idle zero q (omega arith) refl) in
    let later : (n + 1) + i ≡ n + suc i = omega arith in
    let due_later : due_on version free ((n + 1) + i) p.end p.holding ≡ Some a = subst (λ (k : ℕ). due_on version free k p.end p.holding ≡ Some a) (sym later) due in
    let idle_later : (j : ℕ) (r : Place) → j < i → slice_get ps j ≡ Some r → IsIdle version free ((n + 1) + j) r =
    λ j r below there. let moved : n + suc j ≡ (n + 1) + j = omega arith in
    subst (λ (k : ℕ). IsIdle version free k r) moved (idle (suc j) r (omega (arith, below)) there) in
    idle_first (due_on version free n q.end q.holding) (due_among version free (n + 1) ps) none ∙ first_is_due version free (n + 1) i ps p a at idle_later due_later

-- no call is due on any end
pub none_is_due : (version : ℕ) (free : Bool) (n : ℕ) (ps : List Place) → ((j : ℕ) (q : Place) → slice_get ps j ≡ Some q → IsIdle version free (n + j) q)
    → due_among version free n ps ≡ None
none_is_due version free n [] idle = refl
none_is_due version free n (q ∷ ps) idle =
    let number : n + 0 ≡ n = omega arith in
    let none : IsIdle version free n q = subst (λ (k : ℕ). IsIdle version free k q) number (idle zero q refl) in
    let idle_later : (j : ℕ) (r : Place) → slice_get ps j ≡ Some r → IsIdle version free ((n + 1) + j) r =
    λ j r there. let moved : n + suc j ≡ (n + 1) + j = omega arith in subst (λ (k : ℕ). IsIdle version free k r) moved (idle (suc j) r there) in
    idle_first (due_on version free n q.end q.holding) (due_among version free (n + 1) ps) none ∙ none_is_due version free (n + 1) ps idle_later

-- where no allow is due, to queue those that are changes nothing
pub all_are_settled : (free : Bool) (ps : List Place) → ((j : ℕ) (q : Place) → slice_get ps j ≡ Some q → settled_in free q.holding ≡ q.holding) → map (settled_at free) ps ≡ ps
all_are_settled free [] calm = refl
all_are_settled free (q ∷ ps) calm =
    let here : settled_at free q ≡ q = ap (λ (h : Holding). record q { holding = h }) (calm zero q refl) in
    let others : map (settled_at free) ps ≡ ps = all_are_settled free ps (λ j r there. calm (suc j) r there) in
    ap (λ (x : Place). x ∷ map (settled_at free) ps) here ∙ ap (λ (xs : List Place). q ∷ xs) others

-- ---- one end after the other

chosen : (b : Bool) (c d : Kept) → b ≡ false → (if b then c else d) ≡ d
chosen b c d e = ap (λ (x : Bool). if x then c else d) e

settled_so : (b free : Bool) (f : Forbade) (k : Kept) → is_allow_due free f k ≡ b → k.forbade ≡ Some f
    → settled free (if b then allows f.number k else k) ≡ (if b then allows f.number k else k)
unfolding allows
settled_so true free f k due e = refl
settled_so false free f k due e =
    ap (λ (o : Option Forbade). settled_with o free k) e ∙ chosen (is_allow_due free f k) (allows f.number k) k due

settled_with_twice : (o : Option Forbade) (free : Bool) (k : Kept) → k.forbade ≡ o → settled free (settled_with o free k) ≡ settled_with o free k
settled_with_twice None free k e = ap (λ (o : Option Forbade). settled_with o free k) e
settled_with_twice (Some f) free k e = settled_so (is_allow_due free f k) free f k refl e

-- once an allow was queued, none is due
pub settled_twice : (free : Bool) (h : Holding) → settled_in free (settled_in free h) ≡ settled_in free h
settled_twice free (Keeps k) = ap (λ (x : Kept). Keeps x) (settled_with_twice k.forbade free k refl)
settled_twice free (Gone own) = refl

-- So ends may be settled one after the other: to settle all comes to the same after one was settled
pub one_is_settled : (free : Bool) (i : ℕ) (ps : List Place) (p : Place) → slice_get ps i ≡ Some p
    → map (settled_at free) (slice_set ps i (settled_at free p)) ≡ map (settled_at free) ps
one_is_settled free i [] p at = let no : None ≡ Some p = at in absurd cc
one_is_settled free zero (q ∷ ps) p at =
    let twice : settled_at free (settled_at free p) ≡ settled_at free p = ap (λ (h : Holding). record p { holding = h }) (settled_twice free p.holding) in
    ap (λ (x : Place). x ∷ map (settled_at free) ps) (twice ∙ ap (settled_at free) (sym (place_is q p at)))
one_is_settled free (suc i) (q ∷ ps) p at = ap (λ (xs : List Place). settled_at free q ∷ xs) (one_is_settled free i ps p at)
