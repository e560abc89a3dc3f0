-- The table of numbers stays right where the ends are held in another way, and where one more end comes.
use Rattle.std.proofs.Common.{arith, ◌≡◌, ℕ, zero, suc, ◌+◌, Bool, true, false, cond, if◌then◌else◌, List, [], ◌∷◌, ◌++◌, length, Option, Some, None, unwrap_or, slice_get, slice_set, refl, sym, ap, ap₂, subst, take, take_all, ◌-◌, ◌<◌, ◌≤◌, ◌∙◌}
use Rattle.std.specs.Map.{lookup}
use Rattle.charlotte_calls.specs.declared.names.EndId.{EndId}
use Rattle.charlotte_calls.specs.EndEq.{end_eq}
use Rattle.process_run.specs.States.{Holding, Place}
use Rattle.process_run.specs.Ends.{with_holding, set_holding, number_from, number_of, or_number}
use Rattle.process_run.proofs.Numbers.{got_last, others_got}
use Rattle.process_ends.specs.Numbered.{AreNumbered, KeepNumbers, number_in}
use Rattle.end_protocol.specs.Asking.{later}
use Rattle.end_protocol.specs.Kept.{fresh}
use Rattle.process_run.specs.States.{Keeps}
use Rattle.process_run.specs.Ends.{gets_one}
use Rattle.process_ends.specs.declared.board.Board.{Board}
use Rattle.process_ends.specs.Ends.{Ends, with_places}
use Rattle.process_ends.specs.Kept.{IsKept}
use Rattle.process_ends.specs.Found.{IsFirst}
use Rattle.end_protocol.specs.declared.going.Due.{Due}
use Rattle.std.proofs.Math.Nat.{min-le_left, le-min}
use Rattle.process_ends.specs.Noted.{IsNoted}
use Rattle.process_ends.proofs.Lists.{some_is}

number_set : (m : ℕ) (x : EndId) (ps : List Place) (i : ℕ) (p : Place) (h : Holding) → slice_get ps i ≡ Some p
    → number_from m x (slice_set ps i (record p { holding = h })) ≡ number_from m x ps
number_set m x [] i p h at = refl
number_set m x (q ∷ ps) zero p h at =
    ap (λ (e : EndId). or_number (number_from (m + 1) x ps) (if end_eq e x then m else 0)) (ap (λ (r : Place). r.end) (sym (some_is q p at)))
number_set m x (q ∷ ps) (suc i) p h at = ap (λ (n : ℕ). or_number n (if end_eq q.end x then m else 0)) (number_set (m + 1) x ps i p h at)

number_so : (x : EndId) (ps : List Place) (i : ℕ) (h : Holding) (o : Option Place) → slice_get ps i ≡ o → number_of x (set_holding i h o ps) ≡ number_of x ps
number_so x ps i h None at = refl
number_so x ps i h (Some p) at = number_set 1 x ps i p h at

-- an end that is held in another way keeps its number
pub number_kept : (x : EndId) (n : ℕ) (h : Holding) (ps : List Place) → number_of x (with_holding n h ps) ≡ number_of x ps
number_kept x zero h ps = refl
number_kept x (suc i) h ps = number_so x ps i h (slice_get ps i) refl

one_more : (b : Bool) (x : EndId) (p : Place) (ps : List Place) (es : List (EndId × ℕ)) → AreNumbered ps es → end_eq p.end x ≡ b
    → unwrap_or (cond b (Some (length ps + 1)) (lookup (end_eq x) es)) 0 ≡ number_of x (ps ++ p ∷ [])
one_more true x p ps es are e = let last : number_of x (ps ++ p ∷ []) ≡ 1 + length ps = got_last 1 x ps p e in omega (arith, last)
one_more false x p ps es are e = are x ∙ sym (others_got 1 x ps p e)

-- the table has the next number for an end that comes
pub numbered_more : (p : Place) (ps : List Place) (es fs : List (EndId × ℕ)) → AreNumbered ps es
    → ((x : EndId) → lookup (end_eq x) fs ≡ cond (end_eq p.end x) (Some (length ps + 1)) (lookup (end_eq x) es))
    → AreNumbered (ps ++ p ∷ []) fs
numbered_more p ps es fs are put = λ x. ap (λ (o : Option ℕ). unwrap_or o 0) (put x) ∙ one_more (end_eq p.end x) x p ps es are refl

-- ---- numbers that stay

pub numbers_changed : (ps qs : List Place) (n : ℕ) (h : Holding) → qs ≡ with_holding n h ps → KeepNumbers ps qs
numbers_changed ps qs n h is = record { kept = λ x. ap (number_of x) is ∙ number_kept x n h ps }

pub numbers_same : (ps qs : List Place) → qs ≡ ps → KeepNumbers ps qs
numbers_same ps qs is = record { kept = λ x. ap (number_of x) is }

pub numbers_on : (ps qs rs : List Place) → KeepNumbers ps qs → KeepNumbers qs rs → KeepNumbers ps rs
numbers_on ps qs rs first second = record { kept = λ x. second.kept x ∙ first.kept x }

pub number_found : (ps qs : List Place) (es : List (EndId × ℕ)) (x : EndId) (n : ℕ) → AreNumbered ps es → Some n ≡ lookup (end_eq x) es → ps ≡ qs → n ≡ number_of x qs
number_found ps qs es x n are found same = ap (λ (o : Option ℕ). unwrap_or o 0) found ∙ are x ∙ ap (number_of x) same

pub number_missing : (ps qs : List Place) (es : List (EndId × ℕ)) (x : EndId) → AreNumbered ps es → None ≡ lookup (end_eq x) es → ps ≡ qs → 0 ≡ number_of x qs
number_missing ps qs es x are found same = ap (λ (o : Option ℕ). unwrap_or o 0) found ∙ are x ∙ ap (number_of x) same

-- ---- the ends and their table

pub kept_none : (b : Board) (es : List (EndId × ℕ)) → IsNoted b → b.roster ≡ [] → es ≡ [] → IsKept b es
kept_none b es noted none empty =
    record { noted = noted; numbered = λ x. ap (number_in x) empty ∙ sym (ap (number_of x) none) }

pub kept_as : (b c : Board) (es fs : List (EndId × ℕ)) → IsKept b es → IsNoted c → KeepNumbers b.roster c.roster → fs ≡ es → IsKept c fs
kept_as b c es fs kept noted numbers same =
    record { noted = noted; numbered = λ x. ap (number_in x) same ∙ kept.numbered x ∙ sym (numbers.kept x) }

pub kept_more : (b c : Board) (es fs : List (EndId × ℕ)) (p : Place) (x : EndId) (n : ℕ) → IsKept b es → IsNoted c → c.roster ≡ b.roster ++ p ∷ [] → p.end ≡ x → n ≡ length b.roster + 1
    → ((y : EndId) → lookup (end_eq y) fs ≡ cond (end_eq x y) (Some n) (lookup (end_eq y) es)) → IsKept c fs
kept_more b c es fs p x n kept noted more is next put =
    record {
      noted = noted;
      numbered = subst (λ (ps : List Place). AreNumbered ps fs) (sym more)
          (numbered_more p b.roster es fs kept.numbered
          (λ y. put y ∙ ap₂ (λ (e : EndId) (k : ℕ). cond (end_eq e y) (Some k) (lookup (end_eq y) es)) (sym is) next));
    }

abbrev pub ends_of : List Place → Bool → Ends
ends_of ps r = record { places = ps; room = r }

-- what is seen of the ends after their list was changed in this way
pub seen_as : (ps qs : List Place) (r s : Bool) (e : Ends) (f : List Place → List Place) → ends_of ps r ≡ e → qs ≡ f ps → s ≡ r
    → ends_of qs s ≡ with_places (f e.places) e
seen_as ps qs r s e f view changed room = subst (λ (x : Ends). ends_of qs s ≡ with_places (f x.places) x) view (ap₂ ends_of changed room)

got_so : (n k : ℕ) → n ≡ k → n < 4294967295 → later k - 1 ≡ k
got_so n k is fits =
    let below : k < 4294967295 = subst (λ (m : ℕ). m < 4294967295) is fits in
    let most : later k ≤ k + 1 = min-le_left (k + 1) 4294967295 in
    let least : k + 1 ≤ later k = le-min (omega arith) (omega (arith, below)) in
    omega (arith, most, least)

-- there is room for one more number
pub got_as : (x : EndId) (ps : List Place) (n : ℕ) → n ≡ length ps → n < 4294967295 → ps ++ record { end = x; holding = Keeps fresh } ∷ [] ≡ gets_one x ps
got_as x ps n is fits =
    let last : later (length ps) - 1 ≡ length ps = got_so n (length ps) is fits in
    ap (λ (qs : List Place). qs ++ record { end = x; holding = Keeps fresh } ∷ []) (sym (ap (λ (k : ℕ). take k ps) last ∙ take_all (length ps) ps (omega arith)))

-- the first call, at the ends as they are seen
pub first_as : (ps : List Place) (r s : Bool) (o : Option (ℕ × Due)) → IsFirst r ps o → s ≡ r → IsFirst s ps o
first_as ps r s o first room = subst (λ (x : Bool). IsFirst x ps o) (sym room) first
