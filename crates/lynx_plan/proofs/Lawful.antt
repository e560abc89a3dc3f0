-- What a line that fails no rule is.
use Rattle.std.proofs.Common.{◌≡◌, ℕ, ◌<◌, ◌≤◌, ◌⊎◌, Bool, true, false, not, cond, ◌||◌, leb, length, Option, Some, None, Ok, refl, ap, inl, inr, arith}
use Rattle.std.proofs.lemmas.Bool.{ltb-true, ltb-false, leb-false, eqb-true, or_parts, or_cases, not-false}
use Rattle.charlotte_text.specs.declared.number.Number.{Number}
use Rattle.charlotte_text.specs.declared.number.Number.TheVariants.{Is, Large}
use Rattle.lynx_plan.specs.declared.rule.Rule.{Rule}
use Rattle.lynx_plan.specs.declared.rule.Rule.TheVariants.{LineDoesNotStandThere}
use Rattle.lynx_plan.specs.declared.form.Form.{Form}
use Rattle.lynx_plan.specs.declared.form.Form.TheVariants.{Version, Kernels, Process, Wire, Ask, LongAsk, Take, Settle}
use Rattle.lynx_plan.specs.declared.meaning.Meaning.{Meaning}
use Rattle.lynx_plan.specs.Given.{Given}
use Rattle.lynx_plan.specs.Rules.{allows, is_below, is_number, value, broken, least_rule, meaning_of, unless, judged}

-- a number that its type holds, below a limit
pub record IsSmall (n : Number) (limit : ℕ) : Type 0 where
  pub is : n ≡ Is (value n)
  pub small : value n < limit

pub small_from : (n : Number) (limit : ℕ) → is_below n limit ≡ true → IsSmall n limit
small_from (Is n) limit e = record { is = refl; small = ltb-true _ _ e }
small_from Large limit e = absurd cc

pub number_from : (n : Number) (m : ℕ) → is_number n m ≡ true → n ≡ Is m
number_from (Is n) m e = ap Is (eqb-true _ _ e)
number_from Large m e = absurd cc

not_small : (n : Number) (limit k : ℕ) → n ≡ Is k → is_below n limit ≡ false → limit ≤ k
not_small (Is n) limit k is e = let same : n ≡ k = cc in omega (arith, ltb-false _ _ e)
not_small Large limit k is e = absurd cc

-- what a form is that fails no rule
abbrev pub Lawful : Given → Form → Type 0
Lawful g (Version n) = (n ≡ Is 1) ⊎ (n ≡ Is 2)
Lawful g (Kernels n) = IsSmall n 9 × (1 ≤ value n)
Lawful g (Process i k) = (i ≡ Is (length g.homes)) × (length g.homes < 64) × IsSmall k g.kernels
Lawful g (Wire i j) = IsSmall i (length g.homes) × IsSmall j (length g.homes) × (length g.wires < 4096)
Lawful g (Ask p call) = IsSmall p (length g.homes)
Lawful g (LongAsk p) = ⊥
Lawful g (Take j k) = IsSmall j g.kernels × IsSmall k g.kernels
Lawful g Settle = Unit {0}

-- a test that a rule makes, where the line fails no rule
pub passed : (b : Bool) (r : Rule) (o : Option Rule) → cond b (Some r) o ≡ None → (b ≡ false) × (o ≡ None)
passed true r o e = absurd cc
passed false r o e = (refl, e)

below_is : (i : Number) (m limit : ℕ) → i ≡ Is m → is_below i limit ≡ true → m < limit
below_is (Is n) m limit is e = let same : n ≡ m = cc in omega (arith, ltb-true _ _ e)
below_is Large m limit is e = absurd cc

pub lawful_from : (g : Given) (f : Form) → broken g f ≡ None → Lawful g f
lawful_from g (Version n) e =
    let p = passed (not (is_number n 1 || is_number n 2)) _ None e in
    elim (or_cases (is_number n 1) (is_number n 2) (not-false _ p.0)) [ inl h ↦ inl (number_from n 1 h) | inr h ↦ inr (number_from n 2 h) ]
lawful_from g (Kernels n) e =
    let p = passed (is_below n 1 || not (is_below n 9)) _ None e in
    let b = or_parts (is_below n 1) (not (is_below n 9)) p.0 in
    let s = small_from n 9 (not-false _ b.1) in
    (s, not_small n 1 (value n) s.is b.0)
lawful_from g (Process i k) e =
    let p = passed (not (is_number i (length g.homes)) || not (is_below i 64)) _ (cond (not (is_below k g.kernels)) (Some _) None) e in
    let q = passed (not (is_below k g.kernels)) _ None p.1 in
    let b = or_parts (not (is_number i (length g.homes))) (not (is_below i 64)) p.0 in
    let n = number_from i (length g.homes) (not-false _ b.0) in
    (n, below_is i (length g.homes) 64 n (not-false _ b.1), small_from k g.kernels (not-false _ q.0))
lawful_from g (Wire i j) e =
    let p = passed (not (is_below i (length g.homes)) || not (is_below j (length g.homes))) _ (cond (leb 4096 (length g.wires)) (Some _) None) e in
    let q = passed (leb 4096 (length g.wires)) _ None p.1 in
    let b = or_parts (not (is_below i (length g.homes))) (not (is_below j (length g.homes))) p.0 in
    (small_from i (length g.homes) (not-false _ b.0), small_from j (length g.homes) (not-false _ b.1), leb-false _ _ q.0)
lawful_from g (Ask p call) e = let h = passed (not (is_below p (length g.homes))) _ None e in small_from p (length g.homes) (not-false _ h.0)
lawful_from g (LongAsk p) e = let h = passed (not (is_below p (length g.homes))) _ (Some _) e in let k = h.1 in absurd cc
lawful_from g (Take j k) e =
    let p = passed (not (is_below j g.kernels) || not (is_below k g.kernels)) _ None e in
    let b = or_parts (not (is_below j g.kernels)) (not (is_below k g.kernels)) p.0 in
    (small_from j g.kernels (not-false _ b.0), small_from k g.kernels (not-false _ b.1))
lawful_from g Settle e = tt

-- a line of a form that fails no rule
pub record Passes (g : Given) (f : Form) (e : Meaning) : Type 0 where
  pub stands : allows f g.stage ≡ true
  pub lawful : Lawful g f
  pub says : meaning_of f ≡ e

unless_ok : (o : Option Rule) (d e : Meaning) → unless o d ≡ Ok e → (o ≡ None) × (d ≡ e)
unless_ok None d e h = (refl, cc)
unless_ok (Some r) d e h = absurd cc

stands_from : (b : Bool) (o : Option Rule) → cond b o (Some LineDoesNotStandThere) ≡ None → (b ≡ true) × (o ≡ None)
stands_from true o e = (refl, e)
stands_from false o e = absurd cc

pub passes_from : (g : Given) (f : Form) (e : Meaning) → judged g f ≡ Ok e → Passes g f e
unfolding judged
passes_from g f e h =
    let u = unless_ok (least_rule g f) (meaning_of f) e h in
    let s = stands_from (allows f g.stage) (broken g f) u.0 in
    record { stands = s.0; lawful = lawful_from g f s.1; says = u.1 }
