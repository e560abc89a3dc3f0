-- Instructions of a thread one after the other.
use Rattle.std.proofs.Common.{arith, ◌≡◌, ℕ, zero, suc, ◌<◌, List, refl, ap, sym, ◌∙◌}
use Rattle.lynx_meaning.specs.Code.{Program}
use Rattle.lynx_meaning.specs.Values.{Value}
use Rattle.machine_turns.specs.Threads.{Standing, Made, Went, Acts, Awaits, Ends, Broken, if_went, comes_of, course, fuel_after}
use Rattle.machine_steps.specs.Operands.{HasCome, IsCourse, IsReady, StaysReady, after}

-- ---- each instruction finds its operands

pub is_ready : (p : Program) (globals : List Value) (s : Standing) → StaysReady p globals s → IsReady p globals s
is_ready p globals s ready = ready 0 globals s refl

pub stays_ready : (p : Program) (globals now : List Value) (s t : Standing) → Went now t ≡ comes_of p globals s → StaysReady p globals s → StaysReady p now t
stays_ready p globals now s t is ready k later u there =
    ready (suc k) later u (ap (λ (m : Made). if_went m (λ now t. after p k now t) (λ last. Broken)) (sym is) ∙ there)

-- ---- one instruction more

abbrev going : Program → ℕ → ℕ → Made → ℕ × Made
going p k fuel m = if_went m (λ now t. course p k fuel now t) (λ last. (fuel, last))

last_one : (p : Program) (fuel : ℕ) (m : Made) → going p 0 fuel m ≡ (fuel, m)
last_one p fuel (Went globals s) = refl
last_one p fuel (Acts a globals s) = refl
last_one p fuel (Awaits globals s) = refl
last_one p fuel (Ends globals) = refl
last_one p fuel Broken = refl

where_it_goes : (p : Program) (k fuel left : ℕ) (now : List Value) (t : Standing) (last : ℕ × Made) (m : Made) →
    ((globals : List Value) (s : Standing) → course p k fuel globals s ≡ (left, Went now t) → course p (suc k) fuel globals s ≡ last) → going p k fuel m ≡ (left, Went now t) → going p (suc k) fuel m ≡ last
where_it_goes p k fuel left now t last (Went globals s) on is = on globals s is
where_it_goes p k fuel left now t last (Acts a globals s) on is = let e : Acts a globals s ≡ Went now t = ap (λ (q : ℕ × Made). q.1) is in cc
where_it_goes p k fuel left now t last (Awaits globals s) on is = let e : Awaits globals s ≡ Went now t = ap (λ (q : ℕ × Made). q.1) is in cc
where_it_goes p k fuel left now t last (Ends globals) on is = let e : Ends globals ≡ Went now t = ap (λ (q : ℕ × Made). q.1) is in cc
where_it_goes p k fuel left now t last Broken on is = let e : Broken ≡ Went now t = ap (λ (q : ℕ × Made). q.1) is in cc

-- a course that has come so far goes on from there
from_there : (p : Program) (k fuel left : ℕ) (globals now : List Value) (s t : Standing) → course p k fuel globals s ≡ (left, Went now t) → course p (suc k) fuel globals s ≡ course p 1 left now t
from_there p zero fuel left globals now s t is =
    let size : fuel ≡ left = ap (λ (q : ℕ × Made). q.0) is in
    let same : Went globals s ≡ Went now t = ap (λ (q : ℕ × Made). q.1) is in
    let same_globals : globals ≡ now = cc in
    let same_thread : s ≡ t = cc in
    ap (λ (n : ℕ). course p 1 n globals s) size ∙ ap (λ (g : List Value). course p 1 left g s) same_globals ∙ ap (λ (u : Standing). course p 1 left now u) same_thread
from_there p (suc k) zero left globals now s t is =
    let size : zero ≡ left = ap (λ (q : ℕ × Made). q.0) is in
    is ∙ ap (λ (n : ℕ). (n, Went now t)) (sym size) ∙ ap (λ (n : ℕ). course p 1 n now t) size
from_there p (suc k) (suc fuel) left globals now s t is =
    where_it_goes p k (fuel_after (suc fuel) s) left now t (course p 1 left now t) (comes_of p globals s)
    (λ g u. from_there p k (fuel_after (suc fuel) s) left g now u t) is

-- one instruction more
pub one_more : (p : Program) (fuel left rest : ℕ) (globals now : List Value) (s t : Standing) (last : Made) → rest ≡ fuel_after left t → 0 < left → HasCome p fuel globals s left (Went now t) →
    last ≡ comes_of p now t → IsCourse p fuel globals s rest last
one_more p fuel zero rest globals now s t last spent there come is = absurd (omega arith)
one_more p fuel (suc left) rest globals now s t last spent there come is = (
  come.0,
  from_there p come.0 fuel (suc left) globals now s t come.1
      ∙ last_one p (fuel_after (suc left) t) (comes_of p now t)
      ∙ ap (λ (m : Made). (fuel_after (suc left) t, m)) (sym is)
      ∙ ap (λ (n : ℕ). (n, last)) (sym spent),
)

pub has_come : (p : Program) (fuel left : ℕ) (globals : List Value) (s : Standing) (last : Made) → IsCourse p fuel globals s left last → HasCome p fuel globals s left last
has_come p fuel left globals s last course_is = (suc course_is.0, course_is.1)
