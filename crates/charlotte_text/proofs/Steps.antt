-- Steps of reading that did not fail.
use Rattle.std.proofs.Common.{◌≡◌, Bool, true, false, cond, Result, Ok, Err, refl, ap}
use Rattle.std.proofs.Common.{◌⊎◌, inl, inr, List, ℕ, [], ◌∷◌}
use Rattle.charlotte_text.specs.declared.fault.Fault.{Fault}
use Rattle.charlotte_text.specs.declared.fault.Fault.TheVariants.{Form}
use Rattle.charlotte_text.specs.Reading.{◌>>=◌, part_at, ended}

-- the value of a step that did not fail
pub bind_ok : {A B : Type 0} (r : Result A Fault) (f : A → Result B Fault) (y : B) → (r >>= f) ≡ Ok y → (x : A) × (r ≡ Ok x) × (f x ≡ Ok y)
bind_ok (Ok x) f y e = (x, refl, e)
bind_ok (Err d) f y e = absurd cc

abbrev pub done : {A : Type 0} → A → Result A Fault
done x = Ok x

pub ok_is : {A : Type 0} (x y : A) → done x ≡ done y → x ≡ y
ok_is x y e = cc

pub not_ok : {A : Type 0} (x : A) (f : Fault) → Err f ≡ done x → ⊥
not_ok x f e = cc

-- which way a test went
pub chosen : {A : Type 0} (b : Bool) (x y z : A) → cond b x y ≡ z → ((b ≡ true) × (x ≡ z)) ⊎ ((b ≡ false) × (y ≡ z))
chosen true x y z e = inl (refl, e)
chosen false x y z e = inr (refl, e)

-- a test that had to hold
pub held : {A : Type 0} (b : Bool) (r : Result A Fault) (f : Fault) (y : A) → cond b r (Err f) ≡ Ok y → (b ≡ true) × (r ≡ Ok y)
held true r f y e = (refl, e)
held false r f y e = absurd (not_ok y f e)

pub part_ok : (ps : List (List ℕ)) (x : List ℕ × List (List ℕ)) → part_at ps ≡ Ok x → ps ≡ x.0 ∷ x.1
part_ok [] x e = absurd cc
part_ok (p ∷ ps) x e = ap (λ (y : List ℕ × List (List ℕ)). y.0 ∷ y.1) (ok_is (p, ps) x e)

pub ended_ok : (ps : List (List ℕ)) (u : Unit {0}) → ended ps ≡ Ok u → ps ≡ []
ended_ok [] u e = refl
ended_ok (p ∷ ps) u e = absurd (not_ok u Form e)
