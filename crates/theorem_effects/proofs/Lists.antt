-- Elements of lists, and the packets of an event that go to one kernel.
use Rattle.std.proofs.Common.{◌≡◌, ℕ, zero, suc, Bool, true, false, nat_eq, cond, if◌then◌else◌, ◌⊎◌, inl, inr, List, [], ◌∷◌, map, All, Contains, refl, sym, ap, subst, ◌∙◌, arith, eqb-true, eq-eqb, true≢false}
use Rattle.std.specs.List.{filter}
use Rattle.charlotte_packets.specs.declared.picture.Picture.{Picture}
use Rattle.charlotte_packets.specs.declared.picture.PictureWhat.{PictureWhat}
use Rattle.kernel_effects.specs.Effect.{stamped}
use Rattle.kernel_world.specs.World.{to_kernel}

module _ {X : Type 0} where
  pub none-there : (x : X) → Contains [] x → ⊥
  none-there x has = omega (arith, has.1)

  -- where an element of a list with a first one stands
  pub first_or_later : (x : X) (xs : List X) (y : X) → Contains (x ∷ xs) y → (x ≡ y) ⊎ Contains xs y
  first_or_later x xs y (zero, within, is) = inl is
  first_or_later x xs y (suc k, within, is) = inr (k, omega arith, is)

  pub later : (x : X) (xs : List X) (y : X) → Contains xs y → Contains (x ∷ xs) y
  later x xs y (k, within, is) = (suc k, omega arith, is)

  pub first : (x : X) (xs : List X) → Contains (x ∷ xs) x
  first x xs = (zero, omega arith, refl)

  pub only-there : (x y : X) → Contains (x ∷ []) y → x ≡ y
  only-there x y has = by (first_or_later x [] y has)
    where
      by : (x ≡ y) ⊎ Contains [] y → x ≡ y
      by (inl is) = is
      by (inr none) = absurd (none-there y none)

  -- what is true of each element that stands there is true of all
  pub All-there : (P : X → Type 0) (xs : List X) → ((x : X) → Contains xs x → P x) → All P xs
  All-there P [] each k d within = absurd (omega arith)
  All-there P (x ∷ xs) each zero d within = each x (first x xs)
  All-there P (x ∷ xs) each (suc k) d within = All-there P xs (λ y has. each y (later x xs y has)) k d (omega arith)

-- ---- the packets of an event that go to one kernel

module _ (to stamp : ℕ) where
  abbrev pub going : List (ℕ × PictureWhat) → List Picture
  going ps = to_kernel to (map (stamped stamp) ps)

  pub going-first : (p : ℕ × PictureWhat) (ps : List (ℕ × PictureWhat)) (b : Bool) → nat_eq to p.0 ≡ b
      → going (p ∷ ps) ≡ (if b then record { stamp = stamp; what = p.1 } ∷ going ps else going ps)
  going-first p ps true is = ap (λ b. map (λ (s : ℕ × Picture). s.1) (cond b (stamped stamp p ∷ filter (λ s. nat_eq to s.0) (map (stamped stamp) ps)) (filter (λ s. nat_eq to s.0) (map (stamped stamp) ps)))) is
  going-first p ps false is = ap (λ b. map (λ (s : ℕ × Picture). s.1) (cond b (stamped stamp p ∷ filter (λ s. nat_eq to s.0) (map (stamped stamp) ps)) (filter (λ s. nat_eq to s.0) (map (stamped stamp) ps)))) is

  -- one that goes there was sent there
  pub going-sent : (ps : List (ℕ × PictureWhat)) (q : Picture) → Contains (going ps) q → Contains ps (to, q.what)
  going-sent [] q has = absurd (none-there q has)
  going-sent (p ∷ ps) q has = by (going-sent ps q) (nat_eq to p.0) refl
    where
      here : (Contains (going ps) q → Contains ps (to, q.what)) → p ≡ (to, p.1) → (record { stamp = stamp; what = p.1 } ≡ q) ⊎ Contains (going ps) q → Contains (p ∷ ps) (to, q.what)
      here rest at (inl is) = subst (Contains (p ∷ ps)) (at ∙ ap (λ (z : Picture). (to, z.what)) is) (first p ps)
      here rest at (inr has) = later p ps (to, q.what) (rest has)

      by : (Contains (going ps) q → Contains ps (to, q.what)) → (b : Bool) → nat_eq to p.0 ≡ b → Contains (p ∷ ps) (to, q.what)
      by rest true is =
          here rest (ap (λ n. (n, p.1)) (sym (eqb-true to p.0 is)))
          (first_or_later (record { stamp = stamp; what = p.1 }) (going ps) q (subst (λ l. Contains l q) (going-first p ps true is) has))
      by rest false is = later p ps (to, q.what) (rest (subst (λ l. Contains l q) (going-first p ps false is) has))

  -- one that was sent there goes there
  pub sent-going : (ps : List (ℕ × PictureWhat)) (what : PictureWhat) → Contains ps (to, what) → Contains (going ps) (record { stamp = stamp; what = what })
  sent-going [] what has = absurd (none-there (to, what) has)
  sent-going (p ∷ ps) what has = by (sent-going ps what) (nat_eq to p.0) refl (first_or_later p ps (to, what) has)
    where
      by : (Contains ps (to, what) → Contains (going ps) (record { stamp = stamp; what = what })) → (b : Bool) → nat_eq to p.0 ≡ b → (p ≡ (to, what)) ⊎ Contains ps (to, what) → Contains (going (p ∷ ps)) (record { stamp = stamp; what = what })
      by rest true is (inl same) =
          subst (λ l. Contains l (record { stamp = stamp; what = what })) (sym (going-first p ps true is))
          (subst (λ (z : ℕ × PictureWhat). Contains (record { stamp = stamp; what = p.1 } ∷ going ps) (record { stamp = stamp; what = z.1 })) same (first (record { stamp = stamp; what = p.1 }) (going ps)))
      by rest true is (inr has) =
          subst (λ l. Contains l (record { stamp = stamp; what = what })) (sym (going-first p ps true is))
          (later (record { stamp = stamp; what = p.1 }) (going ps) (record { stamp = stamp; what = what }) (rest has))
      by rest false is (inl same) = absurd (other same is)
        where
          other : p ≡ (to, what) → nat_eq to p.0 ≡ false → ⊥
          other same is = true≢false (sym (eq-eqb to p.0 (sym (ap (λ (z : ℕ × PictureWhat). z.0) same))) ∙ is)
      by rest false is (inr has) = subst (λ l. Contains l (record { stamp = stamp; what = what })) (sym (going-first p ps false is)) (rest has)
