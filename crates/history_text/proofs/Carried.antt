-- Reading ends one after the other, as a loop does.
use Rattle.std.proofs.Common.{◌≡◌, ℕ, suc, ◌+◌, ◌-◌, ◌<◌, ◌≤◌, List, [], ◌∷◌, ◌++◌, length, Result, Ok, Err, refl, sym, ◌∙◌, arith}
use Rattle.std.proofs.lemmas.List.{length-append}
use Rattle.charlotte_calls.specs.declared.names.EndId.{EndId}
use Rattle.charlotte_text.proofs.Ends.{with_front, regroup, front_done}
use Rattle.charlotte_text.specs.declared.fault.Fault.{Fault}
use Rattle.charlotte_text.specs.declared.fault.Fault.TheVariants.{Form}
use Rattle.history_text.specs.Forms.{plus_end_of, ends_of}
use Rattle.history_text.specs.Given.{Given}
use Rattle.history_text.specs.declared.stage.Scope.{Scope}

module _ (scope : Scope) (g : Given) (front : List EndId) (most : ℕ) (ps : List (List ℕ)) (total : Result (List EndId) Fault) where
  pub end_goes_on : (w : List ℕ) (ws : List (List ℕ)) (e : EndId) → length front < most → ps ≡ w ∷ ws → plus_end_of scope g w ≡ Ok e
      → with_front front (ends_of scope g (most - length front) ps) ≡ total
      → with_front (front ++ e ∷ []) (ends_of scope g (most - length (front ++ e ∷ [])) ws) ≡ total
  unfolding ends_of
  end_goes_on w ws e lt p h so_far =
      let k : most - length front ≡ suc (most - length (front ++ e ∷ [])) = omega (arith, length-append front (e ∷ [])) in
      let one : with_front front (ends_of scope g (most - length front) ps) ≡ with_front (front ++ e ∷ []) (ends_of scope g (most - length (front ++ e ∷ [])) ws) =
      rw (p, k, h) (regroup front e (ends_of scope g (most - length (front ++ e ∷ [])) ws)) in
      sym one ∙ so_far

  pub end_fails : (w : List ℕ) (ws : List (List ℕ)) (f : Fault) → length front < most → ps ≡ w ∷ ws → plus_end_of scope g w ≡ Err f
      → with_front front (ends_of scope g (most - length front) ps) ≡ total → Err f ≡ total
  unfolding ends_of
  end_fails w ws f lt p h so_far =
      let k : most - length front ≡ suc (most - (length front + 1)) = omega arith in
      let one : with_front front (ends_of scope g (most - length front) ps) ≡ Err f = rw (p, k, h) refl in
      sym one ∙ so_far

  pub too_many : (w : List ℕ) (ws : List (List ℕ)) → most ≤ length front → ps ≡ w ∷ ws
      → with_front front (ends_of scope g (most - length front) ps) ≡ total → Err Form ≡ total
  unfolding ends_of
  too_many w ws le p so_far =
      let k : most - length front ≡ 0 = omega arith in
      let one : with_front front (ends_of scope g (most - length front) ps) ≡ Err Form = rw (p, k) refl in
      sym one ∙ so_far

  pub ends_done : ps ≡ [] → with_front front (ends_of scope g (most - length front) ps) ≡ total → total ≡ Ok front
  unfolding ends_of
  ends_done p so_far =
      let one : with_front front (ends_of scope g (most - length front) ps) ≡ Ok front = rw p (front_done front) in
      sym so_far ∙ one
