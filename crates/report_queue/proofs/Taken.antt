-- A list of which the first were taken.
use Rattle.std.proofs.Common.{◌≡◌, ℕ, ◌+◌, ◌-◌, ◌≤◌, List, [], ◌++◌, drop, length, take, arith, refl, sym, subst, ◌∙◌}
use Rattle.std.proofs.lemmas.List.{length-drop, take_at}

module _ {T : Type 0} (xs : List T) (taken : ℕ) (within : taken ≤ length xs) where
  -- so many more can be taken as are left
  pub taken_within : (left : List T) (n : ℕ) → drop taken xs ≡ left → n ≤ length left → taken + n ≤ length xs
  taken_within left n is few =
      let long : length (drop taken xs) ≡ length xs - taken = length-drop taken xs in
      let fewer : n ≤ length (drop taken xs) = subst (λ l. n ≤ length l) (sym is) few in
      omega arith

  -- where none are left all were taken
  pub all_taken : drop taken xs ≡ [] → taken ≡ length xs
  all_taken none =
      let long : length (drop taken xs) ≡ length xs - taken = length-drop taken xs in
      let zero : length (drop taken xs) ≡ 0 = subst (λ l. length l ≡ 0) (sym none) refl in
      omega arith

  -- those that are left stand in front of the others, once turned round
  pub left_first : (left : ℕ) → left ≡ length xs - taken → take left (drop taken xs ++ take taken xs) ≡ drop taken xs
  left_first left is = take_at (drop taken xs) (take taken xs) left (length-drop taken xs ∙ sym is)
