-- What was found of nodes, one after the other.
use Rattle.std.proofs.Common.{◌≡◌, ℕ, zero, suc, ◌+◌, ◌<◌, Bool, false, true, List, [], ◌∷◌, All, Some, length, get_or, ap, sym, subst, ◌∙◌, arith, below_more}
use Rattle.std.specs.Prelude.{◌↔◌, IsTrue, slice_get}
use Rattle.kernel_turns.specs.Goes.{IsAtRest}
use Rattle.kernel_turns.specs.declared.node.Node.{Node}
use Rattle.kernel_worker.proofs.Each.{all-at, all-from}
use Rattle.kernel_worker.specs.Ends.{IsNetEmpty, IsQuiet}

module _ {X : Type 0} where
  pub at-index : (xs : List X) (k : ℕ) (x : X) → k < length xs → x ≡ get_or xs k x → slice_get xs k ≡ Some x
  at-index [] k x below is = absurd (omega (arith, below))
  at-index (y ∷ ys) zero x below is = ap Some (sym is)
  at-index (y ∷ ys) (suc k) x below is = at-index ys k x (omega (arith, below)) is

  -- what holds of those before one, and of that one
  pub more-at : (Q : X → Type 0) (xs : List X) (k : ℕ) (x : X) → slice_get xs k ≡ Some x → Q x → ((j : ℕ) (y : X) → j < k → slice_get xs j ≡ Some y → Q y)
      → (j : ℕ) (y : X) → j < k + 1 → slice_get xs j ≡ Some y → Q y
  more-at Q xs k x at holds before j y below at_y =
      below_more (λ i. (z : X) → slice_get xs i ≡ Some z → Q z) k (λ i b z at_z. before i z b at_z)
      (λ z at_z. let is : Some x ≡ Some z = sym at ∙ at_z in let same : x ≡ z = cc in subst Q same holds) j below y at_y

module _ {P W : Type 0} where
  pub quiet-where : (ns : List (Node P W)) (empty rest both : Bool) → IsTrue empty ↔ IsNetEmpty ns → IsTrue rest ↔ All IsAtRest ns → IsTrue both ↔ (IsTrue empty × IsTrue rest) → IsTrue both ↔ IsQuiet ns
  quiet-where ns empty rest both e r b = (
    (λ h. record { net = e.0 (b.0 h).0; rest = λ k n at. all-at IsAtRest ns k n (r.0 (b.0 h).1) at }),
    (λ q. b.1 (e.1 q.net, r.1 (all-from IsAtRest ns q.rest))),
  )

  pub not-quiet : (ns : List (Node P W)) (empty rest both : Bool) → IsTrue empty ↔ IsNetEmpty ns → IsTrue rest ↔ All IsAtRest ns → IsTrue both ↔ (IsTrue empty × IsTrue rest) → both ≡ false → IsQuiet ns → ⊥
  not-quiet ns empty rest both e r b is q = let so : both ≡ true = (quiet-where ns empty rest both e r b).1 q in let no : true ≡ false = sym so ∙ is in absurd cc

pub false-not : (b : Bool) → b ≡ false → b ≡ true → ⊥
false-not b is so = let no : true ≡ false = sym so ∙ is in absurd cc
