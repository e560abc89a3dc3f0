-- The first fault on a walk: what was found so far and what comes are one list.
use Rattle.std.proofs.Common.{◌≡◌, ℕ, ◌+◌, List, [], ◌∷◌, ◌++◌, Bool, true, false, Option, None, is_some, cond, ◌&&◌, refl, sym, ap, ◌∙◌}
use Rattle.lynx_tree.specs.Trees.{ExprTree}
use Rattle.lynx_tree.specs.Trees as trees
use Rattle.typing_rules.specs.Types.{Held}
use Rattle.typing_rules.specs.Names.{Scope}
use Rattle.typing_rules.specs.Rules.{Fault, demand}
use Rattle.typing_rules.specs.Expressions.{held, shown_type, expr_faults}
use Rattle.typing_rules.specs.Progress.{earlier, first_with, is_clean}

pub first_with-append : (o : Option Fault) (xs ys : List Fault) → first_with o (xs ++ ys) ≡ first_with (first_with o xs) ys
first_with-append o [] ys = refl
first_with-append o (x ∷ xs) ys = first_with-append (earlier o x) xs ys

pub is_clean-append : (xs ys : List Fault) → is_clean (xs ++ ys) ≡ (is_clean xs && is_clean ys)
is_clean-append [] ys = refl
is_clean-append (x ∷ xs) ys = refl

pub is_clean-demand : (rule at : ℕ) (b : Bool) → is_clean (demand rule at b) ≡ b
is_clean-demand rule at true = refl
is_clean-demand rule at false = refl

-- an expression in which no rule fails shows a type
pub shown-some : (s : Scope) (at : ℕ) (e : ExprTree) → is_clean (expr_faults s at e) ≡ true → is_some (shown_type s e) ≡ true
shown-some s at (trees.Or es) clean = refl
shown-some s at (trees.And es) clean = refl
shown-some s at (trees.Relation first sign second) clean = refl
shown-some s at (trees.Sum first rest) clean = refl
shown-some s at (trees.Term first rest) clean = refl
shown-some s at (trees.Minus inner) clean = refl
shown-some s at (trees.Not inner) clean = refl
shown-some s at (trees.Number n) clean = refl
shown-some s at (trees.Text inside) clean = refl
shown-some s at trees.True clean = refl
shown-some s at trees.False clean = refl
shown-some s at (trees.Name n) clean = sym (is_clean-demand 8 at _) ∙ clean
shown-some s at (trees.Member n index) clean = refl
shown-some s at (trees.Bracket inner) clean = shown-some s (at + 1) inner clean

held_of : (faults : List Fault) (shown : Held) → (is_clean faults ≡ true → is_some shown ≡ true) → is_some (held faults shown) ≡ is_clean faults
held_of [] shown some = some refl
held_of (fault ∷ faults) shown some = refl

pub held-some : (s : Scope) (at : ℕ) (e : ExprTree) → is_some (held (expr_faults s at e) (shown_type s e)) ≡ is_clean (expr_faults s at e)
held-some s at e = held_of (expr_faults s at e) (shown_type s e) (shown-some s at e)

-- where no rule fails, the type that is shown
pub held-shown : (faults : List Fault) (shown : Held) → held faults shown ≡ cond (is_clean faults) shown None
held-shown [] shown = refl
held-shown (fault ∷ faults) shown = refl

-- ---- one part and then another

pub joined : (o o1 o2 : Option Fault) (xs ys : List Fault) → o1 ≡ first_with o xs → o2 ≡ first_with o1 ys → o2 ≡ first_with o (xs ++ ys)
joined o o1 o2 xs ys h g = g ∙ ap (λ q. first_with q ys) h ∙ sym (first_with-append o xs ys)

pub joined_clean : (b c : Bool) (xs ys : List Fault) → b ≡ is_clean xs → c ≡ is_clean ys → (b && c) ≡ is_clean (xs ++ ys)
joined_clean b c xs ys h g = (λ i. h i && g i) ∙ sym (is_clean-append xs ys)

and_assoc : (a b c : Bool) → ((a && b) && c) ≡ (a && (b && c))
and_assoc true b c = refl
and_assoc false b c = refl

and_true : (a : Bool) → (a && true) ≡ a
and_true true = refl
and_true false = refl

-- ---- one part of those that are left

pub left_first : (o o1 start : Option Fault) (all xs ys : List Fault) → all ≡ xs ++ ys → o1 ≡ first_with o xs → first_with o all ≡ start → first_with o1 ys ≡ start
left_first o o1 start all xs ys is h before = ap (λ q. first_with q ys) h ∙ sym (first_with-append o xs ys) ∙ ap (first_with o) (sym is) ∙ before

pub left_clean : (b b1 c start : Bool) (all xs ys : List Fault) → all ≡ xs ++ ys → c ≡ is_clean xs → b1 ≡ (b && c) → (b && is_clean all) ≡ start → (b1 && is_clean ys) ≡ start
left_clean b b1 c start all xs ys is h g before =
    ap (λ q. q && is_clean ys) (g ∙ ap (λ q. b && q) h) ∙ and_assoc b (is_clean xs) (is_clean ys)
    ∙ ap (λ q. b && q) (sym (is_clean-append xs ys) ∙ ap is_clean (sym is)) ∙ before

-- ---- none is left

pub end_first : (o start : Option Fault) (all : List Fault) → all ≡ [] → first_with o all ≡ start → o ≡ start
end_first o start all none h = sym (ap (first_with o) none) ∙ h

pub end_clean : (b start : Bool) (all : List Fault) → all ≡ [] → (b && is_clean all) ≡ start → b ≡ start
end_clean b start all none h = sym (ap (λ xs. b && is_clean xs) none ∙ and_true b) ∙ h
