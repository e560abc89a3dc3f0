-- A list of tokens has at most one tree, and the parser finds it.
use Rattle.std.proofs.Common.{◌≡◌, ℕ, ◌+◌, ◌≤◌, Bool, cond, List, [], ◌∷◌, ◌++◌, length, Ok, Err, refl, sym, ap, subst, ◌∙◌, arith}
use Rattle.lynx_lexer.specs.declared.token.Kind.{Kind}
use Rattle.lynx_descent.specs.declared.refusal.Refusal.{Refusal}
use Rattle.lynx_descent.specs.declared.refusal.Refusal.TheVariants as refusals
use Rattle.lynx_tree.specs.Trees.{ModuleTree}
use Rattle.lynx_tree.specs.Grammar.{Mark, module_marks, IsModule}
use Rattle.lynx_tree.specs.Faults.{most_open}
use Rattle.lynx_tree.specs.Answers.{IsTreeOf}
use Rattle.lynx_descent.specs.Reading.{Parsed}
use Rattle.lynx_descent.specs.ReadingModules.{whole}
use Rattle.lynx_descent.proofs.Told.{Within, kinds_in}
use Rattle.lynx_grammar.proofs.Guard.{guard, fits_true}
use Rattle.lynx_grammar.proofs.FindModules.{find_whole}

pub guard_within : {A : Type 0} (n : ℕ) (ms : List Mark) (rest : List Kind) (o : Parsed A) → Within n ms → guard n ms rest o ≡ o
guard_within n [] rest o h = refl
guard_within n (t ∷ ms) rest o h =
    ap (λ (b : Bool). cond b (guard n ms rest o) (Err (refusals.TooDeep (length (t.kind ∷ (kinds_in ms ++ rest)))))) (fits_true t.depth n h.0) ∙ guard_within n ms rest o h.1

-- some number that no nesting passes
total : List Mark → ℕ
total [] = 0
total (t ∷ ms) = t.depth + total ms

within_more : (n k : ℕ) (ms : List Mark) → n ≤ k → Within n ms → Within k ms
within_more n k [] le h = tt
within_more n k (t ∷ ms) le h = (omega (arith, h.0), within_more n k ms le h.1)

within_total : (ms : List Mark) → Within (total ms) ms
unfolding total
within_total [] = tt
within_total (t ∷ ms) = (omega arith, within_more (total ms) (t.depth + total ms) ms (omega arith) (within_total ms))

read_whole : (n : ℕ) (m : ModuleTree) (tokens : List Kind) → IsModule m tokens → Within n (module_marks m) → whole n tokens ≡ Ok (m, [])
read_whole n m tokens h within = ap (whole n) h.1 ∙ find_whole n m h.0 ∙ guard_within n (module_marks m) [] (Ok (m, [])) within

tree_in : ModuleTree → Parsed ModuleTree → ModuleTree
tree_in m (Ok p) = p.0
tree_in m (Err e) = m

pub one_tree_only : (tokens : List Kind) (a b : ModuleTree) → IsModule a tokens → IsModule b tokens → a ≡ b
unfolding tree_in
one_tree_only tokens a b h g =
    let n : ℕ = total (module_marks a) + total (module_marks b) in
    let first : whole n tokens ≡ Ok (a, []) = read_whole n a tokens h (within_more (total (module_marks a)) n (module_marks a) (omega arith) (within_total (module_marks a))) in
    let second : whole n tokens ≡ Ok (b, []) = read_whole n b tokens g (within_more (total (module_marks b)) n (module_marks b) (omega arith) (within_total (module_marks b))) in
    ap (tree_in a) (sym first ∙ second)

pub tree_read : (tokens : List Kind) (m : ModuleTree) → IsTreeOf tokens m → whole most_open tokens ≡ Ok (m, [])
tree_read tokens m h = read_whole most_open m tokens h.0 h.1

-- what is read of a module's tokens is it
pub read_is : (tokens rest : List Kind) (m x : ModuleTree) → IsTreeOf tokens m → whole most_open tokens ≡ Ok (x, rest) → x ≡ m
unfolding tree_in
read_is tokens rest m x h is = ap (tree_in m) (sym is ∙ tree_read tokens m h)

abbrev Answered : Parsed ModuleTree → Type 0
Answered (Ok p) = Unit {0}
Answered (Err e) = ⊥

pub never_refused : (tokens : List Kind) (m : ModuleTree) (e : Refusal) → IsTreeOf tokens m → whole most_open tokens ≡ Err e → ⊥
never_refused tokens m e h is = subst Answered (sym (tree_read tokens m h) ∙ is) tt
