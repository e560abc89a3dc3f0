-- The code of a module that obeys the rules does what its source means.
use Rattle.std.proofs.Common.{◌≡◌, ℕ, zero, suc, List, [], ◌∷◌, length, map, Some, slice_get, refl, sym, ap, subst, ◌∙◌}
use Rattle.std.proofs.lemmas.Option.{none-some, same_Some}
use Rattle.compiler_law.proofs.Whole.{law}
use Rattle.lynx_tree.specs.Grammar.{HasTokens}
use Rattle.lynx_tree.specs.Trees.{ModuleTree, OpTree}
use Rattle.typing_rules.specs.Modules.{IsWellTyped}
use Rattle.lynx_code.specs.Modules.{ArePairs, IsCodeOf, IsOpOf, IsPartOf, PartCode, main_part, parts_of}
use Rattle.lynx_code.specs.declared.code.Code.{Code}
use Rattle.lynx_code.specs.declared.code.CodeOp.{CodeOp}
use Rattle.lynx_meaning.specs.Agree.{Agrees, PartsAgree}
use Rattle.lynx_meaning.specs.Source.{main_tree, entry_part_tree}
use Rattle.lynx_threads.specs.Agreement.{AgreesWithSource}

pair_at : {X Y : Type 0} (P : X → Y → Type 0) (xs : List X) (ys : List Y) (i : ℕ) (y : Y) → ArePairs P xs ys → slice_get ys i ≡ Some y → (x : X) × (slice_get xs i ≡ Some x) × P x y
pair_at P [] [] i y h there = absurd (none-some y there)
pair_at P [] (z ∷ ys) i y h there = absurd h
pair_at P (x ∷ xs) [] i y h there = absurd h
pair_at P (x ∷ xs) (z ∷ ys) zero y h there = (x, refl, subst (P x) (same_Some z y there) h.0)
pair_at P (x ∷ xs) (z ∷ ys) (suc i) y h there = pair_at P xs ys i y h.1 there

-- as many arguments for each operation
counts : (ops : List OpTree) (made : List CodeOp) → ArePairs IsOpOf ops made → map (λ (op : CodeOp). length op.arguments.items) made ≡ map (λ (op : OpTree). length op.arguments) ops
counts [] [] h = refl
counts [] (c ∷ cs) h = absurd h
counts (o ∷ os) [] h = absurd h
counts (o ∷ os) (c ∷ cs) h = λ i. length (h.0.1 i) ∷ counts os cs h.1 i

pub agrees : (m : ModuleTree) → HasTokens m → IsWellTyped m → (made : Code) → IsCodeOf m made → AgreesWithSource m made
agrees m tokens typed made is =
    let all : PartsAgree m = law m tokens typed in
    record {
      program = λ i. record { instructions = is.instructions i; arguments = counts m.ops made.ops.items is.ops i };
      body = λ p there.
          let q = pair_at IsPartOf (parts_of m) made.parts.items 0 p is.parts there in
          let starts : 0 ≡ p.start = ap (λ (x : PartCode). x.start) (same_Some (main_part m) q.0 q.1) ∙ sym q.2.2 in
          subst (Agrees m (main_tree m)) starts all.body;
      entries = λ i e p here there.
          let q = pair_at IsPartOf (parts_of m) made.parts.items (suc i) p is.parts there in
          subst (Agrees m (entry_part_tree m e)) (sym q.2.2) (all.entries i e q.0 here q.1);
    }
