-- The parts of a module, and where their code stands.
use Rattle.std.proofs.Common.{◌≡◌, ℕ, zero, suc, ◌+◌, List, [], ◌∷◌, ◌++◌, length, Some, slice_get, sym, ap, subst, append_assoc, length-append, arith}
use Rattle.std.specs.List.{AllByRecursion}
use Rattle.std.proofs.lemmas.Option.{none-some, same_Some}
use Rattle.lynx_tree.specs.Trees.{EntryTree, ModuleTree}
use Rattle.typing_rules.specs.Names.{each_at}
use Rattle.typing_rules.specs.Rules.{Fault}
use Rattle.lynx_code.specs.Modules.{PartCode, entry_part, entry_parts, instructions_of}
use Rattle.lynx_code.specs.declared.instruction.Instruction.{Instruction}
use Rattle.compiler_steps.specs.Steps.{StandAt}
use Rattle.compiler_steps.proofs.Standing.{all-stand}
use Rattle.compiler_expressions.proofs.Clean.{both-clean}

-- a part of a list of entries, whose code begins behind some
pub entry-stands : (m : ModuleTree) (pre : List Instruction) (es : List EntryTree) (at : ℕ) (i : ℕ) (e : EntryTree) (p : PartCode) → at ≡ length pre → slice_get es i ≡ Some e → slice_get (entry_parts m at es) i ≡ Some p
    → StandAt (pre ++ instructions_of (entry_parts m at es)) p.start p.instructions × (p ≡ entry_part m p.start e)
entry-stands m pre [] at i e p long here found = absurd (none-some e here)
entry-stands m pre (f ∷ es) at zero e p long here found =
    let part = entry_part m at f in
    let same : part ≡ p = same_Some part p found in
    let code = pre ++ (part.instructions ++ instructions_of (entry_parts m (at + length part.instructions) es)) in
    let first = subst (λ (n : ℕ). StandAt code n part.instructions) (sym long) (all-stand pre part.instructions (instructions_of (entry_parts m (at + length part.instructions) es))) in
    (subst (λ (q : PartCode). StandAt code q.start q.instructions) same first, subst (λ (q : PartCode). q ≡ entry_part m q.start e) same (ap (λ (x : EntryTree). entry_part m at x) (same_Some f e here)))
entry-stands m pre (f ∷ es) at (suc i) e p long here found =
    let part = entry_part m at f in
    let next = at + length part.instructions in
    let longer : next ≡ length (pre ++ part.instructions) = omega (arith, long, length-append pre part.instructions) in
    let rest = entry-stands m (pre ++ part.instructions) es next i e p longer here found in
    (subst (λ (l : List Instruction). StandAt l p.start p.instructions) (append_assoc pre part.instructions (instructions_of (entry_parts m next es))) rest.0, rest.1)

-- what no rule finds in a list it finds in none of its parts
pub each-clean : {X : Type 0} (size : X → ℕ) (said : ℕ → X → List Fault) (at : ℕ) (xs : List X) (i : ℕ) (x : X) → each_at size said at xs ≡ [] → slice_get xs i ≡ Some x → (place : ℕ) × (said place x ≡ [])
each-clean size said at [] i x clean here = absurd (none-some x here)
each-clean size said at (y ∷ ys) zero x clean here = (at, subst (λ z. said at z ≡ []) (same_Some y x here) (both-clean (said at y) (each_at size said (at + size y) ys) clean).0)
each-clean size said at (y ∷ ys) (suc i) x clean here = each-clean size said (at + size y) ys i x (both-clean (said at y) (each_at size said (at + size y) ys) clean).1 here

pub all-at : {X : Type 0} (P : X → Type 0) (xs : List X) (i : ℕ) (x : X) → AllByRecursion P xs → slice_get xs i ≡ Some x → P x
all-at P [] i x all here = absurd (none-some x here)
all-at P (y ∷ ys) zero x all here = subst P (same_Some y x here) all.0
all-at P (y ∷ ys) (suc i) x all here = all-at P ys i x all.1 here
