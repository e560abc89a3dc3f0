-- Where instructions stand in code.
use Rattle.std.proofs.Common.{◌≡◌, ℕ, ◌+◌, List, [], ◌∷◌, ◌++◌, length, Some, slice_get, refl, subst, append_assoc, length-append, arith}
use Rattle.lynx_code.specs.declared.instruction.Instruction.{Instruction}
use Rattle.compiler_steps.specs.Steps.{StandAt}

pub front-stands : (code : List Instruction) (at : ℕ) (a b : List Instruction) → StandAt code at (a ++ b) → StandAt code at a
front-stands code at [] b h = tt
front-stands code at (i ∷ a) b h = (h.0, front-stands code (at + 1) a b h.1)

pub back-stands : (code : List Instruction) (at : ℕ) (a b : List Instruction) → StandAt code at (a ++ b) → StandAt code (at + length a) b
back-stands code at [] b h =
    let e : at ≡ at + 0 = omega arith in
    subst (λ n. StandAt code n b) e h
back-stands code at (i ∷ a) b h =
    let e : at + 1 + length a ≡ at + length (i ∷ a) = omega arith in
    subst (λ n. StandAt code n b) e (back-stands code (at + 1) a b h.1)

-- the instruction behind some
pub next-stands : (code : List Instruction) (at : ℕ) (a : List Instruction) (i : Instruction) (b : List Instruction) → StandAt code at (a ++ i ∷ b) → slice_get code (at + length a) ≡ Some i
next-stands code at a i b h = (back-stands code at a (i ∷ b) h).0

-- those behind it
pub rest-stands : (code : List Instruction) (at : ℕ) (a : List Instruction) (i : Instruction) (b : List Instruction) → StandAt code at (a ++ i ∷ b) → StandAt code (at + length a + 1) b
rest-stands code at a i b h = (back-stands code at a (i ∷ b) h).1

get-front : (pre : List Instruction) (i : Instruction) (is : List Instruction) → slice_get (pre ++ i ∷ is) (length pre) ≡ Some i
get-front [] i is = refl
get-front (x ∷ pre) i is = get-front pre i is

-- each part of a list stands there
pub all-stand : (pre is post : List Instruction) → StandAt (pre ++ (is ++ post)) (length pre) is
all-stand pre [] post = tt
all-stand pre (i ∷ is) post =
    let n : length (pre ++ i ∷ []) ≡ length pre + 1 = omega (arith, length-append pre (i ∷ [])) in
    let rest = all-stand (pre ++ i ∷ []) is post in
    let rest' = subst (λ l. StandAt l (length (pre ++ i ∷ [])) is) (append_assoc pre (i ∷ []) (is ++ post)) rest in
    (get-front pre i (is ++ post), subst (λ m. StandAt (pre ++ (i ∷ (is ++ post))) m is) n rest')
