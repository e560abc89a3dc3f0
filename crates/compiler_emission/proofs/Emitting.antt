-- Code that grows at its end.
use Rattle.std.proofs.Common.{◌≡◌, ℕ, ◌+◌, ◌<◌, ◌≤◌, List, [], ◌∷◌, ◌++◌, length, drop, get_or, Result, Ok, Err, sym, ap, subst, ◌∙◌, arith, append_assoc, length-append}
use Rattle.std.proofs.lemmas.List.{append-nil, drop_more, drop_all}
use Rattle.std.specs.Prelude.{OnOk}
use Rattle.lynx_code.specs.declared.instruction.Instruction.{Instruction}
use Rattle.compiler_emission.specs.declared.fault.CompileFault.{CompileFault}
use Rattle.compiler_emission.specs.declared.fault.CompileFault.TheVariants as faults

pub ruleset lengths = (length-append, append_assoc)

-- items one after the other, each at its own address
abbrev pub each : {X : Type 0} → (ℕ → X → List Instruction) → ℕ → List X → List Instruction
each g at [] = []
each g at (x ∷ xs) = g at x ++ each g (at + length (g at x)) xs

-- what follows another code
pub both : (b : ℕ → List Instruction) (o m n a : List Instruction) → m ≡ o ++ a → n ≡ m ++ b (length m) → n ≡ o ++ (a ++ b (length o + length a))
both b o m n a first second =
    let at : length m ≡ length o + length a = ap length first ∙ length-append o a in
    second ∙ ap (λ k. m ++ b k) at ∙ ap (λ (y : List Instruction). y ++ b (length o + length a)) first ∙ append_assoc o a (b (length o + length a))

pub both_ok : (r : Result (Unit {0}) CompileFault) (b : ℕ → List Instruction) (o m n a : List Instruction) → m ≡ o ++ a → OnOk r (n ≡ m ++ b (length m)) → OnOk r (n ≡ o ++ (a ++ b (length o + length a)))
both_ok (Ok u) b o m n a first second = both b o m n a first second
both_ok (Err e) b o m n a first second = tt

-- the same code, told in another way
pub same_ok : (r : Result (Unit {0}) CompileFault) (o n a b : List Instruction) → a ≡ b → OnOk r (n ≡ o ++ a) → OnOk r (n ≡ o ++ b)
same_ok (Ok u) o n a b e h = h ∙ ap (λ (y : List Instruction). o ++ y) e
same_ok (Err x) o n a b e h = tt

pub same_long : (o a b : List Instruction) → a ≡ b → 65535 < length o + length a → 65535 < length o + length b
same_long o a b e h = subst (λ (y : List Instruction). 65535 < length o + length y) e h

-- it is too long already with the first
pub first_long : (o a b : List Instruction) → 65535 < length o + length a → 65535 < length o + length (a ++ b)
first_long o a b h = omega (arith, length-append a b)

-- it is too long with the second
pub both_long : (b : ℕ → List Instruction) (o m a : List Instruction) → m ≡ o ++ a → 65535 < length m + length (b (length m)) → 65535 < length o + length (a ++ b (length o + length a))
both_long b o m a first h =
    let at : length m ≡ length o + length a = ap length first ∙ length-append o a in
    let h' : 65535 < length m + length (b (length o + length a)) = subst (λ k. 65535 < length m + length (b k)) at h in
    omega (arith, length-append a (b (length o + length a)))

-- an item is added, and those behind it are left
pub each_step : {X : Type 0} (g : ℕ → X → List Instruction) (xs : List X) (i : ℕ) (x : X) (o o' start : List Instruction) → i < length xs → x ≡ get_or xs i x → o' ≡ o ++ g (length o) x
    → o ++ each g (length o) (drop i xs) ≡ start → o' ++ each g (length o') (drop (i + 1) xs) ≡ start
each_step {X = X} g xs i x o o' start lt is grown before =
    let here : drop i xs ≡ x ∷ drop (i + 1) xs = drop_more xs i x lt ∙ (λ j. sym is j ∷ drop (i + 1) xs) in
    let size : length o' ≡ length o + length (g (length o) x) = ap length grown ∙ length-append o (g (length o) x) in
    let left : List Instruction = each g (length o + length (g (length o) x)) (drop (i + 1) xs) in
    ap (λ (k : ℕ). o' ++ each g k (drop (i + 1) xs)) size ∙ ap (λ (y : List Instruction). y ++ left) grown ∙ append_assoc o (g (length o) x) left ∙ ap (λ (ys : List X). o ++ each g (length o) ys) (sym here) ∙ before

pub each_end : {X : Type 0} (g : ℕ → X → List Instruction) (xs : List X) (i : ℕ) (old o : List Instruction) → length xs ≤ i → o ++ each g (length o) (drop i xs) ≡ old ++ each g (length old) xs → o ≡ old ++ each g (length old) xs
each_end {X = X} g xs i old o le whole = sym (append-nil o) ∙ ap (λ (ys : List X). o ++ each g (length o) ys) (sym (drop_all i xs le)) ∙ whole

-- an item makes it too long
pub each_long : {X : Type 0} (g : ℕ → X → List Instruction) (xs : List X) (i : ℕ) (x : X) (old o : List Instruction) → i < length xs → x ≡ get_or xs i x → 65535 < length o + length (g (length o) x)
    → o ++ each g (length o) (drop i xs) ≡ old ++ each g (length old) xs → 65535 < length old + length (each g (length old) xs)
each_long {X = X} g xs i x old o lt is long whole =
    let here : drop i xs ≡ x ∷ drop (i + 1) xs = drop_more xs i x lt ∙ (λ j. sym is j ∷ drop (i + 1) xs) in
    let left : List Instruction = each g (length o + length (g (length o) x)) (drop (i + 1) xs) in
    let now : o ++ (g (length o) x ++ left) ≡ old ++ each g (length old) xs = ap (λ (ys : List X). o ++ each g (length o) ys) (sym here) ∙ whole in
    let sizes : length o + (length (g (length o) x) + length left) ≡ length old + length (each g (length old) xs) =
    ap (λ k. length o + k) (sym (length-append (g (length o) x) left)) ∙ sym (length-append o (g (length o) x ++ left)) ∙ ap length now ∙ length-append old (each g (length old) xs) in
    omega arith

-- the fault that is handed on is that of the call
pub as_failed : {T U : Type 0} (r : Result T CompileFault) (r' : Result U CompileFault) (e y : CompileFault) → r ≡ Err e → r' ≡ Err y → y ≡ e → r' ≡ Err faults.CodeTooLong → r ≡ Err faults.CodeTooLong
as_failed r r' e y was is same h =
    let too_long : e ≡ faults.CodeTooLong = cc in
    subst (λ (x : CompileFault). r ≡ Err x) too_long was
