-- What comes where an exception is raised.
use Rattle.std.proofs.Common.{◌≡◌, ℕ, suc, ◌-◌, ◌≤◌, List, [], ◌∷◌, length, drop, Option, Some, refl, sym, ap, ◌∙◌, arith}
use Rattle.typing_rules.specs.declared.exception.Exception.{Exception}
use Rattle.lynx_meaning.specs.Code.{Goes, Opened, with_outcome, closes, cut, instead, raises}
use Rattle.lynx_meaning.specs.Courses.{Close, Moment}
use Rattle.lynx_meaning.specs.Values.{Value}
use Rattle.compiler_steps.specs.Steps.{AreNested, thread, thrown}

drop-whole : (stack : List Value) → drop (length stack) stack ≡ []
drop-whole [] = refl
drop-whole (v ∷ stack) = drop-whole stack

-- nothing is left below a height of 0
cut-whole : (height : ℕ) (stack : List Value) → height ≡ 0 → cut height stack ≡ []
cut-whole height stack none =
    let all : length stack - height ≡ length stack = omega arith in
    ap (λ n. drop n stack) all ∙ drop-whole stack

-- what comes goes by neither the address nor the stack
pub raises-thrown : (exception : Exception) (at : ℕ) (stack : List Value) (tries : List Opened) (requests : List ℕ) (pending : Option Exception) (m : Moment) → AreNested (length requests) tries
    → raises exception (thread at stack tries requests pending m) ≡ thrown tries requests exception m
raises-thrown exception at stack [] requests pending m nested = refl
raises-thrown exception at stack (o ∷ os) requests pending m nested =
    ap (λ (left : List Value). closes (length requests - o.depth) exception m (λ other now. Goes (thread o.handlers left os (cut o.depth requests) (Some other) now)))
    (cut-whole o.height stack nested.0 ∙ sym (cut-whole o.height [] nested.0))

-- the innermost request is closed first
pub thrown-closes : (exception : Exception) (tries : List Opened) (op : ℕ) (requests : List ℕ) (m : Moment) → AreNested (length requests) tries
    → thrown tries (op ∷ requests) exception m ≡ with_outcome m Close (λ given now. thrown tries requests (instead given exception) now)
thrown-closes exception [] op requests m nested = refl
thrown-closes exception (o ∷ os) op requests m nested =
    let inner : o.depth ≤ length requests = nested.1 in
    let more : length (op ∷ requests) - o.depth ≡ suc (length requests - o.depth) = omega arith in
    ap (λ (k : ℕ). closes k exception m (λ other now. Goes (thread o.handlers (cut o.height []) os (drop k (op ∷ requests)) (Some other) now))) more

-- a try in which no request was opened
pub thrown-caught : (exception : Exception) (handlers : ℕ) (tries : List Opened) (requests : List ℕ) (m : Moment)
    → thrown (record { handlers = handlers; height = 0; depth = length requests } ∷ tries) requests exception m ≡ Goes (thread handlers [] tries requests (Some exception) m)
thrown-caught exception handlers tries requests m =
    let none : length requests - length requests ≡ 0 = omega arith in
    ap (λ (k : ℕ). closes k exception m (λ other now. Goes (thread handlers [] tries (drop k requests) (Some other) now))) none
