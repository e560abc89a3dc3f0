-- Lists of actions that begin alike.
use Rattle.std.proofs.Common.{List, [], ◌∷◌, ◌++◌, refl, sym, ap, ◌∙◌, subst, append_assoc, append-nil}
use Rattle.lynx_tree.specs.Trees.{ModuleTree}
use Rattle.lynx_meaning.specs.Agree.{Fit, Fits}
use Rattle.lynx_meaning.specs.Courses.{Action, Answer, Stop}
use Rattle.compiler_statements.specs.Running.{AreUsed, IsAnswered, IsFront}

pub front-same : (xs : List Action) → IsFront xs xs
front-same xs = ([], append-nil xs)

pub front-on : (xs ys zs : List Action) → IsFront xs ys → IsFront ys zs → IsFront xs zs
front-on xs ys zs first second = (first.0 ++ second.0, sym (append_assoc xs first.0 second.0) ∙ (ap (λ (l : List Action). l ++ second.0) first.1 ∙ second.1))

pub front-one : (xs : List Action) (x : Action) → IsFront xs (xs ++ x ∷ [])
front-one xs x = (x ∷ [], refl)

-- ---- answers that fit

fit-front-cons : (m : ModuleTree) (x : Action) (xs ys : List Action) (all : List Answer) → ((rest : List Answer) → Fit m ys rest → Fit m xs rest) → Fit m (x ∷ ys) all → Fit m (x ∷ xs) all
fit-front-cons m Stop xs ys all on fit = tt
fit-front-cons m _ xs ys [] on fit = tt
fit-front-cons m _ xs ys (a ∷ all) on fit = (fit.0, on all fit.1)

fit-append : (m : ModuleTree) (xs ys : List Action) (all : List Answer) → Fit m (xs ++ ys) all → Fit m xs all
fit-append m [] ys all fit = tt
fit-append m (x ∷ xs) ys all fit = fit-front-cons m x xs (xs ++ ys) all (λ rest. fit-append m xs ys rest) fit

-- answers that fit fit the first actions
pub fit-front : (m : ModuleTree) (xs ys : List Action) (all : List Answer) → IsFront xs ys → Fit m ys all → Fit m xs all
fit-front m xs ys all front fit = fit-append m xs front.0 all (subst (λ (l : List Action). Fit m l all) (sym front.1) fit)

fit-head : (m : ModuleTree) (x : Action) (a : Answer) (rest : List Answer) → IsAnswered x → Fit m (x ∷ []) (a ∷ rest) → Fits m x a
fit-head m Stop a rest is fit = absurd is
fit-head m _ a rest is fit = fit.0

fit-tail : (m : ModuleTree) (x : Action) (xs : List Action) (a : Answer) (rest : List Answer) → IsAnswered x → Fit m (x ∷ xs) (a ∷ rest) → Fit m xs rest
fit-tail m Stop xs a rest is fit = absurd is
fit-tail m _ xs a rest is fit = fit.1

-- the answer to the action behind some
pub fit-next : (m : ModuleTree) (xs : List Action) (x : Action) (all : List Answer) (a : Answer) (rest : List Answer) → IsAnswered x → AreUsed xs all (a ∷ rest) → Fit m (xs ++ x ∷ []) all → Fits m x a
fit-next m [] x all a rest is used fit = fit-head m x a rest is (subst (λ (l : List Answer). Fit m (x ∷ []) l) used fit)
fit-next m (y ∷ xs) x [] a rest is used fit = absurd used
fit-next m (y ∷ xs) x (b ∷ all) a rest is used fit = fit-next m xs x all a rest is used.1 (fit-tail m y (xs ++ x ∷ []) b all used.0 fit)

pub used-more : (xs : List Action) (x : Action) (all : List Answer) (a : Answer) (rest : List Answer) → IsAnswered x → AreUsed xs all (a ∷ rest) → AreUsed (xs ++ x ∷ []) all rest
used-more [] x all a rest is used = subst (λ (l : List Answer). AreUsed (x ∷ []) l rest) (sym used) (is, refl)
used-more (y ∷ xs) x [] a rest is used = absurd used
used-more (y ∷ xs) x (b ∷ all) a rest is used = (used.0, used-more xs x all a rest is used.1)
