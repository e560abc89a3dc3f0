-- Answers that fit what the code did fit the source.
use Rattle.std.proofs.Common.{arith, ◌≡◌, ℕ, zero, suc, ◌+◌, ◌<◌, ◌≤◌, List, [], ◌∷◌, ◌++◌, length, refl, sym, ap, subst, ◌∙◌, ◌⊎◌, inl, inr, ⊎_elim, append-nil, append_assoc, length-append}
use Rattle.std.proofs.Math.Nat.{zero-add}
use Rattle.std.proofs.lemmas.Bool.{cases_lt}
use Rattle.lynx_tree.specs.Trees.{ModuleTree}
use Rattle.lynx_meaning.specs.Agree.{Agrees, Fit, Fits, HaveGlobals, IsFitting, IsOver, Start, actions_of, source, target}
use Rattle.lynx_meaning.specs.Code.{CodeBehaviour, Comes, Stuck, Program, Thread, begins, exec, program_of}
use Rattle.lynx_meaning.specs.Courses.{Action, Answer, Behaviour, Stop, Ended, Waits, Out}
use Rattle.lynx_meaning.specs.Source.{PartTree, start_store}
use Rattle.lynx_meaning.specs.Values.{Value, HaveTypes}
use Rattle.compiler_steps.specs.Steps.{IsFinal}
use Rattle.compiler_steps.proofs.Lasting.{lasts, one-end}
use Rattle.compiler_statements.specs.Running.{IsFront}
use Rattle.compiler_statements.proofs.Fronts.{fit-front}
use Rattle.machine_law.proofs.Fewer.{Begins, DidAtMost, IsFewer, fewer, goes_further}
use Rattle.machine_law.proofs.More.{DoesMore, source_more}

-- ---- lists that fit

-- where there is no answer
pub no_answers : (m : ModuleTree) (xs : List Action) → Fit m xs []
no_answers m [] = tt
no_answers m (x ∷ xs) = none x
  where
    none : (y : Action) → Fit m (y ∷ xs) []
    none Stop = tt
    none _ = tt

cons_fit : (m : ModuleTree) (x : Action) (xs ys : List Action) (L M : List Answer) (a : Answer) → ((rest : List Answer) → rest ≡ L → Fit m xs rest → Fit m ys M) → Fit m (x ∷ xs) (a ∷ L) → Fit m (x ∷ ys) (a ∷ M)
cons_fit m Stop xs ys L M a on fit = tt
cons_fit m _ xs ys L M a on fit = (fit.0, on L refl fit.1)

-- the first answers fit
fit_fewer : (m : ModuleTree) (xs : List Action) (L M : List Answer) → Fit m xs (L ++ M) → Fit m xs L
fit_fewer m [] L M fit = tt
fit_fewer m (x ∷ xs) [] M fit = no_answers m (x ∷ xs)
fit_fewer m (x ∷ xs) (a ∷ L) M fit = cons_fit m x xs xs (L ++ M) L a (λ rest same f. fit_fewer m xs L M (subst (Fit m xs) same f)) fit

-- only as many actions as answers count
fit_first : (m : ModuleTree) (xs ys : List Action) (L : List Answer) → length xs ≡ length L → Fit m xs L → Fit m (xs ++ ys) L
fit_first m [] ys [] same fit = no_answers m ys
fit_first m [] ys (a ∷ L) same fit = absurd (omega (arith, same))
fit_first m (x ∷ xs) ys [] same fit = absurd (omega (arith, same))
fit_first m (x ∷ xs) ys (a ∷ L) same fit = cons_fit m x xs (xs ++ ys) L L a (λ rest is f. fit_first m xs ys L (omega (arith, same)) (subst (Fit m xs) is f)) fit

-- ---- what the code comes to

pub over_final : (o : Behaviour) → IsOver o → IsFinal (Comes o)
over_final (Ended actions store) over = tt
over_final (Waits actions store) over = tt
over_final (Out actions) over = over

-- two ends of one thread have the same actions
abbrev actions_in : CodeBehaviour → List Action
actions_in (Comes o) = actions_of o
actions_in Stuck = []

module _ (m : ModuleTree) (part : PartTree) (start : ℕ) (agrees : Agrees m part start) (globals arguments : List Value) where
  abbrev with_answers : List Answer → Start
  with_answers L = record { globals = globals; arguments = arguments; answers = L }

  abbrev code : List Answer → ℕ → CodeBehaviour
  code L k = target m part start (with_answers L) k

  abbrev first : List Answer → Thread
  first L = begins part.requests start (start_store part globals arguments) L

  -- where the code waits with answers that fit, the answer to that fits too
  module _ (L : List Answer) (b : Answer) (fitting : IsFitting m part (with_answers L)) (made : ℕ) (actions : List Action) (over : Behaviour) (final : IsFinal (Comes over)) (does : actions_of over ≡ actions)
      (is : code L made ≡ Comes over) (long : length actions ≡ length (L ++ b ∷ [])) (fits : Fit m actions (L ++ b ∷ [])) where
    -- where the source waits it does what the code does
    same_actions : (n : ℕ) (o : Behaviour) → IsOver o → source part (with_answers L) n ≡ o → actions_of o ≡ actions
    same_actions n o is_over there =
        let follows = agrees.code_follows (with_answers L) fitting n o is_over there in
        ap actions_in (one-end (program_of m) (first L) follows.0 made (Comes o) (Comes over) (over_final o is_over) final follows.1 is) ∙ does

    -- and where it is out, its actions are the first of those
    first_actions : (n : ℕ) (X : List Action) → source part (with_answers L) n ≡ Out X → IsFront X actions
    first_actions n X there =
        let all = agrees.does_all (with_answers L) fitting n X there in
        ⊎_elim
        (λ (less : all.0 < made). subst (IsFront X) does (subst (Begins X) is (goes_further (program_of m) all.0 made (omega (arith, less)) (first L) X all.2)))
        (λ (more : made ≤ all.0).
        let never : Comes (Out X) ≡ Comes over = sym all.2 ∙ lasts (program_of m) made all.0 more (first L) (Comes over) final is in
        absurd (subst IsFinal (sym never) final))
        (cases_lt all.0 made)

    by_source : (n : ℕ) (o q : Behaviour) → source part (with_answers L) n ≡ o → DoesMore o q → Fit m (actions_of q) (L ++ b ∷ [])
    by_source n (Waits X store) q there more =
        let same = same_actions n (Waits X store) tt there in
        let front = subst (λ (Y : List Action). IsFront Y (actions_of q)) same more in
        subst (λ (Y : List Action). Fit m Y (L ++ b ∷ [])) front.1 (fit_first m actions front.0 (L ++ b ∷ []) long fits)
    by_source n (Ended X store) q there more =
        let same = same_actions n (Ended X store) tt there in
        subst (λ (o : Behaviour). Fit m (actions_of o) (L ++ b ∷ [])) (sym more) (subst (λ (Y : List Action). Fit m Y (L ++ b ∷ [])) (sym same) fits)
    by_source n (Out X) q there more =
        subst (λ (o : Behaviour). Fit m (actions_of o) (L ++ b ∷ [])) (sym more) (fit-front m X actions (L ++ b ∷ []) (first_actions n X there) fits)

    one_more_fits : IsFitting m part (with_answers (L ++ b ∷ []))
    one_more_fits = record {
      globals = fitting.globals;
      arguments = fitting.arguments;
      answers = λ n. by_source n (source part (with_answers L) n) (source part (with_answers (L ++ b ∷ [])) n) refl (source_more part n globals arguments L b);
    }

  -- ---- all answers

  more_than : (L : List Answer) (b : Answer) → length (L ++ b ∷ []) ≡ suc (length L)
  more_than L b = omega (arith, length-append L (b ∷ []))

  too_many : (L R : List Answer) (b : Answer) (actions : List Action) → length (L ++ b ∷ R) ≤ length actions → length actions ≤ length L → ⊥
  too_many L R b actions many few = omega (arith, many, few, length-append L (b ∷ R))

  waits_for : (L R : List Answer) (b : Answer) (made : ℕ) (did : Behaviour) → code (L ++ b ∷ R) made ≡ Comes did → length (L ++ b ∷ R) ≤ length (actions_of did) → Fit m (actions_of did) (L ++ b ∷ R) → IsFitting m part (with_answers L) →
      IsFewer (length L) (code L made) (code (L ++ b ∷ R) made) → IsFitting m part (with_answers (L ++ b ∷ []))
  waits_for L R b made did is many fits fitting (inl waits) =
      let Y = waits.0 in
      let front = subst (Begins Y) is waits.4 in
      let all : Fit m (actions_of did) ((L ++ b ∷ []) ++ R) = subst (Fit m (actions_of did)) (sym (append_assoc L (b ∷ []) R)) fits in
      one_more_fits L b fitting made Y (Waits Y waits.1) tt refl waits.2 (waits.3 ∙ sym (more_than L b))
      (fit_fewer m Y (L ++ b ∷ []) R (fit-front m Y (actions_of did) ((L ++ b ∷ []) ++ R) front all))
  waits_for L R b made did is many fits fitting (inr few) = absurd (too_many L R b (actions_of did) many (subst (DidAtMost (length L)) is few))

  from : (L R : List Answer) (made : ℕ) (did : Behaviour) → code (L ++ R) made ≡ Comes did → length (L ++ R) ≤ length (actions_of did) → Fit m (actions_of did) (L ++ R) → IsFitting m part (with_answers L) → IsFitting m part (with_answers (L ++ R))
  from L [] made did is many fits fitting = subst (λ (M : List Answer). IsFitting m part (with_answers M)) (sym (append-nil L)) fitting
  from L (b ∷ R) made did is many fits fitting =
      let same = append_assoc L (b ∷ []) R in
      let one = waits_for L R b made did is many fits fitting (subst (λ (k : ℕ). IsFewer k (code L made) (code (L ++ b ∷ R) made)) (zero-add (length L)) (fewer (program_of m) b R made (first L) L [])) in
      subst (λ (M : List Answer). IsFitting m part (with_answers M)) same
      (from (L ++ b ∷ []) R made did (subst (λ (M : List Answer). code M made ≡ Comes did) (sym same) is) (subst (λ (M : List Answer). length M ≤ length (actions_of did)) (sym same) many)
      (subst (Fit m (actions_of did)) (sym same) fits) one)

  -- where the code did this, and each answer fits an action of it, they fit the source
  pub fits_by_code : HaveGlobals m globals → HaveTypes part.parameters arguments → (L : List Answer) (made : ℕ) (did : Behaviour) → code L made ≡ Comes did → length L ≤ length (actions_of did) → Fit m (actions_of did) L → IsFitting m part (with_answers L)
  fits_by_code known typed L made did is many fits = from [] L made did is many fits (record { globals = known; arguments = typed; answers = λ n. no_answers m (actions_of (source part (with_answers []) n)) })
