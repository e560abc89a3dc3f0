-- Code with fewer answers does the same, and waits where the next one is missing. And what it did before it has done later.
use Rattle.std.proofs.Common.{arith, ◌≡◌, ℕ, zero, suc, ◌+◌, ◌≤◌, List, [], ◌∷◌, ◌++◌, length, slice_get, refl, sym, ap, subst, ◌∙◌, ◌⊎◌, inl, inr, length-append, le_of_suc-le-suc, not-suc-le-zero}
use Rattle.lynx_meaning.specs.Agree.{actions_of}
use Rattle.lynx_meaning.specs.Code.{CodeBehaviour, Comes, Stuck, Next, Goes, Over, Program, Thread, exec, go_on, next_of}
use Rattle.lynx_meaning.specs.Courses.{Action, Answer, Behaviour, Store, Stop, Ended, Waits, Out}
use Rattle.compiler_statements.specs.Running.{IsFront}
use Rattle.compiler_statements.proofs.Fronts.{front-on, front-one, front-same}
use Rattle.machine_law.proofs.Trees.{Tree, Leads, Closed, Asks, Halts, Broken, at, run, tree_of}

-- its actions begin with these
abbrev pub Begins : List Action → CodeBehaviour → Type 0
Begins actions (Comes o) = IsFront actions (actions_of o)
Begins actions Stuck = Unit {0}

begins_on : (xs ys : List Action) (c : CodeBehaviour) → IsFront xs ys → Begins ys c → Begins xs c
begins_on xs ys (Comes o) first second = front-on xs ys (actions_of o) first second
begins_on xs ys Stuck first second = tt

-- it has done so many actions at most
abbrev pub DidAtMost : ℕ → CodeBehaviour → Type 0
DidAtMost k (Comes o) = length (actions_of o) ≤ k
DidAtMost k Stuck = Unit {0}

-- with the first of these answers it waits for the next one, behind one action more; or it used no more
abbrev pub IsFewer : ℕ → CodeBehaviour → CodeBehaviour → Type 0
IsFewer k c d = ((actions : List Action) × (store : Store) × (c ≡ Comes (Waits actions store)) × (length actions ≡ suc k) × Begins actions d) ⊎ DidAtMost k d

module _ (p : Program) where
  -- its tree at its instruction
  next_tree : (t : Thread) → (tree : Tree) × ((L : List Answer) (X : List Action) → next_of p (at t L X) ≡ run tree L X)
  next_tree t = let is = tree_of p t (slice_get p.instructions t.address) in (is.tree, is.same)

  -- ---- what it did before

  tree_begins : (f : Thread → CodeBehaviour) → ((t : Thread) (L : List Answer) (X : List Action) → Begins X (f (at t L X))) → (tree : Tree) (L : List Answer) (X : List Action) → Begins X (go_on (run tree L X) f)
  tree_begins f on (Leads t) L X = on t L X
  tree_begins f on (Closed store) L X = front-same X
  tree_begins f on (Asks a store onward) [] X = front-one X a
  tree_begins f on (Asks a store onward) (l ∷ L) X =
      begins_on X (X ++ a ∷ []) (go_on (run (onward l) L (X ++ a ∷ [])) f) (front-one X a) (tree_begins f on (onward l) L (X ++ a ∷ []))
  tree_begins f on (Halts store) L X = front-one X Stop
  tree_begins f on Broken L X = tt

  begins : (k : ℕ) (t : Thread) (L : List Answer) (X : List Action) → Begins X (exec p k (at t L X))
  begins zero t L X = front-same X
  begins (suc k) t L X =
      let tree = next_tree t in
      subst (λ (next : Next). Begins X (go_on next (exec p k))) (sym (tree.1 L X)) (tree_begins (exec p k) (begins k) tree.0 L X)

  out_same : (X Y : List Action) → Comes (Out X) ≡ Comes (Out Y) → X ≡ Y
  out_same X Y e = cc

  further : (f g : Thread → CodeBehaviour) (X : List Action) → ((u : Thread) → f u ≡ Comes (Out X) → Begins X (g u)) → (next : Next) → go_on next f ≡ Comes (Out X) → Begins X (go_on next g)
  further f g X on (Goes u) is = on u is
  further f g X on (Over c) is = subst (Begins X) (sym is) (front-same X)

  -- one that is out with fewer instructions goes on from there
  pub goes_further : (k j : ℕ) → k ≤ j → (t : Thread) (X : List Action) → exec p k t ≡ Comes (Out X) → Begins X (exec p j t)
  goes_further zero j le t X is = subst (λ (Y : List Action). Begins Y (exec p j t)) (out_same t.moment.actions X is) (begins j t t.moment.answers t.moment.actions)
  goes_further (suc k) zero le t X is = absurd (not-suc-le-zero le)
  goes_further (suc k) (suc j) le t X is = further (exec p k) (exec p j) X (λ u there. goes_further k j (le_of_suc-le-suc le) u X there) (next_of p t) is

  -- ---- with fewer answers

  module _ (b : Answer) (R : List Answer) where
    abbrev Fewer : (Thread → CodeBehaviour) → Type 0
    Fewer f = (t : Thread) (L : List Answer) (X : List Action) → IsFewer (length X + length L) (f (at t L X)) (f (at t (L ++ b ∷ R) X))

    longer : (k : ℕ) (X : List Action) (a : Action) → length X + suc k ≡ length (X ++ a ∷ []) + k
    longer k X a = omega (arith, length-append X (a ∷ []))

    one_longer : (X : List Action) (a : Action) → length (X ++ a ∷ []) ≡ suc (length X + 0)
    one_longer X a = omega (arith, length-append X (a ∷ []))

    within : (k : ℕ) (X : List Action) → length X ≤ length X + k
    within k X = omega arith

    one_within : (k : ℕ) (X : List Action) (a : Action) → length (X ++ a ∷ []) ≤ length X + suc k
    one_within k X a = omega (arith, length-append X (a ∷ []))

    tree_fewer : (j : ℕ) → Fewer (exec p j) → (tree : Tree) (L : List Answer) (X : List Action) → IsFewer (length X + length L) (go_on (run tree L X) (exec p j)) (go_on (run tree (L ++ b ∷ R) X) (exec p j))
    tree_fewer j on (Leads t) L X = on t L X
    tree_fewer j on (Closed store) L X = inr (within (length L) X)
    tree_fewer j on (Asks a store onward) [] X =
        inl (
          X ++ a ∷ [],
          store,
          refl,
          one_longer X a,
          tree_begins (exec p j) (begins j) (onward b) R (X ++ a ∷ []),
        )
    tree_fewer j on (Asks a store onward) (l ∷ L) X =
        subst (λ (k : ℕ). IsFewer k (go_on (run (onward l) L (X ++ a ∷ [])) (exec p j)) (go_on (run (onward l) (L ++ b ∷ R) (X ++ a ∷ [])) (exec p j))) (sym (longer (length L) X a)) (tree_fewer j on (onward l) L (X ++ a ∷ []))
    tree_fewer j on (Halts store) [] X = inl (X ++ Stop ∷ [], store, refl, one_longer X Stop, front-same (X ++ Stop ∷ []))
    tree_fewer j on (Halts store) (l ∷ L) X = inr (one_within (length L) X Stop)
    tree_fewer j on Broken L X = inr tt

    pub fewer : (k : ℕ) → Fewer (exec p k)
    fewer zero t L X = inr (within (length L) X)
    fewer (suc k) t L X =
        let tree = next_tree t in
        subst (λ (next : Next). IsFewer (length X + length L) (go_on next (exec p k)) (exec p (suc k) (at t (L ++ b ∷ R) X))) (sym (tree.1 L X))
        (subst (λ (next : Next). IsFewer (length X + length L) (go_on (run tree.0 L X) (exec p k)) (go_on next (exec p k))) (sym (tree.1 (L ++ b ∷ R) X)) (tree_fewer k (fewer k) tree.0 L X))
