-- Instructions on operands of their kinds.
use Rattle.std.proofs.Common.{◌≡◌, ℕ, ℤ, ◌+◌, ◌≤◌, List, [], ◌∷◌, ◌++◌, length, take, drop, reverse, Bool, true, false, IsTrue, IfOk, if◌then◌else◌, sym, subst, arith, length-append, le-leb, leb, true≢false, refl}
use Rattle.lynx_tree.specs.declared.declaration.TypeName.{TypeName}
use Rattle.lynx_tree.specs.declared.declaration.TypeName.TheVariants as types
use Rattle.lynx_meaning.specs.Code.{Next, Thread, by_link, by_truth, by_values, compares, one_int, stuck, two_alike, two_ints, writes}
use Rattle.lynx_meaning.specs.Values.{Value, Given, Int, Truth, Text, Link, HasType, is_int, written, HaveTypes}
use Rattle.code_shapes.specs.Shapes.{ModuleTypes, Shape, Shapes, IsPlain, Leads, MayRaise}
use Rattle.machine_never_stuck.specs.Sound.{IsSound}
use Rattle.machine_never_stuck.proofs.Pairs.{above, below, same_length, turned}
use Rattle.machine_never_stuck.proofs.Steps.{IsBeside, gives_there, jumps_there}

module _ (m : ModuleTypes) (shapes : Shapes) (needed : List TypeName) (from : Thread) where
  -- ---- one operand

  pub truth_there : (ts : List TypeName) (stack : List Value) (next : Bool → List Value → Next) → HaveTypes (types.Bool ∷ ts) stack →
      ((b : Bool) (rest : List Value) → HaveTypes ts rest → IsSound m shapes needed from (next b rest)) → IsSound m shapes needed from (by_truth next stack)
  truth_there ts [] next typed k = absurd typed
  truth_there ts (Truth b ∷ rest) next typed k = k b rest typed.1
  truth_there ts (_ ∷ rest) next typed k = absurd typed.0

  pub link_there : (ts : List TypeName) (stack : List Value) (next : Value → List Value → Next) → HaveTypes (types.Link ∷ ts) stack →
      ((l : ℕ) (rest : List Value) → HaveTypes ts rest → IsSound m shapes needed from (next (Link l) rest)) → IsSound m shapes needed from (by_link next stack)
  link_there ts [] next typed k = absurd typed
  link_there ts (Link l ∷ rest) next typed k = k l rest typed.1
  link_there ts (_ ∷ rest) next typed k = absurd typed.0

  -- what is written
  pub writes_there : (u : TypeName) (ts : List TypeName) (stack : List Value) (next : List ℕ → List Value → Next) → IsPlain u → HaveTypes (u ∷ ts) stack →
      ((text : List ℕ) (rest : List Value) → HaveTypes ts rest → IsSound m shapes needed from (next text rest)) → IsSound m shapes needed from (writes next stack)
  writes_there u ts [] next plain typed k = absurd typed
  writes_there types.Int ts (Int n ∷ rest) next plain typed k = k (written (Int n)) rest typed.1
  writes_there types.Bool ts (Truth b ∷ rest) next plain typed k = k (written (Truth b)) rest typed.1
  writes_there types.Text ts (Text bytes ∷ rest) next plain typed k = k (written (Text bytes)) rest typed.1
  writes_there types.Int ts (_ ∷ rest) next plain typed k = absurd typed.0
  writes_there types.Bool ts (_ ∷ rest) next plain typed k = absurd typed.0
  writes_there types.Text ts (_ ∷ rest) next plain typed k = absurd typed.0
  writes_there types.Link ts (v ∷ rest) next plain typed k = absurd plain
  writes_there (types.Row n) ts (v ∷ rest) next plain typed k = absurd plain

  -- ---- so many

  -- a test that is passed
  pub where_enough : (b : Bool) (next : Next) → b ≡ true → IsSound m shapes needed from next → IsSound m shapes needed from (if b then next else stuck)
  where_enough true next e sound = sound
  where_enough false next e sound = absurd (true≢false (sym e))

  pub values_there : (k : ℕ) (ts us : List TypeName) (stack : List Value) (next : List Value → List Value → Next) → length ts ≡ k → HaveTypes (ts ++ us) stack →
      ((vs rest : List Value) → HaveTypes (reverse ts) vs → HaveTypes us rest → IsSound m shapes needed from (next vs rest)) → IsSound m shapes needed from (by_values k next stack)
  values_there k ts us stack next long typed on =
      let all = same_length (ts ++ us) stack typed in
      let enough : k ≤ length stack = omega (arith, length-append ts us) in
      where_enough (leb k (length stack)) (next (reverse (take k stack)) (drop k stack)) (le-leb k (length stack) enough)
      (on (reverse (take k stack)) (drop k stack)
      (turned ts (take k stack) (subst (λ (n : ℕ). HaveTypes ts (take n stack)) long (above ts us stack typed)))
      (subst (λ (n : ℕ). HaveTypes us (drop n stack)) long (below ts us stack typed)))

-- what takes no action
module _ (m : ModuleTypes) (shapes : Shapes) (from : Thread) where
  -- ---- numbers

  pub negates_there : (s : Shape) (t : Thread) (ts : List TypeName) (operator : ℤ → Given) (stack : List Value) →
      ((a : ℤ) → IfOk (operator a) (HasType types.Int)) → IsBeside m s from t → HaveTypes s.stack t.stack → HaveTypes (types.Int ∷ ts) stack →
      Leads shapes (t.address + 1) (record s { stack = types.Int ∷ ts }) → MayRaise shapes s.stack s → IsSound m shapes [] from (one_int operator t stack)
  negates_there s t ts operator [] fits beside whole typed leads may = absurd typed
  negates_there s t ts operator (Int a ∷ rest) fits beside whole typed leads may =
      gives_there m shapes [] from s t types.Int ts (operator a) rest (λ h. refl) leads may beside whole (fits a) typed.1
  negates_there s t ts operator (_ ∷ rest) fits beside whole typed leads may = absurd typed.0

  pub computes_there : (s : Shape) (t : Thread) (ts : List TypeName) (operator : ℤ → ℤ → Given) (stack : List Value) →
      ((a b : ℤ) → IsTrue (is_int a) → IfOk (operator a b) (HasType types.Int)) → IsBeside m s from t → HaveTypes s.stack t.stack → HaveTypes (types.Int ∷ types.Int ∷ ts) stack →
      Leads shapes (t.address + 1) (record s { stack = types.Int ∷ ts }) → MayRaise shapes s.stack s → IsSound m shapes [] from (two_ints operator t stack)
  computes_there s t ts operator [] fits beside whole typed leads may = absurd typed
  computes_there s t ts operator (v ∷ []) fits beside whole typed leads may = absurd typed.1
  computes_there s t ts operator (Int b ∷ Int a ∷ rest) fits beside whole typed leads may =
      gives_there m shapes [] from s t types.Int ts (operator a b) rest (λ h. refl) leads may beside whole (fits a b typed.1.0) typed.1.1
  computes_there s t ts operator (Int b ∷ _ ∷ rest) fits beside whole typed leads may = absurd typed.1.0
  computes_there s t ts operator (_ ∷ w ∷ rest) fits beside whole typed leads may = absurd typed.0

  pub compares_there : (s : Shape) (t : Thread) (ts : List TypeName) (test : ℤ → ℤ → Bool) (stack : List Value) →
      IsBeside m s from t → HaveTypes (types.Int ∷ types.Int ∷ ts) stack → Leads shapes (t.address + 1) (record s { stack = types.Bool ∷ ts }) → IsSound m shapes [] from (compares test t stack)
  compares_there s t ts test [] beside typed leads = absurd typed
  compares_there s t ts test (v ∷ []) beside typed leads = absurd typed.1
  compares_there s t ts test (Int b ∷ Int a ∷ rest) beside typed leads =
      jumps_there m shapes [] from s t (t.address + 1) (types.Bool ∷ ts) (Truth (test a b) ∷ rest) leads beside (tt, typed.1.1)
  compares_there s t ts test (Int b ∷ _ ∷ rest) beside typed leads = absurd typed.1.0
  compares_there s t ts test (_ ∷ w ∷ rest) beside typed leads = absurd typed.0

  -- ---- two of one type

  pub alike_there : (s : Shape) (t : Thread) (u : TypeName) (ts : List TypeName) (test : Value → Value → Bool) (stack : List Value) → IsPlain u →
      IsBeside m s from t → HaveTypes (u ∷ u ∷ ts) stack → Leads shapes (t.address + 1) (record s { stack = types.Bool ∷ ts }) → IsSound m shapes [] from (two_alike test t stack)
  alike_there s t u ts test [] plain beside typed leads = absurd typed
  alike_there s t u ts test (v ∷ []) plain beside typed leads = absurd typed.1
  alike_there s t types.Int ts test (Int b ∷ Int a ∷ rest) plain beside typed leads =
      jumps_there m shapes [] from s t (t.address + 1) (types.Bool ∷ ts) (Truth (test (Int a) (Int b)) ∷ rest) leads beside (tt, typed.1.1)
  alike_there s t types.Int ts test (Int b ∷ _ ∷ rest) plain beside typed leads = absurd typed.1.0
  alike_there s t types.Int ts test (_ ∷ w ∷ rest) plain beside typed leads = absurd typed.0
  alike_there s t types.Bool ts test (Truth b ∷ Truth a ∷ rest) plain beside typed leads =
      jumps_there m shapes [] from s t (t.address + 1) (types.Bool ∷ ts) (Truth (test (Truth a) (Truth b)) ∷ rest) leads beside (tt, typed.1.1)
  alike_there s t types.Bool ts test (Truth b ∷ _ ∷ rest) plain beside typed leads = absurd typed.1.0
  alike_there s t types.Bool ts test (_ ∷ w ∷ rest) plain beside typed leads = absurd typed.0
  alike_there s t types.Text ts test (Text b ∷ Text a ∷ rest) plain beside typed leads =
      jumps_there m shapes [] from s t (t.address + 1) (types.Bool ∷ ts) (Truth (test (Text a) (Text b)) ∷ rest) leads beside (tt, typed.1.1)
  alike_there s t types.Text ts test (Text b ∷ _ ∷ rest) plain beside typed leads = absurd typed.1.0
  alike_there s t types.Text ts test (_ ∷ w ∷ rest) plain beside typed leads = absurd typed.0
  alike_there s t types.Link ts test (v ∷ w ∷ rest) plain beside typed leads = absurd plain
  alike_there s t (types.Row n) ts test (v ∷ w ∷ rest) plain beside typed leads = absurd plain
