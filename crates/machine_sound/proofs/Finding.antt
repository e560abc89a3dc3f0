-- A thread of the shapes finds the operands of its instruction.
use Rattle.std.proofs.Common.{arith, ◌≡◌, ℕ, ℤ, ◌<◌, ◌≤◌, List, [], ◌∷◌, ◌++◌, length, reverse, IsTrue, is_some, Option, Some, None, slice_get, option_map, refl, sym, ap, subst, ◌∙◌, true≢false, length-append}
use Rattle.std.proofs.lemmas.List.{length-reverse}
use Rattle.std.proofs.lemmas.Option.{slice_get-map, slice_get_within}
use Rattle.lynx_tree.specs.declared.declaration.TypeName.{TypeName}
use Rattle.lynx_tree.specs.declared.declaration.TypeName.TheVariants as types
use Rattle.lynx_code.specs.declared.instruction.Instruction.{Instruction}
use Rattle.lynx_code.specs.declared.instruction.Instruction.TheVariants as code
use Rattle.typing_rules.specs.declared.exception.Exception.{Exception}
use Rattle.lynx_meaning.specs.Code.{Opened}
use Rattle.lynx_meaning.specs.Values.{Value, Int, Truth, Text, Row, Link, HasType, HaveTypes}
use Rattle.machine_stack.specs.Stacks as stacks
use Rattle.machine_stack.specs.Stacks.{TopIsInt, TopIsTruth, TopIsLink, TopIsLike, AreAlike, AreAlikeOnTop}
use Rattle.code_shapes.specs.Shapes.{ModuleTypes, Shape, Shapes, Accepts, Connects, IsPlain, IsRow, Loads, Obeys, Stores, Untries, program, Closes, Replies}
use Rattle.lynx_meaning.specs.Needs.{OpTypes}
use Rattle.machine_turns.specs.Threads.{Standing}
use Rattle.machine_never_stuck.proofs.Pairs.{is_found, same_length}
use Rattle.machine_steps.specs.Operands.{AreInts, Finds, HasValues, IsOpen, IsPending, TopIsPlain}

-- ---- on top of a stack

an_int : (ts : List TypeName) (stack : List Value) → HaveTypes (types.Int ∷ ts) stack → TopIsInt stack
an_int ts [] h = absurd h
an_int ts (Int n ∷ vs) h = tt
an_int ts (_ ∷ vs) h = absurd h.0

a_truth : (ts : List TypeName) (stack : List Value) → HaveTypes (types.Bool ∷ ts) stack → TopIsTruth stack
a_truth ts [] h = absurd h
a_truth ts (Truth b ∷ vs) h = tt
a_truth ts (_ ∷ vs) h = absurd h.0

a_link : (ts : List TypeName) (stack : List Value) → HaveTypes (types.Link ∷ ts) stack → TopIsLink stack
a_link ts [] h = absurd h
a_link ts (Link l ∷ vs) h = tt
a_link ts (_ ∷ vs) h = absurd h.0

ints : (ts : List TypeName) (stack : List Value) → HaveTypes (types.Int ∷ types.Int ∷ ts) stack → AreInts stack
ints ts [] h = absurd h
ints ts (v ∷ []) h = absurd h.1
ints ts (Int b ∷ Int a ∷ vs) h = tt
ints ts (Int b ∷ _ ∷ vs) h = absurd h.1.0
ints ts (_ ∷ w ∷ vs) h = absurd h.0

plain : (u : TypeName) (ts : List TypeName) (stack : List Value) → IsPlain u → HaveTypes (u ∷ ts) stack → TopIsPlain stack
plain u ts [] is h = absurd h
plain types.Int ts (Int n ∷ vs) is h = tt
plain types.Bool ts (Truth b ∷ vs) is h = tt
plain types.Text ts (Text bytes ∷ vs) is h = tt
plain types.Int ts (_ ∷ vs) is h = absurd h.0
plain types.Bool ts (_ ∷ vs) is h = absurd h.0
plain types.Text ts (_ ∷ vs) is h = absurd h.0
plain types.Link ts (v ∷ vs) is h = absurd is
plain (types.Row n) ts (v ∷ vs) is h = absurd is

alike : (u : TypeName) (ts : List TypeName) (stack : List Value) → IsPlain u → HaveTypes (u ∷ u ∷ ts) stack → AreAlikeOnTop stack
alike u ts [] is h = absurd h
alike u ts (v ∷ []) is h = absurd h.1
alike types.Int ts (Int b ∷ Int a ∷ vs) is h = tt
alike types.Int ts (Int b ∷ _ ∷ vs) is h = absurd h.1.0
alike types.Int ts (_ ∷ w ∷ vs) is h = absurd h.0
alike types.Bool ts (Truth b ∷ Truth a ∷ vs) is h = tt
alike types.Bool ts (Truth b ∷ _ ∷ vs) is h = absurd h.1.0
alike types.Bool ts (_ ∷ w ∷ vs) is h = absurd h.0
alike types.Text ts (Text b ∷ Text a ∷ vs) is h = tt
alike types.Text ts (Text b ∷ _ ∷ vs) is h = absurd h.1.0
alike types.Text ts (_ ∷ w ∷ vs) is h = absurd h.0
alike types.Link ts (v ∷ w ∷ vs) is h = absurd is
alike (types.Row n) ts (v ∷ w ∷ vs) is h = absurd is

-- ---- variables

-- two values of one type
of_one_kind : (u : TypeName) (v w : Value) → HasType u v → HasType u w → AreAlike v w
of_one_kind types.Int (Int a) (Int b) h k = tt
of_one_kind types.Bool (Truth a) (Truth b) h k = tt
of_one_kind types.Text (Text a) (Text b) h k = tt
of_one_kind types.Link (Link a) (Link b) h k = tt
of_one_kind (types.Row n) (Row a) (Row b) h k = tt
of_one_kind types.Int (Int a) _ h k = absurd k
of_one_kind types.Bool (Truth a) _ h k = absurd k
of_one_kind types.Text (Text a) _ h k = absurd k
of_one_kind types.Link (Link a) _ h k = absurd k
of_one_kind (types.Row n) (Row a) _ h k = absurd k
of_one_kind types.Int _ w h k = absurd h
of_one_kind types.Bool _ w h k = absurd h
of_one_kind types.Text _ w h k = absurd h
of_one_kind types.Link _ w h k = absurd h
of_one_kind (types.Row n) _ w h k = absurd h

there : (kinds : List TypeName) (vs : List Value) (shapes : Shapes) (at slot : ℕ) (s : Shape) (o : Option TypeName) → slice_get kinds slot ≡ o → HaveTypes kinds vs → Loads shapes at s o → slot < length vs
there kinds vs shapes at slot s None e typed obeys = absurd obeys
there kinds vs shapes at slot s (Some u) e typed obeys = let found = is_found kinds vs slot u typed e in slice_get_within vs slot found.0 found.1

like_top : (o : Option Value) (u : TypeName) (ts : List TypeName) (v : Value) (stack : List Value) → o ≡ Some v → HasType u v → HaveTypes (u ∷ ts) stack → TopIsLike o stack
like_top o u ts v [] e h typed = absurd typed
like_top o u ts v (w ∷ vs) e h typed = subst (λ (q : Option Value). TopIsLike q (w ∷ vs)) (sym e) (of_one_kind u v w h typed.0)

like : (kinds : List TypeName) (vs : List Value) (shapes : Shapes) (at slot : ℕ) (s : Shape) (stack : List Value) (o : Option TypeName) → slice_get kinds slot ≡ o → HaveTypes kinds vs → HaveTypes s.stack stack →
    Stores shapes at s o → TopIsLike (slice_get vs slot) stack
like kinds vs shapes at slot s stack None e typed whole obeys = absurd obeys
like kinds vs shapes at slot s stack (Some u) e typed whole obeys =
    let found = is_found kinds vs slot u typed e in
    like_top (slice_get vs slot) u obeys.0 found.0 stack found.1 found.2 (subst (λ (ts : List TypeName). HaveTypes ts stack) obeys.1 whole)

row_value : (n : ℤ) (v : Value) → HasType (types.Row n) v → stacks.IsRow (Some v)
row_value n (Row ns) h = tt
row_value n _ h = absurd h

row : (kinds : List TypeName) (vs : List Value) (slot : ℕ) (o : Option TypeName) → slice_get kinds slot ≡ o → HaveTypes kinds vs → IsRow o → stacks.IsRow (slice_get vs slot)
row kinds vs slot (Some (types.Row n)) e typed is =
    let found = is_found kinds vs slot (types.Row n) typed e in
    subst (λ (q : Option Value). stacks.IsRow q) (sym found.1) (row_value n found.0 found.2)
row kinds vs slot _ e typed is = absurd is

-- ---- what else is open

an_open : (shapes : Shapes) (at : ℕ) (s : Shape) (os : List Opened) → Untries shapes at s os → IsOpen os
an_open shapes at s [] obeys = absurd obeys
an_open shapes at s (o ∷ os) obeys = tt

a_pending : (o : Option Exception) → IsTrue (is_some o) → IsPending o
a_pending None is = absurd (true≢false (sym is))
a_pending (Some x) is = tt

below_link : (k : ℕ) (ts us : List TypeName) (stack : List Value) → length ts ≡ k → HaveTypes (types.Link ∷ (ts ++ us)) stack → HasValues (Some k) stack
below_link k ts us [] long typed = absurd typed
below_link k ts us (Link l ∷ vs) long typed = let all = same_length (ts ++ us) vs typed.1 in omega (arith, length-append ts us)
below_link k ts us (_ ∷ vs) long typed = absurd typed.0

module _ (m : ModuleTypes) (instructions : List Instruction) (shapes : Shapes) (globals : List Value) (is_shape : Shape) (s : Standing) (known : HaveTypes m.globals globals) (own : HaveTypes is_shape.locals s.locals)
    (whole : HaveTypes is_shape.stack s.stack) (open_tries : s.tries ≡ is_shape.tries) (are_open : s.requests ≡ is_shape.requests) (pending : IsTrue is_shape.pending → IsTrue (is_some s.pending)) where
  on : (ts : List TypeName) → is_shape.stack ≡ ts → HaveTypes ts s.stack
  on ts e = subst (λ (us : List TypeName). HaveTypes us s.stack) e whole

  connects : (number : ℕ) (o : Option OpTypes) → slice_get m.ops number ≡ o → Connects shapes s.address is_shape o → HasValues (slice_get (program m instructions).arguments number) s.stack
  connects number None e obeys = absurd obeys
  connects number (Some op) e obeys =
      let count : slice_get (program m instructions).arguments number ≡ Some (length op.arguments) =
      slice_get-map (λ (q : OpTypes). length q.arguments) m.ops number ∙ ap (λ (q : Option OpTypes). option_map (λ (r : OpTypes). length r.arguments) q) e in
      subst (λ (q : Option ℕ). HasValues q s.stack) (sym count)
      (below_link (length op.arguments) (reverse op.arguments) obeys.0 s.stack (length-reverse op.arguments) (on (types.Link ∷ (reverse op.arguments ++ obeys.0)) obeys.1))

  accepted : (number : ℕ) (o : Option OpTypes) → Accepts shapes s.address is_shape number o → TopIsLink s.stack
  accepted number None obeys = absurd obeys
  accepted number (Some op) obeys = a_link obeys.0 s.stack (on (types.Link ∷ obeys.0) obeys.1)

  one_open : (requests : List ℕ) → s.requests ≡ requests → Closes shapes s.address is_shape requests → 0 < length s.requests
  one_open [] are obeys = absurd obeys
  one_open (op ∷ requests) are obeys = let size = ap length are in omega (arith, size)

  has_values : (k : ℕ) (requests : List ℕ) → Replies m shapes s.address is_shape k requests → k ≤ length s.stack
  has_values k [] obeys = absurd obeys
  has_values k (op ∷ requests) obeys =
      let results = reverse obeys.0.results in
      let all = same_length (results ++ obeys.3.0) s.stack (on (results ++ obeys.3.0) obeys.3.1) in
      omega (arith, all, obeys.2, length-reverse obeys.0.results, length-append results obeys.3.0)

  pub finds : (i : Instruction) → Obeys m shapes s.address is_shape i → Finds (program m instructions) i globals s
  finds (code.Push l) obeys = tt
  finds (code.LoadG slot) obeys = there m.globals globals shapes s.address slot is_shape (slice_get m.globals slot) refl known obeys
  finds (code.LoadL slot) obeys = there is_shape.locals s.locals shapes s.address slot is_shape (slice_get is_shape.locals slot) refl own obeys
  finds (code.AtG slot) obeys = (row m.globals globals slot (slice_get m.globals slot) refl known obeys.0, an_int obeys.1.0 s.stack (on (types.Int ∷ obeys.1.0) obeys.1.1))
  finds (code.AtL slot) obeys = (row is_shape.locals s.locals slot (slice_get is_shape.locals slot) refl own obeys.0, an_int obeys.1.0 s.stack (on (types.Int ∷ obeys.1.0) obeys.1.1))
  finds (code.StoreG slot) obeys = like m.globals globals shapes s.address slot is_shape s.stack (slice_get m.globals slot) refl known whole obeys
  finds (code.StoreL slot) obeys = like is_shape.locals s.locals shapes s.address slot is_shape s.stack (slice_get is_shape.locals slot) refl own whole obeys
  finds (code.PutG slot) obeys = (row m.globals globals slot (slice_get m.globals slot) refl known obeys.0, ints obeys.1.0 s.stack (on (types.Int ∷ types.Int ∷ obeys.1.0) obeys.1.1))
  finds (code.PutL slot) obeys = (row is_shape.locals s.locals slot (slice_get is_shape.locals slot) refl own obeys.0, ints obeys.1.0 s.stack (on (types.Int ∷ types.Int ∷ obeys.1.0) obeys.1.1))
  finds code.Add obeys = ints obeys.0 s.stack (on (types.Int ∷ types.Int ∷ obeys.0) obeys.1)
  finds code.Sub obeys = ints obeys.0 s.stack (on (types.Int ∷ types.Int ∷ obeys.0) obeys.1)
  finds code.Mul obeys = ints obeys.0 s.stack (on (types.Int ∷ types.Int ∷ obeys.0) obeys.1)
  finds code.Div obeys = ints obeys.0 s.stack (on (types.Int ∷ types.Int ∷ obeys.0) obeys.1)
  finds code.Mod obeys = ints obeys.0 s.stack (on (types.Int ∷ types.Int ∷ obeys.0) obeys.1)
  finds code.Neg obeys = an_int obeys.0 s.stack (on (types.Int ∷ obeys.0) obeys.1)
  finds code.Eq obeys = alike obeys.0 obeys.2.0 s.stack obeys.1 (on (obeys.0 ∷ obeys.0 ∷ obeys.2.0) obeys.2.1)
  finds code.Ne obeys = alike obeys.0 obeys.2.0 s.stack obeys.1 (on (obeys.0 ∷ obeys.0 ∷ obeys.2.0) obeys.2.1)
  finds code.Lt obeys = ints obeys.0 s.stack (on (types.Int ∷ types.Int ∷ obeys.0) obeys.1)
  finds code.Le obeys = ints obeys.0 s.stack (on (types.Int ∷ types.Int ∷ obeys.0) obeys.1)
  finds code.Gt obeys = ints obeys.0 s.stack (on (types.Int ∷ types.Int ∷ obeys.0) obeys.1)
  finds code.Ge obeys = ints obeys.0 s.stack (on (types.Int ∷ types.Int ∷ obeys.0) obeys.1)
  finds code.Not obeys = a_truth obeys.0 s.stack (on (types.Bool ∷ obeys.0) obeys.1)
  finds (code.AndJ address) obeys = a_truth obeys.0 s.stack (on (types.Bool ∷ obeys.0) obeys.1)
  finds (code.OrJ address) obeys = a_truth obeys.0 s.stack (on (types.Bool ∷ obeys.0) obeys.1)
  finds (code.JumpF address) obeys = a_truth obeys.0 s.stack (on (types.Bool ∷ obeys.0) obeys.1)
  finds (code.Jump address) obeys = tt
  finds (code.Await address) obeys = a_truth obeys.0 s.stack (on (types.Bool ∷ obeys.0) obeys.1)
  finds (code.Try address) obeys = tt
  finds code.Untry obeys = subst (λ (os : List Opened). IsOpen os) (sym open_tries) (an_open shapes s.address is_shape is_shape.tries obeys)
  finds (code.Case exception address) obeys = a_pending s.pending (pending obeys.0)
  finds code.Again obeys = a_pending s.pending (pending obeys.0)
  finds (code.Raise exception) obeys = tt
  finds code.Write obeys = plain obeys.0 obeys.2.0 s.stack obeys.1 (on (obeys.0 ∷ obeys.2.0) obeys.2.1)
  finds code.New obeys = tt
  finds code.Destroy obeys = a_link obeys.0 s.stack (on (types.Link ∷ obeys.0) obeys.1)
  finds (code.Bind entry) obeys = a_link obeys.1.0 s.stack (on (types.Link ∷ obeys.1.0) obeys.1.1)
  finds (code.Unbind entry) obeys = a_link obeys.1.0 s.stack (on (types.Link ∷ obeys.1.0) obeys.1.1)
  finds (code.Connect op) obeys = connects op (slice_get m.ops op) refl obeys
  finds (code.Accept op) obeys = accepted op (slice_get m.ops op) obeys
  finds code.Close obeys = one_open is_shape.requests are_open obeys
  finds (code.Reply k) obeys = has_values k is_shape.requests obeys
  finds code.Stop obeys = tt
  finds code.End obeys = tt
