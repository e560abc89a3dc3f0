-- A thread of shaped code is never stuck.
use Rattle.std.proofs.Common.{◌≡◌, ℕ, ℤ, zero, suc, ◌+◌, ◌+ℤ◌, ◌-ℤ◌, ◌*ℤ◌, neg_ℤ, ◌<◌, List, [], ◌∷◌, ◌++◌, length, map, reverse, Bool, true, false, not, IsTrue, is_some, Option}
use Rattle.std.proofs.Common.{Some, None, Result, IfOk, int_le, int_lt, slice_get, option_map, bytes_eq, arith, refl, sym, ap, ◌∙◌, subst, true≢false, if◌then◌else◌, drop}
use Rattle.std.proofs.lemmas.List.{length-reverse, reverse-reverse}
use Rattle.std.proofs.lemmas.Option.{same_Some, slice_get-map}
use Rattle.lynx_tree.specs.declared.declaration.TypeName.{TypeName}
use Rattle.lynx_tree.specs.declared.declaration.TypeName.TheVariants as types
use Rattle.lynx_code.specs.declared.instruction.Instruction.{Instruction}
use Rattle.lynx_code.specs.declared.instruction.Instruction.TheVariants as code
use Rattle.typing_rules.specs.Exceptions.{exception_text}
use Rattle.typing_rules.specs.declared.exception.Exception.{Exception}
use Rattle.lynx_meaning.specs.Code.{Next, Opened, Thread, Global, Local, with_outcome, again, asks, begins, by_link, by_truth, by_values, compares, connects, decides, fetched, goes, handles, jumps, raises, step, tries_again, two_alike, two_ints, untries, value_of_literal, closes_request, open_after}
use Rattle.lynx_meaning.specs.Courses.{Action, Accept, Answer, Await, Bind, Close, Connect, Destroy, New, Reply, Stop, Store, Unbind, Write}
use Rattle.lynx_meaning.specs.Values.{Value, Given, Truth, Link, HasType, add, divide, is_int, multiply, negate, reduce, subtract, truth_eq, value_eq, HaveTypes}
use Rattle.code_shapes.specs.Shapes.{ModuleTypes, Shape, Shapes, Accepts, AllObey, AreShapes, Connects, IsPlaced, IsPlain, Leads, MayRaise, Obeys, Untries, literal_type, part_shape, program, pushed, Closes, Replies, PartTypes, opened_by}
use Rattle.lynx_meaning.specs.Needs.{OpTypes, types_of, wanted_by, wanted_types}
use Rattle.machine_never_stuck.specs.Sound.{AllFit, FirstFits, IsAction, IsSound, ShapedCodeIsNeverStuck, needs, AreResults, HasOpen}
use Rattle.machine_never_stuck.proofs.Numbers.{divide_typed, reduce_typed, within_typed}
use Rattle.machine_never_stuck.proofs.Pairs.{same_length}
use Rattle.machine_never_stuck.proofs.Steps.{IsBeside, accepts_there, asks_there, awaits_there, ends_known, jumps_there, raises_there, wider, open_first}
use Rattle.machine_never_stuck.proofs.Operands.{alike_there, compares_there, computes_there, link_there, negates_there, truth_there, values_there, writes_there}
use Rattle.machine_never_stuck.proofs.Slots.{loads_member_there, loads_there, stores_member_there, stores_there}

abbrev opened : ℕ → ℕ → ℕ → Opened
opened handlers height depth = record { handlers = handlers; height = height; depth = depth }

module _ (m : ModuleTypes) (instructions : List Instruction) (shapes : Shapes) (s : Shape) (t : Thread) (beside : IsBeside m s t t) (whole : HaveTypes s.stack t.stack) where
  -- what is proved of each instruction, by the types of the values that it needs
  abbrev Sound : List TypeName → Next → Type 0
  Sound needed next = IsSound m shapes needed t next

  -- a stack of these types
  on : (ts : List TypeName) → s.stack ≡ ts → HaveTypes ts t.stack
  on ts is = subst (λ (us : List TypeName). HaveTypes us t.stack) is whole

  goes_on : (needed : List TypeName) (address : ℕ) (ts : List TypeName) (stack : List Value) → Leads shapes address (record s { stack = ts }) → HaveTypes ts stack → Sound needed (jumps address stack t)
  goes_on needed address ts stack leads typed = jumps_there m shapes needed t s t address ts stack leads beside typed

  -- ---- jumps

  chosen : (b : Bool) (yes_next no_next : Next) → Sound [] yes_next → Sound [] no_next → Sound [] (if b then yes_next else no_next)
  chosen true a c first second = first
  chosen false a c first second = second

  by_bool : (ts : List TypeName) (next : Bool → List Value → Next) → s.stack ≡ types.Bool ∷ ts → ((b : Bool) (rest : List Value) → HaveTypes ts rest → Sound [] (next b rest)) → Sound [] (by_truth next t.stack)
  by_bool ts next is k = truth_there m shapes [] t ts t.stack next (on (types.Bool ∷ ts) is) k

  jump_if : (address : ℕ) (ts : List TypeName) → s.stack ≡ types.Bool ∷ ts → Leads shapes (t.address + 1) (record s { stack = ts }) → Leads shapes address (record s { stack = ts }) →
      Sound [] (step (program m instructions) t (code.JumpF address))
  jump_if address ts is onward leads =
      by_bool ts (λ b stack. if b then goes stack t else jumps address stack t) is
      (λ b rest typed. chosen b (goes rest t) (jumps address rest t) (goes_on [] (t.address + 1) ts rest onward typed) (goes_on [] address ts rest leads typed))

  -- what decides stays on the stack
  decides_there : (truth : Bool) (address : ℕ) (ts : List TypeName) → s.stack ≡ types.Bool ∷ ts → Leads shapes address s → Leads shapes (t.address + 1) (record s { stack = ts }) → Sound [] (decides truth address t)
  decides_there truth address ts is leads onward =
      by_bool ts (λ b stack. if truth_eq truth b then jumps address t.stack t else goes stack t) is
      (λ b rest typed. chosen (truth_eq truth b) (jumps address t.stack t) (goes rest t) (goes_on [] address s.stack t.stack leads whole) (goes_on [] (t.address + 1) ts rest onward typed))

  await_there : (address : ℕ) (ts : List TypeName) → s.stack ≡ types.Bool ∷ ts → Leads shapes (t.address + 1) (record s { stack = ts }) → Leads shapes address (record s { stack = ts }) → MayRaise shapes ts s →
      FirstFits [] t.moment.answers → Sound [] (step (program m instructions) t (code.Await address))
  await_there address ts is onward leads may fits =
      by_bool ts (λ b stack. if b then goes stack t else with_outcome t.moment Await (λ given now. tries_again address given (record t { moment = now; stack = stack }))) is
      (λ b rest typed.
      chosen b (goes rest t) (with_outcome t.moment Await (λ given now. tries_again address given (record t { moment = now; stack = rest })))
      (goes_on [] (t.address + 1) ts rest onward typed)
      (awaits_there m shapes [] t address s t ts rest (λ h. refl) refl leads may beside typed fits))

  -- ---- tries and handlers

  tried : (address : ℕ) → opened address (length t.stack) (length t.requests) ∷ t.tries ≡ opened address (length s.stack) (length s.requests) ∷ s.tries
  tried address =
      ap (λ (n : ℕ). opened address n (length t.requests) ∷ t.tries) (sym (same_length s.stack t.stack whole)) ∙ ap (λ (rs : List ℕ). opened address (length s.stack) (length rs) ∷ t.tries) beside.requests
      ∙ ap (λ (os : List Opened). opened address (length s.stack) (length s.requests) ∷ os) beside.tries

  untries_there : (os : List Opened) → Untries shapes t.address s os → Sound [] (untries os t)
  untries_there [] obeys = absurd obeys
  untries_there (o ∷ os) obeys =
      jumps_there m shapes [] t (record s { tries = os }) (record t { tries = os }) (t.address + 1) s.stack t.stack obeys
      (record { known = beside.known; unclosed = beside.unclosed; tries = refl; requests = beside.requests; pending = beside.pending }) whole

  raised : (exception : Exception) → MayRaise shapes s.stack s → Sound [] (raises exception t)
  raised exception may = raises_there m shapes [] t exception s t s.stack (λ h. refl) beside whole may

  handles_there : (exception : Exception) (address : ℕ) (o : Option Exception) → IsTrue (is_some o) → Leads shapes (t.address + 1) s → Leads shapes address s → Sound [] (handles exception address o t)
  handles_there exception address None there onward leads = absurd (true≢false (sym there))
  handles_there exception address (Some pending) there onward leads =
      chosen (bytes_eq (exception_text pending) (exception_text exception)) (goes t.stack t) (jumps address t.stack t)
      (goes_on [] (t.address + 1) s.stack t.stack onward whole) (goes_on [] address s.stack t.stack leads whole)

  again_there : (o : Option Exception) → IsTrue (is_some o) → MayRaise shapes s.stack s → Sound [] (again o t)
  again_there None there may = absurd (true≢false (sym there))
  again_there (Some exception) there may = raised exception may

  -- ---- actions

  -- one that needs no values, and opens and closes no request, on what is left of the stack
  does : (ts : List TypeName) (action : Action) (stack : List Value) → IsAction m t.requests action → ((given : Result (List Value) Exception) → open_after action given t.requests ≡ t.requests) → wanted_types m.ops (wanted_by action) ≡ [] →
      Leads shapes (t.address + 1) (record s { stack = ts }) → MayRaise shapes ts s → HaveTypes ts stack → FirstFits [] t.moment.answers → Sound [] (asks action stack t (λ it. it))
  does ts action stack is further want leads may typed fits =
      asks_there m shapes [] t ts action t.requests stack s t is beside.unclosed further (λ h. want) refl leads may beside.known beside.tries beside.requests beside.pending typed fits

  on_link : (ts : List TypeName) (action : Value → Action) → ((l : ℕ) → IsAction m t.requests (action (Link l))) → ((l : ℕ) (given : Result (List Value) Exception) → open_after (action (Link l)) given t.requests ≡ t.requests) →
      ((l : ℕ) → wanted_types m.ops (wanted_by (action (Link l))) ≡ []) → s.stack ≡ types.Link ∷ ts →
      Leads shapes (t.address + 1) (record s { stack = ts }) → MayRaise shapes ts s → FirstFits [] t.moment.answers → Sound [] (by_link (λ link stack. asks (action link) stack t (λ it. it)) t.stack)
  on_link ts action is further want stack_is leads may fits =
      link_there m shapes [] t ts t.stack (λ link stack. asks (action link) stack t (λ it. it)) (on (types.Link ∷ ts) stack_is)
      (λ l rest typed. does ts (action (Link l)) rest (is l) (further l) (want l) leads may typed fits)

  -- the innermost request is closed, and then one less is open
  closed : (are requests : List ℕ) → t.requests ≡ are → s.requests ≡ requests → are ≡ requests → Closes shapes t.address s requests → FirstFits [] t.moment.answers → Sound [] (closes_request are t)
  closed [] requests here is same obeys fits = absurd (subst (λ (rs : List ℕ). Closes shapes t.address s rs) (sym same) obeys)
  closed (op ∷ are) [] here is same obeys fits = absurd obeys
  closed (op ∷ are) (number ∷ requests) here is same obeys fits =
      asks_there m shapes [] t s.stack Close (op ∷ are) t.stack (record s { requests = requests }) (record t { requests = are }) tt (subst (λ (rs : List ℕ). HasOpen t t.moment.actions t.moment.answers rs) here beside.unclosed)
      (λ given. refl) (λ h. refl) refl obeys.0 obeys.1 beside.known beside.tries (ap (λ (rs : List ℕ). drop 1 rs) same) beside.pending whole fits

  -- values for the innermost open request
  replies : (k : ℕ) (are : List ℕ) → s.requests ≡ are → Replies m shapes t.address s k are → FirstFits [] t.moment.answers → Sound [] (by_values k (λ vs stack. asks (Reply vs) stack t (λ it. it)) t.stack)
  replies k [] is obeys fits = absurd obeys
  replies k (op ∷ requests) is obeys fits =
      let o = obeys.0 in
      let ts = obeys.3.0 in
      values_there m shapes [] t k (reverse o.results) ts t.stack (λ vs stack. asks (Reply vs) stack t (λ it. it)) (length-reverse o.results ∙ obeys.2) (on (reverse o.results ++ ts) obeys.3.1)
      (λ vs rest of typed.
      let results = subst (λ (us : List TypeName). HaveTypes us vs) (reverse-reverse o.results) of in
      let belongs = subst (λ (rs : List ℕ). AreResults m rs vs) (sym (beside.requests ∙ is)) (o, obeys.1, results) in
      does ts (Reply vs) rest belongs (λ given. refl) refl obeys.3.2.0 obeys.3.2.1 typed fits)

  -- ---- requests

  -- what the operation of this number needs
  needed_by : (field : OpTypes → List TypeName) (number : ℕ) (op : OpTypes) → slice_get m.ops number ≡ Some op → types_of field (slice_get m.ops number) ≡ field op
  needed_by field number op e = ap (λ (q : Option OpTypes). types_of field q) e

  connects_there : (number : ℕ) (o : Option OpTypes) → slice_get m.ops number ≡ o → Connects shapes t.address s o → FirstFits (types_of (λ r. r.results) (slice_get m.ops number)) t.moment.answers →
      Sound (types_of (λ r. r.results) (slice_get m.ops number)) (connects number (slice_get (program m instructions).arguments number) t)
  connects_there number None e obeys fits = absurd obeys
  connects_there number (Some op) e obeys fits =
      let needed = types_of (λ r. r.results) (slice_get m.ops number) in
      let count : slice_get (program m instructions).arguments number ≡ Some (length op.arguments) =
      slice_get-map (λ (q : OpTypes). length q.arguments) m.ops number ∙ ap (λ (q : Option OpTypes). option_map (λ (r : OpTypes). length r.arguments) q) e in
      let onward = subst (λ (ts : List TypeName). Leads shapes (t.address + 1) (record s { stack = pushed ts obeys.0 })) (sym (needed_by (λ r. r.results) number op e)) obeys.2.0 in
      subst (λ (q : Option ℕ). Sound needed (connects number q t)) (sym count)
      (link_there m shapes needed t (reverse op.arguments ++ obeys.0) t.stack (λ link below. by_values (length op.arguments) (λ vs stack. asks (Connect link number vs) stack t (λ it. it)) below)
      (on (types.Link ∷ (reverse op.arguments ++ obeys.0)) obeys.1)
      (λ l rest typed.
      values_there m shapes needed t (length op.arguments) (reverse op.arguments) obeys.0 rest (λ vs stack. asks (Connect (Link l) number vs) stack t (λ it. it)) (length-reverse op.arguments) typed
      (λ vs stack of others.
      asks_there m shapes needed t obeys.0 (Connect (Link l) number vs) t.requests stack s t (op, e, subst (λ (ts : List TypeName). HaveTypes ts vs) (reverse-reverse op.arguments) of) beside.unclosed (λ given. refl) (λ h. refl) refl
      onward obeys.2.1 beside.known beside.tries beside.requests beside.pending others fits)))

  accept_there : (number : ℕ) (o : Option OpTypes) → slice_get m.ops number ≡ o → Accepts shapes t.address s number o → FirstFits (types_of (λ r. r.arguments) (slice_get m.ops number)) t.moment.answers →
      Sound (types_of (λ r. r.arguments) (slice_get m.ops number)) (step (program m instructions) t (code.Accept number))
  accept_there number None e obeys fits = absurd obeys
  accept_there number (Some op) e obeys fits =
      let needed = types_of (λ r. r.arguments) (slice_get m.ops number) in
      let onward = subst (λ (ts : List TypeName). Leads shapes (t.address + 1) (record s { stack = pushed ts obeys.0; requests = number ∷ s.requests })) (sym (needed_by (λ r. r.arguments) number op e)) obeys.2.0 in
      link_there m shapes needed t obeys.0 t.stack (λ link stack. asks (Accept link number) stack t (λ it. record it { requests = number ∷ it.requests })) (on (types.Link ∷ obeys.0) obeys.1)
      (λ l rest typed. accepts_there m shapes needed t obeys.0 (Link l) number rest s t (op, e) (λ h. refl) refl onward obeys.2.1 beside typed fits)

  -- ---- operators

  computed : (operator : ℤ → ℤ → Given) (ts : List TypeName) → ((a b : ℤ) → IsTrue (is_int a) → IfOk (operator a b) (HasType types.Int)) →
      s.stack ≡ types.Int ∷ types.Int ∷ ts → Leads shapes (t.address + 1) (record s { stack = types.Int ∷ ts }) → MayRaise shapes s.stack s → Sound [] (two_ints operator t t.stack)
  computed operator ts fits is leads may = computes_there m shapes t s t ts operator t.stack fits beside whole (on (types.Int ∷ types.Int ∷ ts) is) leads may

  compared : (test : ℤ → ℤ → Bool) (ts : List TypeName) → s.stack ≡ types.Int ∷ types.Int ∷ ts → Leads shapes (t.address + 1) (record s { stack = types.Bool ∷ ts }) → Sound [] (compares test t t.stack)
  compared test ts is leads = compares_there m shapes t s t ts test t.stack beside (on (types.Int ∷ types.Int ∷ ts) is) leads

  alike : (u : TypeName) (test : Value → Value → Bool) (ts : List TypeName) → IsPlain u → s.stack ≡ u ∷ u ∷ ts → Leads shapes (t.address + 1) (record s { stack = types.Bool ∷ ts }) → Sound [] (two_alike test t t.stack)
  alike u test ts plain is leads = alike_there m shapes t s t u ts test t.stack plain beside (on (u ∷ u ∷ ts) is) leads

  -- ---- all instructions

  stepped : (i : Instruction) → Obeys m shapes t.address s i → FirstFits (needs m (Some i)) t.moment.answers → Sound (needs m (Some i)) (step (program m instructions) t i)
  stepped (code.Push l) obeys fits = goes_on [] (t.address + 1) (literal_type l ∷ s.stack) (value_of_literal l ∷ t.stack) obeys.1 (obeys.0, whole)
  stepped (code.LoadG slot) obeys fits = loads_there m shapes t s t Global slot (slice_get m.globals slot) refl obeys beside whole
  stepped (code.LoadL slot) obeys fits = loads_there m shapes t s t Local slot (slice_get s.locals slot) refl obeys beside whole
  stepped (code.AtG slot) obeys fits = loads_member_there m shapes t s t Global slot (slice_get m.globals slot) refl obeys beside whole
  stepped (code.AtL slot) obeys fits = loads_member_there m shapes t s t Local slot (slice_get s.locals slot) refl obeys beside whole
  stepped (code.StoreG slot) obeys fits = stores_there m shapes t s t Global slot (slice_get m.globals slot) refl obeys beside whole
  stepped (code.StoreL slot) obeys fits = stores_there m shapes t s t Local slot (slice_get s.locals slot) refl obeys beside whole
  stepped (code.PutG slot) obeys fits = stores_member_there m shapes t s t Global slot (slice_get m.globals slot) refl obeys beside whole
  stepped (code.PutL slot) obeys fits = stores_member_there m shapes t s t Local slot (slice_get s.locals slot) refl obeys beside whole
  stepped code.Add obeys fits = computed add obeys.0 (λ a b fit. within_typed (a +ℤ b)) obeys.1 obeys.2.0 obeys.2.1
  stepped code.Sub obeys fits = computed subtract obeys.0 (λ a b fit. within_typed (a -ℤ b)) obeys.1 obeys.2.0 obeys.2.1
  stepped code.Mul obeys fits = computed multiply obeys.0 (λ a b fit. within_typed (a *ℤ b)) obeys.1 obeys.2.0 obeys.2.1
  stepped code.Div obeys fits = computed divide obeys.0 (λ a b fit. divide_typed a b) obeys.1 obeys.2.0 obeys.2.1
  stepped code.Mod obeys fits = computed reduce obeys.0 (λ a b fit. reduce_typed a b fit) obeys.1 obeys.2.0 obeys.2.1
  stepped code.Neg obeys fits =
      negates_there m shapes t s t obeys.0 negate t.stack (λ a. within_typed (neg_ℤ a)) beside whole (on (types.Int ∷ obeys.0) obeys.1) obeys.2.0 obeys.2.1
  stepped code.Eq obeys fits = alike obeys.0 value_eq obeys.2.0 obeys.1 obeys.2.1 obeys.2.2
  stepped code.Ne obeys fits = alike obeys.0 (λ (a b : Value). not (value_eq a b)) obeys.2.0 obeys.1 obeys.2.1 obeys.2.2
  stepped code.Lt obeys fits = compared int_lt obeys.0 obeys.1 obeys.2
  stepped code.Le obeys fits = compared int_le obeys.0 obeys.1 obeys.2
  stepped code.Gt obeys fits = compared (λ (a b : ℤ). int_lt b a) obeys.0 obeys.1 obeys.2
  stepped code.Ge obeys fits = compared (λ (a b : ℤ). int_le b a) obeys.0 obeys.1 obeys.2
  stepped code.Not obeys fits = by_bool obeys.0 (λ b stack. goes (Truth (not b) ∷ stack) t) obeys.1 (λ b rest typed. goes_on [] (t.address + 1) (types.Bool ∷ obeys.0) (Truth (not b) ∷ rest) obeys.2 (tt, typed))
  stepped (code.AndJ address) obeys fits = decides_there false address obeys.0 obeys.1 obeys.2.0 obeys.2.1
  stepped (code.OrJ address) obeys fits = decides_there true address obeys.0 obeys.1 obeys.2.0 obeys.2.1
  stepped (code.JumpF address) obeys fits = jump_if address obeys.0 obeys.1 obeys.2.0 obeys.2.1
  stepped (code.Jump address) obeys fits = goes_on [] address s.stack t.stack obeys whole
  stepped (code.Await address) obeys fits = await_there address obeys.0 obeys.1 obeys.2.0 obeys.2.1 obeys.2.2 fits
  stepped (code.Try address) obeys fits =
      jumps_there m shapes [] t (record s { tries = opened address (length s.stack) (length s.requests) ∷ s.tries }) (record t { tries = opened address (length t.stack) (length t.requests) ∷ t.tries }) (t.address + 1) s.stack t.stack obeys
      (record { known = beside.known; unclosed = beside.unclosed; tries = tried address; requests = beside.requests; pending = beside.pending }) whole
  stepped code.Untry obeys fits = subst (λ (os : List Opened). Sound [] (untries os t)) (sym beside.tries) (untries_there s.tries obeys)
  stepped (code.Case exception address) obeys fits = handles_there exception address t.pending (beside.pending obeys.0) obeys.1 obeys.2
  stepped code.Again obeys fits = again_there t.pending (beside.pending obeys.0) obeys.1
  stepped (code.Raise exception) obeys fits = raised exception obeys
  stepped code.Write obeys fits =
      writes_there m shapes [] t obeys.0 obeys.2.0 t.stack (λ text stack. asks (Write text) stack t (λ it. it)) obeys.1 (on (obeys.0 ∷ obeys.2.0) obeys.2.1)
      (λ text rest typed. does obeys.2.0 (Write text) rest tt (λ given. refl) refl obeys.2.2.0 obeys.2.2.1 typed fits)
  stepped code.New obeys fits = asks_there m shapes (types.Link ∷ types.Link ∷ []) t s.stack New t.requests t.stack s t tt beside.unclosed (λ given. refl) (λ h. refl) refl obeys.0 obeys.1 beside.known beside.tries beside.requests beside.pending whole fits
  stepped code.Destroy obeys fits = on_link obeys.0 (λ link. Destroy link) (λ l. tt) (λ l given. refl) (λ l. refl) obeys.1 obeys.2.0 obeys.2.1 fits
  stepped (code.Bind entry) obeys fits = on_link obeys.1.0 (λ link. Bind link entry) (λ l. obeys.0) (λ l given. refl) (λ l. refl) obeys.1.1 obeys.1.2.0 obeys.1.2.1 fits
  stepped (code.Unbind entry) obeys fits = on_link obeys.1.0 (λ link. Unbind link entry) (λ l. obeys.0) (λ l given. refl) (λ l. refl) obeys.1.1 obeys.1.2.0 obeys.1.2.1 fits
  stepped (code.Connect number) obeys fits = connects_there number (slice_get m.ops number) refl obeys fits
  stepped (code.Accept number) obeys fits = accept_there number (slice_get m.ops number) refl obeys fits
  stepped code.Close obeys fits = closed t.requests s.requests refl refl beside.requests obeys fits
  stepped (code.Reply k) obeys fits = replies k s.requests refl obeys fits
  stepped code.Stop obeys fits =
      (record { before = t.moment.actions; action = Stop; last = refl; requests = t.requests; left = t.moment.answers; all = λ h. absurd (h refl); here = beside.unclosed; of_module = tt; first = λ h. refl }, beside.known.globals)
  stepped code.End obeys fits = ends_known m shapes [] t s.locals t.requests t.moment (λ h. refl) beside.known beside.unclosed

-- ---- code

-- the instruction at an address that has a shape
found_from : (m : ModuleTypes) (shapes : Shapes) (at : ℕ) (is : List Instruction) (k : ℕ) (s : Shape) → AllObey m shapes at is → k < length is → shapes (at + k) ≡ Some s →
    (i : Instruction) × (slice_get is k ≡ Some i) × Obeys m shapes (at + k) s i
found_from m shapes at [] k s all less here = absurd (omega arith)
found_from m shapes at (i ∷ is) zero s all less here =
    let same : at ≡ at + 0 = omega arith in
    let it = all.0 in
    (i, refl, subst (λ (n : ℕ). Obeys m shapes n s i) same (subst (λ (r : Shape). Obeys m shapes at r i) (same_Some it.0 s (sym it.1 ∙ ap shapes same ∙ here)) it.2))
found_from m shapes at (i ∷ is) (suc k) s all less here =
    let same : at + 1 + k ≡ at + suc k = omega arith in
    let rest = found_from m shapes (at + 1) is k s all.1 (omega arith) (ap shapes same ∙ here) in
    (rest.0, rest.1, subst (λ (n : ℕ). Obeys m shapes n s rest.0) same rest.2)

pub instruction_at : (m : ModuleTypes) (parts : List PartTypes) (instructions : List Instruction) (shapes : Shapes) (at : ℕ) (s : Shape) → AreShapes m parts instructions shapes → shapes at ≡ Some s →
    (i : Instruction) × (slice_get instructions at ≡ Some i) × Obeys m shapes at s i
instruction_at m parts instructions shapes at s are here =
    let same : at ≡ 0 + at = omega arith in
    let found = found_from m shapes 0 instructions at s are.code (are.ends at s here) (ap shapes (sym same) ∙ here) in
    (found.0, found.1, subst (λ (n : ℕ). Obeys m shapes n s found.0) (sym same) found.2)

pub never_stuck : ShapedCodeIsNeverStuck
never_stuck m parts instructions shapes are t is fitting =
    let found = instruction_at m parts instructions shapes t.address is.shape are is.there in
    let beside : IsBeside m is.shape t t = record {
      known = record { globals = is.globals; own = is.has.locals; answers = fitting.globals };
      tries = is.has.tries;
      unclosed = open_first t;
      requests = is.has.requests;
      pending = is.has.pending;
    } in
    subst (λ (o : Option Instruction). IsSound m shapes (needs m o) t (fetched (program m instructions) t o)) (sym found.1)
    (stepped m instructions shapes is.shape t beside is.has.stack found.0 found.2
    (subst (λ (o : Option Instruction). FirstFits (needs m o) t.moment.answers) found.1 fitting.first))

-- ---- threads that begin, and what they are given

-- a new thread of a part
pub begins_placed : (m : ModuleTypes) (parts : List PartTypes) (instructions : List Instruction) (shapes : Shapes) (i : ℕ) (p : PartTypes) (store : Store) (given : List Answer) →
    AreShapes m parts instructions shapes → slice_get parts i ≡ Some p → HaveTypes p.locals store.locals → IsPlaced shapes (begins (opened_by p.op) p.start store given)
begins_placed m parts instructions shapes i p store given are here typed =
    let leads = are.starts i p here in
    record {
      shape = leads.0;
      there = leads.1;
      has = wider (part_shape p) leads.0 (begins (opened_by p.op) p.start store given) leads.2
          (record { locals = typed; stack = tt; tries = refl; requests = refl; pending = λ h. absurd (true≢false (sym h)) });
    }

-- what it is given, with the variables of the module as they stand
pub all_fit : (ts : List TypeName) (globals : List Value) (given : List (Result (List Value) Exception)) → HaveTypes ts globals → AllFit ts (map (λ (g : Result (List Value) Exception). record { given = g; globals = globals }) given)
all_fit ts globals [] typed = tt
all_fit ts globals (g ∷ given) typed = (typed, all_fit ts globals given typed)
