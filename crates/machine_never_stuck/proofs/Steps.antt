-- Each way in which an instruction goes on.
use Rattle.std.proofs.Common.{◌≡◌, ℕ, zero, suc, ◌+◌, ◌-◌, List, [], ◌∷◌, ◌++◌, length, drop, reverse, true, IsTrue, is_some, Some, Result, Ok, Err, IfOk, ap, sym, subst, refl, ◌∙◌, append_assoc, append-nil, length-append, arith, map, ◌≤◌, not-suc-le-zero, le_of_suc-le-suc}
use Rattle.lynx_tree.specs.declared.declaration.TypeName.{TypeName}
use Rattle.typing_rules.specs.declared.exception.Exception.{Exception}
use Rattle.lynx_meaning.specs.Code.{Next, Goes, Opened, Thread, with_outcome, takes_outcome, answered, asks, closes, cut, ends, gives, instead, jumps, raises, raises_in, tries_again, open_after, open_behind}
use Rattle.lynx_meaning.specs.Courses.{Action, Answer, Await, Close, Moment, after, Accept}
use Rattle.lynx_meaning.specs.Values.{Value, Given, HasType, HaveTypes}
use Rattle.code_shapes.specs.Shapes.{ModuleTypes, Shape, Shapes, IsWithin, Leads, RaisesIn, MayRaise, HasShape, pushed}
use Rattle.machine_never_stuck.specs.Sound.{IsAction, IsSound, FirstFits, AllFit, HasOpen}
use Rattle.machine_never_stuck.proofs.Pairs.{same_length, dropped, joined, turned}
use Rattle.lynx_meaning.specs.Needs.{wanted_by, wanted_types}
use Rattle.std.proofs.lemmas.List.{map-append, length-map}

-- the variables have their types, also in the answers
pub record IsKnown (m : ModuleTypes) (locals : List TypeName) (now : Moment) : Type 0 where
  pub globals : HaveTypes m.globals now.store.globals
  pub own : HaveTypes locals now.store.locals
  pub answers : AllFit m.globals now.answers

-- what a thread has besides its stack; another thread stood before the instruction
pub record IsBeside (m : ModuleTypes) (s : Shape) (from t : Thread) : Type 0 where
  pub known : IsKnown m s.locals t.moment
  pub unclosed : HasOpen from t.moment.actions t.moment.answers t.requests
  pub tries : t.tries ≡ s.tries
  pub requests : t.requests ≡ s.requests
  pub pending : IsTrue s.pending → IsTrue (is_some t.pending)

pub wider : (s w : Shape) (t : Thread) → IsWithin s w → HasShape s t → HasShape w t
wider s w t within has = record {
  locals = subst (λ (ts : List TypeName). HaveTypes ts t.moment.store.locals) (sym within.locals) has.locals;
  stack = subst (λ (ts : List TypeName). HaveTypes ts t.stack) (sym within.stack) has.stack;
  tries = has.tries ∙ sym within.tries;
  requests = has.requests ∙ sym within.requests;
  pending = λ h. has.pending (within.pending h);
}

-- ---- open requests

open_more : (actions : List Action) (outcomes : List (Result (List Value) Exception)) (a : Action) (o : Result (List Value) Exception) (requests : List ℕ) → length actions ≡ length outcomes →
    open_behind (actions ++ a ∷ []) (outcomes ++ o ∷ []) requests ≡ open_after a o (open_behind actions outcomes requests)
open_more [] [] a o requests long = refl
open_more [] (p ∷ outcomes) a o requests long = absurd (omega (arith, long))
open_more (b ∷ actions) [] a o requests long = absurd (omega (arith, long))
open_more (b ∷ actions) (p ∷ outcomes) a o requests long = open_more actions outcomes a o (open_after b p requests) (omega (arith, long))

-- before the instruction
pub open_first : (t : Thread) → HasOpen t t.moment.actions t.moment.answers t.requests
open_first t = record { done = []; heard = []; acted = sym (append-nil t.moment.actions); used = refl; many = refl; unclosed = refl }

-- behind an action that got an answer
pub open_then : (from : Thread) (actions : List Action) (action : Action) (a : Answer) (rest : List Answer) (requests : List ℕ) → HasOpen from actions (a ∷ rest) requests →
    HasOpen from (actions ++ action ∷ []) rest (open_after action a.given requests)
open_then from actions action a rest requests is =
    let given = λ (b : Answer). b.given in
    let long : length is.done ≡ length (map given is.heard) = is.many ∙ sym (length-map is.heard given) in
    let more : length (is.done ++ action ∷ []) ≡ length (is.heard ++ a ∷ []) = omega (arith, is.many, length-append is.done (action ∷ []), length-append is.heard (a ∷ [])) in
    record {
      done = is.done ++ action ∷ [];
      heard = is.heard ++ a ∷ [];
      acted = ap (λ (l : List Action). l ++ action ∷ []) is.acted ∙ append_assoc from.moment.actions is.done (action ∷ []);
      used = is.used ∙ sym (append_assoc is.heard (a ∷ []) rest);
      many = more;
      unclosed = ap (open_after action a.given) is.unclosed
          ∙ sym (open_more is.done (map given is.heard) action a.given from.requests long)
          ∙ ap (λ (os : List (Result (List Value) Exception)). open_behind (is.done ++ action ∷ []) os from.requests) (sym (map-append given is.heard (a ∷ [])));
    }

-- the lowest operands of a stack have the lowest types
cut_typed : (height : ℕ) (ts : List TypeName) (stack : List Value) → HaveTypes ts stack → HaveTypes (drop (length ts - height) ts) (cut height stack)
cut_typed height ts stack typed =
    subst (λ (n : ℕ). HaveTypes (drop (n - height) ts) (cut height stack)) (sym (same_length ts stack typed)) (dropped (length stack - height) ts stack typed)

-- its first action needs no values
abbrev pub IsIdle : Thread → List TypeName → Type 0
IsIdle from needed = from.moment.answers ≡ [] → [] ≡ needed

some_answer : (a : Answer) (rest : List Answer) → [] ≡ a ∷ rest → ⊥
some_answer a rest h = cc

module _ (m : ModuleTypes) (shapes : Shapes) (needed : List TypeName) (from : Thread) where
  -- a thread comes to an address to which its shape leads
  arrives : (s : Shape) (t : Thread) → Leads shapes t.address s → HasShape s t → HaveTypes m.globals t.moment.store.globals → HasOpen from t.moment.actions t.moment.answers t.requests → IsSound m shapes needed from (Goes t)
  arrives s t leads has globals unclosed = (record { shape = leads.0; there = leads.1; has = wider s leads.0 t leads.2 has; globals = globals }, unclosed)

  pub jumps_there : (s : Shape) (t : Thread) (address : ℕ) (ts : List TypeName) (stack : List Value) →
      Leads shapes address (record s { stack = ts }) → IsBeside m s from t → HaveTypes ts stack → IsSound m shapes needed from (jumps address stack t)
  jumps_there s t address ts stack leads beside typed =
      arrives (record s { stack = ts }) (record t { address = address; stack = stack }) leads
      (record { locals = beside.known.own; stack = typed; tries = beside.tries; requests = beside.requests; pending = beside.pending })
      beside.known.globals beside.unclosed

  -- ---- actions

  acts_known : (locals : List TypeName) (now : Moment) (action : Action) (requests : List ℕ) (answers : List Answer) (next : Result (List Value) Exception → Moment → Next) →
      IsAction m requests action → HasOpen from now.actions answers requests → (from.moment.answers ≡ [] → wanted_types m.ops (wanted_by action) ≡ needed) → from.moment.answers ≡ answers →
      HaveTypes m.globals now.store.globals → HaveTypes locals now.store.locals → AllFit m.globals answers → FirstFits needed answers →
      ((given : Result (List Value) Exception) (later : Moment) → IsIdle from needed → IsKnown m locals later → HasOpen from later.actions later.answers (open_after action given requests) → IfOk given (HaveTypes needed) →
      IsSound m shapes needed from (next given later)) →
      IsSound m shapes needed from (takes_outcome now action answers next)
  acts_known locals now action requests [] next is unclosed want same globals own all fits k = (record { before = now.actions; action = action; last = refl; requests = requests; left = []; all = λ h. refl; here = unclosed; of_module = is; first = want }, globals)
  acts_known locals now action requests (a ∷ rest) next is unclosed want same globals own all fits k =
      k a.given (after now action a rest) (λ none. absurd (some_answer a rest (sym none ∙ same))) (record { globals = all.0; own = own; answers = all.1 })
      (open_then from now.actions action a rest requests unclosed) fits

  -- what a close is given is of no matter
  closing_known : (locals : List TypeName) (now : Moment) (op : ℕ) (requests : List ℕ) (answers : List Answer) (next : Result (List Value) Exception → Moment → Next) →
      IsIdle from needed → HasOpen from now.actions answers (op ∷ requests) → HaveTypes m.globals now.store.globals → HaveTypes locals now.store.locals → AllFit m.globals answers →
      ((given : Result (List Value) Exception) (later : Moment) → IsKnown m locals later → HasOpen from later.actions later.answers requests → IsSound m shapes needed from (next given later)) →
      IsSound m shapes needed from (takes_outcome now Close answers next)
  closing_known locals now op requests [] next idle unclosed globals own all k = (record { before = now.actions; action = Close; last = refl; requests = op ∷ requests; left = []; all = λ h. refl; here = unclosed; of_module = tt; first = idle }, globals)
  closing_known locals now op requests (a ∷ rest) next idle unclosed globals own all k =
      k a.given (after now Close a rest) (record { globals = all.0; own = own; answers = all.1 }) (open_then from now.actions Close a rest (op ∷ requests) unclosed)

  -- ---- exceptions

  closes_known : (locals : List TypeName) (k : ℕ) (requests : List ℕ) (exception : Exception) (now : Moment) (next : Exception → Moment → Next) → k ≤ length requests →
      IsIdle from needed → IsKnown m locals now → HasOpen from now.actions now.answers requests →
      ((other : Exception) (later : Moment) → IsKnown m locals later → HasOpen from later.actions later.answers (drop k requests) → IsSound m shapes needed from (next other later)) →
      IsSound m shapes needed from (closes k exception now next)
  closes_known locals zero requests exception now next le idle known unclosed onward = onward exception now known unclosed
  closes_known locals (suc k) [] exception now next le idle known unclosed onward = absurd (not-suc-le-zero le)
  closes_known locals (suc k) (op ∷ requests) exception now next le idle known unclosed onward =
      closing_known locals now op requests now.answers (λ given later. closes k (instead given exception) later next) idle unclosed known.globals known.own known.answers
      (λ given later still here. closes_known locals k requests (instead given exception) later next (le_of_suc-le-suc le) idle still here onward)

  pub ends_known : (locals : List TypeName) (requests : List ℕ) (now : Moment) → IsIdle from needed → IsKnown m locals now → HasOpen from now.actions now.answers requests → IsSound m shapes needed from (ends requests now)
  ends_known locals [] now idle known unclosed = ((now.answers, unclosed), known.globals)
  ends_known locals (op ∷ requests) now idle known unclosed =
      closing_known locals now op requests now.answers (λ given later. ends requests later) idle unclosed known.globals known.own known.answers (λ given later still here. ends_known locals requests later idle still here)

  raises_known : (exception : Exception) (s : Shape) (t : Thread) (ts : List TypeName) (open_tries : List Opened) →
      IsIdle from needed → IsBeside m s from t → HaveTypes ts t.stack → RaisesIn shapes ts s open_tries → IsSound m shapes needed from (raises_in exception t open_tries)
  raises_known exception s t ts [] idle beside typed may = ends_known s.locals t.requests t.moment idle beside.known beside.unclosed
  raises_known exception s t ts (o ∷ os) idle beside typed may =
      let fewer : length t.requests - o.depth ≤ length t.requests = omega arith in
      closes_known s.locals (length t.requests - o.depth) t.requests exception t.moment
      (λ other now. Goes (record { address = o.handlers; stack = cut o.height t.stack; tries = os; requests = cut o.depth t.requests; pending = Some other; moment = now })) fewer idle beside.known beside.unclosed
      (λ other now still here.
      arrives (record s { stack = drop (length ts - o.height) ts; tries = os; requests = cut o.depth s.requests; pending = true })
      (record { address = o.handlers; stack = cut o.height t.stack; tries = os; requests = cut o.depth t.requests; pending = Some other; moment = now }) may.1
      (record { locals = still.own; stack = cut_typed o.height ts t.stack typed; tries = refl; requests = ap (λ (rs : List ℕ). cut o.depth rs) beside.requests; pending = λ h. refl })
      still.globals here)

  pub raises_there : (exception : Exception) (s : Shape) (t : Thread) (ts : List TypeName) →
      IsIdle from needed → IsBeside m s from t → HaveTypes ts t.stack → MayRaise shapes ts s → IsSound m shapes needed from (raises exception t)
  raises_there exception s t ts idle beside typed may =
      subst (λ (os : List Opened). IsSound m shapes needed from (raises_in exception t os)) (sym beside.tries)
      (raises_known exception s t ts s.tries idle beside typed may)

  -- ---- values

  pub gives_there : (s : Shape) (t : Thread) (u : TypeName) (below : List TypeName) (given : Given) (stack : List Value) → IsIdle from needed →
      Leads shapes (t.address + 1) (record s { stack = u ∷ below }) → MayRaise shapes s.stack s → IsBeside m s from t → HaveTypes s.stack t.stack → IfOk given (HasType u) → HaveTypes below stack →
      IsSound m shapes needed from (gives given stack t)
  gives_there s t u below (Ok v) stack idle leads may beside whole fits typed = jumps_there s t (t.address + 1) (u ∷ below) (v ∷ stack) leads beside (fits, typed)
  gives_there s t u below (Err exception) stack idle leads may beside whole fits typed = raises_there exception s t s.stack idle beside whole may

  -- what an action was given comes on the stack
  answered_there : (below : List TypeName) (given : Result (List Value) Exception) (s : Shape) (t : Thread) → IsIdle from needed →
      Leads shapes (t.address + 1) (record s { stack = pushed needed below }) → MayRaise shapes below s → IsBeside m s from t → HaveTypes below t.stack → IfOk given (HaveTypes needed) →
      IsSound m shapes needed from (answered given (λ it. it) t)
  answered_there below (Ok vs) s t idle leads may beside typed fits =
      jumps_there s t (t.address + 1) (pushed needed below) (reverse vs ++ t.stack) leads beside (joined (reverse needed) below (reverse vs) t.stack (turned needed vs fits) typed)
  answered_there below (Err exception) s t idle leads may beside typed fits = raises_there exception s t below idle beside typed may

  -- an action, on what is left of the stack; behind it these requests are open, whatever it is given
  pub asks_there : (below : List TypeName) (action : Action) (requests : List ℕ) (stack : List Value) (s : Shape) (t : Thread) → IsAction m requests action → HasOpen from t.moment.actions t.moment.answers requests →
      ((given : Result (List Value) Exception) → open_after action given requests ≡ t.requests) → (from.moment.answers ≡ [] → wanted_types m.ops (wanted_by action) ≡ needed) → from.moment.answers ≡ t.moment.answers →
      Leads shapes (t.address + 1) (record s { stack = pushed needed below }) → MayRaise shapes below s → IsKnown m s.locals t.moment → t.tries ≡ s.tries → t.requests ≡ s.requests →
      (IsTrue s.pending → IsTrue (is_some t.pending)) → HaveTypes below stack → FirstFits needed t.moment.answers →
      IsSound m shapes needed from (asks action stack t (λ it. it))
  asks_there below action requests stack s t is unclosed further want same leads may known tries are pending typed fits =
      acts_known s.locals t.moment action requests t.moment.answers (λ given now. answered given (λ it. it) (record t { moment = now; stack = stack }))
      is unclosed want same known.globals known.own known.answers fits
      (λ given now idle still here fit.
      answered_there below given s (record t { moment = now; stack = stack }) idle leads may
      (record { known = still; unclosed = subst (λ (rs : List ℕ). HasOpen from now.actions now.answers rs) (further given) here; tries = tries; requests = are; pending = pending }) typed fit)

  -- and a request more is open
  accepted_there : (below : List TypeName) (link : Value) (op : ℕ) (given : Result (List Value) Exception) (s : Shape) (t : Thread) → IsIdle from needed →
      Leads shapes (t.address + 1) (record s { stack = pushed needed below; requests = op ∷ s.requests }) → MayRaise shapes below s → IsKnown m s.locals t.moment →
      HasOpen from t.moment.actions t.moment.answers (open_after (Accept link op) given t.requests) → t.tries ≡ s.tries → t.requests ≡ s.requests → (IsTrue s.pending → IsTrue (is_some t.pending)) →
      HaveTypes below t.stack → IfOk given (HaveTypes needed) → IsSound m shapes needed from (answered given (λ it. record it { requests = op ∷ it.requests }) t)
  accepted_there below link op (Ok vs) s t idle leads may known unclosed tries are pending typed fits =
      jumps_there (record s { requests = op ∷ s.requests }) (record t { requests = op ∷ t.requests }) (t.address + 1) (pushed needed below) (reverse vs ++ t.stack) leads
      (record { known = known; unclosed = unclosed; tries = tries; requests = ap (λ (rs : List ℕ). op ∷ rs) are; pending = pending })
      (joined (reverse needed) below (reverse vs) t.stack (turned needed vs fits) typed)
  accepted_there below link op (Err exception) s t idle leads may known unclosed tries are pending typed fits =
      raises_there exception s t below idle (record { known = known; unclosed = unclosed; tries = tries; requests = are; pending = pending }) typed may

  pub accepts_there : (below : List TypeName) (link : Value) (op : ℕ) (stack : List Value) (s : Shape) (t : Thread) → IsAction m t.requests (Accept link op) →
      (from.moment.answers ≡ [] → wanted_types m.ops (wanted_by (Accept link op)) ≡ needed) → from.moment.answers ≡ t.moment.answers →
      Leads shapes (t.address + 1) (record s { stack = pushed needed below; requests = op ∷ s.requests }) → MayRaise shapes below s → IsBeside m s from t → HaveTypes below stack → FirstFits needed t.moment.answers →
      IsSound m shapes needed from (asks (Accept link op) stack t (λ it. record it { requests = op ∷ it.requests }))
  accepts_there below link op stack s t is want same leads may beside typed fits =
      acts_known s.locals t.moment (Accept link op) t.requests t.moment.answers (λ given now. answered given (λ it. record it { requests = op ∷ it.requests }) (record t { moment = now; stack = stack }))
      is beside.unclosed want same beside.known.globals beside.known.own beside.known.answers fits
      (λ given now idle still here fit.
      accepted_there below link op given s (record t { moment = now; stack = stack }) idle leads may still here beside.tries beside.requests beside.pending typed fit)

  -- an await that found false tries again
  tries_there : (address : ℕ) (s : Shape) (t : Thread) (given : Result (List Value) Exception) (ts : List TypeName) → IsIdle from needed →
      Leads shapes address (record s { stack = ts }) → MayRaise shapes ts s → IsBeside m s from t → HaveTypes ts t.stack → IsSound m shapes needed from (tries_again address given t)
  tries_there address s t (Ok vs) ts idle leads may beside typed = jumps_there s t address ts t.stack leads beside typed
  tries_there address s t (Err exception) ts idle leads may beside typed = raises_there exception s t ts idle beside typed may

  pub awaits_there : (address : ℕ) (s : Shape) (t : Thread) (ts : List TypeName) (stack : List Value) → (from.moment.answers ≡ [] → [] ≡ needed) → from.moment.answers ≡ t.moment.answers →
      Leads shapes address (record s { stack = ts }) → MayRaise shapes ts s → IsBeside m s from t → HaveTypes ts stack → FirstFits needed t.moment.answers →
      IsSound m shapes needed from (with_outcome t.moment Await (λ given now. tries_again address given (record t { moment = now; stack = stack })))
  awaits_there address s t ts stack want same leads may beside typed fits =
      acts_known s.locals t.moment Await t.requests t.moment.answers (λ given now. tries_again address given (record t { moment = now; stack = stack }))
      tt beside.unclosed want same beside.known.globals beside.known.own beside.known.answers fits
      (λ given now idle still here fit.
      tries_there address s (record t { moment = now; stack = stack }) given ts idle leads may
      (record { known = still; unclosed = here; tries = beside.tries; requests = beside.requests; pending = beside.pending }) typed)
