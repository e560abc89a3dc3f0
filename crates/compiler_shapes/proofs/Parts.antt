-- What is known of a part of a module, and what an exception finds there.
use Rattle.typing_rules.specs.Rules.{Request, Outside, Asks}
use Rattle.std.proofs.Common.{◌≡◌, ◌≤◌, ℕ, suc, ◌-◌, ap, drop, List, [], ◌∷◌, length, Bool, true, Some, slice_get, refl, sym, subst, arith, ◌<◌}
use Rattle.std.proofs.lemmas.List.{drop_all}
use Rattle.lynx_tree.specs.declared.declaration.TypeName.{TypeName}
use Rattle.typing_rules.specs.Names.{Scope, arguments_of, results_of, type_of_variable, is_entry}
use Rattle.lynx_code.specs.Generation.{Names}
use Rattle.lynx_code.specs.declared.instruction.Instruction.{Instruction}
use Rattle.lynx_meaning.specs.Code.{Opened, cut}
use Rattle.compiler_expressions.specs.Setting.{type_at}
use Rattle.code_shapes.specs.Shapes.{ModuleTypes, Shape, Shapes, Leads, MayRaise, RaisesIn}
use Rattle.lynx_meaning.specs.Needs.{OpTypes}
use Rattle.compiler_shapes.proofs.Walks.{Walks}

-- a part of a module: what its names mean by the typing rules, and where they stand
pub record Part : Type 0 where
  pub whole : ModuleTypes
  -- the types of its variables
  pub locals : List TypeName
  pub scope : Scope
  pub names : Names
  pub variable : (name : List ℕ) (t : TypeName) → type_of_variable (scope name) ≡ Some t → type_at whole.globals locals (names.slot name) ≡ Some t
  pub operation : (name : List ℕ) (arguments : List TypeName) → arguments_of (scope name) ≡ Some arguments →
      (op : OpTypes) × (slice_get whole.ops (names.op name) ≡ Some op) × (op.arguments ≡ arguments) × (results_of (scope name) ≡ Some op.results)
  pub entry : (name : List ℕ) → is_entry (scope name) ≡ true → names.entry name < whole.entries

-- what is open around a statement, and whether an exception is pending
pub record Open : Type 0 where
  pub tries : List Opened
  pub requests : List ℕ
  pub pending : Bool

-- a thread there, with these operands
abbrev pub on : Part → Open → List TypeName → Shape
on c o ts = record { locals = c.locals; stack = ts; tries = o.tries; requests = o.requests; pending = o.pending }

-- what a `reply` is for: the results that it needs are those of the innermost open request's operation
abbrev pub IsFor : ModuleTypes → List ℕ → Request → Type 0
IsFor m requests Outside = Unit {0}
IsFor m requests (Asks results) = (op : ℕ) × (others : List ℕ) × (o : OpTypes) × (requests ≡ op ∷ others) × (slice_get m.ops op ≡ Some o) × (results ≡ Some o.results)

-- the request that the typing rules ask of, where these are open
pub record Asked (m : ModuleTypes) (requests : List ℕ) : Type 0 where
  pub request : Request
  pub meant : IsFor m requests request

-- the handlers of the innermost open try are there; a try is opened where no operand stands and no more requests are open
abbrev pub Catches : List TypeName → List ℕ → List Opened → Shapes → Type 0
Catches locals requests [] shapes = Unit {0}
Catches locals requests (o ∷ os) shapes =
    (o.height ≡ 0) × (o.depth ≤ length requests) × Leads shapes o.handlers (record { locals = locals; stack = []; tries = os; requests = cut o.depth requests; pending = true })

abbrev pub Caught : Part → Open → Shapes → Type 0
Caught c o shapes = Catches c.locals o.requests o.tries shapes

-- code on operands of these types, behind which are operands of those
abbrev pub Passes : Part → Open → ℕ → List Instruction → List TypeName → List TypeName → Type 0
Passes c o at is ts us = Walks c.whole (Caught c o) at is (on c o ts) (on c o us)

raises_in : (shapes : Shapes) (s : Shape) (stack : List TypeName) (os : List Opened) → Catches s.locals s.requests os shapes → RaisesIn shapes stack s os
raises_in shapes s stack [] h = tt
raises_in shapes s stack (o ∷ os) h =
    let low : o.height ≤ length stack = omega (arith, h.0) in
    let all : length stack ≤ length stack - o.height = omega (arith, h.0) in
    (low, subst (λ (ts : List TypeName). Leads shapes o.handlers (record { locals = s.locals; stack = ts; tries = os; requests = cut o.depth s.requests; pending = true })) (sym (drop_all (length stack - o.height) stack all)) h.2)

-- an exception may be raised on any stack
pub may_raise : (shapes : Shapes) (s : Shape) (stack : List TypeName) → Catches s.locals s.requests s.tries shapes → MayRaise shapes stack s
may_raise shapes s stack h = raises_in shapes s stack s.tries h

-- a request more is open
pub catches_inside : (shapes : Shapes) (locals : List TypeName) (op : ℕ) (requests : List ℕ) (os : List Opened) → Catches locals requests os shapes → Catches locals (op ∷ requests) os shapes
catches_inside shapes locals op requests [] h = tt
catches_inside shapes locals op requests (o ∷ os) h =
    let inner : o.depth ≤ length requests = h.1 in
    let outer : o.depth ≤ length (op ∷ requests) = omega (arith, inner) in
    let more : length (op ∷ requests) - o.depth ≡ suc (length requests - o.depth) = omega (arith, inner) in
    (h.0, outer, subst (λ (rs : List ℕ). Leads shapes o.handlers (record { locals = locals; stack = []; tries = os; requests = rs; pending = true })) (sym (ap (λ (k : ℕ). drop k (op ∷ requests)) more)) h.2)

-- among handlers
abbrev pub raised : Open → Open
raised o = record o { pending = true }

-- a pending exception need not be looked at
pub leads_raised : (shapes : Shapes) (c : Part) (o : Open) (at : ℕ) (ts : List TypeName) → Leads shapes at (on c o ts) → Leads shapes at (on c (raised o) ts)
leads_raised shapes c o at ts leads =
    let within = leads.2 in
    (leads.0, leads.1, record { locals = within.locals; stack = within.stack; tries = within.tries; requests = within.requests; pending = λ h. refl })
