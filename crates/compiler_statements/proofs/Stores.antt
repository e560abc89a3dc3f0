-- Variables that get values.
use Rattle.std.proofs.Common.{◌≡◌, ℕ, ◌+◌, ℤ, List, [], ◌∷◌, ◌++◌, length, map, Bool, true, Option, Some, Result, Ok, Err, if◌then◌else◌, refl, sym, ap, ◌∙◌, subst, subst₂, slice_set, is_some, lt-ltb, arith}
use Rattle.lynx_tree.specs.declared.declaration.TypeName.{TypeName}
use Rattle.lynx_tree.specs.declared.declaration.TypeName.TheVariants as types
use Rattle.typing_rules.specs.Names.{type_of_variable}
use Rattle.typing_rules.specs.Rules.{Fault, is_variable, variable_is_link}
use Rattle.typing_rules.specs.Statements.{link_faults, names_faults}
use Rattle.typing_rules.specs.Types.{Held, fits, same_type}
use Rattle.typing_rules.specs.declared.exception.Exception.{Exception}
use Rattle.lynx_code.specs.Generation.{Global, Local, Slot, by_slot, store}
use Rattle.lynx_code.specs.Modules.{ArePairs}
use Rattle.lynx_code.specs.declared.instruction.Instruction.TheVariants as code
use Rattle.lynx_meaning.specs.Code.{Goes, Next, Opened, Thread, goes, puts, step, stores_member, stuck, with_variables}
use Rattle.lynx_meaning.specs.Code as machine
use Rattle.lynx_meaning.specs.Courses.{Moment}
use Rattle.lynx_meaning.specs.Expressions.{value_at, with_value_at}
use Rattle.lynx_meaning.specs.Source.{assigns, assigns_from_last}
use Rattle.lynx_meaning.specs.Values.{Value, Row, int_of, row_of, with_member}
use Rattle.compiler_steps.specs.Steps.{Reaches, StandAt, thread}
use Rattle.compiler_steps.proofs.Reaching.{reaches-none, reaches-on, reaches-step}
use Rattle.compiler_expressions.specs.Kinds.{HaveKinds, IsOf}
use Rattle.compiler_expressions.specs.Setting.{Around, HasKinds, Setting, stands, type_at}
use Rattle.compiler_expressions.proofs.Clean.{both-clean, demand-met, kind-same}
use Rattle.compiler_expressions.proofs.Values.{int-is, kinds-get, kinds-set, kinds-within, row-is}
use Rattle.compiler_expressions.proofs.Variables.{some-of}
use Rattle.compiler_statements.specs.Running.{Body, IsSound}

-- ---- one variable

pub kinds-after : (c : Setting) (slot : Slot) (m : Moment) (t : TypeName) (v : Value) → HasKinds c m.store → type_at c.globals c.locals slot ≡ Some t → IsOf t v → HasKinds c (with_value_at slot v m.store)
kinds-after c (Global k) m t v kinds is of = record { of_globals = kinds-set c.globals m.store.globals k t v kinds.of_globals is of; of_locals = kinds.of_locals }
kinds-after c (Local k) m t v kinds is of = record { of_globals = kinds.of_globals; of_locals = kinds-set c.locals m.store.locals k t v kinds.of_locals is of }

pub store-steps : (c : Setting) (a : Around) (slot : Slot) (t : TypeName) (at : ℕ) (stack : List Value) (v : Value) → HasKinds c a.moment.store → type_at c.globals c.locals slot ≡ Some t
    → step c.program (stands a at (v ∷ stack)) (by_slot code.StoreG code.StoreL slot) ≡ Goes (thread (at + 1) stack a.tries a.requests a.pending (record a.moment { store = with_value_at slot v a.moment.store }))
store-steps c a (Global k) t at stack v kinds is =
    let u = stands a at (v ∷ stack) in
    let vs = a.moment.store.globals in
    ap (λ (b : Bool). if b then goes stack (with_variables machine.Global (slice_set vs k v) u) else stuck) (lt-ltb k (length vs) (kinds-within c.globals vs k t kinds.of_globals is))
store-steps c a (Local k) t at stack v kinds is =
    let u = stands a at (v ∷ stack) in
    let vs = a.moment.store.locals in
    ap (λ (b : Bool). if b then goes stack (with_variables machine.Local (slice_set vs k v) u) else stuck) (lt-ltb k (length vs) (kinds-within c.locals vs k t kinds.of_locals is))

-- ---- a member of a row

row-stored : (kind : machine.Kind) (k : ℕ) (n : ℤ) (r i v : Value) (stack : List Value) (t : Thread) → IsOf (types.Row n) r → IsOf types.Int i → IsOf types.Int v
    → stores_member kind k (Some r) (v ∷ i ∷ stack) t ≡ puts kind k (with_member (row_of r) (int_of i) (int_of v)) stack t
row-stored kind k n r i v stack t h hi hv =
    subst (λ (x : Value). stores_member kind k (Some x) (v ∷ i ∷ stack) t ≡ puts kind k (with_member (row_of x) (int_of i) (int_of v)) stack t) (sym (row-is n r h))
    (subst₂ (λ (x y : Value). stores_member kind k (Some (Row (row_of r))) (y ∷ x ∷ stack) t ≡ puts kind k (with_member (row_of r) (int_of x) (int_of y)) stack t) (sym (int-is i hi)) (sym (int-is v hv)) refl)

-- what comes of it
abbrev pub put : Slot → Result (List ℤ) Exception → List Value → Thread → Next
put (Global k) o stack t = puts machine.Global k o stack t
put (Local k) o stack t = puts machine.Local k o stack t

pub put-steps : (c : Setting) (a : Around) (slot : Slot) (n : ℤ) (at : ℕ) (stack : List Value) (i v : Value) → HasKinds c a.moment.store → type_at c.globals c.locals slot ≡ Some (types.Row n) → IsOf types.Int i → IsOf types.Int v
    → step c.program (stands a at (v ∷ i ∷ stack)) (by_slot code.PutG code.PutL slot) ≡ put slot (with_member (row_of (value_at slot a.moment.store)) (int_of i) (int_of v)) stack (stands a at (v ∷ i ∷ stack))
put-steps c a (Global k) n at stack i v kinds is hi hv =
    let got = kinds-get c.globals a.moment.store.globals k (types.Row n) kinds.of_globals is in
    ap (λ found. stores_member machine.Global k found (v ∷ i ∷ stack) (stands a at (v ∷ i ∷ stack))) got.0 ∙ row-stored machine.Global k n _ i v stack _ got.1 hi hv
put-steps c a (Local k) n at stack i v kinds is hi hv =
    let got = kinds-get c.locals a.moment.store.locals k (types.Row n) kinds.of_locals is in
    ap (λ found. stores_member machine.Local k found (v ∷ i ∷ stack) (stands a at (v ∷ i ∷ stack))) got.0 ∙ row-stored machine.Local k n _ i v stack _ got.1 hi hv

pub put-goes : (c : Setting) (a : Around) (slot : Slot) (at : ℕ) (on stack : List Value) (row : List ℤ) → put slot (Ok row) stack (stands a at on) ≡ Goes (thread (at + 1) stack a.tries a.requests a.pending (record a.moment { store = with_value_at slot (Row row) a.moment.store }))
put-goes c a (Global k) at on stack row = refl
put-goes c a (Local k) at on stack row = refl

pub put-raises : (c : Setting) (a : Around) (slot : Slot) (at : ℕ) (on stack : List Value) (exception : Exception) → put slot (Err exception) stack (stands a at on) ≡ machine.raises exception (stands a at on)
put-raises c a (Global k) at on stack exception = refl
put-raises c a (Local k) at on stack exception = refl

-- ---- several variables

-- a variable that may get the value
abbrev pub MayStore : Setting → List ℕ → Value → Type 0
MayStore c name v = (t : TypeName) × (type_of_variable (c.scope name) ≡ Some t) × IsOf t v

-- a variable of the type
abbrev pub IsVariableOf : Setting → List ℕ → TypeName → Type 0
IsVariableOf c name t = (u : TypeName) × (type_of_variable (c.scope name) ≡ Some u) × (same_type t u ≡ true)

pub may-store : (c : Setting) (xs : List (List ℕ)) (ts : List TypeName) (vs : List Value) → ArePairs (IsVariableOf c) xs ts → HaveKinds ts vs → ArePairs (MayStore c) xs vs
may-store c [] [] [] h k = tt
may-store c [] [] (v ∷ vs) h k = absurd k
may-store c [] (t ∷ ts) vs h k = absurd h
may-store c (x ∷ xs) [] vs h k = absurd h
may-store c (x ∷ xs) (t ∷ ts) [] h k = absurd k
may-store c (x ∷ xs) (t ∷ ts) (v ∷ vs) h k = ((h.0.0, h.0.1, kind-same t h.0.0 v h.0.2 k.0), may-store c xs ts vs h.1 k.1)

-- a name that a rule finds to be a variable whose type fits
pub variable-of : (c : Setting) (name : List ℕ) (t : TypeName) → is_some (type_of_variable (c.scope name)) ≡ true → fits t (type_of_variable (c.scope name)) ≡ true → IsVariableOf c name t
variable-of c name t known fit =
    let found = some-of (type_of_variable (c.scope name)) known in
    (found.0, found.1, subst (λ (h : Held). fits t h ≡ true) found.1 fit)

pub link-variable : (c : Setting) (at : ℕ) (name : List ℕ) → link_faults c.scope at name ≡ [] → IsVariableOf c name types.Link
link-variable c at name clean =
    let parts = both-clean (is_variable at (c.scope name)) (variable_is_link at (type_of_variable (c.scope name))) clean in
    variable-of c name types.Link (demand-met _ _ _ parts.0) (demand-met _ _ _ parts.1)

-- as many names as types, which are variables of these types by a rule that asks for it
pub variables-of : (c : Setting) (rule : TypeName → ℕ → Held → List Fault) → ((t : TypeName) (at : ℕ) (held : Held) → rule t at held ≡ [] → fits t held ≡ true) → (at : ℕ) (xs : List (List ℕ)) (ts : List TypeName) → length xs ≡ length ts
    → names_faults rule c.scope at xs ts ≡ [] → ArePairs (IsVariableOf c) xs ts
variables-of c rule asks at [] [] long clean = tt
variables-of c rule asks at [] (t ∷ ts) long clean = absurd (omega arith)
variables-of c rule asks at (x ∷ xs) [] long clean = absurd (omega arith)
variables-of c rule asks at (x ∷ xs) (t ∷ ts) long clean =
    let parts = both-clean (is_variable at (c.scope x) ++ rule t at (type_of_variable (c.scope x))) (names_faults rule c.scope (at + 2) xs ts) clean in
    let one = both-clean (is_variable at (c.scope x)) (rule t at (type_of_variable (c.scope x))) parts.0 in
    let fewer : length xs ≡ length ts = omega (arith, long) in
    (variable-of c x t (demand-met _ _ _ one.0) (asks t at (type_of_variable (c.scope x)) one.1), variables-of c rule asks (at + 2) xs ts fewer parts.1)

module _ (b : Body) where
  pub assigned-sound : (name : List ℕ) (t : TypeName) (v : Value) (m : Moment) → type_of_variable (b.setting.scope name) ≡ Some t → IsOf t v → IsSound b m → IsSound b (assigns b.setting.names name v m)
  assigned-sound name t v m is of sound = record { kinds = kinds-after b.setting (b.setting.names.slot name) m t v sound.kinds (b.setting.variable name t is) of; used = sound.used }

  -- values on the stack, which the variables get
  pub stores-run : (tries : List Opened) (requests : List ℕ) (at : ℕ) (pending : Option Exception) (xs : List (List ℕ)) (vs : List Value) (m : Moment) → ArePairs (MayStore b.setting) xs vs → StandAt b.setting.program.instructions at (map (store b.setting.names) xs) → IsSound b m
      → IsSound b (assigns_from_last b.setting.names xs vs m)
      × Reaches b.setting.program (thread at vs tries requests pending m) (Goes (thread (at + length (map (store b.setting.names) xs)) [] tries requests pending (assigns_from_last b.setting.names xs vs m)))
  stores-run tries requests at pending [] [] m fit has sound =
      let same : at ≡ at + 0 = omega arith in
      (sound, subst (λ (n : ℕ). Reaches b.setting.program (thread at [] tries requests pending m) (Goes (thread n [] tries requests pending m))) same (reaches-none b.setting.program _))
  stores-run tries requests at pending [] (v ∷ vs) m fit has sound = absurd fit
  stores-run tries requests at pending (x ∷ xs) [] m fit has sound = absurd fit
  stores-run tries requests at pending (x ∷ xs) (v ∷ vs) m fit has sound =
      let now = assigns b.setting.names x v m in
      let a : Around = record { tries = tries; requests = requests; pending = pending; moment = m } in
      let t = fit.0.0 in
      let first = reaches-step b.setting.program (thread at (v ∷ vs) tries requests pending m) (store b.setting.names x) _ has.0
      (store-steps b.setting a (b.setting.names.slot x) t at vs v sound.kinds (b.setting.variable x t fit.0.1)) in
      let next = stores-run tries requests (at + 1) pending xs vs now fit.1 has.1 (assigned-sound x t v m fit.0.1 fit.0.2 sound) in
      let end : at + 1 + length (map (store b.setting.names) xs) ≡ at + length (map (store b.setting.names) (x ∷ xs)) = omega arith in (
        next.0,
        subst (λ (n : ℕ). Reaches b.setting.program (thread at (v ∷ vs) tries requests pending m) (Goes (thread n [] tries requests pending (assigns_from_last b.setting.names xs vs now)))) end
            (reaches-on b.setting.program _ (thread (at + 1) vs tries requests pending now) _ first next.1),
      )
