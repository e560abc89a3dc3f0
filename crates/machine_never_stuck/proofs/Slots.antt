-- Instructions on variables.
use Rattle.std.proofs.Common.{◌≡◌, ℕ, ℤ, ◌+◌, List, [], ◌∷◌, length, Option, Some, None, Result, Ok, Err, IfOk, slice_get, slice_set, sym, subst, lt-ltb, ltb, refl}
use Rattle.std.proofs.lemmas.Option.{slice_get_within}
use Rattle.lynx_tree.specs.declared.declaration.TypeName.{TypeName}
use Rattle.lynx_tree.specs.declared.declaration.TypeName.TheVariants as types
use Rattle.typing_rules.specs.declared.exception.Exception.{Exception}
use Rattle.lynx_meaning.specs.Code.{Thread, Kind, Global, Local, goes, loads, loads_member, puts, stores, stores_member, variables, with_variables}
use Rattle.lynx_meaning.specs.Values.{Value, Int, Row, HasType, member, with_member, HaveTypes}
use Rattle.code_shapes.specs.Shapes.{ModuleTypes, Shape, Shapes, Leads, Loads, LoadsMember, MayRaise, Stores, StoresMember}
use Rattle.machine_never_stuck.specs.Sound.{IsSound}
use Rattle.machine_never_stuck.proofs.Numbers.{member_typed, with_member_typed}
use Rattle.machine_never_stuck.proofs.Operands.{where_enough}
use Rattle.machine_never_stuck.proofs.Pairs.{is_found, is_stored}
use Rattle.machine_never_stuck.proofs.Steps.{IsBeside, gives_there, jumps_there, raises_there}

-- the types of the variables of a kind
abbrev pub kept : Kind → ModuleTypes → Shape → List TypeName
kept Global m s = m.globals
kept Local m s = s.locals

variables_typed : (kind : Kind) (m : ModuleTypes) (s : Shape) (from t : Thread) → IsBeside m s from t → HaveTypes (kept kind m s) (variables kind t)
variables_typed Global m s from t beside = beside.known.globals
variables_typed Local m s from t beside = beside.known.own

module _ (m : ModuleTypes) (shapes : Shapes) (from : Thread) where
  goes_with : (kind : Kind) (s : Shape) (t : Thread) (vs : List Value) (ts : List TypeName) (stack : List Value) → Leads shapes (t.address + 1) (record s { stack = ts }) →
      IsBeside m s from t → HaveTypes (kept kind m s) vs → HaveTypes ts stack → IsSound m shapes [] from (goes stack (with_variables kind vs t))
  goes_with Global s t vs ts stack leads beside typed below =
      jumps_there m shapes [] from s (with_variables Global vs t) (t.address + 1) ts stack leads
      (record { known = record { globals = typed; own = beside.known.own; answers = beside.known.answers }; unclosed = beside.unclosed; tries = beside.tries; requests = beside.requests; pending = beside.pending }) below
  goes_with Local s t vs ts stack leads beside typed below =
      jumps_there m shapes [] from s (with_variables Local vs t) (t.address + 1) ts stack leads
      (record { known = record { globals = beside.known.globals; own = typed; answers = beside.known.answers }; unclosed = beside.unclosed; tries = beside.tries; requests = beside.requests; pending = beside.pending }) below

  -- ---- whole variables

  pub loads_there : (s : Shape) (t : Thread) (kind : Kind) (slot : ℕ) (o : Option TypeName) → slice_get (kept kind m s) slot ≡ o →
      Loads shapes t.address s o → IsBeside m s from t → HaveTypes s.stack t.stack → IsSound m shapes [] from (loads (slice_get (variables kind t) slot) t)
  loads_there s t kind slot None e obeys beside typed = absurd obeys
  loads_there s t kind slot (Some u) e obeys beside typed =
      let found = is_found (kept kind m s) (variables kind t) slot u (variables_typed kind m s from t beside) e in
      subst (λ (v : Option Value). IsSound m shapes [] from (loads v t)) (sym found.1) (jumps_there m shapes [] from s t (t.address + 1) (u ∷ s.stack) (found.0 ∷ t.stack) obeys beside (found.2, typed))

  top_stored : (s : Shape) (t : Thread) (kind : Kind) (slot : ℕ) (u : TypeName) (ts : List TypeName) (stack : List Value) → slice_get (kept kind m s) slot ≡ Some u →
      Leads shapes (t.address + 1) (record s { stack = ts }) → IsBeside m s from t → HaveTypes (u ∷ ts) stack → IsSound m shapes [] from (stores kind slot stack t)
  top_stored s t kind slot u ts [] e leads beside typed = absurd typed
  top_stored s t kind slot u ts (v ∷ rest) e leads beside typed =
      let known = variables_typed kind m s from t beside in
      let found = is_found (kept kind m s) (variables kind t) slot u known e in
      where_enough m shapes [] from (ltb slot (length (variables kind t))) (goes rest (with_variables kind (slice_set (variables kind t) slot v) t))
      (lt-ltb slot (length (variables kind t)) (slice_get_within (variables kind t) slot found.0 found.1))
      (goes_with kind s t (slice_set (variables kind t) slot v) ts rest leads beside (is_stored (kept kind m s) (variables kind t) slot u v known e typed.0) typed.1)

  pub stores_there : (s : Shape) (t : Thread) (kind : Kind) (slot : ℕ) (o : Option TypeName) → slice_get (kept kind m s) slot ≡ o →
      Stores shapes t.address s o → IsBeside m s from t → HaveTypes s.stack t.stack → IsSound m shapes [] from (stores kind slot t.stack t)
  stores_there s t kind slot None e obeys beside typed = absurd obeys
  stores_there s t kind slot (Some u) e obeys beside typed =
      top_stored s t kind slot u obeys.0 t.stack e obeys.2 beside (subst (λ (ts : List TypeName). HaveTypes ts t.stack) obeys.1 typed)

  -- ---- members of rows

  member_loaded : (s : Shape) (t : Thread) (n : ℤ) (v : Value) (ts : List TypeName) (stack : List Value) → HasType (types.Row n) v →
      Leads shapes (t.address + 1) (record s { stack = types.Int ∷ ts }) → MayRaise shapes s.stack s → IsBeside m s from t → HaveTypes s.stack t.stack → HaveTypes (types.Int ∷ ts) stack →
      IsSound m shapes [] from (loads_member (Some v) stack t)
  member_loaded s t n (Row row) ts [] of leads may beside whole typed = absurd typed
  member_loaded s t n (Row row) ts (Int index ∷ rest) of leads may beside whole typed =
      gives_there m shapes [] from s t types.Int ts (member row index) rest (λ h. refl) leads may beside whole (member_typed n row index of) typed.1
  member_loaded s t n (Row row) ts (_ ∷ rest) of leads may beside whole typed = absurd typed.0
  member_loaded s t n _ ts stack of leads may beside whole typed = absurd of

  pub loads_member_there : (s : Shape) (t : Thread) (kind : Kind) (slot : ℕ) (o : Option TypeName) → slice_get (kept kind m s) slot ≡ o →
      LoadsMember shapes t.address s o → IsBeside m s from t → HaveTypes s.stack t.stack → IsSound m shapes [] from (loads_member (slice_get (variables kind t) slot) t.stack t)
  loads_member_there s t kind slot (Some (types.Row n)) e obeys beside typed =
      let found = is_found (kept kind m s) (variables kind t) slot (types.Row n) (variables_typed kind m s from t beside) e in
      subst (λ (v : Option Value). IsSound m shapes [] from (loads_member v t.stack t)) (sym found.1)
      (member_loaded s t n found.0 obeys.1.0 t.stack found.2 obeys.1.2.0 obeys.1.2.1 beside typed (subst (λ (ts : List TypeName). HaveTypes ts t.stack) obeys.1.1 typed))
  loads_member_there s t kind slot _ e obeys beside typed = absurd obeys.0

  puts_there : (s : Shape) (t : Thread) (kind : Kind) (slot : ℕ) (n : ℤ) (ts : List TypeName) (changed : Result (List ℤ) Exception) (stack : List Value) →
      slice_get (kept kind m s) slot ≡ Some (types.Row n) → Leads shapes (t.address + 1) (record s { stack = ts }) → MayRaise shapes s.stack s → IsBeside m s from t → HaveTypes s.stack t.stack → HaveTypes ts stack →
      IfOk changed (λ row. HasType (types.Row n) (Row row)) → IsSound m shapes [] from (puts kind slot changed stack t)
  puts_there s t kind slot n ts (Ok row) stack e leads may beside whole typed fits =
      goes_with kind s t (slice_set (variables kind t) slot (Row row)) ts stack leads beside
      (is_stored (kept kind m s) (variables kind t) slot (types.Row n) (Row row) (variables_typed kind m s from t beside) e fits) typed
  puts_there s t kind slot n ts (Err exception) stack e leads may beside whole typed fits = raises_there m shapes [] from exception s t s.stack (λ h. refl) beside whole may

  member_stored : (s : Shape) (t : Thread) (kind : Kind) (slot : ℕ) (n : ℤ) (v : Value) (ts : List TypeName) (stack : List Value) → HasType (types.Row n) v →
      slice_get (kept kind m s) slot ≡ Some (types.Row n) → Leads shapes (t.address + 1) (record s { stack = ts }) → MayRaise shapes s.stack s → IsBeside m s from t → HaveTypes s.stack t.stack →
      HaveTypes (types.Int ∷ types.Int ∷ ts) stack → IsSound m shapes [] from (stores_member kind slot (Some v) stack t)
  member_stored s t kind slot n (Row row) ts [] of e leads may beside whole typed = absurd typed
  member_stored s t kind slot n (Row row) ts (w ∷ []) of e leads may beside whole typed = absurd typed.1
  member_stored s t kind slot n (Row row) ts (Int number ∷ Int index ∷ rest) of e leads may beside whole typed =
      puts_there s t kind slot n ts (with_member row index number) rest e leads may beside whole typed.1.1 (with_member_typed n row index number of typed.0)
  member_stored s t kind slot n (Row row) ts (Int number ∷ _ ∷ rest) of e leads may beside whole typed = absurd typed.1.0
  member_stored s t kind slot n (Row row) ts (_ ∷ w ∷ rest) of e leads may beside whole typed = absurd typed.0
  member_stored s t kind slot n _ ts stack of e leads may beside whole typed = absurd of

  pub stores_member_there : (s : Shape) (t : Thread) (kind : Kind) (slot : ℕ) (o : Option TypeName) → slice_get (kept kind m s) slot ≡ o →
      StoresMember shapes t.address s o → IsBeside m s from t → HaveTypes s.stack t.stack → IsSound m shapes [] from (stores_member kind slot (slice_get (variables kind t) slot) t.stack t)
  stores_member_there s t kind slot (Some (types.Row n)) e obeys beside typed =
      let found = is_found (kept kind m s) (variables kind t) slot (types.Row n) (variables_typed kind m s from t beside) e in
      subst (λ (v : Option Value). IsSound m shapes [] from (stores_member kind slot v t.stack t)) (sym found.1)
      (member_stored s t kind slot n found.0 obeys.1.0 t.stack found.2 e obeys.1.2.0 obeys.1.2.1 beside typed (subst (λ (ts : List TypeName). HaveTypes ts t.stack) obeys.1.1 typed))
  stores_member_there s t kind slot _ e obeys beside typed = absurd obeys.0
