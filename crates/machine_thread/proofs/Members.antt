-- A member of a row that is not there.
use Rattle.std.proofs.Common.{◌≡◌, ℕ, ℤ, zero, suc, List, [], ◌∷◌, false, Option, Some, Result, Ok, Err, slice_get, slice_set, refl, ap, sym, ◌∙◌}
use Rattle.typing_rules.specs.declared.exception.Exception.{Exception}
use Rattle.lynx_meaning.specs.Code.{Kind, Global, Local, puts, raises, stores_member}
use Rattle.lynx_meaning.specs.Values.{Value, Int, Truth, Text, Row, Link, with_member}
use Rattle.machine_stack.specs.Stacks.{IsMemberSet, IsRowSet}
use Rattle.machine_turns.specs.Threads.{Standing, in_turn, made}

kept : (vs : List Value) (k : ℕ) (v : Value) → slice_get vs k ≡ Some v → slice_set vs k v ≡ vs
kept [] k v is = refl
kept (w ∷ vs) zero v is = let same : v ≡ w = cc in ap (λ (u : Value). u ∷ vs) same
kept (w ∷ vs) (suc k) v is = ap (λ (us : List Value). w ∷ us) (kept vs k v is)

-- a row that could not be changed
unset : (X : Type 0) (index number : ℤ) (before after : Value) (x : Exception) → IsRowSet {X = X} index number before after (Err x) → (row : List ℤ) × (before ≡ Row row) × (after ≡ before) × (with_member row index number ≡ Err x)
unset X index number (Row b) (Row a) x is = (b, refl, ap (λ (ns : List ℤ). Row ns) is.1, sym is.0)
unset X index number (Row b) (Int a) x is = absurd is
unset X index number (Row b) (Truth a) x is = absurd is
unset X index number (Row b) (Text a) x is = absurd is
unset X index number (Row b) (Link a) x is = absurd is
unset X index number (Int b) after x is = absurd is
unset X index number (Truth b) after x is = absurd is
unset X index number (Text b) after x is = absurd is
unset X index number (Link b) after x is = absurd is

-- variables of which a row could not be changed: they are as before, and the row has no such member
pub unchanged : {X : Type 0} (slot : ℕ) (index number : ℤ) (vs now : List Value) (r : Result X Exception) (x : Exception) → r ≡ Err x → IsMemberSet slot index number vs now r →
    (row : List ℤ) × (now ≡ vs) × (slice_get vs slot ≡ Some (Row row)) × (with_member row index number ≡ Err x)
unchanged slot index number vs now (Ok done) x failed set = cc
unchanged {X} slot index number vs now (Err y) x failed set =
    let same : y ≡ x = cc in
    let u = unset X index number set.0 set.1 y set.4 in (
      u.0,
      set.3 ∙ ap (λ (v : Value). slice_set vs slot v) u.2 ∙ kept vs slot set.0 set.2,
      set.2 ∙ ap (λ (v : Value). Some v) u.1,
      u.3 ∙ ap (λ (z : Exception). Err z) same,
    )

-- the instruction raises the exception
raised : (kind : Kind) (slot : ℕ) (index number : ℤ) (globals below : List Value) (s : Standing) (o : Option Value) (row : List ℤ) (x : Exception) →
    o ≡ Some (Row row) → s.stack ≡ Int number ∷ Int index ∷ below → with_member row index number ≡ Err x →
    made false s (stores_member kind slot o s.stack (in_turn globals s)) ≡ made false s (raises x (in_turn globals s))
raised kind slot index number globals below s o row x there top failed =
    ap (λ (v : Option Value). made false s (stores_member kind slot v s.stack (in_turn globals s))) there
    ∙ ap (λ (stack : List Value). made false s (stores_member kind slot (Some (Row row)) stack (in_turn globals s))) top
    ∙ ap (λ (r : Result (List ℤ) Exception). made false s (puts kind slot r below (in_turn globals s))) failed

-- ---- a thread that took two operands, and has them back on its stack

module _ (slot : ℕ) (index number : ℤ) (s once_popped popped once_pushed pushed : Standing) (row : List ℤ) (x : Exception) (first : s ≡ record once_popped { stack = Int number ∷ once_popped.stack })
    (second : once_popped ≡ record popped { stack = Int index ∷ popped.stack }) (twice : pushed ≡ record once_pushed { stack = Int number ∷ once_pushed.stack }) (failed : with_member row index number ≡ Err x) where
  back : once_pushed ≡ record popped { stack = Int index ∷ popped.stack } → pushed ≡ s
  back once = twice ∙ ap (λ (u : Standing). record u { stack = Int number ∷ u.stack }) (once ∙ sym second) ∙ sym first

  on_top : s.stack ≡ Int number ∷ Int index ∷ popped.stack
  on_top = ap (λ (u : Standing). u.stack) first ∙ ap (λ (u : Standing). Int number ∷ u.stack) second

  -- the row is a variable of the module
  pub global_refused : (globals now : List Value) → once_pushed ≡ record popped { stack = Int index ∷ popped.stack } → now ≡ globals → slice_get globals slot ≡ Some (Row row) →
      made false pushed (raises x (in_turn now pushed)) ≡ made false s (stores_member Global slot (slice_get globals slot) s.stack (in_turn globals s))
  global_refused globals now once same there =
      ap (λ (u : Standing). made false u (raises x (in_turn now u))) (back once)
      ∙ ap (λ (vs : List Value). made false s (raises x (in_turn vs s))) same
      ∙ sym (raised Global slot index number globals popped.stack s (slice_get globals slot) row x there on_top failed)

  -- it is one of the thread's, which were taken out meanwhile
  pub local_refused : (globals now : List Value) (seen : Standing) → seen ≡ popped → now ≡ seen.locals → once_pushed ≡ record seen { locals = now; stack = Int index ∷ seen.stack } →
      slice_get seen.locals slot ≡ Some (Row row) →
      made false pushed (raises x (in_turn globals pushed)) ≡ made false s (stores_member Local slot (slice_get s.locals slot) s.stack (in_turn globals s))
  local_refused globals now seen view same once there =
      let put_back : once_pushed ≡ record popped { stack = Int index ∷ popped.stack } =
      once ∙ ap (λ (vs : List Value). record seen { locals = vs; stack = Int index ∷ seen.stack }) same ∙ ap (λ (u : Standing). record u { stack = Int index ∷ u.stack }) view in
      let locals : s.locals ≡ seen.locals = ap (λ (u : Standing). u.locals) first ∙ ap (λ (u : Standing). u.locals) second ∙ sym (ap (λ (u : Standing). u.locals) view) in
      ap (λ (u : Standing). made false u (raises x (in_turn globals u))) (back put_back)
      ∙ sym (raised Local slot index number globals popped.stack s (slice_get s.locals slot) row x (ap (λ (vs : List Value). slice_get vs slot) locals ∙ there) on_top failed)
