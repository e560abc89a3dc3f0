-- Instructions on operands and variables.
use Rattle.std.proofs.Common.{◌≡◌, ℕ, ℤ, ◌+◌, List, [], ◌∷◌, ◌++◌, true, not, ◌&&◌, Option, Some, refl, sym, ap, subst, ◌∙◌}
use Rattle.std.proofs.lemmas.Bool.{and_parts}
use Rattle.std.proofs.lemmas.Bool.Decides.{Decides-int_eq}
use Rattle.lynx_lexer.specs.declared.sign.Sign.{Sign}
use Rattle.lynx_lexer.specs.declared.sign.Sign.TheVariants as signs
use Rattle.lynx_tree.specs.declared.declaration.TypeName.{TypeName}
use Rattle.lynx_tree.specs.declared.declaration.TypeName.TheVariants as types
use Rattle.lynx_tree.specs.declared.expression.TermSign.{TermSign}
use Rattle.lynx_tree.specs.declared.expression.TermSign.TheVariants as terms
use Rattle.typing_rules.specs.Expressions.{relation_faults}
use Rattle.typing_rules.specs.Names.{type_of_variable}
use Rattle.typing_rules.specs.Rules.{operand_is_int}
use Rattle.typing_rules.specs.Types.{agree, is_row_or_link, same_type}
use Rattle.lynx_code.specs.Generation.{Global, Local, Slot, by_slot, load, load_member, relation, store, store_member, sum_operator, term_operator}
use Rattle.lynx_code.specs.declared.instruction.Instruction.{Instruction}
use Rattle.lynx_code.specs.declared.instruction.Instruction.TheVariants as code
use Rattle.lynx_code.specs.declared.instruction.Literal.{Literal}
use Rattle.compiler_expressions.specs.Setting.{type_at}
use Rattle.compiler_expressions.proofs.Clean.{both-clean, demand-met, no-false}
use Rattle.code_shapes.specs.Shapes.{ModuleTypes, Shape, Shapes, Computes, IsPlain, Leads, Loads, LoadsMember, Obeys, Stores, StoresMember, literal_type}
use Rattle.compiler_shapes.proofs.Parts.{Caught, Open, Part, Passes, may_raise, on}
use Rattle.compiler_shapes.proofs.Walks.{one}

-- ---- types

pub same_is : (t u : TypeName) → same_type t u ≡ true → t ≡ u
same_is types.Int types.Int same = refl
same_is types.Bool types.Bool same = refl
same_is types.Text types.Text same = refl
same_is types.Link types.Link same = refl
same_is (types.Row n) (types.Row k) same = ap (λ (l : ℤ). types.Row l) ((Decides-int_eq n k).0 same)
same_is types.Int _ same = no-false same
same_is types.Bool _ same = no-false same
same_is types.Text _ same = no-false same
same_is types.Link _ same = no-false same
same_is (types.Row n) _ same = no-false same

pub plain_type : (t : TypeName) → not (is_row_or_link (Some t)) ≡ true → IsPlain t
plain_type types.Int plain = tt
plain_type types.Bool plain = tt
plain_type types.Text plain = tt
plain_type types.Link plain = no-false plain
plain_type (types.Row n) plain = no-false plain

-- ---- operators

pub sum_obeys : (m : ModuleTypes) (shapes : Shapes) (at : ℕ) (s : Shape) (sign : Sign) → Computes shapes at s → Obeys m shapes at s (sum_operator sign)
sum_obeys m shapes at s signs.Plus computes = computes
sum_obeys m shapes at s _ computes = computes

pub term_obeys : (m : ModuleTypes) (shapes : Shapes) (at : ℕ) (s : Shape) (sign : TermSign) → Computes shapes at s → Obeys m shapes at s (term_operator sign)
term_obeys m shapes at s terms.Times computes = computes
term_obeys m shapes at s terms.Over computes = computes
term_obeys m shapes at s terms.Mod computes = computes

-- two ints by the rule that asks for them
two_ints : (at second_at : ℕ) (t u : TypeName) → operand_is_int at (Some t) ++ operand_is_int second_at (Some u) ≡ [] → (types.Int ≡ t) × (types.Int ≡ u)
two_ints at second_at t u clean =
    let both = both-clean (operand_is_int at (Some t)) (operand_is_int second_at (Some u)) clean in
    (same_is types.Int t (demand-met _ _ _ both.0), same_is types.Int u (demand-met _ _ _ both.1))

all_ints : (t u : TypeName) (ts : List TypeName) → types.Int ≡ t → types.Int ≡ u → u ∷ t ∷ ts ≡ types.Int ∷ types.Int ∷ ts
all_ints t u ts first second = ap (λ (w : TypeName). w ∷ t ∷ ts) (sym second) ∙ ap (λ (w : TypeName). types.Int ∷ w ∷ ts) (sym first)

two_alike : (at : ℕ) (t u : TypeName) → relation_faults signs.Equal at (Some t) at (Some u) ≡ [] → (t ≡ u) × IsPlain t
two_alike at t u clean =
    let parts = and_parts (agree (Some t) (Some u) && not (is_row_or_link (Some t))) (not (is_row_or_link (Some u))) (demand-met _ _ _ clean) in
    let inner = and_parts (agree (Some t) (Some u)) (not (is_row_or_link (Some t))) parts.0 in
    (same_is t u inner.0, plain_type t inner.1)

module _ (c : Part) (o : Open) where
  relation_obeys : (shapes : Shapes) (address : ℕ) (sign : Sign) (at second_at : ℕ) (t u : TypeName) (ts : List TypeName) → relation_faults sign at (Some t) second_at (Some u) ≡ [] →
      Leads shapes (address + 1) (on c o (types.Bool ∷ ts)) → Obeys c.whole shapes address (on c o (u ∷ t ∷ ts)) (relation sign)
  relation_obeys shapes address signs.Equal at second_at t u ts clean leads =
      let same = two_alike second_at t u clean in
      (t, same.1, (ts, ap (λ (w : TypeName). w ∷ t ∷ ts) (sym same.0), leads))
  relation_obeys shapes address signs.NotEqual at second_at t u ts clean leads =
      let same = two_alike second_at t u clean in
      (t, same.1, (ts, ap (λ (w : TypeName). w ∷ t ∷ ts) (sym same.0), leads))
  relation_obeys shapes address signs.Less at second_at t u ts clean leads = let ints = two_ints at second_at t u clean in (ts, all_ints t u ts ints.0 ints.1, leads)
  relation_obeys shapes address signs.AtMost at second_at t u ts clean leads = let ints = two_ints at second_at t u clean in (ts, all_ints t u ts ints.0 ints.1, leads)
  relation_obeys shapes address signs.Greater at second_at t u ts clean leads = let ints = two_ints at second_at t u clean in (ts, all_ints t u ts ints.0 ints.1, leads)
  relation_obeys shapes address _ at second_at t u ts clean leads = let ints = two_ints at second_at t u clean in (ts, all_ints t u ts ints.0 ints.1, leads)

  pub relation_passes : (sign : Sign) (address at second_at : ℕ) (t u : TypeName) (ts : List TypeName) → relation_faults sign at (Some t) second_at (Some u) ≡ [] →
      Passes c o address (relation sign ∷ []) (u ∷ t ∷ ts) (types.Bool ∷ ts)
  relation_passes sign address at second_at t u ts clean =
      one c.whole (Caught c o) address (relation sign) (on c o (u ∷ t ∷ ts)) (on c o (types.Bool ∷ ts))
      (λ shapes leads needs fits. relation_obeys shapes address sign at second_at t u ts clean leads)

  pub push_passes : (at : ℕ) (l : Literal) (ts : List TypeName) → Passes c o at (code.Push l ∷ []) ts (literal_type l ∷ ts)
  push_passes at l ts = one c.whole (Caught c o) at (code.Push l) (on c o ts) (on c o (literal_type l ∷ ts)) (λ shapes leads needs fits. (fits, leads))

  pub computes_pass : (i : Instruction) (at : ℕ) (ts : List TypeName) → ((shapes : Shapes) (s : Shape) → Computes shapes at s → Obeys c.whole shapes at s i) →
      Passes c o at (i ∷ []) (types.Int ∷ types.Int ∷ ts) (types.Int ∷ ts)
  computes_pass i at ts obeys =
      let s = on c o (types.Int ∷ types.Int ∷ ts) in
      one c.whole (Caught c o) at i s (on c o (types.Int ∷ ts)) (λ shapes leads needs fits. obeys shapes s (ts, refl, (leads, may_raise shapes s (types.Int ∷ types.Int ∷ ts) needs)))

  pub negates_pass : (at : ℕ) (ts : List TypeName) → Passes c o at (code.Neg ∷ []) (types.Int ∷ ts) (types.Int ∷ ts)
  negates_pass at ts =
      let s = on c o (types.Int ∷ ts) in
      one c.whole (Caught c o) at code.Neg s s (λ shapes leads needs fits. (ts, refl, (leads, may_raise shapes s (types.Int ∷ ts) needs)))

  pub nots_pass : (at : ℕ) (ts : List TypeName) → Passes c o at (code.Not ∷ []) (types.Bool ∷ ts) (types.Bool ∷ ts)
  nots_pass at ts = one c.whole (Caught c o) at code.Not (on c o (types.Bool ∷ ts)) (on c o (types.Bool ∷ ts)) (λ shapes leads needs fits. (ts, refl, leads))

  -- ---- variables

  load_obeys : (shapes : Shapes) (at : ℕ) (slot : Slot) (t : TypeName) (ts : List TypeName) → type_at c.whole.globals c.locals slot ≡ Some t → Leads shapes (at + 1) (on c o (t ∷ ts)) →
      Obeys c.whole shapes at (on c o ts) (by_slot code.LoadG code.LoadL slot)
  load_obeys shapes at (Global k) t ts is leads = subst (λ (u : Option TypeName). Loads shapes at (on c o ts) u) (sym is) leads
  load_obeys shapes at (Local k) t ts is leads = subst (λ (u : Option TypeName). Loads shapes at (on c o ts) u) (sym is) leads

  pub load_passes : (at : ℕ) (name : List ℕ) (t : TypeName) (ts : List TypeName) → type_of_variable (c.scope name) ≡ Some t → Passes c o at (load c.names name ∷ []) ts (t ∷ ts)
  load_passes at name t ts is =
      one c.whole (Caught c o) at (load c.names name) (on c o ts) (on c o (t ∷ ts)) (λ shapes leads needs fits. load_obeys shapes at (c.names.slot name) t ts (c.variable name t is) leads)

  store_obeys : (shapes : Shapes) (at : ℕ) (slot : Slot) (t : TypeName) (ts : List TypeName) → type_at c.whole.globals c.locals slot ≡ Some t → Leads shapes (at + 1) (on c o ts) →
      Obeys c.whole shapes at (on c o (t ∷ ts)) (by_slot code.StoreG code.StoreL slot)
  store_obeys shapes at (Global k) t ts is leads = subst (λ (u : Option TypeName). Stores shapes at (on c o (t ∷ ts)) u) (sym is) (ts, refl, leads)
  store_obeys shapes at (Local k) t ts is leads = subst (λ (u : Option TypeName). Stores shapes at (on c o (t ∷ ts)) u) (sym is) (ts, refl, leads)

  pub store_passes : (at : ℕ) (name : List ℕ) (t : TypeName) (ts : List TypeName) → type_of_variable (c.scope name) ≡ Some t → Passes c o at (store c.names name ∷ []) (t ∷ ts) ts
  store_passes at name t ts is =
      one c.whole (Caught c o) at (store c.names name) (on c o (t ∷ ts)) (on c o ts) (λ shapes leads needs fits. store_obeys shapes at (c.names.slot name) t ts (c.variable name t is) leads)

  member_obeys : (shapes : Shapes) (at : ℕ) (slot : Slot) (n : ℤ) (ts : List TypeName) → type_at c.whole.globals c.locals slot ≡ Some (types.Row n) → Caught c o shapes →
      Leads shapes (at + 1) (on c o (types.Int ∷ ts)) → Obeys c.whole shapes at (on c o (types.Int ∷ ts)) (by_slot code.AtG code.AtL slot)
  member_obeys shapes at (Global k) n ts is needs leads =
      let s = on c o (types.Int ∷ ts) in
      subst (λ (u : Option TypeName). LoadsMember shapes at s u) (sym is) (tt, (ts, refl, (leads, may_raise shapes s (types.Int ∷ ts) needs)))
  member_obeys shapes at (Local k) n ts is needs leads =
      let s = on c o (types.Int ∷ ts) in
      subst (λ (u : Option TypeName). LoadsMember shapes at s u) (sym is) (tt, (ts, refl, (leads, may_raise shapes s (types.Int ∷ ts) needs)))

  pub member_passes : (at : ℕ) (name : List ℕ) (n : ℤ) (ts : List TypeName) → type_of_variable (c.scope name) ≡ Some (types.Row n) → Passes c o at (load_member c.names name ∷ []) (types.Int ∷ ts) (types.Int ∷ ts)
  member_passes at name n ts is =
      one c.whole (Caught c o) at (load_member c.names name) (on c o (types.Int ∷ ts)) (on c o (types.Int ∷ ts))
      (λ shapes leads needs fits. member_obeys shapes at (c.names.slot name) n ts (c.variable name (types.Row n) is) needs leads)

  put_obeys : (shapes : Shapes) (at : ℕ) (slot : Slot) (n : ℤ) (ts : List TypeName) → type_at c.whole.globals c.locals slot ≡ Some (types.Row n) → Caught c o shapes →
      Leads shapes (at + 1) (on c o ts) → Obeys c.whole shapes at (on c o (types.Int ∷ types.Int ∷ ts)) (by_slot code.PutG code.PutL slot)
  put_obeys shapes at (Global k) n ts is needs leads =
      let s = on c o (types.Int ∷ types.Int ∷ ts) in
      subst (λ (u : Option TypeName). StoresMember shapes at s u) (sym is) (tt, (ts, refl, (leads, may_raise shapes s (types.Int ∷ types.Int ∷ ts) needs)))
  put_obeys shapes at (Local k) n ts is needs leads =
      let s = on c o (types.Int ∷ types.Int ∷ ts) in
      subst (λ (u : Option TypeName). StoresMember shapes at s u) (sym is) (tt, (ts, refl, (leads, may_raise shapes s (types.Int ∷ types.Int ∷ ts) needs)))

  pub put_passes : (at : ℕ) (name : List ℕ) (n : ℤ) (ts : List TypeName) → type_of_variable (c.scope name) ≡ Some (types.Row n) → Passes c o at (store_member c.names name ∷ []) (types.Int ∷ types.Int ∷ ts) ts
  put_passes at name n ts is =
      one c.whole (Caught c o) at (store_member c.names name) (on c o (types.Int ∷ types.Int ∷ ts)) (on c o ts)
      (λ shapes leads needs fits. put_obeys shapes at (c.names.slot name) n ts (c.variable name (types.Row n) is) needs leads)
