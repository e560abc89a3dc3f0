-- The faults of the parser are the first ones, and where there is one it is given.
use Rattle.std.proofs.Common.{◌≡◌, ℕ, zero, suc, ◌+◌, ◌-◌, ◌<◌, ◌≤◌, nat_le, Bool, true, false, cond, List, [], ◌∷◌, ◌++◌, length, take, drop, Some, Result, Ok, Err, refl, sym, ap, subst, ◌∙◌, inl, inr, arith, append_assoc, length-append}
use Rattle.std.specs.Prelude.{◌⊎◌, slice_get, IfOk, IfErr}
use Rattle.std.proofs.lemmas.Bool.{cases_order}
use Rattle.std.proofs.lemmas.List.{append-nil, take-append-drop, take-take}
use Rattle.lynx_lexer.specs.declared.token.Kind.{Kind}
use Rattle.lynx_lexer.specs.declared.token.Token.{Token}
use Rattle.lynx_tree.specs.declared.fault.SyntaxFault.{SyntaxFault}
use Rattle.lynx_tree.specs.declared.fault.SyntaxFault.TheVariants as faults
use Rattle.lynx_tree.specs.declared.module.Module.{Module}
use Rattle.lynx_descent.specs.declared.refusal.Refusal.TheVariants as refusals
use Rattle.lynx_tree.specs.Trees.{ModuleTree, module_tree}
use Rattle.lynx_tree.specs.Grammar.{Mark, module_marks, kinds_of, IsModule, HasTokens}
use Rattle.lynx_tree.specs.Faults.{most_open, BeginsModule, LeavesGrammar, IsTooDeep, IsNowhereTooDeep}
use Rattle.lynx_tree.specs.Answers.{IsTreeOf, GivesFault, IsFaultOf, kinds}
use Rattle.lynx_descent.specs.Reading.{Parser, Parsed, then_parse}
use Rattle.lynx_descent.specs.ReadingModules.{one_module, at_end, whole}
use Rattle.lynx_descent.proofs.Told.{Told, Left, Within, Spells, kinds_in}
use Rattle.lynx_grammar.proofs.Guard.{guard, guard_append, find_deep}
use Rattle.lynx_grammar.proofs.FindModules.{find_module, find_whole}
use Rattle.lynx_grammar.proofs.Laws.{guard_within, tree_read}
use Rattle.lynx_grammar.proofs.Answered.{told_whole, before_place, take_one_more, kinds_split, kinds_count, count, left}
use Rattle.lynx_grammar.proofs.Locality.{Leaves, in_front_of, Agree, near, past, Local}
use Rattle.lynx_grammar.proofs.LocalityModules.{local_whole}

-- ---- a refusal at a token stays there, whatever stands behind the token

count_in : {A : Type 0} → Parsed A → ℕ
count_in (Ok p) = 0
count_in (Err (refusals.At k)) = k
count_in (Err (refusals.TooDeep k)) = k
count_in (Err refusals.NoMemory) = 0

same_at : {A : Type 0} (a b : ℕ) → Path (Parsed A) (Err (refusals.At a)) (Err (refusals.At b)) → a ≡ b
unfolding count_in
same_at a b e = ap count_in e

same_deep : {A : Type 0} (a b : ℕ) → Path (Parsed A) (Err (refusals.TooDeep a)) (Err (refusals.TooDeep b)) → a ≡ b
unfolding count_in
same_deep a b e = ap count_in e

near_at : {A : Type 0} (ts us : List Kind) (s q : Parsed A) → in_front_of ts s ≡ Err (refusals.At (length ts)) → q ≡ in_front_of us s → q ≡ Err (refusals.At (length us))
near_at ts us (Ok p) q e d = absurd cc
near_at ts us (Err (refusals.At k)) q e d = d ∙ ap (λ n. Err (refusals.At n)) (omega (arith, same_at (k + length ts) (length ts) e))
near_at ts us (Err (refusals.TooDeep k)) q e d = absurd cc
near_at ts us (Err refusals.NoMemory) q e d = absurd cc

near_deep : {A : Type 0} (ts us : List Kind) (s q : Parsed A) → in_front_of ts s ≡ Err (refusals.TooDeep (length ts)) → q ≡ in_front_of us s → q ≡ Err (refusals.TooDeep (length us))
near_deep ts us (Ok p) q e d = absurd cc
near_deep ts us (Err (refusals.At k)) q e d = absurd cc
near_deep ts us (Err (refusals.TooDeep k)) q e d = d ∙ ap (λ n. Err (refusals.TooDeep n)) (omega (arith, same_deep (k + length ts) (length ts) e))
near_deep ts us (Err refusals.NoMemory) q e d = absurd cc

stays_at : {A : Type 0} (p : Parser A) → Local p → (c : Kind) (x y z : List Kind) → p (x ++ c ∷ y) ≡ Err (refusals.At (length (c ∷ y))) → p (x ++ c ∷ z) ≡ Err (refusals.At (length (c ∷ z)))
stays_at p h c x y z e = go (h.agrees c x y z)
  where
    go : Agree c y z (p (x ++ c ∷ y)) (p (x ++ c ∷ z)) → p (x ++ c ∷ z) ≡ Err (refusals.At (length (c ∷ z)))
    go (near s u v) = near_at (c ∷ y) (c ∷ z) s (p (x ++ c ∷ z)) (sym u ∙ e) v
    go (past u v) = absurd (omega (arith, subst (Leaves (length y)) e u))

stays_deep : {A : Type 0} (p : Parser A) → Local p → (c : Kind) (x y z : List Kind) → p (x ++ c ∷ y) ≡ Err (refusals.TooDeep (length (c ∷ y))) → p (x ++ c ∷ z) ≡ Err (refusals.TooDeep (length (c ∷ z)))
stays_deep p h c x y z e = go (h.agrees c x y z)
  where
    go : Agree c y z (p (x ++ c ∷ y)) (p (x ++ c ∷ z)) → p (x ++ c ∷ z) ≡ Err (refusals.TooDeep (length (c ∷ z)))
    go (near s u v) = near_deep (c ∷ y) (c ∷ z) s (p (x ++ c ∷ z)) (sym u ∙ e) v
    go (past u v) = absurd (omega (arith, subst (Leaves (length y)) e u))

-- ---- the tokens of a module are refused nowhere but for their nesting

guard_never_at : {A : Type 0} (n : ℕ) (ms : List Mark) (rest : List Kind) (p : A × List Kind) (k : ℕ) → guard n ms rest (Ok p) ≡ Err (refusals.At k) → ⊥
guard_never_at n [] rest p k h = absurd cc
guard_never_at {A = A} n (t ∷ ms) rest p k h = on (nat_le t.depth n) h (guard_never_at n ms rest p k)
  where
    on : (b : Bool) → cond b (guard n ms rest (Ok p)) (Err (refusals.TooDeep (length (t.kind ∷ (kinds_in ms ++ rest))))) ≡ Err (refusals.At k) → (guard n ms rest (Ok p) ≡ Err (refusals.At k) → ⊥) → ⊥
    on true e deeper = deeper e
    on false e deeper = absurd cc

never_at : (n k : ℕ) (ts : List Kind) (m : ModuleTree) → IsModule m ts → whole n ts ≡ Err (refusals.At k) → ⊥
never_at n k ts m is h = guard_never_at n (module_marks m) [] (m, []) k (sym (find_whole n m is.0) ∙ ap (whole n) (sym is.1) ∙ h)

-- ---- where the tokens leave the grammar

pub left_exactly : (ts : List Kind) (k : ℕ) → whole most_open ts ≡ Err (refusals.At k) → LeavesGrammar (length ts - k) ts
left_exactly ts k h = at it.before it.after it.rest it.is.1 it.split it.many
  where
    it : Left most_open (Spells HasTokens module_marks) [] ts k
    it = subst (Told most_open (Spells HasTokens module_marks) [] ts) h ((told_whole most_open).told ts)

    -- tokens are left
    some : (before : List Mark) (c : Kind) (y : List Kind) → ts ≡ kinds_in before ++ c ∷ y → length (c ∷ y) ≡ k → LeavesGrammar (length ts - k) ts
    some before c y split many =
        let place : length ts - k ≡ length before = ap (λ (us : List Kind). length us - k) split ∙ before_place before (c ∷ y) k many in
        let upto : take (suc (length ts - k)) ts ≡ kinds_in before ++ c ∷ [] = (λ i. take (suc (place i)) (split i)) ∙ take_one_more before c y in
        let there : whole most_open (kinds_in before ++ c ∷ y) ≡ Err (refusals.At (length (c ∷ y))) = ap (whole most_open) (sym split) ∙ h ∙ ap (λ n. Err (refusals.At n)) (sym many) in
        let none : BeginsModule (take (suc (length ts - k)) ts) → ⊥ = λ b.
        never_at most_open (length (c ∷ b.1)) (kinds_in before ++ c ∷ b.1) b.0 (b.2.0, sym (append_assoc (kinds_in before) (c ∷ []) b.1) ∙ ap (λ (us : List Kind). us ++ b.1) (sym upto) ∙ b.2.1)
        (stays_at (whole most_open) (local_whole most_open) c (kinds_in before) y b.1 there) in
        inl (omega (arith, place, ap length split, length-append (kinds_in before) (c ∷ y), kinds_count before), (left ts k h).1, none)

    at : (before after : List Mark) (rest : List Kind) → before ++ after ≡ module_marks it.value → ts ≡ kinds_in before ++ rest → length rest ≡ k → LeavesGrammar (length ts - k) ts
    at before [] [] is split many =
        absurd (never_at most_open k ts it.value (it.is.0, split ∙ append-nil (kinds_in before) ∙ ap kinds_in (sym (append-nil before) ∙ is)) h)
    at before (t ∷ after) [] is split many =
        inr (omega (arith, many), it.value, t.kind, kinds_in after, (it.is.0, ap (λ (us : List Kind). us ++ t.kind ∷ kinds_in after) (split ∙ append-nil (kinds_in before)) ∙ sym (kinds_split before (t ∷ after)) ∙ ap kinds_in is))
    at before after (c ∷ y) is split many = some before c y split many

-- ---- where more are open than may be

marks_cut : (ms : List Mark) (at : ℕ) (t : Mark) → slice_get ms at ≡ Some t → ms ≡ take at ms ++ t ∷ drop (suc at) ms
marks_cut [] at t h = absurd cc
marks_cut (m ∷ ms) zero t h = ap (λ (x : Mark). x ∷ ms) cc
marks_cut (m ∷ ms) (suc at) t h = ap (λ (xs : List Mark). m ∷ xs) (marks_cut ms at t h)

marks_before : (ms : List Mark) (at : ℕ) (t : Mark) → slice_get ms at ≡ Some t → length (take at ms) ≡ at
marks_before [] at t h = absurd cc
marks_before (m ∷ ms) zero t h = refl
marks_before (m ∷ ms) (suc at) t h = ap suc (marks_before ms at t h)

-- a list cut at a token
record Cut (at : ℕ) (ts : List Kind) : Type 0 where
  pub one : Kind
  pub behind : List Kind
  pub is : ts ≡ take at ts ++ one ∷ behind
  pub upto : take (suc at) ts ≡ take at ts ++ one ∷ []
  pub many : length (take at ts) ≡ at

cut : (at : ℕ) (ts : List Kind) → at < length ts → Cut at ts
cut at [] h = absurd (omega (arith, h))
cut zero (t ∷ ts) h = record { one = t; behind = ts; is = refl; upto = refl; many = refl }
cut (suc at) (t ∷ ts) h =
    let c : Cut at ts = cut at ts (omega (arith, h)) in
    record {
      one = c.one;
      behind = c.behind;
      is = ap (λ (us : List Kind). t ∷ us) c.is;
      upto = ap (λ (us : List Kind). t ∷ us) c.upto;
      many = ap suc c.many;
    }

guard_deep : {A : Type 0} (n : ℕ) (before : List Mark) (t : Mark) (after : List Mark) (o : Parsed A) → Within n before → n < t.depth → guard n (before ++ t ∷ after) [] o ≡ Err (refusals.TooDeep (suc (length after)))
guard_deep n before t after o within deep =
    guard_append n before (t ∷ after) [] o ∙ guard_within n before (kinds_in (t ∷ after) ++ []) (guard n (t ∷ after) [] o) within ∙ sym (find_deep n t after [] o deep)
    ∙ ap (λ k. Err (refusals.TooDeep (suc k))) (ap length (append-nil (kinds_in after)) ∙ kinds_count after)

pub deep_read : (ts : List Kind) (at : ℕ) → IsTooDeep at ts → whole most_open ts ≡ Err (refusals.TooDeep (length ts - at))
deep_read ts at h =
    let m : ModuleTree = h.1 in
    let c : Cut at ts = cut at ts h.0 in
    let x : List Kind = take at ts in
    let after : List Mark = drop (suc at) (module_marks m) in
    let marks : module_marks m ≡ take at (module_marks m) ++ h.5 ∷ after = marks_cut (module_marks m) at h.5 h.6 in
    let all : x ++ c.one ∷ h.2 ≡ kinds_of m = sym (append_assoc x (c.one ∷ []) h.2) ∙ ap (λ (us : List Kind). us ++ h.2) (sym c.upto) ∙ h.3.1 in
    let count : suc (length after) ≡ length (c.one ∷ h.2) = omega (arith, ap length all, ap length marks, kinds_count (module_marks m), length-append x (c.one ∷ h.2), length-append (take at (module_marks m)) (h.5 ∷ after), c.many, marks_before (module_marks m) at h.5 h.6) in
    let there : whole most_open (x ++ c.one ∷ h.2) ≡ Err (refusals.TooDeep (length (c.one ∷ h.2))) =
    ap (whole most_open) all ∙ find_whole most_open m h.3.0 ∙ ap (λ (ms : List Mark). guard most_open ms [] (Ok (m, []))) marks
    ∙ guard_deep most_open (take at (module_marks m)) h.5 after (Ok (m, [])) h.4 h.7 ∙ ap (λ k. Err (refusals.TooDeep k)) count in
    let left_over : length (c.one ∷ c.behind) ≡ length ts - at = omega (arith, ap length c.is, length-append x (c.one ∷ c.behind), c.many) in
    ap (whole most_open) c.is ∙ stays_deep (whole most_open) (local_whole most_open) c.one x h.2 c.behind there ∙ ap (λ k. Err (refusals.TooDeep k)) left_over

-- ---- one fault at most, and none where there is a tree

begins_part : (u v : List Kind) → BeginsModule (u ++ v) → BeginsModule u
begins_part u v b = (b.0, v ++ b.1, (b.2.0, sym (append_assoc u v b.1) ∙ b.2.1))

begins_up_to : (ts : List Kind) (at : ℕ) → BeginsModule ts → BeginsModule (take at ts)
begins_up_to ts at b = begins_part (take at ts) (drop at ts) (subst BeginsModule (sym (take-append-drop at ts)) b)

begins_less : (ts : List Kind) (a b : ℕ) → a ≤ b → BeginsModule (take b ts) → BeginsModule (take a ts)
begins_less ts a b le h = subst BeginsModule (take-take a b ts le) (begins_up_to (take b ts) a h)

-- what begins a module does not leave the grammar before
not_before : (ts : List Kind) (a b : ℕ) → LeavesGrammar a ts → LeavesGrammar b ts → a < b → ⊥
not_before ts a b (inl f) (inl g) less = f.2 (begins_less ts (suc a) b (omega (arith, less)) g.1)
not_before ts a b (inl f) (inr g) less = f.2 (begins_up_to ts (suc a) (g.1, g.2 ∷ g.3, g.4))
not_before ts a b (inr f) (inl g) less = omega (arith, f.0, g.0, less)
not_before ts a b (inr f) (inr g) less = omega (arith, f.0, g.0, less)

pub same_place : (ts : List Kind) (a b : ℕ) → LeavesGrammar a ts → LeavesGrammar b ts → a ≡ b
same_place ts a b f g = at (cases_order a b)
  where
    at : (a ≡ b) ⊎ ((a < b) ⊎ (b < a)) → a ≡ b
    at (inl e) = e
    at (inr (inl less)) = absurd (not_before ts a b f g less)
    at (inr (inr more)) = absurd (not_before ts b a g f more)

-- a token behind a module
read_on : (ts : List Kind) (m : ModuleTree) (k : Kind) (more : List Kind) → IsTreeOf ts m → whole most_open (ts ++ k ∷ more) ≡ Err (refusals.At (length (k ∷ more)))
unfolding whole
read_on ts m k more is =
    ap (λ (us : List Kind). then_parse (one_module most_open (us ++ k ∷ more)) at_end) is.0.1
    ∙ ap (λ (o : Parsed ModuleTree). then_parse o at_end) (find_module most_open m is.0.0 (k ∷ more) tt ∙ guard_within most_open (module_marks m) (k ∷ more) (Ok (m, k ∷ more)) is.1)

pub no_tree : (ts : List Kind) (at : ℕ) (m : ModuleTree) → IsTreeOf ts m → LeavesGrammar at ts → ⊥
no_tree ts at m is (inl f) = f.2 (begins_up_to ts (suc at) (m, [], (is.0.0, append-nil ts ∙ is.0.1)))
no_tree ts at m is (inr f) = never_at most_open (length (f.2 ∷ f.3)) (ts ++ f.2 ∷ f.3) f.1 f.4 (read_on ts m f.2 f.3 is)

pub no_tree_deep : (ts : List Kind) (at : ℕ) (m : ModuleTree) → IsTreeOf ts m → IsTooDeep at ts → ⊥
no_tree_deep ts at m is deep = absurd (let both : Path (Parsed ModuleTree) (Ok (m, [])) (Err (refusals.TooDeep (length ts - at))) = sym (tree_read ts m is) ∙ deep_read ts at deep in cc)

-- the first token that opens too much
pub same_depth : (ts : List Kind) (a b : ℕ) → IsTooDeep a ts → IsTooDeep b ts → a ≡ b
same_depth ts a b f g = omega (arith, f.0, g.0, same_deep (length ts - a) (length ts - b) (sym (deep_read ts a f) ∙ deep_read ts b g))

pub not_deep : (ts : List Kind) (k at : ℕ) → whole most_open ts ≡ Err (refusals.At k) → IsTooDeep at ts → ⊥
not_deep ts k at h deep = absurd (let both : Path (Parsed ModuleTree) (Err (refusals.At k)) (Err (refusals.TooDeep (length ts - at))) = sym h ∙ deep_read ts at deep in cc)

-- ---- what the parser answers

-- with places counted in the list of tokens
pub left_at : (tokens : List Token) (k at : ℕ) → at ≡ length tokens - k → whole most_open (kinds tokens) ≡ Err (refusals.At k) → IsFaultOf (kinds tokens) (faults.At at)
left_at tokens k at is h =
    let place : length (kinds tokens) - k ≡ at = ap (λ (j : ℕ). j - k) (count tokens) ∙ sym is in
    (subst (λ (j : ℕ). LeavesGrammar j (kinds tokens)) place (left_exactly (kinds tokens) k h), λ t. not_deep (kinds tokens) k t h)

pub gives_fault : (ts : List Kind) (at : ℕ) (r : Result Module SyntaxFault) → IfOk r (λ m. IsTreeOf ts (module_tree m)) → IfErr r (IsFaultOf ts) → LeavesGrammar at ts → IsNowhereTooDeep ts → GivesFault (faults.At at) r
gives_fault ts at (Ok m) found fault leaves nowhere = no_tree ts at (module_tree m) found leaves
gives_fault ts at (Err (faults.At a)) found fault leaves nowhere = ap (λ j. faults.At j) (same_place ts a at fault.0 leaves)
gives_fault ts at (Err (faults.TooDeep a)) found fault leaves nowhere = absurd (nowhere a fault)
gives_fault ts at (Err faults.NoMemory) found fault leaves nowhere = tt

pub gives_too_deep : (ts : List Kind) (at : ℕ) (r : Result Module SyntaxFault) → IfOk r (λ m. IsTreeOf ts (module_tree m)) → IfErr r (IsFaultOf ts) → IsTooDeep at ts → GivesFault (faults.TooDeep at) r
gives_too_deep ts at (Ok m) found fault deep = no_tree_deep ts at (module_tree m) found deep
gives_too_deep ts at (Err (faults.At a)) found fault deep = absurd (fault.1 at deep)
gives_too_deep ts at (Err (faults.TooDeep a)) found fault deep = ap (λ j. faults.TooDeep j) (same_depth ts a at fault deep)
gives_too_deep ts at (Err faults.NoMemory) found fault deep = tt
