-- What the answers of the parser say.
use Rattle.std.proofs.Common.{◌≡◌, ℕ, suc, ◌-◌, ◌<◌, ◌≤◌, List, [], ◌∷◌, ◌++◌, length, take, Some, Ok, Err, refl, sym, ap, subst, ◌∙◌, arith, length-append}
use Rattle.std.specs.Prelude.{slice_get}
use Rattle.std.proofs.lemmas.List.{append-nil}
use Rattle.lynx_lexer.specs.declared.token.Kind.{Kind}
use Rattle.lynx_descent.specs.declared.refusal.Refusal.TheVariants as refusals
use Rattle.lynx_tree.specs.Trees.{ModuleTree}
use Rattle.lynx_tree.specs.Grammar.{Mark, module_marks, kinds_of, HasTokens}
use Rattle.lynx_tree.specs.Faults.{BeginsModule, IsNested, IsTooDeep, most_open}
use Rattle.lynx_lexer.specs.declared.token.Token.{Token}
use Rattle.lynx_tree.specs.declared.fault.SyntaxFault.TheVariants as faults
use Rattle.lynx_tree.specs.Answers.{IsTreeOf, IsFaultOf, kinds}
use Rattle.lynx_descent.specs.Reading.{Parsed, then_parse}
use Rattle.lynx_descent.specs.ReadingModules.{one_module, at_end, whole}
use Rattle.lynx_descent.proofs.Told.{Told, Tells, Got, Left, Deep, Goes, Spells, Within, kinds_in, next, done, refused}
use Rattle.lynx_descent.proofs.ToldModules.{told_module}

told_end : (n : ℕ) (m : ModuleTree) → HasTokens m → Tells n (Spells HasTokens module_marks) (module_marks m) (at_end m)
told_end n m v =
    let here = done n (Spells HasTokens module_marks) (module_marks m) m (v, refl) in
    record { told = λ ts. read ts here.goes; goes = here.goes }
  where
    read : (ts : List Kind) → Goes (Spells HasTokens module_marks) (module_marks m) → Told n (Spells HasTokens module_marks) (module_marks m) ts (at_end m ts)
    read [] g = (done n (Spells HasTokens module_marks) (module_marks m) m (v, refl)).told []
    read (k ∷ ts) g = refused n (Spells HasTokens module_marks) (module_marks m) (k ∷ ts) g

pub told_whole : (n : ℕ) → Tells n (Spells HasTokens module_marks) [] (whole n)
unfolding whole
told_whole n = next n (Spells HasTokens module_marks) [] HasTokens module_marks (one_module n) at_end (told_module n) (told_end n)

rest_in : Parsed ModuleTree → List Kind
rest_in (Ok p) = p.1
rest_in (Err e) = []

-- nothing is left behind a module
ends : (o : Parsed ModuleTree) (m : ModuleTree) (rest : List Kind) → then_parse o at_end ≡ Ok (m, rest) → rest ≡ []
unfolding rest_in
ends (Ok p) m rest h = at p.0 p.1 h
  where
    at : (q : ModuleTree) (ts : List Kind) → at_end q ts ≡ Ok (m, rest) → rest ≡ []
    at q [] e = sym (ap rest_in e)
    at q (k ∷ ts) e = absurd cc
ends (Err e) m rest h = absurd cc

whole_ends : (n : ℕ) (ts : List Kind) (m : ModuleTree) (rest : List Kind) → whole n ts ≡ Ok (m, rest) → rest ≡ []
unfolding whole
whole_ends n ts m rest h = ends (one_module n ts) m rest h

pub found : (ts rest : List Kind) (m : ModuleTree) → whole most_open ts ≡ Ok (m, rest) → IsTreeOf ts m
found ts rest m h =
    let got : Got most_open (Spells HasTokens module_marks) [] ts rest m = subst (Told most_open (Spells HasTokens module_marks) [] ts) h ((told_whole most_open).told ts) in
    let all : ts ≡ kinds_in got.marks = got.split ∙ ap (λ (us : List Kind). kinds_in got.marks ++ us) (whole_ends most_open ts m rest h) ∙ append-nil (kinds_in got.marks) in
    ((got.is.0, all ∙ ap kinds_in got.is.1), subst (Within most_open) got.is.1 got.within)

-- ---- places

pub kinds_count : (ms : List Mark) → length (kinds_in ms) ≡ length ms
kinds_count [] = refl
kinds_count (m ∷ ms) = ap suc (kinds_count ms)

pub before_place : (before : List Mark) (rest : List Kind) (k : ℕ) → length rest ≡ k → length (kinds_in before ++ rest) - k ≡ length before
before_place before rest k h = omega (arith, length-append (kinds_in before) rest, kinds_count before)

take_before : (before : List Mark) (rest : List Kind) → take (length before) (kinds_in before ++ rest) ≡ kinds_in before
take_before [] rest = refl
take_before (t ∷ before) rest = ap (λ (ks : List Kind). t.kind ∷ ks) (take_before before rest)

pub take_one_more : (before : List Mark) (k : Kind) (rest : List Kind) → take (suc (length before)) (kinds_in before ++ k ∷ rest) ≡ kinds_in before ++ k ∷ []
take_one_more [] k rest = refl
take_one_more (t ∷ before) k rest = ap (λ (ks : List Kind). t.kind ∷ ks) (take_one_more before k rest)

take_marks : (before after : List Mark) → take (length before) (before ++ after) ≡ before
take_marks [] after = refl
take_marks (t ∷ before) after = ap (λ (ms : List Mark). t ∷ ms) (take_marks before after)

mark_at : (before : List Mark) (t : Mark) (after : List Mark) → slice_get (before ++ t ∷ after) (length before) ≡ Some t
mark_at [] t after = refl
mark_at (x ∷ before) t after = mark_at before t after

kinds_joined : (before : List Mark) (t : Mark) (after : List Mark) → kinds_in (before ++ t ∷ after) ≡ (kinds_in before ++ t.kind ∷ []) ++ kinds_in after
kinds_joined [] t after = refl
kinds_joined (x ∷ before) t after = ap (λ (ks : List Kind). x.kind ∷ ks) (kinds_joined before t after)

pub kinds_split : (before after : List Mark) → kinds_in (before ++ after) ≡ kinds_in before ++ kinds_in after
kinds_split [] after = refl
kinds_split (x ∷ before) after = ap (λ (ks : List Kind). x.kind ∷ ks) (kinds_split before after)

-- the tokens before a fault begin a module
pub left : (ts : List Kind) (k : ℕ) → whole most_open ts ≡ Err (refusals.At k) → (length ts - k ≤ length ts) × BeginsModule (take (length ts - k) ts)
left ts k h =
    let it : Left most_open (Spells HasTokens module_marks) [] ts k = subst (Told most_open (Spells HasTokens module_marks) [] ts) h ((told_whole most_open).told ts) in
    let at : length ts - k ≡ length it.before = ap (λ (us : List Kind). length us - k) it.split ∙ before_place it.before it.rest k it.many in
    let prefix : take (length ts - k) ts ≡ kinds_in it.before = (λ i. take (at i) (it.split i)) ∙ take_before it.before it.rest in
    let joined : take (length ts - k) ts ++ kinds_in it.after ≡ kinds_of it.value = ap (λ (us : List Kind). us ++ kinds_in it.after) prefix ∙ sym (kinds_split it.before it.after) ∙ ap kinds_in it.is.1 in
    (omega arith, (it.value, kinds_in it.after, (it.is.0, joined)))

-- the first token that opens too much
pub deep : (ts : List Kind) (k : ℕ) → whole most_open ts ≡ Err (refusals.TooDeep k) → IsTooDeep (length ts - k) ts
deep ts k h =
    let it : Deep most_open (Spells HasTokens module_marks) [] ts k = subst (Told most_open (Spells HasTokens module_marks) [] ts) h ((told_whole most_open).told ts) in
    let at : length ts - k ≡ length it.before = ap (λ (us : List Kind). length us - k) it.split ∙ before_place it.before (it.one.kind ∷ it.rest) k it.many in
    let some : length it.before < length ts = omega (arith, ap length it.split, length-append (kinds_in it.before) (it.one.kind ∷ it.rest), kinds_count it.before) in
    let prefix : take (suc (length it.before)) ts ≡ kinds_in it.before ++ it.one.kind ∷ [] = ap (take (suc (length it.before))) it.split ∙ take_one_more it.before it.one.kind it.rest in
    let joined : take (suc (length it.before)) ts ++ kinds_in it.after ≡ kinds_of it.value = ap (λ (us : List Kind). us ++ kinds_in it.after) prefix ∙ sym (kinds_joined it.before it.one it.after) ∙ ap kinds_in it.is.1 in
    let nested : IsNested (take (length it.before) (module_marks it.value)) = subst IsNested (sym (take_marks it.before (it.one ∷ it.after)) ∙ ap (take (length it.before)) it.is.1) it.within in
    let there : slice_get (module_marks it.value) (length it.before) ≡ Some it.one = ap (λ (ms : List Mark). slice_get ms (length it.before)) (sym it.is.1) ∙ mark_at it.before it.one it.after in
    let all : IsTooDeep (length it.before) ts = (some, it.value, kinds_in it.after, (it.is.0, joined), nested, it.one, there, it.deep) in
    subst (λ (j : ℕ). IsTooDeep j ts) (sym at) all

-- ---- the same, with places counted in the list of tokens

pub count : (tokens : List Token) → length (kinds tokens) ≡ length tokens
count [] = refl
count (t ∷ tokens) = ap suc (count tokens)

pub deep_at : (tokens : List Token) (k at : ℕ) → at ≡ length tokens - k → whole most_open (kinds tokens) ≡ Err (refusals.TooDeep k) → IsFaultOf (kinds tokens) (faults.TooDeep at)
deep_at tokens k at is h = subst (λ (j : ℕ). IsTooDeep j (kinds tokens)) (ap (λ (j : ℕ). j - k) (count tokens) ∙ sym is) (deep (kinds tokens) k h)
