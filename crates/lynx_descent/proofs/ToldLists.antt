-- What reading lists in brackets tells.
use Rattle.std.proofs.Common.{◌≡◌, ℕ, ℤ, pos, zero, suc, ◌+◌, ◌<◌, ◌≤◌, Bool, true, false, cond, List, [], ◌∷◌, ◌++◌, length, drop, map, Ok, Err, refl, sym, ap, subst, ◌∙◌, append_assoc, arith}
use Rattle.std.specs.Prelude.{⊤, if◌then◌else◌}
use Rattle.std.specs.List.{flat_map}
use Rattle.std.proofs.lemmas.Grind.{flat_map-append}
use Rattle.std.proofs.lemmas.List.{append-nil, map-append}
use Rattle.lynx_lexer.specs.declared.keyword.Keyword.{Keyword}
use Rattle.lynx_lexer.specs.declared.keyword.Keyword.TheVariants as keywords
use Rattle.lynx_lexer.specs.declared.sign.Sign.TheVariants as signs
use Rattle.lynx_lexer.specs.declared.token.Kind.{Kind}
use Rattle.lynx_lexer.specs.declared.token.Kind.TheVariants as kinds
use Rattle.lynx_tree.specs.declared.declaration.TypeName.{TypeName}
use Rattle.lynx_tree.specs.declared.declaration.TypeName.TheVariants as types
use Rattle.lynx_descent.specs.declared.refusal.Refusal.TheVariants as refusals
use Rattle.lynx_tree.specs.Trees.{ExprTree}
use Rattle.lynx_tree.specs.Grammar as grammar
use Rattle.lynx_tree.specs.Grammar.{Mark, word, mark, commas, bracketed, names_marks, exprs_marks, type_marks, types_marks, expr_marks, AreExprs}
use Rattle.lynx_descent.specs.Reading.{Parser, Parsed, then_parse, ◌>>=◌, pure, advance, sees_sign, sign, name, number, opened, bracket, many}
use Rattle.lynx_descent.specs.ReadingExpressions.{exprs_of, inside, expr}
use Rattle.lynx_descent.specs.ReadingLists.{listed, names, values, type_name, type_names}
use Rattle.lynx_descent.proofs.Told.{Told, Tells, Goes, Spells, next, done, refused, opens, token, behind, respelled}
use Rattle.lynx_descent.proofs.ToldTokens.{sign_seen, at_token, then_sign, then_name, then_many, joined}
use Rattle.lynx_descent.proofs.ToldExpressions.{Ranked, Chain, chain_more, told_value}

-- `(`, where so many more brackets may be open
then_bracket : {A : Type 0} (n room d : ℕ) (L : A → List Mark → Type 0) (acc : List Mark) (f : ℕ → Parser A) → room + d ≡ n → Goes L (acc ++ mark (suc d) signs.Open ∷ [])
    → ((r : ℕ) → r + suc d ≡ n → Tells n L (acc ++ mark (suc d) signs.Open ∷ []) (f r)) → Tells n L acc (bracket room >>= f)
unfolding bracket opened
then_bracket {A = A} n room d L acc f sum goes on = record {
  told = λ ts. read room sum ts (sees_sign signs.Open ts) refl;
  goes = behind L acc (mark (suc d) signs.Open ∷ []) goes;
}
  where
    read : (room : ℕ) → room + d ≡ n → (ts : List Kind) (b : Bool) → sees_sign signs.Open ts ≡ b → Told n L acc ts (then_parse (cond b (opened room ts) (Err (refusals.At (length ts)))) f)
    read zero sum ts true seen =
        subst (λ (us : List Kind). Told n L acc us (Err (refusals.TooDeep (length us)))) (sym (sign_seen signs.Open ts seen)) (opens n L acc (mark (suc d) signs.Open) (drop 1 ts) goes (omega arith))
    read (suc r) sum ts true seen = at_token n L acc (mark (suc d) signs.Open) ts (drop 1 ts) (λ us. f r (drop 1 us)) (sign_seen signs.Open ts seen) (omega arith) ((on r (omega arith)).told (drop 1 ts))
    read room sum ts false seen = refused n L acc ts (behind L acc (mark (suc d) signs.Open ∷ []) goes)

-- an item behind a comma
after_comma : {A : Type 0} (n d : ℕ) (V : A → Type 0) (w : A → List Mark) (item : Parser A) → d ≤ n → Tells n (Spells V w) [] item → (ts : List Kind) → sees_sign signs.Comma ts ≡ true
    → Told n (Spells V (λ x. mark d signs.Comma ∷ w x)) [] ts ((advance >>= (λ _. item)) ts)
after_comma n d V w item fits h ts seen =
    at_token n (Spells V (λ x. mark d signs.Comma ∷ w x)) [] (mark d signs.Comma) ts (drop 1 ts) (advance >>= (λ _. item)) (sign_seen signs.Comma ts seen) fits
    (respelled n (Spells V w) (Spells V (λ x. mark d signs.Comma ∷ w x)) [] (mark d signs.Comma ∷ []) (drop 1 ts) (item (drop 1 ts)) (λ x ms is. (is.0, ap (λ (xs : List Mark). mark d signs.Comma ∷ xs) is.1)) (h.told (drop 1 ts)))

-- items with commas between, and then what goes on; `R` is what is known of the items with their tokens
then_listed : {A B : Type 0} (n d : ℕ) (L : B → List Mark → Type 0) (acc : List Mark) (V : A → Type 0) (w : A → List Mark) (item : Parser A) (f : List A → Parser B) (R : List A → List Mark → Type 0) → d ≤ n → Tells n (Spells V w) [] item
    → R [] acc → ((x : A) → V x → R (x ∷ []) (acc ++ w x)) → ((found : List A) (ms : List Mark) (x : A) → 0 < length found → R found ms → V x → R (found ++ x ∷ []) (ms ++ mark d signs.Comma ∷ w x))
    → ((found : List A) (ms : List Mark) → R found ms → Tells n L ms (f found)) → Tells n L acc (listed item >>= f)
then_listed {A = A} n d L acc V w item f R fits h none one more last = record {
  told = λ ts. read ts (sees_sign signs.Close ts);
  goes = (last [] acc none).goes;
}
  where
    grown : (found : List A) (x : A) → 0 < length (found ++ x ∷ [])
    grown [] x = omega arith
    grown (y ∷ ys) x = omega arith

    rest : (x : A) → V x → Tells n L (acc ++ w x) (many (sees_sign signs.Comma) (advance >>= (λ _. item)) (x ∷ []) >>= f)
    rest x v =
        then_many n L V (λ y. mark d signs.Comma ∷ w y) (sees_sign signs.Comma) (advance >>= (λ _. item)) f (λ found ms. (0 < length found) × R found ms) (after_comma n d V w item fits h)
        (λ found ms y known u. (grown found y, more found ms y known.0 known.1 u)) (λ found ms known. last found ms known.1) (x ∷ []) (acc ++ w x) (omega arith, one x v)

    some : Tells n L acc (item >>= (λ x. many (sees_sign signs.Comma) (advance >>= (λ _. item)) (x ∷ []) >>= f))
    some = next n L acc V w item (λ x. many (sees_sign signs.Comma) (advance >>= (λ _. item)) (x ∷ []) >>= f) h rest

    read : (ts : List Kind) (b : Bool) → Told n L acc ts (then_parse ((if b then pure [] else (item >>= (λ x. many (sees_sign signs.Comma) (advance >>= (λ _. item)) (x ∷ [])))) ts) f)
    read ts true = (last [] acc none).told ts
    read ts false = subst (Told n L acc ts) (joined (item ts) (λ x. many (sees_sign signs.Comma) (advance >>= (λ _. item)) (x ∷ [])) f) (some.told ts)

-- ---- items with one way of writing each

commas_more : {A : Type 0} (d : ℕ) (w : A → List Mark) (found : List A) (x : A) → 0 < length found → commas d (map w (found ++ x ∷ [])) ≡ commas d (map w found) ++ mark d signs.Comma ∷ w x
commas_more d w [] x some = absurd (omega arith)
commas_more {A = A} d w (y ∷ ys) x some =
    let g : List Mark → List Mark = λ one. mark d signs.Comma ∷ one in
    ap (λ (zs : List (List Mark)). w y ++ flat_map g zs) (map-append w ys (x ∷ []))
    ∙ ap (λ (ms : List Mark). w y ++ ms) (flat_map-append g (map w ys) (w x ∷ []) ∙ ap (λ (ms : List Mark). flat_map g (map w ys) ++ mark d signs.Comma ∷ ms) (append-nil (w x)))
    ∙ sym (append_assoc (w y) (flat_map g (map w ys)) (mark d signs.Comma ∷ w x))

abbrev pub Anything : {A : Type 0} → A → Type 0
Anything _ = ⊤

told_commas : {A : Type 0} (n room d : ℕ) (w : A → List Mark) (item : Parser A) → room + d ≡ n → (suc d ≤ n → Tells n (Spells Anything w) [] item)
    → Tells n (Spells Anything (λ xs. bracketed d (commas (suc d) (map w xs)))) [] (bracket room >>= (λ _. listed item >>= (λ all. sign signs.Close >>= (λ _. pure all))))
told_commas {A = A} n room d w item sum h =
    let start : List Mark = mark (suc d) signs.Open ∷ [] in
    let L : List A → List Mark → Type 0 = Spells Anything (λ xs. bracketed d (commas (suc d) (map w xs))) in
    then_bracket n room d L [] (λ _. listed item >>= (λ all. sign signs.Close >>= (λ _. pure all))) sum (record { value = []; marks = mark (suc d) signs.Close ∷ []; is = (tt, refl) })
    (λ r less. then_listed n (suc d) L start Anything w item (λ all. sign signs.Close >>= (λ _. pure all)) (λ found ms. ms ≡ mark (suc d) signs.Open ∷ commas (suc d) (map w found)) (omega arith) (h (omega arith)) refl
    (λ x v. ap (λ (ms : List Mark). mark (suc d) signs.Open ∷ ms) (sym (append-nil (w x))))
    (λ found ms x some is v. ap (λ (ys : List Mark). ys ++ mark (suc d) signs.Comma ∷ w x) is ∙ ap (λ (ys : List Mark). mark (suc d) signs.Open ∷ ys) (sym (commas_more (suc d) w found x some)))
    (λ found ms is. then_sign n L ms (suc d) signs.Close (λ _. pure found) (omega arith) (done n L (ms ++ mark (suc d) signs.Close ∷ []) found (tt, ap (λ (ys : List Mark). ys ++ mark (suc d) signs.Close ∷ []) is))))

same_outcome : {A : Type 0} (o : Parsed A) → then_parse o pure ≡ o
same_outcome (Ok p) = refl
same_outcome (Err e) = refl

pub alone : {A : Type 0} (n : ℕ) (L : A → List Mark → Type 0) (acc : List Mark) (p : Parser A) → Tells n L acc (p >>= pure) → Tells n L acc p
alone n L acc p h = record { told = λ ts. subst (Told n L acc ts) (same_outcome (p ts)) (h.told ts); goes = h.goes }

told_name : (n d : ℕ) → d ≤ n → Tells n (Spells Anything (λ m. grammar.name d m ∷ [])) [] name
told_name n d fits =
    let L : List ℕ → List Mark → Type 0 = Spells Anything (λ m. grammar.name d m ∷ []) in
    alone n L [] name (then_name n L [] d pure fits (λ m. done n L (grammar.name d m ∷ []) m (tt, refl)))

pub told_names : (n room d : ℕ) → room + d ≡ n → Tells n (Spells Anything (names_marks d)) [] (names room)
unfolding names
told_names n room d sum = told_commas n room d (λ m. grammar.name (suc d) m ∷ []) name sum (told_name n (suc d))

pub told_type : (n d : ℕ) → d ≤ n → Tells n (Spells Anything (type_marks d)) [] type_name
unfolding type_name number
told_type n d fits = record { told = λ ts. read ts; goes = any }
  where
    any : Goes (Spells Anything (type_marks d)) []
    any = record { value = types.Int; marks = word d keywords.Int ∷ []; is = (tt, refl) }

    row : (m : ℤ) → Tells n (Spells Anything (type_marks d)) (word d keywords.Row ∷ record { kind = kinds.Number m; depth = d } ∷ []) (pure (types.Row m))
    row m = done n (Spells Anything (type_marks d)) (word d keywords.Row ∷ record { kind = kinds.Number m; depth = d } ∷ []) (types.Row m) (tt, refl)

    length_of : (ts : List Kind) → Told n (Spells Anything (type_marks d)) (word d keywords.Row ∷ []) ts (then_parse (number ts) (λ m. pure (types.Row m)))
    length_of [] = refused n (Spells Anything (type_marks d)) (word d keywords.Row ∷ []) [] (behind (Spells Anything (type_marks d)) (word d keywords.Row ∷ []) (record { kind = kinds.Number (pos 1); depth = d } ∷ []) (row (pos 1)).goes)
    length_of (kinds.Number m ∷ ts) = token n (Spells Anything (type_marks d)) (word d keywords.Row ∷ []) (record { kind = kinds.Number m; depth = d }) ts (Ok (types.Row m, ts)) fits ((row m).told ts)
    length_of (kinds.Keyword k ∷ ts) = refused n (Spells Anything (type_marks d)) (word d keywords.Row ∷ []) (kinds.Keyword k ∷ ts) (behind (Spells Anything (type_marks d)) (word d keywords.Row ∷ []) (record { kind = kinds.Number (pos 1); depth = d } ∷ []) (row (pos 1)).goes)
    length_of (kinds.Sign k ∷ ts) = refused n (Spells Anything (type_marks d)) (word d keywords.Row ∷ []) (kinds.Sign k ∷ ts) (behind (Spells Anything (type_marks d)) (word d keywords.Row ∷ []) (record { kind = kinds.Number (pos 1); depth = d } ∷ []) (row (pos 1)).goes)
    length_of (kinds.Name k ∷ ts) = refused n (Spells Anything (type_marks d)) (word d keywords.Row ∷ []) (kinds.Name k ∷ ts) (behind (Spells Anything (type_marks d)) (word d keywords.Row ∷ []) (record { kind = kinds.Number (pos 1); depth = d } ∷ []) (row (pos 1)).goes)
    length_of (kinds.Text k ∷ ts) = refused n (Spells Anything (type_marks d)) (word d keywords.Row ∷ []) (kinds.Text k ∷ ts) (behind (Spells Anything (type_marks d)) (word d keywords.Row ∷ []) (record { kind = kinds.Number (pos 1); depth = d } ∷ []) (row (pos 1)).goes)

    simple : (k : Keyword) (t : TypeName) → type_marks d t ≡ word d k ∷ [] → (ts : List Kind) → Told n (Spells Anything (type_marks d)) [] (kinds.Keyword k ∷ ts) (Ok (t, ts))
    simple k t is ts = token n (Spells Anything (type_marks d)) [] (word d k) ts (Ok (t, ts)) fits ((done n (Spells Anything (type_marks d)) (word d k ∷ []) t (tt, sym is)).told ts)

    read : (ts : List Kind) → Told n (Spells Anything (type_marks d)) [] ts (type_name ts)
    read (kinds.Keyword keywords.Int ∷ ts) = simple keywords.Int types.Int refl ts
    read (kinds.Keyword keywords.Bool ∷ ts) = simple keywords.Bool types.Bool refl ts
    read (kinds.Keyword keywords.Text ∷ ts) = simple keywords.Text types.Text refl ts
    read (kinds.Keyword keywords.Link ∷ ts) = simple keywords.Link types.Link refl ts
    read (kinds.Keyword keywords.Row ∷ ts) = token n (Spells Anything (type_marks d)) [] (word d keywords.Row) ts (then_parse (number ts) (λ m. pure (types.Row m))) fits (length_of ts)
    read [] = refused n (Spells Anything (type_marks d)) [] [] any
    read (kinds.Keyword k ∷ ts) = refused n (Spells Anything (type_marks d)) [] (kinds.Keyword k ∷ ts) any
    read (kinds.Sign k ∷ ts) = refused n (Spells Anything (type_marks d)) [] (kinds.Sign k ∷ ts) any
    read (kinds.Name k ∷ ts) = refused n (Spells Anything (type_marks d)) [] (kinds.Name k ∷ ts) any
    read (kinds.Number k ∷ ts) = refused n (Spells Anything (type_marks d)) [] (kinds.Number k ∷ ts) any
    read (kinds.Text k ∷ ts) = refused n (Spells Anything (type_marks d)) [] (kinds.Text k ∷ ts) any

pub told_types : (n : ℕ) → Tells n (Spells Anything types_marks) [] (type_names n)
unfolding type_names
told_types n = told_commas n n 0 (type_marks 1) type_name (omega arith) (told_type n 1)

-- ---- values

abbrev pub AreValues : List ExprTree → Type 0
AreValues es = AreExprs 6 (exprs_of es)

abbrev pub values_marks : ℕ → List ExprTree → List Mark
values_marks d es = exprs_marks d (exprs_of es)

-- values behind their bracket
record Values (d : ℕ) (found : List ExprTree) (ms : List Mark) : Type 0 where
  pub are : AreValues found
  pub is : ms ≡ mark (suc d) signs.Open ∷ grammar.chain_marks (suc d) (mark (suc d) signs.Comma) (exprs_of found)

values_more : (d : ℕ) (found : List ExprTree) (ms : List Mark) (x : ExprTree) → 0 < length found → Values d found ms → Ranked 6 x → Values d (found ++ x ∷ []) (ms ++ mark (suc d) signs.Comma ∷ expr_marks (suc d) x)
values_more d found ms x some h v =
    let chain : Chain (suc d) 6 (mark (suc d) signs.Comma) found ms (mark (suc d) signs.Open ∷ []) = record { some = some; are = h.are; is = h.is } in
    let more = chain_more (suc d) 6 (mark (suc d) signs.Comma) found ms (mark (suc d) signs.Open ∷ []) x chain v in
    record { are = more.are; is = more.is }

pub told_values : (n room d : ℕ) → room + d ≡ n → Tells n (Spells AreValues (values_marks d)) [] (values room)
unfolding values
told_values n room d sum =
    let L : List ExprTree → List Mark → Type 0 = Spells AreValues (values_marks d) in
    then_bracket n room d L [] (λ r. listed (expr (inside r)) >>= (λ all. sign signs.Close >>= (λ _. pure all))) sum (record { value = []; marks = mark (suc d) signs.Close ∷ []; is = (tt, refl) })
    (λ r less. then_listed n (suc d) L (mark (suc d) signs.Open ∷ []) (Ranked 6) (expr_marks (suc d)) (expr (inside r)) (λ all. sign signs.Close >>= (λ _. pure all)) (Values d) (omega arith) (told_value n r (suc d) less)
    (record { are = tt; is = refl })
    (λ x v. record { are = (v.0, v.1, tt); is = ap (λ (ms : List Mark). mark (suc d) signs.Open ∷ ms) (sym (append-nil (expr_marks (suc d) x))) })
    (values_more d)
    (λ found ms known. then_sign n L ms (suc d) signs.Close (λ _. pure found) (omega arith) (done n L (ms ++ mark (suc d) signs.Close ∷ []) found (known.are, ap (λ (ys : List Mark). ys ++ mark (suc d) signs.Close ∷ []) known.is))))
