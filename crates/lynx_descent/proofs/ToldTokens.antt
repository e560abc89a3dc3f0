-- What reading single tokens and lists tells.
use Rattle.std.proofs.Common.{◌≡◌, ℕ, zero, suc, ◌≤◌, Bool, true, false, cond, List, [], ◌∷◌, ◌++◌, length, drop, Ok, Err, refl, sym, ap, subst, rules}
use denote.Enum.Bare.{same_true}
use Rattle.lynx_lexer.specs.contracts.keyword.Keyword.{the_type as keyword_type}
use Rattle.lynx_lexer.specs.contracts.sign.Sign.{the_type as sign_type}
use Rattle.lynx_lexer.specs.declared.keyword.Keyword.{Keyword}
use Rattle.lynx_lexer.specs.declared.sign.Sign.{Sign}
use Rattle.lynx_lexer.specs.declared.token.Kind.{Kind}
use Rattle.lynx_lexer.specs.declared.token.Kind.TheVariants as kinds
use Rattle.lynx_descent.specs.declared.refusal.Refusal.TheVariants as refusals
use Rattle.lynx_tree.specs.Grammar.{Mark, word, mark}
use Rattle.lynx_tree.specs.Grammar as grammar
use Rattle.lynx_descent.specs.Reading.{Parser, Parsed, then_parse, ◌>>=◌, same_keyword, same_sign, sees_keyword, sees_sign, keyword, sign, name, many, many_from}
use Rattle.lynx_descent.proofs.Told.{Told, Tells, Goes, Spells, bind_told, refused, token, behind}

pub keyword_same : (a b : Keyword) → same_keyword a b ≡ true → a ≡ b
unfolding same_keyword
keyword_same a b h = same_true keyword_type (search rules) a b h

pub sign_same : (a b : Sign) → same_sign a b ≡ true → a ≡ b
unfolding same_sign
sign_same a b h = same_true sign_type (search rules) a b h

pub keyword_seen : (w : Keyword) (ts : List Kind) → sees_keyword w ts ≡ true → ts ≡ kinds.Keyword w ∷ drop 1 ts
keyword_seen w [] h = absurd cc
keyword_seen w (kinds.Keyword k ∷ ts) h = ap (λ (v : Keyword). kinds.Keyword v ∷ ts) (keyword_same k w h)
keyword_seen w (kinds.Sign s ∷ ts) h = absurd cc
keyword_seen w (kinds.Name m ∷ ts) h = absurd cc
keyword_seen w (kinds.Number m ∷ ts) h = absurd cc
keyword_seen w (kinds.Text m ∷ ts) h = absurd cc

pub sign_seen : (s : Sign) (ts : List Kind) → sees_sign s ts ≡ true → ts ≡ kinds.Sign s ∷ drop 1 ts
sign_seen s [] h = absurd cc
sign_seen s (kinds.Keyword k ∷ ts) h = absurd cc
sign_seen s (kinds.Sign t ∷ ts) h = ap (λ (v : Sign). kinds.Sign v ∷ ts) (sign_same t s h)
sign_seen s (kinds.Name m ∷ ts) h = absurd cc
sign_seen s (kinds.Number m ∷ ts) h = absurd cc
sign_seen s (kinds.Text m ∷ ts) h = absurd cc

-- a question, and both ways to go on
pub either : {A : Type 0} (n : ℕ) (L : A → List Mark → Type 0) (acc : List Mark) (ts : List Kind) (b : Bool) (p q : Parser A) → (b ≡ true → Told n L acc ts (p ts)) → (b ≡ false → Told n L acc ts (q ts)) → Told n L acc ts (cond b p q ts)
either n L acc ts true p q h g = h refl
either n L acc ts false p q h g = g refl

pub either_outcome : {A : Type 0} (n : ℕ) (L : A → List Mark → Type 0) (acc : List Mark) (ts : List Kind) (b : Bool) (p q : Parsed A) → (b ≡ true → Told n L acc ts p) → (b ≡ false → Told n L acc ts q) → Told n L acc ts (cond b p q)
either_outcome n L acc ts true p q h g = h refl
either_outcome n L acc ts false p q h g = g refl

-- tokens that are known to begin with one
pub at_token : {A : Type 0} (n : ℕ) (L : A → List Mark → Type 0) (acc : List Mark) (t : Mark) (ts mid : List Kind) (p : Parser A) → ts ≡ t.kind ∷ mid → t.depth ≤ n → Told n L (acc ++ t ∷ []) mid (p (t.kind ∷ mid)) → Told n L acc ts (p ts)
at_token n L acc t ts mid p is fits h = subst (λ (us : List Kind). Told n L acc us (p us)) (sym is) (token n L acc t mid (p (t.kind ∷ mid)) fits h)

pub then_keyword : {A : Type 0} (n : ℕ) (L : A → List Mark → Type 0) (acc : List Mark) (d : ℕ) (w : Keyword) (f : Unit {0} → Parser A) → d ≤ n → Tells n L (acc ++ word d w ∷ []) (f tt) → Tells n L acc (keyword w >>= f)
unfolding keyword
then_keyword n L acc d w f fits h =
    let goes = behind L acc (word d w ∷ []) h.goes in
    record {
      told = λ ts. read ts (sees_keyword w ts) refl goes;
      goes = goes;
    }
  where
    read : (ts : List Kind) (b : Bool) → sees_keyword w ts ≡ b → Goes L acc → Told n L acc ts (then_parse (cond b (Ok (tt, drop 1 ts)) (Err (refusals.At (length ts)))) f)
    read ts true is goes = at_token n L acc (word d w) ts (drop 1 ts) (λ us. f tt (drop 1 us)) (keyword_seen w ts is) fits (h.told (drop 1 ts))
    read ts false is goes = refused n L acc ts goes

pub then_sign : {A : Type 0} (n : ℕ) (L : A → List Mark → Type 0) (acc : List Mark) (d : ℕ) (s : Sign) (f : Unit {0} → Parser A) → d ≤ n → Tells n L (acc ++ mark d s ∷ []) (f tt) → Tells n L acc (sign s >>= f)
unfolding sign
then_sign n L acc d s f fits h =
    let goes = behind L acc (mark d s ∷ []) h.goes in
    record {
      told = λ ts. read ts (sees_sign s ts) refl goes;
      goes = goes;
    }
  where
    read : (ts : List Kind) (b : Bool) → sees_sign s ts ≡ b → Goes L acc → Told n L acc ts (then_parse (cond b (Ok (tt, drop 1 ts)) (Err (refusals.At (length ts)))) f)
    read ts true is goes = at_token n L acc (mark d s) ts (drop 1 ts) (λ us. f tt (drop 1 us)) (sign_seen s ts is) fits (h.told (drop 1 ts))
    read ts false is goes = refused n L acc ts goes

pub then_name : {A : Type 0} (n : ℕ) (L : A → List Mark → Type 0) (acc : List Mark) (d : ℕ) (f : List ℕ → Parser A) → d ≤ n → ((m : List ℕ) → Tells n L (acc ++ grammar.name d m ∷ []) (f m)) → Tells n L acc (name >>= f)
unfolding name
then_name n L acc d f fits h =
    let goes = behind L acc (grammar.name d [] ∷ []) (h []).goes in
    record {
      told = λ ts. read ts goes;
      goes = goes;
    }
  where
    read : (ts : List Kind) → Goes L acc → Told n L acc ts (then_parse (name ts) f)
    read [] goes = refused n L acc [] goes
    read (kinds.Keyword k ∷ ts) goes = refused n L acc (kinds.Keyword k ∷ ts) goes
    read (kinds.Sign s ∷ ts) goes = refused n L acc (kinds.Sign s ∷ ts) goes
    read (kinds.Name m ∷ ts) goes = token n L acc (grammar.name d m) ts (f m ts) fits ((h m).told ts)
    read (kinds.Number m ∷ ts) goes = refused n L acc (kinds.Number m ∷ ts) goes
    read (kinds.Text m ∷ ts) goes = refused n L acc (kinds.Text m ∷ ts) goes

pub joined : {A B C : Type 0} (o : Parsed A) (g : A → Parser B) (f : B → Parser C) → then_parse o (λ x ts. then_parse (g x ts) f) ≡ then_parse (then_parse o g) f
joined (Ok p) g f = refl
joined (Err e) g f = refl

-- items, and then what goes on with them; `R` is what is known of the items with their tokens
pub then_many_from : {A B : Type 0} (n : ℕ) (L : B → List Mark → Type 0) (V : A → Type 0) (w : A → List Mark) (starts : List Kind → Bool) (item : Parser A) (f : List A → Parser B) (R : List A → List Mark → Type 0)
    → ((ts : List Kind) → starts ts ≡ true → Told n (Spells V w) [] ts (item ts))
    → ((found : List A) (acc : List Mark) (x : A) → R found acc → V x → R (found ++ x ∷ []) (acc ++ w x))
    → ((found : List A) (acc : List Mark) → R found acc → Tells n L acc (f found))
    → (turns : ℕ) (found : List A) (acc : List Mark) → R found acc → (ts : List Kind) → Told n L acc ts (then_parse (many_from starts item turns found ts) f)
unfolding many_from
then_many_from n L V w starts item f R one step last zero found acc r ts = (last found acc r).told ts
then_many_from {A = A} {B = B} n L V w starts item f R one step last (suc turns) found acc r ts =
    turn (starts ts) refl (λ x v mid. then_many_from n L V w starts item f R one step last turns (found ++ x ∷ []) (acc ++ w x) (step found acc x r v) mid)
  where
    turn : (b : Bool) → starts ts ≡ b → ((x : A) → V x → (mid : List Kind) → Told n L (acc ++ w x) mid (then_parse (many_from starts item turns (found ++ x ∷ []) mid) f))
        → Told n L acc ts (then_parse (cond b (then_parse (item ts) (λ x. many_from starts item turns (found ++ x ∷ []))) (Ok (found, ts))) f)
    turn true is on = subst (Told n L acc ts) (joined (item ts) (λ x. many_from starts item turns (found ++ x ∷ [])) f)
        (bind_told n L acc V w (λ x mid. then_parse (many_from starts item turns (found ++ x ∷ []) mid) f) ts (item ts) (one ts is) (λ x v. (last (found ++ x ∷ []) (acc ++ w x) (step found acc x r v)).goes)
        (λ x v within mid. on x v mid))
    turn false is on = (last found acc r).told ts

pub then_many : {A B : Type 0} (n : ℕ) (L : B → List Mark → Type 0) (V : A → Type 0) (w : A → List Mark) (starts : List Kind → Bool) (item : Parser A) (f : List A → Parser B) (R : List A → List Mark → Type 0)
    → ((ts : List Kind) → starts ts ≡ true → Told n (Spells V w) [] ts (item ts))
    → ((found : List A) (acc : List Mark) (x : A) → R found acc → V x → R (found ++ x ∷ []) (acc ++ w x))
    → ((found : List A) (acc : List Mark) → R found acc → Tells n L acc (f found))
    → (found : List A) (acc : List Mark) → R found acc → Tells n L acc (many starts item found >>= f)
unfolding many
then_many n L V w starts item f R one step last found acc r = record {
  told = λ ts. then_many_from n L V w starts item f R one step last (length ts) found acc r ts;
  goes = (last found acc r).goes;
}
