-- What the outcome of reading tells of the tokens, and how the words of the grammar keep that.
use Rattle.std.proofs.Common.{◌≡◌, ℕ, suc, ◌<◌, ◌≤◌, List, [], ◌∷◌, ◌++◌, length, map, Ok, Err, refl, sym, ap, subst, ◌∙◌, append_assoc}
use Rattle.std.specs.List.{AllByRecursion}
use Rattle.std.proofs.lemmas.List.{append-nil, map-append}
use Rattle.lynx_lexer.specs.declared.token.Kind.{Kind}
use Rattle.lynx_descent.specs.declared.refusal.Refusal.TheVariants as refusals
use Rattle.lynx_tree.specs.Grammar.{Mark}
use Rattle.lynx_descent.specs.Reading.{Parser, Parsed, then_parse, ◌>>=◌, pure}

abbrev pub kinds_in : List Mark → List Kind
kinds_in ms = map (λ (t : Mark). t.kind) ms

-- no more are open at any of the tokens
abbrev pub Within : ℕ → List Mark → Type 0
Within n ms = AllByRecursion (λ (t : Mark). t.depth ≤ n) ms

-- a value has been read with these tokens, behind those of `acc`
pub record Got {A : Type 0} (n : ℕ) (L : A → List Mark → Type 0) (acc : List Mark) (ts rest : List Kind) (a : A) : Type 0 where
  pub marks : List Mark
  pub is : L a (acc ++ marks)
  pub split : ts ≡ kinds_in marks ++ rest
  pub within : Within n marks

-- tokens up to a place begin those of some value
pub record Left {A : Type 0} (n : ℕ) (L : A → List Mark → Type 0) (acc : List Mark) (ts : List Kind) (k : ℕ) : Type 0 where
  pub before : List Mark
  pub after : List Mark
  pub rest : List Kind
  pub value : A
  pub is : L value (acc ++ (before ++ after))
  pub split : ts ≡ kinds_in before ++ rest
  pub many : length rest ≡ k
  pub within : Within n before

-- tokens up to one that opens too much begin those of some value
pub record Deep {A : Type 0} (n : ℕ) (L : A → List Mark → Type 0) (acc : List Mark) (ts : List Kind) (k : ℕ) : Type 0 where
  pub before : List Mark
  pub one : Mark
  pub after : List Mark
  pub rest : List Kind
  pub value : A
  pub is : L value (acc ++ (before ++ one ∷ after))
  pub split : ts ≡ kinds_in before ++ one.kind ∷ rest
  pub many : length (one.kind ∷ rest) ≡ k
  pub within : Within n before
  pub deep : n < one.depth

abbrev pub Told : {A : Type 0} → ℕ → (A → List Mark → Type 0) → List Mark → List Kind → Parsed A → Type 0
Told n L acc ts (Ok p) = Got n L acc ts p.1 p.0
Told n L acc ts (Err (refusals.At k)) = Left n L acc ts k
Told n L acc ts (Err (refusals.TooDeep k)) = Deep n L acc ts k
Told n L acc ts (Err refusals.NoMemory) = ⊥

-- some value has tokens that begin with those of `acc`
pub record Goes {A : Type 0} (L : A → List Mark → Type 0) (acc : List Mark) : Type 0 where
  pub value : A
  pub marks : List Mark
  pub is : L value (acc ++ marks)

pub record Tells {A : Type 0} (n : ℕ) (L : A → List Mark → Type 0) (acc : List Mark) (p : Parser A) : Type 0 where
  pub told : (ts : List Kind) → Told n L acc ts (p ts)
  pub goes : Goes L acc

-- the value has these tokens
abbrev pub Spells : {A : Type 0} → (A → Type 0) → (A → List Mark) → A → List Mark → Type 0
Spells V w a ms = V a × (ms ≡ w a)

-- ---- joining

pub within_append : (n : ℕ) (xs ys : List Mark) → Within n xs → Within n ys → Within n (xs ++ ys)
within_append n [] ys h g = g
within_append n (x ∷ xs) ys h g = (h.0, within_append n xs ys h.1 g)

pub kinds_append : (xs ys : List Mark) (rest : List Kind) → kinds_in xs ++ (kinds_in ys ++ rest) ≡ kinds_in (xs ++ ys) ++ rest
kinds_append xs ys rest = sym (append_assoc (kinds_in xs) (kinds_in ys) rest) ∙ ap (λ (ks : List Kind). ks ++ rest) (sym (map-append (λ (t : Mark). t.kind) xs ys))

pub kinds_count : (ms : List Mark) → length (kinds_in ms) ≡ length ms
kinds_count [] = refl
kinds_count (m ∷ ms) = ap suc (kinds_count ms)

-- tokens were read before
pub extended : {A : Type 0} (n : ℕ) (L : A → List Mark → Type 0) (acc first : List Mark) (ts mid : List Kind) (o : Parsed A) → Within n first → ts ≡ kinds_in first ++ mid → Told n L (acc ++ first) mid o → Told n L acc ts o
extended n L acc first ts mid (Ok p) within split h = record {
  marks = first ++ h.marks;
  is = subst (L p.0) (append_assoc acc first h.marks) h.is;
  split = split ∙ ap (λ (ks : List Kind). kinds_in first ++ ks) h.split ∙ kinds_append first h.marks p.1;
  within = within_append n first h.marks within h.within;
}
extended n L acc first ts mid (Err (refusals.At k)) within split h = record {
  before = first ++ h.before;
  after = h.after;
  rest = h.rest;
  value = h.value;
  is = subst (L h.value) (append_assoc acc first (h.before ++ h.after) ∙ ap (λ (ms : List Mark). acc ++ ms) (sym (append_assoc first h.before h.after))) h.is;
  split = split ∙ ap (λ (ks : List Kind). kinds_in first ++ ks) h.split ∙ kinds_append first h.before h.rest;
  many = h.many;
  within = within_append n first h.before within h.within;
}
extended n L acc first ts mid (Err (refusals.TooDeep k)) within split h = record {
  before = first ++ h.before;
  one = h.one;
  after = h.after;
  rest = h.rest;
  value = h.value;
  is = subst (L h.value) (append_assoc acc first (h.before ++ h.one ∷ h.after) ∙ ap (λ (ms : List Mark). acc ++ ms) (sym (append_assoc first h.before (h.one ∷ h.after)))) h.is;
  split = split ∙ ap (λ (ks : List Kind). kinds_in first ++ ks) h.split ∙ kinds_append first h.before (h.one.kind ∷ h.rest);
  many = h.many;
  within = within_append n first h.before within h.within;
  deep = h.deep;
}
extended n L acc first ts mid (Err refusals.NoMemory) within split h = h

-- what stands behind a value that is not whole
completed : (acc before after w ms : List Mark) → before ++ after ≡ w → (acc ++ w) ++ ms ≡ acc ++ (before ++ (after ++ ms))
completed acc before after w ms e =
    append_assoc acc w ms ∙ ap (λ (x : List Mark). acc ++ (x ++ ms)) (sym e) ∙ ap (λ (x : List Mark). acc ++ x) (append_assoc before after ms)

pub bind_told : {A B : Type 0} (n : ℕ) (L : B → List Mark → Type 0) (acc : List Mark) (V : A → Type 0) (w : A → List Mark) (f : A → Parser B) (ts : List Kind) (o : Parsed A)
    → Told n (Spells V w) [] ts o → ((a : A) → V a → Goes L (acc ++ w a)) → ((a : A) → V a → Within n (w a) → (mid : List Kind) → Told n L (acc ++ w a) mid (f a mid)) → Told n L acc ts (then_parse o f)
bind_told n L acc V w f ts (Ok p) h goes on =
    let along : acc ++ w p.0 ≡ acc ++ h.marks = ap (λ (ms : List Mark). acc ++ ms) (sym h.is.1) in
    let within : Within n (w p.0) = subst (Within n) h.is.1 h.within in
    extended n L acc h.marks ts p.1 (f p.0 p.1) h.within h.split (subst (λ (ms : List Mark). Told n L ms p.1 (f p.0 p.1)) along (on p.0 h.is.0 within p.1))
bind_told n L acc V w f ts (Err (refusals.At k)) h goes on =
    let more = goes h.value h.is.0 in
    record {
      before = h.before;
      after = h.after ++ more.marks;
      rest = h.rest;
      value = more.value;
      is = subst (L more.value) (completed acc h.before h.after (w h.value) more.marks h.is.1) more.is;
      split = h.split;
      many = h.many;
      within = h.within;
    }
bind_told n L acc V w f ts (Err (refusals.TooDeep k)) h goes on =
    let more = goes h.value h.is.0 in
    record {
      before = h.before;
      one = h.one;
      after = h.after ++ more.marks;
      rest = h.rest;
      value = more.value;
      is = subst (L more.value) (completed acc h.before (h.one ∷ h.after) (w h.value) more.marks h.is.1) more.is;
      split = h.split;
      many = h.many;
      within = h.within;
      deep = h.deep;
    }
bind_told n L acc V w f ts (Err refusals.NoMemory) h goes on = h

-- a word, and then what goes on
pub then_goes : {A B : Type 0} (L : B → List Mark → Type 0) (acc : List Mark) (V : A → Type 0) (w : A → List Mark) → Goes (Spells V w) [] → ((a : A) → V a → Goes L (acc ++ w a)) → Goes L acc
then_goes L acc V w first g =
    let second = g first.value first.is.0 in
    record { value = second.value; marks = w first.value ++ second.marks; is = subst (L second.value) (append_assoc acc (w first.value) second.marks) second.is }

pub next : {A B : Type 0} (n : ℕ) (L : B → List Mark → Type 0) (acc : List Mark) (V : A → Type 0) (w : A → List Mark) (p : Parser A) (f : A → Parser B)
    → Tells n (Spells V w) [] p → ((a : A) → V a → Tells n L (acc ++ w a) (f a)) → Tells n L acc (p >>= f)
next n L acc V w p f h g = record {
  told = λ ts. bind_told n L acc V w f ts (p ts) (h.told ts) (λ a v. (g a v).goes) (λ a v within mid. (g a v).told mid);
  goes = then_goes L acc V w h.goes (λ a v. (g a v).goes);
}

pub done : {B : Type 0} (n : ℕ) (L : B → List Mark → Type 0) (acc : List Mark) (b : B) → L b acc → Tells n L acc (pure b)
done n L acc b h =
    let here : L b (acc ++ []) = subst (L b) (sym (append-nil acc)) h in
    record { told = λ ts. record { marks = []; is = here; split = refl; within = tt }; goes = record { value = b; marks = []; is = here } }

-- nothing goes on with the next token
pub refused : {A : Type 0} (n : ℕ) (L : A → List Mark → Type 0) (acc : List Mark) (ts : List Kind) → Goes L acc → Left n L acc ts (length ts)
refused n L acc ts h = record { before = []; after = h.marks; rest = ts; value = h.value; is = h.is; split = refl; many = refl; within = tt }

-- the next token opens too much
pub opens : {A : Type 0} (n : ℕ) (L : A → List Mark → Type 0) (acc : List Mark) (t : Mark) (ts : List Kind) → Goes L (acc ++ t ∷ []) → n < t.depth → Deep n L acc (t.kind ∷ ts) (length (t.kind ∷ ts))
opens n L acc t ts h deep = record {
  before = [];
  one = t;
  after = h.marks;
  rest = ts;
  value = h.value;
  is = subst (L h.value) (append_assoc acc (t ∷ []) h.marks) h.is;
  split = refl;
  many = refl;
  within = tt;
  deep = deep;
}

-- one token more
pub token : {A : Type 0} (n : ℕ) (L : A → List Mark → Type 0) (acc : List Mark) (t : Mark) (ts : List Kind) (o : Parsed A) → t.depth ≤ n → Told n L (acc ++ t ∷ []) ts o → Told n L acc (t.kind ∷ ts) o
token n L acc t ts o fits h = extended n L acc (t ∷ []) (t.kind ∷ ts) ts o (fits, tt) refl h

pub behind : {A : Type 0} (L : A → List Mark → Type 0) (acc first : List Mark) → Goes L (acc ++ first) → Goes L acc
behind L acc first h = record { value = h.value; marks = first ++ h.marks; is = subst (L h.value) (append_assoc acc first h.marks) h.is }

-- what has these tokens in one language has them in another
pub respelled : {A : Type 0} (n : ℕ) (L M : A → List Mark → Type 0) (acc bcc : List Mark) (ts : List Kind) (o : Parsed A) → ((a : A) (ms : List Mark) → L a (acc ++ ms) → M a (bcc ++ ms)) → Told n L acc ts o → Told n M bcc ts o
respelled n L M acc bcc ts (Ok p) f h = record { marks = h.marks; is = f p.0 h.marks h.is; split = h.split; within = h.within }
respelled n L M acc bcc ts (Err (refusals.At k)) f h = record {
  before = h.before;
  after = h.after;
  rest = h.rest;
  value = h.value;
  is = f h.value (h.before ++ h.after) h.is;
  split = h.split;
  many = h.many;
  within = h.within;
}
respelled n L M acc bcc ts (Err (refusals.TooDeep k)) f h = record {
  before = h.before;
  one = h.one;
  after = h.after;
  rest = h.rest;
  value = h.value;
  is = f h.value (h.before ++ h.one ∷ h.after) h.is;
  split = h.split;
  many = h.many;
  within = h.within;
  deep = h.deep;
}
respelled n L M acc bcc ts (Err refusals.NoMemory) f h = h
