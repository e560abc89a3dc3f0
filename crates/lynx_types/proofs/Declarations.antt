-- Types and declarations, one and those behind it.
use Rattle.std.proofs.Common.{◌≡◌, ℕ, ◌+◌, ◌<◌, List, [], ◌∷◌, ◌++◌, Option, length, map, drop, get_or, refl, sym, ap, ◌∙◌, arith, length-append}
use Rattle.std.specs.List.{flat_map}
use Rattle.std.proofs.lemmas.List.{drop_more}
use Rattle.lynx_lexer.specs.declared.keyword.Keyword.TheVariants as keywords
use Rattle.lynx_lexer.specs.declared.sign.Sign.TheVariants as signs
use Rattle.lynx_tree.specs.declared.declaration.TypeName.{TypeName}
use Rattle.lynx_tree.specs.declared.declaration.TypeName.TheVariants as types
use Rattle.lynx_tree.specs.Grammar.{Mark, word, mark, name, type_marks, types_marks}
use Rattle.lynx_tree.specs.Trees.{OpTree}
use Rattle.typing_rules.specs.Modules.{type_faults, types_faults}
use Rattle.typing_rules.specs.Names.{Declared, Scope, each_at, op_size}
use Rattle.typing_rules.specs.Rules.{Fault}
use Rattle.typing_rules.specs.Progress.{first_with}
use Rattle.typing_rules.proofs.Members.{at_place}
use Rattle.typing_rules.proofs.Order.{swap}
use Rattle.typing_rules.proofs.Progress.{first_with-append, joined}
use Rattle.lynx_types.specs.News.{then_declared, news_faults}
use Rattle.lynx_types.proofs.News.{news-append, declared-append, same_scope, in_order}

-- ---- types in brackets

type-size : (d : ℕ) (t : TypeName) → length (type_marks d t) ≡ length (type_marks 0 t)
type-size d types.Int = refl
type-size d types.Bool = refl
type-size d types.Text = refl
type-size d types.Link = refl
type-size d (types.Row n) = refl

-- how many tokens types have, each with the sign behind it
abbrev pub types_left : List TypeName → ℕ
types_left [] = 0
types_left (t ∷ ts) = length (type_marks 0 t) + 1 + types_left ts

more_types : (ts : List TypeName) → length (flat_map (λ next. mark 1 signs.Comma ∷ next) (map (type_marks 1) ts)) ≡ types_left ts
more_types [] = refl
more_types (t ∷ ts) = omega (arith, length-append (type_marks 1 t) (flat_map (λ next. mark 1 signs.Comma ∷ next) (map (type_marks 1) ts)), type-size 1 t, more_types ts)

in_brackets : (xs ys : List Mark) (a b : Mark) → length (a ∷ ((xs ++ ys) ++ b ∷ [])) ≡ 2 + length xs + length ys
in_brackets xs ys a b = omega (arith, length-append {A = Mark})

-- where there is a type, each takes a sign behind it
pub some_types : (ts : List TypeName) → 0 < length ts → length (types_marks ts) ≡ 1 + types_left ts
some_types [] h = absurd (omega (arith, h))
some_types (t ∷ ts) h = in_brackets (type_marks 1 t) (flat_map (λ next. mark 1 signs.Comma ∷ next) (map (type_marks 1) ts)) (mark 1 signs.Open) (mark 1 signs.Close) ∙ omega (arith, type-size 1 t, more_types ts)

from_place : {X : Type 0} (xs : List X) (i : ℕ) (d x : X) → i < length xs → x ≡ get_or xs i d → drop i xs ≡ x ∷ drop (i + 1) xs
from_place xs i d x lt is = drop_more xs i d lt ∙ (λ j. sym is j ∷ drop (i + 1) xs)

pub next_type : (ts : List TypeName) (i : ℕ) (d t : TypeName) → i < length ts → t ≡ get_or ts i d → types_left (drop i ts) ≡ length (type_marks 0 t) + 1 + types_left (drop (i + 1) ts)
next_type ts i d t lt is = ap types_left (from_place ts i d t lt is)

pub type-split : (ts : List TypeName) (i : ℕ) (d t : TypeName) (a b : ℕ) → i < length ts → t ≡ get_or ts i d → b ≡ a + length (type_marks 0 t)
    → types_faults a (drop i ts) ≡ type_faults a t ++ types_faults (b + 1) (drop (i + 1) ts)
type-split ts i d t a b lt is at_b =
    ap (types_faults a) (from_place ts i d t lt is)
    ∙ ap (λ n. type_faults a t ++ types_faults n (drop (i + 1) ts)) (omega (arith, at_b))

-- ---- an operation

two_lists : (xs ys : List Mark) (a b c d : Mark) → length (a ∷ b ∷ (xs ++ c ∷ (ys ++ d ∷ []))) ≡ 4 + length xs + length ys
two_lists xs ys a b c d = omega (arith, length-append {A = Mark})

pub op-size : (op : OpTree) → op_size op ≡ 4 + length (types_marks op.arguments) + length (types_marks op.results)
op-size op = two_lists (types_marks op.arguments) (types_marks op.results) (word 0 keywords.Op) (name 0 op.name) (mark 0 signs.Colon) (mark 0 signs.Semicolon)

pub op_first : (a b c : ℕ) (ts us : List TypeName) (o o1 o2 o3 o4 o5 : Option Fault) (news few fits : List Fault) → b ≡ a + 3 → c ≡ a + length (types_marks ts) + 4
    → o1 ≡ first_with o news → o2 ≡ first_with o1 few → o3 ≡ first_with o2 fits → o4 ≡ first_with o3 (types_faults b ts) → o5 ≡ first_with o4 (types_faults c us)
    → o5 ≡ first_with o (news ++ (few ++ fits ++ types_faults (a + 3) ts ++ types_faults (a + length (types_marks ts) + 4) us))
op_first a b c ts us o o1 o2 o3 o4 o5 news few fits at_b at_c e1 e2 e3 e4 e5 =
    joined o o1 o5 news (few ++ fits ++ types_faults (a + 3) ts ++ types_faults (a + length (types_marks ts) + 4) us) e1
    (joined o1 o4 o5 (few ++ fits ++ types_faults (a + 3) ts) (types_faults (a + length (types_marks ts) + 4) us)
    (joined o1 o3 o4 (few ++ fits) (types_faults (a + 3) ts) (joined o1 o2 o3 few fits e2 e3) (e4 ∙ ap (λ n. first_with o3 (types_faults n ts)) at_b))
    (e5 ∙ ap (λ n. first_with o4 (types_faults n us)) at_c))

-- ---- a param

-- that it is a link is demanded behind its name and its type
pub param_first : (o o1 o2 : Option Fault) (news link kind : List Fault) → o1 ≡ first_with o (news ++ kind) → o2 ≡ first_with o1 link → o2 ≡ first_with o (news ++ (link ++ kind))
param_first o o1 o2 news link kind h g =
    g ∙ ap (λ x. first_with x link) (h ∙ first_with-append o news kind) ∙ swap (first_with o news) kind link
    ∙ sym (first_with-append (first_with o news) link kind) ∙ sym (first_with-append o news (link ++ kind))

-- ---- a list of declarations

-- the tokens of one and of those behind it
pub next_tokens : {D X : Type 0} (tree : D → X) (marks : X → List Mark) (ds : List D) (i : ℕ) (d : D) → i < length ds → d ≡ get_or ds i d
    → length (flat_map marks (map tree (drop i ds))) ≡ length (marks (tree d)) + length (flat_map marks (map tree (drop (i + 1) ds)))
next_tokens tree marks ds i d lt is = ap (λ xs. length (flat_map marks (map tree xs))) (at_place ds i d lt is) ∙ length-append (marks (tree d)) (flat_map marks (map tree (drop (i + 1) ds)))

-- what was found and declared in one, and what will be in those behind it
pub news-step : (rule : ℕ) (o o1 : Option Fault) (s t : Scope) (all here rest : List Declared) (faults found others : List Fault) → all ≡ here ++ rest → faults ≡ found ++ others
    → o1 ≡ first_with o (news_faults rule s here ++ found) → ((q : List ℕ) → t q ≡ then_declared s here q) → first_with o1 (news_faults rule t rest ++ others) ≡ first_with o (news_faults rule s all ++ faults)
news-step rule o o1 s t all here rest faults found others are fare h means =
    (λ i. first_with (h i) (news_faults rule (same_scope t (then_declared s here) means i) rest ++ others))
    ∙ in_order o (news_faults rule s here) found (news_faults rule (then_declared s here) rest) others
    ∙ ap (λ x. first_with o (x ++ (found ++ others))) (sym (news-append rule s here rest))
    ∙ (λ i. first_with o (news_faults rule s (sym are i) ++ sym fare i))

names-step : (s t : Scope) (all here rest : List Declared) → all ≡ here ++ rest → ((q : List ℕ) → t q ≡ then_declared s here q) → (q : List ℕ) → then_declared t rest q ≡ then_declared s all q
names-step s t all here rest are means q =
    ap (λ u. then_declared u rest q) (same_scope t (then_declared s here) means) ∙ ap (λ u. u q) (sym (declared-append s here rest)) ∙ ap (λ x. then_declared s x q) (sym are)

module _ {D X : Type 0} (tree : D → X) (size : X → ℕ) where
  abbrev left : {Y : Type 0} → (ℕ → X → List Y) → ℕ → List D → List Y
  left said a ds = each_at size said a (map tree ds)

  pub each-split : {Y : Type 0} (said : ℕ → X → List Y) (ds : List D) (i : ℕ) (d : D) (a b : ℕ) → i < length ds → d ≡ get_or ds i d → b ≡ a + size (tree d)
      → left said a (drop i ds) ≡ said a (tree d) ++ left said b (drop (i + 1) ds)
  each-split said ds i d a b lt is at_b =
      ap (left said a) (at_place ds i d lt is) ∙ ap (λ n. said a (tree d) ++ left said n (drop (i + 1) ds)) (sym at_b)

  module _ (named : ℕ → X → List Declared) (ds : List D) (i : ℕ) (d : D) (a b : ℕ) (lt : i < length ds) (is : d ≡ get_or ds i d) (at_b : b ≡ a + size (tree d))
      (s t : Scope) (means : (q : List ℕ) → t q ≡ then_declared s (named a (tree d)) q) where
    pub next_first : (said : ℕ → X → List Fault) (rule : ℕ) (o o1 : Option Fault) → o1 ≡ first_with o (news_faults rule s (named a (tree d)) ++ said a (tree d))
        → first_with o1 (news_faults rule t (left named b (drop (i + 1) ds)) ++ left said b (drop (i + 1) ds)) ≡ first_with o (news_faults rule s (left named a (drop i ds)) ++ left said a (drop i ds))
    next_first said rule o o1 h =
        news-step rule o o1 s t (left named a (drop i ds)) (named a (tree d)) (left named b (drop (i + 1) ds)) (left said a (drop i ds)) (said a (tree d)) (left said b (drop (i + 1) ds))
        (each-split named ds i d a b lt is at_b) (each-split said ds i d a b lt is at_b) h means

    pub next_names : (q : List ℕ) → then_declared t (left named b (drop (i + 1) ds)) q ≡ then_declared s (left named a (drop i ds)) q
    next_names q = names-step s t (left named a (drop i ds)) (named a (tree d)) (left named b (drop (i + 1) ds)) (each-split named ds i d a b lt is at_b) means q
