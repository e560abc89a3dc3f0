-- A source has one reading, stage by stage.
use Rattle.std.proofs.Common.{◌≡◌, ℕ, ◌<◌, List, length, arith, inl, inr, Option, Some, Result, Ok, Err, refl, sym, ap, subst, ◌∙◌}
use Rattle.std.specs.Prelude.{◌≢◌}
use Rattle.std.proofs.lemmas.List.{length-map}
use Rattle.std.specs.List.{AllByRecursion}
use Rattle.lynx_lexer.specs.Source.{Spell, IsFirstFault, number_of}
use Rattle.lynx_lexer.specs.declared.fault.FaultKind.{FaultKind}
use Rattle.lynx_lexer.specs.declared.fault.LexFault.TheVariants as lex
use Rattle.lynx_lexer.specs.declared.token.Token.{Token}
use Rattle.lynx_lexer.proofs.Cuts.{one_spelling}
use Rattle.lynx_lexer.proofs.Faults.{gives_tokens, gives_fault}
use Rattle.lynx_tree.specs.Answers.{kinds}
use Rattle.lynx_tree.specs.Faults.{IsNested}
use Rattle.lynx_tree.specs.Grammar.{HasTokens, kinds_of, module_marks}
use Rattle.lynx_tree.specs.Printing.{IsPrintable, printed}
use Rattle.lynx_tree.specs.Trees.{ModuleTree}
use Rattle.lynx_grammar.proofs.Laws.{one_tree_only}
use Rattle.lynx_grammar.proofs.Exact.{same_place, same_depth, no_tree, no_tree_deep}
use Rattle.lynx_parser.proofs.Lengths.{tokens_fit}
use Rattle.lynx_printer.proofs.Spelled.{spelled}
use Rattle.typing_rules.specs.Modules.{IsWellTyped, IsFirstFault as IsFirstTypeFault, first_fault, module_faults}
use Rattle.typing_rules.specs.Rules.{Fault}
use Rattle.typing_rules.proofs.Firsts.{least_is_first}
use Rattle.lynx_source.specs.Places.{place_of}
use Rattle.lynx_source.specs.Sources.{AreTokensOf, token_place, IsLexedAs, IsParsedAs, IsTypedAs, IsReadAs, Checks, IsCheckedAs}
use Rattle.lynx_source.specs.Stages.{Then, HasOne}
use Rattle.lynx_source.specs.declared.fault.SourceFault.{SourceFault}
use Rattle.lynx_source.specs.declared.fault.SourceFault.TheVariants.{Lex, Syntax, Deep, Rule, NoMemory}

-- ---- stages one after another

ok_is : {A : Type 0} (a b : A) (x y : Result A SourceFault) → x ≡ Ok a → y ≡ Ok b → x ≡ y → a ≡ b
ok_is a b x y is are same = cc

err_is : {A : Type 0} (e f : SourceFault) (x y : Result A SourceFault) → x ≡ Err e → y ≡ Err f → x ≡ y → e ≡ f
err_is e f x y is are same = cc

not_both : {A : Type 0} (a : A) (f : SourceFault) (x y : Result A SourceFault) → x ≡ Ok a → y ≡ Err f → x ≡ y → ⊥
not_both a f x y is are same = cc

pub one_then : {A B : Type 0} (first : Result A SourceFault → Type 0) (next : A → Result B SourceFault → Type 0) → HasOne first → ((a : A) → HasOne (next a)) → HasOne (Then first next)
one_then first next one_first one_next x y (inl h) (inl g) =
    let same = ok_is h.0 g.0 (Ok h.0) (Ok g.0) refl refl (one_first (Ok h.0) (Ok g.0) h.1 g.1) in
    one_next g.0 x y (subst (λ a. next a x) same h.2) g.2
one_then first next one_first one_next x y (inl h) (inr g) = absurd (not_both h.0 g.0 (Ok h.0) (Err g.0) refl refl (one_first (Ok h.0) (Err g.0) h.1 g.1))
one_then first next one_first one_next x y (inr h) (inl g) = absurd (not_both g.0 h.0 (Ok g.0) (Err h.0) refl refl (one_first (Ok g.0) (Err h.0) g.1 h.1))
one_then first next one_first one_next x y (inr h) (inr g) = h.2 ∙ ap Err (err_is h.0 g.0 (Err h.0) (Err g.0) refl refl (one_first (Err h.0) (Err g.0) h.1 g.1)) ∙ sym g.2

-- ---- the tokens

no_fault : (source : List ℕ) (tokens : List Token) (byte : ℕ) (kind : FaultKind) → AreTokensOf source tokens → IsFirstFault byte kind source → ⊥
no_fault source tokens byte kind are fault = gives_tokens source tokens (Err (lex.At byte (number_of kind))) tt (kind, fault, refl) are.0 are.1

pub one_lexing : (source : List ℕ) → HasOne (IsLexedAs source)
one_lexing source x y (inl h) (inl g) = h.2 ∙ ap Ok (one_spelling source h.0 g.0 h.1.0 g.1.0) ∙ sym g.2
one_lexing source x y (inl h) (inr g) = absurd (no_fault source h.0 g.0 g.1 h.1 g.2)
one_lexing source x y (inr h) (inl g) = absurd (no_fault source g.0 h.0 h.1 g.1 h.2)
one_lexing source x y (inr h) (inr g) =
    let same = gives_fault source g.0 g.1 (Err (lex.At h.0 (number_of h.1))) tt (h.1, h.2, refl) g.2 in
    h.3 ∙ (λ i. Err (Lex (place_of source (same.0 i)) (same.1 i))) ∙ sym g.3

-- ---- the grammar and its nesting

pub one_parsing : (source : List ℕ) (tokens : List Token) → HasOne (IsParsedAs source tokens)
one_parsing source tokens x y (inl h) (inl g) = h.2 ∙ ap Ok (one_tree_only (kinds tokens) h.0 g.0 h.1.0 g.1.0) ∙ sym g.2
one_parsing source tokens x y (inl h) (inr (inl g)) = absurd (no_tree (kinds tokens) g.0 h.0 h.1 g.1)
one_parsing source tokens x y (inl h) (inr (inr g)) = absurd (no_tree_deep (kinds tokens) g.0 h.0 h.1 g.1)
one_parsing source tokens x y (inr (inl h)) (inl g) = absurd (no_tree (kinds tokens) h.0 g.0 g.1 h.1)
one_parsing source tokens x y (inr (inl h)) (inr (inl g)) =
    h.3 ∙ ap (λ (token : ℕ). Err (Syntax (token_place source tokens token))) (same_place (kinds tokens) h.0 g.0 h.1 g.1) ∙ sym g.3
one_parsing source tokens x y (inr (inl h)) (inr (inr g)) = absurd (h.2 g.0 g.1)
one_parsing source tokens x y (inr (inr h)) (inl g) = absurd (no_tree_deep (kinds tokens) h.0 g.0 g.1 h.1)
one_parsing source tokens x y (inr (inr h)) (inr (inl g)) = absurd (g.2 h.0 h.1)
one_parsing source tokens x y (inr (inr h)) (inr (inr g)) =
    h.2 ∙ ap (λ (token : ℕ). Err (Deep (token_place source tokens token))) (same_depth (kinds tokens) h.0 g.0 h.1 g.1) ∙ sym g.2

-- ---- the typing rules

some_is : (a b : Fault) (x y : Option Fault) → x ≡ Some a → y ≡ Some b → x ≡ y → a ≡ b
some_is a b x y is are same = cc

same_fault : (m : ModuleTree) (a b : Fault) → IsFirstTypeFault m a → IsFirstTypeFault m b → a ≡ b
same_fault m a b is are = some_is a b (first_fault (module_faults m)) (first_fault (module_faults m)) (least_is_first m a is) (least_is_first m b are) refl

pub one_typing : (source : List ℕ) (tokens : List Token) (m : ModuleTree) → HasOne (IsTypedAs source tokens m)
one_typing source tokens m x y (inl h) (inl g) = h.1 ∙ sym g.1
one_typing source tokens m x y (inl h) (inr g) = absurd (h.0 g.0.rule g.0.place g.1.fails)
one_typing source tokens m x y (inr h) (inl g) = absurd (g.0 h.0.rule h.0.place h.1.fails)
one_typing source tokens m x y (inr h) (inr g) =
    h.2 ∙ ap (λ (f : Fault). Err (Rule (token_place source tokens f.place) f.rule)) (same_fault m h.0 g.0 h.1 g.1) ∙ sym g.2

-- ---- a source

pub one_reading : (source : List ℕ) (a b : Result ModuleTree SourceFault) → IsReadAs source a → a ≢ Err NoMemory → IsReadAs source b → b ≢ Err NoMemory → a ≡ b
one_reading source a b (inl h) _ (inl g) _ = one_then (IsLexedAs source) (IsParsedAs source) (one_lexing source) (one_parsing source) a b h g
one_reading source a b (inr h) some g _ = absurd (some h)
one_reading source a b (inl h) _ (inr g) some = absurd (some g)

one_then_typed : (source : List ℕ) (tokens : List Token) → HasOne (Then (IsParsedAs source tokens) (IsTypedAs source tokens))
one_then_typed source tokens = one_then (IsParsedAs source tokens) (IsTypedAs source tokens) (one_parsing source tokens) (one_typing source tokens)

pub one_checking : (source : List ℕ) → HasOne (Checks source)
one_checking source = one_then (IsLexedAs source) (λ tokens. Then (IsParsedAs source tokens) (IsTypedAs source tokens)) (one_lexing source) (one_then_typed source)

pub one_check : (source : List ℕ) (a b : Result ModuleTree SourceFault) → IsCheckedAs source a → a ≢ Err NoMemory → IsCheckedAs source b → b ≢ Err NoMemory → a ≡ b
one_check source a b (inl h) _ (inl g) _ = one_checking source a b h g
one_check source a b (inr h) some g _ = absurd (some h)
one_check source a b (inl h) _ (inr g) some = absurd (some g)

-- a fault before typing is the fault of both
pub fault_stays : (source : List ℕ) (fault : SourceFault) → IsReadAs source (Err fault) → IsCheckedAs source (Err fault)
fault_stays source fault (inl (inl h)) = inl (inl (h.0, h.1, inr (fault, h.2, refl)))
fault_stays source fault (inl (inr h)) = inl (inr (h.0, h.1, h.2))
fault_stays source fault (inr h) = inr h

-- a tree that was read and breaks no rule is what its source is checked as
pub well_typed_stays : (source : List ℕ) (m : ModuleTree) → IsReadAs source (Ok m) → IsWellTyped m → IsCheckedAs source (Ok m)
well_typed_stays source m (inl (inl h)) well = inl (inl (h.0, h.1, inl (m, h.2, inl (well, refl))))
well_typed_stays source m (inl (inr h)) well = absurd (not_both m h.0 (Ok m) (Err h.0) refl refl h.2)
well_typed_stays source m (inr h) well = absurd (not_both m NoMemory (Ok m) (Err NoMemory) refl refl h)

pub printed_is_read : (m : ModuleTree) → HasTokens m → AllByRecursion IsPrintable (kinds_of m) → IsNested (module_marks m) → IsReadAs (printed (kinds_of m)) (Ok m)
printed_is_read m has printable nested =
    let s = spelled (kinds_of m) (printed (kinds_of m)) printable refl in
    inl (inl (s.0, inl (s.0, (s.1, s.2), refl), inl (m, ((has, s.3), nested), refl)))

-- a tree has no more tokens than its source has bytes
pub few_tokens : (source : List ℕ) (tokens : List Token) (m : ModuleTree) → Spell tokens source → kinds tokens ≡ kinds_of m → length source < 4294967295 → length (kinds_of m) < 4294967295
few_tokens source tokens m s are fits = omega (arith, tokens_fit tokens source s, ap length are, length-map tokens (λ (t : Token). t.kind))
