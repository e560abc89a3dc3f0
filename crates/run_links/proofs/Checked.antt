-- The code of a module that was compiled from so few bytes can be run.
use Rattle.std.proofs.Common.{arith, ◌≡◌, ◌<◌, inl, inr, ℕ, List, length, Result, Ok, Err, refl, subst}
use Rattle.std.specs.List.{AllByRecursion}
use Rattle.std.proofs.lemmas.List.{length-map}
use Rattle.lynx_lexer.specs.Source.{number_of}
use Rattle.lynx_lexer.specs.declared.token.Kind.{Kind}
use Rattle.lynx_lexer.specs.declared.token.Token.{Token}
use Rattle.lynx_tree.specs.Answers.{IsTreeOf, kinds}
use Rattle.lynx_tree.specs.Grammar.{Mark, module_marks}
use Rattle.lynx_tree.specs.Printing.{IsPrintable}
use Rattle.lynx_tree.specs.Trees.{ModuleTree}
use Rattle.lynx_parser.proofs.Printable.{tokens_printable}
use Rattle.typing_rules.specs.Modules.{IsWellTyped}
use Rattle.typing_signatures.specs.Checked.{IsChecked}
use Rattle.lynx_source.specs.Places.{place_of}
use Rattle.lynx_source.specs.Sources.{AreTokensOf, Checks, IsLexedAs, IsParsedAs, IsTypedAs, token_place}
use Rattle.lynx_source.specs.Stages.{Then}
use Rattle.lynx_source.specs.declared.fault.SourceFault.TheVariants.{CodeTooLong, Deep, Lex, NoMemory, Rule, Syntax}
use Rattle.lynx_source.proofs.Readings.{few_tokens}
use Rattle.lynx_code.specs.declared.code.Code.{Code}
use Rattle.compiler_source.specs.Compiled.{GivesCode, IsCompiledAs, IsMeasuredAs}
use Rattle.compiler_runnable.specs.Runnable.{IsRunnable}
use Rattle.compiler_runnable.proofs.Whole.{law}

pub same_ok : {A E : Type 0} (a b : A) (r : Result A E) → r ≡ Ok a → r ≡ Ok b → a ≡ b
same_ok a b r is are = cc

pub no_err : {A E : Type 0} (a : A) (e : E) (r : Result A E) → r ≡ Ok a → r ≡ Err e → ⊥
no_err a e r is are = cc

module _ (source : List ℕ) where
  -- ---- what each stage says of what it gives

  lexed : (tokens : List Token) → IsLexedAs source (Ok tokens) → AreTokensOf source tokens
  lexed tokens (inl h) = subst (AreTokensOf source) (same_ok h.0 tokens (Ok tokens) h.2 refl) h.1
  lexed tokens (inr h) = absurd (no_err tokens (Lex (place_of source h.0) (number_of h.1)) (Ok tokens) refl h.3)

  parsed : (tokens : List Token) (m : ModuleTree) → IsParsedAs source tokens (Ok m) → IsTreeOf (kinds tokens) m
  parsed tokens m (inl h) = subst (IsTreeOf (kinds tokens)) (same_ok h.0 m (Ok m) h.2 refl) h.1
  parsed tokens m (inr (inl h)) = absurd (no_err m (Syntax (token_place source tokens h.0)) (Ok m) refl h.3)
  parsed tokens m (inr (inr h)) = absurd (no_err m (Deep (token_place source tokens h.0)) (Ok m) refl h.2)

  -- the tree is the one that was parsed
  typed : (tokens : List Token) (from m : ModuleTree) → IsTypedAs source tokens from (Ok m) → IsWellTyped from × (from ≡ m)
  typed tokens from m (inl h) = (h.0, same_ok from m (Ok m) h.1 refl)
  typed tokens from m (inr h) = absurd (no_err m (Rule (token_place source tokens h.0.place) h.0.rule) (Ok m) refl h.2)

  measured : (from m : ModuleTree) → IsMeasuredAs from (Ok m) → from ≡ m
  measured from m (inl h) = same_ok from m (Ok m) h.1 refl
  measured from m (inr h) = absurd (no_err m CodeTooLong (Ok m) refl h.1)

  module _ (few : length source < 4294967295) where
    of_tokens : (tokens : List Token) (m : ModuleTree) → AreTokensOf source tokens → IsTreeOf (kinds tokens) m → IsWellTyped m → IsChecked m
    of_tokens tokens m are tree well =
        let fits = few_tokens source tokens m are.0 tree.0.1 few in
        record {
          grammar = tree.0.0;
          printable = subst (λ (ks : List Kind). AllByRecursion IsPrintable ks) tree.0.1 (tokens_printable tokens source are.0 are.1);
          fits = omega (arith, fits, length-map (module_marks m) (λ (t : Mark). t.kind));
          well_typed = well;
        }

    then_typed : (tokens : List Token) (m : ModuleTree) → AreTokensOf source tokens → Then (IsParsedAs source tokens) (IsTypedAs source tokens) (Ok m) → IsChecked m
    then_typed tokens m are (inl h) = let well = typed tokens h.0 m h.2 in subst IsChecked well.1 (of_tokens tokens h.0 are (parsed tokens h.0 h.1) well.0)
    then_typed tokens m are (inr h) = absurd (no_err m h.0 (Ok m) refl h.2)

    checked : (m : ModuleTree) → Checks source (Ok m) → IsChecked m
    checked m (inl h) = then_typed h.0 m (lexed h.0 h.1) h.2
    checked m (inr h) = absurd (no_err m h.0 (Ok m) refl h.2)

    compiled : (m : ModuleTree) → IsCompiledAs source (Ok m) → IsChecked m
    compiled m (inl (inl h)) = subst IsChecked (measured h.0 m h.2) (checked h.0 h.1)
    compiled m (inl (inr h)) = absurd (no_err m h.0 (Ok m) refl h.2)
    compiled m (inr h) = absurd (no_err m NoMemory (Ok m) refl h)

    pub given_runnable : (code : Code) → GivesCode source (Ok code) → IsRunnable code
    given_runnable code h = law code (record { tree = h.0; checked = compiled h.0 h.1; code = h.2 })
