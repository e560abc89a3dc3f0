-- What a source is read as: the tree of a module, or the first fault with its place.
use Rattle.std.specs.Prelude.{◌≡◌, ◌⊎◌, ℕ, List, length, Result, Ok, Err, slice_get, option_map, unwrap_or}
use Rattle.lynx_lexer.specs.Source.{Spell, AreWithinLimits, IsFirstFault, number_of}
use Rattle.lynx_lexer.specs.declared.fault.FaultKind.{FaultKind}
use Rattle.lynx_lexer.specs.declared.token.Token.{Token}
use Rattle.lynx_tree.specs.Answers.{kinds, IsTreeOf}
use Rattle.lynx_tree.specs.Faults.{LeavesGrammar, IsTooDeep, IsNowhereTooDeep}
use Rattle.lynx_tree.specs.Trees.{ModuleTree, module_tree}
use Rattle.lynx_tree.specs.declared.module.Module.{Module}
use Rattle.lynx_types.specs.declared.checked.Checked.{Checked}
use Rattle.typing_rules.specs.Modules.{IsWellTyped, IsFirstFault as IsFirstTypeFault}
use Rattle.typing_rules.specs.Rules.{Fault}
use Rattle.lynx_source.specs.Places.{place_of}
use Rattle.lynx_source.specs.declared.place.Place.{Place}
use Rattle.lynx_source.specs.Stages.{Then}
use Rattle.lynx_source.specs.declared.reading.Reading.{Reading}
use Rattle.lynx_source.specs.declared.fault.SourceFault.{SourceFault}
use Rattle.lynx_source.specs.declared.fault.SourceFault.TheVariants.{Lex, Syntax, Deep, Rule, NoMemory}

-- the tokens of a source, none of which passes a limit
abbrev pub AreTokensOf : List ℕ → List Token → Type 0
AreTokensOf source tokens = Spell tokens source × AreWithinLimits tokens

-- the first byte of the token of this number; behind the last token, the end of the source
abbrev pub first_byte : List ℕ → List Token → ℕ → ℕ
first_byte source tokens token = unwrap_or (option_map (λ t. t.from) (slice_get tokens token)) (length source)

-- where the token of this number stands
abbrev pub token_place : List ℕ → List Token → ℕ → Place
token_place source tokens token = place_of source (first_byte source tokens token)

-- the first stage: the tokens of a source, or its first lexical fault, by its number
abbrev pub IsLexedAs : List ℕ → Result (List Token) SourceFault → Type 0
IsLexedAs source outcome =
    ((tokens : List Token) × AreTokensOf source tokens × (outcome ≡ Ok tokens))
    ⊎ ((byte : ℕ) × (kind : FaultKind) × IsFirstFault byte kind source × (outcome ≡ Err (Lex (place_of source byte) (number_of kind))))

-- the second stage: the tree of the tokens, or the token at which they leave the grammar, or the one that opens too much before that
abbrev pub IsParsedAs : List ℕ → List Token → Result ModuleTree SourceFault → Type 0
IsParsedAs source tokens outcome =
    ((m : ModuleTree) × IsTreeOf (kinds tokens) m × (outcome ≡ Ok m))
    ⊎ ((token : ℕ) × LeavesGrammar token (kinds tokens) × IsNowhereTooDeep (kinds tokens)
    × (outcome ≡ Err (Syntax (token_place source tokens token))))
    ⊎ ((token : ℕ) × IsTooDeep token (kinds tokens) × (outcome ≡ Err (Deep (token_place source tokens token))))

-- the third stage: the same tree where it breaks no typing rule, or the first token at which a rule fails, with the least rule there
abbrev pub IsTypedAs : List ℕ → List Token → ModuleTree → Result ModuleTree SourceFault → Type 0
IsTypedAs source tokens m outcome =
    (IsWellTyped m × (outcome ≡ Ok m))
    ⊎ ((first : Fault) × IsFirstTypeFault m first × (outcome ≡ Err (Rule (token_place source tokens first.place) first.rule)))

-- A source is read as the tree of its tokens, or as its first fault before typing.
abbrev pub Reads : List ℕ → Result ModuleTree SourceFault → Type 0
Reads source = Then (IsLexedAs source) (IsParsedAs source)

-- the same, or want of memory, which comes at any source
abbrev pub IsReadAs : List ℕ → Result ModuleTree SourceFault → Type 0
IsReadAs source outcome = Reads source outcome ⊎ (outcome ≡ Err NoMemory)

-- A source is checked as the tree of its tokens where that breaks no typing rule, or as its first fault. The length of the code is a
-- further stage behind these.
abbrev pub Checks : List ℕ → Result ModuleTree SourceFault → Type 0
Checks source = Then (IsLexedAs source) (λ tokens. Then (IsParsedAs source tokens) (IsTypedAs source tokens))

-- the same, or want of memory, which comes at any source
abbrev pub IsCheckedAs : List ℕ → Result ModuleTree SourceFault → Type 0
IsCheckedAs source outcome = Checks source outcome ⊎ (outcome ≡ Err NoMemory)

-- a module as its tree
abbrev pub reading_of : Result Module SourceFault → Result ModuleTree SourceFault
reading_of (Ok m) = Ok (module_tree m)
reading_of (Err fault) = Err fault

-- a module with its tokens as its tree
abbrev pub source_reading : Result Reading SourceFault → Result ModuleTree SourceFault
source_reading (Ok r) = Ok (module_tree r.module)
source_reading (Err fault) = Err fault

-- a module that breaks no typing rule as its tree
abbrev pub checked_reading : Result Checked SourceFault → Result ModuleTree SourceFault
checked_reading (Ok checked) = Ok (module_tree checked)
checked_reading (Err fault) = Err fault
