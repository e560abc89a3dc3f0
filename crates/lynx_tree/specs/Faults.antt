-- Where a list of tokens leaves the grammar, and where it is nested too deeply.
use Rattle.std.specs.Prelude.{◌≡◌, ℕ, suc, ◌<◌, ◌≤◌, List, ◌∷◌, ◌++◌, length, take, Some, slice_get, ◌⊎◌}
use Rattle.std.specs.List.{AllByRecursion}
use Rattle.lynx_lexer.specs.declared.token.Kind.{Kind}
use Rattle.lynx_tree.specs.Trees.{ModuleTree}
use Rattle.lynx_tree.specs.Grammar.{Mark, module_marks, IsModule}

-- the most brackets and statements that may be open at a token
abbrev pub most_open : ℕ
most_open = 64

-- some module's list begins with these tokens
abbrev pub BeginsModule : List Kind → Type 0
BeginsModule tokens = (m : ModuleTree) × (more : List Kind) × IsModule m (tokens ++ more)

-- the first token that ends no prefix of any module's list, or the end where the whole list is a proper prefix
abbrev pub LeavesGrammar : ℕ → List Kind → Type 0
LeavesGrammar at tokens = ((at < length tokens) × BeginsModule (take at tokens) × (BeginsModule (take (suc at) tokens) → ⊥))
    ⊎ ((at ≡ length tokens) × (m : ModuleTree) × (next : Kind) × (more : List Kind) × IsModule m (tokens ++ next ∷ more))

-- no more are open at any of the tokens than may be
abbrev pub IsNested : List Mark → Type 0
IsNested marks = AllByRecursion (λ (t : Mark). t.depth ≤ most_open) marks

-- the first token at which more are open than may be, in a module's list that begins with the tokens up to it
abbrev pub IsTooDeep : ℕ → List Kind → Type 0
IsTooDeep at tokens = (at < length tokens) × (m : ModuleTree) × (more : List Kind) × IsModule m (take (suc at) tokens ++ more)
    × IsNested (take at (module_marks m)) × (t : Mark) × (slice_get (module_marks m) at ≡ Some t) × (most_open < t.depth)

-- there is no such token
abbrev pub IsNowhereTooDeep : List Kind → Type 0
IsNowhereTooDeep tokens = (at : ℕ) → IsTooDeep at tokens → ⊥
