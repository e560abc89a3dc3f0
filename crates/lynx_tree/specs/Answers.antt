-- What `parse` answers.
use Rattle.std.specs.Prelude.{◌≡◌, List, map, Result, Ok, Err, ⊤}
use Rattle.lynx_lexer.specs.declared.token.Kind.{Kind}
use Rattle.lynx_lexer.specs.declared.token.Token.{Token}
use Rattle.lynx_tree.specs.declared.fault.SyntaxFault.{SyntaxFault}
use Rattle.lynx_tree.specs.declared.module.Module.{Module}
use Rattle.lynx_tree.specs.declared.fault.SyntaxFault.TheVariants as faults
use Rattle.lynx_tree.specs.Trees.{ModuleTree, module_tree}
use Rattle.lynx_tree.specs.Grammar.{IsModule, module_marks}
use Rattle.lynx_tree.specs.Faults.{LeavesGrammar, IsNested, IsTooDeep, IsNowhereTooDeep}

abbrev pub kinds : List Token → List Kind
kinds tokens = map (λ (t : Token). t.kind) tokens

-- the tree has these tokens, and no more are open at any of them than may be
abbrev pub IsTreeOf : List Kind → ModuleTree → Type 0
IsTreeOf tokens m = IsModule m tokens × IsNested (module_marks m)

-- the answer is this tree, unless memory ran out
abbrev pub GivesTree : ModuleTree → Result Module SyntaxFault → Type 0
GivesTree m (Ok found) = module_tree found ≡ m
GivesTree m (Err (faults.At at)) = ⊥
GivesTree m (Err (faults.TooDeep at)) = ⊥
GivesTree m (Err faults.NoMemory) = ⊤

-- the answer is this fault, unless memory ran out
abbrev pub GivesFault : SyntaxFault → Result Module SyntaxFault → Type 0
GivesFault fault (Ok found) = ⊥
GivesFault fault (Err (faults.At at)) = faults.At at ≡ fault
GivesFault fault (Err (faults.TooDeep at)) = faults.TooDeep at ≡ fault
GivesFault fault (Err faults.NoMemory) = ⊤

-- a fault at a token: the list leaves the grammar there, and no token before opens too much; one of nesting:
-- the token is the first that does
abbrev pub IsFaultOf : List Kind → SyntaxFault → Type 0
IsFaultOf tokens (faults.At at) = LeavesGrammar at tokens × IsNowhereTooDeep tokens
IsFaultOf tokens (faults.TooDeep at) = IsTooDeep at tokens
IsFaultOf tokens faults.NoMemory = ⊤
