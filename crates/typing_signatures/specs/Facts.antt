-- What is true of each op of a module that breaks no rule.
use Rattle.std.specs.Prelude.{ℕ, ◌≤◌, List, length, IsTrue}
use Rattle.std.specs.List.{AllByRecursion}
use Rattle.lynx_lexer.specs.Bytes.{most_name}
use Rattle.lynx_lexer.specs.Pieces.{IsToken}
use Rattle.lynx_lexer.specs.declared.token.Kind.TheVariants as kinds
use Rattle.lynx_tree.specs.Grammar.{kinds_of}
use Rattle.lynx_tree.specs.Printing.{IsPrintable}
use Rattle.lynx_tree.specs.Trees.{ModuleTree, OpTree}
use Rattle.lynx_tree.specs.declared.declaration.TypeName.{TypeName}
use Rattle.typing_rules.specs.Modules.{IsWellTyped}
use Rattle.typing_rules.specs.Signatures.{links_among, signature_text, widest_reply, widest_request}
use Rattle.typing_rules.specs.Types.{has_length}

-- the most links among an op's arguments, and among its results
abbrev pub most_links : ℕ
most_links = 8

-- the most bytes of a packet
abbrev pub most_packet : ℕ
most_packet = 256

-- the most bytes of a signature, which stands in a request behind 6 others
abbrev pub most_signature : ℕ
most_signature = 250

-- the bytes spell a name of the language: a word that is no keyword
abbrev pub IsName : List ℕ → Type 0
IsName name = IsToken (kinds.Name name) name

-- each row has 1 to 16 numbers
abbrev pub HaveLengths : List TypeName → Type 0
HaveLengths ts = AllByRecursion (λ t. IsTrue (has_length t)) ts

-- the facts of an op
pub record HasFacts (op : OpTree) : Type 0 where
  pub named : IsName op.name
  pub short_name : length op.name ≤ most_name
  pub arguments : HaveLengths op.arguments
  pub results : HaveLengths op.results
  pub few_arguments : links_among op.arguments ≤ most_links
  pub few_results : links_among op.results ≤ most_links
  pub request : widest_request op ≤ most_packet
  pub reply : widest_reply op ≤ most_packet
  pub signature : length (signature_text op) ≤ most_signature

-- each op of a module has them, where the module's tokens are within the limits and no rule fails
abbrev pub OpsHaveFacts : Type 0
OpsHaveFacts = (m : ModuleTree) → AllByRecursion IsPrintable (kinds_of m) → IsWellTyped m → AllByRecursion HasFacts m.ops
