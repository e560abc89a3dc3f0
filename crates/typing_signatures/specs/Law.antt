-- A signature tells the name and the types of its op.
use Rattle.std.specs.Prelude.{◌≡◌, ◌↔◌, ⊤, FitsSigned}
use Rattle.std.specs.Int.{w64}
use Rattle.std.specs.List.{AllByRecursion}
use Rattle.lynx_tree.specs.Trees.{OpTree}
use Rattle.lynx_tree.specs.declared.declaration.TypeName.{TypeName}
use Rattle.lynx_tree.specs.declared.declaration.TypeName.TheVariants as types
use Rattle.typing_rules.specs.Signatures.{signature_text}
use Rattle.typing_signatures.specs.Facts.{HasFacts, IsName}

-- the length of a row is an i64, as it is in every tree that a program holds
abbrev pub FitsI64 : TypeName → Type 0
FitsI64 (types.Row n) = FitsSigned w64 n
FitsI64 _ = ⊤

-- an op whose name is a name of the language
pub record IsOp (op : OpTree) : Type 0 where
  pub named : IsName op.name
  pub arguments : AllByRecursion FitsI64 op.arguments
  pub results : AllByRecursion FitsI64 op.results

-- two ops have one signature exactly where they are one op: with the same name, argument types and result types
abbrev pub SignatureTellsOp : Type 0
SignatureTellsOp = (a b : OpTree) → IsOp a → IsOp b → (signature_text a ≡ signature_text b) ↔ (a ≡ b)

-- an op with facts is such an op, since its rows have 1 to 16 numbers
abbrev pub FactsMakeOp : Type 0
FactsMakeOp = (op : OpTree) → HasFacts op → IsOp op
