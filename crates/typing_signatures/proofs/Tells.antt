-- A signature is cut at its signs: 40 is `(` and 41 is `)`.
use Rattle.std.proofs.Common.{◌≡◌, ℕ, ℤ, pos, negsuc, List, [], ◌∷◌, ◌++◌, true, nat_le, FitsSigned, codes, drop}
use Rattle.std.proofs.Common.{append_assoc, sym, ap, ◌∙◌, arith, true≢false}
use Rattle.std.specs.Int.{w64}
use Rattle.std.specs.List.{AllByRecursion}
use Rattle.std.proofs.lemmas.Bool.{and_parts, leb-true}
use Rattle.lynx_tree.specs.Trees.{OpTree}
use Rattle.lynx_tree.specs.declared.declaration.TypeName.{TypeName}
use Rattle.lynx_tree.specs.declared.declaration.TypeName.TheVariants as types
use Rattle.typing_rules.specs.Types.{has_length, is_length}
use Rattle.typing_rules.specs.Signatures.{signature_text, types_text}
use Rattle.typing_signatures.specs.Law.{FactsMakeOp, FitsI64, IsOp, SignatureTellsOp}
use Rattle.typing_signatures.specs.Facts.{HaveLengths}
use Rattle.typing_signatures.proofs.Cuts.{cut}
use Rattle.typing_signatures.proofs.Texts.{first_types, name_above}

-- what stands behind the name
abbrev results_behind : OpTree → List ℕ
results_behind op = types_text op.results ++ codes ")"

abbrev arguments_behind : OpTree → List ℕ
arguments_behind op = types_text op.arguments ++ (codes "):(" ++ results_behind op)

-- with the brackets of `++` to the right
to_right : (op : OpTree) → signature_text op ≡ op.name ++ (codes "(" ++ arguments_behind op)
to_right op =
    let name = op.name ++ codes "(" in
    let arguments = types_text op.arguments in
    append_assoc (name ++ arguments ++ codes "):(") (types_text op.results) (codes ")")
    ∙ append_assoc (name ++ arguments) (codes "):(") (results_behind op)
    ∙ append_assoc name arguments (codes "):(" ++ results_behind op)
    ∙ append_assoc op.name (codes "(") (arguments_behind op)

tells : (a b : OpTree) → IsOp a → IsOp b → signature_text a ≡ signature_text b → a ≡ b
tells a b a-is b-is e =
    let whole = sym (to_right a) ∙ e ∙ to_right b in
    let names = cut 40 a.name b.name _ _ (name_above a.name a-is.named) (name_above b.name b-is.named) (omega arith) (omega arith) whole in
    let arguments = first_types a.arguments b.arguments _ _ a-is.arguments b-is.arguments (omega arith) (omega arith) (ap (drop 1) names.1) in
    let results = first_types a.results b.results _ _ a-is.results b-is.results (omega arith) (omega arith) (ap (drop 3) arguments.1) in
    λ i. record { name = names.0 i; arguments = arguments.0 i; results = results.0 i }

pub law : SignatureTellsOp
law a b a-is b-is = (tells a b a-is b-is, ap signature_text)

-- ---- rows of 1 to 16 numbers

length_fits : (n : ℤ) → is_length n ≡ true → FitsSigned w64 n
length_fits (pos n) is = record { sfits = omega (arith, leb-true n 16 (and_parts (nat_le 1 n) (nat_le n 16) is).1) }
length_fits (negsuc n) is = absurd (true≢false (sym is))

type_fits : (t : TypeName) → has_length t ≡ true → FitsI64 t
type_fits types.Int is = tt
type_fits types.Bool is = tt
type_fits types.Text is = tt
type_fits types.Link is = tt
type_fits (types.Row n) is = length_fits n is

types_fit : (ts : List TypeName) → HaveLengths ts → AllByRecursion FitsI64 ts
types_fit [] have = tt
types_fit (t ∷ ts) have = (type_fits t have.0, types_fit ts have.1)

pub facts-op : FactsMakeOp
facts-op op facts = record { named = facts.named; arguments = types_fit op.arguments facts.arguments; results = types_fit op.results facts.results }
