-- The operations of a module.
use Rattle.std.proofs.Common.{arith, ◌≡◌, ℕ, zero, suc, ℤ, pos, negsuc, true, List, [], ◌∷◌, map, Some, None, slice_get, FitsSigned, nat_le, refl, sym, ap, ap₂, ◌∙◌, true≢false}
use Rattle.std.proofs.lemmas.Bool.{and_parts, leb-true}
use Rattle.std.specs.Int.{w64}
use Rattle.std.specs.List.{AllByRecursion}
use Rattle.lynx_tree.specs.Trees.{OpTree}
use Rattle.lynx_tree.specs.declared.declaration.TypeName.{TypeName}
use Rattle.lynx_tree.specs.declared.declaration.TypeName.TheVariants as types
use Rattle.typing_rules.specs.Signatures.{signature_text}
use Rattle.typing_rules.specs.Types.{has_length, is_length}
use Rattle.typing_signatures.specs.Facts.{HasFacts, HaveLengths}
use Rattle.typing_signatures.specs.Law.{FitsI64, IsOp}
use Rattle.typing_signatures.proofs.Tells.{facts-op, law}
use Rattle.lynx_code.specs.declared.code.Code.{Code}
use Rattle.lynx_code.specs.declared.code.CodeOp.{CodeOp}
use Rattle.code_shapes.specs.Shapes.{kept_op}
use Rattle.compiler_runnable.specs.Runnable.{IsRunnable, IsRunnableOp}
use Rattle.lynx_meaning.specs.Needs.{OpTypes, op_types}
use Rattle.lynx_packets.specs.declared.value.RtValue.{RtValue}
use Rattle.lynx_packets.specs.Spelling.{IsOperation, IsRequestOf}
use Rattle.process_run.specs.States.{Module, module_of}
use Rattle.process_sound.specs.Modules.{IsModule, IsOpAt}
use Rattle.process_sound.proofs.Every.{every_at, some_is}

-- ---- by number

from_mapped : {X Y : Type 0} (f : X → Y) (xs : List X) (n : ℕ) (y : Y) → slice_get (map f xs) n ≡ Some y → (x : X) × (slice_get xs n ≡ Some x) × (f x ≡ y)
from_mapped f [] n y at = let no : None ≡ Some y = at in absurd cc
from_mapped f (x ∷ xs) zero y at = (x, refl, some_is (f x) y at)
from_mapped f (x ∷ xs) (suc n) y at = from_mapped f xs n y at

to_mapped : {X Y : Type 0} (f : X → Y) (xs : List X) (n : ℕ) (x : X) → slice_get xs n ≡ Some x → slice_get (map f xs) n ≡ Some (f x)
to_mapped {Y = Y} f [] n x at = let no : None ≡ Some x = at in absurd cc
to_mapped f (x ∷ xs) zero y at = ap (λ z. Some (f z)) (some_is x y at)
to_mapped f (x ∷ xs) (suc n) y at = to_mapped f xs n y at

op_of : (m : Module) (is : IsModule m) (n : ℕ) (op : OpTree) → slice_get is.ops n ≡ Some op → IsOpAt m n op
op_of m is n op at = record {
  facts = every_at HasFacts is.ops n op at is.facts;
  types = ap (λ (os : List OpTypes). slice_get os n) is.types ∙ to_mapped op_types is.ops n op at;
  signature = ap (λ (ss : List (List ℕ)). slice_get ss n) is.signatures ∙ to_mapped signature_text is.ops n op at;
}

-- the operation of this number has such types
pub op_typed : (m : Module) → IsModule m → (n : ℕ) (o : OpTypes) → slice_get m.types.ops n ≡ Some o → (op : OpTree) × IsOpAt m n op × (op_types op ≡ o)
op_typed m is n o at =
    let found = from_mapped op_types is.ops n o (ap (λ (os : List OpTypes). slice_get os n) (sym is.types) ∙ at) in
    (found.0, op_of m is n found.0 found.1, found.2)

-- and has this signature
pub op_signed : (m : Module) → IsModule m → (n : ℕ) (signature : List ℕ) → slice_get m.signatures n ≡ Some signature → (op : OpTree) × IsOpAt m n op × (signature_text op ≡ signature)
op_signed m is n signature at =
    let found = from_mapped signature_text is.ops n signature (ap (λ (ss : List (List ℕ)). slice_get ss n) (sym is.signatures) ∙ at) in
    (found.0, op_of m is n found.0 found.1, found.2)

-- ---- the module of code that can be run

-- what is known of operations of code
abbrev AreOps : List CodeOp → Type 0
AreOps cs = (ops : List OpTree) × AllByRecursion HasFacts ops × (map kept_op cs ≡ map op_types ops) × (map (λ op. op.signature.items) cs ≡ map signature_text ops)

trees : (cs : List CodeOp) → AllByRecursion IsRunnableOp cs → AreOps cs
trees [] all = ([], tt, refl, refl)
trees (c ∷ cs) all =
    let rest = trees cs all.1 in
    let op = all.0.0 in
    let is = all.0.2 in
    let typed : kept_op c ≡ op_types op = λ i. record { arguments = is.1 i; results = is.2 i } in
    (op ∷ rest.0, (all.0.1, rest.1), ap₂ (λ (o : OpTypes) (os : List OpTypes). o ∷ os) typed rest.2, ap₂ (λ (s : List ℕ) (ss : List (List ℕ)). s ∷ ss) is.0 rest.3)

pub runnable_module : (code : Code) → IsRunnable code → IsModule (module_of code)
runnable_module code is = let all = trees code.ops.items is.ops in record { ops = all.0; facts = all.1; types = all.2; signatures = all.3 }

-- ---- a signature tells its operation

length_fits : (n : ℤ) → is_length n ≡ true → FitsSigned w64 n
length_fits (pos n) is = record { sfits = omega (arith, leb-true n 16 (and_parts (nat_le 1 n) (nat_le n 16) is).1) }
length_fits (negsuc n) is = absurd (true≢false (sym is))

type_fits : (t : TypeName) → has_length t ≡ true → FitsI64 t
type_fits (types.Row n) is = length_fits n is
type_fits _ is = tt

types_fit : (ts : List TypeName) → HaveLengths ts → AllByRecursion FitsI64 ts
types_fit [] have = tt
types_fit (t ∷ ts) have = (type_fits t have.0, types_fit ts have.1)

operation_is : (op : OpTree) → IsOperation op → IsOp op
operation_is op is = record { named = (refl, is.name.word, is.name.free); arguments = types_fit op.arguments is.arguments; results = types_fit op.results is.results }

-- a request under the signature of an operation is one of that operation
pub same_op : (m : Module) (n : ℕ) (op other : OpTree) (signature : List ℕ) (vs : List RtValue) → IsOpAt m n op → signature_text op ≡ signature → IsRequestOf other signature vs → other ≡ op
same_op m n op other signature vs at signed is = (law other op (operation_is other is.operation) (facts-op op at.facts)).0 (sym is.spelled ∙ sym signed)
