-- Code of which the same is told is the code of the same modules.
use Rattle.std.proofs.Common.{◌≡◌, List, [], ◌∷◌, map, ap, ◌∙◌}
use Rattle.lynx_tree.specs.Trees.{ModuleTree, OpTree}
use Rattle.lynx_code.specs.declared.code.Code.{Code}
use Rattle.lynx_code.specs.declared.code.CodeOp.{CodeOp}
use Rattle.lynx_code.specs.declared.code.Part.{Part}
use Rattle.lynx_code.specs.Checked.{IsCheckedCode}
use Rattle.lynx_code.specs.Modules.{ArePairs, IsCodeOf, IsOpOf, IsPartOf, PartCode, parts_of}
use Rattle.lynx_code.specs.Told.{CodeTold, OpTold, PartTold, code_told, op_told, part_told}

same_pairs : {X Y T : Type 0} (P : X → Y → Type 0) (told : Y → T) → ((x : X) (a b : Y) → told a ≡ told b → P x b → P x a)
    → (ps : List X) (xs ys : List Y) → map told xs ≡ map told ys → ArePairs P ps ys → ArePairs P ps xs
same_pairs P told moves [] [] ys e are = tt
same_pairs P told moves [] (x ∷ xs) [] e are = cc
same_pairs P told moves [] (x ∷ xs) (y ∷ ys) e are = absurd are
same_pairs P told moves (p ∷ ps) [] [] e are = are
same_pairs P told moves (p ∷ ps) [] (y ∷ ys) e are = cc
same_pairs P told moves (p ∷ ps) (x ∷ xs) [] e are = absurd are
same_pairs P told moves (p ∷ ps) (x ∷ xs) (y ∷ ys) e are = (moves p x y (cc) are.0, same_pairs P told moves ps xs ys (cc) are.1)

op_stays : (op : OpTree) (a b : CodeOp) → op_told a ≡ op_told b → IsOpOf op b → IsOpOf op a
op_stays op a b e is =
    (ap (λ (t : OpTold). t.signature) e ∙ is.0, ap (λ (t : OpTold). t.arguments) e ∙ is.1, ap (λ (t : OpTold). t.results) e ∙ is.2)

part_stays : (p : PartCode) (a b : Part) → part_told a ≡ part_told b → IsPartOf p b → IsPartOf p a
part_stays p a b e is = (
  ap (λ (t : PartTold). t.name) e ∙ is.0,
  ap (λ (t : PartTold). t.op) e ∙ is.1,
  ap (λ (t : PartTold). t.start) e ∙ is.2,
  ap (λ (t : PartTold). t.locals) e ∙ is.3,
)

pub code_stays : (m : ModuleTree) (copy made : Code) → code_told copy ≡ code_told made → IsCodeOf m made → IsCodeOf m copy
code_stays m copy made e is = record {
  name = ap (λ (t : CodeTold). t.name) e ∙ is.name;
  globals = ap (λ (t : CodeTold). t.globals) e ∙ is.globals;
  params = ap (λ (t : CodeTold). t.params) e ∙ is.params;
  ops = same_pairs IsOpOf op_told op_stays m.ops copy.ops.items made.ops.items (ap (λ (t : CodeTold). t.ops) e) is.ops;
  parts = same_pairs IsPartOf part_told part_stays (parts_of m) copy.parts.items made.parts.items (ap (λ (t : CodeTold). t.parts) e) is.parts;
  instructions = ap (λ (t : CodeTold). t.instructions) e ∙ is.instructions;
}

pub checked_stays : (copy made : Code) → code_told copy ≡ code_told made → IsCheckedCode made → IsCheckedCode copy
checked_stays copy made e is = record { tree = is.tree; checked = is.checked; code = code_stays is.tree copy made e is.code }
