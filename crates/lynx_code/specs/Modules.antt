-- The code of a module.
use Rattle.std.specs.Prelude.{◌≡◌, ℕ, ◌+◌, List, [], ◌∷◌, ◌++◌, length, map, Option}
use Rattle.std.specs.Prelude.{Some, None, if◌then◌else◌, option_map, unwrap_or, codes}
use Rattle.std.specs.Str.{bytes_eq}
use Rattle.lynx_tree.specs.Trees.{ModuleTree, EntryTree, OpTree, VarTree, StmtTrees}
use Rattle.lynx_tree.specs.declared.declaration.TypeName.{TypeName}
use Rattle.typing_rules.specs.Names.{arguments_of, known, module_scope}
use Rattle.typing_rules.specs.Signatures.{signature_text}
use Rattle.lynx_code.specs.Generation.{Names, Slot, Global, Local, stmts_code}
use Rattle.lynx_code.specs.declared.code.Code.{Code}
use Rattle.lynx_code.specs.declared.code.CodeOp.{CodeOp}
use Rattle.lynx_code.specs.declared.code.Part.{Part}
use Rattle.lynx_code.specs.declared.instruction.Instruction.{Instruction}
use Rattle.lynx_code.specs.declared.instruction.Instruction.TheVariants as code

-- a part: its instructions begin at its start
pub record PartCode : Type 0 where
  pub name : List ℕ
  pub op : Option ℕ
  pub start : ℕ
  pub locals : List TypeName
  pub instructions : List Instruction

-- ---- names

abbrev pub variables : ModuleTree → List VarTree
variables m = m.params ++ m.vars

abbrev pub global_names : ModuleTree → List (List ℕ)
global_names m = map (λ v. v.name) (variables m)

abbrev pub op_names : ModuleTree → List (List ℕ)
op_names m = map (λ op. op.name) m.ops

abbrev pub entry_names : ModuleTree → List (List ℕ)
entry_names m = map (λ e. e.name) m.entries

-- the parameters of an entry, and then its variables
abbrev pub local_names : EntryTree → List (List ℕ)
local_names e = e.parameters ++ map (λ v. v.name) e.vars

-- the place of a name in a list, from 0
abbrev pub place_in : List (List ℕ) → List ℕ → Option ℕ
place_in [] name = None
place_in (n ∷ ns) name = if bytes_eq n name then Some 0 else option_map (λ place. place + 1) (place_in ns name)

-- of a name that stands there
abbrev pub index_of : List (List ℕ) → List ℕ → ℕ
index_of names name = unwrap_or (place_in names name) 0

-- a local hides a variable of the module
abbrev pub slot_at : Option ℕ → ℕ → Slot
slot_at (Some place) outside = Local place
slot_at None outside = Global outside

-- what names stand for where these are local
abbrev pub names_of : ModuleTree → List (List ℕ) → Names
names_of m locals =
    record {
      slot = λ name. slot_at (place_in locals name) (index_of (global_names m) name);
      op = index_of (op_names m);
      entry = index_of (entry_names m);
    }

-- ---- parts

-- a body that begins at this address, and its end
abbrev pub body_code : Names → ℕ → StmtTrees → List Instruction
body_code names at body = stmts_code names at body ++ code.End ∷ []

abbrev pub main_part : ModuleTree → PartCode
main_part m = record { name = codes "main"; op = None; start = 0; locals = []; instructions = body_code (names_of m []) 0 m.body }

-- an entry's parameters have the types of its op's arguments
abbrev pub entry_part : ModuleTree → ℕ → EntryTree → PartCode
entry_part m at e =
    record {
      name = e.name;
      op = Some (index_of (op_names m) e.op);
      start = at;
      locals = known (arguments_of (module_scope m e.op)) ++ map (λ v. v.kind) e.vars;
      instructions = body_code (names_of m (local_names e)) at e.body;
    }

-- entries one after the other, from this address on
abbrev pub entry_parts : ModuleTree → ℕ → List EntryTree → List PartCode
entry_parts m at [] = []
entry_parts m at (e ∷ es) =
    let part = entry_part m at e in
    part ∷ entry_parts m (at + length part.instructions) es

abbrev pub parts_of : ModuleTree → List PartCode
parts_of m =
    let main = main_part m in
    main ∷ entry_parts m (length main.instructions) m.entries

abbrev pub instructions_of : List PartCode → List Instruction
instructions_of [] = []
instructions_of (p ∷ ps) = p.instructions ++ instructions_of ps

-- all instructions of a module
abbrev pub module_code : ModuleTree → List Instruction
module_code m = instructions_of (parts_of m)

-- ---- the value

abbrev pub IsPartOf : PartCode → Part → Type 0
IsPartOf p part = (part.name ≡ p.name) × (part.op ≡ p.op) × (part.start ≡ p.start) × (part.locals.items ≡ p.locals)

abbrev pub IsOpOf : OpTree → CodeOp → Type 0
IsOpOf op made = (made.signature.items ≡ signature_text op) × (made.arguments.items ≡ op.arguments) × (made.results.items ≡ op.results)

abbrev pub ArePairs : {X Y : Type 0} → (X → Y → Type 0) → List X → List Y → Type 0
ArePairs P [] [] = Unit {0}
ArePairs P [] (y ∷ ys) = ⊥
ArePairs P (x ∷ xs) [] = ⊥
ArePairs P (x ∷ xs) (y ∷ ys) = P x y × ArePairs P xs ys

-- this is the code of a module
pub record IsCodeOf (m : ModuleTree) (made : Code) : Type 0 where
  pub name : made.name ≡ m.name
  pub globals : made.globals.items ≡ map (λ v. v.kind) (variables m)
  pub params : made.params ≡ length m.params
  pub ops : ArePairs IsOpOf m.ops made.ops.items
  pub parts : ArePairs IsPartOf (parts_of m) made.parts.items
  pub instructions : made.instructions.items ≡ module_code m
