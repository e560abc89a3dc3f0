-- What is told of code: all of it but where it stands in memory.
use Rattle.std.specs.Prelude.{ℕ, List, map, Option}
use Rattle.lynx_tree.specs.declared.declaration.TypeName.{TypeName}
use Rattle.lynx_code.specs.declared.code.Code.{Code}
use Rattle.lynx_code.specs.declared.code.CodeOp.{CodeOp}
use Rattle.lynx_code.specs.declared.code.Part.{Part}
use Rattle.lynx_code.specs.declared.instruction.Instruction.{Instruction}

pub record OpTold : Type 0 where
  pub signature : List ℕ
  pub arguments : List TypeName
  pub results : List TypeName

pub record PartTold : Type 0 where
  pub name : List ℕ
  pub op : Option ℕ
  pub start : ℕ
  pub locals : List TypeName

pub record CodeTold : Type 0 where
  pub name : List ℕ
  pub globals : List TypeName
  pub params : ℕ
  pub ops : List OpTold
  pub parts : List PartTold
  pub instructions : List Instruction

abbrev pub op_told : CodeOp → OpTold
op_told op = record { signature = op.signature.items; arguments = op.arguments.items; results = op.results.items }

abbrev pub part_told : Part → PartTold
part_told part = record { name = part.name; op = part.op; start = part.start; locals = part.locals.items }

abbrev pub code_told : Code → CodeTold
code_told made =
    record {
      name = made.name;
      globals = made.globals.items;
      params = made.params;
      ops = map op_told made.ops.items;
      parts = map part_told made.parts.items;
      instructions = made.instructions.items;
    }
