-- The listing of code.
use Rattle.std.specs.Prelude.{ℕ, ◌+◌, ◌-◌, List, [], ◌∷◌, ◌++◌, length, take, drop, true, false, codes, decimal}
use Rattle.std.specs.Fmt.{signed_decimal}
use Rattle.lynx_tree.specs.Trees.{ModuleTree}
use Rattle.typing_rules.specs.Exceptions.{exception_text}
use Rattle.lynx_code.specs.Modules.{PartCode, parts_of}
use Rattle.lynx_code.specs.declared.code.Code.{Code}
use Rattle.lynx_code.specs.declared.code.Part.{Part}
use Rattle.lynx_code.specs.declared.instruction.Instruction.{Instruction}
use Rattle.lynx_code.specs.declared.instruction.Instruction.TheVariants as code
use Rattle.lynx_code.specs.declared.instruction.Literal.{Literal}
use Rattle.lynx_code.specs.declared.instruction.Literal.TheVariants as literal

-- a text stands in its quotes
abbrev pub literal_text : Literal → List ℕ
literal_text (literal.Int n) = signed_decimal n
literal_text (literal.Bool true) = codes "true"
literal_text (literal.Bool false) = codes "false"
literal_text (literal.Text inside) = codes "'" ++ inside ++ codes "'"

abbrev pub instruction_text : Instruction → List ℕ
instruction_text (code.Push l) = codes "push " ++ literal_text l
instruction_text (code.LoadG slot) = codes "loadg " ++ decimal slot
instruction_text (code.LoadL slot) = codes "loadl " ++ decimal slot
instruction_text (code.AtG slot) = codes "atg " ++ decimal slot
instruction_text (code.AtL slot) = codes "atl " ++ decimal slot
instruction_text (code.StoreG slot) = codes "storeg " ++ decimal slot
instruction_text (code.StoreL slot) = codes "storel " ++ decimal slot
instruction_text (code.PutG slot) = codes "putg " ++ decimal slot
instruction_text (code.PutL slot) = codes "putl " ++ decimal slot
instruction_text code.Add = codes "add"
instruction_text code.Sub = codes "sub"
instruction_text code.Mul = codes "mul"
instruction_text code.Div = codes "div"
instruction_text code.Mod = codes "mod"
instruction_text code.Neg = codes "neg"
instruction_text code.Eq = codes "eq"
instruction_text code.Ne = codes "ne"
instruction_text code.Lt = codes "lt"
instruction_text code.Le = codes "le"
instruction_text code.Gt = codes "gt"
instruction_text code.Ge = codes "ge"
instruction_text code.Not = codes "not"
instruction_text (code.AndJ address) = codes "andj " ++ decimal address
instruction_text (code.OrJ address) = codes "orj " ++ decimal address
instruction_text (code.JumpF address) = codes "jumpf " ++ decimal address
instruction_text (code.Jump address) = codes "jump " ++ decimal address
instruction_text (code.Await address) = codes "await " ++ decimal address
instruction_text (code.Try address) = codes "try " ++ decimal address
instruction_text code.Write = codes "write"
instruction_text code.New = codes "new"
instruction_text code.Destroy = codes "destroy"
instruction_text code.Close = codes "close"
instruction_text code.Stop = codes "stop"
instruction_text code.Untry = codes "untry"
instruction_text code.Again = codes "again"
instruction_text code.End = codes "end"
instruction_text (code.Bind entry) = codes "bind " ++ decimal entry
instruction_text (code.Unbind entry) = codes "unbind " ++ decimal entry
instruction_text (code.Connect op) = codes "connect " ++ decimal op
instruction_text (code.Accept op) = codes "accept " ++ decimal op
instruction_text (code.Reply count) = codes "reply " ++ decimal count
instruction_text (code.Raise exception) = codes "raise " ++ exception_text exception
instruction_text (code.Case exception address) = codes "case " ++ exception_text exception ++ codes " " ++ decimal address

abbrev pub line_end : List ℕ
line_end = 10 ∷ []

-- the instructions from this address on, each on a line behind its address
abbrev pub lines_text : ℕ → List Instruction → List ℕ
lines_text at [] = []
lines_text at (i ∷ is) = (decimal at ++ codes " " ++ instruction_text i ++ line_end) ++ lines_text (at + 1) is

abbrev pub part_text : PartCode → List ℕ
part_text p = (codes "part " ++ p.name ++ line_end) ++ lines_text p.start p.instructions

abbrev pub parts_text : List PartCode → List ℕ
parts_text [] = []
parts_text (p ∷ ps) = part_text p ++ parts_text ps

-- the name of a module, and then its parts
abbrev pub listing_text : List ℕ → List PartCode → List ℕ
listing_text name parts = (codes "code " ++ name ++ line_end) ++ parts_text parts

-- ---- the parts of code as it is kept

-- a part ends where the next one starts, and the last one at the end of the code
abbrev pub part_end : List Part → ℕ → ℕ
part_end [] all = all
part_end (next ∷ others) all = next.start

abbrev pub part_in : List Instruction → Part → List Part → PartCode
part_in all p others =
    record {
      name = p.name;
      op = p.op;
      start = p.start;
      locals = p.locals.items;
      instructions = take (part_end others (length all) - p.start) (drop p.start all);
    }

abbrev pub parts_in : List Instruction → List Part → List PartCode
parts_in all [] = []
parts_in all (p ∷ ps) = part_in all p ps ∷ parts_in all ps

-- the listing of code
abbrev pub code_listing : Code → List ℕ
code_listing made = listing_text made.name (parts_in made.instructions.items made.parts.items)

-- the listing of the code of a module
abbrev pub module_listing : ModuleTree → List ℕ
module_listing m = listing_text m.name (parts_of m)
