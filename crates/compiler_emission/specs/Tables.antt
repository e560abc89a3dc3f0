-- The tables of a module, and the names that they make known.
use Rattle.std.specs.Prelude.{◌<◌, ◌+◌, length, unwrap_or}
use Rattle.lynx_code.specs.Generation.{Names}
use Rattle.lynx_tree.specs.Grammar.{AreStmts}
use Rattle.lynx_tree.specs.Trees.{EntryTree, ModuleTree}
use Rattle.lynx_code.specs.Modules.{slot_at, global_names, op_names, entry_names}
use Rattle.compiler_emission.specs.Places.{found, IsTableOf}
use Rattle.compiler_emission.specs.declared.scope.Scope.{Scope}
use Rattle.compiler_emission.specs.declared.tables.Tables.{Tables}

-- what names stand for by their tables
abbrev pub names_in : Scope → Names
names_in scope =
    record {
      slot = λ name. slot_at (found scope.locals.now name) (unwrap_or (found scope.tables.now.globals name) 0);
      op = λ name. unwrap_or (found scope.tables.now.ops name) 0;
      entry = λ name. unwrap_or (found scope.tables.now.entries name) 0;
    }

-- the tables of the names of a module
pub record AreTablesOf (m : ModuleTree) (tables : Tables) : Type 0 where
  pub globals : IsTableOf (global_names m) tables.globals
  pub ops : IsTableOf (op_names m) tables.ops
  pub entries : IsTableOf (entry_names m) tables.entries

-- an entry whose locals can be numbered, and whose body is one of the grammar
abbrev pub IsFit : EntryTree → Type 0
IsFit e = (length e.parameters + length e.vars < 4294967296) × AreStmts e.body
