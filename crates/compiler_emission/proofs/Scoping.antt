-- What names stand for by the tables of a module and of an entry.
use Rattle.std.proofs.Common.{◌≡◌, ℕ, List}
use Rattle.std.specs.Prelude.{unwrap_or}
use Rattle.lynx_tree.specs.Trees.{ModuleTree}
use Rattle.lynx_code.specs.Generation.{Names}
use Rattle.lynx_code.specs.Modules.{slot_at, names_of}
use Rattle.compiler_emission.specs.declared.places.Places.{Places}
use Rattle.compiler_emission.specs.declared.tables.Tables.{Tables}
use Rattle.compiler_emission.specs.Places.{found, IsTableOf}
use Rattle.compiler_emission.specs.Tables.{AreTablesOf}

abbrev pub names_by : Places → Tables → Names
names_by locals tables = record {
  slot = λ name. slot_at (found locals name) (unwrap_or (found tables.globals name) 0);
  op = λ name. unwrap_or (found tables.ops name) 0;
  entry = λ name. unwrap_or (found tables.entries name) 0;
}

pub names_are : (m : ModuleTree) (names : List (List ℕ)) (tables : Tables) (locals : Places) → AreTablesOf m tables → IsTableOf names locals → names_by locals tables ≡ names_of m names
names_are m names tables locals h l = λ i. record {
  slot = λ name. slot_at (l.places name i) (unwrap_or (h.globals.places name i) 0);
  op = λ name. unwrap_or (h.ops.places name i) 0;
  entry = λ name. unwrap_or (h.entries.places name i) 0;
}
