-- What is true of every module that was checked.
use Rattle.std.specs.Prelude.{◌<◌, length}
use Rattle.std.specs.List.{AllByRecursion}
use Rattle.lynx_tree.specs.Grammar.{HasTokens, kinds_of, module_marks}
use Rattle.lynx_tree.specs.Printing.{IsPrintable}
use Rattle.lynx_tree.specs.Trees.{ModuleTree}
use Rattle.typing_rules.specs.Modules.{IsWellTyped}

-- it has tokens by the grammar, each within the limits and not too many of them, and no rule fails in it
pub record IsChecked (m : ModuleTree) : Type 0 where
  pub grammar : HasTokens m
  pub printable : AllByRecursion IsPrintable (kinds_of m)
  pub fits : length (module_marks m) < 4294967296
  pub well_typed : IsWellTyped m
