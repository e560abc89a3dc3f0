-- Code of modules that were checked.
use Rattle.lynx_tree.specs.Trees.{ModuleTree}
use Rattle.typing_signatures.specs.Checked.{IsChecked}
use Rattle.lynx_code.specs.Modules.{IsCodeOf}
use Rattle.lynx_code.specs.declared.code.Code.{Code}

-- the code of a module that was checked
pub record IsCheckedCode (made : Code) : Type 0 where
  pub tree : ModuleTree
  pub checked : IsChecked tree
  pub code : IsCodeOf tree made
