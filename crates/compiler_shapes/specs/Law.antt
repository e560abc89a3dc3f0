-- The code of modules is shaped.
use Rattle.std.specs.List.{AllByRecursion}
use Rattle.lynx_tree.specs.Grammar.{HasTokens, kinds_of}
use Rattle.lynx_tree.specs.Printing.{IsPrintable}
use Rattle.lynx_tree.specs.Trees.{ModuleTree}
use Rattle.typing_rules.specs.Modules.{IsWellTyped}
use Rattle.lynx_code.specs.Modules.{IsCodeOf}
use Rattle.lynx_code.specs.declared.code.Code.{Code}
use Rattle.code_shapes.specs.Shapes.{IsShapedCode}

-- of each module of the grammar whose literals are tokens, and in which no rule fails
abbrev pub ModuleCodeIsShaped : Type 0
ModuleCodeIsShaped =
    (m : ModuleTree) (made : Code) → HasTokens m → AllByRecursion IsPrintable (kinds_of m) → IsWellTyped m → IsCodeOf m made
    → IsShapedCode made
