-- Code of modules that were checked can be run.
use Rattle.lynx_code.specs.Checked.{IsCheckedCode}
use Rattle.lynx_code.specs.declared.code.Code.{Code}
use Rattle.compiler_runnable.specs.Runnable.{IsRunnable}

abbrev pub CheckedCodeIsRunnable : Type 0
CheckedCodeIsRunnable = (made : Code) → IsCheckedCode made → IsRunnable made
