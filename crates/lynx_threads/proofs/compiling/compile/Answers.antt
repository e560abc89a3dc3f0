use Rattle.std.proofs.Common.{◌<◌, length, sym, subst}
use Rattle.std.specs.Prelude.{IfOk}
use Rattle.std.proofs.lemmas.Result.{IfOk-weaker}
use Rattle.lynx_tree.specs.Grammar.{HasTokens, module_marks}
use Rattle.lynx_tree.specs.Trees.{module_tree}
use Rattle.lynx_tree.specs.declared.module.Module.{Module}
use Rattle.lynx_code.specs.Checked.{IsCheckedCode}
use Rattle.lynx_code.specs.Modules.{IsCodeOf, module_code}
use Rattle.lynx_threads.specs.Agreement.{AgreesWithSource}
use Rattle.lynx_threads.proofs.Agreement.{agrees}
use Rattle.lynx_threads.proofs.compiling.compile.Goals as goal

pub code_of-requires-clause-grammar : goal.code_of-requires-clause-grammar
code_of-requires-clause-grammar c = subst (λ (m : Module). HasTokens (module_tree m)) (sym c.module.ensures.module) c.module.ensures.checked.grammar

pub code_of-requires-clause-fits : goal.code_of-requires-clause-fits
code_of-requires-clause-fits c = subst (λ (m : Module). length (module_marks (module_tree m)) < 4294967296) (sym c.module.ensures.module) c.module.ensures.checked.fits

pub returns-clause-agrees : goal.returns-clause-agrees
returns-clause-agrees c =
    let m = module_tree c.args.checked.now in
    let is = subst (λ (t : Module). IfOk c.code_of.result (IsCodeOf (module_tree t))) c.module.ensures.module c.code_of.ensures.code in
    IfOk-weaker c.code_of.result (IsCodeOf m) (AgreesWithSource m) (agrees m c.module.ensures.checked.grammar c.module.ensures.checked.well_typed) is

pub returns-clause-checked : goal.returns-clause-checked
returns-clause-checked c =
    let m = module_tree c.args.checked.now in
    let is = subst (λ (t : Module). IfOk c.code_of.result (IsCodeOf (module_tree t))) c.module.ensures.module c.code_of.ensures.code in
    IfOk-weaker c.code_of.result (IsCodeOf m) IsCheckedCode (λ made code. record { tree = m; checked = c.module.ensures.checked; code = code }) is

pub returns-clause-long : goal.returns-clause-long
returns-clause-long c h = subst (λ (m : Module). 65535 < length (module_code (module_tree m))) c.module.ensures.module (c.code_of.ensures.long h)
