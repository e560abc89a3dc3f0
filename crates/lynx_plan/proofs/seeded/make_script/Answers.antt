use Rattle.std.proofs.Common.{◌≡◌, length}
use Rattle.std.specs.List.{All}
use Rattle.charlotte_calls.specs.Setting.{IsValid}
use Rattle.lynx_plan.specs.ScriptText.{AreRisingLines, FitsWhat}
use Rattle.lynx_plan.proofs.Drawn.{of_seed, script_valid, script_fits, script_rises, script_count}
use Rattle.lynx_plan.proofs.seeded.make_script.Goals as goal

pub returns-clause-valid : goal.returns-clause-valid
returns-clause-valid c = of_seed (λ s. IsValid s.setting) c.args.seed c.seeded_script.result (script_valid c.args.seed) c.seeded_script.ensures

pub returns-clause-calls : goal.returns-clause-calls
returns-clause-calls c = of_seed (λ s. All (λ l. FitsWhat s.setting l.what) s.lines) c.args.seed c.seeded_script.result (script_fits c.args.seed) c.seeded_script.ensures

pub returns-clause-rising : goal.returns-clause-rising
returns-clause-rising c = of_seed (λ s. AreRisingLines s.lines) c.args.seed c.seeded_script.result (script_rises c.args.seed) c.seeded_script.ensures

pub returns-clause-count : goal.returns-clause-count
returns-clause-count c = of_seed (λ s. length s.lines ≡ 10100) c.args.seed c.seeded_script.result (script_count c.args.seed) c.seeded_script.ensures
