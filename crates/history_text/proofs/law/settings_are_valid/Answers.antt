use Rattle.history_text.proofs.Valid.{setting_is_valid}
use Rattle.history_text.proofs.law.settings_are_valid.Goals as goal

pub returns : goal.returns
returns c = setting_is_valid
