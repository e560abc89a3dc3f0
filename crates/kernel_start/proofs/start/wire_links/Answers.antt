use Rattle.std.proofs.Common.{◌∙◌, ap, length, slice_index, sym, subst, arith}
use Rattle.end_table.specs.Table.{entries, IfHere, IsIdle}
use Rattle.kernel_step.specs.Start.{wired}
use Rattle.kernel_start.proofs.Wired.{made-wired, table-wired, wired-idle, wired-sound}
use Rattle.kernel_start.proofs.start.wire_links.Goals as goal
use Rattle.kernel_sound.specs.Sound.{IsSound}

pub returns-clause-table : goal.returns-clause-table
returns-clause-table c = table-wired c.args.setting.now c.in_ok-table.field-0 c.args.id c.in_ok-table.ensures.kernel c.in_ok-table.ensures.wired

pub returns-clause-made : goal.returns-clause-made
returns-clause-made c =
    ap (λ q. slice_index c.in_ok-table.field-0.made q) c.from.ensures
    ∙ made-wired c.args.setting.now c.in_ok-table.field-0 c.args.id c.in_ok-table.ensures.kernel c.in_ok-table.ensures.wired (omega (arith, c.requires.valid.limits.kernels))

pub returns-clause-sound : goal.returns-clause-sound
returns-clause-sound c =
    subst (λ m. IsSound c.args.id m (length c.args.setting.now.homes) (entries c.in_ok-table.field-0.table)) (sym (returns-clause-made c))
    (subst (IsSound c.args.id ((wired c.args.setting.now).made c.args.id) (length c.args.setting.now.homes)) (sym (returns-clause-table c))
    (wired-sound c.args.setting.now c.requires.valid c.args.id))

pub returns-clause-idle : goal.returns-clause-idle
returns-clause-idle c = λ e. subst (λ t. IfHere (t e) IsIdle) (sym (returns-clause-table c)) (wired-idle c.args.setting.now c.requires.valid c.args.id e)
