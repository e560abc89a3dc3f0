use Rattle.std.proofs.Common.{map, ap}
use Rattle.lynx_load.proofs.Starting.{first_checked, fit_parts, others_checked}
use Rattle.lynx_load.proofs.programs.start_one.Goals as goal

pub start_role-requires-clause-checked : goal.start_role-requires-clause-checked
start_role-requires-clause-checked c = first_checked c.args.codes.now.items c.first_of-code.result c.first_of-code.new.list.items c.first_of-code.ensures c.requires.checked

pub start_role-requires-clause-fit : goal.start_role-requires-clause-fit
start_role-requires-clause-fit c =
    (fit_parts c.args.codes.now.items _ c.first_of-code.result c.first_of-code.new.list.items c.first_of-ends.result.items _ c.first_of-code.ensures (ap (map (λ ends. ends.items)) c.first_of-ends.ensures) c.requires.fit).0

pub returns-clause-started : goal.returns-clause-started
returns-clause-started c = (
  c.first_of-code.result,
  c.first_of-ends.result.items,
  c.in_ok-start_role.field-0,
  c.first_of-code.ensures,
  ap (map (λ ends. ends.items)) c.first_of-ends.ensures,
  c.in_ok-start_role.ensures,
  c.in_ok-push.ensures.items,
)

pub returns-clause-checked : goal.returns-clause-checked
returns-clause-checked c = others_checked c.args.codes.now.items c.first_of-code.result c.first_of-code.new.list.items c.first_of-code.ensures c.requires.checked
