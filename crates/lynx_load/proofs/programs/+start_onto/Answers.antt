use Rattle.std.proofs.Common.{map}
use Rattle.std.proofs.lemmas.Result.{on_ok_weaker}
use Rattle.lynx_load.proofs.Starting.{one_onto}
use Rattle.lynx_load.proofs.programs.+start_onto.Goals as goal

pub returns : goal.returns
returns t c =
    on_ok_weaker c.start_onto.result
    (λ rest. one_onto c.args.version c.args.codes.now.items (map (λ ends. ends.items) c.args.each.now.items) c.start_one.new.codes.items (map (λ ends. ends.items) c.start_one.new.each.items)
    c.args.roles.now.items c.start_one.new.roles.items c.start_onto.new.roles.items c.in_ok-start_one.ensures.started rest)
    c.start_onto.ensures
