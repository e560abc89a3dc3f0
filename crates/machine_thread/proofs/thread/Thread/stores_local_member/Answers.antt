use Rattle.std.proofs.Common.{false, rules, ◌∙◌}
use Rattle.std.proofs.lemmas.Int.{to_z-of_z}
use mir.Syntax.{w64}
use mir.Val.{SFits}
use Rattle.machine_thread.proofs.Answering.{where_ok}
use Rattle.machine_thread.proofs.Members.{local_refused, unchanged}
use Rattle.machine_thread.proofs.thread.Thread.stores_local_member.Goals as goal

pub returns-in-Err : goal.returns-in-Err
returns-in-Err c =
    let number_fits : SFits w64 c.pop_int-number.result = search rules in
    let index_fits : SFits w64 c.pop_int-index.result = search rules in
    let set = simp to_z-of_z at c.set_member.ensures in
    let once = simp to_z-of_z at c.in_ok-push_int.ensures in
    let twice = simp to_z-of_z at c.in_ok-push_int-2.ensures in
    let kept = unchanged c.args.slot c.pop_int-index.result c.pop_int-number.result c.self.inside.locals c.set_member.new.self c.set_member.result c.in-Err.exception c.in-Err.is set in
    where_ok
    c.raises.result
    (λ move is p globals.
    is false globals
    ∙ local_refused c.args.slot c.pop_int-index.result c.pop_int-number.result c.args.self.now c.pop_int-number.new.self c.pop_int-index.new.self c.push_int.new.self c.push_int-in-Err.new.self kept.0 c.in-Err.exception
    c.pop_int-number.ensures
    c.pop_int-index.ensures
    twice
    kept.3
    globals
    c.set_member.new.self
    _
    c.self.view_is
    kept.1
    once
    kept.2)
    c.raises.ensures
