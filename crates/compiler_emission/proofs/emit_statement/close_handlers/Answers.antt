use Rattle.std.proofs.Common.{◌≡◌, ◌+◌, ◌-◌, ◌++◌, refl, subst, arith}
use Rattle.lynx_code.specs.Generation.{handlers_code}
use Rattle.compiler_emission.proofs.Closing.{Closing, next_closed, all_closed}
use Rattle.compiler_emission.proofs.emit_statement.close_handlers.Goals as goal

pub loop-done-init : goal.loop-done-init
loop-done-init c names before rest handlers place count is = record { before = before; rest = rest; handlers = handlers; place = place; count = omega (arith, count); is = is; goal = refl }

pub loop-done-preserved : goal.loop-done-preserved
loop-done-preserved c names before rest handlers place count is =
    let wanted = before ++ (handlers_code names c.args.end c.args.first handlers ++ rest) in
    let one_more : c.args.count - c.loop-done._done ≡ c.args.count - (c.loop-done._done + 1) + 1 = omega arith in
    next_closed names c.args.end c.loop-done.code.items c.close_handler-at.new.code.items c.loop-done.at (c.args.count - (c.loop-done._done + 1)) c.close_handler-at.result wanted
    (subst (λ n. Closing names c.args.end c.loop-done.code.items c.loop-done.at n wanted) one_more (c.loop-done.invariant names before rest handlers place count is)) c.close_handler-at.ensures

pub returns : goal.returns
returns c names before rest handlers place count is =
    all_closed names c.args.end c.loop-done.code.items c.loop-done.at (c.args.count - c.loop-done._done) (before ++ (handlers_code names c.args.end c.args.first handlers ++ rest)) (omega arith) (c.loop-done.invariant names before rest handlers place count is)
