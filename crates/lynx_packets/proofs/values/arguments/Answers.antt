use Rattle.std.proofs.Common.{◌+◌, drop, arith}
use Rattle.std.proofs.lemmas.Result.{err_from_is_err_and}
use Rattle.lynx_tree.specs.declared.declaration.TypeName.TheVariants as types
use Rattle.lynx_packets.specs.Reading.{arguments_at}
use Rattle.lynx_packets.proofs.Loop.{goes_on, ends, is_done}
use Rattle.lynx_packets.proofs.Steps.{arguments_next, arguments_fail, arguments_end}
use Rattle.lynx_packets.proofs.values.arguments.Goals as goal

pub returns-in_err-value : goal.returns-in_err-value
returns-in_err-value c =
    let p = err_from_is_err_and c.from_residual-in_err-value.result c.from_residual-in_err-value.ensures.1 in
    let e = c.in_err-value.field-0.0 in
    let ts = c.args.kinds.now in
    let i = c.loop-kind.kind-index in
    rw (p.1, p.2) (ends e c.loop-kind.values.items (arguments_at (drop i ts) c.loop-kind.rest.now) (arguments_at ts c.args.bytes.now) (arguments_fail e ts i types.Int c.loop-kind.rest.now (omega arith) c.in_err-value.ensures) c.loop-kind.invariant)

pub loop-kind-preserved : goal.loop-kind-preserved
loop-kind-preserved c =
    let ts = c.args.kinds.now in
    let i = c.loop-kind.kind-index in
    let v = c.in_ok-value.value in
    let after = c.in_ok-value.after.now in
    let now = arguments_at (drop i ts) c.loop-kind.rest.now in
    rw c.in_ok-push.ensures.items (goes_on c.loop-kind.values.items v now (arguments_at (drop (i + 1) ts) after) (arguments_at ts c.args.bytes.now) (arguments_next ts i types.Int c.loop-kind.rest.now v after (omega arith) c.in_ok-value.ensures) c.loop-kind.invariant)

pub returns : goal.returns
returns c = is_done c.loop-kind.values.items c.loop-kind.rest.now (arguments_at (drop c.loop-kind.kind-index c.args.kinds.now) c.loop-kind.rest.now) (arguments_at c.args.kinds.now c.args.bytes.now) (arguments_end c.args.kinds.now c.loop-kind.kind-index c.loop-kind.rest.now (omega arith)) c.loop-kind.invariant
