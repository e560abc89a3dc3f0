use Rattle.std.proofs.Common.{◌≡◌, ◌-◌, ◌<◌, length, rules}
use Rattle.std.proofs.lemmas.Result.{err_from_is_err_and}
use Rattle.lynx_packets.specs.Reading.{values_at, link_count}
use Rattle.lynx_packets.proofs.Sizes.{value_less}
use Rattle.lynx_packets.proofs.Steps.{values_go, values_end, values_stop}
use Rattle.lynx_packets.proofs.values.results.Goals as goal

pub returns-in_err-value : goal.returns-in_err-value
returns-in_err-value c =
    let p = err_from_is_err_and c.from_residual.result c.from_residual.ensures.1 in
    let some : 0 < length c.loop-rest.rest.now = search rules in
    rw (p.1, p.2) (values_stop c.in_err-value.field-0.0 c.loop-rest.values.items c.loop-rest.links c.loop-rest.rest.now (values_at (length c.args.bytes.now) c.args.links c.args.bytes.now) some c.in_err-value.ensures c.loop-rest.invariant)

pub loop-rest-smaller : goal.loop-rest-smaller
loop-rest-smaller c = value_less c.loop-rest.links c.loop-rest.rest.now (c.in_ok-value.value, c.in_ok-value.after.now) c.in_ok-value.ensures

pub loop-rest-preserved : goal.loop-rest-preserved
loop-rest-preserved c =
    let some : 0 < length c.loop-rest.rest.now = search rules in
    let links : c.saturating_sub-links.result ≡ c.loop-rest.links - link_count c.in_ok-value.value = search rules in
    rw (c.in_ok-push.ensures.items, links) (values_go c.loop-rest.values.items c.loop-rest.links c.loop-rest.rest.now (values_at (length c.args.bytes.now) c.args.links c.args.bytes.now) c.in_ok-value.value c.in_ok-value.after.now some c.in_ok-value.ensures c.loop-rest.invariant)

pub returns : goal.returns
returns c =
    let none : length c.loop-rest.rest.now ≡ 0 = search rules in
    values_end c.loop-rest.values.items c.loop-rest.links c.loop-rest.rest.now (values_at (length c.args.bytes.now) c.args.links c.args.bytes.now) none c.loop-rest.invariant
