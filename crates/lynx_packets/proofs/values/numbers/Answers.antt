use Rattle.std.proofs.Common.{◌≡◌, ◌-◌, ◌+◌, ◌++◌, ◌∷◌, [], arith, rules, length, w64}
use mir.Val.{SFits}
use Rattle.std.proofs.lemmas.Result.{err_from_is_err_and}
use Rattle.std.proofs.lemmas.List.{length-append}
use Rattle.std.proofs.lemmas.Int.{to_z-of_z}
use Rattle.lynx_packets.specs.Reading.{numbers_at}
use Rattle.lynx_packets.proofs.Loop.{with_front, goes_on, ends, is_done}
use Rattle.lynx_packets.proofs.Steps.{numbers_next, numbers_fail, numbers_end}
use Rattle.lynx_packets.proofs.values.numbers.Goals as goal

pub returns-in_err-number-clause-read : goal.returns-in_err-number-clause-read
returns-in_err-number-clause-read c =
    let p = err_from_is_err_and c.from_residual.result c.from_residual.ensures.1 in
    let e = c.in_err-number.field-0.0 in
    let now = numbers_at (c.args.count - c.loop.counter) c.loop.rest.now in
    rw (p.1, p.2) (ends e c.loop.numbers.items now (numbers_at c.args.count c.args.bytes.now) (numbers_fail e c.args.count c.loop.counter c.loop.rest.now c.loop-test.true c.in_err-number.ensures) c.loop.invariant.0)

pub loop-preserved : goal.loop-preserved
loop-preserved c =
    let n = c.in_ok-number.number in
    let after = c.in_ok-number.after.now in
    let now = numbers_at (c.args.count - c.loop.counter) c.loop.rest.now in
    let later = numbers_at (c.args.count - (c.loop.counter + 1)) after in
    let total = numbers_at c.args.count c.args.bytes.now in
    let fits : SFits w64 c.in_ok-number.number = search rules in
    let pushed : c.push.new.self.items ≡ c.loop.numbers.items ++ n ∷ [] = simp to_z-of_z at c.push.ensures.items in
    let size : length c.push.new.self.items ≡ c.loop.counter + 1 = rw pushed (omega (arith, length-append c.loop.numbers.items (n ∷ []), c.loop.invariant.1)) in
    let read : with_front c.push.new.self.items later ≡ total = rw pushed (goes_on c.loop.numbers.items n now later total (numbers_next c.args.count c.loop.counter c.loop.rest.now n after c.loop-test.true c.in_ok-number.ensures) c.loop.invariant.0) in
    (read, size)

pub returns-clause-read : goal.returns-clause-read
returns-clause-read c = is_done c.loop.numbers.items c.loop.rest.now (numbers_at (c.args.count - c.loop.counter) c.loop.rest.now) (numbers_at c.args.count c.args.bytes.now) (numbers_end c.args.count c.loop.counter c.loop.rest.now c.loop-test.false) c.loop.invariant.0
