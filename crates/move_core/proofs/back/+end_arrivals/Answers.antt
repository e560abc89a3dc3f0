use Rattle.std.proofs.Common.{◌≡◌, ◌+◌, ◌∷◌, length, arith, ap, sym, ◌∙◌}
use Rattle.end_table.specs.Table.{entries}
use Rattle.kernel_step.specs.Progress.{progress}
use Rattle.kernel_step.specs.Rows.{end_arrivals}
use Rattle.move_core.proofs.Arrivals.{AreAway-first, AreAway-left, HasRoom-others, end_arrivals-more}
use Rattle.kernel_step.proofs.Departed.{ended-IsHere}
use Rattle.move_core.specs.Arriving.{AreAway}
use Rattle.move_core.proofs.back.+end_arrivals.Goals as goal

pub end_arrivals-requires : goal.end_arrivals-requires
end_arrivals-requires t c =
    let e : c.args.moving ≡ c.in-Some.first ∷ c.next.new.self = c.in-Some.ensures.rest in
    let away : AreAway c.args.table.now (c.in-Some.first ∷ c.next.new.self) = AreAway-first _ _ _ _ e c.requires.away in
    let long : length c.args.moving ≡ length (c.in-Some.first ∷ c.next.new.self) = ap length e in
    let more : length c.args.moving ≡ length c.next.new.self + 1 = omega (arith, long) in
    (omega (arith, long, c.decreases), (AreAway-left _ _ _ _ c.end_arrival.ensures.puts _ (ended-IsHere c.in-Some.first) away.2, HasRoom-others _ _ _ _ more c.requires.room c.end_arrival.ensures.room))

pub returns-in-Some-clause-part : goal.returns-in-Some-clause-part
returns-in-Some-clause-part t c =
    c.end_arrivals.ensures.part
    ∙ ap (λ k. end_arrivals k c.next.new.self (progress (entries c.end_arrival.new.table) c.end_arrival.new.out)) c.end_arrival.ensures.puts.kernel
    ∙ end_arrivals-more _ _ _ _ _ _ c.in-Some.ensures.rest c.end_arrival.ensures.part

pub returns-in-None-clause-part : goal.returns-in-None-clause-part
unfolding end_arrivals
returns-in-None-clause-part t c = ap (λ ms. end_arrivals c.args.table.now.kernel ms (progress (entries c.args.table.now) c.args.out.now)) (sym c.in-None.ensures.none)
