use Rattle.std.proofs.Common.{◌<◌, ◌≤◌, length, set, ap, sym, ◌∙◌, arith, rules}
use Rattle.std.specs.Prelude.{slice_index_or}
use Rattle.program_round.specs.declared.doing.Doing.TheVariants.{Answered}
use Rattle.program_round.proofs.Answering.{away-more, found-at, found-nowhere, other-number, same-number}
use Rattle.program_round.proofs.programs.Programs.hear_of.Goals as goal

pub returns-then-eq-clause-doing : goal.returns-then-eq-clause-doing
returns-then-eq-clause-doing g c =
    let inv = c.loop-place.invariant in
    let place = c.loop-place.place in
    let x = c.index.result.now in
    let below : c.loop-place.place < length c.args.self.now.all.items = search rules in
    let long : length c.args.self.now.all.items ≤ length c.args.self.now.doing = search rules in
    ap (λ ds. set ds place Answered) inv.doing
    ∙ found-at c.args.p c.args.self.now.all.items c.args.self.now.doing place x below
    (sym (same-number x.0.0 c.args.p.0 (sym c.eq.ensures ∙ c.if-eq.true)) ∙ ap (λ z. z.0.0) (c.index.ensures ∙ ap (λ l. slice_index_or l place x) inv.all)) long inv.away

pub loop-place-preserved : goal.loop-place-preserved
loop-place-preserved g c =
    let inv = c.loop-place.invariant in
    let place = c.loop-place.place in
    let x = c.index.result.now in
    let below : c.loop-place.place < length c.args.self.now.all.items = search rules in
    record {
      all = inv.all;
      doing = inv.doing;
      next = inv.next;
      away = away-more c.args.p place c.args.self.now.all.items x below inv.away
          (λ e. other-number x.0.0 c.args.p.0 (sym c.eq.ensures ∙ c.if-eq.false) (ap (λ z. z.0.0) (c.index.ensures ∙ ap (λ l. slice_index_or l place x) inv.all) ∙ sym e));
    }

pub returns-clause-doing : goal.returns-clause-doing
returns-clause-doing g c =
    let inv = c.loop-place.invariant in
    let past : length c.args.self.now.all.items ≤ c.loop-place.place = search rules in
    let long : length c.args.self.now.all.items ≤ length c.args.self.now.doing = search rules in
    inv.doing ∙ found-nowhere c.args.p c.args.self.now.all.items c.args.self.now.doing long (λ q d less. inv.away q d (omega (arith, past, less)))
