-- The refusal is told by the parts.
use Rattle.std.proofs.Common.{◌<◌, Some, length, sym, ap, subst, ◌∙◌}
use Rattle.std.specs.Prelude.{slice_get}
use Rattle.std.proofs.lemmas.Option.{slice_get-get_or}
use Rattle.kernel_core.proofs.Stepped.{refusal-parts}
use Rattle.kernel_core.proofs.deciding.cause_of.Goals as goal

pub refusal-requires : goal.refusal-requires
refusal-requires c = record {
  active = c.requires.consistent.active c.args.request.now.p c.at-process.result.now
      (ap (slice_get c.args.state.now.processes) (sym c.from.ensures)
      ∙ slice_get-get_or c.args.state.now.processes c.from.result c.at-process.result.now (subst (λ n. n < length c.args.state.now.processes) (sym c.from.ensures) c.requires.process)
      ∙ ap Some (sym (c.at-process.ensures c.at-process.result.now)));
}

pub returns : goal.returns
returns c =
    refusal-parts c.args.state.now.table c.args.state.now.processes c.args.state.now.made c.args.request.now.p c.args.request.now.call c.from.result c.at-process.result.now c.refusal.result
    c.from.ensures (subst (λ n. n < length c.args.state.now.processes) (sym c.from.ensures) c.requires.process) (c.at-process.ensures c.at-process.result.now) c.refusal.ensures
