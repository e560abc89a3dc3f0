-- The ends of the values are those that are compared.
use Rattle.std.proofs.Common.{ap, ◌∙◌}
use Rattle.std.specs.List.{list_any}
use Rattle.end_table.specs.Place.{end_eq}
use Rattle.kernel_event.proofs.CarriedValues.{any-ends}
use Rattle.kernel_event.proofs.carried.has_end.Goals as goal

pub returns : goal.returns
returns c =
    c.is_among.ensures ∙ ap (list_any (λ m. end_eq c.args.end m.end)) c.values.ensures.same ∙ any-ends c.args.end c.args.cargo.now
