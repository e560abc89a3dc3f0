use Rattle.std.proofs.Common.{List, ap, ◌∙◌}
use Rattle.process_run.specs.States.{Place}
use Rattle.process_ends.specs.Ends.{with_places}
use Rattle.process_ends.proofs.Numbering.{got_as}
use Rattle.process_ends.proofs.places.Places.get.Goals as goal

pub returns : goal.returns
returns c =
    c.in_ok-enter.ensures ∙ ap (λ (ps : List Place). with_places ps c.args.self.now) (got_as c.args.end c.args.self.now.places _ c.count-number.ensures c.if-number-ge4294967295.false)
