use Rattle.std.proofs.Common.{ap, ◌∙◌}
use Rattle.end_protocol.specs.declared.kept.Kept.{Kept}
use Rattle.end_protocol.specs.Lists.{is_nil}
use Rattle.process_ends.proofs.Noting.{noted_kept, noted_so, nil_of}
use Rattle.process_ends.proofs.board.Board.place.Goals as goal

pub returns-clause-noted : goal.returns-clause-noted
returns-clause-noted c =
    noted_so _ _ _ _ _ _
    (noted_kept _ _ _ _ _ _ _ _ c.requires.noted c.requires.marked.unsettled c.requires.marked.agenda c.discard_unless.ensures.others
    (λ out. nil_of _ _ (c.is_empty-is_bound.ensures ∙ ap (λ (k : Kept). is_nil k.bindings) c.deref.ensures) (c.discard_unless.ensures.bound out)))
    c.exchange.ensures.left
