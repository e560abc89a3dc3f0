use Rattle.std.proofs.Common.{◌∙◌, ap, sym, List}
use Rattle.charlotte_calls.specs.declared.names.EndId.{EndId}
use Rattle.charlotte_calls.specs.declared.names.Side.TheVariants.{A, B}
use Rattle.service_step.specs.Ends.{put, fresh}
use Rattle.service_step.specs.declared.state.End.{End}
use Rattle.service_step.specs.declared.state.Place.TheVariants.{Owned}
use Rattle.service_links.specs.Links.{link_at, puts_link}
use Rattle.service_links.proofs.Changed.{on_err, row_of-lent, ends_of-same, ends_of-made}
use Rattle.service_links.proofs.links.Links.add.Goals as goal

pub returns-in_err-add-clause-err : goal.returns-in_err-add-clause-err
returns-in_err-add-clause-err c =
    rw (c.self.view_is)
    (on_err _ (ends_of-same c.reach.new.self c.from-maker.result c.add.new.self c.in_ok-reach.ensures.there
    (c.in_err-add.ensures.err ∙ ap link_at (row_of-lent c.reach.new.self c.from-maker.result c.index_mut.result.now c.in_ok-reach.ensures.there (rw (← c.self.view_is) c.index_mut.ensures.value)))
    ∙ c.reach.ensures.same))

pub returns-clause-ok : goal.returns-clause-ok
returns-clause-ok c =
    rw (c.self.view_is)
    (ends_of-made c.reach.new.self c.from-maker.result c.add.new.self c.args.link (fresh (Owned c.args.owners.0)) (fresh (Owned c.args.owners.1)) (sym c.from-maker.ensures) c.in_ok-reach.ensures.there
    (c.in_ok-add.ensures.ok ∙ ap (λ (r : List (End × End)). puts_link c.args.link.count (fresh (Owned c.args.owners.0), fresh (Owned c.args.owners.1)) (link_at r))
    (row_of-lent c.reach.new.self c.from-maker.result c.index_mut.result.now c.in_ok-reach.ensures.there (rw (← c.self.view_is) c.index_mut.ensures.value)))
    ∙ ap (λ (t : EndId → End). put (put t (record { link = c.args.link; side = A }) (fresh (Owned c.args.owners.0))) (record { link = c.args.link; side = B }) (fresh (Owned c.args.owners.1))) c.reach.ensures.same)
