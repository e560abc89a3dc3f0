use Rattle.std.proofs.Common.{Some, sym, subst, ◌∙◌}
use Rattle.end_table.specs.Kept.{HasAt, HasRoom}
use Rattle.end_table.proofs.Keeping.{HasAt-first, HasAt-second, HasRoom-first, HasRoom-second, none_from_is_some}
use Rattle.end_table.proofs.messages.Messages.put.Goals as goal

pub put-requires : goal.put-requires
put-requires c = HasRoom-first c.self.inside.long c.self.inside.brief c.args.end (subst (λ v. HasRoom v c.args.end) (sym c.self.view_is) c.requires)

pub returns-then-has-clause-put : goal.returns-then-has-clause-put
returns-then-has-clause-put c = rw (← c.self.view_is) (HasAt-first c.self.inside.long c.self.inside.brief c.args.end c.put.new.self c.args.message c.put.ensures.put)

pub put-requires-in-Some : goal.put-requires-in-Some
put-requires-in-Some c = HasRoom-second c.self.inside.long c.self.inside.brief c.args.end (subst (λ v. HasRoom v c.args.end) (sym c.self.view_is) c.requires)

pub put-requires-in-None : goal.put-requires-in-None
put-requires-in-None c = HasRoom-first c.self.inside.long c.self.inside.brief c.args.end (subst (λ v. HasRoom v c.args.end) (sym c.self.view_is) c.requires)

pub returns-in-Some-clause-put : goal.returns-in-Some-clause-put
returns-in-Some-clause-put c =
    rw (← c.self.view_is)
    (HasAt-second c.self.inside.long c.self.inside.brief c.args.end c.put-in-Some.new.self c.args.message (none_from_is_some _ (sym c.has.ensures ∙ c.if-has.false))
    (subst (λ m. HasAt c.self.inside.brief c.put-in-Some.new.self c.args.end (Some m)) c.in-Some.ensures.same c.put-in-Some.ensures.put))

pub returns-in-None-clause-put : goal.returns-in-None-clause-put
returns-in-None-clause-put c = rw (← c.self.view_is) (HasAt-first c.self.inside.long c.self.inside.brief c.args.end c.put-in-None.new.self c.args.message c.put-in-None.ensures.put)
