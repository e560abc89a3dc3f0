use Rattle.std.proofs.Common.{◌≡◌, true, is_some, refl, sym, subst, ◌∙◌}
use Rattle.std.specs.Map.{lookup}
use Rattle.end_table.specs.Place.{end_eq}
use Rattle.end_table.proofs.Keeping.{joined-none, joined-some, some_not_none}
use Rattle.end_table.proofs.messages.Messages.waiting.Goals as goal

pub returns-in-Some : goal.returns-in-Some
returns-in-Some c =
    rw (← c.self.view_is, joined-some c.self.inside.long c.self.inside.brief c.args.end _ (sym c.in-Some.ensures), c.copy.ensures, c.copy-in-Some.ensures) refl

pub unreachable-requires : goal.unreachable-requires
unreachable-requires c =
    some_not_none _ (subst (λ v. is_some (lookup (end_eq c.args.end) v.kept) ≡ true) (sym c.self.view_is) c.requires)
    (joined-none c.self.inside.long c.self.inside.brief c.args.end (sym c.in_default.ensures) ∙ sym c.in-None.ensures)

pub returns : goal.returns
returns c =
    rw (← c.self.view_is, joined-none c.self.inside.long c.self.inside.brief c.args.end (sym c.in_default.ensures), ← c.in-Some-get.ensures, c.bytes.ensures, c.enclosed.ensures) refl
