-- The first fault of the tree that these tokens have stands at its token.
use Rattle.std.proofs.Common.{ap, subst, refl, Err, inl, inr}
use Rattle.lynx_types.specs.Answers.{IsFaultOf}
use Rattle.typing_rules.specs.Rules.{Fault}
use Rattle.lynx_source.specs.declared.fault.SourceFault.TheVariants.{Rule}
use Rattle.lynx_source.specs.declared.place.Place.{Place}
use Rattle.lynx_source.proofs.checking.typed.Goals as goal

pub returns-in-At : goal.returns-in-At
returns-in-At c =
    let m = c.requires.fault.0 in
    let first = subst (IsFaultOf m) c.in-At.is c.requires.fault.2 in
    let fault : Fault = record { place = c.in-At.place; rule = c.in-At.rule } in
    inl (inl (c.args.tokens.now, inl (c.args.tokens.now, c.requires.lexed, refl), inl (m, inl (m, c.requires.fault.1, refl), inr (fault, first, ap (λ (at : Place). Err (Rule at c.in-At.rule)) c.token_place.ensures))))
