use Rattle.std.proofs.Common.{ap, subst, refl, Err, inl, inr}
use Rattle.lynx_tree.specs.Answers.{kinds, IsFaultOf}
use Rattle.lynx_source.specs.declared.fault.SourceFault.TheVariants.{Syntax, Deep}
use Rattle.lynx_source.specs.declared.place.Place.{Place}
use Rattle.lynx_source.proofs.reading.syntactic.Goals as goal

pub returns-in-At : goal.returns-in-At
returns-in-At c =
    let fault = subst (IsFaultOf (kinds c.args.tokens.now)) c.in-At.is c.requires.fault in
    inl (inl (c.args.tokens.now, inl (c.args.tokens.now, c.requires.lexed, refl), inr (inl (c.in-At.token, fault.0, fault.1, ap (λ (at : Place). Err (Syntax at)) c.token_place.ensures))))

pub returns-in-TooDeep : goal.returns-in-TooDeep
returns-in-TooDeep c =
    let fault = subst (IsFaultOf (kinds c.args.tokens.now)) c.in-TooDeep.is c.requires.fault in
    inl (inl (c.args.tokens.now, inl (c.args.tokens.now, c.requires.lexed, refl), inr (inr (c.in-TooDeep.token, fault, ap (λ (at : Place). Err (Deep at)) c.token_place-in-TooDeep.ensures))))
