use Rattle.std.proofs.Common.{◌≡◌, ◌∙◌, rules}
use Rattle.lynx_code.specs.Listing.{code_listing}
use Rattle.lynx_code.proofs.Parts.{listed}
use Rattle.lynx_code.proofs.texts.listing.Goals as goal

pub returns-clause-exact : goal.returns-clause-exact
returns-clause-exact c m h =
    let whole : c.push_parts.new.out.items ≡ code_listing c.args.code.now = search rules in
    whole ∙ listed m c.args.code.now h
