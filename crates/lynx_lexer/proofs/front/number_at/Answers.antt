use Rattle.std.proofs.Common.{refl}
use Rattle.lynx_lexer.proofs.Stands.{digits_pass, number_stands, number_too_wide}
use Rattle.lynx_lexer.proofs.front.number_at.Goals as goal

pub number-requires : goal.number-requires
number-requires c = digits_pass c.args.bytes.now c.digits_length-length.result c.requires c.digits_length-length.ensures

pub returns-in_default-clause-err : goal.returns-in_default-clause-err
returns-in_default-clause-err c = number_too_wide c.args.bytes.now c.digits_length-length.result c.requires c.digits_length-length.ensures c.in_default.ensures.wide

pub returns-clause-ok : goal.returns-clause-ok
returns-clause-ok c = number_stands c.args.bytes.now c.digits_length-length.result _ c.requires c.digits_length-length.ensures refl c.in-Some.ensures.fits
