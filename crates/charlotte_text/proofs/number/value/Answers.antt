use Rattle.std.proofs.Common.{List, ℕ, subst}
use Rattle.std.specs.Str.Parse.{ParsesUnsigned}
use Rattle.charlotte_text.proofs.Numbers.{text_of_number, large_number}
use Rattle.charlotte_text.proofs.number.value.Goals as goal

pub unreachable-requires : goal.unreachable-requires
unreachable-requires c = c.in_default.ensures.cases.0 (text_of_number c.args.digits.now c.requires)

pub returns-in-Err : goal.returns-in-Err
returns-in-Err c = large_number c.args.digits.now c.parse.result c.in-Err.field-0 c.requires (subst (λ (t : List ℕ). ParsesUnsigned 64 10 t c.parse.result) c.in-Ok.ensures.cases.0 c.parse.ensures.value.0) c.in-Err.is
