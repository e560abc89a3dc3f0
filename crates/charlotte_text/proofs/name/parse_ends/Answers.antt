use Rattle.std.proofs.Common.{◌≡◌, ◌-◌, [], length, eqb, option_copied, refl, sym, ◌∙◌, arith}
use Rattle.std.proofs.lemmas.Result.{err_from_is_err_and}
use Rattle.charlotte_text.specs.Reading.{rest_parts, ends_of}
use Rattle.charlotte_text.proofs.Parts.{first_part}
use Rattle.charlotte_text.proofs.Ends.{too_many, end_fails, end_goes_on, ends_done, none_left, kept_ends}
use Rattle.charlotte_text.proofs.name.parse_ends.Goals as goal

pub returns-then-most-len : goal.returns-then-most-len
returns-then-most-len c =
    let first = first_part (λ b. eqb b 32) c.in-Some.text.now in
    too_many c.loop-rest.ends.items c.args.most (rest_parts 32 (option_copied c.loop-rest.rest)) first.0 first.1 (ends_of c.args.most (rest_parts 32 (option_copied c.args.words))) (omega arith) (rw c.in-Some.is first.2) c.loop-rest.invariant.so_far

pub returns-in_err-parse_plus_end : goal.returns-in_err-parse_plus_end
returns-in_err-parse_plus_end c =
    let p = err_from_is_err_and c.from_residual.result c.from_residual.ensures.1 in
    rw (p.1, p.2)
    (end_fails c.loop-rest.ends.items c.args.most (rest_parts 32 (option_copied c.loop-rest.rest)) c.cut.result.0.now (rest_parts 32 (option_copied c.cut.result.1)) c.in_err-parse_plus_end.field-0.0
    (ends_of c.args.most (rest_parts 32 (option_copied c.args.words))) (omega arith) (rw c.in-Some.is c.cut.ensures) (sym c.in_err-parse_plus_end.ensures) c.loop-rest.invariant.so_far)

pub loop-rest-preserved : goal.loop-rest-preserved
loop-rest-preserved c = record {
  so_far =
      rw c.push.ensures.items
      (end_goes_on c.loop-rest.ends.items c.args.most (rest_parts 32 (option_copied c.loop-rest.rest)) c.cut.result.0.now (rest_parts 32 (option_copied c.cut.result.1)) c.in_ok-parse_plus_end.field-0
      (ends_of c.args.most (rest_parts 32 (option_copied c.args.words))) (omega arith) (rw c.in-Some.is c.cut.ensures) (sym c.in_ok-parse_plus_end.ensures) c.loop-rest.invariant.so_far);
  room = omega arith;
}

pub returns : goal.returns
returns c =
    let none : rest_parts 32 (option_copied c.loop-rest.rest) ≡ [] = rw (none_left c.loop-rest.rest c.in_default.not-Some) refl in
    let all = ends_done c.loop-rest.ends.items (c.args.most - length c.loop-rest.ends.items) (ends_of c.args.most (rest_parts 32 (option_copied c.args.words))) (rw none at c.loop-rest.invariant.so_far) in
    let same = c.as_slice.ensures.value in
    c.ok_or.ensures.value ∙ kept_ends c.loop-rest.ends.items c.from_slice.result (omega arith) (rw same at c.from_slice.ensures.long) (rw same at c.from_slice.ensures.same) ∙ sym all
