use Rattle.std.proofs.Common.{◌-◌, length, sym, ◌∙◌, arith}
use Rattle.std.proofs.lemmas.Result.{err_from_is_err_and}
use Rattle.transcript_reading.specs.Forms.{values_of}
use Rattle.transcript_forms.proofs.Values.{value_goes_on, value_fails, too_many, values_done, kept_values}
use Rattle.transcript_forms.proofs.packet.parse_values.Goals as goal

pub returns-then-most-len : goal.returns-then-most-len
returns-then-most-len c =
    too_many c.loop-word.values.items c.args.most c.loop-word.rest c.in-Some.word.now c.pop.new.self (values_of c.args.most c.args.words) (omega arith) c.in-Some.ensures c.loop-word.invariant.so_far

pub returns-in_err-read_plus_value : goal.returns-in_err-read_plus_value
returns-in_err-read_plus_value c =
    let p = err_from_is_err_and c.from_residual.result c.from_residual.ensures.1 in
    rw (p.1, p.2) (value_fails c.loop-word.values.items c.args.most c.loop-word.rest c.in-Some.word.now c.pop.new.self c.in_err-read_plus_value.field-0.0 (values_of c.args.most c.args.words) (omega arith) c.in-Some.ensures (sym c.in_err-read_plus_value.ensures) c.loop-word.invariant.so_far)

pub loop-word-preserved : goal.loop-word-preserved
loop-word-preserved c = record {
  so_far =
      rw c.push.ensures.items
      (value_goes_on c.loop-word.values.items c.args.most c.loop-word.rest c.in-Some.word.now c.pop.new.self c.in_ok-read_plus_value.field-0 (values_of c.args.most c.args.words) (omega arith) c.in-Some.ensures
      (sym c.in_ok-read_plus_value.ensures) c.loop-word.invariant.so_far);
  room = omega arith;
}

pub returns : goal.returns
returns c =
    let all = values_done c.loop-word.values.items (c.args.most - length c.loop-word.values.items) c.loop-word.rest (values_of c.args.most c.args.words) c.in_default.ensures c.loop-word.invariant.so_far in
    let same = c.as_slice.ensures.value in
    c.ok_or.ensures.value ∙ kept_values c.loop-word.values.items c.from_slice.result (omega arith) (rw same at c.from_slice.ensures.long) (rw same at c.from_slice.ensures.same) ∙ sym all
