use Rattle.std.proofs.Common.{sym, ◌∙◌, arith}
use Rattle.std.proofs.lemmas.Result.{err_from_is_err_and}
use Rattle.charlotte_text.proofs.Ends.{kept_ends}
use Rattle.history_text.specs.Forms.{ends_of}
use Rattle.history_text.proofs.Carried.{end_goes_on, end_fails, too_many, ends_done}
use Rattle.history_text.proofs.draft.Draft.ends_up_to.Goals as goal

pub returns-then-most-len : goal.returns-then-most-len
returns-then-most-len c =
    too_many c.args.scope c.args.self.now c.loop-word.ends.items c.args.most c.loop-word.rest (ends_of c.args.scope c.args.self.now c.args.most c.args.words)
    c.in-Some.word.now c.pop.new.self (omega arith) c.in-Some.ensures c.loop-word.invariant.so_far

pub returns-in_err-read_plus_end : goal.returns-in_err-read_plus_end
returns-in_err-read_plus_end c =
    let p = err_from_is_err_and c.from_residual.result c.from_residual.ensures.1 in
    rw (p.1, p.2)
    (end_fails c.args.scope c.args.self.now c.loop-word.ends.items c.args.most c.loop-word.rest (ends_of c.args.scope c.args.self.now c.args.most c.args.words)
    c.in-Some.word.now c.pop.new.self c.in_err-read_plus_end.field-0.0 (omega arith) c.in-Some.ensures (sym c.in_err-read_plus_end.ensures) c.loop-word.invariant.so_far)

pub loop-word-preserved : goal.loop-word-preserved
loop-word-preserved c = record {
  so_far =
      rw c.push.ensures.items
      (end_goes_on c.args.scope c.args.self.now c.loop-word.ends.items c.args.most c.loop-word.rest (ends_of c.args.scope c.args.self.now c.args.most c.args.words)
      c.in-Some.word.now c.pop.new.self c.in_ok-read_plus_end.field-0 (omega arith) c.in-Some.ensures (sym c.in_ok-read_plus_end.ensures) c.loop-word.invariant.so_far);
  room = omega arith;
}

pub returns : goal.returns
returns c =
    let all = ends_done c.args.scope c.args.self.now c.loop-word.ends.items c.args.most c.loop-word.rest (ends_of c.args.scope c.args.self.now c.args.most c.args.words)
    c.in_default.ensures c.loop-word.invariant.so_far in
    let same = c.as_slice.ensures.value in
    c.ok_or.ensures.value ∙ kept_ends c.loop-word.ends.items c.from_slice.result (omega arith) (rw same at c.from_slice.ensures.long) (rw same at c.from_slice.ensures.same) ∙ sym all
