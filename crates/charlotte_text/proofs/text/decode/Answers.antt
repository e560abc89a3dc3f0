use Rattle.std.proofs.Common.{◌≡◌, ◌++◌, ◌∷◌, [], length, Ok, refl, sym, ap, ◌∙◌, arith}
use Rattle.std.proofs.lemmas.Result.{err_from_is_err_and}
use Rattle.charlotte_text.specs.Reading.{◌>>=◌, decoded, limited}
use Rattle.charlotte_text.proofs.Bytes.{byte_goes_on, byte_fails, kept_more, kept_full, finish, is_left, has_room, no_room, all_read}
use Rattle.charlotte_text.proofs.text.decode.Goals as goal

pub returns-in_err-byte : goal.returns-in_err-byte
returns-in_err-byte c =
    let p = err_from_is_err_and c.from_residual.result c.from_residual.ensures.1 in
    let all = byte_fails c.loop-rest.invariant.0 c.loop-rest.rest.now c.in_err-byte.field-0.0 (decoded c.args.word.now) (is_left (length c.loop-rest.rest.now) c.is_empty.result c.is_empty.ensures c.loop-rest-test.true) c.in_err-byte.ensures.exact c.loop-rest.invariant.2 in
    rw (p.1, p.2) (sym (ap (λ r. r >>= limited) all))

pub loop-rest-preserved-then-not-is_full : goal.loop-rest-preserved-then-not-is_full
loop-rest-preserved-then-not-is_full c = (
  c.loop-rest.invariant.0 ++ c.in_ok-byte.byte ∷ [],
  kept_more c.loop-rest.invariant.0 c.loop-rest.kept.items c.push.new.self.items c.in_ok-byte.byte c.loop-rest.invariant.1 (has_room (length c.loop-rest.kept.items) c.is_full.result c.is_full.ensures.value c.if-not-is_full.true (omega arith)) c.push.ensures.items,
  byte_goes_on c.loop-rest.invariant.0 c.loop-rest.rest.now c.in_ok-byte.after.now c.in_ok-byte.byte (decoded c.args.word.now) (is_left (length c.loop-rest.rest.now) c.is_empty.result c.is_empty.ensures c.loop-rest-test.true) c.in_ok-byte.ensures.exact c.loop-rest.invariant.2,
)

pub loop-rest-preserved : goal.loop-rest-preserved
loop-rest-preserved c = (
  c.loop-rest.invariant.0 ++ c.in_ok-byte.byte ∷ [],
  kept_full c.loop-rest.invariant.0 c.loop-rest.kept.items c.in_ok-byte.byte c.loop-rest.invariant.1 (no_room (length c.loop-rest.kept.items) c.is_full.result c.is_full.ensures.value c.if-not-is_full.false),
  byte_goes_on c.loop-rest.invariant.0 c.loop-rest.rest.now c.in_ok-byte.after.now c.in_ok-byte.byte (decoded c.args.word.now) (is_left (length c.loop-rest.rest.now) c.is_empty.result c.is_empty.ensures c.loop-rest-test.true) c.in_ok-byte.ensures.exact c.loop-rest.invariant.2,
)

pub returns : goal.returns
returns c =
    let all : decoded c.args.word.now ≡ Ok c.loop-rest.invariant.0 = all_read c.loop-rest.invariant.0 c.loop-rest.rest.now c.args.word.now c.is_empty.result c.is_empty.ensures c.loop-rest-test.false c.loop-rest.invariant.2 in
    let same = c.as_slice.ensures.value in
    c.ok_or.ensures.value ∙ finish c.loop-rest.invariant.0 c.loop-rest.kept.items c.from_slice.result c.loop-rest.invariant.1 (rw same at c.from_slice.ensures.long) (rw same at c.from_slice.ensures.same) ∙ sym (rw all refl)
