use Rattle.std.proofs.Common.{ℕ, subst}
use Rattle.charlotte_text.specs.Spelling.{IsCall}
use Rattle.transcript_reader.specs.Next.{IsAhead}
use Rattle.transcript_reading.specs.declared.line.LineKind.TheVariants as line
use Rattle.expected_lines.proofs.Texts.{call_ahead, read_as}
use Rattle.expected_lines.proofs.reads.reads_call.Goals as goal

pub pass_line-requires : goal.pass_line-requires
pass_line-requires c = (
  line.CallEntry c.args.ahead.stamp c.args.ahead.kernel c.args.ahead.p c.read_leading_call.new.call,
  call_ahead c.args.reader.now c.args.ahead c.read_leading_call.new.call c.args.rest.now c.in-Some.left.now c.tell_u64.ensures c.tell_u8.ensures c.tell_pid.ensures
      (subst (λ (v : ℕ). IsCall v c.read_leading_call.new.call) c.version.ensures c.in-Some.ensures.fits) c.requires c.in-Some.ensures.spelled,
)

pub returns-in-Some : goal.returns-in-Some
returns-in-Some c =
    let is : IsAhead c.args.reader.now (line.CallEntry c.args.ahead.stamp c.args.ahead.kernel c.args.ahead.p c.read_leading_call.new.call) c.in-Some.left.now =
    call_ahead c.args.reader.now c.args.ahead c.read_leading_call.new.call c.args.rest.now c.in-Some.left.now c.tell_u64.ensures c.tell_u8.ensures c.tell_pid.ensures
    (subst (λ (v : ℕ). IsCall v c.read_leading_call.new.call) c.version.ensures c.in-Some.ensures.fits) c.requires c.in-Some.ensures.spelled in
    read_as c.pass_line.result c.args.reader.now c.pass_line.new.self (line.CallEntry c.args.ahead.stamp c.args.ahead.kernel c.args.ahead.p c.read_leading_call.new.call) c.in-Some.left.now is c.pass_line.ensures
