use Rattle.std.proofs.Common.{ℕ, refl, subst}
use Rattle.transcript_reading.specs.Spelling.{HasShown}
use Rattle.transcript_reader.specs.Next.{IsAhead}
use Rattle.transcript_reading.specs.Kinds.{shown_step}
use Rattle.transcript_reading.specs.declared.line.LineKind.TheVariants as line
use Rattle.expected_lines.proofs.Texts.{read_as, step_ahead}
use Rattle.expected_lines.proofs.reads.reads_step.Goals as goal

pub pass_line-requires : goal.pass_line-requires
pass_line-requires c = (
  line.Service (shown_step c.args.step.now),
  step_ahead c.args.reader.now c.args.step.now c.rest.result.now c.in-Some.left.now (subst (λ (v : ℕ). HasShown v (shown_step c.args.step.now)) c.version.ensures (c.if-not-has_shown.ensures.0 refl)) c.tell_step.ensures c.rest.ensures c.in-Some.ensures,
)

pub returns-in-Some : goal.returns-in-Some
returns-in-Some c =
    let is : IsAhead c.args.reader.now (line.Service (shown_step c.args.step.now)) c.in-Some.left.now =
    step_ahead c.args.reader.now c.args.step.now c.rest.result.now c.in-Some.left.now (subst (λ (v : ℕ). HasShown v (shown_step c.args.step.now)) c.version.ensures (c.if-not-has_shown.ensures.0 refl)) c.tell_step.ensures c.rest.ensures c.in-Some.ensures in
    read_as c.pass_line.result c.args.reader.now c.pass_line.new.self (line.Service (shown_step c.args.step.now)) c.in-Some.left.now is c.pass_line.ensures
