use Rattle.std.proofs.Common.{◌≡◌, Some, None, subst, sym, ◌∙◌}
use Rattle.std.proofs.lemmas.Result.{err_from_is_err_and}
use Rattle.transcript_lines.specs.declared.last.Last.{Last}
use Rattle.kernel_journal.specs.Faults.{kinds_in}
use Rattle.transcript_audit.specs.Audit.{IsAudited}
use Rattle.transcript_audit.proofs.Taken.{audited-of, going-ends, going-halt, going-more, going-on, going-start}
use Rattle.transcript_audit.proofs.auditing.replay_lines.Goals as goal

pub loop-replay-init : goal.loop-replay-init
loop-replay-init c bytes is = going-start bytes c.args.reader.now c.new-replay.result is c.new-replay.ensures

pub replay_line-requires : goal.replay_line-requires
replay_line-requires c = let going = c.loop-replay.invariant c.requires.0 c.requires.1 in (kinds_in going.lines, going.at)

pub returns-in_err-replay_line-clause-halted : goal.returns-in_err-replay_line-clause-halted
returns-in_err-replay_line-clause-halted c =
    let p = err_from_is_err_and c.from_residual.result c.from_residual.ensures.1 in
    rw (p.1, p.2) (λ bytes is.
    let going = c.loop-replay.invariant bytes is in
    going-halt bytes c.loop-replay.reader c.replay_line.new.reader c.loop-replay.replay c.in_err-replay_line.field-0.0 going (c.in_err-replay_line.ensures.halted (kinds_in going.lines) going.at))

pub loop-replay-smaller : goal.loop-replay-smaller
loop-replay-smaller c =
    let going = c.loop-replay.invariant c.requires.0 c.requires.1 in
    going-on (kinds_in going.lines) c.loop-replay.reader c.replay_line.new.reader c.replay_line.new.replay (rw c.if-branch.true at c.in_ok-replay_line.ensures.taken (kinds_in going.lines) going.at)

pub loop-replay-preserved : goal.loop-replay-preserved
loop-replay-preserved c bytes is =
    let going = c.loop-replay.invariant bytes is in
    going-more bytes c.loop-replay.reader c.replay_line.new.reader c.loop-replay.replay c.replay_line.new.replay going (rw c.if-branch.true at c.in_ok-replay_line.ensures.taken (kinds_in going.lines) going.at)

pub unreachable-requires : goal.unreachable-requires
unreachable-requires c =
    let going = c.loop-replay.invariant c.requires.0 c.requires.1 in
    let ends = going-ends c.requires.0 c.loop-replay.reader c.loop-replay.replay c.replay_line.new.replay going (rw c.if-branch.false at c.in_ok-replay_line.ensures.taken (kinds_in going.lines) going.at) in
    let e : None ≡ Some ends.ended.last = sym c.in-None.is ∙ c.last.ensures ∙ ends.ended.kept in
    cc

pub returns-clause-accepted : goal.returns-clause-accepted
returns-clause-accepted c bytes is =
    let going = c.loop-replay.invariant bytes is in
    let ends = going-ends bytes c.loop-replay.reader c.loop-replay.replay c.replay_line.new.replay going (rw c.if-branch.false at c.in_ok-replay_line.ensures.taken (kinds_in going.lines) going.at) in
    let e : Some c.in-Some.last ≡ Some ends.ended.last = sym c.in-Some.is ∙ c.last.ensures ∙ ends.ended.kept in
    let same : ends.ended.last ≡ c.in-Some.last = cc in
    subst (λ (l : Last). IsAudited bytes l) same (audited-of bytes c.replay_line.new.replay ends)
