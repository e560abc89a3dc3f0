use Rattle.std.proofs.Common.{◌≡◌, ◌<◌, ◌≤◌, Err, IfErr, None, Some, length, subst, sym, ◌∙◌, rules}
use Rattle.kernel_journal.specs.Faults.{GivesLast, IsReplayFault, IsReplayOf, kinds_in}
use Rattle.transcript_law.proofs.Lawful.{replay-is-lawful}
use Rattle.kernel_journal.proofs.Replays.{all-taken, ended-only, ended-replay, fault-only, replaying-start, step-fault, step-may, step-more}
use Rattle.kernel_journal.proofs.whole.replay.Goals as goal

pub loop-line-init : goal.loop-line-init
loop-line-init c = replaying-start c.requires.0 c.args.lines.now c.new-replay.result c.requires.1 c.new-replay.ensures

pub take-requires : goal.take-requires
take-requires c =
    let below : c.loop-line.line-index < length c.args.lines.now = search rules in
    step-may c.args.lines.now c.loop-line.line-index c.line-item.result c.loop-line.replay below c.line-item.is c.loop-line.invariant

pub returns-in_err-take-clause-only : goal.returns-in_err-take-clause-only
returns-in_err-take-clause-only c last replay =
    let below : c.loop-line.line-index < length c.args.lines.now = search rules in
    let err = step-fault c.args.lines.now c.loop-line.line-index c.line-item.result c.loop-line.replay c.in_err-take.field-0.0 below c.line-item.is c.loop-line.invariant c.in_err-take.ensures.fault in
    let same : c.from_residual.result ≡ Err c.in_err-take.field-0.0 = search rules in
    subst (λ r. GivesLast last r) (sym same) (fault-only c.args.lines.now c.in_err-take.field-0.0 err last replay)

pub returns-in_err-take-clause-fault : goal.returns-in_err-take-clause-fault
returns-in_err-take-clause-fault c =
    let below : c.loop-line.line-index < length c.args.lines.now = search rules in
    let err = step-fault c.args.lines.now c.loop-line.line-index c.line-item.result c.loop-line.replay c.in_err-take.field-0.0 below c.line-item.is c.loop-line.invariant c.in_err-take.ensures.fault in
    let same : c.from_residual.result ≡ Err c.in_err-take.field-0.0 = search rules in
    subst (λ r. IfErr r (IsReplayFault c.args.lines.now)) (sym same) err

pub loop-line-preserved : goal.loop-line-preserved
loop-line-preserved c =
    let below : c.loop-line.line-index < length c.args.lines.now = search rules in
    step-more c.args.lines.now c.loop-line.line-index c.line-item.result c.loop-line.replay c.take.new.self below c.line-item.is c.loop-line.invariant c.in_ok-take.ensures.taken

pub unreachable-requires : goal.unreachable-requires
unreachable-requires c =
    let past : length c.args.lines.now ≤ c.loop-line.line-index = search rules in
    let ended = all-taken c.args.lines.now c.loop-line.line-index c.loop-line.replay past c.loop-line.invariant in
    let e : None ≡ Some ended.last = sym c.in-None.is ∙ c.last.ensures ∙ ended.kept in
    absurd (cc)

pub returns-clause-found : goal.returns-clause-found
returns-clause-found c =
    let past : length c.args.lines.now ≤ c.loop-line.line-index = search rules in
    let ended = all-taken c.args.lines.now c.loop-line.line-index c.loop-line.replay past c.loop-line.invariant in
    let e : Some c.in-Some.last ≡ Some ended.last = sym c.in-Some.is ∙ c.last.ensures ∙ ended.kept in
    let same : ended.last ≡ c.in-Some.last = cc in
    subst (λ l. IsReplayOf c.args.lines.now l) same (ended-replay c.args.lines.now c.loop-line.replay ended)

pub returns-clause-lawful : goal.returns-clause-lawful
returns-clause-lawful c =
    let past : length c.args.lines.now ≤ c.loop-line.line-index = search rules in
    let ended = all-taken c.args.lines.now c.loop-line.line-index c.loop-line.replay past c.loop-line.invariant in
    let e : Some c.in-Some.last ≡ Some ended.last = sym c.in-Some.is ∙ c.last.ensures ∙ ended.kept in
    let same : ended.last ≡ c.in-Some.last = cc in
    replay-is-lawful (kinds_in c.args.lines.now) c.in-Some.last (subst (λ l. IsReplayOf c.args.lines.now l) same (ended-replay c.args.lines.now c.loop-line.replay ended))

pub returns-clause-only : goal.returns-clause-only
returns-clause-only c last replay =
    let past : length c.args.lines.now ≤ c.loop-line.line-index = search rules in
    let ended = all-taken c.args.lines.now c.loop-line.line-index c.loop-line.replay past c.loop-line.invariant in
    let e : Some c.in-Some.last ≡ Some ended.last = sym c.in-Some.is ∙ c.last.ensures ∙ ended.kept in
    let same : c.in-Some.last ≡ ended.last = cc in
    same ∙ sym (ended-only c.args.lines.now c.loop-line.replay ended last replay)
