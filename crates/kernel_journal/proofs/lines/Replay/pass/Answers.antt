use Rattle.std.proofs.Common.{refl}
use Rattle.kernel_journal.proofs.At.{met-same, not-met, stop-at}
use Rattle.kernel_journal.proofs.Bodies.{if_err, on_ok_both}
use Rattle.kernel_journal.proofs.lines.Replay.pass.Goals as goal

pub pass-requires-clause-ready : goal.pass-requires-clause-ready
pass-requires-clause-ready c =
    let at = c.requires.at in
    (met-same at.0 at.1 c.args.kind.now c.begin.new.self c.in-Some.body (c.in_ok-begin.ensures.begun at.0 at.1 at.2 c.args.kind.now at.3 at.4 c.requires.body) c.in-Some.is).ready

pub returns-in-Some-clause-passed : goal.returns-in-Some-clause-passed
returns-in-Some-clause-passed c =
    on_ok_both c.pass.result
    (λ ready passes taken place behind at e. record {
      old_body = c.in-Some.body;
      body = c.pass.new.self;
      kept = refl;
      meets = met-same taken place c.args.kind.now c.begin.new.self c.in-Some.body (c.in_ok-begin.ensures.begun taken place behind c.args.kind.now at e c.requires.body) c.in-Some.is;
      ready = ready;
      passes = passes;
    })
    c.pass.ensures.ready c.pass.ensures.passes

pub returns-in-Some-clause-differs : goal.returns-in-Some-clause-differs
returns-in-Some-clause-differs c =
    if_err c.pass.result
    (λ s f taken place behind at e. stop-at taken place behind c.args.kind.now c.args.self.now c.in-Some.body s c.requires.body at e
    (met-same taken place c.args.kind.now c.begin.new.self c.in-Some.body (c.in_ok-begin.ensures.begun taken place behind c.args.kind.now at e c.requires.body) c.in-Some.is) f)
    c.pass.ensures.fails

pub returns-in-None-clause-differs : goal.returns-in-None-clause-differs
returns-in-None-clause-differs c taken place behind at e = not-met taken place c.args.kind.now c.begin.new.self (c.in_ok-begin.ensures.begun taken place behind c.args.kind.now at e c.requires.body) c.in-None.is
