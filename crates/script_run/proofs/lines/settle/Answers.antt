use Rattle.std.proofs.Common.{arith}
use Rattle.charlotte_calls.specs.declared.setting.Setting.{Setting}
use Rattle.script_run.proofs.Events.{Goes-start}
use Rattle.script_run.proofs.Settling.{settling-start, settling-none, settling-end, settling-more, settling-ready, quiet-taken}
use Rattle.script_run.proofs.lines.settle.Goals as goal

pub loop-init : goal.loop-init
loop-init c = record {
  settling = settling-start c.args.setting.now c.args.setting.now.kernels 10000 c.args.run.now (Goes-start c.args.setting.now c.args.run.now c.requires.ready.2.recorded);
  quiet = λ k none. absurd (omega (arith, none));
}

pub first_sent-requires-clause-before : goal.first_sent-requires-clause-before
first_sent-requires-clause-before c = c.loop.invariant.quiet

pub first_sent-requires-clause-nodes : goal.first_sent-requires-clause-nodes
first_sent-requires-clause-nodes c = (c.args.setting.now, c.loop.invariant.settling.goes.recorded.nodes)

pub returns-in_default : goal.returns-in_default
returns-in_default c =
    settling-none c.args.setting.now c.args.setting.now.kernels 10000 c.loop.counter c.args.run.now c.loop.run (c.in_default.ensures.first c.args.setting.now) c.loop.invariant.settling

pub take_first-requires : goal.take_first-requires
take_first-requires c =
    let s : Setting = c.args.setting.now in
    let ready = settling-ready s s.kernels 10000 c.loop.counter c.requires.ready.0 c.args.run.now c.loop.run (omega arith) c.requires.ready.1 c.loop.invariant.settling c.requires.ready.2 in
    (s, ready.0, ready.1, ready.2, c.in-Some.ensures.within.0, c.in-Some.ensures.within.1)

pub loop-preserved : goal.loop-preserved
loop-preserved c =
    let s : Setting = c.args.setting.now in
    let ready = settling-ready s s.kernels 10000 c.loop.counter c.requires.ready.0 c.args.run.now c.loop.run (omega arith) c.requires.ready.1 c.loop.invariant.settling c.requires.ready.2 in
    record {
      settling =
          settling-more s s.kernels 10000 c.loop.counter c.in-Some.from c.in-Some.to c.in_ok-take_first.field-0 c.args.run.now c.loop.run c.take_first.new.self c.loop-test.true (c.in-Some.ensures.first s)
          (c.in_ok-take_first.ensures s ready.0 ready.1 ready.2 c.in-Some.ensures.within.1) c.loop.invariant.settling;
      quiet =
          quiet-taken s s.kernels c.in-Some.from c.in-Some.to c.lesser-quiet.result c.in_ok-take_first.field-0 c.loop.run c.take_first.new.self (c.in-Some.ensures.first s)
          (c.in_ok-take_first.ensures s ready.0 ready.1 ready.2 c.in-Some.ensures.within.1) c.lesser-quiet.ensures.0 c.lesser-quiet.ensures.1 c.in-Some.ensures.before;
    }

pub returns : goal.returns
returns c = settling-end c.args.setting.now c.args.setting.now.kernels 10000 c.loop.counter c.args.run.now c.loop.run c.loop-test.false c.loop.invariant.settling
