use Rattle.lynx_rt.proofs.Programs.{ends, fits, goes_on, is_process, keeps, may_go_on}
use Rattle.lynx_rt.proofs.program.LynxProcessProgram.next.Goals as goal

pub step-requires-clause-may : goal.step-requires-clause-may
step-requires-clause-may c = may_go_on _ c.args.self.now c.args.answer c.self.view_is c.requires c.self.invariant c.told.ensures

pub invariant_of-self-2 : goal.invariant_of-self-2
invariant_of-self-2 c =
    goes_on _ c.args.self.now c.args.answer c.self.view_is c.requires c.self.invariant c.step.new.out c.step.new.self c.in_ok-step.ensures.step
    c.of-2.result.next c.of-2.ensures c.told.ensures

pub returns-clause-limit : goal.returns-clause-limit
returns-clause-limit c =
    fits _ c.args.self.now c.args.answer c.self.view_is c.requires c.self.invariant c.step.new.out c.step.new.self c.in_ok-step.ensures.step

pub returns-clause-version : goal.returns-clause-version
returns-clause-version c =
    keeps _ c.args.self.now c.args.answer c.self.view_is c.requires c.self.invariant c.step.new.out c.step.new.self c.in_ok-step.ensures.step
