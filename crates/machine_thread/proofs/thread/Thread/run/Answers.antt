use Rattle.std.proofs.Common.{◌≡◌, ap, sym, ◌∙◌}
use Rattle.machine_turns.specs.Threads.{Went, comes_of}
use Rattle.machine_thread.specs.Programs.{program_of}
use Rattle.machine_thread.specs.Told.{told}
use Rattle.machine_thread.specs.declared.action.Move.{Move}
use Rattle.machine_thread.proofs.Courses.{has_come, is_ready, one_more, stays_ready}
use Rattle.machine_thread.proofs.thread.Thread.run.Goals as goal

pub step-requires : goal.step-requires
step-requires c = is_ready (program_of c.args.code.now) c.instructions.globals c.instructions.self c.instructions.invariant.ready

pub instructions-preserved : goal.instructions-preserved
instructions-preserved c =
    let p = program_of c.args.code.now in
    let went : Went c.step.new.globals c.step.new.self ≡ comes_of p c.instructions.globals c.instructions.self =
    sym (ap (λ (m : Move). told m c.step.new.globals c.step.new.self) c.in-GoesOn.is) ∙ c.in_ok-other.ensures in
    record {
      ready = stays_ready p c.instructions.globals c.step.new.globals c.instructions.self c.step.new.self went c.instructions.invariant.ready;
      come = has_come p c.args.fuel c.fuel_after-left.result c.args.globals.now c.args.self.now (Went c.step.new.globals c.step.new.self)
          (one_more p c.args.fuel c.instructions.left c.fuel_after-left.result c.args.globals.now c.instructions.globals c.args.self.now c.instructions.self (Went c.step.new.globals c.step.new.self) c.fuel_after-left.ensures
          c.instructions-test.true
          c.instructions.invariant.come
          went);
    }

pub returns-in_default-clause-course : goal.returns-in_default-clause-course
returns-in_default-clause-course c =
    one_more (program_of c.args.code.now) c.args.fuel c.instructions.left c.fuel_after-left.result c.args.globals.now c.instructions.globals c.args.self.now c.instructions.self
    (told c.in_ok-other.other c.step.new.globals c.step.new.self)
    c.fuel_after-left.ensures
    c.instructions-test.true
    c.instructions.invariant.come
    c.in_ok-other.ensures
