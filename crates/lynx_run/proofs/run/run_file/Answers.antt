use Rattle.lynx_command.specs.Found.{found_of}
use Rattle.lynx_run.proofs.Running.{ran_so, told_so}
use Rattle.lynx_run.proofs.run.run_file.Goals as goal

pub returns-in-Ok : goal.returns-in-Ok
returns-in-Ok g c =
    let l = c.in-Ok.ensures.loads in
    let put = c.end_with.ensures in
    ran_so c.args.name.now c.args.driver.how.turns (g.F.Files.state c.args.files.now) (g.F.Files.state c.load_plan.new.files) (g.O.Sink.state c.args.out.now) (g.O.Sink.state c.end_with.new.out) (g.E.Sink.state c.args.err.now)
    (g.E.Sink.state c.end_with.new.err) c.end_with.result c.in-Ok.loaded l.1 l.0 (found_of (λ t. t) c.run_loaded-found.result) put.0 put.1 l.2 l.3 l.4 c.run_loaded-found.ensures put.2 put.3 put.4

pub returns-in-Err : goal.returns-in-Err
returns-in-Err g c =
    let l = c.in-Err.ensures.loads in
    told_so c.args.name.now c.args.driver.how.turns (g.F.Files.state c.args.files.now) (g.F.Files.state c.load_plan.new.files) (g.O.Sink.state c.args.out.now) (g.E.Sink.state c.args.err.now) (g.E.Sink.state c.tell_fault.new.err)
    c.tell_fault.result c.in-Err.fault l.1 l.0 l.2 l.3 l.4 c.tell_fault.ensures
