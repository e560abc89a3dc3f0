use Rattle.std.proofs.Common.{◌<◌, Ok, length, sym, subst}
use Rattle.process_run.specs.Ends.{unpacked}
use Rattle.process_run.specs.States.{State}
use Rattle.lynx_rt.proofs.Keeping.{asking_below}
use Rattle.lynx_rt.proofs.process.Running.take_in.Goals as goal

pub push-requires : goal.push-requires
push-requires c =
    subst (λ (s : State). c.args.thread < length s.opened) (sym c.self.view_is)
    (asking_below c.args.thread (Ok (unpacked (length c.args.self.now.places) c.args.wanted.now.values)) c.args.self.now c.requires.process c.requires.may)
