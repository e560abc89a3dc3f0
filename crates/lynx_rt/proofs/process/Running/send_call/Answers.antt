use Rattle.std.proofs.Common.{arith, ◌<◌, length, refl, sym, ap, ◌∙◌}
use Rattle.lynx_packets.specs.Spelling.{spelling}
use Rattle.process_run.specs.States.{State}
use Rattle.process_ends.specs.Ends.{kept_at}
use Rattle.lynx_rt.proofs.process.Running.send_call.Goals as goal

pub unreachable-requires : goal.unreachable-requires
unreachable-requires c =
    let few = (c.requires c.args.number c.in-Some.kept.now c.in-Some-first.message.now (sym (c.in-Some.ensures ∙ ap (λ (s : State). kept_at c.args.number s.places) c.self.view_is)) (sym c.in-Some-first.ensures)).size in
    let more : 256 < length (spelling c.in-Some-first.message.now.packet) = c.in_default-encode.ensures.long.0 refl in
    omega (arith, more, few)
