use Rattle.std.proofs.Common.{◌≡◌, ap, ◌∙◌}
use Rattle.charlotte_calls.specs.Names.{opposite}
use Rattle.charlotte_packets.specs.declared.picture.MovingPicture.{MovingPicture}
use Rattle.end_table.specs.Table.{entries}
use Rattle.kernel_event.proofs.ActsParts.{opposite-away}
use Rattle.kernel_step.specs.Calls.{made_end}
use Rattle.kernel_event.proofs.acts.make.Goals as goal

pub settle-requires-2-clause-away : goal.settle-requires-2-clause-away
settle-requires-2-clause-away c =
    let a : c.pair-a.result.0.end ≡ made_end c.args.table.now.kernel c.args.made =
    ap (λ (m : MovingPicture). m.end) c.pair-a.ensures.a ∙ ap (λ k. made_end k c.args.made) c.kernel-kernel.ensures.kernel in
    opposite-away (entries c.args.table.now) (entries c.settle.new.table) (made_end c.args.table.now.kernel c.args.made) c.pair-a.result.1.end
    (ap (λ (m : MovingPicture). m.end) c.pair-a.ensures.b ∙ ap (λ k. opposite (made_end k c.args.made)) c.kernel-kernel.ensures.kernel) (λ q apart. c.settle.ensures.puts.others q (rw a apart)) c.requires.opposite_away
