use Rattle.std.proofs.Common.{slice_index, sym, subst, arith}
use Rattle.std.proofs.lemmas.Result.{on_ok_weaker}
use Rattle.charlotte_calls.specs.Names.{opposite}
use Rattle.end_table.specs.Table.{entries, IsHere}
use Rattle.kernel_step.specs.Calls.{made_end}
use Rattle.kernel_start.proofs.Wired.{HasWired-next, few_made, not_yet}
use Rattle.kernel_start.proofs.start.Wiring.add.Goals as goal

-- each kernel has made no more links than were wired
pub next_link-link-requires-clause-fits : goal.next_link-link-requires-clause-fits
next_link-link-requires-clause-fits c =
    omega (
      arith,
      few_made c.args.setting.now c.args.index c.args.self.now c.requires.valid c.requires.within c.requires.so_far c.home-maker.result c.home-maker.ensures.below,
      c.requires.valid.limits.wires,
      c.requires.within,
    )

-- the ends of the new link are not here yet
pub place_both-requires-clause-a : goal.place_both-requires-clause-a
place_both-requires-clause-a c =
    subst (λ l. IsHere (entries c.args.self.now.table (made_end l.maker l.count)) → ⊥) (sym c.next_link-link.ensures.link)
    (not_yet c.args.setting.now c.args.index c.args.self.now c.requires.valid c.requires.within c.requires.so_far
    (made_end c.home-maker.result (slice_index c.args.self.now.made c.home-maker.result)) c.home-maker.ensures.below (omega arith))

pub place_both-requires-clause-b : goal.place_both-requires-clause-b
place_both-requires-clause-b c =
    subst (λ l. IsHere (entries c.args.self.now.table (opposite (made_end l.maker l.count))) → ⊥) (sym c.next_link-link.ensures.link)
    (not_yet c.args.setting.now c.args.index c.args.self.now c.requires.valid c.requires.within c.requires.so_far
    (opposite (made_end c.home-maker.result (slice_index c.args.self.now.made c.home-maker.result))) c.home-maker.ensures.below (omega arith))

pub returns-clause-wired : goal.returns-clause-wired
returns-clause-wired c =
    on_ok_weaker c.place_both.result
    (λ placed. HasWired-next c.args.setting.now c.args.index c.args.self.now (record { table = c.place_both.new.table; made = c.next_link-link.new.made }) c.wire_of-wire.result
    c.requires.within (c.wire_of-wire.ensures.wire c.wire_of-wire.result) c.requires.so_far c.next_link-link.result c.home-maker.result c.home-other.result
    c.home-maker.ensures.home c.home-maker.ensures.below c.next_link-link.ensures.link c.home-other.ensures.home c.place_both.ensures.kernel placed
    c.next_link-link.array_long c.next_link-link.ensures.counted)
    c.place_both.ensures.placed
