use Rattle.std.proofs.Common.{◌≡◌, ◌+◌, [], ◌∷◌, length, ap, arith, rules}
use Rattle.end_table.specs.Table.{entries}
use Rattle.kernel_event.proofs.ActsParts.{all-left, all-within, first-room, none-left, one-fewer}
use Rattle.kernel_sound.proofs.Needs.{IsReady-sound}
use Rattle.kernel_event.proofs.acts.destroy_each.Goals as goal

pub loop-first-init : goal.loop-first-init
loop-first-init c = all-left _ _ _ c.requires.ends c.requires.room

pub destroy_here-requires-clause-ready : goal.destroy_here-requires-clause-ready
destroy_here-requires-clause-ready c =
    let ends = c.loop-first.invariant.ends in
    IsReady-sound c.loop-first.table.kernel ends.made ends.n (entries c.loop-first.table) ends.sound c.in-Some.first

pub destroy_here-requires-clause-room : goal.destroy_here-requires-clause-room
destroy_here-requires-clause-room c = first-room _ _ _ _ c.in-Some.ensures c.loop-first.invariant.room

pub loop-first-smaller : goal.loop-first-smaller
loop-first-smaller c =
    let long : length c.loop-first.left.now ≡ length (c.in-Some.first ∷ c.in-Some.others.now) = ap length c.in-Some.ensures in
    omega (arith, long)

pub loop-first-preserved : goal.loop-first-preserved
loop-first-preserved c = one-fewer _ _ _ _ _ _ _ _ _ _ c.in-Some.ensures c.loop-first.invariant c.destroy_here.ensures.part c.destroy_here.ensures.within

pub returns-clause-part : goal.returns-clause-part
returns-clause-part c = let none : c.loop-first.left.now ≡ [] = search rules in none-left _ _ _ _ _ _ none c.loop-first.invariant

pub returns-clause-within : goal.returns-clause-within
returns-clause-within c = let none : c.loop-first.left.now ≡ [] = search rules in all-within _ _ _ _ _ _ none c.loop-first.invariant
