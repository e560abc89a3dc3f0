use Rattle.std.proofs.Common.{is_some, ap, sym, subst, arith}
use Rattle.end_table.specs.Kept.{HasRoom}
use Rattle.end_table.specs.Place.{end_eq}
use Rattle.end_table.proofs.Keeping.{has_room}
use Rattle.end_table.proofs.kept.Kept.put.Goals as goal

pub add-requires-clause-room : goal.add-requires-clause-room
unfolding end_eq
add-requires-clause-room g c =
    rw c.get_mut.follows.holds-at-none
    (λ distinct. has_room _ c.args.end (subst (λ v. HasRoom v c.args.end) (sym c.self.view_is) c.requires) distinct (sym c.in-None.ensures.value))

pub add-requires-clause-absent : goal.add-requires-clause-absent
unfolding end_eq
add-requires-clause-absent g c = rw c.get_mut.follows.holds-at-none (sym c.in-None.ensures.value)

pub returns-in-Some-clause-put : goal.returns-in-Some-clause-put
unfolding end_eq
returns-in-Some-clause-put g c = rw (← c.self.view_is) ((c.get_mut.follows.holds c.args.item).3 (sym (ap is_some c.in-Some.ensures.value))).0

pub returns-in-Some-clause-room : goal.returns-in-Some-clause-room
unfolding end_eq
returns-in-Some-clause-room g c =
    let len = (c.get_mut.follows.holds c.args.item).2 in
    let room = (c.get_mut.follows.holds c.args.item).6 in
    rw (← c.self.view_is) (omega arith)

pub returns-in-None-clause-put : goal.returns-in-None-clause-put
unfolding end_eq
returns-in-None-clause-put g c = rw (← c.self.view_is, ← c.get_mut.follows.holds-at-none) c.add.ensures.put

pub returns-in-None-clause-room : goal.returns-in-None-clause-room
returns-in-None-clause-room g c = rw (← c.self.view_is, ← c.get_mut.follows.holds-at-none) c.add.ensures.room
