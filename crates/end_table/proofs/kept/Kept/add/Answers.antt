use Rattle.std.proofs.Common.{◌≡◌, ◌<◌, None, IsOk, true≢false, length, sym, subst, ◌∙◌, arith}
use Rattle.std.specs.List.{IsDistinct}
use Rattle.std.specs.Map.{lookup, keys_of}
use Rattle.end_table.specs.Place.{end_eq}
use Rattle.end_table.proofs.Keeping.{room-put}
use Rattle.end_table.proofs.kept.Kept.add.Goals as goal

pub unreachable-requires : goal.unreachable-requires
unfolding end_eq
unreachable-requires g c =
    let distinct = subst (λ es. IsDistinct end_eq (keys_of es)) c.in-Err.ensures.err c.insert.ensures.unique in
    let room = subst (λ v. IsDistinct end_eq (keys_of v.kept) → length v.kept < v.most) (sym c.self.view_is) c.requires.room distinct in
    true≢false (sym (subst IsOk c.in-Err.is (c.insert.ensures.succeeds (omega arith))))

pub returns-clause-put : goal.returns-clause-put
unfolding end_eq
returns-clause-put g c = rw (← c.self.view_is) c.in-Ok.ensures.updates.0

pub returns-clause-room : goal.returns-clause-room
unfolding end_eq
returns-clause-room g c =
    rw (← c.self.view_is)
    (room-put c.self.inside.kept c.insert.new.self (c.in-Ok.ensures.old ∙ subst (λ v. lookup (end_eq c.args.end) v.kept ≡ None) (sym c.self.view_is) c.requires.absent) c.in-Ok.ensures.len c.insert.ensures.spare)
