-- The ends of a process, in order of maker, count and side.
use Rattle.std.specs.Prelude.{Bool, true, false, nat_eq, nat_lt, ◌&&◌, ◌||◌, if◌then◌else◌}
use Rattle.std.specs.Prelude.{IsTrue, Option, Some, None, IsSome, List, [], ◌∷◌, Contains, ◌↔◌}
use Rattle.charlotte_calls.specs.declared.names.EndId.{EndId}
use Rattle.charlotte_calls.specs.declared.names.Pid.{Pid}
use Rattle.charlotte_calls.specs.declared.names.Side.{Side}
use Rattle.charlotte_calls.specs.declared.names.Side.TheVariants.{A, B}
use Rattle.end_table.specs.declared.entry.Entry.{Entry}
use Rattle.end_table.specs.declared.entry.Entry.TheVariants as entry
use Rattle.end_table.specs.declared.entry.HereView.{HereView}
use Rattle.end_table.specs.declared.entry.Holder.{Holder}
use Rattle.end_table.specs.declared.entry.Holder.TheVariants as holder

-- the holder is this process
abbrev pub is_owner : Pid → Holder → Bool
is_owner p (holder.Owner q) = nat_eq p.0 q.0
is_owner p (holder.EnclosedIn on) = false

-- the view of an end that p owns
abbrev pub owned : Pid → Entry → Option HereView
owned p entry.Nothing = None
owned p (entry.Here v) = if is_owner p v.holder then Some v else None
owned p (entry.Left to hops) = None
owned p (entry.Destroyed m) = None

-- end a stands before end b
abbrev pub side_before : Side → Side → Bool
side_before A A = false
side_before A B = true
side_before B A = false
side_before B B = false

-- ends are ordered by maker, count and side
abbrev pub end_before : EndId → EndId → Bool
end_before x y =
    nat_lt x.link.maker y.link.maker
    || (nat_eq x.link.maker y.link.maker
    && (nat_lt x.link.count y.link.count || (nat_eq x.link.count y.link.count && side_before x.side y.side)))

-- each end stands before the next
abbrev pub AreEndsInOrder : List EndId → Type 0
AreEndsInOrder [] = Unit {0}
AreEndsInOrder (x ∷ []) = Unit {0}
AreEndsInOrder (x ∷ y ∷ xs) = IsTrue (end_before x y) × AreEndsInOrder (y ∷ xs)

-- these are all the ends that p owns, in order
pub record AreEndsOf (p : Pid) (t : EndId → Entry) (mine : List EndId) : Type 0 where
  pub order : AreEndsInOrder mine
  pub all : (e : EndId) → Contains mine e ↔ IsSome (owned p (t e))
