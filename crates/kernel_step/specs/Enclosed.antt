-- Ends that a message encloses.
use Rattle.std.specs.Prelude.{◌≡◌, false, List, [], ◌∷◌}
use Rattle.std.specs.List.{list_any}
use Rattle.charlotte_calls.specs.declared.names.EndId.{EndId}
use Rattle.end_table.specs.Place.{end_eq}
use Rattle.end_table.specs.Table.{IfHere, IsHereAnd, IsIdle}
use Rattle.end_table.specs.declared.entry.Entry.{Entry}
use Rattle.kernel_step.specs.Actions.{enclosed_of}

-- each of these ends is here and idle, and no two are the same
abbrev pub AreEnclosed : (EndId → Entry) → List EndId → Type 0
AreEnclosed t [] = Unit {0}
AreEnclosed t (x ∷ xs) = IsHereAnd (t x) IsIdle × (list_any (end_eq x) xs ≡ false) × AreEnclosed t xs

-- the ends that a waiting message of e encloses are here and idle, and e is none of them
pub record IsReady (t : EndId → Entry) (e : EndId) : Type 0 where
  pub enclosed : IfHere (t e) (λ v. AreEnclosed t (enclosed_of v.outward))
  pub apart : IfHere (t e) (λ v. list_any (end_eq e) (enclosed_of v.outward) ≡ false)
