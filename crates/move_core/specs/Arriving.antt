-- Values of ends that a packet brings.
use Rattle.std.specs.Prelude.{◌≡◌, false, List, [], ◌∷◌}
use Rattle.std.specs.List.{list_any}
use Rattle.charlotte_packets.specs.declared.picture.MovingPicture.{MovingPicture}
use Rattle.end_table.specs.Place.{end_eq}
use Rattle.end_table.specs.Table.{TableView, entries, HasPlace, IsHere}
use Rattle.kernel_step.specs.Rows.{ends_in}

-- none of their ends is here, and each has a place
abbrev pub AreAway : TableView → List MovingPicture → Type 0
AreAway t [] = Unit {0}
AreAway t (m ∷ ms) = HasPlace t m.end × (IsHere (entries t m.end) → ⊥) × AreAway t ms

-- no two of their ends are the same
abbrev pub AreApart : List MovingPicture → Type 0
AreApart [] = Unit {0}
AreApart (m ∷ ms) = (list_any (end_eq m.end) (ends_in ms) ≡ false) × AreApart ms
