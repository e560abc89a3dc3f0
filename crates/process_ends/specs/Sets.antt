-- Sets of numbers that have all numbers of another set.
use Rattle.std.specs.Prelude.{◌≡◌, ◌⊎◌, ℕ, List, true}
use Rattle.std.specs.List.{list_any}
use Rattle.std.specs.BTreeMap.{is_at}
use Rattle.std.specs.Ordering.{nat_cmp}
use Rattle.std.specs.BTreeSet.{BTreeSet}
use Rattle.process_ends.specs.Noted.{is_among}

-- all numbers of a set are in the other one
abbrev pub Grows : BTreeSet ℕ → BTreeSet ℕ → Type 0
Grows s t = (m : ℕ) → is_among m s ≡ true → is_among m t ≡ true

-- but for this one
abbrev pub GrowsBut : ℕ → BTreeSet ℕ → BTreeSet ℕ → Type 0
GrowsBut n s t = (m : ℕ) → (m ≡ n → ⊥) → is_among m s ≡ true → is_among m t ≡ true

-- each number of the other set is in this one, or still to come
abbrev pub Remains : BTreeSet ℕ → List ℕ → BTreeSet ℕ → Type 0
Remains more left s = (m : ℕ) → is_among m more ≡ true → (list_any (is_at (nat_cmp m)) left ≡ true) ⊎ (is_among m s ≡ true)
