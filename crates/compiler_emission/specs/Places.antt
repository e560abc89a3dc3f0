-- Tables of places, and what they have at a name.
use Rattle.std.specs.Prelude.{◌≡◌, ℕ, List, length, Option, None, Some}
use Rattle.std.specs.HashMap.{get_by}
use Rattle.std.specs.Str.{bytes_eq}
use Rattle.lynx_code.specs.Modules.{place_in}
use Rattle.compiler_emission.specs.declared.places.Places.{Places}

-- what a table has at a name
abbrev pub found : Places → List ℕ → Option ℕ
found table name = get_by (λ k. bytes_eq name k.bytes.now) table.places

abbrev pub first_of : Option ℕ → Option ℕ → Option ℕ
first_of None other = other
first_of (Some place) other = Some place

-- the table has the places of the names in this list
pub record IsTableOf (names : List (List ℕ)) (table : Places) : Type 0 where
  pub count : table.count ≡ length names
  pub places : (name : List ℕ) → found table name ≡ place_in names name
