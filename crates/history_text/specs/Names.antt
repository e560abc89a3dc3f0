-- Names of processes and links, and tables of them.
use Rattle.std.specs.Prelude.{◌≡◌, ℕ, List, Bool, ◌&&◌, ◌||◌, nat_le, ◌==◌, if◌then◌else◌, is_some, length, slice_get, [], Option, Some, None, Result, Ok, Err}
use Rattle.std.specs.List.{list_all}
use Rattle.std.specs.Map.{lookup}
use Rattle.std.specs.Cmp.{IsEquivalence}
use Rattle.std.specs.Cmp.Lexicographic.{nat_list_eq_equiv}
use Rattle.std.specs.Str.{bytes_eq}
use Rattle.charlotte_text.specs.declared.fault.Fault.{Fault}
use Rattle.charlotte_text.specs.declared.fault.Fault.TheVariants.{Form}
use Rattle.charlotte_text.specs.Reading.{◌>>=◌}

-- what a reader gives is what the first word says, and these words are left
abbrev pub Takes : {X : Type 0} → Result (X × List (List ℕ)) Fault → Result X Fault → List (List ℕ) → Type 0
Takes read (Ok x) left = read ≡ Ok (x, left)
Takes read (Err e) left = read ≡ Err e

-- what has a name's bytes is compared by them
pub by_bytes : {X : Type 0} (bytes : X → List ℕ) → IsEquivalence (λ x y. bytes_eq (bytes x) (bytes y))
by_bytes bytes = record {
  refl = λ x. nat_list_eq_equiv.refl (bytes x);
  symm = λ x y. nat_list_eq_equiv.symm (bytes x) (bytes y);
  congr = λ x y z. nat_list_eq_equiv.congr (bytes x) (bytes y) (bytes z);
}

-- a letter, a digit, `_` or `-`
abbrev pub is_name_byte : ℕ → Bool
is_name_byte b = (nat_le 48 b && nat_le b 57) || (nat_le 65 b && nat_le b 90) || (nat_le 97 b && nat_le b 122) || (b == 95) || (b == 45)

-- 1 to 32 of them
abbrev pub is_name : List ℕ → Bool
is_name word = nat_le 1 (length word) && nat_le (length word) 32 && list_all is_name_byte word

-- a word that is a name
unfoldable pub name_of : List ℕ → Result (List ℕ) Fault
name_of word = if is_name word then Ok word else Err Form

-- names, each with what it was told to be, in the order in which they were told
abbrev pub Table : Type 0 → Type 0
Table X = List (List ℕ × X)

-- what a name was told to be
abbrev pub look : {X : Type 0} → Table X → List ℕ → Option X
look names name = lookup (bytes_eq name) names

abbrev pub name_of_entry : {X : Type 0} → Option (List ℕ × X) → List ℕ
name_of_entry None = []
name_of_entry (Some entry) = entry.0

-- the name at a place of a table
abbrev pub name_at : {X : Type 0} → Table X → ℕ → List ℕ
name_at names n = name_of_entry (slice_get names n)

abbrev pub found : {X : Type 0} → Option X → Result X Fault
found None = Err Form
found (Some x) = Ok x

-- what a word names: a name that was told
abbrev pub told : {X : Type 0} → Table X → List ℕ → Result X Fault
told names word = found (look names word)

-- a word that is a name and was not told
unfoldable pub untold : {X : Type 0} → Table X → List ℕ → Result (List ℕ) Fault
untold names word = name_of word >>= λ name. if is_some (look names name) then Err Form else Ok name
