-- One step of a list that is read.
use Rattle.std.proofs.Common.{◌≡◌, ℕ, zero, suc, ◌++◌, ◌-◌, ◌+◌, ◌≤◌, ◌<◌, List, [], ◌∷◌, length, get_or, drop, Result, Ok, refl, arith, ℤ}
use Rattle.std.proofs.lemmas.List.{drop_more, drop_all}
use Rattle.lynx_tree.specs.declared.declaration.TypeName.{TypeName}
use Rattle.lynx_packets.specs.declared.fault.Unread.{Unread}
use Rattle.lynx_packets.specs.declared.fault.Unread.TheVariants as unread
use Rattle.lynx_packets.specs.declared.value.RtValue.{RtValue}
use Rattle.lynx_packets.specs.Reading.{Fails, int_at, numbers_at, typed_at, arguments_at, value_at, values_at, link_count}
use Rattle.lynx_packets.proofs.Loop.{with_front, with_next, goes_on, ends, is_done}
use Rattle.lynx_packets.proofs.Sizes.{value_less}

pub numbers_next : (count i : ℕ) (bytes : List ℕ) (n : ℤ) (after : List ℕ) → i < count → int_at bytes ≡ Ok (n, after) → numbers_at (count - i) bytes ≡ with_next n (numbers_at (count - (i + 1)) after)
unfolding numbers_at
numbers_next count i bytes n after lt read =
    let k : count - i ≡ suc (count - (i + 1)) = omega arith in
    rw (k, read) refl

pub numbers_fail : (e : Unread) (count i : ℕ) (bytes : List ℕ) → i < count → Fails e (int_at bytes) → Fails e (numbers_at (count - i) bytes)
unfolding numbers_at
numbers_fail unread.Memory count i bytes lt fails = tt
numbers_fail (unread.Wrong left) count i bytes lt fails =
    let k : count - i ≡ suc (count - (i + 1)) = omega arith in
    rw (k, fails) refl

pub numbers_end : (count i : ℕ) (bytes : List ℕ) → count ≤ i → numbers_at (count - i) bytes ≡ Ok ([], bytes)
unfolding numbers_at
numbers_end count i bytes le =
    let k : count - i ≡ 0 = omega arith in
    rw k refl

pub arguments_next : (ts : List TypeName) (i : ℕ) (t : TypeName) (bytes : List ℕ) (v : RtValue) (after : List ℕ) → i < length ts → typed_at (get_or ts i t) bytes ≡ Ok (v, after) → arguments_at (drop i ts) bytes ≡ with_next v (arguments_at (drop (i + 1) ts) after)
unfolding arguments_at
arguments_next ts i t bytes v after lt read = rw (drop_more ts i t lt, read) refl

pub arguments_fail : (e : Unread) (ts : List TypeName) (i : ℕ) (t : TypeName) (bytes : List ℕ) → i < length ts → Fails e (typed_at (get_or ts i t) bytes) → Fails e (arguments_at (drop i ts) bytes)
unfolding arguments_at
arguments_fail unread.Memory ts i t bytes lt fails = tt
arguments_fail (unread.Wrong left) ts i t bytes lt fails = rw (drop_more ts i t lt, fails) refl

pub arguments_end : (ts : List TypeName) (i : ℕ) (bytes : List ℕ) → length ts ≤ i → arguments_at (drop i ts) bytes ≡ Ok ([], bytes)
unfolding arguments_at
arguments_end ts i bytes le = rw (drop_all i ts le) refl

pub values_fail : (e : Unread) (fuel links : ℕ) (bytes : List ℕ) → 0 < length bytes → length bytes ≤ fuel → Fails e (value_at links bytes) → Fails e (values_at fuel links bytes)
unfolding values_at
values_fail unread.Memory fuel links bytes some le fails = tt
values_fail (unread.Wrong left) fuel links [] some le fails = absurd (omega (arith, some))
values_fail (unread.Wrong left) zero links (b ∷ bs) some le fails = absurd (omega (arith, le))
values_fail (unread.Wrong left) (suc fuel) links (b ∷ bs) some le fails = rw fails refl

pub values_next : (fuel links : ℕ) (bytes : List ℕ) (v : RtValue) (after : List ℕ) → 0 < length bytes → value_at links bytes ≡ Ok (v, after) → values_at (suc fuel) links bytes ≡ with_next v (values_at fuel (links - link_count v) after)
unfolding values_at
values_next fuel links [] v after some read = absurd (omega (arith, some))
values_next fuel links (b ∷ bs) v after some read = rw read refl

-- what is left of a reply's values: some number is at least that of the bytes
abbrev pub IsLeft : List RtValue → ℕ → List ℕ → Result (List RtValue × List ℕ) ℕ → Type 0
IsLeft front links bytes total = (fuel : ℕ) × (length bytes ≤ fuel) × (with_front front (values_at fuel links bytes) ≡ total)

pub values_go : (front : List RtValue) (links : ℕ) (bytes : List ℕ) (total : Result (List RtValue × List ℕ) ℕ) (v : RtValue) (after : List ℕ) → 0 < length bytes → value_at links bytes ≡ Ok (v, after) → IsLeft front links bytes total → IsLeft (front ++ v ∷ []) (links - link_count v) after total
values_go front links bytes total v after some read (zero, le, so_far) = absurd (omega (arith, some, le))
values_go front links bytes total v after some read (suc fuel, le, so_far) =
    (fuel, omega (arith, le, value_less links bytes (v, after) read), goes_on front v (values_at (suc fuel) links bytes) (values_at fuel (links - link_count v) after) total (values_next fuel links bytes v after some read) so_far)

pub values_end : (front : List RtValue) (links : ℕ) (bytes : List ℕ) (total : Result (List RtValue × List ℕ) ℕ) → length bytes ≡ 0 → IsLeft front links bytes total → total ≡ Ok (front, [])
unfolding values_at
values_end front links [] total none left = is_done front [] (values_at left.0 links []) total refl left.2
values_end front links (b ∷ bs) total none left = absurd (omega (arith, none))

pub values_stop : (e : Unread) (front : List RtValue) (links : ℕ) (bytes : List ℕ) (total : Result (List RtValue × List ℕ) ℕ) → 0 < length bytes → Fails e (value_at links bytes) → IsLeft front links bytes total → Fails e total
values_stop e front links bytes total some fails left = ends e front (values_at left.0 links bytes) total (values_fail e left.0 links bytes some left.1 fails) left.2
