-- An end that leaves a kernel: its value has one hop more, and the kernel is in its trail.
use Rattle.std.proofs.Common.{◌≡◌, ℕ, ◌+◌, ◌≤◌, ◌^◌, Bool, true, false, bit_or, if◌then◌else◌, Some, None, refl, sym, ap, arith}
use Rattle.std.proofs.lemmas.Nat.Bits.{bit_at-pow_same, bit_at_or}
use Rattle.std.specs.Int.{bit_at}
use Rattle.charlotte_calls.specs.declared.names.EndId.{EndId}
use Rattle.charlotte_packets.specs.declared.picture.MovingPicture.{MovingPicture}
use Rattle.end_table.specs.Entries.{gains_one, left_entry, left_value}
use Rattle.end_table.specs.declared.entry.Entry.TheVariants as entry
use Rattle.theorem_effects.specs.Change.{Change}
use Rattle.theorem_meaning.specs.Fields.{value_of}
use Rattle.trace_moving.specs.Moving.{IsMovedEntry, IsOnward}

-- the kernel is in its trail, and so is each that was
left-in : (k trail : ℕ) → bit_at (2 ^ k) k ≡ 1 → bit_at (bit_or trail (2 ^ k)) k ≡ 1
left-in k trail one = omega (arith, bit_at_or trail (2 ^ k) k)

still-in : (k trail j : ℕ) → bit_at trail j ≡ 1 → bit_at (bit_or trail (2 ^ k)) j ≡ 1
still-in k trail j was = omega (arith, bit_at_or trail (2 ^ k) j)

pub left-onward : (k : ℕ) (m : MovingPicture) → gains_one m.hops ≡ m.hops + 1 → IsOnward m (left_value k m)
left-onward k m more = record { hint = refl; want = refl; served = refl; dead = refl; hops = omega (arith, more); trail = λ j set. still-in k m.trail j set }

-- what it leaves behind has no fields
pub left-none : (to : ℕ) (m o : MovingPicture) → value_of (left_entry to m) ≡ Some o → ⊥
left-none to m o = by m.dead
  where
    by : (a : Bool) → value_of (if a then entry.Nothing else entry.Left to (gains_one m.hops)) ≡ Some o → ⊥
    by true has = let none : None ≡ Some o = has in cc
    by false has = let none : None ≡ Some o = has in cc

pub moved-left_entry : (c : Change) (e : EndId) (to : ℕ) (m : MovingPicture) → gains_one m.hops ≡ m.hops + 1 → IsMovedEntry c e (left_value c.kernel m) (left_entry to m)
moved-left_entry c e to m more = by m.dead refl
  where
    by : (a : Bool) → m.dead ≡ a → IsMovedEntry c e (left_value c.kernel m) (if a then entry.Nothing else entry.Left to (gains_one m.hops))
    by true dead = tt
    by false free = (free, omega (arith, more), omega arith, left-in c.kernel m.trail (bit_at-pow_same c.kernel))
