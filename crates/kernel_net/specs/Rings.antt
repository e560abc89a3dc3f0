-- What a port has of its rings.
use Rattle.std.specs.Prelude.{◌≡◌, ◌+◌, ◌≤◌, ℕ, List, [], ◌∷◌, ◌++◌, length}
use mathlib.Core.List.{IsPrefix}
use denote.RawPtr.{Ptr}
use Rattle.std.specs.declared.alloc.Global.{Global}
use Rattle.rtrb.specs.Shared.{Names}
use Rattle.rtrb.specs.Ring.{sent, known_free, received, known_items}
use Rattle.rtrb.specs.declared.end.End.{End}
use Rattle.rtrb.specs.declared.producer.Producer.{Producer}
use Rattle.rtrb.specs.declared.consumer.Consumer.{Consumer}
use Rattle.kernel_net.specs.declared.letter.Letter.{Letter}
use Rattle.kernel_net.specs.declared.letter.LetterRule.{LetterRule}
use Rattle.kernel_net.specs.Letters.{MayBePut}

-- which ring it is: two ends are of one ring exactly where they have this alike
pub record Ring : Type 0 where
  pub words : Ptr
  pub slots : Ptr
  pub names : Names
  pub heap : Global

abbrev pub ring_of : End Letter Global LetterRule → Ring
ring_of e = record { words = e.words; slots = e.slots; names = e.names; heap = e.heap }

-- how many letters a ring has room for
abbrev pub capacity_of : Ring → ℕ
capacity_of r = r.names.0

-- the end that puts: what it put, oldest first, and how many free places it knows
pub record Outlet : Type 0 where
  pub ring : Ring
  pub put : List Letter
  pub places : ℕ

-- the end that gets: what it got, oldest first, and the letters that it knows to be there, which the next gets give
pub record Inlet : Type 0 where
  pub ring : Ring
  pub got : List Letter
  pub known : List Letter

abbrev pub outlet_of : Producer Letter Global LetterRule → Outlet
outlet_of p = record { ring = ring_of p.end; put = sent p; places = known_free p }

abbrev pub inlet_of : Consumer Letter Global LetterRule → Inlet
inlet_of c = record { ring = ring_of c.end; got = received c; known = known_items c }

-- both ends of a ring into which nothing was put
pub record IsFreshRing (most : ℕ) (o : Outlet) (i : Inlet) : Type 0 where
  pub ring : o.ring ≡ i.ring
  pub capacity : capacity_of o.ring ≡ most
  pub put : o.put ≡ []
  pub places : o.places ≡ most
  pub got : i.got ≡ []
  pub known : i.known ≡ []

-- a letter was put
pub record Puts (letter : Letter) (old new : Outlet) : Type 0 where
  pub ring : new.ring ≡ old.ring
  pub put : new.put ≡ old.put ++ letter ∷ []
  pub places : old.places ≤ new.places + 1

-- more free places may be known than were, and else nothing changed
pub record Frees (old new : Outlet) : Type 0 where
  pub ring : new.ring ≡ old.ring
  pub put : new.put ≡ old.put
  pub places : old.places ≤ new.places

-- a letter was got, the first of those that are there, and it is one that might be put
pub record Gets (letter : Letter) (old new : Inlet) : Type 0 where
  pub ring : new.ring ≡ old.ring
  pub got : new.got ≡ old.got ++ letter ∷ []
  pub known : IsPrefix old.known (letter ∷ new.known)
  pub allowed : MayBePut old.got letter

-- more letters may be known than were, and else nothing changed
pub record Learns (old new : Inlet) : Type 0 where
  pub ring : new.ring ≡ old.ring
  pub got : new.got ≡ old.got
  pub known : IsPrefix old.known new.known

-- both ends were brought together: what was got, followed by what is there, is what was put, and each place without a letter is known
-- to be free
pub record Looks (o o' : Outlet) (i i' : Inlet) : Type 0 where
  pub outlet : o'.ring ≡ o.ring
  pub inlet : i'.ring ≡ i.ring
  pub put : o'.put ≡ o.put
  pub got : i'.got ≡ i.got
  pub places : o.places ≤ o'.places
  pub known : IsPrefix i.known i'.known
  pub there : i'.got ++ i'.known ≡ o'.put
  pub room : capacity_of o.ring ≤ o'.places + length i'.known
