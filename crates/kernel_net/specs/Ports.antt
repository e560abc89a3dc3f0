-- Ports, and the net that they make together.
use Rattle.std.specs.Prelude.{◌≡◌, ◌≢◌, ◌+◌, ◌<◌, ◌≤◌, ℕ, List, [], ◌∷◌, ◌++◌, All, length, map, set, slice_index_or}
use mathlib.Core.List.{IsPrefix}
use Rattle.kernel_net.specs.Rings.{Ring, Outlet, Inlet, Learns, capacity_of}
use Rattle.kernel_net.specs.declared.letter.Letter.{Letter}
use Rattle.kernel_net.specs.Letters.{MayBePut}

-- a port as contracts see it: its number, and its ends of the rings to the kernels and from the kernels, by their numbers
pub record PortView : Type 0 where
  pub kernel : ℕ
  pub out : List Outlet
  pub into : List Inlet

-- ---- what was put and got

-- all that the port put to a kernel, oldest first
abbrev pub put_to : PortView → ℕ → List Letter
put_to p to = slice_index_or (map (λ o. o.put) p.out) to []

-- all that the port got from a kernel, oldest first
abbrev pub got_from : PortView → ℕ → List Letter
got_from p from = slice_index_or (map (λ i. i.got) p.into) from []

-- ---- what a port knows of its rings

-- how many free places of the ring to a kernel it knows
abbrev pub places_to : PortView → ℕ → ℕ
places_to p to = slice_index_or (map (λ o. o.places) p.out) to 0

-- the letters from a kernel that it knows to be there, oldest first
abbrev pub known_from : PortView → ℕ → List Letter
known_from p from = slice_index_or (map (λ i. i.known) p.into) from []

-- the letters of one port that are there for another, as the other knows
abbrev pub there_of : PortView → PortView → List Letter
there_of putter getter = known_from getter putter.kernel

-- ---- the place in the net, which no call changes

-- the number of the kernel, and the rings to the kernels and from the kernels
pub record Place : Type 0 where
  pub kernel : ℕ
  pub to : List Ring
  pub from : List Ring

abbrev pub place_of : PortView → Place
place_of p = record { kernel = p.kernel; to = map (λ o. o.ring) p.out; from = map (λ i. i.ring) p.into }

-- how many kernels the net has
abbrev pub kernels_of : Place → ℕ
kernels_of p = length p.to

-- how many letters the ring to a kernel has room for
abbrev pub room_to : Place → ℕ → ℕ
room_to p to = slice_index_or (map capacity_of p.to) to 0

-- into the ring from the first place to the second the first puts and from it the second gets
pub record IsJoined (p q : Place) : Type 0 where
  pub to : q.kernel < kernels_of p
  pub from : p.kernel < length q.from
  pub ring : (d : Ring) → slice_index_or p.to q.kernel d ≡ slice_index_or q.from p.kernel d

-- two places of one net
abbrev pub AreOfOneNet : Place → Place → Type 0
AreOfOneNet p q = IsJoined p q × IsJoined q p

-- a place of a net: it has a ring to and from each kernel, itself too
pub record IsPlace (p : Place) : Type 0 where
  pub same : kernels_of p ≡ length p.from
  pub most : kernels_of p ≤ 8
  pub own : IsJoined p p

-- the places of a net, by the numbers of the kernels: each two are of one net, each with itself too
pub record IsNet (net : List Place) : Type 0 where
  pub numbers : (k : ℕ) (d : Place) → k < length net → (slice_index_or net k d).kernel ≡ k
  pub kernels : All (λ p. kernels_of p ≡ length net) net
  pub joined : (j k : ℕ) (d : Place) → j < length net → k < length net → IsJoined (slice_index_or net j d) (slice_index_or net k d)

-- ---- what calls do

-- nothing was put or got yet, and each ring has room for so many letters
pub record IsFresh (capacity : ℕ) (p : PortView) : Type 0 where
  pub put : (to : ℕ) → put_to p to ≡ []
  pub got : (from : ℕ) → got_from p from ≡ []
  pub known : (from : ℕ) → known_from p from ≡ []
  pub places : (to : ℕ) → to < kernels_of (place_of p) → places_to p to ≡ capacity
  pub room : (to : ℕ) → to < kernels_of (place_of p) → room_to (place_of p) to ≡ capacity

-- A letter was put to a kernel, and else nothing changed. When it was put, one place more was known to be free than is known now
pub record HasPut (to : ℕ) (letter : Letter) (old new : PortView) : Type 0 where
  pub put : put_to new to ≡ put_to old to ++ letter ∷ []
  pub places : places_to old to ≤ places_to new to + 1
  pub others : (q : ℕ) → q ≢ to → (put_to new q ≡ put_to old q) × (places_to new q ≡ places_to old q)
  pub into : new.into ≡ old.into

-- A letter of a kernel was got, the first one that is there, and from the kernels with lower numbers none is known. It is one that
-- might be put behind those got before: no packet of the greatest stamp, and no second marker
pub record HasGot (from : ℕ) (letter : Letter) (old new : PortView) : Type 0 where
  pub kernel : from < kernels_of (place_of old)
  pub got : got_from new from ≡ got_from old from ++ letter ∷ []
  pub allowed : MayBePut (got_from old from) letter
  pub known : IsPrefix (known_from old from) (letter ∷ known_from new from)
  pub before : (q : ℕ) → q < from → known_from new q ≡ []
  pub others : (q : ℕ) → q ≢ from → (got_from new q ≡ got_from old q) × (known_from new q ≡ known_from old q)
  pub out : new.out ≡ old.out

-- The first kernel was found of which a letter is known, by their numbers. More letters of it may be known than were, and else nothing
-- changed
pub record HasFound (from : ℕ) (old new : PortView) : Type 0 where
  pub kernel : from < kernels_of (place_of old)
  pub some : 0 < length (known_from new from)
  pub known : IsPrefix (known_from old from) (known_from new from)
  pub before : (q : ℕ) → q < from → known_from new q ≡ []
  pub others : (q : ℕ) → q ≢ from → known_from new q ≡ known_from old q
  pub got : (q : ℕ) → got_from new q ≡ got_from old q
  pub out : new.out ≡ old.out

-- The first letter of a kernel that is known was got, one that might be put behind those got before, and else nothing changed
pub record GetsOne (from : ℕ) (letter : Letter) (old new : PortView) : Type 0 where
  pub got : got_from new from ≡ got_from old from ++ letter ∷ []
  pub allowed : MayBePut (got_from old from) letter
  pub known : IsPrefix (known_from old from) (letter ∷ known_from new from)
  pub others : (q : ℕ) → q ≢ from → (got_from new q ≡ got_from old q) × (known_from new q ≡ known_from old q)
  pub out : new.out ≡ old.out

-- the port learned of its rings to and from one kernel, and else nothing changed
pub record HasLooked (at : ℕ) (old new : PortView) : Type 0 where
  pub put : put_to new ≡ put_to old
  pub got : got_from new ≡ got_from old
  pub places : places_to old at ≤ places_to new at
  pub known : IsPrefix (known_from old at) (known_from new at)
  pub others : (q : ℕ) → q ≢ at → (places_to new q ≡ places_to old q) × (known_from new q ≡ known_from old q)

-- All that one port put to another is what the other got, followed by what is there, and the other knows it. Each place of the ring
-- without a letter is known to be free, so where no letter is there, the putter knows a place
pub record AreAllThere (putter getter : PortView) : Type 0 where
  pub there : got_from getter putter.kernel ++ there_of putter getter ≡ put_to putter getter.kernel
  pub room : room_to (place_of putter) getter.kernel ≤ places_to putter getter.kernel + length (there_of putter getter)

-- ---- steps of a search and of a meeting, which private clauses alone cite

-- a letter is known in this ring, of which more was learned, and none in those before it
pub record FindsFirst (from : ℕ) (old new : List Inlet) : Type 0 where
  pub kernel : from < length old
  pub learned : (i : Inlet) × Learns (slice_index_or old from i) i × (0 < length i.known) × (new ≡ set old from i)
  pub before : (q : ℕ) (d : Inlet) → q < from → (slice_index_or old q d).known ≡ []

-- of the ring from one port to another both ends learned, and else nothing changed
pub record LooksOneWay (putter putter' getter getter' : PortView) : Type 0 where
  pub putter_place : place_of putter' ≡ place_of putter
  pub getter_place : place_of getter' ≡ place_of getter
  pub putting : HasLooked getter.kernel putter putter'
  pub getting : HasLooked putter.kernel getter getter'
  pub into : putter'.into ≡ putter.into
  pub out : getter'.out ≡ getter.out
