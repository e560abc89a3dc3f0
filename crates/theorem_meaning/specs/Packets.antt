-- What the kernels of a world have of links: entries, and packets that are under way. Whether a packet of a kind is, what is true of
-- each, and how many there are.
use Rattle.std.specs.Prelude.{◌≡◌, ℕ, ◌+◌, Bool, if◌then◌else◌, List, [], ◌∷◌, All, Contains}
use Rattle.charlotte_calls.specs.Names.{opposite}
use Rattle.charlotte_calls.specs.declared.names.EndId.{EndId}
use Rattle.charlotte_packets.specs.declared.picture.MovingPicture.{MovingPicture}
use Rattle.charlotte_packets.specs.declared.picture.Picture.{Picture}
use Rattle.charlotte_packets.specs.declared.picture.PictureWhat.{PictureWhat}
use Rattle.charlotte_packets.specs.declared.picture.PictureWhat.TheVariants as packet
use Rattle.end_table.specs.Place.{end_eq}
use Rattle.end_table.specs.declared.entry.Entry.{Entry}
use Rattle.kernel_world.specs.World.{World}

-- what each kernel keeps of each end, and the packets from one kernel to another, oldest first
pub record Links : Type 0 where
  pub entry : ℕ → EndId → Entry
  pub packets : ℕ → ℕ → List Picture

abbrev pub links_of : World → Links
links_of w = record { entry = λ k. (w.kernel k).table; packets = w.packets }

-- a packet of which this is true stands in a list, from one kernel to another
pub record IsUnderWay (w : Links) (P : PictureWhat → Type 0) : Type 0 where
  pub from : ℕ
  pub to : ℕ
  pub packet : Picture
  pub there : Contains (w.packets from to) packet
  pub is : P packet.what

-- this is true of each packet, with the kernel that sent it and the kernel that it goes to
abbrev pub Each : Links → (ℕ → ℕ → PictureWhat → Type 0) → Type 0
Each w P = (from to : ℕ) → All (λ q. P from to q.what) (w.packets from to)

-- ---- kinds of packets

-- a parcel with the message n of end f
abbrev pub IsParcelOf : EndId → ℕ → PictureWhat → Type 0
IsParcelOf f n (packet.Parcel to m w at hops bytes ms) = (to ≡ opposite f) × (m ≡ n)
IsParcelOf f n _ = ⊥

-- a parcel for the receive w of end e, with the message n
abbrev pub IsParcelFor : EndId → ℕ → ℕ → PictureWhat → Type 0
IsParcelFor e w n (packet.Parcel to m v at hops bytes ms) = (to ≡ e) × (v ≡ w) × (m ≡ n)
IsParcelFor e w n _ = ⊥

-- a back with the message n of end f
abbrev pub IsBackOf : EndId → ℕ → PictureWhat → Type 0
IsBackOf f n (packet.Back to m ms) = (to ≡ f) × (m ≡ n)
IsBackOf f n _ = ⊥

-- a taken for the message n of end f
abbrev pub IsTakenOf : EndId → ℕ → PictureWhat → Type 0
IsTakenOf f n (packet.Taken to m at hops) = (to ≡ f) × (m ≡ n)
IsTakenOf f n _ = ⊥

-- an unwanted for the receive w of end e
abbrev pub IsUnwantedOf : EndId → ℕ → PictureWhat → Type 0
IsUnwantedOf e w (packet.Unwanted to v at hops) = (to ≡ e) × (v ≡ w)
IsUnwantedOf e w _ = ⊥

-- the values of ends that a packet carries
abbrev pub values_of : PictureWhat → List MovingPicture
values_of (packet.Parcel to n w at hops bytes ms) = ms
values_of (packet.Back to n ms) = ms
values_of _ = []

-- ---- how many

-- the sum over the eight kernels that may be
unfoldable pub over_kernels : (ℕ → ℕ) → ℕ
over_kernels f = f 0 + f 1 + f 2 + f 3 + f 4 + f 5 + f 6 + f 7

-- the sum over the packets of a list
abbrev pub sum_in : (PictureWhat → ℕ) → List Picture → ℕ
sum_in f [] = 0
sum_in f (q ∷ qs) = f q.what + sum_in f qs

-- the sum over all packets that are under way
unfoldable pub sum_over : (PictureWhat → ℕ) → Links → ℕ
sum_over f w = over_kernels (λ from. over_kernels (λ to. sum_in f (w.packets from to)))

-- 1 where a test is passed
abbrev pub one_if : Bool → ℕ
one_if b = if b then 1 else 0

-- how many packets pass a test
abbrev pub how_many : (PictureWhat → Bool) → Links → ℕ
how_many test w = sum_over (λ q. one_if (test q)) w

-- how many of these values are of an end
abbrev pub values_for : EndId → List MovingPicture → ℕ
values_for e [] = 0
values_for e (m ∷ ms) = one_if (end_eq e m.end) + values_for e ms
