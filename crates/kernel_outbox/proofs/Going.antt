-- Packets that go to kernels that are there.
use Rattle.std.proofs.Common.{◌≡◌, ℕ, ◌<◌, List, ◌∷◌, subst}
use Rattle.std.proofs.lemmas.List.Elements.{All-head, All-tail}
use Rattle.charlotte_packets.specs.Packets.{what_picture}
use Rattle.charlotte_packets.specs.declared.packet.Packet.{Packet}
use Rattle.kernel_named.specs.Named.{GoWithin, IsSentWithin}

abbrev IsGoing : ℕ → ℕ × Packet → Type 0
IsGoing n s = IsSentWithin n s.0 (what_picture s.1.what)

-- the first, as it is taken, and those behind it
pub head-there : (n : ℕ) (x : ℕ × Packet) (xs rest : List (ℕ × Packet)) → GoWithin n xs → xs ≡ x ∷ rest → x.0 < n
head-there n x xs rest within is = (All-head (IsGoing n) x rest (subst (GoWithin n) is within)).0

pub rest-there : (m n : ℕ) (x : ℕ × Packet) (xs rest : List (ℕ × Packet)) → m ≡ n → GoWithin m xs → xs ≡ x ∷ rest → GoWithin n rest
rest-there m n x xs rest same within is = subst (λ k. GoWithin k rest) same (All-tail (IsGoing m) x rest (subst (GoWithin m) is within))
