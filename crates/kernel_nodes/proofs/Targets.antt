-- Packets that go to kernels that are there have a list to go to.
use Rattle.std.proofs.Common.{◌≡◌, ℕ, ◌<◌, List, [], ◌∷◌, ◌++◌, length, All, subst, arith}
use Rattle.std.proofs.lemmas.List.Elements.{All-cons, All-head, All-nil, All-tail}
use Rattle.charlotte_packets.specs.Packets.{what_picture}
use Rattle.charlotte_packets.specs.declared.packet.Packet.{Packet}
use Rattle.kernel_named.specs.Named.{GoWithin, IsSentWithin}

abbrev IsGoing : ℕ → ℕ × Packet → Type 0
IsGoing n s = IsSentWithin n s.0 (what_picture s.1.what)

-- where all go to one kernel
pub all-there : (n to : ℕ) (xs : List (ℕ × Packet)) → GoWithin n xs → 0 < length xs → All (λ s. s.0 ≡ to) xs → to < n
all-there n to [] within some all = absurd (omega (arith, some))
all-there n to (x ∷ xs) within some all = subst (λ k. k < n) (all 0 x some) (within 0 x some).0

-- the first, as it is taken, and those behind it
pub head-there : (n : ℕ) (x : ℕ × Packet) (xs rest : List (ℕ × Packet)) → GoWithin n xs → xs ≡ x ∷ rest → x.0 < n
head-there n x xs rest within is = (All-head (IsGoing n) x rest (subst (GoWithin n) is within)).0

pub rest-there : (m n : ℕ) (x : ℕ × Packet) (xs rest : List (ℕ × Packet)) → m ≡ n → GoWithin m xs → xs ≡ x ∷ rest → GoWithin n rest
rest-there m n x xs rest same within is = subst (λ k. GoWithin k rest) same (All-tail (IsGoing m) x rest (subst (GoWithin m) is within))

-- as many lists
pub within-same : (m n : ℕ) (xs : List (ℕ × Packet)) → m ≡ n → GoWithin m xs → GoWithin n xs
within-same m n xs same within = subst (λ k. GoWithin k xs) same within

-- those in front, and those behind them
pub front-there : (n : ℕ) (xs ys : List (ℕ × Packet)) → GoWithin n (xs ++ ys) → GoWithin n xs
front-there n [] ys within = All-nil (IsGoing n)
front-there n (x ∷ xs) ys within = All-cons (IsGoing n) x xs (All-head (IsGoing n) x (xs ++ ys) within) (front-there n xs ys (All-tail (IsGoing n) x (xs ++ ys) within))

pub back-there : (n : ℕ) (xs ys : List (ℕ × Packet)) → GoWithin n (xs ++ ys) → GoWithin n ys
back-there n [] ys within = within
back-there n (x ∷ xs) ys within = back-there n xs ys (All-tail (IsGoing n) x (xs ++ ys) within)
