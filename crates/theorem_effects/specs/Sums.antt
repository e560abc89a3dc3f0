-- What an event takes of sums over packets and adds to them.
use Rattle.std.specs.Prelude.{ℕ, ◌+◌, ◌<◌, List, [], ◌∷◌, IfSome, Option, None, Some}
use Rattle.std.specs.List.{AllByRecursion}
use Rattle.charlotte_packets.specs.declared.picture.Picture.{Picture}
use Rattle.charlotte_packets.specs.declared.picture.PictureWhat.{PictureWhat}
use Rattle.theorem_effects.specs.Change.{Change}

-- this is true of each packet that is sent, with the kernel that it goes to
abbrev pub AllSent : (ℕ → PictureWhat → Type 0) → List (ℕ × PictureWhat) → Type 0
AllSent P ps = AllByRecursion (λ s. P s.0 s.1) ps

-- an event takes and sends packets between the first n kernels alone, and happens at one of them
pub record IsWithin (n : ℕ) (c : Change) : Type 0 where
  pub kernel : c.kernel < n
  pub taken : IfSome c.taken (λ t. t.0 < n)
  pub sent : AllSent (λ to what. to < n) c.packets

-- what the packet that is taken counts for
abbrev pub sum_taken : (PictureWhat → ℕ) → Option (ℕ × Picture) → ℕ
sum_taken f None = 0
sum_taken f (Some t) = f t.1.what

-- what the packets that are sent count for
abbrev pub sum_sent : (PictureWhat → ℕ) → List (ℕ × PictureWhat) → ℕ
sum_sent f [] = 0
sum_sent f (p ∷ ps) = f p.1 + sum_sent f ps
