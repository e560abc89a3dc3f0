-- The two lists of a queue, as one.
use Rattle.std.proofs.Common.{◌≡◌, ℕ, List, [], ◌∷◌, ap, ◌∙◌, refl}
use Rattle.charlotte_packets.specs.declared.packet.Packet.{Packet}
use Rattle.charlotte_packets.specs.declared.picture.Picture.{Picture}
use Rattle.packet_queue.specs.Queue.{packed_picture, picture_in, pictures}
use Rattle.packet_queue.specs.declared.packed.Packed.{Packed}

-- there are none where none lies in front, and then only
pub none-pictures : (front : List (ℕ × Packet)) (behind : List Packed) → (front ≡ [] → behind ≡ []) → front ≡ [] → pictures front behind ≡ []
none-pictures front behind is none = ap (λ f. pictures f behind) none ∙ ap (pictures []) (is none)

pub pictures-none : (front : List (ℕ × Packet)) (behind : List Packed) → pictures front behind ≡ [] → front ≡ []
pictures-none [] behind none = refl
pictures-none (x ∷ xs) behind none = let no : picture_in x ∷ pictures xs behind ≡ [] = none in absurd (cc)

-- those that are packed are no more than those in front where these are none
pub none-behind : (front : List (ℕ × Packet)) (behind : List Packed) → pictures front behind ≡ [] → behind ≡ []
none-behind front [] none = refl
none-behind [] (x ∷ xs) none = let no : packed_picture x ∷ pictures [] xs ≡ [] = none in absurd (cc)
none-behind (y ∷ ys) (x ∷ xs) none = let no : picture_in y ∷ pictures ys (x ∷ xs) ≡ [] = none in absurd (cc)

-- there are some where some lie in front
pub some-pictures : (front : List (ℕ × Packet)) (behind : List Packed) → (front ≡ [] → ⊥) → (q : Picture) × (others : List Picture) × (pictures front behind ≡ q ∷ others)
some-pictures [] behind some = absurd (some refl)
some-pictures (x ∷ xs) behind some = (picture_in x, pictures xs behind, refl)
