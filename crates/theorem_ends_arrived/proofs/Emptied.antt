-- A packet without the values that it carried says all else that it said.
use Rattle.std.proofs.Common.{◌≡◌, ◌↔◌, ℕ, true, ◌&&◌, [], refl, ap}
use Rattle.std.proofs.lemmas.Bool.{and_parts}
use Rattle.charlotte_packets.specs.Packets.{is_addressed}
use Rattle.charlotte_calls.specs.declared.names.EndId.{EndId}
use Rattle.charlotte_packets.specs.declared.picture.PictureWhat.{PictureWhat}
use Rattle.charlotte_packets.specs.declared.picture.PictureWhat.TheVariants as packet
use Rattle.kernel_sound.specs.Sound.{addressee}
use Rattle.theorem_meaning.specs.Fields.{IsAsking, IsNews, IsUnwantOf}
use Rattle.theorem_meaning.specs.Invariant.{is_message_of, is_taken_of, is_unwanted_to}
use Rattle.theorem_meaning.specs.Packets.{IsParcelFor, IsTakenOf, IsUnwantedOf, values_of}
use Rattle.theorem_ends_arrived.specs.Arrived.{emptied}

pub emptied-values : (q : PictureWhat) → values_of (emptied q) ≡ []
emptied-values (packet.Parcel to n w at hops bytes ms) = refl
emptied-values (packet.Back to n ms) = refl
emptied-values _ = refl

pub emptied-news : (t : EndId) (j h : ℕ) (q : PictureWhat) → IsNews t j h (emptied q) ↔ IsNews t j h q
emptied-news t j h (packet.Parcel to n w at hops bytes ms) = (λ a. a, λ a. a)
emptied-news t j h _ = (λ a. a, λ a. a)

pub emptied-asking : (t : EndId) (n j h : ℕ) (q : PictureWhat) → IsAsking t n j h (emptied q) ↔ IsAsking t n j h q
emptied-asking t n j h (packet.Parcel to m w at hops bytes ms) = (λ a. a, λ a. a)
emptied-asking t n j h _ = (λ a. a, λ a. a)

pub emptied-unwant : (t : EndId) (n : ℕ) (q : PictureWhat) → IsUnwantOf t n (emptied q) ↔ IsUnwantOf t n q
emptied-unwant t n (packet.Parcel to m w at hops bytes ms) = (λ a. a, λ a. a)
emptied-unwant t n _ = (λ a. a, λ a. a)

pub emptied-parcel_for : (e : EndId) (w n : ℕ) (q : PictureWhat) → IsParcelFor e w n (emptied q) ↔ IsParcelFor e w n q
emptied-parcel_for e w n (packet.Parcel to m v at hops bytes ms) = (λ a. a, λ a. a)
emptied-parcel_for e w n _ = (λ a. a, λ a. a)

pub emptied-taken : (e : EndId) (n : ℕ) (q : PictureWhat) → IsTakenOf e n (emptied q) ↔ IsTakenOf e n q
emptied-taken e n (packet.Parcel to m v at hops bytes ms) = (λ a. a, λ a. a)
emptied-taken e n _ = (λ a. a, λ a. a)

pub emptied-unwanted : (e : EndId) (w : ℕ) (q : PictureWhat) → IsUnwantedOf e w (emptied q) ↔ IsUnwantedOf e w q
emptied-unwanted e w (packet.Parcel to m v at hops bytes ms) = (λ a. a, λ a. a)
emptied-unwanted e w _ = (λ a. a, λ a. a)

pub emptied-message : (f : EndId) (q : PictureWhat) → is_message_of f (emptied q) ≡ is_message_of f q
emptied-message f (packet.Parcel to n w at hops bytes ms) = refl
emptied-message f (packet.Back to n ms) = refl
emptied-message f _ = refl

pub emptied-telling : (f : EndId) (q : PictureWhat) → is_taken_of f (emptied q) ≡ is_taken_of f q
emptied-telling f (packet.Parcel to n w at hops bytes ms) = refl
emptied-telling f (packet.Back to n ms) = refl
emptied-telling f _ = refl

pub emptied-voids : (f : EndId) (q : PictureWhat) → is_unwanted_to f (emptied q) ≡ is_unwanted_to f q
emptied-voids f (packet.Parcel to n w at hops bytes ms) = refl
emptied-voids f (packet.Back to n ms) = refl
emptied-voids f _ = refl

pub emptied-to : (q : PictureWhat) → addressee (emptied q) ≡ addressee q
emptied-to (packet.Parcel to n w at hops bytes ms) = refl
emptied-to (packet.Back to n ms) = refl
emptied-to _ = refl

pub emptied-addressed : (n : ℕ) (q : PictureWhat) → is_addressed q n ≡ true → is_addressed (emptied q) n ≡ true
emptied-addressed n (packet.Parcel to m w at hops bytes ms) is = ap (λ z. z && true) (and_parts _ _ is).0
emptied-addressed n (packet.Back to m ms) is = refl
emptied-addressed n _ is = is
