-- The end that a packet of each kind is addressed to.
use Rattle.std.proofs.Common.{◌≡◌, ℕ, true, sym, true≢false}
use Rattle.charlotte_calls.specs.Names.{opposite}
use Rattle.charlotte_calls.specs.declared.names.EndId.{EndId}
use Rattle.charlotte_packets.specs.declared.picture.PictureWhat.{PictureWhat}
use Rattle.charlotte_packets.specs.declared.picture.PictureWhat.TheVariants as packet
use Rattle.end_table.specs.Place.{end_eq}
use Rattle.kernel_sound.specs.Sound.{addressee}
use Rattle.theorem_meaning.specs.Fields.{IsNews, IsAsking, IsUnwantOf}
use Rattle.theorem_meaning.specs.Invariant.{is_taken_of, is_unwanted_to}
use Rattle.theorem_meaning.specs.Packets.{IsParcelOf, IsParcelFor, IsBackOf, IsTakenOf, IsUnwantedOf}

pub news-to : (t : EndId) (j h : ℕ) (q : PictureWhat) → IsNews t j h q → addressee q ≡ t
news-to t j h (packet.Want to w at hops) is = is.0
news-to t j h (packet.Unwant to w at hops) is = is.0
news-to t j h (packet.Unwanted to w at hops) is = is.0
news-to t j h (packet.Parcel to n w at hops bytes ms) is = is.0
news-to t j h (packet.Taken to n at hops) is = is.0
news-to t j h (packet.Moved to at hops) is = is.0
news-to t j h _ is = absurd is

pub asking-to : (t : EndId) (n j h : ℕ) (q : PictureWhat) → IsAsking t n j h q → addressee q ≡ t
asking-to t n j h (packet.Want to w at hops) is = is.0
asking-to t n j h (packet.Unwant to w at hops) is = is.0
asking-to t n j h _ is = absurd is

pub unwant-to : (t : EndId) (n : ℕ) (q : PictureWhat) → IsUnwantOf t n q → addressee q ≡ t
unwant-to t n (packet.Unwant to w at hops) is = is.0
unwant-to t n _ is = absurd is

pub parcel-to : (f : EndId) (n : ℕ) (q : PictureWhat) → IsParcelOf f n q → addressee q ≡ opposite f
parcel-to f n (packet.Parcel to m w at hops bytes ms) is = is.0
parcel-to f n _ is = absurd is

pub parcel_for-to : (e : EndId) (w n : ℕ) (q : PictureWhat) → IsParcelFor e w n q → addressee q ≡ e
parcel_for-to e w n (packet.Parcel to m v at hops bytes ms) is = is.0
parcel_for-to e w n _ is = absurd is

pub back-to : (f : EndId) (n : ℕ) (q : PictureWhat) → IsBackOf f n q → addressee q ≡ f
back-to f n (packet.Back to m ms) is = is.0
back-to f n _ is = absurd is

pub taken-to : (f : EndId) (n : ℕ) (q : PictureWhat) → IsTakenOf f n q → addressee q ≡ f
taken-to f n (packet.Taken to m at hops) is = is.0
taken-to f n _ is = absurd is

pub unwanted-to : (e : EndId) (w : ℕ) (q : PictureWhat) → IsUnwantedOf e w q → addressee q ≡ e
unwanted-to e w (packet.Unwanted to v at hops) is = is.0
unwanted-to e w _ is = absurd is

pub unwanted_test-to : (e : EndId) (q : PictureWhat) → is_unwanted_to e q ≡ true → end_eq e (addressee q) ≡ true
unwanted_test-to e (packet.Unwanted to n at hops) is = is
unwanted_test-to e _ is = absurd (true≢false (sym is))

pub taken_test-to : (f : EndId) (q : PictureWhat) → is_taken_of f q ≡ true → end_eq f (addressee q) ≡ true
taken_test-to f (packet.Taken to n at hops) is = is
taken_test-to f _ is = absurd (true≢false (sym is))
