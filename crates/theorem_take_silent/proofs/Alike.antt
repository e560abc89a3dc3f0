-- What a quiet event leaves of one entry.
use Rattle.std.proofs.Common.{◌≡◌, ℕ, true, false, Contains, Some, unwrap_or, refl, ap, subst, true≢false}
use Rattle.charlotte_calls.specs.declared.names.EndId.{EndId}
use Rattle.charlotte_packets.specs.declared.picture.MovingPicture.{MovingPicture}
use Rattle.charlotte_packets.specs.declared.picture.PictureWhat.{PictureWhat}
use Rattle.charlotte_packets.specs.declared.picture.PictureWhat.TheVariants as packet
use Rattle.end_table.specs.Table.{IsHereAnd}
use Rattle.end_table.specs.declared.entry.Entry.{Entry}
use Rattle.end_table.specs.declared.entry.Entry.TheVariants as entry
use Rattle.end_table.specs.declared.entry.HereView.{HereView}
use Rattle.kernel_step.specs.Rows.{is_here}
use Rattle.theorem_effects.proofs.Lists.{none-there}
use Rattle.theorem_effects.specs.Fields.{value_of}
use Rattle.theorem_effects.specs.Invariant.{is_message_of, is_taken_of, is_unwanted_to}
use Rattle.theorem_effects.specs.Packets.{IsBackOf, IsParcelFor, IsParcelOf, IsTakenOf, IsUnwantedOf, values_for, values_of}
use Rattle.theorem_take_silent.specs.Quiet.{IsAlike, IsQuietly, IsViewAlike, is_telling}

pub IsQuietly-same : (x : Entry) → IsQuietly x x
IsQuietly-same entry.Nothing = tt
IsQuietly-same (entry.Here v) = (refl, refl)
IsQuietly-same (entry.Left to hops) = tt
IsQuietly-same (entry.Destroyed m) = refl

-- what is true of the view of an end that is here
pub here-still : (x y : Entry) (P Q : HereView → Type 0) → IsQuietly x y → ((v u : HereView) → IsViewAlike v u → P v → Q u) → IsHereAnd x P → IsHereAnd y Q
here-still (entry.Here v) y P Q like gives has = by y like
  where
    by : (y : Entry) → IsQuietly (entry.Here v) y → IsHereAnd y Q
    by (entry.Here u) like = gives v u like has
    by _ like = absurd like
here-still _ y P Q like gives has = absurd has

pub here-was : (x y : Entry) (P Q : HereView → Type 0) → IsQuietly x y → ((v u : HereView) → IsViewAlike v u → Q u → P v) → IsHereAnd y Q → IsHereAnd x P
here-was x (entry.Here u) P Q like gives has = by x like
  where
    by : (x : Entry) → IsQuietly x (entry.Here u) → IsHereAnd x P
    by (entry.Here v) like = gives v u like has
    by _ like = absurd like
here-was x _ P Q like gives has = absurd has

-- the view that it was
pub view-was : (x y : Entry) (u : HereView) → IsQuietly x y → y ≡ entry.Here u → (v : HereView) × (x ≡ entry.Here v) × IsViewAlike v u
view-was x y u like is = by x (subst (IsQuietly x) is like)
  where
    by : (x : Entry) → IsQuietly x (entry.Here u) → (v : HereView) × (x ≡ entry.Here v) × IsViewAlike v u
    by (entry.Here v) like = (v, refl, like)
    by _ like = absurd like

pub mark-was : (x y : Entry) (l : MovingPicture) → IsQuietly x y → y ≡ entry.Destroyed l → (m : MovingPicture) × (x ≡ entry.Destroyed m)
mark-was x y l like is = by x (subst (IsQuietly x) is like)
  where
    by : (x : Entry) → IsQuietly x (entry.Destroyed l) → (m : MovingPicture) × (x ≡ entry.Destroyed m)
    by (entry.Destroyed m) like = (m, refl)
    by _ like = absurd like

pub some-same : {X : Type 0} (x y : X) → Some x ≡ Some y → x ≡ y
some-same x y is = ap (λ o. unwrap_or o x) is

-- the fields that it had
pub value-was : (x y : Entry) (l : MovingPicture) → IsQuietly x y → value_of y ≡ Some l → (m : MovingPicture) × (value_of x ≡ Some m) × IsAlike m l
value-was x (entry.Here u) l like is = by x like
  where
    by : (x : Entry) → IsQuietly x (entry.Here u) → (m : MovingPicture) × (value_of x ≡ Some m) × IsAlike m l
    by (entry.Here v) like = (v.value, refl, subst (IsAlike v.value) (some-same u.value l is) like.1)
    by _ like = absurd like
value-was x (entry.Destroyed k) l like is = by x like
  where
    by : (x : Entry) → IsQuietly x (entry.Destroyed k) → (m : MovingPicture) × (value_of x ≡ Some m) × IsAlike m l
    by (entry.Destroyed m) like = (m, refl, subst (IsAlike m) (some-same k l is) like)
    by _ like = absurd like
value-was x entry.Nothing l like is = absurd cc
value-was x (entry.Left to hops) l like is = absurd cc

pub is_here-same : (x y : Entry) → IsQuietly x y → is_here y ≡ is_here x
is_here-same entry.Nothing entry.Nothing like = refl
is_here-same (entry.Here v) (entry.Here u) like = refl
is_here-same (entry.Left to hops) (entry.Left there more) like = refl
is_here-same (entry.Left to hops) entry.Nothing like = refl
is_here-same (entry.Destroyed m) (entry.Destroyed l) like = refl
is_here-same (entry.Destroyed m) entry.Nothing like = refl
is_here-same _ _ like = absurd like

-- ---- packets that tell of a message or of a receive that is over

pub parcel-tells : (f : EndId) (n : ℕ) (q : PictureWhat) → IsParcelOf f n q → is_telling q ≡ true
parcel-tells f n (packet.Parcel to m w at hops bytes ms) is = refl
parcel-tells f n _ is = absurd is

pub parcel_for-tells : (e : EndId) (w n : ℕ) (q : PictureWhat) → IsParcelFor e w n q → is_telling q ≡ true
parcel_for-tells e w n (packet.Parcel to m v at hops bytes ms) is = refl
parcel_for-tells e w n _ is = absurd is

pub back-tells : (f : EndId) (n : ℕ) (q : PictureWhat) → IsBackOf f n q → is_telling q ≡ true
back-tells f n (packet.Back to m ms) is = refl
back-tells f n _ is = absurd is

pub taken-tells : (f : EndId) (n : ℕ) (q : PictureWhat) → IsTakenOf f n q → is_telling q ≡ true
taken-tells f n (packet.Taken to m at hops) is = refl
taken-tells f n _ is = absurd is

pub unwanted-tells : (e : EndId) (w : ℕ) (q : PictureWhat) → IsUnwantedOf e w q → is_telling q ≡ true
unwanted-tells e w (packet.Unwanted to v at hops) is = refl
unwanted-tells e w _ is = absurd is

pub value-tells : (m : MovingPicture) (q : PictureWhat) → Contains (values_of q) m → is_telling q ≡ true
value-tells m (packet.Parcel to n w at hops bytes ms) has = refl
value-tells m (packet.Back to n ms) has = refl
value-tells m _ has = absurd (none-there m has)

pub values-quiet : (e : EndId) (q : PictureWhat) → is_telling q ≡ false → values_for e (values_of q) ≡ 0
values-quiet e (packet.Parcel to n w at hops bytes ms) quiet = absurd (true≢false quiet)
values-quiet e (packet.Back to n ms) quiet = absurd (true≢false quiet)
values-quiet e _ quiet = refl

pub unwanted-quiet : (e : EndId) (q : PictureWhat) → is_telling q ≡ false → is_unwanted_to e q ≡ false
unwanted-quiet e (packet.Unwanted to n at hops) quiet = absurd (true≢false quiet)
unwanted-quiet e _ quiet = refl

pub message-quiet : (f : EndId) (q : PictureWhat) → is_telling q ≡ false → is_message_of f q ≡ false
message-quiet f (packet.Parcel to n w at hops bytes ms) quiet = absurd (true≢false quiet)
message-quiet f (packet.Back to n ms) quiet = absurd (true≢false quiet)
message-quiet f _ quiet = refl

pub taken-quiet : (f : EndId) (q : PictureWhat) → is_telling q ≡ false → is_taken_of f q ≡ false
taken-quiet f (packet.Taken to n at hops) quiet = absurd (true≢false quiet)
taken-quiet f _ quiet = refl
