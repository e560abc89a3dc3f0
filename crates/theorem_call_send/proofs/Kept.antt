-- One entry, and the fields of an end, where all stays but who holds it and how many sends there were.
use Rattle.std.proofs.Common.{◌≡◌, inl, inr, ℕ, ◌<◌, true, false, ◌&&◌, if◌then◌else◌, Contains, Some, refl, sym, ap, subst, ◌∙◌, arith}
use Rattle.charlotte_calls.specs.Names.{opposite}
use Rattle.charlotte_packets.specs.Packets.{names_kernels_below}
use Rattle.charlotte_calls.specs.declared.names.EndId.{EndId}
use Rattle.charlotte_packets.specs.declared.picture.MovingPicture.{MovingPicture}
use Rattle.end_table.specs.Table.{IsHereAnd}
use Rattle.end_table.specs.declared.entry.Entry.{Entry}
use Rattle.end_table.specs.declared.entry.Entry.TheVariants as entry
use Rattle.end_table.specs.declared.entry.HereView.{HereView}
use Rattle.kernel_step.specs.Rows.{is_here}
use Rattle.service_lawful.specs.Consistent.{is_open}
use Rattle.service_step.specs.Ends.{is_living, is_made}
use Rattle.service_step.specs.State.{State}
use Rattle.service_step.specs.declared.state.End.{End}
use Rattle.service_step.specs.declared.state.Place.TheVariants as place
use Rattle.theorem_call_begin.proofs.Alike.{some-same}
use Rattle.theorem_meaning.proofs.Plain.{destroyed-so}
use Rattle.theorem_meaning.proofs.Sums.{over-same}
use Rattle.theorem_meaning.specs.Fields.{Stand, At, Flying, HasFields, IsAsking, IsHeard, IsNews, IsUnserved, value_of}
use Rattle.theorem_meaning.specs.Invariant.{NamesBelow}
use Rattle.theorem_meaning.specs.Packets.{Links, one_if, over_kernels, sum_over, values_for, values_of}
use Rattle.theorem_meaning.specs.StandsFor.{entry_at, standing}
use Rattle.theorem_call_send.specs.Kept.{AreLinksKept, IsEndKept, IsEntryKept, IsValueKept, IsViewKept}
use Rattle.theorem_call_send.proofs.SamePackets.{number-same, packet-same}

-- ---- one entry

pub entry-kept : (x : Entry) → IsEntryKept x x
entry-kept entry.Nothing = tt
entry-kept (entry.Here v) = record { value = refl; inward = refl }
entry-kept (entry.Left to hops) = refl
entry-kept (entry.Destroyed m) = refl

pub here-still : (x y : Entry) (P Q : HereView → Type 0) → IsEntryKept x y → ((v u : HereView) → IsViewKept v u → P v → Q u) → IsHereAnd x P → IsHereAnd y Q
here-still (entry.Here v) y P Q like gives has = by y like
  where
    by : (y : Entry) → IsEntryKept (entry.Here v) y → IsHereAnd y Q
    by (entry.Here u) like = gives v u like has
    by _ like = absurd like
here-still _ y P Q like gives has = absurd has

pub view-was : (x y : Entry) (u : HereView) → IsEntryKept x y → y ≡ entry.Here u → (v : HereView) × (x ≡ entry.Here v) × IsViewKept v u
view-was x y u like is = by x (subst (IsEntryKept x) is like)
  where
    by : (x : Entry) → IsEntryKept x (entry.Here u) → (v : HereView) × (x ≡ entry.Here v) × IsViewKept v u
    by (entry.Here v) like = (v, refl, like)
    by _ like = absurd like

mark-was : (x y : Entry) (l : MovingPicture) → IsEntryKept x y → y ≡ entry.Destroyed l → x ≡ entry.Destroyed l
mark-was x y l like is = by x (subst (IsEntryKept x) is like)
  where
    by : (x : Entry) → IsEntryKept x (entry.Destroyed l) → x ≡ entry.Destroyed l
    by (entry.Destroyed m) like = ap entry.Destroyed (sym like)
    by _ like = absurd like

value-was : (x y : Entry) (l : MovingPicture) → IsEntryKept x y → value_of y ≡ Some l → (m : MovingPicture) × (value_of x ≡ Some m) × IsValueKept m l
value-was x (entry.Here u) l like is = by x like
  where
    by : (x : Entry) → IsEntryKept x (entry.Here u) → (m : MovingPicture) × (value_of x ≡ Some m) × IsValueKept m l
    by (entry.Here v) like = (v.value, refl, subst (IsValueKept v.value) (some-same u.value l is) like.value)
    by _ like = absurd like
value-was x (entry.Destroyed k) l like is = by x like
  where
    by : (x : Entry) → IsEntryKept x (entry.Destroyed k) → (m : MovingPicture) × (value_of x ≡ Some m) × IsValueKept m l
    by (entry.Destroyed m) like = (l, ap Some (sym like ∙ some-same k l is), refl)
    by _ like = absurd like
value-was x entry.Nothing l like is = absurd cc
value-was x (entry.Left to hops) l like is = absurd cc

is_here-same : (x y : Entry) → IsEntryKept x y → is_here y ≡ is_here x
is_here-same entry.Nothing entry.Nothing like = refl
is_here-same (entry.Here v) (entry.Here u) like = refl
is_here-same (entry.Left to hops) (entry.Left there more) like = refl
is_here-same (entry.Destroyed m) (entry.Destroyed l) like = refl
is_here-same _ _ like = absurd like

pub names-kept : (n : ℕ) (x y : Entry) → IsEntryKept x y → NamesBelow n x → NamesBelow n y
names-kept n entry.Nothing entry.Nothing like names = tt
names-kept n (entry.Here v) (entry.Here u) like names = ap (names_kernels_below n) like.value ∙ names
names-kept n (entry.Left to hops) (entry.Left there more) like names = subst (λ j. j < n) (sym like) names
names-kept n (entry.Destroyed m) (entry.Destroyed l) like names = ap (names_kernels_below n) like ∙ names
names-kept n _ _ like names = absurd like

pub nothing-kept : (x y : Entry) → IsEntryKept x y → x ≡ entry.Nothing → y ≡ entry.Nothing
nothing-kept x y like is = by y (subst (λ z. IsEntryKept z y) is like)
  where
    by : (y : Entry) → IsEntryKept entry.Nothing y → y ≡ entry.Nothing
    by entry.Nothing like = refl
    by _ like = absurd like

-- ---- an end of the service

pub destroyed-kept : (x y : End) → IsEndKept x y → x.place ≡ place.Destroyed → y.place ≡ place.Destroyed
destroyed-kept x y like is = destroyed-so y.place (like.made ∙ ap is_made is) (like.living ∙ ap is_living is)

pub open-kept : (x y : End) → IsEndKept x y → is_open y ≡ is_open x
open-kept x y like = λ i. like.living i && (if like.noticed i then false else true)

module _ {w u : Links} {s t : State} (x : AreLinksKept w u s t) where
  -- an end stands as often anywhere
  pub standing-kept : (f : EndId) → standing u f ≡ standing w f
  unfolding standing
  standing-kept f =
      let here : over_kernels (λ j. one_if (is_here (entry_at u j f))) ≡ over_kernels (λ j. one_if (is_here (entry_at w j f)))
      = over-same (λ j. one_if (is_here (entry_at w j f))) (λ j. one_if (is_here (entry_at u j f))) (λ j. ap one_if (is_here-same (entry_at w j f) (entry_at u j f) (x.entries j f))) in
      let values : sum_over (λ q. values_for f (values_of q)) u ≡ sum_over (λ q. values_for f (values_of q)) w = number-same w u x.packets (λ q. values_for f (values_of q)) in
      omega (arith, here, values)

  pub destroyed-was : (k : ℕ) (f : EndId) (m : MovingPicture) → entry_at u k f ≡ entry.Destroyed m → entry_at w k f ≡ entry.Destroyed m
  destroyed-was k f m is = mark-was (entry_at w k f) (entry_at u k f) m (x.entries k f) is

  -- the fields that an end has it had
  pub fields-was : (f : EndId) (at : Stand) (m : MovingPicture) → HasFields u f at m → (o : MovingPicture) × HasFields w f at o × IsValueKept o m
  fields-was f Flying m has = (m, ((packet-same w u x.packets (λ q. Contains (values_of q) m)).0 has.0, has.1), refl)
  fields-was f (At j) m has = value-was (entry_at w j f) (entry_at u j f) m (x.entries j f) has

  -- so it was heard of, and asked, before
  pub heard-was : (f : EndId) (j h : ℕ) → IsHeard u f j h → IsHeard w f j h
  heard-was f j h (inl hinted) =
      let o = fields-was (opposite f) hinted.stand hinted.fields hinted.are in
      inl (record { stand = hinted.stand; fields = o.0; are = o.1; hint = sym (ap (λ (z : MovingPicture). z.hint) o.2) ∙ hinted.hint })
  heard-was f j h (inr news) = inr ((packet-same w u x.packets (IsNews (opposite f) j h)).0 news)

  pub unserved-was : (f : EndId) (o m : MovingPicture) (n j h : ℕ) → IsValueKept o m → IsUnserved u f m n j h → IsUnserved w f o n j h
  unserved-was f o m n j h like (inl is) = inl (sym (ap (λ (z : MovingPicture). z.want) like) ∙ is.0, is.1, sym (ap (λ (z : MovingPicture). z.hint) like) ∙ is.2)
  unserved-was f o m n j h like (inr is) = inr (subst (λ z. z < n) (ap (λ (z : MovingPicture). z.served) like) is.0, (packet-same w u x.packets (IsAsking f n j h)).0 is.1)
