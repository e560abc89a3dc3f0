-- A granted Make in a world and in the service: the two ends of the next link are new, and all else is as it was.
use Rattle.std.proofs.Common.{◌≡◌, ◌≢◌, ◌⊎◌, ◌↔◌, inl, inr, ℕ, ◌+◌, ◌<◌, ◌≤◌, Bool, true, false, nat_eq, nat_lt, not, ◌&&◌, if◌then◌else◌, List, [], ◌∷◌, Contains, length, slice_index, Some, refl, sym, ap, subst, ◌∙◌, arith, true≢false, ltb-true}
use Rattle.std.proofs.lemmas.Bool.Decides.{eqb_tells}
use Rattle.std.proofs.lemmas.List.Elements.{All-contains}
use Rattle.charlotte_packets.specs.Moving.{new_end}
use Rattle.charlotte_calls.specs.Names.{opposite}
use Rattle.charlotte_calls.specs.declared.calls.Call.TheVariants as call
use Rattle.charlotte_calls.specs.declared.names.EndId.{EndId}
use Rattle.charlotte_calls.specs.declared.names.Pid.{Pid}
use Rattle.charlotte_packets.specs.declared.picture.MovingPicture.{MovingPicture}
use Rattle.charlotte_packets.specs.declared.picture.PictureWhat.{PictureWhat}
use Rattle.end_table.proofs.EndEq.{end_eq-refl, end_eq-same, end_eq-sym}
use Rattle.end_table.specs.Entries.{settled}
use Rattle.end_table.specs.Place.{end_eq}
use Rattle.end_table.specs.declared.entry.Entry.{Entry}
use Rattle.end_table.specs.declared.entry.Entry.TheVariants as entry
use Rattle.end_table.specs.declared.entry.HereView.{HereView}
use Rattle.end_table.specs.declared.entry.Holder.TheVariants as holder
use Rattle.theorem_take_silent.specs.Calls.{make_effect}
use Rattle.kernel_sound.specs.Sound.{addressee}
use Rattle.kernel_step.specs.Calls.{made_end}
use Rattle.kernel_step.specs.Rows.{ends_in, is_here}
use Rattle.theorem_meaning.specs.World.{World}
use Rattle.service_change.proofs.EndEq.{put-at, put-other}
use Rattle.service_consistent.proofs.Makes.{same-link}
use Rattle.service_step.specs.Ends.{fresh, is_destroyed, is_living, is_made, makes, put, unmade}
use Rattle.service_step.specs.State.{State}
use Rattle.service_step.specs.Steps.{after_make}
use Rattle.service_step.specs.declared.state.End.{End}
use Rattle.service_step.specs.declared.state.Place.{Place}
use Rattle.service_step.specs.declared.state.Place.TheVariants as place
use Rattle.theorem_take_silent.proofs.Allowed.{between, sum_over-least}
use Rattle.theorem_take_silent.proofs.Aside.{none-sent, none-taken}
use Rattle.theorem_take_silent.proofs.Lists.{first_or_later, none-there, first, later}
use Rattle.theorem_take_silent.proofs.Packets.{under_way-still, under_way-was}
use Rattle.theorem_take_silent.proofs.Values.{values-least}
use Rattle.theorem_take_silent.specs.Change.{Change, Changes}
use Rattle.theorem_take_silent.specs.Events.{calling}
use Rattle.theorem_meaning.proofs.Ends.{apart-false, eq-same, opposite-apart}
use Rattle.theorem_meaning.proofs.Frame.{IsSameLink}
use Rattle.theorem_meaning.proofs.Plain.{view-same}
use Rattle.theorem_meaning.specs.Fields.{Stand, At, Flying, HasFields, value_of}
use Rattle.theorem_meaning.specs.Invariant.{Invariant}
use Rattle.theorem_meaning.specs.Packets.{IsUnderWay, Links, links_of, one_if, over_kernels, sum_over, values_for, values_of}
use Rattle.theorem_meaning.specs.StandsFor.{entry_at, home_of, standing}
use Rattle.theorem_take_silent.proofs.Alike.{some-same}
use Rattle.theorem_take_silent.proofs.Places.{here-living}

-- process p makes a link at its kernel k; u are the links afterwards
pub record Making (i : ℕ) (w : World) (s : State) (k : ℕ) (p : Pid) (u : Links) : Type 0 where
  pub is : Invariant i w s
  pub below : p.0 < length s.homes
  pub at : home_of s p ≡ k
  pub near : k < length s.made
  pub changes : Changes (links_of w) (calling w k p call.Make (make_effect k (w.kernel k).made p)) u

-- a new end as its kernel keeps it
abbrev pub new_view : ℕ → Pid → EndId → HereView
new_view k p f = settled (holder.Owner p) (new_end f k)

-- the state of the service afterwards, of the first end of the link
abbrev pub after_making : State → Pid → EndId → State
after_making s p a = after_make p a (opposite a) s

-- ---- values

-- an end that is brought has its value there
pub value-of_end : (ms : List MovingPicture) (f : EndId) → Contains (ends_in ms) f → (m : MovingPicture) × Contains ms m × (m.end ≡ f)
value-of_end [] f has = absurd (none-there f has)
value-of_end (m ∷ ms) f has = by (value-of_end ms f) (first_or_later m.end (ends_in ms) f has)
  where
    by : (Contains (ends_in ms) f → (o : MovingPicture) × Contains ms o × (o.end ≡ f)) → (m.end ≡ f) ⊎ Contains (ends_in ms) f → (o : MovingPicture) × Contains (m ∷ ms) o × (o.end ≡ f)
    by rest (inl is) = (m, first m ms, is)
    by rest (inr there) = let value = rest there in (value.0, later m ms value.0 value.1, value.2)

none-below : (n : ℕ) → nat_lt n n ≡ false
none-below n = by (nat_lt n n) refl
  where
    by : (b : Bool) → nat_lt n n ≡ b → b ≡ false
    by true is = let low : n < n = ltb-true n n is in absurd (omega (arith, low))
    by false is = refl

unmade-place : (at : Place) → is_made at ≡ false → at ≡ place.Unmade
unmade-place place.Unmade is = refl
unmade-place (place.Owned p) is = absurd (true≢false is)
unmade-place (place.InMessage f n) is = absurd (true≢false is)
unmade-place place.Destroyed is = absurd (true≢false is)

module _ {i : ℕ} {w : World} {s : State} {k : ℕ} {p : Pid} {u : Links} (x : Making i w s k p u) where
  abbrev l : Links
  l = links_of w

  abbrev a : EndId
  a = made_end k (w.kernel k).made

  abbrev c : Change
  c = calling w k p call.Make (make_effect k (w.kernel k).made p)

  abbrev t : State
  t = after_making s p a

  -- an end of the new link
  abbrev pub IsNew : EndId → Type 0
  IsNew f = f.link ≡ a.link

  pub new-or : (f : EndId) → IsNew f ⊎ (IsNew f → ⊥)
  new-or f = by (end_eq a f) refl (end_eq (opposite a) f) refl
    where
      apart : (e : EndId) → end_eq e f ≡ false → e ≡ f → ⊥
      apart e unlike same = true≢false (sym (end_eq-refl e) ∙ ap (end_eq e) same ∙ unlike)

      by : (b : Bool) → end_eq a f ≡ b → (d : Bool) → end_eq (opposite a) f ≡ d → IsNew f ⊎ (IsNew f → ⊥)
      by true is d other = inl (ap (λ (z : EndId). z.link) (sym (end_eq-same a f is)))
      by false is true other = inl (ap (λ (z : EndId). z.link) (sym (end_eq-same (opposite a) f other)))
      by false is false other = inr (λ link. either (same-link a f link))
        where
          either : (a ≡ f) ⊎ (opposite a ≡ f) → ⊥
          either (inl same) = apart a is same
          either (inr same) = apart (opposite a) other same

  -- ---- packets

  pub packet-same : (P : PictureWhat → Type 0) → IsUnderWay u P ↔ IsUnderWay l P
  packet-same P = (under_way-was x.changes P (none-sent c P tt), under_way-still x.changes P (none-taken c P tt))

  -- ---- entries

  pub new-entry : (f : EndId) → IsNew f → u.entry k f ≡ entry.Here (new_view k p f)
  new-entry f link = by (same-link a f link)
    where
      by : (a ≡ f) ⊎ (opposite a ≡ f) → u.entry k f ≡ entry.Here (new_view k p f)
      by (inl same) =
          subst (λ z. u.entry k z ≡ entry.Here (new_view k p z)) same
          (x.changes.entry a
          ∙ ap (λ b. if b then entry.Here (new_view k p (opposite a)) else (if end_eq a a then entry.Here (new_view k p a) else (w.kernel k).table a)) (end_eq-sym (opposite a) a ∙ opposite-apart a)
          ∙ ap (λ b. if b then entry.Here (new_view k p a) else (w.kernel k).table a) (end_eq-refl a))
      by (inr same) =
          subst (λ z. u.entry k z ≡ entry.Here (new_view k p z)) same
          (x.changes.entry (opposite a)
          ∙ ap (λ b. if b then entry.Here (new_view k p (opposite a)) else (if end_eq a (opposite a) then entry.Here (new_view k p a) else (w.kernel k).table (opposite a))) (end_eq-refl (opposite a)))

  pub old-entry : (j : ℕ) (f : EndId) → (IsNew f → ⊥) → u.entry j f ≡ l.entry j f
  old-entry j f old = by (eqb_tells j k)
    where
      apart : (e : EndId) → e.link ≡ a.link → end_eq e f ≡ false
      apart e link = apart-false e f (λ same. old (ap (λ (z : EndId). z.link) (sym same) ∙ link))

      by : ((nat_eq j k ≡ true) × (j ≡ k)) ⊎ ((nat_eq j k ≡ false) × (j ≢ k)) → u.entry j f ≡ l.entry j f
      by (inr at) = x.changes.others j f at.0
      by (inl at) =
          subst (λ z. u.entry z f ≡ l.entry z f) (sym at.1)
          (x.changes.entry f
          ∙ ap (λ b. if b then entry.Here (new_view k p (opposite a)) else (if end_eq a f then entry.Here (new_view k p a) else (w.kernel k).table f)) (apart (opposite a) refl)
          ∙ ap (λ b. if b then entry.Here (new_view k p a) else (w.kernel k).table f) (apart a refl))

  -- at each kernel
  pub entry-or : (j : ℕ) (f : EndId) → IsNew f → ((j ≡ k) × (u.entry j f ≡ entry.Here (new_view k p f))) ⊎ (u.entry j f ≡ l.entry j f)
  entry-or j f link = by (eqb_tells j k)
    where
      by : ((nat_eq j k ≡ true) × (j ≡ k)) ⊎ ((nat_eq j k ≡ false) × (j ≢ k)) → ((j ≡ k) × (u.entry j f ≡ entry.Here (new_view k p f))) ⊎ (u.entry j f ≡ l.entry j f)
      by (inl at) = inl (at.1, ap (λ z. u.entry z f) at.1 ∙ new-entry f link)
      by (inr at) = inr (x.changes.others j f at.0)

  -- ---- the new ends before

  pub was-unmade : (f : EndId) → IsNew f → is_made (s.ends f).place ≡ false
  was-unmade f link =
      x.is.service.kept.made f ∙ ap (λ z. nat_lt z.count (slice_index_of z.maker)) link ∙ ap (nat_lt (w.kernel k).made) (x.is.setting.made k) ∙ none-below (w.kernel k).made
    where
      slice_index_of : ℕ → ℕ
      slice_index_of j = slice_index s.made j

  pub was-end : (f : EndId) → IsNew f → s.ends f ≡ unmade
  was-end f link = x.is.service.kept.unmade f (unmade-place (s.ends f).place (was-unmade f link))

  was-dead : (f : EndId) → IsNew f → is_living (s.ends f).place ≡ false
  was-dead f link = ap (λ b. b && not (is_destroyed (s.ends f).place)) (was-unmade f link)

  pub was-nowhere : (f : EndId) → IsNew f → standing l f ≡ 0
  was-nowhere f link = x.is.stands.links.once f ∙ ap one_if (was-dead f link)

  -- it had no fields
  pub no-fields : (f : EndId) → IsNew f → (at : Stand) (m : MovingPicture) → HasFields l f at m → ⊥
  unfolding standing
  no-fields f link (At j) m has = by (l.entry j f) refl has
    where
      by : (y : Entry) → l.entry j f ≡ y → value_of y ≡ Some m → ⊥
      by entry.Nothing there is = cc
      by (entry.Left to hops) there is = cc
      by (entry.Here v) there is =
          true≢false (sym (here-living (length s.made) l s.ends x.is.setting.few x.is.links.named x.is.links.marked x.is.stands.links.once f j v there) ∙ was-dead f link)
      by (entry.Destroyed o) there is = true≢false (sym (ap (λ (y : Place). is_made y) ((x.is.links.marked f).destroyed j o there)) ∙ was-unmade f link)
  no-fields f link Flying m has =
      let way = between x.is has.0.from has.0.to has.0.packet has.0.there in
      let value : 1 ≤ values_for f (values_of has.0.packet.what) = values-least f (values_of has.0.packet.what) m has.1 has.0.is in
      let least : values_for f (values_of has.0.packet.what) ≤ sum_over (λ q. values_for f (values_of q)) l
      = sum_over-least (λ q. values_for f (values_of q)) l has.0.from has.0.to has.0.packet (omega (arith, way.0, x.is.setting.few)) (omega (arith, way.1, x.is.setting.few)) has.0.there in
      let none : over_kernels (λ j. one_if (is_here (l.entry j f))) + sum_over (λ q. values_for f (values_of q)) l ≡ 0 = was-nowhere f link in
      omega (arith, value, least, none)

  -- no packet was addressed to it
  pub no-packet : (f : EndId) → IsNew f → (P : PictureWhat → Type 0) → ((q : PictureWhat) → P q → addressee q ≡ f) → IsUnderWay l P → ⊥
  no-packet f link P to is =
      let made : is_made (s.ends (addressee is.packet.what)).place ≡ true
      = All-contains (λ q. is_made (s.ends (addressee q.what)).place ≡ true) (w.packets is.from is.to) is.packet (x.is.links.named.addressees is.from is.to) is.there in
      true≢false (sym made ∙ ap (λ z. is_made (s.ends z).place) (to is.packet.what is.is) ∙ was-unmade f link)

  pub is-new-view : (f : EndId) → IsNew f → (j : ℕ) (v : HereView) → entry_at u j f ≡ entry.Here v → (j ≡ k) × (new_view k p f ≡ v)
  is-new-view f link j v there = by (entry-or j f link)
    where
      by : ((j ≡ k) × (u.entry j f ≡ entry.Here (new_view k p f))) ⊎ (u.entry j f ≡ l.entry j f) → (j ≡ k) × (new_view k p f ≡ v)
      by (inl is) = (is.0, view-same (new_view k p f) v (sym is.1 ∙ there))
      by (inr same) = absurd (no-fields f link (At j) v.value (ap value_of (sym same ∙ there)))

  -- its fields are new
  pub new-fields : (f : EndId) → IsNew f → (at : Stand) (m : MovingPicture) → HasFields u f at m → (at ≡ At k) × (new_end f k ≡ m)
  new-fields f link Flying m has = absurd (no-fields f link Flying m ((packet-same (λ q. Contains (values_of q) m)).0 has.0, has.1))
  new-fields f link (At j) m has = by (entry-or j f link)
    where
      by : ((j ≡ k) × (u.entry j f ≡ entry.Here (new_view k p f))) ⊎ (u.entry j f ≡ l.entry j f) → (At j ≡ At k) × (new_end f k ≡ m)
      by (inl is) = (ap At is.0, some-same (new_end f k) m (sym (ap value_of is.1) ∙ has))
      by (inr same) = absurd (no-fields f link (At j) m (ap value_of (sym same) ∙ has))

  -- ---- ends of the service afterwards

  pub new-end : (f : EndId) → IsNew f → t.ends f ≡ fresh (place.Owned p)
  unfolding makes
  new-end f link = by (same-link a f link)
    where
      by : (a ≡ f) ⊎ (opposite a ≡ f) → t.ends f ≡ fresh (place.Owned p)
      by (inl same) =
          subst (λ z. t.ends z ≡ fresh (place.Owned p)) same
          (put-other (put s.ends a (fresh (place.Owned p))) (opposite a) (fresh (place.Owned p)) a (eq-same (opposite a) a ∙ end_eq-sym (opposite a) a ∙ opposite-apart a) ∙ put-at s.ends a (fresh (place.Owned p)))
      by (inr same) = subst (λ z. t.ends z ≡ fresh (place.Owned p)) same (put-at (put s.ends a (fresh (place.Owned p))) (opposite a) (fresh (place.Owned p)))

  pub old-end : (f : EndId) → (IsNew f → ⊥) → t.ends f ≡ s.ends f
  unfolding makes
  old-end f old =
      put-other (put s.ends a (fresh (place.Owned p))) (opposite a) (fresh (place.Owned p)) f (eq-same (opposite a) f ∙ apart (opposite a) refl)
      ∙ put-other s.ends a (fresh (place.Owned p)) f (eq-same a f ∙ apart a refl)
    where
      apart : (e : EndId) → e.link ≡ a.link → end_eq e f ≡ false
      apart e link = apart-false e f (λ same. old (ap (λ (z : EndId). z.link) (sym same) ∙ link))

  -- all but its place is as before
  pub ends-like : (f : EndId) → t.ends f ≡ record (s.ends f) { place = (t.ends f).place }
  ends-like f = by (new-or f)
    where
      by : IsNew f ⊎ (IsNew f → ⊥) → t.ends f ≡ record (s.ends f) { place = (t.ends f).place }
      by (inl link) = new-end f link ∙ sym ((λ j. record (was-end f link j) { place = (new-end f link j).place }))
      by (inr old) = old-end f old ∙ sym (ap (λ (y : End). record (s.ends f) { place = y.place }) (old-end f old))

  -- a link that is not new is as it was
  pub old-link : (f : EndId) → (IsNew f → ⊥) → IsSameLink l u f
  old-link f old =
      record {
        own = λ j. old-entry j f old;
        other = λ j. old-entry j (opposite f) old;
        packets = λ q about. (packet-same (λ r. r ≡ q)).0;
      }
