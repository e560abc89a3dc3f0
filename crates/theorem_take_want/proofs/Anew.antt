-- Where what an end keeps of the receives of its opposite changes, most clauses stay: entries are as they were but for that, and
-- packets but for unwanteds.
use Rattle.std.proofs.Common.{◌≡◌, ◌≢◌, ◌⊎◌, ◌↔◌, inl, inr, ℕ, ◌<◌, ◌≤◌, Bool, true, false, nat_eq, ◌&&◌, if◌then◌else◌, ◌∷◌, Contains, Option, None, Some, IfSome, is_some, refl, sym, ap, subst, ◌∙◌, arith, true≢false, ne_eqb, lt-ltb}
use Rattle.std.proofs.lemmas.Bool.Decides.{eqb_tells}
use Rattle.charlotte_calls.specs.Names.{opposite}
use Rattle.charlotte_packets.specs.Packets.{is_addressed, names_kernels_below}
use Rattle.charlotte_calls.specs.declared.names.EndId.{EndId}
use Rattle.charlotte_calls.specs.declared.names.Pid.{Pid}
use Rattle.charlotte_packets.specs.declared.picture.MovingPicture.{MovingPicture}
use Rattle.charlotte_packets.specs.declared.picture.Picture.{Picture}
use Rattle.charlotte_packets.specs.declared.picture.PictureWhat.{PictureWhat}
use Rattle.charlotte_packets.specs.declared.picture.PictureWhat.TheVariants as packet
use Rattle.end_table.proofs.EndEq.{end_eq-refl, end_eq-same}
use Rattle.end_table.specs.Place.{end_eq}
use Rattle.end_table.specs.Table.{IsHereAnd}
use Rattle.end_table.specs.declared.entry.Entry.{Entry}
use Rattle.end_table.specs.declared.entry.Entry.TheVariants as entry
use Rattle.end_table.specs.declared.entry.HereView.{HereView}
use Rattle.end_table.specs.declared.entry.Holder.{Holder}
use Rattle.end_table.specs.declared.entry.Holder.TheVariants as holder
use Rattle.end_table.specs.declared.entry.Inward.TheVariants as kernel_inward
use Rattle.kernel_sound.specs.Sound.{addressee}
use Rattle.kernel_step.specs.Actions.{is_withdrawing}
use Rattle.kernel_step.specs.Rows.{ends_in, is_here}
use Rattle.service_lawful.specs.Consistent.{is_open}
use Rattle.service_step.specs.Ends.{is_living, is_made, is_taken, matched_message}
use Rattle.service_step.specs.State.{State}
use Rattle.service_step.specs.declared.state.End.{End}
use Rattle.service_step.specs.declared.state.Place.{Place}
use Rattle.service_step.specs.declared.state.Place.TheVariants as place
use Rattle.theorem_take_silent.proofs.Aside.{sent-each}
use Rattle.theorem_take_silent.proofs.Ends.{all_sent-weaker, outward-same}
use Rattle.theorem_take_silent.proofs.Lists.{none-there}
use Rattle.theorem_take_silent.proofs.Packets.{each-after, left-before, left-was, left_or_sent, under_way-after, under_way-still, under_way-was}
use Rattle.theorem_take_silent.proofs.Sums.{sum_over-same}
use Rattle.theorem_take_silent.specs.Change.{Change, Changes}
use Rattle.theorem_take_silent.specs.Under.{IsLeft, IsSent}
use Rattle.theorem_meaning.proofs.Ends.{opposite-twice}
use Rattle.theorem_meaning.proofs.Sums.{over-same}
use Rattle.theorem_meaning.specs.Fields.{Stand, At, Flying, HasFields, IsAskedAs, IsHeard, IsNews, IsNoMore, value_of}
use Rattle.theorem_meaning.specs.Invariant.{AreAsked, AreCounted, AreMarked, AreNamed, AreSentOnce, IsFew, IsHonest, IsPacketRight, NamesBelow, is_message_of, is_taken_of}
use Rattle.theorem_meaning.specs.Packets.{IsBackOf, IsParcelFor, IsParcelOf, IsTakenOf, IsUnderWay, Links, how_many, one_if, over_kernels, sum_over, values_for, values_of}
use Rattle.theorem_meaning.specs.StandsFor.{AreLinksOf, IsEndOf, IsInMessage, IsInwardOf, IsOutwardOf, IsWaitingWith, entry_at, home_of, standing}
use Rattle.theorem_take_silent.proofs.Alike.{some-same}
use Rattle.theorem_meaning.proofs.Plain.{none-in}
use Rattle.theorem_take_want.specs.Anew.{IsAnew, IsLike, IsVoidOf}

-- ---- unwanteds are none of these

void-to : (k : ℕ) (v : HereView) (q : PictureWhat) → IsVoidOf k v q → addressee q ≡ opposite v.value.end
void-to k v (packet.Unwanted to w at hops) is = is.0
void-to k v _ is = absurd is

void-addressed : (n k : ℕ) (v : HereView) (q : PictureWhat) → k < n → IsVoidOf k v q → is_addressed q n ≡ true
void-addressed n k v (packet.Unwanted to w at hops) below is = lt-ltb at n (subst (λ z. z < n) (sym is.1) below)
void-addressed n k v _ below is = absurd is

void-value : (k : ℕ) (v : HereView) (m : MovingPicture) (q : PictureWhat) → IsVoidOf k v q → Contains (values_of q) m → ⊥
void-value k v m (packet.Unwanted to w at hops) is has = none-there m has
void-value k v m _ is has = absurd is

void-values : (k : ℕ) (v : HereView) (e : EndId) (q : PictureWhat) → IsVoidOf k v q → values_for e (values_of q) ≡ 0
void-values k v e (packet.Unwanted to w at hops) is = refl
void-values k v e _ is = absurd is

void-parcel : (k : ℕ) (v : HereView) (f : EndId) (n : ℕ) (q : PictureWhat) → IsVoidOf k v q → IsParcelOf f n q → ⊥
void-parcel k v f n (packet.Unwanted to w at hops) is has = has
void-parcel k v f n _ is has = absurd is

pub void-parcel_for : (k : ℕ) (v : HereView) (e : EndId) (r n : ℕ) (q : PictureWhat) → IsVoidOf k v q → IsParcelFor e r n q → ⊥
void-parcel_for k v e r n (packet.Unwanted to w at hops) is has = has
void-parcel_for k v e r n _ is has = absurd is

void-back : (k : ℕ) (v : HereView) (f : EndId) (n : ℕ) (q : PictureWhat) → IsVoidOf k v q → IsBackOf f n q → ⊥
void-back k v f n (packet.Unwanted to w at hops) is has = has
void-back k v f n _ is has = absurd is

void-taken : (k : ℕ) (v : HereView) (f : EndId) (n : ℕ) (q : PictureWhat) → IsVoidOf k v q → IsTakenOf f n q → ⊥
void-taken k v f n (packet.Unwanted to w at hops) is has = has
void-taken k v f n _ is has = absurd is

void-message : (k : ℕ) (v : HereView) (f : EndId) (q : PictureWhat) → IsVoidOf k v q → is_message_of f q ≡ false
void-message k v f (packet.Unwanted to w at hops) is = refl
void-message k v f _ is = absurd is

void-telling : (k : ℕ) (v : HereView) (f : EndId) (q : PictureWhat) → IsVoidOf k v q → is_taken_of f q ≡ false
void-telling k v f (packet.Unwanted to w at hops) is = refl
void-telling k v f _ is = absurd is

void-news : (k : ℕ) (v : HereView) (t : EndId) (j h : ℕ) (q : PictureWhat) → IsVoidOf k v q → IsNews t j h q → (opposite v.value.end ≡ t) × (k ≡ j) × (v.value.hops ≡ h)
void-news k v t j h (packet.Unwanted to w at hops) is news = (sym is.0 ∙ news.0, sym is.1 ∙ news.1, sym is.2 ∙ news.2)
void-news k v t j h _ is news = absurd is

-- the view of an entry that is here
abbrev pub view_or : HereView → Entry → HereView
view_or d (entry.Here v) = v
view_or d _ = d

module _ {n : ℕ} {w u : Links} {s : State} {c : Change} {t : EndId → End} {v : HereView} {l : MovingPicture} (b : Changes w c u) (is : IsAnew n w s c t v l) where
  abbrev mine : EndId
  mine = v.value.end

  abbrev k : ℕ
  k = c.kernel

  abbrev new : HereView
  new = record v { value = l }

  -- ---- entries

  pub entry-now : u.entry k mine ≡ entry.Here new
  entry-now = b.entry mine ∙ is.put mine ∙ ap (λ x. if x then entry.Here new else w.entry k mine) (end_eq-refl mine)

  -- it is the entry of that end, or stays
  entry-or : (j : ℕ) (e : EndId) → ((u.entry j e ≡ w.entry j e) × (j ≡ k → e ≡ mine → ⊥)) ⊎ ((j ≡ k) × (e ≡ mine))
  entry-or j e = by (eqb_tells j k)
    where
      own : (x : Bool) → end_eq mine e ≡ x → j ≡ k → ((u.entry j e ≡ w.entry j e) × (j ≡ k → e ≡ mine → ⊥)) ⊎ ((j ≡ k) × (e ≡ mine))
      own true same at = inr (at, sym (end_eq-same mine e same))
      own false apart at = inl (
        subst (λ z. u.entry z e ≡ w.entry z e) (sym at) (b.entry e ∙ is.put e ∙ ap (λ x. if x then entry.Here new else w.entry k e) apart),
        λ at same. true≢false (sym (end_eq-refl mine) ∙ subst (λ z. end_eq mine z ≡ false) same apart),
      )

      by : ((nat_eq j k ≡ true) × (j ≡ k)) ⊎ ((nat_eq j k ≡ false) × (j ≢ k)) → ((u.entry j e ≡ w.entry j e) × (j ≡ k → e ≡ mine → ⊥)) ⊎ ((j ≡ k) × (e ≡ mine))
      by (inl at) = own (end_eq mine e) refl at.1
      by (inr apart) = inl (b.others j e apart.0, λ at same. apart.1 at)

  now-at : (j : ℕ) (e : EndId) → j ≡ k → e ≡ mine → u.entry j e ≡ entry.Here new
  now-at j e at same = ap (λ z. u.entry z e) at ∙ ap (u.entry k) same ∙ entry-now

  was-at : (j : ℕ) (e : EndId) → j ≡ k → e ≡ mine → w.entry j e ≡ entry.Here v
  was-at j e at same = ap (λ z. w.entry z e) at ∙ ap (w.entry k) same ∙ is.here

  pub entry-still : (P : Entry → Type 0) → (P (entry.Here v) → P (entry.Here new)) → (j : ℕ) (e : EndId) → P (w.entry j e) → P (u.entry j e)
  entry-still P gives j e has = by (entry-or j e)
    where
      by : ((u.entry j e ≡ w.entry j e) × (j ≡ k → e ≡ mine → ⊥)) ⊎ ((j ≡ k) × (e ≡ mine)) → P (u.entry j e)
      by (inl same) = subst P (sym same.0) has
      by (inr at) = subst P (sym (now-at j e at.0 at.1)) (gives (subst P (was-at j e at.0 at.1) has))

  entry-was : (P : Entry → Type 0) → (P (entry.Here new) → P (entry.Here v)) → (j : ℕ) (e : EndId) → P (u.entry j e) → P (w.entry j e)
  entry-was P gives j e has = by (entry-or j e)
    where
      by : ((u.entry j e ≡ w.entry j e) × (j ≡ k → e ≡ mine → ⊥)) ⊎ ((j ≡ k) × (e ≡ mine)) → P (w.entry j e)
      by (inl same) = subst P same.0 has
      by (inr at) = subst P (sym (was-at j e at.0 at.1)) (gives (subst P (now-at j e at.0 at.1) has))

  pub is-still : (j : ℕ) (e : EndId) (P : HereView → Type 0) → (P v → P new) → IsHereAnd (entry_at w j e) P → IsHereAnd (entry_at u j e) P
  is-still j e P gives has = entry-still (λ x. IsHereAnd x P) gives j e has

  is-was : (j : ℕ) (e : EndId) (P : HereView → Type 0) → (P new → P v) → IsHereAnd (entry_at u j e) P → IsHereAnd (entry_at w j e) P
  is-was j e P gives has = entry-was (λ x. IsHereAnd x P) gives j e has

  -- the view that an end had
  pub seen : (j : ℕ) (e : EndId) (x : HereView) → entry_at u j e ≡ entry.Here x → (y : HereView) × (entry_at w j e ≡ entry.Here y) × (x ≡ record y { value = x.value }) × IsLike y.value x.value
  seen j e x there = by (entry-or j e)
    where
      by : ((u.entry j e ≡ w.entry j e) × (j ≡ k → e ≡ mine → ⊥)) ⊎ ((j ≡ k) × (e ≡ mine)) → (y : HereView) × (entry_at w j e ≡ entry.Here y) × (x ≡ record y { value = x.value }) × IsLike y.value x.value
      by (inl same) = (x, sym same.0 ∙ there, refl, refl)
      by (inr at) =
          let own : new ≡ x = ap (view_or v) (sym (now-at j e at.0 at.1) ∙ there) in
          (v, was-at j e at.0 at.1, subst (λ (z : HereView). z ≡ record v { value = z.value }) own refl, subst (λ (z : HereView). IsLike v.value z.value) own is.like)

  -- ---- packets

  said : (to : ℕ) (what : PictureWhat) → Contains c.packets (to, what) → (to < n) × IsVoidOf k v what
  said to what has = sent-each (λ to what. (to < n) × IsVoidOf k v what) c.packets to what is.sent has

  pub under-still : (P : PictureWhat → Type 0) → IsUnderWay w P → IsUnderWay u P
  under-still P = under_way-still b P (λ x. absurd (let none : None ≡ Some (x.from, x.packet) = sym is.taken ∙ x.taken in cc))

  pub under-was : (P : PictureWhat → Type 0) → ((q : PictureWhat) → IsVoidOf k v q → P q → ⊥) → IsUnderWay u P → IsUnderWay w P
  under-was P none = under_way-was b P (λ x. none x.what (said x.to x.what x.there).1 x.is)

  pub under-same : (P : PictureWhat → Type 0) → ((q : PictureWhat) → IsVoidOf k v q → P q → ⊥) → IsUnderWay u P ↔ IsUnderWay w P
  under-same P none = (under-was P none, under-still P)

  sum-same : (f : PictureWhat → ℕ) → ((q : PictureWhat) → IsVoidOf k v q → f q ≡ 0) → sum_over f u ≡ sum_over f w
  sum-same f none =
      sum_over-same f b (subst (λ (z : Option (ℕ × Picture)). IfSome z (λ t. f t.1.what ≡ 0)) (sym is.taken) tt)
      (all_sent-weaker (λ to what. (to < n) × IsVoidOf k v what) (λ to what. f what ≡ 0) (λ to what void. none what void.1) c.packets is.sent)

  pub number-same : (test : PictureWhat → Bool) → ((q : PictureWhat) → IsVoidOf k v q → test q ≡ false) → how_many test u ≡ how_many test w
  number-same test none = sum-same (λ q. one_if (test q)) (λ q void. ap one_if (none q void))

  -- ---- fields

  flying-was : (e : EndId) (m : MovingPicture) → HasFields u e Flying m → HasFields w e Flying m
  flying-was e m has = (under-was (λ q. Contains (values_of q) m) (void-value k v m) has.0, has.1)

  -- the fields that an end had, and whether they are those of the end
  pub fields-was : (e : EndId) (at : Stand) (m : MovingPicture) → HasFields u e at m
      → (o : MovingPicture) × HasFields w e at o × IsLike o m × (((m ≡ o) × (at ≡ At k → e ≡ mine → ⊥)) ⊎ ((e ≡ mine) × (m ≡ l)))
  fields-was e Flying m has = (m, flying-was e m has, refl, inl (refl, λ at same. let no : Flying ≡ At k = at in cc))
  fields-was e (At j) m has = by (entry-or j e)
    where
      site : Stand → ℕ
      site (At i) = i
      site Flying = 0

      by : ((u.entry j e ≡ w.entry j e) × (j ≡ k → e ≡ mine → ⊥)) ⊎ ((j ≡ k) × (e ≡ mine)) → (o : MovingPicture) × HasFields w e (At j) o × IsLike o m × (((m ≡ o) × (At j ≡ At k → e ≡ mine → ⊥)) ⊎ ((e ≡ mine) × (m ≡ l)))
      by (inl same) = (m, ap value_of (sym same.0) ∙ has, refl, inl (refl, λ at own. same.1 (ap site at) own))
      by (inr at) =
          let own : l ≡ m = some-same l m (ap value_of (sym (now-at j e at.0 at.1)) ∙ has) in
          (v.value, ap value_of (was-at j e at.0 at.1), subst (IsLike v.value) own is.like, inr (at.1, sym own))

  -- the fields of the end afterwards, where before they were those of its view
  pub anew-own : ((at : Stand) (m : MovingPicture) → HasFields w mine at m → (at ≡ At k) × (m ≡ v.value)) → (at : Stand) (m : MovingPicture) → HasFields u mine at m → m ≡ l
  anew-own own at m has = let o = fields-was mine at m has in by o.0 o.1 o.3
    where
      by : (o : MovingPicture) → HasFields w mine at o → ((m ≡ o) × (at ≡ At k → mine ≡ mine → ⊥)) ⊎ ((mine ≡ mine) × (m ≡ l)) → m ≡ l
      by o was (inl same) = absurd (same.1 (own at o was).0 refl)
      by o was (inr now) = now.1

  -- those of each other end
  pub anew-other : (e : EndId) (at : Stand) (m : MovingPicture) → end_eq mine e ≡ false → HasFields u e at m → HasFields w e at m
  anew-other e at m apart has = let o = fields-was e at m has in by o.0 o.1 o.3
    where
      by : (o : MovingPicture) → HasFields w e at o → ((m ≡ o) × (at ≡ At k → e ≡ mine → ⊥)) ⊎ ((e ≡ mine) × (m ≡ l)) → HasFields w e at m
      by o was (inl same) = subst (HasFields w e at) (sym same.0) was
      by o was (inr own) = absurd (true≢false (sym (end_eq-refl mine) ∙ subst (λ z. end_eq mine z ≡ false) own.0 apart))

  -- ---- the ends of the service

  pub place-same : (q : EndId) → (t q).place ≡ (s.ends q).place
  place-same q = ap (λ (x : End). x.place) (is.ends q)

  pub noticed-same : (q : EndId) → (t q).noticed ≡ (s.ends q).noticed
  noticed-same q = ap (λ (x : End). x.noticed) (is.ends q)

  pub outward-kept : (q : EndId) → (t q).outward ≡ (s.ends q).outward
  outward-kept q = ap (λ (x : End). x.outward) (is.ends q)

  sent-kept : (q : EndId) → (t q).sent ≡ (s.ends q).sent
  sent-kept q = ap (λ (x : End). x.sent) (is.ends q)

  pub open-same : (q : EndId) → is_open (t q) ≡ is_open (s.ends q)
  open-same q = ap (λ (x : End). is_open x) (is.ends q)

  pub living-was : (q : EndId) → is_living (t q).place ≡ true → is_living (s.ends q).place ≡ true
  living-was q = subst (λ (z : Place). is_living z ≡ true) (place-same q)

  -- ---- clauses 2 to 5

  standing-still : (e : EndId) → standing u e ≡ standing w e
  unfolding standing
  standing-still e =
      let here : over_kernels (λ j. one_if (is_here (u.entry j e))) ≡ over_kernels (λ j. one_if (is_here (w.entry j e)))
      = over-same (λ j. one_if (is_here (w.entry j e))) (λ j. one_if (is_here (u.entry j e)))
      (λ j. entry-still (λ (x : Entry). one_if (is_here x) ≡ one_if (is_here (w.entry j e))) (λ same. same) j e refl) in
      let values : sum_over (λ q. values_for e (values_of q)) u ≡ sum_over (λ q. values_for e (values_of q)) w = sum-same (λ q. values_for e (values_of q)) (void-values k v e) in
      omega (arith, here, values)

  held-still : (j : ℕ) (e : EndId) (h : Holder) → IsHereAnd (entry_at w j e) (λ x. x.holder ≡ h) ↔ IsHereAnd (entry_at u j e) (λ x. x.holder ≡ h)
  held-still j e h = (is-still j e (λ x. x.holder ≡ h) (λ a. a), is-was j e (λ x. x.holder ≡ h) (λ a. a))

  waiting-still : (j : ℕ) (f : EndId) (m : ℕ) → IsHereAnd (entry_at w j f) (λ x. IsWaitingWith m x.outward) ↔ IsHereAnd (entry_at u j f) (λ x. IsWaitingWith m x.outward)
  waiting-still j f m = (is-still j f (λ x. IsWaitingWith m x.outward) (λ a. a), is-was j f (λ x. IsWaitingWith m x.outward) (λ a. a))

  in_message-still : (e f : EndId) (m : ℕ) → IsInMessage w e f m ↔ IsInMessage u e f m
  in_message-still e f m = (still, was)
    where
      parcel : IsUnderWay u (λ q. IsParcelOf f m q × Contains (ends_in (values_of q)) e) ↔ IsUnderWay w (λ q. IsParcelOf f m q × Contains (ends_in (values_of q)) e)
      parcel = under-same (λ q. IsParcelOf f m q × Contains (ends_in (values_of q)) e) (λ q void has. void-parcel k v f m q void has.0)

      back : IsUnderWay u (λ q. IsBackOf f m q × Contains (ends_in (values_of q)) e) ↔ IsUnderWay w (λ q. IsBackOf f m q × Contains (ends_in (values_of q)) e)
      back = under-same (λ q. IsBackOf f m q × Contains (ends_in (values_of q)) e) (λ q void has. void-back k v f m q void has.0)

      still : IsInMessage w e f m → IsInMessage u e f m
      still (inl x) = inl (record { at = x.at; enclosed = (held-still x.at e (holder.EnclosedIn f)).0 x.enclosed; waiting = (waiting-still x.at f m).0 x.waiting })
      still (inr (inl x)) = inr (inl (parcel.1 x))
      still (inr (inr x)) = inr (inr (back.1 x))

      was : IsInMessage u e f m → IsInMessage w e f m
      was (inl x) = inl (record { at = x.at; enclosed = (held-still x.at e (holder.EnclosedIn f)).1 x.enclosed; waiting = (waiting-still x.at f m).1 x.waiting })
      was (inr (inl x)) = inr (inl (parcel.0 x))
      was (inr (inr x)) = inr (inr (back.0 x))

  -- where the activities inward agree
  pub links-anew : AreLinksOf w s → ((e : EndId) (p : Pid) (x : HereView) → (s.ends e).place ≡ place.Owned p → entry_at w (home_of s p) e ≡ entry.Here x → IsInwardOf w e x.inward (s.ends e).inward → IsInwardOf u e x.inward (t e).inward)
      → AreLinksOf u (record s { ends = t })
  links-anew links inward =
      record {
        once = λ e. standing-still e ∙ links.once e ∙ ap (λ (z : Place). one_if (is_living z)) (sym (place-same e));
        owned = λ e p. (
          λ at. (held-still (home_of s p) e (holder.Owner p)).0 ((links.owned e p).0 (sym (place-same e) ∙ at)),
          λ has. place-same e ∙ (links.owned e p).1 ((held-still (home_of s p) e (holder.Owner p)).1 has),
        );
        in_message = λ e f m. (λ at. (in_message-still e f m).0 ((links.in_message e f m).0 (sym (place-same e) ∙ at)), λ has. place-same e ∙ (links.in_message e f m).1 ((in_message-still e f m).1 has));
        agree = λ e p x at there.
            let y = seen (home_of s p) e x there in
            agrees e p y.0 x (sym (place-same e) ∙ at) y.1 y.2 y.3 (links.agree e p y.0 (sym (place-same e) ∙ at) y.1);
      }
    where
      agrees : (e : EndId) (p : Pid) (y x : HereView) → (s.ends e).place ≡ place.Owned p → entry_at w (home_of s p) e ≡ entry.Here y → x ≡ record y { value = x.value } → IsLike y.value x.value → IsEndOf w e y (s.ends e) → IsEndOf u e x (t e)
      agrees e p y x at there same like old =
          record {
            sent = sent-kept e ∙ old.sent ∙ sym (ap (λ (z : MovingPicture). z.sent) like);
            noticed = noticed-same e ∙ old.noticed ∙ sym (ap (λ (z : MovingPicture). z.dead) like);
            outward = subst (λ o. IsOutwardOf u e (t e).sent o (t e).outward) (sym (ap (λ (z : HereView). z.outward) same))
                (subst (λ m. IsOutwardOf u e m y.outward (t e).outward) (sym (sent-kept e))
                (subst (IsOutwardOf u e (s.ends e).sent y.outward) (sym (outward-kept e))
                (outward-same w u e (λ m. under-same (IsTakenOf e m) (void-taken k v e m)) (s.ends e).sent y.outward (s.ends e).outward old.outward)));
            inward = subst (λ i. IsInwardOf u e i (t e).inward) (sym (ap (λ (z : HereView). z.inward) same)) (inward e p y at there old.inward);
          }

  -- ---- what is true of every world

  pub named-anew : AreNamed n w s.ends → is_made (s.ends (opposite mine)).place ≡ true → AreNamed n u t
  named-anew named made =
      record {
        entries = λ j e. entry-still (NamesBelow n) (λ old. subst (λ z. names_kernels_below n z ≡ true) (sym is.like) old) j e (named.entries j e);
        away = λ j e far. b.others j e (ne_eqb j k (λ same. let below = is.kernel in omega (arith, far, same, below))) ∙ named.away j e far;
        lists = λ from to far. none-in (u.packets from to) (λ q has. nothing from to far q (left_or_sent b from to q has));
        addressed = each-after b (λ from to q. is_addressed q n ≡ true) (λ from to q. is_addressed q n ≡ true) named.addressed (λ from to q has a. a) (λ to what has. void-addressed n k v what is.kernel (said to what has).1);
        addressees = each-after b (λ from to q. is_made (s.ends (addressee q)).place ≡ true) (λ from to q. is_made (t (addressee q)).place ≡ true) named.addressees
            (λ from to q has a. made-still (addressee q.what) a)
            (λ to what has. made-still (addressee what) (subst (λ z. is_made (s.ends z).place ≡ true) (sym (void-to k v what (said to what has).1)) made));
      }
    where
      made-still : (q : EndId) → is_made (s.ends q).place ≡ true → is_made (t q).place ≡ true
      made-still q old = subst (λ (z : Place). is_made z ≡ true) (sym (place-same q)) old

      nothing : (from to : ℕ) → (n ≤ from) ⊎ (n ≤ to) → (q : Picture) → Contains (b.left from to) q ⊎ (Contains c.packets (to, q.what) × (from ≡ k)) → ⊥
      nothing from to far q (inl has) = none-there q (subst (λ l. Contains l q) (named.lists from to far) (left-before b from to q has))
      nothing from to (inl far) q (inr has) = let below = is.kernel in let same = has.1 in omega (arith, far, same, below)
      nothing from to (inr far) q (inr has) = let below = (said to q.what has.0).0 in omega (arith, far, below)

  pub few-anew : (i : ℕ) → ((e : EndId) (at : Stand) (m : MovingPicture) → HasFields w e at m → IsFew i m) → (e : EndId) (at : Stand) (m : MovingPicture) → HasFields u e at m → IsFew i m
  few-anew i few e at m has =
      let o = fields-was e at m has in
      let old = few e at o.0 o.1 in
      record {
        hops = subst (λ z. z ≤ i) (sym (ap (λ (z : MovingPicture). z.hops) o.2)) old.hops;
        sent = subst (λ z. z ≤ i) (sym (ap (λ (z : MovingPicture). z.sent) o.2)) old.sent;
        asked = subst (λ z. z ≤ i) (sym (ap (λ (z : MovingPicture). z.asked) o.2)) old.asked;
      }

  pub marked-anew : (e : EndId) → AreMarked w s.ends e → AreMarked u t e
  marked-anew e old =
      record {
        destroyed = λ j m at. place-same e ∙ old.destroyed j m (mark j m at);
        once = λ i j m o at there. old.once i j m o (mark i m at) (mark j o there);
      }
    where
      mark : (j : ℕ) (m : MovingPicture) → entry_at u j e ≡ entry.Destroyed m → entry_at w j e ≡ entry.Destroyed m
      mark j m at = entry-was (λ x. x ≡ entry.Destroyed m) (λ no. absurd (let none : entry.Here new ≡ entry.Destroyed m = no in cc)) j e at

  open-notices : (x : End) → is_open x ≡ true → x.noticed ≡ true → ⊥
  open-notices x open_is noticed = by (is_living x.place) (subst (λ z. (is_living x.place && (if z then false else true)) ≡ true) noticed open_is)
    where
      by : (a : Bool) → (a && false) ≡ true → ⊥
      by true is = true≢false (sym is)
      by false is = true≢false (sym is)

  pub counted-anew : (e : EndId) → AreCounted w s.ends e → AreCounted u t e
  counted-anew e old =
      record {
        sent = λ at m lives has. let o = fields-was e at m has in ap (λ (z : MovingPicture). z.sent) o.2 ∙ old.sent at o.0 (living-was e lives) o.1 ∙ sym (sent-kept e);
        dead = λ at m lives has. let o = fields-was e at m has in ap (λ (z : MovingPicture). z.dead) o.2 ∙ old.dead at o.0 (living-was e lives) o.1 ∙ sym (noticed-same e);
        unwanted = λ at m lives noticed has. let o = fields-was e at m has in none at m o.0 (living-was e lives) (sym (noticed-same e) ∙ noticed) o.1 o.3;
      }
    where
      none : (at : Stand) (m o : MovingPicture) → is_living (s.ends e).place ≡ true → (s.ends e).noticed ≡ true → HasFields w e at o → ((m ≡ o) × (at ≡ At k → e ≡ mine → ⊥)) ⊎ ((e ≡ mine) × (m ≡ l)) → m.want ≡ 0
      none at m o lives noticed has (inl same) = ap (λ (z : MovingPicture). z.want) same.0 ∙ old.unwanted at o lives noticed has
      none at m o lives noticed has (inr own) = absurd (open-notices (s.ends mine) is.opened (subst (λ z. (s.ends z).noticed ≡ true) own.0 noticed))

  pub asked-anew : (e : EndId) → AreAsked w s e → AreAsked u (record s { ends = t }) e
  asked-anew e old =
      record {
        last = λ j x r there asked.
            let y = seen j e x there in
            old.last j y.0 r y.1 (subst (IsAskedAs r) (ap (λ (z : HereView). z.inward) y.2) asked) ∙ sym (ap (λ (z : MovingPicture). z.asked) y.3);
        cancelled = λ j x r p there withdrawing held.
            let y = seen j e x there in
            old.cancelled j y.0 r p y.1 (sym (ap (λ (z : HereView). z.inward) y.2) ∙ withdrawing) (sym (ap (λ (z : HereView). z.holder) y.2) ∙ held);
      }

  pub withdrawing-still : (j : ℕ) (e : EndId) → IsHereAnd (entry_at w j e) (λ x. is_withdrawing x.inward ≡ true) → IsHereAnd (entry_at u j e) (λ x. is_withdrawing x.inward ≡ true)
  withdrawing-still j e = is-still j e (λ x. is_withdrawing x.inward ≡ true) (λ a. a)

  pub once-anew : (f : EndId) → AreSentOnce w s.ends f → AreSentOnce u t f
  once-anew f old =
      record {
        message = number-same (is_message_of f) (void-message k v f) ∙ old.message ∙ sym (ap (λ (x : End). one_if (is_some (matched_message x.outward))) (is.ends f));
        taken = subst (λ z. z ≤ one_if (is_taken (t f).outward)) (sym takens) (subst (λ z. how_many (is_taken_of f) w ≤ z) (sym taken-kept) old.taken);
        told = λ living. takens ∙ old.told (living-was f living) ∙ sym taken-kept;
      }
    where
      takens : how_many (is_taken_of f) u ≡ how_many (is_taken_of f) w
      takens = number-same (is_taken_of f) (void-telling k v f)

      taken-kept : one_if (is_taken (t f).outward) ≡ one_if (is_taken (s.ends f).outward)
      taken-kept = ap (λ (x : End). one_if (is_taken x.outward)) (is.ends f)

  -- a packet that was right
  pub right-anew : (from to : ℕ) (q : PictureWhat) → IsPacketRight w s.ends from to q → IsPacketRight u t from to q
  right-anew from to (packet.Parcel e m wanted at hops bytes ms) old =
      record {
        matched = outward-kept (opposite e) ∙ old.matched;
        number = sent-kept (opposite e) ∙ old.number;
        sender = old.sender;
        site = λ living. is-still from (opposite e) (λ x. x.value.hops ≡ hops) (λ same. ap (λ (z : MovingPicture). z.hops) is.like ∙ same) (old.site (living-was (opposite e) living));
        meets = λ open_is. is-still to e (λ x. IsAskedAs wanted x.inward) (λ a. a) (old.meets (sym (open-same e) ∙ open_is));
      }
  right-anew from to (packet.Back f m ms) old =
      record {
        matched = record { message = old.matched.message; matched = outward-kept f ∙ old.matched.matched; carries = old.matched.carries; number = sent-kept f ∙ old.matched.number };
        untaken = open-same (opposite f) ∙ old.untaken;
        site = λ living. is-still to f (λ x. Unit {0}) (λ a. a) (old.site (living-was f living));
      }
  right-anew from to (packet.Taken f m at hops) old =
      record { taken = outward-kept f ∙ old.taken; number = sent-kept f ∙ old.number; taker = old.taker; site = λ living. is-still to f (λ x. Unit {0}) (λ a. a) (old.site (living-was f living)) }
  right-anew from to (packet.Gone e at) old = place-same (opposite e) ∙ old
  right-anew from to (packet.Unwanted e r at hops) old = λ noticed. is-still to e (λ x. x.inward ≡ kernel_inward.Withdrawing r) (λ a. a) (old (sym (noticed-same e) ∙ noticed))
  right-anew from to _ old = tt

  -- what was heard is no more than true, where the fields of the end are those of its view
  pub honest-anew : ((e : EndId) → IsHonest w e) → ((at : Stand) (m : MovingPicture) → HasFields w mine at m → (at ≡ At k) × (m ≡ v.value)) → (e : EndId) → IsHonest u e
  honest-anew old own e at m j h has heard =
      let o = fields-was e at m has in
      subst (λ z. IsNoMore at z j h) (sym (ap (λ (z : MovingPicture). z.hops) o.2)) (by o.0 o.1 heard)
    where
      told : (o : MovingPicture) → HasFields w e at o → e ≡ mine → k ≡ j → v.value.hops ≡ h → IsNoMore at o.hops j h
      told o had end kernel hops =
          let f = own at o (subst (λ z. HasFields w z at o) end had) in
          let count : o.hops ≡ v.value.hops = ap (λ (z : MovingPicture). z.hops) f.1 in
          subst (λ z. IsNoMore z o.hops j h) (sym f.0) (omega (arith, count, hops), λ same. sym kernel)

      news : (o : MovingPicture) → HasFields w e at o → IsLeft b (IsNews (opposite e) j h) ⊎ IsSent c (IsNews (opposite e) j h) → IsNoMore at o.hops j h
      news o had (inl left) = old e at o j h had (inr (left-was b (IsNews (opposite e) j h) left))
      news o had (inr sent) =
          let is_void = void-news k v (opposite e) j h sent.what (said sent.to sent.what sent.there).1 sent.is in
          told o had (sym (opposite-twice e) ∙ sym (ap opposite is_void.0) ∙ opposite-twice mine) is_void.1 is_void.2

      by : (o : MovingPicture) → HasFields w e at o → IsHeard u e j h → IsNoMore at o.hops j h
      by o had (inl x) =
          let z = fields-was (opposite e) x.stand x.fields x.are in
          old e at o j h had (inl (record { stand = x.stand; fields = z.0; are = z.1; hint = sym (ap (λ (m : MovingPicture). m.hint) z.2) ∙ x.hint }))
      by o had (inr x) = news o had (under_way-after b (IsNews (opposite e) j h) x)
