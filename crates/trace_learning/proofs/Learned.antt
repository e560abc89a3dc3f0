-- An end that is here hears where its opposite is, which keeps all that is true of the traces of ends. What it is asked for by a mark stays asked from
-- there, since nothing newer than the mark is heard of its end.
use Rattle.std.proofs.Common.{◌≡◌, ◌≢◌, ◌⊎◌, inl, inr, ℕ, ◌<◌, ◌≤◌, Bool, true, false, true≢false, nat_eq, if◌then◌else◌, List, [], ◌∷◌, length, Contains, Some, None, refl, sym, ap, subst, ◌∙◌, arith, ltb-true, ltb-false, lt-ltb}
use Rattle.std.proofs.lemmas.Bool.Decides.{eqb_tells}
use Rattle.charlotte_calls.specs.Names.{opposite}
use Rattle.charlotte_calls.specs.declared.calls.Answer.{Answer}
use Rattle.charlotte_calls.specs.declared.calls.Report.{Report}
use Rattle.charlotte_calls.specs.declared.names.EndId.{EndId}
use Rattle.charlotte_calls.specs.declared.names.Pid.{Pid}
use Rattle.charlotte_packets.specs.declared.picture.MovingPicture.{MovingPicture}
use Rattle.charlotte_packets.specs.declared.picture.Picture.{Picture}
use Rattle.charlotte_packets.specs.declared.picture.PictureWhat.{PictureWhat}
use Rattle.charlotte_packets.specs.declared.picture.PictureWhat.TheVariants as packet
use Rattle.end_table.proofs.EndEq.{end_eq-same}
use Rattle.end_table.specs.Entries.{is_news, learned}
use Rattle.end_table.specs.Place.{end_eq}
use Rattle.end_table.specs.Table.{IsHereAnd, IsOfEnd}
use Rattle.end_table.specs.declared.entry.Entry.{Entry}
use Rattle.end_table.specs.declared.entry.Entry.TheVariants as entry
use Rattle.end_table.specs.declared.entry.HereView.{HereView}
use Rattle.kernel_effects.specs.Effect.{Effect}
use Rattle.kernel_outcomes.specs.Closing.{told}
use Rattle.kernel_step.specs.Kernel.{process_of}
use Rattle.kernel_world.specs.World.{Takes, World, happens}
use Rattle.service_lawful.specs.Consistent.{is_open}
use Rattle.service_step.specs.Ends.{is_living}
use Rattle.service_step.specs.State.{State}
use Rattle.service_step.specs.declared.state.End.{End}
use Rattle.service_step.specs.declared.state.Place.TheVariants as place
use Rattle.theorem_effects.proofs.Aside.{sent-each}
use Rattle.theorem_effects.proofs.Ends.{all_sent-weaker}
use Rattle.theorem_effects.proofs.Lists.{none-there}
use Rattle.theorem_effects.proofs.Packets.{left-was, taken-was, under_way-after}
use Rattle.theorem_effects.specs.Change.{Change, Changes, Happens}
use Rattle.theorem_effects.specs.Events.{taking}
use Rattle.theorem_effects.specs.Sums.{AllSent}
use Rattle.theorem_effects.specs.Under.{IsLeft, IsSent}
use Rattle.theorem_meaning.proofs.Ends.{opposite-twice}
use Rattle.theorem_meaning.specs.Fields.{At, Flying, HasFields, IsAsking, IsNews, IsUnserved, Stand, value_of}
use Rattle.theorem_meaning.specs.Invariant.{Invariant}
use Rattle.theorem_meaning.specs.Packets.{IsUnderWay, Links, links_of, values_of}
use Rattle.theorem_meaning.specs.StandsFor.{entry_at}
use Rattle.trace_hearing.proofs.Alike.{some-same}
use Rattle.trace_hearing.proofs.Places.{fields-here, here-living}
use Rattle.trace_hearing.specs.Quiet.{tells_place}
use Rattle.trace_hearing.proofs.Calls.{steadily-same, told-calm}
use Rattle.trace_hearing.proofs.Steady.{here-so}
use Rattle.trace_hearing.specs.Calm.{AreAsOpen, IsCounted, IsSteadily}
use Rattle.trace_hearing.proofs.Clauses.{under_way-or}
use Rattle.trace_hearing.proofs.One.{is-taken}
use Rattle.trace_hearing.proofs.Tracks.{going-sent}
use Rattle.trace_hearing.specs.Had.{HasSome}
use Rattle.trace_hearing.proofs.Hearing.{hearing-traced}
use Rattle.trace_hearing.proofs.Marks.{mildly-same}
use Rattle.trace_hearing.specs.Hearing.{IsHearing, IsMildly, IsRaised, IsTaught, IsTrueNews}
use Rattle.trace_learning.specs.Learned.{IsLearned, IsLiveOf}
use Rattle.trace_meaning.specs.Traces.{AreTraced, IsMarkRight, IsTraceRight}
use Rattle.trace_meaning.specs.Words.{IsGoneFrom, IsKnownOf, IsMovedTo}

-- ---- values

taught-counted : (m l n : MovingPicture) → IsTaught m l → IsCounted l n → IsTaught m n
taught-counted m l n taught counted =
    counted ∙ ap (λ (z : MovingPicture). record z { sent = n.sent; asked = n.asked }) taught
    ∙ (λ i. record m { hint = hint i; sent = n.sent; asked = n.asked; want = want i; served = served i })
  where
    hint : l.hint ≡ n.hint
    hint = sym (ap (λ (z : MovingPicture). z.hint) counted)

    want : l.want ≡ n.want
    want = sym (ap (λ (z : MovingPicture). z.want) counted)

    served : l.served ≡ n.served
    served = sym (ap (λ (z : MovingPicture). z.served) counted)

steady-mildly : (y z : Entry) → IsSteadily y z → IsMildly y z
steady-mildly entry.Nothing entry.Nothing like = tt
steady-mildly (entry.Here v) (entry.Here o) like = taught-counted v.value v.value o.value refl like
steady-mildly (entry.Left to hops) (entry.Left there more) like = like
steady-mildly (entry.Destroyed m) (entry.Destroyed l) like = subst (IsTaught m) (sym like) refl
steady-mildly _ _ like = absurd like

steady-value : (y z : Entry) (l : MovingPicture) → IsSteadily y z → value_of z ≡ Some l → (m : MovingPicture) × (value_of y ≡ Some m) × IsCounted m l
steady-value (entry.Here v) (entry.Here o) l like has = (v.value, refl, subst (IsCounted v.value) (some-same o.value l has) like)
steady-value (entry.Destroyed m) (entry.Destroyed o) l like has = (m, refl, subst (IsCounted m) (sym like ∙ some-same o l has) refl)
steady-value _ entry.Nothing l like has = absurd (let none : None ≡ Some l = has in cc)
steady-value _ (entry.Left to hops) l like has = absurd (let none : None ≡ Some l = has in cc)
steady-value _ _ l like has = absurd like

-- what is learned is news, or the hint is no older
pub learned-hint : (at hops : ℕ) (m : MovingPicture) → ((is_news m hops ≡ true) × ((learned at hops m).hint ≡ (at, hops)) × (m.hint.1 < hops)) ⊎ ((is_news m hops ≡ false) × ((learned at hops m).hint ≡ m.hint) × (hops ≤ m.hint.1))
learned-hint at hops m = by (is_news m hops) refl
  where
    by : (a : Bool) → is_news m hops ≡ a → ((is_news m hops ≡ true) × ((learned at hops m).hint ≡ (at, hops)) × (m.hint.1 < hops)) ⊎ ((is_news m hops ≡ false) × ((learned at hops m).hint ≡ m.hint) × (hops ≤ m.hint.1))
    by true is = inl (is, ap (λ a. (if a then record m { hint = (at, hops) } else m).hint) is, ltb-true m.hint.1 hops is)
    by false is = inr (is, ap (λ a. (if a then record m { hint = (at, hops) } else m).hint) is, ltb-false m.hint.1 hops is)

-- ---- packets

news-same : (q : PictureWhat) (e x : EndId) (j h at hops : ℕ) → IsNews e j h q → IsNews x at hops q → (x ≡ e) × (at ≡ j) × (hops ≡ h)
news-same (packet.Want to n a g) e x j h at hops one other = (sym other.0 ∙ one.0, sym other.1 ∙ one.1, sym other.2 ∙ one.2)
news-same (packet.Unwant to n a g) e x j h at hops one other = (sym other.0 ∙ one.0, sym other.1 ∙ one.1, sym other.2 ∙ one.2)
news-same (packet.Unwanted to n a g) e x j h at hops one other = (sym other.0 ∙ one.0, sym other.1 ∙ one.1, sym other.2 ∙ one.2)
news-same (packet.Parcel to n p a g bytes ms) e x j h at hops one other = (sym other.0 ∙ one.0, sym other.1 ∙ one.1, sym other.2 ∙ one.2)
news-same (packet.Taken to n a g) e x j h at hops one other = (sym other.0 ∙ one.0, sym other.1 ∙ one.1, sym other.2 ∙ one.2)
news-same (packet.Moved to a g) e x j h at hops one other = (sym other.0 ∙ one.0, sym other.1 ∙ one.1, sym other.2 ∙ one.2)
news-same _ e x j h at hops one other = absurd one

live-bare : (k : ℕ) (v : HereView) (hops : ℕ) (q : PictureWhat) → IsLiveOf k v hops q → values_of q ≡ []
live-bare k v hops (packet.Parcel to n p a g bytes ms) live = absurd live
live-bare k v hops (packet.Back to n ms) live = absurd live
live-bare k v hops _ live = refl

live-gone : (k : ℕ) (v : HereView) (hops : ℕ) (q : PictureWhat) (e : EndId) (j : ℕ) → IsLiveOf k v hops q → IsGoneFrom e j q → ⊥
live-gone k v hops (packet.Gone to at) e j live its = live
live-gone k v hops _ e j live its = its

-- it asks the opposite alone
live-asks : (k : ℕ) (v : HereView) (hops : ℕ) (q : PictureWhat) (e : EndId) (n j h : ℕ) → IsLiveOf k v hops q → IsAsking e n j h q → opposite v.value.end ≡ e
live-asks k v hops (packet.Want to w at g) e n j h live its = sym live.0 ∙ its.0
live-asks k v hops (packet.Unwant to w at g) e n j h live its = sym live.0 ∙ its.0
live-asks k v hops _ e n j h live its = absurd its

live-known : (k : ℕ) (v : HereView) (hops : ℕ) (q : PictureWhat) (e : EndId) (h : ℕ) → IsLiveOf k v hops q → IsKnownOf e h q → (opposite v.value.end ≡ e) × (hops ≡ h)
live-known k v hops (packet.Known to g) e h live its = (sym live.0 ∙ its.0, sym live.1 ∙ its.1)
live-known k v hops _ e h live its = absurd its

-- what it tells is true
told-true : (l : Links) (k : ℕ) (v : HereView) → entry_at l k v.value.end ≡ entry.Here v → (to : EndId) (j h : ℕ) → (to ≡ opposite v.value.end) × (j ≡ k) × (h ≡ v.value.hops) → IsHereAnd (entry_at l j (opposite to)) (λ o. o.value.hops ≡ h)
told-true l k v here to j h its =
    subst (λ z. IsHereAnd (entry_at l z (opposite to)) (λ o. o.value.hops ≡ h)) (sym its.1)
    (subst (λ z. IsHereAnd (entry_at l k z) (λ o. o.value.hops ≡ h)) (sym (ap opposite its.0 ∙ opposite-twice v.value.end))
    (subst (λ y. IsHereAnd y (λ o. o.value.hops ≡ h)) (sym here) (sym its.2)))

live-true : (l : Links) (k : ℕ) (v : HereView) (hops : ℕ) → entry_at l k v.value.end ≡ entry.Here v → (q : PictureWhat) → IsLiveOf k v hops q → IsTrueNews l q
live-true l k v hops here (packet.Want to n j h) live = told-true l k v here to j h live
live-true l k v hops here (packet.Unwant to n j h) live = told-true l k v here to j h live
live-true l k v hops here (packet.Unwanted to n j h) live = told-true l k v here to j h live
live-true l k v hops here (packet.Moved to j h) live = told-true l k v here to j h live
live-true l k v hops here (packet.Known to h) live = tt
live-true l k v hops here _ live = absurd live

abbrev kernel_of : Stand → ℕ
kernel_of (At k) = k
kernel_of Flying = 0

module _ (i : ℕ) (w : World) (s : State) (is : Invariant i w s) (k from : ℕ) (q : Picture) (others : List Picture) (there : w.packets from k ≡ q ∷ others) (x : EndId) (at hops : ℕ) (news : IsNews x at hops q.what) (tells : tells_place q.what ≡ true)
    (bare : values_of q.what ≡ []) (v : HereView) (stood : (w.kernel k).table x ≡ entry.Here v) (f : Effect) (learns : IsLearned (links_of w) k x v at hops q.what f) (p : Pid) (given : List Answer) (rs : List Report)
    (happened : Happens w (Takes k from) (taking w k from q f p given rs)) (now : EndId → End) (as_open : AreAsOpen s.ends now) (traced : AreTraced (links_of w) s.ends) where
  abbrev l : Links
  l = links_of w

  abbrev c : Change
  c = taking w k from q f p given rs

  abbrev u : Links
  u = links_of (happens w (Takes k from))

  abbrev b : Changes l c u
  b = happened.becomes.links

  abbrev reports : List Report
  reports = told (process_of p (w.kernel k)).phase given rs

  its-end : v.value.end ≡ x
  its-end = subst (IsOfEnd x) stood ((is.setting.sound k).own x)

  here : entry_at l k v.value.end ≡ entry.Here v
  here = ap (entry_at l k) its-end ∙ stood

  -- ---- the end as it is then

  own : (o : HereView) × (c.entry x (entry.Here v) ≡ entry.Here o) × IsCounted learns.view.value o.value
  own = here-so learns.view (c.entry x (entry.Here v)) (told-calm reports x (entry.Here learns.view) (f.entry x (entry.Here v)) (subst (IsSteadily (entry.Here learns.view)) (sym learns.own) refl))

  abbrev o : HereView
  o = own.0

  now-here : entry_at u k x ≡ entry.Here o
  now-here = b.entry x ∙ ap (c.entry x) stood ∙ own.1

  o-taught : IsTaught v.value o.value
  o-taught = taught-counted v.value learns.view.value o.value learns.like own.2

  o-hint : o.value.hint ≡ (learned at hops v.value).hint
  o-hint = ap (λ (z : MovingPicture). z.hint) own.2 ∙ learns.hint

  -- ---- entries

  steady-other : (e : EndId) → end_eq x e ≡ false → (j : ℕ) → IsSteadily (entry_at l j e) (entry_at u j e)
  steady-other e apart j = by (eqb_tells j k)
    where
      by : ((nat_eq j k ≡ true) × (j ≡ k)) ⊎ ((nat_eq j k ≡ false) × (j ≢ k)) → IsSteadily (entry_at l j e) (entry_at u j e)
      by (inl near) =
          subst (λ z. IsSteadily (entry_at l z e) (entry_at u z e)) (sym near.1)
          (subst (IsSteadily (entry_at l k e)) (sym (b.entry e)) (told-calm reports e (entry_at l k e) (f.entry e (entry_at l k e)) (learns.others e apart)))
      by (inr far) = subst (IsSteadily (entry_at l j e)) (sym (b.others j e far.0)) (steadily-same (entry_at l j e))

  -- its own entry is that, or as it was
  own-or : (j : ℕ) → (j ≡ k) ⊎ (entry_at u j x ≡ entry_at l j x)
  own-or j = by (eqb_tells j k)
    where
      by : ((nat_eq j k ≡ true) × (j ≡ k)) ⊎ ((nat_eq j k ≡ false) × (j ≢ k)) → (j ≡ k) ⊎ (entry_at u j x ≡ entry_at l j x)
      by (inl near) = inl near.1
      by (inr far) = inr (b.others j x far.0)

  -- what is true of an end is true of it or of another
  each-end : (P : EndId → Type 0) → P x → ((e : EndId) → end_eq x e ≡ false → P e) → (e : EndId) → P e
  each-end P its other e = by (end_eq x e) refl
    where
      by : (a : Bool) → end_eq x e ≡ a → P e
      by true same = subst P (end_eq-same x e same) its
      by false apart = other e apart

  is-mildly : (j : ℕ) (e : EndId) → IsMildly (entry_at l j e) (entry_at u j e)
  is-mildly j = each-end (λ e. IsMildly (entry_at l j e) (entry_at u j e)) (by (own-or j)) (λ e apart. steady-mildly (entry_at l j e) (entry_at u j e) (steady-other e apart j))
    where
      by : (j ≡ k) ⊎ (entry_at u j x ≡ entry_at l j x) → IsMildly (entry_at l j x) (entry_at u j x)
      by (inl near) = subst (λ z. IsMildly (entry_at l z x) (entry_at u z x)) (sym near) (subst (λ y. IsMildly y (entry_at u k x)) (sym stood) (subst (IsMildly (entry.Here v)) (sym now-here) o-taught))
      by (inr same) = subst (IsMildly (entry_at l j x)) (sym same) (mildly-same (entry_at l j x))

  -- ---- fields

  lives : is_living (s.ends x).place ≡ true
  lives = here-living (length s.made) l s.ends is.setting.few is.links.named is.links.marked is.stands.links.once x k v stood

  own-fields : (j : Stand) (m : MovingPicture) → HasFields l x j m → (j ≡ At k) × (m ≡ v.value)
  own-fields j m has = fields-here (length s.made) l s.ends is.setting.few is.links.named is.links.marked is.stands.links.once x k v j m stood has

  bare_sent : AllSent (λ n what. values_of what ≡ []) c.packets
  bare_sent = all_sent-weaker (λ n what. IsLiveOf k v hops what) (λ n what. values_of what ≡ []) (λ n what live. live-bare k v hops what live) c.packets learns.sent

  flying-was : (e : EndId) (m : MovingPicture) → HasFields u e Flying m → HasFields l e Flying m
  flying-was e m has = by (under_way-after b (λ z. Contains (values_of z) m) has.0)
    where
      by : IsLeft b (λ z. Contains (values_of z) m) ⊎ IsSent c (λ z. Contains (values_of z) m) → HasFields l e Flying m
      by (inl left) = (left-was b (λ z. Contains (values_of z) m) left, has.1)
      by (inr new) = absurd (none-there m (subst (λ ms. Contains ms m) (sent-each (λ n what. values_of what ≡ []) c.packets new.to new.what bare_sent new.there) new.is))

  fields-now : (j : Stand) (m : MovingPicture) → HasFields u x j m → m ≡ o.value
  fields-now Flying m has = absurd (let differ : Flying ≡ At k = (own-fields Flying m (flying-was x m has)).0 in cc)
  fields-now (At j) m has = by (own-or j)
    where
      near : j ≡ k → m ≡ o.value
      near same = some-same m o.value (sym has ∙ ap value_of (ap (λ z. entry_at u z x) same ∙ now-here))

      by : (j ≡ k) ⊎ (entry_at u j x ≡ entry_at l j x) → m ≡ o.value
      by (inl same) = near same
      by (inr same) = near (ap kernel_of (own-fields (At j) m (ap value_of (sym same) ∙ has)).0)

  fields-other : (e : EndId) → end_eq x e ≡ false → (j : Stand) (m : MovingPicture) → HasFields u e j m → HasSome l e (λ z. IsCounted z m)
  fields-other e apart Flying m has = record { at = Flying; fields = m; are = flying-was e m has; is = refl }
  fields-other e apart (At j) m has =
      let z = steady-value (entry_at l j e) (entry_at u j e) m (steady-other e apart j) has in
      record { at = At j; fields = z.0; are = z.1; is = z.2 }

  -- ---- the hint

  raise : (m : MovingPicture) → m.hint ≡ (learned at hops v.value).hint → (m.hint ≡ v.value.hint) ⊎ IsRaised c x v.value m
  raise m hint = by (learned-hint at hops v.value)
    where
      by : ((is_news v.value hops ≡ true) × ((learned at hops v.value).hint ≡ (at, hops)) × (v.value.hint.1 < hops)) ⊎ ((is_news v.value hops ≡ false) × ((learned at hops v.value).hint ≡ v.value.hint) × (hops ≤ v.value.hint.1)) → (m.hint ≡ v.value.hint) ⊎ IsRaised c x v.value m
      by (inr old) = inl (hint ∙ old.1)
      by (inl new) =
          let told : m.hint ≡ (at, hops) = hint ∙ new.1 in
          let more : v.value.hint.1 < hops = new.2 in
          inr (
            record { from = from; packet = q; taken = refl; is = subst (λ (z : ℕ × ℕ). IsNews x z.0 z.1 q.what) (sym told) news },
            subst (λ (z : ℕ × ℕ). v.value.hint.1 < z.1) (sym told) more,
          )

  hints-own : (j : ℕ) (m z : MovingPicture) → value_of (entry_at l j x) ≡ Some m → value_of (entry_at u j x) ≡ Some z → (z.hint ≡ m.hint) ⊎ IsRaised c x m z
  hints-own j m z had has =
      subst (λ y. (z.hint ≡ y.hint) ⊎ IsRaised c x y z) (sym (own-fields (At j) m had).1) (raise z (ap (λ (y : MovingPicture). y.hint) (fields-now (At j) z has) ∙ o-hint))

  hints-other : (e : EndId) → end_eq x e ≡ false → (j : ℕ) (m z : MovingPicture) → value_of (entry_at l j e) ≡ Some m → value_of (entry_at u j e) ≡ Some z → (z.hint ≡ m.hint) ⊎ IsRaised c e m z
  hints-other e apart j m z had has =
      let y = steady-value (entry_at l j e) (entry_at u j e) z (steady-other e apart j) has in
      inl (ap (λ (a : MovingPicture). a.hint) y.2 ∙ ap (λ (a : MovingPicture). a.hint) (some-same y.0 m (sym y.1 ∙ had)))

  -- an end of which the hint rises is this one
  raised-own : (e : EndId) (m z : MovingPicture) → IsRaised c e m z → (x ≡ e) × (at ≡ z.hint.0) × (hops ≡ z.hint.1)
  raised-own e m z raised = news-same q.what e x z.hint.0 z.hint.1 at hops (is-taken from q refl (IsNews e z.hint.0 z.hint.1) raised.0) news

  -- ---- what is asked of it

  -- a packet that asks an open end whose opposite left a mark was there before
  asking-was : (e : EndId) (d : ℕ) (m : MovingPicture) (n j h : ℕ) → entry_at l d e ≡ entry.Destroyed m → IsUnderWay u (IsAsking (opposite e) n j h) → IsUnderWay l (IsAsking (opposite e) n j h)
  asking-was e d m n j h mark under = by (under_way-or b (IsAsking (opposite e) n j h) under)
    where
      by : IsUnderWay l (IsAsking (opposite e) n j h) ⊎ IsSent c (IsAsking (opposite e) n j h) → IsUnderWay l (IsAsking (opposite e) n j h)
      by (inl was) = was
      by (inr new) =
          let asks : opposite v.value.end ≡ opposite e = live-asks k v hops new.what (opposite e) n j h (sent-each (λ z what. IsLiveOf k v hops what) c.packets new.to new.what learns.sent new.there) new.is in
          let same : x ≡ e = sym its-end ∙ sym (opposite-twice v.value.end) ∙ ap opposite asks ∙ opposite-twice e in
          absurd (true≢false (sym lives ∙ ap is_living (subst (λ z. (s.ends z).place ≡ place.Destroyed) (sym same) ((is.links.marked e).destroyed d m mark))))

  module _ (e : EndId) (d : ℕ) (m : MovingPicture) (mark : entry_at l d e ≡ entry.Destroyed m) (open_is : is_open (s.ends (opposite e)) ≡ true) where
    right : IsMarkRight l s.ends e d m
    right = subst (IsTraceRight l s.ends e d) mark ((traced e).entries d)

    asked-other : end_eq x (opposite e) ≡ false → (z : Stand) (y : MovingPicture) (n j h : ℕ) → HasFields u (opposite e) z y → IsUnserved u (opposite e) y n j h → HasSome l (opposite e) (λ a. IsUnserved l (opposite e) a n j h)
    asked-other apart z y n j h has asks = record { at = old.at; fields = old.fields; are = old.are; is = by asks }
      where
        old : HasSome l (opposite e) (λ a. IsCounted a y)
        old = fields-other (opposite e) apart z y has

        by : IsUnserved u (opposite e) y n j h → IsUnserved l (opposite e) old.fields n j h
        by (inl kept) = inl (sym (ap (λ (a : MovingPicture). a.want) old.is) ∙ kept.0, kept.1, sym (ap (λ (a : MovingPicture). a.hint) old.is) ∙ kept.2)
        by (inr under) = inr (subst (λ a. a < n) (ap (λ (a : MovingPicture). a.served) old.is) under.0, asking-was e d m n j h mark under.1)

    asked-own : x ≡ opposite e → (n j h : ℕ) → IsUnserved u (opposite e) o.value n j h → HasSome l (opposite e) (λ a. IsUnserved l (opposite e) a n j h) ⊎ ((j ≡ d) × (h ≡ m.hops))
    asked-own same n j h asks = by asks
      where
        has : HasFields l (opposite e) (At k) v.value
        has = ap value_of (sym (ap (entry_at l k) same) ∙ stood)

        -- what is told of the end of the mark is no newer than the mark
        heard : IsUnderWay l (IsNews (opposite e) at hops)
        heard = taken-was b (IsNews (opposite e) at hops) (record { from = from; packet = q; taken = refl; is = subst (λ z. IsNews z at hops q.what) same news })

        no_newer : hops ≤ m.hops
        no_newer = (is.links.honest e (At d) m at hops (ap value_of mark) (inr heard)).0

        was : IsUnserved l (opposite e) v.value n j h → HasSome l (opposite e) (λ a. IsUnserved l (opposite e) a n j h) ⊎ ((j ≡ d) × (h ≡ m.hops))
        was before = inl (record { at = At k; fields = v.value; are = has; is = before })

        hint_is : o.value.hint ≡ (j, h) → (learned at hops v.value).hint ≡ (j, h)
        hint_is kept = sym o-hint ∙ kept

        -- a want that was kept is kept still: its hint is that of the mark, which nothing is newer than
        kept_so : v.value.want ≡ n → 0 < n → o.value.hint ≡ (j, h) → HasSome l (opposite e) (λ a. IsUnserved l (opposite e) a n j h) ⊎ ((j ≡ d) × (h ≡ m.hops))
        kept_so want some kept = which (learned-hint at hops v.value)
          where
            which : ((is_news v.value hops ≡ true) × ((learned at hops v.value).hint ≡ (at, hops)) × (v.value.hint.1 < hops)) ⊎ ((is_news v.value hops ≡ false) × ((learned at hops v.value).hint ≡ v.value.hint) × (hops ≤ v.value.hint.1))
                → HasSome l (opposite e) (λ a. IsUnserved l (opposite e) a n j h) ⊎ ((j ≡ d) × (h ≡ m.hops))
            which (inr old) = was (inl (want, some, sym old.1 ∙ hint_is kept))
            which (inl new) =
                let site : v.value.hint.1 ≡ m.hops = (right.asked (At k) v.value n v.value.hint.0 v.value.hint.1 open_is has (inl (want, some, refl))).1 in
                let more : v.value.hint.1 < hops = new.2 in
                let least : hops ≤ m.hops = no_newer in
                absurd (omega (arith, site, more, least))

        -- one that is asked for now is asked for from the mark
        asked_so : v.value.served < n → IsUnderWay l (IsAsking x n at hops) → o.value.hint ≡ (j, h) → HasSome l (opposite e) (λ a. IsUnserved l (opposite e) a n j h) ⊎ ((j ≡ d) × (h ≡ m.hops))
        asked_so low under kept = which (learned-hint at hops v.value)
          where
            asks_there : IsUnderWay l (IsAsking (opposite e) n at hops)
            asks_there = subst (λ z. IsUnderWay l (IsAsking z n at hops)) same under

            which : ((is_news v.value hops ≡ true) × ((learned at hops v.value).hint ≡ (at, hops)) × (v.value.hint.1 < hops)) ⊎ ((is_news v.value hops ≡ false) × ((learned at hops v.value).hint ≡ v.value.hint) × (hops ≤ v.value.hint.1))
                → HasSome l (opposite e) (λ a. IsUnserved l (opposite e) a n j h) ⊎ ((j ≡ d) × (h ≡ m.hops))
            which (inl new) = was (inr (low, subst (λ (z : ℕ × ℕ). IsUnderWay l (IsAsking (opposite e) n z.0 z.1)) (sym new.1 ∙ hint_is kept) asks_there))
            which (inr old) =
                let hint : v.value.hint ≡ (j, h) = sym old.1 ∙ hint_is kept in
                let hint_hops : v.value.hint.1 ≡ h = ap (λ (z : ℕ × ℕ). z.1) hint in
                let honest = is.links.honest e (At d) m j h (ap value_of mark) (inl (record { stand = At k; fields = v.value; are = has; hint = hint })) in
                let most : h ≤ m.hops = honest.0 in
                let site : hops ≡ m.hops = (right.asked (At k) v.value n at hops open_is has (inr (low, asks_there))).1 in
                let least : hops ≤ v.value.hint.1 = old.2 in
                let as_many : h ≡ m.hops = omega (arith, hint_hops, most, site, least) in
                inr (honest.1 as_many, as_many)

        by : IsUnserved u (opposite e) o.value n j h → HasSome l (opposite e) (λ a. IsUnserved l (opposite e) a n j h) ⊎ ((j ≡ d) × (h ≡ m.hops))
        by (inr under) =
            let rises : v.value.served ≤ learns.view.value.served = learns.served in
            let served : o.value.served ≡ learns.view.value.served = ap (λ (z : MovingPicture). z.served) own.2 in
            let low : o.value.served < n = under.0 in
            was (inr (omega (arith, rises, served, low), asking-was e d m n j h mark under.1))
        by (inl kept) = wants (learns.wanted n (sym (ap (λ (z : MovingPicture). z.want) own.2) ∙ kept.0) kept.1)
          where
            wants : (v.value.want ≡ n) ⊎ ((v.value.served < n) × IsUnderWay l (IsAsking x n at hops)) → HasSome l (opposite e) (λ a. IsUnserved l (opposite e) a n j h) ⊎ ((j ≡ d) × (h ≡ m.hops))
            wants (inl want) = kept_so want kept.1 kept.2
            wants (inr asks) = asked_so asks.0 asks.1 kept.2

    is-asked : (z : Stand) (y : MovingPicture) (n j h : ℕ) → HasFields u (opposite e) z y → IsUnserved u (opposite e) y n j h → HasSome l (opposite e) (λ a. IsUnserved l (opposite e) a n j h) ⊎ ((j ≡ d) × (h ≡ m.hops))
    is-asked z y n j h has asks = by (end_eq x (opposite e)) refl
      where
        by : (a : Bool) → end_eq x (opposite e) ≡ a → HasSome l (opposite e) (λ a. IsUnserved l (opposite e) a n j h) ⊎ ((j ≡ d) × (h ≡ m.hops))
        by false apart = inl (asked-other apart z y n j h has asks)
        by true same =
            let its : x ≡ opposite e = end_eq-same x (opposite e) same in
            asked-own its n j h (subst (λ a. IsUnserved u (opposite e) a n j h) (fields-now z y (subst (λ a. HasFields u a z y) (sym its) has)) asks)

  -- ---- what it tells

  is-known : (e : EndId) (h : ℕ) (z : Stand) (m : MovingPicture) → IsSent c (IsKnownOf e h) → HasFields u (opposite e) z m → h ≤ m.hint.1
  is-known e h z m new has =
      let told = live-known k v hops new.what e h (sent-each (λ n what. IsLiveOf k v hops what) c.packets new.to new.what learns.sent new.there) new.is in
      let same : opposite e ≡ x = ap opposite (sym told.0) ∙ opposite-twice v.value.end ∙ its-end in
      let hint : m.hint ≡ (learned at hops v.value).hint = ap (λ (y : MovingPicture). y.hint) (fields-now z m (subst (λ a. HasFields u a z m) same has)) ∙ o-hint in
      by (learned-hint at hops v.value) (ap (λ (y : ℕ × ℕ). y.1) hint) told.1
    where
      by : ((is_news v.value hops ≡ true) × ((learned at hops v.value).hint ≡ (at, hops)) × (v.value.hint.1 < hops)) ⊎ ((is_news v.value hops ≡ false) × ((learned at hops v.value).hint ≡ v.value.hint) × (hops ≤ v.value.hint.1)) → m.hint.1 ≡ (learned at hops v.value).hint.1 → hops ≡ h → h ≤ m.hint.1
      by (inl new) hint same = let told : (learned at hops v.value).hint.1 ≡ hops = ap (λ (y : ℕ × ℕ). y.1) new.1 in omega (arith, hint, same, told)
      by (inr old) hint same =
          let told : (learned at hops v.value).hint.1 ≡ v.value.hint.1 = ap (λ (y : ℕ × ℕ). y.1) old.1 in
          let least : hops ≤ v.value.hint.1 = old.2 in
          omega (arith, hint, same, told, least)

  is-announced : (e : EndId) (j : ℕ) (a z : HereView) → entry_at l j e ≡ entry.Here a → entry_at u j e ≡ entry.Here z → IsRaised c e a.value z.value → (z.value.trail ≡ 0 → ⊥) → Contains c.packets (z.value.hint.0, packet.Moved (opposite e) j z.value.hops)
  is-announced e j a z was stays raised some =
      subst (λ (y : ℕ × PictureWhat). Contains c.packets y) (λ r. (its.1 r, packet.Moved (opposite (its.0 r)) (site r) (same_hops r)))
      (learns.resent (lt-ltb v.value.hint.1 hops (subst (λ n. v.value.hint.1 < n) (sym its.2) (subst (λ (y : MovingPicture). y.hint.1 < z.value.hint.1) a_is raised.1))) (λ none. some (ap (λ (y : MovingPicture). y.trail) (z_is ∙ o-taught) ∙ none)))
    where
      its : (x ≡ e) × (at ≡ z.value.hint.0) × (hops ≡ z.value.hint.1)
      its = raised-own e a.value z.value raised

      a_is : a.value ≡ v.value
      a_is = (own-fields (At j) a.value (ap value_of (ap (entry_at l j) its.0 ∙ was))).1

      z_is : z.value ≡ o.value
      z_is = fields-now (At j) z.value (ap value_of (ap (entry_at u j) its.0 ∙ stays))

      site : k ≡ j
      site = sym (ap kernel_of (own-fields (At j) a.value (ap value_of (ap (entry_at l j) its.0 ∙ was))).0)

      same_hops : v.value.hops ≡ z.value.hops
      same_hops = sym (ap (λ (y : MovingPicture). y.hops) (z_is ∙ o-taught))

  hears : IsHearing l u c s.ends
  hears =
      record {
        entries = is-mildly;
        hints = λ j e. each-end (λ y. (m z : MovingPicture) → value_of (entry_at l j y) ≡ Some m → value_of (entry_at u j y) ≡ Some z → (z.hint ≡ m.hint) ⊎ IsRaised c y m z) (hints-own j) (λ y apart. hints-other y apart j) e;
        tells = tells;
        bare = bare;
        sent_bare = bare_sent;
        sent = all_sent-weaker (λ n what. IsLiveOf k v hops what) (λ n what. IsTrueNews l what) (λ n what live. live-true l k v hops here what live) c.packets learns.sent;
        known = is-known;
        gone = λ e d j m was new. absurd (live-gone k v hops new.what (opposite e) j (sent-each (λ n what. IsLiveOf k v hops what) c.packets new.to new.what learns.sent new.there) new.is);
        asked = λ e d m z y n j h mark open_is has asks. is-asked e d m mark open_is z y n j h has asks;
        announced = is-announced;
        mourned = λ e d m z was stays raised.
            absurd
            (true≢false
            (sym lives ∙ ap is_living (subst (λ y. (s.ends y).place ≡ place.Destroyed) (sym (raised-own e m z raised).0) ((is.links.marked e).destroyed d m was))));
        moved = λ e j a was living taken chain.
            going-sent b j (packet.Known e a.value.hops) (IsKnownOf e a.value.hops) (learns.answered e j a.value.hops (is-taken from q refl (IsMovedTo (opposite e) j a.value.hops) taken)) (refl, refl);
      }

  -- so all that is true of traces stays
  pub learned-traced : AreTraced u now
  learned-traced =
      hearing-traced b s.ends now hears as_open
      (λ j e a at_here. here-living (length s.made) l s.ends is.setting.few is.links.named is.links.marked is.stands.links.once e j a at_here) is.service.noticed.opposite traced
