-- MATCH: an open end counts what is asked of it as served, and the message of its send leaves with its ends. All clauses on links stay,
-- with the send and the receive matched in the service.
use Rattle.std.proofs.Common.{◌≡◌, ◌⊎◌, inl, inr, ℕ, ◌+◌, ◌-◌, ◌^◌, ◌<◌, ◌≤◌, Bool, true, false, nat_eq, ◌||◌, if◌then◌else◌, List, [], ◌∷◌, length, Contains, None, refl, sym, ap, subst, ◌∙◌, arith}
use Rattle.std.proofs.Math.Nat.{min-le_left}
use Rattle.std.specs.List.{list_any}
use Rattle.charlotte_calls.specs.Names.{opposite}
use Rattle.charlotte_calls.specs.declared.calls.ServiceStep.TheVariants as step
use Rattle.charlotte_calls.specs.declared.names.EndId.{EndId}
use Rattle.charlotte_calls.specs.declared.names.Pid.{Pid}
use Rattle.charlotte_packets.specs.declared.picture.MovingPicture.{MovingPicture}
use Rattle.charlotte_packets.specs.declared.picture.PictureWhat.{PictureWhat}
use Rattle.charlotte_packets.specs.declared.picture.PictureWhat.TheVariants as packet
use Rattle.end_table.proofs.EndEq.{end_eq-refl, end_eq-same}
use Rattle.end_table.specs.Entries.{gains_one, left_value}
use Rattle.end_table.specs.Place.{end_eq}
use Rattle.end_table.specs.Table.{IfHere, IsHereAnd, IsIdle, IsOfEnd}
use Rattle.end_table.specs.declared.entry.Entry.{Entry}
use Rattle.end_table.specs.declared.entry.Entry.TheVariants as entry
use Rattle.end_table.specs.declared.entry.HereView.{HereView}
use Rattle.end_table.specs.declared.entry.Holder.TheVariants as holder
use Rattle.end_table.specs.declared.entry.Outward.TheVariants as kernel_outward
use Rattle.kernel_effects.specs.Actions.{left_of}
use Rattle.kernel_effects.specs.Effect.{puts, stays, turns}
use Rattle.kernel_sound.specs.Sound.{AreHeldBy, IsHeldWell}
use Rattle.kernel_step.proofs.EnclosedEnds.{first_false, second_false, values_leaving-others}
use Rattle.kernel_step.specs.Actions.{values_leaving}
use Rattle.service_lawful.specs.Consistent.{IsConsistent, is_open}
use Rattle.service_step.specs.Ends.{is_made, matches}
use Rattle.service_step.specs.State.{State}
use Rattle.service_step.specs.Steps.{IsServiceStep}
use Rattle.service_step.specs.declared.state.Place.{Place}
use Rattle.service_step.specs.declared.state.Place.TheVariants as place
use Rattle.theorem_call_send.specs.Change.{Change, Changes}
use Rattle.theorem_meaning.proofs.Ends.{opposite-apart}
use Rattle.theorem_meaning.specs.Fields.{Stand, At, Flying, HasFields, IsAskedAs, IsUnserved, value_of}
use Rattle.theorem_meaning.specs.Invariant.{AreRight}
use Rattle.theorem_meaning.specs.Packets.{Links}
use Rattle.theorem_meaning.specs.StandsFor.{AreLinksOf, entry_at}
use Rattle.theorem_take_want.proofs.Places.{fields-here, here-living}
use Rattle.theorem_take_want.specs.Anew.{IsAnew, IsLike}
use Rattle.theorem_take_want.proofs.Anew.{fields-was}
use Rattle.theorem_take_want.proofs.Asked.{had, opened}
use Rattle.theorem_take_want.proofs.Cleared.{clearing, links-cleared, none-asked, right-cleared}
use Rattle.theorem_take_want.proofs.Matching.{matched-step, meets, message-waits, number, receives, sender}
use Rattle.theorem_take_want.proofs.Parts.{between, first-part, last-part}
use Rattle.theorem_take_want.proofs.Void.{voided}
use Rattle.theorem_meaning.proofs.Plain.{there-here}
use Rattle.theorem_match.specs.Carrying.{IsAway}
use Rattle.theorem_match.specs.Matching.{IsMatching, matching, served_view}
use Rattle.theorem_match.specs.Sending.{IsSending, departing, sent_view}
use Rattle.theorem_match.proofs.Carrying.{fields-was as left-was}
use Rattle.theorem_match.proofs.Sending.{carries, entry-or}
use Rattle.theorem_match.proofs.SentLinks.{links-sent}
use Rattle.theorem_match.proofs.SentRight.{right-sent}

-- ends that are held in one table are held in another that has the same of them
held-same : (e : EndId) (t y : EndId → Entry) (xs : List EndId) → ((x : EndId) → end_eq e x ≡ false → y x ≡ t x) → list_any (end_eq e) xs ≡ false → AreHeldBy e t xs → AreHeldBy e y xs
held-same e t y [] same none held = tt
held-same e t y (x ∷ xs) same none held = (
  subst (λ z. IsHereAnd z (λ v. IsIdle v × (v.holder ≡ holder.EnclosedIn e))) (sym (same x (first_false _ _ none))) held.0,
  held.1,
  held-same e t y xs same (second_false _ _ none) held.2,
)

-- an end whose send waits is none that its message carries
none-own : (e : EndId) (t : EndId → Entry) (xs : List EndId) → (IsHereAnd (t e) IsIdle → ⊥) → AreHeldBy e t xs → list_any (end_eq e) xs ≡ false
none-own e t [] busy held = refl
none-own e t (x ∷ xs) busy held = by (end_eq e x) refl (none-own e t xs busy held.2)
  where
    weaker : (y : Entry) → IsHereAnd y (λ v. IsIdle v × (v.holder ≡ holder.EnclosedIn e)) → IsHereAnd y IsIdle
    weaker (entry.Here v) is = is.0
    weaker _ is = absurd is

    by : (b : Bool) → end_eq e x ≡ b → list_any (end_eq e) xs ≡ false → (b || list_any (end_eq e) xs) ≡ false
    by true same rest = absurd (busy (subst (λ z. IsHereAnd (t z) IsIdle) (sym (end_eq-same e x same)) (weaker (t x) held.0)))
    by false apart rest = rest

away-own : (e : EndId) (x : Entry) → IsAway x → IsOfEnd e x
away-own e entry.Nothing away = tt
away-own e (entry.Left to hops) away = tt
away-own e _ away = absurd away

module _ (i : ℕ) (w : Links) (s : State) (right : AreRight i w s) (links : AreLinksOf w s) (kept : IsConsistent s) (few : length s.made ≤ 8) (held : (j : ℕ) (e : EndId) → IfHere (entry_at w j e) (λ x. IsHeldWell (length s.homes) x x.holder))
    (c : Change) (v : HereView) (r j h n : ℕ) (bytes : List ℕ) (xs : List EndId) (to : ℕ) (is : IsMatching w s c.kernel v r j h n bytes xs to) where
  abbrev k : ℕ
  k = c.kernel

  abbrev mine : EndId
  mine = v.value.end

  abbrev other : EndId
  other = opposite v.value.end

  -- ---- the end and its opposite before

  open-here : is_open (s.ends mine) ≡ true
  open-here = opened i w s right links kept few k v is.here is.alive

  had-here : HasFields w mine (At k) v.value
  had-here = had i w s right links kept few k v is.here

  low : v.value.served < r
  low = by is.asked ((right.wanted mine).kept (At k) v.value open-here had-here)
    where
      by : IsUnserved w mine v.value r j h → (v.value.want ≡ 0) ⊎ (v.value.served < v.value.want) → v.value.served < r
      by (inl asks) (inl none) = let want = asks.0 in let some = asks.1 in absurd (omega (arith, none, want, some))
      by (inl asks) (inr less) = let want = asks.0 in omega (arith, less, want)
      by (inr asks) more = asks.0

  one-asked : (q i g : ℕ) → IsUnserved w mine v.value q i g → q ≡ r
  one-asked q a g asks = (right.wanted mine).same (At k) v.value r j h q a g open-here had-here is.asked asks

  owner : (p : Pid) × ((s.ends mine).place ≡ place.Owned p)
  owner = sender i w s right links kept few held k v is.here is.alive r j h is.asked n bytes xs is.waits

  made : is_made (s.ends other).place ≡ true
  made = kept.kept.made other ∙ sym (kept.kept.made mine) ∙ ap (λ (z : Place). is_made z) owner.1

  other-last : (a q : ℕ) (x : HereView) → entry_at w a other ≡ entry.Here x → IsAskedAs q x.inward → q ≡ r
  other-last a q x there asks =
      let living = here-living (length s.made) w s.ends few right.named right.marked links.once other a x there in
      let y = there-here (entry_at w j other) (λ x. (x.value.hops ≡ h) × (x.value.asked ≡ r)) ((right.wanted mine).site (At k) v.value r j h open-here had-here is.asked living) in
      let f = fields-here (length s.made) w s.ends few right.named right.marked links.once other j y.0 (At a) x.value y.1 (ap value_of there) in
      (right.asked other).last a x q there asks ∙ ap (λ (z : MovingPicture). z.asked) f.1 ∙ y.2.1

  busy : IsHereAnd (entry_at w k mine) IsIdle → ⊥
  busy idle =
      let so = subst (λ z. IsHereAnd z IsIdle) is.here idle in
      let no : kernel_outward.Idle ≡ kernel_outward.Waiting n bytes xs = sym so.outward ∙ is.waits in
      cc

  apart : list_any (end_eq mine) xs ≡ false
  apart = none-own mine (w.entry k) xs busy is.enclosed

  -- the service may match
  pub step-matched : IsServiceStep s (step.Match mine n) (record s { ends = matches mine n s.ends })
  step-matched = matched-step i w s right links kept few held k v is.here is.alive r j h is.asked n bytes xs is.waits

  -- ---- in two parts

  module _ (u : Links) (b : Changes w (matching c (w.entry c.kernel) v r n bytes xs to) u) where
    abbrev cleared : HereView
    cleared = record v { value = voided r v }

    abbrev f : EndId → Entry → Entry
    f = puts mine (entry.Here cleared) stays

    abbrev g : EndId → Entry → Entry
    g = puts mine (entry.Here (sent_view cleared n)) (turns xs (left_of to) stays)

    abbrev qs : List (ℕ × PictureWhat)
    qs = (to, packet.Parcel other n r k v.value.hops bytes (values_leaving k (w.entry k) xs)) ∷ []

    entries : (e : EndId) → (matching c (w.entry c.kernel) v r n bytes xs to).entry e (w.entry k e) ≡ g e (f e (w.entry k e))
    entries e = by (end_eq mine e)
      where
        by : (x : Bool) → (if x then entry.Here (served_view v r n) else turns xs (left_of to) stays e (w.entry k e)) ≡ (if x then entry.Here (sent_view cleared n) else turns xs (left_of to) stays e (if x then entry.Here cleared else w.entry k e))
        by true = refl
        by false = refl

    abbrev half : Links
    half = between b f g [] qs entries refl

    first-half : Changes w (clearing c v r) half
    first-half = first-part b f g [] qs entries refl

    -- ---- what is asked counts as served

    right-half : AreRight i half s
    right-half = right-cleared i w half s right links few c v is.here open-here r low is.kernel made one-asked first-half

    links-half : AreLinksOf half s
    links-half = links-cleared i w half s right links few c v is.here open-here r low is.kernel made one-asked first-half

    half-own : entry_at half k mine ≡ entry.Here cleared
    half-own = first-half.entry mine ∙ ap (λ x. if x then entry.Here cleared else w.entry k mine) (end_eq-refl mine)

    half-other : (a : ℕ) (e : EndId) → end_eq mine e ≡ false → entry_at half a e ≡ entry_at w a e
    half-other a e far = by (nat_eq a k)
      where
        by : (x : Bool) → (if x then (if end_eq mine e then entry.Here cleared else w.entry a e) else w.entry a e) ≡ w.entry a e
        by true = ap (λ x. if x then entry.Here cleared else w.entry a e) far
        by false = refl

    half-of : (e : EndId) → IsOfEnd e (entry_at half k e)
    half-of e = by (end_eq mine e) refl
      where
        by : (x : Bool) → end_eq mine e ≡ x → IsOfEnd e (entry_at half k e)
        by true same = subst (λ z. IsOfEnd z (entry_at half k z)) (end_eq-same mine e same) (subst (IsOfEnd mine) (sym half-own) refl)
        by false far = subst (IsOfEnd e) (sym (half-other k e far)) (is.own e)

    values-same : values_leaving k (half.entry k) xs ≡ values_leaving k (w.entry k) xs
    values-same = values_leaving-others k (w.entry k) (half.entry k) mine xs (half-other k) apart

    -- ---- and the message leaves

    last-half : Changes half (departing c (half.entry c.kernel) cleared r n bytes xs to) u
    last-half =
        subst (λ ms. Changes half (record c { taken = None; entry = g; packets = (to, packet.Parcel other n r k v.value.hops bytes ms) ∷ [] }) u) (sym values-same) (last-part b f g [] qs entries refl)

    sending : IsSending half s k cleared r n bytes xs to
    sending =
        record {
          kernel = is.kernel;
          goes = is.goes;
          here = half-own;
          waits = is.waits;
          message = message-waits i w s right links kept few held k v is.here is.alive r j h is.asked n bytes xs is.waits;
          number = number i w s right links kept few held k v is.here is.alive r j h is.asked n bytes xs is.waits;
          owner = owner.0;
          owned = owner.1;
          own = half-of;
          enclosed = held-same mine (w.entry k) (half.entry k) xs (half-other k) apart is.enclosed;
          served = omega arith;
          none = none-asked i w half s right links few c v is.here open-here r low is.kernel made one-asked first-half;
          made = made;
          posted = receives i w s right links kept few held k v is.here is.alive r j h is.asked;
          last = λ a q x there asks. other-last a q x (sym (half-other a other (opposite-apart mine)) ∙ there) asks;
          meets = λ living.
              subst (λ z. IsHereAnd z (λ x. IsAskedAs r x.inward)) (sym (half-other to other (opposite-apart mine)))
              (subst (λ z. IsHereAnd (entry_at w z other) (λ x. IsAskedAs r x.inward)) (sym (is.site living)) (meets i w s right links kept few held k v is.here is.alive r j h is.asked living));
        }

    pub right-matched : i < 2 ^ 32 - 1 → AreRight (i + 1) u (record s { ends = matches mine n s.ends })
    right-matched = right-sent i half s right-half links-half kept few c cleared r n bytes xs to sending u last-half

    pub links-matched : AreLinksOf u (record s { ends = matches mine n s.ends })
    links-matched = links-sent i half s right-half links-half kept few c cleared r n bytes xs to sending u last-half

    -- of the counts of an end, that of hops alone may be one more than it was
    pub fields-matched : (e : EndId) (at : Stand) (m : MovingPicture) → HasFields u e at m → (o : MovingPicture) × (st : Stand) × HasFields w e st o × (m.hops ≤ o.hops + 1) × (m.sent ≡ o.sent) × (m.asked ≡ o.asked)
    fields-matched e at m has =
        let x = left-was s (carries i half s right-half links-half kept few c cleared r n bytes xs to sending u last-half) s.ends (λ q. refl) e at m has in
        let y = fields-was first-half anew e x.1 x.0 x.2 in
        (y.0, x.1, y.1, count x.0 y.0 y.2 x.4, ap (λ (z : MovingPicture). z.sent) x.3 ∙ ap (λ (z : MovingPicture). z.sent) y.2, ap (λ (z : MovingPicture). z.asked) x.3 ∙ ap (λ (z : MovingPicture). z.asked) y.2)
      where
        anew : IsAnew (length s.made) w s (clearing c v r) s.ends v (voided r v)
        anew = record { kernel = is.kernel; taken = refl; sent = tt; put = λ e. refl; here = is.here; like = refl; opened = open-here; ends = λ q. refl }

        count : (x y : MovingPicture) → IsLike y x → {st : Stand} → ((st ≡ at) × (m ≡ x)) ⊎ (Contains xs e × (at ≡ Flying) × (m ≡ left_value k x)) → m.hops ≤ y.hops + 1
        count x y like (inl same) = let hops : m.hops ≡ y.hops = ap (λ (z : MovingPicture). z.hops) same.1 ∙ ap (λ (z : MovingPicture). z.hops) like in omega (arith, hops)
        count x y like (inr left) =
            let hops : m.hops ≡ gains_one x.hops = ap (λ (z : MovingPicture). z.hops) left.2 in
            let most : gains_one x.hops ≤ x.hops + 1 = min-le_left (x.hops + 1) (2 ^ 32 - 1) in
            let same : x.hops ≡ y.hops = ap (λ (z : MovingPicture). z.hops) like in
            omega (arith, hops, most, same)

    -- ---- entries afterwards

    pub now-own : entry_at u k mine ≡ entry.Here (served_view v r n)
    now-own = b.entry mine ∙ ap (λ x. if x then entry.Here (served_view v r n) else turns xs (left_of to) stays mine (w.entry k mine)) (end_eq-refl mine)

    pub now-of : (e : EndId) → IsOfEnd e (entry_at u k e)
    now-of e = by (entry-or i half s right-half links-half kept few c cleared r n bytes xs to sending u last-half k e)
      where
        by : (entry_at u k e ≡ entry_at half k e) ⊎ (Contains xs e × IsAway (entry_at u k e) × (k ≡ k)) ⊎ ((e ≡ mine) × (k ≡ k) × (entry_at u k e ≡ entry.Here (sent_view cleared n))) → IsOfEnd e (entry_at u k e)
        by (inl same) = subst (IsOfEnd e) (sym same) (half-of e)
        by (inr (inl away)) = away-own e (entry_at u k e) away.1
        by (inr (inr own)) = subst (IsOfEnd e) (sym own.2) (sym own.0)
