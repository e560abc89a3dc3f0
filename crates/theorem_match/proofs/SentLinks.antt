-- The message of a send that is matched leaves with its ends: links stand for the service, of which the send and the receive are matched.
use Rattle.std.proofs.Common.{◌≡◌, ◌⊎◌, ◌↔◌, inl, inr, ℕ, ◌+◌, ◌≤◌, Bool, true, false, if◌then◌else◌, List, [], length, Contains, Some, refl, sym, ap, subst, ◌∙◌, arith, true≢false}
use Rattle.std.specs.List.{list_any}
use Rattle.charlotte_calls.specs.Names.{opposite}
use Rattle.charlotte_calls.specs.declared.names.EndId.{EndId}
use Rattle.charlotte_calls.specs.declared.names.Pid.{Pid}
use Rattle.charlotte_packets.specs.declared.picture.MovingPicture.{MovingPicture}
use Rattle.charlotte_packets.specs.declared.picture.PictureWhat.{PictureWhat}
use Rattle.end_table.proofs.EndEq.{end_eq-refl, end_eq-same}
use Rattle.end_table.specs.Place.{end_eq}
use Rattle.end_table.specs.Table.{IsHereAnd, IsIdle}
use Rattle.end_table.specs.declared.entry.Entry.{Entry}
use Rattle.end_table.specs.declared.entry.Entry.TheVariants as entry
use Rattle.end_table.specs.declared.entry.HereView.{HereView}
use Rattle.end_table.specs.declared.entry.Holder.TheVariants as holder
use Rattle.end_table.specs.declared.entry.Inward.{Inward as KernelInward}
use Rattle.end_table.specs.declared.entry.Inward.TheVariants as kernel_inward
use Rattle.end_table.specs.declared.entry.Outward.TheVariants as kernel_outward
use Rattle.kernel_effects.specs.Actions.{left_of}
use Rattle.kernel_effects.specs.Effect.{puts, stays, turns}
use Rattle.kernel_outcomes.proofs.Sound.{AreDifferent-held}
use Rattle.kernel_step.proofs.Folds.{AreDifferent}
use Rattle.kernel_step.specs.Actions.{values_leaving}
use Rattle.kernel_step.specs.Rows.{ends_in, is_here}
use Rattle.service_lawful.specs.Consistent.{IsConsistent}
use Rattle.service_step.specs.Ends.{is_living, is_taken}
use Rattle.service_step.specs.Lawful.{IsCarried, IsHeldAt, message_of}
use Rattle.service_step.specs.State.{State}
use Rattle.service_step.specs.declared.state.End.{End}
use Rattle.service_step.specs.declared.state.Inward.TheVariants as inward
use Rattle.service_step.specs.declared.state.Message.{Message}
use Rattle.service_step.specs.declared.state.Outward.{Outward}
use Rattle.service_step.specs.declared.state.Place.{Place}
use Rattle.service_step.specs.declared.state.Place.TheVariants as place
use Rattle.theorem_call_send.proofs.Aside.{not_among}
use Rattle.theorem_call_send.proofs.Ends.{inward-same, outward-same}
use Rattle.theorem_call_send.proofs.Lists.{first}
use Rattle.theorem_call_send.proofs.Packets.{under_way-sent}
use Rattle.theorem_call_send.proofs.Sums.{standing-after}
use Rattle.theorem_call_send.specs.Change.{Change, Changes}
use Rattle.theorem_meaning.proofs.Ends.{opposite-twice}
use Rattle.theorem_meaning.proofs.Plain.{taken-passes}
use Rattle.theorem_meaning.specs.Fields.{IsAskedAs}
use Rattle.theorem_meaning.specs.Invariant.{AreRight, is_taken_of}
use Rattle.theorem_meaning.specs.Packets.{IsBackOf, IsParcelFor, IsParcelOf, IsTakenOf, IsUnderWay, IsUnwantedOf, Links, how_many, one_if, values_for, values_of}
use Rattle.theorem_meaning.specs.StandsFor.{AreLinksOf, IsEndOf, IsInMessage, IsInwardOf, IsOutwardOf, IsWaitingWith, entry_at, home_of, standing}
use Rattle.theorem_match.specs.Carrying.{IsAway, IsCarrying}
use Rattle.theorem_match.specs.Sending.{IsSending, departing, sent_view}
use Rattle.theorem_match.proofs.Carrying.{away-here, end-carried, idle-view, owned-carried, place-same, seen, still, was}
use Rattle.theorem_match.proofs.Sending.{carried, carried-away, carried-resting, carried-view, carries, entry-or, inward-kept, one-view, outward-kept, packet-or, packet-still, packet-was, parcel, t, t-ends, t-other, t-own}
use Rattle.theorem_match.proofs.Values.{any-there, leaving-ends, none-counted, values-once}

away-not_here : (x : Entry) → IsAway x → is_here x ≡ false
away-not_here entry.Nothing away = refl
away-not_here (entry.Left to hops) away = refl
away-not_here _ away = absurd away

waiting-busy : (m : ℕ) (v : HereView) → IsIdle v → IsWaitingWith m v.outward → ⊥
waiting-busy m v idle waits = subst (IsWaitingWith m) idle.outward waits

module _ (i : ℕ) (w : Links) (s : State) (right : AreRight i w s) (links : AreLinksOf w s) (kept : IsConsistent s) (few : length s.made ≤ 8) (c : Change) (v : HereView) (r n : ℕ) (bytes : List ℕ) (xs : List EndId) (to : ℕ) (is : IsSending w s c.kernel v r n bytes xs to)
    (u : Links) (b : Changes w (departing c (w.entry c.kernel) v r n bytes xs to) u) where
  abbrev k : ℕ
  k = c.kernel

  abbrev mine : EndId
  mine = v.value.end

  abbrev other : EndId
  other = opposite v.value.end

  abbrev ms : List MovingPicture
  ms = values_leaving k (w.entry k) xs

  abbrev message : Message
  message = record { bytes = bytes; carried = xs }

  abbrev its : PictureWhat
  its = parcel i w s right links kept few c v r n bytes xs to is

  abbrev ends : EndId → End
  ends = t i w s right links kept few c v r n bytes xs to is

  same-ends : (q : EndId) → ends q ≡ record (s.ends q) { outward = (ends q).outward; inward = (ends q).inward }
  same-ends = t-ends i w s right links kept few c v r n bytes xs to is

  carrying : IsCarrying w u s.ends k xs mine
  carrying = carries i w s right links kept few c v r n bytes xs to is u b

  same-place : (q : EndId) → (ends q).place ≡ (s.ends q).place
  same-place = place-same s carrying ends same-ends

  in-it : (e : EndId) → Contains xs e → (s.ends e).place ≡ place.InMessage mine n
  in-it = carried i w s right links kept few c v r n bytes xs to is

  resting : (j : ℕ) (e : EndId) (P : HereView → Type 0) → ((v : HereView) → IsIdle v → P v → ⊥) → Contains xs e → IsHereAnd (entry_at w j e) P → ⊥
  resting j e P none among = idle-view (entry_at w j e) P none (carried-resting i w s right links kept few c v r n bytes xs to is j e among)

  entries : (j : ℕ) (e : EndId) → (entry_at u j e ≡ entry_at w j e) ⊎ (Contains xs e × IsAway (entry_at u j e) × (j ≡ k)) ⊎ ((e ≡ mine) × (j ≡ k) × (entry_at u j e ≡ entry.Here (sent_view v n)))
  entries = entry-or i w s right links kept few c v r n bytes xs to is u b

  was-under : (P : PictureWhat → Type 0) → (P its → ⊥) → IsUnderWay u P → IsUnderWay w P
  was-under = packet-was i w s right links kept few c v r n bytes xs to is u b

  still-under : (P : PictureWhat → Type 0) → IsUnderWay w P → IsUnderWay u P
  still-under = packet-still i w s right links kept few c v r n bytes xs to is u b

  same-under : (P : PictureWhat → Type 0) → (P its → ⊥) → IsUnderWay u P ↔ IsUnderWay w P
  same-under P none = (was-under P none, still-under P)

  brought : ends_in ms ≡ xs
  brought = leaving-ends mine (w.entry k) k is.own xs is.enclosed

  -- ---- where ends are

  stands : (e : EndId) → standing u e ≡ standing w e
  stands e = by (list_any (end_eq e) xs) refl
    where
      count : standing u e + (one_if (is_here (w.entry k e)) + 0) ≡ standing w e + (one_if (is_here (u.entry k e)) + (one_if (list_any (end_eq e) xs) + 0))
      count =
          subst (λ x. standing u e + (one_if (is_here (w.entry k e)) + 0) ≡ standing w e + (one_if (is_here x) + (one_if (list_any (end_eq e) xs) + 0))) (sym (b.entry e))
          (subst (λ x. standing u e + (one_if (is_here (w.entry k e)) + 0) ≡ standing w e + (one_if (is_here (puts mine (entry.Here (sent_view v n)) (turns xs (left_of to) stays) e (w.entry k e))) + (x + 0))) values
          (standing-after b (record { kernel = omega (arith, is.kernel, few); taken = tt; sent = (omega (arith, is.goes, few), tt) }) e))
        where
          values : values_for e ms ≡ one_if (list_any (end_eq e) xs)
          values = values-once e ms (subst AreDifferent (sym brought) (AreDifferent-held mine (w.entry k) xs is.enclosed)) ∙ ap (λ l. one_if (list_any (end_eq e) l)) brought

      by : (x : Bool) → list_any (end_eq e) xs ≡ x → standing u e ≡ standing w e
      by true some =
          let among = any-there e xs some in
          let y = carried-view i w s right links kept few c v r n bytes xs to is e among in
          let here : one_if (is_here (w.entry k e)) ≡ 1 = ap (λ (z : Entry). one_if (is_here z)) y.1 in
          let one : one_if (list_any (end_eq e) xs) ≡ 1 = ap one_if some in
          let gone : one_if (is_here (u.entry k e)) ≡ 0 = ap one_if (away-not_here (entry_at u k e) (carried-away i w s right links kept few c v r n bytes xs to is u b e among)) in
          omega (arith, count, here, one, gone)
      by false none =
          let zero : one_if (list_any (end_eq e) xs) ≡ 0 = ap one_if none in
          let same : one_if (is_here (u.entry k e)) ≡ one_if (is_here (w.entry k e)) = stays-here (entries k e) in
          omega (arith, count, zero, same)
        where
          stays-here : (entry_at u k e ≡ entry_at w k e) ⊎ (Contains xs e × IsAway (entry_at u k e) × (k ≡ k)) ⊎ ((e ≡ mine) × (k ≡ k) × (entry_at u k e ≡ entry.Here (sent_view v n))) → one_if (is_here (u.entry k e)) ≡ one_if (is_here (w.entry k e))
          stays-here (inl same) = ap (λ (z : Entry). one_if (is_here z)) same
          stays-here (inr (inl away)) = absurd (not_among e xs none away.0)
          stays-here (inr (inr own)) = ap (λ (z : Entry). one_if (is_here z)) own.2 ∙ sym (ap (λ (z : Entry). one_if (is_here z)) (ap (w.entry k) own.0 ∙ is.here))

  -- ---- messages

  in-same : (f g : EndId) (m l : ℕ) → place.InMessage f m ≡ place.InMessage g l → (f ≡ g) × (m ≡ l)
  in-same f g m l same = (ap first-of same, ap second-of same)
    where
      first-of : Place → EndId
      first-of (place.InMessage x y) = x
      first-of _ = f

      second-of : Place → ℕ
      second-of (place.InMessage x y) = y
      second-of _ = m

  -- an end that the message carries is among its ends
  its-ends : (e : EndId) (m : ℕ) → (s.ends e).place ≡ place.InMessage mine m → Contains xs e × (n ≡ m)
  its-ends e m at =
      let held : IsCarried s mine m e = subst (IsHeldAt s e) at (kept.kept.held.held e) in
      let same : Some message ≡ Some held.message = sym (ap message_of is.message) ∙ held.there in
      (subst (λ (z : Message). Contains z.carried e) (some-is message held.message same) held.carries, sym is.number ∙ held.number)
    where
      some-is : (a b : Message) → Some a ≡ Some b → b ≡ a
      some-is a b same = cc

  now-in : (e f : EndId) (m : ℕ) → (s.ends e).place ≡ place.InMessage f m → IsInMessage w e f m → IsInMessage u e f m
  now-in e f m at (inl x) = by (end_eq mine f) refl
    where
      its-own : mine ≡ f → IsInMessage u e f m
      its-own same =
          let among = its-ends e m (subst (λ z. (s.ends e).place ≡ place.InMessage z m) (sym same) at) in
          inr (inl (under_way-sent b (λ q. IsParcelOf f m q × Contains (ends_in (values_of q)) e)
          (record { to = to; what = its; there = first (to, its) []; is = ((ap opposite same, among.1), subst (λ l. Contains l e) (sym brought) among.0) })))

      by : (z : Bool) → end_eq mine f ≡ z → IsInMessage u e f m
      by true same = its-own (end_eq-same mine f same)
      by false apart =
          inl (record {
            at = x.at;
            enclosed = still s carrying ends same-ends x.at e (λ y. y.holder ≡ holder.EnclosedIn f) (λ y o has. has) (λ among. not-its (in-same mine f n m (sym (in-it e among) ∙ at)).0) x.enclosed;
            waiting = waits (entries x.at f);
          })
        where
          not-its : mine ≡ f → ⊥
          not-its same = true≢false (sym (end_eq-refl mine) ∙ subst (λ z. end_eq mine z ≡ false) (sym same) apart)

          waits : (entry_at u x.at f ≡ entry_at w x.at f) ⊎ (Contains xs f × IsAway (entry_at u x.at f) × (x.at ≡ k)) ⊎ ((f ≡ mine) × (x.at ≡ k) × (entry_at u x.at f ≡ entry.Here (sent_view v n))) → IsHereAnd (entry_at u x.at f) (λ y. IsWaitingWith m y.outward)
          waits (inl same) = subst (λ z. IsHereAnd z (λ y. IsWaitingWith m y.outward)) (sym same) x.waiting
          waits (inr (inl away)) = absurd (resting x.at f (λ y. IsWaitingWith m y.outward) (waiting-busy m) away.0 x.waiting)
          waits (inr (inr own)) = absurd (not-its (sym own.0))
  now-in e f m at (inr (inl x)) = inr (inl (still-under (λ q. IsParcelOf f m q × Contains (ends_in (values_of q)) e) x))
  now-in e f m at (inr (inr x)) = inr (inr (still-under (λ q. IsBackOf f m q × Contains (ends_in (values_of q)) e) x))

  was-in : (e f : EndId) (m : ℕ) → IsInMessage u e f m → (s.ends e).place ≡ place.InMessage f m
  was-in e f m (inl x) =
      (links.in_message e f m).1 (inl (record { at = x.at; enclosed = was s carrying ends same-ends x.at e (λ y. y.holder ≡ holder.EnclosedIn f) (λ y o has. has) x.enclosed; waiting = waits (entries x.at f) }))
    where
      waits : (entry_at u x.at f ≡ entry_at w x.at f) ⊎ (Contains xs f × IsAway (entry_at u x.at f) × (x.at ≡ k)) ⊎ ((f ≡ mine) × (x.at ≡ k) × (entry_at u x.at f ≡ entry.Here (sent_view v n))) → IsHereAnd (entry_at w x.at f) (λ y. IsWaitingWith m y.outward)
      waits (inl same) = subst (λ z. IsHereAnd z (λ y. IsWaitingWith m y.outward)) same x.waiting
      waits (inr (inl away)) = absurd (away-here (entry_at u x.at f) (λ y. IsWaitingWith m y.outward) away.1 x.waiting)
      waits (inr (inr own)) = absurd (subst (λ z. IsHereAnd z (λ y. IsWaitingWith m y.outward)) own.2 x.waiting)
  was-in e f m (inr (inl x)) = by (packet-or i w s right links kept few c v r n bytes xs to is u b (λ q. IsParcelOf f m q × Contains (ends_in (values_of q)) e) x)
    where
      by : IsUnderWay w (λ q. IsParcelOf f m q × Contains (ends_in (values_of q)) e) ⊎ (((other ≡ opposite f) × (n ≡ m)) × Contains (ends_in ms) e) → (s.ends e).place ≡ place.InMessage f m
      by (inl old) = (links.in_message e f m).1 (inr (inl old))
      by (inr new) =
          let same : mine ≡ f = sym (opposite-twice mine) ∙ ap opposite new.0.0 ∙ opposite-twice f in
          in-it e (subst (λ l. Contains l e) brought new.1) ∙ ap (λ z. place.InMessage z n) same ∙ ap (place.InMessage f) new.0.1
  was-in e f m (inr (inr x)) = (links.in_message e f m).1 (inr (inr (was-under (λ q. IsBackOf f m q × Contains (ends_in (values_of q)) e) (λ no. no.0) x)))

  -- ---- sends and receives

  untold : IsUnderWay u (IsTakenOf mine n) → ⊥
  untold x = none-counted (length s.made) w s.ends few right.named (is_taken_of mine) none (IsTakenOf mine n) (taken-passes mine n) (was-under (IsTakenOf mine n) (λ no. no) x)
    where
      none : how_many (is_taken_of mine) w ≡ 0
      none = let most = (right.once mine).taken in let zero : one_if (is_taken (s.ends mine).outward) ≡ 0 = ap (λ (z : Outward). one_if (is_taken z)) is.message in omega (arith, most, zero)

  -- the send is matched
  own-outward : (j : ℕ) (x y : HereView) → entry_at u j mine ≡ entry.Here x → entry_at w j mine ≡ entry.Here y → IsOutwardOf u mine (s.ends mine).sent x.outward (ends mine).outward
  own-outward j x y now old =
      let site : j ≡ k = (one-view i w s right links kept few c v r n bytes xs to is mine v is.here j y old).0 in
      let same : sent_view v n ≡ x = view-is (sym sent-here ∙ ap (λ z. entry_at u z mine) (sym site) ∙ now) in
      subst (λ (z : HereView). IsOutwardOf u mine (s.ends mine).sent z.outward (ends mine).outward) same
      (subst (λ (z : End). IsOutwardOf u mine (s.ends mine).sent (kernel_outward.Matched n) z.outward) (sym (t-own i w s right links kept few c v r n bytes xs to is)) (sym is.number, untold))
    where
      view-is : entry.Here (sent_view v n) ≡ entry.Here x → sent_view v n ≡ x
      view-is same = cc

      sent-here : entry_at u k mine ≡ entry.Here (sent_view v n)
      sent-here = b.entry mine ∙ ap (λ z. if z then entry.Here (sent_view v n) else turns xs (left_of to) stays mine (w.entry k mine)) (end_eq-refl mine)

  -- the receive is matched with the message
  other-inward : (j : ℕ) (y : HereView) → entry_at w j other ≡ entry.Here y → IsInwardOf w other y.inward (s.ends other).inward → IsInwardOf u other y.inward (ends other).inward
  other-inward j y there old =
      subst (λ (z : End). IsInwardOf u other y.inward z.inward) (sym (t-other i w s right links kept few c v r n bytes xs to is)) (by y.inward refl (subst (IsInwardOf w other y.inward) is.posted old))
    where
      asked : (q : ℕ) → q ≡ r → (IsUnderWay w (IsUnwantedOf other q) → ⊥) → IsUnderWay u (IsParcelFor other q n) × (IsUnderWay u (IsUnwantedOf other q) → ⊥)
      asked q same none = (
        under_way-sent b (IsParcelFor other q n) (record { to = to; what = its; there = first (to, its) []; is = (refl, sym same, refl) }),
        λ x. none (was-under (IsUnwantedOf other q) (λ no. no) x),
      )

      by : (z : KernelInward) → y.inward ≡ z → IsInwardOf w other z inward.Posted → IsInwardOf u other z (inward.Matched n)
      by kernel_inward.Idle so has = absurd has
      by (kernel_inward.Posted q) so has = asked q (is.last j q y there (subst (IsAskedAs q) (sym so) refl)) has.1
      by (kernel_inward.Withdrawing q) so has = asked q (is.last j q y there (subst (IsAskedAs q) (sym so) refl)) has.1
      by kernel_inward.Unreported so has = absurd has

  agrees : (e : EndId) (p : Pid) (x : HereView) → (ends e).place ≡ place.Owned p → entry_at u (home_of s p) e ≡ entry.Here x → IsEndOf u e x (ends e)
  agrees e p x at now =
      let y = seen s carrying ends same-ends (home_of s p) e x now in
      let old = links.agree e p y.0 (sym (same-place e) ∙ at) y.1 in
      end-carried s carrying ends same-ends e x y.0 y.2 old (out y.0 y.1 y.3 old.outward (end_eq mine e) refl) (inn y.0 y.1 old.inward (end_eq other e) refl)
    where
      out : (y : HereView) → entry_at w (home_of s p) e ≡ entry.Here y → (x ≡ y) ⊎ (e ≡ mine) → IsOutwardOf w e (s.ends e).sent y.outward (s.ends e).outward → (z : Bool) → end_eq mine e ≡ z → IsOutwardOf u e (s.ends e).sent x.outward (ends e).outward
      out y there same old true own =
          let end : mine ≡ e = end_eq-same mine e own in
          subst (λ z. IsOutwardOf u z (s.ends z).sent x.outward (ends z).outward) end
          (own-outward (home_of s p) x y (subst (λ z. entry_at u (home_of s p) z ≡ entry.Here x) (sym end) now) (subst (λ z. entry_at w (home_of s p) z ≡ entry.Here y) (sym end) there))
      out y there (inr own) old false apart = absurd (true≢false (sym (end_eq-refl mine) ∙ subst (λ z. end_eq mine z ≡ false) own apart))
      out y there (inl same) old false apart =
          subst (λ (z : HereView). IsOutwardOf u e (s.ends e).sent z.outward (ends e).outward) (sym same)
          (subst (IsOutwardOf u e (s.ends e).sent y.outward) (sym (outward-kept i w s right links kept few c v r n bytes xs to is e apart))
          (outward-same w u e (λ m. same-under (IsTakenOf e m) (λ no. no)) (s.ends e).sent y.outward (s.ends e).outward old))

      inn : (y : HereView) → entry_at w (home_of s p) e ≡ entry.Here y → IsInwardOf w e y.inward (s.ends e).inward → (z : Bool) → end_eq other e ≡ z → IsInwardOf u e y.inward (ends e).inward
      inn y there old true far =
          let end : other ≡ e = end_eq-same other e far in
          subst (λ z. IsInwardOf u z y.inward (ends z).inward) end
          (other-inward (home_of s p) y (subst (λ z. entry_at w (home_of s p) z ≡ entry.Here y) (sym end) there) (subst (λ z. IsInwardOf w z y.inward (s.ends z).inward) (sym end) old))
      inn y there old false far =
          subst (IsInwardOf u e y.inward) (sym (inward-kept i w s right links kept few c v r n bytes xs to is e far))
          (inward-same w u e (λ q m. same-under (IsParcelFor e q m) (λ for. not-for for.0)) (λ q. same-under (IsUnwantedOf e q) (λ no. no)) y.inward (s.ends e).inward old)
        where
          not-for : other ≡ e → ⊥
          not-for same = true≢false (sym (end_eq-refl other) ∙ subst (λ z. end_eq other z ≡ false) (sym same) far)

  pub links-sent : AreLinksOf u (record s { ends = ends })
  links-sent =
      record {
        once = λ e. stands e ∙ links.once e ∙ ap (λ (z : Place). one_if (is_living z)) (sym (same-place e));
        owned = λ e p. owned-carried s carrying ends same-ends e p (links.owned e p);
        in_message = λ e f m. (
          λ at. let had = sym (same-place e) ∙ at in now-in e f m had ((links.in_message e f m).0 had),
          λ has. same-place e ∙ was-in e f m has,
        );
        agree = agrees;
      }
