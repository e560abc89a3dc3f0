-- The message of a send that is matched leaves with its ends: what becomes of entries, packets and fields, and of the service's ends.
use Rattle.std.proofs.Common.{◌≡◌, ◌≢◌, ◌⊎◌, inl, inr, ℕ, ◌≤◌, Bool, true, false, nat_eq, if◌then◌else◌, List, [], ◌∷◌, length, Contains, None, Some, refl, sym, ap, subst, ◌∙◌}
use Rattle.std.proofs.lemmas.Bool.Decides.{eqb_tells}
use Rattle.std.specs.List.{list_any}
use Rattle.charlotte_calls.specs.Names.{opposite}
use Rattle.charlotte_calls.specs.declared.names.EndId.{EndId}
use Rattle.charlotte_calls.specs.declared.names.Pid.{Pid}
use Rattle.charlotte_packets.specs.declared.picture.MovingPicture.{MovingPicture}
use Rattle.charlotte_packets.specs.declared.picture.PictureWhat.{PictureWhat}
use Rattle.charlotte_packets.specs.declared.picture.PictureWhat.TheVariants as packet
use Rattle.end_table.proofs.EndEq.{end_eq-same}
use Rattle.end_table.specs.Entries.{gains_one, left_entry}
use Rattle.end_table.specs.Place.{end_eq}
use Rattle.end_table.specs.Table.{IfHere, IsIdle, IsOfEnd}
use Rattle.end_table.specs.declared.entry.Entry.{Entry}
use Rattle.end_table.specs.declared.entry.Entry.TheVariants as entry
use Rattle.end_table.specs.declared.entry.HereView.{HereView}
use Rattle.end_table.specs.declared.entry.Holder.TheVariants as holder
use Rattle.kernel_effects.specs.Actions.{left_of}
use Rattle.kernel_effects.specs.Effect.{stays, turns}
use Rattle.kernel_step.specs.Actions.{values_leaving}
use Rattle.service_lawful.specs.Consistent.{IsConsistent}
use Rattle.service_step.specs.Lawful.{message_of}
use Rattle.service_step.specs.Ends.{is_idle, is_made, matched_outward, matches}
use Rattle.service_step.specs.State.{State}
use Rattle.service_step.specs.declared.state.End.{End}
use Rattle.service_step.specs.declared.state.Inward.TheVariants as inward
use Rattle.service_step.specs.declared.state.Outward.{Outward}
use Rattle.service_step.specs.declared.state.Outward.TheVariants as outward
use Rattle.service_step.specs.declared.state.Place.TheVariants as place
use Rattle.theorem_call_send.proofs.Aside.{not_among}
use Rattle.theorem_call_send.proofs.Lists.{only-there}
use Rattle.theorem_call_send.proofs.Packets.{left-was, under_way-after, under_way-still}
use Rattle.theorem_call_send.specs.Change.{Change, Changes}
use Rattle.theorem_call_send.specs.Under.{IsLeft, IsSent}
use Rattle.theorem_meaning.proofs.Ends.{eq-same}
use Rattle.theorem_meaning.specs.Fields.{Stand, At, Flying, HasFields, value_of}
use Rattle.theorem_meaning.specs.Invariant.{AreRight}
use Rattle.theorem_meaning.specs.Packets.{IsUnderWay, Links, values_of}
use Rattle.theorem_meaning.specs.StandsFor.{AreLinksOf, entry_at}
use Rattle.theorem_take_want.proofs.Places.{here-kernel}
use Rattle.theorem_take_want.proofs.Anew.{view_or}
use Rattle.theorem_take_want.proofs.Matched.{matched-away, matched-other, matched-own}
use Rattle.theorem_meaning.proofs.Plain.{there-here}
use Rattle.theorem_match.specs.Carrying.{HasLeft, IsAway, IsCarrying, IsTurned}
use Rattle.theorem_match.specs.Sending.{IsSending, departing, sent_view}
use Rattle.theorem_match.proofs.Carrying.{away-value}
use Rattle.theorem_match.proofs.Values.{any-there, held-at, leaving-value}

pub left-away : (to : ℕ) (m : MovingPicture) → IsAway (left_entry to m)
left-away to m = by m.dead
  where
    by : (b : Bool) → IsAway (if b then entry.Nothing else entry.Left to (gains_one m.hops))
    by true = tt
    by false = tt

module _ (i : ℕ) (w : Links) (s : State) (right : AreRight i w s) (links : AreLinksOf w s) (kept : IsConsistent s) (few : length s.made ≤ 8) (c : Change) (v : HereView) (r n : ℕ) (bytes : List ℕ) (xs : List EndId) (to : ℕ) (is : IsSending w s c.kernel v r n bytes xs to) where
  abbrev k : ℕ
  k = c.kernel

  abbrev mine : EndId
  mine = v.value.end

  abbrev other : EndId
  other = opposite v.value.end

  abbrev pub parcel : PictureWhat
  parcel = packet.Parcel other n r k v.value.hops bytes (values_leaving k (w.entry k) xs)

  -- ---- the ends that the message carries

  pub carried : (e : EndId) → Contains xs e → (s.ends e).place ≡ place.InMessage mine n
  carried e among = kept.kept.held.carried mine e n (record { message = record { bytes = bytes; carried = xs }; there = ap message_of is.message; number = is.number; carries = among })

  pub carried-idle : (e : EndId) → Contains xs e → is_idle (s.ends e) ≡ true
  carried-idle e among = kept.kept.resting e mine n (carried e among)

  pub carried-view : (e : EndId) → Contains xs e → (y : HereView) × (entry_at w k e ≡ entry.Here y) × (IsIdle y × (y.holder ≡ holder.EnclosedIn mine))
  carried-view e among = there-here (entry_at w k e) (λ y. IsIdle y × (y.holder ≡ holder.EnclosedIn mine)) (held-at mine (w.entry k) xs e is.enclosed among)

  -- an end is here at one kernel, with one view
  pub one-view : (e : EndId) (y : HereView) → entry_at w k e ≡ entry.Here y → (j : ℕ) (x : HereView) → entry_at w j e ≡ entry.Here x → (j ≡ k) × (x ≡ y)
  one-view e y here j x there =
      let site : j ≡ k = here-kernel (length s.made) w s.ends few right.named right.marked links.once e j k x y there here in
      (site, ap (view_or y) (sym there ∙ ap (λ z. entry_at w z e) site ∙ here))

  pub carried-resting : (j : ℕ) (e : EndId) → Contains xs e → IfHere (entry_at w j e) IsIdle
  carried-resting j e among = by (entry_at w j e) refl
    where
      by : (x : Entry) → entry_at w j e ≡ x → IfHere x IsIdle
      by (entry.Here x) there = let y = carried-view e among in subst IsIdle (sym (one-view e y.0 y.1 j x there).1) y.2.0
      by entry.Nothing there = tt
      by (entry.Left at hops) there = tt
      by (entry.Destroyed m) there = tt

  pub carried-unowned : (e : EndId) (p : Pid) → Contains xs e → (s.ends e).place ≡ place.Owned p → ⊥
  carried-unowned e p among owned = let no : place.Owned p ≡ place.InMessage mine n = sym owned ∙ carried e among in cc

  pub not-mine : Contains xs mine → ⊥
  not-mine among = carried-unowned mine is.owner among is.owned

  -- ---- the ends of the service

  abbrev pub t : EndId → End
  t = matches mine n s.ends

  pub t-own : t mine ≡ record (s.ends mine) { outward = outward.Matched (record { bytes = bytes; carried = xs }) }
  t-own = matched-own s.ends mine n (ap is_made is.owned) ∙ ap (λ (z : Outward). record (s.ends mine) { outward = matched_outward z }) is.message

  pub t-other : t other ≡ record (s.ends other) { inward = inward.Matched n }
  t-other = matched-other s.ends mine n is.made

  t-away : (q : EndId) → end_eq mine q ≡ false → end_eq other q ≡ false → t q ≡ s.ends q
  t-away q apart far = matched-away s.ends mine n q (eq-same mine q ∙ apart) (eq-same other q ∙ far)

  pub outward-kept : (q : EndId) → end_eq mine q ≡ false → (t q).outward ≡ (s.ends q).outward
  outward-kept q apart = by (end_eq other q) refl
    where
      by : (b : Bool) → end_eq other q ≡ b → (t q).outward ≡ (s.ends q).outward
      by true same = subst (λ z. (t z).outward ≡ (s.ends z).outward) (end_eq-same other q same) (ap (λ (x : End). x.outward) t-other)
      by false far = ap (λ (x : End). x.outward) (t-away q apart far)

  pub inward-kept : (q : EndId) → end_eq other q ≡ false → (t q).inward ≡ (s.ends q).inward
  inward-kept q far = by (end_eq mine q) refl
    where
      by : (b : Bool) → end_eq mine q ≡ b → (t q).inward ≡ (s.ends q).inward
      by true same = subst (λ z. (t z).inward ≡ (s.ends z).inward) (end_eq-same mine q same) (ap (λ (x : End). x.inward) t-own)
      by false apart = ap (λ (x : End). x.inward) (t-away q apart far)

  pub t-ends : (q : EndId) → t q ≡ record (s.ends q) { outward = (t q).outward; inward = (t q).inward }
  t-ends q = by (end_eq mine q) (end_eq other q) refl refl
    where
      by : (a b : Bool) → end_eq mine q ≡ a → end_eq other q ≡ b → t q ≡ record (s.ends q) { outward = (t q).outward; inward = (t q).inward }
      by true b same far =
          subst (λ z. t z ≡ record (s.ends z) { outward = (t z).outward; inward = (t z).inward }) (end_eq-same mine q same)
          (subst (λ (x : End). x ≡ record (s.ends mine) { outward = x.outward; inward = x.inward }) (sym t-own) refl)
      by false true apart same =
          subst (λ z. t z ≡ record (s.ends z) { outward = (t z).outward; inward = (t z).inward }) (end_eq-same other q same)
          (subst (λ (x : End). x ≡ record (s.ends other) { outward = x.outward; inward = x.inward }) (sym t-other) refl)
      by false false apart far = subst (λ (x : End). x ≡ record (s.ends q) { outward = x.outward; inward = x.inward }) (sym (t-away q apart far)) refl

  -- ---- afterwards

  module _ (u : Links) (b : Changes w (departing c (w.entry c.kernel) v r n bytes xs to) u) where
    abbrev new : Entry
    new = entry.Here (sent_view v n)

    -- an end that leaves is away
    pub carried-away : (e : EndId) → Contains xs e → IsAway (entry_at u k e)
    carried-away e among = by (end_eq mine e) refl (list_any (end_eq e) xs) refl
      where
        by : (x : Bool) → end_eq mine e ≡ x → (y : Bool) → list_any (end_eq e) xs ≡ y → IsAway (entry_at u k e)
        by true same y some = absurd (not-mine (subst (Contains xs) (sym (end_eq-same mine e same)) among))
        by false apart false none = absurd (not_among e xs none among)
        by false apart true some =
            let y = carried-view e among in
            subst IsAway
            (sym (b.entry e ∙ ap (λ x. if x then new else turns xs (left_of to) stays e (w.entry k e)) apart ∙ ap (λ x. if x then left_of to (w.entry k e) else w.entry k e) some ∙ ap (left_of to) y.1)) (left-away to y.0.value)

    pub entry-or : (j : ℕ) (e : EndId) → (entry_at u j e ≡ entry_at w j e) ⊎ (Contains xs e × IsAway (entry_at u j e) × (j ≡ k)) ⊎ ((e ≡ mine) × (j ≡ k) × (entry_at u j e ≡ new))
    entry-or j e = by (eqb_tells j k)
      where
        among : (x : Bool) → list_any (end_eq e) xs ≡ x → end_eq mine e ≡ false → (entry_at u k e ≡ entry_at w k e) ⊎ (Contains xs e × IsAway (entry_at u k e))
        among true some apart = let has = any-there e xs some in inr (has, carried-away e has)
        among false none apart = inl (b.entry e ∙ ap (λ x. if x then new else turns xs (left_of to) stays e (w.entry k e)) apart ∙ ap (λ x. if x then left_of to (w.entry k e) else w.entry k e) none)

        there : j ≡ k → (entry_at u k e ≡ entry_at w k e) ⊎ (Contains xs e × IsAway (entry_at u k e)) → (entry_at u j e ≡ entry_at w j e) ⊎ (Contains xs e × IsAway (entry_at u j e) × (j ≡ k)) ⊎ ((e ≡ mine) × (j ≡ k) × (entry_at u j e ≡ new))
        there at (inl same) = inl (subst (λ z. entry_at u z e ≡ entry_at w z e) (sym at) same)
        there at (inr left) = inr (inl (left.0, subst (λ z. IsAway (entry_at u z e)) (sym at) left.1, at))

        own : (x : Bool) → end_eq mine e ≡ x → j ≡ k → (entry_at u j e ≡ entry_at w j e) ⊎ (Contains xs e × IsAway (entry_at u j e) × (j ≡ k)) ⊎ ((e ≡ mine) × (j ≡ k) × (entry_at u j e ≡ new))
        own true same at =
            inr (inr (sym (end_eq-same mine e same), at, ap (λ z. entry_at u z e) at ∙ b.entry e ∙ ap (λ x. if x then new else turns xs (left_of to) stays e (w.entry k e)) same))
        own false apart at = there at (among (list_any (end_eq e) xs) refl apart)

        by : ((nat_eq j k ≡ true) × (j ≡ k)) ⊎ ((nat_eq j k ≡ false) × (j ≢ k)) → (entry_at u j e ≡ entry_at w j e) ⊎ (Contains xs e × IsAway (entry_at u j e) × (j ≡ k)) ⊎ ((e ≡ mine) × (j ≡ k) × (entry_at u j e ≡ new))
        by (inl at) = own (end_eq mine e) refl at.1
        by (inr far) = inl (b.others j e far.0)

    -- ---- packets

    said : (x : ℕ) (what : PictureWhat) → Contains {X = ℕ × PictureWhat} ((to, parcel) ∷ []) (x, what) → (to ≡ x) × (parcel ≡ what)
    said x what has = let same = only-there (to, parcel) (x, what) has in (ap (λ (z : ℕ × PictureWhat). z.0) same, ap (λ (z : ℕ × PictureWhat). z.1) same)

    -- a packet was under way before, or is the parcel
    pub packet-or : (P : PictureWhat → Type 0) → IsUnderWay u P → IsUnderWay w P ⊎ P parcel
    packet-or P x = by (under_way-after b P x)
      where
        by : IsLeft b P ⊎ IsSent (departing c (w.entry c.kernel) v r n bytes xs to) P → IsUnderWay w P ⊎ P parcel
        by (inl left) = inl (left-was b P left)
        by (inr sent) = inr (subst P (sym (said sent.to sent.what sent.there).1) sent.is)

    pub packet-was : (P : PictureWhat → Type 0) → (P parcel → ⊥) → IsUnderWay u P → IsUnderWay w P
    packet-was P none x = by (packet-or P x)
      where
        by : IsUnderWay w P ⊎ P parcel → IsUnderWay w P
        by (inl was) = was
        by (inr now) = absurd (none now)

    pub packet-still : (P : PictureWhat → Type 0) → IsUnderWay w P → IsUnderWay u P
    packet-still P = under_way-still b P (λ x. absurd (let none : None ≡ Some (x.from, x.packet) = x.taken in cc))

    -- ---- the ends that leave

    pub carries : IsCarrying w u s.ends k xs mine
    carries = record { unowned = carried-unowned; idle = carried-idle; resting = carried-resting; entry = entries; fields = fields }
      where
        turned : (j : ℕ) (e : EndId) → e ≡ mine → j ≡ k → entry_at u j e ≡ new → IsTurned (entry_at w j e) (entry_at u j e)
        turned j e same at now = record { old = v; new = sent_view v n; was = ap (λ z. entry_at w z e) at ∙ ap (entry_at w k) same ∙ is.here; now = now; like = refl }

        entries : (j : ℕ) (e : EndId) → (entry_at u j e ≡ entry_at w j e) ⊎ (Contains xs e × IsAway (entry_at u j e)) ⊎ ((e ≡ mine) × IsTurned (entry_at w j e) (entry_at u j e))
        entries j e = by (entry-or j e)
          where
            by : (entry_at u j e ≡ entry_at w j e) ⊎ (Contains xs e × IsAway (entry_at u j e) × (j ≡ k)) ⊎ ((e ≡ mine) × (j ≡ k) × (entry_at u j e ≡ new))
                → (entry_at u j e ≡ entry_at w j e) ⊎ (Contains xs e × IsAway (entry_at u j e)) ⊎ ((e ≡ mine) × IsTurned (entry_at w j e) (entry_at u j e))
            by (inl same) = inl same
            by (inr (inl left)) = inr (inl (left.0, left.1))
            by (inr (inr own)) = inr (inr (own.0, turned j e own.0 own.1 own.2))

        here : (j : ℕ) (e : EndId) (m : MovingPicture) → value_of (entry_at u j e) ≡ Some m
            → (entry_at u j e ≡ entry_at w j e) ⊎ (Contains xs e × IsAway (entry_at u j e)) ⊎ ((e ≡ mine) × IsTurned (entry_at w j e) (entry_at u j e)) → value_of (entry_at w j e) ≡ Some m
        here j e m has (inl same) = ap value_of (sym same) ∙ has
        here j e m has (inr (inl left)) = absurd (away-value (entry_at u j e) m left.1 has)
        here j e m has (inr (inr own)) = let x = own.1 in ap value_of x.was ∙ sym (ap (λ (z : HereView). Some z.value) x.like) ∙ sym (ap value_of x.now) ∙ has

        flown : (e : EndId) (m : MovingPicture) → Contains (values_leaving k (w.entry k) xs) m → m.end ≡ e → Contains xs e × (Flying ≡ Flying) × HasLeft w k e m
        flown e m has of =
            let x = leaving-value k (w.entry k) xs m has in
            let end : x.0 ≡ e = sym (subst (IsOfEnd x.0) x.3 (is.own x.0)) ∙ sym (ap (λ (z : MovingPicture). z.end) x.4) ∙ of in
            (subst (Contains xs) end x.1, refl, record { stand = At k; value = x.2.value; had = subst (λ z. value_of (entry_at w k z) ≡ Some x.2.value) end (ap value_of x.3); left = x.4 })

        fields : (e : EndId) (at : Stand) (m : MovingPicture) → HasFields u e at m → HasFields w e at m ⊎ (Contains xs e × (at ≡ Flying) × HasLeft w k e m)
        fields e (At j) m has = inl (here j e m has (entries j e))
        fields e Flying m has = by (packet-or (λ q. Contains (values_of q) m) has.0)
          where
            by : IsUnderWay w (λ q. Contains (values_of q) m) ⊎ Contains (values_leaving k (w.entry k) xs) m → HasFields w e Flying m ⊎ (Contains xs e × (Flying ≡ Flying) × HasLeft w k e m)
            by (inl was) = inl (was, has.1)
            by (inr now) = inr (flown e m now has.1)
