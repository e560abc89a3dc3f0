-- What is true where an open end that is here is asked for a receive that it did not serve yet, and where that is taken back.
use Rattle.std.proofs.Common.{◌≡◌, inr, ℕ, ◌+◌, ◌<◌, ◌≤◌, Bool, true, false, ◌&&◌, if◌then◌else◌, List, [], ◌∷◌, length, Contains, refl, sym, ap, subst, ◌∙◌, arith, true≢false}
use Rattle.std.proofs.lemmas.List.Elements.{All-contains}
use Rattle.charlotte_calls.specs.Names.{opposite}
use Rattle.charlotte_calls.specs.declared.names.EndId.{EndId}
use Rattle.charlotte_calls.specs.declared.names.Pid.{Pid}
use Rattle.charlotte_packets.specs.declared.picture.MovingPicture.{MovingPicture}
use Rattle.charlotte_packets.specs.declared.picture.Picture.{Picture}
use Rattle.charlotte_packets.specs.declared.picture.PictureWhat.{PictureWhat}
use Rattle.charlotte_packets.specs.declared.picture.PictureWhat.TheVariants as packet
use Rattle.end_table.proofs.EndEq.{end_eq-same}
use Rattle.end_table.specs.Table.{IfHere, IsHereAnd}
use Rattle.end_table.specs.declared.entry.Entry.TheVariants as entry
use Rattle.end_table.specs.declared.entry.HereView.{HereView}
use Rattle.end_table.specs.declared.entry.Holder.{Holder}
use Rattle.end_table.specs.declared.entry.Holder.TheVariants as holder
use Rattle.end_table.specs.declared.entry.Inward.TheVariants as kernel_inward
use Rattle.kernel_sound.specs.Sound.{IsHeldWell}
use Rattle.kernel_step.specs.Actions.{is_withdrawing}
use Rattle.service_change.proofs.Facts.{posted-Posted}
use Rattle.service_lawful.specs.Consistent.{IsConsistent, is_open}
use Rattle.service_step.specs.Ends.{is_living, is_started_inward}
use Rattle.service_step.specs.State.{State}
use Rattle.service_step.specs.declared.state.End.{End}
use Rattle.service_step.specs.declared.state.Inward.TheVariants as inward
use Rattle.service_step.specs.declared.state.Phase.TheVariants as phase
use Rattle.service_step.specs.declared.state.Place.TheVariants as place
use Rattle.theorem_take_silent.proofs.Lists.{first, later}
use Rattle.theorem_meaning.proofs.Sums.{over-none}
use Rattle.theorem_meaning.specs.Fields.{Stand, At, HasFields, IsAskedAs, IsAsking, IsUnserved, IsUnwantOf, value_of}
use Rattle.theorem_meaning.specs.Invariant.{AreRight, IsPacketRight, is_unwanted_to}
use Rattle.theorem_meaning.specs.Packets.{IsParcelFor, IsUnderWay, IsUnwantedOf, Links, how_many, one_if, sum_in, sum_over}
use Rattle.theorem_meaning.specs.StandsFor.{AreLinksOf, IsEndOf, IsInwardOf, entry_at, home_of}
use Rattle.theorem_take_silent.proofs.Places.{fields-here, here-kernel, here-living}
use Rattle.theorem_meaning.proofs.Plain.{there-here, withdrawing-so}

open-so : (x : End) → is_living x.place ≡ true → x.noticed ≡ false → is_open x ≡ true
open-so x lives unaware = ap (λ z. z && (if x.noticed then false else true)) lives ∙ ap (λ z. if z then false else true) unaware

-- an end whose receive is being withdrawn has an owner
owner-so : (n : ℕ) (y : HereView) (r : ℕ) (h : Holder) → IsHeldWell n y h → y.inward ≡ kernel_inward.Withdrawing r → (p : Pid) × (h ≡ holder.Owner p)
owner-so n y r (holder.Owner p) well withdrawing = (p, refl)
owner-so n y r (holder.EnclosedIn on) idle withdrawing = absurd (let idles : kernel_inward.Idle ≡ kernel_inward.Withdrawing r = sym idle.inward ∙ withdrawing in cc)

-- ---- no packet passes a test

none-in : (test : PictureWhat → Bool) (qs : List Picture) → ((q : Picture) → Contains qs q → test q.what ≡ false) → sum_in (λ q. one_if (test q)) qs ≡ 0
none-in test [] none = refl
none-in test (q ∷ qs) none = both (one_if (test q.what)) (sum_in (λ q. one_if (test q)) qs) (ap one_if (none q (first q qs))) (none-in test qs (λ p has. none p (later q qs p has)))
  where
    both : (a b : ℕ) → a ≡ 0 → b ≡ 0 → a + b ≡ 0
    both a b one other = omega arith

pub none-many : (test : PictureWhat → Bool) (w : Links) → ((q : Picture) (from to : ℕ) → Contains (w.packets from to) q → test q.what ≡ false) → how_many test w ≡ 0
unfolding sum_over
none-many test w none = over-none _ (λ from. over-none _ (λ to. none-in test (w.packets from to) (λ q has. none q from to has)))

module _ (i : ℕ) (w : Links) (s : State) (right : AreRight i w s) (links : AreLinksOf w s) (kept : IsConsistent s) (few : length s.made ≤ 8) where
  module _ (k : ℕ) (v : HereView) (here : entry_at w k v.value.end ≡ entry.Here v) where
    abbrev mine : EndId
    mine = v.value.end

    abbrev other : EndId
    other = opposite v.value.end

    -- its fields are those of the view
    pub own-fields : (st : Stand) (m : MovingPicture) → HasFields w mine st m → (st ≡ At k) × (m ≡ v.value)
    own-fields st m has = fields-here (length s.made) w s.ends few right.named right.marked links.once mine k v st m here has

    pub lives : is_living (s.ends mine).place ≡ true
    lives = here-living (length s.made) w s.ends few right.named right.marked links.once mine k v here

    pub had : HasFields w mine (At k) v.value
    had = ap value_of here

    module _ (alive : v.value.dead ≡ false) where
      pub unaware : (s.ends mine).noticed ≡ false
      unaware = sym ((right.counted mine).dead (At k) v.value lives had) ∙ alive

      pub opened : is_open (s.ends mine) ≡ true
      opened = open-so (s.ends mine) lives unaware

      -- ---- a receive is asked for that was not served

      module _ (r at hops : ℕ) (low : v.value.served < r) (asking : IsUnderWay w (IsAsking mine r at hops)) where
        pub unserved : IsUnserved w mine v.value r at hops
        unserved = inr (low, asking)

        pub posted : (s.ends other).inward ≡ inward.Posted
        posted = posted-Posted (s.ends other).inward ((right.wanted mine).posted (At k) v.value r at hops opened had unserved)

        pub only : (q j h : ℕ) → IsUnserved w mine v.value q j h → q ≡ r
        only q j h asks = (right.wanted mine).same (At k) v.value r at hops q j h opened had unserved asks

        -- ---- and taken back

        module _ (held : (j : ℕ) (e : EndId) → IfHere (entry_at w j e) (λ x. IsHeldWell (length s.homes) x x.holder)) (unwants : IsUnderWay w (IsUnwantOf mine r)) where
          withdraws : (j : ℕ) × IsHereAnd (entry_at w j other) (λ x. is_withdrawing x.inward ≡ true)
          withdraws = (right.wanted mine).unwanted (At k) v.value r opened had low unwants

          withdrawn-view : (x : HereView) × (entry_at w withdraws.0 other ≡ entry.Here x) × (is_withdrawing x.inward ≡ true)
          withdrawn-view = there-here (entry_at w withdraws.0 other) (λ x. is_withdrawing x.inward ≡ true) withdraws.1

          pub other-lives : is_living (s.ends other).place ≡ true
          other-lives = here-living (length s.made) w s.ends few right.named right.marked links.once other withdraws.0 withdrawn-view.0 withdrawn-view.1

          pub other-view : (x : HereView) × (entry_at w at other ≡ entry.Here x) × ((x.value.hops ≡ hops) × (x.value.asked ≡ r))
          other-view = there-here (entry_at w at other) (λ x. (x.value.hops ≡ hops) × (x.value.asked ≡ r)) ((right.wanted mine).site (At k) v.value r at hops opened had unserved other-lives)

          abbrev pub view : HereView
          view = other-view.0

          pub there : entry_at w at other ≡ entry.Here view
          there = other-view.1

          kernel-of : (j : ℕ) (x : HereView) → entry_at w j other ≡ entry.Here x → j ≡ at
          kernel-of j x stands = here-kernel (length s.made) w s.ends few right.named right.marked links.once other j at x view stands there

          -- what is asked of it is the last that it asked for
          pub last-of : (j q : ℕ) (x : HereView) → entry_at w j other ≡ entry.Here x → IsAskedAs q x.inward → q ≡ r
          last-of j q x stands asked =
              let f = fields-here (length s.made) w s.ends few right.named right.marked links.once other at view (At j) x.value there (ap value_of stands) in
              (right.asked other).last j x q stands asked ∙ ap (λ (z : MovingPicture). z.asked) f.1 ∙ other-view.2.1

          is-withdrawing : is_withdrawing view.inward ≡ true
          is-withdrawing =
              subst (λ z. IsHereAnd z (λ x. is_withdrawing x.inward ≡ true)) there
              (subst (λ z. IsHereAnd (entry_at w z other) (λ x. is_withdrawing x.inward ≡ true)) (kernel-of withdraws.0 withdrawn-view.0 withdrawn-view.1) withdraws.1)

          pub withdrawing : view.inward ≡ kernel_inward.Withdrawing r
          withdrawing =
              let q = withdrawing-so view.inward is-withdrawing in
              q.1 ∙ ap kernel_inward.Withdrawing (last-of at q.0 view there (subst (IsAskedAs q.0) (sym q.1) refl))

          pub owner : (p : Pid) × (view.holder ≡ holder.Owner p)
          owner = owner-so (length s.homes) view r view.holder (subst (λ z. IfHere z (λ x. IsHeldWell (length s.homes) x x.holder)) there (held at other)) withdrawing

          abbrev pub pid : Pid
          pid = owner.0

          pub cancels : (s.process pid.0).phase ≡ phase.Cancelling other
          cancels = (right.asked other).cancelled at view r pid there withdrawing owner.1

          pub owned : (s.ends other).place ≡ place.Owned pid
          owned = (kept.processes.cancelling pid other cancels).0

          pub home : home_of s pid ≡ at
          home =
              let x = there-here (entry_at w (home_of s pid) other) (λ x. is_withdrawing x.inward ≡ true) (right.cancelling pid other cancels) in
              kernel-of (home_of s pid) x.0 x.1

          agrees : IsEndOf w other view (s.ends other)
          agrees = links.agree other pid view owned (subst (λ z. entry_at w z other ≡ entry.Here view) (sym home) there)

          -- neither a parcel nor an unwanted for it is under way
          pub neither : ((n : ℕ) → IsUnderWay w (IsParcelFor other r n) → ⊥) × (IsUnderWay w (IsUnwantedOf other r) → ⊥)
          neither = subst (λ z. IsInwardOf w other z inward.Posted) withdrawing (subst (IsInwardOf w other view.inward) posted agrees.inward)

          other-unaware : (s.ends other).noticed ≡ false
          other-unaware = by (s.ends other).noticed refl
            where
              by : (b : Bool) → (s.ends other).noticed ≡ b → b ≡ false
              by false is = refl
              by true is = absurd (true≢false (sym (ap is_started_inward posted) ∙ kept.noticed.inward other is other-lives))

          pub none-void : how_many (is_unwanted_to other) w ≡ 0
          none-void = none-many (is_unwanted_to other) w (λ q from to has. by q from to has (is_unwanted_to other q.what) refl)
            where
              void : (q : PictureWhat) (to : ℕ) → is_unwanted_to other q ≡ true → IsPacketRight w s.ends 0 to q → IsUnwantedOf other r q
              void (packet.Unwanted e n j h) to is fine =
                  let same : other ≡ e = end_eq-same other e is in
                  let x = there-here (entry_at w to e) (λ x. x.inward ≡ kernel_inward.Withdrawing n) (fine (subst (λ z. (s.ends z).noticed ≡ false) same other-unaware)) in
                  (sym same, last-of to n x.0 (subst (λ z. entry_at w to z ≡ entry.Here x.0) (sym same) x.1) (subst (IsAskedAs n) (sym x.2) refl))
              void _ to is fine = absurd (true≢false (sym is))

              right-here : (q : PictureWhat) (from to : ℕ) → is_unwanted_to other q ≡ true → IsPacketRight w s.ends from to q → IsPacketRight w s.ends 0 to q
              right-here (packet.Unwanted e n j h) from to is fine = fine
              right-here _ from to is fine = absurd (true≢false (sym is))

              by : (q : Picture) (from to : ℕ) → Contains (w.packets from to) q → (b : Bool) → is_unwanted_to other q.what ≡ b → b ≡ false
              by q from to has false is = refl
              by q from to has true is =
                  let fine = All-contains (λ p. IsPacketRight w s.ends from to p.what) (w.packets from to) q (right.packets from to) has in
                  absurd (neither.1 (record { from = from; to = to; packet = q; there = has; is = void q.what to is (right-here q.what from to is fine) }))
