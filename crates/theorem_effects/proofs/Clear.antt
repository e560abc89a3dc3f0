-- The packets of an event have to do with the links of the ends that it touches alone: with no other end, and so with no other link.
use Rattle.std.proofs.Common.{◌≡◌, ℕ, Bool, true, false, nat_eq, nat_le, nat_lt, not, ◌&&◌, ◌||◌, if◌then◌else◌, List, [], ◌∷◌, ◌++◌, map, Option, Some, None, refl, sym, ap, subst, ◌∙◌, true≢false}
use Rattle.std.specs.List.{AllByRecursion, list_any}
use Rattle.charlotte_calls.specs.Names.{opposite}
use Rattle.charlotte_calls.specs.declared.names.EndId.{EndId}
use Rattle.charlotte_packets.specs.declared.picture.MovingPicture.{MovingPicture}
use Rattle.charlotte_packets.specs.declared.picture.PictureWhat.{PictureWhat}
use Rattle.charlotte_packets.specs.declared.picture.PictureWhat.TheVariants as packet
use Rattle.end_table.proofs.EndEq.{end_eq-refl}
use Rattle.end_table.specs.Entries.{learned, left_value}
use Rattle.end_table.specs.Place.{end_eq}
use Rattle.end_table.specs.Table.{IsOfEnd}
use Rattle.end_table.specs.declared.entry.Entry.{Entry}
use Rattle.end_table.specs.declared.entry.Entry.TheVariants as entry
use Rattle.end_table.specs.declared.entry.HereView.{HereView}
use Rattle.end_table.specs.declared.entry.Inward.{Inward}
use Rattle.end_table.specs.declared.entry.Inward.TheVariants as inward
use Rattle.end_table.specs.declared.entry.Outward.{Outward}
use Rattle.end_table.specs.declared.entry.Outward.TheVariants as outward
use Rattle.kernel_effects.proofs.Uses.{all-append, arrival-each, forget-each, gone-each, live-each, news-each}
use Rattle.kernel_effects.specs.Actions.{arrival_packets, forget_packets, gone_of, gone_packets, learn_effect, match_effect, match_waiting_effect}
use Rattle.kernel_effects.specs.Effect.{Effect, nothing}
use Rattle.kernel_effects.specs.Rows.{asked_view, back_effect, forget_effect, frees_effect, gone_effect, goneseen_effect, known_effect, moved_effect, parcel_effect, returns_effect}
use Rattle.kernel_effects.specs.Rows.{returns_first_effect, row_effect, taken_effect, unwant_effect, unwanted_effect, unwanted_here_effect, view_news, voids_effect, want_effect, wants_effect}
use Rattle.kernel_outcomes.specs.Touched.{enclosed_at, row_ends}
use Rattle.kernel_sound.proofs.Actions.{learned-end}
use Rattle.kernel_sound.proofs.Parcels.{asks-here, awaits-here}
use Rattle.kernel_step.proofs.EnclosedEnds.{first_false, second_false}
use Rattle.kernel_step.proofs.Folds.{AreOwn}
use Rattle.kernel_step.specs.Actions.{enclosed_of, values_leaving}
use Rattle.kernel_step.specs.Rows.{arriving, asks, awaits, ends_in, passing}
use Rattle.theorem_meaning.proofs.Ends.{apart-false, opposite-twice}
use Rattle.theorem_effects.specs.Aside.{IsClear, IsFar}
use Rattle.theorem_effects.proofs.Values.{arriving-each, leaving-each, left-each, packets-each, passing-each}

module _ (q : EndId) where
  -- ---- ends

  pub far-opposite : (x : EndId) → IsFar q x → end_eq q (opposite x) ≡ false
  far-opposite x far = apart-false q (opposite x) (λ same. true≢false (sym (end_eq-refl x) ∙ ap (λ z. end_eq z x) (sym (ap opposite same ∙ opposite-twice x)) ∙ far.1))

  -- an end that is none of these, and whose opposite is none
  pub far-each : (xs : List EndId) → list_any (end_eq q) xs ≡ false → list_any (end_eq (opposite q)) xs ≡ false → AllByRecursion (IsFar q) xs
  far-each [] none other = tt
  far-each (x ∷ xs) none other = ((first_false _ _ none, first_false _ _ other), far-each xs (second_false _ _ none) (second_false _ _ other))

  abbrev pub AreFar : List MovingPicture → Type 0
  AreFar ms = AllByRecursion (λ m. IsFar q m.end) ms

  far-values : (ms : List MovingPicture) → AllByRecursion (IsFar q) (ends_in ms) → AreFar ms
  far-values [] far = tt
  far-values (m ∷ ms) far = (far.0, far-values ms far.1)

  none-among : (ms : List MovingPicture) → AreFar ms → list_any (end_eq q) (ends_in ms) ≡ false
  none-among [] far = refl
  none-among (m ∷ ms) far = ap (λ b. b || list_any (end_eq q) (ends_in ms)) (far.0).0 ∙ none-among ms far.1

  first_part : (xs ys : List EndId) → AllByRecursion (IsFar q) (xs ++ ys) → AllByRecursion (IsFar q) xs
  first_part [] ys far = tt
  first_part (x ∷ xs) ys far = (far.0, first_part xs ys far.1)

  second_part : (xs ys : List EndId) → AllByRecursion (IsFar q) (xs ++ ys) → AllByRecursion (IsFar q) ys
  second_part [] ys far = far
  second_part (x ∷ xs) ys far = second_part xs ys far.1

  -- ---- lists of packets

  abbrev pub AreClear : List (ℕ × PictureWhat) → Type 0
  AreClear ps = AllByRecursion (IsClear q) ps

  pub forgets-clear : (k : ℕ) (m : MovingPicture) → IsFar q m.end → AreClear (forget_packets k m)
  forgets-clear k m far = forget-each (IsClear q) k m (λ j told apart. (far.0, refl))

  pub gone-clear : (k : ℕ) (m : MovingPicture) → IsFar q m.end → AreClear (gone_packets k m)
  gone-clear k m far = gone-each (IsClear q) k m (λ alive. (far-opposite m.end far, refl))

  pub gone_of-clear : (k : ℕ) (x : EndId) (y : Entry) → IsOfEnd x y → IsFar q x → AreClear (gone_of k y)
  gone_of-clear k x entry.Nothing own far = tt
  gone_of-clear k x (entry.Here v) own far = gone-clear k v.value (subst (IsFar q) (sym own) far)
  gone_of-clear k x (entry.Left to hops) own far = tt
  gone_of-clear k x (entry.Destroyed m) own far = tt

  arrival-clear : (k : ℕ) (m : MovingPicture) → IsFar q m.end → AreClear (arrival_packets k m)
  arrival-clear k m far = arrival-each (IsClear q) k m (λ alive. (far-opposite m.end far, refl))

  news-clear : (k at hops : ℕ) (v : HereView) (i : Inward) → IsFar q v.value.end → AreClear (view_news k at hops v i)
  news-clear k at hops v i far =
      let m = learned at hops v.value in
      let other : end_eq q (opposite m.end) ≡ false = ap (λ x. end_eq q (opposite x)) (learned-end at hops v.value) ∙ far-opposite v.value.end far in
      news-each (IsClear q) k v.value hops m i (λ news. live-each (IsClear q) k m i (λ w posted. (other, refl)) (λ w withdrawing. (other, refl)) (other, refl))

  -- ---- effects

  pub either-clear : (b : Bool) (f g : Effect) → AreClear f.packets → AreClear g.packets → AreClear (if b then f else g).packets
  either-clear true f g first second = first
  either-clear false f g first second = second

  module _ (k : ℕ) (t : EndId → Entry) (own : AreOwn t) where
    pub far-here : (x : EndId) (v : HereView) → t x ≡ entry.Here v → IsFar q x → IsFar q v.value.end
    far-here x v is far = subst (IsFar q) (sym (subst (IsOfEnd x) is (own x))) far

    leaving-far : (xs : List EndId) → AllByRecursion (IsFar q) xs → AreFar (values_leaving k t xs)
    leaving-far xs far = leaving-each (λ m. IsFar q m.end) k t xs (each xs far)
      where
        each : (xs : List EndId) → AllByRecursion (IsFar q) xs → AllByRecursion (λ x. (v : HereView) → t x ≡ entry.Here v → IsFar q v.value.end) xs
        each [] far = tt
        each (x ∷ xs) far = (λ v is. far-here x v is far.0, each xs far.1)

    pub match-clear : (v : HereView) (m : ℕ) (bytes : List ℕ) (xs : List EndId) → IsFar q v.value.end → AllByRecursion (IsFar q) xs → AreClear (match_effect k t v m bytes xs).packets
    match-clear v m bytes xs far among = ((far-opposite v.value.end far, none-among (values_leaving k t xs) (leaving-far xs among)), tt)

    match_waiting-clear : (v : HereView) (o : Outward) → IsFar q v.value.end → AllByRecursion (IsFar q) (enclosed_of o) → AreClear (match_waiting_effect k t v o).packets
    match_waiting-clear v outward.Idle far among = tt
    match_waiting-clear v (outward.Waiting m bytes xs) far among = match-clear v m bytes xs far among
    match_waiting-clear v (outward.Matched m) far among = tt
    match_waiting-clear v outward.Unreported far among = tt

    -- ---- packets, of which `to` is the end addressed
    module _ (made from : ℕ) (to : EndId) (far : IsFar q to) where
      unserved-clear : (w at hops : ℕ) (v : HereView) (f : Effect) → t to ≡ entry.Here v → AreClear f.packets → AreClear (if v.value.dead then nothing else if nat_lt v.value.served w then f else learn_effect k at hops v).packets
      unserved-clear w at hops v f is effect =
          either-clear v.value.dead nothing (if nat_lt v.value.served w then f else learn_effect k at hops v) tt
          (either-clear (nat_lt v.value.served w) f (learn_effect k at hops v) effect (news-clear k at hops v v.inward (far-here to v is far)))

      want-clear : (w at hops : ℕ) (y : Entry) → t to ≡ y → AllByRecursion (IsFar q) (enclosed_at y) → AreClear (want_effect k t to w at hops y).packets
      want-clear w at hops entry.Nothing is among = tt
      want-clear w at hops (entry.Here v) is among =
          let here = far-here to v is far in
          unserved-clear w at hops v (wants_effect k t w at hops v) is
          (all-append (IsClear q) _ (view_news k at hops v v.inward)
          (match_waiting-clear (asked_view w at hops v) v.outward (subst (IsFar q) (sym (learned-end at hops v.value)) here) among) (news-clear k at hops v v.inward here))
      want-clear w at hops (entry.Left there h) is among = ((far.0, refl), tt)
      want-clear w at hops (entry.Destroyed m) is among = tt

      unwant-clear : (w at hops : ℕ) (y : Entry) → t to ≡ y → AreClear (unwant_effect k to w at hops y).packets
      unwant-clear w at hops entry.Nothing is = tt
      unwant-clear w at hops (entry.Here v) is =
          let here = far-here to v is far in
          unserved-clear w at hops v (voids_effect k w at hops v) is ((far-opposite v.value.end here, refl), news-clear k at hops v v.inward here)
      unwant-clear w at hops (entry.Left there h) is = ((far.0, refl), tt)
      unwant-clear w at hops (entry.Destroyed m) is = tt

      unwanted_here-clear : (w at hops : ℕ) (v : HereView) (i : Inward) → t to ≡ entry.Here v → AreClear (unwanted_here_effect k w at hops v i).packets
      unwanted_here-clear w at hops v inward.Idle is = tt
      unwanted_here-clear w at hops v (inward.Posted x) is = tt
      unwanted_here-clear w at hops v (inward.Withdrawing x) is = either-clear (nat_eq x w) (frees_effect k at hops v) nothing (news-clear k at hops v inward.Idle (far-here to v is far)) tt
      unwanted_here-clear w at hops v inward.Unreported is = tt

      unwanted-clear : (w at hops : ℕ) (y : Entry) → t to ≡ y → AreClear (unwanted_effect k w at hops y).packets
      unwanted-clear w at hops entry.Nothing is = tt
      unwanted-clear w at hops (entry.Here v) is = unwanted_here-clear w at hops v v.inward is
      unwanted-clear w at hops (entry.Left there h) is = tt
      unwanted-clear w at hops (entry.Destroyed m) is = tt

      parcel-clear : (m at hops : ℕ) (bytes : List ℕ) (ms : List MovingPicture) (o : Option HereView) → AreFar ms → ((v : HereView) → o ≡ Some v → t to ≡ entry.Here v) → AreClear (parcel_effect k made t to m at hops bytes ms o).packets
      parcel-clear m at hops bytes ms None brought there =
          let passed = passing-each (λ m. IsFar q m.end) k made t ms brought in
          ((far-opposite to far, none-among (map (left_value k) (passing k made t ms)) (left-each (λ m. IsFar q m.end) k (λ m is. is) (passing k made t ms) passed)), tt)
      parcel-clear m at hops bytes ms (Some v) brought there =
          let here = far-here to v (there v refl) far in
          let came = arriving-each (λ m. IsFar q m.end) k made v.holder t ms brought in (
            (far-opposite v.value.end here, refl),
            all-append (IsClear q) _ (view_news k at hops v inward.Unreported) (packets-each (λ m. IsFar q m.end) (IsClear q) (arrival_packets k) (arrival-clear k) (arriving k made v.holder t ms) came)
                (news-clear k at hops v inward.Unreported here),
          )

      taken-clear : (m at hops : ℕ) (o : Option HereView) → ((v : HereView) → o ≡ Some v → t to ≡ entry.Here v) → AreClear (taken_effect k m at hops o).packets
      taken-clear m at hops None there = tt
      taken-clear m at hops (Some v) there = news-clear k at hops v v.inward (far-here to v (there v refl) far)

      back-clear : (m : ℕ) (ms : List MovingPicture) (o : Option HereView) → AreFar ms → ((v : HereView) → o ≡ Some v → t to ≡ entry.Here v) → AreClear (back_effect k made t from to m ms o).packets
      back-clear m ms None brought there = packets-each (λ m. IsFar q m.end) (IsClear q) (gone_packets k) (gone-clear k) (passing k made t ms) (passing-each (λ m. IsFar q m.end) k made t ms brought)
      back-clear m ms (Some v) brought there =
          let here = far-here to v (there v refl) far in
          let told = packets-each (λ m. IsFar q m.end) (IsClear q) (arrival_packets k) (arrival-clear k) (arriving k made v.holder t ms) (arriving-each (λ m. IsFar q m.end) k made v.holder t ms brought) in
          either-clear v.value.dead (returns_effect k to m (arriving k made v.holder t ms) v) (returns_first_effect k from to m (arriving k made v.holder t ms) v) told
          (all-append (IsClear q) (forget_packets k v.value) _ (forgets-clear k v.value here) ((far-opposite v.value.end here, refl), told))

      gone_row-clear : (at : ℕ) (y : Entry) → t to ≡ y → AreClear (gone_effect k to at y).packets
      gone_row-clear at entry.Nothing is = tt
      gone_row-clear at (entry.Here v) is =
          let here = far-here to v is far in
          either-clear v.value.dead _ _ ((far-opposite v.value.end here, refl), tt) (all-append (IsClear q) (forget_packets k v.value) _ (forgets-clear k v.value here) ((far-opposite v.value.end here, refl), tt))
      gone_row-clear at (entry.Left there h) is = ((far.0, refl), tt)
      gone_row-clear at (entry.Destroyed m) is = ((far-opposite to far, refl), forgets-clear k m (subst (IsFar q) (sym (subst (IsOfEnd to) is (own to))) far))

      moved-clear : (at hops : ℕ) (y : Entry) → t to ≡ y → AreClear (moved_effect k to at hops y).packets
      moved-clear at hops entry.Nothing is = tt
      moved-clear at hops (entry.Here v) is =
          let here = far-here to v is far in
          either-clear v.value.dead nothing _ tt (all-append (IsClear q) (view_news k at hops v v.inward) _ (news-clear k at hops v v.inward here) ((far-opposite v.value.end here, refl), tt))
      moved-clear at hops (entry.Left there h) is = ((far.0, refl), tt)
      moved-clear at hops (entry.Destroyed m) is = ((far-opposite to far, refl), tt)

      known-clear : (hops : ℕ) (y : Entry) → t to ≡ y → AreClear (known_effect k hops y).packets
      known-clear hops entry.Nothing is = tt
      known-clear hops (entry.Here v) is = either-clear (not v.value.dead && nat_eq v.value.hops hops) _ nothing (forgets-clear k v.value (far-here to v is far)) tt
      known-clear hops (entry.Left there h) is = tt
      known-clear hops (entry.Destroyed m) is = tt

      forget-clear : (hops : ℕ) (y : Entry) → AreClear (forget_effect to hops y).packets
      forget-clear hops entry.Nothing = tt
      forget-clear hops (entry.Here v) = tt
      forget-clear hops (entry.Left there h) = either-clear (nat_le h hops) _ nothing tt tt
      forget-clear hops (entry.Destroyed m) = tt

      goneseen-clear : (y : Entry) → t to ≡ y → AreClear (goneseen_effect k y).packets
      goneseen-clear entry.Nothing is = tt
      goneseen-clear (entry.Here v) is = tt
      goneseen-clear (entry.Left there h) is = tt
      goneseen-clear (entry.Destroyed m) is = forgets-clear k m (subst (IsFar q) (sym (subst (IsOfEnd to) is (own to))) far)

    -- any packet, where the end is far from all ends that it touches
    pub row-clear : (made from : ℕ) (what : PictureWhat) → AllByRecursion (IsFar q) (row_ends t what) → AreClear (row_effect k made from t what).packets
    row-clear made from (packet.Want to w at hops) far = want-clear made from to far.0 w at hops (t to) refl (first_part (enclosed_at (t to)) [] far.1)
    row-clear made from (packet.Unwant to w at hops) far = unwant-clear made from to far.0 w at hops (t to) refl
    row-clear made from (packet.Unwanted to w at hops) far = unwanted-clear made from to far.0 w at hops (t to) refl
    row-clear made from (packet.Parcel to m w at hops bytes ms) far =
        parcel-clear made from to far.0 m at hops bytes ms (asks w (t to)) (far-values ms (second_part (enclosed_at (t to)) (ends_in ms) far.1)) (λ v is. (asks-here w (t to) v is).0)
    row-clear made from (packet.Taken to m at hops) far = taken-clear made from to far.0 m at hops (awaits m (t to)) (λ v is. (awaits-here m (t to) v is).0)
    row-clear made from (packet.Back to m ms) far = back-clear made from to far.0 m ms (awaits m (t to)) (far-values ms (second_part (enclosed_at (t to)) (ends_in ms) far.1)) (λ v is. (awaits-here m (t to) v is).0)
    row-clear made from (packet.Gone to at) far = gone_row-clear made from to far.0 at (t to) refl
    row-clear made from (packet.Moved to at hops) far = moved-clear made from to far.0 at hops (t to) refl
    row-clear made from (packet.Known to hops) far = known-clear made from to far.0 hops (t to) refl
    row-clear made from (packet.Forget to hops) far = forget-clear made from to far.0 hops (t to)
    row-clear made from (packet.GoneSeen to) far = goneseen-clear made from to far.0 (t to) refl
