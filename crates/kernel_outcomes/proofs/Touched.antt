-- An event changes no other ends than those that it touches.
use Rattle.std.proofs.Common.{◌≡◌, ℕ, Bool, true, false, not, nat_eq, nat_le, nat_lt, ◌&&◌, ◌||◌, List, [], ◌∷◌, ◌++◌, Option, Some, None, refl, sym, ap, subst, ◌∙◌, if◌then◌else◌}
use Rattle.std.proofs.lemmas.List.Folds.{list_any-append}
use Rattle.std.specs.List.{list_any}
use Rattle.charlotte_calls.specs.Names.{opposite}
use Rattle.charlotte_calls.specs.declared.calls.Call.{Call}
use Rattle.charlotte_calls.specs.declared.calls.Call.TheVariants as call
use Rattle.charlotte_calls.specs.declared.names.EndId.{EndId}
use Rattle.charlotte_calls.specs.declared.names.Pid.{Pid}
use Rattle.charlotte_calls.specs.declared.names.Way.TheVariants as way
use Rattle.charlotte_packets.specs.declared.picture.MovingPicture.{MovingPicture}
use Rattle.charlotte_packets.specs.declared.picture.PictureWhat.{PictureWhat}
use Rattle.charlotte_packets.specs.declared.picture.PictureWhat.TheVariants as packet
use Rattle.end_table.proofs.EndEq.{end_eq-sym}
use Rattle.end_table.specs.Entries.{settled}
use Rattle.end_table.specs.Owned.{owned}
use Rattle.end_table.specs.Place.{end_eq, put}
use Rattle.end_table.specs.Table.{IsOfEnd}
use Rattle.end_table.specs.declared.entry.Entry.{Entry}
use Rattle.end_table.specs.declared.entry.Entry.TheVariants as entry
use Rattle.end_table.specs.declared.entry.HereView.{HereView}
use Rattle.end_table.specs.declared.entry.Holder.{Holder}
use Rattle.end_table.specs.declared.entry.Holder.TheVariants as holder
use Rattle.end_table.specs.declared.entry.Inward.{Inward}
use Rattle.end_table.specs.declared.entry.Inward.TheVariants as inward
use Rattle.end_table.specs.declared.entry.Outward.{Outward}
use Rattle.end_table.specs.declared.entry.Outward.TheVariants as outward
use Rattle.kernel_effects.proofs.Folds.{brings-others}
use Rattle.kernel_effects.specs.Actions.{ended_of, held_entry, learn_effect, left_of, match_waiting_effect}
use Rattle.kernel_effects.specs.Effect.{Effect, brings, changed, nothing, puts, stays, turns}
use Rattle.kernel_effects.specs.Rows.{asked_view, back_effect, forget_effect, frees_effect, gone_effect, goneseen_effect, known_effect, moved_effect, parcel_effect, returns_effect}
use Rattle.kernel_effects.specs.Rows.{returns_first_effect, row_effect, taken_effect, unwant_effect, unwanted_effect, unwanted_here_effect, voids_effect, want_effect, wants_effect}
use Rattle.kernel_effects.specs.Calls.{act_effect, effect_on, ended_list, withdraw_posted_effect}
use Rattle.kernel_outcomes.proofs.Sound.{none-passing}
use Rattle.kernel_outcomes.specs.Touched.{act_ends, enclosed_at, row_ends}
use Rattle.kernel_sound.proofs.Parcels.{asks-here, awaits-here}
use Rattle.kernel_sound.proofs.Actions.{learned-end}
use Rattle.kernel_sound.proofs.Needs.{owned-here}
use Rattle.kernel_step.proofs.EnclosedEnds.{first_false, second_false}
use Rattle.kernel_step.proofs.Folds.{AreOwn}
use Rattle.kernel_step.specs.Actions.{enclosed_of, hint_kernel}
use Rattle.kernel_step.specs.Calls.{made_end}
use Rattle.kernel_step.specs.Rows.{arriving, asks, awaits, ends_in, is_carried, passing}

-- ---- ends that stay

-- of two effects, as a test tells
either-stays : (b : Bool) (f g : Effect) (q : EndId) (y : Entry) → f.entry q y ≡ y → g.entry q y ≡ y → (if b then f else g).entry q y ≡ y
either-stays true f g q y first second = first
either-stays false f g q y first second = second

-- an end that is not the one whose entry is put
puts-stays : (e : EndId) (x : Entry) (others : EndId → Entry → Entry) (q : EndId) (y : Entry) → end_eq e q ≡ false → others q y ≡ y → puts e x others q y ≡ y
puts-stays e x others q y apart stay = ap (λ b. if b then x else others q y) apart ∙ stay

-- an end that is none of some
turns-stays : (xs : List EndId) (word : Entry → Entry) (q : EndId) (y : Entry) → list_any (end_eq q) xs ≡ false → turns xs word stays q y ≡ y
turns-stays xs word q y none = ap (λ b. if b then word y else y) none

-- values that arrive are some of all
none-arriving : (k made : ℕ) (h : Holder) (t : EndId → Entry) (e : EndId) (ms : List MovingPicture) → list_any (end_eq e) (ends_in ms) ≡ false → list_any (end_eq e) (ends_in (arriving k made h t ms)) ≡ false
none-arriving k made h t e [] none = refl
none-arriving k made h t e (m ∷ ms) none = by (is_carried k made t m) (none-arriving k made h t e ms (second_false _ _ none)) (none-arriving k made h (put t m.end (entry.Here (settled h m))) e ms (second_false _ _ none))
  where
    rest : List MovingPicture
    rest = arriving k made h (put t m.end (entry.Here (settled h m))) ms

    by : (b : Bool) → list_any (end_eq e) (ends_in (arriving k made h t ms)) ≡ false → list_any (end_eq e) (ends_in rest) ≡ false → list_any (end_eq e) (ends_in (if b then m ∷ rest else arriving k made h t ms)) ≡ false
    by true same after = ap (λ b. b || list_any (end_eq e) (ends_in rest)) (first_false _ _ none) ∙ after
    by false same after = same

-- a packet changes the ends that it touches alone
module _ (k made from : ℕ) (t : EndId → Entry) (own : AreOwn t) (q : EndId) (y : Entry) where
  module _ (to : EndId) (values : List MovingPicture) (none : list_any (end_eq q) (to ∷ enclosed_at (t to) ++ ends_in values) ≡ false) where
    apart : end_eq to q ≡ false
    apart = end_eq-sym to q ∙ first_false _ _ none

    parts : (list_any (end_eq q) (enclosed_at (t to)) || list_any (end_eq q) (ends_in values)) ≡ false
    parts = sym (list_any-append (end_eq q) (enclosed_at (t to)) (ends_in values)) ∙ second_false _ _ none

    brought : list_any (end_eq q) (ends_in values) ≡ false
    brought = second_false _ _ parts

    -- an entry that is here or a mark is of the end
    apart_here : (v : HereView) → t to ≡ entry.Here v → end_eq v.value.end q ≡ false
    apart_here v is = ap (λ e. end_eq e q) (subst (IsOfEnd to) is (own to)) ∙ apart

    apart_mark : (m : MovingPicture) → t to ≡ entry.Destroyed m → end_eq m.end q ≡ false
    apart_mark m is = ap (λ e. end_eq e q) (subst (IsOfEnd to) is (own to)) ∙ apart

    enclosed_here : (v : HereView) → t to ≡ entry.Here v → list_any (end_eq q) (enclosed_of v.outward) ≡ false
    enclosed_here v is = subst (λ z. list_any (end_eq q) (enclosed_at z) ≡ false) is (first_false _ _ parts)

    matched-stays : (v : HereView) (o : Outward) → end_eq v.value.end q ≡ false → list_any (end_eq q) (enclosed_of o) ≡ false → (match_waiting_effect k t v o).entry q y ≡ y
    matched-stays v outward.Idle other none = puts-stays v.value.end _ stays q y other refl
    matched-stays v (outward.Waiting n bytes xs) other none = puts-stays v.value.end _ (turns xs (left_of (hint_kernel v)) stays) q y other (turns-stays xs (left_of (hint_kernel v)) q y none)
    matched-stays v (outward.Matched n) other none = puts-stays v.value.end _ stays q y other refl
    matched-stays v outward.Unreported other none = puts-stays v.value.end _ stays q y other refl

    learned-stays : (at hops : ℕ) (v : HereView) → t to ≡ entry.Here v → (learn_effect k at hops v).entry q y ≡ y
    learned-stays at hops v is = puts-stays v.value.end _ stays q y (apart_here v is) refl

    unserved-stays : (w at hops : ℕ) (v : HereView) (effect : Effect) → t to ≡ entry.Here v → effect.entry q y ≡ y → (if v.value.dead then nothing else if nat_lt v.value.served w then effect else learn_effect k at hops v).entry q y ≡ y
    unserved-stays w at hops v effect is stay =
        either-stays v.value.dead nothing (if nat_lt v.value.served w then effect else learn_effect k at hops v) q y refl
        (either-stays (nat_lt v.value.served w) effect (learn_effect k at hops v) q y stay (learned-stays at hops v is))

    want-stays : (w at hops : ℕ) (x : Entry) → t to ≡ x → (want_effect k t to w at hops x).entry q y ≡ y
    want-stays w at hops entry.Nothing is = refl
    want-stays w at hops (entry.Here v) is =
        unserved-stays w at hops v (wants_effect k t w at hops v) is
        (matched-stays (asked_view w at hops v) v.outward (ap (λ e. end_eq e q) (learned-end at hops v.value) ∙ apart_here v is) (enclosed_here v is))
    want-stays w at hops (entry.Left there h) is = refl
    want-stays w at hops (entry.Destroyed m) is = refl

    unwant-stays : (w at hops : ℕ) (x : Entry) → t to ≡ x → (unwant_effect k to w at hops x).entry q y ≡ y
    unwant-stays w at hops entry.Nothing is = refl
    unwant-stays w at hops (entry.Here v) is = unserved-stays w at hops v (voids_effect k w at hops v) is (puts-stays v.value.end _ stays q y (apart_here v is) refl)
    unwant-stays w at hops (entry.Left there h) is = refl
    unwant-stays w at hops (entry.Destroyed m) is = refl

    unwanted_here-stays : (w at hops : ℕ) (v : HereView) (i : Inward) → t to ≡ entry.Here v → (unwanted_here_effect k w at hops v i).entry q y ≡ y
    unwanted_here-stays w at hops v inward.Idle is = refl
    unwanted_here-stays w at hops v (inward.Posted x) is = refl
    unwanted_here-stays w at hops v (inward.Withdrawing x) is = either-stays (nat_eq x w) (frees_effect k at hops v) nothing q y (puts-stays v.value.end _ stays q y (apart_here v is) refl) refl
    unwanted_here-stays w at hops v inward.Unreported is = refl

    unwanted-stays : (w at hops : ℕ) (x : Entry) → t to ≡ x → (unwanted_effect k w at hops x).entry q y ≡ y
    unwanted-stays w at hops entry.Nothing is = refl
    unwanted-stays w at hops (entry.Here v) is = unwanted_here-stays w at hops v v.inward is
    unwanted-stays w at hops (entry.Left there h) is = refl
    unwanted-stays w at hops (entry.Destroyed m) is = refl

    parcel-stays : (n at hops : ℕ) (bytes : List ℕ) (o : Option HereView) → ((v : HereView) → o ≡ Some v → t to ≡ entry.Here v) → (parcel_effect k made t to n at hops bytes values o).entry q y ≡ y
    parcel-stays n at hops bytes None there = brings-others (passing k made t values) _ stays q y (none-passing k made t q values brought)
    parcel-stays n at hops bytes (Some v) there =
        puts-stays v.value.end _ (brings (arriving k made v.holder t values) (λ m. entry.Here (settled v.holder m)) stays) q y (apart_here v (there v refl)) (brings-others (arriving k made v.holder t values) _ stays q y (none-arriving k made v.holder t q values brought))

    taken-stays : (n at hops : ℕ) (o : Option HereView) → ((v : HereView) → o ≡ Some v → t to ≡ entry.Here v) → (taken_effect k n at hops o).entry q y ≡ y
    taken-stays n at hops None there = refl
    taken-stays n at hops (Some v) there = puts-stays v.value.end _ stays q y (apart_here v (there v refl)) refl

    back-stays : (n : ℕ) (o : Option HereView) → ((v : HereView) → o ≡ Some v → t to ≡ entry.Here v) → (back_effect k made t from to n values o).entry q y ≡ y
    back-stays n None there = brings-others (passing k made t values) _ stays q y (none-passing k made t q values brought)
    back-stays n (Some v) there =
        let came = arriving k made v.holder t values in
        let others = brings came (λ m. entry.Here (settled v.holder m)) stays in
        let stay : others q y ≡ y = brings-others came _ stays q y (none-arriving k made v.holder t q values brought) in
        either-stays v.value.dead (returns_effect k to n came v) (returns_first_effect k from to n came v) q y
        (puts-stays v.value.end _ others q y (apart_here v (there v refl)) stay) (puts-stays v.value.end _ others q y (apart_here v (there v refl)) stay)

    gone-stays : (at : ℕ) (x : Entry) → t to ≡ x → (gone_effect k to at x).entry q y ≡ y
    gone-stays at entry.Nothing is = refl
    gone-stays at (entry.Here v) is =
        either-stays v.value.dead _ _ q y refl
        (puts-stays v.value.end _ (turns (enclosed_of v.outward) (held_entry v.holder) stays) q y (apart_here v is) (turns-stays (enclosed_of v.outward) (held_entry v.holder) q y (enclosed_here v is)))
    gone-stays at (entry.Left there h) is = refl
    gone-stays at (entry.Destroyed m) is = puts-stays m.end _ stays q y (apart_mark m is) refl

    moved-stays : (at hops : ℕ) (x : Entry) → t to ≡ x → (moved_effect k to at hops x).entry q y ≡ y
    moved-stays at hops entry.Nothing is = refl
    moved-stays at hops (entry.Here v) is = either-stays v.value.dead nothing _ q y refl (learned-stays at hops v is)
    moved-stays at hops (entry.Left there h) is = refl
    moved-stays at hops (entry.Destroyed m) is = puts-stays to _ stays q y apart refl

    known-stays : (hops : ℕ) (x : Entry) → t to ≡ x → (known_effect k hops x).entry q y ≡ y
    known-stays hops entry.Nothing is = refl
    known-stays hops (entry.Here v) is = either-stays (not v.value.dead && nat_eq v.value.hops hops) _ nothing q y (puts-stays v.value.end _ stays q y (apart_here v is) refl) refl
    known-stays hops (entry.Left there h) is = refl
    known-stays hops (entry.Destroyed m) is = refl

    forget-stays : (hops : ℕ) (x : Entry) → (forget_effect to hops x).entry q y ≡ y
    forget-stays hops entry.Nothing = refl
    forget-stays hops (entry.Here v) = refl
    forget-stays hops (entry.Left there h) = either-stays (nat_le h hops) (changed (puts to entry.Nothing stays)) nothing q y (puts-stays to _ stays q y apart refl) refl
    forget-stays hops (entry.Destroyed m) = refl

    goneseen-stays : (x : Entry) → t to ≡ x → (goneseen_effect k x).entry q y ≡ y
    goneseen-stays entry.Nothing is = refl
    goneseen-stays (entry.Here v) is = refl
    goneseen-stays (entry.Left there h) is = refl
    goneseen-stays (entry.Destroyed m) is = puts-stays m.end _ stays q y (apart_mark m is) refl

  pub row-stays : (what : PictureWhat) → list_any (end_eq q) (row_ends t what) ≡ false → (row_effect k made from t what).entry q y ≡ y
  row-stays (packet.Want to w at hops) none = want-stays to [] none w at hops (t to) refl
  row-stays (packet.Unwant to w at hops) none = unwant-stays to [] none w at hops (t to) refl
  row-stays (packet.Unwanted to w at hops) none = unwanted-stays to [] none w at hops (t to) refl
  row-stays (packet.Parcel to n w at hops bytes ms) none = parcel-stays to ms none n at hops bytes (asks w (t to)) (λ v is. (asks-here w (t to) v is).0)
  row-stays (packet.Taken to n at hops) none = taken-stays to [] none n at hops (awaits n (t to)) (λ v is. (awaits-here n (t to) v is).0)
  row-stays (packet.Back to n ms) none = back-stays to ms none n (awaits n (t to)) (λ v is. (awaits-here n (t to) v is).0)
  row-stays (packet.Gone to at) none = gone-stays to [] none at (t to) refl
  row-stays (packet.Moved to at hops) none = moved-stays to [] none at hops (t to) refl
  row-stays (packet.Known to hops) none = known-stays to [] none hops (t to) refl
  row-stays (packet.Forget to hops) none = forget-stays to [] none hops (t to)
  row-stays (packet.GoneSeen to) none = goneseen-stays to [] none (t to) refl

-- a call changes the ends that it touches alone
module _ (p : Pid) (k made : ℕ) (mine : List EndId) (t : EndId → Entry) (own : AreOwn t) (q : EndId) (y : Entry) where
  on-stays : (on : EndId) (effect : HereView → Effect) → ((v : HereView) → t on ≡ entry.Here v → (effect v).entry q y ≡ y) → (effect_on (owned p (t on)) effect).entry q y ≡ y
  on-stays on effect stay = by (owned p (t on)) refl
    where
      by : (o : Option HereView) → owned p (t on) ≡ o → (effect_on o effect).entry q y ≡ y
      by None is = refl
      by (Some v) is = stay v (owned-here p (t on) v is).0

  posted-stays : (v : HereView) (i : Inward) → end_eq v.value.end q ≡ false → (withdraw_posted_effect k v i).entry q y ≡ y
  posted-stays v inward.Idle other = refl
  posted-stays v (inward.Posted w) other = puts-stays v.value.end _ stays q y other refl
  posted-stays v (inward.Withdrawing w) other = refl
  posted-stays v inward.Unreported other = refl

  named : (on : EndId) (v : HereView) → t on ≡ entry.Here v → end_eq q on ≡ false → end_eq v.value.end q ≡ false
  named on v is other = ap (λ e. end_eq e q) (subst (IsOfEnd on) is (own on)) ∙ end_eq-sym on q ∙ other

  enclosed : (on : EndId) (v : HereView) → t on ≡ entry.Here v → list_any (end_eq q) (enclosed_at (t on)) ≡ false → list_any (end_eq q) (enclosed_of v.outward) ≡ false
  enclosed on v is none = subst (λ z. list_any (end_eq q) (enclosed_at z) ≡ false) is none

  pub act-stays : (c : Call) → list_any (end_eq q) (act_ends k made mine t c) ≡ false → (act_effect p k made mine t c).entry q y ≡ y
  act-stays call.Make none =
      let a = made_end k made in
      let rest = second_false _ _ none in
      puts-stays (opposite a) _ (puts a _ stays) q y (end_eq-sym (opposite a) q ∙ first_false _ _ rest) (puts-stays a _ stays q y (end_eq-sym a q ∙ first_false _ _ none) refl)
  act-stays (call.Destroy on) none =
      on-stays on _ (λ v is. turns-stays (enclosed_of v.outward ++ on ∷ []) ended_of q y
      (list_any-append (end_eq q) (enclosed_of v.outward) (on ∷ []) ∙ ap (λ b. b || (end_eq q on || false)) (enclosed on v is (second_false _ _ none)) ∙ ap (λ b. b || false) (first_false _ _ none)))
  act-stays (call.Send on bytes xs) none =
      on-stays on _ (λ v is.
      let other = named on v is (first_false _ _ none) in
      either-stays (nat_eq v.value.want 0) _ _ q y
      (puts-stays v.value.end _ (turns xs (held_entry (holder.EnclosedIn v.value.end)) stays) q y other (turns-stays xs (held_entry (holder.EnclosedIn v.value.end)) q y (second_false _ _ none)))
      (puts-stays v.value.end _ (turns xs (left_of (hint_kernel v)) stays) q y other (turns-stays xs (left_of (hint_kernel v)) q y (second_false _ _ none))))
  act-stays (call.Receive on) none = on-stays on _ (λ v is. puts-stays v.value.end _ stays q y (named on v is (first_false _ _ none)) refl)
  act-stays (call.Cancel on way.Outward) none =
      on-stays on _ (λ v is. puts-stays v.value.end _ (turns (enclosed_of v.outward) (held_entry v.holder) stays) q y (named on v is (first_false _ _ none))
      (turns-stays (enclosed_of v.outward) (held_entry v.holder) q y (enclosed on v is (second_false _ _ none))))
  act-stays (call.Cancel on way.Inward) none = on-stays on _ (λ v is. posted-stays v v.inward (named on v is (first_false _ _ none)))
  act-stays call.Wait none = refl
  act-stays (call.Print bytes) none = refl
  act-stays call.Exit none = turns-stays (ended_list t mine) ended_of q y none
