-- What the row of a packet tells: it answers the Cancel of a receive in just the row whose step tells so.
use Rattle.std.proofs.Common.{◌≡◌, ℕ, Bool, true, false, not, nat_eq, nat_le, nat_lt, ◌&&◌, ◌⊎◌, inl, inr, List, [], ◌∷◌, ◌++◌, Option, Some, None, refl, sym, ap, subst, ◌∙◌, if◌then◌else◌}
use Rattle.charlotte_calls.specs.Names.{opposite}
use Rattle.charlotte_calls.specs.Program.{FitsCall}
use Rattle.charlotte_calls.specs.declared.calls.Answer.{Answer}
use Rattle.charlotte_calls.specs.declared.calls.Answer.TheVariants as answer
use Rattle.charlotte_calls.specs.declared.calls.Call.TheVariants as call
use Rattle.charlotte_calls.specs.declared.calls.Cause.TheVariants as cause
use Rattle.charlotte_calls.specs.declared.calls.ServiceStep.{ServiceStep}
use Rattle.charlotte_calls.specs.declared.calls.ServiceStep.TheVariants as step
use Rattle.charlotte_calls.specs.declared.names.EndId.{EndId}
use Rattle.charlotte_calls.specs.declared.names.Pid.{Pid}
use Rattle.charlotte_calls.specs.declared.names.Way.TheVariants as way
use Rattle.charlotte_packets.specs.declared.picture.MovingPicture.{MovingPicture}
use Rattle.charlotte_packets.specs.declared.picture.PictureWhat.{PictureWhat}
use Rattle.charlotte_packets.specs.declared.picture.PictureWhat.TheVariants as packet
use Rattle.end_table.proofs.EndEq.{end_eq-refl, end_eq-sym}
use Rattle.end_table.specs.Entries.{left_entry, settled}
use Rattle.end_table.specs.Place.{end_eq}
use Rattle.end_table.specs.Table.{IsOfEnd}
use Rattle.end_table.specs.declared.entry.Entry.{Entry}
use Rattle.end_table.specs.declared.entry.Entry.TheVariants as entry
use Rattle.end_table.specs.declared.entry.HereView.{HereView}
use Rattle.end_table.specs.declared.entry.Holder.{Holder}
use Rattle.end_table.specs.declared.entry.Holder.TheVariants as holder
use Rattle.end_table.specs.declared.entry.Inward.{Inward}
use Rattle.end_table.specs.declared.entry.Inward.TheVariants as inward
use Rattle.end_table.specs.declared.entry.Outward.{Outward}
use Rattle.end_table.specs.declared.entry.Outward.TheVariants as outward
use Rattle.kernel_effects.proofs.Actions.{for_holder-none}
use Rattle.kernel_effects.specs.Actions.{cancel_notice, ended_of, held_entry, left_of, learn_effect, match_waiting_effect, matched_view, noticed_view}
use Rattle.kernel_effects.specs.Effect.{Effect, changed, for_holder, nothing, puts, brings, sent, stays, turns}
use Rattle.kernel_effects.specs.Rows.{asked_view, back_effect, back_steps, erase_effect, forget_effect, frees_effect, gone_effect, goneseen_effect, known_effect, moved_effect, parcel_effect, returned_view, returns_effect}
use Rattle.kernel_effects.specs.Rows.{returns_first_effect, row_effect, take_steps, taken_effect, taken_view, unserved, unwant_effect, unwanted_effect, unwanted_here_effect, voided_view, voids_effect, want_effect, wants_effect}
use Rattle.kernel_sound.proofs.Actions.{learned-end}
use Rattle.kernel_sound.proofs.Needs.{IfHere-at, enclosed_at-sound}
use Rattle.kernel_sound.proofs.Parcels.{asks-here, awaits-here}
use Rattle.kernel_sound.proofs.Values.{AreComing, AreComing-arriving, AreGone, AreGone-passing}
use Rattle.kernel_sound.specs.Sound.{IsHeldWell, IsSound}
use Rattle.kernel_step.specs.Actions.{enclosed_of, is_withdrawing, learned_view, noticed_inward}
use Rattle.kernel_step.specs.Enclosed.{AreEnclosed}
use Rattle.kernel_step.specs.Rows.{arriving, asks, awaits, is_here, passing}
use Rattle.told_answers.proofs.Cancellers.{canceller, canceller_in, canceller-calm, canceller-ended, canceller-left, held_entry-none, left_of-none, brings-same, opposite-differs, puts-at, puts-other, puts-same, turns-idle}
use Rattle.told_answers.specs.Told.{cancel_in, first_in, or_else, report_in}

-- an effect that answers no Cancel, and tells of none
pub record IsSilent (t : EndId → Entry) (f : Effect) : Type 0 where
  pub cancellers : (q : EndId) → canceller (f.entry q (t q)) ≡ canceller (t q)
  pub cancels : (q : EndId) → first_in (cancel_in q) f.steps ≡ None
  pub reports : (p : Pid) → first_in (report_in p) f.steps ≡ None
  pub answers : f.answers ≡ []

-- an effect that answers the Cancel of p on e with a, and tells just that
pub record IsAnswer (t : EndId → Entry) (f : Effect) : Type 0 where
  pub e : EndId
  pub p : Pid
  pub a : Answer
  pub before : canceller (t e) ≡ Some p
  pub after : canceller (f.entry e (t e)) ≡ None
  pub others : (q : EndId) → end_eq e q ≡ false → canceller (f.entry q (t q)) ≡ canceller (t q)
  pub cancel : first_in (cancel_in e) f.steps ≡ Some a
  pub cancels : (q : EndId) → end_eq e q ≡ false → first_in (cancel_in q) f.steps ≡ None
  pub reports : (r : Pid) → first_in (report_in r) f.steps ≡ None
  pub answers : f.answers ≡ (p, a) ∷ []
  pub fits : FitsCall (call.Cancel e way.Inward) a

abbrev pub Tells : (EndId → Entry) → Effect → Type 0
Tells t f = IsSilent t f ⊎ IsAnswer t f

-- one of two
either-silent : (t : EndId → Entry) (b : Bool) (f g : Effect) → IsSilent t f → IsSilent t g → IsSilent t (if b then f else g)
either-silent t true f g first second = first
either-silent t false f g first second = second

either-tells : (t : EndId → Entry) (b : Bool) (f g : Effect) → Tells t f → Tells t g → Tells t (if b then f else g)
either-tells t true f g first second = first
either-tells t false f g first second = second

-- values that come were not here
pub AreGone-coming : (k made : ℕ) (t : EndId → Entry) (ms : List MovingPicture) → AreComing k made t ms → AreGone t ms
AreGone-coming k made t [] come = tt
AreGone-coming k made t (m ∷ ms) come = (come.0, AreGone-coming k made t ms come.3)

-- what one step tells, where this holds
abbrev when : Bool → Answer → Option Answer
when b a = or_else (if b then Some a else None) None

-- a step that says that it answers no Cancel tells of none
unanswered : (b : Bool) (a : Answer) → when (b && false) a ≡ None
unanswered true a = refl
unanswered false a = refl

module _ (k made n from : ℕ) (t : EndId → Entry) (sound : IsSound k made n t) where
  silent-nothing : IsSilent t nothing
  silent-nothing = record { cancellers = λ q. refl; cancels = λ q. refl; reports = λ p. refl; answers = refl }

  -- an end that is here stands at its name
  named : (to : EndId) (v : HereView) → t to ≡ entry.Here v → t v.value.end ≡ entry.Here v
  named to v is = ap t (subst (IsOfEnd to) is (sound.own to)) ∙ is

  -- the view of an end changes, and a Cancel waits there as before
  silent-view : (f : Effect) (e : EndId) (v u : HereView) (others : EndId → Entry → Entry) → t e ≡ entry.Here v → canceller (entry.Here u) ≡ canceller (entry.Here v)
      → ((q : EndId) (y : Entry) → f.entry q y ≡ puts e (entry.Here u) others q y) → ((q : EndId) → canceller (others q (t q)) ≡ canceller (t q))
      → f.answers ≡ [] → ((q : EndId) → first_in (cancel_in q) f.steps ≡ None) → ((p : Pid) → first_in (report_in p) f.steps ≡ None) → IsSilent t f
  silent-view f e v u others there same at stay answers cancels reports =
      record {
        cancellers = λ q. ap canceller (at q (t q)) ∙ puts-same t e (entry.Here u) others q (same ∙ sym (ap canceller there)) (stay q);
        cancels = cancels;
        reports = reports;
        answers = answers;
      }

  -- an end whose receive is being withdrawn has an owner
  withdrawing-owner : (v : HereView) (h : Holder) → IsHeldWell n v h → is_withdrawing v.inward ≡ true → (p : Pid) × (h ≡ holder.Owner p)
  withdrawing-owner v (holder.Owner p) well waits = (p, refl)
  withdrawing-owner v (holder.EnclosedIn on) well waits = let none : true ≡ false = sym waits ∙ ap is_withdrawing well.inward in cc

  -- the Cancel that waits at an end is answered
  answers-view : (f : Effect) (v u : HereView) (others : EndId → Entry → Entry) (a : Answer) → t v.value.end ≡ entry.Here v → is_withdrawing v.inward ≡ true → is_withdrawing u.inward ≡ false
      → ((q : EndId) (y : Entry) → f.entry q y ≡ puts v.value.end (entry.Here u) others q y) → ((q : EndId) → canceller (others q (t q)) ≡ canceller (t q))
      → f.answers ≡ for_holder v.holder (a ∷ []) → first_in (cancel_in v.value.end) f.steps ≡ Some a → ((q : EndId) → end_eq v.value.end q ≡ false → first_in (cancel_in q) f.steps ≡ None)
      → ((p : Pid) → first_in (report_in p) f.steps ≡ None) → FitsCall (call.Cancel v.value.end way.Inward) a → IsAnswer t f
  answers-view f v u others a there waits over at stay answers cancel cancels reports fits =
      let e : EndId = v.value.end in
      let owner = withdrawing-owner v v.holder (IfHere-at (t e) v (λ z. IsHeldWell n z z.holder) there (sound.held e)) waits in
      record {
        e = e;
        p = owner.0;
        a = a;
        before = ap canceller there ∙ ap (λ h. canceller_in h v.inward) owner.1 ∙ ap (λ b. if b then Some owner.0 else None) waits;
        after = ap canceller (at e (t e)) ∙ puts-at t e (entry.Here u) others ∙ canceller-calm u.holder u.inward over;
        others = λ q apart. ap canceller (at q (t q)) ∙ puts-other t e (entry.Here u) others q apart (stay q);
        cancel = cancel;
        cancels = cancels;
        reports = reports;
        answers = answers ∙ ap (λ h. for_holder h (a ∷ [])) owner.1;
        fits = fits;
      }

  silent-learn : (at hops : ℕ) (v : HereView) → t v.value.end ≡ entry.Here v → IsSilent t (learn_effect k at hops v)
  silent-learn at hops v there = silent-view (learn_effect k at hops v) v.value.end v (learned_view v at hops) stays there refl (λ q y. refl) (λ q. refl) refl (λ q. refl) (λ p. refl)

  -- a want that finds a send that waits, or none
  silent-match : (v u : HereView) (o : Outward) → t u.value.end ≡ entry.Here v → canceller (entry.Here u) ≡ canceller (entry.Here v) → AreEnclosed t (enclosed_of o) → IsSilent t (match_waiting_effect k t u o)
  silent-match v u outward.Idle there same are = silent-view (match_waiting_effect k t u outward.Idle) u.value.end v u stays there same (λ q y. refl) (λ q. refl) refl (λ q. refl) (λ p. refl)
  silent-match v u (outward.Waiting m bytes xs) there same are =
      silent-view (match_waiting_effect k t u (outward.Waiting m bytes xs)) u.value.end v (matched_view u m) (turns xs (left_of u.value.hint.0) stays) there same (λ q y. refl)
      (λ q. turns-idle t xs (left_of u.value.hint.0) q are (left_of-none u.value.hint.0)) refl (λ q. refl) (λ p. refl)
  silent-match v u (outward.Matched m) there same are = silent-view (match_waiting_effect k t u (outward.Matched m)) u.value.end v u stays there same (λ q y. refl) (λ q. refl) refl (λ q. refl) (λ p. refl)
  silent-match v u outward.Unreported there same are = silent-view (match_waiting_effect k t u outward.Unreported) u.value.end v u stays there same (λ q y. refl) (λ q. refl) refl (λ q. refl) (λ p. refl)

  silent-unserved : (w at hops : ℕ) (v : HereView) (effect : Effect) → t v.value.end ≡ entry.Here v → IsSilent t effect → IsSilent t (unserved k w at hops v effect)
  silent-unserved w at hops v effect there is =
      either-silent t v.value.dead nothing (if nat_lt v.value.served w then effect else learn_effect k at hops v) silent-nothing
      (either-silent t (nat_lt v.value.served w) effect (learn_effect k at hops v) is (silent-learn at hops v there))

  want-silent : (to : EndId) (w at hops : ℕ) (x : Entry) → t to ≡ x → IsSilent t (want_effect k t to w at hops x)
  want-silent to w at hops entry.Nothing is = silent-nothing
  want-silent to w at hops (entry.Here v) is =
      let there = named to v is in
      let asked = silent-match v (asked_view w at hops v) v.outward (ap t (learned-end at hops v.value) ∙ there) refl (enclosed_at-sound k made n t sound to v is) in
      silent-unserved w at hops v (wants_effect k t w at hops v) there (record { cancellers = asked.cancellers; cancels = asked.cancels; reports = asked.reports; answers = asked.answers })
  want-silent to w at hops (entry.Left there h) is = record { cancellers = λ q. refl; cancels = λ q. refl; reports = λ p. refl; answers = refl }
  want-silent to w at hops (entry.Destroyed m) is = silent-nothing

  unwant-silent : (to : EndId) (w at hops : ℕ) (x : Entry) → t to ≡ x → IsSilent t (unwant_effect k to w at hops x)
  unwant-silent to w at hops entry.Nothing is = silent-nothing
  unwant-silent to w at hops (entry.Here v) is =
      let there = named to v is in
      silent-unserved w at hops v (voids_effect k w at hops v) there
      (silent-view (voids_effect k w at hops v) v.value.end v (voided_view w at hops v) stays there refl (λ q y. refl) (λ q. refl) refl (λ q. refl) (λ p. refl))
  unwant-silent to w at hops (entry.Left there h) is = record { cancellers = λ q. refl; cancels = λ q. refl; reports = λ p. refl; answers = refl }
  unwant-silent to w at hops (entry.Destroyed m) is = silent-nothing

  -- unwanted: the Cancel is answered Ok
  frees-answers : (at hops : ℕ) (v : HereView) → t v.value.end ≡ entry.Here v → is_withdrawing v.inward ≡ true → IsAnswer t (frees_effect k at hops v)
  frees-answers at hops v there waits =
      let e : EndId = v.value.end in
      answers-view (frees_effect k at hops v) v (record (learned_view v at hops) { inward = inward.Idle }) stays answer.Ok there waits refl (λ q y. refl) (λ q. refl) refl
      (ap (λ b. when b answer.Ok) (end_eq-refl e)) (λ q apart. ap (λ b. when b answer.Ok) (end_eq-sym q e ∙ apart)) (λ p. refl) refl

  unwanted_here-tells : (w at hops : ℕ) (v : HereView) (i : Inward) → t v.value.end ≡ entry.Here v → v.inward ≡ i → Tells t (unwanted_here_effect k w at hops v i)
  unwanted_here-tells w at hops v inward.Idle there is = inl silent-nothing
  unwanted_here-tells w at hops v (inward.Posted x) there is = inl silent-nothing
  unwanted_here-tells w at hops v (inward.Withdrawing x) there is =
      either-tells t (nat_eq x w) (frees_effect k at hops v) nothing (inr (frees-answers at hops v there (ap is_withdrawing is))) (inl silent-nothing)
  unwanted_here-tells w at hops v inward.Unreported there is = inl silent-nothing

  unwanted-tells : (to : EndId) (w at hops : ℕ) (x : Entry) → t to ≡ x → Tells t (unwanted_effect k w at hops x)
  unwanted-tells to w at hops entry.Nothing is = inl silent-nothing
  unwanted-tells to w at hops (entry.Here v) is = unwanted_here-tells w at hops v v.inward (named to v is) refl
  unwanted-tells to w at hops (entry.Left there h) is = inl silent-nothing
  unwanted-tells to w at hops (entry.Destroyed m) is = inl silent-nothing

  -- parcel: a message that meets the Cancel of its receive answers it Late
  receives-tells : (m at hops : ℕ) (bytes : List ℕ) (came : List MovingPicture) (v : HereView) (h : Holder) (late : Bool) → t v.value.end ≡ entry.Here v → AreGone t came → v.holder ≡ h → is_withdrawing v.inward ≡ late → IsHeldWell n v h
      → (f : Effect)
      → ((q : EndId) (y : Entry) → f.entry q y ≡ puts v.value.end (entry.Here (taken_view at hops v)) (brings came (λ z. entry.Here (settled v.holder z)) stays) q y)
      → f.answers ≡ for_holder v.holder (if late then answer.Refused cause.Late ∷ [] else []) → f.steps ≡ take_steps v.value.end m late h → Tells t f
  receives-tells m at hops bytes came v (holder.EnclosedIn on) late there gone owner waits well f after answers steps =
      inl (silent-view f v.value.end v (taken_view at hops v) (brings came (λ z. entry.Here (settled v.holder z)) stays) there
      (canceller-calm v.holder inward.Unreported refl ∙ sym (ap (λ z. canceller_in z v.inward) owner)) after (λ q. brings-same t came _ q gone (λ z. canceller-calm v.holder inward.Idle refl))
      (answers ∙ ap (λ z. for_holder z (if late then answer.Refused cause.Late ∷ [] else [])) owner) (λ q. ap (first_in (cancel_in q)) steps) (λ p. ap (first_in (report_in p)) steps))
  receives-tells m at hops bytes came v (holder.Owner p) true there gone owner waits well f after answers steps =
      let e : EndId = v.value.end in
      inr (answers-view f v (taken_view at hops v) (brings came (λ z. entry.Here (settled v.holder z)) stays) (answer.Refused cause.Late) there waits refl after (λ q. brings-same t came _ q gone (λ z. canceller-calm v.holder inward.Idle refl)) answers
      (ap (first_in (cancel_in e)) steps ∙ ap (λ b. when (b && true) (answer.Refused cause.Late)) (end_eq-refl (opposite e)))
      (λ q apart. ap (first_in (cancel_in q)) steps ∙ ap (λ b. when (b && true) (answer.Refused cause.Late)) (opposite-differs q e (end_eq-sym q e ∙ apart)))
      (λ r. ap (first_in (report_in r)) steps) refl)
  receives-tells m at hops bytes came v (holder.Owner p) false there gone owner waits well f after answers steps =
      let e : EndId = v.value.end in
      inl (silent-view f e v (taken_view at hops v) (brings came (λ z. entry.Here (settled v.holder z)) stays) there
      (canceller-calm v.holder inward.Unreported refl ∙ sym (canceller-calm v.holder v.inward waits)) after (λ q. brings-same t came _ q gone (λ z. canceller-calm v.holder inward.Idle refl))
      (answers ∙ ap (λ z. for_holder z []) owner) (λ q. ap (first_in (cancel_in q)) steps ∙ unanswered (end_eq (opposite q) (opposite e)) (answer.Refused cause.Late)) (λ r. ap (first_in (report_in r)) steps))

  parcel-tells : (to : EndId) (m at hops : ℕ) (bytes : List ℕ) (ms : List MovingPicture) (o : Option HereView) → ((v : HereView) → o ≡ Some v → t to ≡ entry.Here v) → Tells t (parcel_effect k made t to m at hops bytes ms o)
  parcel-tells to m at hops bytes ms None there =
      inl (record { cancellers = λ q. brings-same t (passing k made t ms) (left_entry at) q (AreGone-passing k made t ms) (canceller-left at); cancels = λ q. refl; reports = λ p. refl; answers = refl })
  parcel-tells to m at hops bytes ms (Some v) there =
      let is = named to v (there v refl) in
      let came = arriving k made v.holder t ms in
      receives-tells m at hops bytes came v v.holder (is_withdrawing v.inward) is (AreGone-coming k made t came (AreComing-arriving k made v.holder t ms)) refl refl
      (IfHere-at (t v.value.end) v (λ z. IsHeldWell n z z.holder) is (sound.held v.value.end)) _ (λ q y. refl) refl refl

  -- taken
  taken-silent : (to : EndId) (m at hops : ℕ) (o : Option HereView) → ((v : HereView) → o ≡ Some v → t to ≡ entry.Here v) → IsSilent t (taken_effect k m at hops o)
  taken-silent to m at hops None there = silent-nothing
  taken-silent to m at hops (Some v) there =
      silent-view (taken_effect k m at hops (Some v)) v.value.end v (record (learned_view v at hops) { outward = outward.Unreported }) stays (named to v (there v refl)) refl (λ q y. refl) (λ q. refl) refl (λ q. refl) (λ p. refl)

  -- the death of a link is noticed: a Cancel that waits is answered Dead. The step says so, and is of the end
  noticed-tells : (f : Effect) (v u : HereView) (others : EndId → Entry → Entry) (i : Inward) (last : Bool → ServiceStep) → t v.value.end ≡ entry.Here v → v.inward ≡ i → u.holder ≡ v.holder → u.inward ≡ noticed_inward i
      → ((q : EndId) (y : Entry) → f.entry q y ≡ puts v.value.end (entry.Here u) others q y) → ((q : EndId) → canceller (others q (t q)) ≡ canceller (t q))
      → f.answers ≡ for_holder v.holder (cancel_notice i) → f.steps ≡ last (is_withdrawing i) ∷ []
      → ((q : EndId) (dead : Bool) → cancel_in q (last dead) ≡ (if end_eq q v.value.end && dead then Some (answer.Refused cause.Dead) else None)) → ((p : Pid) (dead : Bool) → report_in p (last dead) ≡ None) → Tells t f
  noticed-tells f v u others i last there is held after now_at stay answers steps cancels reports = by i is after answers steps
    where
      e : EndId
      e = v.value.end

      dead_told : EndId → Bool → Option Answer
      dead_told q dead = when (end_eq q v.value.end && dead) (answer.Refused cause.Dead)

      at : (q : EndId) (dead : Bool) → f.steps ≡ last dead ∷ [] → first_in (cancel_in q) f.steps ≡ dead_told q dead
      at q dead same = ap (first_in (cancel_in q)) same ∙ ap (λ a. or_else a None) (cancels q dead)

      none : (p : Pid) (dead : Bool) → f.steps ≡ last dead ∷ [] → first_in (report_in p) f.steps ≡ None
      none p dead same = ap (first_in (report_in p)) same ∙ ap (λ a. or_else a None) (reports p dead)

      calm : (j : Inward) → v.inward ≡ j → u.inward ≡ noticed_inward j → is_withdrawing j ≡ false → is_withdrawing (noticed_inward j) ≡ false → f.answers ≡ for_holder v.holder [] → f.steps ≡ last false ∷ [] → Tells t f
      calm j was now before over answered same =
          inl (silent-view f v.value.end v u others there
          (canceller-calm u.holder u.inward (ap is_withdrawing now ∙ over) ∙ sym (canceller-calm v.holder v.inward (ap is_withdrawing was ∙ before))) now_at stay
          (answered ∙ for_holder-none v.holder) (λ q. at q false same ∙ unanswered (end_eq q v.value.end) (answer.Refused cause.Dead)) (λ p. none p false same))

      by : (j : Inward) → v.inward ≡ j → u.inward ≡ noticed_inward j → f.answers ≡ for_holder v.holder (cancel_notice j) → f.steps ≡ last (is_withdrawing j) ∷ [] → Tells t f
      by inward.Idle was now answered same = calm inward.Idle was now refl refl answered same
      by (inward.Posted w) was now answered same = calm (inward.Posted w) was now refl refl answered same
      by (inward.Withdrawing w) was now answered same =
          inr (answers-view f v u others (answer.Refused cause.Dead) there (ap is_withdrawing was) (ap is_withdrawing now) now_at stay answered
          (at v.value.end true same ∙ ap (λ b. when (b && true) (answer.Refused cause.Dead)) (end_eq-refl v.value.end))
          (λ q apart. at q true same ∙ ap (λ b. when (b && true) (answer.Refused cause.Dead)) (end_eq-sym q v.value.end ∙ apart)) (λ p. none p true same) refl)
      by inward.Unreported was now answered same = calm inward.Unreported was now refl refl answered same

  -- back
  back_steps-silent : (to : EndId) (m : ℕ) (b : Bool) (ms : List MovingPicture) → ((q : EndId) → first_in (cancel_in q) (back_steps to m b ms) ≡ None) × ((p : Pid) → first_in (report_in p) (back_steps to m b ms) ≡ None)
  back_steps-silent to m true [] = (λ q. refl, λ p. refl)
  back_steps-silent to m true (z ∷ ms) = (λ q. unanswered (end_eq q to) (answer.Refused cause.Dead), λ p. refl)
  back_steps-silent to m false ms = (λ q. unanswered (end_eq q to) (answer.Refused cause.Dead), λ p. refl)

  back-tells : (to : EndId) (m : ℕ) (ms : List MovingPicture) (o : Option HereView) → ((v : HereView) → o ≡ Some v → t to ≡ entry.Here v) → Tells t (back_effect k made t from to m ms o)
  back-tells to m ms None there =
      let passed = passing k made t ms in
      let steps = back_steps-silent to m (is_here (t to)) passed in
      inl (record { cancellers = λ q. brings-same t passed _ q (AreGone-passing k made t ms) canceller-ended; cancels = steps.0; reports = steps.1; answers = refl })
  back-tells to m ms (Some v) there =
      let is = named to v (there v refl) in
      let end : v.value.end ≡ to = subst (IsOfEnd to) (there v refl) (sound.own to) in
      let came = arriving k made v.holder t ms in
      let stay = (λ (q : EndId). brings-same t came (λ z. entry.Here (settled v.holder z)) q (AreGone-coming k made t came (AreComing-arriving k made v.holder t ms)) (λ z. canceller-calm v.holder inward.Idle refl)) in
      either-tells t v.value.dead (returns_effect k to m came v) (returns_first_effect k from to m came v)
      (inl (silent-view (returns_effect k to m came v) v.value.end v (returned_view v) (brings came (λ z. entry.Here (settled v.holder z)) stays) is refl (λ q y. refl) stay refl
      (λ q. unanswered (end_eq q to) (answer.Refused cause.Dead)) (λ p. refl)))
      (noticed-tells (returns_first_effect k from to m came v) v (noticed_view (returned_view v)) (brings came (λ z. entry.Here (settled v.holder z)) stays) v.inward (λ dead. step.Back to m dead) is refl refl refl (λ q y. refl) stay refl refl
      (λ q dead. ap (λ z. if end_eq q z && dead then Some (answer.Refused cause.Dead) else None) (sym end)) (λ p dead. refl))

  -- gone
  erase-silent : (to : EndId) (m : MovingPicture) (f : Effect) → t to ≡ entry.Destroyed m → ((q : EndId) (y : Entry) → f.entry q y ≡ puts m.end entry.Nothing stays q y) → f.answers ≡ [] → f.steps ≡ [] → IsSilent t f
  erase-silent to m f is at answers steps =
      record {
        cancellers = λ q. ap canceller (at q (t q)) ∙ puts-same t m.end entry.Nothing stays q (sym (ap canceller (ap t (subst (IsOfEnd to) is (sound.own to)) ∙ is))) refl;
        cancels = λ q. ap (first_in (cancel_in q)) steps;
        reports = λ p. ap (first_in (report_in p)) steps;
        answers = answers;
      }

  gone-tells : (to : EndId) (at : ℕ) (x : Entry) → t to ≡ x → Tells t (gone_effect k to at x)
  gone-tells to at entry.Nothing is = inl silent-nothing
  gone-tells to at (entry.Here v) is =
      either-tells t v.value.dead _ _ (inl (record { cancellers = λ q. refl; cancels = λ q. refl; reports = λ p. refl; answers = refl }))
      (noticed-tells _ v (noticed_view v) (turns (enclosed_of v.outward) (held_entry v.holder) stays) v.inward (λ dead. step.Notice v.value.end dead) (named to v is) refl refl refl (λ q y. refl)
      (λ q. turns-idle t (enclosed_of v.outward) (held_entry v.holder) q (enclosed_at-sound k made n t sound to v is) (held_entry-none v.holder)) refl refl (λ q dead. refl) (λ p dead. refl))
  gone-tells to at (entry.Left there h) is = inl (record { cancellers = λ q. refl; cancels = λ q. refl; reports = λ p. refl; answers = refl })
  gone-tells to at (entry.Destroyed m) is = inl (erase-silent to m _ is (λ q y. refl) refl refl)

  moved-silent : (to : EndId) (at hops : ℕ) (x : Entry) → t to ≡ x → IsSilent t (moved_effect k to at hops x)
  moved-silent to at hops entry.Nothing is = silent-nothing
  moved-silent to at hops (entry.Here v) is =
      let learns = silent-learn at hops v (named to v is) in
      either-silent t v.value.dead nothing _ silent-nothing (record { cancellers = learns.cancellers; cancels = λ q. refl; reports = λ p. refl; answers = refl })
  moved-silent to at hops (entry.Left there h) is = record { cancellers = λ q. refl; cancels = λ q. refl; reports = λ p. refl; answers = refl }
  moved-silent to at hops (entry.Destroyed m) is = record { cancellers = λ q. puts-same t to _ stays q (sym (ap canceller is)) refl; cancels = λ q. refl; reports = λ p. refl; answers = refl }

  known-silent : (to : EndId) (hops : ℕ) (x : Entry) → t to ≡ x → IsSilent t (known_effect k hops x)
  known-silent to hops entry.Nothing is = silent-nothing
  known-silent to hops (entry.Here v) is =
      either-silent t (not v.value.dead && nat_eq v.value.hops hops) _ nothing
      (silent-view _ v.value.end v (record v { value = record v.value { trail = 0 } }) stays (named to v is) refl (λ q y. refl) (λ q. refl) refl (λ q. refl) (λ p. refl)) silent-nothing
  known-silent to hops (entry.Left there h) is = silent-nothing
  known-silent to hops (entry.Destroyed m) is = silent-nothing

  forget-silent : (to : EndId) (hops : ℕ) (x : Entry) → t to ≡ x → IsSilent t (forget_effect to hops x)
  forget-silent to hops entry.Nothing is = silent-nothing
  forget-silent to hops (entry.Here v) is = silent-nothing
  forget-silent to hops (entry.Left there h) is =
      either-silent t (nat_le h hops) (changed (puts to entry.Nothing stays)) nothing
      (record { cancellers = λ q. puts-same t to entry.Nothing stays q (sym (ap canceller is)) refl; cancels = λ q. refl; reports = λ p. refl; answers = refl }) silent-nothing
  forget-silent to hops (entry.Destroyed m) is = silent-nothing

  goneseen-silent : (to : EndId) (x : Entry) → t to ≡ x → IsSilent t (goneseen_effect k x)
  goneseen-silent to entry.Nothing is = silent-nothing
  goneseen-silent to (entry.Here v) is = silent-nothing
  goneseen-silent to (entry.Left there h) is = silent-nothing
  goneseen-silent to (entry.Destroyed m) is = erase-silent to m (erase_effect k m) is (λ q y. refl) refl refl

  pub row-tells : (what : PictureWhat) → Tells t (row_effect k made from t what)
  row-tells (packet.Want to w at hops) = inl (want-silent to w at hops (t to) refl)
  row-tells (packet.Unwant to w at hops) = inl (unwant-silent to w at hops (t to) refl)
  row-tells (packet.Unwanted to w at hops) = unwanted-tells to w at hops (t to) refl
  row-tells (packet.Parcel to m w at hops bytes ms) = parcel-tells to m at hops bytes ms (asks w (t to)) (λ v is. (asks-here w (t to) v is).0)
  row-tells (packet.Taken to m at hops) = inl (taken-silent to m at hops (awaits m (t to)) (λ v is. (awaits-here m (t to) v is).0))
  row-tells (packet.Back to m ms) = back-tells to m ms (awaits m (t to)) (λ v is. (awaits-here m (t to) v is).0)
  row-tells (packet.Gone to at) = gone-tells to at (t to) refl
  row-tells (packet.Moved to at hops) = inl (moved-silent to at hops (t to) refl)
  row-tells (packet.Known to hops) = inl (known-silent to hops (t to) refl)
  row-tells (packet.Forget to hops) = inl (forget-silent to hops (t to) refl)
  row-tells (packet.GoneSeen to) = inl (goneseen-silent to (t to) refl)
