-- What each packet and each call does with a table that is sound, and what the kernel step gives.
use Rattle.std.proofs.Common.{◌≡◌, ℕ, Bool, true, false, max, List, [], map, Option, Some, None, refl, sym, subst, if◌then◌else◌}
use Rattle.std.specs.List.{list_any}
use Rattle.charlotte_packets.specs.Packets.{is_addressed}
use Rattle.charlotte_calls.specs.declared.calls.Call.{Call}
use Rattle.charlotte_calls.specs.declared.calls.Call.TheVariants as call
use Rattle.charlotte_calls.specs.declared.calls.Answer.{Answer}
use Rattle.charlotte_calls.specs.declared.calls.Report.{Report}
use Rattle.charlotte_calls.specs.declared.calls.ServiceStep.TheVariants as step
use Rattle.charlotte_calls.specs.declared.names.EndId.{EndId}
use Rattle.charlotte_calls.specs.declared.names.Pid.{Pid}
use Rattle.charlotte_calls.specs.declared.names.Way.TheVariants as way
use Rattle.charlotte_packets.specs.declared.picture.MovingPicture.{MovingPicture}
use Rattle.charlotte_packets.specs.declared.picture.Picture.{Picture}
use Rattle.charlotte_packets.specs.declared.picture.PictureWhat.{PictureWhat}
use Rattle.charlotte_packets.specs.declared.picture.PictureWhat.TheVariants as packet
use Rattle.end_table.specs.Owned.{owned}
use Rattle.end_table.specs.Place.{end_eq}
use Rattle.end_table.specs.Table.{IsHere}
use Rattle.end_table.specs.declared.entry.Entry.TheVariants as entry
use Rattle.end_table.specs.declared.entry.HereView.{HereView}
use Rattle.end_table.specs.declared.entry.Inward.{Inward}
use Rattle.end_table.specs.declared.entry.Inward.TheVariants as inward
use Rattle.kernel_sound.proofs.Needs.{owned-here, send-apart, send-free}
use Rattle.kernel_sound.proofs.Parcels.{awaits-here}
use Rattle.kernel_sound.proofs.Values.{AreComing-arriving, apart-AreComing}
use Rattle.kernel_sound.specs.Acts.{acts, acts_on, withdraws_posted}
use Rattle.kernel_sound.specs.Sound.{IsSound}
use Rattle.kernel_step.specs.Calls.{IsCallWith, encloses, refusal, starts_send}
use Rattle.kernel_step.specs.Kernel.{Kernel, begins, closes, next_stamp, take_step}
use Rattle.kernel_step.specs.Progress.{Progress, means}
use Rattle.kernel_step.specs.Rows.{arriving, back_row, ends_in, is_here, parcel_row, passing, row}
use Rattle.kernel_effects.specs.Calls.{act_effect, effect_on, send_effect, withdraw_posted_effect}
use Rattle.kernel_outcomes.specs.Closing.{AreOldest, AtMostOne, EffectGives}
use Rattle.kernel_effects.specs.Effect.{Effect, Does, nothing}
use Rattle.kernel_effects.specs.Rows.{back_effect, parcel_effect, row_effect, values_in}
use Rattle.kernel_effects.proofs.Calls.{makes-does, posts-does, sends-call-does, withdraws_receive-does, withdraws_send-does}
use Rattle.kernel_outcomes.proofs.Closing.{effect-gives}
use Rattle.kernel_effects.proofs.Does.{does-nothing, does-then, means-does}
use Rattle.kernel_effects.proofs.Ends.{ends-does, ends_each-does, stands-end}
use Rattle.kernel_effects.proofs.Retiring.{ends_back-does, forget-does, gone-does, goneseen-does, known-does, moved-does, returns-does}
use Rattle.kernel_effects.proofs.Rows.{receives-does, sends_back-does, taken-does, unwant-does, unwanted-does, want-does}
use Rattle.kernel_outcomes.proofs.Sound.{AreDifferent-coming, AreDifferent-exit, AreDifferent-free, AreDifferent-passing, stands-sound}
use Rattle.kernel_step.proofs.Folds.{AreDifferent}

module _ (k made n : ℕ) (d : Progress) (sound : IsSound k made n d.table) where
  -- parcel
  parcel-does : (to : EndId) (m at hops : ℕ) (bytes : List ℕ) (ms : List MovingPicture) (o : Option HereView) → AreDifferent (ends_in ms)
      → Does (parcel_effect k made d.table to m at hops bytes ms o) d (parcel_row k made to m at hops bytes ms o d)
  parcel-does to m at hops bytes ms None different = sends_back-does k to m at (passing k made d.table ms) d (AreDifferent-passing k made d.table ms different)
  parcel-does to m at hops bytes ms (Some v) different =
      let came = arriving k made v.holder d.table ms in
      receives-does k m at hops bytes came v d (AreDifferent-coming k made d.table came (AreComing-arriving k made v.holder d.table ms))

  -- back
  back-does : (from : ℕ) (to : EndId) (m : ℕ) (ms : List MovingPicture) (o : Option HereView) → AreDifferent (ends_in ms) → ((v : HereView) → o ≡ Some v → d.table to ≡ entry.Here v)
      → Does (back_effect k made d.table from to m ms o) d (back_row k made from to m ms o d)
  back-does from to m ms None different there =
      let passed = passing k made d.table ms in
      ends_back-does k to m (is_here (d.table to)) passed d (AreDifferent-passing k made d.table ms different)
  back-does from to m ms (Some v) different there =
      let came = arriving k made v.holder d.table ms in
      let come = AreComing-arriving k made v.holder d.table ms in
      let here = there v refl in
      let end = stands-end d.table to v (stands-sound k made n d.table sound to v here) in
      let apart : list_any (end_eq to) (ends_in came) ≡ false = apart-AreComing k made d.table to came (subst IsHere (sym here) tt) come in
      returns-does k from to m came v d (AreDifferent-coming k made d.table came come) (subst (λ z. list_any (end_eq z) (ends_in came) ≡ false) (sym end) apart) sound.own

  -- each packet
  pub row-does : (from : ℕ) (what : PictureWhat) → AreDifferent (ends_in (values_in what)) → Does (row_effect k made from d.table what) d (row k made from what d)
  row-does from (packet.Want to w at hops) different = want-does k to w at hops (d.table to) d (λ v is. stands-sound k made n d.table sound to v is)
  row-does from (packet.Unwant to w at hops) different = unwant-does k to w at hops (d.table to) d
  row-does from (packet.Unwanted to w at hops) different = unwanted-does k w at hops (d.table to) d
  row-does from (packet.Parcel to m w at hops bytes ms) different = parcel-does to m at hops bytes ms _ different
  row-does from (packet.Taken to m at hops) different = taken-does k m at hops _ d
  row-does from (packet.Back to m ms) different = back-does from to m ms _ different (λ v is. (awaits-here m (d.table to) v is).0)
  row-does from (packet.Gone to at) different = gone-does k to at (d.table to) d (λ v is. stands-sound k made n d.table sound to v is)
  row-does from (packet.Moved to at hops) different = moved-does k to at hops (d.table to) d (λ m is. is)
  row-does from (packet.Known to hops) different = known-does k hops (d.table to) d
  row-does from (packet.Forget to hops) different = forget-does to hops (d.table to) d
  row-does from (packet.GoneSeen to) different = goneseen-does k (d.table to) d

  module _ (p : Pid) where
    -- a call on an end that its process owns
    on-does : (on : EndId) (effect : HereView → Effect) (part : HereView → Progress → Progress)
        → ((v : HereView) → owned p (d.table on) ≡ Some v → d.table on ≡ entry.Here v → Does (effect v) d (part v d)) → Does (effect_on (owned p (d.table on)) effect) d (acts_on (owned p (d.table on)) part d)
    on-does on effect part does = by (owned p (d.table on)) refl
      where
        by : (o : Option HereView) → owned p (d.table on) ≡ o → Does (effect_on o effect) d (acts_on o part d)
        by None is = does-nothing d
        by (Some v) is = does v is (owned-here p (d.table on) v is).0

    -- a Cancel of a receive
    withdraws_posted-does : (v : HereView) (i : Inward) → Does (withdraw_posted_effect k v i) d (withdraws_posted k v i d)
    withdraws_posted-does v inward.Idle = does-nothing d
    withdraws_posted-does v (inward.Posted w) = withdraws_receive-does k w v d
    withdraws_posted-does v (inward.Withdrawing w) = does-nothing d
    withdraws_posted-does v inward.Unreported = does-nothing d

    -- each call that is not refused
    pub acts-does : (mine : List EndId) (reported : Bool) (c : Call) → refusal p d.table made mine reported c ≡ None → IsCallWith p d.table mine c → Does (act_effect p k made mine d.table c) d (acts p k made mine c d)
    unfolding acts means
    acts-does mine reported call.Make granted with_ends = makes-does k made p d
    acts-does mine reported (call.Destroy on) granted with_ends =
        on-does on _ _ (λ v is here. does-then (means-does (step.Destroy on) d) (ends-does k on v (means (step.Destroy on) d) (stands-sound k made n d.table sound on v here)))
    acts-does mine reported (call.Send on bytes xs) granted with_ends =
        on-does on _ _ (λ v is here.
        let end : v.value.end ≡ on = stands-end d.table on v (stands-sound k made n d.table sound on v here) in
        subst (λ z. Does (send_effect k d.table bytes xs v) d (starts_send k bytes xs v (encloses z xs d))) end
        (sends-call-does k bytes xs v d (AreDifferent-free p d.table xs (send-free p d.table on xs granted)) (subst (λ z. list_any (end_eq z) xs ≡ false) (sym end) (send-apart p d.table on xs granted)) sound.own))
    acts-does mine reported (call.Receive on) granted with_ends = on-does on _ _ (λ v is here. posts-does k v d)
    acts-does mine reported (call.Cancel on way.Outward) granted with_ends = on-does on _ _ (λ v is here. withdraws_send-does on v d (stands-sound k made n d.table sound on v here))
    acts-does mine reported (call.Cancel on way.Inward) granted with_ends = on-does on _ _ (λ v is here. withdraws_posted-does v v.inward)
    acts-does mine reported call.Wait granted with_ends = means-does (step.Wait p) d
    acts-does mine reported (call.Print bytes) granted with_ends = does-nothing d
    acts-does mine reported call.Exit granted with_ends =
        does-then (means-does (step.Exit p) d) (ends_each-does k mine (means (step.Exit p) d) sound.own (AreDifferent-exit k made n d.table sound p mine with_ends))

-- taking a packet, where process p alone gets reports and answers
pub take-gives : (n : ℕ) (s : Kernel) (from : ℕ) (q : Picture) (p : Pid) (given : List Answer) (rs : List Report) → IsSound s.number s.made n s.table → AreDifferent (ends_in (values_in q.what)) → is_addressed q.what s.kernels ≡ true
    → AtMostOne given → AreOldest (s.process p.0) rs → (row_effect s.number s.made from s.table q.what).answers ≡ map (λ a. (p, a)) given → (row_effect s.number s.made from s.table q.what).reports ≡ map (λ r. (p, r)) rs
    → EffectGives s p (next_stamp (max s.stamp q.stamp)) (row_effect s.number s.made from s.table q.what) given rs (take_step s from q)
unfolding take_step
take-gives n s from q p given rs sound different addressed one oldest answers reports =
    let stamp = next_stamp (max s.stamp q.stamp) in
    let d = begins s stamp in
    let f = row_effect s.number s.made from s.table q.what in
    subst (λ b. EffectGives s p stamp f given rs (closes s (if b then row s.number s.made from q.what d else d))) (sym addressed)
    (effect-gives s p stamp f (row s.number s.made from q.what d) given rs (row-does s.number s.made n d sound from q.what different) one oldest answers reports)

-- a packet that names a kernel that is not there is dropped
pub take-dropped : (s : Kernel) (from : ℕ) (q : Picture) (p : Pid) → is_addressed q.what s.kernels ≡ false → EffectGives s p (next_stamp (max s.stamp q.stamp)) nothing [] [] (take_step s from q)
unfolding take_step
take-dropped s from q p dropped =
    let stamp = next_stamp (max s.stamp q.stamp) in
    let d = begins s stamp in
    subst (λ b. EffectGives s p stamp nothing [] [] (closes s (if b then row s.number s.made from q.what d else d))) (sym dropped)
    (effect-gives s p stamp nothing d [] [] (does-nothing d) tt tt refl refl)
