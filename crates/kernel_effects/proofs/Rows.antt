-- What each packet does.
use Rattle.std.proofs.Common.{◌≡◌, ℕ, Bool, true, false, nat_eq, nat_lt, List, [], ◌∷◌, map, Option, Some, None, refl, sym, subst, ◌∙◌, if◌then◌else◌}
use Rattle.std.specs.List.{list_any}
use Rattle.charlotte_calls.specs.Names.{opposite}
use Rattle.charlotte_calls.specs.declared.calls.Answer.TheVariants as answer
use Rattle.charlotte_calls.specs.declared.calls.Cause.TheVariants as cause
use Rattle.charlotte_calls.specs.declared.calls.ServiceStep.TheVariants as step
use Rattle.charlotte_calls.specs.declared.names.EndId.{EndId}
use Rattle.charlotte_calls.specs.declared.names.Outcome.TheVariants as outcome
use Rattle.charlotte_packets.specs.declared.picture.MovingPicture.{MovingPicture}
use Rattle.charlotte_packets.specs.declared.picture.PictureWhat.TheVariants as packet
use Rattle.end_table.specs.Entries.{learned, left_value}
use Rattle.end_table.specs.Place.{end_eq}
use Rattle.end_table.specs.declared.entry.Entry.{Entry}
use Rattle.end_table.specs.declared.entry.Entry.TheVariants as entry
use Rattle.end_table.specs.declared.entry.HereView.{HereView}
use Rattle.end_table.specs.declared.entry.Holder.{Holder}
use Rattle.end_table.specs.declared.entry.Holder.TheVariants as holder
use Rattle.end_table.specs.declared.entry.Inward.{Inward}
use Rattle.end_table.specs.declared.entry.Inward.TheVariants as inward
use Rattle.end_table.specs.declared.entry.Outward.TheVariants as outward
use Rattle.kernel_sound.proofs.Actions.{learned-end}
use Rattle.kernel_step.proofs.Folds.{AreDifferent}
use Rattle.kernel_step.specs.Actions.{answers, enclosed_of, is_withdrawing, learned_view, learns, match_waiting, receive_report, reports, resends_on_news, send_report, settle_each, tell_arrivals}
use Rattle.kernel_step.specs.Progress.{Progress, keeps, means, sends}
use Rattle.kernel_step.specs.Rows.{completes, ends_in, frees, pass_each, receives, sends_back, taken_row, takes, unwant_here, unwant_row, unwanted_here, unwanted_row, voids, want_here, want_row, wants}
use Rattle.kernel_effects.specs.Actions.{learn_effect}
use Rattle.kernel_effects.specs.Effect.{Effect, Does, for_holder, nothing}
use Rattle.kernel_effects.specs.Rows.{asked_view, completes_effect, frees_effect, receives_effect, sends_back_effect, take_steps, taken_effect, taken_view, unserved, unwant_effect, unwanted_effect, unwanted_here_effect, voided_view, voids_effect, want_effect, wants_effect}
use Rattle.kernel_effects.proofs.Actions.{match_waiting-does}
use Rattle.kernel_effects.proofs.Does.{answers-does, does-answered, does-either, does-meant, does-nothing, does-reported, does-sent, does-turned, keeps-does, means-does, reports-does, sends-does}
use Rattle.kernel_effects.proofs.Ends.{StandsAt, stands-end}
use Rattle.kernel_effects.proofs.Folds.{pass_each-does, settle_each-does}
use Rattle.kernel_effects.proofs.Packets.{learns-does, resends_on_news-does, tell_arrivals-does}

-- what a want or unwant does at an end that is here
unserved-does : (k w at hops : ℕ) (v : HereView) (effect : Effect) (d x : Progress) → Does effect d x
    → Does (unserved k w at hops v effect) d (if v.value.dead then d else if nat_lt v.value.served w then x else learns k at hops v d)
unserved-does k w at hops v effect d x does =
    does-either v.value.dead nothing (if nat_lt v.value.served w then effect else learn_effect k at hops v) (does-nothing d)
    (does-either (nat_lt v.value.served w) effect (learn_effect k at hops v) does (learns-does k at hops v d))

-- want of a receive that was not matched or withdrawn
pub wants-does : (k w at hops : ℕ) (e : EndId) (v : HereView) (d : Progress) → StandsAt d.table e v → Does (wants_effect k d.table w at hops v) d (wants k w at hops v d)
unfolding wants
wants-does k w at hops e v d s =
    does-sent
    (match_waiting-does k (asked_view w at hops v) v.outward d s.different (subst (λ z. list_any (end_eq z) (enclosed_of v.outward) ≡ false) (sym (learned-end at hops v.value ∙ stands-end d.table e v s)) s.apart) s.own)
    (resends_on_news-does k v.value hops (learned at hops v.value) v.inward (match_waiting k (asked_view w at hops v) v.outward d))

-- want
pub want-does : (k : ℕ) (to : EndId) (w at hops : ℕ) (y : Entry) (d : Progress) → ((v : HereView) → y ≡ entry.Here v → StandsAt d.table to v) → Does (want_effect k d.table to w at hops y) d (want_row k to w at hops y d)
unfolding want_here
want-does k to w at hops entry.Nothing d stands = does-nothing d
want-does k to w at hops (entry.Here v) d stands = unserved-does k w at hops v (wants_effect k d.table w at hops v) d _ (wants-does k w at hops to v d (stands v refl))
want-does k to w at hops (entry.Left there h) d stands = sends-does there (packet.Want to w at hops) d
want-does k to w at hops (entry.Destroyed m) d stands = does-nothing d

-- unwant of a receive that was not matched or withdrawn
pub voids-does : (k w at hops : ℕ) (v : HereView) (d : Progress) → Does (voids_effect k w at hops v) d (voids k w at hops v d)
unfolding voids
voids-does k w at hops v d =
    let e = v.value.end in
    let kept = keeps e (entry.Here (voided_view w at hops v)) d in
    let meant = means (step.Withdraw (opposite e)) kept in
    let unwanted = packet.Unwanted (opposite e) w k v.value.hops in
    does-sent (does-sent (does-meant (keeps-does e (entry.Here (voided_view w at hops v)) d) (means-does (step.Withdraw (opposite e)) kept)) (sends-does at unwanted meant))
    (resends_on_news-does k v.value hops (learned at hops v.value) v.inward (sends at unwanted meant))

-- unwant
pub unwant-does : (k : ℕ) (to : EndId) (w at hops : ℕ) (y : Entry) (d : Progress) → Does (unwant_effect k to w at hops y) d (unwant_row k to w at hops y d)
unfolding unwant_here
unwant-does k to w at hops entry.Nothing d = does-nothing d
unwant-does k to w at hops (entry.Here v) d = unserved-does k w at hops v (voids_effect k w at hops v) d _ (voids-does k w at hops v d)
unwant-does k to w at hops (entry.Left there h) d = sends-does there (packet.Unwant to w at hops) d
unwant-does k to w at hops (entry.Destroyed m) d = does-nothing d

-- unwanted at a Cancel that waits
pub frees-does : (k at hops : ℕ) (v : HereView) (d : Progress) → Does (frees_effect k at hops v) d (frees k at hops v d)
unfolding frees
frees-does k at hops v d =
    let e = v.value.end in
    let freed = record (learned_view v at hops) { inward = inward.Idle } in
    let kept = keeps e (entry.Here freed) d in
    let meant = means (step.Free e) kept in
    does-sent (does-answered (does-meant (keeps-does e (entry.Here freed) d) (means-does (step.Free e) kept)) (answers-does v.holder answer.Ok meant))
    (resends_on_news-does k v.value hops (learned at hops v.value) inward.Idle (answers v.holder answer.Ok meant))

unwanted_here-does : (k w at hops : ℕ) (v : HereView) (i : Inward) (d : Progress) → Does (unwanted_here_effect k w at hops v i) d (unwanted_here k w at hops v i d)
unwanted_here-does k w at hops v inward.Idle d = does-nothing d
unwanted_here-does k w at hops v (inward.Posted x) d = does-nothing d
unwanted_here-does k w at hops v (inward.Withdrawing x) d = does-either (nat_eq x w) (frees_effect k at hops v) nothing (frees-does k at hops v d) (does-nothing d)
unwanted_here-does k w at hops v inward.Unreported d = does-nothing d

-- unwanted
pub unwanted-does : (k w at hops : ℕ) (y : Entry) (d : Progress) → Does (unwanted_effect k w at hops y) d (unwanted_row k w at hops y d)
unwanted-does k w at hops entry.Nothing d = does-nothing d
unwanted-does k w at hops (entry.Here v) d = unwanted_here-does k w at hops v v.inward d
unwanted-does k w at hops (entry.Left there h) d = does-nothing d
unwanted-does k w at hops (entry.Destroyed m) d = does-nothing d

-- who takes a message
takes-does : (e : EndId) (n : ℕ) (late : Bool) (h : Holder) (d : Progress) → Does (record nothing { steps = take_steps e n late h }) d (takes e n late h d)
takes-does e n late (holder.Owner p) d = means-does (step.Take (opposite e) n p late) d
takes-does e n late (holder.EnclosedIn on) d = does-nothing d

-- a Cancel that comes too late is answered
late-does : (late : Bool) (h : Holder) (d : Progress)
    → Does (record nothing { answers = for_holder h (if late then answer.Refused cause.Late ∷ [] else []) }) d (if late then answers h (answer.Refused cause.Late) d else d)
late-does true h d = answers-does h (answer.Refused cause.Late) d
late-does false (holder.Owner p) d = does-nothing d
late-does false (holder.EnclosedIn on) d = does-nothing d

-- parcel at its receive
pub receives-does : (k n at hops : ℕ) (bytes : List ℕ) (ms : List MovingPicture) (v : HereView) (d : Progress) → AreDifferent (ends_in ms)
    → Does (receives_effect k n at hops bytes ms v) d
    (resends_on_news k v.value hops (learned at hops v.value) inward.Unreported (tell_arrivals k ms (receives k n at hops bytes (ends_in ms) v (settle_each v.holder ms d))))
unfolding receives
receives-does k n at hops bytes ms v d different =
    let e = v.value.end in
    let late = is_withdrawing v.inward in
    let x = entry.Here (taken_view at hops v) in
    let report = receive_report e bytes (ends_in ms) in
    let settled = settle_each v.holder ms d in
    let kept = keeps e x settled in
    let took = takes e n late v.holder kept in
    let reported = reports v.holder report took in
    let answered = if late then answers v.holder (answer.Refused cause.Late) reported else reported in
    let taken = packet.Taken (opposite e) n k v.value.hops in
    let received = sends at taken answered in
    let first = does-turned (settle_each-does v.holder ms d different) (keeps-does e x settled) in
    let second = does-reported (does-meant first (takes-does e n late v.holder kept)) (reports-does v.holder report took) in
    let third = does-sent (does-answered second (late-does late v.holder reported)) (sends-does at taken answered) in
    does-sent (does-sent third (tell_arrivals-does k ms received)) (resends_on_news-does k v.value hops (learned at hops v.value) inward.Unreported (tell_arrivals k ms received))

-- parcel anywhere else
pub sends_back-does : (k : ℕ) (to : EndId) (n at : ℕ) (ms : List MovingPicture) (d : Progress) → AreDifferent (ends_in ms) → Does (sends_back_effect k to n at ms) d (sends_back k to n at ms d)
unfolding sends_back
sends_back-does k to n at ms d different = does-sent (pass_each-does at ms d different) (sends-does at (packet.Back (opposite to) n (map (left_value k) ms)) (pass_each at ms d))

-- taken
pub completes-does : (k n at hops : ℕ) (v : HereView) (d : Progress) → Does (completes_effect k n at hops v) d (completes k n at hops v d)
unfolding completes
completes-does k n at hops v d =
    let e = v.value.end in
    let done = record (learned_view v at hops) { outward = outward.Unreported } in
    let kept = keeps e (entry.Here done) d in
    let meant = means (step.Complete e n) kept in
    let report = send_report e outcome.Done [] in
    does-sent (does-reported (does-meant (keeps-does e (entry.Here done) d) (means-does (step.Complete e n) kept)) (reports-does v.holder report meant))
    (resends_on_news-does k v.value hops (learned at hops v.value) v.inward (reports v.holder report meant))

pub taken-does : (k n at hops : ℕ) (o : Option HereView) (d : Progress) → Does (taken_effect k n at hops o) d (taken_row k n at hops o d)
taken-does k n at hops None d = does-nothing d
taken-does k n at hops (Some v) d = completes-does k n at hops v d
