-- MATCH and NOTICE.
use Rattle.std.proofs.Common.{◌≡◌, ℕ, Bool, true, false, List, [], ◌∷◌, ◌++◌, refl, sym, ap, subst, if◌then◌else◌}
use Rattle.std.proofs.lemmas.List.{map-append}
use Rattle.std.specs.List.{list_any}
use Rattle.charlotte_calls.specs.Names.{opposite}
use Rattle.charlotte_calls.specs.declared.calls.Answer.TheVariants as answer
use Rattle.charlotte_calls.specs.declared.calls.Cause.TheVariants as cause
use Rattle.charlotte_calls.specs.declared.calls.ServiceStep.TheVariants as step
use Rattle.charlotte_calls.specs.declared.names.EndId.{EndId}
use Rattle.charlotte_calls.specs.declared.names.Outcome.TheVariants as outcome
use Rattle.charlotte_packets.specs.declared.picture.PictureWhat.TheVariants as packet
use Rattle.end_table.proofs.EndEq.{end_eq-same, put-other}
use Rattle.end_table.specs.Place.{end_eq}
use Rattle.end_table.specs.declared.entry.Entry.{Entry}
use Rattle.end_table.specs.declared.entry.Entry.TheVariants as entry
use Rattle.end_table.specs.declared.entry.HereView.{HereView}
use Rattle.end_table.specs.declared.entry.Holder.{Holder}
use Rattle.end_table.specs.declared.entry.Holder.TheVariants as holder
use Rattle.end_table.specs.declared.entry.Inward.{Inward}
use Rattle.end_table.specs.declared.entry.Inward.TheVariants as inward
use Rattle.end_table.specs.declared.entry.Outward.{Outward}
use Rattle.end_table.specs.declared.entry.Outward.TheVariants as outward
use Rattle.kernel_step.proofs.EnclosedEnds.{values_leaving-others}
use Rattle.kernel_step.proofs.Folds.{AreDifferent, AreOwn, AreOwn-put}
use Rattle.kernel_step.specs.Actions.{dead_receive_report, enclosed_of, hint_kernel, leave_each, matches, match_waiting, notice_receive, notice_send, notices, reports, send_report, values_leaving}
use Rattle.kernel_step.specs.Progress.{Progress, keeps, means, reports_to}
use Rattle.kernel_effects.specs.Actions.{cancel_notice, forget_packets, held_entry, left_of, match_effect, match_waiting_effect, matched_view, notice_effect, noticed_view, parcel_packets, receive_notice, send_notice}
use Rattle.kernel_effects.specs.Effect.{Effect, Does, for_holder, nothing, puts, stays, turns}
use Rattle.kernel_effects.proofs.Does.{answers-does, does-answered, does-entry, does-meant, does-nothing, does-same, does-sent, does-then, does-turned, keeps-does, means-does, reports-does, sends-does}
use Rattle.kernel_effects.proofs.Folds.{hold_each-does, leave_each-does}
use Rattle.kernel_effects.proofs.Packets.{forgets-does}

-- an entry is put at one end, and then others change: the same at once
pub turns-puts : (e : EndId) (x : Entry) (xs : List EndId) (word : Entry → Entry) (q : EndId) (y : Entry) → list_any (end_eq e) xs ≡ false
    → turns xs word stays q (puts e x stays q y) ≡ puts e x (turns xs word stays) q y
turns-puts e x xs word q y apart = by (end_eq e q) refl
  where
    by : (b : Bool) → end_eq e q ≡ b → turns xs word stays q (if b then x else y) ≡ (if b then x else turns xs word stays q y)
    by true same = ap (λ b. if b then word x else x) (subst (λ z. list_any (end_eq z) xs ≡ false) (end_eq-same e q same) apart)
    by false other = refl

-- a list for a holder, in two parts
pub for_holder-append : {X : Type 0} (h : Holder) (xs ys : List X) → for_holder h xs ++ for_holder h ys ≡ for_holder h (xs ++ ys)
for_holder-append {X} (holder.Owner p) xs ys = sym (map-append (λ (x : X). (p, x)) xs ys)
for_holder-append (holder.EnclosedIn on) xs ys = refl

-- nothing is for a holder
pub for_holder-none : {X : Type 0} (h : Holder) → for_holder {X = X} h [] ≡ []
for_holder-none (holder.Owner p) = refl
for_holder-none (holder.EnclosedIn on) = refl

-- MATCH
pub matches-does : (k : ℕ) (v : HereView) (n : ℕ) (bytes : List ℕ) (xs : List EndId) (d : Progress) → AreDifferent xs → list_any (end_eq v.value.end) xs ≡ false → AreOwn d.table
    → Does (match_effect k d.table v n bytes xs) d (matches k v n bytes xs d)
unfolding matches keeps
matches-does k v n bytes xs d different apart own =
    does-same (record (match_effect k d.table v n bytes xs) { packets = parcel_packets k v n bytes (values_leaving k kept.table xs) }) (match_effect k d.table v n bytes xs)
    (ap (λ ms. record (match_effect k d.table v n bytes xs) { packets = parcel_packets k v n bytes ms })
    (values_leaving-others k d.table kept.table s xs (λ q other. put-other d.table s x q other) apart))
    (does-entry raw (puts s x (turns xs (left_of to) stays)) (λ q. turns-puts s x xs (left_of to) q (d.table q) apart)
    (does-sent (does-meant (does-turned (keeps-does s x d) (leave_each-does to xs kept different own_kept)) (means-does (step.Match s n) (leave_each to xs kept)))
    (sends-does to (packet.Parcel (opposite s) n v.value.want k v.value.hops bytes (values_leaving k kept.table xs)) (means (step.Match s n) (leave_each to xs kept)))))
  where
    s : EndId
    s = v.value.end

    to : ℕ
    to = hint_kernel v

    x : Entry
    x = entry.Here (matched_view v n)

    kept : Progress
    kept = keeps s x d

    own_kept : AreOwn kept.table
    own_kept = AreOwn-put d.table s x own refl

    raw : Effect
    raw =
        record {
          entry = λ q y. turns xs (left_of to) stays q (puts s x stays q y);
          packets = parcel_packets k v n bytes (values_leaving k kept.table xs);
          reports = [];
          answers = [];
          steps = step.Match s n ∷ [];
        }

-- MATCH where a send waits
pub match_waiting-does : (k : ℕ) (v : HereView) (o : Outward) (d : Progress) → AreDifferent (enclosed_of o) → list_any (end_eq v.value.end) (enclosed_of o) ≡ false → AreOwn d.table
    → Does (match_waiting_effect k d.table v o) d (match_waiting k v o d)
match_waiting-does k v outward.Idle d different apart own = keeps-does v.value.end (entry.Here v) d
match_waiting-does k v (outward.Waiting n bytes xs) d different apart own = matches-does k v n bytes xs d different apart own
match_waiting-does k v (outward.Matched n) d different apart own = keeps-does v.value.end (entry.Here v) d
match_waiting-does k v outward.Unreported d different apart own = keeps-does v.value.end (entry.Here v) d

-- nothing is noticed of an activity that is over, or not started
no-notice : (h : Holder) (word : Entry → Entry) (d : Progress) → Does (record nothing { entry = turns [] word stays; reports = for_holder h [] }) d d
no-notice (holder.Owner p) word d = does-nothing d
no-notice (holder.EnclosedIn on) word d = does-nothing d

-- NOTICE of a send
notice_send-does : (e : EndId) (h : Holder) (o : Outward) (d : Progress) → AreDifferent (enclosed_of o) → AreOwn d.table
    → Does (record nothing { entry = turns (enclosed_of o) (held_entry h) stays; reports = for_holder h (send_notice e o) }) d (notice_send e h o d)
unfolding notice_send reports_to
notice_send-does e h outward.Idle d different own = no-notice h (held_entry h) d
notice_send-does e h (outward.Waiting n bytes xs) d different own =
    let told = send_report e outcome.Destroyed xs in
    does-turned (reports-does h told d) (hold_each-does h xs (reports h told d) different (own_reported h))
  where
    own_reported : (h : Holder) → AreOwn (reports h (send_report e outcome.Destroyed xs) d).table
    own_reported (holder.Owner p) = own
    own_reported (holder.EnclosedIn on) = own
notice_send-does e h (outward.Matched n) d different own = no-notice h (held_entry h) d
notice_send-does e h outward.Unreported d different own = no-notice h (held_entry h) d

-- NOTICE of a receive
notice_receive-does : (e : EndId) (h : Holder) (i : Inward) (d : Progress)
    → Does (record nothing { reports = for_holder h (receive_notice e i); answers = for_holder h (cancel_notice i) }) d (notice_receive e h i d)
unfolding notice_receive
notice_receive-does e h inward.Idle d = by h
  where
    by : (h : Holder) → Does (record nothing { reports = for_holder h []; answers = for_holder h [] }) d d
    by (holder.Owner p) = does-nothing d
    by (holder.EnclosedIn on) = does-nothing d
notice_receive-does e h (inward.Posted w) d = by h
  where
    by : (h : Holder) → Does (record nothing { reports = for_holder h (dead_receive_report e ∷ []); answers = for_holder h [] }) d (reports h (dead_receive_report e) d)
    by (holder.Owner p) = reports-does (holder.Owner p) (dead_receive_report e) d
    by (holder.EnclosedIn on) = reports-does (holder.EnclosedIn on) (dead_receive_report e) d
notice_receive-does e h (inward.Withdrawing w) d =
    does-answered (reports-does h (dead_receive_report e) d) (answers-does h (answer.Refused cause.Dead) (reports h (dead_receive_report e) d))
notice_receive-does e h inward.Unreported d = by h
  where
    by : (h : Holder) → Does (record nothing { reports = for_holder h []; answers = for_holder h [] }) d d
    by (holder.Owner p) = does-nothing d
    by (holder.EnclosedIn on) = does-nothing d

-- NOTICE
pub notices-does : (k : ℕ) (v : HereView) (d : Progress) → AreDifferent (enclosed_of v.outward) → list_any (end_eq v.value.end) (enclosed_of v.outward) ≡ false → AreOwn d.table
    → Does (notice_effect k v) d (notices k v d)
unfolding notices keeps
notices-does k v d different apart own =
    does-same (record (notice_effect k v) { reports = for_holder h (send_notice e v.outward) ++ for_holder h (receive_notice e v.inward) }) (notice_effect k v)
    (ap (λ rs. record (notice_effect k v) { reports = rs }) (for_holder-append h (send_notice e v.outward) (receive_notice e v.inward)))
    (does-entry raw (puts e x (turns (enclosed_of v.outward) (held_entry h) stays)) (λ q. turns-puts e x (enclosed_of v.outward) (held_entry h) q (d.table q) apart)
    (does-sent (does-then (does-then (keeps-does e x d) (notice_send-does e h v.outward kept different own_kept)) (notice_receive-does e h v.inward sent))
    (forgets-does k v.value (notice_receive e h v.inward sent))))
  where
    e : EndId
    e = v.value.end

    h : Holder
    h = v.holder

    x : Entry
    x = entry.Here (noticed_view v)

    kept : Progress
    kept = keeps e x d

    sent : Progress
    sent = notice_send e h v.outward kept

    own_kept : AreOwn kept.table
    own_kept = AreOwn-put d.table e x own refl

    raw : Effect
    raw =
        record {
          entry = λ q y. turns (enclosed_of v.outward) (held_entry h) stays q (puts e x stays q y);
          packets = forget_packets k v.value;
          reports = for_holder h (send_notice e v.outward) ++ for_holder h (receive_notice e v.inward);
          answers = for_holder h (cancel_notice v.inward);
          steps = [];
        }
