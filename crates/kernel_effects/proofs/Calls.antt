-- What each call does.
use Rattle.std.proofs.Common.{◌≡◌, ℕ, Bool, true, false, nat_eq, List, [], ◌∷◌, refl, sym, ap, subst, ◌∙◌, if◌then◌else◌}
use Rattle.std.specs.List.{flat_map, list_any}
use Rattle.charlotte_packets.specs.Moving.{new_end}
use Rattle.charlotte_calls.specs.Names.{opposite}
use Rattle.charlotte_calls.specs.declared.calls.ServiceStep.TheVariants as step
use Rattle.charlotte_calls.specs.declared.names.EndId.{EndId}
use Rattle.charlotte_calls.specs.declared.names.Pid.{Pid}
use Rattle.charlotte_calls.specs.declared.names.Way.TheVariants as way
use Rattle.charlotte_packets.specs.declared.picture.PictureWhat.TheVariants as packet
use Rattle.end_table.specs.Entries.{gains_one, settled}
use Rattle.end_table.specs.Place.{end_eq}
use Rattle.end_table.specs.Table.{IsOfEnd}
use Rattle.end_table.specs.declared.entry.Entry.{Entry}
use Rattle.end_table.specs.declared.entry.Entry.TheVariants as entry
use Rattle.end_table.specs.declared.entry.HereView.{HereView}
use Rattle.end_table.specs.declared.entry.Holder.{Holder}
use Rattle.end_table.specs.declared.entry.Holder.TheVariants as holder
use Rattle.end_table.specs.declared.entry.Inward.TheVariants as inward
use Rattle.end_table.specs.declared.entry.Outward.TheVariants as outward
use Rattle.kernel_step.proofs.Folds.{AreDifferent, AreOwn, AreOwn-put}
use Rattle.kernel_step.specs.Actions.{enclosed_of, here, hint_kernel, hold_each, matches, value_leaving, values_leaving}
use Rattle.kernel_step.specs.Calls.{encloses, made_end, makes, posts, starts_send, withdraws_receive, withdraws_send}
use Rattle.kernel_step.specs.Progress.{Progress, keeps, means}
use Rattle.kernel_effects.specs.Actions.{held_entry, holds_each, left_of, match_effect, matched_view, parcel_packets}
use Rattle.kernel_effects.specs.Calls.{make_effect, post_effect, send_effect, sending_view, withdraw_receive_effect, withdraw_send_effect}
use Rattle.kernel_effects.specs.Effect.{Effect, Does, nothing, puts, stays, turns}
use Rattle.kernel_effects.proofs.Actions.{matches-does, turns-puts}
use Rattle.kernel_effects.proofs.Does.{does-entry, does-meant, does-same, does-sent, does-then, does-turned, keeps-does, means-does, sends-does}
use Rattle.kernel_effects.proofs.Ends.{StandsAt, stands-end}
use Rattle.kernel_effects.proofs.Folds.{hold_each-does}

-- Make
pub makes-does : (k made : ℕ) (p : Pid) (d : Progress) → Does (make_effect k made p) d (makes k made p d)
unfolding makes
makes-does k made p d =
    let a = made_end k made in
    let b = opposite a in
    let x = entry.Here (settled (holder.Owner p) (new_end a k)) in
    let meant = means (step.Make p a b) d in
    does-turned (does-turned (means-does (step.Make p a b) d) (keeps-does a x meant)) (keeps-does b (entry.Here (settled (holder.Owner p) (new_end b k))) (keeps a x meant))

-- Receive
pub posts-does : (k : ℕ) (v : HereView) (d : Progress) → Does (post_effect k v) d (posts k v d)
unfolding posts
posts-does k v d =
    let e = v.value.end in
    let w = gains_one v.value.asked in
    let x = entry.Here (record v { value = record v.value { asked = w }; inward = inward.Posted w }) in
    let kept = keeps e x d in
    does-sent (does-meant (keeps-does e x d) (means-does (step.Receive e) kept)) (sends-does (hint_kernel v) (packet.Want (opposite e) w k v.value.hops) (means (step.Receive e) kept))

-- Cancel of a send
pub withdraws_send-does : (e : EndId) (v : HereView) (d : Progress) → StandsAt d.table e v → Does (withdraw_send_effect v) d (withdraws_send v d)
unfolding withdraws_send keeps means
withdraws_send-does e v d s =
    let f = v.value.end in
    let x = entry.Here (record v { outward = outward.Idle }) in
    let kept = keeps f x d in
    let xs = enclosed_of v.outward in
    let cancel = step.Cancel f way.Outward in
    let own : AreOwn kept.table = AreOwn-put d.table f x s.own refl in
    let apart : list_any (end_eq f) xs ≡ false = subst (λ z. list_any (end_eq z) xs ≡ false) (sym (stands-end d.table e v s)) s.apart in
    does-entry (record nothing { entry = λ q y. turns xs (held_entry v.holder) stays q (puts f x stays q y); steps = cancel ∷ [] })
    (puts f x (turns xs (held_entry v.holder) stays)) (λ q. turns-puts f x xs (held_entry v.holder) q (d.table q) apart)
    (does-turned (does-meant (keeps-does f x d) (means-does cancel kept)) (hold_each-does v.holder xs (means cancel kept) s.different own))

-- Cancel of the receive w
pub withdraws_receive-does : (k w : ℕ) (v : HereView) (d : Progress) → Does (withdraw_receive_effect k w v) d (withdraws_receive k w v d)
unfolding withdraws_receive
withdraws_receive-does k w v d =
    let e = v.value.end in
    let x = entry.Here (record v { inward = inward.Withdrawing w }) in
    let kept = keeps e x d in
    let cancel = step.Cancel e way.Inward in
    does-sent (does-meant (keeps-does e x d) (means-does cancel kept)) (sends-does (hint_kernel v) (packet.Unwant (opposite e) w k v.value.hops) (means cancel kept))

-- an end leaves as it did before it was enclosed
left-held : (h : Holder) (to : ℕ) (y : Entry) → left_of to (held_entry h y) ≡ left_of to y
left-held h to entry.Nothing = refl
left-held h to (entry.Here v) = refl
left-held h to (entry.Left there hops) = refl
left-held h to (entry.Destroyed m) = refl

-- with the value that it had
value-held : (h : Holder) (k : ℕ) (y : Entry) → value_leaving k (here (held_entry h y)) ≡ value_leaving k (here y)
value-held h k entry.Nothing = refl
value-held h k (entry.Here v) = refl
value-held h k (entry.Left there hops) = refl
value-held h k (entry.Destroyed m) = refl

-- an entry that is held otherwise is of its end
IsOfEnd-held : (h : Holder) (q : EndId) (y : Entry) → IsOfEnd q y → IsOfEnd q (held_entry h y)
IsOfEnd-held h q entry.Nothing is = tt
IsOfEnd-held h q (entry.Here v) is = is
IsOfEnd-held h q (entry.Left there hops) is = tt
IsOfEnd-held h q (entry.Destroyed m) is = is

-- Send
pub sends-call-does : (k : ℕ) (bytes : List ℕ) (xs : List EndId) (v : HereView) (d : Progress) → AreDifferent xs → list_any (end_eq v.value.end) xs ≡ false → AreOwn d.table
    → Does (send_effect k d.table bytes xs v) d (starts_send k bytes xs v (encloses v.value.end xs d))
unfolding starts_send encloses means values_leaving
sends-call-does k bytes xs v d different apart own = by (nat_eq v.value.want 0)
  where
    e : EndId
    e = v.value.end

    h : Holder
    h = holder.EnclosedIn e

    n : ℕ
    n = gains_one v.value.sent

    to : ℕ
    to = hint_kernel v

    started : HereView
    started = sending_view v bytes xs

    held : Progress
    held = hold_each h xs d

    sent : Progress
    sent = means (step.Send e n bytes xs) held

    holds : Does (holds_each h xs) d held
    holds = hold_each-does h xs d different own

    begun : Does (record (holds_each h xs) { steps = step.Send e n bytes xs ∷ [] }) d sent
    begun = does-meant holds (means-does (step.Send e n bytes xs) held)

    own_sent : AreOwn sent.table
    own_sent q = subst (IsOfEnd q) (sym (holds.table q)) (case (list_any (end_eq q) xs))
      where
        case : (b : Bool) → IsOfEnd q (if b then held_entry h (d.table q) else d.table q)
        case true = IsOfEnd-held h q (d.table q) (own q)
        case false = own q

    whole : Effect
    whole = record (match_effect k d.table started n bytes xs) { steps = step.Send e n bytes xs ∷ step.Match e n ∷ [] }

    matched : EndId → Entry → Entry
    matched = (match_effect k d.table started n bytes xs).entry

    same_values : values_leaving k sent.table xs ≡ values_leaving k d.table xs
    same_values = λ i. flat_map (λ x. each_value x i) xs
      where
        each_value : (x : EndId) → value_leaving k (here (sent.table x)) ≡ value_leaving k (here (d.table x))
        each_value x = ap (λ y. value_leaving k (here y)) (holds.table x) ∙ case (list_any (end_eq x) xs)
          where
            case : (b : Bool) → value_leaving k (here (if b then held_entry h (d.table x) else d.table x)) ≡ value_leaving k (here (d.table x))
            case true = value-held h k (d.table x)
            case false = refl

    same_entry : (q : EndId) (y : Entry) → matched q (turns xs (held_entry h) stays q y) ≡ matched q y
    same_entry q y = case (end_eq e q) (list_any (end_eq q) xs)
      where
        case : (a b : Bool) → (if a then entry.Here (matched_view started n) else (if b then left_of to (if b then held_entry h y else y) else (if b then held_entry h y else y)))
            ≡ (if a then entry.Here (matched_view started n) else (if b then left_of to y else y))
        case true b = refl
        case false true = left-held h to y
        case false false = refl

    by : (b : Bool) → Does (if b then record nothing { entry = puts e (entry.Here started) (turns xs (held_entry h) stays); steps = step.Send e n bytes xs ∷ [] } else whole) d (if b then keeps e (entry.Here started) sent else matches k started n bytes xs sent)
    by true = does-turned begun (keeps-does e (entry.Here started) sent)
    by false =
        does-same (record whole { packets = parcel_packets k started n bytes (values_leaving k sent.table xs) }) whole (ap (λ ms. record whole { packets = parcel_packets k started n bytes ms }) same_values)
        (does-entry (record whole { entry = λ q y. matched q (turns xs (held_entry h) stays q y); packets = parcel_packets k started n bytes (values_leaving k sent.table xs) }) matched (λ q. same_entry q (d.table q))
        (does-then begun (matches-does k started n bytes xs sent different apart own_sent)))
