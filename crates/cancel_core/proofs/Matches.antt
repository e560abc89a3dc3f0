-- MATCH, made of its parts.
use Rattle.std.proofs.Common.{◌≡◌, ℕ, List, ap, subst, sym, ◌∙◌, refl}
use Rattle.charlotte_calls.specs.Names.{opposite}
use Rattle.charlotte_calls.specs.declared.calls.ServiceStep.TheVariants as step
use Rattle.charlotte_calls.specs.declared.names.EndId.{EndId}
use Rattle.charlotte_packets.specs.declared.picture.MovingPicture.{MovingPicture}
use Rattle.charlotte_packets.specs.declared.picture.PictureWhat.TheVariants as packet
use Rattle.charlotte_packets.specs.declared.work.Work.{Work}
use Rattle.cancel_core.specs.Sends.{IsWaiting}
use Rattle.end_table.proofs.EndEq.{put-put}
use Rattle.end_table.specs.Place.{put}
use Rattle.end_table.specs.Table.{TableView, entries, IfHere, IsHere, IsHereAnd, Puts}
use Rattle.end_table.specs.declared.entry.Entry.{Entry}
use Rattle.end_table.specs.declared.entry.Entry.TheVariants as entry
use Rattle.end_table.specs.declared.entry.HereView.{HereView}
use Rattle.end_table.specs.declared.entry.Outward.{Outward}
use Rattle.end_table.specs.declared.entry.Outward.TheVariants as outward
use Rattle.kernel_step.specs.Actions.{enclosed_of, hint_kernel, leave_each, matches, match_waiting, values_leaving}
use Rattle.kernel_step.specs.Progress.{Progress, progress, keeps, means, sends}

-- the view of an end whose send was matched
abbrev matched_view : HereView → ℕ → HereView
matched_view v n = record v { value = record v.value { served = v.value.want; want = 0 }; outward = outward.Matched n }

-- how far an event is has the table that it is made of
progress-table : (t : EndId → Entry) (out : Work) → (progress t out).table ≡ t
unfolding progress
progress-table t out = refl

-- the view is kept, then the ends leave, then the step and the parcel are added
matches-made_at : (k : ℕ) (v : HereView) (n : ℕ) (bytes : List ℕ) (xs : List EndId) (t0 t1 t2 : EndId → Entry) (old new : Work) (cargo : List MovingPicture)
    → progress t1 old ≡ keeps v.value.end (entry.Here (matched_view v n)) (progress t0 old) → progress t2 old ≡ leave_each (hint_kernel v) xs (progress t1 old) → cargo ≡ values_leaving k t1 xs
    → progress t2 new ≡ sends (hint_kernel v) (packet.Parcel (opposite v.value.end) n v.value.want k v.value.hops bytes cargo) (means (step.Match v.value.end n) (progress t2 old))
    → progress t2 new ≡ matches k v n bytes xs (progress t0 old)
unfolding matches
matches-made_at k v n bytes xs t0 t1 t2 old new cargo kept left values made =
    let with_kept = λ (d : Progress). sends (hint_kernel v) (packet.Parcel (opposite v.value.end) n v.value.want k v.value.hops bytes (values_leaving k d.table xs)) (means (step.Match v.value.end n) (leave_each (hint_kernel v) xs d)) in
    let parcel_of = λ (ms : List MovingPicture) (d : Progress). sends (hint_kernel v) (packet.Parcel (opposite v.value.end) n v.value.want k v.value.hops bytes ms) (means (step.Match v.value.end n) d) in
    made
    ∙ ap (λ ms. parcel_of ms (progress t2 old)) (values ∙ ap (λ t. values_leaving k t xs) (sym (progress-table t1 old)))
    ∙ ap (λ d. parcel_of (values_leaving k (progress t1 old).table xs) d) left
    ∙ ap with_kept kept

-- the same, where the end is told apart from its view
pub matches-made : (k : ℕ) (v : HereView) (n : ℕ) (bytes : List ℕ) (xs : List EndId) (t0 t1 t2 : EndId → Entry) (old new : Work) (cargo : List MovingPicture) (e : EndId) → v.value.end ≡ e
    → progress t1 old ≡ keeps e (entry.Here (matched_view v n)) (progress t0 old) → progress t2 old ≡ leave_each (hint_kernel v) xs (progress t1 old) → cargo ≡ values_leaving k t1 xs
    → progress t2 new ≡ sends (hint_kernel v) (packet.Parcel (opposite e) n v.value.want k v.value.hops bytes cargo) (means (step.Match e n) (progress t2 old)) → progress t2 new ≡ matches k v n bytes xs (progress t0 old)
matches-made k v n bytes xs t0 t1 t2 old new cargo e same kept left values made =
    matches-made_at k v n bytes xs t0 t1 t2 old new cargo
    (subst (λ q. progress t1 old ≡ keeps q (entry.Here (matched_view v n)) (progress t0 old)) (sym same) kept) left values
    (subst (λ q. progress t2 new ≡ sends (hint_kernel v) (packet.Parcel (opposite q) n v.value.want k v.value.hops bytes cargo) (means (step.Match q n) (progress t2 old))) (sym same) made)

-- an end is here where its send waits
pub IsHere-waiting : (x : Entry) → IsHereAnd x (λ v. IsWaiting v.outward) → IsHere x
IsHere-waiting (entry.Here v) waits = tt
IsHere-waiting entry.Nothing waits = waits
IsHere-waiting (entry.Left to hops) waits = waits
IsHere-waiting (entry.Destroyed m) waits = waits

-- what is true of the ends that its message encloses
pub waited : (P : List EndId → Type 0) (x : Entry) (n : ℕ) (bytes : List ℕ) (xs : List EndId) → IsHere x → IfHere x (λ v. P (enclosed_of v.outward)) → IfHere x (λ v. outward.Waiting n bytes xs ≡ v.outward) → P xs
waited P (entry.Here v) n bytes xs here is was = subst (λ o. P (enclosed_of o)) (sym was) is
waited P entry.Nothing n bytes xs here is was = absurd here
waited P (entry.Left to hops) n bytes xs here is was = absurd here
waited P (entry.Destroyed m) n bytes xs here is was = absurd here

-- MATCH of a send that waits, whose message was looked up
pub match_waited-made : (k : ℕ) (value : MovingPicture) (x : Entry) (n : ℕ) (bytes : List ℕ) (xs : List EndId) (d after : Progress)
    → IfHere x (λ v. outward.Waiting n bytes xs ≡ v.outward)
    → IfHere x (λ v. (o : Outward) → after ≡ matches k (record v { value = value; outward = o }) n bytes xs d)
    → IfHere x (λ v. after ≡ match_waiting k (record v { value = value }) v.outward d)
match_waited-made k value (entry.Here v) n bytes xs d after was made = made v.outward ∙ ap (λ o. match_waiting k (record v { value = value }) o d) was
match_waited-made k value entry.Nothing n bytes xs d after was made = tt
match_waited-made k value (entry.Left to hops) n bytes xs d after was made = tt
match_waited-made k value (entry.Destroyed m) n bytes xs d after was made = tt
