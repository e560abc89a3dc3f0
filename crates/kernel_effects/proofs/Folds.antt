-- Words on several ends, one after another.
use Rattle.std.proofs.Common.{◌≡◌, ℕ, Bool, true, false, List, [], ◌∷◌, refl, ap, subst, ◌∙◌, if◌then◌else◌}
use Rattle.std.specs.List.{fold, flat_map, list_any}
use Rattle.charlotte_calls.specs.declared.names.EndId.{EndId}
use Rattle.charlotte_packets.specs.declared.picture.MovingPicture.{MovingPicture}
use Rattle.charlotte_packets.specs.declared.picture.PictureWhat.{PictureWhat}
use Rattle.end_table.proofs.EndEq.{end_eq-same, end_eq-sym}
use Rattle.end_table.specs.Entries.{settled, left_entry, ended_entry}
use Rattle.end_table.specs.Place.{end_eq}
use Rattle.end_table.specs.declared.entry.Entry.{Entry}
use Rattle.end_table.specs.declared.entry.Entry.TheVariants as entry
use Rattle.end_table.specs.declared.entry.Holder.{Holder}
use Rattle.kernel_step.proofs.EnclosedEnds.{first_false, second_false}
use Rattle.kernel_step.proofs.Folds.{AreDifferent, AreOwn, hold_each-table, leave_each-table, held_entry as step_held, left_of as step_left}
use Rattle.kernel_step.specs.Actions.{here, held, hold_each, leaves_here, leave_each, ends_idle, settle_each}
use Rattle.kernel_step.specs.Progress.{Progress, keeps}
use Rattle.kernel_step.specs.Rows.{ends_in, pass_each, end_arrivals}
use Rattle.kernel_effects.specs.Effect.{Effect, Does, and_then, brings, changed, puts, stays, turns}
use Rattle.kernel_effects.specs.Actions.{ends_arrivals, gone_packets, held_entry, holds_each, leaves_each, left_of, passes_each, settles_each}
use Rattle.kernel_effects.proofs.Does.{OnlyTable, does-changed, does-entry, does-nothing, does-same, does-sent, does-then, keeps-does, keeps-only, only_table, only_table-fold}
use Rattle.kernel_effects.proofs.Packets.{tells_gone-does}

-- ---- ends

-- an end that is here is held otherwise
held-only : (h : Holder) (y : Entry) (d : Progress) → OnlyTable d (held h (here y) d)
held-only h entry.Nothing d = only_table d
held-only h (entry.Here v) d = keeps-only v.value.end (entry.Here (record v { holder = h })) d
held-only h (entry.Left to hops) d = only_table d
held-only h (entry.Destroyed m) d = only_table d

-- the word of it
held-word : (h : Holder) (y : Entry) → step_held h y ≡ held_entry h y
held-word h entry.Nothing = refl
held-word h (entry.Here v) = refl
held-word h (entry.Left to hops) = refl
held-word h (entry.Destroyed m) = refl

pub hold_each-does : (h : Holder) (xs : List EndId) (d : Progress) → AreDifferent xs → AreOwn d.table → Does (holds_each h xs) d (hold_each h xs d)
unfolding hold_each
hold_each-does h xs d apart own =
    does-changed (turns xs (held_entry h) stays) d (hold_each h xs d) (λ q. hold_each-table h xs d q apart own ∙ ap (λ z. if list_any (end_eq q) xs then z else d.table q) (held-word h (d.table q)))
    (only_table-fold (λ so_far x. held h (here (so_far.table x)) so_far) (λ d x. held-only h (d.table x) d) xs d)

-- an end that is here leaves
left-only : (to : ℕ) (y : Entry) (d : Progress) → OnlyTable d (leaves_here to (here y) d)
left-only to entry.Nothing d = only_table d
left-only to (entry.Here v) d = keeps-only v.value.end (left_entry to v.value) d
left-only to (entry.Left there hops) d = only_table d
left-only to (entry.Destroyed m) d = only_table d

-- the word of it
left-word : (to : ℕ) (y : Entry) → step_left to y ≡ left_of to y
left-word to entry.Nothing = refl
left-word to (entry.Here v) = refl
left-word to (entry.Left there hops) = refl
left-word to (entry.Destroyed m) = refl

pub leave_each-does : (to : ℕ) (xs : List EndId) (d : Progress) → AreDifferent xs → AreOwn d.table → Does (leaves_each to xs) d (leave_each to xs d)
unfolding leave_each
leave_each-does to xs d apart own =
    does-changed (turns xs (left_of to) stays) d (leave_each to xs d) (λ q. leave_each-table to xs d q apart own ∙ ap (λ z. if list_any (end_eq q) xs then z else d.table q) (left-word to (d.table q)))
    (only_table-fold (λ so_far x. leaves_here to (here (so_far.table x)) so_far) (λ d x. left-only to (d.table x) d) xs d)

-- ---- values

-- an end that is none of these stays as the others do
pub brings-others : (ms : List MovingPicture) (word : MovingPicture → Entry) (others : EndId → Entry → Entry) (q : EndId) (y : Entry) → list_any (end_eq q) (ends_in ms) ≡ false
    → brings ms word others q y ≡ others q y
brings-others [] word others q y none = refl
brings-others (m ∷ ms) word others q y none =
    ap (λ b. if b then word m else brings ms word others q y) (end_eq-sym m.end q ∙ first_false _ _ none)
    ∙ brings-others ms word others q y (second_false _ _ none)

-- a fold of words on values of ends that differ, each of which puts the entry of its end by the value and sends packets by it
pub values-does : (word : MovingPicture → Entry) (packets : MovingPicture → List (ℕ × PictureWhat)) (step : Progress → MovingPicture → Progress)
    → ((d : Progress) (m : MovingPicture) → Does (record (changed (puts m.end (word m) stays)) { packets = packets m }) d (step d m))
    → (ms : List MovingPicture) (d : Progress) → AreDifferent (ends_in ms) → Does (record (changed (brings ms word stays)) { packets = flat_map packets ms }) d (fold step d ms)
values-does word packets step does [] d apart = does-nothing d
values-does word packets step does (m ∷ ms) d apart =
    does-entry (and_then first rest) (brings (m ∷ ms) word stays) (λ q. by q (end_eq m.end q) refl) (does-then (does d m) (values-does word packets step does ms (step d m) apart.1))
  where
    first : Effect
    first = record (changed (puts m.end (word m) stays)) { packets = packets m }

    rest : Effect
    rest = record (changed (brings ms word stays)) { packets = flat_map packets ms }

    by : (q : EndId) (b : Bool) → end_eq m.end q ≡ b → brings ms word stays q (if b then word m else d.table q) ≡ (if b then word m else brings ms word stays q (d.table q))
    by q true same = brings-others ms word stays q (word m) (subst (λ z. list_any (end_eq z) (ends_in ms) ≡ false) (end_eq-same m.end q same) apart.0)
    by q false other = refl

-- nothing is told of them
abbrev no_packets : MovingPicture → List (ℕ × PictureWhat)
no_packets m = []

flat_map-nothing : (ms : List MovingPicture) → flat_map no_packets ms ≡ []
flat_map-nothing [] = refl
flat_map-nothing (m ∷ ms) = flat_map-nothing ms

-- the same of words that send nothing
values-turned : (word : MovingPicture → Entry) (ms : List MovingPicture) (d : Progress) → AreDifferent (ends_in ms)
    → Does (changed (brings ms word stays)) d (fold (λ so_far m. keeps m.end (word m) so_far) d ms)
values-turned word ms d apart =
    does-same (record (changed (brings ms word stays)) { packets = flat_map no_packets ms }) (changed (brings ms word stays))
    (ap (λ ps. record (changed (brings ms word stays)) { packets = ps }) (flat_map-nothing ms))
    (values-does word no_packets (λ so_far m. keeps m.end (word m) so_far) (λ d m. keeps-does m.end (word m) d) ms d apart)

-- values become ends that are here
pub settle_each-does : (h : Holder) (ms : List MovingPicture) (d : Progress) → AreDifferent (ends_in ms) → Does (settles_each h ms) d (settle_each h ms d)
unfolding settle_each
settle_each-does h ms d apart = values-turned (λ m. entry.Here (settled h m)) ms d apart

-- they leave again
pub pass_each-does : (at : ℕ) (ms : List MovingPicture) (d : Progress) → AreDifferent (ends_in ms) → Does (passes_each at ms) d (pass_each at ms d)
unfolding pass_each
pass_each-does at ms d apart = values-turned (left_entry at) ms d apart

-- END of an idle end
pub ends_idle-does : (k : ℕ) (m : MovingPicture) (d : Progress) → Does (record (changed (puts m.end (ended_entry m) stays)) { packets = gone_packets k m }) d (ends_idle k m d)
unfolding ends_idle
ends_idle-does k m d = does-sent (keeps-does m.end (ended_entry m) d) (tells_gone-does k m (keeps m.end (ended_entry m) d))

-- they become Here and are destroyed
pub end_arrivals-does : (k : ℕ) (ms : List MovingPicture) (d : Progress) → AreDifferent (ends_in ms) → Does (ends_arrivals k ms) d (end_arrivals k ms d)
unfolding end_arrivals
end_arrivals-does k ms d apart = values-does ended_entry (gone_packets k) (λ so_far m. ends_idle k m so_far) (λ d m. ends_idle-does k m d) ms d apart
