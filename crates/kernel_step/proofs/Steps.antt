-- How changes of a table and of a `Work` make the words of the kernel step.
use Rattle.std.proofs.Common.{◌≡◌, ℕ, [], ◌∷◌, ap, sym, ◌∙◌, refl}
use Rattle.charlotte_calls.specs.declared.names.EndId.{EndId}
use Rattle.charlotte_packets.specs.declared.work.Work.{Work}
use Rattle.charlotte_packets.specs.declared.picture.MovingPicture.{MovingPicture}
use Rattle.end_table.specs.Entries.{left_entry, left_value}
use Rattle.end_table.specs.Place.{put}
use Rattle.end_table.specs.Table.{TableView, entries, IfHere, IsHere, IsHereAnd, IsIdle, IsOfEnd, KeepsOthers, Puts}
use Rattle.end_table.specs.declared.entry.Entry.{Entry}
use Rattle.end_table.specs.declared.entry.Entry.TheVariants as entry
use Rattle.end_table.specs.declared.entry.HereView.{HereView}
use Rattle.end_table.specs.declared.entry.Holder.{Holder}
use Rattle.kernel_step.specs.Actions.{here, held, leaves_here, value_leaving}
use Rattle.kernel_step.specs.Progress.{progress, keeps}

-- a table that has one entry put is how far the event is with this entry kept
pub progress-put : (old new : EndId → Entry) (e : EndId) (x : Entry) (out : Work) → new ≡ put old e x → progress new out ≡ keeps e x (progress old out)
unfolding progress keeps
progress-put old new e x out h = ap (λ t. progress t out) h

-- the same as a set, for tactics
pub ruleset progress_puts = progress-put

-- where an entry is Here, what is true of its view follows from something else that is
pub IfHere-map : (P Q : HereView → Type 0) (x : Entry) → ((v : HereView) → x ≡ entry.Here v → P v → Q v) → IfHere x P → IfHere x Q
IfHere-map P Q (entry.Here v) follows is = follows v refl is
IfHere-map P Q entry.Nothing follows is = tt
IfHere-map P Q (entry.Left to hops) follows is = tt
IfHere-map P Q (entry.Destroyed m) follows is = tt

-- an end that is here has a view
pub IfHere-view : (P : HereView → Type 0) (Q : Type 0) (x : Entry) → IsHere x → ((v : HereView) → x ≡ entry.Here v → P v → Q) → IfHere x P → Q
IfHere-view P Q (entry.Here v) here follows is = follows v refl is
IfHere-view P Q entry.Nothing here follows is = absurd here
IfHere-view P Q (entry.Left to hops) here follows is = absurd here
IfHere-view P Q (entry.Destroyed m) here follows is = absurd here

-- an idle end is here
pub IsHere-idle : (x : Entry) → IsHereAnd x IsIdle → IsHere x
IsHere-idle (entry.Here v) idle = tt
IsHere-idle entry.Nothing idle = idle
IsHere-idle (entry.Left to hops) idle = idle
IsHere-idle (entry.Destroyed m) idle = idle

-- where an entry is put by its view, every other end keeps its own
pub kept-IfHere : (old new : TableView) (e : EndId) (f : HereView → Entry) → IsHere (entries old e) → IfHere (entries old e) (λ v. Puts old new e (f v)) → KeepsOthers old new e
kept-IfHere old new e f here is =
    IfHere-view (λ v. Puts old new e (f v)) (KeepsOthers old new e) (entries old e) here (λ v same puts. record { others = puts.others; kernel = puts.kernel }) is

-- so how far the event is has it kept
pub progress-IfHere : (old new : TableView) (e : EndId) (f : HereView → Entry) → IfHere (entries old e) (λ v. Puts old new e (f v))
    → IfHere (entries old e) (λ v. (out : Work) → progress (entries new) out ≡ keeps e (f v) (progress (entries old) out))
progress-IfHere old new e f is = IfHere-map (λ v. Puts old new e (f v)) (λ v. (out : Work) → progress (entries new) out ≡ keeps e (f v) (progress (entries old) out)) (entries old e)
    (λ v same puts out. progress-put (entries old) (entries new) e (f v) out puts.after) is

-- what a word says of the view that is kept for an end, it says of the entry
pub value_leaving-taken : (k : ℕ) (x : Entry) (m : MovingPicture) → IsHere x → IfHere x (λ v. m ≡ left_value k v.value) → value_leaving k (here x) ≡ m ∷ []
value_leaving-taken k (entry.Here v) m here is = ap (λ z. z ∷ []) (sym is)
value_leaving-taken k entry.Nothing m here is = absurd here
value_leaving-taken k (entry.Left to hops) m here is = absurd here
value_leaving-taken k (entry.Destroyed w) m here is = absurd here

pub leaves_here-taken : (old new : TableView) (e : EndId) (to : ℕ) (x : Entry) (out : Work) → IsHere x → IsOfEnd e x → IfHere x (λ v. Puts old new e (left_entry to v.value))
    → progress (entries new) out ≡ leaves_here to (here x) (progress (entries old) out)
leaves_here-taken old new e to (entry.Here v) out here own is =
    progress-put (entries old) (entries new) e (left_entry to v.value) out is.after ∙ ap (λ q. keeps q (left_entry to v.value) (progress (entries old) out)) (sym own)
leaves_here-taken old new e to entry.Nothing out here own is = absurd here
leaves_here-taken old new e to (entry.Left there hops) out here own is = absurd here
leaves_here-taken old new e to (entry.Destroyed m) out here own is = absurd here

pub held-set : (old new : TableView) (e : EndId) (h : Holder) (x : Entry) (out : Work) → IsHere x → IsOfEnd e x → IfHere x (λ v. Puts old new e (entry.Here (record v { holder = h })))
    → progress (entries new) out ≡ held h (here x) (progress (entries old) out)
held-set old new e h (entry.Here v) out here own is =
    progress-put (entries old) (entries new) e (entry.Here (record v { holder = h })) out is.after
    ∙ ap (λ q. keeps q (entry.Here (record v { holder = h })) (progress (entries old) out)) (sym own)
held-set old new e h entry.Nothing out here own is = absurd here
held-set old new e h (entry.Left there hops) out here own is = absurd here
held-set old new e h (entry.Destroyed m) out here own is = absurd here
