-- A report that is told frees a way of an end, and leaves its value.
use Rattle.std.proofs.Common.{◌≡◌, ℕ, Bool, true, false, if◌then◌else◌, List, [], ◌∷◌, refl}
use Rattle.charlotte_calls.specs.declared.calls.Report.{Report}
use Rattle.charlotte_calls.specs.declared.names.EndId.{EndId}
use Rattle.charlotte_calls.specs.declared.names.Way.{Way}
use Rattle.charlotte_calls.specs.declared.names.Way.TheVariants as way
use Rattle.end_table.specs.Place.{end_eq}
use Rattle.end_table.specs.declared.entry.Entry.{Entry}
use Rattle.end_table.specs.declared.entry.Entry.TheVariants as entry
use Rattle.end_table.specs.declared.entry.HereView.{HereView}
use Rattle.kernel_outcomes.specs.Closing.{told_entry}
use Rattle.kernel_step.specs.Kernel.{reported_entry, reported_view}
use Rattle.theorem_effects.specs.Change.{Change}
use Rattle.trace_moving.specs.Moving.{IsStill}

reported-here : (x : Way) (v : HereView) → (o : HereView) × (reported_entry x (entry.Here v) ≡ entry.Here o) × (o.value ≡ v.value)
reported-here way.Outward v = (reported_view way.Outward v, refl, refl)
reported-here way.Inward v = (reported_view way.Inward v, refl, refl)

pub told-here : (rs : List Report) (e : EndId) (v : HereView) → (o : HereView) × (told_entry rs e (entry.Here v) ≡ entry.Here o) × (o.value ≡ v.value)
told-here [] e v = (v, refl, refl)
told-here (r ∷ rs) e v = by (end_eq r.on e)
  where
    by : (b : Bool) → (o : HereView) × ((if b then reported_entry r.way (entry.Here v) else entry.Here v) ≡ entry.Here o) × (o.value ≡ v.value)
    by true = reported-here r.way v
    by false = (v, refl, refl)

reported-still : (c : Change) (k : ℕ) (e : EndId) (x : Way) (y z : Entry) → IsStill c k e y z → IsStill c k e y (reported_entry x z)
reported-still c k e x entry.Nothing entry.Nothing like = tt
reported-still c k e way.Outward (entry.Here v) (entry.Here o) like = like
reported-still c k e way.Inward (entry.Here v) (entry.Here o) like = like
reported-still c k e x (entry.Left to hops) (entry.Left there more) like = like
reported-still c k e x (entry.Destroyed m) (entry.Destroyed l) like = like
reported-still c k e x _ _ like = absurd like

pub told-still : (c : Change) (k : ℕ) (rs : List Report) (e : EndId) (y z : Entry) → IsStill c k e y z → IsStill c k e y (told_entry rs e z)
told-still c k [] e y z like = like
told-still c k (r ∷ rs) e y z like = by (end_eq r.on e)
  where
    by : (b : Bool) → IsStill c k e y (if b then reported_entry r.way z else z)
    by true = reported-still c k e r.way y z like
    by false = like
