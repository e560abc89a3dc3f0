-- Packets that answer no process and report nothing, whatever they meet, and mean steps to the service by which ends stay open.
use Rattle.std.proofs.Common.{◌≡◌, ℕ, Bool, true, false, nat_eq, nat_le, nat_lt, not, ◌&&◌, if◌then◌else◌, List, [], ◌∷◌, refl}
use Rattle.std.specs.List.{AllByRecursion}
use Rattle.charlotte_calls.specs.declared.names.EndId.{EndId}
use Rattle.end_table.specs.declared.entry.Entry.{Entry}
use Rattle.end_table.specs.declared.entry.Entry.TheVariants as entry
use Rattle.end_table.specs.declared.entry.HereView.{HereView}
use Rattle.end_table.specs.declared.entry.Outward.{Outward}
use Rattle.end_table.specs.declared.entry.Outward.TheVariants as outward
use Rattle.kernel_effects.specs.Actions.{learn_effect, match_waiting_effect}
use Rattle.kernel_effects.specs.Effect.{Effect, changed, nothing, puts, stays}
use Rattle.kernel_effects.specs.Rows.{asked_view, forget_effect, goneseen_effect, known_effect, moved_effect, unserved, unwant_effect, voids_effect, want_effect, wants_effect}
use Rattle.trace_steps.specs.Steps.{IsPlainStep}

pub record IsTame (f : Effect) : Type 0 where
  pub answers : f.answers ≡ []
  pub reports : f.reports ≡ []
  pub plain : AllByRecursion IsPlainStep f.steps

chosen-tame : (a : Bool) (f g : Effect) → IsTame f → IsTame g → IsTame (if a then f else g)
chosen-tame true f g one other = one
chosen-tame false f g one other = other

unserved-tame : (k n at hops : ℕ) (v : HereView) (f : Effect) → IsTame f → IsTame (unserved k n at hops v f)
unserved-tame k n at hops v f is =
    chosen-tame v.value.dead nothing (if nat_lt v.value.served n then f else learn_effect k at hops v) (record { answers = refl; reports = refl; plain = tt })
    (chosen-tame (nat_lt v.value.served n) f (learn_effect k at hops v) is (record { answers = refl; reports = refl; plain = tt }))

module _ (k : ℕ) (t : EndId → Entry) where
  wants-tame : (n at hops : ℕ) (v : HereView) (o : Outward) → IsTame (match_waiting_effect k t (asked_view n at hops v) o)
  wants-tame n at hops v outward.Idle = record { answers = refl; reports = refl; plain = tt }
  wants-tame n at hops v (outward.Waiting m bytes xs) = record { answers = refl; reports = refl; plain = (tt, tt) }
  wants-tame n at hops v (outward.Matched m) = record { answers = refl; reports = refl; plain = tt }
  wants-tame n at hops v outward.Unreported = record { answers = refl; reports = refl; plain = tt }

  pub want-tame : (to : EndId) (n at hops : ℕ) (y : Entry) → IsTame (want_effect k t to n at hops y)
  want-tame to n at hops entry.Nothing = record { answers = refl; reports = refl; plain = tt }
  want-tame to n at hops (entry.Here v) = unserved-tame k n at hops v (wants_effect k t n at hops v) (let is = wants-tame n at hops v v.outward in record { answers = is.answers; reports = is.reports; plain = is.plain })
  want-tame to n at hops (entry.Left there h) = record { answers = refl; reports = refl; plain = tt }
  want-tame to n at hops (entry.Destroyed m) = record { answers = refl; reports = refl; plain = tt }

pub unwant-tame : (k : ℕ) (to : EndId) (n at hops : ℕ) (y : Entry) → IsTame (unwant_effect k to n at hops y)
unwant-tame k to n at hops entry.Nothing = record { answers = refl; reports = refl; plain = tt }
unwant-tame k to n at hops (entry.Here v) = unserved-tame k n at hops v (voids_effect k n at hops v) (record { answers = refl; reports = refl; plain = (tt, tt) })
unwant-tame k to n at hops (entry.Left there h) = record { answers = refl; reports = refl; plain = tt }
unwant-tame k to n at hops (entry.Destroyed m) = record { answers = refl; reports = refl; plain = tt }

pub moved-tame : (k : ℕ) (to : EndId) (at hops : ℕ) (y : Entry) → IsTame (moved_effect k to at hops y)
moved-tame k to at hops entry.Nothing = record { answers = refl; reports = refl; plain = tt }
moved-tame k to at hops (entry.Here v) = chosen-tame v.value.dead nothing _ (record { answers = refl; reports = refl; plain = tt }) (record { answers = refl; reports = refl; plain = tt })
moved-tame k to at hops (entry.Left there h) = record { answers = refl; reports = refl; plain = tt }
moved-tame k to at hops (entry.Destroyed m) = record { answers = refl; reports = refl; plain = tt }

pub known-tame : (k hops : ℕ) (y : Entry) → IsTame (known_effect k hops y)
known-tame k hops entry.Nothing = record { answers = refl; reports = refl; plain = tt }
known-tame k hops (entry.Here v) = chosen-tame (not v.value.dead && nat_eq v.value.hops hops) _ nothing (record { answers = refl; reports = refl; plain = tt }) (record { answers = refl; reports = refl; plain = tt })
known-tame k hops (entry.Left there h) = record { answers = refl; reports = refl; plain = tt }
known-tame k hops (entry.Destroyed m) = record { answers = refl; reports = refl; plain = tt }

pub forget-tame : (to : EndId) (hops : ℕ) (y : Entry) → IsTame (forget_effect to hops y)
forget-tame to hops entry.Nothing = record { answers = refl; reports = refl; plain = tt }
forget-tame to hops (entry.Here v) = record { answers = refl; reports = refl; plain = tt }
forget-tame to hops (entry.Left there h) = chosen-tame (nat_le h hops) (changed (puts to entry.Nothing stays)) nothing (record { answers = refl; reports = refl; plain = tt }) (record { answers = refl; reports = refl; plain = tt })
forget-tame to hops (entry.Destroyed m) = record { answers = refl; reports = refl; plain = tt }

pub goneseen-tame : (k : ℕ) (y : Entry) → IsTame (goneseen_effect k y)
goneseen-tame k entry.Nothing = record { answers = refl; reports = refl; plain = tt }
goneseen-tame k (entry.Here v) = record { answers = refl; reports = refl; plain = tt }
goneseen-tame k (entry.Left there h) = record { answers = refl; reports = refl; plain = tt }
goneseen-tame k (entry.Destroyed m) = record { answers = refl; reports = refl; plain = tt }
