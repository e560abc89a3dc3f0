-- In the entries of a run each call is one of a process of the setting, at its kernel.
use Rattle.std.proofs.Common.{◌≡◌, ◌<◌, List, [], ◌∷◌, length, sym, ap, subst, ◌∙◌}
use Rattle.std.specs.List.{AllByRecursion}
use Rattle.charlotte_calls.specs.declared.names.Pid.{Pid}
use Rattle.charlotte_calls.specs.declared.setting.Setting.{Setting}
use Rattle.kernel_entries.specs.declared.entry.Placed.{Placed}
use Rattle.kernel_step.specs.Start.{home}
use Rattle.kernel_world.specs.Run.{AreAllowed, IsAllowed, IsRecord}
use Rattle.kernel_world.specs.World.{Calls, Event, Takes, World, happens, noted, noted_as, start}
use Rattle.request_acts.specs.Acted.{home_of}
use Rattle.request_acts.proofs.Making.{IsOwn}

module _ (s : Setting) where
  own-event : (w : World) (e : Event) → IsAllowed s w e → IsOwn (home_of s) (length s.homes) (noted_as w e)
  own-event w (Calls k p c mine) allowed = record {
    there = λ q b is. (let same : p ≡ q = cc in subst (λ (r : Pid). r.0 < length s.homes) same allowed.0);
    own = λ q b is. (let same : p ≡ q = cc in sym allowed.1 ∙ ap (λ (r : Pid). home s r) same);
  }
  own-event w (Takes k from) allowed = record { there = λ q b is. absurd cc; own = λ q b is. absurd cc }

  own-events : (w : World) (es : List Event) → AreAllowed s w es → AllByRecursion (IsOwn (home_of s) (length s.homes)) (noted w es)
  own-events w [] allowed = tt
  own-events w (e ∷ es) allowed = (own-event w e allowed.0, own-events (happens w e) es allowed.1)

  pub own-entries : (es : List Event) (merged : List Placed) → IsRecord s es merged → AllByRecursion (IsOwn (home_of s) (length s.homes)) merged
  own-entries es merged recorded = subst (λ (l : List Placed). AllByRecursion (IsOwn (home_of s) (length s.homes)) l) recorded.entries (own-events (start s) es recorded.run.allowed)
