-- The service goes with a call that destroys ends of its process, by the step of the call.
use Rattle.std.proofs.Common.{◌≡◌, ◌↔◌, ℕ, ◌+◌, ◌<◌, Bool, true, false, nat_eq, List, [], ◌∷◌, length, None, refl, sym, ap, subst, ◌∙◌}
use Rattle.std.proofs.lemmas.List.Elements.{All-get_or}
use Rattle.std.specs.List.{list_any}
use Rattle.charlotte_calls.specs.declared.calls.Call.{Call}
use Rattle.charlotte_calls.specs.declared.calls.Report.{Report}
use Rattle.charlotte_calls.specs.declared.calls.ServiceStep.{ServiceStep}
use Rattle.charlotte_calls.specs.declared.names.EndId.{EndId}
use Rattle.charlotte_calls.specs.declared.names.Pid.{Pid}
use Rattle.end_table.specs.Place.{end_eq}
use Rattle.kernel_effects.specs.Calls.{act_effect, ended_list}
use Rattle.kernel_effects.specs.Effect.{Effect}
use Rattle.kernel_outcomes.specs.Closing.{call_told, told_entry}
use Rattle.kernel_sound.proofs.Acts.{Covers}
use Rattle.kernel_sound.specs.Acts.{made_after}
use Rattle.kernel_sound.specs.Sound.{IsSound}
use Rattle.kernel_step.proofs.Folds.{AreDifferent}
use Rattle.kernel_step.specs.Calls.{IsCallWith, refusal}
use Rattle.kernel_step.specs.Kernel.{has_report, process_of}
use Rattle.kernel_world.specs.World.{World, Calls, Event, happens}
use Rattle.service_consistent.proofs.Laws.{consistent_after}
use Rattle.service_step.specs.Ends.{destroys_each}
use Rattle.service_step.specs.State.{State, Process}
use Rattle.service_step.specs.Steps.{IsServiceStep}
use Rattle.service_step.specs.declared.state.Phase.TheVariants as phase
use Rattle.theorem_call_begin.proofs.Allowed.{performs-allowed}
use Rattle.theorem_call_begin.proofs.NamedAfter.{performs-names, performs-within, told-names}
use Rattle.theorem_call_begin.specs.Change.{Change, Changes, Happens}
use Rattle.theorem_call_begin.specs.Events.{caller, calling}
use Rattle.theorem_call_begin.specs.Named.{NamesWithin}
use Rattle.theorem_call_begin.specs.Sums.{IsWithin}
use Rattle.theorem_meaning.proofs.Goes.{Goes}
use Rattle.theorem_meaning.specs.Invariant.{Invariant}
use Rattle.theorem_meaning.specs.Packets.{links_of}
use Rattle.theorem_meaning.specs.StandsFor.{IsOwnedHere, IsProcessOf, home_of}
use Rattle.theorem_take_answer.proofs.World.{processes-told, setting-after}
use Rattle.theorem_call_begin.proofs.Answered.{acts-sound}
use Rattle.theorem_ends_destroyed.proofs.Clauses.{ended-right}
use Rattle.theorem_ends_destroyed.proofs.Placed.{ended-links}
use Rattle.theorem_ends_destroyed.specs.Ending.{IsEnding}
use Rattle.theorem_call_end.proofs.Owned.{EndsAll, mine-ending}

-- a call of process p that destroys these ends of it, and has this effect; g are the processes of the service afterwards
pub record Destroys (w : World) (s : State) (k : ℕ) (p : Pid) (c : Call) (mine ends : List EndId) (f : Effect) (g : ℕ → Process) (made : ServiceStep) : Type 0 where
  pub granted : refusal p (w.kernel k).table (w.kernel k).made mine (has_report (process_of p (w.kernel k))) c ≡ None
  pub with_ends : IsCallWith p (w.kernel k).table mine c
  pub effect : act_effect p k (w.kernel k).made mine (w.kernel k).table c ≡ f
  pub untold : (rs : List Report) → call_told c rs ≡ []
  pub unmade : made_after c (w.kernel k).made ≡ (w.kernel k).made
  pub touches : Pid → EndId → Bool
  pub covers : Covers touches p c
  -- its ends
  pub owns : (e : EndId) → list_any (end_eq e) ends ≡ true → IsOwnedHere p ((w.kernel k).table e)
  pub different : AreDifferent ends
  pub all : EndsAll (links_of w) (calling w k p c f) ends
  -- the processes of the service
  pub others : (q : ℕ) → nat_eq p.0 q ≡ false → g q ≡ s.process q
  pub its : IsProcessOf (calling w k p c f).process (g p.0)
  pub cancelling : (q : Pid) (e : EndId) → ((g q.0).phase ≡ phase.Cancelling e) ↔ ((s.process q.0).phase ≡ phase.Cancelling e)
  pub waiting : (q : Pid) → (g q.0).phase ≡ phase.Waiting → (g q.0).reports ≡ []
  -- and its step
  pub steps : (calling w k p c f).steps ≡ made ∷ []
  pub stepped : IsServiceStep s made (record s { ends = destroys_each p ends s.ends; process = g })

module _ (i : ℕ) (w : World) (s : State) (k : ℕ) (p : Pid) (is : Invariant i w s) (below : p.0 < length s.homes) (at : home_of s p ≡ k) (running : (s.process p.0).phase ≡ phase.Running) where
  -- kernels of processes are among those that there are
  home-near : k < length s.made
  home-near = subst (λ h. h < length s.made) at (All-get_or (λ h. h < length s.made) s.homes p.0 0 below is.setting.homes)

  module _ (c : Call) (mine ends : List EndId) (f : Effect) (g : ℕ → Process) (made : ServiceStep) (d : Destroys w s k p c mine ends f g made) where
    abbrev event : Event
    event = Calls k p c mine

    abbrev change : Change
    change = calling w k p c f

    abbrev v : World
    v = happens w event

    abbrev after : State
    after = record s { ends = destroys_each p ends s.ends; process = g }

    happened : Happens w event change
    happened = performs-allowed is k p c mine f d.granted d.with_ends d.effect

    b : Changes (links_of w) change (links_of v)
    b = happened.becomes.links

    names : NamesWithin (length s.made) f
    names = performs-names is k p c mine home-near f d.effect

    within : IsWithin 8 change
    within = performs-within is k p c mine home-near f names

    ending : IsEnding (λ e. list_any (end_eq e) (ended_list (w.kernel k).table ends)) (links_of w) change s (destroys_each p ends s.ends) g
    ending = mine-ending is change p ends at running d.owns d.different d.all g d.cancelling

    sound : IsSound k (w.kernel k).made (length s.homes) (v.kernel k).table
    sound =
        subst (IsSound k (w.kernel k).made (length s.homes)) (sym table)
        (subst (λ m. IsSound k m (length s.homes) (λ q. (act_effect p k (w.kernel k).made mine (w.kernel k).table c).entry q ((w.kernel k).table q))) d.unmade
        (acts-sound d.touches k (w.kernel k).made (length s.homes) (w.kernel k).table p mine (has_report (process_of p (w.kernel k))) c (is.setting.sound k) below d.granted d.with_ends d.covers))
      where
        at_end : (q : EndId) → (v.kernel k).table q ≡ (act_effect p k (w.kernel k).made mine (w.kernel k).table c).entry q ((w.kernel k).table q)
        at_end q =
            b.entry q ∙ ap (λ rs. told_entry rs q (f.entry q ((w.kernel k).table q))) (d.untold (caller p (w.kernel k)).reports) ∙ ap (λ (e : Effect). e.entry q ((w.kernel k).table q)) (sym d.effect)

        table : (v.kernel k).table ≡ (λ q. (act_effect p k (w.kernel k).made mine (w.kernel k).table c).entry q ((w.kernel k).table q))
        table = λ j q. at_end q j

    ends-invariant : Invariant (i + 1) v after
    ends-invariant =
        record {
          stands =
              record {
                processes = processes-told happened.becomes s (destroys_each p ends s.ends) g at d.its d.others is.stands.processes;
                links = ended-links b ending (length s.made) is.setting.few is.links.named is.links.marked within is.stands.links;
              };
          service = consistent_after s made after is.service d.stepped;
          setting = setting-after happened.becomes s (destroys_each p ends s.ends) g d.unmade sound is.setting;
          links =
              ended-right b ending i is.setting.few home-near within (λ e y has. told-names (length s.made) (call_told c (caller p (w.kernel k)).reports) e (f.entry e y) (names.entries e y has)) names.sent is.service.kept is.stands.links is.links;
          waiting = d.waiting;
        }

    pub ends-goes : Goes i w s event
    ends-goes = record { part = (made, after) ∷ []; steps = sym (happened.steps ∙ d.steps); run = (d.stepped, tt); after = ends-invariant; homes = refl }
