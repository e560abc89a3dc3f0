-- A Destroy and an Exit keep all that is true of the traces of ends.
use Rattle.std.proofs.Common.{◌≡◌, ◌⊎◌, inl, inr, ℕ, ◌+◌, ◌<◌, Bool, true, false, if◌then◌else◌, List, [], ◌∷◌, length, Contains, None, refl, sym, ap, subst, ◌∙◌, arith}
use Rattle.std.specs.List.{AllByRecursion, list_any}
use Rattle.charlotte_calls.specs.Names.{opposite}
use Rattle.charlotte_calls.specs.declared.calls.Call.{Call}
use Rattle.charlotte_calls.specs.declared.calls.Call.TheVariants as call
use Rattle.charlotte_calls.specs.declared.calls.ServiceStep.{ServiceStep}
use Rattle.charlotte_calls.specs.declared.calls.ServiceStep.TheVariants as step
use Rattle.charlotte_calls.specs.declared.names.EndId.{EndId}
use Rattle.charlotte_calls.specs.declared.names.Pid.{Pid}
use Rattle.charlotte_packets.specs.declared.picture.MovingPicture.{MovingPicture}
use Rattle.charlotte_packets.specs.declared.picture.PictureWhat.{PictureWhat}
use Rattle.charlotte_packets.specs.declared.picture.PictureWhat.TheVariants as packet
use Rattle.end_table.specs.Owned.{AreEndsOf}
use Rattle.end_table.specs.Place.{end_eq}
use Rattle.end_table.specs.Table.{IsOfEnd}
use Rattle.end_table.specs.declared.entry.Entry.{Entry}
use Rattle.end_table.specs.declared.entry.Entry.TheVariants as entry
use Rattle.end_table.specs.declared.entry.HereView.{HereView}
use Rattle.end_table.specs.declared.entry.Holder.TheVariants as holder
use Rattle.kernel_effects.proofs.Uses.{all-flat_map}
use Rattle.kernel_effects.specs.Actions.{gone_of}
use Rattle.kernel_effects.specs.Calls.{ended_list}
use Rattle.kernel_effects.specs.Effect.{Effect}
use Rattle.kernel_step.specs.Calls.{refusal}
use Rattle.kernel_step.specs.Rows.{is_here}
use Rattle.kernel_step.specs.Kernel.{has_report, process_of}
use Rattle.kernel_step.specs.declared.phase.Phase.TheVariants as kernel_phase
use Rattle.kernel_world.specs.World.{Calls, World, happens}
use Rattle.service_change.proofs.EndEq.{among-Contains}
use Rattle.service_step.specs.State.{Process, State, ends_process}
use Rattle.service_step.specs.Ends.{destroys_each, is_living}
use Rattle.service_step.specs.declared.state.Phase.TheVariants as phase
use Rattle.theorem_call_begin.proofs.Receives.{home-near}
use Rattle.theorem_call_end.proofs.Destroys.{destroy-does, runs as destroyer-runs}
use Rattle.theorem_call_end.proofs.Ends.{Destroys}
use Rattle.theorem_call_end.proofs.Exits.{exit-does, runs as leaver-runs}
use Rattle.theorem_call_end.proofs.Owned.{mine-ending}
use Rattle.theorem_effects.proofs.Allowed.{performs-allowed}
use Rattle.theorem_effects.proofs.Lists.{first}
use Rattle.theorem_effects.proofs.NamedAfter.{performs-names, performs-within}
use Rattle.theorem_effects.specs.Change.{Change, Happens}
use Rattle.theorem_effects.specs.Events.{calling}
use Rattle.theorem_effects.specs.Sums.{AllSent, sum_taken}
use Rattle.theorem_ends_destroyed.proofs.Facts.{among-same}
use Rattle.theorem_ends_destroyed.proofs.Placed.{ended-links}
use Rattle.theorem_ends_destroyed.specs.Ending.{IsEnding}
use Rattle.theorem_meaning.specs.Fields.{At, HasFields, Stand}
use Rattle.theorem_meaning.specs.Invariant.{Invariant}
use Rattle.theorem_meaning.specs.Packets.{Links, links_of, one_if, values_for, values_of}
use Rattle.theorem_meaning.specs.StandsFor.{home_of, standing}
use Rattle.theorem_take_silent.proofs.Places.{fields-here, here-living}
use Rattle.trace_calm.proofs.Known.{contains-flat_map}
use Rattle.trace_ending.proofs.Ending.{ending-traced}
use Rattle.trace_ending.specs.Telling.{AreTold, IsGoneAt, IsTold}
use Rattle.trace_meaning.specs.Traces.{AreTraced}

there-so : (y : Entry) (n : ℕ) → one_if (is_here y) + n ≡ 1 → n ≡ 0 → (v : HereView) × (y ≡ entry.Here v)
there-so (entry.Here v) n one none = (v, refl)
there-so entry.Nothing n one none = absurd (omega (arith, one, none))
there-so (entry.Left to hops) n one none = absurd (omega (arith, one, none))
there-so (entry.Destroyed m) n one none = absurd (omega (arith, one, none))

-- the gone of an end that is destroyed
gone-sent : (k : ℕ) (y : Entry) → AllByRecursion (λ (z : ℕ × PictureWhat). IsGoneAt k z.1) (gone_of k y)
gone-sent k entry.Nothing = tt
gone-sent k (entry.Left to hops) = tt
gone-sent k (entry.Destroyed m) = tt
gone-sent k (entry.Here v) = by v.value.dead
  where
    by : (a : Bool) → AllByRecursion (λ (z : ℕ × PictureWhat). IsGoneAt k z.1) (if a then [] else (v.value.hint.0, packet.Gone (opposite v.value.end) k) ∷ [])
    by true = tt
    by false = (refl, tt)

each-gone : (k : ℕ) (y : EndId → Entry) (xs : List EndId) → AllByRecursion (λ x. AllByRecursion (λ (z : ℕ × PictureWhat). IsGoneAt k z.1) (gone_of k (y x))) xs
each-gone k y [] = tt
each-gone k y (x ∷ xs) = (gone-sent k (y x), each-gone k y xs)

gone-there : (k : ℕ) (y : Entry) (e : EndId) (v : HereView) → y ≡ entry.Here v → v.value.end ≡ e → v.value.dead ≡ false → Contains {X = ℕ × PictureWhat} (gone_of k y) (v.value.hint.0, packet.Gone (opposite e) k)
gone-there k y e v here its free =
    subst (λ z. Contains {X = ℕ × PictureWhat} (gone_of k z) (v.value.hint.0, packet.Gone (opposite e) k)) (sym here)
    (subst (λ a. Contains {X = ℕ × PictureWhat} (if a then [] else (v.value.hint.0, packet.Gone (opposite v.value.end) k) ∷ []) (v.value.hint.0, packet.Gone (opposite e) k)) (sym free)
    (subst (λ z. Contains {X = ℕ × PictureWhat} ((v.value.hint.0, packet.Gone (opposite v.value.end) k) ∷ []) (v.value.hint.0, packet.Gone (opposite z) k)) its (first {X = ℕ × PictureWhat} (v.value.hint.0, packet.Gone (opposite v.value.end) k) [])))

-- a call that destroys ends of its process, as a Destroy and an Exit do
module _ (i : ℕ) (w : World) (s : State) (k : ℕ) (p : Pid) (is : Invariant i w s) (at : home_of s p ≡ k) (running : (s.process p.0).phase ≡ phase.Running) (c : Call) (mine ends : List EndId) (f : Effect) (g : ℕ → Process) (made : ServiceStep)
    (d : Destroys w s k p c mine ends f g made) (traced : AreTraced (links_of w) s.ends) where
  abbrev l : Links
  l = links_of w

  abbrev change : Change
  change = calling w k p c f

  abbrev table : EndId → Entry
  table = (w.kernel k).table

  abbrev ended : EndId → Bool
  ended e = list_any (end_eq e) (ended_list table ends)

  happened : Happens w (Calls k p c mine) change
  happened = performs-allowed is k p c mine f d.granted d.with_ends d.effect

  ending : IsEnding ended l change s (destroys_each p ends s.ends) g
  ending = mine-ending is change p ends at running d.owns d.different d.all g d.cancelling

  -- an end that is destroyed is here
  told-one : (e : EndId) (on : ended e ≡ true) → (v : HereView) × (table e ≡ entry.Here v) → IsTold l change s.ends e (ending.are e on).fields
  told-one e on v =
      record {
        lives = here-living (length s.made) l s.ends is.setting.few is.links.named is.links.marked is.stands.links.once e k v.0 v.1;
        alone = λ st m has. let z = fields st m has in (inl z.0, z.1 ∙ sym same);
        gone = λ free.
            subst (λ (m : MovingPicture). Contains change.packets (m.hint.0, packet.Gone (opposite e) k)) (sym same)
            (subst (λ ps. Contains ps (v.0.value.hint.0, packet.Gone (opposite e) k)) (sym d.all.packets)
            (contains-flat_map (λ x. gone_of k (table x)) (ended_list table ends) e (v.0.value.hint.0, packet.Gone (opposite e) k) (among-Contains e (ended_list table ends) (among-same e (ended_list table ends) ∙ on))
            (gone-there k (table e) e v.0 v.1 (subst (IsOfEnd e) v.1 ((is.setting.sound k).own e)) (sym (ap (λ (m : MovingPicture). m.dead) same) ∙ free))));
      }
    where
      fields : (st : Stand) (m : MovingPicture) → HasFields l e st m → (st ≡ At k) × (m ≡ v.0.value)
      fields st m has = fields-here (length s.made) l s.ends is.setting.few is.links.named is.links.marked is.stands.links.once e k v.0 st m v.1 has

      same : (ending.are e on).fields ≡ v.0.value
      same = (fields (ending.are e on).stand (ending.are e on).fields (ending.are e on).had).1

  told : AreTold ending
  told =
      record {
        sent = subst (λ ps. AllSent (λ n what. IsGoneAt k what) ps) (sym d.all.packets) (all-flat_map (λ (z : ℕ × PictureWhat). IsGoneAt k z.1) (λ x. gone_of k (table x)) (ended_list table ends) (each-gone k table (ended_list table ends)));
        each = λ e on. told-one e on (there-so (table e) (sum_taken (λ q. values_for e (values_of q)) change.taken) (ending.are e on).stood refl);
      }

  pub ends-traced : AreTraced (links_of (happens w (Calls k p c mine))) (destroys_each p ends s.ends)
  ends-traced =
      ending-traced happened.becomes.links ending told i is.setting.few is.links is.stands.links.once is.service.noticed.opposite traced

  -- each end stands as often then as the service says
  pub ends-once : k < length s.made → (e : EndId) → standing (links_of (happens w (Calls k p c mine))) e ≡ one_if (is_living (destroys_each p ends s.ends e).place)
  ends-once near =
      (ended-links happened.becomes.links ending (length s.made) is.setting.few is.links.named is.links.marked (performs-within is k p c mine near f (performs-names is k p c mine near f d.effect)) is.stands.links).once

-- a Destroy that its kernel does not refuse
pub destroy-traced : (i : ℕ) (w : World) (s : State) (k : ℕ) (p : Pid) (mine : List EndId) (is : Invariant i w s) (below : p.0 < length s.homes) (at : home_of s p ≡ k) (running : ((w.kernel k).process p.0).phase ≡ kernel_phase.Running) (e : EndId) (v : HereView) (here : (w.kernel k).table e ≡ entry.Here v)
    (own : v.holder ≡ holder.Owner p)
    → refusal p (w.kernel k).table (w.kernel k).made mine (has_report (process_of p (w.kernel k))) (call.Destroy e) ≡ None → AreTraced (links_of w) s.ends
    → AreTraced (links_of (happens w (Calls k p (call.Destroy e) mine))) (destroys_each p (e ∷ []) s.ends)
destroy-traced i w s k p mine is below at running e v here own granted traced =
    ends-traced i w s k p is at (destroyer-runs i w s k p mine is below at running e v here own) (call.Destroy e) mine (e ∷ []) _ s.process (step.Destroy e) (destroy-does i w s k p mine is below at running e v here own granted) traced

-- an Exit that its kernel does not refuse
pub exit-traced : (i : ℕ) (w : World) (s : State) (k : ℕ) (p : Pid) (mine : List EndId) (is : Invariant i w s) (below : p.0 < length s.homes) (at : home_of s p ≡ k) (running : ((w.kernel k).process p.0).phase ≡ kernel_phase.Running) (ends : AreEndsOf p (w.kernel k).table mine)
    → refusal p (w.kernel k).table (w.kernel k).made mine (has_report (process_of p (w.kernel k))) call.Exit ≡ None → AreTraced (links_of w) s.ends
    → AreTraced (links_of (happens w (Calls k p call.Exit mine))) (destroys_each p mine s.ends)
exit-traced i w s k p mine is below at running ends granted traced =
    ends-traced i w s k p is at (leaver-runs i w s k p mine is below at running ends) call.Exit mine mine _ (ends_process p s.process) (step.Exit p) (exit-does i w s k p mine is below at running ends granted) traced

pub exit-once : (i : ℕ) (w : World) (s : State) (k : ℕ) (p : Pid) (mine : List EndId) (is : Invariant i w s) (below : p.0 < length s.homes) (at : home_of s p ≡ k) (running : ((w.kernel k).process p.0).phase ≡ kernel_phase.Running) (ends : AreEndsOf p (w.kernel k).table mine)
    → refusal p (w.kernel k).table (w.kernel k).made mine (has_report (process_of p (w.kernel k))) call.Exit ≡ None → AreTraced (links_of w) s.ends
    → (e : EndId) → standing (links_of (happens w (Calls k p call.Exit mine))) e ≡ one_if (is_living (destroys_each p mine s.ends e).place)
exit-once i w s k p mine is below at running ends granted traced =
    ends-once i w s k p is at (leaver-runs i w s k p mine is below at running ends) call.Exit mine mine _ (ends_process p s.process) (step.Exit p) (exit-does i w s k p mine is below at running ends granted) traced (home-near i w s k p mine is below at running)
