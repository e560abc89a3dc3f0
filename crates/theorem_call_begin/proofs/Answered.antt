-- What a call that is granted and answered at once leaves of kernels and processes: tables stay sound, and processes are as the service
-- has them.
use Rattle.std.proofs.Common.{◌≡◌, ◌≢◌, ◌⊎◌, inl, inr, ℕ, ◌<◌, ◌≤◌, Bool, true, false, true≢false, not, nat_eq, if◌then◌else◌, All, List, [], length, None, slice_index, refl, sym, ap, subst, ◌∙◌, Option, Some, eq-eqb}
use Rattle.std.proofs.lemmas.Bool.Decides.{eqb_tells}
use Rattle.charlotte_calls.specs.declared.calls.Answer.{Answer}
use Rattle.charlotte_calls.specs.declared.calls.Call.{Call}
use Rattle.charlotte_calls.specs.declared.names.EndId.{EndId}
use Rattle.charlotte_calls.specs.declared.names.Pid.{Pid}
use Rattle.end_table.specs.Owned.{is_owner, owned}
use Rattle.end_table.specs.Table.{IsOfEnd}
use Rattle.end_table.specs.declared.entry.Entry.{Entry}
use Rattle.end_table.specs.declared.entry.Entry.TheVariants as entry
use Rattle.end_table.specs.declared.entry.HereView.{HereView}
use Rattle.end_table.specs.declared.entry.Holder.TheVariants as holder
use Rattle.theorem_take_silent.specs.Calls.{act_effect}
use Rattle.theorem_take_silent.specs.Effect.{Does, Effect}
use Rattle.theorem_take_silent.proofs.Events.{acts-does}
use Rattle.theorem_take_silent.specs.Closing.{call_told, ran, told_entry}
use Rattle.kernel_sound.proofs.Acts.{Covers, acts-well}
use Rattle.kernel_sound.proofs.Goes.{GoesWell}
use Rattle.kernel_sound.proofs.Needs.{owned-here}
use Rattle.kernel_sound.specs.Acts.{acts, made_after}
use Rattle.kernel_sound.specs.Sound.{IsSound}
use Rattle.kernel_step.specs.Calls.{IsCallWith, refusal, seen, seen_of, sees}
use Rattle.kernel_step.specs.Kernel.{Kernel, has_report, process_of}
use Rattle.kernel_step.specs.Progress.{Progress}
use Rattle.kernel_step.specs.declared.phase.Phase.TheVariants as kernel_phase
use Rattle.theorem_meaning.specs.World.{World}
use Rattle.service_step.specs.State.{State}
use Rattle.theorem_take_silent.specs.Change.{Becomes, Change}
use Rattle.theorem_take_silent.specs.Events.{caller, calling}
use Rattle.theorem_meaning.specs.Invariant.{Invariant, IsOfSetting}
use Rattle.theorem_meaning.specs.StandsFor.{IsProcessOf, home_of, service_phase}

-- ---- a table

-- each end is touched
abbrev pub all_ends : Pid → EndId → Bool
all_ends p e = true

-- the table that a granted call leaves is sound, whichever ends it touches
pub acts-sound : (touches : Pid → EndId → Bool) (k made n : ℕ) (t : EndId → Entry) (p : Pid) (mine : List EndId) (reported : Bool) (c : Call) → IsSound k made n t → p.0 < n → refusal p t made mine reported c ≡ None → IsCallWith p t mine c
    → Covers touches p c → IsSound k (made_after c made) n (λ q. (act_effect p k made mine t c).entry q (t q))
acts-sound touches k made n t p mine reported c sound below granted ends covers =
    subst (IsSound k (made_after c made) n) (λ i q. did.table q i) after.sound
  where
    d : Progress
    d = record { table = t; stamp = 0; packets = []; reports = []; answers = []; steps = [] }

    did : Does (act_effect p k made mine t c) d (acts p k made mine c d)
    did = acts-does k made n d sound p mine reported c granted ends

    after : GoesWell k (made_after c made) n touches t (acts p k made mine c d)
    after = acts-well k made n touches t p mine c d below reported granted ends covers (record { sound = sound; reports = tt; answers = tt; calm = λ q e is. refl })

pub call-sound : (k made n : ℕ) (t : EndId → Entry) (p : Pid) (mine : List EndId) (reported : Bool) (c : Call) → IsSound k made n t → p.0 < n → refusal p t made mine reported c ≡ None → IsCallWith p t mine c → Covers all_ends p c
    → IsSound k (made_after c made) n (λ q. (act_effect p k made mine t c).entry q (t q))
call-sound = acts-sound all_ends

-- ---- the end of a granted call

-- the kernel has an end as owned that is here with this owner
pub owned-of : (p : Pid) (x : Entry) (v : HereView) → x ≡ entry.Here v → v.holder ≡ holder.Owner p → owned p x ≡ Some v
owned-of p x v here owner = ap (owned p) here ∙ ap (λ h. if is_owner p h then Some v else None) owner ∙ ap (λ b. if b then Some v else None) (eq-eqb p.0 p.0 refl)

-- the caller owns the end that is here, and so it sees it
pub record IsGranted (p : Pid) (t : EndId → Entry) (on : EndId) : Type 0 where
  pub view : HereView
  pub end : view.value.end ≡ on
  pub there : t on ≡ entry.Here view
  pub here : t view.value.end ≡ entry.Here view
  pub owner : view.holder ≡ holder.Owner p
  pub as_seen : sees p t on ≡ seen_of view

pub granted-on : {k made n : ℕ} {t : EndId → Entry} → IsSound k made n t → (p : Pid) (on : EndId) → not (sees p t on).owned ≡ false → IsGranted p t on
granted-on {k} {made} {n} {t} sound p on owns = by (owned p (t on)) refl owns
  where
    by : (o : Option HereView) → owned p (t on) ≡ o → not (seen o).owned ≡ false → IsGranted p t on
    by None is owns = absurd (true≢false owns)
    by (Some v) is owns =
        let there = owned-here p (t on) v is in
        let end : v.value.end ≡ on = subst (IsOfEnd on) there.0 (sound.own on) in
        record { view = v; end = end; there = there.0; here = ap t end ∙ there.0; owner = there.1; as_seen = ap seen is }

-- ---- a world

module _ {w v : World} {c : Change} (becomes : Becomes w c v) (s : State) where
  -- what is kept of each kernel's state at the kernel of the event is kept at each
  pub kernel-same : {X : Type 0} (part : Kernel → X) → part (v.kernel c.kernel) ≡ part (w.kernel c.kernel) → (k : ℕ) → part (v.kernel k) ≡ part (w.kernel k)
  kernel-same part own k = by (eqb_tells k c.kernel)
    where
      by : ((nat_eq k c.kernel ≡ true) × (k ≡ c.kernel)) ⊎ ((nat_eq k c.kernel ≡ false) × (k ≢ c.kernel)) → part (v.kernel k) ≡ part (w.kernel k)
      by (inl at) = subst (λ j. part (v.kernel j) ≡ part (w.kernel j)) (sym at.1) own
      by (inr at) = ap part (becomes.others k at.0)

  -- the kernels are those of the service where the table of the event's kernel is sound and the links made are counted
  pub setting-after : (t : State) → t.version ≡ s.version → t.homes ≡ s.homes → length t.made ≡ length s.made → ((k : ℕ) → slice_index t.made k ≡ (v.kernel k).made)
      → IsSound c.kernel (v.kernel c.kernel).made (length s.homes) (v.kernel c.kernel).table → IsOfSetting w s → IsOfSetting v t
  setting-after t version homes count made sound is =
      record {
        few = subst (λ n. n ≤ 8) (sym count) is.few;
        numbers = λ k. kernel-same (λ (x : Kernel). x.number) becomes.number k ∙ is.numbers k;
        kernels = λ k. kernel-same (λ (x : Kernel). x.kernels) becomes.kernels k ∙ is.kernels k ∙ sym count;
        version = λ k. kernel-same (λ (x : Kernel). x.version) becomes.version k ∙ is.version k ∙ sym version;
        made = made;
        homes = subst (λ hs. All (λ h. h < length t.made) hs) (sym homes) (subst (λ n. All (λ h. h < n) s.homes) (sym count) is.homes);
        sound = λ k. subst (λ hs. IsSound k (v.kernel k).made (length hs) (v.kernel k).table) (sym homes) (each k (eqb_tells k c.kernel));
      }
    where
      each : (k : ℕ) → ((nat_eq k c.kernel ≡ true) × (k ≡ c.kernel)) ⊎ ((nat_eq k c.kernel ≡ false) × (k ≢ c.kernel)) → IsSound k (v.kernel k).made (length s.homes) (v.kernel k).table
      each k (inl at) = subst (λ j. IsSound j (v.kernel j).made (length s.homes) (v.kernel j).table) (sym at.1) sound
      each k (inr at) = subst (λ (x : Kernel). IsSound k x.made (length s.homes) x.table) (sym (becomes.others k at.0)) (is.sound k)

  -- the caller ran, and runs with an answer; the service has changed no process
  pub processes-after : (a : Answer) → c.process ≡ ran (caller c.pid (w.kernel c.kernel)) a → ((w.kernel c.kernel).process c.pid.0).phase ≡ kernel_phase.Running
      → ((p : Pid) → p.0 < length s.homes → IsProcessOf ((w.kernel (home_of s p)).process p.0) (s.process p.0))
      → (p : Pid) → p.0 < length s.homes → IsProcessOf ((v.kernel (home_of s p)).process p.0) (s.process p.0)
  processes-after a is running were p below = by (eqb_tells (home_of s p) c.kernel)
    where
      by : ((nat_eq (home_of s p) c.kernel ≡ true) × (home_of s p ≡ c.kernel)) ⊎ ((nat_eq (home_of s p) c.kernel ≡ false) × (home_of s p ≢ c.kernel)) → IsProcessOf ((v.kernel (home_of s p)).process p.0) (s.process p.0)
      by (inr apart) = subst (λ (x : Kernel). IsProcessOf (x.process p.0) (s.process p.0)) (sym (becomes.others (home_of s p) apart.0)) (were p below)
      by (inl at) =
          subst (λ j. IsProcessOf ((v.kernel j).process p.0) (s.process p.0)) (sym at.1)
          (subst (λ x. IsProcessOf x (s.process p.0)) (sym (becomes.process p.0)) (own (eqb_tells c.pid.0 p.0)))
        where
          was : IsProcessOf ((w.kernel c.kernel).process p.0) (s.process p.0)
          was = subst (λ j. IsProcessOf ((w.kernel j).process p.0) (s.process p.0)) at.1 (were p below)

          answered : c.pid.0 ≡ p.0 → IsProcessOf (ran (caller c.pid (w.kernel c.kernel)) a) (s.process p.0)
          answered same =
              record {
                phase = was.phase ∙ ap (λ z. service_phase ((w.kernel c.kernel).process z).phase) (sym same) ∙ ap service_phase running;
                unanswered = λ suspended. absurd suspended;
                reports = was.reports ∙ ap (λ z. ((w.kernel c.kernel).process z).reports) (sym same);
              }

          own : ((nat_eq c.pid.0 p.0 ≡ true) × (c.pid.0 ≡ p.0)) ⊎ ((nat_eq c.pid.0 p.0 ≡ false) × (c.pid.0 ≢ p.0)) → IsProcessOf (if nat_eq c.pid.0 p.0 then c.process else (w.kernel c.kernel).process p.0) (s.process p.0)
          own (inl h) =
              subst (λ b. IsProcessOf (if b then c.process else (w.kernel c.kernel).process p.0) (s.process p.0)) (sym h.0)
              (subst (λ x. IsProcessOf x (s.process p.0)) (sym is) (answered h.1))
          own (inr h) = subst (λ b. IsProcessOf (if b then c.process else (w.kernel c.kernel).process p.0) (s.process p.0)) (sym h.0) was

-- a granted call that makes no link and is told no report leaves kernels as a service has them whose links made, homes and version stay
module _ {i : ℕ} {w v : World} {s : State} (is : Invariant i w s) (k : ℕ) (p : Pid) (mine : List EndId) (c : Call) {f : Effect} (effect : act_effect p k (w.kernel k).made mine (w.kernel k).table c ≡ f) (becomes : Becomes w (calling w k p c f) v)
    (unmade : made_after c (w.kernel k).made ≡ (w.kernel k).made) (untold : call_told c (caller p (w.kernel k)).reports ≡ []) where
  abbrev after : EndId → Entry
  after = λ q. (act_effect p k (w.kernel k).made mine (w.kernel k).table c).entry q ((w.kernel k).table q)

  pub setting-called : p.0 < length s.homes → refusal p (w.kernel k).table (w.kernel k).made mine (has_report (process_of p (w.kernel k))) c ≡ None → IsCallWith p (w.kernel k).table mine c → Covers all_ends p c
      → (t : State) → t.version ≡ s.version → t.homes ≡ s.homes → t.made ≡ s.made → IsOfSetting v t
  setting-called below granted ends covers t version homes same =
      setting-after becomes s t version homes (ap (λ (l : List ℕ). length l) same) (λ j. ap (λ (l : List ℕ). slice_index l j) same ∙ is.setting.made j ∙ sym (made-same j)) sound is.setting
    where
      made-same : (j : ℕ) → (v.kernel j).made ≡ (w.kernel j).made
      made-same = kernel-same becomes s (λ (x : Kernel). x.made) (becomes.made ∙ unmade)

      table : (v.kernel k).table ≡ after
      table = λ j q. (becomes.links.entry q ∙ ap (λ rs. told_entry rs q (f.entry q ((w.kernel k).table q))) untold ∙ ap (λ (e : Effect). e.entry q ((w.kernel k).table q)) (sym effect)) j

      sound : IsSound k (v.kernel k).made (length s.homes) (v.kernel k).table
      sound =
          subst (λ m. IsSound k m (length s.homes) (v.kernel k).table) (sym (made-same k))
          (subst (IsSound k (w.kernel k).made (length s.homes)) (sym table)
          (subst (λ m. IsSound k m (length s.homes) after) unmade
          (call-sound k (w.kernel k).made (length s.homes) (w.kernel k).table p mine (has_report (process_of p (w.kernel k))) c (is.setting.sound k) below granted ends covers)))
