-- An event of a call keeps what is true of the kernel's parts.
use Rattle.std.proofs.Common.{◌≡◌, ℕ, ◌<◌, Bool, false, List, [], Option, Some, None, length, refl, sym, ap, subst, ◌∙◌}
use Rattle.charlotte_calls.specs.declared.calls.Call.{Call}
use Rattle.charlotte_calls.specs.declared.calls.Call.TheVariants as call
use Rattle.charlotte_calls.specs.declared.calls.ServiceStep.TheVariants as step
use Rattle.charlotte_calls.specs.declared.names.EndId.{EndId}
use Rattle.charlotte_calls.specs.declared.names.Pid.{Pid}
use Rattle.charlotte_calls.specs.declared.names.Way.TheVariants as way
use Rattle.charlotte_packets.specs.declared.work.Work.{Work}
use Rattle.end_table.specs.Owned.{owned}
use Rattle.end_table.specs.Table.{TableView, entries}
use Rattle.end_table.specs.declared.entry.Entry.{Entry}
use Rattle.end_table.specs.declared.entry.HereView.{HereView}
use Rattle.end_table.specs.declared.entry.Inward.{Inward}
use Rattle.end_table.specs.declared.entry.Inward.TheVariants as inward
use Rattle.kernel_process.proofs.ActiveSets.{tells_same}
use Rattle.kernel_process.proofs.KeptMoved.{keys-moved}
use Rattle.kernel_core.proofs.Performs.{acts-answers, acts-reports}
use Rattle.kernel_sound.proofs.Goes.{GoesWell}
use Rattle.kernel_sound.proofs.Acts.{acts-well}
use Rattle.kernel_sound.proofs.Events.{begun-well, well-calm, well-sound}
use Rattle.kernel_process.proofs.OneProcess.{closes-table}
use Rattle.kernel_sound.specs.Acts.{acts, made_after}
use Rattle.kernel_core.specs.Finishing.{ending_of, finished, finishes, turned, turned_by, turned_on}
use Rattle.kernel_core.specs.Consistent.{AreConsistent, IsConsistent, Keeps}
use Rattle.kernel_core.specs.declared.state.State.{State}
use Rattle.kernel_sound.specs.Sound.{AreFor, IsSound}
use Rattle.kernel_process.specs.Parts.{with_parts}
use Rattle.kernel_process.specs.Steady.{StaysCalm, TakesAtMost}
use Rattle.kernel_core.specs.declared.calling.Ending.{Ending}
use Rattle.kernel_process.specs.declared.process.ControlBlock.{ControlBlock}
use Rattle.kernel_step.specs.Calls.{IsCallWith, is_active, refusal}
use Rattle.kernel_step.specs.Kernel.{Kernel, Outcome, closes}
use Rattle.kernel_step.specs.Progress.{means, progress}
use Rattle.kernel_touched.proofs.ExitSilent.{exit-silent}
use Rattle.kernel_touched.proofs.Touching.{calm-after, covers}
use Rattle.kernel_touched.specs.Touched.{IsCalmAfter, touched_by, touches}

-- the end of an event, and what comes after it, keep what is kept
pub kept-calm : (n made : ℕ) (old new : TableView) (xs ys : List ControlBlock) → StaysCalm old new → TakesAtMost n xs ys → AreConsistent old xs made → AreConsistent new ys made
kept-calm n made old new xs ys calm kept is =
    record {
      sound = subst (λ m. IsSound new.kernel made m (entries new)) (sym kept.length) (calm.sound made (length xs) is.sound);
      active = tells_same (entries old) (entries new) xs ys is.active (keys-moved xs ys kept.active) calm.calm;
    }

-- so they keep what every event keeps
pub keeps-calm : (old new : State) → new.made ≡ old.made → StaysCalm old.table new.table → TakesAtMost 0 old.processes new.processes → IsConsistent old → Keeps old new
keeps-calm old new links calm kept is =
    record {
      consistent = subst (λ n. AreConsistent new.table new.processes n) (sym links) (kept-calm 0 old.made old.table new.table old.processes new.processes calm kept is);
      kernel = calm.kernel;
      length = kept.length;
    }

-- a call that is no Wait comes to its end
finished-call : (p : Pid) (k made : ℕ) (c : Call) (o : Outcome) → (c ≡ call.Wait → ⊥) → finished p (ending_of k made c) o ≡ finishes p k made c o
unfolding finishes
finished-call p k made call.Make o other = refl
finished-call p k made (call.Destroy on) o other = refl
finished-call p k made (call.Send on bytes xs) o other = refl
finished-call p k made (call.Receive on) o other = refl
finished-call p k made (call.Cancel on way.Outward) o other = refl
finished-call p k made (call.Cancel on way.Inward) o other = refl
finished-call p k made call.Wait o other = absurd (other refl)
finished-call p k made (call.Print bytes) o other = refl
finished-call p k made call.Exit o other = refl

pub finished-by : (p : Pid) (k made : ℕ) (c : Call) (e : Ending) (o : Outcome) → (c ≡ call.Wait → ⊥) → e ≡ ending_of k made c → finished p e o ≡ finishes p k made c o
finished-by p k made c e o other is = ap (λ x. finished p x o) is ∙ finished-call p k made c o other

-- the caller's phase and the number of links are apart
turned_by-made : (p : Pid) (v : HereView) (i : Inward) (m : ℕ) (s : Kernel) → turned_by p v i (record s { made = m }) ≡ record (turned_by p v i s) { made = m }
turned_by-made p v inward.Idle m s = refl
turned_by-made p v (inward.Posted w) m s = refl
turned_by-made p v (inward.Withdrawing w) m s = refl
turned_by-made p v inward.Unreported m s = refl

turned_on-made : (p : Pid) (o : Option HereView) (m : ℕ) (s : Kernel) → turned_on p o (record s { made = m }) ≡ record (turned_on p o s) { made = m }
turned_on-made p None m s = refl
turned_on-made p (Some v) m s = turned_by-made p v v.inward m s

turned-made : (p : Pid) (c : Call) (m : ℕ) (s : Kernel) → turned p c (record s { made = m }) ≡ record (turned p c s) { made = m }
unfolding turned
turned-made p call.Make m s = refl
turned-made p (call.Destroy on) m s = refl
turned-made p (call.Send on bytes xs) m s = refl
turned-made p (call.Receive on) m s = refl
turned-made p (call.Cancel on way.Outward) m s = refl
turned-made p (call.Cancel on way.Inward) m s = turned_on-made p (owned p (s.table on)) m s
turned-made p call.Wait m s = refl
turned-made p (call.Print bytes) m s = refl
turned-made p call.Exit m s = refl

-- the event closes from the caller's phase, and with what the call added
pub acted-closes : (p : Pid) (k made m : ℕ) (mine : List EndId) (c : Call) (s : Kernel) (t u : EndId → Entry) (xs ys : List ControlBlock) (work out : Work)
    → ((z : Kernel) → with_parts t ys z ≡ turned p c (with_parts t xs z)) → progress u out ≡ acts p k made mine c (progress t work)
    → closes (with_parts u ys (record s { made = m })) (progress u out) ≡ closes (record (turned p c (with_parts t xs s)) { made = m }) (acts p k made mine c (progress t work))
unfolding with_parts
acted-closes p k made m mine c s t u xs ys work out turns after =
    closes-table u t ys (record s { made = m }) (progress u out)
    ∙ ap (λ z. closes z (progress u out)) (turns (record s { made = m }) ∙ turned-made p c m (with_parts t xs s))
    ∙ ap (closes (record (turned p c (with_parts t xs s)) { made = m })) after

-- what a call that is not refused leaves
module _ (p : Pid) (k made : ℕ) (mine : List EndId) (c : Call) (t u : EndId → Entry) (work out : Work) (after : progress u out ≡ acts p k made mine c (progress t work)) where
  -- it gives no report
  pub acted-none : work.reports.items ≡ [] → out.reports.items ≡ []
  unfolding progress
  acted-none none = ap (λ d. d.reports) after ∙ acts-reports p k made mine c (progress t work) ∙ none

  pub acted-reports : (n : ℕ) → work.reports.items ≡ [] → AreFor n out.reports.items
  unfolding progress
  acted-reports n none = subst (AreFor n) (sym (ap (λ d. d.reports) after ∙ acts-reports p k made mine c (progress t work) ∙ none)) tt

  -- and no answer
  pub acted-answers : (n : ℕ) → work.answers.items ≡ [] → AreFor n out.answers.items
  unfolding progress
  acted-answers n none = subst (AreFor n) (sym (ap (λ d. d.answers) after ∙ acts-answers p k made mine c (progress t work) ∙ none)) tt

  module _ (n : ℕ) (reports : work.reports.items ≡ []) (answers : work.answers.items ≡ []) (sound : IsSound k made n t) (below : p.0 < n) (reported : Bool)
      (granted : refusal p t made mine reported c ≡ None) (are : IsCallWith p t mine c) where
    well : GoesWell k (made_after c made) n (touches p (touched_by t c)) t (acts p k made mine c (progress t work))
    unfolding progress
    well =
        acts-well k made n (touches p (touched_by t c)) t p mine c (progress t work) below reported granted are (covers p t c)
        (begun-well k made n (touches p (touched_by t c)) t work reports answers sound)

    -- the table is sound
    pub acted-sound : IsSound k (made_after c made) n u
    acted-sound = well-sound k (made_after c made) n (touches p (touched_by t c)) t u out _ after well

    -- a process that exited has no activity
    silent : c ≡ call.Exit → (e : EndId) → is_active (owned p (u e)) ≡ false
    unfolding acts means progress
    silent is e =
        ap (λ d. is_active (owned p (d.table e))) (after ∙ ap (λ x. acts p k made mine x (progress t work)) is)
        ∙ exit-silent k p mine (means (step.Exit p) (progress t work)) sound.own (subst (IsCallWith p t mine) is are) e

    -- and the activities of others stayed, also as the event closed
    pub acted-calm : (v : EndId → Entry) → ((q : Pid) (e : EndId) → is_active (owned q (v e)) ≡ is_active (owned q (u e))) → IsCalmAfter p (touched_by t c) t v
    acted-calm v calm =
        calm-after p t v c (λ q e not. calm q e ∙ well-calm k (made_after c made) n (touches p (touched_by t c)) t u out _ after well q e not)
        (λ is e. calm p e ∙ silent is e)
