-- The event of a call is the step of that call.
use Rattle.std.proofs.Common.{◌≡◌, ℕ, ◌<◌, Bool, true, false, nat_le, if◌then◌else◌, rules, [], List, Option, Some, None, length, map, get_or, sym, ap, subst, ◌∙◌, refl}
use Rattle.charlotte_calls.specs.Causes.{link_limit}
use Rattle.charlotte_calls.specs.declared.calls.Answer.TheVariants as answer
use Rattle.charlotte_calls.specs.declared.calls.Call.{Call}
use Rattle.charlotte_calls.specs.declared.calls.Call.TheVariants as call
use Rattle.charlotte_calls.specs.declared.calls.Cause.{Cause}
use Rattle.charlotte_calls.specs.declared.calls.Cause.TheVariants.{LinksFull}
use Rattle.charlotte_calls.specs.declared.calls.ServiceStep.TheVariants as step
use Rattle.charlotte_calls.specs.declared.names.EndId.{EndId}
use Rattle.charlotte_calls.specs.declared.names.Pid.{Pid}
use Rattle.charlotte_packets.specs.declared.work.Effect.{Effect}
use Rattle.charlotte_packets.specs.declared.work.Work.{Work}
use Rattle.end_table.specs.Owned.{AreEndsOf}
use Rattle.end_table.specs.Table.{TableView, entries}
use Rattle.kernel_core.proofs.Performs.{call-acts, call-refused}
use Rattle.kernel_touched.proofs.Touching.{granted-touched}
use Rattle.kernel_process.proofs.OneProcess.{process_of-at}
use Rattle.kernel_sound.specs.Acts.{acts, made_after}
use Rattle.kernel_core.specs.Finishing.{finishes, turned}
use Rattle.kernel_touched.specs.Touched.{touched_by, touched_of}
use Rattle.kernel_process.specs.Parts.{process_state, process_at, with_parts, ended}
use Rattle.kernel_core.specs.Stepping.{HasParts, IsStepOf, Begins, AreListedFor, IsRefusedFor}
use Rattle.kernel_process.specs.declared.process.ControlBlock.{ControlBlock}
use Rattle.kernel_step.specs.Calls.{IsCallWith, refusal}
use Rattle.kernel_step.specs.Kernel.{Kernel, begins, closes, has_report, next_stamp, process_of, stands}
use Rattle.kernel_step.specs.Progress.{progress, means}

-- the ends that a call is about: those that were listed, or for a Wait those that can be listed
pub all_ends : (p : Pid) (t : TableView) (mine listed : List EndId) (c : Call) → AreListedFor p t mine c → AreEndsOf p (entries t) listed → (all : List EndId) × IsCallWith p (entries t) all c
all_ends p t mine listed call.Make are others = (mine, tt)
all_ends p t mine listed (call.Destroy on) are others = (mine, tt)
all_ends p t mine listed (call.Send on bytes xs) are others = (mine, tt)
all_ends p t mine listed (call.Receive on) are others = (mine, tt)
all_ends p t mine listed (call.Cancel on w) are others = (mine, tt)
all_ends p t mine listed call.Wait are others = (listed, others)
all_ends p t mine listed (call.Print bytes) are others = (mine, tt)
all_ends p t mine listed call.Exit are others = (mine, are (λ e. cc))

module _ (t : TableView) (xs : List ControlBlock) (made : ℕ) (s : Kernel) (has : HasParts t xs made s) where
  -- the table of such a state
  pub parts-table : s.table ≡ entries t
  unfolding with_parts
  parts-table = sym (ap (λ u. u.table) has.parts)

  -- and a process of it
  pub parts-process : (p : Pid) (i : ℕ) (x : ControlBlock) → i ≡ p.0 → i < length xs → x ≡ get_or xs i x → process_state x ≡ process_of p s
  parts-process p i x at below is = ap process_state is ∙ sym (process_of-at (entries t) xs x s i p at below) ∙ ap (process_of p) has.parts

-- a refusal of the parts is one of the state
pub refusal-parts : (t : TableView) (xs : List ControlBlock) (made : ℕ) (p : Pid) (c : Call) (i : ℕ) (x : ControlBlock) (cause : Option Cause) → i ≡ p.0 → i < length xs → x ≡ get_or xs i x
    → ((mine : List EndId) → IsCallWith p (entries t) mine c → cause ≡ refusal p (entries t) made mine (has_report (process_state x)) c) → IsRefusedFor t xs made p c cause
refusal-parts t xs made p c i x cause at below is told s mine has ends =
    ap (λ u. refusal p u s.made mine (has_report (process_of p s)) c) (parts-table t xs made s has)
    ∙ ap (λ n. refusal p (entries t) n mine (has_report (process_of p s)) c) has.links
    ∙ ap (λ y. refusal p (entries t) made mine (has_report y) c) (sym (parts-process t xs made s has p i x at below is))
    ∙ sym (told mine ends)

-- the state with the links that it has
links-same : (s : Kernel) (made stamp : ℕ) → s.made ≡ made → record s { made = made; stamp = stamp } ≡ record s { stamp = stamp }
links-same s made stamp links = ap {A = ℕ} {B = Kernel} (λ n. record s { made = n; stamp = stamp }) (sym links)

module _ (t u : TableView) (xs ys : List ControlBlock) (made stamp : ℕ) (work : Work) (effect : Effect) (p : Pid) (mine : List EndId) (begun : Begins t stamp work) where
  -- a call that is refused
  pub refused-steps : (c : Call) (cause : Cause) → IsCallWith p (entries t) mine c → IsRefusedFor t xs made p c (Some cause)
      → ((s : Kernel) → ended (with_parts (entries u) ys (record s { stamp = effect.stamp })) effect ≡ stands p (answer.Refused cause) (closes (with_parts (entries t) xs s) (means (step.Refuse p c cause) (progress (entries t) work))))
      → IsStepOf t xs made stamp u ys made effect p mine c
  refused-steps c cause ends refused part s has next =
      ap (λ k. ended (with_parts (entries u) ys k) effect) (links-same s made effect.stamp has.links)
      ∙ part s
      ∙ ap (λ k. stands p (answer.Refused cause) (closes k (means (step.Refuse p c cause) (progress (entries t) work)))) has.parts
      ∙ ap (λ d. stands p (answer.Refused cause) (closes s (means (step.Refuse p c cause) d))) (begun s (parts-table t xs made s has) ∙ ap (begins s) next)
      ∙ sym (call-refused p s mine c cause (refused s mine has ends))

  -- a Wait that is not refused
  pub wait-steps : IsCallWith p (entries t) mine call.Wait → IsRefusedFor t xs made p call.Wait None
      → ((s : Kernel) (k n : ℕ) → ended (with_parts (entries u) ys (record s { stamp = effect.stamp })) effect ≡ finishes p k n call.Wait (closes (with_parts (entries t) xs s) (means (step.Wait p) (progress (entries t) work))))
      → IsStepOf t xs made stamp u ys made effect p mine call.Wait
  unfolding acts turned
  wait-steps ends granted part s has next =
      ap (λ k. ended (with_parts (entries u) ys k) effect) (links-same s made effect.stamp has.links)
      ∙ part s s.number s.made
      ∙ ap (λ k. finishes p s.number s.made call.Wait (closes k (means (step.Wait p) (progress (entries t) work)))) has.parts
      ∙ ap (λ d. finishes p s.number s.made call.Wait (closes s (means (step.Wait p) d))) (begun s (parts-table t xs made s has) ∙ ap (begins s) next)
      ∙ sym (call-acts p s mine call.Wait (granted s mine has ends))

  -- another call that is not refused
  pub grant-steps : (c : Call) → IsCallWith p (entries t) mine c → IsRefusedFor t xs made p c None
      → ((s : Kernel) → ended (with_parts (entries u) ys (record s { made = made_after c made; stamp = effect.stamp })) effect
      ≡ finishes p t.kernel made c (closes (record (turned p c (with_parts (entries t) xs s)) { made = made_after c made }) (acts p t.kernel made mine c (progress (entries t) work))))
      → IsStepOf t xs made stamp u ys (made_after c made) effect p mine c
  grant-steps c ends granted part s has next =
      part s
      ∙ ap (λ k. finishes p t.kernel made c (closes (record (turned p c k) { made = made_after c made }) (acts p t.kernel made mine c (progress (entries t) work)))) has.parts
      ∙ ap (λ d. finishes p t.kernel made c (closes (record (turned p c s) { made = made_after c made }) (acts p t.kernel made mine c d))) (begun s (parts-table t xs made s has) ∙ ap (begins s) next)
      ∙ ap (λ k. finishes p k made c (closes (record (turned p c s) { made = made_after c made }) (acts p k made mine c (begins s (next_stamp s.stamp))))) (sym has.number)
      ∙ ap (λ n. finishes p s.number n c (closes (record (turned p c s) { made = made_after c n }) (acts p s.number n mine c (begins s (next_stamp s.stamp))))) (sym has.links)
      ∙ sym (call-acts p s mine c (granted s mine has ends))

-- a state with these parts
sample : (t : TableView) (xs : List ControlBlock) (made : ℕ) → Kernel
sample t xs made = record { number = t.kernel; kernels = 0; version = 0; table = entries t; process = process_at (map process_state xs); made = made; stamp = 0 }

sample-parts : (t : TableView) (xs : List ControlBlock) (made : ℕ) → HasParts t xs made (sample t xs made)
unfolding with_parts sample
sample-parts t xs made = record { parts = refl; number = refl; links = refl }

module _ (t : TableView) (xs : List ControlBlock) (made : ℕ) (p : Pid) (c : Call) (granted : IsRefusedFor t xs made p c None) where
  -- a call that is not refused, by the table alone
  pub granted-parts : (mine : List EndId) → IsCallWith p (entries t) mine c → (reported : Bool) × (refusal p (entries t) made mine reported c ≡ None)
  unfolding sample
  granted-parts mine ends = (has_report (process_of p (sample t xs made)), granted (sample t xs made) mine (sample-parts t xs made) ends)

  -- and what such a call may change
  pub touched-parts : (mine : List EndId) → IsCallWith p (entries t) mine c → touched_of p c ≡ touched_by (entries t) c
  touched-parts mine ends = let some = granted-parts mine ends in granted-touched p (entries t) made mine some.0 c some.1

  -- a Make that is not refused leaves the limit of links
  pub granted-make : c ≡ call.Make → made < link_limit
  unfolding sample
  granted-make is = by (subst (λ k. IsRefusedFor t xs made p k None) is granted)
    where
      chosen : (b : Bool) → nat_le link_limit made ≡ b → (if b then Some LinksFull else None) ≡ None → made < link_limit
      chosen true full none = cc
      chosen false few none = search rules

      by : IsRefusedFor t xs made p call.Make None → made < link_limit
      by granted = chosen (nat_le link_limit made) refl (granted (sample t xs made) [] (sample-parts t xs made) tt)
