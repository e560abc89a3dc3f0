-- What is true of a kernel that starts, whose processes have made no call and whose ends are idle.
use Rattle.std.proofs.Common.{◌≡◌, ℕ, zero, suc, Bool, true, false, ◌||◌, if◌then◌else◌, List, [], ◌∷◌, length, slice_get, map, All, Some, None, unwrap_or, refl, sym, ap, subst, ◌∙◌, arith}
use Rattle.std.proofs.lemmas.Option.{slice_get_within, unwrap_or-slice_get}
use Rattle.std.specs.List.{list_any}
use Rattle.charlotte_calls.specs.Causes.{is_started}
use Rattle.charlotte_calls.specs.declared.names.EndId.{EndId}
use Rattle.charlotte_calls.specs.declared.names.Pid.{Pid}
use Rattle.charlotte_calls.specs.declared.setting.Setting.{Setting}
use Rattle.end_table.specs.Owned.{is_owner, owned}
use Rattle.end_table.specs.Place.{end_eq}
use Rattle.end_table.specs.Table.{TableView, entries, IfHere, IsIdle}
use Rattle.end_table.specs.declared.entry.Entry.{Entry}
use Rattle.end_table.specs.declared.entry.Entry.TheVariants as entry
use Rattle.kernel_step.specs.Calls.{inward_activity, is_active, outward_activity}
use Rattle.kernel_step.specs.Start.{start_kernel, wired}
use Rattle.kernel_core.specs.Consistent.{AreConsistent}
use Rattle.kernel_sound.specs.Sound.{IsSound}
use Rattle.kernel_process.specs.Parts.{process_state, no_process, process_at}
use Rattle.kernel_core.specs.State.{state_of}
use Rattle.kernel_process.specs.Fresh.{IsFresh}
use Rattle.kernel_process.specs.declared.process.ControlBlock.{ControlBlock}

all-tail : (x : ControlBlock) (xs : List ControlBlock) → All IsFresh (x ∷ xs) → All IsFresh xs
all-tail x xs fresh = λ k d within. fresh (suc k) d (omega arith)

-- processes that have made no call, by number
fresh-at : (xs : List ControlBlock) → All IsFresh xs → (q : ℕ) → process_at (map process_state xs) q ≡ no_process
unfolding process_at
fresh-at [] fresh q = refl
fresh-at (x ∷ xs) fresh zero = (fresh 0 x (omega arith)).process
fresh-at (x ∷ xs) fresh (suc q) = fresh-at xs (all-tail x xs fresh) q

fresh-get : (xs : List ControlBlock) → All IsFresh xs → (i : ℕ) (x : ControlBlock) → slice_get xs i ≡ Some x → IsFresh x
fresh-get xs fresh i x is = subst IsFresh (sym (unwrap_or-slice_get xs i x) ∙ ap (λ o. unwrap_or o x) is) (fresh i x (slice_get_within xs i x is))

-- the kernel state is that of the definitions
pub state_of-start : (s : Setting) (k : ℕ) (t : TableView) (xs : List ControlBlock) (made : ℕ) → t.kernel ≡ k → entries t ≡ (wired s).table k → made ≡ (wired s).made k → All IsFresh xs
    → state_of (record { kernels = s.kernels; version = s.version; table = t; processes = map process_state xs; made = made; stamp = 0 }) ≡ start_kernel s k
unfolding state_of
state_of-start s k t xs made kernel table made_is fresh = λ j. record {
  number = kernel j;
  kernels = s.kernels;
  version = s.version;
  table = table j;
  process = λ q. fresh-at xs fresh q j;
  made = made_is j;
  stamp = 0;
}

-- no activity is started on an end that is idle
not_active : (p : Pid) (x : Entry) → IfHere x IsIdle → is_active (owned p x) ≡ false
not_active p entry.Nothing idle = refl
not_active p (entry.Here v) idle = by (is_owner p v.holder)
  where
    started : (is_started (outward_activity v.outward) || is_started (inward_activity v.inward)) ≡ false
    started = (λ j. is_started (outward_activity (idle.outward j)) || is_started (inward_activity (idle.inward j)))

    by : (b : Bool) → is_active (if b then Some v else None) ≡ false
    by true = started
    by false = refl
not_active p (entry.Left to hops) idle = refl
not_active p (entry.Destroyed m) idle = refl

-- and what is kept is kept well
pub IsConsistent-start : (t : TableView) (xs : List ControlBlock) (k made n : ℕ) → t.kernel ≡ k → length xs ≡ n → IsSound k made n (entries t) → ((e : EndId) → IfHere (entries t e) IsIdle) → All IsFresh xs
    → AreConsistent t xs made
IsConsistent-start t xs k made n kernel count sound idle fresh =
    record {
      sound = subst (λ i. IsSound i made (length xs) (entries t)) (sym kernel) (subst (λ i. IsSound k made i (entries t)) (sym count) sound);
      active = λ p x at e. ap (list_any (end_eq e)) (fresh-get xs fresh p.0 x at).active ∙ sym (not_active p (entries t e) (idle e));
    }
