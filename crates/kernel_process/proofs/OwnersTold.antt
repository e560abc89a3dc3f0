-- The sets of active ends, as an end changes hands.
use Rattle.std.proofs.Common.{◌≡◌, ◌≢◌, ℕ, Bool, true, false, List, Option, None, Some, refl, sym, ap, subst, ◌∙◌, nat_eq, if◌then◌else◌}
use Rattle.charlotte_calls.specs.declared.names.EndId.{EndId}
use Rattle.charlotte_calls.specs.declared.names.Pid.{Pid}
use Rattle.end_table.proofs.EndEq.{end_eq-same, put-at, put-other}
use Rattle.end_table.specs.Owned.{owned, is_owner}
use Rattle.end_table.specs.Place.{end_eq, put}
use Rattle.end_table.specs.declared.entry.Entry.{Entry}
use Rattle.end_table.specs.declared.entry.Entry.TheVariants as entry
use Rattle.end_table.specs.declared.entry.HereView.{HereView}
use Rattle.end_table.specs.declared.entry.Holder.{Holder}
use Rattle.end_table.specs.declared.entry.Holder.TheVariants as holder
use Rattle.kernel_process.proofs.ActiveSets.{tells_same, tells_refreshed}
use Rattle.kernel_sound.proofs.Needs.{owner-is_owner}
use Rattle.kernel_process.specs.Active.{Tells, Refreshes}
use Rattle.kernel_sound.specs.Owners.{owner_in, owner_of, IsCalmBut}
use Rattle.kernel_process.specs.declared.process.ControlBlock.{ControlBlock}
use Rattle.kernel_step.specs.Calls.{is_active}

-- a process that does not own an end has no activity there
not_owner : (q : Pid) (x : Entry) (o : Option Pid) → owner_of x ≡ o → ((p : Pid) → o ≡ Some p → q.0 ≢ p.0) → is_active (owned q x) ≡ false
not_owner q entry.Nothing o is other = refl
not_owner q (entry.Here v) o is other = by v.holder refl
  where
    by : (h : Holder) → v.holder ≡ h → is_active (if is_owner q h then Some v else None) ≡ false
    by (holder.EnclosedIn on) held = refl
    by (holder.Owner p) held = chosen (nat_eq q.0 p.0) refl
      where
        chosen : (b : Bool) → nat_eq q.0 p.0 ≡ b → is_active (if b then Some v else None) ≡ false
        chosen true same = absurd (other p (sym is ∙ ap owner_in held) (sym (ap (λ h. owner_number h) (owner-is_owner q (holder.Owner p) same))))
          where
            owner_number : Holder → ℕ
            owner_number (holder.Owner r) = r.0
            owner_number (holder.EnclosedIn on) = 0
        chosen false apart = refl
not_owner q (entry.Left to hops) o is other = refl
not_owner q (entry.Destroyed m) o is other = refl

none_some : (p : Pid) → None ≡ Some p → ⊥
none_some p is = cc

some_pid : (p q : Pid) → Some p ≡ Some q → p.0 ≡ q.0
some_pid p q is = cc

-- who owns an end is its owner
pub owned-owner : (p : Pid) (x : Entry) (v : HereView) → Some v ≡ owned p x → owner_of x ≡ Some p
owned-owner p entry.Nothing v is = cc
owned-owner p (entry.Here w) v is = by (is_owner p w.holder) refl is
  where
    by : (b : Bool) → is_owner p w.holder ≡ b → Some v ≡ (if b then Some w else None) → owner_in w.holder ≡ Some p
    by true mine is = ap owner_in (owner-is_owner p w.holder mine)
    by false other is = cc
owned-owner p (entry.Left to hops) v is = cc
owned-owner p (entry.Destroyed m) v is = cc

-- an end stays with its owner, whose set tells of it again
pub refreshed-same : (t : EndId → Entry) (end : EndId) (u : EndId → Entry) → IsCalmBut end t u → (xs zs : List ControlBlock) (p : Pid) → Some p ≡ owner_of (t end) → owner_of (u end) ≡ Some p
    → Tells t xs → Refreshes p end (is_active (owned p (u end))) xs zs → Tells u zs
refreshed-same t end u calm xs zs p before after told refreshed =
    tells_refreshed t u xs xs zs p end told refl calm
    (λ q other. not_owner q (u end) (Some p) after (λ r some e. other (e ∙ sym (some_pid p r some))) ∙ sym (not_owner q (t end) (Some p) (sym before) (λ r some e. other (e ∙ sym (some_pid p r some)))))
    refreshed

-- at the end nothing is told after it was released
module _ (t : EndId → Entry) (end : EndId) where
  silent : (q : Pid) → is_active (owned q (put t end entry.Nothing end)) ≡ false
  silent q = ap (λ x. is_active (owned q x)) (put-at t end entry.Nothing)

  elsewhere : (q : Pid) (e : EndId) → end_eq end e ≡ false → is_active (owned q (put t end entry.Nothing e)) ≡ is_active (owned q (t e))
  elsewhere q e apart = ap (λ x. is_active (owned q x)) (put-other t end entry.Nothing e apart)

  pub released-none : (xs : List ControlBlock) → None ≡ owner_of (t end) → Tells t xs → Tells (put t end entry.Nothing) xs
  released-none xs before told = tells_same t (put t end entry.Nothing) xs xs told refl (λ q e. by q e (end_eq end e) refl)
    where
      by : (q : Pid) (e : EndId) (b : Bool) → end_eq end e ≡ b → is_active (owned q (put t end entry.Nothing e)) ≡ is_active (owned q (t e))
      by q e true same =
          subst (λ z. is_active (owned q (put t end entry.Nothing z)) ≡ is_active (owned q (t z))) (end_eq-same end e same)
          (silent q ∙ sym (not_owner q (t end) None (sym before) (λ p some. absurd (none_some p some))))
      by q e false apart = elsewhere q e apart

  pub released-some : (xs zs : List ControlBlock) (p : Pid) → Some p ≡ owner_of (t end) → Tells t xs → Refreshes p end false xs zs → Tells (put t end entry.Nothing) zs
  released-some xs zs p before told refreshed =
      tells_refreshed t (put t end entry.Nothing) xs xs zs p end told refl elsewhere
      (λ q other. silent q ∙ sym (not_owner q (t end) (Some p) (sym before) (λ r some e. other (e ∙ sym (some_pid p r some)))))
      (subst (λ b. Refreshes p end b xs zs) (sym (silent p)) refreshed)

  module _ (u : EndId → Entry) (calm : IsCalmBut end t u) where
    changed : (q : Pid) (e : EndId) → end_eq end e ≡ false → is_active (owned q (u e)) ≡ is_active (owned q (put t end entry.Nothing e))
    changed q e apart = calm q e apart ∙ sym (elsewhere q e apart)

    pub enlisted-none : (xs : List ControlBlock) → owner_of (u end) ≡ None → Tells (put t end entry.Nothing) xs → Tells u xs
    enlisted-none xs after told = tells_same (put t end entry.Nothing) u xs xs told refl (λ q e. by q e (end_eq end e) refl)
      where
        by : (q : Pid) (e : EndId) (b : Bool) → end_eq end e ≡ b → is_active (owned q (u e)) ≡ is_active (owned q (put t end entry.Nothing e))
        by q e true same =
            subst (λ z. is_active (owned q (u z)) ≡ is_active (owned q (put t end entry.Nothing z))) (end_eq-same end e same)
            (not_owner q (u end) None after (λ p some. absurd (none_some p some)) ∙ sym (silent q))
        by q e false apart = changed q e apart

    pub enlisted-some : (xs zs : List ControlBlock) (p : Pid) → owner_of (u end) ≡ Some p → Tells (put t end entry.Nothing) xs → Refreshes p end (is_active (owned p (u end))) xs zs → Tells u zs
    enlisted-some xs zs p after told refreshed =
        tells_refreshed (put t end entry.Nothing) u xs xs zs p end told refl changed
        (λ q other. not_owner q (u end) (Some p) after (λ r some e. other (e ∙ sym (some_pid p r some))) ∙ sym (silent q))
        refreshed
