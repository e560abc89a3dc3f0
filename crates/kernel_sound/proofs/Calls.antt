-- A call of a process goes well.
use Rattle.std.proofs.Common.{◌≡◌, ℕ, zero, suc, ◌+◌, ◌<◌, Bool, true, false, true≢false, nat_eq, List, [], ◌∷◌, Some, None, IsSome, Contains, refl, sym, ap, subst, ◌∙◌, if◌then◌else◌, arith}
use Rattle.std.specs.List.{list_any}
use Rattle.charlotte_calls.specs.Causes.{first_of, send_causes}
use Rattle.charlotte_packets.specs.Moving.{new_end}
use Rattle.charlotte_calls.specs.Names.{opposite}
use Rattle.charlotte_calls.specs.declared.calls.ServiceStep.{ServiceStep}
use Rattle.charlotte_calls.specs.declared.calls.ServiceStep.TheVariants as step
use Rattle.charlotte_calls.specs.declared.names.EndId.{EndId}
use Rattle.charlotte_calls.specs.declared.names.Pid.{Pid}
use Rattle.charlotte_packets.specs.declared.picture.MovingPicture.{MovingPicture}
use Rattle.charlotte_calls.specs.declared.names.Side.TheVariants.{A, B}
use Rattle.end_table.proofs.EndEq.{end_eq-same, put-at, put-other}
use Rattle.end_table.specs.Entries.{ended_entry, gains_one, settled}
use Rattle.end_table.specs.Owned.{AreEndsOf, is_owner, owned}
use Rattle.end_table.specs.Place.{end_eq, put}
use Rattle.end_table.specs.Table.{IsHere, IsHereAnd, IfHere, IsIdle, IsOfEnd}
use Rattle.end_table.specs.declared.entry.Entry.{Entry}
use Rattle.end_table.specs.declared.entry.Entry.TheVariants as entry
use Rattle.end_table.specs.declared.entry.HereView.{HereView}
use Rattle.end_table.specs.declared.entry.Holder.TheVariants as holder
use Rattle.end_table.specs.declared.entry.Outward.TheVariants as outward
use Rattle.kernel_sound.proofs.Needs.{owner-is_owner, AreFree, AreFree-others, IfHere-at, apart_at-sound, held-other, held-own, hold_each-other, send-apart, send-free}
use Rattle.kernel_sound.proofs.Goes.{GoesWell, IsOfEnd-ended, keeps-well, keeps-well-quiet, keeps-well-settled, means-well, sends-well, only-well}
use Rattle.kernel_sound.proofs.Lists.{IsReleasing, end_each-well, hold_each-well, leave_each-well, only-releasing}
use Rattle.kernel_sound.proofs.Put.{AreHeldBy-others, HasNoMessage, IfHere-away, IsFreeFor-owned, IsHeldBy, IsHolder, IsHolder-held, IsQuiet, made-here, put-each, put-sound}
use Rattle.kernel_sound.proofs.Sends.{means-only, only-same, tells_gone-only}
use Rattle.kernel_sound.specs.Sound.{AreHeldBy, IsHeldWell, IsSound}
use Rattle.kernel_step.specs.Actions.{enclosed_of, end_each, ends, ends_idle, ends_idle_here, here, held, hold_each, matches, tells_gone}
use Rattle.kernel_step.specs.Calls.{encloses, ends_each, ends_here, is_active, made_end, makes, posts, sees, starts_send, withdraws_receive, withdraws_send}
use Rattle.kernel_step.specs.Progress.{Progress, keeps, means}
use Rattle.kernel_step.proofs.Departed.{ended-IsHere}

-- the process of an owner is one of the first
below-owned : (n : ℕ) (x : Entry) (v : HereView) (p : Pid) → x ≡ entry.Here v → v.holder ≡ holder.Owner p → IfHere x (λ u. IsHeldWell n u u.holder) → p.0 < n
below-owned n x v p at owner held = subst (IsHolder n) owner (IsHolder-held n v v.holder (IfHere-at x v (λ u. IsHeldWell n u u.holder) at held))

-- what is not of a process is no activity of it
inactive-other : (q : Pid) (v : HereView) → is_owner q v.holder ≡ false → is_active (owned q (entry.Here v)) ≡ false
inactive-other q v other = ap (λ b. is_active (if b then Some v else None)) other

-- nor is what it becomes, with the same holder
inactive-after : (q : Pid) (v : HereView) (x : Entry) → is_owner q v.holder ≡ false → IfHere x (λ u. u.holder ≡ v.holder) → is_active (owned q x) ≡ false
inactive-after q v entry.Nothing other same = refl
inactive-after q v (entry.Here u) other same = inactive-other q u (ap (is_owner q) same ∙ other)
inactive-after q v (entry.Left to hops) other same = refl
inactive-after q v (entry.Destroyed m) other same = refl

-- an owned end becomes x: the end has the same holder, if it is still here, and its message encloses none but ends that it holds
pub record IsOwnAfter (on : EndId) (v : HereView) (t : EndId → Entry) (x : Entry) : Type 0 where
  pub end : IsOfEnd on x
  pub holder : IfHere x (λ u. u.holder ≡ v.holder)
  pub encloses : IfHere x (λ u. AreHeldBy on t (enclosed_of u.outward))
  pub apart : IfHere x (λ u. list_any (end_eq on) (enclosed_of u.outward) ≡ false)

module _ {k made n : ℕ} {touches : Pid → EndId → Bool} {before : EndId → Entry} (on : EndId) (v : HereView) (p : Pid) (d : Progress)
    (at : d.table on ≡ entry.Here v) (owner : v.holder ≡ holder.Owner p) (spared : (q : Pid) → touches q on ≡ false → is_owner q v.holder ≡ false)
    (w : GoesWell k made n touches before d) where
  -- the table stays sound where an owned end changes
  owned-sound : (x : Entry) → IsOwnAfter on v d.table x → IsSound k made n (put d.table on x)
  owned-sound x after =
      put-sound on x w.sound (IsFreeFor-owned d.table on x v p at owner) after.end (well x after.holder) (enclosed x after.encloses after.apart)
      (made-here on w.sound (subst IsHere (sym at) tt) x)
    where
      well : (y : Entry) → IfHere y (λ u. u.holder ≡ v.holder) → IfHere y (λ u. IsHeldWell n u u.holder)
      well (entry.Here u) same = subst (IsHeldWell n u) (sym (same ∙ owner)) (below-owned n (d.table on) v p at owner (w.sound.held on))
      well entry.Nothing same = tt
      well (entry.Left to hops) same = tt
      well (entry.Destroyed m) same = tt

      enclosed : (y : Entry) → IfHere y (λ u. AreHeldBy on d.table (enclosed_of u.outward)) → IfHere y (λ u. list_any (end_eq on) (enclosed_of u.outward) ≡ false)
          → IfHere y (λ u. AreHeldBy on (put d.table on x) (enclosed_of u.outward))
      enclosed (entry.Here u) are apart = AreHeldBy-others d.table on x on (enclosed_of u.outward) apart are
      enclosed entry.Nothing are apart = tt
      enclosed (entry.Left to hops) are apart = tt
      enclosed (entry.Destroyed m) are apart = tt

  -- and it goes well
  owned-well : (x : Entry) → IsOwnAfter on v d.table x → GoesWell k made n touches before (keeps on x d)
  owned-well x after =
      keeps-well on x d (owned-sound x after)
      (λ q not. inactive-after q v x (spared q not) after.holder ∙ sym (ap (λ z. is_active (owned q z)) at ∙ inactive-other q v (spared q not))) w

  -- where no message waits afterwards, the ends that the message enclosed are released
  owned-releasing : (x : Entry) (xs : List EndId) → IsOwnAfter on v d.table x → HasNoMessage x → AreHeldBy on d.table xs → list_any (end_eq on) xs ≡ false
      → IsReleasing k made n touches before on xs (keeps on x d)
  unfolding keeps
  owned-releasing x xs after none are apart =
      record {
        well = owned-well x after;
        none = subst HasNoMessage (sym (put-at d.table on x)) none;
        are = AreHeldBy-others d.table on x on xs apart are;
      }

-- another view of an owned end, with the message that it had
IsOwnAfter-same : {k made n : ℕ} {t : EndId → Entry} (on : EndId) (v u : HereView) → IsSound k made n t → t on ≡ entry.Here v → u.value.end ≡ v.value.end → u.holder ≡ v.holder
    → enclosed_of u.outward ≡ enclosed_of v.outward → IsOwnAfter on v t (entry.Here u)
IsOwnAfter-same {k} {made} {n} {t} on v u sound at end holder same =
    record {
      end = end ∙ subst (IsOfEnd on) at (sound.own on);
      holder = holder;
      encloses = subst (AreHeldBy on t) (sym same) (IfHere-at (t on) v (λ w. AreHeldBy on t (enclosed_of w.outward)) at (sound.enclosed on));
      apart = subst (λ xs. list_any (end_eq on) xs ≡ false) (sym same) (apart_at-sound k made n t sound on v at);
    }

-- and one with no message
IsOwnAfter-none : {k made n : ℕ} {t : EndId → Entry} (on : EndId) (v u : HereView) → IsSound k made n t → t on ≡ entry.Here v → u.value.end ≡ v.value.end → u.holder ≡ v.holder
    → enclosed_of u.outward ≡ [] → IsOwnAfter on v t (entry.Here u)
IsOwnAfter-none {k} {made} {n} {t} on v u sound at end holder none =
    record {
      end = end ∙ subst (IsOfEnd on) at (sound.own on);
      holder = holder;
      encloses = subst (AreHeldBy on t) (sym none) tt;
      apart = subst (λ xs. list_any (end_eq on) xs ≡ false) (sym none) refl;
    }

-- an end that is destroyed
IsOwnAfter-ended : {k made n : ℕ} {t : EndId → Entry} (on : EndId) (v : HereView) → IsSound k made n t → t on ≡ entry.Here v → IsOwnAfter on v t (ended_entry v.value)
IsOwnAfter-ended {k} {made} {n} {t} on v sound at =
    record {
      end = IsOfEnd-ended v.value on (subst (IsOfEnd on) at (sound.own on));
      holder = IfHere-away (ended_entry v.value) _ (ended-IsHere v.value);
      encloses = IfHere-away (ended_entry v.value) _ (ended-IsHere v.value);
      apart = IfHere-away (ended_entry v.value) _ (ended-IsHere v.value);
    }

-- what a call on an end that process p owns starts from
pub record IsOwnedAt (k made n : ℕ) (touches : Pid → EndId → Bool) (before : EndId → Entry) (on : EndId) (v : HereView) (p : Pid) (d : Progress) : Type 0 where
  pub at : d.table on ≡ entry.Here v
  pub owner : v.holder ≡ holder.Owner p
  pub spared : (q : Pid) → touches q on ≡ false → is_owner q v.holder ≡ false
  pub well : GoesWell k made n touches before d

module _ {k made n : ℕ} {touches : Pid → EndId → Bool} {before : EndId → Entry} where
  -- the name of the end
  owned-end : (on : EndId) (v : HereView) (p : Pid) (d : Progress) → IsOwnedAt k made n touches before on v p d → v.value.end ≡ on
  owned-end on v p d o = subst (IsOfEnd on) o.at (o.well.sound.own on)

  -- the end becomes x, by the name that its value has
  kept-well : (on : EndId) (v : HereView) (p : Pid) (d : Progress) (x : Entry) → IsOwnedAt k made n touches before on v p d → IsOwnAfter on v d.table x → GoesWell k made n touches before (keeps v.value.end x d)
  kept-well on v p d x o after =
      subst (λ e. GoesWell k made n touches before (keeps e x d)) (sym (owned-end on v p d o)) (owned-well on v p d o.at o.owner o.spared o.well x after)

  -- and has no message: ends that it holds are released
  kept-releasing : (on : EndId) (v : HereView) (p : Pid) (d : Progress) (x : Entry) (xs : List EndId) → IsOwnedAt k made n touches before on v p d → IsOwnAfter on v d.table x
      → HasNoMessage x → AreHeldBy on d.table xs → list_any (end_eq on) xs ≡ false → IsReleasing k made n touches before on xs (keeps v.value.end x d)
  kept-releasing on v p d x xs o after none are apart =
      subst (λ e. IsReleasing k made n touches before on xs (keeps e x d)) (sym (owned-end on v p d o)) (owned-releasing on v p d o.at o.owner o.spared o.well x xs after none are apart)

  -- the ends that its message encloses are released where it has none afterwards
  kept-released : (on : EndId) (v : HereView) (p : Pid) (d : Progress) (x : Entry) → IsOwnedAt k made n touches before on v p d → IsOwnAfter on v d.table x → HasNoMessage x
      → IsReleasing k made n touches before on (enclosed_of v.outward) (keeps v.value.end x d)
  kept-released on v p d x o after none =
      kept-releasing on v p d x (enclosed_of v.outward) o after none
      (IfHere-at (d.table on) v (λ w. AreHeldBy on d.table (enclosed_of w.outward)) o.at (o.well.sound.enclosed on)) (apart_at-sound k made n d.table o.well.sound on v o.at)

  -- END of an end that p owns
  ends-owned : (on : EndId) (v : HereView) (p : Pid) (d : Progress) → IsOwnedAt k made n touches before on v p d → GoesWell k made n touches before (ends k v d)
  unfolding ends
  ends-owned on v p d o =
      only-well (tells_gone-only k v.value _ (only-same _))
      (end_each-well on (enclosed_of v.outward) (keeps v.value.end (ended_entry v.value) d)
      (kept-released on v p d (ended_entry v.value) o (IsOwnAfter-ended on v o.well.sound o.at) (IfHere-away (ended_entry v.value) _ (ended-IsHere v.value))))

  -- Receive
  posts-owned : (on : EndId) (v : HereView) (p : Pid) (d : Progress) → IsOwnedAt k made n touches before on v p d → GoesWell k made n touches before (posts k v d)
  unfolding posts
  posts-owned on v p d o =
      sends-well _ _ _ (means-well _ _ (kept-well on v p d _ o (IsOwnAfter-same on v _ o.well.sound o.at refl refl refl)))

  -- Cancel of a send
  withdraws_send-owned : (on : EndId) (v : HereView) (p : Pid) (d : Progress) → IsOwnedAt k made n touches before on v p d → GoesWell k made n touches before (withdraws_send v d)
  unfolding withdraws_send
  withdraws_send-owned on v p d o =
      hold_each-well v.holder on (enclosed_of v.outward) _ (IsHolder-held n v v.holder (IfHere-at (d.table on) v (λ u. IsHeldWell n u u.holder) o.at (o.well.sound.held on)))
      (only-releasing on (enclosed_of v.outward) (means-only _ _ (only-same _))
      (kept-released on v p d _ o (IsOwnAfter-none on v (record v { outward = outward.Idle }) o.well.sound o.at refl refl refl) refl))

  -- Cancel of a receive
  withdraws_receive-owned : (on : EndId) (v : HereView) (p : Pid) (d : Progress) (r : ℕ) → IsOwnedAt k made n touches before on v p d → GoesWell k made n touches before (withdraws_receive k r v d)
  unfolding withdraws_receive
  withdraws_receive-owned on v p d r o =
      sends-well _ _ _ (means-well _ _ (kept-well on v p d _ o (IsOwnAfter-same on v _ o.well.sound o.at refl refl refl)))

-- both ends of a link are its own
ends_apart : (k made : ℕ) → end_eq (made_end k made) (opposite (made_end k made)) ≡ false
ends_apart k made = by (end_eq (made_end k made) (opposite (made_end k made))) refl
  where
    differ : A ≡ B → ⊥
    differ e = cc

    by : (b : Bool) → end_eq (made_end k made) (opposite (made_end k made)) ≡ b → b ≡ false
    by true same = absurd (differ (ap (λ e. e.side) (end_eq-same _ _ same)))
    by false apart = refl

module _ {k made n : ℕ} {touches : Pid → EndId → Bool} {before : EndId → Entry} where
  -- a kernel that made one link more knows of no more that it has not made
  made-more : (d : Progress) → GoesWell k made n touches before d → GoesWell k (made + 1) n touches before d
  made-more d w =
      record {
        sound = record {
          own = w.sound.own;
          held = w.sound.held;
          enclosed = w.sound.enclosed;
          unmade = λ e maker count here. w.sound.unmade e maker (omega arith) here;
        };
        reports = w.reports;
        answers = w.answers;
        calm = w.calm;
      }

  -- Make
  pub makes-well : (p : Pid) (d : Progress) → p.0 < n → GoesWell k made n touches before d → GoesWell k (made + 1) n touches before (makes k made p d)
  unfolding makes keeps means
  makes-well p d below w =
      keeps-well-settled (holder.Owner p) (new_end b k) middle b_away below (λ maker count. omega arith)
      (keeps-well-settled (holder.Owner p) (new_end a k) start a_away below (λ maker count. omega arith) (means-well _ d (made-more d w)))
    where
      a : EndId
      a = made_end k made

      b : EndId
      b = opposite a

      start : Progress
      start = means (step.Make p a b) d

      middle : Progress
      middle = keeps a (entry.Here (settled (holder.Owner p) (new_end a k))) start

      a_away : IsHere (start.table a) → ⊥
      a_away here = w.sound.unmade a refl (omega arith) here

      b_away : IsHere (middle.table b) → ⊥
      b_away here = w.sound.unmade b refl (omega arith) (subst IsHere (put-other d.table a _ b (ends_apart k made)) here)

-- a free end is held by the send that encloses it
held-free : (on x : EndId) (p : Pid) (y : Entry) (d : Progress) → IsOfEnd x y → IsHereAnd y (λ u. IsIdle u × (u.holder ≡ holder.Owner p)) → IsHeldBy on ((held (holder.EnclosedIn on) (here y) d).table x)
unfolding keeps
held-free on x p (entry.Here u) d own free =
    subst (IsHeldBy on) (sym (ap (λ e. put d.table e (entry.Here (record u { holder = holder.EnclosedIn on })) x) own ∙ put-at d.table x _)) (record { outward = free.0.outward; inward = free.0.inward }, refl)
held-free on x p entry.Nothing d own free = absurd free
held-free on x p (entry.Left to hops) d own free = absurd free
held-free on x p (entry.Destroyed m) d own free = absurd free

-- and the others are free as before
free-held : (on x : EndId) (p : Pid) (xs : List EndId) (d : Progress) → IsOfEnd x (d.table x) → AreFree p d.table (x ∷ xs) → AreFree p (held (holder.EnclosedIn on) (here (d.table x)) d).table xs
free-held on x p xs d own free =
    AreFree-others p d.table (held (holder.EnclosedIn on) (here (d.table x)) d).table x xs (λ q apart. held-other (holder.EnclosedIn on) (d.table x) d x q own apart) free

-- so it is for each of some
encloses-held : (on : EndId) (p : Pid) (xs : List EndId) (d : Progress) → ((e : EndId) → IsOfEnd e (d.table e)) → AreFree p d.table xs → AreHeldBy on (hold_each (holder.EnclosedIn on) xs d).table xs
unfolding hold_each
encloses-held on p [] d own free = tt
encloses-held on p (x ∷ xs) d own free =
    let first : Progress = held (holder.EnclosedIn on) (here (d.table x)) d in
    let own_first : (e : EndId) → IsOfEnd e (first.table e) = held-own (holder.EnclosedIn on) (d.table x) d own in (
      subst (IsHeldBy on) (sym (hold_each-other (holder.EnclosedIn on) xs first x own_first free.1)) (held-free on x p (d.table x) d (own x) free.0),
      free.1,
      encloses-held on p xs first own_first (free-held on x p xs d (own x) free),
    )

module _ {k made n : ℕ} {touches : Pid → EndId → Bool} {before : EndId → Entry} where
  -- a free end is enclosed
  held-well : (on x : EndId) (p : Pid) (d : Progress) → IsHereAnd (d.table x) (λ u. IsIdle u × (u.holder ≡ holder.Owner p)) → GoesWell k made n touches before d
      → GoesWell k made n touches before (held (holder.EnclosedIn on) (here (d.table x)) d)
  held-well on x p d free w = by (d.table x) refl (w.sound.own x) free
    where
      by : (y : Entry) → d.table x ≡ y → IsOfEnd x y → IsHereAnd y (λ u. IsIdle u × (u.holder ≡ holder.Owner p)) → GoesWell k made n touches before (held (holder.EnclosedIn on) (here y) d)
      by (entry.Here u) at own free =
          subst (λ e. GoesWell k made n touches before (keeps e (entry.Here (record u { holder = holder.EnclosedIn on })) d)) (sym own)
          (keeps-well-quiet x (entry.Here (record u { holder = holder.EnclosedIn on })) d (subst IsQuiet (sym at) free.0) (IsFreeFor-owned d.table x (entry.Here (record u { holder = holder.EnclosedIn on })) u p at free.1) own
          (record { outward = free.0.outward; inward = free.0.inward }) tt
          (made-here x w.sound (subst IsHere (sym at) tt) (entry.Here (record u { holder = holder.EnclosedIn on }))) w)
      by entry.Nothing at own free = absurd free
      by (entry.Left to hops) at own free = absurd free
      by (entry.Destroyed m) at own free = absurd free

  -- and each of some
  encloses-well : (on : EndId) (p : Pid) (xs : List EndId) (d : Progress) → AreFree p d.table xs → GoesWell k made n touches before d → GoesWell k made n touches before (hold_each (holder.EnclosedIn on) xs d)
  unfolding hold_each
  encloses-well on p [] d free w = w
  encloses-well on p (x ∷ xs) d free w =
      encloses-well on p xs (held (holder.EnclosedIn on) (here (d.table x)) d) (free-held on x p xs d (w.sound.own x) free) (held-well on x p d free.0 w)

  -- Send, of ends that it encloses and holds
  starts_send-owned : (on : EndId) (bytes : List ℕ) (xs : List EndId) (v : HereView) (p : Pid) (d : Progress) → IsOwnedAt k made n touches before on v p d
      → AreHeldBy on d.table xs → list_any (end_eq on) xs ≡ false → GoesWell k made n touches before (starts_send k bytes xs v d)
  unfolding starts_send matches means
  starts_send-owned on bytes xs v p d o are apart = by (nat_eq v.value.want 0)
    where
      sent : ℕ
      sent = gains_one v.value.sent

      started : HereView
      started = record v { value = record v.value { sent = sent }; outward = outward.Waiting sent bytes xs }

      served : HereView
      served = record started { value = record started.value { served = started.value.want; want = 0 }; outward = outward.Matched sent }

      meant : Progress
      meant = means (step.Send v.value.end sent bytes xs) d

      o_meant : IsOwnedAt k made n touches before on v p meant
      o_meant = record { at = o.at; owner = o.owner; spared = o.spared; well = means-well _ d o.well }

      waits : IsOwnAfter on v d.table (entry.Here started)
      waits = record { end = owned-end on v p d o; holder = refl; encloses = are; apart = apart }

      by : (b : Bool) → GoesWell k made n touches before (if b then keeps v.value.end (entry.Here started) meant else matches k started sent bytes xs meant)
      by true = kept-well on v p meant (entry.Here started) o_meant waits
      by false =
          sends-well _ _ _ (means-well _ _ (leave_each-well _ on xs (keeps v.value.end (entry.Here served) meant)
          (kept-releasing on v p meant (entry.Here served) xs o_meant (IsOwnAfter-none on v served o.well.sound o.at refl refl refl) refl are apart)))

module _ {k made n : ℕ} {touches : Pid → EndId → Bool} {before : EndId → Entry} (on : EndId) (v : HereView) (p : Pid) (d : Progress)
    (at : d.table on ≡ entry.Here v) (owner : v.holder ≡ holder.Owner p) (touched : (q : Pid) → touches q on ≡ true)
    (w : GoesWell k made n touches before d) where
  -- the call starts from this
  from : IsOwnedAt k made n touches before on v p d
  from = record { at = at; owner = owner; spared = λ q not. absurd (true≢false (sym (touched q) ∙ not)); well = w }

  -- Destroy
  pub destroys-well : (s : ServiceStep) → GoesWell k made n touches before (ends k v (means s d))
  unfolding means
  destroys-well s = ends-owned on v p (means s d) (record { at = at; owner = owner; spared = from.spared; well = means-well s d w })

  -- Receive
  pub posts-well : GoesWell k made n touches before (posts k v d)
  posts-well = posts-owned on v p d from

  -- Cancel of a send
  pub withdraws_send-well : GoesWell k made n touches before (withdraws_send v d)
  withdraws_send-well = withdraws_send-owned on v p d from

  -- Cancel of a receive
  pub withdraws_receive-well : (r : ℕ) → GoesWell k made n touches before (withdraws_receive k r v d)
  withdraws_receive-well r = withdraws_receive-owned on v p d r from

  -- Send
  pub starts_send-well : (bytes : List ℕ) (xs : List EndId) → first_of (send_causes (sees p d.table) on xs) ≡ None → GoesWell k made n touches before (starts_send k bytes xs v (encloses on xs d))
  unfolding encloses
  starts_send-well bytes xs granted =
      let free : AreFree p d.table xs = send-free p d.table on xs granted in
      let apart : list_any (end_eq on) xs ≡ false = send-apart p d.table on xs granted in
      starts_send-owned on bytes xs v p (hold_each (holder.EnclosedIn on) xs d)
      (record {
        at = hold_each-other (holder.EnclosedIn on) xs d on w.sound.own apart ∙ at;
        owner = owner;
        spared = from.spared;
        well = encloses-well on p xs d free w;
      })
      (encloses-held on p xs d w.sound.own free) apart

-- of each end that is still here this is true as before
module _ (P : HereView → Type 0) (k : ℕ) where
  -- what is destroyed is not here
  ended-stays : (m : MovingPicture) (d : Progress) (q : EndId) → IfHere (d.table q) P → IfHere ((keeps m.end (ended_entry m) d).table q) P
  unfolding keeps
  ended-stays m d q h = put-each (λ _ z. IfHere z P) d.table m.end (ended_entry m) (IfHere-away (ended_entry m) P (ended-IsHere m)) q (λ apart. h)

  -- what tells the opposite end changes no entry
  pub tells_gone-stays : (m : MovingPicture) (d : Progress) (q : EndId) → IfHere (d.table q) P → IfHere ((tells_gone k m d).table q) P
  tells_gone-stays m d q h = subst (λ t. IfHere (t q) P) (sym (tells_gone-only k m d (only-same d)).table) h

  -- END of an end without a message
  idle-stays : (y : Entry) (d : Progress) (q : EndId) → IfHere (d.table q) P → IfHere ((ends_idle_here k (here y) d).table q) P
  unfolding ends_idle
  idle-stays entry.Nothing d q h = h
  idle-stays (entry.Here v) d q h = tells_gone-stays v.value (keeps v.value.end (ended_entry v.value) d) q (ended-stays v.value d q h)
  idle-stays (entry.Left to hops) d q h = h
  idle-stays (entry.Destroyed m) d q h = h

  -- END of some
  pub end_each-stays : (xs : List EndId) (d : Progress) (q : EndId) → IfHere (d.table q) P → IfHere ((end_each k xs d).table q) P
  unfolding end_each
  end_each-stays [] d q h = h
  end_each-stays (x ∷ xs) d q h = end_each-stays xs (ends_idle_here k (here (d.table x)) d) q (idle-stays (d.table x) d q h)

  -- an END leaves each other end as it was, or not here
  pub IfHere-ends : (v : HereView) (d : Progress) (q : EndId) → IfHere (d.table q) P → IfHere ((ends k v d).table q) P
  unfolding ends
  IfHere-ends v d q h =
      let kept : Progress = keeps v.value.end (ended_entry v.value) d in
      tells_gone-stays v.value (end_each k (enclosed_of v.outward) kept) q (end_each-stays (enclosed_of v.outward) kept q (ended-stays v.value d q h))

-- each of these ends that is here is owned by p
abbrev pub AreOwnedBy : Pid → (EndId → Entry) → List EndId → Type 0
AreOwnedBy p t [] = Unit {0}
AreOwnedBy p t (x ∷ xs) = IfHere (t x) (λ v. v.holder ≡ holder.Owner p) × AreOwnedBy p t xs

-- and so they are after an END
AreOwnedBy-ends : (p : Pid) (k : ℕ) (v : HereView) (d : Progress) (xs : List EndId) → AreOwnedBy p d.table xs → AreOwnedBy p (ends k v d).table xs
AreOwnedBy-ends p k v d [] are = tt
AreOwnedBy-ends p k v d (x ∷ xs) are = (IfHere-ends (λ u. u.holder ≡ holder.Owner p) k v d x are.0, AreOwnedBy-ends p k v d xs are.1)

-- the ends of a process are
pub AreOwnedBy-all : (p : Pid) (t : EndId → Entry) (mine : List EndId) → AreEndsOf p t mine → AreOwnedBy p t mine
AreOwnedBy-all p t mine are = go mine (λ e among. (are.all e).0 among)
  where
    one : (x : Entry) → IsSome (owned p x) → IfHere x (λ v. v.holder ≡ holder.Owner p)
    one entry.Nothing some = tt
    one (entry.Here v) some = owner v (is_owner p v.holder) refl some
      where
        owner : (v : HereView) (b : Bool) → is_owner p v.holder ≡ b → IsSome (if b then Some v else None) → v.holder ≡ holder.Owner p
        owner v true is some = owner-is_owner p v.holder is
        owner v false is some = absurd (true≢false (sym some))
    one (entry.Left to hops) some = tt
    one (entry.Destroyed m) some = tt

    go : (xs : List EndId) → ((e : EndId) → Contains xs e → IsSome (owned p (t e))) → AreOwnedBy p t xs
    go [] all = tt
    go (x ∷ xs) all = (one (t x) (all x (zero, omega arith, refl)), go xs (λ e among. all e (suc among.0, omega arith, among.2)))

-- another process is not an owner
other-owner : (p q : Pid) → nat_eq p.0 q.0 ≡ false → nat_eq q.0 p.0 ≡ false
other-owner p q apart = grind arith

-- a process that the call does not touch does not own the end
spared-owner : (p q : Pid) (touch : Bool) (v : HereView) → touch ≡ nat_eq p.0 q.0 → v.holder ≡ holder.Owner p → touch ≡ false → is_owner q v.holder ≡ false
spared-owner p q touch v touched owner not = ap (is_owner q) owner ∙ other-owner p q (sym touched ∙ not)

module _ {k made n : ℕ} {touches : Pid → EndId → Bool} {before : EndId → Entry} (p : Pid) (touched : (q : Pid) (e : EndId) → touches q e ≡ nat_eq p.0 q.0) where
  -- Exit
  pub ends_each-well : (xs : List EndId) (d : Progress) → AreOwnedBy p d.table xs → GoesWell k made n touches before d → GoesWell k made n touches before (ends_each k xs d)
  unfolding ends_each
  ends_each-well [] d are w = w
  ends_each-well (x ∷ xs) d are w = ends_each-well xs (ends_here k (here (d.table x)) d) (rest (d.table x)) (first (d.table x) refl are.0)
    where
      first : (y : Entry) → d.table x ≡ y → IfHere y (λ v. v.holder ≡ holder.Owner p) → GoesWell k made n touches before (ends_here k (here y) d)
      first (entry.Here v) at owner = ends-owned x v p d (record { at = at; owner = owner; spared = λ q not. spared-owner p q (touches q x) v (touched q x) owner not; well = w })
      first entry.Nothing at owner = w
      first (entry.Left to hops) at owner = w
      first (entry.Destroyed m) at owner = w

      rest : (y : Entry) → AreOwnedBy p (ends_here k (here y) d).table xs
      rest (entry.Here v) = AreOwnedBy-ends p k v d xs are.1
      rest entry.Nothing = are.1
      rest (entry.Left to hops) = are.1
      rest (entry.Destroyed m) = are.1
