-- After an Exit its process has no activity.
use Rattle.std.proofs.Common.{◌≡◌, ℕ, zero, suc, Bool, true, false, true≢false, List, [], ◌∷◌, Contains, IsSome, Some, None, if◌then◌else◌, refl, sym, ap, subst, ◌∙◌, arith}
use Rattle.charlotte_calls.specs.declared.names.EndId.{EndId}
use Rattle.charlotte_calls.specs.declared.names.Pid.{Pid}
use Rattle.end_table.proofs.EndEq.{end_eq-same, end_eq-refl, put-at}
use Rattle.end_table.specs.Entries.{ended_entry}
use Rattle.end_table.specs.Owned.{AreEndsOf, is_owner, owned}
use Rattle.end_table.specs.Place.{end_eq}
use Rattle.end_table.specs.Table.{IfHere, IsOfEnd}
use Rattle.end_table.specs.declared.entry.Entry.{Entry}
use Rattle.end_table.specs.declared.entry.Entry.TheVariants as entry
use Rattle.end_table.specs.declared.entry.HereView.{HereView}
use Rattle.kernel_sound.proofs.Calls.{IfHere-ends, end_each-stays, tells_gone-stays}
use Rattle.kernel_sound.proofs.Put.{IfHere-away}
use Rattle.kernel_step.specs.Actions.{enclosed_of, ends, here}
use Rattle.kernel_step.specs.Calls.{ends_each, ends_here, is_active}
use Rattle.kernel_step.specs.Progress.{Progress, keeps}
use Rattle.kernel_step.proofs.Departed.{ended-IsHere}

-- p does not own the end, if it is here
abbrev IsOfOther : Pid → Entry → Type 0
IsOfOther p x = IfHere x (λ v. is_owner p v.holder ≡ false)

-- so p has no activity at it
inactive : (p : Pid) (x : Entry) → IsOfOther p x → is_active (owned p x) ≡ false
inactive p entry.Nothing other = refl
inactive p (entry.Here v) other = ap (λ b. is_active (if b then Some v else None)) other
inactive p (entry.Left to hops) other = refl
inactive p (entry.Destroyed m) other = refl

-- an end that is not among those that p owns
IsOfOther-not : (p : Pid) (x : Entry) → (IsSome (owned p x) → ⊥) → IsOfOther p x
IsOfOther-not p entry.Nothing not = tt
IsOfOther-not p (entry.Here v) not = by (is_owner p v.holder) not
  where
    by : (b : Bool) → (IsSome (if b then Some v else None) → ⊥) → b ≡ false
    by true not = absurd (not refl)
    by false not = refl
IsOfOther-not p (entry.Left to hops) not = tt
IsOfOther-not p (entry.Destroyed m) not = tt

-- the name of an end that is here
own-name : (e : EndId) (x : Entry) → IsOfEnd e x → IfHere x (λ v. v.value.end ≡ e)
own-name e entry.Nothing own = tt
own-name e (entry.Here v) own = own
own-name e (entry.Left to hops) own = tt
own-name e (entry.Destroyed m) own = tt

-- END of an end leaves it not here
ends-away : (P : HereView → Type 0) (k : ℕ) (e : EndId) (v : HereView) (d : Progress) → v.value.end ≡ e → IfHere ((ends k v d).table e) P
unfolding ends keeps
ends-away P k e v d same =
    tells_gone-stays P k v.value _ e
    (end_each-stays P k (enclosed_of v.outward) kept e (subst (λ q. IfHere (kept.table q) P) same (subst (λ x. IfHere x P) (sym (put-at d.table v.value.end (ended_entry v.value))) away)))
  where
    kept : Progress
    kept = keeps v.value.end (ended_entry v.value) d

    away : IfHere (ended_entry v.value) P
    away = IfHere-away (ended_entry v.value) P (ended-IsHere v.value)

-- an end that is neither the first nor among the others is none of them
none-of : (e x : EndId) (xs : List EndId) → end_eq e x ≡ false → (Contains xs e → ⊥) → Contains (x ∷ xs) e → ⊥
none-of e x xs apart none (zero, within, is) = true≢false (sym (subst (λ z. end_eq e z ≡ true) (sym is) (end_eq-refl e)) ∙ apart)
none-of e x xs apart none (suc j, within, is) = none (j, omega arith, is)

module _ (k : ℕ) (p : Pid) (e : EndId) where
  -- what is true of an end that is here is so after the END of another
  stays : (P : HereView → Type 0) (x : Entry) (d : Progress) → IfHere (d.table e) P → IfHere ((ends_here k (here x) d).table e) P
  stays P entry.Nothing d h = h
  stays P (entry.Here v) d h = IfHere-ends P k v d e h
  stays P (entry.Left to hops) d h = h
  stays P (entry.Destroyed m) d h = h

  -- END of the end itself
  away-after : (x : Entry) (d : Progress) → d.table e ≡ x → IfHere x (λ v. v.value.end ≡ e) → IsOfOther p ((ends_here k (here x) d).table e)
  away-after entry.Nothing d at own = subst (IsOfOther p) (sym at) tt
  away-after (entry.Here v) d at own = ends-away (λ u. is_owner p u.holder ≡ false) k e v d own
  away-after (entry.Left to hops) d at own = subst (IsOfOther p) (sym at) tt
  away-after (entry.Destroyed m) d at own = subst (IsOfOther p) (sym at) tt

  -- after the END of some ends, p does not own an end that it did not own unless it was one of them
  other-after : (xs : List EndId) (d : Progress) → IfHere (d.table e) (λ v. v.value.end ≡ e) → ((Contains xs e → ⊥) → IsOfOther p (d.table e)) → IsOfOther p ((ends_each k xs d).table e)
  unfolding ends_each
  other-after [] d own other = other (λ among. absurd (omega arith))
  other-after (x ∷ xs) d own other =
      other-after xs (ends_here k (here (d.table x)) d) (stays (λ v. v.value.end ≡ e) (d.table x) d own) (by (end_eq e x) refl)
    where
      by : (b : Bool) → end_eq e x ≡ b → (Contains xs e → ⊥) → IsOfOther p ((ends_here k (here (d.table x)) d).table e)
      by true same none = subst (λ q. IsOfOther p ((ends_here k (here (d.table q)) d).table e)) (end_eq-same e x same) (away-after (d.table e) d refl own)
      by false apart none = stays (λ v. is_owner p v.holder ≡ false) (d.table x) d (other (none-of e x xs apart none))

-- an Exit destroys every end that its process owns
pub exit-silent : (k : ℕ) (p : Pid) (mine : List EndId) (d : Progress) → ((e : EndId) → IsOfEnd e (d.table e)) → AreEndsOf p d.table mine
    → (e : EndId) → is_active (owned p ((ends_each k mine d).table e)) ≡ false
exit-silent k p mine d own are e =
    inactive p ((ends_each k mine d).table e)
    (other-after k p e mine d (own-name e (d.table e) (own e)) (λ none. IsOfOther-not p (d.table e) (λ some. none ((are.all e).1 some))))
