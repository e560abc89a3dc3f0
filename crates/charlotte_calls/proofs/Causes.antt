-- What follows from the table of causes: what no cause means, and that two who see alike of each end refuse alike.
use Rattle.std.proofs.Common.{◌≡◌, ◌⊎◌, inl, inr, ℕ, Bool, true, false, true≢false, cond, not, ◌||◌, is_none, if◌then◌else◌, Some, None, List, [], ◌∷◌, refl, sym, ap, ◌∙◌}
use Rattle.std.specs.List.{list_any}
use Rattle.charlotte_calls.specs.Causes.{Seen, activity, first_cause, first_of, is_busy, is_idle, is_late}
use Rattle.charlotte_calls.specs.EndEq.{names_twice, same_link}
use Rattle.charlotte_calls.specs.declared.calls.Call.{Call}
use Rattle.charlotte_calls.specs.declared.calls.Call.TheVariants as call
use Rattle.charlotte_calls.specs.declared.calls.Cause.{Cause}
use Rattle.charlotte_calls.specs.declared.calls.Cause.TheVariants as cause
use Rattle.charlotte_calls.specs.declared.names.EndId.{EndId}

-- every one of these tests fails
abbrev pub AllFail : List (Bool × Cause) → Type 0
AllFail [] = Unit {0}
AllFail (t ∷ ts) = (t.0 ≡ false) × AllFail ts

-- where no test holds, all fail
pub none-fails : (ts : List (Bool × Cause)) → is_none (first_of ts) ≡ true → AllFail ts
none-fails [] h = tt
none-fails (t ∷ ts) h = by t.0 refl h (none-fails ts)
  where
    by : (b : Bool) → t.0 ≡ b → is_none (if b then Some t.1 else first_of ts) ≡ true → (is_none (first_of ts) ≡ true → AllFail ts) → (t.0 ≡ false) × AllFail ts
    by true is h others = absurd (true≢false (sym h))
    by false is h others = (is, others h)

pub first_of-none : (ts : List (Bool × Cause)) → first_of ts ≡ None → AllFail ts
first_of-none ts h = none-fails ts (ap is_none h)

-- two see alike of an end: the same, or both that the process does not own it
abbrev pub AreAlike : Seen → Seen → Type 0
AreAlike x y = (x ≡ y) ⊎ ((x.owned ≡ false) × (y.owned ≡ false))

owned-alike : (x y : Seen) → AreAlike x y → x.owned ≡ y.owned
owned-alike x y (inl same) = ap (λ (z : Seen). z.owned) same
owned-alike x y (inr others) = others.0 ∙ sym others.1

-- a call on an end, with the causes that go by what is seen of it
on-alike : (x y : Seen) → AreAlike x y → (causes : Seen → List (Bool × Cause)) → first_of ((not x.owned, cause.NoEnd) ∷ causes x) ≡ first_of ((not y.owned, cause.NoEnd) ∷ causes y)
on-alike x y (inl same) causes = ap (λ (z : Seen). first_of ((not z.owned, cause.NoEnd) ∷ causes z)) same
on-alike x y (inr others) causes =
    ap (λ b. first_of ((not b, cause.NoEnd) ∷ causes x)) others.0 ∙ sym (ap (λ b. first_of ((not b, cause.NoEnd) ∷ causes y)) others.1)

or-false : (a b : Bool) → (a || b) ≡ false → (a ≡ false) × (b ≡ false)
or-false true b none = absurd (true≢false none)
or-false false b none = (refl, none)

-- where a test before it holds, a test need not agree
guarded : (m n x y : Bool) (rest : List (Bool × Cause)) → m ≡ n → (m ≡ false → x ≡ y)
    → first_of ((m, cause.EncloseNoEnd) ∷ (x, cause.EncloseBusy) ∷ rest) ≡ first_of ((n, cause.EncloseNoEnd) ∷ (y, cause.EncloseBusy) ∷ rest)
guarded true n x y rest same agree = ap (λ z. first_of ((z, cause.EncloseNoEnd) ∷ (y, cause.EncloseBusy) ∷ rest)) same
guarded false n x y rest same agree = λ i. first_of ((same i, cause.EncloseNoEnd) ∷ (agree refl i, cause.EncloseBusy) ∷ rest)

module _ (a b : EndId → Seen) (alike : (e : EndId) → AreAlike (a e) (b e)) where
  busy-alike : (xs : List EndId) → list_any (λ x. not (a x).owned) xs ≡ false → list_any (λ x. is_busy (a x)) xs ≡ list_any (λ x. is_busy (b x)) xs
  busy-alike [] none = refl
  busy-alike (x ∷ xs) none =
      let both = or-false (not (a x).owned) (list_any (λ x. not (a x).owned) xs) none in
      by (alike x) both.0 (busy-alike xs both.1)
    where
      by : AreAlike (a x) (b x) → not (a x).owned ≡ false → list_any (λ x. is_busy (a x)) xs ≡ list_any (λ x. is_busy (b x)) xs
          → (is_busy (a x) || list_any (λ x. is_busy (a x)) xs) ≡ (is_busy (b x) || list_any (λ x. is_busy (b x)) xs)
      by (inl same) some rest = λ i. is_busy (same i) || rest i
      by (inr others) some rest = absurd (true≢false (sym (ap not others.0) ∙ some))

  send-alike : (on : EndId) (bytes : List ℕ) (xs : List EndId) (made : ℕ) → first_cause a made (call.Send on bytes xs) ≡ first_cause b made (call.Send on bytes xs)
  send-alike on bytes xs made =
      on-alike (a on) (b on) (alike on) (λ x. (not (is_idle x.outward), cause.Busy) ∷ (x.dead, cause.Dead) ∷ enclosed a)
      ∙ (λ i. cond (not (b on).owned) (Some cause.NoEnd) (cond (not (is_idle (b on).outward)) (Some cause.Busy) (cond (b on).dead (Some cause.Dead) (tests i))))
    where
      enclosed : (EndId → Seen) → List (Bool × Cause)
      enclosed sees =
          (list_any (λ x. not (sees x).owned) xs, cause.EncloseNoEnd) ∷ (list_any (λ x. is_busy (sees x)) xs, cause.EncloseBusy)
          ∷ (list_any (same_link on) xs, cause.EncloseSame) ∷ (names_twice xs, cause.EncloseTwice) ∷ []

      tests : first_of (enclosed a) ≡ first_of (enclosed b)
      tests =
          guarded (list_any (λ x. not (a x).owned) xs) (list_any (λ x. not (b x).owned) xs) (list_any (λ x. is_busy (a x)) xs) (list_any (λ x. is_busy (b x)) xs)
          ((list_any (same_link on) xs, cause.EncloseSame) ∷ (names_twice xs, cause.EncloseTwice) ∷ [])
          (ap (λ f. list_any f xs) (λ i x. not (owned-alike (a x) (b x) (alike x) i))) (busy-alike xs)

  -- so both refuse a call for the same cause
  pub first_cause-alike : (made : ℕ) (c : Call) → first_cause a made c ≡ first_cause b made c
  first_cause-alike made call.Make = refl
  first_cause-alike made (call.Destroy on) = on-alike (a on) (b on) (alike on) (λ x. [])
  first_cause-alike made (call.Send on bytes xs) = send-alike on bytes xs made
  first_cause-alike made (call.Receive on) = on-alike (a on) (b on) (alike on) (λ x. (not (is_idle x.inward), cause.Busy) ∷ (x.dead, cause.Dead) ∷ [])
  first_cause-alike made (call.Cancel on w) =
      on-alike (a on) (b on) (alike on) (λ x. (x.dead, cause.Dead) ∷ (is_late (activity w x), cause.Late) ∷ (is_idle (activity w x), cause.NoActivity) ∷ [])
  first_cause-alike made call.Wait = refl
  first_cause-alike made (call.Print bytes) = refl
  first_cause-alike made call.Exit = refl
