-- The set of ends on which a process has started an activity.
use Rattle.std.proofs.Common.{◌≡◌, ℕ, zero, suc, Bool, true, false, true≢false, not, nat_eq, ◌||◌, List, [], ◌∷◌, length, Contains, IsSome, Some, None, Option, if◌then◌else◌, refl, sym, ap, subst, ◌∙◌, arith}
use Rattle.std.specs.List.{list_any}
use Rattle.std.proofs.lemmas.Bool.Decides.{nat_tests}
use Rattle.charlotte_calls.specs.declared.calls.Call.TheVariants as call
use Rattle.charlotte_calls.specs.declared.calls.Cause.TheVariants as cause
use Rattle.charlotte_calls.specs.declared.names.EndId.{EndId}
use Rattle.charlotte_calls.specs.declared.names.Pid.{Pid}
use Rattle.end_table.proofs.EndEq.{end_eq-refl}
use Rattle.end_table.specs.Owned.{AreEndsOf, is_owner, owned}
use Rattle.end_table.specs.Place.{end_eq}
use Rattle.end_table.specs.declared.entry.Entry.{Entry}
use Rattle.end_table.specs.declared.entry.Entry.TheVariants as entry
use Rattle.end_table.specs.declared.entry.HereView.{HereView}
use Rattle.kernel_step.specs.Actions.{here}
use Rattle.kernel_step.specs.Calls.{is_active, refusal}

-- an end that p owns is as it is here
here-owned : (p : Pid) (x : Entry) → IsSome (owned p x) → here x ≡ owned p x
here-owned p entry.Nothing is = refl
here-owned p (entry.Here v) is = by (is_owner p v.holder) is
  where
    by : (b : Bool) → IsSome (if b then Some v else None) → Some v ≡ (if b then Some v else None)
    by true is = refl
    by false is = absurd (true≢false (sym is))
here-owned p (entry.Left to hops) is = refl
here-owned p (entry.Destroyed m) is = refl

-- an end with a started activity is owned
owned-active : (x : Option HereView) → is_active x ≡ true → IsSome x
owned-active None is = absurd (true≢false (sym is))
owned-active (Some v) is = refl

-- a test that fails at each of these ends, and one that holds at one
none_holds : (test : EndId → Bool) (xs : List EndId) → ((e : EndId) → Contains xs e → test e ≡ false) → list_any test xs ≡ false
none_holds test [] fails = refl
none_holds test (x ∷ xs) fails =
    ap (λ b. b || list_any test xs) (fails x (zero, omega arith, refl)) ∙ none_holds test xs (λ e among. fails e (later e among))
  where
    later : (e : EndId) → Contains xs e → Contains (x ∷ xs) e
    later e (k, within, is) = (suc k, omega arith, is)

one_holds : (test : EndId → Bool) (xs : List EndId) (e : EndId) → test e ≡ true → Contains xs e → list_any test xs ≡ true
one_holds test [] e holds (k, within, is) = absurd (omega arith)
one_holds test (x ∷ xs) e holds (zero, within, is) = ap (λ b. b || list_any test xs) (subst (λ z. test z ≡ true) (sym is) holds)
one_holds test (x ∷ xs) e holds (suc k, within, is) = by (test x) (one_holds test xs e holds (k, omega arith, is))
  where
    by : (b : Bool) → list_any test xs ≡ true → (b || list_any test xs) ≡ true
    by true others = refl
    by false others = others

not_empty : (k : EndId) (ks : List EndId) → not (nat_eq (length (k ∷ ks)) 0) ≡ true
not_empty k ks = grind (arith, nat_tests)

-- some end of a process has a started activity exactly where the set of those is not empty
pub active_ends : (p : Pid) (t : EndId → Entry) (mine keys : List EndId) → ((e : EndId) → list_any (end_eq e) keys ≡ is_active (owned p (t e))) → AreEndsOf p t mine
    → list_any (λ e. is_active (here (t e))) mine ≡ not (nat_eq (length keys) 0)
active_ends p t mine [] active are =
    none_holds (λ e. is_active (here (t e))) mine (λ e among. ap is_active (here-owned p (t e) ((are.all e).0 among)) ∙ sym (active e))
active_ends p t mine (k ∷ ks) active are =
    one_holds (λ e. is_active (here (t e))) mine k (ap is_active (here-owned p (t k) mine_k) ∙ is) ((are.all k).1 mine_k) ∙ sym (not_empty k ks)
  where
    is : is_active (owned p (t k)) ≡ true
    is = sym (active k) ∙ ap (λ b. b || list_any (end_eq k) ks) (end_eq-refl k)

    mine_k : IsSome (owned p (t k))
    mine_k = owned-active (owned p (t k)) is

-- so a Wait is refused where no report stands and that set is empty
pub wait_refused : (p : Pid) (t : EndId → Entry) (made : ℕ) (mine keys : List EndId) (reported : Bool) → ((e : EndId) → list_any (end_eq e) keys ≡ is_active (owned p (t e))) → AreEndsOf p t mine
    → (if reported || not (nat_eq (length keys) 0) then None else Some cause.NoActivity) ≡ refusal p t made mine reported call.Wait
wait_refused p t made mine keys reported active are =
    ap (λ b. if reported || b then None else Some cause.NoActivity) (sym (active_ends p t mine keys active are))
