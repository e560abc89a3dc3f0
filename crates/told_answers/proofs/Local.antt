-- Along a local run, from the start of a setting.
use Rattle.std.proofs.Common.{◌≡◌, ℕ, ◌<◌, ◌≤◌, Bool, true, false, nat_eq, ◌⊎◌, List, [], ◌∷◌, length, Option, Some, None, refl, sym, ap, subst, ◌∙◌, if◌then◌else◌}
use Rattle.std.specs.List.{fold}
use Rattle.charlotte_calls.specs.Names.{opposite}
use Rattle.charlotte_packets.specs.Moving.{new_end}
use Rattle.charlotte_calls.specs.Setting.{IsValid}
use Rattle.charlotte_calls.specs.declared.names.EndId.{EndId}
use Rattle.charlotte_calls.specs.declared.names.Pid.{Pid}
use Rattle.charlotte_calls.specs.declared.setting.Setting.{Setting}
use Rattle.end_table.proofs.EndEq.{end_eq-same, put-at, put-other}
use Rattle.end_table.specs.Place.{end_eq, put}
use Rattle.end_table.specs.declared.entry.Entry.{Entry}
use Rattle.kernel_step.specs.Calls.{made_end}
use Rattle.kernel_step.specs.Kernel.{Kernel, process_of}
use Rattle.kernel_step.specs.Start.{Wired, home, keeps_at, nothing_wired, owned_from_start, start_kernel, wired, wires_one}
use Rattle.kernel_step.specs.declared.phase.Phase.TheVariants.{Running}
use Rattle.local_runs.specs.Local.{IsLocalEvent, IsLocalRun, LocalEvent, MakesCall, TakesPacket, entries_of, entry_of, gives, happened, left_by}
use Rattle.local_runs.proofs.Start.{starts-well}
use Rattle.told_answers.proofs.Called.{call-stepped}
use Rattle.told_answers.proofs.Cancellers.{canceller}
use Rattle.told_answers.proofs.Run.{AsTold, Stepped, running-not_cancelling, take-stepped}
use Rattle.told_answers.specs.Standing.{ComesAsTold, StandsAsTold}
use Rattle.told_answers.specs.Told.{Heard, NoCall, call_of, heard, hears, hears_all}

-- ---- the start

-- no Cancel waits at any end
put-none : (t : EndId → Entry) (e : EndId) (x : Entry) (q : EndId) → canceller x ≡ None → canceller (t q) ≡ None → canceller (put t e x q) ≡ None
put-none t e x q put_there there = by (end_eq e q) refl
  where
    by : (b : Bool) → end_eq e q ≡ b → canceller (put t e x q) ≡ None
    by true same = subst (λ z. canceller (put t e x z) ≡ None) (end_eq-same e q same) (ap canceller (put-at t e x) ∙ put_there)
    by false apart = ap canceller (put-other t e x q apart) ∙ there

keeps_at-none : (k : ℕ) (e : EndId) (x : Entry) (tables : ℕ → EndId → Entry) → canceller x ≡ None → ((j : ℕ) (q : EndId) → canceller (tables j q) ≡ None) → (j : ℕ) (q : EndId) → canceller (keeps_at k e x tables j q) ≡ None
keeps_at-none k e x tables kept none j q = by (nat_eq j k)
  where
    by : (b : Bool) → canceller ((if b then put (tables j) e x else tables j) q) ≡ None
    by true = put-none (tables j) e x q kept (none j q)
    by false = none j q

wired-none : (s : Setting) (wires : List (Pid × Pid)) (so_far : Wired) → ((j : ℕ) (q : EndId) → canceller (so_far.table j q) ≡ None) → (j : ℕ) (q : EndId) → canceller ((fold (wires_one s) so_far wires).table j q) ≡ None
wired-none s [] so_far none = none
wired-none s (wire ∷ wires) so_far none =
    let maker : ℕ = home s wire.0 in
    let a : EndId = made_end maker (so_far.made maker) in
    let with_a = keeps_at maker a (owned_from_start wire.0 a (home s wire.1)) so_far.table in
    wired-none s wires (wires_one s so_far wire)
    (keeps_at-none (home s wire.1) (opposite a) (owned_from_start wire.1 (opposite a) maker) with_a refl (keeps_at-none maker a (owned_from_start wire.0 a (home s wire.1)) so_far.table refl none))

pub start-as_told : (s : Setting) (k : ℕ) → IsValid s → AsTold (length s.homes) (λ p. NoCall) (start_kernel s k)
start-as_told s k valid =
    record {
      sound = (starts-well s valid).setting.sound k;
      told = λ p. record { answer = refl; fits = tt; phase = refl };
      cancelling = λ p e is. let no : None ≡ Some p = sym (wired-none s s.wires nothing_wired (λ j q. refl) k e) ∙ is in absurd cc;
      withdrawing = λ p e is. absurd (running-not_cancelling Running e refl is);
      rests = λ p is. refl;
    }

-- ---- the run

-- one event
pub event-stepped : (s : Setting) (k : ℕ) (x : Kernel) (h : Pid → Heard) (o : LocalEvent) → AsTold (length s.homes) h x → IsLocalEvent s k x o → Stepped (length s.homes) h (λ p. call_of p (happened o)) (gives x o)
event-stepped s k x h (MakesCall p c mine) inv is = call-stepped (length s.homes) h x inv p c mine is.0 is.2 is.4
event-stepped s k x h (TakesPacket from q) inv is = take-stepped (length s.homes) h x inv from q

run-as_told : (s : Setting) (k : ℕ) (x : Kernel) (h : Pid → Heard) (os : List LocalEvent) → AsTold (length s.homes) h x → IsLocalRun s k x os → AsTold (length s.homes) (λ p. hears_all p (h p) (entries_of x os)) (left_by x os)
run-as_told s k x h [] inv are = inv
run-as_told s k x h (o ∷ os) inv are =
    run-as_told s k (gives x o).kernel (λ p. hears p (h p) (entry_of x o)) os (event-stepped s k x h o inv are.0).inv are.1

pub told-answers : (s : Setting) (k : ℕ) (made : List LocalEvent) (p : Pid) → IsValid s → IsLocalRun s k (start_kernel s k) made
    → StandsAsTold (heard p (entries_of (start_kernel s k) made)) (process_of p (left_by (start_kernel s k) made))
told-answers s k made p valid are = (run-as_told s k (start_kernel s k) (λ p. NoCall) made (start-as_told s k valid) are).told p

pub answers-come : (s : Setting) (k : ℕ) (made : List LocalEvent) (o : LocalEvent) → IsValid s → IsLocalRun s k (start_kernel s k) made → IsLocalEvent s k (left_by (start_kernel s k) made) o
    → ComesAsTold (entries_of (start_kernel s k) made) (entry_of (left_by (start_kernel s k) made) o) (gives (left_by (start_kernel s k) made) o)
answers-come s k made o valid are is =
    let stepped = event-stepped s k (left_by (start_kernel s k) made) (λ p. heard p (entries_of (start_kernel s k) made)) o (run-as_told s k (start_kernel s k) (λ p. NoCall) made (start-as_told s k valid) are) is in
    record { who = stepped.who; once = stepped.once }
