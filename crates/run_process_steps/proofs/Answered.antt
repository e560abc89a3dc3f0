-- What a process was told of an end that it owns.
use Rattle.std.proofs.Common.{◌≡◌, ◌⊎◌, ℕ, Bool, true, false, ◌&&◌, if◌then◌else◌, List, [], ◌∷◌, Option, Some, None, refl, sym, ap, subst, ◌∙◌, rules}
use Rattle.charlotte_calls.specs.EndEq.{end_eq}
use Rattle.charlotte_calls.specs.Names.{opposite}
use Rattle.charlotte_calls.specs.declared.calls.Answer.{Answer}
use Rattle.charlotte_calls.specs.declared.calls.Answer.TheVariants as answer
use Rattle.charlotte_calls.specs.declared.calls.Call.{Call}
use Rattle.charlotte_calls.specs.declared.calls.Call.TheVariants as call
use Rattle.charlotte_calls.specs.declared.calls.Cause.TheVariants as cause
use Rattle.charlotte_calls.specs.declared.calls.Report.{Report}
use Rattle.charlotte_calls.specs.declared.names.EndId.{EndId}
use Rattle.charlotte_calls.specs.declared.names.Outcome.{Outcome}
use Rattle.charlotte_calls.specs.declared.names.Outcome.TheVariants as outcome
use Rattle.charlotte_calls.specs.declared.names.Way.{Way}
use Rattle.charlotte_calls.specs.declared.names.Way.TheVariants as way
use Rattle.service_step.specs.State.{State as Service}
use Rattle.service_step.specs.declared.state.Inward.TheVariants as inward
use Rattle.service_step.specs.declared.state.Message.{Message as ToldMessage}
use Rattle.service_streams.specs.Streams.{is_done, told_by}
use Rattle.service_lawful.specs.Consistent.{way_eq}
use Rattle.run_invariant.specs.Deaths.{Cancels, IsGone, IsOn, Receives, Sends}
use Rattle.end_protocol.specs.declared.kept.Kept.{Kept}
use Rattle.process_run.specs.States.{Asked, Keeps, Place, State}
use Rattle.process_run.specs.States as process
use Rattle.process_run.specs.Ends.{place_at}
use Rattle.run_invariant.specs.Asking.{IsCallOf}
use Rattle.run_invariant.specs.Changes.{IsHeld}
use Rattle.run_invariant.specs.Telling.{Brings, IsTold, Turn}
use Rattle.run_invariant.specs.Invariant.{IsReportTrue, IsToldTrue}
use Rattle.run_invariant.specs.Owners.{Asks, IsAskedFor, Over, Pends, Runs, Status, Told, given_of}

-- ---- answers

none_some : (a : Answer) → ◌≡◌ {A = Option Answer} None (Some a) → ⊥
none_some a e = cc

same_answer : (a b : Answer) → ◌≡◌ {A = Option Answer} (Some a) (Some b) → a ≡ b
same_answer a b e = cc

-- the call to which this is the answer
pub record AnswerOf (s : Service) (i : ℕ) (t : State) (a : Answer) : Type 0 where
  pub to : Call
  pub called : IsCallOf t to
  pub true_told : IsToldTrue s i (Told to a)

pub answer_of : (s : Service) (i : ℕ) (t : State) (a : Answer) (status : Status) → given_of status ≡ Some a → IsAskedFor t status → IsToldTrue s i status → AnswerOf s i t a
answer_of s i t a Runs e asked is = absurd (none_some a e)
answer_of s i t a (Asks c) e asked is = absurd (none_some a e)
answer_of s i t a (Pends c) e asked is = absurd (none_some a e)
answer_of s i t a Over e asked is = absurd (none_some a e)
answer_of s i t a (Told c b) e asked is =
    record { to = c; called = asked; true_told = subst (λ (d : Answer). IsToldTrue s i (Told c d)) (same_answer b a e) is }

-- ---- calls on an end

-- a call on the end of this number was asked
abbrev pub AsksOn : ℕ → Asked → Type 0
AsksOn n (process.Send m) = m ≡ n
AsksOn n (process.Receive m) = m ≡ n
AsksOn n (process.Cancel m) = m ≡ n
AsksOn n asked = ⊥

same_held : (n m : ℕ) (x y : EndId) (k l : Kept) (ps : List Place) → m ≡ n → IsHeld n x k ps → IsHeld m y l ps → y ≡ x
same_held n m x y k l ps e here there =
    let at : place_at n ps ≡ Some (record { end = y; holding = Keeps l }) = ap (λ (j : ℕ). place_at j ps) (sym e) ∙ there in
    let same : ◌≡◌ {A = Option Place} (Some (record { end = y; holding = Keeps l })) (Some (record { end = x; holding = Keeps k })) = sym at ∙ here in
    ap (λ (p : Place). p.end) (same_some (record { end = y; holding = Keeps l }) (record { end = x; holding = Keeps k }) same)
  where
    same_some : (p q : Place) → ◌≡◌ {A = Option Place} (Some p) (Some q) → p ≡ q
    same_some p q e = cc

module _ (t : State) (n : ℕ) (x : EndId) (k : Kept) (here : IsHeld n x k t.places) where
  none_asked : (a : Asked) → t.asked ≡ a → AsksOn n t.asked → AsksOn n a
  none_asked a e on = subst (λ (b : Asked). AsksOn n b) e on

  -- the call is on that end
  pub is_on : (c : Call) → IsCallOf t c → AsksOn n t.asked → IsOn x c
  is_on call.Make called on = absurd (none_asked (process.Make called.0) called.1 on)
  is_on (call.Print bytes) called on = absurd (none_asked (process.Print called.0) called.1 on)
  is_on (call.Destroy y) called on = absurd (none_asked process.Destroy called on)
  is_on call.Wait called on = absurd (none_asked process.Wait called on)
  is_on call.Exit called on = absurd (none_asked process.Exit called on)
  is_on (call.Send y bytes xs) called on =
      subst (λ (z : EndId). IsOn z (call.Send y bytes xs)) (same_held n called.number x y k called.kept t.places (none_asked (process.Send called.number) called.asked on) here called.held) (Sends bytes xs)
  is_on (call.Receive y) called on =
      subst (λ (z : EndId). IsOn z (call.Receive y)) (same_held n called.number x y k called.kept t.places (none_asked (process.Receive called.number) called.asked on) here called.held) Receives
  is_on (call.Cancel y w) called on =
      subst (λ (z : EndId). IsOn z (call.Cancel y w)) (same_held n called.0.number x y k called.0.kept t.places (none_asked (process.Cancel called.0.number) called.0.asked on) here called.0.held) (Cancels w)

  -- no receive is started on an end on which a Cancel was answered Ok
  pub cancel_over : (s : Service) (i : ℕ) (c : Call) → IsCallOf t c → t.asked ≡ process.Cancel n → IsToldTrue s i (Told c answer.Ok) → (s.ends x).inward ≡ inward.Idle
  cancel_over s i (call.Cancel y w) called asked is =
      subst (λ (z : EndId). (s.ends z).inward ≡ inward.Idle)
      (same_held n called.0.number x y k called.0.kept t.places (none_asked (process.Cancel called.0.number) called.0.asked (subst (λ (a : Asked). AsksOn n a) (sym asked) refl)) here called.0.held) is
  cancel_over s i call.Make called asked is = let no : process.Make called.0 ≡ process.Cancel n = sym called.1 ∙ asked in absurd cc
  cancel_over s i (call.Print bytes) called asked is = let no : process.Print called.0 ≡ process.Cancel n = sym called.1 ∙ asked in absurd cc
  cancel_over s i (call.Destroy y) called asked is = let no : process.Destroy ≡ process.Cancel n = sym called ∙ asked in absurd cc
  cancel_over s i call.Wait called asked is = let no : process.Wait ≡ process.Cancel n = sym called ∙ asked in absurd cc
  cancel_over s i call.Exit called asked is = let no : process.Exit ≡ process.Cancel n = sym called ∙ asked in absurd cc
  cancel_over s i (call.Send y bytes xs) called asked is = let no : process.Send called.number ≡ process.Cancel n = sym called.asked ∙ asked in absurd cc
  cancel_over s i (call.Receive y) called asked is = let no : process.Receive called.number ≡ process.Cancel n = sym called.asked ∙ asked in absurd cc

-- what is true of an answer Dead, to a call on x
pub dead_so : (s : Service) (i : ℕ) (x : EndId) (c : Call) → IsOn x c → IsToldTrue s i (Told c (answer.Refused cause.Dead)) → IsGone s x ⊎ IsGone s (opposite x)
dead_so s i x c on is = is x on

-- ---- reports

pub reported_so : (s : Service) (i : ℕ) (t : State) (r : Report) → AnswerOf s i t (answer.Reported r) → (t.asked ≡ process.Wait) × IsReportTrue s i r
reported_so s i t r is = (subst (λ (c : Call). IsCallOf t c) is.true_told.0 is.called, is.true_told.1)

same_end : (x y : EndId) → end_eq x y ≡ true → x ≡ y
unfolding end_eq
same_end x y e = search rules

end_eq_self : (x : EndId) → end_eq x x ≡ true
unfolding end_eq
end_eq_self x = search rules

abbrev pub message : Report → ToldMessage
message r = record { bytes = r.bytes; carried = r.enclosed }

module _ (x : EndId) (r : Report) where
  abbrev told_if : Bool → Bool → Bool → List ToldMessage
  told_if a b c = if (a && b) && c then message r ∷ [] else []

  -- a report of a send, or of a death, tells of no message
  pub outward_silent : r.way ≡ way.Outward → told_by x r ≡ []
  outward_silent e = ap (λ (w : Way). told_if (end_eq x r.on) (way_eq way.Inward w) (is_done r.outcome)) e ∙ by (end_eq x r.on)
    where
      by : (a : Bool) → told_if a false (is_done r.outcome) ≡ []
      by true = refl
      by false = refl

  pub death_silent : r.outcome ≡ outcome.Destroyed → told_by x r ≡ []
  death_silent e = ap (λ (o : Outcome). told_if (end_eq x r.on) (way_eq way.Inward r.way) (is_done o)) e ∙ by (end_eq x r.on) (way_eq way.Inward r.way)
    where
      by : (a b : Bool) → told_if a b false ≡ []
      by true true = refl
      by true false = refl
      by false b = refl

  pub message_told : r.on ≡ x → r.way ≡ way.Inward → r.outcome ≡ outcome.Done → told_by x r ≡ message r ∷ []
  message_told on way_is out =
      ap (λ (a : Bool). told_if a (way_eq way.Inward r.way) (is_done r.outcome)) (ap (λ (y : EndId). end_eq x y) on ∙ end_eq_self x)
      ∙ ap (λ (w : Way). told_if true (way_eq way.Inward w) (is_done r.outcome)) way_is ∙ ap (λ (o : Outcome). told_if true true (is_done o)) out

  -- a message is brought, or none is told of
  pub told_or_brings : (t : Turn) → IsTold t process.Wait (answer.Reported r) → (Brings t x r.bytes r.enclosed → ⊥) → told_by x r ≡ []
  told_or_brings t is none = by_end (end_eq x r.on) refl r.way refl r.outcome refl
    where
      by_end : (a : Bool) → end_eq x r.on ≡ a → (w : Way) → r.way ≡ w → (o : Outcome) → r.outcome ≡ o → told_by x r ≡ []
      by_end a e way.Outward way_is o out = outward_silent way_is
      by_end a e way.Inward way_is outcome.Destroyed out = death_silent out
      by_end true e way.Inward way_is outcome.Done out =
          absurd (none (record { report = r; told = (is, sym (same_end x r.on e)); way = way_is; outcome = out; bytes_are = refl; ends_are = refl }))
      by_end false e way.Inward way_is outcome.Done out = ap (λ (a : Bool). told_if a (way_eq way.Inward r.way) (is_done r.outcome)) e
