-- How the process goes on whose call makes the step.
use Rattle.std.proofs.Common.{◌≡◌, ◌⊎◌, inl, inr, ℕ, ◌+◌, ◌≤◌, nat_eq, Bool, true, false, if◌then◌else◌, Option, Some, None, List, [], ◌∷◌, refl, sym, ap, ap₂, subst, ◌∙◌, arith}
use Rattle.std.specs.List.{Contains}
use Rattle.charlotte_calls.specs.declared.calls.Answer.TheVariants as answer
use Rattle.charlotte_calls.specs.declared.calls.Call.{Call}
use Rattle.charlotte_calls.specs.declared.calls.Call.TheVariants as call
use Rattle.charlotte_calls.specs.declared.calls.Cause.{Cause}
use Rattle.charlotte_calls.specs.declared.calls.ServiceStep.{ServiceStep}
use Rattle.charlotte_calls.specs.declared.calls.ServiceStep.TheVariants as step
use Rattle.charlotte_calls.specs.declared.names.EndId.{EndId}
use Rattle.charlotte_calls.specs.declared.names.Pid.{Pid}
use Rattle.charlotte_calls.specs.declared.names.Way.TheVariants as way
use Rattle.service_change.proofs.EndEq.{end_eq-refl, end_eq-same}
use Rattle.service_lawful.specs.Consistent.{IsConsistent}
use Rattle.service_step.specs.Ends.{end_eq}
use Rattle.service_step.specs.State.{State as Service}
use Rattle.service_step.specs.Steps.{IsServiceStep, step_number}
use Rattle.service_step.specs.declared.state.Place.TheVariants as place
use Rattle.run_invariant.specs.Moves.{gives}
use Rattle.end_protocol.specs.declared.kept.Kept.{Kept}
use Rattle.run_invariant.specs.Ends.{number_of, place_at}
use Rattle.run_invariant.specs.Reports.{holding_of}
use Rattle.run_invariant.specs.States.{Asked, Holding, Keeps, State}
use Rattle.run_invariant.specs.States as asked_states
use Rattle.run_invariant.specs.Asking.{IsCallOf}
use Rattle.run_invariant.specs.AtEnd.{AreSingle, Seen, held_count, is_sent, total}
use Rattle.run_invariant.specs.Changes.{IsHeld}
use Rattle.run_invariant.specs.Ledgers.{brought, how_often}
use Rattle.run_invariant.specs.Acted.{process}
use Rattle.run_invariant.specs.Invariant.{HasReceive, IsAlive, has_of, told_to}
use Rattle.run_invariant.specs.Owners.{Asks, Owner, Pends, Status, Told, destroying, given_of, seen_of, turn_of}
use Rattle.run_service_steps.proofs.Born.{born-apart, born-now, born-was}
use Rattle.run_service_steps.proofs.Custody.{IsUnborn, Takes}
use Rattle.run_service_steps.proofs.HeardSides.{unanswered-receive}
use Rattle.run_service_steps.proofs.Owning.{Cancels, Destroys, Exits, Makes, Owns, Receives, Refuses, Sends, Waits, on_of, own-quiet, same-pid}
use Rattle.run_service_steps.proofs.Seen.{IsUnsent, holding-same, out-more, seen-so, total-more, unanswered}
use Rattle.run_service_steps.proofs.Sending.{held-else, out-less, total-less, total-sent}
use Rattle.run_service_steps.proofs.Sides.{Next}
use Rattle.run_service_steps.proofs.Sides as sides
use Rattle.run_service_steps.proofs.StepFacts.{given-brought}

refused-unsent : (asked : Asked) (why : Cause) (n : ℕ) → is_sent asked (Some (answer.Refused why)) n ≡ false
refused-unsent (asked_states.Send m) why n = refl
refused-unsent _ why n = refl

-- one of two ends, or neither
among-two : (x a b : EndId) → ((x ≡ a) ⊎ (x ≡ b)) ⊎ (how_often x (a ∷ b ∷ []) ≡ 0)
among-two x a b = by (end_eq a x) refl (end_eq b x) refl
  where
    by : (c : Bool) → end_eq a x ≡ c → (d : Bool) → end_eq b x ≡ d → ((x ≡ a) ⊎ (x ≡ b)) ⊎ (how_often x (a ∷ b ∷ []) ≡ 0)
    by true first d e = inl (inl (sym (end_eq-same a x first)))
    by false first true second = inl (inr (sym (end_eq-same b x second)))
    by false first false second =
        inr (ap₂ (λ (c d : Bool). (if c then 1 else 0) + ((if d then 1 else 0) + 0)) first second)

at-most-one : (x a b : EndId) → (a ≡ b → ⊥) → how_often x (a ∷ b ∷ []) ≤ 1
at-most-one x a b apart = by (end_eq a x) refl (end_eq b x) refl
  where
    so : (c d : Bool) → end_eq a x ≡ c → end_eq b x ≡ d → how_often x (a ∷ b ∷ []) ≡ (if c then 1 else 0) + ((if d then 1 else 0) + 0)
    so c d first second = ap₂ (λ (c d : Bool). (if c then 1 else 0) + ((if d then 1 else 0) + 0)) first second

    by : (c : Bool) → end_eq a x ≡ c → (d : Bool) → end_eq b x ≡ d → how_often x (a ∷ b ∷ []) ≤ 1
    by true first true second = absurd (apart (end_eq-same a x first ∙ sym (end_eq-same b x second)))
    by true first false second = let few = so true false first second in omega arith
    by false first true second = let few = so false true first second in omega arith
    by false first false second = let few = so false false first second in omega arith

module _ (state : State) where
  abbrev pub with : Status → Owner
  with st = record { state = state; status = st }

  -- it holds the end on which it asks something
  pub held-so : (c : Call) (n : ℕ) (y : EndId) (k : Kept) → AreSingle state.places → IsHeld n y k state.places → (seen_of (with (Asks c)) y).holding ≡ Keeps k
  held-so c n y k single held =
      ap (λ (a : Seen). a.holding) (seen-so (with (Asks c)) y (unanswered state.asked)) ∙ ap (λ (m : ℕ). holding_of (place_at m state.places)) (sym (single n y k held)) ∙ ap holding_of held

  has-held : (c : Call) (n : ℕ) (y : EndId) (k : Kept) → AreSingle state.places → IsHeld n y k state.places → 1 ≤ has_of (with (Asks c)) y
  has-held c n y k single held = let one : held_count (seen_of (with (Asks c)) y).holding ≡ 1 = ap held_count (held-so c n y k single held) in omega arith

  same-end : (x y : EndId) → ◌≡◌ {A = Option EndId} (Some x) (Some y) → x ≡ y
  same-end x y e = cc

  no-end : (y : EndId) → ◌≡◌ {A = Option EndId} None (Some y) → ⊥
  no-end y e = cc

  pub has-one : (c : Call) (y : EndId) → on_of c ≡ Some y → AreSingle state.places → IsCallOf state c → 1 ≤ has_of (with (Asks c)) y
  has-one (call.Destroy x) y on single asked =
      let one : destroying y (Asks (call.Destroy x)) ≡ 1 = ap (λ (b : Bool). if b then 1 else 0) (ap (end_eq x) (sym (same-end x y on)) ∙ end_eq-refl x) in omega arith
  has-one (call.Send x bytes xs) y on single asked =
      subst (λ (z : EndId). 1 ≤ has_of (with (Asks (call.Send x bytes xs))) z) (same-end x y on) (has-held (call.Send x bytes xs) asked.number x asked.kept single asked.held)
  has-one (call.Receive x) y on single asked =
      subst (λ (z : EndId). 1 ≤ has_of (with (Asks (call.Receive x))) z) (same-end x y on) (has-held (call.Receive x) asked.number x asked.kept single asked.held)
  has-one (call.Cancel x w) y on single asked =
      subst (λ (z : EndId). 1 ≤ has_of (with (Asks (call.Cancel x w))) z) (same-end x y on) (has-held (call.Cancel x w) asked.0.number x asked.0.kept single asked.0.held)
  has-one _ y on single asked = absurd (no-end y on)

module _ (s : Service) (made : ServiceStep) (t : Service) (k : IsConsistent s) (is : IsServiceStep s made t) (i : ℕ) (state : State) (single : AreSingle state.places) (x : EndId) where
  not-step : (one other : ServiceStep) → made ≡ one → (step_number one ≡ step_number other → ⊥) → made ≡ other → ⊥
  not-step one other so apart also = apart (ap step_number (sym so ∙ also))

  -- where nothing comes and no Send was answered Ok
  module _ (c : Call) (st : Status) (unsent : IsUnsent (with state st)) (none : brought (given_of st) ≡ []) where
    plain-total : total (seen_of (with state st) x) ≡ total (seen_of (with state (Asks c)) x)
    plain-total =
        let more : total (seen_of (with state st) x) + 0 ≡ total (seen_of (with state (Asks c)) x) + how_often x (brought (given_of st)) = total-more (with state (Asks c)) st x (unanswered state.asked) unsent in
        let nothing : how_often x (brought (given_of st)) ≡ 0 = ap (how_often x) none in
        omega arith

    plain-out : (seen_of (with state st) x).out ≡ (seen_of (with state (Asks c)) x).out
    plain-out =
        let more : (seen_of (with state st) x).out + 0 ≡ (seen_of (with state (Asks c)) x).out + how_often x (brought (given_of st)) = out-more (with state (Asks c)) st x (unanswered state.asked) unsent in
        let nothing : how_often x (brought (given_of st)) ≡ 0 = ap (how_often x) none in
        omega arith

    plain-takes : (one : ServiceStep) → made ≡ one → (step_number one ≡ 1 → ⊥) → (step_number one ≡ 3 → ⊥) → (step_number one ≡ 4 → ⊥) → (step_number one ≡ 9 → ⊥)
        → destroying x st ≡ 0 → Takes s made t i (with state (Asks c)) (with state st) x
    plain-takes one so no-make no-destroy no-send no-exit quiet =
        record {
          within = λ unborn. let same = plain-total in omega arith;
          given = given-brought s made t k is (process i) x;
          makes = λ p a b also. absurd (not-step one (step.Make p a b) so no-make also);
          leaves = λ e n bytes xs also. absurd (not-step one (step.Send e n bytes xs) so no-send also);
          ends = λ also. absurd (not-step one (step.Destroy x) so no-destroy also);
          exits = λ also. not-step one (step.Exit (process i)) so no-exit also;
        }

    plain-next : Owns i made c st → (one : ServiceStep) → made ≡ one → (step_number one ≡ 5 → ⊥) → told_to x (given_of st) ≡ [] → Next s made i (with state (Asks c)) (with state st) x
    plain-next owns one so no-receive untold =
        record {
          same = refl;
          holding = holding-same (with state (Asks c)) st x (unanswered state.asked) unsent;
          out = λ made-before. let same = plain-out in omega arith;
          told = sides.Nothing untold ((own-quiet i made c st owns).given i);
          receive = unanswered-receive (with state (Asks c)) (with state st) refl;
          starts = λ also. absurd (not-step one (step.Receive x) so no-receive also);
        }

  -- both ends of a Make
  module _ (a b : EndId) (so : made ≡ step.Make (process i) a b) (thread : ℕ) (asked : state.asked ≡ asked_states.Make thread) where
    abbrev makes-st : Status
    makes-st = Told call.Make (answer.Made a b)

    step-is : IsServiceStep s (step.Make (process i) a b) t
    step-is = subst (λ (z : ServiceStep). IsServiceStep s z t) so is

    makes-unsent : IsUnsent (with state makes-st)
    makes-unsent n = ap (λ (z : Asked). is_sent z (Some (answer.Made a b)) n) asked

    makes-total : total (seen_of (with state makes-st) x) + 0 ≡ total (seen_of (with state (Asks call.Make)) x) + how_often x (a ∷ b ∷ [])
    makes-total = total-more (with state (Asks call.Make)) makes-st x (unanswered state.asked) makes-unsent

    makes-within : IsUnborn s made t x → has_of (with state makes-st) x ≤ has_of (with state (Asks call.Make)) x + gives (process i) x made
    makes-within unborn = elim (among-two x a b) as (λ z. has_of (with state makes-st) x ≤ has_of (with state (Asks call.Make)) x + gives (process i) x made) [ inl new ↦ absurd (old new) | inr none ↦ let more = makes-total in omega arith ]
      where
        old : (x ≡ a) ⊎ (x ≡ b) → ⊥
        old new =
            let differ : place.Owned (process i) ≡ place.Unmade = sym (born-now s (process i) a b t step-is x new) ∙ unborn (process i) a b so (born-was s (process i) a b t step-is x new) in
            cc

    makes-out : ((s.ends x).place ≡ place.Unmade → ⊥) → (seen_of (with state makes-st) x).out ≤ (seen_of (with state (Asks call.Make)) x).out + gives (process i) x made
    makes-out made-before = elim (among-two x a b) as (λ z. (seen_of (with state makes-st) x).out ≤ (seen_of (with state (Asks call.Make)) x).out + gives (process i) x made)
        [ inl new ↦ absurd (made-before (born-was s (process i) a b t step-is x new)) | inr none ↦ let more : (seen_of (with state makes-st) x).out + 0 ≡ (seen_of (with state (Asks call.Make)) x).out + how_often x (a ∷ b ∷ []) = out-more (with state (Asks call.Make)) makes-st x (unanswered state.asked) makes-unsent in omega arith ]

    makes-one : (p : Pid) (d e : EndId) → made ≡ step.Make p d e → has_of (with state (Asks call.Make)) x ≡ 0 → has_of (with state makes-st) x ≤ (if nat_eq p.0 i then 1 else 0)
    makes-one p d e also nothing =
        let few : how_often x (a ∷ b ∷ []) ≤ 1 = at-most-one x a b (born-apart s (process i) a b t step-is) in
        let more = makes-total in
        let same : step.Make (process i) a b ≡ step.Make p d e = sym so ∙ also in
        let its : process i ≡ p = same-maker (process i) p a b d e same in
        subst (λ (c : Bool). has_of (with state makes-st) x ≤ (if c then 1 else 0)) (sym (ap (λ (z : Pid). nat_eq z.0 i) (sym its) ∙ same-pid i)) (omega arith)
      where
        same-maker : (p q : Pid) (a b d e : EndId) → step.Make p a b ≡ step.Make q d e → p ≡ q
        same-maker p q a b d e same = cc

    makes-takes : Takes s made t i (with state (Asks call.Make)) (with state makes-st) x
    makes-takes =
        record {
          within = makes-within;
          given = given-brought s made t k is (process i) x;
          makes = λ p d e also its nothing. makes-one p d e also nothing;
          leaves = λ e n bytes xs also. absurd (not-step (step.Make (process i) a b) (step.Send e n bytes xs) so (λ e. omega arith) also);
          ends = λ also. absurd (not-step (step.Make (process i) a b) (step.Destroy x) so (λ e. omega arith) also);
          exits = λ also. not-step (step.Make (process i) a b) (step.Exit (process i)) so (λ e. omega arith) also;
        }

  pub own-takes : (c : Call) (st : Status) → Owns i made c st → IsCallOf state c → IsAlive (with state st) → Takes s made t i (with state (Asks c)) (with state st) x
  own-takes _ _ (Refuses c why so) asked alive =
      plain-takes c (Told c (answer.Refused why)) (refused-unsent state.asked why) refl (step.Refuse (process i) c why) so (λ e. omega arith) (λ e. omega arith) (λ e. omega arith) (λ e. omega arith) refl
  own-takes _ _ (Makes a b so) asked alive = makes-takes a b so asked.0 asked.1
  own-takes _ _ (Destroys y so) asked alive =
      record {
        within = λ unborn. let keep = same in omega arith;
        given = given-brought s made t k is (process i) x;
        makes = λ p a b also. absurd (not-step (step.Destroy y) (step.Make p a b) so (λ e. omega arith) also);
        leaves = λ e n bytes xs also. absurd (not-step (step.Destroy y) (step.Send e n bytes xs) so (λ e. omega arith) also);
        ends = λ also own. let keep = same in let one = its (sym so ∙ also) in omega arith;
        exits = λ also. not-step (step.Destroy y) (step.Exit (process i)) so (λ e. omega arith) also;
      }
    where
      same : total (seen_of (with state (Told (call.Destroy y) answer.Ok)) x) ≡ total (seen_of (with state (Asks (call.Destroy y))) x)
      same = plain-total (call.Destroy y) (Told (call.Destroy y) answer.Ok) (λ n. ap (λ (z : Asked). is_sent z (Some answer.Ok) n) asked) refl

      destroyed : (y z : EndId) → step.Destroy y ≡ step.Destroy z → y ≡ z
      destroyed y z e = cc

      its : step.Destroy y ≡ step.Destroy x → destroying x (Asks (call.Destroy y)) ≡ 1
      its one = ap (λ (b : Bool). if b then 1 else 0) (ap (end_eq y) (sym (destroyed y x one)) ∙ end_eq-refl y)
  own-takes _ _ (Sends e bytes xs n so) asked alive =
      record {
        within = λ unborn. let less = total-less state e bytes xs asked single x in omega arith;
        given = given-brought s made t k is (process i) x;
        makes = λ p a b also. absurd (not-step (step.Send e n bytes xs) (step.Make p a b) so (λ e. omega arith) also);
        leaves = λ f m text ys also among own. let less = total-sent state e bytes xs asked single x (subst (λ (l : List EndId). Contains l x) (sym (same-ends n m e f bytes text xs ys (sym so ∙ also))) among) in omega arith;
        ends = λ also. absurd (not-step (step.Send e n bytes xs) (step.Destroy x) so (λ e. omega arith) also);
        exits = λ also. not-step (step.Send e n bytes xs) (step.Exit (process i)) so (λ e. omega arith) also;
      }
    where
      same-ends : (n m : ℕ) (e f : EndId) (bytes text : List ℕ) (xs ys : List EndId) → step.Send e n bytes xs ≡ step.Send f m text ys → xs ≡ ys
      same-ends n m e f bytes text xs ys same = cc
  own-takes _ _ (Receives y so) asked alive =
      plain-takes (call.Receive y) (Told (call.Receive y) answer.Ok) (λ n. ap (λ (z : Asked). is_sent z (Some answer.Ok) n) asked.asked) refl (step.Receive y) so (λ e. omega arith) (λ e. omega arith) (λ e. omega arith) (λ e. omega arith) refl
  own-takes _ _ (Cancels y so) asked alive =
      plain-takes (call.Cancel y way.Inward) (Pends (call.Cancel y way.Inward)) (unanswered state.asked) refl (step.Cancel y way.Inward) so (λ e. omega arith) (λ e. omega arith) (λ e. omega arith) (λ e. omega arith) refl
  own-takes _ _ (Waits so) asked alive =
      plain-takes call.Wait (Pends call.Wait) (unanswered state.asked) refl (step.Wait (process i)) so (λ e. omega arith) (λ e. omega arith) (λ e. omega arith) (λ e. omega arith) refl
  own-takes _ _ (Exits so) asked alive = absurd (alive refl)

  -- a receive on y that is answered, seen at z
  abbrev Starts : EndId → EndId → Type 0
  Starts y z = HasReceive (turn_of (with state (Told (call.Receive y) answer.Ok))) (number_of z state.places) (seen_of (with state (Asks (call.Receive y))) z).holding

  pub own-next : (c : Call) (st : Status) → Owns i made c st → IsCallOf state c → ((e : EndId) (n : ℕ) (bytes : List ℕ) (xs : List EndId) → made ≡ step.Send e n bytes xs → e ≡ x → ⊥)
      → Next s made i (with state (Asks c)) (with state st) x
  own-next _ _ (Refuses c why so) asked other =
      plain-next c (Told c (answer.Refused why)) (refused-unsent state.asked why) refl (Refuses c why so) (step.Refuse (process i) c why) so (λ e. omega arith) refl
  own-next _ _ (Makes a b so) asked other =
      record {
        same = refl;
        holding = holding-same (with state (Asks call.Make)) (Told call.Make (answer.Made a b)) x (unanswered state.asked) (makes-unsent a b so asked.0 asked.1);
        out = makes-out a b so asked.0 asked.1;
        told = sides.Nothing refl ((own-quiet i made call.Make (Told call.Make (answer.Made a b)) (Makes a b so)).given i);
        receive = unanswered-receive (with state (Asks call.Make)) (with state (Told call.Make (answer.Made a b))) refl;
        starts = λ also. absurd (not-step (step.Make (process i) a b) (step.Receive x) so (λ e. omega arith) also);
      }
  own-next _ _ (Destroys y so) asked other =
      plain-next (call.Destroy y) (Told (call.Destroy y) answer.Ok) (λ n. ap (λ (z : Asked). is_sent z (Some answer.Ok) n) asked) refl (Destroys y so) (step.Destroy y) so (λ e. omega arith) refl
  own-next _ _ (Sends e bytes xs n so) asked other =
      record {
        same = refl;
        holding = held-else state e bytes xs asked single x (other e n bytes xs so);
        out = λ made-before. let less = out-less state e bytes xs asked single x in omega arith;
        told = sides.Nothing refl ((own-quiet i made (call.Send e bytes xs) (Told (call.Send e bytes xs) answer.Ok) (Sends e bytes xs n so)).given i);
        receive = unanswered-receive (with state (Asks (call.Send e bytes xs))) (with state (Told (call.Send e bytes xs) answer.Ok)) refl;
        starts = λ also. absurd (not-step (step.Send e n bytes xs) (step.Receive x) so (λ e. omega arith) also);
      }
  own-next _ _ (Receives y so) asked other =
      record {
        same = refl;
        holding = holding-same (with state (Asks (call.Receive y))) (Told (call.Receive y) answer.Ok) x (unanswered state.asked) unsent;
        out = λ made-before. let same = plain-out (call.Receive y) (Told (call.Receive y) answer.Ok) unsent refl in omega arith;
        told = sides.Nothing refl ((own-quiet i made (call.Receive y) (Told (call.Receive y) answer.Ok) (Receives y so)).given i);
        receive = unanswered-receive (with state (Asks (call.Receive y))) (with state (Told (call.Receive y) answer.Ok)) refl;
        starts = λ also own. subst (Starts y) (received y x (sym so ∙ also)) here;
      }
    where
      unsent : IsUnsent (with state (Told (call.Receive y) answer.Ok))
      unsent n = ap (λ (z : Asked). is_sent z (Some answer.Ok) n) asked.asked

      received : (y z : EndId) → step.Receive y ≡ step.Receive z → y ≡ z
      received y z e = cc

      here : Starts y y
      here =
          subst (λ (g : Holding). HasReceive (turn_of (with state (Told (call.Receive y) answer.Ok))) (number_of y state.places) g) (sym (held-so state (call.Receive y) asked.number y asked.kept single asked.held))
          (inr (asked.asked ∙ ap asked_states.Receive (single asked.number y asked.kept asked.held), refl))
  own-next _ _ (Cancels y so) asked other =
      plain-next (call.Cancel y way.Inward) (Pends (call.Cancel y way.Inward)) (unanswered state.asked) refl (Cancels y so) (step.Cancel y way.Inward) so (λ e. omega arith) refl
  own-next _ _ (Waits so) asked other =
      plain-next call.Wait (Pends call.Wait) (unanswered state.asked) refl (Waits so) (step.Wait (process i)) so (λ e. omega arith) refl
  own-next _ _ (Exits so) asked other =
      plain-next call.Exit (Told call.Exit answer.Ok) (λ n. ap (λ (z : Asked). is_sent z (Some answer.Ok) n) asked) refl (Exits so) (step.Exit (process i)) so (λ e. omega arith) refl
