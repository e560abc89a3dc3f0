-- What every step of the service keeps, and of whom a report is.
use Rattle.std.proofs.Common.{◌≡◌, ◌⊎◌, inl, inr, ℕ, zero, suc, ◌+◌, ◌≤◌, ◌<◌, nat_eq, Bool, true, false, true≢false, ◌&&◌, if◌then◌else◌, Option, Some, None, List, [], ◌∷◌, ◌++◌, length, append-nil, refl, sym, ap, subst, ◌∙◌, arith}
use Rattle.std.specs.List.{Contains}
use Rattle.charlotte_calls.specs.declared.calls.Report.{Report}
use Rattle.charlotte_calls.specs.declared.calls.ServiceStep.{ServiceStep}
use Rattle.charlotte_calls.specs.declared.calls.ServiceStep.TheVariants as step
use Rattle.charlotte_calls.specs.declared.names.EndId.{EndId}
use Rattle.charlotte_calls.specs.declared.names.Pid.{Pid}
use Rattle.charlotte_calls.specs.declared.names.Way.{Way}
use Rattle.charlotte_calls.specs.declared.names.Way.TheVariants as way
use Rattle.service_change.proofs.Counts.{and-true, pid_tells}
use Rattle.service_change.proofs.EndEq.{end_eq-same}
use Rattle.service_change.proofs.Facts.{waiting-is}
use Rattle.service_lawful.specs.Consistent.{IsConsistent, is_over, is_report_on, way_eq}
use Rattle.service_step.specs.Ends.{end_eq, is_living, is_unreported_inward, owner}
use Rattle.service_step.specs.Lawful.{IsHeldAt}
use Rattle.service_step.specs.State.{State as Service}
use Rattle.service_step.specs.Steps.{IsServiceStep, after_cancel}
use Rattle.service_step.specs.declared.state.Inward.TheVariants as inward
use Rattle.service_step.specs.declared.state.Message.{Message}
use Rattle.service_step.specs.declared.state.Phase.TheVariants as phase
use Rattle.service_step.specs.declared.state.Place.{Place}
use Rattle.service_step.specs.declared.state.Place.TheVariants as place
use Rattle.service_streams.proofs.Places.{oldest-first, oldest-there}
use Rattle.service_streams.specs.Streams.{cancels_send, given_by, is_done, sent_by, told_by, told_in}
use Rattle.run_invariant.specs.Moves.{brings, enclosed_in, gives, how_often}
use Rattle.run_invariant.specs.Entries.{IsUncalled}

-- ---- what stays

abbrev pub IsSameSetting : Service → Service → Type 0
IsSameSetting s t = (t.version ≡ s.version) × (t.homes ≡ s.homes)

setting-by : (s t u : Service) → t ≡ u → IsSameSetting s u → IsSameSetting s t
setting-by s t u is same = subst (IsSameSetting s) (sym is) same

pub same-setting : (s : Service) (made : ServiceStep) (t : Service) → IsServiceStep s made t → IsSameSetting s t
same-setting s (step.Make p a b) t is = setting-by s t _ is.after (refl, refl)
same-setting s (step.Refuse p c cause) t is = setting-by s t _ is.after (refl, refl)
same-setting s (step.Destroy e) t is = setting-by s t _ is.after (refl, refl)
same-setting s (step.Send e n bytes xs) t is = setting-by s t _ is.after (refl, refl)
same-setting s (step.Receive e) t is = setting-by s t _ is.after (refl, refl)
same-setting s (step.Cancel e w) t is = setting-by s t (after_cancel (owner (s.ends e).place) e w s) is.after (by (owner (s.ends e).place) w)
  where
    by : (o : Option Pid) (w : Way) → IsSameSetting s (after_cancel o e w s)
    by None w = (refl, refl)
    by (Some p) way.Outward = (refl, refl)
    by (Some p) way.Inward = (refl, refl)
same-setting s (step.Wait p) t is = setting-by s t _ is.after (refl, refl)
same-setting s (step.Report p r) t is = setting-by s t _ is.after (refl, refl)
same-setting s (step.Exit p) t is = setting-by s t _ is.after.after (refl, refl)
same-setting s (step.Match e n) t is = setting-by s t _ is.after (refl, refl)
same-setting s (step.Take e n p late) t is = setting-by s t _ is.after (refl, refl)
same-setting s (step.Complete e n) t is = setting-by s t _ is.after (refl, refl)
same-setting s (step.Withdraw e) t is = setting-by s t _ is.after (refl, refl)
same-setting s (step.Free e) t is = setting-by s t _ is.after (refl, refl)
same-setting s (step.Notice e dead) t is = setting-by s t _ is.after (refl, refl)
same-setting s (step.Back e n dead) t is = setting-by s t _ is.after (refl, refl)

-- the owner of an end is a process
pub owner-below : (s : Service) (x : EndId) (p : Pid) → IsConsistent s → (s.ends x).place ≡ place.Owned p → p.0 < length s.homes
owner-below s x p k own = by (nat_ends p.0 (length s.homes))
  where
    nat_ends : (a b : ℕ) → (a < b) ⊎ (b ≤ a)
    nat_ends a zero = inr (omega arith)
    nat_ends zero (suc b) = inl (omega arith)
    nat_ends (suc a) (suc b) = elim (nat_ends a b) [ inl l ↦ inl (omega arith) | inr m ↦ inr (omega arith) ]

    alive : (at : Place) → at ≡ place.Owned p → (s.ends x).place ≡ at → ((s.process p.0).phase ≡ phase.Ended → ⊥)
    alive at e at-is = subst (λ (z : Place). IsHeldAt s x z) own (k.kept.held.held x)

    by : (p.0 < length s.homes) ⊎ (length s.homes ≤ p.0) → p.0 < length s.homes
    by (inl below) = below
    by (inr beyond) = absurd (alive _ own refl (ap (λ z. z.phase) (k.processes.others p beyond)))

-- ---- steps that are no process's call

pub uncalled-keeps : (made : ServiceStep) → IsUncalled made → (e : EndId) → cancels_send e made ≡ false
uncalled-keeps (step.Cancel f w) is e = absurd is
uncalled-keeps _ is e = refl

pub uncalled-sends : (made : ServiceStep) → IsUncalled made → (e : EndId) → sent_by e made ≡ []
uncalled-sends (step.Send f n bytes xs) is e = absurd is
uncalled-sends _ is e = refl

-- ---- reports

abbrev in_report : Report → List Message
in_report r = record { bytes = r.bytes; carried = r.enclosed } ∷ []

pub told-one : (x : EndId) (r : Report) → (told_by x r ≡ []) ⊎ ((r.on ≡ x) × (r.way ≡ way.Inward))
told-one x r = by (is_report_on x way.Inward r) (is_done r.outcome) refl
  where
    inward-is : (w : Way) → way_eq way.Inward w ≡ true → w ≡ way.Inward
    inward-is way.Inward is = refl
    inward-is way.Outward is = absurd (true≢false (sym is))

    by : (b c : Bool) → is_report_on x way.Inward r ≡ b → ((if b && c then in_report r else []) ≡ []) ⊎ ((r.on ≡ x) × (r.way ≡ way.Inward))
    by true c is =
        let both : (end_eq x r.on ≡ true) × (way_eq way.Inward r.way ≡ true) = and-true _ _ is in
        inr (sym (end_eq-same x r.on both.0), inward-is r.way both.1)
    by false c is = inl refl

pub told-all : (x : EndId) (r : Report) → told_in x (r ∷ []) ≡ told_by x r
told-all x r = append-nil (told_by x r)

module _ (s : Service) (k : IsConsistent s) (p : Pid) (r : Report) (t : Service) (is : IsServiceStep s (step.Report p r) t) where
  pub stood : Contains (s.process p.0).reports r
  stood = oldest-there (s.process p.0).reports r is.allowed.1

  pub waited : (s.process p.0).phase ≡ phase.Waiting
  waited = waiting-is (s.process p.0).phase is.allowed.0

  -- it is of a receive that was over
  pub was-over : r.way ≡ way.Inward → (s.ends r.on).inward ≡ inward.Idle → ⊥
  was-over in_way idle =
      true≢false (sym (subst (λ (w : Way). is_over w (s.ends r.on) ≡ true) in_way (k.reported.over p r stood)) ∙ ap is_unreported_inward idle)

  -- and of an end of its process
  pub its-own : (at : Place) → (s.ends r.on).place ≡ at → is_living at ≡ true → at ≡ place.Owned p
  its-own at is_at lives = sym is_at ∙ k.reported.own p r stood (ap is_living is_at ∙ lives)

  pub given-few : (q : Pid) (x : EndId) → gives q x (step.Report p r) ≤ brings s q x
  given-few q x = by (pid_tells p q)
    where
      append-often : (xs ys : List EndId) → how_often x (xs ++ ys) ≡ how_often x xs + how_often x ys
      append-often [] ys = omega arith
      append-often (y ∷ xs) ys = let more = append-often xs ys in omega arith

      rests : (later : List Report) × ((s.process p.0).reports ≡ r ∷ later)
      rests = oldest-first (s.process p.0).reports r is.allowed.1

      enough : how_often x (enclosed_in (r ∷ [])) ≤ how_often x (enclosed_in (r ∷ rests.0))
      enough =
          let one : how_often x (enclosed_in (r ∷ [])) ≡ how_often x r.enclosed = ap (how_often x) (append-nil r.enclosed) in
          let all : how_often x (enclosed_in (r ∷ rests.0)) ≡ how_often x r.enclosed + how_often x (enclosed_in rests.0) = append-often r.enclosed (enclosed_in rests.0) in
          omega arith

      by : ((nat_eq p.0 q.0 ≡ true) × (p ≡ q)) ⊎ ((nat_eq p.0 q.0 ≡ false) × (p.0 ≡ q.0 → ⊥)) → gives q x (step.Report p r) ≤ brings s q x
      by (inl same) =
          subst (λ (b : Bool). how_often x (enclosed_in (if b then r ∷ [] else [])) ≤ brings s q x) (sym same.0)
          (subst (λ (z : Pid). how_often x (enclosed_in (r ∷ [])) ≤ brings s z x) same.1
          (subst (λ (l : List Report). how_often x (enclosed_in (r ∷ [])) ≤ how_often x (enclosed_in l)) (sym rests.1) enough))
      by (inr other) = subst (λ (b : Bool). how_often x (enclosed_in (if b then r ∷ [] else [])) ≤ brings s q x) (sym other.0) (omega arith)

-- each step gives of what stands
pub given-brought : (s : Service) (made : ServiceStep) (t : Service) → IsConsistent s → IsServiceStep s made t → (q : Pid) (x : EndId) → gives q x made ≤ brings s q x
given-brought s (step.Report p r) t k is q x = given-few s k p r t is q x
given-brought s _ t k is q x = omega arith

-- who is told of a message owned its end if anyone did, and its receive was over
pub told-owner : (s : Service) (made : ServiceStep) (t : Service) (x : EndId) → IsConsistent s → IsServiceStep s made t
    → (told_in x (given_by made) ≡ []) ⊎ ((p : Pid) × (r : Report) × (made ≡ step.Report p r) × (r.on ≡ x) × (r.way ≡ way.Inward))
told-owner s (step.Report p r) t x k is = by (told-one x r)
  where
    by : (told_by x r ≡ []) ⊎ ((r.on ≡ x) × (r.way ≡ way.Inward)) → (told_in x (r ∷ []) ≡ []) ⊎ ((q : Pid) × (l : Report) × (step.Report p r ≡ step.Report q l) × (l.on ≡ x) × (l.way ≡ way.Inward))
    by (inl none) = inl (told-all x r ∙ none)
    by (inr its) = inr (p, r, refl, its.0, its.1)
told-owner s _ t x k is = inl refl

-- where an end stays, no more reports bring it
pub stays-less : (s t : Service) (made : ServiceStep) (q : Pid) (x : EndId) → (brings t q x + gives q x made ≡ brings s q x) ⊎ ((made ≡ step.Exit q) × (brings t q x ≡ 0)) → brings t q x + gives q x made ≤ brings s q x
stays-less s t made q x (inl same) = omega (arith, same)
stays-less s t made q x (inr exits) =
    let none : gives q x made ≡ 0 = ap (gives q x) exits.0 in
    let gone = exits.1 in
    omega (arith, none, gone)
