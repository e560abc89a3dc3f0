-- An entry keeps the invariant: of a packet that is taken, or of a call.
use Rattle.std.proofs.Common.{arith, ◌≡◌, ◌⊎◌, inl, inr, ⊎_elim, ℕ, suc, ◌+◌, ◌*◌, ◌≤◌, ◌<◌, nat_eq, leb, Bool, true, false, if◌then◌else◌, List, [], ◌∷◌, ◌++◌, length, Option, Some, None, refl, sym, ap, subst, ◌∙◌, eq-eqb, eqb-true}
use Rattle.std.specs.List.{AllByRecursion}
use Rattle.std.proofs.lemmas.Bool.Decides.{leb_tells}
use Rattle.charlotte_calls.specs.declared.calls.Answer.{Answer}
use Rattle.charlotte_calls.specs.declared.calls.Answer.TheVariants as answer
use Rattle.charlotte_calls.specs.declared.calls.Call.{Call}
use Rattle.charlotte_calls.specs.declared.calls.Call.TheVariants as call
use Rattle.charlotte_calls.specs.declared.calls.ServiceStep.{ServiceStep}
use Rattle.charlotte_calls.specs.declared.calls.ServiceStep.TheVariants as step
use Rattle.charlotte_calls.specs.declared.names.EndId.{EndId}
use Rattle.charlotte_calls.specs.declared.names.Pid.{Pid}
use Rattle.charlotte_calls.specs.declared.names.Way.TheVariants.{Inward, Outward}
use Rattle.charlotte_calls.specs.declared.program.Next.{Next}
use Rattle.charlotte_calls.specs.declared.program.Next.TheVariants as next
use Rattle.charlotte_calls.specs.declared.setting.Setting.{Setting}
use Rattle.kernel_entries.specs.declared.entry.Placed.{Placed}
use Rattle.service_step.specs.Run.{IsRunFrom, state_after}
use Rattle.service_step.specs.State.{State as Service}
use Rattle.service_step.specs.Steps.{IsServiceStep}
use Rattle.service_streams.specs.Streams.{steps_in}
use Rattle.run_process_steps.specs.Told.{Heard, call_of, hears_by, heard_of, own_told}
use Rattle.run_process_steps.specs.Entries.{AreOfCall, Granted, IsEntry, IsOwn, IsToldBy, IsUncalled, Refused}
use Rattle.end_protocol.specs.Deeds.{Deed}
use Rattle.run_process_steps.specs.Runs.{step as step_of}
use Rattle.run_process_steps.specs.Acting.{Acting, Fleet, called, hears_entry}
use Rattle.run_process_steps.specs.Acted.{home_of, process}
use Rattle.run_process_steps.proofs.Fleets.{asked_by, heard-here, heard-not, set-other, set-self}
use Rattle.run_process_steps.specs.Hearing.{all_hear_steps, hears_step, hears_steps, owner_told, owners, told_of, with_owner}
use Rattle.run_process_steps.specs.Invariant.{Owners, Stands}
use Rattle.run_process_steps.specs.Owners.{Asks, Over, Owner, Pends, Runs, Status, Told, owner_of, status_of}
use Rattle.run_process_steps.specs.Steps.{HasBytes, HasRoom, IsFirst, IsMine}
use Rattle.followed_links.proofs.Hearing.{hears-status, runs-stays, status-told}
use Rattle.followed_links.proofs.Entries.{StepsKeep, first-silent, more-entries, uncalled-all, unheard}

-- ---- what is heard of an entry

-- with these steps heard
abbrev hearing : ℕ → List ServiceStep → Owner → Owner
hearing i steps o = record o { status = hears_steps i steps o.status }

module _ (g : Setting) (e : Placed) (f : Fleet) (i : ℕ) where
  abbrev hears : Acting
  hears = hears_entry (home_of g) e f i

  -- at its kernel, without a call of it
  heard-uncalled : call_of (process i) e.entry.what ≡ None → nat_eq (home_of g i) e.kernel ≡ true → owner_of hears ≡ hearing i e.entry.steps (owner_of (f i))
  heard-uncalled none here =
      ap owner_of (heard-here (home_of g) e f i here)
      ∙ ap (λ (h : Heard). record { state = (f i).replayed.state; status = status_of (f i).replayed.last h }) (ap (λ (o : Option Call). hears_by (process i) (f i).replayed.heard o e.entry.steps) none)
      ∙ ap (λ (status : Status). record { state = (f i).replayed.state; status = status }) (sym (hears-status i e.entry.steps (f i).replayed.last (f i).replayed.heard))

  -- with a call of it
  heard-called : (c d : Call) → call_of (process i) e.entry.what ≡ Some c → nat_eq (home_of g i) e.kernel ≡ true → (f i).replayed.last ≡ Some (next.Ask d)
      → owner_of hears ≡ record { state = (f i).replayed.state; status = told_of c (own_told (process i) c e.entry.steps) }
  heard-called c d is here asks =
      ap owner_of (heard-here (home_of g) e f i here)
      ∙ ap (λ (o : Option Call). record { state = (f i).replayed.state; status = status_of (f i).replayed.last (hears_by (process i) (f i).replayed.heard o e.entry.steps) }) is
      ∙ ap (λ (l : Option Next). record { state = (f i).replayed.state; status = status_of l (heard_of c (own_told (process i) c e.entry.steps)) }) asks
      ∙ ap (λ (status : Status). record { state = (f i).replayed.state; status = status }) (status-told c (own_told (process i) c e.entry.steps) d)

  -- at another kernel
  heard-away : nat_eq (home_of g i) e.kernel ≡ false → owner_of hears ≡ owner_of (f i)
  heard-away away = ap owner_of (heard-not (home_of g) e f i away)

-- ---- the steps of a call

-- they begin with its own, and what it is told at last is what that and the others tell
pub record Begins (i : ℕ) (c : Call) (steps : List ServiceStep) : Type 0 where
  pub made : ServiceStep
  pub more : List ServiceStep
  pub is : steps ≡ made ∷ more
  pub first : IsFirst i c made
  pub uncalled : AllByRecursion IsUncalled more
  pub tells : hears_steps i more (told_of c (own_told (process i) c (made ∷ []))) ≡ told_of c (own_told (process i) c (made ∷ more))

-- a print has none
abbrev pub IsPrint : Call → List ServiceStep → Type 0
IsPrint c steps = (bytes : List ℕ) × (c ≡ call.Print bytes) × (steps ≡ [])

module _ (i : ℕ) where
  one-step : (c : Call) (made : ServiceStep) (own more steps : List ServiceStep) → own ≡ made ∷ [] → more ≡ [] → steps ≡ own ++ more → IsOwn (process i) c (made ∷ []) → Begins i c steps
  one-step c made own more steps own_is more_is is own_step =
      record {
        made = made;
        more = [];
        is = is ∙ ap (λ (l : List ServiceStep). l ++ more) own_is ∙ ap (λ (l : List ServiceStep). made ∷ l) more_is;
        first = inr own_step;
        uncalled = tt;
        tells = refl;
      }

  -- with one that comes of it
  two-steps : (c : Call) (made then_made : ServiceStep) (own more steps : List ServiceStep) → own ≡ made ∷ [] → more ≡ then_made ∷ [] → steps ≡ own ++ more → IsOwn (process i) c (made ∷ []) → IsUncalled then_made
      → hears_step i then_made (told_of c (own_told (process i) c (made ∷ []))) ≡ told_of c (own_told (process i) c (made ∷ then_made ∷ [])) → Begins i c steps
  two-steps c made then_made own more steps own_is more_is is own_step uncalled tells =
      record {
        made = made;
        more = then_made ∷ [];
        is = is ∙ ap (λ (l : List ServiceStep). l ++ more) own_is ∙ ap (λ (l : List ServiceStep). made ∷ l) more_is;
        first = inr own_step;
        uncalled = (uncalled, tt);
        tells = tells;
      }

  granted : (c : Call) (own more steps : List ServiceStep) → steps ≡ own ++ more → IsOwn (process i) c own → IsToldBy (process i) c more → IsPrint c steps ⊎ Begins i c steps
  granted call.Make own more steps is at none = inr (one-step call.Make (step.Make (process i) at.0 at.1) own more steps at.2 none is (at.0, at.1, refl))
  granted (call.Destroy on) own more steps is at none = inr (one-step (call.Destroy on) (step.Destroy on) own more steps at none is refl)
  granted (call.Send on bytes xs) own more steps is at (inl none) = inr (one-step (call.Send on bytes xs) (step.Send on at.0 bytes xs) own more steps at.1 none is (at.0, refl))
  granted (call.Send on bytes xs) own more steps is at (inr matched) =
      inr (two-steps (call.Send on bytes xs) (step.Send on at.0 bytes xs) (step.Match on matched.0) own more steps at.1 matched.1 is (at.0, refl) tt refl)
  granted (call.Receive on) own more steps is at none = inr (one-step (call.Receive on) (step.Receive on) own more steps at none is refl)
  granted (call.Cancel on Inward) own more steps is at none = inr (one-step (call.Cancel on Inward) (step.Cancel on Inward) own more steps at none is refl)
  granted (call.Cancel on Outward) own more steps is at none = inr (one-step (call.Cancel on Outward) (step.Cancel on Outward) own more steps at none is refl)
  granted call.Wait own more steps is at (inl none) = inr (one-step call.Wait (step.Wait (process i)) own more steps at none is refl)
  granted call.Wait own more steps is at (inr told) =
      inr (two-steps call.Wait (step.Wait (process i)) (step.Report (process i) told.0) own more steps at told.1 is refl tt refl)
  granted (call.Print bytes) own more steps is at none = inl (bytes, refl, is ∙ ap (λ (l : List ServiceStep). l ++ more) at ∙ none)
  granted call.Exit own more steps is at none = inr (one-step call.Exit (step.Exit (process i)) own more steps at none is refl)

  pub steps-begin : (c : Call) (steps : List ServiceStep) → AreOfCall (process i) c steps → IsPrint c steps ⊎ Begins i c steps
  steps-begin c steps (Refused cause is) =
      inr (record { made = step.Refuse (process i) c cause; more = []; is = is; first = inl (cause, refl); uncalled = tt; tells = refl })
  steps-begin c steps (Granted own more is at told) = granted c own more steps is at told

-- ---- all processes

-- a process beyond these made no step
abbrev pub AreIdle : ℕ → Fleet → Type 0
AreIdle count f = (i : ℕ) → count ≤ i → (f i).replayed.last ≡ None

pub same-owners : (os qs : Owners) → ((i : ℕ) → os i ≡ qs i) → os ≡ qs
same-owners os qs each = λ j i. each i j

pub below-or-above : (count i : ℕ) → (i < count) ⊎ (count ≤ i)
below-or-above count i = by (leb_tells count i)
  where
    by : ((leb count i ≡ true) × (count ≤ i)) ⊎ ((leb count i ≡ false) × (i < count)) → (i < count) ⊎ (count ≤ i)
    by (inl above) = inr above.1
    by (inr below) = inl below.1

pub room-of : (version count n : ℕ) (s : Service) (os : Owners) (deeds : EndId → List Deed) → Stands version count s n os deeds → HasRoom count n os
room-of version count n s os deeds is i below = let f = (is.owners.each i below).few in omega (arith, f)

module _ (g : Setting) (version count : ℕ) (keep : StepsKeep version count) (s : Service) (n : ℕ) (e : Placed) (part : List (ServiceStep × Service)) (entry : IsEntry g s e part) where
  abbrev t : Service
  t = state_after s part

  -- at another kernel nothing is heard
  still : (i : ℕ) → nat_eq (home_of g i) e.kernel ≡ false → (t.process i).phase ≡ (s.process i).phase
  still i away = entry.others (process i) (λ same. let no : true ≡ false = sym (eq-eqb (home_of g i) e.kernel same) ∙ away in cc)

  away-stays : (os qs : Owners) (deeds : EndId → List Deed) (steps : List ServiceStep) → Stands version count s n os deeds → Stands version count t (suc n) qs deeds
      → (i : ℕ) → ((count ≤ i) → (os i).status ≡ Runs) → (qs i).status ≡ hears_steps i steps (os i).status → nat_eq (home_of g i) e.kernel ≡ false → hears_steps i steps (os i).status ≡ (os i).status
  away-stays os qs deeds steps before after i idle is away =
      ⊎_elim
      (λ (below : i < count). unheard version count s t n os qs deeds steps before after i below is (still i away))
      (λ (above : count ≤ i). ap (hears_steps i steps) (idle above) ∙ runs-stays i steps ∙ sym (idle above))
      (below-or-above count i)

  -- a packet that is taken
  module _ (f : Fleet) (deeds : EndId → List Deed) (is : Stands version count s n (owners f) deeds) (idle : AreIdle count f) (none : (p : Pid) → call_of p e.entry.what ≡ None) (uncalled : AllByRecursion IsUncalled e.entry.steps) where
    abbrev qs : Owners
    qs = all_hear_steps (steps_in part) (owners f)

    after : Stands version count t (suc n) qs deeds
    after =
        uncalled-all version count keep part s n (owners f) deeds (more-entries version count n s (owners f) deeds is) (room-of version count n s (owners f) deeds is) entry.run
        (subst (λ (l : List ServiceStep). AllByRecursion IsUncalled l) (sym entry.steps) uncalled)

    one : (i : ℕ) → qs i ≡ owner_of (hears_entry (home_of g) e f i)
    one i = by (nat_eq (home_of g i) e.kernel) refl
      where
        by : (b : Bool) → nat_eq (home_of g i) e.kernel ≡ b → qs i ≡ owner_of (hears_entry (home_of g) e f i)
        by true here = ap (λ (l : List ServiceStep). hearing i l (owner_of (f i))) entry.steps ∙ sym (heard-uncalled g e f i (none (process i)) here)
        by false away =
            ap (λ (status : Status). record { state = (f i).replayed.state; status = status })
            (away-stays (owners f) qs deeds (steps_in part) is after i (λ above. ap (λ (l : Option Next). status_of l (f i).replayed.heard) (idle i above)) refl away)
            ∙ sym (heard-away g e f i away)

    pub taken-owners : all_hear_steps (steps_in part) (owners f) ≡ owners (hears_entry (home_of g) e f)
    taken-owners = same-owners qs (owners (hears_entry (home_of g) e f)) one

    pub taking-stands : Stands version count t (suc n) (owners (hears_entry (home_of g) e f)) deeds
    taking-stands = subst (λ (os : Owners). Stands version count t (suc n) os deeds) taken-owners after

  -- ---- a call

  -- the process asks it in its step
  module _ (f : Fleet) (deeds : EndId → List Deed) (p : Pid) (c : Call) (given : Option Answer) (made_next : (step_of (f p.0).replayed.state given).0 ≡ next.Ask c) (below : p.0 < count)
      (is_called : call_of p e.entry.what ≡ Some c) (others : (i : ℕ) → nat_eq p.0 i ≡ false → call_of (process i) e.entry.what ≡ None) (here : nat_eq (home_of g p.0) e.kernel ≡ true) (idle : AreIdle count f)
      (mine : IsMine s p.0 c) (bytes : HasBytes c) where
    abbrev asker : Owner
    asker = record { state = (step_of (f p.0).replayed.state given).1; status = Asks c }

    abbrev os : Owners
    os = with_owner p.0 asker (owners f)

    abbrev to : Fleet
    to = hears_entry (home_of g) e (asked_by p given f)

    at-p : (x : Owner) (rs : Owners) → with_owner p.0 x rs p.0 ≡ x
    at-p x rs = ap (λ (b : Bool). if b then x else rs p.0) (eq-eqb p.0 p.0 refl)

    at-other : (x : Owner) (rs : Owners) (i : ℕ) → nat_eq p.0 i ≡ false → with_owner p.0 x rs i ≡ rs i
    at-other x rs i other = ap (λ (b : Bool). if b then x else rs i) other

    module _ (is : Stands version count s n os deeds) where
      -- it is told so, and others hear the steps behind the first
      told-p : owner_of (to p.0) ≡ record asker { status = told_of c (own_told p c e.entry.steps) }
      told-p =
          heard-called g e (asked_by p given f) p.0 c c is_called here
          (ap (λ (z : Acting). z.replayed.last) (set-self p (called given (f p.0)) f) ∙ ap Some made_next)
          ∙ ap (λ (z : Acting). record { state = z.replayed.state; status = told_of c (own_told p c e.entry.steps) }) (set-self p (called given (f p.0)) f)

      other-is : (i : ℕ) → nat_eq p.0 i ≡ false → owner_of (asked_by p given f i) ≡ owner_of (f i)
      other-is i other = ap owner_of (set-other p (called given (f p.0)) f i other)

      status-before : (i : ℕ) → nat_eq p.0 i ≡ false → count ≤ i → (os i).status ≡ Runs
      status-before i other above = ap (λ (o : Owner). o.status) (at-other asker (owners f) i other) ∙ ap (λ (l : Option Next). status_of l (f i).replayed.heard) (idle i above)

      -- who is not told by these steps of an entry hears them so
      other-told : (qs : Owners) (more : List ServiceStep) → Stands version count t (suc n) qs deeds → (i : ℕ) → nat_eq p.0 i ≡ false → qs i ≡ hearing i more (owner_of (f i))
          → hears_steps i e.entry.steps (owner_of (f i)).status ≡ hears_steps i more (owner_of (f i)).status → qs i ≡ owner_of (to i)
      other-told qs more after i other is_so same = by (nat_eq (home_of g i) e.kernel) refl
        where
          by : (b : Bool) → nat_eq (home_of g i) e.kernel ≡ b → qs i ≡ owner_of (to i)
          by true at =
              is_so ∙ ap (λ (status : Status). record (owner_of (f i)) { status = status }) (sym same)
              ∙ sym (heard-uncalled g e (asked_by p given f) i (others i other) at ∙ ap (hearing i e.entry.steps) (other-is i other))
          by false away =
              is_so
              ∙ ap (λ (status : Status). record (owner_of (f i)) { status = status })
              (ap (λ (o : Owner). hears_steps i more o.status) (sym (at-other asker (owners f) i other))
              ∙ away-stays os qs deeds more is after i (status-before i other) (ap (λ (o : Owner). o.status) is_so ∙ ap (λ (o : Owner). hears_steps i more o.status) (sym (at-other asker (owners f) i other))) away
              ∙ ap (λ (o : Owner). o.status) (at-other asker (owners f) i other))
              ∙ sym (heard-away g e (asked_by p given f) i away ∙ other-is i other)

      -- a print
      module _ (text : List ℕ) (print : c ≡ call.Print text) (none : e.entry.steps ≡ []) where
        abbrev pub printed-then : Owners
        printed-then = with_owner p.0 (owner_told (call.Print text) (Some answer.Ok) (os p.0)) os

        nothing : (l : List (ServiceStep × Service)) → steps_in l ≡ [] → state_after s l ≡ s
        nothing [] e = refl
        nothing (x ∷ l) e = let no : x.0 ∷ steps_in l ≡ [] = e in absurd cc

        printed-after : Stands version count t (suc n) printed-then deeds
        printed-after =
            subst (λ (u : Service). Stands version count u (suc n) printed-then deeds) (sym (nothing part (entry.steps ∙ none)))
            (keep.prints s n p.0 text os deeds below (ap (λ (o : Owner). o.status) (at-p asker (owners f)) ∙ ap Asks print) (more-entries version count n s os deeds is) (room-of version count n s os deeds is))

        printed-one : (i : ℕ) → printed-then i ≡ owner_of (to i)
        printed-one i = by (nat_eq p.0 i) refl
          where
            its : printed-then p.0 ≡ owner_of (to p.0)
            its =
                at-p (owner_told (call.Print text) (Some answer.Ok) (os p.0)) os ∙ ap (owner_told (call.Print text) (Some answer.Ok)) (at-p asker (owners f))
                ∙ ap (λ (d : Call). record asker { status = told_of d (own_told p d []) }) (sym print)
                ∙ ap (λ (l : List ServiceStep). record asker { status = told_of c (own_told p c l) }) (sym none) ∙ sym told-p

            by : (b : Bool) → nat_eq p.0 i ≡ b → printed-then i ≡ owner_of (to i)
            by true same = subst (λ (j : ℕ). printed-then j ≡ owner_of (to j)) (eqb-true p.0 i same) its
            by false other =
                other-told printed-then [] printed-after i other (at-other (owner_told (call.Print text) (Some answer.Ok) (os p.0)) os i other ∙ at-other asker (owners f) i other)
                (ap (λ (l : List ServiceStep). hears_steps i l (owner_of (f i)).status) none)

        pub printed-owners : printed-then ≡ owners to
        printed-owners = same-owners printed-then (owners to) printed-one

        printed : Stands version count t (suc n) (owners to) deeds
        printed = subst (λ (rs : Owners). Stands version count t (suc n) rs deeds) printed-owners printed-after

      -- any other call
      module _ (b : Begins p.0 c e.entry.steps) where
        abbrev pub first-then : Owners
        first-then = with_owner p.0 (owner_told c (own_told p c (b.made ∷ [])) (os p.0)) os

        abbrev pub begun-then : Owners
        begun-then = all_hear_steps b.more first-then

        pub room-then : HasRoom count n first-then
        room-then i within = subst (λ (o : Owner). length o.state.places ≤ 8192 + 8 * n) (sym (state_same i)) (room-of version count n s os deeds is i within)
          where
            its_status : (first-then p.0).status ≡ told_of c (own_told p c (b.made ∷ []))
            its_status = ap (λ (o : Owner). o.status) (at-p (owner_told c (own_told p c (b.made ∷ [])) (os p.0)) os)

            state_same : (i : ℕ) → first-then i ≡ record (os i) { status = (first-then i).status }
            state_same i = by (nat_eq p.0 i) refl
              where
                by : (t : Bool) → nat_eq p.0 i ≡ t → first-then i ≡ record (os i) { status = (first-then i).status }
                by true same =
                    subst (λ (j : ℕ). first-then j ≡ record (os j) { status = (first-then j).status }) (eqb-true p.0 i same)
                    (at-p (owner_told c (own_told p c (b.made ∷ [])) (os p.0)) os ∙ ap (λ (status : Status). record (os p.0) { status = status }) (sym its_status))
                by false other =
                    at-other (owner_told c (own_told p c (b.made ∷ [])) (os p.0)) os i other
                    ∙ ap (λ (status : Status). record (os i) { status = status }) (sym (ap (λ (o : Owner). o.status) (at-other (owner_told c (own_told p c (b.made ∷ [])) (os p.0)) os i other)))

        begun-after : Stands version count t (suc n) begun-then deeds
        begun-after = by-part part refl
          where
            by-part : (l : List (ServiceStep × Service)) → part ≡ l → Stands version count t (suc n) begun-then deeds
            by-part [] empty = let no : [] ≡ b.made ∷ b.more = sym (ap steps_in empty) ∙ entry.steps ∙ b.is in absurd cc
            by-part (x ∷ l) full =
                let both : x.0 ∷ steps_in l ≡ b.made ∷ b.more = sym (ap steps_in full) ∙ entry.steps ∙ b.is in
                let head : x.0 ≡ b.made = cc in
                let tail : steps_in l ≡ b.more = cc in
                let run : IsServiceStep s x.0 x.1 × IsRunFrom x.1 l = subst (IsRunFrom s) full entry.run in
                let one_made : Stands version count x.1 (suc n) first-then deeds =
                keep.first s b.made x.1 n p.0 c os deeds below (ap (λ (o : Owner). o.status) (at-p asker (owners f))) (more-entries version count n s os deeds is) (room-of version count n s os deeds is)
                (subst (λ (m : ServiceStep). IsServiceStep s m x.1) head run.0) b.first mine bytes in
                let all : Stands version count (state_after x.1 l) (suc n) (all_hear_steps (steps_in l) first-then) deeds =
                uncalled-all version count keep l x.1 n first-then deeds one_made room-then run.1 (subst (λ (m : List ServiceStep). AllByRecursion IsUncalled m) (sym tail) b.uncalled) in
                subst (λ (u : Service). Stands version count u (suc n) begun-then deeds) (sym (ap (state_after s) full)) (subst (λ (m : List ServiceStep). Stands version count (state_after x.1 l) (suc n) (all_hear_steps m first-then) deeds) tail all)

        skips : (i : ℕ) (status : Status) → hears_step i b.made status ≡ status
        skips i Runs = refl
        skips i (Asks d) = refl
        skips i (Pends d) = first-silent p.0 i c b.made b.first d
        skips i (Told d a) = refl
        skips i Over = refl

        begun-one : (i : ℕ) → begun-then i ≡ owner_of (to i)
        begun-one i = by (nat_eq p.0 i) refl
          where
            its : begun-then p.0 ≡ owner_of (to p.0)
            its =
                ap (hearing p.0 b.more) (at-p (owner_told c (own_told p c (b.made ∷ [])) (os p.0)) os ∙ ap (owner_told c (own_told p c (b.made ∷ []))) (at-p asker (owners f)))
                ∙ ap (λ (status : Status). record asker { status = status }) (b.tells ∙ ap (λ (l : List ServiceStep). told_of c (own_told p c l)) (sym b.is)) ∙ sym told-p

            by : (t : Bool) → nat_eq p.0 i ≡ t → begun-then i ≡ owner_of (to i)
            by true same = subst (λ (j : ℕ). begun-then j ≡ owner_of (to j)) (eqb-true p.0 i same) its
            by false other =
                other-told begun-then b.more begun-after i other
                (ap (hearing i b.more) (at-other (owner_told c (own_told p c (b.made ∷ [])) (os p.0)) os i other ∙ at-other asker (owners f) i other))
                (ap (λ (l : List ServiceStep). hears_steps i l (owner_of (f i)).status) b.is ∙ ap (hears_steps i b.more) (skips i (owner_of (f i)).status))

        pub begun-owners : begun-then ≡ owners to
        begun-owners = same-owners begun-then (owners to) begun-one

        begun : Stands version count t (suc n) (owners to) deeds
        begun = subst (λ (rs : Owners). Stands version count t (suc n) rs deeds) begun-owners begun-after

      pub calling-stands : AreOfCall p c e.entry.steps → Stands version count t (suc n) (owners to) deeds
      calling-stands of_call =
          ⊎_elim (λ (print : IsPrint c e.entry.steps). printed print.0 print.1 print.2) begun (steps-begin p.0 c e.entry.steps of_call)
