-- The ends that a thread gets with a deed are its process's own, from the step in which it gets them until the next call of the process.
use Rattle.std.proofs.Common.{arith, ◌≡◌, inl, inr, ℕ, ◌≤◌, Bool, true, false, if◌then◌else◌, not, ◌&&◌, List, [], ◌∷◌, refl, sym, ap, subst, ◌∙◌}
use Rattle.std.specs.List.{AllByRecursion}
use Rattle.charlotte_calls.specs.declared.calls.Call.TheVariants as call
use Rattle.charlotte_calls.specs.declared.calls.ServiceStep.{ServiceStep}
use Rattle.charlotte_calls.specs.declared.names.EndId.{EndId}
use Rattle.service_lawful.specs.Consistent.{IsConsistent}
use Rattle.service_step.specs.Run.{IsRunFrom, state_after}
use Rattle.service_step.specs.State.{State as Service}
use Rattle.service_step.specs.Steps.{IsServiceStep}
use Rattle.service_step.specs.declared.state.Phase.TheVariants as phase
use Rattle.service_step.specs.declared.state.Place.TheVariants as place
use Rattle.service_streams.specs.Streams.{cancels_send, steps_in}
use Rattle.lost_ends.specs.Moves.{Moves}
use Rattle.lost_ends.specs.Entries.{IsUncalled}
use Rattle.end_protocol.specs.declared.hearing.Heard.{Heard}
use Rattle.end_protocol.specs.declared.hearing.Heard.TheVariants as heard
use Rattle.end_protocol.specs.declared.kept.Kept.{Kept}
use Rattle.end_protocol.specs.Asking.{is_owed}
use Rattle.end_protocol.specs.Deeds.{Replied, heard_deeds}
use Rattle.end_protocol.specs.Going.{receive_over}
use Rattle.end_protocol.specs.Happenings.{Happening, Accepts, Binds, CancelLate, Connects, Dies, Hears, ReceiveOver, Receives, Replies, SendOver, Sends, Settles, Unbinds, deeds_of}
use Rattle.end_protocol.specs.Hearing.{hears}
use Rattle.lost_ends.specs.States.{DeedOn, State, deeds_on}
use Rattle.lost_ends.specs.States as asked
use Rattle.lost_ends.specs.Runs.{did}
use Rattle.lost_ends.specs.ProcessSoundTold.{IsTold}
use Rattle.lost_ends.proofs.Every.{every_append, every_weaker}
use Rattle.lost_ends.specs.AtEnd.{seen}
use Rattle.lost_ends.specs.Changes.{Change, Changes, MayDo, None as NoChanges, Then}
use Rattle.lost_ends.specs.Changes as changes
use Rattle.lost_ends.specs.Ledgers.{Ledger, came_with, how_often}
use Rattle.lost_ends.specs.Telling.{ChangesByStep, Telling, Turn}
use Rattle.lost_ends.specs.Telling as tells
use Rattle.lost_ends.proofs.AtEnd.{once, once_self}
use Rattle.lost_ends.proofs.Steps.{step_changes}
use Rattle.lost_ends.proofs.ToldAt.{told_at}
use Rattle.lost_ends.specs.Claims.{gets}
use Rattle.lost_ends.specs.Acted.{process}
use Rattle.lost_ends.specs.Invariant.{IsOwner}
use Rattle.lost_ends.specs.Owners.{Asks, IsAskedFor, Over, Owner, Pends, Runs, Status, Told, given_of, ledger_of, phase_of, seen_of, turn_of}
use Rattle.lost_ends.specs.Steps.{MayStep}
use Rattle.lost_ends.proofs.Passing.{IsOwnStep, passes-by, uncalled-cancels, uncalled-own}
use Rattle.lost_ends.proofs.Weaving.{Comes, Goes, Passes, Stays, same-owner}

-- the process of this number owns the end
abbrev pub IsOwnOf : Service → ℕ → EndId → Type 0
IsOwnOf s i x = (s.ends x).place ≡ place.Owned (process i)

-- it owns all that these deeds get
abbrev pub AreGot : Service → ℕ → List DeedOn → Type 0
AreGot s i ds = AllByRecursion (λ d. AllByRecursion (IsOwnOf s i) (gets d.deed)) ds

-- ---- in a step of the process

pub often-all : (P : EndId → Type 0) (xs : List EndId) → ((y : EndId) → 1 ≤ how_often y xs → P y) → AllByRecursion P xs
often-all P [] each = tt
often-all P (x ∷ xs) each =
    let self : once x x ≡ 1 = once_self x in
    (each x (omega (arith, self)), often-all P xs (λ y more. each y (omega (arith, more))))

heard-got : (P : EndId → Type 0) (x : EndId) (h : Heard) → ((y : EndId) → 1 ≤ how_often y (came_with h) → P y) → AllByRecursion (λ (d : DeedOn). AllByRecursion P (gets d.deed)) (deeds_on x (heard_deeds h))
heard-got P x (heard.Accepted w) each = (often-all P w.ends each, tt)
heard-got P x (heard.Returned thread r) each = (often-all P r.ends each, tt)
heard-got P x (heard.TooLate xs) each = tt
heard-got P x (heard.Unreadable xs) each = tt
heard-got P x heard.Nothing each = tt

module _ (s : Service) (i version : ℕ) where
  does-got : (x : EndId) (k : Kept) (h : Happening) → MayDo h k → AreGot s i (deeds_on x (deeds_of version h k))
  does-got x k (Connects c) may = (tt, tt)
  does-got x k (Replies r) may = by (is_owed r.number k.owed && not k.dead)
    where
      by : (b : Bool) → AreGot s i (deeds_on x (if b then Replied r.number r.status r.values r.ends ∷ [] else []))
      by true = (tt, tt)
      by false = tt
  does-got x k (Accepts a) may = tt
  does-got x k (Binds b) may = tt
  does-got x k (Unbinds entry) may = tt
  does-got x k (Hears room packet xs) may = absurd may
  does-got x k (Settles room) may = tt
  does-got x k Sends may = tt
  does-got x k SendOver may = tt
  does-got x k Receives may = tt
  does-got x k ReceiveOver may = tt
  does-got x k CancelLate may = tt
  does-got x k Dies may = tt

  -- what threads do gets no end
  change-got : (b : Ledger) (ds : List DeedOn) (c : Ledger) → Change version b ds c → AreGot s i ds
  change-got b ds c (changes.Does n x k h l rest there may hand) = does-got x k h may
  change-got b ds c (changes.Settle room l) = tt
  change-got b ds c (changes.LetsGo n x k l there rest whole) = tt
  change-got b ds c (changes.Destroys n x k l there) = tt
  change-got b ds c (changes.Holds x rest l hand) = tt
  change-got b ds c (changes.Gets x rest l hand) = tt
  change-got b ds c (changes.Dooms x rest l hand) = tt
  change-got b ds c (changes.Sorts hand l few) = tt

  changes-got : (b : Ledger) (ds : List DeedOn) (c : Ledger) → Changes version b ds c → AreGot s i ds
  changes-got b ds c (NoChanges l) = tt
  changes-got b ds c (Then l es d fs e one more) =
      every_append (λ (z : DeedOn). AllByRecursion (IsOwnOf s i) (gets z.deed)) es fs (change-got l es d one) (changes-got d fs e more)

  -- what it is told gets what comes with the message
  telling-got : (t : Turn) (b : Ledger) (ds : List DeedOn) (c : Ledger) → Telling version t b ds c → (t.asked ≡ asked.Wait → (y : EndId) → 1 ≤ how_often y c.hand → IsOwnOf s i y) → AreGot s i ds
  telling-got t b ds c (tells.Silent l silent) own = tt
  telling-got t b ds c (tells.Answers n x k h l there is) own = tt
  telling-got t b ds c (tells.Hears n x k room bytes packet xs l there brings spelled hand readable) own =
      heard-got (IsOwnOf s i) x (hears version room packet xs (receive_over k)).1 (own brings.told.0.0)
  telling-got t b ds c (tells.Ignores n x k bytes left xs l there brings e) own = tt
  telling-got t b ds c (tells.Breaks n x k bytes xs l there brings) own = tt
  telling-got t b ds c (tells.Dies n x k l there death) own = tt
  telling-got t b ds c (tells.DiesWith n x k h l there death) own = tt

-- who waited is not at its end
alive-of : (st : State) (status : Status) → IsAskedFor st status → st.asked ≡ asked.Wait → MayStep status → phase_of status ≡ phase.Ended → ⊥
alive-of st Runs fits waits may e = let no : phase.Running ≡ phase.Ended = e in cc
alive-of st (Told call.Exit a) fits waits may e = let no : asked.Exit ≡ asked.Wait = sym fits ∙ waits in cc
alive-of st (Told call.Make a) fits waits may e = let no : phase.Running ≡ phase.Ended = e in cc
alive-of st (Told (call.Destroy on) a) fits waits may e = let no : phase.Running ≡ phase.Ended = e in cc
alive-of st (Told (call.Send on bytes xs) a) fits waits may e = let no : phase.Running ≡ phase.Ended = e in cc
alive-of st (Told (call.Receive on) a) fits waits may e = let no : phase.Running ≡ phase.Ended = e in cc
alive-of st (Told (call.Cancel on w) a) fits waits may e = let no : phase.Running ≡ phase.Ended = e in cc
alive-of st (Told call.Wait a) fits waits may e = let no : phase.Running ≡ phase.Ended = e in cc
alive-of st (Told (call.Print bytes) a) fits waits may e = let no : phase.Running ≡ phase.Ended = e in cc
alive-of st (Asks c) fits waits may e = absurd may
alive-of st (Pends c) fits waits may e = absurd may
alive-of st Over fits waits may e = absurd may

module _ (version : ℕ) (s : Service) (n i : ℕ) (o : Owner) (is : IsOwner version s n i o) (may : MayStep o.status) where
  hand-own : (ds : List DeedOn) (c : Ledger) → Telling o.state.version (turn_of o) (ledger_of o) ds c → o.state.asked ≡ asked.Wait → (y : EndId) → 1 ≤ how_often y c.hand → IsOwnOf s i y
  hand-own ds c telling waits y in_hand =
      let out : (seen y c).out ≤ (seen_of o y).out = (told_at o.state.version (turn_of o) y (ledger_of o) ds c telling is.single).out in
      (is.custody (alive-of o.state o.status is.asked waits may) y).own (omega (arith, in_hand, out))

  pub step-got : IsTold (given_of o.status) → AreGot s i (did o.state (given_of o.status)).deeds
  step-got told =
      let by : ChangesByStep o.state (given_of o.status) (did o.state (given_of o.status)) = step_changes o.state (given_of o.status) told is.running in
      subst (λ (ds : List DeedOn). AreGot s i ds) (sym by.all)
      (every_append (λ (z : DeedOn). AllByRecursion (IsOwnOf s i) (gets z.deed)) by.told_deeds by.deeds
      (telling-got s i o.state.version (turn_of o) (ledger_of o) by.told_deeds by.told by.telling (hand-own by.told_deeds by.told by.telling))
      (changes-got s i o.state.version by.told by.deeds by.last by.changes))

-- ---- in a step of the service

-- a process that has deeds since its last call owns its ends as before
pub passing-got : (s t : Service) (since : ℕ → List DeedOn) → ((x : EndId) → Passes s t (λ i. since i ≡ []) x) → (i : ℕ) → AreGot s i (since i) → AreGot t i (since i)
passing-got s t since passes i got = by (since i) refl got
  where
    by : (l : List DeedOn) → since i ≡ l → AreGot s i l → AreGot t i l
    by [] is all = tt
    by (d ∷ ds) is all = every_weaker (λ (z : DeedOn). AllByRecursion (IsOwnOf s i) (gets z.deed)) (λ (z : DeedOn). AllByRecursion (IsOwnOf t i) (gets z.deed))
        (λ z got. every_weaker (IsOwnOf s i) (IsOwnOf t i) (λ x own. stays x own (passes x)) (gets z.deed) got) (d ∷ ds) all
      where
        stays : (x : EndId) → IsOwnOf s i x → Passes s t (λ j. since j ≡ []) x → IsOwnOf t i x
        stays x own (Stays same) = same ∙ own
        stays x own (Comes j unowned to) = absurd (unowned i own)
        stays x own (Goes now (inl was)) = absurd (was i own)
        stays x own (Goes now (inr was)) =
            let no : [] ≡ d ∷ ds = sym was.2 ∙ ap since (same-owner was.0 i (s.ends x).place was.1 own) ∙ is in absurd cc

module _ (each_moves : (s : Service) (made : ServiceStep) (t : Service) (x : EndId) → IsConsistent s → ((e : EndId) → cancels_send e made ≡ false) → IsServiceStep s made t → Moves s made t x)
    (consistent : (s : Service) (made : ServiceStep) (t : Service) → IsConsistent s → IsServiceStep s made t → IsConsistent t) (since : ℕ → List DeedOn) (i : ℕ) (quiet : since i ≡ []) where
  pub got-step : (s : Service) (made : ServiceStep) (t : Service) → IsConsistent s → ((e : EndId) → cancels_send e made ≡ false) → IsServiceStep s made t → IsOwnStep s i made
      → ((j : ℕ) → AreGot s j (since j)) → (j : ℕ) → AreGot t j (since j)
  got-step s made t is none one own got j =
      passing-got s t since (λ x. passes-by s t made (λ h. since h ≡ []) i quiet own x (each_moves s made t x is none one)) j (got j)

  pub got-uncalled : (part : List (ServiceStep × Service)) (s : Service) → IsConsistent s → IsRunFrom s part → AllByRecursion IsUncalled (steps_in part)
      → ((j : ℕ) → AreGot s j (since j)) → (j : ℕ) → AreGot (state_after s part) j (since j)
  got-uncalled [] s is run un got = got
  got-uncalled (made ∷ part) s is run un got =
      got-uncalled part made.1 (consistent s made.0 made.1 is run.0) run.1 un.1
      (got-step s made.0 made.1 is (uncalled-cancels made.0 un.0) run.0 (uncalled-own s i made.0 un.0) got)
