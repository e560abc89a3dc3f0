-- Which ends a step of the service takes from their owners: those of the process that calls.
use Rattle.std.proofs.Common.{◌≡◌, ◌⊎◌, inl, inr, ℕ, false, List, [], ◌∷◌, refl, sym, ap, subst, ◌∙◌}
use Rattle.std.specs.List.{AllByRecursion}
use Rattle.charlotte_calls.specs.declared.calls.ServiceStep.{ServiceStep}
use Rattle.charlotte_calls.specs.declared.calls.ServiceStep.TheVariants as step
use Rattle.charlotte_calls.specs.declared.names.EndId.{EndId}
use Rattle.charlotte_calls.specs.declared.names.Pid.{Pid}
use Rattle.service_lawful.specs.Consistent.{IsConsistent}
use Rattle.service_step.specs.Run.{IsRunFrom, state_after}
use Rattle.service_step.specs.State.{State as Service}
use Rattle.service_step.specs.Steps.{IsServiceStep}
use Rattle.service_step.specs.declared.state.Place.{Place}
use Rattle.service_step.specs.declared.state.Place.TheVariants as place
use Rattle.service_streams.specs.Streams.{cancels_send, steps_in}
use Rattle.run_process_steps.specs.Moves.{Moves}
use Rattle.run_process_steps.specs.Moves as moves
use Rattle.run_process_steps.specs.Entries.{IsUncalled}
use Rattle.end_protocol.specs.Deeds.{Deed}
use Rattle.run_process_steps.specs.States.{DeedOn}
use Rattle.run_process_steps.specs.Acting.{Done}
use Rattle.run_process_steps.specs.Acted.{process}
use Rattle.followed_links.proofs.Weaving.{AreWoven, Comes, Goes, IsUnowned, Passes, Stays, weaves-passing}

-- the end at which a process sends or which it destroys is its own, and it alone exits
pub record IsOwnStep (s : Service) (i : ℕ) (made : ServiceStep) : Type 0 where
  pub sends : (e : EndId) (n : ℕ) (bytes : List ℕ) (xs : List EndId) → made ≡ step.Send e n bytes xs → (s.ends e).place ≡ place.Owned (process i)
  pub destroys : (e : EndId) → made ≡ step.Destroy e → (s.ends e).place ≡ place.Owned (process i)
  pub exits : (p : Pid) → made ≡ step.Exit p → p ≡ process i

module _ (s t : Service) (made : ServiceStep) (quiet : ℕ → Type 0) (i : ℕ) (is_quiet : quiet i) (own : IsOwnStep s i made) where
  owned-by : (p q : Pid) (at : Place) → at ≡ place.Owned p → at ≡ place.Owned q → p ≡ q
  owned-by p q at one two = same p q (sym one ∙ two)
    where
      same : (p q : Pid) → place.Owned p ≡ place.Owned q → p ≡ q
      same p q both = cc

  inside-unowned : (u : Service) (x e : EndId) (n : ℕ) → (u.ends x).place ≡ place.InMessage e n → IsUnowned u x
  inside-unowned u x e n inside j is = let no : place.InMessage e n ≡ place.Owned (process j) = sym inside ∙ is in cc

  gone-unowned : (u : Service) (x : EndId) → (u.ends x).place ≡ place.Destroyed → IsUnowned u x
  gone-unowned u x gone j is = let no : place.Destroyed ≡ place.Owned (process j) = sym gone ∙ is in cc

  unmade-unowned : (u : Service) (x : EndId) → (u.ends x).place ≡ place.Unmade → IsUnowned u x
  unmade-unowned u x unmade j is = let no : place.Unmade ≡ place.Owned (process j) = sym unmade ∙ is in cc

  its-own : (x : EndId) (p : Pid) → (s.ends x).place ≡ place.Owned p → p ≡ process i → IsUnowned s x ⊎ ((j : ℕ) × ((s.ends x).place ≡ place.Owned (process j)) × quiet j)
  its-own x p is same = inr (i, is ∙ ap place.Owned same, is_quiet)

  pub passes-by : (x : EndId) → Moves s made t x → Passes s t quiet x
  passes-by x (moves.Stays same brings) = Stays same
  passes-by x (moves.Makes p a b is one was to brings) = Comes p.0 (unmade-unowned s x was) to
  passes-by x (moves.Leaves p e n bytes xs is within on was to brings) =
      Goes (inside-unowned t x e n to) (its-own x p was (owned-by p (process i) (s.ends e).place on (own.sends e n bytes xs is)))
  passes-by x (moves.Lands p e n was to brings gives) = Comes p.0 (inside-unowned s x e n was) to
  passes-by x (moves.Ends gone (inl destroyed) brings) = Goes (gone-unowned t x gone) (inr (i, own.destroys x destroyed, is_quiet))
  passes-by x (moves.Ends gone (inr (inl exited)) brings) = Goes (gone-unowned t x gone) (its-own x exited.0 exited.2 (own.exits exited.0 exited.1))
  passes-by x (moves.Ends gone (inr (inr inside)) brings) = Goes (gone-unowned t x gone) (inl (inside-unowned s x inside.0 inside.1 inside.2))

-- ---- which steps these are

uncalled-is : (made m : ServiceStep) → made ≡ m → IsUncalled made → IsUncalled m
uncalled-is made m e un = subst IsUncalled e un

pub uncalled-own : (s : Service) (i : ℕ) (made : ServiceStep) → IsUncalled made → IsOwnStep s i made
uncalled-own s i made un = record {
  sends = λ e n bytes xs is. absurd (uncalled-is made (step.Send e n bytes xs) is un);
  destroys = λ e is. absurd (uncalled-is made (step.Destroy e) is un);
  exits = λ p is. absurd (uncalled-is made (step.Exit p) is un);
}

pub uncalled-cancels : (made : ServiceStep) → IsUncalled made → (e : EndId) → cancels_send e made ≡ false
uncalled-cancels (step.Report p r) un e = refl
uncalled-cancels (step.Match f n) un e = refl
uncalled-cancels (step.Take f n p late) un e = refl
uncalled-cancels (step.Complete f n) un e = refl
uncalled-cancels (step.Withdraw f) un e = refl
uncalled-cancels (step.Free f) un e = refl
uncalled-cancels (step.Notice f dead) un e = refl
uncalled-cancels (step.Back f n dead) un e = refl
uncalled-cancels (step.Make p a b) un e = absurd un
uncalled-cancels (step.Refuse p c cause) un e = absurd un
uncalled-cancels (step.Destroy f) un e = absurd un
uncalled-cancels (step.Send f n bytes xs) un e = absurd un
uncalled-cancels (step.Receive f) un e = absurd un
uncalled-cancels (step.Cancel f w) un e = absurd un
uncalled-cancels (step.Wait p) un e = absurd un
uncalled-cancels (step.Exit p) un e = absurd un

-- ---- steps without a call

module _ (each_moves : (s : Service) (made : ServiceStep) (t : Service) (x : EndId) → IsConsistent s → ((e : EndId) → cancels_send e made ≡ false) → IsServiceStep s made t → Moves s made t x)
    (consistent : (s : Service) (made : ServiceStep) (t : Service) → IsConsistent s → IsServiceStep s made t → IsConsistent t) (since : ℕ → List DeedOn) (past : List Done) (deeds : EndId → List Deed) (i : ℕ) (quiet : since i ≡ []) where
  pub weaves-step : (s : Service) (made : ServiceStep) (t : Service) → IsConsistent s → ((e : EndId) → cancels_send e made ≡ false) → IsServiceStep s made t → IsOwnStep s i made → AreWoven s since past deeds
      → AreWoven t since past deeds
  weaves-step s made t is none one own woven =
      weaves-passing s t since past deeds woven (λ x. passes-by s t made (λ j. since j ≡ []) i quiet own x (each_moves s made t x is none one))

  pub weaves-uncalled : (part : List (ServiceStep × Service)) (s : Service) → IsConsistent s → IsRunFrom s part → AllByRecursion IsUncalled (steps_in part) → AreWoven s since past deeds
      → AreWoven (state_after s part) since past deeds
  weaves-uncalled [] s is run un woven = woven
  weaves-uncalled (made ∷ part) s is run un woven =
      weaves-uncalled part made.1 (consistent s made.0 made.1 is run.0) run.1 un.1
      (weaves-step s made.0 made.1 is (uncalled-cancels made.0 un.0) run.0 (uncalled-own s i made.0 un.0) woven)
