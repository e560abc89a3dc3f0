-- The service goes with a Make that is not refused, by one step.
use Rattle.std.proofs.Common.{◌≡◌, ◌≢◌, ◌⊎◌, inl, inr, ℕ, ◌+◌, ◌<◌, ◌≤◌, true, false, nat_eq, nat_le, nat_lt, not, ◌&&◌, IsTrue, if◌then◌else◌, List, [], ◌∷◌, length, Some, None, slice_index, refl, sym, ap, subst, ◌∙◌, lt-ltb, get_or-set_same, get_or-set_other, length-set}
use Rattle.std.proofs.lemmas.Bool.Decides.{eqb_tells, leb_tells}
use Rattle.charlotte_calls.specs.Causes.{link_limit}
use Rattle.charlotte_calls.specs.Names.{opposite}
use Rattle.charlotte_calls.specs.declared.calls.Answer.TheVariants as answer
use Rattle.charlotte_calls.specs.declared.calls.Call.TheVariants as call
use Rattle.charlotte_calls.specs.declared.calls.Cause.{Cause}
use Rattle.charlotte_calls.specs.declared.calls.Cause.TheVariants as cause
use Rattle.charlotte_calls.specs.declared.calls.ServiceStep.TheVariants as step
use Rattle.charlotte_calls.specs.declared.names.EndId.{EndId}
use Rattle.charlotte_calls.specs.declared.names.LinkId.{LinkId}
use Rattle.charlotte_calls.specs.declared.names.Pid.{Pid}
use Rattle.charlotte_calls.specs.declared.setting.Setting.{Setting}
use Rattle.theorem_take_silent.specs.Calls.{act_effect, make_effect}
use Rattle.kernel_sound.specs.Sound.{IsSound}
use Rattle.kernel_step.specs.Calls.{made_end, refusal}
use Rattle.kernel_step.specs.Kernel.{Kernel, has_report, process_of}
use Rattle.kernel_step.specs.declared.phase.Phase.TheVariants as kernel_phase
use Rattle.theorem_meaning.specs.Run.{IsAllowed}
use Rattle.theorem_meaning.specs.World.{World, Calls, Event, happens}
use Rattle.service_change.proofs.EndEq.{end_eq-refl}
use Rattle.service_consistent.proofs.Laws.{consistent_after}
use Rattle.service_step.specs.State.{State, counted, is_running, next_at, next_link}
use Rattle.service_step.specs.Steps.{IsServiceStep, is_new_pair, may_make}
use Rattle.theorem_take_silent.proofs.Allowed.{performs-allowed}
use Rattle.theorem_take_silent.proofs.NamedAfter.{performs-names}
use Rattle.theorem_take_silent.specs.Change.{Change, Happens}
use Rattle.theorem_take_silent.specs.Events.{calling}
use Rattle.theorem_meaning.proofs.Goes.{Goes}
use Rattle.theorem_meaning.proofs.Plain.{got}
use Rattle.theorem_meaning.specs.Invariant.{Invariant}
use Rattle.theorem_meaning.specs.Packets.{links_of}
use Rattle.theorem_meaning.specs.StandsFor.{home_of}
use Rattle.theorem_call_begin.proofs.Answered.{call-sound, processes-after, setting-after}
use Rattle.theorem_call_begin.proofs.MadeClauses.{made-right}
use Rattle.theorem_call_begin.proofs.MadeLinks.{made-links}
use Rattle.theorem_call_begin.proofs.Making.{Making, after_making, was-unmade}
use Rattle.theorem_call_begin.proofs.Receives.{home-near, runs-there}

module _ (i : ℕ) (w : World) (s : State) (k : ℕ) (p : Pid) (mine : List EndId) (is : Invariant i w s) (below : p.0 < length s.homes) (at : home_of s p ≡ k) (running : ((w.kernel k).process p.0).phase ≡ kernel_phase.Running)
    (granted : refusal p (w.kernel k).table (w.kernel k).made mine (has_report (process_of p (w.kernel k))) call.Make ≡ None) where
  abbrev a : EndId
  a = made_end k (w.kernel k).made

  abbrev event : Event
  event = Calls k p call.Make mine

  abbrev change : Change
  change = calling w k p call.Make (make_effect k (w.kernel k).made p)

  abbrev t : State
  t = after_making s p a

  happened : Happens w event change
  happened = performs-allowed is k p call.Make mine (make_effect k (w.kernel k).made p) granted tt refl

  near : k < length s.made
  near = home-near i w s k p mine is below at running

  abbrev making : Making i w s k p (links_of (happens w event))
  making = record { is = is; below = below; at = at; near = near; changes = happened.becomes.links }

  -- ---- the service allows the step

  abbrev link : LinkId
  link = record { maker = k; count = (w.kernel k).made }

  next : next_link s p ≡ Some link
  next = ap (λ h. next_at h s.made) (got s.homes p.0 below ∙ ap Some at) ∙ ap (counted k) (got s.made k near ∙ ap Some (is.setting.made k))

  room : nat_lt (w.kernel k).made link_limit ≡ true
  room = by (leb_tells link_limit (w.kernel k).made)
    where
      some : (c : Cause) → Some c ≡ None → ⊥
      some c is = cc

      by : ((nat_le link_limit (w.kernel k).made ≡ true) × (link_limit ≤ (w.kernel k).made)) ⊎ ((nat_le link_limit (w.kernel k).made ≡ false) × ((w.kernel k).made < link_limit)) → nat_lt (w.kernel k).made link_limit ≡ true
      by (inl full) = absurd (some cause.LinksFull (sym (ap (λ b. if b then Some cause.LinksFull else None) full.0) ∙ granted))
      by (inr free) = lt-ltb (w.kernel k).made link_limit free.1

  may : IsTrue (may_make s p a (opposite a))
  may = first ∙ tests
    where
      first : may_make s p a (opposite a) ≡ is_new_pair s.ends (Some link) a (opposite a)
      first = λ j. is_running (runs-there i w s k p mine is below at running j) && is_new_pair s.ends (next j) a (opposite a)

      tests : is_new_pair s.ends (Some link) a (opposite a) ≡ true
      tests = λ j. room j && end_eq-refl a j && end_eq-refl (opposite a) j && not (was-unmade making a refl j) && not (was-unmade making (opposite a) refl j)

  stepped : IsServiceStep s (step.Make p a (opposite a)) t
  stepped = record { allowed = may; after = refl }

  -- ---- the kernels

  made-count : (j : ℕ) → slice_index t.made j ≡ ((happens w event).kernel j).made
  made-count j = by (eqb_tells j k)
    where
      by : ((nat_eq j k ≡ true) × (j ≡ k)) ⊎ ((nat_eq j k ≡ false) × (j ≢ k)) → slice_index t.made j ≡ ((happens w event).kernel j).made
      by (inl same) =
          subst (λ z. slice_index t.made z ≡ ((happens w event).kernel z).made) (sym same.1)
          (get_or-set_same s.made k (slice_index s.made k + 1) 0 near ∙ ap (λ n. n + 1) (is.setting.made k) ∙ sym happened.becomes.made)
      by (inr apart) = get_or-set_other s.made k j (slice_index s.made k + 1) 0 apart.1 ∙ is.setting.made j ∙ sym (ap (λ (x : Kernel). x.made) (happened.becomes.others j apart.0))

  sound : IsSound k ((happens w event).kernel k).made (length s.homes) ((happens w event).kernel k).table
  sound =
      subst (λ m. IsSound k m (length s.homes) ((happens w event).kernel k).table) (sym happened.becomes.made)
      (subst (IsSound k ((w.kernel k).made + 1) (length s.homes)) (sym table)
      (call-sound k (w.kernel k).made (length s.homes) (w.kernel k).table p mine (has_report (process_of p (w.kernel k))) call.Make (is.setting.sound k) below granted tt tt))
    where
      table : ((happens w event).kernel k).table ≡ (λ q. (act_effect p k (w.kernel k).made mine (w.kernel k).table call.Make).entry q ((w.kernel k).table q))
      table = λ j q. happened.becomes.links.entry q j

  made-invariant : Invariant (i + 1) (happens w event) t
  made-invariant =
      record {
        stands =
            record {
              processes = processes-after happened.becomes s (answer.Made (made_end (w.kernel k).number (w.kernel k).made) (opposite (made_end (w.kernel k).number (w.kernel k).made))) refl running is.stands.processes;
              links = made-links making;
            };
        service = consistent_after s (step.Make p a (opposite a)) t is.service stepped;
        setting = setting-after happened.becomes s t refl refl (length-set s.made k (slice_index s.made k + 1)) made-count sound is.setting;
        links = made-right making (performs-names is k p call.Make mine near (make_effect k (w.kernel k).made p) refl);
        waiting = is.waiting;
      }

  pub made-goes : Goes i w s event
  made-goes = record { part = (step.Make p a (opposite a), t) ∷ []; steps = sym happened.steps; run = (stepped, tt); after = made-invariant; homes = refl }

-- the service goes with a Make that its kernel does not refuse
pub make-goes : (g : Setting) (i : ℕ) (w : World) (s : State) (k : ℕ) (p : Pid) (mine : List EndId) → Invariant i w s → s.homes ≡ g.homes → IsAllowed g w (Calls k p call.Make mine)
    → refusal p (w.kernel k).table (w.kernel k).made mine (has_report (process_of p (w.kernel k))) call.Make ≡ None → Goes i w s (Calls k p call.Make mine)
make-goes g i w s k p mine is homes allowed granted =
    made-goes i w s k p mine is (subst (λ hs. p.0 < length hs) (sym homes) allowed.0) (ap (λ hs. slice_index hs p.0) homes ∙ allowed.1) allowed.2 granted
