-- The steps of calls leave a consistent state: destroy, send, receive, cancel and wait.
use Rattle.std.proofs.Common.{◌≡◌, ◌≢◌, ℕ, ◌+◌, Bool, true, false, true≢false, nat_eq, ◌&&◌, ◌||◌, not, is_some, is_none, ◌⊎◌, inl, inr, Option, Some, None, List, [], ◌∷◌, Contains, refl, sym, ap, subst, ◌∙◌, eq-eqb}
use Rattle.std.specs.List.{list_any}
use Rattle.charlotte_calls.proofs.Causes.{AllFail, none-fails}
use Rattle.charlotte_calls.specs.Causes.{first_of, send_causes, receive_causes}
use Rattle.charlotte_calls.specs.EndEq.{names_twice, same_link}
use Rattle.charlotte_calls.specs.declared.names.EndId.{EndId}
use Rattle.charlotte_calls.specs.declared.names.Pid.{Pid}
use Rattle.charlotte_calls.specs.declared.names.Way.{Way}
use Rattle.charlotte_calls.specs.declared.names.Way.TheVariants as way
use Rattle.service_change.proofs.Change.{IsWell, none-some, well-kept, IsCarried-at}
use Rattle.service_change.proofs.Counts.{IsAfter, and-true, counted-reported, counted-same, pid_tells, reported-counted}
use Rattle.service_change.proofs.Shapes.{IsNext, IsShape, consistent-by, going-same, here-woken, shape-dropped, shape-kept, shape-sent, telling-quiet, told-same}
use Rattle.service_lawful.specs.Consistent.{IsConsistent, is_over, reports_on}
use Rattle.service_change.proofs.Facts.{IsWell-changed, away-gone, away-owned, made-owned, next-same, not-false, over-both, owned_by-Owned, owner-Owned, posted-started, put_process-at, put_process-other, running-is, running-owner, waiting-Waiting}
use Rattle.service_change.proofs.EndEq.{among, end_eq-same}
use Rattle.service_step.specs.Causes.{sees}
use Rattle.service_step.specs.Ends.{end_eq, is_made, owner, is_owned_by, is_idle, is_idle_outward, is_idle_inward, is_unreported_outward, is_unreported_inward, is_started_inward, waiting_message, carried_by, dropped, places, puts, destroys, starts_send, turns_inward, turns_outward, withdraws_send}
use Rattle.service_step.specs.Lawful.{IsHeldAt, message_of}
use Rattle.service_step.specs.State.{State, Process, put_process, turns}
use Rattle.service_step.specs.Steps.{may_cancel, may_destroy, may_receive_as, may_receive, may_send_as, may_send, is_cancellable, is_running_owner, runs, after_cancel, fits_version}
use Rattle.service_step.specs.declared.state.End.{End}
use Rattle.service_step.specs.declared.state.Inward.{Inward}
use Rattle.service_step.specs.declared.state.Inward.TheVariants as inward
use Rattle.service_step.specs.declared.state.Message.{Message}
use Rattle.service_step.specs.declared.state.Outward.{Outward}
use Rattle.service_step.specs.declared.state.Outward.TheVariants as outward
use Rattle.service_step.specs.declared.state.Phase.{Phase}
use Rattle.service_step.specs.declared.state.Phase.TheVariants as phase
use Rattle.service_step.specs.declared.state.Place.{Place}
use Rattle.service_step.specs.declared.state.Place.TheVariants as place

-- a running process is in no Cancel, and has not ended
running-free : (x : Phase) (e : EndId) → x ≡ phase.Running → x ≡ phase.Cancelling e → ⊥
running-free x e a b = cc

running-lives : (x : Phase) → x ≡ phase.Running → x ≡ phase.Ended → ⊥
running-lives x a b = cc

-- the owner of an end runs
pub record IsOwnedRunning (s : State) (e : EndId) (p : Pid) : Type 0 where
  pub owned : (s.ends e).place ≡ place.Owned p
  pub running : (s.process p.0).phase ≡ phase.Running

owned-running : (s : State) (e : EndId) → is_running_owner s (owner (s.ends e).place) ≡ true → (p : Pid) × IsOwnedRunning s e p
owned-running s e is =
    let found = running-owner s (owner (s.ends e).place) is in
    (found.0, record { owned = owner-Owned (s.ends e).place found.0 found.1; running = found.2 })

-- an end of a running owner changes, with no word to any process
module _ (s t : State) (e : EndId) (p : Pid) (x : End) (xs : List EndId) (at : Place) (k : IsConsistent s) (o : IsOwnedRunning s e p) (same : t.process ≡ s.process) where
  pub owned-change : t.made ≡ s.made → t.homes ≡ s.homes → IsShape s t e x xs at → IsNext s e x → ((w : Way) → is_over w x ≡ is_over w (s.ends e)) → IsConsistent t
  owned-change made homes shape next over =
      consistent-by s t e x xs at k made homes shape next
      (going-same s t e same (here-woken s t e p k.processes (told-same s t p same).led o.owned (λ is. running-free (t.process p.0).phase e (ap (λ f. (f p.0).phase) same ∙ o.running) is)))
      (telling-quiet s t e k (λ q. ap (λ f. (f q.0).reports) same) (λ w. ap (is_over w) shape.is ∙ over w) (subst (λ z. IsAfter (s.ends e).place z.place) (sym shape.is) next.after))

-- receive
module _ (s : State) (e : EndId) (k : IsConsistent s) where
  receive-owned : (p : Pid) → (s.ends e).place ≡ place.Owned p → runs s p && is_none (first_of (receive_causes (sees p s.ends e))) ≡ true → IsConsistent (record s { ends = turns_inward inward.Posted e s.ends })
  unfolding turns_inward
  receive-owned p owned may =
      owned-change s _ e p x [] place.Destroyed k (record { owned = owned; running = running-is (s.process p.0).phase both.0 }) refl refl refl
      (shape-kept s _ e x refl made refl refl)
      (next-same s e x k made refl refl (IsWell-changed e (s.ends e) x (well-kept s k.kept k.noticed e) refl made (away-owned (s.ends e).place p owned) (λ m is. is) (λ m is. (is, λ noticed. noticed)) (λ noticed living. absurd (true≢false (sym noticed ∙ fails.1.1.0)))))
      (over-both (s.ends e) x refl (sym (ap is_unreported_inward (idle-in (s.ends e).inward (not-false _ fails.1.0)))))
    where
      x : End
      x = record (s.ends e) { inward = inward.Posted }

      made : is_made (s.ends e).place ≡ true
      made = made-owned (s.ends e).place p owned

      both : (runs s p ≡ true) × (is_none (first_of (receive_causes (sees p s.ends e))) ≡ true)
      both = and-true _ _ may

      fails : AllFail (receive_causes (sees p s.ends e))
      fails = none-fails (receive_causes (sees p s.ends e)) both.1

      idle-in : (i : Inward) → is_idle_inward i ≡ true → i ≡ inward.Idle
      idle-in inward.Idle is = refl
      idle-in inward.Posted is = absurd (true≢false (sym is))
      idle-in inward.Withdrawn is = absurd (true≢false (sym is))
      idle-in (inward.Matched n) is = absurd (true≢false (sym is))
      idle-in inward.Unreported is = absurd (true≢false (sym is))

  pub consistent-receive : may_receive s e ≡ true → IsConsistent (record s { ends = turns_inward inward.Posted e s.ends })
  consistent-receive may = by (owner (s.ends e).place) refl may
    where
      by : (o : Option Pid) → owner (s.ends e).place ≡ o → may_receive_as s o e ≡ true → IsConsistent (record s { ends = turns_inward inward.Posted e s.ends })
      by None is may = absurd (true≢false (sym may))
      by (Some p) is may = receive-owned p (owner-Owned (s.ends e).place p is) may

-- destroy
module _ (s : State) (e : EndId) (p : Pid) (k : IsConsistent s) (o : IsOwnedRunning s e p) where
  dropped-message : (out : Outward) (m : Message) → message_of (dropped out) ≡ Some m → message_of out ≡ Some m
  dropped-message (outward.Waiting n) m is = absurd (none-some None m refl is)
  dropped-message outward.Idle m is = is
  dropped-message (outward.Matched n) m is = is
  dropped-message outward.Taken m is = is
  dropped-message outward.Unreported m is = is

  dropped-waits : (out : Outward) (m : Message) → dropped out ≡ outward.Waiting m → ⊥
  dropped-waits (outward.Waiting n) m is = cc
  dropped-waits outward.Idle m is = cc
  dropped-waits (outward.Matched n) m is = cc
  dropped-waits outward.Taken m is = cc
  dropped-waits outward.Unreported m is = cc

  dropped-over : (out : Outward) → is_unreported_outward (dropped out) ≡ is_unreported_outward out
  dropped-over (outward.Waiting n) = refl
  dropped-over outward.Idle = refl
  dropped-over (outward.Matched n) = refl
  dropped-over outward.Taken = refl
  dropped-over outward.Unreported = refl

  ended-next : (out : Outward) → (s.ends e).outward ≡ out → IsNext s e (record (s.ends e) { place = place.Destroyed; outward = dropped out })
  ended-next out is =
      record {
        was = made-owned (s.ends e).place p o.owned;
        after = inr refl;
        leaves = λ f n inside. absurd (away-owned (s.ends e).place p o.owned f n inside);
        well =
            record {
              unmade = λ is. absurd (differ is);
              apart = λ m has. k.kept.apart e m (ap message_of is ∙ dropped-message out m has);
              others = λ m has. k.kept.others e m (ap message_of is ∙ dropped-message out m has);
              waiting = λ m has. absurd (dropped-waits out m has);
              resting = λ f n inside. absurd (away-gone place.Destroyed refl f n inside);
              silent = λ noticed living. absurd (true≢false (sym living));
              deaf = λ noticed living. absurd (true≢false (sym living));
            };
        noticed = λ noticed. k.noticed.opposite e noticed;
        sooner = λ noticed. noticed;
      }
    where
      differ : place.Destroyed ≡ place.Unmade → ⊥
      differ same = cc

  ended-kept : (out : Outward) → (s.ends e).outward ≡ out → message_of (dropped out) ≡ message_of out → carried_by (waiting_message out) ≡ []
      → IsConsistent (record s { ends = places place.Destroyed (carried_by (waiting_message out)) (puts e (record (s.ends e) { place = place.Destroyed; outward = dropped out }) s.ends) })
  unfolding places
  ended-kept out is same none =
      subst (λ xs. IsConsistent (record s { ends = places place.Destroyed xs (puts e (record (s.ends e) { place = place.Destroyed; outward = dropped out }) s.ends) })) (sym none)
      (owned-change s _ e p (record (s.ends e) { place = place.Destroyed; outward = dropped out }) [] place.Destroyed k o refl refl refl
      (shape-kept s _ e (record (s.ends e) { place = place.Destroyed; outward = dropped out }) refl (made-owned (s.ends e).place p o.owned) (same ∙ sym (ap message_of is)) refl)
      (ended-next out is) (over-both (s.ends e) (record (s.ends e) { place = place.Destroyed; outward = dropped out }) (dropped-over out ∙ sym (ap is_unreported_outward is)) refl))

  ended-as : (out : Outward) → (s.ends e).outward ≡ out
      → IsConsistent (record s { ends = places place.Destroyed (carried_by (waiting_message out)) (puts e (record (s.ends e) { place = place.Destroyed; outward = dropped out }) s.ends) })
  ended-as (outward.Waiting m) is =
      owned-change s _ e p (record (s.ends e) { place = place.Destroyed; outward = outward.Idle }) m.carried place.Destroyed k o refl refl refl
      (shape-dropped s _ e (record (s.ends e) { place = place.Destroyed; outward = outward.Idle }) m place.Destroyed k (ap message_of is) refl refl (λ q. tt) refl (made-owned (s.ends e).place p o.owned))
      (ended-next (outward.Waiting m) is) (over-both (s.ends e) (record (s.ends e) { place = place.Destroyed; outward = outward.Idle }) (sym (ap is_unreported_outward is)) refl)
  ended-as outward.Idle is = ended-kept outward.Idle is refl refl
  ended-as (outward.Matched m) is = ended-kept (outward.Matched m) is refl refl
  ended-as outward.Taken is = ended-kept outward.Taken is refl refl
  ended-as outward.Unreported is = ended-kept outward.Unreported is refl refl

  pub consistent-destroys : IsConsistent (record s { ends = destroys e s.ends })
  unfolding destroys
  consistent-destroys = ended-as (s.ends e).outward refl

pub consistent-destroy : (s : State) (e : EndId) → IsConsistent s → may_destroy s e ≡ true → IsConsistent (record s { ends = destroys e s.ends })
consistent-destroy s e k may = let found = owned-running s e may in consistent-destroys s e found.0 k found.1

-- each of some ends passes
all-of : (f : EndId → Bool) (xs : List EndId) → list_any f xs ≡ false → (y : EndId) → among y xs ≡ true → f y ≡ false
all-of f [] none y is = absurd (true≢false (sym is))
all-of f (x ∷ xs) none y is = by (f x) refl none (end_eq y x) refl is (λ none later. all-of f xs none y later)
  where
    by : (b : Bool) → f x ≡ b → b || list_any f xs ≡ false → (c : Bool) → end_eq y x ≡ c → c || among y xs ≡ true → (list_any f xs ≡ false → among y xs ≡ true → f y ≡ false) → f y ≡ false
    by true at none c same is rest = absurd (true≢false none)
    by false at none true same is rest = subst (λ z. f z ≡ false) (sym (end_eq-same y x same)) at
    by false at none false apart is rest = rest none is

same_link-refl : (e : EndId) → same_link e e ≡ true
same_link-refl e = ap (λ b. b && nat_eq e.link.count e.link.count) (eq-eqb e.link.maker e.link.maker refl) ∙ eq-eqb e.link.count e.link.count refl

-- send
module _ (s : State) (e : EndId) (n : ℕ) (bytes : List ℕ) (xs : List EndId) (k : IsConsistent s) where
  send-owned : (p : Pid) → (s.ends e).place ≡ place.Owned p → runs s p && is_none (first_of (send_causes (sees p s.ends) e xs)) && nat_eq n ((s.ends e).sent + 1) && fits_version s.version xs ≡ true
      → IsConsistent (record s { ends = starts_send e n (record { bytes = bytes; carried = xs }) s.ends })
  unfolding starts_send
  send-owned p owned may =
      owned-change s _ e p x xs (place.InMessage e n) k (record { owned = owned; running = running-is (s.process p.0).phase may_run }) refl refl refl
      (shape-sent s _ e x m n no_message refl refl refl made aside idle p owns)
      (next-same s e x k made refl refl well)
      (over-both (s.ends e) x (sym (ap is_unreported_outward idle_out)) refl)
    where
      m : Message
      m = record { bytes = bytes; carried = xs }

      x : End
      x = record (s.ends e) { outward = outward.Waiting (record { bytes = bytes; carried = xs }); sent = n }

      made : is_made (s.ends e).place ≡ true
      made = made-owned (s.ends e).place p owned

      may_both : (runs s p ≡ true) × (is_none (first_of (send_causes (sees p s.ends) e xs)) ≡ true)
      may_both = and-true _ _ (and-true _ _ (and-true _ _ may).0).0

      may_run : runs s p ≡ true
      may_run = may_both.0

      fails : AllFail (send_causes (sees p s.ends) e xs)
      fails = none-fails (send_causes (sees p s.ends) e xs) may_both.1

      alive : (s.ends e).noticed ≡ false
      alive = fails.1.1.0

      apart : list_any (same_link e) xs ≡ false
      apart = fails.1.1.1.1.1.0

      idle-out : (out : Outward) → is_idle_outward out ≡ true → out ≡ outward.Idle
      idle-out outward.Idle is = refl
      idle-out (outward.Waiting m) is = absurd (true≢false (sym is))
      idle-out (outward.Matched m) is = absurd (true≢false (sym is))
      idle-out outward.Taken is = absurd (true≢false (sym is))
      idle-out outward.Unreported is = absurd (true≢false (sym is))

      idle_out : (s.ends e).outward ≡ outward.Idle
      idle_out = idle-out (s.ends e).outward (not-false _ fails.1.0)

      no_message : message_of (s.ends e).outward ≡ None
      no_message = ap message_of idle_out

      idle : (y : EndId) → among y xs ≡ true → is_idle (s.ends y) ≡ true
      idle y is = not-false _ (all-of (λ z. not (is_idle (s.ends z))) xs fails.1.1.1.1.0 y is)

      owns : (y : EndId) → among y xs ≡ true → (s.ends y).place ≡ place.Owned p
      owns y is = owned_by-Owned p (s.ends y).place (not-false _ (all-of (λ z. not (is_owned_by p (s.ends z).place)) xs fails.1.1.1.0 y is))

      aside : among e xs ≡ false
      aside = by (among e xs) refl
        where
          by : (b : Bool) → among e xs ≡ b → b ≡ false
          by true is = absurd (true≢false (sym (same_link-refl e) ∙ all-of (same_link e) xs apart e is))
          by false none = refl

      that : (a : Message) → Some (record { bytes = bytes; carried = xs }) ≡ Some a → record { bytes = bytes; carried = xs } ≡ a
      that a same = cc

      well : IsWell e x
      well =
          record {
            unmade = λ is. absurd (true≢false (sym made ∙ ap is_made is));
            apart = λ a is. subst (λ z. names_twice z.carried ≡ false) (that a is) fails.1.1.1.1.1.1.0;
            others = λ a is. subst (λ z. list_any (same_link e) z.carried ≡ false) (that a is) apart;
            waiting = λ a is. ap (λ at. is_some (owner at)) owned;
            resting = λ f i inside. absurd (away-owned (s.ends e).place p owned f i inside);
            silent = λ noticed living. absurd (true≢false (sym noticed ∙ alive));
            deaf = λ noticed living. absurd (true≢false (sym noticed ∙ alive));
          }

  pub consistent-send : may_send s e n xs ≡ true → IsConsistent (record s { ends = starts_send e n (record { bytes = bytes; carried = xs }) s.ends })
  consistent-send may = by (owner (s.ends e).place) refl may
    where
      by : (o : Option Pid) → owner (s.ends e).place ≡ o → may_send_as s o e n xs ≡ true → IsConsistent (record s { ends = starts_send e n (record { bytes = bytes; carried = xs }) s.ends })
      by None is may = absurd (true≢false (sym may))
      by (Some p) is may = send-owned p (owner-Owned (s.ends e).place p is) may

-- processes alone change, and no reports
pub record IsMood (s : State) (g : ℕ → Process) : Type 0 where
  pub reports : (p : Pid) → (g p.0).reports ≡ (s.process p.0).reports
  pub alive : (p : Pid) → (s.process p.0).phase ≢ phase.Ended → (g p.0).phase ≢ phase.Ended
  pub ended : (p : Pid) → (s.process p.0).phase ≡ phase.Ended → g p.0 ≡ s.process p.0
  pub gone : (p : Pid) → (g p.0).phase ≡ phase.Ended → (s.process p.0).phase ≡ phase.Ended
  pub cancels : (p : Pid) (e : EndId) → (g p.0).phase ≡ phase.Cancelling e → ((s.ends e).place ≡ place.Owned p) × (is_started_inward (s.ends e).inward ≡ true)

pub consistent-mood : (s : State) (g : ℕ → Process) → IsConsistent s → IsMood s g → IsConsistent (record s { process = g })
consistent-mood s g k h =
    record {
      kept =
          record {
            made = k.kept.made;
            unmade = k.kept.unmade;
            held = record { held = λ e. held e (s.ends e).place (k.kept.held.held e); carried = λ f e n is. k.kept.held.carried f e n (IsCarried-at _ s f n e refl is) };
            apart = k.kept.apart;
            others = k.kept.others;
            waiting = k.kept.waiting;
            resting = k.kept.resting;
          };
      noticed = record { opposite = k.noticed.opposite; outward = k.noticed.outward; inward = k.noticed.inward };
      reported =
          reported-counted _ (λ e w. counted-same (λ p. ap (reports_on e w) (h.reports p)) refl (inl refl) (counted-reported s k.reported e w))
          (λ p r is. k.reported.done p r (subst (λ rs. Contains rs r) (h.reports p) is));
      processes =
          record {
            cancelling = h.cancels;
            ended = λ p is. h.reports p ∙ k.processes.ended p (h.gone p is);
            others = λ p beyond. let none = k.processes.others p beyond in h.ended p (ap (λ z. z.phase) none) ∙ none;
          };
    }
  where
    held : (e : EndId) (at : Place) → IsHeldAt s e at → IsHeldAt (record s { process = g }) e at
    held e (place.Owned p) is = h.alive p is
    held e (place.InMessage f n) is = IsCarried-at s _ f n e refl is
    held e place.Destroyed is = tt
    held e place.Unmade is = tt

-- a running process comes to another phase
module _ (s : State) (p : Pid) (to : Phase) (k : IsConsistent s) (running : (s.process p.0).phase ≡ phase.Running) (lives : to ≡ phase.Ended → ⊥)
    (cancels : (e : EndId) → to ≡ phase.Cancelling e → ((s.ends e).place ≡ place.Owned p) × (is_started_inward (s.ends e).inward ≡ true)) where
  pub consistent-turns : IsConsistent (record s { process = turns p to s.process })
  unfolding turns
  consistent-turns =
      consistent-mood s _ k
      (record {
        reports = λ q. reports q (pid_tells p q);
        alive = λ q alive is. alive_on q alive is (pid_tells p q);
        ended = λ q is. ended q is (pid_tells p q);
        gone = λ q is. gone q is (pid_tells p q);
        cancels = λ q e is. cancelling q e is (pid_tells p q);
      })
    where
      at_p : put_process p (record (s.process p.0) { phase = to }) s.process p.0 ≡ record (s.process p.0) { phase = to }
      at_p = put_process-at p _ s.process

      at_q : (q : Pid) → nat_eq p.0 q.0 ≡ false → put_process p (record (s.process p.0) { phase = to }) s.process q.0 ≡ s.process q.0
      at_q q apart = put_process-other p _ s.process q apart

      reports : (q : Pid) → ((nat_eq p.0 q.0 ≡ true) × (p ≡ q)) ⊎ ((nat_eq p.0 q.0 ≡ false) × (p.0 ≢ q.0)) → (put_process p (record (s.process p.0) { phase = to }) s.process q.0).reports ≡ (s.process q.0).reports
      reports q (inl same) = subst (λ z. (put_process p (record (s.process p.0) { phase = to }) s.process z.0).reports ≡ (s.process z.0).reports) same.1 (ap (λ z. z.reports) at_p)
      reports q (inr apart) = ap (λ z. z.reports) (at_q q apart.0)

      alive_on : (q : Pid) → (s.process q.0).phase ≢ phase.Ended → (put_process p (record (s.process p.0) { phase = to }) s.process q.0).phase ≡ phase.Ended → ((nat_eq p.0 q.0 ≡ true) × (p ≡ q)) ⊎ ((nat_eq p.0 q.0 ≡ false) × (p.0 ≢ q.0)) → ⊥
      alive_on q alive is (inl same) = lives (sym (ap (λ z. z.phase) at_p) ∙ subst (λ z. (put_process p (record (s.process p.0) { phase = to }) s.process z.0).phase ≡ phase.Ended) (sym same.1) is)
      alive_on q alive is (inr apart) = alive (sym (ap (λ z. z.phase) (at_q q apart.0)) ∙ is)

      ended : (q : Pid) → (s.process q.0).phase ≡ phase.Ended → ((nat_eq p.0 q.0 ≡ true) × (p ≡ q)) ⊎ ((nat_eq p.0 q.0 ≡ false) × (p.0 ≢ q.0)) → put_process p (record (s.process p.0) { phase = to }) s.process q.0 ≡ s.process q.0
      ended q is (inl same) = absurd (running-lives (s.process p.0).phase running (subst (λ z. (s.process z.0).phase ≡ phase.Ended) (sym same.1) is))
      ended q is (inr apart) = at_q q apart.0

      gone : (q : Pid) → (put_process p (record (s.process p.0) { phase = to }) s.process q.0).phase ≡ phase.Ended → ((nat_eq p.0 q.0 ≡ true) × (p ≡ q)) ⊎ ((nat_eq p.0 q.0 ≡ false) × (p.0 ≢ q.0)) → (s.process q.0).phase ≡ phase.Ended
      gone q is (inl same) = absurd (lives (sym (ap (λ z. z.phase) at_p) ∙ subst (λ z. (put_process p (record (s.process p.0) { phase = to }) s.process z.0).phase ≡ phase.Ended) (sym same.1) is))
      gone q is (inr apart) = sym (ap (λ z. z.phase) (at_q q apart.0)) ∙ is

      cancelling : (q : Pid) (e : EndId) → (put_process p (record (s.process p.0) { phase = to }) s.process q.0).phase ≡ phase.Cancelling e → ((nat_eq p.0 q.0 ≡ true) × (p ≡ q)) ⊎ ((nat_eq p.0 q.0 ≡ false) × (p.0 ≢ q.0))
          → ((s.ends e).place ≡ place.Owned q) × (is_started_inward (s.ends e).inward ≡ true)
      cancelling q e is (inl same) =
          subst (λ z. ((s.ends e).place ≡ place.Owned z) × (is_started_inward (s.ends e).inward ≡ true)) same.1
          (cancels e (sym (ap (λ z. z.phase) at_p) ∙ subst (λ z. (put_process p (record (s.process p.0) { phase = to }) s.process z.0).phase ≡ phase.Cancelling e) (sym same.1) is))
      cancelling q e is (inr apart) = k.processes.cancelling q e (sym (ap (λ z. z.phase) (at_q q apart.0)) ∙ is)

-- wait
pub consistent-wait : (s : State) (p : Pid) → IsConsistent s → runs s p ≡ true → IsConsistent (record s { process = turns p phase.Waiting s.process })
consistent-wait s p k may = consistent-turns s p phase.Waiting k (running-is (s.process p.0).phase may) lives (λ e is. absurd (cancels e is))
  where
    lives : phase.Waiting ≡ phase.Ended → ⊥
    lives is = cc

    cancels : (e : EndId) → phase.Waiting ≡ phase.Cancelling e → ⊥
    cancels e is = cc

-- cancel
module _ (s : State) (e : EndId) (p : Pid) (k : IsConsistent s) (o : IsOwnedRunning s e p) where
  cancel-inward : is_cancellable way.Inward (s.ends e) ≡ true → IsConsistent (record s { process = turns p (phase.Cancelling e) s.process })
  cancel-inward started = consistent-turns s p (phase.Cancelling e) k o.running lives cancels
    where
      lives : phase.Cancelling e ≡ phase.Ended → ⊥
      lives is = cc

      one : (f : EndId) → phase.Cancelling e ≡ phase.Cancelling f → e ≡ f
      one f is = cc

      cancels : (f : EndId) → phase.Cancelling e ≡ phase.Cancelling f → ((s.ends f).place ≡ place.Owned p) × (is_started_inward (s.ends f).inward ≡ true)
      cancels f is = subst (λ z. ((s.ends z).place ≡ place.Owned p) × (is_started_inward (s.ends z).inward ≡ true)) (one f is) (o.owned, posted-started (s.ends e).inward started)

  cancel-outward : (m : Message) → (s.ends e).outward ≡ outward.Waiting m → (out : Outward) → (s.ends e).outward ≡ out → IsConsistent (record s { ends = withdraws_send p e s.ends })
  unfolding withdraws_send turns_outward
  cancel-outward m waits out is =
      subst (λ out. IsConsistent (record s { ends = places (place.Owned p) (carried_by (waiting_message out)) (puts e (record (s.ends e) { outward = outward.Idle }) s.ends) })) (sym waits)
      (owned-change s _ e p x m.carried (place.Owned p) k o refl refl refl
      (shape-dropped s _ e x m (place.Owned p) k (ap message_of waits) refl refl (λ q is. running-lives (s.process p.0).phase o.running is) refl made)
      (next-same s e x k made refl refl (IsWell-changed e (s.ends e) x (well-kept s k.kept k.noticed e) refl made (away-owned (s.ends e).place p o.owned) (λ a has. absurd (none-some None a refl has)) (λ a has. absurd (differ a has)) (k.noticed.inward e)))
      (over-both (s.ends e) x (sym (ap is_unreported_outward waits)) refl))
    where
      x : End
      x = record (s.ends e) { outward = outward.Idle }

      made : is_made (s.ends e).place ≡ true
      made = made-owned (s.ends e).place p o.owned

      differ : (a : Message) → outward.Idle ≡ outward.Waiting a → ⊥
      differ a same = cc

pub consistent-cancel : (s : State) (e : EndId) (w : Way) → IsConsistent s → may_cancel s e w ≡ true → IsConsistent (after_cancel (owner (s.ends e).place) e w s)
consistent-cancel s e w k may = subst (λ o. IsConsistent (after_cancel o e w s)) (sym (ap owner found.1.owned)) (by w (and-true _ _ (and-true _ _ may).0).1)
  where
    found : (p : Pid) × IsOwnedRunning s e p
    found = owned-running s e (and-true _ _ (and-true _ _ may).0).0

    by : (w : Way) → is_cancellable w (s.ends e) ≡ true → IsConsistent (after_cancel (Some found.0) e w s)
    by way.Outward is = let waits = waiting-Waiting (s.ends e).outward is in cancel-outward s e found.0 k found.1 waits.0 waits.1 (s.ends e).outward refl
    by way.Inward is = cancel-inward s e found.0 k found.1 is
