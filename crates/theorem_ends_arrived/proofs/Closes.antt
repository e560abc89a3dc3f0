-- An event closes that takes a packet and is one step of the service: its process is answered, or gains reports, of which it is told the
-- first where it waits.
use Rattle.std.proofs.Common.{◌≡◌, ◌≢◌, ◌⊎◌, inl, inr, ℕ, ◌+◌, ◌<◌, Bool, true, false, nat_eq, if◌then◌else◌, List, [], ◌∷◌, ◌++◌, map, length, Contains, Some, refl, sym, ap, subst, ◌∙◌, eq-eqb, eqb-true, slice_get}
use Rattle.std.proofs.lemmas.Bool.Decides.{eqb_tells}
use Rattle.charlotte_calls.specs.declared.calls.Answer.{Answer}
use Rattle.charlotte_calls.specs.declared.calls.Answer.TheVariants as answer
use Rattle.charlotte_calls.specs.declared.calls.Report.{Report}
use Rattle.charlotte_calls.specs.declared.calls.ServiceStep.{ServiceStep}
use Rattle.charlotte_calls.specs.declared.calls.ServiceStep.TheVariants as step
use Rattle.charlotte_calls.specs.declared.names.EndId.{EndId}
use Rattle.charlotte_calls.specs.declared.names.Pid.{Pid}
use Rattle.charlotte_packets.specs.declared.picture.Picture.{Picture}
use Rattle.end_table.proofs.EndEq.{end_eq-refl, end_eq-same, put-at, put-other}
use Rattle.end_table.specs.Place.{end_eq, put}
use Rattle.theorem_take_gone.specs.Effect.{Effect}
use Rattle.theorem_take_gone.specs.Closing.{process_after, told, told_entry}
use Rattle.kernel_sound.proofs.Reports.{IsSound-reported}
use Rattle.kernel_sound.specs.Sound.{IsSound}
use Rattle.kernel_step.specs.Kernel.{Process as KernelProcess, is_waiting, process_of, reported_entry}
use Rattle.kernel_step.specs.declared.phase.Phase.TheVariants as kernel_phase
use Rattle.kernel_world.specs.World.{Takes, World, happens}
use Rattle.service_consistent.proofs.Laws.{consistent_after}
use Rattle.service_lawful.specs.Consistent.{IsConsistent}
use Rattle.service_step.specs.State.{Process, State, later}
use Rattle.service_step.specs.State as service
use Rattle.service_step.specs.Steps.{IsServiceStep, after_report}
use Rattle.service_step.specs.declared.state.End.{End}
use Rattle.service_step.specs.declared.state.Phase.TheVariants as phase
use Rattle.theorem_take_gone.proofs.Lists.{first}
use Rattle.theorem_take_gone.specs.Change.{Change, Changes, Happens}
use Rattle.theorem_take_gone.specs.Events.{taking}
use Rattle.theorem_meaning.proofs.Goes.{Goes}
use Rattle.theorem_meaning.specs.Invariant.{AreRight, Invariant}
use Rattle.theorem_meaning.specs.Packets.{Links, links_of}
use Rattle.theorem_meaning.specs.StandsFor.{AreLinksOf, IsProcessOf, home_of, service_phase}
use Rattle.theorem_take_gone.proofs.Completed.{waiting-Waiting, waiting-service}
use Rattle.theorem_take_gone.proofs.World.{processes-told, setting-after, sound-same}
use Rattle.theorem_take_gone.proofs.Told.{told-links, told-process, told-process-other, told-right}

module _ (i : ℕ) (w : World) (s : State) (is : Invariant i w s) (k from : ℕ) (q : Picture) (f : Effect) (p : Pid) (given : List Answer) (rs : List Report) (happened : Happens w (Takes k from) (taking w k from q f p given rs)) where
  abbrev c : Change
  c = taking w k from q f p given rs

  abbrev pub after : World
  after = happens w (Takes k from)

  abbrev b : Changes (links_of w) c (links_of after)
  b = happened.becomes.links

  -- the links before a report is told
  abbrev pub untold : Links
  untold = record { entry = λ j e. if nat_eq j k then f.entry e ((w.kernel j).table e) else (w.kernel j).table e; packets = after.packets }

  abbrev pub quietly : Change
  quietly = record c { entry = f.entry }

  pub untold-changes : Changes (links_of w) quietly untold
  untold-changes =
      record {
        entry = λ e. ap (λ a. if a then f.entry e ((w.kernel k).table e) else (w.kernel k).table e) (eq-eqb k k refl);
        others = λ j e apart. ap (λ a. if a then f.entry e ((w.kernel j).table e) else (w.kernel j).table e) apart;
        left = b.left;
        before = b.before;
        after = b.after;
      }

  -- the report that is told at once
  abbrev now : List Report
  now = told (process_of p (w.kernel k)).phase given rs

  entry-own : (e : EndId) → (after.kernel k).table e ≡ told_entry now e (untold.entry k e)
  entry-own e = b.entry e ∙ ap (told_entry now e) (sym (untold-changes.entry e))

  entry-other : (j : ℕ) (e : EndId) → nat_eq j k ≡ false → (after.kernel j).table e ≡ untold.entry j e
  entry-other j e far = b.others j e far ∙ sym (untold-changes.others j e far)

  -- the step of the service, and the state after it
  module _ (t : EndId → End) (g : ℕ → Process) (st : ServiceStep) (steps : f.steps ≡ st ∷ []) (stepped : IsServiceStep s st (record s { ends = t; process = g })) (links : AreLinksOf untold (record s { ends = t; process = g }))
      (right : AreRight (i + 1) untold (record s { ends = t; process = g })) (sound : IsSound k (w.kernel k).made (length s.homes) (λ e. f.entry e ((w.kernel k).table e))) (home : home_of s p ≡ k) (below : p.0 < length s.homes)
      (another : (a : ℕ) → nat_eq p.0 a ≡ false → g a ≡ s.process a) where
    abbrev then_state : State
    then_state = record s { ends = t; process = g }

    abbrev x : KernelProcess
    x = process_of p (w.kernel k)

    service-then : IsConsistent then_state
    service-then = consistent_after s st then_state is.service stepped

    stood : IsProcessOf x (s.process p.0)
    stood = subst (λ j. IsProcessOf ((w.kernel j).process p.0) (s.process p.0)) home (is.stands.processes p below)

    untold-sound : IsSound k (w.kernel k).made (length s.homes) (untold.entry k)
    untold-sound = sound-same k (w.kernel k).made (length s.homes) (λ e. f.entry e ((w.kernel k).table e)) (untold.entry k) untold-changes.entry sound

    -- ---- no report is told

    untold-goes : now ≡ [] → IsProcessOf (process_after x given rs) (g p.0) → ((g p.0).phase ≡ phase.Waiting → (g p.0).reports ≡ []) → Goes i w s (Takes k from)
    untold-goes none process waits =
        record {
          part = (st, then_state) ∷ [];
          steps = sym (happened.steps ∙ ap (λ l. l ++ map (step.Report p) now) steps ∙ ap (λ l. st ∷ map (step.Report p) l) none);
          run = (stepped, tt);
          after =
              record {
                stands = record { processes = processes-told happened.becomes s t g home process another is.stands.processes; links = subst (λ l. AreLinksOf l then_state) (sym same) links };
                service = service-then;
                setting = setting-after happened.becomes s t g refl (sound-same k (w.kernel k).made (length s.homes) (untold.entry k) (after.kernel k).table (λ e. entry-own e ∙ ap (λ l. told_entry l e (untold.entry k e)) none) untold-sound) is.setting;
                links = subst (λ l. AreRight (i + 1) l then_state) (sym same) right;
                waiting = λ a waiting. by a waiting (nat_eq p.0 a.0) refl;
              };
          homes = refl;
        }
      where
        entry-same : (j : ℕ) (e : EndId) → (after.kernel j).table e ≡ untold.entry j e
        entry-same j e = by (eqb_tells j k)
          where
            by : ((nat_eq j k ≡ true) × (j ≡ k)) ⊎ ((nat_eq j k ≡ false) × (j ≢ k)) → (after.kernel j).table e ≡ untold.entry j e
            by (inl own) = subst (λ z. (after.kernel z).table e ≡ untold.entry z e) (sym own.1) (entry-own e ∙ ap (λ l. told_entry l e (untold.entry k e)) none)
            by (inr far) = entry-other j e far.0

        same : links_of after ≡ untold
        same = λ z. record { entry = λ j e. entry-same j e z; packets = after.packets }

        by : (a : Pid) → (g a.0).phase ≡ phase.Waiting → (z : Bool) → nat_eq p.0 a.0 ≡ z → (g a.0).reports ≡ []
        by a waiting true same = subst (λ z. (g z).reports ≡ []) (eqb-true p.0 a.0 same) (waits (subst (λ z. (g z).phase ≡ phase.Waiting) (sym (eqb-true p.0 a.0 same)) waiting))
        by a waiting false other = ap (λ (z : Process). z.reports) (another a.0 other) ∙ is.waiting a (sym (ap (λ (z : Process). z.phase) (another a.0 other)) ∙ waiting)

    -- ---- the report r is told

    module _ (r : Report) (one : now ≡ r ∷ []) (waits : (g p.0).phase ≡ phase.Waiting) (l : List Report) (first-is : (g p.0).reports ≡ r ∷ l) where
      abbrev next : State
      next = after_report p r then_state

      r-there : Contains (g p.0).reports r
      r-there = subst (λ z. Contains z r) (sym first-is) (first r l)

      own-told : (e : EndId) → (after.kernel (home_of s p)).table e ≡ told_entry (r ∷ []) e (untold.entry (home_of s p) e)
      own-told e = subst (λ z. (after.kernel z).table e ≡ told_entry (r ∷ []) e (untold.entry z e)) (sym home) (entry-own e ∙ ap (λ z. told_entry z e (untold.entry k e)) one)

      other-told : (j : ℕ) (e : EndId) → nat_eq j (home_of s p) ≡ false → (after.kernel j).table e ≡ untold.entry j e
      other-told j e far = entry-other j e (sym (ap (nat_eq j) home) ∙ far)

      reported : IsServiceStep then_state (step.Report p r) next
      reported = record { allowed = (ap (λ z. service.is_waiting z) waits, ap (λ z. slice_get z 0) first-is); after = refl }

      next-own : next.process p.0 ≡ record { phase = phase.Running; reports = l }
      next-own =
          told-process untold then_state service-then links p r r-there waits (λ j. (after.kernel j).table) own-told other-told ∙ ap (λ z. record { phase = phase.Running; reports = later z }) first-is

      next-other : (a : ℕ) → nat_eq p.0 a ≡ false → next.process a ≡ s.process a
      next-other a far = told-process-other untold then_state service-then links p r r-there waits (λ j. (after.kernel j).table) own-told other-told (record { 0 = a }) far ∙ another a far

      told-sound : IsSound k (w.kernel k).made (length s.homes) (after.kernel k).table
      told-sound =
          sound-same k (w.kernel k).made (length s.homes) (put (untold.entry k) r.on (reported_entry r.way (untold.entry k r.on))) (after.kernel k).table (λ e. entry-own e ∙ ap (λ z. told_entry z e (untold.entry k e)) one ∙ by e (end_eq r.on e) refl)
          (IsSound-reported r.way r.on (untold.entry k) k (w.kernel k).made (length s.homes) untold-sound)
        where
          by : (e : EndId) (a : Bool) → end_eq r.on e ≡ a → told_entry (r ∷ []) e (untold.entry k e) ≡ put (untold.entry k) r.on (reported_entry r.way (untold.entry k r.on)) e
          by e true is =
              subst (λ z. told_entry (r ∷ []) z (untold.entry k z) ≡ put (untold.entry k) r.on (reported_entry r.way (untold.entry k r.on)) z) (end_eq-same r.on e is)
              (ap (λ a. if a then reported_entry r.way (untold.entry k r.on) else untold.entry k r.on) (end_eq-refl r.on) ∙ sym (put-at (untold.entry k) r.on (reported_entry r.way (untold.entry k r.on))))
          by e false is = ap (λ a. if a then reported_entry r.way (untold.entry k e) else untold.entry k e) is ∙ sym (put-other (untold.entry k) r.on (reported_entry r.way (untold.entry k r.on)) e is)

      told-goes : IsProcessOf (process_after x given rs) (next.process p.0) → Goes i w s (Takes k from)
      told-goes process =
          record {
            part = (st, then_state) ∷ (step.Report p r, next) ∷ [];
            steps = sym (happened.steps ∙ ap (λ l. l ++ map (step.Report p) now) steps ∙ ap (λ l. st ∷ map (step.Report p) l) one);
            run = (stepped, (reported, tt));
            after =
                record {
                  stands =
                      record {
                        processes = processes-told happened.becomes s next.ends next.process home process next-other is.stands.processes;
                        links = told-links untold then_state service-then links p r r-there waits (λ j. (after.kernel j).table) own-told other-told;
                      };
                  service = consistent_after then_state (step.Report p r) next service-then reported;
                  setting = setting-after happened.becomes s next.ends next.process refl told-sound is.setting;
                  links = told-right untold then_state service-then links p r r-there waits (λ j. (after.kernel j).table) own-told other-told (i + 1) right;
                  waiting = λ a waiting. by a waiting (nat_eq p.0 a.0) refl;
                };
            homes = refl;
          }
        where
          by : (a : Pid) → (next.process a.0).phase ≡ phase.Waiting → (z : Bool) → nat_eq p.0 a.0 ≡ z → (next.process a.0).reports ≡ []
          by a waiting true same =
              absurd (let both : phase.Running ≡ phase.Waiting = sym (ap (λ (z : Process). z.phase) next-own) ∙ subst (λ z. (next.process z).phase ≡ phase.Waiting) (sym (eqb-true p.0 a.0 same)) waiting in cc)
          by a waiting false other = ap (λ (z : Process). z.reports) (next-other a.0 other) ∙ is.waiting a (sym (ap (λ (z : Process). z.phase) (next-other a.0 other)) ∙ waiting)

-- a Cancel of it is answered
pub answered-goes : (i : ℕ) (w : World) (s : State) (is : Invariant i w s) (k from : ℕ) (q : Picture) (f : Effect) (p : Pid) (a : Answer) (rs : List Report) (happened : Happens w (Takes k from) (taking w k from q f p (a ∷ []) rs))
    (t : EndId → End) (g : ℕ → Process) (st : ServiceStep) → f.steps ≡ st ∷ [] → IsServiceStep s st (record s { ends = t; process = g }) → AreLinksOf (untold i w s is k from q f p (a ∷ []) rs happened) (record s { ends = t; process = g })
    → AreRight (i + 1) (untold i w s is k from q f p (a ∷ []) rs happened) (record s { ends = t; process = g }) → IsSound k (w.kernel k).made (length s.homes) (λ e. f.entry e ((w.kernel k).table e)) → home_of s p ≡ k → p.0 < length s.homes
    → ((a : ℕ) → nat_eq p.0 a ≡ false → g a ≡ s.process a) → g p.0 ≡ record { phase = phase.Running; reports = (s.process p.0).reports ++ rs } → Goes i w s (Takes k from)
answered-goes i w s is k from q f p a rs happened t g st steps stepped links right sound home below another own =
    untold-goes i w s is k from q f p (a ∷ []) rs happened t g st steps stepped links right sound home below another refl
    (record {
      phase = ap (λ (z : Process). z.phase) own;
      unanswered = λ suspended. absurd suspended;
      reports = ap (λ (z : Process). z.reports) own ∙ ap (λ l. l ++ rs) (stood i w s is k from q f p (a ∷ []) rs happened t g st steps stepped links right sound home below another).reports;
    })
    (λ waits. absurd (let both : phase.Running ≡ phase.Waiting = sym (ap (λ (z : Process). z.phase) own) ∙ waits in cc))

-- none waits to be answered, and there are reports
pub reported-goes : (i : ℕ) (w : World) (s : State) (is : Invariant i w s) (k from : ℕ) (q : Picture) (f : Effect) (p : Pid) (r : Report) (rs : List Report) (happened : Happens w (Takes k from) (taking w k from q f p [] (r ∷ rs)))
    (t : EndId → End) (g : ℕ → Process) (st : ServiceStep) → f.steps ≡ st ∷ [] → IsServiceStep s st (record s { ends = t; process = g }) → AreLinksOf (untold i w s is k from q f p [] (r ∷ rs) happened) (record s { ends = t; process = g })
    → AreRight (i + 1) (untold i w s is k from q f p [] (r ∷ rs) happened) (record s { ends = t; process = g }) → IsSound k (w.kernel k).made (length s.homes) (λ e. f.entry e ((w.kernel k).table e)) → home_of s p ≡ k → p.0 < length s.homes
    → ((a : ℕ) → nat_eq p.0 a ≡ false → g a ≡ s.process a) → g p.0 ≡ record { phase = (s.process p.0).phase; reports = (s.process p.0).reports ++ (r ∷ rs) } → Goes i w s (Takes k from)
reported-goes i w s is k from q f p r rs happened t g st steps stepped links right sound home below another own = by (is_waiting (process_of p (w.kernel k)).phase) refl
  where
    x : KernelProcess
    x = process_of p (w.kernel k)

    at_home : IsProcessOf (process_of p (w.kernel k)) (s.process p.0)
    at_home = stood i w s is k from q f p [] (r ∷ rs) happened t g st steps stepped links right sound home below another

    joined : is_waiting (process_of p (w.kernel k)).phase ≡ false → Goes i w s (Takes k from)
    joined busy =
        untold-goes i w s is k from q f p [] (r ∷ rs) happened t g st steps stepped links right sound home below another (ap (λ a. if a then r ∷ [] else []) busy)
        (subst (λ z. IsProcessOf z (g p.0))
        (sym (ap (λ a. if a then record { phase = kernel_phase.Running; reports = rs; answer = Some (answer.Reported r) } else record (process_of p (w.kernel k)) { reports = (process_of p (w.kernel k)).reports ++ (r ∷ rs) }) busy))
        (record { phase = ap (λ (z : Process). z.phase) own ∙ at_home.phase; unanswered = at_home.unanswered; reports = ap (λ (z : Process). z.reports) own ∙ ap (λ l. l ++ (r ∷ rs)) at_home.reports }))
        (λ waits. absurd (waiting-service (process_of p (w.kernel k)).phase busy (sym at_home.phase ∙ sym (ap (λ (z : Process). z.phase) own) ∙ waits)))

    waited : is_waiting (process_of p (w.kernel k)).phase ≡ true → Goes i w s (Takes k from)
    waited idle =
        told-goes i w s is k from q f p [] (r ∷ rs) happened t g st steps stepped links right sound home below another r (ap (λ a. if a then r ∷ [] else []) idle) waits rs alone
        (subst (λ z. IsProcessOf z ((after_report p r (record s { ends = t; process = g })).process p.0))
        (sym (ap (λ a. if a then record { phase = kernel_phase.Running; reports = rs; answer = Some (answer.Reported r) } else record (process_of p (w.kernel k)) { reports = (process_of p (w.kernel k)).reports ++ (r ∷ rs) }) idle))
        (record { phase = ap (λ (z : Process). z.phase) own_next; unanswered = λ suspended. absurd suspended; reports = ap (λ (z : Process). z.reports) own_next }))
      where
        waiting_before : (s.process p.0).phase ≡ phase.Waiting
        waiting_before = at_home.phase ∙ ap service_phase (waiting-Waiting (process_of p (w.kernel k)).phase idle)

        waits : (g p.0).phase ≡ phase.Waiting
        waits = ap (λ (z : Process). z.phase) own ∙ waiting_before

        alone : (g p.0).reports ≡ r ∷ rs
        alone = ap (λ (z : Process). z.reports) own ∙ ap (λ l. l ++ (r ∷ rs)) (is.waiting p waiting_before)

        own_next : (after_report p r (record s { ends = t; process = g })).process p.0 ≡ record { phase = phase.Running; reports = rs }
        own_next = next-own i w s is k from q f p [] (r ∷ rs) happened t g st steps stepped links right sound home below another r (ap (λ a. if a then r ∷ [] else []) idle) waits rs alone

    by : (b : Bool) → is_waiting (process_of p (w.kernel k)).phase ≡ b → Goes i w s (Takes k from)
    by true idle = waited idle
    by false busy = joined busy
