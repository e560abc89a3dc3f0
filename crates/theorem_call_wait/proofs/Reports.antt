-- A Wait that finds a report: the process is given its oldest report at once, and that way of the report's end is idle.
use Rattle.std.proofs.Common.{◌≡◌, ◌≢◌, ◌⊎◌, inl, inr, ℕ, ◌+◌, ◌<◌, Bool, true, false, nat_eq, not, cond, slice_get, slice_index, List, [], ◌∷◌, length, Contains, Some, None, refl, sym, ap, subst, ◌∙◌, true≢false, eq-eqb}
use Rattle.std.proofs.lemmas.Bool.Decides.{eqb_tells}
use Rattle.charlotte_calls.specs.declared.calls.Answer.{Answer}
use Rattle.charlotte_calls.specs.declared.calls.Answer.TheVariants as answer
use Rattle.charlotte_calls.specs.declared.calls.Call.TheVariants as call
use Rattle.charlotte_calls.specs.declared.calls.Report.{Report}
use Rattle.charlotte_calls.specs.declared.calls.ServiceStep.TheVariants as step
use Rattle.charlotte_calls.specs.declared.names.EndId.{EndId}
use Rattle.charlotte_calls.specs.declared.names.Pid.{Pid}
use Rattle.charlotte_calls.specs.declared.names.Way.{Way}
use Rattle.charlotte_calls.specs.declared.names.Way.TheVariants as way
use Rattle.charlotte_packets.specs.declared.picture.Picture.{Picture}
use Rattle.end_table.proofs.EndEq.{end_eq-same, put-at, put-other}
use Rattle.end_table.specs.Place.{end_eq, put}
use Rattle.end_table.specs.declared.entry.Entry.{Entry}
use Rattle.end_table.specs.declared.entry.Entry.TheVariants as entry
use Rattle.end_table.specs.declared.entry.HereView.{HereView}
use Rattle.end_table.specs.declared.entry.Inward.{Inward as KernelInward}
use Rattle.end_table.specs.declared.entry.Inward.TheVariants as kernel_inward
use Rattle.end_table.specs.declared.entry.Outward.{Outward as KernelOutward}
use Rattle.end_table.specs.declared.entry.Outward.TheVariants as kernel_outward
use Rattle.kernel_sound.proofs.Reports.{IsSound-reported}
use Rattle.kernel_sound.specs.Sound.{IsSound}
use Rattle.kernel_step.specs.Calls.{refusal}
use Rattle.kernel_step.specs.Kernel.{Kernel, Outcome, Process as KernelProcess, answers_wait, begins, call_step, closes, decides, has_report, inward_reported, join_answers, join_reports, next_stamp, outward_reported, performs, process_of, reported_entry, reported_view, waits, without_answer}
use Rattle.kernel_step.specs.Progress.{means}
use Rattle.kernel_step.specs.declared.phase.Phase.TheVariants as kernel_phase
use Rattle.theorem_effects.specs.World.{World, Event, Calls, adds_all, happens, outcome}
use Rattle.service_change.proofs.Change.{idle-over}
use Rattle.service_change.proofs.EndEq.{puts-at, puts-other}
use Rattle.service_change.proofs.Facts.{busy-made, put_process-at, put_process-other}
use Rattle.service_consistent.proofs.Laws.{consistent_after}
use Rattle.service_lawful.proofs.Turned.{turned, turned-other, turned-own, turned-reports}
use Rattle.service_lawful.specs.Consistent.{IsConsistent, is_over}
use Rattle.service_step.specs.Ends.{idles, is_idle, is_living, is_made, is_unreported_inward, is_unreported_outward, puts, turns_inward, turns_outward}
use Rattle.service_step.specs.State.{State, Process, given, is_waiting, later}
use Rattle.service_step.specs.Steps.{IsServiceStep, after_report}
use Rattle.service_step.specs.declared.state.End.{End}
use Rattle.service_step.specs.declared.state.Inward.{Inward}
use Rattle.service_step.specs.declared.state.Inward.TheVariants as inward
use Rattle.service_step.specs.declared.state.Outward.{Outward}
use Rattle.service_step.specs.declared.state.Outward.TheVariants as outward
use Rattle.service_step.specs.declared.state.Phase.TheVariants as phase
use Rattle.service_step.specs.declared.state.Place.TheVariants as place
use Rattle.theorem_effects.proofs.Lists.{first}
use Rattle.theorem_call_wait.proofs.Calm.{AreRight-later}
use Rattle.theorem_call_wait.proofs.Given.{AreTogether, links-given, right-given}
use Rattle.theorem_call_wait.proofs.Rested.{IsRested, IsRestedEntry, entry-rested}
use Rattle.theorem_call_wait.proofs.Waits.{same-list}
use Rattle.theorem_meaning.proofs.Ends.{eq-same}
use Rattle.theorem_meaning.proofs.Goes.{Goes}
use Rattle.theorem_meaning.proofs.Plain.{owner-same, view-same}
use Rattle.theorem_meaning.specs.Invariant.{AreRight, Invariant, IsOfSetting}
use Rattle.theorem_meaning.specs.Packets.{Links, links_of}
use Rattle.theorem_meaning.specs.StandsFor.{AreLinksOf, IsEndOf, IsInwardOf, IsOutwardOf, IsProcessOf, home_of}

-- ---- the kernel

-- a process whose standing answer was taken away, and that was given a report, the rest of its reports behind it
told : (b : Bool) (own other : KernelProcess) (rs : List Report) (a : Answer)
    → cond b (record (cond true (record (cond true (record own { answer = None }) own) { reports = rs }) (cond true (record own { answer = None }) own)) { phase = kernel_phase.Running; answer = Some a })
    (cond b (record (cond true (record own { answer = None }) own) { reports = rs }) (cond b (record own { answer = None }) other))
    ≡ cond b (record { phase = kernel_phase.Running; reports = rs; answer = Some a }) other
told true own other rs a = refl
told false own other rs a = refl

-- what a Wait does that finds the report r, and rs behind it
pub record IsTelling (k : Kernel) (p : Pid) (r : Report) (rs : List Report) (o : Outcome) : Type 0 where
  pub number : o.kernel.number ≡ k.number
  pub kernels : o.kernel.kernels ≡ k.kernels
  pub version : o.kernel.version ≡ k.version
  pub made : o.kernel.made ≡ k.made
  pub table : o.kernel.table ≡ put k.table r.on (reported_entry r.way (k.table r.on))
  pub packets : o.packets ≡ []
  pub steps : o.steps ≡ step.Wait p ∷ step.Report p r ∷ []
  pub process : (q : ℕ) → o.kernel.process q ≡ cond (nat_eq p.0 q) (record { phase = kernel_phase.Running; reports = rs; answer = Some (answer.Reported r) }) (k.process q)

tells-is : (k : Kernel) (p : Pid) (r : Report) (rs : List Report) (stamp : ℕ) → IsTelling k p r rs (waits p (r ∷ rs) (closes (without_answer p k) (means (step.Wait p) (begins (without_answer p k) stamp))))
unfolding closes join_reports join_answers means answers_wait
tells-is k p r rs stamp =
    record {
      number = refl;
      kernels = refl;
      version = refl;
      made = refl;
      table = refl;
      packets = refl;
      steps = refl;
      process = λ q. ap (λ c. cond (nat_eq p.0 q)
          (record (cond c (record (cond c (record (k.process p.0) { answer = None }) (k.process p.0)) { reports = rs }) (cond c (record (k.process p.0) { answer = None }) (k.process p.0))) { phase = kernel_phase.Running; answer = Some (answer.Reported r) })
          (cond (nat_eq p.0 q) (record (cond c (record (k.process p.0) { answer = None }) (k.process p.0)) { reports = rs }) (cond (nat_eq p.0 q) (record (k.process p.0) { answer = None }) (k.process q)))) (eq-eqb p.0 p.0 refl)
          ∙ told (nat_eq p.0 q) (k.process p.0) (k.process q) rs (answer.Reported r);
    }

-- a Wait that is not refused and finds a report
pub telling-is : (k : Kernel) (p : Pid) (mine : List EndId) (r : Report) (rs : List Report) → refusal p k.table k.made mine (has_report (process_of p k)) call.Wait ≡ None → (process_of p k).reports ≡ r ∷ rs
    → IsTelling k p r rs (call_step (without_answer p k) p mine call.Wait)
unfolding call_step performs
telling-is k p mine r rs granted front =
    subst (λ c. IsTelling k p r rs (decides p (without_answer p k) mine call.Wait c (begins (without_answer p k) (next_stamp k.stamp))))
    (sym (ap (λ (l : List Report). refusal p k.table k.made mine (not (nat_eq (length l) 0)) call.Wait) (same-list k p) ∙ granted))
    (subst (λ l. IsTelling k p r rs (waits p l (closes (without_answer p k) (means (step.Wait p) (begins (without_answer p k) (next_stamp k.stamp)))))) (sym (same-list k p ∙ front)) (tells-is k p r rs (next_stamp k.stamp)))

-- ---- one end

-- that way of an end is idle
abbrev pub idle_way : Way → End → End
idle_way way.Outward x = record x { outward = outward.Idle }
idle_way way.Inward x = record x { inward = inward.Idle }

pub idles-is : (wy : Way) (e : EndId) (t : EndId → End) → idles wy e t ≡ puts e (idle_way wy (t e)) t
unfolding idles turns_outward turns_inward
idles-is way.Outward e t = refl
idles-is way.Inward e t = refl

over-outward : (o : Outward) → is_unreported_outward o ≡ true → o ≡ outward.Unreported
over-outward outward.Unreported over = refl
over-outward outward.Idle over = absurd (true≢false (sym over))
over-outward (outward.Waiting m) over = absurd (true≢false (sym over))
over-outward (outward.Matched m) over = absurd (true≢false (sym over))
over-outward outward.Taken over = absurd (true≢false (sym over))

over-inward : (i : Inward) → is_unreported_inward i ≡ true → i ≡ inward.Unreported
over-inward inward.Unreported over = refl
over-inward inward.Idle over = absurd (true≢false (sym over))
over-inward inward.Posted over = absurd (true≢false (sym over))
over-inward inward.Withdrawn over = absurd (true≢false (sym over))
over-inward (inward.Matched n) over = absurd (true≢false (sym over))

pub idle-rested : (wy : Way) (x : End) → is_over wy x ≡ true → IsRested x (idle_way wy x)
idle-rested way.Outward x over = record { place = refl; sent = refl; noticed = refl; outward = inr (over-outward x.outward over, refl); inward = inl refl }
idle-rested way.Inward x over = record { place = refl; sent = refl; noticed = refl; outward = inl refl; inward = inr (over-inward x.inward over, refl) }

-- what is over in the service is over at the kernel, and idle once it is reported
outward-idle : (w : Links) (e : EndId) (n : ℕ) (o : KernelOutward) → IsOutwardOf w e n o outward.Unreported → outward_reported o ≡ kernel_outward.Idle
outward-idle w e n kernel_outward.Unreported is = refl
outward-idle w e n _ is = absurd is

inward-idle : (w : Links) (e : EndId) (i : KernelInward) → IsInwardOf w e i inward.Unreported → inward_reported i ≡ kernel_inward.Idle
inward-idle w e kernel_inward.Unreported is = refl
inward-idle w e _ is = absurd is

pub both-rest : (w : Links) (e : EndId) (wy : Way) (v : HereView) (x : End) → is_over wy x ≡ true → IsEndOf w e v x → AreTogether v (reported_view wy v) x (idle_way wy x)
both-rest w e way.Outward v x over is = record { outward = inr (outward-idle w e x.sent v.outward (subst (IsOutwardOf w e x.sent v.outward) (over-outward x.outward over) is.outward), refl); inward = inl (refl, refl) }
both-rest w e way.Inward v x over is = record { outward = inl (refl, refl); inward = inr (inward-idle w e v.inward (subst (IsInwardOf w e v.inward) (over-inward x.inward over) is.inward), refl) }

-- ---- the ends of the service once a report was told

module _ (s : State) (kept : IsConsistent s) (p : Pid) (r : Report) (there : Contains (s.process p.0).reports r) where
  -- the ends then
  abbrev idle_ends : EndId → End
  idle_ends = idles r.way r.on s.ends

  pub reported-over : is_over r.way (s.ends r.on) ≡ true
  reported-over = kept.reported.over p r there

  made : is_made (s.ends r.on).place ≡ true
  made = busy-made s r.on kept (by (is_idle (s.ends r.on)) refl)
    where
      by : (b : Bool) → is_idle (s.ends r.on) ≡ b → is_idle (s.ends r.on) ≡ false
      by true idle = absurd (true≢false (sym reported-over ∙ idle-over r.way (s.ends r.on) idle))
      by false busy = busy

  pub idled-own : idle_ends r.on ≡ idle_way r.way (s.ends r.on)
  idled-own = ap (λ (f : EndId → End). f r.on) (idles-is r.way r.on s.ends) ∙ puts-at r.on (idle_way r.way (s.ends r.on)) s.ends made

  pub idled-other : (f : EndId) → end_eq r.on f ≡ false → idle_ends f ≡ s.ends f
  idled-other f apart = ap (λ (g : EndId → End). g f) (idles-is r.way r.on s.ends) ∙ puts-other r.on (idle_way r.way (s.ends r.on)) s.ends f (eq-same r.on f ∙ apart)

  pub idled-rested : (f : EndId) → IsRested (s.ends f) (idle_ends f)
  idled-rested f = by (end_eq r.on f) refl
    where
      same : IsRested (s.ends f) (s.ends f)
      same = record { place = refl; sent = refl; noticed = refl; outward = inl refl; inward = inl refl }

      by : (b : Bool) → end_eq r.on f ≡ b → IsRested (s.ends f) (idle_ends f)
      by true own = subst (λ z. IsRested (s.ends z) (idle_ends z)) (end_eq-same r.on f own) (subst (IsRested (s.ends r.on)) (sym idled-own) (idle-rested r.way (s.ends r.on) reported-over))
      by false apart = subst (IsRested (s.ends f)) (sym (idled-other f apart)) same

-- ---- the world

module _ (i : ℕ) (w : World) (s : State) (k : ℕ) (p : Pid) (mine : List EndId) (r : Report) (rs : List Report) (is : Invariant i w s) (does : IsTelling (w.kernel k) p r rs (outcome w (Calls k p call.Wait mine)))
    (below : p.0 < length s.homes) (at : home_of s p ≡ k) (ran : (s.process p.0).phase ≡ phase.Running) (front : ((w.kernel k).process p.0).reports ≡ r ∷ rs)
    (waits : IsServiceStep s (step.Wait p) (turned s p phase.Waiting)) where
  abbrev e : Event
  e = Calls k p call.Wait mine

  abbrev o : Outcome
  o = outcome w e

  -- the state after the Wait, and that after the report
  abbrev between : State
  between = turned s p phase.Waiting

  abbrev t : State
  t = after_report p r between

  abbrev after : ℕ → EndId → Entry
  after = λ q. ((happens w e).kernel q).table

  -- ---- the report

  mine_reports : (s.process p.0).reports ≡ r ∷ rs
  mine_reports = (subst (λ j. IsProcessOf ((w.kernel j).process p.0) (s.process p.0)) at (is.stands.processes p below)).reports ∙ front

  there : Contains (s.process p.0).reports r
  there = subst (λ l. Contains l r) (sym mine_reports) (first r rs)

  end-is : (f : EndId) → IsRested (s.ends f) (t.ends f)
  end-is = idled-rested s is.service p r there

  -- ---- the entries of kernels

  -- what is so of a kernel where it was so before and after the call at k
  each-kernel : (P : ℕ → Kernel → Type 0) → P k o.kernel → ((q : ℕ) → P q (w.kernel q)) → (q : ℕ) → P q ((happens w e).kernel q)
  each-kernel P own others q = by (eqb_tells q k)
    where
      by : ((nat_eq q k ≡ true) × (q ≡ k)) ⊎ ((nat_eq q k ≡ false) × (q ≢ k)) → P q (cond (nat_eq q k) o.kernel (w.kernel q))
      by (inl h) = subst (λ b. P q (cond b o.kernel (w.kernel q))) (sym h.0) (subst (λ j. P j o.kernel) (sym h.1) own)
      by (inr h) = subst (λ b. P q (cond b o.kernel (w.kernel q))) (sym h.0) (others q)

  table-own : o.kernel.table r.on ≡ reported_entry r.way ((w.kernel k).table r.on)
  table-own = ap (λ (f : EndId → Entry). f r.on) does.table ∙ put-at (w.kernel k).table r.on (reported_entry r.way ((w.kernel k).table r.on))

  table-other : (f : EndId) → end_eq r.on f ≡ false → o.kernel.table f ≡ (w.kernel k).table f
  table-other f apart = ap (λ (g : EndId → Entry). g f) does.table ∙ put-other (w.kernel k).table r.on (reported_entry r.way ((w.kernel k).table r.on)) f apart

  after-other : (q : ℕ) (f : EndId) → end_eq r.on f ≡ false → after q f ≡ (w.kernel q).table f
  after-other q f apart = each-kernel (λ j (z : Kernel). z.table f ≡ (w.kernel j).table f) (table-other f apart) (λ j. refl) q

  entry-is : (q : ℕ) (f : EndId) → IsRestedEntry ((w.kernel q).table f) (after q f)
  entry-is q f = each-kernel (λ j (z : Kernel). IsRestedEntry ((w.kernel j).table f) (z.table f)) (by (end_eq r.on f) refl) (λ j. inl refl) q
    where
      by : (b : Bool) → end_eq r.on f ≡ b → IsRestedEntry ((w.kernel k).table f) (o.kernel.table f)
      by true own =
          subst (λ z. IsRestedEntry ((w.kernel k).table z) (o.kernel.table z)) (end_eq-same r.on f own)
          (subst (IsRestedEntry ((w.kernel k).table r.on)) (sym table-own) (entry-rested r.way ((w.kernel k).table r.on)))
      by false apart = inl (table-other f apart)

  links-is : links_of (happens w e) ≡ record { entry = after; packets = w.packets }
  links-is = λ j. record { entry = after; packets = ap (λ (ps : List (ℕ × Picture)). adds_all k ps w.packets) does.packets j }

  -- the owner's kernel and the service have the same of each end
  together : (f : EndId) (q : Pid) (v u : HereView) → (s.ends f).place ≡ place.Owned q → (w.kernel (home_of s q)).table f ≡ entry.Here v → after (home_of s q) f ≡ entry.Here u → AreTogether v u (s.ends f) (t.ends f)
  together f q v u owned here now = by (end_eq r.on f) refl
    where
      other : end_eq r.on f ≡ false → AreTogether v u (s.ends f) (t.ends f)
      other apart =
          let same = view-same v u (sym here ∙ sym (after-other (home_of s q) f apart) ∙ now) in
          record {
            outward = inl (ap (λ (z : HereView). z.outward) (sym same), ap (λ (z : End). z.outward) (idled-other s is.service p r there f apart));
            inward = inl (ap (λ (z : HereView). z.inward) (sym same), ap (λ (z : End). z.inward) (idled-other s is.service p r there f apart));
          }

      own : (g : EndId) → r.on ≡ g → (s.ends g).place ≡ place.Owned q → (w.kernel (home_of s q)).table g ≡ entry.Here v → after (home_of s q) g ≡ entry.Here u → AreTogether v u (s.ends r.on) (t.ends r.on)
      own g same owned here now = subst (AreTogether v u (s.ends r.on)) (sym (idled-own s is.service p r there)) (subst (λ z. AreTogether v z (s.ends r.on) (idle_way r.way (s.ends r.on))) (sym view) (both-rest (links_of w) r.on r.way v (s.ends r.on) (reported-over s is.service p r there) agrees))
        where
          placed : (s.ends r.on).place ≡ place.Owned q
          placed = subst (λ z. (s.ends z).place ≡ place.Owned q) (sym same) owned

          its : p ≡ q
          its = owner-same p q (sym (is.service.reported.own p r there (ap is_living placed)) ∙ placed)

          home : home_of s q ≡ k
          home = ap (home_of s) (sym its) ∙ at

          was : (w.kernel (home_of s q)).table r.on ≡ entry.Here v
          was = subst (λ z. (w.kernel (home_of s q)).table z ≡ entry.Here v) (sym same) here

          agrees : IsEndOf (links_of w) r.on v (s.ends r.on)
          agrees = is.stands.links.agree r.on q v placed was

          reported : o.kernel.table r.on ≡ entry.Here (reported_view r.way v)
          reported = table-own ∙ ap (reported_entry r.way) (subst (λ j. (w.kernel j).table r.on ≡ entry.Here v) home was)

          found : o.kernel.table r.on ≡ entry.Here u
          found = sym (ap (λ b. (cond b o.kernel (w.kernel k)).table r.on) (eq-eqb k k refl)) ∙ subst (λ j. after j r.on ≡ entry.Here u) home (subst (λ z. after (home_of s q) z ≡ entry.Here u) (sym same) now)

          view : u ≡ reported_view r.way v
          view = view-same u (reported_view r.way v) (sym found ∙ reported)

      by : (b : Bool) → end_eq r.on f ≡ b → AreTogether v u (s.ends f) (t.ends f)
      by true same = subst (λ z. AreTogether v u (s.ends z) (t.ends z)) (end_eq-same r.on f same) (own f (end_eq-same r.on f same) owned here now)
      by false apart = other apart

  -- ---- processes

  process-own : t.process p.0 ≡ record { phase = phase.Running; reports = rs }
  unfolding given
  process-own = put_process-at p (record { phase = phase.Running; reports = later (between.process p.0).reports }) between.process
      ∙ ap (λ (l : List Report). record { phase = phase.Running; reports = later l }) (turned-reports s p phase.Waiting p.0 ∙ mine_reports)

  process-other : (q : Pid) → nat_eq p.0 q.0 ≡ false → t.process q.0 ≡ s.process q.0
  unfolding given
  process-other q apart = put_process-other p (record { phase = phase.Running; reports = later (between.process p.0).reports }) between.process q apart ∙ turned-other s p phase.Waiting q.0 apart

  -- p runs, and every other process is as before
  each-process : (P : ℕ → Process → Type 0) → P p.0 (record { phase = phase.Running; reports = rs }) → ((q : Pid) → nat_eq p.0 q.0 ≡ false → P q.0 (s.process q.0)) → (q : Pid) → P q.0 (t.process q.0)
  each-process P own others q = by (eqb_tells p.0 q.0)
    where
      by : ((nat_eq p.0 q.0 ≡ true) × (p.0 ≡ q.0)) ⊎ ((nat_eq p.0 q.0 ≡ false) × (p.0 ≢ q.0)) → P q.0 (t.process q.0)
      by (inl same) = subst (λ z. P z (t.process z)) same.1 (subst (P p.0) (sym process-own) own)
      by (inr apart) = subst (P q.0) (sym (process-other q apart.0)) (others q apart.0)

  still-cancelling : (q : Pid) (f : EndId) → (s.process q.0).phase ≡ phase.Cancelling f → (t.process q.0).phase ≡ phase.Cancelling f
  still-cancelling q f = each-process (λ z (x : Process). (s.process z).phase ≡ phase.Cancelling f → x.phase ≡ phase.Cancelling f) (λ cancels. sym ran ∙ cancels) (λ q apart cancels. cancels) q

  was-cancelling : (q : Pid) (f : EndId) → (t.process q.0).phase ≡ phase.Cancelling f → (s.process q.0).phase ≡ phase.Cancelling f
  was-cancelling q f = each-process (λ z (x : Process). x.phase ≡ phase.Cancelling f → (s.process z).phase ≡ phase.Cancelling f) (λ cancels. ran ∙ cancels) (λ q apart cancels. cancels) q

  not-waiting : (q : Pid) → (t.process q.0).phase ≡ phase.Waiting → (t.process q.0).reports ≡ []
  not-waiting = each-process (λ z (x : Process). x.phase ≡ phase.Waiting → x.reports ≡ []) (λ waits. absurd (differ waits)) (λ q apart waits. is.waiting q waits)
    where
      differ : phase.Running ≡ phase.Waiting → ⊥
      differ same = cc

  processes : (q : Pid) → q.0 < length s.homes → IsProcessOf (((happens w e).kernel (home_of s q)).process q.0) (t.process q.0)
  processes q q_below = by (eqb_tells (home_of s q) k) (eqb_tells p.0 q.0)
    where
      others : nat_eq p.0 q.0 ≡ false → IsProcessOf ((w.kernel (home_of s q)).process q.0) (t.process q.0)
      others other = subst (IsProcessOf ((w.kernel (home_of s q)).process q.0)) (sym (process-other q other)) (is.stands.processes q q_below)

      by : ((nat_eq (home_of s q) k ≡ true) × (home_of s q ≡ k)) ⊎ ((nat_eq (home_of s q) k ≡ false) × (home_of s q ≢ k)) → ((nat_eq p.0 q.0 ≡ true) × (p.0 ≡ q.0)) ⊎ ((nat_eq p.0 q.0 ≡ false) × (p.0 ≢ q.0))
          → IsProcessOf ((cond (nat_eq (home_of s q) k) o.kernel (w.kernel (home_of s q))).process q.0) (t.process q.0)
      by (inr h) (inl same) = absurd (h.1 (ap (λ n. slice_index s.homes n) (sym same.1) ∙ at))
      by (inr h) (inr other) = subst (λ b. IsProcessOf ((cond b o.kernel (w.kernel (home_of s q))).process q.0) (t.process q.0)) (sym h.0) (others other.0)
      by (inl h) (inr other) =
          subst (λ b. IsProcessOf ((cond b o.kernel (w.kernel (home_of s q))).process q.0) (t.process q.0)) (sym h.0)
          (subst (λ x. IsProcessOf x (t.process q.0)) (sym (does.process q.0 ∙ ap (λ b. cond b (record { phase = kernel_phase.Running; reports = rs; answer = Some (answer.Reported r) }) ((w.kernel k).process q.0)) other.0))
          (subst (λ j. IsProcessOf ((w.kernel j).process q.0) (t.process q.0)) h.1 (others other.0)))
      by (inl h) (inl same) =
          subst (λ b. IsProcessOf ((cond b o.kernel (w.kernel (home_of s q))).process q.0) (t.process q.0)) (sym h.0)
          (subst (λ x. IsProcessOf x (t.process q.0)) (sym (does.process q.0 ∙ ap (λ b. cond b (record { phase = kernel_phase.Running; reports = rs; answer = Some (answer.Reported r) }) ((w.kernel k).process q.0)) same.0))
          (subst (λ z. IsProcessOf (record { phase = kernel_phase.Running; reports = rs; answer = Some (answer.Reported r) }) (t.process z)) same.1
          (subst (IsProcessOf (record { phase = kernel_phase.Running; reports = rs; answer = Some (answer.Reported r) })) (sym process-own)
          (record { phase = refl; unanswered = λ suspended. absurd suspended; reports = refl }))))

  -- ---- the service

  reports-step : IsServiceStep between (step.Report p r) t
  reports-step =
      record {
        allowed = (
          ap (λ (x : Process). is_waiting x.phase) (turned-own s p phase.Waiting p.0 refl),
          ap (λ (l : List Report). slice_get l 0) (turned-reports s p phase.Waiting p.0 ∙ mine_reports),
        );
        after = refl;
      }

  consistent : IsConsistent t
  consistent = consistent_after between (step.Report p r) t (consistent_after s (step.Wait p) between is.service waits) reports-step

  -- ---- all of it

  setting : IsOfSetting (happens w e) t
  setting =
      record {
        few = is.setting.few;
        numbers = each-kernel (λ j (z : Kernel). z.number ≡ j) (does.number ∙ is.setting.numbers k) is.setting.numbers;
        kernels = each-kernel (λ j (z : Kernel). z.kernels ≡ length s.made) (does.kernels ∙ is.setting.kernels k) is.setting.kernels;
        version = each-kernel (λ j (z : Kernel). z.version ≡ s.version) (does.version ∙ is.setting.version k) is.setting.version;
        made = each-kernel (λ j (z : Kernel). slice_index s.made j ≡ z.made) (is.setting.made k ∙ sym does.made) is.setting.made;
        homes = is.setting.homes;
        sound = each-kernel (λ j (z : Kernel). IsSound j z.made (length s.homes) z.table)
            (subst (λ m. IsSound k m (length s.homes) o.kernel.table) (sym does.made)
            (subst (IsSound k (w.kernel k).made (length s.homes)) (sym does.table) (IsSound-reported r.way r.on (w.kernel k).table k (w.kernel k).made (length s.homes) (is.setting.sound k)))) is.setting.sound;
      }

  reports-invariant : Invariant (i + 1) (happens w e) t
  reports-invariant =
      record {
        stands =
            record {
              processes = processes;
              links = subst (λ l. AreLinksOf l t) (sym links-is) (links-given (links_of w) after s t.ends t.process entry-is end-is together is.stands.links);
            };
        service = consistent;
        setting = setting;
        links =
            AreRight-later i (links_of (happens w e)) t
            (subst (λ l. AreRight i l t) (sym links-is) (right-given (links_of w) after s t.ends t.process entry-is end-is still-cancelling was-cancelling i is.links));
        waiting = not-waiting;
      }

  -- the service goes with a Wait that finds a report, by a wait and a report
  pub reports-goes : Goes i w s e
  reports-goes =
      record {
        part = (step.Wait p, between) ∷ (step.Report p r, t) ∷ [];
        steps = sym does.steps;
        run = (waits, (reports-step, tt));
        after = reports-invariant;
        homes = refl;
      }
