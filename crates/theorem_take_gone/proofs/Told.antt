-- A process that waits is told a report: that way of the report's end is idle, at its kernel and in the service. All clauses on links stay.
use Rattle.std.proofs.Common.{◌≡◌, ◌≢◌, ◌⊎◌, inl, inr, ℕ, Bool, true, false, nat_eq, if◌then◌else◌, [], ◌∷◌, Contains, refl, sym, ap, subst, ◌∙◌, eqb-true}
use Rattle.std.proofs.lemmas.Bool.Decides.{eqb_tells}
use Rattle.charlotte_calls.specs.declared.calls.Report.{Report}
use Rattle.charlotte_calls.specs.declared.names.EndId.{EndId}
use Rattle.charlotte_calls.specs.declared.names.Pid.{Pid}
use Rattle.end_table.proofs.EndEq.{end_eq-refl, end_eq-same}
use Rattle.end_table.specs.Place.{end_eq}
use Rattle.end_table.specs.declared.entry.Entry.{Entry}
use Rattle.end_table.specs.declared.entry.Entry.TheVariants as entry
use Rattle.end_table.specs.declared.entry.HereView.{HereView}
use Rattle.theorem_call_wait.specs.Closing.{told_entry}
use Rattle.kernel_step.specs.Kernel.{reported_entry, reported_view}
use Rattle.service_change.proofs.Facts.{put_process-at, put_process-other}
use Rattle.service_lawful.specs.Consistent.{IsConsistent}
use Rattle.service_step.specs.Ends.{is_living}
use Rattle.service_step.specs.State.{Process, State, given, later}
use Rattle.service_step.specs.Steps.{after_report}
use Rattle.service_step.specs.declared.state.End.{End}
use Rattle.service_step.specs.declared.state.Phase.TheVariants as phase
use Rattle.service_step.specs.declared.state.Place.TheVariants as place
use Rattle.theorem_call_wait.proofs.Given.{AreTogether, links-given, right-given}
use Rattle.theorem_call_wait.proofs.Reports.{both-rest, idle_way, idled-other, idled-own, idled-rested, reported-over}
use Rattle.theorem_call_wait.proofs.Rested.{IsRested, IsRestedEntry, entry-rested}
use Rattle.theorem_meaning.proofs.Plain.{owner-same, view-same}
use Rattle.theorem_meaning.specs.Invariant.{AreRight}
use Rattle.theorem_meaning.specs.Packets.{Links}
use Rattle.theorem_meaning.specs.StandsFor.{AreLinksOf, IsEndOf, home_of}

-- the entries of a kernel once a report was told
told-at : (r : Report) (x : Entry) → told_entry (r ∷ []) r.on x ≡ reported_entry r.way x
told-at r x = ap (λ b. if b then reported_entry r.way x else x) (end_eq-refl r.on)

told-other : (r : Report) (q : EndId) (x : Entry) → end_eq r.on q ≡ false → told_entry (r ∷ []) q x ≡ x
told-other r q x apart = ap (λ b. if b then reported_entry r.way x else x) apart

module _ (w : Links) (s : State) (kept : IsConsistent s) (links : AreLinksOf w s) (p : Pid) (r : Report) (there : Contains (s.process p.0).reports r) (waits : (s.process p.0).phase ≡ phase.Waiting)
    (y : ℕ → EndId → Entry) (own : (q : EndId) → y (home_of s p) q ≡ told_entry (r ∷ []) q (w.entry (home_of s p) q)) (others : (j : ℕ) (q : EndId) → nat_eq j (home_of s p) ≡ false → y j q ≡ w.entry j q) where
  abbrev k : ℕ
  k = home_of s p

  abbrev t : State
  t = after_report p r s

  abbrev pub now : Links
  now = record { entry = y; packets = w.packets }

  end-is : (f : EndId) → IsRested (s.ends f) (t.ends f)
  end-is = idled-rested s kept p r there

  -- ---- the entries of kernels

  entry-own : y k r.on ≡ reported_entry r.way (w.entry k r.on)
  entry-own = own r.on ∙ told-at r (w.entry k r.on)

  entry-other : (j : ℕ) (f : EndId) → end_eq r.on f ≡ false → y j f ≡ w.entry j f
  entry-other j f apart = by (eqb_tells j k)
    where
      by : ((nat_eq j k ≡ true) × (j ≡ k)) ⊎ ((nat_eq j k ≡ false) × (j ≢ k)) → y j f ≡ w.entry j f
      by (inl same) = subst (λ z. y z f ≡ w.entry z f) (sym same.1) (own f ∙ told-other r f (w.entry k f) apart)
      by (inr far) = others j f far.0

  entry-is : (j : ℕ) (f : EndId) → IsRestedEntry (w.entry j f) (y j f)
  entry-is j f = by (eqb_tells j k) (end_eq r.on f) refl
    where
      by : ((nat_eq j k ≡ true) × (j ≡ k)) ⊎ ((nat_eq j k ≡ false) × (j ≢ k)) → (b : Bool) → end_eq r.on f ≡ b → IsRestedEntry (w.entry j f) (y j f)
      by (inl same) true on =
          subst (λ z. IsRestedEntry (w.entry z f) (y z f)) (sym same.1)
          (subst (λ z. IsRestedEntry (w.entry k z) (y k z)) (end_eq-same r.on f on) (subst (IsRestedEntry (w.entry k r.on)) (sym entry-own) (entry-rested r.way (w.entry k r.on))))
      by (inl same) false apart = inl (entry-other j f apart)
      by (inr far) b on = inl (others j f far.0)

  -- the owner's kernel and the service have the same of each end
  together : (f : EndId) (q : Pid) (v u : HereView) → (s.ends f).place ≡ place.Owned q → w.entry (home_of s q) f ≡ entry.Here v → y (home_of s q) f ≡ entry.Here u → AreTogether v u (s.ends f) (t.ends f)
  together f q v u owned here now = by (end_eq r.on f) refl
    where
      mine : (s.ends r.on).place ≡ place.Owned q → w.entry (home_of s q) r.on ≡ entry.Here v → y (home_of s q) r.on ≡ entry.Here u → AreTogether v u (s.ends r.on) (t.ends r.on)
      mine owned here now =
          let its : p ≡ q = owner-same p q (sym (kept.reported.own p r there (ap (λ z. is_living z) owned)) ∙ owned) in
          let agrees : IsEndOf w r.on v (s.ends r.on) = links.agree r.on q v owned here in
          let reported : y k r.on ≡ entry.Here (reported_view r.way v) = entry-own ∙ ap (reported_entry r.way) (subst (λ z. w.entry (home_of s z) r.on ≡ entry.Here v) (sym its) here) in
          let view : u ≡ reported_view r.way v = view-same u (reported_view r.way v) (sym now ∙ subst (λ z. y (home_of s z) r.on ≡ entry.Here (reported_view r.way v)) its reported) in
          subst (AreTogether v u (s.ends r.on)) (sym (idled-own s kept p r there)) (subst (λ z. AreTogether v z (s.ends r.on) (idle_way r.way (s.ends r.on))) (sym view) (both-rest w r.on r.way v (s.ends r.on) (reported-over s kept p r there) agrees))

      by : (b : Bool) → end_eq r.on f ≡ b → AreTogether v u (s.ends f) (t.ends f)
      by true same =
          let is : r.on ≡ f = end_eq-same r.on f same in
          subst (λ z. AreTogether v u (s.ends z) (t.ends z)) is
          (mine (subst (λ z. (s.ends z).place ≡ place.Owned q) (sym is) owned) (subst (λ z. w.entry (home_of s q) z ≡ entry.Here v) (sym is) here) (subst (λ z. y (home_of s q) z ≡ entry.Here u) (sym is) now))
      by false apart =
          let same : v ≡ u = view-same v u (sym here ∙ sym (entry-other (home_of s q) f apart) ∙ now) in
          record {
            outward = inl (ap (λ (z : HereView). z.outward) (sym same), ap (λ (z : End). z.outward) (idled-other s kept p r there f apart));
            inward = inl (ap (λ (z : HereView). z.inward) (sym same), ap (λ (z : End). z.inward) (idled-other s kept p r there f apart));
          }

  -- ---- processes

  pub told-process : t.process p.0 ≡ record { phase = phase.Running; reports = later (s.process p.0).reports }
  unfolding given
  told-process = put_process-at p (record { phase = phase.Running; reports = later (s.process p.0).reports }) s.process

  pub told-process-other : (q : Pid) → nat_eq p.0 q.0 ≡ false → t.process q.0 ≡ s.process q.0
  unfolding given
  told-process-other q apart = put_process-other p (record { phase = phase.Running; reports = later (s.process p.0).reports }) s.process q apart

  still-cancelling : (q : Pid) (f : EndId) → (s.process q.0).phase ≡ phase.Cancelling f → (t.process q.0).phase ≡ phase.Cancelling f
  still-cancelling q f cancels = by (nat_eq p.0 q.0) refl
    where
      by : (b : Bool) → nat_eq p.0 q.0 ≡ b → (t.process q.0).phase ≡ phase.Cancelling f
      by true same = absurd (let both : phase.Waiting ≡ phase.Cancelling f = sym waits ∙ ap (λ z. (s.process z).phase) (eqb-true p.0 q.0 same) ∙ cancels in cc)
      by false apart = ap (λ (z : Process). z.phase) (told-process-other q apart) ∙ cancels

  was-cancelling : (q : Pid) (f : EndId) → (t.process q.0).phase ≡ phase.Cancelling f → (s.process q.0).phase ≡ phase.Cancelling f
  was-cancelling q f cancels = by (nat_eq p.0 q.0) refl
    where
      by : (b : Bool) → nat_eq p.0 q.0 ≡ b → (s.process q.0).phase ≡ phase.Cancelling f
      by true same = absurd (let both : phase.Running ≡ phase.Cancelling f = sym (ap (λ (z : Process). z.phase) told-process) ∙ ap (λ z. (t.process z).phase) (eqb-true p.0 q.0 same) ∙ cancels in cc)
      by false apart = sym (ap (λ (z : Process). z.phase) (told-process-other q apart)) ∙ cancels

  -- ---- all clauses

  pub told-links : AreLinksOf now t
  told-links = links-given w y s t.ends t.process entry-is end-is together links

  pub told-right : (i : ℕ) → AreRight i w s → AreRight i now t
  told-right = right-given w y s t.ends t.process entry-is end-is still-cancelling was-cancelling
