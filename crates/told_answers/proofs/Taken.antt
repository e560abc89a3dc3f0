-- What the taking of a packet gives, whatever the packet: nobody is told anything, or a report answers a Wait, or a Cancel is answered.
use Rattle.std.proofs.Common.{◌≡◌, ℕ, Bool, true, false, true≢false, nat_eq, max, ◌⊎◌, inl, inr, List, [], ◌∷◌, ◌++◌, map, Option, Some, None, refl, sym, ap, subst, ◌∙◌, append-nil, eq-eqb, if◌then◌else◌}
use Rattle.std.proofs.lemmas.Bool.{eqb-true}
use Rattle.charlotte_packets.specs.Packets.{is_addressed}
use Rattle.charlotte_calls.specs.declared.calls.Answer.{Answer}
use Rattle.charlotte_calls.specs.declared.calls.Answer.TheVariants as answer
use Rattle.charlotte_calls.specs.declared.calls.Report.{Report}
use Rattle.charlotte_calls.specs.declared.calls.ServiceStep.{ServiceStep}
use Rattle.charlotte_calls.specs.declared.calls.ServiceStep.TheVariants as step
use Rattle.charlotte_calls.specs.declared.names.EndId.{EndId}
use Rattle.charlotte_calls.specs.declared.names.Pid.{Pid}
use Rattle.charlotte_packets.specs.declared.picture.Picture.{Picture}
use Rattle.charlotte_packets.specs.declared.picture.PictureWhat.{PictureWhat}
use Rattle.end_table.specs.Place.{end_eq, put}
use Rattle.end_table.specs.declared.entry.Entry.{Entry}
use Rattle.end_table.specs.declared.entry.Holder.{Holder}
use Rattle.end_table.specs.declared.entry.Holder.TheVariants as holder
use Rattle.end_table.proofs.EndEq.{end_eq-same, put-at, put-other}
use Rattle.kernel_effects.specs.Effect.{Effect, for_holder, nothing}
use Rattle.kernel_effects.specs.Rows.{row_effect}
use Rattle.kernel_outcomes.proofs.Closing.{closes-gives}
use Rattle.kernel_outcomes.specs.Closing.{AreOldest, AtMostOne, Closes, told, told_entry}
use Rattle.kernel_sound.proofs.Goes.{GoesWell}
use Rattle.kernel_sound.proofs.Reports.{IsSound-reported}
use Rattle.kernel_sound.proofs.Rows.{row-well}
use Rattle.kernel_sound.specs.Sound.{IsSound}
use Rattle.kernel_step.specs.Kernel.{Kernel, Outcome, Process, begins, closes, is_waiting, next_stamp, process_of, reported_entry, take_step}
use Rattle.kernel_step.specs.Progress.{Progress}
use Rattle.kernel_step.specs.Rows.{row}
use Rattle.kernel_step.specs.declared.phase.Phase.{Phase}
use Rattle.kernel_step.specs.declared.phase.Phase.TheVariants.{Running, Waiting, Cancelling, Exited}
use Rattle.told_answers.proofs.Alike.{DoesAlike, row-alike}
use Rattle.told_answers.proofs.Cancellers.{canceller, canceller-told}
use Rattle.told_answers.proofs.ForOne.{IsForOne, row-for_one}
use Rattle.told_answers.proofs.Rows.{IsAnswer, IsSilent, Tells, row-tells}

-- a table stays sound as a report is told
pub sound-told : (k made n : ℕ) (rs : List Report) (t u : EndId → Entry) → IsSound k made n t → ((q : EndId) → u q ≡ told_entry rs q (t q)) → IsSound k made n u
sound-told k made n [] t u sound is = subst (IsSound k made n) (λ i q. sym (is q) i) sound
sound-told k made n (r ∷ rs) t u sound is = subst (IsSound k made n) (λ i q. at q i) (IsSound-reported r.way r.on t k made n sound)
  where
    at : (q : EndId) → put t r.on (reported_entry r.way (t r.on)) q ≡ u q
    at q = by (end_eq r.on q) refl ∙ sym (is q)
      where
        by : (b : Bool) → end_eq r.on q ≡ b → put t r.on (reported_entry r.way (t r.on)) q ≡ (if b then reported_entry r.way (t q) else t q)
        by true same = subst (λ z. put t r.on (reported_entry r.way (t r.on)) z ≡ reported_entry r.way (t z)) (end_eq-same r.on q same) (put-at t r.on (reported_entry r.way (t r.on)))
        by false apart = put-other t r.on (reported_entry r.way (t r.on)) q apart

-- a process gets an answer and runs, and no other changes
pub record IsRunBy (x : Kernel) (p : Pid) (a : Answer) (o : Outcome) : Type 0 where
  pub answer : (process_of p o.kernel).answer ≡ Some a
  pub phase : (process_of p o.kernel).phase ≡ Running
  pub others : (q : Pid) → nat_eq p.0 q.0 ≡ false → process_of q o.kernel ≡ process_of q x
  pub answered : o.answered ≡ p ∷ []

-- nobody is told anything
pub record TellsNobody (x : Kernel) (o : Outcome) (steps : List ServiceStep) : Type 0 where
  pub answers : (q : Pid) → (process_of q o.kernel).answer ≡ (process_of q x).answer
  pub phases : (q : Pid) → (process_of q o.kernel).phase ≡ (process_of q x).phase
  pub reports : (q : Pid) → (process_of q x).phase ≡ Waiting → (process_of q o.kernel).reports ≡ (process_of q x).reports
  pub answered : o.answered ≡ []
  pub meant : o.steps ≡ steps

-- a report answers a Wait
pub record TellsReport (x : Kernel) (o : Outcome) (steps : List ServiceStep) : Type 0 where
  pub p : Pid
  pub r : Report
  pub waits : (process_of p x).phase ≡ Waiting
  pub run : IsRunBy x p (answer.Reported r) o
  pub meant : o.steps ≡ steps ++ step.Report p r ∷ []

-- the taking of a packet
pub record Taking (n : ℕ) (x : Kernel) (o : Outcome) : Type 0 where
  pub effect : Effect
  pub sound : IsSound o.kernel.number o.kernel.made n o.kernel.table
  pub cancellers : (q : EndId) → canceller (o.kernel.table q) ≡ canceller (effect.entry q (x.table q))
  -- where no Cancel is answered
  pub silent : IsSilent x.table effect → TellsNobody x o effect.steps ⊎ TellsReport x o effect.steps
  -- and where one is
  pub answer : (is : IsAnswer x.table effect) → IsRunBy x is.p is.a o × (o.steps ≡ effect.steps)
  pub tells : Tells x.table effect

waiting-phase : (phase : Phase) → is_waiting phase ≡ true → phase ≡ Waiting
waiting-phase Running is = cc
waiting-phase Waiting is = refl
waiting-phase (Cancelling e) is = cc
waiting-phase Exited is = cc

nonempty : (x : Pid × Answer) (xs : List (Pid × Answer)) → x ∷ xs ≡ [] → ⊥
nonempty x xs same = cc

not_two : (x y z : Pid × Answer) (zs : List (Pid × Answer)) → x ∷ [] ≡ y ∷ z ∷ zs → ⊥
not_two x y z zs same = cc

module _ (n : ℕ) (x : Kernel) (p : Pid) (f : Effect) (d : Progress) (tells : Tells x.table f) (sound : IsSound x.number x.made n d.table) (stamp : ℕ) (alike : DoesAlike f (begins x stamp) d) where
  -- the state of each process afterwards
  at-p : (y : Process) (o : Outcome) → ((q : ℕ) → o.kernel.process q ≡ (if nat_eq p.0 q then y else x.process q)) → process_of p o.kernel ≡ y
  at-p y o each = each p.0 ∙ ap (λ b. if b then y else x.process p.0) (eq-eqb p.0 p.0 refl)

  at-other : (y : Process) (o : Outcome) → ((q : ℕ) → o.kernel.process q ≡ (if nat_eq p.0 q then y else x.process q)) → (q : Pid) → nat_eq p.0 q.0 ≡ false → process_of q o.kernel ≡ process_of q x
  at-other y o each q apart = each q.0 ∙ ap (λ b. if b then y else x.process q.0) apart

  run-by : (a : Answer) (y : Process) (o : Outcome) → ((q : ℕ) → o.kernel.process q ≡ (if nat_eq p.0 q then y else x.process q)) → y.phase ≡ Running → y.answer ≡ Some a → o.answered ≡ p ∷ [] → IsRunBy x p a o
  run-by a y o each phase answer answered =
      record {
        answer = ap (λ (z : Process). z.answer) (at-p y o each) ∙ answer;
        phase = ap (λ (z : Process). z.phase) (at-p y o each) ∙ phase;
        others = at-other y o each;
        answered = answered;
      }

  -- a part of the state of each process that is kept at p is kept
  kept : {X : Type 0} (part : Process → X) (y : Process) (o : Outcome) → ((q : ℕ) → o.kernel.process q ≡ (if nat_eq p.0 q then y else x.process q)) → part y ≡ part (x.process p.0) → (q : Pid) → part (process_of q o.kernel) ≡ part (process_of q x)
  kept part y o each same q = by (nat_eq p.0 q.0) refl
    where
      by : (b : Bool) → nat_eq p.0 q.0 ≡ b → part (process_of q o.kernel) ≡ part (process_of q x)
      by true is = ap part (each q.0 ∙ ap (λ b. if b then y else x.process q.0) is) ∙ same ∙ ap (λ z. part (x.process z)) (eqb-true p.0 q.0 is)
      by false apart = ap part (at-other y o each q apart)

  nobody : (y : Process) (o : Outcome) → ((q : ℕ) → o.kernel.process q ≡ (if nat_eq p.0 q then y else x.process q)) → y.answer ≡ (x.process p.0).answer → y.phase ≡ (x.process p.0).phase
      → ((x.process p.0).phase ≡ Waiting → y.reports ≡ (x.process p.0).reports) → o.answered ≡ [] → o.steps ≡ d.steps ++ [] → TellsNobody x o f.steps
  nobody y o each answer phase reports answered steps =
      record {
        answers = kept (λ (z : Process). z.answer) y o each answer;
        phases = kept (λ (z : Process). z.phase) y o each phase;
        reports = λ q waits. same_reports q waits (nat_eq p.0 q.0) refl;
        answered = answered;
        meant = steps ∙ append-nil d.steps ∙ alike.steps;
      }
    where
      same_reports : (q : Pid) → (process_of q x).phase ≡ Waiting → (b : Bool) → nat_eq p.0 q.0 ≡ b → (process_of q o.kernel).reports ≡ (process_of q x).reports
      same_reports q waits true is =
          let same : x.process p.0 ≡ x.process q.0 = ap x.process (eqb-true p.0 q.0 is) in
          ap (λ (z : Process). z.reports) (each q.0 ∙ ap (λ b. if b then y else x.process q.0) is) ∙ reports (ap (λ (z : Process). z.phase) same ∙ waits) ∙ ap (λ (z : Process). z.reports) same
      same_reports q waits false apart = ap (λ (z : Process). z.reports) (at-other y o each q apart)

  -- reports: the first answers a Wait
  by-reports : (r : Report) (rs : List Report) (o : Outcome) (b : Bool) → is_waiting (x.process p.0).phase ≡ b
      → ((q : ℕ) → o.kernel.process q ≡ (if nat_eq p.0 q then (if b then record { phase = Running; reports = rs; answer = Some (answer.Reported r) } else record (x.process p.0) { reports = (x.process p.0).reports ++ r ∷ rs }) else x.process q))
      → o.answered ≡ map (λ _. p) (if b then r ∷ [] else []) → o.steps ≡ d.steps ++ map (step.Report p) (if b then r ∷ [] else []) → TellsNobody x o f.steps ⊎ TellsReport x o f.steps
  by-reports r rs o true waits each answered steps =
      inr (record {
        p = p;
        r = r;
        waits = waiting-phase (x.process p.0).phase waits;
        run = run-by (answer.Reported r) (record { phase = Running; reports = rs; answer = Some (answer.Reported r) }) o each refl refl answered;
        meant = steps ∙ ap (λ l. l ++ step.Report p r ∷ []) alike.steps;
      })
  by-reports r rs o false calm each answered steps = inl (nobody (record (x.process p.0) { reports = (x.process p.0).reports ++ r ∷ rs }) o each refl refl (λ waits. absurd (true≢false (sym (ap is_waiting waits) ∙ calm))) answered steps)

  silent-lists : (given : List Answer) (rs : List Report) (o : Outcome) → Closes x d p given rs o → f.answers ≡ map (λ a. (p, a)) given → f.answers ≡ [] → TellsNobody x o f.steps ⊎ TellsReport x o f.steps
  silent-lists [] [] o closed answers none = inl (nobody (x.process p.0) o closed.process refl refl (λ waits. refl) closed.answered closed.steps)
  silent-lists [] (r ∷ rs) o closed answers none = by-reports r rs o (is_waiting (x.process p.0).phase) refl closed.process closed.answered closed.steps
  silent-lists (a ∷ given) rs o closed answers none = absurd (nonempty (p, a) (map (λ a. (p, a)) given) (sym answers ∙ none))

  answer-lists : (given : List Answer) (rs : List Report) (o : Outcome) → Closes x d p given rs o → f.answers ≡ map (λ a. (p, a)) given → (q : Pid) (b : Answer) → f.answers ≡ (q, b) ∷ [] → IsRunBy x q b o × (o.steps ≡ f.steps)
  answer-lists [] rs o closed answers q b is = absurd (nonempty (q, b) [] (sym is ∙ answers))
  answer-lists (a ∷ c ∷ given) rs o closed answers q b is = absurd (not_two (q, b) (p, a) (p, c) (map (λ a. (p, a)) given) (sym is ∙ answers))
  answer-lists (a ∷ []) rs o closed answers q b is =
      let same : (p, a) ∷ [] ≡ (q, b) ∷ [] = sym answers ∙ is in
      let pair : (p, a) ≡ (q, b) = cc in
      let who : p ≡ q = ap (λ (z : Pid × Answer). z.0) pair in
      let what : a ≡ b = ap (λ (z : Pid × Answer). z.1) pair in
      let run : IsRunBy x p a o =
      run-by a (record { phase = Running; reports = (x.process p.0).reports ++ rs; answer = Some a }) o closed.process refl refl closed.answered in
      (subst (λ z. IsRunBy x z b o) who (subst (λ z. IsRunBy x p z o) what run), closed.steps ∙ append-nil d.steps ∙ alike.steps)

  -- what p is told in all
  by-lists : (given : List Answer) (rs : List Report) (o : Outcome) → f.answers ≡ map (λ a. (p, a)) given → Closes x d p given rs o → Taking n x o
  by-lists given rs o answers closed =
      record {
        effect = f;
        sound = subst (λ k. IsSound k o.kernel.made n o.kernel.table) (sym closed.number) (subst (λ m. IsSound x.number m n o.kernel.table) (sym closed.made)
            (sound-told x.number x.made n (told (x.process p.0).phase given rs) d.table o.kernel.table sound closed.table));
        cancellers = λ q. ap canceller (closed.table q) ∙ canceller-told (told (x.process p.0).phase given rs) q (d.table q) ∙ alike.cancellers q;
        silent = λ is. silent-lists given rs o closed answers is.answers;
        answer = λ is. answer-lists given rs o closed answers is.p is.a is.answers;
        tells = tells;
      }

-- each packet, where no report of a process stands that waits
module _ (n : ℕ) (x : Kernel) (sound : IsSound x.number x.made n x.table) (rests : (p : Pid) → (process_of p x).phase ≡ Waiting → (process_of p x).reports ≡ []) (from : ℕ) (q : Picture) where
  abbrev begun : Progress
  begun = begins x (next_stamp (max x.stamp q.stamp))

  abbrev f : Effect
  f = row_effect x.number x.made from x.table q.what

  abbrev d : Progress
  d = row x.number x.made from q.what begun

  abbrev nobody_named : Pid
  nobody_named = record { 0 = 0 }

  oldest : (p : Pid) (rs : List Report) → AreOldest (x.process p.0) rs
  oldest p [] = tt
  oldest p (r ∷ rs) = λ waits. rests p (waiting-phase (x.process p.0).phase waits)

  addressed : Taking n x (closes x d)
  addressed = by all.holder all.answers all.reports
    where
      all : IsForOne f
      all = row-for_one x.number x.made from x.table q.what

      alike : DoesAlike f begun d
      alike = row-alike x.number x.made n begun sound from q.what

      after : IsSound x.number x.made n d.table
      after = (row-well x.number x.made n from (λ p e. true) x.table q.what begun (λ p. refl) (record { sound = sound; reports = tt; answers = tt; calm = λ p e apart. refl })).sound

      tells : Tells x.table f
      tells = row-tells x.number x.made n from x.table sound q.what

      by : (h : Holder) → f.answers ≡ for_holder h all.given → f.reports ≡ for_holder h all.told → Taking n x (closes x d)
      by (holder.Owner p) answers reports =
          by-lists n x p f d tells after begun.stamp alike all.given all.told (closes x d) answers (closes-gives x p d all.given all.told all.one (oldest p all.told) (alike.answers ∙ answers) (alike.reports ∙ reports))
      by (holder.EnclosedIn e) answers reports =
          by-lists n x nobody_named f d tells after begun.stamp alike [] [] (closes x d) answers (closes-gives x nobody_named d [] [] tt tt (alike.answers ∙ answers) (alike.reports ∙ reports))

  dropped : Taking n x (closes x begun)
  dropped =
      let alike : DoesAlike nothing begun begun = record { reports = refl; answers = refl; steps = refl; cancellers = λ e. refl } in
      let tells : Tells x.table nothing = inl (record { cancellers = λ e. refl; cancels = λ e. refl; reports = λ p. refl; answers = refl }) in
      by-lists n x nobody_named nothing begun tells sound begun.stamp alike [] [] (closes x begun) refl (closes-gives x nobody_named begun [] [] tt tt refl refl)

  pub take-taking : Taking n x (take_step x from q)
  unfolding take_step
  take-taking = by (is_addressed q.what x.kernels)
    where
      by : (b : Bool) → Taking n x (closes x (if b then d else begun))
      by true = addressed
      by false = dropped
