-- An event closes: the state of each process afterwards, and what a report that answers a Wait changes.
use Rattle.std.proofs.Common.{◌≡◌, ℕ, Bool, true, false, nat_eq, List, [], ◌∷◌, ◌++◌, map, Some, refl, sym, ap, subst, ◌∙◌, append_assoc, append-nil, eq-eqb, if◌then◌else◌}
use Rattle.std.proofs.lemmas.Bool.{eqb-true}
use Rattle.charlotte_calls.specs.declared.calls.Answer.{Answer}
use Rattle.charlotte_calls.specs.declared.calls.Answer.TheVariants as answer
use Rattle.charlotte_calls.specs.declared.calls.Report.{Report}
use Rattle.charlotte_calls.specs.declared.calls.ServiceStep.{ServiceStep}
use Rattle.charlotte_calls.specs.declared.calls.ServiceStep.TheVariants as step
use Rattle.charlotte_calls.specs.declared.names.EndId.{EndId}
use Rattle.charlotte_calls.specs.declared.names.Pid.{Pid}
use Rattle.charlotte_packets.specs.declared.picture.Picture.{Picture}
use Rattle.end_table.proofs.EndEq.{end_eq-same, put-at, put-other}
use Rattle.end_table.specs.Place.{end_eq, put}
use Rattle.end_table.specs.declared.entry.Entry.{Entry}
use Rattle.kernel_step.specs.Kernel.{Kernel, Outcome, Process, answers_wait, begins, closes, is_waiting, join_answers, join_reports, joins, process_of, reported_entry, stands, waits, with_process}
use Rattle.kernel_step.specs.Progress.{Progress}
use Rattle.kernel_step.specs.declared.phase.Phase.TheVariants.{Running}
use Rattle.kernel_outcomes.specs.Closing.{AreOldest, AtMostOne, Closes, EffectGives, Gives, told, told_entry}
use Rattle.kernel_effects.specs.Effect.{Effect, Does}

-- a process is itself
pub same-process : (p : Pid) → nat_eq p.0 p.0 ≡ true
same-process p = eq-eqb p.0 p.0 refl

module _ (s : Kernel) (p : Pid) where
  -- the state of p
  pub own-process : (x : Process) (entry : EndId → Entry) (now : ℕ) (packets : List (ℕ × Picture)) (answered : List Pid) (steps : List ServiceStep) (o : Outcome) → Gives s p x entry now packets answered steps o → process_of p o.kernel ≡ x
  own-process x entry now packets answered steps o g = g.process p.0 ∙ ap (λ b. if b then x else s.process p.0) (same-process p)

  -- p comes to another state
  pub changes : (x y z : Process) (entry : EndId → Entry) (now : ℕ) (packets : List (ℕ × Picture)) (answered : List Pid) (steps : List ServiceStep) (o : Outcome) → Gives s p x entry now packets answered steps o → y ≡ z
      → (q : ℕ) → (with_process p y o.kernel).process q ≡ (if nat_eq p.0 q then z else s.process q)
  changes x y z entry now packets answered steps o g same q = by (nat_eq p.0 q) refl
    where
      by : (b : Bool) → nat_eq p.0 q ≡ b → (if b then y else o.kernel.process q) ≡ (if b then z else s.process q)
      by true is = same
      by false is = g.process q ∙ ap (λ b. if b then x else s.process q) is

  module _ (entry : EndId → Entry) (now : ℕ) (packets : List (ℕ × Picture)) (answered : List Pid) (steps : List ServiceStep) where
    -- an answer comes to stand
    pub stands-gives : (x : Process) (a : Answer) (o : Outcome) → Gives s p x entry now packets answered steps o
        → Gives s p (record x { phase = Running; answer = Some a }) entry now packets (answered ++ p ∷ []) steps (stands p a o)
    stands-gives x a o g =
        record {
          process =
              changes x (record (process_of p o.kernel) { phase = Running; answer = Some a }) (record x { phase = Running; answer = Some a }) entry now packets answered steps o g
              (ap (λ (z : Process). record z { phase = Running; answer = Some a }) (own-process x entry now packets answered steps o g));
          table = g.table;
          packets = g.packets;
          answered = ap (λ l. l ++ p ∷ []) g.answered;
          steps = g.steps;
          stamp = g.stamp;
          number = g.number;
          kernels = g.kernels;
          version = g.version;
          made = g.made;
        }

    -- a report joins the list of a process that does not wait
    joins-gives : (x : Process) (r : Report) (o : Outcome) → is_waiting x.phase ≡ false → Gives s p x entry now packets answered steps o
        → Gives s p (record x { reports = x.reports ++ r ∷ [] }) entry now packets answered steps (joins p r (process_of p o.kernel).phase o)
    joins-gives x r o calm g =
        subst (Gives s p (record x { reports = x.reports ++ r ∷ [] }) entry now packets answered steps) (sym (ap (λ (z : Process). joins p r z.phase o) own ∙ ap (λ b. if b then waits p ((process_of p o.kernel).reports ++ r ∷ []) o else joined) calm))
        (record {
          process = changes x (record (process_of p o.kernel) { reports = (process_of p o.kernel).reports ++ r ∷ [] }) (record x { reports = x.reports ++ r ∷ [] }) entry now packets answered steps o g (ap (λ (z : Process). record z { reports = z.reports ++ r ∷ [] }) own);
          table = g.table;
          packets = g.packets;
          answered = g.answered;
          steps = g.steps;
          stamp = g.stamp;
          number = g.number;
          kernels = g.kernels;
          version = g.version;
          made = g.made;
        })
      where
        own : process_of p o.kernel ≡ x
        own = own-process x entry now packets answered steps o g

        joined : Outcome
        joined = record o { kernel = with_process p (record (process_of p o.kernel) { reports = (process_of p o.kernel).reports ++ r ∷ [] }) o.kernel }

    -- so does each
    pub join_reports-gives : (rs : List Report) (x : Process) (o : Outcome) → is_waiting x.phase ≡ false → Gives s p x entry now packets answered steps o
        → Gives s p (record x { reports = x.reports ++ rs }) entry now packets answered steps (join_reports (map (λ r. (p, r)) rs) o)
    unfolding join_reports
    join_reports-gives [] x o calm g = subst (λ l. Gives s p (record x { reports = l }) entry now packets answered steps o) (sym (append-nil x.reports)) g
    join_reports-gives (r ∷ rs) x o calm g =
        subst (λ l. Gives s p (record x { reports = l }) entry now packets answered steps (join_reports (map (λ r. (p, r)) rs) (joins p r (process_of p o.kernel).phase o))) (append_assoc x.reports (r ∷ []) rs)
        (join_reports-gives rs (record x { reports = x.reports ++ r ∷ [] }) (joins p r (process_of p o.kernel).phase o) calm (joins-gives x r o calm g))

    -- a report answers a Wait
    pub answers_wait-gives : (x : Process) (r : Report) (others : List Report) (o : Outcome) → Gives s p x entry now packets answered steps o
        → Gives s p (record { phase = Running; reports = others; answer = Some (answer.Reported r) }) (λ q. told_entry (r ∷ []) q (entry q)) now packets (answered ++ p ∷ []) (steps ++ step.Report p r ∷ []) (answers_wait p r others o)
    unfolding answers_wait
    answers_wait-gives x r others o g =
        record {
          process = process;
          table = λ q. by q (end_eq r.on q) refl;
          packets = g.packets;
          answered = ap (λ l. l ++ p ∷ []) g.answered;
          steps = ap (λ l. l ++ step.Report p r ∷ []) g.steps;
          stamp = g.stamp;
          number = g.number;
          kernels = g.kernels;
          version = g.version;
          made = g.made;
        }
      where
        told_kernel : Kernel
        told_kernel = with_process p (record (process_of p o.kernel) { reports = others }) (record o.kernel { table = put o.kernel.table r.on (reported_entry r.way (o.kernel.table r.on)) })

        after : Process
        after = record { phase = Running; reports = others; answer = Some (answer.Reported r) }

        own : process_of p told_kernel ≡ record (process_of p o.kernel) { reports = others }
        own = ap (λ b. if b then record (process_of p o.kernel) { reports = others } else process_of p o.kernel) (same-process p)

        process : (q : ℕ) → (answers_wait p r others o).kernel.process q ≡ (if nat_eq p.0 q then after else s.process q)
        process q = by (nat_eq p.0 q) refl
          where
            by : (b : Bool) → nat_eq p.0 q ≡ b → (if b then record (process_of p told_kernel) { phase = Running; answer = Some (answer.Reported r) } else (if b then record (process_of p o.kernel) { reports = others } else o.kernel.process q))
                ≡ (if b then after else s.process q)
            by true is = ap (λ (z : Process). record z { phase = Running; answer = Some (answer.Reported r) }) own
            by false is = g.process q ∙ ap (λ b. if b then x else s.process q) is

        by : (q : EndId) (b : Bool) → end_eq r.on q ≡ b → put o.kernel.table r.on (reported_entry r.way (o.kernel.table r.on)) q ≡ (if b then reported_entry r.way (entry q) else entry q)
        by q true is =
            let e : r.on ≡ q = end_eq-same r.on q is in
            subst (λ z. put o.kernel.table r.on (reported_entry r.way (o.kernel.table r.on)) z ≡ reported_entry r.way (o.kernel.table z)) e (put-at o.kernel.table r.on (reported_entry r.way (o.kernel.table r.on)))
            ∙ ap (reported_entry r.way) (g.table q)
        by q false is = put-other o.kernel.table r.on (reported_entry r.way (o.kernel.table r.on)) q is ∙ g.table q

module _ (s : Kernel) (p : Pid) where
  -- before the reports and answers reach p
  module _ (d : Progress) where
    begun : Outcome
    begun = record { kernel = record s { table = d.table; stamp = d.stamp }; packets = d.packets; answered = []; steps = d.steps }

    begun-gives : Gives s p (s.process p.0) d.table d.stamp d.packets [] d.steps begun
    unfolding begun
    begun-gives =
        record {
          process = λ q. by q (nat_eq p.0 q) refl;
          table = λ q. refl;
          packets = refl;
          answered = refl;
          steps = refl;
          stamp = refl;
          number = refl;
          kernels = refl;
          version = refl;
          made = refl;
        }
      where
        by : (q : ℕ) (b : Bool) → nat_eq p.0 q ≡ b → s.process q ≡ (if b then s.process p.0 else s.process q)
        by q true is = ap s.process (sym (eqb-true p.0 q is))
        by q false is = refl

    -- by the answers and reports
    by_lists : (given : List Answer) (rs : List Report) → AtMostOne given → AreOldest (s.process p.0) rs → Closes s d p given rs (join_reports (map (λ r. (p, r)) rs) (join_answers (map (λ a. (p, a)) given) begun))
    unfolding join_answers join_reports begun
    by_lists [] [] one oldest = subst (λ l. Gives s p (s.process p.0) d.table d.stamp d.packets [] l begun) (sym (append-nil d.steps)) begun-gives
    by_lists [] (r ∷ rs) one oldest = by (is_waiting (s.process p.0).phase) refl
      where
        x : Process
        x = s.process p.0

        first : (process_of p begun.kernel).phase ≡ x.phase
        first = refl

        by : (b : Bool) → is_waiting x.phase ≡ b
            → Gives s p (if b then record { phase = Running; reports = rs; answer = Some (answer.Reported r) } else record x { reports = x.reports ++ r ∷ rs }) (λ q. told_entry (if b then r ∷ [] else []) q (d.table q)) d.stamp d.packets
            (map (λ _. p) (if b then r ∷ [] else [])) (d.steps ++ map (step.Report p) (if b then r ∷ [] else [])) (join_reports (map (λ r. (p, r)) rs) (joins p r (process_of p begun.kernel).phase begun))
        by true told =
            subst (λ z. Gives s p (record { phase = Running; reports = rs; answer = Some (answer.Reported r) }) (λ q. told_entry (r ∷ []) q (d.table q)) d.stamp d.packets (p ∷ []) (d.steps ++ step.Report p r ∷ []) (join_reports (map (λ r. (p, r)) rs) z))
            (sym (ap (λ phase. joins p r phase begun) first
            ∙ ap (λ b. if b then waits p (x.reports ++ r ∷ []) begun else record begun { kernel = with_process p (record (process_of p begun.kernel) { reports = (process_of p begun.kernel).reports ++ r ∷ [] }) begun.kernel }) told
            ∙ ap (λ l. waits p (l ++ r ∷ []) begun) (oldest told)))
            (join_reports-gives s p (λ q. told_entry (r ∷ []) q (d.table q)) d.stamp d.packets (p ∷ []) (d.steps ++ step.Report p r ∷ []) rs (record { phase = Running; reports = []; answer = Some (answer.Reported r) }) (answers_wait p r [] begun) refl
            (answers_wait-gives s p d.table d.stamp d.packets [] d.steps x r [] begun begun-gives))
        by false calm =
            subst (λ l. Gives s p (record x { reports = x.reports ++ r ∷ rs }) d.table d.stamp d.packets [] l (join_reports (map (λ r. (p, r)) (r ∷ rs)) begun)) (sym (append-nil d.steps))
            (join_reports-gives s p d.table d.stamp d.packets [] d.steps (r ∷ rs) x begun calm begun-gives)
    by_lists (a ∷ []) rs one oldest =
        subst (λ l. Gives s p (record { phase = Running; reports = (s.process p.0).reports ++ rs; answer = Some a }) d.table d.stamp d.packets (p ∷ []) l (join_reports (map (λ r. (p, r)) rs) (stands p a begun))) (sym (append-nil d.steps))
        (join_reports-gives s p d.table d.stamp d.packets (p ∷ []) d.steps rs (record (s.process p.0) { phase = Running; answer = Some a }) (stands p a begun) refl (stands-gives s p d.table d.stamp d.packets [] d.steps (s.process p.0) a begun begun-gives))
    by_lists (a ∷ b ∷ more) rs one oldest = absurd one

    -- an event closes
    pub closes-gives : (given : List Answer) (rs : List Report) → AtMostOne given → AreOldest (s.process p.0) rs → d.answers ≡ map (λ a. (p, a)) given → d.reports ≡ map (λ r. (p, r)) rs → Closes s d p given rs (closes s d)
    unfolding closes begun
    closes-gives given rs one oldest answers reports =
        subst (Closes s d p given rs) (sym (ap (λ l. join_reports l (join_answers d.answers begun)) reports ∙ ap (λ l. join_reports (map (λ r. (p, r)) rs) (join_answers l begun)) answers)) (by_lists given rs one oldest)

-- what an event of kernel s gives that began with this stamp and came so far by an effect, where p alone has reports and answers
pub effect-gives : (s : Kernel) (p : Pid) (stamp : ℕ) (f : Effect) (d : Progress) (given : List Answer) (rs : List Report) → Does f (begins s stamp) d → AtMostOne given → AreOldest (s.process p.0) rs
    → f.answers ≡ map (λ a. (p, a)) given → f.reports ≡ map (λ r. (p, r)) rs → EffectGives s p stamp f given rs (closes s d)
effect-gives s p stamp f d given rs does one oldest answers reports =
    let g = closes-gives s p d given rs one oldest (does.answers ∙ answers) (does.reports ∙ reports) in
    let now = told (s.process p.0).phase given rs in
    record {
      process = g.process;
      table = λ q. g.table q ∙ ap (told_entry now q) (does.table q);
      stamp = g.stamp ∙ does.stamp;
      packets = g.packets ∙ does.packets;
      answered = g.answered;
      steps = g.steps ∙ ap (λ l. l ++ map (step.Report p) now) does.steps;
      number = g.number;
      kernels = g.kernels;
      version = g.version;
      made = g.made;
    }
