-- Effects one after the other, and those of the smallest words.
use Rattle.std.proofs.Common.{◌≡◌, ℕ, Bool, true, false, List, [], ◌∷◌, ◌++◌, map, refl, sym, ap, subst, ◌∙◌, append_assoc, append-nil, if◌then◌else◌}
use Rattle.std.proofs.lemmas.List.{map-append}
use Rattle.std.specs.List.{fold}
use Rattle.charlotte_calls.specs.declared.calls.Answer.{Answer}
use Rattle.charlotte_calls.specs.declared.calls.Report.{Report}
use Rattle.charlotte_calls.specs.declared.calls.ServiceStep.{ServiceStep}
use Rattle.charlotte_calls.specs.declared.names.EndId.{EndId}
use Rattle.charlotte_calls.specs.declared.names.Pid.{Pid}
use Rattle.charlotte_packets.specs.declared.picture.PictureWhat.{PictureWhat}
use Rattle.end_table.specs.Place.{put}
use Rattle.end_table.specs.declared.entry.Entry.{Entry}
use Rattle.end_table.specs.declared.entry.Holder.{Holder}
use Rattle.end_table.specs.declared.entry.Holder.TheVariants as holder
use Rattle.kernel_step.specs.Actions.{reports, answers}
use Rattle.kernel_step.specs.Progress.{Progress, sends, means, keeps, reports_to, answers_to}
use Rattle.kernel_effects.specs.Effect.{Effect, Does, puts, stays, for_holder, nothing, changed, sent, stamped, and_then}

-- the entries alone change
pub record OnlyTable (old new : Progress) : Type 0 where
  pub stamp : new.stamp ≡ old.stamp
  pub packets : new.packets ≡ old.packets
  pub reports : new.reports ≡ old.reports
  pub answers : new.answers ≡ old.answers
  pub steps : new.steps ≡ old.steps

pub only_table : (d : Progress) → OnlyTable d d
only_table d = record { stamp = refl; packets = refl; reports = refl; answers = refl; steps = refl }

pub only_table-then : (a b c : Progress) → OnlyTable a b → OnlyTable b c → OnlyTable a c
only_table-then a b c first second =
    record {
      stamp = second.stamp ∙ first.stamp;
      packets = second.packets ∙ first.packets;
      reports = second.reports ∙ first.reports;
      answers = second.answers ∙ first.answers;
      steps = second.steps ∙ first.steps;
    }

-- what each step of a fold leaves, the fold leaves
pub only_table-fold : {X : Type 0} (step : Progress → X → Progress) → ((d : Progress) (x : X) → OnlyTable d (step d x)) → (xs : List X) (d : Progress) → OnlyTable d (fold step d xs)
only_table-fold step only [] d = only_table d
only_table-fold step only (x ∷ xs) d = only_table-then d (step d x) (fold step (step d x) xs) (only d x) (only_table-fold step only xs (step d x))

-- an entry is kept
pub keeps-only : (e : EndId) (x : Entry) (d : Progress) → OnlyTable d (keeps e x d)
unfolding keeps
keeps-only e x d = record { stamp = refl; packets = refl; reports = refl; answers = refl; steps = refl }

-- where the entries alone change, so does the effect say
pub does-changed : (entry : EndId → Entry → Entry) (old new : Progress) → ((q : EndId) → new.table q ≡ entry q (old.table q)) → OnlyTable old new → Does (changed entry) old new
does-changed entry old new table only =
    record {
      table = table;
      stamp = only.stamp;
      packets = only.packets ∙ sym (append-nil old.packets);
      reports = only.reports ∙ sym (append-nil old.reports);
      answers = only.answers ∙ sym (append-nil old.answers);
      steps = only.steps ∙ sym (append-nil old.steps);
    }

-- nothing is done
pub does-nothing : (d : Progress) → Does nothing d d
does-nothing d = does-changed stays d d (λ q. refl) (only_table d)

-- an effect that is the same
pub does-same : {old new : Progress} (f g : Effect) → f ≡ g → Does f old new → Does g old new
does-same {old} {new} f g same does = subst (λ h. Does h old new) same does

-- an effect that makes the same of each entry
pub does-entry : {old new : Progress} (f : Effect) (entry : EndId → Entry → Entry) → ((q : EndId) → f.entry q (old.table q) ≡ entry q (old.table q)) → Does f old new → Does (record f { entry = entry }) old new
does-entry f entry same does =
    record { table = λ q. does.table q ∙ same q; stamp = does.stamp; packets = does.packets; reports = does.reports; answers = does.answers; steps = does.steps }

-- what is added in two steps is added in one
twice : {X : Type 0} (a b c xs ys : List X) → b ≡ a ++ xs → c ≡ b ++ ys → c ≡ a ++ (xs ++ ys)
twice a b c xs ys first second = second ∙ ap (λ l. l ++ ys) first ∙ append_assoc a xs ys

-- one effect and then another
pub does-then : {f g : Effect} {a b c : Progress} → Does f a b → Does g b c → Does (and_then f g) a c
does-then {f} {g} {a} {b} {c} first second =
    record {
      table = λ q. second.table q ∙ ap (g.entry q) (first.table q);
      stamp = second.stamp ∙ first.stamp;
      packets =
          twice a.packets b.packets c.packets (map (stamped a.stamp) f.packets) (map (stamped a.stamp) g.packets) first.packets
          (second.packets ∙ ap (λ n. b.packets ++ map (stamped n) g.packets) first.stamp)
          ∙ ap (λ l. a.packets ++ l) (sym (map-append (stamped a.stamp) f.packets g.packets));
      reports = twice a.reports b.reports c.reports f.reports g.reports first.reports second.reports;
      answers = twice a.answers b.answers c.answers f.answers g.answers first.answers second.answers;
      steps = twice a.steps b.steps c.steps f.steps g.steps first.steps second.steps;
    }

-- nothing is added to what was
module _ {f : Effect} {a b c : Progress} where
  -- entries change after it
  pub does-turned : {entry : EndId → Entry → Entry} → Does f a b → Does (changed entry) b c → Does (record f { entry = λ q y. entry q (f.entry q y) }) a c
  does-turned {entry} first second =
      record {
        table = λ q. second.table q ∙ ap (entry q) (first.table q);
        stamp = second.stamp ∙ first.stamp;
        packets = second.packets ∙ append-nil b.packets ∙ first.packets;
        reports = second.reports ∙ append-nil b.reports ∙ first.reports;
        answers = second.answers ∙ append-nil b.answers ∙ first.answers;
        steps = second.steps ∙ append-nil b.steps ∙ first.steps;
      }

  -- entries change and packets are sent after it
  pub does-placed : {entry : EndId → Entry → Entry} {ps : List (ℕ × PictureWhat)} → Does f a b → Does (record (changed entry) { packets = ps }) b c
      → Does (record f { entry = λ q y. entry q (f.entry q y); packets = f.packets ++ ps }) a c
  does-placed {entry} {ps} first second =
      record {
        table = λ q. second.table q ∙ ap (entry q) (first.table q);
        stamp = second.stamp ∙ first.stamp;
        packets = (does-then first second).packets;
        reports = second.reports ∙ append-nil b.reports ∙ first.reports;
        answers = second.answers ∙ append-nil b.answers ∙ first.answers;
        steps = second.steps ∙ append-nil b.steps ∙ first.steps;
      }

  -- packets are sent after it
  pub does-sent : {ps : List (ℕ × PictureWhat)} → Does f a b → Does (sent ps) b c → Does (record f { packets = f.packets ++ ps }) a c
  does-sent {ps} first second =
      record {
        table = λ q. second.table q ∙ first.table q;
        stamp = second.stamp ∙ first.stamp;
        packets = (does-then first second).packets;
        reports = second.reports ∙ append-nil b.reports ∙ first.reports;
        answers = second.answers ∙ append-nil b.answers ∙ first.answers;
        steps = second.steps ∙ append-nil b.steps ∙ first.steps;
      }

  -- reports are made after it
  pub does-reported : {rs : List (Pid × Report)} → Does f a b → Does (record nothing { reports = rs }) b c → Does (record f { reports = f.reports ++ rs }) a c
  does-reported {rs} first second =
      record {
        table = λ q. second.table q ∙ first.table q;
        stamp = second.stamp ∙ first.stamp;
        packets = second.packets ∙ append-nil b.packets ∙ first.packets;
        reports = (does-then first second).reports;
        answers = second.answers ∙ append-nil b.answers ∙ first.answers;
        steps = second.steps ∙ append-nil b.steps ∙ first.steps;
      }

  -- answers are given after it
  pub does-answered : {as_given : List (Pid × Answer)} → Does f a b → Does (record nothing { answers = as_given }) b c → Does (record f { answers = f.answers ++ as_given }) a c
  does-answered {as_given} first second =
      record {
        table = λ q. second.table q ∙ first.table q;
        stamp = second.stamp ∙ first.stamp;
        packets = second.packets ∙ append-nil b.packets ∙ first.packets;
        reports = second.reports ∙ append-nil b.reports ∙ first.reports;
        answers = (does-then first second).answers;
        steps = second.steps ∙ append-nil b.steps ∙ first.steps;
      }

  -- service steps are made after it
  pub does-meant : {ss : List ServiceStep} → Does f a b → Does (record nothing { steps = ss }) b c → Does (record f { steps = f.steps ++ ss }) a c
  does-meant {ss} first second =
      record {
        table = λ q. second.table q ∙ first.table q;
        stamp = second.stamp ∙ first.stamp;
        packets = second.packets ∙ append-nil b.packets ∙ first.packets;
        reports = second.reports ∙ append-nil b.reports ∙ first.reports;
        answers = second.answers ∙ append-nil b.answers ∙ first.answers;
        steps = (does-then first second).steps;
      }

-- one of two, as a test tells
pub does-either : {d x y : Progress} (b : Bool) (f g : Effect) → Does f d x → Does g d y → Does (if b then f else g) d (if b then x else y)
does-either true f g first second = first
does-either false f g first second = second

-- the same of packets alone
pub sent-either : {d x y : Progress} (b : Bool) (ps qs : List (ℕ × PictureWhat)) → Does (sent ps) d x → Does (sent qs) d y → Does (sent (if b then ps else qs)) d (if b then x else y)
sent-either true ps qs first second = first
sent-either false ps qs first second = second

-- ---- the smallest words

-- one packet more
pub sends-does : (to : ℕ) (what : PictureWhat) (d : Progress) → Does (sent ((to, what) ∷ [])) d (sends to what d)
unfolding sends
sends-does to what d = let none = does-nothing d in record { table = none.table; stamp = none.stamp; packets = refl; reports = none.reports; answers = none.answers; steps = none.steps }

-- one service step more
pub means-does : (step : ServiceStep) (d : Progress) → Does (record nothing { steps = step ∷ [] }) d (means step d)
unfolding means
means-does step d = let none = does-nothing d in record { table = none.table; stamp = none.stamp; packets = none.packets; reports = none.reports; answers = none.answers; steps = refl }

-- one report more
pub reports_to-does : (p : Pid) (r : Report) (d : Progress) → Does (record nothing { reports = (p, r) ∷ [] }) d (reports_to p r d)
unfolding reports_to
reports_to-does p r d = let none = does-nothing d in record { table = none.table; stamp = none.stamp; packets = none.packets; reports = refl; answers = none.answers; steps = none.steps }

-- one answer more
pub answers_to-does : (p : Pid) (a : Answer) (d : Progress) → Does (record nothing { answers = (p, a) ∷ [] }) d (answers_to p a d)
unfolding answers_to
answers_to-does p a d = let none = does-nothing d in record { table = none.table; stamp = none.stamp; packets = none.packets; reports = none.reports; answers = refl; steps = none.steps }

-- a report to a holder
pub reports-does : (h : Holder) (r : Report) (d : Progress) → Does (record nothing { reports = for_holder h (r ∷ []) }) d (reports h r d)
reports-does (holder.Owner p) r d = reports_to-does p r d
reports-does (holder.EnclosedIn on) r d = does-nothing d

-- an answer to a holder
pub answers-does : (h : Holder) (a : Answer) (d : Progress) → Does (record nothing { answers = for_holder h (a ∷ []) }) d (answers h a d)
answers-does (holder.Owner p) a d = answers_to-does p a d
answers-does (holder.EnclosedIn on) a d = does-nothing d

-- the entry of one end changes
pub keeps-does : (e : EndId) (x : Entry) (d : Progress) → Does (changed (puts e x stays)) d (keeps e x d)
unfolding keeps put
keeps-does e x d = does-changed (puts e x stays) d (keeps e x d) (λ q. refl) (keeps-only e x d)
