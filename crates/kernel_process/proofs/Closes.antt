-- What the end of an event changes of the table and of the processes.
use Rattle.std.proofs.Common.{◌≡◌, ◌≢◌, ◌⊎◌, inl, inr, ℕ, ◌+◌, ◌<◌, ◌≤◌, Bool, true, false, nat_eq, true≢false, eq-eqb, Some, List, [], ◌∷◌, ◌++◌, drop, length, slice_set, map, ap, sym, subst, ◌∙◌, refl, get_or, cond, arith}
use Rattle.std.proofs.lemmas.List.{map-set, get_or-map, length-set, set-get_or}
use Rattle.std.proofs.lemmas.List.Elements.{All-set}
use Rattle.std.proofs.lemmas.Bool.Decides.{eqb_tells}
use Rattle.charlotte_calls.specs.declared.calls.Answer.{Answer}
use Rattle.charlotte_calls.specs.declared.calls.Answer.TheVariants as answer
use Rattle.charlotte_calls.specs.declared.calls.Report.{Report}
use Rattle.charlotte_calls.specs.declared.calls.ServiceStep.TheVariants as step
use Rattle.charlotte_calls.specs.declared.names.EndId.{EndId}
use Rattle.charlotte_calls.specs.declared.names.Pid.{Pid}
use Rattle.charlotte_calls.specs.declared.names.Way.{Way}
use Rattle.charlotte_packets.specs.declared.work.Effect.{Effect}
use Rattle.charlotte_packets.specs.declared.work.Work.{Work}
use Rattle.end_table.proofs.EndEq.{end_eq-same}
use Rattle.end_table.specs.Owned.{owned}
use Rattle.end_table.specs.Place.{end_eq, put}
use Rattle.end_table.specs.Table.{TableView, entries}
use Rattle.end_table.specs.declared.entry.Entry.{Entry}
use Rattle.end_table.specs.declared.entry.Entry.TheVariants as entry
use Rattle.end_table.specs.declared.entry.HereView.{HereView}
use Rattle.kernel_step.specs.Calls.{is_active}
use Rattle.kernel_step.specs.Kernel.{Kernel, Outcome, Process, with_process, process_of, reported_entry, is_waiting, joins, join_answers, join_reports, stands, exits, answers_wait, closes, turns, waits}
use Rattle.kernel_step.specs.Progress.{progress, sent_picture}
use Rattle.kernel_step.specs.declared.phase.Phase.TheVariants.{Running, Waiting, Exited}
use Rattle.kernel_process.proofs.OneProcess.{process_of-at, with_parts-set}
use Rattle.kernel_sound.proofs.Reports.{IsSound-reported, is_active-reported_put}
use Rattle.kernel_process.specs.Closing.{HaveSpare, HaveSpareFor}
use Rattle.kernel_sound.specs.Sound.{AreFor, IsSound}
use Rattle.kernel_process.specs.Parts.{ended, process_state, tells_first, with_parts}
use Rattle.kernel_process.specs.Steady.{StaysCalm, TakesAtMost}
use Rattle.kernel_process.specs.declared.process.ControlBlock.{ControlBlock}

-- to put what an end has changes nothing
pub put-same : (t : EndId → Entry) (e : EndId) (x : Entry) → x ≡ t e → put t e x ≡ t
unfolding put
put-same t e x is = λ i q. by (end_eq e q) q refl i
  where
    by : (b : Bool) (q : EndId) → end_eq e q ≡ b → cond b x (t q) ≡ t q
    by true q same = is ∙ ap t (end_eq-same e q same)
    by false q apart = refl

-- the state that a process has changes nothing
pub with_process-same : (p : Pid) (s : Kernel) → with_process p (process_of p s) s ≡ s
with_process-same p s = λ i. record s { process = λ q. by q (eqb_tells p.0 q) i }
  where
    by : (q : ℕ) → ((nat_eq p.0 q ≡ true) × (p.0 ≡ q)) ⊎ ((nat_eq p.0 q ≡ false) × (p.0 ≢ q)) → cond (nat_eq p.0 q) (s.process p.0) (s.process q) ≡ s.process q
    by q (inl t) = ap (λ b. cond b (s.process p.0) (s.process q)) t.0 ∙ ap s.process t.1
    by q (inr t) = ap (λ b. cond b (s.process p.0) (s.process q)) t.0

-- one process becomes what a function makes of it
pub sets-by : (t : EndId → Entry) (xs : List ControlBlock) (i : ℕ) (y d : ControlBlock) (s : Kernel) (p : Pid) (f : Process → Process) → d ≡ get_or xs i d → i ≡ p.0 → p.0 < length xs → process_state y ≡ f (process_state d)
    → with_parts t (slice_set xs i y) s ≡ with_process p (f (process_of p (with_parts t xs s))) (with_parts t xs s)
sets-by t xs i y d s p f lent at below is =
    with_parts-set t xs i y s p at within
    ∙ ap (λ x. with_process p x (with_parts t xs s)) (is ∙ ap (λ z. f (process_state z)) lent ∙ ap f (sym (process_of-at t xs d s i p at within)))
  where
    within : i < length xs
    within = subst (λ n. n < length xs) (sym at) below

-- room for so many more reports
abbrev HasSpare : ℕ → ControlBlock → Type 0
HasSpare n x = n ≤ x.reports.fits

-- one process is set to one with the same ends with activities, and at most n more reports
pub takes-set : (n : ℕ) (xs : List ControlBlock) (i : ℕ) (y d : ControlBlock) (p : Pid) → d ≡ get_or xs i d → i ≡ p.0 → p.0 < length xs → y.active ≡ d.active
    → d.reports.fits ≤ y.reports.fits + n
    → TakesAtMost n xs (slice_set xs i y)
takes-set n xs i y d p lent at below active fits =
    record {
      active = map-set (λ (x : ControlBlock). x.active) xs i y
          ∙ ap (λ a. slice_set (map (λ (x : ControlBlock). x.active) xs) i a) (active ∙ ap (λ (x : ControlBlock). x.active) lent ∙ sym (get_or-map (λ (x : ControlBlock). x.active) xs i d d.active within))
          ∙ set-get_or (map (λ (x : ControlBlock). x.active) xs) i d.active;
      length = length-set xs i y;
      spare = λ k have. All-set (HasSpare k) xs i y (room_left k (subst (HasSpare (k + n)) (sym lent) (have i d within))) (λ j e h. fewer k (get_or xs j e) (have j e h));
    }
  where
    within : i < length xs
    within = subst (λ n. n < length xs) (sym at) below

    room_left : (k : ℕ) → HasSpare (k + n) d → HasSpare k y
    room_left k have = omega arith

    fewer : (k : ℕ) (x : ControlBlock) → HasSpare (k + n) x → HasSpare k x
    fewer k x have = omega arith

-- room for so many is room for fewer
pub spare-fewer : (m n : ℕ) (xs : List ControlBlock) → n ≤ m → HaveSpare m xs → HaveSpare n xs
spare-fewer m n xs few have = λ j e h. fewer (get_or xs j e) (have j e h)
  where
    fewer : (x : ControlBlock) → HasSpare m x → HasSpare n x
    fewer x room = omega arith

-- room for reports, after the first of them took its own
pub spare-first : (p : Pid) (r : Report) (rs all : List (Pid × Report)) (xs : List ControlBlock) → all ≡ (p, r) ∷ rs → HaveSpareFor all xs → HaveSpare 1 xs
spare-first p r rs all xs is have = spare-fewer (length ((p, r) ∷ rs)) 1 xs (omega arith) (subst (λ l. HaveSpareFor l xs) is have)

pub spare-rest : (p : Pid) (r : Report) (rs all : List (Pid × Report)) (xs ys : List ControlBlock) → all ≡ (p, r) ∷ rs → TakesAtMost 1 xs ys → HaveSpareFor all xs → HaveSpareFor rs ys
spare-rest p r [] all xs ys is takes have = tt
spare-rest p r (q ∷ rs) all xs ys is takes have =
    takes.spare (length (q ∷ rs)) (spare-fewer (length ((p, r) ∷ q ∷ rs)) (length (q ∷ rs) + 1) xs (omega arith) (subst (λ l. HaveSpareFor l xs) is have))

-- and while none of it is taken
pub spare-kept : (rs : List (Pid × Report)) (xs ys : List ControlBlock) → TakesAtMost 0 xs ys → HaveSpareFor rs xs → HaveSpareFor rs ys
spare-kept [] xs ys takes have = tt
spare-kept (r ∷ rs) xs ys takes have = takes.spare (length (r ∷ rs)) (spare-fewer (length (r ∷ rs)) (length (r ∷ rs) + 0) xs (omega arith) have)

-- room for so many is room for these
pub spare-few : (n : ℕ) (rs : List (Pid × Report)) (xs : List ControlBlock) → length rs ≤ n → HaveSpare n xs → HaveSpareFor rs xs
spare-few n [] xs few have = tt
spare-few n (r ∷ rs) xs few have = spare-fewer n (length (r ∷ rs)) xs few have

-- no process changes
pub takes-none : (xs : List ControlBlock) → TakesAtMost 0 xs xs
takes-none xs = record { active = refl; length = refl; spare = λ k have. spare-fewer (k + 0) k xs (omega arith) have }

-- one change after another
pub takes-both : (m n o : ℕ) (xs ys zs : List ControlBlock) → m + n ≤ o → TakesAtMost m xs ys → TakesAtMost n ys zs → TakesAtMost o xs zs
takes-both m n o xs ys zs sum first second =
    record {
      active = second.active ∙ first.active;
      length = second.length ∙ first.length;
      spare = λ k have. second.spare k (first.spare (k + n) (spare-fewer (k + o) ((k + n) + m) xs (omega arith) have));
    }

-- what a kernel has of a process that was set
pub with_process-at : (p : Pid) (x : Process) (s : Kernel) → process_of p (with_process p x s) ≡ x
with_process-at p x s = ap (λ b. cond b x (s.process p.0)) (eq-eqb p.0 p.0 refl)

-- the later of two states of one process stands, and its table
pub with_process-twice : (p : Pid) (x y : Process) (t : EndId → Entry) (s : Kernel) → with_process p y (record (with_process p x s) { table = t }) ≡ with_process p y (record s { table = t })
with_process-twice p x y t s = λ i. record s { table = t; process = λ q. by (nat_eq p.0 q) (s.process q) i }
  where
    by : (b : Bool) (z : Process) → cond b y (cond b x z) ≡ cond b y z
    by true z = refl
    by false z = refl

-- an entry that is not here is as it was
pub reported-away : (w : Way) (x : Entry) → ((v : HereView) → x ≡ entry.Here v → ⊥) → reported_entry w x ≡ x
reported-away w entry.Nothing away = refl
reported-away w (entry.Here v) away = absurd (away v refl)
reported-away w (entry.Left to hops) away = refl
reported-away w (entry.Destroyed m) away = refl

-- a report that is settled leaves the table calm
pub calm-by : (old new : TableView) (w : Way) (on : EndId) → entries new ≡ put (entries old) on (reported_entry w (entries old on)) → new.kernel ≡ old.kernel → StaysCalm old new
calm-by old new w on after kernel =
    record {
      sound = λ made n sound. subst (λ k. IsSound k made n (entries new)) (sym kernel)
          (subst (IsSound old.kernel made n) (sym after) (IsSound-reported w on (entries old) old.kernel made n sound));
      calm = λ p e. ap (λ t. is_active (owned p (t e))) after ∙ is_active-reported_put w on (entries old) p e;
      kernel = kernel;
    }

-- nothing happens to the table
pub calm-none : (t : TableView) → StaysCalm t t
calm-none t = record { sound = λ made n sound. sound; calm = λ p e. refl; kernel = refl }

-- one change after another
pub calm-both : (old middle new : TableView) → StaysCalm old middle → StaysCalm middle new → StaysCalm old new
calm-both old middle new first second =
    record {
      sound = λ made n sound. second.sound made n (first.sound made n sound);
      calm = λ p e. second.calm p e ∙ first.calm p e;
      kernel = second.kernel ∙ first.kernel;
    }

-- an answer comes to stand
pub stands-by : (s after : Kernel) (e f : Effect) (p : Pid) (a : Answer) → after ≡ with_process p (record (process_of p s) { phase = Running; answer = Some a }) s
    → f.packets.items ≡ e.packets.items → f.answered.items ≡ e.answered.items ++ p ∷ [] → f.steps.items ≡ e.steps.items
    → ended after f ≡ stands p a (ended s e)
unfolding ended
stands-by s after e f p a is packets answered steps =
    λ j. record { kernel = is j; packets = map sent_picture (packets j); answered = answered j; steps = steps j }

-- a process exits
pub exits-by : (s after : Kernel) (e f : Effect) (p : Pid) → after ≡ with_process p (record { phase = Exited; reports = []; answer = Some answer.Ok }) s
    → f.packets.items ≡ e.packets.items → f.answered.items ≡ e.answered.items ++ p ∷ [] → f.steps.items ≡ e.steps.items
    → ended after f ≡ exits p (ended s e)
unfolding ended
exits-by s after e f p is packets answered steps =
    λ j. record { kernel = is j; packets = map sent_picture (packets j); answered = answered j; steps = steps j }

-- a report is told, and its activity is idle
pub tells-by : (t u : EndId → Entry) (xs : List ControlBlock) (s : Kernel) (e f : Effect) (p : Pid) (r : Report) (others : List Report) → u ≡ put t r.on (reported_entry r.way (t r.on))
    → f.packets.items ≡ e.packets.items → f.answered.items ≡ e.answered.items → f.steps.items ≡ e.steps.items ++ step.Report p r ∷ []
    → ended (with_parts u xs s) f ≡ tells_first p (r ∷ others) (ended (with_parts t xs s) e)
unfolding ended with_parts
tells-by t u xs s e f p r others is packets answered steps =
    λ j. record { kernel = with_parts (is j) xs s; packets = map sent_picture (packets j); answered = answered j; steps = steps j }

-- a report that is told answers the Wait of its process, which keeps the other reports
pub answers_wait-told : (p : Pid) (r : Report) (o : Outcome) → stands p (answer.Reported r) (tells_first p (r ∷ []) o) ≡ answers_wait p r (process_of p o.kernel).reports o
unfolding answers_wait
answers_wait-told p r o =
    λ j. stands p (answer.Reported r) (record o { kernel = same j; steps = o.steps ++ step.Report p r ∷ [] })
  where
    now : Kernel
    now = record o.kernel { table = put o.kernel.table r.on (reported_entry r.way (o.kernel.table r.on)) }

    same : now ≡ with_process p (process_of p now) now
    same = sym (with_process-same p now)

-- a Wait that finds no report
pub waits-idle : (p : Pid) (all : List Report) (s after : Kernel) (e : Effect) → all ≡ [] → after ≡ turns p Waiting s → ended after e ≡ waits p all (ended s e)
unfolding ended
waits-idle p all s after e none turned = ap (λ k. ended k e) turned ∙ ap (λ l. waits p l (ended s e)) (sym none)

-- the reports are those that were left before
pub answers_wait-left : (p : Pid) (r : Report) (others : List Report) (s after : Kernel) (e : Effect) → after ≡ with_process p (record (process_of p s) { reports = others }) s
    → answers_wait p r (process_of p after).reports (ended after e) ≡ answers_wait p r others (ended s e)
unfolding ended answers_wait
answers_wait-left p r others s after e is =
    ap (λ k. answers_wait p r (process_of p k).reports (ended k e)) is
    ∙ (λ j. stands p (answer.Reported r) (record { kernel = told j; packets = map sent_picture e.packets.items; answered = e.answered.items; steps = e.steps.items ++ step.Report p r ∷ [] }))
  where
    x : Process
    x = record (process_of p s) { reports = others }

    now : EndId → Entry
    now = put s.table r.on (reported_entry r.way (s.table r.on))

    told : with_process p (process_of p (with_process p x s)) (record (with_process p x s) { table = now }) ≡ with_process p x (record s { table = now })
    told = ap (λ y. with_process p y (record (with_process p x s) { table = now })) (with_process-at p x s) ∙ with_process-twice p x x now s

-- a list that is its own rest is empty
pub drop-same : {X : Type 0} (xs : List X) → xs ≡ drop 1 xs → xs ≡ []
drop-same [] same = refl
drop-same (x ∷ xs) same = absurd (let e : length (x ∷ xs) ≡ length (drop 1 (x ∷ xs)) = ap length same in omega arith)

-- the oldest report left the list of its process, and answers a Wait
pub waits-left : (p : Pid) (r : Report) (all others : List Report) (s after : Kernel) (e : Effect) → all ≡ r ∷ others → after ≡ with_process p (record (process_of p s) { reports = others }) s
    → answers_wait p r (process_of p after).reports (ended after e) ≡ waits p all (ended s e)
waits-left p r all others s after e is left = answers_wait-left p r others s after e left ∙ ap (λ l. waits p l (ended s e)) (sym is)

-- a report joined the list, and the oldest of it answers a Wait
pub joins-waiting : (p : Pid) (r oldest : Report) (others : List Report) (s after : Kernel) (e : Effect) → is_waiting (process_of p s).phase ≡ true
    → (process_of p s).reports ++ r ∷ [] ≡ oldest ∷ others → after ≡ with_process p (record (process_of p s) { reports = others }) s
    → answers_wait p oldest (process_of p after).reports (ended after e) ≡ joins p r (process_of p s).phase (ended s e)
unfolding ended
joins-waiting p r oldest others s after e waiting list left =
    answers_wait-left p oldest others s after e left
    ∙ sym (ap (λ b. cond b (waits p ((process_of p s).reports ++ r ∷ []) (ended s e)) (record (ended s e) { kernel = with_process p (record (process_of p s) { reports = (process_of p s).reports ++ r ∷ [] }) s })) waiting
    ∙ ap (λ l. waits p l (ended s e)) list)

-- the first of a list is known by it
pub first-told : {X : Type 0} (xs ys : List X) (x : X) → xs ≡ x ∷ ys → xs ≡ x ∷ drop 1 xs
first-told xs ys x is = is ∙ ap (λ l. x ∷ drop 1 l) (sym is)

-- a report goes behind the others
pub joins-behind : (p : Pid) (r : Report) (s after : Kernel) (e : Effect) → is_waiting (process_of p s).phase ≡ false
    → after ≡ with_process p (record (process_of p s) { reports = (process_of p s).reports ++ r ∷ [] }) s
    → ended after e ≡ joins p r (process_of p s).phase (ended s e)
unfolding ended
joins-behind p r s after e not_waiting is =
    ap (λ k. ended k e) is
    ∙ sym (ap (λ b. cond b (waits p ((process_of p s).reports ++ r ∷ []) (ended s e)) (record (ended s e) { kernel = with_process p (record (process_of p s) { reports = (process_of p s).reports ++ r ∷ [] }) s })) not_waiting)

-- the only report joins
pub join_reports-only : (p : Pid) (r : Report) (xs : List (Pid × Report)) (s : Kernel) (e : Effect) (o : Outcome) → xs ≡ (p, r) ∷ [] → o ≡ joins p r (process_of p s).phase (ended s e) → o ≡ join_reports xs (ended s e)
unfolding ended join_reports
join_reports-only p r xs s e o only is = is ∙ ap (λ l. join_reports l (ended s e)) (sym only)

-- the first report joins, and then the others
pub join_reports-more : (p : Pid) (r : Report) (xs : List (Pid × Report)) (s : Kernel) (e : Effect) (o : Outcome) → o ≡ joins p r (process_of p s).phase (ended s e) → join_reports xs o ≡ join_reports ((p, r) ∷ xs) (ended s e)
unfolding ended join_reports
join_reports-more p r xs s e o is = ap (λ z. join_reports xs z) is

-- no reports
pub join_reports-none : (xs : List (Pid × Report)) (o : Outcome) → xs ≡ [] → o ≡ join_reports xs o
unfolding join_reports
join_reports-none xs o none = ap (λ l. join_reports l o) (sym none)

-- the first answer comes to stand, and then the others
pub join_answers-more : (p : Pid) (a : Answer) (xs : List (Pid × Answer)) (before o : Outcome) → o ≡ stands p a before → join_answers xs o ≡ join_answers ((p, a) ∷ xs) before
unfolding join_answers
join_answers-more p a xs before o is = ap (λ z. join_answers xs z) is

-- no answers
pub join_answers-none : (xs : List (Pid × Answer)) (o : Outcome) → xs ≡ [] → o ≡ join_answers xs o
unfolding join_answers
join_answers-none xs o none = ap (λ l. join_answers l o) (sym none)

-- an event is over once its answers stand and its reports have joined
pub closes-by : (s : Kernel) (t : EndId → Entry) (xs : List ControlBlock) (work : Work) (e : Effect) (o after : Outcome) → e.packets.items ≡ work.packets.items → e.answered.items ≡ [] → e.steps.items ≡ work.steps.items
    → o ≡ join_answers work.answers.items (ended (with_parts t xs (record s { stamp = work.stamp })) e)
    → after ≡ join_reports work.reports.items o → after ≡ closes (with_parts t xs s) (progress t work)
unfolding ended with_parts progress closes
closes-by s t xs work e o after packets answered steps answers reports =
    reports ∙ ap (λ z. join_reports work.reports.items z) (answers
    ∙ λ j. join_answers work.answers.items (record { kernel = with_parts t xs (record s { stamp = work.stamp }); packets = map sent_picture (packets j); answered = answered j; steps = steps j }))

-- the others are for processes too
pub are_for-rest : {X : Type 0} (m n : ℕ) (x : Pid × X) (xs ys : List (Pid × X)) → ys ≡ x ∷ xs → m ≡ n → AreFor n ys → AreFor m xs
are_for-rest m n x xs ys is same are = subst (λ k. AreFor k xs) (sym same) (subst (AreFor n) is are).1

-- a list is empty where it is told so
pub is_empty-none : {X : Type 0} (xs : List X) (n : ℕ) (b : Bool) → b ≡ nat_eq n 0 → b ≡ true → n ≡ length xs → xs ≡ []
is_empty-none {X} xs n b is told len = none xs (by (eqb_tells n 0))
  where
    none : (ys : List X) → length ys ≡ 0 → ys ≡ []
    none [] h = refl
    none (y ∷ ys) h = absurd (omega arith)

    by : ((nat_eq n 0 ≡ true) × (n ≡ 0)) ⊎ ((nat_eq n 0 ≡ false) × (n ≢ 0)) → length xs ≡ 0
    by (inl t) = sym len ∙ t.1
    by (inr t) = absurd (true≢false (sym told ∙ is ∙ t.0))
