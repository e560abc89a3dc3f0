-- Nodes that are left out of a round, and those that make a turn.
use Rattle.std.proofs.Common.{◌≡◌, ◌⊎◌, inl, inr, ℕ, zero, suc, ◌+◌, ◌<◌, ◌≤◌, Bool, false, true, List, [], ◌∷◌, length, refl, ap, sym, subst, ◌∙◌, arith}
use Rattle.std.specs.Prelude.{IsSome, set, slice_index_or}
use Rattle.kernel_outbox.specs.Letters.{outbox_to}
use Rattle.kernel_turns.proofs.Left.{weight-reached}
use Rattle.kernel_turns.specs.Goes.{IsAtRest}
use Rattle.kernel_turns.specs.Left.{Lessens, weight}
use Rattle.kernel_turns.specs.Nodes.{Meaning}
use Rattle.kernel_turns.specs.Turns.{Asks, Began, Begins, BeginsInTime, BeginsOnce, Continues, GetsMarker, Idles, InTime, IsTime, IsTurn, NoLetter, NotNow, Pauses, PutsLetters, SendsOnly, SpendsStamps, SpendsTurns, TakesIt, Works as TurnWorks}
use Rattle.kernel_turns.specs.declared.base.Base.{Base}
use Rattle.kernel_turns.specs.declared.node.Node.{Node}
use Rattle.kernel_turns.specs.declared.node.Turn.{Turn}
use Rattle.kernel_turns.specs.declared.node.Turn.TheVariants as turn
use Rattle.program_round.specs.Doings.{IsNextToGo, NoneCanGo, can_go_on, doing_at}
use Rattle.program_round.specs.declared.doing.Doing.{Doing}
use Rattle.kernel_worker.specs.Awake.{AreIdle, IsIdle, IsUnchanged, is_awake}
use Rattle.kernel_worker.specs.Rounds.{EachOf, Works}
use Rattle.kernel_worker.specs.declared.awake.Awake.{Awake}

not-both : {X : Type 0} (b : Bool) → b ≡ true → b ≡ false → X
not-both b is other = let never : true ≡ false = sym is ∙ other in absurd cc

-- ---- which nodes are asked

pub set-false : (bs : List Bool) (i k : ℕ) → slice_index_or (set bs i false) k true ≡ false → (k ≡ i) ⊎ (slice_index_or bs k true ≡ false)
set-false [] i k e = inr e
set-false (b ∷ bs) zero zero e = inl refl
set-false (b ∷ bs) zero (suc k) e = inr e
set-false (b ∷ bs) (suc i) zero e = inr e
set-false (b ∷ bs) (suc i) (suc k) e = by (set-false bs i k e)
  where
    by : (k ≡ i) ⊎ (slice_index_or bs k true ≡ false) → (suc k ≡ suc i) ⊎ (slice_index_or bs k true ≡ false)
    by (inl same) = inl (ap suc same)
    by (inr rests) = inr rests

pub set-true : (bs : List Bool) (i k : ℕ) → slice_index_or (set bs i true) k true ≡ false → slice_index_or bs k true ≡ false
set-true [] i k e = e
set-true (b ∷ bs) zero zero e = not-both true refl e
set-true (b ∷ bs) zero (suc k) e = e
set-true (b ∷ bs) (suc i) zero e = e
set-true (b ∷ bs) (suc i) (suc k) e = set-true bs i k e

module _ {P W : Type 0} where
  pub idle-all : (a : Awake) (k : ℕ) (ns : List (Node P W)) → ((j : ℕ) → is_awake a j ≡ true) → AreIdle a k ns
  idle-all a k [] all = tt
  idle-all a k (n ∷ ns) all = (λ e. not-both (is_awake a k) (all k) e, idle-all a (k + 1) ns all)

  -- more are asked
  pub idle-fewer : (a b : Awake) (k : ℕ) (ns : List (Node P W)) → ((j : ℕ) → k ≤ j → is_awake b j ≡ false → is_awake a j ≡ false) → AreIdle a k ns → AreIdle b k ns
  idle-fewer a b k [] fewer idle = tt
  idle-fewer a b k (n ∷ ns) fewer idle = (λ e. idle.0 (fewer k (omega arith) e), idle-fewer a b (k + 1) ns (λ j from e. fewer j (omega (arith, from)) e) idle.1)

  pub idle-first : (a : Awake) (k : ℕ) (ns : List (Node P W)) (n : Node P W) (rest : List (Node P W)) → ns ≡ n ∷ rest → AreIdle a k ns → (is_awake a k ≡ false → IsIdle n) × AreIdle a (k + 1) rest
  idle-first a k ns n rest is idle = subst (AreIdle a k) is idle

  -- an idle node that is left out could do nothing
  pub idle-works : (n : Node P W) → IsIdle n → Works n n
  idle-works n idle = record { less = omega arith; still = λ e. inl idle.still; unspoiled = idle.unspoiled }

  -- none is asked
  pub none-work : (a : Awake) (k : ℕ) (ns : List (Node P W)) → ((j : ℕ) → k ≤ j → j < 8 → is_awake a j ≡ false) → k + length ns ≤ 8 → AreIdle a k ns → EachOf Works ns ns
  none-work a k [] none few idle = tt
  none-work a k (n ∷ ns) none few idle = (idle-works n (idle.0 (none k (omega arith) (omega (arith, few)))), none-work a (k + 1) ns (λ j from below. none j (omega (arith, from)) below) (omega (arith, few)) idle.1)

  reached-idle : (n : Node P W) (r : ℕ) → IsIdle n → IsIdle (record n { base = record n.base { outbox = record n.base.outbox { reached = r } } })
  reached-idle n r idle =
      record {
        still = record { silent = idle.still.silent; programs = idle.still.programs; full = idle.still.full };
        rest = record { letters = idle.rest.letters; programs = idle.rest.programs };
        begun = λ time. idle.begun (record { after = time.after; asked = time.asked; used = time.used; left = time.left });
        unspoiled = idle.unspoiled;
      }

  -- it was asked whom it reached
  pub idle-reached : (old new : Node P W) → new ≡ record old { base = record old.base { outbox = record old.base.outbox { reached = new.base.outbox.reached } } } → IsIdle old → IsIdle new
  idle-reached old new rest idle = subst IsIdle (sym rest) (reached-idle old new.base.outbox.reached idle)

  -- an event leaves less to do
  pub event-falls : (t : Turn) (old turned new : Node P W) → t ≡ turn.Event → Lessens t (weight old.base) (weight turned.base)
      → new ≡ record turned { base = record turned.base { outbox = record turned.base.outbox { reached = new.base.outbox.reached } } } → weight new.base < weight old.base
  event-falls t old turned new is less rest =
      let same : weight new.base ≡ weight turned.base = ap (λ (n : Node P W). weight n.base) rest ∙ weight-reached turned.base new.base.outbox.reached in
      let fell : weight turned.base < weight old.base = subst (λ u. Lessens u (weight old.base) (weight turned.base)) is less in
      omega (arith, same, fell)

-- ---- an idle turn

-- where it was time, the node has begun
time-begun : (old begun : Base) → BeginsInTime old begun → IsTime begun → IsSome begun.course.begun
time-begun old begun (InTime due (Begins has)) time = subst (λ c. IsSome c.begun) (sym has.course) refl
time-begun old begun (InTime due (Began n is same)) time = subst (λ (b : Base). IsSome b.course.begun) same (subst IsSome (sym is) refl)
time-begun old begun (NotNow never same) time = absurd (never (subst IsTime (sym same) time))

ready-begun : (put : Bool) (old begun ready : Base) → BeginsInTime old begun → PutsLetters put begun ready → IsTime ready → IsSome ready.course.begun
ready-begun put old begun ready begins puts time =
    subst (λ c. IsSome c.begun) (sym puts.course)
    (time-begun old begun begins
    (record {
      after = time.after;
      asked = ap (λ o. o.begins) (sym puts.kept.orders) ∙ time.asked;
      used = subst (λ u. time.after ≤ u) puts.kept.used time.used;
      left = subst (λ o. begun.used < o.limit) puts.kept.orders (subst (λ u. u < ready.orders.limit) puts.kept.used time.left);
    }))

module _ {P S W : Type 0} (m : Meaning P S) where
  -- an idle turn finds nothing
  record FindsNothing (n after : Node P W) : Type 0 where
    silent : NoLetter after.base
    same : after.base ≡ n.base

  finds-nothing : (put : Bool) (t : Turn) (n after : Node P W) → Continues m put t n after → t ≡ turn.Idle → FindsNothing n after
  finds-nothing put t n after (SpendsTurns n' spent) is = let no : turn.Spent ≡ turn.Idle = is in absurd cc
  finds-nothing put t n after (TakesIt n' from p got base who heard watch turns gets happens hears) is = let no : turn.Event ≡ turn.Idle = is in absurd cc
  finds-nothing put t n after (GetsMarker n' from got base turns gets once) is = let no : turn.Marked ≡ turn.Idle = is in absurd cc
  finds-nothing put t n after (Asks n' place p given c mine stepped heard base who watch turns silent next lent steps call happens hears) is = let no : turn.Event ≡ turn.Idle = is in absurd cc
  finds-nothing put t n after (Pauses n' place p given does stepped turns silent next lent none steps) is = let no : turn.Paused ≡ turn.Idle = is in absurd cc
  finds-nothing put t n after (SendsOnly n' turns silent none done) is = let no : turn.Sent ≡ turn.Idle = is in absurd cc
  finds-nothing put t n after (Idles n' turns silent none unput) is = record { silent = silent; same = refl }

  -- a node that made an idle turn and is at rest is idle
  pub idle-turned : (t : Turn) (n after : Node P W) → IsTurn m t n after → t ≡ turn.Idle → IsAtRest after → after.spoiled ≡ false → IsIdle after
  idle-turned t n after (SpendsStamps n' spent) is rest whole = let no : turn.Spent ≡ turn.Idle = is in absurd cc
  idle-turned t n after (TurnWorks n' begun ready put t' after' early begins puts on) is rest whole =
      let found : FindsNothing (record n { base = ready }) after = finds-nothing put t (record n { base = ready }) after on is in
      record {
        still = record { silent = found.silent; programs = rest.programs; full = λ to some. absurd (let none : length (outbox_to after.base.outbox to) ≡ 0 = ap length (rest.letters to) in omega (arith, some, none)) };
        rest = rest;
        begun = λ time. subst (λ (b : Base). IsSome b.course.begun) (sym found.same) (ready-begun put n.base begun ready begins puts (subst IsTime found.same time));
        unspoiled = whole;
      }

  -- a node of which a turn was asked rests once it is idle
  pub turned-idle : {A : Type 0} (t : Turn) (old turned new : Node P W) → IsTurn m t old turned → Works old turned
      → new ≡ record turned { base = record turned.base { outbox = record turned.base.outbox { reached = new.base.outbox.reached } } }
      → (asked : Bool) → asked ≡ true → (A × (t ≡ turn.Idle) × IsAtRest turned) ⊎ (asked ≡ false) → IsIdle new
  turned-idle t old turned new made works rest asked was (inl rests) = idle-reached turned new rest (idle-turned t old turned made rests.1 rests.2 works.unspoiled)
  turned-idle t old turned new made works rest asked was (inr slept) = not-both asked was slept

-- ---- a turn of an idle node

idle-begins : (old begun : Base) → (IsTime old → IsSome old.course.begun) → BeginsInTime old begun → old ≡ begun
idle-begins old begun some (InTime due (Begins has)) = let no : false ≡ true = subst IsSome has.before (some due) in absurd cc
idle-begins old begun some (InTime due (Began n is same)) = same
idle-begins old begun some (NotNow never same) = same

idle-puts : (put : Bool) (begun ready : Base) → ((to : ℕ) → outbox_to begun.outbox to ≡ []) → PutsLetters put begun ready → put ≡ false
idle-puts false begun ready none puts = refl
idle-puts true begun ready none puts =
    let some = puts.some refl in
    let empty : length (outbox_to begun.outbox some.0) ≡ 0 = ap length (none some.0) in
    absurd (omega (arith, some.1, empty))

none-next : {X : Type 0} (count next : ℕ) (doing : List Doing) (place : ℕ) → NoneCanGo count doing → IsNextToGo count next doing place → X
none-next count next doing place none is = not-both (can_go_on (doing_at doing place)) is.ready (none place is.there)

module _ {P W : Type 0} where
  ready-unchanged : (put : Bool) (n : Node P W) (begun ready : Base) → n.base ≡ begun → put ≡ false → PutsLetters put begun ready → IsUnchanged n (record n { base = ready })
  ready-unchanged put n begun ready same unput puts =
      record {
        kernel = puts.kept.kernel ∙ ap (λ (b : Base). b.kernel) (sym same);
        journal = puts.kept.journal ∙ ap (λ (b : Base). b.journal.entries) (sym same);
        port = puts.port unput ∙ ap (λ (b : Base). b.port) (sym same);
        letters = λ to. puts.none unput to ∙ ap (λ (b : Base). outbox_to b.outbox to) (sym same);
        course = puts.course ∙ ap (λ (b : Base). b.course) (sym same);
        used = puts.kept.used ∙ ap (λ (b : Base). b.used) (sym same);
        programs = refl;
        watch = refl;
      }

module _ {P S W : Type 0} (m : Meaning P S) where
  -- where it takes nothing it changes nothing
  idle-continues : (put : Bool) (t : Turn) (n after : Node P W) → Continues m put t n after → NoneCanGo (length n.programs.all.items) n.programs.doing → (t ≡ turn.Event → ⊥) → (t ≡ turn.Marked → ⊥) → n ≡ after
  idle-continues put t n after (SpendsTurns n' spent) none event marked = refl
  idle-continues put t n after (TakesIt n' from p got base who heard watch turns gets happens hears) none event marked = absurd (event refl)
  idle-continues put t n after (GetsMarker n' from got base turns gets once) none event marked = absurd (marked refl)
  idle-continues put t n after (Asks n' place p given c mine stepped heard base who watch turns silent next lent steps call happens hears) none event marked = absurd (event refl)
  idle-continues put t n after (Pauses n' place p given does stepped turns silent next lent call steps) none event marked =
      none-next (length n.programs.all.items) n.programs.next n.programs.doing place none next
  idle-continues put t n after (SendsOnly n' turns silent nobody done) none event marked = refl
  idle-continues put t n after (Idles n' turns silent nobody unput) none event marked = refl

  -- a turn of an idle node takes a packet, gets a marker, or changes nothing
  pub idle-unchanged : (t : Turn) (n after : Node P W) → IsTurn m t n after → IsIdle n → (t ≡ turn.Event → ⊥) → (t ≡ turn.Marked → ⊥) → IsUnchanged n after
  idle-unchanged t n after (SpendsStamps n' spent) idle event marked =
      record { kernel = refl; journal = refl; port = refl; letters = λ to. refl; course = refl; used = refl; programs = refl; watch = refl }
  idle-unchanged t n after (TurnWorks n' begun ready put t' after' early begins puts on) idle event marked =
      let same : n.base ≡ begun = idle-begins n.base begun idle.begun begins in
      let unput : put ≡ false = idle-puts put begun ready (λ to. ap (λ (b : Base). outbox_to b.outbox to) (sym same) ∙ idle.rest.letters to) puts in
      subst (IsUnchanged n) (idle-continues put t (record n { base = ready }) after on idle.still.programs event marked) (ready-unchanged put n begun ready same unput puts)
