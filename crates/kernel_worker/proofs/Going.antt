-- What turns, and what stands between turns, make of a node.
use Rattle.std.proofs.Common.{◌≡◌, ◌⊎◌, inl, inr, ℕ, ◌+◌, ◌<◌, ◌≤◌, Bool, false, true, List, [], ◌++◌, All, Result, Ok, Err, IfOk, OnErr, OnOk, length, refl, ap, sym, subst, ◌∙◌, append-nil, arith}
use Rattle.std.proofs.lemmas.List.{length-append}
use Rattle.charlotte_calls.specs.declared.names.Pid.{Pid}
use Rattle.charlotte_calls.specs.declared.setting.Setting.{Setting}
use Rattle.kernel_entries.specs.declared.entry.Entry.{Entry}
use Rattle.kernel_named.specs.Named.{GoWithin}
use Rattle.kernel_net.specs.Ports.{Place, PortView, got_from, kernels_of, place_of, put_to}
use Rattle.kernel_net.specs.declared.letter.Letter.{Letter}
use Rattle.kernel_outbox.specs.Letters.{outbox_to}
use Rattle.kernel_turns.proofs.Alike.{goes-passed, goes-reached}
use Rattle.kernel_turns.proofs.Goes.{goes-both, goes-none}
use Rattle.kernel_turns.proofs.Left.{idle-stands, spent-is, weight-port, weight-reached}
use Rattle.kernel_turns.proofs.Turned.{works-both, works-in_time}
use Rattle.kernel_turns.specs.Amid.{IsSomeNode, SameRun}
use Rattle.kernel_turns.specs.Events.{Happens}
use Rattle.kernel_turns.specs.Goes.{Goes, StandsStill}
use Rattle.kernel_turns.specs.Left.{Lessens, weight}
use Rattle.kernel_turns.specs.Letters.{told}
use Rattle.kernel_turns.specs.Nodes.{HasSent, HasTaken, IsBy, IsNode, Meaning}
use Rattle.kernel_turns.specs.Turns.{Asks, Began, Begins, BeginsOnce, Continues, GetsLetter, GetsMarker, Idles, IsTurn, KeepsWork, Pauses, SendsOnly, SpendsStamps, SpendsTurns, TakesIt, Works as TurnWorks, with_marker}
use Rattle.kernel_turns.specs.declared.base.Base.{Base}
use Rattle.kernel_turns.specs.declared.node.Node.{Node}
use Rattle.kernel_turns.specs.declared.node.Turn.{Turn}
use Rattle.kernel_turns.specs.declared.node.Turn.TheVariants as turn
use Rattle.kernel_turns.specs.Local.{LocalEvent}
use Rattle.kernel_worker.specs.Rounds.{GoesOn, IsStopped, Learns, Works, WorksUnspoiled}

-- ---- an event uses a turn

-- no more entries are new than turns were used
record Uses (old new : Base) : Type 0 where
  few : length new.journal.entries + old.used ≤ length old.journal.entries + new.used

uses-kept : (old new : Base) → KeepsWork old new → Uses old new
uses-kept old new kept = record { few = omega (arith, ap length kept.journal, kept.used) }

uses-more : (old mid new : Base) → KeepsWork old mid → Uses mid new → Uses old new
uses-more old mid new kept uses = record { few = omega (arith, ap length kept.journal, kept.used, uses.few) }

uses-event : (o : LocalEvent) (old new : Base) (who : List Pid) → Happens o old new who → Uses old new
uses-event o old new who happens =
    record { few = omega (arith, simp length-append at (ap length happens.noted), happens.used) }

gets-kept : (from : ℕ) (l : Letter) (old new : Base) → GetsLetter from l old new → KeepsWork old new
gets-kept from l old new gets =
    record {
      kernel = ap (λ (b : Base). b.kernel) gets.rest;
      journal = ap (λ (b : Base). b.journal.entries) gets.rest;
      orders = ap (λ (b : Base). b.orders) gets.rest;
      used = ap (λ (b : Base). b.used) gets.rest;
    }

once-kept : (old new : Base) → BeginsOnce old new → KeepsWork old new
once-kept old new (Begins h) = h.kept
once-kept old new (Began n is same) = subst (KeepsWork old) same (record { kernel = refl; journal = refl; orders = refl; used = refl })

module _ {P S W : Type 0} (m : Meaning P S) where
  continues-uses : (put : Bool) (t : Turn) (n after : Node P W) → Continues m put t n after → Uses n.base after.base
  continues-uses put t n after (SpendsTurns n' spent) = record { few = omega arith }
  continues-uses put t n after (TakesIt n' from p got base who told watch turns gets happens hears) =
      uses-more n.base got base (gets-kept from _ n.base got gets) (uses-event _ got base who happens)
  continues-uses put t n after (GetsMarker n' from got base turns gets once) =
      uses-more n.base got base (gets-kept from _ n.base got gets)
      (uses-kept got base (works-both got (with_marker from got) base (record { kernel = refl; journal = refl; orders = refl; used = refl }) (once-kept (with_marker from got) base once)))
  continues-uses put t n after (Asks n' place p given c mine stepped told base who watch turns silent next lent steps call happens hears) = uses-event _ n.base base who happens
  continues-uses put t n after (Pauses n' place p given does stepped turns silent next lent none steps) = record { few = omega arith }
  continues-uses put t n after (SendsOnly n' turns silent none is) = record { few = omega arith }
  continues-uses put t n after (Idles n' turns silent none is) = record { few = omega arith }

  turn-uses : (t : Turn) (n after : Node P W) → IsTurn m t n after → Uses n.base after.base
  turn-uses t n after (SpendsStamps n' spent) = record { few = omega arith }
  turn-uses t n after (TurnWorks n' begun ready put t' after' early time puts on) =
      uses-more n.base ready after.base (works-both n.base begun ready (works-in_time n.base begun time) puts.kept) (continues-uses put t (record n { base = ready }) after on)

  -- a turn that is made leaves a node unspoiled
  continues-unspoiled : (put : Bool) (t : Turn) (n after : Node P W) → Continues m put t n after → after.spoiled ≡ n.spoiled
  continues-unspoiled put t n after (SpendsTurns n' spent) = refl
  continues-unspoiled put t n after (TakesIt n' from p got base who told watch turns gets happens hears) = refl
  continues-unspoiled put t n after (GetsMarker n' from got base turns gets once) = refl
  continues-unspoiled put t n after (Asks n' place p given c mine stepped told base who watch turns silent next lent steps call happens hears) = refl
  continues-unspoiled put t n after (Pauses n' place p given does stepped turns silent next lent none steps) = refl
  continues-unspoiled put t n after (SendsOnly n' turns silent none is) = refl
  continues-unspoiled put t n after (Idles n' turns silent none is) = refl

  turn-unspoiled : (t : Turn) (n after : Node P W) → IsTurn m t n after → after.spoiled ≡ n.spoiled
  turn-unspoiled t n after (SpendsStamps n' spent) = refl
  turn-unspoiled t n after (TurnWorks n' begun ready put t' after' early time puts on) = continues-unspoiled put t (record n { base = ready }) after on

-- ---- what goes on

module _ {P S W V : Type 0} (m : Meaning P S) (HasSeen : W → List Entry → Type 0) (made_with : W → V) where
  abbrev GoesFrom : Node P W → Node P W → Type 0
  GoesFrom = GoesOn m HasSeen made_with

  pub on-none : (n : Node P W) → GoesFrom n n
  on-none n = record { goes = goes-none m HasSeen made_with n; few = omega arith }

  pub on-both : (old mid new : Node P W) → GoesFrom old mid → GoesFrom mid new → GoesFrom old new
  on-both old mid new one two = record { goes = goes-both m HasSeen made_with old mid new one.goes two.goes; few = omega (arith, one.few, two.few) }

  -- a turn, whether or not memory was there
  pub on-turned : {E : Type 0} (r : Result Turn E) (old new : Node P W) → Goes m HasSeen made_with old new → IfOk r (λ t. IsTurn m t old new) → OnErr r (SameRun old.base new.base) → GoesFrom old new
  on-turned (Ok t) old new goes turned same = record { goes = goes; few = (turn-uses m t old new turned).few }
  on-turned (Err e) old new goes turned same = record { goes = goes; few = omega (arith, ap length same.journal, same.used) }

  -- no event was made
  still-goes : (old new : Node P W) → ((s : Setting) (k : ℕ) (first : List (Pid × P)) (made : List LocalEvent) → IsNode m HasSeen s k first made old → IsNode m HasSeen s k first made new)
      → place_of new.base.port ≡ place_of old.base.port → new.base.orders ≡ old.base.orders → length new.programs.all.items ≡ length old.programs.all.items → made_with new.watch ≡ made_with old.watch
      → length new.base.journal.entries + old.base.used ≤ length old.base.journal.entries + new.base.used → GoesFrom old new
  still-goes old new node place orders count watch few =
      record {
        goes = record {
          node = λ s k first made valid is. ([], subst (λ es. IsNode m HasSeen s k first es new) (sym (append-nil made)) (node s k first made is));
          place = place;
          orders = orders;
          count = count;
          watch = watch;
        };
        few = few;
      }

  -- a gate was passed
  pub on-passed : (old new : Node P W) → new ≡ record old { passes = new.passes } → GoesFrom old new
  on-passed old new rest =
      record { goes = goes-passed m HasSeen made_with old new rest; few = omega (arith, ap (λ (n : Node P W). length n.base.journal.entries) rest, ap (λ (n : Node P W). n.base.used) rest) }

  -- it was asked whom it reached
  pub on-reached : (old new : Node P W) → new ≡ record old { base = record old.base { outbox = record old.base.outbox { reached = new.base.outbox.reached } } } → GoesFrom old new
  on-reached old new rest =
      record { goes = goes-reached m HasSeen made_with old new rest; few = omega (arith, ap (λ (n : Node P W). length n.base.journal.entries) rest, ap (λ (n : Node P W). n.base.used) rest) }

  -- its port learned
  learned-sent : (s : Setting) (k : ℕ) (made : List LocalEvent) (b : Base) (p : PortView) → place_of p ≡ place_of b.port → put_to p ≡ put_to b.port → HasSent s k made b → HasSent s k made (record b { port = p })
  learned-sent s k made b p place put h =
      record {
        put = λ to. ap (λ (f : ℕ → List Letter). told (f to ++ outbox_to b.outbox to)) put ∙ h.put to;
        begun = h.begun;
        stamps = λ to. subst (λ (f : ℕ → List Letter). All (IsBy b.kernel.stamp) (told (f to ++ outbox_to b.outbox to))) (sym put) (h.stamps to);
        number = ap (λ (x : Place). x.kernel) place ∙ h.number;
        kernels = ap kernels_of place ∙ h.kernels;
        fits = record { lists = omega (arith, h.fits.lists, ap kernels_of place); within = subst (λ (x : Place). GoWithin (kernels_of x) b.outbox.unsent.items) (sym place) h.fits.within };
      }

  learned-taken : (made : List LocalEvent) (b : Base) (p : PortView) → got_from p ≡ got_from b.port → HasTaken made b → HasTaken made (record b { port = p })
  learned-taken made b p got h =
      record { got = λ from. ap (λ (f : ℕ → List Letter). told (f from)) got ∙ h.got from; marked = h.marked; marks = h.marks }

  learned : (n : Node P W) (p : PortView) → place_of p ≡ place_of n.base.port → put_to p ≡ put_to n.base.port → got_from p ≡ got_from n.base.port → GoesFrom n (record n { base = record n.base { port = p } })
  learned n p place put got =
      still-goes n (record n { base = record n.base { port = p } })
      (λ s k first made is. record {
        run = record { local = is.run.local; kernel = is.run.kernel; processes = is.run.processes; kernels = is.run.kernels; noted = is.run.noted; in_range = is.run.in_range };
        sent = λ e. learned-sent s k made n.base p place put (is.sent e);
        taken = λ e. learned-taken made n.base p got (is.taken e);
        programs = is.programs;
        watch = is.watch;
        limit = is.limit;
        most = is.most;
      })
      place refl refl refl (omega arith)

  pub on-learned : (A : ℕ → Type 0) (old new : Node P W) → Learns A old new → GoesFrom old new
  on-learned A old new learns = subst (GoesFrom old) (sym learns.rest) (learned old new.base.port learns.place learns.put learns.got)

-- ---- what is left

pub weight-learned : {P W : Type 0} (A : ℕ → Type 0) (old new : Node P W) → Learns A old new → weight new.base ≡ weight old.base
weight-learned {P = P} {W = W} A old new learns = weight-port old.base new.base learns.place (ap (λ (n : Node P W). n.base) learns.rest)

module _ {P S W : Type 0} (m : Meaning P S) (HasSeen : W → List Entry → Type 0) where
  turn-done : (t : Turn) (n after : Node P W) → IsSomeNode m HasSeen n → n.spoiled ≡ false → IsTurn m t n after → Lessens t (weight n.base) (weight after.base)
      → (weight after.base ≤ weight n.base) × (weight after.base ≡ weight n.base → StandsStill n ⊎ IsStopped n)
  turn-done turn.Event n after one whole turned less = (omega (arith, less), λ e. absurd (omega (arith, less, e)))
  turn-done turn.Paused n after one whole turned less = (omega (arith, less), λ e. absurd (omega (arith, less, e)))
  turn-done turn.Sent n after one whole turned less = (omega (arith, less), λ e. absurd (omega (arith, less, e)))
  turn-done turn.Marked n after one whole turned less = (omega (arith, less), λ e. absurd (omega (arith, less, e)))
  turn-done turn.Spent n after one whole turned less = (omega (arith, less), λ e. inr (spent-is m HasSeen n one whole turn.Spent after turned refl))
  turn-done turn.Idle n after one whole turned less = (omega (arith, less), λ e. by e (idle-stands m HasSeen n one whole turn.Idle after turned refl))
    where
      by : weight after.base ≡ weight n.base → (weight after.base < weight n.base) ⊎ StandsStill n → StandsStill n ⊎ IsStopped n
      by e (inl fell) = absurd (omega (arith, fell, e))
      by e (inr stands) = inl stands

  pub turn-works : (t : Turn) (n after : Node P W) → IsSomeNode m HasSeen n → n.spoiled ≡ false → IsTurn m t n after → Lessens t (weight n.base) (weight after.base) → Works n after
  turn-works t n after one whole turned less =
      let done = turn-done t n after one whole turned less in
      record { less = done.0; still = done.1; unspoiled = turn-unspoiled m t n after turned ∙ whole }

module _ {P W : Type 0} where
  pub works-then : (x y z : Node P W) → Works x y → Works y z → Works x z
  works-then x y z one two = record { less = omega (arith, one.less, two.less); still = λ e. one.still (omega (arith, one.less, two.less, e)); unspoiled = two.unspoiled }

  still-passed : (n : Node P W) (k : ℕ) → StandsStill (record n { passes = k }) ⊎ IsStopped (record n { passes = k }) → StandsStill n ⊎ IsStopped n
  still-passed n k (inl still) = inl (record { silent = still.silent; programs = still.programs; full = still.full })
  still-passed n k (inr stopped) = inr stopped

  pub works-passed : (old mid new : Node P W) → mid ≡ record old { passes = mid.passes } → Works mid new → Works old new
  works-passed old mid new rest works =
      let on : Works (record old { passes = mid.passes }) new = subst (λ n. Works n new) rest works in
      record { less = on.less; still = λ e. still-passed old mid.passes (on.still e); unspoiled = on.unspoiled }

  pub works-reached : (old mid new : Node P W) → new ≡ record mid { base = record mid.base { outbox = record mid.base.outbox { reached = new.base.outbox.reached } } } → Works old mid → Works old new
  works-reached old mid new rest works =
      let same : weight new.base ≡ weight mid.base = ap (λ (n : Node P W). weight n.base) rest ∙ weight-reached mid.base new.base.outbox.reached in
      record { less = omega (arith, works.less, same); still = λ e. works.still (omega (arith, e, same)); unspoiled = ap (λ (n : Node P W). n.spoiled) rest ∙ works.unspoiled }

  pub weight-kept : (old mid : Node P W) → mid ≡ record old { passes = mid.passes } → weight mid.base ≡ weight old.base
  weight-kept old mid rest = ap (λ (n : Node P W). weight n.base) rest

  -- it worked, or it is spoiled
  pub works-unless : {X E : Type 0} (r : Result X E) (old new : Node P W) → OnOk r (Works old new) → OnErr r (new.spoiled ≡ true) → WorksUnspoiled old new
  works-unless (Ok x) old new works spoiled e = works
  works-unless (Err x) old new works spoiled e = let no : true ≡ false = sym spoiled ∙ e in absurd cc
