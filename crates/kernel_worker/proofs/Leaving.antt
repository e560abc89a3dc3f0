-- A worker makes turns until it leaves.
use Rattle.std.proofs.Common.{◌≡◌, ◌⊎◌, inl, inr, ℕ, ◌+◌, ◌-◌, ◌*◌, ◌<◌, Bool, false, true, List, Result, IfOk, OnErr, refl, ap, sym, subst, ◌∙◌, arith}
use Rattle.kernel_entries.specs.declared.entry.Entry.{Entry}
use Rattle.kernel_turns.proofs.Goes.{goes-some}
use Rattle.kernel_turns.proofs.Left.{weight-reached}
use Rattle.kernel_turns.specs.Amid.{IsSomeNode, SameRun}
use Rattle.kernel_turns.specs.Goes.{Goes}
use Rattle.kernel_turns.specs.Left.{Lessens, weight}
use Rattle.kernel_turns.specs.Nodes.{Meaning}
use Rattle.kernel_turns.specs.Turns.{IsTurn}
use Rattle.kernel_turns.specs.declared.node.Node.{Node}
use Rattle.kernel_turns.specs.declared.node.Turn.{Turn}
use Rattle.kernel_turns.specs.declared.node.Turn.TheVariants as turn
use Rattle.kernel_worker.proofs.Going.{on-both, on-passed, on-reached, on-turned, turn-works, weight-kept, works-passed, works-reached, works-then}
use Rattle.kernel_worker.specs.Rounds.{GoesOn, Works}

-- ---- a turn behind the gate

-- with each turn less is left of turns and of idle turns, unless the worker leaves
pub turns-fall : (t : Turn) (before after i j : ℕ) (enough : Bool) → Lessens t before after → i < 16384 → j < 16384 → (t ≡ turn.Idle → j ≡ i + 1) → (t ≡ turn.Spent → enough ≡ true) → enough ≡ false
    → after * 16385 + (16384 - j) < before * 16385 + (16384 - i)
turns-fall turn.Event before after i j enough less below there rests spent goes_on = omega (arith, less, below, there)
turns-fall turn.Paused before after i j enough less below there rests spent goes_on = omega (arith, less, below, there)
turns-fall turn.Sent before after i j enough less below there rests spent goes_on = omega (arith, less, below, there)
turns-fall turn.Marked before after i j enough less below there rests spent goes_on = omega (arith, less, below, there)
turns-fall turn.Idle before after i j enough less below there rests spent goes_on = omega (arith, less, below, there, rests refl)
turns-fall turn.Spent before after i j enough less below there rests spent goes_on = let no : true ≡ false = sym (spent refl) ∙ goes_on in absurd cc

module _ {P S W V : Type 0} (m : Meaning P S) (HasSeen : W → List Entry → Type 0) (made_with : W → V) where
  -- a node that passed the gate may make a turn
  pub passed-some : (old passed : Node P W) → passed ≡ record old { passes = passed.passes } → IsSomeNode m HasSeen old → IsSomeNode m HasSeen passed
  passed-some old passed pass some = goes-some m HasSeen made_with old passed (on-passed m HasSeen made_with old passed pass).goes some

  pub passed-turned : {E : Type 0} (r : Result Turn E) (old passed turned : Node P W) → passed ≡ record old { passes = passed.passes } → Goes m HasSeen made_with passed turned → IfOk r (λ t. IsTurn m t passed turned) → OnErr r (SameRun passed.base turned.base)
      → GoesOn m HasSeen made_with old turned
  passed-turned r old passed turned pass goes made same = on-both m HasSeen made_with old passed turned (on-passed m HasSeen made_with old passed pass) (on-turned m HasSeen made_with r passed turned goes made same)

  -- it is asked whom it reached
  pub turned-reached : (old turned new : Node P W) → GoesOn m HasSeen made_with old turned → new ≡ record turned { base = record turned.base { outbox = record turned.base.outbox { reached = new.base.outbox.reached } } } → GoesOn m HasSeen made_with old new
  turned-reached old turned new goes reach = on-both m HasSeen made_with old turned new goes (on-reached m HasSeen made_with turned new reach)

  -- a turn was made behind the gate, and then the node was asked whom it reached
  pub record IsMade (t : Turn) (old passed turned new : Node P W) : Type 0 where
    pub some : IsSomeNode m HasSeen old
    pub pass : passed ≡ record old { passes = passed.passes }
    pub whole : passed.spoiled ≡ false
    pub made : IsTurn m t passed turned
    pub less : Lessens t (weight passed.base) (weight turned.base)
    pub reach : new ≡ record turned { base = record turned.base { outbox = record turned.base.outbox { reached = new.base.outbox.reached } } }

  pub made-works : (t : Turn) (old passed turned new : Node P W) → IsMade t old passed turned new → Works old new
  made-works t old passed turned new is =
      works-passed old passed new is.pass (works-reached passed turned new is.reach (turn-works m HasSeen t passed turned (passed-some old passed is.pass is.some) is.whole is.made is.less))

  pub made-less : (t : Turn) (old passed turned new : Node P W) → IsMade t old passed turned new → Lessens t (weight old.base) (weight new.base)
  made-less t old passed turned new is =
      let same : weight new.base ≡ weight turned.base = ap (λ (n : Node P W). weight n.base) is.reach ∙ weight-reached turned.base new.base.outbox.reached in
      subst (λ a. Lessens t a (weight new.base)) (weight-kept old passed is.pass) (subst (λ b. Lessens t (weight passed.base) b) (sym same) is.less)

-- ---- turns

module _ {P W : Type 0} where
  -- it did not change yet, or worked already
  pub work-joined : (first now after : Node P W) → (now ≡ first) ⊎ Works first now → Works now after → Works first after
  work-joined first now after (inl same) works = subst (λ (n : Node P W). Works n after) same works
  work-joined first now after (inr before) works = works-then first now after before works
