-- The nodes of a run, as they were made and as they were run.
use Rattle.std.proofs.Common.{◌≡◌, ℕ, ◌≤◌, List, [], ◌∷◌, All, length, map, Result, Ok, Err, IfOk, OnOk, ap, sym, subst, ◌∙◌, arith}
use Rattle.std.proofs.lemmas.List.Elements.{All-cons, All-head, All-nil, All-tail, All-weaker}
use Rattle.charlotte_calls.specs.declared.setting.Setting.{Setting}
use Rattle.kernel_worker.specs.Nodes.{Meaning}
use Rattle.kernel_worker.specs.Orders.{Orders}
use Rattle.kernel_worker.specs.Node.{Node}
use Rattle.kernel_worker.specs.NoWatch.{NoWatch}
use Rattle.kernel_worker.proofs.Each.{each-all}
use Rattle.kernel_worker.specs.Ends.{Ends, RunTogether}
use Rattle.kernel_worker.specs.Rounds.{EachOf, GoesOn}
use Rattle.kernel_worker.specs.declared.standing.End.{End}
use Rattle.kernel_worker.specs.Net.{AreNodes, AreUnspoiled, HaveMet}
use Rattle.node_start.specs.Homes.{programs_on}
use Rattle.plan_run.specs.Nodes.{AreReady, HaveEnded}

-- parts with so many turns may be started
pub within-turns : (turns : ℕ) (parts : List (Orders × NoWatch)) → turns ≤ 100000 → All (λ (part : Orders × NoWatch). part.0.limit ≡ turns) parts → All (λ (part : Orders × NoWatch). (part.0.limit ≤ 100000) × Unit {0}) parts
within-turns turns parts few all =
    All-weaker (λ (part : Orders × NoWatch). part.0.limit ≡ turns) (λ (part : Orders × NoWatch). (part.0.limit ≤ 100000) × Unit {0}) (λ part is. (omega (arith, is, few), tt)) parts all

-- what is true of each part of a list is true of what has these parts
all-of_parts : {X Y : Type 0} (f : X → Y) (A : Y → Type 0) (xs : List X) → All A (map f xs) → All (λ x. A (f x)) xs
all-of_parts f A [] all = All-nil (λ x. A (f x))
all-of_parts f A (x ∷ xs) all = All-cons (λ x. A (f x)) x xs (All-head A (f x) (map f xs) all) (all-of_parts f A xs (All-tail A (f x) (map f xs) all))

module _ {P S : Type 0} (m : Meaning P S) (s : Setting) (programs : List P) (turns : ℕ) where
  -- nodes that were started with such parts are ready
  pub are_ready : (ns : List (Node P NoWatch)) (parts : List (Orders × NoWatch)) → AreNodes m (λ _ _. Unit {0}) s (programs_on s programs) (λ _. []) ns → AreUnspoiled ns
      → map (λ (n : Node P NoWatch). (n.base.orders, n.watch)) ns ≡ parts → All (λ (part : Orders × NoWatch). part.0.limit ≡ turns) parts → AreReady m s programs turns ns
  are_ready ns parts nodes whole are limit =
      record {
        nodes = nodes;
        unspoiled = whole;
        limited = all-of_parts (λ (n : Node P NoWatch). (n.base.orders, n.watch)) (λ (part : Orders × NoWatch). part.0.limit ≡ turns) ns (subst (All (λ (part : Orders × NoWatch). part.0.limit ≡ turns)) (sym are) limit);
      }

  -- nodes that were ready have run
  pub have_ended : {V : Type 0} (made_with : NoWatch → V) (old new : List (Node P NoWatch)) (end : End) → EachOf (GoesOn m (λ _ _. Unit {0}) made_with) old new
      → RunTogether m (λ _ _. Unit {0}) old new → HaveMet new × AreUnspoiled new → Ends new end → AreReady m s programs turns old → HaveEnded m s programs turns new end
  have_ended made_with old new end goes run met ends ready =
      record {
        ran = run s (programs_on s programs) (λ _. []) ready.nodes;
        met = met.0;
        unspoiled = met.1;
        limited = each-all (GoesOn m (λ _ _. Unit {0}) made_with) (λ (n : Node P NoWatch). n.base.orders.limit ≡ turns) (λ (n : Node P NoWatch). n.base.orders.limit ≡ turns)
            (λ x y limit on. ap (λ (o : Orders). o.limit) on.goes.orders ∙ limit) old new ready.limited goes;
        ends = ends;
      }

  -- they are those of at most eight kernels
  pub few-ended : (ns : List (Node P NoWatch)) (end : End) → HaveEnded m s programs turns ns end → length ns ≤ 8
  few-ended ns end ended = let eight : s.kernels ≤ 8 = ended.ran.nodes.valid.limits.kernels in omega (arith, ended.ran.nodes.count, eight)

-- where an end is answered, nodes that were ready have ended so
pub ended-by : {P S V E : Type 0} (m : Meaning P S) (made_with : NoWatch → V) (old new : List (Node P NoWatch)) (result : Result End E) → EachOf (GoesOn m (λ _ _. Unit {0}) made_with) old new
    → OnOk result (RunTogether m (λ _ _. Unit {0}) old new) → OnOk result (HaveMet new × AreUnspoiled new) → IfOk result (Ends new)
    → IfOk result (λ end. (s : Setting) (programs : List P) (turns : ℕ) → AreReady m s programs turns old → HaveEnded m s programs turns new end)
ended-by m made_with old new (Ok end) goes run met ends = λ s programs turns ready. have_ended m s programs turns made_with old new end goes run met ends ready
ended-by m made_with old new (Err e) goes run met ends = tt
