-- How a run with something beside it ends, where that did not stop it.
use Rattle.std.proofs.Common.{◌≡◌, List, subst, sym}
use Rattle.kernel_turns.specs.declared.node.Node.{Node}
use Rattle.kernel_worker.specs.Ends.{Ends, EndsWith, Unstopped, with_end_of}
use Rattle.kernel_worker.specs.declared.beside.WithEnd.{WithEnd}
use Rattle.kernel_worker.specs.declared.standing.End.{End}
use Rattle.kernel_worker.specs.declared.standing.End.TheVariants as end

with-its-end : {P W : Type 0} (Stopped : Type 0) (ns : List (Node P W)) (e : End) → Ends ns e → EndsWith Stopped ns (with_end_of e)
with-its-end Stopped ns end.Quiet is = is
with-its-end Stopped ns (end.Spent k) is = is

pub ends-with : {P W : Type 0} (Stopped : Type 0) (ns : List (Node P W)) (e : End) (r : WithEnd) → r ≡ with_end_of e → Ends ns e → EndsWith Stopped ns r
ends-with Stopped ns e r same is = subst (EndsWith Stopped ns) (sym same) (with-its-end Stopped ns e is)

not-stopped : (X : Type 0) (e : End) → X → Unstopped (with_end_of e) X
not-stopped X end.Quiet is = is
not-stopped X (end.Spent k) is = is

pub was-unstopped : (X : Type 0) (e : End) (r : WithEnd) → r ≡ with_end_of e → X → Unstopped r X
was-unstopped X e r same is = subst (λ w. Unstopped w X) (sym same) (not-stopped X e is)
