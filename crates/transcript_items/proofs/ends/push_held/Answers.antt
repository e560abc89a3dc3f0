-- What stands behind the kernel.
use Rattle.std.proofs.Common.{ℕ, [], ◌∷◌, ◌++◌, ap, ◌∙◌}
use Rattle.std.specs.Prelude.{codes}
use Rattle.std.proofs.lemmas.Result.{on_ok_weaker}
use Rattle.transcript_items.specs.Texts.{fields_text, filled, here_text}
use Rattle.transcript_items.proofs.Fills.{both-parts}
use Rattle.transcript_items.proofs.ends.push_held.Goals as goal

pub returns-in_ok-fill-in-Here : goal.returns-in_ok-fill-in-Here
returns-in_ok-fill-in-Here c =
    rw c.in-Here.is (on_ok_weaker c.push_here.result
    (both-parts (filled (codes " at k# here") (c.args.kernel ∷ [])) (here_text c.in-Here.living.now) c.args.out.now.items c.fill-in-Here.new.out.items c.push_here.new.out.items (c.in_ok-fill-in-Here.ensures ∙ ap (λ (k : ℕ). c.args.out.now.items ++ filled (codes " at k# here") (k ∷ [])) c.from-number.ensures))
    c.push_here.ensures)

pub returns-in_ok-fill-in-Destroyed : goal.returns-in_ok-fill-in-Destroyed
returns-in_ok-fill-in-Destroyed c =
    rw c.in-Destroyed.is (on_ok_weaker c.push_fields.result
    (both-parts (filled (codes " at k# destroyed") (c.args.kernel ∷ [])) (fields_text c.in-Destroyed.mark) c.args.out.now.items c.fill-in-Destroyed.new.out.items c.push_fields.new.out.items (c.in_ok-fill-in-Destroyed.ensures ∙ ap (λ (k : ℕ). c.args.out.now.items ++ filled (codes " at k# destroyed") (k ∷ [])) c.from-number.ensures))
    (rw c.picture.ensures at c.push_fields.ensures))
