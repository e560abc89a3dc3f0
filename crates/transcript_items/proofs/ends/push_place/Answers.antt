-- What stands behind the number of a message.
use Rattle.std.proofs.Common.{ℕ, [], ◌∷◌, ◌++◌, ap, ◌∙◌}
use Rattle.std.specs.Prelude.{codes}
use Rattle.std.proofs.lemmas.Result.{on_ok_weaker}
use Rattle.charlotte_text.specs.Spelling.{end_text}
use Rattle.transcript_items.specs.Texts.{filled}
use Rattle.transcript_items.proofs.Fills.{both-parts}
use Rattle.transcript_items.proofs.ends.push_place.Goals as goal

pub returns-in_ok-fill-in-InMessage : goal.returns-in_ok-fill-in-InMessage
returns-in_ok-fill-in-InMessage c =
    rw c.in-InMessage.is (on_ok_weaker c.push_end.result
    (both-parts (filled (codes " in the service: in message # of ") (c.in-InMessage.n ∷ [])) (end_text c.in-InMessage.on) c.args.out.now.items c.fill-in-InMessage.new.out.items c.push_end.new.out.items (c.in_ok-fill-in-InMessage.ensures ∙ ap (λ (n : ℕ). c.args.out.now.items ++ filled (codes " in the service: in message # of ") (n ∷ [])) c.from-in-InMessage.ensures))
    c.push_end.ensures.ok)
