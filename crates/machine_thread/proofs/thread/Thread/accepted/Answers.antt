use Rattle.std.proofs.Common.{rules, ◌≡◌, [], ◌∷◌, ◌++◌, None, false, ap, sym, ◌∙◌}
use Rattle.lynx_meaning.specs.Code.{Next, asks}
use Rattle.lynx_meaning.specs.Courses.{Accept}
use Rattle.lynx_meaning.specs.Values.{Link}
use Rattle.machine_turns.specs.Threads.{in_turn, made}
use Rattle.machine_thread.specs.Outcomes.{first_given, raised_by}
use Rattle.machine_thread.proofs.Answering.{accepted, linked, refused, where_ok}
use Rattle.machine_thread.proofs.thread.Thread.accepted.Goals as goal

pub returns-in-Some : goal.returns-in-Some
returns-in-Some c =
    where_ok
    c.raises_after.result
    (λ move is p globals.
    let s = c.args.self.now in
    let found = linked (λ link stack. asks (Accept link c.args.op) stack (in_turn globals s) (λ now. record now { requests = c.args.op ∷ now.requests })) s.stack c.requires.operands in
    is false globals ([] ++ Accept (Link found.0) c.args.op ∷ [])
    ∙ sym (refused globals c.args.op (Link found.0) c.in-Some.exception s (sym c.first_exception.ensures ∙ c.in-Some.is))
    ∙ ap (λ (n : Next). made false s n) (sym found.1))
    c.raises_after.ensures

pub returns : goal.returns
returns c =
    let none : raised_by (first_given c.args.self.now.given) ≡ None = search rules in
    where_ok
    c.answered.result
    (λ move is p globals.
    let s = c.args.self.now in
    let found = linked (λ link stack. asks (Accept link c.args.op) stack (in_turn globals s) (λ now. record now { requests = c.args.op ∷ now.requests })) s.stack c.requires.operands in
    is globals ([] ++ Accept (Link found.0) c.args.op ∷ [])
    ∙ sym (accepted globals c.args.op (Link found.0) s c.opens_request.new.self c.in_ok-opens_request.ensures c.requires.given none)
    ∙ ap (λ (n : Next). made false s n) (sym found.1))
    c.answered.ensures
