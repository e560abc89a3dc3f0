use Rattle.std.proofs.Common.{◌∷◌, ◌≡◌, false, ap, sym, ◌∙◌, rules, ℤ, Result}
use Rattle.std.proofs.lemmas.Int.{to_z-of_z}
use mir.Syntax.{w64}
use mir.Val.{SFits}
use Rattle.typing_rules.specs.declared.exception.Exception.{Exception}
use Rattle.lynx_meaning.specs.Code.{gives, raises}
use Rattle.lynx_meaning.specs.Values.{Int}
use Rattle.machine_values.specs.Told as values
use Rattle.machine_turns.specs.Threads.{Standing, in_turn, made}
use Rattle.machine_thread.proofs.Answering.{where_ok}
use Rattle.machine_thread.proofs.thread.Thread.gives_of_two.Goals as goal

pub returns-in_ok-push_int-in-Err-2 : goal.returns-in_ok-push_int-in-Err-2
returns-in_ok-push_int-in-Err-2 c =
    let s : Standing = record c.args.self.now { stack = Int c.args.second ∷ Int c.args.first ∷ c.args.self.now.stack } in
    let fits : SFits w64 c.args.first = search rules in
    let fits_too : SFits w64 c.args.second = search rules in
    let once : c.push_int-in-Err.new.self ≡ record c.args.self.now { stack = Int c.args.first ∷ c.args.self.now.stack } = simp to_z-of_z at c.in_ok-push_int-in-Err.ensures in
    let twice : c.push_int-in-Err-2.new.self ≡ record c.push_int-in-Err.new.self { stack = Int c.args.second ∷ c.push_int-in-Err.new.self.stack } =
    simp to_z-of_z at c.in_ok-push_int-in-Err-2.ensures in
    let pushed : c.push_int-in-Err-2.new.self ≡ s = twice ∙ ap (λ (u : Standing). record u { stack = Int c.args.second ∷ u.stack }) once in
    where_ok
    c.raises.result
    (λ move is globals.
    is false globals
    ∙ ap (λ (u : Standing). made false u (raises c.in-Err.exception (in_turn globals u))) pushed
    ∙ ap (λ (found : Result ℤ Exception). made false s (gives (values.told found) c.args.self.now.stack (in_turn globals s))) (sym c.in-Err.is))
    c.raises.ensures
