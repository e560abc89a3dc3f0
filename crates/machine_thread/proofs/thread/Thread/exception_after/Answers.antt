use Rattle.std.proofs.Common.{arith, ◌≡◌, ℕ, ◌+◌, ◌-◌, List, map, take, drop, ap, sym, ◌∙◌}
use Rattle.std.proofs.lemmas.List.{drop-map, take-map}
use Rattle.typing_rules.specs.declared.exception.Exception.{Exception}
use Rattle.machine_turns.specs.Threads.{Standing}
use Rattle.lynx_meaning.specs.Courses.{Outcome}
use Rattle.machine_thread.specs.Closes.{lasting}
use Rattle.machine_thread.specs.Told.{outcome_of}
use Rattle.machine_thread.specs.declared.action.Given.{Given}
use Rattle.machine_thread.proofs.thread.Thread.exception_after.Goals as goal

part : (x : Exception) (heard closes n : ℕ) (items shown : List Given) (given : List Outcome) → n ≡ closes → shown ≡ items → map outcome_of items ≡ given →
    lasting x (map outcome_of (take n (drop heard shown))) ≡ lasting x (take closes (drop heard given))
part x heard closes n items shown given size same told =
    ap (λ (k : ℕ). lasting x (map outcome_of (take k (drop heard shown)))) size
    ∙ ap (λ (gs : List Given). lasting x (map outcome_of (take closes (drop heard gs)))) same
    ∙ ap
    (λ (os : List Outcome). lasting x os)
    (sym (take-map outcome_of closes (drop heard items)) ∙ ap (λ (os : List Outcome). take closes os) (sym (drop-map outcome_of heard items)) ∙ ap (λ (os : List Outcome). take closes (drop heard os)) told)

pub returns : goal.returns
returns c =
    c.lasting.ensures
    ∙ part c.args.raised.now.exception c.args.raised.now.heard c.args.closes (c.args.raised.now.heard + c.args.closes - c.args.raised.now.heard) c.self.inside.given.items c.deref.result.now c.args.self.now.given
    (omega arith)
    c.deref.ensures.value
    (ap (λ (s : Standing). s.given) c.self.view_is)
