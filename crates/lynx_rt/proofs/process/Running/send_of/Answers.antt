use Rattle.std.proofs.Common.{rules, ◌≡◌, Bool, Option, option_map, subst}
use Rattle.charlotte_calls.specs.declared.program.Next.{Next}
use Rattle.charlotte_calls.specs.declared.program.Next.TheVariants as next
use Rattle.process_run.specs.Runs.{sending}
use Rattle.lynx_rt.specs.Steps.{first_at, next_if}
use Rattle.lynx_rt.proofs.Stepping.{sends_none, sends_one}
use Rattle.lynx_rt.proofs.process.Running.send_of.Goals as goal

pub returns-then-send_call : goal.returns-then-send_call
returns-then-send_call c =
    sends_one c.args.number c.args.on c.send_call.new.out c.args.self.now _
    (subst (λ (b : Bool). ◌≡◌ {A = Option Next} (next_if b c.send_call.new.out) (option_map (λ a. next.Ask a.call) (sending c.args.self.now.version c.args.number c.args.on (first_at c.args.number c.args.self.now)))) c.if-send_call.true c.send_call.ensures)
    (search rules)

pub returns : goal.returns
returns c =
    sends_none c.args.number c.args.on c.args.self.now
    (subst (λ (b : Bool). ◌≡◌ {A = Option Next} (next_if b c.send_call.new.out) (option_map (λ a. next.Ask a.call) (sending c.args.self.now.version c.args.number c.args.on (first_at c.args.number c.args.self.now)))) c.if-send_call.false c.send_call.ensures)
