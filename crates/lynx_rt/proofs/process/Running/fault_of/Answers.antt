use Rattle.std.proofs.Common.{Some, None, if◌then◌else◌, Bool, sym, ap, ◌∙◌}
use Rattle.typing_rules.specs.declared.exception.Exception.TheVariants.{BusyLink}
use Rattle.lynx_rt.proofs.Faults.{back_at, none_at}
use Rattle.lynx_rt.proofs.process.Running.fault_of.Goals as goal

pub returns-then-is_kept_back : goal.returns-then-is_kept_back
returns-then-is_kept_back c =
    ap (λ (b : Bool). if b then Some BusyLink else None) (sym c.if-is_kept_back.true)
    ∙ sym (back_at c.args.number c.args.self.now c.args.on c.in-Some.end c.args.before.now c.is_kept_back.result c.in-Some.ensures c.is_kept_back.ensures)

pub returns : goal.returns
returns c =
    ap (λ (b : Bool). if b then Some BusyLink else None) (sym c.if-is_kept_back.false)
    ∙ sym (back_at c.args.number c.args.self.now c.args.on c.in-Some.end c.args.before.now c.is_kept_back.result c.in-Some.ensures c.is_kept_back.ensures)

pub returns-in_default : goal.returns-in_default
returns-in_default c = none_at c.args.number c.args.self.now c.args.on c.args.before.now c.in_default.ensures
