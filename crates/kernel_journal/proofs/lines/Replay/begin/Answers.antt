use Rattle.std.proofs.Common.{◌≡◌, None, ap, sym, subst, refl, ◌∙◌, rules}
use Rattle.charlotte_calls.specs.Setting.{IsValid}
use Rattle.transcript_replay.specs.Course.{course_start}
use Rattle.kernel_journal.proofs.At.{begins-header, meets-first, met-again}
use Rattle.kernel_journal.proofs.lines.Replay.begin.Goals as goal

pub start-requires : goal.start-requires
start-requires c =
    let none : c.args.self.now.body ≡ None = search rules in
    subst IsValid (sym c.finish-setting.ensures) (begins-header c.requires.0 c.requires.1 c.requires.2 c.requires.3 c.args.self.now c.requires.4 c.requires.5 c.requires.6 none).valid

pub returns-in_ok-start-clause-begun : goal.returns-in_ok-start-clause-begun
returns-in_ok-start-clause-begun c taken place behind kind at e is =
    let none : c.args.self.now.body ≡ None = search rules in
    record {
      body = c.in_ok-start.field-0;
      kept = refl;
      meets = meets-first taken place behind kind c.args.self.now c.in_ok-start.field-0 at e is none c.in_ok-start.ensures.ready (c.in_ok-start.ensures.start ∙ ap course_start c.finish-setting.ensures);
    }

pub returns-else-is_none-clause-begun : goal.returns-else-is_none-clause-begun
returns-else-is_none-clause-begun c taken place behind kind at e is =
    let some : c.args.self.now.body ≡ None → ⊥ = search rules in
    met-again taken place behind kind c.args.self.now at e is some
