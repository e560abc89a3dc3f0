use Rattle.std.proofs.Common.{arith, refl, sym}
use Rattle.transcript_reader.specs.Lines.{seen}
use Rattle.transcript_reader.proofs.Clauses.{some_text, next_stood, next_fails}
use Rattle.transcript_reader.proofs.reader.Reader.next_any.Goals as goal

pub overflow_add-line : goal.overflow_add-line
overflow_add-line c = omega (arith, some_text c.self.inside.rest.now)

pub returns-in-Ok : goal.returns-in-Ok
returns-in-Ok c =
    next_stood c.args.self.now c.self.inside.lines c.self.inside.version (seen c.self.inside.place) c.self.inside.rest.now c.cut.result.0.now c.in-Some.rest.now c.in-Ok.what (seen c.in-Ok.place) c.version_after-self-inside.result
    (sym c.self.view_is) (rw c.in-Some.is at c.cut.ensures) c.in-Ok.ensures c.version_after-self-inside.ensures

pub returns-in-Err : goal.returns-in-Err
returns-in-Err c = (
  next_fails c.args.self.now c.self.inside.lines c.self.inside.version (seen c.self.inside.place) c.self.inside.rest.now c.cut.result.0.now c.in-Some.rest.now c.in-Err.field-0
      (sym c.self.view_is) (rw c.in-Some.is at c.cut.ensures) c.in-Err.ensures,
  refl,
)
