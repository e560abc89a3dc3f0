use Rattle.std.proofs.Common.{◌+◌, ◌<◌, length, arith, ap, rules, sym, ◌∙◌}
use Rattle.charlotte_text.specs.Reading.{parts}
use Rattle.transcript_reader.specs.Lines.{Unread}
use Rattle.transcript_reader.proofs.Next.{note_fewer, note_next}
use Rattle.transcript_reader.proofs.reader.Reader.next_note.Goals as goal

pub pass_note-requires : goal.pass_note-requires
pass_note-requires c =
    let few : c.args.self.now.lines + length (parts 10 c.self.inside.rest.now) < 4294967296 = omega (arith, ap (λ (u : Unread). u.lines) c.self.view_is) in
    note_fewer c.args.self.now.lines c.self.inside.rest.now c.in_ok-note.left.now c.in_ok-rest.rest.now c.in_ok-note.note c.in_ok-note.ensures.spelled c.in_ok-rest.ensures c.in_ok-note.ensures.fits few

pub returns : goal.returns
returns c =
    let later : c.in_ok-before.before < c.in_ok-note.note.line = search rules in
    note_next c.args.self.now c.pass_note.new.self c.in_ok-before.before c.self.inside.rest.now c.in_ok-note.left.now c.in_ok-rest.rest.now c.in_ok-note.note
    (ap (λ (u : Unread). u.place) (sym c.self.view_is) ∙ c.in_ok-before.ensures) (ap (λ (u : Unread). u.texts) (sym c.self.view_is)) c.in_ok-note.ensures.spelled c.in_ok-rest.ensures c.in_ok-note.ensures.fits later
    c.pass_note.ensures
