use Rattle.std.proofs.Common.{◌+◌, ◌<◌, length, arith, ap, refl, sym, subst, ◌∙◌}
use Rattle.charlotte_text.specs.Reading.{parts}
use Rattle.transcript_reader.specs.Lines.{Unread}
use Rattle.transcript_reader.specs.Next.{Reads}
use Rattle.transcript_reader.proofs.Next.{fewer, reads}
use Rattle.transcript_reader.proofs.reader.Reader.pass_line.Goals as goal

pub pass-requires : goal.pass-requires
pass-requires c =
    let few : c.args.self.now.lines + length (parts 10 c.self.inside.rest.now) < 4294967296 = omega (arith, ap (λ (u : Unread). u.lines) c.self.view_is) in
    fewer c.args.self.now c.requires.0 c.self.inside.rest.now c.args.left.now c.in-Some.rest.now (ap (λ (u : Unread). u.texts) (sym c.self.view_is)) c.in-Some.ensures c.requires.1 few

pub returns-in-Some : goal.returns-in-Some
returns-in-Some c k is =
    subst (λ (u : Unread). Reads c.args.self.now k u) (sym c.pass.ensures)
    (reads c.args.self.now k c.self.inside.rest.now c.args.left.now c.in-Some.rest.now (ap (λ (u : Unread). u.place) (sym c.self.view_is) ∙ c.if-not-is_entry.ensures.0 refl) (ap (λ (u : Unread). u.texts) (sym c.self.view_is)) c.in-Some.ensures is)
