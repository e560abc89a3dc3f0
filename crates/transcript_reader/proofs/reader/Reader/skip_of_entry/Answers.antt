use Rattle.transcript_reader.specs.Lines.{seen}
use Rattle.transcript_reader.proofs.Next.{ahead, skipped}
use Rattle.transcript_reader.proofs.reader.Reader.skip_of_entry.Goals as goal

pub pass_line-requires : goal.pass_line-requires
pass_line-requires c =
    let h = c.in-Some.ensures in
    (h.value, ahead c.args.self.now c.self.inside.lines c.self.inside.version (seen c.self.inside.place) c.self.inside.rest.now c.in-Some.left.now h.value c.self.view_is h.spelled h.fits.0 h.fits.1)

pub returns-in-Some : goal.returns-in-Some
returns-in-Some c =
    let h = c.in-Some.ensures in
    let is = ahead c.args.self.now c.self.inside.lines c.self.inside.version (seen c.self.inside.place) c.self.inside.rest.now c.in-Some.left.now h.value c.self.view_is h.spelled h.fits.0 h.fits.1 in
    skipped c.pass_line.result c.args.self.now c.pass_line.new.self h.value c.in-Some.left.now is c.pass_line.ensures
