use Rattle.transcript_reader.specs.Lines.{seen}
use Rattle.transcript_reader.proofs.Next.{ahead, read_line}
use Rattle.transcript_reader.proofs.reader.Reader.next_of_entry.Goals as goal

pub pass_line-requires : goal.pass_line-requires
pass_line-requires c = (
  c.in_ok-what.what,
  ahead c.args.self.now c.self.inside.lines c.self.inside.version (seen c.self.inside.place) c.self.inside.rest.now c.in_ok-what.left.now c.in_ok-what.what c.self.view_is c.in_ok-what.ensures.spelled c.in_ok-what.ensures.fits c.in_ok-what.ensures.stands,
)

pub returns : goal.returns
returns c =
    let is = ahead c.args.self.now c.self.inside.lines c.self.inside.version (seen c.self.inside.place) c.self.inside.rest.now c.in_ok-what.left.now c.in_ok-what.what c.self.view_is c.in_ok-what.ensures.spelled c.in_ok-what.ensures.fits c.in_ok-what.ensures.stands in
    read_line c.args.self.now c.pass_line.new.self c.in_ok-what.what c.lines-number.result (c.if-not-pass_line.ensures c.in_ok-what.what is) c.lines-number.ensures
