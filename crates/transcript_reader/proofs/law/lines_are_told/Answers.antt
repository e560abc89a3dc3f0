use Rattle.transcript_reader.proofs.Agree.{lines_are_told, told_has_lines}
use Rattle.transcript_reader.proofs.law.lines_are_told.Goals as goal

pub returns : goal.returns
returns c = record { lines = lines_are_told; told = told_has_lines }
