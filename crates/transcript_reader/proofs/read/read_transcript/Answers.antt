use Rattle.transcript_reader.proofs.Clauses.{found_of, only_of, fault_of, only_fault_of}
use Rattle.transcript_reader.proofs.read.read_transcript.Goals as goal

pub returns-clause-found : goal.returns-clause-found
returns-clause-found c = found_of c.args.bytes.now c.read_lines.result c.read_lines.ensures

pub returns-clause-only : goal.returns-clause-only
returns-clause-only c = λ ls are. only_of c.args.bytes.now c.read_lines.result ls c.read_lines.ensures are

pub returns-clause-fault : goal.returns-clause-fault
returns-clause-fault c = fault_of c.args.bytes.now c.read_lines.result c.read_lines.ensures

pub returns-clause-only_fault : goal.returns-clause-only_fault
returns-clause-only_fault c = λ n is. only_fault_of c.args.bytes.now c.read_lines.result n c.read_lines.ensures is
