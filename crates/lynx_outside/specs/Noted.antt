-- What a log keeps of a read, of a put, and of a call of the system.
use Rattle.lynx_outside.specs.Files.{answer_of}
use Rattle.lynx_outside.specs.Logged.{Read, Put}
use Rattle.lynx_outside.specs.System.{SystemCall, Opening, Writing}
use Rattle.lynx_outside.specs.declared.log.PutNote.{PutNote}
use Rattle.lynx_outside.specs.declared.log.ReadNote.{ReadNote}
use Rattle.lynx_outside.specs.declared.system.CallNote.{CallNote}
use Rattle.lynx_outside.specs.declared.system.CallNote.TheVariants.{Open, Write}

abbrev pub noted_read : ReadNote → Read
noted_read n = record { name = n.name.now; most = n.most; answer = answer_of n.answer.now }

abbrev pub noted_put : PutNote → Put
noted_put n = record { bytes = n.bytes.now; taken = n.taken }

abbrev pub noted_call : CallNote → SystemCall
noted_call (Open name refusal) = Opening name.now refusal
noted_call (Write bytes answer) = Writing bytes.now answer
