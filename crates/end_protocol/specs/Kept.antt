-- What is kept for an end.
use Rattle.std.specs.Prelude.{false, List, [], ◌++◌, None}
use Rattle.end_protocol.specs.declared.kept.Kept.{Kept}
use Rattle.end_protocol.specs.declared.kept.Sending.TheVariants as sending
use Rattle.end_protocol.specs.declared.kept.Receiving.TheVariants as receiving
use Rattle.end_protocol.specs.declared.messages.Message.{Message}

-- what is kept for an end when the process gets it or holds it again
abbrev pub fresh : Kept
fresh =
    record {
      queue = [];
      sending = sending.Idle;
      receiving = receiving.Idle;
      last = 0;
      outstanding = None;
      barred = false;
      behind = [];
      owed = None;
      forbade = None;
      request = None;
      reply = None;
      accepts = [];
      bindings = [];
      dead = false;
    }

-- packets join the queue
unfoldable pub queued : List Message → Kept → Kept
queued messages k = record k { queue = k.queue ++ messages }
