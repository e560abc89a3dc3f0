-- Runs of a link that are given step by step, to be computed.
use Rattle.std.specs.Prelude.{ℕ, true, List, [], ◌∷◌, ◌++◌, Option, None, Some}
use Rattle.end_protocol.specs.declared.messages.Message.{Message}
use Rattle.end_protocol.specs.Happenings.{Happening}
use Rattle.end_protocol.specs.Kept.{fresh}
use Rattle.end_protocol.specs.Lists.{head, tail}
use Rattle.request_meaning.specs.Views.{back_in, forth_in}
use Rattle.request_meaning.specs.Phases.{Standing}
use Rattle.request_meaning.specs.Links.{Link, happened, heard_on, sent_off, turned}

-- what is done at the end that is near, and at the other one
pub data Act : Type 0 where
  Does : Happening → Act
  -- the first message of the queue is sent
  SendsOne : Act
  -- the next message is heard, while there is room for a thread
  HearsOne : Act
  -- the end goes to another process
  Leaves : Act
  -- at the other end
  Far : Act → Act

abbrev sends_first : ℕ → Option Message → Link → Link
sends_first version None l = l
sends_first version (Some m) l = sent_off version m l

abbrev hears_first : ℕ → Option Message → Link → Link
hears_first version None l = l
hears_first version (Some m) l = heard_on version true m (tail l.here) l

abbrev pub acts : ℕ → Act → Link → Link
acts version (Does h) l = happened version h l
acts version SendsOne l = sends_first version (head l.near.queue) l
acts version HearsOne l = hears_first version (head l.here) l
acts version Leaves l = record l { near = fresh }
acts version (Far a) l = turned (acts version a (turned l))

abbrev pub acts_all : ℕ → List Act → Link → Link
acts_all version [] l = l
acts_all version (a ∷ as') l = acts_all version as' (acts version a l)

-- what stands for the requests that are asked at the end that is near
abbrev pub standing : Link → Standing
standing l =
    record {
      outstanding = l.near.outstanding;
      barred = l.near.barred;
      reply = l.near.reply;
      owed = l.far.owed;
      forbade = l.far.forbade;
      request = l.far.request;
      forth = forth_in l.there ++ forth_in l.near.queue;
      back = back_in l.here ++ back_in l.far.queue;
    }

-- after each of these acts
abbrev pub course : ℕ → List Act → Link → List Standing
course version [] l = []
course version (a ∷ as') l = standing (acts version a l) ∷ course version as' (acts version a l)
