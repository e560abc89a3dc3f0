-- What a command did to what is outside itself.
use Rattle.std.specs.Prelude.{◌≡◌, ℕ, List, [], Err}
use Rattle.lynx_command.specs.Ending.{Ends}
use Rattle.lynx_command.specs.Found.{Found, FindsAt}
use Rattle.lynx_command.specs.declared.failure.Failure.{Failure}
use Rattle.lynx_outside.specs.Files.{Source, WereRead}
use Rattle.lynx_outside.specs.Logged.{Read, Put}
use Rattle.lynx_outside.specs.Sink.{Stream, WerePut}
use Rattle.lynx_outside.specs.declared.status.Status.{Status}

-- its reads, what it found, the name in the line of a failure, and its puts on out and on err
pub record Course : Type 0 where
  pub reads : List Read
  pub found : Found
  pub name : List ℕ
  pub outs : List Put
  pub errs : List Put

-- the files and the two sinks at one moment
pub record Outside : Type 0 where
  pub files : Source
  pub out : Stream
  pub err : Stream

abbrev pub outside : Source → Stream → Stream → Outside
outside files out err = record { files = files; out = out; err = err }

-- A command took this course, and ended with this status.
pub record Took (course : Course) (ended : Status) (old new : Outside) : Type 0 where
  pub reads : WereRead old.files new.files course.reads
  pub outs : WerePut old.out new.out course.outs
  pub errs : WerePut old.err new.err course.errs
  pub ends : Ends course.name course.found ended course.outs course.errs

-- It read the one file of this name, with this most, and found what the relation says of the bytes.
pub record IsOfFile (In : List ℕ → Found → Type 0) (most : ℕ) (name : List ℕ) (course : Course) : Type 0 where
  pub named : course.name ≡ name
  pub finds : FindsAt In most name course.reads course.found

-- Nothing was read, and this is told of this name.
pub record IsRefusedAs (failure : Failure) (name : List ℕ) (course : Course) : Type 0 where
  pub reads : course.reads ≡ []
  pub found : course.found ≡ Err failure
  pub named : course.name ≡ name
