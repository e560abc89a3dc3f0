-- A command that reads nothing and puts nothing on out.
use Rattle.std.proofs.Common.{ℕ, List, [], Option, Some, None, All, Err, refl, sym}
use Rattle.std.specs.Prelude.{IfSome}
use Rattle.std.proofs.lemmas.List.{append-nil}
use Rattle.std.proofs.lemmas.List.Elements.{All-nil}
use Rattle.lynx_command.proofs.Puts.{no_puts}
use Rattle.lynx_command.specs.Course.{Course, outside, Took}
use Rattle.lynx_command.specs.Ending.{Tells}
use Rattle.lynx_command.specs.declared.failure.Failure.{Failure}
use Rattle.lynx_outside.specs.Files.{Source, Listing, Reads, IsWithin, WereRead}
use Rattle.lynx_outside.specs.Logged.{Put}
use Rattle.lynx_outside.specs.Sink.{Stream, WerePut}
use Rattle.lynx_outside.specs.declared.status.Status.{Status}

nothing_told : (files : Option Listing) → IfSome files (λ listing. All (Reads listing) [])
nothing_told None = tt
nothing_told (Some listing) = All-nil (Reads listing)

-- nothing was read
pub no_reads : (s : Source) → WereRead s s []
no_reads s = record { same = refl; told = nothing_told s.contents; within = All-nil IsWithin; counted = refl; logged = sym (append-nil s.log) }

-- the course of a failure that is told alone
abbrev pub refused_course : Failure → List ℕ → List Put → Course
refused_course failure name errs = record { reads = []; found = Err failure; name = name; outs = []; errs = errs }

pub refused : (failure : Failure) (name : List ℕ) (ended : Status) (errs : List Put) (files : Source) (out err later : Stream) → Tells name failure ended errs → WerePut err later errs
    → Took (refused_course failure name errs) ended (outside files out err) (outside files out later)
refused failure name ended errs files out err later tells puts = record { reads = no_reads files; outs = no_puts out; errs = puts; ends = (refl, tells) }
