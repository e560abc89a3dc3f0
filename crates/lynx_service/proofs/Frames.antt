-- Where nothing is read, and nothing put.
use Rattle.std.proofs.Common.{List, [], Option, Some, None, All, refl, sym}
use Rattle.std.specs.Prelude.{IfSome}
use Rattle.std.proofs.lemmas.List.{append-nil}
use Rattle.std.proofs.lemmas.List.Elements.{All-nil}
use Rattle.lynx_outside.specs.Files.{Source, Listing, Reads, IsWithin, WereRead}
use Rattle.lynx_outside.specs.Sink.{Stream, WerePut}

nothing_told : (files : Option Listing) → IfSome files (λ listing. All (Reads listing) [])
nothing_told None = tt
nothing_told (Some listing) = All-nil (Reads listing)

pub no_reads : (s : Source) → WereRead s s []
no_reads s = record { same = refl; told = nothing_told s.contents; within = All-nil IsWithin; counted = refl; logged = sym (append-nil s.log) }

pub no_puts : (s : Stream) → WerePut s s []
no_puts s = record { held = refl; counted = refl; logged = sym (append-nil s.log) }
