-- Words that are not of the form are told to be so.
use Rattle.std.proofs.Common.{◌≡◌, [], None, refl, rules}
use Rattle.command_words.specs.Words.{one_name}
use Rattle.lynx_service.proofs.Frames.{no_reads, no_puts}
use Rattle.lynx_service.specs.declared.verdict.Verdict.TheVariants.{Usage}
use Rattle.lynx_service.proofs.top.told.Goals as goal

pub returns-in-None : goal.returns-in-None
returns-in-None g c =
    let none : one_name c.args.words.items ≡ None = search rules in
    let told = c.tell.ensures in (
      record { reads = []; found = Usage; name = []; outs = []; errs = told.0 },
      rw none (record { reads = refl; found = refl }),
      record { reads = no_reads _; outs = no_puts _; errs = told.2; ends = (refl, told.1) },
    )
