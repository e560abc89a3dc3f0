-- Nothing is read; what was found is put.
use Rattle.std.proofs.Common.{[], refl}
use Rattle.lynx_command.proofs.Courses.{no_reads}
use Rattle.lynx_command.specs.Found.{found_of}
use Rattle.lynx_run.proofs.bench.bench_seed.Goals as goal

pub returns : goal.returns
returns g c =
    let put = c.end_with.ensures in (
      record { reads = []; found = found_of (λ lines. lines) c.find_summary-found.result; name = []; outs = put.0; errs = put.1 },
      record { reads = refl; finds = c.find_summary-found.ensures },
      λ files. record { reads = no_reads files; outs = put.3; errs = put.4; ends = put.2 },
    )
