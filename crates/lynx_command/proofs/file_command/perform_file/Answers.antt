-- The reads and what was found, and then the puts.
use Rattle.std.proofs.Common.{refl}
use Rattle.lynx_command.specs.Found.{found_of}
use Rattle.lynx_command.proofs.file_command.perform_file.Goals as goal

pub returns : goal.returns
returns g c =
    let read = c.find_at-found.ensures in
    let put = c.end_with.ensures in (
      record { reads = read.0; found = found_of g.C.Text.Text.lines_left c.find_at-found.result; name = c.args.name.now; outs = put.0; errs = put.1 },
      record { named = refl; finds = read.2 },
      record { reads = read.1; outs = put.3; errs = put.4; ends = put.2 },
    )
