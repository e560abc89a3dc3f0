-- The read and what was found, and then the put.
use Rattle.std.proofs.Common.{◌∷◌, [], refl}
use Rattle.lynx_service.specs.Service.{read_at}
use Rattle.lynx_service.proofs.top.judge_file.Goals as goal

pub returns : goal.returns
returns g c =
    let read = c.find_at-verdict.ensures in
    let put = c.end_with.ensures in (
      record { reads = read_at c.args.name.now read.0 ∷ []; found = c.find_at-verdict.result; name = c.args.name.now; outs = put.0; errs = put.1 },
      record { named = refl; answer = read.0; reads = refl; found = read.2 },
      record { reads = read.1; outs = put.3; errs = put.4; ends = put.2 },
    )
