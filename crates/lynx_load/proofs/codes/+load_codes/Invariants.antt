use Rattle.std.proofs.Common.{length}
use Rattle.lynx_load.proofs.codes.+load_codes.Given as goal

abbrev pub decreases-load_codes : goal.decreases-load_codes
decreases-load_codes g l = length l.names.now
