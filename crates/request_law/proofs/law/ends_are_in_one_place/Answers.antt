use Rattle.std.specs.Prelude.{◌≡◌, ℕ, false}
use Rattle.request_meaning.specs.Links.{Link, Runs, start}
use Rattle.request_law.specs.Law.{AreAllThere}
use Rattle.request_law.proofs.Ends.{run_ends}
use Rattle.request_law.proofs.law.ends_are_in_one_place.Goals as goal

all_there : (version : ℕ) (l : Link) → Runs version start l → l.cut ≡ false → AreAllThere l
all_there version l run uncut = let both = run_ends version l run uncut in record { near_ends = both.0; far_ends = both.1 }

pub returns : goal.returns
returns c = all_there
