use Rattle.std.proofs.Common.{◌≡◌, true, false, sym, ◌∙◌}
use Rattle.script_run.proofs.performance.last_of.Goals as goal

pub returns-then-are_quiet : goal.returns-then-are_quiet
returns-then-are_quiet c s = (c.are_quiet.ensures s).0 c.if-are_quiet.true

pub returns-else-are_quiet : goal.returns-else-are_quiet
returns-else-are_quiet c s taken = let quiet = (c.are_quiet.ensures s).1 taken in let no : true ≡ false = sym quiet ∙ c.if-are_quiet.false in cc
