use Rattle.std.proofs.Common.{◌≡◌, ℕ, ◌+◌, ◌*◌, List, length, drop}
use Rattle.typing_rules.specs.Meanings.{look}
use Rattle.typing_rules.specs.Names.{parameters_named}
use Rattle.typing_rules.specs.Progress.{first_with}
use Rattle.lynx_types.specs.News.{then_declared, news_faults}
use Rattle.lynx_types.proofs.entry.parameters.Given as goal

-- what was seen and what is left are the whole
abbrev pub invariant-loop-parameter : goal.invariant-loop-parameter
invariant-loop-parameter l = record {
  at : l.walk.at + 2 * length (drop l.parameter-index l.parameters) ≡ l.initial.walk.at + 2 * length l.parameters;
  first : first_with l.walk.first (news_faults 2 (look l.names) (parameters_named l.walk.at (drop l.parameter-index l.parameters) l.left)) ≡ first_with l.initial.walk.first (news_faults 2 (look l.initial.names) (parameters_named l.initial.walk.at l.parameters l.initial.left));
  names : (q : List ℕ) → then_declared (look l.names) (parameters_named l.walk.at (drop l.parameter-index l.parameters) l.left) q ≡ then_declared (look l.initial.names) (parameters_named l.initial.walk.at l.parameters l.initial.left) q;
}
