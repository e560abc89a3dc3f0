use Rattle.std.proofs.Common.{◌≡◌, None, Some, sym, ap, ◌∙◌}
use Rattle.lynx_tree.specs.Trees.{module_tree}
use Rattle.typing_rules.specs.Found.{found_fault, first_found}
use Rattle.typing_rules.specs.Rules.{Fault}
use Rattle.typing_rules.proofs.Firsts.{none_is_well_typed, well_typed_is_none, first_is_least, least_is_first}
use Rattle.lynx_types.proofs.checking.check.Goals as goal

none_is_not_some : (f : Fault) → None ≡ Some f → ⊥
none_is_not_some f e = cc

one_fault : (f g : Fault) → Some f ≡ Some g → f ≡ g
one_fault f g e = cc

pub new-requires : goal.new-requires
new-requires c = record {
  grammar = c.requires.grammar;
  printable = c.requires.printable;
  fits = c.requires.fits;
  well_typed = none_is_well_typed (module_tree c.args.tree) (sym c.in_ok-first_fault.ensures ∙ ap first_found c.in-None.is);
}

pub returns-clause-only : goal.returns-clause-only
returns-clause-only c well = none_is_not_some (found_fault c.in-Some.found) (sym (well_typed_is_none (module_tree c.args.tree) well) ∙ sym c.in_ok-first_fault.ensures ∙ ap first_found c.in-Some.is)

pub returns-clause-fault : goal.returns-clause-fault
returns-clause-fault c = first_is_least (module_tree c.args.tree) (found_fault c.in-Some.found) (sym c.in_ok-first_fault.ensures ∙ ap first_found c.in-Some.is)

pub returns-clause-only_fault : goal.returns-clause-only_fault
returns-clause-only_fault c first is = one_fault (found_fault c.in-Some.found) first (sym (ap first_found c.in-Some.is) ∙ c.in_ok-first_fault.ensures ∙ least_is_first (module_tree c.args.tree) first is)
