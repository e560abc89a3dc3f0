-- Source and code of each module agree.
use Rattle.std.proofs.Common.{◌≡◌, ℕ, ◌+◌, List, [], ◌∷◌, ◌++◌, length, Contains, Some, refl, sym, ap, ◌∙◌, subst, zero-lt-suc}
use Rattle.lynx_tree.specs.Grammar.{AreStmts, HasTokens}
use Rattle.lynx_tree.specs.Trees.{EntryTree, ModuleTree}
use Rattle.lynx_tree.specs.declared.declaration.TypeName.{TypeName}
use Rattle.typing_rules.specs.Modules.{entry_faults, module_faults, names_are_new, op_faults, param_faults, var_faults}
use Rattle.typing_rules.specs.Names.{arguments_of, body_at, each_at, entries_at, entry_body_at, entry_size, inside, known, local_names, locals_at, module_names, module_scope, op_size, ops_at, params_at, results_of, var_size, vars_at}
use Rattle.typing_rules.specs.Rules.{Asks, Fault, Outside, entry_has_parameters, entry_is_of_op, local_name_is_new, module_name_is_new}
use Rattle.typing_rules.specs.Statements.{stmts_faults}
use Rattle.lynx_code.specs.Modules.{PartCode, body_code, entry_part, entry_parts, instructions_of, main_part, module_code, names_of, parts_of}
use Rattle.lynx_code.specs.Modules as modules
use Rattle.lynx_meaning.specs.Agree.{SourceAndCodeAgree}
use Rattle.lynx_meaning.specs.Source.{entry_part_tree, main_tree}
use Rattle.lynx_code.specs.declared.instruction.Instruction.{Instruction}
use Rattle.compiler_steps.specs.Steps.{StandAt}
use Rattle.compiler_steps.proofs.Standing.{all-stand}
use Rattle.compiler_expressions.proofs.Clean.{both-clean, demand-met}
use Rattle.compiler_expressions.proofs.Variables.{some-of}
use Rattle.compiler_statements.proofs.Requests.{number-met}
use Rattle.compiler_law.proofs.Agreement.{IsPart, agrees}
use Rattle.compiler_law.proofs.Names.{entry-operation, entry-variable, main-variable, module-operation}
use Rattle.compiler_law.proofs.Parts.{all-at, each-clean, entry-stands}

-- where no rule fails there is no fault
pub no-faults : (fs : List Fault) → ((rule at : ℕ) → Contains fs (record { place = at; rule = rule }) → ⊥) → fs ≡ []
no-faults [] none = refl
no-faults (f ∷ fs) none = absurd (none f.rule f.place (0, zero-lt-suc (length fs), refl))

-- what no rule finds in the entries, and in the body
pub entries-and-body : (m : ModuleTree) → module_faults m ≡ [] → (each_at entry_size (entry_faults (module_scope m)) (entries_at m) m.entries ≡ []) × (stmts_faults (module_scope m) Outside (body_at m) m.body ≡ [])
entries-and-body m clean =
    let f1 = names_are_new module_name_is_new [] (module_names m) in
    let f2 = each_at op_size op_faults ops_at m.ops in
    let f3 = each_at var_size param_faults (params_at m) m.params in
    let f4 = each_at var_size var_faults (vars_at m) m.vars in
    let f5 = each_at entry_size (entry_faults (module_scope m)) (entries_at m) m.entries in
    let last = both-clean (f1 ++ f2 ++ f3 ++ f4 ++ f5) (stmts_faults (module_scope m) Outside (body_at m) m.body) clean in
    ((both-clean (f1 ++ f2 ++ f3 ++ f4) f5 last.0).1, last.1)

main-is-part : (m : ModuleTree) → HasTokens m → module_faults m ≡ [] → IsPart m (main_tree m) 0
main-is-part m tokens clean = record {
  scope = module_scope m;
  request = Outside;
  place = body_at m;
  variable = λ name t is. main-variable m name t is;
  operation = λ name arguments is. module-operation m name arguments is;
  written = tokens.1;
  clean = (entries-and-body m clean).1;
  stands = all-stand [] (main_part m).instructions (instructions_of (entry_parts m (length (main_part m).instructions) m.entries));
}

-- what an entry has in which no rule finds a fault
pub record IsCleanEntry (m : ModuleTree) (at : ℕ) (e : EntryTree) : Type 0 where
  pub parameters : length e.parameters ≡ length (known (arguments_of (module_scope m e.op)))
  pub operation : (arguments : List TypeName) × (arguments_of (module_scope m e.op) ≡ Some arguments)
  pub vars : each_at var_size var_faults (locals_at at e) e.vars ≡ []
  pub body : stmts_faults (inside (local_names (module_scope m) at e) (module_scope m)) (Asks (results_of (module_scope m e.op))) (entry_body_at at e) e.body ≡ []

pub clean-entry : (m : ModuleTree) (at : ℕ) (e : EntryTree) → entry_faults (module_scope m) at e ≡ [] → IsCleanEntry m at e
clean-entry m at e clean =
    let outside = module_scope m in
    let f1 = entry_has_parameters (at + 1) (outside e.op) (length e.parameters) in
    let f2 = entry_is_of_op (at + 3) (outside e.op) in
    let f3 = names_are_new local_name_is_new [] (local_names outside at e) in
    let f4 = each_at var_size var_faults (locals_at at e) e.vars in
    let f5 = stmts_faults (inside (local_names outside at e) outside) (Asks (results_of (outside e.op))) (entry_body_at at e) e.body in
    let p4 = both-clean (f1 ++ f2 ++ f3 ++ f4) f5 clean in
    let p3 = both-clean (f1 ++ f2 ++ f3) f4 p4.0 in
    let p2 = both-clean (f1 ++ f2) f3 p3.0 in
    let p1 = both-clean f1 f2 p2.0 in
    let found = some-of (arguments_of (outside e.op)) (demand-met _ _ _ p1.1) in
    record {
      parameters = number-met (length e.parameters) (arguments_of (outside e.op)) found.0 found.1 (demand-met _ _ _ p1.0) ∙ ap (λ o. length (known o)) (sym found.1);
      operation = found;
      vars = p3.1;
      body = p4.1;
    }

entry-is-part : (m : ModuleTree) (start at : ℕ) (e : EntryTree) → AreStmts e.body → entry_faults (module_scope m) at e ≡ [] → StandAt (module_code m) start (body_code (names_of m (modules.local_names e)) start e.body) → IsPart m (entry_part_tree m e) start
entry-is-part m start at e written clean stands =
    let outside = module_scope m in
    let is = clean-entry m at e clean in
    record {
      scope = inside (local_names outside at e) outside;
      request = Asks (results_of (outside e.op));
      place = entry_body_at at e;
      variable = λ name t here. entry-variable m at e name t is.parameters here;
      operation = λ name arguments here. entry-operation m at e name arguments is.parameters here;
      written = written;
      clean = is.body;
      stands = stands;
    }

pub law : SourceAndCodeAgree
law m tokens typed =
    let clean = no-faults (module_faults m) typed in
    let main = main_part m in
    record {
      body = agrees m (main_tree m) 0 (main-is-part m tokens clean);
      entries = λ i e p here found.
          let part = entry-stands m main.instructions m.entries (length main.instructions) i e p refl here found in
          let fault = each-clean entry_size (entry_faults (module_scope m)) (entries_at m) m.entries i e (entries-and-body m clean).0 here in
          let stands = subst (λ (q : List Instruction). StandAt (module_code m) p.start q) (ap (λ (q : PartCode). q.instructions) part.1) part.0 in
          agrees m (entry_part_tree m e) p.start (entry-is-part m p.start fault.0 e (all-at (λ (x : EntryTree). AreStmts x.body) m.entries i e tokens.0 here) fault.1 stands);
    }
