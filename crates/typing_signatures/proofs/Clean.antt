-- Where no rule fails, each op has its facts.
use Rattle.std.proofs.Common.{◌≡◌, ℕ, ◌+◌, ◌≤◌, List, [], ◌∷◌, ◌++◌, length, map, Bool, true, false, ◌&&◌, nat_le, nat_lt}
use Rattle.std.proofs.Common.{ltb-false, Contains, if◌then◌else◌, subst, Some, None, refl, sym, ap, ◌∙◌, arith}
use Rattle.std.specs.List.{AllByRecursion, flat_map}
use Rattle.std.proofs.lemmas.Bool.{and_parts, leb-true}
use Rattle.std.proofs.lemmas.Option.{none-some}
use Rattle.lynx_lexer.specs.Bytes.{most_name}
use Rattle.lynx_lexer.specs.Pieces.{IsToken, limit_passed}
use Rattle.lynx_lexer.specs.declared.fault.FaultKind.TheVariants.{NameTooLong}
use Rattle.lynx_lexer.specs.declared.token.Kind.TheVariants as kinds
use Rattle.lynx_tree.specs.Grammar.{Mark, op_marks, type_marks, types_marks}
use Rattle.lynx_tree.specs.Printing.{IsPrintable}
use Rattle.lynx_tree.specs.Trees.{ModuleTree, OpTree}
use Rattle.lynx_tree.specs.declared.declaration.TypeName.{TypeName}
use Rattle.typing_rules.specs.Modules.{entry_faults, module_faults, names_are_new, op_faults, param_faults, type_faults, types_faults, var_faults}
use Rattle.typing_rules.specs.Names.{body_at, each_at, entries_at, entry_size, module_names, module_scope, op_size, ops_at, params_at, var_size, vars_at}
use Rattle.typing_rules.specs.Progress.{is_clean}
use Rattle.typing_rules.specs.Rules.{Fault, Outside, demand, module_name_is_new, op_fits_packets, op_has_few_links}
use Rattle.typing_rules.specs.Signatures.{links_among, widest_reply, widest_request}
use Rattle.typing_rules.specs.Statements.{stmts_faults}
use Rattle.typing_rules.specs.Types.{has_length}
use Rattle.typing_rules.proofs.Progress.{is_clean-append, is_clean-demand}
use Rattle.typing_signatures.specs.Facts.{HasFacts, HaveLengths, IsName, OpsHaveFacts, most_links, most_packet}

-- ---- no fault in a part

both_clean : (xs ys : List Fault) → is_clean (xs ++ ys) ≡ true → (is_clean xs ≡ true) × (is_clean ys ≡ true)
both_clean xs ys h = and_parts (is_clean xs) (is_clean ys) (sym (is_clean-append xs ys) ∙ h)

met : (rule at : ℕ) (b : Bool) → is_clean (demand rule at b) ≡ true → b ≡ true
met rule at b h = sym (is_clean-demand rule at b) ∙ h

none_clean : (faults : List Fault) → ((rule at : ℕ) → Contains faults (record { place = at; rule = rule }) → ⊥) → is_clean faults ≡ true
none_clean [] none = refl
none_clean (f ∷ fs) none = absurd (none f.rule f.place (0, omega arith, refl))

ops_clean : (m : ModuleTree) → is_clean (module_faults m) ≡ true → is_clean (each_at op_size op_faults ops_at m.ops) ≡ true
ops_clean m clean =
    let f1 = names_are_new module_name_is_new [] (module_names m) in
    let f2 = each_at op_size op_faults ops_at m.ops in
    let f3 = each_at var_size param_faults (params_at m) m.params in
    let f4 = each_at var_size var_faults (vars_at m) m.vars in
    let f5 = each_at entry_size (entry_faults (module_scope m)) (entries_at m) m.entries in
    let p5 = both_clean (f1 ++ f2 ++ f3 ++ f4 ++ f5) (stmts_faults (module_scope m) Outside (body_at m) m.body) clean in
    let p4 = both_clean (f1 ++ f2 ++ f3 ++ f4) f5 p5.0 in
    (both_clean f1 f2 (both_clean (f1 ++ f2) f3 (both_clean (f1 ++ f2 ++ f3) f4 p4.0).0).0).1

types_clean : (at : ℕ) (ts : List TypeName) → is_clean (types_faults at ts) ≡ true → HaveLengths ts
types_clean at [] clean = tt
types_clean at (t ∷ ts) clean =
    let next = at + (length (type_marks 0 t) + 1) in
    let parts = both_clean (type_faults at t) (types_faults next ts) clean in
    (met 4 (at + 1) (has_length t) parts.0, types_clean next ts parts.1)

both_at_most : (a b most : ℕ) → (nat_le a most && nat_le b most) ≡ true → (a ≤ most) × (b ≤ most)
both_at_most a b most h = let parts = and_parts (nat_le a most) (nat_le b most) h in (leb-true a most parts.0, leb-true b most parts.1)

-- ---- names are tokens

-- each is a token within the limits
abbrev AreTokens : List Mark → Type 0
AreTokens marks = AllByRecursion IsPrintable (map (λ (t : Mark). t.kind) marks)

tokens_apart : (xs ys : List Mark) → AreTokens (xs ++ ys) → AreTokens xs × AreTokens ys
tokens_apart [] ys are = (tt, are)
tokens_apart (x ∷ xs) ys are = let parts = tokens_apart xs ys are.1 in ((are.0, parts.0), parts.1)

short_by : (name : List ℕ) (long : Bool) → nat_lt most_name (length name) ≡ long → limit_passed (kinds.Name name) ≡ None → length name ≤ most_name
short_by name false short within = ltb-false most_name (length name) short
short_by name true long within = absurd (none-some _ (sym within ∙ ap (λ (b : Bool). if b then Some NameTooLong else None) long))

is_name : (name : List ℕ) → IsPrintable (kinds.Name name) → IsName name × (length name ≤ most_name)
is_name name is =
    (subst (IsToken (kinds.Name name)) (sym is.1.0) is.1, short_by name (nat_lt most_name (length name)) refl is.2)

-- ---- an op, and all of them

facts_of : (at : ℕ) (op : OpTree) → AreTokens (op_marks op) → is_clean (op_faults at op) ≡ true → HasFacts op
facts_of at op tokens clean =
    let f1 = op_has_few_links (at + 1) op in
    let f2 = op_fits_packets (at + 1) op in
    let f3 = types_faults (at + 3) op.arguments in
    let f4 = types_faults (at + length (types_marks op.arguments) + 4) op.results in
    let p3 = both_clean (f1 ++ f2 ++ f3) f4 clean in
    let p2 = both_clean (f1 ++ f2) f3 p3.0 in
    let p1 = both_clean f1 f2 p2.0 in
    let links = both_at_most (links_among op.arguments) (links_among op.results) most_links (met 5 (at + 1) _ p1.0) in
    let packets = both_at_most (widest_request op) (widest_reply op) most_packet (met 24 (at + 1) _ p1.1) in
    let name = is_name op.name tokens.1.0 in
    record {
      named = name.0;
      short_name = name.1;
      arguments = types_clean (at + 3) op.arguments p2.1;
      results = types_clean (at + length (types_marks op.arguments) + 4) op.results p3.1;
      few_arguments = links.0;
      few_results = links.1;
      request = packets.0;
      reply = packets.1;
      signature = omega (arith, packets.0);
    }

all_facts : (at : ℕ) (ops : List OpTree) → AreTokens (flat_map op_marks ops) → is_clean (each_at op_size op_faults at ops) ≡ true
    → AllByRecursion HasFacts ops
all_facts at [] tokens clean = tt
all_facts at (op ∷ ops) tokens clean =
    let marks = tokens_apart (op_marks op) (flat_map op_marks ops) tokens in
    let faults = both_clean (op_faults at op) (each_at op_size op_faults (at + op_size op) ops) clean in
    (facts_of at op marks.0 faults.0, all_facts (at + op_size op) ops marks.1 faults.1)

pub law : OpsHaveFacts
law m printable well =
    let tokens = tokens_apart (flat_map op_marks m.ops) _ printable.1.1.1 in
    all_facts ops_at m.ops tokens.0 (ops_clean m (none_clean (module_faults m) well))
