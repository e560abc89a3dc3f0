-- Entries: their parameters, their locals, and one entry and those behind it.
use Rattle.std.proofs.Common.{◌≡◌, ℕ, ◌+◌, ◌*◌, ◌<◌, List, [], ◌∷◌, ◌++◌, Bool, not, Option, Some, cond, is_some, length, map, drop, get_or, refl, sym, ap, ◌∙◌, append_assoc, arith, length-append}
use Rattle.lynx_lexer.specs.declared.keyword.Keyword.TheVariants as keywords
use Rattle.lynx_lexer.specs.declared.sign.Sign.TheVariants as signs
use Rattle.lynx_tree.specs.declared.declaration.TypeName.{TypeName}
use Rattle.lynx_tree.specs.Grammar.{Mark, word, name, mark, names_marks, vars_marks, stmts_marks}
use Rattle.lynx_tree.specs.Trees.{EntryTree, entry_tree}
use Rattle.std.specs.Str.{bytes_eq}
use Rattle.lynx_tree.specs.declared.declaration.EntryDecl.{EntryDecl}
use Rattle.typing_rules.specs.Modules.{names_are_new, var_faults, entry_faults}
use Rattle.typing_rules.specs.Names.{Variable, Entry, Declared, Scope, or_outside, meaning_in, inside, known, arguments_of, results_of, each_at, var_size, var_named, entry_size, entry_named, entry_body_at, locals_at, local_names, parameters_named}
use Rattle.typing_rules.specs.Rules.{Fault, Asks, demand, is_number_of, local_name_is_new, entry_has_parameters, entry_is_of_op}
use Rattle.typing_rules.specs.Statements.{stmts_faults, stmts_size}
use Rattle.typing_rules.specs.Progress.{first_with}
use Rattle.typing_rules.proofs.Members.{at_place}
use Rattle.typing_rules.proofs.Progress.{first_with-append, joined}
use Rattle.lynx_types.specs.News.{nowhere, then_declared, news_faults, are_new, told_faults, first_or_int, locals_named}
use Rattle.lynx_types.specs.Parts.{heading_faults}
use Rattle.typing_statements.proofs.Actions.{found_then}
use Rattle.lynx_types.proofs.Declarations.{next_names}
use Rattle.lynx_types.proofs.News.{or_none, news-append, declared-append, same_scope, news_are_new, in_order}

-- ---- parameters

next_parameter : (a : ℕ) (n : List ℕ) (ns : List (List ℕ)) (ts : List TypeName)
    → parameters_named a (n ∷ ns) ts ≡ record { place = a; name = n; meaning = Variable (first_or_int ts) } ∷ parameters_named (a + 2) ns (drop 1 ts)
next_parameter a n ns [] = refl
next_parameter a n ns (t ∷ ts) = refl

module _ (a : ℕ) (n : List ℕ) (ns : List (List ℕ)) (i : ℕ) (ts us : List TypeName) (b : ℕ) (kind : TypeName) (lt : i < length ns) (is : n ≡ get_or ns i n) (at_b : b ≡ a + 2) (left : us ≡ drop 1 ts) (first : kind ≡ first_or_int ts) where
  abbrev here : Declared
  here = record { place = a; name = n; meaning = Variable kind }

  parameter-split : parameters_named a (drop i ns) ts ≡ here ∷ parameters_named b (drop (i + 1) ns) us
  parameter-split =
      ap (λ xs. parameters_named a xs ts) (at_place ns i n lt is) ∙ next_parameter a n (drop (i + 1) ns) ts
      ∙ (λ j. record { place = a; name = n; meaning = Variable (sym first j) } ∷ parameters_named (sym at_b j) (drop (i + 1) ns) (sym left j))

  module _ (s t : Scope) (means : (q : List ℕ) → t q ≡ then_declared s (here ∷ []) q) where
    pub parameter_first : (o o1 : Option Fault) (new : Bool) → new ≡ not (is_some (s n)) → o1 ≡ first_with o (demand 2 a new)
        → first_with o1 (news_faults 2 t (parameters_named b (drop (i + 1) ns) us)) ≡ first_with o (news_faults 2 s (parameters_named a (drop i ns) ts))
    parameter_first o o1 new is_new h =
        (λ j. first_with ((h ∙ ap (λ x. first_with o (demand 2 a x)) is_new) j) (news_faults 2 (same_scope t (then_declared s (here ∷ [])) means j) (parameters_named b (drop (i + 1) ns) us)))
        ∙ sym (first_with-append o (demand 2 a (not (is_some (s n)))) (news_faults 2 (then_declared s (here ∷ [])) (parameters_named b (drop (i + 1) ns) us)))
        ∙ ap (λ ds. first_with o (news_faults 2 s ds)) (sym parameter-split)

    pub parameter_names : (q : List ℕ) → then_declared t (parameters_named b (drop (i + 1) ns) us) q ≡ then_declared s (parameters_named a (drop i ns) ts) q
    parameter_names q =
        ap (λ u. then_declared u (parameters_named b (drop (i + 1) ns) us) q) (same_scope t (then_declared s (here ∷ [])) means)
        ∙ ap (λ u. u q) (sym (declared-append s (here ∷ []) (parameters_named b (drop (i + 1) ns) us))) ∙ ap (λ ds. then_declared s ds q) (sym parameter-split)

-- where nothing is declared, names mean what they did
pub none_declared : (s : Scope) (ds : List Declared) (q : List ℕ) → ds ≡ [] → then_declared s ds q ≡ s q
none_declared s ds q none = ap (λ xs. then_declared s xs q) none ∙ or_none (s q)

-- ---- the locals of an entry

pub locals_first : (o o1 o2 : Option Fault) (s t : Scope) (ps vs : List Declared) (faults : List Fault) → ((q : List ℕ) → s q ≡ nowhere q) → o1 ≡ first_with o (news_faults 2 s ps)
    → ((q : List ℕ) → t q ≡ then_declared s ps q) → o2 ≡ first_with o1 (news_faults 2 t vs ++ faults) → o2 ≡ first_with o (news_faults 2 nowhere (ps ++ vs) ++ faults)
locals_first o o1 o2 s t ps vs faults none h means g =
    g ∙ (λ j. first_with (h j) (news_faults 2 (same_scope t (then_declared s ps) means j) vs ++ faults))
    ∙ sym (first_with-append o (news_faults 2 s ps) (news_faults 2 (then_declared s ps) vs ++ faults))
    ∙ ap (first_with o) (sym (append_assoc (news_faults 2 s ps) (news_faults 2 (then_declared s ps) vs) faults) ∙ ap (λ x. x ++ faults) (sym (news-append 2 s ps vs)))
    ∙ ap (λ u. first_with o (news_faults 2 u (ps ++ vs) ++ faults)) (same_scope s nowhere none)

pub locals_names : (s t u : Scope) (ps vs : List Declared) → ((q : List ℕ) → s q ≡ nowhere q) → ((q : List ℕ) → t q ≡ then_declared s ps q) → ((q : List ℕ) → u q ≡ then_declared t vs q) → (q : List ℕ) → u q ≡ meaning_in (ps ++ vs) q
locals_names s t u ps vs none means more q =
    more q ∙ ap (λ w. then_declared w vs q) (same_scope t (then_declared s ps) means)
    ∙ ap (λ w. w q) (sym (declared-append s ps vs)) ∙ ap (λ w. then_declared w (ps ++ vs) q) (same_scope s nowhere none)

-- ---- the heading of an entry

pub heading_first : (a b c d : ℕ) (new many op : Bool) (parameters : ℕ) (arguments : Option (List TypeName)) (o o1 o2 o3 : Option Fault) → b ≡ a + 1 → c ≡ a + 1 → d ≡ a + 3
    → many ≡ is_number_of parameters arguments → op ≡ is_some arguments
    → o1 ≡ first_with o (demand 1 b new) → o2 ≡ first_with o1 (demand 7 c many) → o3 ≡ first_with o2 (demand 6 d op)
    → o3 ≡ first_with o (heading_faults a new parameters arguments)
heading_first a b c d new many op parameters arguments o o1 o2 o3 at_b at_c at_d number known e1 e2 e3 =
    found_then o o2 o3 (demand 1 (a + 1) new ++ demand 7 (a + 1) (is_number_of parameters arguments)) (demand 6 (a + 3) (is_some arguments)) (demand 6 d op)
    (found_then o o1 o2 (demand 1 (a + 1) new) (demand 7 (a + 1) (is_number_of parameters arguments)) (demand 7 c many)
    (e1 ∙ ap (λ i. first_with o (demand 1 i new)) at_b) e2 (λ i. demand 7 (at_c i) (number i)))
    e3 (λ i. demand 6 (at_d i) (known i))

-- ---- an entry

five_lists : (xs ys zs : List Mark) (a b c d e f g : Mark) → length (a ∷ b ∷ c ∷ d ∷ (xs ++ (ys ++ e ∷ (zs ++ f ∷ g ∷ [])))) ≡ 7 + length xs + length ys + length zs
five_lists xs ys zs a b c d e f g = omega (arith, length-append {A = Mark})

pub entry-size : (e : EntryTree) → entry_size e ≡ 7 + length (names_marks 0 e.parameters) + length (vars_marks e.vars) + stmts_size e.body
entry-size e = five_lists (names_marks 0 e.parameters) (vars_marks e.vars) (stmts_marks 0 e.body)
    (word 0 keywords.Entry) (name 0 e.name) (word 0 keywords.Of) (name 0 e.op) (word 0 keywords.Begin) (word 0 keywords.End) (mark 0 signs.Semicolon)

module _ (outside : Scope) (a : ℕ) (e : EntryTree) where
  abbrev ts : List TypeName
  ts = known (arguments_of (outside e.op))

  pub same_locals : locals_named (a + 4) e ts ≡ local_names outside a e
  same_locals = ap (λ n. parameters_named n e.parameters ts ++ each_at var_size var_named (locals_at a e) e.vars) (omega arith)

  pub entry_first : (new : Bool) (o o1 o2 o3 : Option Fault)
      → o1 ≡ first_with o (heading_faults a new (length e.parameters) (arguments_of (outside e.op)))
      → o2 ≡ first_with o1 (news_faults 2 nowhere (locals_named (a + 4) e ts) ++ each_at var_size var_faults (locals_at a e) e.vars)
      → o3 ≡ first_with o2 (stmts_faults (inside (local_names outside a e) outside) (Asks (results_of (outside e.op))) (entry_body_at a e) e.body)
      → o3 ≡ first_with o (demand 1 (a + 1) new ++ entry_faults outside a e)
  entry_first new o o1 o2 o3 e1 e2 e3 =
      let name = demand 1 (a + 1) new in
      let many = entry_has_parameters (a + 1) (outside e.op) (length e.parameters) in
      let ops = entry_is_of_op (a + 3) (outside e.op) in
      let news = news_faults 2 nowhere (local_names outside a e) in
      let told = names_are_new local_name_is_new [] (local_names outside a e) in
      let kinds = each_at var_size var_faults (locals_at a e) e.vars in
      let body = stmts_faults (inside (local_names outside a e) outside) (Asks (results_of (outside e.op))) (entry_body_at a e) e.body in
      let h1 : o1 ≡ first_with (first_with o name) (many ++ ops) = e1 ∙ ap (first_with o) (append_assoc name many ops) ∙ first_with-append o name (many ++ ops) in
      let h2 : o2 ≡ first_with o1 (told ++ kinds) = e2 ∙ ap (λ ds. first_with o1 (news_faults 2 nowhere ds ++ kinds)) same_locals ∙ ap (λ x. first_with o1 (x ++ kinds)) (sym (news_are_new 2 [] nowhere (local_names outside a e) (λ q. refl))) in
      let h3 : o2 ≡ first_with (first_with o name) (many ++ ops ++ told ++ kinds) = joined (first_with o name) o1 o2 (many ++ ops) (told ++ kinds) h1 h2 ∙ ap (first_with (first_with o name)) (sym (append_assoc (many ++ ops) told kinds)) in
      joined o (first_with o name) o3 name (many ++ ops ++ told ++ kinds ++ body) refl (joined (first_with o name) o2 o3 (many ++ ops ++ told ++ kinds) body h3 e3)

-- ---- entries

-- whether a name is new does not hang on where it stands
pub same_news : (s : Scope) (es : List EntryTree) (a b : ℕ) → are_new s (each_at entry_size entry_named a es) ≡ are_new s (each_at entry_size entry_named b es)
same_news s [] a b = refl
same_news s (e ∷ es) a b = ap (λ bs. not (is_some (s e.name)) ∷ bs) (same_news (then_declared s (entry_named a e)) es (a + entry_size e) (b + entry_size e))

same_meaning : (es : List EntryTree) (a b : ℕ) (q : List ℕ) → meaning_in (each_at entry_size entry_named a es) q ≡ meaning_in (each_at entry_size entry_named b es) q
same_meaning [] a b q = refl
same_meaning (e ∷ es) a b q = ap (cond (bytes_eq e.name q) (Some Entry)) (same_meaning es (a + entry_size e) (b + entry_size e) q)

module _ (s t : Scope) (ds : List EntryDecl) (i : ℕ) (d : EntryDecl) (a : ℕ) (lt : i < length ds) (is : d ≡ get_or ds i d) (means : (q : List ℕ) → t q ≡ then_declared s (entry_named a (entry_tree d)) q) where
  abbrev rest : List EntryTree
  rest = map entry_tree (drop (i + 1) ds)

  pub news-told : (items more : List Bool) (new : Bool) → more ≡ items ++ new ∷ [] → new ≡ not (is_some (s d.name))
      → more ++ are_new t (each_at entry_size entry_named a rest) ≡ items ++ are_new s (each_at entry_size entry_named a (map entry_tree (drop i ds)))
  news-told items more new pushed is_new =
      ap (λ x. x ++ are_new t (each_at entry_size entry_named a rest)) pushed ∙ append_assoc items (new ∷ []) (are_new t (each_at entry_size entry_named a rest))
      ∙ ap (λ x. items ++ x) ((λ j. is_new j ∷ are_new (same_scope t (then_declared s (entry_named a (entry_tree d))) means j) (each_at entry_size entry_named a rest))
      ∙ ap (λ bs. not (is_some (s d.name)) ∷ bs) (same_news (then_declared s (entry_named a (entry_tree d))) rest a (a + entry_size (entry_tree d)))
      ∙ ap (λ xs. are_new s (each_at entry_size entry_named a (map entry_tree xs))) (sym (at_place ds i d lt is)))

  pub names-told : (q : List ℕ) → then_declared t (each_at entry_size entry_named a rest) q ≡ then_declared s (each_at entry_size entry_named a (map entry_tree (drop i ds))) q
  names-told q =
      ap (or_outside (t q)) (same_meaning rest a (a + entry_size (entry_tree d)) q)
      ∙ next_names entry_tree entry_size entry_named ds i d a (a + entry_size (entry_tree d)) lt is refl s t means q

-- of one entry it is told whether its name is new, and then of those behind it
pub entries-step : (o o1 : Option Fault) (s : Scope) (new : Bool) (news : List Bool) (a b : ℕ) (e : EntryTree) (es : List EntryTree) → b ≡ a + entry_size e → o1 ≡ first_with o (demand 1 (a + 1) new ++ entry_faults s a e)
    → first_with o1 (told_faults 1 news (each_at entry_size entry_named b es) ++ each_at entry_size (entry_faults s) b es)
    ≡ first_with o (told_faults 1 (new ∷ news) (each_at entry_size entry_named a (e ∷ es)) ++ each_at entry_size (entry_faults s) a (e ∷ es))
entries-step o o1 s new news a b e es at_b h =
    (λ j. first_with (h j) (told_faults 1 news (each_at entry_size entry_named (at_b j) es) ++ each_at entry_size (entry_faults s) (at_b j) es))
    ∙ in_order o (demand 1 (a + 1) new) (entry_faults s a e) (told_faults 1 news (each_at entry_size entry_named (a + entry_size e) es)) (each_at entry_size (entry_faults s) (a + entry_size e) es)
