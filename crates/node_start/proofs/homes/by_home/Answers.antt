use Rattle.std.proofs.Common.{◌≡◌, ◌+◌, ◌<◌, ◌≤◌, ℕ, List, [], ◌∷◌, ◌++◌, length, map, set, get_or, refl, ap, sym, subst, ◌∙◌, arith}
use Rattle.std.proofs.lemmas.List.{get_or-map, length-map, map-set, nil_from_length}
use Rattle.std.proofs.lemmas.List.Elements.{All-get_or}
use Rattle.std.specs.Global.{Vec}
use Rattle.charlotte_calls.specs.declared.names.Pid.{Pid}
use Rattle.node_start.proofs.Spreading.{AreSpread, home-there, spread-all, spread-more, spread-none}
use Rattle.node_start.proofs.homes.by_home.Goals as goal

pub loop-program-init : goal.loop-program-init
loop-program-init g c =
    subst (λ rest. AreSpread c.args.setting.now c.args.programs.items 0 rest (map (λ list. list.items) c.in_ok-lists.lists.items)) (sym c.into_iter-program-iterator.ensures.into_iter_gives.0)
    (spread-none c.args.setting.now c.args.programs.items (map (λ list. list.items) c.in_ok-lists.lists.items) (length-map c.in_ok-lists.lists.items (λ list. list.items) ∙ c.in_ok-lists.ensures.count)
    c.requires.count c.in_ok-lists.ensures.empty)

-- there is one program more
with-next : {P : Type 0} (s : _) (all : List P) (number : ℕ) (rest : List P) (p : P) (others : List P) (lists : List (List (Pid × P))) → AreSpread s all number rest lists
    → rest ≡ p ∷ others → AreSpread s all number (p ∷ others) lists
with-next s all number rest p others lists are is = subst (λ r. AreSpread s all number r lists) is are

pub bounds-as_slice-from : goal.bounds-as_slice-from
bounds-as_slice-from g c =
    let are = with-next _ _ _ _ _ _ _ c.loop-program.invariant c.in-Some.ensures.steps.0 in
    omega (arith, are.count, c.from.ensures, ap length c.as_slice.ensures)

pub index_mut-requires : goal.index_mut-requires
index_mut-requires g c =
    let are = with-next _ _ _ _ _ _ _ c.loop-program.invariant c.in-Some.ensures.steps.0 in
    let home = All-get_or (λ home. home < c.args.setting.now.kernels) c.args.setting.now.homes c.loop-program.number 0 (home-there _ _ _ _ _ _ are) c.requires.valid.homes in
    let is : c.from-in-loop-program.result ≡ get_or c.args.setting.now.homes c.loop-program.number 0 =
    c.from-in-loop-program.ensures ∙ ap (λ xs. get_or xs c.from.result 0) c.as_slice.ensures ∙ ap (λ i. get_or c.args.setting.now.homes i 0) c.from.ensures in
    omega (arith, home, is, are.kernels, length-map c.loop-program.lists.items (λ list. list.items))

pub overflow_add-number : goal.overflow_add-number
overflow_add-number g c =
    let are = with-next _ _ _ _ _ _ _ c.loop-program.invariant c.in-Some.ensures.steps.0 in
    omega (arith, are.count, c.requires.valid.limits.processes)

pub loop-program-preserved : goal.loop-program-preserved
loop-program-preserved g c =
    let f = λ (list : Vec (Pid × g.row.P.Denot)). list.items in
    let lists = c.loop-program.lists.items in
    let at = c.from-in-loop-program.result in
    let are = with-next _ _ _ _ _ _ _ c.loop-program.invariant c.in-Some.ensures.steps.0 in
    let home = All-get_or (λ home. home < c.args.setting.now.kernels) c.args.setting.now.homes c.loop-program.number 0 (home-there _ _ _ _ _ _ are) c.requires.valid.homes in
    let is : at ≡ get_or c.args.setting.now.homes c.loop-program.number 0 =
    c.from-in-loop-program.ensures ∙ ap (λ xs. get_or xs c.from.result 0) c.as_slice.ensures ∙ ap (λ i. get_or c.args.setting.now.homes i 0) c.from.ensures in
    let items : c.push.new.self.items ≡ get_or (map f lists) at [] ++ (record { 0 = c.loop-program.number }, c.in-Some.program) ∷ [] =
    c.in_ok-push.ensures.items
    ∙ ap (λ (ps : List (Pid × g.row.P.Denot)). ps ++ (record { 0 = c.loop-program.number }, c.in-Some.program) ∷ [])
    (ap f c.index_mut.ensures.value ∙ sym (get_or-map f lists at c.index_mut.result.now [] (omega (arith, home, is, are.kernels, length-map lists f)))) in
    subst (AreSpread c.args.setting.now c.args.programs.items (c.loop-program.number + 1) c.next.new.self.rest.items)
    (ap (set (map f lists) at) (sym items) ∙ sym (map-set f lists at c.push.new.self))
    (spread-more _ _ _ _ _ _ are at is (omega (arith, home, is)))

pub returns-clause-count : goal.returns-clause-count
returns-clause-count g c = sym (length-map c.loop-program.lists.items (λ list. list.items)) ∙ c.loop-program.invariant.kernels

pub returns-clause-lists : goal.returns-clause-lists
returns-clause-lists g c =
    spread-all c.args.setting.now c.args.programs.items c.loop-program.number (map (λ list. list.items) c.loop-program.lists.items)
    (subst (λ rest. AreSpread c.args.setting.now c.args.programs.items c.loop-program.number rest (map (λ list. list.items) c.loop-program.lists.items)) (nil_from_length c.loop-program.program-iterator.rest.items (omega (arith, c.in-None.ensures.steps.0, c.loop-program.program-iterator.rest.ok))) c.loop-program.invariant)
