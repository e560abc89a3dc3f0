use Rattle.std.proofs.Common.{◌≡◌, ◌+◌, ◌<◌, ◌≤◌, ◌++◌, [], ◌∷◌, length, map, drop, sym, ap, ◌∙◌, arith, rules, length-append}
use Rattle.std.specs.List.{flat_map}
use Rattle.std.proofs.lemmas.List.{drop_all}
use Rattle.std.proofs.lemmas.Slice.Zip.{zip_turn, zip_end}
use Rattle.lynx_tree.specs.Grammar.{entry_marks}
use Rattle.lynx_tree.specs.Trees.{entry_tree}
use Rattle.typing_rules.specs.Meanings.{look}
use Rattle.typing_rules.specs.Modules.{entry_faults}
use Rattle.typing_rules.specs.Names.{each_at, entry_size, entry_named}
use Rattle.typing_rules.specs.Progress.{first_with}
use Rattle.typing_rules.proofs.Members.{at_place, none_left}
use Rattle.typing_rules.proofs.Progress.{end_first}
use Rattle.lynx_types.specs.News.{told_faults}
use Rattle.lynx_types.proofs.Declarations.{next_tokens}
use Rattle.lynx_types.proofs.Entries.{entries-step}
use Rattle.lynx_types.proofs.entry.entries.Goals as goal

pub entry-requires : goal.entry-requires
entry-requires c =
    let turn = zip_turn c.args.news.now c.args.entries.now c.loop-new.yielded c.into_iter-new-iterator.result c.loop-new.new-iterator c.next.new.self c.next.result (search rules) (search rules) c.loop-new.yielded_by (c.in-Some.new, c.in-Some.item) c.in-Some.is c.next.ensures.steps in
    omega (arith, c.requires.fits, c.loop-new.invariant.at, next_tokens entry_tree entry_marks c.args.entries.now (length c.loop-new.yielded) c.in-Some.item.now turn.1 (turn.3 c.in-Some.item.now))

pub loop-new-preserved : goal.loop-new-preserved
loop-new-preserved c =
    let turn = zip_turn c.args.news.now c.args.entries.now c.loop-new.yielded c.into_iter-new-iterator.result c.loop-new.new-iterator c.next.new.self c.next.result (search rules) (search rules) c.loop-new.yielded_by (c.in-Some.new, c.in-Some.item) c.in-Some.is c.next.ensures.steps in
    let k = length c.loop-new.yielded in
    let grown : length (c.loop-new.yielded ++ (c.in-Some.new, c.in-Some.item) ∷ []) ≡ k + 1 = length-append c.loop-new.yielded ((c.in-Some.new, c.in-Some.item) ∷ []) in
    let ns = c.args.news.now in
    let ds = c.args.entries.now in
    let new = c.in-Some.new.now in
    let d = c.in-Some.item.now in
    let s = look c.args.outside.now in
    let a = c.loop-new.walk.at in
    let b = c.entry.new.walk.at in
    let o = c.loop-new.walk.first in
    let o1 = c.entry.new.walk.first in
    let here = at_place ds k d turn.1 (turn.3 d) in
    let told = at_place ns k new turn.0 (turn.2 new) in
    let left : b + length (flat_map entry_marks (map entry_tree (drop (k + 1) ds))) ≡ c.args.walk.now.at + length (flat_map entry_marks (map entry_tree ds))
    = omega (arith, c.loop-new.invariant.at, c.in_ok-entry.ensures.at, next_tokens entry_tree entry_marks ds k d turn.1 (turn.3 d)) in
    record {
      at = ap (λ n. b + length (flat_map entry_marks (map entry_tree (drop n ds)))) grown ∙ left;
      first = ap (λ n. first_with o1 (told_faults 1 (drop n ns) (each_at entry_size entry_named b (map entry_tree (drop n ds))) ++ each_at entry_size (entry_faults s) b (map entry_tree (drop n ds)))) grown
          ∙ entries-step o o1 s new (drop (k + 1) ns) a b (entry_tree d) (map entry_tree (drop (k + 1) ds)) c.in_ok-entry.ensures.at c.in_ok-entry.ensures.first
          ∙ (λ j. first_with o (told_faults 1 (sym told j) (each_at entry_size entry_named a (map entry_tree (sym here j))) ++ each_at entry_size (entry_faults s) a (map entry_tree (sym here j))))
          ∙ c.loop-new.invariant.first;
    }

pub returns-clause-at : goal.returns-clause-at
returns-clause-at c =
    let ended = zip_end c.args.news.now c.args.entries.now c.loop-new.yielded c.into_iter-new-iterator.result c.loop-new.new-iterator c.next.new.self c.next.result (search rules) (search rules) c.loop-new.yielded_by c.in-None.is c.next.ensures.steps in
    omega (arith, c.loop-new.invariant.at, none_left (λ xs. length (flat_map entry_marks (map entry_tree xs))) c.args.entries.now (length c.loop-new.yielded) (omega (arith, ended, c.requires.each)))

pub returns-clause-first : goal.returns-clause-first
returns-clause-first c =
    let ended = zip_end c.args.news.now c.args.entries.now c.loop-new.yielded c.into_iter-new-iterator.result c.loop-new.new-iterator c.next.new.self c.next.result (search rules) (search rules) c.loop-new.yielded_by c.in-None.is c.next.ensures.steps in
    let k = length c.loop-new.yielded in
    let told = drop_all k c.args.news.now (omega (arith, ended, c.requires.each)) in
    let left = drop_all k c.args.entries.now (omega (arith, ended, c.requires.each)) in
    let a = c.loop-new.walk.at in
    let s = look c.args.outside.now in
    end_first c.loop-new.walk.first _ (told_faults 1 (drop k c.args.news.now) (each_at entry_size entry_named a (map entry_tree (drop k c.args.entries.now))) ++ each_at entry_size (entry_faults s) a (map entry_tree (drop k c.args.entries.now)))
    (λ j. told_faults 1 (told j) (each_at entry_size entry_named a (map entry_tree (left j))) ++ each_at entry_size (entry_faults s) a (map entry_tree (left j))) c.loop-new.invariant.first
