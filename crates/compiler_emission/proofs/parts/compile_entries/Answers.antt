use Rattle.std.proofs.Common.{◌<◌, ◌+◌, ◌++◌, List, length, drop, map, ap, sym, subst, refl, ◌∙◌, arith}
use Rattle.std.proofs.lemmas.Result.{err_from_is_err_and}
use Rattle.lynx_tree.specs.Trees.{module_tree, entry_tree}
use Rattle.lynx_code.specs.declared.code.Part.{Part}
use Rattle.lynx_code.specs.declared.instruction.Instruction.{Instruction}
use Rattle.lynx_code.specs.Modules.{PartCode, entry_parts, IsPartOf}
use Rattle.compiler_emission.proofs.Emitting.{as_failed, each_step, each_end, each_long}
use Rattle.compiler_emission.proofs.Entries.{entry_here, entries_are, next_part, last_part}
use Rattle.compiler_emission.specs.Tables.{IsFit}
use Rattle.compiler_emission.proofs.Members.{all_at}
use Rattle.compiler_emission.proofs.Pairing.{IsLeft, pairs_append}
use Rattle.compiler_emission.proofs.parts.compile_entries.Goals as goal

pub compile_entry-requires-clause-fits : goal.compile_entry-requires-clause-fits
compile_entry-requires-clause-fits c = all_at IsFit entry_tree c.args.entries.now c.loop-entry.entry-index c.entry-item.result (omega arith) c.entry-item.is c.requires.entries

pub loop-entry-init : goal.loop-entry-init
loop-entry-init c = record {
  ok = refl;
  parts = λ before h rest pairs. pairs_append IsPartOf before _ c.args.parts.now.items rest h pairs;
  fits = c.requires.fits;
}

pub loop-entry-preserved : goal.loop-entry-preserved
loop-entry-preserved c =
    let m = module_tree c.args.tree.now in
    let i = c.loop-entry.entry-index in
    let es = c.args.entries.now in
    let e = c.entry-item.result in
    let o = c.loop-entry.code.items in
    let o' = c.compile_entry.new.code.items in
    let all : List PartCode = entry_parts m (length c.args.code.now.items) (map entry_tree es) in
    record {
      ok = each_step (entry_here m) es i e o o' _ (omega arith) c.entry-item.is c.in_ok-part.ensures.ok c.loop-entry.invariant.ok;
      parts = λ before h.
          subst (λ (made : List Part). IsLeft IsPartOf (before ++ all) (entry_parts m (length o') (map entry_tree (drop (i + 1) es))) made) (sym c.in_ok-push.ensures.items)
          (next_part m es i e o o' (before ++ all) c.loop-entry.parts.items c.in_ok-part.part (omega arith) c.entry-item.is c.in_ok-part.ensures.ok c.in_ok-part.ensures.part (c.loop-entry.invariant.parts before h));
      fits = c.in_ok-part.ensures.fits;
    }

pub returns-clause-parts : goal.returns-clause-parts
returns-clause-parts c before h =
    last_part (module_tree c.args.tree.now) c.args.entries.now c.loop-entry.entry-index (length c.loop-entry.code.items) _ c.loop-entry.parts.items (omega arith) (c.loop-entry.invariant.parts before h)

pub returns-clause-ok : goal.returns-clause-ok
returns-clause-ok c =
    let m = module_tree c.args.tree.now in
    each_end (entry_here m) c.args.entries.now c.loop-entry.entry-index c.args.code.now.items c.loop-entry.code.items (omega arith) c.loop-entry.invariant.ok
    ∙ ap (λ (is : List Instruction). c.args.code.now.items ++ is) (entries_are m (length c.args.code.now.items) c.args.entries.now)

pub returns-in_err-part-clause-long : goal.returns-in_err-part-clause-long
returns-in_err-part-clause-long c h =
    let m = module_tree c.args.tree.now in
    let p = err_from_is_err_and c.from_residual.result c.from_residual.ensures.1 in
    let failed = as_failed c.compile_entry.result c.from_residual.result c.in_err-part.field-0.0 p.0 c.in_err-part.was p.1 p.2 h in
    subst (λ (is : List Instruction). 65535 < length c.args.code.now.items + length is) (entries_are m (length c.args.code.now.items) c.args.entries.now)
    (each_long (entry_here m) c.args.entries.now c.loop-entry.entry-index c.entry-item.result c.args.code.now.items c.loop-entry.code.items (omega arith) c.entry-item.is (c.compile_entry.ensures.long failed) c.loop-entry.invariant.ok)
