use Rattle.std.proofs.Common.{◌≡◌, ◌+◌, ◌*◌, ◌≤◌, List, [], ◌∷◌, ◌++◌, length, append_assoc, append-nil, length-append, ap, sym, subst, refl, ◌∙◌, arith, rules}
use Rattle.std.proofs.lemmas.List.Elements.{All-same, All-head, All-tail}
use Rattle.charlotte_calls.specs.declared.setting.Setting.{Setting}
use Rattle.transcript_lines.specs.declared.last.ScriptNote.{ScriptNote}
use Rattle.lynx_plan.specs.declared.script.ScriptLine.{ScriptLine}
use Rattle.lynx_plan.specs.ScriptText.{FitsWhat}
use Rattle.script_run.specs.Recorded.{AreLinesDone}
use Rattle.script_run.proofs.Events.{Goes-start, ready-after}
use Rattle.script_run.proofs.Performances.{lines-none, lines-more}
use Rattle.script_run.proofs.performance.do_lines.Goals as goal

pub loop-line-init : goal.loop-line-init
loop-line-init c =
    record {
      done = [];
      all_are = refl;
      are_done = subst (λ (notes : List ScriptNote). AreLinesDone c.args.setting.now [] notes c.args.run.now c.args.run.now) (sym c.new-notes.ensures.items)
          (lines-none c.args.setting.now c.args.run.now (Goes-start c.args.setting.now c.args.run.now c.requires.ready.recorded));
      fit = c.requires.calls;
    }

pub do_line-requires-clause-ready : goal.do_line-requires-clause-ready
do_line-requires-clause-ready c =
    let so_far = c.loop-line.invariant in
    let is = so_far.are_done in
    let left : c.loop-line.lines ≡ c.in-Some.line ∷ c.next.new.self = c.in-Some.ensures.lines in
    let all : length c.args.lines ≡ length so_far.done + length c.loop-line.lines = ap length so_far.all_are ∙ length-append so_far.done c.loop-line.lines in
    let one : length c.loop-line.lines ≡ length c.next.new.self + 1 = ap length left ∙ omega arith in
    let few : length is.events ≤ 10000 * length so_far.done = is.few in
    let most : length c.args.lines ≤ 200000 = c.requires.few in
    (0 + length is.events, omega (arith, few, all, one, most), ready-after c.args.setting.now 0 c.args.run.now c.loop-line.run is.events (omega (arith, few, all, one, most)) is.goes c.requires.ready)

pub do_line-requires-clause-fits : goal.do_line-requires-clause-fits
do_line-requires-clause-fits c =
    let Fits : ScriptLine → Type 0 = λ l. FitsWhat c.args.setting.now l.what in
    All-head Fits c.in-Some.line c.next.new.self (All-same Fits _ _ (sym c.in-Some.ensures.lines) c.loop-line.invariant.fit)

pub loop-line-preserved : goal.loop-line-preserved
loop-line-preserved c =
    let s : Setting = c.args.setting.now in
    let so_far = c.loop-line.invariant in
    let l : ScriptLine = c.in-Some.line in
    let rest : List ScriptLine = c.next.new.self in
    let left : c.loop-line.lines ≡ l ∷ rest = c.in-Some.ensures.lines in
    let Fits : ScriptLine → Type 0 = λ x. FitsWhat s x.what in
    let one = lines-more s so_far.done l c.loop-line.notes.items c.in_ok-note.note c.args.run.now c.loop-line.run c.do_line.new.run so_far.are_done c.in_ok-note.ensures in
    record {
      done = so_far.done ++ l ∷ [];
      all_are = so_far.all_are ∙ ap (λ ls. so_far.done ++ ls) left ∙ sym (append_assoc so_far.done (l ∷ []) rest);
      are_done = subst (λ (notes : List ScriptNote). AreLinesDone s (so_far.done ++ l ∷ []) notes c.args.run.now c.do_line.new.run) (sym c.in_ok-push_note.ensures) one;
      fit = All-tail Fits l rest (All-same Fits _ _ (sym left) so_far.fit);
    }

pub returns : goal.returns
returns c =
    let so_far = c.loop-line.invariant in
    let none : c.loop-line.lines ≡ [] = search rules in
    subst (λ (ls : List ScriptLine). AreLinesDone c.args.setting.now ls c.loop-line.notes.items c.args.run.now c.loop-line.run) (sym (so_far.all_are ∙ ap (λ ls. so_far.done ++ ls) none ∙ append-nil so_far.done)) so_far.are_done
