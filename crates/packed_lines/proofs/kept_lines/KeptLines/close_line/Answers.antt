use Rattle.std.proofs.Common.{◌≡◌, ◌∙◌, ℕ, List, [], ◌∷◌, ◌++◌, ◌+◌, ◌-◌, ◌*◌, Ok, Err, ap, cond, drop, length, sym, take, arith, rules}
use Rattle.std.specs.Prelude.{OnOk}
use Rattle.std.proofs.lemmas.List.{length-drop, take-append-drop, take_all}
use Rattle.packed_lines.specs.Packed.{kept, line_note, packs}
use Rattle.packed_lines.specs.declared.kept_lines.KeptLines.{KeptLines}
use Rattle.packed_lines.proofs.Packed.{kept-packed, kept-plain}
use Rattle.packed_lines.proofs.Texts.{long-at, noted-line}
use Rattle.packed_lines.proofs.kept_lines.KeptLines.close_line.Goals.{then-packed+in_ok-pack, else-packed}
use Rattle.packed_lines.proofs.kept_lines.KeptLines.close_line.Goals as goal

pub returns-clause-text : goal.returns-clause-text
returns-clause-text c =
    let line : List ℕ = drop c.args.from c.args.self.now.text.items in
    let is : c.is_packed-packed.result ≡ packs line = c.is_packed-packed.ensures
    ∙ ap packs (take_all (length c.deref.result.now - c.args.from) (drop c.args.from c.deref.result.now) (omega (arith, length-drop c.args.from c.deref.result.now)))
    ∙ ap (λ (t : List ℕ). packs (drop c.args.from t)) c.deref.ensures.value in
    let whole : c.if-packed.self.text.items ≡ take c.args.from c.args.self.now.text.items ++ kept line =
    elim c.if-packed.branch [
      | then-packed+in_ok-pack w ↦ ap (λ (s : KeptLines). s.text.items) w.self-is ∙ w.in_ok-pack.ensures.text ∙ ap (λ (x : List ℕ). take c.args.from c.args.self.now.text.items ++ x) (sym (kept-packed line (sym is ∙ w.if-packed.true)))
      | else-packed w ↦ ap (λ (s : KeptLines). s.text.items) w.self-is ∙ sym (take-append-drop c.args.from c.args.self.now.text.items) ∙ ap (λ (x : List ℕ). take c.args.from c.args.self.now.text.items ++ x) (sym (kept-plain line (sym is ∙ w.if-packed.false)))
    ] in
    elim c.push_note.result as (λ r. OnOk r (c.if-packed.self.text.items ≡ take c.args.from c.args.self.now.text.items ++ kept line)) [ Ok u ↦ whole | Err e ↦ tt ]

pub returns-clause-notes : goal.returns-clause-notes
returns-clause-notes c =
    let line : List ℕ = drop c.args.from c.args.self.now.text.items in
    let is : c.is_packed-packed.result ≡ packs line = c.is_packed-packed.ensures
    ∙ ap packs (take_all (length c.deref.result.now - c.args.from) (drop c.args.from c.deref.result.now) (omega (arith, length-drop c.args.from c.deref.result.now)))
    ∙ ap (λ (t : List ℕ). packs (drop c.args.from t)) c.deref.ensures.value in
    let whole : c.if-packed.self.text.items ≡ take c.args.from c.args.self.now.text.items ++ kept line =
    elim c.if-packed.branch [
      | then-packed+in_ok-pack w ↦ ap (λ (s : KeptLines). s.text.items) w.self-is ∙ w.in_ok-pack.ensures.text ∙ ap (λ (x : List ℕ). take c.args.from c.args.self.now.text.items ++ x) (sym (kept-packed line (sym is ∙ w.if-packed.true)))
      | else-packed w ↦ ap (λ (s : KeptLines). s.text.items) w.self-is ∙ sym (take-append-drop c.args.from c.args.self.now.text.items) ∙ ap (λ (x : List ℕ). take c.args.from c.args.self.now.text.items ++ x) (sym (kept-plain line (sym is ∙ w.if-packed.false)))
    ] in
    let notes : c.if-packed.self.notes.items ≡ c.args.self.now.notes.items =
    elim c.if-packed.branch [
      | then-packed+in_ok-pack w ↦ ap (λ (s : KeptLines). s.notes.items) w.self-is ∙ w.in_ok-pack.ensures.notes
      | else-packed w ↦ ap (λ (s : KeptLines). s.notes.items) w.self-is
    ] in
    let place : c.len.result ≡ length c.if-packed.self.text.items = search rules in
    let long : c.len.result - c.args.from ≡ length (kept line) = long-at c.args.self.now.text.items c.if-packed.self.text.items (kept line) c.args.from c.len.result c.requires whole place in
    elim c.push_note.result as (λ r. OnOk r (c.push_note.new.notes.items ≡ c.if-packed.self.notes.items ++ (2 * (c.len.result - c.args.from) + cond c.is_packed-packed.result 1 0) ∷ []) → OnOk r (c.push_note.new.notes.items ≡ c.args.self.now.notes.items ++ line_note line ∷ [])) [
      | Ok u ↦ λ more. noted-line c.args.self.now.notes.items c.if-packed.self.notes.items c.push_note.new.notes.items line (c.len.result - c.args.from) c.is_packed-packed.result notes long is more
      | Err e ↦ λ u. tt
    ] c.push_note.ensures
