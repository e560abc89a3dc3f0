use Rattle.std.proofs.Common.{◌≡◌, ◌<◌, ◌++◌, ◌∙◌, ℕ, List, ap, length, rules, subst, sym, true}
use Rattle.std.specs.List.{list_all}
use Rattle.charlotte_text.specs.Spelling.{is_plain}
use Rattle.leading_lines.proofs.Leading.{plain_spelled}
use Rattle.leading_lines.proofs.values.leading_plain.Goals as goal

pub returns-clause-spelled : goal.returns-clause-spelled
returns-clause-spelled c =
    let some : 0 < length c.split_at.result.0.now = search rules in
    let plain : list_all is_plain c.split_at.result.0.now ≡ true = subst (λ (w : List ℕ). list_all is_plain w ≡ true) (sym c.split_at.ensures.front) c.plain_count.ensures.plain in
    let s = plain_spelled c.split_at.result.0.now c.in_ok-bytes.bytes c.from_slice.result some plain c.from_slice.ensures.long c.from_slice.ensures.same c.in_ok-bytes.was in
    c.split_at.ensures.by_index.0 ∙ ap (λ (w : List ℕ). w ++ c.split_at.result.1.now) s.0.text

pub returns-clause-each : goal.returns-clause-each
returns-clause-each c =
    let some : 0 < length c.split_at.result.0.now = search rules in
    let plain : list_all is_plain c.split_at.result.0.now ≡ true = subst (λ (w : List ℕ). list_all is_plain w ≡ true) (sym c.split_at.ensures.front) c.plain_count.ensures.plain in
    (plain_spelled c.split_at.result.0.now c.in_ok-bytes.bytes c.from_slice.result some plain c.from_slice.ensures.long c.from_slice.ensures.same c.in_ok-bytes.was).0.bytes
