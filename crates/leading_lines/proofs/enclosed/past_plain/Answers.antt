use Rattle.std.proofs.Common.{◌≡◌, ◌<◌, ◌≤◌, ℕ, List, length, rules, subst, sym, true}
use Rattle.std.specs.List.{list_all}
use Rattle.charlotte_text.specs.Spelling.{is_plain}
use Rattle.leading_lines.proofs.Past.{plain_bytes}
use Rattle.leading_lines.proofs.enclosed.past_plain.Goals as goal

pub returns : goal.returns
returns c =
    let some : 0 < length c.split_at.result.0.now = search rules in
    let few : length c.split_at.result.0.now ≤ 256 = search rules in
    let plain : list_all is_plain c.split_at.result.0.now ≡ true = subst (λ (w : List ℕ). list_all is_plain w ≡ true) (sym c.split_at.ensures.front) c.plain_count.ensures.plain in
    plain_bytes c.args.text.now c.split_at.result.0.now c.split_at.result.1.now c.split_at.ensures.by_index.0 some few plain
