use Rattle.std.proofs.Common.{◌≡◌, ◌∙◌, ℕ, ◌+◌, ◌-◌, ◌≤◌, List, [], ◌++◌, Ok, Err, ap, codes, length, arith, rules, sym}
use Rattle.std.specs.Prelude.{OnOk}
use Rattle.std.specs.List.{slice_range}
use Rattle.charlotte_text.specs.Spelling.{number_text}
use Rattle.kernel_entries.specs.declared.entry.Entry.{Entry}
use Rattle.kernel_entries.specs.declared.entry.Happened.{Happened}
use Rattle.kernel_entries.specs.declared.entry.Happened.TheVariants.{Took}
use Rattle.written_journal.specs.Alone.{first_entry, picture_text}
use Rattle.packed_lines.specs.Lines.{happened_line}
use Rattle.packed_lines.specs.Packed.{given}
use Rattle.written_journal.proofs.Alone.{first-line, head_text, picture-at, sender-took, some-line}
use Rattle.written_journal.proofs.entry_lines.EntryLines.push_picture.Goals as goal

pub line-kept-requires-clause-within : goal.line-kept-requires-clause-within
line-kept-requires-clause-within c = some-line c.self.inside.alone.entries (first_entry c.self.inside.alone.entries) [] c.self.invariant

pub push_between-requires : goal.push_between-requires
push_between-requires c =
    let q = sender-took c.args.self.now.what c.in-Some.from c.in-Some.ensures in
    let all : c.push_line.new.out.items ≡ happened_line (Took c.in-Some.from q.0) =
    c.in_ok-push_line.ensures ∙ ap (λ (t : List ℕ). t ++ given c.line-kept.result.packed c.line-kept.result.bytes.now) c.new-line.ensures.items ∙ c.line-kept.ensures.text
    ∙ first-line c.self.inside.alone.entries (first_entry c.self.inside.alone.entries) [] c.self.invariant ∙ ap (λ (e : Entry). happened_line e.what) c.self.view_is ∙ ap happened_line q.1 in
    let head : c.push_taking.new.out.items ≡ head_text c.in-Some.from = c.in_ok-push_taking.ensures ∙ ap (λ (t : List ℕ). t ++ codes " from " ++ number_text c.in-Some.from ++ codes " ") c.new-head.ensures.items in
    let at = picture-at c.push_line.new.out.items c.in-Some.from q.0 all in
    let place : c.len.result ≡ length c.push_taking.new.out.items = search rules in
    let long = at.long in
    omega (arith, long, place, ap length head, ap length c.deref.ensures.value)

pub returns : goal.returns
returns c =
    let q = sender-took c.args.self.now.what c.in-Some.from c.in-Some.ensures in
    let all : c.push_line.new.out.items ≡ happened_line (Took c.in-Some.from q.0) =
    c.in_ok-push_line.ensures ∙ ap (λ (t : List ℕ). t ++ given c.line-kept.result.packed c.line-kept.result.bytes.now) c.new-line.ensures.items ∙ c.line-kept.ensures.text
    ∙ first-line c.self.inside.alone.entries (first_entry c.self.inside.alone.entries) [] c.self.invariant ∙ ap (λ (e : Entry). happened_line e.what) c.self.view_is ∙ ap happened_line q.1 in
    let head : c.push_taking.new.out.items ≡ head_text c.in-Some.from = c.in_ok-push_taking.ensures ∙ ap (λ (t : List ℕ). t ++ codes " from " ++ number_text c.in-Some.from ++ codes " ") c.new-head.ensures.items in
    let at = picture-at c.push_line.new.out.items c.in-Some.from q.0 all in
    let place : c.len.result ≡ length c.push_taking.new.out.items = search rules in
    let old : List ℕ = c.args.out.now.items in
    let line : List ℕ = c.push_line.new.out.items in
    let part : old ++ slice_range c.deref.result.now c.len.result (length c.deref.result.now - 1) ≡ old ++ picture_text c.args.self.now.what =
    ap (λ (t : List ℕ). old ++ slice_range t c.len.result (length t - 1)) c.deref.ensures.value ∙ ap (λ (n : ℕ). old ++ slice_range line n (length line - 1)) (place ∙ ap length head)
    ∙ ap (λ (t : List ℕ). old ++ t) at.part ∙ ap (λ (w : Happened). old ++ picture_text w) (sym q.1) in
    elim c.push_between.result as (λ r. OnOk r (c.push_between.new.out.items ≡ old ++ slice_range c.deref.result.now c.len.result (length c.deref.result.now - 1)) → OnOk r (c.push_between.new.out.items ≡ old ++ picture_text c.args.self.now.what)) [
      | Ok u ↦ λ more. more ∙ part
      | Err e ↦ λ u. tt
    ] c.push_between.ensures
