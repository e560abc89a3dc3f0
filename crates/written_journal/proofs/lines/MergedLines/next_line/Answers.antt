use Rattle.std.proofs.Common.{◌≡◌, ◌∙◌, ℕ, List, ◌∷◌, ◌++◌, length, get_or, set, ap, sym, subst, arith, rules}
use Rattle.std.specs.List.{flat_map}
use Rattle.std.proofs.lemmas.List.{set-get_or, with_items_is}
use Rattle.transcript_lines.specs.Transcript.{entry_lines}
use Rattle.kernel_entries.specs.Order.{of_kernel}
use Rattle.written_journal.specs.Given.{AreLeft, Rest, rest_at}
use Rattle.written_journal.proofs.InOrder.{between, first-given, next-of, no-entry}
use Rattle.written_journal.proofs.lines.MergedLines.next_line.Goals as goal

pub returns-in_default-clause-given : goal.returns-in_default-clause-given
returns-in_default-clause-given c =
    let is = between c.self.inside.readers.items c.deref_mut.result.now c.step_line.new.readers c.self.inside.kernel c.self.inside.order c.in_ok-step_line.field-0 c.step_line.new.out.items
    c.deref_mut.ensures.value c.self.invariant c.in_ok-step_line.ensures.left c.in_ok-step_line.ensures.given c.if-branch.false in
    let held : length c.step_line.new.readers ≡ c.self.inside.readers.len = search rules in
    let whole = with_items_is c.self.inside.readers c.step_line.new.readers held in (
      sym c.self.view_is ∙ no-entry (rest_at c.self.inside.readers.items c.self.inside.kernel).lines c.self.inside.order is.gone c.in_default.ensures,
      ap (λ (rs : List Rest). (rest_at rs c.self.inside.kernel).lines ++ flat_map entry_lines c.self.inside.order) whole ∙ no-entry (rest_at c.step_line.new.readers c.self.inside.kernel).lines c.self.inside.order is.none c.in_default.ensures,
      search rules,
    )

pub index_mut-requires : goal.index_mut-requires
index_mut-requires c =
    let is = between c.self.inside.readers.items c.deref_mut.result.now c.step_line.new.readers c.self.inside.kernel c.self.inside.order c.in_ok-step_line.field-0 c.step_line.new.out.items
    c.deref_mut.ensures.value c.self.invariant c.in_ok-step_line.ensures.left c.in_ok-step_line.ensures.given c.if-branch.false in
    let next = next-of c.self.inside.readers.items c.step_line.new.readers c.self.inside.kernel c.self.inside.order c.in-Some.kernel is c.in-Some.ensures in
    let held : length c.step_line.new.readers ≡ c.self.inside.readers.len = search rules in
    let within = next.within in
    omega (arith, held, within, c.from.ensures)

pub first_line-requires-clause-none : goal.first_line-requires-clause-none
first_line-requires-clause-none c =
    let is = between c.self.inside.readers.items c.deref_mut.result.now c.step_line.new.readers c.self.inside.kernel c.self.inside.order c.in_ok-step_line.field-0 c.step_line.new.out.items
    c.deref_mut.ensures.value c.self.invariant c.in_ok-step_line.ensures.left c.in_ok-step_line.ensures.given c.if-branch.false in
    let next = next-of c.self.inside.readers.items c.step_line.new.readers c.self.inside.kernel c.self.inside.order c.in-Some.kernel is c.in-Some.ensures in
    let held : length c.step_line.new.readers ≡ c.self.inside.readers.len = search rules in
    let whole = with_items_is c.self.inside.readers c.step_line.new.readers held in
    let at : c.index_mut.result.now ≡ get_or c.step_line.new.readers c.in-Some.kernel c.index_mut.result.now =
    c.index_mut.ensures.value ∙ ap (λ (rs : List Rest). get_or rs c.from.result c.index_mut.result.now) whole ∙ ap (λ (n : ℕ). get_or c.step_line.new.readers n c.index_mut.result.now) c.from.ensures in
    next.none c.index_mut.result.now at

pub first_line-requires-clause-some : goal.first_line-requires-clause-some
first_line-requires-clause-some c =
    let is = between c.self.inside.readers.items c.deref_mut.result.now c.step_line.new.readers c.self.inside.kernel c.self.inside.order c.in_ok-step_line.field-0 c.step_line.new.out.items
    c.deref_mut.ensures.value c.self.invariant c.in_ok-step_line.ensures.left c.in_ok-step_line.ensures.given c.if-branch.false in
    let next = next-of c.self.inside.readers.items c.step_line.new.readers c.self.inside.kernel c.self.inside.order c.in-Some.kernel is c.in-Some.ensures in
    let held : length c.step_line.new.readers ≡ c.self.inside.readers.len = search rules in
    let whole = with_items_is c.self.inside.readers c.step_line.new.readers held in
    let at : c.index_mut.result.now ≡ get_or c.step_line.new.readers c.in-Some.kernel c.index_mut.result.now =
    c.index_mut.ensures.value ∙ ap (λ (rs : List Rest). get_or rs c.from.result c.index_mut.result.now) whole ∙ ap (λ (n : ℕ). get_or c.step_line.new.readers n c.index_mut.result.now) c.from.ensures in
    (next.entry, of_kernel c.in-Some.kernel next.rest, next.some c.index_mut.result.now at)

pub invariant_of-self-in_err-first_line : goal.invariant_of-self-in_err-first_line
invariant_of-self-in_err-first_line c =
    let is = between c.self.inside.readers.items c.deref_mut.result.now c.step_line.new.readers c.self.inside.kernel c.self.inside.order c.in_ok-step_line.field-0 c.step_line.new.out.items
    c.deref_mut.ensures.value c.self.invariant c.in_ok-step_line.ensures.left c.in_ok-step_line.ensures.given c.if-branch.false in
    let held : length c.step_line.new.readers ≡ c.self.inside.readers.len = search rules in
    let whole = with_items_is c.self.inside.readers c.step_line.new.readers held in
    let at : c.index_mut.result.now ≡ get_or c.step_line.new.readers c.in-Some.kernel c.index_mut.result.now =
    c.index_mut.ensures.value ∙ ap (λ (rs : List Rest). get_or rs c.from.result c.index_mut.result.now) whole ∙ ap (λ (n : ℕ). get_or c.step_line.new.readers n c.index_mut.result.now) c.from.ensures in
    let now = ap (λ (rs : List Rest). set rs c.from.result c.first_line.new.self) whole ∙ ap (λ (n : ℕ). set c.step_line.new.readers n c.first_line.new.self) c.from.ensures in
    let same = ap (set c.step_line.new.readers c.in-Some.kernel) (c.in_err-first_line.ensures.same ∙ at) ∙ set-get_or c.step_line.new.readers c.in-Some.kernel c.index_mut.result.now in
    subst (λ (rs : List Rest). AreLeft rs c.self.inside.kernel c.self.inside.order) (sym (now ∙ same)) is.left

pub invariant_of-self-2 : goal.invariant_of-self-2
invariant_of-self-2 c =
    let is = between c.self.inside.readers.items c.deref_mut.result.now c.step_line.new.readers c.self.inside.kernel c.self.inside.order c.in_ok-step_line.field-0 c.step_line.new.out.items
    c.deref_mut.ensures.value c.self.invariant c.in_ok-step_line.ensures.left c.in_ok-step_line.ensures.given c.if-branch.false in
    let next = next-of c.self.inside.readers.items c.step_line.new.readers c.self.inside.kernel c.self.inside.order c.in-Some.kernel is c.in-Some.ensures in
    let held : length c.step_line.new.readers ≡ c.self.inside.readers.len = search rules in
    let whole = with_items_is c.self.inside.readers c.step_line.new.readers held in
    let at : c.index_mut.result.now ≡ get_or c.step_line.new.readers c.in-Some.kernel c.index_mut.result.now =
    c.index_mut.ensures.value ∙ ap (λ (rs : List Rest). get_or rs c.from.result c.index_mut.result.now) whole ∙ ap (λ (n : ℕ). get_or c.step_line.new.readers n c.index_mut.result.now) c.from.ensures in
    let now = ap (λ (rs : List Rest). set rs c.from.result c.first_line.new.self) whole ∙ ap (λ (n : ℕ). set c.step_line.new.readers n c.first_line.new.self) c.from.ensures in
    let given = first-given c.self.inside.readers.items c.step_line.new.readers c.self.inside.kernel c.self.inside.order c.in-Some.kernel c.first_line.new.self c.pop.new.self c.first_line.new.out.items
    is next (c.in_ok-first_line.ensures.given next.entry (of_kernel c.in-Some.kernel next.rest) (next.some c.index_mut.result.now at)) c.pop.ensures in
    subst (λ (rs : List Rest). AreLeft rs c.in-Some.kernel c.pop.new.self) (sym now) given.left

pub returns-clause-given : goal.returns-clause-given
returns-clause-given c =
    let is = between c.self.inside.readers.items c.deref_mut.result.now c.step_line.new.readers c.self.inside.kernel c.self.inside.order c.in_ok-step_line.field-0 c.step_line.new.out.items
    c.deref_mut.ensures.value c.self.invariant c.in_ok-step_line.ensures.left c.in_ok-step_line.ensures.given c.if-branch.false in
    let next = next-of c.self.inside.readers.items c.step_line.new.readers c.self.inside.kernel c.self.inside.order c.in-Some.kernel is c.in-Some.ensures in
    let held : length c.step_line.new.readers ≡ c.self.inside.readers.len = search rules in
    let whole = with_items_is c.self.inside.readers c.step_line.new.readers held in
    let at : c.index_mut.result.now ≡ get_or c.step_line.new.readers c.in-Some.kernel c.index_mut.result.now =
    c.index_mut.ensures.value ∙ ap (λ (rs : List Rest). get_or rs c.from.result c.index_mut.result.now) whole ∙ ap (λ (n : ℕ). get_or c.step_line.new.readers n c.index_mut.result.now) c.from.ensures in
    let now = ap (λ (rs : List Rest). set rs c.from.result c.first_line.new.self) whole ∙ ap (λ (n : ℕ). set c.step_line.new.readers n c.first_line.new.self) c.from.ensures in
    let given = first-given c.self.inside.readers.items c.step_line.new.readers c.self.inside.kernel c.self.inside.order c.in-Some.kernel c.first_line.new.self c.pop.new.self c.first_line.new.out.items
    is next (c.in_ok-first_line.ensures.given next.entry (of_kernel c.in-Some.kernel next.rest) (next.some c.index_mut.result.now at)) c.pop.ensures in
    sym c.self.view_is ∙ ap (λ (ls : List (List ℕ)). ls ++ flat_map entry_lines c.self.inside.order) is.gone ∙ given.given
    ∙ ap (λ (rs : List Rest). c.first_line.new.out.items ∷ ((rest_at rs c.in-Some.kernel).lines ++ flat_map entry_lines c.pop.new.self)) (sym now)
