-- The nodes of one net that have met fit together, and so they made one run, which is lawful.
use Rattle.std.proofs.Common.{◌≡◌, ℕ, zero, suc, ◌*◌, ◌^◌, ◌<◌, ◌≤◌, false, if◌then◌else◌, List, [], ◌∷◌, ◌++◌, All, Some, None, length, map, refl, ap, sym, subst, ◌∙◌, arith, append_assoc, append-nil, ne_eqb}
use Rattle.std.specs.Prelude.{slice_get, slice_index_or}
use Rattle.std.proofs.lemmas.List.{get_or_past, length-map}
use Rattle.std.proofs.lemmas.List.Elements.{All-get_or, All-head, All-tail}
use Rattle.std.proofs.lemmas.Option.{get_or_from_slice_get, slice_get_within}
use Rattle.charlotte_calls.specs.declared.names.Pid.{Pid}
use Rattle.charlotte_calls.specs.declared.setting.Setting.{Setting}
use Rattle.charlotte_packets.specs.Packets.{what_picture}
use Rattle.charlotte_packets.specs.declared.packet.Packet.{Packet}
use Rattle.kernel_entries.specs.Order.{IsMerge, of_kernel}
use Rattle.kernel_entries.specs.declared.entry.Entry.{Entry}
use Rattle.kernel_entries.specs.declared.entry.Placed.{Placed}
use Rattle.kernel_named.specs.Named.{GoWithin, IsSentWithin}
use Rattle.kernel_net.specs.Ports.{got_from, kernels_of, place_of, put_to, there_of}
use Rattle.kernel_net.specs.Rings.{Outlet}
use Rattle.kernel_net.specs.declared.letter.Letter.{Letter}
use Rattle.kernel_net.specs.declared.letter.Letter.TheVariants as letter
use Rattle.kernel_outbox.specs.Letters.{letters_for, outbox_to}
use Rattle.kernel_outbox.specs.declared.outbox.Outbox.{Outbox}
use Rattle.kernel_step.specs.Start.{start_kernel}
use Rattle.kernel_turns.specs.Courses.{marked_of}
use Rattle.kernel_turns.specs.Letters.{told}
use Rattle.kernel_turns.specs.Nodes.{HasSent, HasTaken, Meaning, sum_of}
use Rattle.kernel_turns.specs.declared.node.Node.{Node}
use Rattle.kernel_turns.proofs.Together.{one_run}
use Rattle.kernel_turns.specs.Local.{FitTogether, IsLocalRun, IsOneRun, LocalEvent, entries_of, sends_to, takes_from}
use Rattle.kernel_turns.proofs.Record.{record-is-lawful}
use Rattle.kernel_turns.specs.Record.{IsLawfulRecord}
use Rattle.node_runs.proofs.Kernels.{takes-none}
use Rattle.node_runs.proofs.Pictures.{pictures-append, pictures-got, pictures-sent, told-append}
use Rattle.node_runs.proofs.Sums.{merged-few, sum-at_most}
use Rattle.node_runs.specs.Net.{AreNodes, AreUnspoiled, HaveMet, journals_of, left_at, left_between, pictures}

-- ---- elements

pub at-map : {X Y : Type 0} (f : X → Y) (xs : List X) (k : ℕ) (x : X) (d : Y) → slice_get xs k ≡ Some x → slice_index_or (map f xs) k d ≡ f x
at-map f [] k x d at = let no : None ≡ Some x = at in absurd cc
at-map f (y ∷ ys) zero x d at = let is : Some y ≡ Some x = at in let same : y ≡ x = cc in ap f same
at-map f (y ∷ ys) (suc k) x d at = at-map f ys k x d at

pub past-map : {X Y : Type 0} (f : X → Y) (xs : List X) (k : ℕ) (d : Y) → length xs ≤ k → slice_index_or (map f xs) k d ≡ d
past-map f [] k d past = refl
past-map f (y ∷ ys) zero d past = absurd (omega (arith, past))
past-map f (y ∷ ys) (suc k) d past = past-map f ys k d (omega (arith, past))

pub all-get : {X : Type 0} (Q : X → Type 0) (xs : List X) (k : ℕ) (x : X) → slice_get xs k ≡ Some x → All Q xs → Q x
all-get Q xs k x at all = subst Q (get_or_from_slice_get xs k x x at) (All-get_or Q xs k x (slice_get_within xs k x at) all)

-- it is there, or past the end
pub data At {X : Type 0} (xs : List X) (k : ℕ) : Type 0 where
  Here : (x : X) → slice_get xs k ≡ Some x → k < length xs → At xs k
  Past : length xs ≤ k → At xs k

pub at-of : {X : Type 0} (xs : List X) (k : ℕ) → At xs k
at-of [] k = Past (omega arith)
at-of (x ∷ xs) zero = Here x refl (omega arith)
at-of (x ∷ xs) (suc k) = one (at-of xs k)
  where
    one : At xs k → At (x ∷ xs) (suc k)
    one (Here y at below) = Here y at (omega (arith, below))
    one (Past past) = Past (omega (arith, past))

-- ---- no letter is to a kernel that is not there

for-none : (n to : ℕ) (sent : List (ℕ × Packet)) → n ≤ to → GoWithin n sent → letters_for to sent ≡ []
for-none n to [] far all = refl
for-none n to (x ∷ xs) far all =
    let near : x.0 < n = (All-head (λ (y : ℕ × Packet). IsSentWithin n y.0 (what_picture y.1.what)) x xs all).0 in
    ap (λ b. (if b then letter.Packet x.1 ∷ [] else []) ++ letters_for to xs) (ne_eqb to x.0 (λ same. omega (arith, near, far, same)))
    ∙ for-none n to xs far (All-tail (λ (y : ℕ × Packet). IsSentWithin n y.0 (what_picture y.1.what)) x xs all)

pub outbox-none : (o : Outbox) (n to : ℕ) → n ≤ to → length o.waiting.items ≤ n → GoWithin n o.unsent.items → outbox_to o to ≡ []
outbox-none o n to far lists within =
    let long : length (map (λ list. list.items) o.waiting.items) ≤ to = omega (arith, far, lists, length-map o.waiting.items (λ list. list.items)) in
    ap (λ ls. ls ++ letters_for to o.unsent.items) (get_or_past (map (λ list. list.items) o.waiting.items) to [] long) ∙ for-none n to o.unsent.items far within

module _ {P S W : Type 0} (m : Meaning P S) (HasSeen : W → List Entry → Type 0) (s : Setting) (first : ℕ → List (Pid × P)) (made : ℕ → List LocalEvent) (ns : List (Node P W))
    (nodes : AreNodes m HasSeen s first made ns) where
  -- ---- what each node says of its run

  none-made : (k : ℕ) → length ns ≤ k → made k ≡ []
  none-made k past = nodes.none k (omega (arith, past, nodes.count))

  pub local-at : (k : ℕ) → IsLocalRun s k (start_kernel s k) (made k)
  local-at k = by (at-of ns k)
    where
      by : At ns k → IsLocalRun s k (start_kernel s k) (made k)
      by (Here n at below) = (nodes.each k n at).run.local
      by (Past past) = subst (IsLocalRun s k (start_kernel s k)) (sym (none-made k past)) tt

  pub entries-at : (k : ℕ) → slice_index_or (journals_of ns) k [] ≡ entries_of (start_kernel s k) (made k)
  entries-at k = by (at-of ns k)
    where
      by : At ns k → slice_index_or (journals_of ns) k [] ≡ entries_of (start_kernel s k) (made k)
      by (Here n at below) = at-map (λ (n : Node P W). n.base.journal.entries) ns k n [] at ∙ (nodes.each k n at).run.noted
      by (Past past) = past-map (λ (n : Node P W). n.base.journal.entries) ns k [] past ∙ ap (entries_of (start_kernel s k)) (sym (none-made k past))

  pub few-at : (k : ℕ) → length (slice_index_or (journals_of ns) k []) ≤ 100000
  few-at k = by (at-of ns k)
    where
      by : At ns k → length (slice_index_or (journals_of ns) k []) ≤ 100000
      by (Here n at below) =
          let is : slice_index_or (journals_of ns) k [] ≡ n.base.journal.entries = at-map (λ (n : Node P W). n.base.journal.entries) ns k n [] at in
          let few : length n.base.journal.entries ≤ n.base.used = nodes.few k n at in
          let node = nodes.each k n at in
          omega (arith, ap length is, few, node.limit, node.most)
      by (Past past) = omega (arith, ap length (past-map (λ (n : Node P W). n.base.journal.entries) ns k [] past))

  merged-entries : (merged : List Placed) → IsMerge (journals_of ns) merged → (k : ℕ) → of_kernel k merged ≡ entries_of (start_kernel s k) (made k)
  merged-entries merged merge k = merge.entries k ∙ entries-at k

  merged-at_most : (merged : List Placed) → IsMerge (journals_of ns) merged → length merged ≤ 2 ^ 31
  merged-at_most merged merge =
      let all : length merged ≤ sum_of s.kernels (λ k. length (of_kernel k merged)) = merged-few s.kernels merged (λ k far. merged-entries merged merge k ∙ ap (entries_of (start_kernel s k)) (nodes.none k far)) in
      let most : sum_of s.kernels (λ k. length (of_kernel k merged)) ≤ s.kernels * 100000 = sum-at_most s.kernels (λ k. length (of_kernel k merged)) (λ k below. subst (λ es. length es ≤ 100000) (sym (merge.entries k)) (few-at k)) in
      let eight : s.kernels ≤ 8 = nodes.valid.limits.kernels in
      omega (arith, all, most, eight)

  -- ---- what one took of another, and what is left, is what this one sent

  module _ (whole : AreUnspoiled ns) (met : HaveMet ns) where
    sent-at : (k : ℕ) (n : Node P W) → slice_get ns k ≡ Some n → HasSent s k (made k) n.base
    sent-at k n at = (nodes.each k n at).sent (all-get (λ (n : Node P W). n.spoiled ≡ false) ns k n at whole)

    taken-at : (k : ℕ) (n : Node P W) → slice_get ns k ≡ Some n → HasTaken (made k) n.base
    taken-at k n at = (nodes.each k n at).taken (all-get (λ (n : Node P W). n.spoiled ≡ false) ns k n at whole)

    both-fit : (from to : ℕ) (a b : Node P W) → slice_get ns from ≡ Some a → slice_get ns to ≡ Some b → takes_from from (made to) ++ left_between a b ≡ sends_to to (start_kernel s from) (made from)
    both-fit from to a b at_a at_b =
        ap (λ qs. qs ++ left_between a b) (sym got)
        ∙ sym (pictures-append (told (got_from b.base.port from)) (told (there ++ out)))
        ∙ ap pictures (sym (told-append (got_from b.base.port from) (there ++ out)))
        ∙ ap (λ ls. pictures (told ls)) (sym (append_assoc (got_from b.base.port from) there out))
        ∙ ap (λ ls. pictures (told (ls ++ out))) whole_put
        ∙ ap (λ k. pictures (told (put_to a.base.port to ++ outbox_to a.base.outbox k))) number_b
        ∙ put
      where
        there : List Letter
        there = there_of a.base.port b.base.port

        out : List Letter
        out = outbox_to a.base.outbox b.base.port.kernel

        number_a : a.base.port.kernel ≡ from
        number_a = (sent-at from a at_a).number

        number_b : b.base.port.kernel ≡ to
        number_b = (sent-at to b at_b).number

        got : pictures (told (got_from b.base.port from)) ≡ takes_from from (made to)
        got = ap pictures ((taken-at to b at_b).got from) ∙ pictures-got (marked_of b.base.course from) from (made to)

        put : pictures (told (put_to a.base.port to ++ outbox_to a.base.outbox to)) ≡ sends_to to (start_kernel s from) (made from)
        put = ap pictures ((sent-at from a at_a).put to) ∙ pictures-sent s.kernels a.base.course.begun to (start_kernel s from) (made from)

        whole_put : got_from b.base.port from ++ there ≡ put_to a.base.port to
        whole_put =
            ap (λ k. got_from b.base.port k ++ there) (sym number_a) ∙ (met from to a b at_a at_b).there ∙ ap (put_to a.base.port) number_b

    -- nothing is sent to a kernel that is not there
    sends-none : (from to : ℕ) (a : Node P W) → slice_get ns from ≡ Some a → length ns ≤ to → sends_to to (start_kernel s from) (made from) ≡ []
    sends-none from to a at past =
        sym (pictures-sent s.kernels a.base.course.begun to (start_kernel s from) (made from))
        ∙ ap pictures (sym (sent.put to))
        ∙ ap (λ ls. pictures (told (ls ++ outbox_to a.base.outbox to))) (past-map (λ (o : Outlet). o.put) a.base.port.out to [] (omega (arith, past, nodes.count, sent.kernels, rings)))
        ∙ ap (λ ls. pictures (told ls)) (outbox-none a.base.outbox (kernels_of (place_of a.base.port)) to (omega (arith, past, nodes.count, sent.kernels)) sent.fits.lists sent.fits.within)
      where
        sent : HasSent s from (made from) a.base
        sent = sent-at from a at

        rings : kernels_of (place_of a.base.port) ≡ length a.base.port.out
        rings = length-map a.base.port.out (λ (o : Outlet). o.ring)

    pub left-both : (from to : ℕ) (a b : Node P W) → slice_get ns from ≡ Some a → slice_get ns to ≡ Some b → left_at ns from to ≡ left_between a b
    left-both from to a b at_a at_b = at-map (λ (c : Node P W). slice_index_or (map (left_between c) ns) to []) ns from a [] at_a ∙ at-map (left_between a) ns to b [] at_b

    left-from : (from to : ℕ) → length ns ≤ from → left_at ns from to ≡ []
    left-from from to past = past-map (λ (c : Node P W). slice_index_or (map (left_between c) ns) to []) ns from [] past

    left-to : (from to : ℕ) (a : Node P W) → slice_get ns from ≡ Some a → length ns ≤ to → left_at ns from to ≡ []
    left-to from to a at past = at-map (λ (c : Node P W). slice_index_or (map (left_between c) ns) to []) ns from a [] at ∙ past-map (left_between a) ns to [] past

    all-fit : (from to : ℕ) → At ns from → At ns to → takes_from from (made to) ++ left_at ns from to ≡ sends_to to (start_kernel s from) (made from)
    all-fit from to (Here a at_a below) (Here b at_b there) = ap (λ qs. takes_from from (made to) ++ qs) (left-both from to a b at_a at_b) ∙ both-fit from to a b at_a at_b
    all-fit from to (Here a at_a below) (Past past) =
        ap (λ os. takes_from from os ++ left_at ns from to) (none-made to past) ∙ left-to from to a at_a past ∙ sym (sends-none from to a at_a past)
    all-fit from to (Past past) (Here b at_b below) =
        ap (λ qs. takes_from from (made to) ++ qs) (left-from from to past)
        ∙ append-nil (takes_from from (made to))
        ∙ takes-none s to (omega (arith, below, nodes.count)) from (made to) nodes.valid (omega (arith, past, nodes.count)) (local-at to)
        ∙ ap (sends_to to (start_kernel s from)) (sym (none-made from past))
    all-fit from to (Past past) (Past far) =
        ap (λ os. takes_from from os ++ left_at ns from to) (none-made to far) ∙ left-from from to past ∙ ap (sends_to to (start_kernel s from)) (sym (none-made from past))

    -- the nodes fit together
    pub nodes-fit : FitTogether s made (left_at ns)
    nodes-fit = record { each = local-at; packets = λ from to. all-fit from to (at-of ns from) (at-of ns to) }

    -- so their journals are those of one run, which leaves the packets between them under way
    pub nodes-are_one_run : (merged : List Placed) → IsMerge (journals_of ns) merged → IsOneRun s made (left_at ns) merged
    nodes-are_one_run merged merge = one_run s made (left_at ns) merged nodes-fit merge.order (merged-entries merged merge) (merged-at_most merged merge)

    -- which is lawful
    pub nodes-are_lawful : (merged : List Placed) → IsMerge (journals_of ns) merged → IsLawfulRecord s merged
    nodes-are_lawful merged merge =
        let is : IsOneRun s made (left_at ns) merged = nodes-are_one_run merged merge in
        record-is-lawful s is.events merged nodes.valid is.recorded
