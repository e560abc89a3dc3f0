-- Packets that go behind others.
use Rattle.std.proofs.Common.{◌≡◌, ℕ, ◌+◌, ◌-◌, ◌≤◌, List, ◌++◌, length, map, take, drop, sym, ap, ◌∙◌, arith}
use Rattle.std.proofs.lemmas.List.{drop-take, take-take, take-map, drop-map, map-append}
use Rattle.std.proofs.Math.Seq.{drop-append_seam, take-append_seam, drop-append-add}
use Rattle.charlotte_calls.specs.declared.names.EndId.{EndId}
use Rattle.charlotte_packets.specs.declared.work.Work.{Work}
use Rattle.end_table.specs.declared.entry.Entry.{Entry}
use Rattle.kernel_event.specs.Order.{moved_behind, put_behind}
use Rattle.kernel_step.specs.Progress.{progress, sent_picture}

-- what a rotation of the items before a place makes of their pictures
pub behind-map : {X Y : Type 0} (f : X → Y) (first upto : ℕ) (xs : List X) → first ≤ upto → map f ((drop first (take upto xs) ++ take first (take upto xs)) ++ drop upto xs) ≡ moved_behind first upto (map f xs)
behind-map f first upto xs within =
    map-append f (drop first (take upto xs) ++ take first (take upto xs)) (drop upto xs)
    ∙ ap (λ ys. ys ++ map f (drop upto xs)) (map-append f (drop first (take upto xs)) (take first (take upto xs)))
    ∙ ap (λ ys. (map f ys ++ map f (take first (take upto xs))) ++ map f (drop upto xs)) middle
    ∙ ap (λ ys. (map f (take (upto - first) (drop first xs)) ++ map f ys) ++ map f (drop upto xs)) (take-take first upto xs within)
    ∙ ap (λ ys. (ys ++ map f (take first xs)) ++ map f (drop upto xs)) (sym (take-map f (upto - first) (drop first xs)) ∙ ap (take (upto - first)) (sym (drop-map f first xs)))
    ∙ ap (λ ys. (take (upto - first) (drop first (map f xs)) ++ ys) ++ map f (drop upto xs)) (sym (take-map f first xs))
    ∙ ap (λ ys. (take (upto - first) (drop first (map f xs)) ++ take first (map f xs)) ++ ys) (sym (drop-map f upto xs))
  where
    middle : drop first (take upto xs) ≡ take (upto - first) (drop first xs)
    middle = ap (λ n. drop first (take n xs)) (omega (arith, within)) ∙ drop-take first (upto - first) xs

-- the same of the packets of an event
pub progress-behind : (t : EndId → Entry) (old new : Work) (first upto : ℕ) → first ≤ upto → new.stamp ≡ old.stamp → new.reports ≡ old.reports → new.answers ≡ old.answers → new.steps ≡ old.steps
    → new.packets.items ≡ (drop first (take upto old.packets.items) ++ take first (take upto old.packets.items)) ++ drop upto old.packets.items → progress t new ≡ put_behind first upto (progress t old)
unfolding progress put_behind
progress-behind t old new first upto within stamp reports answers steps packets = λ i. record {
  table = t;
  stamp = stamp i;
  packets = (ap (map sent_picture) packets ∙ behind-map sent_picture first upto old.packets.items within) i;
  reports = (reports i).items;
  answers = (answers i).items;
  steps = (steps i).items;
}

-- the packets of which the first ones, then others and then more were sent, in the order in which they are due
pub behind-parts : {X : Type 0} (first others more : List X) → moved_behind (length first) (length first + length others) (first ++ (others ++ more)) ≡ (others ++ first) ++ more
behind-parts {X} first others more =
    ap (λ l. (take (length first + length others - length first) l ++ take (length first) all) ++ drop (length first + length others) all) (drop-append_seam first (others ++ more))
    ∙ ap (λ n. (take n (others ++ more) ++ take (length first) all) ++ drop (length first + length others) all) (omega arith)
    ∙ ap (λ l. (l ++ take (length first) all) ++ drop (length first + length others) all) (take-append_seam others more)
    ∙ ap (λ l. (others ++ l) ++ drop (length first + length others) all) (take-append_seam first (others ++ more))
    ∙ ap (λ l. (others ++ first) ++ l) (drop-append-add first (others ++ more) (length others) ∙ drop-append_seam others more)
  where
    all : List X
    all = first ++ (others ++ more)
