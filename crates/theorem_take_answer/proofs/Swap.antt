-- Which packets are under way, and how many, where an answer is replaced by its news.
use Rattle.std.proofs.Common.{◌≡◌, ◌⊎◌, inl, inr, ℕ, ◌+◌, ◌<◌, Bool, true, false, nat_eq, if◌then◌else◌, List, [], ◌++◌, Contains, IfSome, Option, Some, refl, sym, ap, subst, ◌∙◌, arith, append-nil, eq-eqb}
use Rattle.std.proofs.lemmas.List.Elements.{All-contains, Contains-append_cases, Contains-append_right}
use Rattle.charlotte_calls.specs.declared.names.EndId.{EndId}
use Rattle.charlotte_packets.specs.declared.picture.Picture.{Picture}
use Rattle.charlotte_packets.specs.declared.picture.PictureWhat.{PictureWhat}
use Rattle.end_table.specs.declared.entry.Entry.{Entry}
use Rattle.theorem_take_silent.proofs.Lists.{All-there}
use Rattle.theorem_take_silent.proofs.Packets.{left-before, left-was, taken-there, under_way-before}
use Rattle.theorem_take_silent.proofs.Sums.{sum_over-after}
use Rattle.theorem_take_silent.specs.Change.{Change, Changes, sent_at, taken_at}
use Rattle.theorem_take_silent.specs.Sums.{sum_taken}
use Rattle.theorem_take_silent.specs.Under.{IsLeft, IsTaken}
use Rattle.theorem_meaning.specs.Packets.{Each, IsUnderWay, Links, sum_over}
use Rattle.theorem_take_silent.proofs.Alike.{some-same}
use Rattle.theorem_take_answer.specs.Swapped.{instead, swapped}

none-either : {X : Type 0} (b : Bool) (xs : List X) → xs ≡ [] → (if b then xs else []) ≡ []
none-either true xs none = none
none-either false xs none = refl

module _ {w v : Links} {c : Change} (b : Changes w c v) (from : ℕ) (q p : Picture) (taken : c.taken ≡ Some (from, q)) (y : EndId → Entry) where
  abbrev x : Links
  x = swapped b from p y

  module _ (P : PictureWhat → Type 0) where
    pub left-there : IsLeft b P → IsUnderWay x P
    left-there l = record { from = l.from; to = l.to; packet = l.packet; there = Contains-append_right (taken_at (instead c from p) l.from l.to) (b.left l.from l.to) l.packet l.there; is = l.is }

    -- a packet that is under way: it was left, or is the new one
    pub swapped-after : IsUnderWay x P → IsLeft b P ⊎ P p.what
    swapped-after z = by (Contains-append_cases (taken_at (instead c from p) z.from z.to) (b.left z.from z.to) z.packet z.there)
      where
        new : (instead c from p).taken ≡ Some (z.from, z.packet) → P p.what
        new same = subst (λ (r : Picture). P r.what) (sym (ap (λ (s : ℕ × Picture). s.1) (some-same {X = ℕ × Picture} (from, p) (z.from, z.packet) same))) z.is

        by : Contains (taken_at (instead c from p) z.from z.to) z.packet ⊎ Contains (b.left z.from z.to) z.packet → IsLeft b P ⊎ P p.what
        by (inl has) = inr (new (taken-there (instead c from p) z.from z.to z.packet has).0)
        by (inr has) = inl (record { from = z.from; to = z.to; packet = z.packet; there = has; is = z.is })

    pub swapped-was : (P p.what → ⊥) → IsUnderWay x P → IsUnderWay w P
    swapped-was none z = by (swapped-after z)
      where
        by : IsLeft b P ⊎ P p.what → IsUnderWay w P
        by (inl left) = left-was b P left
        by (inr new) = absurd (none new)

    pub swapped-still : (P q.what → ⊥) → IsUnderWay w P → IsUnderWay x P
    swapped-still none z = by (under_way-before b P z)
      where
        old : (t : IsTaken c P) → P q.what
        old t = subst (λ (r : Picture). P r.what) (sym (ap (λ (s : ℕ × Picture). s.1) (some-same {X = ℕ × Picture} (from, q) (t.from, t.packet) (sym taken ∙ t.taken)))) t.is

        by : IsLeft b P ⊎ IsTaken c P → IsUnderWay x P
        by (inl left) = left-there left
        by (inr t) = absurd (none (old t))

  -- what is true of each packet
  pub swapped-each : (P Q : ℕ → ℕ → PictureWhat → Type 0) → Each w P → ((i j : ℕ) (r : Picture) → Contains (b.left i j) r → P i j r.what → Q i j r.what) → Q from c.kernel p.what → Each x Q
  swapped-each P Q each left new i j = All-there (λ r. Q i j r.what) (x.packets i j) (λ r has. by r (Contains-append_cases (taken_at (instead c from p) i j) (b.left i j) r has))
    where
      at : (r : Picture) → (instead c from p).taken ≡ Some (i, r) → j ≡ c.kernel → Q i j r.what
      at r same to =
          let pair = some-same {X = ℕ × Picture} (from, p) (i, r) same in
          subst (λ k. Q i k r.what) (sym to) (subst (λ (s : ℕ × Picture). Q s.0 c.kernel s.1.what) pair new)

      by : (r : Picture) → Contains (taken_at (instead c from p) i j) r ⊎ Contains (b.left i j) r → Q i j r.what
      by r (inl has) = let t = taken-there (instead c from p) i j r has in at r t.0 t.1
      by r (inr has) = left i j r has (All-contains (λ r. P i j r.what) (w.packets i j) r (each i j) (left-before b i j r has))

  -- ---- how many

  -- the links without either
  abbrev without : Links
  without = record { entry = w.entry; packets = b.left }

  abbrev loses : Change
  loses = record c { entry = λ e z. z; packets = [] }

  unsent : (i j : ℕ) → b.left i j ≡ b.left i j ++ sent_at loses i j
  unsent i j = sym (ap (λ l. b.left i j ++ l) (none-either (nat_eq i c.kernel) [] refl) ∙ append-nil (b.left i j))

  lost : Changes w loses without
  lost = record { entry = λ e. refl; others = λ j e apart. refl; left = b.left; before = b.before; after = unsent }

  abbrev loses_new : Change
  loses_new = record c { entry = λ e z. w.entry c.kernel e; packets = []; taken = Some (from, p) }

  lost_new : Changes x loses_new without
  lost_new = record { entry = λ e. refl; others = λ j e apart. sym (ap (λ a. if a then y e else w.entry j e) apart); left = b.left; before = λ i j. refl; after = unsent }

  pub swapped-sum : (f : PictureWhat → ℕ) → c.kernel < 8 → from < 8 → sum_over f x + f q.what ≡ sum_over f w + f p.what
  swapped-sum f below few =
      let old = sum_over-after f lost (record { kernel = below; taken = subst (λ (t : Option (ℕ × Picture)). IfSome t (λ t. t.0 < 8)) (sym taken) few; sent = tt }) in
      let new = sum_over-after f lost_new (record { kernel = below; taken = few; sent = tt }) in
      let one : sum_taken f c.taken ≡ f q.what = ap (sum_taken f) taken in
      omega (arith, old, new, one)

  -- ---- the links before the event so changed become those after it

  own-entry : (e : EndId) → x.entry c.kernel e ≡ y e
  own-entry e = ap (λ a. if a then y e else w.entry c.kernel e) (eq-eqb c.kernel c.kernel refl)

  pub swapped-changes : (f : EndId → Entry → Entry) → ((e : EndId) → v.entry c.kernel e ≡ f e (y e)) → Changes x (record c { taken = Some (from, p); entry = f }) v
  swapped-changes f same =
      record {
        entry = λ e. same e ∙ ap (f e) (sym (own-entry e));
        others = λ j e apart. b.others j e apart ∙ sym (ap (λ a. if a then y e else w.entry j e) apart);
        left = b.left;
        before = λ i j. refl;
        after = b.after;
      }
