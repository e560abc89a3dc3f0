-- The packets that stand in the lists after an event, by those before, the one that was taken and those that were sent.
use Rattle.std.proofs.Common.{◌≡◌, ℕ, Bool, true, false, nat_eq, if◌then◌else◌, ◌⊎◌, inl, inr, [], ◌∷◌, Contains, Option, None, Some, refl, sym, ap, subst, ◌∙◌, eqb-true, eq-eqb}
use Rattle.std.proofs.lemmas.List.Elements.{All-contains, Contains-append_left, Contains-append_right, Contains-append_cases}
use Rattle.charlotte_packets.specs.declared.picture.Picture.{Picture}
use Rattle.charlotte_packets.specs.declared.picture.PictureWhat.{PictureWhat}
use Rattle.theorem_meaning.specs.Packets.{Links, IsUnderWay, Each}
use Rattle.theorem_effects.specs.Change.{Change, Changes, taken_from, taken_at, sent_at}
use Rattle.theorem_effects.specs.Under.{IsTaken, IsLeft, IsSent}
use Rattle.theorem_effects.proofs.Lists.{none-there, only-there, first, All-there, going, going-sent, sent-going}

-- ---- what was taken and what was sent, list by list

-- the packet that was taken
pub taken-there : (c : Change) (from to : ℕ) (q : Picture) → Contains (taken_at c from to) q → (c.taken ≡ Some (from, q)) × (to ≡ c.kernel)
taken-there c from to q has = by (nat_eq to c.kernel) refl has
  where
    at : (t : Option (ℕ × Picture)) → Contains (taken_from t from) q → t ≡ Some (from, q)
    at None has = absurd (none-there q has)
    at (Some t) has = by (nat_eq from t.0) refl has
      where
        by : (b : Bool) → nat_eq from t.0 ≡ b → Contains (if b then t.1 ∷ [] else []) q → Some t ≡ Some (from, q)
        by true is has = ap (λ n. Some (n, t.1)) (sym (eqb-true from t.0 is)) ∙ ap (λ p. Some (from, p)) (only-there t.1 q has)
        by false is has = absurd (none-there q has)

    by : (b : Bool) → nat_eq to c.kernel ≡ b → Contains (if b then taken_from c.taken from else []) q → (c.taken ≡ Some (from, q)) × (to ≡ c.kernel)
    by true is has = (at c.taken has, eqb-true to c.kernel is)
    by false is has = absurd (none-there q has)

pub there-taken : (c : Change) (from : ℕ) (q : Picture) → c.taken ≡ Some (from, q) → Contains (taken_at c from c.kernel) q
there-taken c from q is =
    subst (λ b. Contains (if b then taken_from c.taken from else []) q) (sym (eq-eqb c.kernel c.kernel refl))
    (subst (λ t. Contains (taken_from t from) q) (sym is)
    (subst (λ b. Contains (if b then q ∷ [] else []) q) (sym (eq-eqb from from refl)) (first q [])))

-- a packet that was sent
pub sent-there : (c : Change) (from to : ℕ) (q : Picture) → Contains (sent_at c from to) q → Contains c.packets (to, q.what) × (from ≡ c.kernel)
sent-there c from to q has = by (nat_eq from c.kernel) refl has
  where
    by : (b : Bool) → nat_eq from c.kernel ≡ b → Contains (if b then going to c.stamp c.packets else []) q → Contains c.packets (to, q.what) × (from ≡ c.kernel)
    by true is has = (going-sent to c.stamp c.packets q has, eqb-true from c.kernel is)
    by false is has = absurd (none-there q has)

pub there-sent : (c : Change) (to : ℕ) (what : PictureWhat) → Contains c.packets (to, what) → Contains (sent_at c c.kernel to) (record { stamp = c.stamp; what = what })
there-sent c to what has =
    subst (λ b. Contains (if b then going to c.stamp c.packets else []) (record { stamp = c.stamp; what = what })) (sym (eq-eqb c.kernel c.kernel refl))
    (sent-going to c.stamp c.packets what has)

module _ {w u : Links} {c : Change} (b : Changes w c u) where
  -- ---- one list

  -- a packet that stands in a list was left there or was sent
  pub left_or_sent : (from to : ℕ) (q : Picture) → Contains (u.packets from to) q → Contains (b.left from to) q ⊎ (Contains c.packets (to, q.what) × (from ≡ c.kernel))
  left_or_sent from to q has = by (Contains-append_cases (b.left from to) (sent_at c from to) q (subst (λ l. Contains l q) (b.after from to) has))
    where
      by : Contains (b.left from to) q ⊎ Contains (sent_at c from to) q → Contains (b.left from to) q ⊎ (Contains c.packets (to, q.what) × (from ≡ c.kernel))
      by (inl has) = inl has
      by (inr has) = inr (sent-there c from to q has)

  -- one that was left stood there before
  pub left-before : (from to : ℕ) (q : Picture) → Contains (b.left from to) q → Contains (w.packets from to) q
  left-before from to q has = subst (λ l. Contains l q) (sym (b.before from to)) (Contains-append_right (taken_at c from to) (b.left from to) q has)

  pub left-after : (from to : ℕ) (q : Picture) → Contains (b.left from to) q → Contains (u.packets from to) q
  left-after from to q has = subst (λ l. Contains l q) (sym (b.after from to)) (Contains-append_left (b.left from to) (sent_at c from to) q has)

  -- one that stood in a list was left there or was taken
  pub left_or_taken : (from to : ℕ) (q : Picture) → Contains (w.packets from to) q → Contains (b.left from to) q ⊎ ((c.taken ≡ Some (from, q)) × (to ≡ c.kernel))
  left_or_taken from to q has = by (Contains-append_cases (taken_at c from to) (b.left from to) q (subst (λ l. Contains l q) (b.before from to) has))
    where
      by : Contains (taken_at c from to) q ⊎ Contains (b.left from to) q → Contains (b.left from to) q ⊎ ((c.taken ≡ Some (from, q)) × (to ≡ c.kernel))
      by (inl has) = inr (taken-there c from to q has)
      by (inr has) = inl has

  -- the packet that was taken stood in its list
  pub taken-before : (from : ℕ) (q : Picture) → c.taken ≡ Some (from, q) → Contains (w.packets from c.kernel) q
  taken-before from q is =
      subst (λ l. Contains l q) (sym (b.before from c.kernel)) (Contains-append_left (taken_at c from c.kernel) (b.left from c.kernel) q (there-taken c from q is))

  -- a packet that was sent stands in its list
  pub sent-after : (to : ℕ) (what : PictureWhat) → Contains c.packets (to, what) → Contains (u.packets c.kernel to) (record { stamp = c.stamp; what = what })
  sent-after to what has =
      subst (λ l. Contains l (record { stamp = c.stamp; what = what })) (sym (b.after c.kernel to))
      (Contains-append_right (b.left c.kernel to) (sent_at c c.kernel to) (record { stamp = c.stamp; what = what }) (there-sent c to what has))

  -- ---- whether a packet is under way

  module _ (P : PictureWhat → Type 0) where
    pub under_way-left : IsLeft b P → IsUnderWay u P
    under_way-left x = record { from = x.from; to = x.to; packet = x.packet; there = left-after x.from x.to x.packet x.there; is = x.is }

    pub under_way-sent : IsSent c P → IsUnderWay u P
    under_way-sent x = record { from = c.kernel; to = x.to; packet = record { stamp = c.stamp; what = x.what }; there = sent-after x.to x.what x.there; is = x.is }

    -- afterwards: one that was left, or one that was sent
    pub under_way-after : IsUnderWay u P → IsLeft b P ⊎ IsSent c P
    under_way-after x = by (left_or_sent x.from x.to x.packet x.there)
      where
        by : Contains (b.left x.from x.to) x.packet ⊎ (Contains c.packets (x.to, x.packet.what) × (x.from ≡ c.kernel)) → IsLeft b P ⊎ IsSent c P
        by (inl has) = inl (record { from = x.from; to = x.to; packet = x.packet; there = has; is = x.is })
        by (inr has) = inr (record { to = x.to; what = x.packet.what; there = has.0; is = x.is })

    -- before: one that was left, or the one that was taken
    pub under_way-before : IsUnderWay w P → IsLeft b P ⊎ IsTaken c P
    under_way-before x = by (left_or_taken x.from x.to x.packet x.there)
      where
        by : Contains (b.left x.from x.to) x.packet ⊎ ((c.taken ≡ Some (x.from, x.packet)) × (x.to ≡ c.kernel)) → IsLeft b P ⊎ IsTaken c P
        by (inl has) = inl (record { from = x.from; to = x.to; packet = x.packet; there = has; is = x.is })
        by (inr has) = inr (record { from = x.from; packet = x.packet; taken = has.0; is = x.is })

    pub left-was : IsLeft b P → IsUnderWay w P
    left-was x = record { from = x.from; to = x.to; packet = x.packet; there = left-before x.from x.to x.packet x.there; is = x.is }

    pub taken-was : IsTaken c P → IsUnderWay w P
    taken-was x = record { from = x.from; to = c.kernel; packet = x.packet; there = taken-before x.from x.packet x.taken; is = x.is }

    -- where no such packet was sent, one that is under way was so before
    pub under_way-was : (IsSent c P → ⊥) → IsUnderWay u P → IsUnderWay w P
    under_way-was none x = by (under_way-after x)
      where
        by : IsLeft b P ⊎ IsSent c P → IsUnderWay w P
        by (inl left) = left-was left
        by (inr sent) = absurd (none sent)

    -- where no such packet was taken, one that was under way is so still
    pub under_way-still : (IsTaken c P → ⊥) → IsUnderWay w P → IsUnderWay u P
    under_way-still none x = by (under_way-before x)
      where
        by : IsLeft b P ⊎ IsTaken c P → IsUnderWay u P
        by (inl left) = under_way-left left
        by (inr taken) = absurd (none taken)

  -- ---- what is true of each packet

  -- it is so afterwards of those that were left and of those that were sent
  pub each-after : (P Q : ℕ → ℕ → PictureWhat → Type 0) → Each w P
      → ((from to : ℕ) (q : Picture) → Contains (b.left from to) q → P from to q.what → Q from to q.what)
      → ((to : ℕ) (what : PictureWhat) → Contains c.packets (to, what) → Q c.kernel to what)
      → Each u Q
  each-after P Q each left sent from to = All-there (λ q. Q from to q.what) (u.packets from to) (λ q has. by q (left_or_sent from to q has))
    where
      by : (q : Picture) → Contains (b.left from to) q ⊎ (Contains c.packets (to, q.what) × (from ≡ c.kernel)) → Q from to q.what
      by q (inl has) = left from to q has (All-contains (λ q. P from to q.what) (w.packets from to) q (each from to) (left-before from to q has))
      by q (inr has) = subst (λ k. Q k to q.what) (sym has.1) (sent to q.what has.0)
