-- After an event: where a packet stands, which chains lead on, and which packets are on the track of an end.
use Rattle.std.proofs.Common.{◌≡◌, ℕ, zero, suc, ◌<◌, ◌≤◌, Bool, true, false, nat_eq, if◌then◌else◌, ◌⊎◌, inl, inr, List, [], ◌∷◌, ◌++◌, Contains, Option, Some, None, refl, sym, ap, subst, ◌∙◌, arith, append_assoc}
use Rattle.std.proofs.lemmas.List.Elements.{Contains-append_left}
use Rattle.charlotte_calls.specs.declared.names.EndId.{EndId}
use Rattle.charlotte_packets.specs.declared.picture.Picture.{Picture}
use Rattle.charlotte_packets.specs.declared.picture.PictureWhat.{PictureWhat}
use Rattle.end_table.specs.declared.entry.Entry.{Entry}
use Rattle.end_table.specs.declared.entry.Entry.TheVariants as entry
use Rattle.theorem_effects.proofs.Lists.{first, first_or_later, none-there}
use Rattle.theorem_effects.proofs.Packets.{left-after, left_or_taken, sent-after, taken-there, there-sent}
use Rattle.theorem_effects.specs.Change.{Change, Changes, sent_at, taken_at, taken_from}
use Rattle.theorem_effects.specs.Under.{IsTaken}
use Rattle.theorem_effects.specs.Packets.{Links}
use Rattle.theorem_effects.specs.StandsFor.{entry_at}
use Rattle.trace_events.specs.Leading.{IsLeading}
use Rattle.trace_meaning.proofs.Chains.{chain-fewer, chain-flying, chain-here, chain-mark, chain-on as chain-further}
use Rattle.trace_meaning.specs.Words.{HasChain, IsChain, IsFlying, IsGoingTo, IsOnTrack, LeadsOn}

-- ---- lists

-- an element of a list, with those before it and those behind it
record IsPlaced {X : Type 0} (xs : List X) (y : X) : Type 0 where
  before : List X
  later : List X
  stands : xs ≡ before ++ y ∷ later

place-of : {X : Type 0} (xs : List X) (y : X) → Contains xs y → IsPlaced xs y
place-of [] y (k, within, at) = absurd (omega arith)
place-of (x ∷ xs) y has = by (first_or_later x xs y has) (place-of xs y)
  where
    by : (x ≡ y) ⊎ Contains xs y → (Contains xs y → IsPlaced xs y) → IsPlaced (x ∷ xs) y
    by (inl is) rest = record { before = []; later = xs; stands = ap (λ z. z ∷ xs) is }
    by (inr there) rest = let p = rest there in record { before = x ∷ p.before; later = p.later; stands = ap (λ l. x ∷ l) p.stands }

module _ {w u : Links} {c : Change} (b : Changes w c u) where
  -- ---- where a packet stands

  -- at most one packet is taken of a list
  taken-one : (from to : ℕ) → (taken_at c from to ≡ []) ⊎ ((p : Picture) × (taken_at c from to ≡ p ∷ []))
  taken-one from to = by (nat_eq to c.kernel) c.taken
    where
      by : (a : Bool) (t : Option (ℕ × Picture)) → ((if a then taken_from t from else []) ≡ []) ⊎ ((p : Picture) × ((if a then taken_from t from else []) ≡ p ∷ []))
      by false t = inl refl
      by true None = inl refl
      by true (Some t) = at (nat_eq from t.0)
        where
          at : (a : Bool) → ((if a then t.1 ∷ [] else []) ≡ []) ⊎ ((p : Picture) × ((if a then t.1 ∷ [] else []) ≡ p ∷ []))
          at true = inr (t.1, refl)
          at false = inl refl

  -- a packet was taken, as the first of its list
  pub record IsFirst (from to : ℕ) (q : Picture) (before : List Picture) : Type 0 where
    pub taken : c.taken ≡ Some (from, q)
    pub at : to ≡ c.kernel
    pub none : before ≡ []

  -- or it stands where it stood, and before it all that stood there and was not taken
  pub record IsStill (from to : ℕ) (q : Picture) (before : List Picture) : Type 0 where
    pub ahead : List Picture
    pub later : List Picture
    pub stands : u.packets from to ≡ ahead ++ q ∷ later
    pub were : (p : Picture) → Contains before p → Contains ahead p ⊎ ((c.taken ≡ Some (from, p)) × (to ≡ c.kernel))

  pub stands-after : (from to : ℕ) (q : Picture) (before later : List Picture) → w.packets from to ≡ before ++ q ∷ later → IsFirst from to q before ⊎ IsStill from to q before
  stands-after from to q before later is = by (taken-one from to)
    where
      sent : List Picture
      sent = sent_at c from to

      -- those that were left, and those that were sent
      now : (ahead behind : List Picture) → b.left from to ≡ ahead ++ q ∷ behind → u.packets from to ≡ ahead ++ q ∷ (behind ++ sent)
      now ahead behind left = b.after from to ∙ ap (λ l. l ++ sent) left ∙ append_assoc ahead (q ∷ behind) sent

      front : (p : Picture) (before : List Picture) → taken_at c from to ≡ p ∷ [] → p ∷ b.left from to ≡ before ++ q ∷ later → IsFirst from to q before ⊎ IsStill from to q before
      front p [] one same =
          let its : p ≡ q = (cc) in
          let taken = taken-there c from to q (subst (λ l. Contains l q) (sym one) (subst (λ z. Contains (z ∷ []) q) (sym its) (first q []))) in
          inl (record { taken = taken.0; at = taken.1; none = refl })
      front p (x ∷ ahead) one same =
          let its : p ≡ x = (cc) in
          let left : b.left from to ≡ ahead ++ q ∷ later = (cc) in
          inr (record { ahead = ahead; later = later ++ sent; stands = now ahead later left; were = λ r has. were its r (first_or_later x ahead r has) })
        where
          were : p ≡ x → (r : Picture) → (x ≡ r) ⊎ Contains ahead r → Contains ahead r ⊎ ((c.taken ≡ Some (from, r)) × (to ≡ c.kernel))
          were its r (inr has) = inl has
          were its r (inl same) = inr (taken-there c from to r (subst (λ l. Contains l r) (sym one) (subst (λ z. Contains (z ∷ []) r) (sym (its ∙ same)) (first r []))))

      by : (taken_at c from to ≡ []) ⊎ ((p : Picture) × (taken_at c from to ≡ p ∷ [])) → IsFirst from to q before ⊎ IsStill from to q before
      by (inl none) =
          inr (record { ahead = before; later = later ++ sent; stands = now before later (sym (ap (λ l. l ++ b.left from to) none) ∙ sym (b.before from to) ∙ is); were = λ r has. inl has })
      by (inr (p, one)) = front p before one (sym (ap (λ l. l ++ b.left from to) one) ∙ sym (b.before from to) ∙ is)

  -- a packet that goes to a kernel goes there still, or was taken
  pub going-after : (to : ℕ) (P : PictureWhat → Type 0) → IsGoingTo w to P → IsGoingTo u to P ⊎ (IsTaken c P × (to ≡ c.kernel))
  going-after to P g = by (left_or_taken b g.from to g.packet g.there)
    where
      by : Contains (b.left g.from to) g.packet ⊎ ((c.taken ≡ Some (g.from, g.packet)) × (to ≡ c.kernel)) → IsGoingTo u to P ⊎ (IsTaken c P × (to ≡ c.kernel))
      by (inl has) = inl (record { from = g.from; packet = g.packet; there = left-after b g.from to g.packet has; is = g.is })
      by (inr taken) = inr (record { from = g.from; packet = g.packet; taken = taken.0; is = g.is }, taken.1)

  pub going-sent : (to : ℕ) (what : PictureWhat) (P : PictureWhat → Type 0) → Contains c.packets (to, what) → P what → IsGoingTo u to P
  going-sent to what P has is = record { from = c.kernel; packet = record { stamp = c.stamp; what = what }; there = sent-after b to what has; is = is }

  -- ---- a packet that was sent is on the track of an end

  pub track-sent : (x : EndId) (h to : ℕ) (what : PictureWhat) (P : PictureWhat → Type 0) → Contains c.packets (to, what) → P what → HasChain u x to h → IsOnTrack u x h P
  track-sent x h to what P has is chain =
      let p = place-of (u.packets c.kernel to) (record { stamp = c.stamp; what = what }) (sent-after b to what has) in
      record { from = c.kernel; to = to; packet = record { stamp = c.stamp; what = what }; before = p.before; later = p.later; stands = p.stands; is = is; leads = inr chain }

  -- also where the end is before it
  pub track-behind : (x : EndId) (h to : ℕ) (what : PictureWhat) (P : PictureWhat → Type 0) → Contains c.packets (to, what) → P what → IsFlying (b.left c.kernel to) x (λ i. h < i) → IsOnTrack u x h P
  track-behind x h to what P has is f =
      let p = place-of (sent_at c c.kernel to) (record { stamp = c.stamp; what = what }) (there-sent c to what has) in
      record {
        from = c.kernel;
        to = to;
        packet = record { stamp = c.stamp; what = what };
        before = b.left c.kernel to ++ p.before;
        later = p.later;
        stands = b.after c.kernel to ∙ ap (λ l. b.left c.kernel to ++ l) p.stands ∙ sym (append_assoc (b.left c.kernel to) p.before (record { stamp = c.stamp; what = what } ∷ p.later));
        is = is;
        leads = inl (record { packet = f.packet; value = f.value; there = Contains-append_left (b.left c.kernel to) p.before f.packet f.there; inside = f.inside; its = f.its; hops = f.hops });
      }

-- ---- chains

-- what leads on leads on where those that go further do
lead-map : (w : Links) (x : EndId) (k h : ℕ) (next after : ℕ → ℕ → Type 0) → ((j g : ℕ) → h < g → next j g → after j g) → (y : Entry) → LeadsOn w x k next h y → LeadsOn w x k after h y
lead-map w x k h next after on entry.Nothing is = is
lead-map w x k h next after on (entry.Here v) is = is
lead-map w x k h next after on (entry.Destroyed m) is = is
lead-map w x k h next after on (entry.Left to g) is = (is.0, by is.1)
  where
    by : IsFlying (w.packets k to) x (λ i. i ≡ g) ⊎ next to g → IsFlying (w.packets k to) x (λ i. i ≡ g) ⊎ after to g
    by (inl flies) = inl flies
    by (inr further) = inr (on to g is.0 further)

module _ {w u : Links} {c : Change} (b : Changes w c u) (x : EndId) (least : ℕ) (l : IsLeading w u c x least) where
  -- where its value was in a list, it is in it still, or a chain leads on from there
  pub flies-on : (from to : ℕ) (P : ℕ → Type 0) → IsFlying (w.packets from to) x P → IsFlying (u.packets from to) x P ⊎ ((i : ℕ) × P i × HasChain u x to i)
  flies-on from to P f = by (left_or_taken b from to f.packet f.there)
    where
      by : Contains (b.left from to) f.packet ⊎ ((c.taken ≡ Some (from, f.packet)) × (to ≡ c.kernel)) → IsFlying (u.packets from to) x P ⊎ ((i : ℕ) × P i × HasChain u x to i)
      by (inl has) = inl (record { packet = f.packet; value = f.value; there = left-after b from to f.packet has; inside = f.inside; its = f.its; hops = f.hops })
      by (inr taken) = inr (f.value.hops, f.hops, subst (λ k. HasChain u x k f.value.hops) (sym taken.1) (l.lands from f.packet f.value taken.0 f.inside f.its))

  -- an entry that stays leads on
  stays-on : (k h : ℕ) (y : Entry) → entry_at u k x ≡ y → LeadsOn w x k (HasChain u x) h y → HasChain u x k h
  stays-on k h entry.Nothing at is = absurd is
  stays-on k h (entry.Here v) at is = chain-here u x k h v at is
  stays-on k h (entry.Destroyed m) at is = chain-mark u x k h m at is
  stays-on k h (entry.Left to g) at is = by is.1
    where
      by : IsFlying (w.packets k to) x (λ i. i ≡ g) ⊎ HasChain u x to g → HasChain u x k h
      by (inr chain) = chain-further u x k h to g at is.0 chain
      by (inl flies) = flown (flies-on k to (λ i. i ≡ g) flies)
        where
          flown : IsFlying (u.packets k to) x (λ i. i ≡ g) ⊎ ((i : ℕ) × (i ≡ g) × HasChain u x to i) → HasChain u x k h
          flown (inl still) = chain-flying u x k h to g at is.0 still
          flown (inr (i, same, chain)) = chain-further u x k h to g at is.0 (subst (HasChain u x to) same chain)

  -- so does each entry, where those that go further lead on
  entry-on : (k h : ℕ) → least ≤ h → LeadsOn w x k (HasChain u x) h (entry_at w k x) → HasChain u x k h
  entry-on k h le led = by (l.entry k h le led)
    where
      by : (entry_at u k x ≡ entry_at w k x) ⊎ HasChain u x k h → HasChain u x k h
      by (inl same) = stays-on k h (entry_at w k x) same led
      by (inr chain) = chain

  chain-at : (most k h : ℕ) → least ≤ h → IsChain most w x k h → HasChain u x k h
  chain-at zero k h le is = absurd is
  chain-at (suc most) k h le is =
      entry-on k h le
      (lead-map w x k h (IsChain most w x) (HasChain u x) (λ j g above on. chain-at most j g (let up : h < g = above in omega (arith, le, up)) on) (entry_at w k x) is)

  -- chains lead on
  pub chain-on : (k h : ℕ) → least ≤ h → HasChain w x k h → HasChain u x k h
  chain-on k h le chain = chain-at chain.0 k h le chain.1

  -- a packet that was on the track is so still, or it was taken where a chain leads on
  pub track-after : (h : ℕ) (P : PictureWhat → Type 0) → least ≤ h → IsOnTrack w x h P → IsOnTrack u x h P ⊎ (IsTaken c P × HasChain u x c.kernel h)
  track-after h P le o = by (stands-after b o.from o.to o.packet o.before o.later o.stands)
    where
      none-before : (before : List Picture) → before ≡ [] → IsFlying before x (λ i. h < i) → ⊥
      none-before before none f = none-there f.packet (subst (λ qs. Contains qs f.packet) none f.there)

      by : IsFirst b o.from o.to o.packet o.before ⊎ IsStill b o.from o.to o.packet o.before → IsOnTrack u x h P ⊎ (IsTaken c P × HasChain u x c.kernel h)
      by (inl f) = inr (record { from = o.from; packet = o.packet; taken = f.taken; is = o.is }, leads o.leads)
        where
          leads : IsFlying o.before x (λ i. h < i) ⊎ HasChain w x o.to h → HasChain u x c.kernel h
          leads (inl flies) = absurd (none-before o.before f.none flies)
          leads (inr chain) = chain-on c.kernel h le (subst (λ k. HasChain w x k h) f.at chain)
      by (inr s) = inl (record { from = o.from; to = o.to; packet = o.packet; before = s.ahead; later = s.later; stands = s.stands; is = o.is; leads = leads o.leads })
        where
          leads : IsFlying o.before x (λ i. h < i) ⊎ HasChain w x o.to h → IsFlying s.ahead x (λ i. h < i) ⊎ HasChain u x o.to h
          leads (inr chain) = inr (chain-on o.to h le chain)
          leads (inl flies) = flown (s.were flies.packet flies.there)
            where
              flown : Contains s.ahead flies.packet ⊎ ((c.taken ≡ Some (o.from, flies.packet)) × (o.to ≡ c.kernel)) → IsFlying s.ahead x (λ i. h < i) ⊎ HasChain u x o.to h
              flown (inl has) = inl (record { packet = flies.packet; value = flies.value; there = has; inside = flies.inside; its = flies.its; hops = flies.hops })
              flown (inr taken) =
                  let fewer : h < flies.value.hops = flies.hops in
                  inr (subst (λ k. HasChain u x k h) (sym taken.1) (chain-fewer u x c.kernel flies.value.hops h (omega arith) (l.lands o.from flies.packet flies.value taken.0 flies.inside flies.its)))
