-- A back without ends is taken at its send, which is over: all clauses on links are true then.
use Rattle.std.proofs.Common.{◌≡◌, ◌≢◌, ◌⊎◌, ◌↔◌, inl, inr, ℕ, ◌+◌, ◌<◌, ◌≤◌, Bool, true, false, nat_eq, if◌then◌else◌, [], length, Contains, IfSome, Option, Some, is_some, refl, sym, ap, subst, ◌∙◌, arith, true≢false}
use Rattle.std.proofs.lemmas.Bool.Decides.{eqb_tells}
use Rattle.std.proofs.lemmas.List.Elements.{All-contains}
use Rattle.charlotte_calls.specs.Names.{opposite}
use Rattle.charlotte_packets.specs.Packets.{is_addressed}
use Rattle.charlotte_calls.specs.declared.names.EndId.{EndId}
use Rattle.charlotte_calls.specs.declared.names.Pid.{Pid}
use Rattle.charlotte_packets.specs.declared.picture.MovingPicture.{MovingPicture}
use Rattle.charlotte_packets.specs.declared.picture.Picture.{Picture}
use Rattle.charlotte_packets.specs.declared.picture.PictureWhat.{PictureWhat}
use Rattle.charlotte_packets.specs.declared.picture.PictureWhat.TheVariants as packet
use Rattle.end_table.proofs.EndEq.{end_eq-refl, end_eq-same, end_eq-sym}
use Rattle.end_table.specs.Place.{end_eq}
use Rattle.end_table.specs.Table.{IsHereAnd}
use Rattle.end_table.specs.declared.entry.Entry.{Entry}
use Rattle.end_table.specs.declared.entry.Entry.TheVariants as entry
use Rattle.end_table.specs.declared.entry.HereView.{HereView}
use Rattle.end_table.specs.declared.entry.Holder.{Holder}
use Rattle.end_table.specs.declared.entry.Holder.TheVariants as holder
use Rattle.end_table.specs.declared.entry.Inward.TheVariants as kernel_inward
use Rattle.kernel_sound.specs.Sound.{addressee}
use Rattle.kernel_step.specs.Actions.{here, is_withdrawing}
use Rattle.kernel_step.specs.Rows.{ends_in, is_here}
use Rattle.service_lawful.specs.Consistent.{is_open}
use Rattle.service_step.specs.Ends.{is_living, is_made, is_posted, is_taken, matched_message}
use Rattle.service_step.specs.State.{Process, State}
use Rattle.service_step.specs.declared.state.End.{End}
use Rattle.service_step.specs.declared.state.Outward.TheVariants as outward
use Rattle.service_step.specs.declared.state.Place.TheVariants as place
use Rattle.theorem_take_want.proofs.Allowed.{named-between, sum_over-least}
use Rattle.theorem_take_want.proofs.Ends.{inward-same, outward-same}
use Rattle.theorem_take_want.proofs.Lists.{none-there}
use Rattle.theorem_take_want.proofs.Packets.{each-after, left-after, left-before, left_or_sent, taken-before, under_way-still, under_way-was}
use Rattle.theorem_take_want.proofs.Sums.{sum_over-after}
use Rattle.theorem_take_want.specs.Change.{Change, Changes}
use Rattle.theorem_take_want.specs.Sums.{sum_taken}
use Rattle.theorem_meaning.proofs.Ends.{opposite-twice}
use Rattle.theorem_meaning.proofs.Sums.{over-same}
use Rattle.theorem_meaning.specs.Fields.{Stand, At, Flying, HasFields, IsAskedAs, IsAsking, IsNews, IsUnserved, IsUnwantOf, value_of}
use Rattle.theorem_meaning.specs.Invariant.{AreAsked, AreCounted, AreNamed, AreRight, AreSentOnce, AreWanted, IsBackRight, IsHonest, IsPacketRight, IsServed, NamesBelow, is_message_of, is_taken_of, is_unwanted_to}
use Rattle.theorem_meaning.specs.Packets.{IsBackOf, IsParcelFor, IsParcelOf, IsTakenOf, IsUnderWay, IsUnwantedOf, Links, how_many, one_if, over_kernels, sum_over, values_for, values_of}
use Rattle.theorem_meaning.specs.StandsFor.{AreLinksOf, IsEndOf, IsInMessage, IsWaitingWith, home_of, standing}
use Rattle.theorem_take_want.proofs.Alike.{some-same}
use Rattle.theorem_take_want.proofs.Places.{here-kernel}
use Rattle.theorem_meaning.proofs.Plain.{none-in}
use Rattle.theorem_take_back.specs.Returned.{IsReturned, IsTakingBack, bare_back, over_view, taking_back}

module _ {i : ℕ} {w : Links} {c : Change} {from stamp : ℕ} {s : State} {to : EndId} {n : ℕ} {o : HereView} (ready : IsTakingBack i w c from stamp s to n o) (z : Links) (b : Changes w (taking_back c to o) z) (t : EndId → End) (g : ℕ → Process) (is : IsReturned s to t g) where
  abbrev k : ℕ
  k = c.kernel

  abbrev q : Picture
  q = bare_back stamp to n

  abbrev u : HereView
  u = over_view o

  abbrev state : State
  state = record s { ends = t; process = g }

  -- ---- packets

  stood : Contains (w.packets from k) q
  stood = taken-before b from q ready.taken

  between : (j h : ℕ) (a : Picture) → Contains (w.packets j h) a → (j < length s.made) × (h < length s.made)
  between = named-between ready.right.named

  near : (from < length s.made) × (k < length s.made)
  near = between from k q stood

  below : (j : ℕ) → j < length s.made → j < 8
  below j low = let most = ready.few in omega (arith, low, most)

  is-right : IsBackRight w s.ends k to n []
  is-right = All-contains (λ a. IsPacketRight w s.ends from k a.what) (w.packets from k) q (ready.right.packets from k) stood

  -- the message of the end is matched
  matched : (s.ends to).outward ≡ outward.Matched is-right.matched.message
  matched = is-right.matched.matched

  was : (P : PictureWhat → Type 0) → IsUnderWay z P → IsUnderWay w P
  was P = under_way-was b P (λ a. none-there (a.to, a.what) a.there)

  still : (P : PictureWhat → Type 0) → (P q.what → ⊥) → IsUnderWay w P → IsUnderWay z P
  still P none = under_way-still b P (λ a. none (subst (λ (r : Picture). P r.what) (sym (ap (λ (s : ℕ × Picture). s.1) (some-same {X = ℕ × Picture} (from, q) (a.from, a.packet) (sym ready.taken ∙ a.taken)))) a.is))

  sum : (f : PictureWhat → ℕ) → sum_over f z + f q.what ≡ sum_over f w
  sum f =
      let all : sum_over f z + sum_taken f c.taken ≡ sum_over f w + 0
      = sum_over-after f b (record { kernel = below k near.1; taken = subst (λ (a : Option (ℕ × Picture)). IfSome a (λ a. a.0 < 8)) (sym ready.taken) (below from near.0); sent = tt }) in
      let one : sum_taken f c.taken ≡ f q.what = ap (sum_taken f) ready.taken in
      omega (arith, all, one)

  number : (test : PictureWhat → Bool) → how_many test z + one_if (test q.what) ≡ how_many test w
  number test = sum (λ a. one_if (test a))

  -- no packet carries the message any more
  none-carries : how_many (is_message_of to) z ≡ 0
  none-carries =
      let fewer = number (is_message_of to) in
      let one : one_if (is_message_of to q.what) ≡ 1 = ap one_if (end_eq-refl to) in
      let once : how_many (is_message_of to) w ≡ 1 = (ready.right.once to).message ∙ ap (λ a. one_if (is_some (matched_message a))) matched in
      omega (arith, fewer, one, once)

  another : (j h : ℕ) (a : Picture) → Contains (b.left j h) a → (e : EndId) → is_message_of e a.what ≡ true → end_eq to e ≡ false
  another j h a has e of = by (end_eq to e) refl
    where
      by : (x : Bool) → end_eq to e ≡ x → x ≡ false
      by false apart = refl
      by true same =
          let bounds = between j h a (left-before b j h a has) in
          let least = sum_over-least (λ y. one_if (is_message_of to y)) z j h a (below j bounds.0) (below h bounds.1) (left-after b j h a has) in
          let one : one_if (is_message_of to a.what) ≡ 1 = ap one_if (subst (λ y. is_message_of y a.what ≡ true) (sym (end_eq-same to e same)) of) in
          let none = none-carries in
          absurd (omega (arith, least, one, none))

  -- ---- entries

  entry-case : (j : ℕ) (e : EndId) → ((z.entry j e ≡ w.entry j e) × (j ≡ k → e ≡ to → ⊥)) ⊎ ((j ≡ k) × (e ≡ to) × (z.entry j e ≡ entry.Here u))
  entry-case j e = by (eqb_tells j k)
    where
      own : (a : Bool) → end_eq to e ≡ a → j ≡ k → ((z.entry j e ≡ w.entry j e) × (j ≡ k → e ≡ to → ⊥)) ⊎ ((j ≡ k) × (e ≡ to) × (z.entry j e ≡ entry.Here u))
      own true same at = inr (at, sym (end_eq-same to e same), ap (λ a. z.entry a e) at ∙ b.entry e ∙ ap (λ a. if a then entry.Here u else w.entry k e) same)
      own false apart at = inl (
        ap (λ a. z.entry a e) at ∙ b.entry e ∙ ap (λ a. if a then entry.Here u else w.entry k e) apart ∙ sym (ap (λ a. w.entry a e) at),
        λ at same. true≢false (sym (end_eq-refl to) ∙ subst (λ a. end_eq to a ≡ false) same apart),
      )

      by : ((nat_eq j k ≡ true) × (j ≡ k)) ⊎ ((nat_eq j k ≡ false) × (j ≢ k)) → ((z.entry j e ≡ w.entry j e) × (j ≡ k → e ≡ to → ⊥)) ⊎ ((j ≡ k) × (e ≡ to) × (z.entry j e ≡ entry.Here u))
      by (inl at) = own (end_eq to e) refl at.1
      by (inr apart) = inl (b.others j e apart.0, λ at same. apart.1 at)

  was-there : (j : ℕ) (e : EndId) → j ≡ k → e ≡ to → w.entry j e ≡ entry.Here o
  was-there j e at same = ap (λ a. w.entry a e) at ∙ ap (w.entry k) same ∙ ready.here

  -- what an entry says but of the send of the end stays, and was
  entry-still : (P : Entry → Type 0) → (P (entry.Here o) → P (entry.Here u)) → (j : ℕ) (e : EndId) → P (w.entry j e) → P (z.entry j e)
  entry-still P gives j e has = by (entry-case j e)
    where
      by : ((z.entry j e ≡ w.entry j e) × (j ≡ k → e ≡ to → ⊥)) ⊎ ((j ≡ k) × (e ≡ to) × (z.entry j e ≡ entry.Here u)) → P (z.entry j e)
      by (inl stays) = subst P (sym stays.0) has
      by (inr now) = subst P (sym now.2) (gives (subst P (was-there j e now.0 now.1) has))

  entry-was : (P : Entry → Type 0) → (P (entry.Here u) → P (entry.Here o)) → (j : ℕ) (e : EndId) → P (z.entry j e) → P (w.entry j e)
  entry-was P gives j e has = by (entry-case j e)
    where
      by : ((z.entry j e ≡ w.entry j e) × (j ≡ k → e ≡ to → ⊥)) ⊎ ((j ≡ k) × (e ≡ to) × (z.entry j e ≡ entry.Here u)) → P (w.entry j e)
      by (inl stays) = subst P stays.0 has
      by (inr now) = subst P (sym (was-there j e now.0 now.1)) (gives (subst P now.2 has))

  view-still : (j : ℕ) (e : EndId) (P : HereView → Type 0) → (P o → P u) → IsHereAnd (w.entry j e) P → IsHereAnd (z.entry j e) P
  view-still j e P gives has = entry-still (λ a. IsHereAnd a P) gives j e has

  view-was : (j : ℕ) (e : EndId) (P : HereView → Type 0) → (P u → P o) → IsHereAnd (z.entry j e) P → IsHereAnd (w.entry j e) P
  view-was j e P gives has = entry-was (λ a. IsHereAnd a P) gives j e has

  only-here : (j : ℕ) (x : HereView) → w.entry j to ≡ entry.Here x → j ≡ k
  only-here j x has = here-kernel (length s.made) w s.ends ready.few ready.right.named ready.right.marked ready.links.once to j k x o has ready.here

  -- the view that an end had
  view-case : (j : ℕ) (e : EndId) (x : HereView) → z.entry j e ≡ entry.Here x → ((w.entry j e ≡ entry.Here x) × (e ≡ to → ⊥)) ⊎ ((j ≡ k) × (e ≡ to) × (x ≡ u))
  view-case j e x there = by (entry-case j e)
    where
      by : ((z.entry j e ≡ w.entry j e) × (j ≡ k → e ≡ to → ⊥)) ⊎ ((j ≡ k) × (e ≡ to) × (z.entry j e ≡ entry.Here u)) → ((w.entry j e ≡ entry.Here x) × (e ≡ to → ⊥)) ⊎ ((j ≡ k) × (e ≡ to) × (x ≡ u))
      by (inl stays) =
          let had = sym stays.0 ∙ there in
          inl (had, λ same. stays.1 (only-here j x (subst (λ a. w.entry j a ≡ entry.Here x) same had)) same)
      by (inr now) = inr (now.0, now.1, some-same x u (ap here (sym there ∙ now.2)))

  -- it has that value, holder and receive still
  view-had : (j : ℕ) (e : EndId) (x : HereView) → z.entry j e ≡ entry.Here x → (y : HereView) × (w.entry j e ≡ entry.Here y) × (x.value ≡ y.value) × (x.holder ≡ y.holder) × (x.inward ≡ y.inward)
  view-had j e x there = by (view-case j e x there)
    where
      by : ((w.entry j e ≡ entry.Here x) × (e ≡ to → ⊥)) ⊎ ((j ≡ k) × (e ≡ to) × (x ≡ u)) → (y : HereView) × (w.entry j e ≡ entry.Here y) × (x.value ≡ y.value) × (x.holder ≡ y.holder) × (x.inward ≡ y.inward)
      by (inl stays) = (x, stays.0, refl, refl, refl)
      by (inr now) = (o, was-there j e now.0 now.1, ap (λ (a : HereView). a.value) now.2, ap (λ (a : HereView). a.holder) now.2, ap (λ (a : HereView). a.inward) now.2)

  fields : (e : EndId) (stand : Stand) (m : MovingPicture) → HasFields z e stand m → HasFields w e stand m
  fields e Flying m has = (was (λ a. Contains (values_of a) m) has.0, has.1)
  fields e (At j) m has = entry-was (λ a. value_of a ≡ Some m) (λ a. a) j e has

  -- ---- the ends of the service

  each-end : (P : EndId → End → Type 0) → P to (record (s.ends to) { outward = outward.Unreported }) → ((e : EndId) → end_eq to e ≡ false → P e (s.ends e)) → (e : EndId) → P e (t e)
  each-end P mine rest e = by (end_eq to e) refl
    where
      by : (a : Bool) → end_eq to e ≡ a → P e (t e)
      by true same = subst (λ a. P a (t a)) (end_eq-same to e same) (subst (P to) (sym is.at) mine)
      by false far = subst (P e) (sym (is.others e far)) (rest e far)

  place-same : (e : EndId) → (t e).place ≡ (s.ends e).place
  place-same = each-end (λ e a. a.place ≡ (s.ends e).place) refl (λ e far. refl)

  sent-same : (e : EndId) → (t e).sent ≡ (s.ends e).sent
  sent-same = each-end (λ e a. a.sent ≡ (s.ends e).sent) refl (λ e far. refl)

  noticed-same : (e : EndId) → (t e).noticed ≡ (s.ends e).noticed
  noticed-same = each-end (λ e a. a.noticed ≡ (s.ends e).noticed) refl (λ e far. refl)

  inward-kept : (e : EndId) → (t e).inward ≡ (s.ends e).inward
  inward-kept = each-end (λ e a. a.inward ≡ (s.ends e).inward) refl (λ e far. refl)

  open-same : (e : EndId) → is_open (t e) ≡ is_open (s.ends e)
  open-same = each-end (λ e a. is_open a ≡ is_open (s.ends e)) refl (λ e far. refl)

  outward-at : (e : EndId) → end_eq to e ≡ false → (t e).outward ≡ (s.ends e).outward
  outward-at e far = ap (λ (a : End). a.outward) (is.others e far)

  living-was : (e : EndId) → is_living (t e).place ≡ true → is_living (s.ends e).place ≡ true
  living-was e lives = sym (ap (λ a. is_living a) (place-same e)) ∙ lives

  open-was : (e : EndId) → is_open (t e) ≡ true → is_open (s.ends e) ≡ true
  open-was e opens = sym (open-same e) ∙ opens

  posted-same : (e : EndId) → is_posted (t e).inward ≡ is_posted (s.ends e).inward
  posted-same e = ap (λ a. is_posted a) (inward-kept e)

  -- ---- clauses 2 to 5

  standing-still : (e : EndId) → standing z e ≡ standing w e
  unfolding standing
  standing-still e =
      let here : over_kernels (λ j. one_if (is_here (z.entry j e))) ≡ over_kernels (λ j. one_if (is_here (w.entry j e)))
      = over-same (λ j. one_if (is_here (w.entry j e))) (λ j. one_if (is_here (z.entry j e))) (λ j. one j (entry-case j e)) in
      let values = sum (λ a. values_for e (values_of a)) in
      omega (arith, here, values)
    where
      one : (j : ℕ) → ((z.entry j e ≡ w.entry j e) × (j ≡ k → e ≡ to → ⊥)) ⊎ ((j ≡ k) × (e ≡ to) × (z.entry j e ≡ entry.Here u)) → one_if (is_here (z.entry j e)) ≡ one_if (is_here (w.entry j e))
      one j (inl stays) = ap (λ a. one_if (is_here a)) stays.0
      one j (inr now) = ap (λ a. one_if (is_here a)) now.2 ∙ sym (ap (λ a. one_if (is_here a)) (was-there j e now.0 now.1))

  held : (j : ℕ) (e : EndId) (h : Holder) → IsHereAnd (w.entry j e) (λ a. a.holder ≡ h) ↔ IsHereAnd (z.entry j e) (λ a. a.holder ≡ h)
  held j e h = (view-still j e (λ a. a.holder ≡ h) (λ a. a), view-was j e (λ a. a.holder ≡ h) (λ a. a))

  waiting : (j : ℕ) (e : EndId) (m : ℕ) → IsHereAnd (w.entry j e) (λ a. IsWaitingWith m a.outward) ↔ IsHereAnd (z.entry j e) (λ a. IsWaitingWith m a.outward)
  waiting j e m = (view-still j e (λ a. IsWaitingWith m a.outward) (λ a. absurd (subst (IsWaitingWith m) ready.waits a)), view-was j e (λ a. IsWaitingWith m a.outward) (λ a. absurd a))

  in_message-same : (e f : EndId) (m : ℕ) → IsInMessage w e f m ↔ IsInMessage z e f m
  in_message-same e f m = (still_in, was_in)
    where
      still_in : IsInMessage w e f m → IsInMessage z e f m
      still_in (inl x) = inl (record { at = x.at; enclosed = (held x.at e (holder.EnclosedIn f)).0 x.enclosed; waiting = (waiting x.at f m).0 x.waiting })
      still_in (inr (inl x)) = inr (inl (still (λ a. IsParcelOf f m a × Contains (ends_in (values_of a)) e) (λ a. a.0) x))
      still_in (inr (inr x)) = inr (inr (still (λ a. IsBackOf f m a × Contains (ends_in (values_of a)) e) (λ a. none-there e a.1) x))

      was_in : IsInMessage z e f m → IsInMessage w e f m
      was_in (inl x) = inl (record { at = x.at; enclosed = (held x.at e (holder.EnclosedIn f)).1 x.enclosed; waiting = (waiting x.at f m).1 x.waiting })
      was_in (inr (inl x)) = inr (inl (was (λ a. IsParcelOf f m a × Contains (ends_in (values_of a)) e) x))
      was_in (inr (inr x)) = inr (inr (was (λ a. IsBackOf f m a × Contains (ends_in (values_of a)) e) x))

  -- what agreed with a view agrees still
  agrees-still : (e : EndId) (x : HereView) (y : End) → IsEndOf w e x y → IsEndOf z e x y
  agrees-still e x y agrees =
      record {
        sent = agrees.sent;
        noticed = agrees.noticed;
        outward = outward-same w z e (λ m. (was (IsTakenOf e m), still (IsTakenOf e m) (λ a. a))) y.sent x.outward y.outward agrees.outward;
        inward = inward-same w z e (λ r m. (was (IsParcelFor e r m), still (IsParcelFor e r m) (λ a. a))) (λ r. (was (IsUnwantedOf e r), still (IsUnwantedOf e r) (λ a. a))) x.inward y.inward agrees.inward;
      }

  agree-mine : (a : Pid) (x : HereView) → (s.ends to).place ≡ place.Owned a → z.entry (home_of s a) to ≡ entry.Here x → IsEndOf z to x (record (s.ends to) { outward = outward.Unreported })
  agree-mine a x owned has = by (view-case (home_of s a) to x has)
    where
      by : ((w.entry (home_of s a) to ≡ entry.Here x) × (to ≡ to → ⊥)) ⊎ ((home_of s a ≡ k) × (to ≡ to) × (x ≡ u)) → IsEndOf z to x (record (s.ends to) { outward = outward.Unreported })
      by (inl stays) = absurd (stays.1 refl)
      by (inr now) =
          let old = agrees-still to o (s.ends to) (ready.links.agree to a o owned (was-there (home_of s a) to now.0 refl)) in
          subst (λ y. IsEndOf z to y (record (s.ends to) { outward = outward.Unreported })) (sym now.2) (record { sent = old.sent; noticed = old.noticed; outward = tt; inward = old.inward })

  agree-other : (e : EndId) → end_eq to e ≡ false → (a : Pid) (x : HereView) → (s.ends e).place ≡ place.Owned a → z.entry (home_of s a) e ≡ entry.Here x → IsEndOf z e x (s.ends e)
  agree-other e far a x owned has = by (view-case (home_of s a) e x has)
    where
      by : ((w.entry (home_of s a) e ≡ entry.Here x) × (e ≡ to → ⊥)) ⊎ ((home_of s a ≡ k) × (e ≡ to) × (x ≡ u)) → IsEndOf z e x (s.ends e)
      by (inl stays) = agrees-still e x (s.ends e) (ready.links.agree e a x owned stays.0)
      by (inr now) = absurd (true≢false (sym (end_eq-refl to) ∙ subst (λ y. end_eq to y ≡ false) now.1 far))

  pub returned-links : AreLinksOf z state
  returned-links =
      record {
        once = λ e. standing-still e ∙ ready.links.once e ∙ sym (ap (λ a. one_if (is_living a)) (place-same e));
        owned = λ e a. (λ at. (held (home_of s a) e (holder.Owner a)).0 ((ready.links.owned e a).0 (sym (place-same e) ∙ at)), λ has. place-same e ∙ (ready.links.owned e a).1 ((held (home_of s a) e (holder.Owner a)).1 has));
        in_message = λ e f m. (λ at. (in_message-same e f m).0 ((ready.links.in_message e f m).0 (sym (place-same e) ∙ at)), λ has. place-same e ∙ (ready.links.in_message e f m).1 ((in_message-same e f m).1 has));
        agree = each-end (λ e y. (a : Pid) (x : HereView) → y.place ≡ place.Owned a → z.entry (home_of s a) e ≡ entry.Here x → IsEndOf z e x y) agree-mine agree-other;
      }

  -- ---- what is true of every world

  named-still : AreNamed (length s.made) z t
  named-still =
      record {
        entries = λ j e. entry-still (NamesBelow (length s.made)) (λ a. a) j e (ready.right.named.entries j e);
        away = λ j e far. away j e far (entry-case j e);
        lists = λ j h far. none-in (z.packets j h) (λ a has. nothing j h far a (left_or_sent b j h a has));
        addressed = each-after b (λ j h a. is_addressed a (length s.made) ≡ true) (λ j h a. is_addressed a (length s.made) ≡ true) ready.right.named.addressed (λ j h a has y. y) (λ j what has. absurd (none-there (j, what) has));
        addressees = each-after b (λ j h a. is_made (s.ends (addressee a)).place ≡ true) (λ j h a. is_made (t (addressee a)).place ≡ true) ready.right.named.addressees (λ j h a has y. ap (λ x. is_made x) (place-same (addressee a.what)) ∙ y)
            (λ j what has. absurd (none-there (j, what) has));
      }
    where
      away : (j : ℕ) (e : EndId) → length s.made ≤ j → ((z.entry j e ≡ w.entry j e) × (j ≡ k → e ≡ to → ⊥)) ⊎ ((j ≡ k) × (e ≡ to) × (z.entry j e ≡ entry.Here u)) → z.entry j e ≡ entry.Nothing
      away j e far (inl stays) = stays.0 ∙ ready.right.named.away j e far
      away j e far (inr now) = let low = near.1 in let same = now.0 in absurd (omega (arith, low, same, far))

      nothing : (j h : ℕ) → (length s.made ≤ j) ⊎ (length s.made ≤ h) → (a : Picture) → Contains (b.left j h) a ⊎ (Contains {X = ℕ × PictureWhat} [] (h, a.what) × (j ≡ k)) → ⊥
      nothing j h far a (inl left) = none-there a (subst (λ l. Contains l a) (ready.right.named.lists j h far) (left-before b j h a left))
      nothing j h far a (inr sent) = none-there (h, a.what) sent.0

  mark : (j : ℕ) (e : EndId) (m : MovingPicture) → z.entry j e ≡ entry.Destroyed m → w.entry j e ≡ entry.Destroyed m
  mark j e m there = entry-was (λ a. a ≡ entry.Destroyed m) (λ same. absurd (let both : entry.Here u ≡ entry.Destroyed m = same in cc)) j e there

  counted-still : (e : EndId) → AreCounted z t e
  counted-still e =
      record {
        sent = λ stand m lives has. (ready.right.counted e).sent stand m (living-was e lives) (fields e stand m has) ∙ sym (sent-same e);
        dead = λ stand m lives has. (ready.right.counted e).dead stand m (living-was e lives) (fields e stand m has) ∙ sym (noticed-same e);
        unwanted = λ stand m lives noticed has. (ready.right.counted e).unwanted stand m (living-was e lives) (sym (noticed-same e) ∙ noticed) (fields e stand m has);
      }

  honest-still : (e : EndId) → IsHonest z e
  honest-still e stand m j h has (inl x) = ready.right.honest e stand m j h (fields e stand m has) (inl (record { stand = x.stand; fields = x.fields; are = fields (opposite e) x.stand x.fields x.are; hint = x.hint }))
  honest-still e stand m j h has (inr x) = ready.right.honest e stand m j h (fields e stand m has) (inr (was (IsNews (opposite e) j h) x))

  asked-still : (e : EndId) → AreAsked z state e
  asked-still e =
      record {
        last = λ j x a there asked. let y = view-had j e x there in (ready.right.asked e).last j y.0 a y.1 (subst (IsAskedAs a) y.4 asked) ∙ sym (ap (λ (l : MovingPicture). l.asked) y.2);
        cancelled = λ j x a p there withdrawing holds. let y = view-had j e x there in (is.phases p e).1 ((ready.right.asked e).cancelled j y.0 a p y.1 (sym y.4 ∙ withdrawing) (sym y.3 ∙ holds));
      }

  served-still : (e : EndId) → IsServed z t e
  served-still e j x a stand m there asked unposted lives has =
      let y = view-had j e x there in
      ready.right.served e j y.0 a stand m y.1 (subst (IsAskedAs a) y.4 asked) (sym (posted-same e) ∙ unposted) (living-was (opposite e) lives) (fields (opposite e) stand m has)

  unserved-was : (e : EndId) (m : MovingPicture) (a j h : ℕ) → IsUnserved z e m a j h → IsUnserved w e m a j h
  unserved-was e m a j h (inl asks) = inl asks
  unserved-was e m a j h (inr asks) = inr (asks.0, was (IsAsking e a j h) asks.1)

  wanted-still : (e : EndId) → AreWanted z t e
  wanted-still e =
      record {
        kept = λ stand m opens has. (ready.right.wanted e).kept stand m (open-was e opens) (fields e stand m has);
        same = λ stand m a j h y x f opens has one two. (ready.right.wanted e).same stand m a j h y x f (open-was e opens) (fields e stand m has) (unserved-was e m a j h one) (unserved-was e m y x f two);
        posted = λ stand m a j h opens has one. posted-same (opposite e) ∙ (ready.right.wanted e).posted stand m a j h (open-was e opens) (fields e stand m has) (unserved-was e m a j h one);
        site = λ stand m a j h opens has one lives.
            view-still j (opposite e) (λ y. (y.value.hops ≡ h) × (y.value.asked ≡ a)) (λ y. y)
            ((ready.right.wanted e).site stand m a j h (open-was e opens) (fields e stand m has) (unserved-was e m a j h one) (living-was (opposite e) lives));
        unwanted = λ stand m a opens has low one.
            let there = (ready.right.wanted e).unwanted stand m a (open-was e opens) (fields e stand m has) low (was (IsUnwantOf e a) one) in
            (there.0, view-still there.0 (opposite e) (λ y. is_withdrawing y.inward ≡ true) (λ y. y) there.1);
      }

  once-still : (e : EndId) → AreSentOnce z t e
  once-still e = record { message = messages e; taken = takens-most e; told = λ lives. takens-told e (living-was e lives) }
    where
      far-message : (e : EndId) → end_eq to e ≡ false → is_message_of e q.what ≡ false
      far-message e far = end_eq-sym e to ∙ far

      messages : (e : EndId) → how_many (is_message_of e) z ≡ one_if (is_some (matched_message (t e).outward))
      messages =
          each-end (λ e a. how_many (is_message_of e) z ≡ one_if (is_some (matched_message a.outward))) none-carries
          (λ e far. let fewer = number (is_message_of e) in let none : one_if (is_message_of e q.what) ≡ 0 = ap one_if (far-message e far) in let once = (ready.right.once e).message in omega (arith, fewer, none, once))

      same-takens : (e : EndId) → how_many (is_taken_of e) z ≡ how_many (is_taken_of e) w
      same-takens e = let fewer = number (is_taken_of e) in omega (arith, fewer)

      untaken : one_if (is_taken (s.ends to).outward) ≡ 0
      untaken = ap (λ a. one_if (is_taken a)) matched

      takens-most : (e : EndId) → how_many (is_taken_of e) z ≤ one_if (is_taken (t e).outward)
      takens-most =
          each-end (λ e a. how_many (is_taken_of e) z ≤ one_if (is_taken a.outward)) (let same = same-takens to in let most = (ready.right.once to).taken in let none = untaken in omega (arith, same, most, none))
          (λ e far. let same = same-takens e in let most = (ready.right.once e).taken in omega (arith, same, most))

      takens-told : (e : EndId) → is_living (s.ends e).place ≡ true → how_many (is_taken_of e) z ≡ one_if (is_taken (t e).outward)
      takens-told =
          each-end (λ e a. is_living (s.ends e).place ≡ true → how_many (is_taken_of e) z ≡ one_if (is_taken a.outward)) (λ lives. same-takens to ∙ (ready.right.once to).told lives ∙ untaken)
          (λ e far lives. same-takens e ∙ (ready.right.once e).told lives)

  left-right : (j h : ℕ) (a : Picture) → Contains (b.left j h) a → IsPacketRight w s.ends j h a.what → IsPacketRight z t j h a.what
  left-right j h a has = right a.what refl
    where
      takens : (e : EndId) → (s.ends e).outward ≡ outward.Taken → (t e).outward ≡ outward.Taken
      takens = each-end (λ e y. (s.ends e).outward ≡ outward.Taken → y.outward ≡ outward.Taken) (λ same. absurd (let both : outward.Matched is-right.matched.message ≡ outward.Taken = sym matched ∙ same in cc)) (λ e far y. y)

      site : (j : ℕ) (e : EndId) → (is_living (s.ends e).place ≡ true → IsHereAnd (w.entry j e) (λ y. Unit {0})) → is_living (t e).place ≡ true → IsHereAnd (z.entry j e) (λ y. Unit {0})
      site j e y lives = view-still j e (λ x. Unit {0}) (λ x. tt) (y (living-was e lives))

      right : (what : PictureWhat) → a.what ≡ what → IsPacketRight w s.ends j h what → IsPacketRight z t j h what
      right (packet.Parcel e m wanted x hops bytes ms) kind y =
          record {
            matched = outward-at (opposite e) (another j h a has (opposite e) (ap (is_message_of (opposite e)) kind ∙ ap (λ d. end_eq d e) (opposite-twice e) ∙ end_eq-refl e)) ∙ y.matched;
            number = sent-same (opposite e) ∙ y.number;
            sender = y.sender;
            site = λ lives. view-still j (opposite e) (λ l. l.value.hops ≡ hops) (λ l. l) (y.site (living-was (opposite e) lives));
            meets = λ opens. view-still h e (λ l. IsAskedAs wanted l.inward) (λ l. l) (y.meets (open-was e opens));
          }
      right (packet.Back e m ms) kind y =
          record {
            matched =
                record {
                  message = y.matched.message;
                  matched = outward-at e (another j h a has e (ap (is_message_of e) kind ∙ end_eq-refl e)) ∙ y.matched.matched;
                  carries = y.matched.carries;
                  number = sent-same e ∙ y.matched.number;
                };
            untaken = open-same (opposite e) ∙ y.untaken;
            site = site h e y.site;
          }
      right (packet.Taken e m x hops) kind y = record { taken = takens e y.taken; number = sent-same e ∙ y.number; taker = y.taker; site = site h e y.site }
      right (packet.Gone e x) kind y = place-same (opposite e) ∙ y
      right (packet.Unwanted e m x hops) kind y = λ noticed. view-still h e (λ l. l.inward ≡ kernel_inward.Withdrawing m) (λ l. l) (y (sym (noticed-same e) ∙ noticed))
      right _ kind y = tt

  pub returned-right : AreRight i z state
  returned-right =
      record {
        named = named-still;
        few = λ e stand m has. ready.right.few e stand m (fields e stand m has);
        marked = λ e. record {
          destroyed = λ j m there. place-same e ∙ (ready.right.marked e).destroyed j m (mark j e m there);
          once = λ j h m l one two. (ready.right.marked e).once j h m l (mark j e m one) (mark h e l two);
        };
        counted = counted-still;
        honest = honest-still;
        asked = asked-still;
        cancelling = λ a e cancels. view-still (home_of s a) e (λ y. is_withdrawing y.inward ≡ true) (λ y. y) (ready.right.cancelling a e ((is.phases a e).0 cancels));
        served = served-still;
        wanted = wanted-still;
        unwanted = λ e noticed. let fewer = number (is_unwanted_to e) in let most = ready.right.unwanted e (sym (noticed-same e) ∙ noticed) in omega (arith, fewer, most);
        once = once-still;
        packets = each-after b (λ j h a. IsPacketRight w s.ends j h a) (λ j h a. IsPacketRight z t j h a) ready.right.packets left-right (λ j what has. absurd (none-there (j, what) has));
      }
