-- The ends that a packet carries come to be here at the kernel that takes it, and one process there owns them: all clauses on links are
-- true then.
use Rattle.std.proofs.Common.{◌≡◌, ◌⊎◌, ◌↔◌, inl, inr, ℕ, ◌+◌, ◌<◌, ◌≤◌, Bool, true, false, ◌&&◌, if◌then◌else◌, List, [], length, Contains, Some, is_some, refl, sym, ap, subst, ◌∙◌, arith, true≢false, ne_eqb}
use Rattle.std.proofs.lemmas.Bool.{and_parts}
use Rattle.std.proofs.lemmas.List.Elements.{All-contains, Contains-append_cases}
use Rattle.std.specs.List.{list_any}
use Rattle.charlotte_calls.specs.Names.{opposite}
use Rattle.charlotte_packets.specs.Packets.{is_addressed, names_kernels_below}
use Rattle.charlotte_calls.specs.declared.names.EndId.{EndId}
use Rattle.charlotte_calls.specs.declared.names.Pid.{Pid}
use Rattle.charlotte_packets.specs.declared.picture.MovingPicture.{MovingPicture}
use Rattle.charlotte_packets.specs.declared.picture.Picture.{Picture}
use Rattle.charlotte_packets.specs.declared.picture.PictureWhat.{PictureWhat}
use Rattle.charlotte_packets.specs.declared.picture.PictureWhat.TheVariants as packet
use Rattle.end_table.proofs.EndEq.{end_eq-refl, end_eq-same}
use Rattle.end_table.specs.Place.{end_eq}
use Rattle.end_table.specs.Table.{IsHereAnd}
use Rattle.end_table.specs.declared.entry.Entry.{Entry}
use Rattle.end_table.specs.declared.entry.Entry.TheVariants as entry
use Rattle.end_table.specs.declared.entry.HereView.{HereView}
use Rattle.end_table.specs.declared.entry.Holder.TheVariants as holder
use Rattle.end_table.specs.declared.entry.Inward.TheVariants as kernel_inward
use Rattle.end_table.specs.declared.entry.Outward.{Outward as KernelOutward}
use Rattle.end_table.specs.declared.entry.Outward.TheVariants as kernel_outward
use Rattle.kernel_sound.specs.Sound.{addressee}
use Rattle.kernel_step.specs.Actions.{here, is_withdrawing}
use Rattle.kernel_step.specs.Rows.{ends_in, is_here}
use Rattle.service_change.proofs.Change.{idle-parts}
use Rattle.service_lawful.specs.Consistent.{is_open}
use Rattle.service_step.specs.Ends.{is_living, is_made, is_posted, is_taken, matched_message}
use Rattle.service_step.specs.State.{State}
use Rattle.service_step.specs.declared.state.End.{End}
use Rattle.service_step.specs.declared.state.Message.{Message}
use Rattle.service_step.specs.declared.state.Outward.TheVariants as outward
use Rattle.service_step.specs.declared.state.Phase.TheVariants as phase
use Rattle.service_step.specs.declared.state.Place.TheVariants as place
use Rattle.theorem_take_gone.proofs.Ends.{inward-same, outward-same}
use Rattle.theorem_take_gone.proofs.Lists.{none-there}
use Rattle.theorem_take_gone.proofs.Packets.{left-before, taken-there}
use Rattle.theorem_take_gone.specs.Change.{Change, Changes, taken_at}
use Rattle.theorem_take_gone.specs.Under.{IsLeft}
use Rattle.theorem_meaning.proofs.Ends.{opposite-twice}
use Rattle.theorem_meaning.proofs.Sums.{over-change}
use Rattle.theorem_meaning.specs.Fields.{At, Flying, HasFields, IsAskedAs, IsAsking, IsHeard, IsNews, IsNoMore, IsUnserved, IsUnwantOf}
use Rattle.theorem_meaning.specs.Invariant.{AreAsked, AreCounted, AreMarked, AreNamed, AreRight, AreSentOnce, AreWanted, IsHonest, IsPacketRight, IsServed, NamesBelow, is_message_of, is_taken_of, is_unwanted_to}
use Rattle.theorem_meaning.specs.Packets.{Each, IsBackOf, IsParcelFor, IsParcelOf, IsTakenOf, IsUnderWay, IsUnwantedOf, Links, how_many, one_if, over_kernels, sum_over, values_for, values_of}
use Rattle.theorem_meaning.specs.StandsFor.{AreLinksOf, IsEndOf, IsInMessage, IsInwardOf, IsOutwardOf, IsOwnedHere, IsWaitingWith, home_of, standing}
use Rattle.theorem_take_gone.proofs.Alike.{some-same}
use Rattle.theorem_take_gone.specs.Swapped.{instead}
use Rattle.theorem_take_gone.proofs.Swap.{swapped-each, swapped-sum}
use Rattle.theorem_meaning.proofs.Plain.{holder-same, none-in, owner-same}
use Rattle.theorem_ends_arrived.specs.Arrived.{IsAmong, IsLaden, emptied, settles, without_values}
use Rattle.theorem_ends_arrived.proofs.Among.{among-none, contains-among, each-value, told-among}
use Rattle.theorem_ends_arrived.proofs.Coming.{arrival, each-owner, end-alone, entry-came, entry-case, fields-before, fields-were, flies, here-before, here-landed}
use Rattle.theorem_ends_arrived.proofs.Coming.{idle, inside, landed, landed-after, landed-number, landed-same, landed-still, landed-was, living, low, low-from}
use Rattle.theorem_ends_arrived.proofs.Coming.{message-alone, near, never-here, no-mark, not-here, one-value, owners, owners-sender, packed, sender-apart, stood}
use Rattle.theorem_ends_arrived.proofs.Emptied.{emptied-addressed, emptied-asking, emptied-message, emptied-news, emptied-parcel_for, emptied-taken, emptied-telling, emptied-to, emptied-unwant, emptied-unwanted, emptied-values, emptied-voids}

message-same : (m o : Message) → outward.Matched m ≡ outward.Matched o → m ≡ o
message-same m o same = cc

-- an agreement on a matched send does not speak of its message
other-message : (w : Links) (e : EndId) (n : ℕ) (x : KernelOutward) (m o : Message) → IsOutwardOf w e n x (outward.Matched m) → IsOutwardOf w e n x (outward.Matched o)
other-message w e n (kernel_outward.Matched j) m o is = is
other-message w e n _ m o is = absurd is

-- each value that a packet carries names kernels that there are
pub named-value : (n : ℕ) (what : PictureWhat) (m : MovingPicture) → is_addressed what n ≡ true → Contains (values_of what) m → names_kernels_below n m ≡ true
named-value n (packet.Parcel to o w at hops bytes ms) m is has = each-value (names_kernels_below n) ms m (and_parts _ _ is).1 has
named-value n (packet.Back to o ms) m is has = each-value (names_kernels_below n) ms m is has
named-value n _ m is has = absurd (none-there m has)

module _ {i : ℕ} {w v : Links} {c : Change} {b : Changes w c v} {from : ℕ} {q : Picture} {s : State} {f : EndId} (ready : IsLaden i b from q s f) (p : Pid) (home : home_of s p ≡ c.kernel) where
  abbrev k : ℕ
  k = c.kernel

  abbrev x : Links
  x = landed ready p

  abbrev t : EndId → End
  t = owners ready p

  abbrev then_state : State
  then_state = record s { ends = t }

  abbrev ms : List MovingPicture
  ms = values_of q.what

  -- an entry that is here then
  view-then : (j : ℕ) (e : EndId) (o : HereView) → x.entry j e ≡ entry.Here o → (w.entry j e ≡ entry.Here o) ⊎ ((a : IsAmong ms e) × (j ≡ k) × (o ≡ arrival ready p a.value))
  view-then j e o there = by (entry-case ready p j e)
    where
      by : ((x.entry j e ≡ w.entry j e) × (j ≡ k → IsAmong ms e → ⊥)) ⊎ ((a : IsAmong ms e) × (j ≡ k) × (x.entry j e ≡ entry.Here (arrival ready p a.value))) → (w.entry j e ≡ entry.Here o) ⊎ ((a : IsAmong ms e) × (j ≡ k) × (o ≡ arrival ready p a.value))
      by (inl stays) = inl (sym stays.0 ∙ there)
      by (inr now) = inr (now.0, now.1, some-same o (arrival ready p now.0.value) (ap here (sym there ∙ now.2)))

  -- what stays of the ends of the service
  pub living-same : (e : EndId) → is_living (t e).place ≡ is_living (s.ends e).place
  living-same = each-owner ready p (λ e z. is_living z.place ≡ is_living (s.ends e).place) refl (λ e a. sym (living ready p e a)) (λ e apart none. refl)

  pub made-same : (e : EndId) → is_made (t e).place ≡ is_made (s.ends e).place
  made-same = each-owner ready p (λ e z. is_made z.place ≡ is_made (s.ends e).place) refl (λ e a. sym (ap (λ z. is_made z) (inside ready p e a))) (λ e apart none. refl)

  sent-same : (e : EndId) → (t e).sent ≡ (s.ends e).sent
  sent-same = each-owner ready p (λ e z. z.sent ≡ (s.ends e).sent) refl (λ e a. refl) (λ e apart none. refl)

  pub noticed-same : (e : EndId) → (t e).noticed ≡ (s.ends e).noticed
  noticed-same = each-owner ready p (λ e z. z.noticed ≡ (s.ends e).noticed) refl (λ e a. refl) (λ e apart none. refl)

  posted-same : (e : EndId) → is_posted (t e).inward ≡ is_posted (s.ends e).inward
  posted-same = each-owner ready p (λ e z. is_posted z.inward ≡ is_posted (s.ends e).inward) refl (λ e a. refl) (λ e apart none. refl)

  open-same : (e : EndId) → is_open (t e) ≡ is_open (s.ends e)
  open-same = each-owner ready p (λ e z. is_open z ≡ is_open (s.ends e)) refl (λ e a. ap (λ z. z && (if (s.ends e).noticed then false else true)) (sym (living ready p e a))) (λ e apart none. refl)

  outward-same-at : (e : EndId) → end_eq f e ≡ false → (t e).outward ≡ (s.ends e).outward
  outward-same-at = each-owner ready p (λ e z. end_eq f e ≡ false → z.outward ≡ (s.ends e).outward) (λ apart. absurd (true≢false (sym (end_eq-refl f) ∙ apart))) (λ e a apart. refl) (λ e apart none other. refl)

  pub place-stays : (e : EndId) → (IsAmong ms e → ⊥) → (t e).place ≡ (s.ends e).place
  place-stays = each-owner ready p (λ e z. (IsAmong ms e → ⊥) → z.place ≡ (s.ends e).place) (λ none. refl) (λ e a none. absurd (none a)) (λ e apart none other. refl)

  living-was : (e : EndId) → is_living (t e).place ≡ true → is_living (s.ends e).place ≡ true
  living-was e lives = sym (living-same e) ∙ lives

  open-was : (e : EndId) → is_open (t e) ≡ true → is_open (s.ends e) ≡ true
  open-was e opens = sym (open-same e) ∙ opens

  -- ---- clauses 2 to 5

  standing-landed : (e : EndId) → standing x e ≡ standing w e
  unfolding standing
  standing-landed e = by (entry-case ready p k e)
    where
      change : over_kernels (λ j. one_if (is_here (x.entry j e))) + one_if (is_here (w.entry k e)) ≡ over_kernels (λ j. one_if (is_here (w.entry j e))) + one_if (is_here (x.entry k e))
      change =
          over-change (λ j. one_if (is_here (w.entry j e))) (λ j. one_if (is_here (x.entry j e))) k (low ready p)
          (λ j off. ap (λ a. one_if (is_here (if a then settles p ms (w.entry k) e else w.entry j e))) (ne_eqb j k off))

      sum : sum_over (λ z. values_for e (values_of z)) x + values_for e ms ≡ sum_over (λ z. values_for e (values_of z)) w + values_for e (values_of (emptied q.what))
      sum = swapped-sum b from q (without_values q) ready.taken (settles p ms (w.entry k)) (λ z. values_for e (values_of z)) (low ready p) (low-from ready p)

      none : values_for e (values_of (emptied q.what)) ≡ 0
      none = ap (values_for e) (emptied-values q.what)

      absent : IsAmong ms e → one_if (is_here (w.entry k e)) ≡ 0
      absent a = by (w.entry k e) refl
        where
          by : (z : Entry) → w.entry k e ≡ z → one_if (is_here z) ≡ 0
          by entry.Nothing is = refl
          by (entry.Here o) is = absurd (not-here ready p e a k o is)
          by (entry.Left there hops) is = refl
          by (entry.Destroyed m) is = refl

      by : ((x.entry k e ≡ w.entry k e) × (k ≡ k → IsAmong ms e → ⊥)) ⊎ ((a : IsAmong ms e) × (k ≡ k) × (x.entry k e ≡ entry.Here (arrival ready p a.value))) → standing x e ≡ standing w e
      by (inl stays) =
          let same : one_if (is_here (x.entry k e)) ≡ one_if (is_here (w.entry k e)) = ap (λ z. one_if (is_here z)) stays.0 in
          let zero : values_for e ms ≡ 0 = among-none ms e (by_none (list_any (end_eq e) (ends_in ms)) refl) in
          omega (arith, change, sum, none, same, zero)
        where
          by_none : (z : Bool) → list_any (end_eq e) (ends_in ms) ≡ z → z ≡ false
          by_none true is = absurd (stays.1 refl (told-among ms e is))
          by_none false is = refl
      by (inr now) =
          let one : one_if (is_here (x.entry k e)) ≡ 1 = ap (λ z. one_if (is_here z)) now.2 in
          let zero = absent now.0 in
          let value = one-value ready p e now.0 in
          omega (arith, change, sum, none, one, zero, value)

  owned-stays : (e : EndId) → (IsAmong ms e → ⊥) → (o : Pid) → ((s.ends e).place ≡ place.Owned o) ↔ IsOwnedHere o (x.entry (home_of s o) e)
  owned-stays e none o = (λ at. here-landed ready p (home_of s o) e (λ z. z.holder ≡ holder.Owner o) ((ready.links.owned e o).0 at), λ has. (ready.links.owned e o).1 (by has (entry-case ready p (home_of s o) e)))
    where
      by : IsOwnedHere o (x.entry (home_of s o) e) → ((x.entry (home_of s o) e ≡ w.entry (home_of s o) e) × (home_of s o ≡ k → IsAmong ms e → ⊥)) ⊎ ((a : IsAmong ms e) × (home_of s o ≡ k) × (x.entry (home_of s o) e ≡ entry.Here (arrival ready p a.value)))
          → IsOwnedHere o (w.entry (home_of s o) e)
      by has (inl stays) = subst (IsOwnedHere o) stays.0 has
      by has (inr now) = absurd (none now.0)

  owned-came : (e : EndId) → IsAmong ms e → (o : Pid) → (place.Owned p ≡ place.Owned o) ↔ IsOwnedHere o (x.entry (home_of s o) e)
  owned-came e a o = (λ same. subst (λ z. IsOwnedHere z (x.entry (home_of s z) e)) (owner-same p o same) own, λ has. back has (entry-case ready p (home_of s o) e))
    where
      own : IsOwnedHere p (x.entry (home_of s p) e)
      own = let now = entry-came ready p e a in subst (λ j. IsOwnedHere p (x.entry j e)) (sym home) (subst (IsOwnedHere p) (sym now.1) refl)

      back : IsOwnedHere o (x.entry (home_of s o) e) → ((x.entry (home_of s o) e ≡ w.entry (home_of s o) e) × (home_of s o ≡ k → IsAmong ms e → ⊥)) ⊎ ((a : IsAmong ms e) × (home_of s o ≡ k) × (x.entry (home_of s o) e ≡ entry.Here (arrival ready p a.value)))
          → place.Owned p ≡ place.Owned o
      back has (inl stays) = absurd (never-here ready p e a (home_of s o) (λ z. z.holder ≡ holder.Owner o) (subst (IsOwnedHere o) stays.0 has))
      back has (inr now) = ap place.Owned (holder-same p o (subst (IsOwnedHere o) now.2 has))

  owned-landed : (e : EndId) (o : Pid) → ((t e).place ≡ place.Owned o) ↔ IsOwnedHere o (x.entry (home_of s o) e)
  owned-landed = each-owner ready p (λ e z. (o : Pid) → (z.place ≡ place.Owned o) ↔ IsOwnedHere o (x.entry (home_of s o) e)) (owned-stays f (sender-apart ready p)) owned-came (λ e apart none. owned-stays e none)

  -- a packet that carried an end and is not the one that is taken
  carried-still : (e : EndId) → (IsAmong ms e → ⊥) → (P : PictureWhat → Type 0) → IsUnderWay w (λ z. P z × Contains (ends_in (values_of z)) e) → IsUnderWay x (λ z. P z × Contains (ends_in (values_of z)) e)
  carried-still e none P = landed-still ready p (λ z. P z × Contains (ends_in (values_of z)) e) (λ both. absurd (none (contains-among ms e both.1)))

  carried-was : (e : EndId) (P : PictureWhat → Type 0) → IsUnderWay x (λ z. P z × Contains (ends_in (values_of z)) e) → IsUnderWay w (λ z. P z × Contains (ends_in (values_of z)) e) × (IsAmong ms e → ⊥)
  carried-was e P u = by (landed-after ready p (λ z. P z × Contains (ends_in (values_of z)) e) u)
    where
      by : IsLeft b (λ z. P z × Contains (ends_in (values_of z)) e) ⊎ (P (emptied q.what) × Contains (ends_in (values_of (emptied q.what))) e)
          → IsUnderWay w (λ z. P z × Contains (ends_in (values_of z)) e) × (IsAmong ms e → ⊥)
      by (inl left) = (
        record { from = left.from; to = left.to; packet = left.packet; there = left-before b left.from left.to left.packet left.there; is = left.is },
        λ a. end-alone ready p e a (record { from = left.from; to = left.to; packet = left.packet; there = left.there; is = contains-among (values_of left.packet.what) e left.is.1 }),
      )
      by (inr new) = absurd (none-there e (subst (λ l. Contains (ends_in l) e) (emptied-values q.what) new.1))

  in_message-still : (e : EndId) → (IsAmong ms e → ⊥) → (g : EndId) (n : ℕ) → (s.ends e).place ≡ place.InMessage g n → IsInMessage x e g n
  in_message-still e none g n at = by ((ready.links.in_message e g n).0 at)
    where
      by : IsInMessage w e g n → IsInMessage x e g n
      by (inl m) =
          inl (record { at = m.at; enclosed = here-landed ready p m.at e (λ z. z.holder ≡ holder.EnclosedIn g) m.enclosed; waiting = here-landed ready p m.at g (λ z. IsWaitingWith n z.outward) m.waiting })
      by (inr (inl m)) = inr (inl (carried-still e none (IsParcelOf g n) m))
      by (inr (inr m)) = inr (inr (carried-still e none (IsBackOf g n) m))

  in_message-was : (e g : EndId) (n : ℕ) → IsInMessage x e g n → (t e).place ≡ place.InMessage g n
  in_message-was e g n (inl m) = place-stays e (λ a. never-here ready p e a m.at (λ z. z.holder ≡ holder.EnclosedIn g) enclosed) ∙ (ready.links.in_message e g n).1 (inl (record { at = m.at; enclosed = enclosed; waiting = waiting }))
    where
      enclosed : IsHereAnd (w.entry m.at e) (λ z. z.holder ≡ holder.EnclosedIn g)
      enclosed = here-before ready p m.at e (λ z. z.holder ≡ holder.EnclosedIn g) (λ o is. absurd (let both : holder.Owner p ≡ holder.EnclosedIn g = is in cc)) m.enclosed

      waiting : IsHereAnd (w.entry m.at g) (λ z. IsWaitingWith n z.outward)
      waiting = here-before ready p m.at g (λ z. IsWaitingWith n z.outward) (λ o is. is) m.waiting
  in_message-was e g n (inr (inl m)) = let old = carried-was e (IsParcelOf g n) m in place-stays e old.1 ∙ (ready.links.in_message e g n).1 (inr (inl old.0))
  in_message-was e g n (inr (inr m)) = let old = carried-was e (IsBackOf g n) m in place-stays e old.1 ∙ (ready.links.in_message e g n).1 (inr (inr old.0))

  in_message-landed : (e g : EndId) (n : ℕ) → ((t e).place ≡ place.InMessage g n) ↔ IsInMessage x e g n
  in_message-landed e g n = (
    each-owner ready p (λ e z. z.place ≡ place.InMessage g n → IsInMessage x e g n) (in_message-still f (sender-apart ready p) g n) (λ e a at. absurd (let both : place.Owned p ≡ place.InMessage g n = at in cc)) (λ e apart none. in_message-still e none g n) e,
    in_message-was e g n,
  )

  -- what agreed with the view of an end agrees with it still
  agrees-still : (e : EndId) (o : HereView) (z : End) → IsEndOf w e o z → IsEndOf x e o z
  agrees-still e o z is =
      record {
        sent = is.sent;
        noticed = is.noticed;
        outward = outward-same w x e (λ n. landed-same ready p (IsTakenOf e n) (emptied-taken e n q.what)) z.sent o.outward z.outward is.outward;
        inward =
            inward-same w x e (λ r n. landed-same ready p (IsParcelFor e r n) (emptied-parcel_for e r n q.what)) (λ r. landed-same ready p (IsUnwantedOf e r) (emptied-unwanted e r q.what)) o.inward z.inward
            is.inward;
      }

  agree-stays : (e : EndId) → (IsAmong ms e → ⊥) → (o : Pid) (u : HereView) → (s.ends e).place ≡ place.Owned o → x.entry (home_of s o) e ≡ entry.Here u → IsEndOf x e u (s.ends e)
  agree-stays e none o u owned there = by (view-then (home_of s o) e u there)
    where
      by : (w.entry (home_of s o) e ≡ entry.Here u) ⊎ ((a : IsAmong ms e) × (home_of s o ≡ k) × (u ≡ arrival ready p a.value)) → IsEndOf x e u (s.ends e)
      by (inl was) = agrees-still e u (s.ends e) (ready.links.agree e o u owned was)
      by (inr now) = absurd (none now.0)

  agree-sender : (o : Pid) (u : HereView) → (s.ends f).place ≡ place.Owned o → x.entry (home_of s o) f ≡ entry.Here u
      → IsEndOf x f u (record (s.ends f) { outward = outward.Matched (record { bytes = (packed ready p).0.bytes; carried = [] }) })
  agree-sender o u owned there =
      let old = agree-stays f (sender-apart ready p) o u owned there in
      record {
        sent = old.sent;
        noticed = old.noticed;
        outward =
            other-message x f (s.ends f).sent u.outward (packed ready p).0 (record { bytes = (packed ready p).0.bytes; carried = [] })
            (subst (IsOutwardOf x f (s.ends f).sent u.outward) (packed ready p).1 old.outward);
        inward = old.inward;
      }

  agree-came : (e : EndId) → IsAmong ms e → (o : Pid) (u : HereView) → place.Owned p ≡ place.Owned o → x.entry (home_of s o) e ≡ entry.Here u → IsEndOf x e u (record (s.ends e) { place = place.Owned p })
  agree-came e a o u owned there = by (view-then (home_of s o) e u there)
    where
      still : is_living (s.ends e).place ≡ true
      still = living ready p e a

      by : (w.entry (home_of s o) e ≡ entry.Here u) ⊎ ((a : IsAmong ms e) × (home_of s o ≡ k) × (u ≡ arrival ready p a.value)) → IsEndOf x e u (record (s.ends e) { place = place.Owned p })
      by (inl was) = absurd (not-here ready p e a (home_of s o) u was)
      by (inr now) =
          subst (λ z. IsEndOf x e z (record (s.ends e) { place = place.Owned p })) (sym now.2)
          (record {
            sent = sym ((ready.right.counted e).sent Flying now.0.value still (flies ready p e now.0));
            noticed = sym ((ready.right.counted e).dead Flying now.0.value still (flies ready p e now.0));
            outward = subst (IsOutwardOf x e (s.ends e).sent kernel_outward.Idle) (sym (idle-parts (s.ends e) (idle ready p e a)).0) tt;
            inward = subst (IsInwardOf x e kernel_inward.Idle) (sym (idle-parts (s.ends e) (idle ready p e a)).1) tt;
          })

  pub landed-links : AreLinksOf x then_state
  landed-links =
      record {
        once = λ e. standing-landed e ∙ ready.links.once e ∙ sym (ap one_if (living-same e));
        owned = owned-landed;
        in_message = in_message-landed;
        agree = each-owner ready p (λ e z. (o : Pid) (u : HereView) → z.place ≡ place.Owned o → x.entry (home_of s o) e ≡ entry.Here u → IsEndOf x e u z) agree-sender agree-came (λ e apart none. agree-stays e none);
      }

  -- ---- what is true of every world

  named-landed : AreNamed (length s.made) x t
  named-landed =
      record {
        entries = names;
        away = away;
        lists = λ j h far. none-in (x.packets j h) (λ o has. nothing j h far o (Contains-append_cases (taken_at (instead c from (without_values q)) j h) (b.left j h) o has));
        addressed = swapped-each b from q (without_values q) ready.taken (settles p ms (w.entry k)) (λ j h o. is_addressed o (length s.made) ≡ true) (λ j h o. is_addressed o (length s.made) ≡ true) ready.right.named.addressed (λ j h o has a. a)
            (emptied-addressed (length s.made) q.what (All-contains (λ o. is_addressed o.what (length s.made) ≡ true) (w.packets from k) q (ready.right.named.addressed from k) (stood ready p)));
        addressees = swapped-each b from q (without_values q) ready.taken (settles p ms (w.entry k)) (λ j h o. is_made (s.ends (addressee o)).place ≡ true) (λ j h o. is_made (t (addressee o)).place ≡ true) ready.right.named.addressees
            (λ j h o has a. made-same (addressee o.what) ∙ a)
            (made-same (addressee (emptied q.what)) ∙ ap (λ z. is_made (s.ends z).place) (emptied-to q.what)
            ∙ All-contains (λ o. is_made (s.ends (addressee o.what)).place ≡ true) (w.packets from k) q (ready.right.named.addressees from k) (stood ready p));
      }
    where
      addressed : is_addressed q.what (length s.made) ≡ true
      addressed = All-contains (λ o. is_addressed o.what (length s.made) ≡ true) (w.packets from k) q (ready.right.named.addressed from k) (stood ready p)

      names : (j : ℕ) (e : EndId) → NamesBelow (length s.made) (x.entry j e)
      names j e = by (entry-case ready p j e)
        where
          by : ((x.entry j e ≡ w.entry j e) × (j ≡ k → IsAmong ms e → ⊥)) ⊎ ((a : IsAmong ms e) × (j ≡ k) × (x.entry j e ≡ entry.Here (arrival ready p a.value))) → NamesBelow (length s.made) (x.entry j e)
          by (inl stays) = subst (NamesBelow (length s.made)) (sym stays.0) (ready.right.named.entries j e)
          by (inr now) = subst (NamesBelow (length s.made)) (sym now.2) (named-value (length s.made) q.what now.0.value addressed now.0.there)

      away : (j : ℕ) (e : EndId) → length s.made ≤ j → x.entry j e ≡ entry.Nothing
      away j e far = by (entry-case ready p j e)
        where
          by : ((x.entry j e ≡ w.entry j e) × (j ≡ k → IsAmong ms e → ⊥)) ⊎ ((a : IsAmong ms e) × (j ≡ k) × (x.entry j e ≡ entry.Here (arrival ready p a.value))) → x.entry j e ≡ entry.Nothing
          by (inl stays) = stays.0 ∙ ready.right.named.away j e far
          by (inr now) = let below = (near ready p).1 in let same = now.1 in absurd (omega (arith, below, same, far))

      nothing : (j h : ℕ) → (length s.made ≤ j) ⊎ (length s.made ≤ h) → (o : Picture) → Contains (taken_at (instead c from (without_values q)) j h) o ⊎ Contains (b.left j h) o → ⊥
      nothing j h far o (inr left) = none-there o (subst (λ l. Contains l o) (ready.right.named.lists j h far) (left-before b j h o left))
      nothing j h far o (inl has) = by far
        where
          there : ((instead c from (without_values q)).taken ≡ Some (j, o)) × (h ≡ k)
          there = taken-there (instead c from (without_values q)) j h o has

          same : from ≡ j
          same = ap (λ (a : ℕ × Picture). a.0) (some-same {X = ℕ × Picture} (from, without_values q) (j, o) there.0)

          by : (length s.made ≤ j) ⊎ (length s.made ≤ h) → ⊥
          by (inl far) = let below = (near ready p).0 in let at = same in omega (arith, below, at, far)
          by (inr far) = let below = (near ready p).1 in let at = there.1 in omega (arith, below, at, far)

  marked-landed : (e : EndId) → AreMarked x t e
  marked-landed e =
      record {
        destroyed = λ j m there. gone e j m (mark j m there);
        once = λ j h m l one other. (ready.right.marked e).once j h m l (mark j m one) (mark h l other);
      }
    where
      mark : (j : ℕ) (m : MovingPicture) → x.entry j e ≡ entry.Destroyed m → w.entry j e ≡ entry.Destroyed m
      mark j m there = by (entry-case ready p j e)
        where
          by : ((x.entry j e ≡ w.entry j e) × (j ≡ k → IsAmong ms e → ⊥)) ⊎ ((a : IsAmong ms e) × (j ≡ k) × (x.entry j e ≡ entry.Here (arrival ready p a.value))) → w.entry j e ≡ entry.Destroyed m
          by (inl stays) = sym stays.0 ∙ there
          by (inr now) = absurd (let both : entry.Here (arrival ready p now.0.value) ≡ entry.Destroyed m = sym now.2 ∙ there in cc)

      gone : (e : EndId) (j : ℕ) (m : MovingPicture) → w.entry j e ≡ entry.Destroyed m → (t e).place ≡ place.Destroyed
      gone =
          each-owner ready p (λ e z. (j : ℕ) (m : MovingPicture) → w.entry j e ≡ entry.Destroyed m → z.place ≡ place.Destroyed) (ready.right.marked f).destroyed (λ e a j m there. absurd (no-mark ready p e a j m there))
          (λ e apart none. (ready.right.marked e).destroyed)

  counted-landed : (e : EndId) → AreCounted x t e
  counted-landed e =
      record {
        sent = λ at m lives has. let old = fields-were ready p e at m has in (ready.right.counted e).sent old.0 m (living-was e lives) old.1 ∙ sym (sent-same e);
        dead = λ at m lives has. let old = fields-were ready p e at m has in (ready.right.counted e).dead old.0 m (living-was e lives) old.1 ∙ sym (noticed-same e);
        unwanted = λ at m lives noticed has. let old = fields-were ready p e at m has in (ready.right.counted e).unwanted old.0 m (living-was e lives) (sym (noticed-same e) ∙ noticed) old.1;
      }

  heard-was : (e : EndId) (j h : ℕ) → IsHeard x e j h → IsHeard w e j h
  heard-was e j h (inl a) = let old = fields-were ready p (opposite e) a.stand a.fields a.are in inl (record { stand = old.0; fields = a.fields; are = old.1; hint = a.hint })
  heard-was e j h (inr a) = inr (landed-was ready p (IsNews (opposite e) j h) (emptied-news (opposite e) j h q.what).0 a)

  honest-landed : (e : EndId) → IsHonest x e
  honest-landed e at m j h has heard = by (fields-before ready p e at m has)
    where
      by : HasFields w e at m ⊎ (IsAmong ms e × (at ≡ At k) × HasFields w e Flying m) → IsNoMore at m.hops j h
      by (inl same) = ready.right.honest e at m j h same (heard-was e j h heard)
      by (inr flew) =
          let below : h < m.hops = ready.right.honest e Flying m j h flew.2 (heard-was e j h heard) in
          subst (λ z. IsNoMore z m.hops j h) (sym flew.1) (omega (arith, below), λ same. absurd (omega (arith, below, same)))

  asked-landed : (e : EndId) → AreAsked x then_state e
  asked-landed e =
      record {
        last = λ j o n there asked. last j o n asked (view-then j e o there);
        cancelled = λ j o n u there withdrawing holds. cancelled j o n u withdrawing holds (view-then j e o there);
      }
    where
      last : (j : ℕ) (o : HereView) (n : ℕ) → IsAskedAs n o.inward → (w.entry j e ≡ entry.Here o) ⊎ ((a : IsAmong ms e) × (j ≡ k) × (o ≡ arrival ready p a.value)) → n ≡ o.value.asked
      last j o n asked (inl was) = (ready.right.asked e).last j o n was asked
      last j o n asked (inr now) = absurd (subst (λ (z : HereView). IsAskedAs n z.inward) now.2 asked)

      cancelled : (j : ℕ) (o : HereView) (n : ℕ) (u : Pid) → o.inward ≡ kernel_inward.Withdrawing n → o.holder ≡ holder.Owner u → (w.entry j e ≡ entry.Here o) ⊎ ((a : IsAmong ms e) × (j ≡ k) × (o ≡ arrival ready p a.value))
          → (s.process u.0).phase ≡ phase.Cancelling e
      cancelled j o n u withdrawing holds (inl was) = (ready.right.asked e).cancelled j o n u was withdrawing holds
      cancelled j o n u withdrawing holds (inr now) = absurd (let both : kernel_inward.Idle ≡ kernel_inward.Withdrawing n = sym (ap (λ (z : HereView). z.inward) now.2) ∙ withdrawing in cc)

  served-landed : (e : EndId) → IsServed x t e
  served-landed e j o n at m there asked unposted lives has = by (view-then j e o there)
    where
      by : (w.entry j e ≡ entry.Here o) ⊎ ((a : IsAmong ms e) × (j ≡ k) × (o ≡ arrival ready p a.value)) → n ≤ m.served
      by (inl was) =
          let old = fields-were ready p (opposite e) at m has in
          ready.right.served e j o n old.0 m was asked (sym (posted-same e) ∙ unposted) (living-was (opposite e) lives) old.1
      by (inr now) = absurd (subst (λ (z : HereView). IsAskedAs n z.inward) now.2 asked)

  unserved-was : (e : EndId) (m : MovingPicture) (n j h : ℕ) → IsUnserved x e m n j h → IsUnserved w e m n j h
  unserved-was e m n j h (inl asks) = inl asks
  unserved-was e m n j h (inr asks) = inr (asks.0, landed-was ready p (IsAsking e n j h) (emptied-asking e n j h q.what).0 asks.1)

  wanted-landed : (e : EndId) → AreWanted x t e
  wanted-landed e =
      record {
        kept = λ at m opens has. let old = fields-were ready p e at m has in (ready.right.wanted e).kept old.0 m (open-was e opens) old.1;
        same = λ at m n j h o a g opens has one other.
            let old = fields-were ready p e at m has in
            (ready.right.wanted e).same old.0 m n j h o a g (open-was e opens) old.1 (unserved-was e m n j h one) (unserved-was e m o a g other);
        posted = λ at m n j h opens has one.
            let old = fields-were ready p e at m has in
            posted-same (opposite e) ∙ (ready.right.wanted e).posted old.0 m n j h (open-was e opens) old.1 (unserved-was e m n j h one);
        site = λ at m n j h opens has one lives.
            let old = fields-were ready p e at m has in
            here-landed ready p j (opposite e) (λ z. (z.value.hops ≡ h) × (z.value.asked ≡ n))
            ((ready.right.wanted e).site old.0 m n j h (open-was e opens) old.1 (unserved-was e m n j h one) (living-was (opposite e) lives));
        unwanted = λ at m n opens has low one.
            let old = fields-were ready p e at m has in
            let there = (ready.right.wanted e).unwanted old.0 m n (open-was e opens) old.1 low (landed-was ready p (IsUnwantOf e n) (emptied-unwant e n q.what).0 one) in
            (there.0, here-landed ready p there.0 (opposite e) (λ z. is_withdrawing z.inward ≡ true) there.1);
      }

  once-landed : (e : EndId) → AreSentOnce x t e
  once-landed e =
      record {
        message = landed-number ready p (is_message_of e) (emptied-message e q.what) ∙ (ready.right.once e).message ∙ sym (messages e);
        taken = let same = number in let most = (ready.right.once e).taken in let kind = takens e in omega (arith, same, most, kind);
        told = λ lives. number ∙ (ready.right.once e).told (living-was e lives) ∙ sym (takens e);
      }
    where
      number : how_many (is_taken_of e) x ≡ how_many (is_taken_of e) w
      number = landed-number ready p (is_taken_of e) (emptied-telling e q.what)

      messages : (e : EndId) → one_if (is_some (matched_message (t e).outward)) ≡ one_if (is_some (matched_message (s.ends e).outward))
      messages =
          each-owner ready p (λ e z. one_if (is_some (matched_message z.outward)) ≡ one_if (is_some (matched_message (s.ends e).outward))) (sym (ap (λ z. one_if (is_some (matched_message z))) (packed ready p).1)) (λ e a. refl)
          (λ e apart none. refl)

      takens : (e : EndId) → one_if (is_taken (t e).outward) ≡ one_if (is_taken (s.ends e).outward)
      takens =
          each-owner ready p (λ e z. one_if (is_taken z.outward) ≡ one_if (is_taken (s.ends e).outward)) (sym (ap (λ z. one_if (is_taken z)) (packed ready p).1)) (λ e a. refl) (λ e apart none. refl)

  site-landed : (j : ℕ) (e : EndId) (P : HereView → Type 0) → (is_living (s.ends e).place ≡ true → IsHereAnd (w.entry j e) P) → is_living (t e).place ≡ true → IsHereAnd (x.entry j e) P
  site-landed j e P is lives = here-landed ready p j e P (is (living-was e lives))

  -- the packet without its values
  new-right : (what : PictureWhat) → is_message_of f what ≡ true → IsPacketRight w s.ends from k what → IsPacketRight x t from k (emptied what)
  new-right (packet.Parcel e n wanted at hops bytes os) of is =
      record {
        matched = subst (λ z. (t z).outward ≡ outward.Matched (record { bytes = bytes; carried = [] })) sender (ap (λ (z : End). z.outward) (owners-sender ready p) ∙ ap (λ (z : Message). outward.Matched (record { bytes = z.bytes; carried = [] })) same);
        number = sent-same (opposite e) ∙ is.number;
        sender = is.sender;
        site = site-landed from (opposite e) (λ z. z.value.hops ≡ hops) is.site;
        meets = λ opens. here-landed ready p k e (λ z. IsAskedAs wanted z.inward) (is.meets (open-was e opens));
      }
    where
      sender : f ≡ opposite e
      sender = sym (opposite-twice f) ∙ ap opposite (end_eq-same (opposite f) e of)

      same : (packed ready p).0 ≡ record { bytes = bytes; carried = ends_in os }
      same = message-same (packed ready p).0 (record { bytes = bytes; carried = ends_in os }) (sym (packed ready p).1 ∙ ap (λ z. (s.ends z).outward) sender ∙ is.matched)
  new-right (packet.Back e n os) of is =
      record {
        matched =
            record {
              message = record { bytes = (packed ready p).0.bytes; carried = [] };
              matched = subst (λ z. (t z).outward ≡ outward.Matched (record { bytes = (packed ready p).0.bytes; carried = [] })) (end_eq-same f e of) (ap (λ (z : End). z.outward) (owners-sender ready p));
              carries = refl;
              number = sent-same e ∙ is.matched.number;
            };
        untaken = open-same (opposite e) ∙ is.untaken;
        site = site-landed k e (λ z. Unit {0}) is.site;
      }
  new-right _ of is = absurd (true≢false (sym of))

  -- one that is left
  left-right : (j h : ℕ) (z : Picture) → Contains (b.left j h) z → IsPacketRight w s.ends j h z.what → IsPacketRight x t j h z.what
  left-right j h z has = right z.what refl
    where
      another : (e : EndId) → is_message_of e z.what ≡ true → end_eq f e ≡ false
      another e of = by (end_eq f e) refl
        where
          by : (a : Bool) → end_eq f e ≡ a → a ≡ false
          by true same = absurd (message-alone ready p (record { from = j; to = h; packet = z; there = has; is = subst (λ o. is_message_of o z.what ≡ true) (sym (end_eq-same f e same)) of }))
          by false apart = refl

      takens : (e : EndId) → (s.ends e).outward ≡ outward.Taken → (t e).outward ≡ outward.Taken
      takens =
          each-owner ready p (λ e o. (s.ends e).outward ≡ outward.Taken → o.outward ≡ outward.Taken) (λ is. absurd (let both : outward.Matched (packed ready p).0 ≡ outward.Taken = sym (packed ready p).1 ∙ is in cc)) (λ e a is. is)
          (λ e apart none is. is)

      gone : (e : EndId) → (s.ends e).place ≡ place.Destroyed → (t e).place ≡ place.Destroyed
      gone =
          each-owner ready p (λ e o. (s.ends e).place ≡ place.Destroyed → o.place ≡ place.Destroyed) (λ is. is)
          (λ e a is. absurd (let both : place.InMessage f (s.ends f).sent ≡ place.Destroyed = sym (inside ready p e a) ∙ is in cc)) (λ e apart none is. is)

      right : (what : PictureWhat) → z.what ≡ what → IsPacketRight w s.ends j h what → IsPacketRight x t j h what
      right (packet.Parcel e n wanted at hops bytes os) kind is =
          record {
            matched = outward-same-at (opposite e) (another (opposite e) (ap (is_message_of (opposite e)) kind ∙ ap (λ o. end_eq o e) (opposite-twice e) ∙ end_eq-refl e)) ∙ is.matched;
            number = sent-same (opposite e) ∙ is.number;
            sender = is.sender;
            site = site-landed j (opposite e) (λ o. o.value.hops ≡ hops) is.site;
            meets = λ opens. here-landed ready p h e (λ o. IsAskedAs wanted o.inward) (is.meets (open-was e opens));
          }
      right (packet.Back e n os) kind is =
          record {
            matched =
                record {
                  message = is.matched.message;
                  matched = outward-same-at e (another e (ap (is_message_of e) kind ∙ end_eq-refl e)) ∙ is.matched.matched;
                  carries = is.matched.carries;
                  number = sent-same e ∙ is.matched.number;
                };
            untaken = open-same (opposite e) ∙ is.untaken;
            site = site-landed h e (λ o. Unit {0}) is.site;
          }
      right (packet.Taken e n at hops) kind is = record { taken = takens e is.taken; number = sent-same e ∙ is.number; taker = is.taker; site = site-landed h e (λ o. Unit {0}) is.site }
      right (packet.Gone e at) kind is = gone (opposite e) is
      right (packet.Unwanted e n at hops) kind is = λ noticed. here-landed ready p h e (λ o. o.inward ≡ kernel_inward.Withdrawing n) (is (sym (noticed-same e) ∙ noticed))
      right _ kind is = tt

  packets-landed : Each x (λ j h z. IsPacketRight x t j h z)
  packets-landed =
      swapped-each b from q (without_values q) ready.taken (settles p ms (w.entry k)) (λ j h z. IsPacketRight w s.ends j h z) (λ j h z. IsPacketRight x t j h z) ready.right.packets left-right
      (new-right q.what ready.carries (All-contains (λ z. IsPacketRight w s.ends from k z.what) (w.packets from k) q (ready.right.packets from k) (stood ready p)))

  pub landed-right : AreRight i x then_state
  landed-right =
      record {
        named = named-landed;
        few = λ e at m has. let old = fields-were ready p e at m has in ready.right.few e old.0 m old.1;
        marked = marked-landed;
        counted = counted-landed;
        honest = honest-landed;
        asked = asked-landed;
        cancelling = λ o e is. here-landed ready p (home_of s o) e (λ z. is_withdrawing z.inward ≡ true) (ready.right.cancelling o e is);
        served = served-landed;
        wanted = wanted-landed;
        unwanted = λ e noticed. let same = landed-number ready p (is_unwanted_to e) (emptied-voids e q.what) in let most = ready.right.unwanted e (sym (noticed-same e) ∙ noticed) in omega (arith, same, most);
        once = once-landed;
        packets = packets-landed;
      }
