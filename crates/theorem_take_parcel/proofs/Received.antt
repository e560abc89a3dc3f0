-- A parcel without ends that meets its receive is replaced by the news that came with it, and a taken is sent: all clauses on links are true
-- then.
use Rattle.std.proofs.Common.{◌≡◌, ◌⊎◌, ◌↔◌, inl, inr, ℕ, ◌≤◌, Bool, true, false, List, [], length, Contains, Some, is_some, refl, sym, ap, subst, ◌∙◌, arith, true≢false, lt-ltb}
use Rattle.std.proofs.lemmas.List.Elements.{Contains-append_cases}
use Rattle.charlotte_calls.specs.Names.{opposite}
use Rattle.charlotte_packets.specs.Packets.{is_addressed}
use Rattle.charlotte_calls.specs.declared.names.EndId.{EndId}
use Rattle.charlotte_calls.specs.declared.names.Pid.{Pid}
use Rattle.charlotte_packets.specs.declared.picture.MovingPicture.{MovingPicture}
use Rattle.charlotte_packets.specs.declared.picture.Picture.{Picture}
use Rattle.charlotte_packets.specs.declared.picture.PictureWhat.{PictureWhat}
use Rattle.charlotte_packets.specs.declared.picture.PictureWhat.TheVariants as packet
use Rattle.end_table.proofs.EndEq.{end_eq-refl, end_eq-same, end_eq-sym}
use Rattle.end_table.specs.Place.{end_eq}
use Rattle.end_table.specs.Table.{IsHereAnd}
use Rattle.end_table.specs.declared.entry.Entry.{Entry}
use Rattle.end_table.specs.declared.entry.Entry.TheVariants as entry
use Rattle.end_table.specs.declared.entry.HereView.{HereView}
use Rattle.end_table.specs.declared.entry.Holder.{Holder}
use Rattle.end_table.specs.declared.entry.Holder.TheVariants as holder
use Rattle.end_table.specs.declared.entry.Inward.{Inward as KernelInward}
use Rattle.end_table.specs.declared.entry.Inward.TheVariants as kernel_inward
use Rattle.end_table.specs.declared.entry.Outward.{Outward as KernelOutward}
use Rattle.end_table.specs.declared.entry.Outward.TheVariants as kernel_outward
use Rattle.kernel_sound.specs.Sound.{addressee}
use Rattle.kernel_step.specs.Actions.{is_withdrawing}
use Rattle.kernel_step.specs.Rows.{ends_in, is_here}
use Rattle.service_lawful.specs.Consistent.{is_open}
use Rattle.service_step.specs.Ends.{is_living, is_made, is_posted, is_taken, matched_message}
use Rattle.service_step.specs.State.{Process, State}
use Rattle.service_step.specs.declared.state.End.{End}
use Rattle.service_step.specs.declared.state.Inward.{Inward}
use Rattle.service_step.specs.declared.state.Message.{Message}
use Rattle.service_step.specs.declared.state.Outward.TheVariants as outward
use Rattle.service_step.specs.declared.state.Phase.TheVariants as phase
use Rattle.service_step.specs.declared.state.Place.TheVariants as place
use Rattle.theorem_take_want.proofs.Ends.{inward-same, outward-same}
use Rattle.theorem_take_want.proofs.Lists.{first, none-there}
use Rattle.theorem_take_want.proofs.Packets.{each-after, left-before, left_or_sent, left-was, taken-there, under_way-sent}
use Rattle.theorem_take_want.specs.Change.{Change, Changes, taken_at}
use Rattle.theorem_take_want.specs.Under.{IsLeft}
use Rattle.theorem_meaning.proofs.Ends.{opposite-apart, opposite-twice}
use Rattle.theorem_meaning.proofs.Sums.{over-same}
use Rattle.theorem_meaning.specs.Fields.{Stand, HasFields, IsAskedAs, IsAsking, IsNews, IsNoMore, IsUnserved, IsUnwantOf}
use Rattle.theorem_meaning.specs.Invariant.{AreAsked, AreCounted, AreMarked, AreNamed, AreRight, AreSentOnce, AreWanted, IsHonest, IsPacketRight, IsServed, NamesBelow, is_message_of, is_taken_of, is_unwanted_to}
use Rattle.theorem_meaning.specs.Packets.{Each, IsBackOf, IsParcelFor, IsParcelOf, IsTakenOf, IsUnderWay, IsUnwantedOf, Links, how_many, one_if, over_kernels, values_for, values_of}
use Rattle.theorem_meaning.specs.StandsFor.{AreLinksOf, IsEndOf, IsInMessage, IsInwardOf, IsOutwardOf, IsWaitingWith, home_of, standing}
use Rattle.theorem_take_want.proofs.Alike.{some-same}
use Rattle.theorem_take_want.proofs.Places.{fields-here}
use Rattle.theorem_ends_arrived.specs.Swapped.{instead, news}
use Rattle.theorem_ends_arrived.proofs.Swap.{swapped-each}
use Rattle.theorem_ends_arrived.proofs.Turned.{with_entry}
use Rattle.theorem_meaning.proofs.Plain.{none-in, unwant-asks}
use Rattle.theorem_take_parcel.specs.Received.{IsReceived, IsReceiving, answering, bare_parcel}
use Rattle.theorem_take_parcel.proofs.Meeting.{agrees, at-below, informed, is-right, met-after, met-alone, met-case, met-fields, met-number, met-still, met-sum, met-was, near, no-unwanted, not-posted, over_view, said, stood, view-case, view-still, view-was, was-there}

-- the service says that the message of a send was taken, once a taken for it is under way
taken-then : (w z : Links) (e : EndId) (n : ℕ) (x : KernelOutward) (m : Message) → IsUnderWay z (IsTakenOf e n) → IsOutwardOf w e n x (outward.Matched m) → IsOutwardOf z e n x outward.Taken
taken-then w z e n (kernel_outward.Matched a) m told is = (is.0, subst (λ b. IsUnderWay z (IsTakenOf e b)) (sym is.0) told)
taken-then w z e n _ m told is = absurd is

module _ {i : ℕ} {w v : Links} {c : Change} {b : Changes w c v} {from stamp : ℕ} {s : State} {to : EndId} {n r at hops : ℕ} {bytes : List ℕ} {p : Pid} {o : HereView} (ready : IsReceiving i b from stamp s to n r at hops bytes p o)
    (inn : KernelInward) (z : Links) (sends : Changes (informed ready inn) (answering c to n at o) z) (xi : Inward) (t : EndId → End) (g : ℕ → Process) (is : IsReceived s to inn xi t g) where
  abbrev k : ℕ
  k = c.kernel

  abbrev other : EndId
  other = opposite to

  abbrev q : Picture
  q = bare_parcel stamp to n r at hops bytes

  abbrev answer : PictureWhat
  answer = packet.Taken other n k o.value.hops

  abbrev u : HereView
  u = over_view ready inn

  abbrev state : State
  state = record s { ends = t; process = g }

  was : (P : PictureWhat → Type 0) → (P (packet.Moved to at hops) → ⊥) → (P answer → ⊥) → IsUnderWay z P → IsUnderWay w P
  was = met-was ready inn z sends

  still : (P : PictureWhat → Type 0) → (P q.what → ⊥) → IsUnderWay w P → IsUnderWay z P
  still = met-still ready inn z sends

  apart : end_eq to other ≡ false
  apart = opposite-apart to

  sends-matched : (s.ends other).outward ≡ outward.Matched (record { bytes = bytes; carried = [] })
  sends-matched = (is-right ready).matched

  -- ---- the ends of the service: the receiver, the sender and the others
  each-end : (P : EndId → End → Type 0) → P to (record (s.ends to) { inward = xi }) → P other (record (s.ends other) { outward = outward.Taken })
      → ((e : EndId) → end_eq to e ≡ false → end_eq other e ≡ false → P e (s.ends e)) → (e : EndId) → P e (t e)
  each-end P mine its rest e = by (end_eq to e) refl
    where
      second : end_eq to e ≡ false → (a : Bool) → end_eq other e ≡ a → P e (t e)
      second far true same = subst (λ a. P a (t a)) (end_eq-same other e same) (subst (P other) (sym is.sender) its)
      second far false away = subst (P e) (sym (is.others e far away)) (rest e far away)

      by : (a : Bool) → end_eq to e ≡ a → P e (t e)
      by true same = subst (λ a. P a (t a)) (end_eq-same to e same) (subst (P to) (sym is.at) mine)
      by false far = second far (end_eq other e) refl

  place-same : (e : EndId) → (t e).place ≡ (s.ends e).place
  place-same = each-end (λ e a. a.place ≡ (s.ends e).place) refl refl (λ e far away. refl)

  sent-same : (e : EndId) → (t e).sent ≡ (s.ends e).sent
  sent-same = each-end (λ e a. a.sent ≡ (s.ends e).sent) refl refl (λ e far away. refl)

  noticed-same : (e : EndId) → (t e).noticed ≡ (s.ends e).noticed
  noticed-same = each-end (λ e a. a.noticed ≡ (s.ends e).noticed) refl refl (λ e far away. refl)

  open-same : (e : EndId) → is_open (t e) ≡ is_open (s.ends e)
  open-same = each-end (λ e a. is_open a ≡ is_open (s.ends e)) refl refl (λ e far away. refl)

  inward-same-at : (e : EndId) → (e ≡ to → ⊥) → (t e).inward ≡ (s.ends e).inward
  inward-same-at = each-end (λ e a. (e ≡ to → ⊥) → a.inward ≡ (s.ends e).inward) (λ none. absurd (none refl)) (λ none. refl) (λ e far away none. refl)

  outward-same-at : (e : EndId) → end_eq other e ≡ false → (t e).outward ≡ (s.ends e).outward
  outward-same-at = each-end (λ e a. end_eq other e ≡ false → a.outward ≡ (s.ends e).outward) (λ far. refl) (λ far. absurd (true≢false (sym (end_eq-refl other) ∙ far))) (λ e far away none. refl)

  living-was : (e : EndId) → is_living (t e).place ≡ true → is_living (s.ends e).place ≡ true
  living-was e lives = sym (ap (λ a. is_living a) (place-same e)) ∙ lives

  open-was : (e : EndId) → is_open (t e) ≡ true → is_open (s.ends e) ≡ true
  open-was e opens = sym (open-same e) ∙ opens

  -- ---- clauses 2 to 5

  standing-still : (e : EndId) → standing z e ≡ standing w e
  unfolding standing
  standing-still e =
      let here : over_kernels (λ j. one_if (is_here (z.entry j e))) ≡ over_kernels (λ j. one_if (is_here (w.entry j e)))
      = over-same (λ j. one_if (is_here (w.entry j e))) (λ j. one_if (is_here (z.entry j e))) (λ j. one j (met-case ready inn z sends j e)) in
      let values = met-sum ready inn z sends (λ a. values_for e (values_of a)) in
      omega (arith, here, values)
    where
      one : (j : ℕ) → ((z.entry j e ≡ w.entry j e) × (j ≡ k → e ≡ to → ⊥)) ⊎ ((j ≡ k) × (e ≡ to) × (z.entry j e ≡ entry.Here u)) → one_if (is_here (z.entry j e)) ≡ one_if (is_here (w.entry j e))
      one j (inl stays) = ap (λ a. one_if (is_here a)) stays.0
      one j (inr now) = ap (λ a. one_if (is_here a)) now.2 ∙ sym (ap (λ a. one_if (is_here a)) (was-there ready inn z sends j e now.0 now.1))

  held : (j : ℕ) (e : EndId) (h : Holder) → IsHereAnd (w.entry j e) (λ a. a.holder ≡ h) ↔ IsHereAnd (z.entry j e) (λ a. a.holder ≡ h)
  held j e h = (view-still ready inn z sends j e (λ a. a.holder ≡ h) (λ same a. a), view-was ready inn z sends j e (λ a. a.holder ≡ h) (λ a. a))

  waiting : (j : ℕ) (e : EndId) (m : ℕ) → IsHereAnd (w.entry j e) (λ a. IsWaitingWith m a.outward) ↔ IsHereAnd (z.entry j e) (λ a. IsWaitingWith m a.outward)
  waiting j e m = (view-still ready inn z sends j e (λ a. IsWaitingWith m a.outward) (λ same a. a), view-was ready inn z sends j e (λ a. IsWaitingWith m a.outward) (λ a. a))

  in_message-same : (e f : EndId) (m : ℕ) → IsInMessage w e f m ↔ IsInMessage z e f m
  in_message-same e f m = (still_in, was_in)
    where
      IsParcel : PictureWhat → Type 0
      IsParcel a = IsParcelOf f m a × Contains (ends_in (values_of a)) e

      IsBack : PictureWhat → Type 0
      IsBack a = IsBackOf f m a × Contains (ends_in (values_of a)) e

      still_in : IsInMessage w e f m → IsInMessage z e f m
      still_in (inl x) = inl (record { at = x.at; enclosed = (held x.at e (holder.EnclosedIn f)).0 x.enclosed; waiting = (waiting x.at f m).0 x.waiting })
      still_in (inr (inl x)) = inr (inl (still IsParcel (λ a. none-there e a.1) x))
      still_in (inr (inr x)) = inr (inr (still IsBack (λ a. a.0) x))

      was_in : IsInMessage z e f m → IsInMessage w e f m
      was_in (inl x) = inl (record { at = x.at; enclosed = (held x.at e (holder.EnclosedIn f)).1 x.enclosed; waiting = (waiting x.at f m).1 x.waiting })
      was_in (inr (inl x)) = inr (inl (was IsParcel (λ a. a.0) (λ a. a.0) x))
      was_in (inr (inr x)) = inr (inr (was IsBack (λ a. a.0) (λ a. a.0) x))

  takens-same : (e : EndId) → end_eq other e ≡ false → (m : ℕ) → IsUnderWay z (IsTakenOf e m) ↔ IsUnderWay w (IsTakenOf e m)
  takens-same e far m = (was (IsTakenOf e m) (λ a. a) (λ a. true≢false (sym (end_eq-refl other) ∙ subst (λ x. end_eq other x ≡ false) (sym a.0) far)), still (IsTakenOf e m) (λ a. a))

  asked-same : (e : EndId) → end_eq to e ≡ false → (j : KernelInward) (x : Inward) → IsInwardOf w e j x → IsInwardOf z e j x
  asked-same e far j x =
      inward-same w z e
      (λ a m. (was (IsParcelFor e a m) (λ y. y) (λ y. y), still (IsParcelFor e a m) (λ y. true≢false (sym (end_eq-refl to) ∙ subst (λ x. end_eq to x ≡ false) (sym y.0) far))))
      (λ a. (was (IsUnwantedOf e a) (λ y. y) (λ y. y), still (IsUnwantedOf e a) (λ y. y))) j x

  told : IsUnderWay z (IsTakenOf other n)
  told = under_way-sent sends (IsTakenOf other n) (record { to = at; what = answer; there = first (at, answer) []; is = (refl, refl) })

  agree-receiver : (a : Pid) (x : HereView) → (s.ends to).place ≡ place.Owned a → z.entry (home_of s a) to ≡ entry.Here x → IsEndOf z to x (record (s.ends to) { inward = xi })
  agree-receiver a x owned has = by (view-case ready inn z sends (home_of s a) to x has)
    where
      by : ((w.entry (home_of s a) to ≡ entry.Here x) × (to ≡ to → ⊥)) ⊎ ((home_of s a ≡ k) × (to ≡ to) × (x ≡ u)) → IsEndOf z to x (record (s.ends to) { inward = xi })
      by (inl stays) = absurd (stays.1 refl)
      by (inr now) =
          subst (λ y. IsEndOf z to y (record (s.ends to) { inward = xi })) (sym now.2)
          (record {
            sent = (agrees ready).sent;
            noticed = (agrees ready).noticed;
            outward = outward-same w z to (takens-same to (end_eq-sym other to ∙ apart)) (s.ends to).sent o.outward (s.ends to).outward (agrees ready).outward;
            inward = is.agree z;
          })

  agree-was : (e : EndId) → end_eq to e ≡ false → (a : Pid) (x : HereView) → (s.ends e).place ≡ place.Owned a → z.entry (home_of s a) e ≡ entry.Here x → IsEndOf w e x (s.ends e)
  agree-was e far a x owned has = by (view-case ready inn z sends (home_of s a) e x has)
    where
      by : ((w.entry (home_of s a) e ≡ entry.Here x) × (e ≡ to → ⊥)) ⊎ ((home_of s a ≡ k) × (e ≡ to) × (x ≡ u)) → IsEndOf w e x (s.ends e)
      by (inl stays) = ready.links.agree e a x owned stays.0
      by (inr now) = absurd (true≢false (sym (end_eq-refl to) ∙ subst (λ y. end_eq to y ≡ false) now.1 far))

  agree-sender : (a : Pid) (x : HereView) → (s.ends other).place ≡ place.Owned a → z.entry (home_of s a) other ≡ entry.Here x → IsEndOf z other x (record (s.ends other) { outward = outward.Taken })
  agree-sender a x owned has =
      let old = agree-was other apart a x owned has in
      record {
        sent = old.sent;
        noticed = old.noticed;
        outward =
            taken-then w z other (s.ends other).sent x.outward (record { bytes = bytes; carried = [] }) (subst (λ m. IsUnderWay z (IsTakenOf other m)) (sym (is-right ready).number) told)
            (subst (IsOutwardOf w other (s.ends other).sent x.outward) sends-matched old.outward);
        inward = asked-same other apart x.inward (s.ends other).inward old.inward;
      }

  agree-other : (e : EndId) → end_eq to e ≡ false → end_eq other e ≡ false → (a : Pid) (x : HereView) → (s.ends e).place ≡ place.Owned a → z.entry (home_of s a) e ≡ entry.Here x → IsEndOf z e x (s.ends e)
  agree-other e far away a x owned has =
      let old = agree-was e far a x owned has in
      record {
        sent = old.sent;
        noticed = old.noticed;
        outward = outward-same w z e (takens-same e away) (s.ends e).sent x.outward (s.ends e).outward old.outward;
        inward = asked-same e far x.inward (s.ends e).inward old.inward;
      }

  pub received-links : AreLinksOf z state
  received-links =
      record {
        once = λ e. standing-still e ∙ ready.links.once e ∙ sym (ap (λ a. one_if (is_living a)) (place-same e));
        owned = λ e a. (λ at. (held (home_of s a) e (holder.Owner a)).0 ((ready.links.owned e a).0 (sym (place-same e) ∙ at)), λ has. place-same e ∙ (ready.links.owned e a).1 ((held (home_of s a) e (holder.Owner a)).1 has));
        in_message = λ e f m. (λ at. (in_message-same e f m).0 ((ready.links.in_message e f m).0 (sym (place-same e) ∙ at)), λ has. place-same e ∙ (ready.links.in_message e f m).1 ((in_message-same e f m).1 has));
        agree = each-end (λ e y. (a : Pid) (x : HereView) → y.place ≡ place.Owned a → z.entry (home_of s a) e ≡ entry.Here x → IsEndOf z e x y) agree-receiver agree-sender agree-other;
      }

  -- ---- what is true of every world

  named-still : AreNamed (length s.made) z t
  named-still =
      record {
        entries = λ j e. names j e (met-case ready inn z sends j e);
        away = λ j e far. away j e far (met-case ready inn z sends j e);
        lists = λ j h far. none-in (z.packets j h) (λ a has. nothing j h far a (left_or_sent sends j h a has));
        addressed = each-after sends (λ j h a. is_addressed a (length s.made) ≡ true) (λ j h a. is_addressed a (length s.made) ≡ true)
            (swapped-each b from q (news to at hops q) ready.taken (with_entry to (entry.Here u) (w.entry k)) (λ j h a. is_addressed a (length s.made) ≡ true) (λ j h a. is_addressed a (length s.made) ≡ true)
            ready.right.named.addressed (λ j h a has y. y) (lt-ltb at (length s.made) (at-below ready)))
            (λ j h a has y. y)
            (λ j what has. subst (λ a. is_addressed a (length s.made) ≡ true) (said ready inn z sends j what has).1 (lt-ltb k (length s.made) (near ready).1));
        addressees = each-after sends (λ j h a. is_made (t (addressee a)).place ≡ true) (λ j h a. is_made (t (addressee a)).place ≡ true)
            (swapped-each b from q (news to at hops q) ready.taken (with_entry to (entry.Here u) (w.entry k)) (λ j h a. is_made (s.ends (addressee a)).place ≡ true) (λ j h a. is_made (t (addressee a)).place ≡ true)
            ready.right.named.addressees (λ j h a has y. ap (λ x. is_made x) (place-same (addressee a.what)) ∙ y)
            (ap (λ x. is_made x) (place-same to) ∙ ap (λ x. is_made x) ready.owned)) (λ j h a has y. y)
            (λ j what has. subst (λ a. is_made (t (addressee a)).place ≡ true) (said ready inn z sends j what has).1 (ap (λ x. is_made x) (place-same other) ∙ ready.both));
      }
    where
      names : (j : ℕ) (e : EndId) → ((z.entry j e ≡ w.entry j e) × (j ≡ k → e ≡ to → ⊥)) ⊎ ((j ≡ k) × (e ≡ to) × (z.entry j e ≡ entry.Here u)) → NamesBelow (length s.made) (z.entry j e)
      names j e (inl stays) = subst (NamesBelow (length s.made)) (sym stays.0) (ready.right.named.entries j e)
      names j e (inr now) = subst (NamesBelow (length s.made)) (sym now.2) (subst (NamesBelow (length s.made)) (was-there ready inn z sends j e now.0 now.1) (ready.right.named.entries j e))

      away : (j : ℕ) (e : EndId) → length s.made ≤ j → ((z.entry j e ≡ w.entry j e) × (j ≡ k → e ≡ to → ⊥)) ⊎ ((j ≡ k) × (e ≡ to) × (z.entry j e ≡ entry.Here u)) → z.entry j e ≡ entry.Nothing
      away j e far (inl stays) = stays.0 ∙ ready.right.named.away j e far
      away j e far (inr now) = let below = (near ready).1 in let same = now.0 in absurd (omega (arith, below, same, far))

      old : (j h : ℕ) → (length s.made ≤ j) ⊎ (length s.made ≤ h) → (a : Picture) → Contains (taken_at (instead c from (news to at hops q)) j h) a ⊎ Contains (b.left j h) a → ⊥
      old j h far a (inr left) = none-there a (subst (λ l. Contains l a) (ready.right.named.lists j h far) (left-before b j h a left))
      old j h far a (inl has) = by far
        where
          there : ((instead c from (news to at hops q)).taken ≡ Some (j, a)) × (h ≡ k)
          there = taken-there (instead c from (news to at hops q)) j h a has

          same : from ≡ j
          same = ap (λ (y : ℕ × Picture). y.0) (some-same {X = ℕ × Picture} (from, news to at hops q) (j, a) there.0)

          by : (length s.made ≤ j) ⊎ (length s.made ≤ h) → ⊥
          by (inl far) = let below = (near ready).0 in let at = same in omega (arith, below, at, far)
          by (inr far) = let below = (near ready).1 in let at = there.1 in omega (arith, below, at, far)

      nothing : (j h : ℕ) → (length s.made ≤ j) ⊎ (length s.made ≤ h) → (a : Picture) → Contains (sends.left j h) a ⊎ (Contains (answering c to n at o).packets (h, a.what) × (j ≡ k)) → ⊥
      nothing j h far a (inl left) = old j h far a (Contains-append_cases (taken_at (instead c from (news to at hops q)) j h) (b.left j h) a (left-before sends j h a left))
      nothing j h (inl far) a (inr has) = let below = (near ready).1 in let same = has.1 in omega (arith, below, same, far)
      nothing j h (inr far) a (inr has) = let below = at-below ready in let same = (said ready inn z sends h a.what has.0).0 in omega (arith, below, same, far)

  marked-still : (e : EndId) → AreMarked z t e
  marked-still e =
      record {
        destroyed = λ j m there. place-same e ∙ (ready.right.marked e).destroyed j m (mark j m there (met-case ready inn z sends j e));
        once = λ j h m l one two. (ready.right.marked e).once j h m l (mark j m one (met-case ready inn z sends j e)) (mark h l two (met-case ready inn z sends h e));
      }
    where
      mark : (j : ℕ) (m : MovingPicture) → z.entry j e ≡ entry.Destroyed m → ((z.entry j e ≡ w.entry j e) × (j ≡ k → e ≡ to → ⊥)) ⊎ ((j ≡ k) × (e ≡ to) × (z.entry j e ≡ entry.Here u)) → w.entry j e ≡ entry.Destroyed m
      mark j m there (inl stays) = sym stays.0 ∙ there
      mark j m there (inr now) = absurd (let both : entry.Here u ≡ entry.Destroyed m = sym now.2 ∙ there in cc)

  fields : (e : EndId) (stand : Stand) (m : MovingPicture) → HasFields z e stand m → HasFields w e stand m
  fields = met-fields ready inn z sends

  counted-still : (e : EndId) → AreCounted z t e
  counted-still e =
      record {
        sent = λ stand m lives has. (ready.right.counted e).sent stand m (living-was e lives) (fields e stand m has) ∙ sym (sent-same e);
        dead = λ stand m lives has. (ready.right.counted e).dead stand m (living-was e lives) (fields e stand m has) ∙ sym (noticed-same e);
        unwanted = λ stand m lives noticed has. (ready.right.counted e).unwanted stand m (living-was e lives) (sym (noticed-same e) ∙ noticed) (fields e stand m has);
      }

  honest-still : (e : EndId) → IsHonest z e
  honest-still e stand m j h has (inl x) = ready.right.honest e stand m j h (fields e stand m has) (inl (record { stand = x.stand; fields = x.fields; are = fields (opposite e) x.stand x.fields x.are; hint = x.hint }))
  honest-still e stand m j h has (inr x) = by (met-after ready inn z sends (IsNews (opposite e) j h) x)
    where
      truth : IsNews (opposite e) j h answer → IsNoMore stand m.hops j h
      truth new =
          let end : e ≡ to = sym (opposite-twice e) ∙ sym (ap opposite new.0) ∙ opposite-twice to in
          let f = fields-here (length s.made) w s.ends ready.few ready.right.named ready.right.marked ready.links.once to k o stand m ready.here (subst (λ y. HasFields w y stand m) end (fields e stand m has)) in
          let count : m.hops ≡ o.value.hops = ap (λ (y : MovingPicture). y.hops) f.1 in
          let same : o.value.hops ≡ h = new.2 in
          subst (λ y. IsNoMore y m.hops j h) (sym f.0) (omega (arith, count, same), λ equal. sym new.1)

      by : IsLeft b (IsNews (opposite e) j h) ⊎ IsNews (opposite e) j h (packet.Moved to at hops) ⊎ IsNews (opposite e) j h answer → IsNoMore stand m.hops j h
      by (inl left) = ready.right.honest e stand m j h (fields e stand m has) (inr (left-was b (IsNews (opposite e) j h) left))
      by (inr (inl new)) = ready.right.honest e stand m j h (fields e stand m has) (inr (record { from = from; to = k; packet = q; there = stood ready; is = new }))
      by (inr (inr new)) = truth new

  asked-still : (e : EndId) → AreAsked z state e
  asked-still e =
      record {
        last = λ j x a there asked. last j x a asked (view-case ready inn z sends j e x there);
        cancelled = λ j x a y there withdrawing holds. cancelled j x a y withdrawing holds (view-case ready inn z sends j e x there);
      }
    where
      last : (j : ℕ) (x : HereView) (a : ℕ) → IsAskedAs a x.inward → ((w.entry j e ≡ entry.Here x) × (e ≡ to → ⊥)) ⊎ ((j ≡ k) × (e ≡ to) × (x ≡ u)) → a ≡ x.value.asked
      last j x a asked (inl stays) = (ready.right.asked e).last j x a stays.0 asked
      last j x a asked (inr now) = absurd (is.over a (subst (λ (y : HereView). IsAskedAs a y.inward) now.2 asked))

      cancelled : (j : ℕ) (x : HereView) (a : ℕ) (y : Pid) → x.inward ≡ kernel_inward.Withdrawing a → x.holder ≡ holder.Owner y → ((w.entry j e ≡ entry.Here x) × (e ≡ to → ⊥)) ⊎ ((j ≡ k) × (e ≡ to) × (x ≡ u)) → (g y.0).phase ≡ phase.Cancelling e
      cancelled j x a y withdrawing holds (inl stays) = by (is.cancelled y e ((ready.right.asked e).cancelled j x a y stays.0 withdrawing holds))
        where
          by : ((g y.0).phase ≡ phase.Cancelling e) ⊎ (e ≡ to) → (g y.0).phase ≡ phase.Cancelling e
          by (inl same) = same
          by (inr mine) = absurd (stays.1 mine)
      cancelled j x a y withdrawing holds (inr now) = absurd (is.over a (subst (IsAskedAs a) (sym withdrawing ∙ ap (λ (y : HereView). y.inward) now.2) refl))

  served-still : (e : EndId) → IsServed z t e
  served-still e j x a stand m there asked unposted lives has = by (view-case ready inn z sends j e x there)
    where
      by : ((w.entry j e ≡ entry.Here x) × (e ≡ to → ⊥)) ⊎ ((j ≡ k) × (e ≡ to) × (x ≡ u)) → a ≤ m.served
      by (inl stays) = ready.right.served e j x a stand m stays.0 asked (sym (ap (λ y. is_posted y) (inward-same-at e stays.1)) ∙ unposted) (living-was (opposite e) lives) (fields (opposite e) stand m has)
      by (inr now) = absurd (is.over a (subst (λ (y : HereView). IsAskedAs a y.inward) now.2 asked))

  unserved-was : (e : EndId) (m : MovingPicture) (a j h : ℕ) → IsUnserved z e m a j h → IsUnserved w e m a j h
  unserved-was e m a j h (inl asks) = inl asks
  unserved-was e m a j h (inr asks) = inr (asks.0, was (IsAsking e a j h) (λ y. y) (λ y. y) asks.1)

  posted-still : (e : EndId) → is_posted (s.ends e).inward ≡ true → is_posted (t e).inward ≡ true
  posted-still = each-end (λ e a. is_posted (s.ends e).inward ≡ true → is_posted a.inward ≡ true) (λ posted. absurd (not-posted ready posted)) (λ posted. posted) (λ e far away posted. posted)

  wanted-still : (e : EndId) → AreWanted z t e
  wanted-still e =
      record {
        kept = λ stand m opens has. (ready.right.wanted e).kept stand m (open-was e opens) (fields e stand m has);
        same = λ stand m a j h y x f opens has one two. (ready.right.wanted e).same stand m a j h y x f (open-was e opens) (fields e stand m has) (unserved-was e m a j h one) (unserved-was e m y x f two);
        posted = λ stand m a j h opens has one. posted-still (opposite e) ((ready.right.wanted e).posted stand m a j h (open-was e opens) (fields e stand m has) (unserved-was e m a j h one));
        site = λ stand m a j h opens has one lives.
            view-still ready inn z sends j (opposite e) (λ y. (y.value.hops ≡ h) × (y.value.asked ≡ a)) (λ same y. y)
            ((ready.right.wanted e).site stand m a j h (open-was e opens) (fields e stand m has) (unserved-was e m a j h one) (living-was (opposite e) lives));
        unwanted = λ stand m a opens has low one.
            let old = was (IsUnwantOf e a) (λ y. y) (λ y. y) one in
            let there = (ready.right.wanted e).unwanted stand m a (open-was e opens) (fields e stand m has) low old in
            let asks = unwant-asks e a old.packet.what old.is in
            let posted = (ready.right.wanted e).posted stand m a asks.0 asks.1 (open-was e opens) (fields e stand m has) (inr (low, record { from = old.from; to = old.to; packet = old.packet; there = old.there; is = asks.2 })) in
            (there.0, view-still ready inn z sends there.0 (opposite e) (λ y. is_withdrawing y.inward ≡ true) (λ same y. absurd (not-posted ready (subst (λ x. is_posted (s.ends x).inward ≡ true) same posted))) there.1);
      }

  -- how many packets carry the message of an end, and tell that it was taken
  far-message : (e : EndId) → end_eq other e ≡ false → is_message_of e q.what ≡ false
  far-message e far = by (end_eq (opposite e) to) refl
    where
      by : (a : Bool) → end_eq (opposite e) to ≡ a → a ≡ false
      by true same =
          let end : other ≡ e = sym (ap opposite (end_eq-same (opposite e) to same)) ∙ opposite-twice e in
          absurd (true≢false (sym (end_eq-refl other) ∙ subst (λ a. end_eq other a ≡ false) (sym end) far))
      by false away = refl

  messages-far : (e : EndId) → end_eq other e ≡ false → how_many (is_message_of e) z ≡ one_if (is_some (matched_message (s.ends e).outward))
  messages-far e far =
      let number = met-number ready inn z sends (is_message_of e) refl in
      let none : one_if (is_message_of e q.what) ≡ 0 = ap one_if (far-message e far) in
      let once = (ready.right.once e).message in
      omega (arith, number, none, once)

  messages : (e : EndId) → how_many (is_message_of e) z ≡ one_if (is_some (matched_message (t e).outward))
  messages =
      each-end (λ e a. how_many (is_message_of e) z ≡ one_if (is_some (matched_message a.outward))) (messages-far to (end_eq-sym other to ∙ apart))
      (let number = met-number ready inn z sends (is_message_of other) refl in
      let mine : one_if (is_message_of other q.what) ≡ 1 = ap one_if (ap (λ a. end_eq a to) (opposite-twice to) ∙ end_eq-refl to) in
      let once : how_many (is_message_of other) w ≡ 1 = (ready.right.once other).message ∙ ap (λ a. one_if (is_some (matched_message a))) sends-matched in
      omega (arith, number, mine, once)) (λ e far away. messages-far e away)

  takens-far : (e : EndId) → end_eq other e ≡ false → how_many (is_taken_of e) z ≡ how_many (is_taken_of e) w
  takens-far e far =
      let number = met-number ready inn z sends (is_taken_of e) refl in
      let none : one_if (is_taken_of e answer) ≡ 0 = ap one_if (end_eq-sym e other ∙ far) in
      omega (arith, number, none)

  taken-now : how_many (is_taken_of other) z ≡ 1
  taken-now =
      let number = met-number ready inn z sends (is_taken_of other) refl in
      let mine : one_if (is_taken_of other answer) ≡ 1 = ap one_if (end_eq-refl other) in
      let before = (ready.right.once other).taken in
      let none : one_if (is_taken (s.ends other).outward) ≡ 0 = ap (λ a. one_if (is_taken a)) sends-matched in
      omega (arith, number, mine, before, none)

  takens-most : (e : EndId) → end_eq other e ≡ false → how_many (is_taken_of e) z ≤ one_if (is_taken (s.ends e).outward)
  takens-most e far = let same = takens-far e far in let most = (ready.right.once e).taken in omega (arith, same, most)

  once-still : (e : EndId) → AreSentOnce z t e
  once-still e =
      record {
        message = messages e;
        taken =
            each-end (λ e a. how_many (is_taken_of e) z ≤ one_if (is_taken a.outward)) (takens-most to (end_eq-sym other to ∙ apart)) (let one = taken-now in omega (arith, one))
            (λ e far away. takens-most e away) e;
        told = λ lives.
            each-end (λ e a. is_living (s.ends e).place ≡ true → how_many (is_taken_of e) z ≡ one_if (is_taken a.outward))
            (λ living. takens-far to (end_eq-sym other to ∙ apart) ∙ (ready.right.once to).told living) (λ living. taken-now) (λ e far away living. takens-far e away ∙ (ready.right.once e).told living) e (living-was e lives);
      }

  -- a packet that is left
  left-right : (j h : ℕ) (a : Picture) → Contains (b.left j h) a → IsPacketRight w s.ends j h a.what → IsPacketRight z t j h a.what
  left-right j h a has = right a.what refl
    where
      another : (e : EndId) → is_message_of e a.what ≡ true → end_eq other e ≡ false
      another e of = by (end_eq other e) refl
        where
          by : (x : Bool) → end_eq other e ≡ x → x ≡ false
          by true same = absurd (met-alone ready inn z sends (record { from = j; to = h; packet = a; there = has; is = subst (λ y. is_message_of y a.what ≡ true) (sym (end_eq-same other e same)) of }))
          by false far = refl

      takens : (e : EndId) → (s.ends e).outward ≡ outward.Taken → (t e).outward ≡ outward.Taken
      takens = each-end (λ e y. (s.ends e).outward ≡ outward.Taken → y.outward ≡ outward.Taken) (λ y. y) (λ y. refl) (λ e far away y. y)

      site : (j : ℕ) (e : EndId) → (is_living (s.ends e).place ≡ true → IsHereAnd (w.entry j e) (λ y. Unit {0})) → is_living (t e).place ≡ true → IsHereAnd (z.entry j e) (λ y. Unit {0})
      site j e y lives = view-still ready inn z sends j e (λ x. Unit {0}) (λ same x. tt) (y (living-was e lives))

      right : (what : PictureWhat) → a.what ≡ what → IsPacketRight w s.ends j h what → IsPacketRight z t j h what
      right (packet.Parcel e m wanted x hops bytes ms) kind y =
          record {
            matched = outward-same-at (opposite e) its ∙ y.matched;
            number = sent-same (opposite e) ∙ y.number;
            sender = y.sender;
            site = λ lives. view-still ready inn z sends j (opposite e) (λ l. l.value.hops ≡ hops) (λ same l. l) (y.site (living-was (opposite e) lives));
            meets = λ opens. view-still ready inn z sends h e (λ l. IsAskedAs wanted l.inward) (λ same l. absurd (true≢false (sym (end_eq-refl other) ∙ subst (λ d. end_eq other (opposite d) ≡ false) same its))) (y.meets (open-was e opens));
          }
        where
          its : end_eq other (opposite e) ≡ false
          its = another (opposite e) (ap (is_message_of (opposite e)) kind ∙ ap (λ d. end_eq d e) (opposite-twice e) ∙ end_eq-refl e)
      right (packet.Back e m ms) kind y =
          record {
            matched =
                record {
                  message = y.matched.message;
                  matched = outward-same-at e (another e (ap (is_message_of e) kind ∙ end_eq-refl e)) ∙ y.matched.matched;
                  carries = y.matched.carries;
                  number = sent-same e ∙ y.matched.number;
                };
            untaken = open-same (opposite e) ∙ y.untaken;
            site = site h e y.site;
          }
      right (packet.Taken e m x hops) kind y = record { taken = takens e y.taken; number = sent-same e ∙ y.number; taker = y.taker; site = site h e y.site }
      right (packet.Gone e x) kind y = place-same (opposite e) ∙ y
      right (packet.Unwanted e m x hops) kind y =
          λ noticed. view-still ready inn z sends h e (λ l. l.inward ≡ kernel_inward.Withdrawing m) (λ same l. absurd (none same l)) (y (sym (noticed-same e) ∙ noticed))
        where
          none : e ≡ to → o.inward ≡ kernel_inward.Withdrawing m → ⊥
          none same withdrawing =
              let number : m ≡ r = subst (IsAskedAs r) withdrawing ready.asked in
              no-unwanted ready (record { from = j; to = h; packet = a; there = left-before b j h a has; is = subst (IsUnwantedOf to r) (sym kind) (same, number) })
      right _ kind y = tt

  packets-still : Each z (λ j h a. IsPacketRight z t j h a)
  packets-still =
      each-after sends (λ j h a. IsPacketRight z t j h a) (λ j h a. IsPacketRight z t j h a)
      (swapped-each b from q (news to at hops q) ready.taken (with_entry to (entry.Here u) (w.entry k)) (λ j h a. IsPacketRight w s.ends j h a) (λ j h a. IsPacketRight z t j h a) ready.right.packets left-right tt) (λ j h a has y. y)
      (λ j what has. let same = said ready inn z sends j what has in subst (IsPacketRight z t k j) same.1 (subst (λ y. IsPacketRight z t k y answer) same.0 right_answer))
    where
      right_answer : IsPacketRight z t k at answer
      right_answer =
          record {
            taken = ap (λ (y : End). y.outward) is.sender;
            number = sent-same other ∙ (is-right ready).number;
            taker = refl;
            site = λ lives. view-still ready inn z sends at other (λ y. Unit {0}) (λ same y. tt) (subst (λ y. IsHereAnd (w.entry y other) (λ y. Unit {0})) (sym (is-right ready).sender) (there ((is-right ready).site (living-was other lives))));
          }
        where
          there : IsHereAnd (w.entry from other) (λ y. y.value.hops ≡ hops) → IsHereAnd (w.entry from other) (λ y. Unit {0})
          there = by (w.entry from other)
            where
              by : (y : Entry) → IsHereAnd y (λ y. y.value.hops ≡ hops) → IsHereAnd y (λ y. Unit {0})
              by (entry.Here y) has = tt
              by _ has = has

  pub received-right : AreRight i z state
  received-right =
      record {
        named = named-still;
        few = λ e stand m has. ready.right.few e stand m (fields e stand m has);
        marked = marked-still;
        counted = counted-still;
        honest = honest-still;
        asked = asked-still;
        cancelling = λ a e cancels.
            let old = is.cancelling a e cancels in
            view-still ready inn z sends (home_of s a) e (λ y. is_withdrawing y.inward ≡ true) (λ same y. absurd (old.1 same)) (ready.right.cancelling a e old.0);
        served = served-still;
        wanted = wanted-still;
        unwanted = λ e noticed. let number = met-number ready inn z sends (is_unwanted_to e) refl in let most = ready.right.unwanted e (sym (noticed-same e) ∙ noticed) in omega (arith, number, most);
        once = once-still;
        packets = packets-still;
      }
