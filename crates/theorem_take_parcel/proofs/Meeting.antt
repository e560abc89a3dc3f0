-- A parcel without ends that meets its receive is replaced by the news that came with it, and a taken is sent: what is under way then, and
-- which entries there are.
use Rattle.std.proofs.Common.{◌≡◌, ◌≢◌, ◌⊎◌, inl, inr, ℕ, ◌+◌, ◌<◌, Bool, true, false, nat_eq, if◌then◌else◌, List, [], ◌∷◌, length, Contains, None, Some, is_some, refl, sym, ap, subst, ◌∙◌, arith, true≢false}
use Rattle.std.proofs.lemmas.Bool.Decides.{eqb_tells}
use Rattle.std.proofs.lemmas.List.Elements.{All-contains, Contains-append_right}
use Rattle.charlotte_calls.specs.Names.{opposite}
use Rattle.charlotte_calls.specs.declared.names.EndId.{EndId}
use Rattle.charlotte_calls.specs.declared.names.Pid.{Pid}
use Rattle.charlotte_packets.specs.declared.picture.MovingPicture.{MovingPicture}
use Rattle.charlotte_packets.specs.declared.picture.Picture.{Picture}
use Rattle.charlotte_packets.specs.declared.picture.PictureWhat.{PictureWhat}
use Rattle.charlotte_packets.specs.declared.picture.PictureWhat.TheVariants as packet
use Rattle.end_table.proofs.EndEq.{end_eq-refl, end_eq-same}
use Rattle.end_table.specs.Place.{end_eq}
use Rattle.end_table.specs.Table.{IsHereAnd}
use Rattle.end_table.specs.declared.entry.Entry.{Entry}
use Rattle.end_table.specs.declared.entry.Entry.TheVariants as entry
use Rattle.end_table.specs.declared.entry.HereView.{HereView}
use Rattle.end_table.specs.declared.entry.Inward.{Inward as KernelInward}
use Rattle.end_table.specs.declared.entry.Inward.TheVariants as kernel_inward
use Rattle.kernel_step.specs.Actions.{here}
use Rattle.service_step.specs.Ends.{is_posted, matched_message}
use Rattle.service_step.specs.State.{State}
use Rattle.service_step.specs.declared.state.End.{End}
use Rattle.service_step.specs.declared.state.Inward.{Inward}
use Rattle.service_step.specs.declared.state.Inward.TheVariants as inward
use Rattle.theorem_take_want.proofs.Allowed.{named-between, sum_over-least}
use Rattle.theorem_take_want.proofs.Lists.{none-there, only-there}
use Rattle.theorem_take_want.proofs.Packets.{left-before, left-was, taken-before, under_way-after, under_way-still}
use Rattle.theorem_take_want.proofs.Sums.{sum_over-after}
use Rattle.theorem_take_want.specs.Change.{Change, Changes, taken_at}
use Rattle.theorem_take_want.specs.Under.{IsLeft, IsSent}
use Rattle.theorem_meaning.proofs.Ends.{opposite-twice}
use Rattle.theorem_meaning.specs.Fields.{Stand, At, Flying, HasFields, IsAskedAs, value_of}
use Rattle.theorem_meaning.specs.Invariant.{IsPacketRight, IsParcelRight, is_message_of}
use Rattle.theorem_meaning.specs.Packets.{Each, IsParcelFor, IsUnderWay, IsUnwantedOf, Links, how_many, one_if, sum_over, values_of}
use Rattle.theorem_meaning.specs.StandsFor.{IsAskedOf, IsEndOf, IsInwardOf}
use Rattle.theorem_take_want.proofs.Alike.{some-same}
use Rattle.theorem_take_want.proofs.Places.{here-kernel}
use Rattle.theorem_ends_arrived.specs.Swapped.{instead, news, swapped}
use Rattle.theorem_ends_arrived.proofs.Swap.{swapped-after, swapped-still, swapped-sum}
use Rattle.theorem_ends_arrived.proofs.Turned.{turned_view, with_entry}
use Rattle.theorem_take_parcel.specs.Received.{IsReceiving, answering, bare_parcel}

-- the receive that is started at an entry
asked-inward : (w : Links) (e : EndId) (r : ℕ) (out : KernelInward) (x : Inward) → IsAskedAs r out → IsInwardOf w e out x → IsAskedOf w e r x
asked-inward w e r (kernel_inward.Posted a) x asked is = subst (λ z. IsAskedOf w e z x) asked is
asked-inward w e r (kernel_inward.Withdrawing a) x asked is = subst (λ z. IsAskedOf w e z x) asked is
asked-inward w e r _ x asked is = absurd asked

-- while a parcel for it is under way it is matched, and no unwanted for it is under way
parcel-matched : (w : Links) (e : EndId) (r n : ℕ) (x : Inward) → IsUnderWay w (IsParcelFor e r n) → IsAskedOf w e r x → (a : ℕ) × (x ≡ inward.Matched a) × IsUnderWay w (IsParcelFor e r a) × (IsUnderWay w (IsUnwantedOf e r) → ⊥)
parcel-matched w e r n (inward.Matched a) under is = (a, refl, is.0, is.1)
parcel-matched w e r n inward.Withdrawn under is = absurd (is.0 n under)
parcel-matched w e r n inward.Posted under is = absurd (is.0 n under)
parcel-matched w e r n _ under is = absurd is

-- a parcel for a receive that is started says which message that is matched with
pub parcel-meets : (w : Links) (t : EndId → End) → Each w (λ from to q. IsPacketRight w t from to q) → (e : EndId) (r n : ℕ) (v : HereView) → (t (opposite e)).sent ≡ n → IsUnderWay w (IsParcelFor e r n) → IsAskedAs r v.inward → IsInwardOf w e v.inward (t e).inward
    → ((t e).inward ≡ inward.Matched n) × (IsUnderWay w (IsUnwantedOf e r) → ⊥)
parcel-meets w t each e r n v number under asked agrees = by (parcel-matched w e r n (t e).inward under (asked-inward w e r v.inward (t e).inward asked agrees))
  where
    says : (from to : ℕ) (what : PictureWhat) (a : ℕ) → IsParcelFor e r a what → IsPacketRight w t from to what → (t (opposite e)).sent ≡ a
    says from to (packet.Parcel f m a j h xs ms) b is its = ap (λ z. (t (opposite z)).sent) (sym is.0) ∙ its.number ∙ is.2
    says from to _ b is its = absurd is

    by : (a : ℕ) × ((t e).inward ≡ inward.Matched a) × IsUnderWay w (IsParcelFor e r a) × (IsUnderWay w (IsUnwantedOf e r) → ⊥) → ((t e).inward ≡ inward.Matched n) × (IsUnderWay w (IsUnwantedOf e r) → ⊥)
    by found =
        let u = found.2 in
        let same = says u.from u.to u.packet.what found.0 u.is (All-contains (λ z. IsPacketRight w t u.from u.to z.what) (w.packets u.from u.to) u.packet (each u.from u.to) u.there) in
        (found.1 ∙ ap inward.Matched (sym same ∙ number), found.3)

module _ {i : ℕ} {w v : Links} {c : Change} {b : Changes w c v} {from stamp : ℕ} {s : State} {to : EndId} {n r at hops : ℕ} {bytes : List ℕ} {p : Pid} {o : HereView} (ready : IsReceiving i b from stamp s to n r at hops bytes p o) where
  abbrev k : ℕ
  k = c.kernel

  abbrev pub sender : EndId
  sender = opposite to

  abbrev pub q : Picture
  q = bare_parcel stamp to n r at hops bytes

  pub stood : Contains (w.packets from k) q
  stood = taken-before b from q ready.taken

  between : (j h : ℕ) (z : Picture) → Contains (w.packets j h) z → (j < length s.made) × (h < length s.made)
  between = named-between ready.right.named

  pub near : (from < length s.made) × (k < length s.made)
  near = between from k q stood

  pub low-from : from < 8
  low-from = let one = near.0 in let most = ready.few in omega (arith, one, most)

  pub low : k < 8
  low = let one = near.1 in let most = ready.few in omega (arith, one, most)

  pub is-right : IsParcelRight w s.ends from k to n r at hops bytes []
  is-right = All-contains (λ z. IsPacketRight w s.ends from k z.what) (w.packets from k) q (ready.right.packets from k) stood

  pub low-at : at < 8
  low-at = let same = is-right.sender in let low = low-from in omega (arith, same, low)

  pub at-below : at < length s.made
  at-below = let same = is-right.sender in let below = near.0 in omega (arith, same, below)

  -- ---- the receive

  pub agrees : IsEndOf w to o (s.ends to)
  agrees = ready.links.agree to p o ready.owned (subst (λ j. w.entry j to ≡ entry.Here o) (sym ready.home) ready.here)

  matched : ((s.ends to).inward ≡ inward.Matched n) × (IsUnderWay w (IsUnwantedOf to r) → ⊥)
  matched =
      parcel-meets w s.ends ready.right.packets to r n o is-right.number (record { from = from; to = k; packet = q; there = stood; is = (refl, refl, refl) }) ready.asked agrees.inward

  -- it is matched with this message
  pub is-matched : (s.ends to).inward ≡ inward.Matched n
  is-matched = matched.0

  pub not-posted : is_posted (s.ends to).inward ≡ true → ⊥
  not-posted is = true≢false (sym is ∙ ap is_posted is-matched)

  -- no unwanted for it is under way
  pub no-unwanted : IsUnderWay w (IsUnwantedOf to r) → ⊥
  no-unwanted = matched.1

  -- ---- the links then

  module _ (inn : KernelInward) where
    abbrev pub over_view : HereView
    over_view = turned_view o o.outward inn

    abbrev entries_then : EndId → Entry
    entries_then = with_entry to (entry.Here over_view) (w.entry k)

    -- the parcel is replaced by its news
    abbrev pub informed : Links
    informed = swapped b from (news to at hops q) entries_then

    module _ (z : Links) (sends : Changes informed (answering c to n at o) z) where
      abbrev answer : PictureWhat
      answer = packet.Taken sender n k o.value.hops

      pub said : (j : ℕ) (what : PictureWhat) → Contains {X = ℕ × PictureWhat} ((at, answer) ∷ []) (j, what) → (at ≡ j) × (answer ≡ what)
      said j what has = let same = only-there (at, answer) (j, what) has in (ap (λ (a : ℕ × PictureWhat). a.0) same, ap (λ (a : ℕ × PictureWhat). a.1) same)

      -- a packet that is under way: it was left, or is the news or the taken
      pub met-after : (P : PictureWhat → Type 0) → IsUnderWay z P → IsLeft b P ⊎ P (packet.Moved to at hops) ⊎ P answer
      met-after P u = by (under_way-after sends P u)
        where
          old : IsLeft b P ⊎ P (packet.Moved to at hops) → IsLeft b P ⊎ P (packet.Moved to at hops) ⊎ P answer
          old (inl left) = inl left
          old (inr new) = inr (inl new)

          by : IsLeft sends P ⊎ IsSent (answering c to n at o) P → IsLeft b P ⊎ P (packet.Moved to at hops) ⊎ P answer
          by (inl left) = old (swapped-after b from q (news to at hops q) ready.taken entries_then P (left-was sends P left))
          by (inr sent) = inr (inr (subst P (sym (said sent.to sent.what sent.there).1) sent.is))

      pub met-was : (P : PictureWhat → Type 0) → (P (packet.Moved to at hops) → ⊥) → (P answer → ⊥) → IsUnderWay z P → IsUnderWay w P
      met-was P none untold u = by (met-after P u)
        where
          by : IsLeft b P ⊎ P (packet.Moved to at hops) ⊎ P answer → IsUnderWay w P
          by (inl left) = left-was b P left
          by (inr (inl new)) = absurd (none new)
          by (inr (inr new)) = absurd (untold new)

      pub met-still : (P : PictureWhat → Type 0) → (P q.what → ⊥) → IsUnderWay w P → IsUnderWay z P
      met-still P none u = under_way-still sends P (λ a. absurd (let both : None ≡ Some (a.from, a.packet) = a.taken in cc)) (swapped-still b from q (news to at hops q) ready.taken entries_then P none u)

      pub met-sum : (f : PictureWhat → ℕ) → sum_over f z + f q.what ≡ sum_over f w + f (packet.Moved to at hops) + f answer
      met-sum f =
          let first = swapped-sum b from q (news to at hops q) ready.taken entries_then f low low-from in
          let second : sum_over f z + 0 ≡ sum_over f informed + (f answer + 0) = sum_over-after f sends (record { kernel = low; taken = tt; sent = (low-at, tt) }) in
          omega (arith, first, second)

      pub met-number : (test : PictureWhat → Bool) → test (packet.Moved to at hops) ≡ false → how_many test z + one_if (test q.what) ≡ how_many test w + one_if (test answer)
      met-number test none =
          let sum = met-sum (λ a. one_if (test a)) in
          let zero : one_if (test (packet.Moved to at hops)) ≡ 0 = ap one_if none in
          omega (arith, sum, zero)

      -- no packet that is left carries the message
      pub met-alone : IsLeft b (λ a. is_message_of sender a ≡ true) → ⊥
      met-alone l =
          let bounds = between l.from l.to l.packet (left-before b l.from l.to l.packet l.there) in
          let first_low = bounds.0 in
          let second_low = bounds.1 in
          let most = ready.few in
          let sum = swapped-sum b from q (news to at hops q) ready.taken entries_then (λ a. one_if (is_message_of sender a)) low low-from in
          let least = sum_over-least (λ a. one_if (is_message_of sender a)) informed l.from l.to l.packet (omega (arith, first_low, most)) (omega (arith, second_low, most))
          (Contains-append_right (taken_at (instead c from (news to at hops q)) l.from l.to) (b.left l.from l.to) l.packet l.there) in
          let one : one_if (is_message_of sender l.packet.what) ≡ 1 = ap one_if l.is in
          let mine : one_if (end_eq (opposite (opposite to)) to) ≡ 1 = ap one_if (ap (λ a. end_eq a to) (opposite-twice to) ∙ end_eq-refl to) in
          let once : how_many (is_message_of sender) w ≡ 1 = (ready.right.once sender).message ∙ ap (λ a. one_if (is_some (matched_message a))) is-right.matched in
          omega (arith, sum, least, one, mine, once)

      -- ---- entries

      met-entry : (j : ℕ) (e : EndId) → z.entry j e ≡ informed.entry j e
      met-entry j e = by (eqb_tells j k)
        where
          by : ((nat_eq j k ≡ true) × (j ≡ k)) ⊎ ((nat_eq j k ≡ false) × (j ≢ k)) → z.entry j e ≡ informed.entry j e
          by (inl same) = subst (λ a. z.entry a e ≡ informed.entry a e) (sym same.1) (sends.entry e)
          by (inr apart) = sends.others j e apart.0

      -- it stays, or is that of the end
      pub met-case : (j : ℕ) (e : EndId) → ((z.entry j e ≡ w.entry j e) × (j ≡ k → e ≡ to → ⊥)) ⊎ ((j ≡ k) × (e ≡ to) × (z.entry j e ≡ entry.Here over_view))
      met-case j e = by (eqb_tells j k)
        where
          own : (a : Bool) → end_eq to e ≡ a → nat_eq j k ≡ true → j ≡ k → ((z.entry j e ≡ w.entry j e) × (j ≡ k → e ≡ to → ⊥)) ⊎ ((j ≡ k) × (e ≡ to) × (z.entry j e ≡ entry.Here over_view))
          own true same is_k at_k =
              inr (at_k, sym (end_eq-same to e same), met-entry j e ∙ ap (λ a. if a then entries_then e else w.entry j e) is_k ∙ ap (λ a. if a then entry.Here over_view else w.entry k e) same)
          own false apart is_k at_k = inl (
            met-entry j e ∙ ap (λ a. if a then entries_then e else w.entry j e) is_k ∙ ap (λ a. if a then entry.Here over_view else w.entry k e) apart ∙ sym (ap (λ a. w.entry a e) at_k),
            λ at_k same. true≢false (sym (end_eq-refl to) ∙ subst (λ a. end_eq to a ≡ false) same apart),
          )

          by : ((nat_eq j k ≡ true) × (j ≡ k)) ⊎ ((nat_eq j k ≡ false) × (j ≢ k)) → ((z.entry j e ≡ w.entry j e) × (j ≡ k → e ≡ to → ⊥)) ⊎ ((j ≡ k) × (e ≡ to) × (z.entry j e ≡ entry.Here over_view))
          by (inl same) = own (end_eq to e) refl same.0 same.1
          by (inr apart) = inl (met-entry j e ∙ ap (λ a. if a then entries_then e else w.entry j e) apart.0, λ at_k same. apart.1 at_k)

      pub was-there : (j : ℕ) (e : EndId) → j ≡ k → e ≡ to → w.entry j e ≡ entry.Here o
      was-there j e at_k same = ap (λ a. w.entry a e) at_k ∙ ap (w.entry k) same ∙ ready.here

      -- the end is here at this kernel alone
      pub only-here : (j : ℕ) (x : HereView) → w.entry j to ≡ entry.Here x → j ≡ k
      only-here j x has = here-kernel (length s.made) w s.ends ready.few ready.right.named ready.right.marked ready.links.once to j k x o has ready.here

      pub view-case : (j : ℕ) (e : EndId) (x : HereView) → z.entry j e ≡ entry.Here x → ((w.entry j e ≡ entry.Here x) × (e ≡ to → ⊥)) ⊎ ((j ≡ k) × (e ≡ to) × (x ≡ over_view))
      view-case j e x there = by (met-case j e)
        where
          by : ((z.entry j e ≡ w.entry j e) × (j ≡ k → e ≡ to → ⊥)) ⊎ ((j ≡ k) × (e ≡ to) × (z.entry j e ≡ entry.Here over_view)) → ((w.entry j e ≡ entry.Here x) × (e ≡ to → ⊥)) ⊎ ((j ≡ k) × (e ≡ to) × (x ≡ over_view))
          by (inl stays) =
              let was = sym stays.0 ∙ there in
              inl (was, λ same. stays.1 (only-here j x (subst (λ a. w.entry j a ≡ entry.Here x) same was)) same)
          by (inr now) = inr (now.0, now.1, some-same x over_view (ap here (sym there ∙ now.2)))

      -- what is true of the view of each end that is here
      pub view-still : (j : ℕ) (e : EndId) (P : HereView → Type 0) → (e ≡ to → P o → P over_view) → IsHereAnd (w.entry j e) P → IsHereAnd (z.entry j e) P
      view-still j e P gives has = by (met-case j e)
        where
          by : ((z.entry j e ≡ w.entry j e) × (j ≡ k → e ≡ to → ⊥)) ⊎ ((j ≡ k) × (e ≡ to) × (z.entry j e ≡ entry.Here over_view)) → IsHereAnd (z.entry j e) P
          by (inl stays) = subst (λ a. IsHereAnd a P) (sym stays.0) has
          by (inr now) = subst (λ a. IsHereAnd a P) (sym now.2) (gives now.1 (subst (λ a. IsHereAnd a P) (was-there j e now.0 now.1) has))

      pub view-was : (j : ℕ) (e : EndId) (P : HereView → Type 0) → (P over_view → P o) → IsHereAnd (z.entry j e) P → IsHereAnd (w.entry j e) P
      view-was j e P gives has = by (met-case j e)
        where
          by : ((z.entry j e ≡ w.entry j e) × (j ≡ k → e ≡ to → ⊥)) ⊎ ((j ≡ k) × (e ≡ to) × (z.entry j e ≡ entry.Here over_view)) → IsHereAnd (w.entry j e) P
          by (inl stays) = subst (λ a. IsHereAnd a P) stays.0 has
          by (inr now) = subst (λ a. IsHereAnd a P) (sym (was-there j e now.0 now.1)) (gives (subst (λ a. IsHereAnd a P) now.2 has))

      -- fields stay
      pub met-fields : (e : EndId) (stand : Stand) (m : MovingPicture) → HasFields z e stand m → HasFields w e stand m
      met-fields e Flying m has = (met-was (λ a. Contains (values_of a) m) (none-there m) (none-there m) has.0, has.1)
      met-fields e (At j) m has = by (met-case j e)
        where
          by : ((z.entry j e ≡ w.entry j e) × (j ≡ k → e ≡ to → ⊥)) ⊎ ((j ≡ k) × (e ≡ to) × (z.entry j e ≡ entry.Here over_view)) → value_of (w.entry j e) ≡ Some m
          by (inl stays) = sym (ap value_of stays.0) ∙ has
          by (inr now) = ap value_of (was-there j e now.0 now.1) ∙ sym (ap value_of now.2) ∙ has
