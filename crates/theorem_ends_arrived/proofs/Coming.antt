-- A packet that is taken loses its values: what was true of their ends before, which packets are under way then, and which entries there are.
use Rattle.std.proofs.Common.{◌≡◌, ◌≢◌, ◌⊎◌, ◌↔◌, inl, inr, ℕ, ◌+◌, ◌<◌, ◌≤◌, Bool, true, false, nat_eq, ◌&&◌, if◌then◌else◌, List, [], length, Contains, refl, sym, ap, subst, ◌∙◌, arith, true≢false, is_some}
use Rattle.std.proofs.lemmas.Bool.Decides.{eqb_tells}
use Rattle.std.proofs.lemmas.List.Elements.{All-contains, Contains-append_left, Contains-append_right}
use Rattle.std.specs.List.{list_any}
use Rattle.charlotte_calls.specs.Names.{opposite}
use Rattle.charlotte_calls.specs.declared.names.EndId.{EndId}
use Rattle.charlotte_calls.specs.declared.names.Pid.{Pid}
use Rattle.charlotte_packets.specs.declared.picture.MovingPicture.{MovingPicture}
use Rattle.charlotte_packets.specs.declared.picture.Picture.{Picture}
use Rattle.charlotte_packets.specs.declared.picture.PictureWhat.{PictureWhat}
use Rattle.charlotte_packets.specs.declared.picture.PictureWhat.TheVariants as packet
use Rattle.end_table.proofs.EndEq.{end_eq-refl, end_eq-same}
use Rattle.end_table.specs.Entries.{settled}
use Rattle.end_table.specs.Place.{end_eq}
use Rattle.end_table.specs.Table.{IsHereAnd}
use Rattle.end_table.specs.declared.entry.Entry.{Entry}
use Rattle.end_table.specs.declared.entry.Entry.TheVariants as entry
use Rattle.end_table.specs.declared.entry.HereView.{HereView}
use Rattle.end_table.specs.declared.entry.Holder.TheVariants as holder
use Rattle.kernel_step.specs.Rows.{ends_in}
use Rattle.service_step.specs.Ends.{is_idle, is_idle_inward, is_idle_outward, is_living, matched_message}
use Rattle.service_step.specs.Lawful.{message_of}
use Rattle.service_step.specs.State.{State}
use Rattle.service_step.specs.declared.state.End.{End}
use Rattle.service_step.specs.declared.state.Message.{Message}
use Rattle.service_step.specs.declared.state.Outward.TheVariants as outward
use Rattle.service_step.specs.declared.state.Place.TheVariants as place
use Rattle.theorem_take_gone.proofs.Allowed.{named-between, sum_over-least}
use Rattle.theorem_take_gone.proofs.Lists.{none-there}
use Rattle.theorem_take_gone.proofs.Packets.{left-before, left-was, taken-before, there-taken, under_way-before}
use Rattle.theorem_take_gone.specs.Change.{Change, Changes, taken_at}
use Rattle.theorem_take_gone.specs.Under.{IsLeft, IsTaken}
use Rattle.theorem_meaning.proofs.Ends.{opposite-twice}
use Rattle.theorem_meaning.specs.Fields.{Stand, At, Flying, HasFields, value_of}
use Rattle.theorem_meaning.specs.Invariant.{IsMatchedAs, IsPacketRight, is_message_of}
use Rattle.theorem_meaning.specs.Packets.{IsUnderWay, Links, how_many, one_if, sum_over, values_for, values_of}
use Rattle.theorem_meaning.specs.StandsFor.{standing}
use Rattle.theorem_take_gone.proofs.Alike.{some-same}
use Rattle.theorem_take_gone.proofs.Places.{fields-here}
use Rattle.theorem_take_gone.specs.Swapped.{instead, swapped}
use Rattle.theorem_take_gone.proofs.Swap.{left-there, swapped-after, swapped-sum}
use Rattle.theorem_meaning.proofs.Plain.{at_most_one}
use Rattle.theorem_ends_arrived.specs.Arrived.{IsAmong, IsLaden, arrived, emptied, settles, unladen, without_values}
use Rattle.theorem_ends_arrived.proofs.Among.{among-contains, among-least, among-told, brings-case, told-among}
use Rattle.theorem_ends_arrived.proofs.Emptied.{emptied-values}

-- a packet that carries a message says which
message-of : (w : Links) (t : EndId → End) (from to : ℕ) (f : EndId) (what : PictureWhat) → is_message_of f what ≡ true → IsPacketRight w t from to what → (n : ℕ) × IsMatchedAs t f n (ends_in (values_of what))
message-of w t from to f (packet.Parcel e n wanted at hops bytes ms) is right =
    let end : f ≡ opposite e = sym (opposite-twice f) ∙ ap opposite (end_eq-same (opposite f) e is) in
    (n, subst (λ z. IsMatchedAs t z n (ends_in ms)) (sym end) (record { message = record { bytes = bytes; carried = ends_in ms }; matched = right.matched; carries = refl; number = right.number }))
message-of w t from to f (packet.Back e n ms) is right = (n, subst (λ z. IsMatchedAs t z n (ends_in ms)) (sym (end_eq-same f e is)) right.matched)
message-of w t from to f _ is right = absurd (true≢false (sym is))

module _ {i : ℕ} {w v : Links} {c : Change} {b : Changes w c v} {from : ℕ} {q : Picture} {s : State} {f : EndId} (ready : IsLaden i b from q s f) (p : Pid) where
  abbrev k : ℕ
  k = c.kernel

  abbrev pub values : List MovingPicture
  values = values_of q.what

  abbrev pub came : List EndId
  came = ends_in values

  abbrev entries_then : EndId → Entry
  entries_then = settles p values (w.entry k)

  -- the links then
  abbrev pub landed : Links
  landed = swapped b from (without_values q) entries_then

  -- the ends of the service then
  abbrev pub owners : EndId → End
  owners = arrived f came p s.ends

  -- ---- the packet that is taken

  pub stood : Contains (w.packets from k) q
  stood = taken-before b from q ready.taken

  pub between : (j h : ℕ) (z : Picture) → Contains (w.packets j h) z → (j < length s.made) × (h < length s.made)
  between = named-between ready.right.named

  pub near : (from < length s.made) × (k < length s.made)
  near = between from k q stood

  pub low-from : from < 8
  low-from = let one = near.0 in let most = ready.few in omega (arith, one, most)

  pub low : k < 8
  low = let one = near.1 in let most = ready.few in omega (arith, one, most)

  is-right : IsPacketRight w s.ends from k q.what
  is-right = All-contains (λ z. IsPacketRight w s.ends from k z.what) (w.packets from k) q (ready.right.packets from k) stood

  -- its message is matched, and carries these ends
  pub message : (n : ℕ) × IsMatchedAs s.ends f n came
  message = message-of w s.ends from k f q.what ready.carries is-right

  pub packed : (m : Message) × ((s.ends f).outward ≡ outward.Matched m) × (m.carried ≡ came)
  packed = (message.1.message, message.1.matched, message.1.carries)

  -- ---- the ends that it carries

  pub inside : (e : EndId) → IsAmong values e → (s.ends e).place ≡ place.InMessage f (s.ends f).sent
  inside e a =
      ready.kept.kept.held.carried f e (s.ends f).sent
      (record { message = packed.0; there = ap message_of packed.1; number = refl; carries = subst (λ l. Contains l e) (sym packed.2) (among-contains values e a) })

  pub living : (e : EndId) → IsAmong values e → is_living (s.ends e).place ≡ true
  living e a = ap (λ z. is_living z) (inside e a)

  pub idle : (e : EndId) → IsAmong values e → is_idle (s.ends e) ≡ true
  idle e a = ready.kept.kept.resting e f (s.ends f).sent (inside e a)

  -- the end that sent the message is none of them
  pub sender-apart : IsAmong values f → ⊥
  sender-apart a = true≢false (sym (idle f a) ∙ ap (λ z. is_idle_outward z && is_idle_inward (s.ends f).inward) packed.1)

  -- each flies
  pub flies : (e : EndId) (a : IsAmong values e) → HasFields w e Flying a.value
  flies e a = (record { from = from; to = k; packet = q; there = stood; is = a.there }, a.of)

  -- so it is not here
  pub not-here : (e : EndId) → IsAmong values e → (j : ℕ) (o : HereView) → w.entry j e ≡ entry.Here o → ⊥
  not-here e a j o here = let both = (fields-here (length s.made) w s.ends ready.few ready.right.named ready.right.marked ready.links.once e j o Flying a.value here (flies e a)).0 in cc

  pub never-here : (e : EndId) → IsAmong values e → (j : ℕ) (P : HereView → Type 0) → IsHereAnd (w.entry j e) P → ⊥
  never-here e a j P has = by (w.entry j e) refl has
    where
      by : (x : Entry) → w.entry j e ≡ x → IsHereAnd x P → ⊥
      by (entry.Here o) is has = not-here e a j o is
      by _ is has = has

  -- and destroyed nowhere
  pub no-mark : (e : EndId) → IsAmong values e → (j : ℕ) (m : MovingPicture) → w.entry j e ≡ entry.Destroyed m → ⊥
  no-mark e a j m there = let both : place.InMessage f (s.ends f).sent ≡ place.Destroyed = sym (inside e a) ∙ (ready.right.marked e).destroyed j m there in cc

  -- ---- packets

  -- a packet that is left counts beside the one that is taken
  both-count : (g : PictureWhat → ℕ) → g (packet.GoneSeen f) ≡ 0 → (j h : ℕ) (z : Picture) → Contains (b.left j h) z → g z.what + g q.what ≤ sum_over g w
  both-count g none j h z has =
      let bounds = between j h z (left-before b j h z has) in
      let sum = swapped-sum b from q (record { stamp = 0; what = packet.GoneSeen f }) ready.taken entries_then g low low-from in
      let one = bounds.0 in
      let other = bounds.1 in
      let most = ready.few in
      let least = sum_over-least g (swapped b from (record { stamp = 0; what = packet.GoneSeen f }) entries_then) j h z (omega (arith, one, most)) (omega (arith, other, most))
      (Contains-append_right (taken_at (instead c from (record { stamp = 0; what = packet.GoneSeen f })) j h) (b.left j h) z has) in
      omega (arith, sum, least, none)

  -- so no other packet carries the message, or one of its ends
  pub message-alone : IsLeft b (λ z. is_message_of f z ≡ true) → ⊥
  message-alone l =
      let both = both-count (λ z. one_if (is_message_of f z)) refl l.from l.to l.packet l.there in
      let one : one_if (is_message_of f l.packet.what) ≡ 1 = ap one_if l.is in
      let other : one_if (is_message_of f q.what) ≡ 1 = ap one_if ready.carries in
      let once : how_many (is_message_of f) w ≡ one_if (is_some (matched_message (s.ends f).outward)) = (ready.right.once f).message in
      let most = at_most_one (is_some (matched_message (s.ends f).outward)) in
      omega (arith, both, one, other, once, most)

  sum-most : (e : EndId) → sum_over (λ z. values_for e (values_of z)) w ≤ 1
  unfolding standing
  sum-most e = let once : standing w e ≡ one_if (is_living (s.ends e).place) = ready.links.once e in let most = at_most_one (is_living (s.ends e).place) in omega (arith, once, most)

  pub end-alone : (e : EndId) → IsAmong values e → IsLeft b (λ z. IsAmong (values_of z) e) → ⊥
  end-alone e a l =
      let both = both-count (λ z. values_for e (values_of z)) refl l.from l.to l.packet l.there in
      let one = among-least (values_of l.packet.what) e l.is in
      let other = among-least values e a in
      let most = sum-most e in
      omega (arith, both, one, other, most)

  pub one-value : (e : EndId) → IsAmong values e → values_for e values ≡ 1
  one-value e a =
      let least = among-least values e a in
      let counts = sum_over-least (λ z. values_for e (values_of z)) w from k q low-from low stood in
      let most = sum-most e in
      omega (arith, least, counts, most)

  module _ (P : PictureWhat → Type 0) where
    pub landed-after : IsUnderWay landed P → IsLeft b P ⊎ P (emptied q.what)
    landed-after = swapped-after b from q (without_values q) ready.taken entries_then P

    pub left-landed : IsLeft b P → IsUnderWay landed P
    left-landed = left-there b from q (without_values q) ready.taken entries_then P

    -- what is said with and without the values stays
    pub landed-was : (P (emptied q.what) → P q.what) → IsUnderWay landed P → IsUnderWay w P
    landed-was says u = by (landed-after u)
      where
        by : IsLeft b P ⊎ P (emptied q.what) → IsUnderWay w P
        by (inl left) = left-was b P left
        by (inr new) = record { from = from; to = k; packet = q; there = stood; is = says new }

    pub landed-still : (P q.what → P (emptied q.what)) → IsUnderWay w P → IsUnderWay landed P
    landed-still says u = by (under_way-before b P u)
      where
        old : (t : IsTaken c P) → P q.what
        old t = subst (λ (r : Picture). P r.what) (sym (ap (λ (s : ℕ × Picture). s.1) (some-same {X = ℕ × Picture} (from, q) (t.from, t.packet) (sym ready.taken ∙ t.taken)))) t.is

        by : IsLeft b P ⊎ IsTaken c P → IsUnderWay landed P
        by (inl left) = left-landed left
        by (inr t) =
            record {
              from = from;
              to = k;
              packet = without_values q;
              there = Contains-append_left (taken_at (instead c from (without_values q)) from k) (b.left from k) (without_values q) (there-taken (instead c from (without_values q)) from (without_values q) refl);
              is = says (old t);
            }

    pub landed-same : (P (emptied q.what) ↔ P q.what) → IsUnderWay landed P ↔ IsUnderWay w P
    landed-same says = (landed-was says.0, landed-still says.1)

  pub landed-number : (test : PictureWhat → Bool) → test (emptied q.what) ≡ test q.what → how_many test landed ≡ how_many test w
  landed-number test says =
      let sum = swapped-sum b from q (without_values q) ready.taken entries_then (λ z. one_if (test z)) low low-from in
      let same : one_if (test (emptied q.what)) ≡ one_if (test q.what) = ap one_if says in
      omega (arith, sum, same)

  -- ---- entries

  abbrev pub arrival : MovingPicture → HereView
  arrival m = settled (holder.Owner p) m

  -- an entry stays, or is that of an end that came
  pub entry-case : (j : ℕ) (e : EndId) → ((landed.entry j e ≡ w.entry j e) × (j ≡ k → IsAmong values e → ⊥)) ⊎ ((a : IsAmong values e) × (j ≡ k) × (landed.entry j e ≡ entry.Here (arrival a.value)))
  entry-case j e = by (eqb_tells j k)
    where
      own : j ≡ k → nat_eq j k ≡ true → ((list_any (end_eq e) came ≡ false) × (entries_then e ≡ w.entry k e)) ⊎ ((a : IsAmong values e) × (entries_then e ≡ entry.Here (arrival a.value)))
          → ((landed.entry j e ≡ w.entry j e) × (j ≡ k → IsAmong values e → ⊥)) ⊎ ((a : IsAmong values e) × (j ≡ k) × (landed.entry j e ≡ entry.Here (arrival a.value)))
      own at true_is (inl none) = inl (
        ap (λ a. if a then entries_then e else w.entry j e) true_is ∙ none.1 ∙ sym (ap (λ z. w.entry z e) at),
        λ same a. true≢false (sym (among-told values e a) ∙ none.0),
      )
      own at true_is (inr came) = inr (came.0, at, ap (λ a. if a then entries_then e else w.entry j e) true_is ∙ came.1)

      by : ((nat_eq j k ≡ true) × (j ≡ k)) ⊎ ((nat_eq j k ≡ false) × (j ≢ k)) → ((landed.entry j e ≡ w.entry j e) × (j ≡ k → IsAmong values e → ⊥)) ⊎ ((a : IsAmong values e) × (j ≡ k) × (landed.entry j e ≡ entry.Here (arrival a.value)))
      by (inl at) = own at.1 at.0 (brings-case values (λ m. entry.Here (arrival m)) e (w.entry k e))
      by (inr apart) = inl (ap (λ a. if a then entries_then e else w.entry j e) apart.0, λ same a. apart.1 same)

  -- the entry of an end that came
  pub entry-came : (e : EndId) → IsAmong values e → (a : IsAmong values e) × (landed.entry k e ≡ entry.Here (arrival a.value))
  entry-came e a = by (entry-case k e)
    where
      by : ((landed.entry k e ≡ w.entry k e) × (k ≡ k → IsAmong values e → ⊥)) ⊎ ((a : IsAmong values e) × (k ≡ k) × (landed.entry k e ≡ entry.Here (arrival a.value))) → (a : IsAmong values e) × (landed.entry k e ≡ entry.Here (arrival a.value))
      by (inl stays) = absurd (stays.1 refl a)
      by (inr came) = (came.0, came.2)

  -- what was true of an end that is here is so still
  pub here-landed : (j : ℕ) (e : EndId) (P : HereView → Type 0) → IsHereAnd (w.entry j e) P → IsHereAnd (landed.entry j e) P
  here-landed j e P has = by (entry-case j e)
    where
      by : ((landed.entry j e ≡ w.entry j e) × (j ≡ k → IsAmong values e → ⊥)) ⊎ ((a : IsAmong values e) × (j ≡ k) × (landed.entry j e ≡ entry.Here (arrival a.value))) → IsHereAnd (landed.entry j e) P
      by (inl stays) = subst (λ z. IsHereAnd z P) (sym stays.0) has
      by (inr came) = absurd (never-here e came.0 j P has)

  -- what is true of an end that is here, and of none that came, was so
  pub here-before : (j : ℕ) (e : EndId) (P : HereView → Type 0) → ((m : MovingPicture) → P (arrival m) → ⊥) → IsHereAnd (landed.entry j e) P → IsHereAnd (w.entry j e) P
  here-before j e P none has = by (entry-case j e)
    where
      by : ((landed.entry j e ≡ w.entry j e) × (j ≡ k → IsAmong values e → ⊥)) ⊎ ((a : IsAmong values e) × (j ≡ k) × (landed.entry j e ≡ entry.Here (arrival a.value))) → IsHereAnd (w.entry j e) P
      by (inl stays) = subst (λ z. IsHereAnd z P) stays.0 has
      by (inr came) = absurd (none came.0.value (subst (λ z. IsHereAnd z P) came.2 has))

  -- ---- fields: an end that came has at the kernel those that it had in the packet
  pub fields-before : (e : EndId) (at : Stand) (m : MovingPicture) → HasFields landed e at m → HasFields w e at m ⊎ (IsAmong values e × (at ≡ At k) × HasFields w e Flying m)
  fields-before e Flying m has = inl (landed-was (λ z. Contains (values_of z) m) (λ new. absurd (none-there m (subst (λ l. Contains l m) (emptied-values q.what) new))) has.0, has.1)
  fields-before e (At j) m has = by (entry-case j e)
    where
      by : ((landed.entry j e ≡ w.entry j e) × (j ≡ k → IsAmong values e → ⊥)) ⊎ ((a : IsAmong values e) × (j ≡ k) × (landed.entry j e ≡ entry.Here (arrival a.value)))
          → HasFields w e (At j) m ⊎ (IsAmong values e × (At j ≡ At k) × HasFields w e Flying m)
      by (inl stays) = inl (sym (ap value_of stays.0) ∙ has)
      by (inr came) =
          let same : came.0.value ≡ m = some-same came.0.value m (sym (ap value_of came.2) ∙ has) in
          inr (came.0, ap At came.1, subst (HasFields w e Flying) same (flies e came.0))

  pub fields-were : (e : EndId) (at : Stand) (m : MovingPicture) → HasFields landed e at m → (before : Stand) × HasFields w e before m
  fields-were e at m has = by (fields-before e at m has)
    where
      by : HasFields w e at m ⊎ (IsAmong values e × (at ≡ At k) × HasFields w e Flying m) → (before : Stand) × HasFields w e before m
      by (inl same) = (at, same)
      by (inr flew) = (Flying, flew.2)

  -- ---- the ends of the service

  pub owners-sender : owners f ≡ record (s.ends f) { outward = outward.Matched (record { bytes = packed.0.bytes; carried = [] }) }
  owners-sender =
      ap (λ a. if a then record (s.ends f) { outward = unladen (s.ends f).outward } else if list_any (end_eq f) came then record (s.ends f) { place = place.Owned p } else s.ends f) (end_eq-refl f)
      ∙ ap (λ z. record (s.ends f) { outward = unladen z }) packed.1

  pub owners-came : (e : EndId) → IsAmong values e → owners e ≡ record (s.ends e) { place = place.Owned p }
  owners-came e a =
      ap (λ x. if x then record (s.ends e) { outward = unladen (s.ends e).outward } else if list_any (end_eq e) came then record (s.ends e) { place = place.Owned p } else s.ends e) apart
      ∙ ap (λ x. if x then record (s.ends e) { place = place.Owned p } else s.ends e) (among-told values e a)
    where
      apart : end_eq f e ≡ false
      apart = by (end_eq f e) refl
        where
          by : (x : Bool) → end_eq f e ≡ x → x ≡ false
          by true same = absurd (sender-apart (subst (IsAmong values) (sym (end_eq-same f e same)) a))
          by false is = refl

  pub owners-other : (e : EndId) → end_eq f e ≡ false → (IsAmong values e → ⊥) → owners e ≡ s.ends e
  owners-other e apart none =
      ap (λ x. if x then record (s.ends e) { outward = unladen (s.ends e).outward } else if list_any (end_eq e) came then record (s.ends e) { place = place.Owned p } else s.ends e) apart
      ∙ ap (λ x. if x then record (s.ends e) { place = place.Owned p } else s.ends e) (by (list_any (end_eq e) came) refl)
    where
      by : (x : Bool) → list_any (end_eq e) came ≡ x → x ≡ false
      by true is = absurd (none (told-among values e is))
      by false is = refl

  -- each end is one of three
  pub each-owner : (P : EndId → End → Type 0) → P f (record (s.ends f) { outward = outward.Matched (record { bytes = packed.0.bytes; carried = [] }) })
      → ((e : EndId) → IsAmong values e → P e (record (s.ends e) { place = place.Owned p })) → ((e : EndId) → end_eq f e ≡ false → (IsAmong values e → ⊥) → P e (s.ends e)) → (e : EndId) → P e (owners e)
  each-owner P sender each others e = by (end_eq f e) refl
    where
      rest : end_eq f e ≡ false → (x : Bool) → list_any (end_eq e) came ≡ x → P e (owners e)
      rest apart true is = let a = told-among values e is in subst (P e) (sym (owners-came e a)) (each e a)
      rest apart false is =
          let none : IsAmong values e → ⊥ = λ a. true≢false (sym (among-told values e a) ∙ is) in
          subst (P e) (sym (owners-other e apart none)) (others e apart none)

      by : (x : Bool) → end_eq f e ≡ x → P e (owners e)
      by true same = subst (λ z. P z (owners z)) (end_eq-same f e same) (subst (P f) (sym owners-sender) sender)
      by false apart = rest apart (list_any (end_eq e) came) refl
