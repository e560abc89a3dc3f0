-- A parcel that does not meet its receive goes back with its ends, which keeps all that is true of the traces of ends.
use Rattle.std.proofs.Common.{◌≡◌, ◌≢◌, ◌⊎◌, inl, inr, ℕ, ◌+◌, ◌^◌, ◌<◌, ◌≤◌, Bool, true, false, true≢false, nat_eq, bit_or, if◌then◌else◌, List, [], ◌∷◌, map, length, Contains, Some, None, refl, sym, ap, subst, ◌∙◌, arith}
use Rattle.std.proofs.lemmas.Bool.Decides.{eqb_tells}
use Rattle.std.proofs.lemmas.List.Elements.{All-contains}
use Rattle.std.specs.Int.{bit_at}
use Rattle.std.specs.List.{list_any}
use Rattle.charlotte_calls.specs.Names.{opposite}
use Rattle.charlotte_calls.specs.declared.names.EndId.{EndId}
use Rattle.charlotte_calls.specs.declared.names.Pid.{Pid}
use Rattle.charlotte_packets.specs.declared.picture.MovingPicture.{MovingPicture}
use Rattle.charlotte_packets.specs.declared.picture.Picture.{Picture}
use Rattle.charlotte_packets.specs.declared.picture.PictureWhat.{PictureWhat}
use Rattle.charlotte_packets.specs.declared.picture.PictureWhat.TheVariants as packet
use Rattle.end_table.proofs.EndEq.{end_eq-refl}
use Rattle.end_table.specs.Entries.{gains_one, left_entry, left_value}
use Rattle.end_table.specs.Place.{end_eq}
use Rattle.end_table.specs.declared.entry.Entry.{Entry}
use Rattle.end_table.specs.declared.entry.Entry.TheVariants as entry
use Rattle.kernel_effects.specs.Effect.{brings, stays}
use Rattle.kernel_effects.specs.Rows.{sends_back_effect}
use Rattle.kernel_step.proofs.Folds.{AreDifferent}
use Rattle.kernel_step.specs.Rows.{ends_in}
use Rattle.kernel_world.specs.World.{Takes, World, happens}
use Rattle.service_lawful.specs.Consistent.{is_open}
use Rattle.service_step.specs.State.{State}
use Rattle.service_step.specs.declared.state.End.{End}
use Rattle.theorem_call_send.proofs.Granted.{gains}
use Rattle.theorem_effects.proofs.Lists.{first, first_or_later, later, none-there, only-there}
use Rattle.theorem_effects.proofs.Packets.{sent-after, under_way-after, under_way-sent}
use Rattle.theorem_effects.specs.Change.{Change, Changes, Happens}
use Rattle.theorem_effects.specs.Events.{taking}
use Rattle.theorem_effects.specs.Under.{IsLeft, IsSent}
use Rattle.theorem_ends_arrived.proofs.Among.{among-told, brings-case, told-among}
use Rattle.theorem_ends_arrived.proofs.Comes.{values-differ}
use Rattle.theorem_ends_arrived.proofs.Coming.{flies}
use Rattle.theorem_ends_arrived.proofs.Values.{same-value}
use Rattle.theorem_ends_arrived.specs.Arrived.{IsAmong, IsLaden}
use Rattle.theorem_meaning.proofs.Ends.{opposite-twice}
use Rattle.theorem_meaning.specs.Fields.{At, Flying, HasFields, Stand, value_of}
use Rattle.theorem_meaning.specs.Invariant.{Invariant, is_message_of}
use Rattle.theorem_meaning.specs.Packets.{Links, links_of, values_of}
use Rattle.theorem_meaning.specs.StandsFor.{entry_at}
use Rattle.theorem_ends_arrived.proofs.Meets.{stands-first}
use Rattle.theorem_take_want.proofs.Places.{here-living}
use Rattle.trace_link.specs.Calm.{AreAsOpen}
use Rattle.trace_moving.proofs.One.{is-taken}
use Rattle.trace_landing.proofs.Carried.{are-carried, not-left}
use Rattle.trace_landing.specs.Landing.{AreCarried}
use Rattle.trace_meaning.proofs.Chains.{chain-flying}
use Rattle.trace_meaning.specs.Traces.{AreTraced, IsTraceRight}
use Rattle.trace_meaning.specs.Words.{HasChain, IsBackTo, IsFlying, IsMovedTo, IsParcelTo}
use Rattle.trace_moving.proofs.Moving.{moving-traced}
use Rattle.trace_moving.proofs.Onward.{left-none, left-onward, moved-left_entry}
use Rattle.trace_moving.proofs.Still.{still-same}
use Rattle.trace_moving.specs.Moving.{IsMovedEntry, IsMover, IsMoving, IsStill}

there-map : (g : MovingPicture → MovingPicture) (ms : List MovingPicture) (m : MovingPicture) → Contains ms m → Contains (map g ms) (g m)
there-map g [] m has = absurd (none-there m has)
there-map g (x ∷ ms) m has = by (first_or_later x ms m has) (there-map g ms m)
  where
    by : (x ≡ m) ⊎ Contains ms m → (Contains ms m → Contains (map g ms) (g m)) → Contains (map g (x ∷ ms)) (g m)
    by (inl same) rest = subst (λ z. Contains (map g (x ∷ ms)) (g z)) same (first (g x) (map g ms))
    by (inr there) rest = later (g x) (map g ms) (g m) (rest there)

map-there : (g : MovingPicture → MovingPicture) (ms : List MovingPicture) (m : MovingPicture) → Contains (map g ms) m → (o : MovingPicture) × Contains ms o × (m ≡ g o)
map-there g [] m has = absurd (none-there m has)
map-there g (x ∷ ms) m has = by (first_or_later (g x) (map g ms) m has) (map-there g ms m)
  where
    by : (g x ≡ m) ⊎ Contains (map g ms) m → (Contains (map g ms) m → (o : MovingPicture) × Contains ms o × (m ≡ g o)) → (o : MovingPicture) × Contains (x ∷ ms) o × (m ≡ g o)
    by (inl same) rest = (x, first x ms, sym same)
    by (inr there) rest = let o = rest there in (o.0, later x ms o.0 o.1, o.2)

module _ (i : ℕ) (w : World) (s : State) (is : Invariant i w s) (room : i < 2 ^ 31) (k from stamp : ℕ) (to : EndId) (n r at hops : ℕ) (bytes : List ℕ) (ms : List MovingPicture) (others : List Picture)
    (there : w.packets from k ≡ record { stamp = stamp; what = packet.Parcel to n r at hops bytes ms } ∷ others)
    (happened : Happens w (Takes k from) (taking w k from (record { stamp = stamp; what = packet.Parcel to n r at hops bytes ms }) (sends_back_effect k to n at ms) (record { 0 = 0 }) [] [])) (now : EndId → End) (as_open : AreAsOpen s.ends now) (traced : AreTraced (links_of w) s.ends) where
  abbrev l : Links
  l = links_of w

  abbrev any : Pid
  any = record { 0 = 0 }

  abbrev q : Picture
  q = record { stamp = stamp; what = packet.Parcel to n r at hops bytes ms }

  abbrev c : Change
  c = taking w k from q (sends_back_effect k to n at ms) any [] []

  abbrev u : Links
  u = links_of (happens w (Takes k from))

  abbrev b : Changes l c u
  b = happened.becomes.links

  -- the packet that goes back
  abbrev back : PictureWhat
  back = packet.Back (opposite to) n (map (left_value k) ms)

  ready : IsLaden i b from q s (opposite to)
  ready = record { taken = refl; right = is.links; links = is.stands.links; kept = is.service; few = is.setting.few; carries = ap (λ a. end_eq a to) (opposite-twice to) ∙ end_eq-refl to }

  different : AreDifferent (ends_in ms)
  different = values-differ is k from q others there (opposite to) ready.carries any

  carried : AreCarried l s.ends ms
  carried = are-carried ready different

  sent-is : (j : ℕ) (what : PictureWhat) → Contains c.packets (j, what) → ◌≡◌ {A = ℕ × PictureWhat} (at, back) (j, what)
  sent-is j what has = only-there {X = ℕ × PictureWhat} (at, back) (j, what) has

  sent-there : Contains c.packets (at, back)
  sent-there = first {X = ℕ × PictureWhat} (at, back) []

  -- what is true of the packet that was sent is true of the back
  new : (P : PictureWhat → Type 0) → IsSent c P → P back
  new P z = subst P (sym (ap (λ (y : ℕ × PictureWhat). y.1) (sent-is z.to z.what z.there))) z.is

  -- ---- an end that goes on

  module _ (e : EndId) (a : IsAmong ms e) (then_left : entry_at u k e ≡ left_entry at a.value) where
    abbrev next : MovingPicture
    next = left_value k a.value

    inside : Contains (values_of back) next
    inside = there-map (left_value k) ms a.value a.there

    more : gains_one a.value.hops ≡ a.value.hops + 1
    more = gains i a.value.hops room (is.links.few e Flying a.value (flies ready any e a)).hops

    only : (st : Stand) (m : MovingPicture) → HasFields u e st m → m ≡ next
    only Flying m has = by (under_way-after b (λ z. Contains (values_of z) m) has.0)
      where
        by : IsLeft b (λ z. Contains (values_of z) m) ⊎ IsSent c (λ z. Contains (values_of z) m) → m ≡ next
        by (inl left) = absurd (not-left ready different e a m has.1 left)
        by (inr sent) =
            let o = map-there (left_value k) ms m (new (λ z. Contains (values_of z) m) sent) in
            o.2 ∙ ap (left_value k) (same-value ms o.0 a.value different o.1 a.there (sym (ap (λ (z : MovingPicture). z.end) o.2) ∙ has.1 ∙ sym a.of))
    only (At j) m has = by (eqb_tells j k)
      where
        by : ((nat_eq j k ≡ true) × (j ≡ k)) ⊎ ((nat_eq j k ≡ false) × (j ≢ k)) → m ≡ next
        by (inl near) = absurd (left-none at a.value m (sym (ap value_of (ap (λ z. entry_at u z e) near.1 ∙ then_left)) ∙ has))
        by (inr far) = absurd (let differ : At j ≡ Flying = (carried.alone e a (At j) m (ap value_of (sym (b.others j e far.0)) ∙ has)).0 in cc)

    goes-on : IsMover l u c s.ends e
    goes-on =
        record {
          stand = Flying;
          value = a.value;
          had = flies ready any e a;
          alone = λ st m has. (carried.alone e a st m has).1;
          lives = carried.lives e a;
          knows = carried.knows e a;
          away = λ j v off was. absurd (let differ : At j ≡ Flying = (carried.alone e a (At j) v.value (ap value_of was)).0 in cc);
          site = Flying;
          next = next;
          has = (under_way-sent b (λ z. Contains (values_of z) next) (record { to = at; what = back; there = sent-there; is = inside }), a.of);
          only = only;
          like = left-onward k a.value more;
          leads = leads;
          entry = subst (IsMovedEntry c e next) (sym then_left) (moved-left_entry c e at a.value more);
        }
      where
        leads : a.value.dead ≡ false → HasChain u e k a.value.hops
        leads free =
            chain-flying u e k a.value.hops at (gains_one a.value.hops) (then_left ∙ ap (λ d. if d then entry.Nothing else entry.Left at (gains_one a.value.hops)) free) (omega (arith, more))
            (record { packet = record { stamp = c.stamp; what = back }; value = next; there = sent-after b at back sent-there; inside = inside; its = a.of; hops = refl })

  -- ---- all of it

  entry-or : (e : EndId) → ((list_any (end_eq e) (ends_in ms) ≡ false) × (entry_at u k e ≡ entry_at l k e)) ⊎ ((a : IsAmong ms e) × (entry_at u k e ≡ left_entry at a.value))
  entry-or e = by (brings-case ms (left_entry at) e ((w.kernel k).table e))
    where
      by : ((list_any (end_eq e) (ends_in ms) ≡ false) × (brings ms (left_entry at) stays e ((w.kernel k).table e) ≡ (w.kernel k).table e)) ⊎ ((a : IsAmong ms e) × (brings ms (left_entry at) stays e ((w.kernel k).table e) ≡ left_entry at a.value))
          → ((list_any (end_eq e) (ends_in ms) ≡ false) × (entry_at u k e ≡ entry_at l k e)) ⊎ ((a : IsAmong ms e) × (entry_at u k e ≡ left_entry at a.value))
      by (inl none) = inl (none.0, b.entry e ∙ none.1)
      by (inr came) = inr (came.0, b.entry e ∙ came.1)

  moving : IsMoving (λ e. list_any (end_eq e) (ends_in ms)) l u c s.ends
  moving =
      record {
        movers = λ e on. mover e on (entry-or e);
        others = λ e off. still e off (entry-or e);
        taken = tt;
        sent = (tt, tt);
        unmoved = λ e j h taken. is-taken from q refl (IsMovedTo e j h) taken;
        brought = λ m taken. among-told ms m.end (record { value = m; there = is-taken from q refl (λ z. Contains (values_of z) m) taken; of = refl });
        carried = λ m sent.
            let o = map-there (left_value k) ms m (new (λ z. Contains (values_of z) m) sent) in
            among-told ms m.end (record { value = o.0; there = o.1; of = sym (ap (λ (z : MovingPicture). z.end) o.2) });
        news = λ e j h sent. absurd (new _ sent);
        asks = λ e m j h sent. absurd (new _ sent);
        parcel = λ e d m j what mark opens has its. absurd (subst (IsParcelTo e) (sym (ap (λ (y : ℕ × PictureWhat). y.1) (sent-is j what has))) its);
        back = λ e d m j what mark opens has its. from-mark e d m mark opens (subst (IsBackTo (opposite e)) (sym (ap (λ (y : ℕ × PictureWhat). y.1) (sent-is j what has))) its);
      }
    where
      mover : (e : EndId) → list_any (end_eq e) (ends_in ms) ≡ true → ((list_any (end_eq e) (ends_in ms) ≡ false) × (entry_at u k e ≡ entry_at l k e)) ⊎ ((a : IsAmong ms e) × (entry_at u k e ≡ left_entry at a.value)) → IsMover l u c s.ends e
      mover e on (inl none) = absurd (true≢false (sym on ∙ none.0))
      mover e on (inr came) = goes-on e came.0 came.1

      still : (e : EndId) → list_any (end_eq e) (ends_in ms) ≡ false → ((list_any (end_eq e) (ends_in ms) ≡ false) × (entry_at u k e ≡ entry_at l k e)) ⊎ ((a : IsAmong ms e) × (entry_at u k e ≡ left_entry at a.value)) → IsStill c k e (entry_at l k e) (entry_at u k e)
      still e off (inl same) = subst (IsStill c k e (entry_at l k e)) (sym same.1) (still-same c k e (entry_at l k e))
      still e off (inr came) = absurd (true≢false (sym (among-told ms e came.0) ∙ off))

      -- the parcel came where the mark is
      from-mark : (e : EndId) (d : ℕ) (m : MovingPicture) → entry_at l d e ≡ entry.Destroyed m → is_open (s.ends (opposite e)) ≡ true → opposite to ≡ opposite e → k ≡ d
      from-mark e d m mark opens same =
          All-contains (λ z. IsParcelTo e z.what → k ≡ d) (w.packets from k) q ((subst (IsTraceRight l s.ends e d) mark ((traced e).entries d)).parcels opens from k) (stands-first is k from q others there)
          (sym (opposite-twice to) ∙ ap opposite same ∙ opposite-twice e)

  pub passed-traced : AreTraced u now
  passed-traced =
      moving-traced b s.ends now moving as_open (λ e j m mark. (is.links.marked e).destroyed j m mark)
      (λ j e o here. here-living (length s.made) l s.ends is.setting.few is.links.named is.links.marked is.stands.links.once e j o here) is.service.noticed.opposite is.links.honest traced
