-- The message of a send that is matched leaves with the ends that it carries, which are here: an event by which ends move.
use Rattle.std.proofs.Common.{◌≡◌, ◌≢◌, ◌⊎◌, inl, inr, ℕ, ◌+◌, ◌^◌, ◌<◌, ◌≤◌, Bool, true, false, true≢false, nat_eq, if◌then◌else◌, List, [], ◌∷◌, length, Contains, IfSome, Option, Some, None, refl, sym, ap, subst, ◌∙◌, arith, eq-eqb}
use Rattle.std.proofs.lemmas.Bool.Decides.{eqb_tells}
use Rattle.std.specs.List.{flat_map, list_any}
use Rattle.charlotte_calls.specs.Names.{opposite}
use Rattle.charlotte_calls.specs.declared.names.EndId.{EndId}
use Rattle.charlotte_packets.specs.declared.picture.MovingPicture.{MovingPicture}
use Rattle.charlotte_packets.specs.declared.picture.Picture.{Picture}
use Rattle.charlotte_packets.specs.declared.picture.PictureWhat.{PictureWhat}
use Rattle.charlotte_packets.specs.declared.picture.PictureWhat.TheVariants as packet
use Rattle.end_table.proofs.EndEq.{end_eq-refl, end_eq-same}
use Rattle.end_table.specs.Entries.{gains_one, left_entry, left_value}
use Rattle.end_table.specs.Place.{end_eq}
use Rattle.end_table.specs.Table.{IsHere, IsHereAnd, IsOfEnd}
use Rattle.end_table.specs.declared.entry.Entry.{Entry}
use Rattle.end_table.specs.declared.entry.Entry.TheVariants as entry
use Rattle.end_table.specs.declared.entry.HereView.{HereView}
use Rattle.kernel_effects.specs.Actions.{left_of}
use Rattle.kernel_effects.specs.Effect.{puts, stays, turns}
use Rattle.kernel_step.specs.Actions.{here, value_leaving, values_leaving}
use Rattle.kernel_world.specs.World.{World}
use Rattle.service_lawful.specs.Consistent.{is_open}
use Rattle.service_step.specs.Ends.{is_living}
use Rattle.service_step.specs.State.{State}
use Rattle.service_step.specs.declared.state.End.{End}
use Rattle.trace_landing.proofs.Granted.{gains}
use Rattle.theorem_effects.proofs.Aside.{not_among, sent-each}
use Rattle.theorem_effects.proofs.Lists.{first, first_or_later, none-there}
use Rattle.theorem_effects.proofs.Packets.{left-was, sent-after, under_way-after, under_way-sent}
use Rattle.theorem_effects.specs.Change.{Change, Changes}
use Rattle.theorem_effects.specs.Sums.{AllSent}
use Rattle.theorem_effects.specs.Under.{IsLeft, IsSent, IsTaken}
use Rattle.theorem_match.proofs.Values.{any-there, leaving-value}
use Rattle.theorem_meaning.proofs.Ends.{opposite-twice}
use Rattle.theorem_meaning.proofs.Plain.{there-here}
use Rattle.theorem_meaning.specs.Fields.{At, Flying, HasFields, IsAsking, IsNews, Stand, value_of}
use Rattle.theorem_meaning.specs.Invariant.{Invariant}
use Rattle.theorem_meaning.specs.Packets.{Links, links_of, values_of}
use Rattle.theorem_meaning.specs.StandsFor.{entry_at}
use Rattle.theorem_take_silent.proofs.Alike.{some-same}
use Rattle.theorem_take_silent.proofs.Places.{fields-here, here-kernel, here-living}
use Rattle.trace_landing.proofs.Known.{contains-flat_map}
use Rattle.trace_landing.specs.Calm.{AreAsOpen}
use Rattle.trace_landing.proofs.Said.{said-asks, said-back, said-bare, said-news, said-parcel, said-plain}
use Rattle.trace_landing.specs.Landing.{IsSaid}
use Rattle.trace_meaning.proofs.Chains.{chain-flying, chain-here}
use Rattle.trace_meaning.specs.Traces.{AreTraced}
use Rattle.trace_meaning.specs.Words.{HasChain, IsBackTo, IsFlying, IsMovedTo, IsParcelTo}
use Rattle.trace_landing.proofs.Moving.{moving-traced}
use Rattle.trace_landing.proofs.Onward.{left-none, left-onward, moved-left_entry}
use Rattle.trace_landing.proofs.Still.{still-same}
use Rattle.trace_landing.specs.Moving.{IsMovedEntry, IsMover, IsMoving, IsPlain, IsStaying, IsStill}

-- the value of an end that is here is among those that leave
leaving-there : (k : ℕ) (t : EndId → Entry) (xs : List EndId) (e : EndId) (o : HereView) → Contains xs e → t e ≡ entry.Here o → Contains (values_leaving k t xs) (left_value k o.value)
unfolding values_leaving
leaving-there k t xs e o has is = contains-flat_map (λ x. value_leaving k (here (t x))) xs e (left_value k o.value) has (subst (λ y. Contains (value_leaving k (here y)) (left_value k o.value)) (sym is) (first (left_value k o.value) []))

pub told-any : (e : EndId) (xs : List EndId) → Contains xs e → list_any (end_eq e) xs ≡ true
told-any e xs has = by (list_any (end_eq e) xs) refl
  where
    by : (a : Bool) → list_any (end_eq e) xs ≡ a → a ≡ true
    by true is = refl
    by false none = absurd (not_among e xs none has)

abbrev kernel_of : Stand → ℕ
kernel_of (At k) = k
kernel_of Flying = 0

-- a packet by which a message may come to be matched, if one is taken
abbrev pub IsWanting : PictureWhat → Type 0
IsWanting (packet.Want to n j h) = Unit {0}
IsWanting _ = ⊥

wanting-plain : (q : PictureWhat) → IsWanting q → IsPlain q
wanting-plain (packet.Want to n j h) is = tt
wanting-plain _ is = absurd is

wanting-bare : (q : PictureWhat) → IsWanting q → values_of q ≡ []
wanting-bare (packet.Want to n j h) is = refl
wanting-bare _ is = absurd is

wanting-moved : (q : PictureWhat) → IsWanting q → (e : EndId) (j h : ℕ) → IsMovedTo e j h q → ⊥
wanting-moved (packet.Want to n j h) is e g i its = its
wanting-moved _ is e g i its = is

-- the end with view v, at kernel k, sends the ends xs to a kernel; it has view x then
module _ (i : ℕ) (w : World) (s : State) (is : Invariant i w s) (room : i < 2 ^ 31) (k : ℕ) (v x : HereView) (stood : (w.kernel k).table v.value.end ≡ entry.Here v) (n r to : ℕ) (bytes : List ℕ) (xs : List EndId) (here_each : (e : EndId) → Contains xs e → IsHere ((w.kernel k).table e))
    (apart : list_any (end_eq v.value.end) xs ≡ false) (more : List (ℕ × PictureWhat)) (base : Change) (u : Links) where
  abbrev l : Links
  l = links_of w

  abbrev table : EndId → Entry
  table = (w.kernel k).table

  abbrev parcel : PictureWhat
  parcel = packet.Parcel (opposite v.value.end) n r k v.value.hops bytes (values_leaving k table xs)

  abbrev pub departing : Change
  departing =
      record base {
        kernel = k;
        entry = puts v.value.end (entry.Here x) (turns xs (left_of to) stays);
        packets = (to, packet.Parcel (opposite v.value.end) n r k v.value.hops bytes (values_leaving k (w.kernel k).table xs)) ∷ more;
      }

  abbrev c : Change
  c = departing

  module _ (b : Changes (links_of w) departing u) (staying : IsStaying departing k v.value.end v.value x.value) (taken : IfSome base.taken (λ q. IsWanting q.1.what)) (said : AllSent (λ j what. IsSaid u s.ends k what) more)
      (site : (d : ℕ) (m : MovingPicture) → entry_at (links_of w) d (opposite v.value.end) ≡ entry.Destroyed m → is_open (s.ends v.value.end) ≡ true → to ≡ d) where
    living : (j : ℕ) (e : EndId) (o : HereView) → entry_at l j e ≡ entry.Here o → is_living (s.ends e).place ≡ true
    living j e o at_j = here-living (length s.made) l s.ends is.setting.few is.links.named is.links.marked is.stands.links.once e j o at_j

    not-own : (e : EndId) → list_any (end_eq e) xs ≡ true → end_eq v.value.end e ≡ false
    not-own e on = by (end_eq v.value.end e) refl
      where
        by : (a : Bool) → end_eq v.value.end e ≡ a → a ≡ false
        by false is_so = refl
        by true same = absurd (true≢false (sym on ∙ subst (λ z. list_any (end_eq z) xs ≡ false) (end_eq-same v.value.end e same) apart))

    sent-first : Contains c.packets (to, parcel)
    sent-first = first {X = ℕ × PictureWhat} (to, parcel) more

    -- a packet that was sent is the parcel, or tells where the end is
    sent-or : (j : ℕ) (what : PictureWhat) → Contains c.packets (j, what) → ((to ≡ j) × (parcel ≡ what)) ⊎ IsSaid u s.ends k what
    sent-or j what has = by (first_or_later (to, parcel) more (j, what) has)
      where
        by : ◌≡◌ {A = ℕ × PictureWhat} (to, parcel) (j, what) ⊎ Contains more (j, what) → ((to ≡ j) × (parcel ≡ what)) ⊎ IsSaid u s.ends k what
        by (inl same) = inl (ap (λ (z : ℕ × PictureWhat). z.0) same, ap (λ (z : ℕ × PictureWhat). z.1) same)
        by (inr there) = inr (sent-each (λ j what. IsSaid u s.ends k what) more j what said there)

    -- the values that were sent
    value-sent : (m : MovingPicture) → IsSent c (λ z. Contains (values_of z) m) → (e : EndId) × Contains xs e × (o : HereView) × (table e ≡ entry.Here o) × (m ≡ left_value k o.value)
    value-sent m z = by (sent-or z.to z.what z.there)
      where
        by : ((to ≡ z.to) × (parcel ≡ z.what)) ⊎ IsSaid u s.ends k z.what → (e : EndId) × Contains xs e × (o : HereView) × (table e ≡ entry.Here o) × (m ≡ left_value k o.value)
        by (inl same) = leaving-value k table xs m (subst (λ what. Contains (values_of what) m) (sym same.1) z.is)
        by (inr told) = absurd (none-there m (subst (λ ms. Contains ms m) (said-bare u s.ends k z.what told) z.is))

    -- ---- an end that leaves

    module _ (e : EndId) (on : list_any (end_eq e) xs ≡ true) (o : HereView) (at_k : table e ≡ entry.Here o) where
      own : o.value.end ≡ e
      own = subst (IsOfEnd e) at_k ((is.setting.sound k).own e)

      fields : (st : Stand) (m : MovingPicture) → HasFields l e st m → (st ≡ At k) × (m ≡ o.value)
      fields st m has = fields-here (length s.made) l s.ends is.setting.few is.links.named is.links.marked is.stands.links.once e k o st m at_k has

      more_hops : gains_one o.value.hops ≡ o.value.hops + 1
      more_hops = gains i o.value.hops room (is.links.few e (At k) o.value (ap value_of at_k)).hops

      then_left : entry_at u k e ≡ left_entry to o.value
      then_left =
          b.entry e ∙ ap (λ a. if a then entry.Here x else turns xs (left_of to) stays e (table e)) (not-own e on) ∙ ap (λ a. if a then left_of to (table e) else table e) on ∙ ap (left_of to) at_k

      abbrev next : MovingPicture
      next = left_value k o.value

      inside : Contains (values_of parcel) next
      inside = leaving-there k table xs e o (any-there e xs on) at_k

      only : (st : Stand) (m : MovingPicture) → HasFields u e st m → m ≡ next
      only Flying m has = by (under_way-after b (λ z. Contains (values_of z) m) has.0)
        where
          by : IsLeft b (λ z. Contains (values_of z) m) ⊎ IsSent c (λ z. Contains (values_of z) m) → m ≡ next
          by (inl left) = absurd (let differ : Flying ≡ At k = (fields Flying m (left-was b (λ z. Contains (values_of z) m) left, has.1)).0 in cc)
          by (inr sent) =
              let y = value-sent m sent in
              let of : y.2.value.end ≡ y.0 = subst (IsOfEnd y.0) y.3 ((is.setting.sound k).own y.0) in
              let same : y.0 ≡ e = sym of ∙ sym (ap (λ (z : MovingPicture). z.end) y.4) ∙ has.1 in
              y.4 ∙ ap (left_value k) (fields (At k) y.2.value (ap value_of (ap table (sym same) ∙ y.3))).1
      only (At j) m has = by (eqb_tells j k)
        where
          by : ((nat_eq j k ≡ true) × (j ≡ k)) ⊎ ((nat_eq j k ≡ false) × (j ≢ k)) → m ≡ next
          by (inl near) = absurd (left-none to o.value m (sym (ap value_of (ap (λ z. entry_at u z e) near.1 ∙ then_left)) ∙ has))
          by (inr far) = absurd (far.1 (ap kernel_of (fields (At j) m (ap value_of (sym (b.others j e far.0)) ∙ has)).0))

      leaver : IsMover l u c s.ends e
      leaver =
          record {
            stand = At k;
            value = o.value;
            had = ap value_of at_k;
            alone = λ st m has. (fields st m has).1;
            lives = living k e o at_k;
            knows = (is.links.counted e).dead (At k) o.value (living k e o at_k) (ap value_of at_k);
            away = λ j y off was.
                true≢false
                (sym (eq-eqb j k (here-kernel (length s.made) l s.ends is.setting.few is.links.named is.links.marked is.stands.links.once e j k y o was at_k)) ∙ off);
            site = Flying;
            next = next;
            has = (under_way-sent b (λ z. Contains (values_of z) next) (record { to = to; what = parcel; there = sent-first; is = inside }), own);
            only = only;
            like = left-onward k o.value more_hops;
            leads = leads;
            entry = subst (IsMovedEntry c e next) (sym then_left) (moved-left_entry c e to o.value more_hops);
          }
        where
          leads : o.value.dead ≡ false → HasChain u e k o.value.hops
          leads free =
              chain-flying u e k o.value.hops to (gains_one o.value.hops) (then_left ∙ ap (λ d. if d then entry.Nothing else entry.Left to (gains_one o.value.hops)) free) (omega (arith, more_hops))
              (record { packet = record { stamp = c.stamp; what = parcel }; value = next; there = sent-after b to parcel sent-first; inside = inside; its = own; hops = refl })

    -- ---- ends that stay

    now-own : entry_at u k v.value.end ≡ entry.Here x
    now-own = b.entry v.value.end ∙ ap (λ a. if a then entry.Here x else turns xs (left_of to) stays v.value.end (table v.value.end)) (end_eq-refl v.value.end)

    others : (e : EndId) → list_any (end_eq e) xs ≡ false → IsStill c k e (entry_at l k e) (entry_at u k e)
    others e off = by (end_eq v.value.end e) refl
      where
        by : (a : Bool) → end_eq v.value.end e ≡ a → IsStill c k e (entry_at l k e) (entry_at u k e)
        by true same =
            subst (λ z. IsStill c k z (entry_at l k z) (entry_at u k z)) (end_eq-same v.value.end e same)
            (subst (IsStill c k v.value.end (entry_at l k v.value.end)) (sym now-own) (subst (λ y. IsStill c k v.value.end y (entry.Here x)) (sym stood) staying))
        by false far =
            subst (IsStill c k e (entry_at l k e))
            (sym (b.entry e ∙ ap (λ a. if a then entry.Here x else turns xs (left_of to) stays e (table e)) far ∙ ap (λ a. if a then left_of to (table e) else table e) off)) (still-same c k e (entry_at l k e))

    -- ---- packets

    untaken : (P : PictureWhat → Type 0) → ((q : PictureWhat) → IsWanting q → P q → ⊥) → IsTaken c P → ⊥
    untaken P none z = none z.packet.what (subst (λ y. IfSome y (λ q. IsWanting q.1.what)) z.taken taken) z.is

    plain-taken : (y : Option (ℕ × Picture)) → IfSome y (λ q. IsWanting q.1.what) → IfSome y (λ q. IsPlain q.1.what)
    plain-taken None is_so = tt
    plain-taken (Some q) is_so = wanting-plain q.1.what is_so

    all-plain : (ps : List (ℕ × PictureWhat)) → AllSent (λ j what. IsSaid u s.ends k what) ps → AllSent (λ j what. IsPlain what) ps
    all-plain [] are = tt
    all-plain (p ∷ ps) are = (said-plain u s.ends k p.1 are.0, all-plain ps are.1)

    -- the parcel tells where the end is
    its-news : (e : EndId) (j h : ℕ) → (opposite v.value.end ≡ opposite e) × (k ≡ j) × (v.value.hops ≡ h) → HasChain u e j h
    its-news e j h its =
        let same : v.value.end ≡ e = sym (opposite-twice v.value.end) ∙ ap opposite its.0 ∙ opposite-twice e in
        let hops : x.value.hops ≡ v.value.hops = ap (λ (z : MovingPicture). z.hops) staying.like in
        let told : v.value.hops ≡ h = its.2 in
        subst (λ z. HasChain u e z h) its.1 (chain-here u e k h x (ap (entry_at u k) (sym same) ∙ now-own) (omega (arith, hops, told)))

    moving : IsMoving (λ e. list_any (end_eq e) xs) l u c s.ends
    moving =
        record {
          movers = λ e on. let o = there-here (table e) (λ z. Unit {0}) (here_each e (any-there e xs on)) in leaver e on o.0 o.1;
          others = others;
          taken = plain-taken base.taken taken;
          sent = (tt, all-plain more said);
          unmoved = λ e j h. untaken (IsMovedTo e j h) (λ q is its. wanting-moved q is e j h its);
          brought = λ m z. absurd (untaken (λ q. Contains (values_of q) m) (λ q is its. none-there m (subst (λ ms. Contains ms m) (wanting-bare q is) its)) z);
          carried = λ m sent.
              let y = value-sent m sent in
              let of : y.2.value.end ≡ y.0 = subst (IsOfEnd y.0) y.3 ((is.setting.sound k).own y.0) in
              told-any m.end xs (subst (Contains xs) (sym of ∙ sym (ap (λ (z : MovingPicture). z.end) y.4)) y.1);
          news = λ e j h z. news e j h z.to z.what (sent-or z.to z.what z.there) z.is;
          asks = λ e m j h z. asks e m j h z.to z.what (sent-or z.to z.what z.there) z.is;
          parcel = λ e d m j what mark opens has its. to-mark e d m j what mark opens (sent-or j what has) its;
          back = λ e d m j what mark opens has its. absurd (no-back e j what (sent-or j what has) its);
        }
      where
        news : (e : EndId) (j h : ℕ) (y : ℕ) (what : PictureWhat) → ((to ≡ y) × (parcel ≡ what)) ⊎ IsSaid u s.ends k what → IsNews (opposite e) j h what → HasChain u e j h
        news e j h y what (inl same) its = its-news e j h (subst (IsNews (opposite e) j h) (sym same.1) its)
        news e j h y what (inr told) its = said-news u s.ends k what told e j h its

        asks : (e : EndId) (m j h : ℕ) (y : ℕ) (what : PictureWhat) → ((to ≡ y) × (parcel ≡ what)) ⊎ IsSaid u s.ends k what → IsAsking (opposite e) m j h what → is_living (s.ends e).place ≡ true
        asks e m j h y what (inl same) its = absurd (subst (IsAsking (opposite e) m j h) (sym same.1) its)
        asks e m j h y what (inr told) its = said-asks u s.ends k what told e m j h its

        to-mark : (e : EndId) (d : ℕ) (m : MovingPicture) (j : ℕ) (what : PictureWhat) → entry_at l d e ≡ entry.Destroyed m → is_open (s.ends (opposite e)) ≡ true → ((to ≡ j) × (parcel ≡ what)) ⊎ IsSaid u s.ends k what → IsParcelTo e what → j ≡ d
        to-mark e d m j what mark opens (inr told) its = absurd (said-parcel u s.ends k what told e its)
        to-mark e d m j what mark opens (inl same) its =
            let its_end : opposite v.value.end ≡ e = subst (IsParcelTo e) (sym same.1) its in
            sym same.0 ∙ site d m (ap (entry_at l d) its_end ∙ mark) (subst (λ z. is_open (s.ends z) ≡ true) (ap opposite (sym its_end) ∙ opposite-twice v.value.end) opens)

        no-back : (e : EndId) (j : ℕ) (what : PictureWhat) → ((to ≡ j) × (parcel ≡ what)) ⊎ IsSaid u s.ends k what → IsBackTo (opposite e) what → ⊥
        no-back e j what (inl same) its = subst (IsBackTo (opposite e)) (sym same.1) its
        no-back e j what (inr told) its = said-back u s.ends k what told (opposite e) its

    pub departing-traced : (now : EndId → End) → AreAsOpen s.ends now → AreTraced (links_of w) s.ends → AreTraced u now
    departing-traced now as_open traced =
        moving-traced b s.ends now moving as_open (λ e j m mark. (is.links.marked e).destroyed j m mark)
        (λ j e o at_j. living j e o at_j) is.service.noticed.opposite is.links.honest traced
