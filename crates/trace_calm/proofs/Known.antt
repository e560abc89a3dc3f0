-- A known clears the trail of its end, whose kernels are told to forget, and keeps all that is true of the traces of ends.
use Rattle.std.proofs.Common.{◌≡◌, ◌≢◌, ◌⊎◌, inl, inr, ℕ, zero, suc, ◌<◌, ◌≤◌, Bool, true, false, nat_eq, ◌&&◌, not, if◌then◌else◌, List, [], ◌∷◌, ◌++◌, length, Contains, refl, sym, ap, subst, ◌∙◌, true≢false, eq-eqb, arith}
use Rattle.std.proofs.lemmas.Bool.Decides.{eqb_tells}
use Rattle.std.proofs.lemmas.List.Elements.{Contains-append_left, Contains-append_right}
use Rattle.std.specs.Int.{bit_at}
use Rattle.std.specs.List.{flat_map}
use Rattle.charlotte_calls.specs.Names.{opposite}
use Rattle.charlotte_calls.specs.declared.names.EndId.{EndId}
use Rattle.charlotte_calls.specs.declared.names.Pid.{Pid}
use Rattle.charlotte_packets.specs.declared.picture.MovingPicture.{MovingPicture}
use Rattle.charlotte_packets.specs.declared.picture.Picture.{Picture}
use Rattle.charlotte_packets.specs.declared.picture.PictureWhat.{PictureWhat}
use Rattle.charlotte_packets.specs.declared.picture.PictureWhat.TheVariants as packet
use Rattle.end_table.proofs.EndEq.{end_eq-refl, end_eq-same}
use Rattle.end_table.specs.Place.{end_eq}
use Rattle.end_table.specs.Table.{IsOfEnd}
use Rattle.end_table.specs.declared.entry.Entry.{Entry}
use Rattle.end_table.specs.declared.entry.Entry.TheVariants as entry
use Rattle.end_table.specs.declared.entry.HereView.{HereView}
use Rattle.kernel_effects.proofs.Uses.{forget-each}
use Rattle.kernel_effects.specs.Actions.{forget_packet, forget_packets}
use Rattle.kernel_effects.specs.Effect.{Effect, nothing, puts, sent, stays}
use Rattle.kernel_effects.specs.Rows.{known_effect, row_effect}
use Rattle.kernel_step.specs.Actions.{kernel_numbers}
use Rattle.kernel_world.specs.World.{Takes, World, happens}
use Rattle.service_step.specs.State.{State}
use Rattle.trace_events.proofs.Allowed.{takes-allowed}
use Rattle.trace_events.proofs.TheoremEffectsAside.{sent-each}
use Rattle.trace_events.proofs.Lists.{first, first_or_later, later, none-there}
use Rattle.trace_events.proofs.Packets.{taken-was, under_way-after, under_way-before, under_way-left, left-was}
use Rattle.trace_events.specs.Change.{Change, Happens}
use Rattle.trace_events.specs.Events.{taking}
use Rattle.trace_events.specs.Sums.{AllSent}
use Rattle.trace_events.specs.Under.{IsLeft, IsSent, IsTaken}
use Rattle.theorem_meaning.proofs.Ends.{opposite-apart}
use Rattle.theorem_meaning.proofs.Plain.{view-same}
use Rattle.theorem_meaning.specs.Fields.{At, Flying, HasFields, Stand, value_of}
use Rattle.theorem_meaning.specs.Invariant.{Invariant}
use Rattle.theorem_meaning.specs.Packets.{IsUnderWay, Links, links_of, values_of}
use Rattle.theorem_meaning.specs.StandsFor.{entry_at}
use Rattle.theorem_take_silent.proofs.Places.{fields-here, here-living}
use Rattle.trace_calm.proofs.Calls.{steadily-same}
use Rattle.trace_calm.proofs.Calm.{calm-traced}
use Rattle.trace_calm.proofs.Marked.{kernel-low}
use Rattle.trace_calm.proofs.Steady.{steadily-calmly}
use Rattle.trace_calm.proofs.Takings.{chosen}
use Rattle.trace_calm.specs.Calm.{IsCalm, IsCalmly, IsClosing, IsPassedOn, IsTrueAsk}
use Rattle.trace_events.proofs.One.{is-taken as was-taken, put-had, put-has, put-or, put-stays, put-was}
use Rattle.trace_events.proofs.Tracks.{going-sent}
use Rattle.trace_meaning.specs.Traces.{AreTraced, IsToForget, IsTrailed}
use Rattle.trace_meaning.specs.Words.{HasMark, IsForgetOf, IsGoneFrom, IsGoneSeen, IsKnownOf, IsMovedTo, IsSought}

-- ---- each kernel of a trail is told to forget

pub contains-flat_map : {X Y : Type 0} (f : X → List Y) (xs : List X) (x : X) (y : Y) → Contains xs x → Contains (f x) y → Contains (flat_map f xs) y
contains-flat_map f [] x y has inside = absurd (none-there x has)
contains-flat_map f (z ∷ xs) x y has inside = by (first_or_later z xs x has) (λ rest. contains-flat_map f xs x y rest inside)
  where
    by : (z ≡ x) ⊎ Contains xs x → (Contains xs x → Contains (flat_map f xs) y) → Contains (f z ++ flat_map f xs) y
    by (inl same) rest = Contains-append_left (f z) (flat_map f xs) y (subst (λ v. Contains (f v) y) (sym same) inside)
    by (inr there) rest = Contains-append_right (f z) (flat_map f xs) y (rest there)

number-there : (j : ℕ) → j < 8 → Contains kernel_numbers j
number-there zero low = first 0 (1 ∷ 2 ∷ 3 ∷ 4 ∷ 5 ∷ 6 ∷ 7 ∷ [])
number-there (suc zero) low = later 0 (1 ∷ 2 ∷ 3 ∷ 4 ∷ 5 ∷ 6 ∷ 7 ∷ []) 1 (first 1 (2 ∷ 3 ∷ 4 ∷ 5 ∷ 6 ∷ 7 ∷ []))
number-there (suc (suc zero)) low = later 0 (1 ∷ 2 ∷ 3 ∷ 4 ∷ 5 ∷ 6 ∷ 7 ∷ []) 2 (later 1 (2 ∷ 3 ∷ 4 ∷ 5 ∷ 6 ∷ 7 ∷ []) 2 (first 2 (3 ∷ 4 ∷ 5 ∷ 6 ∷ 7 ∷ [])))
number-there (suc (suc (suc zero))) low = later 0 (1 ∷ 2 ∷ 3 ∷ 4 ∷ 5 ∷ 6 ∷ 7 ∷ []) 3 (later 1 (2 ∷ 3 ∷ 4 ∷ 5 ∷ 6 ∷ 7 ∷ []) 3 (later 2 (3 ∷ 4 ∷ 5 ∷ 6 ∷ 7 ∷ []) 3 (first 3 (4 ∷ 5 ∷ 6 ∷ 7 ∷ []))))
number-there (suc (suc (suc (suc zero)))) low = later 0 (1 ∷ 2 ∷ 3 ∷ 4 ∷ 5 ∷ 6 ∷ 7 ∷ []) 4 (later 1 (2 ∷ 3 ∷ 4 ∷ 5 ∷ 6 ∷ 7 ∷ []) 4 (later 2 (3 ∷ 4 ∷ 5 ∷ 6 ∷ 7 ∷ []) 4 (later 3 (4 ∷ 5 ∷ 6 ∷ 7 ∷ []) 4 (first 4 (5 ∷ 6 ∷ 7 ∷ [])))))
number-there (suc (suc (suc (suc (suc zero))))) low = later 0 (1 ∷ 2 ∷ 3 ∷ 4 ∷ 5 ∷ 6 ∷ 7 ∷ []) 5 (later 1 (2 ∷ 3 ∷ 4 ∷ 5 ∷ 6 ∷ 7 ∷ []) 5 (later 2 (3 ∷ 4 ∷ 5 ∷ 6 ∷ 7 ∷ []) 5 (later 3 (4 ∷ 5 ∷ 6 ∷ 7 ∷ []) 5 (later 4 (5 ∷ 6 ∷ 7 ∷ []) 5 (first 5 (6 ∷ 7 ∷ []))))))
number-there (suc (suc (suc (suc (suc (suc zero)))))) low = later 0 (1 ∷ 2 ∷ 3 ∷ 4 ∷ 5 ∷ 6 ∷ 7 ∷ []) 6 (later 1 (2 ∷ 3 ∷ 4 ∷ 5 ∷ 6 ∷ 7 ∷ []) 6 (later 2 (3 ∷ 4 ∷ 5 ∷ 6 ∷ 7 ∷ []) 6 (later 3 (4 ∷ 5 ∷ 6 ∷ 7 ∷ []) 6 (later 4 (5 ∷ 6 ∷ 7 ∷ []) 6 (later 5 (6 ∷ 7 ∷ []) 6 (first 6 (7 ∷ [])))))))
number-there (suc (suc (suc (suc (suc (suc (suc zero))))))) low = later 0 (1 ∷ 2 ∷ 3 ∷ 4 ∷ 5 ∷ 6 ∷ 7 ∷ []) 7 (later 1 (2 ∷ 3 ∷ 4 ∷ 5 ∷ 6 ∷ 7 ∷ []) 7 (later 2 (3 ∷ 4 ∷ 5 ∷ 6 ∷ 7 ∷ []) 7 (later 3 (4 ∷ 5 ∷ 6 ∷ 7 ∷ []) 7 (later 4 (5 ∷ 6 ∷ 7 ∷ []) 7 (later 5 (6 ∷ 7 ∷ []) 7 (later 6 (7 ∷ []) 7 (first 7 [])))))))
number-there (suc (suc (suc (suc (suc (suc (suc (suc j)))))))) low = absurd (omega (arith, low))

pub forget-there : (k j : ℕ) (m : MovingPicture) → j < 8 → bit_at m.trail j ≡ 1 → nat_eq j k ≡ false → Contains {X = ℕ × PictureWhat} (forget_packets k m) (j, packet.Forget m.end m.hops)
forget-there k j m low set apart = contains-flat_map (forget_packet k m) kernel_numbers j (j, packet.Forget m.end m.hops) (number-there j low) (subst (λ b. Contains {X = ℕ × PictureWhat} (if b then (j, packet.Forget m.end m.hops) ∷ [] else []) (j, packet.Forget m.end m.hops)) (sym told) (first {X = ℕ × PictureWhat} (j, packet.Forget m.end m.hops) []))
  where
    both : (a b : Bool) → a ≡ true → b ≡ false → (a && not b) ≡ true
    both true false one other = refl
    both true true one other = sym other
    both false b one other = one

    told : (nat_eq (bit_at m.trail j) 1 && not (nat_eq j k)) ≡ true
    told = both (nat_eq (bit_at m.trail j) 1) (nat_eq j k) (eq-eqb (bit_at m.trail j) 1 set) apart

module _ (i : ℕ) (w : World) (s : State) (is : Invariant i w s) (k from stamp : ℕ) (to : EndId) (g : ℕ) (others : List Picture) (there : w.packets from k ≡ record { stamp = stamp; what = packet.Known to g } ∷ others)
    (v : HereView) (stood : (w.kernel k).table to ≡ entry.Here v) (alive : v.value.dead ≡ false) (current : nat_eq v.value.hops g ≡ true) (traced : AreTraced (links_of w) s.ends) where
  abbrev l : Links
  l = links_of w

  abbrev q : Picture
  q = record { stamp = stamp; what = packet.Known to g }

  -- its view without a trail
  abbrev cleared : HereView
  cleared = record v { value = record v.value { trail = 0 } }

  abbrev effect : Effect
  effect = record (sent (forget_packets k v.value)) { entry = puts v.value.end (entry.Here (record v { value = record v.value { trail = 0 } })) stays }

  abbrev any : Pid
  any = record { 0 = 0 }

  abbrev change : Change
  change = taking w k from q effect any [] []

  abbrev u : Links
  u = links_of (happens w (Takes k from))

  its-end : v.value.end ≡ to
  its-end = subst (IsOfEnd to) stood ((is.setting.sound k).own to)

  same-hops : v.value.hops ≡ g
  same-hops = by (eqb_tells v.value.hops g)
    where
      by : ((nat_eq v.value.hops g ≡ true) × (v.value.hops ≡ g)) ⊎ ((nat_eq v.value.hops g ≡ false) × (v.value.hops ≢ g)) → v.value.hops ≡ g
      by (inl at) = at.1
      by (inr off) = absurd (true≢false (sym current ∙ off.0))

  does : row_effect k (w.kernel k).made from (w.kernel k).table (packet.Known to g) ≡ effect
  does = ap (known_effect k g) stood ∙ chosen (not v.value.dead && nat_eq v.value.hops g) effect nothing (both v.value.dead (nat_eq v.value.hops g) alive current)
    where
      both : (a b : Bool) → a ≡ false → b ≡ true → (not a && b) ≡ true
      both false true dead now = refl
      both false false dead now = now
      both true b dead now = sym dead

  happened : Happens w (Takes k from) change
  happened = takes-allowed is k from q others there effect any [] [] does tt tt refl refl

  -- ---- entries

  clears : (e : EndId) → change.entry e (entry_at l k e) ≡ (if end_eq to e then entry.Here cleared else entry_at l k e)
  clears e = ap (λ z. if end_eq z e then entry.Here cleared else entry_at l k e) its-end

  entry-or : (j : ℕ) (e : EndId) → (entry_at u j e ≡ entry_at l j e) ⊎ ((j ≡ k) × (to ≡ e))
  entry-or = put-or happened.becomes.links to (entry.Here v) (entry.Here cleared) stood clears

  was-here : (j : ℕ) (e : EndId) → (j ≡ k) × (to ≡ e) → entry_at l j e ≡ entry.Here v
  was-here = put-had happened.becomes.links to (entry.Here v) (entry.Here cleared) stood clears

  now-here : (j : ℕ) (e : EndId) → (j ≡ k) × (to ≡ e) → entry_at u j e ≡ entry.Here cleared
  now-here = put-has happened.becomes.links to (entry.Here v) (entry.Here cleared) stood clears

  is-calmly : (j : ℕ) (e : EndId) → IsCalmly (entry_at l j e) (entry_at u j e)
  is-calmly j e = by (entry-or j e)
    where
      by : (entry_at u j e ≡ entry_at l j e) ⊎ ((j ≡ k) × (to ≡ e)) → IsCalmly (entry_at l j e) (entry_at u j e)
      by (inl same) = subst (IsCalmly (entry_at l j e)) (sym same) (steadily-calmly (entry_at l j e) (entry_at l j e) (steadily-same (entry_at l j e)))
      by (inr its) = subst (λ y. IsCalmly y (entry_at u j e)) (sym (was-here j e its)) (subst (IsCalmly (entry.Here v)) (sym (now-here j e its)) refl)

  -- an entry that is not here stays, and was so
  stays-so : (j : ℕ) (e : EndId) (y : Entry) → entry_at l j e ≡ y → (y ≡ entry.Here v → ⊥) → entry_at u j e ≡ y
  stays-so = put-stays happened.becomes.links to (entry.Here v) (entry.Here cleared) stood clears

  was-so : (j : ℕ) (e : EndId) (y : Entry) → entry_at u j e ≡ y → (y ≡ entry.Here cleared → ⊥) → entry_at l j e ≡ y
  was-so = put-was happened.becomes.links to (entry.Here v) (entry.Here cleared) stood clears

  -- ---- packets

  is-taken : (P : PictureWhat → Type 0) → IsTaken change P → P (packet.Known to g)
  is-taken = was-taken from q refl

  -- each packet that is sent tells to forget
  each-forgets : (P : ℕ → PictureWhat → Type 0) → ((j : ℕ) → P j (packet.Forget v.value.end v.value.hops)) → AllSent P (forget_packets k v.value)
  each-forgets P each = forget-each (λ (x : ℕ × PictureWhat). P x.0 x.1) k v.value (λ j set apart. each j)

  is-sent : (P : PictureWhat → Type 0) → IsSent change P → P (packet.Forget v.value.end v.value.hops)
  is-sent P x = subst P (sent-each (λ n what. what ≡ packet.Forget v.value.end v.value.hops) (forget_packets k v.value) x.to x.what (each-forgets (λ n what. what ≡ packet.Forget v.value.end v.value.hops) (λ j. refl)) x.there) x.is

  -- ---- fields and marks

  mark-still : (e : EndId) → HasMark l e → HasMark u e
  mark-still e m = record { at = m.at; mark = m.mark; there = stays-so m.at e (entry.Destroyed m.mark) m.there (λ differ. cc) }

  mark-was : (e : EndId) → HasMark u e → HasMark l e
  mark-was e m = record { at = m.at; mark = m.mark; there = was-so m.at e (entry.Destroyed m.mark) m.there (λ differ. cc) }

  sought-still : (e : EndId) → IsSought l s.ends e → IsSought u s.ends e
  sought-still e (inl is_open) = inl is_open
  sought-still e (inr mark) = inr (mark-still e mark)

  sought-was : (e : EndId) → IsSought u s.ends e → IsSought l s.ends e
  sought-was e (inl is_open) = inl is_open
  sought-was e (inr mark) = inr (mark-was e mark)

  -- another end keeps its fields
  fields-other : (e : EndId) (at : Stand) (m : MovingPicture) → (to ≡ e → ⊥) → (HasFields u e at m → HasFields l e at m) × (HasFields l e at m → HasFields u e at m)
  fields-other e (At j) m off = by (entry-or j e)
    where
      by : (entry_at u j e ≡ entry_at l j e) ⊎ ((j ≡ k) × (to ≡ e)) → (HasFields u e (At j) m → HasFields l e (At j) m) × (HasFields l e (At j) m → HasFields u e (At j) m)
      by (inl same) = (λ has. ap value_of (sym same) ∙ has, λ has. ap value_of same ∙ has)
      by (inr its) = absurd (off its.1)
  fields-other e Flying m off = (λ has. (was (under_way-after happened.becomes.links (λ z. Contains (values_of z) m) has.0), has.1), λ has. (still (under_way-before happened.becomes.links (λ z. Contains (values_of z) m) has.0), has.1))
    where
      was : IsLeft happened.becomes.links (λ z. Contains (values_of z) m) ⊎ IsSent change (λ z. Contains (values_of z) m) → IsUnderWay l (λ z. Contains (values_of z) m)
      was (inl left) = left-was happened.becomes.links (λ z. Contains (values_of z) m) left
      was (inr new) = absurd (none-there m (is-sent (λ z. Contains (values_of z) m) new))

      still : IsLeft happened.becomes.links (λ z. Contains (values_of z) m) ⊎ IsTaken change (λ z. Contains (values_of z) m) → IsUnderWay u (λ z. Contains (values_of z) m)
      still (inl left) = under_way-left happened.becomes.links (λ z. Contains (values_of z) m) left
      still (inr taken) = absurd (none-there m (is-taken (λ z. Contains (values_of z) m) taken))

  -- ---- what it tells

  is-told : (e : EndId) (h : ℕ) (at : Stand) (m : MovingPicture) → IsSent change (IsForgetOf e h) → IsSought u s.ends e → IsSought u s.ends (opposite e) → HasFields u (opposite e) at m → h ≤ m.hint.1
  is-told e h at m new sought other has =
      let its : (v.value.end ≡ e) × (v.value.hops ≡ h) = is-sent (IsForgetOf e h) new in
      let own : to ≡ e = sym its-end ∙ its.0 in
      let told : g ≤ m.hint.1
      = (traced e).known at m g (sought-was e sought) (sought-was (opposite e) other) ((fields-other (opposite e) at m (apart own)).0 has)
      (inl (taken-was happened.becomes.links (IsKnownOf e g) (record { from = from; packet = q; taken = refl; is = (own, refl) }))) in
      let same : v.value.hops ≡ g = same-hops in
      let hops : v.value.hops ≡ h = its.1 in
      omega (arith, told, same, hops)
    where
      apart : to ≡ e → to ≡ opposite e → ⊥
      apart own other_end = true≢false (sym (end_eq-refl e) ∙ subst (λ z. end_eq e z ≡ false) (sym other_end ∙ own) (opposite-apart e))

  is-trailed : (e : EndId) (j b h : ℕ) → entry_at u j e ≡ entry.Left b h → ((at : Stand) (m : MovingPicture) → HasFields l e at m → h ≤ m.hops) → IsTrailed l s.ends e j → IsTrailed u s.ends e j ⊎ IsToForget u e j h
  is-trailed e j b h left older r = by (end_eq to e) refl
    where
      was : entry_at l j e ≡ entry.Left b h
      was = was-so j e (entry.Left b h) left (λ differ. cc)

      -- it stands at a kernel that there is, and that is not k
      low : j < 8
      low = kernel-low (length s.made) l s.ends is.setting.few is.links.named is.links.marked is.stands.links.once j e (entry.Left b h) was (λ differ. cc)

      of_its : to ≡ e → IsTrailed u s.ends e j ⊎ IsToForget u e j h
      of_its own = inr (record { hops = v.value.hops; there = going-sent happened.becomes.links j (packet.Forget v.value.end v.value.hops) (IsForgetOf e v.value.hops) (forget-there k j v.value low set off) (its-end ∙ own, refl); covers = older (At k) v.value (ap value_of here) })
        where
          here : entry_at l k e ≡ entry.Here v
          here = was-here k e (refl, own)

          fields : r.fields ≡ v.value
          fields = (fields-here (length s.made) l s.ends is.setting.few is.links.named is.links.marked is.stands.links.once e k v r.at r.fields here r.are).1

          set : bit_at v.value.trail j ≡ 1
          set = subst (λ (z : MovingPicture). bit_at z.trail j ≡ 1) fields r.in_trail

          off : nat_eq j k ≡ false
          off = other (eqb_tells j k)
            where
              other : ((nat_eq j k ≡ true) × (j ≡ k)) ⊎ ((nat_eq j k ≡ false) × (j ≢ k)) → nat_eq j k ≡ false
              other (inr apart) = apart.0
              other (inl at) = absurd (let differ : entry.Here v ≡ entry.Left b h = sym here ∙ ap (λ z. entry_at l z e) (sym at.1) ∙ was in cc)

      by : (a : Bool) → end_eq to e ≡ a → IsTrailed u s.ends e j ⊎ IsToForget u e j h
      by true same = of_its (end_eq-same to e same)
      by false apart =
          inl (record { sought = sought-still e r.sought; at = r.at; fields = r.fields; are = (fields-other e r.at r.fields (λ same. true≢false (sym (end_eq-refl e) ∙ subst (λ z. end_eq z e ≡ false) same apart))).1 r.are; in_trail = r.in_trail })

  same-trail : (j : ℕ) (e : EndId) (x y : HereView) → entry_at l j e ≡ entry.Here x → entry_at u j e ≡ entry.Here y → (y.value.trail ≡ x.value.trail) ⊎ (y.value.trail ≡ 0)
  same-trail j e x y was now = by (entry-or j e)
    where
      by : (entry_at u j e ≡ entry_at l j e) ⊎ ((j ≡ k) × (to ≡ e)) → (y.value.trail ≡ x.value.trail) ⊎ (y.value.trail ≡ 0)
      by (inl same) = inl (ap (λ (z : HereView). z.value.trail) (view-same y x (sym now ∙ same ∙ was)))
      by (inr its) = inr (ap (λ (z : HereView). z.value.trail) (view-same y cleared (sym now ∙ now-here j e its)))

  stays-there : (j : ℕ) (e : EndId) (y : Entry) → entry_at l j e ≡ y → (y ≡ entry.Here v → ⊥) → (y ≡ entry.Nothing → ⊥) → entry_at u j e ≡ entry.Nothing → ⊥
  stays-there j e y was unlike some none = some (sym (stays-so j e y was unlike) ∙ none)

  knows : IsCalm l u change s.ends
  knows =
      record {
        entries = is-calmly;
        bare = refl;
        sent_bare = each-forgets (λ n what. values_of what ≡ []) (λ j. refl);
        sent = each-forgets (λ n what. IsPassedOn change what ⊎ IsTrueAsk l what ⊎ IsClosing what) (λ j. inr (inr tt));
        told = is-told;
        tells_seen = λ e new. absurd (is-sent (IsGoneSeen e) new);
        trail = λ j e x y was now. same-trail j e x y was now;
        trailed = is-trailed;
        cleared = λ e j b h at m was none sought other has. absurd (stays-there j e (entry.Left b h) was (λ differ. cc) (λ differ. cc) none);
        erased = λ e j m was none. absurd (stays-there j e (entry.Destroyed m) was (λ differ. cc) (λ differ. cc) none);
        known = λ e x y was now free taken.
            ap (λ (z : HereView). z.value.trail) (view-same y cleared (sym now ∙ now-here k e (refl, (is-taken (IsKnownOf e x.value.hops) taken).0)));
        forget = λ e b h n left taken covers. is-taken (IsForgetOf e n) taken;
        seen = λ e m at taken. is-taken (IsGoneSeen e) taken;
        moved = λ e j x here taken chain. absurd (is-taken (IsMovedTo (opposite e) j x.value.hops) taken);
        gone = λ e d m at taken chain. absurd (is-taken (IsGoneFrom (opposite e) d) taken);
      }

  pub known-traced : AreTraced u s.ends
  known-traced =
      calm-traced happened.becomes.links s.ends s.ends knows (record { living = λ e. refl; noticed = λ e. refl; destroyed = λ e dead. dead }) (λ j e m at. (is.links.marked e).destroyed j m at)
      (λ j e x at. here-living (length s.made) l s.ends is.setting.few is.links.named is.links.marked is.stands.links.once e j x at) is.service.noticed.opposite traced
