-- An end that is here comes to know of the death of its link, which keeps all that is true of the traces of ends: the end is sought no more, each
-- kernel of its trail is told to forget it, and the mark of its opposite is told that the death was seen.
use Rattle.std.proofs.Common.{◌≡◌, ◌≢◌, ◌⊎◌, inl, inr, ℕ, ◌<◌, ◌≤◌, Bool, true, false, true≢false, nat_eq, if◌then◌else◌, List, [], ◌∷◌, ◌++◌, Contains, refl, sym, ap, subst, ◌∙◌, arith}
use Rattle.std.proofs.lemmas.Bool.Decides.{eqb_tells}
use Rattle.std.proofs.lemmas.List.Elements.{Contains-append_left, Contains-append_right}
use Rattle.std.specs.Int.{bit_at}
use Rattle.charlotte_calls.specs.Names.{opposite}
use Rattle.charlotte_calls.specs.declared.names.EndId.{EndId}
use Rattle.charlotte_packets.specs.declared.picture.MovingPicture.{MovingPicture}
use Rattle.charlotte_packets.specs.declared.picture.PictureWhat.{PictureWhat}
use Rattle.charlotte_packets.specs.declared.picture.PictureWhat.TheVariants as packet
use Rattle.end_table.proofs.EndEq.{end_eq-refl, end_eq-same}
use Rattle.end_table.specs.Place.{end_eq}
use Rattle.end_table.specs.declared.entry.Entry.{Entry}
use Rattle.end_table.specs.declared.entry.Entry.TheVariants as entry
use Rattle.end_table.specs.declared.entry.HereView.{HereView}
use Rattle.kernel_effects.proofs.Uses.{all-append, forget-each}
use Rattle.kernel_effects.specs.Actions.{forget_packets, noticed_view}
use Rattle.kernel_sound.specs.Sound.{addressee}
use Rattle.service_lawful.specs.Consistent.{is_open}
use Rattle.service_step.specs.Ends.{is_living}
use Rattle.service_step.specs.declared.state.End.{End}
use Rattle.service_step.specs.declared.state.Place.TheVariants as place
use Rattle.theorem_effects.proofs.Aside.{entry-same, fields-same, sent-each}
use Rattle.theorem_effects.proofs.Lists.{first, none-there}
use Rattle.theorem_effects.proofs.Packets.{left-was, under_way-after}
use Rattle.theorem_effects.specs.Aside.{IsAside, IsKept}
use Rattle.theorem_effects.specs.Change.{Change, Changes}
use Rattle.theorem_effects.specs.Sums.{AllSent}
use Rattle.theorem_effects.specs.Under.{IsLeft, IsSent, IsTaken}
use Rattle.theorem_meaning.proofs.Ends.{apart-false, opposite-apart, opposite-twice}
use Rattle.theorem_meaning.specs.Fields.{At, Flying, HasFields, Stand, value_of}
use Rattle.theorem_meaning.specs.Packets.{IsUnderWay, Links, values_of}
use Rattle.theorem_meaning.specs.StandsFor.{entry_at}
use Rattle.trace_calm.proofs.Alike.{some-same}
use Rattle.trace_calm.proofs.Known.{forget-there}
use Rattle.trace_calm.proofs.Aside.{aside-traced}
use Rattle.trace_calm.proofs.Clauses.{left-on, mark-on, seen-on, under_way-or}
use Rattle.trace_calm.proofs.One.{bare-unbrought, put-has, put-or, put-was}
use Rattle.trace_calm.proofs.Open.{destroyed-closed, noticed-closed}
use Rattle.trace_calm.proofs.Tracks.{going-sent}
use Rattle.trace_calm.specs.Had.{HasSome}
use Rattle.trace_link.specs.Closing.{IsNoticing}
use Rattle.trace_meaning.specs.Traces.{AreTraced, IsLeftRight, IsMarkRight, IsMourned, IsToForget, IsTraceRight, IsTraced, IsTrailed}
use Rattle.trace_meaning.specs.Words.{IsForgetOf, IsGoingTo, IsGoneFrom, IsGoneSeen, IsSought}

module _ {m u : Links} {c : Change} (b : Changes m c u) (t now : EndId → End) (to : EndId) (at : ℕ) (v : HereView) (x : IsNoticing m c t now to at v) (traced : AreTraced m t) where
  abbrev k : ℕ
  k = c.kernel

  abbrev y : EndId
  y = opposite to

  abbrev own : Entry
  own = entry.Here x.view

  own-or : (j : ℕ) (e : EndId) → (entry_at u j e ≡ entry_at m j e) ⊎ ((j ≡ k) × (to ≡ e))
  own-or = put-or b to (entry.Here v) own x.stood x.becomes

  own-was : (j : ℕ) (e : EndId) (z : Entry) → entry_at u j e ≡ z → (z ≡ entry.Here x.view → ⊥) → entry_at m j e ≡ z
  own-was j e z now_is unlike = put-was b to (entry.Here v) own x.stood x.becomes j e z now_is unlike

  -- ---- the packets that are sent

  are-sent : (P : ℕ → PictureWhat → Type 0) → ((n : ℕ) → P n (packet.Forget v.value.end v.value.hops)) → ((n : ℕ) → P n (packet.GoneSeen (opposite v.value.end))) → AllSent P c.packets
  are-sent P forgets seen =
      subst (AllSent P) (sym x.packets)
      (all-append (λ (z : ℕ × PictureWhat). P z.0 z.1) (forget_packets k v.value) ((at, packet.GoneSeen (opposite v.value.end)) ∷ [])
      (forget-each (λ (z : ℕ × PictureWhat). P z.0 z.1) k v.value (λ j set apart. forgets j)) (seen at, tt))

  -- none of a kind, where it is neither
  unsent : (P : PictureWhat → Type 0) → (P (packet.Forget v.value.end v.value.hops) → ⊥) → (P (packet.GoneSeen (opposite v.value.end)) → ⊥) → IsSent c P → ⊥
  unsent P forget seen z = sent-each (λ n what. P what → ⊥) c.packets z.to z.what (are-sent (λ n what. P what → ⊥) (λ n. forget) (λ n. seen)) z.there z.is

  bare_sent : AllSent (λ n what. values_of what ≡ []) c.packets
  bare_sent = are-sent (λ n what. values_of what ≡ []) (λ n. refl) (λ n. refl)

  -- the mark is told that the death was seen
  seen-goes : IsGoingTo u at (IsGoneSeen y)
  seen-goes =
      going-sent b at (packet.GoneSeen (opposite v.value.end)) (IsGoneSeen y)
      (subst (λ ps. Contains ps (at, packet.GoneSeen (opposite v.value.end))) (sym x.packets)
      (Contains-append_right (forget_packets k v.value) ((at, packet.GoneSeen (opposite v.value.end)) ∷ []) (at, packet.GoneSeen (opposite v.value.end)) (first {X = ℕ × PictureWhat} (at, packet.GoneSeen (opposite v.value.end)) []))) (ap opposite x.its_end)

  -- ---- the end is sought no more, and its opposite is destroyed

  closed : is_open (now to) ≡ true → ⊥
  closed = noticed-closed (now to) x.knows

  unsought : IsSought u now to → ⊥
  unsought (inl open_is) = closed open_is
  unsought (inr z) = true≢false (sym x.lives ∙ ap is_living (x.marked to z.at z.mark (own-was z.at to (entry.Destroyed z.mark) z.there (λ differ. cc))))

  unsought-back : IsSought u now (opposite y) → ⊥
  unsought-back sought = unsought (subst (IsSought u now) (opposite-twice to) sought)

  y-same : now y ≡ t y
  y-same = x.same y (λ same. true≢false (sym (end_eq-refl to) ∙ subst (λ z. end_eq to z ≡ false) (sym same) (opposite-apart to)))

  dead : (now y).place ≡ place.Destroyed
  dead = ap (λ (z : End). z.place) y-same ∙ x.dead

  -- ---- what is true of the end

  -- its hops stay
  hops-were : (at : Stand) (o : MovingPicture) → HasFields u to at o → HasSome m to (λ z. z.hops ≤ o.hops)
  hops-were (At j) o has = by (own-or j to)
    where
      by : (entry_at u j to ≡ entry_at m j to) ⊎ ((j ≡ k) × (to ≡ to)) → HasSome m to (λ z. z.hops ≤ o.hops)
      by (inl same) = record { at = At j; fields = o; are = ap value_of (sym same) ∙ has; is = omega arith }
      by (inr its) =
          let value : x.view.value ≡ o = some-same x.view.value o (ap value_of (sym (put-has b to (entry.Here v) own x.stood x.becomes j to its)) ∙ has) in
          let hops : o.hops ≡ v.value.hops = ap (λ (z : MovingPicture). z.hops) (sym value ∙ x.like) in
          record { at = At k; fields = v.value; are = ap value_of x.stood; is = omega (arith, hops) }
  hops-were Flying o has = by (under_way-after b (λ z. Contains (values_of z) o) has.0)
    where
      by : IsLeft b (λ z. Contains (values_of z) o) ⊎ IsSent c (λ z. Contains (values_of z) o) → HasSome m to (λ z. z.hops ≤ o.hops)
      by (inl left) = record { at = Flying; fields = o; are = (left-was b (λ z. Contains (values_of z) o) left, has.1); is = omega arith }
      by (inr sent) = absurd (unsent (λ z. Contains (values_of z) o) (none-there o) (none-there o) sent)

  -- a kernel of its trail is told to forget it
  own-left : (j a h : ℕ) → entry_at u j to ≡ entry.Left a h → IsLeftRight m t to j h → IsLeftRight u now to j h
  own-left j a h left right = left-on b t now to j h hops-were (λ r. inr (forgets r)) (λ g taken near covers. x.unforgets to g taken) right
    where
      was : entry_at m j to ≡ entry.Left a h
      was = own-was j to (entry.Left a h) left (λ differ. cc)

      off : nat_eq j k ≡ false
      off = other (eqb_tells j k)
        where
          other : ((nat_eq j k ≡ true) × (j ≡ k)) ⊎ ((nat_eq j k ≡ false) × (j ≢ k)) → nat_eq j k ≡ false
          other (inr apart) = apart.0
          other (inl near) = absurd (let differ : entry.Here v ≡ entry.Left a h = sym x.stood ∙ ap (λ z. entry_at m z to) (sym near.1) ∙ was in cc)

      low : j < 8
      low = x.low j a h was

      forgets : IsTrailed m t to j → IsToForget u to j h
      forgets r =
          record {
            hops = v.value.hops;
            there =
                going-sent b j (packet.Forget v.value.end v.value.hops) (IsForgetOf to v.value.hops)
                (subst (λ ps. Contains ps (j, packet.Forget v.value.end v.value.hops)) (sym x.packets)
                (Contains-append_left (forget_packets k v.value) ((at, packet.GoneSeen (opposite v.value.end)) ∷ []) (j, packet.Forget v.value.end v.value.hops) (forget-there k j v.value low set off))) (x.its_end, refl);
            covers = right.old (At k) v.value (ap value_of x.stood);
          }
        where
          set : bit_at v.value.trail j ≡ 1
          set = subst (λ (z : MovingPicture). bit_at z.trail j ≡ 1) (x.alone r.at r.fields r.are) r.in_trail

  own-right : (j : ℕ) → IsTraceRight u now to j (entry_at u j to)
  own-right j = by (entry_at u j to) refl
    where
      by : (z : Entry) → entry_at u j to ≡ z → IsTraceRight u now to j z
      by entry.Nothing is_now = tt
      by (entry.Here o) is_now = λ unnoticed some living. absurd (true≢false (sym x.knows ∙ unnoticed))
      by (entry.Left a h) is_now = own-left j a h is_now (subst (IsTraceRight m t to j) (own-was j to (entry.Left a h) is_now (λ differ. cc)) ((traced to).entries j))
      by (entry.Destroyed o) is_now = absurd (unsought (inr (record { at = j; mark = o; there = is_now })))

  -- ---- what is true of its opposite, which may have left a mark

  y-kept : IsKept m c y
  y-kept = x.becomes y ∙ ap (λ a. if a then own else entry_at m k y) (opposite-apart to)

  y-sought : IsSought u now y → IsSought m t y
  y-sought (inl open_is) = absurd (destroyed-closed (now y) dead open_is)
  y-sought (inr z) = inr (record { at = z.at; mark = z.mark; there = sym (entry-same b y y-kept z.at) ∙ z.there })

  own-traced : IsTraced u now to
  own-traced =
      record {
        met = λ open_is. absurd (closed open_is);
        reached = λ at o j h sought other has heard le. absurd (unsought sought);
        seen = seen-on b t now to (λ gone. absurd (own-lives gone)) y-sought (λ under. by (under_way-or b (IsGoneSeen to) under)) (traced to).seen;
        known = λ at o h sought other has told. absurd (unsought sought);
        entries = own-right;
      }
    where
      own-lives : (t to).place ≡ place.Destroyed → ⊥
      own-lives gone = true≢false (sym x.lives ∙ ap is_living gone)

      by : IsUnderWay m (IsGoneSeen to) ⊎ IsSent c (IsGoneSeen to) → IsUnderWay m (IsGoneSeen to) ⊎ (((now to).place ≡ place.Destroyed) × (IsSought u now y → ⊥))
      by (inl was) = inl was
      by (inr sent) = absurd (unsent (IsGoneSeen to) (λ none. none) (λ its. true≢false (sym (end_eq-refl to) ∙ subst (λ z. end_eq to z ≡ false) (ap opposite (sym x.its_end) ∙ its) (opposite-apart to))) sent)

  y-left : (j h : ℕ) → IsLeftRight m t y j h → IsLeftRight u now y j h
  y-left j h right =
      left-on b t now y j h (λ at o has. record { at = at; fields = o; are = (fields-y at o).0 has; is = omega arith }) (λ r. inl (still r)) (λ g taken near covers. x.unforgets y g taken) right
    where
      fields-y : (at : Stand) (o : MovingPicture) → (HasFields u y at o → HasFields m y at o) × (HasFields m y at o → HasFields u y at o)
      fields-y at o = fields-same b y y-kept (bare-unbrought c x.bare bare_sent y) at o

      sought : IsSought m t y → IsSought u now y
      sought (inl open_is) = absurd (destroyed-closed (t y) x.dead open_is)
      sought (inr z) = inr (record { at = z.at; mark = z.mark; there = entry-same b y y-kept z.at ∙ z.there })

      still : IsTrailed m t y j → IsTrailed u now y j
      still r = record { sought = sought r.sought; at = r.at; fields = r.fields; are = (fields-y r.at r.fields).1 r.are; in_trail = r.in_trail }

  -- the mark is mourned, since the goneseen goes there
  y-mark : (d : ℕ) (o : MovingPicture) → IsMarkRight m t y d o → IsMarkRight u now y d o
  y-mark d o right =
      mark-on b t now y d o (λ free. ap (λ (z : End). z.noticed) y-same ∙ free) (λ open_is. absurd (closed-back open_is)) (λ j sent. absurd (unsent (IsGoneFrom (opposite y) j) (λ none. none) (λ none. none) sent)) (λ open_is. absurd (closed-back open_is))
      (λ open_is. absurd (closed-back open_is)) (λ at z n j h open_is. absurd (closed-back open_is)) (λ sought. inr mourned) (λ taken near. inl told) (λ taken chain sought. absurd (unsought-back sought)) right
    where
      closed-back : is_open (now (opposite y)) ≡ true → ⊥
      closed-back open_is = closed (subst (λ z. is_open (now z) ≡ true) (opposite-twice to) open_is)

      site : at ≡ d
      site = x.site d o right

      told : IsGoingTo u d (IsGoneSeen y)
      told = subst (λ z. IsGoingTo u z (IsGoneSeen y)) site seen-goes

      mourned : IsMourned u now y d o.hint.1
      mourned = inl told

  y-right : (j : ℕ) → IsTraceRight u now y j (entry_at u j y)
  y-right j = subst (IsTraceRight u now y j) (sym (entry-same b y y-kept j)) (by (entry_at m j y) refl ((traced y).entries j))
    where
      by : (z : Entry) → entry_at m j y ≡ z → IsTraceRight m t y j z → IsTraceRight u now y j z
      by entry.Nothing is_mid right = tt
      by (entry.Left a h) is_mid right = y-left j h right
      by (entry.Destroyed o) is_mid right = y-mark j o right
      by (entry.Here o) is_mid right = absurd (x.nowhere j o is_mid)

  y-traced : IsTraced u now y
  y-traced =
      record {
        met = λ open_is. absurd (destroyed-closed (now y) dead open_is);
        reached = λ at o j h sought other has heard le. absurd (unsought-back other);
        seen = record { destroyed = λ under. dead; unsought = λ under sought. unsought-back sought };
        known = λ at o h sought other has told. absurd (unsought-back other);
        entries = y-right;
      }

  -- ---- all links

  far-aside : (e : EndId) → end_eq to e ≡ false → end_eq e to ≡ false → end_eq e y ≡ false → IsAside m c e
  far-aside e kept off other =
      record {
        kept = x.becomes e ∙ ap (λ a. if a then own else entry_at m k e) kept;
        addressed = record { taken = x.unaddressed e off; sent = are-sent (λ n what. end_eq e (addressee what) ≡ false) (λ n. ap (end_eq e) x.its_end ∙ off) (λ n. ap (λ z. end_eq e (opposite z)) x.its_end ∙ other) };
        brought = bare-unbrought c x.bare bare_sent e;
      }

  far-traced : (e : EndId) → (to ≡ e → ⊥) → (y ≡ e → ⊥) → IsTraced u now e
  far-traced e off other =
      aside-traced b e (far-aside e (apart-false to e off) (apart-false e to (λ same. off (sym same))) (apart-false e y (λ same. other (sym same))))
      (far-aside (opposite e) (apart-false to (opposite e) back) (apart-false (opposite e) to (λ same. back (sym same))) (apart-false (opposite e) y (λ same. off (sym (sym (opposite-twice e) ∙ ap opposite same ∙ opposite-twice to)))))
      t now (x.same e off) (x.same (opposite e) back) (traced e)
    where
      back : to ≡ opposite e → ⊥
      back same = other (ap opposite same ∙ opposite-twice e)

  pub noticing-traced : AreTraced u now
  noticing-traced e = by (end_eq to e) refl (end_eq y e) refl
    where
      apart : (z : EndId) → end_eq z e ≡ false → z ≡ e → ⊥
      apart z off same = true≢false (sym (end_eq-refl e) ∙ subst (λ o. end_eq o e ≡ false) same off)

      by : (a : Bool) → end_eq to e ≡ a → (d : Bool) → end_eq y e ≡ d → IsTraced u now e
      by true same d other = subst (IsTraced u now) (end_eq-same to e same) own-traced
      by false off true same = subst (IsTraced u now) (end_eq-same y e same) y-traced
      by false off false other = far-traced e (apart to off) (apart y other)
