-- A back that meets its send, where the death was not known yet, keeps all that is true of the traces of ends: first the death is noticed, and then the
-- ends that came are here.
use Rattle.std.proofs.Common.{◌≡◌, ◌≢◌, ◌⊎◌, inl, inr, ℕ, ◌<◌, Bool, true, false, true≢false, if◌then◌else◌, List, [], ◌∷◌, ◌++◌, length, Contains, Some, None, append_assoc, refl, sym, ap, subst, ◌∙◌}
use Rattle.std.proofs.lemmas.List.Elements.{All-contains}
use Rattle.std.specs.List.{flat_map, list_any}
use Rattle.charlotte_calls.specs.Names.{opposite}
use Rattle.charlotte_calls.specs.declared.calls.Answer.{Answer}
use Rattle.charlotte_calls.specs.declared.calls.Report.{Report}
use Rattle.charlotte_calls.specs.declared.names.EndId.{EndId}
use Rattle.charlotte_calls.specs.declared.names.Pid.{Pid}
use Rattle.charlotte_packets.specs.declared.picture.MovingPicture.{MovingPicture}
use Rattle.charlotte_packets.specs.declared.picture.Picture.{Picture}
use Rattle.charlotte_packets.specs.declared.picture.PictureWhat.{PictureWhat}
use Rattle.charlotte_packets.specs.declared.picture.PictureWhat.TheVariants as packet
use Rattle.end_table.proofs.EndEq.{end_eq-refl, end_eq-same}
use Rattle.end_table.specs.Entries.{settled}
use Rattle.end_table.specs.Place.{end_eq}
use Rattle.end_table.specs.Table.{IsHereAnd, IsOfEnd}
use Rattle.end_table.specs.declared.entry.Entry.{Entry}
use Rattle.end_table.specs.declared.entry.Entry.TheVariants as entry
use Rattle.end_table.specs.declared.entry.HereView.{HereView}
use Rattle.kernel_effects.proofs.Uses.{all-append, forget-each}
use Rattle.kernel_effects.specs.Actions.{arrival_packets, forget_packets, noticed_view}
use Rattle.kernel_effects.specs.Effect.{brings, puts, stays}
use Rattle.kernel_effects.specs.Rows.{returned_view, returns_first_effect}
use Rattle.kernel_outcomes.specs.Closing.{told, told_entry}
use Rattle.kernel_step.proofs.Folds.{AreDifferent}
use Rattle.kernel_step.specs.Kernel.{process_of}
use Rattle.kernel_step.specs.Rows.{ends_in}
use Rattle.kernel_world.specs.World.{Takes, World, happens}
use Rattle.service_change.proofs.Change.{living-made}
use Rattle.service_lawful.specs.Consistent.{is_open}
use Rattle.service_step.specs.Ends.{is_living}
use Rattle.service_step.specs.State.{State}
use Rattle.service_step.specs.declared.state.End.{End}
use Rattle.service_step.specs.declared.state.Place.TheVariants as place
use Rattle.theorem_effects.proofs.Aside.{fields-same, sent-each}
use Rattle.theorem_effects.proofs.Lists.{none-there}
use Rattle.theorem_effects.specs.Change.{Change, Changes, Happens}
use Rattle.theorem_effects.specs.Events.{taking}
use Rattle.theorem_effects.specs.Sums.{AllSent}
use Rattle.theorem_effects.specs.Under.{IsSent}
use Rattle.theorem_ends_arrived.proofs.Among.{among-told, brings-case}
use Rattle.theorem_ends_arrived.proofs.Comes.{values-differ}
use Rattle.theorem_ends_arrived.proofs.Coming.{not-here}
use Rattle.theorem_ends_arrived.proofs.Values.{same-value}
use Rattle.theorem_ends_arrived.specs.Arrived.{IsAmong, IsLaden}
use Rattle.theorem_meaning.proofs.Ends.{apart-false, opposite-twice}
use Rattle.theorem_meaning.proofs.Plain.{destroyed-so}
use Rattle.theorem_meaning.specs.Fields.{At, Flying, HasFields, IsHeard, IsNews, IsNoMore, Stand, value_of}
use Rattle.theorem_meaning.specs.Invariant.{Invariant, IsBackRight, IsHonest}
use Rattle.theorem_meaning.specs.Packets.{IsUnderWay, Links, links_of, values_of}
use Rattle.theorem_meaning.specs.StandsFor.{entry_at}
use Rattle.theorem_ends_arrived.proofs.Meets.{right-first, stands-first}
use Rattle.theorem_take_want.proofs.Alike.{some-same}
use Rattle.theorem_take_want.proofs.Places.{fields-here, here-living}
use Rattle.theorem_take_want.proofs.Parts.{between, first-part, last-part, taking_last, untaken}
use Rattle.trace_link.proofs.Marked.{kernel-low}
use Rattle.trace_link.specs.Calm.{AreAsOpen}
use Rattle.trace_moving.proofs.Clauses.{under_way-or}
use Rattle.trace_moving.proofs.One.{bare-unbrought, put-has, put-kept, put-or}
use Rattle.trace_moving.proofs.Open.{open-so, opposite-free}
use Rattle.trace_landing.proofs.Carried.{are-carried}
use Rattle.trace_landing.proofs.Landing.{landing-moving}
use Rattle.trace_landing.proofs.Said.{arrival-there, arrivals-said}
use Rattle.trace_landing.proofs.Told.{told-here, told-still}
use Rattle.trace_landing.specs.Landing.{AreCarried, IsLanding, IsSaid}
use Rattle.trace_link.proofs.Own.{noticing-traced}
use Rattle.trace_link.specs.Closing.{IsNoticing, aware}
use Rattle.trace_meaning.specs.Traces.{AreTraced, IsMarkRight}
use Rattle.trace_meaning.specs.Words.{IsBackTo}
use Rattle.trace_moving.proofs.Moving.{moving-traced}
use Rattle.trace_moving.proofs.Still.{still-same}
use Rattle.trace_moving.specs.Moving.{IsStill}

none-some : (a : ℕ × Picture) → None ≡ Some a → ⊥
none-some a same = cc

module _ (i : ℕ) (w : World) (s : State) (is : Invariant i w s) (k from stamp : ℕ) (to : EndId) (n : ℕ) (others : List Picture) (ms : List MovingPicture) (v : HereView) (stood : (w.kernel k).table to ≡ entry.Here v) (alive : v.value.dead ≡ false)
    (there : w.packets from k ≡ record { stamp = stamp; what = packet.Back to n ms } ∷ others) (p : Pid) (given : List Answer) (rs : List Report)
    (happened : Happens w (Takes k from) (taking w k from (record { stamp = stamp; what = packet.Back to n ms }) (returns_first_effect k from to n ms v) p given rs)) (now : EndId → End) (as_open : AreAsOpen (aware to s.ends) now) (traced : AreTraced (links_of w) s.ends) where
  abbrev l : Links
  l = links_of w

  abbrev q : Picture
  q = record { stamp = stamp; what = packet.Back to n ms }

  abbrev table : EndId → Entry
  table = (w.kernel k).table

  abbrev c : Change
  c = taking w k from q (returns_first_effect k from to n ms v) p given rs

  abbrev u : Links
  u = links_of (happens w (Takes k from))

  abbrev b : Changes l c u
  b = happened.becomes.links

  abbrev reports : List Report
  reports = told (process_of p (w.kernel k)).phase given rs

  abbrev word : MovingPicture → Entry
  word m = entry.Here (settled v.holder m)

  abbrev x : HereView
  x = noticed_view (returned_view v)

  abbrev t : EndId → End
  t = aware to s.ends

  own : v.value.end ≡ to
  own = subst (IsOfEnd to) stood ((is.setting.sound k).own to)

  here : table v.value.end ≡ entry.Here v
  here = ap table own ∙ stood

  ready : IsLaden i b from q s to
  ready = record { taken = refl; right = is.links; links = is.stands.links; kept = is.service; few = is.setting.few; carries = end_eq-refl to }

  different : AreDifferent (ends_in ms)
  different = values-differ is k from q others there to (end_eq-refl to) p

  -- an end that came is not the one that sent the message
  came-apart : (e : EndId) → IsAmong ms e → end_eq v.value.end e ≡ false
  came-apart e a = by (end_eq v.value.end e) refl
    where
      by : (d : Bool) → end_eq v.value.end e ≡ d → d ≡ false
      by false is_so = refl
      by true same = absurd (not-here ready p e a k v (ap table (sym (end_eq-same v.value.end e same)) ∙ here))

  -- ---- in two parts

  abbrev f : EndId → Entry → Entry
  f = puts v.value.end (entry.Here x) stays

  abbrev g : EndId → Entry → Entry
  g = λ e y. told_entry reports e (brings ms word stays e y)

  abbrev ps : List (ℕ × PictureWhat)
  ps = forget_packets k v.value ++ (from, packet.GoneSeen (opposite v.value.end)) ∷ []

  abbrev qs : List (ℕ × PictureWhat)
  qs = flat_map (arrival_packets k) ms

  entries : (e : EndId) → c.entry e (table e) ≡ g e (f e (table e))
  entries e = by (end_eq v.value.end e) refl
    where
      stays-here : end_eq v.value.end e ≡ true → entry.Here x ≡ brings ms word stays e (entry.Here x)
      stays-here same = at_end (brings-case ms word e (entry.Here x))
        where
          at_end : ((list_any (end_eq e) (ends_in ms) ≡ false) × (brings ms word stays e (entry.Here x) ≡ entry.Here x)) ⊎ ((a : IsAmong ms e) × (brings ms word stays e (entry.Here x) ≡ word a.value)) → entry.Here x ≡ brings ms word stays e (entry.Here x)
          at_end (inl none) = sym none.1
          at_end (inr came) = absurd (true≢false (sym same ∙ came-apart e came.0))

      by : (d : Bool) → end_eq v.value.end e ≡ d → told_entry reports e (if d then entry.Here x else brings ms word stays e (table e)) ≡ told_entry reports e (brings ms word stays e (if d then entry.Here x else table e))
      by true same = ap (told_entry reports e) (stays-here same)
      by false apart = refl

  packets : c.packets ≡ ps ++ qs
  packets = sym (append_assoc (forget_packets k v.value) ((from, packet.GoneSeen (opposite v.value.end)) ∷ []) qs)

  abbrev half : Links
  half = between b f g ps qs entries packets

  abbrev c1 : Change
  c1 = untaken b f g ps qs entries packets

  abbrev b1 : Changes l c1 half
  b1 = first-part b f g ps qs entries packets

  abbrev c2 : Change
  c2 = taking_last b f g ps qs entries packets

  abbrev b2 : Changes half c2 u
  b2 = last-part b f g ps qs entries packets

  -- ---- the death is noticed

  lives : is_living (s.ends to).place ≡ true
  lives = here-living (length s.made) l s.ends is.setting.few is.links.named is.links.marked is.stands.links.once to k v stood

  opens : is_open (s.ends to) ≡ true
  opens = open-so (s.ends to) lives (sym ((is.links.counted to).dead (At k) v.value lives (ap value_of stood)) ∙ alive)

  right : IsBackRight l s.ends k to n (ends_in ms)
  right = right-first is k from q others there

  dead : (s.ends (opposite to)).place ≡ place.Destroyed
  dead = by (is_living (s.ends (opposite to)).place) refl
    where
      by : (d : Bool) → is_living (s.ends (opposite to)).place ≡ d → (s.ends (opposite to)).place ≡ place.Destroyed
      by false gone = destroyed-so (s.ends (opposite to)).place (is.service.kept.made (opposite to) ∙ sym (is.service.kept.made to) ∙ living-made (s.ends to).place lives) gone
      by true living = absurd (true≢false (sym (open-so (s.ends (opposite to)) living (opposite-free s.ends is.service.noticed.opposite to lives)) ∙ right.untaken))

  notes : IsNoticing l c1 s.ends t to from v
  notes =
      record {
        its_end = own;
        stood = stood;
        view = x;
        like = refl;
        becomes = λ e. ap (λ z. if end_eq z e then entry.Here x else table e) own;
        packets = refl;
        unforgets = λ e h z. none-some (z.from, z.packet) z.taken;
        bare = tt;
        unaddressed = λ e off. tt;
        lives = lives;
        dead = dead;
        alone = λ st o has. (fields-here (length s.made) l s.ends is.setting.few is.links.named is.links.marked is.stands.links.once to k v st o stood has).1;
        marked = λ e j o mark. (is.links.marked e).destroyed j o mark;
        nowhere = λ j o at_j. true≢false (sym (here-living (length s.made) l s.ends is.setting.few is.links.named is.links.marked is.stands.links.once (opposite to) j o at_j) ∙ ap is_living dead);
        low = λ j a h left. kernel-low (length s.made) l s.ends is.setting.few is.links.named is.links.marked is.stands.links.once j to (entry.Left a h) left (λ differ. cc);
        site = λ d o is_right.
            All-contains (λ z. IsBackTo (opposite (opposite to)) z.what → from ≡ d) (w.packets from k) q (is_right.backs (subst (λ z. is_open (s.ends z) ≡ true) (sym (opposite-twice to)) opens) from k) (stands-first is k from q others there)
            (sym (opposite-twice to));
        knows = ap (λ a. (if a then record (s.ends to) { noticed = true } else s.ends to).noticed) (end_eq-refl to);
        same = λ e apart. ap (λ a. if a then record (s.ends e) { noticed = true } else s.ends e) (apart-false to e apart);
      }

  noticed : AreTraced half t
  noticed = noticing-traced b1 s.ends t to from v notes traced

  -- ---- what is between

  half-or : (j : ℕ) (e : EndId) → (entry_at half j e ≡ entry_at l j e) ⊎ ((j ≡ k) × (v.value.end ≡ e))
  half-or = put-or b1 v.value.end (entry.Here v) (entry.Here x) here (λ e. refl)

  half-has : (j : ℕ) (e : EndId) → (j ≡ k) × (v.value.end ≡ e) → entry_at half j e ≡ entry.Here x
  half-has = put-has b1 v.value.end (entry.Here v) (entry.Here x) here (λ e. refl)

  place-same : (e : EndId) → (t e).place ≡ (s.ends e).place
  place-same e = by (end_eq to e)
    where
      by : (a : Bool) → (if a then record (s.ends e) { noticed = true } else s.ends e).place ≡ (s.ends e).place
      by true = refl
      by false = refl

  quiet-sent : (P : ℕ → PictureWhat → Type 0) → ((j : ℕ) → P j (packet.Forget v.value.end v.value.hops)) → ((j : ℕ) → P j (packet.GoneSeen (opposite v.value.end))) → AllSent P ps
  quiet-sent P forgets seen =
      all-append (λ (z : ℕ × PictureWhat). P z.0 z.1) (forget_packets k v.value) ((from, packet.GoneSeen (opposite v.value.end)) ∷ [])
      (forget-each (λ (z : ℕ × PictureWhat). P z.0 z.1) k v.value (λ j set apart. forgets j)) (seen from, tt)

  bare : AllSent (λ j what. values_of what ≡ []) c1.packets
  bare = quiet-sent (λ j what. values_of what ≡ []) (λ j. refl) (λ j. refl)

  no-news : (e : EndId) (j h : ℕ) → IsSent c1 (IsNews e j h) → ⊥
  no-news e j h z = sent-each (λ a what. IsNews e j h what → ⊥) c1.packets z.to z.what (quiet-sent (λ a what. IsNews e j h what → ⊥) (λ a none. none) (λ a none. none)) z.there z.is

  -- fields of another end were so
  fields-other : (e : EndId) → end_eq v.value.end e ≡ false → (st : Stand) (m : MovingPicture) → HasFields half e st m → HasFields l e st m
  fields-other e apart st m has = (fields-same b1 e (put-kept b1 v.value.end (entry.Here v) (entry.Here x) here (λ z. refl) e apart) (bare-unbrought c1 tt bare e) st m).0 has

  -- and so were hops and hint of each
  record HasLike (e : EndId) (st : Stand) (m : MovingPicture) : Type 0 where
    fields : MovingPicture
    are : HasFields l e st fields
    hops : m.hops ≡ fields.hops
    hint : m.hint ≡ fields.hint

  fields-half : (e : EndId) (st : Stand) (m : MovingPicture) → HasFields half e st m → HasLike e st m
  fields-half e st m has = by (end_eq v.value.end e) refl
    where
      own_fields : v.value.end ≡ e → (st : Stand) → HasFields half e st m → HasLike e st m
      own_fields same Flying flew =
          absurd (let differ : Flying ≡ At k = (fields-here (length s.made) l s.ends is.setting.few is.links.named is.links.marked is.stands.links.once e k v Flying m (ap table (sym same) ∙ here) (of_sent (under_way-or b1 (λ z. Contains (values_of z) m) flew.0), flew.1)).0 in cc)
        where
          of_sent : IsUnderWay l (λ z. Contains (values_of z) m) ⊎ IsSent c1 (λ z. Contains (values_of z) m) → IsUnderWay l (λ z. Contains (values_of z) m)
          of_sent (inl was) = was
          of_sent (inr z) =
              absurd (sent-each (λ j what. Contains (values_of what) m → ⊥) c1.packets z.to z.what (quiet-sent (λ j what. Contains (values_of what) m → ⊥) (λ j. none-in m) (λ j. none-in m)) z.there z.is)
            where
              none-in : (m : MovingPicture) → Contains [] m → ⊥
              none-in m is_in = none-there m is_in
      own_fields same (At j) had = at_j (half-or j e)
        where
          at_j : (entry_at half j e ≡ entry_at l j e) ⊎ ((j ≡ k) × (v.value.end ≡ e)) → HasLike e (At j) m
          at_j (inl stays) = record { fields = m; are = ap value_of (sym stays) ∙ had; hops = refl; hint = refl }
          at_j (inr its) =
              let m_is : x.value ≡ m = some-same x.value m (sym (ap value_of (half-has j e its)) ∙ had) in
              record {
                fields = v.value;
                are = ap value_of (ap (λ z. entry_at l z e) its.0 ∙ ap table (sym its.1) ∙ here);
                hops = ap (λ (z : MovingPicture). z.hops) (sym m_is);
                hint = ap (λ (z : MovingPicture). z.hint) (sym m_is);
              }

      by : (d : Bool) → end_eq v.value.end e ≡ d → HasLike e st m
      by true same = own_fields (end_eq-same v.value.end e same) st has
      by false apart = record { fields = m; are = fields-other e apart st m has; hops = refl; hint = refl }

  honest : (e : EndId) → IsHonest half e
  honest e st m j h has heard = subst (λ z. IsNoMore st z j h) (sym o.hops) (is.links.honest e st o.fields j h o.are (was heard))
    where
      o : HasLike e st m
      o = fields-half e st m has

      of_news : IsUnderWay l (IsNews (opposite e) j h) ⊎ IsSent c1 (IsNews (opposite e) j h) → IsHeard l e j h
      of_news (inl old) = inr old
      of_news (inr sent) = absurd (no-news (opposite e) j h sent)

      was : IsHeard half e j h → IsHeard l e j h
      was (inl y) = let z = fields-half (opposite e) y.stand y.fields y.are in inl (record { stand = y.stand; fields = z.fields; are = z.are; hint = sym z.hint ∙ y.hint })
      was (inr news) = of_news (under_way-or b1 (IsNews (opposite e) j h) news)

  -- ---- and the ends that came are here

  carried : AreCarried half t ms
  carried =
      record {
        alone = λ e a st m has. (are-carried ready different).alone e a st m (fields-other e (came-apart e a) st m has);
        lives = λ e a. ap is_living (place-same e) ∙ (are-carried ready different).lives e a;
        knows = λ e a.
            (are-carried ready different).knows e a
            ∙ sym (ap (λ d. (if d then record (s.ends e) { noticed = true } else s.ends e).noticed) (ap (λ z. end_eq z e) (sym own) ∙ came-apart e a));
      }

  came : (e : EndId) → IsAmong ms e → (o : HereView) × (a : IsAmong ms e) × (entry_at u k e ≡ entry.Here o) × (o.value ≡ a.value)
  came e a0 = by (brings-case ms word e (entry_at half k e))
    where
      by : ((list_any (end_eq e) (ends_in ms) ≡ false) × (brings ms word stays e (entry_at half k e) ≡ entry_at half k e)) ⊎ ((a : IsAmong ms e) × (brings ms word stays e (entry_at half k e) ≡ word a.value))
          → (o : HereView) × (a : IsAmong ms e) × (entry_at u k e ≡ entry.Here o) × (o.value ≡ a.value)
      by (inl none) = absurd (true≢false (sym (among-told ms e a0) ∙ none.0))
      by (inr is_here) = let o = told-here reports e (settled v.holder is_here.0.value) in (o.0, is_here.0, b2.entry e ∙ ap (told_entry reports e) is_here.1 ∙ o.1, o.2)

  stays-so : (e : EndId) → (IsAmong ms e → ⊥) → IsStill c2 k e (entry_at half k e) (entry_at u k e)
  stays-so e none = by (brings-case ms word e (entry_at half k e))
    where
      by : ((list_any (end_eq e) (ends_in ms) ≡ false) × (brings ms word stays e (entry_at half k e) ≡ entry_at half k e)) ⊎ ((a : IsAmong ms e) × (brings ms word stays e (entry_at half k e) ≡ word a.value)) → IsStill c2 k e (entry_at half k e) (entry_at u k e)
      by (inr is_here) = absurd (none is_here.0)
      by (inl same) =
          subst (IsStill c2 k e (entry_at half k e)) (sym (b2.entry e ∙ ap (told_entry reports e) same.1)) (told-still c2 k reports e (entry_at half k e) (entry_at half k e) (still-same c2 k e (entry_at half k e)))

  came-here : (m : MovingPicture) → Contains ms m → IsHereAnd (entry_at u k m.end) (λ o. o.value.hops ≡ m.hops) × (is_living (t m.end).place ≡ true)
  came-here m has =
      let z = came m.end (record { value = m; there = has; of = refl }) in
      let same : z.1.value ≡ m = same-value ms z.1.value m different z.1.there has z.1.of in (
        subst (λ y. IsHereAnd y (λ o. o.value.hops ≡ m.hops)) (sym z.2) (ap (λ (y : MovingPicture). y.hops) (z.3 ∙ same)),
        carried.lives m.end z.1,
      )

  lands : IsLanding half u c2 t from q
  lands = record { taken = refl; message = tt; came = came; tells = arrival-there k ms; others = stays-so; said = arrivals-said u t k ms came-here }

  marked : (e : EndId) (j : ℕ) (m : MovingPicture) → entry_at half j e ≡ entry.Destroyed m → (t e).place ≡ place.Destroyed
  marked e j m mark = by (half-or j e)
    where
      by : (entry_at half j e ≡ entry_at l j e) ⊎ ((j ≡ k) × (v.value.end ≡ e)) → (t e).place ≡ place.Destroyed
      by (inl same) = place-same e ∙ (is.links.marked e).destroyed j m (sym same ∙ mark)
      by (inr its) = absurd (let differ : entry.Here x ≡ entry.Destroyed m = sym (half-has j e its) ∙ mark in cc)

  living : (j : ℕ) (e : EndId) (o : HereView) → entry_at half j e ≡ entry.Here o → is_living (t e).place ≡ true
  living j e o at_j = by (half-or j e)
    where
      by : (entry_at half j e ≡ entry_at l j e) ⊎ ((j ≡ k) × (v.value.end ≡ e)) → is_living (t e).place ≡ true
      by (inl same) = ap is_living (place-same e) ∙ here-living (length s.made) l s.ends is.setting.few is.links.named is.links.marked is.stands.links.once e j o (sym same ∙ at_j)
      by (inr its) = ap is_living (place-same e) ∙ subst (λ z. is_living (s.ends z).place ≡ true) (sym own ∙ its.1) lives

  deaths : (e : EndId) → (t e).noticed ≡ true → (t (opposite e)).place ≡ place.Destroyed
  deaths e knows = by (end_eq to e) refl
    where
      by : (a : Bool) → end_eq to e ≡ a → (t (opposite e)).place ≡ place.Destroyed
      by true same = place-same (opposite e) ∙ subst (λ z. (s.ends (opposite z)).place ≡ place.Destroyed) (end_eq-same to e same) dead
      by false apart = place-same (opposite e) ∙ is.service.noticed.opposite e (sym (ap (λ a. (if a then record (s.ends e) { noticed = true } else s.ends e).noticed) apart) ∙ knows)

  pub first-returned-traced : AreTraced (links_of (happens w (Takes k from))) now
  first-returned-traced = moving-traced b2 t now (landing-moving b2 t from q carried lands) as_open marked living deaths honest noticed
