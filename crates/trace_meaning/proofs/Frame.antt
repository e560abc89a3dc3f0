-- What is true of the traces of a link stays true while nothing of the link changes: neither its two ends, nor the packets that are about it,
-- which stand in each list in the same order. w and t are the links of kernels and the ends of the service before an event, v and u after it.
use Rattle.std.proofs.Common.{◌≡◌, ℕ, zero, suc, ◌<◌, Bool, true, false, true≢false, ◌⊎◌, inl, inr, cond, List, [], ◌∷◌, ◌++◌, Contains, get_or, refl, sym, ap, subst, ◌∙◌, arith}
use Rattle.std.proofs.lemmas.List.Elements.{Contains-append_cases, Contains-append_right, All-contains, Contains-get_or, filter-append}
use Rattle.std.specs.List.{filter}
use Rattle.charlotte_calls.specs.Names.{opposite}
use Rattle.charlotte_calls.specs.declared.names.EndId.{EndId}
use Rattle.charlotte_packets.specs.declared.picture.MovingPicture.{MovingPicture}
use Rattle.charlotte_packets.specs.declared.picture.Picture.{Picture}
use Rattle.charlotte_packets.specs.declared.picture.PictureWhat.{PictureWhat}
use Rattle.charlotte_packets.specs.declared.picture.PictureWhat.TheVariants as packet
use Rattle.end_table.specs.declared.entry.Entry.{Entry}
use Rattle.end_table.specs.declared.entry.Entry.TheVariants as entry
use Rattle.end_table.specs.declared.entry.HereView.{HereView}
use Rattle.kernel_sound.specs.Sound.{addressee}
use Rattle.kernel_step.specs.Rows.{ends_in}
use Rattle.service_lawful.specs.Consistent.{is_open}
use Rattle.service_step.specs.Ends.{is_living}
use Rattle.service_step.specs.declared.state.End.{End}
use Rattle.service_step.specs.declared.state.Place.TheVariants as place
use Rattle.theorem_meaning.proofs.Ends.{opposite-twice}
use Rattle.theorem_meaning.proofs.Frame.{IsAbout, IsSameLink, had-asking, had-heard, same-opposite}
use Rattle.theorem_meaning.specs.Fields.{At, Flying, HasFields, Stand, value_of}
use Rattle.theorem_meaning.specs.Packets.{Each, IsUnderWay, Links, values_of}
use Rattle.theorem_meaning.specs.StandsFor.{entry_at}
use Rattle.trace_meaning.specs.Traces.{IsAnnounced, IsKnownRight, IsLeftRight, IsMarkRight, IsMet, IsReached, IsSeenRight, IsToForget, IsTraceRight, IsTraced, IsTrailed}
use Rattle.trace_meaning.specs.Words.{HasChain, HasMark, IsBackTo, IsChain, IsFlying, IsForgetOf, IsGoingTo, IsGoneFrom, IsGoneSeen, IsKnownOf, IsMovedTo, IsOnTrack, IsParcelTo, IsSought, LeadsOn}

-- ---- lists whose elements that pass a test are the same

module _ {X : Type 0} (test : X → Bool) where
  filter-there : (xs : List X) (x : X) → test x ≡ true → Contains xs x → Contains (filter test xs) x
  filter-there [] x is (k, below, same) = absurd (omega arith)
  filter-there (y ∷ xs) x is there = by (test y) refl (Contains-append_cases (y ∷ []) xs x there) (filter-there xs x is)
    where
      by : (b : Bool) → test y ≡ b → Contains (y ∷ []) x ⊎ Contains xs x → (Contains xs x → Contains (filter test xs) x) → Contains (cond b (y ∷ filter test xs) (filter test xs)) x
      by true its (inl (zero, below, same)) rest = (0, (omega arith), same)
      by true its (inl (suc k, below, same)) rest = absurd (omega arith)
      by true its (inr later) rest = Contains-append_right (y ∷ []) (filter test xs) x (rest later)
      by false its (inl (zero, below, same)) rest = absurd (true≢false (sym is ∙ ap test (sym same) ∙ its))
      by false its (inl (suc k, below, same)) rest = absurd (omega arith)
      by false its (inr later) rest = rest later

  there-filter : (xs : List X) (x : X) → Contains (filter test xs) x → Contains xs x
  there-filter [] x there = there
  there-filter (y ∷ xs) x there = by (test y) there (there-filter xs x)
    where
      by : (b : Bool) → Contains (cond b (y ∷ filter test xs) (filter test xs)) x → (Contains (filter test xs) x → Contains xs x) → Contains (y ∷ xs) x
      by false is rest = Contains-append_right (y ∷ []) xs x (rest is)
      by true is rest = at (Contains-append_cases (y ∷ []) (filter test xs) x is)
        where
          at : Contains (y ∷ []) x ⊎ Contains (filter test xs) x → Contains (y ∷ xs) x
          at (inl (zero, below, same)) = (0, (omega arith), same)
          at (inl (suc k, below, same)) = absurd (omega arith)
          at (inr later) = Contains-append_right (y ∷ []) xs x (rest later)

  -- an element that passes, with those that pass before it
  record IsSplit (xs a : List X) (y : X) : Type 0 where
    before : List X
    later : List X
    stands : xs ≡ before ++ y ∷ later
    passed : filter test before ≡ a

  filter-split : (xs a b : List X) (y : X) → filter test xs ≡ a ++ y ∷ b → IsSplit xs a y
  filter-split [] [] b y same = let differ : [] ≡ y ∷ b = same in absurd (cc)
  filter-split [] (z ∷ a) b y same = let differ : [] ≡ z ∷ (a ++ y ∷ b) = same in absurd (cc)
  filter-split (x ∷ xs) a b y same = by (test x) refl a same (filter-split xs)
    where
      by : (c : Bool) → test x ≡ c → (a : List X) → cond c (x ∷ filter test xs) (filter test xs) ≡ a ++ y ∷ b → ((a b : List X) (y : X) → filter test xs ≡ a ++ y ∷ b → IsSplit xs a y) → IsSplit (x ∷ xs) a y
      by true its [] same rest = let first : x ≡ y = (cc) in record { before = []; later = xs; stands = ap (λ z. z ∷ xs) first; passed = refl }
      by true its (z ∷ a) same rest =
          let first : x ≡ z = (cc) in
          let others : filter test xs ≡ a ++ y ∷ b = (cc) in
          let s = rest a b y others in
          record { before = x ∷ s.before; later = s.later; stands = ap (λ l. x ∷ l) s.stands; passed = ap (λ c. cond c (x ∷ filter test s.before) (filter test s.before)) its ∙ ap (λ l. x ∷ l) s.passed ∙ ap (λ i. i ∷ a) first }
      by false its a same rest =
          let s = rest a b y same in
          record { before = x ∷ s.before; later = s.later; stands = ap (λ l. x ∷ l) s.stands; passed = ap (λ c. cond c (x ∷ filter test s.before) (filter test s.before)) its ∙ s.passed }

-- ---- links of which nothing changes

-- the packets that pass a test, which those about the link of e do, stand in each list as they did; and so do the entries of both ends
pub record IsSameTrack (w v : Links) (e : EndId) : Type 0 where
  pub own : (k : ℕ) → entry_at v k e ≡ entry_at w k e
  pub other : (k : ℕ) → entry_at v k (opposite e) ≡ entry_at w k (opposite e)
  pub test : PictureWhat → Bool
  pub covers : (q : PictureWhat) → IsAbout e q → test q ≡ true
  pub packets : (from to : ℕ) → filter (λ q. test q.what) (v.packets from to) ≡ filter (λ q. test q.what) (w.packets from to)

pub same-back : (w v : Links) (e : EndId) → IsSameTrack w v e → IsSameTrack v w e
same-back w v e l = record { own = λ k. sym (l.own k); other = λ k. sym (l.other k); test = l.test; covers = l.covers; packets = λ from to. sym (l.packets from to) }

pub same-across : (w v : Links) (e : EndId) → IsSameTrack w v e → IsSameTrack w v (opposite e)
same-across w v e l =
    record {
      own = l.other;
      other = λ k. ap (entry_at v k) (opposite-twice e) ∙ l.own k ∙ sym (ap (entry_at w k) (opposite-twice e));
      test = l.test;
      covers = λ q about. l.covers q (turned q about);
      packets = l.packets;
    }
  where
    turned : (q : PictureWhat) → IsAbout (opposite e) q → IsAbout e q
    turned q (inl is) = inr (inl is)
    turned q (inr (inl is)) = inl (is ∙ opposite-twice e)
    turned q (inr (inr (inl is))) = inr (inr (inr is))
    turned q (inr (inr (inr is))) = inr (inr (inl (subst (Contains (ends_in (values_of q))) (opposite-twice e) is)))

carried : (ms : List MovingPicture) (m : MovingPicture) (e : EndId) → Contains ms m → m.end ≡ e → Contains (ends_in ms) e
carried [] m e (k, below, at) is = absurd (omega arith)
carried (x ∷ ms) m e there is = by (Contains-append_cases (x ∷ []) ms m there) (λ later. carried ms m e later is)
  where
    by : Contains (x ∷ []) m ⊎ Contains ms m → (Contains ms m → Contains (ends_in ms) e) → Contains (x.end ∷ ends_in ms) e
    by (inl (zero, below, same)) rest = (0, (omega arith), ap (λ z. z.end) same ∙ is)
    by (inl (suc k, below, same)) rest = absurd (omega arith)
    by (inr later) rest = Contains-append_right (x.end ∷ []) (ends_in ms) e (rest later)

module _ (w v : Links) (e : EndId) (l : IsSameTrack w v e) where
  abbrev passes : Picture → Bool
  passes q = l.test q.what

  -- ---- packets, from before to after

  there-still : (from to : ℕ) (q : Picture) → IsAbout e q.what → Contains (w.packets from to) q → Contains (v.packets from to) q
  there-still from to q about there = there-filter passes (v.packets from to) q (subst (λ k. Contains k q) (sym (l.packets from to)) (filter-there passes (w.packets from to) q (l.covers q.what about) there))

  pub still-goes : (to : ℕ) (P : PictureWhat → Type 0) → ((q : PictureWhat) → P q → IsAbout e q) → IsGoingTo w to P → IsGoingTo v to P
  still-goes to P about g = record { from = g.from; packet = g.packet; there = there-still g.from to g.packet (about g.packet.what g.is) g.there; is = g.is }

  pub still-under : (P : PictureWhat → Type 0) → ((q : PictureWhat) → P q → IsAbout e q) → IsUnderWay w P → IsUnderWay v P
  still-under P about g = record { from = g.from; to = g.to; packet = g.packet; there = there-still g.from g.to g.packet (about g.packet.what g.is) g.there; is = g.is }

  -- ---- an end in them

  value-about : (m : MovingPicture) (q : PictureWhat) → m.end ≡ e → Contains (values_of q) m → IsAbout e q
  value-about m q its inside = inr (inr (inl (carried (values_of q) m e inside its)))

  flies-still : (xs ys : List Picture) (P : ℕ → Type 0) → filter passes ys ≡ filter passes xs → IsFlying xs e P → IsFlying ys e P
  flies-still xs ys P same f =
      record {
        packet = f.packet;
        value = f.value;
        there = there-filter passes ys f.packet (subst (λ k. Contains k f.packet) (sym same) (filter-there passes xs f.packet (l.covers f.packet.what (value-about f.value f.packet.what f.its f.inside)) f.there));
        inside = f.inside;
        its = f.its;
        hops = f.hops;
      }

  pub fields-still : (at : Stand) (m : MovingPicture) → HasFields w e at m → HasFields v e at m
  fields-still (At k) m has = ap value_of (l.own k) ∙ has
  fields-still Flying m has = (still-under (λ q. Contains (values_of q) m) (λ q is. value-about m q has.1 is) has.0, has.1)

  -- ---- chains

  leads-still : (k h : ℕ) (next after : ℕ → ℕ → Type 0) → ((j g : ℕ) → next j g → after j g) → (x : Entry) → LeadsOn w e k next h x → LeadsOn v e k after h x
  leads-still k h next after on entry.Nothing is = is
  leads-still k h next after on (entry.Here view) is = is
  leads-still k h next after on (entry.Destroyed m) is = is
  leads-still k h next after on (entry.Left to g) is = (is.0, by is.1)
    where
      by : IsFlying (w.packets k to) e (λ i. i ≡ g) ⊎ next to g → IsFlying (v.packets k to) e (λ i. i ≡ g) ⊎ after to g
      by (inl flies) = inl (flies-still (w.packets k to) (v.packets k to) (λ i. i ≡ g) (l.packets k to) flies)
      by (inr further) = inr (on to g further)

  chain-of : (most k h : ℕ) → IsChain most w e k h → IsChain most v e k h
  chain-of zero k h is = is
  chain-of (suc most) k h is = subst (LeadsOn v e k (IsChain most v e) h) (sym (l.own k)) (leads-still k h (IsChain most w e) (IsChain most v e) (λ j g. chain-of most j g) (entry_at w k e) is)

  pub chain-still : (k h : ℕ) → HasChain w e k h → HasChain v e k h
  chain-still k h c = (c.0, chain-of c.0 k h c.1)

  pub track-still : (h : ℕ) (P : PictureWhat → Type 0) → ((q : PictureWhat) → P q → IsAbout e q) → IsOnTrack w e h P → IsOnTrack v e h P
  track-still h P about o =
      record { from = o.from; to = o.to; packet = o.packet; before = s.before; later = s.later; stands = s.stands; is = o.is; leads = leads o.leads }
    where
      its : passes o.packet ≡ true
      its = l.covers o.packet.what (about o.packet.what o.is)

      s : IsSplit passes (v.packets o.from o.to) (filter passes o.before) o.packet
      s =
          filter-split passes (v.packets o.from o.to) (filter passes o.before) (filter passes o.later) o.packet
          (l.packets o.from o.to ∙ ap (filter passes) o.stands ∙ filter-append passes o.before (o.packet ∷ o.later) ∙ ap (λ c. filter passes o.before ++ cond c (o.packet ∷ filter passes o.later) (filter passes o.later)) its)

      leads : IsFlying o.before e (λ i. h < i) ⊎ HasChain w e o.to h → IsFlying s.before e (λ i. h < i) ⊎ HasChain v e o.to h
      leads (inl flies) = inl (flies-still o.before s.before (λ i. h < i) s.passed flies)
      leads (inr chain) = inr (chain-still o.to h chain)

  pub mark-still : HasMark w e → HasMark v e
  mark-still m = record { at = m.at; mark = m.mark; there = l.own m.at ∙ m.there }

-- ---- what packets are addressed to

pub to-goneseen : (e : EndId) (q : PictureWhat) → IsGoneSeen e q → addressee q ≡ e
to-goneseen e (packet.GoneSeen to) is = is
to-goneseen e _ is = absurd is

pub to-gone : (t : EndId) (j : ℕ) (q : PictureWhat) → IsGoneFrom t j q → addressee q ≡ t
to-gone t j (packet.Gone to at) is = is.0
to-gone t j _ is = absurd is

pub to-back : (t : EndId) (q : PictureWhat) → IsBackTo t q → addressee q ≡ t
to-back t (packet.Back to n ms) is = is
to-back t _ is = absurd is

pub to-parcel : (t : EndId) (q : PictureWhat) → IsParcelTo t q → addressee q ≡ t
to-parcel t (packet.Parcel to n w at hops bytes ms) is = is
to-parcel t _ is = absurd is

pub to-known : (e : EndId) (h : ℕ) (q : PictureWhat) → IsKnownOf e h q → addressee q ≡ e
to-known e h (packet.Known to hops) is = is.0
to-known e h _ is = absurd is

pub to-forget : (e : EndId) (h : ℕ) (q : PictureWhat) → IsForgetOf e h q → addressee q ≡ e
to-forget e h (packet.Forget to hops) is = is.0
to-forget e h _ is = absurd is

pub to-moved : (t : EndId) (j h : ℕ) (q : PictureWhat) → IsMovedTo t j h q → addressee q ≡ t
to-moved t j h (packet.Moved to at hops) is = is.0
to-moved t j h _ is = absurd is

-- what is true of each packet of a kind that is about the link, where it is so of each list
each-still : (w v : Links) (e : EndId) → IsSameTrack w v e → (P : PictureWhat → Type 0) (Q : ℕ → ℕ → Type 0) → ((q : PictureWhat) → P q → IsAbout e q) → Each w (λ from to q. P q → Q from to) → Each v (λ from to q. P q → Q from to)
each-still w v e l P Q about each from to i d lt is =
    let q = get_or (v.packets from to) i d in
    All-contains (λ r. P r.what → Q from to) (w.packets from to) q (each from to) (there-still v w e (same-back w v e l) from to q (about q.what is) (Contains-get_or (v.packets from to) i d lt)) is

-- ---- each clause

module _ (w v : Links) (e : EndId) (l : IsSameTrack w v e) (t u : EndId → End) (own : u e ≡ t e) (other : u (opposite e) ≡ t (opposite e)) where
  back : IsSameTrack v w e
  back = same-back w v e l

  across : IsSameTrack w v (opposite e)
  across = same-across w v e l

  back_across : IsSameTrack v w (opposite e)
  back_across = same-across v w e back

  -- in the words of the frame of theorem_meaning
  link : IsSameLink w v e
  link = record { own = l.own; other = l.other; packets = λ q about under. still-under v w e back (λ r. r ≡ q) (λ r same. subst (IsAbout e) (sym same) about) under }

  was : (P : End → Type 0) → P (u e) → P (t e)
  was P is = subst P own is

  was_other : (P : End → Type 0) → P (u (opposite e)) → P (t (opposite e))
  was_other P is = subst P other is

  sought-was : IsSought v u e → IsSought w t e
  sought-was (inl open_yet) = inl (was (λ x. is_open x ≡ true) open_yet)
  sought-was (inr mark) = inr (mark-still v w e back mark)

  sought-was-other : IsSought v u (opposite e) → IsSought w t (opposite e)
  sought-was-other (inl open_yet) = inl (was_other (λ x. is_open x ≡ true) open_yet)
  sought-was-other (inr mark) = inr (mark-still v w (opposite e) back_across mark)

  sought-now : IsSought w t e → IsSought v u e
  sought-now (inl open_yet) = inl (subst (λ x. is_open x ≡ true) (sym own) open_yet)
  sought-now (inr mark) = inr (mark-still w v e l mark)

  sought-now-other : IsSought w t (opposite e) → IsSought v u (opposite e)
  sought-now-other (inl open_yet) = inl (subst (λ x. is_open x ≡ true) (sym other) open_yet)
  sought-now-other (inr mark) = inr (mark-still w v (opposite e) across mark)

  frame-met : IsMet w t e → IsMet v u e
  frame-met is open_yet = by (is (was (λ x. is_open x ≡ true) open_yet))
    where
      by : (is_living (t (opposite e)).place ≡ true) ⊎ HasMark w (opposite e) → (is_living (u (opposite e)).place ≡ true) ⊎ HasMark v (opposite e)
      by (inl lives) = inl (subst (λ x. is_living x.place ≡ true) (sym other) lives)
      by (inr mark) = inr (mark-still w v (opposite e) across mark)

  frame-reached : IsReached w t e → IsReached v u e
  frame-reached is at m j h sought opposite_sought has heard le =
      chain-still w v e l j h (is at m j h (sought-was sought) (sought-was-other opposite_sought) (fields-still v w (opposite e) back_across at m has) (had-heard w v e link j h heard) le)

  frame-seen : IsSeenRight w t e → IsSeenRight v u e
  frame-seen is =
      record {
        destroyed = λ under. subst (λ x. x.place ≡ place.Destroyed) (sym own) (is.destroyed (still-under v w e back (IsGoneSeen e) (λ q is_seen. inl (to-goneseen e q is_seen)) under));
        unsought = λ under sought. is.unsought (still-under v w e back (IsGoneSeen e) (λ q is_seen. inl (to-goneseen e q is_seen)) under) (sought-was-other sought);
      }

  frame-known : IsKnownRight w t e → IsKnownRight v u e
  frame-known is at m h sought opposite_sought has either = is at m h (sought-was sought) (sought-was-other opposite_sought) (fields-still v w (opposite e) back_across at m has) (by either)
    where
      by : IsUnderWay v (IsKnownOf e h) ⊎ IsUnderWay v (IsForgetOf e h) → IsUnderWay w (IsKnownOf e h) ⊎ IsUnderWay w (IsForgetOf e h)
      by (inl known) = inl (still-under v w e back (IsKnownOf e h) (λ q is_known. inl (to-known e h q is_known)) known)
      by (inr told) = inr (still-under v w e back (IsForgetOf e h) (λ q is_told. inl (to-forget e h q is_told)) told)

  frame-announced : (k : ℕ) (view : HereView) → IsAnnounced w t e k view → IsAnnounced v u e k view
  frame-announced k view is open_yet trail lives = by (is (was (λ x. x.noticed ≡ false) open_yet) trail (was_other (λ x. is_living x.place ≡ true) lives))
    where
      by : IsGoingTo w k (IsKnownOf e view.value.hops) ⊎ IsOnTrack w (opposite e) view.value.hint.1 (IsMovedTo (opposite e) k view.value.hops)
          → IsGoingTo v k (IsKnownOf e view.value.hops) ⊎ IsOnTrack v (opposite e) view.value.hint.1 (IsMovedTo (opposite e) k view.value.hops)
      by (inl known) = inl (still-goes w v e l k (IsKnownOf e view.value.hops) (λ q is_known. inl (to-known e view.value.hops q is_known)) known)
      by (inr on) = inr (track-still w v (opposite e) across view.value.hint.1 (IsMovedTo (opposite e) k view.value.hops) (λ q is_moved. inl (to-moved (opposite e) k view.value.hops q is_moved)) on)

  frame-left : (k h : ℕ) → IsLeftRight w t e k h → IsLeftRight v u e k h
  frame-left k h is = record { some = is.some; old = λ at m has. is.old at m (fields-still v w e back at m has); kept = by is.kept }
    where
      by : IsTrailed w t e k ⊎ IsToForget w e k h → IsTrailed v u e k ⊎ IsToForget v e k h
      by (inl r) = inl (record { sought = sought-now r.sought; at = r.at; fields = r.fields; are = fields-still w v e l r.at r.fields r.are; in_trail = r.in_trail })
      by (inr r) = inr (record { hops = r.hops; there = still-goes w v e l k (IsForgetOf e r.hops) (λ q is_told. inl (to-forget e r.hops q is_told)) r.there; covers = r.covers })

  frame-mark : (d : ℕ) (mark : MovingPicture) → IsMarkRight w t e d mark → IsMarkRight v u e d mark
  frame-mark d mark is =
      record {
        dead = is.dead;
        noticed = subst (λ x. x.noticed ≡ false) (sym own) is.noticed;
        gone = λ at under. is.gone at (still-under v w e back (IsGoneFrom (opposite e) at) (λ q is_gone. inr (inl (to-gone (opposite e) at q is_gone))) under);
        backs = λ open_yet. each-still w v e l (IsBackTo (opposite e)) (λ from to. from ≡ d) (λ q is_back. inr (inl (to-back (opposite e) q is_back))) (is.backs (was_other (λ x. is_open x ≡ true) open_yet));
        parcels = λ open_yet. each-still w v e l (IsParcelTo e) (λ from to. to ≡ d) (λ q is_parcel. inl (to-parcel e q is_parcel)) (is.parcels (was_other (λ x. is_open x ≡ true) open_yet));
        asked = λ at m n j h open_yet has asks. is.asked at m n j h (was_other (λ x. is_open x ≡ true) open_yet) (fields-still v w (opposite e) back_across at m has) (had-asking w v (opposite e) (same-opposite w v e link) m n j h asks);
        mourned = by is.mourned;
      }
    where
      by : IsGoingTo w d (IsGoneSeen e) ⊎ (IsSought w t (opposite e) × IsOnTrack w (opposite e) mark.hint.1 (IsGoneFrom (opposite e) d))
          → IsGoingTo v d (IsGoneSeen e) ⊎ (IsSought v u (opposite e) × IsOnTrack v (opposite e) mark.hint.1 (IsGoneFrom (opposite e) d))
      by (inl seen) = inl (still-goes w v e l d (IsGoneSeen e) (λ q is_seen. inl (to-goneseen e q is_seen)) seen)
      by (inr both) = inr (sought-now-other both.0, track-still w v (opposite e) across mark.hint.1 (IsGoneFrom (opposite e) d) (λ q is_gone. inl (to-gone (opposite e) d q is_gone)) both.1)

  right-still : (k : ℕ) (x : Entry) → IsTraceRight w t e k x → IsTraceRight v u e k x
  right-still k entry.Nothing is = tt
  right-still k (entry.Here view) is = frame-announced k view is
  right-still k (entry.Left to h) is = frame-left k h is
  right-still k (entry.Destroyed m) is = frame-mark k m is

  -- all clauses of a link of which nothing changes
  pub frame-traced : IsTraced w t e → IsTraced v u e
  frame-traced is =
      record {
        met = frame-met is.met;
        reached = frame-reached is.reached;
        seen = frame-seen is.seen;
        known = frame-known is.known;
        entries = λ k. subst (IsTraceRight v u e k) (sym (l.own k)) (right-still k (entry_at w k e) (is.entries k));
      }
