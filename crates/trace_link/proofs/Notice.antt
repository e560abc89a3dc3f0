-- A gone at an end that did not know of the death keeps all that is true of the traces of ends: the end is sought no more, each kernel of its trail is
-- told to forget it, and the mark is told that the death was seen.
use Rattle.std.proofs.Common.{◌≡◌, ◌≢◌, ◌⊎◌, inl, inr, ℕ, ◌<◌, ◌≤◌, Bool, true, false, true≢false, nat_eq, if◌then◌else◌, List, [], ◌∷◌, ◌++◌, length, Contains, refl, sym, ap, subst, ◌∙◌, arith}
use Rattle.std.proofs.lemmas.Bool.Decides.{eqb_tells}
use Rattle.std.proofs.lemmas.List.Elements.{All-contains, Contains-append_left, Contains-append_right}
use Rattle.std.specs.Int.{bit_at}
use Rattle.charlotte_calls.specs.Names.{opposite}
use Rattle.charlotte_calls.specs.declared.calls.Answer.{Answer}
use Rattle.charlotte_calls.specs.declared.calls.Report.{Report}
use Rattle.charlotte_calls.specs.declared.calls.ServiceStep.TheVariants as step
use Rattle.charlotte_calls.specs.declared.names.EndId.{EndId}
use Rattle.charlotte_calls.specs.declared.names.Pid.{Pid}
use Rattle.charlotte_packets.specs.declared.picture.MovingPicture.{MovingPicture}
use Rattle.charlotte_packets.specs.declared.picture.Picture.{Picture}
use Rattle.charlotte_packets.specs.declared.picture.PictureWhat.{PictureWhat}
use Rattle.charlotte_packets.specs.declared.picture.PictureWhat.TheVariants as packet
use Rattle.end_table.proofs.EndEq.{end_eq-refl, end_eq-same}
use Rattle.end_table.specs.Place.{end_eq}
use Rattle.end_table.specs.Table.{IsOfEnd}
use Rattle.end_table.specs.declared.entry.Entry.{Entry}
use Rattle.end_table.specs.declared.entry.Entry.TheVariants as entry
use Rattle.end_table.specs.declared.entry.HereView.{HereView}
use Rattle.kernel_effects.proofs.Uses.{all-append, forget-each}
use Rattle.kernel_effects.specs.Actions.{forget_packets, held_entry, notice_effect, noticed_view}
use Rattle.kernel_effects.specs.Effect.{Effect, stays, turns}
use Rattle.kernel_outcomes.specs.Closing.{told}
use Rattle.kernel_sound.specs.Sound.{addressee}
use Rattle.kernel_step.specs.Actions.{enclosed_of, is_withdrawing}
use Rattle.kernel_step.specs.Kernel.{process_of}
use Rattle.kernel_world.specs.World.{Takes, World, happens}
use Rattle.service_lawful.specs.Consistent.{is_open}
use Rattle.service_step.specs.Ends.{is_living}
use Rattle.service_step.specs.State.{State}
use Rattle.service_step.specs.declared.state.End.{End}
use Rattle.service_step.specs.declared.state.Place.TheVariants as place
use Rattle.theorem_effects.proofs.Aside.{entry-same, fields-same, sent-each}
use Rattle.theorem_effects.proofs.Lists.{first, none-there}
use Rattle.theorem_effects.proofs.Packets.{left-was, taken-was, under_way-after}
use Rattle.theorem_effects.specs.Aside.{IsAside, IsKept}
use Rattle.theorem_effects.specs.Change.{Change, Changes, Happens}
use Rattle.theorem_effects.specs.Events.{taking}
use Rattle.theorem_effects.specs.Sums.{AllSent}
use Rattle.theorem_effects.specs.Under.{IsLeft, IsSent, IsTaken}
use Rattle.theorem_meaning.proofs.Ends.{apart-false, opposite-apart, opposite-twice}
use Rattle.theorem_meaning.specs.Fields.{At, Flying, HasFields, Stand, value_of}
use Rattle.theorem_meaning.specs.Invariant.{Invariant, IsPacketRight}
use Rattle.theorem_meaning.specs.Packets.{IsUnderWay, Links, links_of, values_of}
use Rattle.theorem_meaning.specs.StandsFor.{entry_at}
use Rattle.trace_calm.proofs.Alike.{some-same}
use Rattle.trace_calm.proofs.Places.{fields-here, here-living}
use Rattle.trace_calm.proofs.Calls.{steadily-same, told-calm, turns-calm, untaken-steady}
use Rattle.trace_calm.proofs.Calm.{calm-traced}
use Rattle.trace_calm.proofs.Known.{forget-there}
use Rattle.trace_calm.proofs.Marked.{kernel-low}
use Rattle.trace_calm.proofs.Steady.{here-so, steady-calm}
use Rattle.trace_calm.specs.Calm.{AreAsOpen, IsCounted, IsSteadily}
use Rattle.trace_calm.specs.Steady.{IsSteady}
use Rattle.trace_calm.proofs.Aside.{aside-traced}
use Rattle.trace_calm.proofs.Clauses.{left-on, mark-on, seen-on, under_way-or}
use Rattle.trace_calm.proofs.One.{bare-unbrought, is-taken, put-has, put-or, put-was}
use Rattle.trace_calm.proofs.Open.{destroyed-closed, noticed-closed}
use Rattle.trace_calm.proofs.Tracks.{going-sent}
use Rattle.trace_calm.specs.Had.{HasSome}
use Rattle.trace_link.proofs.Apart.{middle, others_part, others-changes, own_part, own-changes}
use Rattle.trace_link.proofs.Own.{noticing-traced}
use Rattle.trace_link.specs.Closing.{IsDying, IsNoticing}
use Rattle.trace_meaning.specs.Traces.{AreTraced, IsLeftRight, IsMarkRight, IsMourned, IsToForget, IsTraceRight, IsTraced, IsTrailed}
use Rattle.trace_meaning.specs.Words.{IsForgetOf, IsGoingTo, IsGoneFrom, IsGoneSeen, IsSought}

here-was : (y : Entry) (o : HereView) → IsSteadily y (entry.Here o) → (v : HereView) × (y ≡ entry.Here v)
here-was (entry.Here v) o like = (v, refl)
here-was _ o like = absurd like

module _ (i : ℕ) (w : World) (s : State) (is : Invariant i w s) (k from stamp : ℕ) (to : EndId) (at : ℕ) (others : List Picture) (there : w.packets from k ≡ record { stamp = stamp; what = packet.Gone to at } ∷ others)
    (v : HereView) (stood : (w.kernel k).table to ≡ entry.Here v) where
  abbrev l : Links
  l = links_of w

  abbrev q : Picture
  q = record { stamp = stamp; what = packet.Gone to at }

  abbrev x : EndId
  x = to

  abbrev y : EndId
  y = opposite to

  -- what the kernel does
  abbrev pub noticing : Effect
  noticing =
      record (notice_effect k v) {
        packets = forget_packets k v.value ++ (at, packet.GoneSeen (opposite v.value.end)) ∷ [];
        steps = step.Notice v.value.end (is_withdrawing v.inward) ∷ [];
      }

  module _ (p : Pid) (given : List Answer) (rs : List Report) (happened : Happens w (Takes k from) (taking w k from q noticing p given rs)) (now : EndId → End) (dying : IsDying s.ends now to) (traced : AreTraced (links_of w) s.ends) where
    abbrev c : Change
    c = taking w k from q noticing p given rs

    abbrev u : Links
    u = links_of (happens w (Takes k from))

    abbrev b : Changes l c u
    b = happened.becomes.links

    abbrev news : List Report
    news = told (process_of p (w.kernel k)).phase given rs

    its-end : v.value.end ≡ to
    its-end = subst (IsOfEnd to) stood ((is.setting.sound k).own to)

    -- ---- first all other ends: those that the end enclosed get its holder, and one may be told a report

    abbrev m : Links
    m = middle b to

    abbrev c1 : Change
    c1 = others_part b to

    abbrev b1 : Changes l c1 m
    b1 = others-changes b to

    abbrev t : EndId → End
    t = λ e. if end_eq to e then s.ends e else now e

    like : (e : EndId) → IsSteadily (l.entry k e) (c1.entry e (l.entry k e))
    like e = by (end_eq to e) refl
      where
        by : (a : Bool) → end_eq to e ≡ a → IsSteadily (l.entry k e) (if a then l.entry k e else c.entry e (l.entry k e))
        by true same = steadily-same (l.entry k e)
        by false apart =
            told-calm news e (l.entry k e) (noticing.entry e (l.entry k e))
            (subst (λ a. IsSteadily (l.entry k e) (if a then entry.Here (noticed_view v) else turns (enclosed_of v.outward) (held_entry v.holder) stays e (l.entry k e))) (sym (ap (λ z. end_eq z e) its-end ∙ apart))
            (turns-calm (l.entry k) (enclosed_of v.outward) v.holder e))

    steady : IsSteady l m c1 s.ends
    steady = untaken-steady b1 s.ends refl like tt

    as_open : AreAsOpen s.ends t
    as_open = record { living = λ e. living e (end_eq to e); noticed = λ e. noticed e (end_eq to e) refl; destroyed = λ e dead. destroyed e dead (end_eq to e) }
      where
        living : (e : EndId) (a : Bool) → is_living (if a then s.ends e else now e).place ≡ is_living (s.ends e).place
        living e true = refl
        living e false = dying.living e

        noticed : (e : EndId) (a : Bool) → end_eq to e ≡ a → (if a then s.ends e else now e).noticed ≡ (s.ends e).noticed
        noticed e true same = refl
        noticed e false apart = dying.others e (λ same. true≢false (sym (end_eq-refl e) ∙ subst (λ z. end_eq z e ≡ false) same apart))

        destroyed : (e : EndId) → (s.ends e).place ≡ place.Destroyed → (a : Bool) → (if a then s.ends e else now e).place ≡ place.Destroyed
        destroyed e dead true = dead
        destroyed e dead false = dying.destroyed e dead

    mid-traced : AreTraced m t
    mid-traced =
        calm-traced b1 s.ends t (steady-calm b1 s.ends steady) as_open (λ j e o at. (is.links.marked e).destroyed j o at)
        (λ j e o at. here-living (length s.made) l s.ends is.setting.few is.links.named is.links.marked is.stands.links.once e j o at) is.service.noticed.opposite traced

    -- its own entries stay so far
    own-mid : (j : ℕ) → entry_at m j to ≡ entry_at l j to
    own-mid = entry-same b1 to (ap (λ a. if a then l.entry k to else c.entry to (l.entry k to)) (end_eq-refl to))

    -- ---- then its own, while the packet is taken and others are sent

    abbrev c2 : Change
    c2 = own_part b to

    abbrev b2 : Changes m c2 u
    b2 = own-changes b to

    own-here : (o : HereView) × (c.entry to (entry.Here v) ≡ entry.Here o) × IsCounted (noticed_view v).value o.value
    own-here =
        here-so (noticed_view v) (c.entry to (entry.Here v)) (told-calm news to (entry.Here (noticed_view v)) (noticing.entry to (entry.Here v)) (subst (IsSteadily (entry.Here (noticed_view v))) (sym puts_own) refl))
      where
        puts_own : noticing.entry to (entry.Here v) ≡ entry.Here (noticed_view v)
        puts_own = ap (λ a. if a then entry.Here (noticed_view v) else turns (enclosed_of v.outward) (held_entry v.holder) stays to (entry.Here v)) (ap (λ z. end_eq z to) its-end ∙ end_eq-refl to)

    mid-here : entry_at m k to ≡ entry.Here v
    mid-here = own-mid k ∙ stood

    puts-own : (e : EndId) → c2.entry e (entry_at m k e) ≡ (if end_eq to e then entry.Here own-here.0 else entry_at m k e)
    puts-own e = by (end_eq to e) refl
      where
        by : (a : Bool) → end_eq to e ≡ a → (if a then c.entry e (entry_at m k e) else entry_at m k e) ≡ (if a then entry.Here own-here.0 else entry_at m k e)
        by true same = subst (λ z. c.entry z (entry_at m k z) ≡ entry.Here own-here.0) (end_eq-same to e same) (ap (c.entry to) mid-here ∙ own-here.1)
        by false apart = refl

    fields-old : (st : Stand) (o : MovingPicture) → HasFields m to st o → HasFields l to st o
    fields-old (At j) o has = ap value_of (sym (own-mid j)) ∙ has
    fields-old Flying o has = (record { from = has.0.from; to = has.0.to; packet = has.0.packet; there = has.0.there; is = has.0.is }, has.1)

    lives : is_living (s.ends to).place ≡ true
    lives = here-living (length s.made) l s.ends is.setting.few is.links.named is.links.marked is.stands.links.once to k v stood

    dead : (s.ends y).place ≡ place.Destroyed
    dead = All-contains (λ o. IsPacketRight l s.ends from k o.what) (w.packets from k) q (is.links.packets from k) (subst (λ qs. Contains qs q) (sym there) (first q others))

    -- a mark or an end that is here in between was so
    mid-was : (e : EndId) (j : ℕ) → IsSteadily (entry_at l j e) (entry_at m j e)
    mid-was e j = steady.entries j e

    mid-mark : (e : EndId) (j : ℕ) (o : MovingPicture) → entry_at m j e ≡ entry.Destroyed o → (s.ends e).place ≡ place.Destroyed
    mid-mark e j o is_mid = by (entry_at l j e) refl (subst (IsSteadily (entry_at l j e)) is_mid (mid-was e j))
      where
        by : (z : Entry) → entry_at l j e ≡ z → IsSteadily z (entry.Destroyed o) → (s.ends e).place ≡ place.Destroyed
        by (entry.Destroyed d) was like = (is.links.marked e).destroyed j d was
        by _ was like = absurd like

    notes : IsNoticing m c2 t now to at v
    notes =
        record {
          its_end = its-end;
          stood = mid-here;
          view = own-here.0;
          like = own-here.2;
          becomes = puts-own;
          packets = refl;
          unforgets = λ e h z. is-taken from q refl (IsForgetOf e h) z;
          bare = refl;
          unaddressed = λ e off. off;
          lives = as_open.living to ∙ lives;
          dead = as_open.destroyed y dead;
          alone = λ st o has. (fields-here (length s.made) l s.ends is.setting.few is.links.named is.links.marked is.stands.links.once to k v st o stood (fields-old st o has)).1;
          marked = λ e j o is_mid. as_open.destroyed e (mid-mark e j o is_mid);
          nowhere = λ j o is_mid.
              let was = here-was (entry_at l j y) o (subst (IsSteadily (entry_at l j y)) is_mid (steady.entries j y)) in
              true≢false (sym (here-living (length s.made) l s.ends is.setting.few is.links.named is.links.marked is.stands.links.once y j was.0 was.1) ∙ ap is_living dead);
          low = λ j a h is_mid. kernel-low (length s.made) l s.ends is.setting.few is.links.named is.links.marked is.stands.links.once j to (entry.Left a h) (sym (own-mid j) ∙ is_mid) (λ differ. cc);
          site = λ d o right. right.gone at (taken-was b2 (IsGoneFrom (opposite y) at) (record { from = from; packet = q; taken = refl; is = (sym (opposite-twice to), refl) }));
          knows = dying.noticed;
          same = λ e apart. sym (ap (λ a. if a then s.ends e else now e) (apart-false to e apart));
        }

    pub noticed-traced : AreTraced u now
    noticed-traced = noticing-traced b2 t now to at v notes mid-traced
