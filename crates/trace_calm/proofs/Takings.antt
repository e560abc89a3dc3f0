-- Packets that are dropped, or passed on where their end left, keep all that is true of the traces of ends.
use Rattle.std.proofs.Common.{◌≡◌, ◌≢◌, ◌⊎◌, inl, inr, ℕ, zero, suc, ◌<◌, ◌≤◌, Bool, true, false, nat_eq, nat_le, ◌&&◌, not, if◌then◌else◌, List, [], ◌∷◌, length, Contains, Some, refl, sym, ap, subst, ◌∙◌, eq-eqb, true≢false, arith}
use Rattle.std.proofs.lemmas.Bool.Decides.{eqb_tells, leb_tells}
use Rattle.charlotte_calls.specs.Names.{opposite}
use Rattle.charlotte_calls.specs.declared.names.EndId.{EndId}
use Rattle.charlotte_calls.specs.declared.names.Pid.{Pid}
use Rattle.charlotte_packets.specs.declared.picture.MovingPicture.{MovingPicture}
use Rattle.charlotte_packets.specs.declared.picture.Picture.{Picture}
use Rattle.charlotte_packets.specs.declared.picture.PictureWhat.{PictureWhat}
use Rattle.charlotte_packets.specs.declared.picture.PictureWhat.TheVariants as packet
use Rattle.end_table.specs.Table.{IfHere}
use Rattle.end_table.specs.declared.entry.Entry.{Entry}
use Rattle.end_table.specs.declared.entry.Entry.TheVariants as entry
use Rattle.end_table.specs.declared.entry.HereView.{HereView}
use Rattle.end_table.specs.declared.entry.Inward.{Inward}
use Rattle.end_table.specs.declared.entry.Inward.TheVariants as inward
use Rattle.kernel_effects.specs.Effect.{Effect, nothing, sent}
use Rattle.kernel_effects.specs.Rows.{forget_effect, gone_effect, goneseen_effect, known_effect, moved_effect, row_effect, taken_effect, unwant_effect, unwanted_effect, unwanted_here_effect, want_effect}
use Rattle.kernel_sound.specs.Sound.{addressee}
use Rattle.kernel_world.specs.World.{Takes, World, happens}
use Rattle.service_step.specs.Ends.{is_living}
use Rattle.service_step.specs.State.{State}
use Rattle.service_step.specs.declared.state.End.{End}
use Rattle.service_step.specs.declared.state.Place.TheVariants as place
use Rattle.trace_events.proofs.Allowed.{takes-allowed}
use Rattle.trace_events.proofs.Lists.{first, none-there, only-there}
use Rattle.trace_events.proofs.Packets.{left_or_sent}
use Rattle.trace_events.specs.Change.{Change, Changes, Happens}
use Rattle.trace_events.specs.Events.{taking}
use Rattle.trace_events.specs.Under.{IsTaken}
use Rattle.theorem_meaning.proofs.Ends.{opposite-twice}
use Rattle.theorem_meaning.specs.Fields.{At, value_of}
use Rattle.theorem_meaning.specs.Invariant.{Invariant}
use Rattle.theorem_meaning.specs.Packets.{Links, links_of, values_of}
use Rattle.theorem_meaning.specs.StandsFor.{entry_at}
use Rattle.theorem_take_silent.proofs.Places.{here-living}
use Rattle.trace_calm.proofs.Calls.{steadily-same}
use Rattle.trace_calm.proofs.Calm.{calm-traced}
use Rattle.trace_calm.proofs.Steady.{steady-calm}
use Rattle.trace_calm.specs.Calm.{AreAsOpen, IsCalm, IsDropped, IsNewer, IsNoMark, IsNone, IsNotWithdrawn, IsPassable, IsSteadily}
use Rattle.trace_calm.specs.Steady.{IsSteady}
use Rattle.trace_events.proofs.Tracks.{track-behind, track-sent}
use Rattle.trace_meaning.proofs.Chains.{chain-fewer}
use Rattle.trace_meaning.specs.Traces.{AreTraced}
use Rattle.trace_meaning.specs.Words.{HasChain, IsChain, IsFlying, IsForgetOf, IsGoneFrom, IsGoneSeen, IsKnownOf, IsMovedTo, IsOnTrack, LeadsOn}

-- ---- what such packets do

-- a test of which the outcome is known
pub chosen : {X : Type 0} (a : Bool) (x y : X) → a ≡ true → (if a then x else y) ≡ x
chosen {X} a x y is = ap (λ (b : Bool). if b then x else y) is

pub passed-over : {X : Type 0} (a : Bool) (x y : X) → a ≡ false → (if a then x else y) ≡ y
passed-over {X} a x y is = ap (λ (b : Bool). if b then x else y) is

module _ (k : ℕ) (y : EndId → Entry) where
  want-dropped : (to : EndId) (n at hops : ℕ) (x : Entry) → IsDropped (packet.Want to n at hops) x → want_effect k y to n at hops x ≡ nothing
  want-dropped to n at hops entry.Nothing is = refl
  want-dropped to n at hops (entry.Here v) is = chosen v.value.dead nothing _ is.0
  want-dropped to n at hops (entry.Left there h) is = absurd is.1
  want-dropped to n at hops (entry.Destroyed m) is = refl

  unwant-dropped : (to : EndId) (n at hops : ℕ) (x : Entry) → IsDropped (packet.Unwant to n at hops) x → unwant_effect k to n at hops x ≡ nothing
  unwant-dropped to n at hops entry.Nothing is = refl
  unwant-dropped to n at hops (entry.Here v) is = chosen v.value.dead nothing _ is.0
  unwant-dropped to n at hops (entry.Left there h) is = absurd is.1
  unwant-dropped to n at hops (entry.Destroyed m) is = refl

  unwanted-here-dropped : (n at hops : ℕ) (v : HereView) (i : Inward) → IsNotWithdrawn n i → unwanted_here_effect k n at hops v i ≡ nothing
  unwanted-here-dropped n at hops v inward.Idle is = refl
  unwanted-here-dropped n at hops v (inward.Posted m) is = refl
  unwanted-here-dropped n at hops v (inward.Withdrawing m) is = passed-over (nat_eq m n) _ nothing is
  unwanted-here-dropped n at hops v inward.Unreported is = refl

  unwanted-dropped : (to : EndId) (n at hops : ℕ) (x : Entry) → IsDropped (packet.Unwanted to n at hops) x → unwanted_effect k n at hops x ≡ nothing
  unwanted-dropped to n at hops entry.Nothing is = refl
  unwanted-dropped to n at hops (entry.Here v) is = unwanted-here-dropped n at hops v v.inward is
  unwanted-dropped to n at hops (entry.Left there h) is = refl
  unwanted-dropped to n at hops (entry.Destroyed m) is = refl

  gone-dropped : (to : EndId) (at : ℕ) (x : Entry) → IsNone x → gone_effect k to at x ≡ nothing
  gone-dropped to at entry.Nothing is = refl
  gone-dropped to at _ is = absurd is

  moved-dropped : (to : EndId) (at hops : ℕ) (x : Entry) → IsDropped (packet.Moved to at hops) x → moved_effect k to at hops x ≡ nothing
  moved-dropped to at hops entry.Nothing is = refl
  moved-dropped to at hops (entry.Here v) is = chosen v.value.dead nothing _ is.0
  moved-dropped to at hops (entry.Left there h) is = absurd is.1
  moved-dropped to at hops (entry.Destroyed m) is = absurd is.2

  known-dropped : (to : EndId) (hops : ℕ) (x : Entry) → IsDropped (packet.Known to hops) x → known_effect k hops x ≡ nothing
  known-dropped to hops entry.Nothing is = refl
  known-dropped to hops (entry.Here v) is = passed-over (not v.value.dead && nat_eq v.value.hops hops) _ nothing (untrue v.value.dead (nat_eq v.value.hops hops) is)
    where
      untrue : (dead same : Bool) → (dead ≡ true) ⊎ (same ≡ false) → (not dead && same) ≡ false
      untrue true same any = refl
      untrue false true (inl differ) = sym differ
      untrue false true (inr differ) = differ
      untrue false false any = refl
  known-dropped to hops (entry.Left there h) is = refl
  known-dropped to hops (entry.Destroyed m) is = refl

  forget-dropped : (to : EndId) (hops : ℕ) (x : Entry) → IsNewer hops x → forget_effect to hops x ≡ nothing
  forget-dropped to hops entry.Nothing is = refl
  forget-dropped to hops (entry.Here v) is = refl
  forget-dropped to hops (entry.Left there h) is = passed-over (nat_le h hops) _ nothing is
  forget-dropped to hops (entry.Destroyed m) is = refl

  goneseen-dropped : (x : Entry) → IsNoMark x → goneseen_effect k x ≡ nothing
  goneseen-dropped entry.Nothing is = refl
  goneseen-dropped (entry.Here v) is = refl
  goneseen-dropped (entry.Left there h) is = refl
  goneseen-dropped (entry.Destroyed m) is = absurd is

  row-dropped : (made from : ℕ) (q : PictureWhat) → IsDropped q (y (addressee q)) → row_effect k made from y q ≡ nothing
  row-dropped made from (packet.Want to n at hops) is = want-dropped to n at hops (y to) is
  row-dropped made from (packet.Unwant to n at hops) is = unwant-dropped to n at hops (y to) is
  row-dropped made from (packet.Unwanted to n at hops) is = unwanted-dropped to n at hops (y to) is
  row-dropped made from (packet.Taken to n at hops) is = ap (taken_effect k n at hops) is
  row-dropped made from (packet.Gone to at) is = gone-dropped to at (y to) is
  row-dropped made from (packet.Moved to at hops) is = moved-dropped to at hops (y to) is
  row-dropped made from (packet.Known to hops) is = known-dropped to hops (y to) is
  row-dropped made from (packet.Forget to hops) is = forget-dropped to hops (y to) is
  row-dropped made from (packet.GoneSeen to) is = goneseen-dropped (y to) is
  row-dropped made from _ is = absurd is

  row-passed : (made from there h : ℕ) (q : PictureWhat) → IsPassable q → y (addressee q) ≡ entry.Left there h → row_effect k made from y q ≡ sent ((there, q) ∷ [])
  row-passed made from there h (packet.Want to n at hops) passes is = ap (want_effect k y to n at hops) is
  row-passed made from there h (packet.Unwant to n at hops) passes is = ap (unwant_effect k to n at hops) is
  row-passed made from there h (packet.Gone to at) passes is = ap (gone_effect k to at) is
  row-passed made from there h (packet.Moved to at hops) passes is = ap (moved_effect k to at hops) is
  row-passed made from there h _ passes is = absurd passes

dropped-bare : (q : PictureWhat) (x : Entry) → IsDropped q x → values_of q ≡ []
dropped-bare (packet.Parcel to n at w hops bytes ms) x is = absurd is
dropped-bare (packet.Back to n ms) x is = absurd is
dropped-bare _ x is = refl

passable-bare : (q : PictureWhat) → IsPassable q → values_of q ≡ []
passable-bare (packet.Parcel to n at w hops bytes ms) is = absurd is
passable-bare (packet.Back to n ms) is = absurd is
passable-bare _ is = refl

pub one-same : (a b : ℕ × Picture) → Some a ≡ Some b → a ≡ b
one-same a b same = cc

-- ---- in a world: kernel k takes the first packet that came from a kernel

module _ (i : ℕ) (w : World) (s : State) (is : Invariant i w s) (k from : ℕ) (q : Picture) (others : List Picture) (there : w.packets from k ≡ q ∷ others) (now : EndId → End) (as_open : AreAsOpen s.ends now) (traced : AreTraced (links_of w) s.ends) where
  abbrev l : Links
  l = links_of w

  abbrev any : Pid
  any = record { 0 = 0 }

  abbrev table : EndId → Entry
  table = (w.kernel k).table

  abbrev change : Effect → Change
  change f = taking w k from q f any [] []

  abbrev u : Links
  u = links_of (happens w (Takes k from))

  -- what is true of the packet that was taken
  is-taken : (f : Effect) (P : PictureWhat → Type 0) → IsTaken (change f) P → P q.what
  is-taken f P x = subst (λ (z : Picture). P z.what) (sym same) x.is
    where
      same : q ≡ x.packet
      same = ap (λ (z : ℕ × Picture). z.1) (one-same (from, q) (x.from, x.packet) x.taken)

  lives : (j : ℕ) (e : EndId) (v : HereView) → entry_at l j e ≡ entry.Here v → is_living (s.ends e).place ≡ true
  lives j e v at = here-living (length s.made) l s.ends is.setting.few is.links.named is.links.marked is.stands.links.once e j v at

  marked : (j : ℕ) (e : EndId) (m : MovingPicture) → entry_at l j e ≡ entry.Destroyed m → (s.ends e).place ≡ place.Destroyed
  marked j e m at = (is.links.marked e).destroyed j m at

  -- an end that is here and dead knows of the death of its link
  dead-noticed : (e : EndId) (v : HereView) → table e ≡ entry.Here v → v.value.dead ≡ true → (s.ends e).noticed ≡ true
  dead-noticed e v at dead = sym ((is.links.counted e).dead (At k) v.value (lives k e v at) (ap value_of at)) ∙ dead

  after : (f : Effect) → Happens w (Takes k from) (change f) → IsCalm l u (change f) s.ends → AreTraced u now
  after f happened calm = calm-traced happened.becomes.links s.ends now calm as_open marked lives is.service.noticed.opposite traced

  steadily : (f : Effect) → Happens w (Takes k from) (change f) → IsSteady l u (change f) s.ends → AreTraced u now
  steadily f happened steady = after f happened (steady-calm happened.becomes.links s.ends steady)

  -- entries stay
  module _ (f : Effect) (stays_all : (e : EndId) → f.entry e (table e) ≡ table e) (happened : Happens w (Takes k from) (change f)) where
    entry-same : (j : ℕ) (e : EndId) → entry_at u j e ≡ entry_at l j e
    entry-same j e = by (eqb_tells j k)
      where
        by : ((nat_eq j k ≡ true) × (j ≡ k)) ⊎ ((nat_eq j k ≡ false) × (j ≢ k)) → u.entry j e ≡ l.entry j e
        by (inl at) = subst (λ z. u.entry z e ≡ l.entry z e) (sym at.1) (happened.becomes.links.entry e ∙ stays_all e)
        by (inr at) = happened.becomes.links.others j e at.0

    entry-calm : (j : ℕ) (e : EndId) → IsSteadily (entry_at l j e) (entry_at u j e)
    entry-calm j e = subst (IsSteadily (entry_at l j e)) (sym (entry-same j e)) (steadily-same (entry_at l j e))

    -- no chain leads on where there is no entry
    no-chain : (e : EndId) (h : ℕ) → table e ≡ entry.Nothing → HasChain u e k h → ⊥
    no-chain e h none (zero, chain) = chain
    no-chain e h none (suc most, chain) = subst (LeadsOn u e k (IsChain most u e) h) (entry-same k e ∙ none) chain

    -- a chain leads on where an end left: it is on its way, or a chain goes on
    chain-left : (e : EndId) (h to g : ℕ) → table e ≡ entry.Left to g → HasChain u e k h → (h < g) × (IsFlying (u.packets k to) e (λ n. n ≡ g) ⊎ HasChain u e to g)
    chain-left e h to g left (zero, chain) = absurd chain
    chain-left e h to g left (suc most, chain) = (led.0, by led.1)
      where
        led : LeadsOn u e k (IsChain most u e) h (entry.Left to g)
        led = subst (LeadsOn u e k (IsChain most u e) h) (entry-same k e ∙ left) chain

        by : IsFlying (u.packets k to) e (λ n. n ≡ g) ⊎ IsChain most u e to g → IsFlying (u.packets k to) e (λ n. n ≡ g) ⊎ HasChain u e to g
        by (inl flies) = inl flies
        by (inr on) = inr (most, on)

  -- ---- a packet that is dropped

  module _ (drops : IsDropped q.what (table (addressee q.what))) where
    dropped : Happens w (Takes k from) (change nothing)
    dropped = takes-allowed is k from q others there nothing any [] [] (row-dropped k table (w.kernel k).made from q.what drops) tt tt refl refl

    known-drops : (e : EndId) (v : HereView) (what : PictureWhat) → IsDropped what (table (addressee what)) → table e ≡ entry.Here v → (s.ends e).noticed ≡ false → IsKnownOf e v.value.hops what → ⊥
    known-drops e v (packet.Known to hops) drop here free its = by (subst (λ x. IfHere x (λ z. (z.value.dead ≡ true) ⊎ (nat_eq z.value.hops hops ≡ false))) (ap table its.0 ∙ here) drop)
      where
        by : (v.value.dead ≡ true) ⊎ (nat_eq v.value.hops hops ≡ false) → ⊥
        by (inl dead) = true≢false (sym (dead-noticed e v here dead) ∙ free)
        by (inr differ) = true≢false (sym (eq-eqb v.value.hops hops (sym its.1)) ∙ differ)
    known-drops e v _ drop here free its = its

    forget-drops : (e : EndId) (to h g : ℕ) (what : PictureWhat) → IsDropped what (table (addressee what)) → table e ≡ entry.Left to h → IsForgetOf e g what → h ≤ g → ⊥
    forget-drops e to h g (packet.Forget on hops) drop left its covers = by (leb_tells h hops)
      where
        newer : nat_le h hops ≡ false
        newer = subst (IsNewer hops) (ap table its.0 ∙ left) drop

        by : ((nat_le h hops ≡ true) × (h ≤ hops)) ⊎ ((nat_le h hops ≡ false) × (hops < h)) → ⊥
        by (inl le) = true≢false (sym le.0 ∙ newer)
        by (inr lt) = let below : hops < h = lt.1 in let same : hops ≡ g = its.1 in omega (arith, below, same, covers)
    forget-drops e to h g _ drop left its covers = its

    seen-drops : (e : EndId) (m : MovingPicture) (what : PictureWhat) → IsDropped what (table (addressee what)) → table e ≡ entry.Destroyed m → IsGoneSeen e what → ⊥
    seen-drops e m (packet.GoneSeen to) drop at its = subst IsNoMark (ap table its ∙ at) drop
    seen-drops e m _ drop at its = its

    -- a moved that is dropped was on no track: there is no entry, or the end knows of the death of its link
    moved-drops : (e : EndId) (j : ℕ) (v : HereView) (what : PictureWhat) → IsDropped what (table (addressee what)) → entry_at l j e ≡ entry.Here v → IsMovedTo (opposite e) j v.value.hops what
        → HasChain u (opposite e) k v.value.hint.1 → ⊥
    moved-drops e j v (packet.Moved to at hops) drop here its chain = by (table (opposite e)) refl (subst (λ z. IsDropped (packet.Moved to at hops) (table z)) its.0 drop)
      where
        by : (x : Entry) → table (opposite e) ≡ x → IsDropped (packet.Moved to at hops) x → ⊥
        by entry.Nothing none drop = no-chain nothing (λ z. refl) dropped (opposite e) v.value.hint.1 none chain
        by (entry.Here x) there drop =
            let gone : (s.ends (opposite (opposite e))).place ≡ place.Destroyed = is.service.noticed.opposite (opposite e) (dead-noticed (opposite e) x there drop.0) in
            true≢false (sym (lives j e v here) ∙ ap is_living (subst (λ z. (s.ends z).place ≡ place.Destroyed) (opposite-twice e) gone))
        by (entry.Left a h) there drop = drop.1
        by (entry.Destroyed m) there drop = drop.2
    moved-drops e j v _ drop here its chain = its

    gone-drops : (e : EndId) (d h : ℕ) (what : PictureWhat) → IsDropped what (table (addressee what)) → IsGoneFrom (opposite e) d what → HasChain u (opposite e) k h → ⊥
    gone-drops e d h (packet.Gone to at) drop its chain = by (table (opposite e)) refl (subst (λ z. IsNone (table z)) its.0 drop)
      where
        by : (x : Entry) → table (opposite e) ≡ x → IsNone x → ⊥
        by entry.Nothing none drop = no-chain nothing (λ z. refl) dropped (opposite e) h none chain
        by _ there drop = drop
    gone-drops e d h _ drop its chain = its

    pub dropped-traced : AreTraced u now
    dropped-traced =
        steadily nothing dropped
        (record {
          entries = entry-calm nothing (λ z. refl) dropped;
          bare = dropped-bare q.what (table (addressee q.what)) drops;
          sent_bare = tt;
          sent = tt;
          known = λ e v here free taken. known-drops e v q.what drops here free (is-taken nothing (IsKnownOf e v.value.hops) taken);
          forget = λ e to h g left taken covers. forget-drops e to h g q.what drops (sym (entry-same nothing (λ z. refl) dropped k e) ∙ left) (is-taken nothing (IsForgetOf e g) taken) covers;
          seen = λ e m at taken. seen-drops e m q.what drops (sym (entry-same nothing (λ z. refl) dropped k e) ∙ at) (is-taken nothing (IsGoneSeen e) taken);
          moved = λ e j v here taken chain. absurd (moved-drops e j v q.what drops here (is-taken nothing (IsMovedTo (opposite e) j v.value.hops) taken) chain);
          gone = λ e d m taken chain. absurd (gone-drops e d m.hint.1 q.what drops (is-taken nothing (IsGoneFrom (opposite e) d) taken) chain);
        })

  -- ---- a packet that is passed on

  module _ (passes : IsPassable q.what) (to g : ℕ) (left : table (addressee q.what) ≡ entry.Left to g) where
    abbrev onward : Effect
    onward = sent ((to, q.what) ∷ [])

    passed : Happens w (Takes k from) (change onward)
    passed = takes-allowed is k from q others there onward any [] [] (row-passed k table (w.kernel k).made from to g q.what passes left) tt tt refl refl

    -- it is on the track of its end as it was
    on-track : (e : EndId) (h : ℕ) (P : PictureWhat → Type 0) → addressee q.what ≡ e → P q.what → HasChain u e k h → IsOnTrack u e h P
    on-track e h P its holds chain = by led.1
      where
        led : (h < g) × (IsFlying (u.packets k to) e (λ n. n ≡ g) ⊎ HasChain u e to g)
        led = chain-left onward (λ z. refl) passed e h to g (ap table (sym its) ∙ left) chain

        b : Changes l (change onward) u
        b = passed.becomes.links

        by : IsFlying (u.packets k to) e (λ n. n ≡ g) ⊎ HasChain u e to g → IsOnTrack u e h P
        by (inr on) = let more : h < g = led.0 in track-sent b e h to q.what P (first {X = ℕ × PictureWhat} (to, q.what) []) holds (chain-fewer u e to g h (omega (arith, more)) on)
        by (inl flies) = behind (left_or_sent b k to flies.packet flies.there)
          where
            behind : Contains (b.left k to) flies.packet ⊎ (Contains {X = ℕ × PictureWhat} ((to, q.what) ∷ []) (to, flies.packet.what) × (k ≡ k)) → IsOnTrack u e h P
            behind (inl has) =
                let more : h < g = led.0 in
                let same : flies.value.hops ≡ g = flies.hops in
                track-behind b e h to q.what P (first {X = ℕ × PictureWhat} (to, q.what) []) holds
                (record { packet = flies.packet; value = flies.value; there = has; inside = flies.inside; its = flies.its; hops = omega (arith, more, same) })
            behind (inr new) =
                let same : q.what ≡ flies.packet.what = ap (λ (z : ℕ × PictureWhat). z.1) (only-there {X = ℕ × PictureWhat} (to, q.what) (to, flies.packet.what) new.0) in
                absurd (none-there flies.value (subst (λ vs. Contains vs flies.value) (passable-bare q.what passes) (subst (λ z. Contains (values_of z) flies.value) (sym same) flies.inside)))

    no-known : (what : PictureWhat) → IsPassable what → (e : EndId) (h : ℕ) → IsKnownOf e h what → ⊥
    no-known (packet.Known on hops) passes e h its = passes
    no-known _ passes e h its = its

    no-forget : (what : PictureWhat) → IsPassable what → (e : EndId) (h : ℕ) → IsForgetOf e h what → ⊥
    no-forget (packet.Forget on hops) passes e h its = passes
    no-forget _ passes e h its = its

    no-seen : (what : PictureWhat) → IsPassable what → (e : EndId) → IsGoneSeen e what → ⊥
    no-seen (packet.GoneSeen on) passes e its = passes
    no-seen _ passes e its = its

    to-moved : (what : PictureWhat) (e : EndId) (j h : ℕ) → IsMovedTo e j h what → addressee what ≡ e
    to-moved (packet.Moved on at hops) e j h its = its.0
    to-moved _ e j h its = absurd its

    to-gone : (what : PictureWhat) (e : EndId) (j : ℕ) → IsGoneFrom e j what → addressee what ≡ e
    to-gone (packet.Gone on at) e j its = its.0
    to-gone _ e j its = absurd its

    pub passed-traced : AreTraced u now
    passed-traced =
        steadily onward passed
        (record {
          entries = entry-calm onward (λ z. refl) passed;
          bare = passable-bare q.what passes;
          sent_bare = (passable-bare q.what passes, tt);
          sent = (inl (record { from = from; packet = q; taken = refl; is = refl }, passes), tt);
          known = λ e v here free taken. no-known q.what passes e v.value.hops (is-taken onward (IsKnownOf e v.value.hops) taken);
          forget = λ e on h n at taken covers. no-forget q.what passes e n (is-taken onward (IsForgetOf e n) taken);
          seen = λ e m at taken. no-seen q.what passes e (is-taken onward (IsGoneSeen e) taken);
          moved = λ e j v here taken chain.
              let its : IsMovedTo (opposite e) j v.value.hops q.what = is-taken onward (IsMovedTo (opposite e) j v.value.hops) taken in
              on-track (opposite e) v.value.hint.1 (IsMovedTo (opposite e) j v.value.hops) (to-moved q.what (opposite e) j v.value.hops its) its chain;
          gone = λ e d m taken chain.
              let its : IsGoneFrom (opposite e) d q.what = is-taken onward (IsGoneFrom (opposite e) d) taken in
              on-track (opposite e) m.hint.1 (IsGoneFrom (opposite e) d) (to-gone q.what (opposite e) d its) its chain;
        })
