-- The packets by which an end that is here hears where its opposite is: each keeps all that is true of the traces of ends.
use Rattle.std.proofs.Common.{◌≡◌, ◌⊎◌, inl, inr, ℕ, ◌<◌, ◌≤◌, Bool, true, false, nat_eq, nat_lt, if◌then◌else◌, List, [], ◌∷◌, ◌++◌, Contains, refl, sym, ap, subst, ◌∙◌, arith, ltb-true, ne_eqb}
use Rattle.std.proofs.lemmas.List.Elements.{Contains-append_left, Contains-append_right}
use Rattle.charlotte_calls.specs.Names.{opposite}
use Rattle.charlotte_calls.specs.declared.calls.Answer.{Answer}
use Rattle.charlotte_calls.specs.declared.calls.Report.{Report}
use Rattle.charlotte_calls.specs.declared.names.EndId.{EndId}
use Rattle.charlotte_calls.specs.declared.names.Pid.{Pid}
use Rattle.charlotte_packets.specs.declared.picture.MovingPicture.{MovingPicture}
use Rattle.charlotte_packets.specs.declared.picture.Picture.{Picture}
use Rattle.charlotte_packets.specs.declared.picture.PictureWhat.{PictureWhat}
use Rattle.charlotte_packets.specs.declared.picture.PictureWhat.TheVariants as packet
use Rattle.end_table.proofs.EndEq.{end_eq-refl}
use Rattle.end_table.specs.Entries.{is_news, learned}
use Rattle.end_table.specs.Place.{end_eq}
use Rattle.end_table.specs.Table.{IsOfEnd}
use Rattle.end_table.specs.declared.entry.Entry.{Entry}
use Rattle.end_table.specs.declared.entry.Entry.TheVariants as entry
use Rattle.end_table.specs.declared.entry.HereView.{HereView}
use Rattle.end_table.specs.declared.entry.Inward.{Inward}
use Rattle.end_table.specs.declared.entry.Inward.TheVariants as inward
use Rattle.end_table.specs.declared.entry.Outward.{Outward}
use Rattle.end_table.specs.declared.entry.Outward.TheVariants as outward
use Rattle.kernel_effects.proofs.Uses.{all-append}
use Rattle.kernel_effects.specs.Actions.{learn_effect, live_packets, match_waiting_effect, moved_packets, receive_packets}
use Rattle.kernel_effects.specs.Effect.{Effect, nothing, puts, stays}
use Rattle.kernel_effects.specs.Rows.{asked_view, completes_effect, frees_effect, moved_effect, row_effect, unwant_effect, view_news, voided_view, voids_effect, want_effect, wants_effect}
use Rattle.kernel_step.specs.Actions.{learned_view}
use Rattle.kernel_world.specs.World.{Takes, World, happens}
use Rattle.service_step.specs.State.{State}
use Rattle.service_step.specs.declared.state.End.{End}
use Rattle.theorem_effects.proofs.Allowed.{takes-allowed}
use Rattle.theorem_effects.proofs.Lists.{first}
use Rattle.theorem_effects.specs.Change.{Happens}
use Rattle.theorem_effects.specs.Events.{taking}
use Rattle.theorem_effects.specs.Sums.{AllSent}
use Rattle.theorem_meaning.proofs.Ends.{opposite-twice}
use Rattle.theorem_meaning.specs.Fields.{IsAsking, IsNews}
use Rattle.theorem_meaning.specs.Invariant.{Invariant}
use Rattle.theorem_meaning.specs.Packets.{IsUnderWay, Links, links_of, values_of}
use Rattle.theorem_meaning.specs.StandsFor.{entry_at}
use Rattle.trace_hearing.specs.Quiet.{tells_place}
use Rattle.trace_hearing.proofs.Calls.{steadily-same}
use Rattle.trace_hearing.proofs.Takings.{chosen, passed-over}
use Rattle.trace_hearing.specs.Calm.{AreAsOpen, IsSteadily}
use Rattle.trace_learning.proofs.Learned.{learned-traced}
use Rattle.trace_hearing.proofs.Marks.{learned-taught}
use Rattle.trace_hearing.specs.Hearing.{IsTaught}
use Rattle.trace_learning.specs.Learned.{IsLearned, IsLiveOf}
use Rattle.trace_meaning.specs.Traces.{AreTraced}
use Rattle.trace_meaning.specs.Words.{IsMovedTo}

-- ---- the packets that go again where a hint rises

-- each tells of the end where it is
live-live : (k : ℕ) (v : HereView) (hops : ℕ) (m : MovingPicture) (j : Inward) → m.end ≡ v.value.end → m.hops ≡ v.value.hops → AllSent (λ to what. IsLiveOf k v hops what) (live_packets k m j)
live-live k v hops m j end same = all-append (λ (x : ℕ × PictureWhat). IsLiveOf k v hops x.1) (receive_packets k m j) (if nat_eq m.trail 0 then [] else moved_packets k m) (receive j) (trail (nat_eq m.trail 0))
  where
    receive : (j : Inward) → AllSent (λ to what. IsLiveOf k v hops what) (receive_packets k m j)
    receive inward.Idle = tt
    receive (inward.Posted w) = ((ap opposite end, refl, same), tt)
    receive (inward.Withdrawing w) = ((ap opposite end, refl, same), tt)
    receive inward.Unreported = tt

    trail : (a : Bool) → AllSent (λ to what. IsLiveOf k v hops what) (if a then [] else moved_packets k m)
    trail true = tt
    trail false = ((ap opposite end, refl, same), tt)

news-live : (k at hops : ℕ) (v : HereView) (j : Inward) → AllSent (λ to what. IsLiveOf k v hops what) (view_news k at hops v j)
news-live k at hops v j = by (is_news v.value hops)
  where
    by : (a : Bool) → AllSent (λ to what. IsLiveOf k v hops what) (if a then live_packets k (learned at hops v.value) j else [])
    by true =
        live-live k v hops (learned at hops v.value) j (ap (λ (z : MovingPicture). z.end) (learned-taught at hops v.value))
        (ap (λ (z : MovingPicture). z.hops) (learned-taught at hops v.value))
    by false = tt

-- that of an end with a trail is among them
pub news-moved : (k at hops : ℕ) (v : HereView) (j : Inward) → is_news v.value hops ≡ true → (v.value.trail ≡ 0 → ⊥) → Contains {X = ℕ × PictureWhat} (view_news k at hops v j) (at, packet.Moved (opposite v.value.end) k v.value.hops)
news-moved k at hops v j news some =
    subst (λ a. Contains {X = ℕ × PictureWhat} (if a then live_packets k (if a then record v.value { hint = (at, hops) } else v.value) j else []) (at, packet.Moved (opposite v.value.end) k v.value.hops)) (sym news)
    (Contains-append_right (receive_packets k (record v.value { hint = (at, hops) }) j) (if nat_eq v.value.trail 0 then [] else moved_packets k (record v.value { hint = (at, hops) })) (at, packet.Moved (opposite v.value.end) k v.value.hops)
    (subst (λ a. Contains {X = ℕ × PictureWhat} (if a then [] else moved_packets k (record v.value { hint = (at, hops) })) (at, packet.Moved (opposite v.value.end) k v.value.hops)) (sym (ne_eqb v.value.trail 0 some))
    (first {X = ℕ × PictureWhat} (at, packet.Moved (opposite v.value.end) k v.value.hops) [])))

-- all but the hint stays
pub learned-like : (at hops : ℕ) (m : MovingPicture) → learned at hops m ≡ record m { hint = (learned at hops m).hint }
learned-like at hops m = by (is_news m hops)
  where
    by : (a : Bool) → (if a then record m { hint = (at, hops) } else m) ≡ record m { hint = (if a then record m { hint = (at, hops) } else m).hint }
    by true = refl
    by false = refl

-- ---- an effect that puts one entry

module _ (l : Links) (k : ℕ) (x : EndId) (v : HereView) (at hops : ℕ) (q : PictureWhat) (own : v.value.end ≡ x) where
  -- what the end is told and tells, and of which the hint is learned
  puts-learned : (base : Effect) (t : EndId) (o : HereView) → t ≡ x → IsTaught v.value o.value → o.value.hint ≡ (learned at hops v.value).hint → v.value.served ≤ o.value.served
      → ((n : ℕ) → o.value.want ≡ n → 0 < n → (v.value.want ≡ n) ⊎ ((v.value.served < n) × IsUnderWay l (IsAsking x n at hops)))
      → AllSent (λ to what. IsLiveOf k v hops what) base.packets
      → (is_news v.value hops ≡ true → (v.value.trail ≡ 0 → ⊥) → Contains base.packets (at, packet.Moved (opposite v.value.end) k v.value.hops))
      → ((e : EndId) (j h : ℕ) → IsMovedTo (opposite e) j h q → Contains base.packets (j, packet.Known e h))
      → IsLearned l k x v at hops q (record base { entry = puts t (entry.Here o) stays })
  puts-learned base t o its like hint served wanted sent resent answered =
      record {
        view = o;
        own = ap (λ a. if a then entry.Here o else entry.Here v) (ap (λ z. end_eq z x) its ∙ end_eq-refl x);
        like = like;
        hint = hint;
        others = λ e apart. subst (λ a. IsSteadily (entry_at l k e) (if a then entry.Here o else entry_at l k e)) (sym (ap (λ z. end_eq z e) its ∙ apart)) (steadily-same (entry_at l k e));
        served = served;
        wanted = wanted;
        sent = sent;
        resent = λ news some. subst (λ z. Contains base.packets (at, packet.Moved (opposite z) k v.value.hops)) own (resent news some);
        answered = answered;
      }

  -- what an end is asked for stays, where only its hint is learned
  served-still : v.value.served ≤ (learned at hops v.value).served
  served-still = let same : (learned at hops v.value).served ≡ v.value.served = ap (λ (z : MovingPicture). z.served) (learned-like at hops v.value) in omega (arith, same)

  want-still : (n : ℕ) → (learned at hops v.value).want ≡ n → 0 < n → (v.value.want ≡ n) ⊎ ((v.value.served < n) × IsUnderWay l (IsAsking x n at hops))
  want-still n is some = inl (sym (ap (λ (z : MovingPicture). z.want) (learned-like at hops v.value)) ∙ is)

-- no send waits
abbrev pub IsUnsent : Outward → Type 0
IsUnsent (outward.Waiting n bytes xs) = ⊥
IsUnsent _ = Unit {0}

-- ---- in a world: kernel k takes a packet for an end that is here and does not know of a death

module _ (i : ℕ) (w : World) (s : State) (is : Invariant i w s) (k from stamp : ℕ) (to : EndId) (at hops : ℕ) (others : List Picture) (v : HereView) (stood : (w.kernel k).table to ≡ entry.Here v) (now : EndId → End) (as_open : AreAsOpen s.ends now) (traced : AreTraced (links_of w) s.ends) where
  abbrev l : Links
  l = links_of w

  abbrev any : Pid
  any = record { 0 = 0 }

  abbrev table : EndId → Entry
  table = (w.kernel k).table

  abbrev picture : PictureWhat → Picture
  picture what = record { stamp = stamp; what = what }

  abbrev u : Links
  u = links_of (happens w (Takes k from))

  own : v.value.end ≡ to
  own = subst (IsOfEnd to) stood ((is.setting.sound k).own to)

  -- a moved, which is answered by a known
  module _ (there : w.packets from k ≡ picture (packet.Moved to at hops) ∷ others) (alive : v.value.dead ≡ false) where
    abbrev answer : List (ℕ × PictureWhat)
    answer = (at, packet.Known (opposite v.value.end) hops) ∷ []

    abbrev effect : Effect
    effect = record (learn_effect k at hops v) { packets = view_news k at hops v v.inward ++ answer }

    happened : Happens w (Takes k from) (taking w k from (picture (packet.Moved to at hops)) effect any [] [])
    happened = takes-allowed is k from (picture (packet.Moved to at hops)) others there effect any [] [] (ap (moved_effect k to at hops) stood ∙ passed-over v.value.dead nothing effect alive) tt tt refl refl

    learns : IsLearned l k to v at hops (packet.Moved to at hops) effect
    learns =
        puts-learned l k to v at hops (packet.Moved to at hops) own effect v.value.end (learned_view v at hops) own (learned-taught at hops v.value) refl
        (served-still l k to v at hops (packet.Moved to at hops) own) (want-still l k to v at hops (packet.Moved to at hops) own)
        (all-append (λ (x : ℕ × PictureWhat). IsLiveOf k v hops x.1) (view_news k at hops v v.inward) answer (news-live k at hops v v.inward) ((refl, refl), tt))
        (λ news some. Contains-append_left (view_news k at hops v v.inward) answer (at, packet.Moved (opposite v.value.end) k v.value.hops) (news-moved k at hops v v.inward news some)) known
      where
        known : (e : EndId) (j h : ℕ) → IsMovedTo (opposite e) j h (packet.Moved to at hops) → Contains (view_news k at hops v v.inward ++ answer) (j, packet.Known e h)
        known e j h its =
            subst (λ (x : ℕ × PictureWhat). Contains (view_news k at hops v v.inward ++ answer) x) (λ r. (its.1 r, packet.Known (same r) (its.2 r)))
            (Contains-append_right (view_news k at hops v v.inward) answer (at, packet.Known (opposite v.value.end) hops) (first {X = ℕ × PictureWhat} (at, packet.Known (opposite v.value.end) hops) []))
          where
            same : opposite v.value.end ≡ e
            same = ap opposite (own ∙ its.0) ∙ opposite-twice e

    pub moved-traced : AreTraced u now
    moved-traced = learned-traced i w s is k from (picture (packet.Moved to at hops)) others there to at hops (refl, refl, refl) refl refl v stood effect learns any [] [] happened now as_open traced

  -- a want or an unwant of a receive that was served
  module _ (n : ℕ) (what : PictureWhat) (asks : IsAsking to n at hops what) (there : w.packets from k ≡ picture what ∷ others) (alive : v.value.dead ≡ false) (old : nat_lt v.value.served n ≡ false) where
    row-served : (what : PictureWhat) → IsAsking to n at hops what → row_effect k (w.kernel k).made from table what ≡ learn_effect k at hops v
    row-served (packet.Want on m a h) its =
        (λ r. want_effect k table (its.0 r) (its.1 r) (its.2 r) (its.3 r) (table (its.0 r))) ∙ ap (want_effect k table to n at hops) stood ∙ passed-over v.value.dead nothing _ alive
        ∙ passed-over (nat_lt v.value.served n) _ (learn_effect k at hops v) old
    row-served (packet.Unwant on m a h) its =
        (λ r. unwant_effect k (its.0 r) (its.1 r) (its.2 r) (its.3 r) (table (its.0 r))) ∙ ap (unwant_effect k to n at hops) stood ∙ passed-over v.value.dead nothing _ alive
        ∙ passed-over (nat_lt v.value.served n) _ (learn_effect k at hops v) old
    row-served _ its = absurd its

    asking-unmoved : (what : PictureWhat) → IsAsking to n at hops what → (e : EndId) (j h : ℕ) → IsMovedTo e j h what → ⊥
    asking-unmoved (packet.Moved on a h) its e j g moved = its
    asking-unmoved _ its e j g moved = moved

    asking-tells : (what : PictureWhat) → IsAsking to n at hops what → IsNews to at hops what × (tells_place what ≡ true) × (values_of what ≡ [])
    asking-tells (packet.Want on m a h) its = ((its.0, its.2, its.3), refl, refl)
    asking-tells (packet.Unwant on m a h) its = ((its.0, its.2, its.3), refl, refl)
    asking-tells _ its = absurd its

    served-happened : Happens w (Takes k from) (taking w k from (picture what) (learn_effect k at hops v) any [] [])
    served-happened = takes-allowed is k from (picture what) others there (learn_effect k at hops v) any [] [] (row-served what asks) tt tt refl refl

    served-learns : IsLearned l k to v at hops what (learn_effect k at hops v)
    served-learns =
        puts-learned l k to v at hops what own (learn_effect k at hops v) v.value.end (learned_view v at hops) own (learned-taught at hops v.value) refl (served-still l k to v at hops what own) (want-still l k to v at hops what own)
        (news-live k at hops v v.inward) (news-moved k at hops v v.inward) (λ e j h moved. absurd (asking-unmoved what asks (opposite e) j h moved))

    pub served-traced : AreTraced u now
    served-traced =
        let its = asking-tells what asks in
        learned-traced i w s is k from (picture what) others there to at hops its.0 its.1 its.2 v stood (learn_effect k at hops v) served-learns any [] [] served-happened now as_open traced

  -- an unwant of a receive that was not served, which is answered by an unwanted
  module _ (n : ℕ) (there : w.packets from k ≡ picture (packet.Unwant to n at hops) ∷ others) (alive : v.value.dead ≡ false) (new : nat_lt v.value.served n ≡ true) where
    voids : row_effect k (w.kernel k).made from table (packet.Unwant to n at hops) ≡ voids_effect k n at hops v
    voids = ap (unwant_effect k to n at hops) stood ∙ passed-over v.value.dead nothing _ alive ∙ chosen (nat_lt v.value.served n) (voids_effect k n at hops v) _ new

    voids-happened : Happens w (Takes k from) (taking w k from (picture (packet.Unwant to n at hops)) (voids_effect k n at hops v) any [] [])
    voids-happened = takes-allowed is k from (picture (packet.Unwant to n at hops)) others there (voids_effect k n at hops v) any [] [] voids tt tt refl refl

    voids-learns : IsLearned l k to v at hops (packet.Unwant to n at hops) (voids_effect k n at hops v)
    voids-learns =
        puts-learned l k to v at hops (packet.Unwant to n at hops) own (voids_effect k n at hops v) v.value.end (voided_view n at hops v) own (ap (λ (z : MovingPicture). record z { served = n; want = 0 }) (learned-taught at hops v.value)) refl
        (let low : v.value.served < n = ltb-true v.value.served n new in omega (arith, low)) (λ m is some. let none : 0 ≡ m = is in absurd (omega (arith, none, some)))
        ((refl, refl, refl), news-live k at hops v v.inward)
        (λ news some. Contains-append_right ((at, packet.Unwanted (opposite v.value.end) n k v.value.hops) ∷ []) (view_news k at hops v v.inward) (at, packet.Moved (opposite v.value.end) k v.value.hops) (news-moved k at hops v v.inward news some))
        (λ e j h moved. absurd moved)

    pub voided-traced : AreTraced u now
    voided-traced =
        learned-traced i w s is k from (picture (packet.Unwant to n at hops)) others there to at hops (refl, refl, refl) refl refl v stood (voids_effect k n at hops v) voids-learns any [] [] voids-happened now as_open traced

  -- an unwanted, which answers a Cancel
  module _ (n : ℕ) (there : w.packets from k ≡ picture (packet.Unwanted to n at hops) ∷ others) (p : Pid) (given : List Answer) (rs : List Report)
      (happened : Happens w (Takes k from) (taking w k from (picture (packet.Unwanted to n at hops)) (frees_effect k at hops v) p given rs)) where
    frees-learns : IsLearned l k to v at hops (packet.Unwanted to n at hops) (frees_effect k at hops v)
    frees-learns =
        puts-learned l k to v at hops (packet.Unwanted to n at hops) own (frees_effect k at hops v) v.value.end (record (learned_view v at hops) { inward = inward.Idle }) own (learned-taught at hops v.value) refl
        (served-still l k to v at hops (packet.Unwanted to n at hops) own) (want-still l k to v at hops (packet.Unwanted to n at hops) own) (news-live k at hops v inward.Idle) (news-moved k at hops v inward.Idle) (λ e j h moved. absurd moved)

    pub freed-traced : AreTraced u now
    freed-traced =
        learned-traced i w s is k from (picture (packet.Unwanted to n at hops)) others there to at hops (refl, refl, refl) refl refl v stood (frees_effect k at hops v) frees-learns p given rs happened now as_open traced

  -- a taken, which completes a send
  module _ (n : ℕ) (there : w.packets from k ≡ picture (packet.Taken to n at hops) ∷ others) (p : Pid) (given : List Answer) (rs : List Report)
      (happened : Happens w (Takes k from) (taking w k from (picture (packet.Taken to n at hops)) (completes_effect k n at hops v) p given rs)) where
    completes-learns : IsLearned l k to v at hops (packet.Taken to n at hops) (completes_effect k n at hops v)
    completes-learns =
        puts-learned l k to v at hops (packet.Taken to n at hops) own (completes_effect k n at hops v) v.value.end (record (learned_view v at hops) { outward = outward.Unreported }) own (learned-taught at hops v.value) refl
        (served-still l k to v at hops (packet.Taken to n at hops) own) (want-still l k to v at hops (packet.Taken to n at hops) own) (news-live k at hops v v.inward) (news-moved k at hops v v.inward) (λ e j h moved. absurd moved)

    pub completed-traced : AreTraced u now
    completed-traced =
        learned-traced i w s is k from (picture (packet.Taken to n at hops)) others there to at hops (refl, refl, refl) refl refl v stood (completes_effect k n at hops v) completes-learns p given rs happened now as_open traced

  -- a want of a receive that was not served, where no send waits: that it is asked for is kept
  module _ (n : ℕ) (there : w.packets from k ≡ picture (packet.Want to n at hops) ∷ others) (alive : v.value.dead ≡ false) (new : nat_lt v.value.served n ≡ true) (idle : IsUnsent v.outward) where
    abbrev keeping : Effect
    keeping = record nothing { entry = puts (learned at hops v.value).end (entry.Here (asked_view n at hops v)) stays; packets = view_news k at hops v v.inward }

    keeps : (o : Outward) → IsUnsent o → record (match_waiting_effect k table (asked_view n at hops v) o) { packets = (match_waiting_effect k table (asked_view n at hops v) o).packets ++ view_news k at hops v v.inward } ≡ keeping
    keeps outward.Idle idle = refl
    keeps (outward.Waiting m bytes xs) idle = absurd idle
    keeps (outward.Matched m) idle = refl
    keeps outward.Unreported idle = refl

    wants : row_effect k (w.kernel k).made from table (packet.Want to n at hops) ≡ keeping
    wants = ap (want_effect k table to n at hops) stood ∙ passed-over v.value.dead nothing _ alive ∙ chosen (nat_lt v.value.served n) (wants_effect k table n at hops v) _ new ∙ keeps v.outward idle

    wants-happened : Happens w (Takes k from) (taking w k from (picture (packet.Want to n at hops)) keeping any [] [])
    wants-happened = takes-allowed is k from (picture (packet.Want to n at hops)) others there keeping any [] [] wants tt tt refl refl

    asked : IsUnderWay l (IsAsking to n at hops)
    asked = record { from = from; to = k; packet = picture (packet.Want to n at hops); there = subst (λ qs. Contains qs (picture (packet.Want to n at hops))) (sym there) (first (picture (packet.Want to n at hops)) others); is = (refl, refl, refl, refl) }

    wants-learns : IsLearned l k to v at hops (packet.Want to n at hops) keeping
    wants-learns =
        puts-learned l k to v at hops (packet.Want to n at hops) own keeping (learned at hops v.value).end (asked_view n at hops v) (ap (λ (z : MovingPicture). z.end) (learned-taught at hops v.value) ∙ own)
        (ap (λ (z : MovingPicture). record z { want = n }) (learned-taught at hops v.value)) refl (served-still l k to v at hops (packet.Want to n at hops) own)
        (λ m is some. subst (λ z. (v.value.want ≡ z) ⊎ ((v.value.served < z) × IsUnderWay l (IsAsking to z at hops))) is (inr (ltb-true v.value.served n new, asked))) (news-live k at hops v v.inward) (news-moved k at hops v v.inward)
        (λ e j h moved. absurd moved)

    pub kept-traced : AreTraced u now
    kept-traced =
        learned-traced i w s is k from (picture (packet.Want to n at hops)) others there to at hops (refl, refl, refl) refl refl v stood keeping wants-learns any [] [] wants-happened now as_open traced
