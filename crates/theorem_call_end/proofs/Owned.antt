-- Ends that a process owns are destroyed, each with what its message encloses that waits: at its kernel and in the service.
use Rattle.std.proofs.Common.{◌≡◌, ◌⊎◌, ◌↔◌, inl, inr, ℕ, ◌+◌, Bool, true, false, ◌||◌, if◌then◌else◌, List, [], ◌∷◌, ◌++◌, Contains, IfSome, None, Some, length, refl, sym, ap, subst, ◌∙◌, true≢false, eq-eqb}
use Rattle.std.proofs.lemmas.List.Folds.{list_any-append}
use Rattle.std.specs.List.{flat_map, list_any}
use Rattle.charlotte_calls.specs.declared.names.EndId.{EndId}
use Rattle.charlotte_calls.specs.declared.names.Pid.{Pid}
use Rattle.charlotte_packets.specs.declared.picture.MovingPicture.{MovingPicture}
use Rattle.end_table.proofs.EndEq.{end_eq-refl, end_eq-same}
use Rattle.end_table.specs.Place.{end_eq}
use Rattle.end_table.specs.Table.{IsHereAnd, IsIdle, IsOfEnd}
use Rattle.end_table.specs.declared.entry.Entry.{Entry}
use Rattle.end_table.specs.declared.entry.Entry.TheVariants as entry
use Rattle.end_table.specs.declared.entry.HereView.{HereView}
use Rattle.end_table.specs.declared.entry.Holder.TheVariants as holder
use Rattle.end_table.specs.declared.entry.Inward.{Inward as KernelInward}
use Rattle.end_table.specs.declared.entry.Inward.TheVariants as kernel_inward
use Rattle.end_table.specs.declared.entry.Outward.{Outward as KernelOutward}
use Rattle.end_table.specs.declared.entry.Outward.TheVariants as kernel_outward
use Rattle.kernel_effects.proofs.Uses.{all-append}
use Rattle.kernel_effects.specs.Actions.{ended_of, gone_of, gone_packets}
use Rattle.kernel_effects.specs.Calls.{ended_list, ended_with}
use Rattle.kernel_sound.proofs.Needs.{IfHere-at}
use Rattle.kernel_sound.specs.Sound.{AreHeldBy}
use Rattle.kernel_step.proofs.Folds.{AreDifferent}
use Rattle.kernel_step.specs.Actions.{enclosed_of, is_withdrawing}
use Rattle.kernel_step.specs.Rows.{is_here}
use Rattle.kernel_world.specs.World.{World}
use Rattle.service_change.proofs.EndEq.{among, among-Contains, Contains-among}
use Rattle.service_step.specs.Ends.{carried_by, destroys_each, dropped, is_living, is_made, is_owned_by, waiting_message}
use Rattle.service_step.specs.Lawful.{IsCarried, IsHeldAt, message_of}
use Rattle.service_step.specs.State.{State, Process}
use Rattle.service_step.specs.declared.state.End.{End}
use Rattle.service_step.specs.declared.state.Message.{Message}
use Rattle.service_step.specs.declared.state.Outward.{Outward}
use Rattle.service_step.specs.declared.state.Outward.TheVariants as outward
use Rattle.service_step.specs.declared.state.Phase.TheVariants as phase
use Rattle.service_step.specs.declared.state.Place.TheVariants as place
use Rattle.theorem_call_begin.proofs.Places.{here-kernel}
use Rattle.theorem_call_begin.specs.Change.{Change}
use Rattle.theorem_call_begin.specs.Sums.{AllSent, sum_taken}
use Rattle.theorem_meaning.proofs.Ends.{opposite-twice}
use Rattle.theorem_meaning.specs.Fields.{At, value_of}
use Rattle.theorem_meaning.specs.Invariant.{Invariant, is_message_of}
use Rattle.theorem_meaning.specs.Packets.{Links, links_of, one_if, values_for, values_of}
use Rattle.theorem_meaning.specs.StandsFor.{IsEnclosed, IsEndOf, IsOutwardOf, IsOwnedHere, IsWaitingWith, home_of}
use Rattle.theorem_ends_destroyed.specs.Ending.{Dropped, IsEnded, IsEnding, IsReturnOf, IsSendAfter, IsToldOf, Kept}
use Rattle.theorem_ends_destroyed.proofs.Facts.{among-same, or-true, true-or}
use Rattle.theorem_meaning.proofs.Plain.{there-here}
use Rattle.theorem_call_end.proofs.Destroyed.{AreMine, as_destroyed, carried_at, destroyed_list, destroyed_with, destroys_each-is, flat_map-same}

-- ---- lists of ends

either : (a b : Bool) → (a || b) ≡ true → (a ≡ true) ⊎ (b ≡ true)
either true b is = inl refl
either false b is = inr is

-- an end in lists that ends have
in-list : (q : EndId) (f : EndId → List EndId) (xs : List EndId) → list_any (end_eq q) (flat_map f xs) ≡ true → (x : EndId) × (list_any (end_eq x) xs ≡ true) × (list_any (end_eq q) (f x) ≡ true)
in-list q f [] is = absurd (true≢false (sym is))
in-list q f (x ∷ xs) is = by (either _ _ (sym (list_any-append (end_eq q) (f x) (flat_map f xs)) ∙ is)) (in-list q f xs)
  where
    by : (list_any (end_eq q) (f x) ≡ true) ⊎ (list_any (end_eq q) (flat_map f xs) ≡ true) → (list_any (end_eq q) (flat_map f xs) ≡ true → (y : EndId) × (list_any (end_eq y) xs ≡ true) × (list_any (end_eq q) (f y) ≡ true))
        → (y : EndId) × (list_any (end_eq y) (x ∷ xs) ≡ true) × (list_any (end_eq q) (f y) ≡ true)
    by (inl here) rest = (x, true-or _ _ (end_eq-refl x), here)
    by (inr later) rest = let one = rest later in (one.0, or-true _ _ one.1, one.2)

to-list : (q x : EndId) (f : EndId → List EndId) (xs : List EndId) → list_any (end_eq x) xs ≡ true → list_any (end_eq q) (f x) ≡ true → list_any (end_eq q) (flat_map f xs) ≡ true
to-list q x f [] is has = absurd (true≢false (sym is))
to-list q x f (y ∷ ys) is has = list_any-append (end_eq q) (f y) (flat_map f ys) ∙ by (end_eq x y) refl is (to-list q x f ys)
  where
    by : (b : Bool) → end_eq x y ≡ b → (b || list_any (end_eq x) ys) ≡ true → (list_any (end_eq x) ys ≡ true → list_any (end_eq q) (f x) ≡ true → list_any (end_eq q) (flat_map f ys) ≡ true)
        → (list_any (end_eq q) (f y) || list_any (end_eq q) (flat_map f ys)) ≡ true
    by true same is rest = true-or _ _ (subst (λ z. list_any (end_eq q) (f z) ≡ true) (end_eq-same x y same) has)
    by false apart is rest = or-true _ _ (rest is has)

-- an end of a message that waits is here and idle, and held by its end
held-here : (e q : EndId) (t : EndId → Entry) (xs : List EndId) → AreHeldBy e t xs → list_any (end_eq q) xs ≡ true → IsHereAnd (t q) (λ u. IsIdle u × (u.holder ≡ holder.EnclosedIn e))
held-here e q t [] are is = absurd (true≢false (sym is))
held-here e q t (x ∷ xs) are is = by (end_eq q x) refl is (held-here e q t xs are.2)
  where
    by : (b : Bool) → end_eq q x ≡ b → (b || list_any (end_eq q) xs) ≡ true → (list_any (end_eq q) xs ≡ true → IsHereAnd (t q) (λ u. IsIdle u × (u.holder ≡ holder.EnclosedIn e)))
        → IsHereAnd (t q) (λ u. IsIdle u × (u.holder ≡ holder.EnclosedIn e))
    by true same is rest = subst (λ z. IsHereAnd (t z) (λ u. IsIdle u × (u.holder ≡ holder.EnclosedIn e))) (sym (end_eq-same q x same)) are.0
    by false apart is rest = rest is

-- ---- sends at a kernel and in the service

carried-same : (w : Links) (e : EndId) (n : ℕ) (o : KernelOutward) (y : Outward) → IsOutwardOf w e n o y → carried_by (waiting_message y) ≡ enclosed_of o
carried-same w e n kernel_outward.Idle outward.Idle is = refl
carried-same w e n (kernel_outward.Waiting m bytes xs) (outward.Waiting message) is = ap (λ (z : Message). z.carried) is.1
carried-same w e n (kernel_outward.Matched m) (outward.Matched message) is = refl
carried-same w e n (kernel_outward.Matched m) outward.Taken is = refl
carried-same w e n kernel_outward.Unreported outward.Unreported is = refl
carried-same w e n _ _ is = absurd is

-- the message of a send that waits
waits-carried : (w : Links) (e : EndId) (n m : ℕ) (o : KernelOutward) (y : Outward) (message : Message) → IsOutwardOf w e n o y → IsWaitingWith m o → message_of y ≡ Some message → message.carried ≡ enclosed_of o
waits-carried w e n m (kernel_outward.Waiting r bytes xs) (outward.Waiting l) message is waits has = ap (λ (z : Message). z.carried) (some l message has) ∙ ap (λ (z : Message). z.carried) is.1
  where
    some : (a c : Message) → Some a ≡ Some c → c ≡ a
    some a c same = cc
waits-carried w e n m (kernel_outward.Waiting r bytes xs) _ message is waits has = absurd is
waits-carried w e n m _ y message is waits has = absurd waits

-- a message that waits carries its ends
waiting-carries : (s : State) (f y : EndId) (o : Outward) → (s.ends f).outward ≡ o → list_any (end_eq y) (carried_by (waiting_message o)) ≡ true → IsCarried s f (s.ends f).sent y
waiting-carries s f y (outward.Waiting m) is has =
    record { message = m; there = ap message_of is; number = refl; carries = among-Contains y m.carried (among-same y m.carried ∙ has) }
waiting-carries s f y outward.Idle is has = absurd (true≢false (sym has))
waiting-carries s f y (outward.Matched m) is has = absurd (true≢false (sym has))
waiting-carries s f y outward.Taken is has = absurd (true≢false (sym has))
waiting-carries s f y outward.Unreported is has = absurd (true≢false (sym has))

-- ---- the event

-- an event destroys these ends at its kernel, each with what its waiting message encloses
pub record EndsAll (w : Links) (c : Change) (mine : List EndId) : Type 0 where
  pub taken : c.taken ≡ None
  pub entry : (e : EndId) (y : Entry) → c.entry e y ≡ (if list_any (end_eq e) (ended_list (w.entry c.kernel) mine) then ended_of y else y)
  pub packets : c.packets ≡ flat_map (λ x. gone_of c.kernel (w.entry c.kernel x)) (ended_list (w.entry c.kernel) mine)

module _ {i : ℕ} {w : World} {s : State} (is : Invariant i w s) (c : Change) (p : Pid) (mine : List EndId) (at : home_of s p ≡ c.kernel) (running : (s.process p.0).phase ≡ phase.Running)
    (owns : (e : EndId) → list_any (end_eq e) mine ≡ true → IsOwnedHere p ((w.kernel c.kernel).table e)) (different : AreDifferent mine) (all : EndsAll (links_of w) c mine) where
  abbrev l : Links
  l = links_of w

  abbrev k : ℕ
  k = c.kernel

  abbrev t : EndId → Entry
  t = (w.kernel c.kernel).table

  abbrev xs : List EndId
  xs = ended_list t mine

  abbrev ended : EndId → Bool
  ended e = list_any (end_eq e) xs

  same-view : (e : EndId) (j : ℕ) (v x : HereView) → l.entry j e ≡ entry.Here v → t e ≡ entry.Here x → v ≡ x
  same-view e j v x here there =
      let place : j ≡ k = here-kernel (length s.made) l s.ends is.setting.few is.links.named is.links.marked is.stands.links.once e j k v x here there in
      one (sym here ∙ ap (λ z. l.entry z e) place ∙ there)
    where
      one : entry.Here v ≡ entry.Here x → v ≡ x
      one same = cc

  -- ---- the ends of the process

  view-of : (e : EndId) → list_any (end_eq e) mine ≡ true → (v : HereView) × (t e ≡ entry.Here v) × (v.holder ≡ holder.Owner p)
  view-of e has = there-here (t e) (λ v. v.holder ≡ holder.Owner p) (owns e has)

  placed : (e : EndId) → list_any (end_eq e) mine ≡ true → (s.ends e).place ≡ place.Owned p
  placed e has = (is.stands.links.owned e p).1 (subst (λ j. IsOwnedHere p (l.entry j e)) (sym at) (owns e has))

  its-end : (e : EndId) (has : list_any (end_eq e) mine ≡ true) → IsEndOf l e (view-of e has).0 (s.ends e)
  its-end e has = is.stands.links.agree e p (view-of e has).0 (placed e has) (subst (λ j. l.entry j e ≡ entry.Here (view-of e has).0) (sym at) (view-of e has).1)

  its-carried : (e : EndId) (has : list_any (end_eq e) mine ≡ true) → carried_at s.ends e ≡ enclosed_of (view-of e has).0.outward
  its-carried e has = carried-same l e (s.ends e).sent (view-of e has).0.outward (s.ends e).outward (its-end e has).outward

  list-same : xs ≡ destroyed_list s.ends mine
  list-same =
      flat_map-same (λ x. ended_with x (t x)) (destroyed_with s.ends) mine
      (λ e has. let own = sym (among-same e mine) ∙ has in ap (ended_with e) (view-of e own).1 ∙ ap (λ z. z ++ e ∷ []) (sym (its-carried e own)))

  -- what their messages carry is in these messages
  carried-inside : (e y : EndId) → list_any (end_eq e) mine ≡ true → list_any (end_eq y) (carried_at s.ends e) ≡ true → (s.ends y).place ≡ place.InMessage e (s.ends e).sent
  carried-inside e y has inside = is.service.kept.held.carried e y (s.ends e).sent (waiting-carries s e y (s.ends e).outward refl inside)

  are-mine : AreMine p s.ends mine
  are-mine =
      record {
        owned = λ e has. ap (is_owned_by p) (placed e (own e has)) ∙ own-pid;
        made = λ e has. ap is_made (placed e (own e has));
        carried = λ e y has inside. ap is_made (carried-inside e y (own e has) (carries e y inside));
        others = λ e y has inside. ap (is_owned_by p) (carried-inside e y (own e has) (carries e y inside));
      }
    where
      own : (e : EndId) → among e mine ≡ true → list_any (end_eq e) mine ≡ true
      own e has = sym (among-same e mine) ∙ has

      carries : (e y : EndId) → among y (carried_at s.ends e) ≡ true → list_any (end_eq y) (carried_at s.ends e) ≡ true
      carries e y has = sym (among-same y (carried_at s.ends e)) ∙ has

      own-pid : is_owned_by p (place.Owned p) ≡ true
      own-pid = eq-eqb p.0 p.0 refl

  abbrev after : EndId → End
  after = destroys_each p mine s.ends

  after-is : (q : EndId) → after q ≡ as_destroyed (ended q) (list_any (end_eq q) mine) (s.ends q)
  after-is q =
      destroys_each-is p mine s.ends different are-mine q
      ∙ ap (λ z. as_destroyed z (among q mine) (s.ends q)) (among-same q (destroyed_list s.ends mine) ∙ ap (list_any (end_eq q)) (sym list-same))
      ∙ ap (λ z. as_destroyed (ended q) z (s.ends q)) (among-same q mine)

  -- ---- what is destroyed

  -- an end that is destroyed is here, and owned by the process or idle
  pub data IsDestroyedHere (e : EndId) : Type 0 where
    Own : (v : HereView) → list_any (end_eq e) mine ≡ true → t e ≡ entry.Here v → v.holder ≡ holder.Owner p → IsDestroyedHere e
    Held : (v : HereView) → t e ≡ entry.Here v → IsIdle v → IsDestroyedHere e

  destroyed-here : (e : EndId) → ended e ≡ true → IsDestroyedHere e
  destroyed-here e on = by (in-list e (λ x. ended_with x (t x)) mine on)
    where
      by : (x : EndId) × (list_any (end_eq x) mine ≡ true) × (list_any (end_eq e) (ended_with x (t x)) ≡ true) → IsDestroyedHere e
      by one =
          which (either _ _ (sym (list_any-append (end_eq e) (enclosed_of view.0.outward) (one.0 ∷ [])) ∙ subst (λ y. list_any (end_eq e) (ended_with one.0 y) ≡ true) view.1 one.2))
        where
          view : (v : HereView) × (t one.0 ≡ entry.Here v) × (v.holder ≡ holder.Owner p)
          view = view-of one.0 one.1

          itself : (b : Bool) → end_eq e one.0 ≡ b → (b || false) ≡ true → IsDestroyedHere e
          itself true same own = subst IsDestroyedHere (sym (end_eq-same e one.0 same)) (Own view.0 one.1 view.1 view.2)
          itself false apart own = absurd (true≢false (sym own))

          which : (list_any (end_eq e) (enclosed_of view.0.outward) ≡ true) ⊎ (list_any (end_eq e) (one.0 ∷ []) ≡ true) → IsDestroyedHere e
          which (inl inside) =
              let held = IfHere-at (t one.0) view.0 (λ v. AreHeldBy one.0 t (enclosed_of v.outward)) view.1 ((is.setting.sound k).enclosed one.0) in
              let there = there-here (t e) (λ u. IsIdle u × (u.holder ≡ holder.EnclosedIn one.0)) (held-here one.0 e t (enclosed_of view.0.outward) held inside) in
              Held there.0 there.1 there.2.0
          which (inr own) = itself (end_eq e one.0) refl own

  -- the ends of the process are
  mine-ended : (e : EndId) → list_any (end_eq e) mine ≡ true → ended e ≡ true
  mine-ended e has =
      to-list e e (λ x. ended_with x (t x)) mine has
      (ap (λ y. list_any (end_eq e) (ended_with e y)) (view-of e has).1 ∙ list_any-append (end_eq e) (enclosed_of (view-of e has).0.outward) (e ∷ []) ∙ or-true _ _ (true-or _ _ (end_eq-refl e)))

  are-ended : (e : EndId) → ended e ≡ true → IsEnded l c e
  are-ended e on = by (destroyed-here e on)
    where
      here : (v : HereView) → t e ≡ entry.Here v → IsEnded l c e
      here v there =
          record {
            stand = At k;
            fields = v.value;
            had = ap value_of there;
            at = inl refl;
            now = all.entry e (t e) ∙ ap (λ d. if d then ended_of (t e) else t e) on ∙ ap ended_of there;
            stood = ap (λ y. one_if (is_here y) + sum_taken (λ q. values_for e (values_of q)) c.taken) there ∙ ap (λ z. 1 + sum_taken (λ q. values_for e (values_of q)) z) all.taken;
          }

      by : IsDestroyedHere e → IsEnded l c e
      by (Own v has there own) = here v there
      by (Held v there idle) = here v there

  -- what a message encloses that waits is destroyed with its end
  enclosed-ended : (e f : EndId) (n : ℕ) → ended f ≡ true → IsEnclosed l e f n → ended e ≡ true
  enclosed-ended e f n on y = by (destroyed-here f on) (there-here (l.entry y.at f) (λ v. IsWaitingWith n v.outward) y.waiting)
    where
      idle-waits : (o : KernelOutward) → o ≡ kernel_outward.Idle → IsWaitingWith n o → ⊥
      idle-waits o idle waits = subst (IsWaitingWith n) idle waits

      inside : IsCarried s f n e
      inside = subst (IsHeldAt s e) ((is.stands.links.in_message e f n).1 (inl y)) (is.service.kept.held.held e)

      by : IsDestroyedHere f → (v : HereView) × (l.entry y.at f ≡ entry.Here v) × IsWaitingWith n v.outward → ended e ≡ true
      by (Held v there idle) waits = absurd (idle-waits v.outward idle.outward (subst (λ (z : HereView). IsWaitingWith n z.outward) (same-view f y.at waits.0 v waits.1 there) waits.2))
      by (Own v has there own) waits =
          let view = view-of f has in
          let carries : inside.message.carried ≡ enclosed_of view.0.outward
          = waits-carried l f (s.ends f).sent n view.0.outward (s.ends f).outward inside.message (its-end f has).outward (subst (λ (z : HereView). IsWaitingWith n z.outward) (same-view f y.at waits.0 view.0 waits.1 view.1) waits.2) inside.there in
          let among_them : list_any (end_eq e) (enclosed_of view.0.outward) ≡ true = sym (among-same e (enclosed_of view.0.outward)) ∙ Contains-among e (enclosed_of view.0.outward) (subst (λ z. Contains z e) carries inside.carries) in
          to-list e f (λ x. ended_with x (t x)) mine has
          (ap (λ z. list_any (end_eq e) (ended_with f z)) view.1 ∙ list_any-append (end_eq e) (enclosed_of view.0.outward) (f ∷ []) ∙ true-or _ _ among_them)

  -- no receive of them is being withdrawn, since the process runs
  none-withdrawn : (e : EndId) (j : ℕ) → ended e ≡ true → IsHereAnd (l.entry j e) (λ v. is_withdrawing v.inward ≡ true) → ⊥
  none-withdrawn e j on has = by (destroyed-here e on) (there-here (l.entry j e) (λ v. is_withdrawing v.inward ≡ true) has)
    where
      withdraws : (v : HereView) → l.entry j e ≡ entry.Here v → v.holder ≡ holder.Owner p → (x : KernelInward) → v.inward ≡ x → is_withdrawing x ≡ true → ⊥
      withdraws v here own (kernel_inward.Withdrawing n) same yes_it_is =
          let cancels : (s.process p.0).phase ≡ phase.Cancelling e = (is.links.asked e).cancelled j v n p here same own in
          absurd (let both : phase.Running ≡ phase.Cancelling e = sym running ∙ cancels in cc)
      withdraws v here own kernel_inward.Idle same never = true≢false (sym never)
      withdraws v here own (kernel_inward.Posted n) same never = true≢false (sym never)
      withdraws v here own kernel_inward.Unreported same never = true≢false (sym never)

      by : IsDestroyedHere e → (v : HereView) × (l.entry j e ≡ entry.Here v) × (is_withdrawing v.inward ≡ true) → ⊥
      by (Held v there idle) here = true≢false (sym here.2 ∙ ap (λ (z : HereView). is_withdrawing z.inward) (same-view e j here.0 v here.1 there) ∙ ap is_withdrawing idle.inward)
      by (Own v mine_is there own) here = withdraws here.0 here.1 (ap (λ (z : HereView). z.holder) (same-view e j here.0 v here.1 there) ∙ own) here.0.inward refl here.2

  -- ---- packets

  told : AllSent (λ to what. IsToldOf ended what) c.packets
  told = subst (AllSent (λ to what. IsToldOf ended what)) (sym all.packets) (each xs (λ x has. has))
    where
      gones : (m : MovingPicture) → ended m.end ≡ true → (b : Bool) → AllSent (λ to what. IsToldOf ended what) (if b then [] else gone_packets k (record m { dead = false }))
      gones m on true = tt
      gones m on false = (ap ended (opposite-twice m.end) ∙ on, tt)

      one : (x : EndId) (y : Entry) → IsOfEnd x y → ended x ≡ true → AllSent (λ to what. IsToldOf ended what) (gone_of k y)
      one x entry.Nothing own on = tt
      one x (entry.Here v) own on = gones v.value (ap ended own ∙ on) v.value.dead
      one x (entry.Left to hops) own on = tt
      one x (entry.Destroyed m) own on = tt

      each : (ys : List EndId) → ((x : EndId) → list_any (end_eq x) ys ≡ true → ended x ≡ true) → AllSent (λ to what. IsToldOf ended what) (flat_map (λ x. gone_of k (t x)) ys)
      each [] among_them = tt
      each (y ∷ ys) among_them =
          all-append (λ z. IsToldOf ended z.1) (gone_of k (t y)) (flat_map (λ x. gone_of k (t x)) ys) (one y (t y) ((is.setting.sound k).own y) (among_them y (true-or _ _ (end_eq-refl y))))
          (each ys (λ x has. among_them x (or-true _ _ has)))

  -- ---- the ends of the service

  send-after : (e : EndId) → IsSendAfter (s.ends e) (after e) 0
  send-after e = by (list_any (end_eq e) mine) refl
    where
      outward-is : (after e).outward ≡ (if list_any (end_eq e) mine then dropped (s.ends e).outward else (s.ends e).outward)
      outward-is = ap (λ (y : End). y.outward) (after-is e)

      dead : list_any (end_eq e) mine ≡ true → is_living (after e).place ≡ false
      dead has = ap (λ (y : End). is_living y.place) (after-is e) ∙ ap (λ d. is_living (if d then place.Destroyed else (s.ends e).place)) (mine-ended e has)

      drops : list_any (end_eq e) mine ≡ true → (o : Outward) → (s.ends e).outward ≡ o → (after e).outward ≡ dropped o → IsSendAfter (s.ends e) (after e) 0
      drops has (outward.Waiting m) was now = Dropped m was now (dead has) refl
      drops has outward.Idle was now = Kept (now ∙ sym was) refl
      drops has (outward.Matched m) was now = Kept (now ∙ sym was) refl
      drops has outward.Taken was now = Kept (now ∙ sym was) refl
      drops has outward.Unreported was now = Kept (now ∙ sym was) refl

      by : (d : Bool) → list_any (end_eq e) mine ≡ d → IsSendAfter (s.ends e) (after e) 0
      by true has = drops has (s.ends e).outward refl (outward-is ∙ ap (λ d. if d then dropped (s.ends e).outward else (s.ends e).outward) has)
      by false off = Kept (outward-is ∙ ap (λ d. if d then dropped (s.ends e).outward else (s.ends e).outward) off) refl

  -- all of it, where as many processes are in a Cancel
  pub mine-ending : (g : ℕ → Process) → ((q : Pid) (e : EndId) → ((g q.0).phase ≡ phase.Cancelling e) ↔ ((s.process q.0).phase ≡ phase.Cancelling e)) → IsEnding ended l c s after g
  mine-ending g cancelling =
      record {
        are = are-ended;
        others = λ e off. all.entry e (t e) ∙ ap (λ d. if d then ended_of (t e) else t e) off;
        taken = subst (λ z. IfSome z (λ z. IsReturnOf ended z.1.what)) (sym all.taken) tt;
        sent = told;
        place = λ e. ap (λ (y : End). y.place) (after-is e);
        rest = λ e. after-is e ∙ sym (ap (λ (y : End). record (s.ends e) { place = y.place; outward = y.outward }) (after-is e));
        send = λ e. subst (λ z. IsSendAfter (s.ends e) (after e) (sum_taken (λ q. one_if (is_message_of e q)) z)) (sym all.taken) (send-after e);
        cancelling = cancelling;
        enclosed = enclosed-ended;
        calm = none-withdrawn;
      }
