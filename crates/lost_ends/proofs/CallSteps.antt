-- The first step of a call keeps each link so: the end that it destroys is destroyed, and what it sends is coming to the opposite end.
use Rattle.std.proofs.Common.{arith, ◌≡◌, ◌⊎◌, inl, inr, ℕ, ◌≤◌, ◌<◌, nat_eq, if◌then◌else◌, not, Bool, true, false, true≢false, List, [], ◌∷◌, ◌++◌, Some, None, Ok, refl, sym, ap, subst, ◌∙◌, eqb-true}
use Rattle.std.specs.List.{Contains}
use Rattle.charlotte_calls.specs.Names.{opposite}
use Rattle.charlotte_calls.specs.Ranges.{AreBytes}
use Rattle.charlotte_calls.specs.declared.calls.Answer.TheVariants as answer
use Rattle.charlotte_calls.specs.declared.calls.Call.{Call}
use Rattle.charlotte_calls.specs.declared.calls.Call.TheVariants as call
use Rattle.charlotte_calls.specs.declared.calls.Cause.{Cause}
use Rattle.charlotte_calls.specs.declared.calls.Cause.TheVariants as cause
use Rattle.charlotte_calls.specs.declared.calls.ServiceStep.{ServiceStep}
use Rattle.charlotte_calls.specs.declared.calls.ServiceStep.TheVariants as step
use Rattle.charlotte_calls.specs.declared.names.EndId.{EndId}
use Rattle.charlotte_calls.specs.declared.names.Pid.{Pid}
use Rattle.charlotte_calls.specs.declared.names.Way.TheVariants as way
use Rattle.service_change.proofs.Counts.{pid_tells}
use Rattle.service_change.proofs.EndEq.{among, end_eq-refl, end_eq-same, opposite-apart, opposite-opposite, places-among, places-other, puts-at}
use Rattle.service_step.specs.Causes.{is_cause}
use Rattle.service_step.specs.Ends.{carried_by, destroys, dropped, end_eq, is_made, is_owned_by, places, puts, waiting_message}
use Rattle.service_step.specs.State.{State as Service}
use Rattle.service_step.specs.Steps.{IsServiceStep, step_number}
use Rattle.service_step.specs.declared.state.End.{End}
use Rattle.service_step.specs.declared.state.Message.{Message as Sent}
use Rattle.service_step.specs.declared.state.Place.TheVariants as place
use Rattle.service_streams.specs.Streams.{cancels_send, messages, numbered, sent_by}
use Rattle.service_streams.specs.Streams as streams
use Rattle.followed_links.specs.Coming.{coming}
use Rattle.followed_links.specs.Deaths.{IsGone}
use Rattle.followed_links.specs.Moves.{Moves, brings}
use Rattle.followed_links.specs.Moves as moves
use Rattle.followed_links.specs.Told.{own_told}
use Rattle.lynx_packets.specs.Packets.{packet_of}
use Rattle.end_protocol.specs.declared.kept.Kept.{Kept}
use Rattle.end_protocol.specs.declared.messages.Message.{Message}
use Rattle.end_protocol.specs.Deeds.{Deed}
use Rattle.end_protocol.specs.Going.{enclosed, sent}
use Rattle.process_run.specs.Ends.{number_of}
use Rattle.process_run.specs.States.{Holding, Keeps}
use Rattle.followed_links.specs.Asking.{IsCallOf, IsSending}
use Rattle.followed_links.specs.AtEnd.{held_count}
use Rattle.followed_links.specs.Acted.{process}
use Rattle.request_meaning.specs.Links.{enclosing}
use Rattle.followed_links.specs.Sides.{Courses, Free, Held, Lost, Pair, Side, flipped, new_pair, sending}
use Rattle.followed_links.specs.Sides as events
use Rattle.followed_links.specs.Hearing.{told_of, with_owner}
use Rattle.followed_links.specs.Invariant.{AreSpelled, HasReceive, IsInOnePlace, IsOwned, IsOwner, IsSide, IsSideAt, IsStandingIn, Owners, Stands, told_to}
use Rattle.followed_links.specs.Owners.{Asks, IsAskedFor, Owner, Status, Told, destroying, given_of, seen_of, turn_of}
use Rattle.followed_links.specs.Steps.{IsFirst, IsMine}
use Rattle.followed_links.proofs.Callers.{with}
use Rattle.followed_links.proofs.CallSides.{other-goes-on, own-goes-on}
use Rattle.followed_links.proofs.CallSteps.{IsNoSend}
use Rattle.followed_links.proofs.Courses.{Turned}
use Rattle.followed_links.proofs.Custody.{same-owner}
use Rattle.followed_links.proofs.HeardSides.{none-given}
use Rattle.followed_links.proofs.Owning.{Cancels, Destroys, Exits, Makes, Owns, Receives, Refuses, Sends, Waits, own-quiet, own_status, owns-granted, owns-refused, same-pid}
use Rattle.followed_links.proofs.Readable.{reads-back}
use Rattle.followed_links.proofs.Sending.{answered, asking, held-after, held-before, out-sent}
use Rattle.followed_links.proofs.ServiceSteps.{AreFew}
use Rattle.followed_links.proofs.Sides.{Next, keeps, standing-out, unmade-opposite}
use Rattle.followed_links.proofs.Sides as sides
use Rattle.followed_links.proofs.Standing.{unsent-base}
use Rattle.followed_links.proofs.Services.{laws}
use Rattle.lost_ends.proofs.Counting.{owner-alive}
use Rattle.lost_ends.specs.Stopped.{AreFollowedSo, IsDestroying, IsFollowedSo, IsFound, IsHasty, IsSideSo, doomed_of}
use Rattle.lost_ends.proofs.Hasty.{own-destroying}
use Rattle.lost_ends.proofs.Sides.{comes-there, doomed-destroys, found-goes, gone-stays, moved, receives, stopped-goes, turned-so}
use Rattle.lost_ends.proofs.ProcessSteps.{each-so, flip-courses}
use Rattle.lost_ends.proofs.ServiceSteps.{unsent-so}

-- ---- what is sent

-- the call of a Send, with its step
pub record IsSend (made : ServiceStep) (c : Call) (st : Status) : Type 0 where
  pub on : EndId
  pub number : ℕ
  pub bytes : List ℕ
  pub ends : List EndId
  pub made_is : made ≡ step.Send on number bytes ends
  pub call_is : c ≡ call.Send on bytes ends
  pub status_is : st ≡ Told (call.Send on bytes ends) answer.Ok

no-send : (made one : ServiceStep) → made ≡ one → (step_number one ≡ 4 → ⊥) → (x : EndId) → IsNoSend made x
no-send made one is other x e k bytes xs so same = other (ap step_number (sym is ∙ so))

-- it sends nothing, or is a Send
sends-or : (i : ℕ) (made : ServiceStep) (c : Call) (st : Status) → Owns i made c st → ((x : EndId) → IsNoSend made x) ⊎ IsSend made c st
sends-or i made _ _ (Refuses c why so) = inl (no-send made (step.Refuse (process i) c why) so (λ e. omega (arith, e)))
sends-or i made _ _ (Makes a b so) = inl (no-send made (step.Make (process i) a b) so (λ e. omega (arith, e)))
sends-or i made _ _ (Destroys y so) = inl (no-send made (step.Destroy y) so (λ e. omega (arith, e)))
sends-or i made _ _ (Sends e bytes xs n so) = inr (record { on = e; number = n; bytes = bytes; ends = xs; made_is = so; call_is = refl; status_is = refl })
sends-or i made _ _ (Receives y so) = inl (no-send made (step.Receive y) so (λ e. omega (arith, e)))
sends-or i made _ _ (Cancels y so) = inl (no-send made (step.Cancel y way.Inward) so (λ e. omega (arith, e)))
sends-or i made _ _ (Waits so) = inl (no-send made (step.Wait (process i)) so (λ e. omega (arith, e)))
sends-or i made _ _ (Exits so) = inl (no-send made (step.Exit (process i)) so (λ e. omega (arith, e)))

same-send : (f e : EndId) (j k : ℕ) (text bytes : List ℕ) (ys xs : List EndId) → step.Send f j text ys ≡ step.Send e k bytes xs → (f ≡ e) × (ys ≡ xs)
same-send f e j k text bytes ys xs so = (ends f e j k text bytes ys xs so, lists f e j k text bytes ys xs so)
  where
    ends : (f e : EndId) (j k : ℕ) (text bytes : List ℕ) (ys xs : List EndId) → step.Send f j text ys ≡ step.Send e k bytes xs → f ≡ e
    ends f e j k text bytes ys xs so = cc

    lists : (f e : EndId) (j k : ℕ) (text bytes : List ℕ) (ys xs : List EndId) → step.Send f j text ys ≡ step.Send e k bytes xs → ys ≡ xs
    lists f e j k text bytes ys xs so = cc

unsent-by : (made : ServiceStep) (x : EndId) → IsNoSend made x → sent_by x made ≡ []
unsent-by (step.Send f k bytes xs) x none = by (end_eq x f) refl
  where
    by : (b : Bool) → end_eq x f ≡ b → (if b then numbered k (Some (record { bytes = bytes; carried = xs })) else []) ≡ []
    by true same = absurd (none f k bytes xs refl (sym (end_eq-same x f same)))
    by false apart = refl
unsent-by _ x none = refl

-- another end than that of the Send
apart-send : (made : ServiceStep) (c : Call) (st : Status) (a : IsSend made c st) (x : EndId) → (a.on ≡ x → ⊥) → IsNoSend made x
apart-send made c st a x apart f k bytes xs so same = apart (sym (same-send f a.on k a.number bytes a.bytes xs a.ends (sym so ∙ a.made_is)).0 ∙ same)

-- ---- a Destroy

destroyed-there : (t : EndId → End) (e : EndId) → is_made (t e).place ≡ true → (destroys e t e).place ≡ place.Destroyed
unfolding destroys
destroyed-there t e was = by (among e xs) refl
  where
    xs : List EndId
    xs = carried_by (waiting_message (t e).outward)

    u : EndId → End
    u = puts e (record (t e) { place = place.Destroyed; outward = dropped (t e).outward }) t

    its : (u e).place ≡ place.Destroyed
    its = ap (λ (z : End). z.place) (puts-at e (record (t e) { place = place.Destroyed; outward = dropped (t e).outward }) t was)

    by : (b : Bool) → among e xs ≡ b → (places place.Destroyed xs u e).place ≡ place.Destroyed
    by true is_in = ap (λ (z : End). z.place) (places-among place.Destroyed xs u e refl is_in (ap is_made its))
    by false none = ap (λ (z : End). z.place) (places-other place.Destroyed xs u e none) ∙ its

module _ (s : Service) (made : ServiceStep) (t : Service) (one : IsServiceStep s made t) (i : ℕ) (x : EndId) (own : (s.ends x).place ≡ place.Owned (process i)) (lives : IsGone t x → ⊥) where
  not-destroyed : (y : EndId) → made ≡ step.Destroy y → y ≡ x → ⊥
  not-destroyed y so same =
      let its : IsServiceStep s (step.Destroy x) t = subst (λ (m : ServiceStep). IsServiceStep s m t) (so ∙ ap step.Destroy same) one in
      lives (ap (λ (u : Service). (u.ends x).place) its.after ∙ destroyed-there s.ends x (ap is_made own))

  -- a Destroy of an end of its own is not refused
  not-refused : (y : EndId) (why : Cause) → made ≡ step.Refuse (process i) (call.Destroy y) why → y ≡ x → ⊥
  not-refused y why so same =
      let its : IsServiceStep s (step.Refuse (process i) (call.Destroy x) why) t = subst (λ (m : ServiceStep). IsServiceStep s m t) (so ∙ ap (λ (z : EndId). step.Refuse (process i) (call.Destroy z) why) same) one in
      let owned : is_owned_by (process i) (s.ends x).place ≡ true = ap (is_owned_by (process i)) own ∙ same-pid i in
      let no : false ≡ true = sym (ap (λ (b : Bool). is_cause why (if not b then Some cause.NoEnd else None)) owned) ∙ its.allowed.1 in
      cc

  -- the call is not on this end
  not-this : (c : Call) (st : Status) → Owns i made c st → destroying x (Asks c) ≡ 0
  not-this _ _ (Refuses call.Make why so) = refl
  not-this _ _ (Refuses (call.Destroy y) why so) = by (end_eq y x) refl
    where
      by : (b : Bool) → end_eq y x ≡ b → ◌≡◌ {A = ℕ} (if b then 1 else 0) 0
      by true same = absurd (not-refused y why so (end_eq-same y x same))
      by false apart = refl
  not-this _ _ (Refuses (call.Send on bytes xs) why so) = refl
  not-this _ _ (Refuses (call.Receive on) why so) = refl
  not-this _ _ (Refuses (call.Cancel on w) why so) = refl
  not-this _ _ (Refuses call.Wait why so) = refl
  not-this _ _ (Refuses (call.Print bytes) why so) = refl
  not-this _ _ (Refuses call.Exit why so) = refl
  not-this _ _ (Destroys y so) = by (end_eq y x) refl
    where
      by : (b : Bool) → end_eq y x ≡ b → ◌≡◌ {A = ℕ} (if b then 1 else 0) 0
      by true same = absurd (not-destroyed y so (end_eq-same y x same))
      by false apart = refl
  not-this _ _ (Makes a b so) = refl
  not-this _ _ (Sends e bytes xs n so) = refl
  not-this _ _ (Receives y so) = refl
  not-this _ _ (Cancels y so) = refl
  not-this _ _ (Waits so) = refl
  not-this _ _ (Exits so) = refl

-- a Send leaves the receive of its end as it is
sent-receive : (o q : Owner) (n : ℕ) (k : Kept) → given_of o.status ≡ None → HasReceive (turn_of o) n (Keeps k) → HasReceive (turn_of q) n (Keeps (sent k))
unfolding sent
sent-receive o q n k none (inl busy) = inl busy
sent-receive o q n k none (inr told) = absurd (none-given o.state.asked answer.Ok (given_of o.status) none told.1)

-- a link seen from its other end
flips-so : (version : ℕ) (t : Service) (os : Owners) (deeds : EndId → List Deed) (x : EndId) → IsFollowedSo version t os deeds x → IsFollowedSo version t os deeds (opposite x)
flips-so version t os deeds x f = record {
  pair = flipped f.pair;
  course = flip-courses version new_pair f.pair f.course;
  near = f.far;
  far = subst (λ (y : EndId). IsSideSo version t os y f.pair.near) (sym (opposite-opposite x)) f.near;
  near_deeds = f.far_deeds;
  far_deeds = f.near_deeds ∙ ap deeds (sym (opposite-opposite x));
}

-- ---- the step

module _ (version count : ℕ) (s : Service) (made : ServiceStep) (t : Service) (one : IsServiceStep s made t) (n m : ℕ) (os : Owners) (deeds : EndId → List Deed) (before : Stands version count s n os deeds)
    (few : AreFew count m os) (so : AreFollowedSo version s os deeds) (i : ℕ) (below : i < count) (c : Call) (asks : (os i).status ≡ Asks c) (st : Status) (owns : Owns i made c st)
    (call_mine : IsMine s i c) (destroying_so : IsDestroying (Asks c) → IsDestroying st) (after : Stands version count t m (with_owner i (record (os i) { status = st }) os) deeds) where
  abbrev now : Owner
  now = record (os i) { status = st }

  abbrev qs : Owners
  qs = with_owner i now os

  quiet : (e : EndId) → cancels_send e made ≡ false
  quiet = (own-quiet i made c st owns).keeps

  ours : IsOwner version s n i (os i)
  ours = before.owners.each i below

  owner-eq : (p : Pid) → nat_eq i p.0 ≡ true → p ≡ process i
  owner-eq p e = ap (λ (j : ℕ). process j) (sym (eqb-true i p.0 e))

  next : (x : EndId) → IsNoSend made x → (j : ℕ) → j < count → Next s made j (os j) (qs j) x
  next x none j there = by (pid_tells (process i) (process j))
    where
      by : ((nat_eq i j ≡ true) × (process i ≡ process j)) ⊎ ((nat_eq i j ≡ false) × (i ≡ j → ⊥)) → Next s made j (os j) (qs j) x
      by (inl same) =
          subst (λ (b : Bool). Next s made j (os j) (if b then now else os j) x) (sym same.0)
          (subst (λ (p : Pid). Next s made p.0 (os p.0) now x) same.1 (own-goes-on laws version count s made t one n m os deeds before few i below c asks st owns x none))
      by (inr apart) =
          subst (λ (b : Bool). Next s made j (os j) (if b then now else os j) x) (sym apart.0) (other-goes-on laws version count s made t one n m os deeds before few i below c asks st owns j there apart.1 x)

  -- ---- who is to destroy an end

  doomed-still : (x : EndId) (p : Pid) → (s.ends x).place ≡ place.Owned p → (IsGone t x → ⊥) → 1 ≤ doomed_of x (os p.0) → 1 ≤ doomed_of x (qs p.0)
  doomed-still x p own lives some = by (nat_eq i p.0) refl
    where
      by : (b : Bool) → nat_eq i p.0 ≡ b → 1 ≤ doomed_of x (if b then now else os p.0)
      by true e =
          let all : 1 ≤ doomed_of x (os i) = subst (λ (q : Pid). 1 ≤ doomed_of x (os q.0)) (owner-eq p e) some in
          let none : destroying x (os i).status ≡ 0 = ap (destroying x) asks ∙ not-this s made t one i x (own ∙ ap (λ (q : Pid). place.Owned q) (owner-eq p e)) lives c st owns in
          omega (arith, all, none)
      by false e = some

  -- the call of a Send is no Destroy
  send-destroys : (a : IsSend made c st) → IsDestroying (os i).status → ⊥
  send-destroys a destroys = subst (λ (d : Call). IsDestroying (Asks d)) a.call_is (subst IsDestroying asks destroys)

  send-own : (a : IsSend made c st) → (s.ends a.on).place ≡ place.Owned (process i)
  send-own a = subst (IsMine s i) a.call_is call_mine

  silent : (p : Pid) → IsDestroying (os p.0).status → (e : EndId) (l : ℕ) (bytes : List ℕ) (xs : List EndId) → (s.ends e).place ≡ place.Owned p → made ≡ step.Send e l bytes xs → ⊥
  silent p destroys e l bytes xs own made_so = by (sends-or i made c st owns)
    where
      by : ((x : EndId) → IsNoSend made x) ⊎ IsSend made c st → ⊥
      by (inl none) = none e e l bytes xs made_so refl
      by (inr a) =
          let on : a.on ≡ e = (same-send a.on e a.number l a.bytes bytes a.ends xs (sym a.made_is ∙ made_so)).0 in
          let its : p ≡ process i = same-owner p (process i) (sym own ∙ ap (λ (y : EndId). (s.ends y).place) (sym on) ∙ send-own a) in
          send-destroys a (subst (λ (q : Pid). IsDestroying (os q.0).status) its destroys)

  -- ---- an end that goes with a Send

  module _ (a : IsSend made c st) where
    pub sends : IsSending (os i).state a.on a.bytes a.ends
    sends = subst (IsCallOf (os i).state) a.call_is (subst (IsAskedFor (os i).state) asks ours.asked)

    was-asking : os i ≡ asking (os i).state a.on a.bytes a.ends sends ours.single
    was-asking = ap (with (os i).state) asks ∙ ap (λ (d : Call). with (os i).state (Asks d)) a.call_is

    now-answered : now ≡ answered (os i).state a.on a.bytes a.ends sends ours.single
    now-answered = ap (with (os i).state) a.status_is

    qs-is : qs i ≡ now
    qs-is = ap (λ (b : Bool). if b then now else os i) (same-pid i)

    out-some : (x : EndId) → Contains a.ends x → 1 ≤ (seen_of (os i) x).out
    out-some x among_them = subst (λ (o : Owner). 1 ≤ (seen_of o x).out) (sym was-asking) (let less = out-sent (os i).state a.on a.bytes a.ends sends ours.single x among_them in omega (arith, less))

    in-one : (x : EndId) → (s.ends x).place ≡ place.Owned (process i) → IsInOnePlace s (os i) i x
    in-one x own = ours.custody (owner-alive version count s n os before.owners (process i) x own).1 x

    unheard : (x : EndId) → told_to x (given_of (os i).status) ≡ []
    unheard x = ap (λ (z : Status). told_to x (given_of z)) asks

    goes-free : (x : EndId) (z : Side) → (s.ends x).place ≡ place.Owned (process i) → Contains a.ends x → IsOwned version s (os i) i x z → (z.standing ≡ Free) × AreSpelled version z.coming (coming s x)
    goes-free x z own among_them owned = (free, by owned.coming_is)
      where
        none : held_count (seen_of (os i) x).holding ≡ 0
        none = let some = out-some x among_them in let few_there = (in-one x own).one in omega (arith, some, few_there)

        free : z.standing ≡ Free
        free = standing-out (brings s (process i) x) (seen_of (os i) x) (seen_of (os i) x).holding z.standing none (let some = out-some x among_them in omega (arith, some)) owned.standing

        by : AreSpelled version z.coming (told_to x (given_of (os i).status) ++ coming s x) ⊎ (z.standing ≡ Lost) → AreSpelled version z.coming (coming s x)
        by (inl spells) = subst (λ (l : List Sent). AreSpelled version z.coming (l ++ coming s x)) (unheard x) spells
        by (inr lost) = let differ : Free ≡ Lost = sym free ∙ lost in absurd cc

  leaving : (x : EndId) (z : Side) (p : Pid) (e : EndId) (l : ℕ) (bytes : List ℕ) (xs : List EndId) → made ≡ step.Send e l bytes xs → Contains xs x → (s.ends e).place ≡ place.Owned p
      → (s.ends x).place ≡ place.Owned p → IsOwned version s (os p.0) p.0 x z → (z.standing ≡ Free) × AreSpelled version z.coming (coming s x)
  leaving x z p e l bytes xs made_so among_them on was owned = by (sends-or i made c st owns)
    where
      by : ((y : EndId) → IsNoSend made y) ⊎ IsSend made c st → (z.standing ≡ Free) × AreSpelled version z.coming (coming s x)
      by (inl none) = absurd (none e e l bytes xs made_so refl)
      by (inr a) =
          let same = same-send a.on e a.number l a.bytes bytes a.ends xs (sym a.made_is ∙ made_so) in
          let its : p ≡ process i = same-owner p (process i) (sym on ∙ ap (λ (y : EndId). (s.ends y).place) (sym same.0) ∙ send-own a) in
          goes-free a x z (was ∙ ap (λ (q : Pid). place.Owned q) its) (subst (λ (ys : List EndId). Contains ys x) (sym same.1) among_them) (subst (λ (q : Pid). IsOwned version s (os q.0) q.0 x z) its owned)

  -- ---- each side

  -- an end on which nothing is sent
  side : (x : EndId) (z : Side) → IsNoSend made x → (IsGone t x → ⊥) → (IsGone t (opposite x) → ⊥) → (new : List Message) → AreSpelled version new (messages (sent_by (opposite x) made))
      → ((t.ends x).place ≡ place.Unmade → new ≡ []) → IsSideSo version s os x z → IsSideSo version t qs x (record z { coming = z.coming ++ new })
  side x z none lives far_lives new spells unmade (inl (is, found)) =
      inl (found-goes version count s made t one quiet n m os qs deeds before after x lives far_lives new spells z (next x none) unmade (leaving x z) is found)
  side x z none lives far_lives new spells unmade (inr stopped) =
      let destroys = doomed-destroys x (os stopped.owner.0) (so.hasty stopped.owner.0) stopped.doomed in
      inr (stopped-goes version count s made t one quiet n m os qs deeds before after x lives far_lives new spells z stopped destroys (silent stopped.owner destroys)
      (doomed-still x stopped.owner stopped.own lives stopped.doomed))

  quiet-side : (x : EndId) (z : Side) → IsNoSend made x → IsNoSend made (opposite x) → (IsGone t x → ⊥) → (IsGone t (opposite x) → ⊥) → IsSideSo version s os x z → IsSideSo version t qs x z
  quiet-side x z none far_none lives far_lives is =
      unsent-so version t qs x z
      (side x z none lives far_lives [] (subst (λ (l : List streams.Sent). AreSpelled version [] (messages l)) (sym (unsent-by made (opposite x) far_none)) tt) (λ unmade. refl) is)

  -- ---- each link

  module _ (x : EndId) (lives : IsGone t x → ⊥) (far_lives : IsGone t (opposite x) → ⊥) where
    back : IsGone t (opposite (opposite x)) → ⊥
    back gone = lives (subst (λ (y : EndId). IsGone t y) (opposite-opposite x) gone)

    f : IsFollowedSo version s os deeds x
    f =
        let stay = gone-stays version count s made t one quiet n m os qs deeds before after in
        so.links x (λ gone. lives (stay x gone)) (λ gone. far_lives (stay (opposite x) gone))

    quiet-link : IsNoSend made x → IsNoSend made (opposite x) → IsFollowedSo version t qs deeds x
    quiet-link none far_none = record {
      pair = f.pair;
      course = f.course;
      near = quiet-side x f.pair.near none far_none lives far_lives f.near;
      far = quiet-side (opposite x) f.pair.far far_none (subst (IsNoSend made) (sym (opposite-opposite x)) none) far_lives back f.far;
      near_deeds = f.near_deeds;
      far_deeds = f.far_deeds;
    }

    -- of the Send
    module _ (a : IsSend made c st) (on_it : a.on ≡ x) (reads : packet_of version a.bytes ≡ Ok (sends a).message.packet) where
      own-was : (s.ends x).place ≡ place.Owned (process i)
      own-was = subst (λ (y : EndId). (s.ends y).place ≡ place.Owned (process i)) on_it (send-own a)

      abbrev kept : Kept
      kept = (sends a).kept

      holds-before : (seen_of (os i) x).holding ≡ Keeps kept
      holds-before =
          subst (λ (y : EndId). (seen_of (os i) y).holding ≡ Keeps kept) on_it
          (ap (λ (o : Owner). (seen_of o a.on).holding) (was-asking a) ∙ held-before (os i).state a.on a.bytes a.ends (sends a) ours.single)

      holds-now : (seen_of (qs i) x).holding ≡ Keeps (sent kept)
      holds-now =
          subst (λ (y : EndId). (seen_of (qs i) y).holding ≡ Keeps (sent kept)) on_it
          (ap (λ (o : Owner). (seen_of o a.on).holding) (qs-is a ∙ now-answered a) ∙ held-after (os i).state a.on a.bytes a.ends (sends a) ours.single)

      far-none : IsNoSend made (opposite x)
      far-none = apart-send made c st a (opposite x) (λ same. true≢false (sym (end_eq-refl x) ∙ ap (λ (z : EndId). end_eq z x) (sym on_it ∙ same) ∙ opposite-apart x))

      owned-was : IsSide version s os x f.pair.near → IsOwned version s (os i) i x f.pair.near
      owned-was is = subst (IsSideAt version s os x f.pair.near) own-was is

      -- the sender is not to destroy an end
      found-near : IsSideSo version s os x f.pair.near → IsSide version s os x f.pair.near × IsFound f.pair.near
      found-near (inl found) = found
      found-near (inr stopped) =
          let its : stopped.owner ≡ process i = same-owner stopped.owner (process i) (sym stopped.own ∙ own-was) in
          absurd (send-destroys a (subst (λ (q : Pid). IsDestroying (os q.0).status) its (doomed-destroys x (os stopped.owner.0) (so.hasty stopped.owner.0) stopped.doomed)))

      near-is : IsSide version s os x f.pair.near
      near-is = (found-near f.near).0

      held-was : f.pair.near.standing ≡ Held kept
      held-was = subst (λ (g : Holding). IsStandingIn (brings s (process i) x) (seen_of (os i) x) g f.pair.near.standing) holds-before (owned-was near-is).standing

      own-here : (t.ends x).place ≡ place.Owned (process i)
      own-here = by (moved version count s made t one quiet n m os qs deeds before after x)
        where
          by : Moves s made t x → (t.ends x).place ≡ place.Owned (process i)
          by (moves.Stays same brought) = same ∙ own-was
          by (moves.Makes p u v made_so new was to same) = let differ : place.Unmade ≡ place.Owned (process i) = sym was ∙ own-was in absurd cc
          by (moves.Leaves p e l text ys made_so among_them on was to same) =
              let both = same-send a.on e a.number l a.bytes text a.ends ys (sym a.made_is ∙ made_so) in
              let some = out-some a x (subst (λ (zs : List EndId). Contains zs x) (sym both.1) among_them) in
              let few_there = (in-one a x own-was).one in
              let held : held_count (seen_of (os i) x).holding ≡ 1 = ap held_count holds-before in
              absurd (omega (arith, some, few_there, held))
          by (moves.Lands p e l was to more none) = let differ : place.InMessage e l ≡ place.Owned (process i) = sym was ∙ own-was in absurd cc
          by (moves.Ends gone how less) = absurd (lives gone)

      near-turned : Turned version t qs x (record { standing = Held (sent kept); coming = f.pair.near.coming })
      near-turned =
          unsent-base version t qs x (record { standing = Held (sent kept); coming = f.pair.near.coming })
          (keeps version s made t os qs before.owners.consistent one (receives version count s made t one quiet n m os qs deeds before after) x (comes-there version count s made t one quiet n m os qs deeds before after x)
          [] (subst (λ (l : List streams.Sent). AreSpelled version [] (messages l)) (sym (unsent-by made (opposite x) far-none)) tt) f.pair.near
          (process i) own-was own-here (owned-was near-is)
          (sides.Nothing (ap (λ (o : Owner). told_to x (given_of o.status)) (qs-is a ∙ now-answered a) ∙ sym (unheard a x)) ((own-quiet i made c st owns).given i))
          (Held (sent kept))
          (λ lost. let differ : Held kept ≡ Lost = sym held-was ∙ lost in absurd cc)
          (λ has. subst (λ (g : Holding). HasReceive (turn_of (qs i)) (number_of x (qs i).state.places) g) (sym holds-now)
          (subst (λ (o : Owner). HasReceive (turn_of o) (number_of x o.state.places) (Keeps (sent kept))) (sym (qs-is a))
          (sent-receive (os i) now (number_of x (os i).state.places) kept (ap given_of asks)
          (subst (λ (g : Holding). HasReceive (turn_of (os i)) (number_of x (os i).state.places) g) holds-before has))))
          (λ also. let differ : step_number (step.Send a.on a.number a.bytes a.ends) ≡ 5 = ap step_number (sym a.made_is ∙ also) in absurd (omega (arith, differ)))
          (subst (λ (g : Holding). IsStandingIn (brings t (process i) x) (seen_of (qs i) x) g (Held (sent kept))) (sym holds-now) refl))

      near-now : IsSideSo version t qs x (record { standing = Held (sent kept); coming = f.pair.near.coming })
      near-now =
          inl (turned-so version count s made t one quiet n m os qs deeds before after x (record { standing = Held (sent kept); coming = f.pair.near.coming }) near-turned
          (λ lost. let differ : Held (sent kept) ≡ Lost = lost in cc) lives far_lives)

      abbrev message : Message
      message = enclosing version (sends a).message

      sent-there : messages (sent_by (opposite (opposite x)) made) ≡ record { bytes = a.bytes; carried = a.ends } ∷ []
      sent-there =
          ap (λ (y : EndId). messages (sent_by y made)) (opposite-opposite x ∙ sym on_it) ∙ ap (λ (z : ServiceStep). messages (sent_by a.on z)) a.made_is
          ∙ ap (λ (b : Bool). messages (if b then numbered a.number (Some (record { bytes = a.bytes; carried = a.ends })) else [])) (end_eq-refl a.on)

      spelled-there : AreSpelled version (message ∷ []) (messages (sent_by (opposite (opposite x)) made))
      spelled-there =
          subst (AreSpelled version (message ∷ [])) (sym sent-there)
          (record { packet = reads; ends = ap (λ (v : ℕ). enclosed v (sends a).message) (sym ours.version_is) ∙ sym (sends a).encloses }, tt)

      made-far : (t.ends (opposite x)).place ≡ place.Unmade → (message ∷ []) ≡ []
      made-far unmade =
          let at : (t.ends x).place ≡ place.Unmade = subst (λ (y : EndId). (t.ends y).place ≡ place.Unmade) (opposite-opposite x) (unmade-opposite t (opposite x) after.owners.consistent unmade) in
          let differ : place.Unmade ≡ place.Owned (process i) = sym at ∙ own-here in
          absurd cc

      send-link : IsFollowedSo version t qs deeds x
      send-link = record {
        pair = sending version (sends a).message kept f.pair;
        course =
            events.Goes new_pair f.pair (sending version (sends a).message kept f.pair) f.course (events.Sends (sends a).message (sends a).rest kept f.pair held-was (sends a).first);
        near = near-now;
        far = side (opposite x) f.pair.far far-none far_lives back (message ∷ []) spelled-there made-far f.far;
        near_deeds = f.near_deeds;
        far_deeds = f.far_deeds;
      }

  module _ (reads : (a : IsSend made c st) → packet_of version a.bytes ≡ Ok (sends a).message.packet) where
    link : (x : EndId) → (IsGone t x → ⊥) → (IsGone t (opposite x) → ⊥) → IsFollowedSo version t qs deeds x
    link x lives far_lives = by (sends-or i made c st owns)
      where
        by-end : (a : IsSend made c st) (b d : Bool) → end_eq a.on x ≡ b → end_eq a.on (opposite x) ≡ d → IsFollowedSo version t qs deeds x
        by-end a true d same far = send-link x lives far_lives a (end_eq-same a.on x same) (reads a)
        by-end a false true apart same =
            subst (IsFollowedSo version t qs deeds) (opposite-opposite x)
            (flips-so version t qs deeds (opposite x) (send-link (opposite x) far_lives (back x lives far_lives) a (end_eq-same a.on (opposite x) same) (reads a)))
        by-end a false false apart far =
            quiet-link x lives far_lives
            (apart-send made c st a x (λ same. true≢false (sym (end_eq-refl a.on) ∙ ap (end_eq a.on) same ∙ apart)))
            (apart-send made c st a (opposite x) (λ same. true≢false (sym (end_eq-refl a.on) ∙ ap (end_eq a.on) same ∙ far)))

        by : ((y : EndId) → IsNoSend made y) ⊎ IsSend made c st → IsFollowedSo version t qs deeds x
        by (inl none) = quiet-link x lives far_lives (none x) (none (opposite x))
        by (inr a) = by-end a (end_eq a.on x) (end_eq a.on (opposite x)) refl refl

    pub call-so : AreFollowedSo version t qs deeds
    call-so = record {
      hasty = each-so i now os IsHasty (by (so.hasty i)) so.hasty;
      links = link;
    }
      where
        by : IsHasty (os i) → IsHasty now
        by (inl none) = inl none
        by (inr destroys) = inr (destroying_so (subst IsDestroying asks destroys))

-- The first step of a call, refused or granted, where the bytes of a Send are bytes
module _ (version count : ℕ) (s : Service) (made : ServiceStep) (t : Service) (one : IsServiceStep s made t) (n m : ℕ) (os : Owners) (deeds : EndId → List Deed) (before : Stands version count s n os deeds)
    (few : AreFew count m os) (so : AreFollowedSo version s os deeds) (i : ℕ) (below : i < count) (c : Call) (asks : (os i).status ≡ Asks c) (call_mine : IsMine s i c)
    (bytes-are : (e : EndId) (bytes : List ℕ) (xs : List EndId) → c ≡ call.Send e bytes xs → AreBytes bytes)
    (after : Stands version count t m (with_owner i (record (os i) { status = told_of c (own_told (process i) c (made ∷ [])) }) os) deeds) where
  call-is : IsCallOf (os i).state c
  call-is = subst (IsAskedFor (os i).state) asks (before.owners.each i below).asked

  by-owns : Owns i made c (own_status i c made) → AreFollowedSo version t (with_owner i (record (os i) { status = told_of c (own_told (process i) c (made ∷ [])) }) os) deeds
  by-owns owns =
      call-so version count s made t one n m os deeds before few so i below c asks (own_status i c made) owns call_mine (own-destroying c (own_told (process i) c (made ∷ []))) after
      (λ a.
      subst (λ (v : ℕ). packet_of v a.bytes ≡ Ok (sends version count s made t one n m os deeds before few so i below c asks (own_status i c made) owns call_mine (own-destroying c (own_told (process i) c (made ∷ []))) after a).message.packet)
      (before.owners.each i below).version_is
      (reads-back (os i).state a.on a.bytes a.ends (sends version count s made t one n m os deeds before few so i below c asks (own_status i c made) owns call_mine (own-destroying c (own_told (process i) c (made ∷ []))) after a)
      (before.owners.each i below).running (bytes-are a.on a.bytes a.ends a.call_is)))

  pub first-so : IsFirst i c made → AreFollowedSo version t (with_owner i (record (os i) { status = told_of c (own_told (process i) c (made ∷ [])) }) os) deeds
  first-so (inl (why, refused)) = by-owns (owns-refused i made c why refused)
  first-so (inr granted) = by-owns (owns-granted i made (os i).state c call-is granted)
