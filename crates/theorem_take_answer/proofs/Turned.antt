-- An answer meets an owned end whose send or receive is over by it: all clauses on links afterwards, and the kernel's table.
use Rattle.std.proofs.Common.{◌≡◌, ◌≢◌, ◌⊎◌, inl, inr, ℕ, ◌+◌, ◌<◌, ◌≤◌, Bool, true, false, nat_eq, if◌then◌else◌, List, ◌∷◌, length, Some, refl, sym, ap, subst, ◌∙◌, arith, true≢false, eq-eqb}
use Rattle.std.proofs.lemmas.Bool.Decides.{eqb_tells}
use Rattle.std.proofs.lemmas.List.Elements.{All-contains, Contains-append_right}
use Rattle.charlotte_calls.specs.Names.{opposite}
use Rattle.charlotte_packets.specs.Packets.{is_addressed}
use Rattle.charlotte_calls.specs.declared.calls.Answer.{Answer}
use Rattle.charlotte_calls.specs.declared.calls.Report.{Report}
use Rattle.charlotte_calls.specs.declared.names.EndId.{EndId}
use Rattle.charlotte_calls.specs.declared.names.Pid.{Pid}
use Rattle.charlotte_packets.specs.declared.picture.MovingPicture.{MovingPicture}
use Rattle.charlotte_packets.specs.declared.picture.Picture.{Picture}
use Rattle.charlotte_packets.specs.declared.picture.PictureWhat.{PictureWhat}
use Rattle.charlotte_packets.specs.declared.picture.PictureWhat.TheVariants as packet
use Rattle.end_table.proofs.EndEq.{end_eq-refl, end_eq-same, end_eq-sym}
use Rattle.end_table.specs.Place.{end_eq}
use Rattle.end_table.specs.Table.{IsHereAnd, IsOfEnd}
use Rattle.end_table.specs.declared.entry.Entry.{Entry}
use Rattle.end_table.specs.declared.entry.Entry.TheVariants as entry
use Rattle.end_table.specs.declared.entry.HereView.{HereView}
use Rattle.end_table.specs.declared.entry.Inward.{Inward as KernelInward}
use Rattle.end_table.specs.declared.entry.Inward.TheVariants as kernel_inward
use Rattle.end_table.specs.declared.entry.Outward.{Outward as KernelOutward}
use Rattle.theorem_take_silent.specs.Effect.{Effect}
use Rattle.theorem_take_silent.specs.Rows.{view_news}
use Rattle.kernel_step.specs.Actions.{here, is_withdrawing, learned_view}
use Rattle.theorem_meaning.specs.World.{World, Takes, happens}
use Rattle.service_step.specs.Ends.{is_living, is_made, is_posted, is_taken, matched_message}
use Rattle.service_step.specs.State.{State, Process}
use Rattle.service_step.specs.declared.state.End.{End}
use Rattle.service_step.specs.declared.state.Inward.{Inward}
use Rattle.service_step.specs.declared.state.Message.{Message}
use Rattle.service_step.specs.declared.state.Outward.{Outward}
use Rattle.service_step.specs.declared.state.Outward.TheVariants as outward
use Rattle.service_step.specs.declared.state.Phase.TheVariants as phase
use Rattle.service_step.specs.declared.state.Place.TheVariants as place
use Rattle.theorem_take_silent.proofs.Allowed.{between, sum_over-least}
use Rattle.theorem_take_silent.proofs.Packets.{left-before}
use Rattle.theorem_take_silent.proofs.Ends.{inward-same, outward-same}
use Rattle.theorem_take_silent.specs.Change.{Change, Changes, Happens, taken_at}
use Rattle.theorem_take_silent.specs.Events.{taking}
use Rattle.theorem_take_silent.specs.Sums.{AllSent}
use Rattle.theorem_take_silent.specs.Under.{IsLeft, IsTaken}
use Rattle.theorem_meaning.specs.Fields.{IsAskedAs, IsNews}
use Rattle.theorem_meaning.specs.Invariant.{AreRight, Invariant, is_taken_of}
use Rattle.theorem_meaning.specs.Packets.{IsParcelFor, IsTakenOf, IsUnderWay, IsUnwantedOf, Links, how_many, links_of, one_if}
use Rattle.theorem_meaning.specs.StandsFor.{AreLinksOf, IsEndOf, IsInwardOf, IsOutwardOf, home_of}
use Rattle.theorem_take_silent.proofs.Alike.{some-same}
use Rattle.theorem_take_silent.proofs.Clauses.{links-still}
use Rattle.theorem_take_silent.proofs.Hearing.{IsHearing, hears, learns-so}
use Rattle.theorem_take_silent.proofs.Learning.{learning-right}
use Rattle.theorem_take_silent.proofs.Places.{here-kernel}
use Rattle.theorem_take_silent.proofs.Rows.{IsTable}
use Rattle.theorem_take_silent.specs.Learning.{IsLearning, IsLive}
use Rattle.theorem_take_silent.specs.Quiet.{IsQuiet, IsSentWell}
use Rattle.theorem_take_silent.specs.Silent.{IsStill}
use Rattle.theorem_meaning.proofs.Plain.{there-here}
use Rattle.theorem_take_answer.specs.Swapped.{IsAnswer, IsAnswered, IsSettled, IsViewSettled, Same, Turned, instead, news, swapped}
use Rattle.theorem_take_answer.proofs.Dropped.{answer-parcel_for, taken-counts}
use Rattle.theorem_take_answer.proofs.Meets.{IsOwnedAt, stands-first}
use Rattle.theorem_take_answer.proofs.Settled.{answer-addressed, settled-links, settled-right}
use Rattle.theorem_take_answer.proofs.Swap.{swapped-after, swapped-changes, swapped-still, swapped-sum, swapped-was}

-- a view whose activities come so far
abbrev pub turned_view : HereView → KernelOutward → KernelInward → HereView
turned_view v out inn = record v { outward = out; inward = inn }

-- the entries of a kernel, with that of one end so
abbrev pub with_entry : EndId → Entry → (EndId → Entry) → EndId → Entry
with_entry to y table e = if end_eq to e then y else table e

-- the end whose view was v, at its kernel and in the service: its activities come so far, and x are the links then, but for news
pub record IsTurn (s : State) (x : Links) (to : EndId) (v : HereView) (out : KernelOutward) (inn : KernelInward) (xo : Outward) (xi : Inward) (t : EndId → End) (g : ℕ → Process) : Type 0 where
  pub at : t to ≡ record (s.ends to) { outward = xo; inward = xi }
  pub others : (e : EndId) → end_eq to e ≡ false → t e ≡ s.ends e
  pub like : IsViewSettled v (turned_view v out inn)
  pub posted : is_posted xi ≡ is_posted (s.ends to).inward
  pub message : matched_message xo ≡ matched_message (s.ends to).outward
  pub matched : (m : Message) → (s.ends to).outward ≡ outward.Matched m → xo ≡ outward.Matched m
  pub takens : (n : ℕ) → IsUnderWay x (IsTakenOf to n) → (s.ends to).outward ≡ outward.Taken → xo ≡ outward.Taken
  pub voids : (n : ℕ) → IsUnderWay x (IsUnwantedOf to n) → v.inward ≡ kernel_inward.Withdrawing n → inn ≡ kernel_inward.Withdrawing n
  pub meets : (r n : ℕ) → IsUnderWay x (IsParcelFor to r n) → IsAskedAs r v.inward → IsAskedAs r inn
  pub withdrawing : is_posted (s.ends to).inward ≡ true → is_withdrawing v.inward ≡ true → is_withdrawing inn ≡ true
  pub cancelled : (p : Pid) (e : EndId) → (s.process p.0).phase ≡ phase.Cancelling e → ((g p.0).phase ≡ phase.Cancelling e) ⊎ ((e ≡ to) × (inn ≡ kernel_inward.Idle))
  pub cancelling : (p : Pid) (e : EndId) → (g p.0).phase ≡ phase.Cancelling e → ((s.process p.0).phase ≡ phase.Cancelling e) × (e ≡ to → is_withdrawing inn ≡ true)
  pub taken : how_many (is_taken_of to) x ≡ one_if (is_taken xo)
  pub outward : IsOutwardOf x to (s.ends to).sent out xo
  pub inward : IsInwardOf x to inn xi

answer-apart : (t : EndId) (j h : ℕ) (e : EndId) (q : PictureWhat) → end_eq t e ≡ false → IsAnswer t j h q → is_taken_of e q ≡ false
answer-apart t j h e (packet.Taken to n at hops) apart is = end_eq-sym e to ∙ subst (λ z. end_eq z e ≡ false) (sym is.0) apart
answer-apart t j h e (packet.Unwanted to n at hops) apart is = refl
answer-apart t j h e _ apart is = absurd is

answer-unwanted : (t : EndId) (j h : ℕ) (e : EndId) (r : ℕ) (q : PictureWhat) → end_eq t e ≡ false → IsAnswer t j h q → IsUnwantedOf e r q → ⊥
answer-unwanted t j h e r (packet.Taken to n at hops) apart is says = says
answer-unwanted t j h e r (packet.Unwanted to n at hops) apart is says = true≢false (sym (end_eq-refl t) ∙ subst (λ z. end_eq t z ≡ false) (sym says.0 ∙ is.0) apart)
answer-unwanted t j h e r _ apart is says = absurd is

module _ (i : ℕ) (w : World) (s : State) (is : Invariant i w s) (k from : ℕ) (q : Picture) (others : List Picture) (there : w.packets from k ≡ q ∷ others) (to : EndId) (at hops : ℕ) (answer : IsAnswer to at hops q.what)
    (o : IsOwnedAt w s k to) (out : KernelOutward) (inn : KernelInward) (f : Effect) (given : List Answer) (rs : List Report) (happened : Happens w (Takes k from) (taking w k from q f o.p given rs)) where
  abbrev change : Change
  change = taking w k from q f o.p given rs

  abbrev after : World
  after = happens w (Takes k from)

  abbrev u : HereView
  u = turned_view o.view out inn

  abbrev y : EndId → Entry
  y = with_entry to (entry.Here u) (w.kernel k).table

  abbrev b : Changes (links_of w) change (links_of after)
  b = happened.becomes.links

  -- the links with its news alone, and the end as it is afterwards
  abbrev pub middle : Links
  middle = swapped b from (news to at hops q) y

  near : (from < length s.made) × (k < length s.made)
  near = between is from k q (stands-first is k from q others there)

  pub low : k < 8
  low = let one = near.1 in let few = is.setting.few in omega (arith, one, few)

  pub low_from : from < 8
  low_from = let one = near.0 in let few = is.setting.few in omega (arith, one, few)

  pub middle-was : (P : PictureWhat → Type 0) → (P (packet.Moved to at hops) → ⊥) → IsUnderWay middle P → IsUnderWay (links_of w) P
  middle-was P none = swapped-was b from q (news to at hops q) refl y P none

  pub middle-still : (P : PictureWhat → Type 0) → (P q.what → ⊥) → IsUnderWay (links_of w) P → IsUnderWay middle P
  middle-still P none = swapped-still b from q (news to at hops q) refl y P none

  pub middle-number : (test : PictureWhat → Bool) → test (packet.Moved to at hops) ≡ false → how_many test middle + one_if (test q.what) ≡ how_many test (links_of w)
  middle-number test none =
      let both = swapped-sum b from q (news to at hops q) refl y (λ z. one_if (test z)) low low_from in
      let zero_is : one_if (test (packet.Moved to at hops)) ≡ 0 = ap one_if none in
      omega (arith, both, zero_is)

  pub middle-fewer : (e : EndId) → how_many (is_taken_of e) middle + one_if (is_taken_of e q.what) ≡ how_many (is_taken_of e) (links_of w)
  middle-fewer e = let both = swapped-sum b from q (news to at hops q) refl y (λ z. one_if (is_taken_of e z)) low low_from in omega (arith, both)

  -- one that passes a test counts
  pub middle-counts : (P : PictureWhat → Type 0) (test : PictureWhat → Bool) → (P (packet.Moved to at hops) → ⊥) → ((z : PictureWhat) → P z → test z ≡ true) → IsUnderWay middle P → 1 ≤ how_many test middle
  middle-counts P test none passes under = by (swapped-after b from q (news to at hops q) refl y P under)
    where
      by : IsLeft b P ⊎ P (packet.Moved to at hops) → 1 ≤ how_many test middle
      by (inr new) = absurd (none new)
      by (inl left) =
          let bounds = between is left.from left.to left.packet (left-before b left.from left.to left.packet left.there) in
          let first_low = bounds.0 in
          let second_low = bounds.1 in
          let few = is.setting.few in
          let least = sum_over-least (λ z. one_if (test z)) middle left.from left.to left.packet (omega (arith, first_low, few)) (omega (arith, second_low, few))
          (Contains-append_right (taken_at (instead change from (news to at hops q)) left.from left.to) (b.left left.from left.to) left.packet left.there) in
          let one : one_if (test left.packet.what) ≡ 1 = ap one_if (passes left.packet.what left.is) in
          omega (arith, least, one)

  -- ---- entries

  middle-own : (e : EndId) → middle.entry k e ≡ y e
  middle-own e = ap (λ a. if a then y e else (w.kernel k).table e) (eq-eqb k k refl)

  y-end : y to ≡ entry.Here u
  y-end = ap (λ a. if a then entry.Here u else (w.kernel k).table to) (end_eq-refl to)

  middle-here : middle.entry k to ≡ entry.Here u
  middle-here = middle-own to ∙ y-end

  middle-apart : (j : ℕ) (e : EndId) → end_eq to e ≡ false → middle.entry j e ≡ (w.kernel j).table e
  middle-apart j e apart = by (eqb_tells j k)
    where
      by : ((nat_eq j k ≡ true) × (j ≡ k)) ⊎ ((nat_eq j k ≡ false) × (j ≢ k)) → (if nat_eq j k then y e else (w.kernel j).table e) ≡ (w.kernel j).table e
      by (inl own) =
          ap (λ a. if a then y e else (w.kernel j).table e) own.0 ∙ ap (λ a. if a then entry.Here u else (w.kernel k).table e) apart ∙ sym (ap (λ z. (w.kernel z).table e) own.1)
      by (inr other) = ap (λ a. if a then y e else (w.kernel j).table e) other.0

  -- it is here at this kernel alone
  pub only-here : (j : ℕ) (v : HereView) → (w.kernel j).table to ≡ entry.Here v → (j ≡ k) × (v ≡ o.view)
  only-here j v has =
      let same = here-kernel (length s.made) (links_of w) s.ends is.setting.few is.links.named is.links.marked is.stands.links.once to j k v o.view has o.here in
      (same, some-same v o.view (ap here (sym has ∙ ap (λ z. (w.kernel z).table to) same ∙ o.here)))

  module _ (xo : Outward) (xi : Inward) (t : EndId → End) (g : ℕ → Process) (turn : IsTurn s middle to o.view out inn xo xi t g) where
    middle-settled : (j : ℕ) (e : EndId) → IsSettled ((w.kernel j).table e) (middle.entry j e)
    middle-settled j e = by (end_eq to e) refl
      where
        own : (to ≡ e) → IsSettled ((w.kernel j).table e) (middle.entry j e)
        own end = at_kernel (eqb_tells j k)
          where
            at_kernel : ((nat_eq j k ≡ true) × (j ≡ k)) ⊎ ((nat_eq j k ≡ false) × (j ≢ k)) → IsSettled ((w.kernel j).table e) (middle.entry j e)
            at_kernel (inl same) = subst (λ z. IsSettled ((w.kernel z).table e) (middle.entry z e)) (sym same.1) (subst (λ z. IsSettled ((w.kernel k).table z) (middle.entry k z)) end (Turned o.view u o.here middle-here turn.like))
            at_kernel (inr other) = Same (ap (λ a. if a then y e else (w.kernel j).table e) other.0)

        by : (a : Bool) → end_eq to e ≡ a → IsSettled ((w.kernel j).table e) (middle.entry j e)
        by true same = own (end_eq-same to e same)
        by false apart = Same (middle-apart j e apart)

    -- what is true of the end here, and of each other
    still-here : (j : ℕ) (e : EndId) (P : HereView → Type 0) → (e ≡ to → P o.view → P u) → IsHereAnd ((w.kernel j).table e) P → IsHereAnd (middle.entry j e) P
    still-here j e P gives has = by (end_eq to e) refl
      where
        own : (to ≡ e) → IsHereAnd (middle.entry j e) P
        own end =
            let x = there-here ((w.kernel j).table e) P has in
            let only = only-here j x.0 (subst (λ z. (w.kernel j).table z ≡ entry.Here x.0) (sym end) x.1) in
            subst (λ z. IsHereAnd (middle.entry j z) P) end (subst (λ z. IsHereAnd (middle.entry z to) P) (sym only.0) (subst (λ z. IsHereAnd z P) (sym middle-here) (gives (sym end) (subst P only.1 x.2))))

        by : (a : Bool) → end_eq to e ≡ a → IsHereAnd (middle.entry j e) P
        by true same = own (end_eq-same to e same)
        by false apart = subst (λ z. IsHereAnd z P) (sym (middle-apart j e apart)) has

    -- what is true of the end in the service, and of each other
    each-end : (P : EndId → End → Type 0) → P to (record (s.ends to) { outward = xo; inward = xi }) → ((e : EndId) → end_eq to e ≡ false → P e (s.ends e)) → (e : EndId) → P e (t e)
    each-end P own apart e = by (end_eq to e) refl
      where
        by : (a : Bool) → end_eq to e ≡ a → P e (t e)
        by true same = subst (λ z. P z (t z)) (end_eq-same to e same) (subst (P to) (sym turn.at) own)
        by false other = subst (P e) (sym (turn.others e other)) (apart e other)

    end-apart : (e : EndId) (v : HereView) → end_eq to e ≡ false → IsEndOf (links_of w) e v (s.ends e) → IsEndOf middle e v (s.ends e)
    end-apart e v apart agrees =
        record {
          sent = agrees.sent;
          noticed = agrees.noticed;
          outward = outward-same (links_of w) middle e (λ m. (middle-was (IsTakenOf e m) (λ a. a), middle-still (IsTakenOf e m) (taken-counts e m q.what (answer-apart to at hops e q.what apart answer)))) (s.ends e).sent v.outward (s.ends e).outward agrees.outward;
          inward =
              inward-same (links_of w) middle e (λ r n. (middle-was (IsParcelFor e r n) (λ a. a), middle-still (IsParcelFor e r n) (answer-parcel_for to at hops e r n q.what answer)))
              (λ r. (middle-was (IsUnwantedOf e r) (λ a. a), middle-still (IsUnwantedOf e r) (answer-unwanted to at hops e r q.what apart answer))) v.inward (s.ends e).inward agrees.inward;
        }

    fewer-apart : (e : EndId) → end_eq to e ≡ false → how_many (is_taken_of e) middle ≡ how_many (is_taken_of e) (links_of w)
    fewer-apart e apart = let both = middle-fewer e in let none : one_if (is_taken_of e q.what) ≡ 0 = ap one_if (answer-apart to at hops e q.what apart answer) in omega (arith, both, none)

    turn-agree : (e : EndId) (p : Pid) (v : HereView) → (t e).place ≡ place.Owned p → middle.entry (home_of s p) e ≡ entry.Here v → IsEndOf middle e v (t e)
    turn-agree =
        each-end (λ e x. (p : Pid) (v : HereView) → x.place ≡ place.Owned p → middle.entry (home_of s p) e ≡ entry.Here v → IsEndOf middle e v x) own
        (λ e apart p v owned has. end-apart e v apart (is.stands.links.agree e p v owned (sym (middle-apart (home_of s p) e apart) ∙ has)))
      where
        here_u : (j : ℕ) (v : HereView) → middle.entry j to ≡ entry.Here v → u ≡ v
        here_u j v has = by (eqb_tells j k)
          where
            by : ((nat_eq j k ≡ true) × (j ≡ k)) ⊎ ((nat_eq j k ≡ false) × (j ≢ k)) → u ≡ v
            by (inl same) = some-same u v (ap here (sym middle-here ∙ ap (λ z. middle.entry z to) (sym same.1) ∙ has))
            by (inr other) = absurd (other.1 (only-here j v (sym (ap (λ a. if a then y to else (w.kernel j).table to) other.0) ∙ has)).0)

        own : (p : Pid) (v : HereView) → (s.ends to).place ≡ place.Owned p → middle.entry (home_of s p) to ≡ entry.Here v → IsEndOf middle to v (record (s.ends to) { outward = xo; inward = xi })
        own p v owned has =
            subst (λ z. IsEndOf middle to z (record (s.ends to) { outward = xo; inward = xi })) (here_u (home_of s p) v has)
            (record { sent = o.agree.sent; noticed = o.agree.noticed; outward = turn.outward; inward = turn.inward })

    turn-answered : IsAnswered (links_of w) middle s t g
    turn-answered =
        record {
          entries = middle-settled;
          places = each-end (λ e x. x.place ≡ (s.ends e).place) refl (λ e apart. refl);
          sent = each-end (λ e x. x.sent ≡ (s.ends e).sent) refl (λ e apart. refl);
          noticed = each-end (λ e x. x.noticed ≡ (s.ends e).noticed) refl (λ e apart. refl);
          posted = each-end (λ e x. is_posted x.inward ≡ is_posted (s.ends e).inward) turn.posted (λ e apart. refl);
          message = each-end (λ e x. matched_message x.outward ≡ matched_message (s.ends e).outward) turn.message (λ e apart. refl);
          matched = each-end (λ e x. (m : Message) → (s.ends e).outward ≡ outward.Matched m → x.outward ≡ outward.Matched m) turn.matched (λ e apart m a. a);
          takens = each-end (λ e x. (n : ℕ) → IsUnderWay middle (IsTakenOf e n) → (s.ends e).outward ≡ outward.Taken → x.outward ≡ outward.Taken) turn.takens (λ e apart n under a. a);
          voids = λ j e n under noticed has. still-here j e (λ v. v.inward ≡ kernel_inward.Withdrawing n) (λ end. turn.voids n (subst (λ z. IsUnderWay middle (IsUnwantedOf z n)) end under)) has;
          meets = λ j e r n under opened has. still-here j e (λ v. IsAskedAs r v.inward) (λ end. turn.meets r n (subst (λ z. IsUnderWay middle (IsParcelFor z r n)) end under)) has;
          withdrawing = λ j e posted has. still-here j e (λ v. is_withdrawing v.inward ≡ true) (λ end. turn.withdrawing (subst (λ z. is_posted (s.ends z).inward ≡ true) end posted)) has;
          cancelled = λ p j e v n has withdrawing cancels. cancelled p j e v n has withdrawing (turn.cancelled p e cancels);
          cancelling = λ p e cancels. let was = turn.cancelling p e cancels in still-here (home_of s p) e (λ v. is_withdrawing v.inward ≡ true) (λ end a. was.1 end) (is.links.cancelling p e was.0);
          taken = each-end (λ e x. how_many (is_taken_of e) middle ≤ one_if (is_taken x.outward)) (let same = turn.taken in omega (arith, same)) (λ e apart. less e apart);
          told = each-end (λ e x. is_living x.place ≡ true → how_many (is_taken_of e) middle ≡ one_if (is_taken x.outward)) (λ lives. turn.taken) (λ e apart lives. fewer-apart e apart ∙ (is.links.once e).told lives);
          agree = turn-agree;
        }
      where
        less : (e : EndId) → end_eq to e ≡ false → how_many (is_taken_of e) middle ≤ one_if (is_taken (s.ends e).outward)
        less e apart = let same = fewer-apart e apart in let most = (is.links.once e).taken in omega (arith, same, most)

        cancelled : (p : Pid) (j : ℕ) (e : EndId) (v : HereView) (n : ℕ) → middle.entry j e ≡ entry.Here v → v.inward ≡ kernel_inward.Withdrawing n
            → ((g p.0).phase ≡ phase.Cancelling e) ⊎ ((e ≡ to) × (inn ≡ kernel_inward.Idle)) → (g p.0).phase ≡ phase.Cancelling e
        cancelled p j e v n has withdrawing (inl still) = still
        cancelled p j e v n has withdrawing (inr over) = absurd (by (eqb_tells j k))
          where
            here_end : middle.entry j to ≡ entry.Here v
            here_end = subst (λ z. middle.entry j z ≡ entry.Here v) over.0 has

            by : ((nat_eq j k ≡ true) × (j ≡ k)) ⊎ ((nat_eq j k ≡ false) × (j ≢ k)) → ⊥
            by (inl same) =
                let view = some-same u v (ap here (sym middle-here ∙ ap (λ z. middle.entry z to) (sym same.1) ∙ here_end)) in
                let both : kernel_inward.Idle ≡ kernel_inward.Withdrawing n = sym over.1 ∙ ap (λ (z : HereView). z.inward) view ∙ withdrawing in
                cc
            by (inr other) = other.1 (only-here j v (sym (ap (λ a. if a then y to else (w.kernel j).table to) other.0) ∙ here_end)).0

    abbrev pub state : State
    state = record s { ends = t; process = g }

    middle-links : AreLinksOf middle state
    middle-links = settled-links b from q refl y to at hops answer s t g turn-answered low low_from is.stands.links

    middle-right : AreRight i middle state
    middle-right = settled-right b from q refl y to at hops answer s t g turn-answered low low_from i is.links

    -- ---- the news

    own-of : (e : EndId) → IsOfEnd e (middle.entry k e)
    own-of e = by (middle-settled k e)
      where
        by : IsSettled ((w.kernel k).table e) (middle.entry k e) → IsOfEnd e (middle.entry k e)
        by (Same same) = subst (IsOfEnd e) (sym same) ((is.setting.sound k).own e)
        by (Turned v x was now settled) =
            subst (IsOfEnd e) (sym now) (ap (λ (z : HereView). z.value.end) settled.view ∙ subst (IsOfEnd e) was ((is.setting.sound k).own e))

    made-same : (e : EndId) → is_made (t e).place ≡ is_made (s.ends e).place
    made-same e = ap (λ z. is_made z) (turn-answered.places e)

    table : IsTable (length s.made) t k (middle.entry k)
    table =
        record {
          below = near.1;
          own = own-of;
          names = middle-right.named.entries k;
          marks = λ e m has. (middle-right.marked e).destroyed k m has;
          both = λ e made. made-same (opposite e) ∙ is.service.kept.made (opposite e) ∙ sym (is.service.kept.made e) ∙ sym (made-same e) ∙ made;
        }

    addressed : is_addressed q.what (length s.made) ≡ true
    addressed = All-contains (λ z. is_addressed z.what (length s.made) ≡ true) (w.packets from k) q (is.links.named.addressed from k) (stands-first is k from q others there)

    made-to : is_made (t to).place ≡ true
    made-to = made-same to ∙ ap (λ z. is_made z) o.owned

    abbrev heard : Effect
    heard = hears u at hops (view_news k at hops u u.inward)

    learns : IsStill (length s.made) t (middle.entry k) heard × IsHearing k (middle.entry k) (packet.Moved to at hops) heard
    learns = learns-so (length s.made) t k (middle.entry k) table (packet.Moved to at hops) to at hops u (refl, refl, refl) (answer-addressed (length s.made) to at hops q.what answer addressed) made-to middle-here

    -- the event gives the end this entry and sends this news
    module _ (entries : (e : EndId) → (after.kernel k).table e ≡ with_entry to (entry.Here (learned_view u at hops)) (w.kernel k).table e) (packets : f.packets ≡ view_news k at hops u u.inward) where
      abbrev later : Change
      later = record change { taken = Some (from, news to at hops q); entry = heard.entry }

      view-end : o.view.value.end ≡ to
      view-end = subst (IsOfEnd to) o.here ((is.setting.sound k).own to)

      heard-entry : (e : EndId) → (after.kernel k).table e ≡ heard.entry e (y e)
      heard-entry e = entries e ∙ subst (λ z. with_entry to (entry.Here (learned_view u at hops)) (w.kernel k).table e ≡ (if end_eq z e then entry.Here (learned_view u at hops) else y e)) (sym view-end) (by (end_eq to e))
        where
          by : (a : Bool) → (if a then entry.Here (learned_view u at hops) else (w.kernel k).table e) ≡ (if a then entry.Here (learned_view u at hops) else (if a then entry.Here u else (w.kernel k).table e))
          by true = refl
          by false = refl

      passes : Changes middle later (links_of after)
      passes = swapped-changes b from q (news to at hops q) refl y heard.entry heard-entry

      quiet : IsQuiet (length s.made) t middle later
      quiet =
          record {
            kernel = near.1;
            entry = learns.0.entry;
            names = learns.0.names;
            taken = refl;
            sent = subst (λ ps. AllSent (IsSentWell (length s.made) t) ps) (sym packets) learns.0.sent;
          }

      learning : IsLearning middle later
      learning =
          record {
            view = learns.1.view;
            here = learns.1.here;
            hints = λ e m l had has. hint e m l (learns.1.hints e m l had has);
            sent = subst (λ ps. AllSent (λ to what. IsLive k learns.1.view what) ps) (sym packets) learns.1.sent;
          }
        where
          hint : (e : EndId) (m l : MovingPicture) → (l.hint ≡ m.hint) ⊎ (IsNews e l.hint.0 l.hint.1 (packet.Moved to at hops) × (m.hint.1 < l.hint.1)) → (l.hint ≡ m.hint) ⊎ (IsTaken later (IsNews e l.hint.0 l.hint.1) × (m.hint.1 < l.hint.1))
          hint e m l (inl same) = inl same
          hint e m l (inr told) = inr (record { from = from; packet = news to at hops q; taken = refl; is = told.0 }, told.1)

      pub turned-links : AreLinksOf (links_of after) state
      turned-links = links-still passes state quiet middle-links

      pub turned-right : AreRight (i + 1) (links_of after) state
      turned-right = learning-right passes state quiet learning i middle-right middle-links is.setting.few
