-- An answer that meets nothing is dropped: a taken whose end is destroyed, and an unwanted whose end noticed the death of its link.
use Rattle.std.proofs.Common.{◌≡◌, ◌≢◌, ◌⊎◌, ◌↔◌, inl, inr, ℕ, ◌<◌, ◌≤◌, Bool, true, false, nat_eq, if◌then◌else◌, List, [], ◌∷◌, length, None, Some, refl, sym, ap, subst, ◌∙◌, arith, true≢false, eq-eqb, eqb-true}
use Rattle.std.proofs.lemmas.Bool.Decides.{eqb_tells}
use Rattle.charlotte_calls.specs.declared.names.EndId.{EndId}
use Rattle.charlotte_calls.specs.declared.names.Pid.{Pid}
use Rattle.charlotte_packets.specs.declared.picture.MovingPicture.{MovingPicture}
use Rattle.charlotte_packets.specs.declared.picture.Picture.{Picture}
use Rattle.charlotte_packets.specs.declared.picture.PictureWhat.{PictureWhat}
use Rattle.charlotte_packets.specs.declared.picture.PictureWhat.TheVariants as packet
use Rattle.end_table.proofs.EndEq.{end_eq-refl, end_eq-same}
use Rattle.end_table.specs.Place.{end_eq}
use Rattle.end_table.specs.Table.{IsHereAnd}
use Rattle.end_table.specs.declared.entry.Entry.{Entry}
use Rattle.end_table.specs.declared.entry.Entry.TheVariants as entry
use Rattle.end_table.specs.declared.entry.HereView.{HereView}
use Rattle.end_table.specs.declared.entry.Inward.{Inward as KernelInward}
use Rattle.end_table.specs.declared.entry.Inward.TheVariants as kernel_inward
use Rattle.theorem_take_silent.specs.Effect.{nothing}
use Rattle.theorem_take_silent.specs.Rows.{frees_effect, row_effect, taken_effect, unwanted_effect, unwanted_here_effect}
use Rattle.kernel_step.specs.Actions.{is_withdrawing}
use Rattle.kernel_step.specs.Rows.{awaits, is_matched}
use Rattle.theorem_meaning.specs.World.{World, Takes, happens}
use Rattle.service_step.specs.Ends.{is_living, is_started_inward, is_taken}
use Rattle.service_step.specs.State.{State}
use Rattle.service_step.specs.declared.state.Inward.TheVariants as inward
use Rattle.service_step.specs.declared.state.Place.TheVariants as place
use Rattle.theorem_take_silent.proofs.Allowed.{between, takes-allowed}
use Rattle.theorem_take_silent.proofs.Ends.{inward-same, outward-same}
use Rattle.theorem_take_silent.specs.Change.{Change, Changes, Happens}
use Rattle.theorem_take_silent.specs.Events.{taking}
use Rattle.theorem_meaning.proofs.Goes.{Goes}
use Rattle.theorem_meaning.specs.Fields.{IsAskedAs}
use Rattle.theorem_meaning.specs.Invariant.{Invariant, NamesBelow, is_taken_of}
use Rattle.theorem_meaning.specs.Packets.{IsParcelFor, IsTakenOf, IsUnderWay, IsUnwantedOf, Links, how_many, links_of, one_if}
use Rattle.theorem_meaning.specs.StandsFor.{IsEndOf, IsInwardOf, IsProcessOf, home_of}
use Rattle.theorem_take_silent.proofs.Alike.{IsQuietly-same, some-same}
use Rattle.theorem_take_silent.proofs.Clauses.{links-still}
use Rattle.theorem_take_silent.proofs.Passing.{passing-right}
use Rattle.theorem_take_silent.specs.Quiet.{IsPassing, IsQuiet}
use Rattle.theorem_meaning.proofs.Plain.{unstarted-inward}
use Rattle.theorem_take_answer.specs.Swapped.{IsAnswer, IsAnswered, Same, news, swapped}
use Rattle.theorem_take_answer.proofs.Meets.{right-first, stands-first, taken-meets}
use Rattle.theorem_take_answer.proofs.Settled.{settled-links, settled-right}
use Rattle.theorem_take_answer.proofs.Swap.{swapped-changes, swapped-still, swapped-sum, swapped-was}
use Rattle.theorem_take_answer.proofs.World.{processes-kept, setting-after, sound-same}

pub answer-parcel_for : (t : EndId) (j h : ℕ) (e : EndId) (r n : ℕ) (q : PictureWhat) → IsAnswer t j h q → IsParcelFor e r n q → ⊥
answer-parcel_for t j h e r n (packet.Taken to m at hops) is says = says
answer-parcel_for t j h e r n (packet.Unwanted to m at hops) is says = says
answer-parcel_for t j h e r n _ is says = absurd is

pub taken-counts : (e : EndId) (n : ℕ) (q : PictureWhat) → is_taken_of e q ≡ false → IsTakenOf e n q → ⊥
taken-counts e n (packet.Taken to m at hops) none is = true≢false (sym (end_eq-refl e) ∙ subst (λ z. end_eq e z ≡ false) is.0 none)
taken-counts e n _ none is = absurd is

module _ (i : ℕ) (w : World) (s : State) (is : Invariant i w s) (k from : ℕ) (q : Picture) (others : List Picture) (there : w.packets from k ≡ q ∷ others) (to : EndId) (at hops : ℕ) (answer : IsAnswer to at hops q.what)
    (untold : (e : EndId) → is_living (s.ends e).place ≡ true → is_taken_of e q.what ≡ false)
    (over : (e : EndId) → is_living (s.ends e).place ≡ true → ((r : ℕ) → IsUnwantedOf e r q.what → ⊥) ⊎ (is_started_inward (s.ends e).inward ≡ false))
    (none : row_effect k (w.kernel k).made from (w.kernel k).table q.what ≡ nothing) where
  any : Pid
  any = record { 0 = 0 }

  abbrev change : Change
  change = taking w k from q nothing any [] []

  happened : Happens w (Takes k from) change
  happened = takes-allowed is k from q others there nothing any [] [] none tt tt refl refl

  abbrev v : World
  v = happens w (Takes k from)

  b : Changes (links_of w) change (links_of v)
  b = happened.becomes.links

  abbrev x : Links
  x = swapped b from (news to at hops q) (w.kernel k).table

  near : (from < length s.made) × (k < length s.made)
  near = between is from k q (stands-first is k from q others there)

  low : k < 8
  low = let one = near.1 in let few = is.setting.few in omega (arith, one, few)

  low_from : from < 8
  low_from = let one = near.0 in let few = is.setting.few in omega (arith, one, few)

  -- entries are those that were
  same-entry : (j : ℕ) (e : EndId) → x.entry j e ≡ (w.kernel j).table e
  same-entry j e = by (eqb_tells j k)
    where
      by : ((nat_eq j k ≡ true) × (j ≡ k)) ⊎ ((nat_eq j k ≡ false) × (j ≢ k)) → (if nat_eq j k then (w.kernel k).table e else (w.kernel j).table e) ≡ (w.kernel j).table e
      by (inl own) = ap (λ a. if a then (w.kernel k).table e else (w.kernel j).table e) own.0 ∙ sym (ap (λ z. (w.kernel z).table e) own.1)
      by (inr other) = ap (λ a. if a then (w.kernel k).table e else (w.kernel j).table e) other.0

  now : (j : ℕ) (e : EndId) (P : HereView → Type 0) → IsHereAnd ((w.kernel j).table e) P → IsHereAnd (x.entry j e) P
  now j e P has = subst (λ o. IsHereAnd o P) (sym (same-entry j e)) has

  fewer : (e : EndId) → is_taken_of e q.what ≡ false → how_many (is_taken_of e) x ≡ how_many (is_taken_of e) (links_of w)
  fewer e no_taken =
      let both = swapped-sum b from q (news to at hops q) refl (w.kernel k).table (λ o. one_if (is_taken_of e o)) low low_from in
      let zero_is : one_if (is_taken_of e q.what) ≡ 0 = ap one_if no_taken in
      omega (arith, both, zero_is)

  end-still : (e : EndId) (p : Pid) (o : HereView) → (s.ends e).place ≡ place.Owned p → IsEndOf (links_of w) e o (s.ends e) → IsEndOf x e o (s.ends e)
  end-still e p o owned agrees =
      record {
        sent = agrees.sent;
        noticed = agrees.noticed;
        outward = outward-same (links_of w) x e (λ m. takens m) (s.ends e).sent o.outward (s.ends e).outward agrees.outward;
        inward = by (over e lives);
      }
    where
      lives : is_living (s.ends e).place ≡ true
      lives = ap (λ z. is_living z) owned

      takens : (m : ℕ) → IsUnderWay x (IsTakenOf e m) ↔ IsUnderWay (links_of w) (IsTakenOf e m)
      takens m = (
        swapped-was b from q (news to at hops q) refl (w.kernel k).table (IsTakenOf e m) (λ a. a),
        swapped-still b from q (news to at hops q) refl (w.kernel k).table (IsTakenOf e m) (taken-counts e m q.what (untold e lives)),
      )

      parcels : (r n : ℕ) → IsUnderWay x (IsParcelFor e r n) ↔ IsUnderWay (links_of w) (IsParcelFor e r n)
      parcels r n = (
        swapped-was b from q (news to at hops q) refl (w.kernel k).table (IsParcelFor e r n) (λ a. a),
        swapped-still b from q (news to at hops q) refl (w.kernel k).table (IsParcelFor e r n) (answer-parcel_for to at hops e r n q.what answer),
      )

      by : ((r : ℕ) → IsUnwantedOf e r q.what → ⊥) ⊎ (is_started_inward (s.ends e).inward ≡ false) → IsInwardOf x e o.inward (s.ends e).inward
      by (inl apart) =
          inward-same (links_of w) x e parcels
          (λ r. (swapped-was b from q (news to at hops q) refl (w.kernel k).table (IsUnwantedOf e r) (λ a. a), swapped-still b from q (news to at hops q) refl (w.kernel k).table (IsUnwantedOf e r) (apart r)))
          o.inward (s.ends e).inward agrees.inward
      by (inr idle) = unstarted-inward (links_of w) x e o.inward (s.ends e).inward idle agrees.inward

  answered : IsAnswered (links_of w) x s s.ends s.process
  answered =
      record {
        entries = λ j e. Same (same-entry j e);
        places = λ e. refl;
        sent = λ e. refl;
        noticed = λ e. refl;
        posted = λ e. refl;
        message = λ e. refl;
        matched = λ e m a. a;
        takens = λ f n under a. a;
        voids = λ j e n under noticed has. now j e (λ o. o.inward ≡ kernel_inward.Withdrawing n) has;
        meets = λ j e r n under opened has. now j e (λ o. IsAskedAs r o.inward) has;
        withdrawing = λ j e posted has. now j e (λ o. is_withdrawing o.inward ≡ true) has;
        cancelled = λ p j e o n here withdrawing a. a;
        cancelling = λ p e a. now (home_of s p) e (λ o. is_withdrawing o.inward ≡ true) (is.links.cancelling p e a);
        taken = λ e. less e;
        told = λ e lives. fewer e (untold e lives) ∙ (is.links.once e).told lives;
        agree = λ e p o owned here. end-still e p o owned (is.stands.links.agree e p o owned (sym (same-entry (home_of s p) e) ∙ here));
      }
    where
      less : (e : EndId) → how_many (is_taken_of e) x ≤ one_if (is_taken (s.ends e).outward)
      less e =
          let both = swapped-sum b from q (news to at hops q) refl (w.kernel k).table (λ o. one_if (is_taken_of e o)) low low_from in
          let most = (is.links.once e).taken in
          omega (arith, both, most)

  abbrev later : Change
  later = record change { taken = Some (from, news to at hops q); entry = λ e z. z }

  passes : Changes x later (links_of v)
  passes = swapped-changes b from q (news to at hops q) refl (w.kernel k).table (λ e z. z) (λ e. b.entry e)

  quiet : IsQuiet (length s.made) s.ends x later
  quiet =
      record {
        kernel = near.1;
        entry = λ e. IsQuietly-same (x.entry k e);
        names = λ e. subst (NamesBelow (length s.made)) (sym (same-entry k e)) (is.links.named.entries k e);
        taken = refl;
        sent = tt;
      }

  passing : IsPassing s.ends x later
  passing = record { hints = λ e m l had has. inl (ap (λ (z : MovingPicture). z.hint) (some-same l m (sym has ∙ had))); sent = tt }

  pub answer-dropped : Goes i w s (Takes k from)
  answer-dropped =
      record {
        part = [];
        steps = sym happened.steps;
        run = tt;
        after =
            record {
              stands =
                  record {
                    processes = λ p below. subst (λ o. IsProcessOf o (s.process p.0)) (sym (processes-kept happened.becomes s s.ends s.process refl p.0 (home_of s p))) (is.stands.processes p below);
                    links = links-still passes s quiet (settled-links b from q refl (w.kernel k).table to at hops answer s s.ends s.process answered low low_from is.stands.links);
                  };
              service = is.service;
              setting = setting-after happened.becomes s s.ends s.process refl (sound-same k (w.kernel k).made (length s.homes) (w.kernel k).table (v.kernel k).table b.entry (is.setting.sound k)) is.setting;
              links = passing-right passes s quiet passing i (settled-right b from q refl (w.kernel k).table to at hops answer s s.ends s.process answered low low_from i is.links);
              waiting = is.waiting;
            };
        homes = refl;
      }

-- ---- a taken

pub awaits-matched : (n : ℕ) (y : Entry) (o : HereView) → y ≡ entry.Here o → is_matched n o.outward ≡ true → awaits n y ≡ Some o
awaits-matched n y o at matched = ap (awaits n) at ∙ ap (λ b. if b then Some o else None) matched

-- a taken that meets no send that is matched is dropped
pub taken-dropped : (i : ℕ) (w : World) (s : State) → Invariant i w s → (k from : ℕ) (stamp : ℕ) (to : EndId) (n at hops : ℕ) (others : List Picture)
    → w.packets from k ≡ record { stamp = stamp; what = packet.Taken to n at hops } ∷ others → awaits n ((w.kernel k).table to) ≡ None → Goes i w s (Takes k from)
taken-dropped i w s is k from stamp to n at hops others there none =
    answer-dropped i w s is k from q others there to at hops (refl, refl, refl) untold (λ e lives. inl (λ r says. says)) (ap (taken_effect k n at hops) none)
  where
    q : Picture
    q = record { stamp = stamp; what = packet.Taken to n at hops }

    dead : is_living (s.ends to).place ≡ true → ⊥
    dead lives =
        let o = taken-meets is k from to n at (right-first is k from q others there) lives in
        let found = awaits-matched n ((w.kernel k).table to) o.0.view o.0.here (ap (is_matched n) o.1 ∙ eq-eqb n n refl) in
        let both : None ≡ Some o.0.view = sym none ∙ found in
        cc

    untold : (e : EndId) → is_living (s.ends e).place ≡ true → end_eq e to ≡ false
    untold e lives = by (end_eq e to) refl
      where
        by : (b : Bool) → end_eq e to ≡ b → b ≡ false
        by true same = absurd (dead (subst (λ z. is_living (s.ends z).place ≡ true) (end_eq-same e to same) lives))
        by false apart = refl

-- ---- an unwanted

unwanted-effect-none : (k r at hops : ℕ) (y : Entry) → (IsHereAnd y (λ v. v.inward ≡ kernel_inward.Withdrawing r) → ⊥) → unwanted_effect k r at hops y ≡ nothing
unwanted-effect-none k r at hops entry.Nothing none = refl
unwanted-effect-none k r at hops (entry.Left to h) none = refl
unwanted-effect-none k r at hops (entry.Destroyed m) none = refl
unwanted-effect-none k r at hops (entry.Here v) none = by v.inward none
  where
    by : (j : KernelInward) → (j ≡ kernel_inward.Withdrawing r → ⊥) → unwanted_here_effect k r at hops v j ≡ nothing
    by kernel_inward.Idle none = refl
    by (kernel_inward.Posted z) none = refl
    by kernel_inward.Unreported none = refl
    by (kernel_inward.Withdrawing z) none = one (nat_eq z r) refl
      where
        one : (b : Bool) → nat_eq z r ≡ b → (if b then frees_effect k at hops v else nothing) ≡ nothing
        one true same = absurd (none (ap kernel_inward.Withdrawing (eqb-true z r same)))
        one false apart = refl

-- an unwanted that meets no receive that is withdrawn is dropped
pub unwanted-dropped : (i : ℕ) (w : World) (s : State) → Invariant i w s → (k from : ℕ) (stamp : ℕ) (to : EndId) (r at hops : ℕ) (others : List Picture)
    → w.packets from k ≡ record { stamp = stamp; what = packet.Unwanted to r at hops } ∷ others → (IsHereAnd ((w.kernel k).table to) (λ v. v.inward ≡ kernel_inward.Withdrawing r) → ⊥) → Goes i w s (Takes k from)
unwanted-dropped i w s is k from stamp to r at hops others there none =
    answer-dropped i w s is k from q others there to at hops (refl, refl, refl) (λ e lives. refl) over (unwanted-effect-none k r at hops ((w.kernel k).table to) none)
  where
    q : Picture
    q = record { stamp = stamp; what = packet.Unwanted to r at hops }

    noticed : (s.ends to).noticed ≡ true
    noticed = by (s.ends to).noticed refl
      where
        by : (b : Bool) → (s.ends to).noticed ≡ b → (s.ends to).noticed ≡ true
        by true dead = dead
        by false alive = absurd (none (right-first is k from q others there alive))

    over : (e : EndId) → is_living (s.ends e).place ≡ true → ((m : ℕ) → IsUnwantedOf e m q.what → ⊥) ⊎ (is_started_inward (s.ends e).inward ≡ false)
    over e lives = by (end_eq e to) refl
      where
        by : (b : Bool) → end_eq e to ≡ b → ((m : ℕ) → IsUnwantedOf e m q.what → ⊥) ⊎ (is_started_inward (s.ends e).inward ≡ false)
        by true same = inr (is.service.noticed.inward e (subst (λ z. (s.ends z).noticed ≡ true) (sym (end_eq-same e to same)) noticed) lives)
        by false apart = inl (λ m says. true≢false (sym (end_eq-refl e) ∙ subst (λ z. end_eq e z ≡ false) says.0 apart))
