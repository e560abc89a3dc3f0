-- While both ends of a link live, each end of a request that is under way there is with the owner of one of them, or in a message between the two.
use Rattle.std.proofs.Common.{arith, ◌≡◌, ◌⊎◌, inl, inr, ⊎_elim, ℕ, ◌+◌, ◌≤◌, ◌<◌, Bool, true, false, ◌||◌, not, if◌then◌else◌, List, [], ◌∷◌, ◌++◌, map, filter, Some, None, refl, sym, ap, subst, ◌∙◌, append-nil}
use Rattle.std.proofs.lemmas.Grind.{flat_map-append}
use Rattle.std.specs.List.{AllByRecursion, flat_map}
use Rattle.charlotte_calls.specs.Names.{opposite}
use Rattle.charlotte_calls.specs.declared.names.EndId.{EndId}
use Rattle.service_step.specs.Ends.{is_living}
use Rattle.service_step.specs.State.{State as Service}
use Rattle.service_step.specs.declared.state.Place.TheVariants as place
use Rattle.end_protocol.specs.declared.kept.Kept.{Kept}
use Rattle.end_protocol.specs.declared.messages.Connect.{Connect}
use Rattle.end_protocol.specs.declared.messages.Message.{Message}
use Rattle.end_protocol.specs.Deeds.{Deed}
use Rattle.end_protocol.specs.Falling.{outstanding_ends, reply_ends, request_ends}
use Rattle.lost_ends.proofs.Every.{every_append, every_weaker}
use Rattle.lost_ends.specs.Ledgers.{carried, how_often}
use Rattle.lost_ends.proofs.ProcessChangesCounting.{both}
use Rattle.end_protocol.specs.Kept.{fresh}
use Rattle.end_protocol.specs.Messages.{left_of}
use Rattle.request_law.proofs.Run.{run_lives}
use Rattle.request_meaning.specs.Links.{Link, start}
use Rattle.request_meaning.specs.Phases.{Asked, Barred, Coming, Forbidden, LetCome, Owed, Phase, Quiet, Replied, Retried, Returning, connect_with, request_in, unaccepted, stands as phase_stands}
use Rattle.request_meaning.specs.Requests.{Request, accepted, issued}
use Rattle.request_meaning.specs.Views.{asks}
use Rattle.request_law.specs.Law.{EndsAreThere, back_on, ends_in, forth_on}
use Rattle.lost_ends.specs.RequestRunsLaw.{HasAllEnds}
use Rattle.lost_ends.specs.Sides.{Free, IsComing, IsKept, Side, Standing, is_destroyed}
use Rattle.lost_ends.proofs.Events.{Follows, from_start, has_all_ends}
use Rattle.lost_ends.specs.Invariant.{IsSide, Owners, Stands}
use Rattle.lost_ends.specs.Coming.{coming}
use Rattle.lost_ends.specs.Deaths.{IsGone}
use Rattle.lost_ends.proofs.Counting.{undestroyed, some-or-none}
use Rattle.lost_ends.specs.Stopped.{IsFollowedSo, IsFound, IsSideSo, IsStopped, ends_of}
use Rattle.carried_ends.proofs.Arrived.{often-all}
use Rattle.carried_ends.proofs.UnderWay.{IsAtEnd, With, coming-at, coming-there, kept-there}

-- it is at one of the two ends of the link, or was destroyed
abbrev pub IsOnLink : Service → EndId → EndId → Type 0
IsOnLink s x y = (IsAtEnd s x y ⊎ IsAtEnd s (opposite x) y) ⊎ IsGone s y

-- all ends of the request are so
abbrev pub AreOnLink : Service → EndId → Request → Type 0
AreOnLink s x r = AllByRecursion (IsOnLink s x) r.ends

-- A link with these deeds, of which each end of a request is in one place; and what it has as kept at either end, or as coming there, is on the link
pub record IsHeldSo (s : Service) (deeds : EndId → List Deed) (x : EndId) : Type 0 where
  pub link : Link
  pub ends : EndsAreThere link
  pub near_deeds : link.near_deeds ≡ deeds x
  pub far_deeds : link.far_deeds ≡ deeds (opposite x)
  pub near : (y : EndId) → 1 ≤ how_often y (carried link.near) + how_often y (ends_in link.here) → IsOnLink s x y
  pub far : (y : EndId) → 1 ≤ how_often y (carried link.far) + how_often y (ends_in link.there) → IsOnLink s x y

-- ---- counting

fewer-in : (y : EndId) (test : Message → Bool) (ms : List Message) → how_often y (ends_in (filter test ms)) ≤ how_often y (ends_in ms)
fewer-in y test [] = omega arith
fewer-in y test (m ∷ ms) = by (test m) (fewer-in y test ms)
  where
    all : how_often y (m.ends ++ ends_in ms) ≡ how_often y m.ends + how_often y (ends_in ms)
    all = both y m.ends (ends_in ms)

    by : (b : Bool) → how_often y (ends_in (filter test ms)) ≤ how_often y (ends_in ms) → how_often y (ends_in (if b then m ∷ filter test ms else filter test ms)) ≤ how_often y (m.ends ++ ends_in ms)
    by true rest = let one : how_often y (m.ends ++ ends_in (filter test ms)) ≡ how_often y m.ends + how_often y (ends_in (filter test ms)) = both y m.ends (ends_in (filter test ms)) in omega (arith, all, one, rest)
    by false rest = omega (arith, all, rest)

two-in : (y : EndId) (test : Message → Bool) (ms ns : List Message) → how_often y (ends_in (filter test ms ++ filter test ns)) ≤ how_often y (ends_in ms) + how_often y (ends_in ns)
two-in y test ms ns =
    let all = ap (how_often y) (flat_map-append (λ (m : Message). m.ends) (filter test ms) (filter test ns)) ∙ both y (ends_in (filter test ms)) (ends_in (filter test ns)) in
    let one = fewer-in y test ms in
    let two = fewer-in y test ns in
    omega (arith, all, one, two)

-- what an end keeps carries these
module _ (y : EndId) (k : Kept) where
  abbrev queued : ℕ
  queued = how_often y (ends_in k.queue)

  abbrev waiting : ℕ
  waiting = how_often y (flat_map (λ (c : Connect). c.ends) k.behind)

  kept-sum : how_often y (carried k) ≡ queued + (how_often y (outstanding_ends k.outstanding) + (waiting + (how_often y (request_ends k.request) + how_often y (reply_ends k.reply))))
  kept-sum =
      let one : how_often y (carried k) ≡ how_often y (((ends_in k.queue ++ outstanding_ends k.outstanding) ++ flat_map (λ (c : Connect). c.ends) k.behind) ++ request_ends k.request) + how_often y (reply_ends k.reply) =
      both y (((ends_in k.queue ++ outstanding_ends k.outstanding) ++ flat_map (λ (c : Connect). c.ends) k.behind) ++ request_ends k.request) (reply_ends k.reply) in
      let two = both y ((ends_in k.queue ++ outstanding_ends k.outstanding) ++ flat_map (λ (c : Connect). c.ends) k.behind) (request_ends k.request) in
      let three = both y (ends_in k.queue ++ outstanding_ends k.outstanding) (flat_map (λ (c : Connect). c.ends) k.behind) in
      let four = both y (ends_in k.queue) (outstanding_ends k.outstanding) in
      omega (arith, one, two, three, four)

-- ---- a link

-- where nothing is outstanding no request is under way
quiet-phase : (version : ℕ) (p : Phase) → None ≡ (phase_stands version p).outstanding → unaccepted p ≡ []
quiet-phase version Quiet none = refl
quiet-phase version (Asked c) none = let no : None ≡ Some (left_of version c) = none in absurd cc
quiet-phase version (Retried c) none = let no : None ≡ Some (left_of version c) = none in absurd cc
quiet-phase version (Forbidden c b) none = let no : None ≡ Some (left_of version c) = none in absurd cc
quiet-phase version (Barred c b) none = let no : None ≡ Some c = none in absurd cc
quiet-phase version (LetCome c by) none = let no : None ≡ Some (left_of version c) = none in absurd cc
quiet-phase version (Coming c by came x xs) none = let no : None ≡ Some (connect_with [] c) = none in absurd cc
quiet-phase version (Owed c) none = refl
quiet-phase version (Replied c r) none = refl
quiet-phase version (Returning c r came x xs) none = refl

module _ (version count : ℕ) (s : Service) (n : ℕ) (os : Owners) (deeds : EndId → List Deed) (is : Stands version count s n os deeds) where
  living-stays : (e : EndId) → is_living (s.ends e).place ≡ true → (s.ends e).place ≡ place.Destroyed → ⊥
  living-stays e lives gone = let no : false ≡ true = sym (ap is_living gone) ∙ lives in cc

  -- an end that nobody holds has no request that is not accepted, as long as the other end is not destroyed
  pub free-accepted : (x : EndId) → ((is.links x).pair.near.standing ≡ Free) → ((s.ends (opposite x)).place ≡ place.Destroyed → ⊥) → issued (deeds x) ≡ accepted (deeds (opposite x))
  free-accepted x free stays =
      let follows : Follows version (is.links x).pair start = from_start version (is.links x).pair (is.links x).course in
      let uncut : follows.to.cut ≡ false =
      follows.is.cut ∙ ap (λ (st : Standing). is_destroyed st || is_destroyed (is.links x).pair.far.standing) free ∙ undestroyed version s os (opposite x) (is.links x).pair.far (is.links x).far stays in
      let lives = run_lives version follows.to follows.runs uncut in
      let at = lives.near.at in
      let rests : follows.to.near ≡ fresh = subst (λ (st : Standing). IsKept st follows.to.near) free follows.is.near in
      let none : None ≡ (phase_stands version lives.near.phase).outstanding = sym (ap (λ (k : Kept). k.outstanding) rests) ∙ at.outstanding in
      let behind : follows.to.near.behind ≡ [] = ap (λ (k : Kept). k.behind) rests in
      sym (ap issued (follows.is.near_deeds ∙ (is.links x).near_deeds)) ∙ at.issued
      ∙ ap (λ (rs : List Request). accepted follows.to.far_deeds ++ (rs ++ map request_in follows.to.near.behind)) (quiet-phase version lives.near.phase none)
      ∙ ap (λ (cs : List Connect). accepted follows.to.far_deeds ++ map request_in cs) behind ∙ append-nil (accepted follows.to.far_deeds)
      ∙ ap accepted (follows.is.far_deeds ∙ (is.links x).far_deeds)

  -- ---- a link of which no end is destroyed

  side-stays : (e : EndId) (side : Side) → IsSideSo version s os e side → is_living (s.ends e).place ≡ true → is_destroyed side.standing ≡ false
  side-stays e side (inl found) lives = undestroyed version s os e side found.0 (living-stays e lives)
  side-stays e side (inr stopped) lives = ap is_destroyed stopped.standing

  -- what is kept and what is coming at one end
  module _ (e : EndId) (side : Side) (lives : is_living (s.ends e).place ≡ true) (k : Kept) (ms : List Message) (kept : IsKept side.standing k) (comes : IsComing side.standing ms side.coming)
      (y : EndId) (there : 1 ≤ how_often y (carried k) + how_often y (ends_in ms)) where
    found-there : IsSide version s os e side → IsFound side → IsAtEnd s e y
    found-there sides found =
        ⊎_elim (λ (some : 1 ≤ how_often y (carried k)). kept-there version count s n os is.owners e side sides lives found k kept y some)
        (λ (none : how_often y (carried k) < 1). coming-there version count s n os is.owners e side sides lives found ms comes y (omega (arith, there, none)))
        (some-or-none (how_often y (carried k)))

    stopped-there : IsStopped s os e side → IsAtEnd s e y ⊎ IsGone s y
    stopped-there stopped =
        ⊎_elim (λ (own : (s.ends y).place ≡ place.Owned stopped.owner). inl (With stopped.owner stopped.own own))
        (λ (other : (1 ≤ how_often y (ends_of (coming s e))) ⊎ IsGone s y).
        ⊎_elim (λ (some : 1 ≤ how_often y (ends_of (coming s e))). inl (coming-at version count s n os is.owners stopped.owner e stopped.own y some)) (λ (gone : IsGone s y). inr gone) other)
        (stopped.there y (subst (λ (m : ℕ). 1 ≤ m) same there))
      where
        kept_is : k ≡ stopped.kept
        kept_is = subst (λ (st : Standing). IsKept st k) stopped.standing kept

        coming_is : ms ≡ side.coming
        coming_is = subst (λ (st : Standing). IsComing st ms side.coming) stopped.standing comes

        same : how_often y (carried k) + how_often y (ends_in ms) ≡ how_often y (carried stopped.kept) + how_often y (ends_in side.coming)
        same = ap (λ (j : Kept). how_often y (carried j) + how_often y (ends_in ms)) kept_is ∙ ap (λ (l : List Message). how_often y (carried stopped.kept) + how_often y (ends_in l)) coming_is

    at-side : IsSideSo version s os e side → IsAtEnd s e y ⊎ IsGone s y
    at-side (inl found) = inl (found-there found.0 found.1)
    at-side (inr stopped) = stopped-there stopped

  module _ (x : EndId) (near_lives : is_living (s.ends x).place ≡ true) (far_lives : is_living (s.ends (opposite x)).place ≡ true) where
    on-near : (y : EndId) → IsAtEnd s x y ⊎ IsGone s y → IsOnLink s x y
    on-near y (inl at) = inl (inl at)
    on-near y (inr gone) = inr gone

    on-far : (y : EndId) → IsAtEnd s (opposite x) y ⊎ IsGone s y → IsOnLink s x y
    on-far y (inl at) = inl (inr at)
    on-far y (inr gone) = inr gone

    pub held-so : IsFollowedSo version s os deeds x → IsHeldSo s deeds x
    held-so f =
        let whole : HasAllEnds f.pair =
        has_all_ends version f.pair f.course (ap (λ (b : Bool). b || is_destroyed f.pair.far.standing) (side-stays x f.pair.near f.near near_lives) ∙ side-stays (opposite x) f.pair.far f.far far_lives) in
        record {
          link = whole.link;
          ends = whole.ends.near_ends;
          near_deeds = whole.is.near_deeds ∙ f.near_deeds;
          far_deeds = whole.is.far_deeds ∙ f.far_deeds;
          near = λ y there. on-near y (at-side x f.pair.near near_lives whole.link.near whole.link.here whole.is.near whole.is.here y there f.near);
          far = λ y there. on-far y (at-side (opposite x) f.pair.far far_lives whole.link.far whole.link.there whole.is.far whole.is.there y there f.far);
        }

    module _ (held : IsHeldSo s deeds x) where
      abbrev l : Link
      l = held.link

      -- where it is counted, it is
      counted-there : (y : EndId) → 1 ≤ how_often y (carried l.near) + (how_often y (carried l.far) + (how_often y (ends_in l.here) + how_often y (ends_in l.there))) → IsOnLink s x y
      counted-there y there =
          ⊎_elim (λ (near : 1 ≤ how_often y (carried l.near) + how_often y (ends_in l.here)). held.near y near)
          (λ (none : how_often y (carried l.near) + how_often y (ends_in l.here) < 1). held.far y (omega (arith, there, none)))
          (some-or-none (how_often y (carried l.near) + how_often y (ends_in l.here)))

      abbrev ways : List EndId
      ways = request_ends l.far.request ++ (ends_in (forth_on l) ++ (ends_in (back_on l) ++ outstanding_ends l.near.outstanding))

      ways-there : (y : EndId) → 1 ≤ how_often y ways → IsOnLink s x y
      ways-there y there =
          let one = both y (request_ends l.far.request) (ends_in (forth_on l) ++ (ends_in (back_on l) ++ outstanding_ends l.near.outstanding)) in
          let two = both y (ends_in (forth_on l)) (ends_in (back_on l) ++ outstanding_ends l.near.outstanding) in
          let three = both y (ends_in (back_on l)) (outstanding_ends l.near.outstanding) in
          let forth = two-in y (λ (m : Message). asks m.packet) l.there l.near.queue in
          let back = two-in y (λ (m : Message). not (asks m.packet)) l.here l.far.queue in
          let near = kept-sum y l.near in
          let far = kept-sum y l.far in
          counted-there y (omega (arith, there, one, two, three, forth, back, near, far))

      -- those of the connects that wait
      behind-there : (cs : List Connect) → ((y : EndId) → 1 ≤ how_often y (flat_map (λ (c : Connect). c.ends) cs) → IsOnLink s x y) → AllByRecursion (AreOnLink s x) (map request_in cs)
      behind-there [] there = tt
      behind-there (c ∷ cs) there = (
        often-all (IsOnLink s x) c.ends (λ y some. let all = both y c.ends (flat_map (λ (d : Connect). d.ends) cs) in there y (omega (arith, all, some))),
        behind-there cs (λ y some. let all = both y c.ends (flat_map (λ (d : Connect). d.ends) cs) in there y (omega (arith, all, some))),
      )

      -- what was issued is what was accepted, and then requests whose ends are all there
      pub record HasOpen : Type 0 where
        pub requests : List Request
        pub issued_is : issued (deeds x) ≡ accepted (deeds (opposite x)) ++ requests
        pub there : AllByRecursion (AreOnLink s x) requests

      pub open-there : HasOpen
      open-there = record {
        requests = held.ends.under_way ++ map request_in l.near.behind;
        issued_is =
            sym (ap issued held.near_deeds) ∙ held.ends.issued_is ∙ ap (λ (ds : List Deed). accepted ds ++ (held.ends.under_way ++ map request_in l.near.behind)) held.far_deeds;
        there =
            every_append (AreOnLink s x) held.ends.under_way (map request_in l.near.behind)
            (every_weaker (λ (r : Request). r.ends ≡ ways) (AreOnLink s x) (λ r same. subst (λ (xs : List EndId). AllByRecursion (IsOnLink s x) xs) (sym same) (often-all (IsOnLink s x) ways ways-there)) held.ends.under_way held.ends.ends)
            (behind-there l.near.behind (λ y some. let sum = kept-sum y l.near in held.near y (omega (arith, some, sum))));
      }
