-- Where the ends are that an end of a link keeps, and those in the messages that are coming to it.
use Rattle.std.proofs.Common.{arith, ◌≡◌, ⊎_elim, ℕ, suc, ◌+◌, ◌≤◌, ◌<◌, Bool, true, false, if◌then◌else◌, List, [], ◌∷◌, ◌++◌, Option, Some, None, refl, sym, ap, subst, ◌∙◌}
use Rattle.std.specs.Prelude.{Contains}
use Rattle.charlotte_calls.specs.EndEq.{end_eq}
use Rattle.charlotte_calls.specs.Names.{opposite}
use Rattle.charlotte_calls.specs.declared.names.EndId.{EndId}
use Rattle.charlotte_calls.specs.declared.names.Pid.{Pid}
use Rattle.service_step.specs.Ends.{is_living}
use Rattle.service_step.specs.Lawful.{message_of}
use Rattle.service_step.specs.State.{State as Service}
use Rattle.service_step.specs.declared.state.Message.{Message as Told}
use Rattle.service_step.specs.declared.state.Place.{Place}
use Rattle.service_step.specs.declared.state.Place.TheVariants as place
use Rattle.service_streams.specs.Streams.{messages, numbered, told_in}
use Rattle.lost_ends.specs.Coming.{coming, on_way, reported_to}
use Rattle.lost_ends.specs.Moves.{brings, enclosed_in}
use Rattle.end_protocol.specs.declared.kept.Kept.{Kept}
use Rattle.end_protocol.specs.declared.messages.Message.{Message}
use Rattle.end_protocol.specs.Kept.{fresh}
use Rattle.lost_ends.specs.States.{Gone, Holding, Keeps}
use Rattle.lost_ends.specs.Ledgers.{brought, carried, how_often}
use Rattle.lost_ends.proofs.ProcessChangesCounting.{both}
use Rattle.lost_ends.proofs.Numbers.{same_end}
use Rattle.request_law.specs.Law.{ends_in}
use Rattle.lost_ends.specs.Sides.{Destroyed, Free, Held, IsComing, IsKept, Lost, Side, Standing}
use Rattle.lost_ends.specs.Invariant.{AreOwners, AreSpelled, IsOwned, IsSide, IsSideAt, IsStandingIn, Owners, told_to}
use Rattle.lost_ends.specs.Owners.{given_of, seen_of}
use Rattle.lost_ends.proofs.Counting.{ends-of-both, held-out, owner-alive, same-count, some-or-none, spelled-ends, told-in-few, told-to-few}
use Rattle.lost_ends.specs.Stopped.{ends_of}

-- the end y is with the owner of e, or in a message of the opposite end
pub data IsAtEnd (s : Service) (e y : EndId) : Type 0 where
  With : (p : Pid) → (s.ends e).place ≡ place.Owned p → (s.ends y).place ≡ place.Owned p → IsAtEnd s e y
  Inside : (n : ℕ) → (s.ends y).place ≡ place.InMessage (opposite e) n → IsAtEnd s e y

-- ---- at one end

contains : (y : EndId) (xs : List EndId) → 1 ≤ how_often y xs → Contains xs y
contains y [] there = absurd (omega (arith, there))
contains y (x ∷ xs) there = by (end_eq x y) refl (contains y xs) there
  where
    by : (b : Bool) → end_eq x y ≡ b → (1 ≤ how_often y xs → Contains xs y) → 1 ≤ (if b then 1 else 0) + how_often y xs → Contains (x ∷ xs) y
    by true same rest few = (0, omega arith, same_end x y same)
    by false other rest few = let more = rest (omega (arith, few)) in let less = more.1 in (suc more.0, omega (arith, less), more.2)

module _ (version count : ℕ) (s : Service) (n : ℕ) (os : Owners) (is : AreOwners version count s n os) where
  pub in-place : (p : Pid) (e : EndId) → (s.ends e).place ≡ place.Owned p → (y : EndId) → 1 ≤ (seen_of (os p.0) y).out + brings s p y → (s.ends y).place ≡ place.Owned p
  in-place p e own y there =
      let alive = owner-alive version count s n os is p e own in
      ((is.each p.0 alive.0).custody alive.1 y).own (omega (arith, there))

  -- what is on its way is in a message of the opposite end
  on-way-inside : (e y : EndId) → 1 ≤ how_often y (ends_of (on_way s e)) → IsAtEnd s e y
  on-way-inside e y there = by (s.ends e).noticed (message_of (s.ends (opposite e)).outward) refl there
    where
      by : (b : Bool) (o : Option Told) → message_of (s.ends (opposite e)).outward ≡ o
          → 1 ≤ how_often y (ends_of (if b then [] else messages (numbered (s.ends (opposite e)).sent o))) → IsAtEnd s e y
      by true o at few = absurd (omega (arith, few))
      by false None at few = absurd (omega (arith, few))
      by false (Some m) at few =
          let all : how_often y (m.carried ++ []) ≡ how_often y m.carried + 0 = both y m.carried [] in
          Inside (s.ends (opposite e)).sent
          (is.consistent.kept.held.carried (opposite e) y (s.ends (opposite e)).sent
          (record { message = m; there = at; number = refl; carries = contains y m.carried (omega (arith, few, all)) }))

  -- what comes to an end is with its owner, or on its way
  pub coming-at : (p : Pid) (e : EndId) → (s.ends e).place ≡ place.Owned p → (y : EndId) → 1 ≤ how_often y (ends_of (coming s e)) → IsAtEnd s e y
  coming-at p e own y there =
      let split : how_often y (ends_of (coming s e)) ≡ how_often y (ends_of (told_in e (s.process p.0).reports)) + how_often y (ends_of (on_way s e)) =
      ap (λ (at : Place). how_often y (ends_of (reported_to s e at ++ on_way s e))) own ∙ ends-of-both y (told_in e (s.process p.0).reports) (on_way s e) in
      let reported = told-in-few y e (s.process p.0).reports in
      let same : brings s p y ≡ how_often y (enclosed_in (s.process p.0).reports) = same-count y (enclosed_in (s.process p.0).reports) in
      ⊎_elim
      (λ (some : 1 ≤ how_often y (ends_of (on_way s e))). on-way-inside e y some)
      (λ (none : how_often y (ends_of (on_way s e)) < 1). With p own (in-place p e own y (omega (arith, there, split, reported, same, none))))
      (some-or-none (how_often y (ends_of (on_way s e))))

  module _ (e : EndId) (side : Side) (sides : IsSide version s os e side) (lives : is_living (s.ends e).place ≡ true) (found : side.standing ≡ Lost → ⊥) where
    -- what is kept for it
    module _ (k : Kept) (kept : IsKept side.standing k) (y : EndId) (there : 1 ≤ how_often y (carried k)) where
      free-none : side.standing ≡ Free → ⊥
      free-none free =
          let same : k ≡ fresh = subst (λ (st : Standing). IsKept st k) free kept in
          let none : how_often y (carried k) ≡ 0 = ap (λ (j : Kept). how_often y (carried j)) same in
          omega (arith, there, none)

      held-there : (p : Pid) → (s.ends e).place ≡ place.Owned p → (h : Holding) → (seen_of (os p.0) e).holding ≡ h → IsStandingIn (brings s p e) (seen_of (os p.0) e) h side.standing → IsAtEnd s e y
      held-there p own (Keeps j) held stands =
          let same : k ≡ j = subst (λ (st : Standing). IsKept st k) stands kept in
          let few = held-out (os p.0) e j held y in
          let its : how_often y (carried k) ≡ how_often y (carried j) = ap (λ (i : Kept). how_often y (carried i)) same in
          With p own (in-place p e own y (omega (arith, there, few, its)))
      held-there p own (Gone own_flag) held stands = ⊎_elim (λ (free : side.standing ≡ Free). absurd (free-none free)) (λ (lost : side.standing ≡ Lost). absurd (found lost)) stands.0

      pub kept-there : IsAtEnd s e y
      kept-there = by (s.ends e).place refl sides
        where
          by : (at : Place) → (s.ends e).place ≡ at → IsSideAt version s os e side at → IsAtEnd s e y
          by place.Unmade unmade at = let no : false ≡ true = sym (ap is_living unmade) ∙ lives in absurd cc
          by (place.Owned p) own at = held-there p own (seen_of (os p.0) e).holding refl at.standing
          by (place.InMessage f m) inside at = absurd (free-none at.0)
          by place.Destroyed gone at = let no : false ≡ true = sym (ap is_living gone) ∙ lives in absurd cc

    module _ (ms : List Message) (comes : IsComing side.standing ms side.coming) (y : EndId) (there : 1 ≤ how_often y (ends_in ms)) where
      -- those that are heard there
      heard-those : (side.standing ≡ Destroyed → ⊥) → ms ≡ side.coming
      heard-those alive = by side.standing refl comes
        where
          by : (st : Standing) → side.standing ≡ st → IsComing st ms side.coming → ms ≡ side.coming
          by (Held k) at same = same
          by Free at same = same
          by Lost at same = absurd (found at)
          by Destroyed at same = absurd (alive at)

      spelled-there : (gs : List Told) → (side.standing ≡ Destroyed → ⊥) → AreSpelled version side.coming gs → 1 ≤ how_often y (ends_of gs)
      spelled-there gs alive spelled =
          let same : how_often y (ends_in ms) ≡ how_often y (ends_of gs) = ap (λ (l : List Message). how_often y (ends_in l)) (heard-those alive) ∙ ap (how_often y) (spelled-ends version side.coming gs spelled) in
          omega (arith, there, same)

      owned-there : (p : Pid) → (s.ends e).place ≡ place.Owned p → IsOwned version s (os p.0) p.0 e side → IsAtEnd s e y
      owned-there p own at = ⊎_elim (λ (spelled : AreSpelled version side.coming (told_to e (given_of (os p.0).status) ++ coming s e)). by spelled) (λ (lost : side.standing ≡ Lost). absurd (found lost)) at.coming_is
        where
          alive : side.standing ≡ Destroyed → ⊥
          alive gone = held (seen_of (os p.0) e).holding at.standing
            where
              held : (h : Holding) → IsStandingIn (brings s p e) (seen_of (os p.0) e) h side.standing → ⊥
              held (Keeps j) stands = let no : Destroyed ≡ Held j = sym gone ∙ stands in cc
              held (Gone flag) stands = ⊎_elim (λ (free : side.standing ≡ Free). (let no : Destroyed ≡ Free = sym gone ∙ free in cc)) (λ (lost : side.standing ≡ Lost). found lost) stands.0

          by : AreSpelled version side.coming (told_to e (given_of (os p.0).status) ++ coming s e) → IsAtEnd s e y
          by spelled =
              let all : 1 ≤ how_often y (ends_of (told_to e (given_of (os p.0).status) ++ coming s e)) = spelled-there (told_to e (given_of (os p.0).status) ++ coming s e) alive spelled in
              let told : how_often y (ends_of (told_to e (given_of (os p.0).status) ++ coming s e)) ≡ how_often y (ends_of (told_to e (given_of (os p.0).status))) + how_often y (ends_of (coming s e)) =
              ends-of-both y (told_to e (given_of (os p.0).status)) (coming s e) in
              let in_hand = told-to-few y e (given_of (os p.0).status) in
              let out : how_often y (brought (given_of (os p.0).status)) ≤ (seen_of (os p.0) y).out = omega arith in
              ⊎_elim
              (λ (some : 1 ≤ how_often y (ends_of (coming s e))). coming-at p e own y some)
              (λ (none : how_often y (ends_of (coming s e)) < 1). With p own (in-place p e own y (omega (arith, all, told, in_hand, out, none))))
              (some-or-none (how_often y (ends_of (coming s e))))

      pub coming-there : IsAtEnd s e y
      coming-there = by (s.ends e).place refl sides
        where
          by : (at : Place) → (s.ends e).place ≡ at → IsSideAt version s os e side at → IsAtEnd s e y
          by place.Unmade unmade at = let no : false ≡ true = sym (ap is_living unmade) ∙ lives in absurd cc
          by (place.Owned p) own at = owned-there p own at
          by (place.InMessage f m) inside at =
              on-way-inside e y
              (spelled-there (on_way s e) (λ gone. let no : Destroyed ≡ Free = sym gone ∙ at.0 in cc)
              (subst (λ (pl : Place). AreSpelled version side.coming (reported_to s e pl ++ on_way s e)) inside at.1))
          by place.Destroyed gone at = let no : false ≡ true = sym (ap is_living gone) ∙ lives in absurd cc
