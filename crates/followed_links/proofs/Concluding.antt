-- Each link of a run is followed by events, with just the deeds of the run.
use Rattle.std.proofs.Common.{arith, ◌≡◌, ⊎_elim, ℕ, zero, suc, ◌+◌, ◌^◌, ◌≤◌, ◌<◌, nat_eq, Bool, true, false, List, [], ◌++◌, length, map, All, refl, sym, ap, subst, ◌∙◌, eq-eqb, eqb-true, append-nil}
use Rattle.std.specs.List.{range_with_len}
use Rattle.charlotte_calls.specs.Names.{opposite}
use Rattle.charlotte_calls.specs.Setting.{IsValid}
use Rattle.charlotte_calls.specs.declared.names.EndId.{EndId}
use Rattle.charlotte_calls.specs.declared.names.Pid.{Pid}
use Rattle.charlotte_calls.specs.declared.setting.Setting.{Setting}
use Rattle.kernel_entries.specs.Ranges.{IsPlacedInRange}
use Rattle.kernel_entries.specs.declared.entry.Placed.{Placed}
use Rattle.service_step.specs.Lawful.{IsHeldAt}
use Rattle.service_step.specs.Run.{start_state}
use Rattle.service_step.specs.State.{Process, State as Service}
use Rattle.service_step.specs.declared.state.Place.{Place}
use Rattle.service_step.specs.declared.state.Place.TheVariants as place
use Rattle.run_process_steps.specs.Record.{IsLawfulRecord}
use Rattle.run_process_steps.proofs.Entries.{entries-have_steps}
use Rattle.end_protocol.specs.Deeds.{Deed}
use Rattle.run_process_steps.specs.Acting.{Done, Fleet, Program, at_end, at_start, done_by}
use Rattle.run_process_steps.specs.Claims.{AreInOrder, deeds_on}
use Rattle.run_process_steps.specs.AtEnd.{deeds_at}
use Rattle.run_process_steps.specs.Acted.{AreActed, deeds_of, process}
use Rattle.run_process_steps.specs.Followed.{IsFollowed}
use Rattle.run_process_steps.proofs.Followed.{followed_in_order}
use Rattle.run_process_steps.specs.Invariant.{IsFollowedTo}
use Rattle.run_process_steps.specs.Hearing.{owners}
use Rattle.followed_links.proofs.Calling.{below-or-above}
use Rattle.followed_links.proofs.Entries.{StepsKeep}
use Rattle.followed_links.proofs.Following.{Follows, IsFollowing, ProcessesKeep, ServiceMoves, follows, since_of}
use Rattle.followed_links.proofs.Weaving.{IsUnowned, on-both, on-done, same-owner}

-- ---- the deeds that no call followed

module _ (x : EndId) (m : ℕ) (f : Fleet) where
  abbrev ended : ℕ → ℕ → List Deed
  ended from count = deeds_on x (at_end m f (map process (range_with_len from count)))

  one-more : (from count : ℕ) → ended from (suc count) ≡ deeds_at x (since_of f from) ++ ended (from + 1) count
  one-more from count =
      on-both x (done_by (process from) m (since_of f from)) (at_end m f (map process (range_with_len (from + 1) count)))
      ∙ ap (λ (l : List Deed). l ++ ended (from + 1) count) (on-done x (process from) m (since_of f from))

  none-ended : (from count : ℕ) → ((i : ℕ) → from ≤ i → deeds_at x (since_of f i) ≡ []) → ended from count ≡ []
  none-ended from zero none = refl
  none-ended from (suc count) none =
      one-more from count ∙ ap (λ (l : List Deed). l ++ ended (from + 1) count) (none from (omega arith)) ∙ none-ended (from + 1) count (λ i above. none i (omega (arith, above)))

  -- of one process alone
  one-ended : (j from count : ℕ) → from ≤ j → j < from + count → ((i : ℕ) → (i ≡ j → ⊥) → deeds_at x (since_of f i) ≡ []) → ended from count ≡ deeds_at x (since_of f j)
  one-ended j from zero above below none = absurd (omega (arith, above, below))
  one-ended j from (suc count) above below none = by (nat_eq from j) refl (λ apart. one-ended j (from + 1) count (omega (arith, above, apart)) (omega (arith, below)) none)
    where
      by : (b : Bool) → nat_eq from j ≡ b → ((from ≡ j → ⊥) → ended (from + 1) count ≡ deeds_at x (since_of f j)) → ended from (suc count) ≡ deeds_at x (since_of f j)
      by true same rest =
          let e : from ≡ j = eqb-true from j same in
          one-more from count
          ∙ ap (λ (l : List Deed). deeds_at x (since_of f from) ++ l) (none-ended (from + 1) count (λ i later. none i (λ is. omega (arith, later, is, e))))
          ∙ append-nil (deeds_at x (since_of f from)) ∙ ap (λ (i : ℕ). deeds_at x (since_of f i)) e
      by false other rest =
          let apart : (from ≡ j → ⊥) = λ (e : from ≡ j). (let no : true ≡ false = sym (eq-eqb from j e) ∙ other in cc) in
          one-more from count ∙ ap (λ (l : List Deed). l ++ ended (from + 1) count) (none from apart) ∙ rest apart

-- ---- the deeds of the run

module _ (version count : ℕ) (s : Service) (n m : ℕ) (f : Fleet) (past : List Done) (is : IsFollowing version count s n f past) where
  abbrev all-done : List Done
  all-done = past ++ at_end m f (map process (range_with_len 0 count))

  -- an owner has not ended, so it is one of these
  owner-below : (x : EndId) (p : Pid) → (s.ends x).place ≡ place.Owned p → p.0 < count
  owner-below x p owned =
      ⊎_elim (λ (below : p.0 < count). below)
      (λ (above : count ≤ p.0).
      let others = is.stands.owners.consistent.processes.others p (subst (λ (k : ℕ). k ≤ p.0) (sym is.stands.owners.count_is) above) in
      absurd (subst (IsHeldAt s x) owned (is.stands.owners.consistent.kept.held.held x) (ap (λ (z : Process). z.phase) others)))
      (below-or-above count p.0)

  pub all-deeds : (x : EndId) → is.deeds x ≡ deeds_on x all-done
  all-deeds x = by (s.ends x).place refl
    where
      unowned : IsUnowned s x → is.deeds x ≡ deeds_on x all-done
      unowned none =
          is.woven.rest x none ∙ sym (append-nil (deeds_on x past))
          ∙ ap (λ (l : List Deed). deeds_on x past ++ l) (sym (none-ended x m f 0 count (λ i above. is.woven.none x i (none i))))
          ∙ sym (on-both x past (at_end m f (map process (range_with_len 0 count))))

      by : (at : Place) → (s.ends x).place ≡ at → is.deeds x ≡ deeds_on x all-done
      by (place.Owned p) owned =
          is.woven.own x p.0 owned
          ∙ ap (λ (l : List Deed). deeds_on x past ++ l)
          (sym (one-ended x m f p.0 0 count (omega arith) (let b = owner-below x p owned in omega (arith, b)) (λ i apart. is.woven.none x i (λ its. apart (same-owner i p.0 (s.ends x).place its owned)))))
          ∙ sym (on-both x past (at_end m f (map process (range_with_len 0 count))))
      by (place.InMessage e k) inside = unowned (λ i its. (let no : place.InMessage e k ≡ place.Owned (process i) = sym inside ∙ its in cc))
      by place.Destroyed gone = unowned (λ i its. (let no : place.Destroyed ≡ place.Owned (process i) = sym gone ∙ its in cc))
      by place.Unmade unmade = unowned (λ i its. (let no : place.Unmade ≡ place.Owned (process i) = sym unmade ∙ its in cc))

  pub is-followed : (x : EndId) → IsFollowed version x all-done
  is-followed x =
      let link : IsFollowedTo version s (owners f) is.deeds x = is.stands.links x in
      record { pair = link.pair; course = link.course; near = link.near_deeds ∙ all-deeds x; far = link.far_deeds ∙ all-deeds (opposite x) }

-- ---- of each run

module _ (g : Setting) (programs : ℕ → Program) (merged : List Placed) (steps : ℕ → ℕ) (lawful : IsLawfulRecord g merged) (valid : IsValid g) (range : All IsPlacedInRange merged) (few : length merged ≤ 2 ^ 28)
    (services : StepsKeep g.version (length g.homes)) (processes : ProcessesKeep g.version (length g.homes)) (moving : ServiceMoves)
    (start : IsFollowing g.version (length g.homes) (start_state g) 0 (at_start g.version programs) []) (acted : AreActed g programs merged steps) where
  at-last : Follows g g.version (length g.homes) refl services processes moving acted.last acted.before_calls
  at-last =
      follows g g.version (length g.homes) refl services processes moving acted.acts (start_state g) lawful.lawfully.served.parts [] (entries-have_steps g merged valid lawful) range (omega (arith, few)) acted.idle start

  pub acts-are-followed : (x : EndId) → IsFollowed g.version x (deeds_of g programs merged steps acted)
  acts-are-followed x = is-followed g.version (length g.homes) at-last.service at-last.entries (length merged) acted.last acted.before_calls at-last.following x

  -- so requests and replies are in order
  pub acts-are-in-order : AreInOrder (deeds_of g programs merged steps acted)
  acts-are-in-order = followed_in_order g.version (deeds_of g programs merged steps acted) acts-are-followed
