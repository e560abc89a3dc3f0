-- The deeds of all processes, woven into those of the run: on each end, in the order in which they were done.
use Rattle.std.proofs.Common.{◌≡◌, ◌⊎◌, inl, inr, ℕ, nat_eq, Bool, true, false, if◌then◌else◌, List, [], ◌∷◌, ◌++◌, map, filter, refl, sym, ap, subst, ◌∙◌, eq-eqb, eqb-true, append-nil, append_assoc}
use Rattle.charlotte_calls.specs.EndEq.{end_eq}
use Rattle.charlotte_calls.specs.declared.names.EndId.{EndId}
use Rattle.charlotte_calls.specs.declared.names.Pid.{Pid}
use Rattle.service_step.specs.State.{State as Service}
use Rattle.service_step.specs.declared.state.Place.{Place}
use Rattle.service_step.specs.declared.state.Place.TheVariants as place
use Rattle.end_protocol.specs.Deeds.{Deed}
use Rattle.run_process_steps.specs.States.{DeedOn}
use Rattle.run_process_steps.specs.AtEnd.{deeds_at}
use Rattle.run_process_steps.specs.Acting.{Done, done_by}
use Rattle.run_process_steps.specs.Claims.{deeds_on, on_end}
use Rattle.run_process_steps.specs.Acted.{process}

-- ---- deeds on an end

pub at-both : (x : EndId) (l m : List DeedOn) → deeds_at x (l ++ m) ≡ deeds_at x l ++ deeds_at x m
at-both x [] m = refl
at-both x (d ∷ l) m = by (end_eq d.on x) (at-both x l m)
  where
    by : (b : Bool) → deeds_at x (l ++ m) ≡ deeds_at x l ++ deeds_at x m
        → map (λ (e : DeedOn). e.deed) (if b then d ∷ filter (λ e. end_eq e.on x) (l ++ m) else filter (λ e. end_eq e.on x) (l ++ m))
        ≡ map (λ (e : DeedOn). e.deed) (if b then d ∷ filter (λ e. end_eq e.on x) l else filter (λ e. end_eq e.on x) l) ++ deeds_at x m
    by true rest = ap (λ (ds : List Deed). d.deed ∷ ds) rest
    by false rest = rest

pub on-both : (x : EndId) (ds es : List Done) → deeds_on x (ds ++ es) ≡ deeds_on x ds ++ deeds_on x es
on-both x [] es = refl
on-both x (d ∷ ds) es = by (end_eq d.on x) (on-both x ds es)
  where
    by : (b : Bool) → deeds_on x (ds ++ es) ≡ deeds_on x ds ++ deeds_on x es
        → map (λ (e : Done). e.deed) (if b then d ∷ on_end x (ds ++ es) else on_end x (ds ++ es)) ≡ map (λ (e : Done). e.deed) (if b then d ∷ on_end x ds else on_end x ds) ++ deeds_on x es
    by true rest = ap (λ (l : List Deed). d.deed ∷ l) rest
    by false rest = rest

pub on-done : (x : EndId) (p : Pid) (n : ℕ) (l : List DeedOn) → deeds_on x (done_by p n l) ≡ deeds_at x l
on-done x p n [] = refl
on-done x p n (d ∷ l) = by (end_eq d.on x) (on-done x p n l)
  where
    by : (b : Bool) → deeds_on x (done_by p n l) ≡ deeds_at x l
        → map (λ (e : Done). e.deed) (if b then record { by = p; on = d.on; deed = d.deed; after = n } ∷ on_end x (done_by p n l) else on_end x (done_by p n l))
        ≡ map (λ (e : DeedOn). e.deed) (if b then d ∷ filter (λ e. end_eq e.on x) l else filter (λ e. end_eq e.on x) l)
    by true rest = ap (λ (ds : List Deed). d.deed ∷ ds) rest
    by false rest = rest

-- ---- woven

-- nobody owns the end
abbrev pub IsUnowned : Service → EndId → Type 0
IsUnowned s x = (i : ℕ) → (s.ends x).place ≡ place.Owned (process i) → ⊥

-- Each deed that no call followed yet is one of the owner of its end. The others are those of the run so far
pub record AreWoven (s : Service) (since : ℕ → List DeedOn) (past : List Done) (deeds : EndId → List Deed) : Type 0 where
  pub own : (x : EndId) (i : ℕ) → (s.ends x).place ≡ place.Owned (process i) → deeds x ≡ deeds_on x past ++ deeds_at x (since i)
  pub rest : (x : EndId) → IsUnowned s x → deeds x ≡ deeds_on x past
  pub none : (x : EndId) (i : ℕ) → ((s.ends x).place ≡ place.Owned (process i) → ⊥) → deeds_at x (since i) ≡ []

pub same-owner : (i j : ℕ) (at : Place) → at ≡ place.Owned (process i) → at ≡ place.Owned (process j) → i ≡ j
same-owner i j at one two = ap (λ (p : Pid). p.0) (same (process i) (process j) (sym one ∙ two))
  where
    same : (p q : Pid) → place.Owned p ≡ place.Owned q → p ≡ q
    same p q both = cc

-- the process of this number does more
abbrev pub adding : ℕ → List DeedOn → (ℕ → List DeedOn) → ℕ → List DeedOn
adding i more since = λ j. if nat_eq i j then since i ++ more else since j

-- all that it did is followed by a call
abbrev pub flushing : ℕ → (ℕ → List DeedOn) → ℕ → List DeedOn
flushing i since = λ j. if nat_eq i j then [] else since j

module _ (s : Service) (since : ℕ → List DeedOn) (past : List Done) (deeds : EndId → List Deed) (woven : AreWoven s since past deeds) (i : ℕ) (more : List DeedOn)
    (elsewhere : (x : EndId) → ((s.ends x).place ≡ place.Owned (process i) → ⊥) → deeds_at x more ≡ []) where
  abbrev now : EndId → List Deed
  now x = deeds x ++ deeds_at x more

  nothing-more : (x : EndId) → ((s.ends x).place ≡ place.Owned (process i) → ⊥) → now x ≡ deeds x
  nothing-more x away = ap (λ (l : List Deed). deeds x ++ l) (elsewhere x away) ∙ append-nil (deeds x)

  own-now : (x : EndId) → (s.ends x).place ≡ place.Owned (process i) → now x ≡ deeds_on x past ++ deeds_at x (since i ++ more)
  own-now x is =
      ap (λ (l : List Deed). l ++ deeds_at x more) (woven.own x i is) ∙ append_assoc (deeds_on x past) (deeds_at x (since i)) (deeds_at x more)
      ∙ ap (λ (l : List Deed). deeds_on x past ++ l) (sym (at-both x (since i) more))

  none-now : (x : EndId) → ((s.ends x).place ≡ place.Owned (process i) → ⊥) → deeds_at x (since i ++ more) ≡ []
  none-now x away = at-both x (since i) more ∙ ap (λ (l : List Deed). l ++ deeds_at x more) (woven.none x i away) ∙ elsewhere x away

  differs : (x : EndId) (j : ℕ) → nat_eq i j ≡ false → (s.ends x).place ≡ place.Owned (process j) → (s.ends x).place ≡ place.Owned (process i) → ⊥
  differs x j other is its = let e : i ≡ j = same-owner i j (s.ends x).place its is in let no : true ≡ false = sym (eq-eqb i j e) ∙ other in cc

  -- it makes a step without a call
  pub weaves-on : AreWoven s (adding i more since) past now
  weaves-on = record {
    own = λ x j is. own x j is (nat_eq i j) refl;
    rest = λ x unowned. nothing-more x (unowned i) ∙ woven.rest x unowned;
    none = λ x j away. none x j away (nat_eq i j) refl;
  }
    where
      own : (x : EndId) (j : ℕ) → (s.ends x).place ≡ place.Owned (process j) → (b : Bool) → nat_eq i j ≡ b → now x ≡ deeds_on x past ++ deeds_at x (if b then since i ++ more else since j)
      own x j is true same = own-now x (subst (λ (k : ℕ). (s.ends x).place ≡ place.Owned (process k)) (sym (eqb-true i j same)) is)
      own x j is false other = nothing-more x (differs x j other is) ∙ woven.own x j is

      none : (x : EndId) (j : ℕ) → ((s.ends x).place ≡ place.Owned (process j) → ⊥) → (b : Bool) → nat_eq i j ≡ b → deeds_at x (if b then since i ++ more else since j) ≡ []
      none x j away true same = none-now x (subst (λ (k : ℕ). (s.ends x).place ≡ place.Owned (process k) → ⊥) (sym (eqb-true i j same)) away)
      none x j away false other = woven.none x j away

  -- it makes one with a call, which its deeds stand before
  module _ (n : ℕ) where
    abbrev behind : List Done
    behind = past ++ done_by (process i) n (since i ++ more)

    on-behind : (x : EndId) → deeds_on x behind ≡ deeds_on x past ++ deeds_at x (since i ++ more)
    on-behind x = on-both x past (done_by (process i) n (since i ++ more)) ∙ ap (λ (l : List Deed). deeds_on x past ++ l) (on-done x (process i) n (since i ++ more))

    on-away : (x : EndId) → ((s.ends x).place ≡ place.Owned (process i) → ⊥) → deeds_on x behind ≡ deeds_on x past
    on-away x away = on-behind x ∙ ap (λ (l : List Deed). deeds_on x past ++ l) (none-now x away) ∙ append-nil (deeds_on x past)

    pub weaves-call : AreWoven s (flushing i since) behind now
    weaves-call = record {
      own = λ x j is. own x j is (nat_eq i j) refl;
      rest = λ x unowned. nothing-more x (unowned i) ∙ woven.rest x unowned ∙ sym (on-away x (unowned i));
      none = λ x j away. none x j away (nat_eq i j);
    }
      where
        own : (x : EndId) (j : ℕ) → (s.ends x).place ≡ place.Owned (process j) → (b : Bool) → nat_eq i j ≡ b → now x ≡ deeds_on x behind ++ deeds_at x (if b then [] else since j)
        own x j is true same =
            own-now x (subst (λ (k : ℕ). (s.ends x).place ≡ place.Owned (process k)) (sym (eqb-true i j same)) is) ∙ sym (on-behind x) ∙ sym (append-nil (deeds_on x behind))
        own x j is false other =
            nothing-more x (differs x j other is) ∙ woven.own x j is ∙ ap (λ (l : List Deed). l ++ deeds_at x (since j)) (sym (on-away x (differs x j other is)))

        none : (x : EndId) (j : ℕ) → ((s.ends x).place ≡ place.Owned (process j) → ⊥) → (b : Bool) → deeds_at x (if b then [] else since j) ≡ []
        none x j away true = refl
        none x j away false = woven.none x j away

-- ---- steps of the service

-- an end stays, comes to an owner, or is owned no more
pub data Passes (s t : Service) (quiet : ℕ → Type 0) (x : EndId) : Type 0 where
  Stays : (t.ends x).place ≡ (s.ends x).place → Passes s t quiet x
  Comes : (i : ℕ) → IsUnowned s x → (t.ends x).place ≡ place.Owned (process i) → Passes s t quiet x
  Goes : IsUnowned t x → IsUnowned s x ⊎ ((i : ℕ) × ((s.ends x).place ≡ place.Owned (process i)) × quiet i) → Passes s t quiet x

-- an end that goes was owned by a process all of whose deeds are followed by a call
pub weaves-passing : (s t : Service) (since : ℕ → List DeedOn) (past : List Done) (deeds : EndId → List Deed) → AreWoven s since past deeds
    → ((x : EndId) → Passes s t (λ i. since i ≡ []) x) → AreWoven t since past deeds
weaves-passing s t since past deeds woven passes = record {
  own = λ x i is. own x i is (passes x);
  rest = λ x unowned. rest x unowned (passes x);
  none = λ x i away. none x i away (passes x);
}
  where
    own : (x : EndId) (i : ℕ) → (t.ends x).place ≡ place.Owned (process i) → Passes s t (λ i. since i ≡ []) x → deeds x ≡ deeds_on x past ++ deeds_at x (since i)
    own x i is (Stays same) = woven.own x i (sym same ∙ is)
    own x i is (Comes j unowned to) =
        woven.rest x unowned ∙ sym (append-nil (deeds_on x past)) ∙ ap (λ (l : List Deed). deeds_on x past ++ l) (sym (woven.none x i (unowned i)))
    own x i is (Goes unowned was) = absurd (unowned i is)

    rest : (x : EndId) → IsUnowned t x → Passes s t (λ i. since i ≡ []) x → deeds x ≡ deeds_on x past
    rest x unowned (Stays same) = woven.rest x (λ i is. unowned i (same ∙ is))
    rest x unowned (Comes j was to) = absurd (unowned j to)
    rest x unowned (Goes now (inl was)) = woven.rest x was
    rest x unowned (Goes now (inr was)) = woven.own x was.0 was.1 ∙ ap (λ (l : List DeedOn). deeds_on x past ++ deeds_at x l) was.2 ∙ append-nil (deeds_on x past)

    none : (x : EndId) (i : ℕ) → ((t.ends x).place ≡ place.Owned (process i) → ⊥) → Passes s t (λ i. since i ≡ []) x → deeds_at x (since i) ≡ []
    none x i away (Stays same) = woven.none x i (λ is. away (same ∙ is))
    none x i away (Comes j unowned to) = woven.none x i (unowned i)
    none x i away (Goes now (inl was)) = woven.none x i (was i)
    none x i away (Goes now (inr was)) = by (nat_eq was.0 i) refl
      where
        by : (b : Bool) → nat_eq was.0 i ≡ b → deeds_at x (since i) ≡ []
        by true same = ap (deeds_at x) (ap since (sym (eqb-true was.0 i same)) ∙ was.2)
        by false other =
            woven.none x i
            (λ is. let e : was.0 ≡ i = same-owner was.0 i (s.ends x).place was.1 is in let no : true ≡ false = sym (eq-eqb was.0 i e) ∙ other in cc)
