-- The last end on which a process is known to have an activity.
use Rattle.std.proofs.Common.{◌≡◌, ℕ, zero, suc, ◌-◌, ◌<◌, Bool, true, false, true≢false, nat_eq, ◌&&◌, ◌||◌, ◌++◌, List, [], ◌∷◌, length, slice_get, get_or, Contains, Option, None, Some, IfSome, IsSome, IsNone, option_to_list, refl, sym, ap, subst, ◌∙◌, arith, append-nil, length-append}
use Rattle.std.specs.List.{list_any}
use Rattle.std.proofs.lemmas.Option.{slice_get_within, slice_get-get_or}
use Rattle.charlotte_calls.specs.declared.names.EndId.{EndId}
use Rattle.charlotte_calls.specs.declared.names.Pid.{Pid}
use Rattle.link_service.proofs.Known.{same_pid}
use Rattle.link_service.specs.Service.{ServiceView, AreKnown, IsWellKept, HasIdleLast, state_of}
use Rattle.service_links.proofs.Changed.{end_eq-same}
use Rattle.service_links.specs.Links.{ends_of}
use Rattle.service_processes.specs.Known.{known_of, held_by, active_of, LosesLast}
use Rattle.service_processes.proofs.Blocks.{there-active}
use Rattle.service_processes.specs.declared.processes.ControlBlock.{ControlBlock}
use Rattle.charlotte_calls.specs.declared.calls.Report.{Report}
use Rattle.service_processes.specs.Processes.{process_of}
use Rattle.service_step.specs.Causes.{HasStarted}
use Rattle.service_step.specs.State.{is_running}
use Rattle.service_step.specs.Steps.{IsOldest}
use Rattle.service_step.specs.Ends.{end_eq, is_owned_by, is_active}

-- what an answer that is there is
pub if_some : {X : Type 0} (o x : Option X) → o ≡ x → IfSome o (λ e. x ≡ Some e)
if_some None x is = tt
if_some (Some e) x is = sym is

-- a list without a last is empty
pub no_last : {X : Type 0} (xs : List X) → None ≡ slice_get xs (length xs - 1) → xs ≡ []
no_last [] none = refl
no_last (x ∷ xs) none =
    let some : slice_get (x ∷ xs) (length (x ∷ xs) - 1) ≡ Some (get_or (x ∷ xs) (length (x ∷ xs) - 1) x) = slice_get-get_or (x ∷ xs) (length (x ∷ xs) - 1) x (omega arith) in absurd cc

-- the last of a list
last_of_push : {X : Type 0} (xs : List X) (g : X) → slice_get (xs ++ g ∷ []) (length xs) ≡ Some g
last_of_push [] g = refl
last_of_push (x ∷ xs) g = last_of_push xs g

any_push : {X : Type 0} (f : X → Bool) (xs : List X) (g : X) → list_any f (xs ++ g ∷ []) ≡ true → f g ≡ false → list_any f xs ≡ true
any_push f [] g h other = by (f g) h other
  where
    by : (b : Bool) → (b || false) ≡ true → b ≡ false → false ≡ true
    by true h other = sym other
    by false h other = h
any_push f (x ∷ xs) g h other = by (f x) (λ k. any_push f xs g k other) h
  where
    by : (b : Bool) → (list_any f (xs ++ g ∷ []) ≡ true → list_any f xs ≡ true) → (b || list_any f (xs ++ g ∷ [])) ≡ true → (b || list_any f xs) ≡ true
    by true others h = refl
    by false others h = others h

pub none_of : {X : Type 0} (o : Option X) → IsNone o → None ≡ o
none_of None none = refl
none_of (Some x) none = absurd cc

-- a process with a last end is there
pub last-there : (p : Pid) (v : ServiceView) → HasIdleLast p v → p.0 < length v.processes
last-there p v idle =
    there-active v.processes p.0
    (let below : length (active_of v.processes p.0) - 1 < length (active_of v.processes p.0) = slice_get_within _ _ _ idle.is in omega arith)

-- the ends that a process owns are among those that it is known to have
Contains-any : (e : EndId) (xs : List EndId) → list_any (end_eq e) xs ≡ true → Contains xs e
Contains-any e [] h = absurd (true≢false (sym h))
Contains-any e (x ∷ xs) h = by (end_eq e x) refl (λ k. Contains-any e xs k) h
  where
    by : (b : Bool) → end_eq e x ≡ b → (list_any (end_eq e) xs ≡ true → Contains xs e) → (b || list_any (end_eq e) xs) ≡ true → Contains (x ∷ xs) e
    by true same others h = (0, omega arith, sym (end_eq-same e x same))
    by false apart others h = let found : Contains xs e = others h in (suc found.0, (let below : found.0 < length xs = found.1 in omega arith), found.2)

pub owned-held : (p : Pid) (v : ServiceView) → IsWellKept v → (e : EndId) → is_owned_by p (ends_of v.links e).place ≡ true → Contains (held_by v.processes p.0) e
unfolding known_of
owned-held p v well e own = Contains-any e (held_by v.processes p.0) (well.all e p own).0

-- without a last end, no activity is started
pub none-started : (p : Pid) (v : ServiceView) → IsWellKept v → None ≡ slice_get (active_of v.processes p.0) (length (active_of v.processes p.0) - 1) → HasStarted (ends_of v.links) p → ⊥
unfolding known_of
none-started p v well none (e, own, started) =
    true≢false (sym ((well.all e p own).1 started) ∙ ap (list_any (end_eq e)) (no_last (active_of v.processes p.0) none))

-- the last end is lost
module _ (p : Pid) (v : ServiceView) (new : List ControlBlock) (well : IsWellKept v) (idle : HasIdleLast p v) (loses : LosesLast p v.processes new) where
  within : 0 < length (active_of v.processes p.0)
  within = let below : length (active_of v.processes p.0) - 1 < length (active_of v.processes p.0) = slice_get_within _ _ _ idle.is in omega arith

  -- it is what is gone
  gone-is : (g : EndId) → loses.gone ≡ Some g → g ≡ idle.last
  gone-is g is =
      let pushed : active_of v.processes p.0 ≡ active_of new p.0 ++ g ∷ [] = loses.active ∙ ap (λ o. active_of new p.0 ++ option_to_list o) is in
      let long : length (active_of v.processes p.0) - 1 ≡ length (active_of new p.0) = omega (arith, ap length pushed, length-append (active_of new p.0) (g ∷ [])) in
      let found : slice_get (active_of v.processes p.0) (length (active_of v.processes p.0) - 1) ≡ Some g
      = (λ i. slice_get (pushed i) (long i)) ∙ last_of_push (active_of new p.0) g in
      let same : Some g ≡ Some idle.last = sym found ∙ idle.is in cc

  stays : (o : Option EndId) → loses.gone ≡ o → (e : EndId) → (end_eq e idle.last ≡ true → ⊥) → list_any (end_eq e) (active_of v.processes p.0) ≡ true → list_any (end_eq e) (active_of new p.0) ≡ true
  stays None is e other h =
      ap (list_any (end_eq e)) (sym (loses.active ∙ ap (λ o. active_of new p.0 ++ option_to_list o) is ∙ append-nil (active_of new p.0))) ∙ h
  stays (Some g) is e other h =
      any_push (end_eq e) (active_of new p.0) g (ap (list_any (end_eq e)) (sym (loses.active ∙ ap (λ o. active_of new p.0 ++ option_to_list o) is)) ∙ h)
      (apart (end_eq e g) (λ same. other (ap (end_eq e) (sym (gone-is g is)) ∙ same)))
    where
      apart : (b : Bool) → (b ≡ true → ⊥) → b ≡ false
      apart true never = absurd (never refl)
      apart false never = refl

  both : (a b : Bool) → a ≡ true → b ≡ true → (a && b) ≡ true
  both true b h k = k
  both false b h k = h

  pub loses-known : AreKnown (known_of new) (ends_of v.links)
  unfolding known_of
  loses-known =
      record {
        all = λ e q own. (
          ap (λ h. h q.0 e) loses.held ∙ (well.all e q own).0,
          λ started. by q (nat_eq p.0 q.0) refl e own started ((well.all e q own).1 started),
        );
      }
    where
      by : (q : Pid) (b : Bool) → nat_eq p.0 q.0 ≡ b → (e : EndId) → is_owned_by q (ends_of v.links e).place ≡ true → is_active (ends_of v.links e) ≡ true
          → list_any (end_eq e) (active_of v.processes q.0) ≡ true → list_any (end_eq e) (active_of new q.0) ≡ true
      by q false apart e own started was = ap (list_any (end_eq e)) (loses.others q.0 apart) ∙ was
      by q true same e own started was =
          let one : p ≡ q = same_pid p q same in
          subst (λ (r : Pid). list_any (end_eq e) (active_of new r.0) ≡ true) one
          (stays loses.gone refl e
          (λ last. idle.idle (both _ _ (ap (λ x. is_owned_by p (ends_of v.links x).place) (sym (end_eq-same e idle.last last)) ∙ subst (λ (r : Pid). is_owned_by r (ends_of v.links e).place ≡ true) (sym one) own)
          (ap (λ x. is_active (ends_of v.links x)) (sym (end_eq-same e idle.last last)) ∙ started)))
          (subst (λ (r : Pid). list_any (end_eq e) (active_of v.processes r.0) ≡ true) (sym one) was))

  pub loses-one : length (active_of new p.0) < length (active_of v.processes p.0)
  loses-one = by loses.gone refl (loses.some within)
    where
      by : (o : Option EndId) → loses.gone ≡ o → IsSome o → length (active_of new p.0) < length (active_of v.processes p.0)
      by None is some = absurd (true≢false (sym some))
      by (Some g) is some =
          let pushed : active_of v.processes p.0 ≡ active_of new p.0 ++ g ∷ [] = loses.active ∙ ap (λ o. active_of new p.0 ++ option_to_list o) is in
          omega (arith, ap length pushed, length-append (active_of new p.0) (g ∷ []))

-- a process with a report is there
reports-there : (xs : List ControlBlock) (q : ℕ) (r : Report) → slice_get (process_of xs q).reports 0 ≡ Some r → q < length xs
unfolding process_of
reports-there [] zero r h = absurd cc
reports-there [] (suc q) r h = absurd cc
reports-there (x ∷ xs) zero r h = omega arith
reports-there (x ∷ xs) (suc q) r h = let below : q < length xs = reports-there xs q r h in omega arith

pub oldest-there : (v : ServiceView) (p : Pid) (r : Report) → IsOldest (state_of v) p r → p.0 < length v.processes
unfolding state_of
oldest-there v p r oldest = reports-there v.processes p.0 r oldest.1

-- a process that runs is there
pub running-there : (xs : List ControlBlock) (q : ℕ) → is_running (process_of xs q).phase ≡ true → q < length xs
unfolding process_of
running-there [] zero h = absurd (true≢false (sym h))
running-there [] (suc q) h = absurd (true≢false (sym h))
running-there (x ∷ xs) zero h = omega arith
running-there (x ∷ xs) (suc q) h = let below : q < length xs = running-there xs q h in omega arith
