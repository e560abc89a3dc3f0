-- What each event does in a world, by what its kernel gives.
use Rattle.std.proofs.Common.{◌≡◌, ℕ, Bool, true, false, nat_eq, ◌&&◌, max, if◌then◌else◌, List, [], ◌∷◌, ◌++◌, map, append-nil, Option, Some, None, refl, sym, ap, subst, ◌∙◌, eq-eqb, eqb-true}
use Rattle.charlotte_calls.specs.declared.calls.Answer.{Answer}
use Rattle.charlotte_calls.specs.declared.calls.Answer.TheVariants as answer
use Rattle.charlotte_calls.specs.declared.calls.Call.{Call}
use Rattle.charlotte_calls.specs.declared.calls.Cause.{Cause}
use Rattle.charlotte_calls.specs.declared.calls.Report.{Report}
use Rattle.charlotte_calls.specs.declared.calls.ServiceStep.TheVariants as step
use Rattle.charlotte_calls.specs.declared.names.EndId.{EndId}
use Rattle.charlotte_calls.specs.declared.names.Pid.{Pid}
use Rattle.charlotte_packets.specs.declared.picture.Picture.{Picture}
use Rattle.kernel_effects.specs.Calls.{act_effect}
use Rattle.kernel_effects.specs.Effect.{Effect, stamped}
use Rattle.kernel_outcomes.proofs.Called.{call-gives, call-refused}
use Rattle.kernel_outcomes.specs.Closing.{EffectGives, Gives, call_answered, call_told, called, ran, told_entry}
use Rattle.kernel_sound.specs.Acts.{made_after}
use Rattle.kernel_sound.specs.Sound.{IsSound}
use Rattle.kernel_step.specs.Calls.{IsCallWith, refusal}
use Rattle.kernel_step.specs.Kernel.{Kernel, call_step, has_report, next_stamp, process_of, take_step, without_answer}
use Rattle.kernel_world.proofs.Packets.{happens-packets}
use Rattle.kernel_world.specs.World.{World, Event, Calls, Takes, happens, kernel_of, left_at, outcome, rest, takes_first, to_kernel}
use Rattle.theorem_meaning.specs.Packets.{links_of}
use Rattle.theorem_effects.specs.Change.{Change, Changes, Happens, sent_at, taken_at}
use Rattle.theorem_effects.specs.Events.{caller, calling, refusing, taking}

-- kernel s differs from kernel t in the state of process p at most, in the number of links made, and in the table and the stamp
record IsAlike (p : Pid) (s t : Kernel) : Type 0 where
  process : (q : ℕ) → nat_eq p.0 q ≡ false → s.process q ≡ t.process q
  number : s.number ≡ t.number
  kernels : s.kernels ≡ t.kernels
  version : s.version ≡ t.version

module _ (w : World) (e : Event) where
  -- the kernel of an event afterwards
  own-kernel : (k : ℕ) → kernel_of e ≡ k → (happens w e).kernel k ≡ (outcome w e).kernel
  own-kernel k at = ap (λ b. if b then (outcome w e).kernel else w.kernel k) (eq-eqb k (kernel_of e) (sym at))

  -- the others
  other-kernel : (k j : ℕ) → kernel_of e ≡ k → nat_eq j k ≡ false → (happens w e).kernel j ≡ w.kernel j
  other-kernel k j at apart = ap (λ b. if b then (outcome w e).kernel else w.kernel j) (ap (nat_eq j) at ∙ apart)

  module _ (c : Change) (at : kernel_of e ≡ c.kernel) (taken : (from to : ℕ) → w.packets from to ≡ taken_at c from to ++ left_at w e from to) (s : Kernel) (alike : IsAlike c.pid s (w.kernel c.kernel)) (made : s.made ≡ c.made)
      (g : Gives s c.pid c.process (λ q. c.entry q ((w.kernel c.kernel).table q)) c.stamp (map (stamped c.stamp) c.packets) c.answered c.steps (outcome w e)) where
    own : (happens w e).kernel c.kernel ≡ (outcome w e).kernel
    own = own-kernel c.kernel at

    given-process : (q : ℕ) → ((happens w e).kernel c.kernel).process q ≡ (if nat_eq c.pid.0 q then c.process else (w.kernel c.kernel).process q)
    given-process q = ap (λ (t : Kernel). t.process q) own ∙ g.process q ∙ by (nat_eq c.pid.0 q) refl
      where
        by : (b : Bool) → nat_eq c.pid.0 q ≡ b → (if b then c.process else s.process q) ≡ (if b then c.process else (w.kernel c.kernel).process q)
        by true is = refl
        by false is = alike.process q is

    given-packets : (from to : ℕ) → (happens w e).packets from to ≡ left_at w e from to ++ sent_at c from to
    given-packets from to =
        happens-packets w e from to
        ∙ ap (λ k. left_at w e from to ++ (if nat_eq from k then to_kernel to (outcome w e).packets else [])) at
        ∙ ap (λ ps. left_at w e from to ++ (if nat_eq from c.kernel then to_kernel to ps else [])) g.packets

    given-happens : Happens w e c
    given-happens =
        record {
          becomes =
              record {
                links =
                    record {
                      entry = λ q. ap (λ (t : Kernel). t.table q) own ∙ g.table q;
                      others = λ j q apart. ap (λ (t : Kernel). t.table q) (other-kernel c.kernel j at apart);
                      left = left_at w e;
                      before = taken;
                      after = given-packets;
                    };
                process = given-process;
                stamp = ap (λ (t : Kernel). t.stamp) own ∙ g.stamp;
                made = ap (λ (t : Kernel). t.made) own ∙ g.made ∙ made;
                number = ap (λ (t : Kernel). t.number) own ∙ g.number ∙ alike.number;
                kernels = ap (λ (t : Kernel). t.kernels) own ∙ g.kernels ∙ alike.kernels;
                version = ap (λ (t : Kernel). t.version) own ∙ g.version ∙ alike.version;
                others = λ j apart. other-kernel c.kernel j at apart;
              };
          steps = g.steps;
          answered = g.answered;
        }

-- ---- packets

module _ (w : World) (k from : ℕ) (q : Picture) (others : List Picture) (there : w.packets from k ≡ q ∷ others) where
  -- what stays in each list once the first packet of one is taken
  abbrev pub untaken : ℕ → ℕ → List Picture
  untaken i j = if nat_eq i from && nat_eq j k then rest (w.packets i j) else w.packets i j

  pub taken-first : (i j : ℕ) → w.packets i j ≡ (if nat_eq j k then (if nat_eq i from then q ∷ [] else []) else []) ++ untaken i j
  taken-first i j = by (nat_eq i from) (nat_eq j k) refl refl
    where
      by : (a b : Bool) → nat_eq i from ≡ a → nat_eq j k ≡ b → w.packets i j ≡ (if b then (if a then q ∷ [] else []) else []) ++ (if a && b then rest (w.packets i j) else w.packets i j)
      by true true is same =
          let stands : w.packets i j ≡ q ∷ others = ap (λ n. w.packets n j) (eqb-true i from is) ∙ ap (w.packets from) (eqb-true j k same) ∙ there in
          stands ∙ ap (λ ps. q ∷ rest ps) (sym stands)
      by true false is same = refl
      by false true is same = refl
      by false false is same = refl

  -- it is taken, with its effect
  pub takes-happens : (f : Effect) (p : Pid) (given : List Answer) (rs : List Report) → EffectGives (w.kernel k) p (next_stamp (max (w.kernel k).stamp q.stamp)) f given rs (take_step (w.kernel k) from q)
      → Happens w (Takes k from) (taking w k from q f p given rs)
  takes-happens f p given rs g =
      given-happens w (Takes k from) (taking w k from q f p given rs) refl taken-first (w.kernel k) (record { process = λ n apart. refl; number = refl; kernels = refl; version = refl }) refl
      (subst (EffectGives (w.kernel k) p (next_stamp (max (w.kernel k).stamp q.stamp)) f given rs) (ap (takes_first (w.kernel k) from) (sym there)) g)

  -- it alone is taken, and nothing else happens
  abbrev pub only-taken : Pid → Change
  only-taken p = record { kernel = k; taken = Some (from, q); entry = λ e y. y; packets = []; stamp = 0; made = 0; pid = p; process = (w.kernel k).process p.0; answered = []; steps = [] }

  pub only-changes : (p : Pid) → Changes (links_of w) (only-taken p) (record { entry = (links_of w).entry; packets = untaken })
  only-changes p = record { entry = λ e. refl; others = λ j e apart. refl; left = untaken; before = taken-first; after = λ i j. by i j (nat_eq i k) }
    where
      by : (i j : ℕ) (b : Bool) → untaken i j ≡ untaken i j ++ (if b then to_kernel j [] else [])
      by i j true = sym (append-nil (untaken i j))
      by i j false = sym (append-nil (untaken i j))

-- ---- calls

module _ (w : World) (k : ℕ) (p : Pid) (c : Call) (mine : List EndId) where
  abbrev asking : Kernel
  asking = without_answer p (w.kernel k)

  own-caller : process_of p asking ≡ caller p (w.kernel k)
  own-caller = ap (λ b. if b then caller p (w.kernel k) else process_of p (w.kernel k)) (eq-eqb p.0 p.0 refl)

  asking-alike : (made : ℕ) → IsAlike p (record asking { made = made }) (w.kernel k)
  asking-alike made = record { process = λ q apart. ap (λ b. if b then caller p (w.kernel k) else (w.kernel k).process q) apart; number = refl; kernels = refl; version = refl }

  none-taken : (from to : ℕ) → w.packets from to ≡ (if nat_eq to k then [] else []) ++ w.packets from to
  none-taken from to = by (nat_eq to k)
    where
      by : (b : Bool) → w.packets from to ≡ (if b then [] else []) ++ w.packets from to
      by true = refl
      by false = refl

  same-refusal : (r : Option Cause) → refusal p (w.kernel k).table (w.kernel k).made mine (has_report (process_of p (w.kernel k))) c ≡ r
      → refusal p asking.table asking.made mine (has_report (process_of p asking)) c ≡ r
  same-refusal r is = ap (λ x. refusal p (w.kernel k).table (w.kernel k).made mine (has_report x) c) own-caller ∙ is

  -- a call that is not refused
  pub performs-happens : (n : ℕ) (f : Effect) → IsSound (w.kernel k).number (w.kernel k).made n (w.kernel k).table → refusal p (w.kernel k).table (w.kernel k).made mine (has_report (process_of p (w.kernel k))) c ≡ None
      → IsCallWith p (w.kernel k).table mine c → act_effect p (w.kernel k).number (w.kernel k).made mine (w.kernel k).table c ≡ f → Happens w (Calls k p c mine) (calling w k p c f)
  performs-happens n f sound granted with_ends is =
      subst (λ g. Happens w (Calls k p c mine) (calling w k p c g)) is
      (given-happens w (Calls k p c mine) (calling w k p c act) refl none-taken (record asking { made = made_after c (w.kernel k).made }) (asking-alike (made_after c (w.kernel k).made)) refl
      (subst (λ x. Gives (record asking { made = made_after c (w.kernel k).made }) p (called (w.kernel k).number (w.kernel k).made (w.kernel k).table p c x) (λ q. told_entry (call_told c x.reports) q (act.entry q ((w.kernel k).table q)))
      (next_stamp (w.kernel k).stamp) (map (stamped (next_stamp (w.kernel k).stamp)) act.packets) (call_answered p c x.reports) (act.steps ++ map (step.Report p) (call_told c x.reports)) (call_step asking p mine c)) own-caller
      (call-gives n asking p mine sound c (same-refusal None granted) with_ends)))
    where
      act : Effect
      act = act_effect p (w.kernel k).number (w.kernel k).made mine (w.kernel k).table c

  -- one that is
  pub refused-happens : (cause : Cause) → refusal p (w.kernel k).table (w.kernel k).made mine (has_report (process_of p (w.kernel k))) c ≡ Some cause → Happens w (Calls k p c mine) (refusing w k p c cause)
  refused-happens cause refused =
      given-happens w (Calls k p c mine) (refusing w k p c cause) refl none-taken asking (asking-alike (w.kernel k).made) refl
      (subst (λ x. Gives asking p (ran x (answer.Refused cause)) (w.kernel k).table (next_stamp (w.kernel k).stamp) [] (p ∷ []) (step.Refuse p c cause ∷ []) (call_step asking p mine c)) own-caller
      (call-refused asking p mine c cause (same-refusal (Some cause) refused)))
