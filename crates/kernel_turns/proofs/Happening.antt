-- One event at a node: what the kernel gave is noted and goes out.
use Rattle.std.proofs.Common.{◌≡◌, ◌≢◌, ◌⊎◌, inl, inr, ℕ, ◌+◌, ◌^◌, ◌<◌, ◌≤◌, arith, true, false, nat_eq, List, [], ◌∷◌, ◌++◌, All, length, map, ap, sym, refl, subst, ◌∙◌, append-nil}
use Rattle.std.proofs.lemmas.List.{length-map, map-append}
use Rattle.std.proofs.lemmas.Bool.Decides.{eqb_tells}
use Rattle.charlotte_calls.specs.declared.names.Pid.{Pid}
use Rattle.charlotte_packets.specs.declared.packet.Packet.{Packet}
use Rattle.charlotte_packets.specs.declared.work.Effect.{Effect}
use Rattle.journal_text.specs.Journal.{IsAfterLast}
use Rattle.kernel_core.specs.State.{KernelView, ended, state_of}
use Rattle.kernel_entries.specs.declared.entry.Entry.{Entry}
use Rattle.kernel_named.specs.Named.{GoWithin}
use Rattle.kernel_outbox.specs.Letters.{letters_for, outbox_to, waiting_to}
use Rattle.kernel_step.specs.Kernel.{Outcome}
use Rattle.kernel_step.specs.Progress.{sent_picture}
use Rattle.kernel_world.specs.World.{to_kernel}
use Rattle.std.specs.Prelude.{slice_index_or}
use Rattle.kernel_net.specs.declared.letter.Letter.TheVariants as letter
use Rattle.charlotte_calls.specs.declared.setting.Setting.{Setting}
use Rattle.kernel_entries.specs.Ranges.{IsEntryInRange}
use Rattle.kernel_step.specs.Start.{start_kernel}
use Rattle.program_runs.specs.Local.{IsLocalEvent, LocalEvent, entries_of, entry_of, gives, happened}
use Rattle.kernel_turns.specs.Nodes.{HasRun}
use Rattle.kernel_turns.proofs.Runs.{entries-more, left-more, run-more}
use Rattle.kernel_turns.specs.Events.{Happens}
use Rattle.kernel_turns.specs.Letters.{packets, told, told_of}
use Rattle.kernel_turns.specs.declared.base.Base.{Base}

-- a stamp that is greater still
pub after-later : (es : List Entry) (a b : ℕ) → IsAfterLast es a → a ≤ b → IsAfterLast es b
after-later [] a b after less = tt
after-later (e ∷ []) a b after less = omega (arith, after, less)
after-later (e ∷ f ∷ es) a b after less = after-later (f ∷ es) a b after less

-- the letters to a kernel among packets are the packets to it
letters-told : (to : ℕ) (sent : List (ℕ × Packet)) → told (letters_for to sent) ≡ packets (to_kernel to (map sent_picture sent))
letters-told to [] = refl
letters-told to (x ∷ xs) = by (eqb_tells to x.0) (letters-told to xs)
  where
    by : ((nat_eq to x.0 ≡ true) × (to ≡ x.0)) ⊎ ((nat_eq to x.0 ≡ false) × (to ≢ x.0)) → told (letters_for to xs) ≡ packets (to_kernel to (map sent_picture xs))
        → told (letters_for to (x ∷ xs)) ≡ packets (to_kernel to (map sent_picture (x ∷ xs)))
    by (inl e) rest = rw e.0 (ap (λ ls. told_of (letter.Packet x.1) ∷ ls) rest)
    by (inr e) rest = rw e.0 rest

-- an effect has what an outcome says
pub record IsEffectOf (k : KernelView) (effect : Effect) (o : Outcome) : Type 0 where
  pub kernel : state_of k ≡ o.kernel
  pub stamp : effect.stamp ≡ o.kernel.stamp
  pub packets_are : map sent_picture effect.packets.items ≡ o.packets
  pub answered : effect.answered.items ≡ o.answered
  pub steps : effect.steps.items ≡ o.steps

state_of-stamp : (k : KernelView) → (state_of k).stamp ≡ k.stamp
unfolding state_of
state_of-stamp k = refl

pub effect_of : (k : KernelView) (effect : Effect) (o : Outcome) → ended (state_of k) effect ≡ o → effect.stamp ≡ k.stamp → IsEffectOf k effect o
unfolding ended
effect_of k effect o e at =
    record {
      kernel = ap (λ (x : Outcome). x.kernel) e;
      stamp = at ∙ sym (state_of-stamp k) ∙ ap (λ (x : Outcome). x.kernel.stamp) e;
      packets_are = ap (λ (x : Outcome). x.packets) e;
      answered = ap (λ (x : Outcome). x.answered) e;
      steps = ap (λ (x : Outcome). x.steps) e;
    }

-- an event is over: what its effect has is noted and goes out
pub record Closes (o : LocalEvent) (effect : Effect) (k : KernelView) (old new : Base) (who : List Pid) : Type 0 where
  pub kernel : new.kernel ≡ k
  pub noted : new.journal.entries ≡ old.journal.entries ++ record { stamp = effect.stamp; what = happened o; steps = effect.steps.items } ∷ []
  pub unsent : new.outbox.unsent.items ≡ effect.packets.items
  pub few : length effect.packets.items < 2 ^ 63
  pub waiting : new.outbox.waiting ≡ old.outbox.waiting
  pub answered : who ≡ effect.answered.items
  pub used : new.used ≡ old.used + 1
  pub port : new.port ≡ old.port
  pub course : new.course ≡ old.course
  pub orders : new.orders ≡ old.orders

pub happens-of : (o : LocalEvent) (effect : Effect) (k : KernelView) (old new : Base) (who : List Pid) → IsEffectOf k effect (gives (state_of old.kernel) o)
    → length k.processes ≡ length old.kernel.processes → k.kernels ≡ old.kernel.kernels → GoWithin k.kernels effect.packets.items → old.outbox.unsent.items ≡ [] → Closes o effect k old new who → Happens o old new who
happens-of o effect k old new who is processes kernels there none closes =
    record {
      kernel = ap state_of closes.kernel ∙ is.kernel;
      processes = ap (λ (v : KernelView). length v.processes) closes.kernel ∙ processes;
      kernels = ap (λ (v : KernelView). v.kernels) closes.kernel ∙ kernels;
      within = subst (λ (v : KernelView). GoWithin v.kernels new.outbox.unsent.items) (sym closes.kernel) (subst (GoWithin k.kernels) (sym closes.unsent) there);
      lists = ap (λ ws. length ws.items) closes.waiting;
      noted = closes.noted ∙ ap (λ e. old.journal.entries ++ e ∷ []) entry;
      few = few;
      sent = sent;
      answered = closes.answered ∙ is.answered;
      used = closes.used;
      port = closes.port;
      course = closes.course;
      orders = closes.orders;
    }
  where
    entry : record { stamp = effect.stamp; what = happened o; steps = effect.steps.items } ≡ entry_of (state_of old.kernel) o
    entry = ap (λ s. record { stamp = s; what = happened o; steps = effect.steps.items }) is.stamp ∙ ap (λ ss. record { stamp = (gives (state_of old.kernel) o).kernel.stamp; what = happened o; steps = ss }) is.steps

    few : length (gives (state_of old.kernel) o).packets < 2 ^ 63
    few = omega (arith, sym (ap length is.packets_are), length-map effect.packets.items sent_picture, closes.few)

    before : (to : ℕ) → told (outbox_to old.outbox to) ≡ told (waiting_to old.outbox to)
    before to = ap (λ xs. told (waiting_to old.outbox to ++ letters_for to xs)) none ∙ ap told (append-nil (waiting_to old.outbox to))

    sent : (to : ℕ) → told (outbox_to new.outbox to) ≡ told (outbox_to old.outbox to) ++ packets (to_kernel to (gives (state_of old.kernel) o).packets)
    sent to =
        ap (λ xs. told (waiting_to new.outbox to ++ letters_for to xs)) closes.unsent
        ∙ ap (λ ws. told (slice_index_or (map (λ list. list.items) ws.items) to [] ++ letters_for to effect.packets.items)) closes.waiting
        ∙ map-append told_of (waiting_to old.outbox to) (letters_for to effect.packets.items)
        ∙ ap (λ ls. told (waiting_to old.outbox to) ++ ls) (letters-told to effect.packets.items ∙ ap (λ qs. packets (to_kernel to qs)) is.packets_are)
        ∙ ap (λ ls. ls ++ packets (to_kernel to (gives (state_of old.kernel) o).packets)) (sym (before to))

-- ---- the run of a node with one event more

pub run-after : (s : Setting) (k : ℕ) (made : List LocalEvent) (o : LocalEvent) (old new : Base) (who : List Pid) → HasRun s k made old → IsLocalEvent s k (state_of old.kernel) o
    → Happens o old new who → All IsEntryInRange new.journal.entries → HasRun s k (made ++ o ∷ []) new
run-after s k made o old new who run is happens in_range =
    record {
      local = run-more s k (start_kernel s k) made o run.local (subst (λ x. IsLocalEvent s k x o) run.kernel is);
      kernel = happens.kernel ∙ ap (λ x. (gives x o).kernel) run.kernel ∙ sym (left-more (start_kernel s k) made o);
      processes = happens.processes ∙ run.processes;
      kernels = happens.kernels ∙ run.kernels;
      noted =
          happens.noted ∙ ap (λ es. es ++ entry_of (state_of old.kernel) o ∷ []) run.noted ∙ ap (λ x. entries_of (start_kernel s k) made ++ entry_of x o ∷ []) run.kernel
          ∙ sym (entries-more (start_kernel s k) made o);
      in_range = in_range;
    }
