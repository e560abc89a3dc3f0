-- What changes nothing that makes a node one: its port learns, it passes a gate, or it is asked whom its letters reached.
use Rattle.std.proofs.Common.{◌≡◌, ℕ, ◌≤◌, List, [], ◌++◌, All, IfSome, IsSome, length, refl, ap, sym, subst, ◌∙◌, append-nil, arith}
use Rattle.charlotte_calls.specs.declared.names.Pid.{Pid}
use Rattle.charlotte_calls.specs.declared.setting.Setting.{Setting}
use Rattle.kernel_core.specs.State.{KernelView}
use Rattle.kernel_entries.specs.declared.entry.Entry.{Entry}
use Rattle.kernel_net.specs.Ports.{HasLooked, Place, got_from, kernels_of, place_of, put_to}
use Rattle.kernel_named.specs.Named.{GoWithin}
use Rattle.kernel_outbox.specs.Letters.{outbox_to}
use Rattle.kernel_step.specs.Start.{start_kernel}
use Rattle.program_runs.specs.Local.{LocalEvent}
use Rattle.program_round.specs.declared.programs.Programs.{Programs}
use Rattle.kernel_turns.proofs.Working.{run-kept}
use Rattle.kernel_turns.specs.Courses.{marked_of}
use Rattle.kernel_turns.specs.Events.{FitsPort}
use Rattle.kernel_turns.specs.Goes.{Goes}
use Rattle.kernel_turns.specs.Letters.{letters_from, letters_of, told}
use Rattle.kernel_turns.specs.Nodes.{ArePlaying, HasSent, HasTaken, IsBy, IsNode, Meaning}
use Rattle.kernel_turns.specs.declared.base.Base.{Base}
use Rattle.kernel_turns.specs.declared.course.Course.{Course}
use Rattle.kernel_turns.specs.declared.node.Node.{Node}

-- what was put, got and is to be put is as it was
record IsAlike (old new : Base) : Type 0 where
  kernel : new.kernel ≡ old.kernel
  entries : new.journal.entries ≡ old.journal.entries
  put : (to : ℕ) → put_to new.port to ≡ put_to old.port to
  got : (from : ℕ) → got_from new.port from ≡ got_from old.port from
  outbox : (to : ℕ) → outbox_to new.outbox to ≡ outbox_to old.outbox to
  fits : FitsPort old → FitsPort new
  place : place_of new.port ≡ place_of old.port
  course : new.course ≡ old.course
  orders : new.orders ≡ old.orders
  used : new.used ≡ old.used

alike-whole : (old new : Base) → IsAlike old new → (to : ℕ) → put_to new.port to ++ outbox_to new.outbox to ≡ put_to old.port to ++ outbox_to old.outbox to
alike-whole old new alike to = ap (λ ls. ls ++ outbox_to new.outbox to) (alike.put to) ∙ ap (λ ls. put_to old.port to ++ ls) (alike.outbox to)

alike-sent : (s : Setting) (k : ℕ) (made : List LocalEvent) (old new : Base) → IsAlike old new → HasSent s k made old → HasSent s k made new
alike-sent s k made old new alike sent =
    record {
      put = λ to. ap told (alike-whole old new alike to) ∙ sent.put to ∙ ap (λ (c : Course). letters_of s.kernels c.begun to (start_kernel s k) made) (sym alike.course);
      begun = subst (λ (c : Course). IfSome c.begun (λ n. n ≤ length made)) (sym alike.course) sent.begun;
      stamps = λ to. subst (λ (v : KernelView). All (IsBy v.stamp) (told (put_to new.port to ++ outbox_to new.outbox to))) (sym alike.kernel)
          (subst (λ ls. All (IsBy old.kernel.stamp) (told ls)) (sym (alike-whole old new alike to)) (sent.stamps to));
      number = ap (λ (p : Place). p.kernel) alike.place ∙ sent.number;
      kernels = ap kernels_of alike.place ∙ sent.kernels;
      fits = alike.fits sent.fits;
    }

alike-taken : (made : List LocalEvent) (old new : Base) → IsAlike old new → HasTaken made old → HasTaken made new
alike-taken made old new alike taken =
    record {
      got = λ from. ap told (alike.got from) ∙ taken.got from ∙ ap (λ (c : Course). letters_from (marked_of c from) from made) (sym alike.course);
      marked = λ from. subst (λ (c : Course). IfSome (marked_of c from) (λ n. (n ≤ length made) × IsSome c.begun)) (sym alike.course) (taken.marked from);
      marks = subst (λ (c : Course). length c.marked ≡ 8) (sym alike.course) taken.marks;
    }

module _ {P S W V : Type 0} (m : Meaning P S) (HasSeen : W → List Entry → Type 0) (made_with : W → V) where
  alike-node : (s : Setting) (k : ℕ) (first : List (Pid × P)) (made : List LocalEvent) (old new : Node P W) → IsAlike old.base new.base → new.programs ≡ old.programs → new.watch ≡ old.watch
      → new.spoiled ≡ old.spoiled → IsNode m HasSeen s k first made old → IsNode m HasSeen s k first made new
  alike-node s k first made old new alike programs watch spoiled node =
      record {
        run = run-kept s k made old.base new.base alike.kernel alike.entries node.run;
        sent = λ e. alike-sent s k made old.base new.base alike (node.sent (sym spoiled ∙ e));
        taken = λ e. alike-taken made old.base new.base alike (node.taken (sym spoiled ∙ e));
        programs = λ e.
            subst (λ es. ArePlaying m s k first made es new.base.used new.programs) (sym alike.entries)
            (subst (λ u. ArePlaying m s k first made old.base.journal.entries u new.programs) (sym alike.used)
            (subst (λ (ps : Programs P). ArePlaying m s k first made old.base.journal.entries old.base.used ps) (sym programs) (node.programs (sym spoiled ∙ e))));
        watch = λ e. subst (λ es. HasSeen new.watch es) (sym alike.entries) (subst (λ w. HasSeen w old.base.journal.entries) (sym watch) (node.watch (sym spoiled ∙ e)));
        limit = omega (arith, node.limit, alike.used, ap (λ o. o.limit) alike.orders);
        most = omega (arith, node.most, ap (λ o. o.limit) alike.orders);
      }

  alike-goes : (old new : Node P W) → IsAlike old.base new.base → new.programs ≡ old.programs → new.watch ≡ old.watch → new.spoiled ≡ old.spoiled → Goes m HasSeen made_with old new
  alike-goes old new alike programs watch spoiled =
      record {
        node = λ s k first made valid node.
            ([], alike-node s k first (made ++ []) old new alike programs watch spoiled (subst (λ es. IsNode m HasSeen s k first es old) (sym (append-nil made)) node));
        place = alike.place;
        orders = alike.orders;
        count = ap (λ (ps : Programs P). length ps.all.items) programs;
        watch = ap made_with watch;
      }

  -- its port learned what the port of a kernel knows
  pub goes-looked : (old new : Node P W) (at : ℕ) → place_of new.base.port ≡ place_of old.base.port → HasLooked at old.base.port new.base.port
      → new ≡ record old { base = record old.base { port = new.base.port } } → Goes m HasSeen made_with old new
  goes-looked old new at place looked rest = subst (Goes m HasSeen made_with old) (sym rest) (alike-goes old (record old { base = record old.base { port = new.base.port } }) alike refl refl refl)
    where
      alike : IsAlike old.base (record old.base { port = new.base.port })
      alike = record {
        kernel = refl;
        entries = refl;
        put = λ to. ap (λ f. f to) looked.put;
        got = λ from. ap (λ f. f from) looked.got;
        outbox = λ to. refl;
        fits = λ fits. record {
          lists = subst (λ (p : Place). length old.base.outbox.waiting.items ≤ kernels_of p) (sym place) fits.lists;
          within = subst (λ (p : Place). GoWithin (kernels_of p) old.base.outbox.unsent.items) (sym place) fits.within;
        };
        place = place;
        course = refl;
        orders = refl;
        used = refl;
      }

  -- it was asked whom its letters reached
  pub goes-reached : (old new : Node P W) → new ≡ record old { base = record old.base { outbox = record old.base.outbox { reached = new.base.outbox.reached } } } → Goes m HasSeen made_with old new
  goes-reached old new rest =
      subst (Goes m HasSeen made_with old) (sym rest)
      (alike-goes old (record old { base = record old.base { outbox = record old.base.outbox { reached = new.base.outbox.reached } } })
      (record { kernel = refl; entries = refl; put = λ to. refl; got = λ from. refl; outbox = λ to. refl; fits = λ fits. record { lists = fits.lists; within = fits.within }; place = refl; course = refl; orders = refl; used = refl })
      refl refl refl)

  -- it passed a gate
  pub goes-passed : (old new : Node P W) → new ≡ record old { passes = new.passes } → Goes m HasSeen made_with old new
  goes-passed old new rest =
      subst (Goes m HasSeen made_with old) (sym rest)
      (alike-goes old (record old { passes = new.passes })
      (record { kernel = refl; entries = refl; put = λ to. refl; got = λ from. refl; outbox = λ to. refl; fits = λ fits. fits; place = refl; course = refl; orders = refl; used = refl })
      refl refl refl)
