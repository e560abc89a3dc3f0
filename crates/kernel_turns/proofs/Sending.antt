-- What a node sends, along its work: letters that were put, and those in its outbox.
use Rattle.std.proofs.Common.{◌≡◌, ℕ, ◌<◌, ◌≤◌, Bool, nat_eq, List, [], ◌∷◌, ◌++◌, All, Option, Some, None, IfSome, append_assoc, append-nil, drop, length, map, ap, sym, subst, ◌∙◌, arith}
use Rattle.std.specs.List.{filter}
use Rattle.std.specs.Prelude.{slice_index_or}
use Rattle.std.proofs.lemmas.List.{length-append, map-append}
use Rattle.std.proofs.lemmas.List.Elements.{All-append, All-filter, All-map, All-weaker}
use Rattle.std.proofs.Math.Seq.{drop-length, take-length}
use Rattle.charlotte_calls.specs.declared.names.Pid.{Pid}
use Rattle.charlotte_calls.specs.declared.setting.Setting.{Setting}
use Rattle.charlotte_packets.specs.declared.picture.Picture.{Picture}
use Rattle.kernel_core.specs.State.{KernelView, state_of}
use Rattle.kernel_named.specs.Named.{GoWithin}
use Rattle.kernel_net.specs.Letters.{greatest_stamp}
use Rattle.kernel_net.specs.Ports.{Place, PortView, kernels_of, place_of, put_to}
use Rattle.kernel_net.specs.Rings.{Outlet}
use Rattle.kernel_net.specs.declared.letter.Letter.{Letter}
use Rattle.kernel_outbox.specs.Letters.{markers_to, outbox_to}
use Rattle.kernel_step.specs.Kernel.{Kernel}
use Rattle.kernel_step.specs.Start.{start_kernel}
use Rattle.kernel_world.specs.World.{to_kernel}
use Rattle.program_runs.proofs.Kernels.{local-gives}
use Rattle.program_runs.specs.Local.{IsLocalEvent, LocalEvent, gives, happened, left_by, sends_to}
use Rattle.transcript_record.proofs.Kept.{IsFewSent}
use Rattle.transcript_record.proofs.KeptSteps.{Gives}
use Rattle.kernel_turns.proofs.Later.{later-stamp, state-stamp, told-node}
use Rattle.kernel_turns.proofs.Marking.{markers-by}
use Rattle.kernel_turns.proofs.Runs.{letters-more, letters-more_begun}
use Rattle.kernel_turns.specs.Events.{Happens}
use Rattle.kernel_turns.specs.Letters.{AMarker, APacket, Told, letters_of, marker_told, packets, told, told_of}
use Rattle.kernel_turns.specs.Nodes.{HasRun, HasSent, IsBy}
use Rattle.kernel_turns.specs.Turns.{Began, Begins, BeginsOnce, GetsLetter, HasBegun, PutsLetters}
use Rattle.kernel_turns.specs.declared.base.Base.{Base}
use Rattle.kernel_turns.specs.declared.course.Course.{Course}

-- ---- a letter is got

pub sent-got : (s : Setting) (k : ℕ) (made : List LocalEvent) (old new : Base) (from : ℕ) (l : Letter) → GetsLetter from l old new → HasSent s k made old → HasSent s k made new
sent-got s k made old new from l gets sent = subst (HasSent s k made) (sym gets.rest) with_port
  where
    same : (to : ℕ) → put_to new.port to ≡ put_to old.port to
    same to = ap (λ (os : List Outlet). slice_index_or (map (λ o. o.put) os) to []) gets.got.out

    kernels : kernels_of (place_of new.port) ≡ kernels_of (place_of old.port)
    kernels = ap kernels_of gets.place

    with_port : HasSent s k made (record old { port = new.port })
    with_port = record {
      put = λ to. ap (λ ls. told (ls ++ outbox_to old.outbox to)) (same to) ∙ sent.put to;
      begun = sent.begun;
      stamps = λ to. subst (λ ls. All (IsBy old.kernel.stamp) (told (ls ++ outbox_to old.outbox to))) (sym (same to)) (sent.stamps to);
      number = ap (λ (p : Place). p.kernel) gets.place ∙ sent.number;
      kernels = kernels ∙ sent.kernels;
      fits = record {
        lists = subst (λ n. length old.outbox.waiting.items ≤ n) (sym kernels) sent.fits.lists;
        within = subst (λ n. GoWithin n old.outbox.unsent.items) (sym kernels) sent.fits.within;
      };
    }

-- ---- letters are put

pub sent-put : (s : Setting) (k : ℕ) (made : List LocalEvent) (put : Bool) (old new : Base) → PutsLetters put old new → HasSent s k made old → HasSent s k made new
sent-put s k made put old new puts sent =
    record {
      put = λ to. ap told (puts.flushed.letters to) ∙ sent.put to ∙ ap (λ (c : Course). letters_of s.kernels c.begun to (start_kernel s k) made) (sym puts.course);
      begun = subst (λ (c : Course). IfSome c.begun (λ n. n ≤ length made)) (sym puts.course) sent.begun;
      stamps = λ to. subst (λ (v : KernelView). All (IsBy v.stamp) (told (put_to new.port to ++ outbox_to new.outbox to))) (sym puts.kept.kernel)
          (subst (λ ls. All (IsBy old.kernel.stamp) (told ls)) (sym (puts.flushed.letters to)) (sent.stamps to));
      number = ap (λ (p : Place). p.kernel) puts.flushed.place ∙ sent.number;
      kernels = ap kernels_of puts.flushed.place ∙ sent.kernels;
      fits = puts.fits;
    }

-- ---- the node begins

-- a marker behind all that a run sent
letters-marker : (kernels : ℕ) (x : Kernel) (made : List LocalEvent) (to : ℕ)
    → letters_of kernels (Some (length made)) to x made ≡ letters_of kernels None to x made ++ marker_told kernels to
letters-marker kernels x made to =
    ap (λ es. packets (sends_to to x es) ++ marker_told kernels to ++ packets (sends_to to (left_by x es) (drop (length made) made))) (take-length made)
    ∙ ap (λ es. packets (sends_to to x made) ++ marker_told kernels to ++ packets (sends_to to (left_by x made) es)) (drop-length made)
    ∙ append-nil (packets (sends_to to x made) ++ marker_told kernels to)

begins-whole : (old new : Base) → HasBegun old new → (to : ℕ)
    → told (put_to new.port to ++ outbox_to new.outbox to) ≡ told (put_to old.port to ++ outbox_to old.outbox to) ++ marker_told (kernels_of (place_of old.port)) to
begins-whole old new h to =
    ap (λ (p : PortView). told (put_to p to ++ outbox_to new.outbox to)) h.port
    ∙ ap (λ ls. told (put_to old.port to ++ ls)) (h.letters to)
    ∙ ap told (sym (append_assoc (put_to old.port to) (outbox_to old.outbox to) (markers_to (kernels_of (place_of old.port)) to)))
    ∙ map-append told_of (put_to old.port to ++ outbox_to old.outbox to) (markers_to (kernels_of (place_of old.port)) to)

pub sent-begun : (s : Setting) (k : ℕ) (made : List LocalEvent) (old new : Base) → BeginsOnce old new → length old.journal.entries ≡ length made → HasSent s k made old → HasSent s k made new
sent-begun s k made old new (Began n is same) long sent = subst (HasSent s k made) same sent
sent-begun s k made old new (Begins h) long sent =
    let early : length old.journal.entries ≤ length made = omega (arith, long) in
    record {
      put = λ to.
          begins-whole old new h to
          ∙ ap (λ ls. ls ++ marker_told (kernels_of (place_of old.port)) to) (sent.put to ∙ ap (λ o. letters_of s.kernels o to (start_kernel s k) made) h.before)
          ∙ ap (λ n. letters_of s.kernels None to (start_kernel s k) made ++ marker_told n to) sent.kernels
          ∙ sym (letters-marker s.kernels (start_kernel s k) made to)
          ∙ ap (λ n. letters_of s.kernels (Some n) to (start_kernel s k) made) (sym long)
          ∙ ap (λ (c : Course). letters_of s.kernels c.begun to (start_kernel s k) made) (sym h.course);
      begun = subst (λ (c : Course). IfSome c.begun (λ n. n ≤ length made)) (sym h.course) early;
      stamps = λ to. subst (λ (v : KernelView). All (IsBy v.stamp) (told (put_to new.port to ++ outbox_to new.outbox to))) (sym h.kept.kernel)
          (subst (All (IsBy old.kernel.stamp)) (sym (begins-whole old new h to))
          (All-append (IsBy old.kernel.stamp) (told (put_to old.port to ++ outbox_to old.outbox to)) (marker_told (kernels_of (place_of old.port)) to) (sent.stamps to)
          (markers-by old.kernel.stamp None (kernels_of (place_of old.port)) to)));
      number = ap (λ (p : PortView). p.kernel) h.port ∙ sent.number;
      kernels = ap (λ (p : PortView). kernels_of (place_of p)) h.port ∙ sent.kernels;
      fits = h.fits;
    }

-- ---- an event happens

letters-one : (kernels : ℕ) (begun : Option ℕ) (x : Kernel) (made : List LocalEvent) (o : LocalEvent) (to : ℕ) → IfSome begun (λ n. n ≤ length made)
    → letters_of kernels begun to x (made ++ o ∷ []) ≡ letters_of kernels begun to x made ++ packets (to_kernel to (gives (left_by x made) o).packets)
letters-one kernels None x made o to early = letters-more kernels x made o to
letters-one kernels (Some n) x made o to early = letters-more_begun kernels n x made o to early

pub one-more : (n : ℕ) (made : List LocalEvent) (o : LocalEvent) → n ≤ length made → n ≤ length (made ++ o ∷ [])
one-more n made o early = omega (arith, early, length-append made (o ∷ []))

begun-more : (begun : Option ℕ) (made : List LocalEvent) (o : LocalEvent) → IfSome begun (λ n. n ≤ length made) → IfSome begun (λ n. n ≤ length (made ++ o ∷ []))
begun-more None made o early = early
begun-more (Some n) made o early = one-more n made o early

happens-whole : (o : LocalEvent) (old new : Base) (who : List Pid) → Happens o old new who → (to : ℕ)
    → told (put_to new.port to ++ outbox_to new.outbox to) ≡ told (put_to old.port to ++ outbox_to old.outbox to) ++ packets (to_kernel to (gives (state_of old.kernel) o).packets)
happens-whole o old new who happens to =
    ap (λ (p : PortView). told (put_to p to ++ outbox_to new.outbox to)) happens.port
    ∙ map-append told_of (put_to old.port to) (outbox_to new.outbox to)
    ∙ ap (λ ls. told (put_to old.port to) ++ ls) (happens.sent to)
    ∙ sym (append_assoc (told (put_to old.port to)) (told (outbox_to old.outbox to)) (packets (to_kernel to (gives (state_of old.kernel) o).packets)))
    ∙ ap (λ ls. ls ++ packets (to_kernel to (gives (state_of old.kernel) o).packets)) (sym (map-append told_of (put_to old.port to) (outbox_to old.outbox to)))

-- what an event sends has the stamp that it leaves
sent-by : (s : Setting) (k : ℕ) (made : List LocalEvent) (b : Base) (o : LocalEvent) (to : ℕ) → HasRun s k made b → IsLocalEvent s k (state_of b.kernel) o
    → All (IsBy (gives (state_of b.kernel) o).kernel.stamp) (packets (to_kernel to (gives (state_of b.kernel) o).packets))
sent-by s k made b o to run is =
    let n : ℕ = (gives (state_of b.kernel) o).kernel.stamp in
    let sent : List (ℕ × Picture) = (gives (state_of b.kernel) o).packets in
    let g : Gives 2 (gives (state_of b.kernel) o).kernel.stamp (happened o) (gives (state_of b.kernel) o) = local-gives s k (state_of b.kernel) o (told-node s k made b run) is in
    All-map (IsBy n) APacket (to_kernel to sent)
    (All-map (λ (q : Picture). q.stamp ≤ n) (λ (x : ℕ × Picture). x.1) (filter (λ x. nat_eq to x.0) sent)
    (All-filter (λ x. nat_eq to x.0) (λ (x : ℕ × Picture). x.1.stamp ≤ n) sent (All-weaker (IsFewSent 2 n) (λ (x : ℕ × Picture). x.1.stamp ≤ n) (λ x h. omega (arith, h.0)) sent g.packets)))

by-later : (m n : ℕ) → m ≤ n → (l : Told) → IsBy m l → IsBy n l
by-later m n less (APacket q) by = omega (arith, less, by)
by-later m n less AMarker by = tt

pub sent-after : (s : Setting) (k : ℕ) (made : List LocalEvent) (o : LocalEvent) (old new : Base) (who : List Pid) → HasRun s k made old → IsLocalEvent s k (state_of old.kernel) o
    → old.kernel.stamp < greatest_stamp → Happens o old new who → HasSent s k made old → HasSent s k (made ++ o ∷ []) new
sent-after s k made o old new who run is early happens sent =
    record {
      put = λ to.
          happens-whole o old new who happens to
          ∙ ap (λ ls. ls ++ packets (to_kernel to (gives (state_of old.kernel) o).packets)) (sent.put to)
          ∙ ap (λ (y : Kernel). letters_of s.kernels old.course.begun to (start_kernel s k) made ++ packets (to_kernel to (gives y o).packets)) run.kernel
          ∙ sym (letters-one s.kernels old.course.begun (start_kernel s k) made o to sent.begun)
          ∙ ap (λ (c : Course). letters_of s.kernels c.begun to (start_kernel s k) (made ++ o ∷ [])) (sym happens.course);
      begun = subst (λ (c : Course). IfSome c.begun (λ n. n ≤ length (made ++ o ∷ []))) (sym happens.course) (begun-more old.course.begun made o sent.begun);
      stamps = λ to. subst (λ n. All (IsBy n) (told (put_to new.port to ++ outbox_to new.outbox to))) (sym stamp)
          (subst (All (IsBy at)) (sym (happens-whole o old new who happens to))
          (All-append (IsBy at) (told (put_to old.port to ++ outbox_to old.outbox to)) (packets (to_kernel to (gives (state_of old.kernel) o).packets))
          (All-weaker (IsBy old.kernel.stamp) (IsBy at) (by-later old.kernel.stamp at less) (told (put_to old.port to ++ outbox_to old.outbox to)) (sent.stamps to))
          (sent-by s k made old o to run is)));
      number = ap (λ (p : PortView). p.kernel) happens.port ∙ sent.number;
      kernels = kernels;
      fits = record {
        lists = subst (λ n. n ≤ kernels_of (place_of new.port)) (sym happens.lists) (subst (λ (p : PortView). length old.outbox.waiting.items ≤ kernels_of (place_of p)) (sym happens.port) sent.fits.lists);
        within = subst (λ n. GoWithin n new.outbox.unsent.items) (happens.kernels ∙ run.kernels ∙ sym kernels) happens.within;
      };
    }
  where
    at : ℕ
    at = (gives (state_of old.kernel) o).kernel.stamp

    stamp : new.kernel.stamp ≡ (gives (state_of old.kernel) o).kernel.stamp
    stamp = sym (state-stamp new.kernel) ∙ ap (λ (x : Kernel). x.stamp) happens.kernel

    less : old.kernel.stamp ≤ (gives (state_of old.kernel) o).kernel.stamp
    less = omega (arith, state-stamp old.kernel, later-stamp s k made old o run is early)

    kernels : kernels_of (place_of new.port) ≡ s.kernels
    kernels = ap (λ (p : PortView). kernels_of (place_of p)) happens.port ∙ sent.kernels
