-- A node without its programs, along its work: its run, and what it sends and takes.
use Rattle.std.proofs.Common.{◌≡◌, ℕ, ◌<◌, suc, Bool, List, [], ◌∷◌, ◌++◌, All, length, refl, ap, sym, subst, ◌∙◌}
use Rattle.charlotte_calls.specs.declared.calls.Call.{Call}
use Rattle.charlotte_calls.specs.declared.names.EndId.{EndId}
use Rattle.charlotte_calls.specs.declared.names.Pid.{Pid}
use Rattle.charlotte_calls.specs.declared.setting.Setting.{Setting}
use Rattle.charlotte_packets.specs.Packets.{packet_picture}
use Rattle.charlotte_packets.specs.Ranges.{IsPictureInRange}
use Rattle.charlotte_packets.specs.declared.packet.Packet.{Packet}
use Rattle.kernel_core.specs.State.{KernelView, state_of}
use Rattle.kernel_entries.specs.Ranges.{IsEntryInRange}
use Rattle.kernel_net.specs.Letters.{greatest_stamp}
use Rattle.kernel_net.specs.declared.letter.Letter.TheVariants as letter
use Rattle.kernel_step.specs.Kernel.{Kernel}
use Rattle.kernel_step.specs.Start.{start_kernel}
use Rattle.program_runs.specs.Local.{IsLocalEvent, LocalEvent, MakesCall, TakesPacket, entries_of, gives}
use Rattle.kernel_turns.proofs.Happening.{run-after}
use Rattle.kernel_turns.proofs.Later.{got-local}
use Rattle.kernel_turns.proofs.Sending.{sent-after, sent-begun, sent-got, sent-put}
use Rattle.kernel_turns.proofs.Taking.{taken-asked, taken-begun, taken-marked, taken-put, taken-took}
use Rattle.kernel_turns.specs.Events.{Happens}
use Rattle.kernel_turns.specs.Nodes.{HasRun, HasSent, HasTaken}
use Rattle.kernel_turns.specs.Turns.{Began, Begins, BeginsInTime, BeginsOnce, GetsLetter, InTime, NotNow, PutsLetters, with_marker}
use Rattle.kernel_turns.specs.declared.base.Base.{Base}

-- what holds of it while memory is there
pub record Holds (s : Setting) (k : ℕ) (made : List LocalEvent) (b : Base) : Type 0 where
  pub run : HasRun s k made b
  pub sent : HasSent s k made b
  pub taken : HasTaken made b

-- ---- where no event happens

pub run-kept : (s : Setting) (k : ℕ) (made : List LocalEvent) (old new : Base) → new.kernel ≡ old.kernel → new.journal.entries ≡ old.journal.entries → HasRun s k made old → HasRun s k made new
run-kept s k made old new kernel entries run =
    record {
      local = run.local;
      kernel = ap state_of kernel ∙ run.kernel;
      processes = ap (λ (v : KernelView). length v.processes) kernel ∙ run.processes;
      kernels = ap (λ (v : KernelView). v.kernels) kernel ∙ run.kernels;
      noted = entries ∙ run.noted;
      in_range = subst (All IsEntryInRange) (sym entries) run.in_range;
    }

entries-length : (x : Kernel) (made : List LocalEvent) → length (entries_of x made) ≡ length made
entries-length x [] = refl
entries-length x (o ∷ os) = ap suc (entries-length (gives x o).kernel os)

noted-length : (s : Setting) (k : ℕ) (made : List LocalEvent) (b : Base) → HasRun s k made b → length b.journal.entries ≡ length made
noted-length s k made b run = ap length run.noted ∙ entries-length (start_kernel s k) made

run-begun : (s : Setting) (k : ℕ) (made : List LocalEvent) (old new : Base) → BeginsOnce old new → HasRun s k made old → HasRun s k made new
run-begun s k made old new (Began n is same) run = subst (HasRun s k made) same run
run-begun s k made old new (Begins h) run = run-kept s k made old new h.kept.kernel h.kept.journal run

pub holds-begun : (s : Setting) (k : ℕ) (made : List LocalEvent) (old new : Base) → BeginsOnce old new → Holds s k made old → Holds s k made new
holds-begun s k made old new once h =
    record {
      run = run-begun s k made old new once h.run;
      sent = sent-begun s k made old new once (noted-length s k made old h.run) h.sent;
      taken = taken-begun made old new once h.taken;
    }

holds-in_time : (s : Setting) (k : ℕ) (made : List LocalEvent) (old new : Base) → BeginsInTime old new → Holds s k made old → Holds s k made new
holds-in_time s k made old new (InTime time once) h = holds-begun s k made old new once h
holds-in_time s k made old new (NotNow not same) h = subst (Holds s k made) same h

-- it begins where it is time, and puts letters
pub holds-ready : (s : Setting) (k : ℕ) (made : List LocalEvent) (put : Bool) (old begun new : Base) → BeginsInTime old begun → PutsLetters put begun new
    → Holds s k made old → Holds s k made new
holds-ready s k made put old begun new time puts h =
    let mid : Holds s k made begun = holds-in_time s k made old begun time h in
    record {
      run = run-kept s k made begun new puts.kept.kernel puts.kept.journal mid.run;
      sent = sent-put s k made put begun new puts mid.sent;
      taken = taken-put made put begun new puts mid.taken;
    }

-- a marker was got
pub holds-marked : (s : Setting) (k : ℕ) (made : List LocalEvent) (from : ℕ) (old got new : Base) → GetsLetter from letter.Marker old got → BeginsOnce (with_marker from got) new → from < 8
    → Holds s k made old → Holds s k made new
holds-marked s k made from old got new gets once below h =
    let run : HasRun s k made got = run-kept s k made old got (ap (λ (b : Base). b.kernel) gets.rest) (ap (λ (b : Base). b.journal.entries) gets.rest) h.run in
    let sent : HasSent s k made got = sent-got s k made old got from letter.Marker gets h.sent in
    let marked : HasSent s k made (with_marker from got) = record { put = sent.put; begun = sent.begun; stamps = sent.stamps; number = sent.number; kernels = sent.kernels; fits = record { lists = sent.fits.lists; within = sent.fits.within } } in
    let run' : HasRun s k made (with_marker from got) = run-kept s k made got (with_marker from got) refl refl run in
    record {
      run = run-begun s k made (with_marker from got) new once run';
      sent = sent-begun s k made (with_marker from got) new once (noted-length s k made got run) marked;
      taken = taken-marked made from old got new gets once below (noted-length s k made old h.run) h.taken;
    }

-- ---- an event happens

pub holds-asked : (s : Setting) (k : ℕ) (made : List LocalEvent) (p : Pid) (c : Call) (mine : List EndId) (old new : Base) (who : List Pid) → IsLocalEvent s k (state_of old.kernel) (MakesCall p c mine)
    → old.kernel.stamp < greatest_stamp → Happens (MakesCall p c mine) old new who → All IsEntryInRange new.journal.entries → Holds s k made old → Holds s k (made ++ MakesCall p c mine ∷ []) new
holds-asked s k made p c mine old new who is early happens in_range h =
    record {
      run = run-after s k made (MakesCall p c mine) old new who h.run is happens in_range;
      sent = sent-after s k made (MakesCall p c mine) old new who h.run is early happens h.sent;
      taken = taken-asked made (MakesCall p c mine) old new who (λ from. refl) happens h.taken;
    }

-- a packet that was got is taken
pub holds-took : (s : Setting) (k : ℕ) (made : List LocalEvent) (from : ℕ) (p : Packet) (old got new : Base) (who : List Pid) → GetsLetter from (letter.Packet p) old got
    → IsPictureInRange (packet_picture p) → old.kernel.stamp < greatest_stamp → Happens (TakesPacket from (packet_picture p)) got new who → All IsEntryInRange new.journal.entries
    → Holds s k made old → Holds s k (made ++ TakesPacket from (packet_picture p) ∷ []) new
holds-took s k made from p old got new who gets range early happens in_range h =
    let kernel : got.kernel ≡ old.kernel = ap (λ (b : Base). b.kernel) gets.rest in
    let is : IsLocalEvent s k (state_of got.kernel) (TakesPacket from (packet_picture p))
    = subst (λ v. IsLocalEvent s k (state_of v) (TakesPacket from (packet_picture p))) (sym kernel) (got-local s k made old got from p h.run h.sent gets early range) in
    let run : HasRun s k made got = run-kept s k made old got kernel (ap (λ (b : Base). b.journal.entries) gets.rest) h.run in
    record {
      run = run-after s k made (TakesPacket from (packet_picture p)) got new who run is happens in_range;
      sent = sent-after s k made (TakesPacket from (packet_picture p)) got new who run is (subst (λ (v : KernelView). v.stamp < greatest_stamp) (sym kernel) early) happens
          (sent-got s k made old got from (letter.Packet p) gets h.sent);
      taken = taken-took made from p old got new who gets happens h.taken;
    }
