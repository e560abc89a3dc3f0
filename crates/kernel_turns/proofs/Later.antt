-- An event of a node is later than those before it.
use Rattle.std.proofs.Common.{◌≡◌, ℕ, ◌-◌, ◌^◌, ◌<◌, max, List, [], ◌∷◌, arith, refl, sym, subst, ◌∙◌}
use Rattle.charlotte_calls.specs.declared.setting.Setting.{Setting}
use Rattle.charlotte_packets.specs.Packets.{packet_picture}
use Rattle.charlotte_packets.specs.Ranges.{IsPacketInRange, IsPictureInRange}
use Rattle.charlotte_packets.specs.declared.packet.Packet.{Packet}
use Rattle.charlotte_packets.specs.declared.picture.PictureWhat.{PictureWhat}
use Rattle.charlotte_packets.specs.declared.picture.PictureWhat.TheVariants as packet
use Rattle.journal_text.specs.Journal.{IsAfterLast}
use Rattle.kernel_core.specs.State.{KernelView, state_of}
use Rattle.kernel_entries.specs.declared.entry.Happened.TheVariants.{Took}
use Rattle.kernel_net.specs.Letters.{greatest_stamp}
use Rattle.kernel_net.specs.declared.letter.Letter.TheVariants as letter
use Rattle.kernel_step.specs.Kernel.{Kernel, next_stamp, take_step, without_answer}
use Rattle.kernel_step.specs.Start.{start_kernel}
use Rattle.program_runs.proofs.Kernels.{few_call, local-gives}
use Rattle.program_runs.proofs.Together.{started-two}
use Rattle.program_runs.specs.Local.{IsLocalEvent, IsLocalRun, LocalEvent, MakesCall, TakesPacket, gives, left_by}
use Rattle.transcript_lines.specs.TranscriptText.{HasFewPacket}
use Rattle.transcript_record.proofs.KeptSteps.{call_step-gives, take_step-gives, told-without_answer}
use Rattle.transcript_record.specs.Told.{IsTold}
use Rattle.kernel_turns.proofs.Runs.{after-entries}
use Rattle.kernel_turns.specs.Nodes.{HasRun, HasSent}
use Rattle.kernel_turns.specs.Turns.{GetsLetter}
use Rattle.kernel_turns.specs.declared.base.Base.{Base}

-- what contracts see of a kernel is so at its state, too
pub state-stamp : (v : KernelView) → (state_of v).stamp ≡ v.stamp
unfolding state_of
state-stamp v = refl

state-kernels : (v : KernelView) → (state_of v).kernels ≡ v.kernels
unfolding state_of
state-kernels v = refl

-- what a kernel keeps after a local run can be told
told-run : (s : Setting) (k : ℕ) (x : Kernel) (made : List LocalEvent) → IsTold 2 x → IsLocalRun s k x made → IsTold 2 (left_by x made)
told-run s k x [] told run = told
told-run s k x (o ∷ os) told run = told-run s k (gives x o).kernel os (local-gives s k x o told run.0).told run.1

pub told-node : (s : Setting) (k : ℕ) (made : List LocalEvent) (b : Base) → HasRun s k made b → IsTold 2 (state_of b.kernel)
told-node s k made b run = subst (IsTold 2) (sym run.kernel) (told-run s k (start_kernel s k) made (started-two s k) run.local)

later : (s : Setting) (k : ℕ) (x : Kernel) (o : LocalEvent) → IsTold 2 x → IsLocalEvent s k x o → x.stamp < greatest_stamp → x.stamp < (gives x o).kernel.stamp
later s k x (MakesCall p c mine) told is early =
    let at : (gives x (MakesCall p c mine)).kernel.stamp ≡ next_stamp x.stamp
    = (call_step-gives 2 (without_answer p x) p mine c (few_call s.version c is.3) (told-without_answer 2 x p told)).stamp in
    omega arith
later s k x (TakesPacket from q) told is early =
    let at : (take_step x from q).kernel.stamp ≡ next_stamp (max x.stamp q.stamp) = (take_step-gives 2 (Took from q) x from q told is.1).stamp in
    let below : max x.stamp q.stamp < 2 ^ 64 - 1 = is.2 in
    omega arith

pub later-stamp : (s : Setting) (k : ℕ) (made : List LocalEvent) (b : Base) (o : LocalEvent) → HasRun s k made b → IsLocalEvent s k (state_of b.kernel) o → b.kernel.stamp < greatest_stamp
    → (state_of b.kernel).stamp < (gives (state_of b.kernel) o).kernel.stamp
later-stamp s k made b o run is early =
    later s k (state_of b.kernel) o (told-node s k made b run) is (subst (λ n. n < greatest_stamp) (sym (state-stamp b.kernel)) early)

-- so it can be noted
pub later-event : (s : Setting) (k : ℕ) (made : List LocalEvent) (b : Base) (o : LocalEvent) → HasRun s k made b → IsLocalEvent s k (state_of b.kernel) o → b.kernel.stamp < greatest_stamp
    → IsAfterLast b.journal.entries (gives (state_of b.kernel) o).kernel.stamp
later-event s k made b o run is early =
    subst (λ es. IsAfterLast es (gives (state_of b.kernel) o).kernel.stamp) (sym run.noted)
    (after-entries (start_kernel s k) made (gives (state_of b.kernel) o).kernel.stamp
    (subst (λ (x : Kernel). x.stamp < (gives (state_of b.kernel) o).kernel.stamp) run.kernel (later-stamp s k made b o run is early)))

-- ---- a packet that was got may be taken

few-values : (what : PictureWhat) → IsPacketInRange what → HasFewPacket 2 what
few-values (packet.Want to w at hops) is = tt
few-values (packet.Unwant to w at hops) is = tt
few-values (packet.Unwanted to w at hops) is = tt
few-values (packet.Parcel to n w at hops bytes moving) is = is.6.few
few-values (packet.Taken to n at hops) is = tt
few-values (packet.Back to n moving) is = is.2.few
few-values (packet.Gone to at) is = tt
few-values (packet.Moved to at hops) is = tt
few-values (packet.Known to hops) is = tt
few-values (packet.Forget to hops) is = tt
few-values (packet.GoneSeen to) is = tt

pub got-local : (s : Setting) (k : ℕ) (made : List LocalEvent) (b got : Base) (from : ℕ) (p : Packet) → HasRun s k made b → HasSent s k made b → GetsLetter from (letter.Packet p) b got
    → b.kernel.stamp < greatest_stamp → IsPictureInRange (packet_picture p) → IsLocalEvent s k (state_of b.kernel) (TakesPacket from (packet_picture p))
got-local s k made b got from p run sent gets early range =
    let there : from < (state_of b.kernel).kernels = subst (λ n. from < n) (sent.kernels ∙ sym run.kernels ∙ sym (state-kernels b.kernel)) gets.got.kernel in
    let at : (state_of b.kernel).stamp ≡ b.kernel.stamp = state-stamp b.kernel in
    let before : p.stamp < greatest_stamp = gets.got.allowed in
    (there, few-values (packet_picture p).what range.what, omega arith)
