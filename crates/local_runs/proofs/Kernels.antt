-- The events of one kernel: what they send has their stamps.
use Rattle.std.proofs.Common.{◌≡◌, ◌⊎◌, inl, inr, ℕ, ◌-◌, ◌^◌, ◌<◌, ◌≤◌, max, Bool, true, false, nat_eq, IsTrue, List, [], ◌∷◌, ◌++◌, length, map, All, cond, Decides, arith, sym, subst, refl}
use Rattle.std.specs.List.{filter}
use Rattle.std.proofs.lemmas.List.Elements.{All-nil, All-cons, All-head, All-tail, All-weaker}
use Rattle.std.proofs.lemmas.Bool.Decides.{Decides-or, Decides-and, Decides-ltb, Decides-eqb}
use Rattle.charlotte_calls.specs.declared.calls.Call.{Call}
use Rattle.charlotte_calls.specs.declared.calls.Call.TheVariants as call
use Rattle.charlotte_packets.specs.declared.picture.Picture.{Picture}
use Rattle.charlotte_packets.specs.declared.picture.PictureWhat.{PictureWhat}
use Rattle.charlotte_packets.specs.declared.picture.PictureWhat.TheVariants as packet
use Rattle.charlotte_calls.specs.declared.setting.Setting.{Setting}
use Rattle.transcript_lines.specs.TranscriptText.{HasFewCall, HasFewPacket}
use Rattle.kernel_step.specs.Kernel.{Kernel, Outcome, take_step, next_stamp, without_answer}
use Rattle.kernel_world.proofs.Packets.{to_kernel-first}
use Rattle.kernel_entries.specs.Order.{AreInOrder, of_kernel, stands_before}
use Rattle.kernel_world.specs.Run.{IsCallOf}
use Rattle.kernel_world.specs.World.{to_kernel}
use Rattle.kernel_entries.specs.declared.entry.Entry.{Entry}
use Rattle.kernel_entries.specs.declared.entry.Happened.{Happened}
use Rattle.kernel_entries.specs.declared.entry.Happened.TheVariants.{Took}
use Rattle.kernel_entries.specs.declared.entry.Placed.{Placed}
use Rattle.local_runs.specs.Local.{LocalEvent, MakesCall, TakesPacket, IsLocalRun, IsLocalEvent, entries_of, entry_of, gives, happened, sends_to}
use Rattle.transcript_record.proofs.Kept.{IsFewSent}
use Rattle.transcript_record.proofs.KeptSteps.{Gives, call_step-gives, take_step-gives, told-without_answer}
use Rattle.transcript_record.specs.Told.{IsTold}

-- ---- what one event gives

-- at most eight, whatever the version
pub few-two : (v n : ℕ) → n ≤ cond (nat_eq v 1) 1 8 → n ≤ 8
few-two v n few = elim (nat_eq v 1) as (λ b. n ≤ cond b 1 8 → n ≤ 8) [ true ↦ λ h. omega arith | false ↦ λ h. h ] few

pub few_call : (v : ℕ) (c : Call) → IsCallOf v c → HasFewCall 2 c
few_call v call.Make h = tt
few_call v (call.Destroy on) h = tt
few_call v (call.Send on bytes xs) h = few-two v (length xs) h.0
few_call v (call.Receive on) h = tt
few_call v (call.Cancel on w) h = tt
few_call v call.Wait h = tt
few_call v (call.Print bytes) h = tt
few_call v call.Exit h = tt

pub few_packet : (v : ℕ) (what : PictureWhat) → HasFewPacket v what → HasFewPacket 2 what
few_packet v (packet.Want to w at hops) h = tt
few_packet v (packet.Unwant to w at hops) h = tt
few_packet v (packet.Unwanted to w at hops) h = tt
few_packet v (packet.Parcel to n w at hops bytes ms) h = few-two v (length ms) h
few_packet v (packet.Taken to n at hops) h = tt
few_packet v (packet.Back to n ms) h = few-two v (length ms) h
few_packet v (packet.Gone to at) h = tt
few_packet v (packet.Moved to at hops) h = tt
few_packet v (packet.Known to hops) h = tt
few_packet v (packet.Forget to hops) h = tt
few_packet v (packet.GoneSeen to) h = tt

same-stamp : (n : ℕ) (w : Happened) (o : Outcome) → Gives 2 n w o → Gives 2 o.kernel.stamp w o
same-stamp n w o g = subst (λ m. Gives 2 m w o) (sym g.stamp) g

-- what it gives can be told in version 2, whatever its own is
pub local-gives : (s : Setting) (k : ℕ) (x : Kernel) (o : LocalEvent) → IsTold 2 x → IsLocalEvent s k x o → Gives 2 (gives x o).kernel.stamp (happened o) (gives x o)
local-gives s k x (MakesCall p c mine) told is = same-stamp _ _ _ (call_step-gives 2 (without_answer p x) p mine c (few_call s.version c is.3) (told-without_answer 2 x p told))
local-gives s k x (TakesPacket from q) told is = same-stamp _ _ _ (take_step-gives 2 (Took from q) x from q told is.1)

-- the taking of a packet is later than its sending
pub get-later : (s : Setting) (k : ℕ) (x : Kernel) (from : ℕ) (q : Picture) → IsTold 2 x → IsLocalEvent s k x (TakesPacket from q) → q.stamp < (take_step x from q).kernel.stamp
get-later s k x from q told is =
    let at : (take_step x from q).kernel.stamp ≡ next_stamp (max x.stamp q.stamp) = (take_step-gives 2 (Took from q) x from q told is.1).stamp in
    let early : max x.stamp q.stamp < 2 ^ 64 - 1 = is.2 in
    omega arith

-- ---- what the events send

to_kernel-first_all : (P : Picture → Type 0) (to : ℕ) (x : ℕ × Picture) (xs : List (ℕ × Picture)) (b : Bool) → nat_eq to x.0 ≡ b → P x.1 → All P (to_kernel to xs) → All P (to_kernel to (x ∷ xs))
to_kernel-first_all P to x xs true e one others = subst (All P) (sym (to_kernel-first to x xs true e)) (All-cons P x.1 (to_kernel to xs) one others)
to_kernel-first_all P to x xs false e one others = subst (All P) (sym (to_kernel-first to x xs false e)) others

to_kernel-all : (P : Picture → Type 0) (to : ℕ) (sent : List (ℕ × Picture)) → All (λ x. P x.1) sent → All P (to_kernel to sent)
to_kernel-all P to [] all = All-nil P
to_kernel-all P to (x ∷ xs) all =
    to_kernel-first_all P to x xs (nat_eq to x.0) refl (All-head (λ (y : ℕ × Picture). P y.1) x xs all) (to_kernel-all P to xs (All-tail (λ (y : ℕ × Picture). P y.1) x xs all))

-- the first of what several send is what the first of them sends, or one of the others
first-least : (m n : ℕ) (ps later : List Picture) (q : Picture) (qs : List Picture) → m ≤ n → All (λ y. y.stamp ≡ n) ps → (later ≡ q ∷ qs → m ≤ q.stamp) → ps ++ later ≡ q ∷ qs → m ≤ q.stamp
first-least m n [] later q qs least stamps others first = others first
first-least m n (y ∷ ys) later q qs least stamps others first =
    let same : y ∷ (ys ++ later) ≡ q ∷ qs = first in
    let is : y ≡ q = cc in
    let stamp : y.stamp ≡ n = All-head (λ (z : Picture). z.stamp ≡ n) y ys stamps in
    subst (λ (z : Picture). m ≤ z.stamp) is (omega (arith, stamp, least))

-- where no event is earlier, no packet that is sent is
pub sent-least : (s : Setting) (k : ℕ) (x : Kernel) (os : List LocalEvent) (to m : ℕ) (q : Picture) (qs : List Picture) → IsTold 2 x → IsLocalRun s k x os → All (λ e. m ≤ e.stamp) (entries_of x os) → sends_to to x os ≡ q ∷ qs → m ≤ q.stamp
sent-least s k x [] to m q qs told are least first = let no : [] ≡ q ∷ qs = first in absurd (cc)
sent-least s k x (o ∷ os) to m q qs told are least first =
    let n : ℕ = (gives x o).kernel.stamp in
    let g : Gives 2 n (happened o) (gives x o) = local-gives s k x o told are.0 in
    let IsLeast : Entry → Type 0 = λ e. m ≤ e.stamp in
    let stamps : All (λ y. y.stamp ≡ n) (to_kernel to (gives x o).packets) =
    to_kernel-all (λ y. y.stamp ≡ n) to (gives x o).packets (All-weaker (IsFewSent 2 n) (λ y. y.1.stamp ≡ n) (λ y h. h.0) (gives x o).packets g.packets) in
    first-least m n (to_kernel to (gives x o).packets) (sends_to to (gives x o).kernel os) q qs (All-head IsLeast (entry_of x o) (entries_of (gives x o).kernel os) least) stamps
    (λ e. sent-least s k (gives x o).kernel os to m q qs g.told are.1 (All-tail IsLeast (entry_of x o) (entries_of (gives x o).kernel os) least) e) first

-- ---- the order of a merge

decides-before : (a b : Placed) → Decides (stands_before a b) ((a.entry.stamp < b.entry.stamp) ⊎ ((a.entry.stamp ≡ b.entry.stamp) × (a.kernel < b.kernel)))
decides-before a b =
    Decides-or _ _ (Decides-ltb a.entry.stamp b.entry.stamp) (Decides-and _ _ (Decides-eqb a.entry.stamp b.entry.stamp) (Decides-ltb a.kernel b.kernel))

before-least : (a b : Placed) → IsTrue (stands_before a b) → a.entry.stamp ≤ b.entry.stamp
before-least a b is = elim ((decides-before a b).0 is) [
  | inl x ↦ let lt : a.entry.stamp < b.entry.stamp = x in omega arith
  | inr x ↦ let e : a.entry.stamp ≡ b.entry.stamp = x.0 in omega arith
]

-- none is earlier than the first
pub in-order-least : (p : Placed) (ps : List Placed) → AreInOrder (p ∷ ps) → All (λ x. p.entry.stamp ≤ x.entry.stamp) (p ∷ ps)
in-order-least p [] order = All-cons (λ (x : Placed). p.entry.stamp ≤ x.entry.stamp) p [] (omega arith) (All-nil (λ (x : Placed). p.entry.stamp ≤ x.entry.stamp))
in-order-least p (b ∷ ps) order =
    let least : p.entry.stamp ≤ b.entry.stamp = before-least p b order.0 in
    All-cons (λ (x : Placed). p.entry.stamp ≤ x.entry.stamp) p (b ∷ ps) (omega arith)
    (All-weaker (λ (x : Placed). b.entry.stamp ≤ x.entry.stamp) (λ (x : Placed). p.entry.stamp ≤ x.entry.stamp) (λ x h. up x h) (b ∷ ps) (in-order-least b ps order.1))
  where
    up : (x : Placed) → b.entry.stamp ≤ x.entry.stamp → p.entry.stamp ≤ x.entry.stamp
    up x h = let least : p.entry.stamp ≤ b.entry.stamp = before-least p b order.0 in omega arith

pub of_kernel-all : (P : Entry → Type 0) (k : ℕ) (ps : List Placed) → All (λ x. P x.entry) ps → All P (of_kernel k ps)
of_kernel-all P k [] all = All-nil P
of_kernel-all P k (p ∷ ps) all =
    elim (nat_eq p.kernel k) as (λ b. All P (map (λ (x : Placed). x.entry) (cond b (p ∷ filter (λ x. nat_eq x.kernel k) ps) (filter (λ x. nat_eq x.kernel k) ps)))) [
      | true ↦ All-cons P p.entry (of_kernel k ps) (All-head (λ (x : Placed). P x.entry) p ps all) (of_kernel-all P k ps (All-tail (λ (x : Placed). P x.entry) p ps all))
      | false ↦ of_kernel-all P k ps (All-tail (λ (x : Placed). P x.entry) p ps all)
    ]
