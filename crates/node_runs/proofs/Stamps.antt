-- No kernel's stamp is greater than the number of the events of all kernels: an event with a stamp follows one with the stamp before.
use Rattle.std.proofs.Common.{◌≡◌, ◌≢◌, ◌⊎◌, inl, inr, ℕ, zero, suc, ◌+◌, ◌-◌, ◌*◌, ◌^◌, ◌<◌, ◌≤◌, max, true, false, nat_eq, nat_le, if◌then◌else◌, List, [], ◌∷◌, ◌++◌, All, length, map, refl, ap, sym, subst, ◌∙◌, arith}
use Rattle.std.specs.List.{filter}
use Rattle.std.specs.Prelude.{Some, slice_get}
use Rattle.std.proofs.lemmas.Bool.Decides.{eqb_tells, leb_tells}
use Rattle.std.proofs.lemmas.List.Elements.{All-append, All-cons, All-head, All-nil, All-tail, All-weaker}
use Rattle.charlotte_calls.specs.declared.calls.Call.{Call}
use Rattle.charlotte_calls.specs.declared.names.EndId.{EndId}
use Rattle.charlotte_calls.specs.declared.names.Pid.{Pid}
use Rattle.charlotte_calls.specs.declared.setting.Setting.{Setting}
use Rattle.charlotte_packets.specs.declared.picture.Picture.{Picture}
use Rattle.kernel_core.specs.State.{KernelView, state_of}
use Rattle.kernel_entries.specs.declared.entry.Entry.{Entry}
use Rattle.kernel_entries.specs.declared.entry.Happened.TheVariants.{Took}
use Rattle.kernel_step.specs.Kernel.{Kernel, next_stamp, take_step, without_answer}
use Rattle.kernel_step.specs.Start.{start_kernel}
use Rattle.kernel_turns.specs.Nodes.{Meaning, sum_of}
use Rattle.kernel_turns.specs.declared.node.Node.{Node}
use Rattle.kernel_world.specs.World.{to_kernel}
use Rattle.kernel_turns.proofs.Kernels.{few_call, local-gives}
use Rattle.kernel_turns.proofs.Together.{got-first, got-other, started-two}
use Rattle.kernel_turns.specs.Local.{FitTogether, IsLocalEvent, IsLocalRun, LocalEvent, MakesCall, TakesPacket, entries_of, gives, happened, left_by, sends_to, takes_from}
use Rattle.transcript_record.proofs.Kept.{IsFewSent}
use Rattle.transcript_record.proofs.KeptSteps.{Gives, call_step-gives, take_step-gives, told-without_answer}
use Rattle.transcript_record.specs.Told.{IsTold}
use Rattle.node_runs.proofs.Fitting.{entries-at, few-at, nodes-fit}
use Rattle.node_runs.proofs.Sums.{sum-at_most, sum-less, sum-more}
use Rattle.node_runs.specs.Net.{AreNodes, AreUnspoiled, HaveMet, left_at}

-- ---- entries by their stamps

-- one of these entries has this stamp
abbrev HasStamp : ℕ → List Entry → Type 0
HasStamp v [] = ⊥
HasStamp v (e ∷ es) = (e.stamp ≡ v) ⊎ HasStamp v es

-- how many have no greater one
abbrev up_to : ℕ → List Entry → ℕ
up_to v [] = 0
up_to v (e ∷ es) = (if nat_le e.stamp v then 1 else 0) + up_to v es

abbrev Tells : ℕ → ℕ → Type 0
Tells a b = ((nat_le a b ≡ true) × (a ≤ b)) ⊎ ((nat_le a b ≡ false) × (b < a))

one-later : (a v : ℕ) → Tells a v → Tells a (suc v) → (if nat_le a v then 1 else 0) ≤ (if nat_le a (suc v) then 1 else 0)
one-later a v (inl x) (inl y) = rw (x.0, y.0) (omega arith)
one-later a v (inl x) (inr y) = absurd (omega (arith, x.1, y.1))
one-later a v (inr x) later = rw x.0 (omega arith)

up_to-later : (v : ℕ) (es : List Entry) → up_to v es ≤ up_to (suc v) es
up_to-later v [] = omega arith
up_to-later v (e ∷ es) =
    let rest : up_to v es ≤ up_to (suc v) es = up_to-later v es in
    let here : (if nat_le e.stamp v then 1 else 0) ≤ (if nat_le e.stamp (suc v) then 1 else 0) = one-later e.stamp v (leb_tells e.stamp v) (leb_tells e.stamp (suc v)) in
    omega (arith, rest, here)

one-more : (a v : ℕ) → a ≡ suc v → Tells a v → Tells a (suc v) → (if nat_le a v then 1 else 0) < (if nat_le a (suc v) then 1 else 0)
one-more a v is (inr x) (inl y) = rw (x.0, y.0) (omega arith)
one-more a v is (inl x) later = absurd (omega (arith, x.1, is))
one-more a v is (inr x) (inr y) = absurd (omega (arith, y.1, is))

up_to-more : (v : ℕ) (es : List Entry) → HasStamp (suc v) es → up_to v es < up_to (suc v) es
up_to-more v [] has = absurd has
up_to-more v (e ∷ es) (inl is) =
    let rest : up_to v es ≤ up_to (suc v) es = up_to-later v es in
    let here : (if nat_le e.stamp v then 1 else 0) < (if nat_le e.stamp (suc v) then 1 else 0) = one-more e.stamp v is (leb_tells e.stamp v) (leb_tells e.stamp (suc v)) in
    omega (arith, rest, here)
up_to-more v (e ∷ es) (inr has) =
    let rest : up_to v es < up_to (suc v) es = up_to-more v es has in
    let here : (if nat_le e.stamp v then 1 else 0) ≤ (if nat_le e.stamp (suc v) then 1 else 0) = one-later e.stamp v (leb_tells e.stamp v) (leb_tells e.stamp (suc v)) in
    omega (arith, rest, here)

one-at_most : (a v : ℕ) → Tells a v → (if nat_le a v then 1 else 0) ≤ 1
one-at_most a v (inl x) = rw x.0 (omega arith)
one-at_most a v (inr x) = rw x.0 (omega arith)

up_to-at_most : (v : ℕ) (es : List Entry) → up_to v es ≤ length es
up_to-at_most v [] = omega arith
up_to-at_most v (e ∷ es) =
    let rest : up_to v es ≤ length es = up_to-at_most v es in
    let here : (if nat_le e.stamp v then 1 else 0) ≤ 1 = one-at_most e.stamp v (leb_tells e.stamp v) in
    omega (arith, rest, here)

-- ---- the packets of a run have the stamps of its events

to_kernel-all : (Q : Picture → Type 0) (to : ℕ) (sent : List (ℕ × Picture)) → All (λ x. Q x.1) sent → All Q (to_kernel to sent)
to_kernel-all Q to [] all = All-nil Q
to_kernel-all Q to (x ∷ xs) all =
    elim (nat_eq to x.0) as (λ b. All Q (map (λ (y : ℕ × Picture). y.1) (if b then x ∷ filter (λ y. nat_eq to y.0) xs else filter (λ y. nat_eq to y.0) xs))) [
      | true ↦ All-cons Q x.1 (to_kernel to xs) (All-head (λ (y : ℕ × Picture). Q y.1) x xs all) (to_kernel-all Q to xs (All-tail (λ (y : ℕ × Picture). Q y.1) x xs all))
      | false ↦ to_kernel-all Q to xs (All-tail (λ (y : ℕ × Picture). Q y.1) x xs all)
    ]

sent-stamps : (s : Setting) (k to : ℕ) (x : Kernel) (os : List LocalEvent) → IsTold 2 x → IsLocalRun s k x os → All (λ q. HasStamp q.stamp (entries_of x os)) (sends_to to x os)
sent-stamps s k to x [] told run = All-nil (λ (q : Picture). ⊥)
sent-stamps s k to x (o ∷ os) told run =
    let n : ℕ = (gives x o).kernel.stamp in
    let g : Gives 2 n (happened o) (gives x o) = local-gives s k x o told run.0 in
    let Has : Picture → Type 0 = λ q. HasStamp q.stamp (entries_of x (o ∷ os)) in
    All-append Has (to_kernel to (gives x o).packets) (sends_to to (gives x o).kernel os)
    (to_kernel-all Has to (gives x o).packets (All-weaker (IsFewSent 2 n) (λ (y : ℕ × Picture). Has y.1) (λ y h. inl (sym h.0)) (gives x o).packets g.packets))
    (All-weaker (λ (q : Picture). HasStamp q.stamp (entries_of (gives x o).kernel os)) Has (λ q h. inr h) (sends_to to (gives x o).kernel os) (sent-stamps s k to (gives x o).kernel os g.told run.1))

-- ---- an event follows one with the stamp before

-- what a packet, an entry or the start has, of the stamp v
abbrev IsFollowed : (v : ℕ) → Kernel → List LocalEvent → (Picture → Type 0) → Type 0
IsFollowed v x os Comes = (x.stamp ≡ v) ⊎ (HasStamp v (entries_of x os) ⊎ ((q : Picture) × Comes q × (q.stamp ≡ v)))

call-stamp : (s : Setting) (k : ℕ) (x : Kernel) (p : Pid) (c : Call) (mine : List EndId) → IsTold 2 x → IsLocalEvent s k x (MakesCall p c mine) → (gives x (MakesCall p c mine)).kernel.stamp ≡ next_stamp x.stamp
call-stamp s k x p c mine told is = (call_step-gives 2 (without_answer p x) p mine c (few_call s.version c is.3) (told-without_answer 2 x p told)).stamp

take-stamp : (s : Setting) (k : ℕ) (x : Kernel) (from : ℕ) (q : Picture) → IsTold 2 x → IsLocalEvent s k x (TakesPacket from q) → (take_step x from q).kernel.stamp ≡ next_stamp (max x.stamp q.stamp)
take-stamp s k x from q told is = (take_step-gives 2 (Took from q) x from q told is.1).stamp

stamp-bound : (s : Setting) (k : ℕ) (x : Kernel) (o : LocalEvent) → IsTold 2 x → IsLocalEvent s k x o → (gives x o).kernel.stamp ≤ 2 ^ 64 - 1
stamp-bound s k x (MakesCall p c mine) told is = let at : (gives x (MakesCall p c mine)).kernel.stamp ≡ next_stamp x.stamp = call-stamp s k x p c mine told is in omega (arith, at)
stamp-bound s k x (TakesPacket from q) told is = let at : (take_step x from q).kernel.stamp ≡ next_stamp (max x.stamp q.stamp) = take-stamp s k x from q told is in omega (arith, at)

module _ (s : Setting) (k : ℕ) (Comes : Picture → Type 0) where
  -- each packet that they take comes
  abbrev AllCome : List LocalEvent → Type 0
  AllCome os = (from : ℕ) → All Comes (takes_from from os)

  come-later : (o : LocalEvent) (os : List LocalEvent) → AllCome (o ∷ os) → AllCome os
  come-later (MakesCall p c mine) os all from = all from
  come-later (TakesPacket j q) os all from = by (eqb_tells from j)
    where
      by : ((nat_eq from j ≡ true) × (from ≡ j)) ⊎ ((nat_eq from j ≡ false) × (from ≢ j)) → All Comes (takes_from from os)
      by (inl e) = subst (λ i. All Comes (takes_from i os)) (sym e.1) (All-tail Comes q (takes_from j os) (subst (All Comes) (got-first j q os) (all j)))
      by (inr e) = subst (All Comes) (got-other from j q os e.1) (all from)

  first-follows : (v : ℕ) (x : Kernel) (o : LocalEvent) (os : List LocalEvent) → IsTold 2 x → x.stamp ≤ 2 ^ 64 - 1 → x.stamp ≢ suc v → IsLocalEvent s k x o → AllCome (o ∷ os)
      → (gives x o).kernel.stamp ≡ suc v → IsFollowed v x (o ∷ os) Comes
  first-follows v x (MakesCall p c mine) os told bound not is all at =
      let stamp : (gives x (MakesCall p c mine)).kernel.stamp ≡ next_stamp x.stamp = call-stamp s k x p c mine told is in
      inl (omega (arith, stamp, at, bound, not))
  first-follows v x (TakesPacket j q) os told bound not is all at =
      let stamp : (take_step x j q).kernel.stamp ≡ next_stamp (max x.stamp q.stamp) = take-stamp s k x j q told is in
      let early : max x.stamp q.stamp < 2 ^ 64 - 1 = is.2 in
      by (leb_tells q.stamp x.stamp) (omega (arith, stamp, at, early))
    where
      comes : Comes q
      comes = All-head Comes q (takes_from j os) (subst (All Comes) (got-first j q os) (all j))

      by : Tells q.stamp x.stamp → max x.stamp q.stamp ≡ v → IsFollowed v x (TakesPacket j q ∷ os) Comes
      by (inl less) most = inl (omega (arith, less.1, most))
      by (inr more) most = inr (inr (q, comes, omega (arith, more.1, most)))

  follows : (v : ℕ) (x : Kernel) (os : List LocalEvent) → IsTold 2 x → x.stamp ≤ 2 ^ 64 - 1 → x.stamp ≢ suc v → IsLocalRun s k x os → AllCome os → HasStamp (suc v) (entries_of x os) → IsFollowed v x os Comes
  follows v x [] told bound not run all has = absurd has
  follows v x (o ∷ os) told bound not run all has =
      by (eqb_tells (gives x o).kernel.stamp (suc v)) has
      (λ other later. follows v (gives x o).kernel os (local-gives s k x o told run.0).told (stamp-bound s k x o told run.0) other run.1 (come-later o os all) later)
    where
      behind : IsFollowed v (gives x o).kernel os Comes → IsFollowed v x (o ∷ os) Comes
      behind (inl at) = inr (inl (inl at))
      behind (inr (inl later)) = inr (inl (inr later))
      behind (inr (inr comes)) = inr (inr comes)

      by : ((nat_eq (gives x o).kernel.stamp (suc v) ≡ true) × ((gives x o).kernel.stamp ≡ suc v)) ⊎ ((nat_eq (gives x o).kernel.stamp (suc v) ≡ false) × ((gives x o).kernel.stamp ≢ suc v))
          → HasStamp (suc v) (entries_of x (o ∷ os)) → ((gives x o).kernel.stamp ≢ suc v → HasStamp (suc v) (entries_of (gives x o).kernel os) → IsFollowed v (gives x o).kernel os Comes)
          → IsFollowed v x (o ∷ os) Comes
      by (inl e) has on = first-follows v x o os told bound not run.0 all e.1
      by (inr e) (inl at) on = absurd (e.1 at)
      by (inr e) (inr later) on = behind (on e.1 later)

-- the stamp that events leave is that of one of them, or as it was
last-stamp : (x : Kernel) (os : List LocalEvent) → ((left_by x os).stamp ≡ x.stamp) ⊎ HasStamp (left_by x os).stamp (entries_of x os)
last-stamp x [] = inl refl
last-stamp x (o ∷ os) = by (last-stamp (gives x o).kernel os)
  where
    by : ((left_by x (o ∷ os)).stamp ≡ (gives x o).kernel.stamp) ⊎ HasStamp (left_by x (o ∷ os)).stamp (entries_of (gives x o).kernel os) → ((left_by x (o ∷ os)).stamp ≡ x.stamp) ⊎ HasStamp (left_by x (o ∷ os)).stamp (entries_of x (o ∷ os))
    by (inl e) = inr (inl (sym e))
    by (inr has) = inr (inr has)

-- ---- all kernels

all-first : (Q : Picture → Type 0) (xs ys : List Picture) → All Q (xs ++ ys) → All Q xs
all-first Q [] ys all = All-nil Q
all-first Q (x ∷ xs) ys all = All-cons Q x xs (All-head Q x (xs ++ ys) all) (all-first Q xs ys (All-tail Q x (xs ++ ys) all))

module _ (s : Setting) (made : ℕ → List LocalEvent) (left : ℕ → ℕ → List Picture) (fit : FitTogether s made left) (none : (k : ℕ) → s.kernels ≤ k → made k ≡ []) where
  abbrev entries_at : ℕ → List Entry
  entries_at k = entries_of (start_kernel s k) (made k)

  -- how many events of all have no greater stamp
  abbrev all_to : ℕ → ℕ
  all_to v = sum_of s.kernels (λ k. up_to v (entries_at k))

  abbrev IsSent : Picture → Type 0
  IsSent q = (j : ℕ) × HasStamp q.stamp (entries_at j)

  taken-sent : (k from : ℕ) → All IsSent (takes_from from (made k))
  taken-sent k from =
      all-first IsSent (takes_from from (made k)) (left from k)
      (subst (All IsSent) (sym (fit.packets from k))
      (All-weaker (λ (q : Picture). HasStamp q.stamp (entries_at from)) IsSent (λ q h. (from, h)) (sends_to k (start_kernel s from) (made from))
      (sent-stamps s from k (start_kernel s from) (made from) (started-two s from) (fit.each from))))

  there : (k v : ℕ) → HasStamp v (entries_at k) → k < s.kernels
  there k v has = by (leb_tells s.kernels k)
    where
      by : Tells s.kernels k → k < s.kernels
      by (inl far) = absurd (subst (λ os. HasStamp v (entries_of (start_kernel s k) os)) (none k far.1) has)
      by (inr near) = near.1

  stamp-least : (v k : ℕ) → HasStamp v (entries_at k) → v ≤ all_to v
  stamp-least zero k has = omega arith
  stamp-least (suc v) k has =
      let before : v ≤ all_to v = by (λ j h. stamp-least v j h) (follows s k IsSent v (start_kernel s k) (made k) (started-two s k) (omega arith) (λ e. omega (arith, e)) (fit.each k) (taken-sent k) has) in
      let more : all_to v < all_to (suc v) = sum-more s.kernels k (λ i. up_to v (entries_at i)) (λ i. up_to (suc v) (entries_at i)) (there k (suc v) has) (λ i below. up_to-later v (entries_at i)) (up_to-more v (entries_at k) has) in
      omega (arith, before, more)
    where
      by : ((j : ℕ) → HasStamp v (entries_at j) → v ≤ all_to v) → IsFollowed v (start_kernel s k) (made k) IsSent → v ≤ all_to v
      by least (inl at) = omega (arith, at)
      by least (inr (inl earlier)) = least k earlier
      by least (inr (inr sent)) = least sent.1.0 (subst (λ n. HasStamp n (entries_at sent.1.0)) sent.2 sent.1.1)

  left-stamp : (k : ℕ) → (left_by (start_kernel s k) (made k)).stamp ≤ sum_of s.kernels (λ k. length (entries_at k))
  left-stamp k = by (last-stamp (start_kernel s k) (made k))
    where
      v : ℕ
      v = (left_by (start_kernel s k) (made k)).stamp

      by : (v ≡ 0) ⊎ HasStamp v (entries_at k) → v ≤ sum_of s.kernels (λ k. length (entries_at k))
      by (inl e) = omega (arith, e)
      by (inr has) =
          let least : v ≤ all_to v = stamp-least v k has in
          let most : all_to v ≤ sum_of s.kernels (λ k. length (entries_at k)) = sum-less s.kernels (λ k. up_to v (entries_at k)) (λ k. length (entries_at k)) (λ i below. up_to-at_most v (entries_at i)) in
          omega (arith, least, most)

-- ---- nodes

state-stamp : (v : KernelView) → (state_of v).stamp ≡ v.stamp
unfolding state_of
state-stamp v = refl

-- the stamps of nodes that have met are far below the greatest
pub nodes-early : {P S W : Type 0} (m : Meaning P S) (HasSeen : W → List Entry → Type 0) (s : Setting) (first : ℕ → List (Pid × P)) (made : ℕ → List LocalEvent) (ns : List (Node P W))
    → AreNodes m HasSeen s first made ns → AreUnspoiled ns → HaveMet ns → (k : ℕ) (n : Node P W) → slice_get ns k ≡ Some n → n.base.kernel.stamp ≤ 800000
nodes-early m HasSeen s first made ns nodes whole met k n at =
    let fit : FitTogether s made (left_at ns) = nodes-fit m HasSeen s first made ns nodes whole met in
    let is : n.base.kernel.stamp ≡ (left_by (start_kernel s k) (made k)).stamp = sym (state-stamp n.base.kernel) ∙ ap (λ (x : Kernel). x.stamp) (nodes.each k n at).run.kernel in
    let less : (left_by (start_kernel s k) (made k)).stamp ≤ sum_of s.kernels (λ j. length (entries_of (start_kernel s j) (made j))) = left-stamp s made (left_at ns) fit nodes.none k in
    let most : sum_of s.kernels (λ j. length (entries_of (start_kernel s j) (made j))) ≤ s.kernels * 100000
    = sum-at_most s.kernels (λ j. length (entries_of (start_kernel s j) (made j))) (λ j below. subst (λ es. length es ≤ 100000) (entries-at m HasSeen s first made ns nodes j) (few-at m HasSeen s first made ns nodes j)) in
    let eight : s.kernels ≤ 8 = nodes.valid.limits.kernels in
    omega (arith, is, less, most, eight)
