-- Worlds: what an event makes of the nodes, and how far a world can be told.
use Rattle.std.proofs.Common.{◌≡◌, ◌≢◌, inl, inr, ℕ, ◌+◌, ◌-◌, ◌^◌, ◌<◌, ◌≤◌, max, Bool, true, false, nat_eq, ◌&&◌, List, [], ◌∷◌, ◌++◌, length, map, All, cond, arith, ap, sym, subst, ◌∙◌, refl, append_assoc, append-nil}
use Rattle.std.specs.List.{fold, filter}
use Rattle.std.proofs.lemmas.List.Elements.{All-nil, All-cons, All-head, All-tail, All-weaker, All-append}
use Rattle.std.proofs.lemmas.Bool.Decides.{eqb_tells}
use Rattle.charlotte_calls.specs.Names.{opposite}
use Rattle.charlotte_calls.specs.declared.calls.Call.{Call}
use Rattle.charlotte_calls.specs.declared.calls.Call.TheVariants as call
use Rattle.charlotte_calls.specs.declared.names.EndId.{EndId}
use Rattle.charlotte_calls.specs.declared.names.Pid.{Pid}
use Rattle.charlotte_packets.specs.declared.picture.Picture.{Picture}
use Rattle.charlotte_calls.specs.declared.setting.Setting.{Setting}
use Rattle.end_table.specs.Place.{put}
use Rattle.end_table.specs.declared.entry.Entry.{Entry as TableEntry}
use Rattle.transcript_lines.specs.TranscriptText.{HasFew, HasFewCall, HasFewPacket, IsShown}
use Rattle.kernel_step.specs.Calls.{made_end}
use Rattle.kernel_step.specs.Kernel.{Kernel, Outcome, call_step, take_step, next_stamp, without_answer}
use Rattle.kernel_step.specs.Start.{home, Wired, nothing_wired, owned_from_start, keeps_at, wires_one}
use Rattle.kernel_world.specs.Run.{IsCallOf, IsAllowed, AreAllowed}
use Rattle.kernel_world.specs.World.{World, Event, Calls, Takes, kernel_of, takes_first, nothing_sent, first_or, outcome, rest, removes, adds, adds_all, happens, asked_or_took, noted_as, after, noted, start, to_kernel}
use Rattle.kernel_world.proofs.Packets.{adds_all-own, adds_all-other}
use Rattle.kernel_entries.specs.declared.entry.Happened.{Happened}
use Rattle.kernel_entries.specs.declared.entry.Happened.TheVariants.{Asked, Took}
use Rattle.transcript_record.specs.Told.{IsFewEntry, IsTold, IsToldPacket, IsToldWorld, IsToldReport}
use Rattle.transcript_record.proofs.Kept.{IsFewSent, few_none, put-few}
use Rattle.transcript_record.proofs.KeptSteps.{Gives, call_step-gives, take_step-gives, told-without_answer}

-- ---- what an event gives can be told

few_call : (v : ℕ) (c : Call) → IsCallOf v c → HasFewCall v c
few_call v call.Make h = tt
few_call v (call.Destroy on) h = tt
few_call v (call.Send on bytes xs) h = h.0
few_call v (call.Receive on) h = tt
few_call v (call.Cancel on w) h = tt
few_call v call.Wait h = tt
few_call v (call.Print bytes) h = tt
few_call v call.Exit h = tt

-- an event in a world that can be told, whose stamp is greater than that of its kernel
pub record IsEvent (s : Setting) (n : ℕ) (w : World) (e : Event) : Type 0 where
  pub gives : Gives s.version (outcome w e).kernel.stamp (asked_or_took w e) (outcome w e)
  pub later : (w.kernel (kernel_of e)).stamp < (outcome w e).kernel.stamp
  pub few_events : (outcome w e).kernel.stamp ≤ n + 1
  pub shown : HasFew s.version (asked_or_took w e)

same-stamp : (v n : ℕ) (w : Happened) (o : Outcome) → Gives v n w o → Gives v o.kernel.stamp w o
same-stamp v n w o g = subst (λ m. Gives v m w o) (sym g.stamp) g

taken-event : (s : Setting) (n : ℕ) (k : Kernel) (from : ℕ) (ps : List Picture) → n < 2 ^ 64 - 1 → IsTold s.version k → k.stamp ≤ n → All (IsToldPacket s.version n) ps → ps ≢ []
    → Gives s.version (takes_first k from ps).kernel.stamp (Took from (first_or nothing_sent ps)) (takes_first k from ps) × (k.stamp < (takes_first k from ps).kernel.stamp)
    × ((takes_first k from ps).kernel.stamp ≤ n + 1) × HasFewPacket s.version (first_or nothing_sent ps).what
taken-event s n k from [] early told stamp all some = absurd (some refl)
taken-event s n k from (q ∷ qs) early told stamp all some =
    let first : IsToldPacket s.version n q = All-head (IsToldPacket s.version n) q qs all in
    let g = take_step-gives s.version (Took from q) k from q told first.few in
    let at : (take_step k from q).kernel.stamp ≡ next_stamp (max k.stamp q.stamp) = g.stamp in
    let before : q.stamp ≤ n = first.stamp in
    (same-stamp s.version (next_stamp (max k.stamp q.stamp)) (Took from q) (take_step k from q) g, omega arith, omega arith, first.few)

pub is_event : (s : Setting) (n : ℕ) (w : World) (e : Event) → n < 2 ^ 64 - 1 → IsAllowed s w e → IsToldWorld s n w → IsEvent s n w e
is_event s n w (Calls k p c mine) early allowed told =
    let few : HasFewCall s.version c = few_call s.version c allowed.3 in
    let g = call_step-gives s.version (without_answer p (w.kernel k)) p mine c few (told-without_answer s.version (w.kernel k) p (told.kernels k)) in
    let at : (call_step (without_answer p (w.kernel k)) p mine c).kernel.stamp ≡ next_stamp (w.kernel k).stamp = g.stamp in
    let before : (w.kernel k).stamp ≤ n = told.stamps k in
    record {
      gives = same-stamp s.version (next_stamp (w.kernel k).stamp) (Asked p c) (call_step (without_answer p (w.kernel k)) p mine c) g;
      later = omega arith;
      few_events = omega arith;
      shown = few;
    }
is_event s n w (Takes k from) early allowed told =
    let t = taken-event s n (w.kernel k) from (w.packets from k) early (told.kernels k) (told.stamps k) (told.packets from k) allowed in
    record { gives = t.0; later = t.1; few_events = t.2; shown = t.3 }

-- ---- so can the world after it

told-more : (v n m : ℕ) (ps : List Picture) → n ≤ m → All (IsToldPacket v n) ps → All (IsToldPacket v m) ps
told-more v n m ps le all = All-weaker (IsToldPacket v n) (IsToldPacket v m) (λ q h. record { stamp = up q h; few = h.few }) ps all
  where
    up : (q : Picture) → IsToldPacket v n q → q.stamp ≤ m
    up q h = let at : q.stamp ≤ n = h.stamp in omega arith

told-rest : (v n : ℕ) (ps : List Picture) → All (IsToldPacket v n) ps → All (IsToldPacket v n) (rest ps)
told-rest v n [] all = all
told-rest v n (p ∷ ps) all = All-tail (IsToldPacket v n) p ps all

told-removes : (s : Setting) (n : ℕ) (w : World) (e : Event) (from to : ℕ) → IsToldWorld s n w → All (IsToldPacket s.version n) (removes e w.packets from to)
told-removes s n w (Calls k p c mine) from to told = told.packets from to
told-removes s n w (Takes k j) from to told =
    elim (nat_eq from j && nat_eq to k) as (λ b. All (IsToldPacket s.version n) (cond b (rest (w.packets from to)) (w.packets from to))) [
      | true ↦ told-rest s.version n (w.packets from to) (told.packets from to)
      | false ↦ told.packets from to
    ]

told-to_kernel : (v m n to : ℕ) (sent : List (ℕ × Picture)) → m ≤ n → All (IsFewSent v m) sent → All (IsToldPacket v n) (to_kernel to sent)
told-to_kernel v m n to [] le all = All-nil (IsToldPacket v n)
told-to_kernel v m n to (x ∷ xs) le all =
    let others : All (IsToldPacket v n) (to_kernel to xs) = told-to_kernel v m n to xs le (All-tail (IsFewSent v m) x xs all) in
    let one : IsFewSent v m x = All-head (IsFewSent v m) x xs all in
    let at : x.1.stamp ≡ m = one.0 in
    elim (nat_eq to x.0) as (λ b. All (IsToldPacket v n) (map (λ (s : ℕ × Picture). s.1) (cond b (x ∷ filter (λ s. nat_eq to s.0) xs) (filter (λ s. nat_eq to s.0) xs)))) [
      | true ↦ All-cons (IsToldPacket v n) x.1 (to_kernel to xs) (record { stamp = omega arith; few = one.1 }) others
      | false ↦ others
    ]

pub told-happens : (s : Setting) (n : ℕ) (w : World) (e : Event) → IsEvent s n w e → IsToldWorld s n w → IsToldWorld s (n + 1) (happens w e)
told-happens s n w e is told =
    let o : Outcome = outcome w e in
    let k : ℕ = kernel_of e in
    record {
      kernels = λ q. elim (nat_eq q k) as (λ b. IsTold s.version (cond b o.kernel (w.kernel q))) [ true ↦ is.gives.told | false ↦ told.kernels q ];
      stamps = λ q. elim (nat_eq q k) as (λ b. (cond b o.kernel (w.kernel q)).stamp ≤ n + 1) [ true ↦ is.few_events | false ↦ let le : (w.kernel q).stamp ≤ n = told.stamps q in omega arith ];
      packets = λ from to.
          let before : All (IsToldPacket s.version (n + 1)) (removes e w.packets from to) = told-more s.version n (n + 1) (removes e w.packets from to) (omega arith) (told-removes s n w e from to told) in
          elim (eqb_tells from k) [
            | inl h ↦ subst (All (IsToldPacket s.version (n + 1))) (sym (adds_all-own k o.packets (removes e w.packets) from to h.0))
                (All-append (IsToldPacket s.version (n + 1)) (removes e w.packets from to) (to_kernel to o.packets) before (told-to_kernel s.version o.kernel.stamp (n + 1) to o.packets is.few_events is.gives.packets))
            | inr h ↦ subst (All (IsToldPacket s.version (n + 1))) (sym (adds_all-other k o.packets (removes e w.packets) from to h.0)) before
          ];
    }

-- ---- and what follows

pub told-after : (s : Setting) (n : ℕ) (w : World) (es : List Event) → n + length es < 2 ^ 64 - 1 → AreAllowed s w es → IsToldWorld s n w → IsToldWorld s (n + length es) (after w es)
told-after s n w [] early allowed told = subst (λ m. IsToldWorld s m w) (omega arith) told
told-after s n w (e ∷ es) early allowed told =
    subst (λ m. IsToldWorld s m (after (happens w e) es)) (omega arith)
    (told-after s (n + 1) (happens w e) es (omega arith) allowed.1 (told-happens s n w e (is_event s n w e (omega arith) allowed.0 told) told))

-- all entries of a run show what they have
pub shown-noted : (s : Setting) (n : ℕ) (w : World) (es : List Event) → n + length es < 2 ^ 64 - 1 → AreAllowed s w es → IsToldWorld s n w → All (IsShown s.version) (noted w es)
shown-noted s n w [] early allowed told = All-nil (IsShown s.version)
shown-noted s n w (e ∷ es) early allowed told =
    let is : IsEvent s n w e = is_event s n w e (omega arith) allowed.0 told in
    All-cons (IsShown s.version) (noted_as w e) (noted (happens w e) es) (is.shown, is.gives.steps)
    (shown-noted s (n + 1) (happens w e) es (omega arith) allowed.1 (told-happens s n w e is told))

-- ---- the start

keeps_at-few : (v k : ℕ) (e : EndId) (x : TableEntry) (tables : ℕ → EndId → TableEntry) → ((q : ℕ) (f : EndId) → IsFewEntry v (tables q f)) → IsFewEntry v x → (q : ℕ) (f : EndId) → IsFewEntry v (keeps_at k e x tables q f)
keeps_at-few v k e x tables all few q f =
    elim (nat_eq q k) as (λ b. IsFewEntry v ((cond b (put (tables q) e x) (tables q)) f)) [ true ↦ put-few v (tables q) e x (all q) few f | false ↦ all q f ]

wires-few : (s : Setting) (v : ℕ) (wires : List (Pid × Pid)) (so_far : Wired) → ((q : ℕ) (f : EndId) → IsFewEntry v (so_far.table q f)) → (q : ℕ) (f : EndId) → IsFewEntry v ((fold (wires_one s) so_far wires).table q f)
wires-few s v [] so_far all = all
wires-few s v (x ∷ xs) so_far all =
    let maker : ℕ = home s x.0 in
    let a : EndId = made_end maker (so_far.made maker) in
    wires-few s v xs (wires_one s so_far x)
    (keeps_at-few v (home s x.1) (opposite a) (owned_from_start x.1 (opposite a) maker) (keeps_at maker a (owned_from_start x.0 a (home s x.1)) so_far.table)
    (keeps_at-few v maker a (owned_from_start x.0 a (home s x.1)) so_far.table all (few_none v)) (few_none v))

pub told-start : (s : Setting) → IsToldWorld s 0 (start s)
told-start s =
    record {
      kernels = λ k. record { table = wires-few s s.version s.wires nothing_wired (λ q f. tt) k; reports = λ q. All-nil (IsToldReport s.version) };
      stamps = λ k. omega arith;
      packets = λ from to. All-nil (IsToldPacket s.version 0);
    }
