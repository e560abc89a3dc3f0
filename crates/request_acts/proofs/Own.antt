-- What one process does in a run is a process run: its calls and its deeds are those of its own steps, in order.
use Rattle.std.proofs.Common.{◌≡◌, ◌⊎◌, ℕ, zero, suc, ◌+◌, ◌<◌, ◌≤◌, nat_eq, Bool, true, false, List, [], ◌∷◌, ◌++◌, length, map, Option, Some, None, inl, inr, refl, sym, ap, subst, ◌∙◌, append_assoc, append-nil, arith}
use Rattle.std.specs.List.{range_with_len}
use Rattle.std.proofs.lemmas.Bool.{eq-eqb, eqb-true}
use Rattle.charlotte_calls.specs.Program.{steps}
use Rattle.charlotte_calls.specs.declared.calls.Answer.{Answer}
use Rattle.charlotte_calls.specs.declared.calls.Call.{Call}
use Rattle.charlotte_calls.specs.declared.names.Pid.{Pid}
use Rattle.charlotte_calls.specs.declared.program.Next.{Next}
use Rattle.charlotte_calls.specs.declared.program.Next.TheVariants as next
use Rattle.charlotte_calls.specs.declared.setting.Setting.{Setting}
use Rattle.kernel_entries.specs.declared.entry.Placed.{Placed}
use Rattle.process_sound.specs.Runs.{deeds, deeds_of as run_deeds, step}
use Rattle.process_sound.specs.States.{DeedOn}
use Rattle.language_links.specs.Replay.{IsNoCall}
use Rattle.language_links.specs.Told.{call_of}
use Rattle.language_links.specs.Acting.{Acting, Acts, Calls, Done, Fleet, IsAsking, IsPausing, Pauses, Program, Rests, Takes, at_end, at_start, called, deeds_before, done_by, hears_entry, paused, with_acting}
use Rattle.request_acts.specs.Acted.{AreActed, IsRunBy, asked_in, asked_of, calls_by, calls_of, deeds_by, home_of, process}
use Rattle.request_acts.proofs.Callers.{none-else}
use Rattle.request_acts.proofs.Fleets.{asked_by, heard-here, heard-not, heard_by, set-other, set-self}

-- ---- the deeds of one process among those of all

pub by-own : (p : Pid) (n : ℕ) (l : List DeedOn) (ds : List Done) → deeds_by p.0 (done_by p n l ++ ds) ≡ l ++ deeds_by p.0 ds
by-own p n [] ds = refl
by-own p n (d ∷ l) ds = rw (eq-eqb p.0 p.0 refl) (ap (λ (m : List DeedOn). d ∷ m) (by-own p n l ds))

pub by-other : (p : Pid) (i n : ℕ) (l : List DeedOn) (ds : List Done) → nat_eq p.0 i ≡ false → deeds_by i (done_by p n l ++ ds) ≡ deeds_by i ds
by-other p i n [] ds other = refl
by-other p i n (d ∷ l) ds other = rw other (by-other p i n l ds other)

pub by-both : (i : ℕ) (ds es : List Done) → deeds_by i (ds ++ es) ≡ deeds_by i ds ++ deeds_by i es
by-both i [] es = refl
by-both i (d ∷ ds) es = by (nat_eq d.by.0 i) refl (by-both i ds es)
  where
    by : (b : Bool) → nat_eq d.by.0 i ≡ b → deeds_by i (ds ++ es) ≡ deeds_by i ds ++ deeds_by i es → deeds_by i (d ∷ (ds ++ es)) ≡ deeds_by i (d ∷ ds) ++ deeds_by i es
    by true same rest = rw same (ap (λ (l : List DeedOn). record { on = d.on; deed = d.deed } ∷ l) rest)
    by false other rest = rw other rest

none-asked : (n : Next) → IsNoCall n → asked_of n ≡ []
none-asked (next.Ask c) none = absurd none
none-asked next.Pause none = refl
none-asked next.Ended none = refl

-- ---- along the entries

-- given this, it comes from one state to another, with these of the deeds and these of the calls
pub record IsOwn (i : ℕ) (x : Acting) (es : List Placed) (ds : List Done) (y : Acting) : Type 0 where
  pub given : List (Option Answer)
  pub count : x.replayed.steps + length given ≡ y.replayed.steps
  pub deeds : x.since ++ run_deeds x.replayed.state given ≡ deeds_by i ds ++ y.since
  pub calls : asked_in (steps step x.replayed.state given) ≡ calls_by i es

module _ (home : ℕ → ℕ) where
  unheard : (e : Placed) (es : List Placed) (f : Fleet) (i : ℕ) (ds : List Done) (y : Acting) → IsOwn i (hears_entry home e f i) es ds y → IsOwn i (f i) es ds y
  unheard e es f i ds y own = by (nat_eq (home i) e.kernel) refl
    where
      by : (b : Bool) → nat_eq (home i) e.kernel ≡ b → IsOwn i (f i) es ds y
      by true here =
          let r : IsOwn i (heard_by i e.entry (f i)) es ds y = subst (λ (z : Acting). IsOwn i z es ds y) (heard-here home e f i here) own in
          record { given = r.given; count = r.count; deeds = r.deeds; calls = r.calls }
      by false away = subst (λ (z : Acting). IsOwn i z es ds y) (heard-not home e f i away) own

  without-call : (e : Placed) (es : List Placed) (i : ℕ) (x : Acting) (ds : List Done) (y : Acting) → call_of (process i) e.entry.what ≡ None → IsOwn i x es ds y → IsOwn i x (e ∷ es) ds y
  without-call e es i x ds y none own = record {
    given = own.given;
    count = own.count;
    deeds = own.deeds;
    calls = own.calls ∙ ap (λ (o : Option Call). calls_of o ++ calls_by i es) (sym none);
  }

  with-pause : (i : ℕ) (x : Acting) (given : Option Answer) (es : List Placed) (ds : List Done) (y : Acting) → IsPausing x given → IsOwn i (paused given x) es ds y → IsOwn i x es ds y
  with-pause i x given es ds y pausing own = record {
    given = given ∷ own.given;
    count = omega (arith, own.count);
    deeds = sym (append_assoc x.since (deeds x.replayed.state given) (run_deeds (step x.replayed.state given).1 own.given)) ∙ own.deeds;
    calls = ap (λ (l : List Call). l ++ asked_in (steps step (step x.replayed.state given).1 own.given)) (none-asked (step x.replayed.state given).0 pausing.no_call) ∙ own.calls;
  }

  with-call : (p : Pid) (x : Acting) (given : Option Answer) (c : Call) (n : ℕ) (e : Placed) (es : List Placed) (ds : List Done) (y : Acting) → IsAsking x given c → call_of p e.entry.what ≡ Some c
      → IsOwn p.0 (called given x) es ds y → IsOwn p.0 x (e ∷ es) (done_by p n (deeds_before given x) ++ ds) y
  with-call p x given c n e es ds y asking call own =
      let all = deeds_before given x in
      let more = run_deeds (step x.replayed.state given).1 own.given in
      record {
        given = given ∷ own.given;
        count = omega (arith, own.count);
        deeds =
            sym (append_assoc x.since (deeds x.replayed.state given) more) ∙ ap (λ (l : List DeedOn). all ++ l) own.deeds ∙ sym (append_assoc all (deeds_by p.0 ds) y.since)
            ∙ ap (λ (l : List DeedOn). l ++ y.since) (sym (by-own p n all ds));
        calls =
            ap (λ (m : Next). asked_of m ++ asked_in (steps step (step x.replayed.state given).1 own.given)) asking.asks ∙ ap (λ (l : List Call). c ∷ l) own.calls
            ∙ ap (λ (o : Option Call). calls_of o ++ calls_by p.0 es) (sym call);
      }

  pub own : {n : ℕ} {f g : Fleet} {es : List Placed} {ds : List Done} → Acts home n f es ds g → (i : ℕ) → IsOwn i (f i) es ds (g i)
  own (Rests n f) i = record { given = []; count = omega arith; deeds = append-nil (f i).since; calls = refl }
  own (Pauses n f p given es ds g pausing acts) i = by (own acts) (nat_eq p.0 i) refl
    where
      by : ((j : ℕ) → IsOwn j (with_acting p (paused given (f p.0)) f j) es ds (g j)) → (b : Bool) → nat_eq p.0 i ≡ b → IsOwn i (f i) es ds (g i)
      by rest true same =
          subst (λ (j : ℕ). IsOwn j (f j) es ds (g j)) (eqb-true p.0 i same)
          (with-pause p.0 (f p.0) given es ds (g p.0) pausing (subst (λ (z : Acting). IsOwn p.0 z es ds (g p.0)) (set-self p (paused given (f p.0)) f) (rest p.0)))
      by rest false other = subst (λ (z : Acting). IsOwn i z es ds (g i)) (set-other p (paused given (f p.0)) f i other) (rest i)
  own (Calls n f p given c e es ds g there call asking acts) i = by (own acts) (nat_eq p.0 i) refl
    where
      by : ((j : ℕ) → IsOwn j (hears_entry home e (asked_by p given f) j) es ds (g j)) → (b : Bool) → nat_eq p.0 i ≡ b → IsOwn i (f i) (e ∷ es) (done_by p n (deeds_before given (f p.0)) ++ ds) (g i)
      by rest true same =
          subst (λ (j : ℕ). IsOwn j (f j) (e ∷ es) (done_by p n (deeds_before given (f p.0)) ++ ds) (g j)) (eqb-true p.0 i same)
          (with-call p (f p.0) given c n e es ds (g p.0) asking call
          (subst (λ (z : Acting). IsOwn p.0 z es ds (g p.0)) (set-self p (called given (f p.0)) f) (unheard e es (asked_by p given f) p.0 ds (g p.0) (rest p.0))))
      by rest false other =
          let r : IsOwn i (f i) es ds (g i) = subst (λ (z : Acting). IsOwn i z es ds (g i)) (set-other p (called given (f p.0)) f i other) (unheard e es (asked_by p given f) i ds (g i) (rest i)) in
          let all : IsOwn i (f i) (e ∷ es) ds (g i) = without-call e es i (f i) ds (g i) (none-else p i c e.entry.what call other) r in
          record {
            given = all.given;
            count = all.count;
            deeds = all.deeds ∙ ap (λ (l : List DeedOn). l ++ (g i).since) (sym (by-other p i n (deeds_before given (f p.0)) ds other));
            calls = all.calls;
          }
  own (Takes n f e es ds g none acts) i = without-call e es i (f i) ds (g i) (none (process i)) (unheard e es f i ds (g i) (own acts i))

-- ---- at the end

ends-none : (n i from count : ℕ) (g : Fleet) → (i < from) ⊎ (from + count ≤ i) → deeds_by i (at_end n g (map process (range_with_len from count))) ≡ []
ends-none n i from zero g away = refl
ends-none n i from (suc count) g away = by (nat_eq from i) refl (ends-none n i (from + 1) count g (further away))
  where
    further : (i < from) ⊎ (from + suc count ≤ i) → (i < from + 1) ⊎ ((from + 1) + count ≤ i)
    further (inl below) = inl (omega (arith, below))
    further (inr above) = inr (omega (arith, above))

    apart : (i < from) ⊎ (from + suc count ≤ i) → from ≡ i → ⊥
    apart (inl below) same = omega (arith, below, same)
    apart (inr above) same = omega (arith, above, same)

    by : (b : Bool) → nat_eq from i ≡ b → deeds_by i (at_end n g (map process (range_with_len (from + 1) count))) ≡ [] → deeds_by i (at_end n g (map process (range_with_len from (suc count)))) ≡ []
    by true same rest = absurd (apart away (eqb-true from i same))
    by false other rest = by-other (process from) i n (g from).since (at_end n g (map process (range_with_len (from + 1) count))) other ∙ rest

ends-own : (n i from count : ℕ) (g : Fleet) → from ≤ i → i < from + count → deeds_by i (at_end n g (map process (range_with_len from count))) ≡ (g i).since
ends-own n i from zero g above below = absurd (omega (arith, above, below))
ends-own n i from (suc count) g above below =
    by (nat_eq from i) refl (λ apart. ends-own n i (from + 1) count g (omega (arith, above, apart)) (omega (arith, below)))
  where
    by : (b : Bool) → nat_eq from i ≡ b → ((from ≡ i → ⊥) → deeds_by i (at_end n g (map process (range_with_len (from + 1) count))) ≡ (g i).since) → deeds_by i (at_end n g (map process (range_with_len from (suc count)))) ≡ (g i).since
    by true same rest =
        subst (λ (j : ℕ). deeds_by j (at_end n g (map process (range_with_len from (suc count)))) ≡ (g j).since) (eqb-true from i same)
        (by-own (process from) n (g from).since (at_end n g (map process (range_with_len (from + 1) count)))
        ∙ ap (λ (l : List DeedOn). (g from).since ++ l) (ends-none n from (from + 1) count g (inl (omega arith))) ∙ append-nil (g from).since)
    by false other rest =
        by-other (process from) i n (g from).since (at_end n g (map process (range_with_len (from + 1) count))) other
        ∙ rest (λ (e : from ≡ i). (let no : true ≡ false = sym (eq-eqb from i e) ∙ other in absurd cc))

-- ---- of a run

module _ (s : Setting) (programs : ℕ → Program) (merged : List Placed) (made : ℕ → ℕ) (a : AreActed s programs merged made) where
  pub run-by : (i : ℕ) → i < length s.homes → IsRunBy s programs merged made a i
  run-by i within =
      let r : IsOwn i (at_start s.version programs i) merged a.before_calls (a.last i) = own (home_of s) a.acts i in
      record {
        given = r.given;
        count = omega (arith, r.count, a.steps_are i within);
        deeds =
            by-both i a.before_calls (at_end (length merged) a.last (map process (range_with_len 0 (length s.homes))))
            ∙ ap (λ (l : List DeedOn). deeds_by i a.before_calls ++ l) (ends-own (length merged) i 0 (length s.homes) a.last (omega arith) (omega (arith, within))) ∙ sym r.deeds;
        calls = sym r.calls;
      }
