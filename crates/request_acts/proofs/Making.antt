-- One replay of all processes, from the replay of each.
use Rattle.std.proofs.Common.{◌≡◌, ℕ, zero, suc, ◌+◌, ◌<◌, ◌≤◌, nat_eq, Bool, true, false, List, [], ◌∷◌, ◌++◌, Option, Some, None, inl, inr, refl, sym, ap, subst, ◌∙◌, arith}
use Rattle.std.specs.List.{AllByRecursion}
use Rattle.std.proofs.lemmas.Bool.{eq-eqb, eqb-true}
use Rattle.std.proofs.lemmas.Bool.Decides.{leb_tells}
use Rattle.charlotte_calls.specs.declared.calls.Answer.{Answer}
use Rattle.charlotte_calls.specs.declared.calls.Call.{Call}
use Rattle.charlotte_calls.specs.declared.names.Pid.{Pid}
use Rattle.charlotte_calls.specs.declared.program.Next.TheVariants as next
use Rattle.kernel_entries.specs.Order.{of_kernel}
use Rattle.kernel_entries.specs.declared.entry.Entry.{Entry}
use Rattle.kernel_entries.specs.declared.entry.Happened.{Happened}
use Rattle.kernel_entries.specs.declared.entry.Happened.TheVariants.{Asked, Took}
use Rattle.kernel_entries.specs.declared.entry.Placed.{Placed}
use Rattle.process_sound.specs.Runs.{step}
use Rattle.process_sound.specs.States.{State}
use Rattle.language_links.specs.Replay.{IsGiven, Replayed, Replays, with_entry, with_step}
use Rattle.language_links.specs.Replay as replay
use Rattle.language_links.specs.Told.{call_of}
use Rattle.language_links.specs.Acting.{Acting, Acts, Calls, Done, Fleet, IsAsking, Pauses, Rests, Takes, called, deeds_before, done_by, hears_entry, paused, with_acting}
use Rattle.request_acts.specs.Acted.{process}
use Rattle.request_acts.proofs.Callers.{none-of, own-call}
use Rattle.request_acts.proofs.Fleets.{asked_by, entries-here, entries-not, heard-here, heard-not, heard_by, set-other, set-self}
use Rattle.request_acts.proofs.Replays.{delayed}

-- a call in an entry is made by a process of these, at its kernel
pub record IsOwn (home : ℕ → ℕ) (count : ℕ) (e : Placed) : Type 0 where
  pub there : (p : Pid) (c : Call) → e.entry.what ≡ Asked p c → p.0 < count
  pub own : (p : Pid) (c : Call) → e.entry.what ≡ Asked p c → e.kernel ≡ home p.0

-- how many steps each made
abbrev steps_of : Fleet → ℕ → ℕ
steps_of f i = (f i).replayed.steps

-- all others are as they were
abbrev OthersStay : Pid → Fleet → Fleet → Type 0
OthersStay p f g = (i : ℕ) → nat_eq p.0 i ≡ false → g i ≡ f i

module _ (home : ℕ → ℕ) (count : ℕ) (ends : ℕ → Replayed State) where
  -- each has these entries before it
  abbrev pub AreToReplay : Fleet → List Placed → Type 0
  AreToReplay f es = (i : ℕ) → i < count → Replays step (process i) (f i).replayed (of_kernel (home i) es) (ends i)

  -- all replay them together, each to its end
  pub record Made (n : ℕ) (f : Fleet) (es : List Placed) : Type 0 where
    pub deeds : List Done
    pub last : Fleet
    pub acts : Acts home n f es deeds last
    pub ended : (i : ℕ) → i < count → (last i).replayed ≡ ends i
    -- there are no others
    pub others : (i : ℕ) → count ≤ i → steps_of last i ≡ steps_of f i

  -- none of these is another
  past : (p : Pid) (i : ℕ) → p.0 < count → count ≤ i → nat_eq p.0 i ≡ false
  past p i below above = by (nat_eq p.0 i) refl
    where
      by : (b : Bool) → nat_eq p.0 i ≡ b → b ≡ false
      by true same = let e : p.0 ≡ i = eqb-true p.0 i same in absurd (omega (arith, below, above, e))
      by false other = refl

  -- who hears of an entry makes no step by that
  heard-steps : (e : Placed) (f : Fleet) (i : ℕ) → steps_of (hears_entry home e f) i ≡ steps_of f i
  heard-steps e f i = by (nat_eq (home i) e.kernel) refl
    where
      by : (b : Bool) → nat_eq (home i) e.kernel ≡ b → steps_of (hears_entry home e f) i ≡ steps_of f i
      by true here = ap (λ (z : Acting). z.replayed.steps) (heard-here home e f i here)
      by false away = ap (λ (z : Acting). z.replayed.steps) (heard-not home e f i away)

  -- ---- pauses of one process

  module _ (n : ℕ) (p : Pid) (es : List Placed) (within : p.0 < count) where
    -- it makes one
    pausing : (f : Fleet) (x : Replayed State) (given : Option Answer) → (f p.0).replayed ≡ x → IsGiven x.last x.heard given → replay.IsNoCall (step x.state given).0
        → Made n (with_acting p (paused given (f p.0)) f) es → Made n f es
    pausing f x given at is none made = record {
      deeds = made.deeds;
      last = made.last;
      acts =
          Pauses n f p given es made.deeds made.last
          (record { is_given = subst (λ (z : Replayed State). IsGiven z.last z.heard given) (sym at) is; no_call = subst (λ (z : Replayed State). replay.IsNoCall (step z.state given).0) (sym at) none })
          made.acts;
      ended = made.ended;
      others = λ i above. made.others i above ∙ ap (λ (z : Acting). z.replayed.steps) (set-other p (paused given (f p.0)) f i (past p i within above));
    }

    paused-at : (f : Fleet) (x : Replayed State) (given : Option Answer) → (f p.0).replayed ≡ x → (with_acting p (paused given (f p.0)) f p.0).replayed ≡ with_step step given x
    paused-at f x given at = ap (λ (z : Acting). z.replayed) (set-self p (paused given (f p.0)) f) ∙ ap (λ (z : Replayed State). with_step step given z) at

    -- to its end
    to-end : {x y : Replayed State} {all : List Entry} → Replays step p x all y → all ≡ [] → (f : Fleet) → (f p.0).replayed ≡ x
        → ((g : Fleet) → (g p.0).replayed ≡ y → OthersStay p f g → Made n g es) → Made n f es
    to-end (replay.Rests x) same f at onward = onward f at (λ i other. refl)
    to-end (replay.Passes x e rest y quiet r) same f at onward = let no : e ∷ rest ≡ [] = same in absurd cc
    to-end (replay.Asks x given c e rest y is asks call r) same f at onward = let no : e ∷ rest ≡ [] = same in absurd cc
    to-end (replay.Pauses x given all y is none r) same f at onward =
        pausing f x given at is none
        (to-end r same (with_acting p (paused given (f p.0)) f) (paused-at f x given at) (λ g there others. onward g there (λ i other. others i other ∙ set-other p (paused given (f p.0)) f i other)))

    -- to its next call
    to-call : (c : Call) (e : Entry) (rest : List Entry) → call_of p e.what ≡ Some c → {x y : Replayed State} {all : List Entry} → Replays step p x all y → all ≡ e ∷ rest → (f : Fleet) → (f p.0).replayed ≡ x
        → ((g : Fleet) (given : Option Answer) → IsAsking (g p.0) given c → Replays step p (with_entry p e (with_step step given (g p.0).replayed)) rest y → OthersStay p f g → Made n g es) → Made n f es
    to-call c e rest call (replay.Rests x) same f at onward = let no : [] ≡ e ∷ rest = same in absurd cc
    to-call c e rest call (replay.Passes x d es y quiet r) same f at onward =
        let head : d ≡ e = cc in
        let no : None ≡ Some c = sym quiet ∙ ap (λ (z : Entry). call_of p z.what) head ∙ call in
        absurd cc
    to-call c e rest call {y = y} (replay.Asks x given b d es z is asks calls r) same f at onward =
        let head : d ≡ e = cc in
        let tail : es ≡ rest = cc in
        let both : Some b ≡ Some c = sym calls ∙ ap (λ (z : Entry). call_of p z.what) head ∙ call in
        let one : b ≡ c = cc in
        onward f given
        (record {
          is_given = subst (λ (z : Replayed State). IsGiven z.last z.heard given) (sym at) is;
          asks = ap (λ (z : Replayed State). (step z.state given).0) at ∙ asks ∙ ap (λ (z : Call). next.Ask z) one;
        })
        (subst (λ (u : Replayed State). Replays step p (with_entry p e (with_step step given u)) rest z) (sym at)
        (subst (λ (d : Entry). Replays step p (with_entry p d (with_step step given x)) rest z) head (subst (λ (l : List Entry). Replays step p (with_entry p d (with_step step given x)) l z) tail r)))
        (λ i other. refl)
    to-call c e rest call (replay.Pauses x given all y is none r) same f at onward =
        pausing f x given at is none
        (to-call c e rest call r same (with_acting p (paused given (f p.0)) f) (paused-at f x given at)
        (λ g later asking left others. onward g later asking left (λ i other. others i other ∙ set-other p (paused given (f p.0)) f i other)))

  -- ---- at the end

  -- the first of them have their pauses still to make, and the others are at their ends
  to-ends : (n : ℕ) (k : ℕ) (f : Fleet) → AreToReplay f [] → ((i : ℕ) → k ≤ i → i < count → (f i).replayed ≡ ends i) → Made n f []
  to-ends n zero f r ended = record { deeds = []; last = f; acts = Rests n f; ended = λ i below. ended i (omega arith) below; others = λ i above. refl }
  to-ends n (suc k) f r ended = elim (leb_tells count k) [
    | inl above ↦ to-ends n k f r (λ i from within. ended i (omega (arith, above.1)) within)
    | inr below ↦
        to-end n (process k) [] below.1 (r k below.1) refl f refl
        (λ g there others. to-ends n k g (λ i within. by-same g there others i within (nat_eq k i) refl) (λ i from within. by-end g there others i from within (nat_eq k i) refl))
  ]
    where
      by-same : (g : Fleet) → (g k).replayed ≡ ends k → OthersStay (process k) f g → (i : ℕ) → i < count → (b : Bool) → nat_eq k i ≡ b → Replays step (process i) (g i).replayed [] (ends i)
      by-same g there others i within true same =
          subst (λ (j : ℕ). Replays step (process j) (g j).replayed [] (ends j)) (eqb-true k i same) (subst (λ (z : Replayed State). Replays step (process k) z [] (ends k)) (sym there) (replay.Rests (ends k)))
      by-same g there others i within false other = subst (λ (z : Acting). Replays step (process i) z.replayed [] (ends i)) (sym (others i other)) (r i within)

      by-end : (g : Fleet) → (g k).replayed ≡ ends k → OthersStay (process k) f g → (i : ℕ) → k ≤ i → i < count → (b : Bool) → nat_eq k i ≡ b → (g i).replayed ≡ ends i
      by-end g there others i from within true same = subst (λ (j : ℕ). (g j).replayed ≡ ends j) (eqb-true k i same) there
      by-end g there others i from within false other =
          let apart : (k ≡ i → ⊥) = λ (e : k ≡ i). (let no : true ≡ false = sym (eq-eqb k i e) ∙ other in absurd cc) in
          ap (λ (z : Acting). z.replayed) (others i other) ∙ ended i (omega (arith, apart)) within

  -- ---- an entry

  -- a process that makes no call in it
  passed : (e : Placed) (es : List Placed) (f : Fleet) (i : ℕ) → call_of (process i) e.entry.what ≡ None → Replays step (process i) (f i).replayed (of_kernel (home i) (e ∷ es)) (ends i)
      → Replays step (process i) (hears_entry home e f i).replayed (of_kernel (home i) es) (ends i)
  passed e es f i none r = by (nat_eq (home i) e.kernel) refl
    where
      by : (b : Bool) → nat_eq (home i) e.kernel ≡ b → Replays step (process i) (hears_entry home e f i).replayed (of_kernel (home i) es) (ends i)
      by true here =
          subst (λ (z : Acting). Replays step (process i) z.replayed (of_kernel (home i) es) (ends i)) (sym (heard-here home e f i here))
          (delayed step (process i) e.entry none r (of_kernel (home i) es) (entries-here home e f i es here))
      by false away =
          subst (λ (z : Acting). Replays step (process i) z.replayed (of_kernel (home i) es) (ends i)) (sym (heard-not home e f i away))
          (subst (λ (l : List Entry). Replays step (process i) (f i).replayed l (ends i)) (entries-not home e f i es away) r)

  module _ (n : ℕ) (e : Placed) (es : List Placed) (f : Fleet) (r : AreToReplay f (e ∷ es)) (onward : (g : Fleet) → AreToReplay g es → Made (n + 1) g es) where
    -- it takes a packet
    taking : ((p : Pid) → call_of p e.entry.what ≡ None) → Made n f (e ∷ es)
    taking none =
        let made = onward (hears_entry home e f) (λ i below. passed e es f i (none (process i)) (r i below)) in
        record { deeds = made.deeds; last = made.last; acts = Takes n f e es made.deeds made.last none made.acts; ended = made.ended; others = λ i above. made.others i above ∙ heard-steps e f i }

    -- or a process calls
    module _ (p : Pid) (c : Call) (is : e.entry.what ≡ Asked p c) (below : p.0 < count) (own : e.kernel ≡ home p.0) where
      call : call_of p e.entry.what ≡ Some c
      call = ap (λ (w : Happened). call_of p w) is ∙ own-call p c

      here : nat_eq (home p.0) e.kernel ≡ true
      here = eq-eqb (home p.0) e.kernel (sym own)

      module _ (g : Fleet) (given : Option Answer) (asking : IsAsking (g p.0) given c) (left : Replays step p (with_entry p e.entry (with_step step given (g p.0).replayed)) (of_kernel (home p.0) es) (ends p.0))
          (others : OthersStay p f g) where
        behind : (i : ℕ) → i < count → Replays step (process i) (hears_entry home e (asked_by p given g) i).replayed (of_kernel (home i) es) (ends i)
        behind i within = by (nat_eq p.0 i) refl
          where
            itself : Replays step p (hears_entry home e (asked_by p given g) p.0).replayed (of_kernel (home p.0) es) (ends p.0)
            itself =
                subst (λ (z : Acting). Replays step p z.replayed (of_kernel (home p.0) es) (ends p.0))
                (sym (heard-here home e (asked_by p given g) p.0 here ∙ ap (heard_by p.0 e.entry) (set-self p (called given (g p.0)) g))) left

            by : (b : Bool) → nat_eq p.0 i ≡ b → Replays step (process i) (hears_entry home e (asked_by p given g) i).replayed (of_kernel (home i) es) (ends i)
            by true same = subst (λ (j : ℕ). Replays step (process j) (hears_entry home e (asked_by p given g) j).replayed (of_kernel (home j) es) (ends j)) (eqb-true p.0 i same) itself
            by false other =
                passed e es (asked_by p given g) i (ap (λ (w : Happened). call_of (process i) w) is ∙ none-of i p c other)
                (subst (λ (z : Acting). Replays step (process i) z.replayed (of_kernel (home i) (e ∷ es)) (ends i)) (sym (set-other p (called given (g p.0)) g i other ∙ others i other)) (r i within))

        asks : Made n g (e ∷ es)
        asks =
            let made = onward (hears_entry home e (asked_by p given g)) behind in
            record {
              deeds = done_by p n (deeds_before given (g p.0)) ++ made.deeds;
              last = made.last;
              acts = Calls n g p given c e es made.deeds made.last own call asking made.acts;
              ended = made.ended;
              others =
                  λ i above. made.others i above ∙ heard-steps e (asked_by p given g) i
                  ∙ ap (λ (z : Acting). z.replayed.steps) (set-other p (called given (g p.0)) g i (past p i below above));
            }

      calling : Made n f (e ∷ es)
      calling = to-call n p (e ∷ es) below c e.entry (of_kernel (home p.0) es) call (r p.0 below) (entries-here home e f p.0 es here) f refl asks

  -- ---- all entries

  pub made : (n : ℕ) (es : List Placed) → AllByRecursion (IsOwn home count) es → (f : Fleet) → AreToReplay f es → Made n f es
  made n [] own f r = to-ends n count f r (λ i from within. absurd (omega arith))
  made n (e ∷ es) own f r = by e.entry.what refl (λ g s. made (n + 1) es own.1 g s)
    where
      by : (w : Happened) → e.entry.what ≡ w → ((g : Fleet) → AreToReplay g es → Made (n + 1) g es) → Made n f (e ∷ es)
      by (Took from picture) is onward = taking n e es f r onward (λ p. ap (λ (w : Happened). call_of p w) is)
      by (Asked p c) is onward = calling n e es f r onward p c is (own.0.there p c is) (own.0.own p c is)
