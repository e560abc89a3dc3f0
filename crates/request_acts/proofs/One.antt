-- The deeds in the entries of a run are determined by the entries.
use Rattle.std.proofs.Common.{◌≡◌, ℕ, ◌+◌, nat_eq, if◌then◌else◌, Bool, true, false, List, [], ◌∷◌, ◌++◌, Option, Some, None, refl, sym, ap, subst, ◌∙◌}
use Rattle.std.proofs.lemmas.Bool.{eqb-true}
use Rattle.charlotte_calls.specs.declared.calls.Answer.{Answer}
use Rattle.charlotte_calls.specs.declared.calls.Call.{Call}
use Rattle.charlotte_calls.specs.declared.names.Pid.{Pid}
use Rattle.kernel_entries.specs.declared.entry.Placed.{Placed}
use Rattle.language_links.specs.Replay.{IsGiven}
use Rattle.language_links.specs.Told.{call_of}
use Rattle.language_links.specs.Acting.{Acting, Acts, Calls, Done, Fleet, IsAsking, IsPausing, Pauses, Rests, Takes, called, deeds_before, done_by, hears_entry, paused, with_acting}
use Rattle.request_acts.specs.Acted.{process}
use Rattle.request_acts.proofs.Callers.{none-else, one-caller}
use Rattle.request_acts.proofs.Fleets.{asked_by, heard-here, heard-not, heard_by, set-other, set-same}
use Rattle.request_acts.proofs.Paused.{Paused, Stays, Then, chain, hears, one-asking, one-given}

-- both come from one state by steps without a call
pub record AreJoined (x y : Acting) : Type 0 where
  pub from : Acting
  pub left : Paused from x
  pub right : Paused from y

pub joined-same : (x y : Acting) → x ≡ y → AreJoined x y
joined-same x y same = record { from = x; left = Stays x; right = subst (λ (z : Acting). Paused x z) same (Stays x) }

joined-on : {x y v w : Acting} → AreJoined x y → Paused x v → Paused y w → AreJoined v w
joined-on j first second = record { from = j.from; left = chain j.left first; right = chain j.right second }

module _ (home : ℕ → ℕ) where
  -- ---- the first entry

  -- a call of p is the first entry, and pauses stand before it
  record HasCalled (n : ℕ) (f : Fleet) (e : Placed) (es : List Placed) (ds : List Done) (g : Fleet) (p : Pid) : Type 0 where
    given : Option Answer
    call : Call
    is_call : call_of p e.entry.what ≡ Some call
    at : Fleet
    pauses : (i : ℕ) → Paused (f i) (at i)
    asking : IsAsking (at p.0) given call
    rest : List Done
    deeds_are : ds ≡ done_by p n (deeds_before given (at p.0)) ++ rest
    acts : Acts home (n + 1) (hears_entry home e (asked_by p given at)) es rest g

  -- it is without a call
  record HasTaken (n : ℕ) (f : Fleet) (e : Placed) (es : List Placed) (ds : List Done) (g : Fleet) : Type 0 where
    none : (p : Pid) → call_of p e.entry.what ≡ None
    at : Fleet
    pauses : (i : ℕ) → Paused (f i) (at i)
    acts : Acts home (n + 1) (hears_entry home e at) es ds g

  data Heads (n : ℕ) (f : Fleet) (e : Placed) (es : List Placed) (ds : List Done) (g : Fleet) : Type 0 where
    Called : (p : Pid) → HasCalled n f e es ds g p → Heads n f e es ds g
    Taken : HasTaken n f e es ds g → Heads n f e es ds g

  one-pause : (f : Fleet) (p : Pid) (given : Option Answer) → IsPausing (f p.0) given → (i : ℕ) → Paused (f i) (with_acting p (paused given (f p.0)) f i)
  one-pause f p given pausing i = by (nat_eq p.0 i) refl
    where
      by : (b : Bool) → nat_eq p.0 i ≡ b → Paused (f i) (with_acting p (paused given (f p.0)) f i)
      by true same =
          subst (λ (z : Acting). Paused (f i) z) (sym (set-same p (paused given (f p.0)) f i same))
          (subst (λ (j : ℕ). Paused (f j) (paused given (f p.0))) (eqb-true p.0 i same) (Then (f p.0) given (paused given (f p.0)) pausing (Stays (paused given (f p.0)))))
      by false other = subst (λ (z : Acting). Paused (f i) z) (sym (set-other p (paused given (f p.0)) f i other)) (Stays (f i))

  further : {n : ℕ} {f h g : Fleet} {e : Placed} {es : List Placed} {ds : List Done} → ((i : ℕ) → Paused (f i) (h i)) → Heads n h e es ds g → Heads n f e es ds g
  further first (Called p c) = Called p (record {
    given = c.given;
    call = c.call;
    is_call = c.is_call;
    at = c.at;
    pauses = λ i. chain (first i) (c.pauses i);
    asking = c.asking;
    rest = c.rest;
    deeds_are = c.deeds_are;
    acts = c.acts;
  })
  further first (Taken t) = Taken (record { none = t.none; at = t.at; pauses = λ i. chain (first i) (t.pauses i); acts = t.acts })

  heads : {n : ℕ} {f g : Fleet} {all : List Placed} {ds : List Done} → Acts home n f all ds g → (e : Placed) (es : List Placed) → all ≡ e ∷ es → Heads n f e es ds g
  heads (Rests n f) e es same = let no : [] ≡ e ∷ es = same in absurd cc
  heads (Pauses n f p given all ds g pausing acts) e es same = further (one-pause f p given pausing) (heads acts e es same)
  heads (Calls n f p given c d rest ds g own call asking acts) e es same =
      let head : d ≡ e = cc in
      let tail : rest ≡ es = cc in
      Called p (record {
        given = given;
        call = c;
        is_call = ap (λ (z : Placed). call_of p z.entry.what) (sym head) ∙ call;
        at = f;
        pauses = λ i. Stays (f i);
        asking = asking;
        rest = ds;
        deeds_are = refl;
        acts =
            subst (λ (z : Placed). Acts home (n + 1) (hears_entry home z (asked_by p given f)) es ds g) head
            (subst (λ (l : List Placed). Acts home (n + 1) (hears_entry home d (asked_by p given f)) l ds g) tail acts);
      })
  heads (Takes n f d rest ds g none acts) e es same =
      let head : d ≡ e = cc in
      let tail : rest ≡ es = cc in
      Taken (record {
        none = λ p. ap (λ (z : Placed). call_of p z.entry.what) (sym head) ∙ none p;
        at = f;
        pauses = λ i. Stays (f i);
        acts = subst (λ (z : Placed). Acts home (n + 1) (hears_entry home z f) es ds g) head (subst (λ (l : List Placed). Acts home (n + 1) (hears_entry home d f) l ds g) tail acts);
      })

  -- ---- no entry

  record HasRested (f : Fleet) (ds : List Done) (g : Fleet) : Type 0 where
    none : ds ≡ []
    pauses : (i : ℕ) → Paused (f i) (g i)

  rested : {n : ℕ} {f g : Fleet} {all : List Placed} {ds : List Done} → Acts home n f all ds g → all ≡ [] → HasRested f ds g
  rested (Rests n f) same = record { none = refl; pauses = λ i. Stays (f i) }
  rested (Pauses n f p given all ds g pausing acts) same =
      let r = rested acts same in
      record { none = r.none; pauses = λ i. chain (one-pause f p given pausing i) (r.pauses i) }
  rested (Calls n f p given c d rest ds g own call asking acts) same = let no : d ∷ rest ≡ [] = same in absurd cc
  rested (Takes n f d rest ds g none acts) same = let no : d ∷ rest ≡ [] = same in absurd cc

  -- ---- two replays of the same entries

  -- each process is as far in one as in the other, but for steps without a call
  abbrev AreAlike : Fleet → Fleet → Type 0
  AreAlike f g = (i : ℕ) → AreJoined (f i) (g i)

  -- hearing an entry
  hears-same : (e : Placed) (f g : Fleet) (i : ℕ) → f i ≡ g i → hears_entry home e f i ≡ hears_entry home e g i
  hears-same e f g i same = ap (λ (z : Acting). if nat_eq (home i) e.kernel then heard_by i e.entry z else z) same

  hears-joined : (e : Placed) (f g : Fleet) (i : ℕ) → call_of (process i) e.entry.what ≡ None → AreJoined (f i) (g i) → AreJoined (hears_entry home e f i) (hears_entry home e g i)
  hears-joined e f g i none j = by (nat_eq (home i) e.kernel) refl
    where
      by : (b : Bool) → nat_eq (home i) e.kernel ≡ b → AreJoined (hears_entry home e f i) (hears_entry home e g i)
      by true here =
          subst (λ (x : Acting). AreJoined x (hears_entry home e g i)) (sym (heard-here home e f i here))
          (subst (λ (y : Acting). AreJoined (heard_by i e.entry (f i)) y) (sym (heard-here home e g i here))
          (record { from = heard_by i e.entry j.from; left = hears i e.entry none j.left; right = hears i e.entry none j.right }))
      by false away =
          subst (λ (x : Acting). AreJoined x (hears_entry home e g i)) (sym (heard-not home e f i away))
          (subst (λ (y : Acting). AreJoined (f i) y) (sym (heard-not home e g i away)) j)

  -- a call: who makes it does so in one state
  module _ {n : ℕ} {f g f' g' : Fleet} {e : Placed} {es : List Placed} {ds ds' : List Done} (p : Pid) (c : HasCalled n f e es ds g p) (d : HasCalled n f' e es ds' g' p) (alike : AreAlike f f') where
    there : AreAlike c.at d.at
    there i = joined-on (alike i) (c.pauses i) (d.pauses i)

    one-state : c.at p.0 ≡ d.at p.0
    one-state = let j = there p.0 in one-asking c.given d.given c.call d.call j.left j.right refl c.asking d.asking

    one-answer : c.given ≡ d.given
    one-answer =
        one-given (c.at p.0).replayed.last (c.at p.0).replayed.heard c.given d.given c.asking.is_given
        (subst (λ (z : Acting). IsGiven z.replayed.last z.replayed.heard d.given) (sym one-state) d.asking.is_given)

    same-deeds : c.rest ≡ d.rest → ds ≡ ds'
    same-deeds rest =
        c.deeds_are ∙ ap (λ (z : Acting). done_by p n (deeds_before c.given z) ++ c.rest) one-state ∙ ap (λ (a : Option Answer). done_by p n (deeds_before a (d.at p.0)) ++ c.rest) one-answer
        ∙ ap (λ (l : List Done). done_by p n (deeds_before d.given (d.at p.0)) ++ l) rest ∙ sym d.deeds_are

    abbrev once : Fleet
    once = asked_by p c.given c.at

    abbrev again : Fleet
    again = asked_by p d.given d.at

    behind : AreAlike (hears_entry home e once) (hears_entry home e again)
    behind i = by (nat_eq p.0 i) refl
      where
        by : (b : Bool) → nat_eq p.0 i ≡ b → AreJoined (hears_entry home e once i) (hears_entry home e again i)
        by true same =
            joined-same (hears_entry home e once i) (hears_entry home e again i)
            (hears-same e once again i
            (set-same p (called c.given (c.at p.0)) c.at i same ∙ ap (λ (z : Acting). called c.given z) one-state ∙ ap (λ (a : Option Answer). called a (d.at p.0)) one-answer
            ∙ sym (set-same p (called d.given (d.at p.0)) d.at i same)))
        by false other =
            hears-joined e once again i (none-else p i c.call e.entry.what c.is_call other)
            (subst (λ (x : Acting). AreJoined x (again i)) (sym (set-other p (called c.given (c.at p.0)) c.at i other))
            (subst (λ (y : Acting). AreJoined (c.at i) y) (sym (set-other p (called d.given (d.at p.0)) d.at i other)) (there i)))

  -- they have the same deeds
  pub record AreOne (ds ds' : List Done) (g g' : Fleet) : Type 0 where
    pub deeds : ds ≡ ds'
    pub alike : (i : ℕ) → AreJoined (g i) (g' i)

  pub one : (es : List Placed) {n : ℕ} {f g f' g' : Fleet} {ds ds' : List Done} → Acts home n f es ds g → Acts home n f' es ds' g' → ((i : ℕ) → AreJoined (f i) (f' i)) → AreOne ds ds' g g'
  one [] first second alike =
      let a = rested first refl in
      let b = rested second refl in
      record { deeds = a.none ∙ sym b.none; alike = λ i. joined-on (alike i) (a.pauses i) (b.pauses i) }
  one (e ∷ es) {n = n} {f = f} {g = g} {f' = f'} {g' = g'} {ds = ds} {ds' = ds'} first second alike = by (λ h k cs cs' a b joined. one es a b joined) (heads first e es refl) (heads second e es refl)
    where
      by : ((h k : Fleet) (cs cs' : List Done) → Acts home (n + 1) h es cs g → Acts home (n + 1) k es cs' g' → AreAlike h k → AreOne cs cs' g g') → Heads n f e es ds g → Heads n f' e es ds' g' → AreOne ds ds' g g'
      by onward (Called p c) (Called q d) =
          let same : q ≡ p = one-caller q p d.call c.call e.entry.what d.is_call c.is_call in
          let d' : HasCalled n f' e es ds' g' p = subst (λ (r : Pid). HasCalled n f' e es ds' g' r) same d in
          let rest = onward (hears_entry home e (asked_by p c.given c.at)) (hears_entry home e (asked_by p d'.given d'.at)) c.rest d'.rest c.acts d'.acts (behind p c d' alike) in
          record { deeds = same-deeds p c d' alike rest.deeds; alike = rest.alike }
      by onward (Called p c) (Taken t) = let no : None ≡ Some c.call = sym (t.none p) ∙ c.is_call in absurd cc
      by onward (Taken t) (Called q d) = let no : None ≡ Some d.call = sym (t.none q) ∙ d.is_call in absurd cc
      by onward (Taken t) (Taken u) =
          let rest = onward (hears_entry home e t.at) (hears_entry home e u.at) ds ds' t.acts u.acts (λ i. hears-joined e t.at u.at i (t.none (process i)) (joined-on (alike i) (t.pauses i) (u.pauses i))) in
          record { deeds = rest.deeds; alike = rest.alike }
