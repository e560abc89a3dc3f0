-- Each event at a link is some steps of it, or none.
use Rattle.std.proofs.Common.{◌≡◌, ℕ, Bool, true, false, ◌||◌, if◌then◌else◌, List, [], ◌∷◌, ◌++◌, None, refl, sym, ap, subst, ◌∙◌}
use mathlib.Core.List.{IsPrefix}
use Rattle.charlotte_calls.specs.declared.names.EndId.{EndId}
use Rattle.end_protocol.specs.declared.hearing.Heard.{Heard as Outcome}
use Rattle.end_protocol.specs.declared.hearing.Heard.TheVariants as heard
use Rattle.end_protocol.specs.declared.kept.Kept.{Kept}
use Rattle.end_protocol.specs.declared.messages.Message.{Message}
use Rattle.end_protocol.specs.Deeds.{Deed, heard_deeds}
use Rattle.end_protocol.specs.Falling.{dies}
use Rattle.end_protocol.specs.Going.{sent}
use Rattle.end_protocol.specs.Happenings.{Happening, after, deeds_of}
use Rattle.end_protocol.specs.Hearing.{hears}
use Rattle.end_protocol.specs.Kept.{fresh}
use Rattle.end_protocol.specs.Wanting.{is_busy}
use Rattle.request_meaning.specs.Requests.{AreExchanged}
use Rattle.request_meaning.specs.Links.{Cut, Died, Goes as Run, Happened, Heard as HeardOn, Link, MayHappen, Moved, Rests as Still, Runs, Sent, Steps, Turned, comes_of, enclosing, happened, heard_on, sent_off, start, turned, unless_unreadable}
use Rattle.request_law.proofs.Lists.{front_self}
use Rattle.request_law.proofs.Ends.{run_ends}
use Rattle.request_law.proofs.Run.{run_is_exchanged}
use Rattle.request_runs.specs.Law.{AreExchangedBoth, HasAllEnds}
use Rattle.request_runs.specs.Sides.{Courses, Destroyed, Destroys, Dies, Does, Drops, Events, Flipped, Free, Goes, Hears, Held, Holds, IsAs, IsComing, IsKept, IsOver, LetsGo, Loses, Lost, Pair, Passes, Rests, Sends, Standing, comes, did, flipped, hearing, is_destroyed, new_pair, sending, stands}
use Rattle.request_runs.proofs.Whole.{AreWhole, StandsWhole, event_whole}

module _ (version : ℕ) where
  -- the link goes on by some steps, and then stands so
  pub record Follows (q : Pair) (l : Link) : Type 0 where
    pub to : Link
    pub runs : Runs version l to
    pub is : IsAs q to

  by_none : (q : Pair) (l : Link) → IsAs q l → Follows q l
  by_none q l is = record { to = l; runs = Still l; is = is }

  by_one : (q : Pair) (l m : Link) → Steps version l m → IsAs q m → Follows q l
  by_one q l m step is = record { to = m; runs = Run l l m (Still l) step; is = is }

  -- ---- the other end

  either : (a b : Bool) → (a || b) ≡ (b || a)
  either false false = refl
  either false true = refl
  either true false = refl
  either true true = refl

  turn : (p : Pair) (l : Link) → IsAs p l → IsAs (flipped p) (turned l)
  turn p l is = record {
    near = is.far;
    far = is.near;
    here = is.there;
    there = is.here;
    near_deeds = is.far_deeds;
    far_deeds = is.near_deeds;
    cut = is.cut ∙ either (is_destroyed p.near.standing) (is_destroyed p.far.standing);
  }

  runs_turned : (l m : Link) → Runs version l m → Runs version (turned l) (turned m)
  runs_turned l m (Still k) = Still (turned k)
  runs_turned l m (Run a b c run step) = Run (turned a) (turned b) (turned c) (runs_turned a b run) (Turned (turned b) (turned c) step)

  at_other : (q : Pair) (l : Link) → Follows (flipped q) (turned l) → Follows q l
  at_other q l f = record { to = turned f.to; runs = runs_turned (turned l) f.to f.runs; is = turn (flipped q) f.to f.is }

  -- ---- an end that is held

  -- what can be read does not cut the link
  read_on : (y : Kept × Outcome) (rest : List Message) (l : Link) → ((xs : List EndId) → y.1 ≡ heard.Unreadable xs → ⊥) →
      comes_of y rest l ≡ record l { near = y.0; here = rest; near_deeds = l.near_deeds ++ heard_deeds y.1 }
  read_on y rest l readable = by_outcome y.1 readable (record l { near = y.0; here = rest; near_deeds = l.near_deeds ++ heard_deeds y.1 })
    where
      by_outcome : (o : Outcome) → ((xs : List EndId) → o ≡ heard.Unreadable xs → ⊥) → (m : Link) → unless_unreadable o m ≡ m
      by_outcome heard.Nothing can m = refl
      by_outcome (heard.Accepted w) can m = refl
      by_outcome (heard.Returned thread r) can m = refl
      by_outcome (heard.TooLate xs) can m = refl
      by_outcome (heard.Unreadable xs) can m = absurd (can xs refl)

  module _ (k : Kept) (p : Pair) (l : Link) (held : p.near.standing ≡ Held k) (is : IsAs p l) where
    kept : l.near ≡ k
    kept = subst (λ (s : Standing). IsKept s l.near) held is.near

    coming : l.here ≡ p.near.coming
    coming = subst (λ (s : Standing). IsComing s l.here p.near.coming) held is.here

    -- the link is cut only if the other end was destroyed
    is_cut : l.cut ≡ is_destroyed p.far.standing
    is_cut = is.cut ∙ ap (λ (s : Standing). is_destroyed s || is_destroyed p.far.standing) held

    was_destroyed : (s : Standing) → is_destroyed s ≡ true → s ≡ Destroyed
    was_destroyed Destroyed e = refl
    was_destroyed (Held j) e = let no : false ≡ true = e in absurd cc
    was_destroyed Free e = let no : false ≡ true = e in absurd cc
    was_destroyed Lost e = let no : false ≡ true = e in absurd cc

    does : (h : Happening) → MayHappen h k → Follows (did (deeds_of version h k) (stands (Held (after version h k)) p)) l
    does h may =
        by_one _ l (happened version h l) (Happened h l (subst (λ (j : Kept). MayHappen h j) (sym kept) may))
        (record {
          near = ap (λ (j : Kept). after version h j) kept;
          far = is.far;
          here = coming;
          there = is.there;
          near_deeds = ap (λ (j : Kept). l.near_deeds ++ deeds_of version h j) kept ∙ ap (λ (ds : List Deed). ds ++ deeds_of version h k) is.near_deeds;
          far_deeds = is.far_deeds;
          cut = is_cut;
        })

    sends : (m : Message) (rest : List Message) → k.queue ≡ m ∷ rest → Follows (sending version m k p) l
    sends m rest queue =
        by_one (sending version m k p) l (sent_off version m l) (Sent m rest l (ap (λ (j : Kept). j.queue) kept ∙ queue))
        (record {
          near = ap (λ (j : Kept). sent j) kept;
          far = is.far;
          here = coming;
          there = goes p.far.standing is_cut is.there;
          near_deeds = is.near_deeds;
          far_deeds = is.far_deeds;
          cut = is_cut;
        })
      where
        longer : l.cut ≡ false → l.there ≡ p.far.coming → (if l.cut then l.there else l.there ++ enclosing version m ∷ []) ≡ p.far.coming ++ enclosing version m ∷ []
        longer uncut there =
            ap (λ (b : Bool). if b then l.there else l.there ++ enclosing version m ∷ []) uncut ∙ ap (λ (ms : List Message). ms ++ enclosing version m ∷ []) there

        goes : (s : Standing) → l.cut ≡ is_destroyed s → IsComing s l.there p.far.coming →
            IsComing s (if l.cut then l.there else l.there ++ enclosing version m ∷ []) (p.far.coming ++ enclosing version m ∷ [])
        goes (Held j) uncut there = longer uncut there
        goes Free uncut there = longer uncut there
        goes Lost uncut there = tt
        goes Destroyed uncut there = tt

    hears_one : (room : Bool) (m : Message) (rest : List Message) → p.near.coming ≡ m ∷ rest → ((xs : List EndId) → (hears version room m.packet m.ends k).1 ≡ heard.Unreadable xs → ⊥) →
        Follows (hearing version room m rest k p) l
    hears_one room m rest first readable =
        by_one (hearing version room m rest k p) l (record l { near = y.0; here = rest; near_deeds = l.near_deeds ++ heard_deeds y.1 })
        (subst (λ (n : Link). Steps version l n) on (HeardOn room m rest l (coming ∙ first)))
        (record {
          near = refl;
          far = is.far;
          here = refl;
          there = is.there;
          near_deeds = ap (λ (ds : List Deed). ds ++ heard_deeds y.1) is.near_deeds;
          far_deeds = is.far_deeds;
          cut = is_cut;
        })
      where
        y : Kept × Outcome
        y = hears version room m.packet m.ends k

        on : heard_on version room m rest l ≡ record l { near = y.0; here = rest; near_deeds = l.near_deeds ++ heard_deeds y.1 }
        on = ap (λ (j : Kept). comes_of (hears version room m.packet m.ends j) rest l) kept ∙ read_on y rest l readable

    dies_now : p.far.standing ≡ Destroyed → Follows (stands (Held (dies k)) p) l
    dies_now gone =
        by_one (stands (Held (dies k)) p) l (record l { near = dies l.near }) (Died l (is_cut ∙ ap is_destroyed gone))
        (record {
          near = ap (λ (j : Kept). dies j) kept;
          far = is.far;
          here = coming;
          there = is.there;
          near_deeds = is.near_deeds;
          far_deeds = is.far_deeds;
          cut = is_cut;
        })

    lets_go : is_busy k ≡ false → k.request ≡ None → (p.far.standing ≡ Destroyed → p.near.coming ≡ []) → Follows (stands Free p) l
    lets_go rests whole none =
        by_one (stands Free p) l (record l { near = fresh })
        (Moved l
        (record {
          rests = ap (λ (j : Kept). is_busy j) kept ∙ rests;
          whole = ap (λ (j : Kept). j.request) kept ∙ whole;
          none_comes = λ cut. coming ∙ none (was_destroyed p.far.standing (sym is_cut ∙ cut));
        }))
        (record {
          near = refl;
          far = is.far;
          here = coming;
          there = is.there;
          near_deeds = is.near_deeds;
          far_deeds = is.far_deeds;
          cut = is_cut;
        })

  -- ---- any end

  module _ (p : Pair) (l : Link) (is : IsAs p l) where
    holds : p.near.standing ≡ Free → Follows (stands (Held fresh) p) l
    holds free =
        by_none (stands (Held fresh) p) l
        (record {
          near = subst (λ (s : Standing). IsKept s l.near) free is.near;
          far = is.far;
          here = subst (λ (s : Standing). IsComing s l.here p.near.coming) free is.here;
          there = is.there;
          near_deeds = is.near_deeds;
          far_deeds = is.far_deeds;
          cut = is.cut ∙ ap (λ (s : Standing). is_destroyed s || is_destroyed p.far.standing) free;
        })

    loses : (p.near.standing ≡ Destroyed → ⊥) → Follows (stands Lost p) l
    loses lives =
        by_none (stands Lost p) l
        (record {
          near = tt;
          far = is.far;
          here = tt;
          there = is.there;
          near_deeds = is.near_deeds;
          far_deeds = is.far_deeds;
          cut = is.cut ∙ ap (λ (b : Bool). b || is_destroyed p.far.standing) (undestroyed p.near.standing lives);
        })
      where
        undestroyed : (s : Standing) → (s ≡ Destroyed → ⊥) → is_destroyed s ≡ false
        undestroyed (Held k) away = refl
        undestroyed Free away = refl
        undestroyed Lost away = refl
        undestroyed Destroyed away = absurd (away refl)

    destroys : Follows (stands Destroyed p) l
    destroys =
        by_one (stands Destroyed p) l (record l { there = l.there; here = l.here; cut = true })
        (Cut l.there l.here l (front_self l.there l.there refl) (front_self l.here l.here refl))
        (record {
          near = tt;
          far = is.far;
          here = tt;
          there = is.there;
          near_deeds = is.near_deeds;
          far_deeds = is.far_deeds;
          cut = refl;
        })

    or_true : (a : Bool) → (a || true) ≡ true
    or_true true = refl
    or_true false = refl

    -- of what is on its way the first messages, which are these where they are still heard
    record Rest (ms : List Message) (s : Standing) : Type 0 where
      here : List Message
      front : IsPrefix here l.here
      so : IsComing s here ms

    rest_of : (ms : List Message) (s : Standing) → IsPrefix ms p.near.coming → IsComing s l.here p.near.coming → Rest ms s
    rest_of ms (Held k) h e = record { here = ms; front = subst (λ (ns : List Message). IsPrefix ms ns) (sym e) h; so = refl }
    rest_of ms Free h e = record { here = ms; front = subst (λ (ns : List Message). IsPrefix ms ns) (sym e) h; so = refl }
    rest_of ms Lost h e = record { here = l.here; front = front_self l.here l.here refl; so = tt }
    rest_of ms Destroyed h e = record { here = l.here; front = front_self l.here l.here refl; so = tt }

    drops : (ms : List Message) → p.far.standing ≡ Destroyed → IsPrefix ms p.near.coming → Follows (comes ms p) l
    drops ms gone h =
        let rest : Rest ms p.near.standing = rest_of ms p.near.standing h is.here in
        by_one (comes ms p) l (record l { there = l.there; here = rest.here; cut = true })
        (Cut l.there rest.here l (front_self l.there l.there refl) rest.front)
        (record {
          near = is.near;
          far = is.far;
          here = rest.so;
          there = is.there;
          near_deeds = is.near_deeds;
          far_deeds = is.far_deeds;
          cut = sym (ap (λ (s : Standing). is_destroyed p.near.standing || is_destroyed s) gone ∙ or_true (is_destroyed p.near.standing));
        })

    passes : (ms : List Message) → IsOver p.near.standing → Follows (comes ms p) l
    passes ms over =
        by_none (comes ms p) l
        (record {
          near = is.near;
          far = is.far;
          here = any_comes p.near.standing over;
          there = is.there;
          near_deeds = is.near_deeds;
          far_deeds = is.far_deeds;
          cut = is.cut;
        })
      where
        any_comes : (s : Standing) → IsOver s → IsComing s l.here ms
        any_comes Lost o = tt
        any_comes Destroyed o = tt
        any_comes (Held k) o = absurd o
        any_comes Free o = absurd o

  -- ---- all events

  -- on a dead end no request is in part
  whole_of : (k : Kept) (s : Standing) → s ≡ Held k → StandsWhole s → (k.dead ≡ false → k.request ≡ None) → k.request ≡ None
  whole_of k s held stands whole = by_dead k.dead refl
    where
      by_dead : (b : Bool) → k.dead ≡ b → k.request ≡ None
      by_dead true e = subst (λ (t : Standing). StandsWhole t) held stands e
      by_dead false e = whole e

  pub event_follows : (p q : Pair) (l : Link) → Events version p q → AreWhole p → IsAs p l → Follows q l
  event_follows p q l (Does h k r held may) are is = does k p l held is h may
  event_follows p q l (Sends m rest k r held queue) are is = sends k p l held is m rest queue
  event_follows p q l (Hears room m rest k r held first readable) are is = hears_one k p l held is room m rest first readable
  event_follows p q l (Dies k r held gone) are is = dies_now k p l held is gone
  event_follows p q l (LetsGo k r held rests whole none) are is = lets_go k p l held is rests (whole_of k p.near.standing held are.near whole) none
  event_follows p q l (Holds r free) are is = holds p l is free
  event_follows p q l (Loses r lives) are is = loses p l is lives
  event_follows p q l (Destroys r) are is = destroys p l is
  event_follows p q l (Drops ms r gone h) are is = drops p l is ms gone h
  event_follows p q l (Passes ms r over) are is = passes p l is ms over
  event_follows p q l (Flipped r t event) are is = at_other q l (event_follows (flipped p) (flipped q) (turned l) event (record { near = are.far; far = are.near }) (turn p l is))

  runs_chain : (k l m : Link) → Runs version k l → Runs version l m → Runs version k m
  runs_chain k l m one (Still n) = one
  runs_chain k l m one (Run a b c run step) = Run k b c (runs_chain k a b one run) step

  course_whole : (p q : Pair) → Courses version p q → AreWhole p → AreWhole q
  course_whole p q (Rests r) are = are
  course_whole p q (Goes a b c course event) are = event_whole version b q event (course_whole p b course are)

  pub course_follows : (p q : Pair) (l : Link) → Courses version p q → AreWhole p → IsAs p l → Follows q l
  course_follows p q l (Rests r) are is = by_none p l is
  course_follows p q l (Goes a b c course event) are is =
      let f : Follows b l = course_follows p b l course are is in
      let g : Follows q f.to = event_follows b q f.to event (course_whole p b course are) f.is in
      record { to = g.to; runs = runs_chain l f.to g.to f.runs g.runs; is = g.is }

  -- ---- from a new link on

  start_is : IsAs new_pair start
  start_is = record { near = refl; far = refl; here = refl; there = refl; near_deeds = refl; far_deeds = refl; cut = refl }

  pub from_start : (p : Pair) → Courses version new_pair p → Follows p start
  from_start p course = course_follows new_pair p start course (record { near = tt; far = tt }) start_is

  so_exchanged : (ds es bs cs : List Deed) → es ≡ ds → cs ≡ bs → AreExchanged es cs → AreExchanged ds bs
  so_exchanged ds es bs cs one two is = subst (λ (l : List Deed). AreExchanged l bs) one (subst (λ (l : List Deed). AreExchanged es l) two is)

  pub goes_in_order : (p : Pair) → Courses version new_pair p → AreExchangedBoth p
  goes_in_order p course =
      let f : Follows p start = from_start p course in
      let both = run_is_exchanged version f.to f.runs in
      record {
        near = so_exchanged p.near_deeds f.to.near_deeds p.far_deeds f.to.far_deeds f.is.near_deeds f.is.far_deeds both.0;
        far = so_exchanged p.far_deeds f.to.far_deeds p.near_deeds f.to.near_deeds f.is.far_deeds f.is.near_deeds both.1;
      }

  pub has_all_ends : (p : Pair) → Courses version new_pair p → (is_destroyed p.near.standing || is_destroyed p.far.standing) ≡ false → HasAllEnds p
  has_all_ends p course lives =
      let f : Follows p start = from_start p course in
      let both = run_ends version f.to f.runs (f.is.cut ∙ lives) in
      record { link = f.to; is = f.is; ends = record { near_ends = both.0; far_ends = both.1 } }
