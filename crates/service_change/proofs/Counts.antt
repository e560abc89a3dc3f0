-- Reports by their number: how many of a way of an end each process has.
use Rattle.std.proofs.Common.{◌≡◌, ◌≢◌, ℕ, zero, suc, ◌+◌, ◌≤◌, Bool, true, false, true≢false, nat_eq, ◌&&◌, not, ◌⊎◌, inl, inr, if◌then◌else◌, List, [], ◌∷◌, ◌++◌, Contains, refl, sym, ap, subst, ◌∙◌, arith}
use Rattle.std.proofs.lemmas.Bool.Decides.{eqb_tells}
use Rattle.std.proofs.lemmas.List.Elements.{Contains-append_right, Contains-append_cases}
use Rattle.charlotte_calls.specs.declared.calls.Report.{Report}
use Rattle.charlotte_calls.specs.declared.names.EndId.{EndId}
use Rattle.charlotte_calls.specs.declared.names.Outcome.TheVariants as outcome
use Rattle.charlotte_calls.specs.declared.names.Pid.{Pid}
use Rattle.charlotte_calls.specs.declared.names.Way.{Way}
use Rattle.charlotte_calls.specs.declared.names.Way.TheVariants as way
use Rattle.service_change.proofs.EndEq.{end_eq-same, end_eq-refl}
use Rattle.service_lawful.specs.Consistent.{way_eq, is_over, is_open, is_report_on, reports_on, AreReported}
use Rattle.service_step.specs.Ends.{end_eq, is_living}
use Rattle.service_step.specs.State.{State}
use Rattle.service_step.specs.declared.state.Place.{Place}
use Rattle.service_step.specs.declared.state.Place.TheVariants as place

-- two processes are one or not
pub pid_tells : (p q : Pid) → ((nat_eq p.0 q.0 ≡ true) × (p ≡ q)) ⊎ ((nat_eq p.0 q.0 ≡ false) × (p.0 ≢ q.0))
pid_tells p q = by (eqb_tells p.0 q.0)
  where
    by : ((nat_eq p.0 q.0 ≡ true) × (p.0 ≡ q.0)) ⊎ ((nat_eq p.0 q.0 ≡ false) × (p.0 ≢ q.0)) → ((nat_eq p.0 q.0 ≡ true) × (p ≡ q)) ⊎ ((nat_eq p.0 q.0 ≡ false) × (p.0 ≢ q.0))
    by (inl same) = inl (same.0, ap (λ n. record { 0 = n }) same.1)
    by (inr apart) = inr apart

way_eq-same : (v w : Way) → way_eq v w ≡ true → v ≡ w
way_eq-same way.Inward way.Inward is = refl
way_eq-same way.Inward way.Outward is = absurd (true≢false (sym is))
way_eq-same way.Outward way.Inward is = absurd (true≢false (sym is))
way_eq-same way.Outward way.Outward is = refl

pub way_eq-refl : (w : Way) → way_eq w w ≡ true
way_eq-refl way.Inward = refl
way_eq-refl way.Outward = refl

pub and-true : (a b : Bool) → a && b ≡ true → (a ≡ true) × (b ≡ true)
and-true true b is = (refl, is)
and-true false b is = absurd (true≢false (sym is))

pub is_report_on-its : (r : Report) → is_report_on r.on r.way r ≡ true
is_report_on-its r = ap (λ b. b && way_eq r.way r.way) (end_eq-refl r.on) ∙ way_eq-refl r.way

pub is_report_on-other : (e : EndId) (w : Way) (r : Report) → end_eq e r.on ≡ false → is_report_on e w r ≡ false
is_report_on-other e w r apart = ap (λ b. b && way_eq w r.way) apart

-- where some are counted one is there
pub count-Contains : (e : EndId) (w : Way) (rs : List Report) → 1 ≤ reports_on e w rs → (r : Report) × Contains rs r × (r.on ≡ e) × (r.way ≡ w)
count-Contains e w [] some = absurd (omega arith)
count-Contains e w (r ∷ rs) some = by (is_report_on e w r) refl some (count-Contains e w rs)
  where
    by : (b : Bool) → is_report_on e w r ≡ b → 1 ≤ (if b then 1 else 0) + reports_on e w rs → (1 ≤ reports_on e w rs → (t : Report) × Contains rs t × (t.on ≡ e) × (t.way ≡ w))
        → (t : Report) × Contains (r ∷ rs) t × (t.on ≡ e) × (t.way ≡ w)
    by true is some rest =
        let both = and-true _ _ is in
        (r, (0, (omega arith), refl), sym (end_eq-same e r.on both.0), sym (way_eq-same w r.way both.1))
    by false not some rest =
        let found = rest (omega arith) in
        (found.0, Contains-append_right (r ∷ []) rs found.0 found.1, found.2, found.3)

pub reports_on-append : (e : EndId) (w : Way) (a b : List Report) → reports_on e w (a ++ b) ≡ reports_on e w a + reports_on e w b
reports_on-append e w [] b = omega arith
reports_on-append e w (r ∷ a) b = let rest = reports_on-append e w a b in omega arith

only : (x r : Report) → Contains (x ∷ []) r → x ≡ r
only x r (zero, below, same) = same
only x r (suc k, below, same) = absurd (omega arith)

-- and one that is there is counted
pub Contains-count : (r : Report) (rs : List Report) → Contains rs r → 1 ≤ reports_on r.on r.way rs
Contains-count r [] (k, below, same) = absurd (omega arith)
Contains-count r (x ∷ rs) is = by (Contains-append_cases (x ∷ []) rs r is) (Contains-count r rs)
  where
    first : (b : Bool) → b ≡ true → 1 ≤ (if b then 1 else 0) + reports_on r.on r.way rs
    first true is = omega arith
    first false is = absurd (true≢false (sym is))

    by : Contains (x ∷ []) r ⊎ Contains rs r → (Contains rs r → 1 ≤ reports_on r.on r.way rs) → 1 ≤ reports_on r.on r.way (x ∷ rs)
    by (inl it) rest = first (is_report_on r.on r.way x) (subst (λ z. is_report_on r.on r.way z ≡ true) (sym (only x r it)) (is_report_on-its r))
    by (inr later) rest = let some = rest later in omega arith

-- a list of reports that none of some end are among
pub none-on : (e : EndId) (w : Way) (rs : List Report) → ((r : Report) → Contains rs r → r.on ≡ e → r.way ≡ w → ⊥) → reports_on e w rs ≡ 0
none-on e w rs none = by (reports_on e w rs) refl
  where
    by : (n : ℕ) → reports_on e w rs ≡ n → n ≡ 0
    by zero is = refl
    by (suc n) is = let found = count-Contains e w rs (omega arith) in absurd (none found.0 found.1 found.2 found.3)

-- how many reports of that way of an end each process has, where the end is at a place and that way is over or not
pub record IsCounted (c : Pid → ℕ) (over : Bool) (at : Place) : Type 0 where
  pub once : (p : Pid) → c p ≤ 1
  pub is_over : (p : Pid) → 1 ≤ c p → over ≡ true
  pub alone : (p q : Pid) → 1 ≤ c p → 1 ≤ c q → q.0 ≡ p.0
  pub own : (p : Pid) → 1 ≤ c p → is_living at ≡ true → at ≡ place.Owned p
  pub stands : (p : Pid) → at ≡ place.Owned p → over ≡ true → c p ≡ 1

-- a place is as it was, or that of a destroyed end
abbrev pub IsAfter : Place → Place → Type 0
IsAfter old new = (new ≡ old) ⊎ (new ≡ place.Destroyed)

pub counted-same : {c d : Pid → ℕ} {over now : Bool} {at there : Place} → ((p : Pid) → d p ≡ c p) → now ≡ over → IsAfter at there → IsCounted c over at → IsCounted d now there
counted-same {c} {d} {over} {now} {at} {there} counts still after k =
    record {
      once = λ p. subst (λ n. n ≤ 1) (sym (counts p)) (k.once p);
      is_over = λ p some. still ∙ k.is_over p (subst (λ n. 1 ≤ n) (counts p) some);
      alone = λ p q a b. k.alone p q (subst (λ n. 1 ≤ n) (counts p) a) (subst (λ n. 1 ≤ n) (counts q) b);
      own = λ p some. own p (subst (λ n. 1 ≤ n) (counts p) some) after;
      stands = λ p at is. counts p ∙ stands p at (sym still ∙ is) after;
    }
  where
    own : (p : Pid) → 1 ≤ c p → IsAfter at there → is_living there ≡ true → there ≡ place.Owned p
    own p some (inl same) living = same ∙ k.own p some (ap is_living (sym same) ∙ living)
    own p some (inr gone) living = absurd (true≢false (sym living ∙ ap is_living gone))

    stands : (p : Pid) → there ≡ place.Owned p → over ≡ true → IsAfter at there → c p ≡ 1
    stands p is over (inl same) = k.stands p (sym same ∙ is) over
    stands p is over (inr gone) = let differ : place.Destroyed ≡ place.Owned p = sym gone ∙ is in cc

pub counted-none : {c : Pid → ℕ} {over : Bool} {at : Place} → ((p : Pid) → c p ≡ 0) → over ≡ false → IsCounted c over at
counted-none {c} {over} {at} none not =
    record {
      once = λ p. let e = none p in omega arith;
      is_over = λ p some. absurd (zeros p some);
      alone = λ p q a b. absurd (zeros p a);
      own = λ p some living. absurd (zeros p some);
      stands = λ p at is. absurd (true≢false (sym is ∙ not));
    }
  where
    zeros : (p : Pid) → 1 ≤ c p → ⊥
    zeros p some = let e = none p in omega arith

-- where a way is not over there is no report of it
pub counts-none : {c : Pid → ℕ} {over : Bool} {at : Place} → IsCounted c over at → over ≡ false → (p : Pid) → c p ≡ 0
counts-none {c} k not p = by (c p) refl
  where
    by : (n : ℕ) → c p ≡ n → n ≡ 0
    by zero is = refl
    by (suc n) is = absurd (true≢false (sym (k.is_over p (omega arith)) ∙ not))

-- one report more, of a way that comes to be over
pub counted-told : {c d : Pid → ℕ} {over now : Bool} {at there : Place} (p : Pid) → over ≡ false → now ≡ true → there ≡ place.Owned p → d p ≡ c p + 1
    → ((q : Pid) → nat_eq p.0 q.0 ≡ false → d q ≡ c q) → IsCounted c over at → IsCounted d now there
counted-told {c} {d} {over} {now} {at} {there} p was is own its others k =
    record {
      once = λ q. once q (pid_tells p q);
      is_over = λ q some. is;
      alone = λ q r a b. sym (ap (λ z. z.0) (its-own r b)) ∙ ap (λ z. z.0) (its-own q a);
      own = λ q some living. own ∙ ap place.Owned (its-own q some);
      stands = λ q at over. subst (λ z. d z ≡ 1) (owned q (sym own ∙ at)) at_p;
    }
  where
    at_p : d p ≡ 1
    at_p = let none : c p ≡ 0 = counts-none k was p in omega arith

    owned : (q : Pid) → place.Owned p ≡ place.Owned q → p ≡ q
    owned q same = cc

    its-own : (q : Pid) → 1 ≤ d q → p ≡ q
    its-own q some = by (pid_tells p q)
      where
        by : ((nat_eq p.0 q.0 ≡ true) × (p ≡ q)) ⊎ ((nat_eq p.0 q.0 ≡ false) × (p.0 ≢ q.0)) → p ≡ q
        by (inl same) = same.1
        by (inr apart) = let none : c q ≡ 0 = counts-none k was q in let same : d q ≡ c q = others q apart.0 in absurd (omega arith)

    once : (q : Pid) → ((nat_eq p.0 q.0 ≡ true) × (p ≡ q)) ⊎ ((nat_eq p.0 q.0 ≡ false) × (p.0 ≢ q.0)) → d q ≤ 1
    once q (inl same) = subst (λ z. d z ≤ 1) same.1 (let one : d p ≡ 1 = at_p in omega arith)
    once q (inr apart) = let none : c q ≡ 0 = counts-none k was q in let same : d q ≡ c q = others q apart.0 in omega arith

-- the counts of a state
abbrev pub counts : State → EndId → Way → Pid → ℕ
counts s e w p = reports_on e w (s.process p.0).reports

-- each way of an end is counted
abbrev pub IsCountedAt : State → EndId → Type 0
IsCountedAt s e = (w : Way) → IsCounted (counts s e w) (is_over w (s.ends e)) (s.ends e).place

-- a report that stands for an open end is Done
abbrev pub AreDone : State → Type 0
AreDone s = (p : Pid) (r : Report) → Contains (s.process p.0).reports r → is_open (s.ends r.on) ≡ true → r.outcome ≡ outcome.Done

pub counted-reported : (s : State) → AreReported s → (e : EndId) → IsCountedAt s e
counted-reported s k e w =
    record {
      once = λ p. k.once p e w;
      is_over =
          λ p some. let found = count-Contains e w _ some in
          subst (λ z. is_over w (s.ends z) ≡ true) found.2 (subst (λ z. is_over z (s.ends found.0.on) ≡ true) found.3 (k.over p found.0 found.1));
      alone =
          λ p q a b. let first = count-Contains e w _ a in
          let second = count-Contains e w _ b in
          k.alone p q first.0 second.0 first.1 second.1 (second.2 ∙ sym first.2) (second.3 ∙ sym first.3);
      own =
          λ p some living. let found = count-Contains e w _ some in
          subst (λ z. (s.ends z).place ≡ place.Owned p) found.2 (k.own p found.0 found.1 (subst (λ z. is_living (s.ends z).place ≡ true) (sym found.2) living));
      stands = λ p at over. k.stands p e w at over;
    }

pub reported-counted : (s : State) → ((e : EndId) → IsCountedAt s e) → AreDone s → AreReported s
reported-counted s k done =
    record {
      over = λ p r is. (k r.on r.way).is_over p (Contains-count r _ is);
      once = λ p e w. (k e w).once p;
      alone =
          λ p q r t a b on its. (k r.on r.way).alone p q (Contains-count r _ a)
          (subst (λ z. 1 ≤ reports_on z r.way (s.process q.0).reports) on (subst (λ z. 1 ≤ reports_on t.on z (s.process q.0).reports) its (Contains-count t _ b)));
      own = λ p r is. (k r.on r.way).own p (Contains-count r _ is);
      done = done;
      stands = λ p e w. (k e w).stands p;
    }
