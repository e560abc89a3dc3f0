-- What kernels have of the wired links of a setting, beside what the service has of them.
use Rattle.std.proofs.Common.{◌≡◌, ◌≢◌, ◌⊎◌, inl, inr, ℕ, zero, suc, ◌+◌, ◌<◌, ◌≤◌, Bool, true, false, nat_eq, cond, List, [], ◌∷◌, length, All, slice_index, slice_set, get_or, replicate, refl, sym, ap, subst, ◌∙◌, arith, true≢false, eq-eqb, length-set}
use Rattle.std.proofs.lemmas.Bool.Decides.{eqb_tells}
use Rattle.std.proofs.lemmas.Grind.{get_or-set_at}
use Rattle.std.proofs.lemmas.List.{get_or-set_other, length-replicate}
use Rattle.std.proofs.lemmas.List.Elements.{All-head, All-tail, All-get_or}
use Rattle.std.specs.List.{fold}
use Rattle.charlotte_calls.specs.Names.{opposite}
use Rattle.charlotte_calls.specs.Setting.{IsValid}
use Rattle.charlotte_calls.specs.declared.names.EndId.{EndId}
use Rattle.charlotte_calls.specs.declared.names.Pid.{Pid}
use Rattle.charlotte_calls.specs.declared.names.Side.{Side}
use Rattle.charlotte_calls.specs.declared.names.Side.TheVariants.{A, B}
use Rattle.charlotte_calls.specs.declared.setting.Setting.{Setting}
use Rattle.end_table.proofs.EndEq.{end_eq-same, end_eq-refl, end_eq-sym, put-at, put-other}
use Rattle.end_table.specs.Place.{end_eq, put}
use Rattle.end_table.specs.declared.entry.Entry.{Entry}
use Rattle.end_table.specs.declared.entry.Entry.TheVariants as entry
use Rattle.kernel_step.specs.Calls.{made_end}
use Rattle.kernel_step.specs.Start.{Wired, home, keeps_at, nothing_wired, owned_from_start, wires_one, wired}
use Rattle.service_step.specs.Ends.{end_eq as service_eq, fresh, unmade}
use Rattle.service_step.specs.Run.{Wired as ServiceWired, wires_one as service_wires_one, nothing_wired as nothing_served, wired as served}
use Rattle.service_step.specs.declared.state.Place.TheVariants.{Owned}
use Rattle.theorem_meaning.proofs.Ends.{eq-same, opposite-twice, opposite-apart, end-is, apart-false}

-- an end of a link that was not made is nowhere
pub record IsLoose (kw : Wired) (sw : ServiceWired) (e : EndId) : Type 0 where
  pub end : sw.ends e ≡ unmade
  pub away : (k : ℕ) → kw.table k e ≡ entry.Nothing
  pub count : slice_index sw.made e.link.maker ≤ e.link.count

-- an end of a wired link is owned by p, at its home alone, and the opposite end is at the home of q
pub record IsTied (g : Setting) (kw : Wired) (sw : ServiceWired) (p q : Pid) (e : EndId) : Type 0 where
  pub end : sw.ends e ≡ fresh (Owned p)
  pub here : kw.table (home g p) e ≡ owned_from_start p e (home g q)
  pub away : (k : ℕ) → k ≢ home g p → kw.table k e ≡ entry.Nothing
  pub owner : p.0 < length g.homes
  pub count : e.link.count < slice_index sw.made e.link.maker

-- a wired link, seen from one of its ends
pub record IsLinked (g : Setting) (kw : Wired) (sw : ServiceWired) (e : EndId) : Type 0 where
  pub p : Pid
  pub q : Pid
  pub own : IsTied g kw sw p q e
  pub other : IsTied g kw sw q p (opposite e)

pub record AreWired (g : Setting) (kw : Wired) (sw : ServiceWired) : Type 0 where
  pub length : length sw.made ≡ g.kernels
  pub made : (k : ℕ) → slice_index sw.made k ≡ kw.made k
  pub each : (e : EndId) → IsLoose kw sw e ⊎ IsLinked g kw sw e

-- ---- what keeping an entry at one kernel gives at each

keeps-here : (h : ℕ) (b : EndId) (y : Entry) (ts : ℕ → EndId → Entry) → keeps_at h b y ts h b ≡ y
keeps-here h b y ts = ap (λ c. cond c (put (ts h) b y) (ts h) b) (eq-eqb h h refl) ∙ put-at (ts h) b y

keeps-away : (h : ℕ) (b : EndId) (y : Entry) (ts : ℕ → EndId → Entry) (k : ℕ) (e : EndId) → k ≢ h → keeps_at h b y ts k e ≡ ts k e
keeps-away h b y ts k e away = by (eqb_tells k h)
  where
    by : ((nat_eq k h ≡ true) × (k ≡ h)) ⊎ ((nat_eq k h ≡ false) × (k ≢ h)) → keeps_at h b y ts k e ≡ ts k e
    by (inl is) = absurd (away is.1)
    by (inr is) = ap (λ c. cond c (put (ts k) b y) (ts k) e) is.0

keeps-other : (h : ℕ) (b : EndId) (y : Entry) (ts : ℕ → EndId → Entry) (k : ℕ) (e : EndId) → end_eq b e ≡ false → keeps_at h b y ts k e ≡ ts k e
keeps-other h b y ts k e other = by (nat_eq k h)
  where
    by : (c : Bool) → cond c (put (ts k) b y) (ts k) e ≡ ts k e
    by true = put-other (ts k) b y e other
    by false = refl

-- ---- one more link

module _ (g : Setting) (kw : Wired) (sw : ServiceWired) (wire : Pid × Pid) (first : wire.0.0 < length g.homes) (second : wire.1.0 < length g.homes) (below : home g wire.0 < g.kernels) (w : AreWired g kw sw) where
  abbrev m : ℕ
  m = home g wire.0

  abbrev c : ℕ
  c = slice_index sw.made m

  abbrev a : EndId
  a = made_end m c

  abbrev new : Wired
  new = wires_one g kw wire

  abbrev new_served : ServiceWired
  new_served = service_wires_one g.homes sw wire

  -- the tables with the link, whatever the count is called
  table-is : (n : ℕ) → n ≡ kw.made m → (k : ℕ) (e : EndId)
      → new.table k e ≡ keeps_at (home g wire.1) (opposite (made_end m n)) (owned_from_start wire.1 (opposite (made_end m n)) m) (keeps_at m (made_end m n) (owned_from_start wire.0 (made_end m n) (home g wire.1)) kw.table) k e
  table-is n is k e =
      ap (λ z. keeps_at (home g wire.1) (opposite (made_end m z)) (owned_from_start wire.1 (opposite (made_end m z)) m) (keeps_at m (made_end m z) (owned_from_start wire.0 (made_end m z) (home g wire.1)) kw.table) k e) (sym is)

  table-at : (k : ℕ) (e : EndId) → new.table k e ≡ keeps_at (home g wire.1) (opposite a) (owned_from_start wire.1 (opposite a) m) (keeps_at m a (owned_from_start wire.0 a (home g wire.1)) kw.table) k e
  table-at = table-is c (w.made m)

  ends-at : (e : EndId) → new_served.ends e ≡ cond (end_eq (opposite a) e) (fresh (Owned wire.1)) (cond (end_eq a e) (fresh (Owned wire.0)) (sw.ends e))
  unfolding service_wires_one
  ends-at e = ap (λ z. cond z (fresh (Owned wire.1)) (cond (service_eq a e) (fresh (Owned wire.0)) (sw.ends e))) (eq-same (opposite a) e)
      ∙ ap (λ z. cond (end_eq (opposite a) e) (fresh (Owned wire.1)) (cond z (fresh (Owned wire.0)) (sw.ends e))) (eq-same a e)

  made-is : new_served.made ≡ slice_set sw.made m (c + 1)
  unfolding service_wires_one
  made-is = refl

  within : m < length sw.made
  within = omega (arith, w.length)

  made-own : slice_index new_served.made m ≡ c + 1
  made-own = ap (λ l. slice_index l m) made-is ∙ get_or-set_at sw.made m m (c + 1) 0 refl within

  made-other : (k : ℕ) → k ≢ m → slice_index new_served.made k ≡ slice_index sw.made k
  made-other k other = ap (λ l. slice_index l k) made-is ∙ get_or-set_other sw.made m k (c + 1) 0 other

  grows : (k : ℕ) → slice_index sw.made k ≤ slice_index new_served.made k
  grows k = by (eqb_tells k m)
    where
      by : ((nat_eq k m ≡ true) × (k ≡ m)) ⊎ ((nat_eq k m ≡ false) × (k ≢ m)) → slice_index sw.made k ≤ slice_index new_served.made k
      by (inl is) = subst (λ j. slice_index sw.made j ≤ slice_index new_served.made j) (sym is.1) (omega (arith, made-own))
      by (inr is) = omega (arith, made-other k is.1)

  apart : end_eq (opposite a) a ≡ false
  apart = end_eq-sym (opposite a) a ∙ opposite-apart a

  -- the new ends were loose
  loose : (e : EndId) → e.link.maker ≡ m → e.link.count ≡ c → IsLoose kw sw e
  loose e maker count = by (w.each e)
    where
      by : IsLoose kw sw e ⊎ IsLinked g kw sw e → IsLoose kw sw e
      by (inl is) = is
      by (inr is) = absurd (let low : e.link.count < slice_index sw.made e.link.maker = is.own.count in let same : slice_index sw.made e.link.maker ≡ c = ap (slice_index sw.made) maker in omega arith)

  tied_a : IsTied g new new_served wire.0 wire.1 a
  tied_a =
      record {
        end = ends-at a ∙ ap (λ z. cond z (fresh (Owned wire.1)) (cond (end_eq a a) (fresh (Owned wire.0)) (sw.ends a))) apart ∙ ap (λ z. cond z (fresh (Owned wire.0)) (sw.ends a)) (end_eq-refl a);
        here = table-at m a ∙ keeps-other (home g wire.1) (opposite a) (owned_from_start wire.1 (opposite a) m) (keeps_at m a (owned_from_start wire.0 a (home g wire.1)) kw.table) m a apart
            ∙ keeps-here m a (owned_from_start wire.0 a (home g wire.1)) kw.table;
        away = λ k off. table-at k a ∙ keeps-other (home g wire.1) (opposite a) (owned_from_start wire.1 (opposite a) m) (keeps_at m a (owned_from_start wire.0 a (home g wire.1)) kw.table) k a apart
            ∙ keeps-away m a (owned_from_start wire.0 a (home g wire.1)) kw.table k a off ∙ (loose a refl refl).away k;
        owner = first;
        count = omega (arith, made-own);
      }

  tied_b : IsTied g new new_served wire.1 wire.0 (opposite a)
  tied_b =
      record {
        end = ends-at (opposite a) ∙ ap (λ z. cond z (fresh (Owned wire.1)) (cond (end_eq a (opposite a)) (fresh (Owned wire.0)) (sw.ends (opposite a)))) (end_eq-refl (opposite a));
        here = table-at (home g wire.1) (opposite a) ∙ keeps-here (home g wire.1) (opposite a) (owned_from_start wire.1 (opposite a) m) (keeps_at m a (owned_from_start wire.0 a (home g wire.1)) kw.table);
        away = λ k off. table-at k (opposite a) ∙ keeps-away (home g wire.1) (opposite a) (owned_from_start wire.1 (opposite a) m) (keeps_at m a (owned_from_start wire.0 a (home g wire.1)) kw.table) k (opposite a) off
            ∙ keeps-other m a (owned_from_start wire.0 a (home g wire.1)) kw.table k (opposite a) (opposite-apart a) ∙ (loose (opposite a) refl refl).away k;
        owner = second;
        count = omega (arith, made-own);
      }

  -- every other end is as before
  module _ (e : EndId) (not_a : end_eq a e ≡ false) (not_b : end_eq (opposite a) e ≡ false) where
    same-table : (k : ℕ) → new.table k e ≡ kw.table k e
    same-table k =
        table-at k e ∙ keeps-other (home g wire.1) (opposite a) (owned_from_start wire.1 (opposite a) m) (keeps_at m a (owned_from_start wire.0 a (home g wire.1)) kw.table) k e not_b
        ∙ keeps-other m a (owned_from_start wire.0 a (home g wire.1)) kw.table k e not_a

    same-end : new_served.ends e ≡ sw.ends e
    same-end = ends-at e ∙ ap (λ z. cond z (fresh (Owned wire.1)) (cond (end_eq a e) (fresh (Owned wire.0)) (sw.ends e))) not_b ∙ ap (λ z. cond z (fresh (Owned wire.0)) (sw.ends e)) not_a

    -- an end of the new link is one of its two
    no_third : e.link.maker ≡ m → e.link.count ≡ c → ⊥
    no_third maker count = by e.side refl
      where
        by : (s : Side) → e.side ≡ s → ⊥
        by A is = true≢false (sym (subst (λ z. end_eq a z ≡ true) (sym (end-is e m c A maker count is)) (end_eq-refl a)) ∙ not_a)
        by B is = true≢false (sym (subst (λ z. end_eq (opposite a) z ≡ true) (sym (end-is e m c B maker count is)) (end_eq-refl (opposite a))) ∙ not_b)

    still-loose : IsLoose kw sw e → IsLoose new new_served e
    still-loose l = record { end = same-end ∙ l.end; away = λ k. same-table k ∙ l.away k; count = by (eqb_tells e.link.maker m) }
      where
        by : ((nat_eq e.link.maker m ≡ true) × (e.link.maker ≡ m)) ⊎ ((nat_eq e.link.maker m ≡ false) × (e.link.maker ≢ m)) → slice_index new_served.made e.link.maker ≤ e.link.count
        by (inl is) =
            let other : e.link.count ≢ c = no_third is.1 in
            let old : slice_index sw.made e.link.maker ≤ e.link.count = l.count in
            let at : slice_index sw.made e.link.maker ≡ c = ap (slice_index sw.made) is.1 in
            let now : slice_index new_served.made e.link.maker ≡ c + 1 = ap (slice_index new_served.made) is.1 ∙ made-own in
            omega arith
        by (inr is) = let old : slice_index sw.made e.link.maker ≤ e.link.count = l.count in let now : slice_index new_served.made e.link.maker ≡ slice_index sw.made e.link.maker = made-other e.link.maker is.1 in omega arith

    still-tied : (p q : Pid) → IsTied g kw sw p q e → IsTied g new new_served p q e
    still-tied p q t =
        record {
          end = same-end ∙ t.end;
          here = same-table (home g p) ∙ t.here;
          away = λ k off. same-table k ∙ t.away k off;
          owner = t.owner;
          count = let old : e.link.count < slice_index sw.made e.link.maker = t.count in omega (arith, grows e.link.maker);
        }

  each : (e : EndId) → IsLoose new new_served e ⊎ IsLinked g new new_served e
  each e = by (end_eq a e) (end_eq (opposite a) e) refl refl
    where
      back : (x : Bool) → end_eq a e ≡ false → end_eq (opposite a) e ≡ false → IsLoose kw sw e ⊎ IsLinked g kw sw e → IsLoose new new_served e ⊎ IsLinked g new new_served e
      back x not_a not_b (inl l) = inl (still-loose e not_a not_b l)
      back x not_a not_b (inr l) = inr (record { p = l.p; q = l.q; own = still-tied e not_a not_b l.p l.q l.own; other = still-tied (opposite e) (turned a e not_b) (turned_b not_a) l.q l.p l.other })
        where
          turned : (b f : EndId) → end_eq (opposite b) f ≡ false → end_eq b (opposite f) ≡ false
          turned b f apart = apart-false b (opposite f) (λ is. true≢false (sym (subst (λ z. end_eq (opposite b) z ≡ true) (ap opposite is ∙ opposite-twice f) (end_eq-refl (opposite b))) ∙ apart))

          turned_b : end_eq a e ≡ false → end_eq (opposite a) (opposite e) ≡ false
          turned_b apart = turned (opposite a) e (ap (λ z. end_eq z e) (opposite-twice a) ∙ apart)

      by : (x y : Bool) → end_eq a e ≡ x → end_eq (opposite a) e ≡ y → IsLoose new new_served e ⊎ IsLinked g new new_served e
      by true y is_a is_b = inr (subst (IsLinked g new new_served) (end_eq-same a e is_a) (record { p = wire.0; q = wire.1; own = tied_a; other = tied_b }))
      by false true is_a is_b =
          inr (subst (IsLinked g new new_served) (end_eq-same (opposite a) e is_b)
          (record { p = wire.1; q = wire.0; own = tied_b; other = subst (IsTied g new new_served wire.0 wire.1) (sym (opposite-twice a)) tied_a }))
      by false false is_a is_b = back false is_a is_b (w.each e)

  pub wires-next : AreWired g new new_served
  wires-next =
      record {
        length = ap length made-is ∙ length-set sw.made m (c + 1) ∙ w.length;
        made = λ k. by k (eqb_tells k m);
        each = each;
      }
    where
      by : (k : ℕ) → ((nat_eq k m ≡ true) × (k ≡ m)) ⊎ ((nat_eq k m ≡ false) × (k ≢ m)) → slice_index new_served.made k ≡ new.made k
      by k (inl is) = ap (slice_index new_served.made) is.1 ∙ made-own ∙ ap (λ n. n + 1) (w.made m ∙ ap kw.made (sym is.1)) ∙ sym (ap (λ z. cond z (kw.made k + 1) (kw.made k)) is.0)
      by k (inr is) = made-other k is.1 ∙ w.made k ∙ sym (ap (λ z. cond z (kw.made k + 1) (kw.made k)) is.0)

-- ---- all links

zeros : (n q : ℕ) → get_or (replicate n zero) q zero ≡ zero
zeros zero q = refl
zeros (suc n) zero = refl
zeros (suc n) (suc q) = zeros n q

none-wired : (g : Setting) → AreWired g nothing_wired (nothing_served g.kernels)
none-wired g =
    record {
      length = length-replicate g.kernels zero;
      made = λ k. zeros g.kernels k;
      each = λ e. inl (record { end = refl; away = λ k. refl; count = let none : slice_index (nothing_served g.kernels).made e.link.maker ≡ 0 = zeros g.kernels e.link.maker in omega arith });
    }

wires-all : (g : Setting) → IsValid g → (wires : List (Pid × Pid)) → All (λ wire. (wire.0.0 < length g.homes) × (wire.1.0 < length g.homes)) wires → (kw : Wired) (sw : ServiceWired) → AreWired g kw sw
    → AreWired g (fold (wires_one g) kw wires) (fold (service_wires_one g.homes) sw wires)
wires-all g valid [] all kw sw w = w
wires-all g valid (wire ∷ wires) all kw sw w =
    let P : Pid × Pid → Type 0 = λ wire. (wire.0.0 < length g.homes) × (wire.1.0 < length g.homes) in
    let there : P wire = All-head P wire wires all in
    wires-all g valid wires (All-tail P wire wires all) (wires_one g kw wire) (service_wires_one g.homes sw wire)
    (wires-next g kw sw wire there.0 there.1 (All-get_or (λ h. h < g.kernels) g.homes wire.0.0 0 there.0 valid.homes) w)

-- the links of a valid setting are wired alike at kernels and in the service
pub are-wired : (g : Setting) → IsValid g → AreWired g (wired g) (served g)
are-wired g valid = wires-all g valid g.wires valid.wires nothing_wired (nothing_served g.kernels) (none-wired g)
