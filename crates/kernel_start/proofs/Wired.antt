-- What is true of the links of a setting that are wired so far.
use Rattle.std.proofs.Common.{◌≡◌, ◌≢◌, ◌⊎◌, inl, inr, ℕ, zero, suc, ◌+◌, ◌<◌, ◌≤◌, Bool, true, false, nat_eq, cond, if◌then◌else◌, length, get_or, slice_set, replicate, refl, sym, ap, subst, ◌∙◌, add-one, eq-eqb, arith, rules}
use Rattle.std.proofs.Math.Seq.{take-length}
use Rattle.std.proofs.lemmas.Bool.Decides.{eqb_tells}
use Rattle.std.proofs.lemmas.Grind.{get_or-set_at}
use Rattle.std.proofs.lemmas.List.{get_or-set_other, get_or_default}
use Rattle.std.proofs.lemmas.List.Elements.{All-get_or}
use Rattle.std.proofs.lemmas.List.Sums.{fold_more}
use Rattle.std.specs.List.{fold}
use Rattle.charlotte_calls.specs.Names.{opposite}
use Rattle.charlotte_calls.specs.Setting.{IsValid}
use Rattle.charlotte_calls.specs.declared.names.EndId.{EndId}
use Rattle.charlotte_calls.specs.declared.names.LinkId.{LinkId}
use Rattle.charlotte_calls.specs.declared.names.Pid.{Pid}
use Rattle.charlotte_calls.specs.declared.names.Side.TheVariants.{A, B}
use Rattle.charlotte_calls.specs.declared.setting.Setting.{Setting}
use Rattle.end_table.specs.Place.{end_eq, put}
use Rattle.end_table.specs.Table.{entries, IfHere, IsHere, IsIdle, IsOfEnd}
use Rattle.end_table.specs.declared.entry.Entry.{Entry}
use Rattle.end_table.specs.declared.entry.Entry.TheVariants as entry
use Rattle.kernel_step.specs.Actions.{enclosed_of}
use Rattle.kernel_step.specs.Calls.{made_end}
use Rattle.kernel_step.specs.Start.{Wired, home, keeps_at, nothing_wired, owned_from_start, wired, wires_one}
use Rattle.kernel_step.proofs.Steps.{IfHere-map}
use Rattle.kernel_sound.proofs.Put.{put-each}
use Rattle.kernel_sound.specs.Sound.{AreHeldBy, IsHeldWell, IsSound}
use Rattle.kernel_start.specs.Wired.{HasWired, wired_first, with_link}
use Rattle.kernel_start.specs.declared.start.Wiring.{Wiring}

-- what is true of the first links of a setting with n processes, of which there are so many
pub record IsWiredWell (n upto : ℕ) (w : Wired) : Type 0 where
  pub few : (q : ℕ) → w.made q ≤ upto
  pub own : (k : ℕ) (e : EndId) → IsOfEnd e (w.table k e)
  pub held : (k : ℕ) (e : EndId) → IfHere (w.table k e) (λ v. IsIdle v × IsHeldWell n v v.holder)
  -- an end of a link that was not made yet is nowhere
  pub unmade : (k : ℕ) (e : EndId) → w.made e.link.maker ≤ e.link.count → IsHere (w.table k e) → ⊥

-- what is true of an entry that is kept, and of each other entry at each kernel, is true of each
keeps_at-each : (P : EndId → Entry → Type 0) (k : ℕ) (e : EndId) (x : Entry) (ts : ℕ → EndId → Entry) → P e x → ((q : ℕ) (f : EndId) → P f (ts q f))
    → (q : ℕ) (f : EndId) → P f (keeps_at k e x ts q f)
keeps_at-each P k e x ts at others q f = by (nat_eq q k)
  where
    by : (b : Bool) → P f ((if b then put (ts q) e x else ts q) f)
    by true = put-each P (ts q) e x at f (λ apart. others q f)
    by false = others q f

-- one more link
module _ {n i : ℕ} (s : Setting) (w : Wired) (wire : Pid × Pid) (first : wire.0.0 < n) (second : wire.1.0 < n) (well : IsWiredWell n i w) where
  few-next : (q : ℕ) → (wires_one s w wire).made q ≤ i + 1
  few-next q = by (nat_eq q (home s wire.0)) (well.few q)
    where
      by : (b : Bool) → w.made q ≤ i → (if b then w.made q + 1 else w.made q) ≤ i + 1
      by true few = omega arith
      by false few = omega arith

  grows : (q : ℕ) → w.made q ≤ (wires_one s w wire).made q
  grows q = by (nat_eq q (home s wire.0))
    where
      by : (b : Bool) → w.made q ≤ (if b then w.made q + 1 else w.made q)
      by true = omega arith
      by false = omega arith

  gains : (wires_one s w wire).made (home s wire.0) ≡ w.made (home s wire.0) + 1
  gains = ap (λ b. if b then w.made (home s wire.0) + 1 else w.made (home s wire.0)) (eq-eqb (home s wire.0) (home s wire.0) refl)

  -- what is true of the new ends, and of each other end, is true of each
  wires_one-each : (P : EndId → Entry → Type 0) (a : EndId) → a ≡ made_end (home s wire.0) (w.made (home s wire.0))
      → P a (owned_from_start wire.0 a (home s wire.1)) → P (opposite a) (owned_from_start wire.1 (opposite a) (home s wire.0))
      → ((k : ℕ) (e : EndId) → P e (w.table k e)) → (k : ℕ) (e : EndId) → P e ((wires_one s w wire).table k e)
  wires_one-each P a is at_a at_b others =
      subst
      (λ z. (k : ℕ) (e : EndId) → P e (keeps_at (home s wire.1) (opposite z) (owned_from_start wire.1 (opposite z) (home s wire.0))
      (keeps_at (home s wire.0) z (owned_from_start wire.0 z (home s wire.1)) w.table) k e))
      is
      (keeps_at-each P (home s wire.1) (opposite a) _ _ at_b (keeps_at-each P (home s wire.0) a _ w.table at_a others))

  pub wires_one-well : IsWiredWell n (i + 1) (wires_one s w wire)
  wires_one-well =
      record {
        few = few-next;
        own = wires_one-each IsOfEnd _ refl refl refl well.own;
        held = wires_one-each (λ e x. IfHere x (λ v. IsIdle v × IsHeldWell n v v.holder)) _ refl (record { outward = refl; inward = refl }, first) (record { outward = refl; inward = refl }, second) well.held;
        unmade = wires_one-each (λ e x. (wires_one s w wire).made e.link.maker ≤ e.link.count → IsHere x → ⊥) _ refl made made
            (λ k e unmade here. well.unmade k e (omega (arith, grows e.link.maker)) here);
      }
    where
      made : (wires_one s w wire).made (home s wire.0) ≤ w.made (home s wire.0) → Unit {0} → ⊥
      made unmade here = absurd (omega (arith, gains))

wired_first-none : (s : Setting) → wired_first s 0 ≡ nothing_wired
unfolding wired_first
wired_first-none s = refl

wired_first-next : (s : Setting) (i : ℕ) (wire : Pid × Pid) → i < length s.wires → wire ≡ get_or s.wires i wire → wired_first s (i + 1) ≡ wires_one s (wired_first s i) wire
unfolding wired_first
wired_first-next s i wire within is = fold_more (wires_one s) nothing_wired s.wires i wire within ∙ ap (wires_one s (wired_first s i)) (sym is)

wired_first-all : (s : Setting) → wired_first s (length s.wires) ≡ wired s
unfolding wired_first
wired_first-all s = ap (fold (wires_one s) nothing_wired) (take-length s.wires)

-- before any link
pub HasWired-none : (s : Setting) (x : Wiring) → entries x.table ≡ (λ _. entry.Nothing) → length x.made ≡ 8 → ((q : ℕ) → q < 8 → get_or x.made q 0 ≡ 0) → HasWired s 0 x
HasWired-none s x empty counts none =
    record {
      table = empty ∙ ap (λ w. w.table x.table.kernel) (sym (wired_first-none s));
      counts = counts;
      made = λ q below. none q below ∙ ap (λ w. w.made q) (sym (wired_first-none s));
    }

-- a list of zeros
pub zeros : (n q : ℕ) → get_or (replicate n zero) q zero ≡ zero
zeros zero q = refl
zeros (suc n) zero = refl
zeros (suc n) (suc q) = zeros n q

sides_apart : (l : LinkId) → end_eq (record { link = l; side = A }) (record { link = l; side = B }) ≡ false
unfolding end_eq
sides_apart l = search rules

-- end b of a link that is not here stays away as another end comes
pub still_away : (link : LinkId) (t u : EndId → Entry) (a b : EndId) → a ≡ record { link = link; side = A } → b ≡ record { link = link; side = B }
    → ((q : EndId) → end_eq a q ≡ false → u q ≡ t q) → (IsHere (t (record { link = link; side = B })) → ⊥) → IsHere (u b) → ⊥
still_away link t u a b a_is b_is others away here =
    away (subst IsHere (others (record { link = link; side = B }) (ap (λ z. end_eq z (record { link = link; side = B })) a_is ∙ sides_apart link))
    (subst (λ z. IsHere (u z)) b_is here))

-- one more link at a kernel
module _ (s : Setting) (i : ℕ) (old new : Wiring) (wire : Pid × Pid) (within : i < length s.wires) (is : wire ≡ get_or s.wires i wire) (had : HasWired s i old) where
  HasWired-maker : (link : LinkId) (other : ℕ) → home s wire.0 < 8 → link ≡ record { maker = home s wire.0; count = get_or old.made (home s wire.0) 0 } → other ≡ home s wire.1
      → new.table.kernel ≡ old.table.kernel → entries new.table ≡ with_link link wire other old.table.kernel (entries old.table)
      → length new.made ≡ 8 → new.made ≡ slice_set old.made (home s wire.0) (get_or old.made (home s wire.0) 0 + 1) → HasWired s (i + 1) new
  HasWired-maker link other below link_is other_is kernel placed counts counted =
      record {
        table = placed ∙ (λ j. with_link (link_at j) wire (other_is j) old.table.kernel (had.table j))
            ∙ (λ j. (sym next j).table (sym kernel j));
        counts = counts;
        made = λ q q_below. ap (λ l. get_or l q 0) counted ∙ by q q_below (eqb_tells q (home s wire.0)) ∙ ap (λ z. z.made q) (sym next);
      }
    where
      w : Wired
      w = wired_first s i

      next : wired_first s (i + 1) ≡ wires_one s w wire
      next = wired_first-next s i wire within is

      link_at : link ≡ record { maker = home s wire.0; count = w.made (home s wire.0) }
      link_at = link_is ∙ ap (λ n. record { maker = home s wire.0; count = n }) (had.made (home s wire.0) below)

      more : ℕ
      more = get_or old.made (home s wire.0) 0 + 1

      by : (q : ℕ) → q < 8 → ((nat_eq q (home s wire.0) ≡ true) × (q ≡ home s wire.0)) ⊎ ((nat_eq q (home s wire.0) ≡ false) × (q ≢ home s wire.0))
          → get_or (slice_set old.made (home s wire.0) more) q 0 ≡ (wires_one s w wire).made q
      by q q_below (inl t) =
          get_or-set_at old.made (home s wire.0) q more 0 t.1 (omega (arith, had.counts)) ∙ ap (λ n. n + 1) (had.made (home s wire.0) below ∙ ap w.made (sym t.1))
          ∙ sym (ap (λ b. cond b (w.made q + 1) (w.made q)) t.0)
      by q q_below (inr t) =
          get_or-set_other old.made (home s wire.0) q more 0 t.1 ∙ had.made q q_below ∙ sym (ap (λ b. cond b (w.made q + 1) (w.made q)) t.0)

  pub HasWired-next : (link : LinkId) (maker other : ℕ) → maker ≡ home s wire.0 → maker < 8 → link ≡ record { maker = maker; count = get_or old.made maker 0 } → other ≡ home s wire.1
      → new.table.kernel ≡ old.table.kernel → entries new.table ≡ with_link link wire other old.table.kernel (entries old.table)
      → length new.made ≡ 8 → new.made ≡ slice_set old.made maker (get_or old.made maker 0 + 1) → HasWired s (i + 1) new
  HasWired-next link maker other maker_is below link_is other_is kernel placed counts counted =
      HasWired-maker link other (subst (λ m. m < 8) maker_is below) (link_is ∙ ap {B = LinkId} (λ m. record { maker = m; count = get_or old.made m 0 }) maker_is) other_is kernel placed counts
      (counted ∙ ap (λ m. slice_set old.made m (get_or old.made m 0 + 1)) maker_is)

-- the first links of a setting are wired well
pub wired_first-well : (s : Setting) → IsValid s → (i : ℕ) → i ≤ length s.wires → IsWiredWell (length s.homes) i (wired_first s i)
wired_first-well s valid zero within =
    subst (IsWiredWell (length s.homes) 0) (sym (wired_first-none s))
    record { few = λ q. omega arith; own = λ k e. tt; held = λ k e. tt; unmade = λ k e unmade here. here }
wired_first-well s valid (suc i) within =
    subst (λ j. IsWiredWell (length s.homes) j (wired_first s j)) (add-one i)
    (subst (IsWiredWell (length s.homes) (i + 1)) (sym (wired_first-next s i wire below same))
    (wires_one-well s (wired_first s i) wire there.0 there.1 (wired_first-well s valid i (omega arith))))
  where
    below : i < length s.wires
    below = omega arith

    none : Pid × Pid
    none = (record { 0 = 0 }, record { 0 = 0 })

    wire : Pid × Pid
    wire = get_or s.wires i none

    same : wire ≡ get_or s.wires i wire
    same = get_or_default s.wires i none wire below

    there : (wire.0.0 < length s.homes) × (wire.1.0 < length s.homes)
    there = All-get_or (λ z. (z.0.0 < length s.homes) × (z.1.0 < length s.homes)) s.wires i none below valid.wires

-- an end of a link that was not made yet is not here
pub not_yet : (s : Setting) (i : ℕ) (x : Wiring) → IsValid s → i < length s.wires → HasWired s i x → (e : EndId) → e.link.maker < 8 → get_or x.made e.link.maker 0 ≤ e.link.count
    → IsHere (entries x.table e) → ⊥
not_yet s i x valid within had e below unmade here =
    (wired_first-well s valid i (omega arith)).unmade x.table.kernel e (omega (arith, had.made e.link.maker below)) (subst (λ t. IsHere (t e)) had.table here)

-- no kernel has made more links than were wired
pub few_made : (s : Setting) (i : ℕ) (x : Wiring) → IsValid s → i < length s.wires → HasWired s i x → (q : ℕ) → q < 8 → get_or x.made q 0 ≤ i
few_made s i x valid within had q below = omega (arith, had.made q below, (wired_first-well s valid i (omega arith)).few q)

-- what a kernel has of all links
module _ (s : Setting) (valid : IsValid s) (k : ℕ) where
  well : IsWiredWell (length s.homes) (length s.wires) (wired s)
  well = subst (IsWiredWell (length s.homes) (length s.wires)) (wired_first-all s) (wired_first-well s valid (length s.wires) (omega arith))

  pub wired-sound : IsSound k ((wired s).made k) (length s.homes) ((wired s).table k)
  wired-sound =
      record {
        own = well.own k;
        held = λ e. IfHere-map (λ v. IsIdle v × IsHeldWell (length s.homes) v v.holder) (λ v. IsHeldWell (length s.homes) v v.holder) ((wired s).table k e) (λ v is h. h.1) (well.held k e);
        enclosed = λ e. IfHere-map (λ v. IsIdle v × IsHeldWell (length s.homes) v v.holder) (λ v. AreHeldBy e ((wired s).table k) (enclosed_of v.outward)) ((wired s).table k e)
            (λ v is h. subst (AreHeldBy e ((wired s).table k)) (sym (ap enclosed_of h.0.outward)) tt) (well.held k e);
        unmade = λ e maker count here. well.unmade k e (subst (λ m. (wired s).made m ≤ e.link.count) (sym maker) count) here;
      }

  pub wired-idle : (e : EndId) → IfHere ((wired s).table k e) IsIdle
  wired-idle e = IfHere-map (λ v. IsIdle v × IsHeldWell (length s.homes) v v.holder) IsIdle ((wired s).table k e) (λ v is h. h.0) (well.held k e)

-- a kernel that has each link of its setting has those of the definitions
module _ (s : Setting) (x : Wiring) (k : ℕ) (kernel : x.table.kernel ≡ k) (had : HasWired s (length s.wires) x) where
  pub table-wired : entries x.table ≡ (wired s).table k
  table-wired = had.table ∙ λ j. (wired_first-all s j).table (kernel j)

  pub made-wired : k < 8 → get_or x.made k 0 ≡ (wired s).made k
  made-wired below = had.made k below ∙ ap (λ w. w.made k) (wired_first-all s)
