-- From what stands in the rows to what the table of ends says of its ends.
use Rattle.std.proofs.Common.{◌≡◌, ◌≢◌, ◌⊎◌, inl, inr, ℕ, zero, suc, ◌+◌, ◌<◌, ◌≤◌, take, length, get_or, slice_set, Bool, true, false, true≢false, nat_eq, ◌++◌, cond, Result, Ok, Err, OnErr, List, [], ◌∷◌, refl, sym, ap, subst, ◌∙◌, if◌then◌else◌, rules, arith}
use Rattle.std.proofs.lemmas.Bool.Decides.{eqb_tells}
use Rattle.std.proofs.lemmas.List.{get_or-set_other, get_or_past, get_or_default}
use Rattle.std.proofs.lemmas.List.Sums.{fold_more}
use Rattle.charlotte_calls.specs.declared.names.EndId.{EndId}
use Rattle.charlotte_calls.specs.declared.names.LinkId.{LinkId}
use Rattle.charlotte_calls.specs.declared.names.Pid.{Pid}
use Rattle.charlotte_calls.specs.declared.names.Side.{Side}
use Rattle.charlotte_calls.specs.declared.names.Side.TheVariants.{A, B}
use Rattle.service_step.specs.Ends.{end_eq, is_made, put, puts, unmade, destroys_each, destroys_owned}
use Rattle.service_step.specs.declared.state.End.{End}
use Rattle.service_links.specs.Kept.{where_made}
use Rattle.service_links.specs.Links.{end_on, turns_side, no_link, link_at, turns_end, puts_link, row_of, turns_kept, ends_of}

pub end_eq-same : (a b : EndId) → end_eq a b ≡ true → a ≡ b
unfolding end_eq
end_eq-same a b h = search rules

end_eq-refl : (a : EndId) → end_eq a a ≡ true
unfolding end_eq
end_eq-refl a = search rules

-- a list with one item set, at each place; what is set past its end is what stands there
module _ {X : Type 0} (y d : X) where
  set-at : (xs : List X) (i : ℕ) → (length xs ≤ i → y ≡ d) → get_or (slice_set xs i y) i d ≡ y
  set-at [] i past = sym (past (omega arith))
  set-at (x ∷ xs) zero past = refl
  set-at (x ∷ xs) (suc i) past = set-at xs i (λ h. past (omega arith))

set-seen : {X : Type 0} (xs : List X) (i : ℕ) (y d : X) (j : ℕ) → (length xs ≤ i → y ≡ d) → get_or (slice_set xs i y) j d ≡ cond (nat_eq i j) y (get_or xs j d)
set-seen xs i y d j past = by (eqb_tells i j)
  where
    by : ((nat_eq i j ≡ true) × (i ≡ j)) ⊎ ((nat_eq i j ≡ false) × (i ≢ j)) → get_or (slice_set xs i y) j d ≡ cond (nat_eq i j) y (get_or xs j d)
    by (inl t) = ap (λ k. get_or (slice_set xs i y) k d) (sym t.1) ∙ set-at y d xs i past ∙ sym (ap (λ b. cond b y (get_or xs j d)) t.0)
    by (inr t) = get_or-set_other xs i j y d (λ e. t.1 (sym e)) ∙ sym (ap (λ b. cond b y (get_or xs j d)) t.0)

-- past the end of a list nothing is seen of what is put there
push-seen : {X : Type 0} (xs : List X) (d : X) (j : ℕ) → get_or (xs ++ d ∷ []) j d ≡ get_or xs j d
push-seen [] d zero = refl
push-seen [] d (suc j) = refl
push-seen (x ∷ xs) d zero = refl
push-seen (x ∷ xs) d (suc j) = push-seen xs d j

-- a link that was not made has ends that are unmade
pub no_link-ends : (side : Side) → end_on side no_link ≡ unmade
no_link-ends A = refl
no_link-ends B = refl

-- a link more that was not made
pub link_at-push : (row : List (End × End)) → link_at (row ++ no_link ∷ []) ≡ link_at row
link_at-push row = λ i q. push-seen row no_link q i

-- a row more without links
pub ends_of-push : (rows : List (List (End × End))) → ends_of (rows ++ [] ∷ []) ≡ ends_of rows
unfolding ends_of
ends_of-push rows = λ i e. end_on e.side (link_at (push-seen rows [] e.link.maker i) e.link.count)

-- a link is put into a row
pub link_at-puts : (row : List (End × End)) (number : ℕ) (ends : End × End) → number < length row → link_at (slice_set row number ends) ≡ puts_link number ends (link_at row)
link_at-puts row number ends within = λ i q. set-seen row number ends no_link q (λ past. absurd (omega arith)) i

module _ (rows : List (List (End × End))) where
  -- no rows, no made links
  pub ends_of-empty : rows ≡ [] → ends_of rows ≡ λ _. unmade
  unfolding ends_of
  ends_of-empty none = λ i e. (ap (λ l. end_on e.side (link_at (row_of l e.link.maker) e.link.count)) none ∙ no_link-ends e.side) i

apart : (e q : EndId) → (e ≡ q → ⊥) → end_eq e q ≡ false
apart e q differ = by (end_eq e q) refl
  where
    by : (t : Bool) → end_eq e q ≡ t → t ≡ false
    by true is = absurd (differ (end_eq-same e q is))
    by false is = refl

sides-differ : A ≡ B → ⊥
sides-differ same = cc

number_refl : (n : ℕ) → nat_eq n n ≡ true
number_refl n = by (eqb_tells n n)
  where
    by : ((nat_eq n n ≡ true) × (n ≡ n)) ⊎ ((nat_eq n n ≡ false) × (n ≢ n)) → nat_eq n n ≡ true
    by (inl t) = t.0
    by (inr t) = absurd (t.1 refl)

-- the end on a side that is turned, and the other
end_on-turned : (side : Side) (f : End → End) (l : End × End) → end_on side (turns_side side f l) ≡ f (end_on side l)
end_on-turned A f l = refl
end_on-turned B f l = refl

end_on-other : (s t : Side) (f : End → End) (l : End × End) → (s ≡ t → ⊥) → end_on t (turns_side s f l) ≡ end_on t l
end_on-other A A f l differ = absurd (differ refl)
end_on-other A B f l differ = refl
end_on-other B A f l differ = refl
end_on-other B B f l differ = absurd (differ refl)

module _ (rows : List (List (End × End))) (e : EndId) (f : End → End) (none : f unmade ≡ unmade) where
  abbrev row : List (End × End)
  row = row_of rows e.link.maker

  abbrev link : End × End
  link = link_at row e.link.count

  abbrev new : List (List (End × End))
  new = turns_kept e f rows

  side-none : (side : Side) → turns_side side f no_link ≡ no_link
  side-none A = ap (λ (x : End). (x, unmade)) none
  side-none B = ap (λ (x : End). (unmade, x)) none

  -- the row that is turned, and each row
  row-seen : (n : ℕ) → link_at (turns_end e.link.count e.side f row) n ≡ cond (nat_eq e.link.count n) (turns_side e.side f link) (link_at row n)
  row-seen n = set-seen row e.link.count (turns_side e.side f link) no_link n (λ past. ap (turns_side e.side f) (get_or_past row e.link.count no_link past) ∙ side-none e.side)

  rows-seen : (m : ℕ) → row_of new m ≡ cond (nat_eq e.link.maker m) (turns_end e.link.count e.side f row) (row_of rows m)
  rows-seen m = set-seen rows e.link.maker (turns_end e.link.count e.side f row) [] m (λ past. ap (turns_end e.link.count e.side f) (get_or_past rows e.link.maker [] past))

  in-row : (m : ℕ) → nat_eq e.link.maker m ≡ true → (n : ℕ) → link_at (row_of new m) n ≡ cond (nat_eq e.link.count n) (turns_side e.side f link) (link_at row n)
  in-row m is n = ap (λ r. link_at r n) (rows-seen m ∙ ap (λ b. cond b (turns_end e.link.count e.side f row) (row_of rows m)) is) ∙ row-seen n

  here : end_on e.side (link_at (row_of new e.link.maker) e.link.count) ≡ f (end_on e.side link)
  here =
      ap (end_on e.side) (in-row e.link.maker (number_refl e.link.maker) e.link.count ∙ ap (λ b. cond b (turns_side e.side f link) link) (number_refl e.link.count))
      ∙ end_on-turned e.side f link

  abbrev Stays : EndId → Type 0
  Stays q = end_on q.side (link_at (row_of new q.link.maker) q.link.count) ≡ end_on q.side (link_at (row_of rows q.link.maker) q.link.count)

  -- every other end stays
  other : (q : EndId) → (e ≡ q → ⊥) → Stays q
  other q differ = by-maker (eqb_tells e.link.maker q.link.maker)
    where
      by-number : e.link.maker ≡ q.link.maker → nat_eq e.link.maker q.link.maker ≡ true
          → ((nat_eq e.link.count q.link.count ≡ true) × (e.link.count ≡ q.link.count)) ⊎ ((nat_eq e.link.count q.link.count ≡ false) × (e.link.count ≢ q.link.count)) → Stays q
      by-number maker is (inl t) =
          ap (end_on q.side) (in-row q.link.maker is q.link.count ∙ ap (λ b. cond b (turns_side e.side f link) (link_at row q.link.count)) t.0)
          ∙ end_on-other e.side q.side f link (λ side. differ (λ i. record { link = record { maker = maker i; count = t.1 i }; side = side i }))
          ∙ (λ i. end_on q.side (link_at (row_of rows (maker i)) (t.1 i)))
      by-number maker is (inr t) =
          ap (end_on q.side) (in-row q.link.maker is q.link.count ∙ ap (λ b. cond b (turns_side e.side f link) (link_at row q.link.count)) t.0)
          ∙ ap (λ m. end_on q.side (link_at (row_of rows m) q.link.count)) maker

      by-maker : ((nat_eq e.link.maker q.link.maker ≡ true) × (e.link.maker ≡ q.link.maker)) ⊎ ((nat_eq e.link.maker q.link.maker ≡ false) × (e.link.maker ≢ q.link.maker)) → Stays q
      by-maker (inl t) = by-number t.1 t.0 (eqb_tells e.link.count q.link.count)
      by-maker (inr t) = ap (λ r. end_on q.side (link_at r q.link.count)) (rows-seen q.link.maker ∙ ap (λ b. cond b (turns_end e.link.count e.side f row) (row_of rows q.link.maker)) t.0)

  -- one end becomes what f makes of it
  pub ends_of-turns : ends_of new ≡ put (ends_of rows) e (f (ends_of rows e))
  unfolding ends_of
  ends_of-turns = λ i q. (by q (end_eq e q) refl) i
    where
      by : (q : EndId) (b : Bool) → end_eq e q ≡ b → ends_of new q ≡ cond (end_eq e q) (f (ends_of rows e)) (ends_of rows q)
      by q true is = subst (λ (z : EndId). ends_of new z ≡ f (ends_of rows e)) (end_eq-same e q is) here ∙ sym (ap (λ b. cond b (f (ends_of rows e)) (ends_of rows q)) is)
      by q false is =
          other q (λ same. true≢false (sym (subst (λ z. end_eq e z ≡ true) same (end_eq-refl e)) ∙ is))
          ∙ sym (ap (λ b. cond b (f (ends_of rows e)) (ends_of rows q)) is)

-- an end of a made link becomes what g makes of it
pub ends_of_puts : (rows : List (List (End × End))) (e : EndId) (g : End → End) → ends_of (turns_kept e (where_made g) rows) ≡ puts e (g (ends_of rows e)) (ends_of rows)
unfolding puts
ends_of_puts rows e g = ends_of-turns rows e (where_made g) refl ∙ (λ i q. (by q (is_made (t e).place) refl (end_eq e q) refl) i)
  where
    t : EndId → End
    t = ends_of rows

    by : (q : EndId) (m : Bool) → is_made (t e).place ≡ m → (b : Bool) → end_eq e q ≡ b → cond (end_eq e q) (where_made g (t e)) (t q) ≡ (if is_made (t e).place then put t e (g (t e)) else t) q
    by q true made b is = ap (λ m. cond (end_eq e q) (cond m (g (t e)) (t e)) (t q)) made ∙ sym (ap (λ m. cond m (put t e (g (t e))) t q) made)
    by q false made true is =
        ap (λ h. cond h (where_made g (t e)) (t q)) is ∙ ap (λ m. cond m (g (t e)) (t e)) made ∙ ap t (end_eq-same e q is) ∙ sym (ap (λ m. cond m (put t e (g (t e))) t q) made)
    by q false made false is = ap (λ h. cond h (where_made g (t e)) (t q)) is ∙ sym (ap (λ m. cond m (put t e (g (t e))) t q) made)

pub ends_of-is : (rows : List (List (End × End))) (e : EndId) → end_on e.side (link_at (row_of rows e.link.maker) e.link.count) ≡ ends_of rows e
unfolding ends_of
ends_of-is rows e = refl

-- what is so stands after an error too
pub on_err : {T E : Type 0} {P : Type 0} (r : Result T E) → P → OnErr r P
on_err (Ok x) holds = tt
on_err (Err e) holds = holds

-- the row that is lent is that of its maker
pub row_of-lent : (rows : List (List (End × End))) (m : ℕ) (d : List (End × End)) → m < length rows → d ≡ get_or rows m d → d ≡ row_of rows m
row_of-lent rows m d within lent = lent ∙ get_or_default rows m d [] within

-- a row in which the same is seen
pub ends_of-same : (rows : List (List (End × End))) (m : ℕ) (new : List (End × End)) → m < length rows → link_at new ≡ link_at (row_of rows m) → ends_of (slice_set rows m new) ≡ ends_of rows
unfolding ends_of
ends_of-same rows m new within same = λ i e. (ap (end_on e.side) (by e (eqb_tells m e.link.maker))) i
  where
    by : (e : EndId) → ((nat_eq m e.link.maker ≡ true) × (m ≡ e.link.maker)) ⊎ ((nat_eq m e.link.maker ≡ false) × (m ≢ e.link.maker))
        → link_at (row_of (slice_set rows m new) e.link.maker) e.link.count ≡ link_at (row_of rows e.link.maker) e.link.count
    by e (inl t) =
        ap (λ r. link_at r e.link.count) (set-seen rows m new [] e.link.maker (λ past. absurd (omega arith)) ∙ ap (λ b. cond b new (row_of rows e.link.maker)) t.0)
        ∙ ap (λ f. f e.link.count) same ∙ ap (λ k. link_at (row_of rows k) e.link.count) t.1
    by e (inr t) = ap (λ r. link_at r e.link.count) (set-seen rows m new [] e.link.maker (λ past. absurd (omega arith)) ∙ ap (λ b. cond b new (row_of rows e.link.maker)) t.0)

-- a link is made in a row that is there
module _ (rows : List (List (End × End))) (m : ℕ) (new : List (End × End)) (link : LinkId) (x y : End)
    (maker : link.maker ≡ m) (within : m < length rows) (puts_it : link_at new ≡ puts_link link.count (x, y) (link_at (row_of rows m))) where
  abbrev a : EndId
  a = record { link = link; side = A }

  abbrev b : EndId
  b = record { link = link; side = B }

  rows-set : (k : ℕ) → row_of (slice_set rows m new) k ≡ cond (nat_eq m k) new (row_of rows k)
  rows-set k = set-seen rows m new [] k (λ past. absurd (omega arith))

  abbrev seen : EndId → End
  seen q = end_on q.side (link_at (row_of (slice_set rows m new) q.link.maker) q.link.count)

  stays : (q : EndId) → seen q ≡ ends_of rows q → (a ≡ q → ⊥) → (b ≡ q → ⊥) → seen q ≡ put (put (ends_of rows) a x) b y q
  stays q is not-a not-b = is ∙ sym (ap (λ t. cond t y (cond (end_eq a q) x (ends_of rows q))) (apart b q not-b) ∙ ap (λ t. cond t x (ends_of rows q)) (apart a q not-a))

  on-side : (s : Side) (q : EndId) → q ≡ record { link = link; side = s } → seen q ≡ end_on s (x, y) → seen q ≡ put (put (ends_of rows) a x) b y q
  on-side A q is sees =
      sees
      ∙ sym (ap (λ t. cond t y (cond (end_eq a q) x (ends_of rows q))) (apart b q (λ same. sides-differ (ap (λ (z : EndId). z.side) (sym (same ∙ is)))))
      ∙ ap (λ t. cond t x (ends_of rows q)) (ap (end_eq a) is ∙ end_eq-refl a))
  on-side B q is sees = sees ∙ sym (ap (λ t. cond t y (cond (end_eq a q) x (ends_of rows q))) (ap (end_eq b) is ∙ end_eq-refl b))

  pub ends_of-made : ends_of (slice_set rows m new) ≡ put (put (ends_of rows) a x) b y
  unfolding ends_of
  ends_of-made = λ i q. (by-maker q (eqb_tells m q.link.maker)) i
    where
      Is : EndId → Type 0
      Is q = seen q ≡ put (put (ends_of rows) a x) b y q

      in-row : (q : EndId) → nat_eq m q.link.maker ≡ true → link_at (row_of (slice_set rows m new) q.link.maker) q.link.count ≡ cond (nat_eq link.count q.link.count) (x, y) (link_at (row_of rows m) q.link.count)
      in-row q is = ap (λ r. link_at r q.link.count) (rows-set q.link.maker ∙ ap (λ t. cond t new (row_of rows q.link.maker)) is) ∙ ap (λ f. f q.link.count) puts_it

      by-number : (q : EndId) → m ≡ q.link.maker → nat_eq m q.link.maker ≡ true
          → ((nat_eq link.count q.link.count ≡ true) × (link.count ≡ q.link.count)) ⊎ ((nat_eq link.count q.link.count ≡ false) × (link.count ≢ q.link.count)) → Is q
      by-number q same is (inl t) =
          on-side q.side q (λ i. record { link = record { maker = sym (maker ∙ same) i; count = sym t.1 i }; side = q.side })
          (ap (end_on q.side) (in-row q is ∙ ap (λ h. cond h (x, y) (link_at (row_of rows m) q.link.count)) t.0))
      by-number q same is (inr t) =
          stays q (ap (end_on q.side) (in-row q is ∙ ap (λ h. cond h (x, y) (link_at (row_of rows m) q.link.count)) t.0 ∙ ap (λ k. link_at (row_of rows k) q.link.count) same))
          (λ one. t.1 (ap (λ (z : EndId). z.link.count) one)) (λ one. t.1 (ap (λ (z : EndId). z.link.count) one))

      by-maker : (q : EndId) → ((nat_eq m q.link.maker ≡ true) × (m ≡ q.link.maker)) ⊎ ((nat_eq m q.link.maker ≡ false) × (m ≢ q.link.maker)) → Is q
      by-maker q (inl t) = by-number q t.1 t.0 (eqb_tells link.count q.link.count)
      by-maker q (inr t) =
          stays q (ap (λ r. end_on q.side (link_at r q.link.count)) (rows-set q.link.maker ∙ ap (λ h. cond h new (row_of rows q.link.maker)) t.0))
          (λ one. t.1 (sym maker ∙ ap (λ (z : EndId). z.link.maker) one)) (λ one. t.1 (sym maker ∙ ap (λ (z : EndId). z.link.maker) one))

-- one end more is destroyed
pub destroys_each_more : (p : Pid) (mine : List EndId) (t : EndId → End) (i : ℕ) (d : EndId) → i < length mine
    → destroys_each p (take (i + 1) mine) t ≡ destroys_owned p (get_or mine i d) (destroys_each p (take i mine) t)
unfolding destroys_each
destroys_each_more p mine t i d below = fold_more (λ so_far e. destroys_owned p e so_far) t mine i d below
