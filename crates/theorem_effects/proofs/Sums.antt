-- Sums over all packets that are under way, after an event: what it took counts no more, and what it sent counts.
use Rattle.std.proofs.Common.{◌≡◌, ℕ, ◌+◌, ◌<◌, Bool, true, false, nat_eq, if◌then◌else◌, List, [], ◌∷◌, ◌++◌, IfSome, Option, Some, None, refl, ap, ◌∙◌, arith, eq-eqb, ne_eqb}
use Rattle.charlotte_calls.specs.declared.names.EndId.{EndId}
use Rattle.charlotte_packets.specs.declared.picture.Picture.{Picture}
use Rattle.charlotte_packets.specs.declared.picture.PictureWhat.{PictureWhat}
use Rattle.kernel_step.specs.Rows.{is_here}
use Rattle.theorem_meaning.proofs.Sums.{over-change, over-none, over-one, over-same}
use Rattle.theorem_meaning.specs.Packets.{Links, one_if, over_kernels, sum_in, sum_over, values_for, values_of}
use Rattle.theorem_meaning.specs.StandsFor.{standing}
use Rattle.theorem_effects.specs.Change.{Change, Changes, sent_at, taken_at, taken_from}
use Rattle.theorem_effects.specs.Sums.{AllSent, IsWithin, sum_sent, sum_taken}
use Rattle.theorem_effects.proofs.Lists.{going, going-first}

over-plus : (f g : ℕ → ℕ) → over_kernels (λ k. f k + g k) ≡ over_kernels f + over_kernels g
unfolding over_kernels
over-plus f g = omega arith

module _ (f : PictureWhat → ℕ) where
  pub sum_in-append : (ps qs : List Picture) → sum_in f (ps ++ qs) ≡ sum_in f ps + sum_in f qs
  sum_in-append [] qs = omega arith
  sum_in-append (p ∷ ps) qs = let rest : sum_in f (ps ++ qs) ≡ sum_in f ps + sum_in f qs = sum_in-append ps qs in omega arith

  -- the sum over lists of which each has two parts
  over-parts : (ps qs rs : ℕ → ℕ → List Picture) → ((from to : ℕ) → ps from to ≡ qs from to ++ rs from to)
      → over_kernels (λ from. over_kernels (λ to. sum_in f (ps from to))) ≡ over_kernels (λ from. over_kernels (λ to. sum_in f (qs from to))) + over_kernels (λ from. over_kernels (λ to. sum_in f (rs from to)))
  over-parts ps qs rs are =
      over-same (λ from. over_kernels (λ to. sum_in f (qs from to)) + over_kernels (λ to. sum_in f (rs from to))) (λ from. over_kernels (λ to. sum_in f (ps from to)))
      (λ from.
      over-same (λ to. sum_in f (qs from to) + sum_in f (rs from to)) (λ to. sum_in f (ps from to)) (λ to. ap (sum_in f) (are from to) ∙ sum_in-append (qs from to) (rs from to))
      ∙ over-plus (λ to. sum_in f (qs from to)) (λ to. sum_in f (rs from to)))
      ∙ over-plus (λ from. over_kernels (λ to. sum_in f (qs from to))) (λ from. over_kernels (λ to. sum_in f (rs from to)))

  -- ---- what was taken

  over-taken : (c : Change) → c.kernel < 8 → IfSome c.taken (λ t. t.0 < 8) → over_kernels (λ from. over_kernels (λ to. sum_in f (taken_at c from to))) ≡ sum_taken f c.taken
  over-taken c below few =
      over-same (λ from. sum_in f (taken_from c.taken from)) (λ from. over_kernels (λ to. sum_in f (taken_at c from to))) at ∙ by c.taken few
    where
      at : (from : ℕ) → over_kernels (λ to. sum_in f (taken_at c from to)) ≡ sum_in f (taken_from c.taken from)
      at from =
          over-one (λ to. sum_in f (taken_at c from to)) c.kernel below (λ to off. ap (λ b. sum_in f (if b then taken_from c.taken from else [])) (ne_eqb to c.kernel off))
          ∙ ap (λ b. sum_in f (if b then taken_from c.taken from else [])) (eq-eqb c.kernel c.kernel refl)

      by : (t : Option (ℕ × Picture)) → IfSome t (λ t. t.0 < 8) → over_kernels (λ from. sum_in f (taken_from t from)) ≡ sum_taken f t
      by None few = over-none (λ from. 0) (λ from. refl)
      by (Some t) few =
          over-one (λ from. sum_in f (taken_from (Some t) from)) t.0 few (λ from off. ap (λ b. sum_in f (if b then t.1 ∷ [] else [])) (ne_eqb from t.0 off))
          ∙ ap (λ b. sum_in f (if b then t.1 ∷ [] else [])) (eq-eqb t.0 t.0 refl) ∙ omega arith

  -- ---- what was sent

  over-going : (stamp : ℕ) (ps : List (ℕ × PictureWhat)) → AllSent (λ to what. to < 8) ps → over_kernels (λ to. sum_in f (going to stamp ps)) ≡ sum_sent f ps
  over-going stamp [] few = over-none (λ to. 0) (λ to. refl)
  over-going stamp (p ∷ ps) few =
      over-same (λ to. (if nat_eq to p.0 then f p.1 else 0) + sum_in f (going to stamp ps)) (λ to. sum_in f (going to stamp (p ∷ ps))) (λ to. at to (nat_eq to p.0) refl)
      ∙ over-plus (λ to. if nat_eq to p.0 then f p.1 else 0) (λ to. sum_in f (going to stamp ps))
      ∙ ap (λ n. n + over_kernels (λ to. sum_in f (going to stamp ps))) one
      ∙ ap (λ n. f p.1 + n) (over-going stamp ps few.1)
    where
      at : (to : ℕ) (b : Bool) → nat_eq to p.0 ≡ b → sum_in f (going to stamp (p ∷ ps)) ≡ (if b then f p.1 else 0) + sum_in f (going to stamp ps)
      at to true is = ap (sum_in f) (going-first to stamp p ps true is)
      at to false is = let same : sum_in f (going to stamp (p ∷ ps)) ≡ sum_in f (going to stamp ps) = ap (sum_in f) (going-first to stamp p ps false is) in omega (arith, same)

      one : over_kernels (λ to. if nat_eq to p.0 then f p.1 else 0) ≡ f p.1
      one =
          over-one (λ to. if nat_eq to p.0 then f p.1 else 0) p.0 few.0 (λ to off. ap (λ b. if b then f p.1 else 0) (ne_eqb to p.0 off))
          ∙ ap (λ b. if b then f p.1 else 0) (eq-eqb p.0 p.0 refl)

  over-sent : (c : Change) → c.kernel < 8 → AllSent (λ to what. to < 8) c.packets → over_kernels (λ from. over_kernels (λ to. sum_in f (sent_at c from to))) ≡ sum_sent f c.packets
  over-sent c below few =
      over-one (λ from. over_kernels (λ to. sum_in f (sent_at c from to))) c.kernel below
      (λ from off. over-none (λ to. sum_in f (sent_at c from to)) (λ to. ap (λ b. sum_in f (if b then going to c.stamp c.packets else [])) (ne_eqb from c.kernel off)))
      ∙ ap (λ b. over_kernels (λ to. sum_in f (if b then going to c.stamp c.packets else []))) (eq-eqb c.kernel c.kernel refl)
      ∙ over-going c.stamp c.packets few

  -- ---- afterwards

  pub sum_over-after : {w u : Links} {c : Change} → Changes w c u → IsWithin 8 c → sum_over f u + sum_taken f c.taken ≡ sum_over f w + sum_sent f c.packets
  unfolding sum_over
  sum_over-after {w} {u} {c} b within =
      let stood : over_kernels (λ from. over_kernels (λ to. sum_in f (w.packets from to))) ≡ over_kernels (λ from. over_kernels (λ to. sum_in f (taken_at c from to))) + over_kernels (λ from. over_kernels (λ to. sum_in f (b.left from to)))
      = over-parts w.packets (taken_at c) b.left b.before in
      let stands : over_kernels (λ from. over_kernels (λ to. sum_in f (u.packets from to))) ≡ over_kernels (λ from. over_kernels (λ to. sum_in f (b.left from to))) + over_kernels (λ from. over_kernels (λ to. sum_in f (sent_at c from to)))
      = over-parts u.packets b.left (sent_at c) b.after in
      let taken = over-taken c within.kernel within.taken in
      let sent = over-sent c within.kernel within.sent in
      omega (arith, stood, stands, taken, sent)

-- ---- where ends stand

-- 1 where an end is here at the kernel of the event, before it and afterwards
pub standing-after : {w u : Links} {c : Change} → Changes w c u → IsWithin 8 c → (e : EndId)
    → standing u e + (one_if (is_here (w.entry c.kernel e)) + sum_taken (λ q. values_for e (values_of q)) c.taken)
    ≡ standing w e + (one_if (is_here (c.entry e (w.entry c.kernel e))) + sum_sent (λ q. values_for e (values_of q)) c.packets)
unfolding standing
standing-after {w} {u} {c} b within e =
    let here : over_kernels (λ k. one_if (is_here (u.entry k e))) + one_if (is_here (w.entry c.kernel e)) ≡ over_kernels (λ k. one_if (is_here (w.entry k e))) + one_if (is_here (u.entry c.kernel e))
    = over-change (λ k. one_if (is_here (w.entry k e))) (λ k. one_if (is_here (u.entry k e))) c.kernel within.kernel (λ j off. ap (λ x. one_if (is_here x)) (b.others j e (ne_eqb j c.kernel off))) in
    let now : one_if (is_here (u.entry c.kernel e)) ≡ one_if (is_here (c.entry e (w.entry c.kernel e))) = ap (λ x. one_if (is_here x)) (b.entry e) in
    let values = sum_over-after (λ q. values_for e (values_of q)) b within in
    omega (arith, here, now, values)

-- ---- where nothing that was taken or sent counts

module _ (f : PictureWhat → ℕ) where
  going-none : (to stamp : ℕ) (ps : List (ℕ × PictureWhat)) → AllSent (λ to what. f what ≡ 0) ps → sum_in f (going to stamp ps) ≡ 0
  going-none to stamp [] none = refl
  going-none to stamp (p ∷ ps) none = by (nat_eq to p.0) refl (going-none to stamp ps none.1)
    where
      by : (b : Bool) → nat_eq to p.0 ≡ b → sum_in f (going to stamp ps) ≡ 0 → sum_in f (going to stamp (p ∷ ps)) ≡ 0
      by true is rest = let more : sum_in f (going to stamp (p ∷ ps)) ≡ f p.1 + sum_in f (going to stamp ps) = ap (sum_in f) (going-first to stamp p ps true is) in omega (arith, more, rest, none.0)
      by false is rest = ap (sum_in f) (going-first to stamp p ps false is) ∙ rest

  sent-none : (c : Change) → AllSent (λ to what. f what ≡ 0) c.packets → (from to : ℕ) → sum_in f (sent_at c from to) ≡ 0
  sent-none c none from to = by (nat_eq from c.kernel)
    where
      by : (b : Bool) → sum_in f (if b then going to c.stamp c.packets else []) ≡ 0
      by true = going-none to c.stamp c.packets none
      by false = refl

  taken-none : (c : Change) → IfSome c.taken (λ t. f t.1.what ≡ 0) → (from to : ℕ) → sum_in f (taken_at c from to) ≡ 0
  taken-none c none from to = by (nat_eq to c.kernel)
    where
      at : (t : Option (ℕ × Picture)) → IfSome t (λ t. f t.1.what ≡ 0) → sum_in f (taken_from t from) ≡ 0
      at None none = refl
      at (Some t) none = by (nat_eq from t.0)
        where
          by : (b : Bool) → sum_in f (if b then t.1 ∷ [] else []) ≡ 0
          by true = omega (arith, none)
          by false = refl

      by : (b : Bool) → sum_in f (if b then taken_from c.taken from else []) ≡ 0
      by true = at c.taken none
      by false = refl

  pub sum_over-same : {w u : Links} {c : Change} → Changes w c u → IfSome c.taken (λ t. f t.1.what ≡ 0) → AllSent (λ to what. f what ≡ 0) c.packets → sum_over f u ≡ sum_over f w
  unfolding sum_over
  sum_over-same {w} {u} {c} b taken sent =
      over-same (λ from. over_kernels (λ to. sum_in f (w.packets from to))) (λ from. over_kernels (λ to. sum_in f (u.packets from to)))
      (λ from. over-same (λ to. sum_in f (w.packets from to)) (λ to. sum_in f (u.packets from to)) (λ to. at from to))
    where
      at : (from to : ℕ) → sum_in f (u.packets from to) ≡ sum_in f (w.packets from to)
      at from to =
          let now : sum_in f (u.packets from to) ≡ sum_in f (b.left from to) + sum_in f (sent_at c from to) = ap (sum_in f) (b.after from to) ∙ sum_in-append f (b.left from to) (sent_at c from to) in
          let was : sum_in f (w.packets from to) ≡ sum_in f (taken_at c from to) + sum_in f (b.left from to) = ap (sum_in f) (b.before from to) ∙ sum_in-append f (taken_at c from to) (b.left from to) in
          omega (arith, now, was, sent-none c sent from to, taken-none c taken from to)
