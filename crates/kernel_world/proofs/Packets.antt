-- The packets of a world after an event.
use Rattle.std.proofs.Common.{◌≡◌, inl, inr, ℕ, Bool, true, false, nat_eq, ◌&&◌, List, [], ◌∷◌, ◌++◌, map, cond, ap, sym, ◌∙◌, refl, append_assoc, append-nil}
use Rattle.std.specs.List.{filter}
use Rattle.std.proofs.lemmas.Bool.Decides.{eqb_tells}
use Rattle.charlotte_packets.specs.declared.picture.Picture.{Picture}
use Rattle.kernel_world.specs.World.{World, Event, Calls, Takes, kernel_of, outcome, rest, removes, adds, adds_all, happens, to_kernel, takes_at, left_at, packets_after}

-- packets from another kernel change no list of this one
pub adds_all-other : (k : ℕ) (sent : List (ℕ × Picture)) (ps : ℕ → ℕ → List Picture) (from to : ℕ) → nat_eq from k ≡ false → adds_all k sent ps from to ≡ ps from to
adds_all-other k [] ps from to e = refl
adds_all-other k (x ∷ xs) ps from to e = adds_all-other k xs (adds k x ps) from to e ∙ ap (λ b. cond (b && nat_eq to x.0) (ps from to ++ x.1 ∷ []) (ps from to)) e

pub to_kernel-first : (to : ℕ) (x : ℕ × Picture) (xs : List (ℕ × Picture)) (b : Bool) → nat_eq to x.0 ≡ b → to_kernel to (x ∷ xs) ≡ cond b (x.1 ∷ to_kernel to xs) (to_kernel to xs)
to_kernel-first to x xs true e = ap (λ b. map (λ (s : ℕ × Picture). s.1) (cond b (x ∷ filter (λ s. nat_eq to s.0) xs) (filter (λ s. nat_eq to s.0) xs))) e
to_kernel-first to x xs false e = ap (λ b. map (λ (s : ℕ × Picture). s.1) (cond b (x ∷ filter (λ s. nat_eq to s.0) xs) (filter (λ s. nat_eq to s.0) xs))) e

-- its own packets go to the ends of their lists
pub adds_all-own : (k : ℕ) (sent : List (ℕ × Picture)) (ps : ℕ → ℕ → List Picture) (from to : ℕ) → nat_eq from k ≡ true → adds_all k sent ps from to ≡ ps from to ++ to_kernel to sent
adds_all-own k [] ps from to e = sym (append-nil (ps from to))
adds_all-own k (x ∷ xs) ps from to e = adds_all-own k xs (adds k x ps) from to e ∙ by (nat_eq to x.0) refl
  where
    here : (b : Bool) → nat_eq to x.0 ≡ b → adds k x ps from to ≡ cond b (ps from to ++ x.1 ∷ []) (ps from to)
    here b q = ap (λ a. cond (a && nat_eq to x.0) (ps from to ++ x.1 ∷ []) (ps from to)) e ∙ ap (λ a. cond a (ps from to ++ x.1 ∷ []) (ps from to)) q

    by : (b : Bool) → nat_eq to x.0 ≡ b → adds k x ps from to ++ to_kernel to xs ≡ ps from to ++ to_kernel to (x ∷ xs)
    by true q = ap (λ qs. qs ++ to_kernel to xs) (here true q) ∙ append_assoc (ps from to) (x.1 ∷ []) (to_kernel to xs) ∙ ap (λ qs. ps from to ++ qs) (sym (to_kernel-first to x xs true q))
    by false q = ap (λ qs. qs ++ to_kernel to xs) (here false q) ∙ ap (λ qs. ps from to ++ qs) (sym (to_kernel-first to x xs false q))

removes-is : (e : Event) (ps : ℕ → ℕ → List Picture) (from to : ℕ) → removes e ps from to ≡ cond (takes_at e from to) (rest (ps from to)) (ps from to)
removes-is (Calls k p c mine) ps from to = refl
removes-is (Takes k j) ps from to = refl

pub happens-packets : (w : World) (e : Event) (from to : ℕ) → (happens w e).packets from to ≡ packets_after w e from to
happens-packets w e from to =
    let sent : List Picture = to_kernel to (outcome w e).packets in
    let left : List Picture = left_at w e from to in
    elim (eqb_tells from (kernel_of e)) [
      | inl x ↦ adds_all-own (kernel_of e) (outcome w e).packets (removes e w.packets) from to x.0 ∙ ap (λ ps. ps ++ sent) (removes-is e w.packets from to)
          ∙ ap (λ b. left ++ cond b sent []) (sym x.0)
      | inr x ↦ adds_all-other (kernel_of e) (outcome w e).packets (removes e w.packets) from to x.0 ∙ removes-is e w.packets from to ∙ sym (append-nil left)
          ∙ ap (λ b. left ++ cond b sent []) (sym x.0)
    ]
