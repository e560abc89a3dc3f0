-- Those who have the ports of a net, in a list by the numbers of their kernels: the ports themselves, or what a port is part of.
use Rattle.std.proofs.Common.{◌≡◌, ℕ, ◌+◌, ◌<◌, List, ◌++◌, length, map, set, get_or, ap, ◌∙◌, sym, subst, arith, length-append}
use Rattle.std.proofs.lemmas.List.{length-map, map-append, get_or_append_left, get_or-append-add, get_or_default}
use Rattle.kernel_net.specs.Ports.{Place, kernels_of, IsNet, IsJoined, AreOfOneNet}
use Rattle.kernel_net.proofs.Lists.{read-at, set-kept}

-- place gives each one's place in the net
module _ {X : Type 0} (place : X → Place) (xs : List X) (net : IsNet (map place xs)) where
  below : (k : ℕ) → k < length xs → k < length (map place xs)
  below k less = omega (arith, less, length-map xs place)

  place-at : (k : ℕ) (x : X) → k < length xs → x ≡ get_or xs k x → get_or (map place xs) k (place x) ≡ place x
  place-at k x less is = read-at place xs k x x less is (place x)

  -- the one at k has the port of kernel k
  pub net-number : (k : ℕ) (x : X) → k < length xs → x ≡ get_or xs k x → (place x).kernel ≡ k
  net-number k x less is = sym (ap (λ (p : Place). p.kernel) (place-at k x less is)) ∙ net.numbers k (place x) (below k less)

  -- each port has a ring to each kernel
  pub net-kernels : (k : ℕ) (x : X) → k < length xs → x ≡ get_or xs k x → kernels_of (place x) ≡ length xs
  net-kernels k x less is = sym (ap kernels_of (place-at k x less is)) ∙ net.kernels k (place x) (below k less) ∙ length-map xs place

  -- each two are of one net
  pub net-joined : (j k : ℕ) (x y : X) → j < length xs → k < length xs → x ≡ get_or xs j x → y ≡ get_or xs k y → AreOfOneNet (place x) (place y)
  net-joined j k x y less-j less-k is-x is-y = (one j k x y less-j less-k is-x is-y, one k j y x less-k less-j is-y is-x)
    where
      one : (j k : ℕ) (x y : X) → j < length xs → k < length xs → x ≡ get_or xs j x → y ≡ get_or xs k y → IsJoined (place x) (place y)
      one j k x y less-j less-k is-x is-y =
          subst (λ p. IsJoined p (place y)) (read-at place xs j x x less-j is-x (place x))
          (subst (λ p. IsJoined (get_or (map place xs) j (place x)) p) (read-at place xs k y y less-k is-y (place x)) (net.joined j k (place x) (below j less-j) (below k less-k)))

  -- and a call of one of them leaves them so
  pub net-kept : (k : ℕ) (x x' : X) → k < length xs → x ≡ get_or xs k x → place x' ≡ place x → IsNet (map place (set xs k x'))
  net-kept k x x' less is same = subst IsNet (sym (set-kept place xs k x x' less is same)) net

-- ---- two of them at once, as split_at_mut lends them: one of the front and the first of the back

module _ {X : Type 0} (place : X → Place) (xs front back : List X) (split : xs ≡ front ++ back) (i : ℕ) (less : i < length front) (some : 0 < length back) (x y : X) where
  pub split-joined : IsNet (map place xs) → AreOfOneNet (place (get_or front i x)) (place (get_or back 0 y))
  split-joined net =
      let p = get_or front i x in
      let q = get_or back 0 y in
      let long : length xs ≡ length front + length back = ap length split ∙ length-append front back in
      net-joined place xs net i (length front + 0) p q (omega (arith, less, long)) (omega (arith, some, long))
      (get_or_default front i x p less ∙ sym (get_or_append_left front back p i less) ∙ ap (λ l. get_or l i p) (sym split))
      (get_or_default back 0 y q some ∙ sym (get_or-append-add front back 0 q) ∙ ap (λ l. get_or l (length front + 0) q) (sym split))

  pub split-kept : (x' y' : X) → place x' ≡ place (get_or front i x) → place y' ≡ place (get_or back 0 y) → map place (set front i x' ++ set back 0 y') ≡ map place xs
  split-kept x' y' same-x same-y =
      map-append place (set front i x') (set back 0 y')
      ∙ ap (λ l. l ++ map place (set back 0 y')) (set-kept place front i (get_or front i x) x' less (get_or_default front i x _ less) same-x)
      ∙ ap (λ l. map place front ++ l) (set-kept place back 0 (get_or back 0 y) y' some (get_or_default back 0 y _ some) same-y)
      ∙ sym (map-append place front back)
      ∙ ap (map place) (sym split)
