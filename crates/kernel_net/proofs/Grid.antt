-- The rings of a net while it is made, and the ports that they become.
use Rattle.std.proofs.Common.{◌≡◌, ◌≢◌, ◌⊎◌, inl, inr, ℕ, zero, suc, ◌+◌, ◌<◌, ◌≤◌, List, [], ◌∷◌, ◌++◌, All, length, map, set, take, drop, get_or, ap, ◌∙◌, sym, subst, refl, arith, append-nil, length-append, length-set}
use Rattle.std.proofs.lemmas.List.{length-map, get_or-set_same, get_or-set_other, append_assoc}
use Rattle.std.proofs.lemmas.List.Elements.{All-push, All-head, All-tail, All-cons, All-nil, All-append, All-get_or, All-from_get_or}
use mathlib.Core.List.{map-map}
use Rattle.kernel_net.specs.Rings.{Ring, Outlet, Inlet, IsFreshRing, capacity_of}
use Rattle.kernel_net.specs.Ports.{PortView, Place, place_of, IsJoined, IsPlace, IsNet, IsFresh}
use Rattle.kernel_net.specs.Grid.{IsFreshOutlet, fresh_inlet, inlets_at, column, IsRow, IsGrid, ArePorts}
use Rattle.std.proofs.lemmas.Bool.{cases_eq}
use Rattle.std.proofs.lemmas.List.{get_or_push, get_or_append_left, get_or-map}

-- ---- a row grows

inlets-nil : (k : ℕ) → inlets_at k [] ≡ []
inlets-nil zero = refl
inlets-nil (suc k) = refl

inlets-here : (row : List Outlet) (o : Outlet) → inlets_at (length row) (row ++ o ∷ []) ≡ inlets_at (length row) row ++ fresh_inlet o.ring ∷ []
inlets-here [] o = refl
inlets-here (x ∷ row) o = inlets-here row o

inlets-others : (row : List Outlet) (o : Outlet) (k : ℕ) → k ≢ length row → inlets_at k (row ++ o ∷ []) ≡ inlets_at k row
inlets-others [] o zero other = absurd (other refl)
inlets-others [] o (suc k) other = inlets-nil k
inlets-others (x ∷ row) o zero other = refl
inlets-others (x ∷ row) o (suc k) other = inlets-others row o k (λ e. other (ap suc e))

fresh-inlet : (c : ℕ) (o : Outlet) (i : Inlet) → IsFreshRing c o i → fresh_inlet o.ring ≡ i
fresh-inlet c o i fresh j = record { ring = fresh.ring j; got = sym fresh.got j; known = sym fresh.known j }

pub row-more : (c n : ℕ) (row : List Outlet) (old new : List (List Inlet)) (o : Outlet) (i : Inlet) → IsRow c n row old new → n < length new → IsFreshRing c o i
    → IsRow c (n + 1) (row ++ o ∷ []) old (set new n (get_or new n [] ++ i ∷ []))
row-more c n row old new o i is below fresh =
    record {
      putters = omega (arith, is.putters, length-append row (o ∷ []));
      fresh = All-push (IsFreshOutlet c) row o is.fresh (record { put = fresh.put; places = fresh.places; room = fresh.capacity });
      getters = length-set new n (get_or new n [] ++ i ∷ []) ∙ is.getters;
      gained = λ k. gained k (cases_eq k n);
    }
  where
    here : inlets_at n (row ++ o ∷ []) ≡ inlets_at n row ++ i ∷ []
    here = subst (λ m. inlets_at m (row ++ o ∷ []) ≡ inlets_at m row ++ i ∷ []) is.putters (inlets-here row o ∙ ap (λ x. inlets_at (length row) row ++ x ∷ []) (fresh-inlet c o i fresh))

    gained : (k : ℕ) → (k ≡ n) ⊎ (k ≢ n) → get_or (set new n (get_or new n [] ++ i ∷ [])) k [] ≡ get_or old k [] ++ inlets_at k (row ++ o ∷ [])
    gained k (inl same) =
        subst (λ m. get_or (set new n (get_or new n [] ++ i ∷ [])) m [] ≡ get_or old m [] ++ inlets_at m (row ++ o ∷ [])) (sym same)
        (get_or-set_same new n (get_or new n [] ++ i ∷ []) [] below
        ∙ ap (λ l. l ++ i ∷ []) (is.gained n)
        ∙ append_assoc (get_or old n []) (inlets_at n row) (i ∷ [])
        ∙ ap (λ l. get_or old n [] ++ l) (sym here))
    gained k (inr other) =
        get_or-set_other new n k (get_or new n [] ++ i ∷ []) [] other
        ∙ is.gained k
        ∙ ap (λ l. get_or old k [] ++ l) (sym (inlets-others row o k (λ e. other (e ∙ is.putters))))

-- ---- the grid grows

abbrev IsLong : ℕ → List Outlet → Type 0
IsLong n row = length row ≡ n

nil-push : (lists : List (List Inlet)) (k : ℕ) → get_or (lists ++ [] ∷ []) k [] ≡ get_or lists k []
nil-push [] zero = refl
nil-push [] (suc k) = refl
nil-push (x ∷ xs) zero = refl
nil-push (x ∷ xs) (suc k) = nil-push xs k

pub grid-wider : (c n : ℕ) (lists : List (List Inlet)) → IsGrid c n 0 [] lists → IsGrid c (n + 1) 0 [] (lists ++ [] ∷ [])
grid-wider c n lists is =
    record {
      putters = refl;
      whole = All-nil (IsLong (n + 1));
      fresh = All-nil (All (IsFreshOutlet c));
      getters = omega (arith, is.getters, length-append lists ([] ∷ []));
      columns = λ k. nil-push lists k ∙ is.columns k;
    }

column-push : (rows : List (List Outlet)) (row : List Outlet) (k : ℕ) → column k (rows ++ row ∷ []) ≡ column k rows ++ inlets_at k row
column-push [] row k = append-nil (inlets_at k row)
column-push (r ∷ rows) row k = ap (λ l. inlets_at k r ++ l) (column-push rows row k) ∙ sym (append_assoc (inlets_at k r) (column k rows) (inlets_at k row))

pub grid-more : (c n count : ℕ) (rows : List (List Outlet)) (row : List Outlet) (old new : List (List Inlet)) → IsGrid c n count rows old → IsRow c n row old new
    → IsGrid c n (count + 1) (rows ++ row ∷ []) new
grid-more c n count rows row old new is more =
    record {
      putters = omega (arith, is.putters, length-append rows (row ∷ []));
      whole = All-push (IsLong n) rows row is.whole more.putters;
      fresh = All-push (All (IsFreshOutlet c)) rows row is.fresh more.fresh;
      getters = more.getters ∙ is.getters;
      columns = λ k. more.gained k ∙ ap (λ l. l ++ inlets_at k row) (is.columns k) ∙ sym (column-push rows row k);
    }

-- ---- the ports of a whole grid

abbrev pub port_at : List (List Outlet) → List (List Inlet) → ℕ → PortView
port_at rows lists k = record { kernel = k; out = get_or rows k []; into = get_or lists k [] }

inlets-one : (row : List Outlet) (k : ℕ) (d : Ring) → k < length row → inlets_at k row ≡ fresh_inlet (get_or (map (λ o. o.ring) row) k d) ∷ []
inlets-one [] k d below = absurd (omega (arith, below))
inlets-one (o ∷ row) zero d below = refl
inlets-one (o ∷ row) (suc k) d below = inlets-one row k d (omega (arith, below))

column-at : (n k : ℕ) (d : Ring) → k < n → (rows : List (List Outlet)) → All (IsLong n) rows → (j : ℕ) → j < length rows
    → get_or (map (λ i. i.ring) (column k rows)) j d ≡ get_or (map (λ o. o.ring) (get_or rows j [])) k d
column-at n k d below [] all j less = absurd (omega (arith, less))
column-at n k d below (row ∷ rows) all zero less =
    ap (λ l. get_or (map (λ i. i.ring) (l ++ column k rows)) 0 d) (inlets-one row k d (omega (arith, below, All-head (IsLong n) row rows all)))
column-at n k d below (row ∷ rows) all (suc j) less =
    ap (λ l. get_or (map (λ i. i.ring) (l ++ column k rows)) (suc j) d) (inlets-one row k d (omega (arith, below, All-head (IsLong n) row rows all)))
    ∙ column-at n k d below rows (All-tail (IsLong n) row rows all) j (omega (arith, less))

inlets-length : (row : List Outlet) (k : ℕ) → k < length row → length (inlets_at k row) ≡ 1
inlets-length [] k below = absurd (omega (arith, below))
inlets-length (o ∷ row) zero below = refl
inlets-length (o ∷ row) (suc k) below = inlets-length row k (omega (arith, below))

column-length : (n k : ℕ) → k < n → (rows : List (List Outlet)) → All (IsLong n) rows → length (column k rows) ≡ length rows
column-length n k below [] all = refl
column-length n k below (row ∷ rows) all =
    omega (
      arith,
      length-append (inlets_at k row) (column k rows),
      inlets-length row k (omega (arith, below, All-head (IsLong n) row rows all)),
      column-length n k below rows (All-tail (IsLong n) row rows all),
    )

all-at : {X Y : Type 0} (P : X → Type 0) (f : X → Y) (e : Y) → ((x : X) → P x → f x ≡ e) → (xs : List X) → All P xs → (q : ℕ) (d : Y) → (length xs ≤ q → d ≡ e) → get_or (map f xs) q d ≡ e
all-at P f e is [] all q d past = past (omega arith)
all-at P f e is (x ∷ xs) all zero d past = is x (All-head P x xs all)
all-at P f e is (x ∷ xs) all (suc q) d past = all-at P f e is xs (All-tail P x xs all) q d (λ more. past (omega (arith, more)))

abbrev IsFreshInlet : Inlet → Type 0
IsFreshInlet i = (i.got ≡ []) × (i.known ≡ [])

inlets-fresh : (row : List Outlet) → All IsFreshInlet (map (λ o. fresh_inlet o.ring) row)
inlets-fresh [] = All-nil IsFreshInlet
inlets-fresh (o ∷ row) = All-cons IsFreshInlet (fresh_inlet o.ring) _ (refl, refl) (inlets-fresh row)

column-fresh : (k : ℕ) (rows : List (List Outlet)) → All IsFreshInlet (column k rows)
column-fresh k [] = All-nil IsFreshInlet
column-fresh k (row ∷ rows) = All-append IsFreshInlet (inlets_at k row) (column k rows) (inlets-fresh (take 1 (drop k row))) (column-fresh k rows)

module _ (c n : ℕ) (rows : List (List Outlet)) (lists : List (List Inlet)) (grid : IsGrid c n n rows lists) where
  row-length : (k : ℕ) → k < n → length (get_or rows k []) ≡ n
  row-length k below = All-get_or (IsLong n) rows k [] (omega (arith, below, grid.putters)) grid.whole

  list-length : (k : ℕ) → k < n → length (get_or lists k []) ≡ n
  list-length k below = ap length (grid.columns k) ∙ column-length n k below rows grid.whole ∙ grid.putters

  ports-joined : (j k : ℕ) → j < n → k < n → IsJoined (place_of (port_at rows lists j)) (place_of (port_at rows lists k))
  ports-joined j k below-j below-k =
      record {
        to = omega (arith, below-k, row-length j below-j, length-map (get_or rows j []) (λ o. o.ring));
        from = omega (arith, below-j, list-length k below-k, length-map (get_or lists k []) (λ i. i.ring));
        ring = λ d. sym (ap (λ l. get_or (map (λ i. i.ring) l) j d) (grid.columns k) ∙ column-at n k d below-k rows grid.whole j (omega (arith, below-j, grid.putters)));
      }

  pub port-place : (k : ℕ) → k < n → n ≤ 8 → IsPlace (place_of (port_at rows lists k))
  port-place k below most =
      record {
        same = omega (arith, row-length k below, list-length k below, length-map (get_or rows k []) (λ o. o.ring), length-map (get_or lists k []) (λ i. i.ring));
        most = omega (arith, most, row-length k below, length-map (get_or rows k []) (λ o. o.ring));
        own = ports-joined k k below below;
      }

  fresh-row : (k : ℕ) → k < n → All (IsFreshOutlet c) (get_or rows k [])
  fresh-row k below = All-get_or (All (IsFreshOutlet c)) rows k [] (omega (arith, below, grid.putters)) grid.fresh

  fresh-list : (k : ℕ) → All IsFreshInlet (get_or lists k [])
  fresh-list k = subst (All IsFreshInlet) (sym (grid.columns k)) (column-fresh k rows)

  port-fresh : (k : ℕ) → k < n → IsFresh c (port_at rows lists k)
  port-fresh k below =
      record {
        put = λ to. all-at (IsFreshOutlet c) (λ o. o.put) [] (λ o is. is.put) (get_or rows k []) (fresh-row k below) to [] (λ past. refl);
        got = λ from. all-at IsFreshInlet (λ i. i.got) [] (λ i is. is.0) (get_or lists k []) (fresh-list k) from [] (λ past. refl);
        known = λ from. all-at IsFreshInlet (λ i. i.known) [] (λ i is. is.1) (get_or lists k []) (fresh-list k) from [] (λ past. refl);
        places = λ to less. all-at (IsFreshOutlet c) (λ o. o.places) c (λ o is. is.places) (get_or rows k []) (fresh-row k below) to 0 (λ past. absurd (omega (arith, past, less, length-map (get_or rows k []) (λ o. o.ring))));
        room = λ to less. ap (λ l. get_or l to 0) (map-map capacity_of (λ o. o.ring) (get_or rows k []))
            ∙ all-at (IsFreshOutlet c) (λ o. capacity_of o.ring) c (λ o is. is.room) (get_or rows k []) (fresh-row k below) to 0 (λ past. absurd (omega (arith, past, less, length-map (get_or rows k []) (λ o. o.ring))));
      }

  module _ (ports : List PortView) (are : ArePorts n ports rows lists) where
    abbrev nobody : PortView
    nobody = record { kernel = 0; out = []; into = [] }

    place-at : (k : ℕ) (d : Place) → k < length (map place_of ports) → get_or (map place_of ports) k d ≡ place_of (port_at rows lists k)
    place-at k d less =
        let below : k < length ports = omega (arith, less, length-map ports place_of) in
        get_or-map place_of ports k nobody d below ∙ ap place_of (are.port k nobody (omega (arith, below, are.number)))

    below-count : (k : ℕ) → k < length (map place_of ports) → k < n
    below-count k less = omega (arith, less, length-map ports place_of, are.number)

    pub net-made : IsNet (map place_of ports)
    net-made =
        record {
          numbers = λ k d less. ap (λ (p : Place). p.kernel) (place-at k d less);
          kernels = All-from_get_or (λ p. length p.to ≡ length (map place_of ports)) (map place_of ports) (place_of nobody) (λ k less.
              ap (λ (p : Place). length p.to) (place-at k (place_of nobody) less)
              ∙ omega (arith, row-length k (below-count k less), length-map (get_or rows k []) (λ o. o.ring), length-map ports place_of, are.number));
          joined = λ j k d less-j less-k.
              subst (λ p. IsJoined p (get_or (map place_of ports) k d)) (sym (place-at j d less-j))
              (subst (λ p. IsJoined (place_of (port_at rows lists j)) p) (sym (place-at k d less-k)) (ports-joined j k (below-count j less-j) (below-count k less-k)));
        }

    pub fresh-made : All (IsFresh c) ports
    fresh-made = All-from_get_or (IsFresh c) ports nobody (λ k less.
        subst (IsFresh c) (sym (are.port k nobody (omega (arith, less, are.number)))) (port-fresh k (omega (arith, less, are.number))))

-- ---- the ports take their rings out of the grid

-- the first ports are there, and from this number on the rows and lists are as they were
pub record IsTaking (k : ℕ) (made : List PortView) (rows left : List (List Outlet)) (lists kept : List (List Inlet)) : Type 0 where
  pub ports : ArePorts k made rows lists
  pub putters : (j : ℕ) → k ≤ j → get_or left j [] ≡ get_or rows j []
  pub getters : (j : ℕ) → k ≤ j → get_or kept j [] ≡ get_or lists j []
  pub row_count : length left ≡ length rows
  pub list_count : length kept ≡ length lists

pub taking-more : (k : ℕ) (made : List PortView) (rows left : List (List Outlet)) (lists kept : List (List Inlet)) → IsTaking k made rows left lists kept
    → IsTaking (k + 1) (made ++ port_at left kept k ∷ []) rows (set left k []) lists (set kept k [])
taking-more k made rows left lists kept is =
    record {
      ports = record { number = omega (arith, is.ports.number, length-append made (port_at left kept k ∷ [])); port = λ j d less. port j d less (cases_eq j k) };
      putters = λ j more. get_or-set_other left k j [] [] (λ e. absurd (omega (arith, more, e))) ∙ is.putters j (omega (arith, more));
      getters = λ j more. get_or-set_other kept k j [] [] (λ e. absurd (omega (arith, more, e))) ∙ is.getters j (omega (arith, more));
      row_count = length-set left k [] ∙ is.row_count;
      list_count = length-set kept k [] ∙ is.list_count;
    }
  where
    port : (j : ℕ) (d : PortView) → j < k + 1 → (j ≡ k) ⊎ (j ≢ k) → get_or (made ++ port_at left kept k ∷ []) j d ≡ port_at rows lists j
    port j d less (inl same) =
        get_or_push made (port_at left kept k) d j (is.ports.number ∙ sym same)
        ∙ (λ i. record { kernel = k; out = is.putters k (omega arith) i; into = is.getters k (omega arith) i })
        ∙ ap (port_at rows lists) (sym same)
    port j d less (inr other) = get_or_append_left made (port_at left kept k ∷ []) d j (omega (arith, less, other, is.ports.number)) ∙ is.ports.port j d (omega (arith, less, other))

pub taking-same : (k : ℕ) (rows : List (List Outlet)) (lists : List (List Inlet)) {made made' : List PortView} → made ≡ made' → {left left' : List (List Outlet)} → left ≡ left'
    → {kept kept' : List (List Inlet)} → kept ≡ kept' → IsTaking k made' rows left' lists kept' → IsTaking k made rows left lists kept
taking-same k rows lists {made} {made'} a {left} {left'} b {kept} {kept'} c is =
    subst (λ m. IsTaking k m rows left lists kept) (sym a) (subst (λ l. IsTaking k made' rows l lists kept) (sym b) (subst (λ l. IsTaking k made' rows left' lists l) (sym c) is))
