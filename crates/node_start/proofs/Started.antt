-- The nodes of a setting are started, one after the other.
use Rattle.std.proofs.Common.{◌≡◌, ℕ, zero, suc, ◌<◌, ◌≤◌, ◌+◌, arith, false, List, [], ◌∷◌, ◌++◌, Some, None, length, map, get_or, All, refl, ap, sym, subst, ◌∙◌, append_assoc, append-nil, length-append, replicate}
use Rattle.std.specs.Prelude.{slice_get}
use Rattle.std.proofs.Math.Seq.{get_or-append_seam}
use Rattle.std.proofs.lemmas.List.{length-map, map-append, nil_from_length}
use Rattle.std.proofs.lemmas.List.Elements.{All-append, All-cons, All-from_get_or, All-get_or, All-head, All-nil, All-tail}
use Rattle.std.proofs.lemmas.Option.{get_or_from_slice_get, slice_get-get_or, slice_get_within}
use Rattle.charlotte_calls.specs.Setting.{IsValid}
use Rattle.charlotte_calls.specs.declared.names.Pid.{Pid}
use Rattle.charlotte_calls.specs.declared.setting.Setting.{Setting}
use Rattle.kernel_entries.specs.declared.entry.Entry.{Entry}
use Rattle.kernel_net.specs.Ports.{IsFresh, IsNet, Place, PortView, kernels_of, place_of}
use Rattle.kernel_core.specs.State.{state_of}
use Rattle.kernel_step.specs.Start.{home, start_kernel}
use Rattle.kernel_turns.proofs.Starting.{Starts}
use Rattle.kernel_turns.specs.Courses.{marked_of}
use Rattle.kernel_turns.specs.Nodes.{Meaning}
use Rattle.kernel_turns.specs.declared.base.Orders.{Orders}
use Rattle.kernel_turns.specs.declared.node.Node.{Node}
use Rattle.program_round.specs.declared.doing.Doing.TheVariants.{Begins}
use Rattle.node_runs.proofs.Beginning.{nodes-started}
use Rattle.node_runs.specs.Net.{AreNodes, places_of}
use Rattle.node_start.proofs.Placed.{AreApart, IsOf, on-apart, on-at, on-few}
use Rattle.node_start.specs.Homes.{programs_on}
use Rattle.node_start.specs.New.{IsNew}

-- an element is put behind others
at-behind : {X : Type 0} (xs : List X) (y x : X) (k : ℕ) → slice_get (xs ++ y ∷ []) k ≡ Some x → (Q : Type 0) → (slice_get xs k ≡ Some x → Q) → (k ≡ length xs → x ≡ y → Q) → Q
at-behind [] y x zero at Q before last = last refl (let both : Some y ≡ Some x = at in sym cc)
at-behind [] y x (suc k) at Q before last = absurd (let none : None ≡ Some x = at in cc)
at-behind (z ∷ xs) y x zero at Q before last = before at
at-behind (z ∷ xs) y x (suc k) at Q before last = at-behind xs y x k at Q before (λ is same. last (ap suc is) same)

all-from : {X : Type 0} (R : X → Type 0) (xs : List X) → ((i : ℕ) (x : X) → slice_get xs i ≡ Some x → R x) → All R xs
all-from R [] f = All-nil R
all-from R (x ∷ xs) f = All-cons R x xs (f 0 x refl) (all-from R xs (λ i y at. f (suc i) y at))

-- what is left behind one more
one-more : {X : Type 0} (before : List X) (x : X) (others all : List X) → before ++ x ∷ others ≡ all → (before ++ x ∷ []) ++ others ≡ all
one-more before x others all is = append_assoc before (x ∷ []) others ∙ is

module _ {P S W : Type 0} (m : Meaning P S) (HasSeen : W → List Entry → Type 0) (s : Setting) (programs : List P) (capacity : ℕ) (net : List Place) (parts : List (Orders × W)) (lists : List (List (Pid × P))) where
  -- what is true from the beginning
  pub record MayStart : Type 0 where
    pub valid : IsValid s
    pub count : length programs ≡ length s.homes
    pub fresh : All (λ p. (m.last p ≡ None) × (m.version p ≤ s.version)) programs
    pub net_is : IsNet net
    pub kernels : length net ≡ s.kernels
    pub room : 0 < capacity
    pub lists_are : length lists ≡ s.kernels
    pub each : (k : ℕ) → k < s.kernels → get_or lists k [] ≡ programs_on s programs k
    pub parts_are : length parts ≡ s.kernels

  abbrev pub part_of : Node P W → Orders × W
  part_of n = (n.base.orders, n.watch)

  abbrev pub IsPart : Orders × W → Type 0
  IsPart part = (part.0.limit ≤ 100000) × HasSeen part.1 []

  -- so many nodes are started, of these lists, ports and parts the first ones
  pub record AreStarted (number : ℕ) (ns : List (Node P W)) (own : List (List (Pid × P))) (ports : List PortView) (others : List (Orders × W)) : Type 0 where
    pub may : MayStart
    pub count : length ns ≡ number
    pub each : (k : ℕ) (n : Node P W) → slice_get ns k ≡ Some n → (starts : Starts m HasSeen s k (programs_on s programs k) n) × (0 < starts.base.capacity)
    pub before : List (List (Pid × P))
    pub own_are : before ++ own ≡ lists
    pub own_count : length before ≡ number
    pub places : places_of ns ++ map place_of ports ≡ net
    pub fresh : All (IsFresh capacity) ports
    pub told : map part_of ns ++ others ≡ parts
    pub orders : All IsPart others
    pub unspoiled : All (λ (n : Node P W). n.spoiled ≡ false) ns

  pub counts : (number : ℕ) (ns : List (Node P W)) (own : List (List (Pid × P))) (ports : List PortView) (others : List (Orders × W)) → AreStarted number ns own ports others
      → (number + length own ≡ s.kernels) × (number + length ports ≡ s.kernels) × (number + length others ≡ s.kernels)
  counts number ns own ports others are =
      let few : length (places_of ns) ≡ length ns = length-map ns (λ (n : Node P W). place_of n.base.port) in
      let short : length (map place_of ports) ≡ length ports = length-map ports place_of in
      let told : length (map part_of ns) ≡ length ns = length-map ns part_of in (
        omega (arith, are.own_count, length-append are.before own, ap length are.own_are, are.may.lists_are),
        omega (arith, are.count, length-append (places_of ns) (map place_of ports), ap length are.places, are.may.kernels, few, short),
        omega (arith, are.count, length-append (map part_of ns) others, ap length are.told, are.may.parts_are, told),
      )

  -- the programs on a kernel are as a node needs them
  at-home : MayStart → (k i : ℕ) (x : Pid × P) → slice_get (programs_on s programs k) i ≡ Some x → (x.0.0 < length s.homes) × (home s x.0 ≡ k) × (m.version x.1 ≤ s.version) × (m.last x.1 ≡ None)
  at-home may k i x at =
      let of = on-at k 0 s.homes programs i x at in
      let fresh = All-get_or (λ p. (m.last p ≡ None) × (m.version p ≤ s.version)) programs of.place x.1 (slice_get_within programs of.place x.1 of.program) may.fresh in
      let is : get_or programs of.place x.1 ≡ x.1 = get_or_from_slice_get programs of.place x.1 x.1 of.program in (
        omega (arith, of.below, of.number),
        ap (λ j. get_or s.homes j 0) (of.number ∙ omega arith) ∙ of.home,
        subst (λ p. m.version p ≤ s.version) is fresh.1,
        subst (λ p. m.last p ≡ None) is fresh.0,
      )

  -- at the beginning none is
  pub started-none : MayStart → (ns : List (Node P W)) → ns ≡ [] → (ports : List PortView) → map place_of ports ≡ net → All (IsFresh capacity) ports → (others : List (Orders × W)) → others ≡ parts → All IsPart parts
      → AreStarted 0 ns lists ports others
  started-none may ns none ports places fresh others told orders =
      record {
        may = may;
        count = ap length none;
        each = λ k n at. absurd (let nothing : None ≡ Some n = sym (ap (λ (xs : List (Node P W)). slice_get xs k) none) ∙ at in cc);
        before = [];
        own_are = refl;
        own_count = refl;
        places = ap (λ (xs : List (Node P W)). places_of xs ++ map place_of ports) none ∙ places;
        fresh = fresh;
        told = ap (λ (xs : List (Node P W)). map part_of xs ++ others) none ∙ told;
        orders = subst (All IsPart) (sym told) orders;
        unspoiled = subst (All (λ (n : Node P W). n.spoiled ≡ false)) (sym none) (All-nil (λ (n : Node P W). n.spoiled ≡ false));
      }

  -- of each list there is one more
  started-next : (number : ℕ) (ns : List (Node P W)) (own : List (List (Pid × P))) (ports : List PortView) (others : List (Orders × W)) → AreStarted number ns own ports others
      → (o : List (Pid × P)) (os : List (List (Pid × P))) (p : PortView) (ps : List PortView) (x : Orders × W) (xs : List (Orders × W)) → own ≡ o ∷ os → ports ≡ p ∷ ps → others ≡ x ∷ xs
      → AreStarted number ns (o ∷ os) (p ∷ ps) (x ∷ xs)
  started-next number ns own ports others are o os p ps x xs first second third =
      subst (λ (a : List (List (Pid × P))). AreStarted number ns a (p ∷ ps) (x ∷ xs)) first
      (subst (λ (b : List PortView). AreStarted number ns own b (x ∷ xs)) second (subst (λ (c : List (Orders × W)). AreStarted number ns own ports c) third are))

  module _ (number : ℕ) (ns : List (Node P W)) (own : List (Pid × P)) (owns : List (List (Pid × P))) (port : PortView) (ports : List PortView) (part : Orders × W) (others : List (Orders × W))
      (are : AreStarted number ns (own ∷ owns) (port ∷ ports) (part ∷ others)) where
    pub below : number < s.kernels
    below = let is = counts number ns (own ∷ owns) (port ∷ ports) (part ∷ others) are in omega (arith, is.0)

    pub own-is : own ≡ programs_on s programs number
    own-is =
        sym (get_or-append_seam are.before own owns []) ∙ ap (λ (ls : List (List (Pid × P))). get_or ls (length are.before) []) are.own_are
        ∙ ap (λ i. get_or lists i []) are.own_count ∙ are.may.each number below

    own-few : length own ≤ 64
    own-few = omega (arith, ap length own-is, on-few number 0 s.homes programs, are.may.valid.limits.processes)

    place-at : (d : Place) → get_or net number d ≡ place_of port
    place-at d =
        ap (λ (ls : List Place). get_or ls number d) (sym are.places)
        ∙ ap (λ i. get_or (places_of ns ++ place_of port ∷ map place_of ports) i d) (sym are.count ∙ sym (length-map ns (λ (n : Node P W). place_of n.base.port)))
        ∙ get_or-append_seam (places_of ns) (place_of port) (map place_of ports) d

    there : number < length net
    there = omega (arith, below, are.may.kernels)

    module _ (n : Node P W) (new : IsNew s number own port part n) where
      node-starts : (starts : Starts m HasSeen s number (programs_on s programs number) n) × (0 < starts.base.capacity)
      node-starts = (
        record {
          base = record {
            kernel = new.state;
            processes = new.processes;
            kernels = new.kernels;
            entries = new.entries;
            capacity = capacity;
            port = subst (IsFresh capacity) (sym new.port_is) (All-head (IsFresh capacity) port ports are.fresh);
            number = ap (λ (p : PortView). p.kernel) new.port_is ∙ ap (λ (p : Place). p.kernel) (sym (place-at (place_of port))) ∙ are.may.net_is.numbers number (place_of port) there;
            net = ap (λ (p : PortView). kernels_of (place_of p)) new.port_is
                ∙ ap kernels_of (sym (place-at (place_of port)))
                ∙ All-get_or (λ p. kernels_of p ≡ length net) net number (place_of port) there are.may.net_is.kernels
                ∙ are.may.kernels;
            unsent = new.unsent;
            waiting = new.waiting;
            begun = new.begun;
            marked = new.marked;
            marks = new.marks;
            used = new.used;
          };
          programs = new.programs_are ∙ own-is;
          doing = new.doing;
          few = subst (λ (xs : List (Pid × P)). length xs ≤ 64) own-is own-few;
          homes = all-from (λ (x : Pid × P). (x.0.0 < length s.homes) × (home s x.0 ≡ number) × (m.version x.1 ≤ s.version)) (programs_on s programs number)
              (λ i x at. let is = at-home are.may number i x at in (is.0, is.1, is.2));
          apart = on-apart number 0 s.homes programs;
          last = all-from (λ (x : Pid × P). m.last x.1 ≡ None) (programs_on s programs number) (λ i x at. (at-home are.may number i x at).3);
          seen = subst (λ (w : W). HasSeen w []) (sym new.watch) (All-head IsPart part others are.orders).1;
          most = subst (λ (o : Orders). o.limit ≤ 100000) (sym new.orders) (All-head IsPart part others are.orders).0;
        },
        are.may.room,
      )

      started-more : AreStarted (number + 1) (ns ++ n ∷ []) owns ports others
      started-more =
          record {
            may = are.may;
            count = omega (arith, are.count, length-append ns (n ∷ []));
            each = λ k x at. at-behind ns n x k at _ (λ before. are.each k x before) (λ last same. one k x (last ∙ are.count) same);
            before = are.before ++ own ∷ [];
            own_are = one-more are.before own owns lists are.own_are;
            own_count = omega (arith, are.own_count, length-append are.before (own ∷ []));
            places = ap (λ (ps : List Place). ps ++ map place_of ports) (map-append (λ (n : Node P W). place_of n.base.port) ns (n ∷ []) ∙ ap (λ (p : PortView). places_of ns ++ place_of p ∷ []) new.port_is)
                ∙ one-more (places_of ns) (place_of port) (map place_of ports) net are.places;
            fresh = All-tail (IsFresh capacity) port ports are.fresh;
            told = ap (λ (ps : List (Orders × W)). ps ++ others)
                (map-append part_of ns (n ∷ []) ∙ (λ i. map part_of ns ++ (new.orders i, new.watch i) ∷ []))
                ∙ one-more (map part_of ns) part others parts are.told;
            orders = All-tail IsPart part others are.orders;
            unspoiled = All-append (λ (n : Node P W). n.spoiled ≡ false) ns (n ∷ []) are.unspoiled (All-cons (λ (n : Node P W). n.spoiled ≡ false) n [] new.unspoiled (All-nil _));
          }
        where
          one : (k : ℕ) (x : Node P W) → k ≡ number → x ≡ n → (starts : Starts m HasSeen s k (programs_on s programs k) x) × (0 < starts.base.capacity)
          one k x is same =
              subst (λ i. (starts : Starts m HasSeen s i (programs_on s programs i) x) × (0 < starts.base.capacity)) (sym is)
              (subst (λ (y : Node P W). (starts : Starts m HasSeen s number (programs_on s programs number) y) × (0 < starts.base.capacity)) (sym same) node-starts)

  module _ (number : ℕ) (ns : List (Node P W)) (own : List (List (Pid × P))) (ports : List PortView) (others : List (Orders × W)) (are : AreStarted number ns own ports others)
      (o : List (Pid × P)) (os : List (List (Pid × P))) (p : PortView) (ps : List PortView) (x : Orders × W) (xs : List (Orders × W)) (first : own ≡ o ∷ os) (second : ports ≡ p ∷ ps) (third : others ≡ x ∷ xs) where
    next : AreStarted number ns (o ∷ os) (p ∷ ps) (x ∷ xs)
    next = started-next number ns own ports others are o os p ps x xs first second third

    -- the programs of the next one are few
    pub next-few : length o ≤ 64
    next-few = own-few number ns o os p ps x xs next

    -- it is started
    pub next-started : (n : Node P W) → IsNew s number o p x n → (ns' : List (Node P W)) → ns' ≡ ns ++ n ∷ [] → AreStarted (number + 1) ns' os ps xs
    next-started n new ns' is = subst (λ (all : List (Node P W)). AreStarted (number + 1) all os ps xs) (sym is) (started-more number ns o os p ps x xs next n new)

  -- where a part is left, so are a list and a port
  pub some-left : (number : ℕ) (ns : List (Node P W)) (own : List (List (Pid × P))) (ports : List PortView) (others : List (Orders × W)) → AreStarted number ns own ports others
      → (x : Orders × W) (xs : List (Orders × W)) → others ≡ x ∷ xs → (0 < length own) × (0 < length ports)
  some-left number ns own ports others are x xs is =
      let counted = counts number ns own ports others are in
      (omega (arith, counted.0, counted.2, ap length is), omega (arith, counted.1, counted.2, ap length is))

  -- where no part is left, all nodes are started
  pub all-started : (number : ℕ) (ns : List (Node P W)) (own : List (List (Pid × P))) (ports : List PortView) (others : List (Orders × W)) → AreStarted number ns own ports others → others ≡ []
      → AreNodes m HasSeen s (programs_on s programs) (λ k. []) ns × (map part_of ns ≡ parts)
  all-started number ns own ports others are none =
      let is = counts number ns own ports others are in
      let no_ports : ports ≡ [] = nil_from_length ports (omega (arith, is.1, is.2, ap length none)) in (
        nodes-started m HasSeen s (programs_on s programs) ns are.may.valid (omega (arith, are.count, is.2, ap length none))
            (subst IsNet (sym (sym (append-nil (places_of ns)) ∙ ap (λ (ps : List PortView). places_of ns ++ map place_of ps) (sym no_ports) ∙ are.places)) are.may.net_is) are.each,
        sym (append-nil (map part_of ns)) ∙ ap (λ xs. map part_of ns ++ xs) (sym none) ∙ are.told,
      )
