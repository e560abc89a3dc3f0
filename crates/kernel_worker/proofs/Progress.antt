-- Rounds make progress, and what they leave is what nodes that run together are.
use Rattle.std.proofs.Common.{◌≡◌, ◌≢◌, ◌⊎◌, inl, inr, ℕ, zero, suc, ◌+◌, ◌<◌, ◌≤◌, false, true, nat_le, List, [], ◌∷◌, ◌++◌, All, Some, None, length, refl, ap, sym, subst, ◌∙◌, arith}
use Rattle.std.specs.Prelude.{slice_get, slice_index_or}
use Rattle.std.proofs.lemmas.Bool.Decides.{leb_tells}
use Rattle.std.proofs.lemmas.List.Elements.{All-cons, All-head, All-nil, All-tail}
use Rattle.std.proofs.lemmas.List.{length-map}
use Rattle.std.proofs.lemmas.Option.{slice_get_within}
use Rattle.charlotte_calls.specs.declared.names.Pid.{Pid}
use Rattle.charlotte_calls.specs.declared.setting.Setting.{Setting}
use Rattle.kernel_entries.specs.declared.entry.Entry.{Entry}
use Rattle.kernel_net.specs.Ports.{AreAllThere, AreOfOneNet, IsJoined, IsNet, Place, kernels_of, place_of, places_to, room_to, there_of}
use Rattle.kernel_outbox.specs.Letters.{outbox_to}
use Rattle.kernel_turns.proofs.Goes.{goes-some}
use Rattle.kernel_turns.specs.Amid.{IsSomeNode}
use Rattle.kernel_turns.specs.Goes.{StandsStill}
use Rattle.kernel_turns.specs.Nodes.{HasSent, IsNode, Meaning}
use Rattle.kernel_turns.specs.declared.node.Node.{Node}
use Rattle.kernel_turns.specs.Local.{LocalEvent}
use Rattle.node_runs.proofs.Fitting.{At, Here, Past, at-map, at-of, nodes-are_lawful, nodes-are_one_run, outbox-none}
use Rattle.node_runs.proofs.Stamps.{nodes-early}
use Rattle.node_runs.specs.Net.{AreNodes, AreUnspoiled, HaveMet, places_of}
use Rattle.kernel_worker.proofs.Each.{all-at, all-from, each-all, each-at, each-both, each-length, each-same, each-weaker}
use Rattle.kernel_worker.proofs.Going.{on-both, on-learned, on-none, weight-learned, works-then}
use Rattle.kernel_worker.specs.Ends.{AreSomeNodes, GoesFurther, IsNetEmpty, IsQuiet, RanTogether, RunTogether}
use Rattle.kernel_worker.specs.Rounds.{EachOf, GoesOn, IsNumberOf, IsStopped, Learns, MayMeet, MayMeetEach, Works, WorksUnspoiled, all_left}

-- ---- what is left

module _ {P W : Type 0} where
  pub left-less : (xs ys : List (Node P W)) → EachOf Works xs ys → all_left ys ≤ all_left xs
  left-less [] [] each = omega arith
  left-less [] (y ∷ ys) each = absurd each
  left-less (x ∷ xs) [] each = absurd each
  left-less (x ∷ xs) (y ∷ ys) each = let rest : all_left ys ≤ all_left xs = left-less xs ys each.1 in omega (arith, each.0.less, rest)

  -- they did not change yet, or worked already
  pub works-joined : (first now after : List (Node P W)) → (now ≡ first) ⊎ EachOf Works first now → EachOf Works now after → EachOf Works first after
  works-joined first now after (inl same) each = subst (λ (ns : List (Node P W)). EachOf Works ns after) same each
  works-joined first now after (inr before) each = each-both Works Works Works works-then first now after before each

  -- where no less is left, each could do nothing
  left-same : (xs ys : List (Node P W)) → EachOf Works xs ys → all_left ys ≡ all_left xs → (k : ℕ) (x : Node P W) → slice_get xs k ≡ Some x → StandsStill x ⊎ IsStopped x
  left-same [] ys each same k x at = let no : None ≡ Some x = at in absurd cc
  left-same (z ∷ zs) [] each same k x at = absurd each
  left-same (z ∷ zs) (y ∷ ys) each same zero x at =
      let rest : all_left ys ≤ all_left zs = left-less zs ys each.1 in
      let is : Some z ≡ Some x = at in
      let here : z ≡ x = cc in
      subst (λ (n : Node P W). StandsStill n ⊎ IsStopped n) here (each.0.still (omega (arith, each.0.less, rest, same)))
  left-same (z ∷ zs) (y ∷ ys) each same (suc k) x at =
      let rest : all_left ys ≤ all_left zs = left-less zs ys each.1 in
      left-same zs ys each.1 (omega (arith, each.0.less, rest, same)) k x at

  pub left-learned : (A : ℕ → Type 0) (xs ys : List (Node P W)) → EachOf (Learns A) xs ys → all_left ys ≡ all_left xs
  left-learned A [] [] each = refl
  left-learned A [] (y ∷ ys) each = absurd each
  left-learned A (x ∷ xs) [] each = absurd each
  left-learned A (x ∷ xs) (y ∷ ys) each = let rest : all_left ys ≡ all_left xs = left-learned A xs ys each.1 in omega (arith, weight-learned A x y each.0, rest)

  pub unspoiled-learned : (A : ℕ → Type 0) (xs ys : List (Node P W)) → EachOf (Learns A) xs ys → AreUnspoiled xs → AreUnspoiled ys
  unspoiled-learned A xs ys each whole =
      each-all (Learns A) (λ n. n.spoiled ≡ false) (λ n. n.spoiled ≡ false) (λ x y is learns. ap (λ (n : Node P W). n.spoiled) learns.rest ∙ is) xs ys whole each

  pub unspoiled-works : (xs ys : List (Node P W)) → EachOf Works xs ys → AreUnspoiled ys
  unspoiled-works [] [] each = All-nil (λ (n : Node P W). n.spoiled ≡ false)
  unspoiled-works [] (y ∷ ys) each = absurd each
  unspoiled-works (x ∷ xs) [] each = absurd each
  unspoiled-works (x ∷ xs) (y ∷ ys) each = All-cons (λ (n : Node P W). n.spoiled ≡ false) y ys each.0.unspoiled (unspoiled-works xs ys each.1)

  pub all-work : (xs ys : List (Node P W)) → AreUnspoiled ys → EachOf WorksUnspoiled xs ys → EachOf Works xs ys
  all-work [] [] whole each = tt
  all-work [] (y ∷ ys) whole each = absurd each
  all-work (x ∷ xs) [] whole each = absurd each
  all-work (x ∷ xs) (y ∷ ys) whole each = (each.0 (All-head (λ (n : Node P W). n.spoiled ≡ false) y ys whole), all-work xs ys (All-tail (λ (n : Node P W). n.spoiled ≡ false) y ys whole) each.1)

-- ---- nodes of one net

none-of : {X : Type 0} (xs : List X) → (0 < length xs → ⊥) → xs ≡ []
none-of [] never = refl
none-of (x ∷ xs) never = absurd (never (omega arith))

module _ {P S W : Type 0} (m : Meaning P S) (HasSeen : W → List Entry → Type 0) where
  module _ (s : Setting) (first : ℕ → List (Pid × P)) (made : ℕ → List LocalEvent) (ns : List (Node P W)) (nodes : AreNodes m HasSeen s first made ns) where
    sent-at : AreUnspoiled ns → (k : ℕ) (n : Node P W) → slice_get ns k ≡ Some n → HasSent s k (made k) n.base
    sent-at whole k n at = (nodes.each k n at).sent (all-at (λ n. n.spoiled ≡ false) ns k n whole at)

    place-at : (k : ℕ) (n : Node P W) (d : Place) → slice_get ns k ≡ Some n → slice_index_or (places_of ns) k d ≡ place_of n.base.port
    place-at k n d at = at-map (λ (n : Node P W). place_of n.base.port) ns k n d at

    places-length : length (places_of ns) ≡ length ns
    places-length = length-map ns (λ (n : Node P W). place_of n.base.port)

    -- each has the number of its place, and two are of one net
    number-at : (k : ℕ) (n : Node P W) → slice_get ns k ≡ Some n → n.base.port.kernel ≡ k
    number-at k n at =
        let below : k < length ns = slice_get_within ns k n at in
        let d : Place = place_of n.base.port in
        ap (λ (p : Place). p.kernel) (sym (place-at k n d at)) ∙ nodes.net.numbers k d (omega (arith, below, places-length))

    joined-at : (j k : ℕ) (a b : Node P W) → slice_get ns j ≡ Some a → slice_get ns k ≡ Some b → AreOfOneNet (place_of a.base.port) (place_of b.base.port)
    joined-at j k a b at_a at_b = (one j k a b at_a at_b, one k j b a at_b at_a)
      where
        one : (j k : ℕ) (a b : Node P W) → slice_get ns j ≡ Some a → slice_get ns k ≡ Some b → IsJoined (place_of a.base.port) (place_of b.base.port)
        one j k a b at_a at_b =
            let below : j < length ns = slice_get_within ns j a at_a in
            let there : k < length ns = slice_get_within ns k b at_b in
            let d : Place = place_of a.base.port in
            subst (λ (p : Place). IsJoined p (place_of b.base.port)) (place-at j a d at_a)
            (subst (λ (p : Place). IsJoined (slice_index_or (places_of ns) j d) p) (place-at k b d at_b) (nodes.net.joined j k d (omega (arith, below, places-length)) (omega (arith, there, places-length))))

    -- ---- where nothing can be done it is quiet

    module _ (whole : AreUnspoiled ns) (met : HaveMet ns) (stands : (k : ℕ) (n : Node P W) → slice_get ns k ≡ Some n → StandsStill n) where
      nothing-there : IsNetEmpty ns
      nothing-there j k a b at_a at_b = (stands k b at_b).silent a.base.port.kernel

      rest-letters : (k : ℕ) (n : Node P W) → slice_get ns k ≡ Some n → (to : ℕ) → outbox_to n.base.outbox to ≡ []
      rest-letters k n at to = by (at-of ns to)
        where
          by : At ns to → outbox_to n.base.outbox to ≡ []
          by (Here b at_b below) =
              none-of (outbox_to n.base.outbox to)
              (λ some.
              let full : places_to n.base.port to ≡ 0 = (stands k n at).full to some in
              let room : 0 < room_to (place_of n.base.port) to = nodes.room k to n at (omega (arith, below, nodes.count)) in
              let is : b.base.port.kernel ≡ to = number-at to b at_b in
              let there : AreAllThere n.base.port b.base.port = met k to n b at at_b in
              let less : room_to (place_of n.base.port) to ≤ places_to n.base.port to + length (there_of n.base.port b.base.port)
              = subst (λ i. room_to (place_of n.base.port) i ≤ places_to n.base.port i + length (there_of n.base.port b.base.port)) is there.room in
              omega (arith, full, room, less, ap length (nothing-there k to n b at at_b)))
          by (Past past) =
              let sent : HasSent s k (made k) n.base = sent-at whole k n at in
              outbox-none n.base.outbox (kernels_of (place_of n.base.port)) to (omega (arith, past, nodes.count, sent.kernels)) sent.fits.lists sent.fits.within

      pub still-quiet : IsQuiet ns
      still-quiet = record { net = nothing-there; rest = λ k n at. record { letters = rest-letters k n at; programs = (stands k n at).programs } }

    -- a round that goes further leaves less to do
    pub further-less : (after : List (Node P W)) → AreUnspoiled ns → HaveMet ns → GoesFurther ns → EachOf Works ns after → all_left after < all_left ns
    further-less after whole met further each = by (leb_tells (all_left ns) (all_left after))
      where
        stands : all_left after ≡ all_left ns → (k : ℕ) (n : Node P W) → slice_get ns k ≡ Some n → StandsStill n
        stands same k n at = one (left-same ns after each same k n at)
          where
            one : StandsStill n ⊎ IsStopped n → StandsStill n
            one (inl still) = still
            one (inr (inl late)) = let early : n.base.kernel.stamp ≤ 800000 = nodes-early m HasSeen s first made ns nodes whole met k n at in absurd (omega (arith, late, early))
            one (inr (inr spent)) = absurd (further.unspent k n at spent)

        by : ((nat_le (all_left ns) (all_left after) ≡ true) × (all_left ns ≤ all_left after)) ⊎ ((nat_le (all_left ns) (all_left after) ≡ false) × (all_left after < all_left ns)) → all_left after < all_left ns
        by (inl e) =
            let less : all_left after ≤ all_left ns = left-less ns after each in
            absurd (further.not_quiet (still-quiet whole met (stands (omega (arith, less, e.1)))))
        by (inr e) = e.1

  -- ---- nodes that go on

  module _ {V : Type 0} (made_with : W → V) where
    abbrev AllGo : List (Node P W) → List (Node P W) → Type 0
    AllGo = EachOf (GoesOn m HasSeen made_with)

    pub all-both : (xs ys zs : List (Node P W)) → AllGo xs ys → AllGo ys zs → AllGo xs zs
    all-both xs ys zs one two = each-both (GoesOn m HasSeen made_with) (GoesOn m HasSeen made_with) (GoesOn m HasSeen made_with) (on-both m HasSeen made_with) xs ys zs one two

    pub all-learned : (A : ℕ → Type 0) (xs ys : List (Node P W)) → EachOf (Learns A) xs ys → AllGo xs ys
    all-learned A xs ys each = each-weaker (Learns A) (GoesOn m HasSeen made_with) (on-learned m HasSeen made_with A) xs ys each

    places-go : (xs ys : List (Node P W)) → AllGo xs ys → places_of ys ≡ places_of xs
    places-go [] [] each = refl
    places-go [] (y ∷ ys) each = absurd each
    places-go (x ∷ xs) [] each = absurd each
    places-go (x ∷ xs) (y ∷ ys) each = let rest : places_of ys ≡ places_of xs = places-go xs ys each.1 in let here : place_of y.base.port ≡ place_of x.base.port = each.0.goes.place in cc

    module _ (s : Setting) (first : ℕ → List (Pid × P)) (made : ℕ → List LocalEvent) (old new : List (Node P W)) (nodes : AreNodes m HasSeen s first made old) (each : AllGo old new) where
      -- what the node of a kernel made besides, if there is one
      record MadeMore (k : ℕ) : Type 0 where
        more : List LocalEvent
        node : (n : Node P W) → slice_get new k ≡ Some n → IsNode m HasSeen s k (first k) (made k ++ more) n
        none : length new ≤ k → more ≡ []

      count : length new ≡ length old
      count = each-length (GoesOn m HasSeen made_with) old new each

      from-old : (k : ℕ) (n : Node P W) → slice_get new k ≡ Some n → (x : Node P W) × (slice_get old k ≡ Some x) × GoesOn m HasSeen made_with x n
      from-old k n at = each-at (GoesOn m HasSeen made_with) old new k n each at

      made-more : (k : ℕ) → MadeMore k
      made-more k = by (at-of new k)
        where
          by : At new k → MadeMore k
          by (Here y at below) =
              let x = from-old k y at in
              let on = x.2.goes.node s k (first k) (made k) nodes.valid (nodes.each k x.0 x.1) in
              record {
                more = on.0;
                node = λ n at_n. let is : Some y ≡ Some n = sym at ∙ at_n in let same : y ≡ n = cc in subst (IsNode m HasSeen s k (first k) (made k ++ on.0)) same on.1;
                none = λ past. absurd (omega (arith, below, past));
              }
          by (Past past) = record { more = []; node = λ n at. let below : k < length new = slice_get_within new k n at in absurd (omega (arith, below, past)); none = λ e. refl }

      pub made_more : ℕ → List LocalEvent
      made_more k = (made-more k).more

      pub nodes-go : AreNodes m HasSeen s first (λ k. made k ++ made_more k) new
      unfolding made_more
      nodes-go =
          record {
            valid = nodes.valid;
            count = count ∙ nodes.count;
            each = λ k n at. (made-more k).node n at;
            none = λ k far. ap (λ es. es ++ made_more k) (nodes.none k far) ∙ (made-more k).none (omega (arith, far, count, nodes.count));
            few = λ k n at. let x = from-old k n at in let few : length x.0.base.journal.entries ≤ x.0.base.used = nodes.few k x.0 x.1 in omega (arith, few, x.2.few);
            net = subst IsNet (sym (places-go old new each)) nodes.net;
            room = λ k to n at below. let x = from-old k n at in subst (λ (p : Place). 0 < room_to p to) (sym x.2.goes.place) (nodes.room k to x.0 x.1 below);
          }

      pub ran-together : AreUnspoiled new → HaveMet new → RanTogether m HasSeen s first made new
      ran-together whole met =
          record {
            more = made_more;
            nodes = nodes-go;
            one = nodes-are_one_run m HasSeen s first (λ k. made k ++ made_more k) new nodes-go whole met;
            lawful = nodes-are_lawful m HasSeen s first (λ k. made k ++ made_more k) new nodes-go whole met;
          }

    pub run-together : (old new : List (Node P W)) → AllGo old new → AreUnspoiled new → HaveMet new → RunTogether m HasSeen old new
    run-together old new each whole met s first made nodes = ran-together s first made old new nodes each whole met

    pub some-go : (old new : List (Node P W)) → AreSomeNodes m HasSeen old → AllGo old new → AreUnspoiled new → AreSomeNodes m HasSeen new
    some-go old new some each whole =
        record {
          setting = some.setting;
          first = some.first;
          made = λ k. some.made k ++ made_more some.setting some.first some.made old new some.nodes each k;
          nodes = nodes-go some.setting some.first some.made old new some.nodes each;
          unspoiled = whole;
        }

  -- ---- nodes of some setting

  pub some-each : (ns : List (Node P W)) → AreSomeNodes m HasSeen ns → All (IsSomeNode m HasSeen) ns
  some-each ns some =
      all-from (IsSomeNode m HasSeen) ns
      (λ k n at. record { setting = some.setting; kernel = k; first = some.first k; made = some.made k; valid = some.nodes.valid; node = some.nodes.each k n at })

  pub some-few : (ns : List (Node P W)) → AreSomeNodes m HasSeen ns → length ns ≤ 8
  some-few ns some = let few : some.setting.kernels ≤ 8 = some.nodes.valid.limits.kernels in omega (arith, few, some.nodes.count)

  apart-from : (n : Node P W) (os : List (Node P W)) → ((k : ℕ) (o : Node P W) → slice_get os k ≡ Some o → n.base.port.kernel ≢ o.base.port.kernel) → IsNumberOf os n.base.port.kernel → ⊥
  apart-from n [] apart is = is
  apart-from n (o ∷ os) apart (inl same) = apart zero o refl same
  apart-from n (o ∷ os) apart (inr is) = apart-from n os (λ k x at. apart (suc k) x at) is

  each-may : (n : Node P W) (os : List (Node P W)) → ((k : ℕ) (o : Node P W) → slice_get os k ≡ Some o → AreOfOneNet (place_of n.base.port) (place_of o.base.port)) → MayMeetEach n os
  each-may n [] joined = tt
  each-may n (o ∷ os) joined = (joined zero o refl, each-may n os (λ k x at. joined (suc k) x at))

  may-of : (ns : List (Node P W)) → ((j k : ℕ) (a b : Node P W) → slice_get ns j ≡ Some a → slice_get ns k ≡ Some b → AreOfOneNet (place_of a.base.port) (place_of b.base.port))
      → ((j k : ℕ) (a b : Node P W) → slice_get ns j ≡ Some a → slice_get ns k ≡ Some b → j ≢ k → a.base.port.kernel ≢ b.base.port.kernel) → MayMeet ns
  may-of [] joined apart = tt
  may-of (n ∷ ns) joined apart = (
    each-may n ns (λ k o at. joined zero (suc k) n o refl at),
    apart-from n ns (λ k o at. apart zero (suc k) n o refl at (λ e. omega (arith, e))),
    may-of ns (λ j k a b at_a at_b. joined (suc j) (suc k) a b at_a at_b) (λ j k a b at_a at_b other. apart (suc j) (suc k) a b at_a at_b (λ e. other (omega (arith, e)))),
  )

  pub some-may : (ns : List (Node P W)) → AreSomeNodes m HasSeen ns → MayMeet ns
  some-may ns some =
      may-of ns (joined-at some.setting some.first some.made ns some.nodes)
      (λ j k a b at_a at_b other same.
      other (sym (number-at some.setting some.first some.made ns some.nodes j a at_a) ∙ same ∙ number-at some.setting some.first some.made ns some.nodes k b at_b))

  pub some-less : (ns after : List (Node P W)) → AreSomeNodes m HasSeen ns → HaveMet ns → GoesFurther ns → EachOf Works ns after → all_left after < all_left ns
  some-less ns after some met further each = further-less some.setting some.first some.made ns some.nodes after some.unspoiled met further each

  -- ---- the nodes of a loop of rounds, each of which begins where nodes meet

  module _ {V : Type 0} (made_with : W → V) where
    pub some-worked : (old new : List (Node P W)) → AreSomeNodes m HasSeen old → AllGo made_with old new → EachOf Works old new → AreSomeNodes m HasSeen new
    some-worked old new some each works = some-go made_with old new some each (unspoiled-works old new works)

    pub some-learned : (A : ℕ → Type 0) (ns met : List (Node P W)) → AreSomeNodes m HasSeen ns → EachOf (Learns A) ns met → AreSomeNodes m HasSeen met
    some-learned A ns met some each = some-go made_with ns met some (all-learned made_with A ns met each) (unspoiled-learned A ns met each some.unspoiled)

    pub go-learned : (A : ℕ → Type 0) (old ns met : List (Node P W)) → AllGo made_with old ns → EachOf (Learns A) ns met → AllGo made_with old met
    go-learned A old ns met go each = all-both made_with old ns met go (all-learned made_with A ns met each)

    pub round-less : (A : ℕ → Type 0) (ns met after : List (Node P W)) → AreSomeNodes m HasSeen ns → EachOf (Learns A) ns met → HaveMet met → GoesFurther met → EachOf Works met after
        → all_left after < all_left ns
    round-less A ns met after some each have further works =
        let less : all_left after < all_left met = some-less met after (some-learned A ns met some each) have further works in
        let same : all_left met ≡ all_left ns = left-learned A ns met each in
        omega arith

    pub ran-learned : (A : ℕ → Type 0) (old ns met : List (Node P W)) → AreSomeNodes m HasSeen ns → AllGo made_with old ns → EachOf (Learns A) ns met → HaveMet met → RunTogether m HasSeen old met
    ran-learned A old ns met some go each have = run-together made_with old met (go-learned A old ns met go each) (unspoiled-learned A ns met each some.unspoiled) have

    pub all-none : (xs : List (Node P W)) → AllGo made_with xs xs
    all-none xs = each-same (GoesOn m HasSeen made_with) (on-none m HasSeen made_with) xs

    pub all-some : (xs ys : List (Node P W)) → All (IsSomeNode m HasSeen) xs → AllGo made_with xs ys → All (IsSomeNode m HasSeen) ys
    all-some xs ys all each =
        each-all (GoesOn m HasSeen made_with) (IsSomeNode m HasSeen) (IsSomeNode m HasSeen) (λ x y one go. goes-some m HasSeen made_with x y go.goes one) xs ys all each
