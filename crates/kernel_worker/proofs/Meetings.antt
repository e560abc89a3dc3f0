-- Ports that meet, one pair after the other: what was found stays so.
use Rattle.std.proofs.Common.{◌≡◌, inl, inr, ℕ, zero, suc, ◌+◌, ◌≤◌, List, [], ◌∷◌, ◌++◌, All, Some, None, length, refl, ap, sym, subst, ◌∙◌, arith}
use Rattle.std.specs.Prelude.{◌↔◌, Bool, IsTrue, slice_get}
use Rattle.std.proofs.lemmas.List.Elements.{All-cons, All-head, All-tail}
use Rattle.kernel_net.specs.Ports.{AreAllThere, AreOfOneNet, HasLooked, Place, got_from, known_from, place_of, places_to, put_to, room_to, there_of}
use Rattle.kernel_net.specs.declared.letter.Letter.{Letter}
use Rattle.kernel_turns.specs.declared.node.Node.{Node}
use Rattle.node_runs.specs.Net.{HaveMet}
use Rattle.kernel_worker.proofs.Each.{all-at, all-from, each-at, each-both, each-to}
use Rattle.kernel_worker.specs.Ends.{IsNetEmpty}
use Rattle.kernel_worker.specs.Rounds.{EachOf, IsNumberOf, Learns, MayMeet, MayMeetEach}

none-in : {X : Type 0} (xs : List X) → length xs ≡ 0 → xs ≡ []
none-in [] e = refl
none-in (x ∷ xs) e = absurd (omega (arith, e))

module _ {P W : Type 0} where
  -- ---- what a port learned

  abbrev pub number_of : Node P W → ℕ
  number_of n = n.base.port.kernel

  pub learns-none : (A : ℕ → Type 0) (n : Node P W) → Learns A n n
  learns-none A n = record { rest = refl; place = refl; put = refl; got = refl; others = λ q no. (refl, refl) }

  pub learns-one : (at : ℕ) (old new : Node P W) → new ≡ record old { base = record old.base { port = new.base.port } } → place_of new.base.port ≡ place_of old.base.port
      → HasLooked at old.base.port new.base.port → Learns (λ q. q ≡ at) old new
  learns-one at old new rest place looked = record { rest = rest; place = place; put = looked.put; got = looked.got; others = λ q no. looked.others q no }

  pub learns-both : (A B C : ℕ → Type 0) (x y z : Node P W) → ((q : ℕ) → A q → C q) → ((q : ℕ) → B q → C q) → Learns A x y → Learns B y z → Learns C x z
  learns-both A B C x y z a b one two =
      record {
        rest = two.rest ∙ ap (λ (n : Node P W). record n { base = record n.base { port = z.base.port } }) one.rest;
        place = two.place ∙ one.place;
        put = two.put ∙ one.put;
        got = two.got ∙ one.got;
        others = λ q no. (
          (two.others q (λ is. no (b q is))).0 ∙ (one.others q (λ is. no (a q is))).0,
          (two.others q (λ is. no (b q is))).1 ∙ (one.others q (λ is. no (a q is))).1,
        );
      }

  number-kept : (A : ℕ → Type 0) (a a' : Node P W) → Learns A a a' → number_of a' ≡ number_of a
  number-kept A a a' learns = ap (λ (p : Place). p.kernel) learns.place

  -- what is there of another stays there
  pub there-kept : (A B : ℕ → Type 0) (a a' b b' : Node P W) → Learns A a a' → Learns B b b' → (B (number_of a) → ⊥) → there_of a'.base.port b'.base.port ≡ there_of a.base.port b.base.port
  there-kept A B a a' b b' one two apart = ap (known_from b'.base.port) (number-kept A a a' one) ∙ (two.others (number_of a) apart).1

  pub met-kept : (A B : ℕ → Type 0) (a a' b b' : Node P W) → Learns A a a' → Learns B b b' → (A (number_of b) → ⊥) → (B (number_of a) → ⊥) → AreAllThere a.base.port b.base.port
      → AreAllThere a'.base.port b'.base.port
  met-kept A B a a' b b' one two no_a no_b met =
      record {
        there = ap (λ k. got_from b'.base.port k ++ there_of a'.base.port b'.base.port) number_a
            ∙ ap (λ (f : ℕ → List Letter). f (number_of a) ++ there_of a'.base.port b'.base.port) two.got
            ∙ ap (λ ls. got_from b.base.port (number_of a) ++ ls) there
            ∙ met.there
            ∙ ap (λ (f : ℕ → List Letter). f (number_of b)) (sym one.put)
            ∙ ap (put_to a'.base.port) (sym number_b);
        room = room (ap (λ (p : Place). room_to p (number_of b')) one.place ∙ ap (room_to (place_of a.base.port)) number_b) (ap (places_to a'.base.port) number_b ∙ (one.others (number_of b) no_a).0) (ap length there) met.room;
      }
    where
      number_a : number_of a' ≡ number_of a
      number_a = number-kept A a a' one

      number_b : number_of b' ≡ number_of b
      number_b = number-kept B b b' two

      there : there_of a'.base.port b'.base.port ≡ there_of a.base.port b.base.port
      there = there-kept A B a a' b b' one two no_b

      room : {r r' p p' t t' : ℕ} → r' ≡ r → p' ≡ p → t' ≡ t → r ≤ p + t → r' ≤ p' + t'
      room {r} {r'} {p} {p'} {t} {t'} a b c less = omega (arith, a, b, c, less)

  -- ---- who may meet

  pub may-skip : (n n' o : Node P W) (os : List (Node P W)) → place_of n'.base.port ≡ place_of n.base.port → MayMeet (n ∷ o ∷ os) → MayMeet (n' ∷ os)
  may-skip n n' o os place may = (
    each os may.0.1,
    (λ is. may.1 (inr (subst (IsNumberOf os) (ap (λ (p : Place). p.kernel) place) is))),
    may.2.2,
  )
    where
      each : (xs : List (Node P W)) → MayMeetEach n xs → MayMeetEach n' xs
      each [] may = tt
      each (x ∷ xs) may = (subst (λ (p : Place). AreOfOneNet p (place_of x.base.port)) (sym place) may.0, each xs may.1)

  pub numbers-kept : (A : ℕ → Type 0) (xs ys : List (Node P W)) → EachOf (Learns A) xs ys → (q : ℕ) → IsNumberOf ys q → IsNumberOf xs q
  numbers-kept A [] [] each q is = is
  numbers-kept A [] (y ∷ ys) each q is = absurd each
  numbers-kept A (x ∷ xs) [] each q is = absurd each
  numbers-kept A (x ∷ xs) (y ∷ ys) each q (inl is) = inl (is ∙ number-kept A x y each.0)
  numbers-kept A (x ∷ xs) (y ∷ ys) each q (inr is) = inr (numbers-kept A xs ys each.1 q is)

  each-may : (A : ℕ → Type 0) (n n' : Node P W) (xs ys : List (Node P W)) → place_of n'.base.port ≡ place_of n.base.port → EachOf (Learns A) xs ys → MayMeetEach n xs → MayMeetEach n' ys
  each-may A n n' [] [] place each may = tt
  each-may A n n' [] (y ∷ ys) place each may = absurd each
  each-may A n n' (x ∷ xs) [] place each may = absurd each
  each-may A n n' (x ∷ xs) (y ∷ ys) place each may = (
    subst (λ (p : Place). AreOfOneNet p (place_of y.base.port)) (sym place) (subst (λ (p : Place). AreOfOneNet (place_of n.base.port) p) (sym each.0.place) may.0),
    each-may A n n' xs ys place each.1 may.1,
  )

  pub may-learned : (A : ℕ → Type 0) (xs ys : List (Node P W)) → EachOf (Learns A) xs ys → MayMeet xs → MayMeet ys
  may-learned A [] [] each may = tt
  may-learned A [] (y ∷ ys) each may = absurd each
  may-learned A (x ∷ xs) [] each may = absurd each
  may-learned A (x ∷ xs) (y ∷ ys) each may = (
    each-may A x y xs ys each.0.place each.1 may.0,
    (λ is. may.1 (numbers-kept A xs ys each.1 (number_of x) (subst (IsNumberOf ys) (number-kept A x y each.0) is))),
    may-learned A xs ys each.1 may.2,
  )

  number-of_one : (ns : List (Node P W)) (k : ℕ) (n : Node P W) → slice_get ns k ≡ Some n → IsNumberOf ns (number_of n)
  number-of_one [] k n at = let no : None ≡ Some n = at in absurd cc
  number-of_one (x ∷ xs) zero n at = let is : Some x ≡ Some n = at in let same : x ≡ n = cc in inl (ap number_of (sym same))
  number-of_one (x ∷ xs) (suc k) n at = inr (number-of_one xs k n at)

  -- ---- a node, which met itself and then others, which then met one another

  abbrev pub MetBoth : Node P W → Node P W → Type 0
  MetBoth n o = AreAllThere n.base.port o.base.port × AreAllThere o.base.port n.base.port

  abbrev pub NoneBoth : Node P W → Node P W → Type 0
  NoneBoth n o = (there_of n.base.port o.base.port ≡ []) × (there_of o.base.port n.base.port ≡ [])

  -- what it made of them
  pub record MeetsAll (own last : Node P W) (os met all : List (Node P W)) : Type 0 where
    pub apart : IsNumberOf os (number_of own) → ⊥
    pub node : Learns (IsNumberOf os) own last
    pub others : EachOf (Learns (λ q. q ≡ number_of own)) os met
    pub rest : EachOf (Learns (IsNumberOf met)) met all

  module _ (own last : Node P W) (os met all : List (Node P W)) (meets : MeetsAll own last os met all) where
    last-number : number_of last ≡ number_of own
    last-number = number-kept (IsNumberOf os) own last meets.node

    apart-met : IsNumberOf met (number_of last) → ⊥
    apart-met is = meets.apart (numbers-kept (λ q. q ≡ number_of own) os met meets.others (number_of own) (subst (IsNumberOf met) last-number is))

    -- the node and an other, as they were when they met
    pub one-met : (k : ℕ) (o : Node P W) → slice_get all k ≡ Some o → All (MetBoth last) met → MetBoth last o
    one-met k o at each = (
      met-kept (λ q. ⊥) (IsNumberOf met) last last found.0 o (learns-none (λ q. ⊥) last) found.2 (λ no. no) apart-met both.0,
      met-kept (IsNumberOf met) (λ q. ⊥) found.0 o last last found.2 (learns-none (λ q. ⊥) last) apart-met (λ no. no) both.1,
    )
      where
        found : (x : Node P W) × (slice_get met k ≡ Some x) × Learns (IsNumberOf met) x o
        found = each-at (Learns (IsNumberOf met)) met all k o meets.rest at

        both : MetBoth last found.0
        both = all-at (MetBoth last) met k found.0 each found.1

    pub all-met : AreAllThere own.base.port own.base.port → All (MetBoth last) met → HaveMet all → HaveMet (last ∷ all)
    all-met self each rest zero zero a b at_a at_b =
        let is_a : Some last ≡ Some a = at_a in
        let is_b : Some last ≡ Some b = at_b in
        let same_a : last ≡ a = cc in
        let same_b : last ≡ b = cc in
        subst (λ (x : Node P W). AreAllThere x.base.port b.base.port) same_a (subst (λ (x : Node P W). AreAllThere last.base.port x.base.port) same_b
        (met-kept (IsNumberOf os) (IsNumberOf os) own last own last meets.node meets.node meets.apart meets.apart self))
    all-met self each rest zero (suc k) a b at_a at_b =
        let is_a : Some last ≡ Some a = at_a in
        let same_a : last ≡ a = cc in
        subst (λ (x : Node P W). AreAllThere x.base.port b.base.port) same_a (one-met k b at_b each).0
    all-met self each rest (suc j) zero a b at_a at_b =
        let is_b : Some last ≡ Some b = at_b in
        let same_b : last ≡ b = cc in
        subst (λ (x : Node P W). AreAllThere a.base.port x.base.port) same_b (one-met j a at_a each).1
    all-met self each rest (suc j) (suc k) a b at_a at_b = rest j k a b at_a at_b

    -- of the node and the others nothing is there where nothing was when they met, and the other way round
    one-none : (k : ℕ) (o : Node P W) → slice_get all k ≡ Some o → All (NoneBoth last) met → NoneBoth last o
    one-none k o at each = (
      there-kept (λ q. ⊥) (IsNumberOf met) last last found.0 o (learns-none (λ q. ⊥) last) found.2 apart-met ∙ both.0,
      there-kept (IsNumberOf met) (λ q. ⊥) found.0 o last last found.2 (learns-none (λ q. ⊥) last) (λ no. no) ∙ both.1,
    )
      where
        found : (x : Node P W) × (slice_get met k ≡ Some x) × Learns (IsNumberOf met) x o
        found = each-at (Learns (IsNumberOf met)) met all k o meets.rest at

        both : NoneBoth last found.0
        both = all-at (NoneBoth last) met k found.0 each found.1

    own-there : there_of last.base.port last.base.port ≡ there_of own.base.port own.base.port
    own-there = there-kept (IsNumberOf os) (IsNumberOf os) own last own last meets.node meets.node meets.apart

    pub all-empty : there_of own.base.port own.base.port ≡ [] → All (NoneBoth last) met → IsNetEmpty all → IsNetEmpty (last ∷ all)
    all-empty self each rest zero zero a b at_a at_b =
        let is_a : Some last ≡ Some a = at_a in
        let is_b : Some last ≡ Some b = at_b in
        let same_a : last ≡ a = cc in
        let same_b : last ≡ b = cc in
        subst (λ (x : Node P W). there_of x.base.port b.base.port ≡ []) same_a (subst (λ (x : Node P W). there_of last.base.port x.base.port ≡ []) same_b (own-there ∙ self))
    all-empty self each rest zero (suc k) a b at_a at_b =
        let is_a : Some last ≡ Some a = at_a in
        let same_a : last ≡ a = cc in
        subst (λ (x : Node P W). there_of x.base.port b.base.port ≡ []) same_a (one-none k b at_b each).0
    all-empty self each rest (suc j) zero a b at_a at_b =
        let is_b : Some last ≡ Some b = at_b in
        let same_b : last ≡ b = cc in
        subst (λ (x : Node P W). there_of a.base.port x.base.port ≡ []) same_b (one-none j a at_a each).1
    all-empty self each rest (suc j) (suc k) a b at_a at_b = rest j k a b at_a at_b

    none-met : IsNetEmpty (last ∷ all) → All (NoneBoth last) met
    none-met none = all-from (NoneBoth last) met one
      where
        one : (k : ℕ) (x : Node P W) → slice_get met k ≡ Some x → NoneBoth last x
        one k x at =
            let to = each-to (Learns (IsNumberOf met)) met all k x meets.rest at in (
              sym (there-kept (λ q. ⊥) (IsNumberOf met) last last x to.0 (learns-none (λ q. ⊥) last) to.2 apart-met) ∙ none zero (suc k) last to.0 refl to.1,
              sym (there-kept (IsNumberOf met) (λ q. ⊥) x to.0 last last to.2 (learns-none (λ q. ⊥) last) (λ e. e)) ∙ none (suc k) zero to.0 last to.1 refl,
            )

    pub all-none : (count : ℕ) (b first rest : Bool) → count ≡ length (there_of own.base.port own.base.port) → IsTrue b ↔ ((count ≡ 0) × IsTrue first × IsTrue rest)
        → IsTrue first ↔ All (NoneBoth last) met → IsTrue rest ↔ IsNetEmpty all → IsTrue b ↔ IsNetEmpty (last ∷ all)
    all-none count b first rest counted is one two = (
      (λ e. let h = is.0 e in all-empty (none-in (there_of own.base.port own.base.port) (sym counted ∙ h.0)) (one.0 h.1) (two.0 h.2)),
      (λ none. is.1 (
        counted ∙ ap length (sym own-there ∙ none zero zero last last refl refl),
        one.1 (none-met none),
        two.1 (λ j k a b at_a at_b. none (suc j) (suc k) a b at_a at_b),
      )),
    )

    pub all-learns : (ns : List (Node P W)) (n : Node P W) → ns ≡ n ∷ os → Learns (λ q. q ≡ number_of n) n own → EachOf (Learns (IsNumberOf ns)) ns (last ∷ all)
    all-learns ns n is learns = subst (λ (l : List (Node P W)). EachOf (Learns (IsNumberOf l)) l (last ∷ all)) (sym is) (
      learns-both (λ q. q ≡ number_of n) (IsNumberOf os) (IsNumberOf (n ∷ os)) n own last (λ q e. inl e) (λ q e. inr e) learns meets.node,
      each-both (Learns (λ q. q ≡ number_of own)) (Learns (IsNumberOf met)) (Learns (IsNumberOf (n ∷ os)))
          (λ x y z. learns-both (λ q. q ≡ number_of own) (IsNumberOf met) (IsNumberOf (n ∷ os)) x y z (λ q e. inl (e ∙ number-kept (λ q. q ≡ number_of n) n own learns))
          (λ q e. inr (numbers-kept (λ q. q ≡ number_of own) os met meets.others q e)))
          os met all meets.others meets.rest,
    )

  pub may-split : (n : Node P W) (os : List (Node P W)) (o : Node P W) (rest : List (Node P W)) → os ≡ o ∷ rest → MayMeet (n ∷ os) → MayMeet (n ∷ o ∷ rest)
  may-split n os o rest is may = subst (λ (l : List (Node P W)). MayMeet (n ∷ l)) is may

  pub may-own : (ns : List (Node P W)) (n n' : Node P W) (os : List (Node P W)) → ns ≡ n ∷ os → place_of n'.base.port ≡ place_of n.base.port → MayMeet ns → MayMeet (n' ∷ os)
  may-own ns n n' os is place may =
      let all : MayMeet (n ∷ os) = subst MayMeet is may in
      (each os all.0, (λ e. all.1 (subst (IsNumberOf os) (ap (λ (p : Place). p.kernel) place) e)), all.2)
    where
      each : (xs : List (Node P W)) → MayMeetEach n xs → MayMeetEach n' xs
      each [] may = tt
      each (x ∷ xs) may = (subst (λ (p : Place). AreOfOneNet p (place_of x.base.port)) (sym place) may.0, each xs may.1)

  -- ---- a node, which met one and then others

  pub record MeetsOne (own mid last o met : Node P W) (os rest all : List (Node P W)) : Type 0 where
    pub is : os ≡ o ∷ rest
    pub may : MayMeet (own ∷ os)
    pub here : Learns (λ q. q ≡ number_of o) own mid
    pub there : Learns (λ q. q ≡ number_of own) o met
    pub node : Learns (IsNumberOf rest) mid last
    pub others : EachOf (Learns (λ q. q ≡ number_of mid)) rest all

  module _ (own mid last o met : Node P W) (os rest all : List (Node P W)) (one : MeetsOne own mid last o met os rest all) where
    apart-one : IsNumberOf rest (number_of met) → ⊥
    apart-one e = (may-split own os o rest one.is one.may).2.1 (subst (IsNumberOf rest) (number-kept (λ q. q ≡ number_of own) o met one.there) e)

    pub one-node : Learns (IsNumberOf os) own last
    one-node =
        subst (λ (l : List (Node P W)). Learns (IsNumberOf l) own last) (sym one.is)
        (learns-both (λ q. q ≡ number_of o) (IsNumberOf rest) (IsNumberOf (o ∷ rest)) own mid last (λ q e. inl e) (λ q e. inr e) one.here one.node)

    pub one-others : EachOf (Learns (λ q. q ≡ number_of own)) os (met ∷ all)
    one-others =
        subst (λ (l : List (Node P W)). EachOf (Learns (λ q. q ≡ number_of own)) l (met ∷ all)) (sym one.is)
        (one.there, subst (λ (k : ℕ). EachOf (Learns (λ q. q ≡ k)) rest all) (number-kept (λ q. q ≡ number_of o) own mid one.here) one.others)

    pub one-both : MetBoth mid met → All (MetBoth last) all → All (MetBoth last) (met ∷ all)
    one-both both each =
        All-cons (MetBoth last) met all (
          met-kept (IsNumberOf rest) (λ q. ⊥) mid last met met one.node (learns-none (λ q. ⊥) met) apart-one (λ e. e) both.0,
          met-kept (λ q. ⊥) (IsNumberOf rest) met met mid last (learns-none (λ q. ⊥) met) one.node (λ e. e) apart-one both.1,
        ) each

    from-here : there_of last.base.port met.base.port ≡ there_of mid.base.port met.base.port
    from-here = there-kept (IsNumberOf rest) (λ q. ⊥) mid last met met one.node (learns-none (λ q. ⊥) met) (λ e. e)

    from-there : there_of met.base.port last.base.port ≡ there_of met.base.port mid.base.port
    from-there = there-kept (λ q. ⊥) (IsNumberOf rest) met met mid last (learns-none (λ q. ⊥) met) one.node apart-one

    pub one-empty : (count : ℕ) (b others : Bool) → count ≡ length (there_of mid.base.port met.base.port) + length (there_of met.base.port mid.base.port)
        → IsTrue b ↔ ((count ≡ 0) × IsTrue others) → IsTrue others ↔ All (NoneBoth last) all → IsTrue b ↔ All (NoneBoth last) (met ∷ all)
    one-empty count b others counted is rest = (
      (λ e.
          let h = is.0 e in
          All-cons (NoneBoth last) met all (
            from-here ∙ none-in (there_of mid.base.port met.base.port) (omega (arith, counted, h.0)),
            from-there ∙ none-in (there_of met.base.port mid.base.port) (omega (arith, counted, h.0)),
          ) (rest.0 h.1)),
      (λ each.
          let h = All-head (NoneBoth last) met all each in
          let a : length (there_of mid.base.port met.base.port) ≡ 0 = ap length (sym from-here ∙ h.0) in
          let b : length (there_of met.base.port mid.base.port) ≡ 0 = ap length (sym from-there ∙ h.1) in
          is.1 (omega (arith, counted, a, b), rest.1 (All-tail (NoneBoth last) met all each))),
    )
