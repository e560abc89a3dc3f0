-- What the steps of a run so far tell of each end and of each report.
use Rattle.std.proofs.Common.{◌≡◌, ◌≢◌, ℕ, suc, ◌+◌, ◌<◌, ◌≤◌, Bool, true, false, true≢false, nat_eq, ◌⊎◌, inl, inr, length, List, [], ◌∷◌, ◌++◌, append-nil, Contains, map, cond, append_assoc, eq-eqb, refl, sym, ap, subst, ◌∙◌, arith}
use Rattle.charlotte_calls.specs.Names.{opposite}
use Rattle.charlotte_calls.specs.declared.names.EndId.{EndId}
use Rattle.charlotte_calls.specs.declared.names.Pid.{Pid}
use Rattle.std.proofs.lemmas.Bool.Decides.{eqb_tells}
use Rattle.std.proofs.lemmas.List.Elements.{Contains-append_left, Contains-append_right}
use Rattle.std.specs.List.{filter, flat_map}
use Rattle.charlotte_calls.specs.declared.calls.ServiceStep.{ServiceStep}
use Rattle.charlotte_calls.specs.declared.calls.ServiceStep.TheVariants as step
use Rattle.service_runs.proofs.Moves.{Move, completed, matched, over, sent, still, taken}
use Rattle.service_step.specs.Lawful.{AreRising, WasMatched, complete_number, match_number, send_number, take_number}
use Rattle.service_step.specs.Run.{state_after}
use Rattle.service_step.specs.State.{State}
use Rattle.service_step.specs.declared.state.Outward.{Outward}
use Rattle.service_step.specs.declared.state.Outward.TheVariants as outward
use Rattle.service_step.specs.declared.state.Place.TheVariants as place

-- lists

pub flat_map-append : (g : ServiceStep × State → List ℕ) (a b : List (ServiceStep × State)) → flat_map g (a ++ b) ≡ flat_map g a ++ flat_map g b
flat_map-append g [] b = refl
flat_map-append g (x ∷ a) b = ap (λ l. g x ++ l) (flat_map-append g a b) ∙ sym (append_assoc (g x) (flat_map g a) (flat_map g b))

pub flat_map-more : (g : ServiceStep × State → List ℕ) (past : List (ServiceStep × State)) (y : ServiceStep × State) (ns : List ℕ) → g y ≡ ns → flat_map g (past ++ y ∷ []) ≡ flat_map g past ++ ns
flat_map-more g past y ns is = flat_map-append g past (y ∷ []) ∙ ap (λ l. flat_map g past ++ l) (append-nil (g y) ∙ is)

map-more : (past : List (ServiceStep × State)) (y : ServiceStep × State) → map (λ made. made.0) (past ++ y ∷ []) ≡ map (λ made. made.0) past ++ y.0 ∷ []
map-more [] y = refl
map-more (x ∷ past) y = ap (λ l. x.0 ∷ l) (map-more past y)

pub was-more : (past : List (ServiceStep × State)) (y : ServiceStep × State) (f : EndId) (n : ℕ) → WasMatched past f n → WasMatched (past ++ y ∷ []) f n
was-more past y f n was = subst (λ l. Contains l (step.Match f n)) (sym (map-more past y)) (Contains-append_left (map (λ made. made.0) past) (y.0 ∷ []) (step.Match f n) was)

was-now : (past : List (ServiceStep × State)) (x : ServiceStep) (t : State) (f : EndId) (n : ℕ) → x ≡ step.Match f n → WasMatched (past ++ (x, t) ∷ []) f n
was-now past x t f n is =
    subst (λ l. Contains l (step.Match f n)) (sym (map-more past (x, t)))
    (Contains-append_right (map (λ made. made.0) past) (x ∷ []) (step.Match f n) (subst (λ z. Contains (x ∷ []) z) is (0, (omega arith), refl)))

pub after-more : (s : State) (past : List (ServiceStep × State)) (y : ServiceStep × State) → state_after s (past ++ y ∷ []) ≡ y.1
after-more s [] y = refl
after-more s (x ∷ past) y = after-more x.1 past y

-- numbers in order, each below a bound
abbrev pub AreBelow : ℕ → List ℕ → Type 0
AreBelow b [] = Unit {0}
AreBelow b (n ∷ ns) = (n < b) × AreBelow b ns

pub record IsInOrder (b : ℕ) (ns : List ℕ) : Type 0 where
  pub rising : AreRising ns
  pub below : AreBelow b ns

below-more : (a b : ℕ) (ns : List ℕ) → a ≤ b → AreBelow a ns → AreBelow b ns
below-more a b [] le is = tt
below-more a b (n ∷ ns) le is = (let below : n < a = is.0 in omega arith, below-more a b ns le is.1)

below-append : (b n : ℕ) (ns : List ℕ) → n < b → AreBelow b ns → AreBelow b (ns ++ n ∷ [])
below-append b n [] lt is = (lt, tt)
below-append b n (m ∷ ns) lt is = (is.0, below-append b n ns lt is.1)

rising-append : (n : ℕ) (ns : List ℕ) → AreRising ns → AreBelow n ns → AreRising (ns ++ n ∷ [])
rising-append n [] rising below = tt
rising-append n (a ∷ []) rising below = (below.0, tt)
rising-append n (a ∷ b ∷ ns) rising below = (rising.0, rising-append n (b ∷ ns) rising.1 below.1)

order-same : (a b : ℕ) (ns ms : List ℕ) → ms ≡ ns ++ [] → a ≤ b → IsInOrder a ns → IsInOrder b ms
order-same a b ns ms is le o = subst (IsInOrder b) (sym (is ∙ append-nil ns)) (record { rising = o.rising; below = below-more a b ns le o.below })

order-next : (n b : ℕ) (ns ms : List ℕ) → ms ≡ ns ++ n ∷ [] → n < b → IsInOrder n ns → IsInOrder b ms
order-next n b ns ms is lt o = subst (IsInOrder b) (sym is) (record { rising = rising-append n ns o.rising o.below; below = below-append b n ns lt (below-more n b ns (omega arith) o.below) })

-- a number in a rising list stands there once

count-above : (n a : ℕ) (ns : List ℕ) → n ≤ a → AreRising (a ∷ ns) → length (filter (nat_eq n) ns) ≡ 0
count-above n a [] le rising = refl
count-above n a (b ∷ ns) le rising = by (eqb_tells n b) (count-above n b ns (let lt : a < b = rising.0 in omega arith) rising.1)
  where
    by : ((nat_eq n b ≡ true) × (n ≡ b)) ⊎ ((nat_eq n b ≡ false) × (n ≢ b)) → length (filter (nat_eq n) ns) ≡ 0 → length (filter (nat_eq n) (b ∷ ns)) ≡ 0
    by (inl same) rest = absurd (let lt : a < b = rising.0 in let e : n ≡ b = same.1 in omega arith)
    by (inr apart) rest = ap (λ c. length (cond c (b ∷ filter (nat_eq n) ns) (filter (nat_eq n) ns))) apart.0 ∙ rest

rising-before : (a n : ℕ) (xs ys : List ℕ) → AreRising (a ∷ (xs ++ n ∷ ys)) → a < n
rising-before a n [] ys rising = rising.0
rising-before a n (b ∷ xs) ys rising = let lt : a < b = rising.0 in let rest : b < n = rising-before b n xs ys rising.1 in omega arith

rising-tail : (a : ℕ) (ns : List ℕ) → AreRising (a ∷ ns) → AreRising ns
rising-tail a [] rising = tt
rising-tail a (b ∷ ns) rising = rising.1

pub once : (n : ℕ) (xs ys : List ℕ) → AreRising (xs ++ n ∷ ys) → length (filter (nat_eq n) (xs ++ n ∷ ys)) ≡ 1
once n [] ys rising =
    ap (λ c. length (cond c (n ∷ filter (nat_eq n) ys) (filter (nat_eq n) ys))) (eq-eqb n n refl) ∙ ap suc (count-above n n ys (omega arith) rising)
once n (a ∷ xs) ys rising = by (eqb_tells n a) (once n xs ys (rising-tail a (xs ++ n ∷ ys) rising))
  where
    by : ((nat_eq n a ≡ true) × (n ≡ a)) ⊎ ((nat_eq n a ≡ false) × (n ≢ a)) → length (filter (nat_eq n) (xs ++ n ∷ ys)) ≡ 1 → length (filter (nat_eq n) (a ∷ (xs ++ n ∷ ys))) ≡ 1
    by (inl same) rest = absurd (let lt : a < n = rising-before a n xs ys rising in let e : n ≡ a = same.1 in omega arith)
    by (inr apart) rest = ap (λ c. length (cond c (a ∷ filter (nat_eq n) (xs ++ n ∷ ys)) (filter (nat_eq n) (xs ++ n ∷ ys)))) apart.0 ∙ rest

-- below which numbers an end's messages were matched, taken and completed, where its send is so and n is the number of it

abbrev pub match_bound : Outward → ℕ → ℕ
match_bound (outward.Waiting m) n = n
match_bound outward.Idle n = n + 1
match_bound (outward.Matched m) n = n + 1
match_bound outward.Taken n = n + 1
match_bound outward.Unreported n = n + 1

abbrev pub take_bound : Outward → ℕ → ℕ
take_bound (outward.Waiting m) n = n
take_bound (outward.Matched m) n = n
take_bound outward.Idle n = n + 1
take_bound outward.Taken n = n + 1
take_bound outward.Unreported n = n + 1

abbrev pub complete_bound : Outward → ℕ → ℕ
complete_bound (outward.Waiting m) n = n
complete_bound (outward.Matched m) n = n
complete_bound outward.Taken n = n
complete_bound outward.Idle n = n + 1
complete_bound outward.Unreported n = n + 1

-- a matched, taken or reported send was matched, unless the death of the link was noticed
abbrev pub IsMatchedFor : List (ServiceStep × State) → EndId → Outward → ℕ → Bool → Type 0
IsMatchedFor past f outward.Idle n noticed = Unit {0}
IsMatchedFor past f (outward.Waiting m) n noticed = Unit {0}
IsMatchedFor past f (outward.Matched m) n noticed = WasMatched past f n
IsMatchedFor past f outward.Taken n noticed = WasMatched past f n
IsMatchedFor past f outward.Unreported n noticed = noticed ≡ false → WasMatched past f n

-- the message n of f was taken
pub record WasTaken (s : State) (past : List (ServiceStep × State)) (f : EndId) (n : ℕ) : Type 0 where
  pub earlier : List (ServiceStep × State)
  pub later : List (ServiceStep × State)
  pub p : Pid
  pub late : Bool
  pub left : State
  pub stands : past ≡ earlier ++ (step.Take f n p late, left) ∷ later
  pub owned : ((state_after s earlier).ends (opposite f)).place ≡ place.Owned p

abbrev pub IsTakenFor : State → List (ServiceStep × State) → EndId → Outward → ℕ → Type 0
IsTakenFor s past f outward.Taken n = WasTaken s past f n
IsTakenFor s past f outward.Idle n = Unit {0}
IsTakenFor s past f (outward.Waiting m) n = Unit {0}
IsTakenFor s past f (outward.Matched m) n = Unit {0}
IsTakenFor s past f outward.Unreported n = Unit {0}

-- what the steps so far tell of an end whose send is so, with n sends
pub record IsPast (s : State) (past : List (ServiceStep × State)) (f : EndId) (out : Outward) (n : ℕ) (noticed : Bool) : Type 0 where
  pub sends : IsInOrder (n + 1) (flat_map (send_number f) past)
  pub matches : IsInOrder (match_bound out n) (flat_map (match_number f) past)
  pub takes : IsInOrder (take_bound out n) (flat_map (take_number f) past)
  pub completes : IsInOrder (complete_bound out n) (flat_map (complete_number f) past)
  pub matched_one : IsMatchedFor past f out n noticed
  pub taken_one : IsTakenFor s past f out n

matched-more : (past : List (ServiceStep × State)) (y : ServiceStep × State) (f : EndId) (out : Outward) (n : ℕ) (a b : Bool) → (b ≡ false → a ≡ false) → IsMatchedFor past f out n a → IsMatchedFor (past ++ y ∷ []) f out n b
matched-more past y f outward.Idle n a b sooner is = tt
matched-more past y f (outward.Waiting m) n a b sooner is = tt
matched-more past y f (outward.Matched m) n a b sooner is = was-more past y f n is
matched-more past y f outward.Taken n a b sooner is = was-more past y f n is
matched-more past y f outward.Unreported n a b sooner is = λ open_yet. was-more past y f n (is (sooner open_yet))

taken-more : (s : State) (past : List (ServiceStep × State)) (y : ServiceStep × State) (f : EndId) (out : Outward) (n : ℕ) → IsTakenFor s past f out n → IsTakenFor s (past ++ y ∷ []) f out n
taken-more s past y f outward.Idle n is = tt
taken-more s past y f (outward.Waiting m) n is = tt
taken-more s past y f (outward.Matched m) n is = tt
taken-more s past y f outward.Unreported n is = tt
taken-more s past y f outward.Taken n is =
    record { earlier = is.earlier; later = is.later ++ y ∷ []; p = is.p; late = is.late; left = is.left; stands = ap (λ l. l ++ y ∷ []) is.stands ∙ append_assoc is.earlier ((step.Take f n is.p is.late, is.left) ∷ is.later) (y ∷ []); owned = is.owned }

bound-match : (out : Outward) (n : ℕ) → match_bound out n ≤ n + 1
bound-match outward.Idle n = omega arith
bound-match (outward.Waiting m) n = omega arith
bound-match (outward.Matched m) n = omega arith
bound-match outward.Taken n = omega arith
bound-match outward.Unreported n = omega arith

bound-take : (out : Outward) (n : ℕ) → take_bound out n ≤ n + 1
bound-take outward.Idle n = omega arith
bound-take (outward.Waiting m) n = omega arith
bound-take (outward.Matched m) n = omega arith
bound-take outward.Taken n = omega arith
bound-take outward.Unreported n = omega arith

bound-complete : (out : Outward) (n : ℕ) → complete_bound out n ≤ n + 1
bound-complete outward.Idle n = omega arith
bound-complete (outward.Waiting m) n = omega arith
bound-complete (outward.Matched m) n = omega arith
bound-complete outward.Taken n = omega arith
bound-complete outward.Unreported n = omega arith

-- one step more
module _ (s0 : State) (past : List (ServiceStep × State)) (s : State) (x : ServiceStep) (t : State) (f : EndId) (before : state_after s0 past ≡ s) where
  -- the send of f afterwards, in order, with these numbers more
  next-by : (old new : Outward) (n k : ℕ) (a b : Bool) → (t.ends f).outward ≡ new → (t.ends f).sent ≡ k → (t.ends f).noticed ≡ b → IsPast s0 (past ++ (x, t) ∷ []) f new k b → IsPast s0 (past ++ (x, t) ∷ []) f (t.ends f).outward (t.ends f).sent (t.ends f).noticed
  next-by old new n k a b out number noticed is =
      subst (λ o. IsPast s0 (past ++ (x, t) ∷ []) f o (t.ends f).sent (t.ends f).noticed) (sym out)
      (subst (λ i. IsPast s0 (past ++ (x, t) ∷ []) f new i (t.ends f).noticed) (sym number) (subst (λ c. IsPast s0 (past ++ (x, t) ∷ []) f new k c) (sym noticed) is))

  pub next-past : IsPast s0 past f (s.ends f).outward (s.ends f).sent (s.ends f).noticed → Move s x t f → IsPast s0 (past ++ (x, t) ∷ []) f (t.ends f).outward (t.ends f).sent (t.ends f).noticed
  next-past h (still out number noticed ns) =
      next-by (s.ends f).outward (s.ends f).outward (s.ends f).sent (s.ends f).sent (s.ends f).noticed (t.ends f).noticed out number refl
      (record {
        sends = order-same _ _ _ _ (flat_map-more (send_number f) past (x, t) [] ns.sends) (omega arith) h.sends;
        matches = order-same _ _ _ _ (flat_map-more (match_number f) past (x, t) [] ns.matches) (omega arith) h.matches;
        takes = order-same _ _ _ _ (flat_map-more (take_number f) past (x, t) [] ns.takes) (omega arith) h.takes;
        completes = order-same _ _ _ _ (flat_map-more (complete_number f) past (x, t) [] ns.completes) (omega arith) h.completes;
        matched_one = matched-more past (x, t) f (s.ends f).outward (s.ends f).sent (s.ends f).noticed (t.ends f).noticed noticed h.matched_one;
        taken_one = taken-more s0 past (x, t) f (s.ends f).outward (s.ends f).sent h.taken_one;
      })
  next-past h (sent m was out number ns) =
      let i : IsPast s0 past f outward.Idle (s.ends f).sent (s.ends f).noticed = subst (λ o. IsPast s0 past f o (s.ends f).sent (s.ends f).noticed) was h in
      next-by outward.Idle (outward.Waiting m) (s.ends f).sent ((s.ends f).sent + 1) (s.ends f).noticed (t.ends f).noticed out number refl
      (record {
        sends = order-next _ _ _ _ (flat_map-more (send_number f) past (x, t) (((s.ends f).sent + 1) ∷ []) ns.sends) (omega arith) i.sends;
        matches = order-same _ _ _ _ (flat_map-more (match_number f) past (x, t) [] ns.matches) (omega arith) i.matches;
        takes = order-same _ _ _ _ (flat_map-more (take_number f) past (x, t) [] ns.takes) (omega arith) i.takes;
        completes = order-same _ _ _ _ (flat_map-more (complete_number f) past (x, t) [] ns.completes) (omega arith) i.completes;
        matched_one = tt;
        taken_one = tt;
      })
  next-past h (matched m was out number is ns) =
      let i : IsPast s0 past f (outward.Waiting m) (s.ends f).sent (s.ends f).noticed = subst (λ o. IsPast s0 past f o (s.ends f).sent (s.ends f).noticed) was h in
      next-by (outward.Waiting m) (outward.Matched m) (s.ends f).sent (s.ends f).sent (s.ends f).noticed (t.ends f).noticed out number refl
      (record {
        sends = order-same _ _ _ _ (flat_map-more (send_number f) past (x, t) [] ns.sends) (omega arith) i.sends;
        matches = order-next _ _ _ _ (flat_map-more (match_number f) past (x, t) ((s.ends f).sent ∷ []) ns.matches) (omega arith) i.matches;
        takes = order-same _ _ _ _ (flat_map-more (take_number f) past (x, t) [] ns.takes) (omega arith) i.takes;
        completes = order-same _ _ _ _ (flat_map-more (complete_number f) past (x, t) [] ns.completes) (omega arith) i.completes;
        matched_one = was-now past x t f (s.ends f).sent is;
        taken_one = tt;
      })
  next-past h (taken m p late was out number is owned ns) =
      let i : IsPast s0 past f (outward.Matched m) (s.ends f).sent (s.ends f).noticed = subst (λ o. IsPast s0 past f o (s.ends f).sent (s.ends f).noticed) was h in
      next-by (outward.Matched m) outward.Taken (s.ends f).sent (s.ends f).sent (s.ends f).noticed (t.ends f).noticed out number refl
      (record {
        sends = order-same _ _ _ _ (flat_map-more (send_number f) past (x, t) [] ns.sends) (omega arith) i.sends;
        matches = order-same _ _ _ _ (flat_map-more (match_number f) past (x, t) [] ns.matches) (omega arith) i.matches;
        takes = order-next _ _ _ _ (flat_map-more (take_number f) past (x, t) ((s.ends f).sent ∷ []) ns.takes) (omega arith) i.takes;
        completes = order-same _ _ _ _ (flat_map-more (complete_number f) past (x, t) [] ns.completes) (omega arith) i.completes;
        matched_one = was-more past (x, t) f (s.ends f).sent i.matched_one;
        taken_one =
            record {
              earlier = past;
              later = [];
              p = p;
              late = late;
              left = t;
              stands = ap (λ z. past ++ (z, t) ∷ []) is;
              owned = subst (λ z. (z.ends (opposite f)).place ≡ place.Owned p) (sym before) owned;
            };
      })
  next-past h (completed was out number ns) =
      let i : IsPast s0 past f outward.Taken (s.ends f).sent (s.ends f).noticed = subst (λ o. IsPast s0 past f o (s.ends f).sent (s.ends f).noticed) was h in
      next-by outward.Taken outward.Unreported (s.ends f).sent (s.ends f).sent (s.ends f).noticed (t.ends f).noticed out number refl
      (record {
        sends = order-same _ _ _ _ (flat_map-more (send_number f) past (x, t) [] ns.sends) (omega arith) i.sends;
        matches = order-same _ _ _ _ (flat_map-more (match_number f) past (x, t) [] ns.matches) (omega arith) i.matches;
        takes = order-same _ _ _ _ (flat_map-more (take_number f) past (x, t) [] ns.takes) (omega arith) i.takes;
        completes = order-next _ _ _ _ (flat_map-more (complete_number f) past (x, t) ((s.ends f).sent ∷ []) ns.completes) (omega arith) i.completes;
        matched_one = λ open_yet. was-more past (x, t) f (s.ends f).sent i.matched_one;
        taken_one = tt;
      })
  next-past h (over (inl idle) number ns) =
      next-by (s.ends f).outward outward.Idle (s.ends f).sent (s.ends f).sent (s.ends f).noticed (t.ends f).noticed idle number refl
      (record {
        sends = order-same _ _ _ _ (flat_map-more (send_number f) past (x, t) [] ns.sends) (omega arith) h.sends;
        matches = order-same _ _ _ _ (flat_map-more (match_number f) past (x, t) [] ns.matches) (bound-match (s.ends f).outward (s.ends f).sent) h.matches;
        takes = order-same _ _ _ _ (flat_map-more (take_number f) past (x, t) [] ns.takes) (bound-take (s.ends f).outward (s.ends f).sent) h.takes;
        completes = order-same _ _ _ _ (flat_map-more (complete_number f) past (x, t) [] ns.completes) (bound-complete (s.ends f).outward (s.ends f).sent) h.completes;
        matched_one = tt;
        taken_one = tt;
      })
  next-past h (over (inr both) number ns) =
      next-by (s.ends f).outward outward.Unreported (s.ends f).sent (s.ends f).sent (s.ends f).noticed true both.0 number both.1
      (record {
        sends = order-same _ _ _ _ (flat_map-more (send_number f) past (x, t) [] ns.sends) (omega arith) h.sends;
        matches = order-same _ _ _ _ (flat_map-more (match_number f) past (x, t) [] ns.matches) (bound-match (s.ends f).outward (s.ends f).sent) h.matches;
        takes = order-same _ _ _ _ (flat_map-more (take_number f) past (x, t) [] ns.takes) (bound-take (s.ends f).outward (s.ends f).sent) h.takes;
        completes = order-same _ _ _ _ (flat_map-more (complete_number f) past (x, t) [] ns.completes) (bound-complete (s.ends f).outward (s.ends f).sent) h.completes;
        matched_one = λ open_yet. absurd (true≢false open_yet);
        taken_one = tt;
      })
