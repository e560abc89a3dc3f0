-- Letters that were put, and those that are left.
use Rattle.std.proofs.Common.{◌≡◌, ◌≢◌, ◌⊎◌, ◌||◌, Bool, Global, set, get_or, inl, inr, ℕ, ◌<◌, ◌≤◌, ◌+◌, arith, true, false, leb, take, drop, List, [], ◌∷◌, ◌++◌, length, ap, ◌∙◌, sym, refl, append_assoc, append-nil, nat_eq, if◌then◌else◌, subst}
use Rattle.std.proofs.lemmas.List.{length-append}
use Rattle.std.proofs.Math.Seq.{drop-append_seam, take-append_seam}
use Rattle.std.proofs.lemmas.Bool.Decides.{eqb_tells, leb_tells}
use Rattle.charlotte_packets.specs.declared.packet.Packet.{Packet}
use Rattle.std.specs.declared.collections.VecDeque.{VecDeque}
use Rattle.kernel_net.specs.Letters.{MayBePut}
use Rattle.kernel_net.specs.Ports.{HasLooked, HasPut, PortView, place_of, places_to, put_to}
use Rattle.kernel_net.proofs.Ports.{may-looked}
use Rattle.kernel_net.specs.declared.letter.Letter.{Letter}
use Rattle.kernel_net.specs.declared.letter.Letter.TheVariants as letter
use Rattle.kernel_outbox.specs.Letters.{MayAllBePut, PutsFirst, PutsOne, PutsSome, if_to, letters_for}
use Rattle.kernel_outbox.specs.Unsent.{GoesFirst, UnsentView}
use Rattle.kernel_outbox.proofs.Waiting.{Lists, each-waiting, if_to-other, if_to-same, same-number, waits-other, waits-read, waits-set, waits_in}

-- two lists whose ends are as long have the same beginning and the same end
fronts : (ps qs xs ys : List Letter) → length xs ≡ length ys → ps ++ xs ≡ qs ++ ys → length ps ≡ length qs
fronts ps qs xs ys long e = omega (arith, length-append ps xs, length-append qs ys, ap length e, long)

front : (ps qs xs ys : List Letter) → length xs ≡ length ys → ps ++ xs ≡ qs ++ ys → ps ≡ qs
front ps qs xs ys long e =
    sym (take-append_seam ps xs) ∙ ap (take (length ps)) e ∙ ap (λ n. take n (qs ++ ys)) (fronts ps qs xs ys long e) ∙ take-append_seam qs ys

back : (ps qs xs ys : List Letter) → length xs ≡ length ys → ps ++ xs ≡ qs ++ ys → xs ≡ ys
back ps qs xs ys long e =
    sym (drop-append_seam ps xs) ∙ ap (drop (length ps)) e ∙ ap (λ n. drop n (qs ++ ys)) (fronts ps qs xs ys long e) ∙ drop-append_seam qs ys

-- what is left may be put behind what was
pub may-rest : (put put' before after : List Letter) → put' ++ after ≡ put ++ before → length after ≤ length before → MayAllBePut put before → MayAllBePut put' after
may-rest put put' [] [] whole fewer may = may
may-rest put put' [] (y ∷ ys) whole fewer may = absurd (omega (arith, fewer))
may-rest put put' (x ∷ xs) after whole fewer may =
    by (leb_tells (length after) (length xs)) (λ less. may-rest (put ++ x ∷ []) put' xs after (whole ∙ sym (append_assoc put (x ∷ []) xs)) less may.1)
  where
    by : ((leb (length after) (length xs) ≡ true) × (length after ≤ length xs)) ⊎ ((leb (length after) (length xs) ≡ false) × (length xs < length after))
        → (length after ≤ length xs → MayAllBePut put' after) → MayAllBePut put' after
    by (inl e) on = on e.1
    by (inr e) on =
        let long : length after ≡ length (x ∷ xs) = omega (arith, e.1, fewer) in
        subst (λ ps. MayAllBePut ps after) (sym (front put' put after (x ∷ xs) long whole))
        (subst (MayAllBePut put) (sym (back put' put after (x ∷ xs) long whole)) may)

-- the first of letters that may be put
pub may-front : (put xs ys : List Letter) → MayAllBePut put (xs ++ ys) → MayAllBePut put xs
may-front put [] ys may = tt
may-front put (x ∷ xs) ys may = (may.0, may-front (put ++ x ∷ []) xs ys may.1)

-- the letters that are left to each kernel, of those that wait and those that are unsent
pub may-rest-of : (before after rest : ℕ → List Letter) (put put' : ℕ → List Letter) → ((q : ℕ) → put' q ++ after q ≡ put q ++ before q) → ((q : ℕ) → length (after q) ≤ length (before q))
    → ((q : ℕ) → MayAllBePut (put q) (before q ++ rest q)) → (q : ℕ) → MayAllBePut (put' q) (after q ++ rest q)
may-rest-of before after rest put put' whole fewer may q =
    may-rest (put q) (put' q) (before q ++ rest q) (after q ++ rest q)
    (sym (append_assoc (put' q) (after q) (rest q)) ∙ ap (λ ls. ls ++ rest q) (whole q) ∙ append_assoc (put q) (before q) (rest q))
    (omega (arith, length-append (after q) (rest q), length-append (before q) (rest q), fewer q))
    (may q)

-- a letter that is the first to be put may be put
pub may-first : (put before after : List Letter) (l : Letter) → MayAllBePut put (before ++ (l ∷ after)) → before ≡ [] → MayBePut put l
may-first put before after l may none =
    let now : MayAllBePut put (l ∷ after) = subst (λ ls. MayAllBePut put (ls ++ (l ∷ after))) none may in now.0

-- ---- one list of several was put from

module _ (lists : Lists) (t : ℕ) (before after : VecDeque Letter Global) (old new : PortView) (below : t < length lists) (is : before ≡ get_or lists t before) (puts : PutsFirst t before.items after.items old new) where
  was : before.items ≡ waits_in lists t
  was = waits-read lists t before below is

  pub put-letters : (q : ℕ) → put_to new q ++ waits_in (set lists t after) q ≡ put_to old q ++ waits_in lists q
  put-letters = each-waiting lists t after (λ q ls. put_to new q ++ ls ≡ put_to old q ++ waits_in lists q) below
      (puts.some.letters ∙ ap (λ ls. put_to old t ++ ls) was) (λ q other. ap (λ ls. ls ++ waits_in lists q) (puts.some.others q other).0)

  pub put-fewer : (q : ℕ) → length (waits_in (set lists t after) q) ≤ length (waits_in lists q)
  put-fewer = each-waiting lists t after (λ q ls. length ls ≤ length (waits_in lists q)) below
      (subst (λ ls. length after.items ≤ length ls) was puts.some.fewer) (λ q other. omega arith)

  pub put-full : (F : ℕ → Type 0) → ((q : ℕ) → F q → q ≢ t → 0 < length (waits_in lists q) → places_to old q ≡ 0) → (q : ℕ) → F q → 0 < length (waits_in (set lists t after) q) → places_to new q ≡ 0
  put-full F full q here = each-waiting lists t after (λ n ls. F n → 0 < length ls → places_to new n ≡ 0) below
      (λ _. puts.full) (λ n other so some. (puts.some.others n other).1 ∙ full n so other some) q here

  pub put-some : (length after.items < length before.items) → (q : ℕ) × (length (waits_in (set lists t after) q) < length (waits_in lists q))
  put-some fewer = (t, subst (λ ls. length ls < length (waits_in lists t)) (sym (waits-set lists t after below)) (subst (λ ls. length after.items < length ls) was fewer))

  pub put-none : after.items ≡ before.items → (q : ℕ) → waits_in (set lists t after) q ≡ waits_in lists q
  put-none same = each-waiting lists t after (λ q ls. ls ≡ waits_in lists q) below (same ∙ was) (λ q other. refl)

  -- the letters of the kernels behind it may still be put
  pub put-may : ((q : ℕ) → t ≤ q → MayAllBePut (put_to old q) (waits_in lists q)) → (q : ℕ) → t + 1 ≤ q → MayAllBePut (put_to new q) (waits_in (set lists t after) q)
  put-may may q behind =
      let other : q ≢ t = λ e. omega (arith, behind, e) in
      subst (λ ls. MayAllBePut (put_to new q) ls) (sym (waits-other lists t after q other))
      (subst (λ ls. MayAllBePut ls (waits_in lists q)) (sym (puts.some.others q other).0) (may q (omega (arith, behind))))

-- ---- a letter was put where none waited, after the port looked for a place

module _ (to : ℕ) (l : Letter) (W : ℕ → List Letter) (old mid new : PortView) (none : W to ≡ []) (looked : HasLooked to old mid) (into : mid.into ≡ old.into)
    (place_mid : place_of mid ≡ place_of old) (puts : HasPut to l mid new) (place_new : place_of new ≡ place_of mid) where
  went : (q : ℕ) → put_to new q ++ W q ≡ (put_to old q ++ W q) ++ if_to q to l
  went q = by (eqb_tells q to)
    where
      here : put_to new to ++ W to ≡ (put_to old to ++ W to) ++ if_to to to l
      here = ap (λ ls. put_to new to ++ ls) none
          ∙ append-nil (put_to new to)
          ∙ puts.put
          ∙ ap (λ (ls : ℕ → List Letter). ls to ++ l ∷ []) looked.put
          ∙ ap (λ ls. ls ++ l ∷ []) (sym (append-nil (put_to old to)) ∙ ap (λ ls. put_to old to ++ ls) (sym none))
          ∙ ap (λ ls. (put_to old to ++ W to) ++ ls) (sym (if_to-same to to l (same-number to)))

      by : ((nat_eq q to ≡ true) × (q ≡ to)) ⊎ ((nat_eq q to ≡ false) × (q ≢ to)) → put_to new q ++ W q ≡ (put_to old q ++ W q) ++ if_to q to l
      by (inl e) = subst (λ n. put_to new n ++ W n ≡ (put_to old n ++ W n) ++ if_to n to l) (sym e.1) here
      by (inr e) =
          ap (λ ls. ls ++ W q) ((puts.others q e.1).0 ∙ ap (λ (ls : ℕ → List Letter). ls q) looked.put)
          ∙ sym (append-nil (put_to old q ++ W q)) ∙ ap (λ ls. (put_to old q ++ W q) ++ ls) (sym (if_to-other q to l e.0))

  pub put-known : PutsOne true to l W W old new
  put-known =
      record {
        letters = went;
        waits = λ q. sym (append-nil (W q));
        full = λ (e : true ≡ false). absurd cc;
        none = λ _. none;
        others = λ q other. (puts.others q other).1 ∙ (looked.others q other).0;
        into = puts.into ∙ into;
        place = place_new ∙ place_mid;
      }

-- the first letter of a list may be put, after the port looked for a place
pub first-may : (to : ℕ) (l : Letter) (left rest : List Letter) (old mid : PortView) → left ≡ l ∷ rest → HasLooked to old mid → MayAllBePut (put_to old to) left → MayBePut (put_to mid to) l
first-may to l left rest old mid first looked may =
    let here : MayAllBePut (put_to old to) (l ∷ rest) = subst (MayAllBePut (put_to old to)) first may in
    may-looked to l old mid looked here.0

-- the first letter of a list was put, after the port looked for a place, behind those that were put before it
module _ (to : ℕ) (l : Letter) (before left rest : List Letter) (start old mid new : PortView) (first : left ≡ l ∷ rest) (looked : HasLooked to old mid) (puts : HasPut to l mid new) where
  longer-by : put_to new to ≡ put_to old to ++ l ∷ []
  longer-by = puts.put ∙ ap (λ (ls : ℕ → List Letter). ls to ++ l ∷ []) looked.put

  pub rest-may : MayAllBePut (put_to old to) left → MayAllBePut (put_to new to) rest
  rest-may may =
      let here : MayAllBePut (put_to old to) (l ∷ rest) = subst (MayAllBePut (put_to old to)) first may in
      subst (λ ls. MayAllBePut ls rest) (sym longer-by) here.1

  pub puts-more : PutsSome to before left start old → mid.into ≡ old.into → place_of mid ≡ place_of old → place_of new ≡ place_of mid → PutsSome to before rest start new
  puts-more some into place_mid place_new =
      record {
        letters = ap (λ ls. ls ++ rest) longer-by ∙ append_assoc (put_to old to) (l ∷ []) rest ∙ ap (λ ls. put_to old to ++ ls) (sym first) ∙ some.letters;
        fewer = omega (arith, some.fewer, ap length first);
        others = λ q other. (
          (puts.others q other).0 ∙ ap (λ (ls : ℕ → List Letter). ls q) looked.put ∙ (some.others q other).0,
          (puts.others q other).1 ∙ (looked.others q other).0 ∙ (some.others q other).1,
        );
        into = puts.into ∙ into ∙ some.into;
        place = place_new ∙ place_mid ∙ some.place;
      }

  pub fewer-left : PutsSome to before left start old → length rest < length before
  fewer-left some = omega (arith, some.fewer, ap length first)

-- no letter waits where it is not so that one does
pub waits-none : (ls : List Letter) (b : Bool) → (0 < length ls → b ≡ true) → b ≡ false → ls ≡ []
waits-none [] b some not = refl
waits-none (x ∷ xs) b some not =
    let e : true ≡ false = sym (some (omega arith)) ∙ not in
    absurd cc

-- ---- the first unsent packet

-- the packet that is taken out goes to its kernel
pub taken-to : (to : ℕ) (u : UnsentView) (sent : ℕ × Packet) (rest : List (ℕ × Packet)) → GoesFirst to u → u.items ≡ sent ∷ rest → sent.0 ≡ to
taken-to to u sent rest goes is = ap (λ xs. (get_or xs 0 sent).0) (sym is ∙ goes.items)

-- the first of packets, as it is read
pub first-goes : (xs ys : List (ℕ × Packet)) (x : ℕ × Packet) → 0 < length xs → x ≡ get_or xs 0 x → GoesFirst x.0 (record { items = xs ++ ys; whole = length xs })
first-goes [] ys x some is = absurd (omega (arith, some))
first-goes (z ∷ zs) ys x some is = record { some = some; packet = x.1; rest = zs ++ ys; items = ap (λ y. y ∷ (zs ++ ys)) (sym is) }

-- ---- a letter was put, or waits

module _ (W W' : ℕ → List Letter) (n : ℕ) (p : Packet) (left rest : List (ℕ × Packet)) (first : left ≡ (n, p) ∷ rest) where
  abbrev joined : ℕ → List Letter
  joined q = if_to q n (letter.Packet p)

  out : (q : ℕ) → W q ++ letters_for q left ≡ W q ++ (joined q ++ letters_for q rest)
  out q = ap (λ ls. W q ++ letters_for q ls) first

  -- the letter that is first may be put where none waits
  pub next-may : (put : ℕ → List Letter) → ((q : ℕ) → MayAllBePut (put q) (W q ++ letters_for q left)) → W n ≡ [] → MayBePut (put n) (letter.Packet p)
  next-may put may none =
      may-first (put n) (W n) (letters_for n rest) (letter.Packet p)
      (subst (MayAllBePut (put n)) (out n ∙ ap (λ ls. W n ++ (ls ++ letters_for n rest)) (if_to-same n n (letter.Packet p) (same-number n))) (may n)) none

  module _ (old new : PortView) (put : Bool) (one : PutsOne put n (letter.Packet p) W W' old new) where
    pub sent-letters : (q : ℕ) → put_to new q ++ (W' q ++ letters_for q rest) ≡ put_to old q ++ (W q ++ letters_for q left)
    sent-letters q =
        sym (append_assoc (put_to new q) (W' q) (letters_for q rest))
        ∙ ap (λ ls. ls ++ letters_for q rest) (one.letters q)
        ∙ append_assoc (put_to old q ++ W q) (joined q) (letters_for q rest)
        ∙ append_assoc (put_to old q) (W q) (joined q ++ letters_for q rest)
        ∙ ap (λ ls. put_to old q ++ ls) (sym (out q))

    pub sent-none : put ≡ false → (q : ℕ) → W' q ++ letters_for q rest ≡ W q ++ letters_for q left
    sent-none held q =
        ap (λ ls. ls ++ letters_for q rest) (one.waits q ∙ ap (λ b. W q ++ (if b then [] else joined q)) held)
        ∙ append_assoc (W q) (joined q) (letters_for q rest) ∙ sym (out q)

    stays : put ≡ true → (q : ℕ) → W' q ≡ W q
    stays went q = one.waits q ∙ ap (λ b. W q ++ (if b then [] else joined q)) went ∙ append-nil (W q)

    longer : (q : ℕ) → length (W q ++ letters_for q left) ≡ length (W q) + (length (joined q) + length (letters_for q rest))
    longer q = ap length (out q) ∙ length-append (W q) (joined q ++ letters_for q rest) ∙ ap (λ m. length (W q) + m) (length-append (joined q) (letters_for q rest))

    shorter : put ≡ true → (q : ℕ) → length (W' q ++ letters_for q rest) ≡ length (W q) + length (letters_for q rest)
    shorter went q = ap (λ ls. length (ls ++ letters_for q rest)) (stays went q) ∙ length-append (W q) (letters_for q rest)

    pub sent-fewer : (q : ℕ) → length (W' q ++ letters_for q rest) ≤ length (W q ++ letters_for q left)
    sent-fewer q = by put refl
      where
        by : (b : Bool) → put ≡ b → length (W' q ++ letters_for q rest) ≤ length (W q ++ letters_for q left)
        by true went = omega (arith, longer q, shorter went q)
        by false held = subst (λ ls. length ls ≤ length (W q ++ letters_for q left)) (sym (sent-none held q)) (omega arith)

    pub sent-some : put ≡ true → (q : ℕ) × (length (W' q ++ letters_for q rest) < length (W q ++ letters_for q left))
    sent-some went = (n, omega (arith, longer n, shorter went n, ap length (if_to-same n n (letter.Packet p) (same-number n))))

    pub sent-full : ((q : ℕ) → 0 < length (W q) → places_to old q ≡ 0) → (q : ℕ) → 0 < length (W' q) → places_to new q ≡ 0
    sent-full full q some = by put refl (eqb_tells q n)
      where
        by : (b : Bool) → put ≡ b → ((nat_eq q n ≡ true) × (q ≡ n)) ⊎ ((nat_eq q n ≡ false) × (q ≢ n)) → places_to new q ≡ 0
        by true went (inl e) = absurd (omega (arith, some, ap length (stays went q), ap (λ m. length (W m)) e.1, ap length (one.none went)))
        by false held (inl e) = ap (places_to new) e.1 ∙ one.full held
        by true went (inr e) = one.others q e.1 ∙ full q (subst (λ ls. 0 < length ls) (stays went q) some)
        by false held (inr e) =
            one.others q e.1 ∙ full q (subst (λ ls. 0 < length ls) (one.waits q ∙ ap (λ b. W q ++ (if b then [] else joined q)) held ∙ ap (λ ls. W q ++ ls) (if_to-other q n (letter.Packet p) e.0) ∙ append-nil (W q)) some)

    pub sent-may : ((q : ℕ) → MayAllBePut (put_to old q) (W q ++ letters_for q left)) → (q : ℕ) → MayAllBePut (put_to new q) (W' q ++ letters_for q rest)
    sent-may may q = may-rest (put_to old q) (put_to new q) (W q ++ letters_for q left) (W' q ++ letters_for q rest) (sent-letters q) (sent-fewer q) (may q)

-- ---- whether something was put, in one of two steps

pub some-more : (a b r : Bool) (before mid after : ℕ → List Letter) → r ≡ (a || b) → (a ≡ true → (q : ℕ) × (length (mid q) < length (before q))) → (b ≡ true → (q : ℕ) × (length (after q) < length (mid q)))
    → ((q : ℕ) → length (mid q) ≤ length (before q)) → ((q : ℕ) → length (after q) ≤ length (mid q)) → r ≡ true → (q : ℕ) × (length (after q) < length (before q))
some-more true b r before mid after is first second fewer less e = let p = first refl in (p.0, omega (arith, p.1, less p.0))
some-more false b r before mid after is first second fewer less e = let p = second (sym is ∙ e) in (p.0, omega (arith, p.1, fewer p.0))

pub none-more : (a b r : Bool) (before mid after : ℕ → List Letter) → r ≡ (a || b) → (a ≡ false → (q : ℕ) → mid q ≡ before q) → (b ≡ false → (q : ℕ) → after q ≡ mid q)
    → r ≡ false → (q : ℕ) → after q ≡ before q
none-more true b r before mid after is first second e q = let never : true ≡ false = sym is ∙ e in cc
none-more false b r before mid after is first second e q = second (sym is ∙ e) q ∙ first refl q

-- where nothing was put in either, nothing changed
pub same-more : {P : Type 0} (a b r : Bool) (old mid new : P) → r ≡ (a || b) → (a ≡ false → mid ≡ old) → (b ≡ false → new ≡ mid) → r ≡ false → new ≡ old
same-more true b r old mid new is first second e = let never : true ≡ false = sym is ∙ e in cc
same-more false b r old mid new is first second e = second (sym is ∙ e) ∙ first refl

-- letters that wait were put, and the unsent are as before
pub both-letters : (put_before put_after waited waiting unsent_before unsent : List Letter) → put_after ++ waiting ≡ put_before ++ waited → unsent ≡ unsent_before → put_after ++ (waiting ++ unsent) ≡ put_before ++ (waited ++ unsent_before)
both-letters put_before put_after waited waiting unsent_before unsent whole same =
    sym (append_assoc put_after waiting unsent) ∙ ap (λ ls. ls ++ unsent) whole ∙ append_assoc put_before waited unsent ∙ ap (λ ls. put_before ++ (waited ++ ls)) same

pub both-fewer : (waited waiting unsent_before unsent : List Letter) → length waiting ≤ length waited → unsent ≡ unsent_before → length (waiting ++ unsent) ≤ length (waited ++ unsent_before)
both-fewer waited waiting unsent_before unsent fewer same = omega (arith, length-append waiting unsent, length-append waited unsent_before, fewer, ap length same)

pub both-less : (waited waiting unsent_before unsent : List Letter) → length waiting < length waited → unsent ≡ unsent_before → length (waiting ++ unsent) < length (waited ++ unsent_before)
both-less waited waiting unsent_before unsent less same = omega (arith, length-append waiting unsent, length-append waited unsent_before, less, ap length same)
