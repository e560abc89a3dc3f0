-- The packets of an event, as they lie: what joins them, and what leaves.
use Rattle.std.proofs.Common.{◌≡◌, ℕ, ◌+◌, ◌<◌, ◌≤◌, List, [], ◌∷◌, ◌++◌, length, suc, take, drop, ◌⊎◌, inl, inr, arith, ap, sym, subst, refl, ◌∙◌}
use Rattle.std.proofs.lemmas.List.{append_assoc, drop-append-le, length-append, take-append-le}
use Rattle.std.proofs.lemmas.Bool.{cases_lt}
use Rattle.charlotte_calls.specs.declared.names.EndId.{EndId}
use Rattle.charlotte_packets.specs.Sent.{packets_of, wholes, AreBrief, IsListed, ListView, most_whole}
use Rattle.charlotte_packets.specs.declared.brief.Brief.{Brief}
use Rattle.charlotte_packets.specs.declared.brief.Brief.TheVariants as brief
use Rattle.charlotte_packets.specs.declared.packet.Packet.{Packet}
use Rattle.charlotte_packets.specs.declared.packet.What.TheVariants as packet

-- one that tells of destruction joins them
pub gone-joins : (to at stamp : ℕ) (end : EndId) (bs : List Brief) (ps : List Packet)
    → packets_of (bs ++ brief.Gone to at end stamp ∷ []) ps ≡ packets_of bs ps ++ (to, record { stamp = stamp; what = packet.Gone end at }) ∷ []
gone-joins to at stamp end [] ps = refl
gone-joins to at stamp end (brief.Gone t a e s ∷ bs) ps = ap (λ l. (t, record { stamp = s; what = packet.Gone e a }) ∷ l) (gone-joins to at stamp end bs ps)
gone-joins to at stamp end (brief.Whole t ∷ bs) [] = gone-joins to at stamp end bs []
gone-joins to at stamp end (brief.Whole t ∷ bs) (p ∷ ps) = ap (λ l. (t, p) ∷ l) (gone-joins to at stamp end bs ps)

-- one that lies whole joins them
pub whole-joins : (to : ℕ) (q : Packet) (bs : List Brief) (ps : List Packet) → wholes bs ≡ length ps → packets_of (bs ++ brief.Whole to ∷ []) (ps ++ q ∷ []) ≡ packets_of bs ps ++ (to, q) ∷ []
whole-joins to q [] [] all = refl
whole-joins to q [] (p ∷ ps) all = absurd (let none : 0 ≡ suc (length ps) = all in omega arith)
whole-joins to q (brief.Gone t a e s ∷ bs) ps all = ap (λ l. (t, record { stamp = s; what = packet.Gone e a }) ∷ l) (whole-joins to q bs ps all)
whole-joins to q (brief.Whole t ∷ bs) [] all = absurd (let none : suc (wholes bs) ≡ 0 = all in omega arith)
whole-joins to q (brief.Whole t ∷ bs) (p ∷ ps) all = ap (λ l. (t, p) ∷ l) (whole-joins to q bs ps (let more : suc (wholes bs) ≡ suc (length ps) = all in omega arith))

gone-wholes : (to at stamp : ℕ) (end : EndId) (bs : List Brief) → wholes (bs ++ brief.Gone to at end stamp ∷ []) ≡ wholes bs
gone-wholes to at stamp end [] = refl
gone-wholes to at stamp end (brief.Gone t a e s ∷ bs) = gone-wholes to at stamp end bs
gone-wholes to at stamp end (brief.Whole t ∷ bs) = ap suc (gone-wholes to at stamp end bs)

one-whole : (to : ℕ) (bs : List Brief) → wholes (bs ++ brief.Whole to ∷ []) ≡ suc (wholes bs)
one-whole to [] = refl
one-whole to (brief.Gone t a e s ∷ bs) = one-whole to bs
one-whole to (brief.Whole t ∷ bs) = ap suc (one-whole to bs)

-- there are as many packets as there are briefs, and no more lie whole
pub as-many : (bs : List Brief) (ps : List Packet) → wholes bs ≡ length ps → length (packets_of bs ps) ≡ length bs
as-many [] ps all = refl
as-many (brief.Gone t a e s ∷ bs) ps all = ap suc (as-many bs ps all)
as-many (brief.Whole t ∷ bs) [] all = absurd (let none : suc (wholes bs) ≡ 0 = all in omega arith)
as-many (brief.Whole t ∷ bs) (p ∷ ps) all = ap suc (as-many bs ps (let more : suc (wholes bs) ≡ suc (length ps) = all in omega arith))

pub no-more : (bs : List Brief) → wholes bs ≤ length bs
no-more [] = omega arith
no-more (brief.Gone t a e s ∷ bs) = let fewer : wholes bs ≤ length bs = no-more bs in omega arith
no-more (brief.Whole t ∷ bs) = let fewer : wholes bs ≤ length bs = no-more bs in omega arith

-- what is true of the lists of brief packets stays so
module _ (bs cs : List Brief) (ps : List Packet) (b w b' fits : ℕ) (is : AreBrief bs ps b w fits) (to : ℕ) (p : Packet) (room : b' ≡ b) where
  pub gone-brief : (at : ℕ) (end : EndId) → cs ≡ bs ++ brief.Gone to at end p.stamp ∷ [] → AreBrief cs ps b' w fits
  gone-brief at end joined =
      record {
        all = ap wholes joined ∙ gone-wholes to at p.stamp end bs ∙ is.all;
        briefs = subst (λ n. fits ≤ n) (sym room) is.briefs;
        whole = is.whole;
      }

  pub gone-sent : (at : ℕ) (end : EndId) → p.what ≡ packet.Gone end at → cs ≡ bs ++ brief.Gone to at end p.stamp ∷ [] → packets_of cs ps ≡ packets_of bs ps ++ (to, p) ∷ []
  gone-sent at end tells joined =
      ap (λ l. packets_of l ps) joined ∙ gone-joins to at p.stamp end bs ps
      ∙ ap (λ what. packets_of bs ps ++ (to, record { stamp = p.stamp; what = what }) ∷ []) (sym tells)

  pub whole-brief : (qs : List Packet) (w' : ℕ) → w' ≡ w → qs ≡ ps ++ p ∷ [] → cs ≡ bs ++ brief.Whole to ∷ [] → AreBrief cs qs b' w' fits
  whole-brief qs w' other more joined =
      record {
        all = ap wholes joined ∙ one-whole to bs ∙ (let long : length qs ≡ length ps + 1 = ap length more ∙ length-append ps (p ∷ []) in omega (arith, is.all, long));
        briefs = subst (λ n. fits ≤ n) (sym room) is.briefs;
        whole = subst (λ n. fits ≤ n) (sym other) is.whole;
      }

  pub whole-sent : (qs : List Packet) → qs ≡ ps ++ p ∷ [] → cs ≡ bs ++ brief.Whole to ∷ [] → packets_of cs qs ≡ packets_of bs ps ++ (to, p) ∷ []
  whole-sent qs more joined = ap (λ l. packets_of l qs) joined ∙ ap (packets_of (bs ++ brief.Whole to ∷ [])) more ∙ whole-joins to p bs ps is.all

-- where there is room for one more, each list has it
pub room-left : (bs : List Brief) (ps : List Packet) (b w fits : ℕ) → AreBrief bs ps b w fits → length (packets_of bs ps) < fits → (length bs < b) × (length ps < w)
room-left bs ps b w fits is less =
    let many : length (packets_of bs ps) ≡ length bs = as-many bs ps is.all in
    let fewer : wholes bs ≤ length bs = no-more bs in
    (omega (arith, many, less, is.briefs), omega (arith, many, fewer, less, is.all, is.whole))

-- there are no packets exactly where there is no brief
pub none-briefs : (bs : List Brief) (ps : List Packet) → wholes bs ≡ length ps → packets_of bs ps ≡ [] → length bs ≡ 0
none-briefs bs ps all none = sym (as-many bs ps all) ∙ ap length none

-- ---- the list of an event's packets: the first ones, and those behind them

module _ (whole : List (ℕ × Packet)) (room : ℕ) (behind : ListView) (fits : ℕ) (is : IsListed whole room behind fits) where
  -- the first n packets, of so many, are those that lie whole
  pub within-whole : (n : ℕ) → n ≤ most_whole → n ≤ length (whole ++ behind.items) → n ≤ length whole
  within-whole n few within = by (cases_lt (length whole) most_whole)
    where
      long : length (whole ++ behind.items) ≡ length whole + length behind.items
      long = length-append whole behind.items

      by : (length whole < most_whole) ⊎ (most_whole ≤ length whole) → n ≤ length whole
      by (inl less) = let none : length behind.items ≡ 0 = ap length (is.few less) in omega (arith, within, long, none)
      by (inr more) = omega (arith, few, more)

-- what goes behind others in a part of a list
pub behind-in-part : {X : Type 0} (first upto : ℕ) (xs ys : List X) → upto ≤ length xs → ((drop first (take upto xs) ++ take first (take upto xs)) ++ drop upto xs) ++ ys ≡ (drop first (take upto (xs ++ ys)) ++ take first (take upto (xs ++ ys))) ++ drop upto (xs ++ ys)
behind-in-part first upto xs ys within =
    append_assoc (drop first (take upto xs) ++ take first (take upto xs)) (drop upto xs) ys
    ∙ ap (λ l. (drop first (take upto xs) ++ take first (take upto xs)) ++ l) (sym (drop-append-le upto xs ys within))
    ∙ ap (λ l. (drop first l ++ take first l) ++ drop upto (xs ++ ys)) (sym (take-append-le upto xs ys within))

pub none-first : {X : Type 0} (xs ys : List X) → xs ++ ys ≡ [] → length xs ≡ 0
none-first xs ys none =
    let long : length (xs ++ ys) ≡ length xs + length ys = length-append xs ys in
    let empty : length (xs ++ ys) ≡ 0 = ap length none in
    omega (arith, long, empty)

-- where there is room for one more, it is within the room
module _ {X : Type 0} (fits : ℕ) (xs ys zs : List X) (x : X) (less : length (xs ++ ys) < fits) where
  long : length (xs ++ ys) ≡ length xs + length ys
  long = length-append xs ys

  pub one-in-front : zs ≡ xs ++ x ∷ [] → length zs + length ys ≤ fits
  one-in-front joined = let longer : length zs ≡ length xs + 1 = ap length joined ∙ length-append xs (x ∷ []) in omega (arith, less, long, longer)

  pub one-behind : zs ≡ ys ++ x ∷ [] → length xs + length zs ≤ fits
  one-behind joined = let longer : length zs ≡ length ys + 1 = ap length joined ∙ length-append ys (x ∷ []) in omega (arith, less, long, longer)

-- where none are, there need be no room
pub none-listed : (xs ys : List (ℕ × Packet)) (most : ℕ) (behind : ListView) → xs ++ behind.items ≡ [] → ys ≡ xs → IsListed ys most behind 0
none-listed [] ys most behind none same =
    record {
      few = λ _. none;
      first = λ n less fits. absurd (omega (arith, fits));
      others = omega arith;
      room = omega arith;
      within = omega (arith, ap length same, ap length none);
    }
none-listed (x ∷ xs) ys most behind none same = absurd (let some : suc (length (xs ++ behind.items)) ≡ 0 = ap length none in omega (arith, some))
