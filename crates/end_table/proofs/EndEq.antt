-- `end_eq` decides whether two ends are the same, and what `put` gives at each end.
use Rattle.std.proofs.Common.{◌≡◌, Bool, true, false, cond, ap, rules}
use Rattle.charlotte_calls.specs.declared.names.EndId.{EndId}
use Rattle.end_table.specs.declared.entry.Entry.{Entry}
use Rattle.end_table.specs.Place.{end_eq, put}

pub end_eq-same : (a b : EndId) → end_eq a b ≡ true → a ≡ b
unfolding end_eq
end_eq-same a b h = search rules

pub end_eq-refl : (a : EndId) → end_eq a a ≡ true
unfolding end_eq
end_eq-refl a = search rules

pub end_eq-sym : (a b : EndId) → end_eq a b ≡ end_eq b a
unfolding end_eq
end_eq-sym a b = search rules

pub put-at : (t : EndId → Entry) (e : EndId) (x : Entry) → put t e x e ≡ x
unfolding put
put-at t e x = ap (λ b. cond b x (t e)) (end_eq-refl e)

pub put-other : (t : EndId → Entry) (e : EndId) (x : Entry) (q : EndId) → end_eq e q ≡ false → put t e x q ≡ t q
unfolding put
put-other t e x q h = ap (λ b. cond b x (t q)) h

-- the later of two entries put at one end stands
pub put-put : (t : EndId → Entry) (e : EndId) (x y : Entry) → put (put t e x) e y ≡ put t e y
unfolding put
put-put t e x y = λ i q. by (end_eq e q) (t q) i
  where
    by : (b : Bool) (z : Entry) → cond b y (cond b x z) ≡ cond b y z
    by true z = search rules
    by false z = search rules
