-- Values and entries that name the first n kernels alone.
use Rattle.std.proofs.Common.{◌≡◌, ℕ, ◌<◌, ◌^◌, Bool, true, false, ◌&&◌, if◌then◌else◌, List, [], ◌∷◌, ◌++◌, map, refl, ap, ◌∙◌, lt-ltb, ltb-true, pow_pos}
use Rattle.std.proofs.Math.Pow.{pow-lt}
use Rattle.std.proofs.lemmas.Bool.{and_parts}
use Rattle.std.proofs.lemmas.Nat.{or_lt}
use Rattle.std.specs.List.{AllByRecursion, list_all}
use Rattle.charlotte_packets.specs.Packets.{names_kernels_below}
use Rattle.charlotte_calls.specs.declared.names.EndId.{EndId}
use Rattle.charlotte_calls.specs.declared.names.Way.{Way}
use Rattle.charlotte_calls.specs.declared.names.Way.TheVariants as way
use Rattle.charlotte_packets.specs.declared.picture.MovingPicture.{MovingPicture}
use Rattle.end_table.specs.Entries.{ended_entry, gains_one, is_news, learned, left_entry, left_value, settled}
use Rattle.end_table.specs.Place.{end_eq, put}
use Rattle.end_table.specs.declared.entry.Entry.{Entry}
use Rattle.end_table.specs.declared.entry.Entry.TheVariants as entry
use Rattle.end_table.specs.declared.entry.HereView.{HereView}
use Rattle.end_table.specs.declared.entry.Holder.{Holder}
use Rattle.kernel_step.specs.Actions.{here, value_leaving, values_leaving}
use Rattle.kernel_step.specs.Kernel.{reported_entry}
use Rattle.kernel_step.specs.Rows.{arriving, is_carried, passing}
use Rattle.kernel_named.specs.Named.{NamesBelow, TableNamesBelow}

pub both : (a b : Bool) → a ≡ true → b ≡ true → (a && b) ≡ true
both a b first second = ap (λ z. z && b) first ∙ second

module _ (n : ℕ) where
  -- ---- values

  abbrev pub IsNamed : MovingPicture → Type 0
  IsNamed m = names_kernels_below n m ≡ true

  pub hint-below : (m : MovingPicture) → IsNamed m → m.hint.0 < n
  hint-below m is = ltb-true m.hint.0 n (and_parts _ _ is).0

  pub trail-below : (m : MovingPicture) → IsNamed m → m.trail < 2 ^ n
  trail-below m is = ltb-true m.trail (2 ^ n) (and_parts _ _ is).1

  pub named : (m : MovingPicture) → m.hint.0 < n → m.trail < 2 ^ n → IsNamed m
  named m hint trail = both _ _ (lt-ltb m.hint.0 n hint) (lt-ltb m.trail (2 ^ n) trail)

  pub cleared-named : (m : MovingPicture) → IsNamed m → IsNamed (record m { trail = 0 })
  cleared-named m is = named (record m { trail = 0 }) (hint-below m is) (pow_pos n)

  pub learned-named : (at hops : ℕ) (m : MovingPicture) → at < n → IsNamed m → IsNamed (learned at hops m)
  learned-named at hops m below is = by (is_news m hops)
    where
      by : (b : Bool) → IsNamed (if b then record m { hint = (at, hops) } else m)
      by true = named (record m { hint = (at, hops) }) below (trail-below m is)
      by false = is

  pub left-named : (k : ℕ) (m : MovingPicture) → k < n → IsNamed m → IsNamed (left_value k m)
  left-named k m below is = named (left_value k m) (hint-below m is) (or_lt n m.trail (2 ^ k) (trail-below m is) (pow-lt below))

  -- several
  pub values-named : (ms : List MovingPicture) → list_all (names_kernels_below n) ms ≡ true → AllByRecursion IsNamed ms
  values-named [] are = tt
  values-named (m ∷ ms) are = ((and_parts _ _ are).0, values-named ms (and_parts _ _ are).1)

  pub named-values : (ms : List MovingPicture) → AllByRecursion IsNamed ms → list_all (names_kernels_below n) ms ≡ true
  named-values [] are = refl
  named-values (m ∷ ms) are = both _ _ are.0 (named-values ms are.1)

  -- those that leave kernel k
  pub leaving-named : (k : ℕ) (t : EndId → Entry) (xs : List EndId) → k < n → TableNamesBelow n t → list_all (names_kernels_below n) (values_leaving k t xs) ≡ true
  unfolding values_leaving
  leaving-named k t [] below names = refl
  leaving-named k t (x ∷ xs) below names = by (t x) (names x) (leaving-named k t xs below names)
    where
      by : (y : Entry) → NamesBelow n y → list_all (names_kernels_below n) (values_leaving k t xs) ≡ true → list_all (names_kernels_below n) (value_leaving k (here y) ++ values_leaving k t xs) ≡ true
      by entry.Nothing is others = others
      by (entry.Here v) is others = both _ _ (left-named k v.value below is) others
      by (entry.Left to hops) is others = others
      by (entry.Destroyed m) is others = others

  pub left-values : (k : ℕ) → k < n → (ms : List MovingPicture) → AllByRecursion IsNamed ms → list_all (names_kernels_below n) (map (left_value k) ms) ≡ true
  left-values k below [] are = refl
  left-values k below (m ∷ ms) are = both _ _ (left-named k m below are.0) (left-values k below ms are.1)

  -- those that pass on, and those that arrive
  pub passing-named : (k made : ℕ) (t : EndId → Entry) (ms : List MovingPicture) → AllByRecursion IsNamed ms → AllByRecursion IsNamed (passing k made t ms)
  passing-named k made t [] are = tt
  passing-named k made t (m ∷ ms) are = by (is_carried k made t m) (passing-named k made t ms are.1)
    where
      by : (b : Bool) → AllByRecursion IsNamed (passing k made t ms) → AllByRecursion IsNamed (if b then m ∷ passing k made t ms else passing k made t ms)
      by true others = (are.0, others)
      by false others = others

  pub arriving-named : (k made : ℕ) (h : Holder) (t : EndId → Entry) (ms : List MovingPicture) → AllByRecursion IsNamed ms → AllByRecursion IsNamed (arriving k made h t ms)
  arriving-named k made h t [] are = tt
  arriving-named k made h t (m ∷ ms) are = by (is_carried k made t m) (arriving-named k made h (put t m.end (entry.Here (settled h m))) ms are.1) (arriving-named k made h t ms are.1)
    where
      behind : List MovingPicture
      behind = arriving k made h (put t m.end (entry.Here (settled h m))) ms

      by : (b : Bool) → AllByRecursion IsNamed behind → AllByRecursion IsNamed (arriving k made h t ms) → AllByRecursion IsNamed (if b then m ∷ behind else arriving k made h t ms)
      by true carried others = (are.0, carried)
      by false carried others = others

  -- ---- entries

  pub left_entry-names : (to : ℕ) (m : MovingPicture) → to < n → NamesBelow n (left_entry to m)
  left_entry-names to m below = by m.dead
    where
      by : (b : Bool) → NamesBelow n (if b then entry.Nothing else entry.Left to (gains_one m.hops))
      by true = tt
      by false = below

  pub ended_entry-names : (m : MovingPicture) → IsNamed m → NamesBelow n (ended_entry m)
  ended_entry-names m is = by m.dead
    where
      by : (b : Bool) → NamesBelow n (if b then entry.Nothing else entry.Destroyed m)
      by true = tt
      by false = is

  pub reported-names : (x : Way) (y : Entry) → NamesBelow n y → NamesBelow n (reported_entry x y)
  reported-names x entry.Nothing is = tt
  reported-names way.Outward (entry.Here v) is = is
  reported-names way.Inward (entry.Here v) is = is
  reported-names x (entry.Left to hops) is = is
  reported-names x (entry.Destroyed m) is = is

  -- ---- tables

  pub put-names : (t : EndId → Entry) (e : EndId) (x : Entry) → TableNamesBelow n t → NamesBelow n x → TableNamesBelow n (put t e x)
  unfolding put
  put-names t e x names is q = by (end_eq e q)
    where
      by : (b : Bool) → NamesBelow n (if b then x else t q)
      by true = is
      by false = names q
