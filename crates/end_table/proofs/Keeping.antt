-- What is kept of ends, as it changes, and two lists of it joined.
use Rattle.std.proofs.Common.{◌≡◌, ◌≤◌, ◌<◌, ◌+◌, ◌||◌, ◌++◌, Bool, true, false, true≢false, List, [], ◌∷◌, length, Option, None, Some, IsSome, is_some, cond, if◌then◌else◌, refl, sym, ap, subst, ◌∙◌, arith}
use Rattle.std.specs.HashMap.{HashMap, spare}
use Rattle.std.specs.List.{AllByRecursion, IsDistinct, list_any}
use Rattle.std.specs.Map.{lookup, keys_of}
use Rattle.std.proofs.lemmas.Map.Steps.{length-le_from_keys}
use Rattle.std.proofs.lemmas.Map.Made.{is_some-lookup}
use Rattle.std.proofs.lemmas.Map.Entries.{length-keys_of}
use Rattle.std.proofs.lemmas.Map.Keys.{IsDistinct-cons}
use Rattle.charlotte_calls.specs.declared.names.EndId.{EndId}
use Rattle.end_table.specs.Kept.{KeptView, HasAt, HasRoom, joined}
use Rattle.end_table.specs.Place.{end_eq}
use Rattle.end_table.proofs.EndEq.{end_eq-same}
use Rattle.end_table.proofs.Owned.{end_eq-equivalence}

-- what is new takes one place of the room
pub room-put : {A S : Type 0} (m n : HashMap EndId A S) {old : Option A} → old ≡ None
    → length n.entries ≡ length m.entries + (if is_some old then 0 else 1) → spare m ≤ spare n + 1
    → length m.entries + spare m ≤ length n.entries + spare n
room-put {A} m n none len room = let more = len ∙ ap (λ (o : Option A). length m.entries + (if is_some o then 0 else 1)) none in omega arith

-- what is removed may take a place of the room along
pub room-removed : {A S : Type 0} (m n : HashMap EndId A S) (b : Bool) → length n.entries + (if b then 1 else 0) ≡ length m.entries → spare m ≤ spare n
    → length m.entries + spare m ≤ (length n.entries + spare n) + 1
room-removed m n true len room = omega arith
room-removed m n false len room = omega arith

-- nothing changes where there is nothing to remove
pub HasAt-none : {A : Type 0} (v : KeptView A) (end : EndId) → lookup (end_eq end) v.kept ≡ None → HasAt v v end None
HasAt-none v end none q = by (end_eq end q) refl
  where
    by : (b : Bool) → end_eq end q ≡ b → lookup (end_eq q) v.kept ≡ cond b None (lookup (end_eq q) v.kept)
    by true same = subst (λ z. lookup (end_eq z) v.kept ≡ None) (end_eq-same end q same) none
    by false apart = refl

-- no key is the same as one that is not among them
apart_from : (q : EndId) (xs : List EndId) → list_any (end_eq q) xs ≡ false → AllByRecursion (λ y. end_eq q y ≡ false) xs
apart_from q [] h = tt
apart_from q (x ∷ xs) h = by (end_eq q x) refl h (apart_from q xs)
  where
    by : (b : Bool) → end_eq q x ≡ b → (b || list_any (end_eq q) xs) ≡ false → (list_any (end_eq q) xs ≡ false → AllByRecursion (λ y. end_eq q y ≡ false) xs)
        → AllByRecursion (λ y. end_eq q y ≡ false) (x ∷ xs)
    by true is h rest = absurd (true≢false h)
    by false is h rest = (is, rest h)

-- where nothing is kept yet of an end that there is room for, there is a place of the room left
pub has_room : {A : Type 0} (v : KeptView A) (end : EndId) → HasRoom v end → IsDistinct end_eq (keys_of v.kept) → lookup (end_eq end) v.kept ≡ None → length v.kept < v.most
has_room v end at distinct none =
    let fits = length-le_from_keys end_eq-equivalence (end ∷ keys_of v.kept) at.places (IsDistinct-cons end_eq end (keys_of v.kept) (apart_from end (keys_of v.kept) (sym (is_some-lookup (end_eq end) v.kept) ∙ ap is_some none)) distinct)
    (λ q h. within q (end_eq q end) refl h) in
    let same = length-keys_of v.kept in
    let room = at.room in
    omega arith
  where
    within : (q : EndId) (b : Bool) → end_eq q end ≡ b → list_any (end_eq q) (end ∷ keys_of v.kept) ≡ true → IsSome (lookup (end_eq q) at.places)
    within q true same h = subst (λ z. IsSome (lookup (end_eq z) at.places)) (sym (end_eq-same q end same)) at.place
    within q false apart h =
        at.among q (is_some-lookup (end_eq q) v.kept ∙ subst (λ b. (b || list_any (end_eq q) (keys_of v.kept)) ≡ true) apart h)

-- what is not there is `None`
pub none_from_is_some : {X : Type 0} (o : Option X) → is_some o ≡ false → o ≡ None
none_from_is_some None h = refl
none_from_is_some (Some x) h = absurd (true≢false h)

pub some_not_none : {X : Type 0} (o : Option X) → is_some o ≡ true → o ≡ None → ⊥
some_not_none o some none = true≢false (sym some ∙ ap is_some none)

-- the first that there is
abbrev pub first_of : {A : Type 0} → Option A → Option A → Option A
first_of (Some x) o = Some x
first_of None o = o

-- what is kept in two lists is what the first has, and else the second
pub lookup-joined : {A : Type 0} (test : EndId → Bool) (xs ys : List (EndId × A)) → lookup test (xs ++ ys) ≡ first_of (lookup test xs) (lookup test ys)
lookup-joined test [] ys = refl
lookup-joined test (x ∷ xs) ys = by (test x.0) (lookup-joined test xs ys)
  where
    by : (b : Bool) → lookup test (xs ++ ys) ≡ first_of (lookup test xs) (lookup test ys) → (if b then Some x.1 else lookup test (xs ++ ys)) ≡ first_of (if b then Some x.1 else lookup test xs) (lookup test ys)
    by true rest = refl
    by false rest = rest

module _ {A : Type 0} (first second : KeptView A) (end : EndId) where
  -- with nothing in the first, the second is what there is
  pub joined-none : lookup (end_eq end) first.kept ≡ None → lookup (end_eq end) (joined first second).kept ≡ lookup (end_eq end) second.kept
  joined-none none = lookup-joined (end_eq end) first.kept second.kept ∙ ap (λ o. first_of o (lookup (end_eq end) second.kept)) none

  -- what is there in the first is there
  pub joined-some : (x : A) → lookup (end_eq end) first.kept ≡ Some x → lookup (end_eq end) (joined first second).kept ≡ Some x
  joined-some x some = lookup-joined (end_eq end) first.kept second.kept ∙ ap (λ o. first_of o (lookup (end_eq end) second.kept)) some

  -- neither has what both together have not
  pub first-none : lookup (end_eq end) (joined first second).kept ≡ None → lookup (end_eq end) first.kept ≡ None
  first-none none = by (lookup (end_eq end) first.kept) refl
    where
      by : (o : Option A) → lookup (end_eq end) first.kept ≡ o → o ≡ None
      by None is = refl
      by (Some x) is = absurd (some_not_none _ (ap is_some (joined-some x is)) none)

  pub second-none : lookup (end_eq end) (joined first second).kept ≡ None → lookup (end_eq end) second.kept ≡ None
  second-none none = sym (joined-none (first-none none)) ∙ none

  -- where there is room in both together, there is in each
  pub HasRoom-first : HasRoom (joined first second) end → HasRoom first end
  HasRoom-first at =
      record {
        places = at.places;
        place = at.place;
        among = λ q some. at.among q (lookup_in (lookup (end_eq q) first.kept) q refl some);
        room = let room = at.room in omega arith;
      }
    where
      lookup_in : (o : Option A) (q : EndId) → lookup (end_eq q) first.kept ≡ o → is_some o ≡ true → is_some (lookup (end_eq q) (first.kept ++ second.kept)) ≡ true
      lookup_in None q is some = absurd (true≢false (sym some))
      lookup_in (Some x) q is some = ap is_some (lookup-joined (end_eq q) first.kept second.kept) ∙ ap (λ o. is_some (first_of o (lookup (end_eq q) second.kept))) is

  pub HasRoom-second : HasRoom (joined first second) end → HasRoom second end
  HasRoom-second at =
      record {
        places = at.places;
        place = at.place;
        among = λ q some. at.among q (ap is_some (lookup-joined (end_eq q) first.kept second.kept) ∙ either (lookup (end_eq q) first.kept) (lookup (end_eq q) second.kept) some);
        room = let room = at.room in omega arith;
      }
    where
      either : (o p : Option A) → is_some p ≡ true → is_some (first_of o p) ≡ true
      either None p some = some
      either (Some x) p some = refl

module _ {A : Type 0} (first second : KeptView A) (end : EndId) where
  -- what the first gets of an end there is of it
  pub HasAt-first : (to : KeptView A) (x : A) → HasAt first to end (Some x) → HasAt (joined first second) (joined to second) end (Some x)
  HasAt-first to x has q =
      lookup-joined (end_eq q) to.kept second.kept ∙ ap (λ o. first_of o (lookup (end_eq q) second.kept)) (has q)
      ∙ by (end_eq end q) ∙ ap (cond (end_eq end q) (Some x)) (sym (lookup-joined (end_eq q) first.kept second.kept))
    where
      by : (b : Bool) → first_of (cond b (Some x) (lookup (end_eq q) first.kept)) (lookup (end_eq q) second.kept) ≡ cond b (Some x) (first_of (lookup (end_eq q) first.kept) (lookup (end_eq q) second.kept))
      by true = refl
      by false = refl

  -- and what the second gets of an end that the first has nothing of
  pub HasAt-second : (to : KeptView A) (x : A) → lookup (end_eq end) first.kept ≡ None → HasAt second to end (Some x) → HasAt (joined first second) (joined first to) end (Some x)
  HasAt-second to x none has q =
      lookup-joined (end_eq q) first.kept to.kept ∙ ap (first_of (lookup (end_eq q) first.kept)) (has q)
      ∙ by (end_eq end q) refl ∙ ap (cond (end_eq end q) (Some x)) (sym (lookup-joined (end_eq q) first.kept second.kept))
    where
      by : (b : Bool) → end_eq end q ≡ b → first_of (lookup (end_eq q) first.kept) (cond b (Some x) (lookup (end_eq q) second.kept)) ≡ cond b (Some x) (first_of (lookup (end_eq q) first.kept) (lookup (end_eq q) second.kept))
      by true same = ap (λ o. first_of o (Some x)) (subst (λ z. lookup (end_eq z) first.kept ≡ None) (end_eq-same end q same) none)
      by false apart = refl

  -- what both forget there is not
  pub HasAt-both : (to to₂ : KeptView A) → HasAt first to end None → HasAt second to₂ end None → HasAt (joined first second) (joined to to₂) end None
  HasAt-both to to₂ has has₂ q =
      lookup-joined (end_eq q) to.kept to₂.kept ∙ ap (λ o. first_of o (lookup (end_eq q) to₂.kept)) (has q) ∙ ap (first_of (cond (end_eq end q) None (lookup (end_eq q) first.kept))) (has₂ q)
      ∙ by (end_eq end q) ∙ ap (cond (end_eq end q) None) (sym (lookup-joined (end_eq q) first.kept second.kept))
    where
      by : (b : Bool) → first_of (cond b None (lookup (end_eq q) first.kept)) (cond b None (lookup (end_eq q) second.kept)) ≡ cond b None (first_of (lookup (end_eq q) first.kept) (lookup (end_eq q) second.kept))
      by true = refl
      by false = refl
