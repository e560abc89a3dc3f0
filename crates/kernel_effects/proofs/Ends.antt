-- END of several ends.
use Rattle.std.proofs.Common.{◌≡◌, ℕ, Bool, true, false, ◌||◌, List, [], ◌∷◌, ◌++◌, refl, sym, ap, subst, ◌∙◌, append-nil, if◌then◌else◌}
use Rattle.std.proofs.lemmas.Grind.{flat_map-append}
use Rattle.std.proofs.lemmas.List.Folds.{list_any-append}
use Rattle.std.specs.List.{flat_map, list_any}
use Rattle.charlotte_calls.specs.declared.names.EndId.{EndId}
use Rattle.end_table.proofs.EndEq.{end_eq-same, end_eq-sym, put-other}
use Rattle.end_table.specs.Entries.{ended_entry}
use Rattle.end_table.specs.Place.{end_eq}
use Rattle.end_table.specs.Table.{IsOfEnd}
use Rattle.end_table.specs.declared.entry.Entry.{Entry}
use Rattle.end_table.specs.declared.entry.Entry.TheVariants as entry
use Rattle.end_table.specs.declared.entry.HereView.{HereView}
use Rattle.kernel_step.proofs.EnclosedEnds.{first_false, second_false}
use Rattle.kernel_step.proofs.Folds.{AreDifferent, AreOwn, AreOwn-put}
use Rattle.kernel_step.specs.Actions.{enclosed_of, here, ends, ends_idle_here, end_each}
use Rattle.kernel_step.specs.Calls.{ends_each, ends_here}
use Rattle.kernel_step.specs.Progress.{Progress, keeps}
use Rattle.kernel_effects.specs.Actions.{ended_of, ends_all, gone_of, gone_packets}
use Rattle.kernel_effects.specs.Calls.{ended_list, ended_with}
use Rattle.kernel_effects.specs.Effect.{Effect, Does, and_then, changed, puts, stays, turns}
use Rattle.kernel_effects.proofs.Does.{does-entry, does-nothing, does-same, does-sent, does-then, keeps-does}
use Rattle.kernel_effects.proofs.Folds.{ends_idle-does}
use Rattle.kernel_effects.proofs.Packets.{tells_gone-does}

-- the end stands here with this view, each entry is of its end, and its waiting message encloses other ends, no two the same
pub record StandsAt (t : EndId → Entry) (e : EndId) (v : HereView) : Type 0 where
  pub here : t e ≡ entry.Here v
  pub own : AreOwn t
  pub different : AreDifferent (enclosed_of v.outward)
  pub apart : list_any (end_eq e) (enclosed_of v.outward) ≡ false

-- its value has its name
pub stands-end : (t : EndId → Entry) (e : EndId) (v : HereView) → StandsAt t e v → v.value.end ≡ e
stands-end t e v s = subst (IsOfEnd e) s.here (s.own e)

-- none of the second ends is one of the first
abbrev pub AreNone : List EndId → List EndId → Type 0
AreNone xs [] = Unit {0}
AreNone xs (y ∷ ys) = (list_any (end_eq y) xs ≡ false) × AreNone xs ys

-- an end that none of some is, is none of theirs
AreNone-one : (x : EndId) (ys : List EndId) → list_any (end_eq x) ys ≡ false → AreNone (x ∷ []) ys
AreNone-one x [] none = tt
AreNone-one x (y ∷ ys) none = (ap (λ b. b || false) (end_eq-sym y x ∙ first_false _ _ none), AreNone-one x ys (second_false _ _ none))

-- what is told of ends of which none changes
flat_map-none : {Y : Type 0} (told : Entry → List Y) (old new : EndId → Entry) (xs ys : List EndId) → ((q : EndId) → list_any (end_eq q) xs ≡ false → new q ≡ old q)
    → AreNone xs ys → flat_map (λ q. told (new q)) ys ≡ flat_map (λ q. told (old q)) ys
flat_map-none told old new xs [] same none = refl
flat_map-none told old new xs (y ∷ ys) same none =
    ap (λ z. told z ++ flat_map (λ q. told (new q)) ys) (same y none.0) ∙ ap (λ zs. told (old y) ++ zs) (flat_map-none told old new xs ys same none.1)

-- an end that ended does not end again
ended-twice : (y : Entry) → ended_of (ended_of y) ≡ ended_of y
ended-twice entry.Nothing = refl
ended-twice (entry.Here v) = by v.value.dead
  where
    by : (b : Bool) → ended_of (if b then entry.Nothing else entry.Destroyed v.value) ≡ (if b then entry.Nothing else entry.Destroyed v.value)
    by true = refl
    by false = refl
ended-twice (entry.Left to hops) = refl
ended-twice (entry.Destroyed m) = refl

-- END of some ends, and then of others
ends_all-then : (k : ℕ) (xs ys : List EndId) (a b c : Progress) → AreNone xs ys → Does (ends_all k a.table xs) a b → Does (ends_all k b.table ys) b c → Does (ends_all k a.table (xs ++ ys)) a c
ends_all-then k xs ys a b c none first second =
    does-same (record both { entry = turns (xs ++ ys) ended_of stays }) (ends_all k a.table (xs ++ ys))
    (ap (λ ps. record (changed (turns (xs ++ ys) ended_of stays)) { packets = ps }) packets)
    (does-entry both (turns (xs ++ ys) ended_of stays) (λ q. by (a.table q) (list_any (end_eq q) xs) (list_any (end_eq q) ys) ∙ sym (ap (λ z. if z then ended_of (a.table q) else a.table q) (list_any-append (end_eq q) xs ys))) (does-then first second))
  where
    both : Effect
    both = and_then (ends_all k a.table xs) (ends_all k b.table ys)

    by : (y : Entry) (m n : Bool) → (if n then ended_of (if m then ended_of y else y) else (if m then ended_of y else y)) ≡ (if m || n then ended_of y else y)
    by y true true = ended-twice y
    by y true false = refl
    by y false true = refl
    by y false false = refl

    packets : flat_map (λ x. gone_of k (a.table x)) xs ++ flat_map (λ x. gone_of k (b.table x)) ys ≡ flat_map (λ x. gone_of k (a.table x)) (xs ++ ys)
    packets =
        ap (λ ps. flat_map (λ x. gone_of k (a.table x)) xs ++ ps)
        (flat_map-none (gone_of k) a.table b.table xs ys (λ q apart. first.table q ∙ ap (λ z. if z then ended_of (a.table q) else a.table q) apart) none)
        ∙ sym (flat_map-append (λ x. gone_of k (a.table x)) xs ys)

-- each entry is of its end after END of some
AreOwn-ended : (k : ℕ) (xs : List EndId) (a b : Progress) → AreOwn a.table → Does (ends_all k a.table xs) a b → AreOwn b.table
AreOwn-ended k xs a b own does q = subst (IsOfEnd q) (sym (does.table q)) (by (list_any (end_eq q) xs) (a.table q) (own q))
  where
    ended : (y : Entry) → IsOfEnd q y → IsOfEnd q (ended_of y)
    ended entry.Nothing is = tt
    ended (entry.Here v) is = dead v.value.dead
      where
        dead : (b : Bool) → IsOfEnd q (if b then entry.Nothing else entry.Destroyed v.value)
        dead true = tt
        dead false = is
    ended (entry.Left to hops) is = tt
    ended (entry.Destroyed m) is = is

    by : (b : Bool) (y : Entry) → IsOfEnd q y → IsOfEnd q (if b then ended_of y else y)
    by true y is = ended y is
    by false y is = is

-- END of one idle end
one-ends : (k : ℕ) (x : EndId) (y : Entry) (d : Progress) → d.table x ≡ y → IsOfEnd x y → Does (ends_all k d.table (x ∷ [])) d (ends_idle_here k (here y) d)
one-ends k x y d at own =
    does-same (record (changed (turns (x ∷ []) ended_of stays)) { packets = gone_of k y ++ [] }) (ends_all k d.table (x ∷ []))
    (ap (λ z. record (changed (turns (x ∷ []) ended_of stays)) { packets = gone_of k z ++ [] }) (sym at)) (go y at own)
  where
    same : (y : Entry) → d.table x ≡ y → ended_of y ≡ y → (q : EndId) → d.table q ≡ turns (x ∷ []) ended_of stays q (d.table q)
    same y at stays_so q = by (end_eq q x) refl
      where
        by : (b : Bool) → end_eq q x ≡ b → d.table q ≡ (if b || false then ended_of (d.table q) else d.table q)
        by true is =
            let there : d.table q ≡ y = ap d.table (end_eq-same q x is) ∙ at in
            there ∙ sym stays_so ∙ ap ended_of (sym there)
        by false is = refl

    none : (y : Entry) → d.table x ≡ y → ended_of y ≡ y → Does (changed (turns (x ∷ []) ended_of stays)) d d
    none y at stays_so = does-entry (changed stays) (turns (x ∷ []) ended_of stays) (same y at stays_so) (does-nothing d)

    go : (y : Entry) → d.table x ≡ y → IsOfEnd x y → Does (record (changed (turns (x ∷ []) ended_of stays)) { packets = gone_of k y ++ [] }) d (ends_idle_here k (here y) d)
    go entry.Nothing at own = none entry.Nothing at refl
    go (entry.Here v) at own =
        does-same (record (changed (turns (x ∷ []) ended_of stays)) { packets = gone_packets k v.value }) (record (changed (turns (x ∷ []) ended_of stays)) { packets = gone_packets k v.value ++ [] })
        (ap (λ ps. record (changed (turns (x ∷ []) ended_of stays)) { packets = ps }) (sym (append-nil (gone_packets k v.value))))
        (does-entry (record (changed (puts v.value.end (ended_entry v.value) stays)) { packets = gone_packets k v.value }) (turns (x ∷ []) ended_of stays) (λ q. by q (end_eq q x) refl) (ends_idle-does k v.value d))
      where
        by : (q : EndId) (b : Bool) → end_eq q x ≡ b → puts v.value.end (ended_entry v.value) stays q (d.table q) ≡ (if b || false then ended_of (d.table q) else d.table q)
        by q true is =
            ap (λ z. if z then ended_entry v.value else d.table q) (ap (λ e. end_eq e q) own ∙ end_eq-sym x q ∙ is)
            ∙ ap ended_of (sym (ap d.table (end_eq-same q x is) ∙ at))
        by q false is = ap (λ z. if z then ended_entry v.value else d.table q) (ap (λ e. end_eq e q) own ∙ end_eq-sym x q ∙ is)
    go (entry.Left to hops) at own = none (entry.Left to hops) at refl
    go (entry.Destroyed m) at own = none (entry.Destroyed m) at refl

-- END of idle ends
pub end_each-does : (k : ℕ) (xs : List EndId) (d : Progress) → AreDifferent xs → AreOwn d.table → Does (ends_all k d.table xs) d (end_each k xs d)
unfolding end_each
end_each-does k [] d apart own = does-nothing d
end_each-does k (x ∷ xs) d apart own =
    let first = one-ends k x (d.table x) d refl (own x) in
    let next = ends_idle_here k (here (d.table x)) d in
    ends_all-then k (x ∷ []) xs d next (end_each k xs next) (AreNone-one x xs apart.0) first (end_each-does k xs next apart.1 (AreOwn-ended k (x ∷ []) d next own first))

-- END of an end with its message
pub ends-does : (k : ℕ) (e : EndId) (v : HereView) (d : Progress) → StandsAt d.table e v → Does (ends_all k d.table (enclosed_of v.outward ++ e ∷ [])) d (ends k v d)
unfolding ends keeps
ends-does k e v d s =
    does-same (record both { entry = turns (xs ++ e ∷ []) ended_of stays }) (ends_all k d.table (xs ++ e ∷ []))
    (ap (λ ps. record (changed (turns (xs ++ e ∷ []) ended_of stays)) { packets = ps }) packets)
    (does-entry both (turns (xs ++ e ∷ []) ended_of stays) (λ q. by q (end_eq q e) (list_any (end_eq q) xs) refl ∙ sym (ap (λ z. if z then ended_of (d.table q) else d.table q) (list_any-append (end_eq q) xs (e ∷ []))))
    (does-sent (does-then (keeps-does v.value.end (ended_entry v.value) d) (end_each-does k xs kept s.different own)) (tells_gone-does k v.value (end_each k xs kept))))
  where
    xs : List EndId
    xs = enclosed_of v.outward

    kept : Progress
    kept = keeps v.value.end (ended_entry v.value) d

    end : v.value.end ≡ e
    end = stands-end d.table e v s

    both : Effect
    both = record (and_then (changed (puts v.value.end (ended_entry v.value) stays)) (ends_all k kept.table xs)) { packets = flat_map (λ x. gone_of k (kept.table x)) xs ++ gone_packets k v.value }

    ended : (b : Bool) → IsOfEnd v.value.end (if b then entry.Nothing else entry.Destroyed v.value)
    ended true = tt
    ended false = refl

    own : AreOwn kept.table
    own = AreOwn-put d.table v.value.end (ended_entry v.value) s.own (ended v.value.dead)

    ended-ended : (b : Bool) → (if b then ended_of (ended_entry v.value) else ended_entry v.value) ≡ ended_entry v.value
    ended-ended true = ended-twice (entry.Here v)
    ended-ended false = refl

    by : (q : EndId) (b n : Bool) → end_eq q e ≡ b → (if n then ended_of (puts v.value.end (ended_entry v.value) stays q (d.table q)) else puts v.value.end (ended_entry v.value) stays q (d.table q))
        ≡ (if n || (b || false) then ended_of (d.table q) else d.table q)
    by q b n is = ap (λ z. if n then ended_of (if z then ended_entry v.value else d.table q) else (if z then ended_entry v.value else d.table q)) (ap (λ x. end_eq x q) end ∙ end_eq-sym e q ∙ is) ∙ cases b n is
      where
        cases : (b n : Bool) → end_eq q e ≡ b → (if n then ended_of (if b then ended_entry v.value else d.table q) else (if b then ended_entry v.value else d.table q)) ≡ (if n || (b || false) then ended_of (d.table q) else d.table q)
        cases true true is = ended-twice (entry.Here v) ∙ ap ended_of (sym (ap d.table (end_eq-same q e is) ∙ s.here))
        cases true false is = ap ended_of (sym (ap d.table (end_eq-same q e is) ∙ s.here))
        cases false true is = refl
        cases false false is = refl

    same : (q : EndId) → list_any (end_eq q) (e ∷ []) ≡ false → kept.table q ≡ d.table q
    same q other = put-other d.table v.value.end (ended_entry v.value) q (ap (λ x. end_eq x q) end ∙ end_eq-sym e q ∙ first_false _ _ other)

    packets : flat_map (λ x. gone_of k (kept.table x)) xs ++ gone_packets k v.value ≡ flat_map (λ x. gone_of k (d.table x)) (xs ++ e ∷ [])
    packets =
        ap (λ ps. ps ++ gone_packets k v.value) (flat_map-none (gone_of k) d.table kept.table (e ∷ []) xs same (AreNone-one e xs s.apart))
        ∙ ap (λ ps. flat_map (λ x. gone_of k (d.table x)) xs ++ ps) (sym (append-nil (gone_packets k v.value)) ∙ ap (λ y. gone_of k y ++ []) (sym s.here))
        ∙ sym (flat_map-append (λ x. gone_of k (d.table x)) xs (e ∷ []))

-- none of some ends is one of the first in each part
AreNone-parts : (xs ys zs : List EndId) → AreNone xs (ys ++ zs) → AreNone xs ys × AreNone xs zs
AreNone-parts xs [] zs none = (tt, none)
AreNone-parts xs (y ∷ ys) zs none = let rest = AreNone-parts xs ys zs none.1 in ((none.0, rest.0), rest.1)

-- ends in two parts that differ
AreDifferent-parts : (xs ys : List EndId) → AreDifferent (xs ++ ys) → AreDifferent xs × AreDifferent ys × AreNone xs ys
AreDifferent-parts [] ys different = (tt, different, all ys)
  where
    all : (ys : List EndId) → AreNone [] ys
    all [] = tt
    all (y ∷ ys) = (refl, all ys)
AreDifferent-parts (x ∷ xs) ys different =
    let rest = AreDifferent-parts xs ys different.1 in
    let apart : (list_any (end_eq x) xs || list_any (end_eq x) ys) ≡ false = sym (list_any-append (end_eq x) xs ys) ∙ different.0 in
    ((first_false _ _ apart, rest.0), rest.1, more ys (second_false _ _ apart) rest.2)
  where
    more : (ys : List EndId) → list_any (end_eq x) ys ≡ false → AreNone xs ys → AreNone (x ∷ xs) ys
    more [] apart none = tt
    more (y ∷ ys) apart none =
        (ap (λ b. b || list_any (end_eq y) xs) (end_eq-sym y x ∙ first_false _ _ apart) ∙ none.0, more ys (second_false _ _ apart) none.1)

-- what an end is destroyed with stays where none of it ended before
ended_list-others : (t u : EndId → Entry) (xs zs : List EndId) → ((q : EndId) → u q ≡ turns xs ended_of stays q (t q)) → AreNone xs (ended_list t zs) → ended_list u zs ≡ ended_list t zs
ended_list-others t u xs [] is none = refl
ended_list-others t u xs (z ∷ zs) is none =
    let parts = AreNone-parts xs (ended_with z (t z)) (ended_list t zs) none in
    ap (λ y. ended_with z y ++ ended_list u zs) (is z ∙ same (t z) parts.0) ∙ ap (λ l. ended_with z (t z) ++ l) (ended_list-others t u xs zs is parts.1)
  where
    same : (y : Entry) → AreNone xs (ended_with z y) → turns xs ended_of stays z y ≡ y
    same entry.Nothing none = by (list_any (end_eq z) xs)
      where
        by : (b : Bool) → (if b then entry.Nothing else entry.Nothing) ≡ entry.Nothing
        by true = refl
        by false = refl
    same (entry.Here v) none = ap (λ b. if b then ended_of (entry.Here v) else entry.Here v) (AreNone-parts xs (enclosed_of v.outward) (z ∷ []) none).1.0
    same (entry.Left to hops) none = by (list_any (end_eq z) xs)
      where
        by : (b : Bool) → (if b then entry.Left to hops else entry.Left to hops) ≡ entry.Left to hops
        by true = refl
        by false = refl
    same (entry.Destroyed m) none = by (list_any (end_eq z) xs)
      where
        by : (b : Bool) → (if b then entry.Destroyed m else entry.Destroyed m) ≡ entry.Destroyed m
        by true = refl
        by false = refl

-- END of each of these ends with its message
pub ends_each-does : (k : ℕ) (xs : List EndId) (d : Progress) → AreOwn d.table → AreDifferent (ended_list d.table xs) → Does (ends_all k d.table (ended_list d.table xs)) d (ends_each k xs d)
unfolding ends_each
ends_each-does k [] d own different = does-nothing d
ends_each-does k (x ∷ xs) d own different =
    ends_all-then k now later d next (ends_each k xs next) parts.2 first
    (subst (λ l. Does (ends_all k next.table l) next (ends_each k xs next)) same
    (ends_each-does k xs next (AreOwn-ended k now d next own first) (subst AreDifferent (sym same) parts.1)))
  where
    now : List EndId
    now = ended_with x (d.table x)

    later : List EndId
    later = ended_list d.table xs

    next : Progress
    next = ends_here k (here (d.table x)) d

    parts : AreDifferent now × AreDifferent later × AreNone now later
    parts = AreDifferent-parts now later different

    go : (y : Entry) → d.table x ≡ y → AreDifferent (ended_with x y) → Does (ends_all k d.table (ended_with x y)) d (ends_here k (here y) d)
    go entry.Nothing at apart = does-nothing d
    go (entry.Here v) at apart =
        let own_parts = AreDifferent-parts (enclosed_of v.outward) (x ∷ []) apart in
        ends-does k x v d (record { here = at; own = own; different = own_parts.0; apart = own_parts.2.0 })
    go (entry.Left to hops) at apart = does-nothing d
    go (entry.Destroyed m) at apart = does-nothing d

    first : Does (ends_all k d.table now) d next
    first = go (d.table x) refl parts.0

    same : ended_list next.table xs ≡ later
    same = ended_list-others d.table next.table now xs first.table parts.2
