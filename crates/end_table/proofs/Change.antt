-- From what a map says of its keys to what a table says of its ends.
use Rattle.std.proofs.Common.{◌≡◌, ℕ, ◌<◌, ◌≤◌, ◌+◌, Bool, true, false, cond, List, [], Option, None, Some, is_some, unwrap_or, refl, sym, ap, subst, ◌∙◌, true≢false, if◌then◌else◌, arith}
use Rattle.std.specs.Map.{lookup}
use Rattle.std.specs.Prelude.{OnOk, OnErr}
use Rattle.std.specs.declared.result.Result.{Result}
use Rattle.std.specs.declared.result.Result.TheVariants as result
use Rattle.std.specs.HashMap.{HashMap, WritesThrough, get_by}
use Rattle.charlotte_calls.specs.declared.names.EndId.{EndId}
use Rattle.end_table.specs.declared.entry.Entry.{Entry}
use Rattle.end_table.specs.declared.entry.Entry.TheVariants.{Nothing}
use Rattle.end_table.specs.declared.entry.Entry.TheVariants as entry
use Rattle.end_table.specs.declared.entry.HereView.{HereView}
use Rattle.charlotte_packets.specs.declared.picture.MovingPicture.{MovingPicture}
use Rattle.end_table.specs.Entries.{learned, is_news, left_entry, ended_entry, gains_one}
use Rattle.end_table.specs.Message.{HasNoMorePlaces}
use Rattle.end_table.specs.Place.{end_eq, put}
use Rattle.end_table.specs.Table.{TableView, entries, HasPlace, Puts, Clears, IsWellKept, IsOfEnd, IsHere, IsHereAnd, IsIdle, IfHere, IsDestroyed, IfDestroyed}
use Rattle.end_table.proofs.EndEq.{end_eq-same, end_eq-refl, put-put}

-- the entry that a map has at a key
abbrev pub entry_in : Option Entry → Entry
entry_in o = unwrap_or o Nothing

-- one place changes, or is lost, and the others stay
abbrev pub Changes : List (EndId × Entry) → List (EndId × Entry) → EndId → Option Entry → Type 0
Changes old new e w = (q : EndId) → lookup (end_eq q) new ≡ cond (end_eq e q) w (lookup (end_eq q) old)

module _ (old new : List (EndId × Entry)) (e : EndId) (w : Option Entry) (h : Changes old new e w) where
  entry-Changes : (q : EndId) → entry_in (lookup (end_eq q) new) ≡ cond (end_eq e q) (entry_in w) (entry_in (lookup (end_eq q) old))
  entry-Changes q = ap entry_in (h q) ∙ chosen (end_eq e q) (lookup (end_eq q) old)
    where
      chosen : (b : Bool) (o : Option Entry) → entry_in (cond b w o) ≡ cond b (entry_in w) (entry_in o)
      chosen true o = refl
      chosen false o = refl

  other-Changes : (q : EndId) → end_eq e q ≡ false → lookup (end_eq q) new ≡ lookup (end_eq q) old
  other-Changes q apart = h q ∙ ap (λ b. cond b w (lookup (end_eq q) old)) apart

-- a place that has an entry in the map afterwards is put
pub Puts-Changes : (k : ℕ) (old new : List (EndId × Entry)) (e : EndId) (x : Entry) → Changes old new e (Some x) → Puts (record { kernel = k; places = old }) (record { kernel = k; places = new }) e x
unfolding entries HasPlace put
Puts-Changes k old new e x h =
    record {
      after = λ i q. entry-Changes old new e (Some x) h q i;
      at = entry-Changes old new e (Some x) h e ∙ ap (λ b. cond b x (entry_in (lookup (end_eq e) old))) (end_eq-refl e);
      others = λ q apart. ap entry_in (other-Changes old new e (Some x) h q apart);
      placed = ap is_some (h e ∙ ap (λ b. cond b (Some x) (lookup (end_eq e) old)) (end_eq-refl e));
      places = λ q has. ap is_some (h q) ∙ kept (end_eq e q) (lookup (end_eq q) old) has;
      kernel = refl;
    }
  where
    kept : (b : Bool) (o : Option Entry) → is_some o ≡ true → is_some (cond b (Some x) o) ≡ true
    kept true o has = refl
    kept false o has = has

-- one that has nothing
pub Puts-nothing : (k : ℕ) (old new : List (EndId × Entry)) (e : EndId) (x : Entry) → x ≡ Nothing → Changes old new e (Some x) → Puts (record { kernel = k; places = old }) (record { kernel = k; places = new }) e Nothing
Puts-nothing k old new e x is h = subst (λ y. Puts (record { kernel = k; places = old }) (record { kernel = k; places = new }) e y) is (Puts-Changes k old new e x h)

-- a place that the map loses is cleared
pub Clears-Changes : (k : ℕ) (old new : List (EndId × Entry)) (e : EndId) → Changes old new e None → Clears (record { kernel = k; places = old }) (record { kernel = k; places = new }) e
unfolding entries HasPlace put
Clears-Changes k old new e h =
    record {
      after = λ i q. entry-Changes old new e None h q i;
      at = entry-Changes old new e None h e ∙ ap (λ b. cond b Nothing (entry_in (lookup (end_eq e) old))) (end_eq-refl e);
      no_place = λ has. true≢false (sym has ∙ ap is_some (h e ∙ ap (λ b. cond b None (lookup (end_eq e) old)) (end_eq-refl e)));
      others = λ q apart. ap entry_in (other-Changes old new e None h q apart);
      places = λ q apart has. ap is_some (other-Changes old new e None h q apart) ∙ has;
      kernel = refl;
    }

-- a table stays well kept where an entry of its own end is put
module _ (old new : TableView) (e : EndId) (x : Entry) (kept : IsWellKept old) (own : IsOfEnd e x)
    (kernel : new.kernel ≡ old.kernel) (at : entries new e ≡ x) (others : (q : EndId) → end_eq e q ≡ false → entries new q ≡ entries old q) where
  IsWellKept-put : IsWellKept new
  IsWellKept-put = record { kernel = subst (λ k. k < 8) (sym kernel) kept.kernel; own = λ q. by (end_eq e q) q refl }
    where
      by : (b : Bool) (q : EndId) → end_eq e q ≡ b → IsOfEnd q (entries new q)
      by true q same = subst (λ z. IsOfEnd z (entries new z)) (end_eq-same e q same) (subst (λ y. IsOfEnd e y) (sym at) own)
      by false q apart = subst (λ y. IsOfEnd q y) (sym (others q apart)) (kept.own q)

pub IsWellKept-Puts : (old new : TableView) (e : EndId) (x : Entry) → IsWellKept old → IsOfEnd e x → Puts old new e x → IsWellKept new
IsWellKept-Puts old new e x kept own puts = IsWellKept-put old new e x kept own puts.kernel puts.at puts.others

pub IsWellKept-Clears : (old new : TableView) (e : EndId) → IsWellKept old → Clears old new e → IsWellKept new
IsWellKept-Clears old new e kept clears = IsWellKept-put old new e Nothing kept tt clears.kernel clears.at clears.others

-- a table without places has no entry
pub entries-empty : (t : TableView) → t.places ≡ [] → entries t ≡ (λ _. Nothing)
unfolding entries
entries-empty t empty = λ i q. entry_in (lookup (end_eq q) (empty i))

pub IsWellKept-empty : (t : TableView) → t.kernel < 8 → t.places ≡ [] → IsWellKept t
IsWellKept-empty t kernel empty =
    record { kernel = kernel; own = λ q. subst (λ f. IsOfEnd q (f q)) (sym (entries-empty t empty)) tt }

-- an end that the map has not has no place
pub no-HasPlace : (k : ℕ) (places : List (EndId × Entry)) (e : EndId) → lookup (end_eq e) places ≡ None → HasPlace (record { kernel = k; places = places }) e → ⊥
unfolding HasPlace
no-HasPlace k places e none has = true≢false (sym has ∙ ap is_some none)

-- what stands at a place is the entry of its end
pub entries-some : (k : ℕ) (places : List (EndId × Entry)) (e : EndId) (x : Entry) → Some x ≡ lookup (end_eq e) places → entries (record { kernel = k; places = places }) e ≡ x
unfolding entries
entries-some k places e x some = sym (ap entry_in some)

-- and without a place it is `Nothing`
pub entries-none : (k : ℕ) (places : List (EndId × Entry)) (e : EndId) → None ≡ lookup (end_eq e) places → entries (record { kernel = k; places = places }) e ≡ Nothing
unfolding entries
entries-none k places e none = sym (ap entry_in none)

-- a write through `get_mut` changes that one place
pub Changes-WritesThrough : {S : Type 0} (m n : HashMap EndId Entry S) (e : EndId) (x w : Entry) → Some x ≡ get_by (end_eq e) m → WritesThrough end_eq (end_eq e) m w n → Changes m.entries n.entries e (Some w)
Changes-WritesThrough m n e x w some h = (h.3 (sym (ap is_some some))).0

-- to put `Nothing` at an end without an entry changes nothing
pub put-nothing : (t : EndId → Entry) (e : EndId) → t e ≡ Nothing → put t e Nothing ≡ t
unfolding put
put-nothing t e nothing = λ i q. by (end_eq e q) q refl i
  where
    by : (b : Bool) (q : EndId) → end_eq e q ≡ b → cond b Nothing (t q) ≡ t q
    by true q same = subst (λ z. Nothing ≡ t z) (end_eq-same e q same) (sym nothing)
    by false q apart = refl

-- the later of two entries put at one end stands
pub puts_twice : (old middle new : TableView) (e : EndId) (x y : Entry) → Puts old middle e x → Puts middle new e y → Puts old new e y
puts_twice old middle new e x y first second =
    record {
      at = second.at;
      after = second.after ∙ ap (λ t. put t e y) first.after ∙ put-put (entries old) e x y;
      others = λ q apart. second.others q apart ∙ first.others q apart;
      placed = second.placed;
      places = λ q has. second.places q (first.places q has);
      kernel = second.kernel ∙ first.kernel;
    }

-- where what stands at a place becomes a function of the view there, so does the entry
module _ (k : ℕ) (old new : List (EndId × Entry)) (e : EndId) (x y : Entry) (some : Some x ≡ lookup (end_eq e) old) (h : Changes old new e (Some y)) where
  pub IfHere-Puts : (f : HereView → Entry) → IfHere x (λ v. y ≡ f v) → IfHere (entries (record { kernel = k; places = old }) e) (λ v. Puts (record { kernel = k; places = old }) (record { kernel = k; places = new }) e (f v))
  IfHere-Puts f is = subst (λ z. IfHere z (λ v. Puts (record { kernel = k; places = old }) (record { kernel = k; places = new }) e (f v))) (sym (entries-some k old e x some)) (by x is)
    where
      by : (x : Entry) → IfHere x (λ v. y ≡ f v) → IfHere x (λ v. Puts (record { kernel = k; places = old }) (record { kernel = k; places = new }) e (f v))
      by (entry.Here v) is = subst (Puts (record { kernel = k; places = old }) (record { kernel = k; places = new }) e) is (Puts-Changes k old new e y h)
      by entry.Nothing is = tt
      by (entry.Left to hops) is = tt
      by (entry.Destroyed m) is = tt

  pub IfDestroyed-Puts : (f : MovingPicture → Entry) → IfDestroyed x (λ m. y ≡ f m) → IfDestroyed (entries (record { kernel = k; places = old }) e) (λ m. Puts (record { kernel = k; places = old }) (record { kernel = k; places = new }) e (f m))
  IfDestroyed-Puts f is = subst (λ z. IfDestroyed z (λ m. Puts (record { kernel = k; places = old }) (record { kernel = k; places = new }) e (f m))) (sym (entries-some k old e x some)) (by x is)
    where
      by : (x : Entry) → IfDestroyed x (λ m. y ≡ f m) → IfDestroyed x (λ m. Puts (record { kernel = k; places = old }) (record { kernel = k; places = new }) e (f m))
      by (entry.Destroyed m) is = subst (Puts (record { kernel = k; places = old }) (record { kernel = k; places = new }) e) is (Puts-Changes k old new e y h)
      by entry.Nothing is = tt
      by (entry.Left to hops) is = tt
      by (entry.Here v) is = tt

-- an entry Here that is of an end has its name
pub end-IsOfEnd : (x : Entry) (e f : EndId) → IsOfEnd e x → f ≡ e → IfHere x (λ v. f ≡ v.value.end)
end-IsOfEnd (entry.Here v) e f own same = same ∙ sym own
end-IsOfEnd entry.Nothing e f own same = tt
end-IsOfEnd (entry.Left to hops) e f own same = tt
end-IsOfEnd (entry.Destroyed m) e f own same = tt

-- an end that is here keeps its name where what is set keeps it
pub IsOfEnd-set : (f : HereView → Entry) (x y : Entry) (e : EndId) → ((v : HereView) → v.value.end ≡ e → IsOfEnd e (f v)) → IsHere x → IsOfEnd e x
    → IfHere x (λ v. y ≡ f v) → IsOfEnd e y
IsOfEnd-set f (entry.Here v) y e keeps here own is = subst (IsOfEnd e) (sym is) (keeps v own)
IsOfEnd-set f entry.Nothing y e keeps here own is = absurd here
IsOfEnd-set f (entry.Left to n) y e keeps here own is = absurd here
IsOfEnd-set f (entry.Destroyed m) y e keeps here own is = absurd here

-- to hear of the opposite end changes no name
pub IsOfEnd-learned : (x y : Entry) (e : EndId) (at hops : ℕ) → IsHere x → IsOfEnd e x
    → IfHere x (λ v. y ≡ entry.Here (record v { value = learned at hops v.value })) → IsOfEnd e y
IsOfEnd-learned (entry.Here v) y e at hops here own is =
    subst (IsOfEnd e) (sym is) (by (is_news v.value hops))
  where
    by : (b : Bool) → (if b then record v.value { hint = (at, hops) } else v.value).end ≡ e
    by true = own
    by false = own
IsOfEnd-learned entry.Nothing y e at hops here own is = absurd here
IsOfEnd-learned (entry.Left to n) y e at hops here own is = absurd here
IsOfEnd-learned (entry.Destroyed m) y e at hops here own is = absurd here

-- nor does a new hint of a mark
pub IsOfEnd-hinted : (x y : Entry) (e : EndId) (hint : ℕ × ℕ) → IsDestroyed x → IsOfEnd e x
    → IfDestroyed x (λ m. y ≡ entry.Destroyed (record m { hint = hint })) → IsOfEnd e y
IsOfEnd-hinted (entry.Destroyed m) y e hint there own is = subst (IsOfEnd e) (sym is) own
IsOfEnd-hinted entry.Nothing y e hint there own is = absurd there
IsOfEnd-hinted (entry.Left to n) y e hint there own is = absurd there
IsOfEnd-hinted (entry.Here v) y e hint there own is = absurd there

-- an end with an entry has a place
pub HasPlace-entry : (t : TableView) (e : EndId) → (entries t e ≡ Nothing → ⊥) → HasPlace t e
unfolding entries HasPlace
HasPlace-entry t e some = by (lookup (end_eq e) t.places) some
  where
    by : (o : Option Entry) → (entry_in o ≡ Nothing → ⊥) → is_some o ≡ true
    by None some = absurd (some refl)
    by (Some x) some = refl

-- and one without a place has none
pub entries-no_place : (t : TableView) (e : EndId) → (HasPlace t e → ⊥) → entries t e ≡ Nothing
unfolding entries HasPlace
entries-no_place t e none = by (lookup (end_eq e) t.places) none
  where
    by : (o : Option Entry) → (is_some o ≡ true → ⊥) → entry_in o ≡ Nothing
    by None none = refl
    by (Some x) none = absurd (none refl)

-- a write through `get_mut` makes no place
pub HasNoMorePlaces-WritesThrough : {S : Type 0} (k : ℕ) (m n : HashMap EndId Entry S) (e : EndId) (w : Entry) → WritesThrough end_eq (end_eq e) m w n
    → HasNoMorePlaces (record { kernel = k; places = m.entries }) (record { kernel = k; places = n.entries })
HasNoMorePlaces-WritesThrough k m n e w h = let same = h.2 in omega arith

-- what is there at an end that has no entry is `Nothing`, so one with an entry has a place
pub HasPlace-lent : (k : ℕ) (places : List (EndId × Entry)) (e : EndId) (x : Entry) → Some x ≡ lookup (end_eq e) places → HasPlace (record { kernel = k; places = places }) e
unfolding HasPlace
HasPlace-lent k places e x some = ap is_some (sym some)

-- the entry that a value leaves behind is of no other end
pub IsOfEnd-left : (to : ℕ) (m : MovingPicture) (e : EndId) → IsOfEnd e (left_entry to m)
IsOfEnd-left to m e = by m.dead
  where
    by : (b : Bool) → IsOfEnd e (if b then Nothing else entry.Left to (gains_one m.hops))
    by true = tt
    by false = tt

-- and the one that it leaves when it is destroyed is of its end
pub IsOfEnd-ended : (m : MovingPicture) (e : EndId) → m.end ≡ e → IsOfEnd e (ended_entry m)
IsOfEnd-ended m e own = by m.dead
  where
    by : (b : Bool) → IsOfEnd e (if b then Nothing else entry.Destroyed m)
    by true = tt
    by false = own

-- an entry that is here and idle is here
pub IsHere-idle : (x : Entry) → IsHereAnd x IsIdle → IsHere x
IsHere-idle (entry.Here v) idle = tt
IsHere-idle entry.Nothing idle = absurd idle
IsHere-idle (entry.Left to hops) idle = absurd idle
IsHere-idle (entry.Destroyed m) idle = absurd idle

-- one place more, or none
pub one_at_most : (b : Bool) (new old : ℕ) → new ≡ old + (if b then 0 else 1) → new ≤ old + 1
one_at_most true new old is = omega arith
one_at_most false new old is = omega arith

-- an end that is here has a place
pub HasPlace-here : (t : TableView) (e : EndId) → IsHere (entries t e) → HasPlace t e
HasPlace-here t e here = HasPlace-entry t e (λ nothing. subst IsHere nothing here)

-- where send, receive and holder of an end are set in turn, the whole view is put
pub Puts-each : (t₀ t₁ t₂ t₃ : TableView) (e : EndId) (w : HereView) → IsHere (entries t₀ e)
    → IfHere (entries t₀ e) (λ v. Puts t₀ t₁ e (entry.Here (record v { value = w.value; outward = w.outward })))
    → IfHere (entries t₁ e) (λ v. Puts t₁ t₂ e (entry.Here (record v { value = w.value; inward = w.inward })))
    → IfHere (entries t₂ e) (λ v. Puts t₂ t₃ e (entry.Here (record v { holder = w.holder })))
    → Puts t₀ t₃ e (entry.Here w)
Puts-each t₀ t₁ t₂ t₃ e w here first second third = by (entries t₀ e) here first
  where
    by : (x : Entry) → IsHere x → IfHere x (λ v. Puts t₀ t₁ e (entry.Here (record v { value = w.value; outward = w.outward }))) → Puts t₀ t₃ e (entry.Here w)
    by (entry.Here v) here first =
        let next = subst (λ x. IfHere x (λ v. Puts t₁ t₂ e (entry.Here (record v { value = w.value; inward = w.inward })))) first.at second in
        let last = subst (λ x. IfHere x (λ v. Puts t₂ t₃ e (entry.Here (record v { holder = w.holder })))) next.at third in
        puts_twice t₀ t₁ t₃ e _ _ first (puts_twice t₁ t₂ t₃ e _ _ next last)
    by entry.Nothing here first = absurd here
    by (entry.Left to hops) here first = absurd here
    by (entry.Destroyed m) here first = absurd here

-- a place with nothing in it changes no entry, and none does without memory for it
pub entries-opened : {A B : Type 0} (old new : TableView) (e : EndId) (r : Result A B) → OnOk r (Puts old new e Nothing) → OnErr r (new ≡ old) → entries old e ≡ Nothing → entries new ≡ entries old
entries-opened old new e (result.Ok a) puts same nothing = puts.after ∙ put-nothing (entries old) e nothing
entries-opened old new e (result.Err b) puts same nothing = ap entries same
