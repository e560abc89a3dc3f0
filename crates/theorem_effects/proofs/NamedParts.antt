-- The words of effects name no other kernels than those before: entries and packets.
use Rattle.std.proofs.Common.{subst, ◌≡◌, ◌⊎◌, inl, inr, ℕ, ◌<◌, ◌≤◌, Bool, true, false, nat_lt, nat_le, if◌then◌else◌, List, [], ◌∷◌, refl, arith, lt-ltb}
use Rattle.std.proofs.lemmas.Bool.Decides.{leb_tells}
use Rattle.std.proofs.lemmas.Nat.Bits.{bit_at_above}
use Rattle.std.specs.Int.{bit_at}
use Rattle.std.specs.List.{AllByRecursion, flat_map}
use Rattle.charlotte_calls.specs.declared.names.EndId.{EndId}
use Rattle.charlotte_packets.specs.declared.picture.MovingPicture.{MovingPicture}
use Rattle.charlotte_packets.specs.declared.picture.PictureWhat.{PictureWhat}
use Rattle.end_table.specs.Entries.{left_value}
use Rattle.end_table.specs.declared.entry.Entry.{Entry}
use Rattle.end_table.specs.declared.entry.Entry.TheVariants as entry
use Rattle.end_table.specs.declared.entry.HereView.{HereView}
use Rattle.end_table.specs.declared.entry.Holder.{Holder}
use Rattle.end_table.specs.declared.entry.Inward.{Inward}
use Rattle.kernel_effects.proofs.Uses.{all-append, arrival-each, brings-each, forget-each, gone-each, live-each, news-each, puts-each, turns-each}
use Rattle.kernel_effects.specs.Actions.{arrival_packets, ended_of, forget_packets, gone_of, gone_packets, held_entry, left_of, news_packets}
use Rattle.kernel_effects.specs.Effect.{Effect, brings, puts, stays, turns}
pub use Rattle.kernel_named.proofs.Values.{IsNamed, cleared-named, ended_entry-names, hint-below, learned-named, left-named, left_entry-names, named, named-values, trail-below, values-named}
use Rattle.kernel_step.specs.Actions.{values_leaving}
use Rattle.theorem_meaning.specs.Invariant.{NamesBelow}
use Rattle.theorem_effects.specs.Named.{IsSentWithin, NamesWithin}
use Rattle.theorem_effects.proofs.Values.{leaving-each}

module _ (n : ℕ) where
  -- ---- values

  pub leaving-named : (k : ℕ) (t : EndId → Entry) (xs : List EndId) → k < n → ((e : EndId) → NamesBelow n (t e)) → AllByRecursion (IsNamed n) (values_leaving k t xs)
  leaving-named k t xs below names = leaving-each (IsNamed n) k t xs (each xs)
    where
      each : (xs : List EndId) → AllByRecursion (λ x. (v : HereView) → t x ≡ entry.Here v → IsNamed n (left_value k v.value)) xs
      each [] = tt
      each (x ∷ xs) = (λ v is. left-named n k v.value below (subst (NamesBelow n) is (names x)), each xs)

  -- ---- entries

  pub left_of-names : (to : ℕ) (y : Entry) → to < n → NamesBelow n y → NamesBelow n (left_of to y)
  left_of-names to entry.Nothing below is = tt
  left_of-names to (entry.Here v) below is = left_entry-names n to v.value below
  left_of-names to (entry.Left there hops) below is = is
  left_of-names to (entry.Destroyed m) below is = is

  pub ended_of-names : (y : Entry) → NamesBelow n y → NamesBelow n (ended_of y)
  ended_of-names entry.Nothing is = tt
  ended_of-names (entry.Here v) is = ended_entry-names n v.value is
  ended_of-names (entry.Left there hops) is = is
  ended_of-names (entry.Destroyed m) is = is

  pub held_entry-names : (h : Holder) (y : Entry) → NamesBelow n y → NamesBelow n (held_entry h y)
  held_entry-names h entry.Nothing is = tt
  held_entry-names h (entry.Here v) is = is
  held_entry-names h (entry.Left there hops) is = is
  held_entry-names h (entry.Destroyed m) is = is

  abbrev pub EntriesName : (EndId → Entry → Entry) → Type 0
  EntriesName word = (e : EndId) (y : Entry) → NamesBelow n y → NamesBelow n (word e y)

  pub stays-names : EntriesName stays
  stays-names e y is = is

  pub puts-names : (x : EndId) (z : Entry) (others : EndId → Entry → Entry) → NamesBelow n z → EntriesName others → EntriesName (puts x z others)
  puts-names x z others here rest e y is = puts-each (NamesBelow n) x z others e y (λ same. here) (λ apart. rest e y is)

  pub turns-names : (xs : List EndId) (word : Entry → Entry) (others : EndId → Entry → Entry) → ((y : Entry) → NamesBelow n y → NamesBelow n (word y)) → EntriesName others → EntriesName (turns xs word others)
  turns-names xs word others here rest e y is = turns-each (NamesBelow n) xs word others e y (λ among. here y is) (λ none. rest e y is)

  pub brings-names : (ms : List MovingPicture) (word : MovingPicture → Entry) (others : EndId → Entry → Entry) → AllByRecursion (λ m. NamesBelow n (word m)) ms → EntriesName others → EntriesName (brings ms word others)
  brings-names ms word others here rest e y is = brings-each (NamesBelow n) ms word others e y (each ms here) (λ none. rest e y is)
    where
      each : (ms : List MovingPicture) → AllByRecursion (λ m. NamesBelow n (word m)) ms → AllByRecursion (λ m. m.end ≡ e → NamesBelow n (word m)) ms
      each [] are = tt
      each (m ∷ ms) are = (λ same. are.0, each ms are.1)

  -- ---- packets

  abbrev pub IsWithin : ℕ × PictureWhat → Type 0
  IsWithin s = IsSentWithin n s.0 s.1

  pub forgets-within : (k : ℕ) (m : MovingPicture) → IsNamed n m → AllByRecursion IsWithin (forget_packets k m)
  forgets-within k m is = forget-each IsWithin k m (λ j told apart. (by j told (leb_tells n j), refl))
    where
      by : (j : ℕ) → bit_at m.trail j ≡ 1 → ((nat_le n j ≡ true) × (n ≤ j)) ⊎ ((nat_le n j ≡ false) × (j < n)) → j < n
      by j told (inl far) = let none : bit_at m.trail j ≡ 0 = bit_at_above m.trail n j (trail-below n m is) far.1 in absurd (omega (arith, told, none))
      by j told (inr near) = near.1

  module _ (k : ℕ) (below : k < n) where
    here-below : nat_lt k n ≡ true
    here-below = lt-ltb k n below

    pub gone-within : (m : MovingPicture) → IsNamed n m → AllByRecursion IsWithin (gone_packets k m)
    gone-within m is = gone-each IsWithin k m (λ alive. (hint-below n m is, here-below))

    pub gone_of-within : (y : Entry) → NamesBelow n y → AllByRecursion IsWithin (gone_of k y)
    gone_of-within entry.Nothing is = tt
    gone_of-within (entry.Here v) is = gone-within v.value is
    gone_of-within (entry.Left to hops) is = tt
    gone_of-within (entry.Destroyed m) is = tt

    pub arrival-within : (m : MovingPicture) → IsNamed n m → AllByRecursion IsWithin (arrival_packets k m)
    arrival-within m is = arrival-each IsWithin k m (λ alive. (hint-below n m is, here-below))

    pub news-within : (before : MovingPicture) (hops : ℕ) (m : MovingPicture) (i : Inward) → IsNamed n m → AllByRecursion IsWithin (news_packets k before hops m i)
    news-within before hops m i is =
        news-each IsWithin k before hops m i
        (λ news. live-each IsWithin k m i (λ w posted. (hint-below n m is, here-below)) (λ w withdrawing. (hint-below n m is, here-below)) (hint-below n m is, here-below))

    pub gone_all-within : (t : EndId → Entry) (xs : List EndId) → ((e : EndId) → NamesBelow n (t e)) → AllByRecursion IsWithin (flat_map (λ x. gone_of k (t x)) xs)
    gone_all-within t [] names = tt
    gone_all-within t (x ∷ xs) names = all-append IsWithin (gone_of k (t x)) (flat_map (λ x. gone_of k (t x)) xs) (gone_of-within (t x) (names x)) (gone_all-within t xs names)

  -- ---- effects

  pub either-names : (b : Bool) (f g : Effect) → NamesWithin n f → NamesWithin n g → NamesWithin n (if b then f else g)
  either-names true f g first second = first
  either-names false f g first second = second
