-- What is known of processes of which an event changes other parts.
use Rattle.std.proofs.Common.{◌≡◌, ℕ, ◌≤◌, ◌<◌, All, List, [], ◌∷◌, Option, None, Some, length, map, get_or, refl, sym, ap, subst, ◌∙◌}
use Rattle.std.specs.Prelude.{slice_get}
use Rattle.std.specs.Option.{option_map}
use Rattle.std.proofs.lemmas.List.{get_or-map, length-map}
use Rattle.std.proofs.lemmas.Option.{slice_get-map}
use Rattle.indexmap.specs.IndexSet.{spare}
use Rattle.kernel_process.specs.Closing.{HavePlace, HaveSpare}
use Rattle.kernel_process.specs.Active.{started_ends}
use Rattle.kernel_process.specs.declared.process.ControlBlock.{ControlBlock}

some_is : {X : Type 0} (x y : X) → Some x ≡ Some y → x ≡ y
some_is x y same = cc

none_some : {X : Type 0} (y : X) → None ≡ Some y → ⊥
none_some y same = cc

-- a process that is there after is there before, with the same of one part
module _ {Y : Type 0} (f : ControlBlock → Y) (xs ys : List ControlBlock) (same : map f ys ≡ map f xs) where
  pub get-moved : (k : ℕ) (y : ControlBlock) → slice_get ys k ≡ Some y → (x : ControlBlock) × (slice_get xs k ≡ Some x) × (f y ≡ f x)
  get-moved k y is = by (slice_get xs k) refl
    where
      told : option_map f (slice_get xs k) ≡ Some (f y)
      told = sym (slice_get-map f xs k) ∙ ap (λ l. slice_get l k) (sym same) ∙ slice_get-map f ys k ∙ ap (option_map f) is

      by : (o : Option ControlBlock) → slice_get xs k ≡ o → (x : ControlBlock) × (slice_get xs k ≡ Some x) × (f y ≡ f x)
      by None none = absurd (none_some (f y) (sym (ap (option_map f) none) ∙ told))
      by (Some x) some = (x, some, sym (some_is (f x) (f y) (sym (ap (option_map f) some) ∙ told)))

map-after : {Y Z : Type 0} (g : Y → Z) (f : ControlBlock → Y) (xs : List ControlBlock) → map (λ x. g (f x)) xs ≡ map g (map f xs)
map-after g f [] = refl
map-after g f (x ∷ xs) = ap (λ l. g (f x) ∷ l) (map-after g f xs)

-- the same sets have the same ends
pub keys-moved : (xs ys : List ControlBlock) → map (λ x. x.active) ys ≡ map (λ x. x.active) xs → map started_ends ys ≡ map started_ends xs
keys-moved xs ys same = map-after (λ s. s.keys) (λ x. x.active) ys ∙ ap (map (λ s. s.keys)) same ∙ sym (map-after (λ s. s.keys) (λ x. x.active) xs)

-- what holds of one part of each process holds of it where that part is the same
pub All-moved : {Y : Type 0} (f : ControlBlock → Y) (P : Y → Type 0) (xs ys : List ControlBlock) → map f ys ≡ map f xs → All (λ x. P (f x)) xs → All (λ x. P (f x)) ys
All-moved f P xs ys same holds k d within = subst P (sym moved) (holds k d (subst (λ n. k < n) lengths within))
  where
    lengths : length ys ≡ length xs
    lengths = sym (length-map ys f) ∙ ap length same ∙ length-map xs f

    moved : f (get_or ys k d) ≡ f (get_or xs k d)
    moved =
        sym (get_or-map f ys k d (f d) within) ∙ ap (λ l. get_or l k (f d)) same
        ∙ get_or-map f xs k d (f d) (subst (λ n. k < n) lengths within)

-- the same room for ends
pub HavePlace-moved : (xs ys : List ControlBlock) → map (λ x. x.active) ys ≡ map (λ x. x.active) xs → HavePlace xs → HavePlace ys
HavePlace-moved xs ys same places = All-moved (λ x. x.active) (λ s. 1 ≤ spare s) xs ys same places

-- and for reports
pub HaveSpare-moved : (n : ℕ) (xs ys : List ControlBlock) → map (λ x. x.reports) ys ≡ map (λ x. x.reports) xs → HaveSpare n xs → HaveSpare n ys
HaveSpare-moved n xs ys same room = All-moved (λ x. x.reports) (λ q. n ≤ q.fits) xs ys same room
