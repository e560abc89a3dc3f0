-- How an effect is used: what is true of an end afterwards, by what became of it, and of each packet that is added.
use Rattle.std.proofs.Common.{◌≡◌, ℕ, Bool, true, false, not, nat_eq, ◌&&◌, ◌||◌, List, [], ◌∷◌, ◌++◌, map, refl, sym, ap, subst, ◌∙◌, if◌then◌else◌}
use Rattle.std.specs.Int.{bit_at}
use Rattle.std.proofs.lemmas.Bool.{and_parts, eqb-true, not-true}
use Rattle.std.specs.List.{AllByRecursion, filter, flat_map, list_any}
use Rattle.charlotte_calls.specs.Names.{opposite}
use Rattle.charlotte_calls.specs.declared.names.EndId.{EndId}
use Rattle.charlotte_packets.specs.declared.picture.MovingPicture.{MovingPicture}
use Rattle.charlotte_packets.specs.declared.picture.PictureWhat.{PictureWhat}
use Rattle.charlotte_packets.specs.declared.picture.PictureWhat.TheVariants as packet
use Rattle.charlotte_packets.specs.declared.picture.Picture.{Picture}
use Rattle.end_table.proofs.EndEq.{end_eq-same, end_eq-sym}
use Rattle.end_table.specs.Entries.{is_news}
use Rattle.end_table.specs.Place.{end_eq}
use Rattle.end_table.specs.declared.entry.Entry.{Entry}
use Rattle.end_table.specs.declared.entry.Inward.{Inward}
use Rattle.end_table.specs.declared.entry.Inward.TheVariants as inward
use Rattle.kernel_step.specs.Actions.{kernel_numbers}
use Rattle.kernel_step.specs.Rows.{ends_in}
use Rattle.kernel_effects.specs.Actions.{arrival_packets, forget_packet, forget_packets, gone_packets, live_packets, moved_packets, news_packets, receive_packets}
use Rattle.kernel_effects.specs.Effect.{brings, puts, stamped, turns}

-- ---- entries

-- at one end, and at the others
pub puts-each : (P : Entry → Type 0) (e : EndId) (x : Entry) (others : EndId → Entry → Entry) (q : EndId) (y : Entry) → (end_eq e q ≡ true → P x) → (end_eq e q ≡ false → P (others q y)) → P (puts e x others q y)
puts-each P e x others q y same other = by (end_eq e q) refl
  where
    by : (b : Bool) → end_eq e q ≡ b → P (if b then x else others q y)
    by true is = same is
    by false is = other is

-- at ends of a list, and at the others
pub turns-each : (P : Entry → Type 0) (xs : List EndId) (word : Entry → Entry) (others : EndId → Entry → Entry) (q : EndId) (y : Entry) → (list_any (end_eq q) xs ≡ true → P (word y)) → (list_any (end_eq q) xs ≡ false → P (others q y)) → P (turns xs word others q y)
turns-each P xs word others q y among other = by (list_any (end_eq q) xs) refl
  where
    by : (b : Bool) → list_any (end_eq q) xs ≡ b → P (if b then word y else others q y)
    by true is = among is
    by false is = other is

-- at the ends of values, and at the others
pub brings-each : (P : Entry → Type 0) (ms : List MovingPicture) (word : MovingPicture → Entry) (others : EndId → Entry → Entry) (q : EndId) (y : Entry) → AllByRecursion (λ m. m.end ≡ q → P (word m)) ms → (list_any (end_eq q) (ends_in ms) ≡ false → P (others q y)) → P (brings ms word others q y)
brings-each P [] word others q y at other = other refl
brings-each P (m ∷ ms) word others q y at other = by (end_eq m.end q) refl (λ apart. brings-each P ms word others q y at.1 (λ none. other (ap (λ b. b || list_any (end_eq q) (ends_in ms)) apart ∙ none)))
  where
    by : (b : Bool) → end_eq m.end q ≡ b → (end_eq q m.end ≡ false → P (brings ms word others q y)) → P (if b then word m else brings ms word others q y)
    by true is rest = at.0 (end_eq-same m.end q is)
    by false is rest = rest (end_eq-sym q m.end ∙ is)

-- ---- packets

-- what is true of each packet of a list, one after the other
pub all-append : {X : Type 0} (P : X → Type 0) (xs ys : List X) → AllByRecursion P xs → AllByRecursion P ys → AllByRecursion P (xs ++ ys)
all-append P [] ys first second = second
all-append P (x ∷ xs) ys first second = (first.0, all-append P xs ys first.1 second)

pub all-flat_map : {X Y : Type 0} (P : Y → Type 0) (f : X → List Y) (xs : List X) → AllByRecursion (λ x. AllByRecursion P (f x)) xs → AllByRecursion P (flat_map f xs)
all-flat_map P f [] are = tt
all-flat_map P f (x ∷ xs) are = all-append P (f x) (flat_map f xs) are.0 (all-flat_map P f xs are.1)

-- each forget of the traces of an end
pub forget-each : (P : ℕ × PictureWhat → Type 0) (k : ℕ) (m : MovingPicture) → ((j : ℕ) → bit_at m.trail j ≡ 1 → nat_eq j k ≡ false → P (j, packet.Forget m.end m.hops)) → AllByRecursion P (forget_packets k m)
forget-each P k m is = all-flat_map P (forget_packet k m) kernel_numbers (one 0, (one 1, (one 2, (one 3, (one 4, (one 5, (one 6, (one 7, tt))))))))
  where
    one : (j : ℕ) → AllByRecursion P (forget_packet k m j)
    one j = by (nat_eq (bit_at m.trail j) 1 && not (nat_eq j k)) refl
      where
        by : (b : Bool) → (nat_eq (bit_at m.trail j) 1 && not (nat_eq j k)) ≡ b → AllByRecursion P (if b then (j, packet.Forget m.end m.hops) ∷ [] else [])
        by true told = let parts = and_parts _ _ told in (is j (eqb-true _ _ parts.0) (not-true _ parts.1), tt)
        by false told = tt

-- the packet that tells of a destruction
pub gone-each : (P : ℕ × PictureWhat → Type 0) (k : ℕ) (m : MovingPicture) → (m.dead ≡ false → P (m.hint.0, packet.Gone (opposite m.end) k)) → AllByRecursion P (gone_packets k m)
gone-each P k m is = by m.dead refl
  where
    by : (b : Bool) → m.dead ≡ b → AllByRecursion P (if b then [] else (m.hint.0, packet.Gone (opposite m.end) k) ∷ [])
    by true dead = tt
    by false dead = (is dead, tt)

-- the packet of an arrival
pub arrival-each : (P : ℕ × PictureWhat → Type 0) (k : ℕ) (m : MovingPicture) → (m.dead ≡ false → P (m.hint.0, packet.Moved (opposite m.end) k m.hops)) → AllByRecursion P (arrival_packets k m)
arrival-each P k m is = by m.dead refl
  where
    by : (b : Bool) → m.dead ≡ b → AllByRecursion P (if b then [] else moved_packets k m)
    by true dead = tt
    by false dead = (is dead, tt)

-- the live packets of an end
pub live-each : (P : ℕ × PictureWhat → Type 0) (k : ℕ) (m : MovingPicture) (i : Inward) → ((w : ℕ) → i ≡ inward.Posted w → P (m.hint.0, packet.Want (opposite m.end) w k m.hops))
    → ((w : ℕ) → i ≡ inward.Withdrawing w → P (m.hint.0, packet.Unwant (opposite m.end) w k m.hops)) → P (m.hint.0, packet.Moved (opposite m.end) k m.hops) → AllByRecursion P (live_packets k m i)
live-each P k m i want unwant moved = all-append P (receive_packets k m i) (if nat_eq m.trail 0 then [] else moved_packets k m) (asked i want unwant) (by (nat_eq m.trail 0))
  where
    asked : (i : Inward) → ((w : ℕ) → i ≡ inward.Posted w → P (m.hint.0, packet.Want (opposite m.end) w k m.hops)) → ((w : ℕ) → i ≡ inward.Withdrawing w → P (m.hint.0, packet.Unwant (opposite m.end) w k m.hops)) → AllByRecursion P (receive_packets k m i)
    asked inward.Idle want unwant = tt
    asked (inward.Posted w) want unwant = (want w refl, tt)
    asked (inward.Withdrawing w) want unwant = (unwant w refl, tt)
    asked inward.Unreported want unwant = tt

    by : (b : Bool) → AllByRecursion P (if b then [] else moved_packets k m)
    by true = tt
    by false = (moved, tt)

-- those that go again on news
pub news-each : (P : ℕ × PictureWhat → Type 0) (k : ℕ) (before : MovingPicture) (hops : ℕ) (m : MovingPicture) (i : Inward) → (is_news before hops ≡ true → AllByRecursion P (live_packets k m i)) → AllByRecursion P (news_packets k before hops m i)
news-each P k before hops m i is = by (is_news before hops) refl
  where
    by : (b : Bool) → is_news before hops ≡ b → AllByRecursion P (if b then live_packets k m i else [])
    by true news = is news
    by false news = tt

-- what is true of each packet that is added, with the kernel that it goes to, is true of each that goes to one kernel
pub stamped-each : (P : ℕ → PictureWhat → Type 0) (stamp to : ℕ) (ps : List (ℕ × PictureWhat)) → AllByRecursion (λ s. P s.0 s.1) ps
    → AllByRecursion (λ q. P to q.what) (map (λ (s : ℕ × Picture). s.1) (filter (λ s. nat_eq to s.0) (map (stamped stamp) ps)))
stamped-each P stamp to [] are = tt
stamped-each P stamp to (x ∷ xs) are = by (nat_eq to x.0) refl (stamped-each P stamp to xs are.1)
  where
    rest : List (ℕ × Picture)
    rest = filter (λ s. nat_eq to s.0) (map (stamped stamp) xs)

    by : (b : Bool) → nat_eq to x.0 ≡ b → AllByRecursion (λ q. P to q.what) (map (λ (s : ℕ × Picture). s.1) rest) → AllByRecursion (λ q. P to q.what) (map (λ (s : ℕ × Picture). s.1) (if b then stamped stamp x ∷ rest else rest))
    by true is others = (subst (λ j. P j x.1) (sym (eqb-true to x.0 is)) are.0, others)
    by false is others = others
