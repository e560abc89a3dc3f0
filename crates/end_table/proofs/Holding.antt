-- How a table keeps the messages of sends that wait, as its entries change.
use Rattle.std.proofs.Common.{◌≡◌, ℕ, ◌≤◌, ◌<◌, ◌+◌, Bool, true, false, true≢false, List, [], length, Option, None, Some, IsSome, is_some, IfSome, if◌then◌else◌, refl, sym, ap, subst, ◌∙◌, arith}
use Rattle.std.specs.Map.{lookup}
use Rattle.std.specs.Prelude.{OnOk, OnErr}
use Rattle.std.specs.declared.result.Result.{Result}
use Rattle.std.specs.declared.result.Result.TheVariants as result
use Rattle.charlotte_calls.specs.declared.names.EndId.{EndId}
use Rattle.charlotte_packets.specs.declared.picture.MovingPicture.{MovingPicture}
use Rattle.end_table.specs.Entries.{left_entry, ended_entry, gains_one}
use Rattle.end_table.specs.Message.{HoldsMessages, HasNoMorePlaces, waiting_message, message_of}
use Rattle.end_table.specs.Kept.{MessagesView, HasAt, HasRoom}
use Rattle.end_table.specs.Place.{end_eq}
use Rattle.end_table.specs.Table.{TableView, entries, HasPlace, Puts, Clears, IsHere, IfHere, IsDestroyed, IfDestroyed}
use Rattle.end_table.specs.declared.entry.Entry.{Entry}
use Rattle.end_table.specs.declared.entry.Entry.TheVariants as entry
use Rattle.end_table.specs.declared.entry.HereView.{HereView}
use Rattle.end_table.specs.declared.message.Message.{Message}
use Rattle.end_table.proofs.EndEq.{end_eq-same, end_eq-refl}

-- the message of an entry, if one waits there, is what these messages have of the end
abbrev pub IsKept : MessagesView → EndId → Entry → Type 0
IsKept messages end x = IfSome (waiting_message x) (λ m. lookup (end_eq end) messages.kept ≡ Some m)

-- messages change at one end alone
abbrev pub ChangesAt : EndId → MessagesView → MessagesView → Type 0
ChangesAt end old new = (q : EndId) → end_eq end q ≡ false → lookup (end_eq q) new.kept ≡ lookup (end_eq q) old.kept

pub ChangesAt-HasAt : (end : EndId) (old new : MessagesView) (message : Option Message) → HasAt old new end message → ChangesAt end old new
ChangesAt-HasAt end old new message has q apart = has q ∙ rw apart refl

module _ (old new : TableView) (end : EndId) (from to : MessagesView) (changes : ChangesAt end from to) (holds : HoldsMessages old from) (room : length new.places ≤ to.most) where
  -- an entry is put, whose message is kept
  pub HoldsMessages-Puts : (x : Entry) → Puts old new end x → IsKept to end x → HoldsMessages new to
  HoldsMessages-Puts x puts kept =
      record {
        each = λ q. by (end_eq end q) q refl;
        placed = λ q some. placed (end_eq end q) q refl some;
        room = room;
      }
    where
      by : (b : Bool) (q : EndId) → end_eq end q ≡ b → IsKept to q (entries new q)
      by true q same = subst (λ z. IsKept to z (entries new z)) (end_eq-same end q same) (subst (IsKept to end) (sym puts.at) kept)
      by false q apart = rw (puts.others q apart, changes q apart) (holds.each q)

      placed : (b : Bool) (q : EndId) → end_eq end q ≡ b → IsSome (lookup (end_eq q) to.kept) → HasPlace new q
      placed true q same some = subst (HasPlace new) (end_eq-same end q same) puts.placed
      placed false q apart some = puts.places q (holds.placed q (subst IsSome (changes q apart) some))

  -- an end that is here becomes a function of its view, whose message is kept
  pub HoldsMessages-changes : (f : HereView → Entry) → ((v : HereView) → entries old end ≡ entry.Here v → IsKept to end (f v)) → IsHere (entries old end)
      → IfHere (entries old end) (λ v. Puts old new end (f v)) → HoldsMessages new to
  HoldsMessages-changes f kept here puts = by (entries old end) refl here puts
    where
      by : (x : Entry) → entries old end ≡ x → IsHere x → IfHere x (λ v. Puts old new end (f v)) → HoldsMessages new to
      by (entry.Here v) is here puts = HoldsMessages-Puts (f v) puts (kept v is)
      by entry.Nothing is here puts = absurd here
      by (entry.Left k hops) is here puts = absurd here
      by (entry.Destroyed m) is here puts = absurd here

  -- a mark changes
  pub HoldsMessages-marked : (f : MovingPicture → MovingPicture) → IsDestroyed (entries old end) → IfDestroyed (entries old end) (λ m. Puts old new end (entry.Destroyed (f m))) → HoldsMessages new to
  HoldsMessages-marked f there puts = by (entries old end) there puts
    where
      by : (x : Entry) → IsDestroyed x → IfDestroyed x (λ m. Puts old new end (entry.Destroyed (f m))) → HoldsMessages new to
      by (entry.Destroyed m) there puts = HoldsMessages-Puts (entry.Destroyed (f m)) puts tt
      by (entry.Here v) there puts = absurd there
      by entry.Nothing there puts = absurd there
      by (entry.Left k hops) there puts = absurd there

  -- an entry is cleared, and nothing is kept of the end
  pub HoldsMessages-Clears : Clears old new end → lookup (end_eq end) to.kept ≡ None → HoldsMessages new to
  HoldsMessages-Clears clears none =
      record {
        each = λ q. by (end_eq end q) q refl;
        placed = λ q some. placed (end_eq end q) q refl some;
        room = room;
      }
    where
      by : (b : Bool) (q : EndId) → end_eq end q ≡ b → IsKept to q (entries new q)
      by true q same = subst (λ z. IsKept to z (entries new z)) (end_eq-same end q same) (subst (IsKept to end) (sym clears.at) tt)
      by false q apart = rw (clears.others q apart, changes q apart) (holds.each q)

      placed : (b : Bool) (q : EndId) → end_eq end q ≡ b → IsSome (lookup (end_eq q) to.kept) → HasPlace new q
      placed true q same some = absurd (true≢false (sym (subst (λ z. IsSome (lookup (end_eq z) to.kept)) (sym (end_eq-same end q same)) some) ∙ ap is_some none))
      placed false q apart some = clears.places q apart (holds.placed q (subst IsSome (changes q apart) some))

-- what waits at an end that is here is kept under whatever leaves its send
pub IsKept-same : (t : TableView) (messages : MessagesView) (end : EndId) → HoldsMessages t messages → (v : HereView) → entries t end ≡ entry.Here v
    → IfSome (message_of v.outward) (λ m. lookup (end_eq end) messages.kept ≡ Some m)
IsKept-same t messages end holds v is = subst (IsKept messages end) is (holds.each end)

-- a table without entries holds no messages
pub HoldsMessages-empty : (t : TableView) (messages : MessagesView) → entries t ≡ (λ _. entry.Nothing) → t.places ≡ [] → messages.kept ≡ [] → HoldsMessages t messages
HoldsMessages-empty t messages nothing none empty =
    record {
      each = λ q. rw nothing tt;
      placed = λ q some. absurd (true≢false (sym some ∙ ap (λ es. is_some (lookup (end_eq q) es)) empty));
      room = rw none (omega arith);
    }

-- after a removal there is room for one message fewer at most, and one place fewer where there was a message
pub room-fewer : (old new : TableView) (from to : MessagesView) (end : EndId) → HoldsMessages old from → HasNoMorePlaces old new
    → (HasPlace old end → length new.places < length old.places) → (lookup (end_eq end) from.kept ≡ None → from.most ≤ to.most) → from.most ≤ to.most + 1
    → length new.places ≤ to.most
room-fewer old new from to end holds count fewer absent room = by (lookup (end_eq end) from.kept) refl
  where
    by : (o : Option Message) → lookup (end_eq end) from.kept ≡ o → length new.places ≤ to.most
    by None none = let most = absent none in let fits = holds.room in omega arith
    by (Some m) some = let less = fewer (holds.placed end (ap is_some some)) in let fits = holds.room in omega arith

-- there is room for the message of an end with a place
pub HasRoom-placed : (t : TableView) (messages : MessagesView) (end : EndId) → HoldsMessages t messages → HasPlace t end → HasRoom messages end
unfolding HasPlace
HasRoom-placed t messages end holds place = record { places = t.places; place = place; among = holds.placed; room = holds.room }

-- a place with nothing in it has no message, and there is room for one more
pub HoldsMessages-opened : {A B : Type 0} (old new : TableView) (end : EndId) (from to : MessagesView) (r : Result A B) → OnOk r (Puts old new end entry.Nothing) → OnErr r (new ≡ old)
    → to.kept ≡ from.kept → length new.places ≤ to.most → HoldsMessages old from → HoldsMessages new to
HoldsMessages-opened old new end from to (result.Ok a) puts same kept room holds =
    HoldsMessages-Puts old new end from to (λ q apart. ap (λ es. lookup (end_eq q) es) kept) holds room entry.Nothing puts tt
HoldsMessages-opened old new end from to (result.Err b) puts same kept room holds =
    record {
      each = λ q. rw (kept, same) (holds.each q);
      placed = λ q some. rw same (holds.placed q (subst (λ es. IsSome (lookup (end_eq q) es)) kept some));
      room = room;
    }

-- what leaves, and what was destroyed, has no message
pub IsKept-left : (messages : MessagesView) (end : EndId) (to : ℕ) (m : MovingPicture) → IsKept messages end (left_entry to m)
IsKept-left messages end to m = by m.dead
  where
    by : (b : Bool) → IsKept messages end (if b then entry.Nothing else entry.Left to (gains_one m.hops))
    by true = tt
    by false = tt

pub IsKept-ended : (messages : MessagesView) (end : EndId) (m : MovingPicture) → IsKept messages end (ended_entry m)
IsKept-ended messages end m = by m.dead
  where
    by : (b : Bool) → IsKept messages end (if b then entry.Nothing else entry.Destroyed m)
    by true = tt
    by false = tt

-- what there is at the end afterwards
pub none-HasAt : (old new : MessagesView) (end : EndId) → HasAt old new end None → lookup (end_eq end) new.kept ≡ None
none-HasAt old new end has = has end ∙ rw (end_eq-refl end) refl

pub is-HasAt : (old new : MessagesView) (end : EndId) (m : Message) → HasAt old new end (Some m) → lookup (end_eq end) new.kept ≡ Some m
is-HasAt old new end m has = has end ∙ rw (end_eq-refl end) refl

-- a message as proofs see it, put together
abbrev pub seen : List ℕ × List EndId → Option Message
seen p = Some (record { bytes = p.0; enclosed = p.1 })
