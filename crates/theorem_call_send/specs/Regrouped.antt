-- The send of an end changes, and with it who holds the ends that it encloses. No message is matched or taken by it, and no packet goes.
use Rattle.std.specs.Prelude.{◌≡◌, ℕ, Bool, true, false, nat_eq, List, None}
use Rattle.std.specs.List.{list_any}
use Rattle.charlotte_calls.specs.declared.names.EndId.{EndId}
use Rattle.end_table.specs.Place.{end_eq}
use Rattle.end_table.specs.Table.{IsHereAnd, IsIdle}
use Rattle.end_table.specs.declared.entry.Entry.TheVariants as entry
use Rattle.end_table.specs.declared.entry.HereView.{HereView}
use Rattle.end_table.specs.declared.entry.Holder.{Holder}
use Rattle.kernel_effects.specs.Actions.{held_entry}
use Rattle.kernel_effects.specs.Effect.{puts, stays, turns}
use Rattle.service_step.specs.Ends.{is_living, is_taken, matched_message}
use Rattle.service_step.specs.State.{State}
use Rattle.service_step.specs.declared.state.End.{End}
use Rattle.service_step.specs.declared.state.Outward.{Outward}
use Rattle.service_step.specs.declared.state.Place.{Place}
use Rattle.theorem_meaning.specs.Packets.{Links}
use Rattle.theorem_meaning.specs.StandsFor.{entry_at}
use Rattle.theorem_call_send.specs.Kept.{IsViewKept}

-- an end is among these
abbrev pub is_among : List EndId → EndId → Bool
is_among xs f = list_any (end_eq f) xs

-- no message is matched, and none was taken
pub record IsUnmatched (o : Outward) : Type 0 where
  pub message : matched_message o ≡ None
  pub taken : is_taken o ≡ false

-- at kernel k an end's view v becomes y, and its ends xs, which are here and idle, come to holder h; in the service they come to a place
pub record IsRegrouping (w u : Links) (s : State) (t : EndId → End) (k : ℕ) (v y : HereView) (h : Holder) (at : Place)
    (xs : List EndId) : Type 0 where
  pub here : entry_at w k v.value.end ≡ entry.Here v
  pub like : IsViewKept v y
  pub holder : y.holder ≡ v.holder
  pub idle : (f : EndId) → is_among xs f ≡ true → IsHereAnd (entry_at w k f) IsIdle
  pub apart : is_among xs v.value.end ≡ false
  -- entries and packets afterwards
  pub entries : (f : EndId) → entry_at u k f ≡ puts v.value.end (entry.Here y) (turns xs (held_entry h) stays) f (entry_at w k f)
  pub others : (j : ℕ) (f : EndId) → nat_eq j k ≡ false → entry_at u j f ≡ entry_at w j f
  pub packets : (from to : ℕ) → u.packets from to ≡ w.packets from to
  -- ends of the service
  pub living : is_living at ≡ true
  pub own : t v.value.end ≡ record (s.ends v.value.end) { outward = (t v.value.end).outward; sent = y.value.sent }
  pub within : (f : EndId) → is_among xs f ≡ true → t f ≡ record (s.ends f) { place = at }
  pub away : (f : EndId) → end_eq v.value.end f ≡ false → is_among xs f ≡ false → t f ≡ s.ends f
  pub before : IsUnmatched (s.ends v.value.end).outward
  pub after : IsUnmatched (t v.value.end).outward
