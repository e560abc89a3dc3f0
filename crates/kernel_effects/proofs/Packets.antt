-- The words that add packets alone, and LEARN.
use Rattle.std.proofs.Common.{ℕ, nat_eq, not, ◌&&◌, List, [], ◌∷◌}
use Rattle.std.specs.Int.{bit_at}
use Rattle.std.specs.List.{fold, flat_map}
use Rattle.charlotte_calls.specs.Names.{opposite}
use Rattle.charlotte_packets.specs.declared.picture.MovingPicture.{MovingPicture}
use Rattle.charlotte_packets.specs.declared.picture.PictureWhat.{PictureWhat}
use Rattle.charlotte_packets.specs.declared.picture.PictureWhat.TheVariants as packet
use Rattle.end_table.specs.Entries.{is_news}
use Rattle.end_table.specs.declared.entry.Entry.TheVariants as entry
use Rattle.end_table.specs.declared.entry.HereView.{HereView}
use Rattle.end_table.specs.declared.entry.Inward.{Inward}
use Rattle.end_table.specs.declared.entry.Inward.TheVariants as inward
use Rattle.kernel_step.specs.Actions.{forget_at, forgets, kernel_numbers, tells_gone, tells_moved, resends_receive, resends, resends_on_news, tells_arrival, tell_arrivals, learned_view, learns}
use Rattle.kernel_step.specs.Progress.{Progress, keeps}
use Rattle.kernel_effects.specs.Effect.{Does, sent}
use Rattle.kernel_effects.specs.Actions.{arrival_packets, forget_packet, forget_packets, gone_packets, learn_effect, live_packets, moved_packets, news_packets, receive_packets}
use Rattle.kernel_effects.proofs.Does.{does-nothing, does-then, keeps-does, sends-does, sent-either}

-- a fold of words that add packets alone
pub sent-fold : {X : Type 0} (step : Progress → X → Progress) (packets : X → List (ℕ × PictureWhat)) → ((d : Progress) (x : X) → Does (sent (packets x)) d (step d x))
    → (xs : List X) (d : Progress) → Does (sent (flat_map packets xs)) d (fold step d xs)
sent-fold step packets does [] d = does-nothing d
sent-fold step packets does (x ∷ xs) d = does-then (does d x) (sent-fold step packets does xs (step d x))

-- the traces of an end are forgotten
pub forgets-does : (k : ℕ) (m : MovingPicture) (d : Progress) → Does (sent (forget_packets k m)) d (forgets k m d)
unfolding forgets
forgets-does k m d =
    sent-fold (λ so_far j. forget_at k m j so_far) (forget_packet k m)
    (λ d j. sent-either (nat_eq (bit_at m.trail j) 1 && not (nat_eq j k)) ((j, packet.Forget m.end m.hops) ∷ []) [] (sends-does j (packet.Forget m.end m.hops) d) (does-nothing d))
    kernel_numbers d

-- the opposite end is told of the destruction
pub tells_gone-does : (k : ℕ) (m : MovingPicture) (d : Progress) → Does (sent (gone_packets k m)) d (tells_gone k m d)
unfolding tells_gone
tells_gone-does k m d = sent-either m.dead [] ((m.hint.0, packet.Gone (opposite m.end) k) ∷ []) (does-nothing d) (sends-does m.hint.0 (packet.Gone (opposite m.end) k) d)

-- it is told of a move
pub tells_moved-does : (k : ℕ) (m : MovingPicture) (d : Progress) → Does (sent (moved_packets k m)) d (tells_moved k m d)
unfolding tells_moved
tells_moved-does k m d = sends-does m.hint.0 (packet.Moved (opposite m.end) k m.hops) d

-- ends that arrived tell of it
pub tell_arrivals-does : (k : ℕ) (ms : List MovingPicture) (d : Progress) → Does (sent (flat_map (arrival_packets k) ms)) d (tell_arrivals k ms d)
unfolding tell_arrivals
tell_arrivals-does k ms d =
    sent-fold (λ so_far m. tells_arrival k m so_far) (arrival_packets k)
    (λ d m. sent-either m.dead [] (moved_packets k m) (does-nothing d) (tells_moved-does k m d)) ms d

-- the live packet of a receive goes again
pub resends_receive-does : (k : ℕ) (m : MovingPicture) (i : Inward) (d : Progress) → Does (sent (receive_packets k m i)) d (resends_receive k m i d)
resends_receive-does k m inward.Idle d = does-nothing d
resends_receive-does k m (inward.Posted w) d = sends-does m.hint.0 (packet.Want (opposite m.end) w k m.hops) d
resends_receive-does k m (inward.Withdrawing w) d = sends-does m.hint.0 (packet.Unwant (opposite m.end) w k m.hops) d
resends_receive-does k m inward.Unreported d = does-nothing d

-- all live packets go again
pub resends-does : (k : ℕ) (m : MovingPicture) (i : Inward) (d : Progress) → Does (sent (live_packets k m i)) d (resends k m i d)
unfolding resends
resends-does k m i d =
    let asked = resends_receive k m i d in
    does-then (resends_receive-does k m i d)
    (sent-either (nat_eq m.trail 0) [] (moved_packets k m) (does-nothing asked) (tells_moved-does k m asked))

-- they do where the hint rose
pub resends_on_news-does : (k : ℕ) (before : MovingPicture) (hops : ℕ) (m : MovingPicture) (i : Inward) (d : Progress) → Does (sent (news_packets k before hops m i)) d (resends_on_news k before hops m i d)
unfolding resends_on_news
resends_on_news-does k before hops m i d = sent-either (is_news before hops) (live_packets k m i) [] (resends-does k m i d) (does-nothing d)

-- LEARN, where nothing else happens to the end
pub learns-does : (k at hops : ℕ) (v : HereView) (d : Progress) → Does (learn_effect k at hops v) d (learns k at hops v d)
unfolding learns
learns-does k at hops v d =
    let informed = learned_view v at hops in
    let kept = keeps v.value.end (entry.Here informed) d in
    does-then (keeps-does v.value.end (entry.Here informed) d) (resends_on_news-does k v.value hops informed.value v.inward kept)
