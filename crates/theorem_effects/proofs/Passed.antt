-- An event passes by every link but those of the ends that it touches: nothing of such a link changes.
use Rattle.std.proofs.Common.{◌≡◌, inl, inr, ℕ, Bool, true, false, if◌then◌else◌, List, [], ◌∷◌, ◌++◌, Contains, IfSome, Option, Some, None, refl, sym, ap, subst, ◌∙◌, true≢false}
use Rattle.std.specs.List.{AllByRecursion, list_any}
use Rattle.charlotte_calls.specs.Names.{opposite}
use Rattle.charlotte_calls.specs.declared.calls.Answer.{Answer}
use Rattle.charlotte_calls.specs.declared.calls.Call.{Call}
use Rattle.charlotte_calls.specs.declared.calls.Report.{Report}
use Rattle.charlotte_calls.specs.declared.names.EndId.{EndId}
use Rattle.charlotte_calls.specs.declared.names.Pid.{Pid}
use Rattle.charlotte_packets.specs.declared.picture.Picture.{Picture}
use Rattle.charlotte_packets.specs.declared.picture.PictureWhat.{PictureWhat}
use Rattle.charlotte_packets.specs.declared.picture.PictureWhat.TheVariants as packet
use Rattle.end_table.proofs.EndEq.{end_eq-refl, end_eq-sym}
use Rattle.end_table.specs.Place.{end_eq}
use Rattle.end_table.specs.declared.entry.Entry.{Entry}
use Rattle.kernel_effects.specs.Calls.{act_effect}
use Rattle.kernel_effects.specs.Rows.{row_effect, values_in}
use Rattle.kernel_outcomes.proofs.Touched.{act-stays, row-stays}
use Rattle.kernel_outcomes.specs.Closing.{call_told, told, told_entry}
use Rattle.kernel_outcomes.specs.Touched.{act_ends, enclosed_at, row_ends}
use Rattle.kernel_sound.specs.Sound.{addressee}
use Rattle.kernel_step.proofs.EnclosedEnds.{first_false, second_false}
use Rattle.kernel_step.proofs.Folds.{AreOwn}
use Rattle.kernel_step.specs.Kernel.{is_waiting, process_of, reported_entry}
use Rattle.kernel_step.specs.Rows.{ends_in}
use Rattle.kernel_step.specs.declared.phase.Phase.{Phase}
use Rattle.kernel_world.specs.World.{World}
use Rattle.theorem_meaning.proofs.Frame.{IsAbout, IsSameLink}
use Rattle.theorem_meaning.specs.Invariant.{is_message_of}
use Rattle.theorem_meaning.specs.Packets.{Links, how_many, links_of, one_if, values_of}
use Rattle.theorem_effects.specs.Aside.{IsAside, IsClear, IsUnaddressed, IsUnbrought}
use Rattle.theorem_effects.specs.Change.{Change, Changes}
use Rattle.theorem_effects.specs.Events.{caller, calling, taking}
use Rattle.theorem_effects.specs.Sums.{AllSent}
use Rattle.theorem_effects.proofs.Allowed.{same-values}
use Rattle.theorem_effects.proofs.Aside.{entry-same, not_among, sent-each}
use Rattle.theorem_effects.proofs.Clear.{AreClear, far-each, row-clear}
use Rattle.theorem_effects.proofs.ClearCalls.{act-clear}
use Rattle.theorem_effects.proofs.Packets.{under_way-was}
use Rattle.theorem_effects.proofs.Sums.{sum_over-same}
use Rattle.theorem_effects.proofs.Values.{each-weaker}

-- ---- a link that is passed by

-- where an event passes by both ends of a link, nothing of it is new
pub aside-same_link : {w u : Links} {c : Change} → Changes w c u → (e : EndId) → IsAside w c e → IsAside w c (opposite e) → IsSameLink w u e
aside-same_link {w} {u} {c} b e a o =
    record {
      own = entry-same b e a.kept;
      other = entry-same b (opposite e) o.kept;
      packets = λ q about. under_way-was b (λ r. r ≡ q) (λ x. not_sent q about x.to (subst (λ r. Contains c.packets (x.to, r)) x.is x.there));
    }
  where
    addressed : (x : EndId) → IsUnaddressed c x → (q : PictureWhat) (to : ℕ) → Contains c.packets (to, q) → addressee q ≡ x → ⊥
    addressed x a q to there is =
        true≢false (sym (end_eq-refl x) ∙ subst (λ z. end_eq x z ≡ false) is (sent-each (λ to what. end_eq x (addressee what) ≡ false) c.packets to q a.sent there))

    brought : (x : EndId) → IsUnbrought c x → (q : PictureWhat) (to : ℕ) → Contains c.packets (to, q) → Contains (ends_in (values_of q)) x → ⊥
    brought x a q to there is = not_among x (ends_in (values_of q)) (sent-each (λ to what. list_any (end_eq x) (ends_in (values_of what)) ≡ false) c.packets to q a.sent there) is

    not_sent : (q : PictureWhat) → IsAbout e q → (to : ℕ) → Contains c.packets (to, q) → ⊥
    not_sent q (inl is) to there = addressed e a.addressed q to there is
    not_sent q (inr (inl is)) to there = addressed (opposite e) o.addressed q to there is
    not_sent q (inr (inr (inl is))) to there = brought e a.brought q to there is
    not_sent q (inr (inr (inr is))) to there = brought (opposite e) o.brought q to there is

-- as many packets carry its messages
pub message-same : {w u : Links} {c : Change} → Changes w c u → (f : EndId) → IsUnaddressed c f → IsUnaddressed c (opposite f) → how_many (is_message_of f) u ≡ how_many (is_message_of f) w
message-same {w} {u} {c} b f a o = sum_over-same (λ q. one_if (is_message_of f q)) b (taken c.taken a.taken o.taken) (sent c.packets a.sent o.sent)
  where
    none : (q : PictureWhat) → end_eq f (addressee q) ≡ false → end_eq (opposite f) (addressee q) ≡ false → one_if (is_message_of f q) ≡ 0
    none (packet.Parcel to n w at hops bytes ms) own other = ap one_if other
    none (packet.Back to n ms) own other = ap one_if own
    none _ own other = refl

    taken : (t : Option (ℕ × Picture)) → IfSome t (λ t. end_eq f (addressee t.1.what) ≡ false) → IfSome t (λ t. end_eq (opposite f) (addressee t.1.what) ≡ false) → IfSome t (λ t. one_if (is_message_of f t.1.what) ≡ 0)
    taken None own other = tt
    taken (Some t) own other = none t.1.what own other

    sent : (ps : List (ℕ × PictureWhat)) → AllSent (λ to what. end_eq f (addressee what) ≡ false) ps → AllSent (λ to what. end_eq (opposite f) (addressee what) ≡ false) ps → AllSent (λ to what. one_if (is_message_of f what) ≡ 0) ps
    sent [] own other = tt
    sent (p ∷ ps) own other = (none p.1 own.0 other.0, sent ps own.1 other.1)

-- ---- which events pass by

-- a report on another end
pub told-stays : (rs : List Report) (e : EndId) (y : Entry) → AllByRecursion (λ r. end_eq r.on e ≡ false) rs → told_entry rs e y ≡ y
told-stays [] e y others = refl
told-stays (r ∷ rs) e y others = ap (λ b. if b then reported_entry r.way y else y) others.0

told-among : (P : Report → Type 0) (phase : Phase) (given : List Answer) (rs : List Report) → AllByRecursion P rs → AllByRecursion P (told phase given rs)
told-among P phase [] [] are = tt
told-among P phase [] (r ∷ rs) are = by (is_waiting phase)
  where
    by : (b : Bool) → AllByRecursion P (if b then r ∷ [] else [])
    by true = (are.0, tt)
    by false = tt
told-among P phase (a ∷ given) rs are = tt

clear-sent : (e : EndId) (ps : List (ℕ × PictureWhat)) → AreClear e ps → AllSent (λ to what. end_eq e (addressee what) ≡ false) ps × AllSent (λ to what. list_any (end_eq e) (ends_in (values_of what)) ≡ false) ps
clear-sent e ps clear =
    (each-weaker (IsClear e) (λ s. end_eq e (addressee s.1) ≡ false) (λ s is. is.0) ps clear, each-weaker (IsClear e) (λ s. list_any (end_eq e) (ends_in (values_of s.1)) ≡ false) (λ s is. is.1) ps clear)

second_any : (e : EndId) (xs ys : List EndId) → list_any (end_eq e) (xs ++ ys) ≡ false → list_any (end_eq e) ys ≡ false
second_any e [] ys none = none
second_any e (x ∷ xs) ys none = second_any e xs ys (second_false _ _ none)

-- a packet that is taken passes by an end that it does not touch, and whose opposite it does not touch
pub takes-aside : (w : World) (k from : ℕ) (q : Picture) (p : Pid) (given : List Answer) (rs : List Report) (e : EndId) → AreOwn (w.kernel k).table
    → list_any (end_eq e) (row_ends (w.kernel k).table q.what) ≡ false → list_any (end_eq (opposite e)) (row_ends (w.kernel k).table q.what) ≡ false → AllByRecursion (λ r. r.on ≡ addressee q.what) rs
    → IsAside (links_of w) (taking w k from q (row_effect (w.kernel k).number (w.kernel k).made from (w.kernel k).table q.what) p given rs) e
takes-aside w k from q p given rs e own none other about =
    record {
      kept = told-stays (told (process_of p (w.kernel k)).phase given rs) e _ others ∙ row-stays (w.kernel k).number (w.kernel k).made from (w.kernel k).table own e ((w.kernel k).table e) q.what none;
      addressed = record { taken = first_false _ _ none; sent = sent.0 };
      brought = record { taken = subst (λ ms. list_any (end_eq e) (ends_in ms) ≡ false) (same-values q.what) (second_any e (enclosed_at ((w.kernel k).table (addressee q.what))) (ends_in (values_in q.what)) (second_false _ _ none)); sent = sent.1 };
    }
  where
    others : AllByRecursion (λ r. end_eq r.on e ≡ false) (told (process_of p (w.kernel k)).phase given rs)
    others =
        told-among (λ r. end_eq r.on e ≡ false) (process_of p (w.kernel k)).phase given rs
        (each-weaker (λ r. r.on ≡ addressee q.what) (λ r. end_eq r.on e ≡ false) (λ r is. ap (λ z. end_eq z e) is ∙ end_eq-sym (addressee q.what) e ∙ first_false _ _ none) rs about)

    sent : AllSent (λ to what. end_eq e (addressee what) ≡ false) (row_effect (w.kernel k).number (w.kernel k).made from (w.kernel k).table q.what).packets
        × AllSent (λ to what. list_any (end_eq e) (ends_in (values_of what)) ≡ false) (row_effect (w.kernel k).number (w.kernel k).made from (w.kernel k).table q.what).packets
    sent = clear-sent e _ (row-clear e (w.kernel k).number (w.kernel k).table own (w.kernel k).made from q.what (far-each e (row_ends (w.kernel k).table q.what) none other))

-- so does a call, where it tells no report on the end
pub performs-aside : (w : World) (k : ℕ) (p : Pid) (c : Call) (mine : List EndId) (e : EndId) → AreOwn (w.kernel k).table
    → list_any (end_eq e) (act_ends (w.kernel k).number (w.kernel k).made mine (w.kernel k).table c) ≡ false → list_any (end_eq (opposite e)) (act_ends (w.kernel k).number (w.kernel k).made mine (w.kernel k).table c) ≡ false
    → AllByRecursion (λ r. end_eq r.on e ≡ false) (call_told c (caller p (w.kernel k)).reports)
    → IsAside (links_of w) (calling w k p c (act_effect p (w.kernel k).number (w.kernel k).made mine (w.kernel k).table c)) e
performs-aside w k p c mine e own none other others =
    record {
      kept = told-stays (call_told c (caller p (w.kernel k)).reports) e _ others ∙ act-stays p (w.kernel k).number (w.kernel k).made mine (w.kernel k).table own e ((w.kernel k).table e) c none;
      addressed = record { taken = tt; sent = sent.0 };
      brought = record { taken = tt; sent = sent.1 };
    }
  where
    sent : AllSent (λ to what. end_eq e (addressee what) ≡ false) (act_effect p (w.kernel k).number (w.kernel k).made mine (w.kernel k).table c).packets
        × AllSent (λ to what. list_any (end_eq e) (ends_in (values_of what)) ≡ false) (act_effect p (w.kernel k).number (w.kernel k).made mine (w.kernel k).table c).packets
    sent = clear-sent e _ (act-clear e (w.kernel k).number (w.kernel k).made p mine (w.kernel k).table own c (far-each e (act_ends (w.kernel k).number (w.kernel k).made mine (w.kernel k).table c) none other))
