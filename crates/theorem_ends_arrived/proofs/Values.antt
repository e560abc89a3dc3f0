-- The values of a packet at the kernel that takes it: which come, what the table is then, and that each end tells where it is.
use Rattle.std.proofs.Common.{◌≡◌, ◌⊎◌, inl, inr, ℕ, ◌<◌, true, List, [], ◌∷◌, Contains, refl, sym, ap, subst, ◌∙◌, ltb-true}
use Rattle.std.proofs.lemmas.Bool.{and_parts}
use Rattle.std.specs.List.{AllByRecursion, flat_map}
use Rattle.charlotte_packets.specs.Packets.{names_kernels_below}
use Rattle.charlotte_calls.specs.declared.names.EndId.{EndId}
use Rattle.charlotte_calls.specs.declared.names.Pid.{Pid}
use Rattle.charlotte_packets.specs.declared.picture.MovingPicture.{MovingPicture}
use Rattle.end_table.specs.Entries.{settled}
use Rattle.end_table.specs.Place.{put}
use Rattle.end_table.specs.Table.{IsHere, IsHereAnd}
use Rattle.end_table.specs.declared.entry.Entry.{Entry}
use Rattle.end_table.specs.declared.entry.Entry.TheVariants as entry
use Rattle.end_table.specs.declared.entry.Holder.TheVariants as holder
use Rattle.theorem_take_gone.proofs.Folds.{brings-others}
use Rattle.theorem_take_gone.proofs.Uses.{arrival-each}
use Rattle.theorem_take_gone.specs.Actions.{arrival_packets}
use Rattle.theorem_take_gone.specs.Effect.{stays}
use Rattle.kernel_sound.proofs.Put.{IsFreeFor-away, put-sound-quiet}
use Rattle.kernel_sound.proofs.Values.{AreComing}
use Rattle.kernel_sound.specs.Sound.{IsSound}
use Rattle.kernel_step.proofs.Folds.{AreDifferent}
use Rattle.kernel_step.specs.Rows.{ends_in}
use Rattle.theorem_take_gone.proofs.Aside.{ends_in-there, not_among}
use Rattle.theorem_take_gone.proofs.Lists.{first, first_or_later, later, none-there}
use Rattle.theorem_take_gone.proofs.Values.{packets-each}
use Rattle.theorem_take_gone.specs.Sums.{AllSent}
use Rattle.theorem_meaning.proofs.Ends.{opposite-twice}
use Rattle.theorem_meaning.specs.Packets.{Links}
use Rattle.theorem_take_gone.proofs.World.{sound-same}
use Rattle.theorem_ends_arrived.specs.Arrived.{IsTrueMove, settles}

-- what is true of each value that stands there, one after the other
pub each-there : (P : MovingPicture → Type 0) (ms : List MovingPicture) → ((m : MovingPicture) → Contains ms m → P m) → AllByRecursion P ms
each-there P [] is = tt
each-there P (m ∷ ms) is = (is m (first m ms), each-there P ms (λ x has. is x (later m ms x has)))

-- two values of one end are one, where the ends are different
pub same-value : (ms : List MovingPicture) (m l : MovingPicture) → AreDifferent (ends_in ms) → Contains ms m → Contains ms l → m.end ≡ l.end → m ≡ l
same-value [] m l different has there same = absurd (none-there m has)
same-value (x ∷ ms) m l different has there same = by (first_or_later x ms m has) (first_or_later x ms l there) (λ one other. same-value ms m l different.1 one other same)
  where
    twice : (y : MovingPicture) → x.end ≡ y.end → Contains ms y → ⊥
    twice y end is = not_among x.end (ends_in ms) different.0 (subst (Contains (ends_in ms)) (sym end) (ends_in-there ms y is))

    by : (x ≡ m) ⊎ Contains ms m → (x ≡ l) ⊎ Contains ms l → (Contains ms m → Contains ms l → m ≡ l) → m ≡ l
    by (inl one) (inl other) rest = sym one ∙ other
    by (inl one) (inr other) rest = absurd (twice l (ap (λ (z : MovingPicture). z.end) one ∙ same) other)
    by (inr one) (inl other) rest = absurd (twice m (ap (λ (z : MovingPicture). z.end) other ∙ sym same) one)
    by (inr one) (inr other) rest = rest one other

-- ---- the table

pub settles-sound : (p : Pid) (k made n : ℕ) (t : EndId → Entry) (ms : List MovingPicture) → p.0 < n → AreComing k made t ms → IsSound k made n t → IsSound k made n (settles p ms t)
unfolding put
settles-sound p k made n t [] below come sound = sound
settles-sound p k made n t (m ∷ ms) below come sound =
    sound-same k made n (put (settles p ms t) m.end new) (settles p (m ∷ ms) t) (λ e. put-with e)
    (put-sound-quiet m.end new (settles-sound p k made n t ms below come.3 sound) (IsFreeFor-away (settles p ms t) m.end new away) refl (record { outward = refl; inward = refl }) below (λ maker count here. come.1 maker count))
  where
    new : Entry
    new = entry.Here (settled (holder.Owner p) m)

    put-with : (e : EndId) → settles p (m ∷ ms) t e ≡ put (settles p ms t) m.end new e
    put-with e = refl

    away : IsHere (settles p ms t m.end) → ⊥
    away here = come.0 (subst IsHere (brings-others ms (λ m. entry.Here (settled (holder.Owner p) m)) stays m.end (t m.end) come.2) here)

-- ---- the moves that are told

pub arrivals-true : (w : Links) (k n : ℕ) (ms : List MovingPicture) → ((m : MovingPicture) → Contains ms m → (names_kernels_below n m ≡ true) × IsHereAnd (w.entry k m.end) (λ v. v.value.hops ≡ m.hops))
    → AllSent (λ to what. (to < n) × IsTrueMove w k what) (flat_map (arrival_packets k) ms)
arrivals-true w k n ms is =
    packets-each (λ m. (names_kernels_below n m ≡ true) × IsHereAnd (w.entry k m.end) (λ v. v.value.hops ≡ m.hops)) (λ s. (s.0 < n) × IsTrueMove w k s.1) (arrival_packets k)
    (λ m told. arrival-each (λ s. (s.0 < n) × IsTrueMove w k s.1) k m
    (λ alive. (ltb-true m.hint.0 n (and_parts _ _ told.0).0, (refl, subst (λ z. IsHereAnd (w.entry k z) (λ v. v.value.hops ≡ m.hops)) (sym (opposite-twice m.end)) told.1)))) ms
    (each-there (λ m. (names_kernels_below n m ≡ true) × IsHereAnd (w.entry k m.end) (λ v. v.value.hops ≡ m.hops)) ms is)
