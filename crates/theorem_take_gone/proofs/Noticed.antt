-- What NOTICE makes of the entries of an end e and of the ends xs that its waiting message encloses, which p owns then, and of these ends
-- in the service. q is any end, x is what was kept of it, or what the service said of it, and y or z what is afterwards.
use Rattle.std.proofs.Common.{◌≡◌, ◌⊎◌, inl, inr, ℕ, Bool, true, false, nat_lt, ◌&&◌, if◌then◌else◌, List, Some, refl, sym, ap, subst, ◌∙◌, ◌^◌, true≢false, lt-ltb, pow_pos}
use Rattle.std.proofs.lemmas.Bool.{and_parts}
use Rattle.std.specs.List.{list_any}
use Rattle.charlotte_packets.specs.Packets.{names_kernels_below}
use Rattle.charlotte_calls.specs.declared.names.EndId.{EndId}
use Rattle.charlotte_calls.specs.declared.names.Pid.{Pid}
use Rattle.charlotte_packets.specs.declared.picture.MovingPicture.{MovingPicture}
use Rattle.end_table.specs.Place.{end_eq}
use Rattle.end_table.specs.Table.{IsHereAnd, IsIdle}
use Rattle.end_table.specs.declared.entry.Entry.{Entry}
use Rattle.end_table.specs.declared.entry.Entry.TheVariants as entry
use Rattle.end_table.specs.declared.entry.HereView.{HereView}
use Rattle.end_table.specs.declared.entry.Holder.TheVariants as holder
use Rattle.end_table.specs.declared.entry.Inward.{Inward as KernelInward}
use Rattle.end_table.specs.declared.entry.Inward.TheVariants as kernel_inward
use Rattle.end_table.specs.declared.entry.Outward.{Outward as KernelOutward}
use Rattle.end_table.specs.declared.entry.Outward.TheVariants as kernel_outward
use Rattle.kernel_effects.specs.Actions.{noticed_view}
use Rattle.kernel_step.specs.Actions.{noticed_inward as kernel_noticed_inward, noticed_outward as kernel_noticed_outward}
use Rattle.kernel_step.specs.Rows.{is_here}
use Rattle.service_lawful.specs.Consistent.{is_open}
use Rattle.service_step.specs.Ends.{is_idle, is_living, is_made, is_posted, is_taken, matched_message, noticed_end, noticed_outward}
use Rattle.service_step.specs.declared.state.End.{End}
use Rattle.service_step.specs.declared.state.Message.{Message}
use Rattle.service_step.specs.declared.state.Outward.{Outward}
use Rattle.service_step.specs.declared.state.Outward.TheVariants as outward
use Rattle.service_step.specs.declared.state.Place.{Place}
use Rattle.service_step.specs.declared.state.Place.TheVariants as place
use Rattle.theorem_meaning.proofs.Plain.{view-same}
use Rattle.theorem_meaning.specs.Fields.{IsAskedAs, value_of}
use Rattle.theorem_meaning.specs.Invariant.{NamesBelow}
use Rattle.theorem_meaning.specs.StandsFor.{IsWaitingWith}
use Rattle.theorem_take_answer.proofs.Alike.{some-same}

-- an entry stays, and is here only of another end; or it is that of an end that was enclosed, which p owns now; or that of e
pub data IsNoticedEntry (e : EndId) (p : Pid) (xs : List EndId) (q : EndId) (x y : Entry) : Type 0 where
  EntryKept : y ≡ x → ((v : HereView) → x ≡ entry.Here v → (end_eq e q ≡ false) × (list_any (end_eq q) xs ≡ false)) → IsNoticedEntry e p xs q x y
  EntryFreed : (v : HereView) → end_eq e q ≡ false → list_any (end_eq q) xs ≡ true → IsIdle v → x ≡ entry.Here v → y ≡ entry.Here (record v { holder = holder.Owner p }) → IsNoticedEntry e p xs q x y
  EntryNoticed : (v : HereView) → end_eq e q ≡ true → x ≡ entry.Here v → y ≡ entry.Here (noticed_view v) → IsNoticedEntry e p xs q x y

-- so of what the service says of an end
pub data IsNoticedEnd (e : EndId) (p : Pid) (xs : List EndId) (q : EndId) (x z : End) : Type 0 where
  EndKept : end_eq e q ≡ false → list_any (end_eq q) xs ≡ false → z ≡ x → IsNoticedEnd e p xs q x z
  EndFreed : (n : ℕ) → end_eq e q ≡ false → list_any (end_eq q) xs ≡ true → x.place ≡ place.InMessage e n → is_idle x ≡ true → z ≡ record x { place = place.Owned p } → IsNoticedEnd e p xs q x z
  EndNoticed : end_eq e q ≡ true → is_living x.place ≡ true → z ≡ noticed_end x → IsNoticedEnd e p xs q x z

-- ---- views

-- the view of another end stays, but for the holder of one that is idle; that of e is noticed
pub data IsNoticedView (e : EndId) (q : EndId) (v u : HereView) : Type 0 where
  Other : end_eq e q ≡ false → u ≡ record v { holder = u.holder } → (u.holder ≡ v.holder) ⊎ IsIdle v → IsNoticedView e q v u
  Own : end_eq e q ≡ true → u ≡ noticed_view v → IsNoticedView e q v u

-- a value is the same but for what NOTICE makes of it
abbrev pub IsLess : MovingPicture → MovingPicture → Type 0
IsLess m l = l ≡ record m { want = l.want; dead = l.dead; trail = l.trail }

not-asked : (i : KernelInward) (n : ℕ) → IsAskedAs n (kernel_noticed_inward i) → ⊥
not-asked kernel_inward.Idle n asked = asked
not-asked (kernel_inward.Posted w) n asked = asked
not-asked (kernel_inward.Withdrawing w) n asked = asked
not-asked kernel_inward.Unreported n asked = asked

not-waiting : (o : KernelOutward) (n : ℕ) → IsWaitingWith n (kernel_noticed_outward o) → ⊥
not-waiting kernel_outward.Idle n waits = waits
not-waiting (kernel_outward.Waiting m bytes xs) n waits = waits
not-waiting (kernel_outward.Matched m) n waits = waits
not-waiting kernel_outward.Unreported n waits = waits

module _ {e q : EndId} {v u : HereView} (is : IsNoticedView e q v u) where
  pub view-less : IsLess v.value u.value
  view-less = by is
    where
      by : IsNoticedView e q v u → IsLess v.value u.value
      by (Other apart same held) = ap (λ (z : HereView). z.value) same ∙ subst (λ m. v.value ≡ record v.value { want = m.want; dead = m.dead; trail = m.trail }) (sym (ap (λ (z : HereView). z.value) same)) refl
      by (Own same noticed) = subst (λ (z : HereView). IsLess v.value z.value) (sym noticed) refl

  -- where a receive is started, it was so, and the end is another
  pub view-asked : (n : ℕ) → IsAskedAs n u.inward → (end_eq e q ≡ false) × IsAskedAs n v.inward
  view-asked n asked = by is
    where
      by : IsNoticedView e q v u → (end_eq e q ≡ false) × IsAskedAs n v.inward
      by (Other apart same held) = (apart, subst (IsAskedAs n) (ap (λ (z : HereView). z.inward) same) asked)
      by (Own same noticed) = absurd (not-asked v.inward n (subst (IsAskedAs n) (ap (λ (z : HereView). z.inward) noticed) asked))

  -- and so where a send waits
  pub view-waiting : (n : ℕ) → IsWaitingWith n u.outward → (end_eq e q ≡ false) × IsWaitingWith n v.outward
  view-waiting n waits = by is
    where
      by : IsNoticedView e q v u → (end_eq e q ≡ false) × IsWaitingWith n v.outward
      by (Other apart same held) = (apart, subst (IsWaitingWith n) (ap (λ (z : HereView). z.outward) same) waits)
      by (Own same noticed) = absurd (not-waiting v.outward n (subst (IsWaitingWith n) (ap (λ (z : HereView). z.outward) noticed) waits))

  pub view-own : end_eq e q ≡ true → u ≡ noticed_view v
  view-own own = by is
    where
      by : IsNoticedView e q v u → u ≡ noticed_view v
      by (Other apart same held) = absurd (true≢false (sym own ∙ apart))
      by (Own same noticed) = noticed

  module _ (apart : end_eq e q ≡ false) where
    pub view-like : u ≡ record v { holder = u.holder }
    view-like = by is
      where
        by : IsNoticedView e q v u → u ≡ record v { holder = u.holder }
        by (Other far same held) = same
        by (Own own noticed) = absurd (true≢false (sym own ∙ apart))

    pub view-held : (u.holder ≡ v.holder) ⊎ IsIdle v
    view-held = by is
      where
        by : IsNoticedView e q v u → (u.holder ≡ v.holder) ⊎ IsIdle v
        by (Other far same held) = held
        by (Own own noticed) = absurd (true≢false (sym own ∙ apart))

    pub view-value : u.value ≡ v.value
    view-value = ap (λ (z : HereView). z.value) view-like

    pub view-inward : u.inward ≡ v.inward
    view-inward = ap (λ (z : HereView). z.inward) view-like

    pub view-outward : u.outward ≡ v.outward
    view-outward = ap (λ (z : HereView). z.outward) view-like

-- ---- entries

kept-view : {e q : EndId} (v : HereView) → end_eq e q ≡ false → IsNoticedView e q v v
kept-view v apart = Other apart refl (inl refl)

module _ {e : EndId} {p : Pid} {xs : List EndId} {q : EndId} {x y : Entry} (is : IsNoticedEntry e p xs q x y) where
  -- the view that it was
  pub entry-seen : (u : HereView) → y ≡ entry.Here u → (v : HereView) × (x ≡ entry.Here v) × IsNoticedView e q v u
  entry-seen u at = by is
    where
      by : IsNoticedEntry e p xs q x y → (v : HereView) × (x ≡ entry.Here v) × IsNoticedView e q v u
      by (EntryKept same others) = let was : x ≡ entry.Here u = sym same ∙ at in (u, was, kept-view u (others u was).0)
      by (EntryFreed v apart among idle was now) = let view : record v { holder = holder.Owner p } ≡ u = view-same _ u (sym now ∙ at) in (v, was, subst (IsNoticedView e q v) view (Other apart refl (inr idle)))
      by (EntryNoticed v own was now) = let view : noticed_view v ≡ u = view-same _ u (sym now ∙ at) in (v, was, subst (IsNoticedView e q v) view (Own own refl))

  -- what is true of the view
  pub entry-still : (P Q : HereView → Type 0) → ((v u : HereView) → IsNoticedView e q v u → P v → Q u) → IsHereAnd x P → IsHereAnd y Q
  entry-still P Q gives has = by is
    where
      stays : (z : Entry) → x ≡ z → ((v : HereView) → z ≡ entry.Here v → end_eq e q ≡ false) → IsHereAnd z P → IsHereAnd z Q
      stays (entry.Here v) at apart has = gives v v (kept-view v (apart v refl)) has
      stays _ at apart has = absurd has

      by : IsNoticedEntry e p xs q x y → IsHereAnd y Q
      by (EntryKept same others) = subst (λ z. IsHereAnd z Q) (sym same) (stays x refl (λ v at. (others v at).0) has)
      by (EntryFreed v apart among idle was now) = subst (λ z. IsHereAnd z Q) (sym now) (gives v (record v { holder = holder.Owner p }) (Other apart refl (inr idle)) (subst (λ z. IsHereAnd z P) was has))
      by (EntryNoticed v own was now) = subst (λ z. IsHereAnd z Q) (sym now) (gives v (noticed_view v) (Own own refl) (subst (λ z. IsHereAnd z P) was has))

  pub entry-was : (P Q : HereView → Type 0) → ((v u : HereView) → IsNoticedView e q v u → Q u → P v) → IsHereAnd y Q → IsHereAnd x P
  entry-was P Q gives has = by y refl has
    where
      by : (z : Entry) → y ≡ z → IsHereAnd z Q → IsHereAnd x P
      by (entry.Here u) at has = let v = entry-seen u at in subst (λ z. IsHereAnd z P) (sym v.1) (gives v.0 u v.2 has)
      by _ at has = absurd has

  -- an end that is not among those enclosed has the holder that it had
  pub entry-held : list_any (end_eq q) xs ≡ false → (P : HereView → Type 0) → ((v u : HereView) → u.holder ≡ v.holder → P v → P u) → (IsHereAnd x P → IsHereAnd y P) × (IsHereAnd y P → IsHereAnd x P)
  entry-held none P gives = by is
    where
      by : IsNoticedEntry e p xs q x y → (IsHereAnd x P → IsHereAnd y P) × (IsHereAnd y P → IsHereAnd x P)
      by (EntryKept same others) = (subst (λ z. IsHereAnd z P) (sym same), subst (λ z. IsHereAnd z P) same)
      by (EntryFreed v apart among idle was now) = absurd (true≢false (sym among ∙ none))
      by (EntryNoticed v own was now) = (
        λ has. subst (λ z. IsHereAnd z P) (sym now) (gives v (noticed_view v) refl (subst (λ z. IsHereAnd z P) was has)),
        λ has. subst (λ z. IsHereAnd z P) (sym was) (gives (noticed_view v) v refl (subst (λ z. IsHereAnd z P) now has)),
      )

  -- the fields that it had
  pub entry-value : (l : MovingPicture) → value_of y ≡ Some l → (m : MovingPicture) × (value_of x ≡ Some m) × IsLess m l × (end_eq e q ≡ false → l ≡ m)
  entry-value l at = by is
    where
      by : IsNoticedEntry e p xs q x y → (m : MovingPicture) × (value_of x ≡ Some m) × IsLess m l × (end_eq e q ≡ false → l ≡ m)
      by (EntryKept same others) = (l, sym (ap value_of same) ∙ at, refl, λ apart. refl)
      by (EntryFreed v apart among idle was now) =
          let value : v.value ≡ l = some-same v.value l (sym (ap value_of now) ∙ at) in
          (l, ap value_of was ∙ ap (λ (m : MovingPicture). Some m) value, refl, λ apart. refl)
      by (EntryNoticed v own was now) = (
        v.value,
        ap value_of was,
        subst (IsLess v.value) (some-same (noticed_view v).value l (sym (ap value_of now) ∙ at)) refl,
        λ apart. absurd (true≢false (sym own ∙ apart)),
      )

  pub entry-is_here : is_here y ≡ is_here x
  entry-is_here = by is
    where
      by : IsNoticedEntry e p xs q x y → is_here y ≡ is_here x
      by (EntryKept same others) = ap is_here same
      by (EntryFreed v apart among idle was now) = ap is_here now ∙ sym (ap is_here was)
      by (EntryNoticed v own was now) = ap is_here now ∙ sym (ap is_here was)

  pub entry-nothing : x ≡ entry.Nothing → y ≡ entry.Nothing
  entry-nothing none = by is
    where
      by : IsNoticedEntry e p xs q x y → y ≡ entry.Nothing
      by (EntryKept same others) = same ∙ none
      by (EntryFreed v apart among idle was now) = absurd (let both : entry.Nothing ≡ entry.Here v = sym none ∙ was in cc)
      by (EntryNoticed v own was now) = absurd (let both : entry.Nothing ≡ entry.Here v = sym none ∙ was in cc)

  pub entry-mark : (m : MovingPicture) → y ≡ entry.Destroyed m → x ≡ entry.Destroyed m
  entry-mark m at = by is
    where
      by : IsNoticedEntry e p xs q x y → x ≡ entry.Destroyed m
      by (EntryKept same others) = sym same ∙ at
      by (EntryFreed v apart among idle was now) = absurd (let both : entry.Here (record v { holder = holder.Owner p }) ≡ entry.Destroyed m = sym now ∙ at in cc)
      by (EntryNoticed v own was now) = absurd (let both : entry.Here (noticed_view v) ≡ entry.Destroyed m = sym now ∙ at in cc)

  pub entry-names : (n : ℕ) → NamesBelow n x → NamesBelow n y
  entry-names n names = by is
    where
      by : IsNoticedEntry e p xs q x y → NamesBelow n y
      by (EntryKept same others) = subst (NamesBelow n) (sym same) names
      by (EntryFreed v apart among idle was now) = subst (NamesBelow n) (sym now) (subst (NamesBelow n) was names)
      by (EntryNoticed v own was now) =
          let old : names_kernels_below n v.value ≡ true = subst (NamesBelow n) was names in
          subst (NamesBelow n) (sym now) (ap (λ z. z && nat_lt 0 (2 ^ n)) (and_parts _ _ old).0 ∙ lt-ltb 0 (2 ^ n) (pow_pos n))

-- ---- ends of the service

noticed-message : (o : Outward) → matched_message (noticed_outward o) ≡ matched_message o
noticed-message outward.Idle = refl
noticed-message (outward.Waiting m) = refl
noticed-message (outward.Matched m) = refl
noticed-message outward.Taken = refl
noticed-message outward.Unreported = refl

noticed-taken : (o : Outward) → is_taken (noticed_outward o) ≡ is_taken o
noticed-taken outward.Idle = refl
noticed-taken (outward.Waiting m) = refl
noticed-taken (outward.Matched m) = refl
noticed-taken outward.Taken = refl
noticed-taken outward.Unreported = refl

closed : (b : Bool) → b && false ≡ false
closed true = refl
closed false = refl

module _ {e : EndId} {p : Pid} {xs : List EndId} {q : EndId} {x z : End} (is : IsNoticedEnd e p xs q x z) where
  pub end-living : is_living z.place ≡ is_living x.place
  end-living = by is
    where
      by : IsNoticedEnd e p xs q x z → is_living z.place ≡ is_living x.place
      by (EndKept apart none same) = ap (λ (o : End). is_living o.place) same
      by (EndFreed n apart among inside idle same) = ap (λ (o : End). is_living o.place) same ∙ sym (ap (λ (o : Place). is_living o) inside)
      by (EndNoticed own lives same) = ap (λ (o : End). is_living o.place) same

  pub end-made : is_made z.place ≡ is_made x.place
  end-made = by is
    where
      by : IsNoticedEnd e p xs q x z → is_made z.place ≡ is_made x.place
      by (EndKept apart none same) = ap (λ (o : End). is_made o.place) same
      by (EndFreed n apart among inside idle same) = ap (λ (o : End). is_made o.place) same ∙ sym (ap (λ (o : Place). is_made o) inside)
      by (EndNoticed own lives same) = ap (λ (o : End). is_made o.place) same

  pub end-destroyed : x.place ≡ place.Destroyed → z.place ≡ place.Destroyed
  end-destroyed gone = by is
    where
      by : IsNoticedEnd e p xs q x z → z.place ≡ place.Destroyed
      by (EndKept apart none same) = ap (λ (o : End). o.place) same ∙ gone
      by (EndFreed n apart among inside idle same) = absurd (let both : place.Destroyed ≡ place.InMessage e n = sym gone ∙ inside in cc)
      by (EndNoticed own lives same) = ap (λ (o : End). o.place) same ∙ gone

  pub end-sent : z.sent ≡ x.sent
  end-sent = by is
    where
      by : IsNoticedEnd e p xs q x z → z.sent ≡ x.sent
      by (EndKept apart none same) = ap (λ (o : End). o.sent) same
      by (EndFreed n apart among inside idle same) = ap (λ (o : End). o.sent) same
      by (EndNoticed own lives same) = ap (λ (o : End). o.sent) same

  pub end-message : matched_message z.outward ≡ matched_message x.outward
  end-message = by is
    where
      by : IsNoticedEnd e p xs q x z → matched_message z.outward ≡ matched_message x.outward
      by (EndKept apart none same) = ap (λ (o : End). matched_message o.outward) same
      by (EndFreed n apart among inside idle same) = ap (λ (o : End). matched_message o.outward) same
      by (EndNoticed own lives same) = ap (λ (o : End). matched_message o.outward) same ∙ noticed-message x.outward

  pub end-is_taken : is_taken z.outward ≡ is_taken x.outward
  end-is_taken = by is
    where
      by : IsNoticedEnd e p xs q x z → is_taken z.outward ≡ is_taken x.outward
      by (EndKept apart none same) = ap (λ (o : End). is_taken o.outward) same
      by (EndFreed n apart among inside idle same) = ap (λ (o : End). is_taken o.outward) same
      by (EndNoticed own lives same) = ap (λ (o : End). is_taken o.outward) same ∙ noticed-taken x.outward

  pub end-matched : (m : Message) → x.outward ≡ outward.Matched m → z.outward ≡ outward.Matched m
  end-matched m at = by is
    where
      by : IsNoticedEnd e p xs q x z → z.outward ≡ outward.Matched m
      by (EndKept apart none same) = ap (λ (o : End). o.outward) same ∙ at
      by (EndFreed n apart among inside idle same) = ap (λ (o : End). o.outward) same ∙ at
      by (EndNoticed own lives same) = ap (λ (o : End). o.outward) same ∙ ap (λ o. noticed_outward o) at

  pub end-taken : x.outward ≡ outward.Taken → z.outward ≡ outward.Taken
  end-taken at = by is
    where
      by : IsNoticedEnd e p xs q x z → z.outward ≡ outward.Taken
      by (EndKept apart none same) = ap (λ (o : End). o.outward) same ∙ at
      by (EndFreed n apart among inside idle same) = ap (λ (o : End). o.outward) same ∙ at
      by (EndNoticed own lives same) = ap (λ (o : End). o.outward) same ∙ ap (λ o. noticed_outward o) at

  -- an end that is open afterwards is another, and was open
  pub end-open : is_open z ≡ true → (end_eq e q ≡ false) × (is_open x ≡ true)
  end-open opens = by is
    where
      by : IsNoticedEnd e p xs q x z → (end_eq e q ≡ false) × (is_open x ≡ true)
      by (EndKept apart none same) = (apart, sym (ap (λ (o : End). is_open o) same) ∙ opens)
      by (EndFreed n apart among inside idle same) =
          (apart, ap (λ (o : Place). is_living o && (if x.noticed then false else true)) inside ∙ sym (ap (λ (o : End). is_open o) same) ∙ opens)
      by (EndNoticed own lives same) = absurd (true≢false (sym opens ∙ ap (λ (o : End). is_open o) same ∙ closed (is_living x.place)))

  pub end-closed : is_open x ≡ false → is_open z ≡ false
  end-closed shut = by (is_open z) refl
    where
      by : (b : Bool) → is_open z ≡ b → b ≡ false
      by true opens = absurd (true≢false (sym (end-open opens).1 ∙ shut))
      by false same = refl

  module _ (apart : end_eq e q ≡ false) where
    pub end-noticed : z.noticed ≡ x.noticed
    end-noticed = by is
      where
        by : IsNoticedEnd e p xs q x z → z.noticed ≡ x.noticed
        by (EndKept far none same) = ap (λ (o : End). o.noticed) same
        by (EndFreed n far among inside idle same) = ap (λ (o : End). o.noticed) same
        by (EndNoticed own lives same) = absurd (true≢false (sym own ∙ apart))

    pub end-posted : is_posted z.inward ≡ is_posted x.inward
    end-posted = by is
      where
        by : IsNoticedEnd e p xs q x z → is_posted z.inward ≡ is_posted x.inward
        by (EndKept far none same) = ap (λ (o : End). is_posted o.inward) same
        by (EndFreed n far among inside idle same) = ap (λ (o : End). is_posted o.inward) same
        by (EndNoticed own lives same) = absurd (true≢false (sym own ∙ apart))
