-- A packet with ends is taken at an end that is here: the ends that it carries are here then, and the end hears at most where its opposite is.
use Rattle.std.proofs.Common.{◌≡◌, ◌⊎◌, inl, inr, ℕ, ◌≤◌, Bool, true, false, true≢false, if◌then◌else◌, List, ◌∷◌, length, Contains, refl, sym, ap, subst, ◌∙◌}
use Rattle.std.specs.List.{list_any}
use Rattle.charlotte_calls.specs.Names.{opposite}
use Rattle.charlotte_calls.specs.declared.calls.Answer.{Answer}
use Rattle.charlotte_calls.specs.declared.calls.Report.{Report}
use Rattle.charlotte_calls.specs.declared.names.EndId.{EndId}
use Rattle.charlotte_calls.specs.declared.names.Pid.{Pid}
use Rattle.charlotte_packets.specs.declared.picture.MovingPicture.{MovingPicture}
use Rattle.charlotte_packets.specs.declared.picture.Picture.{Picture}
use Rattle.charlotte_packets.specs.declared.picture.PictureWhat.TheVariants as packet
use Rattle.end_table.proofs.EndEq.{end_eq-refl, end_eq-same}
use Rattle.end_table.specs.Entries.{settled}
use Rattle.end_table.specs.Place.{end_eq}
use Rattle.end_table.specs.Table.{IsHereAnd}
use Rattle.end_table.specs.declared.entry.Entry.{Entry}
use Rattle.end_table.specs.declared.entry.Entry.TheVariants as entry
use Rattle.end_table.specs.declared.entry.HereView.{HereView}
use Rattle.end_table.specs.declared.entry.Holder.{Holder}
use Rattle.kernel_effects.specs.Effect.{Effect, brings, puts, stays}
use Rattle.kernel_outcomes.specs.Closing.{told, told_entry}
use Rattle.kernel_step.proofs.Folds.{AreDifferent}
use Rattle.kernel_step.specs.Kernel.{process_of}
use Rattle.kernel_step.specs.Rows.{ends_in}
use Rattle.kernel_world.specs.World.{Takes, World, happens}
use Rattle.service_step.specs.Ends.{is_living}
use Rattle.service_step.specs.State.{State}
use Rattle.service_step.specs.declared.state.End.{End}
use Rattle.theorem_effects.specs.Change.{Change, Changes, Happens}
use Rattle.theorem_effects.specs.Events.{taking}
use Rattle.theorem_effects.specs.Sums.{AllSent}
use Rattle.theorem_ends_arrived.proofs.Among.{among-told, brings-case}
use Rattle.theorem_ends_arrived.proofs.Comes.{values-differ}
use Rattle.theorem_ends_arrived.proofs.Coming.{not-here}
use Rattle.theorem_ends_arrived.proofs.Values.{same-value}
use Rattle.theorem_ends_arrived.specs.Arrived.{IsAmong, IsLaden}
use Rattle.theorem_meaning.specs.Invariant.{Invariant, is_message_of}
use Rattle.theorem_meaning.specs.Packets.{Links, links_of, values_of}
use Rattle.theorem_meaning.specs.StandsFor.{entry_at}
use Rattle.theorem_take_want.proofs.Places.{here-living}
use Rattle.trace_link.specs.Calm.{AreAsOpen}
use Rattle.trace_landing.proofs.Carried.{are-carried}
use Rattle.trace_landing.proofs.Landing.{landing-moving}
use Rattle.trace_landing.proofs.Told.{told-here, told-still}
use Rattle.trace_landing.specs.Landing.{IsLanding, IsMessage, IsSaid}
use Rattle.trace_meaning.specs.Traces.{AreTraced}
use Rattle.trace_moving.proofs.Moving.{moving-traced}
use Rattle.trace_moving.proofs.Still.{still-same}
use Rattle.trace_moving.specs.Moving.{IsStaying, IsStill}

module _ (i : ℕ) (w : World) (s : State) (is : Invariant i w s) (k from : ℕ) (q : Picture) (others : List Picture) (there : w.packets from k ≡ q ∷ others) (f : EndId) (carries : is_message_of f q.what ≡ true) (message : IsMessage q.what) (v x : HereView)
    (stood : (w.kernel k).table v.value.end ≡ entry.Here v) (h : Holder) (base : Effect) where
  abbrev l : Links
  l = links_of w

  abbrev ms : List MovingPicture
  ms = values_of q.what

  -- the end has view x then, and this holder those that came
  abbrev pub landing : Effect
  landing = record base { entry = puts v.value.end (entry.Here x) (brings (values_of q.what) (λ m. entry.Here (settled h m)) stays) }

  module _ (p : Pid) (given : List Answer) (rs : List Report) (happened : Happens w (Takes k from) (taking w k from q landing p given rs)) where
    abbrev c : Change
    c = taking w k from q landing p given rs

    abbrev pub after : Links
    after = links_of (happens w (Takes k from))

    abbrev b : Changes l c after
    b = happened.becomes.links

    abbrev reports : List Report
    reports = told (process_of p (w.kernel k)).phase given rs

    ready : IsLaden i b from q s f
    ready = record { taken = refl; right = is.links; links = is.stands.links; kept = is.service; few = is.setting.few; carries = carries }

    different : AreDifferent (ends_in ms)
    different = values-differ is k from q others there f carries p

    lives : is_living (s.ends v.value.end).place ≡ true
    lives = here-living (length s.made) l s.ends is.setting.few is.links.named is.links.marked is.stands.links.once v.value.end k v stood

    -- ---- entries

    now-own : entry_at after k v.value.end ≡ told_entry reports v.value.end (entry.Here x)
    now-own = b.entry v.value.end ∙ ap (λ a. told_entry reports v.value.end (if a then entry.Here x else brings ms (λ m. entry.Here (settled h m)) stays v.value.end ((w.kernel k).table v.value.end))) (end_eq-refl v.value.end)

    pub own-here : IsHereAnd (entry_at after k v.value.end) (λ o. o.value ≡ x.value)
    own-here = let o = told-here reports v.value.end x in subst (λ y. IsHereAnd y (λ o. o.value ≡ x.value)) (sym (now-own ∙ o.1)) o.2

    now-other : (e : EndId) → end_eq v.value.end e ≡ false → entry_at after k e ≡ told_entry reports e (brings ms (λ m. entry.Here (settled h m)) stays e ((w.kernel k).table e))
    now-other e apart = b.entry e ∙ ap (λ a. told_entry reports e (if a then entry.Here x else brings ms (λ m. entry.Here (settled h m)) stays e ((w.kernel k).table e))) apart

    came : (e : EndId) → IsAmong ms e → (o : HereView) × (a : IsAmong ms e) × (entry_at after k e ≡ entry.Here o) × (o.value ≡ a.value)
    came e a0 = by (brings-case ms (λ m. entry.Here (settled h m)) e ((w.kernel k).table e))
      where
        apart : end_eq v.value.end e ≡ false
        apart = other (end_eq v.value.end e) refl
          where
            other : (d : Bool) → end_eq v.value.end e ≡ d → d ≡ false
            other false is_so = refl
            other true same = absurd (not-here ready p e a0 k v (ap (w.kernel k).table (sym (end_eq-same v.value.end e same)) ∙ stood))

        by : ((list_any (end_eq e) (ends_in ms) ≡ false) × (brings ms (λ m. entry.Here (settled h m)) stays e ((w.kernel k).table e) ≡ (w.kernel k).table e)) ⊎ ((a : IsAmong ms e) × (brings ms (λ m. entry.Here (settled h m)) stays e ((w.kernel k).table e) ≡ entry.Here (settled h a.value)))
            → (o : HereView) × (a : IsAmong ms e) × (entry_at after k e ≡ entry.Here o) × (o.value ≡ a.value)
        by (inl none) = absurd (true≢false (sym (among-told ms e a0) ∙ none.0))
        by (inr here) =
            let o = told-here reports e (settled h here.0.value) in
            (o.0, here.0, now-other e apart ∙ ap (told_entry reports e) here.1 ∙ o.1, o.2)

    pub came-here : (m : MovingPicture) → Contains ms m → IsHereAnd (entry_at after k m.end) (λ o. o.value.hops ≡ m.hops) × (is_living (s.ends m.end).place ≡ true)
    came-here m has =
        let z = came m.end (record { value = m; there = has; of = refl }) in
        let same : z.1.value ≡ m = same-value ms z.1.value m different z.1.there has z.1.of in (
          subst (λ y. IsHereAnd y (λ o. o.value.hops ≡ m.hops)) (sym z.2) (ap (λ (y : MovingPicture). y.hops) (z.3 ∙ same)),
          (are-carried ready different).lives m.end z.1,
        )

    module _ (staying : IsStaying c k v.value.end v.value x.value) where
      stays-own : IsStill c k v.value.end (entry_at l k v.value.end) (entry_at after k v.value.end)
      stays-own =
          subst (IsStill c k v.value.end (entry_at l k v.value.end)) (sym now-own)
          (told-still c k reports v.value.end (entry_at l k v.value.end) (entry.Here x) (subst (λ y. IsStill c k v.value.end y (entry.Here x)) (sym stood) staying))

      stays-other : (e : EndId) → (IsAmong ms e → ⊥) → IsStill c k e (entry_at l k e) (entry_at after k e)
      stays-other e none = by (end_eq v.value.end e) refl
        where
          quiet : end_eq v.value.end e ≡ false → ((list_any (end_eq e) (ends_in ms) ≡ false) × (brings ms (λ m. entry.Here (settled h m)) stays e ((w.kernel k).table e) ≡ (w.kernel k).table e)) ⊎ ((a : IsAmong ms e) × (brings ms (λ m. entry.Here (settled h m)) stays e ((w.kernel k).table e) ≡ entry.Here (settled h a.value)))
              → IsStill c k e (entry_at l k e) (entry_at after k e)
          quiet apart (inl same) =
              subst (IsStill c k e (entry_at l k e)) (sym (now-other e apart ∙ ap (told_entry reports e) same.1)) (told-still c k reports e (entry_at l k e) (entry_at l k e) (still-same c k e (entry_at l k e)))
          quiet apart (inr here) = absurd (none here.0)

          by : (d : Bool) → end_eq v.value.end e ≡ d → IsStill c k e (entry_at l k e) (entry_at after k e)
          by true same = subst (λ z. IsStill c k z (entry_at l k z) (entry_at after k z)) (end_eq-same v.value.end e same) stays-own
          by false apart = quiet apart (brings-case ms (λ m. entry.Here (settled h m)) e ((w.kernel k).table e))

      module _ (tells : (m : MovingPicture) → Contains ms m → m.dead ≡ false → Contains base.packets (m.hint.0, packet.Moved (opposite m.end) k m.hops)) (said : AllSent (λ n what. IsSaid after s.ends k what) base.packets) where
        lands : IsLanding l after c s.ends from q
        lands = record { taken = refl; message = message; came = came; tells = tells; others = stays-other; said = said }

        pub landed-traced : (now : EndId → End) → AreAsOpen s.ends now → AreTraced l s.ends → AreTraced after now
        landed-traced now as_open traced =
            moving-traced b s.ends now (landing-moving b s.ends from q (are-carried ready different) lands) as_open (λ e j m mark. (is.links.marked e).destroyed j m mark)
            (λ j e o here. here-living (length s.made) l s.ends is.setting.few is.links.named is.links.marked is.stands.links.once e j o here) is.service.noticed.opposite is.links.honest traced
