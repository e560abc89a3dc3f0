-- Where an answer is replaced by its news, and what it is about is over, all clauses on links are true.
use Rattle.std.proofs.Common.{◌≡◌, ◌⊎◌, ◌↔◌, inl, inr, ℕ, ◌+◌, ◌<◌, ◌≤◌, true, false, nat_lt, ◌&&◌, if◌then◌else◌, [], ◌∷◌, length, Contains, is_some, Some, refl, sym, ap, subst, ◌∙◌, arith}
use Rattle.std.proofs.lemmas.List.Elements.{All-contains, Contains-append_cases, Contains-append_right}
use Rattle.charlotte_calls.specs.Names.{opposite}
use Rattle.charlotte_packets.specs.Packets.{is_addressed, names_kernels_below}
use Rattle.charlotte_calls.specs.declared.names.EndId.{EndId}
use Rattle.charlotte_packets.specs.declared.picture.MovingPicture.{MovingPicture}
use Rattle.charlotte_packets.specs.declared.picture.Picture.{Picture}
use Rattle.charlotte_packets.specs.declared.picture.PictureWhat.{PictureWhat}
use Rattle.charlotte_packets.specs.declared.picture.PictureWhat.TheVariants as packet
use Rattle.end_table.specs.Table.{IsHereAnd}
use Rattle.end_table.specs.declared.entry.Entry.{Entry}
use Rattle.end_table.specs.declared.entry.Entry.TheVariants as entry
use Rattle.end_table.specs.declared.entry.HereView.{HereView}
use Rattle.end_table.specs.declared.entry.Holder.{Holder}
use Rattle.end_table.specs.declared.entry.Holder.TheVariants as holder
use Rattle.end_table.specs.declared.entry.Inward.TheVariants as kernel_inward
use Rattle.kernel_sound.specs.Sound.{addressee}
use Rattle.kernel_step.specs.Actions.{here}
use Rattle.kernel_step.specs.Rows.{ends_in, is_here}
use Rattle.service_lawful.specs.Consistent.{is_open}
use Rattle.service_step.specs.Ends.{is_living, is_made}
use Rattle.service_step.specs.State.{State, Process}
use Rattle.service_step.specs.declared.state.End.{End}
use Rattle.theorem_take_silent.proofs.Lists.{none-there}
use Rattle.theorem_take_silent.proofs.Packets.{left-before, left-was, taken-before, taken-there}
use Rattle.theorem_take_silent.specs.Change.{Change, Changes, taken_at}
use Rattle.theorem_take_silent.specs.Under.{IsLeft}
use Rattle.theorem_meaning.proofs.Sums.{over-same}
use Rattle.theorem_meaning.specs.Fields.{Stand, At, Flying, HasFields, IsAskedAs, IsAsking, IsHeard, IsNews, IsUnserved, IsUnwantOf, value_of}
use Rattle.theorem_meaning.specs.Invariant.{AreAsked, AreCounted, AreMarked, AreNamed, AreRight, AreSentOnce, AreWanted, IsPacketRight, IsServed, IsUnwantedOnce, NamesBelow, is_message_of, is_unwanted_to}
use Rattle.theorem_meaning.specs.Packets.{Each, IsBackOf, IsParcelFor, IsParcelOf, IsTakenOf, IsUnderWay, IsUnwantedOf, Links, how_many, one_if, over_kernels, sum_over, values_for, values_of}
use Rattle.theorem_meaning.specs.StandsFor.{AreLinksOf, IsInMessage, IsWaitingWith, home_of, standing}
use Rattle.theorem_take_silent.proofs.Alike.{some-same}
use Rattle.theorem_meaning.proofs.Plain.{none-in, unwant-asks, view-same}
use Rattle.theorem_take_answer.specs.Swapped.{IsAnswer, IsAnswered, IsSettled, IsViewSettled, Same, Turned, instead, news, swapped}
use Rattle.theorem_take_answer.proofs.Swap.{swapped-after, swapped-each, swapped-still, swapped-sum, swapped-was}

-- ---- entries and views

settled-same : (v : HereView) → IsViewSettled v v
settled-same v = record { view = refl; inward = inl refl; waiting = λ n. (λ a. a, λ a. a) }

module _ (y z : Entry) (is : IsSettled y z) where
  -- the view that it was
  pub settled-was : (x : HereView) → z ≡ entry.Here x → (v : HereView) × (y ≡ entry.Here v) × IsViewSettled v x
  settled-was x at = by is
    where
      by : IsSettled y z → (v : HereView) × (y ≡ entry.Here v) × IsViewSettled v x
      by (Same same) = (x, sym same ∙ at, settled-same x)
      by (Turned v u was now settled) = (v, was, subst (IsViewSettled v) (view-same u x (sym now ∙ at)) settled)

  pub settled-value : value_of z ≡ value_of y
  settled-value = by is
    where
      by : IsSettled y z → value_of z ≡ value_of y
      by (Same same) = ap value_of same
      by (Turned v u was now settled) = ap value_of now ∙ ap (λ (o : HereView). Some o.value) settled.view ∙ sym (ap value_of was)

  pub settled-here : is_here z ≡ is_here y
  settled-here = by is
    where
      by : IsSettled y z → is_here z ≡ is_here y
      by (Same same) = ap is_here same
      by (Turned v u was now settled) = ap is_here now ∙ sym (ap is_here was)

  pub settled-mark : (m : MovingPicture) → z ≡ entry.Destroyed m → y ≡ entry.Destroyed m
  settled-mark m at = by is
    where
      by : IsSettled y z → y ≡ entry.Destroyed m
      by (Same same) = sym same ∙ at
      by (Turned v u was now settled) = absurd (let both : entry.Here u ≡ entry.Destroyed m = sym now ∙ at in cc)

  pub settled-names : (n : ℕ) → NamesBelow n y → NamesBelow n z
  settled-names n names = by is
    where
      by : IsSettled y z → NamesBelow n z
      by (Same same) = subst (NamesBelow n) (sym same) names
      by (Turned v u was now settled) =
          subst (NamesBelow n) (sym now) (subst (λ (o : HereView). names_kernels_below n o.value ≡ true) (sym settled.view) (subst (NamesBelow n) was names))

  -- what is true of the view
  pub settled-still : (P Q : HereView → Type 0) → ((v x : HereView) → IsViewSettled v x → P v → Q x) → IsHereAnd y P → IsHereAnd z Q
  settled-still P Q gives has = by is
    where
      stays : (o : Entry) → IsHereAnd o P → IsHereAnd o Q
      stays (entry.Here v) has = gives v v (settled-same v) has
      stays _ has = absurd has

      by : IsSettled y z → IsHereAnd z Q
      by (Same same) = subst (λ o. IsHereAnd o Q) (sym same) (stays y has)
      by (Turned v u was now settled) = subst (λ o. IsHereAnd o Q) (sym now) (gives v u settled (subst (λ o. IsHereAnd o P) was has))

  pub settled-before : (P Q : HereView → Type 0) → ((v x : HereView) → IsViewSettled v x → Q x → P v) → IsHereAnd z Q → IsHereAnd y P
  settled-before P Q gives has = by is
    where
      stays : (o : Entry) → IsHereAnd o Q → IsHereAnd o P
      stays (entry.Here v) has = gives v v (settled-same v) has
      stays _ has = absurd has

      by : IsSettled y z → IsHereAnd y P
      by (Same same) = stays y (subst (λ o. IsHereAnd o Q) same has)
      by (Turned v u was now settled) = subst (λ o. IsHereAnd o P) (sym was) (gives v u settled (subst (λ o. IsHereAnd o Q) now has))

-- ---- the answer and its news

answer-values : (t : EndId) (j h : ℕ) (q : PictureWhat) → IsAnswer t j h q → values_of q ≡ []
answer-values t j h (packet.Taken to n at hops) is = refl
answer-values t j h (packet.Unwanted to n at hops) is = refl
answer-values t j h _ is = absurd is

answer-message : (t : EndId) (j h : ℕ) (f : EndId) (q : PictureWhat) → IsAnswer t j h q → is_message_of f q ≡ false
answer-message t j h f (packet.Taken to n at hops) is = refl
answer-message t j h f (packet.Unwanted to n at hops) is = refl
answer-message t j h f _ is = absurd is

answer-parcel : (t : EndId) (j h : ℕ) (f : EndId) (n : ℕ) (q : PictureWhat) → IsAnswer t j h q → IsParcelOf f n q → ⊥
answer-parcel t j h f n (packet.Taken to m at hops) is says = says
answer-parcel t j h f n (packet.Unwanted to m at hops) is says = says
answer-parcel t j h f n _ is says = absurd is

answer-back : (t : EndId) (j h : ℕ) (f : EndId) (n : ℕ) (q : PictureWhat) → IsAnswer t j h q → IsBackOf f n q → ⊥
answer-back t j h f n (packet.Taken to m at hops) is says = says
answer-back t j h f n (packet.Unwanted to m at hops) is says = says
answer-back t j h f n _ is says = absurd is

pub answer-news : (t : EndId) (j h : ℕ) (q : PictureWhat) → IsAnswer t j h q → IsNews t j h q
answer-news t j h (packet.Taken to n at hops) is = is
answer-news t j h (packet.Unwanted to n at hops) is = is
answer-news t j h _ is = absurd is

pub answer-to : (t : EndId) (j h : ℕ) (q : PictureWhat) → IsAnswer t j h q → addressee q ≡ t
answer-to t j h (packet.Taken to n at hops) is = is.0
answer-to t j h (packet.Unwanted to n at hops) is = is.0
answer-to t j h _ is = absurd is

pub answer-addressed : (n : ℕ) (t : EndId) (j h : ℕ) (q : PictureWhat) → IsAnswer t j h q → is_addressed q n ≡ true → is_addressed (packet.Moved t j h) n ≡ true
answer-addressed n t j h (packet.Taken to m at hops) is addressed = subst (λ z. nat_lt z n ≡ true) is.1 addressed
answer-addressed n t j h (packet.Unwanted to m at hops) is addressed = subst (λ z. nat_lt z n ≡ true) is.1 addressed
answer-addressed n t j h _ is addressed = absurd is

module _ {w v : Links} {c : Change} (b : Changes w c v) (from : ℕ) (q : Picture) (taken : c.taken ≡ Some (from, q)) (y : EndId → Entry) (to : EndId) (at hops : ℕ) (answer : IsAnswer to at hops q.what)
    (s : State) (t : EndId → End) (g : ℕ → Process) (is : IsAnswered w (swapped b from (news to at hops q) y) s t g) where
  abbrev p : Picture
  p = news to at hops q

  abbrev x : Links
  x = swapped b from p y

  abbrev r : State
  r = record s { ends = t; process = g }

  was : (P : PictureWhat → Type 0) → (P p.what → ⊥) → IsUnderWay x P → IsUnderWay w P
  was P none = swapped-was b from q p taken y P none

  -- what was heard
  news-was : (e : EndId) (j h : ℕ) → IsUnderWay x (IsNews e j h) → IsUnderWay w (IsNews e j h)
  news-was e j h under = by (swapped-after b from q p taken y (IsNews e j h) under)
    where
      told : IsNews e j h p.what → IsNews e j h q.what
      told new = subst (λ z. IsNews z j h q.what) new.0 (subst (λ z. IsNews to z h q.what) new.1 (subst (λ z. IsNews to at z q.what) new.2 (answer-news to at hops q.what answer)))

      by : IsLeft b (IsNews e j h) ⊎ IsNews e j h p.what → IsUnderWay w (IsNews e j h)
      by (inl left) = left-was b (IsNews e j h) left
      by (inr new) = record { from = from; to = c.kernel; packet = q; there = stood; is = told new }
        where
          stood : Contains (w.packets from c.kernel) q
          stood = taken-before b from q taken

  flying-was : (m : MovingPicture) → IsUnderWay x (λ o. Contains (values_of o) m) → IsUnderWay w (λ o. Contains (values_of o) m)
  flying-was m = was (λ o. Contains (values_of o) m) (λ has. none-there m has)

  value-same : (j : ℕ) (e : EndId) → value_of (x.entry j e) ≡ value_of (w.entry j e)
  value-same j e = settled-value (w.entry j e) (x.entry j e) (is.entries j e)

  -- the fields that an end has
  fields-was : (e : EndId) (at : Stand) (m : MovingPicture) → HasFields x e at m → HasFields w e at m
  fields-was e (At j) m has = sym (value-same j e) ∙ has
  fields-was e Flying m has = (flying-was m has.0, has.1)

  seen : (j : ℕ) (e : EndId) (o : HereView) → x.entry j e ≡ entry.Here o → (v : HereView) × (w.entry j e ≡ entry.Here v) × IsViewSettled v o
  seen j e o there = settled-was (w.entry j e) (x.entry j e) (is.entries j e) o there

  still : (j : ℕ) (e : EndId) (P Q : HereView → Type 0) → ((v o : HereView) → IsViewSettled v o → P v → Q o) → IsHereAnd (w.entry j e) P → IsHereAnd (x.entry j e) Q
  still j e P Q = settled-still (w.entry j e) (x.entry j e) (is.entries j e) P Q

  before : (j : ℕ) (e : EndId) (P Q : HereView → Type 0) → ((v o : HereView) → IsViewSettled v o → Q o → P v) → IsHereAnd (x.entry j e) Q → IsHereAnd (w.entry j e) P
  before j e P Q = settled-before (w.entry j e) (x.entry j e) (is.entries j e) P Q

  value-like : (v o : HereView) → IsViewSettled v o → o.value ≡ v.value
  value-like v o like = ap (λ (z : HereView). z.value) like.view

  holder-like : (v o : HereView) → IsViewSettled v o → o.holder ≡ v.holder
  holder-like v o like = ap (λ (z : HereView). z.holder) like.view

  asked-was : (n : ℕ) (v o : HereView) → IsViewSettled v o → IsAskedAs n o.inward → IsAskedAs n v.inward
  asked-was n v o like asked = by like.inward
    where
      by : (o.inward ≡ v.inward) ⊎ (o.inward ≡ kernel_inward.Idle) → IsAskedAs n v.inward
      by (inl same) = subst (IsAskedAs n) same asked
      by (inr over) = absurd (subst (IsAskedAs n) over asked)

  -- ---- clauses 2 to 5

  module _ (below : c.kernel < 8) (few : from < 8) where
    sum : (f : PictureWhat → ℕ) → sum_over f x + f q.what ≡ sum_over f w + f p.what
    sum f = swapped-sum b from q p taken y f below few

    standing-still : (e : EndId) → standing x e ≡ standing w e
    unfolding standing
    standing-still e =
        let here : over_kernels (λ k. one_if (is_here (x.entry k e))) ≡ over_kernels (λ k. one_if (is_here (w.entry k e)))
        = over-same (λ k. one_if (is_here (w.entry k e))) (λ k. one_if (is_here (x.entry k e))) (λ k. ap one_if (settled-here (w.entry k e) (x.entry k e) (is.entries k e))) in
        let values = sum (λ o. values_for e (values_of o)) in
        let none : values_for e (values_of q.what) ≡ 0 = ap (values_for e) (answer-values to at hops q.what answer) in
        omega (arith, here, values, none)

    held : (j : ℕ) (e : EndId) (h : Holder) → IsHereAnd (w.entry j e) (λ v. v.holder ≡ h) ↔ IsHereAnd (x.entry j e) (λ v. v.holder ≡ h)
    held j e h = (
      still j e (λ v. v.holder ≡ h) (λ v. v.holder ≡ h) (λ v o like same. holder-like v o like ∙ same),
      before j e (λ v. v.holder ≡ h) (λ v. v.holder ≡ h) (λ v o like same. sym (holder-like v o like) ∙ same),
    )

    waiting : (j : ℕ) (f : EndId) (n : ℕ) → IsHereAnd (w.entry j f) (λ v. IsWaitingWith n v.outward) ↔ IsHereAnd (x.entry j f) (λ v. IsWaitingWith n v.outward)
    waiting j f n = (
      still j f (λ v. IsWaitingWith n v.outward) (λ v. IsWaitingWith n v.outward) (λ v o like waits. (like.waiting n).1 waits),
      before j f (λ v. IsWaitingWith n v.outward) (λ v. IsWaitingWith n v.outward) (λ v o like waits. (like.waiting n).0 waits),
    )

    in_message-still : (e f : EndId) (n : ℕ) → IsInMessage w e f n ↔ IsInMessage x e f n
    in_message-still e f n = (still_in, was_in)
      where
        IsParcel : PictureWhat → Type 0
        IsParcel o = IsParcelOf f n o × Contains (ends_in (values_of o)) e

        IsBack : PictureWhat → Type 0
        IsBack o = IsBackOf f n o × Contains (ends_in (values_of o)) e

        still_in : IsInMessage w e f n → IsInMessage x e f n
        still_in (inl m) = inl (record { at = m.at; enclosed = (held m.at e (holder.EnclosedIn f)).0 m.enclosed; waiting = (waiting m.at f n).0 m.waiting })
        still_in (inr (inl m)) = inr (inl (swapped-still b from q p taken y IsParcel (λ a. answer-parcel to at hops f n q.what answer a.0) m))
        still_in (inr (inr m)) = inr (inr (swapped-still b from q p taken y IsBack (λ a. answer-back to at hops f n q.what answer a.0) m))

        was_in : IsInMessage x e f n → IsInMessage w e f n
        was_in (inl m) = inl (record { at = m.at; enclosed = (held m.at e (holder.EnclosedIn f)).1 m.enclosed; waiting = (waiting m.at f n).1 m.waiting })
        was_in (inr (inl m)) = inr (inl (was IsParcel (λ a. a.0) m))
        was_in (inr (inr m)) = inr (inr (was IsBack (λ a. a.0) m))

    pub settled-links : AreLinksOf w s → AreLinksOf x r
    settled-links l =
        record {
          once = λ e. standing-still e ∙ l.once e ∙ sym (ap (λ z. one_if (is_living z)) (is.places e));
          owned = λ e o. (λ at. (held (home_of s o) e (holder.Owner o)).0 ((l.owned e o).0 (sym (is.places e) ∙ at)), λ has. is.places e ∙ (l.owned e o).1 ((held (home_of s o) e (holder.Owner o)).1 has));
          in_message = λ e f n. (λ at. (in_message-still e f n).0 ((l.in_message e f n).0 (sym (is.places e) ∙ at)), λ has. is.places e ∙ (l.in_message e f n).1 ((in_message-still e f n).1 has));
          agree = is.agree;
        }

    -- ---- what is true of every world

    living-was : (e : EndId) → is_living (t e).place ≡ true → is_living (s.ends e).place ≡ true
    living-was e lives = ap (λ z. is_living z) (sym (is.places e)) ∙ lives

    open-same : (e : EndId) → is_open (t e) ≡ is_open (s.ends e)
    open-same e = ap (λ z. is_living z && (if (t e).noticed then false else true)) (is.places e) ∙ ap (λ z. is_living (s.ends e).place && (if z then false else true)) (is.noticed e)

    open-was : (e : EndId) → is_open (t e) ≡ true → is_open (s.ends e) ≡ true
    open-was e opened = sym (open-same e) ∙ opened

    named-still : AreNamed (length s.made) w s.ends → AreNamed (length s.made) x t
    named-still n =
        record {
          entries = λ j e. settled-names (w.entry j e) (x.entry j e) (is.entries j e) (length s.made) (n.entries j e);
          away = away;
          lists = λ i j far. none-in (x.packets i j) (λ o has. nothing i j far o has);
          addressed = swapped-each b from q p taken y (λ i j o. is_addressed o (length s.made) ≡ true) (λ i j o. is_addressed o (length s.made) ≡ true) n.addressed (λ i j o has a. a)
              (answer-addressed (length s.made) to at hops q.what answer (All-contains (λ o. is_addressed o.what (length s.made) ≡ true) (w.packets from c.kernel) q (n.addressed from c.kernel) stood));
          addressees = swapped-each b from q p taken y (λ i j o. is_made (s.ends (addressee o)).place ≡ true) (λ i j o. is_made (t (addressee o)).place ≡ true) n.addressees (λ i j o has a. ap (λ z. is_made z) (is.places (addressee o.what)) ∙ a)
              (ap (λ z. is_made z) (is.places to) ∙ subst (λ z. is_made (s.ends z).place ≡ true) (answer-to to at hops q.what answer)
              (All-contains (λ o. is_made (s.ends (addressee o.what)).place ≡ true) (w.packets from c.kernel) q (n.addressees from c.kernel) stood));
        }
      where
        stood : Contains (w.packets from c.kernel) q
        stood = taken-before b from q taken

        away : (j : ℕ) (e : EndId) → length s.made ≤ j → x.entry j e ≡ entry.Nothing
        away j e far = by (is.entries j e)
          where
            by : IsSettled (w.entry j e) (x.entry j e) → x.entry j e ≡ entry.Nothing
            by (Same same) = same ∙ n.away j e far
            by (Turned v u was now settled) = absurd (let both : entry.Nothing ≡ entry.Here v = sym (n.away j e far) ∙ was in cc)

        nothing : (i j : ℕ) → (length s.made ≤ i) ⊎ (length s.made ≤ j) → (o : Picture) → Contains (x.packets i j) o → ⊥
        nothing i j far o has = by (Contains-append_cases (taken_at (instead c from p) i j) (b.left i j) o has)
          where
            here : (o : Picture) → Contains (w.packets i j) o → ⊥
            here o has = none-there o (subst (λ l. Contains l o) (n.lists i j far) has)

            taken_there : (instead c from p).taken ≡ Some (i, o) → j ≡ c.kernel → ⊥
            taken_there same is_to =
                let pair = some-same {X = ℕ × Picture} (from, p) (i, o) same in
                here q (subst (λ z. Contains (w.packets i z) q) (sym is_to) (subst (λ z. Contains (w.packets z c.kernel) q) (ap (λ (a : ℕ × Picture). a.0) pair) stood))

            by : Contains (taken_at (instead c from p) i j) o ⊎ Contains (b.left i j) o → ⊥
            by (inl first) = let a = taken-there (instead c from p) i j o first in taken_there a.0 a.1
            by (inr left) = here o (left-before b i j o left)

    marked-still : (e : EndId) → AreMarked w s.ends e → AreMarked x t e
    marked-still e m =
        record {
          destroyed = λ j l there. is.places e ∙ m.destroyed j l (mark j l there);
          once = λ i j l o one other. m.once i j l o (mark i l one) (mark j o other);
        }
      where
        mark : (j : ℕ) (l : MovingPicture) → x.entry j e ≡ entry.Destroyed l → w.entry j e ≡ entry.Destroyed l
        mark j l there = settled-mark (w.entry j e) (x.entry j e) (is.entries j e) l there

    counted-still : (e : EndId) → AreCounted w s.ends e → AreCounted x t e
    counted-still e a =
        record {
          sent = λ at m lives has. a.sent at m (living-was e lives) (fields-was e at m has) ∙ sym (is.sent e);
          dead = λ at m lives has. a.dead at m (living-was e lives) (fields-was e at m has) ∙ sym (is.noticed e);
          unwanted = λ at m lives noticed has. a.unwanted at m (living-was e lives) (sym (is.noticed e) ∙ noticed) (fields-was e at m has);
        }

    heard-was : (e : EndId) (j h : ℕ) → IsHeard x e j h → IsHeard w e j h
    heard-was e j h (inl a) = inl (record { stand = a.stand; fields = a.fields; are = fields-was (opposite e) a.stand a.fields a.are; hint = a.hint })
    heard-was e j h (inr a) = inr (news-was (opposite e) j h a)

    asked-still : (e : EndId) → AreAsked w s e → AreAsked x r e
    asked-still e a =
        record {
          last = λ j o n there asked. let v = seen j e o there in a.last j v.0 n v.1 (asked-was n v.0 o v.2 asked) ∙ sym (ap (λ (z : MovingPicture). z.asked) (value-like v.0 o v.2));
          cancelled = λ j o n owner there withdrawing holds.
              let v = seen j e o there in
              is.cancelled owner j e o n there withdrawing (a.cancelled j v.0 n owner v.1 (inward_was v.0 o n v.2 withdrawing) (sym (holder-like v.0 o v.2) ∙ holds));
        }
      where
        inward_was : (v o : HereView) (n : ℕ) → IsViewSettled v o → o.inward ≡ kernel_inward.Withdrawing n → v.inward ≡ kernel_inward.Withdrawing n
        inward_was v o n like at = by like.inward
          where
            by : (o.inward ≡ v.inward) ⊎ (o.inward ≡ kernel_inward.Idle) → v.inward ≡ kernel_inward.Withdrawing n
            by (inl same) = sym same ∙ at
            by (inr over) = absurd (let both : kernel_inward.Idle ≡ kernel_inward.Withdrawing n = sym over ∙ at in cc)

    served-still : (e : EndId) → IsServed w s.ends e → IsServed x t e
    served-still e a j o n at m there asked unposted lives has =
        let v = seen j e o there in
        a j v.0 n at m v.1 (asked-was n v.0 o v.2 asked) (sym (is.posted e) ∙ unposted) (living-was (opposite e) lives) (fields-was (opposite e) at m has)

    unserved-was : (e : EndId) (m : MovingPicture) (n j h : ℕ) → IsUnserved x e m n j h → IsUnserved w e m n j h
    unserved-was e m n j h (inl kept) = inl kept
    unserved-was e m n j h (inr asked) = inr (asked.0, was (IsAsking e n j h) (λ a. a) asked.1)

    wanted-still : (e : EndId) → AreWanted w s.ends e → AreWanted x t e
    wanted-still e a =
        record {
          kept = λ at m opened has. a.kept at m (open-was e opened) (fields-was e at m has);
          same = λ at m n j h o i g opened has one other. a.same at m n j h o i g (open-was e opened) (fields-was e at m has) (unserved-was e m n j h one) (unserved-was e m o i g other);
          posted = λ at m n j h opened has one. is.posted (opposite e) ∙ a.posted at m n j h (open-was e opened) (fields-was e at m has) (unserved-was e m n j h one);
          site = λ at m n j h opened has one lives.
              still j (opposite e) (λ v. (v.value.hops ≡ h) × (v.value.asked ≡ n)) (λ v. (v.value.hops ≡ h) × (v.value.asked ≡ n))
              (λ v o like both. (ap (λ (z : MovingPicture). z.hops) (value-like v o like) ∙ both.0, ap (λ (z : MovingPicture). z.asked) (value-like v o like) ∙ both.1))
              (a.site at m n j h (open-was e opened) (fields-was e at m has) (unserved-was e m n j h one) (living-was (opposite e) lives));
          unwanted = λ at m n opened has low one.
              let old = was (IsUnwantOf e n) (λ a. a) one in
              let k = a.unwanted at m n (open-was e opened) (fields-was e at m has) low old in
              let asks = unwant-asks e n old.packet.what old.is in
              let posted = a.posted at m n asks.0 asks.1 (open-was e opened) (fields-was e at m has) (inr (low, record { from = old.from; to = old.to; packet = old.packet; there = old.there; is = asks.2 })) in
              (k.0, is.withdrawing k.0 (opposite e) posted k.1);
        }

    unwanted-still : (e : EndId) → IsUnwantedOnce w s.ends e → IsUnwantedOnce x t e
    unwanted-still e a noticed =
        let most = a (sym (is.noticed e) ∙ noticed) in
        let both = sum (λ o. one_if (is_unwanted_to e o)) in
        omega (arith, most, both)

    once-still : (e : EndId) → AreSentOnce w s.ends e → AreSentOnce x t e
    once-still e a =
        record {
          message =
              let both = sum (λ o. one_if (is_message_of e o)) in
              let none : one_if (is_message_of e q.what) ≡ 0 = ap one_if (answer-message to at hops e q.what answer) in
              let same : how_many (is_message_of e) x ≡ how_many (is_message_of e) w = omega (arith, both, none) in
              same ∙ a.message ∙ sym (ap (λ z. one_if (is_some z)) (is.message e));
          taken = is.taken e;
          told = is.told e;
        }

    packets-still : Each w (λ i j o. IsPacketRight w s.ends i j o) → Each x (λ i j o. IsPacketRight x t i j o)
    packets-still each =
        swapped-each b from q p taken y (λ i j o. IsPacketRight w s.ends i j o) (λ i j o. IsPacketRight x t i j o) each
        (λ i j o has a. right i j o.what (record { from = i; to = j; packet = o; there = stands-there i j o has; is = refl }) a) tt
      where
        stands-there : (i j : ℕ) (o : Picture) → Contains (b.left i j) o → Contains (x.packets i j) o
        stands-there i j o has = Contains-append_right (taken_at (instead c from p) i j) (b.left i j) o has

        under : (P : PictureWhat → Type 0) (o : PictureWhat) → IsUnderWay x (λ z. z ≡ o) → P o → IsUnderWay x P
        under P o there has = record { from = there.from; to = there.to; packet = there.packet; there = there.there; is = subst P (sym there.is) has }

        site : (j : ℕ) (e : EndId) → (is_living (s.ends e).place ≡ true → IsHereAnd (w.entry j e) (λ v. Unit {0})) → is_living (t e).place ≡ true → IsHereAnd (x.entry j e) (λ v. Unit {0})
        site j e a lives = still j e (λ v. Unit {0}) (λ v. Unit {0}) (λ v o like has. tt) (a (living-was e lives))

        right : (i j : ℕ) (o : PictureWhat) → IsUnderWay x (λ z. z ≡ o) → IsPacketRight w s.ends i j o → IsPacketRight x t i j o
        right i j (packet.Parcel e n wanted at hops bytes ms) there a =
            record {
              matched = is.matched (opposite e) (record { bytes = bytes; carried = ends_in ms }) a.matched;
              number = is.sent (opposite e) ∙ a.number;
              sender = a.sender;
              site = λ lives. still i (opposite e) (λ v. v.value.hops ≡ hops) (λ v. v.value.hops ≡ hops) (λ v o like same. ap (λ (z : MovingPicture). z.hops) (value-like v o like) ∙ same) (a.site (living-was (opposite e) lives));
              meets = λ opened. is.meets j e wanted n (under (IsParcelFor e wanted n) (packet.Parcel e n wanted at hops bytes ms) there (refl, refl, refl)) (open-was e opened) (a.meets (open-was e opened));
            }
        right i j (packet.Back f n ms) there a =
            record {
              matched = record { message = a.matched.message; matched = is.matched f a.matched.message a.matched.matched; carries = a.matched.carries; number = is.sent f ∙ a.matched.number };
              untaken = open-same (opposite f) ∙ a.untaken;
              site = site j f a.site;
            }
        right i j (packet.Taken f n at hops) there a =
            record {
              taken = is.takens f n (under (IsTakenOf f n) (packet.Taken f n at hops) there (refl, refl)) a.taken;
              number = is.sent f ∙ a.number;
              taker = a.taker;
              site = site j f a.site;
            }
        right i j (packet.Gone e at) there a = is.places (opposite e) ∙ a
        right i j (packet.Unwanted e n at hops) there a =
            λ noticed. is.voids j e n (under (IsUnwantedOf e n) (packet.Unwanted e n at hops) there (refl, refl)) (sym (is.noticed e) ∙ noticed) (a (sym (is.noticed e) ∙ noticed))
        right i j _ there a = tt

    pub settled-right : (i : ℕ) → AreRight i w s → AreRight i x r
    settled-right i a =
        record {
          named = named-still a.named;
          few = λ e at m has. a.few e at m (fields-was e at m has);
          marked = λ e. marked-still e (a.marked e);
          counted = λ e. counted-still e (a.counted e);
          honest = λ e at m j h has heard. a.honest e at m j h (fields-was e at m has) (heard-was e j h heard);
          asked = λ e. asked-still e (a.asked e);
          cancelling = is.cancelling;
          served = λ e. served-still e (a.served e);
          wanted = λ e. wanted-still e (a.wanted e);
          unwanted = λ e. unwanted-still e (a.unwanted e);
          once = λ e. once-still e (a.once e);
          packets = packets-still a.packets;
        }
