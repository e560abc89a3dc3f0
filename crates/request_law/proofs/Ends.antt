-- While a link lives each end of a request or reply is in one place.
use Rattle.std.proofs.Common.{◌≡◌, ℕ, ◌+◌, Bool, true, false, List, [], ◌∷◌, ◌++◌, length, take, drop, Option, refl, sym, ap, subst, ◌∙◌, append-nil, take-append-drop, take_all}
use Rattle.std.proofs.Common.{arith, ◌≤◌, length-drop}
use Rattle.std.specs.List.{AllByRecursion}
use Rattle.charlotte_calls.specs.declared.names.EndId.{EndId}
use Rattle.end_protocol.specs.declared.kept.Response.{Response}
use Rattle.end_protocol.specs.declared.kept.Wanted.{Wanted}
use Rattle.end_protocol.specs.declared.messages.Connect.{Connect}
use Rattle.end_protocol.specs.declared.messages.Message.{Message}
use Rattle.end_protocol.specs.Falling.{outstanding_ends, reply_ends, request_ends}
use Rattle.end_protocol.specs.Messages.{encs, most_of}
use Rattle.request_meaning.specs.Requests.{Request}
use Rattle.request_meaning.specs.Phases.{Asked, Barred, Coming, Forbidden, IsPhase, LetCome, Owed, Phase, Quiet, Replied, Retried, Returning, Standing, allowed, stands, unaccepted, unreturned}
use Rattle.request_meaning.specs.Links.{Link, Runs, start, turned}
use Rattle.request_meaning.specs.Invariant.{Lives}
use Rattle.request_law.specs.Law.{EndsAreThere, back_on, ends_in, forth_on}
use Rattle.request_law.proofs.Reading.{some_travel}
use Rattle.request_law.proofs.Run.{run_lives}

ends_of_encs : (kind n i : ℕ) (xs : List EndId) → ends_in (encs kind n i xs) ≡ xs
ends_of_encs kind n i [] = refl
ends_of_encs kind n i (x ∷ xs) = ap (λ (l : List EndId). x ∷ l) (ends_of_encs kind n (i + 1) xs)

ends_allowed : (c : Connect) (b : Bool) → ends_in (allowed c b) ≡ []
ends_allowed c true = refl
ends_allowed c false = refl

-- the ends that stand somewhere
abbrev places_of : Option Wanted → List Message → List Message → Option Connect → List EndId
places_of w forth back o = request_ends w ++ (ends_in forth ++ (ends_in back ++ outstanding_ends o))

abbrev ends_at : Standing → List EndId
ends_at t = places_of t.request t.forth t.back t.outstanding

module _ (version : ℕ) where
  cut_in_two : (xs : List EndId) → xs ≡ (take (most_of version) xs ++ []) ++ drop (most_of version) xs
  cut_in_two xs = sym (ap (λ (l : List EndId). l ++ drop (most_of version) xs) (append-nil (take (most_of version) xs)) ∙ take-append-drop (most_of version) xs)

  cut_once : (xs : List EndId) → xs ≡ take (most_of version) xs ++ drop (most_of version) xs
  cut_once xs = sym (take-append-drop (most_of version) xs)

  phase_ends : (p : Phase) → IsPhase version p → AllByRecursion (λ r. r.ends ≡ ends_at (stands version p)) (unaccepted p)
  phase_ends Quiet so = tt
  phase_ends (Asked c) so = (cut_in_two c.ends, tt)
  phase_ends (Retried c) so = (cut_in_two c.ends, tt)
  phase_ends (Forbidden c b) so =
      (cut_in_two c.ends ∙ ap (λ (l : List EndId). (take (most_of version) c.ends ++ l) ++ drop (most_of version) c.ends) (sym (ends_allowed c b)), tt)
  phase_ends (Barred c b) so = (ap (λ (l : List EndId). l ++ c.ends) (sym (ends_allowed c b)), tt)
  phase_ends (LetCome c by) so = (cut_once c.ends, tt)
  phase_ends (Coming c by came e es) so =
      (sym so.1 ∙ ap (λ (l : List EndId). came ++ l) (sym (append-nil (e ∷ es)) ∙ ap (λ (l : List EndId). l ++ []) (sym (ends_of_encs 1 c.number (length came + 1) (e ∷ es)))), tt)
  phase_ends (Owed c) so = tt
  phase_ends (Replied c r) so = tt
  phase_ends (Returning c r came e es) so = tt

  -- at most seven further ends
  seven : (xs : List EndId) → length xs ≤ 8 → take 7 (drop (most_of version) xs) ≡ drop (most_of version) xs
  seven xs few = take_all 7 (drop (most_of version) xs) (let one = some_travel version in let n = length-drop (most_of version) xs in omega arith)

  back_ends : (p : Phase) → IsPhase version p → AllByRecursion (λ r. r.ends ≡ reply_ends (stands version p).reply ++ ends_in (stands version p).back) (unreturned p)
  back_ends Quiet so = tt
  back_ends (Asked c) so = tt
  back_ends (Retried c) so = tt
  back_ends (Forbidden c b) so = tt
  back_ends (Barred c b) so = tt
  back_ends (LetCome c by) so = tt
  back_ends (Coming c by came e es) so = tt
  back_ends (Owed c) so = tt
  back_ends (Replied c r) so = (
    cut_once r.ends
        ∙ ap (λ (l : List EndId). take (most_of version) r.ends ++ l) (sym (ends_of_encs 2 r.number 2 (take 7 (drop (most_of version) r.ends)) ∙ seven r.ends so.links.few)),
    tt,
  )
  back_ends (Returning c r came e es) so = (sym so.1 ∙ ap (λ (l : List EndId). came ++ l) (sym (ends_of_encs 2 r.number (length came + 1) (e ∷ es))), tt)

  each_as : (xs ys : List EndId) (rs : List Request) → xs ≡ ys → AllByRecursion (λ r. r.ends ≡ xs) rs → AllByRecursion (λ r. r.ends ≡ ys) rs
  each_as xs ys rs same all = subst (λ (zs : List EndId). AllByRecursion (λ r. r.ends ≡ zs) rs) same all

  replies_as : (xs ys : List EndId) (rs : List Response) → xs ≡ ys → AllByRecursion (λ r. r.ends ≡ xs) rs → AllByRecursion (λ r. r.ends ≡ ys) rs
  replies_as xs ys rs same all = subst (λ (zs : List EndId). AllByRecursion (λ r. r.ends ≡ zs) rs) same all

  pub ends_are_there : (l : Link) → Lives version l → EndsAreThere l
  ends_are_there l lives =
      let p : Phase = lives.near.phase in
      let at = lives.near.at in
      let t : Standing = stands version p in
      record {
        under_way = unaccepted p;
        issued_is = at.issued;
        ends = each_as (ends_at t) (places_of l.far.request (forth_on l) (back_on l) l.near.outstanding) (unaccepted p)
            (sym
            (ap (λ (w : Option Wanted). places_of w (forth_on l) (back_on l) l.near.outstanding) at.request
            ∙ ap (λ (ms : List Message). places_of t.request ms (back_on l) l.near.outstanding) at.forth_is
            ∙ ap (λ (ms : List Message). places_of t.request t.forth ms l.near.outstanding) at.back_is
            ∙ ap (λ (o : Option Connect). places_of t.request t.forth t.back o) at.outstanding))
            (phase_ends p at.so);
        coming_back = unreturned p;
        replied_is = at.replied;
        reply_ends_are = replies_as (reply_ends t.reply ++ ends_in t.back) (reply_ends l.near.reply ++ ends_in (back_on l)) (unreturned p)
            (sym (ap (λ (o : Option Response). reply_ends o ++ ends_in (back_on l)) at.reply ∙ ap (λ (ms : List Message). reply_ends t.reply ++ ends_in ms) at.back_is))
            (back_ends p at.so);
      }

  -- seen from either end
  pub run_ends : (l : Link) → Runs version start l → l.cut ≡ false → EndsAreThere l × EndsAreThere (turned l)
  run_ends l run uncut =
      let lives : Lives version l = run_lives version l run uncut in
      (ends_are_there l lives, ends_are_there (turned l) (record { uncut = lives.uncut; near = lives.far; far = lives.near }))
