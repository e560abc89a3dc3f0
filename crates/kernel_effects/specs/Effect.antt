-- What a part of an event does, as plain data: the entry of each end afterwards, and what is added to each list. It does not
-- speak of how far the event had come.
use Rattle.std.specs.Prelude.{◌≡◌, ℕ, if◌then◌else◌, List, [], ◌∷◌, ◌++◌, map}
use Rattle.std.specs.List.{list_any}
use Rattle.charlotte_calls.specs.declared.calls.Answer.{Answer}
use Rattle.charlotte_calls.specs.declared.calls.Report.{Report}
use Rattle.charlotte_calls.specs.declared.calls.ServiceStep.{ServiceStep}
use Rattle.charlotte_calls.specs.declared.names.EndId.{EndId}
use Rattle.charlotte_calls.specs.declared.names.Pid.{Pid}
use Rattle.charlotte_packets.specs.declared.picture.MovingPicture.{MovingPicture}
use Rattle.charlotte_packets.specs.declared.picture.Picture.{Picture}
use Rattle.charlotte_packets.specs.declared.picture.PictureWhat.{PictureWhat}
use Rattle.end_table.specs.Place.{end_eq}
use Rattle.end_table.specs.declared.entry.Entry.{Entry}
use Rattle.end_table.specs.declared.entry.Holder.{Holder}
use Rattle.end_table.specs.declared.entry.Holder.TheVariants as holder
use Rattle.kernel_step.specs.Progress.{Progress}

pub record Effect : Type 0 where
  -- the entry of an end afterwards, by its entry before
  pub entry : EndId → Entry → Entry
  -- the packets sent, each with the kernel that it goes to
  pub packets : List (ℕ × PictureWhat)
  pub reports : List (Pid × Report)
  pub answers : List (Pid × Answer)
  pub steps : List ServiceStep

-- ---- the entry of an end afterwards

-- every entry stays
abbrev pub stays : EndId → Entry → Entry
stays q y = y

-- one end gets this entry
abbrev pub puts : EndId → Entry → (EndId → Entry → Entry) → EndId → Entry → Entry
puts e x others q y = if end_eq e q then x else others q y

-- each of these ends gets what a word makes of its entry
abbrev pub turns : List EndId → (Entry → Entry) → (EndId → Entry → Entry) → EndId → Entry → Entry
turns xs word others q y = if list_any (end_eq q) xs then word y else others q y

-- the end of each of these values gets an entry by its value
abbrev pub brings : List MovingPicture → (MovingPicture → Entry) → (EndId → Entry → Entry) → EndId → Entry → Entry
brings [] word others q y = others q y
brings (m ∷ ms) word others q y = if end_eq m.end q then word m else brings ms word others q y

-- ---- what is added

-- a report or an answer is for the owner of the end; an end that is enclosed has none
abbrev pub for_holder : {X : Type 0} → Holder → List X → List (Pid × X)
for_holder (holder.Owner p) xs = map (λ x. (p, x)) xs
for_holder (holder.EnclosedIn on) xs = []

-- a packet with the stamp of its event
abbrev pub stamped : ℕ → ℕ × PictureWhat → ℕ × Picture
stamped stamp sent = (sent.0, record { stamp = stamp; what = sent.1 })

-- ---- effects

abbrev pub nothing : Effect
nothing = record { entry = stays; packets = []; reports = []; answers = []; steps = [] }

-- entries alone
abbrev pub changed : (EndId → Entry → Entry) → Effect
changed entry = record { entry = entry; packets = []; reports = []; answers = []; steps = [] }

-- packets alone
abbrev pub sent : List (ℕ × PictureWhat) → Effect
sent ps = record { entry = stays; packets = ps; reports = []; answers = []; steps = [] }

-- one effect and then another
abbrev pub and_then : Effect → Effect → Effect
and_then f g =
    record {
      entry = λ q y. g.entry q (f.entry q y);
      packets = f.packets ++ g.packets;
      reports = f.reports ++ g.reports;
      answers = f.answers ++ g.answers;
      steps = f.steps ++ g.steps;
    }

-- the event came from one progress to another by this effect
pub record Does (f : Effect) (old new : Progress) : Type 0 where
  pub table : (q : EndId) → new.table q ≡ f.entry q (old.table q)
  pub stamp : new.stamp ≡ old.stamp
  pub packets : new.packets ≡ old.packets ++ map (stamped old.stamp) f.packets
  pub reports : new.reports ≡ old.reports ++ f.reports
  pub answers : new.answers ≡ old.answers ++ f.answers
  pub steps : new.steps ≡ old.steps ++ f.steps
