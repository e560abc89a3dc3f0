-- The rule goes well, the event closes, and the set of the end's owner is made anew.
use Rattle.charlotte_packets.specs.Packets.{what_picture}
use Rattle.end_table.specs.Place.{end_eq}
use Rattle.charlotte_calls.specs.declared.names.EndId.{EndId}
use Rattle.charlotte_packets.specs.declared.packet.What.{What}
use Rattle.end_table.specs.declared.entry.Entry.{Entry}
use Rattle.end_table.specs.Table.{entries, IsHere}
use Rattle.kernel_process.proofs.ActiveSets.{tells_same}
use Rattle.kernel_process.proofs.KeptMoved.{keys-moved, HavePlace-moved}
use Rattle.kernel_process.proofs.OneProcess.{with_parts-kept, closes-table}
use Rattle.kernel_process.specs.Parts.{ended, with_parts}
use Rattle.kernel_process.specs.Closing.{HaveSpareFor}
use Rattle.kernel_sound.proofs.Goes.{GoesWell}
use Rattle.kernel_sound.proofs.Events.{row-goes, well-reports, well-answers, row-sound, row-calm, owner-below}
use Rattle.kernel_sound.proofs.Needs.{IsReady-sound}
use Rattle.kernel_sound.specs.Owners.{owner_of}
use Rattle.kernel_sound.specs.Sound.{IsSound, addressee}
use Rattle.kernel_step.specs.Kernel.{closes}
use Rattle.kernel_step.specs.Progress.{progress}
use Rattle.kernel_step.specs.Rows.{row}
use Rattle.std.proofs.Common.{arith, ◌≡◌, ◌<◌, Bool, true, false, true≢false, IfSome, length, refl, sym, ap, subst, ◌∙◌}
use Rattle.kernel_core.proofs.Begun.{part-closes, part-spare}
use Rattle.kernel_touched.proofs.Silent.{quiet-calm, quiet-reports}
use Rattle.kernel_touched.specs.Found.{IsFound, is_silent}
use Rattle.kernel_touched.specs.declared.found.Found.{Found}
use Rattle.kernel_event.specs.Room.{room_of_packet}
use Rattle.kernel_core.proofs.taking.take.Goals as goal

pub row-requires-clause-ready : goal.row-requires-clause-ready
row-requires-clause-ready c = IsReady-sound c.args.state.now.table.kernel c.args.state.now.made (length c.args.state.now.processes) (entries c.args.state.now.table) c.requires.consistent.sound

-- the rule goes well
goes : (c : goal.After-close-arg-3-1) → GoesWell c.args.state.now.table.kernel c.args.state.now.made (length c.args.state.now.processes) (λ p e. end_eq (addressee (what_picture c.args.what.now)) e) (entries c.args.state.now.table)
    (row c.args.state.now.table.kernel c.args.state.now.made c.args.from (what_picture c.args.what.now) (progress (entries c.args.state.now.table) c.args.state.now.event.work))
goes c = row-goes c.args.state.now.table.kernel c.args.state.now.made (length c.args.state.now.processes) c.args.from (what_picture c.args.what.now) (entries c.args.state.now.table) c.args.state.now.event.work c.requires.ready.begun.reports c.requires.ready.begun.answers c.requires.consistent.sound

pub close-requires-clause-reports : goal.close-requires-clause-reports
close-requires-clause-reports c = well-reports _ _ _ _ _ (entries c.row.new.table) c.row.new.out _ c.row.ensures.part (goes c)

pub close-requires-clause-answers : goal.close-requires-clause-answers
close-requires-clause-answers c = well-answers _ _ _ _ _ (entries c.row.new.table) c.row.new.out _ c.row.ensures.part (goes c)

-- a packet that is not heard is silent, where it is to an end that is here
quiet : (t : EndId → Entry) (what : What) (to : Found) → IsFound t what to → to.heard ≡ false → IsHere (t (addressee (what_picture what))) → is_silent (what_picture what) ≡ true
quiet t what to found unheard here = by (is_silent (what_picture what)) refl
  where
    by : (b : Bool) → is_silent (what_picture what) ≡ b → b ≡ true
    by true is = refl
    by false is = absurd (true≢false (sym (found.heard.1 (here, is)) ∙ unheard))

pub close-requires-clause-spare : goal.close-requires-clause-spare
close-requires-clause-spare c = by c.args.to.heard refl
  where
    by : (b : Bool) → c.args.to.heard ≡ b → HaveSpareFor c.row.new.out.reports.items c.args.state.now.processes
    by true is = part-spare (room_of_packet c.args.what.now) 0 c.args.state.now.event c.row.new.out c.args.state.now.processes c.requires.ready.begun c.row.ensures.within.added
        (c.requires.ready.spare (c.requires.found.heard.0 is))
    by false is = subst (λ rs. HaveSpareFor rs c.args.state.now.processes)
        (sym (quiet-reports c.args.state.now.table.kernel c.args.state.now.made (length c.args.state.now.processes) c.args.from (what_picture c.args.what.now) (entries c.args.state.now.table) (entries c.row.new.table) c.args.state.now.event.work c.row.new.out
        c.requires.ready.begun.reports c.requires.ready.begun.answers c.requires.consistent.sound c.row.ensures.part (quiet (entries c.args.state.now.table) c.args.what.now c.args.to c.requires.found is))) tt

pub close-requires-clause-room : goal.close-requires-clause-room
close-requires-clause-room c = part-closes (room_of_packet c.args.what.now) 0 c.args.state.now.event c.row.new.out c.requires.ready.begun c.row.ensures.within.added

pub row-requires-clause-room : goal.row-requires-clause-room
row-requires-clause-room c =
    record { packets = c.requires.ready.begun.room.packets; reports = c.requires.ready.begun.room.reports; answers = c.requires.ready.begun.room.answers; steps = omega (arith, c.requires.ready.begun.room.steps) }

pub refresh_if_heard-requires-clause-after : goal.refresh_if_heard-requires-clause-after
refresh_if_heard-requires-clause-after c =
    let sound = c.close.ensures.calm.sound c.args.state.now.made (length c.args.state.now.processes)
    (subst (λ k. IsSound k c.args.state.now.made (length c.args.state.now.processes) (entries c.row.new.table)) (sym c.row.ensures.within.kernel)
    (row-sound c.args.state.now.table.kernel c.args.state.now.made (length c.args.state.now.processes) c.args.from (what_picture c.args.what.now) (entries c.args.state.now.table) (entries c.row.new.table)
    c.args.state.now.event.work c.row.new.out c.requires.ready.begun.reports c.requires.ready.begun.answers c.requires.consistent.sound c.row.ensures.part)) in
    subst (λ n. IfSome (owner_of (entries c.close.new.table c.args.to.end)) (λ p. p.0 < n)) (sym c.close.ensures.kept.length)
    (owner-below c.close.new.table.kernel c.args.state.now.made (length c.args.state.now.processes) (entries c.close.new.table) sound c.args.to.end)

pub refresh_if_heard-requires-clause-before : goal.refresh_if_heard-requires-clause-before
refresh_if_heard-requires-clause-before c = λ is.
    subst (λ o. IfSome o (λ p. p.0 < length c.close.new.processes)) (sym (c.requires.found.owner is))
    (subst (λ n. IfSome (owner_of (entries c.args.state.now.table c.args.to.end)) (λ p. p.0 < n)) (sym c.close.ensures.kept.length)
    (owner-below c.args.state.now.table.kernel c.args.state.now.made (length c.args.state.now.processes) (entries c.args.state.now.table) c.requires.consistent.sound c.args.to.end))

pub refresh_if_heard-requires-clause-place : goal.refresh_if_heard-requires-clause-place
refresh_if_heard-requires-clause-place c = λ is.
    HavePlace-moved c.args.state.now.processes c.close.new.processes c.close.ensures.kept.active
    (c.requires.ready.place (c.requires.found.heard.0 is))

pub returns-clause-part : goal.returns-clause-part
returns-clause-part c = λ s.
    ap (λ u. ended u c.close.result) (with_parts-kept (entries c.close.new.table) c.close.new.processes c.refresh_if_heard.new.processes (record s { stamp = c.close.result.stamp }) c.refresh_if_heard.ensures.kept)
    ∙ ap (λ n. ended (with_parts (entries c.close.new.table) c.close.new.processes (record s { stamp = n })) c.close.result) c.close.ensures.stamp
    ∙ c.close.ensures.part s
    ∙ closes-table (entries c.row.new.table) (entries c.args.state.now.table) c.args.state.now.processes s (progress (entries c.row.new.table) c.row.new.out)
    ∙ ap (closes (with_parts (entries c.args.state.now.table) c.args.state.now.processes s)) c.row.ensures.part

pub returns-clause-keeps : goal.returns-clause-keeps
returns-clause-keeps c =
    let sound = c.close.ensures.calm.sound c.args.state.now.made (length c.args.state.now.processes)
    (subst (λ k. IsSound k c.args.state.now.made (length c.args.state.now.processes) (entries c.row.new.table)) (sym c.row.ensures.within.kernel)
    (row-sound c.args.state.now.table.kernel c.args.state.now.made (length c.args.state.now.processes) c.args.from (what_picture c.args.what.now) (entries c.args.state.now.table) (entries c.row.new.table)
    c.args.state.now.event.work c.row.new.out c.requires.ready.begun.reports c.requires.ready.begun.answers c.requires.consistent.sound c.row.ensures.part)) in
    record {
      consistent = record {
        sound = subst (λ n. IsSound c.close.new.table.kernel c.args.state.now.made n (entries c.close.new.table)) (sym (c.refresh_if_heard.ensures.length ∙ c.close.ensures.kept.length)) sound;
        active =
            c.refresh_if_heard.ensures.told (entries c.args.state.now.table) c.requires.found.owner
            (tells_same (entries c.args.state.now.table) (entries c.args.state.now.table) c.args.state.now.processes c.close.new.processes c.requires.consistent.active (keys-moved c.args.state.now.processes c.close.new.processes c.close.ensures.kept.active) (λ p e. refl))
            (λ p e apart. c.close.ensures.calm.calm p e
            ∙ row-calm c.args.state.now.table.kernel c.args.state.now.made (length c.args.state.now.processes) c.args.from (what_picture c.args.what.now) (entries c.args.state.now.table) (entries c.row.new.table)
            c.args.state.now.event.work c.row.new.out c.requires.ready.begun.reports c.requires.ready.begun.answers c.requires.consistent.sound c.row.ensures.part p e
            (ap (λ to. end_eq to e) (sym c.requires.found.end) ∙ apart))
            (λ is p e. c.close.ensures.calm.calm p e
            ∙ quiet-calm c.args.state.now.table.kernel c.args.state.now.made (length c.args.state.now.processes) c.args.from (what_picture c.args.what.now) (entries c.args.state.now.table) (entries c.row.new.table)
            c.args.state.now.event.work c.row.new.out c.requires.ready.begun.reports c.requires.ready.begun.answers c.requires.consistent.sound c.row.ensures.part
            (quiet (entries c.args.state.now.table) c.args.what.now c.args.to c.requires.found is) p e);
      };
      kernel = c.close.ensures.calm.kernel ∙ c.row.ensures.within.kernel;
      length = c.refresh_if_heard.ensures.length ∙ c.close.ensures.kept.length;
    }
