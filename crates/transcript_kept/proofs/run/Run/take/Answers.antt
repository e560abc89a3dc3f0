use Rattle.std.proofs.Common.{◌≡◌, Option, Some, None, subst}
use Rattle.kernel_nodes.specs.Nodes.{TakesTold}
use Rattle.kernel_nodes.specs.declared.nodes.Noted.{Noted}
use Rattle.kernel_world.specs.World.{Takes}
use Rattle.transcript_kept.specs.Run.{kept_of}
use Rattle.transcript_kept.proofs.Runs.{first-kept, kept-on, stands, takes-none}
use Rattle.transcript_kept.proofs.run.Run.take.Goals as goal

pub returns-in-Some-clause-stand : goal.returns-in-Some-clause-stand
returns-in-Some-clause-stand c =
    let is : c.in_ok-noted.field-0 ≡ Some c.in-Some.noted = cc in
    let did = subst (λ (o : Option Noted). TakesTold c.args.self.now.setting c.args.from c.args.kernel c.args.what.now o c.args.self.now.nodes.nodes.items c.take_told.new.self.nodes.items) is (c.in_ok-noted.ensures c.args.self.now.setting c.requires.nodes) in
    stands (Takes c.args.kernel c.args.from) c.take_told.new.self c.in-Some.noted c.args.self.now c.note.new.self c.requires
    (record { setting = c.note.ensures.setting; nodes = c.note.ensures.nodes; service = c.note.ensures.service; latest = c.note.ensures.latest; due = c.note.ensures.due; happened = did.2 })

pub returns-in-Some-clause-takes : goal.returns-in-Some-clause-takes
returns-in-Some-clause-takes c =
    let is : c.in_ok-noted.field-0 ≡ Some c.in-Some.noted = cc in
    let did = subst (λ (o : Option Noted). TakesTold c.args.self.now.setting c.args.from c.args.kernel c.args.what.now o c.args.self.now.nodes.nodes.items c.take_told.new.self.nodes.items) is (c.in_ok-noted.ensures c.args.self.now.setting c.requires.nodes) in
    let first = first-kept c.args.what.now ((kept_of c.args.self.now).world.packets c.args.from c.args.kernel) did.1 in
    record {
      first = record { there = did.0; packet = first.0; first = first.1; told = first.2 };
      after = kept-on (Takes c.args.kernel c.args.from) c.take_told.new.self c.in-Some.noted c.args.self.now c.note.new.self
          (record { setting = c.note.ensures.setting; nodes = c.note.ensures.nodes; service = c.note.ensures.service; latest = c.note.ensures.latest; due = c.note.ensures.due; happened = did.2 });
    }

pub returns-in-None-clause-takes : goal.returns-in-None-clause-takes
returns-in-None-clause-takes c =
    let is : c.in_ok-noted.field-0 ≡ None = cc in
    takes-none (kept_of c.args.self.now) c.args.from c.args.kernel c.args.what.now
    (subst (λ (o : Option Noted). TakesTold c.args.self.now.setting c.args.from c.args.kernel c.args.what.now o c.args.self.now.nodes.nodes.items c.take_told.new.self.nodes.items) is (c.in_ok-noted.ensures c.args.self.now.setting c.requires.nodes))
