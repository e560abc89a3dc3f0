use Rattle.std.proofs.Common.{◌≡◌, false, sym}
use Rattle.end_protocol.specs.Going.{settled}
use Rattle.process_run.specs.States.{Keeps, Gone}
use Rattle.process_run.specs.Ends.{with_holding}
use Rattle.process_ends.proofs.Noting.{noted_grown, noted_gone, noted_settled, noted_so, put_back, settled_back, calm_back}
use Rattle.process_ends.proofs.Numbering.{numbers_changed}
use Rattle.process_ends.proofs.board.Board.settle_kept.Goals as goal

pub returns-in_err-add-clause-noted : goal.returns-in_err-add-clause-noted
returns-in_err-add-clause-noted c = noted_grown _ _ _ _ _ _ _ _ c.requires.noted (λ m is. is) (λ m is. is) c.add.ensures.grows

pub returns-in_err-kept-clause-noted : goal.returns-in_err-kept-clause-noted
returns-in_err-kept-clause-noted c =
    noted_so _ _ _ _ _ _
    (noted_gone _ _ _ _ _ _ _ _ (noted_grown _ _ _ _ _ _ _ _ c.requires.noted (λ m is. is) (λ m is. is) c.add.ensures.grows) (λ m apart is. is))
    c.exchange.ensures.left

pub returns-in_err-kept-clause-numbers : goal.returns-in_err-kept-clause-numbers
returns-in_err-kept-clause-numbers c = numbers_changed _ _ c.args.number (Gone false) c.exchange.ensures.left

back : (c : goal.Joined-exchange-2) → c.exchange-2.new.self ≡ with_holding c.args.number (Keeps (settled c.args.self.now.room c.in-Some.kept.value)) c.args.self.now.roster
back c =
    put_back c.args.self.now.roster c.exchange.new.self c.exchange-2.new.self c.args.number c.in-Some.kept.value c.in_ok-kept.kept.value c.args.self.now.room
    c.exchange.ensures.left c.exchange-2.ensures.left c.in_ok-kept.ensures

pub returns-clause-noted : goal.returns-clause-noted
returns-clause-noted c =
    noted_so _ _ _ _ _ _
    (noted_settled _ c.args.number c.in-Some.kept.value _ _ _ _ _ c.requires.noted (sym c.in-Some.ensures.kept) c.add.ensures.grows c.in_ok-add.ensures.added) (back c)

pub returns-clause-settled : goal.returns-clause-settled
returns-clause-settled c = settled_back c.args.self.now.roster _ c.args.number c.in-Some.kept.value c.args.self.now.room (back c) (sym c.in-Some.ensures.kept)

pub returns-clause-numbers : goal.returns-clause-numbers
returns-clause-numbers c = numbers_changed _ _ c.args.number (Keeps (settled c.args.self.now.room c.in-Some.kept.value)) (back c)

pub returns-clause-calm : goal.returns-clause-calm
returns-clause-calm c = calm_back c.args.self.now.roster c.exchange-2.new.self c.args.number c.in-Some.kept.value c.args.self.now.room (back c)
