use Rattle.std.proofs.Common.{◌≡◌, ℕ, ◌++◌, ap, subst, sym, ◌∙◌, arith}
use Rattle.kernel_net.specs.Ports.{put_to}
use Rattle.kernel_outbox.specs.Letters.{MayAllBePut, letters_for, outbox_to, waiting_to}
use Rattle.kernel_outbox.proofs.Putting.{both-fewer, both-less, both-letters, may-front, may-rest-of, same-more, some-more}
use Rattle.kernel_outbox.proofs.outbox.Outbox.put.Goals as goal

pub put_waiting-waited-requires-clause-lists : goal.put_waiting-waited-requires-clause-lists
put_waiting-waited-requires-clause-lists c = (c.requires.lists, omega (arith, c.requires.lists, c.kernels-kernels.ensures.number, c.kernels-kernels.ensures.most))

pub put_waiting-waited-requires-clause-letters : goal.put_waiting-waited-requires-clause-letters
put_waiting-waited-requires-clause-letters c q = may-front (put_to c.args.port.now q) (waiting_to c.args.self.now q) (letters_for q c.args.self.now.unsent.items) (c.requires.letters q)

pub put_unsent-requires-clause-letters : goal.put_unsent-requires-clause-letters
put_unsent-requires-clause-letters c q =
    let mid = c.put_waiting-waited.new in
    let flushed = c.put_waiting-waited.ensures.flushed in
    subst (λ u. MayAllBePut (put_to mid.port q) (waiting_to mid.self q ++ letters_for q u.items)) (sym c.put_waiting-waited.ensures.unsent)
    (may-rest-of (waiting_to c.args.self.now) (waiting_to mid.self) (λ n. letters_for n c.args.self.now.unsent.items) (put_to c.args.port.now) (put_to mid.port)
    flushed.letters flushed.fewer c.requires.letters q)

pub returns-clause-flushed : goal.returns-clause-flushed
returns-clause-flushed c =
    let mid = c.put_waiting-waited.new in
    let first = c.put_waiting-waited.ensures.flushed in
    let second = c.in_ok-sent.ensures.flushed in
    let unsent : (q : ℕ) → letters_for q c.put_waiting-waited.new.self.unsent.items ≡ letters_for q c.args.self.now.unsent.items = λ q. ap (λ u. letters_for q u.items) c.put_waiting-waited.ensures.unsent in
    record {
      letters = λ q. second.letters q ∙ both-letters (put_to c.args.port.now q) (put_to mid.port q) (waiting_to c.args.self.now q) (waiting_to mid.self q) _ _ (first.letters q) (unsent q);
      fewer = λ q. omega (arith, second.fewer q, both-fewer (waiting_to c.args.self.now q) (waiting_to mid.self q) _ _ (first.fewer q) (unsent q));
      full = second.full;
      into = second.into ∙ first.into;
      place = second.place ∙ first.place;
    }

pub returns-clause-some : goal.returns-clause-some
returns-clause-some c =
    let mid = c.put_waiting-waited.new in
    let first = c.put_waiting-waited.ensures.flushed in
    let second = c.in_ok-sent.ensures.flushed in
    let unsent : (q : ℕ) → letters_for q c.put_waiting-waited.new.self.unsent.items ≡ letters_for q c.args.self.now.unsent.items = λ q. ap (λ u. letters_for q u.items) c.put_waiting-waited.ensures.unsent in
    some-more c.put_waiting-waited.result c.in_ok-sent.sent c.either.result (outbox_to c.args.self.now) (outbox_to mid.self) (outbox_to c.put_unsent.new.self) c.either.ensures
    (λ e. let p = c.put_waiting-waited.ensures.some e in (p.0, both-less (waiting_to c.args.self.now p.0) (waiting_to mid.self p.0) _ _ p.1 (unsent p.0)))
    c.in_ok-sent.ensures.some
    (λ q. both-fewer (waiting_to c.args.self.now q) (waiting_to mid.self q) _ _ (first.fewer q) (unsent q))
    second.fewer

pub returns-clause-port : goal.returns-clause-port
returns-clause-port c =
    same-more c.put_waiting-waited.result c.in_ok-sent.sent c.either.result c.args.port.now c.put_waiting-waited.new.port c.put_unsent.new.port c.either.ensures
    c.put_waiting-waited.ensures.port c.in_ok-sent.ensures.port
