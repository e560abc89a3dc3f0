-- A line that was given is put, or its put fails.
use Rattle.lynx_command.proofs.Puts.{goes_on, stops}
use Rattle.lynx_command.proofs.putting.put_text.Goals as goal

pub loop-line-preserved : goal.loop-line-preserved
loop-line-preserved g c =
    let so_far = c.loop-line.invariant in
    goes_on _ _ _ so_far.0 _ _ _ _ _ so_far.1 so_far.2 (rw c.if-branch.true at c.in_ok-next_line.ensures) c.as_slice.ensures.value c.in_ok-put_line.ensures

pub returns-in_err-put_line : goal.returns-in_err-put_line
returns-in_err-put_line g c =
    let so_far = c.loop-line.invariant in
    stops _ _ _ so_far.0 _ _ _ _ _ _ so_far.1 so_far.2 (rw c.if-branch.true at c.in_ok-next_line.ensures) c.as_slice.ensures.value c.in_err-put_line.ensures c.from_residual-in_err-put_line.ensures.1
