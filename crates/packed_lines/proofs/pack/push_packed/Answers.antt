use Rattle.std.proofs.Common.{◌≡◌, ◌∙◌, ℕ, ◌<◌, List, ◌++◌, length, ap, sym, arith}
use Rattle.charlotte_text.proofs.Bytes.{is_left}
use Rattle.packed_lines.specs.Packed.{packed, piece_packed}
use Rattle.packed_lines.specs.declared.piece.Piece.{Piece}
use Rattle.packed_lines.proofs.Packed.{at-end, moved-on, packed-first, packed-nil}
use Rattle.packed_lines.proofs.pack.push_packed.Goals as goal

pub loop-rest-preserved : goal.loop-rest-preserved
loop-rest-preserved c =
    let some : 0 < length c.loop-rest.rest.now = is_left (length c.loop-rest.rest.now) c.is_empty.result c.is_empty.ensures c.loop-rest-test.true in
    let first : packed c.loop-rest.rest.now ≡ piece_packed c.first_piece.result.0 ++ packed c.first_piece.result.1.now =
    packed-first c.loop-rest.rest.now some ∙ ap (λ (x : Piece × List ℕ). piece_packed x.0 ++ packed x.1) (sym c.first_piece.ensures.exact) in
    let room = c.loop-rest.invariant.1 in
    let shorter = c.first_piece.ensures.shorter some in (
      moved-on packed c.loop-rest.out.items c.push_piece.new.out.items (piece_packed c.first_piece.result.0) c.loop-rest.rest.now c.first_piece.result.1.now (c.args.out.now.items ++ packed c.args.text.now) c.push_piece.ensures.items first c.loop-rest.invariant.0,
      omega (arith, room, shorter, c.push_piece.ensures.len, c.push_piece.ensures.capacity),
    )

pub returns : goal.returns
returns c = at-end packed c.loop-rest.out.items c.loop-rest.rest.now (c.args.out.now.items ++ packed c.args.text.now) c.is_empty.result packed-nil c.is_empty.ensures c.loop-rest-test.false c.loop-rest.invariant.0
