use Rattle.std.proofs.Common.{◌≡◌, ◌∙◌, ℕ, ◌<◌, List, ◌++◌, length, ap, sym, arith}
use Rattle.charlotte_text.proofs.Bytes.{is_left}
use Rattle.packed_lines.specs.Packed.{unpacked, piece_text}
use Rattle.packed_lines.specs.declared.piece.Piece.{Piece}
use Rattle.packed_lines.proofs.Packed.{at-end, moved-on, unpacked-first, unpacked-nil}
use Rattle.packed_lines.proofs.unpack.push_unpacked.Goals as goal

pub loop-rest-preserved : goal.loop-rest-preserved
loop-rest-preserved c =
    let some : 0 < length c.loop-rest.rest.now = is_left (length c.loop-rest.rest.now) c.is_empty.result c.is_empty.ensures c.loop-rest-test.true in
    let first : unpacked c.loop-rest.rest.now ≡ piece_text c.first_piece.result.0 ++ unpacked c.first_piece.result.1.now =
    unpacked-first c.loop-rest.rest.now some ∙ ap (λ (x : Piece × List ℕ). piece_text x.0 ++ unpacked x.1) (sym c.first_piece.ensures.exact) in
    let room = c.loop-rest.invariant.1 in
    let shorter = c.first_piece.ensures.shorter some in (
      moved-on unpacked c.loop-rest.out.items c.push_piece.new.out.items (piece_text c.first_piece.result.0) c.loop-rest.rest.now c.first_piece.result.1.now (c.args.out.now.items ++ unpacked c.args.packed.now) c.push_piece.ensures.items first c.loop-rest.invariant.0,
      omega (arith, room, shorter, c.push_piece.ensures.len, c.push_piece.ensures.capacity),
    )

pub returns : goal.returns
returns c = at-end unpacked c.loop-rest.out.items c.loop-rest.rest.now (c.args.out.now.items ++ unpacked c.args.packed.now) c.is_empty.result unpacked-nil c.is_empty.ensures c.loop-rest-test.false c.loop-rest.invariant.0
