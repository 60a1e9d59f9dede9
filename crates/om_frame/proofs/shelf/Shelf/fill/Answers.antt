use Rattle.std.proofs.Common.{◌+◌, List, ℕ, length, ap, ◌∙◌, arith}
use Rattle.std.proofs.lemmas.List.FromFn.{length-map-range_with_len}
use Rattle.om_frame.specs.Memory.{byte_at, is_held_at}
use Rattle.om_frame.specs.MemoryLaws.{is_held_at-filled, held_at-high}
use Rattle.om_frame.proofs.Shelves.{filled-part}
use Rattle.om_frame.proofs.shelf.Shelf.fill.Goals as goal

pub overflow_add-here : goal.overflow_add-here
overflow_add-here c =
    let high = held_at-high c.args.self.now (c.args.at.0 + c.loop-done.done) c.fits.ensures.few (c.requires (c.args.at.0 + c.loop-done.done) (omega arith) (omega arith)) in
    omega arith

pub part_mut-requires-clause-held : goal.part_mut-requires-clause-held
part_mut-requires-clause-held c address low high =
    ap (λ (m : List (List ℕ)). is_held_at m address) c.loop-done.invariant.filled
    ∙ is_held_at-filled c.args.self.now c.args.at.0 c.loop-done.done c.args.byte address
    ∙ c.requires address (omega arith) (omega arith)

pub loop-done-preserved : goal.loop-done-preserved
loop-done-preserved c = record {
  filled = filled-part c.args.self.now c.loop-done.self c.args.at.0 c.loop-done.done (c.args.at.0 + c.from.result) c.piece_len-piece.result c.args.byte (length c.part_mut.result.now) c.fill.new.self
      c.loop-done.invariant.filled (ap (λ (n : ℕ). c.args.at.0 + n) c.from.ensures) c.piece_len-piece.ensures.some c.piece_len-piece.ensures.one_page (c.fill.ensures.after (λ y same. same))
      (ap length c.part_mut.ensures.bytes ∙ length-map-range_with_len (byte_at c.loop-done.self) (c.args.at.0 + c.from.result) c.piece_len-piece.result);
  within = omega arith;
}
