use Rattle.std.proofs.Common.{◌+◌, List, ℕ, ap, ◌∙◌, arith}
use Rattle.om_frame.specs.Memory.{is_held_at}
use Rattle.om_frame.specs.MemoryLaws.{is_held_at-copied, held_at-high}
use Rattle.om_frame.proofs.Copies.{copied-part}
use Rattle.om_frame.proofs.shelf.Shelf.copy.Goals as goal

pub overflow_add-source : goal.overflow_add-source
overflow_add-source c =
    let high = held_at-high c.args.self.now (c.args.from.0 + c.loop-done.done) c.fits.ensures.few (c.requires.source (c.args.from.0 + c.loop-done.done) (omega arith) (omega arith)) in
    omega arith

pub copy_part-requires-clause-source : goal.copy_part-requires-clause-source
copy_part-requires-clause-source c address low high =
    ap (λ (m : List (List ℕ)). is_held_at m address) c.loop-done.invariant.copied
    ∙ is_held_at-copied c.args.self.now c.args.from.0 c.args.to.0 c.loop-done.done address
    ∙ c.requires.source address (omega arith) (omega arith)

pub copy_part-requires-clause-target : goal.copy_part-requires-clause-target
copy_part-requires-clause-target c address low high =
    ap (λ (m : List (List ℕ)). is_held_at m address) c.loop-done.invariant.copied
    ∙ is_held_at-copied c.args.self.now c.args.from.0 c.args.to.0 c.loop-done.done address
    ∙ c.requires.target address (omega arith) (omega arith)

pub loop-done-preserved : goal.loop-done-preserved
loop-done-preserved c = record {
  copied = c.copy_part.ensures
      ∙ copied-part c.args.self.now c.loop-done.self c.args.from.0 c.args.to.0 c.args.len c.loop-done.done c.from.result c.from-in-loop-done.result c.piece_len-piece.result
      c.requires.source c.requires.target c.requires.apart c.loop-done.invariant.copied c.from.ensures c.from-in-loop-done.ensures c.piece_len-piece.ensures.some (omega arith);
  within = omega arith;
}
