use Rattle.std.proofs.Common.{◌≡◌, ◌+◌, ℕ, length, None, not, sym, ap, ◌∙◌, arith}
use Rattle.std.specs.Prelude.{◌==◌, option_map, Some}
use Rattle.std.specs.List.{position_from}
use Rattle.std.proofs.lemmas.List.FromFn.{length-map-range_with_len}
use Rattle.om_frame.specs.Memory.{byte_at, first_other}
use Rattle.om_frame.specs.MemoryLaws.{first_other-more, first_other-found, held_at-high}
use Rattle.om_frame.proofs.shelf.Shelf.all_equal.Goals as goal

pub overflow_add-here : goal.overflow_add-here
overflow_add-here c =
    let high = held_at-high c.args.self.now (c.args.at.0 + c.loop-done.done) c.fits.ensures.few (c.requires (c.args.at.0 + c.loop-done.done) (omega arith) (omega arith)) in
    omega arith

pub overflow_cast-result : goal.overflow_cast-result
overflow_cast-result c =
    let long = ap length c.part.ensures ∙ length-map-range_with_len (byte_at c.args.self.now) (c.args.at.0 + c.from.result) c.piece_len-piece.result in
    let within = c.in-Some.ensures.within in
    record { fits = omega arith }

pub overflow_add-result : goal.overflow_add-result
overflow_add-result c =
    let long = ap length c.part.ensures ∙ length-map-range_with_len (byte_at c.args.self.now) (c.args.at.0 + c.from.result) c.piece_len-piece.result in
    let within = c.in-Some.ensures.within in
    record { fits = omega arith }

pub returns-in-Some : goal.returns-in-Some
returns-in-Some c =
    let here : first_other c.args.self.now (c.args.at.0 + c.loop-done.done) c.piece_len-piece.result c.args.byte ≡ Some c.in-Some.offset =
    ap (λ (n : ℕ). first_other c.args.self.now (c.args.at.0 + n) c.piece_len-piece.result c.args.byte) (sym c.from.ensures)
    ∙ ap (position_from (λ (other : ℕ). not (other == c.args.byte)) 0) (sym c.part.ensures)
    ∙ sym c.in-Some.ensures.value in
    sym (first_other-found c.args.self.now c.args.at.0 c.loop-done.done c.piece_len-piece.result c.args.len c.args.byte c.in-Some.offset c.loop-done.invariant.equal here (omega arith))

pub loop-done-preserved : goal.loop-done-preserved
loop-done-preserved c =
    let here : first_other c.args.self.now (c.args.at.0 + c.loop-done.done) c.piece_len-piece.result c.args.byte ≡ None =
    ap (λ (n : ℕ). first_other c.args.self.now (c.args.at.0 + n) c.piece_len-piece.result c.args.byte) (sym c.from.ensures)
    ∙ ap (position_from (λ (other : ℕ). not (other == c.args.byte)) 0) (sym c.part.ensures)
    ∙ sym c.first_other_in.ensures.value ∙ c.in_default.is in
    record {
      equal = first_other-more c.args.self.now c.args.at.0 c.loop-done.done c.piece_len-piece.result c.args.byte c.loop-done.invariant.equal ∙ ap (option_map (λ (k : ℕ). c.loop-done.done + k)) here;
      within = omega arith;
    }
