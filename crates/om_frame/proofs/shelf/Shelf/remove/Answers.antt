use Rattle.std.proofs.Common.{◌+◌, List, ℕ, [], ◌∷◌, ◌++◌, length, set, ap, sym, ◌∙◌, arith}
use Rattle.om_frame.specs.Memory.{is_held}
use Rattle.om_frame.specs.Frames.{PageBytes, zero_frames}
use Rattle.om_frame.specs.FrameLaws.{zero_frames-more, length-zero_frames, next_page-zero_frames, without_pages-more, is_held-without_pages}
use Rattle.om_frame.proofs.shelf.Shelf.remove.Goals as goal

pub take_page-requires : goal.take_page-requires
take_page-requires c =
    ap (λ (m : List (List ℕ)). is_held m (c.args.first.0 + c.loop-i.i)) c.loop-i.invariant.rest
    ∙ is_held-without_pages c.args.self.now c.args.first.0 c.loop-i.i (c.args.first.0 + c.loop-i.i) (omega arith)
    ∙ c.requires.there (c.args.first.0 + c.loop-i.i) (omega arith) (omega arith)

pub push-requires-clause-few : goal.push-requires-clause-few
push-requires-clause-few c = omega (arith, ap length c.loop-i.invariant.frames, length-zero_frames c.args.first.0 c.loop-i.i)

pub push-requires-clause-next : goal.push-requires-clause-next
push-requires-clause-next c = rw (c.loop-i.invariant.frames, c.take_page.ensures.frame) (sym (next_page-zero_frames c.args.first.0 c.loop-i.i))

pub loop-i-preserved : goal.loop-i-preserved
loop-i-preserved c = record {
  frames = c.push.ensures
      ∙ ap (λ (xs : List PageBytes). xs ++ c.take_page.result ∷ []) c.loop-i.invariant.frames
      ∙ ap (λ (frame : PageBytes). zero_frames c.args.first.0 c.loop-i.i ++ frame ∷ []) c.take_page.ensures.frame
      ∙ sym (zero_frames-more c.args.first.0 c.loop-i.i);
  rest = c.take_page.ensures.rest
      ∙ ap (λ (m : List (List ℕ)). set m (c.args.first.0 + c.loop-i.i) []) c.loop-i.invariant.rest
      ∙ sym (without_pages-more c.args.self.now c.args.first.0 c.loop-i.i);
}
