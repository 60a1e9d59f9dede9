use Rattle.std.proofs.Common.{◌≡◌, ◌<◌, false, not, All, List, length, sym, subst, ap, ◌∙◌, arith}
use Rattle.om_frame.specs.FrameLaws.{All-zero_frames}
use Rattle.om_frame.specs.Frames.{PageBytes}
use Rattle.om_frame.specs.Memory.{is_held}
use Rattle.om_pool.proofs.holdings.Holdings.add_pages.Goals as goal

pub add-requires-clause-there : goal.add-requires-clause-there
add-requires-clause-there c =
    let own = c.args.self.now in
    let There : PageBytes → Type 0 = λ frame. frame.page < length own.shelf in
    let Each : List PageBytes → Type 0 = λ frames. All There frames in
    subst Each (sym c.requires.frames)
    (All-zero_frames There c.args.first.0 c.args.n (λ page low high. let there = (c.requires.new page low high).0 in omega (arith, c.requires.tied.pages_all, c.requires.tied.memory_all)))

pub add-requires-clause-new : goal.add-requires-clause-new
add-requires-clause-new c =
    let own = c.args.self.now in
    let New : PageBytes → Type 0 = λ frame. is_held own.shelf frame.page ≡ false in
    let Each : List PageBytes → Type 0 = λ frames. All New frames in
    subst Each (sym c.requires.frames) (All-zero_frames New c.args.first.0 c.args.n (λ page low high. c.requires.tied.memory page ∙ ap not (c.requires.new page low high).1))
