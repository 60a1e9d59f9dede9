use Rattle.std.proofs.Common.{◌≡◌, ℕ, ◌<◌, List, length, drop, get_or, false, sym, subst, ◌∙◌, ap}
use Rattle.om_frame.specs.Frames.{PageBytes, with_frames}
use Rattle.om_frame.specs.Memory.{is_held}
use Rattle.om_broker.proofs.HomeLaws.{others-lack}
use Rattle.om_broker.proofs.home.take_home.Goals as goal

pub add-requires-2-clause-new : goal.add-requires-2-clause-new
add-requires-2-clause-new c =
    let home = c.add.ensures ∙ ap (with_frames c.args.home.now) c.split_first-first.ensures.first in
    let Lacks : List PageBytes → Type 0 = λ others. (k : ℕ) (d : PageBytes) → k < length others → is_held c.add.new.self (get_or others k d).page ≡ false in
    let Home : List (List ℕ) → Type 0 = λ memory. (k : ℕ) (d : PageBytes) → k < length (drop 1 c.args.frames) → is_held memory (get_or (drop 1 c.args.frames) k d).page ≡ false in
    subst Lacks (sym c.split_first-first.ensures.others) (subst Home (sym home) (others-lack c.args.home.now c.args.frames c.requires.zeros c.requires.new))
