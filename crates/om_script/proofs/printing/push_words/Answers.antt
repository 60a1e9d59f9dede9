use Rattle.std.proofs.Common.{◌<◌, length, arith}
use Rattle.om_script.specs.Parts.{part_word}
use Rattle.om_script.proofs.PrintedParts.{words_step}
use Rattle.om_script.proofs.printing.push_words.Goals as goal

pub loop-part-preserved : goal.loop-part-preserved
loop-part-preserved c =
    let more : c.loop-part.part-index < length c.args.parts.now = omega arith in
    words_step (part_word c.args.script.now.names) c.args.parts.now c.loop-part.part-index _ c.args.out.now.items c.args.keyword.now c.loop-part.out.items c.push.new.self.items c.push_part.new.out.items
    c.in_ok-push.ensures.items c.in_ok-push_part.ensures more c.loop-part.invariant
