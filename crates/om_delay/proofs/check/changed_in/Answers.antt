use Rattle.std.proofs.Common.{arith}
use Rattle.om_delay.proofs.HeldParts.{held_len}
use Rattle.om_delay.proofs.check.changed_in.Goals as goal

pub overflow_cast-extent : goal.overflow_cast-extent
overflow_cast-extent c =
    let few = held_len c.args.shelf.now c.args.extent.first c.args.extent.len c.fits.ensures.few c.requires in
    record { fits = omega arith }
