use Rattle.std.proofs.Common.{◌≤◌, arith}
use Rattle.om_frame.specs.MemoryLaws.{held_at-high}
use Rattle.om_geom.specs.ClassLaws.{class-cases, class_of-is_class, stride-positive}
use Rattle.om_pool.specs.HoldingsView.{rules_in}
use Rattle.om_pool.proofs.holdings.Holdings.behind.Goals as goal

pub overflow_add-result : goal.overflow_add-result
overflow_add-result c =
    let own = c.args.self.now in
    let address = c.args.block.address in
    let class = c.args.class.0 in
    let is_one = class_of-is_class c.args.block.size (rules_in own).options.canary class c.requires.class in
    let some = stride-positive class is_one in
    let high = held_at-high own.shelf address c.fits.ensures.few (c.requires.bytes address (omega arith) (omega arith)) in
    let small : class ≤ 2048 = class-cases (λ n. n ≤ 2048) (omega arith) (omega arith) (omega arith) (omega arith) (omega arith) (omega arith) (omega arith) (omega arith) (omega arith) class is_one in
    omega (arith, high, c.requires.room)
