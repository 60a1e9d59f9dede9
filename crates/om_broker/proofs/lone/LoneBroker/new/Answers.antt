use Rattle.om_broker.proofs.LoneLaws.{new-lone}
use Rattle.om_broker.proofs.lone.LoneBroker.new.Goals as goal

pub invariant_of-result : goal.invariant_of-result
invariant_of-result c = new-lone _ _ c.args.zones c.requires.some c.requires.few c.in_ok-new.ensures.bits c.in_ok-new.ensures.versions c.in_ok-all_frames.ensures
