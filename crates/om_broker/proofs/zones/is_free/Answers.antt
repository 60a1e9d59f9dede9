use Rattle.std.proofs.lemmas.Bool.{eqb-false}
use Rattle.om_broker.proofs.Runs.{cleared-other}
use Rattle.om_broker.proofs.zones.is_free.Goals as goal

pub returns-clause-held : goal.returns-clause-held
returns-clause-held c = λ no. cleared-other c.args.bits c.clear_run.result c.args.first c.args.n c.ranges.bits.fits c.clear_run.type_inv c.clear_run.ensures.bits (λ same. eqb-false _ _ no same)
