use Rattle.om_pages.specs.Kinds.{is_held}
use Rattle.om_pool.proofs.TableRuns.{all-moved}
use Rattle.om_pool.proofs.holdings.Holdings.set_free.Goals as goal

pub give_run-requires : goal.give_run-requires
give_run-requires c = all-moved is_held c.args.self.now.pages c.page_at.result _ c.page_at.ensures c.requires.held
