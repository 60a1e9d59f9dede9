use Rattle.std.proofs.Common.{◌∙◌}
use Rattle.om_chunk.proofs.PageLaws.{set-freed_by}
use Rattle.om_chunk.proofs.pages.ChunkPages.set_free.Goals as goal

pub returns-clause-pages : goal.returns-clause-pages
returns-clause-pages c =
    c.drop_unused.ensures.pages
    ∙ set-freed_by c.args.self.now.pages c.set.new.self.pages c.args.addr.0 c.page_at.result c.set.ensures.pages c.page_at.ensures c.requires
