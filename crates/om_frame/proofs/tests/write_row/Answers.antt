use Rattle.std.proofs.Common.{take, ◌∙◌}
use Rattle.om_frame.specs.MemoryLaws.{is_held_at-with_bytes}
use Rattle.om_frame.proofs.tests.write_row.Goals as goal

pub returns : goal.returns
returns c address low high = is_held_at-with_bytes c.args.shelf.now 69642 (take 4086 c.copy_from_slice.new.self) address ∙ c.requires address low high
