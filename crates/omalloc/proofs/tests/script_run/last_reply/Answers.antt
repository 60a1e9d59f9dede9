use Rattle.omalloc.proofs.PlainRun.{last-read}
use Rattle.omalloc.proofs.tests.script_run.last_reply.Goals as goal

pub returns : goal.returns
returns c = let last = last-read c.args.replies.now in cc
