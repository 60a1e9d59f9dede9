use Rattle.std.proofs.Common.{◌≡◌, Some, map, string_bytes}
use Rattle.omalloc.specs.Arguments.{head_of_arguments}
use Rattle.omalloc.proofs.Heads.{accepted_is_head}
use Rattle.omalloc.proofs.arguments.read_arguments.Goals as goal

pub returns-in-Ok-Some-clause-form : goal.returns-in-Ok-Some-clause-form
returns-in-Ok-Some-clause-form c =
    let found : head_of_arguments (map string_bytes c.args.arguments.now) ≡ Some c.in-Ok-Some.head = cc (c.in-Ok-Some.ensures) in
    accepted_is_head (map string_bytes c.args.arguments.now) c.in-Ok-Some.head found
