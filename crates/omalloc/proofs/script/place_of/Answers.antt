use Rattle.std.proofs.Common.{◌∙◌, ap, length, unwrap_or, bytes_eq}
use Rattle.omalloc.proofs.Names.{place_in_map}
use Rattle.omalloc.proofs.script.place_of.Goals as goal

pub returns-clause-place : goal.returns-clause-place
returns-clause-place c =
    c.unwrap_or.ensures ∙ ap (λ found. unwrap_or found (length c.args.names.now)) c.find_name.ensures
    ∙ place_in_map (λ n. bytes_eq n c.args.name.now) (λ n. n.items) c.args.names.now
