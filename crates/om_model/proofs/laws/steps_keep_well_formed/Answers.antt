use Rattle.om_model.proofs.Kept.{malloc-kept, calloc-kept, realloc-kept, reallocarray-kept, free-kept, store-kept}
use Rattle.om_model.proofs.laws.steps_keep_well_formed.Goals as goal

pub returns : goal.returns
returns c = record { malloc = malloc-kept; calloc = calloc-kept; realloc = realloc-kept; reallocarray = reallocarray-kept; free = free-kept; store = store-kept }
