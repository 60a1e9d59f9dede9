-- At each place of a lawful journal the state is sound, and so well formed.
use Rattle.std.proofs.Common.{ℕ, Bool, true, false, ◌&&◌, ◌==◌, List, [], ◌∷◌, ◌++◌, Option, Some, None, is_some, refl, subst, append-nil, sym}
use Rattle.om_model.specs.Pool.Rules.{Rules}
use Rattle.om_model.specs.Pool.State.{State, opening}
use Rattle.om_model.specs.Pool.Steps.{Answers, Step}
use Rattle.om_model.specs.Pool.Product.{product}
use Rattle.om_model.specs.Pool.Realloc.{realloc, reallocarray}
use Rattle.om_model.specs.Pool.Journal.{wish_of, step_unless, step_of, MayAnswer, next_of, after, state_from, state_of, IsLawfulFrom, IsLawful, IsLawfulEntry, answers_of}
use Rattle.om_model.specs.Pool.Access.{barred, load_unless, store_unless}
use Rattle.om_model.specs.Pool.WellFormed.{IsWellFormed}
use Rattle.om_model.specs.declared.entry.Entry.{Entry}
use Rattle.om_model.specs.declared.entry.Entry.TheVariants.{Call, Phase}
use Rattle.om_model.specs.declared.operation.Op.{Op}
use Rattle.om_model.specs.declared.reply.Reply.{Reply}
use Rattle.om_model.specs.declared.operation.Op.TheVariants.{Malloc, Calloc, Realloc, Reallocarray, Free, Load, Store}
use Rattle.om_model.proofs.Sound.{IsSound, well-formed}
use Rattle.om_model.proofs.Bytes.{opening-pages, opening-bytes, written-sound}
use Rattle.om_model.proofs.Malloc.{malloc-sound, calloc-sound}
use Rattle.om_model.proofs.Free.{free-sound}
use Rattle.om_model.proofs.Realloc.{realloc-sound, reallocarray-sound}

load-sound : (rules : Rules) (state : State) (address : ℕ) (bar : Option Reply) → IsSound rules state → IsSound rules ((load_unless state address bar).next)
load-sound rules state address (Some reply) is = is
load-sound rules state address None is = is

pub store-sound : (rules : Rules) (state : State) (address byte : ℕ) (bar : Option Reply) → IsSound rules state → IsSound rules ((store_unless state address byte bar).next)
store-sound rules state address byte (Some reply) is = is
store-sound rules state address byte None is = written-sound rules state is address byte

unless-sound : (rules : Rules) (state : State) (as_malloc : Bool) (step : Step) → IsSound rules state → IsSound rules step.next → IsSound rules (next_of state (step_unless as_malloc step))
unless-sound rules state true step is next = is
unless-sound rules state false step is next = next

-- an operation that is entered as another leaves the state as it is
op-sound : (rules : Rules) (state : State) (op : Op) (answers : Answers) → MayAnswer rules state (wish_of rules state op) answers → IsSound rules state → IsSound rules (next_of state (step_of rules state op answers))
op-sound rules state (Malloc size site) answers may is = malloc-sound rules size state site answers may is
op-sound rules state (Free address) answers may is = free-sound rules state is address
op-sound rules state (Calloc count size site) answers may is = calloc-sound rules state count size site answers may is
op-sound rules state (Realloc address size site) answers may is =
    unless-sound rules state (address == 0) (realloc rules state address size site answers) is (realloc-sound rules state is address size site answers may)
op-sound rules state (Reallocarray address count size site) answers may is =
    unless-sound rules state ((address == 0) && is_some (product count size)) (reallocarray rules state address count size site answers) is (reallocarray-sound rules state is address count size site answers may)
op-sound rules state (Load address) answers may is = load-sound rules state address (barred rules state address) is
op-sound rules state (Store address byte) answers may is = store-sound rules state address byte (barred rules state address) is

entry-sound : (rules : Rules) (state : State) (entry : Entry) → IsLawfulEntry rules state entry → IsSound rules state → IsSound rules (after rules state entry)
entry-sound rules state (Call entry) lawful is = op-sound rules state entry.op (answers_of entry) lawful.zones is
entry-sound rules state (Phase number) lawful is = is

from-sound : (rules : Rules) (state : State) (before rest : List Entry) → IsLawfulFrom rules state (before ++ rest) → IsSound rules state → IsSound rules (state_from rules state before)
from-sound rules state [] rest lawful is = is
from-sound rules state (entry ∷ before) rest lawful is = from-sound rules (after rules state entry) before rest lawful.1 (entry-sound rules state entry lawful.0 is)

opening-sound : (rules : Rules) → IsSound rules (opening rules)
opening-sound rules = record {
  slots = refl;
  zoned = tt;
  ascends = tt;
  arena = tt;
  pages = opening-pages rules;
  bytes = opening-bytes rules;
  sound = record { placed = tt; together = tt };
}

before-sound : (rules : Rules) (before rest : List Entry) → IsLawful rules (before ++ rest) → IsSound rules (state_of rules before)
before-sound rules before rest lawful = from-sound rules (opening rules) before rest lawful.calls (opening-sound rules)

-- the state that a lawful journal leaves
pub lawful-sound : (rules : Rules) (entries : List Entry) → IsLawful rules entries → IsSound rules (state_of rules entries)
lawful-sound rules entries lawful = before-sound rules entries [] (subst (IsLawful rules) (sym (append-nil entries)) lawful)

pub state_of-well_formed : (rules : Rules) (before rest : List Entry) → IsLawful rules (before ++ rest) → IsWellFormed rules (state_of rules before)
state_of-well_formed rules before rest lawful = well-formed rules (state_of rules before) (before-sound rules before rest lawful)
