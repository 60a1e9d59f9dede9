-- Load and store of one byte. An address outside the arena or on a page that isn't held is a miss. No byte of a guard
-- can be touched, and none of a page that is shut: one of blocks of size 0 and, where unmap is on, a free page. On
-- every other held page a load answers the byte, and a store writes it, be it in a block, between blocks, in a delayed
-- place or on a free page.
use Rattle.std.specs.Prelude.{ℕ, ◌==◌, if◌then◌else◌, Option, Some, None}
use Rattle.om_frame.specs.Memory.{byte_at}
use Rattle.om_geom.specs.Addresses.{page_at}
use Rattle.om_model.specs.Pool.InUse.{Kind, Chunk, Pages, Guard, uses, page_kind}
use Rattle.om_model.specs.Pool.Rules.{Rules}
use Rattle.om_model.specs.Pool.State.{State, holds, written}
use Rattle.om_model.specs.Pool.Steps.{Step, unchanged}
use Rattle.om_model.specs.declared.reply.Fault.TheVariants.{Segmentation}
use Rattle.om_model.specs.declared.reply.Reply.{Reply}
use Rattle.om_model.specs.declared.reply.Reply.TheVariants.{Byte, Done, Fault, Miss}
use Rattle.om_model.specs.declared.reply.Segv.TheVariants as segv

pub data PageState : Type 0 where
  Plain : PageState
  Shut : PageState
  Guarding : PageState

-- the state of a held page, by its kind; a free page has no kind
abbrev pub state_by_kind : Rules → Option Kind → PageState
state_by_kind rules (Some (Chunk class)) = if class == 0 then Shut else Plain
state_by_kind rules (Some Pages) = Plain
state_by_kind rules (Some Guard) = Guarding
state_by_kind rules None = if rules.options.unmap then Shut else Plain

abbrev pub page_state : Rules → State → ℕ → PageState
page_state rules state page = state_by_kind rules (page_kind (uses rules state) page)

-- what is answered where a byte of the page can't be touched
abbrev pub bar_of : PageState → Option Reply
bar_of Plain = None
bar_of Shut = Some (Fault (Segmentation segv.Protected))
bar_of Guarding = Some (Fault (Segmentation segv.Guard))

-- what is answered where the byte at the address can't be touched; none where it can
abbrev pub barred : Rules → State → ℕ → Option Reply
barred rules state address = if holds rules state address then bar_of (page_state rules state (page_at address)) else Some Miss

abbrev pub load_unless : State → ℕ → Option Reply → Step
load_unless state address (Some bar) = unchanged state bar
load_unless state address None = unchanged state (Byte (byte_at state.memory address))

abbrev pub load : Rules → State → ℕ → Step
load rules state address = load_unless state address (barred rules state address)

abbrev pub store_unless : State → ℕ → ℕ → Option Reply → Step
store_unless state address byte (Some bar) = unchanged state bar
store_unless state address byte None = record { reply = Done; words = 0; release = None; next = written address byte state }

abbrev pub store : Rules → State → ℕ → ℕ → Step
store rules state address byte = store_unless state address byte (barred rules state address)
