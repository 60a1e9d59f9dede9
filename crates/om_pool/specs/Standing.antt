-- What the code says of an address, and what this means in the terms of the definitions.
use Rattle.std.specs.Prelude.{◌≡◌}
use Rattle.om_model.specs.Pool.Standing as at
use Rattle.om_pool.specs.declared.standing.Standing.{Standing}
use Rattle.om_pool.specs.declared.standing.Standing.TheVariants.{NotHeld, FreePage, PageBlock, InPageBlock, OnGuard, LivePlace, DelayedPlace, FreePlace, Unaligned}

abbrev pub Means : Standing → at.Standing → Type 0
Means NotHeld there = there ≡ at.NotHeld
Means FreePage there = there ≡ at.FreePage
Means (PageBlock block) there = there ≡ at.PageBlock block
Means InPageBlock there = there ≡ at.InPageBlock
Means OnGuard there = there ≡ at.OnGuard
Means (LivePlace place block) there = there ≡ at.LivePlace place block
Means (DelayedPlace place) there = there ≡ at.DelayedPlace place
Means FreePlace there = there ≡ at.FreePlace
Means Unaligned there = there ≡ at.Unaligned
