-- Option letters. The bytes of a string act on the options one by one, from left to right. A byte without
-- an effect changes nothing and is warned of, as often as it comes.
use Rattle.std.specs.Prelude.{ℕ, ◌+◌, ◌-◌, ◌*◌, ◌/◌, ◌≤◌, min, max, Bool, true, false, not, if◌then◌else◌, ◌==◌, nat_eq, List, fold, filter, codes}
use Rattle.std.specs.List.{list_any}
use Rattle.om_opts.specs.declared.options.Opts.{Opts}

-- the options where no letter is given
abbrev pub start : Opts
start = record {
  canary = false;
  freecheck = false;
  guard = false;
  always_move = false;
  unmap = false;
  xmalloc = false;
  dump = false;
  junk = 1;
  cache = 64;
  pools = 8;
}

-- C and c: canaries on, off
abbrev pub with_canary : Bool → Opts → Opts
with_canary on opts = record opts { canary = on }

-- F and f: freed blocks are checked and free pages unmapped, both or neither
abbrev pub with_freecheck : Bool → Opts → Opts
with_freecheck on opts = record opts { freecheck = on; unmap = on }

-- G and g: guard pages on, off
abbrev pub with_guard : Bool → Opts → Opts
with_guard on opts = record opts { guard = on }

-- J: the junk level rises, to 2 at most
abbrev pub more_junk : Opts → Opts
more_junk opts = record opts { junk = min (opts.junk + 1) 2 }

-- j: the junk level falls, and stays 0 at 0
abbrev pub less_junk : Opts → Opts
less_junk opts = record opts { junk = opts.junk - 1 }

-- >: the cache doubles, from 0 to 1, and to 256 at most
abbrev pub more_cache : Opts → Opts
more_cache opts = record opts { cache = if opts.cache == 0 then 1 else min (2 * opts.cache) 256 }

-- <: the cache halves
abbrev pub less_cache : Opts → Opts
less_cache opts = record opts { cache = opts.cache / 2 }

-- +: the pools double, to 32 at most
abbrev pub more_pools : Opts → Opts
more_pools opts = record opts { pools = min (2 * opts.pools) 32 }

-- -: the pools halve, to 2 at least
abbrev pub less_pools : Opts → Opts
less_pools opts = record opts { pools = max (opts.pools / 2) 2 }

-- S: C, then F, then G, then J, and no cache
abbrev pub strict : Opts → Opts
strict opts = record (more_junk (with_guard true (with_freecheck true (with_canary true opts)))) { cache = 0 }

-- s: c, then f, then g, then j, and the cache of the start
abbrev pub lax : Opts → Opts
lax opts = record (less_junk (with_guard false (with_freecheck false (with_canary false opts)))) { cache = 64 }

-- the options after one byte, by its code
unfoldable pub effect : ℕ → Opts → Opts
effect byte opts =
    if byte == 67 then with_canary true opts  -- C
    else if byte == 99 then with_canary false opts  -- c
    else if byte == 70 then with_freecheck true opts  -- F
    else if byte == 102 then with_freecheck false opts  -- f
    else if byte == 71 then with_guard true opts  -- G
    else if byte == 103 then with_guard false opts  -- g
    else if byte == 82 then record opts { always_move = true }  -- R
    else if byte == 114 then record opts { always_move = false }  -- r
    else if byte == 85 then record opts { unmap = true }  -- U
    else if byte == 117 then record opts { unmap = false }  -- u
    else if byte == 88 then record opts { xmalloc = true }  -- X
    else if byte == 120 then record opts { xmalloc = false }  -- x
    else if byte == 68 then record opts { dump = true }  -- D
    else if byte == 100 then record opts { dump = false }  -- d
    else if byte == 74 then more_junk opts  -- J
    else if byte == 106 then less_junk opts  -- j
    else if byte == 62 then more_cache opts  -- >
    else if byte == 60 then less_cache opts  -- <
    else if byte == 43 then more_pools opts  -- +
    else if byte == 45 then less_pools opts  -- -
    else if byte == 83 then strict opts  -- S
    else if byte == 115 then lax opts  -- s
    else opts

-- the byte is one of the letters
unfoldable pub has_effect : ℕ → Bool
has_effect byte = list_any (nat_eq byte) (codes "CcFfGgRrUuXxDdJj><+-Ss")

-- the options that a string of letters gives
abbrev pub opt_of : List ℕ → Opts
opt_of letters = fold (λ opts byte. effect byte opts) start letters

-- the bytes of a string that are warned of, in order
abbrev pub warned_of : List ℕ → List ℕ
warned_of letters = filter (λ byte. not (has_effect byte)) letters

-- what any string keeps the levels within
pub record IsWithin (opts : Opts) : Type 0 where
  pub junk : opts.junk ≤ 2
  pub cache : opts.cache ≤ 256
  pub least_pools : 2 ≤ opts.pools
  pub most_pools : opts.pools ≤ 32

-- what is read out of a string
pub record Reading : Type 0 where
  pub opts : Opts
  pub warned : List ℕ
