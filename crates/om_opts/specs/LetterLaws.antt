-- What holds of the options of every string of letters.
use Rattle.std.specs.Prelude.{◌≡◌, ℕ, ◌*◌, ◌≤◌, ◌==◌, min, Bool, true, false, if◌then◌else◌, List, [], ◌∷◌, fold}
use Rattle.std.proofs.Common.{refl, arith}
use Rattle.om_opts.specs.declared.options.Opts.{Opts}
use Rattle.om_opts.specs.Letters.{start, more_junk, less_junk, more_cache, less_cache, more_pools, less_pools, strict, lax, effect, opt_of, IsWithin}

either : (test : Bool) (this other : Opts) → IsWithin this → IsWithin other → IsWithin (if test then this else other)
either test this other left right = elim test as (λ t. IsWithin (if t then this else other)) [ true ↦ left | false ↦ right ]

-- a letter that sets flags alone
flags : (before after : Opts) → IsWithin before → after.junk ≡ before.junk → after.cache ≡ before.cache → after.pools ≡ before.pools → IsWithin after
flags before after within junk cache pools = record { junk = omega arith; cache = omega arith; least_pools = omega arith; most_pools = omega arith }

doubled : (cache : ℕ) → (if cache == 0 then 1 else min (2 * cache) 256) ≤ 256
doubled cache = grind arith

more_junk-within : (opts : Opts) → IsWithin opts → IsWithin (more_junk opts)
more_junk-within opts within = record { junk = omega arith; cache = within.cache; least_pools = within.least_pools; most_pools = within.most_pools }

less_junk-within : (opts : Opts) → IsWithin opts → IsWithin (less_junk opts)
less_junk-within opts within = record { junk = omega arith; cache = within.cache; least_pools = within.least_pools; most_pools = within.most_pools }

more_cache-within : (opts : Opts) → IsWithin opts → IsWithin (more_cache opts)
more_cache-within opts within = record { junk = within.junk; cache = doubled opts.cache; least_pools = within.least_pools; most_pools = within.most_pools }

less_cache-within : (opts : Opts) → IsWithin opts → IsWithin (less_cache opts)
less_cache-within opts within = record { junk = within.junk; cache = omega arith; least_pools = within.least_pools; most_pools = within.most_pools }

more_pools-within : (opts : Opts) → IsWithin opts → IsWithin (more_pools opts)
more_pools-within opts within = record { junk = within.junk; cache = within.cache; least_pools = omega arith; most_pools = omega arith }

less_pools-within : (opts : Opts) → IsWithin opts → IsWithin (less_pools opts)
less_pools-within opts within = record { junk = within.junk; cache = within.cache; least_pools = omega arith; most_pools = omega arith }

strict-within : (opts : Opts) → IsWithin opts → IsWithin (strict opts)
strict-within opts within = record { junk = omega arith; cache = omega arith; least_pools = within.least_pools; most_pools = within.most_pools }

lax-within : (opts : Opts) → IsWithin opts → IsWithin (lax opts)
lax-within opts within = record { junk = omega arith; cache = omega arith; least_pools = within.least_pools; most_pools = within.most_pools }

-- each byte keeps the levels within their bounds
pub effect-within : (byte : ℕ) (opts : Opts) → IsWithin opts → IsWithin (effect byte opts)
unfolding effect
effect-within byte opts within =
    either (byte == 67) _ _ (flags opts _ within refl refl refl)
    (either (byte == 99) _ _ (flags opts _ within refl refl refl)
    (either (byte == 70) _ _ (flags opts _ within refl refl refl)
    (either (byte == 102) _ _ (flags opts _ within refl refl refl)
    (either (byte == 71) _ _ (flags opts _ within refl refl refl)
    (either (byte == 103) _ _ (flags opts _ within refl refl refl)
    (either (byte == 82) _ _ (flags opts _ within refl refl refl)
    (either (byte == 114) _ _ (flags opts _ within refl refl refl)
    (either (byte == 85) _ _ (flags opts _ within refl refl refl)
    (either (byte == 117) _ _ (flags opts _ within refl refl refl)
    (either (byte == 88) _ _ (flags opts _ within refl refl refl)
    (either (byte == 120) _ _ (flags opts _ within refl refl refl)
    (either (byte == 68) _ _ (flags opts _ within refl refl refl)
    (either (byte == 100) _ _ (flags opts _ within refl refl refl)
    (either (byte == 74) _ _ (more_junk-within opts within)
    (either (byte == 106) _ _ (less_junk-within opts within)
    (either (byte == 62) _ _ (more_cache-within opts within)
    (either (byte == 60) _ _ (less_cache-within opts within)
    (either (byte == 43) _ _ (more_pools-within opts within)
    (either (byte == 45) _ _ (less_pools-within opts within)
    (either (byte == 83) _ _ (strict-within opts within)
    (either (byte == 115) _ _ (lax-within opts within)
    within)))))))))))))))))))))

from-within : (opts : Opts) (letters : List ℕ) → IsWithin opts → IsWithin (fold (λ before byte. effect byte before) opts letters)
from-within opts [] within = within
from-within opts (byte ∷ letters) within = from-within (effect byte opts) letters (effect-within byte opts within)

-- so every string does
pub opt_of-within : (letters : List ℕ) → IsWithin (opt_of letters)
opt_of-within letters = from-within start letters (record { junk = omega arith; cache = omega arith; least_pools = omega arith; most_pools = omega arith })
