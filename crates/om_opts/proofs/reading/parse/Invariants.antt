-- So far the letters give these options, and these bytes are warned of.
use Rattle.std.proofs.Common.{◌≡◌, take}
use Rattle.om_opts.specs.Letters.{opt_of, warned_of, IsWithin}
use Rattle.om_opts.proofs.reading.parse.Given as goal

abbrev pub invariant-loop-letter : goal.invariant-loop-letter
invariant-loop-letter l = record {
  opts : l.opts ≡ opt_of (take l.letter-index l.letters);
  warned : l.warned.items ≡ warned_of (take l.letter-index l.letters);
  within : IsWithin l.opts;
}
