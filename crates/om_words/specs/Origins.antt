-- What the program keeps of a source, and when it stands at a place.
use Rattle.std.specs.Prelude.{ℕ, ◌≡◌, ◌<◌, length}
use Rattle.rand_chacha.specs.ChaCha.{key_of}
use Rattle.om_words.specs.DrawnWords.{Source, listed, seeded, key_bytes}
use Rattle.om_words.specs.declared.draw.Origin.{Origin}
use Rattle.om_words.specs.declared.draw.Origin.TheVariants.{Listed, Seeded}

abbrev pub source_of : Origin → Source
source_of (Listed list) = listed list
source_of (Seeded seed pool generator) = seeded seed pool

-- the list has a word at each place, and the generator has come to this one
abbrev pub IsAt : Origin → ℕ → Type 0
IsAt (Listed list) place = 0 < length list
IsAt (Seeded seed pool generator) place =
    generator ≡ record { key = key_of (key_bytes seed pool); stream = 0; word_pos = place }
