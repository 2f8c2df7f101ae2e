-- What the places of a plan hold.
use Rattle.std.specs.Prelude.{ℤ, pos}
use Rattle.streams.specs.declared.places.Place.{Place}
use Rattle.streams.specs.declared.places.Place.TheVariants.{Byte, Short, Word, Long, Signed}

-- the value of a place
abbrev pub held : Place → ℤ
held (Byte p) = pos p.now
held (Short p) = pos p.now
held (Word p) = pos p.now
held (Long p) = pos p.now
held (Signed p) = p.now
