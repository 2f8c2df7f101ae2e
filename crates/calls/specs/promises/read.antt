-- block::read(bytes)
use Rattle.block.specs.Facts.{Sound}
use Rattle.block.specs.Reading.{read}
use Rattle.block.specs.declared.Reading.{Reading}
use Rattle.calls.specs.Lent.{Lent}
use Rattle.std.specs.Prelude.{List, ℕ, ◌≡◌}

abbrev pub Keeps : List ℕ → Reading → Type 0
Keeps bytes result =
    (result ≡ read bytes) × (Sound result)

abbrev pub Post : (κs : Unit {0}) → (Lent × Unit {0}) → Reading → (Lent × Unit {0}) → Type 0
Post κs a r s = Keeps a.0.now r
