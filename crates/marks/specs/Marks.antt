-- The marks of a picture, one for each row pair: 0 waits, 2 is base only, any other value is full.
use Rattle.std.specs.Prelude.{Bool, not, ◌&&◌, List, ℕ, eqb, get_or}

abbrev pub waits : ℕ → Bool
waits mark = eqb mark 0

abbrev pub base_only : ℕ → Bool
base_only mark = eqb mark 2

unfoldable pub full : ℕ → Bool
full mark = not (waits mark) && not (base_only mark)

-- the mark of row pair k says full; where there is no mark, none does
unfoldable pub full_at : List ℕ → ℕ → Bool
full_at marks k = full (get_or marks k 0)
