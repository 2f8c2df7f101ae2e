-- What the copy of piece n leaves in the places of a component's pieces, whatever it is handed.
use Rattle.std.specs.Prelude.{cond, ◌&&◌, List, ℕ, ◌+◌, eqb, get_or, set}
use Rattle.plan.specs.declared.Piece.{Piece}
use Rattle.plan.specs.Ranges.{count_fits}
use Rattle.plan.specs.Rule7.{no_piece}

-- version 1: piece n goes to place n + 1 as well, where there is one
abbrev pub copied : ℕ → ℕ → List Piece → List Piece
copied version n places = cond (eqb version 1 && count_fits n) (set places (n + 1) (get_or places n no_piece)) places
