-- The versions of a composing block: which there are, and what a section of each carries of a component.
use Rattle.std.specs.Prelude.{Bool, false, cond, ◌&&◌, ◌||◌, List, [], ◌∷◌, ◌++◌, ℕ, ◌+◌, eqb, ℤ, pos, negsuc, get_or}
use Rattle.plan.specs.declared.Piece.{Piece}
use Rattle.plan.specs.declared.Component.{Component}
use Rattle.plan.specs.Ranges.{within}
use Rattle.plan.specs.Rule7.{every, row_places, pieces_used, no_piece}

-- rule 2 passes versions 1 and 2
abbrev pub last_version : ℕ
last_version = 2

abbrev pub known_version : ℕ → Bool
known_version version = within 1 last_version version

-- version 1 carries the pieces 0 to n, and version 2 piece n + 1 too
abbrev pub pieces_carried : ℕ → ℕ → ℕ
pieces_carried version n = cond (eqb version 1) (n + 1) (pieces_used n)

-- the pieces that are used, of those that a section carries: version 1 is read as if piece n stood twice
abbrev pub pieces_read : ℕ → ℕ → List Piece → List Piece
pieces_read version n carried = cond (eqb version 1) (carried ++ (get_or carried n no_piece ∷ [])) carried

-- two pieces are the same: mapping_idc, the order, every coefficient
abbrev pub same_number : ℤ → ℤ → Bool
same_number (pos m) (pos n) = eqb m n
same_number (pos m) (negsuc n) = false
same_number (negsuc m) (pos n) = false
same_number (negsuc m) (negsuc n) = eqb m n

unfoldable pub same_piece : Piece → Piece → Bool
same_piece a b =
    eqb a.idc b.idc
    && (eqb a.order b.order && every row_places (λ i. same_number (get_or a.row i (pos 0)) (get_or b.row i (pos 0))))

-- all pieces up to n + 1 can be carried, of which the last two are given: by version 2 always, by version 1 where piece n stands twice
abbrev pub carries : ℕ → Piece → Piece → Bool
carries version last above = eqb version 2 || (eqb version 1 && same_piece last above)

-- so all that is used of a component can be carried
abbrev pub can_carry : ℕ → Component → Bool
can_carry version c = carries version (get_or c.pieces c.n no_piece) (get_or c.pieces (c.n + 1) no_piece)
