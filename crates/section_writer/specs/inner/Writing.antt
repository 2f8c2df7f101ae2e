-- What the writer of a section leaves, whatever it is handed.
use Rattle.std.specs.Prelude.{Bool, cond, ◌&&◌, List, Option, Some, None, ℕ, ◌+◌, ◌*◌, leb, ℤ, pos, length, get_or}
use Rattle.plan.specs.declared.Component.{Component}
use Rattle.plan.specs.Ranges.{count_fits}
use Rattle.plan.specs.Rule7.{coefficients_used}
use Rattle.plan.specs.Versions.{can_carry}
use Rattle.pen.specs.Bytes.{number_bytes, in_turn}
use Rattle.pen.specs.inner.Putting.{put_at, integer_bytes}
use Rattle.section_writer.specs.Section.{integer_width, section_bytes}

-- the first coefficients of a row
abbrev pub row_bytes : Bool → ℕ → List ℤ → ℕ → List ℕ
row_bytes long d row count = in_turn count (λ i. number_bytes (integer_bytes long) d (get_or row i (pos 0)))

-- the length of a piece, and the greatest that an order of one byte makes
abbrev pub piece_length : ℕ → ℕ → ℕ
piece_length idc order = 2 + coefficients_used idc order * (integer_width idc + 4)

abbrev pub most_length : ℕ
most_length = 14346

-- a section can be written: its fractions have 4 bytes, and its pieces are places of the plan
abbrev pub can_write : ℕ → Component → Bool
can_write d c = leb d 32 && count_fits c.n

abbrev pub put_section : List ℕ → ℕ → ℕ → ℕ → Component → List ℕ
put_section s at version d c = cond (can_write d c) (put_at s at (section_bytes version d c)) s

-- its length, where the version carries all of the component
abbrev pub has_section : ℕ → Component → Bool
has_section version c = count_fits c.n && can_carry version c

abbrev pub section_length : ℕ → Component → Option ℕ
section_length version c = cond (has_section version c) (Some (length (section_bytes version 0 c))) None
