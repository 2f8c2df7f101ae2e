-- The pieces of a component, read into their places.
use Rattle.std.specs.Prelude.{List, ℕ}
use Rattle.plan.specs.declared.Header.{Header}
use Rattle.plan.specs.declared.Piece.{Piece}
use Rattle.plan.specs.Rule7.{piece_places, zero_piece}
use Rattle.plan.specs.Versions.{pieces_carried, pieces_read}
use Rattle.fields.specs.Fields.{Read, got, ◌then◌, repeated, padded}
use Rattle.sections.specs.Sections.{piece}

-- what a section of a version carries of them
abbrev pub held : ℕ → Header → ℕ → ℕ → List ℕ → Read (List Piece)
held version h k n bytes = repeated 0 (pieces_carried version n) (piece h k) bytes then λ l rest. got (padded piece_places zero_piece (pieces_read version n l)) rest
