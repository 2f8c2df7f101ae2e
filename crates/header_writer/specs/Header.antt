-- The header of the composing block as bytes (the house layout), column by column.
use Rattle.std.specs.Prelude.{List, ◌++◌, ℕ}
use Rattle.plan.specs.declared.Header.{Header}
use Rattle.pen.specs.Bytes.{bytes_of}

-- the header's 24 bytes, by their table
unfoldable pub header_bytes : Header → List ℕ
header_bytes h =
    bytes_of 1 h.profile ++ (bytes_of 1 h.level
    ++ (bytes_of 1 h.d
    ++ (bytes_of 1 h.bl ++ (bytes_of 1 h.el
    ++ (bytes_of 1 h.hdr
    ++ (bytes_of 1 h.disabled
    ++ (bytes_of 1 0
    ++ (bytes_of 2 h.columns ++ (bytes_of 2 h.pairs
    ++ (bytes_of 2 h.brightest
    ++ (bytes_of 2 0
    ++ (bytes_of 4 h.darkest
    ++ bytes_of 4 0))))))))))))
