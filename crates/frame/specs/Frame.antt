-- The trailer and the header of a composing block, by the house rules' tables.
use Rattle.std.specs.Prelude.{Bool, cond, List, [], ◌∷◌, ◌++◌, ℕ, ◌+◌, ltb, eqb, take, drop, Option, None, Some}
use Rattle.plan.specs.declared.Header.{Header}
use Rattle.plan.specs.Ranges.{all, format_tests, size_tests}
use Rattle.plan.specs.Versions.{known_version}
use Rattle.fields.specs.declared.Name.{Name}
use Rattle.fields.specs.declared.kinds.Kind.{Kind}
use Rattle.fields.specs.declared.kinds.Kind.TheVariants.{Profile, Level, BlDepth, ElDepth, Depths, Denominator, HdrDepth, Disabled, Zero7, Columns, Pairs, Brightest, Zero14, Darkest, Zero20}
use Rattle.fields.specs.Fields.{number_at}
use Rattle.frame.specs.declared.Trailer.{Trailer}

-- the trailer's 12 bytes: A, D0, D1, D2 and the version, each of 16 bits, then 16 bits of zero
unfoldable pub trailer : List ℕ → Trailer
trailer bytes = record { a = number_at bytes 0 2; d0 = number_at bytes 2 2; d1 = number_at bytes 4 2; d2 = number_at bytes 6 2; version = number_at bytes 8 2; last = number_at bytes 10 2 }

-- rule 2 is not met: version 1 or 2, last field 0, A - D0 = 24, and D0 > D1 > D2 > 0, all over unbounded numbers
abbrev pub trailer_tests : Trailer → List Bool
trailer_tests x =
    known_version x.version ∷ eqb x.last 0 ∷ eqb x.a (x.d0 + 24)
    ∷ ltb x.d1 x.d0 ∷ ltb x.d2 x.d1 ∷ ltb 0 x.d2 ∷ []

unfoldable pub trailer_fits : Trailer → Bool
trailer_fits x = all (trailer_tests x)

-- the header's 24 bytes, by their table
unfoldable pub header : List ℕ → Header
header bytes =
    record {
      profile = number_at bytes 0 1;
      level = number_at bytes 1 1;
      d = number_at bytes 2 1;
      bl = number_at bytes 3 1;
      el = number_at bytes 4 1;
      hdr = number_at bytes 5 1;
      disabled = number_at bytes 6 1;
      columns = number_at bytes 8 2;
      pairs = number_at bytes 10 2;
      brightest = number_at bytes 12 2;
      darkest = number_at bytes 16 4;
    }

-- bytes 7, 14-15 and 20-23 are zero
unfoldable pub zeros_fit : List ℕ → Bool
zeros_fit bytes = all (eqb (number_at bytes 7 1) 0 ∷ eqb (number_at bytes 14 2) 0 ∷ eqb (number_at bytes 20 4) 0 ∷ [])

-- a header's columns: those of its bytes 0 to 6, the depths before d, which is made of them, and among them that they are the same; and
-- those of its bytes 7 to 23
abbrev pub columns : List Kind
columns =
    Profile ∷ Level ∷ BlDepth ∷ ElDepth ∷ Depths ∷ Denominator ∷ HdrDepth ∷ Disabled
    ∷ Zero7 ∷ Columns ∷ Pairs ∷ Brightest ∷ Zero14 ∷ Darkest ∷ Zero20 ∷ []

-- the first column of a table that does not fit, by its tests; else what the columns after it come to
abbrev pub first_wrong : List Kind → List Bool → Option Kind → Option Kind
first_wrong [] ts rest = rest
first_wrong (k ∷ ks) [] rest = rest
first_wrong (k ∷ ks) (t ∷ ts) rest = cond t (first_wrong ks ts rest) (Some k)

abbrev pub named : Option Kind → Option Name
named None = None
named (Some k) = Some (record { kind = k; first = 0; second = 0; third = 0 })

-- the column that a refused header is named by
unfoldable pub wrong_column : List ℕ → Header → Option Name
wrong_column head h =
    let size = eqb (number_at head 7 1) 0 ∷ take 3 (size_tests h) in
    let luminance = eqb (number_at head 14 2) 0 ∷ drop 3 (size_tests h) in
    named (first_wrong columns (format_tests h ++ size ++ luminance ++ eqb (number_at head 20 4) 0 ∷ []) None)
