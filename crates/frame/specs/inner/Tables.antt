-- A table of columns, each after whether it fits.
use Rattle.std.specs.Prelude.{Bool, List, map, Option, None}
use Rattle.fields.specs.declared.kinds.Kind.{Kind}
use Rattle.frame.specs.Frame.{first_wrong}

abbrev pub test_of : Bool × Kind → Bool
test_of c = c.0

abbrev pub kind_of : Bool × Kind → Kind
kind_of c = c.1

abbrev pub first_of : List (Bool × Kind) → Option Kind
first_of table = first_wrong (map kind_of table) (map test_of table) None
