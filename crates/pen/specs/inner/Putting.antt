-- What a call that writes bytes at a place leaves in a slice.
use Rattle.std.specs.Prelude.{Bool, cond, List, ◌≡◌, ℕ, ◌+◌, leb, ℤ, pos, negsuc, length}
use Rattle.std.proofs.lemmas.List.Edits.{sets}
use Rattle.pen.specs.Bytes.{number_bytes}

-- the bytes stand from a place on, where all of them fit; else nothing is written
unfoldable pub put_at : List ℕ → ℕ → List ℕ → List ℕ
put_at s at bytes = cond (leb (at + length bytes) (length s)) (sets s at bytes) s

-- a number by its distance from 0, or below it from -1
abbrev pub from_distance : Bool → ℕ → ℤ
from_distance below a = cond below (negsuc a) (pos a)

-- how many bytes a number's integer part has
abbrev pub integer_bytes : Bool → ℕ
integer_bytes long = cond long 4 1

-- a number with a fraction, where d leaves the fraction 4 bytes
abbrev pub put_number : List ℕ → ℕ → Bool → ℕ → ℤ → List ℕ
put_number s at long d z = cond (leb d 32) (put_at s at (number_bytes (integer_bytes long) d z)) s

-- bytes were put from a place on, which they have led to the next
pub record Inked (s : List ℕ) (at : ℕ) (bytes s' : List ℕ) (next : ℕ) : Type 0 where
  pub is : s' ≡ sets s at bytes
  pub place : next ≡ at + length bytes
