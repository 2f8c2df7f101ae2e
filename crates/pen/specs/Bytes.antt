-- Numbers as bytes, big-endian: the first byte is the greatest.
use Rattle.std.specs.Prelude.{List, [], ◌∷◌, ◌++◌, ℕ, zero, suc, ◌-◌, ◌/◌, ◌%◌, ◌^◌, ℤ, pos, negsuc, nat_abs, ◌-ℤ◌}
use Rattle.standard.specs.Residual.{◌<<◌, ◌>>◌}

-- the w bytes of a number below 256 ^ w
unfoldable pub bytes_of : ℕ → ℕ → List ℕ
bytes_of zero v = []
bytes_of (suc w) v = v / 256 ^ w ∷ bytes_of w (v % 256 ^ w)

-- an integer as w bytes, of whose numbers the upper half is negative: of one byte -1 is 255, and -64 is 192
abbrev pub signed_number : ℕ → ℤ → ℕ
signed_number w (pos n) = n % 256 ^ w
signed_number w (negsuc n) = 256 ^ w - 1 - n % 256 ^ w

-- a number is integer x 2 ^ d + fraction, and the fraction adds upward, also to a negative integer
abbrev pub integer_part : ℕ → ℤ → ℤ
integer_part d z = z >> d

abbrev pub fraction_part : ℕ → ℤ → ℕ
fraction_part d z = nat_abs (z -ℤ (integer_part d z << d))

-- a number with a fraction: an integer of w bytes, and the fraction of 4
unfoldable pub number_bytes : ℕ → ℕ → ℤ → List ℕ
number_bytes w d z = bytes_of w (signed_number w (integer_part d z)) ++ bytes_of 4 (fraction_part d z)

-- the bytes of each of 0 .. k - 1, in turn
unfoldable pub in_turn : ℕ → (ℕ → List ℕ) → List ℕ
in_turn zero bytes = []
in_turn (suc k) bytes = in_turn k bytes ++ bytes k
