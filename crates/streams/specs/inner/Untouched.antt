-- What a run holds before any call: `first` and the last three digits of the index on top of it, at every index.
use Rattle.std.specs.Prelude.{Bool, true, ℕ, ◌+◌, ◌%◌}

abbrev pub everywhere : ℕ → Bool
everywhere i = true

abbrev pub untouched : ℕ → ℕ → ℕ
untouched first i = first + i % 1000
