-- What the private functions ask of a trailer.
use Rattle.std.specs.Prelude.{◌≡◌, ℕ, ◌+◌, ◌≤◌, ◌<◌}
use Rattle.frame.specs.declared.Trailer.{Trailer}

-- where a trailer that rule 2 passes points, in a slice of n bytes whose trailer begins at t
pub record Placed (n t : ℕ) (x : Trailer) : Type 0 where
  pub whole : t + 12 ≡ n
  pub header : x.a ≡ x.d0 + 24
  pub inside : x.a ≤ t
  pub first : x.d1 < x.d0
  pub second : x.d2 < x.d1
