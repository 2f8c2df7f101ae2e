-- A run that a call is lent.
use Rattle.std.specs.Prelude.{List, ℕ}

pub record Lent : Type 0 where
  pub now : List ℕ

abbrev pub lent : List ℕ → Lent
lent run = record { now = run }
