-- What a reader answers, with what it leaves of the bytes, as a reading of the grammar.
use Rattle.std.specs.Prelude.{List, ℕ, Result, Ok, Err}
use Rattle.refusals.specs.Refusals.{number_of}
use Rattle.fields.specs.declared.Failure.{Failure}
use Rattle.fields.specs.Fields.{Read, refused, got, ◌then◌, repeated, padded}

abbrev pub as_read : {A : Type 0} → Result A Failure → List ℕ → Read A
as_read (Ok a) rest = got a rest
as_read (Err f) rest = refused (number_of f.refusal) f.name rest

-- the same reading n times, into an array of m places that was filled with z
abbrev pub filled : {A : Type 0} → ℕ → A → ℕ → (ℕ → List ℕ → Read A) → List ℕ → Read (List A)
filled m z n one bytes = repeated 0 n one bytes then λ l rest. got (padded m z l) rest
