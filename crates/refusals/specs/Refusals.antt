-- Refusals in order: the first rule met gives the answer; and what a call answers, whatever enum carries it.
use Rattle.std.specs.Prelude.{Bool, true, false, cond, List, [], ◌∷◌, ℕ, zero, suc, Result, Ok, Err}
use Rattle.refusals.specs.declared.Refusal.{Refusal}
use Rattle.refusals.specs.declared.Refusal.TheVariants.{Short, Trailer, Length, Header, Field, Reserved, Plan, Ticket, Run, Rows, Sample, Room, Method}

-- a rule's number, and whether it is met
pub record Rule : Type 0 where
  pub number : ℕ
  pub met : Bool

abbrev pub rule : ℕ → Bool → Rule
rule n b = record { number = n; met = b }

-- the number of the first rule met; 0 where none is
abbrev pub first_met : List Rule → ℕ
first_met [] = 0
first_met (r ∷ rs) = cond r.met r.number (first_met rs)

-- what a call answers, in the house rules' terms: refused or not; the number, 0 where it is not; and the values that the answer holds
pub record Outcome : Type 0 where
  pub refused : Bool
  pub number : ℕ
  pub values : List ℕ

abbrev pub granted : List ℕ → Outcome
granted values = record { refused = false; number = 0; values = values }

abbrev pub denied : ℕ → Outcome
denied k = record { refused = true; number = k; values = [] }

-- by the number of the first rule met: the values where none is, and otherwise the number alone
unfoldable pub outcome : ℕ → List ℕ → Outcome
outcome zero values = granted values
outcome (suc k) values = denied (suc k)

-- the number of each rule in the house's table
abbrev pub number_of : Refusal → ℕ
number_of Short = 1
number_of Trailer = 2
number_of Length = 3
number_of Header = 4
number_of Field = 5
number_of Reserved = 6
number_of Plan = 7
number_of Ticket = 8
number_of Run = 9
number_of Rows = 10
number_of Sample = 11
number_of Room = 12
number_of Method = 13

-- what each case of an answer says: granted, with the values that it holds, or refused, with the number alone
abbrev pub says : {A : Type 0} → (A → List ℕ) → Result A Refusal → Outcome
says values (Ok a) = granted (values a)
says values (Err r) = denied (number_of r)

-- the number that it says
abbrev pub number_in : {A : Type 0} → Result A Refusal → ℕ
number_in (Ok a) = 0
number_in (Err r) = number_of r
