-- rules::refusal_of_pictures(h, Work { first, count, base, enhancement }, output)
use Rattle.calls.specs.Lent.{Lent}
use Rattle.plan.specs.Ranges.{header_fits}
use Rattle.plan.specs.declared.Header.{Header}
use Rattle.refusals.specs.Refusals.{first_met, number_in, rule}
use Rattle.refusals.specs.declared.Refusal.{Refusal}
use Rattle.rules.specs.Rules.{rows_rules, wrong_length}
use Rattle.std.specs.Prelude.{List, Result, cond, length, ℕ, ◌∷◌, ◌≡◌}

abbrev pub Keeps : Header → ℕ → ℕ → List ℕ → List ℕ → ℕ → Result (Unit {0}) Refusal → Type 0
Keeps h first count base enhancement output result =
    number_in result ≡ cond (header_fits h) (first_met (rule 9 (wrong_length h (length base) (length enhancement) output) ∷ rows_rules h first count base enhancement)) 7

abbrev pub Post : (κs : Unit {0}) → (Header × (ℕ × (ℕ × (Lent × (Lent × (ℕ × Unit {0})))))) → Result (Unit {0}) Refusal → (Header × (ℕ × (ℕ × (Lent × (Lent × (ℕ × Unit {0})))))) → Type 0
Post κs a r s = Keeps a.0 a.1.0 a.1.1.0 a.1.1.1.0.now a.1.1.1.1.0.now a.1.1.1.1.1.0 r
