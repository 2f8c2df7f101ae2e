-- One reading after another, and what a `?` hands on. Assumes nothing.
use mathlib.Core.Path.{◌≡◌, refl, ◌∙◌}
use mathlib.Core.List.{List}
use Prim.Native.Nat.{ℕ}
use Rattle.std.specs.Prelude.{Result, IsErr, IsErrAnd}
use Rattle.std.proofs.lemmas.Result.{err_from_is_err_and}
use Rattle.refusals.specs.Refusals.{number_of}
use Rattle.fields.specs.declared.Failure.{Failure}
use Rattle.fields.specs.Fields.{Read, refused, got, ◌then◌}
use Rattle.fields.specs.inner.Readers.{as_read}

-- the failure that a `?` answers is the one that it met
pub handed_on : {A : Type 0} (r : Result A Failure) (f : Failure) (rest : List ℕ) → IsErr r × IsErrAnd r (λ g. g ≡ f) → as_read r rest ≡ refused (number_of f.refusal) f.name rest
handed_on r f rest h = let p = err_from_is_err_and r h.1 in rw (p.1, p.2)

module _ {A B : Type 0} {one : Read A} (next : A → List ℕ → Read B) where
  -- a value is read, and what follows goes on from it
  pub goes_on : {a : A} {rest : List ℕ} → got a rest ≡ one → {r : Read B} → r ≡ next a rest → r ≡ (one then next)
  goes_on e f = rw (← e) f

  -- a failure is the answer
  pub stops : (r : Result B Failure) (f : Failure) {rest : List ℕ} → IsErr r × IsErrAnd r (λ g. g ≡ f) → refused (number_of f.refusal) f.name rest ≡ one → as_read r rest ≡ (one then next)
  stops r f {rest = rest} h e = rw (← e) (handed_on r f rest h)

-- the same, where what follows takes what is made of the first
module _ {A B C : Type 0} (one : Read A) (make : A → B) (next : B → List ℕ → Read C) where
  abbrev made : Read B
  made = one then λ a rest. got (make a) rest

  then_made : (made then next) ≡ (one then λ a rest. next (make a) rest)
  then_made = go one
    where
      go : (r : Read A) → ((r then λ a rest. got (make a) rest) then next) ≡ (r then λ a rest. next (make a) rest)
      go (refused k name rest) = refl
      go (got a rest) = refl

  pub goes_on_as : {b : B} {rest : List ℕ} → got b rest ≡ made → {r : Read C} → r ≡ next b rest → r ≡ (one then λ a rest. next (make a) rest)
  goes_on_as e f = goes_on next e f ∙ then_made

  pub stops_as : (r : Result C Failure) (f : Failure) {rest : List ℕ} → IsErr r × IsErrAnd r (λ g. g ≡ f) → refused (number_of f.refusal) f.name rest ≡ made → as_read r rest ≡ (one then λ a rest. next (make a) rest)
  stops_as r f h e = stops next r f h e ∙ then_made
