-- A loop that reads the same n times and puts what it read into an array. Assumes nothing.
use mathlib.Core.Path.{◌≡◌, refl, sym, ap, ◌∙◌}
use mathlib.Core.List.{List, [], ◌∷◌}
use Prim.Native.Nat.{ℕ, zero, suc, ◌+◌, ◌-◌, ◌≤◌, ◌<◌}
use native.Mathlib.Numerals.{add-one}
use native.Mathlib.Omega.{arith}
use lib.ListN.{set, replicate}
use lib.Seq.{sets}
use Rattle.std.specs.Prelude.{Result, IsErr, IsErrAnd}
use Rattle.refusals.specs.Refusals.{number_of}
use Rattle.fields.specs.declared.Failure.{Failure}
use Rattle.fields.specs.Fields.{Read, refused, got, ◌then◌, repeated, padded}
use Rattle.fields.specs.inner.Readers.{as_read, filled}
use Rattle.fields.proofs.Following.{handed_on}

module _ {A : Type 0} where
  sets_cons : (x : A) (L : List A) (i : ℕ) (l : List A) → sets (x ∷ L) (suc i) l ≡ x ∷ sets L i l
  sets_cons x L i [] = refl
  sets_cons x L i (a ∷ l) = sets_cons x (set L i a) (suc i) l

  sets_nil : (i : ℕ) (l : List A) → sets [] i l ≡ []
  sets_nil i [] = refl
  sets_nil i (a ∷ l) = sets_nil (suc i) l

  -- stores from place 0 on, in an array that was filled with z
  sets_padded : (m : ℕ) (z : A) (l : List A) → sets (replicate m z) 0 l ≡ padded m z l
  unfolding padded
  sets_padded zero z l = sets_nil 0 l
  sets_padded (suc m) z [] = ap (λ (r : List A). z ∷ r) (sets_padded m z [])
  sets_padded (suc m) z (a ∷ l) = sets_cons a (replicate m z) 0 l ∙ ap (λ (r : List A). a ∷ r) (sets_padded m z l)

-- i of n readings have filled L, and the others, from `rest` on, are to follow
pub record Filling {A : Type 0} (one : ℕ → List ℕ → Read A) (n i : ℕ) (L : List A) (rest : List ℕ) (asked : Read (List A)) : Type 0 where
  pub is : (repeated i (n - i) one rest then λ l rest. got (sets L i l) rest) ≡ asked

module _ {A : Type 0} {one : ℕ → List ℕ → Read A} {n : ℕ} where
  pub begun : (m : ℕ) (z : A) (rest : List ℕ) → Filling one n 0 (replicate m z) rest (filled m z n one rest)
  begun m z rest =
      let e : n - 0 ≡ n = omega arith in
      record { is = rw e (after (repeated 0 n one rest)) }
    where
      after : (r : Read (List A)) → (r then λ l rest. got (sets (replicate m z) 0 l) rest) ≡ (r then λ l rest. got (padded m z l) rest)
      after (refused k name rest) = refl
      after (got l rest) = ap (λ (x : List A). got x rest) (sets_padded m z l)

  pub more : {i : ℕ} {L : List A} {rest rest' : List ℕ} {a : A} {asked : Read (List A)} → i < n → got a rest' ≡ one i rest → Filling one n i L rest asked → Filling one n (i + 1) (set L i a) rest' asked
  unfolding repeated
  more {i} {L} {rest} {rest'} {a} h r f =
      let k = n - suc i in
      let e : n - i ≡ suc k = omega arith in
      rw add-one (record { is = sym (after (repeated (suc i) k one rest')) ∙ rw (e, ← r) at f.is })
    where
      after : (r : Read (List A)) → ((r then λ l rest. got (a ∷ l) rest) then λ l rest. got (sets L i l) rest) ≡ (r then λ l rest. got (sets (set L i a) (suc i) l) rest)
      after (refused k name rest) = refl
      after (got l rest) = refl

  -- the first failure is the answer
  pub broken : {i : ℕ} {L : List A} {rest rest' : List ℕ} {asked : Read (List A)} (r : Result (List A) Failure) (g : Failure) → i < n → refused (number_of g.refusal) g.name rest' ≡ one i rest → Filling one n i L rest asked
      → IsErr r × IsErrAnd r (λ x. x ≡ g) → as_read r rest' ≡ asked
  unfolding repeated
  broken {i} {rest' = rest'} r g h e f p =
      let k = n - suc i in
      let s : n - i ≡ suc k = omega arith in
      handed_on r g rest' p ∙ rw (s, ← e) at f.is

  pub finished : {i : ℕ} {L : List A} {rest : List ℕ} {asked : Read (List A)} → n ≤ i → Filling one n i L rest asked → got L rest ≡ asked
  unfolding repeated
  finished {i = i} h f =
      let e : n - i ≡ 0 = omega arith in
      rw e at f.is
