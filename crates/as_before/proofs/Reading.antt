-- A section of version 1 is read as before R-2, piece n + 1 apart. Assumes nothing.
use mathlib.Core.Path.{◌≡◌, refl, sym, ap, ◌∙◌}
use mathlib.Core.Bool.{true}
use mathlib.Core.List.{List, [], ◌∷◌, ◌++◌}
use Prim.Native.Nat.{ℕ, zero, suc, ◌+◌, ◌<◌}
use native.Mathlib.Nat.{le_of_suc-le-suc, not-suc-le-zero}
use native.Mathlib.Omega.{arith}
use lib.ListN.{length, get_or, set}
use borrow.Author.Tests.{leb-true}
use Rattle.plan.specs.declared.Header.{Header}
use Rattle.plan.specs.declared.Piece.{Piece}
use Rattle.plan.specs.Ranges.{most_n, count_fits}
use Rattle.plan.specs.Rule7.{piece_places, pivot_places, pivots_used, no_piece, zero_piece, piece_fits}
use Rattle.fields.specs.declared.kinds.Kind.TheVariants.{LeftOver, NumPivotsMinus2}
use Rattle.fields.specs.declared.Name.{Name}
use Rattle.fields.specs.declared.Width.TheVariants.{One}
use Rattle.fields.specs.Fields.{Read, refused, got, ◌then◌, repeated, padded, ended}
use Rattle.fields.proofs.Giving.{Each, Gives, field_gives, repeated_gives}
use Rattle.section_fields.specs.Fields.{asked, ranged}
use Rattle.sections.specs.Sections.{piece, pivot, nlq, section}
use Rattle.sections.proofs.Fitting.{piece_gives}
use Rattle.as_before.specs.VersionOne.{section_before_r2, without_last}

-- two readings that begin alike and come to the same; the second goes on
module _ {A B C : Type 0} (r : Read A) {f : A → List ℕ → Read C} (g : A → List ℕ → Read B) (last : B → List ℕ → Read C) where
  pub on_given : (P : A → Type 0) → Gives P r → ((a : A) → P a → (rest : List ℕ) → f a rest ≡ (g a rest then last)) → (r then f) ≡ ((r then g) then last)
  on_given P p e = go r p
    where
      go : (r : Read A) → Gives P r → (r then f) ≡ ((r then g) then last)
      go (refused k name rest) q = refl
      go (got a rest) q = e a q rest

  pub on : ((a : A) (rest : List ℕ) → f a rest ≡ (g a rest then last)) → (r then f) ≡ ((r then g) then last)
  on e = go r
    where
      go : (r : Read A) → (r then f) ≡ ((r then g) then last)
      go (refused k name rest) = refl
      go (got a rest) = e a rest

pub at_end : {A B : Type 0} (name : Name) (k : ℕ) (a : A) (f : A → B) (bytes : List ℕ) → ended name k (f a) bytes ≡ (ended name k a bytes then λ a rest. got (f a) rest)
unfolding ended
at_end name k a f [] = refl
at_end name k a f (b ∷ bytes) = refl

-- one element more, and its place emptied again
emptied : {A : Type 0} (m : ℕ) (z a : A) (l : List A) → length l < m → set (padded m z (l ++ (a ∷ []))) (length l) z ≡ padded m z l
unfolding padded
emptied zero z a l h = absurd (not-suc-le-zero h)
emptied (suc m) z a [] h = refl
emptied {A} (suc m) z a (x ∷ l) h = ap (λ (r : List A). x ∷ r) (emptied m z a l (le_of_suc-le-suc h))

pub same_section : (h : Header) (k : ℕ) (bytes : List ℕ) → section_before_r2 h k bytes ≡ (section 1 h k bytes then λ c rest. got (without_last c) rest)
unfolding section section_before_r2
same_section h k bytes =
    on_given (ranged (asked NumPivotsMinus2 k 0 0 One) count_fits bytes) _ _ (λ n. count_fits n ≡ true) (field_gives (asked NumPivotsMinus2 k 0 0 One) count_fits (λ v. 5) (λ v z. omega arith) bytes) (λ n few rest.
    on (repeated 0 (pivots_used n) (pivot h k) rest) _ _ (λ pivots rest.
    on_given (repeated 0 (n + 1) (piece h k) rest) _ _ (λ l. (length l ≡ n + 1) × Each (λ q. piece_fits k h q ≡ true) l) (repeated_gives _ 0 (n + 1) (piece h k) (piece_gives h k) rest) (λ pieces long rest.
    on (nlq h k rest) _ _ (λ q rest.
    ap (λ (l : List Piece). ended (asked LeftOver k 0 0 One).name 3 (record { n = n; preds = padded pivot_places 0 pivots; pieces = l; nlq = q }) rest) (without n few pieces long.0)
    ∙ at_end (asked LeftOver k 0 0 One).name 3 _ without_last rest))))
  where
    without : (n : ℕ) → count_fits n ≡ true → (l : List Piece) → length l ≡ n + 1 → padded piece_places zero_piece l ≡ set (padded piece_places zero_piece (l ++ (get_or l n no_piece ∷ []))) (n + 1) zero_piece
    without n few l long = rw (← long) (sym (emptied piece_places zero_piece (get_or l n no_piece) l (omega (arith, long, leb-true n most_n few))))
