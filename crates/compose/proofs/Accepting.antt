-- The ways that a call can go, by the definitions: from its refusal to its answer and its output. Assumes nothing.
use mathlib.Core.Path.{◌≡◌, sym, ap, ◌∙◌}
use mathlib.Core.Bool.{Bool, true, false, not, ◌&&◌, ◌||◌, cond, or-true, and-true}
use mathlib.Core.List.{List, []}
use Prim.Native.Nat.{ℕ, ◌+◌, ◌^◌}
use native.Mathlib.Omega.{arith}
use lib.Dec.{eqb}
use lib.ListN.{length, take}
use lib.Seq.{take_all}
use borrow.Author.Tests.{ne_eqb}
use Rattle.runs.specs.Runs.{painted, between}
use Rattle.runs.proofs.Painting.{painted_cong}
use Rattle.marks.specs.Marks.{full_at}
use Rattle.marks.specs.inner.Marks.{not_full}
use Rattle.marks.proofs.Keeping.{without_marks}
use Rattle.refusals.specs.declared.Refusal.{Refusal}
use Rattle.refusals.specs.Refusals.{Outcome, granted, denied, number_of}
use Rattle.refusals.proofs.Laws.{outcome-granted, outcome-denied, number_of-some}
use Rattle.picture.specs.Picture.{pair_at}
use Rattle.picture.specs.inner.Planes.{InPicture}
use Rattle.plan.specs.Ranges.{bl_depth, el_depth}
use Rattle.plan.proofs.Facts.{header_facts}
use Rattle.rules.specs.Rules.{Given, extent, names, used, refusal}
use Rattle.rules.proofs.Accepting.{Accepted, accepted, in_picture}
use Rattle.rows.specs.declared.Rows.{Rows}
use Rattle.compose.specs.Composing.{composed_by, makes_full, composes, output_after, answer}
use Rattle.compose.specs.inner.Seen.{marks_seen}
use Rattle.compose.proofs.Samples.{CodesInPicture}

abbrev Ends : Given → List ℕ → List ℕ → Outcome → List ℕ → Type 0
Ends g marks output o after = (o ≡ answer g (length output)) × (after ≡ output_after g marks output)

pub refused : (g : Given) (marks output : List ℕ) (r : Refusal) → number_of r ≡ refusal g (length output) → Ends g marks output (denied (number_of r)) output
unfolding output_after
refused g marks output r e = (outcome-denied _ _ _ (sym e) (number_of-some r), rw (← e, ne_eqb (number_of r) 0 (number_of-some r)))

-- the row pairs of the call
abbrev pub rows_of : Given → Rows
rows_of g = record { first = g.first; last = g.first + g.count }

pub written : (g : Given) (marks output after : List ℕ) (selected : ℕ → Bool) (value : ℕ → ℕ) → 0 ≡ refusal g (length output) → ((k : ℕ) → selected k ≡ composes g marks k) → after ≡ painted (λ i. selected (pair_at (extent g.plan.header) i)) value output → ((i : ℕ) → value i ≡ composed_by g.source g.plan g.base g.enhancement i) → Ends g marks output (granted []) after
unfolding output_after
written g marks output after selected value e these h same =
    (outcome-granted _ _ (sym e), rw (← e) (h ∙ painted_cong _ _ _ _ output (λ i b. these _) (λ i b s. same i)))

-- ---- the row pairs that it composes
module _ (g : Given) (marks : List ℕ) (k : ℕ) where
  -- with an enhancement all that it names
  pub all_named : used g.plan.header (length g.enhancement) ≡ true → between g.first (g.first + g.count) k ≡ composes g marks k
  unfolding composes names makes_full
  all_named on = rw (on, or-true) (sym (and-true _))

  -- without one, by the part of the marks that is seen
  pub kept_seen : used g.plan.header (length g.enhancement) ≡ false → (seen : ℕ) → seen ≡ marks_seen g.plan.header (length marks) → not_full g.first (g.first + g.count) (take seen marks) k ≡ composes g marks k
  unfolding composes names makes_full marks_seen not_full
  kept_seen off seen is = rw off (ap (λ (n : ℕ). not_full first last (take n marks) k) is ∙ go (eqb g.plan.header.disabled 1))
    where
      first : ℕ
      first = g.first

      last : ℕ
      last = g.first + g.count

      go : (u : Bool) → not_full first last (take (cond u 0 (length marks)) marks) k ≡ (between first last k && ((u || false) || not (full_at marks k)))
      go true = without_marks first last k ∙ sym (and-true _)
      go false = ap (λ (m : List ℕ). not_full first last m k) (take_all (length marks) marks (omega arith))

-- ---- what acceptance gives to whoever composes
module _ (g : Given) (n : ℕ) (e : 0 ≡ refusal g n) where
  pub passed : Accepted g n
  passed = accepted g n (sym e)

  pub in_output : InPicture (extent g.plan.header) g.first (g.first + g.count) n
  in_output = in_picture _ _ _ _ (header_facts _ passed.fits) passed.sizes.pairs passed.sizes.output_size

  pub in_base : CodesInPicture (extent g.plan.header) (rows_of g) (2 ^ bl_depth g.plan.header) g.base
  in_base = record { rows = in_picture _ _ _ _ (header_facts _ passed.fits) passed.sizes.pairs passed.sizes.base_size; code = passed.base_small }

  pub in_enhancement : used g.plan.header (length g.enhancement) ≡ true → CodesInPicture (extent g.plan.header) (rows_of g) (2 ^ el_depth g.plan.header) g.enhancement
  in_enhancement on = record { rows = in_picture _ _ _ _ (header_facts _ passed.fits) passed.sizes.pairs (passed.sizes.enhancement_size on); code = passed.enhancement_small on }
