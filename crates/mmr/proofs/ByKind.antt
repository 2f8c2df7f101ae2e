-- The step of the piece that was found maps a sample. Assumes nothing.
use mathlib.Core.Path.{◌≡◌, refl, ap, ◌∙◌}
use mathlib.Core.List.{List}
use Prim.Native.Nat.{ℕ, ◌+◌, ◌*◌, ◌<◌, ◌≤◌}
use native.Mathlib.Omega.{arith}
use lib.IntN.{ℤ}
use Rattle.runs.specs.inner.Loops.{at}
use Rattle.standard.specs.Mapping.{pivot_idx, cut}
use Rattle.standard.proofs.Pieces.{idx_le}
use Rattle.plan.specs.Ranges.{most_n}
use Rattle.plan.specs.Rule7.{piece_places}
use Rattle.steps.specs.inner.Steps.{Rising}
use Rattle.mmr.specs.declared.format.Format.{Format}
use Rattle.mmr.specs.declared.kind.Kind.{Kind}
use Rattle.mmr.specs.declared.kind.Kind.TheVariants.{Polynomial, Mmr, Broken}
use Rattle.mmr.specs.declared.ready.Ready.{Ready}
use Rattle.mmr.specs.inner.Apart.{coef}
use Rattle.mmr.specs.inner.Terms.{Agreed}
use Rattle.mmr.specs.inner.Steps.{row_of, kind_at, piece_value, mapped_side}
use Rattle.mmr.specs.inner.Given.{SideGiven, FormatGiven}
use Rattle.mmr.proofs.Meeting.{sum_cong}

-- ---- the piece that was found, as the search promises it
abbrev pub Searched : Ready → ℕ → ℕ → Type 0
Searched c s p = Rising (at c.pivots) → c.component.now.n ≤ most_n → p ≡ pivot_idx (at c.pivots) c.component.now.n s

module _ {d : ℕ} (c : Ready) (g : SideGiven d c) (s : ℕ) {p : ℕ} (e : Searched c s p) where
  -- the pivots rise, so it is the sample's
  is_piece : p ≡ pivot_idx (at c.pivots) c.component.now.n s
  is_piece = e g.rising g.few

  pub piece_in : p < piece_places
  piece_in = omega (arith, is_piece, idx_le (at c.pivots) c.component.now.n s, g.few)

-- ---- its step, by terms that agree with others up to the order; the own term is one of the first order
agreed_piece : (order d : ℕ) (kind : Kind) (row : List ℤ) (t : ℕ) (ts us : List ℕ) → Agreed (7 * order + 1) ts us → piece_value order d kind row t ts ≡ piece_value order d kind row t us
unfolding piece_value
agreed_piece order d Polynomial row t ts us a = refl
agreed_piece order d (Mmr width) row t ts us a = ap (cut d) (sum_cong (coef row) (at ts) (at us) (7 * order + 1) a.same)
agreed_piece order d Broken row t ts us a = refl

-- it maps the sample, also where the order is said otherwise
module _ {f : Format} (format : FormatGiven f) (c : Ready) (g : SideGiven f.d c) (own : ℕ) {order : ℕ} (ts us : List ℕ) (e : order ≡ f.order) (a : Agreed (7 * f.order + 1) ts us) where
  pub step_maps : (s : ℕ) {p : ℕ} → Searched c s p → own < 8 → piece_value order f.d (kind_at c p) (row_of c p) (at ts own) ts ≡ mapped_side f.order f.d c s (at us own) us
  unfolding mapped_side
  step_maps s {p} is first =
      let value = piece_value f.order f.d in
      ap (λ (n : ℕ). piece_value n f.d (kind_at c p) (row_of c p) (at ts own) ts) e
      ∙ ap (λ (x : ℕ). value (kind_at c p) (row_of c p) x ts) (a.same own (omega (arith, format.some_order)))
      ∙ agreed_piece f.order f.d (kind_at c p) (row_of c p) (at us own) ts us a
      ∙ ap (λ (q : ℕ). value (kind_at c q) (row_of c q) (at us own) us) (is_piece c g s is)
