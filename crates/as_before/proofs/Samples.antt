-- Of a block of version 1 every sample is mapped as before R-2: piece n + 1 is piece n. Assumes nothing.
use mathlib.Core.Path.{◌≡◌, sym, ap, ◌∙◌}
use mathlib.Core.Bool.{cond}
use mathlib.Core.Logic.{⊎_elim}
use Prim.Native.Nat.{ℕ, ◌+◌, ◌≤◌, min}
use native.Mathlib.Nat.{le_refl, eq-or-lt_of_le}
use native.Mathlib.Omega.{arith}
use lib.Dec.{eqb}
use lib.IntN.{pos}
use lib.ListN.{get_or, set}
use lib.Seq.{get_or-set_other}
use Rattle.standard.specs.Mapping.{pivot_value, pivot_idx, clamped, polynomial, mapped}
use Rattle.standard.specs.Mmr.{mmr_mapped, chroma_mapped}
use Rattle.standard.proofs.Pieces.{idx_le}
use Rattle.plan.specs.declared.Header.{Header}
use Rattle.plan.specs.declared.Piece.{Piece}
use Rattle.plan.specs.declared.Component.{Component}
use Rattle.plan.specs.declared.Plan.{Plan}
use Rattle.plan.specs.Parameters.{mmr_piece, mapping}
use Rattle.plan.specs.Ranges.{bl_depth}
use Rattle.plan.specs.Rule7.{no_piece, zero_piece}
use Rattle.plan.proofs.Carrying.{piece_n, piece_above}
use Rattle.as_before.specs.VersionOne.{mapped_before_r2, chroma_before_r2, SameLuma, SameChroma}

-- the pivots of a component, and a polynomial piece of it at a sample
abbrev pivot : Component → ℕ → ℕ
pivot c = pivot_value (λ i. get_or c.preds i 0)

abbrev poly : Header → Component → ℕ → Piece → ℕ
poly h c s q = polynomial (bl_depth h) h.d (λ i. get_or q.row i (pos 0)) q.order (clamped (pivot c 0) (pivot c (c.n + 1)) s)

module _ (c : Component) (twice : piece_above c ≡ piece_n c) where
  -- the piece of a sample now, and the one that stood in for it
  stands_for : (p : ℕ) → p ≤ c.n + 1 → get_or c.pieces p no_piece ≡ get_or (set c.pieces (c.n + 1) zero_piece) (min p c.n) no_piece
  stands_for p few =
      ⊎_elim
      (λ e. let m : min p c.n ≡ c.n = omega arith in rw m (ap (λ (i : ℕ). get_or c.pieces i no_piece) e ∙ twice ∙ sym (kept c.n (le_refl c.n))))
      (λ l. let m : min p c.n ≡ p = omega arith in rw m (sym (kept p (omega arith))))
      (eq-or-lt_of_le few)
    where
      kept : (i : ℕ) → i ≤ c.n → get_or (set c.pieces (c.n + 1) zero_piece) i no_piece ≡ get_or c.pieces i no_piece
      kept i h = get_or-set_other c.pieces (c.n + 1) i zero_piece no_piece (λ e. omega arith)

  -- whatever is made of it
  same_made : (made : Piece → ℕ) (s : ℕ) → let p = pivot_idx (pivot c) c.n s in made (get_or c.pieces p no_piece) ≡ made (get_or (set c.pieces (c.n + 1) zero_piece) (min p c.n) no_piece)
  same_made made s = ap made (stands_for (pivot_idx (pivot c) c.n s) (idx_le (pivot c) c.n s))

module _ (p : Plan) where
  pub same_luma : piece_above p.y ≡ piece_n p.y → (s : ℕ) → SameLuma p s
  unfolding mapped mapped_before_r2
  same_luma twice s = same_made p.y twice (poly p.header p.y s) s

  pub same_chroma : (c : Component) → piece_above c ≡ piece_n c → (s s0 s1 s2 : ℕ) → SameChroma p c s s0 s1 s2
  unfolding mapped mapped_before_r2 chroma_mapped chroma_before_r2 mmr_mapped
  same_chroma c twice s s0 s1 s2 =
      let h = p.header in
      same_made c twice (λ q. cond (eqb q.idc 1) (mmr_mapped (bl_depth h) h.d (mmr_piece q) (mapping p.y) (mapping p.cb) (mapping p.cr) s0 s1 s2) (poly h c s q)) s
