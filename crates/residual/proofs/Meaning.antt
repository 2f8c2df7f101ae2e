-- What stands in the three tables. Assumes nothing.
use mathlib.Core.Path.{◌≡◌, refl, ◌∙◌}
use mathlib.Core.Bool.{Bool, true, false, ◌&&◌, cond}
use mathlib.Core.List.{List}
use Prim.Native.Nat.{ℕ, ◌+◌, ◌-◌, ◌/◌, ◌%◌, ◌<◌, ◌≤◌, ◌^◌, zero-le}
use native.Mathlib.Nat.{lt_of_lt_of_le, mod-eq_of_lt}
use native.Mathlib.Omega.{arith}
use lib.IntN.{ℤ, pos, nat_abs}
use lib.ListN.{length, replicate}
use lib.Pow.{pow_mono}
use Rattle.runs.specs.Runs.{painted}
use Rattle.runs.specs.inner.Loops.{at, below}
use Rattle.runs.specs.inner.Tables.{table, coded}
use Rattle.runs.proofs.Tables.{at_table, coded_in, fill_none, fill_painted, fill_codes, no_codes}
use Rattle.standard.specs.Residual.{residual, reconstructed}
use Rattle.standard.proofs.Residuals.{residual_le}
use Rattle.plan.specs.declared.Header.{Header}
use Rattle.plan.specs.declared.Nlq.{Nlq}
use Rattle.plan.specs.Parameters.{quantization}
use Rattle.plan.specs.Ranges.{el_depth, hdr_depth, header_fits}
use Rattle.plan.specs.Rule7.{nlq_fits}
use Rattle.plan.proofs.Facts.{header-kept, nlq_facts}
use Rattle.plan.proofs.Truths.{both}
use Rattle.residual.specs.inner.Raising.{raised, lowered}
use Rattle.residual.specs.inner.Steps.{raised_code}
use Rattle.sums.specs.inner.Sums.{lower_by, cut_of}
use Rattle.residual.specs.inner.Tables.{residual_table, finished_code, finished_table, cut_numbers}
use Rattle.residual.proofs.Raising.{lowered-raised, raised_less}

-- a table of zeros that is filled
pub residuals_filled : (h : Header) (q : Nlq) {l : List ℕ} → l ≡ cond (header_fits h && nlq_fits h q) (painted (below (2 ^ el_depth h)) (raised_code (hdr_depth h) (el_depth h) h.d q) (replicate 1024 0)) (replicate 1024 0) → l ≡ residual_table h q
unfolding residual_table raised_code
residuals_filled h q e = e ∙ go (header_fits h && nlq_fits h q) refl
  where
    code : ℕ → ℕ
    code c = raised (hdr_depth h) (residual (el_depth h) h.d (quantization q) c)

    go : (u : Bool) → (header_fits h && nlq_fits h q) ≡ u → cond u (painted (below (2 ^ el_depth h)) code (replicate 1024 0)) (replicate 1024 0) ≡ table 1024 (coded u (2 ^ el_depth h) code)
    go true t =
        let f = header-kept h (both (header_fits h) _ t).0 in
        let few : 2 ^ el_depth h ≤ 1024 = pow_mono {j = 10} (omega (arith, f.base_depth, f.same_depth)) in
        fill_codes code refl refl (fill_painted code (fill_none 1024 code 0 (λ j k. absurd (omega arith))) zero-le few refl (λ j x y. refl)) (λ j. refl)
    go false t = no_codes 1024 (2 ^ el_depth h) code refl

-- for whoever looks an enhancement sample up
pub raised-found : (h : Header) (q : Nlq) → (header_fits h && nlq_fits h q) ≡ true → (e : ℕ) → e < 2 ^ el_depth h → at (residual_table h q) (e % 1024) ≡ raised (hdr_depth h) (residual (el_depth h) h.d (quantization q) e)
unfolding residual_table
raised-found h q u e b =
    let f = header-kept h (both (header_fits h) _ u).0 in
    let k : e < 1024 = lt_of_lt_of_le b (pow_mono {j = 10} (omega (arith, f.base_depth, f.same_depth))) in
    rw (mod-eq_of_lt k, at_table 1024 _ e k) (coded_in (2 ^ el_depth h) _ e u b)

-- and what it is
pub residual_small : (h : Header) (q : Nlq) → (header_fits h && nlq_fits h q) ≡ true → (e : ℕ) → nat_abs (residual (el_depth h) h.d (quantization q) e) ≤ 2 ^ 17
residual_small h q u e =
    let f = header-kept h (both (header_fits h) _ u).0 in
    residual_le (el_depth h) h.d (quantization q) (omega (arith, f.base_depth, f.same_depth)) f.deep (nlq_facts h q (both (header_fits h) _ u).1).maximum e

module _ (h : Header) (u : header_fits h ≡ true) where
  pub code_finished : (mapped : List ℕ) (s : ℕ) → s < length mapped → finished_code h mapped s ≡ reconstructed (hdr_depth h) (at mapped s) (pos 0)
  unfolding finished_code
  code_finished mapped s b = coded_in (length mapped) _ s u b

  -- for whoever looks a mapped sample, or a sum, up
  pub finished_found : (mapped : List ℕ) (s : ℕ) → s % 1024 < length mapped → at (finished_table h mapped) (s % 1024) ≡ reconstructed (hdr_depth h) (at mapped (s % 1024)) (pos 0)
  unfolding finished_table
  finished_found mapped s b = at_table 1024 (finished_code h mapped) (s % 1024) (omega arith) ∙ code_finished mapped (s % 1024) b

  pub cut-found : (v : ℕ) (r : ℤ) → v ≤ 65535 → nat_abs r ≤ 2 ^ 17 → cut_of (cut_numbers h) (v + raised (hdr_depth h) r) ≡ reconstructed (hdr_depth h) v r
  unfolding cut_numbers lower_by lowered
  cut-found v r small low =
      let out : hdr_depth h ≤ 12 = omega (arith, (header-kept h u).out_depth) in
      let k : (v + raised (hdr_depth h) r) / 16 < 32768 = omega (arith, raised_less (hdr_depth h) r low) in
      let s : 12 - hdr_depth h < 8 = omega arith in
      rw (u, mod-eq_of_lt k, mod-eq_of_lt s) (lowered-raised (hdr_depth h) out v r small)

-- a header that cannot be computed with
module _ (h : Header) (u : header_fits h ≡ false) where
  pub not_finished : (mapped : List ℕ) (s : ℕ) → 0 ≡ finished_code h mapped s
  unfolding finished_code coded
  not_finished mapped s = rw u
