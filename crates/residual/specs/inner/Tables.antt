-- The inverse quantization (5.4.3.2) and the reconstruction (5.4.3.3) as tables; zeros where the header or the quantization cannot be computed with.
use Rattle.std.specs.Prelude.{◌&&◌, cond, List, ℕ, ◌-◌, ◌*◌, ◌^◌, pos, length, replicate}
use Rattle.runs.specs.inner.Loops.{at}
use Rattle.runs.specs.inner.Tables.{table, coded}
use Rattle.standard.specs.Residual.{residual, reconstructed}
use Rattle.plan.specs.declared.Header.{Header}
use Rattle.plan.specs.declared.Nlq.{Nlq}
use Rattle.plan.specs.Parameters.{quantization}
use Rattle.plan.specs.Ranges.{el_depth, hdr_depth, header_fits}
use Rattle.plan.specs.Rule7.{nlq_fits}
use Rattle.sums.specs.declared.Cut.{Cut}
use Rattle.residual.specs.declared.Pair.{Pair}
use Rattle.residual.specs.inner.Raising.{raised}

-- the raised residual of every code that an enhancement layer sample can have; 0 past the codes
unfoldable pub residual_table : Header → Nlq → List ℕ
residual_table h q =
    table 1024
    (coded (header_fits h && nlq_fits h q) (2 ^ el_depth h) (λ e. raised (hdr_depth h) (residual (el_depth h) h.d (quantization q) e)))

-- of two quantizations
abbrev pub residual_pair : Header → Nlq → Nlq → Pair
residual_pair h a b = record { first = residual_table h a; second = residual_table h b }

-- the raised residual of no residual
unfoldable pub no_residual : Header → List ℕ
no_residual h = replicate 1024 (cond (header_fits h) (raised (hdr_depth h) (pos 0)) 0)

-- the HDR sample of every mapped sample of a run, without residual; 0 past its end
unfoldable pub finished_code : Header → List ℕ → ℕ → ℕ
finished_code h mapped s = coded (header_fits h) (length mapped) (λ i. reconstructed (hdr_depth h) (at mapped i) (pos 0)) s

unfoldable pub finished_table : Header → List ℕ → List ℕ
finished_table h mapped = table 1024 (finished_code h mapped)

-- how an HDR sample is cut out of a sixteenth of a sum
unfoldable pub cut_numbers : Header → Cut
cut_numbers h =
    let out = hdr_depth h in
    cond (header_fits h) (record { shift = 12 - out; low = 2 * 2 ^ out; most = 2 ^ out - 1 }) (record { shift = 0; low = 0; most = 0 })
