-- The worked examples of MMR hold: the definitions compute. Assumes nothing.
use mathlib.Core.Path.{refl}
use Rattle.standard.specs.Mapping.{pivot_value, first_above, pivot_idx, poly_sum, polynomial, mapped}
use Rattle.standard.specs.Mmr.{row_sum, down_sampled, terms, inner_sum, mmr_sum, mmr, mmr_mapped, chroma_mapped}
use Rattle.standard.specs.MmrExamples.{WorkedMmr}

pub mmr_examples : WorkedMmr
unfolding mmr mmr_mapped mmr_sum inner_sum terms down_sampled row_sum chroma_mapped mapped polynomial poly_sum pivot_idx first_above pivot_value
mmr_examples =
    record {
      m1 = refl;
      m2 = refl;
      m3 = refl;
      m4 = refl;
      m5 = refl;
      m6 = refl;
      m7 = refl;
      m8 = refl;
      m9 = refl;
      m10 = refl;
      m11 = refl;
      m12 = refl;
      m13 = refl;
      m14 = refl;
      m15 = refl;
      m16 = refl;
      m17 = refl;
      m18 = refl;
      m19 = refl;
      c1 = refl;
      x1 = refl;
      x2 = refl;
      x3 = refl;
      d1 = refl;
      d2 = refl;
    }
