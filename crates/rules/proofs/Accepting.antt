-- What acceptance gives: no rule of the list is met, and so each run and each sample is as composing needs it. Assumes nothing.
use mathlib.Core.Path.{◌≡◌, refl}
use mathlib.Core.Bool.{Bool, true, false, not}
use mathlib.Core.List.{List, ◌∷◌, ◌++◌}
use Prim.Native.Nat.{ℕ, ◌+◌, ◌^◌, ◌≤◌, ◌<◌}
use native.Mathlib.Omega.{arith}
use lib.Dec.{eqb}
use lib.ListN.{length, get_or}
use borrow.Author.Tests.{eqb-true, ltb-false, leb-false}
use Rattle.runs.specs.Runs.{some, at_least}
use Rattle.runs.proofs.Testing.{some_false}
use Rattle.refusals.specs.Refusals.{Rule, rule, first_met}
use Rattle.refusals.proofs.Laws.{none_met, not_first, neither, not_off, where_on}
use Rattle.picture.specs.Picture.{picture_size, in_pairs}
use Rattle.picture.specs.inner.Planes.{InPicture}
use Rattle.plan.specs.declared.Header.{Header}
use Rattle.plan.specs.Ranges.{bl_depth, el_depth}
use Rattle.plan.specs.declared.Plan.{Plan}
use Rattle.plan.specs.Rule7.{fitting}
use Rattle.plan.specs.Tables.{table_size, has_mmr}
use Rattle.plan.specs.inner.Facts.{HeaderFacts}
use Rattle.rules.specs.Rules.{Source, by_plan, by_table, Given, extent, used, wrong_length, wrong_pairs, wrong_sample, rows_rules, source_rules, rules, refusal}

-- rules 9 and 10 are not met
pub record Sized (h : Header) (first count base enhancement output : ℕ) : Type 0 where
  pub base_size : base ≡ picture_size (extent h)
  pub output_size : output ≡ picture_size (extent h)
  pub enhancement_size : used h enhancement ≡ true → enhancement ≡ picture_size (extent h)
  pub pairs : first + count ≤ h.pairs

pub sized : (h : Header) (first count base enhancement output : ℕ) → wrong_length h base enhancement output ≡ false → wrong_pairs h first count ≡ false → Sized h first count base enhancement output
unfolding wrong_length wrong_pairs
sized h first count base enhancement output l p =
    let size = picture_size (extent h) in
    let b = neither (not (eqb base size)) _ l in
    let o = neither (not (eqb output size)) _ b.1 in
    record {
      base_size = eqb-true _ _ (not_off _ b.0);
      output_size = eqb-true _ _ (not_off _ o.0);
      enhancement_size = λ on. eqb-true _ _ (not_off _ (where_on (used h enhancement) _ o.1 on));
      pairs = ltb-false _ _ (neither (eqb count 0) _ p).1;
    }

-- the row pairs lie within any run of the picture's size
pub in_picture : (h : Header) (first count n : ℕ) → HeaderFacts h → first + count ≤ h.pairs → n ≡ picture_size (extent h) → InPicture (extent h) first (first + count) n
in_picture h first count n f p e = record { some_columns = f.some_columns; forward = omega arith; within = p; whole = e }

-- a table that is lent has the right length, and the plan has such a table
abbrev pub SourceFits : Plan → Source → Type 0
SourceFits p by_plan = Unit {0}
SourceFits p (by_table t) = (length t ≡ table_size p.header) × (has_mmr p ≡ false)

fits_source : (p : Plan) (s : Source) (rs : List Rule) → first_met (source_rules p s ++ rs) ≡ 0 → SourceFits p s × (first_met rs ≡ 0)
fits_source p by_plan rs h = (tt, h)
fits_source p (by_table t) rs h =
    let l = not_first (rule 9 (not (eqb (length t) (table_size p.header)))) (rule 13 (has_mmr p) ∷ rs) refl h in
    let m = not_first (rule 13 (has_mmr p)) rs refl l.1 in
    ((eqb-true _ _ (not_off _ l.0), m.0), m.1)

-- no rule is met
pub record Accepted (g : Given) (output : ℕ) : Type 0 where
  pub fits : fitting g.plan ≡ true
  pub source_fits : SourceFits g.plan g.source
  pub sizes : Sized g.plan.header g.first g.count (length g.base) (length g.enhancement) output
  pub base_small : (i : ℕ) → i < length g.base → in_pairs (extent g.plan.header) g.first (g.first + g.count) i ≡ true → get_or g.base i 0 < 2 ^ bl_depth g.plan.header
  pub enhancement_small : used g.plan.header (length g.enhancement) ≡ true → (i : ℕ) → i < length g.enhancement → in_pairs (extent g.plan.header) g.first (g.first + g.count) i ≡ true → get_or g.enhancement i 0 < 2 ^ el_depth g.plan.header

small : (named : ℕ → Bool) (limit : ℕ) (run : List ℕ) → some named (at_least limit) run ≡ false → (i : ℕ) → i < length run → named i ≡ true → get_or run i 0 < limit
unfolding at_least
small named limit run h i b n = leb-false limit (get_or run i 0) (some_false named (at_least limit) run h i b n)

pub accepted : (g : Given) (output : ℕ) → refusal g output ≡ 0 → Accepted g output
unfolding refusal rules wrong_sample
accepted g output h =
    let k = g.plan.header in
    let rows = rows_rules k g.first g.count g.base g.enhancement in
    let lengths = rule 9 (wrong_length k (length g.base) (length g.enhancement) output) in
    let seven = not_first (rule 7 (not (fitting g.plan))) (lengths ∷ (source_rules g.plan g.source ++ rows)) refl h in
    let nine = not_first lengths (source_rules g.plan g.source ++ rows) refl seven.1 in
    let source = fits_source g.plan g.source rows nine.1 in
    let unmet = none_met rows refl source.1 in
    let w = neither _ _ unmet.1.0 in
    record {
      fits = not_off _ seven.0;
      source_fits = source.0;
      sizes = sized _ _ _ _ _ _ nine.0 unmet.0;
      base_small = small _ _ _ w.0;
      enhancement_small = λ on. small _ _ _ (where_on (used g.plan.header (length g.enhancement)) _ w.1 on);
    }
