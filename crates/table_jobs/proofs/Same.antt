-- A table that was filled from the plan gives what the plan gives: sample by sample, and of a job its answer, its output and its
-- marks. Assumes nothing.
use mathlib.Core.Path.{◌≡◌, refl, sym, ap, ap₂, subst, ◌∙◌}
use mathlib.Core.Bool.{Bool, true, false, cond}
use mathlib.Core.List.{List, []}
use mathlib.Core.Logic.{⊎_elim}
use Prim.Native.Nat.{ℕ, ◌+◌, ◌*◌, ◌^◌, ◌<◌, ◌≤◌}
use native.Mathlib.Omega.{arith}
use lib.Dec.{eqb}
use lib.ListN.{length, get_or, get_or-eq_default}
use lib.Pow.{pow_pos}
use borrow.Author.Tests.{eqb-true, eq-eqb}
use Rattle.runs.specs.Runs.{painted}
use Rattle.std.proofs.lemmas.Bool.{cases_lt}
use Rattle.runs.proofs.Painting.{painted_cong}
use Rattle.standard.specs.Mapping.{mapped}
use Rattle.standard.specs.Residual.{reconstructed}
use Rattle.picture.specs.Picture.{of_plane, pair_at}
use Rattle.picture.proofs.Three.{of_plane_ap}
use Rattle.plan.specs.declared.Component.{Component}
use Rattle.plan.specs.declared.Plan.{Plan}
use Rattle.plan.specs.Parameters.{mapping}
use Rattle.plan.specs.Ranges.{bl_depth, hdr_depth}
use Rattle.plan.specs.Rule7.{fitting}
use Rattle.plan.specs.Tables.{has_mmr}
use Rattle.rules.specs.Rules.{Source, by_plan, by_table, Given, extent, names, rules}
use Rattle.rules.proofs.Accepting.{SourceFits, Accepted}
use Rattle.compose.specs.Composing.{mapped_at, residual_at, looked_up_at, composed_by, composed_at, composes}
use Rattle.compose.proofs.Meaning.{chroma_alone}
use Rattle.filling.specs.Filling.{part_component, table_entry, filled}
use Rattle.filling.proofs.Meaning.{entry_at, length-filled, at-filled, cb_maps, cr_maps}
use Rattle.jobs.specs.Jobs as jobs
use Rattle.jobs.specs.Jobs.{Job, job_refusal}
use Rattle.jobs.proofs.Accepting.{accepted-job, composes-named}

-- ---- a sample
module _ (p : Plan) (fits : fitting p ≡ true) (polynomials : has_mmr p ≡ false) (base : List ℕ) (i : ℕ) (code : get_or base i 0 < 2 ^ bl_depth p.header) where
  abbrev codes : ℕ
  codes = 2 ^ bl_depth p.header

  abbrev s : ℕ
  s = get_or base i 0

  abbrev by_codes : Component → ℕ
  by_codes c = mapped (bl_depth p.header) p.header.d (mapping c) s

  -- what part k has for the code
  in_part : (k from : ℕ) → from ≡ k * codes → from + codes ≤ 3 * codes → get_or (filled p) (from + s) 0 ≡ by_codes (part_component p k)
  in_part k from begins within =
      at-filled p (from + s) (omega arith)
      ∙ ap (λ (n : ℕ). table_entry p (n + s)) begins
      ∙ entry_at p k s code

  pub same_mapped : looked_up_at p.header (filled p) base i ≡ mapped_at p base i
  unfolding looked_up_at mapped_at
  same_mapped =
      let e = extent p.header in
      of_plane_ap (λ (from : ℕ). get_or (filled p) (from + s) 0) e i 0 codes (2 * codes)
      ∙ three
      (in_part 0 0 (omega arith) (omega arith))
      (in_part 1 codes (omega arith) (omega arith) ∙ sym (chroma_alone p base p.cb (cb_maps p fits polynomials) s _))
      (in_part 2 (2 * codes) refl (omega arith) ∙ sym (chroma_alone p base p.cr (cr_maps p fits polynomials) s _))
    where
      three : {y cb cr y' cb' cr' : ℕ} → y ≡ y' → cb ≡ cb' → cr ≡ cr' → of_plane (extent p.header) i y cb cr ≡ of_plane (extent p.header) i y' cb' cr'
      three {y} {cb} {cr} {y'} {cb'} {cr'} a b c = ap₂ (λ (u v : ℕ). of_plane (extent p.header) i u v cr) a b ∙ ap (of_plane (extent p.header) i y' cb') c

-- ---- whatever an accepted call has its mapped samples from, where a table is the plan's
abbrev pub IsFilled : Plan → Source → Type 0
IsFilled p s = (t : List ℕ) → s ≡ by_table t → t ≡ filled p

pub same_composed : (g : Given) (n : ℕ) → Accepted g n → IsFilled g.plan g.source → (i : ℕ) → names g (pair_at (extent g.plan.header) i) ≡ true → composed_by g.source g.plan g.base g.enhancement i ≡ composed_at g.plan g.base g.enhancement i
unfolding composed_by names
same_composed g n a is i named = go g.source refl
  where
    code : get_or g.base i 0 < 2 ^ bl_depth g.plan.header
    code = ⊎_elim (λ b. a.base_small i b named) (λ b. rw (get_or-eq_default g.base 0 b) (pow_pos (bl_depth g.plan.header))) (cases_lt i (length g.base))

    go : (s : Source) → g.source ≡ s → composed_by s g.plan g.base g.enhancement i ≡ composed_at g.plan g.base g.enhancement i
    go by_plan e = refl
    go (by_table t) e =
        let f : SourceFits g.plan (by_table t) = subst (SourceFits g.plan) e a.source_fits in
        ap (λ (v : ℕ). reconstructed (hdr_depth g.plan.header) v (residual_at g.plan g.enhancement i))
        (ap (λ (l : List ℕ). looked_up_at g.plan.header l g.base i) (is t e) ∙ same_mapped g.plan a.fits f.1 g.base i code)

-- ---- a job
-- a plain job, and one that is lent the table of its plan
module _ (p : Plan) (open_ticket ticket first count : ℕ) (base enhancement : List ℕ) (fits : fitting p ≡ true) (polynomials : has_mmr p ≡ false) where
  abbrev plain : Job
  plain = jobs.job p open_ticket ticket first count base enhancement

  abbrev lent : Job
  lent = jobs.table_job p (filled p) open_ticket ticket first count base enhancement

  same_refusal : (a b : ℕ) → job_refusal lent a b ≡ job_refusal plain a b
  unfolding job_refusal rules
  same_refusal a b = rw (eq-eqb _ _ (length-filled p), polynomials)

  same_accepted : (a b : ℕ) → jobs.accepted lent a b ≡ jobs.accepted plain a b
  unfolding jobs.accepted
  same_accepted a b = ap (λ (n : ℕ). eqb n 0) (same_refusal a b)

  pub same_output : (output marks : List ℕ) → jobs.output_after lent output marks ≡ jobs.output_after plain output marks
  unfolding jobs.output_after jobs.accepted composes names
  same_output output marks = rw (same_refusal (length output) (length marks)) (go (job_refusal plain (length output) (length marks)) refl)
    where
      selected : ℕ → Bool
      selected i = composes plain.work marks (pair_at (extent p.header) i)

      go : (n : ℕ) → job_refusal plain (length output) (length marks) ≡ n → cond (eqb n 0) (painted selected (jobs.sample lent) output) output ≡ cond (eqb n 0) (painted selected (jobs.sample plain) output) output
      go n e = on (eqb n 0) refl
        where
          on : (t : Bool) → eqb n 0 ≡ t → cond t (painted selected (jobs.sample lent) output) output ≡ cond t (painted selected (jobs.sample plain) output) output
          on true q =
              let a = accepted-job lent (length output) (length marks) (same_refusal (length output) (length marks) ∙ e ∙ eqb-true n 0 q) in
              painted_cong _ _ _ _ output (λ i b. refl) (λ i b s. same_composed lent.work (length output) a.work (λ t z. is_table t z) i (composes-named lent.work marks _ s))
            where
              is_table : (t : List ℕ) → by_table (filled p) ≡ by_table t → t ≡ filled p
              is_table t z = sym (ap held z)
                where
                  held : Source → List ℕ
                  held by_plan = []
                  held (by_table l) = l
          on false q = refl

  pub same_marks : (output marks : List ℕ) → jobs.marks_after lent output marks ≡ jobs.marks_after plain output marks
  unfolding jobs.marks_after composes names
  same_marks output marks = rw (same_accepted (length output) (length marks)) refl

  pub same_answer : (output marks : List ℕ) → jobs.job_answer lent output marks ≡ jobs.job_answer plain output marks
  unfolding jobs.job_answer
  same_answer output marks = rw (same_refusal (length output) (length marks), same_marks output marks) refl
