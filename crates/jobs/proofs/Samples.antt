-- The samples of a job: demand 2, and that a disabled residual makes every enhancement the same. Assumes nothing.
use mathlib.Core.Path.{◌≡◌, refl, ap, ◌∙◌}
use mathlib.Core.Bool.{Bool, true, false, ◌&&◌, cond, and-false}
use mathlib.Core.List.{List, []}
use Prim.Native.Nat.{ℕ, ◌<◌}
use lib.Dec.{eqb}
use lib.ListN.{length, get_or}
use borrow.Author.Tests.{eqb-true}
use Rattle.runs.specs.Runs.{painted}
use Rattle.runs.proofs.Painting.{at-painted}
use Rattle.picture.specs.Picture.{pair_at}
use Rattle.plan.specs.declared.Plan.{Plan}
use Rattle.rules.specs.Rules.{Source, extent, used}
use Rattle.marks.specs.Marks.{full_at}
use Rattle.compose.specs.Composing.{residual_at, composed_by, composes}
use Rattle.jobs.specs.Jobs.{Job, accepted, sample, is_full, output_after, marks_after, EverySample}

-- of a run that is painted where a job is accepted, what stands at an index
written : (u s : Bool) (selected : ℕ → Bool) (new : ℕ → ℕ) (run : List ℕ) (i : ℕ) → i < length run → selected i ≡ s → get_or (cond u (painted selected new run) run) i 0 ≡ cond (u && s) (new i) (get_or run i 0)
written true s selected new run i l h = at-painted _ _ run i 0 l ∙ ap (λ (v : Bool). cond v (new i) (get_or run i 0)) h
written false s selected new run i l h = refl

neither : (u : Bool) (x y : ℕ) → cond (u && false) x y ≡ y
neither true x y = refl
neither false x y = refl

module _ (j : Job) (output marks : List ℕ) where
  abbrev at_pair : ℕ → ℕ
  at_pair i = pair_at (extent j.work.plan.header) i

  -- a sample, and a mark, by whether the job is accepted and composes its row pair
  pub sample_by : (u s : Bool) → accepted j (length output) (length marks) ≡ u → (i : ℕ) → i < length output → composes j.work marks (at_pair i) ≡ s → get_or (output_after j output marks) i 0 ≡ cond (u && s) (sample j i) (get_or output i 0)
  unfolding output_after
  sample_by u s h i l c = rw h (written u s (λ i. composes j.work marks (at_pair i)) (sample j) output i l c)

  pub mark_by : (u s : Bool) → accepted j (length output) (length marks) ≡ u → (k : ℕ) → k < length marks → composes j.work marks k ≡ s → get_or (marks_after j output marks) k 0 ≡ cond (u && s) (cond (is_full j) 1 2) (get_or marks k 0)
  unfolding marks_after
  mark_by u s h k l c = rw h (written u s (composes j.work marks) (λ k. cond (is_full j) 1 2) marks k l c)

  kept : (k : ℕ) → is_full j ≡ false → full_at marks k ≡ true → composes j.work marks k ≡ false
  unfolding composes
  kept k f a = rw (f, a, and-false)

  abbrev is_accepted : Bool
  is_accepted = accepted j (length output) (length marks)

  unchanged : (i : ℕ) → i < length output → composes j.work marks (at_pair i) ≡ false → get_or (output_after j output marks) i 0 ≡ get_or output i 0
  unchanged i l c = sample_by is_accepted false refl i l c ∙ neither is_accepted _ _

  unmarked : (k : ℕ) → k < length marks → composes j.work marks k ≡ false → get_or (marks_after j output marks) k 0 ≡ get_or marks k 0
  unmarked k l c = mark_by is_accepted false refl k l c ∙ neither is_accepted _ _

  untouched : accepted j (length output) (length marks) ≡ false → output_after j output marks ≡ output
  unfolding output_after
  untouched h = rw h

pub every_sample_holds : EverySample
every_sample_holds =
    record {
      composed = λ j output marks h i l c. sample_by j output marks true true h i l c;
      others = unchanged;
      refused = untouched;
      kept_samples = λ j output marks i l f a. unchanged j output marks i l (kept j output marks _ f a);
      kept_marks = λ j output marks k l f a. unmarked j output marks k l (kept j output marks k f a);
    }

pub same_sample : (s : Source) (p : Plan) (base e e' : List ℕ) (i : ℕ) → (p.header.disabled ≡ 0 → e ≡ e') → composed_by s p base e i ≡ composed_by s p base e' i
unfolding composed_by residual_at used
same_sample s p base e e' i h = go (eqb p.header.disabled 0) refl
  where
    go : (b : Bool) → eqb p.header.disabled 0 ≡ b → composed_by s p base e i ≡ composed_by s p base e' i
    go true q = ap (λ (x : List ℕ). composed_by s p base x i) (h (eqb-true _ 0 q))
    go false q = rw q

-- an enhancement that is not used is as none
pub unused_sample : (s : Source) (p : Plan) (base e : List ℕ) (i : ℕ) → used p.header (length e) ≡ false → composed_by s p base e i ≡ composed_by s p base [] i
unfolding composed_by residual_at used
unused_sample s p base e i h = rw (h, and-false)
