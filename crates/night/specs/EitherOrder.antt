-- R-6: base then full and full then base end in the same, from any memory: row pairs that both jobs named are full.
use Rattle.std.specs.Prelude.{◌≡◌, true, false, List, [], ◌∷◌, ℕ, ◌<◌, length, get_or}
use Rattle.picture.specs.Picture.{pair_at}
use Rattle.rules.specs.Rules.{extent, names}
use Rattle.jobs.specs.Jobs.{Job, accepted, sample, is_full}
use Rattle.calls.specs.Calls.{Memory}
use Rattle.night.specs.Sequence.{run}

-- two accepted jobs of one plan, of which one makes full row pairs and the other base-only ones
pub record BothKinds (whole base : Job) (m : Memory) : Type 0 where
  pub same_plan : base.work.plan ≡ whole.work.plan
  pub whole_accepted : accepted whole (length m.output) (length m.marks) ≡ true
  pub base_accepted : accepted base (length m.output) (length m.marks) ≡ true
  pub is_whole : is_full whole ≡ true
  pub is_base : is_full base ≡ false

-- after some jobs row pair k is full, with the samples of one of them
pub record FullAt (whole : Job) (js : List Job) (m : Memory) (k : ℕ) : Type 0 where
  pub samples : (i : ℕ) → i < length m.output → pair_at (extent whole.work.plan.header) i ≡ k → get_or (run js m).output i 0 ≡ sample whole i
  pub mark : k < length m.marks → get_or (run js m).marks k 0 ≡ 1

abbrev pub EitherOrder : Type 0
EitherOrder =
    (whole base : Job) (m : Memory) → BothKinds whole base m →
    (k : ℕ) → names whole.work k ≡ true → names base.work k ≡ true →
    FullAt whole (base ∷ whole ∷ []) m k × FullAt whole (whole ∷ base ∷ []) m k
