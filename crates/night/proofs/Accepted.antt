-- What some accepted job of a sequence passes: with one job more, with one that was sent before, and by a weaker test. Assumes nothing.
use mathlib.Core.Path.{◌≡◌, refl, sym, ap, ◌∙◌}
use mathlib.Core.Bool.{Bool, true, false, ◌&&◌, ◌||◌, cond, or_assoc, or-false, true≢false}
use mathlib.Core.List.{List, [], ◌∷◌, ◌++◌}
use Prim.Native.Nat.{ℕ}
use lib.Dec.{eqb}
use Rattle.refusals.proofs.Laws.{neither}
use Rattle.plan.specs.declared.Plan.{Plan}
use Rattle.rules.specs.Rules.{names}
use Rattle.jobs.specs.Jobs.{Job, accepted}
use Rattle.night.specs.Sequence.{some_accepted, named, brings, enhanced, full_after}
use Rattle.night.specs.Night.{Sent, here, later}

module _ (a b : ℕ) where
  last : (test : Job → Bool) (js : List Job) (j : Job) → some_accepted a b test (js ++ (j ∷ [])) ≡ (some_accepted a b test js || (accepted j a b && test j))
  unfolding some_accepted
  last test [] j = or-false _
  last test (i ∷ js) j =
      ap (λ (u : Bool). (accepted i a b && test i) || u) (last test js j)
      ∙ sym (or_assoc (accepted i a b && test i) (some_accepted a b test js) (accepted j a b && test j))

  again : (x y : Bool) → ((x || y) || x) ≡ (x || y)
  again true y = refl
  again false true = refl
  again false false = refl

  absorbed : (test : Job → Bool) {j : Job} {js : List Job} → Sent j js → (some_accepted a b test js || (accepted j a b && test j)) ≡ some_accepted a b test js
  unfolding some_accepted
  absorbed test {j} (here {js}) = again (accepted j a b && test j) (some_accepted a b test js)
  absorbed test {j} (later {i} {js} s) =
      or_assoc (accepted i a b && test i) (some_accepted a b test js) (accepted j a b && test j)
      ∙ ap (λ (u : Bool). (accepted i a b && test i) || u) (absorbed test s)

  pub sent_twice : (test : Job → Bool) {j : Job} {js : List Job} → Sent j js → some_accepted a b test (js ++ (j ∷ [])) ≡ some_accepted a b test js
  sent_twice test {j} {js} s = last test js j ∙ absorbed test s

  -- a row pair that is full was named
  enhanced-named : (js : List Job) (k : ℕ) → named a b js k ≡ false → enhanced a b js k ≡ false
  unfolding some_accepted
  enhanced-named [] k h = refl
  enhanced-named (j ∷ js) k h = let u = neither (accepted j a b && names j.work k) _ h in go (accepted j a b) (names j.work k) (brings j) u.0 (enhanced-named js k u.1)
    where
      go : (x y z : Bool) {w : Bool} → (x && y) ≡ false → w ≡ false → ((x && (y && z)) || w) ≡ false
      go true true z e f = absurd (true≢false e)
      go true false z e f = f
      go false y z e f = f

  pub not_named : (p : Plan) (js : List Job) (k : ℕ) → named a b js k ≡ false → full_after p a b js k ≡ false
  unfolding full_after
  not_named p js k h = go (eqb p.header.disabled 1)
    where
      go : (u : Bool) → cond u (named a b js k) (enhanced a b js k) ≡ false
      go true = h
      go false = enhanced-named js k h
