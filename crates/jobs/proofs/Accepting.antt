-- What an accepted job gives: its work is accepted, and each row pair that it names has a mark. Assumes nothing.
use mathlib.Core.Path.{◌≡◌, refl}
use mathlib.Core.Bool.{true, not}
use mathlib.Core.List.{List, ◌∷◌, ◌++◌}
use Prim.Native.Nat.{ℕ, ◌<◌}
use native.Mathlib.Omega.{arith}
use lib.Dec.{eqb}
use lib.ListN.{length}
use borrow.Author.Tests.{eqb-true}
use Rattle.runs.proofs.Between.{between_true}
use Rattle.refusals.specs.Refusals.{rule}
use Rattle.refusals.proofs.Laws.{not_first, not_off}
use Rattle.plan.specs.Rule7.{fitting}
use Rattle.plan.proofs.Truths.{both}
use Rattle.rules.specs.Rules.{Given, names, wrong_length, rows_rules, source_rules, rules, refusal}
use Rattle.rules.proofs.Accepting as rules-accepting
use Rattle.rules.proofs.Accepting.{Accepted}
use Rattle.compose.specs.Composing.{composes}
use Rattle.jobs.specs.Jobs.{Job, job_refusal, accepted}

pub record AcceptedJob (j : Job) (a b : ℕ) : Type 0 where
  pub work : Accepted j.work a
  pub marks : b ≡ j.work.plan.header.pairs

pub accepted-job : (j : Job) (a b : ℕ) → job_refusal j a b ≡ 0 → AcceptedJob j a b
unfolding job_refusal refusal rules
accepted-job j a b e =
    let g = j.work in
    let h = g.plan.header in
    let nine = rule 9 (wrong_length h (length g.base) (length g.enhancement) a) ∷ (source_rules g.plan g.source ++ rows_rules h g.first g.count g.base g.enhancement) in
    let marks = rule 9 (not (eqb b h.pairs)) in
    let tickets = rule 8 (not (eqb j.ticket j.open_ticket)) in
    let u = not_first (rule 7 (not (fitting g.plan))) (tickets ∷ marks ∷ nine) refl e in
    let v = not_first tickets (marks ∷ nine) refl u.1 in
    let w = not_first marks nine refl v.1 in
    record { work = rules-accepting.accepted g a (rw u.0 w.1); marks = eqb-true b _ (not_off _ w.0) }

pub named-marked : (j : Job) (a b k : ℕ) → accepted j a b ≡ true → names j.work k ≡ true → k < b
unfolding accepted names
named-marked j a b k h n =
    let g = accepted-job j a b (eqb-true _ 0 h) in
    omega (arith, between_true _ _ k n, g.marks, g.work.sizes.pairs)

-- a row pair that a job composes is one that it names
pub composes-named : (g : Given) (marks : List ℕ) (k : ℕ) → composes g marks k ≡ true → names g k ≡ true
unfolding composes
composes-named g marks k h = (both (names g k) _ h).0
