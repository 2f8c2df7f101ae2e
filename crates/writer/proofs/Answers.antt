-- The refusals in their order, and what each leaves. Assumes nothing.
use mathlib.Core.Path.{◌≡◌, refl, sym, ◌∙◌}
use mathlib.Core.Bool.{Bool, true, false, true≢false}
use mathlib.Core.List.{List, [], ◌∷◌, ◌++◌}
use Prim.Native.Nat.{ℕ, ◌+◌, ◌≤◌, ◌<◌}
use native.Mathlib.Omega.{arith}
use lib.ListN.{length, drop}
use Rattle.std.specs.Prelude.{Some, None}
use borrow.Author.Tests.{lt-ltb, le-ltb}
use Rattle.refusals.specs.Refusals.{granted, denied, outcome}
use Rattle.plan.specs.declared.Component.{Component}
use Rattle.plan.specs.declared.Plan.{Plan}
use Rattle.plan.specs.Ranges.{count_fits}
use Rattle.plan.specs.Rule7.{fitting}
use Rattle.plan.specs.Versions.{can_carry}
use Rattle.plan.proofs.Truths.{both}
use Rattle.section_writer.specs.inner.Writing.{section_length}
use Rattle.section_writer.proofs.Sizes.{is_length}
use Rattle.writer.specs.inner.Lengths.{AreLengths}
use Rattle.writer.specs.Writing.{block, writable, block_length, Limits, refusal, answer, written}
use Rattle.writer.proofs.Blocks.{some_length, y_carried, cb_carried, cr_carried, added_up, block-between}

-- what the tests show
pub bad_plan : (p : Plan) (version : ℕ) → fitting p ≡ false → writable p version ≡ false
unfolding writable
bad_plan p version e = rw e

module _ (p : Plan) (version : ℕ) where
  -- a component has no section of this version
  no_section : (writable p version ≡ true → ⊥) → writable p version ≡ false
  no_section f = go (writable p version) refl
    where
      go : (t : Bool) → writable p version ≡ t → t ≡ false
      go true w = absurd (f w)
      go false w = refl

  pub no_y : None ≡ section_length version p.y → writable p version ≡ false
  no_y e = no_section (λ w. some_length p version 0 (y_carried p version w) e)

  pub no_cb : None ≡ section_length version p.cb → writable p version ≡ false
  no_cb e = no_section (λ w. some_length p version 1 (cb_carried p version w) e)

  pub no_cr : None ≡ section_length version p.cr → writable p version ≡ false
  no_cr e = no_section (λ w. some_length p version 2 (cr_carried p version w) e)

  -- all three have
  pub are_lengths : {a b c : ℕ} → fitting p ≡ true → Some a ≡ section_length version p.y → Some b ≡ section_length version p.cb → Some c ≡ section_length version p.cr → AreLengths p version a b c
  unfolding writable
  are_lengths t f g h = record { writes = rw (t, carried p.y f, carried p.cb g, carried p.cr h); of_y = f; of_cb = g; of_cr = h }
    where
      carried : (c : Component) {m : ℕ} → Some m ≡ section_length version c → can_carry version c ≡ true
      carried c l = (both (count_fits c.n) (can_carry version c) (is_length version c 0 l).0).1

  pub no_length : writable p version ≡ false → (0 ≡ block_length p version) × Limits p version 0
  unfolding block_length
  no_length e = (rw e, record { shortest = λ t. absurd (true≢false (sym t ∙ e)); longest = omega arith })

  pub has-length : {a b c : ℕ} → AreLengths p version a b c → let n = 24 + a + b + c + 12 in (n ≡ block_length p version) × Limits p version n
  unfolding block_length
  has-length l =
      let size = added_up p version l in
      let k = block-between p version l.writes in
      (rw l.writes size, record { shortest = λ _. omega (arith, size, k.0); longest = omega (arith, size, k.1) })

  pub accepted_by : (s : List ℕ) → writable p version ≡ true → {t : List ℕ} {n : ℕ} → length (block p version) ≤ length s → n ≡ length (block p version) → t ≡ block p version ++ drop (length (block p version)) s
      → (granted (n ∷ []) ≡ answer p version (length s)) × (t ≡ written p version s)
  unfolding answer written refusal outcome
  accepted_by s e h g f = (rw (e, le-ltb (length s) (length (block p version)) h, g), f ∙ rw (e, le-ltb (length s) (length (block p version)) h))

  module _ (s : List ℕ) where
    pub refused_seven : writable p version ≡ false → (denied 7 ≡ answer p version (length s)) × (s ≡ written p version s)
    unfolding answer written refusal outcome
    refused_seven e = (rw e, rw e)

    module _ {a b c size : ℕ} (l : AreLengths p version a b c) (e : size ≡ 24 + a + b + c + 12) where
      long : size ≡ length (block p version)
      long = e ∙ added_up p version l

      pub refused_twelve : length s < size → (denied 12 ≡ answer p version (length s)) × (s ≡ written p version s)
      unfolding answer written refusal outcome
      refused_twelve h = let short : length s < length (block p version) = omega (arith, long) in (rw (l.writes, lt-ltb (length s) (length (block p version)) short), rw (l.writes, lt-ltb (length s) (length (block p version)) short))

      pub accepted : {t : List ℕ} → size ≤ length s → t ≡ block p version ++ drop (length (block p version)) s → (granted (size ∷ []) ≡ answer p version (length s)) × (t ≡ written p version s)
      accepted h f = accepted_by s l.writes (rw (← long) h) long f
