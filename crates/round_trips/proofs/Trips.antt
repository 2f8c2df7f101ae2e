-- The round trips, by the promises of the calls. Assumes nothing.
use mathlib.Core.Path.{◌≡◌, refl, sym, ap, ap₂, ◌∙◌}
use mathlib.Core.Bool.{true}
use mathlib.Core.List.{List, [], ◌∷◌, ◌++◌}
use Prim.Native.Nat.{ℕ, ◌-◌, ◌≤◌}
use native.Mathlib.Omega.{arith}
use lib.ListN.{length, get_or, take, drop, length-drop}
use lib.Pow.{are_bytes}
use lib.Seq.{take-append_seam}
use Rattle.refusals.specs.Refusals.{Outcome, granted}
use Rattle.refusals.proofs.Laws.{none_met, outcome-granted, outcome-number, not_off}
use Rattle.plan.specs.declared.Plan.{Plan}
use Rattle.block.specs.declared.Reading.{Reading}
use Rattle.frame.specs.Frame.{trailer}
use Rattle.block.specs.Reading.{tail, read}
use Rattle.block.specs.Facts.{Sound}
use Rattle.block.proofs.Answers.{kept}
use Rattle.plan.specs.Rule7.{fitting}
use Rattle.plan.specs.Versions.{can_carry}
use Rattle.plan.specs.inner.Facts.{Sized}
use Rattle.writer.specs.Writing.{block, writable, block_length, rules, refusal, answer, written}
use Rattle.writer.proofs.Answers.{accepted_by as accepted-by}
use Rattle.round_trips.specs.RoundTrips.{WrittenIsRead, ReadIsWritten, RaisedIsRead, from_header}
use Rattle.round_trips.proofs.Carrying.{all_carried}
use Rattle.round_trips.proofs.Back.{accepted, reads_back}
use Rattle.round_trips.proofs.Forth.{writes_again}

-- what a written block's answer and content say
module _ (p : Plan) (version n : ℕ) (before : List ℕ) {after : List ℕ} {o : Outcome} (answers : o ≡ answer p version (length before)) (writes : after ≡ written p version before) (said : o ≡ granted (n ∷ [])) where
  unrefused : refusal p version (length before) ≡ 0
  unfolding answer
  unrefused = sym (outcome-number (refusal p version (length before)) (length (block p version) ∷ [])) ∙ ap (λ (x : Outcome). x.number) (sym answers ∙ said)

  is_written : writable p version ≡ true
  unfolding refusal
  is_written = not_off (writable p version) (none_met (rules p version (length before)) refl unrefused).0

  its_length : n ≡ length (block p version)
  unfolding answer
  its_length = ap (λ (x : Outcome). get_or x.values 0 0) (sym said ∙ answers ∙ sym (outcome-granted (refusal p version (length before)) (length (block p version) ∷ []) unrefused))

  first_bytes : take n after ≡ block p version
  unfolding written
  first_bytes = rw (writes, unrefused, its_length) (take-append_seam (block p version) (drop (length (block p version)) before))

gives_back : (p : Plan) (version n : ℕ) (before : List ℕ) {after bytes : List ℕ} {o : Outcome} {r : Reading} → Sized p → o ≡ answer p version (length before) → after ≡ written p version before → o ≡ granted (n ∷ [])
    → r ≡ read bytes → bytes ≡ take n after → (r.number ≡ 0) × (r.plan ≡ p)
gives_back p version n before {bytes = bytes} {r = r} sized a w s e f =
    let all : r ≡ accepted p = e ∙ ap read (f ∙ first_bytes p version n before a w s) ∙ reads_back p version (is_written p version n before a w s) sized in
    (ap (λ (x : Reading). x.number) all, ap (λ (x : Reading). x.plan) all)

pub written_is_read : WrittenIsRead
written_is_read = record { gives_back = λ w n r e f. gives_back w.handed.0 w.handed.1.0 n w.handed.1.1.0.now w.kept.1.1 w.kept.0 w.kept.1.0 e r.kept.0 f }

-- what was accepted passes rule 7, and the version that it is carries all of it
module _ (p : Plan) (version : ℕ) (passes : fitting p ≡ true) where
  can_write : can_carry version p.y ≡ true → can_carry version p.cb ≡ true → can_carry version p.cr ≡ true → writable p version ≡ true
  unfolding writable
  can_write a b c = rw (passes, a, b, c)

puts_back : (bytes : List ℕ) {r : Reading} (p : Plan) (version : ℕ) (before : List ℕ) {after : List ℕ} {o : Outcome} → are_bytes bytes ≡ true → r ≡ read bytes → r.number ≡ 0 → p ≡ r.plan → version ≡ (trailer (tail bytes)).version
    → o ≡ answer p version (length before) → after ≡ written p version before → let n = from_header bytes in n ≤ length before
    → (n ≤ length bytes) × ((o ≡ granted (n ∷ [])) × (after ≡ drop (length bytes - n) bytes ++ drop n before))
puts_back bytes {r} p version before small e ok same one a w room =
    let n = from_header bytes in
    let is : p ≡ (read bytes).plan = same ∙ ap (λ (x : Reading). x.plan) e in
    let zero : (read bytes).number ≡ 0 = sym (ap (λ (x : Reading). x.number) e) ∙ ok in
    let f = writes_again bytes small zero in
    let b : block p version ≡ drop (length bytes - n) bytes = ap₂ block is one ∙ f.1.1 in
    let size : n ≡ length (block p version) = sym (ap length b ∙ length-drop (length bytes - n) bytes ∙ omega (arith, f.1.0)) in
    let t = (kept bytes).twice zero in
    let v = (trailer (tail bytes)).version in
    let q = (read bytes).plan in
    let carried : writable q v ≡ true = can_write q v ((kept bytes).sound.passes zero) (all_carried v q.y f.0 t.0) (all_carried v q.cb f.0 t.1.0) (all_carried v q.cr f.0 t.1.1) in
    let passes : writable p version ≡ true = ap₂ writable is one ∙ carried in
    let g = accepted-by p version before passes (omega (arith, size)) size refl in
    (f.1.0, (a ∙ sym g.0, w ∙ sym g.1 ∙ ap₂ (λ (x : List ℕ) (k : ℕ). x ++ drop k before) b (sym size)))

pub read_is_written : ReadIsWritten
read_is_written = record { puts_back = λ r w small ok same version room. puts_back r.handed.0.now w.handed.0 w.handed.1.0 w.handed.1.1.0.now small r.kept.0 ok same version w.kept.0 w.kept.1.0 room }

raises : (p : Plan) (version : ℕ) (before : List ℕ) {after bytes : List ℕ} {o : Outcome} {r again : Reading} → Sized p → Sound r → r.number ≡ 0 → p ≡ r.plan → version ≡ 2
    → o ≡ answer p version (length before) → after ≡ written p version before → let n = block_length p 2 in n ≤ length before → again ≡ read bytes → bytes ≡ take n after
    → (o ≡ granted (n ∷ [])) × ((again.number ≡ 0) × (again.plan ≡ r.plan))
unfolding block_length
raises p version before sized sound ok same two a w room e f =
    let n = block_length p 2 in
    let passes : writable p 2 ≡ true = can_write p 2 (ap fitting same ∙ sound.passes ok) refl refl refl in
    let size : n ≡ length (block p 2) = rw passes in
    let said = (rw two at a) ∙ sym (accepted-by p 2 before passes (omega (arith, size)) size refl).0 in
    let back = gives_back p 2 n before sized (rw two at a) (rw two at w) said e f in
    (said, (back.0, back.1 ∙ same))

pub raised_is_read : RaisedIsRead
raised_is_read = record { raises = λ r w again ok same two room f. raises w.handed.0 w.handed.1.0 w.handed.1.1.0.now w.kept.1.1 r.kept.1 ok same two w.kept.0 w.kept.1.0 room again.kept.0 f }
