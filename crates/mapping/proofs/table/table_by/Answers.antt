use mathlib.Core.Path.{◌≡◌, refl, ap, ◌∙◌}
use mathlib.Core.List.{List}
use borrow.Author.Rules.{rules}
use Prim.Native.Nat.{ℕ, ◌+◌, ◌*◌, ◌%◌, ◌^◌, ◌<◌, ◌≤◌, min}
use native.Mathlib.Nat.{lt_of_lt_of_le}
use native.Mathlib.Omega.{arith}
use lib.ListN.{length-replicate}
use lib.Pow.{pow_mono}
use Rattle.runs.specs.inner.Loops.{at}
use Rattle.runs.proofs.Tables.{Filled, fill_none, fill_painted, fill_codes}
use Rattle.plan.specs.Rule7.{pieces_used}
use Rattle.plan.proofs.Shifting.{one_shifted}
use Rattle.steps.proofs.Small.{pivots_small}
use Rattle.mapping.specs.inner.Copies.{row_of}
use Rattle.mapping.specs.inner.Steps.{by_row, RowRanges, mapped_by, pivots_by, table_by}
use Rattle.mapping.proofs.InOrder.{lowest, rises, below_first, in_piece, from_last}
use Rattle.mapping.proofs.table.table_by.Goals.{After-clamp-end, After-loop-p, After-pivots_of-pivots, In-loop-p, Start, Then-s-codes}
use Rattle.mapping.proofs.table.table_by.Goals as goal

-- ways back
abbrev start : After-pivots_of-pivots → Start
start v = search rules

abbrev turn : In-loop-p → After-pivots_of-pivots
turn il = search rules

abbrev inside : After-clamp-end → In-loop-p
inside e = search rules

abbrev before : After-loop-p → After-pivots_of-pivots
before c = search rules

-- there are 2 ^ depth codes, and no more than places
all : (s : Start) → (1 * 2 ^ s.args.scale.depth) % 18446744073709551616 ≡ 2 ^ s.args.scale.depth
all s = one_shifted s.args.scale.depth (omega arith)

few : (s : Start) → 2 ^ s.args.scale.depth ≤ 1024
few s = pow_mono {j = 10} s.args.scale.shallow

-- the pivots are sums: predictions are small
made : (v : After-pivots_of-pivots) → v.pivots_of-pivots.result ≡ pivots_by v.args.preds
made v = let s = start v in v.pivots_of-pivots.ensures ∙ pivots_small v.args.preds (λ i. lt_of_lt_of_le (v.requires.pivot i) (few s))

-- the first pivot is a code
low : (v : After-pivots_of-pivots) → at v.pivots_of-pivots.result 0 < 2 ^ v.args.scale.depth
low v = omega (arith, lowest v.args.preds (made v), v.requires.pivot 0)

-- what the mapping step asks, of the row of any piece that is used
ranges : (v : After-pivots_of-pivots) (s p : ℕ) → let a = v.args in p < pieces_used a.n → s ≤ 2 ^ a.scale.depth → RowRanges a.scale.depth s (row_of a.polynomials.now p)
ranges v s p k b =
    record { shallow = v.args.scale.shallow; sample = b; coefficient = λ i. v.requires.coefficient p i k }

pub loop-p-init : goal.loop-p-init
loop-p-init c =
    let v : After-pivots_of-pivots = search rules in
    let a = c.args in (
      omega (arith, low v, all (start v)),
      fill_painted _ (fill_none 1024 _ 0 (λ j h. absurd (omega arith))) (omega arith) (omega (arith, low v, few (start v))) c.hold.ensures
          (λ j x y. c.map_step.ensures ∙ below_first a.preds (made v) a.scale.depth a.scale.d a.n a.polynomials.now c.requires.count j y),
    )

-- a piece goes from where the one before it ended to its next pivot, or to the codes' end
ends : (e : After-clamp-end) → let il = inside e in let v = turn il in (e.loop-p.s ≤ e.clamp-end.result) × (e.clamp-end.result ≤ 2 ^ e.args.scale.depth)
ends e =
    let il = inside e in
    let v = turn il in
    let p = e.loop-p.p in (
      omega (arith, e.clamp-end.ensures, e.loop-p.invariant.0, rises e.args.preds (made v) p (p + 1) (omega arith) (omega (arith, e.loop-p-test, e.requires.count))),
      omega (arith, e.clamp-end.ensures, all (start v)),
    )

pub go_on-requires : goal.go_on-requires
go_on-requires c =
    let e : After-clamp-end = search rules in
    let g = c.requires in (
      record {
        ordered = (ends e).0;
        codes = (ends e).1;
        coefficient = λ i. g.coefficient c.loop-p.p i (omega (arith, c.loop-p-test));
      },
      c.loop-p.invariant.1.long,
    )

pub loop-p-preserved : goal.loop-p-preserved
loop-p-preserved c =
    let e : After-clamp-end = search rules in
    let il = inside e in
    let v = turn il in
    let st = start v in
    let a = c.args in
    let l = c.loop-p in (
      omega (arith, c.clamp-end.ensures),
      fill_painted _ l.invariant.1 (ends e).0 (omega (arith, (ends e).1, few st)) c.go_on.ensures
          (λ j x y. in_piece a.preds (made v) a.scale.depth a.scale.d a.n a.polynomials.now c.requires.count l.p j (omega (arith, c.loop-p-test)) (omega (arith, l.invariant.0, c.clamp-end.ensures)) (omega (arith, c.clamp-end.ensures))),
    )

-- all pieces have their codes, up to the last pivot or all there are
reached : (c : After-loop-p) → let v = before c in c.loop-p.s ≡ min (at c.pivots_of-pivots.result (c.args.n + 1)) (2 ^ c.args.scale.depth)
reached c =
    let v = before c in
    let l = c.loop-p in
    let e : l.p ≡ c.args.n + 1 = omega (arith, c.loop-p-test) in
    let same : l.s ≡ min (at c.pivots_of-pivots.result l.p) (2 ^ c.args.scale.depth) = omega (arith, l.invariant.0, all (start v)) in
    same ∙ ap (λ (p : ℕ). min (at c.pivots_of-pivots.result p) (2 ^ c.args.scale.depth)) e

-- the table, filled as far as there are codes
filled : (v : After-pivots_of-pivots) {i : ℕ} {table : List ℕ} → let a = v.args in i ≡ 2 ^ a.scale.depth → Filled 1024 (mapped_by a.scale.depth a.scale.d a.n v.pivots_of-pivots.result a.polynomials.now) i table → table ≡ table_by a.scale.depth a.scale.d a.n a.preds a.polynomials.now
filled v e h =
    let a = v.args in
    fill_codes _ refl e h (λ j. ap (λ (l : List ℕ). mapped_by a.scale.depth a.scale.d a.n l a.polynomials.now j) (made v))

abbrev passed : Then-s-codes → After-loop-p
passed t = search rules

-- codes are left: the last pivot is one of them
last_is : (t : Then-s-codes) → t.loop-p.s ≡ at t.pivots_of-pivots.result (t.args.n + 1)
last_is t = omega (arith, reached (passed t), t.if-s-codes.true, all (start (before (passed t))))

pub returns-then-s-codes : goal.returns-then-s-codes
returns-then-s-codes c =
    let t : Then-s-codes = search rules in
    let v = before (passed t) in
    let st = start v in
    let a = v.args in
    let l = c.loop-p in
    filled v (all st)
    (fill_painted _ l.invariant.1 (omega (arith, c.if-s-codes.true)) (omega (arith, all st, few st)) c.hold-then-s-codes.ensures
    (λ j x y. c.map_step-then-s-codes.ensures ∙ ap (by_row a.scale.depth a.scale.d (row_of a.polynomials.now (a.n + 1))) (last_is t)
    ∙ from_last a.preds (made v) a.scale.depth a.scale.d a.n a.polynomials.now v.requires.count j (omega (arith, last_is t))))

pub returns-else-s-codes : goal.returns-else-s-codes
returns-else-s-codes c =
    let p : After-loop-p = search rules in
    let v = before p in
    filled v (omega (arith, reached p, c.if-s-codes.false, all (start v))) c.loop-p.invariant.1

pub overflow_shl-codes : goal.overflow_shl-codes
overflow_shl-codes c =
    omega (arith, c.args.scale.shallow)

pub overflow_cast-codes-2 : goal.overflow_cast-codes-2
overflow_cast-codes-2 c =
    let s : Start = search rules in
    omega (arith, all s, few s)

pub map_step-requires : goal.map_step-requires
map_step-requires c =
    let v : After-pivots_of-pivots = search rules in ranges v _ 0 (omega arith) (omega (arith, low v))

pub hold-requires : goal.hold-requires
hold-requires c =
    let v : After-pivots_of-pivots = search rules in
    (omega arith, omega (arith, low v, few (start v)), length-replicate {A = ℕ} 1024 0)

pub map_step-requires-then-s-codes : goal.map_step-requires-then-s-codes
map_step-requires-then-s-codes c =
    let t : Then-s-codes = search rules in ranges (before (passed t)) _ _ (omega arith) (omega (arith, c.if-s-codes.true, all (start (before (passed t)))))

pub hold-requires-then-s-codes : goal.hold-requires-then-s-codes
hold-requires-then-s-codes c =
    let t : Then-s-codes = search rules in
    (omega (arith, c.if-s-codes.true), omega (arith, all (start (before (passed t))), few (start (before (passed t)))), c.loop-p.invariant.1.long)
