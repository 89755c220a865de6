use Prim.Native.Nat.{◌+◌, ◌*◌, ◌≤◌}
use mathlib.Core.Path.{◌≡◌, refl, ap₂, ◌∙◌}
use native.Mathlib.Nat.{mul-le-mul}
use native.Mathlib.Omega.{arith}
use lib.ListN.{length}
use Rattle.lists.specs.Lists.{at}
use Rattle.lists.proofs.PartLaws.{length_part}
use Rattle.lists.proofs.PutLaws.{grid_none, grid_at}
use Rattle.sizes.proofs.SizeLaws.{ranged}
use Rattle.archive.specs.Plan.{repair_row}
use Rattle.planning.proofs.RowLaws.{helper_there, turn, rows_long, row_made, row_is}
use Rattle.planning.proofs.rows.repair_rows.Goals as goal

pub loop-t-init : goal.loop-t-init
loop-t-init c = grid_none _ _ _ _

pub bounds-helpers-t : goal.bounds-helpers-t
bounds-helpers-t c =
    let a = c.args in
    helper_there a.records.z a.records.bytes.now a.helpers.now a.q a.gammas.now c.requires.0 c.loop-t.t (omega arith)

pub overflow_mul-first : goal.overflow_mul-first
overflow_mul-first c =
    let a = c.args in
    let l = c.loop-t in
    let T = turn a.records.z a.records.bytes.now a.helpers.now a.q a.gammas.now a.records.ranges c.requires l.t (omega arith) c.from.ensures in
    omega (arith, T.number_low)

pub overflow_mul-from : goal.overflow_mul-from
overflow_mul-from c =
    let a = c.args in
    let l = c.loop-t in
    let T = turn a.records.z a.records.bytes.now a.helpers.now a.q a.gammas.now a.records.ranges c.requires l.t (omega arith) c.from.ensures in
    omega (arith, T.row)

pub overflow_mul-coefficients : goal.overflow_mul-coefficients
overflow_mul-coefficients c =
    let a = c.args in
    let l = c.loop-t in
    let T = turn a.records.z a.records.bytes.now a.helpers.now a.q a.gammas.now a.records.ranges c.requires l.t (omega arith) c.from.ensures in
    omega (arith, T.coefficients_low)

pub overflow_add-coefficients : goal.overflow_add-coefficients
overflow_add-coefficients c =
    let a = c.args in
    let l = c.loop-t in
    let T = turn a.records.z a.records.bytes.now a.helpers.now a.q a.gammas.now a.records.ranges c.requires l.t (omega arith) c.from.ensures in
    omega (arith, T.coefficients_low, (ranged _ c.args.records.ranges).places_high)

pub slice_bounds-add_rows-end : goal.slice_bounds-add_rows-end
slice_bounds-add_rows-end c =
    let a = c.args in
    let l = c.loop-t in
    let T = turn a.records.z a.records.bytes.now a.helpers.now a.q a.gammas.now a.records.ranges c.requires l.t (omega arith) c.from.ensures in
    T.coefficients

pub overflow_add-from : goal.overflow_add-from
overflow_add-from c =
    let a = c.args in
    let l = c.loop-t in
    let T = turn a.records.z a.records.bytes.now a.helpers.now a.q a.gammas.now a.records.ranges c.requires l.t (omega arith) c.from.ensures in
    omega (arith, T.row)

pub slice_bounds-out-end : goal.slice_bounds-out-end
slice_bounds-out-end c =
    let a = c.args in
    let l = c.loop-t in
    let T = turn a.records.z a.records.bytes.now a.helpers.now a.q a.gammas.now a.records.ranges c.requires l.t (omega arith) c.from.ensures in
    omega (arith, T.row, rows_long l.t a.records.z.m 640 (repair_row a.records.z a.records.bytes.now a.helpers.now a.q a.gammas.now) l.invariant)

pub add_rows-requires : goal.add_rows-requires
add_rows-requires c =
    let a = c.args in
    let l = c.loop-t in
    let T = turn a.records.z a.records.bytes.now a.helpers.now a.q a.gammas.now a.records.ranges c.requires l.t (omega arith) c.from.ensures in
    let start = l.t * a.records.z.m in (
      omega (arith, T.number, length_part (l.t * a.records.z.places) (l.t * a.records.z.places + a.records.z.places) a.gammas.now T.coefficients),
      length_part start (start + a.records.z.m) l.out (omega (arith, T.row, rows_long l.t a.records.z.m 640 (repair_row a.records.z a.records.bytes.now a.helpers.now a.q a.gammas.now) l.invariant)) ∙ omega arith,
    )

pub loop-t-preserved : goal.loop-t-preserved
loop-t-preserved c =
    let a = c.args in
    let l = c.loop-t in
    let T = turn a.records.z a.records.bytes.now a.helpers.now a.q a.gammas.now a.records.ranges c.requires l.t (omega arith) c.from.ensures in
    let row = repair_row a.records.z a.records.bytes.now a.helpers.now a.q a.gammas.now in
    row_made l.t a.records.z.m 640 row _ (omega (arith, T.row)) l.invariant c.add_rows.ensures
    (λ e h. row_is a.records.z a.records.bytes.now a.helpers.now a.q a.gammas.now l.t e c.from.ensures refl T.coefficients)

pub returns : goal.returns
returns c =
    let l = c.loop-t in
    let z = c.args.records.z in
    λ t i h k.
    let from : t * z.m + i ≡ 0 + t * z.m + i = omega arith in
    let all : l.t ≡ length c.args.helpers.now * c.args.q = omega arith in
    let fits : l.t * z.m ≤ 640 = mul-le-mul {n₂ = 40} {m₂ = 16} (omega (arith, all, c.requires.1)) (ranged _ c.args.records.ranges).m_high in
    ap₂ at l.invariant from ∙ grid_at l.t z.m 0 _ _ t i (omega (arith, all)) k (omega (arith, fits))
