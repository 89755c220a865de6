use Prim.Native.Nat.{ℕ, ◌+◌, ◌/◌}
use mathlib.Core.Path.{sym, subst, ◌∙◌}
use mathlib.Core.Bool.{Bool, false}
use native.Mathlib.Omega.{arith}
use Rattle.lists.proofs.ReplaceLaws.{Replaced, replaced_none, replaced_keep, replaced_put}
use Rattle.sizes.proofs.SizeLaws.{ranged}
use Rattle.sizes.proofs.PlaceLaws.{count_low, node_of}
use Rattle.archive.specs.Losses.{in_set}
use Rattle.losses.proofs.without.Goals as goal
use Rattle.losses.proofs.without.Goals.{then-in_set, else-in_set}

pub overflow_mul-k-end : goal.overflow_mul-k-end
overflow_mul-k-end c = omega (arith, count_low c.args.z (ranged c.args.z c.requires))

pub loop-k-init : goal.loop-k-init
loop-k-init c =
    (omega arith, omega (arith, count_low c.args.z (ranged c.args.z c.requires)), replaced_none false _ false c.args.filled)

pub nonzero_div-k : goal.nonzero_div-k
nonzero_div-k c = omega (arith, (ranged c.args.z c.requires).places_low)

pub in_set-requires : goal.in_set-requires
in_set-requires c =
    let R = ranged c.args.z c.requires in
    omega (arith, node_of c.args.z R c.loop-k.k (omega arith), R.nodes_high)

pub bounds-left-k : goal.bounds-left-k
bounds-left-k c = omega (arith, c.loop-k.invariant.1)

pub loop-k-preserved : goal.loop-k-preserved
loop-k-preserved c =
    let l = c.loop-k in
    let lost : ℕ → Bool = λ j. in_set c.args.set (j / c.args.z.places) in
    let is = c.in_set.ensures in (
      omega arith,
      l.invariant.1,
      elim c.if-in_set.branch [
        | then-in_set w ↦
            subst (Replaced false lost false c.args.filled (l.k + 1)) (sym w.left-is)
            (replaced_put false lost false c.args.filled l.invariant.2 (sym is ∙ w.if-in_set.true) (omega (arith, l.invariant.1)))
        | else-in_set w ↦
            subst (Replaced false lost false c.args.filled (l.k + 1)) (sym w.left-is) (replaced_keep false lost false c.args.filled l.invariant.2 (sym is ∙ w.if-in_set.false))
      ],
    )

pub returns : goal.returns
returns c =
    let l = c.loop-k in
    λ k h. l.invariant.2.done k (omega arith)
