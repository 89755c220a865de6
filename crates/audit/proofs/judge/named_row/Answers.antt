use Prim.Native.Nat.{ℕ, ◌*◌}
use mathlib.Core.Path.{sym, ap}
use native.Mathlib.Omega.{arith}
use lib.ListN.{replicate}
use lib.Seq.{length-take-le}
use Rattle.sizes.proofs.SizeLaws.{ranged}
use Rattle.message.proofs.NamedLaws.{vectors_there, named_front}
use Rattle.audit.proofs.JudgeLaws.{row_named}
use Rattle.audit.proofs.judge.named_row.Goals as goal

pub slice_bounds-add_named-end : goal.slice_bounds-add_named-end
slice_bounds-add_named-end c = sym (length-take-le c.args.z.m (replicate {A = ℕ} 16 0) (ranged _ c.requires.0).m_high)

pub slice_bounds-bytes-end : goal.slice_bounds-bytes-end
slice_bounds-bytes-end c = (ranged _ c.requires.0).m_high

pub add_named-requires : goal.add_named-requires
add_named-requires c =
    let z = c.args.z in
    let long = length-take-le z.m (replicate {A = ℕ} 16 0) (ranged z c.requires.0).m_high in
    vectors_there z c.args.challenge.now c.requires.1 _ (omega (arith, ap (λ (k : ℕ). z.places * k) long, c.requires.2))

pub returns : goal.returns
returns c =
    let low = (ranged c.args.z c.requires.0).m_high in
    row_named c.args.z _ _ low (named_front c.args.challenge.now c.args.rows.now 16 c.args.z.m low c.add_named.ensures)
