use Prim.Native.Nat.{ℕ, ◌*◌, ◌%◌, ◌^◌, ◌≤◌}
use mathlib.Core.Path.{◌≡◌, ◌∙◌}
use native.Mathlib.Nat.{one-mul}
use native.Mathlib.Omega.{arith}
use lib.Pow.{shl_exact}
use Rattle.losses.proofs.SetLaws.{sized_counted, not_sized}
use Rattle.losses.proofs.sets.is_sized.Goals as goal

-- one, shifted by the nodes
power : (nodes : ℕ) → nodes ≤ 6 → 1 * 2 ^ nodes % 18446744073709551616 ≡ 2 ^ nodes
power nodes h = shl_exact {a = 1} 1 nodes 64 (omega arith) (omega arith) ∙ one-mul (2 ^ nodes)

pub returns-then-set-nodes : goal.returns-then-set-nodes
returns-then-set-nodes c =
    sized_counted c.args.nodes c.args.k c.args.set (power c.args.nodes c.requires) c.if-set-nodes.true c.size_of.ensures

pub returns-else-set-nodes : goal.returns-else-set-nodes
returns-else-set-nodes c =
    not_sized c.args.nodes c.args.k c.args.set (power c.args.nodes c.requires) c.if-set-nodes.false
