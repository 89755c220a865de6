use Prim.Native.Nat.{ℕ, ◌<◌}
use mathlib.Core.Path.{◌≡◌, refl, ap, ◌∙◌}
use mathlib.Core.List.{List, []}
use native.Mathlib.Omega.{arith}
use lib.ListN.{length-set}
use Rattle.lists.specs.Lists.{at}
use Rattle.linear.proofs.KeptLaws.{kept_at}
use Rattle.linear.proofs.ArrayLaws.{stored}
use Rattle.choice.specs.PrivateChoice.{row_at}
use Rattle.choice.proofs.rows.Rows.rows_of.Goals as goal

pub loop-t-init : goal.loop-t-init
loop-t-init c = (omega arith, refl, λ q h. absurd (omega arith))

pub row-row-requires : goal.row-row-requires
row-row-requires c =
    omega (arith, c.requires.1 c.loop-t.t c.loop-t-test.true, c.from.ensures)

pub loop-t-preserved : goal.loop-t-preserved
loop-t-preserved c =
    let l = c.loop-t in
    let a = c.args in
    let row : ℕ → List ℕ → Type 0 = λ q x. (i : ℕ) → i < a.self.now.m → at x i ≡ row_at a.self.now (at a.numbers q) i in (
      omega arith,
      length-set l.out l.t _ ∙ l.invariant.1,
      stored [] l.out l.t _ row (omega (arith, c.args.self.now.standing.1, l.invariant.1)) l.invariant.2
          (λ i h.
          kept_at a.self.now.m _ c.args.self.now.standing.1 c.row-row.ensures i h
          ∙ ap (λ (k : ℕ). row_at a.self.now k i) c.from.ensures),
    )

pub returns : goal.returns
returns c = λ t i h. c.loop-t.invariant.2 t (omega arith) i
