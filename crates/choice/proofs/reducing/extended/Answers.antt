use borrow.Author.Rules.{rules}
use Prim.Native.Nat.{ℕ}
use mathlib.Core.Path.{refl, ap, ◌∙◌}
use Rattle.lists.specs.Lists.{at}
use Rattle.field.specs.Field.{times}
use Rattle.linear.proofs.ArrayLaws.{cell_same, cell_other}
use Rattle.linear.proofs.RowStoreLaws.{to_zeros}
use Rattle.choice.proofs.reducing.extended.Goals as goal

pub returns : goal.returns
returns c =
    let a = c.args in
    record {
      new = λ i l.
          cell_same a.reduced a.p a.p i c.added_row.result refl (search rules) ∙ c.added_row.ensures i l ∙ to_zeros _ i l
          ∙ ap (λ (x : ℕ). times x (at a.v i)) c.inverse.ensures;
      old = λ q i d. cell_other a.reduced a.p q i c.added_row.result d;
    }
