use borrow.Author.Rules.{rules}
use Prim.Native.Nat.{◌+◌, ◌*◌, ◌/◌}
use mathlib.Core.Path.{refl}
use native.Mathlib.Omega.{arith}
use Rattle.lists.proofs.SliceLaws.{front_written}
use Rattle.mask.proofs.MaskRowLaws.{row_filled}
use Rattle.mask.proofs.rows.MaskRows.row.Goals as goal

pub returns : goal.returns
returns c = λ e l.
    let rows = c.args.self.now in
    let size = (rows.n + 61) / 64 * 64 in
    row_filled _ _ size e _ (search rules) (front_written size _ _ {k = size} refl (omega (arith, rows.n_high)) c.fill.ensures) (omega (arith, l, rows.n_low)) _ _ c.id_nonce-nonce.ensures
