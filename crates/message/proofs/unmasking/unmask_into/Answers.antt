use Prim.Native.Nat.{◌+◌, ◌-◌}
use mathlib.Core.Path.{◌∙◌}
use native.Mathlib.Omega.{arith}
use Rattle.lists.proofs.ArrayLaws.{array_is}
use Rattle.lists.proofs.PartLaws.{length_part}
use Rattle.lists.proofs.SliceLaws.{tab_copied}
use Rattle.message.proofs.UnmaskAnswerLaws.{seed_part, mask_off}
use Rattle.message.proofs.unmasking.unmask_into.Goals as goal

pub copy-requires : goal.copy-requires
copy-requires c = omega (arith, c.requires.1, c.args.rows.now.n_low, length_part 1 (c.args.rows.now.n - 1) c.args.response.now (omega arith))

pub unwrap-seed-requires : goal.unwrap-seed-requires
unwrap-seed-requires c =
    let n = c.args.rows.now.n in
    c.try_from.ensures.0 (length_part (n - 1) (n + 10) c.args.response.now (omega arith) ∙ omega arith)

pub returns : goal.returns
returns c =
    let n = c.args.rows.now.n in
    let seed = array_is _ _ _ _ c.try_from.ensures.1 c.unwrap-seed.ensures ∙ seed_part n (n + 10 - (n - 1)) _ (omega arith) in
    let copied = tab_copied (n - 2) 1 c.args.response.now {m = n - 1 - 1} (omega arith) (omega arith) c.copy.ensures in
    mask_off _ _ _ _ seed copied c.add_mask.ensures
