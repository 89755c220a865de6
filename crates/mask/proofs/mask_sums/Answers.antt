use Rattle.mask.proofs.MaskLaws.{mask_sum_lem}
use Rattle.mask.proofs.mask_sums.Goals as goal

pub returns : goal.returns
returns c = mask_sum_lem
