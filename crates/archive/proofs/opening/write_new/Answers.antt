use mathlib.Core.Path.{refl}
use native.Mathlib.Omega.{arith}
use Rattle.lists.proofs.SliceLaws.{put_whole}
use Rattle.bits.proofs.PackLaws.{packed_length}
use Rattle.archive.proofs.OpenLaws.{new_written}
use Rattle.archive.proofs.opening.write_new.Goals as goal

pub returns : goal.returns
returns c =
    new_written c.args.layout c.args.z _ c.requires.0 c.requires.1 c.write_sizes.ensures
    (put_whole 8 4 _ _ refl (rw (c.write_sizes.ensures, packed_length, c.requires.1) (omega arith)) c.requires.0 c.copy_from_slice.ensures.after)
