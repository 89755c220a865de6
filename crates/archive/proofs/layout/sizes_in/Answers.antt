use mathlib.Core.Path.{refl, ◌∙◌}
use Rattle.archive.specs.Layout.{layout_of, sizes_of}
use Rattle.archive.proofs.LayoutLaws.{five}
use Rattle.archive.proofs.layout.sizes_in.Goals as goal

pub returns : goal.returns
unfolding sizes_of layout_of
returns c =
    five c.read_field.ensures c.read_field-2.ensures c.read_field-3.ensures
    c.read_field-4.ensures (c.tags_in.ensures ∙ rw c.read_field-5.ensures refl)
