use Rattle.lists.proofs.SliceLaws.{tab_filled}
use Rattle.archive.proofs.OpenLaws.{sizes_written}
use Rattle.archive.proofs.opening.write_sizes.Goals as goal

pub returns : goal.returns
returns c =
    let a = c.args in
    sizes_written a.layout a.z _ c.tag_field.ensures (tab_filled _ 0 (c.fill.ensures.after (λ y e. e))) c.write_field.ensures
    c.write_field-2.ensures c.write_field-3.ensures c.write_field-4.ensures c.write_field-5.ensures
    c.write_field-6.ensures
