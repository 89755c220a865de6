use mathlib.Core.Path.{ap₂, ◌∙◌}
use mathlib.Core.Bool.{◌||◌}
use Rattle.lists.proofs.AnyLaws.{any_of_lem}
use Rattle.sizes.specs.Sizes.{sizes_outside}
use Rattle.sizes.proofs.sizes_outside.Goals as goal

pub returns : goal.returns
unfolding sizes_outside
returns c =
    ap₂ ◌||◌
    (ap₂ ◌||◌ (ap₂ ◌||◌ (ap₂ ◌||◌ c.n_outside.ensures c.m_outside.ensures) c.outside.ensures) c.outside-2.ensures)
    c.tags_outside.ensures
    ∙ any_of_lem _ _
