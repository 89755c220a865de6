use mathlib.Core.Path.{◌≡◌}
use Rattle.lists.specs.Lists.{at}
use Rattle.vector.specs.Vectors.{mixed, added}
use Rattle.archive.specs.Layout.{byte_in}
use Rattle.reading.proofs.solving.add_places.Given as goal

abbrev pub invariant-loop-t : goal.invariant-loop-t
invariant-loop-t l =
    l.block ≡ added l.len 0 (mixed l.t (at l.coefficients) (λ j. byte_in l.z l.records.bytes.now (at l.places j))) l.initial.block
