use mathlib.Core.Path.{ap, ◌∙◌}
use mathlib.Core.Bool.{not}
use native.Mathlib.Omega.{arith}
use Rattle.archive.specs.Layout.{mark_at}
use Rattle.proving.proofs.ProveLaws.{first_low, number_is, number_fits}
use Rattle.proving.proofs.named_empty.Goals as goal

pub overflow_mul-node : goal.overflow_mul-node
overflow_mul-node c = omega (arith, first_low _ c.args.records.ranges c.node.ensures.1)

pub overflow_add-node : goal.overflow_add-node
overflow_add-node c =
    let r = c.args.records in
    omega (arith, number_fits _ _ c.args.challenge.now r.ranges r.long c.requires.0 c.args.j c.requires.1 c.node.ensures.0 c.place.ensures)

pub marked-requires : goal.marked-requires
marked-requires c =
    let r = c.args.records in
    (number_fits _ _ c.args.challenge.now r.ranges r.long c.requires.0 c.args.j c.requires.1 c.node.ensures.0 c.place.ensures, omega (arith, r.long))

pub returns : goal.returns
returns c =
    let r = c.args.records in
    let k = number_is _ _ c.args.challenge.now r.ranges r.long c.requires.0 c.args.j c.requires.1 c.node.ensures.0 c.place.ensures in
    ap not (c.marked.ensures ∙ ap (mark_at r.bytes.now) k)
