use borrow.Author.Rules.{rules}
use Prim.Native.Nat.{◌+◌, ◌*◌}
use mathlib.Core.Path.{◌≡◌, refl, ◌∙◌}
use native.Mathlib.Omega.{arith}
use lib.ListN.{length}
use Rattle.lists.proofs.PartLaws.{length_part}
use Rattle.vector.proofs.AddedLaws.{mixed_none}
use Rattle.message.proofs.NamedLaws.{item_there, item_more}
use Rattle.message.proofs.asked.ChallengeMessage.add_named.Goals as goal

pub loop-j-init : goal.loop-j-init
loop-j-init c = (omega arith, c.count-j-end.ensures.0, refl, mixed_none _ _ _ _ _)

pub place-requires : goal.place-requires
place-requires c = omega arith

pub overflow_mul-first : goal.overflow_mul-first
overflow_mul-first c =
    omega (arith, item_there c.args.self.now c.args.u.now (length c.args.out.now) c.loop-j.j (omega arith) c.requires c.place.ensures)

pub coefficient-requires : goal.coefficient-requires
coefficient-requires c = omega arith

pub overflow_add-first : goal.overflow_add-first
overflow_add-first c =
    omega (arith, item_there c.args.self.now c.args.u.now (length c.args.out.now) c.loop-j.j (omega arith) c.requires c.place.ensures)

pub slice_bounds-add_multiple-end : goal.slice_bounds-add_multiple-end
slice_bounds-add_multiple-end c =
    item_there c.args.self.now c.args.u.now (length c.args.out.now) c.loop-j.j (omega arith) c.requires c.place.ensures

pub add_multiple-requires : goal.add_multiple-requires
add_multiple-requires c =
    let len = length c.args.out.now in
    let first = c.place.result * len in
    length_part first (first + len) c.args.u.now (item_there c.args.self.now c.args.u.now len c.loop-j.j (omega arith) c.requires c.place.ensures)
    ∙ omega (arith, c.loop-j.invariant.2)

pub loop-j-preserved : goal.loop-j-preserved
loop-j-preserved c =
    let l = c.loop-j in (
      omega arith,
      l.invariant.1,
      search rules,
      item_more c.args.self.now c.args.u.now _ l.j (omega arith) c.requires c.place.ensures
          c.args.out.now refl l.invariant.2 c.coefficient.ensures l.invariant.3 c.add_multiple.ensures,
    )

pub returns : goal.returns
returns c =
    let e : c.loop-j.j ≡ length c.args.self.now.places = omega arith in
    rw e at c.loop-j.invariant.3
