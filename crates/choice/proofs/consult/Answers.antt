use borrow.Author.Rules.{rules}
use mathlib.Core.Path.{◌≡◌, refl}
use native.Mathlib.Omega.{arith}
use lib.ListN.{length}
use lib.Seq.{get_or-set_same, get_or-set_other}
use Rattle.lists.proofs.CountLaws.{how_many_most}
use Rattle.linear.proofs.KeptLaws.{kept_at}
use Rattle.choice.specs.PrivateChoice.{offered}
use Rattle.choice.proofs.ChoiceLaws.{row_byte, choice_skip, choice_drop, choice_take}
use Rattle.choice.proofs.consult.Goals as goal

pub returns-then-not-candidates-k : goal.returns-then-not-candidates-k
returns-then-not-candidates-k c = choice_skip _ _ _ c.requires.2 (row_byte c.args.rows.now) c.if-not-candidates-k.true

pub overflow_add-consulted : goal.overflow_add-consulted
overflow_add-consulted c =
    omega (arith, c.args.rows.now.standing.0, c.requires.2, c.requires.2.choice.consulted, how_many_most c.args.k (offered c.args.candidates))

pub returns-in_default : goal.returns-in_default
returns-in_default c =
    let cleared = c.cleared-v in
    let none = rw c.in_default.is at c.pivot.ensures in
    choice_drop _ _ _ c.requires.2 (row_byte c.args.rows.now) c.if-not-candidates-k.false _ _
    (kept_at _ _ c.args.rows.now.standing.1 c.row-row.ensures) cleared.ensures _ refl refl refl
    (λ i l. none.zeros i l)

pub returns : goal.returns
returns c =
    let a = c.args in
    let size : length a.c.numbers ≡ 16 = search rules in
    let width = a.rows.now.standing.1 in
    let some = rw c.in-Some.is at c.pivot.ensures in
    choice_take _ _ _ c.requires.2 (row_byte a.rows.now) c.if-not-candidates-k.false _ _
    (kept_at _ _ width c.row-row.ensures) c.cleared-v.ensures _ refl refl c.requires.1
    (λ t h. get_or-set_other a.c.numbers a.c.count t a.k 0 (λ e. omega arith))
    (get_or-set_same a.c.numbers a.c.count a.k 0 (omega (arith, c.requires.1, width, size)))
    _ some.1 some.0 width _ c.extended.ensures
