use Prim.Native.Nat.{◌<◌}
use mathlib.Core.Path.{◌≡◌, refl, sym}
use native.Mathlib.Omega.{arith}
use borrow.Author.Rules.{rules}
use Rattle.std.proofs.iter.Serving.{serving}
use Rattle.lists.proofs.RangeLaws.{fold_may, fold_ends}
use Rattle.bits.specs.Fields.{field_at}
use Rattle.bits.proofs.PackLaws.{field_none, field_more, field_small}
use Rattle.bits.proofs.read_field.Goals as goal

pub fold-requires-clause-callable : goal.fold-requires-clause-callable
fold-requires-clause-callable c =
    let s = c.args.s.now in
    let from = c.args.from in
    fold_may _ _ (λ k x. x ≡ field_at s from k) c.args.width (λ k x y q l i called. search (rules, field_more)) _ _ refl (omega arith) (sym (field_none s from))
    (λ k x l i.
    let small : x < 65536 = field_small s from k x i (omega arith) in
    grind (serving, small))

pub returns : goal.returns
returns c =
    let s = c.args.s.now in
    let from = c.args.from in
    fold_ends _ _ (λ k x. x ≡ field_at s from k) c.args.width (λ k x y q l i called. search (rules, field_more)) _ _ refl (omega arith) (sym (field_none s from)) _ c.fold.ensures.ran
