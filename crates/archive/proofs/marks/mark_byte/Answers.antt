use Prim.Native.Nat.{ℕ, ◌+◌, ◌*◌, ◌<◌}
use mathlib.Core.Path.{◌≡◌, refl, sym, ◌∙◌}
use mathlib.Core.Bool.{Bool}
use native.Mathlib.Omega.{arith}
use borrow.Author.Rules.{rules}
use Rattle.std.proofs.iter.Serving.{serving}
use Rattle.lists.proofs.RangeLaws.{fold_may, fold_ends}
use Rattle.bits.specs.Fields.{number}
use Rattle.bits.proofs.NumberLaws.{number_none, number_more}
use Rattle.bits.proofs.PackLaws.{packed_at}
use Rattle.archive.proofs.MarkLaws.{new_marks, mark_bits, seven_bits}
use Rattle.archive.proofs.marks.mark_byte.Goals as goal

pub fold-requires-clause-callable : goal.fold-requires-clause-callable
fold-requires-clause-callable c =
    let a = c.args in
    let bits : ℕ → Bool = mark_bits a.s.now a.k a.count a.v a.j in
    fold_may _ _ (λ i x. x ≡ number bits i) 8 (λ i x y q l h called. search (rules, number_more)) _ _ refl (omega arith) (number_none bits)
    (λ i x l h.
    let low : x * 2 + 1 < 256 = seven_bits bits i x l h in
    let place : 8 * a.j + i < 48 = omega arith in
    grind (serving, low, place))

pub returns : goal.returns
returns c =
    let a = c.args in
    let bits : ℕ → Bool = mark_bits a.s.now a.k a.count a.v a.j in
    fold_ends _ _ (λ i x. x ≡ number bits i) 8 (λ i x y q l h called. search (rules, number_more)) _ _ refl (omega arith) (number_none bits) _ c.fold.ensures.ran
    ∙ sym (packed_at 6 (new_marks a.s.now a.k a.count a.v) a.j c.requires.1)
