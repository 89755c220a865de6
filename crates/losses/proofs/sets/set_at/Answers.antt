use Prim.Native.Nat.{ℕ, ◌-◌, ◌<◌}
use mathlib.Core.Path.{◌≡◌, refl}
use mathlib.Core.Bool.{Bool}
use native.Mathlib.Omega.{arith}
use borrow.Author.Rules.{rules}
use Rattle.std.proofs.iter.Serving.{serving}
use Rattle.lists.proofs.RangeLaws.{fold_may, fold_ends}
use Rattle.bits.specs.Fields.{number}
use Rattle.bits.proofs.NumberLaws.{bit_odd, number_none, number_more, number_small}
use Rattle.archive.specs.Losses.{in_set}
use Rattle.losses.proofs.SetLaws.{set_is}
use Rattle.losses.proofs.sets.set_at.Goals as goal

pub fold-requires-clause-callable : goal.fold-requires-clause-callable
fold-requires-clause-callable c =
    let bits : ℕ → Bool = in_set (63 - c.args.x) in
    fold_may _ _ (λ i y. y ≡ number bits i) 6 (λ i y z q l h called. search (rules, number_more, bit_odd)) _ _ refl (omega arith) (number_none bits)
    (λ i y l h.
    let small : y < 65536 = number_small bits i h (omega arith) in
    grind (serving, small))

pub returns : goal.returns
returns c =
    let bits : ℕ → Bool = in_set (63 - c.args.x) in
    set_is c.args.x 6
    (fold_ends _ _ (λ i y. y ≡ number bits i) 6 (λ i y z q l h called. search (rules, number_more, bit_odd)) _ _ refl (omega arith) (number_none bits) _ c.fold.ensures.ran)
    refl
