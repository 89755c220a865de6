use borrow.Author.Rules.{rules}
use borrow.Author.Tests.{tests}
use mathlib.Core.Path.{◌≡◌, refl, ◌∙◌}
use mathlib.Core.Bool.{Bool, true, false, not, beq}
use Rattle.std.proofs.iter.Serving.{serving}
use Rattle.std.proofs.lemmas.Iterator.{serves_from_Range}
use Rattle.lists.specs.Lists.{pick}
use Rattle.lists.proofs.AnyLaws.{any_same}
use Rattle.lists.proofs.RangeLaws.{any_from_zero}
use Rattle.sizes.proofs.SizeLaws.{ranged}
use Rattle.sizes.proofs.PlaceLaws.{number_mark}
use Rattle.archive.specs.Layout.{filled_in}
use Rattle.archive.proofs.layout.any_place.Goals as goal

-- the test of one place
tested : (mark filled : Bool) → beq mark filled ≡ pick filled mark (not mark)
tested true true = refl
tested true false = refl
tested false true = refl
tested false false = refl

pub any-requires-clause-callable : goal.any-requires-clause-callable
any-requires-clause-callable c = serves_from_Range (λ k q called. search (rules, tests)) (λ k l h.
    let low = number_mark _ (ranged _ c.requires.0) _ k c.requires.1 h in
    grind (serving, low))

pub returns : goal.returns
returns c =
    let filled = c.args.filled in
    let mark = filled_in c.args.z c.args.archive.now c.args.node in
    any_from_zero _ _ (λ k. beq (mark k) filled) (λ k b q called. search (rules, tests)) _ _ _ refl c.any.ensures.ran
    ∙ any_same c.args.z.places (λ k. beq (mark k) filled) (λ k. pick filled (mark k) (not (mark k))) (λ k l. tested (mark k) filled)
