use mathlib.Core.Path.{◌≡◌, sym, ◌∙◌}
use mathlib.Core.Logic.{◌≢◌}
use native.Mathlib.Omega.{arith}
use lib.ListN.{length, take, get_or-replicate}
use borrow.Author.Rules.{rules as own_rules}
use Rattle.std.proofs.Common.{rules, tests}
use Rattle.linear.specs.PrivateElimination.{cells}
use Rattle.planning.proofs.SoughtLaws.{last_from_rposition, row_found, row_not_found}
use Rattle.planning.proofs.thetas.vector_of.Goals as goal

pub returns-in-Some : goal.returns-in-Some
returns-in-Some c =
    let a = c.args in
    let w =
    last_from_rposition _ _ _ (λ x. x ≡ a.number) (λ x. x ≢ a.number) c.rposition.ensures.ran (take a.count a.numbers) (cc)
    (λ x q called. search (rules, tests)) (λ x q called. search (rules, tests)) in
    let long : length a.numbers ≡ 16 = search own_rules in
    λ e l. sym (row_found a.count a.numbers (cells a.combinations) a.number e (omega (arith, long, c.requires)) c.in-Some.i (rw c.in-Some.is at w))

pub returns-in-None : goal.returns-in-None
returns-in-None c =
    let a = c.args in
    let w =
    last_from_rposition _ _ _ (λ x. x ≡ a.number) (λ x. x ≢ a.number) c.rposition.ensures.ran (take a.count a.numbers) (cc)
    (λ x q called. search (rules, tests)) (λ x q called. search (rules, tests)) in
    let long : length a.numbers ≡ 16 = search own_rules in
    λ e l. get_or-replicate 16 e 0 0 l ∙ sym (row_not_found a.count a.numbers (cells a.combinations) a.number e (omega (arith, long, c.requires)) (rw c.in-None.is at w))
