use Prim.Native.Nat.{ℕ, ◌<◌, ◌≤◌}
use mathlib.Core.Path.{◌≡◌, sym, ◌∙◌}
use mathlib.Core.Logic.{◌≢◌}
use native.Mathlib.Omega.{arith}
use borrow.Author.Rules.{rules}
use borrow.Author.Tests.{tests}
use Rattle.std.specs.Prelude.{Option, Some, None}
use Rattle.std.specs.Option.{MatchOption}
use Rattle.std.proofs.iter.Serving.{serving}
use Rattle.std.proofs.lemmas.Iterator.{serves_from_Range, first_from_Range}
use Rattle.lists.specs.Lists.{at}
use Rattle.vector.specs.Vectors.{product}
use Rattle.linear.specs.PrivateElimination.{Matrix, cells}
use Rattle.archive.specs.Plan.{wanted_row}
use Rattle.planning.specs.PrivatePlan.{FirstSeen}
use Rattle.planning.proofs.WantedLaws.{wanted_product}
use Rattle.planning.proofs.thetas.Wanted.first_seen.Goals as goal

pub find-requires-clause-callable : goal.find-requires-clause-callable
find-requires-clause-callable c =
    serves_from_Range (λ k q called. search (rules, tests)) (λ k l h.
    let low : k < 16 = omega arith in
    grind (serving, low))

-- what `find` tells, where r are the products
found : (from m : ℕ) (t : Matrix) (w r : ℕ → ℕ) → ((i : ℕ) → r i ≡ product m w (t i)) → from ≤ m → (o : Option ℕ)
    → MatchOption o ((k : ℕ) → from ≤ k → k < m → r k ≡ 0) (λ i. (from ≤ i) × (i < m) × (r i ≢ 0) × ((k : ℕ) → from ≤ k → k < i → r k ≡ 0))
    → MatchOption o (FirstSeen from m t w m) (λ p. (p < m) × FirstSeen from m t w p)
found from m t w r is l None h =
    record { from_there = l; low = omega arith; unseen = λ i b k. sym (is i) ∙ h i b k; seen = λ b. absurd (omega arith) }
found from m t w r is l (Some i) h =
    (h.1, record { from_there = h.0; low = omega (arith, h.1); unseen = λ j b k. sym (is j) ∙ h.3 j b k; seen = λ b e. h.2 (is i ∙ e) })

pub returns : goal.returns
returns c =
    let a = c.args in
    let z = a.self.now.z in
    let r : ℕ → ℕ = λ i. product z.m (at c.row-row.result.bytes) (cells a.combinations i) in
    found a.from z.m (cells a.combinations) (wanted_row z a.self.now.rows.now a.k) r
    (λ i. wanted_product z a.k a.self.now.rows.now a.self.now.width c.row-row.ensures (cells a.combinations i)) c.requires.1 c.find.result
    (first_from_Range _ _ _ c.find.result (λ i. r i ≢ 0) (λ i. r i ≡ 0) c.find.ensures.ran (λ k q called. search (rules, tests)) (λ k q called. search (rules, tests)))
