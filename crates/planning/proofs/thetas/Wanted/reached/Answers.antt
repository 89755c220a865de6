use Prim.Native.Nat.{ℕ, ◌<◌, ◌≤◌}
use mathlib.Core.Path.{◌≡◌, refl, sym, subst, ◌∙◌}
use mathlib.Core.Logic.{◌≢◌}
use native.Mathlib.Omega.{arith}
use borrow.Author.Rules.{rules}
use borrow.Author.Tests.{tests}
use Rattle.std.proofs.lemmas.Iterator.{cases_from_all, YieldsList-from_range}
use mathlib.Core.Bool.{Bool, true, false, true≢false}
use Rattle.std.specs.Prelude.{Option, Some, None}
use Rattle.std.specs.Option.{MatchOption, is_none}
use lib.ListN.{length, get_or}
use Rattle.std.specs.Bool.{MatchBool}
use Rattle.std.specs.List.{range_with_len, AllWithin, HoldsAt}
use Rattle.std.proofs.lemmas.List.FromFn.{length-range_with_len, get_or-range_with_len}
use Rattle.linear.specs.PrivateElimination.{Matrix}
use Rattle.planning.specs.PrivatePlan.{FirstSeen, Reaching}
use Rattle.vector.specs.Vectors.{product}
use Rattle.linear.specs.PrivateElimination.{cells}
use Rattle.archive.specs.Plan.{wanted_row}
use Rattle.planning.proofs.thetas.Wanted.reached.Goals as goal

-- a row that is not seen, and one that is
unseen : (count m : ℕ) (t : Matrix) (w : ℕ → ℕ) (o : Option ℕ)
    → MatchOption o (FirstSeen count m t w m) (λ p. (p < m) × FirstSeen count m t w p) → true ≡ is_none o
    → (i : ℕ) → count ≤ i → i < m → product m w (t i) ≡ 0
unseen count m t w None first none = first.unseen
unseen count m t w (Some i) first none = absurd (true≢false none)

is_seen : (count m : ℕ) (t : Matrix) (w : ℕ → ℕ) (o : Option ℕ)
    → MatchOption o (FirstSeen count m t w m) (λ p. (p < m) × FirstSeen count m t w p) → false ≡ is_none o
    → (i : ℕ) × (count ≤ i) × (i < m) × (product m w (t i) ≢ 0)
is_seen count m t w None first none = absurd (true≢false (sym none))
is_seen count m t w (Some i) first none = (i, first.1.from_there, first.0, first.1.seen first.0)

number : (n k : ℕ) → k < n → get_or (range_with_len 0 n) k 0 ≡ k
number n k l = get_or-range_with_len 0 n k 0 l ∙ omega arith

-- what `all` tells of the numbers below n
all_below : (n : ℕ) (Yes No : ℕ → Type 0) (r : Bool)
    → MatchBool r (AllWithin Yes (range_with_len 0 n) 0 (length (range_with_len 0 n))) ((x : ℕ) × (x < length (range_with_len 0 n)) × HoldsAt No (range_with_len 0 n) x)
    → MatchBool r ((k : ℕ) → k < n → Yes k) ((k : ℕ) × (k < n) × No k)
all_below n Yes No true h =
    λ k l. subst Yes (number n k l) (h k 0 (omega arith) (omega (arith, length-range_with_len 0 n)))
all_below n Yes No false h =
    let low : h.0 < n = omega (arith, h.1, length-range_with_len 0 n) in
    (h.0, low, subst No (number n h.0 low) (h.2 0))

-- a row that is seen is beyond
reaching : (places count m : ℕ) (t wanted : Matrix) (r : Bool)
    → MatchBool r ((k : ℕ) → k < places → (i : ℕ) → count ≤ i → i < m → product m (wanted k) (t i) ≡ 0)
    ((k : ℕ) × (k < places) × ((i : ℕ) × (count ≤ i) × (i < m) × (product m (wanted k) (t i) ≢ 0)))
    → Reaching places count m t wanted r
reaching places count m t wanted true h = λ k i l. h k l i
reaching places count m t wanted false h =
    record { place = h.0; there = h.1; index = h.2.0; index_from = h.2.1; index_low = h.2.2; seen = h.2.3 }

pub returns : goal.returns
returns c =
    let a = c.args in
    let z = a.self.now.z in
    let p : ℕ → ℕ → ℕ = λ k i. product z.m (wanted_row z a.self.now.rows.now k) (cells a.combinations i) in
    reaching z.places a.count z.m (cells a.combinations) (wanted_row z a.self.now.rows.now) c.all.result
    (all_below z.places _ _ c.all.result
    (cases_from_all _ _ c.all.result (λ k. (i : ℕ) → a.count ≤ i → i < z.m → p k i ≡ 0) (λ k. (i : ℕ) × (a.count ≤ i) × (i < z.m) × (p k i ≢ 0))
    c.all.ensures.ran (YieldsList-from_range 0 z.places z.places refl (omega arith))
    (λ k q called. (search (rules, tests), search (rules, tests, unseen)))
    (λ k q called. search (rules, tests, is_seen))))
