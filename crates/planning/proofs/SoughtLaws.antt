-- The combination of a row by its number. Assumes nothing.
use Prim.Native.Nat.{ℕ, zero, suc, ◌+◌, ◌-◌, ◌<◌, ◌≤◌}
use mathlib.Core.Path.{◌≡◌, refl, sym, ap, subst, ◌∙◌}
use mathlib.Core.Logic.{◌≢◌}
use mathlib.Core.Bool.{Bool, true, false}
use mathlib.Core.List.{List, [], ◌∷◌, reverse, reverse-append}
use native.Mathlib.Decide.{ℕ_discrete}
use native.Mathlib.Numerals.{add-one}
use native.Mathlib.Omega.{arith}
use lib.Dec.{eqb}
use borrow.Author.Tests.{eq-eqb, ne_eqb}
use lib.ListN.{length, take, length-reverse}
use lib.Seq.{length-take-le, get_or-take}
use denote.Ref.{Bor}
use denote.Param.Members.{Mut}
use Rattle.std.specs.Prelude.{Option, Some, None}
use Rattle.std.specs.Option.{MatchOption, IsSomeAnd}
use Rattle.std.specs.Fn.{Called}
use Rattle.std.specs.Iterator.{YieldsThen}
use Rattle.std.specs.List.{AllWithin, FoldsTo}
use Rattle.std.specs.Slice.Iter.{iter_rest, iter_steps_back}
use Rattle.std.proofs.lemmas.List.{get_or-reverse}
use Rattle.std.proofs.lemmas.Iterator.{YieldsList, IsFirst-from_position}
use Rattle.std.proofs.lemmas.Iterator.Consumers.{YieldsList-from_shown}
use Rattle.lists.specs.Lists.{pick, at}
use Rattle.linear.specs.PrivateElimination.{Matrix}
use Rattle.planning.specs.PrivatePlan.{row_for}

-- ---- one number more

module _ (n : ℕ) (numbers : ℕ → ℕ) (t : Matrix) (x e : ℕ) where
  pub row_for_same : numbers n ≡ x → row_for (n + 1) numbers t x e ≡ t n e
  unfolding row_for
  row_for_same q = ap (λ (k : ℕ). row_for k numbers t x e) (add-one n) ∙ ap (λ (b : Bool). pick b (t n e) (row_for n numbers t x e)) (eq-eqb _ _ q)

  pub row_for_other : numbers n ≢ x → row_for (n + 1) numbers t x e ≡ row_for n numbers t x e
  unfolding row_for
  row_for_other q = ap (λ (k : ℕ). row_for k numbers t x e) (add-one n) ∙ ap (λ (b : Bool). pick b (t n e) (row_for n numbers t x e)) (ne_eqb _ _ q)

-- ---- all of them

-- the number is not there
pub row_for_none : (n : ℕ) (numbers : ℕ → ℕ) (t : Matrix) (x e : ℕ) → ((j : ℕ) → j < n → numbers j ≢ x) → row_for n numbers t x e ≡ 0
unfolding row_for
row_for_none zero numbers t x e other = refl
row_for_none (suc n) numbers t x e other =
    ap (λ (b : Bool). pick b (t n e) (row_for n numbers t x e)) (ne_eqb _ _ (other n (omega arith))) ∙ row_for_none n numbers t x e (λ j l. other j (omega arith))

-- it stands at i and not after
pub row_for_last : (n : ℕ) (numbers : ℕ → ℕ) (t : Matrix) (x e i : ℕ) → i < n → numbers i ≡ x → ((j : ℕ) → i < j → j < n → numbers j ≢ x)
    → row_for n numbers t x e ≡ t i e
unfolding row_for
row_for_last zero numbers t x e i l is after = absurd (omega arith)
row_for_last (suc n) numbers t x e i l is after =
    go (ℕ_discrete i n) (λ h. row_for_last n numbers t x e i h is (λ j k b. after j k (omega arith)))
  where
    go : Dec (i ≡ n) → (i < n → row_for n numbers t x e ≡ t i e) → pick (eqb (numbers n) x) (t n e) (row_for n numbers t x e) ≡ t i e
    go (yes q) less = ap (λ (b : Bool). pick b (t n e) (row_for n numbers t x e)) (eq-eqb _ _ (ap numbers (sym q) ∙ is)) ∙ ap (λ (j : ℕ). t j e) (sym q)
    go (no q) less =
        ap (λ (b : Bool). pick b (t n e) (row_for n numbers t x e)) (ne_eqb _ _ (after n (omega arith) (omega arith))) ∙ less (omega arith)

-- it stands at i and nowhere else
pub row_for_one : (n : ℕ) (numbers : ℕ → ℕ) (t : Matrix) (x e i : ℕ) → i < n → numbers i ≡ x → ((j : ℕ) → j < n → numbers j ≡ x → j ≡ i)
    → row_for n numbers t x e ≡ t i e
row_for_one n numbers t x e i l is alone = row_for_last n numbers t x e i l is (λ j a b q. omega (arith, alone j b q))

-- ---- `rposition` on a slice

-- element k is element j from the end
mirrored : (P : ℕ → Type 0) (xs : List ℕ) (k j : ℕ) → k + 1 + j ≡ length xs → P (at (reverse xs) j) → P (at xs k)
mirrored P xs k j m h =
    let q : length xs - 1 - j ≡ k = omega arith in
    subst P (get_or-reverse xs j 0 (omega arith) ∙ ap (at xs) q) h

-- a slice is yielded from its end
from_back : {s : _} (xs : List ℕ) → iter_rest s ≡ xs → YieldsList iter_steps_back (λ y. y.now) s (reverse xs)
from_back {s} xs e =
    subst (λ k. YieldsList iter_steps_back (λ y. y.now) s (reverse k)) e
    (YieldsList-from_shown iter_steps_back (λ y. y.now) (λ u. reverse (iter_rest u)) (λ u t p. length-reverse _ ∙ p.0)
    (λ u x t p. ap reverse p ∙ reverse-append (iter_rest t) (x.now ∷ [])) s)

-- r is the last element that has Yes: those after it have No
abbrev pub IsLast : (Yes No : ℕ → Type 0) (xs : List ℕ) → Option ℕ → Type 0
IsLast Yes No xs r =
    MatchOption r ((k : ℕ) → k < length xs → No (at xs k)) (λ i. (i < length xs) × Yes (at xs i) × ((k : ℕ) → i < k → k < length xs → No (at xs k)))

pub last_from_rposition : {F : Type 0} {g : Mut F (Bor ℕ × Unit {0}) Bool} {s : _} (u : _) (f : F) (r : Option ℕ) (Yes No : ℕ → Type 0)
    → (ys : List (Bor ℕ)) × (o : Option (Bor ℕ)) × (j : F) × YieldsThen iter_steps_back s ys o u × FoldsTo (λ p x q. Called g p (x, tt) false q) f ys j
    × MatchOption o (r ≡ None) (λ x. IsSomeAnd r (λ i. i + 1 + length ys ≡ length (iter_rest s)) × ((h : F) × Called g j (x, tt) true h))
    → (xs : List ℕ) → iter_rest s ≡ xs
    → ((x : Bor ℕ) (q : F) → Called g f (x, tt) true q → Yes x.now) → ((x : Bor ℕ) (q : F) → Called g f (x, tt) false q → (q ≡ f) × No x.now)
    → IsLast Yes No xs r
last_from_rposition {F} {g} {s} u f r Yes No d xs e passes fails = ends d.1 r d.3 d.5
  where
    back : length (reverse xs) ≡ length xs
    back = length-reverse xs

    long : length (iter_rest s) ≡ length xs
    long = ap length e

    ends : (o : Option (Bor ℕ)) (r : Option ℕ) → YieldsThen iter_steps_back s d.0 o u
        → MatchOption o (r ≡ None) (λ x. IsSomeAnd r (λ i. i + 1 + length d.0 ≡ length (iter_rest s)) × ((h : F) × Called g d.2 (x, tt) true h)) → IsLast Yes No xs r
    ends None r y m =
        let all : AllWithin No (reverse xs) 0 (length (reverse xs)) = IsFirst-from_position u f None Yes No (d.0, None, d.2, y, d.4, refl) (from_back xs e) passes fails in
        subst (IsLast Yes No xs) (sym m) (λ k l. mirrored No xs k (length xs - 1 - k) (omega arith) (all (length xs - 1 - k) 0 (omega arith) (omega (arith, back))))
    ends (Some x) None y m = absurd m.0
    ends (Some x) (Some i) y m =
        let w = IsFirst-from_position u f (Some (length d.0)) Yes No (d.0, Some x, d.2, y, d.4, (refl, m.1)) (from_back xs e) passes fails in
        let here : i + 1 + length d.0 ≡ length xs = m.0 ∙ long in (
          omega (arith, here),
          mirrored Yes xs i (length d.0) here (w.1 0),
          λ k l b. mirrored No xs k (length xs - 1 - k) (omega arith) (w.2 (length xs - 1 - k) 0 (omega arith) (omega (arith, here))),
        )

-- ---- the row of the last number that is equal

module _ (n : ℕ) (numbers : List ℕ) (t : Matrix) (x e : ℕ) (fits : n ≤ length numbers) where
  long : length (take n numbers) ≡ n
  long = length-take-le n numbers fits

  pub row_found : (i : ℕ) → IsLast (λ y. y ≡ x) (λ y. y ≢ x) (take n numbers) (Some i) → row_for n (at numbers) t x e ≡ t i e
  row_found i w =
      let l : i < n = omega (arith, w.0, long) in
      row_for_last n (at numbers) t x e i l (sym (get_or-take n numbers i 0 l) ∙ w.1)
      (λ j a b q. w.2 j a (omega (arith, long)) (get_or-take n numbers j 0 b ∙ q))

  pub row_not_found : IsLast (λ y. y ≡ x) (λ y. y ≢ x) (take n numbers) None → row_for n (at numbers) t x e ≡ 0
  row_not_found w = row_for_none n (at numbers) t x e (λ j b q. w j (omega (arith, long)) (get_or-take n numbers j 0 b ∙ q))
