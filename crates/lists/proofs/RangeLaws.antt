-- `fold` over a range of numbers, by a fact of the total at each number; `any` over a range, as `any_below` says it. Assumes nothing.
use native.Mathlib.Decide.{ℕ_discrete}
use Prim.Native.Nat.{ℕ, zero, suc, ◌+◌, ◌-◌, ◌<◌, ◌≤◌}
use mathlib.Core.Path.{◌≡◌, refl, sym, ap, subst, ◌∙◌}
use mathlib.Core.List.{List, [], ◌∷◌}
use mathlib.Core.Logic.{⊎_elim}
use Rattle.std.specs.Prelude.{Option}
use native.Mathlib.Nat.{add-zero, zero-add}
use native.Mathlib.Omega.{arith}
use denote.Param.Members.{Mut}
use Rattle.std.specs.Fn.{Called, Takes}
use Rattle.std.specs.Bool.{MatchBool}
use Rattle.std.specs.Array.{index_steps, IsFromFnResult, IsFromFnResultFrom}
use Rattle.std.specs.Option.{MatchOption}
use Rattle.std.specs.Iterator.{Yields, YieldsThen, FoldTurn, FoldsItems, CallableAtEachTurn, CallableInFold}
use Rattle.std.specs.List.{filter, FoldsTo, HoldsAt, AllWithin, range_with_len}
use Rattle.std.specs.declared.ops.Range.{Range}
use Rattle.std.proofs.lemmas.Iterator.{cases_from_any, YieldsList-from_range}
use Rattle.std.proofs.lemmas.List.FromFn.{length-range_with_len, get_or-range_with_len}
use borrow.Author.Tests.{le-leb, lt-leb}
use lib.Dec.{leb}
use lib.ListN.{length, get_or}
use mathlib.Core.Bool.{Bool, true, false, cond}
use Rattle.lists.specs.Lists.{pick, tab, any_below, bit, how_many}
use Rattle.lists.proofs.TabLaws.{order, is_tab}
use Rattle.lists.proofs.CountLaws.{how_many_zero, how_many_more, how_many_same, how_many_split}
use Rattle.std.proofs.Common.{add_assoc}
use Rattle.lists.proofs.AnyLaws.{any_some, any_none, any_same}
use Rattle.std.proofs.iter.Yields.{nat_range_steps}

-- f stays as it is, and takes a total with the fact I at k to one with the fact I at k + 1
module _ {F B : Type 0} (g : Mut F (B × (ℕ × Unit {0})) B) (f : F) (I : ℕ → B → Type 0) (end : ℕ)
    (step : (k : ℕ) (x y : B) (q : F) → k < end → I k x → Called g f (x, (k, tt)) y q → (q ≡ f) × I (k + 1) y) where
  along : (xs : List ℕ) (s t : Range ℕ) (x : B) (q : F × B) → s.end ≡ end → s.start ≤ end → I s.start x → Yields nat_range_steps s xs t → FoldsTo {P = F × B} (FoldTurn g) (f, x) xs q
      → (t.end ≡ end) × (t.start ≤ end) × (q.0 ≡ f) × I t.start q.1
  along [] s t x q e l i y c =
      (ap (λ (r : Range ℕ). r.end) (sym y) ∙ e, subst (λ (r : Range ℕ). r.start ≤ end) y l, ap (λ (p : F × B). p.0) (sym c), subst (λ (r : Range ℕ). I r.start q.1) y (subst (λ (p : F × B). I s.start p.1) c i))
  along (k ∷ ks) s t x q e l i y c =
      let j : Range ℕ = y.0 in
      let here : k ≡ s.start = y.1.1.1 in
      let next : j.start ≡ s.start + 1 = y.1.1.2 in
      let called : Called g f (x, (s.start, tt)) c.0.1 c.0.0 = subst (λ (n : ℕ). Called g f (x, (n, tt)) c.0.1 c.0.0) here c.1 in
      let w : (c.0.0 ≡ f) × I (s.start + 1) c.0.1 = step s.start x c.0.1 c.0.0 (omega (arith, e, y.1.1.0)) i called in
      along ks j t c.0.1 q (y.1.0 ∙ e) (omega (arith, e, next, y.1.1.0)) (subst (λ (n : ℕ). I n c.0.1) (sym next) w.1) y.2
      (subst (λ (h : F). FoldsTo {P = F × B} (FoldTurn g) (h, c.0.1) ks q) w.0 c.2)

  -- the fact at the first number: f may be called at each number, and the last total has the fact at the end
  module _ (s : Range ℕ) (x : B) (e : s.end ≡ end) (l : s.start ≤ end) (i : I s.start x) where
    pub fold_may : ((k : ℕ) (y : B) → k < end → I k y → Takes g f (y, (k, tt))) → CallableInFold nat_range_steps g s f x
    fold_may may = record {
      at = λ xs t q k u y c m.
          let w = along xs s t x q e l i y c in
          subst (λ (h : F). Takes g h (q.1, (k, tt))) (sym w.2)
          (subst (λ (n : ℕ). Takes g f (q.1, (n, tt))) (sym m.1.1) (may t.start q.1 (omega (arith, w.0, m.1.0)) w.3));
    }

    pub fold_ends : (r : B) → FoldsItems nat_range_steps g s f x r → I end r
    fold_ends r d =
        let t : Range ℕ = d.2.1.0 in
        let w = along d.0 s t x (d.1, r) e l i d.2.1.1 d.3 in
        let q : t.start ≡ end = omega (arith, w.0, w.1, d.2.1.2.1.0) in
        subst (λ (n : ℕ). I n r) q w.3

-- the items of a range, and the test p on its numbers alone
module _ (a b : ℕ) where
  abbrev numbers : List ℕ
  numbers = range_with_len a (b - a)

  many : length numbers ≡ b - a
  many = length-range_with_len a (b - a)

  number_at : (k : ℕ) → k < length numbers → get_or numbers k 0 ≡ a + k
  number_at k h = get_or-range_with_len a (b - a) k 0 (omega (arith, many))

  module _ (p : ℕ → Bool) where
    abbrev pub from_to : ℕ → Bool
    from_to k = pick (leb a k) (p k) false

    tested : (k : ℕ) → a ≤ k → from_to k ≡ p k
    tested k h = rw (le-leb a k h)

    any_by : (r : Bool) → MatchBool r ((k : ℕ) × (k < length numbers) × HoldsAt (λ x. p x ≡ true) numbers k) (AllWithin (λ x. p x ≡ false) numbers 0 (length numbers))
        → r ≡ any_below b from_to
    any_by true w =
        let e : p (a + w.0) ≡ true = rw (number_at w.0 w.1) at (w.2 0) in
        sym (any_some b from_to (a + w.0) (omega (arith, w.1, many)) (tested (a + w.0) (omega arith) ∙ e))
    any_by false w =
        sym
        (any_none b from_to (λ k h.
        ⊎_elim
        (λ (l : k < a). rw (lt-leb a k l))
        (λ (m : a ≤ k).
        let e : p (a + (k - a)) ≡ false = rw (number_at (k - a) (omega (arith, many))) at (w (k - a) 0 (omega arith) (omega (arith, many))) in
        let q : a + (k - a) ≡ k = omega arith in
        tested k m ∙ rw q at e)
        (order k a)))

-- `any` over a range, where f computes the test p
module _ {F : Type 0} (g : Mut F (ℕ × Unit {0}) Bool) (f : F) (p : ℕ → Bool)
    (acts : (k : ℕ) (b : Bool) (q : F) → Called g f (k, tt) b q → (q ≡ f) × (b ≡ p k)) where
  pub any_range : (s u : Range ℕ) (r : Bool)
      → (xs : List ℕ) × (o : Option ℕ) × (j : F) × YieldsThen nat_range_steps s xs o u × FoldsTo (λ i k q. Called g i (k, tt) false q) f xs j
      × MatchOption o (r ≡ false) (λ k. (r ≡ true) × ((h : F) × Called g j (k, tt) true h))
      → r ≡ any_below s.end (from_to s.start s.end p)
  any_range s u r d =
      any_by s.start s.end p r
      (cases_from_any u f r (λ k. p k ≡ true) (λ k. p k ≡ false) d (YieldsList-from_range s.start s.end (s.end - s.start) refl refl)
      (λ k q c. sym (acts k true q c).1) (λ k q c. ((acts k false q c).0, sym (acts k false q c).1)))

  -- the same over a range from 0
  pub any_from_zero : (s u : Range ℕ) (r : Bool) → s.start ≡ 0
      → (xs : List ℕ) × (o : Option ℕ) × (j : F) × YieldsThen nat_range_steps s xs o u × FoldsTo (λ i k q. Called g i (k, tt) false q) f xs j
      × MatchOption o (r ≡ false) (λ k. (r ≡ true) × ((h : F) × Called g j (k, tt) true h))
      → r ≡ any_below s.end p
  any_from_zero s u r e d =
      any_range s u r d ∙ any_same s.end (from_to s.start s.end p) p (λ k l. tested s.start s.end p k (omega arith))

-- an array made of f at each index below n, where f computes h
module _ {F A : Type 0} (g : Mut F (ℕ × Unit {0}) A) (f : F) (h : ℕ → A) (n : ℕ)
    (acts : (k : ℕ) (y : A) (q : F) → k < n → Called g f (k, tt) y q → (q ≡ f) × (y ≡ h k)) where
  stays : (ks : List ℕ) (i j : ℕ) (p q : F) → p ≡ f → Yields (index_steps n) i ks j → FoldsTo (λ p k q. (y : A) × Called g p (k, tt) y q) p ks q → q ≡ f
  stays [] i j p q e y c = sym c ∙ e
  stays (k ∷ ks) i j p q e y c =
      let called : Called g f (k, tt) c.1.0 c.0 = subst (λ (t : F). Called g t (k, tt) c.1.0 c.0) e c.1.1 in
      stays ks y.0 j c.0 q (acts k c.1.0 c.0 (omega (arith, y.1.0, y.1.1)) called).0 y.2 c.2

  pub array_may : ((k : ℕ) → k < n → Takes g f (k, tt)) → CallableAtEachTurn (index_steps n) (λ p k q. (y : A) × Called g p (k, tt) y q) (λ p k. Takes g p (k, tt)) 0 f
  array_may may = record {
    at = λ ks j q k u y c e. subst (λ (p : F). Takes g p (k, tt)) (sym (stays ks 0 j f q refl y c)) (may k (omega (arith, e.0, e.1)));
  }

  each : (d : A) (ys : List A) (m i : ℕ) (p : F) → p ≡ f → i + m ≤ n → IsFromFnResultFrom g p ys i m → (k : ℕ) → i ≤ k → k < i + m → get_or ys k d ≡ h k
  each d ys zero i p e l made k a b = absurd (omega arith)
  each d ys (suc m) i p e l made k a b =
      let w : (made.0 ≡ f) × (made.1 ≡ h i) = acts i made.1 made.0 (omega arith) (subst (λ (t : F). Called g t (i, tt) made.1 made.0) e made.3) in
      elim (ℕ_discrete k i) [
        | yes q ↦ rw q (made.2.1 d ∙ w.1)
        | no q ↦ each d ys m (i + 1) made.0 w.0 (omega arith) made.4 k (omega arith) (omega arith)
      ]

  pub array_at : (d : A) {ys : List A} → IsFromFnResult g f ys n → (k : ℕ) → k < n → get_or ys k d ≡ h k
  array_at d {ys} made k l = each d ys n 0 f refl (omega arith) made.each k (omega arith) (omega arith)

pub array_tab : {F : Type 0} (g : Mut F (ℕ × Unit {0}) ℕ) (f : F) (h : ℕ → ℕ) (n : ℕ)
    → ((k y : ℕ) (q : F) → k < n → Called g f (k, tt) y q → (q ≡ f) × (y ≡ h k))
    → {ys : List ℕ} → IsFromFnResult g f ys n → ys ≡ tab n h
array_tab g f h n acts {ys} made = is_tab n h ys made.long (array_at g f h n acts 0 made)

-- how many numbers of a range pass
pub count_range : (n a : ℕ) (p : ℕ → Bool) → length (filter p (range_with_len a n)) ≡ how_many n (λ i. p (a + i))
count_range zero a p = sym (how_many_zero _)
count_range (suc n) a p =
    let f : ℕ → Bool = λ i. p (a + i) in
    let rest : length (filter p (range_with_len (a + 1) n)) ≡ how_many n (λ i. f (1 + i)) =
    count_range n (a + 1) p ∙ how_many_same n (λ i. p (a + 1 + i)) (λ i. f (1 + i)) (λ i h. ap p (add_assoc a 1 i)) in
    let first : p (a + 0) ≡ p a = ap p (add-zero a) in
    let split : how_many (suc n) f ≡ how_many 1 f + how_many n (λ i. f (1 + i)) = ap (λ (m : ℕ). how_many m f) (omega arith) ∙ how_many_split 1 n f in
    go (p a) (how_many n (λ i. f (1 + i))) rest ∙ sym (omega (arith, split, how_many_more 0 f, how_many_zero f, ap bit first))
  where
    go : (b : Bool) (m : ℕ) → length (filter p (range_with_len (a + 1) n)) ≡ m
        → length (cond b (a ∷ filter p (range_with_len (a + 1) n)) (filter p (range_with_len (a + 1) n))) ≡ bit b + m
    go true m h = omega (arith, h)
    go false m h = omega (arith, h)

pub count_from_zero : (n : ℕ) (p : ℕ → Bool) → length (filter p (range_with_len 0 n)) ≡ how_many n p
count_from_zero n p = count_range n 0 p ∙ how_many_same n (λ i. p (0 + i)) p (λ i h. ap p (zero-add i))
