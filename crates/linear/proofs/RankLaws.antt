-- What the rank and the combinations tell of the given rows. Assumes nothing.
use mathlib.Core.Path.{◌≡◌, refl, sym, ◌∙◌, ap, ap₂, subst}
use mathlib.Core.Logic.{◌≢◌, ⊎_elim}
use Prim.Native.Nat.{ℕ, zero, suc, ◌<◌, ◌≤◌}
use native.Mathlib.Nat.{eq-or-lt_of_le, le_of_suc-le-suc, not-suc-le-zero}
use native.Mathlib.Omega.{arith}
use native.Mathlib.Decide.{ℕ_discrete, dec_lt}
use lib.Bits.{xor_self, xor_lt}
use Rattle.field.specs.Field.{plus, sum, times}
use Rattle.field.proofs.SumLaws.{sum_none, sum_last, sum_same, sum_zero, sum_swap, sum_one, sum_lt}
use Rattle.field.proofs.TimesLaws.{times_lt, times_comm, times_assoc, zero_times, times_zero, one_times, times_sum, sum_times}
use Rattle.vector.specs.Vectors.{product, mixed}
use Rattle.vector.proofs.VectorLaws.{product_same, product_right, product_mixed}
use Rattle.vector.proofs.VanishingLaws.{without_last, last_spanned}
use Rattle.linear.specs.PrivateElimination.{Matrix, BytesTo, Determining, Independent, Orthogonal, Vanishing, Reduces, LastIsCombined}
use Rattle.linear.specs.PrivateSteps.{Vec, unit_at}
use Rattle.linear.proofs.RowOperationLaws.{times_one, sel_other, sel_self, unit_byte, Agree, Op}
use Rattle.linear.proofs.EchelonLaws.{Reduction, Shape}

pub product_lt : (n : ℕ) (u x : Vec) → product n u x < 256
unfolding product
product_lt n u x = sum_lt 8 n _ (λ i l. times_lt (u i) (x i))

-- ---- products with unit vectors

pub by_unit : (n q : ℕ) (v : Vec) → q < n → v q < 256 → product n v (unit_at q) ≡ v q
unfolding product
by_unit n q v l h =
    sum_one n q (λ c. times (v c) (unit_at q c)) l (λ c b d. ap (times (v c)) (sel_other c q 1 0 d) ∙ times_zero (v c))
    ∙ ap (times (v q)) (sel_self q 1 0) ∙ times_one h

-- a row that is the unit row i
pub unit_row : (n i : ℕ) (v x : Vec) → ((j : ℕ) → j < n → v j ≡ unit_at j i) → i < n → x i < 256 → product n v x ≡ x i
unfolding product
unit_row n i v x h l b =
    sum_one n i (λ j. times (v j) (x j)) l
    (λ j c d. ap (λ (z : ℕ). times z (x j)) (h j c ∙ sel_other i j 1 0 (λ e. d (sym e))) ∙ zero_times (x j))
    ∙ ap (λ (z : ℕ). times z (x i)) (h i l ∙ sel_self i 1 0) ∙ one_times b

-- w i at each index p i, added
unfoldable placed : ℕ → Vec → Vec → Vec
placed r p w c = sum r (λ i. times (w i) (unit_at (p i) c))

placed_lt : (r : ℕ) (p w : Vec) (c : ℕ) → placed r p w c < 256
unfolding placed
placed_lt r p w c = sum_lt 8 r _ (λ i l. times_lt (w i) (unit_at (p i) c))

product_placed : (m r : ℕ) (v p w : Vec) → ((i : ℕ) → i < r → p i < m) → BytesTo m v
    → product m v (placed r p w) ≡ sum r (λ i. times (w i) (v (p i)))
unfolding product placed
product_placed m r v p w hp hv =
    sum_same m _ _ (λ c l. times_comm (v c) _ ∙ sum_times r (λ i. times (w i) (unit_at (p i) c)) (v c))
    ∙ sum_swap m r (λ c i. times (times (w i) (unit_at (p i) c)) (v c))
    ∙ sum_same r _ _ (λ i l.
    sum_same m _ _ (λ c b. times_assoc (w i) (unit_at (p i) c) (v c) ∙ ap (times (w i)) (times_comm (unit_at (p i) c) (v c)))
    ∙ sym (times_sum (w i) m (λ c. times (v c) (unit_at (p i) c)))
    ∙ ap (times (w i)) (by_unit m (p i) v (hp i l) (hv (p i) (hp i l))))

-- ---- an operation passes through a product

op_zero : (k : ℕ) {f g : Vec → Vec} → Op k f g → Agree k (f (λ l. 0)) (λ l. 0)
op_zero k {f} o i l =
    o.fwd.ext (λ l. 0) (λ l. times 0 0) (λ q b. sym (zero_times 0)) i l ∙ o.fwd.scales 0 (λ l. 0) i l ∙ zero_times (f (λ l. 0) i)

op_product : (k m : ℕ) {f g : Vec → Vec} → Op k f g → (a : Matrix) (x : Vec) → Agree k (f (λ l. product m (a l) x)) (λ i. product m (λ j. f (λ l. a l j) i) x)
unfolding product
op_product k zero {f} o a x i l =
    o.fwd.ext (λ q. product 0 (a q) x) (λ q. 0) (λ q b. sym (sum_none _)) i l ∙ op_zero k o i l ∙ sum_none (λ j. times (f (λ q. a q j) i) (x j))
op_product k (suc m) {f} o a x i l =
    o.fwd.ext (λ q. product (suc m) (a q) x) (λ q. plus (product m (a q) x) (times (a q m) (x m))) (λ q b. sum_last m _) i l
    ∙ o.fwd.adds (λ q. product m (a q) x) (λ q. times (a q m) (x m)) i l
    ∙ ap₂ plus (op_product k m o a x i l)
    (o.fwd.ext (λ q. times (a q m) (x m)) (λ q. times (x m) (a q m)) (λ q b. times_comm (a q m) (x m)) i l
    ∙ o.fwd.scales (x m) (λ q. a q m) i l ∙ times_comm (x m) (f (λ q. a q m) i))
    ∙ sym (sum_last m (λ j. times (f (λ q. a q j) i) (x j)))

op_inj : (k : ℕ) {f g : Vec → Vec} → Op k f g → (u v : Vec) → BytesTo k u → BytesTo k v → Agree k (f u) (f v) → Agree k u v
op_inj k {f} o u v hu hv h i l = sym (o.left u hu i l) ∙ o.bwd.ext (f u) (f v) h i l ∙ o.left v hv i l

-- ---- combinations

-- an index where a vector is not zero
nonzero : (k : ℕ) (y : Vec) → (((j : ℕ) → j < k → y j ≡ 0) → ⊥) → (j : ℕ) × (j < k) × (y j ≢ 0)
nonzero zero y h = absurd (h (λ j l. absurd (not-suc-le-zero l)))
nonzero (suc k) y h = go (ℕ_discrete (y k) 0) (nonzero k y)
  where
    go : Dec (y k ≡ 0) → ((((j : ℕ) → j < k → y j ≡ 0) → ⊥) → (j : ℕ) × (j < k) × (y j ≢ 0)) → (j : ℕ) × (j < suc k) × (y j ≢ 0)
    go (no d) more = (k, omega arith, d)
    go (yes e) more =
        let w = more (λ z. h (λ j l. ⊎_elim (λ (q : j ≡ k). ap y q ∙ e) (λ (b : j < k). z j b) (eq-or-lt_of_le (le_of_suc-le-suc l)))) in
        (w.0, omega (arith, w.1), w.2)

-- a combination of rows that vanishes is orthogonal to what any vector gives
vanishing_product : (k m : ℕ) (a : Matrix) (y x : Vec) → ((c : ℕ) → c < m → mixed k y a c ≡ 0) → sum k (λ i. times (y i) (product m (a i) x)) ≡ 0
unfolding product
vanishing_product k m a y x h =
    sym (product_mixed m k y a x) ∙ sum_zero m _ (λ c l. ap (λ (z : ℕ). times z (x c)) (h c l) ∙ zero_times (x c))

module _ (k m : ℕ) (a e t : Matrix) (ab : (i j : ℕ) → a i j < 256) (R : Reduction k m a e t) where
  pub entry_lt : (i j : ℕ) → i < k → j < m → e i j < 256
  entry_lt i j l b = subst (λ (z : ℕ). z < 256) (sym (R.rows i j l b)) (R.is.fwd.bytes (λ q. a q j) (λ q c. ab q j) i l)

  comb_lt : (i j : ℕ) → i < k → j < k → t i j < 256
  comb_lt i j l b = subst (λ (z : ℕ). z < 256) (sym (R.comb i j l b)) (R.is.fwd.bytes (unit_at j) (λ q c. unit_byte j q) i l)

  -- e x is the operation of a x, and t d that of d
  image : (x : Vec) → Agree k (λ i. product m (e i) x) (R.op (λ l. product m (a l) x))
  image x i l = product_same m (e i) _ x (λ j b. R.rows i j l b) ∙ sym (op_product k m R.is a x i l)

  combined : (d : Vec) → BytesTo k d → Agree k (λ i. product k (t i) d) (R.op d)
  combined d h i l =
      product_same k (t i) _ d (λ j b. R.comb i j l b)
      ∙ sym (op_product k k R.is (λ q j. unit_at j q) d i l)
      ∙ R.is.fwd.ext (λ q. product k (λ j. unit_at j q) d) d (λ q b. unit_row k q (λ j. unit_at j q) d (λ j c. refl) b (h q b)) i l

  -- only the zero vector is orthogonal to all rows of t
  whole : Determining k k t
  whole d h zeros =
      op_inj k R.is d (λ l. 0) h (λ l b. omega arith) (λ i l. sym (combined d h i l) ∙ zeros i l ∙ sym (op_zero k R.is i l))

  -- row i of e is what row i of t makes of the rows a
  combination : (i c : ℕ) → i < k → c < m → mixed k (t i) a c ≡ e i c
  unfolding product mixed
  combination i c l b = combined (λ j. a j c) (λ j q. ab j c) i l ∙ sym (R.rows i c l b)

  -- what the reduced rows give tells what the given rows give
  solved : (x d : Vec) → BytesTo k d → ((i : ℕ) → i < k → product m (e i) x ≡ R.op d i) → (i : ℕ) → i < k → product m (a i) x ≡ d i
  solved x d h g =
      op_inj k R.is (λ l. product m (a l) x) d (λ l b. product_lt m (a l) x) h (λ i l. sym (image x i l) ∙ g i l)

  module _ (r : ℕ) (p : Vec) (s : Shape k m r e p) where
    -- rank m: the first m reduced rows are unit rows
    full : r ≡ m → (x : Vec) → BytesTo m x → (i : ℕ) → i < m → i < k → product m (e i) x ≡ x i
    full q x h i l n =
        unit_row m i (e i) x (λ j b. ap (e i) (sym (s.whole q j (omega arith))) ∙ s.alone j i (omega arith) n) l (h i l)

    solution : r ≡ m → (x d : Vec) → BytesTo m x → BytesTo k d → ((j : ℕ) → j < k → product m (a j) x ≡ d j) → (i : ℕ) → i < m → x i ≡ product k (t i) d
    solution q x d hx hd h i l =
        let n : i < k = omega (arith, s.low) in
        sym (full q x hx i l n) ∙ image x i n ∙ R.is.fwd.ext (λ l. product m (a l) x) d h i n ∙ sym (combined d hd i n)

    solves : r ≡ m → k ≡ m → (d : Vec) → BytesTo k d → (j : ℕ) → j < k → product m (a j) (λ i. product k (t i) d) ≡ d j
    solves q z d h =
        solved (λ i. product k (t i) d) d h
        (λ i l. full q (λ i. product k (t i) d) (λ j b. product_lt k (t j) d) i (omega arith) l ∙ combined d h i l)

    determines : r ≡ m → Determining k m a
    unfolding product
    determines q x hx h i l = solution q x (λ j. 0) hx (λ j b. omega arith) h i l ∙ sum_zero k _ (λ j b. times_zero (t i j))

    -- row i of e at the pivots, times w: element i of w, which is 0 past the rank
    at_pivots : (w : Vec) (i : ℕ) → i < k → w i < 256 → (r ≤ i → w i ≡ 0) → sum r (λ q. times (w q) (e i (p q))) ≡ w i
    at_pivots w i l h z = sum_same r _ _ (λ q b. ap (times (w q)) (s.alone q i b l)) ∙ go (dec_lt i r)
      where
        other : (q : ℕ) → q ≢ i → times (w q) (unit_at q i) ≡ 0
        other q n = ap (times (w q)) (sel_other i q 1 0 (λ y. n (sym y))) ∙ times_zero (w q)

        go : Dec (i < r) → sum r (λ q. times (w q) (unit_at q i)) ≡ w i
        go (yes b) = sum_one r i (λ q. times (w q) (unit_at q i)) b (λ q c. other q) ∙ ap (times (w i)) (sel_self i 1 0) ∙ times_one h
        go (no b) = sum_zero r _ (λ q c. other q (λ y. b (omega arith))) ∙ sym (z (omega arith))

    placed_pivots : (w : Vec) (i : ℕ) → i < k → w i < 256 → (r ≤ i → w i ≡ 0) → product m (e i) (placed r p w) ≡ w i
    placed_pivots w i l h z = product_placed m r (e i) p w s.before (λ j b. entry_lt i j l b) ∙ at_pivots w i l h z

    -- rank below m: a column f without a pivot gives a vector that is orthogonal to all rows
    module _ (f : ℕ) (there : f < m) (free : (i : ℕ) → i < r → p i ≢ f) where
      abbrev spare : Vec
      spare c = plus (unit_at f c) (placed r p (λ i. e i f) c)

      spare_one : spare f ≡ 1
      unfolding placed
      spare_one =
          ap₂ plus (sel_self f 1 0)
          (sum_zero r _ (λ i l. ap (times (e i f)) (sel_other f (p i) 1 0 (λ z. free i l (sym z))) ∙ times_zero (e i f)))

      spare_product : (i : ℕ) → i < k → product m (e i) spare ≡ 0
      spare_product i l =
          product_right m (e i) (unit_at f) (placed r p (λ q. e q f))
          ∙ ap₂ plus (by_unit m f (e i) there (entry_lt i f l there))
          (placed_pivots (λ q. e q f) i l (entry_lt i f l there) (λ b. s.rest i f b l there))
          ∙ xor_self (e i f)

      orthogonal : Orthogonal k m a
      orthogonal =
          record {
            x = spare;
            bytes = λ c l. xor_lt 8 (unit_at f c) _ (unit_byte f c) (placed_lt r p (λ i. e i f) c);
            one = f;
            one_there = there;
            one_not = λ z. let q : ◌≡◌ {A = ℕ} 1 0 = sym spare_one ∙ z in omega arith;
            zero_products = solved spare (λ l. 0) (λ l b. omega arith) (λ i l. spare_product i l ∙ sym (op_zero k R.is i l));
          }

    blind : r < m → Orthogonal k m a
    blind h = let w = s.free h in orthogonal w.0 w.1 w.2

    -- rank k: some vector gives d, for each d
    reached : r ≡ k → (d : Vec) → BytesTo k d → (x : Vec) × ((i : ℕ) → i < k → product m (a i) x ≡ d i)
    reached q d h =
        let w = R.op d in
        (placed r p w, solved (placed r p w) d h (λ i l. placed_pivots w i l (R.is.fwd.bytes d h i l) (λ b. absurd (omega arith))))

    -- so a combination that vanishes is orthogonal to each unit vector
    independence : r ≡ k → Independent k m a
    unfolding product
    independence q y hy h j l =
        let got = reached q (unit_at j) (λ i b. unit_byte j i) in
        sym (by_unit k j y l (hy j l)) ∙ sum_same k _ _ (λ i b. ap (times (y i)) (sym (got.1 i b))) ∙ vanishing_product k m a y got.0 h

    -- rows of t past the rank vanish
    rest : (i c : ℕ) → r ≤ i → i < k → c < m → mixed k (t i) a c ≡ 0
    rest i c h l b = combination i c l b ∙ s.rest i c h l b

    -- rank below k: row r of t
    not_zeros : r < k → ((j : ℕ) → j < k → t r j ≡ 0) → ⊥
    unfolding product
    not_zeros h z =
        let d = R.undo (unit_at r) in
        let b : BytesTo k d = R.is.bwd.bytes (unit_at r) (λ i l. unit_byte r i) in
        let none : product k (t r) d ≡ 0 = sum_zero k _ (λ j l. ap (λ (y : ℕ). times y (d j)) (z j l) ∙ zero_times (d j)) in
        let one : ◌≡◌ {A = ℕ} 0 1 = sym none ∙ combined d b r h ∙ R.is.right (unit_at r) (λ i l. unit_byte r i) r h ∙ sel_self r 1 0 in
        omega arith

    vanishing : r < k → Vanishing k m a
    vanishing h =
        let w = nonzero k (t r) (not_zeros h) in
        record {
          y = t r;
          bytes = λ j l. comb_lt r j h l;
          one = w.0;
          one_there = w.1;
          one_not = w.2;
          zero_sums = λ c l. rest r c (omega arith) h l;
        }

    pub reduces : Reduces k m a t r
    reduces =
        record {
          at_most_columns = s.within;
          at_most_rows = s.low;
          determining = (determines, λ g. by_columns g (dec_lt r m));
          independent = (independence, λ g. by_rows g (dec_lt r k));
          blind = blind;
          vanishing = vanishing;
          solution = solution;
          solves = solves;
          rest = rest;
          whole = whole;
        }
      where
        by_columns : Determining k m a → Dec (r < m) → r ≡ m
        by_columns g (yes l) = let w = blind l in absurd (w.one_not (g w.x w.bytes w.zero_products w.one w.one_there))
        by_columns g (no l) = omega (arith, s.within)

        by_rows : Independent k m a → Dec (r < k) → r ≡ k
        by_rows g (yes l) = let w = vanishing l in absurd (w.one_not (g w.y w.bytes w.zero_sums w.one w.one_there))
        by_rows g (no l) = omega (arith, s.low)

-- ---- a row that is not kept

-- the last coefficient is not zero, else the rows before the last vanish
pub last_combined : LastIsCombined
last_combined k m a ab g v = last_spanned k m a v.y v.zero_sums (ab k) (v.bytes k (omega arith)) (omega (arith, last_not))
  where
    last_not : v.y k ≢ 0
    last_not z =
        v.one_not
        (⊎_elim (λ (q : v.one ≡ k). ap v.y q ∙ z)
        (g v.y (λ i l. v.bytes i (omega arith)) (without_last k m a v.y v.zero_sums z) v.one) (eq-or-lt_of_le (le_of_suc-le-suc v.one_there)))
