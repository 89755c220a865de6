-- Operations on a column of k bytes that can be undone: what elimination does to each column of a matrix. Assumes nothing.
use mathlib.Core.Path.{◌≡◌, refl, sym, ◌∙◌, ap, ap₂, subst}
use mathlib.Core.Logic.{◌≢◌}
use mathlib.Core.Bool.{Bool}
use Prim.Native.Nat.{ℕ, ◌<◌}
use native.Mathlib.Omega.{arith}
use native.Mathlib.Decide.{ℕ_discrete}
use lib.Bits.{xor_lt}
use borrow.Author.Tests.{eq-eqb, ne_eqb}
use Rattle.lists.specs.Lists.{pick}
use Rattle.field.specs.Field.{plus, times}
use Rattle.field.proofs.XorLaws.{xors, xor_swap}
use Rattle.field.proofs.TimesLaws.{times_lt, times_comm, times_assoc, times_left_comm, times_xor_right, one_times}
use Rattle.linear.specs.PrivateElimination.{BytesTo}
use Rattle.linear.specs.PrivateSteps.{Vec, sel, unit_at, swap, swap_op, scale_op, clear_op}

pub times_one : {a : ℕ} → a < 256 → times a 1 ≡ a
times_one {a} h = times_comm a 1 ∙ one_times h

-- ---- a choice by an index

pub sel_same : (p r a b : ℕ) → p ≡ r → sel p r a b ≡ a
unfolding sel
sel_same p r a b e = ap (λ (t : Bool). pick t a b) (eq-eqb p r e)

pub sel_other : (p r a b : ℕ) → p ≢ r → sel p r a b ≡ b
unfolding sel
sel_other p r a b h = ap (λ (t : Bool). pick t a b) (ne_eqb p r h)

pub sel_self : (p a b : ℕ) → sel p p a b ≡ a
sel_self p a b = sel_same p p a b refl

-- what holds of a at r, and of b at any other index
pub sel_case : (P : ℕ → Type 0) (p r a b : ℕ) → (p ≡ r → P a) → (p ≢ r → P b) → P (sel p r a b)
sel_case P p r a b h l = go (ℕ_discrete p r)
  where
    go : Dec (p ≡ r) → P (sel p r a b)
    go (yes e) = subst P (sym (sel_same p r a b e)) (h e)
    go (no d) = subst P (sym (sel_other p r a b d)) (l d)

-- what is done to a choice is done to both sides
sel_by : (F : ℕ → ℕ) (p r a b : ℕ) → sel p r (F a) (F b) ≡ F (sel p r a b)
sel_by F p r a b = sel_case (λ x. sel p r (F a) (F b) ≡ F x) p r a b (sel_same p r (F a) (F b)) (sel_other p r (F a) (F b))

sel_plus : (p r a b c d : ℕ) → sel p r (plus a c) (plus b d) ≡ plus (sel p r a b) (sel p r c d)
sel_plus p r a b c d = go (ℕ_discrete p r)
  where
    go : Dec (p ≡ r) → sel p r (plus a c) (plus b d) ≡ plus (sel p r a b) (sel p r c d)
    go (yes e) = simp sel_same
    go (no h) = simp sel_other

pub unit_byte : (q i : ℕ) → unit_at q i < 256
unit_byte q i = sel_case (λ x. x < 256) i q 1 0 (λ e. omega arith) (λ d. omega arith)

-- ---- linear operations

abbrev pub Agree : ℕ → Vec → Vec → Type 0
Agree k u v = (i : ℕ) → i < k → u i ≡ v i

pub record Linear (k : ℕ) (f : Vec → Vec) : Type 0 where
  pub ext : (u v : Vec) → Agree k u v → Agree k (f u) (f v)
  pub bytes : (u : Vec) → BytesTo k u → BytesTo k (f u)
  pub adds : (u v : Vec) → Agree k (f (λ i. plus (u i) (v i))) (λ i. plus (f u i) (f v i))
  pub scales : (c : ℕ) (u : Vec) → Agree k (f (λ i. times c (u i))) (λ i. times c (f u i))

-- one that g undoes
pub record Op (k : ℕ) (f g : Vec → Vec) : Type 0 where
  pub fwd : Linear k f
  pub bwd : Linear k g
  pub left : (u : Vec) → BytesTo k u → Agree k (g (f u)) u
  pub right : (u : Vec) → BytesTo k u → Agree k (f (g u)) u

id_linear : (k : ℕ) → Linear k (λ u. u)
id_linear k = record { ext = λ u v h. h; bytes = λ u h. h; adds = λ u v i l. refl; scales = λ c u i l. refl }

pub id_op : (k : ℕ) → Op k (λ u. u) (λ u. u)
id_op k = record { fwd = id_linear k; bwd = id_linear k; left = λ u h i l. refl; right = λ u h i l. refl }

comp_linear : (k : ℕ) {f g : Vec → Vec} → Linear k f → Linear k g → Linear k (λ u. g (f u))
comp_linear k {f} {g} o p =
    record {
      ext = λ u v h. p.ext (f u) (f v) (o.ext u v h);
      bytes = λ u h. p.bytes (f u) (o.bytes u h);
      adds = λ u v i l. p.ext (f (λ j. plus (u j) (v j))) (λ j. plus (f u j) (f v j)) (o.adds u v) i l ∙ p.adds (f u) (f v) i l;
      scales = λ c u i l. p.ext (f (λ j. times c (u j))) (λ j. times c (f u j)) (o.scales c u) i l ∙ p.scales c (f u) i l;
    }

-- one after the other
pub comp_op : (k : ℕ) {f g f' g' : Vec → Vec} → Op k f g → Op k f' g' → Op k (λ u. f' (f u)) (λ u. g (g' u))
comp_op k {f} {g} {f'} {g'} o p =
    record {
      fwd = comp_linear k o.fwd p.fwd;
      bwd = comp_linear k p.bwd o.bwd;
      left = λ u h i l. o.bwd.ext (g' (f' (f u))) (f u) (p.left (f u) (o.fwd.bytes u h)) i l ∙ o.left u h i l;
      right = λ u h i l. p.fwd.ext (f (g (g' u))) (g' u) (o.right (g' u) (p.bwd.bytes u h)) i l ∙ p.right u h i l;
    }

-- ---- rows i and j change places

swap_lt : (i j p k : ℕ) → i < k → j < k → p < k → swap i j p < k
swap_lt i j p k hi hj hp = sel_case (λ x. x < k) p i j _ (λ e. hj) (λ d. sel_case (λ x. x < k) p j i p (λ e. hi) (λ q. hp))

swap_swap : (i j p : ℕ) → swap i j (swap i j p) ≡ p
swap_swap i j p = go (ℕ_discrete p i) (ℕ_discrete p j) (ℕ_discrete j i)
  where
    go : Dec (p ≡ i) → Dec (p ≡ j) → Dec (j ≡ i) → swap i j (swap i j p) ≡ p
    go (yes e) b (yes q) = simp sel_same (q ∙ sym e)
    go (yes e) b (no q) = simp (sel_same, sel_other) (sym e)
    go (no d) (yes e) b = simp (sel_other, sel_same) (sym e)
    go (no d) (no e) b = simp sel_other

swap_linear : (k i j : ℕ) → i < k → j < k → Linear k (swap_op i j)
swap_linear k i j hi hj =
    record {
      ext = λ u v h p l. h (swap i j p) (swap_lt i j p k hi hj l);
      bytes = λ u h p l. h (swap i j p) (swap_lt i j p k hi hj l);
      adds = λ u v p l. refl;
      scales = λ c u p l. refl;
    }

pub swap_op_lem : (k i j : ℕ) → i < k → j < k → Op k (swap_op i j) (swap_op i j)
swap_op_lem k i j hi hj =
    record {
      fwd = swap_linear k i j hi hj;
      bwd = swap_linear k i j hi hj;
      left = λ u h p l. ap u (swap_swap i j p);
      right = λ u h p l. ap u (swap_swap i j p);
    }

-- ---- row r is multiplied by c

scale_back : (r c d : ℕ) → times c d ≡ 1 → (u : Vec) (p : ℕ) → u p < 256 → scale_op r c (scale_op r d u) p ≡ u p
scale_back r c d e u p h = go (ℕ_discrete p r)
  where
    go : Dec (p ≡ r) → scale_op r c (scale_op r d u) p ≡ u p
    go (yes q) = simp sel_same (sym (times_assoc c d (u p)) ∙ ap (λ (x : ℕ). times x (u p)) e ∙ one_times h)
    go (no q) = simp sel_other

scale_linear : (k r c : ℕ) → Linear k (scale_op r c)
scale_linear k r c =
    record {
      ext = λ u v h p l. ap (λ (x : ℕ). sel p r (times c x) x) (h p l);
      bytes = λ u h p l. sel_case (λ x. x < 256) p r _ _ (λ e. times_lt c (u p)) (λ d. h p l);
      adds = λ u v p l. ap (λ (x : ℕ). sel p r x (plus (u p) (v p))) (times_xor_right c (u p) (v p)) ∙ sel_plus p r _ _ _ _;
      scales = λ x u p l. ap (λ (y : ℕ). sel p r y (times x (u p))) (times_left_comm c x (u p)) ∙ sel_by (times x) p r _ _;
    }

pub scale_op_lem : (k r c d : ℕ) → times c d ≡ 1 → Op k (scale_op r c) (scale_op r d)
scale_op_lem k r c d e =
    record {
      fwd = scale_linear k r c;
      bwd = scale_linear k r d;
      left = λ u h p l. scale_back r d c (times_comm d c ∙ e) u p (h p l);
      right = λ u h p l. scale_back r c d e u p (h p l);
    }

-- ---- row r is added to the others

clear_back : (r : ℕ) (b u : Vec) (p : ℕ) → clear_op r b (clear_op r b u) p ≡ u p
clear_back r b u p = go (ℕ_discrete p r)
  where
    go : Dec (p ≡ r) → clear_op r b (clear_op r b u) p ≡ u p
    go (yes q) = simp sel_same
    go (no q) = simp (sel_other, sel_self, xors)

clear_linear : (k r : ℕ) (b : Vec) → r < k → Linear k (clear_op r b)
clear_linear k r b hr =
    record {
      ext = λ u v h p l. ap₂ (λ (x y : ℕ). sel p r x (plus x (times (b p) y))) (h p l) (h r hr);
      bytes = λ u h p l. sel_case (λ x. x < 256) p r _ _ (λ e. h p l) (λ d. xor_lt 8 (u p) _ (h p l) (times_lt (b p) (u r)));
      adds =
          λ u v p l.
          ap (sel p r (plus (u p) (v p))) (ap (plus (plus (u p) (v p))) (times_xor_right (b p) (u r) (v r)) ∙ xor_swap (u p) (v p) _ _)
          ∙ sel_plus p r _ _ _ _;
      scales =
          λ x u p l.
          ap (sel p r (times x (u p)))
          (ap (plus (times x (u p))) (times_left_comm (b p) x (u r)) ∙ sym (times_xor_right x (u p) (times (b p) (u r))))
          ∙ sel_by (times x) p r _ _;
    }

pub clear_op_lem : (k r : ℕ) (b : Vec) → r < k → Op k (clear_op r b) (clear_op r b)
clear_op_lem k r b hr =
    record {
      fwd = clear_linear k r b hr;
      bwd = clear_linear k r b hr;
      left = λ u h p l. clear_back r b u p;
      right = λ u h p l. clear_back r b u p;
    }
