-- Laws of a chain of refusals. Assumes nothing.
use mathlib.Core.Path.{◌≡◌, refl, sym, ap, ap₂, ◌∙◌}
use mathlib.Core.Logic.{◌≢◌}
use mathlib.Core.Bool.{Bool, true, false, ◌||◌}
use mathlib.Core.List.{List, [], ◌∷◌}
use Prim.Native.Nat.{ℕ, ◌≤◌}
use native.Mathlib.Omega.{arith}
use lib.Dec.{eqb}
use borrow.Author.Tests.{eq-eqb, ne_eqb, eqb-true, not-false, ltb-false, le-ltb}
use Rattle.lists.specs.Lists.{any_of}
use Rattle.lists.proofs.AnyLaws.{none_at, or_all, any_of_lem}
use Rattle.answer.specs.declared.Refusal.{Refusal}
use Rattle.answer.specs.Answer.{Outcome, done, Ok, Err}
use Rattle.answer.specs.Numbers.{refusal_number}
use Rattle.answer.specs.Counted.{counted}
use Rattle.answer.specs.Refusals.{refuse, afterwards, differs, outside}

-- a test that holds ends the chain, and one that fails hands it on
pub refused : {b : Bool} (r : Refusal) (next : Outcome) → b ≡ true → refuse b r next ≡ Err r
unfolding refuse
refused r next e = rw e

pub passed : {b : Bool} (r : Refusal) (next : Outcome) → b ≡ false → refuse b r next ≡ next
unfolding refuse
passed r next e = rw e

-- a test that is a list, as code writes it
pub listed : (t : Bool) (us : List Bool) {b : Bool} → or_all t us ≡ b → any_of (t ∷ us) ≡ b
listed t us e = sym (any_of_lem t us) ∙ e

-- two tests that were found by calls
pub found : {a b t u v : Bool} → a ≡ t → b ≡ u → (a || b) ≡ v → any_of (t ∷ u ∷ []) ≡ v
found {t = t} {u = u} p q e = listed t (u ∷ []) (ap₂ ◌||◌ (sym p) (sym q) ∙ e)

pub differs_same : {a b : ℕ} → a ≡ b → differs a b ≡ false
differs_same {a} {b} e = rw (eq-eqb a b e)

pub differs_other : {a b : ℕ} → (a ≡ b → ⊥) → differs a b ≡ true
differs_other {a} {b} e = rw (ne_eqb a b e)

pub after_done : {A : Type 0} {o : Outcome} (s t : A) → o ≡ done → afterwards o s t ≡ t
unfolding afterwards
after_done s t e = rw e

pub after_refused : {A : Type 0} {o : Outcome} {r : Refusal} (s t : A) → o ≡ Err r → afterwards o s t ≡ s
unfolding afterwards
after_refused s t e = rw e

-- the end of an operation whose check answered: what the work made where it is done, and the buffer as it was where it is refused
pub written : {A : Type 0} {o answer : Outcome} (before : A) {new w : A} → o ≡ answer → o ≡ done → w ≡ new → w ≡ afterwards answer before new
written before {new = new} is e made = made ∙ sym (after_done before new (sym is ∙ e))

pub kept : {A : Type 0} {o answer : Outcome} {r : Refusal} {before : A} (new : A) → o ≡ answer → o ≡ Err r → before ≡ afterwards answer before new
kept {before = before} new is refusal = sym (after_refused before new (sym is ∙ refusal))

-- the end of an operation that counts
pub count_written : {o : Outcome} {c k : ℕ} → o ≡ done → c ≡ k → Ok c ≡ counted o k
count_written d e = rw (d, e) refl

pub count_kept : {o : Outcome} {r : Refusal} (k : ℕ) → o ≡ Err r → Err r ≡ counted o k
count_kept k refusal = rw refusal refl

pub counted_written : {A : Type 0} {o : Outcome} {c k : ℕ} (before : A) {new w : A} → o ≡ done → c ≡ k → w ≡ new
    → (Ok c ≡ counted o k) × (w ≡ afterwards o before new)
unfolding afterwards
counted_written before d e made = (count_written d e, rw (d, made) refl)

pub counted_kept : {A : Type 0} {o : Outcome} {r : Refusal} {before : A} (k : ℕ) (new : A) → o ≡ Err r
    → (Err r ≡ counted o k) × (before ≡ afterwards o before new)
unfolding afterwards
counted_kept k new refusal = (count_kept k refusal, rw refusal refl)

pub counted_done : (o : Outcome) {k c : ℕ} → counted o k ≡ Ok c → (o ≡ done) × (k ≡ c)
counted_done (Ok value) e = (refl, cc)
counted_done (Err r) e = let q : ◌≡◌ {A = ℕ} 0 1 = cc in absurd (omega arith)

-- what is known where nothing was refused
pub accepted : (b : Bool) (r : Refusal) (next : Outcome) → refuse b r next ≡ done → (b ≡ false) × (next ≡ done)
unfolding refuse
accepted true r next e = let q : ◌≡◌ {A = ℕ} 0 1 = cc in absurd (omega arith)
accepted false r next e = (refl, e)

-- two chains that agree as far as they go
pub refuse_same : (b c : Bool) (r : Refusal) (x y : Outcome) → b ≡ c → (b ≡ false → x ≡ y) → refuse b r x ≡ refuse c r y
unfolding refuse
refuse_same b c r x y e h = go b h ∙ ap (λ (t : Bool). refuse t r y) e
  where
    go : (t : Bool) → (t ≡ false → x ≡ y) → refuse t r x ≡ refuse t r y
    go true h = refl
    go false h = h refl

pub same : (x y : ℕ) → differs x y ≡ false → x ≡ y
same x y e = eqb-true x y (not-false (eqb x y) e)

-- x is in its range
pub inside : (lo hi x : ℕ) → outside lo hi x ≡ false → (lo ≤ x) × (x ≤ hi)
unfolding outside
inside lo hi x e = (ltb-false x lo (none_at _ 0 e), ltb-false hi x (none_at _ 1 e))

pub not_outside : (lo hi x : ℕ) → lo ≤ x → x ≤ hi → outside lo hi x ≡ false
unfolding outside any_of
not_outside lo hi x a b = rw (le-ltb x lo a, le-ltb hi x b)

-- one chain of tests has one answer
pub never_both : {o : Outcome} {r : Refusal} → o ≡ done → o ≡ Err r → ⊥
never_both p q = let x : ◌≡◌ {A = ℕ} 0 1 = cc in omega arith

pub same_refusal : {o : Outcome} {r r' : Refusal} → o ≡ Err r → o ≡ Err r' → r ≡ r'
same_refusal p q = cc

-- a refusal of another number came after
pub skipped : (b : Bool) (r : Refusal) (next : Outcome) {r' : Refusal} → refusal_number r ≢ refusal_number r' → refuse b r next ≡ Err r' → next ≡ Err r'
unfolding refuse
skipped true r next n e = absurd (n (ap refusal_number (same_refusal refl e)))
skipped false r next n e = e
