-- What Losses lists of an empty archive of four nodes, and of the worked archive of two rows. Assumes nothing.
use Prim.Native.Nat.{ℕ, zero, suc, ◌/◌, ◌<◌, ◌≤◌}
use mathlib.Core.Path.{◌≡◌, refl, sym, ap, subst, ◌∙◌}
use mathlib.Core.Bool.{Bool, true, false, true≢false}
use mathlib.Core.List.{List, [], ◌∷◌}
use mathlib.Core.Logic.{◌≢◌, ◌↔◌, ⊎_elim}
use native.Mathlib.Omega.{arith}
use lib.Dec.{T}
use lib.ListN.{length}
use Rattle.lists.specs.Lists.{pick, at, tab, zero_padded, filtered, any_of, any_below}
use Rattle.lists.proofs.AllLaws.{all}
use Rattle.lists.proofs.TabLaws.{length_tab}
use Rattle.answer.specs.Answer.{Counted, Ok, Err}
use Rattle.answer.specs.declared.Refusal.TheVariants.{Size, Length, BadArchive}
use Rattle.answer.specs.Refusals.{refuse, outside}
use Rattle.field.specs.Field.{sum, times, xtimes, xtime, modulus}
use Rattle.bits.specs.Fields.{number, bit_at, field_at}
use Rattle.sizes.specs.Sizes.{sizes_outside}
use Rattle.sizes.proofs.SizeLaws.{Ranged, ranged}
use Rattle.vector.specs.Vectors.{product}
use Rattle.archive.specs.Layout.{layout_outside, tag_field, layout_of, sizes_of, mark_at, byte_in, bad_for, bad_archive}
use Rattle.archive.specs.Open.{opened}
use Rattle.archive.specs.Read.{row_in}
use Rattle.archive.specs.Losses.{in_set, nodes_in, before, remains, Hurts, LossesAllows}
use Rattle.archive.proofs.LayoutLaws.{mark_back, sizes_back, good_back}
use Rattle.archive.proofs.LostLaws.{filled}
use Rattle.promise.specs.Worked as W
use Rattle.promise.specs.SmallCases.{four_empty}
use Rattle.promise.proofs.Worked.{two_sizes, sighted, first_marked, third_marked}
use Rattle.promise.proofs.ListedLosses.{either, Passes, listed, other, sized, hurts_by}

-- ---- four nodes, none filled

abbrev id : List ℕ
id = tab 8 (λ i. i)

id_length_lem : length id ≡ 8
id_length_lem = length_tab 8 (λ i. i)

laid : layout_outside 1 1 ≡ false
unfolding layout_outside
laid = refl

in_range : Ranged (sized 1 4 1)
unfolding sizes_outside outside any_of
in_range = ranged (sized 1 4 1) refl

four_sizes : sizes_of four_empty ≡ sized 1 4 1
unfolding opened
four_sizes = sizes_back 1 (sized 1 4 1) id id_length_lem (λ k. false) (λ k p. 0) laid in_range

four_good : bad_archive four_empty ≡ false
unfolding opened
four_good = good_back 1 (sized 1 4 1) id id_length_lem (λ k. false) (λ k p. 0) laid in_range (λ k h. refl)

unmarked : (k : ℕ) → k < 4 → mark_at four_empty k ≡ false
unfolding opened
unmarked k h = mark_back 1 (sized 1 4 1) id id_length_lem (λ k. false) (λ k p. 0) k (omega arith)

-- so every set hurts, by any vector
four_hurts : (set : ℕ) → Hurts (sized 1 4 1) four_empty set ↔ T true
four_hurts set = (
  λ w. tt,
  λ t. hurts_by 1 4 1 four_empty set 0 1 (omega arith) (omega arith) (λ e. omega arith)
      (λ k h e. absurd (true≢false (sym (filled (in_set set (k / 1)) (mark_at four_empty k) e).1 ∙ unmarked k h))),
)

abbrev four_sets : List ℕ
four_sets = 0x03 ∷ 0x05 ∷ 0x09 ∷ 0x06 ∷ 0x0a ∷ 0x0c ∷ []

four_pass : Passes (λ set. true) 4 2 four_sets
unfolding all any_below nodes_in filtered before zero_padded tab
four_pass = (tt, tt, tt, tt, tt)

pub all_hurt : (lent : List ℕ) → length lent ≡ 20 → LossesAllows four_empty 2 lent (Ok 6) (zero_padded 20 four_sets)
all_hurt lent e =
    listed (sized 1 4 1) four_empty four_sizes four_good (λ set. true) four_hurts 2 four_sets lent (omega arith) e (omega arith) four_pass

pub not_by_byte : (lent sets : List ℕ) (answer : Counted) → length lent ≡ 20 → LossesAllows four_empty 2 lent answer sets
    → sets ≢ zero_padded 20 (0x03 ∷ 0x05 ∷ 0x06 ∷ 0x09 ∷ 0x0a ∷ 0x0c ∷ [])
unfolding zero_padded
not_by_byte lent sets answer e w = other four_empty 2 lent 6 _ sets _ answer 2 (all_hurt lent e) w (λ (q : ◌≡◌ {A = ℕ} 9 6). omega arith)

-- ---- three nodes, of which 0 and 2 hold the rows 01 00 and 02 03

two_good : bad_archive W.two ≡ false
unfolding bad_for layout_outside tag_field layout_of sizes_outside outside any_of any_below sizes_of field_at bit_at number mark_at
two_good = refl

-- 03 02 is orthogonal to all but the first row, 00 01 to all but the last
without_first : (set : ℕ) → T (in_set set 0) → (k : ℕ) → k < 3 → remains W.z W.two set k ≡ true → product 2 (row_in W.z W.two k) (at (3 ∷ 2 ∷ [])) ≡ 0
unfolding product sum byte_in times xtimes xtime modulus
without_first set t zero h e = absurd (subst T (filled (in_set set 0) _ e).0 t)
without_first set t (suc zero) h e = refl
without_first set t (suc (suc zero)) h e = refl
without_first set t (suc (suc (suc k))) h e = absurd (omega arith)

without_last : (set : ℕ) → T (in_set set 2) → (k : ℕ) → k < 3 → remains W.z W.two set k ≡ true → product 2 (row_in W.z W.two k) (at (0 ∷ 1 ∷ [])) ≡ 0
unfolding product sum byte_in times xtimes xtime modulus
without_last set t zero h e = refl
without_last set t (suc zero) h e = refl
without_last set t (suc (suc zero)) h e = absurd (subst T (filled (in_set set 2) _ e).0 t)
without_last set t (suc (suc (suc k))) h e = absurd (omega arith)

-- a set hurts if it has node 0 or node 2
abbrev hurting : ℕ → Bool
hurting set = pick (in_set set 0) true (in_set set 2)

two_hurts : (set : ℕ) → Hurts W.z W.two set ↔ T (hurting set)
two_hurts set = (
  go (in_set set 0) (in_set set 2) refl refl,
  λ t.
      ⊎_elim (λ t. hurts_by 1 3 1 W.two set 3 2 (omega arith) (omega arith) (λ e. omega arith) (without_first set t))
      (λ t. hurts_by 1 3 1 W.two set 0 1 (omega arith) (omega arith) (λ e. omega arith) (without_last set t))
      (either (in_set set 0) (in_set set 2) t),
)
  where
    go : (a b : Bool) → in_set set 0 ≡ a → in_set set 2 ≡ b → Hurts W.z W.two set → T (pick a true b)
    go true b p q w = tt
    go false true p q w = tt
    go false false p q w =
        sighted (remains W.z W.two set) (ap (λ (t : Bool). pick t false (mark_at W.two 0)) p ∙ first_marked)
        (ap (λ (t : Bool). pick t false (mark_at W.two 2)) q ∙ third_marked) w

two_listed : (k : ℕ) (xs lent : List ℕ) → k ≤ 3 → length lent ≡ 20 → length xs ≤ 20 → Passes hurting 3 k xs
    → LossesAllows W.two k lent (Ok (length xs)) (zero_padded 20 xs)
two_listed = listed W.z W.two two_sizes two_good hurting two_hurts

two_pass : Passes hurting 3 0 [] × Passes hurting 3 1 (0x01 ∷ 0x04 ∷ []) × Passes hurting 3 2 (0x03 ∷ 0x05 ∷ 0x06 ∷ [])
    × Passes hurting 3 3 (0x07 ∷ [])
unfolding all any_below nodes_in filtered before zero_padded tab
two_pass = ((tt, tt, tt, tt, tt), (tt, tt, tt, tt, tt), (tt, tt, tt, tt, tt), (tt, tt, tt, tt, tt))

pub nothing_lost : (lent : List ℕ) → length lent ≡ 20 → LossesAllows W.two 0 lent (Ok 0) (zero_padded 20 [])
nothing_lost lent e = two_listed 0 [] lent (omega arith) e (omega arith) two_pass.0

pub one_lost : (lent : List ℕ) → length lent ≡ 20 → LossesAllows W.two 1 lent (Ok 2) (zero_padded 20 (0x01 ∷ 0x04 ∷ []))
one_lost lent e = two_listed 1 (0x01 ∷ 0x04 ∷ []) lent (omega arith) e (omega arith) two_pass.1

pub two_lost : (lent : List ℕ) → length lent ≡ 20 → LossesAllows W.two 2 lent (Ok 3) (zero_padded 20 (0x03 ∷ 0x05 ∷ 0x06 ∷ []))
two_lost lent e = two_listed 2 (0x03 ∷ 0x05 ∷ 0x06 ∷ []) lent (omega arith) e (omega arith) two_pass.2

pub all_lost : (lent : List ℕ) → length lent ≡ 20 → LossesAllows W.two 3 lent (Ok 1) (zero_padded 20 (0x07 ∷ []))
all_lost lent e = two_listed 3 (0x07 ∷ []) lent (omega arith) e (omega arith) two_pass.3

pub not_kept : (lent sets : List ℕ) (answer : Counted) → length lent ≡ 20 → LossesAllows W.two 1 lent answer sets
    → sets ≢ zero_padded 20 (0x06 ∷ 0x03 ∷ [])
unfolding zero_padded
not_kept lent sets answer e w = other W.two 1 lent 2 _ sets _ answer 0 (one_lost lent e) w (λ (q : ◌≡◌ {A = ℕ} 1 6). omega arith)

-- ---- refused

pub no_archive : (k : ℕ) (lent : List ℕ) → LossesAllows [] k lent (Err BadArchive) lent
unfolding refuse bad_for layout_outside tag_field layout_of sizes_outside outside any_of any_below sizes_of field_at bit_at number mark_at
no_archive k lent = (refl, refl)

pub four_of_three : (lent : List ℕ) → LossesAllows W.two 4 lent (Err Size) lent
unfolding refuse bad_for layout_outside tag_field layout_of sizes_outside outside any_of any_below sizes_of field_at bit_at number mark_at
four_of_three lent = (refl, refl)

pub list_of_19 : (lent : List ℕ) → length lent ≡ 19 → LossesAllows W.two 3 lent (Err Length) lent
unfolding refuse bad_for layout_outside tag_field layout_of sizes_outside outside any_of any_below sizes_of field_at bit_at number mark_at
list_of_19 lent e = (refl, rw e)
