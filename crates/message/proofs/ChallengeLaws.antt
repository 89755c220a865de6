-- Packing a challenge and reading it gives back its fields. Assumes nothing.
use Prim.Native.Nat.{ℕ, zero, suc, ◌+◌, ◌-◌, ◌*◌, ◌<◌, ◌≤◌}
use mathlib.Core.Path.{◌≡◌, refl, sym, ap, ◌∙◌}
use mathlib.Core.Bool.{false}
use mathlib.Core.List.{List, [], ◌∷◌, ◌++◌, append_assoc}
use native.Mathlib.Nat.{add-zero, add-suc, suc-add}
use native.Mathlib.Omega.{arith}
use lib.ListN.{length}
use lib.Seq.{ext_get_or}
use borrow.Author.Tests.{eq-eqb, ltb-false}
use Rattle.lists.specs.Lists.{at, any_of}
use Rattle.lists.proofs.TabLaws.{length_tab, tab_at}
use Rattle.lists.proofs.AnyLaws.{none_at, any_below_lem}
use Rattle.answer.specs.Answer.{done}
use Rattle.answer.specs.Refusals.{afterwards}
use Rattle.answer.proofs.RefusalLaws.{accepted, same, inside}
use Rattle.bits.specs.Fields.{BitField, ◌wide◌, widths, bytes_for, field_at}
use Rattle.bits.proofs.NumberLaws.{number_same, number_zero}
use Rattle.bits.proofs.PackLaws.{pack_length, pack_field, pack_spare}
use Rattle.bits.proofs.AppendLaws.{widths_more}
use Rattle.message.specs.Challenge.{Challenge, items, challenge_fields, challenge_bytes, challenge_bits, challenge_length, out_of_rule, challenge_in, challenge_of, malformed_for, malformed_challenge, challenge_answer, challenge_out}

-- ---- items

-- the items from i on, split after the first j
pub items_split : (c : Challenge) (i j k : ℕ) → items c i (j + k) ≡ items c i j ++ items c (i + j) k
unfolding items
items_split c i zero k = let q : 0 + k ≡ k = omega arith in rw (q, add-zero)
items_split c i (suc j) k = rw (suc-add j k, items_split c (suc i) j k, add-suc i j, suc-add i j)

items_width : (c : Challenge) (i k : ℕ) → widths (items c i k) ≡ 11 * k
unfolding items widths
items_width c i zero = refl
items_width c i (suc k) = rw (items_width c (suc i) k) (omega arith)

-- the fields before item j
abbrev pub fields_before : Challenge → ℕ → List BitField
fields_before c j = (4 wide 1) ∷ (3 wide c.node) ∷ (4 wide length c.places) ∷ items c 0 j

-- ---- a challenge in rule

pub record InRule (c : Challenge) : Type 0 where
  pub node_low : c.node ≤ 5
  pub some : 1 ≤ length c.places
  pub few : length c.places ≤ 8
  pub places_low : (j : ℕ) → j < length c.places → at c.places j ≤ 7

pub in_rule : (c : Challenge) → out_of_rule c.node c.places ≡ false → InRule c
unfolding out_of_rule
in_rule c e =
    record {
      node_low = ltb-false 5 c.node (none_at _ 0 e);
      some = (inside 1 8 (length c.places) (none_at _ 1 e)).0;
      few = (inside 1 8 (length c.places) (none_at _ 1 e)).1;
      places_low = λ j h. ltb-false 7 (at c.places j) (any_below_lem (length c.places) _ (none_at _ 2 e) j h);
    }

-- ---- it is read back

module _ (c : Challenge) (R : InRule c) (even : length c.coefficients ≡ length c.places)
    (bytes : (j : ℕ) → j < length c.coefficients → at c.coefficients j < 256) where
  abbrev count : ℕ
  count = length c.places

  abbrev s : List ℕ
  s = challenge_bytes c

  abbrev before : ℕ → List BitField
  before = fields_before c

  before_width : (j : ℕ) → widths (before j) ≡ challenge_bits j
  unfolding widths
  before_width j = rw (items_width c 0 j) (omega arith)

  fields_split : (j : ℕ) → j < count
      → challenge_fields c ≡ before j ++ ((3 wide at c.places j) ∷ (8 wide at c.coefficients j) ∷ items c (suc j) (count - suc j))
  unfolding items
  fields_split j h =
      let q : count ≡ j + suc (count - suc j) = omega arith in
      let z : 0 + j ≡ j = omega arith in
      ap (λ (fs : List BitField). (4 wide 1) ∷ (3 wide c.node) ∷ (4 wide count) ∷ fs)
      (ap (items c 0) q ∙ items_split c 0 j (suc (count - suc j)) ∙ rw z refl)

  pub bytes_length : length s ≡ challenge_length count
  unfolding challenge_bytes
  bytes_length = pack_length (challenge_fields c) ∙ ap bytes_for (before_width count)

  kind_back : field_at s 0 4 ≡ 1
  unfolding challenge_bytes widths
  kind_back = pack_field [] (4 wide 1) ((3 wide c.node) ∷ (4 wide count) ∷ items c 0 count) (omega arith)

  node_back : field_at s 4 3 ≡ c.node
  unfolding challenge_bytes widths
  node_back = pack_field ((4 wide 1) ∷ []) (3 wide c.node) ((4 wide count) ∷ items c 0 count) (omega (arith, R.node_low))

  count_back : field_at s 7 4 ≡ count
  unfolding challenge_bytes widths
  count_back = pack_field ((4 wide 1) ∷ (3 wide c.node) ∷ []) (4 wide count) (items c 0 count) (omega (arith, R.few))

  place_back : (j : ℕ) → j < count → field_at s (challenge_bits j) 3 ≡ at c.places j
  unfolding challenge_bytes
  place_back j h =
      rw (fields_split j h, ← before_width j)
      (pack_field (before j) (3 wide at c.places j) ((8 wide at c.coefficients j) ∷ items c (suc j) (count - suc j)) (omega (arith, R.places_low j h)))

  with_place : (j : ℕ) → widths (before j ++ ((3 wide at c.places j) ∷ [])) ≡ challenge_bits j + 3
  unfolding widths
  with_place j = widths_more (before j) (3 wide at c.places j) ∙ rw (items_width c 0 j) (omega arith)

  coefficient_back : (j : ℕ) → j < count → field_at s (challenge_bits j + 3) 8 ≡ at c.coefficients j
  unfolding challenge_bytes
  coefficient_back j h =
      rw (fields_split j h, ← append_assoc (before j) ((3 wide at c.places j) ∷ []) ((8 wide at c.coefficients j) ∷ items c (suc j) (count - suc j)), ← with_place j)
      (pack_field (before j ++ ((3 wide at c.places j) ∷ [])) (8 wide at c.coefficients j) (items c (suc j) (count - suc j)) (omega (arith, bytes j (omega arith))))

  pub challenge_back : challenge_of s ≡ c
  unfolding challenge_of challenge_in
  challenge_back =
      rw count_back (three node_back
      (ext_get_or 0 _ c.places (length_tab count _) (λ i h. let l : i < count = rw length_tab at h in tab_at count _ i l ∙ place_back i l))
      (ext_get_or 0 _ c.coefficients (length_tab count _ ∙ sym even) (λ i h. let l : i < count = rw length_tab at h in tab_at count _ i l ∙ coefficient_back i l)))
    where
      three : {d : Challenge} → d.node ≡ c.node → d.places ≡ c.places → d.coefficients ≡ c.coefficients → d ≡ c
      three a b e i = record { node = a i; places = b i; coefficients = e i }

  -- the bits past the last item are zero
  spare_back : field_at s (challenge_bits count) (8 * challenge_length count - challenge_bits count) ≡ 0
  unfolding field_at challenge_bytes
  spare_back =
      number_same _ (λ i. false) (8 * challenge_length count - challenge_bits count)
      (λ i h. pack_spare (challenge_fields c) (challenge_bits count + i) (omega (arith, before_width count)))
      ∙ number_zero (8 * challenge_length count - challenge_bits count)

  pub well_formed : out_of_rule c.node c.places ≡ false → malformed_challenge s ≡ false
  unfolding malformed_for any_of
  well_formed r =
      rw (challenge_back, kind_back, r, bytes_length, spare_back, eq-eqb (challenge_length count) (challenge_length count) refl)

-- ---- an accepted Challenge

module _ (c : Challenge) (message : List ℕ) (asked : challenge_answer c message ≡ done) where
  pub asked_even : length c.coefficients ≡ length c.places
  unfolding challenge_answer
  asked_even = same _ _ (accepted _ _ _ asked).0

  pub asked_rule : out_of_rule c.node c.places ≡ false
  unfolding challenge_answer
  asked_rule = (accepted _ _ _ (accepted _ _ _ asked).1).0

  pub asked_bytes : challenge_out c message ≡ challenge_bytes c
  unfolding challenge_out afterwards
  asked_bytes = rw asked
