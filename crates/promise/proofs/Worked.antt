-- The starred worked values. Assumes nothing.
use Prim.Native.Nat.{ℕ, zero, suc, ◌+◌, ◌*◌, ◌<◌, ◌≤◌}
use mathlib.Core.Path.{◌≡◌, refl, sym, ap, ◌∙◌, subst}
use mathlib.Core.Bool.{Bool, true, false}
use mathlib.Core.List.{[], ◌∷◌}
use mathlib.Core.Logic.{inr, ◌≢◌}
use native.Mathlib.Nat.{mod-eq_of_lt}
use native.Mathlib.Omega.{arith}
use lib.Bits.{xor_zero_r}
use lib.Dec.{lit<, lit≤}
use Rattle.lists.specs.Lists.{at, tab, flat, any_of, any_below, how_many}
use Rattle.answer.specs.Refusals.{refuse, outside, afterwards}
use Rattle.field.specs.Field.{plus, sum, modulus, xtime, xtimes, times, last, inverse_of}
use Rattle.field.proofs.TimesLaws.{one_times, zero_times, times_zero}
use Rattle.field.proofs.InverseLaws.{times_cancel}
use Rattle.bits.specs.Fields.{bit_of, bits_of, widths, number, packed, pack, bit_at, field_at}
use Rattle.sizes.specs.declared.Sizes.{Sizes}
use Rattle.sizes.specs.Sizes.{sizes_outside}
use Rattle.vector.specs.Vectors.{product, mixed}
use Rattle.vector.specs.Taken.{Combined}
use Rattle.tag.specs.KeyVector.{with_tags}
use Rattle.mask.specs.Masks.{auxiliary, mask, mask_sum}
use Rattle.message.specs.Response.{response_bytes, data_in}
use Rattle.message.specs.Challenge.{items, challenge_bytes, out_of_rule, challenge_answer, challenge_out}
use Rattle.audit.specs.Verdict.{named_row, appended, fails, accepts}
use Rattle.archive.specs.Layout.{layout_outside, tag_field, layout_of, sizes_of, mark_at, byte_in, bad_for}
use Rattle.archive.specs.Blocks.{source, coded, coded_record}
use Rattle.archive.specs.Prove.{named_byte}
use Rattle.archive.specs.Read.{row_in, Blind, among, Solved, read_before, ReadFor, ReadAllows}
use Rattle.answer.specs.Answer.{done, Ok, Err}
use Rattle.answer.specs.declared.Refusal.TheVariants.{Unreadable}
use Rattle.promise.specs.Worked as W
use Rattle.promise.proofs.Each.{bytes_each}

-- ---- Read: the archive with two places

two_before : read_before W.z W.two (0 ∷ 0 ∷ []) ≡ done
unfolding refuse bad_for layout_outside tag_field layout_of sizes_outside outside any_of any_below sizes_of field_at bit_at number mark_at byte_in
two_before = refl

one_before : read_before W.z W.one (0 ∷ 0 ∷ []) ≡ done
unfolding refuse bad_for layout_outside tag_field layout_of sizes_outside outside any_of any_below sizes_of field_at bit_at number mark_at byte_in
one_before = refl

pub two_sizes : sizes_of W.two ≡ W.z
unfolding sizes_of layout_of field_at bit_at number mark_at byte_in
two_sizes = refl

one_sizes : sizes_of W.one ≡ W.z
unfolding sizes_of layout_of field_at bit_at number mark_at byte_in
one_sizes = refl

-- a product of two elements
two_terms : (u v : ℕ → ℕ) → product 2 u v ≡ plus (times (u 0) (v 0)) (times (u 1) (v 1))
unfolding product sum
two_terms u v = refl

-- rows 01 00 and 02 03 leave no vector but zero
first_zero : (v : ℕ → ℕ) → product 2 (row_in W.z W.two 0) v ≡ 0 → v 0 < 256 → v 0 ≡ 0
unfolding byte_in
first_zero v e h =
    sym (one_times h) ∙ sym (xor_zero_r (times 1 (v 0))) ∙ ap (plus (times 1 (v 0))) (sym (zero_times (v 1))) ∙ sym (two_terms (row_in W.z W.two 0) v) ∙ e

second_zero : (v : ℕ → ℕ) → product 2 (row_in W.z W.two 2) v ≡ 0 → v 0 ≡ 0 → v 1 < 256 → v 1 ≡ 0
unfolding byte_in
second_zero v e z h =
    let q : times 3 (v 1) ≡ times 3 0 =
    ap (λ (x : ℕ). plus x (times 3 (v 1))) (sym (times_zero 2) ∙ ap (times 2) (sym z)) ∙ sym (two_terms (row_in W.z W.two 2) v) ∙ e ∙ sym (times_zero 3) in
    sym (mod-eq_of_lt h) ∙ times_cancel 3 (v 1) 0 (omega arith) (omega arith) q

pub sighted : (named : ℕ → Bool) → named 0 ≡ true → named 2 ≡ true → ¬ Blind W.z named (row_in W.z W.two)
sighted named n0 n2 b = go b.one b.one_there b.one_not
  where
    v0 : b.v 0 ≡ 0
    v0 = first_zero b.v (b.orthogonal 0 (omega arith) n0) (b.bytes 0 (omega arith))

    go : (i : ℕ) → i < 2 → b.v i ≢ 0 → ⊥
    go zero h ne = ne v0
    go (suc zero) h ne = ne (second_zero b.v (b.orthogonal 2 (omega arith) n2) v0 (b.bytes 1 (omega arith)))
    go (suc (suc i)) h ne = omega arith

-- both filled places are taken
no_rows_before : ¬ Combined 2 (row_in W.z W.two) (mark_at W.two) 0
unfolding byte_in mixed sum
no_rows_before c = let e : ◌≡◌ {A = ℕ} 1 0 = c.1 0 (omega arith) in omega arith

no_third : ¬ Combined 2 (row_in W.z W.two) (mark_at W.two) 2
unfolding byte_in mixed sum mark_at bit_at
no_third c =
    let e : ◌≡◌ {A = ℕ} 3 (plus (times (c.0 0) 0) (times (c.0 1) 0)) = c.1 1 (omega arith) in
    let q : ◌≡◌ {A = ℕ} 3 0 = e ∙ rw (times_zero (c.0 0), times_zero (c.0 1)) in
    omega arith

unlike : {x : Bool} → x ≡ true → x ≡ false → ⊥
unlike p q = let e : ◌≡◌ {A = ℕ} 0 1 = cc in omega arith

independent : (k : ℕ) → k < 3 → mark_at W.two k ≡ true → ¬ Combined 2 (row_in W.z W.two) (mark_at W.two) k
unfolding mark_at bit_at
independent zero h t c = no_rows_before c
independent (suc zero) h t c = unlike t refl
independent (suc (suc zero)) h t c = no_third c
independent (suc (suc (suc k))) h t c = omega arith

solves : (k e : ℕ) → k < 3 → mark_at W.two k ≡ true → e < 1
    → product 2 (row_in W.z W.two k) (λ i. at (0x57 ∷ 0x01 ∷ []) (i * 1 + e)) ≡ byte_in W.z W.two k e
unfolding mark_at bit_at byte_in product sum times xtimes xtime modulus
solves zero zero h t l = refl
solves (suc zero) zero h t l = absurd (unlike t refl)
solves (suc (suc zero)) zero h t l = refl
solves (suc (suc (suc k))) zero h t l = absurd (omega arith)
solves k (suc e) h t l = absurd (omega arith)

pub first_marked : mark_at W.two 0 ≡ true
unfolding mark_at bit_at
first_marked = refl

pub third_marked : mark_at W.two 2 ≡ true
unfolding mark_at bit_at
third_marked = refl

first_among : among 2 (mark_at W.two) 0 ≡ true
unfolding mark_at bit_at how_many
first_among = refl

third_among : among 2 (mark_at W.two) 2 ≡ true
unfolding mark_at bit_at how_many
third_among = refl

two_filled : 2 ≤ how_many 3 (mark_at W.two)
unfolding mark_at bit_at how_many
two_filled = lit≤ tt

two_solved : Solved W.z W.two (0x57 ∷ 0x01 ∷ [])
two_solved =
    record {
      taken = mark_at W.two;
      takes = record { candidates = λ k h t. t; independent = independent; every = λ k h t f. absurd (unlike t f) };
      size = refl;
      bytes = bytes_each (0x57 ∷ 0x01 ∷ []) (omega arith, (omega arith, tt));
      solves = solves;
    }

reads_two : ReadAllows W.two (0 ∷ 0 ∷ []) (Ok 2) (0x57 ∷ 0x01 ∷ [])
reads_two =
    subst (λ (z : Sizes). ReadFor z W.two (0 ∷ 0 ∷ []) (Ok 2) (0x57 ∷ 0x01 ∷ [])) (sym two_sizes) (
      two_before,
      sighted (mark_at W.two) first_marked third_marked,
      two_solved,
      record { least = lit≤ tt; most = two_filled; suffice = sighted (among 2 (mark_at W.two)) first_among third_among },
    )

-- ---- one place alone: the vector 00 01 is orthogonal to its row

one_orthogonal : (k : ℕ) → k < 3 → mark_at W.one k ≡ true → product 2 (row_in W.z W.one k) (at (0 ∷ 1 ∷ [])) ≡ 0
unfolding mark_at bit_at byte_in product sum times xtimes xtime modulus
one_orthogonal zero h t = refl
one_orthogonal (suc zero) h t = absurd (unlike t refl)
one_orthogonal (suc (suc zero)) h t = absurd (unlike t refl)
one_orthogonal (suc (suc (suc k))) h t = absurd (omega arith)

reads_one : ReadAllows W.one (0 ∷ 0 ∷ []) (Err Unreadable) (0 ∷ 0 ∷ [])
reads_one =
    subst (λ (z : Sizes). ReadFor z W.one (0 ∷ 0 ∷ []) (Err Unreadable) (0 ∷ 0 ∷ [])) (sym one_sizes) (
      refl,
      inr (
        one_before,
        refl,
        record {
          v = at (0 ∷ 1 ∷ []);
          bytes = bytes_each (0 ∷ 1 ∷ []) (omega arith, (omega arith, tt));
          one = 1;
          one_there = lit< tt;
          one_not = λ (e : ◌≡◌ {A = ℕ} 1 0). omega arith;
          orthogonal = one_orthogonal;
        },
      ),
    )

-- ---- the table

pub worked : W.Worked
unfolding sum times xtimes xtime modulus inverse_of last with_tags product source mixed coded coded_record tab flat auxiliary mask mask_sum response_bytes data_in pack packed bits_of bit_of widths number items challenge_bytes challenge_answer challenge_out out_of_rule refuse outside afterwards any_of any_below named_row appended fails accepts named_byte byte_in
worked =
    record {
      product_83 = refl;
      product_13 = refl;
      inverse_53 = refl;
      inverse_00 = refl;
      b1 = refl;
      b2 = refl;
      combination = refl;
      tags = refl;
      auxiliary_is = refl;
      mask_17 = refl;
      sum_4c = refl;
      response_is = refl;
      left = refl;
      right = refl;
      accepted = refl;
      changed = refl;
      changed_both = refl;
      asked = refl;
      message = refl;
      read_two = reads_two;
      read_one = reads_one;
      eight = refl;
    }
