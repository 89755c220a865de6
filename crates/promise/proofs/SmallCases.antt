-- What a reader would try. Assumes nothing.
use mathlib.Core.Path.{◌≡◌, refl, sym, ap, ◌∙◌}
use mathlib.Core.Bool.{false}
use mathlib.Core.List.{List, [], ◌∷◌}
use mathlib.Core.Logic.{◌≢◌}
use Prim.Native.Nat.{ℕ}
use native.Mathlib.Omega.{arith}
use Rattle.lists.specs.Lists.{at, tab, zero_padded, any_of, any_below, bit, how_many, filtered, Bytes}
use Rattle.answer.specs.declared.Refusal.{Refusal}
use Rattle.answer.specs.declared.Refusal.TheVariants.{Size, Length, BadArchive, NoSuchPlace, PlaceEmpty, PlaceFilled, ZeroKeyVector, Unreadable, Malformed, ProvesNothing, NoPlan}
use Rattle.answer.specs.Answer.{done, Ok}
use Rattle.answer.specs.Numbers.{refusal_number}
use Rattle.answer.specs.Refusals.{refuse, afterwards, outside}
use Rattle.bits.specs.Fields.{bit_of, bits_of, widths, number, packed, pack, bit_at, field_at}
use Rattle.sizes.specs.Sizes.{sizes_outside}
use Rattle.message.specs.Challenge.{Challenge, challenge_of, malformed_challenge, challenge_answer, challenge_out}
use Rattle.message.proofs.ChallengeLaws.{in_rule, asked_even, asked_rule, asked_bytes, challenge_back as read_back, well_formed}
use Rattle.archive.specs.Layout.{layout_outside, tag_field, layout_of, sizes_of, mark_at, bad_for, bad_archive}
use Rattle.archive.specs.Open.{open_answer}
use Rattle.archive.specs.Inventory.{shelf, inventory_answer, inventory_out}
use Rattle.answer.specs.Numbers.{answer_number}
use Rattle.sizes.proofs.SizeLaws.{ranged}
use Rattle.promise.specs.Worked as W
use Rattle.promise.specs.SmallCases.{headed, SmallCases}
use Rattle.promise.proofs.ImageLaws.{image_good, opened_is}
use Rattle.promise.proofs.PlanCases.{planned_two, unplanned_one}
use Rattle.promise.proofs.LossCases.{all_hurt, not_by_byte, nothing_lost, one_lost, two_lost, all_lost, not_kept, no_archive, four_of_three, list_of_19}

not_ten : (r : Refusal) → refusal_number r ≢ 10
not_ten Size e = omega arith
not_ten Length e = omega arith
not_ten BadArchive e = omega arith
not_ten NoSuchPlace e = omega arith
not_ten PlaceEmpty e = omega arith
not_ten PlaceFilled e = omega arith
not_ten ZeroKeyVector e = omega arith
not_ten Unreadable e = omega arith
not_ten Malformed e = omega arith
not_ten ProvesNothing e = omega arith
not_ten NoPlan e = omega arith

both_back : (c : Challenge) (lent : List ℕ) → challenge_answer c lent ≡ done → Bytes c.coefficients
    → (challenge_of (challenge_out c lent) ≡ c) × (malformed_challenge (challenge_out c lent) ≡ false)
both_back c lent asked bytes =
    let R = in_rule c (asked_rule c lent asked) in
    let even = asked_even c lent asked in
    rw (asked_bytes c lent asked) (read_back c R even bytes, well_formed c R even bytes (asked_rule c lent asked))

-- ---- Inventory of the archive with two places

two_listed : (a b c : ℕ)
    → (inventory_answer W.two (a ∷ b ∷ c ∷ []) ≡ Ok 2) × (inventory_out W.two (a ∷ b ∷ c ∷ []) ≡ 0x00 ∷ 0x10 ∷ 0x00 ∷ [])
unfolding inventory_answer inventory_out refuse afterwards bad_for layout_outside tag_field layout_of sizes_outside outside any_of any_below sizes_of field_at bit_at number mark_at how_many shelf zero_padded filtered tab
two_listed a b c = (refl, refl)

lent_wrong : (a b : ℕ)
    → (answer_number (inventory_answer W.two (a ∷ b ∷ [])) ≡ 2) × (inventory_out W.two (a ∷ b ∷ []) ≡ a ∷ b ∷ [])
    × (answer_number (inventory_answer W.two []) ≡ 2)
unfolding inventory_answer inventory_out refuse afterwards bad_for layout_outside tag_field layout_of sizes_outside outside any_of any_below sizes_of field_at bit_at number mark_at
lent_wrong a b = (refl, refl, refl)

falls_not : (a b c : ℕ) → inventory_out W.two (a ∷ b ∷ c ∷ []) ≢ 0x10 ∷ 0x00 ∷ 0x00 ∷ []
falls_not a b c e = let x : ◌≡◌ {A = ℕ} 0 16 = ap (λ (l : List ℕ). at l 0) (sym (two_listed a b c).1 ∙ e) in omega arith

-- ---- bad headers

all_bad : tab 5 (λ i. bit (bad_archive (headed i))) ≡ 1 ∷ 1 ∷ 1 ∷ 1 ∷ 1 ∷ []
unfolding tab bad_for layout_outside tag_field layout_of sizes_outside outside any_of any_below sizes_of field_at bit_at number mark_at
all_bad = refl

pub small_cases : SmallCases
unfolding pack packed bits_of bit_of widths number tab open_answer refuse sizes_outside outside any_of layout_outside tag_field
small_cases =
    record {
      ten_unused = not_ten;
      empty_image = opened_is;
      good_image = λ s t l r i. image_good s (record { laid = l; ranged = ranged s.z r; id_size = i }) t;
      challenge_back = both_back;
      header = refl;
      header_2_1 = refl;
      header_2_10 = refl;
      length_36 = refl;
      length_63 = refl;
      n_2 = λ id archive. refl;
      n_1025 = λ id archive. refl;
      tags_0 = λ id archive. refl;
      tags_11 = λ id archive. refl;
      layout_1_tags_2 = λ id archive. refl;
      layout_3 = λ id archive. refl;
      bad_headers = all_bad;
      marks_a0 = refl;
      listed = two_listed;
      not_falling = falls_not;
      two_lent = λ a b. ((lent_wrong a b).0, (lent_wrong a b).1);
      none_lent = (lent_wrong 0 0).2;
      planned = planned_two;
      out_of_reach = unplanned_one;
      all_hurt = all_hurt;
      not_by_byte = not_by_byte;
      nothing_lost = nothing_lost;
      one_lost = one_lost;
      two_lost = two_lost;
      all_lost = all_lost;
      not_kept = not_kept;
      no_archive = no_archive;
      four_of_three = four_of_three;
      list_of_19 = list_of_19;
    }
