-- What rules hollow programs out. Assumes nothing.
use Prim.Native.Nat.{ℕ, zero, suc, ◌<◌}
use mathlib.Core.Path.{◌≡◌, refl, sym, ap, ◌∙◌}
use mathlib.Core.Bool.{Bool, true, false}
use mathlib.Core.List.{List, [], ◌∷◌}
use mathlib.Core.Logic.{⊎_elim, ◌≢◌}
use native.Mathlib.Omega.{arith}
use lib.ListN.{length}
use Rattle.lists.specs.Lists.{at, tab, flat, over, put, grid, any_of, any_below, how_many, filtered}
use Rattle.lists.proofs.TabLaws.{length_tab}
use Rattle.lists.proofs.PutLaws.{put_above}
use Rattle.answer.specs.Answer.{done, Ok, Err}
use Rattle.answer.specs.declared.Refusal.TheVariants.{Length, BadArchive, PlaceFilled, Unreadable, ZeroKeyVector, Malformed, ProvesNothing}
use Rattle.answer.specs.Refusals.{refuse, afterwards, outside}
use Rattle.field.specs.Field.{sum, modulus, xtime, xtimes, times}
use Rattle.keystream.specs.ChaCha.{half, quarter_of, set_four, quarter, quadruples, quarters_to, rounds, block_words, serialised, word_at, start, block_of}
use Rattle.keystream.specs.Draws.{byte_at}
use Rattle.bits.specs.Fields.{bit_of, bits_of, widths, number, packed, pack, bit_at, field_at}
use Rattle.vector.specs.Vectors.{product, mixed, all_zero}
use Rattle.tag.specs.KeyVector.{F1, key_vector}
use Rattle.mask.specs.Setup.{setup_answer}
use Rattle.mask.specs.Masks.{F2, mask_row, auxiliary, mask, mask_sum}
use Rattle.message.specs.Response.{response_bytes, data_in}
use Rattle.message.specs.Challenge.{items, challenge_bytes, out_of_rule, challenge_in, challenge_of, malformed_for}
use Rattle.audit.specs.declared.Judgement.TheVariants.{Rejected}
use Rattle.audit.specs.Verdict.{named_row, appended, fails, accepts, verdict_for, judgement, verdict_of}
use Rattle.sizes.specs.Lengths.{record_length, place_count, place_number}
use Rattle.sizes.specs.Sizes.{sizes_outside}
use Rattle.archive.specs.Layout.{layout_outside, tag_field, layout_of, sizes_of, mark_at, byte_in, bad_for, with_marks, stored}
use Rattle.archive.specs.Blocks.{source, coded}
use Rattle.archive.specs.Calls.{lose, answer_for, archive_answer, effect_for, archive_after, archive_run}
use Rattle.archive.specs.Prove.{named_byte}
use Rattle.archive.specs.Read.{row_in, Blind, ReadAllows}
use Rattle.archive.specs.Inventory.{inventory_before, inventory_answer, inventory_out}
use Rattle.archive.specs.Gather.{other_archive, gather_answer, gather_after}
use Rattle.archive.specs.Told.{stored_row, rows_answer, rows_out}
use Rattle.answer.proofs.RefusalLaws.{counted_done}
use Rattle.promise.specs.Table.{Place, empty, filled, Table, all_empty, is_filled, numbered, written, table_run}
use Rattle.promise.specs.Image.{place_record}
use Rattle.promise.specs.Demand3.{setting, Admitted}
use Rattle.promise.specs.Fresh.{fresh_calls}
use Rattle.promise.specs.Shares.{keeping}
use Rattle.promise.specs.Life as L
use Rattle.promise.specs.Hollow.{fresh, first_call, altered, three_agree, of_zeros, ended, zero_second, Hollow}
use Rattle.promise.proofs.ImageLaws.{image_mark, image_number}
use Rattle.promise.proofs.DemandLaws.{fits, run_is, demand3}
use Rattle.promise.proofs.FreshLaws.{rebuilt_is_fresh}
use Rattle.promise.proofs.Each.{bytes_each}
use Rattle.promise.proofs.Life.{given, lived}

-- ---- the life in numbers

row_is : tab 2 (row_in (L.z 1) (L.archive 1 1) (place_number (L.z 1) 2 0)) ≡ 0xf3 ∷ 0xfe ∷ []
unfolding tab byte_in
row_is = rw lived.0.archive_is

bytes_are : tab (record_length (L.z 1)) (byte_in (L.z 1) (L.archive 1 1) (place_number (L.z 1) 2 0)) ≡ 0x2a ∷ 0xf3 ∷ 0xd5 ∷ 0xf3 ∷ 0xfe ∷ 0xbd ∷ []
unfolding tab byte_in
bytes_are = rw lived.0.archive_is

first_row : mask_row L.mask_key L.id 0 0 ≡ 111
unfolding mask_row F2 byte_at half quarter_of set_four quarter quadruples quarters_to rounds block_words serialised word_at start block_of tab
first_row = refl

second_row : mask_row L.mask_key L.id 1 0 ≡ 167
unfolding mask_row F2 byte_at half quarter_of set_four quarter quadruples quarters_to rounds block_words serialised word_at start block_of tab
second_row = refl

-- ---- three tags

three_agree_lem : (three_agree (altered 0x01 (at (0x04 ∷ 0x00 ∷ 0x00 ∷ []))) ≡ false)
    × (three_agree (altered 0x01 (at (0x00 ∷ 0x2d ∷ 0x12 ∷ []))) ≡ false) × (three_agree (altered 0x01 (at (0x04 ∷ 0x2d ∷ 0x12 ∷ []))) ≡ true)
unfolding accepts fails any_below appended data_in product sum times xtimes xtime modulus tab
three_agree_lem = (refl, refl, refl)

-- ---- combined rows that are zero

zero_rows : (of_zeros 0x24 (0x02 ∷ 0x03 ∷ 0x02 ∷ 0x03 ∷ []) (0x05 ∷ 0x05 ∷ []) ≡ Err ProvesNothing)
    × (of_zeros 0x24 (0x02 ∷ 0x03 ∷ 0x04 ∷ 0x06 ∷ []) (0x02 ∷ 0x01 ∷ []) ≡ Err ProvesNothing)
    × (of_zeros 0x24 (0x02 ∷ 0x03 ∷ 0x04 ∷ 0x05 ∷ []) (0x00 ∷ 0x00 ∷ []) ≡ Err ProvesNothing)
    × (of_zeros 0x22 (0x02 ∷ 0x03 ∷ 0x02 ∷ 0x03 ∷ []) (0x05 ∷ 0x05 ∷ []) ≡ Err Malformed)
unfolding verdict_of verdict_for judgement refuse outside sizes_outside any_of any_below challenge_bytes items challenge_of challenge_in malformed_for out_of_rule named_row all_zero mixed sum times xtimes xtime modulus tab pack packed bits_of bit_of widths number field_at bit_at
zero_rows = (refl, refl, refl, refl)

other_rows : (of_zeros 0x24 (0x02 ∷ 0x03 ∷ 0x02 ∷ 0x04 ∷ []) (0x05 ∷ 0x05 ∷ []) ≡ Ok Rejected)
    × (of_zeros 0x24 (0x02 ∷ 0x03 ∷ 0x04 ∷ 0x03 ∷ []) (0x05 ∷ 0x05 ∷ []) ≡ Ok Rejected) × (of_zeros 0x24 (0x02 ∷ 0x03 ∷ 0x02 ∷ 0x03 ∷ []) (0x05 ∷ 0x04 ∷ []) ≡ Ok Rejected)
unfolding verdict_of verdict_for judgement refuse outside sizes_outside any_of any_below challenge_bytes items challenge_of challenge_in malformed_for out_of_rule named_row all_zero mixed sum times xtimes xtime modulus tab pack packed bits_of bit_of widths number field_at bit_at accepts fails appended data_in product key_vector F1 byte_at half quarter_of set_four quarter quadruples quarters_to rounds block_words serialised word_at start block_of
other_rows = (refl, refl, refl)

-- ---- a zero key vector

zero_second_lem : (setup_answer zero_second L.mask_key L.id 3 1 (0 ∷ 0 ∷ []) ≡ done)
    × (setup_answer zero_second L.mask_key L.id 3 2 (0 ∷ 0 ∷ 0 ∷ 0 ∷ []) ≡ Err ZeroKeyVector)
unfolding setup_answer all_zero refuse outside any_of any_below tab key_vector F1 byte_at half quarter_of set_four quarter quadruples quarters_to rounds block_words serialised word_at start block_of
zero_second_lem = (refl, refl)

-- ---- its first call

one_call : Admitted given all_empty (first_call ∷ [])
one_call = (λ e. (refl, refl, refl, bytes_each (0x01 ∷ 0x00 ∷ []) (omega arith, (omega arith, tt))), tt)

abbrev after_one : Table
after_one = table_run (L.z 1) all_empty (first_call ∷ [])

first_filled : after_one 0 0 ≡ filled (0x01 ∷ 0x00 ∷ [])
unfolding answer_for refuse any_of afterwards written over
first_filled = refl

other_empty : (k : ℕ) → 0 < k → k < 6 → numbered (L.z 1) after_one k ≡ empty
unfolding numbered answer_for refuse any_of afterwards written over
other_empty zero h l = absurd (omega arith)
other_empty (suc zero) h l = refl
other_empty (suc (suc zero)) h l = refl
other_empty (suc (suc (suc zero))) h l = refl
other_empty (suc (suc (suc (suc zero)))) h l = refl
other_empty (suc (suc (suc (suc (suc zero))))) h l = refl
other_empty (suc (suc (suc (suc (suc (suc k)))))) h l = absurd (omega arith)

one_place_only : (k : ℕ) → 0 < k → k < place_count (L.z 1)
    → (mark_at (archive_after fresh first_call) k ≡ false) × ((e : ℕ) → e < record_length (L.z 1) → byte_in (L.z 1) (archive_after fresh first_call) k e ≡ 0)
one_place_only k h l =
    rw (run_is given (first_call ∷ []) one_call) (
      image_mark (setting given) (fits given) after_one k (omega arith) ∙ ap is_filled (other_empty k h l),
      λ e he. image_number (setting given) (fits given) after_one k e l he ∙ ap (λ (x : Place). place_record (setting given) x e) (other_empty k h l),
    )

first_answer : archive_answer fresh first_call ≡ done
unfolding answer_for refuse any_of
first_answer = let e : archive_answer fresh first_call ∷ [] ≡ done ∷ [] = (demand3 given (first_call ∷ []) one_call).answers in cc

-- ---- its first call, and what that filled lost again

lost_again : Admitted given all_empty (first_call ∷ lose 0 ∷ [])
lost_again = (one_call.0, (λ e. tt, tt))

nothing_left : fresh_calls (setting given) (table_run (L.z 1) all_empty (first_call ∷ lose 0 ∷ [])) ≡ []
unfolding answer_for refuse any_of afterwards written over
nothing_left = refl

new_again : archive_run fresh (first_call ∷ lose 0 ∷ []) ≡ fresh
new_again = (rebuilt_is_fresh given (first_call ∷ lose 0 ∷ []) lost_again (L.lent 1) (length_tab _ _)).same ∙ ap (archive_run fresh) nothing_left

new_byte : at fresh 18 ≡ 0
unfolding byte_in numbered
new_byte =
    ap (λ (s : List ℕ). at s 18) (run_is given [] tt)
    ∙ image_number (setting given) (fits given) all_empty 0 0 (omega arith) (omega arith)

first_byte : at (archive_after fresh first_call) 18 ≡ 0x57
unfolding byte_in coded mixed source sum times xtimes xtime modulus
first_byte =
    ((demand3 given (first_call ∷ []) one_call).places 0 0 (0x01 ∷ 0x00 ∷ []) (omega arith) (omega arith) first_filled).block 0 (omega arith)

marks_cleared : with_marks (λ k. false) (archive_after fresh first_call) ≢ fresh
unfolding with_marks
marks_cleared e =
    let x : ◌≡◌ {A = ℕ} 0x57 0 = sym first_byte ∙ sym (put_above 6 12 _ _ 18 (omega arith)) ∙ ap (λ (s : List ℕ). at s 18) e ∙ new_byte in omega arith

-- ---- Read and Inventory

not_unreadable : (a b : Bool) → refuse a BadArchive (refuse b Length done) ≡ Err Unreadable → ⊥
unfolding refuse
not_unreadable true b e = let x : ◌≡◌ {A = ℕ} 0 1 = cc in omega arith
not_unreadable false true e = let x : ◌≡◌ {A = ℕ} 0 1 = cc in omega arith
not_unreadable false false e = let x : ◌≡◌ {A = ℕ} 0 1 = cc in omega arith

seen_blind : (s out written : List ℕ) → ReadAllows s out (Err Unreadable) written → Blind (sizes_of s) (mark_at s) (row_in (sizes_of s) s)
seen_blind s out written w = ⊎_elim (λ e. absurd (not_unreadable _ _ e)) (λ x. x.2) w.1

counted_right : (s out : List ℕ) (count : ℕ) → inventory_answer s out ≡ Ok count → count ≡ how_many (place_count (sizes_of s)) (mark_at s)
unfolding inventory_answer
counted_right s out count e = sym (counted_done (inventory_before (sizes_of s) s out) e).1

-- a list that differs from the life's at some index
other_list : (i : ℕ) (list out : List ℕ) → length out ≡ 6 → at (0x08 ∷ 0x09 ∷ 0x10 ∷ 0x11 ∷ 0x00 ∷ 0x00 ∷ []) i ≢ at list i → inventory_out (L.archive 1 1) out ≢ list
other_list i list out h differs e = differs (ap (λ (l : List ℕ). at l i) (sym (lived.0.inventory_is out h).1 ∙ e))

-- ---- shares

gathered : (gather_answer (keeping ended []) (put 1 11 (λ i. 0x09) ended) 1 ≡ Err BadArchive) × (gather_answer ended ended 2 ≡ Err PlaceFilled)
    × (gather_after (keeping ended []) (put 1 18 (λ i. 0x01) ended) 0 ≡ put 1 18 (λ i. 0x01) (keeping ended []))
unfolding gather_answer gather_after other_archive filtered archive_after archive_answer effect_for answer_for refuse afterwards any_of any_below outside sizes_outside bad_for layout_outside tag_field layout_of sizes_of field_at bit_at number mark_at byte_in with_marks stored put grid packed over tab
gathered = (refl, refl, refl)

no_row : (out : List ℕ) → length out ≡ 4 → rows_out (put 2 21 (λ i. 0x01) ended) 0 out ≡ 0x00 ∷ 0x00 ∷ 0x00 ∷ 0x00 ∷ []
unfolding rows_out rows_answer stored_row flat tab put refuse afterwards any_of any_below outside sizes_outside bad_for layout_outside tag_field layout_of sizes_of field_at bit_at number mark_at
no_row out e = rw e

pub hollow : Hollow
unfolding product sum times xtimes xtime modulus appended data_in named_row mixed coded source mask mask_sum auxiliary flat response_bytes pack packed bits_of bit_of widths number tab any_below fails accepts named_byte byte_in
hollow =
    record {
      without_mask_sum = refl;
      replayed = refl;
      repaired_row = row_is;
      rows_differ = λ e. let x : ◌≡◌ {A = ℕ} 111 167 = sym first_row ∙ e ∙ second_row in omega arith;
      one_accepted = refl;
      one_rejected = refl;
      tag_0_adds_up = three_agree_lem.0;
      tags_1_and_2_add_up = three_agree_lem.1;
      all_add_up = three_agree_lem.2;
      rows_cancel = zero_rows.0;
      multiples_cancel = zero_rows.1;
      no_coefficient = zero_rows.2;
      first_cancels = other_rows.0;
      last_cancels = other_rows.1;
      none_cancels = other_rows.2;
      nine_first = zero_rows.3;
      vector_0_taken = zero_second_lem.0;
      vector_1_found = zero_second_lem.1;
      accepted = first_answer;
      repaired_bytes = bytes_are;
      one_place = one_place_only;
      emptied = new_again;
      unmarked = marks_cleared;
      other_id = gathered.0;
      no_overwriting = gathered.1;
      empty_too = gathered.2;
      unmarked_row = no_row;
      seen = seen_blind;
      counted = counted_right;
      shelved = λ out h. (
        other_list 1 _ out h (λ e. omega arith),
        other_list 0 _ out h (λ e. omega arith),
        other_list 0 _ out h (λ e. omega arith),
      );
      consulted = λ s out file count w. w.3;
    }
