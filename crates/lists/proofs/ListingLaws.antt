-- The turns of a loop that lists, from the front of a list of zeros, f of each index that passes a test. Assumes nothing.
use Prim.Native.Nat.{ℕ, ◌+◌, ◌<◌, ◌≤◌}
use mathlib.Core.Path.{◌≡◌, sym, ap, ◌∙◌}
use mathlib.Core.Bool.{Bool, true, false}
use mathlib.Core.List.{List}
use native.Mathlib.Omega.{arith}
use lib.ListN.{length, set}
use Rattle.lists.specs.Lists.{tab, how_many, filtered, zero_padded}
use Rattle.lists.proofs.CountLaws.{how_many_zero, how_many_more, how_many_same}
use Rattle.lists.proofs.PadLaws.{length_padded, padded_none, padded_more}
use Rattle.lists.proofs.FilterLaws.{length_filtered, filtered_none, filtered_skip, filtered_take, filtered_same}

module _ (n : ℕ) (f : ℕ → ℕ) where
  -- `list` after the first k indices, with `count` entries
  pub record Listing (p : ℕ → Bool) (k count : ℕ) (list : List ℕ) : Type 0 where
    pub number : count ≡ how_many k p
    pub holds : list ≡ zero_padded n (filtered k p f)

  pub listing_size : (p : ℕ → Bool) {k count : ℕ} {list : List ℕ} → count ≤ n → Listing p k count list → length list ≡ n
  listing_size p {k} h w = rw w.holds (length_padded n (filtered k p f) (omega (arith, length_filtered k p f, w.number)))

  pub listing_none : (p : ℕ → Bool) {m : ℕ} {list : List ℕ} → m ≡ n → list ≡ tab m (λ i. 0) → Listing p 0 0 list
  listing_none p e clear =
      record {
        number = sym (how_many_zero p);
        holds = rw (clear, e, filtered_none p f) (sym (padded_none n));
      }

  -- a test that agrees so far
  pub listing_same : (p q : ℕ → Bool) {k count : ℕ} {list : List ℕ} → ((i : ℕ) → i < k → p i ≡ q i) → Listing p k count list → Listing q k count list
  listing_same p q {k} same w =
      record {
        number = w.number ∙ how_many_same k p q same;
        holds = w.holds ∙ ap (zero_padded n) (filtered_same k p q f same);
      }

  pub listing_skip : (p : ℕ → Bool) {k count more : ℕ} {list written : List ℕ} → p k ≡ false → written ≡ list → more ≡ count
      → Listing p k count list → Listing p (k + 1) more written
  listing_skip p {k} none v m w =
      record {
        number = rw (m, how_many_more k p, none) (omega (arith, w.number));
        holds = rw (v, filtered_skip k p f none) w.holds;
      }

  pub listing_take : (p : ℕ → Bool) {k count more x : ℕ} {list written : List ℕ} → p k ≡ true → count < n → x ≡ f k → written ≡ set list count x
      → more ≡ count + 1 → Listing p k count list → Listing p (k + 1) more written
  listing_take p {k} here room is v m w =
      let end : length (filtered k p f) ≡ how_many k p = length_filtered k p f in
      record {
        number = rw (m, how_many_more k p, here) (omega (arith, w.number));
        holds =
            rw (v, w.holds, w.number, is, ← end, filtered_take k p f here)
            (padded_more n (filtered k p f) (f k) (omega (arith, w.number)));
      }
