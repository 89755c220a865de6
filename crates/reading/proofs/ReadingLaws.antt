-- What the places taken tell: whether the file can be read, and how many places suffice. Assumes nothing.
use Prim.Native.Nat.{ℕ, ◌<◌}
use mathlib.Core.Path.{◌≡◌, refl, subst, ◌∙◌}
use mathlib.Core.Bool.{Bool, true}
use mathlib.Core.List.{List}
use native.Mathlib.Omega.{arith}
use borrow.Author.Tests.{lt-ltb}
use Rattle.lists.specs.Lists.{at, how_many}
use Rattle.lists.proofs.CountLaws.{how_many_mono, how_many_less, how_many_within}
use Rattle.sizes.specs.declared.Sizes.{Sizes}
use Rattle.sizes.specs.Lengths.{place_count}
use Rattle.linear.specs.PrivateElimination.{Matrix, Reduces}
use Rattle.linear.proofs.AlikeLaws.{reduces_same}
use Rattle.choice.specs.declared.rows.Rows.{Rows}
use Rattle.choice.specs.declared.Chosen.{Chosen}
use Rattle.choice.specs.PrivateChoice.{row_at, listed_rows, WholeChoice}
use Rattle.choice.proofs.WholeLaws.{whole_alike, taken, taken_low, candidates_zero, count_ranked, count_full, determined}
use Rattle.archive.specs.Read.{row_in, Blind, among, Enough}
use Rattle.reading.specs.PrivateRows.{RowsIn}
use Rattle.reading.proofs.PlaceRowLaws.{row_in_lem}

-- the choice among the rows of some places of an archive
abbrev pub ChosenIn : (z : Sizes) (s : List ℕ) (filled : ℕ → Bool) (c : Chosen) → Type 0
ChosenIn z s filled c = WholeChoice (place_count z) z.m (row_in z s) filled c

pub chosen_alike : (z : Sizes) (s : List ℕ) (f g : ℕ → Bool) (c : Chosen) → ((k : ℕ) → k < place_count z → f k ≡ g k) → ChosenIn z s f c → ChosenIn z s g c
chosen_alike z s f g c = whole_alike (place_count z) z.m (row_in z s) (row_in z s) f g c (λ k i h l. refl)

-- the rows by where they stand are those of the places
module _ (z : Sizes) (s : List ℕ) (rows : Rows) (c : Chosen) (is : RowsIn z s rows) where
  pub chosen_in : (filled : ℕ → Bool) → WholeChoice rows.count rows.m (row_at rows) filled c → ChosenIn z s filled c
  chosen_in filled w =
      whole_alike (place_count z) z.m (row_at rows) (row_in z s) filled filled c (λ k i h l. row_in_lem z s is k i) (λ k h. refl)
      (subst (λ (m : ℕ). WholeChoice (place_count z) m (row_at rows) filled c) is.m
      (subst (λ (count : ℕ). WholeChoice count rows.m (row_at rows) filled c) is.count w))

  pub reduced_in : {a t : Matrix} {rank : ℕ} → ((j i : ℕ) → j < c.count → i < rows.m → a j i ≡ row_at rows (at c.numbers j) i)
      → Reduces c.count z.m a t rank → Reduces c.count z.m (listed_rows (row_in z s) c) t rank
  reduced_in {a} {t} {rank} same =
      reduces_same c.count z.m a (listed_rows (row_in z s) c)
      (λ j i h l. same j i h (omega (arith, l, is.m)) ∙ row_in_lem z s is (at c.numbers j) i)
      t rank

module _ (z : Sizes) (s : List ℕ) (filled : ℕ → Bool) (c : Chosen) (chosen : ChosenIn z s filled c) (t : Matrix) (rank : ℕ)
    (reduced : Reduces c.count z.m (listed_rows (row_in z s) c) t rank) where
  pub unreadable : rank < z.m → Blind z filled (row_in z s)
  unreadable h =
      let o = reduced.blind h in
      record {
        v = o.x;
        bytes = o.bytes;
        one = o.one;
        one_there = o.one_there;
        one_not = o.one_not;
        orthogonal = candidates_zero _ _ _ _ c chosen (omega (arith, h, count_ranked _ _ _ _ c chosen t rank reduced)) o.x o.zero_products;
      }

  module _ (full : rank ≡ z.m) where
    abbrev is_taken : ℕ → Bool
    is_taken = taken _ _ _ _ c chosen

    low : (j : ℕ) → is_taken j ≡ true → j < chosen.end
    low = taken_low _ _ _ _ c chosen

    taken_filled : (j : ℕ) → is_taken j ≡ true → filled j ≡ true
    taken_filled j e = chosen.choice.takes.candidates j (low j e) e

    -- the places taken suffice
    not_blind : (named : ℕ → Bool) → ((j : ℕ) → is_taken j ≡ true → named j ≡ true) → ¬ Blind z named (row_in z s)
    not_blind named all b =
        b.one_not
        (determined _ _ _ _ c chosen t rank reduced full b.v b.bytes
        (λ j e. b.orthogonal j (omega (arith, low j e, chosen.there)) (all j e)) b.one b.one_there)

    pub readable : ¬ Blind z filled (row_in z s)
    readable = not_blind filled taken_filled

    -- a taken place is one of those consulted
    taken_among : (j : ℕ) → is_taken j ≡ true → among c.consulted filled j ≡ true
    taken_among j e =
        let before : how_many j filled < c.consulted =
        rw chosen.choice.consulted (how_many_less j chosen.end filled (low j e) (taken_filled j e)) in
        rw (taken_filled j e) (lt-ltb _ _ before)

    pub enough : Enough z filled (row_in z s) c.consulted
    enough =
        record {
          least =
              omega (
                arith,
                count_full _ _ _ _ c chosen t rank reduced full,
                chosen.choice.number,
                chosen.choice.consulted,
                how_many_within chosen.end is_taken filled (λ j l. taken_filled j),
              );
          most = rw chosen.choice.consulted (how_many_mono chosen.end (place_count z) filled chosen.there);
          suffice = not_blind (among c.consulted filled) taken_among;
        }
