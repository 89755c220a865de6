-- The choice among the first rows: none yet, and one row more, which is not taken or taken. Assumes nothing.
use Prim.Native.Nat.{ℕ, ◌+◌, ◌*◌, ◌<◌, ◌≤◌}
use mathlib.Core.Path.{◌≡◌, refl, sym, ap, subst, ◌∙◌}
use mathlib.Core.Logic.{inr, ⊎_elim}
use mathlib.Core.Bool.{Bool, true, false, true≢false}
use mathlib.Core.List.{List}
use native.Mathlib.Omega.{arith}
use borrow.Author.Count.{below_more}
use lib.ListN.{length, get_or-eq_default}
use Rattle.lists.specs.Lists.{at, over, how_many, pick}
use Rattle.lists.proofs.TabLaws.{order}
use Rattle.lists.proofs.OverLaws.{over_below, over_within, over_above}
use Rattle.lists.proofs.CountLaws.{how_many_same, how_many_more, how_many_zero, how_many_less}
use Rattle.field.specs.Field.{plus}
use Rattle.vector.specs.Taken.{Spanned, only, Combined}
use Rattle.vector.proofs.SpanLaws.{spanned_same, spanned_zero}
use Rattle.vector.proofs.TakenLaws.{only_byte, combined_same}
use Rattle.linear.specs.PrivateElimination.{Matrix, cells, Independent}
use Rattle.linear.proofs.AlikeLaws.{independent_same}
use Rattle.linear.proofs.LastRowLaws.{independent_more}
use Rattle.choice.specs.declared.Chosen.{Chosen}
use Rattle.choice.specs.declared.rows.Rows.{Rows}
use Rattle.choice.specs.PrivateReduced.{Cleared, Pivot, Extended}
use Rattle.choice.specs.PrivateChoice.{row_at, listed_rows, Choice, Progress}
use Rattle.choice.proofs.GatherLaws.{spanned_listed}
use Rattle.choice.proofs.ReducedLaws.{spanned_if_zero, apart_if_not, basis_kept, basis_more}

-- an element of a row is a byte
pub row_byte : (rows : Rows) (j i : ℕ) → row_at rows j i < 256
row_byte rows j i =
    let u = rows.bytes.now in
    let k = rows.start + j * rows.stride + i in
    ⊎_elim (λ (h : k < length u). rows.all_bytes k h) (λ (h : length u ≤ k). let z : at u k ≡ 0 = get_or-eq_default u 0 h in omega (arith, z)) (order k (length u))

module _ (m : ℕ) (row : Matrix) (candidate : ℕ → Bool) where
  -- ---- no row yet

  pub choice_none : (reduced : List (List ℕ)) (c : Chosen) → c.count ≡ 0 → c.consulted ≡ 0 → ((p i : ℕ) → p < m → i < m → cells reduced p i ≡ 0)
      → Progress m row candidate 0 reduced c
  choice_none reduced c e f zeros =
      record {
        choice =
            record {
              taken = λ j. false;
              takes = record { candidates = λ k h. absurd (omega arith); independent = λ k h. absurd (omega arith); every = λ k h. absurd (omega arith) };
              later = λ j h. refl;
              number = e ∙ sym (how_many_zero (λ j. false));
              listed = λ j h. absurd (omega arith);
              below = λ t h. absurd (omega arith);
              fits = omega arith;
              independent = λ y bytes h j l. absurd (omega arith);
              consulted = f ∙ sym (how_many_zero candidate);
            };
        basis =
            record {
              echelon = record { bytes = λ p i h l. subst (λ (x : ℕ). x < 256) (sym (zeros p i h l)) (omega arith); before = λ p i h l. zeros p i h (omega arith); lead = λ p h. inr (λ i l. zeros p i h l) };
              made = λ p h. spanned_zero 0 m _ (λ i l. zeros p i h l);
              spans = λ j h. absurd (omega arith);
            };
      }

  module _ {k : ℕ} {e : List (List ℕ)} {c : Chosen} (P : Progress m row candidate k e c) (low : (j i : ℕ) → row j i < 256) where
    abbrev w : Choice m row candidate k c
    w = P.choice

    -- ---- row k is not taken

    module _ (d : Chosen) (count : d.count ≡ c.count) (numbers : d.numbers ≡ c.numbers) (consulted : d.consulted ≡ how_many (k + 1) candidate)
        (combined : candidate k ≡ true → Combined m row w.taken k) where
      earlier : (j : ℕ) → j < k + 1 → w.taken j ≡ true → j < k
      earlier = below_more (λ j. w.taken j ≡ true → j < k) k (λ j h e. h) (λ e. absurd (true≢false (sym e ∙ w.later k (omega arith))))

      passed : Progress m row candidate (k + 1) e d
      passed =
          record {
            choice =
                record {
                  taken = w.taken;
                  takes =
                      record {
                        candidates = λ j h e. w.takes.candidates j (earlier j h e) e;
                        independent = λ j h e. w.takes.independent j (earlier j h e) e;
                        every = below_more _ k w.takes.every (λ e n. combined e);
                      };
                  later = λ j h. w.later j (omega arith);
                  number = count ∙ w.number ∙ sym (how_many_more k w.taken ∙ rw (w.later k (omega arith)) (omega arith));
                  listed = λ j h e. rw numbers (w.listed j (earlier j h e) e);
                  below = λ t h. rw numbers (omega (arith, w.below t (omega arith)));
                  fits = omega (arith, w.fits);
                  independent = rw (count, numbers) w.independent;
                  consulted = consulted;
                };
            basis =
                basis_kept k m (only w.taken row) (cells e) P.basis (only_byte row low w.taken)
                (λ i l. ap (λ (t : Bool). pick t (row k i) 0) (w.later k (omega arith)));
          }

    -- it is no candidate
    pub choice_skip : candidate k ≡ false → Progress m row candidate (k + 1) e c
    choice_skip none =
        passed c refl refl (w.consulted ∙ sym (how_many_more k candidate ∙ rw none (omega arith))) (λ e. absurd (true≢false (sym e ∙ none)))

    -- it is one, and was cleared to `out`
    module _ (is : candidate k ≡ true) (v out : ℕ → ℕ) (same : (i : ℕ) → i < m → v i ≡ row k i) (C : Cleared m m (cells e) v out) (d : Chosen)
        (consulted : d.consulted ≡ c.consulted + 1) where
      counted : d.consulted ≡ how_many (k + 1) candidate
      counted = consulted ∙ rw (w.consulted, how_many_more k candidate, is)

      -- to zero
      pub choice_drop : d.count ≡ c.count → d.numbers ≡ c.numbers → ((i : ℕ) → i < m → out i ≡ 0) → Progress m row candidate (k + 1) e d
      choice_drop count numbers zeros =
          passed d count numbers counted (λ e.
          spanned_same k m (only w.taken row) (λ i l. sym (same i l)) (spanned_if_zero k m _ _ P.basis v out C zeros))

      -- ---- row k is taken: d lists the rows of c, and k behind them

      module _ (count : d.count ≡ c.count + 1) (room : c.count < m) (before : (t : ℕ) → t < c.count → at d.numbers t ≡ at c.numbers t)
          (here : at d.numbers c.count ≡ k) (p : ℕ) (at_p : Pivot m out p) (there : p < m) (width : m ≤ 16) (e' : List (List ℕ))
          (X : Extended p (cells e) out (cells e')) where
        abbrev now_taken : ℕ → Bool
        now_taken = over k 1 (λ i. true) w.taken

        new : now_taken k ≡ true
        new = over_within k 1 (λ i. true) w.taken k (omega arith) (omega arith)

        old : (j : ℕ) → j < k → now_taken j ≡ w.taken j
        old = over_below k 1 (λ i. true) w.taken

        old_count : (j : ℕ) → j ≤ k → how_many j now_taken ≡ how_many j w.taken
        old_count j h = how_many_same j now_taken w.taken (λ i l. old i (omega arith))

        -- a combination before k is the same
        as_before : (j : ℕ) → j ≤ k → Combined m row now_taken j → Combined m row w.taken j
        as_before j h = combined_same m row now_taken w.taken j (λ i l. old i (omega arith))

        apart : ¬ Combined m row w.taken k
        apart s =
            apart_if_not k m _ _ P.basis v out C p there (at_p.here there) (spanned_same k m (only w.taken row) same s)

        still_listed : (j : ℕ) → j < k → w.taken j ≡ true → at d.numbers (how_many j w.taken) ≡ j
        still_listed j h e = before (how_many j w.taken) (omega (arith, how_many_less j k w.taken h e, w.number)) ∙ w.listed j h e

        -- the rows listed are independent still, with k behind them
        more : Independent (c.count + 1) m (listed_rows row d)
        more =
            independent_more c.count m (listed_rows row d) (λ t i. low (at d.numbers t) i)
            (independent_same c.count m (listed_rows row c) (listed_rows row d) (λ t i h l. ap (λ (j : ℕ). row j i) (sym (before t h))) w.independent)
            (λ s. apart (spanned_listed w.taken (at d.numbers) row m k still_listed
            (subst (λ (n : ℕ). Spanned n m (listed_rows row d) (row k)) w.number
            (spanned_same c.count m (listed_rows row d) (λ i l. ap (λ (j : ℕ). row j i) (sym here)) s))))

        pub choice_take : Progress m row candidate (k + 1) e' d
        choice_take =
            record {
              choice =
                  record {
                    taken = now_taken;
                    takes =
                        record {
                          candidates = below_more _ k (λ j h e. w.takes.candidates j h (sym (old j h) ∙ e)) (λ e. is);
                          independent =
                              below_more _ k (λ j h e q. w.takes.independent j h (sym (old j h) ∙ e) (as_before j (omega arith) q))
                              (λ e q. apart (as_before k (omega arith) q));
                          every = below_more _ k
                              (λ j h f e. combined_same m row w.taken now_taken j (λ i l. sym (old i (omega arith))) (w.takes.every j h f (sym (old j h) ∙ e)))
                              (λ f e. absurd (true≢false (sym new ∙ e)));
                        };
                    later = λ j h. over_above k 1 (λ i. true) w.taken j h ∙ w.later j (omega arith);
                    number = count ∙ rw (how_many_more k now_taken, new, old_count k (omega arith), ← w.number);
                    listed = below_more _ k (λ j h e. rw (old_count j (omega arith)) (still_listed j h (sym (old j h) ∙ e)))
                        (λ e. rw (old_count k (omega arith), ← w.number) here);
                    below = λ t h.
                        below_more (λ t. at d.numbers t < k + 1) c.count (λ t h. omega (arith, before t h, w.below t h)) (omega (arith, here)) t (omega arith);
                    fits = omega arith;
                    independent = rw count more;
                    consulted = counted;
                  };
              basis =
                  basis_more k m (only w.taken row) (only now_taken row) (cells e) (cells e') out p P.basis cleared' X width there at_p.zeros
                  (at_p.here there) (only_byte row low now_taken) (λ j i h l. ap (λ (t : Bool). pick t (row j i) 0) (sym (old j h)));
            }
          where
            cleared' : Cleared m m (cells e) (only now_taken row k) out
            cleared' =
                record {
                  bytes = C.bytes;
                  added =
                      spanned_same m m (cells e)
                      (λ i l. ap (λ (x : ℕ). plus x (out i)) (ap (λ (t : Bool). pick t (row k i) 0) new ∙ sym (same i l))) C.added;
                  clear = C.clear;
                }
