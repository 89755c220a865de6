-- What decides whether an archive is bad, test by test. Assumes nothing.
use Prim.Native.Nat.{ℕ, ◌<◌}
use mathlib.Core.Path.{◌≡◌, sym, ◌∙◌}
use mathlib.Core.Bool.{Bool, true, false, ◌||◌}
use mathlib.Core.List.{List, [], ◌∷◌}
use native.Mathlib.Omega.{arith}
use lib.Dec.{leb}
use lib.ListN.{length}
use Rattle.lists.specs.Lists.{pick, any_of, any_below}
use Rattle.lists.proofs.AnyLaws.{any_here, any_there, any_last, or_false, any_of_lem, any_append}
use Rattle.answer.specs.Refusals.{differs}
use Rattle.answer.proofs.RefusalLaws.{differs_same, differs_other}
use Rattle.bits.specs.Fields.{field_at}
use Rattle.sizes.specs.declared.Sizes.{Sizes}
use Rattle.sizes.specs.Sizes.{sizes_outside}
use Rattle.sizes.specs.Lengths.{place_count, archive_length}
use Rattle.archive.specs.Layout.{layout_outside, tag_field, layout_of, sizes_of, mark_at, bad_for, bad_archive}

-- mark k is set, and belongs to none of the first `count` places
abbrev pub spare_mark : List ℕ → ℕ → ℕ → Bool
spare_mark s count k = pick (leb count k) (mark_at s k) false

-- fewer than 18 bytes are no archive
pub too_short : (s : List ℕ) → length s < 18 → bad_archive s ≡ true
unfolding bad_for
too_short s h =
    any_there _ _ (any_there _ _ (any_there _ _ (any_there _ _ (any_there _ _ (any_here _ _
    (differs_other (λ (e : length s ≡ archive_length (sizes_of s)). omega arith)))))))

module _ (s : List ℕ) {z : Sizes} {layout field spare said : ℕ} {wrong outside : Bool}
    (sizes : z ≡ sizes_of s) (first : layout ≡ field_at s 0 4) (told : field ≡ field_at s 27 4) (last : spare ≡ field_at s 31 1)
    (layouts : wrong ≡ layout_outside layout z.tags) (ranges : outside ≡ sizes_outside z) (says : said ≡ tag_field layout z.tags) where
  abbrev header : Bool
  header = ((wrong || outside) || differs field said) || differs spare 0

  tests : bad_archive s ≡ any_of (header ∷ any_below 48 (spare_mark s (place_count z)) ∷ differs (length s) (archive_length z) ∷ [])
  unfolding bad_for layout_of
  tests =
      rw (any_of_lem wrong (outside ∷ differs field said ∷ differs spare 0 ∷ []), layouts, ranges, says, sizes, first, told, last) (any_append _ _)

  pub header_bad : header ≡ true → bad_archive s ≡ true
  header_bad e = tests ∙ any_here _ _ e

  pub sizes_good : header ≡ false → sizes_outside z ≡ false
  sizes_good e =
      let three = (or_false ((wrong || outside) || differs field said) (differs spare 0) e).0 in
      sym ranges ∙ (or_false wrong outside (or_false (wrong || outside) (differs field said) three).0).1

  pub length_bad : {len : ℕ} → len ≡ archive_length z → (length s ≡ len → ⊥) → bad_archive s ≡ true
  length_bad e n = tests ∙ any_there _ _ (any_there _ _ (any_here _ _ (differs_other (λ q. n (q ∙ sym e)))))

  pub only_marks : {len : ℕ} {t : Bool} → header ≡ false → len ≡ archive_length z → length s ≡ len
      → t ≡ any_below 48 (spare_mark s (place_count z)) → t ≡ bad_archive s
  unfolding any_of
  only_marks h e same w = w ∙ sym (tests ∙ rw (h, differs_same (same ∙ e)) (any_last _))
