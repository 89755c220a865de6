use mathlib.Core.Path.{◌≡◌, refl, ap, ◌∙◌}
use mathlib.Core.List.{List}
use Prim.Native.Nat.{ℕ}
use lib.ListN.{length, replicate}
use Rattle.std.proofs.Common.{rules}
use Rattle.field.proofs.LaidLaws.{fits_twice, laid_parts}
use Rattle.field.proofs.tables.laid.Goals as goal

pub slice_bounds-out-end-3 : goal.slice_bounds-out-end-3
slice_bounds-out-end-3 c =
    let n : length c.args.powers ≡ 255 = search rules in
    let first = c.copy_from_slice.ensures.after in
    let again = c.copy_from_slice-2.ensures.after in
    fits_twice _ (replicate 766 0) _ (ap (λ (s : List ℕ). length s) first ∙ n) refl (ap (λ (s : List ℕ). length s) again ∙ n)

pub returns : goal.returns
returns c =
    let n : length c.args.powers ≡ 255 = search rules in
    let m : length c.args.logs ≡ 256 = search rules in
    let first = c.copy_from_slice.ensures.after in
    let again = c.copy_from_slice-2.ensures.after in
    let logs = c.copy_from_slice-3.ensures.after in
    laid_parts _ (replicate 766 0) _ (ap (λ (s : List ℕ). length s) first ∙ n) refl (ap (λ (s : List ℕ). length s) again ∙ n)
    _ _ _ first again logs (ap (λ (s : List ℕ). length s) logs ∙ m)
