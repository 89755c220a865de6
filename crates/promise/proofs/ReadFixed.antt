-- Read's answer, but for the number of places consulted, and its file are fixed. Assumes nothing.
use Prim.Native.Nat.{ℕ, ◌≤◌}
use mathlib.Core.Path.{◌≡◌, sym, ◌∙◌}
use mathlib.Core.Logic.{⊎_elim}
use mathlib.Core.List.{List}
use Rattle.answer.specs.declared.Refusal.{Refusal}
use Rattle.answer.specs.Answer.{done, Ok, Err}
use Rattle.answer.proofs.RefusalLaws.{accepted, never_both, same_refusal}
use Rattle.vector.proofs.TakenLaws.{taken_same}
use Rattle.archive.specs.Layout.{sizes_of}
use Rattle.archive.specs.Read.{read_before, ReadAllows}
use Rattle.archive.proofs.GoodArchiveLaws.{good_sizes}
use Rattle.archive.proofs.ReadLaws.{solution_only}
use Rattle.promise.specs.Companions.{ReadIsFixed}

n_low : (s out : List ℕ) → read_before (sizes_of s) s out ≡ done → 3 ≤ (sizes_of s).n
n_low s out e = (good_sizes s (accepted _ _ _ e).0).n_low

module _ (s out file file' : List ℕ) where
  -- Unreadable is answered just where every other test passed and some vector is orthogonal to the filled rows
  refusals_same : {r r' : Refusal} → ReadAllows s out (Err r) file → ReadAllows s out (Err r') file' → r ≡ r'
  refusals_same w w' =
      ⊎_elim
      (λ a. ⊎_elim (λ b. same_refusal a b) (λ b. absurd (never_both b.0 a)) w'.1)
      (λ a. ⊎_elim (λ b. absurd (never_both a.0 b)) (λ b. a.1 ∙ sym b.1) w'.1)
      w.1

  not_both : {k : ℕ} {r : Refusal} → ReadAllows s out (Ok k) file → ReadAllows s out (Err r) file' → ⊥
  not_both w w' = ⊎_elim (λ a. never_both w.0 a) (λ a. w.1 a.2) w'.1

  files_same : {k k' : ℕ} → ReadAllows s out (Ok k) file → ReadAllows s out (Ok k') file' → file ≡ file'
  files_same w w' =
      solution_only (sizes_of s) s file file' w.2 (n_low s out w.0) w'.2.size w'.2.bytes
      (λ i e h t. w'.2.solves i e h (sym (taken_same _ _ _ _ _ _ w.2.takes w'.2.takes i h) ∙ t))
      w.1

pub read_is_fixed : ReadIsFixed
read_is_fixed s out (Ok k) (Ok k') file file' w w' = (tt, files_same s out file file' w w')
read_is_fixed s out (Ok k) (Err r) file file' w w' = absurd (not_both s out file file' w w')
read_is_fixed s out (Err r) (Ok k) file file' w w' = absurd (not_both s out file' file w' w)
read_is_fixed s out (Err r) (Err r') file file' w w' = (refusals_same s out file file' w w', w.0 ∙ sym w'.0)
