-- A call of Encode, Lose or Repair: its answer, the archive after it, and lists of calls (SCHEME, Operations, Row table).
use Rattle.std.specs.Prelude.{ℕ, Bool, List, [], ◌∷◌, length}
use Rattle.answer.specs.Answer.{Outcome, done}
use Rattle.answer.specs.declared.Refusal.TheVariants.{BadArchive}
use Rattle.answer.specs.Refusals.{refuse, afterwards}
use Rattle.sizes.specs.declared.Sizes.{Sizes}
use Rattle.archive.specs.Layout.{sizes_of, id_of, filled_in, bad_archive}
use Rattle.archive.specs.Encode.{encode_for, encoded}
use Rattle.archive.specs.Lose.{lose_for, lost}
use Rattle.archive.specs.Repair.{repair_for, repaired, scratch_made}

pub data Call : Type 0 where
  -- node, place, file, padding, tag key, row
  encode : ℕ → ℕ → List ℕ → List ℕ → List ℕ → List ℕ → Call
  -- node
  lose : ℕ → Call
  -- target, helpers, Q, gammas, thetas, the length of the scratch buffer
  repair : ℕ → List ℕ → ℕ → List ℕ → List ℕ → ℕ → Call

-- ---- refusals, after 3 (bad archive), for an archive of these sizes with these places filled

unfoldable pub answer_for : (z : Sizes) (filled : ℕ → ℕ → Bool) (call : Call) → Outcome
answer_for z filled (encode node place file padding tag_key row) = encode_for z filled node place file padding tag_key row
answer_for z filled (lose node) = lose_for z node
answer_for z filled (repair target helpers q gammas thetas scratch) = repair_for z filled target helpers q gammas thetas scratch

unfoldable pub archive_answer : (s : List ℕ) (c : Call) → Outcome
archive_answer s c = refuse (bad_archive s) BadArchive (answer_for (sizes_of s) (filled_in (sizes_of s) s) c)

-- ---- what an accepted call makes of the archive

unfoldable pub effect_for : (z : Sizes) (id archive : List ℕ) (call : Call) → List ℕ
effect_for z id archive (encode node place file padding tag_key row) = encoded z id archive node place file padding tag_key row
effect_for z id archive (lose node) = lost z archive node
effect_for z id archive (repair target helpers q gammas thetas scratch) = repaired z archive target helpers q gammas thetas

unfoldable pub archive_after : (s : List ℕ) (c : Call) → List ℕ
archive_after s c = afterwards (archive_answer s c) s (effect_for (sizes_of s) (id_of s) s c)

unfoldable pub scratch_after : (s : List ℕ) (target : ℕ) (helpers : List ℕ) (q : ℕ) (gammas thetas scratch : List ℕ) → List ℕ
scratch_after s target helpers q gammas thetas scratch =
    afterwards (archive_answer s (repair target helpers q gammas thetas (length scratch))) scratch
    (scratch_made (sizes_of s) s helpers q gammas)

-- ---- a list of calls: each is handed what the one before it left

abbrev pub archive_answers : List ℕ → List Call → List Outcome
archive_answers s [] = []
archive_answers s (c ∷ cs) = archive_answer s c ∷ archive_answers (archive_after s c) cs

abbrev pub archive_run : List ℕ → List Call → List ℕ
archive_run s [] = s
archive_run s (c ∷ cs) = archive_run (archive_after s c) cs

-- an answer for each call: that it is done
abbrev pub all_done : List Call → List Outcome
all_done [] = []
all_done (c ∷ cs) = done ∷ all_done cs
