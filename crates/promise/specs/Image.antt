-- The archive that a row table stands for: header, marks of the filled places, and for each of them its row's combination of the
-- source blocks with that combination's tags; zeros for the empty ones.
use Rattle.std.specs.Prelude.{ℕ, List}
use Rattle.lists.specs.Lists.{at}
use Rattle.sizes.specs.declared.Sizes.{Sizes}
use Rattle.tag.specs.KeyVector.{key_vector}
use Rattle.archive.specs.Layout.{archive_of}
use Rattle.archive.specs.Blocks.{coded_record}
use Rattle.promise.specs.Table.{Place, empty, filled, Table, is_filled, numbered}

-- what an archive is made of
pub record Setting : Type 0 where
  pub layout : ℕ
  pub z : Sizes
  pub id : List ℕ
  pub file : List ℕ
  pub padding : List ℕ
  pub tag_key : List ℕ

-- the key vector of each tag
abbrev pub vector : (s : Setting) → ℕ → ℕ → ℕ
vector s = key_vector s.tag_key s.id

abbrev pub place_record : Setting → Place → ℕ → ℕ
place_record s empty e = 0
place_record s (filled row) e = coded_record s.z (vector s) s.file s.padding (at row) e

unfoldable pub image : (s : Setting) (t : Table) → List ℕ
image s t =
    archive_of s.layout s.z s.id (λ k. is_filled (numbered s.z t k)) (λ k. place_record s (numbered s.z t k))
