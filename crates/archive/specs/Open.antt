-- The operation Open (SCHEME, Operations).
use Rattle.std.specs.Prelude.{ℕ, false, List, [], ◌∷◌, length}
use Rattle.lists.specs.Lists.{any_of}
use Rattle.answer.specs.Answer.{Outcome, done}
use Rattle.answer.specs.declared.Refusal.TheVariants.{Size, Length}
use Rattle.answer.specs.Refusals.{refuse, afterwards, differs}
use Rattle.sizes.specs.declared.Sizes.{Sizes}
use Rattle.sizes.specs.Sizes.{sizes_outside}
use Rattle.sizes.specs.Lengths.{archive_length, id_length}
use Rattle.archive.specs.Layout.{archive_of, layout_outside}

-- no marks, and records of zeros; refuses 1, 2

unfoldable pub opened : (layout : ℕ) (z : Sizes) (id : List ℕ) → List ℕ
opened layout z id = archive_of layout z id (λ k. false) (λ k p. 0)

unfoldable pub open_answer : (layout : ℕ) (z : Sizes) (id archive : List ℕ) → Outcome
open_answer layout z id archive =
    refuse (any_of (layout_outside layout z.tags ∷ sizes_outside z ∷ [])) Size
    (refuse (any_of (differs (length id) id_length ∷ differs (length archive) (archive_length z) ∷ [])) Length
    done)

unfoldable pub open_out : (layout : ℕ) (z : Sizes) (id archive : List ℕ) → List ℕ
open_out layout z id archive = afterwards (open_answer layout z id archive) archive (opened layout z id)
