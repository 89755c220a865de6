-- What stands beside Losses: it leaves nothing free, and what it lists is what Lose and Read would show.
use Rattle.std.specs.Prelude.{ℕ, ◌≡◌, List, [], ◌∷◌, ◌↔◌, length}
use Rattle.answer.specs.Answer.{Counted, Ok}
use Rattle.answer.specs.Numbers.{answer_number}
use Rattle.sizes.specs.Lengths.{file_length}
use Rattle.archive.specs.Layout.{sizes_of}
use Rattle.archive.specs.Calls.{Call, lose, archive_answers, archive_run, all_done}
use Rattle.archive.specs.Read.{ReadAllows}
use Rattle.archive.specs.Losses.{nodes_in, SetOf, Stands, LossesAllows}

-- one answer, and one list
abbrev pub LossesAreFixed : Type 0
LossesAreFixed =
    (s : List ℕ) (k : ℕ) (lent : List ℕ) (a a' : Counted) (sets sets' : List ℕ)
    → LossesAllows s k lent a sets → LossesAllows s k lent a' sets' → (a ≡ a') × (sets ≡ sets')

-- a call of Lose for each of these nodes
abbrev pub loses : (nodes : List ℕ) → List Call
loses [] = []
loses (node ∷ nodes) = lose node ∷ loses nodes

-- for every archive and every set of its nodes: Lose is done for each node of the set, and Read is then refused with 8 if and only if the set
-- is listed for its size; where it is not listed, Read is done. Any output of the file's length
abbrev pub LossesAreReads : Type 0
LossesAreReads =
    (s lent sets : List ℕ) (k count set : ℕ) → LossesAllows s k lent (Ok count) sets → SetOf (sizes_of s) k set
    → (archive_answers s (loses (nodes_in set)) ≡ all_done (loses (nodes_in set)))
    × ((out : List ℕ) (answer : Counted) (file : List ℕ) → length out ≡ file_length (sizes_of s)
    → ReadAllows (archive_run s (loses (nodes_in set))) out answer file
    → ((answer_number answer ≡ 8) ↔ Stands count sets set) × ((¬ Stands count sets set) → answer_number answer ≡ 0))
