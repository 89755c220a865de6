-- What stands beside demand 3: unmasking, that Read leaves free no more than the scheme does, and what Inventory lists.
use Rattle.std.specs.Prelude.{ℕ, ◌-◌, ◌≡◌, List, length}
use Rattle.lists.specs.Lists.{tab}
use Rattle.answer.specs.Answer.{Counted, done, Ok, Err}
use Rattle.message.specs.Unmask.{unmask_answer, unmask_out}
use Rattle.message.specs.Challenge.{challenge_of}
use Rattle.archive.specs.Layout.{sizes_of, id_of, filled_in}
use Rattle.archive.specs.Prove.{prove_answer, prove_out, named_byte}
use Rattle.archive.specs.Read.{ReadAllows}
use Rattle.archive.specs.Inventory.{inventory_answer, inventory_out, Listed, Rising}

-- Unmask gives back the first n - 2 elements of the block in a response, for every archive, auxiliary list, seed and challenge that Prove
-- accepts
abbrev pub Unmasking : Type 0
Unmasking =
    (s mask_key auxiliary seed message lent out : List ℕ) → prove_answer s mask_key auxiliary seed message lent ≡ done
    → length out ≡ (sizes_of s).n - 2
    → (unmask_answer (sizes_of s).n (sizes_of s).tags (id_of s) mask_key (prove_out s mask_key auxiliary seed message lent) out ≡ done)
    × (unmask_out (sizes_of s).n (sizes_of s).tags (id_of s) mask_key (prove_out s mask_key auxiliary seed message lent) out
    ≡ tab ((sizes_of s).n - 2) (named_byte (sizes_of s) s (challenge_of message)))

-- two answers of Read that may differ only in the number of places consulted
abbrev pub SameButCount : Counted → Counted → Type 0
SameButCount (Ok k) (Ok k') = Unit {0}
SameButCount (Ok k) (Err r) = ⊥
SameButCount (Err r) (Ok k) = ⊥
SameButCount (Err r) (Err r') = r ≡ r'

-- Read of one archive has one result, whatever its records hold
abbrev pub ReadIsFixed : Type 0
ReadIsFixed =
    (s out : List ℕ) (a a' : Counted) (file file' : List ℕ) → ReadAllows s out a file → ReadAllows s out a' file'
    → SameButCount a a' × (file ≡ file')

-- Inventory of any archive names each filled place once and nothing else, the codes rising, and zeros follow
abbrev pub InventoryLists : Type 0
InventoryLists =
    (s out : List ℕ) (count : ℕ) → inventory_answer s out ≡ Ok count
    → Listed (sizes_of s) (filled_in (sizes_of s) s) count (inventory_out s out) × Rising count (inventory_out s out)
