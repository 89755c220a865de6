-- The operation Losses (SCHEME, Operations): the sets of k nodes whose loss would leave the file unreadable. A relation between what is lent,
-- the answer and the list afterwards; nothing is free. Refuses 3, 1, 2.
use Rattle.std.specs.Prelude.{ℕ, ◌/◌, ◌%◌, ◌^◌, ◌<◌, ◌≤◌, ◌≡◌, Bool, true, false, List, [], ◌∷◌, length, eqb, ltb}
use Rattle.lists.specs.Lists.{pick, at, filtered}
use Rattle.answer.specs.Answer.{Outcome, Counted, done, Ok, Err}
use Rattle.answer.specs.declared.Refusal.TheVariants.{Size, Length, BadArchive}
use Rattle.answer.specs.Refusals.{refuse, differs}
use Rattle.sizes.specs.declared.Sizes.{Sizes}
use Rattle.archive.specs.Layout.{sizes_of, mark_at, bad_archive}
use Rattle.archive.specs.Read.{row_in, Blind}

-- ---- sets of nodes

-- a set is a byte: a node is in it where the bit that counts 2 to the node is one
abbrev pub in_set : (set node : ℕ) → Bool
in_set set node = eqb (set / 2 ^ node % 2) 1

-- its nodes, rising
unfoldable pub nodes_in : (set : ℕ) → List ℕ
nodes_in set = filtered 8 (in_set set) (λ node. node)

-- a set of k of the nodes that there are
abbrev pub SetOf : (z : Sizes) (k set : ℕ) → Type 0
SetOf z k set = (set < 2 ^ z.nodes) × (length (nodes_in set) ≡ k)

-- lexicographic order: the first list has the smaller number where the two first differ, or it ends there
unfoldable pub before : (xs ys : List ℕ) → Bool
before xs [] = false
before [] (y ∷ ys) = true
before (x ∷ xs) (y ∷ ys) = pick (eqb x y) (before xs ys) (ltb x y)

-- ---- what is left when the nodes of a set are lost

-- place k, by number, is filled, and its node is not in the set
abbrev pub remains : (z : Sizes) (s : List ℕ) (set k : ℕ) → Bool
remains z s set k = pick (in_set set (k / z.places)) false (mark_at s k)

-- some vector, not all zero, is orthogonal to the rows of all places that remain
abbrev pub Hurts : (z : Sizes) (s : List ℕ) (set : ℕ) → Type 0
Hurts z s set = Blind z (remains z s set) (row_in z s)

-- ---- the list

-- its length, whatever k and the sizes are
abbrev pub list_length : ℕ
list_length = 20

-- a set is one of the first `count`
abbrev pub Stands : (count : ℕ) (sets : List ℕ) (set : ℕ) → Type 0
Stands count sets set = (j : ℕ) × (j < count) × (at sets j ≡ set)

-- the first `count` are just the sets of k nodes that hurt, each before the next; zeros follow
pub record Losses (z : Sizes) (s : List ℕ) (k count : ℕ) (sets : List ℕ) : Type 0 where
  pub size : length sets ≡ list_length
  pub fits : count ≤ list_length
  pub only : (j : ℕ) → j < count → SetOf z k (at sets j) × Hurts z s (at sets j)
  pub every : (set : ℕ) → SetOf z k set → Hurts z s set → Stands count sets set
  pub order : (i j : ℕ) → i < j → j < count → before (nodes_in (at sets i)) (nodes_in (at sets j)) ≡ true
  pub rest : (j : ℕ) → count ≤ j → j < list_length → at sets j ≡ 0

-- ---- refusals and the answer

abbrev pub losses_before : (z : Sizes) (s : List ℕ) (k : ℕ) (sets : List ℕ) → Outcome
losses_before z s k sets =
    refuse (bad_archive s) BadArchive (refuse (ltb z.nodes k) Size (refuse (differs (length sets) list_length) Length done))

-- refused: nothing is written; otherwise the number of sets, and the list
abbrev pub LossesFor : (z : Sizes) (s : List ℕ) (k : ℕ) (sets : List ℕ) → Counted → List ℕ → Type 0
LossesFor z s k sets (Err r) written = (written ≡ sets) × (losses_before z s k sets ≡ Err r)
LossesFor z s k sets (Ok count) written = (losses_before z s k sets ≡ done) × Losses z s k count written

abbrev pub LossesAllows : (s : List ℕ) (k : ℕ) (sets : List ℕ) (answer : Counted) (written : List ℕ) → Type 0
LossesAllows s k sets answer written = LossesFor (sizes_of s) s k sets answer written
