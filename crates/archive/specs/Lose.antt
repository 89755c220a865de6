-- The operation Lose (SCHEME, Operations), on an archive that is not bad.
use Rattle.std.specs.Prelude.{ℕ, false, List, leb}
use Rattle.answer.specs.Answer.{Outcome, done}
use Rattle.answer.specs.declared.Refusal.TheVariants.{NoSuchPlace}
use Rattle.answer.specs.Refusals.{refuse}
use Rattle.sizes.specs.declared.Sizes.{Sizes}
use Rattle.sizes.specs.Lengths.{place_number}
use Rattle.archive.specs.Layout.{stored}

-- refuses, after 3: 4
abbrev pub lose_for : (z : Sizes) (node : ℕ) → Outcome
lose_for z node = refuse (leb z.nodes node) NoSuchPlace done

-- the node's marks and records become zero
abbrev pub lost : (z : Sizes) (archive : List ℕ) (node : ℕ) → List ℕ
lost z archive node = stored z (λ j. false) (place_number z node 0) z.places (λ j e. 0) archive
