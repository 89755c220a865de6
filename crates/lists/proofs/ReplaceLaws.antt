-- The steps of a loop that puts v wherever a test holds and leaves the rest, in a list of any values, read as d past its end. Assumes nothing.
use Prim.Native.Nat.{ℕ, ◌+◌, ◌<◌, ◌≤◌}
use mathlib.Core.Path.{◌≡◌, refl, ap, ◌∙◌, sym}
use mathlib.Core.Bool.{Bool, true, false}
use mathlib.Core.List.{List}
use native.Mathlib.Omega.{arith}
use borrow.Author.Count.{below_more}
use lib.ListN.{length, set, get_or, length-set}
use lib.Seq.{get_or-set_same, get_or-set_other}
use Rattle.lists.specs.Lists.{pick}

module _ {A : Type 0} (d : A) (test : ℕ → Bool) (v : A) (start : List A) where
  abbrev replaced : ℕ → A
  replaced j = pick (test j) v (get_or start j d)

  -- at the first k indices
  pub record Replaced (k : ℕ) (out : List A) : Type 0 where
    pub size : length out ≡ length start
    pub done : (j : ℕ) → j < k → get_or out j d ≡ replaced j
    pub rest : (j : ℕ) → k ≤ j → get_or out j d ≡ get_or start j d

  pub replaced_none : Replaced 0 start
  replaced_none = record { size = refl; done = λ j l. absurd (omega arith); rest = λ j l. refl }

  -- one index more
  module _ {k : ℕ} {out : List A} (w : Replaced k out) where
    pub replaced_keep : test k ≡ false → Replaced (k + 1) out
    replaced_keep e =
        record {
          size = w.size;
          done =
              below_more (λ j. get_or out j d ≡ replaced j) k w.done (w.rest k (omega arith) ∙ sym (ap (λ (t : Bool). pick t v (get_or start k d)) e));
          rest = λ j l. w.rest j (omega arith);
        }

    pub replaced_put : test k ≡ true → k < length start → Replaced (k + 1) (set out k v)
    replaced_put e h =
        record {
          size = length-set out k v ∙ w.size;
          done =
              below_more (λ j. get_or (set out k v) j d ≡ replaced j) k
              (λ j l. get_or-set_other out k j v d (λ q. omega arith) ∙ w.done j l)
              (get_or-set_same out k v d (omega (arith, w.size)) ∙ sym (ap (λ (t : Bool). pick t v (get_or start k d)) e));
          rest = λ j l. get_or-set_other out k j v d (λ q. omega arith) ∙ w.rest j (omega arith);
        }
