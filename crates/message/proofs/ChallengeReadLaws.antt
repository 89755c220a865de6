-- What a message that is a challenge tells the code that reads it. Assumes nothing.
use Prim.Native.Nat.{ℕ, ◌+◌, ◌*◌, ◌<◌, ◌≤◌}
use mathlib.Core.Path.{◌≡◌, refl, sym, subst, ◌∙◌}
use mathlib.Core.Bool.{Bool, true, false}
use mathlib.Core.List.{List}
use native.Mathlib.Omega.{arith}
use lib.ListN.{length}
use Rattle.lists.specs.Lists.{pick, at}
use Rattle.lists.proofs.TabLaws.{length_tab, tab_at}
use Rattle.lists.proofs.AnyLaws.{none_at}
use Rattle.answer.proofs.RefusalLaws.{same}
use Rattle.bits.specs.Fields.{field_at}
use Rattle.answer.specs.declared.Refusal.TheVariants.{Malformed}
use Rattle.answer.specs.declared.Refusal.{Refusal}
use Rattle.answer.specs.Answer.{Answer, Ok, Err}
use Rattle.std.specs.Result.{IsOk}
use Rattle.message.specs.Challenge.{Challenge, challenge_bits, challenge_length, challenge_in, challenge_of, malformed_for, malformed_challenge, challenge_read}
use Rattle.message.proofs.ChallengeLaws.{InRule, in_rule}

pub record Readable (c : Challenge) (message : List ℕ) : Type 0 where
  pub node_is : c.node ≡ field_at message 4 3
  pub node_low : c.node ≤ 5
  pub count_is : length c.places ≡ field_at message 7 4
  pub count_low : length c.places ≤ 8
  pub head_fits : 2 ≤ length message
  pub items_fit : challenge_bits (length c.places) ≤ 8 * length message
  pub place_is : (j : ℕ) → j < length c.places → at c.places j ≡ field_at message (challenge_bits j) 3
  pub coefficient_is : (j : ℕ) → j < length c.places → at c.coefficients j ≡ field_at message (challenge_bits j + 3) 8

pub readable : (message : List ℕ) → malformed_challenge message ≡ false → Readable (challenge_of message) message
unfolding malformed_for challenge_of challenge_in
readable message e =
    let count = field_at message 7 4 in
    let is : length (challenge_of message).places ≡ count = length_tab count _ in
    let rule : InRule (challenge_of message) = in_rule (challenge_of message) (none_at _ 1 e) in
    let exact = same (length message) (challenge_length (length (challenge_of message).places)) (none_at _ 2 e) in
    record {
      node_is = refl;
      node_low = rule.node_low;
      count_is = is;
      count_low = rule.few;
      head_fits = omega arith;
      items_fit = omega arith;
      place_is = λ j h. tab_at count _ j (omega arith);
      coefficient_is = λ j h. tab_at count _ j (omega arith);
    }

-- the same of the challenge that the message says
pub readable_as : {c : Challenge} (message : List ℕ) → challenge_of message ≡ c → malformed_challenge message ≡ false → Readable c message
readable_as message is e = subst (λ (c : Challenge). Readable c message) is (readable message e)

-- ---- what is read of a message

module _ (message : List ℕ) where
  pub read_refused : malformed_challenge message ≡ true → Err Malformed ≡ challenge_read message
  unfolding challenge_read
  read_refused e = rw e

  pub read_formed : malformed_challenge message ≡ false → Ok (challenge_of message) ≡ challenge_read message
  unfolding challenge_read
  read_formed e = rw e

  -- what an answer tells
  module _ {r : Answer Challenge} (read : r ≡ challenge_read message) where
    pub read_ok : malformed_challenge message ≡ false → IsOk r
    read_ok e = rw (read, ← read_formed e) refl

    pub read_says : {c : Challenge} → r ≡ Ok c → (malformed_challenge message ≡ false) × (challenge_of message ≡ c)
    unfolding challenge_read
    read_says {c} e = go (malformed_challenge message) (sym read ∙ e)
      where
        go : (b : Bool) → pick b (Err Malformed) (Ok (challenge_of message)) ≡ Ok c → (b ≡ false) × (challenge_of message ≡ c)
        go true q = let z : ◌≡◌ {A = ℕ} 0 1 = cc in absurd (omega arith)
        go false q = (refl, cc)

    pub read_errs : {e : Refusal} → r ≡ Err e → (malformed_challenge message ≡ true) × (e ≡ Malformed)
    unfolding challenge_read
    read_errs {e} was = go (malformed_challenge message) (sym read ∙ was)
      where
        go : (b : Bool) → pick b (Err Malformed) (Ok (challenge_of message)) ≡ Err e → (b ≡ true) × (e ≡ Malformed)
        go true q = (refl, cc)
        go false q = let z : ◌≡◌ {A = ℕ} 0 1 = cc in absurd (omega arith)
