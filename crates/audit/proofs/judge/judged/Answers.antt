use mathlib.Core.Bool.{true, false}
use mathlib.Core.Path.{◌≡◌}
use mathlib.Core.List.{List}
use Prim.Native.Nat.{ℕ}
use native.Mathlib.Omega.{arith}
use Rattle.sizes.proofs.SizeLaws.{ranged}
use Rattle.lists.proofs.ArrayLaws.{array_is}
use Rattle.sizes.specs.declared.Sizes.{Sizes}
use Rattle.linear.specs.declared.rows.Row.{Row}
use Rattle.linear.specs.PrivateRows.{kept}
use Rattle.message.specs.Challenge.{Challenge, challenge_of}
use Rattle.message.proofs.ChallengeReadLaws.{read_ok, read_says}
use Rattle.audit.specs.Verdict.{named_row}
use Rattle.audit.proofs.JudgeLaws.{verdict_tells, verdict_unproved, verdict_judged}
use Rattle.audit.proofs.judge.judged.Goals as goal

pub unwrap-tag_key-requires : goal.unwrap-tag_key-requires
unwrap-tag_key-requires c = c.try_from.ensures.0 (verdict_tells _ _ _ _ _ _ c.requires).key_length_lem

pub unwrap-id-requires : goal.unwrap-id-requires
unwrap-id-requires c = c.try_from-2.ensures.0 (verdict_tells _ _ _ _ _ _ c.requires).id_length_lem

pub unwrap-challenge-requires : goal.unwrap-challenge-requires
unwrap-challenge-requires c = read_ok _ c.read.ensures (verdict_tells _ _ _ _ _ _ c.requires).formed

pub named_row-row-requires : goal.named_row-row-requires
named_row-row-requires c =
    let j = verdict_tells _ _ _ _ _ _ c.requires in
    (j.sized, rw (← (read_says _ c.read.ensures c.unwrap-challenge.ensures).1) j.there, j.rows_length)

pub all_zero-requires : goal.all_zero-requires
all_zero-requires c =
    let j = verdict_tells _ _ _ _ _ _ c.requires in
    omega (arith, (ranged _ j.sized).m_high)

-- the row that the message's challenge names
named : (z : Sizes) (rows message : List ℕ) {c : Challenge} {row : Row} → challenge_of message ≡ c → row ≡ kept z.m (named_row z rows c)
    → row ≡ kept z.m (named_row z rows (challenge_of message))
named z rows message says is = rw says is

pub returns-then-all_zero : goal.returns-then-all_zero
returns-then-all_zero c =
    let row = named _ _ _ (read_says _ c.read.ensures c.unwrap-challenge.ensures).1 c.named_row-row.ensures in
    verdict_unproved _ _ _ _ _ _ c.requires row c.all_zero.ensures c.if-all_zero.true

pub invariant_of-response : goal.invariant_of-response
invariant_of-response c =
    let j = verdict_tells _ _ _ _ _ _ c.requires in
    record { ranges = j.sized; long = j.response_length_lem }

pub returns-then-any_fails : goal.returns-then-any_fails
returns-then-any_fails c =
    let row = named _ _ _ (read_says _ c.read.ensures c.unwrap-challenge.ensures).1 c.named_row-row.ensures in
    let key = array_is _ _ _ _ c.try_from.ensures.1 c.unwrap-tag_key.ensures in
    let id = array_is _ _ _ _ c.try_from-2.ensures.1 c.unwrap-id.ensures in
    verdict_judged _ _ _ _ _ _ c.requires row c.all_zero.ensures c.if-all_zero.false true (rw (← key, ← id) c.any_fails.ensures) c.if-any_fails.true

pub returns-else-any_fails : goal.returns-else-any_fails
returns-else-any_fails c =
    let row = named _ _ _ (read_says _ c.read.ensures c.unwrap-challenge.ensures).1 c.named_row-row.ensures in
    let key = array_is _ _ _ _ c.try_from.ensures.1 c.unwrap-tag_key.ensures in
    let id = array_is _ _ _ _ c.try_from-2.ensures.1 c.unwrap-id.ensures in
    verdict_judged _ _ _ _ _ _ c.requires row c.all_zero.ensures c.if-all_zero.false false (rw (← key, ← id) c.any_fails.ensures) c.if-any_fails.false
