use mathlib.Core.Path.{sym, ap, ◌∙◌}
use native.Mathlib.Omega.{arith}
use Rattle.sizes.proofs.SizeLaws.{response_sizes, not_sizes_outside}
use Rattle.answer.proofs.RefusalLaws.{refused, passed, listed}
use Rattle.std.proofs.lemmas.Result.{err_from_is_err_and}
use Rattle.answer.specs.Answer.{Err}
use Rattle.message.proofs.ChallengeReadLaws.{read_says, read_errs}
use Rattle.archive.specs.Prove.{prove_for, prove_answer}
use Rattle.archive.proofs.GoodArchiveLaws.{good_length}
use Rattle.archive.proofs.CallLaws.{read_sizes, read_length}
use Rattle.proving.proofs.prove_check.Goals as goal

pub returns-then-bad_archive : goal.returns-then-bad_archive
unfolding prove_answer
returns-then-bad_archive c = sym (refused _ _ (cc))

pub returns-in_err-challenge : goal.returns-in_err-challenge
unfolding prove_answer
returns-in_err-challenge c =
    let w = err_from_is_err_and _ c.from_residual.ensures.1 in
    let m = read_errs _ c.read.ensures c.in_err-challenge.was in
    w.1 ∙ ap Err (w.2 ∙ m.1) ∙ sym (passed _ _ (cc) ∙ refused _ _ m.0)

pub sizes_in-z-requires : goal.sizes_in-z-requires
sizes_in-z-requires c =
    omega (arith, good_length _ (sym c.bad_archive.ensures ∙ c.if-bad_archive.false))

pub auxiliary_length-requires : goal.auxiliary_length-requires
auxiliary_length-requires c = response_sizes _ (not_sizes_outside _ (read_sizes _ c.sizes_in-z.ensures (cc)))

pub response_length-requires : goal.response_length-requires
response_length-requires c = response_sizes _ (not_sizes_outside _ (read_sizes _ c.sizes_in-z.ensures (cc)))

pub returns-then-mask_key-auxiliary : goal.returns-then-mask_key-auxiliary
unfolding prove_answer prove_for
returns-then-mask_key-auxiliary c =
    let m = read_says _ c.read.ensures c.in_ok-challenge.was in
    sym (passed _ _ (cc) ∙ passed _ _ m.0 ∙ refused _ _ (listed _ _ (cc)))

pub returns-then-not_there : goal.returns-then-not_there
unfolding prove_answer prove_for
returns-then-not_there c =
    let m = read_says _ c.read.ensures c.in_ok-challenge.was in
    sym (
    passed _ _ (cc) ∙ passed _ _ m.0 ∙ passed _ _ (listed _ _ (cc))
    ∙ refused _ _ (rw (← c.sizes_in-z.ensures, m.1) (sym c.not_there.ensures ∙ c.if-not_there.true)))

pub invariant_of-records : goal.invariant_of-records
invariant_of-records c =
    let read = c.sizes_in-z.ensures in
    let good = sym c.bad_archive.ensures ∙ c.if-bad_archive.false in
    record {
      ranges = not_sizes_outside _ (read_sizes _ read good);
      long = read_length _ read good;
      all_bytes = λ i l. (c.type_inv.archive i).fits;
    }

pub any_named_empty-requires : goal.any_named_empty-requires
any_named_empty-requires c = sym c.not_there.ensures ∙ c.if-not_there.false

pub returns-then-any_named_empty : goal.returns-then-any_named_empty
unfolding prove_answer prove_for
returns-then-any_named_empty c =
    let m = read_says _ c.read.ensures c.in_ok-challenge.was in
    sym (
    passed _ _ (cc) ∙ passed _ _ m.0 ∙ passed _ _ (listed _ _ (cc))
    ∙ passed _ _ (rw (← c.sizes_in-z.ensures, m.1) (sym c.not_there.ensures ∙ c.if-not_there.false))
    ∙ refused _ _ (rw (← c.sizes_in-z.ensures, m.1) (sym c.any_named_empty.ensures ∙ c.if-any_named_empty.true)))

pub returns : goal.returns
unfolding prove_answer prove_for
returns c =
    let m = read_says _ c.read.ensures c.in_ok-challenge.was in
    sym (
    passed _ _ (cc) ∙ passed _ _ m.0 ∙ passed _ _ (listed _ _ (cc))
    ∙ passed _ _ (rw (← c.sizes_in-z.ensures, m.1) (sym c.not_there.ensures ∙ c.if-not_there.false))
    ∙ passed _ _ (rw (← c.sizes_in-z.ensures, m.1) (sym c.any_named_empty.ensures ∙ c.if-any_named_empty.false)))
