use mathlib.Core.Path.{refl, sym, ◌∙◌}
use Rattle.lists.proofs.ArrayLaws.{array_is}
use Rattle.answer.proofs.RefusalLaws.{written, kept}
use Rattle.archive.specs.Calls.{archive_after}
use Rattle.coding.proofs.EncodeLaws.{encodable}
use Rattle.coding.proofs.encoding.encode.Goals as goal

pub unwrap-tag_key-requires : goal.unwrap-tag_key-requires
unwrap-tag_key-requires c = c.try_from.ensures.0 (encodable _ _ _ _ _ _ _ refl (sym c.encode_check.ensures ∙ c.in_ok-encode_check.was)).key_length_lem

pub fill_place-requires : goal.fill_place-requires
fill_place-requires c =
    let tag_key = array_is _ _ _ _ c.try_from.ensures.1 c.unwrap-tag_key.ensures in
    rw tag_key (sym c.encode_check.ensures ∙ c.in_ok-encode_check.was)

pub returns-clause-output : goal.returns-clause-output
unfolding archive_after
returns-clause-output c =
    let tag_key = array_is _ _ _ _ c.try_from.ensures.1 c.unwrap-tag_key.ensures in
    written _ c.encode_check.ensures c.in_ok-encode_check.was (rw (← tag_key) c.fill_place.ensures)

pub returns-in_err-encode_check-clause-output : goal.returns-in_err-encode_check-clause-output
unfolding archive_after
returns-in_err-encode_check-clause-output c = kept _ c.encode_check.ensures c.in_err-encode_check.was
