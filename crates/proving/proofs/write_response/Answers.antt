use borrow.Author.Rules.{rules}
use mathlib.Core.Path.{◌≡◌, ap, sym, ◌∙◌}
use native.Mathlib.Omega.{arith}
use Rattle.sizes.proofs.SizeLaws.{not_sizes_outside}
use Rattle.sizes.specs.declared.Sizes.{Sizes}
use Rattle.lists.proofs.ArrayLaws.{array_is}
use Rattle.message.specs.Challenge.{Challenge}
use Rattle.message.proofs.ChallengeReadLaws.{read_ok, read_says}
use Rattle.archive.proofs.GoodArchiveLaws.{good_length}
use Rattle.archive.proofs.CallLaws.{read_sizes, read_length}
use Rattle.archive.proofs.ProveCheckLaws.{provable, proved_is}
use Rattle.proving.proofs.write_response.Goals as goal

pub sizes_in-z-requires : goal.sizes_in-z-requires
sizes_in-z-requires c =
    omega (arith, good_length _ (provable _ _ _ _ _ _ c.requires).good)

pub unwrap-challenge-requires : goal.unwrap-challenge-requires
unwrap-challenge-requires c =
    read_ok _ c.read.ensures (provable _ _ _ _ _ _ c.requires).formed

pub invariant_of-records : goal.invariant_of-records
invariant_of-records c =
    let P = provable _ _ _ _ _ _ c.requires in
    let read = c.sizes_in-z.ensures in
    record {
      ranges = not_sizes_outside _ (read_sizes _ read P.good);
      long = read_length _ read P.good;
      all_bytes = λ i l. (c.type_inv.archive i).fits;
    }

pub named_record-combined-requires : goal.named_record-combined-requires
named_record-combined-requires c =
    let P = provable _ _ _ _ _ _ c.requires in
    rw (c.sizes_in-z.ensures, ← (read_says _ c.read.ensures c.unwrap-challenge.ensures).1) P.there

pub unwrap-requires : goal.unwrap-requires
unwrap-requires c = c.try_from-2.ensures.0 (provable _ _ _ _ _ _ c.requires).key_length_lem

pub unwrap-seed-requires : goal.unwrap-seed-requires
unwrap-seed-requires c = c.try_from.ensures.0 (provable _ _ _ _ _ _ c.requires).seed_length_lem

pub id_in-requires : goal.id_in-requires
id_in-requires c =
    omega (arith, good_length _ (provable _ _ _ _ _ _ c.requires).good)

pub invariant_of-rows : goal.invariant_of-rows
invariant_of-rows c =
    let R = read_sizes _ c.sizes_in-z.ensures (provable _ _ _ _ _ _ c.requires).good in
    record { n_low = R.n_low; n_high = R.n_high }

pub write_parts-requires : goal.write_parts-requires
write_parts-requires c =
    let P = provable _ _ _ _ _ _ c.requires in
    let R = read_sizes _ c.sizes_in-z.ensures P.good in
    let n : c.sizes_in-z.result.n ≡ _ = ap (λ (x : Sizes). x.n) c.sizes_in-z.ensures in
    let tags : c.sizes_in-z.result.tags ≡ _ = ap (λ (x : Sizes). x.tags) c.sizes_in-z.ensures in (
      omega (arith, c.node-node.ensures.1),
      R.m_high,
      R.tags_high,
      search rules,
      rw (n, tags) P.elements_length,
      rw (n, tags) P.response_length_lem,
    )

pub returns : goal.returns
returns c =
    let says = (read_says _ c.read.ensures c.unwrap-challenge.ensures).1 in
    let key = array_is _ _ _ _ c.try_from-2.ensures.1 c.unwrap.ensures in
    let seed = array_is _ _ _ _ c.try_from.ensures.1 c.unwrap-seed.ensures in
    proved_is _ _ _ _ _ c.named_record-combined.result (provable _ _ _ _ _ _ c.requires).good c.sizes_in-z.ensures (c.node-node.ensures.0 ∙ ap (λ (m : Challenge). m.node) (sym says))
    key c.id_in.ensures (rw (← c.sizes_in-z.ensures, says) c.named_record-combined.ensures) (rw (← seed) c.write_parts.ensures)
