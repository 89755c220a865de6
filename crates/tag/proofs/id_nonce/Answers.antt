use Rattle.std.proofs.lemmas.List.{take_at, drop_at, append-nil}
use Rattle.tag.proofs.id_nonce.Goals as goal

pub returns : goal.returns
returns c =
    let head = c.copy_from_slice.ensures in
    rw (c.copy_from_slice-2.ensures.after, take_at c.copy_from_slice.new.self _ 4 head.len, drop_at c.copy_from_slice.new.self _ 4 head.len, append-nil, head.after)
