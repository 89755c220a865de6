use Rattle.std.proofs.Common.{◌≡◌, arith, rules}
use Rattle.keystream.specs.ChaCha.{quarters_to}
use Rattle.keystream.proofs.ChaChaLaws.{positions_low, quarter_more}
use Rattle.keystream.proofs.chacha.double_round.Goals as goal

pub loop-q-init : goal.loop-q-init
unfolding quarters_to
loop-q-init c = search rules

pub quarter_by-u-requires : goal.quarter_by-u-requires
quarter_by-u-requires c = positions_low _ c.requires c.loop-q-test.true

pub loop-q-preserved : goal.loop-q-preserved
loop-q-preserved c = quarter_more _ _ c.requires c.loop-q.invariant c.quarter_by-u.ensures

pub returns : goal.returns
returns c = let e : c.loop-q.q-index ≡ 8 = omega arith in cc
